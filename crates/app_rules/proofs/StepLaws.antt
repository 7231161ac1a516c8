-- What the steps of an application server's ends leave as it was, and how far they are determined.
use Rattle.std.proofs.Common.{◌≡◌, ◌≢◌, ℕ, Bool, true, false, List, [], ◌∷◌, refl, sym, subst, ◌∙◌, length, Result, Ok, Err, inl, inr}
use Rattle.std.specs.List.{range_with_len}
use Rattle.ecp_messages.specs.declared.down.Down.{Down}
use Rattle.ecp_messages.specs.declared.down.Down.TheVariants.{Welcome, Reset, Block, Drop, Ack, Grant, Answer, Normal, Bare}
use Rattle.ecp_messages.specs.declared.down.DownFrame.{DownFrame}
use Rattle.ecp_messages.specs.declared.front.Front.{Front}
use Rattle.link_window.specs.declared.window.Taken.{Taken}
use Rattle.link_window.specs.declared.window.Taken.TheVariants.{Fresh, Repeat}
use Rattle.link_window.specs.declared.window.WindowError.{WindowError}
use Rattle.end_words.specs.Windows.{answers, resent}
use Rattle.app_rules.specs.declared.app_in.AppIn.TheVariants.{Frame, Connected, NoWay, Broken, Join, Tick}
use Rattle.app_rules.specs.AppState.{AppState}
use Rattle.app_rules.specs.Works.{Sofar, begun, end_at, session_at, body_of, synced_up}
use Rattle.app_rules.specs.Losing.{ticks, ticks_from}
use Rattle.app_rules.specs.Welcoming.{TakesWelcome, told_puts}
use Rattle.app_rules.specs.Downs.{Delivers, TakesNumbered, TakesHeaded, TakesAck, TakesBare, TakesFrame, joined}
use Rattle.app_rules.specs.Laws.{IsSameApp, StepsAtOneEnd}
use Rattle.app_rules.proofs.OneEnd.{IsOne, one_same, one_then, one_end, one_puts_all, one_sends_again, one_ends_it, one_broken, one_joins, one_ticks_from, one_connected, one_failed, one_settles, one_goes_normal, one_settled}

is_one : (b c x : Sofar) (d : ℕ) → c ≡ x → IsOne b.state x.state d → IsOne b.state c.state d
is_one b c x d e o = subst (λ s. IsOne b.state s.state d) (sym e) o

welcome_one : (b : Sofar) (d now session epoch kept : ℕ) (front : Front) (taken : ℕ) (c : Sofar) → TakesWelcome b d now session epoch kept front taken c → IsOne b.state c.state d
welcome_one b d now session epoch kept front taken c (inl h) = is_one b c _ d h.after (one_then (one_end d _ b.state) (one_end d _ _))
welcome_one b d now session epoch kept front taken c (inr (inl h)) =
    is_one b c _ d h.after
    (one_then (one_end d _ b.state) (one_then (one_end d _ _) (one_then (one_sends_again d (resent (session_at b.state d).window taken) _) (one_settles (session_at b.state d).normal_due d now _))))
welcome_one b d now session epoch kept front taken c (inr (inr (inl h))) =
    is_one b c _ d h.after (one_then (one_end d _ b.state) (one_then (one_end d _ _) (one_puts_all d (told_puts front.w (synced_up front.s (session_at b.state d))) _)))
welcome_one b d now session epoch kept front taken c (inr (inr (inr h))) = is_one b c _ d h.after (one_ends_it d now b)

delivers_one : (m : Down) (d now : ℕ) (b c : Sofar) → Delivers m d now b c → IsOne b.state c.state d
delivers_one (Welcome session epoch kept front taken) d now b c h = absurd h
delivers_one (Reset session at) d now b c h = absurd h
delivers_one (Block front block) d now b c h = is_one b c _ d h.after (one_end d _ b.state)
delivers_one (Drop front lo hi) d now b c h = is_one b c _ d h (one_end d _ b.state)
delivers_one (Ack front) d now b c h = is_one b c b d h (one_same b.state d)
delivers_one (Grant front ticket at) d now b c h = is_one b c _ d h (one_end d _ b.state)
delivers_one (Answer front about job number at sum) d now b c h = is_one b c _ d h (one_end d _ b.state)
delivers_one (Normal front) d now b c h = is_one b c _ d h (one_goes_normal d now b)
delivers_one Bare d now b c h = absurd h

numbered_one : (r : Result Taken WindowError) (b : Sofar) (d now : ℕ) (frame : DownFrame) (f : Front) (c : Sofar) → TakesNumbered r b d now frame f c → IsOne b.state c.state d
numbered_one (Ok Fresh) b d now frame f c (inl h) = one_then (one_end d _ b.state) (delivers_one frame.message d now _ c h.made)
numbered_one (Ok Fresh) b d now frame f c (inr h) = is_one b c _ d h.after (one_ends_it d now b)
numbered_one (Ok Repeat) b d now frame f c h = is_one b c _ d h (one_end d _ b.state)
numbered_one (Err why) b d now frame f c h = is_one b c _ d h (one_ends_it d now b)

headed_one : (t : Bool) (b : Sofar) (d now : ℕ) (frame : DownFrame) (f : Front) (c : Sofar) → TakesHeaded t b d now frame f c → IsOne b.state c.state d
headed_one true b d now frame f c h = numbered_one (answers body_of (session_at b.state d).window frame.seq frame.ack) b d now frame f c h
headed_one false b d now frame f c h = is_one b c _ d h (one_ends_it d now b)

ack_one : (r : Result Taken WindowError) (b : Sofar) (d now ack : ℕ) (c : Sofar) → TakesAck r b d now ack c → IsOne b.state c.state d
ack_one (Ok answer) b d now ack c h = is_one b c _ d h (one_end d _ b.state)
ack_one (Err why) b d now ack c h = is_one b c _ d h (one_ends_it d now b)

bare_one : (t : Bool) (b : Sofar) (d now ack : ℕ) (c : Sofar) → TakesBare t b d now ack c → IsOne b.state c.state d
bare_one true b d now ack c h = ack_one (answers body_of (session_at b.state d).window 0 ack) b d now ack c h
bare_one false b d now ack c h = is_one b c b d h (one_same b.state d)

frame_one : (m : Down) (b : Sofar) (d now : ℕ) (frame : DownFrame) (c : Sofar) → TakesFrame m b d now frame c → IsOne b.state c.state d
frame_one (Welcome session epoch kept front taken) b d now frame c h = welcome_one b d now session epoch kept front taken c h
frame_one (Reset session at) b d now frame c (inl h) = is_one b c _ d h.after (one_end d _ b.state)
frame_one (Reset session at) b d now frame c (inr h) = is_one b c _ d h.after (one_ends_it d now b)
frame_one (Block front block) b d now frame c h = headed_one (joined b d) b d now frame front c h
frame_one (Drop front lo hi) b d now frame c h = headed_one (joined b d) b d now frame front c h
frame_one (Ack front) b d now frame c h = headed_one (joined b d) b d now frame front c h
frame_one (Grant front ticket at) b d now frame c h = headed_one (joined b d) b d now frame front c h
frame_one (Answer front about job number at sum) b d now frame c h = headed_one (joined b d) b d now frame front c h
frame_one (Normal front) b d now frame c h = headed_one (joined b d) b d now frame front c h
frame_one Bare b d now frame c h = bare_one (joined b d) b d now frame.ack c h

same_then : {a b c : AppState} → IsSameApp a b → IsSameApp b c → IsSameApp a c
same_then x y = record { app = y.app ∙ x.app; times = y.times ∙ x.times; ends = y.ends ∙ x.ends }

ticks_same : (ds : List ℕ) (now : ℕ) (b : Sofar) → IsSameApp b.state (ticks ds now b).state
ticks_same [] now b = record { app = refl; times = refl; ends = refl }
ticks_same (d ∷ ds) now b =
    same_then (one_ticks_from (end_at b.state d).link d now b).same (ticks_same ds now (ticks_from (end_at b.state d).link d now b))

both : {a b : AppState} {d : ℕ} → IsOne a b d → IsSameApp a b × ((e : ℕ) → e ≢ d → end_at b e ≡ end_at a e)
both o = (o.same, o.others)

pub steps_at_one_end : StepsAtOneEnd
steps_at_one_end old new now (Frame d down) outs h =
    both (is_one (begun old) (record { state = new; outs = outs }) _ d h.after (one_then (frame_one down.message (begun old) d now down h.taken h.takes) (one_settled d h.taken)))
steps_at_one_end old new now (Connected d) outs h = both (is_one (begun old) (record { state = new; outs = outs }) _ d h (one_connected d now (begun old)))
steps_at_one_end old new now (NoWay d before after) outs h = both (is_one (begun old) (record { state = new; outs = outs }) _ d h (one_failed d before after now (begun old)))
steps_at_one_end old new now (Broken d) outs h = both (is_one (begun old) (record { state = new; outs = outs }) _ d h (one_broken d now (begun old)))
steps_at_one_end old new now (Join d) outs h = both (is_one (begun old) (record { state = new; outs = outs }) _ d h (one_joins (end_at old d).link d (begun old)))
steps_at_one_end old new now Tick outs h =
    (subst (λ s. IsSameApp old s.state) (sym h) (ticks_same (range_with_len 0 (length old.ends)) now (begun old)), tt)
