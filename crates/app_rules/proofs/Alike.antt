-- The state, the moment and the input decide what a step puts, writes and leaves.
use Rattle.std.proofs.Common.{◌≡◌, ◌⊎◌, ◌<◌, ℕ, Bool, true, false, sym, ap, ◌∙◌, Result, Ok, Err, inl, inr, arith}
use Rattle.std.specs.Prelude.{nat_le}
use Rattle.std.proofs.lemmas.Bool.{le-leb}
use Rattle.ecp_messages.specs.declared.down.Down.{Down}
use Rattle.ecp_messages.specs.declared.down.Down.TheVariants.{Welcome, Reset, Block, Drop, Ack, Grant, Answer, Normal, Bare}
use Rattle.ecp_messages.specs.declared.down.DownFrame.{DownFrame}
use Rattle.ecp_messages.specs.declared.front.Front.{Front}
use Rattle.block_bytes.proofs.OneRun.{one_run}
use Rattle.link_window.specs.declared.window.Taken.{Taken}
use Rattle.link_window.specs.declared.window.Taken.TheVariants.{Fresh, Repeat}
use Rattle.link_window.specs.declared.window.WindowError.{WindowError}
use Rattle.end_words.specs.Windows.{answers}
use Rattle.app_rules.specs.declared.app_in.AppIn.TheVariants.{Frame, Connected, NoWay, Broken, Join, Tick}
use Rattle.app_rules.specs.declared.app_outs.AppOuts.{AppOuts}
use Rattle.app_rules.specs.declared.line.Line.TheVariants.{Greeting, Asking}
use Rattle.app_rules.specs.AppState.{AppState}
use Rattle.app_rules.specs.Works.{Sofar, begun, sets, end_at, session_at, body_of}
use Rattle.app_rules.specs.Delivering.{with_run}
use Rattle.app_rules.specs.Welcoming.{TakesWelcome, Meets, GoesOn, LearnsEpoch, EndsWelcome}
use Rattle.app_rules.specs.Downs.{Delivers, HasNoRun, TakesNumbered, TakesFresh, EndsFresh, TakesHeaded, TakesAck, TakesBare, TakesFrame, settled, joined, falls}
use Rattle.app_rules.specs.AppStep.{made}
use Rattle.app_rules.specs.Laws.{StepsAlike}

as_one : {b c x : Sofar} → b ≡ x → c ≡ x → c ≡ b
as_one e f = f ∙ sym e

greets_or_asks : (b : Sofar) (d : ℕ) → (end_at b.state d).line ≡ Greeting → (end_at b.state d).line ≡ Asking → ⊥
greets_or_asks b d g a = absurd (cc (g, a))

same_or_later : (a b : ℕ) → a ≡ b → a < b → ⊥
same_or_later a b e l = absurd (omega (arith, e, l))

low : (a b : ℕ) → a < b → nat_le a b ≡ true
low a b l = le-leb a b (omega (arith, l))

equal : (a b : ℕ) → a ≡ b → nat_le a b ≡ true
equal a b e = le-leb a b (omega (arith, e))

no_going_on : {b : Sofar} {d now session epoch : ℕ} {front : Front} {taken : ℕ} {c e : Sofar} → GoesOn b d now session epoch front taken c → EndsWelcome b d now session epoch front e → ⊥
no_going_on {b} {d} {now} {session} {epoch} x y = y.stray.no_old x.asked (equal (session_at b.state d).epoch epoch x.same)

no_learning : {b : Sofar} {d now session epoch kept : ℕ} {front : Front} {c e : Sofar} → LearnsEpoch b d session epoch kept front c → EndsWelcome b d now session epoch front e → ⊥
no_learning {b} {d} {now} {session} {epoch} x y = y.stray.no_old x.asked (low (session_at b.state d).epoch epoch x.later)

no_meeting : {b : Sofar} {d now session epoch : ℕ} {front : Front} {c e : Sofar} → Meets b d now session epoch front c → EndsWelcome b d now session epoch front e → ⊥
no_meeting x y = y.stray.no_new x.greeting x.above x.below

welcome_alike : (b : Sofar) (d now session epoch kept : ℕ) (front : Front) (taken : ℕ) (c e : Sofar)
    → TakesWelcome b d now session epoch kept front taken c → TakesWelcome b d now session epoch kept front taken e → e ≡ c
welcome_alike b d now session epoch kept front taken c e (inl x) (inl y) = as_one x.after y.after
welcome_alike b d now session epoch kept front taken c e (inl x) (inr (inl y)) = absurd (greets_or_asks b d x.greeting y.asked.asking)
welcome_alike b d now session epoch kept front taken c e (inl x) (inr (inr (inl y))) = absurd (greets_or_asks b d x.greeting y.asked.asking)
welcome_alike b d now session epoch kept front taken c e (inl x) (inr (inr (inr y))) = absurd (no_meeting x y)
welcome_alike b d now session epoch kept front taken c e (inr (inl x)) (inl y) = absurd (greets_or_asks b d y.greeting x.asked.asking)
welcome_alike b d now session epoch kept front taken c e (inr (inl x)) (inr (inl y)) = as_one x.after y.after
welcome_alike b d now session epoch kept front taken c e (inr (inl x)) (inr (inr (inl y))) = absurd (same_or_later _ _ x.same y.later)
welcome_alike b d now session epoch kept front taken c e (inr (inl x)) (inr (inr (inr y))) = absurd (no_going_on x y)
welcome_alike b d now session epoch kept front taken c e (inr (inr (inl x))) (inl y) = absurd (greets_or_asks b d y.greeting x.asked.asking)
welcome_alike b d now session epoch kept front taken c e (inr (inr (inl x))) (inr (inl y)) = absurd (same_or_later _ _ y.same x.later)
welcome_alike b d now session epoch kept front taken c e (inr (inr (inl x))) (inr (inr (inl y))) = as_one x.after y.after
welcome_alike b d now session epoch kept front taken c e (inr (inr (inl x))) (inr (inr (inr y))) = absurd (no_learning x y)
welcome_alike b d now session epoch kept front taken c e (inr (inr (inr x))) (inl y) = absurd (no_meeting y x)
welcome_alike b d now session epoch kept front taken c e (inr (inr (inr x))) (inr (inl y)) = absurd (no_going_on y x)
welcome_alike b d now session epoch kept front taken c e (inr (inr (inr x))) (inr (inr (inl y))) = absurd (no_learning y x)
welcome_alike b d now session epoch kept front taken c e (inr (inr (inr x))) (inr (inr (inr y))) = as_one x.after y.after

delivers_alike : (m : Down) (d now : ℕ) (b c e : Sofar) → Delivers m d now b c → Delivers m d now b e → e ≡ c
delivers_alike (Welcome session epoch kept front taken) d now b c e x y = absurd x
delivers_alike (Reset session at) d now b c e x y = absurd x
delivers_alike (Block front block) d now b c e x y =
    as_one x.after (y.after ∙ ap (λ r. sets d (with_run r) b) (one_run y.run x.run block y.its x.its))
delivers_alike (Drop front lo hi) d now b c e x y = as_one x y
delivers_alike (Ack front) d now b c e x y = as_one x y
delivers_alike (Grant front ticket at) d now b c e x y = as_one x y
delivers_alike (Answer front about job number at sum) d now b c e x y = as_one x y
delivers_alike (Normal front) d now b c e x y = as_one x y
delivers_alike Bare d now b c e x y = absurd x

no_delivery : (m : Down) (d now : ℕ) (b c : Sofar) → Delivers m d now b c → HasNoRun m → ⊥
no_delivery (Welcome session epoch kept front taken) d now b c x n = n
no_delivery (Reset session at) d now b c x n = n
no_delivery (Block front block) d now b c x n = n.none x.run x.its
no_delivery (Drop front lo hi) d now b c x n = n
no_delivery (Ack front) d now b c x n = n
no_delivery (Grant front ticket at) d now b c x n = n
no_delivery (Answer front about job number at sum) d now b c x n = n
no_delivery (Normal front) d now b c x n = n
no_delivery Bare d now b c x n = n

fresh_or_ends : (b : Sofar) (d now seq ack : ℕ) (m : Down) (f : Front) (c e : Sofar) → TakesFresh b d now seq ack m f c → EndsFresh b d now m f e → ⊥
fresh_or_ends b d now seq ack m f c e x y = by y.why
  where
    by : (falls (session_at b.state d) f ≡ true) ⊎ HasNoRun m → ⊥
    by (inl t) = absurd (cc (x.ahead, t))
    by (inr n) = no_delivery m d now _ c x.made n

numbered_alike : (r : Result Taken WindowError) (b : Sofar) (d now : ℕ) (frame : DownFrame) (f : Front) (c e : Sofar)
    → TakesNumbered r b d now frame f c → TakesNumbered r b d now frame f e → e ≡ c
numbered_alike (Ok Fresh) b d now frame f c e (inl x) (inl y) = delivers_alike frame.message d now _ c e x.made y.made
numbered_alike (Ok Fresh) b d now frame f c e (inl x) (inr y) = absurd (fresh_or_ends b d now frame.seq frame.ack frame.message f c e x y)
numbered_alike (Ok Fresh) b d now frame f c e (inr x) (inl y) = absurd (fresh_or_ends b d now frame.seq frame.ack frame.message f e c y x)
numbered_alike (Ok Fresh) b d now frame f c e (inr x) (inr y) = as_one x.after y.after
numbered_alike (Ok Repeat) b d now frame f c e x y = as_one x y
numbered_alike (Err why) b d now frame f c e x y = as_one x y

headed_alike : (t : Bool) (b : Sofar) (d now : ℕ) (frame : DownFrame) (f : Front) (c e : Sofar)
    → TakesHeaded t b d now frame f c → TakesHeaded t b d now frame f e → e ≡ c
headed_alike true b d now frame f c e x y = numbered_alike (answers body_of (session_at b.state d).window frame.seq frame.ack) b d now frame f c e x y
headed_alike false b d now frame f c e x y = as_one x y

ack_alike : (r : Result Taken WindowError) (b : Sofar) (d now ack : ℕ) (c e : Sofar) → TakesAck r b d now ack c → TakesAck r b d now ack e → e ≡ c
ack_alike (Ok answer) b d now ack c e x y = as_one x y
ack_alike (Err why) b d now ack c e x y = as_one x y

bare_alike : (t : Bool) (b : Sofar) (d now ack : ℕ) (c e : Sofar) → TakesBare t b d now ack c → TakesBare t b d now ack e → e ≡ c
bare_alike true b d now ack c e x y = ack_alike (answers body_of (session_at b.state d).window 0 ack) b d now ack c e x y
bare_alike false b d now ack c e x y = as_one x y

pub frame_alike : (m : Down) (b : Sofar) (d now : ℕ) (frame : DownFrame) (c e : Sofar) → TakesFrame m b d now frame c → TakesFrame m b d now frame e → e ≡ c
frame_alike (Welcome session epoch kept front taken) b d now frame c e x y = welcome_alike b d now session epoch kept front taken c e x y
frame_alike (Reset session at) b d now frame c e (inl x) (inl y) = as_one x.after y.after
frame_alike (Reset session at) b d now frame c e (inl x) (inr y) = absurd (y.stray x.recovering x.its)
frame_alike (Reset session at) b d now frame c e (inr x) (inl y) = absurd (x.stray y.recovering y.its)
frame_alike (Reset session at) b d now frame c e (inr x) (inr y) = as_one x.after y.after
frame_alike (Block front block) b d now frame c e x y = headed_alike (joined b d) b d now frame front c e x y
frame_alike (Drop front lo hi) b d now frame c e x y = headed_alike (joined b d) b d now frame front c e x y
frame_alike (Ack front) b d now frame c e x y = headed_alike (joined b d) b d now frame front c e x y
frame_alike (Grant front ticket at) b d now frame c e x y = headed_alike (joined b d) b d now frame front c e x y
frame_alike (Answer front about job number at sum) b d now frame c e x y = headed_alike (joined b d) b d now frame front c e x y
frame_alike (Normal front) b d now frame c e x y = headed_alike (joined b d) b d now frame front c e x y
frame_alike Bare b d now frame c e x y = bare_alike (joined b d) b d now frame.ack c e x y

parts : (a b : AppState) (p q : AppOuts) → made b q ≡ made a p → (b ≡ a) × (q ≡ p)
parts a b p q e = (ap (λ s. s.state) e, ap (λ s. s.outs) e)

pub steps_alike : StepsAlike
steps_alike old new other now (Frame d down) outs other_outs x y =
    parts new other outs other_outs
    (as_one x.after (y.after ∙ ap (settled d) (frame_alike down.message (begun old) d now down x.taken y.taken x.takes y.takes)))
steps_alike old new other now (Connected d) outs other_outs x y = parts new other outs other_outs (as_one x y)
steps_alike old new other now (NoWay d before after) outs other_outs x y = parts new other outs other_outs (as_one x y)
steps_alike old new other now (Broken d) outs other_outs x y = parts new other outs other_outs (as_one x y)
steps_alike old new other now (Join d) outs other_outs x y = parts new other outs other_outs (as_one x y)
steps_alike old new other now Tick outs other_outs x y = parts new other outs other_outs (as_one x y)
