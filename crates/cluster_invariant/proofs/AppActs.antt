-- What a step of an application server's ends writes leaves all orders.
use Rattle.std.proofs.Common.{◌≡◌, inl, inr, ℕ, Bool, true, false, List, [], ◌∷◌, ◌++◌, length, refl, sym, ◌∙◌, ap, subst}
use Rattle.std.proofs.lemmas.List.{append-nil, append_assoc}
use Rattle.std.specs.Prelude.{Result, Ok, Err, nat_le}
use Rattle.std.specs.List.{AllByRecursion, range_with_len}
use Rattle.plain_orders.specs.declared.act.Act.{Act}
use Rattle.plain_orders.specs.declared.act.Act.TheVariants as act
use Rattle.plain_orders.specs.declared.causes.Loss.TheVariants as losses
use Rattle.plain_orders.specs.declared.causes.PairEnd.TheVariants as ends
use Rattle.plain_orders.specs.Times.{until}
use Rattle.link_states.specs.declared.app_link.AppLink.{AppLink}
use Rattle.link_states.specs.declared.app_link.AppLink.TheVariants.{NotConnected, Normal as NormalLink, Trouble, Recovery}
use Rattle.link_states.specs.declared.link_event.LinkEvent.TheVariants.{Settled}
use Rattle.link_window.specs.declared.window.Taken.{Taken}
use Rattle.link_window.specs.declared.window.Taken.TheVariants.{Fresh, Repeat}
use Rattle.link_window.specs.declared.window.WindowError.{WindowError}
use Rattle.ecp_messages.specs.declared.up.Up.{Up}
use Rattle.ecp_messages.specs.declared.down.Down.{Down}
use Rattle.ecp_messages.specs.declared.down.Down.TheVariants.{Welcome, Reset, Block, Drop, Ack, Grant, Answer, Normal, Bare}
use Rattle.ecp_messages.specs.declared.down.DownFrame.{DownFrame}
use Rattle.ecp_messages.specs.declared.front.Front.{Front}
use Rattle.end_words.specs.Windows.{answers, owes_bare, resent}
use Rattle.app_rules.specs.declared.app_in.AppIn.{AppIn}
use Rattle.app_rules.specs.declared.app_in.AppIn.TheVariants as app_in
use Rattle.app_rules.specs.declared.line.Line.{Line}
use Rattle.app_rules.specs.declared.line.Line.TheVariants.{Apart, Trying, Greeting, Asking, Joined}
use Rattle.app_rules.specs.AppStep.{Makes}
use Rattle.app_rules.specs.Works.{Sofar, becomes, writes, cuts, puts, puts_all, tells, tells_if, tries, tries_if, sets, happens, end_at, session_at, is_joined, is_apart, body_of, with_line, synced_up}
use Rattle.app_rules.specs.Losing.{broken_from, broken, ends_it, expires, tries_when, ticks_trouble, ticks_from, ticks, joins_from, recovers, greets, connected_from, connected, with_dial, no_way, failed_from, failed}
use Rattle.app_rules.specs.Welcoming.{sends_again, settles_unless, told_puts, in_epoch, TakesWelcome}
use Rattle.app_rules.specs.Downs.{Delivers, took, TakesNumbered, TakesHeaded, TakesAck, TakesBare, joined, TakesFrame, bares_if, bares_joined, settled}
use Rattle.app_rules.specs.Delivering.{to_put_again, with_all_put}
use Rattle.cluster_invariant.proofs.OrderBeside.{leaves_orders}

-- what is written leaves all orders
pub record Leaves (b c : Sofar) : Type 0 where
  pub more : List Act
  pub leaves : AllByRecursion (λ a. leaves_orders a ≡ true) more
  pub acts : c.outs.acts ≡ b.outs.acts ++ more

pub leaves_none : (b c : Sofar) → c.outs.acts ≡ b.outs.acts → Leaves b c
leaves_none b c acts = record { more = []; leaves = tt; acts = acts ∙ sym (append-nil b.outs.acts) }

pub leaves_one : (b c : Sofar) (a : Act) → leaves_orders a ≡ true → c.outs.acts ≡ b.outs.acts ++ a ∷ [] → Leaves b c
leaves_one b c a may acts = record { more = a ∷ []; leaves = (may, tt); acts = acts }

both_leave : (xs ys : List Act) → AllByRecursion (λ a. leaves_orders a ≡ true) xs → AllByRecursion (λ a. leaves_orders a ≡ true) ys → AllByRecursion (λ a. leaves_orders a ≡ true) (xs ++ ys)
both_leave [] ys a b = b
both_leave (x ∷ xs) ys a b = (a.0, both_leave xs ys a.1 b)

pub leaves_then : (b c e : Sofar) → Leaves b c → Leaves c e → Leaves b e
leaves_then b c e s t = record {
  more = s.more ++ t.more;
  leaves = both_leave s.more t.more s.leaves t.leaves;
  acts = t.acts ∙ ap (λ (xs : List Act). xs ++ t.more) s.acts ∙ append_assoc b.outs.acts s.more t.more;
}

pub leaves_after : (b c d : Sofar) → c ≡ d → Leaves b d → Leaves b c
leaves_after b c d after leaves = subst (λ (x : Sofar). Leaves b x) (sym after) leaves

-- putting

tells_if_acts : (is_there : Bool) (d n : ℕ) (m : Up) (b : Sofar) → (tells_if is_there d n m b).outs.acts ≡ b.outs.acts
tells_if_acts true d n m b = refl
tells_if_acts false d n m b = refl

pub puts_acts : (d : ℕ) (m : Up) (b : Sofar) → (puts d m b).outs.acts ≡ b.outs.acts
puts_acts d m b = tells_if_acts (is_joined (end_at b.state d).line) d _ m _

pub puts_all_acts : (d : ℕ) (ms : List Up) (b : Sofar) → (puts_all d ms b).outs.acts ≡ b.outs.acts
puts_all_acts d [] b = refl
puts_all_acts d (m ∷ ms) b = puts_all_acts d ms (puts d m b) ∙ puts_acts d m b

sends_acts : (d : ℕ) (ms : List (ℕ × Up)) (b : Sofar) → (sends_again d ms b).outs.acts ≡ b.outs.acts
sends_acts d [] b = refl
sends_acts d (m ∷ ms) b = sends_acts d ms (tells d m.0 m.1 b)

tries_if_acts : (apart : Bool) (d : ℕ) (b : Sofar) → (tries_if apart d b).outs.acts ≡ b.outs.acts
tries_if_acts true d b = refl
tries_if_acts false d b = refl

pub tries_acts : (d : ℕ) (b : Sofar) → (tries d b).outs.acts ≡ b.outs.acts
tries_acts d b = tries_if_acts (is_apart (end_at b.state d).line) d b

-- breaks and losses

broken_from_leaves : (x : Line) (d now : ℕ) (b : Sofar) → Leaves b (broken_from x d now b)
broken_from_leaves Apart d now b = leaves_none b b refl
broken_from_leaves Trying d now b = leaves_none b b refl
broken_from_leaves Greeting d now b = leaves_none b (broken_from Greeting d now b) refl
broken_from_leaves Asking d now b = leaves_one b (broken_from Asking d now b) (act.Broke b.state.app d ends.App now) refl refl
broken_from_leaves Joined d now b = leaves_one b (broken_from Joined d now b) (act.Broke b.state.app d ends.App now) refl refl

broken_leaves : (d now : ℕ) (b : Sofar) → Leaves b (broken d now b)
broken_leaves d now b = broken_from_leaves (end_at b.state d).line d now b

ends_leaves : (d now : ℕ) (b : Sofar) → Leaves b (ends_it d now b)
ends_leaves d now b = leaves_then b (cuts d b) (ends_it d now b) (leaves_none b (cuts d b) refl) (broken_leaves d now (cuts d b))

tries_when_leaves : (time : Bool) (d : ℕ) (b : Sofar) → Leaves b (tries_when time d b)
tries_when_leaves true d b = leaves_none b (tries d b) (tries_acts d b)
tries_when_leaves false d b = leaves_none b b refl

trouble_leaves : (over : Bool) (d broke try_at now : ℕ) (b : Sofar) → Leaves b (ticks_trouble over d broke try_at now b)
trouble_leaves true d broke try_at now b = leaves_one b (expires d broke now b) (act.Lose b.state.app d (losses.Expired now)) refl refl
trouble_leaves false d broke try_at now b = tries_when_leaves (nat_le try_at now) d b

ticks_from_leaves : (x : AppLink) (d now : ℕ) (b : Sofar) → Leaves b (ticks_from x d now b)
ticks_from_leaves NotConnected d now b = leaves_none b b refl
ticks_from_leaves NormalLink d now b = leaves_none b b refl
ticks_from_leaves (Trouble broke try_at) d now b = trouble_leaves (nat_le (until broke b.state.times.recover) now) d broke try_at now b
ticks_from_leaves Recovery d now b = leaves_none b b refl

ticks_leaves : (ds : List ℕ) (now : ℕ) (b : Sofar) → Leaves b (ticks ds now b)
ticks_leaves [] now b = leaves_none b b refl
ticks_leaves (d ∷ ds) now b =
    leaves_then b (ticks_from (end_at b.state d).link d now b) (ticks (d ∷ ds) now b) (ticks_from_leaves (end_at b.state d).link d now b)
    (ticks_leaves ds now (ticks_from (end_at b.state d).link d now b))

joins_leaves : (x : AppLink) (d : ℕ) (b : Sofar) → Leaves b (joins_from x d b)
joins_leaves NotConnected d b = leaves_none b b refl
joins_leaves NormalLink d b = leaves_none b b refl
joins_leaves (Trouble broke try_at) d b = leaves_none b (tries d b) (tries_acts d b)
joins_leaves Recovery d b = leaves_none b b refl

connected_leaves : (x : AppLink) (d now : ℕ) (b : Sofar) → Leaves b (connected_from x d now b)
connected_leaves NotConnected d now b = leaves_none b (greets d b) refl
connected_leaves NormalLink d now b = leaves_none b (greets d b) refl
connected_leaves (Trouble broke try_at) d now b = leaves_one b (recovers d now b) (act.Mended b.state.app d) refl refl
connected_leaves Recovery d now b = leaves_none b (greets d b) refl

failed_leaves : (x : AppLink) (d before later now : ℕ) (b : Sofar) → Leaves b (failed_from x d before later now b)
failed_leaves NotConnected d before later now b = leaves_one b (no_way d before later b) (act.Lose b.state.app d (losses.NoWay before later)) refl refl
failed_leaves NormalLink d before later now b = leaves_none b b refl
failed_leaves (Trouble broke try_at) d before later now b = leaves_none b (failed_from (Trouble broke try_at) d before later now b) refl
failed_leaves Recovery d before later now b = leaves_none b b refl

-- frames

settles_acts : (due : Bool) (d now : ℕ) (b : Sofar) → (settles_unless due d now b).outs.acts ≡ b.outs.acts
settles_acts true d now b = refl
settles_acts false d now b = refl

-- the session goes on, and nothing was sent again yet
abbrev going_on : ℕ → Front → Sofar → Sofar
going_on d front b = sets d (synced_up front.s) (becomes d (with_line Joined) b)

-- it is in a new epoch, and nothing was put yet
abbrev learning : ℕ → ℕ → ℕ → ℕ → Front → Sofar → Sofar
learning d session epoch kept front b = sets d (in_epoch epoch front) (becomes d (with_line Joined) (writes (act.Told b.state.app d session epoch kept) b))

welcome_leaves : (b : Sofar) (d now session epoch kept : ℕ) (front : Front) (taken : ℕ) (c : Sofar) → TakesWelcome b d now session epoch kept front taken c → Leaves b c
welcome_leaves b d now session epoch kept front taken c (inl t) = leaves_one b c (act.Met b.state.app d session) refl (ap (λ (x : Sofar). x.outs.acts) t.after)
welcome_leaves b d now session epoch kept front taken c (inr (inl t)) = leaves_none b c (ap (λ (x : Sofar). x.outs.acts) t.after ∙ settles_acts (session_at b.state d).normal_due d now (sends_again d (resent (session_at b.state d).window taken) (going_on d front b)) ∙ sends_acts d (resent (session_at b.state d).window taken) (going_on d front b))
welcome_leaves b d now session epoch kept front taken c (inr (inr (inl t))) = leaves_one b c (act.Told b.state.app d session epoch kept) refl (ap (λ (x : Sofar). x.outs.acts) t.after ∙ puts_all_acts d (told_puts front.w (synced_up front.s (session_at b.state d))) (learning d session epoch kept front b))
welcome_leaves b d now session epoch kept front taken c (inr (inr (inr t))) = leaves_after b c (ends_it d now b) t.after (ends_leaves d now b)

delivers_leaves : (m : Down) (d now : ℕ) (b c : Sofar) → Delivers m d now b c → Leaves b c
delivers_leaves (Welcome session epoch kept front taken) d now b c t = absurd t
delivers_leaves (Reset session at) d now b c t = absurd t
delivers_leaves (Block front block) d now b c t = leaves_none b c (ap (λ (x : Sofar). x.outs.acts) t.after)
delivers_leaves (Drop front lo hi) d now b c t = leaves_none b c (ap (λ (x : Sofar). x.outs.acts) t)
delivers_leaves (Ack front) d now b c t = leaves_none b c (ap (λ (x : Sofar). x.outs.acts) t)
delivers_leaves (Grant front ticket at) d now b c t = leaves_none b c (ap (λ (x : Sofar). x.outs.acts) t)
delivers_leaves (Answer front about job number at sum) d now b c t = leaves_none b c (ap (λ (x : Sofar). x.outs.acts) t)
delivers_leaves (Normal front) d now b c t = leaves_none b c (ap (λ (x : Sofar). x.outs.acts) t ∙ puts_all_acts d (to_put_again (session_at b.state d)) (happens d now Settled (sets d with_all_put b)))
delivers_leaves Bare d now b c t = absurd t

numbered_leaves : (r : Result Taken WindowError) (b : Sofar) (d now : ℕ) (frame : DownFrame) (f : Front) (c : Sofar) → TakesNumbered r b d now frame f c → Leaves b c
numbered_leaves (Ok Fresh) b d now frame f c (inl t) =
    leaves_then b (sets d (took frame.seq frame.ack f) b) c (leaves_none b (sets d (took frame.seq frame.ack f) b) refl) (delivers_leaves frame.message d now (sets d (took frame.seq frame.ack f) b) c t.made)
numbered_leaves (Ok Fresh) b d now frame f c (inr t) = leaves_after b c (ends_it d now b) t.after (ends_leaves d now b)
numbered_leaves (Ok Repeat) b d now frame f c t = leaves_none b c (ap (λ (x : Sofar). x.outs.acts) t)
numbered_leaves (Err why) b d now frame f c t = leaves_after b c (ends_it d now b) t (ends_leaves d now b)

headed_leaves : (is_there : Bool) (b : Sofar) (d now : ℕ) (frame : DownFrame) (f : Front) (c : Sofar) → TakesHeaded is_there b d now frame f c → Leaves b c
headed_leaves true b d now frame f c t = numbered_leaves (answers body_of (session_at b.state d).window frame.seq frame.ack) b d now frame f c t
headed_leaves false b d now frame f c t = leaves_after b c (ends_it d now b) t (ends_leaves d now b)

ack_leaves : (r : Result Taken WindowError) (b : Sofar) (d now ack : ℕ) (c : Sofar) → TakesAck r b d now ack c → Leaves b c
ack_leaves (Ok answer) b d now ack c t = leaves_none b c (ap (λ (x : Sofar). x.outs.acts) t)
ack_leaves (Err why) b d now ack c t = leaves_after b c (ends_it d now b) t (ends_leaves d now b)

bare_leaves : (is_there : Bool) (b : Sofar) (d now ack : ℕ) (c : Sofar) → TakesBare is_there b d now ack c → Leaves b c
bare_leaves true b d now ack c t = ack_leaves (answers body_of (session_at b.state d).window 0 ack) b d now ack c t
bare_leaves false b d now ack c t = leaves_none b c (ap (λ (x : Sofar). x.outs.acts) t)

frame_leaves : (m : Down) (b : Sofar) (d now : ℕ) (frame : DownFrame) (c : Sofar) → TakesFrame m b d now frame c → Leaves b c
frame_leaves (Welcome session epoch kept front taken) b d now frame c t = welcome_leaves b d now session epoch kept front taken c t
frame_leaves (Reset session at) b d now frame c (inl t) = leaves_one b c (act.Lose b.state.app d (losses.Reset at)) refl (ap (λ (x : Sofar). x.outs.acts) t.after)
frame_leaves (Reset session at) b d now frame c (inr t) = leaves_after b c (ends_it d now b) t.after (ends_leaves d now b)
frame_leaves (Block front block) b d now frame c t = headed_leaves (joined b d) b d now frame front c t
frame_leaves (Drop front lo hi) b d now frame c t = headed_leaves (joined b d) b d now frame front c t
frame_leaves (Ack front) b d now frame c t = headed_leaves (joined b d) b d now frame front c t
frame_leaves (Grant front ticket at) b d now frame c t = headed_leaves (joined b d) b d now frame front c t
frame_leaves (Answer front about job number at sum) b d now frame c t = headed_leaves (joined b d) b d now frame front c t
frame_leaves (Normal front) b d now frame c t = headed_leaves (joined b d) b d now frame front c t
frame_leaves Bare b d now frame c t = bare_leaves (joined b d) b d now frame.ack c t

bares_acts : (owed : Bool) (d : ℕ) (b : Sofar) → (bares_if owed d b).outs.acts ≡ b.outs.acts
bares_acts true d b = refl
bares_acts false d b = refl

bares_joined_acts : (is_there : Bool) (d : ℕ) (b : Sofar) → (bares_joined is_there d b).outs.acts ≡ b.outs.acts
bares_joined_acts true d b = bares_acts (owes_bare (session_at b.state d).window) d b
bares_joined_acts false d b = refl

-- What each step of an application server's ends writes.
pub app_step_leaves : (b : Sofar) (now : ℕ) (input : AppIn) (c : Sofar) → Makes b now input c → Leaves b c
app_step_leaves b now (app_in.Frame d down) c t =
    leaves_after b c (settled d t.taken) t.after
    (leaves_then b t.taken (settled d t.taken) (frame_leaves down.message b d now down t.taken t.takes) (leaves_none t.taken (settled d t.taken) (bares_joined_acts (joined t.taken d) d t.taken)))
app_step_leaves b now (app_in.Connected d) c t =
    leaves_after b c (connected d now b) t
    (leaves_then b (becomes d with_dial b) (connected d now b) (leaves_none b (becomes d with_dial b) refl) (connected_leaves (end_at b.state d).link d now (becomes d with_dial b)))
app_step_leaves b now (app_in.NoWay d before later) c t =
    leaves_after b c (failed d before later now b) t
    (leaves_then b (becomes d (with_line Apart) b) (failed d before later now b) (leaves_none b (becomes d (with_line Apart) b) refl)
    (failed_leaves (end_at b.state d).link d before later now (becomes d (with_line Apart) b)))
app_step_leaves b now (app_in.Broken d) c t = leaves_after b c (broken d now b) t (broken_leaves d now b)
app_step_leaves b now (app_in.Join d) c t = leaves_after b c (joins_from (end_at b.state d).link d b) t (joins_leaves (end_at b.state d).link d b)
app_step_leaves b now app_in.Tick c t = leaves_after b c (ticks (range_with_len 0 (length b.state.ends)) now b) t (ticks_leaves (range_with_len 0 (length b.state.ends)) now b)
