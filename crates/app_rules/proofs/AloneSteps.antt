-- What happens at one end reads nothing of the others.
use Rattle.std.proofs.Common.{◌≡◌, ℕ, Bool, true, false, List, [], ◌∷◌, refl, sym, subst, ap, ◌∙◌}
use Rattle.plain_orders.specs.declared.act.Act.TheVariants.{Broke, Lose, Mended}
use Rattle.plain_orders.specs.declared.causes.PairEnd.TheVariants as ends
use Rattle.plain_orders.specs.declared.causes.Loss.TheVariants as losses
use Rattle.link_states.specs.declared.app_link.AppLink.{AppLink}
use Rattle.link_states.specs.declared.app_link.AppLink.TheVariants.{NotConnected, Normal, Trouble, Recovery}
use Rattle.link_states.specs.declared.link_event.LinkEvent.{LinkEvent}
use Rattle.link_states.specs.declared.link_event.LinkEvent.TheVariants.{Ended, Connected as ConnectedEvent, ConnectFailed, Settled}
use Rattle.ecp_messages.specs.declared.up.Up.{Up}
use Rattle.ecp_messages.specs.declared.up.Up.TheVariants.{Hello, Recover, Bare}
use Rattle.end_words.specs.Windows.{owes_bare}
use Rattle.app_rules.specs.declared.line.Line.{Line}
use Rattle.app_rules.specs.declared.line.Line.TheVariants.{Apart, Trying, Greeting, Asking, Joined}
use Rattle.app_rules.specs.AppState.{AppEnd}
use Rattle.app_rules.specs.Works.{Sofar, end_at, session_of, session_at, becomes, happens, sets, cuts, frame_to, with_event, with_line, is_joined, is_apart, tells, tries, tries_if, puts_all}
use Rattle.app_rules.specs.Losing.{breaks, broken, broken_from, ends_it, joins_from, recovers, greets, connected_from, connected, with_dial, with_failure, no_way, failed_from, failed}
use Rattle.app_rules.specs.Welcoming.{sends_again, settles_unless}
use Rattle.app_rules.specs.Delivering.{goes_normal, with_all_put, to_put_again}
use Rattle.app_rules.specs.Downs.{bares_if, bares_joined, settled, joined}
use Rattle.app_rules.proofs.Alone.{IsLike, like_writes, like_cuts, like_connects, like_frames, like_becomes, like_change, like_sets, like_tells, like_puts_all}

pub like_event : (d now : ℕ) (event : LinkEvent) (b c : Sofar) → IsLike b c d → IsLike (happens d now event b) (happens d now event c) d
like_event d now event b c l =
    like_becomes d (with_event b.state now event) (with_event c.state now event) b c
    (ap (λ t. with_event (record c.state { times = t }) now event (end_at c.state d)) l.state.times ∙ ap (with_event b.state now event) l.state.same_end) l

pub like_breaks : (d now : ℕ) (b c : Sofar) → IsLike b c d → IsLike (breaks d now b) (breaks d now c) d
like_breaks d now b c l =
    like_event d now Ended _ _
    (like_writes (Broke b.state.app d ends.App now) (Broke c.state.app d ends.App now) _ _ (ap (λ a. Broke a d ends.App now) l.state.app)
    (like_change d (with_line Apart) b c l))

like_broken_from : (x y : Line) (d now : ℕ) (b c : Sofar) → y ≡ x → IsLike b c d → IsLike (broken_from x d now b) (broken_from y d now c) d
like_broken_from x y d now b c e l = subst (λ z. IsLike (broken_from x d now b) (broken_from z d now c) d) (sym e) (by x)
  where
    by : (x : Line) → IsLike (broken_from x d now b) (broken_from x d now c) d
    by Apart = l
    by Trying = l
    by Greeting = like_change d (with_line Apart) b c l
    by Asking = like_breaks d now b c l
    by Joined = like_breaks d now b c l

pub like_broken : (d now : ℕ) (b c : Sofar) → IsLike b c d → IsLike (broken d now b) (broken d now c) d
like_broken d now b c l = like_broken_from (end_at b.state d).line (end_at c.state d).line d now b c (ap (λ x. x.line) l.state.same_end) l

pub like_ends_it : (d now : ℕ) (b c : Sofar) → IsLike b c d → IsLike (ends_it d now b) (ends_it d now c) d
like_ends_it d now b c l = like_broken d now (cuts d b) (cuts d c) (like_cuts b c l)

like_tries_if : (t u : Bool) (d : ℕ) (b c : Sofar) → u ≡ t → IsLike b c d → IsLike (tries_if t d b) (tries_if u d c) d
like_tries_if true true d b c e l = like_connects _ _ (like_change d (with_line Trying) b c l)
like_tries_if true false d b c e l = absurd (cc (e))
like_tries_if false true d b c e l = absurd (cc (e))
like_tries_if false false d b c e l = l

pub like_tries : (d : ℕ) (b c : Sofar) → IsLike b c d → IsLike (tries d b) (tries d c) d
like_tries d b c l = like_tries_if (is_apart (end_at b.state d).line) (is_apart (end_at c.state d).line) d b c (ap (λ x. is_apart x.line) l.state.same_end) l

pub like_joins : (x y : AppLink) (d : ℕ) (b c : Sofar) → y ≡ x → IsLike b c d → IsLike (joins_from x d b) (joins_from y d c) d
like_joins x y d b c e l = subst (λ z. IsLike (joins_from x d b) (joins_from z d c) d) (sym e) (by x)
  where
    by : (x : AppLink) → IsLike (joins_from x d b) (joins_from x d c) d
    by NotConnected = l
    by Normal = l
    by (Trouble broke try_at) = like_tries d b c l
    by Recovery = l

like_greets : (d : ℕ) (b c : Sofar) → IsLike b c d → IsLike (greets d b) (greets d c) d
like_greets d b c l =
    like_frames (frame_to d 0 0 (Hello b.state.app (end_at b.state d).dial)) (frame_to d 0 0 (Hello c.state.app (end_at c.state d).dial)) _ _
    (ap (λ a. frame_to d 0 0 (Hello a (end_at c.state d).dial)) l.state.app ∙ ap (λ x. frame_to d 0 0 (Hello b.state.app x.dial)) l.state.same_end)
    (like_change d (with_line Greeting) b c l)

-- the same Recover
recover_of : ℕ → AppEnd → Up
recover_of app x = Recover app (session_of x).number (session_of x).epoch (session_of x).window.taken x.dial

like_tells_two : (d seq : ℕ) (m n : Up) (b c : Sofar) → n ≡ m → IsLike b c d → IsLike (tells d seq m b) (tells d seq n c) d
like_tells_two d seq m n b c e l = subst (λ z. IsLike (tells d seq m b) (tells d seq z c) d) (sym e) (like_tells d seq seq m b c refl l)

like_recovers : (d now : ℕ) (b c : Sofar) → IsLike b c d → IsLike (recovers d now b) (recovers d now c) d
unfolding recover_of
like_recovers d now b c l =
    like_tells_two d 0 (recover_of b.state.app (end_at b.state d)) (recover_of c.state.app (end_at c.state d)) _ _
    (ap (λ a. recover_of a (end_at c.state d)) l.state.app ∙ ap (recover_of b.state.app) l.state.same_end)
    (like_change d (with_line Asking) _ _
    (like_event d now ConnectedEvent _ _
    (like_writes (Mended b.state.app d) (Mended c.state.app d) b c (ap (λ a. Mended a d) l.state.app) l)))

like_connected_from : (x y : AppLink) (d now : ℕ) (b c : Sofar) → y ≡ x → IsLike b c d → IsLike (connected_from x d now b) (connected_from y d now c) d
like_connected_from x y d now b c e l = subst (λ z. IsLike (connected_from x d now b) (connected_from z d now c) d) (sym e) (by x)
  where
    by : (x : AppLink) → IsLike (connected_from x d now b) (connected_from x d now c) d
    by NotConnected = like_greets d b c l
    by Normal = like_greets d b c l
    by (Trouble broke try_at) = like_recovers d now b c l
    by Recovery = like_greets d b c l

pub like_connected : (d now : ℕ) (b c : Sofar) → IsLike b c d → IsLike (connected d now b) (connected d now c) d
like_connected d now b c l =
    like_connected_from (end_at b.state d).link (end_at c.state d).link d now (becomes d with_dial b) (becomes d with_dial c)
    (ap (λ x. x.link) l.state.same_end) (like_change d with_dial b c l)

like_no_way : (d before after : ℕ) (b c : Sofar) → IsLike b c d → IsLike (no_way d before after b) (no_way d before after c) d
like_no_way d before after b c l =
    like_change d (with_failure before after) _ _
    (like_writes (Lose b.state.app d (losses.NoWay before after)) (Lose c.state.app d (losses.NoWay before after)) b c
    (ap (λ a. Lose a d (losses.NoWay before after)) l.state.app) l)

like_failed_from : (x y : AppLink) (d before after now : ℕ) (b c : Sofar) → y ≡ x → IsLike b c d → IsLike (failed_from x d before after now b) (failed_from y d before after now c) d
like_failed_from x y d before after now b c e l = subst (λ z. IsLike (failed_from x d before after now b) (failed_from z d before after now c) d) (sym e) (by x)
  where
    by : (x : AppLink) → IsLike (failed_from x d before after now b) (failed_from x d before after now c) d
    by NotConnected = like_no_way d before after b c l
    by Normal = l
    by (Trouble broke try_at) = like_event d now ConnectFailed b c l
    by Recovery = l

pub like_failed : (d before after now : ℕ) (b c : Sofar) → IsLike b c d → IsLike (failed d before after now b) (failed d before after now c) d
like_failed d before after now b c l =
    like_failed_from (end_at b.state d).link (end_at c.state d).link d before after now (becomes d (with_line Apart) b) (becomes d (with_line Apart) c)
    (ap (λ x. x.link) l.state.same_end) (like_change d (with_line Apart) b c l)

pub like_sends_again : (d : ℕ) (ms : List (ℕ × Up)) (b c : Sofar) → IsLike b c d → IsLike (sends_again d ms b) (sends_again d ms c) d
like_sends_again d [] b c l = l
like_sends_again d (m ∷ ms) b c l = like_sends_again d ms (tells d m.0 m.1 b) (tells d m.0 m.1 c) (like_tells d m.0 m.0 m.1 b c refl l)

pub like_settles : (t u : Bool) (d now : ℕ) (b c : Sofar) → u ≡ t → IsLike b c d → IsLike (settles_unless t d now b) (settles_unless u d now c) d
like_settles true true d now b c e l = l
like_settles true false d now b c e l = absurd (cc (e))
like_settles false true d now b c e l = absurd (cc (e))
like_settles false false d now b c e l = like_event d now Settled b c l

pub like_goes_normal : (d now : ℕ) (b c : Sofar) → IsLike b c d → IsLike (goes_normal d now b) (goes_normal d now c) d
like_goes_normal d now b c l =
    subst (λ ms. IsLike (goes_normal d now b) (puts_all d ms (happens d now Settled (sets d with_all_put c))) d) (sym (ap (λ x. to_put_again (session_of x)) l.state.same_end))
    (like_puts_all d (to_put_again (session_at b.state d)) _ _ (like_event d now Settled _ _ (like_sets d with_all_put b c l)))

like_bares_if : (t u : Bool) (d : ℕ) (b c : Sofar) → u ≡ t → IsLike b c d → IsLike (bares_if t d b) (bares_if u d c) d
like_bares_if true true d b c e l = like_tells d 0 0 Bare b c refl l
like_bares_if true false d b c e l = absurd (cc (e))
like_bares_if false true d b c e l = absurd (cc (e))
like_bares_if false false d b c e l = l

like_bares_joined : (t u : Bool) (d : ℕ) (b c : Sofar) → u ≡ t → IsLike b c d → IsLike (bares_joined t d b) (bares_joined u d c) d
like_bares_joined true true d b c e l =
    like_bares_if (owes_bare (session_at b.state d).window) (owes_bare (session_at c.state d).window) d b c (ap (λ x. owes_bare (session_of x).window) l.state.same_end) l
like_bares_joined true false d b c e l = absurd (cc (e))
like_bares_joined false true d b c e l = absurd (cc (e))
like_bares_joined false false d b c e l = l

pub like_settled : (d : ℕ) (b c : Sofar) → IsLike b c d → IsLike (settled d b) (settled d c) d
like_settled d b c l = like_bares_joined (joined b d) (joined c d) d b c (ap (λ x. is_joined x.line) l.state.same_end) l
