-- A step at one end reads nothing of the others.
use Rattle.std.proofs.Common.{◌≡◌, ◌<◌, ℕ, Bool, true, false, List, [], ◌∷◌, sym, subst, ap, ◌∙◌, ◌+◌}
use Rattle.std.proofs.lemmas.List.{length-set, get_or-set_same}
use Rattle.plain_orders.specs.declared.act.Act.{Act}
use Rattle.ecp_messages.specs.declared.up.Up.{Up}
use Rattle.app_rules.specs.declared.up_frames.UpOut.{UpOut}
use Rattle.app_rules.specs.AppState.{AppEnd, Session, no_end}
use Rattle.app_rules.specs.Works.{Sofar, end_at, session_of, session_at, becomes, sets, writes, connects, cuts, frames, frame_to, with_session, with_window, tells, tells_if, puts, puts_all, is_joined}
use Rattle.end_words.specs.Windows.{sent, with_sent, with_ack_put}
use Rattle.app_rules.specs.Laws.{IsAlikeAt}

-- two steps that have come to the same at one end
pub record IsLike (b c : Sofar) (d : ℕ) : Type 0 where
  pub state : IsAlikeAt b.state c.state d
  pub outs : c.outs ≡ b.outs

pub like_writes : {d : ℕ} (x y : Act) (b c : Sofar) → y ≡ x → IsLike b c d → IsLike (writes x b) (writes y c) d
like_writes x y b c e l = record { state = l.state; outs = cc (e, l.outs) }

pub like_cuts : {d : ℕ} (b c : Sofar) → IsLike b c d → IsLike (cuts d b) (cuts d c) d
like_cuts b c l = record { state = l.state; outs = cc (l.outs) }

pub like_connects : {d : ℕ} (b c : Sofar) → IsLike b c d → IsLike (connects d b) (connects d c) d
like_connects b c l = record { state = l.state; outs = cc (l.outs) }

pub like_frames : {d : ℕ} (x y : UpOut) (b c : Sofar) → y ≡ x → IsLike b c d → IsLike (frames x b) (frames y c) d
like_frames x y b c e l = record { state = l.state; outs = cc (e, l.outs) }

pub like_becomes : (d : ℕ) (f g : AppEnd → AppEnd) (b c : Sofar) → g (end_at c.state d) ≡ f (end_at b.state d) → IsLike b c d → IsLike (becomes d f b) (becomes d g c) d
like_becomes d f g b c e l = record {
  state = record {
    app = l.state.app;
    times = l.state.times;
    there = subst (λ n. d < n) (sym (length-set b.state.ends d (f (end_at b.state d)))) l.state.there;
    there_too = subst (λ n. d < n) (sym (length-set c.state.ends d (g (end_at c.state d)))) l.state.there_too;
    same_end =
        get_or-set_same c.state.ends d (g (end_at c.state d)) no_end l.state.there_too ∙ e
        ∙ sym (get_or-set_same b.state.ends d (f (end_at b.state d)) no_end l.state.there);
  };
  outs = l.outs;
}

-- the same change
pub like_change : (d : ℕ) (f : AppEnd → AppEnd) (b c : Sofar) → IsLike b c d → IsLike (becomes d f b) (becomes d f c) d
like_change d f b c l = like_becomes d f f b c (ap f l.state.same_end) l

pub like_sets : (d : ℕ) (f : Session → Session) (b c : Sofar) → IsLike b c d → IsLike (sets d f b) (sets d f c) d
like_sets d f b c l = like_change d (with_session f) b c l

pub like_tells : (d seq n : ℕ) (m : Up) (b c : Sofar) → n ≡ seq → IsLike b c d → IsLike (tells d seq m b) (tells d n m c) d
like_tells d seq n m b c e l =
    like_frames (frame_to d seq (session_at b.state d).window.taken m) (frame_to d n (session_at c.state d).window.taken m) _ _
    (ap (λ k. frame_to d k (session_at c.state d).window.taken m) e ∙ ap (λ x. frame_to d seq (session_of x).window.taken m) l.state.same_end)
    (like_sets d (with_window with_ack_put) b c l)

pub like_tells_if : (t u : Bool) (d seq n : ℕ) (m : Up) (b c : Sofar) → u ≡ t → n ≡ seq → IsLike b c d → IsLike (tells_if t d seq m b) (tells_if u d n m c) d
like_tells_if true true d seq n m b c e k l = like_tells d seq n m b c k l
like_tells_if true false d seq n m b c e k l = absurd (cc (e))
like_tells_if false true d seq n m b c e k l = absurd (cc (e))
like_tells_if false false d seq n m b c e k l = l

pub like_puts : (d : ℕ) (m : Up) (b c : Sofar) → IsLike b c d → IsLike (puts d m b) (puts d m c) d
like_puts d m b c l =
    like_tells_if (is_joined (end_at b.state d).line) (is_joined (end_at c.state d).line) d _ _ m _ _
    (ap (λ x. is_joined x.line) l.state.same_end) (ap (λ x. sent (session_of x).window + 1) l.state.same_end)
    (like_sets d (with_window (λ w. with_sent w m)) b c l)

pub like_puts_all : (d : ℕ) (ms : List Up) (b c : Sofar) → IsLike b c d → IsLike (puts_all d ms b) (puts_all d ms c) d
like_puts_all d [] b c l = l
like_puts_all d (m ∷ ms) b c l = like_puts_all d ms (puts d m b) (puts d m c) (like_puts d m b c l)
