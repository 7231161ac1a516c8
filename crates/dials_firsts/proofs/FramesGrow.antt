-- Frames that are put come behind those that were put before in the step.
use Rattle.std.proofs.Common.{◌≡◌, ℕ, ◌+◌, Bool, true, false, List, [], ◌∷◌, ◌++◌, filter, Option, Some, None, refl, sym, ◌∙◌, ap}
use Rattle.std.specs.List.{AllByRecursion}
use Rattle.std.proofs.lemmas.List.{append-nil, append_assoc}
use Rattle.ecp_messages.specs.declared.down.Down.{Down}
use Rattle.end_words.specs.Windows.{owes_bare, sent, with_sent}
use Rattle.data_rules.specs.declared.down_frames.DownOut.{DownOut}
use Rattle.data_rules.specs.declared.rows.Reply.{Reply}
use Rattle.data_rules.specs.declared.rows.Role.{Role}
use Rattle.data_rules.specs.declared.rows.Role.TheVariants.{New, Waiting, Bound, Closing}
use Rattle.data_rules.specs.declared.rows.Says.{Says}
use Rattle.data_rules.specs.declared.rows.Says.TheVariants.{NewWelcome, EpochWelcome, ResetOf, GrantOf, AnswerOf}
use Rattle.data_rules.specs.Callers.{sends_again}
use Rattle.data_rules.specs.Conns.{role_of}
use Rattle.data_rules.specs.Frames.{bares_role, settled}
use Rattle.data_rules.specs.Leaving.{all_leave, bare_on, bare_to, flushed, leaves, may_leave, must_wait}
use Rattle.data_rules.specs.Opening.{is_round_over, rounds}
use Rattle.data_rules.specs.Puts.{Sofar, becomes, conn_of, puts, tells, tells_on, window_of, with_window}
use Rattle.dials_firsts.proofs.QuietWindows.{no_round}

-- frames more
pub record Grown (b c : Sofar) : Type 0 where
  pub more : List DownOut
  pub frames : c.outs.frames ≡ b.outs.frames ++ more

none_more : (b : Sofar) → Grown b b
none_more b = record { more = []; frames = sym (append-nil b.outs.frames) }

pub grown_then : (b c e : Sofar) → Grown b c → Grown c e → Grown b e
grown_then b c e one two = record {
  more = one.more ++ two.more;
  frames = two.frames ∙ ap (λ (fs : List DownOut). fs ++ two.more) one.frames ∙ append_assoc b.outs.frames one.more two.more;
}

grown_puts : (s : ℕ) (m : Down) (b : Sofar) → Grown b (puts s m b)
grown_puts s m b = go (conn_of b.state s)
  where
    go : (o : Option ℕ) → Grown b (tells_on s o (sent (window_of b.state s) + 1) m (becomes (λ d. with_window s (with_sent (window_of d s) m) d) b))
    go None = record { more = []; frames = sym (append-nil b.outs.frames) }
    go (Some conn) = record { more = _; frames = refl }

grown_leaves : (says : Says) (b : Sofar) → Grown b (leaves says b)
grown_leaves (NewWelcome conn session) b = record { more = _; frames = refl }
grown_leaves (EpochWelcome conn session kept) b = record { more = _; frames = refl }
grown_leaves (ResetOf conn session at) b = record { more = _; frames = refl }
grown_leaves (GrantOf session ticket at) b = grown_puts session _ b
grown_leaves (AnswerOf session about job number at sum) b = grown_puts session _ b

grown_leave : (rs : List Reply) (b : Sofar) → Grown b (all_leave rs b)
grown_leave [] b = none_more b
grown_leave (r ∷ rs) b = grown_then b (leaves r.says b) (all_leave (r ∷ rs) b) (grown_leaves r.says b) (grown_leave rs (leaves r.says b))

grown_flushed : (b : Sofar) → Grown b (flushed b)
grown_flushed b = go (grown_leave (filter (may_leave b.state.synced) b.state.replies)
    (becomes (λ d. record d { replies = filter (must_wait d.synced) d.replies }) b))
  where
    go : Grown (becomes (λ d. record d { replies = filter (must_wait d.synced) d.replies }) b) (flushed b) → Grown b (flushed b)
    go g = record { more = g.more; frames = g.frames }

grown_bares : (o : Option Role) (b : Sofar) → Grown b (bares_role o b)
grown_bares None b = none_more b
grown_bares (Some New) b = none_more b
grown_bares (Some Waiting) b = none_more b
grown_bares (Some (Closing s)) b = none_more b
grown_bares (Some (Bound s)) b = on (conn_of b.state s)
  where
    to : (owed : Bool) (conn : ℕ) → Grown b (bare_to owed s conn b)
    to false conn = none_more b
    to true conn = record { more = _; frames = refl }

    on : (o : Option ℕ) → Grown b (bare_on o s b)
    on None = none_more b
    on (Some conn) = to (owes_bare (window_of b.state s)) conn

-- What follows a frame where no round ends.
pub grown_settled : (conn now : ℕ) (b : Sofar) → is_round_over b.state b.state.round ≡ false → Grown b (settled conn now b)
grown_settled conn now b on = go (rounds now b) (no_round now b on)
  where
    go : (c : Sofar) → c ≡ b → Grown b (bares_role (role_of (flushed c).state conn) (flushed c))
    go c same = by (grown_then c (flushed c) (bares_role (role_of (flushed c).state conn) (flushed c)) (grown_flushed c)
        (grown_bares (role_of (flushed c).state conn) (flushed c)))
      where
        by : {e : Sofar} → Grown c e → Grown b e
        by g = record { more = g.more; frames = g.frames ∙ ap (λ (d : Sofar). d.outs.frames ++ g.more) same }

-- what is sent again
pub grown_again : (s conn : ℕ) (ms : List (ℕ × Down)) (b : Sofar) → Grown b (sends_again s conn ms b)
grown_again s conn [] b = none_more b
grown_again s conn (m ∷ ms) b =
    grown_then b (tells s conn m.0 m.1 b) (sends_again s conn (m ∷ ms) b) (record { more = _; frames = refl }) (grown_again s conn ms (tells s conn m.0 m.1 b))

-- what holds of all holds of those behind
pub all_behind : {X : Type 0} (P : X → Type 0) (xs ys : List X) → AllByRecursion P (xs ++ ys) → AllByRecursion P ys
all_behind P [] ys all = all
all_behind P (x ∷ xs) ys all = all_behind P xs ys all.1
