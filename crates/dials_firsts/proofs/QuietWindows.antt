-- A session whose window owes no acknowledgement as replies leave, and what follows a frame then where no round ends.
use Rattle.std.proofs.Common.{◌≡◌, ◌⊎◌, ◌<◌, ℕ, ◌+◌, Bool, true, false, ◌==◌, List, [], ◌∷◌, length, filter, Option, Some, None, option_map, refl}
use Rattle.std.proofs.Common.{sym, ◌∙◌, ap, subst, inl, inr}
use Rattle.std.specs.Prelude.{nat_le}
use Rattle.std.specs.List.{find}
use Rattle.std.proofs.lemmas.Bool.{eq-eqb, eqb-true, false≢true}
use Rattle.ecp_messages.specs.declared.down.Down.{Down}
use Rattle.end_words.specs.declared.limits.TheConstants.{BARE_LIMIT}
use Rattle.end_words.specs.Windows.{Window, owes_bare, sent, with_sent}
use Rattle.data_rules.specs.declared.rows.Reply.{Reply}
use Rattle.data_rules.specs.declared.rows.Role.{Role}
use Rattle.data_rules.specs.declared.rows.Role.TheVariants.{New, Waiting, Bound, Closing}
use Rattle.data_rules.specs.declared.rows.Says.{Says}
use Rattle.data_rules.specs.declared.rows.Says.TheVariants.{NewWelcome, EpochWelcome, ResetOf, GrantOf, AnswerOf}
use Rattle.data_rules.specs.DataState.{DataState, SessionWindow}
use Rattle.data_rules.specs.Conns.{is_conn, role_in, role_of}
use Rattle.data_rules.specs.Frames.{bares_role, settled}
use Rattle.data_rules.specs.Leaving.{all_leave, bare_on, bare_to, flushed, leaves, may_leave, must_wait}
use Rattle.data_rules.specs.Opening.{is_round_over, round_ends_if, rounds}
use Rattle.data_rules.specs.Puts.{Sofar, becomes, conn_of, puts, set_window, tells_on, window_in, window_of, with_window}
use Rattle.cluster_runs.specs.Machine.{Site}
use Rattle.cluster_invariant.specs.Served.{HasLearnt}
use Rattle.cluster_invariant.proofs.PutLaws.{only_flushed}
use Rattle.link_kept.proofs.WindowLists.{set_elsewhere, set_here}
use Rattle.dials_server.proofs.GoRounds.{bares_go, flush_go}
use Rattle.dials_server.proofs.OpenedNodes.{IsFresh}
use Rattle.dials_server.proofs.RoundNodes.{OpenInv}

-- nothing was taken of the session since a frame was put to it
abbrev pub QuietIn : List SessionWindow → ℕ → Type 0
QuietIn ws s = (window_in ws s).since ≡ 0

set_quiet : (ws : List SessionWindow) (q s : ℕ) (w : Window Down) → (q ≡ s → w.since ≡ 0) → QuietIn ws s → QuietIn (set_window ws q w) s
set_quiet ws q s w own was = go (q == s) refl
  where
    go : (b : Bool) → (q == s) ≡ b → QuietIn (set_window ws q w) s
    go true same =
        subst (λ (i : ℕ). QuietIn (set_window ws q w) i) (eqb-true q s same) (ap (λ (v : Window Down). v.since) (set_here ws q w) ∙ own (eqb-true q s same))
    go false other = ap (λ (v : Window Down). v.since) (set_elsewhere ws q s w (λ same. false≢true (sym other ∙ eq-eqb q s (sym same)))) ∙ was

puts_quiet : (s q : ℕ) (m : Down) (b : Sofar) → QuietIn b.state.windows s → QuietIn (puts q m b).state.windows s
puts_quiet s q m b was = go (conn_of b.state q)
  where
    given : QuietIn (set_window b.state.windows q (with_sent (window_in b.state.windows q) m)) s
    given = set_quiet b.state.windows q s (with_sent (window_in b.state.windows q) m)
        (λ same. ap (λ (i : ℕ). (window_in b.state.windows i).since) same ∙ was) was

    go : (o : Option ℕ) → QuietIn (tells_on q o (sent (window_of b.state q) + 1) m
        (becomes (λ d. with_window q (with_sent (window_of d q) m) d) b)).state.windows s
    go None = given
    go (Some conn) = set_quiet (set_window b.state.windows q (with_sent (window_in b.state.windows q) m)) q s _ (λ same. refl) given

leaves_quiet : (s : ℕ) (says : Says) (b : Sofar) → QuietIn b.state.windows s → QuietIn (leaves says b).state.windows s
leaves_quiet s (NewWelcome conn session) b was = set_quiet b.state.windows session s _ (λ same. refl) was
leaves_quiet s (EpochWelcome conn session kept) b was = set_quiet b.state.windows session s _ (λ same. refl) was
leaves_quiet s (ResetOf conn session at) b was = was
leaves_quiet s (GrantOf session ticket at) b was = puts_quiet s session _ b was
leaves_quiet s (AnswerOf session about job number at sum) b was = puts_quiet s session _ b was

leave_quiet : (s : ℕ) (rs : List Reply) (b : Sofar) → QuietIn b.state.windows s → QuietIn (all_leave rs b).state.windows s
leave_quiet s [] b was = was
leave_quiet s (r ∷ rs) b was = leave_quiet s rs (leaves r.says b) (leaves_quiet s r.says b was)

pub flushed_quiet : (s : ℕ) (b : Sofar) → QuietIn b.state.windows s → QuietIn (flushed b).state.windows s
flushed_quiet s b was = leave_quiet s (filter (may_leave b.state.synced) b.state.replies)
    (becomes (λ d. record d { replies = filter (must_wait d.synced) d.replies }) b) was

-- what follows a frame where no round ends

pub no_round : (now : ℕ) (b : Sofar) → is_round_over b.state b.state.round ≡ false → rounds now b ≡ b
no_round now b on = ap (λ (t : Bool). round_ends_if t now b) on

-- replies leave connections as they are
pub flushed_role : (b : Sofar) (conn : ℕ) → role_of (flushed b).state conn ≡ role_of b.state conn
flushed_role b conn = ap (λ (d : DataState). option_map role_in (find (is_conn conn) d.conns)) (only_flushed b).state

module _ (x : Site) (n : DataState) (gone : List ℕ) (fresh_at : (s : ℕ) → length n.order < s → IsFresh x s) (conn now : ℕ) where
  -- what is known of the session that the frame was of
  abbrev pub LearntOrQuiet : Sofar → Type 0
  LearntOrQuiet b = (s : ℕ) → role_of b.state conn ≡ Some (Bound s) → HasLearnt x s ⊎ QuietIn b.state.windows s

  bares_quiet : (s : ℕ) (b : Sofar) → QuietIn b.state.windows s → bares_role (Some (Bound s)) b ≡ b
  bares_quiet s b quiet = go (conn_of b.state s)
    where
      none : owes_bare (window_of b.state s) ≡ false
      none = ap (λ (i : ℕ). nat_le BARE_LIMIT i) quiet

      go : (o : Option ℕ) → bare_on o s b ≡ b
      go None = refl
      go (Some k) = ap (λ (t : Bool). bare_to t s k b) none

  pub settled_open : (b : Sofar) → is_round_over b.state b.state.round ≡ false → LearntOrQuiet b → OpenInv x n gone [] b
      → OpenInv x n gone [] (settled conn now b)
  settled_open b on known inv =
      subst (λ (c : Sofar). OpenInv x n gone [] (bares_role (role_of (flushed c).state conn) (flushed c))) (sym (no_round now b on))
      (go (role_of (flushed b).state conn) refl)
    where
      left : OpenInv x n gone [] (flushed b)
      left = flush_go x n gone fresh_at b inv

      bound : (s : ℕ) → role_of (flushed b).state conn ≡ Some (Bound s) → HasLearnt x s ⊎ QuietIn b.state.windows s
          → OpenInv x n gone [] (bares_role (Some (Bound s)) (flushed b))
      bound s role (inl learnt) = bares_go x n gone fresh_at (Some (Bound s)) (flushed b) (λ q same. subst (HasLearnt x) (session same) learnt) left
        where
          session : {q : ℕ} → ◌≡◌ {A = Option Role} (Some (Bound s)) (Some (Bound q)) → s ≡ q
          session same = cc (same)
      bound s role (inr quiet) = subst (λ (c : Sofar). OpenInv x n gone [] c) (sym (bares_quiet s (flushed b) (flushed_quiet s b quiet))) left

      go : (o : Option Role) → role_of (flushed b).state conn ≡ o → OpenInv x n gone [] (bares_role o (flushed b))
      go None role = left
      go (Some New) role = left
      go (Some Waiting) role = left
      go (Some (Bound s)) role = bound s role (known s (sym (flushed_role b conn) ∙ role))
      go (Some (Closing s)) role = left
