-- A session opens on the connection of a Hello that came just now: what is known of its window, and of the round.
use Rattle.std.proofs.Common.{◌≡◌, ◌<◌, ℕ, ◌+◌, false, true, List, [], length, Option, Some, None, is_some, refl, sym, ◌∙◌, ap, subst}
use Rattle.std.specs.List.{find}
use Rattle.plain_orders.specs.declared.act.Act.TheVariants as act
use Rattle.plain_orders.specs.declared.entry.Entry.TheVariants.{Opened}
use Rattle.plain_orders.specs.Entries.{live_session}
use Rattle.recovery_round.specs.RoundWords.{Round}
use Rattle.end_words.specs.Windows.{Window, fresh}
use Rattle.ecp_messages.specs.declared.down.Down.{Down}
use Rattle.data_rules.specs.declared.rows.Role.{Role}
use Rattle.data_rules.specs.declared.rows.Role.TheVariants.{Bound, Waiting}
use Rattle.data_rules.specs.DataState.{DataState}
use Rattle.data_rules.specs.Conns.{is_conn, role_of}
use Rattle.data_rules.specs.Entering.{enters}
use Rattle.data_rules.specs.Opening.{is_round_over, opens}
use Rattle.data_rules.specs.Puts.{Sofar, writes}
use Rattle.cluster_runs.specs.Machine.{Site}
use Rattle.cluster_invariant.specs.Dials.{LinkedTo}
use Rattle.cluster_invariant.specs.Ends.{HelloAlone}
use Rattle.cluster_invariant.proofs.PiecesOfCloses.{role_given}
use Rattle.cluster_invariant.proofs.PutLaws.{Appended, appends_state}
use Rattle.link_kept.proofs.WindowLists.{set_here}
use Rattle.dials_server.proofs.OpenedNodes.{IsFresh}
use Rattle.dials_server.proofs.RoundNodes.{OpenInv, open_one}
use Rattle.dials_firsts.proofs.QuietWindows.{QuietIn}

module _ (app conn now : ℕ) (b : Sofar) where
  appended : Appended (Opened (length b.state.order + 1) app) (writes (act.Enter b.state.server (Opened (length b.state.order + 1) app)) b)
      (enters (Opened (length b.state.order + 1) app) b)
  appended = appends_state (Opened (length b.state.order + 1) app) (writes (act.Enter b.state.server (Opened (length b.state.order + 1) app)) b)

  pub opens_round : (opens app conn now b).state.round ≡ b.state.round
  opens_round = ap (λ (d : DataState). d.round) appended.state

  -- nothing was taken of it yet
  pub opens_quiet : is_some (find (is_conn conn) b.state.conns) ≡ true → (q : ℕ) → role_of (opens app conn now b).state conn ≡ Some (Bound q)
      → QuietIn (opens app conn now b).state.windows q
  opens_quiet there q role =
      subst (λ (i : ℕ). QuietIn (opens app conn now b).state.windows i) (same (sym its ∙ role))
      (ap (λ (w : Window Down). w.since) (set_here (enters (Opened (length b.state.order + 1) app) b).state.windows (length b.state.order + 1) fresh))
    where
      its : role_of (opens app conn now b).state conn ≡ Some (Bound (length b.state.order + 1))
      its =
          role_given conn (Bound (length b.state.order + 1)) (enters (Opened (length b.state.order + 1) app) b).state.conns
          (ap (λ (d : DataState). is_some (find (is_conn conn) d.conns)) appended.state ∙ there)

      same : ◌≡◌ {A = Option Role} (Some (Bound (length b.state.order + 1))) (Some (Bound q)) → length b.state.order + 1 ≡ q
      same both = cc (both)

-- no round is over where none is on
pub none_over : (d : DataState) (o : Option Round) → is_some o ≡ false → is_round_over d o ≡ false
none_over d None off = refl
none_over d (Some r) off = absurd (true_false off)
  where
    true_false : true ≡ false → ⊥
    true_false is = cc (is)

-- It opens as if the connection had waited.
pub hello_opens : (x : Site) (n : DataState) (gone : List ℕ) → ((s : ℕ) → length n.order < s → IsFresh x s) → (app conn now : ℕ) (b : Sofar)
    → role_of b.state conn ≡ Some Waiting
    → live_session b.state.order app ≡ None → LinkedTo x conn app HelloAlone → OpenInv x n gone [] b → OpenInv x n gone [] (opens app conn now b)
hello_opens x n gone fresh_ones app conn now b waits free linked inv =
    open_one x n gone fresh_ones (record { conn = conn; app = app }) [] now b (record {
      nodes = inv.nodes;
      frames = inv.frames;
      cuts = inv.cuts;
      noted = inv.noted;
      replies = inv.replies;
      there = inv.there;
      stays = inv.stays;
      longer = inv.longer;
      within = inv.within;
      callers = (record { waits = waits; free = free; linked = linked }, tt);
      apart = refl;
    })
