-- A session of a living application end that was there before the order that runs, and was told no Normal in it, has an end that awaits its
-- Normal; one whose Normal isn't awaited is told none.
use Rattle.std.proofs.Common.{◌≡◌, ◌≢◌, ℕ, Bool, true, false, List, Option, Some, None, is_some, refl, sym, ◌∙◌, ap, arith, ◌&&◌}
use Rattle.std.specs.Prelude.{IfSome, not}
use Rattle.std.specs.List.{list_any}
use Rattle.std.proofs.lemmas.Bool.{false≢true, ltb-true, true≢false}
use Rattle.plain_orders.specs.declared.entry.Entry.{Entry}
use Rattle.plain_runs.specs.Plain.{Server, order_at}
use Rattle.data_rules.specs.DataState.{DataState}
use Rattle.data_rules.specs.Places.{epoch_place}
use Rattle.recovery_round.specs.RoundWords.{Round}
use Rattle.link_states.specs.declared.app_link.AppLink.{AppLink}
use Rattle.link_states.specs.declared.app_link.AppLink.TheVariants as client
use Rattle.app_rules.specs.declared.line.Line.TheVariants.{Joined}
use Rattle.app_rules.specs.AppState.{Session}
use Rattle.cluster_runs.specs.Machine.{Site}
use Rattle.cluster_runs.specs.Sent.{Lane, downs_taken}
use Rattle.cluster_invariant.specs.Ends.{due_stands, stands}
use Rattle.cluster_invariant.specs.Link.{is_in_recovery}
use Rattle.cluster_invariant.specs.Rounds.{RoundGoes, SessionRound, awaits_normal}
use Rattle.cluster_invariant.specs.Waiting.{IsUnended}
use Rattle.cluster_invariant.specs.Words.{is_normal_down, is_opened_in}
use Rattle.cluster_invariant.proofs.Small.{of_some}
use Rattle.asks_kept.proofs.Follows.{none_taken}
use Rattle.link_downs.proofs.CarriedWays.{TellsNormal}

-- where none was put downwards none was taken
no_normal_taken : (lane : Lane) → list_any is_normal_down lane.down ≡ false → list_any is_normal_down (downs_taken lane) ≡ false
no_normal_taken lane none = none_taken is_normal_down lane.down_taken lane.down none

module _ (v : Server) (x : Site) (n : DataState) (order : order_at v x.past ≡ n.order) (s : Session) (k : ℕ) (round : SessionRound (order_at v k) (x.lane_at s.number k) s) where
  here : k ≡ x.past → s.normal_due ≡ awaits_normal n.order s.number (x.lane_at s.number x.past)
  here same = round.due ∙ ap (λ (i : ℕ). awaits_normal (order_at v i) s.number (x.lane_at s.number i)) same ∙ ap (λ (es : List Entry). awaits_normal es s.number (x.lane_at s.number x.past)) order

  -- it awaits it
  pub unended_due : k ≡ x.past → IsUnended n.order s.number (x.lane_at s.number x.past) → s.normal_due ≡ true
  unended_due same is =
      here same ∙ ap (λ (b : Bool). not b && not (list_any is_normal_down (downs_taken (x.lane_at s.number x.past)))) is.before
      ∙ ap not (no_normal_taken (x.lane_at s.number x.past) is.untold)

  -- one that isn't awaited isn't told
  pub undue_untold : (goes : IfSome n.round (λ r. RoundGoes x n)) → s.normal_due ≡ false → TellsNormal x n s.number k → ⊥
  undue_untold goes undue tells = go n.round refl tells.0
    where
      go : (o : Option Round) → n.round ≡ o → is_some o ≡ true → ⊥
      go None none on = false≢true on
      go (Some r) some on = by (of_some (λ (q : Round). RoundGoes x n) n.round r some goes)
        where
          by : RoundGoes x n → ⊥
          by g = opened (is_opened_in n.order s.number) refl
            where
              due_is : s.normal_due ≡ (not (is_opened_in n.order s.number) && true)
              due_is =
                  here tells.1.0
                  ∙ ap (λ (b : Bool). not (is_opened_in n.order s.number) && not b) (no_normal_taken (x.lane_at s.number x.past) (g.untold s.number))

              opened : (b : Bool) → is_opened_in n.order s.number ≡ b → ⊥
              opened true is = absurd (omega (arith, g.before s.number tells.1.1, ltb-true (epoch_place n.order) s.number is))
              opened false is = false≢true (sym undue ∙ due_is ∙ ap (λ (b : Bool). not b && true) is)

-- an end whose Welcome came and that awaits its Normal is in recovery
pub recovers : (k : AppLink) (due : Bool) → stands k Joined ≡ true → due_stands k Joined due ≡ true → due ≡ true → is_in_recovery k ≡ true
recovers client.NotConnected due standing so is = absurd (false≢true standing)
recovers client.Normal due standing so is = absurd (true≢false (sym so ∙ ap not is))
recovers (client.Trouble broke try_at) due standing so is = absurd (false≢true standing)
recovers client.Recovery due standing so is = refl
