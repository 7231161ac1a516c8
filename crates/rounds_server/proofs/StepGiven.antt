-- What a whole step gives a session, of which what each small change keeps isn't enough.
use Rattle.std.proofs.Common.{◌≡◌, ◌≤◌, ◌<◌, ℕ, Bool, true, false, List, [], ◌++◌, length, is_some, refl, sym, ap, subst, arith}
use Rattle.std.specs.List.{list_any}
use Rattle.plain_orders.specs.declared.entry.Entry.{Entry}
use Rattle.plain_orders.specs.Ordered.{IsOrdered}
use Rattle.ecp_messages.specs.declared.down.Down.{Down}
use Rattle.ecp_messages.specs.declared.up.Up.TheVariants as up
use Rattle.ecp_messages.specs.declared.up.UpFrame.{UpFrame}
use Rattle.data_rules.specs.DataState.{DataState}
use Rattle.data_rules.specs.declared.data_in.DataIn.TheVariants as data_in
use Rattle.data_rules.specs.declared.data_outs.DataOuts.{DataOuts}
use Rattle.data_rules.specs.Frames.{settled}
use Rattle.data_rules.specs.Puts.{Sofar, begun}
use Rattle.data_rules.specs.Step.{DataStep, made, saved}
use Rattle.cluster_runs.specs.Machine.{Site}
use Rattle.cluster_runs.specs.Sent.{Lane}
use Rattle.cluster_runs.specs.WireDrops.{is_block}
use Rattle.cluster_runs.specs.Written.{count_of}
use Rattle.cluster_invariant.specs.Link.{LaneCounts}
use Rattle.cluster_invariant.specs.Words.{is_normal_down}
use Rattle.link_kept.proofs.FramesFit.{FrameAt}
use Rattle.rounds_server.proofs.Counted.{none_counted}
use Rattle.rounds_server.proofs.FrameGiven.{done_given, fetch_given}
use Rattle.rounds_server.proofs.Gave.{GaveIn, GaveTo}
use Rattle.rounds_server.proofs.GaveRounds.{Told, saved_told, settled_told}
use Rattle.rounds_server.proofs.GivenTests.{BlocksAnswer, NoNormal, OneNormal, blocks_plain, none_makes_one, none_plain, normal_makes_one, normal_no_block, one_plain}

-- at most one Normal, and none where a round is on
pub record NormalsGiven (lane : Lane) (s : ℕ) (n : DataState) : Type 0 where
  pub once : GaveTo lane s (OneNormal lane) n
  pub in_round : is_some n.round ≡ true → GaveTo lane s NoNormal n

module _ (x : Site) (dead : ℕ → Bool) (old : DataState) (now : ℕ) (outs : DataOuts) (new : DataState) (ordered : IsOrdered old.order) (s : ℕ)
    (counts : LaneCounts (x.lane_at s x.past))
    (fresh : length old.order < s → (x.lane_at s x.past).down ≡ []) where
  abbrev lane : Lane
  lane = x.lane_at s x.past

  module _ (none : list_any is_normal_down lane.down ≡ false) where
    low : count_of is_normal_down lane.down ≤ 1
    low = omega (arith, none_counted is_normal_down lane.down none)

    new_session : length old.order < s → (lane.down ≡ []) × OneNormal lane [] 0
    new_session above = (fresh above, none_makes_one lane low [] 0 refl)

    abbrev ToldAt : Sofar → Type 0
    ToldAt b =
        Told lane s NoNormal (OneNormal lane) none_plain (one_plain lane) (none_makes_one lane low) (normal_makes_one lane none)
        (length old.order) new_session b

    given_of : (b : Sofar) → made new outs ≡ b → ToldAt b → NormalsGiven lane s new
    given_of b same told = go (subst (λ (e : Sofar). ToldAt e) (sym same) told)
      where
        go : ToldAt (made new outs) → NormalsGiven lane s new
        go h = record { once = h.once; in_round = h.in_round }

    -- A Done may end a round.
    pub done_step : (conn : ℕ) (f : UpFrame) → FrameAt x dead old (data_in.Frame conn f) → f.message ≡ up.Done
        → DataStep old now (data_in.Frame conn f) outs new → GaveTo lane s NoNormal old
        → NormalsGiven lane s new
    done_step conn f at_frame says steps h = given_of (settled conn now steps.taken) steps.after
        (go (done_given x dead old now conn f at_frame s counts steps.taken says steps.takes h))
      where
        go : GaveIn lane s NoNormal old.order steps.taken → ToldAt (settled conn now steps.taken)
        go is =
            settled_told lane s NoNormal (OneNormal lane) none_plain (one_plain lane) (none_makes_one lane low) (normal_makes_one lane none)
            (length old.order) new_session conn now steps.taken
            (subst IsOrdered (sym is.order) ordered) (omega (arith, ap (λ (es : List Entry). length es) is.order)) is.given

    -- So may a save.
    pub saved_step : (upto : ℕ) → DataStep old now (data_in.Saved upto) outs new → GaveTo lane s NoNormal old → NormalsGiven lane s new
    saved_step upto steps h =
        given_of (saved upto now (begun old)) steps
        (saved_told lane s NoNormal (OneNormal lane) none_plain (one_plain lane) (none_makes_one lane low) (normal_makes_one lane none)
        (length old.order) new_session old upto now ordered
        (omega arith) h)

  -- A Fetch that is taken is answered.
  pub fetch_step : (conn : ℕ) (f : UpFrame) (key : List ℕ) → FrameAt x dead old (data_in.Frame conn f) → f.message ≡ up.Fetch key
      → DataStep old now (data_in.Frame conn f) outs new
      → GaveTo lane s (BlocksAnswer lane) old → GaveTo lane s (BlocksAnswer lane) new
  fetch_step conn f key at_frame says steps h = go (fetch_given x dead old now conn f at_frame s counts steps.taken key says steps.takes h)
    where
      empty : length old.order < s → (lane.down ≡ []) × BlocksAnswer lane [] 0
      empty above = (fresh above, ap (λ (ms : List Down). count_of is_block (ms ++ [])) (fresh above))

      AnsweredAt : Sofar → Type 0
      AnsweredAt b =
          Told lane s (BlocksAnswer lane) (BlocksAnswer lane) (blocks_plain lane) (blocks_plain lane) (λ ms n same. same) (normal_no_block lane)
          (length old.order) empty b

      by : AnsweredAt (made new outs) → GaveTo lane s (BlocksAnswer lane) new
      by told = told.once

      go : GaveIn lane s (BlocksAnswer lane) old.order steps.taken → GaveTo lane s (BlocksAnswer lane) new
      go is =
          by (subst (λ (b : Sofar). AnsweredAt b) (sym steps.after)
          (settled_told lane s (BlocksAnswer lane) (BlocksAnswer lane) (blocks_plain lane) (blocks_plain lane) (λ ms n same. same) (normal_no_block lane)
          (length old.order) empty conn now steps.taken
          (subst IsOrdered (sym is.order) ordered) (omega (arith, ap (λ (es : List Entry). length es) is.order)) is.given))
