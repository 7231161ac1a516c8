-- What a Done and a Fetch give the sessions, before what follows each frame.
use Rattle.std.proofs.Common.{◌≡◌, ◌≢◌, ◌≤◌, ◌⊎◌, inl, inr, ℕ, ◌+◌, Bool, List, ◌∷◌, length, drop, refl, sym, ◌∙◌, ap, subst, arith}
use Rattle.ecp_messages.specs.declared.down.Down.{Down}
use Rattle.ecp_messages.specs.declared.down.Down.TheVariants as down
use Rattle.ecp_messages.specs.declared.up.Up.{Up}
use Rattle.ecp_messages.specs.declared.up.Up.TheVariants as up
use Rattle.ecp_messages.specs.declared.up.UpFrame.{UpFrame}
use Rattle.end_words.specs.Windows.{with_ack, with_taken}
use Rattle.data_rules.specs.DataState.{DataState}
use Rattle.data_rules.specs.declared.data_in.DataIn.TheVariants as data_in
use Rattle.data_rules.specs.Conns.{ends_conn, role_of}
use Rattle.data_rules.specs.Frames.{Ends, TakesFirst, TakesFrame, acknowledged, kind_of, took}
use Rattle.data_rules.specs.Messages.{Takes, TakesDone, TakesFetch}
use Rattle.data_rules.specs.Puts.{Sofar, begun, head_of, puts, window_of}
use Rattle.cluster_runs.specs.Machine.{Site}
use Rattle.cluster_runs.specs.Sent.{Lane}
use Rattle.cluster_invariant.specs.Link.{LaneCounts}
use Rattle.cluster_invariant.specs.Rounds.{is_fetch}
use Rattle.cluster_invariant.proofs.PieceMay.{AcknowledgesMay, Coming, TakesMay}
use Rattle.cluster_invariant.proofs.PutLaws.{only_puts}
use Rattle.link_kept.proofs.FramesFit.{FrameAt, acknowledges_well, takes_well, taken_next}
use Rattle.link_kept.proofs.WindowPieces.{ComesWell, SameWindows}
use Rattle.link_kept.proofs.WindowsGo.{same_or}
use Rattle.rounds_server.proofs.FramesTaken.{ends_same, taken_by}
use Rattle.rounds_server.proofs.Gave.{GaveIn, GaveTo, gave_ack, gave_puts, gave_same, gave_set, gave_taken}
use Rattle.rounds_server.proofs.GivenTests.{BlockDue, BlocksAnswer, NoNormal, block_answers, taken_fetch}

module _ (x : Site) (dead : ℕ → Bool) (old : DataState) (now conn : ℕ) (f : UpFrame) (at_frame : FrameAt x dead old (data_in.Frame conn f)) (s : ℕ)
    (counts : LaneCounts (x.lane_at s x.past))
    (c : Sofar) where
  abbrev lane : Lane
  lane = x.lane_at s x.past

  abbrev t : Coming
  t = record { old = old; now = now; input = data_in.Frame conn f }

  -- it acknowledges what was put before
  ack_low : (q : ℕ) → s ≡ q → ComesWell (λ k. x.lane_at k x.past) q f.ack (begun old) → f.ack ≤ length lane.down
  ack_low q same well = go (subst (λ (k : ℕ). f.ack ≤ (x.lane_at k x.past).down_taken) (sym same) well.came)
    where
      go : f.ack ≤ lane.down_taken → f.ack ≤ length lane.down
      go low = omega (arith, low, counts.down_taken)

  module _ (T : List Down → ℕ → Type 0) (h : GaveTo lane s T old) where
    abbrev In : Sofar → Type 0
    In b = GaveIn lane s T old.order b

    in_ended : Ends (begun old) conn now c → In c
    in_ended ends = subst (λ (b : Sofar). In b) (sym ends.after) (go (ends_same conn now (begun old)))
      where
        go : SameWindows (begun old) (ends_conn conn now (begun old)) → In (ends_conn conn now (begun old))
        go same = record { order = same.order; given = gave_same lane s T (begun old) (ends_conn conn now (begun old)) same h }

    in_acknowledged : (q : ℕ) → AcknowledgesMay t conn q f (begun old) → In (acknowledged q f.ack (begun old))
    in_acknowledged q may = record {
      order = refl;
      given =
          gave_set lane s T T old q (with_ack (window_of old q) f.ack)
          (λ same g. gave_ack lane T (window_of old q) f.ack (ack_low q same (acknowledges_well x dead t at_frame conn q f (begun old) may)) g)
          (λ apart ms n is. is) h;
    }

    in_taken : (U : List Down → ℕ → Type 0) (q : ℕ) → TakesMay t conn q f (begun old)
        → (s ≡ q → (ms : List Down) → T ms (window_of old q).taken → U ms ((window_of old q).taken + 1))
        → (s ≢ q → (ms : List Down) (n : ℕ) → T ms n → U ms n) → GaveTo lane s U (took q f.ack (begun old)).state
    in_taken U q may here there =
        gave_set lane s T U old q (with_taken (window_of old q) f.ack)
        (λ same g. gave_taken lane T U (window_of old q) f.ack (ack_low q same (takes_well x dead t at_frame conn q f (begun old) may).comes)
        (here same) g) there h

  -- A Done gives nothing.
  pub done_given : f.message ≡ up.Done → TakesFrame (role_of old conn) (begun old) conn now f c → GaveTo lane s NoNormal old
      → GaveIn lane s NoNormal old.order c
  done_given says takes h =
      taken_by old now conn f c (λ b. GaveIn lane s NoNormal old.order b) (ap kind_of says)
      (λ first. subst (λ (m : Up). TakesFirst m (begun old) conn now c) says first)
      (in_ended NoNormal h) (record { order = refl; given = h }) (in_acknowledged NoNormal h)
      (λ q may made. done q may (subst (λ (m : Up). Takes m q (took q f.ack (begun old)) c) says made)) takes
    where
      done : (q : ℕ) → TakesMay t conn q f (begun old) → TakesDone (took q f.ack (begun old)) q c → GaveIn lane s NoNormal old.order c
      done q may made =
          subst (λ (b : Sofar). GaveIn lane s NoNormal old.order b) (sym made.after)
          (record { order = refl; given = in_taken NoNormal h NoNormal q may (λ same ms none. none) (λ apart ms n none. none) })

  -- A Fetch gives its Block.
  pub fetch_given : (key : List ℕ) → f.message ≡ up.Fetch key → TakesFrame (role_of old conn) (begun old) conn now f c → GaveTo lane s (BlocksAnswer lane) old
      → GaveIn lane s (BlocksAnswer lane) old.order c
  fetch_given key says takes h =
      taken_by old now conn f c (λ b. GaveIn lane s (BlocksAnswer lane) old.order b) (ap kind_of says)
      (λ first. subst (λ (m : Up). TakesFirst m (begun old) conn now c) says first)
      (in_ended (BlocksAnswer lane) h) (record { order = refl; given = h }) (in_acknowledged (BlocksAnswer lane) h)
      (λ q may made. fetched q may (subst (λ (m : Up). Takes m q (took q f.ack (begun old)) c) says made)) takes
    where
      fetched : (q : ℕ) → TakesMay t conn q f (begun old) → TakesFetch (took q f.ack (begun old)) q key c → GaveIn lane s (BlocksAnswer lane) old.order c
      fetched q may made =
          subst (λ (b : Sofar). GaveIn lane s (BlocksAnswer lane) old.order b) (sym made.after)
          (record { order = ap (λ (d : DataState). d.order) (only_puts q block b).state; given = go (same_or s q) })
        where
          b : Sofar
          b = took q f.ack (begun old)

          block : Down
          block = down.Block (head_of b.state q) made.block

          next : (rest : List Up) × (drop (window_of old q).taken (x.lane_at q x.past).up ≡ f.message ∷ rest)
          next = taken_next x dead t at_frame conn q f (begun old) may

          here : s ≡ q → drop (window_of old q).taken lane.up ≡ f.message ∷ next.0
          here same = ap (λ (k : ℕ). drop (window_of old q).taken (x.lane_at k x.past).up) same ∙ next.1

          go : (s ≡ q) ⊎ (s ≢ q) → GaveTo lane s (BlocksAnswer lane) (puts q block b).state
          go (inl same) =
              gave_puts lane s (BlockDue lane) (BlocksAnswer lane) q block b (λ is ms n due. block_answers lane (head_of b.state q) made.block ms n due)
              (λ apart. absurd (apart same))
              (in_taken (BlocksAnswer lane) h (BlockDue lane) q may
              (λ is ms answer. taken_fetch lane ms (window_of old q).taken f.message next.0 (here same) (ap is_fetch says) answer)
              (λ apart. absurd (apart same)))
          go (inr apart) =
              gave_puts lane s (BlocksAnswer lane) (BlocksAnswer lane) q block b (λ same. absurd (apart same)) (λ is ms n answer. answer)
              (in_taken (BlocksAnswer lane) h (BlocksAnswer lane) q may (λ same. absurd (apart same)) (λ is ms n answer. answer))
