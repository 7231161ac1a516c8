-- The windows of a data server and the lanes of its sessions, after each of its steps.
use Rattle.std.proofs.Common.{◌≡◌, ◌≢◌, ◌⊎◌, inl, inr, ℕ, Bool, if◌then◌else◌, List, [], ◌∷◌, refl, sym, ◌∙◌, ap, subst}
use Rattle.std.proofs.lemmas.Bool.{eq-eqb, ne_eqb}
use Rattle.plain_orders.specs.Entries.{live}
use Rattle.data_rules.specs.DataState.{DataState}
use Rattle.data_rules.specs.declared.data_in.DataIn.{DataIn}
use Rattle.data_rules.specs.declared.data_in.DataIn.TheVariants as data_in
use Rattle.data_rules.specs.declared.data_outs.DataOuts.{DataOuts}
use Rattle.data_rules.specs.Puts.{Sofar, window_of}
use Rattle.data_rules.specs.Step.{DataMay, DataStep, made}
use Rattle.cluster_runs.specs.Sent.{Lane}
use Rattle.cluster_runs.specs.Machine.{Site}
use Rattle.cluster_runs.specs.Lanes.{with_data_step}
use Rattle.cluster_runs.specs.Connections.{leaves_conn, leaves_conns, hears_downs}
use Rattle.cluster_runs.specs.Goes.{server_takes, server_site, with_node}
use Rattle.cluster_invariant.specs.Link.{LaneCounts, NodeWindows, WindowIs}
use Rattle.cluster_invariant.proofs.PieceKinds.{Piece, makes}
use Rattle.cluster_invariant.proofs.PieceMay.{Coming, begins}
use Rattle.cluster_invariant.proofs.Pieces.{MayMake, kept_by_pieces}
use Rattle.cluster_invariant.proofs.PiecesOfSteps.{StepFrom, step_pieces}
use Rattle.link_kept.proofs.WindowsGo.{WindowsGo, WindowsGoOn, AllServed, same_or}
use Rattle.link_kept.proofs.WindowPieces.{PutsWell, windows_piece}
use Rattle.link_kept.proofs.LanesAfter.{windows_begin, begins_go, window_after, counts_after, lane_goes}
use Rattle.link_kept.proofs.AppLater.{LaneLater, same_lane}

-- the lanes of a site after a step of its node

record SameLanes (x y : Site) : Type 0 where
  past : y.past ≡ x.past
  lanes : (s k : ℕ) → y.lane_at s k ≡ x.lane_at s k

leaves_same : (conns : List ℕ) (x : Site) → SameLanes x (leaves_conns conns x)
leaves_same [] x = record { past = refl; lanes = λ s k. refl }
leaves_same (conn ∷ conns) x = go (leaves_same conns (leaves_conn conn x))
  where
    go : SameLanes (leaves_conn conn x) (leaves_conns conns (leaves_conn conn x)) → SameLanes x (leaves_conns conns (leaves_conn conn x))
    go t = record { past = t.past; lanes = t.lanes }

takes_same : (input : DataIn) (x : Site) → SameLanes x (server_takes input x)
takes_same (data_in.Frame conn frame) x = record { past = refl; lanes = λ s k. refl }
takes_same (data_in.Connected conn) x = record { past = refl; lanes = λ s k. refl }
takes_same (data_in.Broken conn) x = record { past = refl; lanes = λ s k. refl }
takes_same data_in.Tick x = record { past = refl; lanes = λ s k. refl }
takes_same (data_in.Saved upto) x = record { past = refl; lanes = λ s k. refl }

-- The lanes of the current order grow by the step, and those of others are as they were.
pub record LanesGrow (old new : DataState) (outs : DataOuts) (x y : Site) : Type 0 where
  pub past : y.past ≡ x.past
  pub here : (s : ℕ) → y.lane_at s x.past ≡ with_data_step old new outs.frames s (x.lane_at s x.past)
  pub others : (s k : ℕ) → k ≢ x.past → y.lane_at s k ≡ x.lane_at s k

-- before its lanes grow
abbrev left_site : ℕ → DataIn → DataOuts → DataState → Site → Site
left_site now input outs new x = leaves_conns outs.cuts (hears_downs outs.frames (with_node now new (server_takes input x)))

pub server_lanes : (old : DataState) (now : ℕ) (input : DataIn) (outs : DataOuts) (new : DataState) (x : Site)
    → LanesGrow old new outs x (server_site old now input outs new x)
server_lanes old now input outs new x = go (takes_same input x) (leaves_same outs.cuts (hears_downs outs.frames (with_node now new (server_takes input x))))
  where
    go : SameLanes x (server_takes input x) → SameLanes (hears_downs outs.frames (with_node now new (server_takes input x))) (left_site now input outs new x)
        → LanesGrow old new outs x (server_site old now input outs new x)
    go t u = record {
      past = u.past ∙ t.past;
      here =
          λ s.
          ap (λ (b : Bool). if b then with_data_step old new outs.frames s (z.lane_at s x.past) else z.lane_at s x.past) (eq-eqb x.past z.past (sym (u.past ∙ t.past)))
          ∙ ap (with_data_step old new outs.frames s) (u.lanes s x.past ∙ t.lanes s x.past);
      others =
          λ s k other.
          ap (λ (b : Bool). if b then with_data_step old new outs.frames s (z.lane_at s k) else z.lane_at s k)
          (ne_eqb k z.past (λ same. other (same ∙ u.past ∙ t.past)))
          ∙ u.lanes s k ∙ t.lanes s k;
    }
      where
        z : Site
        z = left_site now input outs new x

-- what holds of windows and lanes
pub record WindowsAfter (x : Site) (n : DataState) : Type 0 where
  pub lanes : (s k : ℕ) → LaneCounts (x.lane_at s k)
  pub windows : NodeWindows x n

-- and after a step: each lane goes on
pub record StepKept (old : DataState) (now : ℕ) (input : DataIn) (outs : DataOuts) (new : DataState) (x : Site) : Type 0 where
  pub windows : WindowsAfter (server_site old now input outs new x) new
  pub goes_on : (s k : ℕ) → LaneLater (x.lane_at s k) ((server_site old now input outs new x).lane_at s k)

-- Each step of a data server keeps its windows and the counts of its lanes, where the sessions that it puts to and takes from are served
-- well, piece by piece.
pub windows_kept_by_step : (x : Site) (old : DataState) (now : ℕ) (input : DataIn) (outs : DataOuts) (new : DataState) → WindowsAfter x old
    → AllServed (λ s. x.lane_at s x.past) old.order old.noted → StepFrom old → DataMay old input → DataStep old now input outs new
    → (S : Sofar → Type 0)
    → ((p : Piece) (b : Sofar) → MayMake (record { old = old; now = now; input = input }) p b → S b
    → WindowsGoOn (live old.order) (λ s. x.lane_at s x.past) b → PutsWell (λ s. x.lane_at s x.past) p b)
    → ((p : Piece) (b : Sofar) → MayMake (record { old = old; now = now; input = input }) p b → S b
    → WindowsGoOn (live old.order) (λ s. x.lane_at s x.past) b → S (makes now p b))
    → S (begins (record { old = old; now = now; input = input })) → StepKept old now input outs new x × S (made new outs)
windows_kept_by_step x old now input outs new h noted from may steps S gives keeps first =
    (record { windows = after (server_lanes old now input outs new x); goes_on = goes_on (server_lanes old now input outs new x) }, goes.1)
  where
    t : Coming
    t = record { old = old; now = now; input = input }

    lane_of : ℕ → Lane
    lane_of s = x.lane_at s x.past

    counts : (s : ℕ) → LaneCounts (lane_of s)
    counts s = h.lanes s x.past

    begun_go : WindowsGo (live old.order) lane_of old.windows old.order
    begun_go = windows_begin lane_of old h.windows.differ h.windows.lives h.windows.each h.windows.none counts

    goes : WindowsGoOn (live old.order) lane_of (made new outs) × S (made new outs)
    goes =
        kept_by_pieces t (λ b. WindowsGoOn (live old.order) lane_of b × S b)
        (λ p b m both. (windows_piece (live old.order) lane_of counts t p b m (gives p b m both.1 both.0) both.0, keeps p b m both.1 both.0))
        (begins t) (made new outs) (step_pieces old now input outs new from may steps) (begins_go (live old.order) lane_of t begun_go, first)

    after : LanesGrow old new outs x (server_site old now input outs new x) → WindowsAfter (server_site old now input outs new x) new
    after g = record {
      lanes = λ s k. counted s k (same_or k x.past);
      windows = record {
        differ = goes.0.differ;
        lives = goes.0.lives;
        each =
            λ s lives.
            subst (λ (z : Lane). WindowIs (window_of new s) z.down z.down_taken z.up_taken) (sym (ap (y.lane_at s) g.past ∙ g.here s))
            (window_after lane_of counts old new outs.frames begun_go h.windows.each noted goes.0 s lives);
        none = λ s lives gone. ap (λ (z : Lane). z.began) (ap (y.lane_at s) g.past ∙ g.here s) ∙ goes.0.none s lives gone;
      };
    }
      where
        y : Site
        y = server_site old now input outs new x

        counted : (s k : ℕ) → (k ≡ x.past) ⊎ (k ≢ x.past) → LaneCounts (y.lane_at s k)
        counted s k (inl same) =
            subst (λ (n : ℕ). LaneCounts (y.lane_at s n)) (sym same)
            (subst LaneCounts (sym (g.here s)) (counts_after lane_of counts old new outs.frames begun_go h.windows.each noted goes.0 s))
        counted s k (inr other) = subst LaneCounts (sym (g.others s k other)) (h.lanes s k)

    goes_on : LanesGrow old new outs x (server_site old now input outs new x) → (s k : ℕ) → LaneLater (x.lane_at s k) ((server_site old now input outs new x).lane_at s k)
    goes_on g s k = by (same_or k x.past)
      where
        y : Site
        y = server_site old now input outs new x

        by : (k ≡ x.past) ⊎ (k ≢ x.past) → LaneLater (x.lane_at s k) (y.lane_at s k)
        by (inl same) =
            subst (λ (n : ℕ). LaneLater (x.lane_at s n) (y.lane_at s n)) (sym same)
            (subst (λ (z : Lane). LaneLater (x.lane_at s x.past) z) (sym (g.here s))
            (lane_goes lane_of counts old new outs.frames begun_go h.windows.each noted goes.0 s))
        by (inr other) = subst (λ (z : Lane). LaneLater (x.lane_at s k) z) (sym (g.others s k other)) (same_lane (x.lane_at s k))
