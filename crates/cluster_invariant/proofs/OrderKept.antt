-- The data server's order stays the plain one.
use Rattle.std.proofs.Common.{◌≡◌, ◌≢◌, ◌≤◌, ℕ, zero, suc, ◌+◌, Bool, true, false, max, List, [], ◌∷◌, ◌++◌, length, take, Option, Some, None, refl, sym, ◌∙◌, ap, subst, arith, if◌then◌else◌, option_map, ◌&&◌, ◌==◌, ◌<◌}
use Rattle.std.proofs.lemmas.Bool.{ne_eqb, false≢true}
use Rattle.std.proofs.lemmas.List.{length-append}
use Rattle.std.specs.Prelude.{IfSome}
use Rattle.std.specs.List.{AllByRecursion}
use Rattle.plain_orders.specs.declared.entry.Entry.{Entry}
use Rattle.plain_orders.specs.declared.entry.Entry.TheVariants.{Epoch}
use Rattle.plain_orders.specs.declared.layout.Layout.{Layout}
use Rattle.plain_orders.specs.declared.layout.Times.{Times}
use Rattle.plain_orders.specs.Entries.{last_epoch}
use Rattle.plain_runs.specs.Plain.{Plain, Server, current}
use Rattle.plain_runs.specs.OrderRows.{opened_with, crashed}
use Rattle.link_states.specs.declared.data_link.DataLink.TheVariants.{Recovering}
use Rattle.data_rules.specs.declared.data_in.DataIn.{DataIn}
use Rattle.data_rules.specs.declared.data_in.DataIn.TheVariants as data_in
use Rattle.data_rules.specs.declared.data_outs.DataOuts.{DataOuts}
use Rattle.data_rules.specs.declared.rows.LiveEnd.{LiveEnd}
use Rattle.data_rules.specs.DataState.{DataState}
use Rattle.data_rules.specs.Conns.{with_link}
use Rattle.data_rules.specs.Step.{recovering, started, with_epoch}
use Rattle.data_rules.specs.Opening.{live_ends}
use Rattle.plain_orders.specs.Times.{until}
use Rattle.cluster_runs.specs.Sent.{Connection, no_lane, Place, Lane}
use Rattle.cluster_runs.specs.Machine.{Site, DataConnection, End}
use Rattle.cluster_runs.specs.Connections.{leaves_conn, leaves_conns, hears_downs, left, at_each}
use Rattle.cluster_runs.specs.Goes.{server_takes, server_site, with_node, past_with, begun_site, halted_site, at_told}
use Rattle.cluster_invariant.specs.Orders.{disk_order, synced_first, NodeOrder, OrderIs}
use Rattle.cluster_invariant.proofs.Small.{of_some, some_kept, if_not}
use Rattle.cluster_invariant.proofs.Deeds.{Deed, DeedIs, order_by}
use Rattle.cluster_invariant.proofs.Written.{place_kept, next_place}
use Rattle.cluster_invariant.proofs.OrderRows.{StepWrote}

-- a site of which connections alone changed
record SameOrder (x y : Site) : Type 0 where
  node : y.node ≡ x.node
  order : y.order ≡ x.order
  past : y.past ≡ x.past
  lanes : (s k : ℕ) → y.lane_at s k ≡ x.lane_at s k

leaves_same : (conns : List ℕ) (x : Site) → SameOrder x (leaves_conns conns x)
leaves_same [] x = record { node = refl; order = refl; past = refl; lanes = λ s k. refl }
leaves_same (conn ∷ conns) x = go (leaves_same conns (leaves_conn conn x))
  where
    go : SameOrder (leaves_conn conn x) (leaves_conns conns (leaves_conn conn x)) → SameOrder x (leaves_conns conns (leaves_conn conn x))
    go t = record { node = t.node; order = t.order; past = t.past; lanes = t.lanes }

takes_same : (input : DataIn) (x : Site) → SameOrder x (server_takes input x)
takes_same (data_in.Frame conn frame) x = record { node = refl; order = refl; past = refl; lanes = λ s k. refl }
takes_same (data_in.Connected conn) x = record { node = refl; order = refl; past = refl; lanes = λ s k. refl }
takes_same (data_in.Broken conn) x = record { node = refl; order = refl; past = refl; lanes = λ s k. refl }
takes_same data_in.Tick x = record { node = refl; order = refl; past = refl; lanes = λ s k. refl }
takes_same (data_in.Saved upto) x = record { node = refl; order = refl; past = refl; lanes = λ s k. refl }

-- a site after a step of its node
pub record StepSite (x : Site) (new : DataState) (y : Site) : Type 0 where
  pub node : y.node ≡ Some new
  pub order : y.order ≡ Some new.order
  pub past : y.past ≡ x.past
  pub lanes : (s k : ℕ) → k ≢ x.past → y.lane_at s k ≡ x.lane_at s k

-- before its lanes grow
abbrev left_site : ℕ → DataIn → DataOuts → DataState → Site → Site
left_site now input outs new x = leaves_conns outs.cuts (hears_downs outs.frames (with_node now new (server_takes input x)))

pub step_site : (old : DataState) (now : ℕ) (input : DataIn) (outs : DataOuts) (new : DataState) (x : Site) → StepSite x new (server_site old now input outs new x)
step_site old now input outs new x = go (takes_same input x) (leaves_same outs.cuts (hears_downs outs.frames (with_node now new (server_takes input x))))
  where
    go : SameOrder x (server_takes input x) → SameOrder (hears_downs outs.frames (with_node now new (server_takes input x))) (left_site now input outs new x)
        → StepSite x new (server_site old now input outs new x)
    go t u = record {
      node = u.node;
      order = u.order;
      past = u.past ∙ t.past;
      lanes = λ s k other. if_not _ _ _ (ne_eqb k (left_site now input outs new x).past (λ same. other (same ∙ u.past ∙ t.past))) ∙ u.lanes s k ∙ t.lanes s k;
    }

-- the first Epoch stays where it is
first_kept : (past : ℕ) (ds : List Deed) (es : List Entry) → AllByRecursion DeedIs ds → synced_first past (order_by ds es) ≡ synced_first past es
first_kept zero ds es may = place_kept ds es may
first_kept (suc past) ds es may = refl

-- the disk's order, by what the plain machine opened
on_disk : (v : Server) → v.opened ≡ true → disk_order v ≡ Some v.order
on_disk v opened = ap (λ (b : Bool). if b then Some v.order else None) opened

-- a node after a step
node_kept : (l : Layout) (d past : ℕ) (p q : Plain) (old new : DataState) → NodeOrder l d past (p.server_at d) old → StepWrote d old new p q → NodeOrder l d past (q.server_at d) new
node_kept l d past p q old new o w = record {
  its_server = w.server ∙ o.its_server;
  its_times = w.times ∙ o.its_times;
  opened = w.opened ∙ o.opened;
  order = w.its ∙ ap (order_by w.deeds) o.order ∙ sym w.order;
  synced =
      w.synced ∙ omega (arith, w.no_less, o.synced)
      ∙ ap (λ (n : ℕ). max new.synced n) (sym (ap (synced_first past) w.order ∙ first_kept past w.deeds (p.server_at d).order w.may));
}

-- Each step of a data server keeps it.
pub order_kept_by_step : (l : Layout) (d : ℕ) (p q : Plain) (x y : Site) (old new : DataState)
    → OrderIs l d (p.server_at d) x → x.node ≡ Some old → StepSite x new y → StepWrote d old new p q → OrderIs l d (q.server_at d) y
order_kept_by_step l d p q x y old new h runs s w = go (of_some (NodeOrder l d x.past (p.server_at d)) x.node old runs h.node)
  where
    go : NodeOrder l d x.past (p.server_at d) old → OrderIs l d (q.server_at d) y
    go o = record {
      past = s.past ∙ h.past ∙ sym (ap (λ (xs : List (List Entry)). length xs) w.past);
      disk = s.order ∙ ap Some (n.order) ∙ sym (on_disk (q.server_at d) n.opened);
      node = subst (λ (z : Option DataState). IfSome z (NodeOrder l d y.past (q.server_at d))) (sym s.node) (subst (λ (k : ℕ). NodeOrder l d k (q.server_at d) new) (sym s.past) n);
      no_conns = λ shut conn. absurd (false≢true (sym shut ∙ n.opened));
      to_come = λ session k later. to_come session k (subst (λ (z : Option (List Entry)). past_with z y.past ≤ k) s.order later);
    }
      where
        n : NodeOrder l d x.past (q.server_at d) new
        n = node_kept l d x.past p q old new o w

        to_come : (session k : ℕ) → y.past + 1 ≤ k → y.lane_at session k ≡ no_lane
        to_come session k later =
            s.lanes session k (λ same. absurd (omega (arith, later, s.past, same)))
            ∙ h.to_come session k (subst (λ (z : Option (List Entry)). past_with z x.past ≤ k) (sym (h.disk ∙ on_disk (p.server_at d) o.opened)) (omega (arith, later, s.past)))

-- starts

-- a node that starts
record Starts (d : ℕ) (times : Times) (es : List Entry) (synced : ℕ) (n : DataState) : Type 0 where
  server : n.server ≡ d
  times_are : n.times ≡ times
  order : n.order ≡ es
  reached : n.synced ≡ synced

recovering_starts : (xs : List LiveEnd) (due d : ℕ) (times : Times) (es : List Entry) (synced : ℕ) (n : DataState) → Starts d times es synced n → Starts d times es synced (recovering xs due n)
recovering_starts [] due d times es synced n s = s
recovering_starts (x ∷ xs) due d times es synced n s =
    recovering_starts xs due d times es synced (with_link x.app (Recovering due) n) (record { server = s.server; times_are = s.times_are; order = s.order; reached = s.reached })

-- before its round
abbrev waiting_node : ℕ → Times → List Entry → ℕ → DataState
waiting_node d times es now = recovering (live_ends es) (until now times.round) (with_epoch d times es)

started_starts : (d : ℕ) (times : Times) (es : List Entry) (now : ℕ) → Starts d times (es ++ Epoch (last_epoch es + 1) ∷ []) (length es) (started d times es now)
started_starts d times es now =
    go (recovering_starts (live_ends es) (until now times.round) d times (es ++ Epoch (last_epoch es + 1) ∷ []) (length es) (with_epoch d times es) (record { server = refl; times_are = refl; order = refl; reached = refl }))
  where
    go : Starts d times (es ++ Epoch (last_epoch es + 1) ∷ []) (length es) (waiting_node d times es now) → Starts d times (es ++ Epoch (last_epoch es + 1) ∷ []) (length es) (started d times es now)
    go s = record { server = s.server; times_are = s.times_are; order = s.order; reached = s.reached }

-- a node that starts, against what the plain machine then has
node_begins : (l : Layout) (d past now : ℕ) (es : List Entry) (v : Server) → v.opened ≡ true → es ++ Epoch (last_epoch es + 1) ∷ [] ≡ v.order
    → v.synced ≡ max (length es) (synced_first past v.order) → NodeOrder l d past v (started d l.times es now)
node_begins l d past now es v opened order synced = go (started_starts d l.times es now)
  where
    go : Starts d l.times (es ++ Epoch (last_epoch es + 1) ∷ []) (length es) (started d l.times es now) → NodeOrder l d past v (started d l.times es now)
    go s = record {
      its_server = s.server;
      its_times = s.times_are;
      opened = opened;
      order = s.order ∙ order;
      synced = synced ∙ ap (λ (n : ℕ). max n (synced_first past v.order)) (sym s.reached);
    }

-- a site whose node starts
begun_order : (l : Layout) (d past now : ℕ) (es : List Entry) (v w : Server) (x : Site) → OrderIs l d v x → past_with x.order x.past ≡ past
    → past ≡ current w → NodeOrder l d past w (started d l.times es now) → OrderIs l d w (begun_site l d now es x)
begun_order l d past now es v w x h before its n = record {
  past = before ∙ its;
  disk = ap Some n.order ∙ sym (on_disk w n.opened);
  node = subst (λ (k : ℕ). NodeOrder l d k w (started d l.times es now)) (sym before) n;
  no_conns = λ shut conn. absurd (false≢true (sym shut ∙ n.opened));
  to_come = λ session k later. h.to_come session k (omega (arith, later));
}

-- The first start keeps it.
pub order_kept_by_first : (l : Layout) (d now clock : ℕ) (es : List Entry) (v : Server) (x : Site) → OrderIs l d v x → v.opened ≡ false → v.past ≡ []
    → OrderIs l d (opened_with clock l.times.round v es) (begun_site l d now es x)
order_kept_by_first l d now clock es v x h shut none =
    begun_order l d 0 now es v (opened_with clock l.times.round v es) x h
    (ap (λ (o : Option (List Entry)). past_with o x.past) (h.disk ∙ ap (λ (b : Bool). if b then Some v.order else None) shut) ∙ h.past ∙ ap (λ (xs : List (List Entry)). length xs) none)
    (sym (ap (λ (xs : List (List Entry)). length xs) none))
    (node_begins l d 0 now es (opened_with clock l.times.round v es) refl refl (omega (arith, next_place (last_epoch es + 1) 0 0 es)))

-- A later start keeps it.
pub order_kept_by_later : (l : Layout) (d now clock : ℕ) (es : List Entry) (v : Server) (x : Site) → OrderIs l d v x → v.opened ≡ true
    → es ≡ take (length es) v.order → OrderIs l d (crashed clock l.times.round v (length es)) (begun_site l d now es x)
order_kept_by_later l d now clock es v x h opened front =
    begun_order l d (suc (current v)) now es v (crashed clock l.times.round v (length es)) x h
    (ap (λ (o : Option (List Entry)). past_with o x.past) (h.disk ∙ on_disk v opened) ∙ omega (arith, h.past))
    (omega (arith, length-append v.past (v.order ∷ [])))
    (node_begins l d (suc (current v)) now es (crashed clock l.times.round v (length es)) opened (ap (λ (xs : List Entry). xs ++ Epoch (last_epoch xs + 1) ∷ []) front) (omega arith))

-- Halts and what changes connections or ends alone.

pub order_kept_by_halt : (l : Layout) (d : ℕ) (v : Server) (x : Site) → OrderIs l d v x → OrderIs l d v (halted_site x)
order_kept_by_halt l d v x h = record {
  past = h.past;
  disk = h.disk;
  node = tt;
  no_conns = λ shut conn. ap (λ (c : Option DataConnection). option_map left c) (h.no_conns shut conn);
  to_come = h.to_come;
}

-- whatever is changed of connections and ends
pub order_kept_by_each : (l : Layout) (d : ℕ) (v : Server) (f : ℕ → ℕ → Connection → Connection) (x : Site) → OrderIs l d v x → OrderIs l d v (at_each f x)
order_kept_by_each l d v f x h = record { past = h.past; disk = h.disk; node = h.node; no_conns = h.no_conns; to_come = h.to_come }

-- and of the plain server what isn't of its orders
pub order_kept_beside : (l : Layout) (d : ℕ) (v w : Server) (x : Site) → w.opened ≡ v.opened → w.past ≡ v.past → w.order ≡ v.order → w.synced ≡ v.synced → OrderIs l d v x → OrderIs l d w x
order_kept_beside l d v w x opened past order synced h = record {
  past = h.past ∙ sym (ap (λ (xs : List (List Entry)). length xs) past);
  disk = h.disk ∙ sym (ap (λ (b : Bool). if b then Some w.order else None) opened ∙ ap (λ (es : List Entry). if v.opened then Some es else None) order);
  node = some_kept (NodeOrder l d x.past v) (NodeOrder l d x.past w) beside x.node h.node;
  no_conns = λ shut conn. h.no_conns (sym opened ∙ shut) conn;
  to_come = h.to_come;
}
  where
    beside : (n : DataState) → NodeOrder l d x.past v n → NodeOrder l d x.past w n
    beside n o = record {
      its_server = o.its_server;
      its_times = o.its_times;
      opened = opened ∙ o.opened;
      order = o.order ∙ sym order;
      synced = synced ∙ o.synced ∙ ap (λ (es : List Entry). max n.synced (synced_first x.past es)) (sym order);
    }

and_no : (a b : Bool) → b ≡ false → (a && b) ≡ false
and_no true b is_false = is_false
and_no false b is_false = refl

-- A step of an application server keeps it, if the lane that it changes is of an order that was there.
pub order_kept_by_ends : (l : Layout) (d : ℕ) (v : Server) (told : Option Place) (grows : Lane → Lane) (ends : ℕ → End) (x : Site) → OrderIs l d v x
    → IfSome told (λ p. p.order < past_with x.order x.past) → OrderIs l d v (at_told told grows (record x { end_at = ends }))
order_kept_by_ends l d v None grows ends x h there = record { past = h.past; disk = h.disk; node = h.node; no_conns = h.no_conns; to_come = h.to_come }
order_kept_by_ends l d v (Some p) grows ends x h there = record {
  past = h.past;
  disk = h.disk;
  node = h.node;
  no_conns = h.no_conns;
  to_come =
      λ session k later.
      if_not (session == p.session && k == p.order) (grows (x.lane_at session k)) (x.lane_at session k)
      (and_no (session == p.session) (k == p.order) (ne_eqb k p.order (λ same. absurd (omega (arith, same, later, there)))))
      ∙ h.to_come session k later;
}
