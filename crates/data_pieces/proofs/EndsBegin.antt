-- What goes along of a node's ends holds as a step of it begins.
use Rattle.std.proofs.Common.{◌≡◌, ◌≢◌, ◌≤◌, ℕ, Bool, true, false, ◌&&◌, cond, not, List, [], ◌∷◌, map, length, Option, Some, None, refl, sym, ◌∙◌, ap, subst}
use Rattle.std.specs.Prelude.{IfSome, nat_lt}
use Rattle.std.specs.List.{AllByRecursion, list_any}
use Rattle.std.proofs.lemmas.Bool.{true≢false}
use Rattle.plain_orders.specs.declared.act.Act.TheVariants as act
use Rattle.plain_orders.specs.declared.layout.Layout.{Layout}
use Rattle.plain_orders.specs.Entries.{last_epoch}
use Rattle.plain_orders.specs.Ordered.{IsOrdered}
use Rattle.plain_runs.specs.Plain.{Plain, Server}
use Rattle.plain_runs.specs.Run.{after_all}
use Rattle.plain_runs.proofs.RunLemmas.{at_put}
use Rattle.data_rules.specs.DataState.{DataState}
use Rattle.data_rules.specs.declared.data_in.DataIn.{DataIn}
use Rattle.data_rules.specs.declared.data_in.DataIn.TheVariants as data_in
use Rattle.data_rules.specs.declared.rows.Caller.{Caller}
use Rattle.data_rules.specs.Callers.{caller_conn}
use Rattle.data_rules.specs.Puts.{begun}
use Rattle.data_rules.specs.Saving.{writes_synced}
use Rattle.cluster_runs.specs.CoresState.{Linked}
use Rattle.cluster_runs.specs.Connections.{link_of}
use Rattle.cluster_runs.specs.Machine.{Site}
use Rattle.cluster_invariant.specs.Ends.{CallerIs, CallersAre, NodeEnds, app_of_caller}
use Rattle.cluster_invariant.specs.Words.{all_differ, is_same}
use Rattle.cluster_invariant.proofs.AllLists.{all_both, all_follow}
use Rattle.cluster_invariant.proofs.PieceMay.{begins}
use Rattle.cluster_invariant.proofs.PiecesOfSteps.{synced_state}
use Rattle.data_pieces.proofs.CallersGo.{CallersOf, WaitsOn, differs_all, none_has, parts}
use Rattle.data_pieces.proofs.ConnLists.{Differ}
use Rattle.data_pieces.proofs.EndsGo.{grown_none, EndsGo}
use Rattle.data_pieces.proofs.LinksGo.{LinksGo, link_same, links_stay}
use Rattle.data_pieces.proofs.PlainView.{SameView, same_view, view}
use Rattle.data_pieces.proofs.RoundOn.{RoundOn, ends_round}

-- the Hellos

-- connections of different application servers differ
conns_apart : (n : DataState) (x : Site) (cs : List Caller) → AllByRecursion (CallerIs n x) cs → all_differ (map app_of_caller cs) ≡ true → all_differ (map caller_conn cs) ≡ true
conns_apart n x [] each differ = refl
conns_apart n x (c ∷ cs) each differ = ap (λ (b : Bool). not b && all_differ (map caller_conn cs)) none ∙ conns_apart n x cs each.1 (parts c.app (map app_of_caller cs) differ).1
  where
    apart : (y : Caller) → CallerIs n x y → y.app ≢ c.app → y.conn ≢ c.conn
    apart y its differs same = differs (app_of (record { app = y.app; dial = its.linked.dial }) (record { app = c.app; dial = each.0.linked.dial }) (sym its.linked.link ∙ ap (link_of x) same ∙ each.0.linked.link))
      where
        app_of : (a b : Linked) → Some a ≡ Some b → a.app ≡ b.app
        app_of a b is = cc

    none : list_any (is_same c.conn) (map caller_conn cs) ≡ false
    none =
        none_has caller_conn c.conn cs
        (all_follow (λ y. CallerIs n x y × (y.app ≢ c.app)) (λ y. y.conn ≢ c.conn) (λ y h. apart y h.0 h.1) cs
        (all_both (CallerIs n x) (λ y. y.app ≢ c.app) cs each.1 (differs_all app_of_caller c.app cs (parts c.app (map app_of_caller cs) differ).0)))

callers_begin : (n : DataState) (x : Site) → CallersAre n x → CallersOf n.conns n.order n.callers
callers_begin n x h = record {
  each = all_follow (CallerIs n x) (WaitsOn n.conns n.order) (λ c its. (its.waits, its.free)) n.callers h.each;
  one_each = h.one_each;
  apart = conns_apart n x n.callers h.each h.one_each;
  all = h.all;
}

-- what a node has beside its ends
pub record NodeHas (d : ℕ) (v : Server) (n : DataState) : Type 0 where
  pub server : n.server ≡ d
  pub ordered : IsOrdered n.order
  pub started : last_epoch n.order ≢ 0
  pub order : v.order ≡ n.order
  pub differ : Differ n.conns
  pub within : n.synced ≤ length n.order

links_begin : (d : ℕ) (v : Server) (x : Site) (n : DataState) → NodeHas d v n → NodeEnds v x n → LinksGo d v n
links_begin d v x n o h = record {
  server = o.server;
  ordered = o.ordered;
  started = o.started;
  order = o.order;
  differ = o.differ;
  places = h.places;
  links = h.links;
  due = h.round.due;
  unbroken = h.round.unbroken;
}

-- how much is synced doesn't matter to them
links_synced : (d : ℕ) (v w : Server) (n : DataState) (upto : ℕ) → SameView v w → LinksGo d v n → LinksGo d w (record n { synced = upto })
links_synced d v w n upto s h = record {
  server = h.server;
  ordered = h.ordered;
  started = h.started;
  order = s.order ∙ h.order;
  differ = h.differ;
  places = h.places;
  links = links_stay v w n (record n { synced = upto }) refl (λ app link is. link_same v w n (record n { synced = upto }) app link (λ broke at. ap (λ (f : ℕ → Option ℕ). f app) s.ends) refl refl (λ q at. refl) is) h.links;
  due = h.due ∙ sym s.due;
  unbroken = subst (λ (f : ℕ → Option ℕ). IfSome n.round (λ r. (app : ℕ) → f app ≡ None)) (sym s.ends) h.unbroken;
}

-- the plain server after the act of a save, if one is written
saved_view : (l : Layout) (p : Plain) (d k upto : ℕ) (old : DataState) (rises : Bool) → SameView (p.server_at d) (view l p d k (writes_synced rises upto (begun old)).outs.acts)
saved_view l p d k upto old false = same_view (p.server_at d)
saved_view l p d k upto old true = go (nat_lt k upto)
  where
    go : (b : Bool) → SameView (p.server_at d) ((after_all l p (cond b (act.Synced old.server upto ∷ []) [])).server_at d)
    go true = at_put SameView p.server_at old.server _ same_view (record { ends = refl; due = refl; order = refl }) d
    go false = same_view (p.server_at d)

-- All of it, as a step begins.
pub ends_begin : (l : Layout) (p : Plain) (d k : ℕ) (W : Caller → Type 0) (x : Site) (old : DataState) (now : ℕ) (input : DataIn) → NodeHas d (p.server_at d) old → NodeEnds (p.server_at d) x old → AllByRecursion W old.callers
    → EndsGo (record { old = old; now = now; input = input }) W d (view l p d k (begins (record { old = old; now = now; input = input })).outs.acts) (begins (record { old = old; now = now; input = input })).state
ends_begin l p d k W x old now input o h whence = go input
  where
    on : RoundOn old
    on = record { over = h.round.is_on; calls = h.callers.out_of_round; within = o.within }

    same : (i : DataIn) → (ends_round i ≡ false → RoundOn old) → EndsGo (record { old = old; now = now; input = i }) W d (p.server_at d) old
    same i still = record { links = links_begin d (p.server_at d) x old o h; callers = callers_begin old x h.callers; on = still; grown = grown_none old.order; whence = whence }

    go : (i : DataIn)
        → EndsGo (record { old = old; now = now; input = i }) W d (view l p d k (begins (record { old = old; now = now; input = i })).outs.acts) (begins (record { old = old; now = now; input = i })).state
    go (data_in.Frame conn up) = same (data_in.Frame conn up) (λ still. on)
    go (data_in.Connected conn) = same (data_in.Connected conn) (λ still. on)
    go (data_in.Broken conn) = same (data_in.Broken conn) (λ still. on)
    go data_in.Tick = same data_in.Tick (λ still. on)
    go (data_in.Saved upto) =
        subst (λ (n : DataState). EndsGo (record { old = old; now = now; input = data_in.Saved upto }) W d (view l p d k (writes_synced (nat_lt old.synced upto) upto (begun old)).outs.acts) n)
        (sym (synced_state upto (begun old)))
        (record {
          links = links_synced d (p.server_at d) (view l p d k (writes_synced (nat_lt old.synced upto) upto (begun old)).outs.acts) old upto (saved_view l p d k upto old (nat_lt old.synced upto)) (links_begin d (p.server_at d) x old o h);
          callers = callers_begin old x h.callers;
          on = λ still. absurd (true≢false still);
          grown = grown_none old.order;
          whence = whence;
        })
