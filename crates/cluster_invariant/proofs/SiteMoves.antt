-- What keeps a part of the invariant at all data servers: a start, a halt, an application server that goes, and a look.
use Rattle.std.proofs.Common.{◌≡◌, ◌≢◌, ◌≤◌, ℕ, ◌+◌, Bool, true, false, if◌then◌else◌, List, [], ◌∷◌, ◌++◌, length, take, Option, Some, None, is_some, refl, sym, ◌∙◌, ap, subst, arith, ◌==◌}
use Rattle.std.proofs.lemmas.Bool.{false≢true}
use Rattle.std.proofs.lemmas.List.{length-take}
use Rattle.plain_orders.specs.declared.act.Act.{Act}
use Rattle.plain_orders.specs.declared.act.Act.TheVariants as act
use Rattle.plain_orders.specs.declared.entry.Entry.{Entry}
use Rattle.plain_orders.specs.declared.layout.Layout.{Layout}
use Rattle.plain_orders.specs.declared.question.Question.TheVariants.{Get as GetQuestion}
use Rattle.plain_orders.specs.declared.via.Via.TheVariants.{Cached}
use Rattle.plain_orders.specs.Ordered.{IsOrdered}
use Rattle.plain_orders.specs.PairMap.{value_at}
use Rattle.plain_orders.proofs.FrontLemmas.{ordered-take}
use Rattle.plain_runs.specs.Plain.{Known, Plain, Server, put, start, current}
use Rattle.plain_runs.specs.OrderRows.{crashed, opened_with}
use Rattle.plain_runs.specs.Run.{IsRun, after_all, state_after}
use Rattle.plain_runs.specs.Step.{after}
use Rattle.plain_runs.proofs.OrderLaws.{orders_kept}
use Rattle.plain_runs.proofs.RunLemmas.{after_all-append, after_all-more}
use Rattle.app_job.specs.Sites.{Site as Target}
use Rattle.end_words.specs.Runs.{pairs_of}
use Rattle.data_rules.specs.DataState.{DataState}
use Rattle.cluster_runs.specs.declared.move_outs.MoveOuts.{MoveOuts}
use Rattle.cluster_runs.specs.declared.moves.Move.TheVariants.{Begin}
use Rattle.cluster_runs.specs.CoresState.{CoresState, plain_server}
use Rattle.cluster_runs.specs.Goes.{BeginGoes, DieGoes, HaltGoes, LookGoes, at_site, begun_site, dies, halted_site, past_with}
use Rattle.cluster_runs.specs.Machine.{Machine, Site, with_acts}
use Rattle.cluster_runs.specs.Mirrors.{Mirrors}
use Rattle.cluster_runs.specs.Moves.{Allowed, EntriesMay, LaterMay}
use Rattle.cluster_runs.specs.Steps.{begin_act}
use Rattle.cluster_invariant.specs.Holds.{Holds}
use Rattle.cluster_invariant.specs.Orders.{OrderIs, OrdersAgree}
use Rattle.cluster_invariant.proofs.Frame.{others_left}
use Rattle.cluster_invariant.proofs.OrdersStay.{orders_agree}
use Rattle.cluster_invariant.proofs.PastOrders.{order_now}
use Rattle.cluster_invariant.proofs.Small.{at_places, put_same, put_other}

-- the first start of a data server, which has no order yet
pub record FirstStart (v : Server) (x : Site) (es : List Entry) : Type 0 where
  pub shut : v.opened ≡ false
  pub none : v.order ≡ []
  pub first : v.past ≡ []
  pub synced : v.synced ≡ 0
  pub ordered : IsOrdered es
  pub down : is_some x.node ≡ false
  -- its order is in place of none
  pub next : past_with x.order x.past ≡ current v

-- a later one, behind no less than what is synced
pub record LaterStart (v : Server) (x : Site) (es : List Entry) : Type 0 where
  pub opened : v.opened ≡ true
  pub agree : OrdersAgree v
  pub front : es ≡ take (length es) v.order
  pub low : v.synced ≤ length es
  pub within : length es ≤ length v.order
  pub ordered : IsOrdered es
  pub down : is_some x.node ≡ false
  -- its order comes behind the others
  pub next : past_with x.order x.past ≡ current v + 1

-- the act of a start, by what the plain machine opened
begins_act : (l : Layout) (v : Server) (x : Site) (d : ℕ) (es : List Entry) → OrderIs l d v x → (b : Bool) → v.opened ≡ b
    → begin_act x.order d es ≡ begin_act (if b then Some v.order else None) d es
begins_act l v x d es h b opened = ap (λ (o : Option (List Entry)). begin_act o d es) (h.disk ∙ ap (λ (t : Bool). if t then Some v.order else None) opened)

-- what is known at a start
module _ (l : Layout) (c : CoresState) (m : Machine) (server now : ℕ) (es : List Entry) (h : Holds l m) (run : IsRun l m.trail) (shows : Mirrors c m)
    (allowed : Allowed c (Begin server now es)) where
  abbrev x : Site
  x = m.site_at server

  abbrev v : Server
  v = (state_after l m.trail).server_at server

  down : is_some x.node ≡ false
  down = ap (λ (o : Option DataState). is_some o) (sym (shows.nodes server)) ∙ allowed.is_down

  synced : (plain_server c server).synced ≡ v.synced
  synced =
      ap (λ (k : Layout). ((state_after k c.trail).server_at server).synced) (shows.layout ∙ h.layout)
      ∙ ap (λ (ws : List Act). ((state_after l ws).server_at server).synced) shows.trail

  on_disk : (b : Bool) → v.opened ≡ b → x.order ≡ (if b then Some v.order else None)
  on_disk b opened = (h.sites server).order.disk ∙ ap (λ (t : Bool). if t then Some v.order else None) opened

  may : (b : Bool) → v.opened ≡ b → EntriesMay (if b then Some v.order else None) (plain_server c server).synced es
  may b opened =
      subst (λ (o : Option (List Entry)). EntriesMay o (plain_server c server).synced es)
      (shows.orders server ∙ on_disk b opened) allowed.kept

  first_start : v.opened ≡ false → FirstStart v x es
  first_start shut = record {
    shut = shut;
    none = fresh.0;
    first = fresh.1;
    synced = omega (arith, (orders_kept l m.trail server run).within, ap (λ (xs : List Entry). length xs) fresh.0);
    ordered = may false shut;
    down = down;
    next = ap (λ (o : Option (List Entry)). past_with o x.past) (on_disk false shut) ∙ (h.sites server).order.past;
  }
    where
      fresh : (v.order ≡ []) × (v.past ≡ [])
      fresh = (orders_kept l m.trail server run).fresh shut

  later_start : v.opened ≡ true → LaterStart v x es
  later_start opened = record {
    opened = opened;
    agree = orders_agree l m.trail server run;
    front = kept.front;
    low = subst (λ (n : ℕ). n ≤ length es) synced kept.no_less;
    within = omega (arith, ap (λ (xs : List Entry). length xs) kept.front, length-take (length es) v.order);
    ordered =
        subst IsOrdered (sym kept.front)
        (ordered-take v.order (length es) (subst IsOrdered (order_now v) ((orders_agree l m.trail server run).ordered (current v) (omega arith))));
    down = down;
    next = ap (λ (o : Option (List Entry)). past_with o x.past) (on_disk true opened) ∙ omega (arith, (h.sites server).order.past);
  }
    where
      kept : LaterMay v.order (plain_server c server).synced es
      kept = may true opened

-- A part of the invariant, by who is dead, the data server, its plain one and its site.
module _ (R : (ℕ → Bool) → ℕ → Server → Site → Type 0) where
  -- it holds at all data servers
  abbrev pub Everywhere : Plain → Machine → Type 0
  Everywhere p m = (d : ℕ) → R m.is_dead_at d (p.server_at d) (m.site_at d)

  -- One site is changed, with acts that leave the other servers.
  pub kept_at_one : (l : Layout) (m new : Machine) (server : ℕ) (f : Site → Site) (written : List Act) → Everywhere (state_after l m.trail) m
      → new ≡ with_acts written (at_site server f m)
      → ((e : ℕ) → e ≢ server → (after_all l (state_after l m.trail) written).server_at e ≡ (state_after l m.trail).server_at e)
      → R m.is_dead_at server ((after_all l (state_after l m.trail) written).server_at server) (f (m.site_at server)) → Everywhere (state_after l new.trail) new
  kept_at_one l m new server f written before after others here =
      subst (λ (n : Machine). Everywhere (state_after l n.trail) n) (sym after)
      (subst (λ (q : Plain). Everywhere q (with_acts written (at_site server f m))) (sym (after_all-append l start m.trail written))
      (others_left l (state_after l m.trail) (after_all l (state_after l m.trail) written) m server (f (m.site_at server)) (λ d v x. R m.is_dead_at d v x) before others here))

  -- Each start of a data server.
  pub kept_by_start : (l : Layout) (c : CoresState) (m : Machine) (server now : ℕ) (es : List Entry) (outs : MoveOuts) (written : List Act) (new : Machine)
      → Holds l m → IsRun l m.trail → Mirrors c m → Allowed c (Begin server now es) → BeginGoes m server now es outs written new → Everywhere (state_after l m.trail) m
      → (FirstStart ((state_after l m.trail).server_at server) (m.site_at server) es → R m.is_dead_at server
      (opened_with (state_after l m.trail).clock l.times.round ((state_after l m.trail).server_at server) es) (begun_site l server now es (m.site_at server)))
      → (LaterStart ((state_after l m.trail).server_at server) (m.site_at server) es → R m.is_dead_at server
      (crashed (state_after l m.trail).clock l.times.round ((state_after l m.trail).server_at server) (length es)) (begun_site l server now es (m.site_at server)))
      → Everywhere (state_after l new.trail) new
  kept_by_start l c m server now es outs written new h run shows allowed goes before first later = go was.opened refl
    where
      p : Plain
      p = state_after l m.trail

      was : Server
      was = p.server_at server

      -- with the act that is written
      by : (a : Act) → begin_act (m.site_at server).order server es ≡ a → ((e : ℕ) → e ≢ server → (after_all l p (a ∷ [])).server_at e ≡ p.server_at e)
          → R m.is_dead_at server ((after_all l p (a ∷ [])).server_at server) (begun_site l server now es (m.site_at server)) → Everywhere (state_after l new.trail) new
      by a is others here =
          kept_at_one l m new server (begun_site l server now es) (a ∷ []) before
          (goes.after ∙ ap (λ (ws : List Act). with_acts ws (at_site server (begun_site m.layout server now es) m)) (goes.acts ∙ ap (λ (b : Act). b ∷ []) is)
          ∙ ap (λ (k : Layout). with_acts (a ∷ []) (at_site server (begun_site k server now es) m)) h.layout)
          others here

      go : (b : Bool) → was.opened ≡ b → Everywhere (state_after l new.trail) new
      go false shut =
          by (act.Opened server es) (begins_act l was (m.site_at server) server es (h.sites server).order false shut) (λ e other. put_other p.server_at server _ e other)
          (subst (λ (w : Server). R m.is_dead_at server w (begun_site l server now es (m.site_at server)))
          (sym (put_same p.server_at server (opened_with p.clock l.times.round was es))) (first (first_start l c m server now es h run shows allowed shut)))
      go true opened =
          by (act.Crash server (length es)) (begins_act l was (m.site_at server) server es (h.sites server).order true opened)
          (λ e other. put_other p.server_at server _ e other)
          (subst (λ (w : Server). R m.is_dead_at server w (begun_site l server now es (m.site_at server)))
          (sym (put_same p.server_at server (crashed p.clock l.times.round was (length es)))) (later (later_start l c m server now es h run shows allowed opened)))

  -- A halt.
  pub kept_by_halt : (l : Layout) (m : Machine) (server : ℕ) (outs : MoveOuts) (written : List Act) (new : Machine) → HaltGoes m server outs written new
      → Everywhere (state_after l m.trail) m → R m.is_dead_at server ((state_after l m.trail).server_at server) (halted_site (m.site_at server))
      → Everywhere (state_after l new.trail) new
  kept_by_halt l m server outs written new goes before here =
      subst (λ (n : Machine). Everywhere (state_after l n.trail) n) (sym goes.after)
      (others_left l (state_after l m.trail) (state_after l m.trail) m server (halted_site (m.site_at server)) (λ d v z. R m.is_dead_at d v z) before (λ e other. refl) here)

  -- An application server that goes: who lives then lived before.
  pub kept_by_death : (l : Layout) (m : Machine) (app : ℕ) (outs : MoveOuts) (written : List Act) (new : Machine) → DieGoes m app outs written new
      → (((a : ℕ) → put m.is_dead_at app true a ≡ false → m.is_dead_at a ≡ false) → (d : ℕ)
      → R (put m.is_dead_at app true) d ((state_after l m.trail).server_at d) ((dies app m).site_at d)) → Everywhere (state_after l new.trail) new
  kept_by_death l m app outs written new goes each =
      subst (λ (n : Machine). Everywhere (state_after l n.trail) n) (sym goes.after)
      (subst (λ (ws : List Act). Everywhere (state_after l (m.trail ++ ws)) (with_acts ws (dies app m))) (sym goes.acts)
      (subst (λ (q : Plain). Everywhere q (with_acts (act.Died app ∷ []) (dies app m))) (sym (after_all-more l start m.trail (act.Died app))) (each alive)))
    where
      alive : (a : ℕ) → put m.is_dead_at app true a ≡ false → m.is_dead_at a ≡ false
      alive a = go (a == app)
        where
          go : (b : Bool) → (if b then true else m.is_dead_at a) ≡ false → m.is_dead_at a ≡ false
          go true is = absurd (false≢true (sym is))
          go false is = is

  -- A look, which changes what jobs know.
  pub kept_by_look : (l : Layout) (m : Machine) (app job line : ℕ) (at : Target) (outs : MoveOuts) (written : List Act) (new : Machine)
      → LookGoes m app job line at outs written new → Everywhere (state_after l m.trail) m
      → ((knows : ℕ → Known) → R m.is_dead_at at.server (record ((state_after l m.trail).server_at at.server) { known_at = knows }) (m.site_at at.server))
      → Everywhere (state_after l new.trail) new
  kept_by_look l m app job line at outs written new goes before here =
      subst (λ (n : Machine). Everywhere (state_after l n.trail) n) (sym goes.after)
      (subst (λ (ws : List Act). (d : ℕ) → R m.is_dead_at d ((state_after l (m.trail ++ ws)).server_at d) (m.site_at d)) (sym goes.acts)
      (subst (λ (q : Plain). (d : ℕ) → R m.is_dead_at d (q.server_at d) (m.site_at d)) (sym (after_all-more l start m.trail look)) each))
    where
      p : Plain
      p = state_after l m.trail

      look : Act
      look = act.Read job line at.server goes.front.n Cached (GetQuestion at.key (value_at (pairs_of goes.run) at.key))

      each : (d : ℕ) → R m.is_dead_at d ((after l p look).server_at d) (m.site_at d)
      each d = at_places (λ (e : ℕ) (u : Server). R m.is_dead_at e u (m.site_at e)) p.server_at at.server _ (here _) (λ e other. before e) d
