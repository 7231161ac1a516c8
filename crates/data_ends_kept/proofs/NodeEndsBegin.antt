-- The data ends of running nodes stay as the invariant has them as a data server starts, at first and later.
use Rattle.std.proofs.Common.{◌≡◌, ◌≢◌, arith, ℕ, Bool, true, false, if◌then◌else◌, List, [], ◌∷◌, length, take, Option, Some, None, refl, sym, ◌∙◌, ap, subst}
use Rattle.plain_orders.specs.declared.act.Act.{Act}
use Rattle.plain_orders.specs.declared.act.Act.TheVariants as act
use Rattle.plain_orders.specs.declared.entry.Entry.{Entry}
use Rattle.plain_orders.specs.declared.layout.Layout.{Layout}
use Rattle.plain_orders.specs.Ordered.{IsOrdered}
use Rattle.plain_orders.proofs.FrontLemmas.{ordered-take}
use Rattle.plain_runs.specs.OrderRows.{crashed, due_of, opened_with}
use Rattle.plain_runs.specs.Plain.{Plain, Server, start}
use Rattle.plain_runs.specs.Run.{IsRun, after_all, state_after}
use Rattle.plain_runs.proofs.Ordered.{ordered_kept}
use Rattle.plain_runs.proofs.RunLemmas.{after_all-append}
use Rattle.cluster_runs.specs.declared.move_outs.MoveOuts.{MoveOuts}
use Rattle.cluster_runs.specs.declared.moves.Move.TheVariants.{Begin}
use Rattle.cluster_runs.specs.CoresState.{CoresState, plain_server}
use Rattle.cluster_runs.specs.Goes.{BeginGoes, at_site, begun_site, past_with}
use Rattle.cluster_runs.specs.Machine.{Machine, Site, with_acts}
use Rattle.cluster_runs.specs.Mirrors.{Mirrors}
use Rattle.cluster_runs.specs.Moves.{Allowed, EntriesMay}
use Rattle.cluster_runs.specs.Sent.{no_lane}
use Rattle.cluster_runs.specs.Steps.{begin_act}
use Rattle.cluster_invariant.specs.Holds.{Holds}
use Rattle.cluster_invariant.proofs.Frame.{others_left}
use Rattle.cluster_invariant.proofs.Small.{put_other, put_same}
use Rattle.data_ends_kept.proofs.NodeEndsMoves.{NodeEndsAt, NodeEndsHold, node_ends_of}
use Rattle.data_ends_kept.proofs.NodeEndsStarts.{node_ends_begin}

-- where one data server moves
pub node_ends_at_one : (l : Layout) (m new : Machine) (server : ℕ) (f : Site → Site) (written : List Act) → Holds l m → new ≡ with_acts written (at_site server f m)
    → ((e : ℕ) → e ≢ server → (after_all l (state_after l m.trail) written).server_at e ≡ (state_after l m.trail).server_at e)
    → NodeEndsAt ((after_all l (state_after l m.trail) written).server_at server) (f (m.site_at server)) → NodeEndsHold l (state_after l new.trail) new
node_ends_at_one l m new server f written h after others here =
    subst (λ (n : Machine). NodeEndsHold l (state_after l n.trail) n) (sym after)
    (subst (λ (q : Plain). NodeEndsHold l q (with_acts written (at_site server f m))) (sym (after_all-append l start m.trail written))
    (others_left l (state_after l m.trail) (after_all l (state_after l m.trail) written) m server (f (m.site_at server)) (λ d v x. NodeEndsAt v x) (node_ends_of l m h) others here))

-- Each start of a data server.
pub node_ends_kept_by_begin : (l : Layout) (c : CoresState) (m : Machine) (server now : ℕ) (es : List Entry) (outs : MoveOuts) (written : List Act) (new : Machine)
    → Holds l m → IsRun l m.trail → Mirrors c m → Allowed c (Begin server now es) → BeginGoes m server now es outs written new → NodeEndsHold l (state_after l new.trail) new
node_ends_kept_by_begin l c m server now es outs written new h run shows allowed goes = go v.opened refl
  where
    p : Plain
    p = state_after l m.trail

    v : Server
    v = p.server_at server

    x : Site
    x = m.site_at server

    same_now : now ≡ p.clock
    same_now = allowed.now_may.clock ∙ shows.clock ∙ sym h.clock

    lanes : (s : ℕ) → x.lane_at s (past_with x.order x.past) ≡ no_lane
    lanes s = (h.sites server).order.to_come s (past_with x.order x.past) (omega arith)

    ends : (w : Server) → w.due ≡ due_of es p.clock l.times.round → ((app : ℕ) → w.end_at app ≡ None) → IsOrdered es → NodeEndsAt w (begun_site m.layout server now es x)
    ends w due unbroken ordered =
        subst (λ (k : Layout). NodeEndsAt w (begun_site k server now es x)) (sym h.layout)
        (node_ends_begin w (begun_site l server now es x) server l.times es now (due ∙ ap (λ (t : ℕ). due_of es t l.times.round) (sym same_now)) unbroken lanes ordered)

    by_act : (a : Act) → begin_act x.order server es ≡ a → ((e : ℕ) → e ≢ server → (after_all l p (a ∷ [])).server_at e ≡ p.server_at e)
        → NodeEndsAt ((after_all l p (a ∷ [])).server_at server) (begun_site m.layout server now es x) → NodeEndsHold l (state_after l new.trail) new
    by_act a is others here =
        node_ends_at_one l m new server (begun_site m.layout server now es) written h goes.after
        (subst (λ (ws : List Act). (e : ℕ) → e ≢ server → (after_all l p ws).server_at e ≡ p.server_at e) (sym acts) others)
        (subst (λ (ws : List Act). NodeEndsAt ((after_all l p ws).server_at server) (begun_site m.layout server now es x)) (sym acts) here)
      where
        acts : written ≡ a ∷ []
        acts = goes.acts ∙ ap (λ (b : Act). b ∷ []) is

    disk_is : (b : Bool) → v.opened ≡ b → x.order ≡ (if b then Some v.order else None)
    disk_is b is = (h.sites server).order.disk ∙ ap (λ (t : Bool). if t then Some v.order else None) is

    may : (b : Bool) → v.opened ≡ b → EntriesMay (if b then Some v.order else None) (plain_server c server).synced es
    may b is = subst (λ (o : Option (List Entry)). EntriesMay o (plain_server c server).synced es) (shows.orders server ∙ disk_is b is) allowed.kept

    go : (b : Bool) → v.opened ≡ b → NodeEndsHold l (state_after l new.trail) new
    go false shut =
        by_act (act.Opened server es) (ap (λ (o : Option (List Entry)). begin_act o server es) (disk_is false shut)) (λ e other. put_other p.server_at server _ e other)
        (subst (λ (w : Server). NodeEndsAt w (begun_site m.layout server now es x)) (sym (put_same p.server_at server (opened_with p.clock l.times.round v es)))
        (ends (opened_with p.clock l.times.round v es) refl (λ app. (h.sites server).ends.unopened shut app) (may false shut)))
    go true is_open =
        by_act (act.Crash server (length es)) (ap (λ (o : Option (List Entry)). begin_act o server es) (disk_is true is_open)) (λ e other. put_other p.server_at server _ e other)
        (subst (λ (w : Server). NodeEndsAt w (begun_site m.layout server now es x)) (sym (put_same p.server_at server (crashed p.clock l.times.round v (length es))))
        (ends (crashed p.clock l.times.round v (length es)) (ap (λ (xs : List Entry). due_of xs p.clock l.times.round) (sym front)) (λ app. refl)
        (subst IsOrdered (sym front) (ordered-take v.order (length es) (ordered_kept l m.trail server run).now))))
      where
        front : es ≡ take (length es) v.order
        front = (may true is_open).front
