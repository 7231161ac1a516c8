-- The data ends of running nodes stay as the invariant has them over a tick, a look, and a node or an application server that goes.
use Rattle.std.proofs.Common.{◌≡◌, ℕ, Bool, true, false, List, [], ◌∷◌, ◌++◌, Option, Some, None, option_map, refl, sym, ◌∙◌, ap, subst, if◌then◌else◌, ◌==◌}
use Rattle.std.specs.Prelude.{IfSome, IsSomeAnd}
use Rattle.std.specs.List.{AllByRecursion}
use Rattle.plain_orders.specs.declared.act.Act.{Act}
use Rattle.plain_orders.specs.declared.act.Act.TheVariants as act
use Rattle.plain_orders.specs.declared.layout.Layout.{Layout}
use Rattle.plain_orders.specs.declared.question.Question.TheVariants.{Get as GetQuestion}
use Rattle.plain_orders.specs.declared.via.Via.TheVariants.{Cached}
use Rattle.plain_orders.specs.PairMap.{value_at}
use Rattle.end_words.specs.Runs.{pairs_of}
use Rattle.plain_runs.specs.Plain.{Plain, Server, start}
use Rattle.plain_runs.specs.Run.{after_all, state_after}
use Rattle.plain_runs.proofs.RunLemmas.{after_all-append}
use Rattle.app_job.specs.Sites.{Site as Target}
use Rattle.app_job.specs.declared.command.Command.{Command}
use Rattle.app_job.specs.declared.command.Command.TheVariants as commands
use Rattle.cluster_runs.specs.declared.move_outs.MoveOuts.{MoveOuts}
use Rattle.cluster_runs.specs.Connections.{app_leaves, link_in}
use Rattle.cluster_runs.specs.Goes.{TickGoes, LookGoes, LookedGoes, DieGoes, HaltGoes, dies, halted_site}
use Rattle.cluster_runs.specs.Machine.{Machine, Site, DataConnection}
use Rattle.cluster_runs.specs.Sent.{Connection}
use Rattle.cluster_invariant.specs.Dials.{LinkedTo}
use Rattle.cluster_invariant.specs.Ends.{HelloAlone, NodeEnds}
use Rattle.cluster_invariant.specs.Holds.{Holds}
use Rattle.cluster_invariant.proofs.Frame.{kept_by_tick, others_left}
use Rattle.data_ends_kept.proofs.NodeEndsBeside.{SameCalls, some_beside}
use Rattle.data_ends_kept.proofs.SameBreaks.{leaves_breaks, rows_breaks}

-- the data end of a site's node
abbrev pub NodeEndsAt : Server → Site → Type 0
NodeEndsAt v x = IfSome x.node (NodeEnds v x)

abbrev pub NodeEndsHold : Layout → Plain → Machine → Type 0
NodeEndsHold l p m = (d : ℕ) → NodeEndsAt (p.server_at d) (m.site_at d)

pub node_ends_of : (l : Layout) (m : Machine) → Holds l m → NodeEndsHold l (state_after l m.trail) m
node_ends_of l m h d = (h.sites d).ends.node

-- a Hello that is alone on its connection is so after a step, and its first frame was taken where it was
abbrev pub AloneStill : Connection → Connection → Type 0
AloneStill c k = (k.first ≡ c.first) × HelloAlone k

-- each such connection of a site is so still in another
abbrev pub AllAlone : Site → Site → Type 0
AllAlone x y = (app dial : ℕ) (c : Connection) → (x.end_at app).connection_at dial ≡ Some c → HelloAlone c → IsSomeAnd ((y.end_at app).connection_at dial) (AloneStill c)

some_of : (o : Option Connection) (P Q : Connection → Type 0) → IsSomeAnd o P → IsSomeAnd o Q → (c : Connection) × ((o ≡ Some c) × P c × Q c)
some_of None P Q p q = absurd p
some_of (Some c) P Q p q = (c, (refl, p, q))

some_both : (o : Option Connection) (P Q : Connection → Type 0) → ((c : Connection) → P c → Q c) → IsSomeAnd o P → IsSomeAnd o Q
some_both None P Q f p = absurd p
some_both (Some c) P Q f p = f c p

pub alone_by : (x y : Site) → y.connection_at ≡ x.connection_at → y.past ≡ x.past → AllAlone x y → (conn app : ℕ) → LinkedTo x conn app HelloAlone → LinkedTo y conn app HelloAlone
alone_by x y conns past all conn app h = go (some_of ((x.end_at app).connection_at h.dial) (λ c. c.first ≡ Some (record { order = x.past; conn = conn })) HelloAlone h.first h.its)
  where
    go : (c : Connection) × (((x.end_at app).connection_at h.dial ≡ Some c) × (c.first ≡ Some (record { order = x.past; conn = conn })) × HelloAlone c) → LinkedTo y conn app HelloAlone
    go (c, (there, first, alone)) = record {
      dial = h.dial;
      link = ap (λ (f : ℕ → Option DataConnection). link_in (f conn)) conns ∙ h.link;
      first = some_both ((y.end_at app).connection_at h.dial) (AloneStill c) (λ k. k.first ≡ Some (record { order = y.past; conn = conn }))
          (λ k s. s.0 ∙ first ∙ ap (λ (n : ℕ). Some (record { order = n; conn = conn })) (sym past)) (all app h.dial c there alone);
      its = some_both ((y.end_at app).connection_at h.dial) (AloneStill c) HelloAlone (λ k s. s.1) (all app h.dial c there alone);
    }

-- Acts beside the data server.
pub node_ends_by_acts : (l : Layout) (p : Plain) (acts : List Act) (d : ℕ) (x y : Site) → AllByRecursion (λ a. leaves_breaks a ≡ true) acts → y.node ≡ x.node → SameCalls x y
    → NodeEndsAt (p.server_at d) x → NodeEndsAt ((after_all l p acts).server_at d) y
node_ends_by_acts l p acts d x y leaves node calls h =
    subst (λ o. IfSome o (NodeEnds ((after_all l p acts).server_at d) y)) (sym node) (some_beside (p.server_at d) ((after_all l p acts).server_at d) x y x.node (rows_breaks l p acts leaves d) calls h)

same_calls : (x : Site) → SameCalls x x
same_calls x = record { taken = λ session. refl; alone = λ conn app h. h }

-- A tick.
pub node_ends_kept_by_tick : (l : Layout) (m new : Machine) (now : ℕ) (outs : MoveOuts) (written : List Act) → Holds l m → TickGoes m now outs written new → NodeEndsHold l (state_after l new.trail) new
node_ends_kept_by_tick l m new now outs written h goes = node_ends_of l new (kept_by_tick l m new now outs written h goes)

-- A look.
pub node_ends_kept_by_look : (l : Layout) (m : Machine) (app job line : ℕ) (at : Target) (outs : MoveOuts) (written : List Act) (new : Machine)
    → Holds l m → LookGoes m app job line at outs written new → NodeEndsHold l (state_after l new.trail) new
node_ends_kept_by_look l m app job line at outs written new h goes =
    subst (λ (n : Machine). NodeEndsHold l (state_after l n.trail) n) (sym goes.after)
    (subst (λ (w : List Act). (d : ℕ) → NodeEndsAt ((state_after l (m.trail ++ w)).server_at d) (m.site_at d)) (sym goes.acts)
    (subst (λ (q : Plain). (d : ℕ) → NodeEndsAt (q.server_at d) (m.site_at d)) (sym (after_all-append l start m.trail read))
    (λ d. node_ends_by_acts l (state_after l m.trail) read d (m.site_at d) (m.site_at d) (refl, tt) refl (same_calls (m.site_at d)) (h.sites d).ends.node)))
  where
    read : List Act
    read = act.Read job line at.server goes.front.n Cached (GetQuestion at.key (value_at (pairs_of goes.run) at.key)) ∷ []

pub node_ends_kept_by_looked : (l : Layout) (m : Machine) (app job line : ℕ) (command : Command) (outs : MoveOuts) (written : List Act) (new : Machine)
    → Holds l m → LookedGoes m app job line command outs written new → NodeEndsHold l (state_after l new.trail) new
node_ends_kept_by_looked l m app job line (commands.Set at value) outs written new h goes = absurd goes
node_ends_kept_by_looked l m app job line (commands.Kill at) outs written new h goes = absurd goes
node_ends_kept_by_looked l m app job line (commands.Get at) outs written new h goes = node_ends_kept_by_look l m app job line at outs written new h goes
node_ends_kept_by_looked l m app job line (commands.Shape at) outs written new h goes = absurd goes
node_ends_kept_by_looked l m app job line (commands.Next parent sub) outs written new h goes = absurd goes
node_ends_kept_by_looked l m app job line (commands.Incr at amount) outs written new h goes = absurd goes
node_ends_kept_by_looked l m app job line (commands.Lock at mode wait) outs written new h goes = absurd goes
node_ends_kept_by_looked l m app job line (commands.Unlock at mode at_once) outs written new h goes = absurd goes
node_ends_kept_by_looked l m app job line commands.Start outs written new h goes = absurd goes
node_ends_kept_by_looked l m app job line (commands.Commit sync) outs written new h goes = absurd goes
node_ends_kept_by_looked l m app job line commands.Rollback outs written new h goes = absurd goes
node_ends_kept_by_looked l m app job line (commands.Sync server) outs written new h goes = absurd goes

-- An application server that goes: its ends leave their connections.
left_alone : (b : Bool) (o : Option Connection) (c : Connection) → o ≡ Some c → HelloAlone c → IsSomeAnd (option_map (λ (k : Connection). if b then app_leaves k else k) o) (AloneStill c)
left_alone b o c there alone = subst (λ (q : Option Connection). IsSomeAnd (option_map (λ (k : Connection). if b then app_leaves k else k) q) (AloneStill c)) (sym there) (go b)
  where
    go : (t : Bool) → AloneStill c (if t then app_leaves c else c)
    go true = (refl, record { hello = alone.hello; one = alone.one; taken = alone.taken; silent = alone.silent; its = alone.its })
    go false = (refl, alone)

pub node_ends_kept_by_die : (l : Layout) (m : Machine) (app : ℕ) (outs : MoveOuts) (written : List Act) (new : Machine) → Holds l m → DieGoes m app outs written new → NodeEndsHold l (state_after l new.trail) new
node_ends_kept_by_die l m app outs written new h goes =
    subst (λ (n : Machine). NodeEndsHold l (state_after l n.trail) n) (sym goes.after)
    (subst (λ (w : List Act). (d : ℕ) → NodeEndsAt ((state_after l (m.trail ++ w)).server_at d) ((dies app m).site_at d)) (sym goes.acts)
    (subst (λ (q : Plain). (d : ℕ) → NodeEndsAt (q.server_at d) ((dies app m).site_at d)) (sym (after_all-append l start m.trail (act.Died app ∷ [])))
    (λ d. node_ends_by_acts l (state_after l m.trail) (act.Died app ∷ []) d (m.site_at d) ((dies app m).site_at d) (refl, tt) refl
    (record { taken = λ session. refl; alone = alone_by (m.site_at d) ((dies app m).site_at d) refl refl (λ a dial c there alone. left_alone (a == app) (((m.site_at d).end_at a).connection_at dial) c there alone) })
    (h.sites d).ends.node)))

-- A node that halts.
pub node_ends_kept_by_halt : (l : Layout) (m : Machine) (server : ℕ) (outs : MoveOuts) (written : List Act) (new : Machine) → Holds l m → HaltGoes m server outs written new → NodeEndsHold l (state_after l new.trail) new
node_ends_kept_by_halt l m server outs written new h goes =
    subst (λ (n : Machine). NodeEndsHold l (state_after l n.trail) n) (sym goes.after)
    (others_left l (state_after l m.trail) (state_after l m.trail) m server (halted_site (m.site_at server)) (λ d v x. NodeEndsAt v x) (node_ends_of l m h) (λ e other. refl) tt)
