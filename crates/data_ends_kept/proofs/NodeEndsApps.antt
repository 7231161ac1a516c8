-- The data ends of running nodes stay as the invariant has them over an input of an application server, where it puts nothing on the
-- connection of a Hello that is alone.
use Rattle.std.proofs.Common.{◌≡◌, ◌+◌, ◌==◌, ℕ, zero, suc, Bool, true, false, List, [], ◌++◌, Option, Some, None, is_some, option_map, refl, sym, ◌∙◌, subst, arith, if◌then◌else◌}
use Rattle.std.specs.Prelude.{IsSomeAnd, nat_lt}
use Rattle.std.specs.List.{AllByRecursion}
use Rattle.std.proofs.lemmas.Bool.{eqb-true, false≢true, ltb-true}
use Rattle.plain_orders.specs.declared.act.Act.{Act}
use Rattle.plain_orders.specs.declared.layout.Layout.{Layout}
use Rattle.plain_runs.specs.Plain.{Plain, start}
use Rattle.plain_runs.specs.Run.{after_all, state_after}
use Rattle.plain_runs.proofs.RunLemmas.{after_all-append}
use Rattle.app_rules.specs.declared.app_in.AppIn.{AppIn}
use Rattle.app_rules.specs.declared.app_in.AppIn.TheVariants as app_in
use Rattle.app_rules.specs.declared.up_frames.UpOut.{UpOut}
use Rattle.app_rules.specs.AppState.{AppState}
use Rattle.app_rules.specs.AppStep.{made}
use Rattle.app_rules.specs.Works.{end_at, begun}
use Rattle.app_rules.proofs.StepLaws.{steps_at_one_end}
use Rattle.cluster_runs.specs.CoresState.{CoresState}
use Rattle.cluster_runs.specs.Connections.{app_leaves, at_number, down_taken, ups_to, with_connection}
use Rattle.cluster_runs.specs.declared.move_outs.MoveOuts.{MoveOuts}
use Rattle.cluster_runs.specs.declared.moves.Move.TheVariants.{App}
use Rattle.cluster_runs.specs.Goes.{AppGoes, app_end, app_takes, input_site, message_from}
use Rattle.cluster_runs.specs.Machine.{Machine, End, app_state}
use Rattle.cluster_runs.specs.Mirrors.{Mirrors}
use Rattle.cluster_runs.specs.Moves.{Allowed}
use Rattle.cluster_runs.specs.Sent.{Connection}
use Rattle.cluster_invariant.specs.Dials.{is_made}
use Rattle.cluster_invariant.specs.Ends.{HelloAlone}
use Rattle.cluster_invariant.specs.Holds.{Holds}
use Rattle.cluster_steps.proofs.AppSites.{site_beside}
use Rattle.ends_kept.proofs.PairActs.{IsOfApp}
use Rattle.ends_kept.proofs.TablesKept.{tables_by_input}
use Rattle.ends_kept.proofs.TablesMoves.{app_may, tables_begin}
use Rattle.data_ends_kept.proofs.FreshLanes.{begins_fresh}
use Rattle.data_ends_kept.proofs.NodeEndsMoves.{AloneStill, NodeEndsAt, NodeEndsHold, node_ends_by_acts}
use Rattle.data_ends_kept.proofs.NodeEndsSites.{end_alone, site_calls}
use Rattle.data_ends_kept.proofs.Unopened.{own_breaks}

-- what an input does to a connection with such a Hello

changed : (b : Bool) (f : Connection → Connection) (o : Option Connection) (c : Connection) → ((k : Connection) → AloneStill c k → AloneStill c (f k)) → IsSomeAnd o (AloneStill c) → IsSomeAnd (if b then option_map f o else o) (AloneStill c)
changed b f None c keeps h = absurd h
changed true f (Some k) c keeps h = keeps k h
changed false f (Some k) c keeps h = h

taken_still : (c k : Connection) → AloneStill c k → AloneStill c (down_taken k)
taken_still c k s = (s.0, record { hello = s.1.hello; one = s.1.one; taken = s.1.taken; silent = s.1.silent; its = s.1.its })

left_still : (c k : Connection) → AloneStill c k → AloneStill c (app_leaves k)
left_still c k s = (s.0, record { hello = s.1.hello; one = s.1.one; taken = s.1.taken; silent = s.1.silent; its = s.1.its })

-- a number that no connection had
other_number : (b : Bool) (new : Connection) (o : Option Connection) (c : Connection) → (b ≡ true → is_some o ≡ false) → IsSomeAnd o (AloneStill c) → IsSomeAnd (if b then Some new else o) (AloneStill c)
other_number b new None c fresh h = absurd h
other_number true new (Some k) c fresh h = absurd (false≢true (sym (fresh refl)))
other_number false new (Some k) c fresh h = h

at_named : (b : Bool) (dial : ℕ) (e f : End) (c : Connection) → IsSomeAnd (e.connection_at dial) (AloneStill c) → IsSomeAnd (f.connection_at dial) (AloneStill c) → IsSomeAnd ((if b then f else e).connection_at dial) (AloneStill c)
at_named true dial e f c old new = new
at_named false dial e f c old new = old

takes_alone : (d : ℕ) (i : AppIn) (e : End) (dial : ℕ) (c : Connection) → is_some (e.connection_at (e.state.dial + 1)) ≡ false → IsSomeAnd (e.connection_at dial) (AloneStill c)
    → IsSomeAnd ((app_takes d i e.state.dial e).connection_at dial) (AloneStill c)
takes_alone d (app_in.Frame k frame) e dial c fresh h =
    at_named (k == d) dial e (at_number e.state.dial down_taken e) c h (changed (dial == e.state.dial) down_taken (e.connection_at dial) c (taken_still c) h)
takes_alone d (app_in.Connected k) e dial c fresh h =
    at_named (k == d) dial e (with_connection (e.state.dial + 1) e) c h
    (other_number (dial == e.state.dial + 1) _ (e.connection_at dial) c (λ is. subst (λ (n : ℕ). is_some (e.connection_at n) ≡ false) (sym (eqb-true dial (e.state.dial + 1) is)) fresh) h)
takes_alone d (app_in.NoWay k before after) e dial c fresh h = h
takes_alone d (app_in.Broken k) e dial c fresh h =
    at_named (k == d) dial e (at_number e.state.dial app_leaves e) c h (changed (dial == e.state.dial) app_leaves (e.connection_at dial) c (left_still c) h)
takes_alone d (app_in.Join k) e dial c fresh h = h
takes_alone d app_in.Tick e dial c fresh h = h

-- the next number is one that no connection had
pub unmade : (l : Layout) (m : Machine) (app d : ℕ) → Holds l m → is_some (((m.site_at d).end_at app).connection_at (((m.site_at d).end_at app).state.dial + 1)) ≡ false
unmade l m app d h = ((h.sites d).dials.pairs app).made (((m.site_at d).end_at app).state.dial + 1) ∙ beyond ((m.site_at d).end_at app).state.dial (((m.site_at d).end_at app).state.dial + 1) (omega arith)
  where
    beyond : (n k : ℕ) → k ≡ n + 1 → is_made n k ≡ false
    beyond n zero is = refl
    beyond n (suc k) is = by (nat_lt k n) refl
      where
        by : (b : Bool) → nat_lt k n ≡ b → nat_lt k n ≡ false
        by true low = absurd (omega (arith, ltb-true k n low, is))
        by false low = low

-- nothing is put on the connection of a Hello that is alone
abbrev pub PutsNothing : Machine → ℕ → ℕ → AppState → List UpOut → Type 0
PutsNothing m app d state frames = (dial : ℕ) (k : Connection) → ((m.site_at d).end_at app).connection_at dial ≡ Some k → HelloAlone k → dial ≡ (end_at state d).dial → ups_to d frames ≡ []

-- Each input of an application server, where that is so.
pub node_ends_kept_by_app : (l : Layout) (c : CoresState) (m : Machine) (app now : ℕ) (input : AppIn) (outs : MoveOuts) (written : List Act) (new : Machine)
    → Holds l m → Mirrors c m → Allowed c (App app now input) → (goes : AppGoes m app now input outs written new)
    → ((d : ℕ) → PutsNothing m app d goes.state goes.app_outs.frames)
    → NodeEndsHold l (state_after l new.trail) new
node_ends_kept_by_app l c m app now input outs written new h shows allowed goes silent =
    subst (λ (n : Machine). NodeEndsHold l (state_after l n.trail) n) (sym goes.after)
    (subst (λ (ws : List Act). (d : ℕ) → NodeEndsAt ((state_after l (m.trail ++ ws)).server_at d) (input_site app input goes.app_outs goes.state goes.shown d (m.site_at d))) (sym goes.acts)
    (subst (λ (q : Plain). (d : ℕ) → NodeEndsAt (q.server_at d) (input_site app input goes.app_outs goes.state goes.shown d (m.site_at d))) (sym (after_all-append l start m.trail goes.app_outs.acts)) go))
  where
    own : AllByRecursion (IsOfApp app) goes.app_outs.acts
    own =
        (tables_by_input input l (state_after l m.trail) app now (begun (app_state m app)) (made goes.state goes.app_outs)
        (tables_begin l c m app h shows allowed.known (sym (shows.dead app) ∙ allowed.alive))
        (app_may c m app input shows allowed.known allowed.may) (steps_at_one_end (app_state m app) goes.state now input goes.app_outs goes.steps).1 goes.steps).own

    go : (d : ℕ) → NodeEndsAt ((after_all l (state_after l m.trail) goes.app_outs.acts).server_at d) (input_site app input goes.app_outs goes.state goes.shown d (m.site_at d))
    go d =
        node_ends_by_acts l (state_after l m.trail) goes.app_outs.acts d (m.site_at d) (input_site app input goes.app_outs goes.state goes.shown d (m.site_at d)) (own_breaks app goes.app_outs.acts own)
        (site_beside app d goes.app_outs e.state (end_at goes.state d) (message_from d input) moved (m.site_at d)).node
        (site_calls app d goes.app_outs e.state (end_at goes.state d) (message_from d input) moved (m.site_at d) (h.sites d).link.lanes (begins_fresh l c m app now input outs written new h shows allowed goes d) still) (h.sites d).ends.node
      where
        e : End
        e = (m.site_at d).end_at app

        moved : End
        moved = app_end d goes.app_outs e.state (end_at goes.state d) (goes.shown d) (message_from d input) (app_takes d input e.state.dial e)

        still : (dial : ℕ) (k : Connection) → e.connection_at dial ≡ Some k → HelloAlone k → IsSomeAnd (moved.connection_at dial) (AloneStill k)
        still dial k there alone =
            end_alone d goes.app_outs e.state (end_at goes.state d) (goes.shown d) (message_from d input) (app_takes d input e.state.dial e) dial k (λ is. silent d dial k there alone is)
            (takes_alone d input e dial k (unmade l m app d h) (subst (λ (q : Option Connection). IsSomeAnd q (AloneStill k)) (sym there) (refl, alone)))
