-- The part on connections for an application server's input: at each data server by itself, and where its end's connection goes on.
use Rattle.std.proofs.Common.{◌≡◌, ◌≤◌, ℕ, Bool, true, false, ◌==◌, List, [], ◌++◌, length, Option, Some, None, option_map, if◌then◌else◌, refl, sym, ◌∙◌, ap, subst}
use Rattle.std.specs.Prelude.{IfSome, nat_lt}
use Rattle.std.specs.List.{AllByRecursion, list_all}
use Rattle.std.proofs.lemmas.List.{append-nil}
use Rattle.plain_orders.specs.declared.act.Act.{Act}
use Rattle.plain_orders.specs.declared.layout.Layout.{Layout}
use Rattle.plain_runs.specs.Plain.{Plain, Server, start}
use Rattle.plain_runs.specs.Run.{IsRun, RunFrom, after_all, state_after}
use Rattle.plain_runs.proofs.RunLemmas.{run_parts, after_all-append}
use Rattle.ecp_messages.specs.declared.up.UpFrame.{UpFrame}
use Rattle.ecp_messages.specs.declared.down.Down.{Down}
use Rattle.ecp_messages.specs.declared.down.DownFrame.{DownFrame}
use Rattle.app_rules.specs.declared.app_in.AppIn.{AppIn}
use Rattle.app_rules.specs.declared.app_outs.AppOuts.{AppOuts}
use Rattle.app_rules.specs.AppState.{AppEnd}
use Rattle.app_rules.specs.AppStep.{made}
use Rattle.app_rules.specs.Looks.{Shown}
use Rattle.app_rules.specs.Works.{begun}
use Rattle.cluster_runs.specs.declared.move_outs.MoveOuts.{MoveOuts}
use Rattle.cluster_runs.specs.declared.moves.Move.TheVariants.{App}
use Rattle.cluster_runs.specs.CoresState.{CoresState}
use Rattle.cluster_runs.specs.Moves.{Allowed}
use Rattle.cluster_runs.specs.Mirrors.{Mirrors}
use Rattle.cluster_runs.specs.Sent.{Connection, Place}
use Rattle.cluster_runs.specs.Machine.{Machine, Site, End, app_state}
use Rattle.cluster_runs.specs.Connections.{knows, at_number, leaves_if, with_ups}
use Rattle.cluster_runs.specs.Goes.{AppGoes, app_end, app_site, input_site, with_state}
use Rattle.cluster_runs.specs.Lanes.{is_told_new}
use Rattle.cluster_invariant.specs.Dials.{DialsAre, PairDials, KnowsStill, is_following}
use Rattle.cluster_invariant.specs.Holds.{Holds}
use Rattle.cluster_invariant.specs.Words.{NoLess, has_wire, is_wire}
use Rattle.cluster_invariant.proofs.AppActs.{Leaves, app_step_leaves}
use Rattle.cluster_invariant.proofs.OrderBeside.{leaves_orders}
use Rattle.cluster_steps.proofs.AppSites.{site_ends}
use Rattle.ends_kept.proofs.AppRuns.{run_kept_by_app}
use Rattle.dials_kept.proofs.ConnectionsGrow.{StaysKnown, Grows, GrowTo}
use Rattle.dials_kept.proofs.NodesGrow.{SameNode}
use Rattle.dials_kept.proofs.ShortDials.{EachDials, left_same}
use Rattle.dials_kept.proofs.ToldStays.{known_by_acts}
use Rattle.dials_kept.proofs.QuietEnds.{TookMore, Changes, changed, quiet_site, dials_with_end, grow_changed, pair_changed}

-- An input keeps the part where it keeps it at each data server.
pub dials_by_app : (l : Layout) (c : CoresState) (m : Machine) (app now : ℕ) (input : AppIn) (outs : MoveOuts) (written : List Act) (new : Machine)
    → Holds l m → IsRun l m.trail → Mirrors c m → Allowed c (App app now input) → (goes : AppGoes m app now input outs written new)
    → ((d : ℕ) → StaysKnown ((state_after l m.trail).server_at d) ((after_all l (state_after l m.trail) goes.app_outs.acts).server_at d)
    → DialsAre ((after_all l (state_after l m.trail) goes.app_outs.acts).server_at d)
    (input_site app input goes.app_outs goes.state goes.shown d (m.site_at d)) m.is_dead_at) → EachDials l (state_after l new.trail) new
dials_by_app l c m app now input outs written new h run shows allowed goes each =
    subst (λ (n : Machine). EachDials l (state_after l n.trail) n) (sym goes.after)
    (subst (λ (ws : List Act). (d : ℕ) → DialsAre ((state_after l (m.trail ++ ws)).server_at d) (site d) m.is_dead_at) (sym goes.acts)
    (λ d. subst (λ (q : Plain). DialsAre (q.server_at d) (site d) m.is_dead_at) (sym (after_all-append l start m.trail goes.app_outs.acts)) (each d (known d))))
  where
    p : Plain
    p = state_after l m.trail

    site : ℕ → Site
    site d = input_site app input goes.app_outs goes.state goes.shown d (m.site_at d)

    joined : IsRun l (m.trail ++ goes.app_outs.acts)
    joined =
        subst (λ (ws : List Act). IsRun l (m.trail ++ ws)) goes.acts
        (subst (λ (n : Machine). IsRun l n.trail) goes.after (run_kept_by_app l c m app now input outs written new h run shows allowed goes))

    ran : RunFrom l p goes.app_outs.acts
    ran = (run_parts l start m.trail goes.app_outs.acts joined).1

    known : (d : ℕ) → StaysKnown (p.server_at d) ((after_all l p goes.app_outs.acts).server_at d)
    known d = go (app_step_leaves (begun (app_state m app)) now input (made goes.state goes.app_outs) goes.steps)
      where
        go : Leaves (begun (app_state m app)) (made goes.state goes.app_outs) → StaysKnown (p.server_at d) ((after_all l p goes.app_outs.acts).server_at d)
        go w = known_by_acts l p goes.app_outs.acts ran (subst (λ (ws : List Act). AllByRecursion (λ y. leaves_orders y ≡ true) ws) (sym w.acts) w.leaves) d

-- A site of whose end the last connection goes on, and which is told nothing new.
pub dials_with_change : (v w : Server) (x : Site) (dead : ℕ → Bool) (app d : ℕ) (outs : AppOuts) (t : AppEnd) (shown : Shown) (m : Option Down) (came : End)
    (g : Connection → Connection) → app_end d outs (x.end_at app).state t shown m came ≡ changed g t shown (x.end_at app)
    → is_told_new (x.end_at app).state.session t.session ≡ false → TookMore x t.session (x.end_at app).told → t.dial ≡ (x.end_at app).state.dial
    → NoLess (knows (x.end_at app)) (knows (with_state t shown (x.end_at app)))
    → ((y : Site) → y.connection_at ≡ x.connection_at → IfSome ((x.end_at app).connection_at t.dial) (Changes x y (dead app) g t (x.end_at app)))
    → KnowsStill t.line (knows (with_state t shown (x.end_at app))) (option_map g ((x.end_at app).connection_at t.dial)) → StaysKnown v w → DialsAre v x dead
    → DialsAre w (app_site app d outs (x.end_at app).state t m (app_end d outs (x.end_at app).state t shown m came) x) dead
dials_with_change v w x dead app d outs t shown m came g moved nothing took dial knew changes still later is =
    dials_with_end v w x y dead app f (site_ends app d outs e.state t m f x) same later
    (subst (λ (z : End). (number : ℕ) → GrowTo x w y app number e (e.connection_at number) (z.connection_at number)) (sym moved)
    (λ number. grow_changed x y w app number (dead app) e t shown g same.connections (changes y same.connections)))
    (subst (λ (z : End). NoLess (knows e) (knows z)) (sym moved) knew)
    (subst (λ (z : End). PairDials w y (dead app) app z) (sym moved)
    (pair_changed v w x y app (dead app) e t shown g later same dial knew (changes y same.connections) still (is.pairs app))) is
  where
    e : End
    e = x.end_at app

    f : End
    f = app_end d outs e.state t shown m came

    y : Site
    y = app_site app d outs e.state t m f x

    same : SameNode x y
    same = quiet_site app d outs e.state t m f x nothing (subst (λ (o : Option Place). TookMore x t.session o) (sym (ap (λ (z : End). z.told) moved)) took)

-- A connection of which the application end took a frame, or which it left, or neither.
pub record Passes (z y : Connection) : Type 0 where
  pub ups : y.ups ≡ z.ups
  pub ups_taken : y.ups_taken ≡ z.ups_taken
  pub downs : y.downs ≡ z.downs
  pub within : z.downs_taken ≤ length z.downs → y.downs_taken ≤ length z.downs
  pub linked : y.linked ≡ z.linked
  pub its : y.its ≡ z.its
  pub knew : y.knew ≡ z.knew
  pub first : y.first ≡ z.first
  pub data_left : y.data_left ≡ z.data_left

-- It goes on, with what is put on it, and it may be left then.
pub passes_grows : (x y : Site) → y.connection_at ≡ x.connection_at → (cut : Bool) (us : List UpFrame) (z q : Connection) → Passes z q
    → list_all is_following us ≡ true → (z.ups_taken ≡ 0 → us ≡ []) → Grows x y z (leaves_if cut (with_ups us q))
passes_grows x y same true us z q is follow alone = record {
  more = us;
  ups = ap (λ (fs : List UpFrame). fs ++ us) is.ups;
  follow = follow;
  alone = alone;
  untaken = λ none. sym is.ups_taken ∙ none;
  within_ups = λ low. subst (λ (n : ℕ). n ≤ length z.ups) (sym is.ups_taken) low;
  counted = ap (λ (n : ℕ). nat_lt 0 n) is.ups_taken;
  heard = [];
  downs = is.downs ∙ sym (append-nil z.downs);
  within = λ low. subst (λ (fs : List DownFrame). q.downs_taken ≤ length fs) (sym is.downs) (is.within low);
  unheard = λ none. refl;
  quiet = λ none. refl;
  unreset = refl;
  linked = is.linked;
  its = is.its;
  knew = is.knew;
  first = is.first;
  data_left = λ taken at. is.data_left ∙ at ∙ sym (left_same x y same z.first);
}
passes_grows x y same false us z q is follow alone = record {
  more = us;
  ups = ap (λ (fs : List UpFrame). fs ++ us) is.ups;
  follow = follow;
  alone = alone;
  untaken = λ none. sym is.ups_taken ∙ none;
  within_ups = λ low. subst (λ (n : ℕ). n ≤ length z.ups) (sym is.ups_taken) low;
  counted = ap (λ (n : ℕ). nat_lt 0 n) is.ups_taken;
  heard = [];
  downs = is.downs ∙ sym (append-nil z.downs);
  within = λ low. subst (λ (fs : List DownFrame). q.downs_taken ≤ length fs) (sym is.downs) (is.within low);
  unheard = λ none. refl;
  quiet = λ none. refl;
  unreset = refl;
  linked = is.linked;
  its = is.its;
  knew = is.knew;
  first = is.first;
  data_left = λ taken at. is.data_left ∙ at ∙ sym (left_same x y same z.first);
}

-- Two changes of the last connection.
pub changed_twice : (g k : Connection → Connection) (t : AppEnd) (shown : Shown) (e : End)
    → at_number t.dial k (with_state t shown (at_number t.dial g e)) ≡ changed (λ c. k (g c)) t shown e
changed_twice g k t shown e = ap (λ (f : ℕ → Option Connection). record (with_state t shown e) { connection_at = f }) (λ i n. point n i)
  where
    both : (o : Option Connection) → option_map k (option_map g o) ≡ option_map (λ c. k (g c)) o
    both None = refl
    both (Some c) = refl

    point : (n : ℕ)
        → (if n == t.dial then option_map k (if n == t.dial then option_map g (e.connection_at n) else e.connection_at n)
        else (if n == t.dial then option_map g (e.connection_at n) else e.connection_at n))
        ≡ (if n == t.dial then option_map (λ c. k (g c)) (e.connection_at n) else e.connection_at n)
    point n = go (n == t.dial)
      where
        go : (b : Bool)
            → (if b then option_map k (if b then option_map g (e.connection_at n) else e.connection_at n)
            else (if b then option_map g (e.connection_at n) else e.connection_at n))
            ≡ (if b then option_map (λ c. k (g c)) (e.connection_at n) else e.connection_at n)
        go true = both (e.connection_at n)
        go false = refl

-- an end without a connection
pub unwired : (t : AppEnd) → has_wire t.line ≡ false → (dead : Bool) → is_wire dead t t.dial ≡ false
unwired t is true = refl
unwired t is false = ap (λ (b : Bool). if b then t.dial == t.dial else false) is
