-- The windows of live sessions that were told, over the moves that put nothing: a tick, a look, a node or an application server that goes, starts,
-- and steps of application servers and jobs.
use Rattle.std.proofs.Common.{◌≡◌, ◌≤◌, ◌+◌, ◌==◌, ℕ, Bool, true, false, if◌then◌else◌, List, Option, Some, None, option_map, refl, sym, ◌∙◌, ap, subst, arith}
use Rattle.std.specs.Prelude.{IfSome, IsSomeAnd}
use Rattle.std.specs.List.{list_any}
use Rattle.plain_orders.specs.declared.act.Act.{Act}
use Rattle.plain_orders.specs.declared.entry.Entry.{Entry}
use Rattle.plain_orders.specs.declared.layout.Layout.{Layout}
use Rattle.plain_orders.specs.Sessions.{app_in}
use Rattle.plain_runs.specs.Plain.{Server, current, order_at, put}
use Rattle.plain_runs.specs.Run.{IsRun, state_after}
use Rattle.app_job.specs.Sites.{Site as Target}
use Rattle.app_job.specs.declared.command.Command.{Command}
use Rattle.app_rules.specs.AppState.{AppEnd}
use Rattle.app_rules.specs.Looks.{Shown}
use Rattle.app_rules.specs.Works.{end_at}
use Rattle.app_rules.specs.declared.app_in.AppIn.{AppIn}
use Rattle.app_rules.specs.declared.app_in.AppIn.TheVariants as app_in
use Rattle.app_rules.specs.declared.app_outs.AppOuts.{AppOuts}
use Rattle.ecp_messages.specs.declared.down.Down.{Down}
use Rattle.data_rules.specs.DataState.{DataState}
use Rattle.data_rules.specs.Step.{started}
use Rattle.cluster_runs.specs.declared.move_outs.MoveOuts.{MoveOuts}
use Rattle.cluster_runs.specs.declared.moves.Move.TheVariants.{Begin}
use Rattle.cluster_runs.specs.CoresState.{CoresState}
use Rattle.cluster_runs.specs.Connections.{app_leaves, at_number, down_taken, fresh_connection, is_index, knows, leaves_if, ups_to, with_connection, with_ups}
use Rattle.cluster_runs.specs.Goes.{AppGoes, BeginGoes, DieGoes, HaltGoes, JobGoes, LookGoes, TickGoes, app_end, app_takes, begun_site, dies, input_site, job_site, message_from, with_state}
use Rattle.cluster_runs.specs.Lanes.{is_told_new, told_by}
use Rattle.cluster_runs.specs.Machine.{End, Machine, Site}
use Rattle.cluster_runs.specs.Mirrors.{Mirrors}
use Rattle.cluster_runs.specs.Moves.{Allowed}
use Rattle.cluster_runs.specs.Sent.{Connection, FirstTaken, Place}
use Rattle.cluster_invariant.specs.Dials.{CarriesOf, ConnectionIs, FirstIs}
use Rattle.cluster_invariant.specs.Holds.{Holds}
use Rattle.cluster_invariant.specs.Windows.{WindowsAre}
use Rattle.cluster_invariant.proofs.Frame.{kept_by_tick}
use Rattle.cluster_invariant.proofs.PastOrders.{order_now}
use Rattle.cluster_invariant.proofs.SiteMoves.{kept_by_death, kept_by_halt, kept_by_look, kept_by_start}
use Rattle.cluster_invariant.proofs.Small.{at_places, some_kept}
use Rattle.cluster_steps.proofs.AppSites.{SameBeside, site_beside, site_ends}
use Rattle.windows_kept.specs.Laws.{EachHasWindows}
use Rattle.windows_kept.proofs.PlacesHave.{CarriedIn, EndIn, EndsIn, PlaceIn, number_has}
use Rattle.windows_kept.proofs.WindowsServer.{WindowsPart}

-- A tick keeps them.
pub windows_kept_by_tick : (l : Layout) (m new : Machine) (now : ℕ) (outs : MoveOuts) (written : List Act) → Holds l m → TickGoes m now outs written new → EachHasWindows new
windows_kept_by_tick l m new now outs written h goes d = ((kept_by_tick l m new now outs written h goes).sites d).windows

-- A look keeps them.
pub windows_kept_by_look : (l : Layout) (m : Machine) (app job line : ℕ) (at : Target) (outs : MoveOuts) (written : List Act) (new : Machine)
    → Holds l m → LookGoes m app job line at outs written new → EachHasWindows new
windows_kept_by_look l m app job line at outs written new h goes =
    kept_by_look WindowsPart l m app job line at outs written new goes (λ d. (h.sites d).windows) (λ known. (h.sites at.server).windows)

-- An application server that goes keeps them.
pub windows_kept_by_die : (l : Layout) (m : Machine) (app : ℕ) (outs : MoveOuts) (written : List Act) (new : Machine)
    → Holds l m → DieGoes m app outs written new → EachHasWindows new
windows_kept_by_die l m app outs written new h goes =
    kept_by_death WindowsPart l m app outs written new goes
    (λ alive d.
    some_kept (λ (n : DataState). EndsIn (m.site_at d).past n (m.site_at d).end_at) (λ (n : DataState). EndsIn (m.site_at d).past n ((dies app m).site_at d).end_at)
    (λ n has a k. went (m.site_at d).past n (a == app) (((m.site_at d).end_at a).connection_at k) (has a k)) (m.site_at d).node (h.sites d).windows)
  where
    went : (past : ℕ) (n : DataState) (b : Bool) (o : Option Connection) → IfSome o (CarriedIn past n)
        → IfSome (option_map (λ c. if b then app_leaves c else c) o) (CarriedIn past n)
    went past n b None has = tt
    went past n true (Some c) has = has
    went past n false (Some c) has = has

-- A halt keeps them.
pub windows_kept_by_halt : (l : Layout) (m : Machine) (server : ℕ) (outs : MoveOuts) (written : List Act) (new : Machine)
    → Holds l m → HaltGoes m server outs written new → EachHasWindows new
windows_kept_by_halt l m server outs written new h goes = kept_by_halt WindowsPart l m server outs written new goes (λ d. (h.sites d).windows) tt

-- No connection carries the messages of a session in an order that only begins.
pub windows_kept_by_begin : (l : Layout) (c : CoresState) (m : Machine) (server now : ℕ) (es : List Entry) (outs : MoveOuts) (written : List Act) (new : Machine)
    → Holds l m → IsRun l m.trail → Mirrors c m → Allowed c (Begin server now es) → BeginGoes m server now es outs written new → EachHasWindows new
windows_kept_by_begin l c m server now es outs written new h run shows allowed goes =
    kept_by_start WindowsPart l c m server now es outs written new h run shows allowed goes (λ d. (h.sites d).windows)
    (λ starts. begun (λ a p opened low same.
    nothing a (sym (ap (λ (ws : List Entry). app_in ws p.session) (ap (order_at v) (same ∙ starts.next) ∙ order_now v ∙ starts.none)) ∙ opened)))
    (λ starts. begun (λ a p opened low same. absurd (omega (arith, low, same, starts.next))))
  where
    v : Server
    v = (state_after l m.trail).server_at server

    x : Site
    x = m.site_at server

    y : Site
    y = begun_site l server now es x

    nothing : (a : ℕ) → None ≡ Some a → ⊥
    nothing a is = absurd cc

    begun : ((a : ℕ) (p : Place) → app_in (order_at v p.order) p.session ≡ Some a → p.order ≤ current v → p.order ≡ y.past → ⊥) → WindowsAre y
    begun other a k =
        some_kept (ConnectionIs v x a k) (CarriedIn y.past (started server l.times es now))
        (λ q is. some_kept (CarriesOf v a q.first) (PlaceIn y.past (started server l.times es now)) (λ p its same. absurd (other a p its.opened (low q.first is.where_taken p its.order) same))
        q.its is.its) ((x.end_at a).connection_at k) (((h.sites server).dials.pairs a).each k)
      where
        low : (o : Option FirstTaken) → IfSome o (FirstIs v x a k) → (p : Place) → IsSomeAnd o (λ f. f.order ≡ p.order) → p.order ≤ current v
        low None there p same = absurd same
        low (Some f) there p same = subst (λ (n : ℕ). n ≤ current v) same there.there

-- steps of an application server

-- an end after it
end_has : (past : ℕ) (n : DataState) (d : ℕ) (outs : AppOuts) (old new : AppEnd) (shown : Shown) (m : Option Down) (e : End) → EndIn past n e
    → EndIn past n (app_end d outs old new shown m e)
end_has past n d outs old new shown m e has =
    number_has past n new.dial (λ c. leaves_if (list_any (is_index d) outs.cuts) (with_ups (ups_to d outs.frames) c)) (told_by (is_told_new old.session new.session) m old.dial (with_state new shown e))
    (λ c. leaves (list_any (is_index d) outs.cuts) c) (told (is_told_new old.session new.session))
  where
    leaves : (b : Bool) (c : Connection) → (leaves_if b (with_ups (ups_to d outs.frames) c)).its ≡ c.its
    leaves true c = refl
    leaves false c = refl

    told : (b : Bool) → EndIn past n (told_by b m old.dial (with_state new shown e))
    told true = has
    told false = has

takes_has : (past : ℕ) (n : DataState) (d : ℕ) (input : AppIn) (number : ℕ) (e : End) → EndIn past n e → EndIn past n (app_takes d input number e)
takes_has past n d (app_in.Frame k frame) number e has = go (k == d)
  where
    go : (b : Bool) → EndIn past n (if b then at_number number down_taken e else e)
    go true = number_has past n number down_taken e (λ c. refl) has
    go false = has
takes_has past n d (app_in.Connected k) number e has = go (k == d)
  where
    made : (j : ℕ) (b : Bool) → IfSome (if b then Some (fresh_connection (knows e)) else e.connection_at j) (CarriedIn past n)
    made j true = tt
    made j false = has j

    go : (b : Bool) → EndIn past n (if b then with_connection (number + 1) e else e)
    go true = λ j. made j (j == number + 1)
    go false = has
takes_has past n d (app_in.NoWay k fails later) number e has = has
takes_has past n d (app_in.Broken k) number e has = go (k == d)
  where
    go : (b : Bool) → EndIn past n (if b then at_number number app_leaves e else e)
    go true = number_has past n number app_leaves e (λ c. refl) has
    go false = has
takes_has past n d (app_in.Join k) number e has = has
takes_has past n d app_in.Tick number e has = has

-- a site after it
site_has : (app : ℕ) (e : End) (x y : Site) → SameBeside x y → y.end_at ≡ put x.end_at app e → ((past : ℕ) (n : DataState) → EndIn past n (x.end_at app) → EndIn past n e)
    → WindowsAre x → WindowsAre y
site_has app e x y beside ends here has =
    subst (λ (o : Option DataState). IfSome o (λ n. EndsIn y.past n y.end_at)) (sym beside.node)
    (subst (λ (k : ℕ). IfSome x.node (λ n. EndsIn k n y.end_at)) (sym beside.past)
    (subst (λ (f : ℕ → End). IfSome x.node (λ n. EndsIn x.past n f)) (sym ends)
    (some_kept (λ (n : DataState). EndsIn x.past n x.end_at) (λ (n : DataState). EndsIn x.past n (put x.end_at app e))
    (λ n all. at_places (λ (a : ℕ) (f : End). EndIn x.past n f) x.end_at app e (here x.past n (all app)) (λ q other. all q)) x.node has)))

-- Each input of an application server.
pub windows_kept_by_app : (l : Layout) (m : Machine) (app now : ℕ) (input : AppIn) (outs : MoveOuts) (written : List Act) (new : Machine)
    → Holds l m → AppGoes m app now input outs written new → EachHasWindows new
windows_kept_by_app l m app now input outs written new h goes =
    subst (λ (n : Machine). EachHasWindows n) (sym goes.after)
    (λ d.
    let x : Site = m.site_at d in
    let old : AppEnd = (x.end_at app).state in
    let after : AppEnd = end_at goes.state d in
    let took : End = app_takes d input old.dial (x.end_at app) in
    let e : End = app_end d goes.app_outs old after (goes.shown d) (message_from d input) took in
    site_has app e x (input_site app input goes.app_outs goes.state goes.shown d x) (site_beside app d goes.app_outs old after (message_from d input) e x)
    (site_ends app d goes.app_outs old after (message_from d input) e x)
    (λ past n has. end_has past n d goes.app_outs old after (goes.shown d) (message_from d input) took (takes_has past n d input old.dial (x.end_at app) has))
    (h.sites d).windows)

-- Each command of a job.
pub windows_kept_by_job : (l : Layout) (m : Machine) (app job now line : ℕ) (command : Command) (outs : MoveOuts) (written : List Act) (new : Machine)
    → Holds l m → JobGoes m app job now line command outs written new → EachHasWindows new
windows_kept_by_job l m app job now line command outs written new h goes =
    subst (λ (n : Machine). EachHasWindows n) (sym goes.after)
    (λ d.
    let x : Site = m.site_at d in
    let old : AppEnd = (x.end_at app).state in
    let after : AppEnd = end_at goes.state d in
    let e : End = app_end d goes.app_outs old after (x.end_at app).shown None (x.end_at app) in
    site_has app e x (job_site app goes.app_outs goes.state d x) (site_beside app d goes.app_outs old after None e x) (site_ends app d goes.app_outs old after None e x)
    (λ past n has. end_has past n d goes.app_outs old after (x.end_at app).shown None (x.end_at app) has) (h.sites d).windows)
