-- The tables of application ends, for the moves that change no end: a tick, a look, a node or an application server that goes, a start.
use Rattle.std.proofs.Common.{◌≡◌, ℕ, Bool, false, List, ◌++◌, Option, Some, None, refl, sym, ◌∙◌, ap, subst}
use Rattle.plain_orders.specs.declared.act.Act.{Act}
use Rattle.plain_orders.specs.declared.entry.Entry.{Entry}
use Rattle.plain_orders.specs.declared.layout.Layout.{Layout}
use Rattle.plain_runs.specs.Plain.{Pair, Plain, Server, put, start}
use Rattle.plain_runs.specs.Run.{state_after}
use Rattle.plain_runs.specs.Step.{after}
use Rattle.plain_runs.proofs.RunLemmas.{after_all-more}
use Rattle.app_job.specs.Sites.{Site as Target}
use Rattle.app_rules.specs.AppState.{AppEnd}
use Rattle.cluster_runs.specs.declared.move_outs.MoveOuts.{MoveOuts}
use Rattle.cluster_runs.specs.Steps.{begin_act}
use Rattle.cluster_runs.specs.Machine.{Machine, Site, with_acts}
use Rattle.cluster_runs.specs.Goes.{BeginGoes, DieGoes, HaltGoes, LookGoes, TickGoes, at_site, begun_site}
use Rattle.cluster_invariant.specs.Ends.{AppTables}
use Rattle.cluster_invariant.specs.Holds.{Holds}
use Rattle.cluster_invariant.proofs.Frame.{kept_by_tick}
use Rattle.cluster_invariant.proofs.SiteMoves.{kept_by_death, kept_by_halt, kept_by_look}
use Rattle.cluster_invariant.proofs.Small.{at_places}

-- the tables of the ends of all living application servers
abbrev pub TablesHold : Layout → Plain → Machine → Type 0
TablesHold l p m = (d app : ℕ) → m.is_dead_at app ≡ false → AppTables ((p.server_at d).pair_at app) ((m.site_at d).end_at app).state

-- the same, as a part of the invariant
abbrev TablesPart : (ℕ → Bool) → ℕ → Server → Site → Type 0
TablesPart is_dead d v x = (app : ℕ) → is_dead app ≡ false → AppTables (v.pair_at app) (x.end_at app).state

-- the same pairs
abbrev pub SamePairs : Plain → Plain → Type 0
SamePairs p q = (d : ℕ) → (q.server_at d).pair_at ≡ (p.server_at d).pair_at

-- ends in the same state
abbrev SameStates : Machine → Machine → Type 0
SameStates m n = (d app : ℕ) → ((n.site_at d).end_at app).state ≡ ((m.site_at d).end_at app).state

pub tables_same : (l : Layout) (p q : Plain) (m n : Machine) → SamePairs p q → SameStates m n → ((app : ℕ) → n.is_dead_at app ≡ false → m.is_dead_at app ≡ false)
    → TablesHold l p m → TablesHold l q n
tables_same l p q m n pairs states alive h d app lives =
    subst (λ (e : AppEnd). AppTables ((q.server_at d).pair_at app) e) (sym (states d app))
    (subst (λ (f : ℕ → Pair). AppTables (f app) ((m.site_at d).end_at app).state) (sym (pairs d)) (h d app (alive app lives)))

-- an act of one data server that leaves its pairs
pairs_at : (p q : Plain) (d : ℕ) (v : Server) → q.server_at ≡ put p.server_at d v → v.pair_at ≡ (p.server_at d).pair_at → SamePairs p q
pairs_at p q d v after same k =
    ap (λ (f : ℕ → Server). (f k).pair_at) after
    ∙ at_places (λ (e : ℕ) (u : Server). u.pair_at ≡ (p.server_at e).pair_at) p.server_at d v same (λ e other. refl) k

-- a site that is changed at its node alone
pub states_at : (m : Machine) (server : ℕ) (y : Site) → ((app : ℕ) → (y.end_at app).state ≡ ((m.site_at server).end_at app).state)
    → (d app : ℕ) → ((put m.site_at server y d).end_at app).state ≡ ((m.site_at d).end_at app).state
states_at m server y same d app =
    at_places (λ (e : ℕ) (x : Site). (x.end_at app).state ≡ ((m.site_at e).end_at app).state) m.site_at server y (same app) (λ e other. refl) d

-- as the invariant has them
pub before : (l : Layout) (m : Machine) → Holds l m → TablesHold l (state_after l m.trail) m
before l m h d app lives = (h.sites d).ends.tables app lives

-- A tick keeps them.
pub tables_kept_by_tick : (l : Layout) (m new : Machine) (now : ℕ) (outs : MoveOuts) (written : List Act) → Holds l m → TickGoes m now outs written new
    → TablesHold l (state_after l new.trail) new
tables_kept_by_tick l m new now outs written h goes = before l new (kept_by_tick l m new now outs written h goes)

-- A look keeps them.
pub tables_kept_by_look : (l : Layout) (m : Machine) (app job line : ℕ) (at : Target) (outs : MoveOuts) (written : List Act) (new : Machine)
    → Holds l m → LookGoes m app job line at outs written new → TablesHold l (state_after l new.trail) new
tables_kept_by_look l m app job line at outs written new h goes =
    kept_by_look TablesPart l m app job line at outs written new goes (before l m h) (λ knows. before l m h at.server)

-- An application server that goes keeps them.
pub tables_kept_by_die : (l : Layout) (m : Machine) (app : ℕ) (outs : MoveOuts) (written : List Act) (new : Machine)
    → Holds l m → DieGoes m app outs written new → TablesHold l (state_after l new.trail) new
tables_kept_by_die l m app outs written new h goes = kept_by_death TablesPart l m app outs written new goes (λ alive d a lives. before l m h d a (alive a lives))

-- A halt keeps them.
pub tables_kept_by_halt : (l : Layout) (m : Machine) (server : ℕ) (outs : MoveOuts) (written : List Act) (new : Machine)
    → Holds l m → HaltGoes m server outs written new → TablesHold l (state_after l new.trail) new
tables_kept_by_halt l m server outs written new h goes = kept_by_halt TablesPart l m server outs written new goes (before l m h) (before l m h server)

-- the act of a start leaves the pairs
begin_pairs : (l : Layout) (p : Plain) (server : ℕ) (es : List Entry) (o : Option (List Entry)) → SamePairs p (after l p (begin_act o server es))
begin_pairs l p server es None = pairs_at p (after l p (begin_act None server es)) server _ refl refl
begin_pairs l p server es (Some order) = pairs_at p (after l p (begin_act (Some order) server es)) server _ refl refl

-- Each start of a data server keeps them.
pub tables_kept_by_begin : (l : Layout) (m : Machine) (server now : ℕ) (es : List Entry) (outs : MoveOuts) (written : List Act) (new : Machine)
    → Holds l m → BeginGoes m server now es outs written new → TablesHold l (state_after l new.trail) new
tables_kept_by_begin l m server now es outs written new h goes =
    subst (λ (n : Machine). TablesHold l (state_after l n.trail) n) (sym goes.after)
    (subst (λ (ws : List Act). TablesHold l (state_after l (m.trail ++ ws)) (with_acts ws (at_site server (begun_site m.layout server now es) m))) (sym goes.acts)
    (subst (λ (q : Plain). TablesHold l q (at_site server (begun_site m.layout server now es) m)) (sym (after_all-more l start m.trail begins))
    (tables_same l (state_after l m.trail) (after l (state_after l m.trail) begins) m (at_site server (begun_site m.layout server now es) m)
    (begin_pairs l (state_after l m.trail) server es (m.site_at server).order)
    (states_at m server (begun_site m.layout server now es (m.site_at server)) (λ a. refl)) (λ a lives. lives) (before l m h))))
  where
    begins : Act
    begins = begin_act (m.site_at server).order server es
