-- The plain server of a data server in the midst of a step, after the acts that were written so far.
use Rattle.std.proofs.Common.{◌≡◌, ℕ, Bool, true, false, cond, List, [], ◌∷◌, ◌++◌, append_assoc, refl, sym, ◌∙◌, ap, subst}
use Rattle.std.specs.List.{AllByRecursion}
use Rattle.std.proofs.lemmas.Bool.{false≢true}
use Rattle.std.proofs.lemmas.List.{append-nil}
use Rattle.plain_orders.specs.declared.act.Act.{Act}
use Rattle.plain_orders.specs.declared.act.Act.TheVariants.{Opened, Enter, Synced, Shut, Release, Met, Told, Back, Crash, Issue, Read, Grant, Granted, GiveUp, Quit, Free, Counted, NotWhole, Range, Committed, RolledBack, Reached, Level, Done, Refused, Broke, Mended, Tick, Lose, Died}
use Rattle.plain_orders.specs.declared.causes.PairEnd.TheVariants.{Server as ServerSide}
use Rattle.plain_orders.specs.declared.causes.ShutCause.{ShutCause}
use Rattle.plain_orders.specs.declared.entry.Entry.{Entry}
use Rattle.plain_orders.specs.declared.layout.Layout.{Layout}
use Rattle.plain_runs.specs.EndRows.{broke_server, shut}
use Rattle.plain_runs.specs.OrderRows.{came_back, entered}
use Rattle.plain_runs.specs.Plain.{Plain, Server}
use Rattle.plain_runs.specs.Run.{after_all}
use Rattle.plain_runs.specs.Step.{after}
use Rattle.plain_runs.proofs.RunLemmas.{after_all-more, at_put}
use Rattle.cluster_runs.specs.Steps.{is_raised, raised}
use Rattle.cluster_invariant.proofs.Small.{put_same}

-- the plain server after such acts, without the saves that raise nothing
abbrev pub view : Layout → Plain → ℕ → ℕ → List Act → Server
view l p d n acts = (after_all l p (raised n acts)).server_at d

raised_more : (n : ℕ) (xs : List Act) (a : Act) → is_raised n a ≡ true → raised n (xs ++ a ∷ []) ≡ raised n xs ++ a ∷ []
raised_more n [] a is = ap (λ (b : Bool). cond b (a ∷ []) []) is
raised_more n (x ∷ xs) a is = go (is_raised n x) (raised_more n xs a is)
  where
    go : (b : Bool) → raised n (xs ++ a ∷ []) ≡ raised n xs ++ a ∷ [] → cond b (x ∷ raised n (xs ++ a ∷ [])) (raised n (xs ++ a ∷ [])) ≡ cond b (x ∷ raised n xs) (raised n xs) ++ a ∷ []
    go true more = ap (λ (ys : List Act). x ∷ ys) more
    go false more = more

-- an act more
view_more : (l : Layout) (p : Plain) (d n : ℕ) (xs : List Act) (a : Act) → is_raised n a ≡ true → view l p d n (xs ++ a ∷ []) ≡ (after l (after_all l p (raised n xs)) a).server_at d
view_more l p d n xs a is =
    ap (λ (ys : List Act). (after_all l p ys).server_at d) (raised_more n xs a is)
    ∙ ap (λ (q : Plain). q.server_at d) (after_all-more l p (raised n xs) a)

pub view_enter : (l : Layout) (p : Plain) (d n : ℕ) (xs : List Act) (e : Entry) → view l p d n (xs ++ Enter d e ∷ []) ≡ entered (view l p d n xs) e
view_enter l p d n xs e = view_more l p d n xs (Enter d e) refl ∙ put_same (after_all l p (raised n xs)).server_at d _

pub view_shut : (l : Layout) (p : Plain) (d n : ℕ) (xs : List Act) (s : ℕ) (cause : ShutCause) → view l p d n (xs ++ Shut d s cause ∷ []) ≡ shut (view l p d n xs) s
view_shut l p d n xs s cause = view_more l p d n xs (Shut d s cause) refl ∙ put_same (after_all l p (raised n xs)).server_at d _

pub view_back : (l : Layout) (p : Plain) (d n : ℕ) (xs : List Act) → view l p d n (xs ++ Back d ∷ []) ≡ came_back (view l p d n xs)
view_back l p d n xs = view_more l p d n xs (Back d) refl ∙ put_same (after_all l p (raised n xs)).server_at d _

pub view_broke : (l : Layout) (p : Plain) (d n : ℕ) (xs : List Act) (app now : ℕ) → view l p d n (xs ++ Broke app d ServerSide now ∷ []) ≡ broke_server (view l p d n xs) app now
view_broke l p d n xs app now = view_more l p d n xs (Broke app d ServerSide now) refl ∙ put_same (after_all l p (raised n xs)).server_at d _

-- what the data ends are compared with
pub record SameView (v w : Server) : Type 0 where
  pub ends : w.end_at ≡ v.end_at
  pub due : w.due ≡ v.due
  pub order : w.order ≡ v.order

pub same_view : (v : Server) → SameView v v
same_view v = record { ends = refl; due = refl; order = refl }

-- an act of locks
abbrev pub is_of_locks : Act → Bool
is_of_locks (Grant d session job mode key at) = true
is_of_locks (Free d session job mode key) = true
is_of_locks (Release d session) = true
is_of_locks a = false

locks_row : (l : Layout) (p : Plain) (a : Act) → is_of_locks a ≡ true → (d : ℕ) → SameView (p.server_at d) ((after l p a).server_at d)
locks_row l p (Grant e session job mode key at) is d = at_put SameView p.server_at e _ same_view (record { ends = refl; due = refl; order = refl }) d
locks_row l p (Free e session job mode key) is d = at_put SameView p.server_at e _ same_view (record { ends = refl; due = refl; order = refl }) d
locks_row l p (Release e session) is d = at_put SameView p.server_at e _ same_view (record { ends = refl; due = refl; order = refl }) d
locks_row l p (Opened e entries) is d = absurd (false≢true is)
locks_row l p (Enter e x) is d = absurd (false≢true is)
locks_row l p (Synced e k) is d = absurd (false≢true is)
locks_row l p (Shut e session cause) is d = absurd (false≢true is)
locks_row l p (Met app e session) is d = absurd (false≢true is)
locks_row l p (Told app e session epoch kept) is d = absurd (false≢true is)
locks_row l p (Back e) is d = absurd (false≢true is)
locks_row l p (Crash e kept) is d = absurd (false≢true is)
locks_row l p (Issue job line e w item) is d = absurd (false≢true is)
locks_row l p (Read job line e at via question) is d = absurd (false≢true is)
locks_row l p (Granted job line e at) is d = absurd (false≢true is)
locks_row l p (GiveUp job line e mode key) is d = absurd (false≢true is)
locks_row l p (Quit job line e mode key) is d = absurd (false≢true is)
locks_row l p (Counted job line e at sum) is d = absurd (false≢true is)
locks_row l p (NotWhole job line e at) is d = absurd (false≢true is)
locks_row l p (Range job line e at) is d = absurd (false≢true is)
locks_row l p (Committed job line e at) is d = absurd (false≢true is)
locks_row l p (RolledBack job line e at) is d = absurd (false≢true is)
locks_row l p (Reached job line e at) is d = absurd (false≢true is)
locks_row l p (Level job line level) is d = absurd (false≢true is)
locks_row l p (Done job line) is d = absurd (false≢true is)
locks_row l p (Refused job line refusal) is d = absurd (false≢true is)
locks_row l p (Broke app e end time) is d = absurd (false≢true is)
locks_row l p (Mended app e) is d = absurd (false≢true is)
locks_row l p (Tick time) is d = absurd (false≢true is)
locks_row l p (Lose app e loss) is d = absurd (false≢true is)
locks_row l p (Died app) is d = absurd (false≢true is)

locks_raised : (n : ℕ) (a : Act) → is_of_locks a ≡ true → is_raised n a ≡ true
locks_raised n (Grant e session job mode key at) is = refl
locks_raised n (Free e session job mode key) is = refl
locks_raised n (Release e session) is = refl
locks_raised n (Opened e entries) is = absurd (false≢true is)
locks_raised n (Enter e x) is = absurd (false≢true is)
locks_raised n (Synced e k) is = absurd (false≢true is)
locks_raised n (Shut e session cause) is = absurd (false≢true is)
locks_raised n (Met app e session) is = absurd (false≢true is)
locks_raised n (Told app e session epoch kept) is = absurd (false≢true is)
locks_raised n (Back e) is = absurd (false≢true is)
locks_raised n (Crash e kept) is = absurd (false≢true is)
locks_raised n (Issue job line e w item) is = absurd (false≢true is)
locks_raised n (Read job line e at via question) is = absurd (false≢true is)
locks_raised n (Granted job line e at) is = absurd (false≢true is)
locks_raised n (GiveUp job line e mode key) is = absurd (false≢true is)
locks_raised n (Quit job line e mode key) is = absurd (false≢true is)
locks_raised n (Counted job line e at sum) is = absurd (false≢true is)
locks_raised n (NotWhole job line e at) is = absurd (false≢true is)
locks_raised n (Range job line e at) is = absurd (false≢true is)
locks_raised n (Committed job line e at) is = absurd (false≢true is)
locks_raised n (RolledBack job line e at) is = absurd (false≢true is)
locks_raised n (Reached job line e at) is = absurd (false≢true is)
locks_raised n (Level job line level) is = absurd (false≢true is)
locks_raised n (Done job line) is = absurd (false≢true is)
locks_raised n (Refused job line refusal) is = absurd (false≢true is)
locks_raised n (Broke app e end time) is = absurd (false≢true is)
locks_raised n (Mended app e) is = absurd (false≢true is)
locks_raised n (Tick time) is = absurd (false≢true is)
locks_raised n (Lose app e loss) is = absurd (false≢true is)
locks_raised n (Died app) is = absurd (false≢true is)

-- Acts of locks leave all that.
pub view_locks : (l : Layout) (p : Plain) (d n : ℕ) (xs more : List Act) → AllByRecursion (λ a. is_of_locks a ≡ true) more → SameView (view l p d n xs) (view l p d n (xs ++ more))
view_locks l p d n xs [] all = subst (λ (ys : List Act). SameView (view l p d n xs) (view l p d n ys)) (sym (append-nil xs)) (same_view (view l p d n xs))
view_locks l p d n xs (a ∷ more) all =
    subst (λ (ys : List Act). SameView (view l p d n xs) (view l p d n ys)) (append_assoc xs (a ∷ []) more)
    (go (view l p d n (xs ++ a ∷ [])) (view_more l p d n xs a (locks_raised n a all.0)) (view_locks l p d n (xs ++ a ∷ []) more all.1))
  where
    go : (w : Server) → w ≡ (after l (after_all l p (raised n xs)) a).server_at d → SameView w (view l p d n ((xs ++ a ∷ []) ++ more)) → SameView (view l p d n xs) (view l p d n ((xs ++ a ∷ []) ++ more))
    go w is s = by (subst (λ (u : Server). SameView (view l p d n xs) u) (sym is) (locks_row l (after_all l p (raised n xs)) a all.0 d)) s
      where
        by : SameView (view l p d n xs) w → SameView w (view l p d n ((xs ++ a ∷ []) ++ more)) → SameView (view l p d n xs) (view l p d n ((xs ++ a ∷ []) ++ more))
        by f m = record { ends = m.ends ∙ f.ends; due = m.due ∙ f.due; order = m.order ∙ f.order }
