-- What each act but a save makes of the holds in force of a server.
use Rattle.std.proofs.Common.{◌≡◌, ◌⊎◌, inl, inr, ℕ, zero, suc, ◌+◌, Bool, true, false, List, [], ◌∷◌, ◌++◌, drop, take, refl, sym, ◌∙◌, ap, subst, ◌==◌, ◌&&◌, ◌||◌, not, if◌then◌else◌}
use Rattle.std.specs.List.{list_any}
use Rattle.std.proofs.lemmas.Bool.{false≢true}
use Rattle.std.proofs.lemmas.List.{drop-append-le}
use Rattle.std.proofs.lemmas.List.Folds.{list_any-append}
use Rattle.plain_orders.specs.declared.act.Act.{Act}
use Rattle.plain_orders.specs.declared.act.Act.TheVariants.{Opened, Enter, Synced, Shut, Release, Met, Told, Back, Crash, Issue, Read, Grant, Granted, GiveUp, Quit, Free, Counted, NotWhole, Range, Committed, RolledBack, Reached, Level, Done, Refused, Broke, Mended, Tick, Lose, Died}
use Rattle.plain_orders.specs.declared.causes.Loss.{Loss}
use Rattle.plain_orders.specs.declared.causes.Loss.TheVariants.{Reset as ByReset, Expired as ByExpired, NoWay as ByNoWay}
use Rattle.plain_orders.specs.declared.causes.PairEnd.{PairEnd}
use Rattle.plain_orders.specs.declared.causes.PairEnd.TheVariants.{App as AppEnd, Server as ServerEnd}
use Rattle.plain_orders.specs.declared.entry.Entry.{Entry}
use Rattle.plain_orders.specs.declared.entry.Entry.TheVariants as entry
use Rattle.plain_orders.specs.declared.layout.Layout.{Layout}
use Rattle.plain_orders.specs.declared.mode.Mode.{Mode}
use Rattle.plain_orders.specs.declared.refused.Refused.{Refused as Refusal}
use Rattle.plain_orders.specs.declared.refused.Refused.TheVariants.{NoTransaction, TooDeep, RollbackOnly, LockTimeout, Network}
use Rattle.plain_orders.specs.Entries.{closes, last_epoch, live, live_after}
use Rattle.plain_orders.proofs.EntryLemmas.{live-push}
use Rattle.plain_runs.specs.Plain.{Plain, Server, Hold, app_of, pair_session}
use Rattle.plain_runs.specs.Holds.{answered_hold, binds, freed_hold, given_up, hold_after_back, hold_after_crash, is_asked, is_kept, is_sent_at, new_hold, released_hold}
use Rattle.plain_runs.specs.OrderRows.{EnterMay, OpenedMay, came_back, crashed, entered, opened_with}
use Rattle.plain_runs.specs.EndRows.{broke, lost, shut}
use Rattle.plain_runs.specs.JobRows.{refused}
use Rattle.plain_runs.specs.LockRows.{GrantMay, first_given, first_quit, frees, given_now, gives_up, granted, grants, is_quit, quits, releases}
use Rattle.plain_runs.specs.Step.{MayCome, after}
use Rattle.plain_runs.proofs.LockRows.{each_first, each_last, each_map, each_push, each_weaker}
use Rattle.plain_runs.proofs.Orders.{Each, OrdersKept, facet}
use Rattle.plain_runs.proofs.RunLemmas.{at_put}

-- a save
abbrev pub is_save : Act → Bool
is_save (Opened d entries) = false
is_save (Enter d x) = false
is_save (Synced d n) = true
is_save (Shut d session cause) = false
is_save (Release d session) = false
is_save (Met app d session) = false
is_save (Told app d session epoch kept) = false
is_save (Back d) = false
is_save (Crash d kept) = false
is_save (Issue job line d w item) = false
is_save (Read job line d at via question) = false
is_save (Grant d session job mode key at) = false
is_save (Granted job line d at) = false
is_save (GiveUp job line d mode key) = false
is_save (Quit job line d mode key) = false
is_save (Free d session job mode key) = false
is_save (Counted job line d at sum) = false
is_save (NotWhole job line d at) = false
is_save (Range job line d at) = false
is_save (Committed job line d at) = false
is_save (RolledBack job line d at) = false
is_save (Reached job line d at) = false
is_save (Level job line level) = false
is_save (Done job line) = false
is_save (Refused job line refusal) = false
is_save (Broke app d end time) = false
is_save (Mended app d) = false
is_save (Tick time) = false
is_save (Lose app d loss) = false
is_save (Died app) = false

-- The hold is in force of a live session, of one whose Close isn't synced, or of one of these.
abbrev pub ForcedBut : (ℕ → Bool) → Server → Hold → Type 0
ForcedBut leaving v h = binds h ≡ true
    → (live v.order h.session ≡ true) ⊎ ((list_any (closes h.session) (drop v.synced v.order) ≡ true) ⊎ (leaving h.session ≡ true))

-- each hold of a server
abbrev pub AllForcedBut : (ℕ → Bool) → Server → Type 0
AllForcedBut leaving v = Each (ForcedBut leaving v) v.holds

module _ (leaving : ℕ → Bool) where
  -- what it was for one server it is for the other
  abbrev Steps : Server → Server → Type 0
  Steps s t = OrdersKept (facet s) → AllForcedBut leaving s → AllForcedBut leaving t

  same : (s : Server) → Steps s s
  same s o k = k

  -- orders

  -- a session that is live before an entry is live after it, or it is closed by it
  live_on : (b : Bool) (e : Entry) (q : ℕ) → b ≡ true → (live_after b e q ≡ true) ⊎ (closes q e ≡ true)
  live_on b (entry.Epoch number) q is = inl is
  live_on b (entry.Opened session app) q is = go (session == q)
    where
      go : (t : Bool) → ((if t then true else b) ≡ true) ⊎ (false ≡ true)
      go true = inl refl
      go false = inl is
  live_on b (entry.Closed session) q is = go (session == q)
    where
      go : (t : Bool) → ((if t then false else b) ≡ true) ⊎ (t ≡ true)
      go true = inr refl
      go false = inl is
  live_on b (entry.Update session w job txn op) q is = inl is
  live_on b (entry.Commit session w job txn) q is = inl is
  live_on b (entry.Rollback session w job txn) q is = inl is

  -- one of two lists has it
  any_either : {X : Type 0} (p : X → Bool) (xs ys : List X) → (list_any p xs ≡ true) ⊎ (list_any p ys ≡ true) → list_any p (xs ++ ys) ≡ true
  any_either p xs ys has = list_any-append p xs ys ∙ go (list_any p xs) (list_any p ys) has
    where
      go : (a b : Bool) → (a ≡ true) ⊎ (b ≡ true) → (a || b) ≡ true
      go true b has = refl
      go false b (inl has) = absurd (false≢true has)
      go false b (inr has) = has

  -- an entry at the end
  longer : (s t : Server) (e : Entry) → t.holds ≡ s.holds → t.order ≡ s.order ++ e ∷ [] → t.synced ≡ s.synced → Steps s t
  longer s t e holds order synced o k = subst (Each (ForcedBut leaving t)) (sym holds) (each_weaker (ForcedBut leaving s) (ForcedBut leaving t) one s.holds k)
    where
      unsynced : drop t.synced t.order ≡ drop s.synced s.order ++ e ∷ []
      unsynced = ap (λ (n : ℕ). drop n t.order) synced ∙ ap (drop s.synced) order ∙ drop-append-le s.synced s.order (e ∷ []) o.within

      closed : (q : ℕ) → (list_any (closes q) (drop s.synced s.order) ≡ true) ⊎ (closes q e ≡ true) → list_any (closes q) (drop t.synced t.order) ≡ true
      closed q has = ap (list_any (closes q)) unsynced ∙ any_either (closes q) (drop s.synced s.order) (e ∷ []) (at_last has)
        where
          at_last : (list_any (closes q) (drop s.synced s.order) ≡ true) ⊎ (closes q e ≡ true)
              → (list_any (closes q) (drop s.synced s.order) ≡ true) ⊎ (list_any (closes q) (e ∷ []) ≡ true)
          at_last (inl has) = inl has
          at_last (inr has) = inr (ap (λ (b : Bool). b || false) has)

      one : (h : Hold) → ForcedBut leaving s h → ForcedBut leaving t h
      one h forced is = go (forced is)
        where
          lives : (live_after (live s.order h.session) e h.session ≡ true) ⊎ (closes h.session e ≡ true)
              → (live t.order h.session ≡ true) ⊎ ((list_any (closes h.session) (drop t.synced t.order) ≡ true) ⊎ (leaving h.session ≡ true))
          lives (inl has) = inl (ap (λ (es : List Entry). live es h.session) order ∙ live-push s.order e h.session ∙ has)
          lives (inr has) = inr (inl (closed h.session (inr has)))

          go : (live s.order h.session ≡ true) ⊎ ((list_any (closes h.session) (drop s.synced s.order) ≡ true) ⊎ (leaving h.session ≡ true))
              → (live t.order h.session ≡ true) ⊎ ((list_any (closes h.session) (drop t.synced t.order) ≡ true) ⊎ (leaving h.session ≡ true))
          go (inl has) = lives (live_on (live s.order h.session) e h.session has)
          go (inr (inl has)) = inr (inl (closed h.session (inl has)))
          go (inr (inr has)) = inr (inr has)

  enters : (l : Layout) (clock : ℕ) (s : Server) (x : Entry) → EnterMay l clock s x → Steps s (entered s x)
  enters l clock s (entry.Epoch number) may = absurd may
  enters l clock s (entry.Closed session) may = absurd may
  enters l clock s (entry.Opened session app) may = longer s (entered s (entry.Opened session app)) (entry.Opened session app) refl refl refl
  enters l clock s (entry.Update session w job txn op) may = longer s (entered s (entry.Update session w job txn op))
      (entry.Update session w job txn op) refl refl refl
  enters l clock s (entry.Commit session w job txn) may = longer s (entered s (entry.Commit session w job txn))
      (entry.Commit session w job txn) refl refl refl
  enters l clock s (entry.Rollback session w job txn) may = longer s (entered s (entry.Rollback session w job txn))
      (entry.Rollback session w job txn) refl refl refl

  -- nothing is in force before the first order
  opens : (clock round : ℕ) (s : Server) (entries : List Entry) → OpenedMay s entries → Steps s (opened_with clock round s entries)
  opens clock round s entries may o k =
      each_weaker (ForcedBut leaving s) (ForcedBut leaving (opened_with clock round s entries)) one s.holds k
    where
      none : s.order ≡ []
      none = (o.fresh may.fresh).0

      dropped : (n : ℕ) (es : List Entry) → es ≡ [] → drop n es ≡ []
      dropped zero es e = e
      dropped (suc n) [] e = refl
      dropped (suc n) (x ∷ es) e = absurd (cc (e))

      one : (h : Hold) → ForcedBut leaving s h → ForcedBut leaving (opened_with clock round s entries) h
      one h forced is = go (forced is)
        where
          go : (live s.order h.session ≡ true) ⊎ ((list_any (closes h.session) (drop s.synced s.order) ≡ true) ⊎ (leaving h.session ≡ true))
              → (live (opened_with clock round s entries).order h.session ≡ true)
              ⊎ ((list_any (closes h.session) (drop (opened_with clock round s entries).synced (opened_with clock round s entries).order) ≡ true) ⊎
              (leaving h.session ≡ true))
          go (inl has) = absurd (false≢true (ap (λ (es : List Entry). live es h.session) (sym none) ∙ has))
          go (inr (inl has)) = absurd (false≢true (ap (list_any (closes h.session)) (sym (dropped s.synced s.order none)) ∙ has))
          go (inr (inr has)) = inr (inr has)

  crashes : (clock round : ℕ) (s : Server) (kept : ℕ) → Steps s (crashed clock round s kept)
  crashes clock round s kept o k =
      each_map (ForcedBut leaving s) (ForcedBut leaving (crashed clock round s kept)) (hold_after_crash (take kept s.order) kept) one s.holds k
    where
      one : (h : Hold) → ForcedBut leaving s h → ForcedBut leaving (crashed clock round s kept) (hold_after_crash (take kept s.order) kept h)
      one h forced is = inl (live-push (take kept s.order) (entry.Epoch (last_epoch (take kept s.order) + 1)) h.session ∙ go
          (live (take kept s.order) h.session) h.in_force _ is)
        where
          go : (b f g : Bool) → ((if b then f else false) && g) ≡ true → b ≡ true
          go true f g is = refl
          go false f g is = is

  -- holds

  -- a hold that went is not in force, one that is in force was
  was_there : (f g x : Bool) → (f && not (g || x)) ≡ true → (f && not g) ≡ true
  was_there f true x is = is
  was_there true false x is = refl
  was_there false false x is = is

  comes_back : (s : Server) → Steps s (came_back s)
  comes_back s o k =
      each_map (ForcedBut leaving s) (ForcedBut leaving (came_back s)) (hold_after_back s.order)
      (λ h forced is. forced (was_there h.in_force h.gone _ is)) s.holds k

  was_forced : (b f g : Bool) → ((if b then false else f) && g) ≡ true → (f && g) ≡ true
  was_forced true f g is = absurd (false≢true is)
  was_forced false f g is = is

  releases_of : (s : Server) (session : ℕ) → Steps s (releases s session)
  releases_of s session o k =
      each_map (ForcedBut leaving s) (ForcedBut leaving (releases s session)) (released_hold session)
      (λ h forced is. forced (was_forced (h.session == session) h.in_force (not h.gone) is)) s.holds k

  frees_of : (s : Server) (session job : ℕ) (mode : Mode) (key : List ℕ) → Steps s (frees s session job mode key)
  frees_of s session job mode key o k =
      each_map (ForcedBut leaving s) (ForcedBut leaving (frees s session job mode key)) (freed_hold (first_given s session job mode key) session job mode key)
      (λ h forced is. forced (was_there h.in_force h.gone _ is)) s.holds k

  grants_of : (s : Server) (session job : ℕ) (mode : Mode) (key : List ℕ) (at : ℕ) → GrantMay s session job mode key at
      → Steps s (grants s session job mode key at)
  grants_of s session job mode key at may o k =
      each_push (ForcedBut leaving s) s.holds (new_hold session job mode key at (first_quit (is_quit session job mode key) s.quits)) k (λ is. inl may.is_live)

  granted_of : (s : Server) (app job at : ℕ) → Steps s (granted s app job at)
  granted_of s app job at o k =
      each_first (ForcedBut leaving s) (is_sent_at (pair_session s app) job at) answered_hold (λ h is forced. forced) s.holds k

  gives_of : (s : Server) (app job : ℕ) (mode : Mode) (key : List ℕ) → Steps s (gives_up s app job mode key)
  gives_of s app job mode key o k =
      each_last (ForcedBut leaving s) (is_kept (pair_session s app) job mode key) (given_up (given_now s (pair_session s app)))
      (λ h is forced. forced) s.holds k

  quits_of : (s : Server) (app job : ℕ) (mode : Mode) (key : List ℕ) → Steps s (quits s app job mode key)
  quits_of s app job mode key o k =
      each_first (ForcedBut leaving s) (is_asked (pair_session s app) job mode key) (given_up (given_now s (pair_session s app)))
      (λ h is forced. forced) s.holds k

  -- all acts

  breaks : (s : Server) (app : ℕ) (end : PairEnd) (time : ℕ) → Steps s (broke s app end time)
  breaks s app AppEnd time = same s
  breaks s app ServerEnd time = same s

  loses : (l : Layout) (p : Plain) (app d : ℕ) (loss : Loss) (e : ℕ) → Steps (p.server_at e) ((lost l p app d loss).server_at e)
  loses l p app d (ByReset at) e = at_put Steps p.server_at d _ same (same (p.server_at d)) e
  loses l p app d (ByExpired time) e = at_put Steps p.server_at d _ same (same (p.server_at d)) e
  loses l p app d (ByNoWay from to) e = at_put Steps p.server_at d _ same (same (p.server_at d)) e

  refuses : (p : Plain) (j : ℕ) (r : Refusal) (e : ℕ) → Steps (p.server_at e) ((refused p j r).server_at e)
  refuses p j NoTransaction e = same (p.server_at e)
  refuses p j TooDeep e = same (p.server_at e)
  refuses p j RollbackOnly e = same (p.server_at e)
  refuses p j LockTimeout e = same (p.server_at e)
  refuses p j (Network d state reason) e = at_put Steps p.server_at d _ same (same (p.server_at d)) e

  -- Each act but a save.
  pub row_forced : (l : Layout) (p : Plain) (a : Act) → MayCome l p a → is_save a ≡ false → (e : ℕ)
      → OrdersKept (facet (p.server_at e)) → AllForcedBut leaving (p.server_at e) → AllForcedBut leaving ((after l p a).server_at e)
  row_forced l p (Opened d entries) may other e = at_put Steps p.server_at d _ same (opens p.clock l.times.round (p.server_at d) entries may) e
  row_forced l p (Enter d x) may other e = at_put Steps p.server_at d _ same (enters l p.clock (p.server_at d) x may) e
  row_forced l p (Synced d n) may other e = absurd (false≢true (sym other))
  row_forced l p (Shut d session cause) may other e = at_put Steps p.server_at d _ same (longer (p.server_at d) (shut (p.server_at d) session)
      (entry.Closed session) refl refl refl) e
  row_forced l p (Release d session) may other e = at_put Steps p.server_at d _ same (releases_of (p.server_at d) session) e
  row_forced l p (Met app d session) may other e = at_put Steps p.server_at d _ same (same (p.server_at d)) e
  row_forced l p (Told app d session epoch kept) may other e = at_put Steps p.server_at d _ same (same (p.server_at d)) e
  row_forced l p (Back d) may other e = at_put Steps p.server_at d _ same (comes_back (p.server_at d)) e
  row_forced l p (Crash d kept) may other e = at_put Steps p.server_at d _ same (crashes p.clock l.times.round (p.server_at d) kept) e
  row_forced l p (Issue job line d w item) may other e = at_put Steps p.server_at d _ same (same (p.server_at d)) e
  row_forced l p (Read job line d at via question) may other e = at_put Steps p.server_at d _ same (same (p.server_at d)) e
  row_forced l p (Grant d session job mode key at) may other e = at_put Steps p.server_at d _ same (grants_of (p.server_at d) session job mode key at may) e
  row_forced l p (Granted job line d at) may other e = at_put Steps p.server_at d _ same (granted_of (p.server_at d) (app_of l job) job at) e
  row_forced l p (GiveUp job line d mode key) may other e = at_put Steps p.server_at d _ same (gives_of (p.server_at d) (app_of l job) job mode key) e
  row_forced l p (Quit job line d mode key) may other e = at_put Steps p.server_at d _ same (quits_of (p.server_at d) (app_of l job) job mode key) e
  row_forced l p (Free d session job mode key) may other e = at_put Steps p.server_at d _ same (frees_of (p.server_at d) session job mode key) e
  row_forced l p (Counted job line d at sum) may other e = at_put Steps p.server_at d _ same (same (p.server_at d)) e
  row_forced l p (NotWhole job line d at) may other e = at_put Steps p.server_at d _ same (same (p.server_at d)) e
  row_forced l p (Range job line d at) may other e = at_put Steps p.server_at d _ same (same (p.server_at d)) e
  row_forced l p (Committed job line d at) may other e = at_put Steps p.server_at d _ same (same (p.server_at d)) e
  row_forced l p (RolledBack job line d at) may other e = at_put Steps p.server_at d _ same (same (p.server_at d)) e
  row_forced l p (Reached job line d at) may other e = at_put Steps p.server_at d _ same (same (p.server_at d)) e
  row_forced l p (Level job line level) may other e = same (p.server_at e)
  row_forced l p (Done job line) may other e = same (p.server_at e)
  row_forced l p (Refused job line refusal) may other e = refuses p job refusal e
  row_forced l p (Broke app d end time) may other e = at_put Steps p.server_at d _ same (breaks (p.server_at d) app end time) e
  row_forced l p (Mended app d) may other e = at_put Steps p.server_at d _ same (same (p.server_at d)) e
  row_forced l p (Tick time) may other e = same (p.server_at e)
  row_forced l p (Lose app d loss) may other e = loses l p app d loss e
  row_forced l p (Died app) may other e = same (p.server_at e)
