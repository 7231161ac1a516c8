-- What becomes of each hold of a server.
use Rattle.std.proofs.Common.{◌≡◌, ℕ, List, [], ◌∷◌, map, take, refl, subst, sym, ap, ◌∙◌, Bool, true, false, if◌then◌else◌, ◌||◌, ◌&&◌, not, ◌==◌, Option}
use Rattle.std.specs.Prelude.{is_some, IsSomeAnd}
use Rattle.std.proofs.lemmas.Bool.{and_parts, not-true}
use Rattle.plain_orders.specs.declared.act.Act.{Act}
use Rattle.plain_orders.specs.declared.act.Act.TheVariants.{Opened, Enter, Synced, Shut, Release, Met, Told, Back, Crash, Issue, Read}
use Rattle.plain_orders.specs.declared.act.Act.TheVariants.{Grant, Granted, GiveUp, Quit, Free, Counted, NotWhole, Range, Committed, RolledBack}
use Rattle.plain_orders.specs.declared.act.Act.TheVariants.{Reached, Level, Done, Refused, Broke, Mended, Tick, Lose, Died}
use Rattle.plain_orders.specs.declared.layout.Layout.{Layout}
use Rattle.plain_orders.specs.declared.mode.Mode.{Mode}
use Rattle.plain_orders.specs.Entries.{live}
use Rattle.plain_runs.specs.Plain.{Plain, Server, Hold, Given, app_of, pair_session}
use Rattle.plain_runs.specs.Holds.{answered_hold, freed_hold, given_up, hold_after_back, hold_after_crash, is_asked, is_kept, is_lock, is_of, is_sent}
use Rattle.plain_runs.specs.Holds.{is_sent_at, released_hold}
use Rattle.plain_runs.specs.LockRows.{first_given, given_now, gives_up, granted, quits}
use Rattle.plain_runs.specs.Step.{after}
use Rattle.plain_runs.specs.Run.{after_all}
use Rattle.plain_runs.proofs.RunLemmas.{at_put}
use Rattle.plain_runs.proofs.Orders.{Each}
use Rattle.plain_runs.proofs.Lists.{both_ways}
use Rattle.plain_runs.proofs.HoldRows.{sent_facts}
use Rattle.trail_laws.proofs.HoldGoes.{Follow, follow_any, follow_first, follow_last, follow_map, follow_on, follow_push, follow_there}
use Rattle.hold_laws.proofs.LeftHolds.{others_leave_holds}
use Rattle.hold_laws.specs.HoldChanges.{HoldsStay, IsLater, changes_holds}

later_same : (h : Hold) → IsLater h h
later_same h = record {
  session = refl;
  job = refl;
  mode = refl;
  key = refl;
  at = refl;
  answered = λ e. e;
  given = λ e. refl;
  released = λ e. e;
  gone = λ e. e;
  frozen = λ e. (refl, refl);
}

later_on : (h k m : Hold) → IsLater h k → IsLater k m → IsLater h m
later_on h k m f g = record {
  session = g.session ∙ f.session;
  job = g.job ∙ f.job;
  mode = g.mode ∙ f.mode;
  key = g.key ∙ f.key;
  at = g.at ∙ f.at;
  answered = λ e. g.answered (f.answered e);
  given = λ e. g.given (ap is_some (f.given e) ∙ e) ∙ f.given e;
  released = λ e. g.released (f.released e);
  gone = λ e. g.gone (f.gone e);
  frozen = λ e. let x = f.frozen e in let y = g.frozen (f.gone e) in (y.0 ∙ x.0, y.1 ∙ x.1);
}

-- a sent hold is answered
later_answered : (h : Hold) → h.gone ≡ false → IsLater h (answered_hold h)
later_answered h there = record {
  session = refl;
  job = refl;
  mode = refl;
  key = refl;
  at = refl;
  answered = λ _. refl;
  given = λ e. refl;
  released = λ e. e;
  gone = λ e. e;
  frozen = λ e. absurd (both_ways h.gone e there);
}

-- one that wasn't given up is
later_given : (g : Given) (h : Hold) → is_some h.given ≡ false → h.gone ≡ false → IsLater h (given_up g h)
later_given g h none there = record {
  session = refl;
  job = refl;
  mode = refl;
  key = refl;
  at = refl;
  answered = λ e. e;
  given = λ e. absurd (both_ways (is_some h.given) e none);
  released = λ e. e;
  gone = λ e. e;
  frozen = λ e. absurd (both_ways h.gone e there);
}

-- one is no longer in force, or goes
later_away : (h : Hold) (b x : Bool) → IsLater h (record h { in_force = if b then h.in_force else false; gone = h.gone || x })
later_away h b x = record {
  session = refl;
  job = refl;
  mode = refl;
  key = refl;
  at = refl;
  answered = λ e. e;
  given = λ e. refl;
  released = λ e. force b e;
  gone = λ e. ap (λ (y : Bool). y || x) e;
  frozen = λ e. (refl, refl);
}
  where
    force : (b : Bool) → h.in_force ≡ false → (if b then h.in_force else false) ≡ false
    force true e = e
    force false e = refl

later_gone : (h : Hold) (x : Bool) → IsLater h (record h { gone = h.gone || x })
later_gone h x = later_away h true x

later_released : (session : ℕ) (h : Hold) → IsLater h (released_hold session h)
later_released session h = record {
  session = refl;
  job = refl;
  mode = refl;
  key = refl;
  at = refl;
  answered = λ e. e;
  given = λ e. refl;
  released = λ e. force (h.session == session) e;
  gone = λ e. e;
  frozen = λ e. (refl, refl);
}
  where
    force : (b : Bool) → h.in_force ≡ false → (if b then false else h.in_force) ≡ false
    force true e = refl
    force false e = e

-- through each row

abbrev Goes : Server → Server → Type 0
Goes s t = Follow IsLater s.holds t.holds

goes_same : (s : Server) → Goes s s
goes_same s = follow_any IsLater later_same s.holds

abbrev Any : Hold → Type 0
Any h = Unit {0}

each_any : (hs : List Hold) → Each Any hs
each_any [] = tt
each_any (h ∷ hs) = (tt, each_any hs)

map_goes : (s t : Server) (f : Hold → Hold) → ((h : Hold) → IsLater h (f h)) → Goes s (record t { holds = map f s.holds })
map_goes s t f later = follow_map Any IsLater f (λ h _. later h) s.holds (each_any s.holds)

granted_goes : (s : Server) (app job at : ℕ) → Goes s (granted s app job at)
granted_goes s app job at =
    follow_first IsLater (is_sent_at (pair_session s app) job at) answered_hold later_same
    (λ h p. later_answered h (sent_facts h (and_parts (is_sent h) (is_of (pair_session s app) job h && h.at == at) p).0).2) s.holds

give_goes : (s : Server) (app job : ℕ) (mode : Mode) (key : List ℕ) → Goes s (gives_up s app job mode key)
give_goes s app job mode key =
    follow_last IsLater (is_kept (pair_session s app) job mode key) (given_up (given_now s (pair_session s app))) later_same give s.holds
  where
    give : (h : Hold) → is_kept (pair_session s app) job mode key h ≡ true → IsLater h (given_up (given_now s (pair_session s app)) h)
    give h p =
        let a = and_parts (h.answered && not (is_some h.given)) (not h.gone && (is_of (pair_session s app) job h && is_lock mode key h)) p in
        let b = and_parts h.answered (not (is_some h.given)) a.0 in
        let c = and_parts (not h.gone) (is_of (pair_session s app) job h && is_lock mode key h) a.1 in
        later_given (given_now s (pair_session s app)) h (not-true (is_some h.given) b.1) (not-true h.gone c.0)

quit_goes : (s : Server) (app job : ℕ) (mode : Mode) (key : List ℕ) → Goes s (quits s app job mode key)
quit_goes s app job mode key =
    follow_first IsLater (is_asked (pair_session s app) job mode key) (given_up (given_now s (pair_session s app))) later_same give s.holds
  where
    give : (h : Hold) → is_asked (pair_session s app) job mode key h ≡ true → IsLater h (given_up (given_now s (pair_session s app)) h)
    give h p =
        let f = sent_facts h (and_parts (is_sent h) (is_of (pair_session s app) job h && is_lock mode key h) p).0 in
        later_given (given_now s (pair_session s app)) h f.1 f.2

left_goes : (l : Layout) (p : Plain) (a : Act) (e : ℕ) → changes_holds a ≡ false → Goes (p.server_at e) ((after l p a).server_at e)
left_goes l p a e off = subst (Follow IsLater (p.server_at e).holds) (sym (others_leave_holds l p a e off).holds) (goes_same (p.server_at e))

row_goes : (l : Layout) (p : Plain) (a : Act) (e : ℕ) → Goes (p.server_at e) ((after l p a).server_at e)
row_goes l p (Opened d entries) e = left_goes l p (Opened d entries) e refl
row_goes l p (Enter d x) e = left_goes l p (Enter d x) e refl
row_goes l p (Synced d n) e = left_goes l p (Synced d n) e refl
row_goes l p (Shut d session cause) e = left_goes l p (Shut d session cause) e refl
row_goes l p (Release d session) e =
    at_put Goes p.server_at d _ goes_same (map_goes (p.server_at d) (p.server_at d) (released_hold session) (later_released session)) e
row_goes l p (Met app d session) e = left_goes l p (Met app d session) e refl
row_goes l p (Told app d session epoch kept) e = left_goes l p (Told app d session epoch kept) e refl
row_goes l p (Back d) e =
    at_put Goes p.server_at d _ goes_same (map_goes (p.server_at d) (p.server_at d) (hold_after_back (p.server_at d).order) (λ h. later_gone h _)) e
row_goes l p (Crash d kept) e =
    at_put Goes p.server_at d _ goes_same
    (map_goes (p.server_at d) (p.server_at d) (hold_after_crash (take kept (p.server_at d).order) kept)
    (λ h. later_away h (live (take kept (p.server_at d).order) h.session) _)) e
row_goes l p (Issue job line d w item) e = left_goes l p (Issue job line d w item) e refl
row_goes l p (Read job line d at via question) e = left_goes l p (Read job line d at via question) e refl
row_goes l p (Grant d session job mode key at) e = at_put Goes p.server_at d _ goes_same (follow_push IsLater later_same (p.server_at d).holds _) e
row_goes l p (Granted job line d at) e = at_put Goes p.server_at d _ goes_same (granted_goes (p.server_at d) (app_of l job) job at) e
row_goes l p (GiveUp job line d mode key) e = at_put Goes p.server_at d _ goes_same (give_goes (p.server_at d) (app_of l job) job mode key) e
row_goes l p (Quit job line d mode key) e = at_put Goes p.server_at d _ goes_same (quit_goes (p.server_at d) (app_of l job) job mode key) e
row_goes l p (Free d session job mode key) e =
    at_put Goes p.server_at d _ goes_same
    (map_goes (p.server_at d) (p.server_at d) (freed_hold (first_given (p.server_at d) session job mode key) session job mode key) (λ h. later_gone h _)) e
row_goes l p (Counted job line d at sum) e = left_goes l p (Counted job line d at sum) e refl
row_goes l p (NotWhole job line d at) e = left_goes l p (NotWhole job line d at) e refl
row_goes l p (Range job line d at) e = left_goes l p (Range job line d at) e refl
row_goes l p (Committed job line d at) e = left_goes l p (Committed job line d at) e refl
row_goes l p (RolledBack job line d at) e = left_goes l p (RolledBack job line d at) e refl
row_goes l p (Reached job line d at) e = left_goes l p (Reached job line d at) e refl
row_goes l p (Level job line level) e = left_goes l p (Level job line level) e refl
row_goes l p (Done job line) e = left_goes l p (Done job line) e refl
row_goes l p (Refused job line refusal) e = left_goes l p (Refused job line refusal) e refl
row_goes l p (Broke app d end time) e = left_goes l p (Broke app d end time) e refl
row_goes l p (Mended app d) e = left_goes l p (Mended app d) e refl
row_goes l p (Tick time) e = left_goes l p (Tick time) e refl
row_goes l p (Lose app d loss) e = left_goes l p (Lose app d loss) e refl
row_goes l p (Died app) e = left_goes l p (Died app) e refl

run_goes : (l : Layout) (p : Plain) (acts : List Act) (d : ℕ) → Goes (p.server_at d) ((after_all l p acts).server_at d)
run_goes l p [] d = goes_same (p.server_at d)
run_goes l p (a ∷ acts) d =
    follow_on IsLater IsLater IsLater later_on (p.server_at d).holds ((after l p a).server_at d).holds ((after_all l (after l p a) acts).server_at d).holds
    (row_goes l p a d) (run_goes l (after l p a) acts d)

pub holds_stay : HoldsStay
holds_stay l p acts d i h is =
    let k = follow_there IsLater (p.server_at d).holds ((after_all l p acts).server_at d).holds i h (run_goes l p acts d) is in
    subst (λ (o : Option Hold). IsSomeAnd o (IsLater h)) (sym k.1.0) k.1.1
