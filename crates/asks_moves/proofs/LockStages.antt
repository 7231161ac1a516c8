-- The requests of an end over a turn of a lock: they are as they have to be after each message that it puts, and where the command is over, so
-- is each of its requests that was put.
use Rattle.std.proofs.Common.{◌≡◌, ◌≢◌, ◌≤◌, ◌+◌, ℕ, Bool, true, false, ◌&&◌, ◌||◌, ◌==◌, if◌then◌else◌, not, List, [], ◌∷◌, ◌++◌, Option, Some, None, is_some, option_map, refl, sym, ◌∙◌, ap, subst}
use Rattle.std.specs.Prelude.{IfSome, IsSomeAnd}
use Rattle.std.specs.List.{AllByRecursion, find, list_any}
use Rattle.std.proofs.lemmas.Bool.{and_parts, eq-eqb, eqb-true, false≢true}
use Rattle.std.proofs.lemmas.List.{append_assoc}
use Rattle.plain_orders.specs.declared.mode.Mode.{Mode}
use Rattle.plain_runs.proofs.Lists.{any_front}
use Rattle.ecp_messages.specs.declared.down.Down.{Down}
use Rattle.ecp_messages.specs.declared.up.Up.{Up}
use Rattle.ecp_messages.specs.declared.up.Up.TheVariants.{Ask, Cancel}
use Rattle.app_rules.specs.declared.session_parts.Asked.{Asked}
use Rattle.app_rules.specs.AppState.{AppEnd, Session}
use Rattle.app_rules.specs.JobStep.{is_ask_elsewhere, left_at, left_by}
use Rattle.app_rules.specs.Refusing.{is_ask_of, is_ask_put_of}
use Rattle.app_rules.specs.Works.{Sofar, end_at, sets, with_session}
use Rattle.cluster_invariant.specs.Asks.{cancels_ticket, grants_ticket, has_one_job, is_asked_by, is_over, is_put_for}
use Rattle.cluster_steps.proofs.AppPlaces.{at_end}
use Rattle.asks_kept.proofs.Follows.{over_wider}
use Rattle.asks_kept.proofs.UpKinds.{any_ticket, any_wider_test}
use Rattle.asks_change.proofs.LockPuts.{EndAsksOne, EndPut, SessionsAsk, SessionsPut}
use Rattle.asks_change.proofs.QuietLocks.{EndQuiet, SessionQuiet, SessionsQuiet}
use Rattle.asks_moves.proofs.EndChanges.{any_filtered, job_left, or_behind}
use Rattle.asks_moves.proofs.EndPuts.{AskIn, AsksAre, any_behind, ask_put_new, cancel_put, quiet_put}

-- the request of a job that was put is the one that is found

find_all : {X : Type 0} (P : X → Type 0) (p : X → Bool) (xs : List X) (x : X) → AllByRecursion P xs → find p xs ≡ Some x → P x × (p x ≡ true)
find_all P p [] x all is = absurd (cc (is))
find_all {X} P p (y ∷ ys) x all is = go (p y) refl is (find_all P p ys x all.1)
  where
    go : (b : Bool) → p y ≡ b → (if b then Some y else find p ys) ≡ Some x → (find p ys ≡ Some x → P x × (p x ≡ true)) → P x × (p x ≡ true)
    go true here found more = subst (λ (z : X). P z × (p z ≡ true)) (same found) (all.0, here)
      where
        same : Some y ≡ Some x → y ≡ x
        same e = cc (e)
    go false other found more = more found

pub find_none : {X : Type 0} (p q : X → Bool) → ((x : X) → q x ≡ true → p x ≡ true) → (xs : List X) → find p xs ≡ None → list_any q xs ≡ false
find_none p q wider [] is = refl
find_none p q wider (x ∷ xs) is = go (p x) (q x) refl refl is (find_none p q wider xs)
  where
    go : (b c : Bool) → p x ≡ b → q x ≡ c → (if b then Some x else find p xs) ≡ None → (find p xs ≡ None → list_any q xs ≡ false) → (c || list_any q xs) ≡ false
    go true c here there found more = absurd (cc (found))
    go false true here there found more = absurd (false≢true (sym here ∙ wider x there))
    go false false here there found more = more found

-- a test of a job's requests
found_one : (job t : ℕ) (p : Asked → Bool) → ((a : Asked) → is_put_for t job a ≡ true → p a ≡ true) → ((a : Asked) → p a ≡ true → is_asked_by job a ≡ true)
    → (xs : List Asked)
    → has_one_job xs ≡ true → list_any (is_put_for t job) xs ≡ true → IsSomeAnd (find p xs) (λ a. a.ticket ≡ t)
found_one job t p finds its [] one is = absurd (false≢true is)
found_one job t p finds its (x ∷ xs) one is =
    go (p x) (is_put_for t job x) refl refl is (found_one job t p finds its xs (and_parts (not (list_any (is_asked_by x.job) xs)) (has_one_job xs) one).1)
  where
    ticket_is : is_put_for t job x ≡ true → x.ticket ≡ t
    ticket_is here = eqb-true x.ticket t (and_parts (x.ticket == t) (x.job == job) (and_parts x.put (x.ticket == t && x.job == job) here).1).0

    asked : (a : Asked) → is_put_for t job a ≡ true → is_asked_by job a ≡ true
    asked a here = (and_parts (a.ticket == t) (a.job == job) (and_parts a.put (a.ticket == t && a.job == job) here).1).1

    alone : p x ≡ true → list_any (is_put_for t job) xs ≡ true → ⊥
    alone here more =
        not_both (list_any (is_asked_by x.job) xs) (and_parts (not (list_any (is_asked_by x.job) xs)) (has_one_job xs) one).0
        (subst (λ (i : ℕ). list_any (is_asked_by i) xs ≡ true) (sym (eqb-true x.job job (its x here))) (any_wider_test (is_put_for t job) (is_asked_by job) asked xs more))
      where
        not_both : (b : Bool) → not b ≡ true → b ≡ true → ⊥
        not_both true e f = false≢true e
        not_both false e f = false≢true f

    go : (b c : Bool) → p x ≡ b → is_put_for t job x ≡ c → (c || list_any (is_put_for t job) xs) ≡ true
        → (list_any (is_put_for t job) xs ≡ true → IsSomeAnd (find p xs) (λ a. a.ticket ≡ t)) → IsSomeAnd (if b then Some x else find p xs) (λ a. a.ticket ≡ t)
    go true true here there found more = ticket_is there
    go true false here there found more = absurd (alone here found)
    go false true here there found more = absurd (false≢true (sym here ∙ finds x there))
    go false false here there found more = more found

put_of : (job t : ℕ) (a : Asked) → is_put_for t job a ≡ true → is_ask_put_of job a ≡ true
put_of job t a here =
    let parts : (a.put ≡ true) × ((a.ticket == t && a.job == job) ≡ true) = and_parts a.put (a.ticket == t && a.job == job) here in
    ap (λ (b : Bool). b && a.put) (and_parts (a.ticket == t) (a.job == job) parts.1).1 ∙ parts.0

module _ (ups : List Up) (taken : List Down) (before : List Up) (job : ℕ) where
  -- A session that has put so much since, with its requests.
  pub record StageIs (f : AppEnd) (q : Session) : Type 0 where
    pub put : List Up
    pub waiting : q.window.waiting ≡ before ++ put
    pub are : AsksAre (ups ++ put) taken f.ticket q.asks

  abbrev pub Stage : AppEnd → Type 0
  Stage f = IfSome f.session (StageIs f)

  -- And each request of the job that was put is over.
  pub record DoneIs (f : AppEnd) (q : Session) : Type 0 where
    pub stage : StageIs f q
    pub over : (t : ℕ) → list_any (is_put_for t job) q.asks ≡ true → is_over (ups ++ stage.put) taken t ≡ true

  abbrev pub Done : AppEnd → Type 0
  Done f = IfSome f.session (DoneIs f)

  one_quiet : (e f : AppEnd) (s t : Session) → e.ticket ≤ f.ticket → SessionQuiet s t → StageIs e s → StageIs f t
  one_quiet e f s t low x y = record {
    put = y.put ++ x.put;
    waiting = x.waiting ∙ ap (λ (ms : List Up). ms ++ x.put) y.waiting ∙ append_assoc before y.put x.put;
    are =
        subst (λ (ms : List Up). AsksAre ms taken f.ticket t.asks) (append_assoc ups y.put x.put)
        (subst (λ (xs : List Asked). AsksAre ((ups ++ y.put) ++ x.put) taken f.ticket xs) (sym x.asks)
        (quiet_put (ups ++ y.put) taken e.ticket f.ticket s.asks x.put low x.none y.are));
  }

  pub stage_quiet : (e f : AppEnd) → EndQuiet e f → Stage e → Stage f
  stage_quiet e f x y = go e.session f.session x.session y
    where
      go : (o q : Option Session) → SessionsQuiet o q → IfSome o (StageIs e) → IfSome q (StageIs f)
      go None None z is = tt
      go None (Some t) z is = absurd z
      go (Some s) None z is = absurd z
      go (Some s) (Some t) z is = one_quiet e f s t x.ticket z is

  -- more is put
  over_more : (put more : List Up) (t : ℕ) → is_over (ups ++ put) taken t ≡ true → is_over (ups ++ (put ++ more)) taken t ≡ true
  over_more put more t is =
      subst (λ (ms : List Up). is_over ms taken t ≡ true) (append_assoc ups put more)
      (over_wider (ups ++ put) ((ups ++ put) ++ more) taken taken t (any_front (cancels_ticket t) (ups ++ put) more) (λ here. here) is)

  pub done_quiet : (e f : AppEnd) → EndQuiet e f → Done e → Done f
  unfolding one_quiet
  done_quiet e f x y = go e.session f.session x.session y
    where
      go : (o q : Option Session) → SessionsQuiet o q → IfSome o (DoneIs e) → IfSome q (DoneIs f)
      go None None z is = tt
      go None (Some t) z is = absurd z
      go (Some s) None z is = absurd z
      go (Some s) (Some t) z is = record {
        stage = one_quiet e f s t x.ticket z is.stage;
        over = λ n here. over_more is.stage.put z.put n (is.over n (ap (list_any (is_put_for n job)) (sym z.asks) ∙ here));
      }

  pub done_stage : (f : AppEnd) → Done f → Stage f
  done_stage f y = go f.session y
    where
      go : (o : Option Session) → IfSome o (DoneIs f) → IfSome o (StageIs f)
      go None is = tt
      go (Some s) is = is.stage

  -- none was put
  pub none_done : (f : AppEnd) → IfSome f.session (λ q. (t : ℕ) → list_any (is_put_for t job) q.asks ≡ true → ⊥) → Stage f → Done f
  none_done f none y = go f.session none y
    where
      go : (o : Option Session) → IfSome o (λ q. (t : ℕ) → list_any (is_put_for t job) q.asks ≡ true → ⊥) → IfSome o (StageIs f) → IfSome o (DoneIs f)
      go None nothing is = tt
      go (Some s) nothing is = record { stage = is; over = λ t here. absurd (nothing t here) }

  -- an Ask is put
  pub stage_ask : (mode : Mode) (key : List ℕ) (e f : AppEnd) → EndAsksOne job mode key e f
      → IfSome e.session (λ q. list_any (is_asked_by job) q.asks ≡ false) → Stage e → Stage f
  stage_ask mode key e f x none y = go e.session f.session x.session none y
    where
      go : (o q : Option Session) → SessionsAsk (e.ticket + 1) job mode key o q → IfSome o (λ s. list_any (is_asked_by job) s.asks ≡ false)
          → IfSome o (StageIs e)
          → IfSome q (StageIs f)
      go None None z nothing is = tt
      go None (Some t) z nothing is = absurd z
      go (Some s) None z nothing is = absurd z
      go (Some s) (Some t) z nothing is = record {
        put = is.put ++ Ask (e.ticket + 1) job mode key ∷ [];
        waiting = z.waiting ∙ ap (λ (ms : List Up). ms ++ Ask (e.ticket + 1) job mode key ∷ []) is.waiting ∙ append_assoc before is.put (Ask (e.ticket + 1) job mode key ∷ []);
        are =
            subst (λ (ms : List Up). AsksAre ms taken f.ticket t.asks) (append_assoc ups is.put (Ask (e.ticket + 1) job mode key ∷ []))
            (subst (λ (n : ℕ). AsksAre ((ups ++ is.put) ++ Ask (e.ticket + 1) job mode key ∷ []) taken n t.asks) (sym x.ticket)
            (subst (λ (xs : List Asked). AsksAre ((ups ++ is.put) ++ Ask (e.ticket + 1) job mode key ∷ []) taken (e.ticket + 1) xs) (sym z.asks)
            (ask_put_new (ups ++ is.put) taken e.ticket job mode key s.asks nothing is.are)));
      }

  -- it is given up
  pub done_cancel : (a : Asked) (e f : AppEnd) → EndPut (Cancel a.ticket) e f → IfSome e.session (λ q. find (is_ask_put_of job) q.asks ≡ Some a) → Stage e
      → Done f
  done_cancel a e f x found y = go e.session f.session x.session found y
    where
      go : (o q : Option Session) → SessionsPut (Cancel a.ticket) o q → IfSome o (λ s. find (is_ask_put_of job) s.asks ≡ Some a) → IfSome o (StageIs e)
          → IfSome q (DoneIs f)
      go None None z at is = tt
      go None (Some t) z at is = absurd z
      go (Some s) None z at is = absurd z
      go (Some s) (Some t) z at is = by (find_all (AskIn (ups ++ is.put) taken e.ticket) (is_ask_put_of job) s.asks a is.are.each at)
        where
          by : AskIn (ups ++ is.put) taken e.ticket a × (is_ask_put_of job a ≡ true) → DoneIs f t
          by its = record {
            stage = record {
              put = is.put ++ Cancel a.ticket ∷ [];
              waiting = z.waiting ∙ ap (λ (ms : List Up). ms ++ Cancel a.ticket ∷ []) is.waiting ∙ append_assoc before is.put (Cancel a.ticket ∷ []);
              are =
                  subst (λ (ms : List Up). AsksAre ms taken f.ticket t.asks) (append_assoc ups is.put (Cancel a.ticket ∷ []))
                  (subst (λ (n : ℕ). AsksAre ((ups ++ is.put) ++ Cancel a.ticket ∷ []) taken n t.asks) (sym x.ticket)
                  (subst (λ (xs : List Asked). AsksAre ((ups ++ is.put) ++ Cancel a.ticket ∷ []) taken e.ticket xs) (sym z.asks)
                  (cancel_put (ups ++ is.put) taken e.ticket a.ticket s.asks
                  (any_ticket a.ticket a.job (ups ++ is.put) (its.0.put (and_parts (a.job == job) a.put its.1).1)) is.are)));
            };
            over = λ n here.
                over (find (is_ask_put_of job) s.asks) at n
                (found_one job n (is_ask_put_of job) (put_of job n) (λ b passed. (and_parts (b.job == job) b.put passed).0) s.asks is.are.one_each
                (ap (list_any (is_put_for n job)) (sym z.asks) ∙ here));
          }
            where
              over : (o : Option Asked) → o ≡ Some a → (n : ℕ)
                  → IsSomeAnd o (λ b. b.ticket ≡ n) → is_over (ups ++ (is.put ++ Cancel a.ticket ∷ [])) taken n ≡ true
              over None same n at_ticket = absurd at_ticket
              over (Some b) same n at_ticket =
                  ap (λ (c : Bool). c || list_any (grants_ticket n) taken)
                  (any_behind (cancels_ticket n) ups (is.put ++ Cancel a.ticket ∷ [])
                  (any_behind (cancels_ticket n) is.put (Cancel a.ticket ∷ []) (ap (λ (c : Bool). c || false) (eq-eqb a.ticket n (ap (λ (c : Asked). c.ticket) (sym (inner b same)) ∙ at_ticket)))))
                where
                  inner : (b : Asked) → Some b ≡ Some a → b ≡ a
                  inner b e = cc (e)

  -- where none is found that was put
  pub done_none : (f : AppEnd) → IfSome f.session (λ q. find (is_ask_put_of job) q.asks ≡ None) → Stage f → Done f
  done_none f found y = go f.session found y
    where
      go : (o : Option Session) → IfSome o (λ q. find (is_ask_put_of job) q.asks ≡ None) → IfSome o (StageIs f) → IfSome o (DoneIs f)
      go None at is = tt
      go (Some s) at is = record {
        stage = is;
        over = λ n here. absurd (false≢true (sym (find_none (is_ask_put_of job) (is_put_for n job) (put_of job n) s.asks at) ∙ here));
      }

  -- where the one that is found was granted
  pub done_granted : (a : Asked) (f : AppEnd) → is_some a.at ≡ true → IfSome f.session (λ q. find (is_ask_of job) q.asks ≡ Some a) → Stage f → Done f
  done_granted a f granted found y = go f.session found y
    where
      go : (o : Option Session) → IfSome o (λ q. find (is_ask_of job) q.asks ≡ Some a) → IfSome o (StageIs f) → IfSome o (DoneIs f)
      go None at is = tt
      go (Some s) at is = record {
        stage = is;
        over = λ n here.
            over (find (is_ask_of job) s.asks) at n
            (found_one job n (is_ask_of job) (λ b passed. (and_parts (b.ticket == n) (b.job == job) (and_parts b.put (b.ticket == n && b.job == job) passed).1).1) (λ b passed. passed)
            s.asks is.are.one_each here);
      }
        where
          its : AskIn (ups ++ is.put) taken f.ticket a
          its = (find_all (AskIn (ups ++ is.put) taken f.ticket) (is_ask_of job) s.asks a is.are.each at).0

          over : (o : Option Asked) → o ≡ Some a → (n : ℕ) → IsSomeAnd o (λ b. b.ticket ≡ n) → is_over (ups ++ is.put) taken n ≡ true
          over None same n at_ticket = absurd at_ticket
          over (Some b) same n at_ticket =
              or_behind (list_any (cancels_ticket n) (ups ++ is.put)) (list_any (grants_ticket n) taken)
              (subst (λ (k : ℕ). list_any (grants_ticket k) taken ≡ true) (ap (λ (c : Asked). c.ticket) (sym (inner b same)) ∙ at_ticket) (its.granted granted))
            where
              inner : (b : Asked) → Some b ≡ Some a → b ≡ a
              inner b e = cc (e)

  -- and the requests of the job are left
  left_end : (e : AppEnd) → Done e → Done (with_session (left_by job) e)
  left_end e y = go e.session y
    where
      go : (o : Option Session) → IfSome o (DoneIs e) → IfSome (option_map (left_by job) o) (DoneIs (with_session (left_by job) e))
      go None is = tt
      go (Some s) is = record {
        stage = record { put = is.stage.put; waiting = is.stage.waiting; are = job_left (ups ++ is.stage.put) taken e.ticket job s.asks is.over is.stage.are };
        over = λ n here. is.over n (any_filtered (is_put_for n job) (is_ask_elsewhere job) s.asks here);
      }

  pub left_done : (k : ℕ) (ds : List ℕ) (b : Sofar) → Done (end_at b.state k) → Done (end_at (left_at job ds b).state k)
  left_done k [] b y = y
  left_done k (d ∷ ds) b y =
      left_done k ds (sets d (left_by job) b)
      (at_end Done d k (with_session (left_by job) (end_at b.state d)) b.state
      (λ same. left_end (end_at b.state d) (subst (λ (n : ℕ). Done (end_at b.state n)) same y)) y)
