-- What a job has seen is within the order that its pair's session is told of.
use Rattle.std.proofs.Common.{◌≡◌, ℕ, ◌≤◌, ◌<◌, ◌+◌, List, [], ◌∷◌, ◌++◌, length, take, refl, subst, sym, ap, ◌∙◌, Bool, true, false, eqb, ◌==◌, if◌then◌else◌, arith, length-append, ◌⊎◌, inl, inr, Option, Some, None, ◌&&◌, ◌||◌, not}
use Rattle.std.specs.Prelude.{is_some, unwrap_or, nat_lt, min}
use Rattle.std.specs.Option.{option_map}
use Rattle.std.proofs.lemmas.Bool.{eqb-true, eq-eqb, or_parts, ltb-false, cases_lt}
use Rattle.std.proofs.lemmas.List.{length-take-le}
use Rattle.plain_orders.specs.declared.entry.Entry.{Entry}
use Rattle.plain_orders.specs.declared.entry.Entry.TheVariants.{Epoch}
use Rattle.plain_orders.specs.declared.layout.Layout.{Layout}
use Rattle.plain_orders.specs.Entries.{live, last_epoch}
use Rattle.plain_runs.specs.Plain.{Server, Session, Entered, Hold, app_of, runs_on, current, orders, order_at, session_in}
use Rattle.plain_runs.specs.OrderRows.{CrashMay, BackMay, opened_with, crashed, came_back, due_of, is_told}
use Rattle.plain_runs.specs.EndRows.{MetMay, ToldMay, met_by, told_of, begun_from, begun_by, entered_in}
use Rattle.plain_runs.proofs.RunLemmas.{at_put}
use Rattle.plain_runs.proofs.Lists.{both_ways, none_live, live_has}
use Rattle.plain_runs.proofs.HoldRows.{sent_facts}
use Rattle.plain_runs.proofs.LockRows.{each_weaker, each_map}
use Rattle.plain_runs.proofs.Bases.{Sight, SentKept, ToldKept, sight, base, len, told_in, owner_in, place_in, or_else, grow, long_last, long_more, live_push, get_last}
use Rattle.plain_runs.specs.Holds.{is_sent, hold_after_crash, hold_after_back}
use Rattle.plain_orders.proofs.Places.{place_low}

-- a hold that is sent though some holds go was sent
pub less_gone : (a g n c : Bool) → (not a && (not g && not (n || c))) ≡ true → (not a && (not g && not n)) ≡ true
less_gone true g n c e = absurd (cc (e))
less_gone false true n c e = absurd (cc (e))
less_gone false false true c e = absurd (cc (e))
less_gone false false false c e = refl

pub opened_row : (l : Layout) (clock round : ℕ) (s : Server) (entries : List Entry) → s.order ≡ [] → s.synced ≤ length s.order → ToldKept l (sight s) → ToldKept l (sight (opened_with clock round s entries))
opened_row l clock round s entries empty within k =
    grow l (sight s) (sight (opened_with clock round s entries)) refl long (omega arith) (omega (arith, within, ap length empty)) up
    (each_weaker (SentKept s.past s.order (base (sight s))) (SentKept s.past new (base (sight s))) sent s.holds k.sent) k
  where
    new : List Entry
    new = entries ++ Epoch (last_epoch entries + 1) ∷ []

    long : (i : ℕ) → len s.past s.order i ≤ len s.past new i
    long i = long_last s.past s.order new i (omega (arith, ap length empty))

    up : due_of entries clock round ≡ None → (n : ℕ) → live new n ≡ true → base (sight s) n ≡ Some (length s.past)
    up d n on = absurd (both_ways (live entries n) (sym (live_push false entries (Epoch (last_epoch entries + 1)) n) ∙ on) (none_live entries clock round d n))

    sent : (h : Hold) → SentKept s.past s.order (base (sight s)) h → SentKept s.past new (base (sight s)) h
    sent h x = record {
      behind = x.behind;
      within = λ y. omega (arith, x.within y, ap length empty);
      reaches = λ y b i e lo hi. omega (arith, x.reaches y b i e lo hi, long i);
    }

pub crash_row : (l : Layout) (clock round : ℕ) (s : Server) (kept : ℕ) → CrashMay s kept → ToldKept l (sight s) → ToldKept l (sight (crashed clock round s kept))
crash_row l clock round s kept may k =
    grow l (sight s) (sight (crashed clock round s kept)) refl long (omega (arith, length-append s.past (s.order ∷ []))) may.no_less up
    (each_map (SentKept s.past s.order (base (sight s))) (SentKept (s.past ++ s.order ∷ []) new (base (sight s))) (hold_after_crash (take kept s.order) kept) sent s.holds k.sent) k
  where
    last : Entry
    last = Epoch (last_epoch (take kept s.order) + 1)

    new : List Entry
    new = take kept s.order ++ last ∷ []

    long : (i : ℕ) → len s.past s.order i ≤ len (s.past ++ s.order ∷ []) new i
    long i = long_more (s.past ++ s.order ∷ []) new i

    up : due_of (take kept s.order) clock round ≡ None → (n : ℕ) → live new n ≡ true → base (sight s) n ≡ Some (length (s.past ++ s.order ∷ []))
    up d n on = absurd (both_ways (live (take kept s.order) n) (sym (live_push false (take kept s.order) last n) ∙ on) (none_live (take kept s.order) clock round d n))

    sent : (h : Hold) → SentKept s.past s.order (base (sight s)) h → SentKept (s.past ++ s.order ∷ []) new (base (sight s)) (hold_after_crash (take kept s.order) kept h)
    sent h x = record {
      behind = λ y. x.behind (was y);
      within = λ y. omega (arith, low y, length-append (take kept s.order) (last ∷ []), length-take-le kept s.order may.within);
      reaches = λ y b i e lo hi. reach y b i e lo hi (cases_lt i (length (s.past ++ s.order ∷ [])));
    }
      where
        was : is_sent (hold_after_crash (take kept s.order) kept h) ≡ true → is_sent h ≡ true
        was y = less_gone h.answered (is_some h.given) h.gone (is_sent h && nat_lt kept h.at) y

        low : is_sent (hold_after_crash (take kept s.order) kept h) ≡ true → h.at ≤ kept
        low y =
            let f : (is_sent h && nat_lt kept h.at) ≡ false = (or_parts h.gone (is_sent h && nat_lt kept h.at) (sent_facts (hold_after_crash (take kept s.order) kept h) y).2).1 in
            omega (arith, ltb-false kept h.at (subst (λ (b : Bool). (b && nat_lt kept h.at) ≡ false) (was y) f))

        reach : is_sent (hold_after_crash (take kept s.order) kept h) ≡ true → (b i : ℕ) → base (sight s) h.session ≡ Some b → b ≤ i → i ≤ length (s.past ++ s.order ∷ [])
            → (i < length (s.past ++ s.order ∷ [])) ⊎ (length (s.past ++ s.order ∷ []) ≤ i) → h.at ≤ len (s.past ++ s.order ∷ []) new i
        reach y b i e lo hi (inl under) = omega (arith, x.reaches (was y) b i e lo (omega (arith, under, length-append s.past (s.order ∷ []))), long i)
        reach y b i e lo hi (inr over) =
            let same : length (s.past ++ s.order ∷ []) ≡ i = omega arith in
            subst (λ m. h.at ≤ len (s.past ++ s.order ∷ []) new m) same
            (omega (arith, low y, get_last (s.past ++ s.order ∷ []) new, length-append (take kept s.order) (last ∷ []), length-take-le kept s.order may.within))

told_now : (o : Option Session) (c : ℕ) → (is_some o && (unwrap_or o (record { app = 0; issued = []; told = 0 })).told == c) ≡ true → told_in o ≡ Some c
told_now None c e = absurd (cc (e))
told_now (Some m) c e = ap Some (eqb-true m.told c e)

pub back_row : (l : Layout) (s : Server) → BackMay s → ToldKept l (sight s) → ToldKept l (sight (came_back s))
back_row l s may k =
    grow l (sight s) (sight (came_back s)) refl (λ i. omega arith) (omega arith) (omega arith)
    (λ d n on. ap (λ o. or_else o (place_in (s.entered_at n))) (told_now (s.session_at n) (current s) (live_has s.order (is_told s) n may.told on)))
    (each_map (SentKept s.past s.order (base (sight s))) (SentKept s.past s.order (base (sight s))) (hold_after_back s.order)
    (λ h x. record { behind = λ y. x.behind (was h y); within = λ y. x.within (was h y); reaches = λ y. x.reaches (was h y) }) s.holds k.sent) k
  where
    was : (h : Hold) → is_sent (hold_after_back s.order h) ≡ true → is_sent h ≡ true
    was h y = less_gone h.answered (is_some h.given) h.gone _ y

begun_low : (epoch found i c : ℕ) (os : List (List Entry)) → found ≤ c → i + length os ≤ c + 1 → begun_from epoch found i os ≤ c
begun_low epoch found i c [] low high = low
begun_low epoch found i c (es ∷ more) low high = begun_low epoch (if last_epoch es == epoch then i else found) (i + 1) c more (go (last_epoch es == epoch)) (omega arith)
  where
    go : (b : Bool) → (if b then i else found) ≤ c
    go true = omega arith
    go false = low

runs_here : (l : Layout) (app j : ℕ) → j < length l.job_apps → app_of l j ≡ app → runs_on l app j ≡ true
runs_here l app j there same = go (nat_lt j (length l.job_apps)) refl
  where
    go : (b : Bool) → nat_lt j (length l.job_apps) ≡ b → (b && app_of l j == app) ≡ true
    go true e = eq-eqb (app_of l j) app same
    go false e = absurd (omega (arith, ltb-false j (length l.job_apps) e))

pub told_row : (l : Layout) (s : Server) (app session epoch kept : ℕ) → ToldMay s app session epoch kept → ToldKept l (sight s) → ToldKept l (sight (told_of l s app session epoch kept))
told_row l s app session epoch kept may k = record {
  low = λ n b e. low n b e (facts n);
  place = k.place;
  met = λ n m. met n m (facts n);
  up = λ d n on. up d n on (facts n);
  sent = each_weaker (SentKept s.past s.order (base (sight s))) (SentKept s.past s.order (base w)) sent s.holds k.sent;
  its = λ a n p. owners n ∙ k.its a n p;
  seen = λ j n b there p t. seen j n b there p t (facts n);
}
  where
    w : Sight
    w = sight (told_of l s app session epoch kept)

    goal : ℕ
    goal = begun_by s epoch

    old : ℕ
    old = (session_in s session).told

    Facts : ℕ → Type 0
    Facts n = ((n ≡ session) × (w.told n ≡ Some goal)) ⊎ (w.told n ≡ told_in (s.session_at n))

    there_goal : (o : Option Session) → owner_in o ≡ Some app → told_in (option_map (λ (m : Session). record m { told = begun_by s epoch }) o) ≡ Some goal
    there_goal None e = absurd (cc (e))
    there_goal (Some m) e = refl

    was : told_in (s.session_at session) ≡ Some old
    was = go (s.session_at session) (k.its app session may.its)
      where
        go : (o : Option Session) → owner_in o ≡ Some app → told_in o ≡ Some (unwrap_or o (record { app = 0; issued = []; told = 0 })).told
        go None e = absurd (cc (e))
        go (Some m) e = refl

    was_base : base (sight s) session ≡ Some old
    was_base = ap (λ o. or_else o (place_in (s.entered_at session))) was

    facts : (n : ℕ) → Facts n
    facts n = go (eqb n session) refl
      where
        go : (b : Bool) → eqb n session ≡ b → ((n ≡ session) × (told_in (if b then option_map (λ (m : Session). record m { told = begun_by s epoch }) (s.session_at session) else s.session_at n) ≡ Some goal)) ⊎ (told_in (if b then option_map (λ (m : Session). record m { told = begun_by s epoch }) (s.session_at session) else s.session_at n) ≡ told_in (s.session_at n))
        go true e = inl (eqb-true n session e, there_goal (s.session_at session) (k.its app session may.its))
        go false e = inr refl

    owners : (n : ℕ) → w.owner n ≡ owner_in (s.session_at n)
    owners n = at_put (λ o r. owner_in r ≡ owner_in o) s.session_at session _ (λ o. refl) (here (s.session_at session)) n
      where
        here : (o : Option Session) → owner_in (option_map (λ (m : Session). record m { told = begun_by s epoch }) o) ≡ owner_in o
        here None = refl
        here (Some m) = refl

    goal_low : goal ≤ length s.past
    goal_low = begun_low epoch 0 0 (length s.past) (orders s) (omega arith) (omega (arith, length-append s.past (s.order ∷ [])))

    low : (n b : ℕ) → base w n ≡ Some b → Facts n → b ≤ length s.past
    low n b e (inl x) = let same : goal ≡ b = cc (e, ap (λ o. or_else o (place_in (s.entered_at n))) x.1) in omega (arith, same, goal_low)
    low n b e (inr x) = k.low n b (sym (ap (λ o. or_else o (place_in (s.entered_at n))) x) ∙ e)

    met : (n : ℕ) → is_some (w.told n) ≡ true → Facts n → n ≤ s.synced
    met n m (inl x) = subst (λ i. i ≤ s.synced) (sym x.0) (k.met session (ap is_some was))
    met n m (inr x) = k.met n (subst (λ o. is_some o ≡ true) x m)

    up : s.due ≡ None → (n : ℕ) → live s.order n ≡ true → Facts n → base w n ≡ Some (length s.past)
    up d n on (inl x) =
        let now : base (sight s) session ≡ Some (length s.past) = k.up d session (subst (λ i. live s.order i ≡ true) x.0 on) in
        let same : old ≡ length s.past = cc (now, was_base) in
        absurd (omega (arith, same, may.later, goal_low))
    up d n on (inr x) = ap (λ o. or_else o (place_in (s.entered_at n))) x ∙ k.up d n on

    sent : (h : Hold) → SentKept s.past s.order (base (sight s)) h → SentKept s.past s.order (base w) h
    sent h x = record { behind = x.behind; within = x.within; reaches = λ y b i e lo hi. reach y b i e lo hi (facts h.session) }
      where
        reach : is_sent h ≡ true → (b i : ℕ) → base w h.session ≡ Some b → b ≤ i → i ≤ length s.past → Facts h.session → h.at ≤ len s.past s.order i
        reach y b i e lo hi (inl z) =
            let same : goal ≡ b = cc (e, ap (λ o. or_else o (place_in (s.entered_at h.session))) z.1) in
            x.reaches y old i (subst (λ m. base (sight s) m ≡ Some old) (sym z.0) was_base) (omega (arith, same, may.later)) hi
        reach y b i e lo hi (inr z) = x.reaches y b i (sym (ap (λ o. or_else o (place_in (s.entered_at h.session))) z) ∙ e) lo hi

    kept_low : kept ≤ len s.past s.order goal
    kept_low = omega (arith, place_low _ 0 kept (order_at s goal) may.place)

    seen : (j n b : ℕ) → j < length l.job_apps → (s.pair_at (app_of l j)).session ≡ Some n → w.told n ≡ Some b → Facts n → w.seen j ≤ len s.past s.order b
    seen j n b there p t (inl x) =
        let mine : owner_in (s.session_at session) ≡ Some (app_of l j) = subst (λ m. owner_in (s.session_at m) ≡ Some (app_of l j)) x.0 (k.its (app_of l j) n p) in
        let its : app_of l j ≡ app = cc (mine, k.its app session may.its) in
        let same : goal ≡ b = cc (t, x.1) in
        subst (λ i. w.seen j ≤ len s.past s.order i) same
        (subst (λ (c : Bool). (if c then record (s.known_at j) { seen = min (s.known_at j).seen kept } else s.known_at j).seen ≤ len s.past s.order goal) (sym (runs_here l app j there its)) (omega (arith, kept_low)))
    seen j n b there p t (inr x) = go (runs_on l app j) (k.seen j n b there p (sym x ∙ t))
      where
        go : (c : Bool) → (s.known_at j).seen ≤ len s.past s.order b → (if c then record (s.known_at j) { seen = min (s.known_at j).seen kept } else s.known_at j).seen ≤ len s.past s.order b
        go true y = omega (arith, y)
        go false y = y

pub met_row : (l : Layout) (s : Server) (app session : ℕ) → MetMay s app session → ToldKept l (sight s) → ToldKept l (sight (met_by l s app session))
met_row l s app session may k = record {
  low = λ n b e. k.low n b (sym (bases n (facts n)) ∙ e);
  place = k.place;
  met = λ n m. met n m (facts n);
  up = λ d n on. bases n (facts n) ∙ k.up d n on;
  sent = each_weaker (SentKept s.past s.order (base (sight s))) (SentKept s.past s.order (base w))
      (λ h x. record { behind = x.behind; within = x.within; reaches = λ y b i e lo hi. x.reaches y b i (sym (bases h.session (facts h.session)) ∙ e) lo hi }) s.holds k.sent;
  its = λ a n p. its a n p (eqb a app) refl (facts n);
  seen = λ j n b there p t. seen j n b there p t (eqb (app_of l j) app) refl (facts n);
}
  where
    w : Sight
    w = sight (met_by l s app session)

    first : ℕ
    first = (entered_in s session).in_order

    Facts : ℕ → Type 0
    Facts n = ((n ≡ session) × (w.told n ≡ Some first) × (w.owner n ≡ Some app)) ⊎ ((eqb n session ≡ false) × (w.told n ≡ told_in (s.session_at n)) × (w.owner n ≡ owner_in (s.session_at n)))

    facts : (n : ℕ) → Facts n
    facts n = go (eqb n session) refl
      where
        new : Option Session
        new = Some (record { app = app; issued = []; told = first })

        go : (b : Bool) → eqb n session ≡ b → ((n ≡ session) × (told_in (if b then new else s.session_at n) ≡ Some first) × (owner_in (if b then new else s.session_at n) ≡ Some app))
            ⊎ ((eqb n session ≡ false) × (told_in (if b then new else s.session_at n) ≡ told_in (s.session_at n)) × (owner_in (if b then new else s.session_at n) ≡ owner_in (s.session_at n)))
        go true e = inl (eqb-true n session e, refl, refl)
        go false e = inr (e, refl, refl)

    placed : place_in (s.entered_at session) ≡ Some first
    placed = go (s.entered_at session) may.entered
      where
        go : (o : Option Entered) → is_some o ≡ true → place_in o ≡ Some (unwrap_or o (record { app = 0; in_order = 0; lost_since = false })).in_order
        go None e = absurd (cc (e))
        go (Some x) e = refl

    fresh : (told_in (s.session_at session) ≡ None) × (owner_in (s.session_at session) ≡ None)
    fresh = go (s.session_at session) may.fresh
      where
        go : (o : Option Session) → is_some o ≡ false → (told_in o ≡ None) × (owner_in o ≡ None)
        go None e = (refl, refl)
        go (Some x) e = absurd (cc (e))

    old_base : base (sight s) session ≡ Some first
    old_base = ap (λ o. or_else o (place_in (s.entered_at session))) fresh.0 ∙ placed

    bases : (n : ℕ) → Facts n → base w n ≡ base (sight s) n
    bases n (inl x) = ap (λ o. or_else o (place_in (s.entered_at n))) x.1 ∙ sym (subst (λ m. base (sight s) m ≡ Some first) (sym x.0) old_base)
    bases n (inr x) = ap (λ o. or_else o (place_in (s.entered_at n))) x.1

    met : (n : ℕ) → is_some (w.told n) ≡ true → Facts n → n ≤ s.synced
    met n m (inl x) = omega (arith, x.0, may.synced)
    met n m (inr x) = k.met n (subst (λ o. is_some o ≡ true) x.1 m)

    not_new : (a n : ℕ) → (s.pair_at a).session ≡ Some n → n ≡ session → ⊥
    not_new a n p e = absurd (cc (subst (λ m. owner_in (s.session_at m) ≡ Some a) e (k.its a n p), fresh.1))

    pairs : (a n : ℕ) (b : Bool) → eqb a app ≡ b → w.pair a ≡ Some n → (if b then Some session else (s.pair_at a).session) ≡ Some n
    pairs a n true e p = subst (λ (c : Bool). (if c then record { session = Some session; broke = None } else s.pair_at a).session ≡ Some n) e p
    pairs a n false e p = subst (λ (c : Bool). (if c then record { session = Some session; broke = None } else s.pair_at a).session ≡ Some n) e p

    its : (a n : ℕ) → w.pair a ≡ Some n → (b : Bool) → eqb a app ≡ b → Facts n → w.owner n ≡ Some a
    its a n p true e (inl x) = x.2 ∙ ap Some (sym (eqb-true a app e))
    its a n p true e (inr x) = let same : session ≡ n = cc (pairs a n true e p) in absurd (both_ways (eqb n session) (eq-eqb n session (sym same)) x.0)
    its a n p false e (inl x) = absurd (not_new a n (pairs a n false e p) x.0)
    its a n p false e (inr x) = x.2 ∙ k.its a n (pairs a n false e p)

    other : (j : ℕ) → eqb (app_of l j) app ≡ false → runs_on l app j ≡ false
    other j e = go (nat_lt j (length l.job_apps))
      where
        go : (b : Bool) → (b && app_of l j == app) ≡ false
        go true = e
        go false = refl

    seen : (j n b : ℕ) → j < length l.job_apps → w.pair (app_of l j) ≡ Some n → w.told n ≡ Some b → (c : Bool) → eqb (app_of l j) app ≡ c → Facts n → w.seen j ≤ len s.past s.order b
    seen j n b there p t true e (inl x) =
        let same : first ≡ b = cc (t, x.1) in
        subst (λ i. w.seen j ≤ len s.past s.order i) same
        (subst (λ (c : Bool). (if c then record (s.known_at j) { seen = session; acted = false } else s.known_at j).seen ≤ len s.past s.order first) (sym (runs_here l app j there (eqb-true (app_of l j) app e))) (k.place session first placed))
    seen j n b there p t true e (inr x) = let same : session ≡ n = cc (pairs (app_of l j) n true e p) in absurd (both_ways (eqb n session) (eq-eqb n session (sym same)) x.0)
    seen j n b there p t false e (inl x) = absurd (not_new (app_of l j) n (pairs (app_of l j) n false e p) x.0)
    seen j n b there p t false e (inr x) =
        subst (λ (c : Bool). (if c then record (s.known_at j) { seen = session; acted = false } else s.known_at j).seen ≤ len s.past s.order b) (sym (other j e))
        (k.seen j n b there (pairs (app_of l j) n false e p) (sym x.1 ∙ t))
