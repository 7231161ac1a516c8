-- What jobs have seen, against the orders that came since.
use Rattle.std.proofs.Common.{◌≡◌, ℕ, ◌≤◌, ◌<◌, ◌+◌, List, [], ◌∷◌, ◌++◌, length, take, refl, subst, sym, ap, ◌∙◌, Bool, true, false, eqb, ◌==◌, if◌then◌else◌, arith, length-append, ◌⊎◌, inl, inr, Option, Some, None, ◌||◌}
use Rattle.std.specs.Prelude.{is_some, nat_lt}
use Rattle.std.proofs.lemmas.Bool.{eqb-true, eq-eqb, and_parts, or_parts, cases_lt}
use Rattle.std.proofs.lemmas.Option.{same_Some}
use Rattle.std.proofs.lemmas.List.{length-take, length-take-le, take-append-le, take-take, get_or_append_left}
use Rattle.plain_orders.specs.declared.entry.Entry.{Entry}
use Rattle.plain_orders.specs.declared.entry.Entry.TheVariants.{Epoch, Opened as OpenedEntry, Closed, Update, Commit, Rollback}
use Rattle.plain_orders.specs.declared.layout.Layout.{Layout}
use Rattle.plain_orders.specs.declared.refused.ReasonName.{ReasonName}
use Rattle.plain_orders.specs.Entries.{entry_at, last_epoch}
use Rattle.plain_orders.proofs.Places.{entry_pushed, entry_last, entry_taken}
use Rattle.plain_runs.specs.Plain.{Server, Session, Entered, Known, put, app_of, runs_on}
use Rattle.plain_runs.specs.OrderRows.{OpenedMay, EnterMay, CrashMay, entered, opened_with, crashed}
use Rattle.plain_runs.specs.EndRows.{without_session, since_loss, knows_loss}
use Rattle.plain_runs.proofs.Orders.{facet, OrdersKept}
use Rattle.plain_runs.proofs.Bases.{ToldKept, sight, told_in, owner_in, or_else, place_in}
use Rattle.plain_runs.proofs.Issued.{IssuedKept, view}
use Rattle.plain_runs.proofs.Lists.{both_ways}
use Rattle.plain_runs.proofs.ToldItems.{nth, last_nth, before_stays}

-- what this sees of a server
pub record Glimpse : Type 0 where
  pub past : List (List Entry)
  pub order : List Entry
  pub met : ℕ → Bool
  pub ent : ℕ → Option Entered
  pub pair : ℕ → Option ℕ
  pub seen : ℕ → ℕ

abbrev pub glimpse : Server → Glimpse
glimpse s = record {
  past = s.past;
  order = s.order;
  met = λ n. is_some (s.session_at n);
  ent = s.entered_at;
  pair = λ a. (s.pair_at a).session;
  seen = λ j. (s.known_at j).seen;
}

-- Orders begin alike, but for those that were cut. While its pair has no session, what a job has seen is within
-- the current order, and each Open that came since is behind it, where none was cut.
pub record SeenKept (l : Layout) (C : ℕ → Type 0) (v : Glimpse) : Type 0 where
  pub fronts : (b c n : ℕ) → b ≤ c → c ≤ length v.past → n ≤ length (nth v.past v.order b) → (take n (nth v.past v.order c) ≡ take n (nth v.past v.order b)) ⊎ C n
  pub mine : (n a : ℕ) (e : Entered) → entry_at v.order n ≡ Some (OpenedEntry n a) → v.ent n ≡ Some e → e.app ≡ a
  pub within : (j : ℕ) → j < length l.job_apps → v.pair (app_of l j) ≡ None → (v.seen j ≤ length v.order) ⊎ C (v.seen j)
  pub behind : (j n : ℕ) (e : Entered) → j < length l.job_apps → v.pair (app_of l j) ≡ None → v.ent n ≡ Some e → e.app ≡ app_of l j → e.lost_since ≡ false → v.met n ≡ false → (v.seen j ≤ n) ⊎ C (v.seen j)

pub low_taken : (xs ys : List Entry) (n : ℕ) → take n xs ≡ take n ys → n ≤ length ys → n ≤ length xs
low_taken xs ys n e low = omega (arith, length-take n xs, length-take n ys, ap length e)

-- a job that runs there is one of the application server's
pub runs_its : (l : Layout) (app j : ℕ) → runs_on l app j ≡ true → app_of l j ≡ app
runs_its l app j e = eqb-true (app_of l j) app (and_parts (nat_lt j (length l.job_apps)) (app_of l j == app) e).1

module _ (l : Layout) (C D : ℕ → Type 0) (more : (n : ℕ) → C n → D n) where
  abbrev pub SeenSteps : Server → Server → Type 0
  SeenSteps s t = OrdersKept (facet s) → IssuedKept (view s) → ToldKept l (sight s) → SeenKept l C (glimpse s) → SeenKept l D (glimpse t)

  weaker : {A : Type 0} (n : ℕ) → A ⊎ C n → A ⊎ D n
  weaker n (inl x) = inl x
  weaker n (inr c) = inr (more n c)

  -- orders and Opens stay, and what is seen at pairs without a session
  calm : (v w : Glimpse) → w ≡ record v { met = w.met; pair = w.pair; seen = w.seen } → ((n : ℕ) → w.met n ≡ false → v.met n ≡ false) → ((a : ℕ) → w.pair a ≡ None → v.pair a ≡ None)
      → ((j : ℕ) → w.pair (app_of l j) ≡ None → w.seen j ≡ v.seen j) → SeenKept l C v → SeenKept l D w
  calm v w same met pair seen k = subst (SeenKept l D) (sym same) (record {
    fronts = λ b c n up low in_. weaker n (k.fronts b c n up low in_);
    mine = k.mine;
    within = λ j there none. subst (λ m. (m ≤ length v.order) ⊎ D m) (sym (seen j none)) (weaker (v.seen j) (k.within j there (pair (app_of l j) none)));
    behind = λ j n e there none is its since m. subst (λ m. (m ≤ n) ⊎ D m) (sym (seen j none)) (weaker (v.seen j) (k.behind j n e there (pair (app_of l j) none) is its since (met n m)));
  })

  pub seen_same : (s : Server) → SeenSteps s s
  seen_same s o i t k = calm (glimpse s) (glimpse s) refl (λ n m. m) (λ a p. p) (λ j p. refl) k

  pub calm_seen : (s t : Server) → glimpse t ≡ record (glimpse s) { met = (glimpse t).met; pair = (glimpse t).pair; seen = (glimpse t).seen } → ((n : ℕ) → (glimpse t).met n ≡ false → (glimpse s).met n ≡ false) → ((a : ℕ) → (glimpse t).pair a ≡ None → (glimpse s).pair a ≡ None)
      → ((j : ℕ) → (glimpse t).pair (app_of l j) ≡ None → (glimpse t).seen j ≡ (glimpse s).seen j) → SeenSteps s t
  calm_seen s t same met pair seen o i x k = calm (glimpse s) (glimpse t) same met pair seen k

  -- what another job has seen, where one at a pair with a session sees more
  pub other_seen : (s : Server) (job : ℕ) (x : Known) (j : ℕ) → is_some (s.pair_at (app_of l job)).session ≡ true → (s.pair_at (app_of l j)).session ≡ None → (put s.known_at job x j).seen ≡ (s.known_at j).seen
  other_seen s job x j has none = go (eqb j job) refl
    where
      go : (b : Bool) → eqb j job ≡ b → (if b then x else s.known_at j).seen ≡ (s.known_at j).seen
      go true e = absurd (both_ways (is_some (s.pair_at (app_of l job)).session) has (ap is_some (subst (λ i. (s.pair_at (app_of l i)).session ≡ None) (eqb-true j job e) none)))
      go false e = refl

  -- the jobs of an application server whose pair has a session
  pub jobs_seen : (s : Server) (app : ℕ) (f : Known → Known) (j : ℕ) → (app_of l j ≡ app → ⊥) → (if runs_on l app j then f (s.known_at j) else s.known_at j).seen ≡ (s.known_at j).seen
  jobs_seen s app f j other = go (runs_on l app j) refl
    where
      go : (b : Bool) → runs_on l app j ≡ b → (if b then f (s.known_at j) else s.known_at j).seen ≡ (s.known_at j).seen
      go true e = absurd (other (runs_its l app j e))
      go false e = refl

  -- orders that go on begin alike
  grown_fronts : (past : List (List Entry)) (o es : List Entry) → ((b c n : ℕ) → b ≤ c → c ≤ length past → n ≤ length (nth past o b) → (take n (nth past o c) ≡ take n (nth past o b)) ⊎ C n)
      → (b c n : ℕ) → b ≤ c → c ≤ length past → n ≤ length (nth past (o ++ es) b) → (take n (nth past (o ++ es) c) ≡ take n (nth past (o ++ es) b)) ⊎ D n
  grown_fronts past o es fronts b c n up low in_ = first (cases_lt b (length past))
    where
      old : (i : ℕ) → i < length past → nth past (o ++ es) i ≡ nth past o i
      old i under = before_stays past o (o ++ es) i under

      last : b < length past → c ≡ length past → (take n (nth past o (length past)) ≡ take n (nth past o b)) ⊎ C n → n ≤ length (nth past o b) → (take n (nth past (o ++ es) c) ≡ take n (nth past (o ++ es) b)) ⊎ D n
      last under same (inr x) m = inr (more n x)
      last under same (inl x) m =
          let here : take n o ≡ take n (nth past o b) = ap (take n) (sym (last_nth past o)) ∙ x in
          inl (ap (λ i. take n (nth past (o ++ es) i)) same ∙ ap (take n) (last_nth past (o ++ es)) ∙ take-append-le n o es (low_taken o (nth past o b) n here m) ∙ here ∙ ap (take n) (sym (old b under)))

      second : b < length past → (c < length past) ⊎ (length past ≤ c) → (take n (nth past (o ++ es) c) ≡ take n (nth past (o ++ es) b)) ⊎ D n
      second under (inl lower) = both (fronts b c n up low (omega (arith, in_, ap length (old b under))))
        where
          both : (take n (nth past o c) ≡ take n (nth past o b)) ⊎ C n → (take n (nth past (o ++ es) c) ≡ take n (nth past (o ++ es) b)) ⊎ D n
          both (inl x) = inl (ap (take n) (old c lower) ∙ x ∙ ap (take n) (sym (old b under)))
          both (inr x) = inr (more n x)
      second under (inr over) = let m : n ≤ length (nth past o b) = omega (arith, in_, ap length (old b under)) in last under (omega arith) (fronts b (length past) n (omega arith) (omega arith) m) m

      first : (b < length past) ⊎ (length past ≤ b) → (take n (nth past (o ++ es) c) ≡ take n (nth past (o ++ es) b)) ⊎ D n
      first (inl under) = second under (cases_lt c (length past))
      first (inr over) = let same : c ≡ b = omega (arith, up, low, over) in inl (ap (λ i. take n (nth past (o ++ es) i)) same)

  longer : (o es : List Entry) (n : ℕ) → (n ≤ length o) ⊎ C n → (n ≤ length (o ++ es)) ⊎ D n
  longer o es n (inl low) = inl (omega (arith, low, length-append o es))
  longer o es n (inr c) = inr (more n c)

  -- an entry at the end that opens no session
  pub push_seen : (s t : Server) (e : Entry) → glimpse t ≡ record (glimpse s) { order = s.order ++ e ∷ [] } → ((n a : ℕ) → e ≡ OpenedEntry n a → ⊥) → SeenSteps s t
  push_seen s t e same not o i x k = subst (SeenKept l D) (sym same) (record {
    fronts = grown_fronts s.past s.order (e ∷ []) k.fronts;
    mine = λ n a en at y. mine n a en y (entry_pushed s.order e (OpenedEntry n a) n at);
    within = λ j there none. longer s.order (e ∷ []) (s.known_at j).seen (k.within j there none);
    behind = λ j n en there none y its since m. weaker (s.known_at j).seen (k.behind j n en there none y its since m);
  })
    where
      mine : (n a : ℕ) (en : Entered) → s.entered_at n ≡ Some en → (entry_at s.order n ≡ Some (OpenedEntry n a)) ⊎ (e ≡ OpenedEntry n a) → en.app ≡ a
      mine n a en y (inl old) = k.mine n a en old y
      mine n a en y (inr new) = absurd (not n a new)

  -- an Open at the end
  open_seen : (s : Server) (session app : ℕ) → session ≡ length s.order + 1 → SeenSteps s (entered s (OpenedEntry session app))
  open_seen s session app place o i x k = record {
    fronts = grown_fronts s.past s.order (OpenedEntry session app ∷ []) k.fronts;
    mine = λ n a en at y. mine n a en at y (eqb n session) refl;
    within = λ j there none. longer s.order (OpenedEntry session app ∷ []) (s.known_at j).seen (k.within j there none);
    behind = λ j n en there none y its since m. behind j n en there none y its since m (eqb n session) refl;
  }
    where
      fresh : Entered
      fresh = record { app = app; in_order = length s.past; lost_since = false }

      mine : (n a : ℕ) (en : Entered) → entry_at (s.order ++ OpenedEntry session app ∷ []) n ≡ Some (OpenedEntry n a) → (entered s (OpenedEntry session app)).entered_at n ≡ Some en → (b : Bool) → eqb n session ≡ b → en.app ≡ a
      mine n a en at y true e =
          let here : n ≡ session = eqb-true n session e in
          let one : OpenedEntry session app ≡ OpenedEntry n a = same_Some _ _ (sym (entry_last s.order (OpenedEntry session app) n (here ∙ place)) ∙ at) in
          let its : fresh ≡ en = same_Some _ _ (subst (λ (b : Bool). (if b then Some fresh else s.entered_at n) ≡ Some en) e y) in
          let apps : app ≡ a = cc (one) in
          sym (ap (λ (z : Entered). z.app) its) ∙ apps
      mine n a en at y false e = old (entry_pushed s.order (OpenedEntry session app) (OpenedEntry n a) n at)
        where
          old : (entry_at s.order n ≡ Some (OpenedEntry n a)) ⊎ (OpenedEntry session app ≡ OpenedEntry n a) → en.app ≡ a
          old (inl was) = k.mine n a en was (subst (λ (b : Bool). (if b then Some fresh else s.entered_at n) ≡ Some en) e y)
          old (inr new) = let same : session ≡ n = cc (new) in absurd (both_ways (eqb n session) (eq-eqb n session (sym same)) e)

      below : (j n : ℕ) → n ≡ session → ((s.known_at j).seen ≤ length s.order) ⊎ C (s.known_at j).seen → ((s.known_at j).seen ≤ n) ⊎ D (s.known_at j).seen
      below j n here (inl low) = inl (omega (arith, low, here, place))
      below j n here (inr c) = inr (more _ c)

      behind : (j n : ℕ) (en : Entered) → j < length l.job_apps → (s.pair_at (app_of l j)).session ≡ None → (entered s (OpenedEntry session app)).entered_at n ≡ Some en → en.app ≡ app_of l j → en.lost_since ≡ false → is_some (s.session_at n) ≡ false → (b : Bool) → eqb n session ≡ b
          → ((s.known_at j).seen ≤ n) ⊎ D (s.known_at j).seen
      behind j n en there none y its since m true e = below j n (eqb-true n session e) (k.within j there none)
      behind j n en there none y its since m false e = weaker (s.known_at j).seen (k.behind j n en there none (subst (λ (b : Bool). (if b then Some fresh else s.entered_at n) ≡ Some en) e y) its since m)

  pub enter_seen : (clock : ℕ) (s : Server) (x : Entry) → EnterMay l clock s x → SeenSteps s (entered s x)
  enter_seen clock s (Epoch number) may = absurd may
  enter_seen clock s (Closed session) may = absurd may
  enter_seen clock s (OpenedEntry session app) may = open_seen s session app may.place
  enter_seen clock s (Update session w job txn op) may = push_seen s (entered s (Update session w job txn op)) (Update session w job txn op) refl (λ n a e. absurd (cc (e)))
  enter_seen clock s (Commit session w job txn) may = push_seen s (entered s (Commit session w job txn)) (Commit session w job txn) refl (λ n a e. absurd (cc (e)))
  enter_seen clock s (Rollback session w job txn) may = push_seen s (entered s (Rollback session w job txn)) (Rollback session w job txn) refl (λ n a e. absurd (cc (e)))

  pub opened_seen : (clock round : ℕ) (s : Server) (entries : List Entry) → OpenedMay s entries → SeenSteps s (opened_with clock round s entries)
  opened_seen clock round s entries may o i x k = record {
    fronts = subst (λ (es : List Entry). (b c n : ℕ) → b ≤ c → c ≤ length s.past → n ≤ length (nth s.past es b) → (take n (nth s.past es c) ≡ take n (nth s.past es b)) ⊎ D n) whole (grown_fronts s.past s.order new k.fronts);
    mine = λ n a en at y. absurd (none n en y);
    within = λ j there p. subst (λ (es : List Entry). ((s.known_at j).seen ≤ length es) ⊎ D (s.known_at j).seen) whole (longer s.order new (s.known_at j).seen (k.within j there p));
    behind = λ j n en there p y its since m. absurd (none n en y);
  }
    where
      new : List Entry
      new = entries ++ Epoch (last_epoch entries + 1) ∷ []

      whole : s.order ++ new ≡ new
      whole = ap (λ (es : List Entry). es ++ new) (o.fresh may.fresh).0

      none : (n : ℕ) (en : Entered) → s.entered_at n ≡ Some en → ⊥
      none n en y = both_ways (is_some (s.entered_at n)) (ap is_some y) (i.fresh may.fresh n)

  pub crash_seen : (clock round : ℕ) (s : Server) (kept : ℕ) → CrashMay s kept → ((n : ℕ) → kept < n → n ≤ length s.order → D n) → SeenSteps s (crashed clock round s kept)
  crash_seen clock round s kept may cut o i x k = record {
    fronts = λ b c n up low in_. fronts b c n up low in_ (cases_lt b (length past)) (cases_lt c (length past));
    mine = λ n a en at y. mine n a en y (entry_pushed (take kept s.order) last (OpenedEntry n a) n at);
    within = λ j there none. within (s.known_at j).seen (k.within j there none);
    behind = λ j n en there none y its since m. weaker (s.known_at j).seen (k.behind j n en there none y its since m);
  }
    where
      last : Entry
      last = Epoch (last_epoch (take kept s.order) + 1)

      new : List Entry
      new = take kept s.order ++ last ∷ []

      past : List (List Entry)
      past = s.past ++ s.order ∷ []

      old : (j : ℕ) → j < length past → nth past new j ≡ nth s.past s.order j
      old j under = get_or_append_left past (new ∷ []) [] j under

      front : (n : ℕ) → n ≤ kept → take n new ≡ take n s.order
      front n low = take-append-le n (take kept s.order) (last ∷ []) (omega (arith, low, length-take-le kept s.order may.within)) ∙ take-take n kept s.order low

      mine : (n a : ℕ) (en : Entered) → s.entered_at n ≡ Some en → (entry_at (take kept s.order) n ≡ Some (OpenedEntry n a)) ⊎ (last ≡ OpenedEntry n a) → en.app ≡ a
      mine n a en y (inl was) = k.mine n a en (entry_taken kept s.order (OpenedEntry n a) n was) y
      mine n a en y (inr new) = absurd (cc (new))

      within : (n : ℕ) → (n ≤ length s.order) ⊎ C n → (n ≤ length new) ⊎ D n
      within n (inr c) = inr (more n c)
      within n (inl low) = go (cases_lt kept n)
        where
          go : (kept < n) ⊎ (n ≤ kept) → (n ≤ length new) ⊎ D n
          go (inl over) = inr (cut n over low)
          go (inr under) = inl (omega (arith, under, length-append (take kept s.order) (last ∷ []), length-take-le kept s.order may.within))

      newest : (b n : ℕ) → b < length past → n ≤ length (nth s.past s.order b) → (take n (nth s.past s.order (length s.past)) ≡ take n (nth s.past s.order b)) ⊎ C n → (take n new ≡ take n (nth s.past s.order b)) ⊎ D n
      newest b n under in_ (inr c) = inr (more n c)
      newest b n under in_ (inl y) = go (cases_lt kept n)
        where
          here : take n s.order ≡ take n (nth s.past s.order b)
          here = ap (take n) (sym (last_nth s.past s.order)) ∙ y

          go : (kept < n) ⊎ (n ≤ kept) → (take n new ≡ take n (nth s.past s.order b)) ⊎ D n
          go (inl over) = inr (cut n over (low_taken s.order (nth s.past s.order b) n here in_))
          go (inr low) = inl (front n low ∙ here)

      fronts : (b c n : ℕ) → b ≤ c → c ≤ length past → n ≤ length (nth past new b) → (b < length past) ⊎ (length past ≤ b) → (c < length past) ⊎ (length past ≤ c) → (take n (nth past new c) ≡ take n (nth past new b)) ⊎ D n
      fronts b c n up low in_ (inr over) y = let same : c ≡ b = omega (arith, up, low, over) in inl (ap (λ m. take n (nth past new m)) same)
      fronts b c n up low in_ (inl under) (inl lower) = both (k.fronts b c n up (omega (arith, lower, length-append s.past (s.order ∷ []))) (omega (arith, in_, ap length (old b under))))
        where
          both : (take n (nth s.past s.order c) ≡ take n (nth s.past s.order b)) ⊎ C n → (take n (nth past new c) ≡ take n (nth past new b)) ⊎ D n
          both (inl z) = inl (ap (take n) (old c lower) ∙ z ∙ ap (take n) (sym (old b under)))
          both (inr z) = inr (more n z)
      fronts b c n up low in_ (inl under) (inr over) =
          let m : n ≤ length (nth s.past s.order b) = omega (arith, in_, ap length (old b under)) in
          top (newest b n under m (k.fronts b (length s.past) n (omega (arith, under, length-append s.past (s.order ∷ []))) (omega arith) m))
        where
          same : c ≡ length past
          same = omega (arith, low, over)

          top : (take n new ≡ take n (nth s.past s.order b)) ⊎ D n → (take n (nth past new c) ≡ take n (nth past new b)) ⊎ D n
          top (inl z) = inl (ap (λ m. take n (nth past new m)) same ∙ ap (take n) (last_nth past new) ∙ z ∙ ap (take n) (sym (old b under)))
          top (inr z) = inr z

  -- a session is lost
  pub lose_seen : (s : Server) (app : ℕ) (reason : ReasonName) → SeenSteps s (without_session l s app reason)
  lose_seen s app reason o i x k = record {
    fronts = λ b c n up low in_. weaker n (k.fronts b c n up low in_);
    mine = λ n a en at y. mine n a en at (s.entered_at n) refl y;
    within = λ j there none. subst (λ m. (m ≤ length s.order) ⊎ D m) (sym (same_seen j)) (within j there);
    behind = λ j n en there none y its since m. subst (λ m. (m ≤ n) ⊎ D m) (sym (same_seen j)) (behind j n en there none its since m (s.entered_at n) refl y);
  }
    where
      t : Server
      t = without_session l s app reason

      same_seen : (j : ℕ) → (t.known_at j).seen ≡ (s.known_at j).seen
      same_seen j = go (runs_on l app j)
        where
          go : (b : Bool) → (if b then knows_loss reason (s.known_at j) else s.known_at j).seen ≡ (s.known_at j).seen
          go true = refl
          go false = refl

      mine : (n a : ℕ) (en : Entered) → entry_at s.order n ≡ Some (OpenedEntry n a) → (r : Option Entered) → s.entered_at n ≡ r → since_loss app r ≡ Some en → en.app ≡ a
      mine n a en at None is y = absurd (cc (y))
      mine n a en at (Some e) is y = sym (ap (λ (z : Entered). z.app) (same_Some (record e { lost_since = e.lost_since || e.app == app }) en y)) ∙ k.mine n a e at is

      told : (r : Option Session) (a : ℕ) → owner_in r ≡ Some a → (b : ℕ) × (told_in r ≡ Some b)
      told None a h = absurd (cc (h))
      told (Some m) a h = (m.told, refl)

      within : (j : ℕ) → j < length l.job_apps → ((s.known_at j).seen ≤ length s.order) ⊎ D (s.known_at j).seen
      within j there = go (s.pair_at (app_of l j)).session refl
        where
          reach : (b : ℕ) → b ≤ length s.past → (s.known_at j).seen ≤ length (nth s.past s.order b) → (take (s.known_at j).seen (nth s.past s.order (length s.past)) ≡ take (s.known_at j).seen (nth s.past s.order b)) ⊎ C (s.known_at j).seen
              → ((s.known_at j).seen ≤ length s.order) ⊎ D (s.known_at j).seen
          reach b low in_ (inl z) = inl (omega (arith, ap length (last_nth s.past s.order), low_taken (nth s.past s.order (length s.past)) (nth s.past s.order b) (s.known_at j).seen z in_))
          reach b low in_ (inr z) = inr (more _ z)

          go : (r : Option ℕ) → (s.pair_at (app_of l j)).session ≡ r → ((s.known_at j).seen ≤ length s.order) ⊎ D (s.known_at j).seen
          go None e = weaker (s.known_at j).seen (k.within j there e)
          go (Some n) e =
              let b : (b : ℕ) × (told_in (s.session_at n) ≡ Some b) = told (s.session_at n) (app_of l j) (x.its (app_of l j) n e) in
              let low : b.0 ≤ length s.past = x.low n b.0 (ap (λ r. or_else r (place_in (s.entered_at n))) b.1) in
              let in_ : (s.known_at j).seen ≤ length (nth s.past s.order b.0) = x.seen j n b.0 there e b.1 in
              reach b.0 low in_ (k.fronts b.0 (length s.past) (s.known_at j).seen low (omega arith) in_)

      other_pair : (a : ℕ) → (a == app) ≡ false → (t.pair_at a).session ≡ None → (s.pair_at a).session ≡ None
      other_pair a e p = subst (λ (b : Bool). (if b then record { session = None; broke = None } else s.pair_at a).session ≡ None) e p

      behind : (j n : ℕ) (en : Entered) → j < length l.job_apps → (t.pair_at (app_of l j)).session ≡ None → en.app ≡ app_of l j → en.lost_since ≡ false → is_some (s.session_at n) ≡ false → (r : Option Entered) → s.entered_at n ≡ r → since_loss app r ≡ Some en
          → ((s.known_at j).seen ≤ n) ⊎ D (s.known_at j).seen
      behind j n en there none its since m None is y = absurd (cc (y))
      behind j n en there none its since m (Some e) is y =
          let now : record e { lost_since = e.lost_since || e.app == app } ≡ en = same_Some (record e { lost_since = e.lost_since || e.app == app }) en y in
          let parts = or_parts e.lost_since (e.app == app) (ap (λ (z : Entered). z.lost_since) now ∙ since) in
          let mine : e.app ≡ app_of l j = ap (λ (z : Entered). z.app) now ∙ its in
          weaker (s.known_at j).seen (k.behind j n e there (other_pair (app_of l j) (subst (λ a. (a == app) ≡ false) mine parts.1) none) is mine parts.0 m)
