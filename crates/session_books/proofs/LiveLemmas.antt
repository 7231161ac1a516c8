-- The live sessions of a list with one entry more.
use Rattle.std.proofs.Common.{◌≡◌, ◌∙◌, ◌<◌, ◌≤◌, ◌+◌, ℕ, Bool, true, false, not, cond, if◌then◌else◌, nat_eq, List, [], ◌∷◌, ◌++◌, length, length-append, refl, sym, ap, ap₂, subst, arith}
use Rattle.std.specs.List.{filter, AllByRecursion}
use Rattle.std.proofs.lemmas.Bool.{eq-eqb}
use Rattle.std.proofs.lemmas.List.{append-nil}
use Rattle.plain_orders.specs.declared.entry.Entry.{Entry}
use Rattle.plain_orders.specs.declared.entry.Entry.TheVariants.{Epoch, Opened, Closed, Update, Commit, Rollback}
use Rattle.plain_orders.specs.Entries.{live, live_after}
use Rattle.plain_orders.specs.Sessions.{opened_sessions, live_sessions}
use Rattle.plain_orders.specs.Ordered.{MayFollow, IsOrdered}
use Rattle.plain_orders.proofs.EntryLemmas.{live-push}
use Rattle.plain_orders.proofs.OrderLemmas.{ordered_induction}
use Rattle.plain_orders.proofs.PastLemmas.{apart}

-- the session that an entry opens
abbrev pub opened_by : Entry → List ℕ
opened_by (Epoch number) = []
opened_by (Opened session app) = session ∷ []
opened_by (Closed session) = []
opened_by (Update session w job txn op) = []
opened_by (Commit session w job txn) = []
opened_by (Rollback session w job txn) = []

opened_alone : (e : Entry) → opened_sessions (e ∷ []) ≡ opened_by e
opened_alone (Epoch number) = refl
opened_alone (Opened session app) = refl
opened_alone (Closed session) = refl
opened_alone (Update session w job txn op) = refl
opened_alone (Commit session w job txn) = refl
opened_alone (Rollback session w job txn) = refl

-- one entry more
opened_push : (es : List Entry) (e : Entry) → opened_sessions (es ++ e ∷ []) ≡ opened_sessions es ++ opened_by e
opened_push [] e = opened_alone e
opened_push (Epoch number ∷ es) e = opened_push es e
opened_push (Opened session app ∷ es) e = ap (λ ss. session ∷ ss) (opened_push es e)
opened_push (Closed session ∷ es) e = opened_push es e
opened_push (Update session w job txn op ∷ es) e = opened_push es e
opened_push (Commit session w job txn ∷ es) e = opened_push es e
opened_push (Rollback session w job txn ∷ es) e = opened_push es e

-- each of them is at most a number
abbrev AreLow : ℕ → List ℕ → Type 0
AreLow n ss = AllByRecursion (λ s. s ≤ n) ss

lower : (n m : ℕ) (ss : List ℕ) → n ≤ m → AreLow n ss → AreLow m ss
lower n m [] le h = tt
lower n m (s ∷ ss) le h = (omega (arith, h.0), lower n m ss le h.1)

low_append : (n : ℕ) (ss ts : List ℕ) → AreLow n ss → AreLow n ts → AreLow n (ss ++ ts)
low_append n [] ts h k = k
low_append n (s ∷ ss) ts h k = (h.0, low_append n ss ts h.1 k)

opened_low_by : (es : List Entry) (e : Entry) → MayFollow es e → AreLow (length es + 1) (opened_by e)
opened_low_by es (Epoch number) may = tt
opened_low_by es (Opened session app) may = (let n : session ≡ length es + 1 = may.is_position in omega arith, tt)
opened_low_by es (Closed session) may = tt
opened_low_by es (Update session w job txn op) may = tt
opened_low_by es (Commit session w job txn) may = tt
opened_low_by es (Rollback session w job txn) may = tt

-- the sessions of an ordered list are no further on than its end
opened_low : (es : List Entry) → IsOrdered es → AreLow (length es) (opened_sessions es)
opened_low es o = ordered_induction (λ l. AreLow (length l) (opened_sessions l)) tt step es o
  where
    step : (l : List Entry) (e : Entry) → IsOrdered l → AreLow (length l) (opened_sessions l) → MayFollow l e → AreLow (length (l ++ e ∷ [])) (opened_sessions (l ++ e ∷ []))
    step l e o h may =
        let n : length (l ++ e ∷ []) ≡ length l + 1 = length-append l (e ∷ []) in
        subst (λ ss. AreLow (length (l ++ e ∷ [])) ss) (sym (opened_push l e))
        (lower (length l + 1) (length (l ++ e ∷ [])) (opened_sessions l ++ opened_by e) (omega arith)
        (low_append (length l + 1) (opened_sessions l) (opened_by e) (lower (length l) (length l + 1) (opened_sessions l) (omega arith) h) (opened_low_by l e may)))

filter_same : (f g : ℕ → Bool) → ((x : ℕ) → f x ≡ g x) → (xs : List ℕ) → filter f xs ≡ filter g xs
filter_same f g same [] = refl
filter_same f g same (x ∷ xs) = ap (λ b. cond b (x ∷ filter f xs) (filter f xs)) (same x) ∙ ap (λ ys. cond (g x) (x ∷ ys) ys) (filter_same f g same xs)

filter_append : (f : ℕ → Bool) (xs ys : List ℕ) → filter f (xs ++ ys) ≡ filter f xs ++ filter f ys
filter_append f [] ys = refl
filter_append f (x ∷ xs) ys = go (f x) (filter_append f xs ys)
  where
    go : (b : Bool) → filter f (xs ++ ys) ≡ filter f xs ++ filter f ys → cond b (x ∷ filter f (xs ++ ys)) (filter f (xs ++ ys)) ≡ cond b (x ∷ filter f xs) (filter f xs) ++ filter f ys
    go true more = ap (λ zs. x ∷ zs) more
    go false more = more

-- an entry that opens none and closes none
pub live_quiet : (es : List Entry) (e : Entry) → opened_by e ≡ [] → ((b : Bool) (s : ℕ) → live_after b e s ≡ b) → live_sessions (es ++ e ∷ []) ≡ live_sessions es
live_quiet es e none same =
    ap (filter (live (es ++ e ∷ []))) (opened_push es e ∙ ap (λ ss. opened_sessions es ++ ss) none ∙ append-nil (opened_sessions es))
    ∙ filter_same (live (es ++ e ∷ [])) (live es) (λ s. live-push es e s ∙ same (live es s) s) (opened_sessions es)

module _ (es : List Entry) (session app : ℕ) where
  lives_as : (s : ℕ) → nat_eq session s ≡ false → live (es ++ Opened session app ∷ []) s ≡ live es s
  lives_as s f = live-push es (Opened session app) s ∙ ap (λ b. if b then true else live es s) f

  filter_low : (n : ℕ) → n < session → (ss : List ℕ) → AreLow n ss → filter (live (es ++ Opened session app ∷ [])) ss ≡ filter (live es) ss
  filter_low n above [] h = refl
  filter_low n above (s ∷ ss) h =
      let le : s ≤ n = h.0 in
      ap (λ b. cond b (s ∷ filter (live (es ++ Opened session app ∷ [])) ss) (filter (live (es ++ Opened session app ∷ [])) ss)) (lives_as s (apart session s (λ e. (omega arith))))
      ∙ ap (λ ys. cond (live es s) (s ∷ ys) ys) (filter_low n above ss h.1)

  -- a session that opens is the last
  pub live_opened : IsOrdered es → session ≡ length es + 1 → live_sessions (es ++ Opened session app ∷ []) ≡ live_sessions es ++ session ∷ []
  live_opened o at =
      let here : live (es ++ Opened session app ∷ []) session ≡ true = live-push es (Opened session app) session ∙ ap (λ b. if b then true else live es session) (eq-eqb session session refl) in
      let above : length es < session = omega arith in
      ap (filter (live (es ++ Opened session app ∷ []))) (opened_push es (Opened session app))
      ∙ filter_append (live (es ++ Opened session app ∷ [])) (opened_sessions es) (session ∷ [])
      ∙ ap₂ (λ (xs ys : List ℕ). xs ++ ys) (filter_low (length es) above (opened_sessions es) (opened_low es o)) (ap (λ b. cond b (session ∷ []) []) here)

-- another session than one
abbrev pub is_not : ℕ → ℕ → Bool
is_not session s = not (nat_eq s session)

turned : (m n : ℕ) → nat_eq m n ≡ nat_eq n m
turned m n = grind arith

module _ (es : List Entry) (session : ℕ) where
  still : (s : ℕ) → live (es ++ Closed session ∷ []) s ≡ (if nat_eq s session then false else live es s)
  still s = live-push es (Closed session) s ∙ ap (λ b. if b then false else live es s) (turned session s)

  both : (ss : List ℕ) → filter (live (es ++ Closed session ∷ [])) ss ≡ filter (is_not session) (filter (live es) ss)
  both [] = refl
  both (s ∷ ss) = ap (λ b. cond b (s ∷ filter (live (es ++ Closed session ∷ [])) ss) (filter (live (es ++ Closed session ∷ [])) ss)) (still s) ∙ go (live es s) (nat_eq s session) refl (both ss)
    where
      go : (a b : Bool) → nat_eq s session ≡ b → filter (live (es ++ Closed session ∷ [])) ss ≡ filter (is_not session) (filter (live es) ss)
          → cond (if b then false else a) (s ∷ filter (live (es ++ Closed session ∷ [])) ss) (filter (live (es ++ Closed session ∷ [])) ss) ≡ filter (is_not session) (cond a (s ∷ filter (live es) ss) (filter (live es) ss))
      go true true f more = more ∙ ap (λ b. cond (not b) (s ∷ filter (is_not session) (filter (live es) ss)) (filter (is_not session) (filter (live es) ss))) (sym f)
      go true false f more = ap (λ ys. s ∷ ys) more ∙ ap (λ b. cond (not b) (s ∷ filter (is_not session) (filter (live es) ss)) (filter (is_not session) (filter (live es) ss))) (sym f)
      go false true f more = more
      go false false f more = more

  -- one that closes goes
  pub live_closed : live_sessions (es ++ Closed session ∷ []) ≡ filter (is_not session) (live_sessions es)
  live_closed = ap (filter (live (es ++ Closed session ∷ []))) (opened_push es (Closed session) ∙ append-nil (opened_sessions es)) ∙ both (opened_sessions es)
