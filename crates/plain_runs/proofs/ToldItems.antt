-- The items of a session stand in each order from the one that it is told of.
use Rattle.std.proofs.Common.{◌≡◌, ℕ, ◌+◌, ◌<◌, ◌≤◌, List, [], ◌∷◌, ◌++◌, length, take, refl, subst, sym, ap, ◌∙◌, Bool, true, false, eqb, if◌then◌else◌, arith, length-append, get_or, ◌⊎◌, inl, inr, Option, Some, None, slice_get, ◌&&◌, ◌==◌}
use Rattle.std.specs.Prelude.{is_some, unwrap_or}
use Rattle.std.specs.Option.{option_map}
use Rattle.std.proofs.lemmas.Bool.{cases_lt, eqb-true}
use Rattle.std.proofs.lemmas.List.{get_or_append_left}
use Rattle.plain_orders.specs.declared.entry.Entry.{Entry}
use Rattle.plain_orders.specs.declared.entry.Entry.TheVariants.{Epoch, Opened as OpenedEntry, Closed, Update, Commit, Rollback}
use Rattle.plain_orders.specs.declared.layout.Layout.{Layout}
use Rattle.plain_orders.specs.Entries.{last_epoch}
use Rattle.plain_runs.specs.Plain.{Server, Session}
use Rattle.plain_runs.specs.OrderRows.{OpenedMay, EnterMay, ItemMay, entered, opened_with, crashed}
use Rattle.plain_runs.specs.EndRows.{MetMay, ToldMay, met_by, told_of, begun_by, entered_in, shut}
use Rattle.plain_runs.specs.Laws.{StandsAsIssued}
use Rattle.plain_runs.proofs.Orders.{facet, OrdersKept}
use Rattle.plain_runs.proofs.Bases.{told_in}
use Rattle.plain_runs.proofs.HoldRows.{issued_of}
use Rattle.plain_runs.proofs.LockRows.{each_at}
use Rattle.plain_runs.proofs.Issued.{AsIssued, IssuedKept, view}
use Rattle.plain_orders.specs.ItemEntries.{is_item_of}
use Rattle.plain_orders.proofs.Places.{get_pushed, get_taken}

-- what this sees of a server
pub record Standing : Type 0 where
  pub past : List (List Entry)
  pub order : List Entry
  pub told : ℕ → Option ℕ

abbrev pub standing : Server → Standing
standing s = record { past = s.past; order = s.order; told = λ n. told_in (s.session_at n) }

abbrev pub nth : List (List Entry) → List Entry → ℕ → List Entry
nth past order k = get_or (past ++ order ∷ []) k []

pub record StandsKept (v : Standing) : Type 0 where
  pub stands : (n b k i : ℕ) (e : Entry) → v.told n ≡ Some b → b ≤ k → k ≤ length v.past → slice_get v.order i ≡ Some e → is_item_of n e ≡ true → slice_get (nth v.past v.order k) i ≡ Some e

abbrev pub StandSteps : Server → Server → Type 0
StandSteps s t = StandsKept (standing s) → StandsKept (standing t)

pub last_nth : (xs : List (List Entry)) (x : List Entry) → get_or (xs ++ x ∷ []) (length xs) [] ≡ x
last_nth [] x = refl
last_nth (y ∷ xs) x = last_nth xs x

-- the current order, or one before
pub here_or_before : (past : List (List Entry)) (order : List Entry) (k : ℕ) → k ≤ length past → (nth past order k ≡ order) ⊎ (k < length past)
here_or_before past order k low = go (cases_lt k (length past))
  where
    go : (k < length past) ⊎ (length past ≤ k) → (nth past order k ≡ order) ⊎ (k < length past)
    go (inl under) = inr under
    go (inr over) = let same : k ≡ length past = omega (arith, low, over) in inl (ap (nth past order) same ∙ last_nth past order)

-- orders before the current one stay where that changes
pub before_stays : (past : List (List Entry)) (o p : List Entry) (k : ℕ) → k < length past → nth past p k ≡ nth past o k
before_stays past o p k low = get_or_append_left past (p ∷ []) [] k low ∙ sym (get_or_append_left past (o ∷ []) [] k low)

-- sessions are told of the same order or a later one
pub later_told : (v w : Standing) → w ≡ record v { told = w.told } → ((n b : ℕ) → w.told n ≡ Some b → (c : ℕ) × ((v.told n ≡ Some c) × (c ≤ b))) → StandsKept v → StandsKept w
later_told v w same told k = subst StandsKept (sym same) (record {
  stands = λ n b j i e t low high at is. let old : (c : ℕ) × ((v.told n ≡ Some c) × (c ≤ b)) = told n b t in k.stands n old.0 j i e old.1.0 (omega (arith, low, old.1.1)) high at is;
})

-- an entry at the end
pub push_stands : (s t : Server) (x : Entry) → standing t ≡ record (standing s) { order = s.order ++ x ∷ [] } → ((n b : ℕ) → is_item_of n x ≡ true → told_in (s.session_at n) ≡ Some b → b ≡ length s.past) → StandSteps s t
push_stands s t x same new k = subst StandsKept (sym same) (record {
  stands = λ n b j i e told low high at is. go n b j i e told low high at is (here_or_before s.past (s.order ++ x ∷ []) j high);
})
  where
    go : (n b j i : ℕ) (e : Entry) → told_in (s.session_at n) ≡ Some b → b ≤ j → j ≤ length s.past → slice_get (s.order ++ x ∷ []) i ≡ Some e → is_item_of n e ≡ true
        → (nth s.past (s.order ++ x ∷ []) j ≡ s.order ++ x ∷ []) ⊎ (j < length s.past) → slice_get (nth s.past (s.order ++ x ∷ []) j) i ≡ Some e
    go n b j i e told low high at is (inl now) = ap (λ (es : List Entry). slice_get es i) now ∙ at
    go n b j i e told low high at is (inr under) = old (get_pushed s.order x i e at)
      where
        old : (slice_get s.order i ≡ Some e) ⊎ (x ≡ e) → slice_get (nth s.past (s.order ++ x ∷ []) j) i ≡ Some e
        old (inl was) = ap (λ (es : List Entry). slice_get es i) (before_stays s.past s.order (s.order ++ x ∷ []) j under) ∙ k.stands n b j i e told low high was is
        old (inr its) = let top : b ≡ length s.past = new n b (subst (λ y. is_item_of n y ≡ true) (sym its) is) told in absurd (omega (arith, top, low, under))

told_of_item : (s : Server) (session w : ℕ) (x : Entry) → ItemMay s session w x → (n b : ℕ) → session ≡ n → told_in (s.session_at n) ≡ Some b → b ≡ length s.past
told_of_item s session w x may n b same told = subst (λ m. told_in (s.session_at m) ≡ Some b → b ≡ length s.past) same (go (s.session_at session) may.told) told
  where
    go : (o : Option Session) → (is_some o && (unwrap_or o (record { app = 0; issued = []; told = 0 })).told == length s.past) ≡ true → told_in o ≡ Some b → b ≡ length s.past
    go None e h = absurd (cc (h))
    go (Some m) e h = let its : m.told ≡ b = cc (h) in sym its ∙ eqb-true m.told (length s.past) e

pub enter_stands : (l : Layout) (clock : ℕ) (s : Server) (x : Entry) → EnterMay l clock s x → StandSteps s (entered s x)
enter_stands l clock s (Epoch number) may = absurd may
enter_stands l clock s (Closed session) may = absurd may
enter_stands l clock s (OpenedEntry session app) may = push_stands s (entered s (OpenedEntry session app)) (OpenedEntry session app) refl (λ n b is. absurd (cc (is)))
enter_stands l clock s (Update session w job txn op) may = push_stands s (entered s (Update session w job txn op)) (Update session w job txn op) refl (λ n b is. told_of_item s session w _ may n b (eqb-true session n is))
enter_stands l clock s (Commit session w job txn) may = push_stands s (entered s (Commit session w job txn)) (Commit session w job txn) refl (λ n b is. told_of_item s session w _ may n b (eqb-true session n is))
enter_stands l clock s (Rollback session w job txn) may = push_stands s (entered s (Rollback session w job txn)) (Rollback session w job txn) refl (λ n b is. told_of_item s session w _ may n b (eqb-true session n is))

pub shut_stands : (s : Server) (session : ℕ) → StandSteps s (shut s session)
shut_stands s session = push_stands s (shut s session) (Closed session) refl (λ n b is. absurd (cc (is)))

pub opened_stands : (clock round : ℕ) (s : Server) (entries : List Entry) → OpenedMay s entries → OrdersKept (facet s) → StandSteps s (opened_with clock round s entries)
opened_stands clock round s entries may os k = record {
  stands = λ n b j i e told low high at is. ap (λ (es : List Entry). slice_get es i) (now j high) ∙ at;
}
  where
    now : (j : ℕ) → j ≤ length s.past → nth s.past (opened_with clock round s entries).order j ≡ (opened_with clock round s entries).order
    now j high = let same : j ≡ length s.past = omega (arith, high, ap length (os.fresh may.fresh).1) in ap (nth s.past (opened_with clock round s entries).order) same ∙ last_nth s.past (opened_with clock round s entries).order

pub crash_stands : (clock round : ℕ) (s : Server) (kept : ℕ) → StandSteps s (crashed clock round s kept)
crash_stands clock round s kept k = record {
  stands = λ n b j i e told low high at is. go n b j i e told low high at is (here_or_before (s.past ++ s.order ∷ []) new j high);
}
  where
    new : List Entry
    new = (crashed clock round s kept).order

    was : (n i : ℕ) (e : Entry) → is_item_of n e ≡ true → (slice_get (take kept s.order) i ≡ Some e) ⊎ (Epoch (last_epoch (take kept s.order) + 1) ≡ e) → slice_get s.order i ≡ Some e
    was n i e is (inl old) = get_taken kept s.order i e old
    was n i e is (inr epoch) = absurd (cc (subst (λ y. is_item_of n y ≡ true) (sym epoch) is))

    go : (n b j i : ℕ) (e : Entry) → told_in (s.session_at n) ≡ Some b → b ≤ j → j ≤ length (s.past ++ s.order ∷ []) → slice_get new i ≡ Some e → is_item_of n e ≡ true
        → (nth (s.past ++ s.order ∷ []) new j ≡ new) ⊎ (j < length (s.past ++ s.order ∷ [])) → slice_get (nth (s.past ++ s.order ∷ []) new j) i ≡ Some e
    go n b j i e told low high at is (inl now) = ap (λ (es : List Entry). slice_get es i) now ∙ at
    go n b j i e told low high at is (inr under) =
        ap (λ (es : List Entry). slice_get es i) (get_or_append_left (s.past ++ s.order ∷ []) (new ∷ []) [] j under)
        ∙ k.stands n b j i e told low (omega (arith, under, length-append s.past (s.order ∷ []))) (was n i e is (get_pushed (take kept s.order) _ i e at)) is

-- a session that is met has no items yet
pub met_stands : (l : Layout) (s : Server) (app session : ℕ) → MetMay s app session → IssuedKept (view s) → StandSteps s (met_by l s app session)
met_stands l s app session may is k = record {
  stands = λ n b j i e told low high at it. go n b j i e told low high at it (eqb n session) refl;
}
  where
    none : (o : Option Session) (n : ℕ) (e : Entry) → is_some o ≡ false → StandsAsIssued (issued_of o) n e → ⊥
    none None n e f h = absurd (cc (h))
    none (Some m) n e f h = absurd (cc (f))

    go : (n b j i : ℕ) (e : Entry) → told_in ((met_by l s app session).session_at n) ≡ Some b → b ≤ j → j ≤ length s.past → slice_get s.order i ≡ Some e → is_item_of n e ≡ true → (c : Bool) → eqb n session ≡ c → slice_get (nth s.past s.order j) i ≡ Some e
    go n b j i e told low high at it true q =
        let same : n ≡ session = eqb-true n session q in
        absurd (none (s.session_at n) n e (subst (λ m. is_some (s.session_at m) ≡ false) (sym same) may.fresh)
        (each_at (AsIssued s.session_at s.entered_at) s.order i e is.as_issued at n (subst (λ m. is_some (s.entered_at m) ≡ true) (sym same) may.entered) it))
    go n b j i e told low high at it false q =
        k.stands n b j i e (subst (λ (c : Bool). told_in (if c then Some (record { app = app; issued = []; told = (entered_in s session).in_order }) else s.session_at n) ≡ Some b) q told) low high at it

-- a session is told
pub told_stands : (l : Layout) (s : Server) (app session epoch kept : ℕ) → ToldMay s app session epoch kept → StandSteps s (told_of l s app session epoch kept)
told_stands l s app session epoch kept may = later_told (standing s) (standing (told_of l s app session epoch kept)) refl (λ n b t. go n b t (eqb n session) refl)
  where
    here : (o : Option Session) (b : ℕ) → (unwrap_or o (record { app = 0; issued = []; told = 0 })).told < begun_by s epoch → told_in (option_map (λ (m : Session). record m { told = begun_by s epoch }) o) ≡ Some b → (c : ℕ) × ((told_in o ≡ Some c) × (c ≤ b))
    here None b low t = absurd (cc (t))
    here (Some m) b low t = let same : begun_by s epoch ≡ b = cc (t) in (m.told, (refl, omega (arith, low, same)))

    go : (n b : ℕ) → told_in ((told_of l s app session epoch kept).session_at n) ≡ Some b → (c : Bool) → eqb n session ≡ c → (c : ℕ) × ((told_in (s.session_at n) ≡ Some c) × (c ≤ b))
    go n b t true q =
        subst (λ m. (c : ℕ) × ((told_in (s.session_at m) ≡ Some c) × (c ≤ b))) (sym (eqb-true n session q))
        (here (s.session_at session) b may.later (subst (λ (c : Bool). told_in (if c then option_map (λ (m : Session). record m { told = begun_by s epoch }) (s.session_at session) else s.session_at n) ≡ Some b) q t))
    go n b t false q = (b, (subst (λ (c : Bool). told_in (if c then option_map (λ (m : Session). record m { told = begun_by s epoch }) (s.session_at session) else s.session_at n) ≡ Some b) q t, omega arith))
