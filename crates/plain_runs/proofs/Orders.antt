-- The orders of a server along a run.
use Rattle.std.proofs.Common.{◌≡◌, ℕ, zero, suc, ◌≤◌, ◌<◌, ◌+◌, List, [], ◌∷◌, ◌++◌, length, take, refl, subst, sym, ap, ◌∙◌, Bool, true, false, arith, length-append, append_assoc, get_or, ◌⊎◌, inl, inr}
use Rattle.std.proofs.lemmas.Bool.{cases_lt}
use Rattle.std.proofs.lemmas.List.{take-append-le, length-take-le, take-take, get_or_append_left, get_or-append-add}
use Rattle.plain_orders.specs.declared.entry.Entry.{Entry}
use Rattle.plain_orders.specs.declared.entry.Entry.TheVariants.{Epoch}
use Rattle.plain_orders.specs.Entries.{count, last_epoch}
use Rattle.plain_runs.specs.Plain.{Server}
use Rattle.plain_runs.specs.OrderRows.{OpenedMay, SyncedMay, CrashMay, opened_with, crashed}
use Rattle.plain_runs.specs.Laws.{IsNextOrder}
use Rattle.plain_runs.proofs.Numbers.{InOrder, in_order_push, in_order_take, ordered_in_order}
use Rattle.plain_orders.specs.ItemEntries.{is_item_of, w_of}

-- P holds of each
abbrev pub Each : {X : Type 0} → (X → Type 0) → List X → Type 0
Each P [] = Unit {0}
Each P (x ∷ xs) = P x × Each P xs

pub each-append : {X : Type 0} (P : X → Type 0) (xs ys : List X) → Each P xs → Each P ys → Each P (xs ++ ys)
each-append P [] ys p q = q
each-append P (x ∷ xs) ys p q = (p.0, each-append P xs ys p.1 q)

pub each_front : {X : Type 0} (P : X → Type 0) (xs ys : List X) → Each P (xs ++ ys) → Each P xs
each_front P [] ys p = tt
each_front P (x ∷ xs) ys p = (p.0, each_front P xs ys p.1)

pub each_get : {X : Type 0} (P : X → Type 0) (xs : List X) (k : ℕ) (d : X) → Each P xs → P d → P (get_or xs k d)
each_get P [] k d p q = q
each_get P (x ∷ xs) zero d p q = p.0
each_get P (x ∷ xs) (suc k) d p q = each_get P xs k d p.1 q

-- the last of a list
get_last : {X : Type 0} (xs : List X) (x d : X) → get_or (xs ++ x ∷ []) (length xs) d ≡ x
get_last xs x d = ap (λ n. get_or (xs ++ x ∷ []) n d) (omega arith) ∙ get_or-append-add xs (x ∷ []) 0 d

-- what rows on orders see of a server
pub record Facet : Type 0 where
  pub opened : Bool
  pub past : List (List Entry)
  pub order : List Entry
  pub synced : ℕ

abbrev pub facet : Server → Facet
facet s = record { opened = s.opened; past = s.past; order = s.order; synced = s.synced }

abbrev order_in : Facet → ℕ → List Entry
order_in f k = get_or (f.past ++ f.order ∷ []) k []

-- neighbouring orders agree
abbrev pub NextIs : List Entry → List (List Entry) → Type 0
NextIs o [] = Unit {0}
NextIs o (p ∷ ps) = IsNextOrder o p

abbrev pub Chained : List (List Entry) → Type 0
Chained [] = Unit {0}
Chained (o ∷ os) = NextIs o os × Chained os

pub record OrdersKept (f : Facet) : Type 0 where
  pub within : f.synced ≤ length f.order
  pub fresh : f.opened ≡ false → (f.order ≡ []) × (f.past ≡ [])
  pub numbered : Each InOrder (f.past ++ f.order ∷ [])
  pub chained : Chained (f.past ++ f.order ∷ [])

-- what becomes of the orders
pub record OrdersGo (f g : Facet) : Type 0 where
  pub synced : f.synced ≤ g.synced
  pub more : length f.past ≤ length g.past
  pub past : (k : ℕ) → k < length f.past → order_in g k ≡ order_in f k
  pub stays : (k : ℕ) → length f.past ≤ k → k ≤ length g.past → take f.synced (order_in g k) ≡ take f.synced f.order

abbrev pub OrderSteps : Server → Server → Type 0
OrderSteps s t = OrdersKept (facet s) → OrdersKept (facet t) × OrdersGo (facet s) (facet t)

go_same : (f : Facet) → OrdersGo f f
go_same f = record {
  synced = omega arith;
  more = omega arith;
  past = λ k low. refl;
  stays = λ k low high. ap (take f.synced) (ap (order_in f) (omega arith) ∙ get_last f.past f.order []);
}

pub orders_same : (s : Server) → OrderSteps s s
orders_same s k = (k, go_same (facet s))

pub go_further : (f g h : Facet) → OrdersGo f g → OrdersGo g h → OrdersGo f h
go_further f g h a b = record {
  synced = omega (arith, a.synced, b.synced);
  more = omega (arith, a.more, b.more);
  past = λ k low. b.past k (omega (arith, a.more)) ∙ a.past k low;
  stays = λ k low high. elim (cases k) [ inl under ↦ ap (take f.synced) (b.past k under) ∙ a.stays k low (omega arith) | inr over ↦ late k over high ];
}
  where
    cases : (k : ℕ) → (k < length g.past) ⊎ (length g.past ≤ k)
    cases k = cases_lt k (length g.past)

    shorter : (xs ys : List Entry) → take g.synced xs ≡ take g.synced ys → take f.synced xs ≡ take f.synced ys
    shorter xs ys e = sym (take-take f.synced g.synced xs a.synced) ∙ ap (take f.synced) e ∙ take-take f.synced g.synced ys a.synced

    late : (k : ℕ) → length g.past ≤ k → k ≤ length h.past → take f.synced (order_in h k) ≡ take f.synced f.order
    late k over high = shorter (order_in h k) g.order (b.stays k over high) ∙ ap (take f.synced) (sym (get_last g.past g.order [])) ∙ a.stays (length g.past) a.more (omega arith)

-- the last order changed
last_each : (os : List (List Entry)) (o p : List Entry) → Each InOrder (os ++ o ∷ []) → InOrder p → Each InOrder (os ++ p ∷ [])
last_each os o p e q = each-append InOrder os (p ∷ []) (each_front InOrder os (o ∷ []) e) (q, tt)

last_in_order : (os : List (List Entry)) (o : List Entry) → Each InOrder (os ++ o ∷ []) → InOrder o
last_in_order [] o e = e.0
last_in_order (x ∷ os) o e = last_in_order os o e.1

pub order_in_order : (f : Facet) → OrdersKept f → InOrder f.order
order_in_order f k = last_in_order f.past f.order k.numbered

next_longer : (o p : List Entry) (e : Entry) → IsNextOrder o p → IsNextOrder o (p ++ e ∷ [])
next_longer o p e n = record {
  kept = n.kept;
  more = n.more ++ e ∷ [];
  within = n.within;
  later = ap (λ (xs : List Entry). xs ++ e ∷ []) n.later ∙ append_assoc (take n.kept o) (Epoch (last_epoch (take n.kept o) + 1) ∷ n.more) (e ∷ []);
}

chained_longer : (os : List (List Entry)) (o : List Entry) (e : Entry) → Chained (os ++ o ∷ []) → Chained (os ++ (o ++ e ∷ []) ∷ [])
chained_longer [] o e c = c
chained_longer (x ∷ []) o e c = (next_longer x o e c.0, c.1)
chained_longer (x ∷ y ∷ os) o e c = (c.0, chained_longer (y ∷ os) o e c.1)

chained_more : (os : List (List Entry)) (o p : List Entry) → Chained (os ++ o ∷ []) → IsNextOrder o p → Chained ((os ++ o ∷ []) ++ p ∷ [])
chained_more [] o p c n = (n, (tt, tt))
chained_more (x ∷ []) o p c n = (c.0, (n, (tt, tt)))
chained_more (x ∷ y ∷ os) o p c n = (c.0, chained_more (y ∷ os) o p c.1 n)

-- an entry at the end
pub longer : (s t : Server) (e : Entry) → t.past ≡ s.past → t.order ≡ s.order ++ e ∷ [] → t.synced ≡ s.synced → (OrdersKept (facet s) → s.opened ≡ false → ⊥) → t.opened ≡ s.opened
    → (OrdersKept (facet s) → (n : ℕ) → is_item_of n e ≡ true → w_of e ≡ count s.order n + 1) → OrderSteps s t
longer s t e p o y op same next k = (
  record {
    within = omega (arith, k.within, y, ap length o, length-append s.order (e ∷ []));
    fresh = λ f. absurd (op k (sym same ∙ f));
    numbered = subst (λ (os : List (List Entry)). Each InOrder (os ++ t.order ∷ [])) (sym p) (subst (λ (es : List Entry). Each InOrder (s.past ++ es ∷ [])) (sym o) (last_each s.past s.order _ k.numbered (in_order_push s.order e (order_in_order (facet s) k) (next k))));
    chained = subst (λ (os : List (List Entry)). Chained (os ++ t.order ∷ [])) (sym p) (subst (λ (es : List Entry). Chained (s.past ++ es ∷ [])) (sym o) (chained_longer s.past s.order e k.chained));
  },
  record {
    synced = omega (arith, y);
    more = omega (arith, ap length p);
    past = λ n low. ap (λ (os : List (List Entry)). get_or (os ++ t.order ∷ []) n []) p ∙ get_or_append_left s.past (t.order ∷ []) [] n low ∙ sym (get_or_append_left s.past (s.order ∷ []) [] n low);
    stays = λ n low high. ap (take s.synced) (ap (order_in (facet t)) (omega (arith, low, high, ap length p)) ∙ get_last t.past t.order [] ∙ o) ∙ take-append-le s.synced s.order (e ∷ []) k.within;
  },
)

pub saved_steps : (s : Server) (n : ℕ) → SyncedMay s n → OrderSteps s (record s { synced = n })
saved_steps s n may k = (
  record { within = may.within; fresh = k.fresh; numbered = k.numbered; chained = k.chained },
  record {
    synced = may.no_less;
    more = omega arith;
    past = λ i low. refl;
    stays = λ i low high. ap (take s.synced) (ap (order_in (facet s)) (omega arith) ∙ get_last s.past s.order []);
  },
)

pub opened_steps : (clock round : ℕ) (s : Server) (entries : List Entry) → OpenedMay s entries → OrderSteps s (opened_with clock round s entries)
opened_steps clock round s entries may k = (
  record {
    within = omega (arith, length-append entries (Epoch (last_epoch entries + 1) ∷ []));
    fresh = λ f. absurd (cc (f));
    numbered = subst (λ (os : List (List Entry)). Each InOrder (os ++ (entries ++ Epoch (last_epoch entries + 1) ∷ []) ∷ [])) (sym empty.1)
        (in_order_push entries (Epoch (last_epoch entries + 1)) (ordered_in_order entries may.ordered) (λ n is. absurd (cc (is))), tt);
    chained = subst (λ (os : List (List Entry)). Chained (os ++ (entries ++ Epoch (last_epoch entries + 1) ∷ []) ∷ [])) (sym empty.1) (tt, tt);
  },
  record {
    synced = omega (arith, nothing);
    more = omega arith;
    past = λ n low. absurd (omega (arith, ap length empty.1));
    stays = λ n low high. ap (λ m. take m (order_in (facet (opened_with clock round s entries)) n)) nothing ∙ ap (λ m. take m s.order) (sym nothing);
  },
)
  where
    empty : (s.order ≡ []) × (s.past ≡ [])
    empty = k.fresh may.fresh

    nothing : s.synced ≡ 0
    nothing = omega (arith, k.within, ap length empty.0)

pub crash_steps : (clock round : ℕ) (s : Server) (kept : ℕ) → CrashMay s kept → OrderSteps s (crashed clock round s kept)
crash_steps clock round s kept may k = (
  record {
    within = omega (arith, length-append (take kept s.order) (last ∷ []), length-take-le kept s.order may.within);
    fresh = λ f. absurd (cc (f, may.opened));
    numbered = each-append InOrder (s.past ++ s.order ∷ []) ((take kept s.order ++ last ∷ []) ∷ []) k.numbered
        (in_order_push (take kept s.order) last (in_order_take kept s.order (order_in_order (facet s) k)) (λ n is. absurd (cc (is))), tt);
    chained = chained_more s.past s.order (take kept s.order ++ last ∷ []) k.chained (record { kept = kept; more = []; within = may.within; later = refl });
  },
  record {
    synced = may.no_less;
    more = omega (arith, length-append s.past (s.order ∷ []));
    past = λ n low. get_or_append_left (s.past ++ s.order ∷ []) (next ∷ []) [] n (omega (arith, length-append s.past (s.order ∷ [])));
    stays = λ n low high. elim (cases n low high) [ inl here ↦ old n here | inr there ↦ new n there ];
  },
)
  where
    last : Entry
    last = Epoch (last_epoch (take kept s.order) + 1)

    next : List Entry
    next = take kept s.order ++ last ∷ []

    cases : (n : ℕ) → length s.past ≤ n → n ≤ length (s.past ++ s.order ∷ []) → (n ≡ length s.past) ⊎ (n ≡ length (s.past ++ s.order ∷ []))
    cases n low high = split (cases_lt (length s.past) n)
      where
        split : (length s.past < n) ⊎ (n ≤ length s.past) → (n ≡ length s.past) ⊎ (n ≡ length (s.past ++ s.order ∷ []))
        split (inl over) = inr (omega (arith, length-append s.past (s.order ∷ [])))
        split (inr under) = inl (omega arith)

    old : (n : ℕ) → n ≡ length s.past → take s.synced (get_or ((s.past ++ s.order ∷ []) ++ next ∷ []) n []) ≡ take s.synced s.order
    old n here = ap (take s.synced) (get_or_append_left (s.past ++ s.order ∷ []) (next ∷ []) [] n (omega (arith, length-append s.past (s.order ∷ []))) ∙ ap (order_in (facet s)) here ∙ get_last s.past s.order [])

    new : (n : ℕ) → n ≡ length (s.past ++ s.order ∷ []) → take s.synced (get_or ((s.past ++ s.order ∷ []) ++ next ∷ []) n []) ≡ take s.synced s.order
    new n there =
        ap (take s.synced) (ap (λ m. get_or ((s.past ++ s.order ∷ []) ++ next ∷ []) m []) there ∙ get_last (s.past ++ s.order ∷ []) next [])
        ∙ take-append-le s.synced (take kept s.order) (last ∷ []) (omega (arith, length-take-le kept s.order may.within, may.no_less)) ∙ take-take s.synced kept s.order may.no_less
