-- What is known of each message by those before it, along a list of messages.
use Rattle.std.proofs.Common.{◌≡◌, ◌⊎◌, inl, inr, ℕ, zero, suc, Bool, true, false, ◌||◌, List, [], ◌∷◌, ◌++◌, take, drop, refl, sym, ◌∙◌, ap, subst}
use Rattle.std.specs.List.{AllByRecursion, list_any}
use Rattle.std.proofs.lemmas.Bool.{true≢false}
use Rattle.std.proofs.lemmas.List.{append-nil, append_assoc}
use Rattle.std.proofs.lemmas.List.Folds.{list_any-append}
use Rattle.plain_runs.proofs.Lists.{any_front, any_take}
use Rattle.ecp_messages.specs.declared.up.Up.{Up}
use Rattle.ecp_messages.specs.declared.down.Down.{Down}
use Rattle.cluster_invariant.specs.Asks.{AllFollow, FollowsAsks, cancels_ticket, grants_ticket, is_over}
use Rattle.asks_kept.proofs.UpKinds.{follows_over}

-- the message at a place, by those before it
pub follow_at : (earlier : List Up) (taken : List Down) (n : ℕ) (ms : List Up) (m : Up) (rest : List Up) → AllFollow earlier taken ms → drop n ms ≡ m ∷ rest
    → FollowsAsks (earlier ++ take n ms) taken m
follow_at earlier taken zero [] m rest all is = absurd (cc (is))
follow_at earlier taken zero (x ∷ ms) m rest all is =
    subst (λ (xs : List Up). FollowsAsks xs taken m) (sym (append-nil earlier)) (subst (FollowsAsks earlier taken) (head x m ms rest is) all.0)
  where
    head : (a b : Up) (xs ys : List Up) → ◌≡◌ {A = List Up} (a ∷ xs) (b ∷ ys) → a ≡ b
    head a b xs ys same = cc
follow_at earlier taken (suc n) [] m rest all is = absurd (cc (is))
follow_at earlier taken (suc n) (x ∷ ms) m rest all is =
    subst (λ (xs : List Up). FollowsAsks xs taken m) (append_assoc earlier (x ∷ []) (take n ms)) (follow_at (earlier ++ x ∷ []) taken n ms m rest all.1 is)

-- messages behind others
pub follow_joined : (earlier : List Up) (taken : List Down) (ms ns : List Up) → AllFollow earlier taken ms → AllFollow (earlier ++ ms) taken ns
    → AllFollow earlier taken (ms ++ ns)
follow_joined earlier taken [] ns first more = subst (λ (xs : List Up). AllFollow xs taken ns) (append-nil earlier) more
follow_joined earlier taken (m ∷ ms) ns first more =
    (first.0, follow_joined (earlier ++ m ∷ []) taken ms ns first.1 (subst (λ (xs : List Up). AllFollow xs taken ns) (sym (append_assoc earlier (m ∷ []) ms)) more))

-- as more is over
pub follow_over : (earlier : List Up) (taken more : List Down) → ((ups : List Up) (t : ℕ) → is_over ups taken t ≡ true → is_over ups more t ≡ true) → (ms : List Up)
    → AllFollow earlier taken ms → AllFollow earlier more ms
follow_over earlier taken more over [] all = tt
follow_over earlier taken more over (m ∷ ms) all =
    (follows_over earlier taken more (over earlier) m all.0, follow_over (earlier ++ m ∷ []) taken more over ms all.1)

-- what is over is so as more is given up, and as more is granted

over_parts : (a b c d : Bool) → (a ≡ true → c ≡ true) → (b ≡ true → d ≡ true) → (a || b) ≡ true → (c || d) ≡ true
over_parts true b c d f g is = ap (λ (x : Bool). x || d) (f is)
over_parts false b true d f g is = refl
over_parts false b false d f g is = g is

pub over_wider : (ups more : List Up) (taken given : List Down) (t : ℕ) → (list_any (cancels_ticket t) ups ≡ true → list_any (cancels_ticket t) more ≡ true)
    → (list_any (grants_ticket t) taken ≡ true → list_any (grants_ticket t) given ≡ true) → is_over ups taken t ≡ true → is_over more given t ≡ true
over_wider ups more taken given t cancels grants is =
    over_parts (list_any (cancels_ticket t) ups) (list_any (grants_ticket t) taken) (list_any (cancels_ticket t) more) (list_any (grants_ticket t) given) cancels grants is

-- what isn't over was neither given up nor granted
pub over_none : (ups : List Up) (taken : List Down) (t : ℕ) → list_any (cancels_ticket t) ups ≡ false → list_any (grants_ticket t) taken ≡ false → is_over ups taken t ≡ false
over_none ups taken t cancels grants = ap (λ (b : Bool). b || list_any (grants_ticket t) taken) cancels ∙ grants

-- a test that finds nothing in a list finds nothing in its front
pub none_in_front : {X : Type 0} (p : X → Bool) (xs ys : List X) → list_any p (xs ++ ys) ≡ false → list_any p xs ≡ false
none_in_front p xs ys none = go (list_any p xs) refl
  where
    go : (b : Bool) → list_any p xs ≡ b → list_any p xs ≡ false
    go true is = absurd (true≢false (sym (any_front p xs ys is) ∙ none))
    go false is = is

-- nor among those that are taken first
pub none_taken : {X : Type 0} (p : X → Bool) (n : ℕ) (xs : List X) → list_any p xs ≡ false → list_any p (take n xs) ≡ false
none_taken p n xs none = go (list_any p (take n xs)) refl
  where
    go : (b : Bool) → list_any p (take n xs) ≡ b → list_any p (take n xs) ≡ false
    go true is = absurd (true≢false (sym (any_take p n xs is) ∙ none))
    go false is = is

-- it finds nothing in two lists, one behind the other, where it finds nothing in either
pub none_joined : {X : Type 0} (p : X → Bool) (xs ys : List X) → list_any p xs ≡ false → list_any p ys ≡ false → list_any p (xs ++ ys) ≡ false
none_joined p xs ys a b = list_any-append p xs ys ∙ ap (λ (c : Bool). c || list_any p ys) a ∙ b

-- what it finds in both is in one of them
pub any_either : {X : Type 0} (p : X → Bool) (xs ys : List X) → list_any p (xs ++ ys) ≡ true → (list_any p xs ≡ true) ⊎ (list_any p ys ≡ true)
any_either p xs ys is = go (list_any p xs) refl (sym (list_any-append p xs ys) ∙ is)
  where
    go : (b : Bool) → list_any p xs ≡ b → (b || list_any p ys) ≡ true → (list_any p xs ≡ true) ⊎ (list_any p ys ≡ true)
    go true first found = inl first
    go false first found = inr found

-- none of those is found of which each is not
pub none_found : {X : Type 0} (P : X → Type 0) (p : X → Bool) → ((x : X) → p x ≡ true → P x → ⊥) → (xs : List X) → AllByRecursion P xs → list_any p xs ≡ false
none_found P p not [] all = refl
none_found P p not (x ∷ xs) all = go (p x) refl (none_found P p not xs all.1)
  where
    go : (b : Bool) → p x ≡ b → list_any p xs ≡ false → (b || list_any p xs) ≡ false
    go true here more = absurd (not x here all.0)
    go false other more = more
