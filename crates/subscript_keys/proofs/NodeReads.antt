-- Reading a node's key: its name, then its subscripts.
use Rattle.std.proofs.Common.{◌≡◌, ℕ, ◌<◌, List, [], ◌∷◌, ◌++◌, length, sym, ap, subst, ◌∙◌, arith, append_assoc, length-append}
use Rattle.std.specs.List.{AllByRecursion}
use Rattle.std.specs.Ordering.{nat_cmp}
use Rattle.std.specs.Cmp.Lexicographic.{slice_cmp}
use Rattle.std.specs.declared.cmp.Ordering.TheVariants.{Equal}
use Rattle.std.proofs.lemmas.List.{append-nil}
use Rattle.subscript_keys.specs.declared.sub.Sub.{Sub}
use Rattle.subscript_keys.specs.declared.node.Node.{Node}
use Rattle.subscript_keys.specs.Key.{sub_bytes, subs_bytes, key_of, IsName, IsSub, IsNode}
use Rattle.subscript_keys.proofs.Orders.{cmp-ended}
use Rattle.subscript_keys.proofs.KeyOrders.{sub-tag, name-above}
use Rattle.subscript_keys.proofs.Ties.{then-equal, same_lists, itself, more-subs, one-name}

one-ended : (a b r q : List ℕ) → AllByRecursion (λ c. 0 < c) a → AllByRecursion (λ c. 0 < c) b → a ++ 0 ∷ r ≡ b ++ 0 ∷ q → a ≡ b
one-ended a b r q p s e =
    let level : slice_cmp nat_cmp (a ++ 0 ∷ r) (b ++ 0 ∷ q) ≡ Equal = ap (slice_cmp nat_cmp (a ++ 0 ∷ r)) (sym e) ∙ itself (a ++ 0 ∷ r) in
    same_lists a b (then-equal (slice_cmp nat_cmp a b) (slice_cmp nat_cmp r q) (sym (cmp-ended a b r q p s) ∙ level)).0

above-no-zero : (name rest : List ℕ) → AllByRecursion (λ c. 0 < c) (name ++ 0 ∷ rest) → ⊥
above-no-zero [] rest p = let low : 0 < 0 = p.0 in absurd (omega arith)
above-no-zero (c ∷ name) rest p = above-no-zero name rest p.1

-- bytes without 00 begin with no ended name
pub no-zero : (bytes : List ℕ) → AllByRecursion (λ c. 0 < c) bytes → (name rest : List ℕ) → IsName name → bytes ≡ name ++ 0 ∷ rest → ⊥
no-zero bytes p name rest n e = above-no-zero name rest (subst (λ (s : List ℕ). AllByRecursion (λ c. 0 < c) s) e p)

-- what stands before the first 00 is the name, if there is one
pub no-other-name : (front back bytes : List ℕ) → AllByRecursion (λ c. 0 < c) front → bytes ≡ front ++ 0 ∷ back → (IsName front → ⊥) → (name rest : List ℕ) → IsName name → bytes ≡ name ++ 0 ∷ rest → ⊥
no-other-name front back bytes p e none name rest n k = none (subst IsName (one-ended name front rest back (name-above name n) p (sym k ∙ e)) n)

pub subs-push : (ss : List Sub) (s : Sub) → AllByRecursion IsSub ss → IsSub s → AllByRecursion IsSub (ss ++ s ∷ [])
subs-push [] s p q = (q, tt)
subs-push (t ∷ ss) s p q = (p.0, subs-push ss s p.1 q)

subs-joined : (ss : List Sub) (s : Sub) → subs_bytes (ss ++ s ∷ []) ≡ subs_bytes ss ++ sub_bytes s
subs-joined [] s = append-nil (sub_bytes s)
subs-joined (t ∷ ss) s = ap (λ x. sub_bytes t ++ x) (subs-joined ss s) ∙ sym (append_assoc (sub_bytes t) (subs_bytes ss) (sub_bytes s))

-- one subscript more
pub subs-turn : (ss : List Sub) (s : Sub) (bytes rest after : List ℕ) → bytes ≡ subs_bytes ss ++ rest → rest ≡ sub_bytes s ++ after → bytes ≡ subs_bytes (ss ++ s ∷ []) ++ after
subs-turn ss s bytes rest after e k =
    e ∙ ap (λ x. subs_bytes ss ++ x) k ∙ sym (append_assoc (subs_bytes ss) (sub_bytes s) after) ∙ ap (λ x. x ++ after) (sym (subs-joined ss s))

pub sub-shorter : (s : Sub) (rest after : List ℕ) → IsSub s → rest ≡ sub_bytes s ++ after → length after < length rest
sub-shorter s rest after p e =
    let t = sub-tag s p in
    let whole : rest ≡ t.0 ∷ (t.1 ++ after) = e ∙ ap (λ x. x ++ after) t.2 in
    omega (arith, ap length whole, length-append t.1 after)

stopped : (ms : List Sub) (rest : List ℕ) → AllByRecursion IsSub ms → rest ≡ subs_bytes ms → (length rest ≡ 0 → ⊥) → ((s : Sub) (after : List ℕ) → IsSub s → rest ≡ sub_bytes s ++ after → ⊥) → ⊥
stopped [] rest p e h none = h (ap length e)
stopped (m ∷ ms) rest p e h none = none m (subs_bytes ms) p.0 e

-- where no subscript stands in the middle, the bytes are no subscripts
pub no-more-subs : (ss : List Sub) (bytes rest : List ℕ) → AllByRecursion IsSub ss → bytes ≡ subs_bytes ss ++ rest → (length rest ≡ 0 → ⊥) → ((s : Sub) (after : List ℕ) → IsSub s → rest ≡ sub_bytes s ++ after → ⊥) → (ts : List Sub) → AllByRecursion IsSub ts → bytes ≡ subs_bytes ts → ⊥
no-more-subs ss bytes rest p e h none ts q k =
    let more = more-subs ss ts rest p q (sym e ∙ k) in
    stopped more.0 rest more.3 more.2 h none

-- name and subscripts that were read are the node's
pub node-stands : (node : Node) (key name rest : List ℕ) (subs : List Sub) → node.name ≡ name → node.subs ≡ subs → IsName name → key ≡ name ++ 0 ∷ rest → AllByRecursion IsSub subs → rest ≡ subs_bytes subs → IsNode node × (key_of node ≡ key)
unfolding key_of
node-stands node key name rest subs n s p e q k = (
  record { name = subst IsName (sym n) p; subs = subst (λ (l : List Sub). AllByRecursion IsSub l) (sym s) q },
  ap (λ x. x ++ 0 ∷ subs_bytes node.subs) n ∙ ap (λ x. name ++ 0 ∷ subs_bytes x) s ∙ ap (λ x. name ++ 0 ∷ x) (sym k) ∙ sym e,
)

pub no-name : (key : List ℕ) → ((name rest : List ℕ) → IsName name → key ≡ name ++ 0 ∷ rest → ⊥) → (node : Node) → IsNode node → key_of node ≡ key → ⊥
unfolding key_of
no-name key none node p e = none node.name (subs_bytes node.subs) p.name (sym e)

pub no-subs : (key name rest : List ℕ) → IsName name → key ≡ name ++ 0 ∷ rest → ((subs : List Sub) → AllByRecursion IsSub subs → rest ≡ subs_bytes subs → ⊥) → (node : Node) → IsNode node → key_of node ≡ key → ⊥
unfolding key_of
no-subs key name rest n e none node p k =
    let parts = one-name node.name name (subs_bytes node.subs) rest p.name n (k ∙ e) in
    none node.subs p.subs (sym parts.1)
