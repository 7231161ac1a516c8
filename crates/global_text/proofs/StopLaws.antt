-- A text stops at one subscript, after one name.
use Rattle.std.proofs.Common.{◌≡◌, ℕ, ◌+◌, ◌≤◌, List, [], ◌∷◌, ◌++◌, length, refl, sym, ap, subst, ◌∙◌, inl, inr, arith}
use Rattle.std.specs.Prelude.{◌==◌}
use Rattle.std.specs.Char.{is_ascii_alphanumeric}
use Rattle.subscript_keys.specs.declared.sub.Sub.{Sub}
use Rattle.subscript_keys.specs.Key.{IsName}
use Rattle.global_text.specs.declared.text_error.TextError.TheVariants.{KeyTooLong}
use Rattle.global_text.specs.Numbers.{BeginsOtherwise}
use Rattle.global_text.specs.Nodes.{sub_size, subs_size, ReadsSub, ReadsSubs, key_length, ReadsParts}
use Rattle.global_text.specs.Faults.{HasSubFault, StopsBehind, HasBadName}
use Rattle.global_text.proofs.NodeLaws.{sub-no-fault, one-name, no-caret, parts-name}
use Rattle.global_text.proofs.OneFault.{key-none, key-next, same-head, same-list}

-- a caret and this name come first, and no letter or digit makes it longer
abbrev pub BeginsNamed : List ℕ → List ℕ → Type 0
BeginsNamed name text = (behind : List ℕ) × IsName name × BeginsOtherwise is_ascii_alphanumeric behind × (text ≡ 94 ∷ (name ++ behind))

pub one-named : (name other text : List ℕ) → BeginsNamed name text → BeginsNamed other text → name ≡ other
one-named name other text (rest, is, n, e) (behind, it, m, k) = (one-name name other text rest behind is it n m e k).0

pub named-some : (name : List ℕ) → BeginsNamed name [] → ⊥
named-some name (rest, is, n, e) = cc

pub named-caret : (name text : List ℕ) → BeginsNamed name text → BeginsOtherwise (λ b. b == 94) text → ⊥
named-caret name text (rest, is, n, e) other = no-caret text (name ++ rest) other e

pub named-good : (name text : List ℕ) → BeginsNamed name text → HasBadName text → ⊥
named-good name text (rest, is, n, e) (behind, k, none) =
    none name rest is n (let same : behind ≡ name ++ rest = let whole : 94 ∷ behind ≡ 94 ∷ (name ++ rest) = sym k ∙ e in cc in same)

pub parts-named : (name text rest : List ℕ) (subs : List Sub) → ReadsParts name subs text rest → BeginsNamed name text
parts-named name text rest subs is = parts-name name text rest subs is

-- a subscript after which a longer list goes on doesn't pass the limit
both-long : (key : ℕ) (ss ts : List Sub) (list place at : List ℕ) → ReadsSubs ss list place → ReadsSubs ts list at → key + subs_size ss ≤ 500 → key + subs_size ts ≤ 500 → HasSubFault (key + subs_size ss) place KeyTooLong → HasSubFault (key + subs_size ts) at KeyTooLong → ss ≡ ts
both-long key [] [] list place at p q h k fault also = refl
both-long key [] (b ∷ ts) list place at p (next, one, others) h k fault also =
    absurd (sub-no-fault key b place (44 ∷ next) KeyTooLong (subst (λ (t : List ℕ). ReadsSub b t (44 ∷ next)) p one) (omega arith) (key-none key place KeyTooLong fault))
both-long key (a ∷ ss) [] list place at (after, first, more) q h k fault also =
    absurd (sub-no-fault key a at (44 ∷ after) KeyTooLong (subst (λ (t : List ℕ). ReadsSub a t (44 ∷ after)) q first) (omega arith) (key-none key at KeyTooLong also))
both-long key (a ∷ ss) (b ∷ ts) list place at (after, first, more) (next, one, others) h k fault also =
    let same = same-head a b list after next first one in
    let rest = both-long (key + sub_size a) ss ts after place at more (subst (λ (t : List ℕ). ReadsSubs ts t at) (sym same.1) others)
    (omega arith)
    (omega (arith, ap (λ x. sub_size x) same.0))
    (key-next key a ss place KeyTooLong fault)
    (subst (λ (k : ℕ). HasSubFault k at KeyTooLong) (omega (arith, ap (λ x. sub_size x) same.0)) also) in
    ap (λ x. x ∷ ss) same.0 ∙ ap (λ l. b ∷ l) rest

-- where the key of a text passes its limit, it does so after the same subscripts
pub one-long : (text name other : List ℕ) (ss ts : List Sub) → StopsBehind text name ss KeyTooLong → StopsBehind text other ts KeyTooLong → ss ≡ ts
one-long text name other ss ts (place, inl (p, fault)) (at, inl (q, also)) =
    let same = same-list text name other place at ss ts p q in
    both-long (length name + 1) ss ts p.listed.0 place at p.listed.1 (subst (λ (t : List ℕ). ReadsSubs ts t at) same.1 q.listed.1) p.within (omega (arith, q.within, ap length same.0)) fault (subst (λ (n : List ℕ). HasSubFault (key_length n ts) at KeyTooLong) (sym same.0) also)
one-long text name other ss ts (place, inr (p, fault)) q = absurd fault
one-long text name other ss ts (place, inl p) (rest, inr (q, fault)) = absurd fault
