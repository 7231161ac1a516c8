-- Nodes that are read from the left.
use Rattle.std.proofs.Common.{◌≡◌, ℕ, ◌+◌, ◌≤◌, List, [], ◌∷◌, ◌++◌, length, refl, sym, subst, inl, inr, arith}
use Rattle.subscript_keys.specs.declared.sub.Sub.{Sub}
use Rattle.subscript_keys.specs.declared.limits.TheConstants.{GLOBAL_NAME_LIMIT}
use Rattle.subscript_keys.specs.Key.{IsName}
use Rattle.global_text.specs.Nodes.{sub_size, ReadsSub, ReadsSubs, key_length, BeforeSub, BehindSub}
use Rattle.global_text.specs.declared.text_error.TextError.{TextError}
use Rattle.global_text.specs.Faults.{HasSubFault, HasMarkFault, StopsBehind}
use Rattle.global_text.proofs.KeyLengths.{subs-size}

-- a name has at most GLOBAL_NAME_LIMIT bytes
pub name-short : (name : List ℕ) → IsName name → length name ≤ GLOBAL_NAME_LIMIT
name-short [] is = absurd is
name-short (c ∷ name) is = omega (arith, is.2)

longer-key : (name : List ℕ) (subs : List Sub) (s : Sub) → key_length name (subs ++ s ∷ []) ≡ key_length name subs + sub_size s
longer-key name subs s = omega (arith, subs-size subs s)

-- one subscript more
pub behind-sub : (text name place rest : List ℕ) (subs : List Sub) (s : Sub) (key longer : ℕ) → BeforeSub text name subs place → key ≡ key_length name subs → ReadsSub s place rest → longer ≡ key + sub_size s → longer ≤ 500 → BehindSub text name (subs ++ s ∷ []) rest
behind-sub text name place rest subs s key longer before e is k within =
    record { last = (subs, s, place, before, is, refl); within = omega (arith, longer-key name subs s) }

subs-push : (subs : List Sub) (s : Sub) (text place next : List ℕ) → ReadsSubs subs text place → ReadsSub s place (44 ∷ next) → ReadsSubs (subs ++ s ∷ []) text next
subs-push [] s text place next e is = (next, subst (λ (t : List ℕ). ReadsSub s t (44 ∷ next)) (sym e) is, refl)
subs-push (t ∷ subs) s text place next (after, first, more) is = (after, first, subs-push subs s after place next more is)

-- and its comma
pub before-next : (text name place next : List ℕ) (subs : List Sub) (s : Sub) (key longer : ℕ) → BeforeSub text name subs place → key ≡ key_length name subs → ReadsSub s place (44 ∷ next) → longer ≡ key + sub_size s → longer ≤ 500 → BeforeSub text name (subs ++ s ∷ []) next × (longer ≡ key_length name (subs ++ s ∷ []))
before-next text name place next subs s key longer before e is k within = (
  record { named = before.named; listed = (before.listed.0, subs-push subs s before.listed.0 place next before.listed.1 is, before.listed.2); within = omega (arith, longer-key name subs s) },
  omega (arith, longer-key name subs s),
)

-- a fault before a subscript
pub fault-before : (text name rest : List ℕ) (subs : List Sub) (key : ℕ) (error : TextError) → BeforeSub text name subs rest → key ≡ key_length name subs → HasSubFault key rest error → StopsBehind text name subs error
fault-before text name rest subs key error before e fault = (rest, inl (before, subst (λ (k : ℕ). HasSubFault k rest error) e fault))

-- a fault after one
pub fault-behind : (text name rest : List ℕ) (subs : List Sub) (error : TextError) → BehindSub text name subs rest → HasMarkFault rest error → StopsBehind text name subs error
fault-behind text name rest subs error behind fault = (rest, inr (behind, fault))
