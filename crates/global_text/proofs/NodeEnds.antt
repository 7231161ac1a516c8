-- How the reading of a node ends.
use Rattle.std.proofs.Common.{◌≡◌, ℕ, ◌-◌, ◌≤◌, List, ◌∷◌, ◌++◌, length, refl, sym, subst, arith}
use Rattle.std.specs.Prelude.{Result, Ok, Err, IfOk, IfErr}
use Rattle.std.specs.Char.{is_ascii_alphanumeric}
use Rattle.subscript_keys.specs.declared.sub.Sub.{Sub}
use Rattle.subscript_keys.specs.Key.{IsName}
use Rattle.global_text.specs.declared.text_error.TextError.{TextError}
use Rattle.global_text.specs.declared.node_front.NodeFront.{NodeFront}
use Rattle.global_text.specs.Numbers.{BeginsOtherwise}
use Rattle.global_text.specs.Nodes.{ReadsParts}
use Rattle.global_text.specs.Faults.{HasNodeFault, StopsBehind}
use Rattle.global_text.specs.NodeFronts.{IsReadTo, IsFront}
use Rattle.global_text.proofs.NodeParts.{list-fault, parts-at, parts-shorter, parts-forms, parts-limit}

-- where nothing but the rest is left, the node is read
pub read-to : (text name rest after : List ℕ) (subs : List Sub) → text ≡ 94 ∷ (name ++ rest) → ReadsParts name subs (94 ∷ (name ++ rest)) after → IsReadTo text name subs (length text - length after)
read-to text name rest after subs e is =
    let P : List ℕ → Type 0 = λ t. ReadsParts name subs t after in
    let short : length after ≤ length text = parts-shorter name text after subs (subst P (sym e) is) in
    record {
      within = omega arith;
      parts = parts-at name name text (94 ∷ (name ++ rest)) after subs refl e is;
      forms = parts-forms name (94 ∷ (name ++ rest)) after subs is;
      limit = parts-limit name (94 ∷ (name ++ rest)) after subs is;
    }

-- a name, and what is read after it
pub front-of : (text name other rest : List ℕ) (subs : List Sub) (end : Result ℕ TextError) → other ≡ name → IsName name → text ≡ 94 ∷ (name ++ rest) → BeginsOtherwise is_ascii_alphanumeric rest → IfOk end (IsReadTo text name subs) → IfErr end (StopsBehind text name subs) → IsFront text (record { name = other; subs = subs; end = end })
front-of text name other rest subs end same named stands whole read stop =
    let P : List ℕ → Type 0 = λ n. IsFront text (record { name = n; subs = subs; end = end }) in
    subst P (sym same) (record { global = record { rest = rest; named = named; stands = stands; whole = whole }; read = read; stop = stop })

-- the whole node is read
pub front_read : (text : List ℕ) (front : NodeFront) (taken : ℕ) → IsFront text front → front.end ≡ Ok taken → IsReadTo text front.name front.subs taken
front_read text front taken is e = let P : Result ℕ TextError → Type 0 = λ r. IfOk r (IsReadTo text front.name front.subs) in subst P e is.read

-- a fault ended the reading
pub front_stop : (text : List ℕ) (front : NodeFront) (error : TextError) → IsFront text front → front.end ≡ Err error → StopsBehind text front.name front.subs error
front_stop text front error is e = let P : Result ℕ TextError → Type 0 = λ r. IfErr r (StopsBehind text front.name front.subs) in subst P e is.stop

-- it is the node's
pub stop_fault : (text : List ℕ) (front : NodeFront) (error : TextError) → IsFront text front → front.end ≡ Err error → HasNodeFault text error
stop_fault text front error is e = list-fault text error (front.name, front.subs, front_stop text front error is e)
