-- Why a node among the parts of a line is refused.
use Rattle.std.proofs.Common.{◌≤◌, ◌≡◌, ◌≢◌, ◌⊎◌, ℕ, List, [], ◌∷◌, ◌++◌, drop, None, Some, Ok, refl, sym, ap, ◌∙◌, subst, inl, inr, arith}
use Rattle.std.specs.declared.alloc.AllocError.{AllocError}
use Rattle.subscript_keys.specs.declared.sub.Sub.{Sub}
use Rattle.subscript_keys.specs.Key.{key_of, HasEmpty, IsWithinLimit}
use Rattle.global_text.specs.declared.text_error.TextError.{TextError}
use Rattle.global_text.specs.declared.text_error.TextError.TheVariants.{NoCaret, BadName, BadSubscript, Unclosed, KeyTooLong, BadValue, ValueTooLong, Memory}
use Rattle.global_text.specs.Nodes.{HasGlobal, subs_size, key_length}
use Rattle.subscript_keys.specs.declared.limits.TheConstants.{KEY_LIMIT}
use Rattle.global_text.specs.Faults.{StopsBehind}
use Rattle.global_text.specs.declared.node_front.NodeFront.{NodeFront}
use Rattle.global_text.specs.NodeFronts.{IsReadTo, IsFront}
use Rattle.global_text.proofs.KeyLengths.{subs-size}
use Rattle.global_text.proofs.NodeParts.{list-fault, key_within}
use Rattle.global_text.proofs.NodeEnds.{front_read}
use Rattle.job_script.specs.declared.declared.Declared.{Declared}
use Rattle.job_script.specs.declared.line_fault.LineFault.{LineFault}
use Rattle.job_script.specs.declared.line_fault.LineFault.TheVariants.{Bad, Unknown, Memory as NoMemory}
use Rattle.job_script.specs.declared.line_kind.LineKind.TheVariants.{Node}
use Rattle.job_script.specs.Names.{server_of}
use Rattle.job_script.specs.Words.{IsWordEnd}
use Rattle.job_script.specs.Refusals.{IsMemoryFault, IsDeclared, HasBadNode, HasLongKey, HasEmptyFront, RefusesNode, RefusesNext}

some-text : (name text : List ℕ) → HasGlobal name text → text ≢ []
some-text name text is e = let stands = is.stands in cc

-- another fault of the subscripts than a long key
stop-bad : (d : Declared) (BadSubs : List Sub → Type 0) (name text : List ℕ) (subs : List Sub) (error : TextError) → IsDeclared d name text → StopsBehind text name subs error → error ≢ KeyTooLong → ((e : AllocError) → error ≢ Memory e) → HasBadNode d BadSubs text
stop-bad d BadSubs name text subs NoCaret is stop long memory = inl (list-fault text NoCaret (name, subs, stop))
stop-bad d BadSubs name text subs BadName is stop long memory = inr (inl (list-fault text BadName (name, subs, stop)))
stop-bad d BadSubs name text subs BadSubscript is stop long memory = inr (inr (name, subs, is, inl stop))
stop-bad d BadSubs name text subs Unclosed is stop long memory = inr (inr (name, subs, is, inr (inl stop)))
stop-bad d BadSubs name text subs KeyTooLong is stop long memory = absurd (long refl)
stop-bad d BadSubs name text subs BadValue is stop long memory = absurd (list-fault text BadValue (name, subs, stop))
stop-bad d BadSubs name text subs ValueTooLong is stop long memory = absurd (list-fault text ValueTooLong (name, subs, stop))
stop-bad d BadSubs name text subs (Memory error) is stop long memory = absurd (memory error refl)

-- it is a bad node
pub other_stop : (subs : List Sub) (error : TextError) → error ≢ KeyTooLong → ((e : AllocError) → error ≢ Memory e) → (d : Declared) (BadSubs : List Sub → Type 0) (name text : List ℕ) → IsDeclared d name text → StopsBehind text name subs error → (text ≢ []) × HasBadNode d BadSubs text
other_stop subs error long memory d BadSubs name text is stop = (some-text name text is.0, stop-bad d BadSubs name text subs error is stop long memory)

-- so is a long key after an empty subscript
pub empty_stop : (subs : List Sub) (error : TextError) → error ≡ KeyTooLong → HasEmpty subs → (d : Declared) (BadSubs : List Sub → Type 0) (name text : List ℕ) → IsDeclared d name text → StopsBehind text name subs error → (text ≢ []) × HasBadNode d BadSubs text
empty_stop subs error e empty d BadSubs name text is stop =
    let P : TextError → Type 0 = λ f. StopsBehind text name subs f in
    (some-text name text is.0, inr (inr (name, subs, is, inr (inr (inl (subst P e stop, empty))))))

-- and a long key with none is that
pub long_stop : (subs : List Sub) (error : TextError) → error ≡ KeyTooLong → (HasEmpty subs → ⊥) → (d : Declared) (name text : List ℕ) → IsDeclared d name text → StopsBehind text name subs error → HasLongKey d text
long_stop subs error e full d name text is stop =
    let P : TextError → Type 0 = λ f. StopsBehind text name subs f in
    (name, subs, is, subst P e stop, full)

-- something else than a space follows the node
pub no_end : (text : List ℕ) (front : NodeFront) (taken : ℕ) (behind : List ℕ) → IsFront text front → front.end ≡ Ok taken → behind ≡ drop taken text → (IsWordEnd behind → ⊥) → (d : Declared) (BadSubs : List Sub → Type 0) → server_of d.globals front.name ≢ None → (text ≢ []) × HasBadNode d BadSubs text
no_end text front taken behind is e b none d BadSubs declared =
    let P : List ℕ → Type 0 = λ t. IsWordEnd t → ⊥ in
    (some-text front.name text is.global, inr (inr (front.name, front.subs, (is.global, declared), inr (inr (inr (drop taken text, (front_read text front taken is e).parts, inr (subst P b none)))))))

-- an empty subscript is a bad node
bad-subs : (d : Declared) (BadSubs : List Sub → Type 0) (text : List ℕ) (front : NodeFront) (server taken : ℕ) → IsFront text front → server_of d.globals front.name ≡ Some server → IsReadTo text front.name front.subs taken → BadSubs front.subs → (text ≢ []) × HasBadNode d BadSubs text
bad-subs d BadSubs text front server taken is e read bad =
    let declared : server_of d.globals front.name ≢ None = λ none. some-server server (sym e ∙ none) in
    (some-text front.name text is.global, inr (inr (front.name, front.subs, (is.global, declared), inr (inr (inr (drop taken text, read.parts, inl bad))))))
  where
    some-server : (server : ℕ) → Some server ≡ None → ⊥
    some-server server e = cc

pub node_refused : (d : Declared) (text : List ℕ) (front : NodeFront) (server taken : ℕ) (fault : LineFault) → IsFront text front → server_of d.globals front.name ≡ Some server → IsReadTo text front.name front.subs taken → IsMemoryFault fault ⊎ ((fault ≡ Bad Node) × HasEmpty front.subs) → RefusesNode d text fault
node_refused d text front server taken (NoMemory error) is e read (inl memory) = tt
node_refused d text front server taken (Bad kind) is e read (inl memory) = absurd memory
node_refused d text front server taken Unknown is e read (inl memory) = absurd memory
node_refused d text front server taken fault is e read (inr (bad, empty)) = let P : LineFault → Type 0 = λ f. RefusesNode d text f in subst P (sym bad) (bad-subs d HasEmpty text front server taken is e read empty)

pub next_refused : (d : Declared) (text : List ℕ) (front : NodeFront) (server taken : ℕ) (fault : LineFault) (subs : List Sub) (last : Sub) → IsFront text front → server_of d.globals front.name ≡ Some server → IsReadTo text front.name front.subs taken → front.subs ≡ subs ++ last ∷ [] → IsMemoryFault fault ⊎ ((fault ≡ Bad Node) × HasEmpty subs) → RefusesNext d text fault
next_refused d text front server taken (NoMemory error) subs last is e read whole (inl memory) = tt
next_refused d text front server taken (Bad kind) subs last is e read whole (inl memory) = absurd memory
next_refused d text front server taken Unknown subs last is e read whole (inl memory) = absurd memory
next_refused d text front server taken fault subs last is e read whole (inr (bad, empty)) = let P : LineFault → Type 0 = λ f. RefusesNext d text f in subst P (sym bad) (bad-subs d HasEmptyFront text front server taken is e read (subs, last, whole, empty))

-- the key is within its limit without the last subscript too
pub parent_within : (name : List ℕ) (subs front : List Sub) (last : Sub) → subs ≡ front ++ last ∷ [] → key_length name subs ≤ KEY_LIMIT → HasEmpty front ⊎ IsWithinLimit (key_of (record { name = name; subs = front }))
parent_within name subs front last e within =
    key_within (record { name = name; subs = front }) (omega (arith, within, ap subs_size e, subs-size front last))
