-- What is known of a node that was read.
use Rattle.std.proofs.Common.{◌≡◌, ◌⊎◌, ℕ, ◌-◌, ◌≤◌, Bool, true, false, List, [], ◌∷◌, ◌++◌, length, drop, refl, sym, ap, subst, ◌∙◌, inl, inr, arith, append_assoc, length-append}
use Rattle.std.specs.Prelude.{◌||◌}
use Rattle.std.specs.List.{AllByRecursion}
use Rattle.std.specs.Char.{is_ascii_alphabetic, is_ascii_alphanumeric}
use Rattle.std.specs.Int.{is_in_range}
use Rattle.subscript_keys.specs.declared.sub.Sub.{Sub}
use Rattle.subscript_keys.specs.declared.sub.Sub.TheVariants.{Num, Text}
use Rattle.global_text.proofs.KeyLengths.{full-subs, low-subs}
use Rattle.subscript_keys.specs.declared.node.Node.{Node}
use Rattle.subscript_keys.specs.Key.{subs_bytes, key_of, HasEmpty, HasForm, IsName, IsWithinLimit}
use Rattle.global_text.specs.declared.text_error.TextError.{TextError}
use Rattle.global_text.specs.declared.text_error.TextError.TheVariants.{NoCaret, BadName, BadSubscript, Unclosed, KeyTooLong, BadValue, ValueTooLong, Memory}
use Rattle.global_text.specs.Numbers.{Every, BeginsOtherwise}
use Rattle.global_text.specs.Strings.{ReadsString}
use Rattle.global_text.specs.Nodes.{subs_size, sub_string, ReadsSubs, key_length, ReadsParts}
use Rattle.global_text.specs.Faults.{HasListFault, HasBadName, HasNodeFault}
use Rattle.global_text.proofs.NumberTokens.{one-span}
use Rattle.global_text.proofs.StringReads.{drop-behind, spelling}
use Rattle.global_text.proofs.NodeReads.{name-short}

widen : (w x y : Bool) → (x || y) ≡ true → ((w || x) || y) ≡ true
widen true x y t = refl
widen false x y t = t

-- a name is letters and digits
pub name-every : (name : List ℕ) → IsName name → Every is_ascii_alphanumeric name
name-every [] is = absurd is
name-every (c ∷ name) is = (letter c is.0, is.1)
  where
    letter : (c : ℕ) → is_ascii_alphabetic c ≡ true → is_ascii_alphanumeric c ≡ true
    letter c t = widen (is_in_range 48 57 c) (is_in_range 65 90 c) (is_in_range 97 122 c) t

-- where another split into letters and digits is no name, none stands
pub no-name : (text token after : List ℕ) → text ≡ token ++ after → Every is_ascii_alphanumeric token → BeginsOtherwise is_ascii_alphanumeric after → (IsName token → ⊥) → HasBadName (94 ∷ text)
no-name text token after e p n none = (text, refl, λ name rest is m k. none (subst IsName (one-span is_ascii_alphanumeric name token rest after (name-every name is) p m n (sym k ∙ e)).0 is))

-- what a fault of the subscripts says of the node
pub list-fault : (text : List ℕ) (error : TextError) → HasListFault text error → HasNodeFault text error
list-fault text NoCaret (name, subs, (rest, inl (before, fault))) = absurd fault
list-fault text NoCaret (name, subs, (rest, inr (behind, fault))) = absurd fault
list-fault text BadName (name, subs, (rest, inl (before, fault))) = absurd fault
list-fault text BadName (name, subs, (rest, inr (behind, fault))) = absurd fault
list-fault text BadSubscript fault = fault
list-fault text Unclosed fault = fault
list-fault text KeyTooLong fault = fault
list-fault text (Memory error) fault = tt
list-fault text BadValue (name, subs, (rest, inl (before, fault))) = fault
list-fault text BadValue (name, subs, (rest, inr (behind, fault))) = fault
list-fault text ValueTooLong (name, subs, (rest, inl (before, fault))) = fault
list-fault text ValueTooLong (name, subs, (rest, inr (behind, fault))) = fault

-- a spelling stands in front of the rest
abbrev pub Front : List ℕ → List ℕ → Type 0
Front text rest = (front : List ℕ) × (text ≡ front ++ rest)

string-front : (s text rest : List ℕ) → ReadsString s text rest → Front text rest
string-front s text rest is = let read = spelling s text rest is in (read.0, read.1)

subs-front : (subs : List Sub) (text rest : List ℕ) → ReadsSubs subs text rest → Front text rest
subs-front [] text rest e = ([], e)
subs-front (s ∷ subs) text rest (after, first, more) =
    let one = string-front (sub_string s) text (44 ∷ after) first.1 in
    let others = subs-front subs after rest more in
    (one.0 ++ 44 ∷ others.0, one.1 ∙ ap (λ x. one.0 ++ 44 ∷ x) others.1 ∙ sym (append_assoc one.0 (44 ∷ others.0) rest))

parts-front : (name text rest : List ℕ) (subs : List Sub) → ReadsParts name subs text rest → Front text rest
parts-front name text rest subs (inl (none, (is, e, n))) = (94 ∷ name, e)
parts-front name text rest subs (inr behind) =
    let front = behind.last.0 in
    let place = behind.last.2 in
    let list = behind.last.3.listed.0 in
    let some = subs-front front list place behind.last.3.listed.1 in
    let one = string-front (sub_string behind.last.1) place (41 ∷ rest) behind.last.4.1 in (
      94 ∷ (name ++ 40 ∷ (some.0 ++ (one.0 ++ 41 ∷ []))),
      behind.last.3.listed.2 ∙ ap (λ x. 94 ∷ (name ++ 40 ∷ x)) (some.1 ∙ ap (λ x. some.0 ++ x) one.1)
          ∙ ap (λ x. 94 ∷ x) (ap (λ x. name ++ 40 ∷ x) (ap (λ x. some.0 ++ x) (sym (append_assoc one.0 (41 ∷ []) rest)) ∙ sym (append_assoc some.0 (one.0 ++ 41 ∷ []) rest)) ∙ sym (append_assoc name (40 ∷ (some.0 ++ (one.0 ++ 41 ∷ []))) rest)),
    )

-- what follows a node, by its place
pub parts-dropped : (name text rest : List ℕ) (subs : List Sub) → ReadsParts name subs text rest → drop (length text - length rest) text ≡ rest
parts-dropped name text rest subs is = let front = parts-front name text rest subs is in drop-behind front.0 rest text front.1

pub parts-shorter : (name text rest : List ℕ) (subs : List Sub) → ReadsParts name subs text rest → length rest ≤ length text
parts-shorter name text rest subs is = let front = parts-front name text rest subs is in omega (arith, ap length front.1, length-append front.0 rest)

pub parts-at : (name other text whole rest : List ℕ) (subs : List Sub) → name ≡ other → text ≡ whole → ReadsParts other subs whole rest → ReadsParts name subs text (drop (length text - length rest) text)
parts-at name other text whole rest subs e k is =
    let P : List ℕ → Type 0 = λ r. ReadsParts name subs text r in
    let Q : List ℕ → Type 0 = λ n. ReadsParts n subs text rest in
    let R : List ℕ → Type 0 = λ t. ReadsParts other subs t rest in
    let read = subst R (sym k) is in
    subst P (sym (parts-dropped other text rest subs read)) (subst Q (sym e) read)

subs-forms : (subs : List Sub) (s : Sub) (text rest : List ℕ) → ReadsSubs subs text rest → HasForm s → AllByRecursion HasForm (subs ++ s ∷ [])
subs-forms [] s text rest e is = (is, tt)
subs-forms (t ∷ subs) s text rest (after, first, more) is = (first.0, subs-forms subs s after rest more is)

-- the subscripts have their forms
pub parts-forms : (name text rest : List ℕ) (subs : List Sub) → ReadsParts name subs text rest → AllByRecursion HasForm subs
parts-forms name text rest subs (inl (none, is)) = subst (λ (l : List Sub). AllByRecursion HasForm l) (sym none) tt
parts-forms name text rest subs (inr behind) =
    subst (λ (l : List Sub). AllByRecursion HasForm l) (sym behind.last.5) (subs-forms behind.last.0 behind.last.1 behind.last.3.listed.0 behind.last.2 behind.last.3.listed.1 behind.last.4.0)

-- and the key is within its limit
pub parts-limit : (name text rest : List ℕ) (subs : List Sub) → ReadsParts name subs text rest → key_length name subs ≤ 500
parts-limit name text rest subs (inl (none, (is, e, n))) = omega (arith, name-short name is, ap (λ l. subs_size l) none)
parts-limit name text rest subs (inr behind) = behind.within

-- where no subscript is empty, so is the node's key
pub key-within : (node : Node) → key_length node.name node.subs ≤ 500 → (HasEmpty node.subs → ⊥) → IsWithinLimit (key_of node)
unfolding key_of
key-within node h full = omega (arith, h, full-subs node.subs full, length-append node.name (0 ∷ subs_bytes node.subs))

-- some subscript is empty, or none
pub empty-or-full : (subs : List Sub) → HasEmpty subs ⊎ (HasEmpty subs → ⊥)
empty-or-full [] = inr (λ e. e)
empty-or-full (Text [] ∷ subs) = inl (inl refl)
empty-or-full (Num d ∷ subs) = elim (empty-or-full subs) [
  | inl some ↦ inl (inr some)
  | inr none ↦ inr (either none)
]
  where
    either : (HasEmpty subs → ⊥) → HasEmpty (Num d ∷ subs) → ⊥
    either none (inl e) = cc
    either none (inr some) = none some
empty-or-full (Text (b ∷ text) ∷ subs) = elim (empty-or-full subs) [
  | inl some ↦ inl (inr some)
  | inr none ↦ inr (either none)
]
  where
    either : (HasEmpty subs → ⊥) → HasEmpty (Text (b ∷ text) ∷ subs) → ⊥
    either none (inl e) = cc
    either none (inr some) = none some

-- what is known of the limit of a node that was read
pub key_within : (node : Node) → key_length node.name node.subs ≤ 500 → HasEmpty node.subs ⊎ IsWithinLimit (key_of node)
key_within node h = elim (empty-or-full node.subs) [
  | inl some ↦ inl some
  | inr none ↦ inr (key-within node h none)
]

pub key-length : (node : Node) → IsWithinLimit (key_of node) → key_length node.name node.subs ≤ 500
unfolding key_of
key-length node h = omega (arith, h, low-subs node.subs, length-append node.name (0 ∷ subs_bytes node.subs))
