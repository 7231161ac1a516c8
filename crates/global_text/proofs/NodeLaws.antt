-- A text begins with one node at most, and a node that is read is refused by no fault.
use Rattle.std.proofs.Common.{◌≡◌, ◌⊎◌, ℕ, ◌+◌, ◌≤◌, Bool, true, false, List, [], ◌∷◌, ◌++◌, length, refl, sym, ap, subst, ◌∙◌, inl, inr, arith, length-append}
use Rattle.std.specs.Prelude.{◌||◌, ◌==◌}
use Rattle.std.specs.Char.{is_ascii_alphanumeric}
use Rattle.std.proofs.lemmas.Bool.{false≢true}
use Rattle.std.proofs.Math.Nat.{add-zero}
use Rattle.subscript_keys.specs.declared.node.Node.{Node}
use Rattle.subscript_keys.specs.declared.sub.Sub.{Sub}
use Rattle.subscript_keys.specs.declared.sub.Sub.TheVariants.{Num, Text}
use Rattle.subscript_keys.specs.Decimal.{IsNumberText}
use Rattle.subscript_keys.specs.Key.{HasForm, IsName}
use Rattle.subscript_keys.proofs.NumberTexts.{one-number, text_is_canonical}
use Rattle.global_text.specs.declared.text_error.TextError.{TextError}
use Rattle.global_text.specs.declared.text_error.TextError.TheVariants.{NoCaret, BadName, BadSubscript, Unclosed, KeyTooLong, BadValue, ValueTooLong, Memory}
use Rattle.global_text.specs.Numbers.{BeginsOtherwise, is_number_byte}
use Rattle.global_text.specs.declared.room.Room.TheVariants.{Sub as SubRoom}
use Rattle.global_text.specs.Strings.{ReadsString, IsLineEnd}
use Rattle.global_text.specs.Nodes.{sub_string, sub_size, subs_size, extends_name, ReadsSub, ReadsSubs, key_length, ReadsParts, ReadsNode}
use Rattle.global_text.specs.Faults.{HasSubFault, HasMarkFault, HasListFault, HasNodeFault, IsMemory}
use Rattle.global_text.proofs.ItemLaws.{apart}
use Rattle.global_text.proofs.NumberTokens.{one-span, number-bytes, number-some}
use Rattle.global_text.proofs.StringLaws.{one-string, read-is-closed, read-is-good, read-is-short}
use Rattle.global_text.proofs.NodeParts.{name-every}
use Rattle.global_text.proofs.RoomLaws.{sub-room}

one-form : (a b : Sub) → HasForm a → HasForm b → sub_string a ≡ sub_string b → a ≡ b
one-form (Num a) (Num b) p q e = ap Num (one-number a b p q e)
one-form (Num a) (Text t) p q e = absurd (q (subst IsNumberText e (text_is_canonical a p)))
one-form (Text s) (Num b) p q e = absurd (p (subst IsNumberText (sym e) (text_is_canonical b q)))
one-form (Text s) (Text t) p q e = ap Text e

-- the subscript that a text begins with is one
pub one-sub : (a b : Sub) (text r q : List ℕ) → ReadsSub a text r → ReadsSub b text q → (a ≡ b) × (r ≡ q)
one-sub a b text r q (p, is) (o, it) =
    let same = one-string (sub_string a) (sub_string b) text r q is it in
    (one-form a b p o same.0, same.1)

-- a string doesn't begin where the line ends
pub string-no-end : (s text rest : List ℕ) → ReadsString s text rest → IsLineEnd text → ⊥
string-no-end s [] rest (inl (is, e, n)) end = absurd (omega (arith, number-some s is, ap length e, length-append s rest))
string-no-end [] (c ∷ text) rest (inl (is, e, n)) end = absurd (omega (arith, number-some [] is))
string-no-end (b ∷ s) (c ∷ text) rest (inl (is, e, n)) end =
    let first : b ≡ 10 = let same : c ≡ b = cc in sym same ∙ end in
    false≢true (subst (λ (x : ℕ). is_number_byte x ≡ true) first (number-bytes (b ∷ s) is).0)
string-no-end s [] rest (inr ((items, is, e), n)) end = cc
string-no-end s (c ∷ text) rest (inr ((items, is, e), n)) end = let first : c ≡ 34 = cc in absurd (omega arith)

-- a subscript that is read, and for which the key has room, has no fault
pub sub-no-fault : (key : ℕ) (s : Sub) (text rest : List ℕ) (error : TextError) → ReadsSub s text rest → key + sub_size s ≤ 500 → HasSubFault key text error → IsMemory error
sub-no-fault key s text rest Unclosed (p, is) h (inl end) = string-no-end (sub_string s) text rest is end
sub-no-fault key s text rest Unclosed (p, is) h (inr fault) = read-is-closed (SubRoom key) (sub_string s) text rest is fault
sub-no-fault key s text rest BadSubscript (p, is) h fault = read-is-good (SubRoom key) (sub_string s) text rest is fault.1
sub-no-fault key s text rest KeyTooLong (p, is) h (inl fault) = read-is-short (SubRoom key) (sub_string s) text rest is (sub-room key s p h) fault
sub-no-fault key s text rest KeyTooLong (p, is) h (inr (t, q, it, long)) =
    absurd (omega (arith, ap (λ x. sub_size x) (one-sub s t text rest q (p, is) it).0))
sub-no-fault key s text rest (Memory error) is h fault = tt
sub-no-fault key s text rest NoCaret is h fault = fault
sub-no-fault key s text rest BadName is h fault = fault
sub-no-fault key s text rest BadValue is h fault = fault
sub-no-fault key s text rest ValueTooLong is h fault = fault

comma-no-close : (a b : List ℕ) → 44 ∷ a ≡ 41 ∷ b → ⊥
comma-no-close a b e = apart 44 41 (44 ∷ a) a b refl e (λ h. omega arith)

-- subscripts up to a closing parenthesis, and a fault before one of them
list-no-fault : (key : ℕ) (front subs : List Sub) (last : Sub) (list place rest at : List ℕ) (error : TextError) → ReadsSubs front list place → ReadsSub last place (41 ∷ rest) → key + subs_size (front ++ last ∷ []) ≤ 500 → ReadsSubs subs list at → HasSubFault (key + subs_size subs) at error → IsMemory error
list-no-fault key [] [] last list place rest at error p is h q fault =
    sub-no-fault key last at (41 ∷ rest) error (subst (λ (t : List ℕ). ReadsSub last t (41 ∷ rest)) (sym p ∙ q) is) (omega arith) (subst (λ (k : ℕ). HasSubFault k at error) (add-zero key) fault)
list-no-fault key (f ∷ front) [] last list place rest at error (after, first, more) is h q fault =
    sub-no-fault key f at (44 ∷ after) error (subst (λ (t : List ℕ). ReadsSub f t (44 ∷ after)) q first) (omega arith) (subst (λ (k : ℕ). HasSubFault k at error) (add-zero key) fault)
list-no-fault key [] (s ∷ subs) last list place rest at error p is h (after, first, more) fault =
    absurd (comma-no-close after rest (one-sub s last list (44 ∷ after) (41 ∷ rest) first (subst (λ (t : List ℕ). ReadsSub last t (41 ∷ rest)) (sym p) is)).1)
list-no-fault key (f ∷ front) (s ∷ subs) last list place rest at error (after, first, more) is h (next, one, others) fault =
    let same = one-sub f s list (44 ∷ after) (44 ∷ next) first one in
    let tails : after ≡ next = let whole : 44 ∷ after ≡ 44 ∷ next = same.1 in cc in
    list-no-fault (key + sub_size f) front subs last after place rest at error more is
    (omega arith)
    (subst (λ (t : List ℕ). ReadsSubs subs t at) (sym tails) others)
    (subst (λ (k : ℕ). HasSubFault k at error) (omega (arith, ap (λ x. sub_size x) same.0)) fault)

-- a comma or a closing parenthesis is no fault
pub mark-no-fault : (c : ℕ) (rest at : List ℕ) (error : TextError) → at ≡ c ∷ rest → ((c ≡ 41) ⊎ (c ≡ 44)) → HasMarkFault at error → ⊥
mark-no-fault c rest [] error e k fault = cc
mark-no-fault c rest (b ∷ at) Unclosed e k fault =
    let same : c ≡ 10 = let h : b ≡ c = cc in sym h ∙ fault in
    elim k [ inl h ↦ absurd (omega arith) | inr h ↦ absurd (omega arith) ]
mark-no-fault c rest (b ∷ at) BadSubscript e k fault =
    let same : b ≡ c = cc in
    elim k [ inl h ↦ fault.1 (same ∙ h) | inr h ↦ fault.0 (same ∙ h) ]
mark-no-fault c rest (b ∷ at) NoCaret e k fault = fault
mark-no-fault c rest (b ∷ at) BadName e k fault = fault
mark-no-fault c rest (b ∷ at) KeyTooLong e k fault = fault
mark-no-fault c rest (b ∷ at) BadValue e k fault = fault
mark-no-fault c rest (b ∷ at) ValueTooLong e k fault = fault
mark-no-fault c rest (b ∷ at) (Memory error) e k fault = fault

-- and a fault after one of them
list-no-mark : (front subs : List Sub) (last s : Sub) (list place rest at behind : List ℕ) (error : TextError) → ReadsSubs front list place → ReadsSub last place (41 ∷ rest) → ReadsSubs subs list at → ReadsSub s at behind → HasMarkFault behind error → ⊥
list-no-mark [] [] last s list place rest at behind error p is q it fault =
    let same = one-sub s last at behind (41 ∷ rest) it (subst (λ (t : List ℕ). ReadsSub last t (41 ∷ rest)) (sym p ∙ q) is) in
    mark-no-fault 41 rest behind error same.1 (inl refl) fault
list-no-mark (f ∷ front) [] last s list place rest at behind error (after, first, more) is q it fault =
    let same = one-sub s f at behind (44 ∷ after) it (subst (λ (t : List ℕ). ReadsSub f t (44 ∷ after)) q first) in
    mark-no-fault 44 after behind error same.1 (inr refl) fault
list-no-mark [] (x ∷ subs) last s list place rest at behind error p is (after, first, more) it fault =
    comma-no-close after rest (one-sub x last list (44 ∷ after) (41 ∷ rest) first (subst (λ (t : List ℕ). ReadsSub last t (41 ∷ rest)) (sym p) is)).1
list-no-mark (f ∷ front) (x ∷ subs) last s list place rest at behind error (after, first, more) is (next, one, others) it fault =
    let same = one-sub f x list (44 ∷ after) (44 ∷ next) first one in
    let tails : after ≡ next = let whole : 44 ∷ after ≡ 44 ∷ next = same.1 in cc in
    list-no-mark front subs last s after place rest at behind error more is (subst (λ (t : List ℕ). ReadsSubs subs t at) (sym tails) others) it fault

-- subscripts up to a closing parenthesis are read in one way
one-list : (front subs : List Sub) (last s : Sub) (list place rest at behind : List ℕ) → ReadsSubs front list place → ReadsSub last place (41 ∷ rest) → ReadsSubs subs list at → ReadsSub s at (41 ∷ behind) → (front ++ last ∷ [] ≡ subs ++ s ∷ []) × (rest ≡ behind)
one-list [] [] last s list place rest at behind p is q it =
    let same = one-sub last s at (41 ∷ rest) (41 ∷ behind) (subst (λ (t : List ℕ). ReadsSub last t (41 ∷ rest)) (sym p ∙ q) is) it in
    let tails : rest ≡ behind = let whole : 41 ∷ rest ≡ 41 ∷ behind = same.1 in cc in
    (ap (λ x. x ∷ []) same.0, tails)
one-list (f ∷ front) [] last s list place rest at behind (after, first, more) is q it =
    absurd (comma-no-close after behind (one-sub f s at (44 ∷ after) (41 ∷ behind) (subst (λ (t : List ℕ). ReadsSub f t (44 ∷ after)) q first) it).1)
one-list [] (x ∷ subs) last s list place rest at behind p is (after, first, more) it =
    absurd (comma-no-close after rest (one-sub x last list (44 ∷ after) (41 ∷ rest) first (subst (λ (t : List ℕ). ReadsSub last t (41 ∷ rest)) (sym p) is)).1)
one-list (f ∷ front) (x ∷ subs) last s list place rest at behind (after, first, more) is (next, one, others) it =
    let same = one-sub f x list (44 ∷ after) (44 ∷ next) first one in
    let tails : after ≡ next = let whole : 44 ∷ after ≡ 44 ∷ next = same.1 in cc in
    let rest' = one-list front subs last s after place rest at behind more is (subst (λ (t : List ℕ). ReadsSubs subs t at) (sym tails) others) it in
    (ap (λ l. f ∷ l) rest'.0 ∙ ap (λ x. x ∷ (subs ++ s ∷ [])) same.0, rest'.1)

pub paren-ends : (list : List ℕ) → BeginsOtherwise is_ascii_alphanumeric (40 ∷ list)
paren-ends list = λ t. false≢true t

whole-name : (rest : List ℕ) → BeginsOtherwise extends_name rest → BeginsOtherwise is_ascii_alphanumeric rest
whole-name [] n = tt
whole-name (c ∷ rest) n = λ t. n (or_left-true (is_ascii_alphanumeric c) (c == 40) t)
  where
    or_left-true : (x y : Bool) → x ≡ true → (x || y) ≡ true
    or_left-true true y e = refl
    or_left-true false y e = absurd (false≢true e)

no-paren : (rest list : List ℕ) → BeginsOtherwise extends_name rest → rest ≡ 40 ∷ list → ⊥
no-paren [] list n e = cc
no-paren (c ∷ rest) list n e = let h : c ≡ 40 = cc in n (ap extends_name h)

pub one-name : (name other text rest behind : List ℕ) → IsName name → IsName other → BeginsOtherwise is_ascii_alphanumeric rest → BeginsOtherwise is_ascii_alphanumeric behind → text ≡ 94 ∷ (name ++ rest) → text ≡ 94 ∷ (other ++ behind) → (name ≡ other) × (rest ≡ behind)
one-name name other text rest behind is it n m e k =
    let same : name ++ rest ≡ other ++ behind = cc in
    one-span is_ascii_alphanumeric name other rest behind (name-every name is) (name-every other it) n m same

-- a node that is read has no fault in its subscripts
pub no-list-fault : (name text rest : List ℕ) (subs : List Sub) (error : TextError) → ReadsParts name subs text rest → HasListFault text error → IsMemory error
no-list-fault name text rest subs error (inl (none, (is, e, n))) (other, more, (at, inl (before, fault))) =
    absurd (no-paren rest before.listed.0 n (one-name name other text rest (40 ∷ before.listed.0) is before.named (whole-name rest n) (paren-ends before.listed.0) e before.listed.2).1)
no-list-fault name text rest subs error (inl (none, (is, e, n))) (other, more, (at, inr (behind, fault))) =
    let before = behind.last.3 in
    absurd (no-paren rest before.listed.0 n (one-name name other text rest (40 ∷ before.listed.0) is before.named (whole-name rest n) (paren-ends before.listed.0) e before.listed.2).1)
no-list-fault name text rest subs error (inr read) (other, more, (at, inl (before, fault))) =
    let here = read.last.3 in
    let same = one-name name other text (40 ∷ here.listed.0) (40 ∷ before.listed.0) here.named before.named (paren-ends here.listed.0) (paren-ends before.listed.0) here.listed.2 before.listed.2 in
    let lists : before.listed.0 ≡ here.listed.0 = let whole : 40 ∷ here.listed.0 ≡ 40 ∷ before.listed.0 = same.1 in cc in
    list-no-fault (length name + 1) read.last.0 more read.last.1 here.listed.0 read.last.2 rest at error here.listed.1 read.last.4
    (omega (arith, read.within, ap (λ l. subs_size l) read.last.5))
    (subst (λ (t : List ℕ). ReadsSubs more t at) lists before.listed.1)
    (subst (λ (n : List ℕ). HasSubFault (key_length n more) at error) (sym same.0) fault)
no-list-fault name text rest subs error (inr read) (other, more, (at, inr (behind, fault))) =
    let here = read.last.3 in
    let before = behind.last.3 in
    let same = one-name name other text (40 ∷ here.listed.0) (40 ∷ before.listed.0) here.named before.named (paren-ends here.listed.0) (paren-ends before.listed.0) here.listed.2 before.listed.2 in
    let lists : before.listed.0 ≡ here.listed.0 = let whole : 40 ∷ here.listed.0 ≡ 40 ∷ before.listed.0 = same.1 in cc in
    absurd (list-no-mark read.last.0 behind.last.0 read.last.1 behind.last.1 here.listed.0 read.last.2 rest behind.last.2 at error here.listed.1 read.last.4
    (subst (λ (t : List ℕ). ReadsSubs behind.last.0 t behind.last.2) lists before.listed.1) behind.last.4 fault)

pub parts-name : (name text rest : List ℕ) (subs : List Sub) → ReadsParts name subs text rest → (behind : List ℕ) × IsName name × BeginsOtherwise is_ascii_alphanumeric behind × (text ≡ 94 ∷ (name ++ behind))
parts-name name text rest subs (inl (none, (is, e, n))) = (rest, is, whole-name rest n, e)
parts-name name text rest subs (inr read) = (40 ∷ read.last.3.listed.0, read.last.3.named, paren-ends read.last.3.listed.0, read.last.3.listed.2)

pub no-caret : (text rest : List ℕ) → BeginsOtherwise (λ b. b == 94) text → text ≡ 94 ∷ rest → ⊥
no-caret [] rest n e = cc
no-caret (c ∷ text) rest n e = let h : c ≡ 94 = cc in n (ap (λ x. x == 94) h)

-- a node that is read has no fault
pub node-no-fault : (node : Node) (text rest : List ℕ) (error : TextError) → ReadsNode node text rest → HasNodeFault text error → IsMemory error
node-no-fault node text rest NoCaret is fault = let named = parts-name node.name text rest node.subs is in no-caret text (node.name ++ named.0) fault named.3
node-no-fault node text rest BadName is (behind, e, none) =
    let named = parts-name node.name text rest node.subs is in
    none node.name named.0 named.1 named.2 (let same : behind ≡ node.name ++ named.0 = let whole : 94 ∷ behind ≡ 94 ∷ (node.name ++ named.0) = sym e ∙ named.3 in cc in same)
node-no-fault node text rest BadSubscript is fault = no-list-fault node.name text rest node.subs BadSubscript is fault
node-no-fault node text rest Unclosed is fault = no-list-fault node.name text rest node.subs Unclosed is fault
node-no-fault node text rest KeyTooLong is fault = no-list-fault node.name text rest node.subs KeyTooLong is fault
node-no-fault node text rest (Memory error) is fault = tt
node-no-fault node text rest BadValue is fault = fault
node-no-fault node text rest ValueTooLong is fault = fault

same-node : (a b : Node) → a.name ≡ b.name → a.subs ≡ b.subs → a ≡ b
same-node a b e k =
    let by-name : List ℕ → Node = λ n. record { name = n; subs = a.subs } in
    let by-subs : List Sub → Node = λ s. record { name = b.name; subs = s } in
    ap by-name e ∙ ap by-subs k

-- the node that a text begins with is one
pub one-node : (a b : Node) (text r q : List ℕ) → ReadsNode a text r → ReadsNode b text q → (a ≡ b) × (r ≡ q)
one-node a b text r q (inl (none, (is, e, n))) (inl (nothing, (it, k, m))) =
    let same = one-name a.name b.name text r q is it (whole-name r n) (whole-name q m) e k in
    (same-node a b same.0 (none ∙ sym nothing), same.1)
one-node a b text r q (inl (none, (is, e, n))) (inr read) =
    let here = read.last.3 in
    absurd (no-paren r here.listed.0 n (one-name a.name b.name text r (40 ∷ here.listed.0) is here.named (whole-name r n) (paren-ends here.listed.0) e here.listed.2).1)
one-node a b text r q (inr read) (inl (none, (is, e, n))) =
    let here = read.last.3 in
    absurd (no-paren q here.listed.0 n (one-name b.name a.name text q (40 ∷ here.listed.0) is here.named (whole-name q n) (paren-ends here.listed.0) e here.listed.2).1)
one-node a b text r q (inr read) (inr other) =
    let here = read.last.3 in
    let there = other.last.3 in
    let same = one-name a.name b.name text (40 ∷ here.listed.0) (40 ∷ there.listed.0) here.named there.named (paren-ends here.listed.0) (paren-ends there.listed.0) here.listed.2 there.listed.2 in
    let lists : there.listed.0 ≡ here.listed.0 = let whole : 40 ∷ here.listed.0 ≡ 40 ∷ there.listed.0 = same.1 in cc in
    let subs = one-list read.last.0 other.last.0 read.last.1 other.last.1 here.listed.0 read.last.2 r other.last.2 q here.listed.1 read.last.4 (subst (λ (t : List ℕ). ReadsSubs other.last.0 t other.last.2) lists there.listed.1) other.last.4 in
    (same-node a b same.0 (read.last.5 ∙ subs.0 ∙ sym other.last.5), subs.1)
