-- What is read from bytes is bytes.
use Rattle.std.proofs.Common.{◌≡◌, ℕ, ◌<◌, List, [], ◌∷◌, ◌++◌, sym, subst, inl, inr, arith}
use Rattle.std.proofs.lemmas.List.{same_from_push}
use Rattle.subscript_keys.specs.declared.sub.Sub.{Sub}
use Rattle.subscript_keys.specs.declared.sub.Sub.TheVariants.{Num, Text}
use Rattle.subscript_keys.specs.Key.{AreBytes}
use Rattle.subscript_keys.proofs.KeyForms.{bytes-parts}
use Rattle.global_text.specs.Strings.{IsItem, AreItems, ReadsString}
use Rattle.global_text.specs.Nodes.{sub_string, ReadsSub, ReadsSubs, ReadsParts, HasBytes}

item-byte : (b : ℕ) (item : List ℕ) → IsItem b item → AreBytes item → b < 256
item-byte b item (inl (e, k)) p = omega arith
item-byte b item (inr (inl (e, k))) p = omega arith
item-byte b item (inr (inr (inl (small, k)))) p = small
item-byte b item (inr (inr (inr (plain, k)))) p = let first : AreBytes (b ∷ []) = subst AreBytes k p in first.0

items-bytes : (string items : List ℕ) → AreItems string items → AreBytes items → AreBytes string
items-bytes [] items e p = tt
items-bytes (b ∷ string) items (item, more, is, are, e) p =
    let parts = bytes-parts item more (subst AreBytes e p) in
    (item-byte b item is parts.0, items-bytes string more are parts.1)

-- a string and what follows it
pub string-bytes : (string text rest : List ℕ) → ReadsString string text rest → AreBytes text → AreBytes string × AreBytes rest
string-bytes string text rest (inl (is, e, n)) p = bytes-parts string rest (subst AreBytes e p)
string-bytes string text rest (inr ((items, are, e), n)) p =
    let whole : AreBytes (34 ∷ (items ++ 34 ∷ rest)) = subst AreBytes e p in
    let parts = bytes-parts items (34 ∷ rest) whole.1 in
    (items-bytes string items are parts.0, parts.1.1)

subs-bytes-behind : (subs : List Sub) (text rest : List ℕ) → ReadsSubs subs text rest → AreBytes text → AreBytes rest
subs-bytes-behind [] text rest e p = subst AreBytes e p
subs-bytes-behind (s ∷ subs) text rest (after, first, more) p =
    subs-bytes-behind subs after rest more (string-bytes (sub_string s) text (44 ∷ after) first.1 p).1.1

sub-bytes : (s : Sub) (text rest : List ℕ) → ReadsSub s text rest → AreBytes text → HasBytes s
sub-bytes (Num number) text rest is p = tt
sub-bytes (Text string) text rest is p = (string-bytes string text rest is.1 p).0

-- a node's last subscript
pub last-bytes : (name text rest : List ℕ) (subs : List Sub) (last : Sub) → ReadsParts name (subs ++ last ∷ []) text rest → AreBytes text → HasBytes last
last-bytes name text rest subs last (inl (none, is)) p = absurd (some subs last none)
  where
    some : (subs : List Sub) (s : Sub) → subs ++ s ∷ [] ≡ [] → ⊥
    some [] s e = cc
    some (t ∷ subs) s e = cc
last-bytes name text rest subs last (inr read) p =
    let place = read.last.2 in
    let before = read.last.3 in
    let whole : AreBytes (94 ∷ (name ++ 40 ∷ before.listed.0)) = subst AreBytes before.listed.2 p in
    let list = (bytes-parts name (40 ∷ before.listed.0) whole.1).1.1 in
    let here = subs-bytes-behind read.last.0 before.listed.0 place before.listed.1 list in
    subst HasBytes (sym (same_from_push subs read.last.0 last read.last.1 read.last.5).1) (sub-bytes read.last.1 place (41 ∷ rest) read.last.4 here)
