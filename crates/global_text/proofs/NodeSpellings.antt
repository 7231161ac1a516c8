-- What was read of a node is a spelling of its own, and what is printed is read back.
use Rattle.std.proofs.Common.{◌≡◌, ℕ, ◌≤◌, List, [], ◌∷◌, ◌++◌, refl, sym, ap, subst, ◌∙◌, inl, inr, arith, append_assoc}
use Rattle.std.specs.Prelude.{◌==◌}
use Rattle.std.specs.List.{AllByRecursion}
use Rattle.std.proofs.lemmas.Bool.{false≢true}
use Rattle.std.proofs.lemmas.List.{append-nil}
use Rattle.subscript_keys.specs.declared.sub.Sub.{Sub}
use Rattle.subscript_keys.specs.declared.sub.Sub.TheVariants.{Num, Text}
use Rattle.subscript_keys.specs.declared.node.Node.{Node}
use Rattle.subscript_keys.specs.Decimal.{decimal_text}
use Rattle.subscript_keys.specs.Key.{HasForm, IsName}
use Rattle.subscript_keys.proofs.NumberTexts.{text_is_canonical}
use Rattle.global_text.specs.Numbers.{BeginsOtherwise, is_number_byte}
use Rattle.global_text.specs.Strings.{ReadsString}
use Rattle.global_text.specs.Nodes.{subs_size, sub_string, extends_name, ReadsSub, ReadsSubs, key_length, ReadsParts, ReadsNode, sub_text, more_subs_text, subs_text, node_text, HasBytes}
use Rattle.global_text.proofs.NumberSpellings.{number-of-any}
use Rattle.global_text.proofs.PrintedReads.{quoted-read}
use Rattle.global_text.proofs.KeyLengths.{subs-size}

-- a string that ends at a byte, whatever follows that byte
abbrev EndsAt : List ℕ → List ℕ → ℕ → Type 0
EndsAt s front c = (more : List ℕ) → ReadsString s (front ++ c ∷ more) (c ∷ more)

string-cut : (s text rest : List ℕ) (c : ℕ) → ReadsString s text (c ∷ rest) → (front : List ℕ) × (text ≡ front ++ c ∷ rest) × EndsAt s front c
string-cut s text rest c (inl (is, e, n)) = (s, e, λ more. inl (is, refl, n))
string-cut s text rest c (inr ((items, is, e), n)) = (
  34 ∷ (items ++ 34 ∷ []),
  e ∙ ap (λ x. 34 ∷ x) (sym (append_assoc items (34 ∷ []) (c ∷ rest))),
  λ more. inr ((items, is, ap (λ x. 34 ∷ x) (append_assoc items (34 ∷ []) (c ∷ more))), n),
)

-- subscripts with their commas, whatever follows
abbrev StandsFor : List Sub → List ℕ → Type 0
StandsFor subs front = (more : List ℕ) → ReadsSubs subs (front ++ more) more

subs-cut : (subs : List Sub) (text rest : List ℕ) → ReadsSubs subs text rest → (front : List ℕ) × (text ≡ front ++ rest) × StandsFor subs front
subs-cut [] text rest e = ([], e, λ more. refl)
subs-cut (s ∷ subs) text rest (after, first, more) =
    let one = string-cut (sub_string s) text after 44 first.1 in
    let others = subs-cut subs after rest more in (
      one.0 ++ 44 ∷ others.0,
      one.1 ∙ ap (λ x. one.0 ++ 44 ∷ x) others.1 ∙ sym (append_assoc one.0 (44 ∷ others.0) rest),
      λ more. (others.0 ++ more, (first.0, subst (λ (t : List ℕ). ReadsString (sub_string s) t (44 ∷ (others.0 ++ more))) (sym (append_assoc one.0 (44 ∷ others.0) more)) (one.2 (others.0 ++ more))), others.2 more),
    )

-- what was read of a node stands in front as a spelling of its own
pub node-spelling : (node : Node) (text rest : List ℕ) → ReadsNode node text rest → (spelled : List ℕ) × (text ≡ spelled ++ rest) × ReadsNode node spelled []
node-spelling node text rest (inl (none, (is, e, n))) = (94 ∷ node.name, e, inl (none, (is, ap (λ x. 94 ∷ x) (sym (append-nil node.name)), tt)))
node-spelling node text rest (inr read) =
    let here = read.last.3 in
    let some = subs-cut read.last.0 here.listed.0 read.last.2 here.listed.1 in
    let one = string-cut (sub_string read.last.1) read.last.2 rest 41 read.last.4.1 in
    let list : List ℕ = some.0 ++ (one.0 ++ 41 ∷ []) in (
      94 ∷ (node.name ++ 40 ∷ list),
      here.listed.2 ∙ ap (λ x. 94 ∷ (node.name ++ 40 ∷ x)) (some.1 ∙ ap (λ x. some.0 ++ x) one.1)
          ∙ ap (λ x. 94 ∷ x) (ap (λ x. node.name ++ 40 ∷ x) (ap (λ x. some.0 ++ x) (sym (append_assoc one.0 (41 ∷ []) rest)) ∙ sym (append_assoc some.0 (one.0 ++ 41 ∷ []) rest)) ∙ sym (append_assoc node.name (40 ∷ list) rest)),
      inr record {
        last = (read.last.0, read.last.1, one.0 ++ 41 ∷ [], record { named = here.named; listed = (list, some.2 (one.0 ++ 41 ∷ []), refl); within = here.within }, (read.last.4.0, one.2 []), read.last.5);
        within = read.within;
      },
    )

-- a printed subscript is read, where neither a quote nor a byte of a number follows
sub-read : (s : Sub) (rest : List ℕ) → HasForm s → HasBytes s → BeginsOtherwise (λ b. b == 34) rest → BeginsOtherwise is_number_byte rest → ReadsSub s (sub_text s ++ rest) rest
sub-read (Num d) rest p q n m = (p, inl (number-of-any (decimal_text d) (text_is_canonical d p), refl, m))
sub-read (Text t) rest p q n m = (p, quoted-read t rest q n)

-- printed subscripts up to the closing parenthesis, the last one apart
record Printed (s : Sub) (subs : List Sub) (rest : List ℕ) : Type 0 where
  front : List Sub
  last : Sub
  place : List ℕ
  read : ReadsSubs front (sub_text s ++ (more_subs_text subs ++ 41 ∷ rest)) place
  closed : ReadsSub last place (41 ∷ rest)
  all : s ∷ subs ≡ front ++ last ∷ []

list-read : (s : Sub) (subs : List Sub) (rest : List ℕ) → AllByRecursion HasForm (s ∷ subs) → AllByRecursion HasBytes (s ∷ subs) → Printed s subs rest
list-read s [] rest p q = record {
  front = [];
  last = s;
  place = sub_text s ++ 41 ∷ rest;
  read = refl;
  closed = sub-read s (41 ∷ rest) p.0 q.0 (λ t. false≢true t) (λ t. false≢true t);
  all = refl;
}
list-read s (t ∷ subs) rest p q =
    let others = list-read t subs rest p.1 q.1 in
    let after : List ℕ = sub_text t ++ (more_subs_text subs ++ 41 ∷ rest) in
    let comma : more_subs_text (t ∷ subs) ++ 41 ∷ rest ≡ 44 ∷ after = ap (λ x. 44 ∷ x) (append_assoc (sub_text t) (more_subs_text subs) (41 ∷ rest)) in
    record {
      front = s ∷ others.front;
      last = others.last;
      place = others.place;
      read = (after, subst (λ (x : List ℕ). ReadsSub s (sub_text s ++ x) (44 ∷ after)) (sym comma) (sub-read s (44 ∷ after) p.0 q.0 (λ e. false≢true e) (λ e. false≢true e)), others.read);
      closed = others.closed;
      all = ap (λ l. s ∷ l) others.all;
    }

-- a printed node is read back
pub printed-node : (node : Node) (rest : List ℕ) → IsName node.name → AllByRecursion HasForm node.subs → AllByRecursion HasBytes node.subs → key_length node.name node.subs ≤ 500 → BeginsOtherwise extends_name rest → ReadsNode node (node_text node ++ rest) rest
printed-node node rest is forms bytes within n = printed node.name node.subs rest is forms bytes within n
  where
    printed : (name : List ℕ) (subs : List Sub) (rest : List ℕ) → IsName name → AllByRecursion HasForm subs → AllByRecursion HasBytes subs → key_length name subs ≤ 500 → BeginsOtherwise extends_name rest → ReadsParts name subs ((94 ∷ (name ++ subs_text subs)) ++ rest) rest
    printed name [] rest is forms bytes within n = inl (refl, (is, ap (λ x. 94 ∷ (x ++ rest)) (append-nil name), n))
    printed name (s ∷ subs) rest is forms bytes within n =
        let read = list-read s subs rest forms bytes in
        let list : List ℕ = sub_text s ++ (more_subs_text subs ++ 41 ∷ rest) in
        let whole : (94 ∷ (name ++ subs_text (s ∷ subs))) ++ rest ≡ 94 ∷ (name ++ 40 ∷ list) =
        ap (λ x. 94 ∷ x) (append_assoc name (40 ∷ (sub_text s ++ (more_subs_text subs ++ 41 ∷ []))) rest ∙ ap (λ x. name ++ 40 ∷ x) (append_assoc (sub_text s) (more_subs_text subs ++ 41 ∷ []) rest ∙ ap (λ x. sub_text s ++ x) (append_assoc (more_subs_text subs) (41 ∷ []) rest))) in
        inr record {
          last = (read.front, read.last, read.place, record { named = is; listed = (list, read.read, whole); within = omega (arith, within, ap (λ l. subs_size l) read.all, subs-size read.front read.last) }, read.closed, read.all);
          within = within;
        }
