-- A text that doesn't begin with a node or a value is refused for one fault, and one that does for none.
use Rattle.std.proofs.Common.{◌≡◌, ℕ, ◌≤◌, List, [], ◌∷◌, ◌++◌, length, refl, sym, ap, subst, ◌∙◌, inl, inr, arith, length-append}
use Rattle.std.specs.Prelude.{Option, None, Some}
use Rattle.std.specs.List.{AllByRecursion}
use Rattle.std.proofs.lemmas.List.{same_from_push}
use Rattle.subscript_keys.specs.declared.sub.Sub.{Sub}
use Rattle.subscript_keys.specs.Key.{HasEmpty, IsSub, IsText}
use Rattle.global_text.specs.declared.text_error.TextError.{TextError}
use Rattle.global_text.specs.declared.text_error.TextError.TheVariants.{BadSubscript, Unclosed, KeyTooLong, BadValue, ValueTooLong}
use Rattle.global_text.specs.Nodes.{HasGlobal, ReadsParts}
use Rattle.global_text.specs.Strings.{ReadsString}
use Rattle.global_text.specs.Faults.{HasValueFault, StopsBehind, IsMemory}
use Rattle.global_text.proofs.NodeLaws.{one-node, no-list-fault, string-no-end}
use Rattle.global_text.proofs.OneFault.{one-list-fault, one-value-fault}
use Rattle.global_text.proofs.StringLaws.{one-string, value-no-fault}
use Rattle.global_text.proofs.StopLaws.{BeginsNamed, one-named, named-some, named-caret, named-good, parts-named, one-long}
use Rattle.app_job.specs.Sites.{Site}
use Rattle.job_script.specs.declared.declared.Declared.{Declared}
use Rattle.job_script.specs.declared.line_fault.LineFault.{LineFault}
use Rattle.job_script.specs.declared.line_fault.LineFault.TheVariants.{Bad, Unknown as UnknownName, Memory}
use Rattle.job_script.specs.declared.line_kind.LineKind.TheVariants.{Unknown, Node, Key, NoSub, NoValue, Value, Long, Words}
use Rattle.job_script.specs.Names.{server_of}
use Rattle.job_script.specs.Parts.{ANode, ANext, AValue, TakesPart}
use Rattle.job_script.specs.Refusals.{IsMemoryFault, IsDeclared, HasBadNode, HasUnknownGlobal, HasLongKey, HasEmptyFront, RefusesNode, RefusesNext, RefusesValue}
use Rattle.job_script.specs.Words.{IsWordEnd}
use Rattle.job_script.proofs.FaultLaws.{AreOne, Causes, Apart, one-cause, no-cause}

-- the parts of a node that a text begins with are one
one-parts : (name other text rest behind : List ℕ) (subs ts : List Sub) → ReadsParts name subs text rest → ReadsParts other ts text behind → (name ≡ other) × (subs ≡ ts) × (rest ≡ behind)
one-parts name other text rest behind subs ts p q =
    let same = one-node (record { name = name; subs = subs }) (record { name = other; subs = ts }) text rest behind p q in
    (ap (λ n. n.name) same.0, ap (λ n. n.subs) same.0, same.1)

has-named : (name text : List ℕ) → HasGlobal name text → BeginsNamed name text
has-named name text is = (is.rest, is.named, is.whole, is.stands)

-- a node's list that is read doesn't stop
no-stop : (name other text rest : List ℕ) (subs ts : List Sub) (error : TextError) → (IsMemory error → ⊥) → ReadsParts name subs text rest → StopsBehind text other ts error → ⊥
no-stop name other text rest subs ts error want read stop = want (no-list-fault name text rest subs error read (other, ts, stop))

-- two faults of a list are one
stops-apart : (text name other : List ℕ) (subs ts : List Sub) (error fault : TextError) → (IsMemory error → ⊥) → (IsMemory fault → ⊥) → (error ≡ fault → ⊥) → StopsBehind text name subs error → StopsBehind text other ts fault → ⊥
stops-apart text name other subs ts error fault n m k p q = elim (one-list-fault text error fault (name, subs, p) (other, ts, q)) [
  | inl h ↦ n h
  | inr (inl h) ↦ m h
  | inr (inr h) ↦ k h
]

-- a declared global is no undeclared one
declared-known : (d : Declared) (name text : List ℕ) → IsDeclared d name text → HasUnknownGlobal d text → ⊥
declared-known d name text p (other, has, none) =
    p.1 (ap (λ n. server_of d.globals n) (one-named name other text (has-named name text p.0) (has-named other text has)) ∙ none)

bad-known : (d : Declared) (BadSubs : List Sub → Type 0) (text : List ℕ) → HasBadNode d BadSubs text → HasUnknownGlobal d text → ⊥
bad-known d BadSubs text (inl caret) (other, has, none) = named-caret other text (has-named other text has) caret
bad-known d BadSubs text (inr (inl name)) (other, has, none) = named-good other text (has-named other text has) name
bad-known d BadSubs text (inr (inr (name, subs, declared, fault))) q = declared-known d name text declared q

bad-long : (d : Declared) (BadSubs : List Sub → Type 0) (text : List ℕ) → HasBadNode d BadSubs text → HasLongKey d text → ⊥
bad-long d BadSubs text (inl caret) (other, ts, known, stop, full) = named-caret other text (has-named other text known.0) caret
bad-long d BadSubs text (inr (inl name)) (other, ts, known, stop, full) = named-good other text (has-named other text known.0) name
bad-long d BadSubs text (inr (inr (name, subs, declared, inl fault))) (other, ts, known, stop, full) =
    stops-apart text name other subs ts BadSubscript KeyTooLong (λ h. h) (λ h. h) (λ e. cc) fault stop
bad-long d BadSubs text (inr (inr (name, subs, declared, inr (inl fault)))) (other, ts, known, stop, full) =
    stops-apart text name other subs ts Unclosed KeyTooLong (λ h. h) (λ h. h) (λ e. cc) fault stop
bad-long d BadSubs text (inr (inr (name, subs, declared, inr (inr (inl fault))))) (other, ts, known, stop, full) =
    full (subst HasEmpty (one-long text name other subs ts fault.0 stop) fault.1)
bad-long d BadSubs text (inr (inr (name, subs, declared, inr (inr (inr (rest, read, fault)))))) (other, ts, known, stop, full) =
    no-stop name other text rest subs ts KeyTooLong (λ h. h) read stop

-- a node of a declared global whose subscripts may stand is not bad
read-no-bad : (d : Declared) (BadSubs : List Sub → Type 0) (name text behind : List ℕ) (subs : List Sub) → ReadsParts name subs text behind → (BadSubs subs → ⊥) → IsWordEnd behind → HasBadNode d BadSubs text → ⊥
read-no-bad d BadSubs name text behind subs read good end (inl caret) = named-caret name text (parts-named name text behind subs read) caret
read-no-bad d BadSubs name text behind subs read good end (inr (inl bad)) = named-good name text (parts-named name text behind subs read) bad
read-no-bad d BadSubs name text behind subs read good end (inr (inr (other, ts, declared, inl fault))) =
    no-stop name other text behind subs ts BadSubscript (λ h. h) read fault
read-no-bad d BadSubs name text behind subs read good end (inr (inr (other, ts, declared, inr (inl fault)))) =
    no-stop name other text behind subs ts Unclosed (λ h. h) read fault
read-no-bad d BadSubs name text behind subs read good end (inr (inr (other, ts, declared, inr (inr (inl fault))))) =
    no-stop name other text behind subs ts KeyTooLong (λ h. h) read fault.0
read-no-bad d BadSubs name text behind subs read good end (inr (inr (other, ts, declared, inr (inr (inr (rest, also, fault)))))) =
    let same = one-parts name other text behind rest subs ts read also in
    elim fault [
      | inl bad ↦ good (subst BadSubs (sym same.1) bad)
      | inr goes ↦ goes (subst IsWordEnd same.2 end)
    ]

read-no-unknown : (d : Declared) (name text behind : List ℕ) (subs : List Sub) (server : ℕ) → ReadsParts name subs text behind → server_of d.globals name ≡ Some server → HasUnknownGlobal d text → ⊥
read-no-unknown d name text behind subs server read known (other, has, none) =
    let same = one-named name other text (parts-named name text behind subs read) (has-named other text has) in
    let both : Some server ≡ None = sym known ∙ ap (λ n. server_of d.globals n) same ∙ none in
    cc

read-no-long : (d : Declared) (name text behind : List ℕ) (subs : List Sub) → ReadsParts name subs text behind → HasLongKey d text → ⊥
read-no-long d name text behind subs read (other, ts, known, stop, full) = no-stop name other text behind subs ts KeyTooLong (λ h. h) read stop

read-some : (name text behind : List ℕ) (subs : List Sub) → ReadsParts name subs text behind → text ≡ [] → ⊥
read-some name text behind subs read e = named-some name (subst (λ (t : List ℕ). BeginsNamed name t) e (parts-named name text behind subs read))

long-some : (d : Declared) (text : List ℕ) → text ≡ [] → HasLongKey d text → ⊥
long-some d text e (name, subs, known, stop, full) = named-some name (subst (λ (t : List ℕ). BeginsNamed name t) e (has-named name text known.0))

unknown-some : (d : Declared) (text : List ℕ) → text ≡ [] → HasUnknownGlobal d text → ⊥
unknown-some d text e (name, has, none) = named-some name (subst (λ (t : List ℕ). BeginsNamed name t) e (has-named name text has))

-- nodes
node-causes : (d : Declared) (text : List ℕ) (fault : LineFault) → RefusesNode d text fault → Causes (RefusesNode d text) (Bad Words) (Bad Node) UnknownName (Bad Key) (Bad Unknown) fault
node-causes d text (Bad Words) h = inl (h, refl)
node-causes d text (Bad Node) h = inr (inl (h, refl))
node-causes d text UnknownName h = inr (inr (inl (h, refl)))
node-causes d text (Bad Key) h = inr (inr (inr (inl (h, refl))))
node-causes d text (Memory error) h = inr (inr (inr (inr (inr tt))))
node-causes d text fault h = absurd h

node-apart : (d : Declared) (text : List ℕ) → Apart (RefusesNode d text) (Bad Words) (Bad Node) UnknownName (Bad Key) (Bad Unknown)
node-apart d text = record {
  ab = λ p q. q.0 p;
  ac = λ p q. unknown-some d text p q;
  ad = λ p q. long-some d text p q;
  ae = λ p q. q;
  bc = λ p q. bad-known d HasEmpty text p.1 q;
  bd = λ p q. bad-long d HasEmpty text p.1 q;
  be = λ p q. q;
  cd = λ p q. declared-known d q.0 text q.2 p;
  ce = λ p q. q;
  de = λ p q. q;
}

pub one-node-refusal : (d : Declared) (text : List ℕ) (fault other : LineFault) → RefusesNode d text fault → RefusesNode d text other → AreOne fault other
one-node-refusal d text fault other p q = one-cause (RefusesNode d text) (Bad Words) (Bad Node) UnknownName (Bad Key) (Bad Unknown) fault other (node-apart d text) (node-causes d text fault p) (node-causes d text other q)

-- no subscript of a node is empty
pub no-empty : (subs : List Sub) → AllByRecursion IsSub subs → HasEmpty subs → ⊥
no-empty [] all h = h
no-empty (s ∷ subs) all (inl e) = let is : IsText [] = subst IsSub e all.0 in is.some refl
no-empty (s ∷ subs) all (inr h) = no-empty subs all.1 h

pub node-taken : (d : Declared) (site : Site) (text rest : List ℕ) (fault : LineFault) → TakesPart d (ANode site) text rest → RefusesNode d text fault → IsMemoryFault fault
node-taken d site text rest fault (behind, read, is, known, ends) h = no-cause (RefusesNode d text) (Bad Words) (Bad Node) UnknownName (Bad Key) (Bad Unknown) fault
    (λ p. read-some site.node.name text behind site.node.subs read p)
    (λ p. read-no-bad d HasEmpty site.node.name text behind site.node.subs read (no-empty site.node.subs is.node.subs) ends.end p.1)
    (λ p. read-no-unknown d site.node.name text behind site.node.subs site.server read known p)
    (λ p. read-no-long d site.node.name text behind site.node.subs read p)
    (λ p. p)
    (node-causes d text fault h)

-- nexts
next-causes : (d : Declared) (text : List ℕ) (fault : LineFault) → RefusesNext d text fault → Causes (RefusesNext d text) (Bad Words) (Bad Node) UnknownName (Bad Key) (Bad NoSub) fault
next-causes d text (Bad Words) h = inl (h, refl)
next-causes d text (Bad Node) h = inr (inl (h, refl))
next-causes d text UnknownName h = inr (inr (inl (h, refl)))
next-causes d text (Bad Key) h = inr (inr (inr (inl (h, refl))))
next-causes d text (Bad NoSub) h = inr (inr (inr (inr (inl (h, refl)))))
next-causes d text (Memory error) h = inr (inr (inr (inr (inr tt))))
next-causes d text fault h = absurd h

some-last : (front : List Sub) (last : Sub) → [] ≡ front ++ last ∷ [] → ⊥
some-last [] last e = cc
some-last (s ∷ front) last e = cc

none-no-front : HasEmptyFront [] → ⊥
none-no-front (front, last, e, h) = some-last front last e

next-apart : (d : Declared) (text : List ℕ) → Apart (RefusesNext d text) (Bad Words) (Bad Node) UnknownName (Bad Key) (Bad NoSub)
next-apart d text = record {
  ab = λ p q. q.0 p;
  ac = λ p q. unknown-some d text p q;
  ad = λ p q. long-some d text p q;
  ae = λ p q. read-some q.0 text q.1 [] q.3 p;
  bc = λ p q. bad-known d HasEmptyFront text p.1 q;
  bd = λ p q. bad-long d HasEmptyFront text p.1 q;
  be = λ p q. read-no-bad d HasEmptyFront q.0 text q.1 [] q.3 none-no-front q.4 p.1;
  cd = λ p q. declared-known d q.0 text q.2 p;
  ce = λ p q. declared-known d q.0 text q.2 p;
  de = λ p q. read-no-long d q.0 text q.1 [] q.3 p;
}

pub one-next-refusal : (d : Declared) (text : List ℕ) (fault other : LineFault) → RefusesNext d text fault → RefusesNext d text other → AreOne fault other
one-next-refusal d text fault other p q = one-cause (RefusesNext d text) (Bad Words) (Bad Node) UnknownName (Bad Key) (Bad NoSub) fault other (next-apart d text) (next-causes d text fault p) (next-causes d text other q)

no-empty-front : (subs : List Sub) (last : Sub) → AllByRecursion IsSub subs → HasEmptyFront (subs ++ last ∷ []) → ⊥
no-empty-front subs last all (front, other, e, h) = no-empty subs all (subst HasEmpty (sym (same_from_push subs front last other e).0) h)

pub next-taken : (d : Declared) (parent : Site) (sub : Option Sub) (text rest : List ℕ) (fault : LineFault) → TakesPart d (ANext parent sub) text rest → RefusesNext d text fault → IsMemoryFault fault
next-taken d parent sub text rest fault (last, behind, read, asks, is, known, ends) h = no-cause (RefusesNext d text) (Bad Words) (Bad Node) UnknownName (Bad Key) (Bad NoSub) fault
    (λ p. read-some parent.node.name text behind (parent.node.subs ++ last ∷ []) read p)
    (λ p. read-no-bad d HasEmptyFront parent.node.name text behind (parent.node.subs ++ last ∷ []) read (no-empty-front parent.node.subs last is.node.subs) ends.end p.1)
    (λ p. read-no-unknown d parent.node.name text behind (parent.node.subs ++ last ∷ []) parent.server read known p)
    (λ p. read-no-long d parent.node.name text behind (parent.node.subs ++ last ∷ []) read p)
    (λ p. some-last parent.node.subs last (one-parts p.0 parent.node.name text p.1 behind [] (parent.node.subs ++ last ∷ []) p.3 read).1)
    (next-causes d text fault h)

-- values
value-causes : (text : List ℕ) (fault : LineFault) → RefusesValue text fault → Causes (RefusesValue text) (Bad NoValue) (Bad Value) (Bad Long) (Bad Unknown) (Bad Unknown) fault
value-causes text (Bad NoValue) h = inl (h, refl)
value-causes text (Bad Value) h = inr (inl (h, refl))
value-causes text (Bad Long) h = inr (inr (inl (h, refl)))
value-causes text (Memory error) h = inr (inr (inr (inr (inr tt))))
value-causes text fault h = absurd h

value-faults-apart : (text : List ℕ) (error fault : TextError) → (IsMemory error → ⊥) → (IsMemory fault → ⊥) → (error ≡ fault → ⊥) → HasValueFault text error → HasValueFault text fault → ⊥
value-faults-apart text error fault n m k p q = elim (one-value-fault text error fault p q) [
  | inl h ↦ n h
  | inr (inl h) ↦ m h
  | inr (inr h) ↦ k h
]

value-long : (text : List ℕ) → RefusesValue text (Bad Value) → HasValueFault text ValueTooLong → ⊥
value-long text (some, inl bad) long = value-faults-apart text BadValue ValueTooLong (λ h. h) (λ h. h) (λ e. cc) bad long
value-long text (some, inr (inl goes)) long = value-faults-apart text Unclosed ValueTooLong (λ h. h) (λ h. h) (λ e. cc) goes long
value-long text (some, inr (inr (value, rest, read, short, end))) long = value-no-fault value text rest ValueTooLong read short long

no-long-value : (text : List ℕ) → text ≡ [] → HasValueFault text ValueTooLong → ⊥
no-long-value text e (string, rest, inl (is, k, n), long) = absurd (omega (arith, ap length (sym e ∙ k), length-append string rest))
no-long-value text e (string, rest, inr (items, are, k), long) = let none : [] ≡ 34 ∷ (items ++ rest) = sym e ∙ k in cc

value-apart : (text : List ℕ) → Apart (RefusesValue text) (Bad NoValue) (Bad Value) (Bad Long) (Bad Unknown) (Bad Unknown)
value-apart text = record {
  ab = λ p q. q.0 p;
  ac = λ p q. no-long-value text p q;
  ad = λ p q. q;
  ae = λ p q. q;
  bc = λ p q. value-long text p q;
  bd = λ p q. q;
  be = λ p q. q;
  cd = λ p q. q;
  ce = λ p q. q;
  de = λ p q. q;
}

pub one-value-refusal : (text : List ℕ) (fault other : LineFault) → RefusesValue text fault → RefusesValue text other → AreOne fault other
one-value-refusal text fault other p q = one-cause (RefusesValue text) (Bad NoValue) (Bad Value) (Bad Long) (Bad Unknown) (Bad Unknown) fault other (value-apart text) (value-causes text fault p) (value-causes text other q)

string-some : (value rest : List ℕ) → ReadsString value [] rest → ⊥
string-some value rest read = string-no-end value [] rest read tt

value-fits : (value text behind : List ℕ) → ReadsString value text behind → length value ≤ 3000 → IsWordEnd behind → RefusesValue text (Bad Value) → ⊥
value-fits value text behind read short end (some, inl bad) = value-no-fault value text behind BadValue read short bad
value-fits value text behind read short end (some, inr (inl goes)) = value-no-fault value text behind Unclosed read short goes
value-fits value text behind read short end (some, inr (inr (other, rest, also, small, goes))) =
    goes (subst IsWordEnd (one-string value other text behind rest read also).1 end)

pub value-taken : (d : Declared) (value text rest : List ℕ) (fault : LineFault) → TakesPart d (AValue value) text rest → RefusesValue text fault → IsMemoryFault fault
value-taken d value text rest fault (behind, read, short, ends) h = no-cause (RefusesValue text) (Bad NoValue) (Bad Value) (Bad Long) (Bad Unknown) (Bad Unknown) fault
    (λ p. string-some value behind (subst (λ (t : List ℕ). ReadsString value t behind) p read))
    (λ p. value-fits value text behind read short ends.end p)
    (λ p. value-no-fault value text behind ValueTooLong read short p)
    (λ p. p)
    (λ p. p)
    (value-causes text fault h)
