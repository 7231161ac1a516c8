-- A text that doesn't begin with a part of a kind is refused for one fault, and one that does for none.
use Rattle.std.proofs.Common.{◌≡◌, ℕ, ◌<◌, ◌≤◌, ◌^◌, List, [], ◌∷◌, ℤ, refl, sym, ap, subst, ◌∙◌, inl, inr, arith}
use Rattle.std.specs.Prelude.{Option, None, Some, unsigned_abs, codes}
use Rattle.std.specs.Fmt.{decimal, signed_decimal}
use Rattle.std.proofs.lemmas.Bool.{false≢true}
use Rattle.job_script.specs.declared.declared.Declared.{Declared}
use Rattle.job_script.specs.declared.line_fault.LineFault.{LineFault}
use Rattle.job_script.specs.declared.line_fault.LineFault.TheVariants.{Bad, Unknown as UnknownName, Memory}
use Rattle.job_script.specs.declared.line_kind.LineKind.TheVariants.{Unknown, Twice, TooMany, Name, Number, Words}
use Rattle.job_script.specs.declared.name_kind.NameKind.{NameKind}
use Rattle.job_script.specs.declared.setting.Setting.{Setting}
use Rattle.job_script.specs.Names.{IsNodeName, has_name, index_of, server_of, setting_word}
use Rattle.job_script.specs.Parts.{NewName, NewGlobal, OfKind, APick, TakesPart, TakesWait}
use Rattle.job_script.specs.Refusals.{IsMemoryFault, IsGlobal, RefusesNewName, RefusesNewGlobal, RefusesOfKind, RefusesSetting, RefusesNumber, RefusesPick, RefusesAmount, RefusesWait}
use Rattle.job_script.specs.Words.{IsAhead, first_word}
use Rattle.job_script.proofs.WordLaws.{one-ahead, name-some}
use Rattle.job_script.proofs.FaultLaws.{AreOne, Causes, Apart, one-cause, no-cause}

no-name-at-end : (text : List ℕ) → text ≡ [] → IsNodeName (first_word text) → ⊥
no-name-at-end text e is = name-some (subst (λ (t : List ℕ). IsNodeName (first_word t)) e is)

-- new names
new-name-causes : (d : Declared) (k : NameKind) (text : List ℕ) (fault : LineFault) → RefusesNewName d k text fault → Causes (RefusesNewName d k text) (Bad Words) (Bad Name) (Bad Twice) (Bad TooMany) UnknownName fault
new-name-causes d k text (Bad Words) h = inl (h, refl)
new-name-causes d k text (Bad Name) h = inr (inl (h, refl))
new-name-causes d k text (Bad Twice) h = inr (inr (inl (h, refl)))
new-name-causes d k text (Bad TooMany) h = inr (inr (inr (inl (h, refl))))
new-name-causes d k text (Memory error) h = inr (inr (inr (inr (inr tt))))
new-name-causes d k text fault h = absurd h

new-name-apart : (d : Declared) (k : NameKind) (text : List ℕ) → Apart (RefusesNewName d k text) (Bad Words) (Bad Name) (Bad Twice) (Bad TooMany) UnknownName
new-name-apart d k text = record {
  ab = λ p q. q.0 p;
  ac = λ p q. no-name-at-end text p q.0;
  ad = λ p q. no-name-at-end text p q.0;
  ae = λ p q. q;
  bc = λ p q. p.1 q.0;
  bd = λ p q. p.1 q.0;
  be = λ p q. q;
  cd = λ p q. false≢true (sym q.1 ∙ p.1);
  ce = λ p q. q;
  de = λ p q. q;
}

pub one-new-name : (d : Declared) (k : NameKind) (text : List ℕ) (fault other : LineFault) → RefusesNewName d k text fault → RefusesNewName d k text other → AreOne fault other
one-new-name d k text fault other p q = one-cause (RefusesNewName d k text) (Bad Words) (Bad Name) (Bad Twice) (Bad TooMany) UnknownName fault other (new-name-apart d k text) (new-name-causes d k text fault p) (new-name-causes d k text other q)

pub new-name-taken : (d : Declared) (k : NameKind) (name text rest : List ℕ) (fault : LineFault) → TakesPart d (NewName k name) text rest → RefusesNewName d k text fault → IsMemoryFault fault
new-name-taken d k name text rest fault t h = no-cause (RefusesNewName d k text) (Bad Words) (Bad Name) (Bad Twice) (Bad TooMany) UnknownName fault
    (λ p. t.0.some p)
    (λ p. p.1 (subst IsNodeName (sym t.0.first) t.1))
    (λ p. false≢true (sym t.2 ∙ ap (λ n. has_name d n) (sym t.0.first) ∙ p.1))
    (λ p. p.2 t.3)
    (λ p. p)
    (new-name-causes d k text fault h)

-- new globals
new-global-causes : (d : Declared) (text : List ℕ) (fault : LineFault) → RefusesNewGlobal d text fault → Causes (RefusesNewGlobal d text) (Bad Words) (Bad Name) (Bad Twice) (Bad TooMany) UnknownName fault
new-global-causes d text (Bad Words) h = inl (h, refl)
new-global-causes d text (Bad Name) h = inr (inl (h, refl))
new-global-causes d text (Bad Twice) h = inr (inr (inl (h, refl)))
new-global-causes d text (Bad TooMany) h = inr (inr (inr (inl (h, refl))))
new-global-causes d text (Memory error) h = inr (inr (inr (inr (inr tt))))
new-global-causes d text fault h = absurd h

no-global-at-end : (text name : List ℕ) → text ≡ [] → IsGlobal name text → ⊥
no-global-at-end text name e is = let none : [] ≡ 94 ∷ name = ap first_word (sym e) ∙ is.1 in cc

one-global : (text name other : List ℕ) → IsGlobal name text → IsGlobal other text → name ≡ other
one-global text name other p q = let whole : 94 ∷ name ≡ 94 ∷ other = sym p.1 ∙ q.1 in cc

new-global-apart : (d : Declared) (text : List ℕ) → Apart (RefusesNewGlobal d text) (Bad Words) (Bad Name) (Bad Twice) (Bad TooMany) UnknownName
new-global-apart d text = record {
  ab = λ p q. q.0 p;
  ac = λ p q. no-global-at-end text q.0 p q.1;
  ad = λ p q. no-global-at-end text q.0 p q.1;
  ae = λ p q. q;
  bc = λ p q. p.1 q.0 q.1;
  bd = λ p q. p.1 q.0 q.1;
  be = λ p q. q;
  cd = λ p q. p.2 (ap (λ n. server_of d.globals n) (one-global text p.0 q.0 p.1 q.1) ∙ q.2);
  ce = λ p q. q;
  de = λ p q. q;
}

pub one-new-global : (d : Declared) (text : List ℕ) (fault other : LineFault) → RefusesNewGlobal d text fault → RefusesNewGlobal d text other → AreOne fault other
one-new-global d text fault other p q = one-cause (RefusesNewGlobal d text) (Bad Words) (Bad Name) (Bad Twice) (Bad TooMany) UnknownName fault other (new-global-apart d text) (new-global-causes d text fault p) (new-global-causes d text other q)

pub new-global-taken : (d : Declared) (name text rest : List ℕ) (fault : LineFault) → TakesPart d (NewGlobal name) text rest → RefusesNewGlobal d text fault → IsMemoryFault fault
new-global-taken d name text rest fault t h = no-cause (RefusesNewGlobal d text) (Bad Words) (Bad Name) (Bad Twice) (Bad TooMany) UnknownName fault
    (λ p. t.0.some p)
    (λ p. p.1 name (t.1, t.0.first))
    (λ p. p.2 (ap (λ n. server_of d.globals n) (one-global text p.0 name p.1 (t.1, t.0.first)) ∙ t.2))
    (λ p. absurd (omega (arith, p.3, t.3)))
    (λ p. p)
    (new-global-causes d text fault h)

-- declared names
of-kind-causes : (d : Declared) (k : NameKind) (text : List ℕ) (fault : LineFault) → RefusesOfKind d k text fault → Causes (RefusesOfKind d k text) (Bad Words) (Bad Name) UnknownName (Bad Unknown) (Bad Unknown) fault
of-kind-causes d k text (Bad Words) h = inl (h, refl)
of-kind-causes d k text (Bad Name) h = inr (inl (h, refl))
of-kind-causes d k text UnknownName h = inr (inr (inl (h, refl)))
of-kind-causes d k text fault h = absurd h

of-kind-apart : (d : Declared) (k : NameKind) (text : List ℕ) → Apart (RefusesOfKind d k text) (Bad Words) (Bad Name) UnknownName (Bad Unknown) (Bad Unknown)
of-kind-apart d k text = record {
  ab = λ p q. q.0 p;
  ac = λ p q. no-name-at-end text p q.0;
  ad = λ p q. q;
  ae = λ p q. q;
  bc = λ p q. p.1 q.0;
  bd = λ p q. q;
  be = λ p q. q;
  cd = λ p q. q;
  ce = λ p q. q;
  de = λ p q. q;
}

pub one-of-kind : (d : Declared) (k : NameKind) (text : List ℕ) (fault other : LineFault) → RefusesOfKind d k text fault → RefusesOfKind d k text other → AreOne fault other
one-of-kind d k text fault other p q = one-cause (RefusesOfKind d k text) (Bad Words) (Bad Name) UnknownName (Bad Unknown) (Bad Unknown) fault other (of-kind-apart d k text) (of-kind-causes d k text fault p) (of-kind-causes d k text other q)

pub of-kind-taken : (d : Declared) (k : NameKind) (index : ℕ) (text rest : List ℕ) (fault : LineFault) → TakesPart d (OfKind k index) text rest → RefusesOfKind d k text fault → IsMemoryFault fault
of-kind-taken d k index text rest fault (name, ahead, named, at) h = no-cause (RefusesOfKind d k text) (Bad Words) (Bad Name) UnknownName (Bad Unknown) (Bad Unknown) fault
    (λ p. ahead.some p)
    (λ p. p.1 (subst IsNodeName (sym ahead.first) named))
    (λ p. let none : None ≡ Some index = sym p.1 ∙ ap (λ n. index_of d k n) ahead.first ∙ at in cc)
    (λ p. p)
    (λ p. p)
    (of-kind-causes d k text fault h)

-- settings and numbers have one fault each, or one where nothing stands and one else
pub one-setting-fault : (text : List ℕ) (fault other : LineFault) → RefusesSetting text fault → RefusesSetting text other → AreOne fault other
one-setting-fault text fault other p q = inr (inr (words text fault p ∙ sym (words text other q)))
  where
    words : (text : List ℕ) (fault : LineFault) → RefusesSetting text fault → fault ≡ Bad Words
    words text (Bad Words) h = refl
    words text fault h = absurd h

pub setting-taken : (s : Setting) (text rest : List ℕ) (fault : LineFault) → IsAhead (setting_word s) text rest → RefusesSetting text fault → IsMemoryFault fault
setting-taken s text rest (Bad Words) t h = absurd (h s t.first)
setting-taken s text rest fault t h = absurd h

pub one-number-fault : (least most : ℕ) (text : List ℕ) (fault other : LineFault) → RefusesNumber least most text fault → RefusesNumber least most text other → AreOne fault other
one-number-fault least most text (Bad Words) (Bad Words) p q = inr (inr refl)
one-number-fault least most text (Bad Words) (Bad Number) p q = absurd (q.0 p)
one-number-fault least most text (Bad Number) (Bad Words) p q = absurd (p.0 q)
one-number-fault least most text (Bad Number) (Bad Number) p q = inr (inr refl)
one-number-fault least most text (Bad Words) other p q = absurd q
one-number-fault least most text (Bad Number) other p q = absurd q
one-number-fault least most text fault other p q = absurd p

pub number-taken : (least most n : ℕ) (text rest : List ℕ) (fault : LineFault) → IsAhead (decimal n) text rest → least ≤ n → n ≤ most → RefusesNumber least most text fault → IsMemoryFault fault
number-taken least most n text rest (Bad Words) t h k p = absurd (t.some p)
number-taken least most n text rest (Bad Number) t h k p = absurd (p.1 n h k t.first)
number-taken least most n text rest fault t h k p = absurd p

pub one-pick-fault : (text : List ℕ) (fault other : LineFault) → RefusesPick text fault → RefusesPick text other → AreOne fault other
one-pick-fault text fault other p q = inr (inr (number text fault p ∙ sym (number text other q)))
  where
    number : (text : List ℕ) (fault : LineFault) → RefusesPick text fault → fault ≡ Bad Number
    number text (Bad Number) h = refl
    number text fault h = absurd h

pub pick-taken : (d : Declared) (pick : ℕ) (text rest : List ℕ) (fault : LineFault) → TakesPart d (APick pick) text rest → RefusesPick text fault → IsMemoryFault fault
pick-taken d pick text rest (Bad Number) (inl t) h = absurd (h.0 t.0)
pick-taken d pick text rest (Bad Number) (inr t) h = absurd (h.1 pick t.1 t.0.first)
pick-taken d pick text rest fault t h = absurd h

pub one-amount-fault : (text : List ℕ) (fault other : LineFault) → RefusesAmount text fault → RefusesAmount text other → AreOne fault other
one-amount-fault text (Bad Words) (Bad Words) p q = inr (inr refl)
one-amount-fault text (Bad Words) (Bad Number) p q = absurd (q.0 p)
one-amount-fault text (Bad Number) (Bad Words) p q = absurd (p.0 q)
one-amount-fault text (Bad Number) (Bad Number) p q = inr (inr refl)
one-amount-fault text (Bad Words) other p q = absurd q
one-amount-fault text (Bad Number) other p q = absurd q
one-amount-fault text fault other p q = absurd p

pub amount-taken : (amount : ℤ) (text rest : List ℕ) (fault : LineFault) → IsAhead (signed_decimal amount) text rest → unsigned_abs amount < 10 ^ 18 → RefusesAmount text fault → IsMemoryFault fault
amount-taken amount text rest (Bad Words) t h p = absurd (t.some p)
amount-taken amount text rest (Bad Number) t h p = absurd (p.1 amount h t.first)
amount-taken amount text rest fault t h p = absurd p

-- a wait's fault is its number's
pub one-wait-fault : (text : List ℕ) (fault other : LineFault) → RefusesWait text fault → RefusesWait text other → AreOne fault other
one-wait-fault text fault other (a, ahead, p) (b, first, q) =
    let behind = (one-ahead (codes "wait") (codes "wait") text a b ahead first).1 in
    one-number-fault 1 10000 b fault other (subst (λ (x : List ℕ). RefusesNumber 1 10000 x fault) behind p) q

pub wait-taken : (wait : Option ℕ) (text rest : List ℕ) (fault : LineFault) → TakesWait wait text rest → RefusesWait text fault → IsMemoryFault fault
wait-taken None text rest fault t (behind, ahead, h) = absurd (t.0 ahead.first)
wait-taken (Some n) text rest fault (behind, ahead, number, is) (next, first, h) =
    let same = (one-ahead (codes "wait") (codes "wait") text next behind first ahead).1 in
    number-taken 1 10000 n behind rest fault number is.0 is.1 (subst (λ (x : List ℕ). RefusesNumber 1 10000 x fault) same h)
