-- Lines of a table: after one first word the parts are of the same kinds, so a text says one thing or has one fault.
use Rattle.std.proofs.Common.{◌≡◌, ℕ, List, [], ◌∷◌, map, sym, ap, subst, ◌∙◌, inl, inr}
use Rattle.job_script.specs.declared.declared.Declared.{Declared}
use Rattle.job_script.specs.declared.line_fault.LineFault.{LineFault}
use Rattle.job_script.specs.Parts.{Part, NewName, NewGlobal, OfKind, ASetting, ANumber, APick, AnAmount, ANode, ANext, AValue, AFlag, AWait, TakesPart, TakesParts}
use Rattle.job_script.specs.Refusals.{IsMemoryFault, RefusesNewName, RefusesNewGlobal, RefusesOfKind, RefusesSetting, RefusesNumber, RefusesPick, RefusesAmount, RefusesNode, RefusesNext, RefusesValue, RefusesWait, RefusesPart, RefusesParts, RefusesRow}
use Rattle.job_script.specs.Rows.{Row, Reads}
use Rattle.job_script.specs.Words.{first_word}
use Rattle.job_script.proofs.WordLaws.{one-ahead}
use Rattle.job_script.proofs.FaultLaws.{AreOne}
use Rattle.job_script.proofs.PartLaws.{Slot, NewNameSlot, NewGlobalSlot, OfKindSlot, SettingSlot, NumberSlot, PickSlot, AmountSlot, NodeSlot, NextSlot, ValueSlot, FlagSlot, WaitSlot, slot_of, AreFit, one-part, one-list}
use Rattle.job_script.proofs.PartFaults.{one-new-name, new-name-taken, one-new-global, new-global-taken, one-of-kind, of-kind-taken, one-setting-fault, setting-taken, one-number-fault, number-taken, one-pick-fault, pick-taken, one-amount-fault, amount-taken, one-wait-fault, wait-taken}
use Rattle.job_script.proofs.NodeFaults.{one-node-refusal, node-taken, one-next-refusal, next-taken, one-value-refusal, value-taken}

-- a text doesn't begin with a part of this kind
abbrev SlotRefuses : Declared → Slot → List ℕ → LineFault → Type 0
SlotRefuses d (NewNameSlot kind) text fault = RefusesNewName d kind text fault
SlotRefuses d NewGlobalSlot text fault = RefusesNewGlobal d text fault
SlotRefuses d (OfKindSlot kind) text fault = RefusesOfKind d kind text fault
SlotRefuses d SettingSlot text fault = RefusesSetting text fault
SlotRefuses d (NumberSlot least most) text fault = RefusesNumber least most text fault
SlotRefuses d PickSlot text fault = RefusesPick text fault
SlotRefuses d AmountSlot text fault = RefusesAmount text fault
SlotRefuses d NodeSlot text fault = RefusesNode d text fault
SlotRefuses d NextSlot text fault = RefusesNext d text fault
SlotRefuses d ValueSlot text fault = RefusesValue text fault
SlotRefuses d (FlagSlot word) text fault = ⊥
SlotRefuses d WaitSlot text fault = RefusesWait text fault

to-slot : (d : Declared) (p : Part) (text : List ℕ) (fault : LineFault) → RefusesPart d p text fault → SlotRefuses d (slot_of p) text fault
to-slot d (NewName kind name) text fault h = h
to-slot d (NewGlobal name) text fault h = h
to-slot d (OfKind kind index) text fault h = h
to-slot d (ASetting setting) text fault h = h
to-slot d (ANumber least most number) text fault h = h
to-slot d (APick pick) text fault h = h
to-slot d (AnAmount amount) text fault h = h
to-slot d (ANode site) text fault h = h
to-slot d (ANext parent sub) text fault h = h
to-slot d (AValue value) text fault h = h
to-slot d (AFlag word is_there) text fault h = h
to-slot d (AWait wait) text fault h = h

from-slot : (d : Declared) (p : Part) (text : List ℕ) (fault : LineFault) → SlotRefuses d (slot_of p) text fault → RefusesPart d p text fault
from-slot d (NewName kind name) text fault h = h
from-slot d (NewGlobal name) text fault h = h
from-slot d (OfKind kind index) text fault h = h
from-slot d (ASetting setting) text fault h = h
from-slot d (ANumber least most number) text fault h = h
from-slot d (APick pick) text fault h = h
from-slot d (AnAmount amount) text fault h = h
from-slot d (ANode site) text fault h = h
from-slot d (ANext parent sub) text fault h = h
from-slot d (AValue value) text fault h = h
from-slot d (AFlag word is_there) text fault h = h
from-slot d (AWait wait) text fault h = h

same-refusal : (d : Declared) (p q : Part) (text : List ℕ) (fault : LineFault) → slot_of p ≡ slot_of q → RefusesPart d p text fault → RefusesPart d q text fault
same-refusal d p q text fault e h = from-slot d q text fault (subst (λ (s : Slot). SlotRefuses d s text fault) e (to-slot d p text fault h))

-- a part of one kind is refused for one fault
one-part-refusal : (d : Declared) (p : Part) (text : List ℕ) (fault other : LineFault) → RefusesPart d p text fault → RefusesPart d p text other → AreOne fault other
one-part-refusal d (NewName kind name) text fault other h k = one-new-name d kind text fault other h k
one-part-refusal d (NewGlobal name) text fault other h k = one-new-global d text fault other h k
one-part-refusal d (OfKind kind index) text fault other h k = one-of-kind d kind text fault other h k
one-part-refusal d (ASetting setting) text fault other h k = one-setting-fault text fault other h k
one-part-refusal d (ANumber least most number) text fault other h k = one-number-fault least most text fault other h k
one-part-refusal d (APick pick) text fault other h k = one-pick-fault text fault other h k
one-part-refusal d (AnAmount amount) text fault other h k = one-amount-fault text fault other h k
one-part-refusal d (ANode site) text fault other h k = one-node-refusal d text fault other h k
one-part-refusal d (ANext parent sub) text fault other h k = one-next-refusal d text fault other h k
one-part-refusal d (AValue value) text fault other h k = one-value-refusal text fault other h k
one-part-refusal d (AFlag word is_there) text fault other h k = absurd h
one-part-refusal d (AWait wait) text fault other h k = one-wait-fault text fault other h k

-- a text that begins with a part has no fault
part-taken : (d : Declared) (p : Part) (text rest : List ℕ) (fault : LineFault) → TakesPart d p text rest → RefusesPart d p text fault → IsMemoryFault fault
part-taken d (NewName kind name) text rest fault t h = new-name-taken d kind name text rest fault t h
part-taken d (NewGlobal name) text rest fault t h = new-global-taken d name text rest fault t h
part-taken d (OfKind kind index) text rest fault t h = of-kind-taken d kind index text rest fault t h
part-taken d (ASetting setting) text rest fault t h = setting-taken setting text rest fault t h
part-taken d (ANumber least most number) text rest fault t h = number-taken least most number text rest fault t.0 t.1 t.2 h
part-taken d (APick pick) text rest fault t h = pick-taken d pick text rest fault t h
part-taken d (AnAmount amount) text rest fault t h = amount-taken amount text rest fault t.0 t.1 h
part-taken d (ANode site) text rest fault t h = node-taken d site text rest fault t h
part-taken d (ANext parent sub) text rest fault t h = next-taken d parent sub text rest fault t h
part-taken d (AValue value) text rest fault t h = value-taken d value text rest fault t h
part-taken d (AFlag word is_there) text rest fault t h = absurd h
part-taken d (AWait wait) text rest fault t h = wait-taken wait text rest fault t h

parts-taken : (d : Declared) (ps qs : List Part) (text : List ℕ) (fault : LineFault) → map slot_of ps ≡ map slot_of qs → AreFit ps → TakesParts d ps text → RefusesParts d qs text fault → IsMemoryFault fault
parts-taken d [] [] text fault e fit t h = absurd (h.0 t)
parts-taken d [] (q ∷ qs) text fault e fit t h = cc
parts-taken d (p ∷ ps) [] text fault e fit t h = cc
parts-taken d (p ∷ ps) (q ∷ qs) text fault e fit (rest, first, more) (inl h) =
    let kind : slot_of q ≡ slot_of p = cc in
    part-taken d p text rest fault first (same-refusal d q p text fault kind h)
parts-taken d (p ∷ ps) (q ∷ qs) text fault e fit (rest, first, more) (inr (behind, one, others)) =
    let kind : slot_of p ≡ slot_of q = cc in
    let kinds : map slot_of ps ≡ map slot_of qs = cc in
    let same = (one-part d p q text rest behind kind fit.0 first one).1 in
    parts-taken d ps qs behind fault kinds fit.1 (subst (λ (t : List ℕ). TakesParts d ps t) same more) others

one-parts-refusal : (d : Declared) (ps qs : List Part) (text : List ℕ) (fault other : LineFault) → map slot_of ps ≡ map slot_of qs → AreFit ps → RefusesParts d ps text fault → RefusesParts d qs text other → AreOne fault other
one-parts-refusal d [] [] text fault other e fit h k = inr (inr (h.1 ∙ sym k.1))
one-parts-refusal d [] (q ∷ qs) text fault other e fit h k = cc
one-parts-refusal d (p ∷ ps) [] text fault other e fit h k = cc
one-parts-refusal d (p ∷ ps) (q ∷ qs) text fault other e fit (inl h) (inl k) =
    let kind : slot_of q ≡ slot_of p = cc in
    one-part-refusal d p text fault other h (same-refusal d q p text other kind k)
one-parts-refusal d (p ∷ ps) (q ∷ qs) text fault other e fit (inl h) (inr (behind, one, others)) =
    let kind : slot_of p ≡ slot_of q = cc in
    inl (part-taken d q text behind fault one (same-refusal d p q text fault kind h))
one-parts-refusal d (p ∷ ps) (q ∷ qs) text fault other e fit (inr (rest, first, more)) (inl k) =
    let kind : slot_of q ≡ slot_of p = cc in
    inr (inl (part-taken d p text rest other first (same-refusal d q p text other kind k)))
one-parts-refusal d (p ∷ ps) (q ∷ qs) text fault other e fit (inr (rest, first, more)) (inr (behind, one, others)) =
    let kind : slot_of p ≡ slot_of q = cc in
    let kinds : map slot_of ps ≡ map slot_of qs = cc in
    let same = (one-part d p q text rest behind kind fit.0 first one).1 in
    one-parts-refusal d ps qs behind fault other kinds fit.1 (subst (λ (t : List ℕ). RefusesParts d ps t fault) same more) others

-- the first word of a row tells the kinds of its parts
pub record IsTable {X : Type 0} (row_of : X → Row) : Type 0 where
  pub kinds : List ℕ → List Slot
  pub kinds_are : (x : X) → kinds (row_of x).word ≡ map slot_of (row_of x).parts
  pub fit : (x : X) → AreFit (row_of x).parts

same-kinds : {X : Type 0} (row_of : X → Row) → IsTable row_of → (x y : X) (word : List ℕ) → (row_of x).word ≡ word → (row_of y).word ≡ word → map slot_of (row_of x).parts ≡ map slot_of (row_of y).parts
same-kinds row_of table x y word e k = sym (table.kinds_are x) ∙ ap table.kinds (e ∙ sym k) ∙ table.kinds_are y

-- lines that a text is after a first word have one row
pub one-row : {X : Type 0} (row_of : X → Row) → IsTable row_of → (d : Declared) (text : List ℕ) (x y : X) → Reads row_of d text x → Reads row_of d text y → ((row_of x).word ≡ (row_of y).word) × ((row_of x).parts ≡ (row_of y).parts)
one-row row_of table d text x y p q =
    let rest = (one-ahead (first_word text) (first_word text) text p.rest q.rest p.ahead q.ahead).1 in
    let kinds = same-kinds row_of table x y (first_word text) p.behind.word_is q.behind.word_is in (
      p.behind.word_is ∙ sym q.behind.word_is,
      one-list d (row_of x).parts (row_of y).parts q.rest kinds (table.fit x) (subst (λ (t : List ℕ). TakesParts d (row_of x).parts t) rest p.behind.parts) q.behind.parts,
    )

-- a line of the table is not refused
pub row-taken : {X : Type 0} (row_of : X → Row) → IsTable row_of → (d : Declared) (text : List ℕ) (x : X) (fault : LineFault) → Reads row_of d text x → RefusesRow row_of d text fault → IsMemoryFault fault
row-taken row_of table d text x fault p q =
    let y = q.behind.line in
    let rest = (one-ahead (first_word text) (first_word text) text p.rest q.rest p.ahead q.ahead).1 in
    let kinds = same-kinds row_of table x y (first_word text) p.behind.word_is q.behind.word_is in
    parts-taken d (row_of x).parts (row_of y).parts q.rest fault kinds (table.fit x) (subst (λ (t : List ℕ). TakesParts d (row_of x).parts t) rest p.behind.parts) q.behind.parts

-- and else for one fault
pub one-row-refusal : {X : Type 0} (row_of : X → Row) → IsTable row_of → (d : Declared) (text : List ℕ) (fault other : LineFault) → RefusesRow row_of d text fault → RefusesRow row_of d text other → AreOne fault other
one-row-refusal row_of table d text fault other p q =
    let x = p.behind.line in
    let y = q.behind.line in
    let rest = (one-ahead (first_word text) (first_word text) text p.rest q.rest p.ahead q.ahead).1 in
    let kinds = same-kinds row_of table x y (first_word text) p.behind.word_is q.behind.word_is in
    one-parts-refusal d (row_of x).parts (row_of y).parts q.rest fault other kinds (table.fit x) (subst (λ (t : List ℕ). RefusesParts d (row_of x).parts t fault) rest p.behind.parts) q.behind.parts
