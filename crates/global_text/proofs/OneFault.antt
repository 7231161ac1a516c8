-- A text has one fault at most.
use Rattle.std.proofs.Common.{◌≡◌, ℕ, ◌+◌, ◌≤◌, List, [], ◌∷◌, ◌++◌, length, refl, sym, ap, subst, ◌∙◌, inl, inr, arith}
use Rattle.std.specs.Prelude.{◌==◌}
use Rattle.std.proofs.Math.Nat.{add-zero}
use Rattle.subscript_keys.specs.declared.sub.Sub.{Sub}
use Rattle.subscript_keys.specs.Key.{IsName}
use Rattle.global_text.specs.declared.room.Room.{Room}
use Rattle.global_text.specs.declared.room.Room.TheVariants.{Value, Sub as SubRoom}
use Rattle.global_text.specs.declared.text_error.TextError.{TextError}
use Rattle.global_text.specs.declared.text_error.TextError.TheVariants.{NoCaret, BadName, BadSubscript, Unclosed, KeyTooLong, BadValue, ValueTooLong, Memory}
use Rattle.global_text.specs.Numbers.{BeginsOtherwise}
use Rattle.global_text.specs.Strings.{IsLineEnd, IsUnclosed, IsBad, IsTooLong}
use Rattle.global_text.specs.Nodes.{sub_string, sub_size, subs_size, ReadsSub, ReadsSubs, key_length, BeforeSub}
use Rattle.global_text.specs.Faults.{HasValueFault, HasSubFault, HasMarkFault, NoMark, HasListFault, HasBadName, HasNodeFault, AreOne}
use Rattle.global_text.proofs.ItemLaws.{no-item-at-end}
use Rattle.global_text.proofs.StringLaws.{one-stop, front-room, bare-no-quote, read-is-closed, read-is-good}
use Rattle.global_text.proofs.NodeLaws.{one-sub, one-name, paren-ends, no-caret, string-no-end, sub-no-fault, mark-no-fault}

pub swapped : (error other : TextError) → AreOne error other → AreOne other error
swapped error other (inl memory) = inr (inl memory)
swapped error other (inr (inl memory)) = inl memory
swapped error other (inr (inr e)) = inr (inr (sym e))

no-quote : (text rest : List ℕ) → BeginsOtherwise (λ b. b == 34) text → text ≡ 34 ∷ rest → ⊥
no-quote [] rest n e = cc
no-quote (c ∷ text) rest n e = let h : c ≡ 34 = cc in n (ap (λ x. x == 34) h)

line-end-apart : (c : ℕ) (q r : List ℕ) → IsLineEnd r → r ≡ c ∷ q → (c ≡ 10 → ⊥) → ⊥
line-end-apart c q [] end e n = cc
line-end-apart c q (b ∷ r) end e n = let h : c ≡ b = cc in n (h ∙ end)

unclosed-bad : (room : Room) (text : List ℕ) → IsUnclosed room text → IsBad room text → ⊥
unclosed-bad room text (s, r, (items, is, e), end, within) (inl none) = no-quote text (items ++ r) none.no_quote e
unclosed-bad room text (s, r, p, end, within) (inr (t, q, o, m, short)) = line-end-apart 92 q r end (one-stop s t text r (92 ∷ q) p (no-item-at-end r end) o m).1 (λ h. omega arith)

unclosed-long : (room : Room) (text : List ℕ) → IsUnclosed room text → IsTooLong room text → ⊥
unclosed-long room text (s, r, p, end, within) (t, q, inl o, long) = bare-no-quote t s text q r o p
unclosed-long room text (s, r, p, end, within) (t, q, inr o, long) = long (front-room room t s text q r o p (no-item-at-end r end) within)

bad-long : (room : Room) (text : List ℕ) → IsBad room text → IsTooLong room text → ⊥
bad-long room text (inl none) (t, q, inl o, long) = none.no_number t q o
bad-long room text (inl none) (t, q, inr (items, is, e), long) = no-quote text (items ++ q) none.no_quote e
bad-long room text (inr (s, r, p, m, within)) (t, q, inl o, long) = bare-no-quote t s text q (92 ∷ r) o p
bad-long room text (inr (s, r, p, m, within)) (t, q, inr o, long) = long (front-room room t s text q (92 ∷ r) o p m within)

-- a text that is no value has one fault
pub one-value-fault : (text : List ℕ) (error other : TextError) → HasValueFault text error → HasValueFault text other → AreOne error other
one-value-fault text Unclosed Unclosed p q = inr (inr refl)
one-value-fault text Unclosed BadValue p q = absurd (unclosed-bad Value text p q)
one-value-fault text Unclosed ValueTooLong p q = absurd (unclosed-long Value text p q)
one-value-fault text BadValue Unclosed p q = absurd (unclosed-bad Value text q p)
one-value-fault text BadValue BadValue p q = inr (inr refl)
one-value-fault text BadValue ValueTooLong p q = absurd (bad-long Value text p q)
one-value-fault text ValueTooLong Unclosed p q = absurd (unclosed-long Value text q p)
one-value-fault text ValueTooLong BadValue p q = absurd (bad-long Value text q p)
one-value-fault text ValueTooLong ValueTooLong p q = inr (inr refl)
one-value-fault text (Memory error) other p q = inl tt
one-value-fault text Unclosed (Memory other) p q = inr (inl tt)
one-value-fault text BadValue (Memory other) p q = inr (inl tt)
one-value-fault text ValueTooLong (Memory other) p q = inr (inl tt)
one-value-fault text NoCaret other p q = absurd p
one-value-fault text BadName other p q = absurd p
one-value-fault text BadSubscript other p q = absurd p
one-value-fault text KeyTooLong other p q = absurd p
one-value-fault text error NoCaret p q = absurd q
one-value-fault text error BadName p q = absurd q
one-value-fault text error BadSubscript p q = absurd q
one-value-fault text error KeyTooLong p q = absurd q

end-long : (room : Room) (text : List ℕ) → IsLineEnd text → IsTooLong room text → ⊥
end-long room text end (t, q, inl o, long) = string-no-end t text q (inl o) end
end-long room text end (t, q, inr (items, is, e), long) = line-end-apart 34 (items ++ q) text end e (λ h. omega arith)

one-sub-fault : (key : ℕ) (text : List ℕ) (error other : TextError) → HasSubFault key text error → HasSubFault key text other → AreOne error other
one-sub-fault key text Unclosed Unclosed p q = inr (inr refl)
one-sub-fault key text Unclosed BadSubscript (inl end) q = absurd (q.0 end)
one-sub-fault key text Unclosed BadSubscript (inr p) q = absurd (unclosed-bad (SubRoom key) text p q.1)
one-sub-fault key text Unclosed KeyTooLong p q = absurd (unclosed-key key text p q)
  where
    unclosed-key : (key : ℕ) (text : List ℕ) → HasSubFault key text Unclosed → HasSubFault key text KeyTooLong → ⊥
    unclosed-key key text (inl end) (inl long) = end-long (SubRoom key) text end long
    unclosed-key key text (inl end) (inr (s, r, (form, is), long)) = string-no-end (sub_string s) text r is end
    unclosed-key key text (inr p) (inl long) = unclosed-long (SubRoom key) text p long
    unclosed-key key text (inr p) (inr (s, r, (form, is), long)) = read-is-closed (SubRoom key) (sub_string s) text r is p
one-sub-fault key text BadSubscript BadSubscript p q = inr (inr refl)
one-sub-fault key text BadSubscript Unclosed p (inl end) = absurd (p.0 end)
one-sub-fault key text BadSubscript Unclosed p (inr q) = absurd (unclosed-bad (SubRoom key) text q p.1)
one-sub-fault key text BadSubscript KeyTooLong p (inl long) = absurd (bad-long (SubRoom key) text p.1 long)
one-sub-fault key text BadSubscript KeyTooLong p (inr (s, r, (form, is), long)) = absurd (read-is-good (SubRoom key) (sub_string s) text r is p.1)
one-sub-fault key text KeyTooLong KeyTooLong p q = inr (inr refl)
one-sub-fault key text KeyTooLong Unclosed p q = absurd (key-unclosed key text p q)
  where
    key-unclosed : (key : ℕ) (text : List ℕ) → HasSubFault key text KeyTooLong → HasSubFault key text Unclosed → ⊥
    key-unclosed key text (inl long) (inl end) = end-long (SubRoom key) text end long
    key-unclosed key text (inr (s, r, (form, is), long)) (inl end) = string-no-end (sub_string s) text r is end
    key-unclosed key text (inl long) (inr q) = unclosed-long (SubRoom key) text q long
    key-unclosed key text (inr (s, r, (form, is), long)) (inr q) = read-is-closed (SubRoom key) (sub_string s) text r is q
one-sub-fault key text KeyTooLong BadSubscript (inl long) q = absurd (bad-long (SubRoom key) text q.1 long)
one-sub-fault key text KeyTooLong BadSubscript (inr (s, r, (form, is), long)) q = absurd (read-is-good (SubRoom key) (sub_string s) text r is q.1)
one-sub-fault key text (Memory error) other p q = inl tt
one-sub-fault key text Unclosed (Memory other) p q = inr (inl tt)
one-sub-fault key text BadSubscript (Memory other) p q = inr (inl tt)
one-sub-fault key text KeyTooLong (Memory other) p q = inr (inl tt)
one-sub-fault key text NoCaret other p q = absurd p
one-sub-fault key text BadName other p q = absurd p
one-sub-fault key text BadValue other p q = absurd p
one-sub-fault key text ValueTooLong other p q = absurd p
one-sub-fault key text error NoCaret p q = absurd q
one-sub-fault key text error BadName p q = absurd q
one-sub-fault key text error BadValue p q = absurd q
one-sub-fault key text error ValueTooLong p q = absurd q

end-no-mark : (text : List ℕ) → IsLineEnd text → NoMark text → ⊥
end-no-mark [] end none = none
end-no-mark (c ∷ text) end none = none.2 end

one-mark-fault : (text : List ℕ) (error other : TextError) → HasMarkFault text error → HasMarkFault text other → AreOne error other
one-mark-fault text Unclosed Unclosed p q = inr (inr refl)
one-mark-fault text Unclosed BadSubscript p q = absurd (end-no-mark text p q)
one-mark-fault text BadSubscript Unclosed p q = absurd (end-no-mark text q p)
one-mark-fault text BadSubscript BadSubscript p q = inr (inr refl)
one-mark-fault text NoCaret other p q = absurd p
one-mark-fault text BadName other p q = absurd p
one-mark-fault text KeyTooLong other p q = absurd p
one-mark-fault text BadValue other p q = absurd p
one-mark-fault text ValueTooLong other p q = absurd p
one-mark-fault text (Memory error) other p q = absurd p
one-mark-fault text error NoCaret p q = absurd q
one-mark-fault text error BadName p q = absurd q
one-mark-fault text error KeyTooLong p q = absurd q
one-mark-fault text error BadValue p q = absurd q
one-mark-fault text error ValueTooLong p q = absurd q
one-mark-fault text error (Memory other) p q = absurd q

pub key-none : (key : ℕ) (text : List ℕ) (error : TextError) → HasSubFault (key + subs_size []) text error → HasSubFault key text error
key-none key text error fault = subst (λ (k : ℕ). HasSubFault k text error) (add-zero key) fault

pub key-next : (key : ℕ) (s : Sub) (subs : List Sub) (text : List ℕ) (error : TextError) → HasSubFault (key + subs_size (s ∷ subs)) text error → HasSubFault (key + sub_size s + subs_size subs) text error
key-next key s subs text error fault = subst (λ (k : ℕ). HasSubFault k text error) (omega arith) fault

pub same-head : (a b : Sub) (list after next : List ℕ) → ReadsSub a list (44 ∷ after) → ReadsSub b list (44 ∷ next) → (a ≡ b) × (after ≡ next)
same-head a b list after next p q =
    let same = one-sub a b list (44 ∷ after) (44 ∷ next) p q in
    (same.0, let tails : after ≡ next = let whole : 44 ∷ after ≡ 44 ∷ next = same.1 in cc in tails)

-- two faults before a subscript
both-before : (key : ℕ) (ss ts : List Sub) (list place at : List ℕ) (error other : TextError) → ReadsSubs ss list place → ReadsSubs ts list at → key + subs_size ss ≤ 500 → key + subs_size ts ≤ 500 → HasSubFault (key + subs_size ss) place error → HasSubFault (key + subs_size ts) at other → AreOne error other
both-before key [] [] list place at error other p q h k fault also =
    one-sub-fault key at error other (subst (λ (t : List ℕ). HasSubFault key t error) (sym p ∙ q) (key-none key place error fault)) (key-none key at other also)
both-before key [] (b ∷ ts) list place at error other p (next, one, others) h k fault also =
    inl (sub-no-fault key b place (44 ∷ next) error (subst (λ (t : List ℕ). ReadsSub b t (44 ∷ next)) p one) (omega arith) (key-none key place error fault))
both-before key (a ∷ ss) [] list place at error other (after, first, more) q h k fault also =
    inr (inl (sub-no-fault key a at (44 ∷ after) other (subst (λ (t : List ℕ). ReadsSub a t (44 ∷ after)) q first) (omega arith) (key-none key at other also)))
both-before key (a ∷ ss) (b ∷ ts) list place at error other (after, first, more) (next, one, others) h k fault also =
    let same = same-head a b list after next first one in
    both-before (key + sub_size a) ss ts after place at error other more (subst (λ (t : List ℕ). ReadsSubs ts t at) (sym same.1) others)
    (omega arith)
    (omega (arith, ap (λ x. sub_size x) same.0))
    (key-next key a ss place error fault)
    (subst (λ (k : ℕ). HasSubFault k at other) (omega (arith, ap (λ x. sub_size x) same.0)) also)

-- one before a subscript, one after it
before-behind : (key : ℕ) (ss ts : List Sub) (b : Sub) (list place at behind : List ℕ) (error other : TextError) → ReadsSubs ss list place → ReadsSubs ts list at → ReadsSub b at behind → key + subs_size (ts ++ b ∷ []) ≤ 500 → HasSubFault (key + subs_size ss) place error → HasMarkFault behind other → AreOne error other
before-behind key [] [] b list place at behind error other p q it k fault also =
    inl (sub-no-fault key b place behind error (subst (λ (t : List ℕ). ReadsSub b t behind) (sym q ∙ p) it) (omega arith) (key-none key place error fault))
before-behind key [] (c ∷ ts) b list place at behind error other p (next, one, others) it k fault also =
    inl (sub-no-fault key c place (44 ∷ next) error (subst (λ (t : List ℕ). ReadsSub c t (44 ∷ next)) p one) (omega arith) (key-none key place error fault))
before-behind key (a ∷ ss) [] b list place at behind error other (after, first, more) q it k fault also =
    absurd (mark-no-fault 44 after behind other (one-sub b a at behind (44 ∷ after) it (subst (λ (t : List ℕ). ReadsSub a t (44 ∷ after)) q first)).1 (inr refl) also)
before-behind key (a ∷ ss) (c ∷ ts) b list place at behind error other (after, first, more) (next, one, others) it k fault also =
    let same = same-head a c list after next first one in
    before-behind (key + sub_size a) ss ts b after place at behind error other more (subst (λ (t : List ℕ). ReadsSubs ts t at) (sym same.1) others) it
    (omega (arith, ap (λ x. sub_size x) same.0))
    (key-next key a ss place error fault) also

-- two after a subscript
both-behind : (ss ts : List Sub) (a b : Sub) (list place at rest behind : List ℕ) (error other : TextError) → ReadsSubs ss list place → ReadsSub a place rest → ReadsSubs ts list at → ReadsSub b at behind → HasMarkFault rest error → HasMarkFault behind other → AreOne error other
both-behind [] [] a b list place at rest behind error other p is q it fault also =
    let same = one-sub a b at rest behind (subst (λ (t : List ℕ). ReadsSub a t rest) (sym p ∙ q) is) it in
    one-mark-fault behind error other (subst (λ (t : List ℕ). HasMarkFault t error) same.1 fault) also
both-behind [] (c ∷ ts) a b list place at rest behind error other p is (next, one, others) it fault also =
    absurd (mark-no-fault 44 next rest error (one-sub a c place rest (44 ∷ next) is (subst (λ (t : List ℕ). ReadsSub c t (44 ∷ next)) p one)).1 (inr refl) fault)
both-behind (c ∷ ss) [] a b list place at rest behind error other (after, first, more) is q it fault also =
    absurd (mark-no-fault 44 after behind other (one-sub b c at behind (44 ∷ after) it (subst (λ (t : List ℕ). ReadsSub c t (44 ∷ after)) q first)).1 (inr refl) also)
both-behind (c ∷ ss) (d ∷ ts) a b list place at rest behind error other (after, first, more) is (next, one, others) it fault also =
    let same = same-head c d list after next first one in
    both-behind ss ts a b after place at rest behind error other more is (subst (λ (t : List ℕ). ReadsSubs ts t at) (sym same.1) others) it fault also

-- the same name and the same list of subscripts
pub same-list : (text name other place at : List ℕ) (ss ts : List Sub) (p : BeforeSub text name ss place) (q : BeforeSub text other ts at) → (name ≡ other) × (q.listed.0 ≡ p.listed.0)
same-list text name other place at ss ts p q =
    let same = one-name name other text (40 ∷ p.listed.0) (40 ∷ q.listed.0) p.named q.named (paren-ends p.listed.0) (paren-ends q.listed.0) p.listed.2 q.listed.2 in
    (same.0, let lists : q.listed.0 ≡ p.listed.0 = let whole : 40 ∷ p.listed.0 ≡ 40 ∷ q.listed.0 = same.1 in cc in lists)

pub one-list-fault : (text : List ℕ) (error other : TextError) → HasListFault text error → HasListFault text other → AreOne error other
one-list-fault text error other (name, ss, (place, inl (p, fault))) (name', ts, (at, inl (q, also))) =
    let same = same-list text name name' place at ss ts p q in
    both-before (length name + 1) ss ts p.listed.0 place at error other p.listed.1 (subst (λ (t : List ℕ). ReadsSubs ts t at) same.1 q.listed.1) p.within (omega (arith, q.within, ap length same.0)) fault (subst (λ (n : List ℕ). HasSubFault (key_length n ts) at other) (sym same.0) also)
one-list-fault text error other (name, ss, (place, inl (p, fault))) (name', ts, (behind, inr (q, also))) =
    let same = same-list text name name' place q.last.2 ss q.last.0 p q.last.3 in
    before-behind (length name + 1) ss q.last.0 q.last.1 p.listed.0 place q.last.2 behind error other p.listed.1 (subst (λ (t : List ℕ). ReadsSubs q.last.0 t q.last.2) same.1 q.last.3.listed.1) q.last.4 (omega (arith, q.within, ap length same.0, ap (λ l. subs_size l) q.last.5)) fault also
one-list-fault text error other (name, ss, (rest, inr (p, fault))) (name', ts, (at, inl (q, also))) =
    let same = same-list text name' name at p.last.2 ts p.last.0 q p.last.3 in
    swapped other error (before-behind (length name' + 1) ts p.last.0 p.last.1 q.listed.0 at p.last.2 rest other error q.listed.1 (subst (λ (t : List ℕ). ReadsSubs p.last.0 t p.last.2) same.1 p.last.3.listed.1) p.last.4 (omega (arith, p.within, ap length same.0, ap (λ l. subs_size l) p.last.5)) also fault)
one-list-fault text error other (name, ss, (rest, inr (p, fault))) (name', ts, (behind, inr (q, also))) =
    let same = same-list text name name' p.last.2 q.last.2 p.last.0 q.last.0 p.last.3 q.last.3 in
    both-behind p.last.0 q.last.0 p.last.1 q.last.1 p.last.3.listed.0 p.last.2 q.last.2 rest behind error other p.last.3.listed.1 p.last.4 (subst (λ (t : List ℕ). ReadsSubs q.last.0 t q.last.2) same.1 q.last.3.listed.1) q.last.4 fault also

-- a list of subscripts follows a caret and a name
list-named : (text : List ℕ) (error : TextError) → HasListFault text error → (name : List ℕ) × (list : List ℕ) × IsName name × (text ≡ 94 ∷ (name ++ 40 ∷ list))
list-named text error (name, ss, (place, inl (p, fault))) = (name, p.listed.0, p.named, p.listed.2)
list-named text error (name, ss, (rest, inr (p, fault))) = (name, p.last.3.listed.0, p.last.3.named, p.last.3.listed.2)

caret-or-list : (text : List ℕ) (error : TextError) → BeginsOtherwise (λ b. b == 94) text → HasListFault text error → ⊥
caret-or-list text error n fault = let named = list-named text error fault in no-caret text (named.0 ++ 40 ∷ named.1) n named.3

name-or-list : (text : List ℕ) (error : TextError) → HasBadName text → HasListFault text error → ⊥
name-or-list text error (behind, e, none) fault =
    let named = list-named text error fault in
    none named.0 (40 ∷ named.1) named.2 (paren-ends named.1) (let same : behind ≡ named.0 ++ 40 ∷ named.1 = let whole : 94 ∷ behind ≡ 94 ∷ (named.0 ++ 40 ∷ named.1) = sym e ∙ named.3 in cc in same)

-- a text that is no node has one fault
pub one-node-fault : (text : List ℕ) (error other : TextError) → HasNodeFault text error → HasNodeFault text other → AreOne error other
one-node-fault text NoCaret NoCaret p q = inr (inr refl)
one-node-fault text NoCaret BadName p q = absurd (no-caret text q.0 p q.1)
one-node-fault text NoCaret BadSubscript p q = absurd (caret-or-list text BadSubscript p q)
one-node-fault text NoCaret Unclosed p q = absurd (caret-or-list text Unclosed p q)
one-node-fault text NoCaret KeyTooLong p q = absurd (caret-or-list text KeyTooLong p q)
one-node-fault text BadName NoCaret p q = absurd (no-caret text p.0 q p.1)
one-node-fault text BadName BadName p q = inr (inr refl)
one-node-fault text BadName BadSubscript p q = absurd (name-or-list text BadSubscript p q)
one-node-fault text BadName Unclosed p q = absurd (name-or-list text Unclosed p q)
one-node-fault text BadName KeyTooLong p q = absurd (name-or-list text KeyTooLong p q)
one-node-fault text BadSubscript NoCaret p q = absurd (caret-or-list text BadSubscript q p)
one-node-fault text Unclosed NoCaret p q = absurd (caret-or-list text Unclosed q p)
one-node-fault text KeyTooLong NoCaret p q = absurd (caret-or-list text KeyTooLong q p)
one-node-fault text BadSubscript BadName p q = absurd (name-or-list text BadSubscript q p)
one-node-fault text Unclosed BadName p q = absurd (name-or-list text Unclosed q p)
one-node-fault text KeyTooLong BadName p q = absurd (name-or-list text KeyTooLong q p)
one-node-fault text BadSubscript BadSubscript p q = inr (inr refl)
one-node-fault text BadSubscript Unclosed p q = one-list-fault text BadSubscript Unclosed p q
one-node-fault text BadSubscript KeyTooLong p q = one-list-fault text BadSubscript KeyTooLong p q
one-node-fault text Unclosed BadSubscript p q = one-list-fault text Unclosed BadSubscript p q
one-node-fault text Unclosed Unclosed p q = inr (inr refl)
one-node-fault text Unclosed KeyTooLong p q = one-list-fault text Unclosed KeyTooLong p q
one-node-fault text KeyTooLong BadSubscript p q = one-list-fault text KeyTooLong BadSubscript p q
one-node-fault text KeyTooLong Unclosed p q = one-list-fault text KeyTooLong Unclosed p q
one-node-fault text KeyTooLong KeyTooLong p q = inr (inr refl)
one-node-fault text (Memory error) other p q = inl tt
one-node-fault text BadValue other p q = absurd p
one-node-fault text ValueTooLong other p q = absurd p
one-node-fault text NoCaret (Memory other) p q = inr (inl tt)
one-node-fault text BadName (Memory other) p q = inr (inl tt)
one-node-fault text BadSubscript (Memory other) p q = inr (inl tt)
one-node-fault text Unclosed (Memory other) p q = inr (inl tt)
one-node-fault text KeyTooLong (Memory other) p q = inr (inl tt)
one-node-fault text error BadValue p q = absurd q
one-node-fault text error ValueTooLong p q = absurd q
