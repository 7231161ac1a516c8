-- A text begins with one part of a kind at most.
use Rattle.std.proofs.Common.{◌≡◌, ◌⊎◌, ℕ, ◌<◌, ◌≤◌, ◌^◌, Bool, true, false, List, [], ◌∷◌, ◌++◌, map, ℤ, refl, sym, ap, subst, ◌∙◌, inl, inr, arith}
use Rattle.std.specs.Prelude.{Option, None, Some, unsigned_abs, codes, if◌then◌else◌}
use Rattle.std.specs.Fmt.{decimal, signed_decimal}
use Rattle.std.proofs.lemmas.Fmt.{decimal_injective, signed_decimal_injective}
use Rattle.std.proofs.lemmas.List.{same_from_push}
use Rattle.subscript_keys.specs.declared.node.Node.{Node}
use Rattle.subscript_keys.specs.declared.sub.Sub.{Sub}
use Rattle.subscript_keys.specs.Key.{key_of}
use Rattle.global_text.proofs.NodeLaws.{one-node}
use Rattle.global_text.proofs.StringLaws.{one-string}
use Rattle.app_job.specs.Sites.{Site, IsSite}
use Rattle.job_script.specs.declared.declared.Declared.{Declared}
use Rattle.job_script.specs.declared.global.Global.{Global}
use Rattle.job_script.specs.declared.name_kind.NameKind.{NameKind}
use Rattle.job_script.specs.declared.setting.Setting.{Setting}
use Rattle.job_script.specs.declared.setting.Setting.TheVariants.{Retry, Trouble, Recover, Round}
use Rattle.job_script.specs.Names.{is_same, index_of, server_of, setting_word}
use Rattle.job_script.specs.Parts.{Part, NewName, NewGlobal, OfKind, ASetting, ANumber, APick, AnAmount, ANode, ANext, AValue, AFlag, AWait, EndsBefore, asked, TakesFlag, TakesWait, TakesPart, TakesParts}
use Rattle.job_script.specs.Words.{IsAhead, spaces_off}
use Rattle.job_script.proofs.NumberLemmas.{mag-low}
use Rattle.job_script.proofs.WordLaws.{one-ahead}

-- a part's kind, without what the part says
pub data Slot : Type 0 where
  NewNameSlot : (kind : NameKind) → Slot
  NewGlobalSlot : Slot
  OfKindSlot : (kind : NameKind) → Slot
  SettingSlot : Slot
  NumberSlot : (least most : ℕ) → Slot
  PickSlot : Slot
  AmountSlot : Slot
  NodeSlot : Slot
  NextSlot : Slot
  ValueSlot : Slot
  FlagSlot : (word : List ℕ) → Slot
  WaitSlot : Slot

abbrev pub slot_of : Part → Slot
slot_of (NewName kind name) = NewNameSlot kind
slot_of (NewGlobal name) = NewGlobalSlot
slot_of (OfKind kind index) = OfKindSlot kind
slot_of (ASetting setting) = SettingSlot
slot_of (ANumber least most number) = NumberSlot least most
slot_of (APick pick) = PickSlot
slot_of (AnAmount amount) = AmountSlot
slot_of (ANode site) = NodeSlot
slot_of (ANext parent sub) = NextSlot
slot_of (AValue value) = ValueSlot
slot_of (AFlag word is_there) = FlagSlot word
slot_of (AWait wait) = WaitSlot

-- a number's greatest value fits a machine word
abbrev pub IsFit : Part → Type 0
IsFit (ANumber least most number) = most < 2 ^ 64
IsFit part = Unit {0}

one-index : (d : Declared) (k l : NameKind) (n m : List ℕ) (i j : ℕ) → k ≡ l → n ≡ m → index_of d k n ≡ Some i → index_of d l m ≡ Some j → i ≡ j
one-index d k l n m i j p q h g =
    let same : index_of d k n ≡ index_of d l m = ap (λ x. index_of d x n) p ∙ ap (λ x. index_of d l x) q in
    let whole : Some i ≡ Some j = sym h ∙ same ∙ g in
    cc

abbrev setting_from : List ℕ → Setting
setting_from word = if is_same word (codes "retry") then Retry else (if is_same word (codes "trouble") then Trouble else (if is_same word (codes "recover") then Recover else Round))

setting-kept : (s : Setting) → setting_from (setting_word s) ≡ s
setting-kept Retry = refl
setting-kept Trouble = refl
setting-kept Recover = refl
setting-kept Round = refl

one-setting : (s t : Setting) → setting_word s ≡ setting_word t → s ≡ t
one-setting s t e = sym (setting-kept s) ∙ ap setting_from e ∙ setting-kept t

-- a number's word is the number's alone
pub one-number : (m n most : ℕ) → m ≤ most → n ≤ most → most < 2 ^ 64 → decimal m ≡ decimal n → m ≡ n
one-number m n most h k fit e = decimal_injective m n (omega (arith, h, fit)) (omega (arith, k, fit)) e

pub one-amount : (y z : ℤ) → unsigned_abs y < 10 ^ 18 → unsigned_abs z < 10 ^ 18 → signed_decimal y ≡ signed_decimal z → y ≡ z
one-amount y z h k e = signed_decimal_injective y z (mag-low y h) (mag-low z k) e

one-pick : (p q : ℕ) (text r s : List ℕ) → ((text ≡ []) × (r ≡ []) × (p ≡ 0)) ⊎ (IsAhead (decimal p) text r × (p < 2 ^ 64)) → ((text ≡ []) × (s ≡ []) × (q ≡ 0)) ⊎ (IsAhead (decimal q) text s × (q < 2 ^ 64)) → (p ≡ q) × (r ≡ s)
one-pick p q text r s (inl t) (inl u) = (t.2 ∙ sym u.2, t.1 ∙ sym u.1)
one-pick p q text r s (inl t) (inr u) = absurd (u.0.some t.0)
one-pick p q text r s (inr t) (inl u) = absurd (t.0.some u.0)
one-pick p q text r s (inr t) (inr u) =
    let same = one-ahead (decimal p) (decimal q) text r s t.0 u.0 in
    (decimal_injective p q t.1 u.1 same.0, same.1)

same-site : (a b : Site) → a.server ≡ b.server → a.node ≡ b.node → a.key ≡ b.key → a ≡ b
same-site a b p q r =
    let by-server : ℕ → Site = λ x. record { server = x; node = a.node; key = a.key } in
    let by-node : Node → Site = λ x. record { server = b.server; node = x; key = a.key } in
    let by-key : List ℕ → Site = λ x. record { server = b.server; node = b.node; key = x } in
    ap by-server p ∙ ap by-node q ∙ ap by-key r

-- a site is its node, where the node's global is declared
one-site : (globals : List Global) (a b : Site) → IsSite a → IsSite b → server_of globals a.node.name ≡ Some a.server → server_of globals b.node.name ≡ Some b.server → a.node ≡ b.node → a ≡ b
one-site globals a b is it h g e =
    let servers : Some a.server ≡ Some b.server = sym h ∙ ap (λ n. server_of globals n.name) e ∙ g in
    let server : a.server ≡ b.server = cc in
    same-site a b server e (sym is.key ∙ ap key_of e ∙ it.key)

-- what follows a node or a string is one
one-end : (a b r s : List ℕ) → a ≡ b → EndsBefore a r → EndsBefore b s → r ≡ s
one-end a b r s e p q = sym p.rest_is ∙ ap (λ x. spaces_off x) e ∙ q.rest_is

one-flag : (word other text r s : List ℕ) (x y : Bool) → word ≡ other → TakesFlag word x text r → TakesFlag other y text s → (x ≡ y) × (r ≡ s)
one-flag word other text r s true true e t u = (refl, (one-ahead word other text r s t u).1)
one-flag word other text r s true false e t u = absurd (u.0 (t.first ∙ e))
one-flag word other text r s false true e t u = absurd (t.0 (u.first ∙ sym e))
one-flag word other text r s false false e t u = (refl, t.1 ∙ sym u.1)

one-wait : (x y : Option ℕ) (text r s : List ℕ) → TakesWait x text r → TakesWait y text s → (x ≡ y) × (r ≡ s)
one-wait None None text r s t u = (refl, t.1 ∙ sym u.1)
one-wait None (Some n) text r s t (behind, ahead, number, is) = absurd (t.0 ahead.first)
one-wait (Some m) None text r s (behind, ahead, number, is) u = absurd (u.0 ahead.first)
one-wait (Some m) (Some n) text r s (a, ahead, number, is) (b, first, other, it) =
    let behind = (one-ahead (codes "wait") (codes "wait") text a b ahead first).1 in
    let same = one-ahead (decimal m) (decimal n) b r s (subst (λ (x : List ℕ). IsAhead (decimal m) x r) behind number) other in
    (ap Some (one-number m n 10000 is.1 it.1 (omega arith) same.0), same.1)

-- a parent and the subscript after it are read in one way
one-next : (d : Declared) (a b : Site) (x y : Option Sub) (text r s : List ℕ) → TakesPart d (ANext a x) text r → TakesPart d (ANext b y) text s → (ANext a x ≡ ANext b y) × (r ≡ s)
one-next d a b x y text r s (last, behind, read, is, site, declared, end) (other, next, also, it, place, known, ends) =
    let same = one-node (record { name = a.node.name; subs = a.node.subs ++ last ∷ [] }) (record { name = b.node.name; subs = b.node.subs ++ other ∷ [] }) text behind next read also in
    let names : a.node.name ≡ b.node.name = ap (λ n. n.name) same.0 in
    let lists : a.node.subs ++ last ∷ [] ≡ b.node.subs ++ other ∷ [] = ap (λ n. n.subs) same.0 in
    let parts = same_from_push a.node.subs b.node.subs last other lists in
    let nodes : a.node ≡ b.node = same-parts a.node b.node names parts.0 in
    let sites = one-site d.globals a b site place declared known nodes in
    let subs : x ≡ y = is ∙ ap asked parts.1 ∙ sym it in
    (ap (λ p. ANext p x) sites ∙ ap (λ q. ANext b q) subs, one-end behind next r s same.1 end ends)
  where
    same-parts : (m n : Node) → m.name ≡ n.name → m.subs ≡ n.subs → m ≡ n
    same-parts m n e k =
        let by-name : List ℕ → Node = λ x. record { name = x; subs = m.subs } in
        let by-subs : List Sub → Node = λ x. record { name = n.name; subs = x } in
        ap by-name e ∙ ap by-subs k

-- a text begins with one part of a kind
pub one-part : (d : Declared) (p q : Part) (text r s : List ℕ) → slot_of p ≡ slot_of q → IsFit p → TakesPart d p text r → TakesPart d q text s → (p ≡ q) × (r ≡ s)
one-part d (NewName k n) (NewName l m) text r s e fit t u =
    let same = one-ahead n m text r s t.0 u.0 in
    let kinds : k ≡ l = cc in
    let names : n ≡ m = same.0 in
    (cc, same.1)
one-part d (NewGlobal n) (NewGlobal m) text r s e fit t u =
    let same = one-ahead (94 ∷ n) (94 ∷ m) text r s t.0 u.0 in
    let words : 94 ∷ n ≡ 94 ∷ m = same.0 in
    let names : n ≡ m = cc in
    (cc, same.1)
one-part d (OfKind k i) (OfKind l j) text r s e fit (n, ahead, named, at) (m, first, also, place) =
    let same = one-ahead n m text r s ahead first in
    let kinds : k ≡ l = cc in
    let indexes : i ≡ j = one-index d k l n m i j kinds same.0 at place in
    (cc, same.1)
one-part d (ASetting x) (ASetting y) text r s e fit t u =
    let same = one-ahead (setting_word x) (setting_word y) text r s t u in
    (ap ASetting (one-setting x y same.0), same.1)
one-part d (ANumber a b m) (ANumber a' b' n) text r s e fit t u =
    let same = one-ahead (decimal m) (decimal n) text r s t.0 u.0 in
    let least : a ≡ a' = cc in
    let most : b ≡ b' = cc in
    let numbers : m ≡ n = one-number m n b t.2 (omega (arith, u.2, most)) fit same.0 in
    (cc, same.1)
one-part d (APick x) (APick y) text r s e fit t u = let same = one-pick x y text r s t u in (ap APick same.0, same.1)
one-part d (AnAmount x) (AnAmount y) text r s e fit t u =
    let same = one-ahead (signed_decimal x) (signed_decimal y) text r s t.0 u.0 in
    (ap AnAmount (one-amount x y t.1 u.1 same.0), same.1)
one-part d (ANode a) (ANode b) text r s e fit (behind, read, site, declared, end) (next, also, place, known, ends) =
    let same = one-node a.node b.node text behind next read also in
    (ap ANode (one-site d.globals a b site place declared known same.0), one-end behind next r s same.1 end ends)
one-part d (ANext a x) (ANext b y) text r s e fit t u = one-next d a b x y text r s t u
one-part d (AValue x) (AValue y) text r s e fit (behind, read, short, end) (next, also, small, ends) =
    let same = one-string x y text behind next read also in
    (ap AValue same.0, one-end behind next r s same.1 end ends)
one-part d (AFlag v x) (AFlag w y) text r s e fit t u =
    let words : v ≡ w = cc in
    let same = one-flag v w text r s x y words t u in
    let there : x ≡ y = same.0 in
    (cc, same.1)
one-part d (AWait x) (AWait y) text r s e fit t u = let same = one-wait x y text r s t u in (ap AWait same.0, same.1)
one-part d p q text r s e fit t u = cc

-- the parts that a text is are one list of their kinds
abbrev pub AreFit : List Part → Type 0
AreFit [] = Unit {0}
AreFit (p ∷ parts) = IsFit p × AreFit parts

pub one-list : (d : Declared) (ps qs : List Part) (text : List ℕ) → map slot_of ps ≡ map slot_of qs → AreFit ps → TakesParts d ps text → TakesParts d qs text → ps ≡ qs
one-list d [] [] text e fit t u = refl
one-list d [] (q ∷ qs) text e fit t u = cc
one-list d (p ∷ ps) [] text e fit t u = cc
one-list d (p ∷ ps) (q ∷ qs) text e fit (r, first, more) (s, one, others) =
    let same = one-part d p q text r s (let k : slot_of p ≡ slot_of q = cc in k) fit.0 first one in
    let rest : ps ≡ qs = one-list d ps qs s (let k : map slot_of ps ≡ map slot_of qs = cc in k) fit.1 (subst (λ (t : List ℕ). TakesParts d ps t) same.1 more) others in
    let part : p ≡ q = same.0 in
    cc
