-- A table of messages: the kind tells which fields there are, and these tell the message.
use Rattle.std.proofs.Common.{◌≡◌, ℕ, List, map, sym, ap, ◌∙◌, true, false}
use Rattle.ecp_messages.specs.Rows.{KindRow}
use Rattle.ecp_messages.specs.Taking.{AreAhead, IsAhead, NoMessage}
use Rattle.ecp_messages.proofs.FieldKinds.{Kind, kind_of, fields-free}
use Rattle.ecp_messages.proofs.Taken.{NoFields}

-- the kinds of a message's fields go by its kind, and one kind and the same fields are one message
pub record IsTable {M : Type 0} (row : M → KindRow) (kinds : ℕ → List Kind) : Type 0 where
  pub kinds_are : (m : M) → map kind_of (row m).fields ≡ kinds (row m).kind
  pub one : (m n : M) → (row m).kind ≡ (row n).kind → (row m).fields ≡ (row n).fields → m ≡ n

-- where fields of these kinds are missing, the message is
pub no-message : {M : Type 0} (row : M → KindRow) (kinds : ℕ → List Kind) → IsTable row kinds → (kind : ℕ) (bytes : List ℕ) → NoFields (kinds kind) bytes → NoMessage row kind bytes
no-message row kinds t kind bytes none = record {
  none = λ m rest a. none.none (row m).fields rest (t.kinds_are m ∙ ap kinds a.kind_is) a.fields.within a.fields.stand;
}

-- two messages of one kind ahead are one
pub one-message : {M : Type 0} (row : M → KindRow) (kinds : ℕ → List Kind) → IsTable row kinds → (kind : ℕ) (bytes : List ℕ) (m n : M) (r s : List ℕ) → IsAhead row kind bytes m r → IsAhead row kind bytes n s → (m ≡ n) × (r ≡ s)
one-message row kinds t kind bytes m n r s a b =
    let same : map kind_of (row m).fields ≡ map kind_of (row n).fields = t.kinds_are m ∙ ap kinds (a.kind_is ∙ sym b.kind_is) ∙ sym (t.kinds_are n) in
    let one = fields-free (row m).fields (row n).fields r s same a.fields.within b.fields.within (sym a.fields.stand ∙ b.fields.stand) in
    (t.one m n (a.kind_is ∙ sym b.kind_is) one.0, one.1)

-- where the sum is one that the message may not have, the message is missing
pub no-sum : {M : Type 0} (row : M → KindRow) (kinds : ℕ → List Kind) → IsTable row kinds → (kind : ℕ) (bytes : List ℕ) (m : M) (rest : List ℕ) → (row m).kind ≡ kind → AreAhead (row m).fields bytes rest → (row m).sum_kept ≡ false → NoMessage row kind bytes
no-sum row kinds t kind bytes m rest k a wrong = record {
  none = λ n more b.
      let same : map kind_of (row m).fields ≡ map kind_of (row n).fields = t.kinds_are m ∙ ap kinds (k ∙ sym b.kind_is) ∙ sym (t.kinds_are n) in
      let one = fields-free (row m).fields (row n).fields rest more same a.within b.fields.within (sym a.stand ∙ b.fields.stand) in
      let kept : (row m).sum_kept ≡ true = ap (λ x. (row x).sum_kept) (t.one m n (k ∙ sym b.kind_is) one.0) ∙ b.sum in
      absurd (cc);
}
