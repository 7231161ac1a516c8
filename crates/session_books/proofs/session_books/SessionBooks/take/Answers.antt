use Rattle.std.proofs.Common.{sym, subst, inl, inr}
use Rattle.std.proofs.lemmas.Result.{on_ok_weaker}
use Rattle.session_books.specs.Books.{IsItem}
use Rattle.session_books.proofs.BooksLemmas.{itself_at}
use Rattle.session_books.proofs.session_books.SessionBooks.take.Goals as goal

pub returns-in_ok-at-in-Update : goal.returns-in_ok-at-in-Update
returns-in_ok-at-in-Update c =
    let s = c.in-Update.session in
    let w = c.in-Update.w in
    let is : IsItem s w c.args.entry.now = elim c.in-Update.is [
      | inl x ↦ subst (IsItem s w) (sym x.3) (itself_at s w)
      | inr y ↦ elim y [
        | inl x ↦ subst (IsItem s w) (sym x.2) (itself_at s w)
        | inr x ↦ subst (IsItem s w) (sym x.2) (itself_at s w)
      ]
    ] in
    on_ok_weaker c.take_item.result (λ told es t. told es c.args.entry.now c.args.sum t is c.owed_entry.ensures) c.take_item.ensures
