use Rattle.std.proofs.Common.{refl, sym, rules}
use Rattle.std.proofs.lemmas.Result.{on_ok_weaker}
use Rattle.session_books.proofs.BooksLemmas.{item_missing, books_item}
use Rattle.session_books.proofs.session_books.SessionBooks.take_item.Goals as goal

pub returns-in-None : goal.returns-in-None
returns-in-None c = λ es e sum t is owes.
    absurd (item_missing es e c.args.session c.args.w c.args.at sum c.args.owed c.args.self.now c.args.self.now t is c.requires owes (sym c.in-None.ensures.value))

pub returns-in-Some : goal.returns-in-Some
returns-in-Some c = on_ok_weaker c.take_item.result (λ took es e sum t is owes.
    books_item es e c.args.session c.args.w c.args.at sum c.args.owed c.args.self.now _ t is c.requires owes c.in-Some.book.now c.take_item.new.self (sym c.in-Some.ensures.value) took
    refl refl refl refl refl ((c.get_mut.follows.holds c.take_item.new.self).3 (search rules)).0) c.take_item.ensures
