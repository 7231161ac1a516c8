use Rattle.std.proofs.Common.{refl}
use Rattle.session_books.proofs.BooksLemmas.{books_open}
use Rattle.session_books.proofs.session_books.SessionBooks.take_open.Goals as goal

pub returns : goal.returns
returns c = λ es sum t.
    books_open es c.args.session c.args.app c.in_ok-at.at sum c.args.self.now _ t c.in_ok-at.ensures c.new.result c.new.ensures refl refl refl
    c.in_ok-insert.ensures.updates.0 c.in_ok-push.ensures.items c.in_ok-insert-2.ensures.updates.0
