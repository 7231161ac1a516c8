use Rattle.std.proofs.Common.{refl}
use Rattle.session_books.proofs.BooksLemmas.{books_epoch}
use Rattle.session_books.proofs.session_books.SessionBooks.take_epoch.Goals as goal

pub returns : goal.returns
returns c = λ es sum t. books_epoch es c.args.number c.in_ok-at.at sum c.args.self.now _ t c.in_ok-at.ensures refl refl c.in_ok-push.ensures.items refl refl refl
