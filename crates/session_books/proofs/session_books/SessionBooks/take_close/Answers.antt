use Rattle.std.proofs.Common.{refl, sym, rules}
use Rattle.std.proofs.lemmas.Fn.{filter_same}
use Rattle.session_books.proofs.LiveLemmas.{is_not}
use Rattle.session_books.proofs.BooksLemmas.{close_missing, books_close}
use Rattle.session_books.proofs.session_books.SessionBooks.take_close.Goals as goal

pub returns-in_default : goal.returns-in_default
returns-in_default c = λ es sum t.
    absurd (close_missing es c.args.session c.in_ok-at.at sum c.args.self.now c.args.self.now t c.in_ok-at.ensures (sym c.in_default.ensures.value))

pub returns : goal.returns
returns c = λ es sum t.
    books_close es c.args.session c.in_ok-at.at sum c.args.self.now _ t c.in_ok-at.ensures c.in-Some.book.now c.close-app.new.self (sym c.in-Some.ensures.value) c.close-app.ensures.closed refl refl refl
    (λ q. rw (← c.close-app.ensures.app) (c.remove.ensures.updates.0 q))
    (filter_same _ (is_not c.args.session) _ (λ x b f u. search rules) _ _ c.retain.ensures.filtered)
    ((c.get_mut.follows.holds c.close-app.new.self).3 (search rules)).0
