-- What the end of a transaction comes to, moment by moment.
use Rattle.std.proofs.Common.{◌≡◌, ◌⊎◌, inl, inr, ℕ, true, false, List, [], ◌∷◌, ◌++◌, refl, sym, subst}
use Rattle.std.proofs.lemmas.List.{append-nil, append_assoc}
use Rattle.plain_orders.specs.declared.act.Act.{Act}
use Rattle.plain_orders.specs.declared.act.Act.TheVariants.{Issue, GiveUp, Level, Done}
use Rattle.plain_orders.specs.declared.item.Item.{Item}
use Rattle.plain_orders.specs.declared.layout.Layout.{Layout}
use Rattle.app_job.specs.declared.answer.Answer.{Answer}
use Rattle.app_job.specs.declared.answer.Answer.TheVariants.{Queued, Done as DoneAnswer}
use Rattle.app_job.specs.declared.place.Place.{Place}
use Rattle.script_fits.specs.Moments.{Moment, acts_in, AreTogether}
use Rattle.script_fits.specs.Locking.{HeldBack, Past, is_still_held, GivesBack}
use Rattle.script_fits.specs.Committing.{AreIssued, PutsEnds, EndsEmpty, EndsQueued, EndsAnswered}
use Rattle.fit_examples.proofs.FirstMoments.{first_is}

-- the held back unlocks at their turns, level 0, and then what is left
abbrev pub GivesOn : Layout → ℕ → ℕ → (List Moment → Type 0) → List HeldBack → List Moment → Type 0
GivesOn l job line Left [] [] = ⊥
GivesOn l job line Left [] (m ∷ ms) = (m.act ≡ Level job line 0) × Left ms
GivesOn l job line Left (h ∷ hs) [] = ⊥
GivesOn l job line Left (h ∷ hs) (m ∷ ms) =
    ((is_still_held l m.before job h ≡ false) × GivesOn l job line Left hs (m ∷ ms))
    ⊎ ((is_still_held l m.before job h ≡ true) × (m.act ≡ GiveUp job line h.server h.mode h.key) × GivesOn l job line Left hs ms)

-- an item at each data server before that
abbrev pub PutsOn : Layout → ℕ → ℕ → Item → (List Moment → Type 0) → List HeldBack → List ℕ → List Moment → List Place → Type 0
PutsOn l job line item Left hs [] ms places = (places ≡ []) × GivesOn l job line Left hs ms
PutsOn l job line item Left hs (d ∷ ds) [] places = ⊥
PutsOn l job line item Left hs (d ∷ ds) (m ∷ ms) places =
    (w : ℕ) × (others : List Place) × (m.act ≡ Issue job line d w item) × (places ≡ record { server = d; number = w } ∷ others) × PutsOn l job line item Left hs ds ms others

gives_on : (l : Layout) (job line : ℕ) (Left : List Moment → Type 0) (hs : List HeldBack) (given : List Moment) (closing : Moment) (left : List Moment)
    → GivesBack l job line hs given closing → closing.act ≡ Level job line 0 → Left left → GivesOn l job line Left hs (given ++ closing ∷ left)
gives_on l job line Left [] given closing left e level more = subst (λ g. GivesOn l job line Left [] (g ++ closing ∷ left)) (sym e) (level, more)
gives_on l job line Left (h ∷ hs) [] closing left (rest, inl (free, same), others) level more =
    inl (free, subst (λ g. GivesOn l job line Left hs (g ++ closing ∷ left)) same (gives_on l job line Left hs rest closing left others level more))
gives_on l job line Left (h ∷ hs) [] closing left (rest, inr (held, (m, e, act)), others) level more = absurd (cc e)
gives_on l job line Left (h ∷ hs) (g ∷ given) closing left (rest, inl (free, same), others) level more =
    inl (free, subst (λ x. GivesOn l job line Left hs (x ++ closing ∷ left)) same (gives_on l job line Left hs rest closing left others level more))
gives_on l job line Left (h ∷ hs) (g ∷ given) closing left (rest, inr (held, (m, e, act)), others) level more =
    inr (
      held,
      subst (λ (x : Moment). x.act ≡ GiveUp job line h.server h.mode h.key) (sym (first_is g m given rest e)) act,
      subst (λ x. GivesOn l job line Left hs (x ++ closing ∷ left)) (cc e) (gives_on l job line Left hs rest closing left others level more),
    )

issued_on : (l : Layout) (job line : ℕ) (item : Item) (Left : List Moment → Type 0) (hs : List HeldBack) (ds : List ℕ) (issued tail : List Moment) (places : List Place)
    → AreIssued job line item ds (acts_in issued) places → GivesOn l job line Left hs tail → PutsOn l job line item Left hs ds (issued ++ tail) places
issued_on l job line item Left hs [] [] tail places (e, p) gives = (p, gives)
issued_on l job line item Left hs [] (i ∷ issued) tail places (e, p) gives = absurd (cc e)
issued_on l job line item Left hs (d ∷ ds) [] tail places (w, rest, others, e, p, are) gives = absurd (cc e)
issued_on l job line item Left hs (d ∷ ds) (i ∷ issued) tail places (w, rest, others, e, p, are) gives =
    (w, others, cc e, p, issued_on l job line item Left hs ds issued tail others (subst (λ x. AreIssued job line item ds x others) (cc e) are) gives)

-- what is put, with what is left after it
pub puts_on : (l : Layout) (job line : ℕ) (item : Item) (Left : List Moment → Type 0) (ds : List ℕ) (past : Past) (put left : List Moment) (places : List Place)
    → PutsEnds l job line item ds past put places → Left left → PutsOn l job line item Left past.held_back ds (put ++ left) places
puts_on l job line item Left ds past put left places puts more =
    subst (λ ms. PutsOn l job line item Left past.held_back ds ms places) (cc (puts.whole, append_assoc puts.issued (puts.given ++ puts.closing ∷ []) left, append_assoc puts.given (puts.closing ∷ []) left))
    (issued_on l job line item Left past.held_back ds puts.issued (puts.given ++ puts.closing ∷ left) places puts.items
    (gives_on l job line Left past.held_back puts.given puts.closing left puts.unlocks puts.level more))

-- the end of a transaction alone is left
abbrev pub LeavesDone : ℕ → ℕ → List Moment → Type 0
LeavesDone job line left = (m : Moment) × (left ≡ m ∷ []) × (m.act ≡ Done job line)

-- the answers are left
abbrev pub LeavesAnswers : (List ℕ → List Act → List Place → Type 0) → List ℕ → List Place → List Moment → Type 0
LeavesAnswers AreAnswered ds places left = AreTogether left × AreAnswered ds (acts_in left) places

-- nothing is left
abbrev pub LeavesNothing : List Moment → Type 0
LeavesNothing left = left ≡ []

pub empty_on : (l : Layout) (job line : ℕ) (item : Item) (past : Past) (ms : List Moment) (answer : Answer)
    → EndsEmpty l job line item past ms answer → PutsOn l job line item (LeavesDone job line) past.held_back [] ms [] × AreTogether ms × (answer ≡ DoneAnswer)
empty_on l job line item past ms answer (put, m, e, together, puts, act, a) =
    (subst (λ x. PutsOn l job line item (LeavesDone job line) past.held_back [] x []) (sym e) (puts_on l job line item (LeavesDone job line) [] past put (m ∷ []) [] puts (m, refl, act)), together, a)

pub queued_on : (l : Layout) (job line : ℕ) (item : Item) (ds : List ℕ) (past : Past) (ms : List Moment) (answer : Answer)
    → EndsQueued l job line item ds past ms answer → (places : List Place) × PutsOn l job line item LeavesNothing past.held_back ds ms places × AreTogether ms × (answer ≡ Queued places)
queued_on l job line item ds past ms answer (places, some, puts, a) =
    (places, subst (λ x. PutsOn l job line item LeavesNothing past.held_back ds x places) (append-nil ms) (puts_on l job line item LeavesNothing ds past ms [] places puts refl), puts.together, a)

pub answered_on : (AreAnswered : List ℕ → List Act → List Place → Type 0) (l : Layout) (job line : ℕ) (item : Item) (ds : List ℕ) (past : Past) (ms : List Moment) (places : List Place)
    → EndsAnswered AreAnswered l job line item ds past ms places
    → (numbers : List Place) × PutsOn l job line item (LeavesAnswers AreAnswered ds places) past.held_back ds ms numbers
answered_on AreAnswered l job line item ds past ms places (put, told, numbers, some, e, together, puts, are) = (
  numbers,
  subst (λ x. PutsOn l job line item (LeavesAnswers AreAnswered ds places) past.held_back ds x numbers) (sym e)
      (puts_on l job line item (LeavesAnswers AreAnswered ds places) ds past put told numbers puts (together, are)),
)
