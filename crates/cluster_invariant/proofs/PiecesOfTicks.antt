-- A tick, as pieces: each end that has a live session outlasts it, or the session is closed.
use Rattle.std.proofs.Common.{◌≡◌, ◌≤◌, ◌<◌, ℕ, zero, suc, ◌+◌, Bool, true, false, if◌then◌else◌, List, [], ◌∷◌, ◌++◌, Option, Some, None, refl, sym, ◌∙◌, ap, subst, arith}
use Rattle.std.specs.Prelude.{◌==◌, nat_le}
use Rattle.std.specs.List.{AllByRecursion, range_with_len}
use Rattle.std.proofs.lemmas.Bool.{false≢true, ne_eqb}
use Rattle.plain_orders.specs.declared.causes.ShutCause.TheVariants as shuts
use Rattle.plain_orders.specs.declared.entry.Entry.{Entry}
use Rattle.plain_orders.specs.declared.entry.Entry.TheVariants.{Closed}
use Rattle.plain_orders.specs.Entries.{live_session, live_session_after}
use Rattle.plain_orders.specs.Ordered.{IsOrdered}
use Rattle.plain_orders.specs.Times.{until}
use Rattle.plain_orders.proofs.EntryLemmas.{live_session-push}
use Rattle.plain_orders.proofs.PastLemmas.{ordered_past}
use Rattle.link_states.specs.declared.data_link.DataLink.{DataLink}
use Rattle.link_states.specs.declared.data_link.DataLink.TheVariants.{Free, Normal, Trouble, Recovering}
use Rattle.link_states.specs.declared.link_event.LinkEvent.TheVariants.{Ticked}
use Rattle.link_states.specs.Tables.{data_next}
use Rattle.data_rules.specs.declared.data_in.DataIn.TheVariants as data_in
use Rattle.data_rules.specs.declared.limits.TheConstants.{APP_LIMIT}
use Rattle.data_rules.specs.declared.rows.LiveEnd.{LiveEnd}
use Rattle.data_rules.specs.Puts.{Sofar, becomes}
use Rattle.data_rules.specs.Conns.{link_of, with_event}
use Rattle.data_rules.specs.Opening.{with_end, ends_among, live_ends}
use Rattle.data_rules.specs.Messages.{is_awaited}
use Rattle.data_rules.specs.Saving.{cause_of, is_free, hears_tick, closes_late, ticks_end, ticks_one, ticks, ticks_all}
use Rattle.cluster_invariant.proofs.AllLists.{all_follow, all_both}
use Rattle.cluster_invariant.proofs.Parts.{IsPart, part_same, part_then}
use Rattle.cluster_invariant.proofs.PiecesOfCloses.{closes_askers, closes_pieces, closes_order, closes_part}
use Rattle.cluster_invariant.proofs.PiecesOfRounds.{ends_have}
use Rattle.cluster_invariant.proofs.PieceKinds.{Ticks}
use Rattle.cluster_invariant.proofs.PieceMay.{AskersLive, Coming}
use Rattle.cluster_invariant.proofs.Pieces.{Pieced, no_piece, one_piece, and_then}

-- its session is the live one of the end
abbrev Has : List Entry → LiveEnd → Type 0
Has es x = live_session es x.app ≡ Some x.session

-- another session than this
abbrev IsOther : LiveEnd → LiveEnd → Type 0
IsOther x y = (y.session == x.session) ≡ false

-- no session comes twice
abbrev AreApart : List LiveEnd → Type 0
AreApart [] = Unit {0}
AreApart (x ∷ xs) = AllByRecursion (IsOther x) xs × AreApart xs

-- a Close leaves the live sessions of other ends
has_still : (es : List Entry) (x y : LiveEnd) → IsOther x y → Has es y → Has (es ++ Closed x.session ∷ []) y
has_still es x y other has =
    live_session-push es (Closed x.session) y.app ∙ ap (λ (o : Option ℕ). live_session_after o (Closed x.session) y.app) has
    ∙ ap (λ (same : Bool). if same then None else Some y.session) other

-- an end ticks, and others keep their sessions
record TickedOne (t : Coming) (x : LiveEnd) (b c : Sofar) : Type 0 where
  by : Pieced t b c
  part : IsPart c.state.locks.requests b.state.locks.requests
  askers : AskersLive b.state → AskersLive c.state
  keeps : (y : LiveEnd) → IsOther x y → Has b.state.order y → Has c.state.order y

module _ (t : Coming) (tick : t.input ≡ data_in.Tick) (x : LiveEnd) (b : Sofar) (has : Has b.state.order x)
    (from : IsPart b.state.locks.requests t.old.locks.requests) (left : AskersLive t.old → AskersLive b.state) where
  -- the end outlasts it
  outlasts : data_next b.state.times t.now (link_of b.state x.app) Ticked ≡ link_of b.state x.app → TickedOne t x b (becomes (with_event x.app t.now Ticked) b)
  outlasts same = record {
    by = one_piece t (Ticks x.app x.session) b (record { came = tick; has = has; same = same });
    part = part_same b.state.locks.requests;
    askers = λ lives. lives;
    keeps = λ y other its. its;
  }

  module _ (hears : hears_tick (link_of b.state x.app) (is_awaited b.state x.session) ≡ true) where
    in_trouble : (broke : ℕ) → link_of b.state x.app ≡ Trouble broke → (late : Bool) → nat_le (until broke b.state.times.trouble) t.now ≡ late
        → TickedOne t x b (becomes (with_event x.app t.now Ticked)
        (closes_late (is_free (if late then Free else Trouble broke)) x.session t.now (shuts.Trouble t.now) b))
    in_trouble broke its true late = record {
      by = closes_pieces t x.session x.app b (shuts.Trouble t.now) (record {
        has = has;
        why = record {
          came = tick;
          hears = hears;
          free = ap (λ (l : DataLink). data_next b.state.times t.now l Ticked) its ∙ ap (λ (y : Bool). if y then Free else Trouble broke) late;
          its_cause = sym (ap (λ (l : DataLink). cause_of l t.now) its);
        };
      }) from left;
      part = closes_part x.session (shuts.Trouble t.now) b;
      askers = closes_askers x.session (shuts.Trouble t.now) b;
      keeps = λ y other its. subst (λ (es : List Entry). Has es y) (sym (closes_order x.session (shuts.Trouble t.now) b))
          (has_still b.state.order x y other its);
    }
    in_trouble broke its false early =
        outlasts (ap (λ (l : DataLink). data_next b.state.times t.now l Ticked) its ∙ ap (λ (y : Bool). if y then Free else Trouble broke) early ∙ sym its)

    in_round : (due : ℕ) → link_of b.state x.app ≡ Recovering due → (late : Bool) → nat_le due t.now ≡ late
        → TickedOne t x b (becomes (with_event x.app t.now Ticked)
        (closes_late (is_free (if late then Free else Recovering due)) x.session t.now (shuts.Round t.now) b))
    in_round due its true late = record {
      by = closes_pieces t x.session x.app b (shuts.Round t.now) (record {
        has = has;
        why = record {
          came = tick;
          hears = hears;
          free = ap (λ (l : DataLink). data_next b.state.times t.now l Ticked) its ∙ ap (λ (y : Bool). if y then Free else Recovering due) late;
          its_cause = sym (ap (λ (l : DataLink). cause_of l t.now) its);
        };
      }) from left;
      part = closes_part x.session (shuts.Round t.now) b;
      askers = closes_askers x.session (shuts.Round t.now) b;
      keeps = λ y other its. subst (λ (es : List Entry). Has es y) (sym (closes_order x.session (shuts.Round t.now) b))
          (has_still b.state.order x y other its);
    }
    in_round due its false early =
        outlasts (ap (λ (l : DataLink). data_next b.state.times t.now l Ticked) its ∙ ap (λ (y : Bool). if y then Free else Recovering due) early ∙ sym its)

    by_link : (l : DataLink) → link_of b.state x.app ≡ l
        → TickedOne t x b (becomes (with_event x.app t.now Ticked)
        (closes_late (is_free (data_next b.state.times t.now l Ticked)) x.session t.now (cause_of l t.now) b))
    by_link Free its = absurd (false≢true (sym (ap (λ (l : DataLink). hears_tick l (is_awaited b.state x.session)) its) ∙ hears))
    by_link Normal its = outlasts (ap (λ (l : DataLink). data_next b.state.times t.now l Ticked) its ∙ sym its)
    by_link (Trouble broke) its = in_trouble broke its (nat_le (until broke b.state.times.trouble) t.now) refl
    by_link (Recovering due) its = in_round due its (nat_le due t.now) refl

  ticks_end_one : (hears : Bool) → hears_tick (link_of b.state x.app) (is_awaited b.state x.session) ≡ hears
      → TickedOne t x b (ticks_end hears x.app x.session t.now b)
  ticks_end_one true hears = by_link hears (link_of b.state x.app) refl
  ticks_end_one false deaf = record { by = no_piece t b; part = part_same b.state.locks.requests; askers = λ lives. lives; keeps = λ y other its. its }

ticks_pieces : (t : Coming) → t.input ≡ data_in.Tick → (xs : List LiveEnd) (b : Sofar) → AreApart xs → AllByRecursion (Has b.state.order) xs
    → IsPart b.state.locks.requests t.old.locks.requests → (AskersLive t.old → AskersLive b.state) → Pieced t b (ticks xs t.now b)
ticks_pieces t tick [] b apart has from left = no_piece t b
ticks_pieces t tick (x ∷ xs) b apart has from left =
    go (ticks_one x t.now b) (ticks_end_one t tick x b has.0 from left (hears_tick (link_of b.state x.app) (is_awaited b.state x.session)) refl)
    (ticks_pieces t tick xs (ticks_one x t.now b))
  where
    go : (c : Sofar) → TickedOne t x b c
        → (AreApart xs → AllByRecursion (Has c.state.order) xs → IsPart c.state.locks.requests t.old.locks.requests → (AskersLive t.old → AskersLive c.state)
        → Pieced t c (ticks xs t.now c))
        → Pieced t b (ticks xs t.now c)
    go c first more =
        and_then t b c (ticks xs t.now c) first.by
        (more apart.1 (all_follow (λ y. IsOther x y × Has b.state.order y) (Has c.state.order) (λ y both. first.keeps y both.0 both.1) xs
        (all_both (IsOther x) (Has b.state.order) xs apart.0 has.1))
        (part_then c.state.locks.requests b.state.locks.requests t.old.locks.requests first.part from) (λ old. first.askers (left old)))

-- the ends are told apart by their application servers
high_ends : (es : List Entry) (apps : List ℕ) (n : ℕ) → AllByRecursion (λ a. n ≤ a) apps → AllByRecursion (λ (x : LiveEnd). n ≤ x.app) (ends_among apps es)
high_ends es [] n high = tt
high_ends es (app ∷ apps) n high = go (live_session es app) (high_ends es apps n high.1)
  where
    go : (o : Option ℕ) → AllByRecursion (λ (x : LiveEnd). n ≤ x.app) (ends_among apps es)
        → AllByRecursion (λ (x : LiveEnd). n ≤ x.app) (with_end o app (ends_among apps es))
    go None more = more
    go (Some s) more = (high.0, more)

high_apps : (a n k : ℕ) → k ≤ a → AllByRecursion (λ (m : ℕ). k ≤ m) (range_with_len a n)
high_apps a zero k low = tt
high_apps a (suc n) k low = (low, high_apps (a + 1) n k (omega (arith, low)))

-- a session is the live one of one application server alone
one_each : (es : List Entry) → IsOrdered es → (x : LiveEnd) → Has es x → (y : LiveEnd) → (x.app < y.app) × Has es y → IsOther x y
one_each es ordered x has y at =
    ne_eqb y.session x.session
    (λ same. (let one : x.app ≡ y.app = (ordered_past es ordered).has_one x.app y.app x.session has (at.1 ∙ ap Some same) in absurd (omega (arith, one, at.0))))

ends_apart : (es : List Entry) → IsOrdered es → (a n : ℕ) → AreApart (ends_among (range_with_len a n) es)
ends_apart es ordered a zero = tt
ends_apart es ordered a (suc n) = go (live_session es a) refl (ends_apart es ordered (a + 1) n)
  where
    go : (o : Option ℕ) → live_session es a ≡ o → AreApart (ends_among (range_with_len (a + 1) n) es)
        → AreApart (with_end o a (ends_among (range_with_len (a + 1) n) es))
    go None its more = more
    go (Some s) its more = (
      all_follow (λ (y : LiveEnd). (a < y.app) × Has es y) (IsOther (record { app = a; session = s }))
          (one_each es ordered (record { app = a; session = s }) its) (ends_among (range_with_len (a + 1) n) es)
          (all_both (λ (y : LiveEnd). a < y.app) (Has es) (ends_among (range_with_len (a + 1) n) es)
          (all_follow (λ (y : LiveEnd). a + 1 ≤ y.app) (λ (y : LiveEnd). a < y.app) (λ y low. omega (arith, low)) (ends_among (range_with_len (a + 1) n) es)
          (high_ends es (range_with_len (a + 1) n) (a + 1) (high_apps (a + 1) n (a + 1) (omega arith))))
          (ends_have (range_with_len (a + 1) n) es)),
      more,
    )

-- A tick at all that have a live session.
pub tick_pieces : (t : Coming) → t.input ≡ data_in.Tick → (b : Sofar) → IsOrdered b.state.order → IsPart b.state.locks.requests t.old.locks.requests
    → (AskersLive t.old → AskersLive b.state) → Pieced t b (ticks_all t.now b)
tick_pieces t tick b ordered from left =
    ticks_pieces t tick (live_ends b.state.order) b (ends_apart b.state.order ordered 0 APP_LIMIT) (ends_have (range_with_len 0 APP_LIMIT) b.state.order)
    from left
