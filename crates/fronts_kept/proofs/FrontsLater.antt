-- The fronts of application ends whose states are as they were, as orders and lanes go on.
use Rattle.std.proofs.Common.{◌≡◌, ◌≤◌, ℕ, Bool, false, List, length, take, Option, Some, None, refl, sym, ◌∙◌, ap, subst, arith, []}
use Rattle.std.specs.Prelude.{IfSome}
use Rattle.std.specs.List.{AllByRecursion}
use Rattle.std.proofs.lemmas.List.{take-append-le, length-append}
use Rattle.plain_orders.specs.declared.entry.Entry.{Entry}
use Rattle.plain_orders.specs.Entries.{count}
use Rattle.plain_runs.specs.Plain.{Server, current, order_at}
use Rattle.subscript_keys.specs.declared.run.Run.{Run}
use Rattle.ecp_messages.specs.declared.down.Down.{Down}
use Rattle.ecp_messages.specs.declared.front.Front.{Front}
use Rattle.app_rules.specs.AppState.{AppEnd, Session}
use Rattle.app_rules.specs.Looks.{Shown}
use Rattle.cluster_runs.specs.Sent.{Lane, Place, downs_taken}
use Rattle.cluster_runs.specs.Machine.{Site, End}
use Rattle.cluster_invariant.specs.Ends.{EndsAre}
use Rattle.cluster_invariant.specs.Fronts.{last_front, Stands, FrontIs, FrontsHold, ShownIs, ShownOf, Stands}
use Rattle.cluster_invariant.specs.Words.{IsFront}
use Rattle.link_kept.proofs.ShortMoves.{told_there}

-- A lane with the Welcome that began it and with what was taken of it.
pub record SameTaken (a b : Lane) : Type 0 where
  pub front : b.front ≡ a.front
  pub taken : downs_taken b ≡ downs_taken a

-- what was taken of a lane is as it was where more is put behind
pub taken_same : (a b : Lane) → a.down_taken ≤ length a.down → b.front ≡ a.front → IsFront a.down b.down → b.down_taken ≡ a.down_taken → SameTaken a b
taken_same a b low front down taken = record {
  front = front;
  taken =
      ap (λ (n : ℕ). take n b.down) taken ∙ ap (λ (ms : List Down). take a.down_taken ms) down.1 ∙ take-append-le a.down_taken a.down down.0 low;
}

pub same_taken : (a : Lane) → SameTaken a a
same_taken a = record { front = refl; taken = refl }

-- a session's front stays its front
pub front_later : (es fs : List Entry) (a b : Lane) (number n w : ℕ) (cache : List Run) → IsFront es fs → SameTaken a b → FrontIs es a number n w cache
    → FrontIs fs b number n w cache
front_later es fs a b number n w cache on same is = record {
  at =
      is.at ∙ sym (ap (λ (f : Front). (last_front f (downs_taken b)).n) same.front ∙ ap (λ (ms : List Down). (last_front a.front ms).n) same.taken);
  with_count =
      is.with_count ∙ sym (ap (λ (f : Front). (last_front f (downs_taken b)).w) same.front ∙ ap (λ (ms : List Down). (last_front a.front ms).w) same.taken);
  within = omega (arith, is.within, ap (λ (xs : List Entry). length xs) on.1, length-append es on.0);
  counted = is.counted ∙ ap (λ (xs : List Entry). count xs number) (sym (take-append-le n es on.0 is.within) ∙ ap (take n) (sym on.1));
  runs = subst (λ (ms : List Down). AllByRecursion (λ (run : Run). Stands run ms) cache) (sym same.taken) is.runs;
}

-- what is published stays what came
pub shown_later : (a b : Lane) (s : Session) (y : Shown) → SameTaken a b → ShownIs a s y → ShownIs b s y
shown_later a b s y same is = record {
  runs = subst (λ (ms : List Down). AllByRecursion (λ (run : Run). Stands run ms) y.runs) (sym same.taken) is.runs;
  front = is.front;
}

-- ends with the same state, with the same published, and told of the same
pub record SameEnds (x y : Site) : Type 0 where
  pub state : (app : ℕ) → (y.end_at app).state ≡ (x.end_at app).state
  pub told : (app : ℕ) → (y.end_at app).told ≡ (x.end_at app).told
  pub shown : (app : ℕ) → (y.end_at app).shown ≡ (x.end_at app).shown

module _ (v w : Server) (x y : Site) (goes_on : (k : ℕ) → k ≤ current v → IsFront (order_at v k) (order_at w k))
    (lanes : (s k : ℕ) → SameTaken (x.lane_at s k) (y.lane_at s k)) where
  front_of_later : (told : Option Place) (s : Session) → IfSome told (λ p. p.order ≤ current v)
      → IfSome told (λ p. FrontIs (order_at v p.order) (x.lane_at s.number p.order) s.number s.n s.w s.cache)
      → IfSome told (λ p. FrontIs (order_at w p.order) (y.lane_at s.number p.order) s.number s.n s.w s.cache)
  front_of_later None s low is = tt
  front_of_later (Some p) s low is =
      front_later (order_at v p.order) (order_at w p.order) (x.lane_at s.number p.order) (y.lane_at s.number p.order) s.number s.n s.w s.cache
      (goes_on p.order low) (lanes s.number p.order) is

  -- the session of an end, by what it is told of
  abbrev FrontBy : Server → Site → Option Place → Option Session → Type 0
  FrontBy u z told o = IfSome o (λ s. IfSome told (λ p. FrontIs (order_at u p.order) (z.lane_at s.number p.order) s.number s.n s.w s.cache))

  fronts_by : (told : Option Place) (o : Option Session) → IfSome o (λ s. IfSome told (λ p. p.order ≤ current v)) → FrontBy v x told o → FrontBy w y told o
  fronts_by told None low is = tt
  fronts_by told (Some s) low is = front_of_later told s low is

  abbrev ShownBy : Site → Option Place → Shown → Option Session → Type 0
  ShownBy z told shown None = shown.runs ≡ []
  ShownBy z told shown (Some s) = IfSome told (λ p. ShownIs (z.lane_at s.number p.order) s shown)

  shown_by : (told : Option Place) (shown : Shown) (o : Option Session) → ShownBy x told shown o → ShownBy y told shown o
  shown_by told shown None is = is
  shown_by None shown (Some s) is = tt
  shown_by (Some p) shown (Some s) is = shown_later (x.lane_at s.number p.order) (y.lane_at s.number p.order) s shown (lanes s.number p.order) is

  shown_as : (z : Site) (e : End) (o : Option Session) → ShownOf z e o → ShownBy z e.told e.shown o
  shown_as z e None is = is
  shown_as z e (Some s) is = is

  as_shown : (z : Site) (e : End) (o : Option Session) → ShownBy z e.told e.shown o → ShownOf z e o
  as_shown z e None is = is
  as_shown z e (Some s) is = is

  -- Ends that a move leaves keep their fronts, where no dead one comes alive.
  pub fronts_later : (dead gone : ℕ → Bool) → SameEnds x y → ((app : ℕ) → gone app ≡ false → dead app ≡ false) → EndsAre v x dead → FrontsHold v x dead → FrontsHold w y gone
  fronts_later dead gone same more ends fronts = record {
    apps =
        λ app alive.
        subst (λ (e : AppEnd). FrontBy w y (y.end_at app).told e.session) (sym (same.state app))
        (subst (λ (p : Option Place). FrontBy w y p (x.end_at app).state.session) (sym (same.told app))
        (fronts_by (x.end_at app).told (x.end_at app).state.session (told_there v app (x.end_at app) (ends.told app (more app alive))) (fronts.apps app (more app alive))));
    shown =
        λ app alive.
        as_shown y (y.end_at app) (y.end_at app).state.session
        (subst (λ (e : AppEnd). ShownBy y (y.end_at app).told (y.end_at app).shown e.session) (sym (same.state app))
        (subst (λ (p : Option Place). ShownBy y p (y.end_at app).shown (x.end_at app).state.session) (sym (same.told app))
        (subst (λ (z : Shown). ShownBy y (x.end_at app).told z (x.end_at app).state.session) (sym (same.shown app))
        (shown_by (x.end_at app).told (x.end_at app).shown (x.end_at app).state.session
        (shown_as x (x.end_at app) (x.end_at app).state.session (fronts.shown app (more app alive)))))));
  }
