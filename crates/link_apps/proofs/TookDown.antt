-- What is on its way downwards on a joined connection, as its first frame is taken.
use Rattle.std.proofs.Common.{◌≡◌, ◌≢◌, ◌≤◌, ◌⊎◌, inl, inr, ℕ, ◌+◌, Bool, true, false, if◌then◌else◌, List, [], ◌∷◌, ◌++◌, drop, refl, sym, ◌∙◌, ap, subst}
use Rattle.std.specs.List.{AllByRecursion, list_all, list_any}
use Rattle.std.proofs.lemmas.Bool.{and_parts, eq-eqb, ne_eqb, or_parts, true≢false}
use Rattle.std.proofs.lemmas.List.{drop-drop}
use Rattle.plain_orders.specs.declared.entry.Entry.{Entry}
use Rattle.ecp_messages.specs.declared.down.Down.{Down}
use Rattle.ecp_messages.specs.declared.down.Down.TheVariants.{Welcome, Reset, Block, Drop, Ack, Grant, Answer, Normal, Bare}
use Rattle.ecp_messages.specs.declared.down.DownFrame.{DownFrame}
use Rattle.end_words.specs.Windows.{numbered_from}
use Rattle.data_rules.specs.DataState.{DataState}
use Rattle.cluster_runs.specs.Sent.{Lane}
use Rattle.cluster_invariant.specs.Link.{DownWay, DownWhole, EndsWith, ResetIs, is_normal_frame, is_of_session}
use Rattle.cluster_invariant.specs.Words.{IsFront, is_normal_down, is_reset_down, numbered_behind, numbered_downs}

-- a frame with a number, or without one, counts so in a lane
abbrev pub Counts : DownFrame → Lane → Lane → Type 0
Counts f a b = ((f.seq ≢ 0) × (b.down_taken ≡ a.down_taken + 1)) ⊎ ((f.seq ≡ 0) × (b.down_taken ≡ a.down_taken))

-- What is taken of a lane: its messages are as they were.
pub record TakenOf (f : DownFrame) (a b : Lane) : Type 0 where
  pub counts : Counts f a b
  pub down : b.down ≡ a.down
  pub up_taken : b.up_taken ≡ a.up_taken

-- lists

abbrev rest_of : List (ℕ × Down) → List (ℕ × Down)
rest_of [] = []
rest_of (x ∷ xs) = xs

abbrev number_of : List (ℕ × Down) → ℕ
number_of [] = 0
number_of (x ∷ xs) = x.0

-- the next message is taken off
next_off : (n k : ℕ) (m : Down) (xs : List (ℕ × Down)) (ms : List Down) → numbered_behind n ms ≡ (k, m) ∷ xs → (k ≡ n + 1) × (numbered_behind (n + 1) ms ≡ xs)
next_off n k m xs ms is = go (drop n ms) refl is
  where
    go : (ys : List Down) → drop n ms ≡ ys → numbered_from n ys ≡ (k, m) ∷ xs → (k ≡ n + 1) × (numbered_behind (n + 1) ms ≡ xs)
    go [] none same = absurd (none_there same)
      where
        none_there : ◌≡◌ {A = List (ℕ × Down)} [] ((k, m) ∷ xs) → ⊥
        none_there e = absurd cc
    go (y ∷ ys) its same = (
      sym (ap number_of same),
      ap (numbered_from (n + 1)) (sym (drop-drop 1 n ms) ∙ ap (drop 1) its) ∙ ap rest_of same,
    )

seq_first : (f : DownFrame) (fs : List DownFrame) → f.seq ≢ 0 → numbered_downs (f ∷ fs) ≡ (f.seq, f.message) ∷ numbered_downs fs
seq_first f fs some = ap (λ (b : Bool). if b then numbered_downs fs else (f.seq, f.message) ∷ numbered_downs fs) (ne_eqb f.seq 0 some)

seq_none : (f : DownFrame) (fs : List DownFrame) → f.seq ≡ 0 → numbered_downs (f ∷ fs) ≡ numbered_downs fs
seq_none f fs none = ap (λ (b : Bool). if b then numbered_downs fs else (f.seq, f.message) ∷ numbered_downs fs) (eq-eqb f.seq 0 none)

-- so the next messages follow
pub next_took : (f : DownFrame) (fs : List DownFrame) (a b : Lane) → TakenOf f a b → IsFront (numbered_downs (f ∷ fs)) (numbered_behind a.down_taken a.down)
    → IsFront (numbered_downs fs) (numbered_behind b.down_taken b.down)
next_took f fs a b t front = go t.counts
  where
    go : Counts f a b → IsFront (numbered_downs fs) (numbered_behind b.down_taken b.down)
    go (inl c) =
        let off : (f.seq ≡ a.down_taken + 1) × (numbered_behind (a.down_taken + 1) a.down ≡ numbered_downs fs ++ front.0) =
        next_off a.down_taken f.seq f.message (numbered_downs fs ++ front.0) a.down (front.1 ∙ ap (λ (xs : List (ℕ × Down)). xs ++ front.0) (seq_first f fs c.0)) in
        (front.0, ap (λ (n : ℕ). numbered_behind n b.down) c.1 ∙ ap (numbered_behind (a.down_taken + 1)) t.down ∙ off.1)
    go (inr c) = (
      front.0,
      ap (λ (n : ℕ). numbered_behind n b.down) c.1 ∙ ap (numbered_behind a.down_taken) t.down ∙ front.1 ∙ ap (λ (xs : List (ℕ × Down)). xs ++ front.0) (seq_none f fs c.0),
    )

-- and a numbered one is just the next
pub next_number : (f : DownFrame) (fs : List DownFrame) (a : Lane) → f.seq ≢ 0 → IsFront (numbered_downs (f ∷ fs)) (numbered_behind a.down_taken a.down)
    → f.seq ≡ a.down_taken + 1
next_number f fs a some front =
    (next_off a.down_taken f.seq f.message (numbered_downs fs ++ front.0) a.down (front.1 ∙ ap (λ (xs : List (ℕ × Down)). xs ++ front.0) (seq_first f fs some))).0

-- All of them are on their way still.
pub whole_took : (n : DataState) (s conn : ℕ) (f : DownFrame) (fs : List DownFrame) (a b : Lane) → TakenOf f a b → DownWhole n s conn a (f ∷ fs)
    → DownWhole n s conn b fs
whole_took n s conn f fs a b t w = record { bound = w.bound; whole = go t.counts; closed = w.closed }
  where
    go : Counts f a b → numbered_downs fs ≡ numbered_behind b.down_taken b.down
    go (inl c) =
        sym (ap (λ (k : ℕ). numbered_behind k b.down) c.1 ∙ ap (numbered_behind (a.down_taken + 1)) t.down
        ∙ (next_off a.down_taken f.seq f.message (numbered_downs fs) a.down (sym w.whole ∙ seq_first f fs c.0)).1)
    go (inr c) = sym (seq_none f fs c.0) ∙ w.whole ∙ sym (ap (λ (k : ℕ). numbered_behind k b.down) c.1 ∙ ap (numbered_behind a.down_taken) t.down)

-- frames

no_reset : (es : List Entry) (stays s : ℕ) (m : Down) → is_reset_down m ≡ false → ResetIs es stays s m → ⊥
no_reset es stays s (Welcome session epoch kept front taken) none is = is
no_reset es stays s (Reset session at) none is = true≢false none
no_reset es stays s (Block front block) none is = is
no_reset es stays s (Drop front lo hi) none is = is
no_reset es stays s (Ack front) none is = is
no_reset es stays s (Grant front ticket at) none is = is
no_reset es stays s (Answer front about job number at sum) none is = is
no_reset es stays s (Normal front) none is = is
no_reset es stays s Bare none is = is

-- What is known of the first frame of a session in an order, and of those behind it.
pub record FirstFrame (es : List Entry) (stays s : ℕ) (lane : Lane) (may : Bool) (f : DownFrame) (rest : List DownFrame) : Type 0 where
  pub its : List DownFrame
  pub ends : List DownFrame
  pub all : rest ≡ its ++ ends
  pub kind : is_of_session f ≡ true
  pub kinds : list_all is_of_session its ≡ true
  pub next : IsFront (numbered_downs (f ∷ its)) (numbered_behind lane.down_taken lane.down)
  pub ack : f.ack ≤ lane.up_taken
  pub acks : AllByRecursion (λ g. g.ack ≤ lane.up_taken) its
  pub reset : EndsWith may es stays s ends
  pub no_normal : ends ≢ [] → (is_normal_frame f ≡ false) × (list_any is_normal_frame its ≡ false)

heads : (f g : DownFrame) (xs ys : List DownFrame) → f ∷ xs ≡ g ∷ ys → (f ≡ g) × (xs ≡ ys)
heads f g xs ys same = (ap first same, ap behind same)
  where
    first : List DownFrame → DownFrame
    first [] = f
    first (z ∷ zs) = z

    behind : List DownFrame → List DownFrame
    behind [] = []
    behind (z ∷ zs) = zs

pub first_frame : (es : List Entry) (stays s : ℕ) (lane : Lane) (may : Bool) (f : DownFrame) (rest : List DownFrame) → is_reset_down f.message ≡ false
    → DownWay es stays s lane may (f ∷ rest) → FirstFrame es stays s lane may f rest
first_frame es stays s lane may f rest none way = go way.its way.ends way.all way.kinds way.next way.acks way.reset way.no_normal
  where
    go : (its ends : List DownFrame) → f ∷ rest ≡ its ++ ends → list_all is_of_session its ≡ true
        → IsFront (numbered_downs its) (numbered_behind lane.down_taken lane.down) → AllByRecursion (λ g. g.ack ≤ lane.up_taken) its → EndsWith may es stays s ends
        → (ends ≢ [] → list_any is_normal_frame its ≡ false) → FirstFrame es stays s lane may f rest
    go [] [] all kinds next acks reset normal = absurd (nothing all)
      where
        nothing : f ∷ rest ≡ [] → ⊥
        nothing e = absurd cc
    go [] (g ∷ []) all kinds next acks reset normal =
        absurd (no_reset es stays s f.message none (subst (λ (z : DownFrame). ResetIs es stays s z.message) (sym (heads f g rest [] all).0) reset.1))
    go [] (g ∷ h ∷ more) all kinds next acks reset normal = absurd reset
    go (g ∷ its) ends all kinds next acks reset normal =
        subst (λ (z : DownFrame). FirstFrame es stays s lane may z rest) (sym (heads f g rest (its ++ ends) all).0) (record {
          its = its;
          ends = ends;
          all = (heads f g rest (its ++ ends) all).1;
          kind = (and_parts (is_of_session g) (list_all is_of_session its) kinds).0;
          kinds = (and_parts (is_of_session g) (list_all is_of_session its) kinds).1;
          next = next;
          ack = acks.0;
          acks = acks.1;
          reset = reset;
          no_normal = λ some. or_parts (is_normal_frame g) (list_any is_normal_frame its) (normal some);
        })

-- What follows it, where nothing ends the frames once Normal was taken.
pub way_took : (es : List Entry) (stays s : ℕ) (a b : Lane) (may now : Bool) (f : DownFrame) (rest : List DownFrame) → TakenOf f a b
    → (is_normal_down f.message ≡ true) ⊎ (now ≡ may) → FirstFrame es stays s a may f rest → DownWay es stays s b now rest
way_took es stays s a b may now f rest t why first = record {
  its = first.its;
  ends = first.ends;
  all = first.all;
  kinds = first.kinds;
  next = next_took f first.its a b t first.next;
  acks = subst (λ (n : ℕ). AllByRecursion (λ g. g.ack ≤ n) first.its) (sym t.up_taken) first.acks;
  reset = ends_now why first.ends refl first.reset;
  no_normal = λ some. (first.no_normal some).1;
}
  where
    ends_now : (is_normal_down f.message ≡ true) ⊎ (now ≡ may) → (ends : List DownFrame) → first.ends ≡ ends → EndsWith may es stays s ends → EndsWith now es stays s ends
    ends_now (inr same) ends its is = subst (λ (z : Bool). EndsWith z es stays s ends) (sym same) is
    ends_now (inl normal) [] its is = tt
    ends_now (inl normal) (g ∷ gs) its is = absurd (true≢false (sym normal ∙ (first.no_normal (λ none. some (sym its ∙ none))).0))
      where
        some : g ∷ gs ≡ [] → ⊥
        some e = absurd cc

-- What is on its way in a lane of which nothing more is taken.

pub way_taken : (es : List Entry) (stays s : ℕ) (a b : Lane) (may : Bool) (left : List DownFrame) → b.up_taken ≡ a.up_taken → b.down ≡ a.down → b.down_taken ≡ a.down_taken
    → DownWay es stays s a may left → DownWay es stays s b may left
way_taken es stays s a b may left up_taken down taken w = record {
  its = w.its;
  ends = w.ends;
  all = w.all;
  kinds = w.kinds;
  next =
      subst (λ (n : ℕ). IsFront (numbered_downs w.its) (numbered_behind n b.down)) (sym taken)
      (subst (λ (l : List Down). IsFront (numbered_downs w.its) (numbered_behind a.down_taken l)) (sym down) w.next);
  acks = subst (λ (n : ℕ). AllByRecursion (λ (g : DownFrame). g.ack ≤ n) w.its) (sym up_taken) w.acks;
  reset = w.reset;
  no_normal = w.no_normal;
}

pub whole_taken : (n : DataState) (s conn : ℕ) (a b : Lane) (left : List DownFrame) → b.down ≡ a.down → b.down_taken ≡ a.down_taken → DownWhole n s conn a left → DownWhole n s conn b left
whole_taken n s conn a b left down taken w = record {
  bound = w.bound;
  whole = w.whole ∙ sym (ap (λ (k : ℕ). numbered_behind k b.down) taken ∙ ap (numbered_behind a.down_taken) down);
  closed = w.closed;
}
