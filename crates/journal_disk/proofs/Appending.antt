-- What a disk stands for while batches are written to it.
use Rattle.std.proofs.Common.{◌≡◌, ◌⊎◌, inl, inr, ⊎_elim, ℕ, ◌+◌, ◌<◌, ◌≤◌, List, [], ◌∷◌, ◌++◌, length, take, drop, get_or, map, Option, None, Some, refl, sym, ◌∙◌, ap, subst, arith, append_assoc, take-append-drop}
use Rattle.std.specs.Option.{ForSome}
use Rattle.std.specs.List.{flat_map, AllByRecursion}
use Rattle.std.proofs.lemmas.Bool.{cases_eq}
use Rattle.std.proofs.lemmas.List.{append-nil, length-append, length-map, length-take, take_at, drop_at, drop_more}
use Rattle.std.proofs.lemmas.Grind.{flat_map-append}
use Rattle.plain_orders.specs.declared.entry.Entry.{Entry}
use Rattle.plain_orders.specs.Ordered.{IsOrdered}
use Rattle.plain_orders.proofs.OrderLemmas.{ordered-front}
use Rattle.journal_records.specs.Records.{IsRecord}
use Rattle.outer_disk.specs.Disk.{LeavesOnly, Only}
use Rattle.journal_disk.specs.Batches.{batch_bytes, bytes_of, IsBatch}
use Rattle.journal_disk.specs.Stands.{Stands}
use Rattle.journal_disk.specs.Parts.{joined, AreFilled, IsSplit, IsInBatches, StandsWithSome}
use Rattle.journal_disk.specs.Settled.{IsResting, IsSettled}
use Rattle.journal_disk.specs.Staged.{piece, ArePieces, IsStaged}
use Rattle.journal_disk.specs.Writing.{HasGateOrBatch}
use Rattle.journal_disk.specs.Moments.{AppendsWhole}
use Rattle.journal_disk.proofs.BatchRows.{AreBatches_push, bytes_of_push, entries_of_push}
use Rattle.journal_disk.proofs.Moments.{at_first, weaker, both}
use Rattle.journal_disk.proofs.Settling.{resting_stands}
use Rattle.journal_disk.proofs.Splits.{no_parts}
use Rattle.journal_disk.proofs.Staging.{piece_length}

-- these batches may stand in a row behind a list
abbrev pub AreNext : List Entry → List (List Entry) → Type 0
AreNext list [] = Unit {0}
AreNext list (p ∷ parts) = IsBatch list p × AreNext (list ++ p) parts

all_front : (xs ys : List Entry) → AllByRecursion IsRecord (xs ++ ys) → AllByRecursion IsRecord xs
all_front [] ys all = tt
all_front (x ∷ xs) ys all = (all.0, all_front xs ys all.1)

all_back : (xs ys : List Entry) → AllByRecursion IsRecord (xs ++ ys) → AllByRecursion IsRecord ys
all_back [] ys all = all
all_back (x ∷ xs) ys all = all_back xs ys all.1

pub are_next : (list : List Entry) (parts : List (List Entry)) → AreFilled parts → AllByRecursion IsRecord (joined parts) → IsOrdered (list ++ joined parts) → AreNext list parts
are_next list [] filled recs ordered = tt
are_next list (p ∷ parts) filled recs ordered =
    let on = subst IsOrdered (sym (append_assoc list p (joined parts))) ordered in (
      record { fits = filled.0; have_records = all_front p (joined parts) recs; ordered = ordered-front (list ++ p) (joined parts) on },
      are_next (list ++ p) parts filled.2 (all_back p (joined parts) recs) on,
    )

joined_push : (parts : List (List Entry)) (p : List Entry) → joined (parts ++ p ∷ []) ≡ joined parts ++ p
joined_push parts p = flat_map-append (λ (x : List Entry). x) parts (p ∷ []) ∙ ap (λ (es : List Entry). joined parts ++ es) (append-nil p)

-- a gate that is open or not, and a whole batch behind it
pub gate_or_batch : (gate : ℕ) (held c : List ℕ) (list p : List Entry) → IsResting held gate list → IsBatch list p → HasGateOrBatch gate held (piece p) c → Stands c list ⊎ Stands c (list ++ p)
gate_or_batch gate held c list p at batch (inl front) =
    let rest = drop (gate + 1) c in
    inl (inr (record {
      batches = at.batches;
      whole = at.whole;
      rest = rest;
      file = sym (take-append-drop (gate + 1) c) ∙ ap (λ (bs : List ℕ). bs ++ rest) (front ∙ at.file) ∙ append_assoc (bytes_of at.batches) (0 ∷ []) rest;
      same = at.same;
    }))
gate_or_batch gate held c list p at batch (inr (g, is)) =
    let front : take gate held ≡ bytes_of at.batches = ap (λ (bs : List ℕ). take gate bs) at.file ∙ take_at (bytes_of at.batches) (0 ∷ []) gate (sym at.place) in
    let here : c ≡ bytes_of at.batches ++ g ∷ piece p = is ∙ ap (λ (bs : List ℕ). bs ++ g ∷ piece p) front in
    ⊎_elim (λ closed. inl (inr (record {
      batches = at.batches;
      whole = at.whole;
      rest = piece p;
      file = here ∙ ap (λ (n : ℕ). bytes_of at.batches ++ n ∷ piece p) closed;
      same = at.same;
    })))
    (λ is_open. inr (inr (record {
      batches = at.batches ++ record { gate = g; entries = p } ∷ [];
      whole = AreBatches_push [] at.batches g p at.whole is_open (subst (λ (es : List Entry). IsBatch es p) (sym at.same) batch);
      rest = [];
      file = here ∙ sym (append_assoc (bytes_of at.batches) (g ∷ batch_bytes p) (0 ∷ [])) ∙ ap (λ (bs : List ℕ). bs ++ 0 ∷ []) (sym (bytes_of_push at.batches g p));
      same = entries_of_push at.batches g p ∙ ap (λ (es : List Entry). es ++ p) at.same;
    })))
    (cases_eq g 0)

pub opened_rests : (gate : ℕ) (held : List ℕ) (list p : List Entry) → IsResting held gate list → IsBatch list p → IsResting (take gate held ++ 1 ∷ piece p) (gate + length (piece p)) (list ++ p)
opened_rests gate held list p at batch =
    let front : take gate held ≡ bytes_of at.batches = ap (λ (bs : List ℕ). take gate bs) at.file ∙ take_at (bytes_of at.batches) (0 ∷ []) gate (sym at.place) in
    record {
      batches = at.batches ++ record { gate = 1; entries = p } ∷ [];
      whole = AreBatches_push [] at.batches 1 p at.whole (omega arith) (subst (λ (es : List Entry). IsBatch es p) (sym at.same) batch);
      file = ap (λ (bs : List ℕ). bs ++ 1 ∷ piece p) front ∙ sym (append_assoc (bytes_of at.batches) (1 ∷ batch_bytes p) (0 ∷ [])) ∙ ap (λ (bs : List ℕ). bs ++ 0 ∷ []) (sym (bytes_of_push at.batches 1 p));
      place = omega (arith, at.place, ap length (bytes_of_push at.batches 1 p), length-append (bytes_of at.batches) (1 ∷ batch_bytes p), length-append (batch_bytes p) (0 ∷ []));
      same = entries_of_push at.batches 1 p ∙ ap (λ (es : List Entry). es ++ p) at.same;
    }

pub resting_length : (gate : ℕ) (held : List ℕ) (list : List Entry) → IsResting held gate list → length held ≡ gate + 1
resting_length gate held list at = omega (arith, at.place, ap length at.file, length-append (bytes_of at.batches) (0 ∷ []))

-- some of the batches, from the front
some_done : (list : List Entry) (parts done todo : List (List Entry)) (c : List ℕ) → parts ≡ done ++ todo → Stands c (list ++ joined done) → StandsWithSome list parts c
some_done list parts done todo c e stands =
    let front : take (length done) parts ≡ done = ap (λ (ps : List (List Entry)). take (length done) ps) e ∙ take_at done todo (length done) refl in
    (length done, subst (λ (ps : List (List Entry)). Stands c (list ++ joined ps)) (sym front) stands)

-- the next of the batches that are left
pub record NextPiece (todo : List (List Entry)) (bytes : List ℕ) (size : ℕ) (sizes : List ℕ) : Type 0 where
  pub p : List Entry
  pub parts : List (List Entry)
  pub is : todo ≡ p ∷ parts
  pub long : size ≡ length (piece p)
  pub some : 0 < size
  pub within : size ≤ length bytes
  pub batch : take size bytes ≡ piece p
  pub after : ArePieces parts (drop size bytes) sizes

pub next_piece : (todo : List (List Entry)) (bytes : List ℕ) (size : ℕ) (sizes : List ℕ) → ArePieces todo bytes (size ∷ sizes) → NextPiece todo bytes size sizes
next_piece [] bytes size sizes pieces = absurd (omega (arith, ap length pieces.sizes_are))
next_piece (p ∷ parts) bytes size sizes pieces =
    let sizes_are : size ∷ sizes ≡ length (piece p) ∷ map (λ (x : List Entry). length (piece x)) parts = pieces.sizes_are in
    let long : size ≡ length (piece p) = cc in
    record {
      p = p;
      parts = parts;
      is = refl;
      long = long;
      some = omega (arith, long, piece_length p);
      within = omega (arith, long, ap length pieces.bytes_are, length-append (piece p) (flat_map piece parts));
      batch = ap (λ (bs : List ℕ). take size bs) pieces.bytes_are ∙ take_at (piece p) (flat_map piece parts) size (sym long);
      after = record {
        bytes_are = ap (λ (bs : List ℕ). drop size bs) pieces.bytes_are ∙ drop_at (piece p) (flat_map piece parts) size (sym long);
        sizes_are = cc;
      };
    }

pub next_size : (items sizes : List ℕ) (i : ℕ) → items ≡ sizes → i < length items → drop i sizes ≡ get_or items i 0 ∷ drop (i + 1) sizes
next_size items sizes i e lt = ap (λ (ns : List ℕ). drop i ns) (sym e) ∙ drop_more items i 0 lt ∙ ap (λ (ns : List ℕ). get_or items i 0 ∷ drop (i + 1) ns) e

-- a disk that tells has told before
pub some_before : (o p : Option (List ℕ)) (y : List ℕ) → (o ≡ None → p ≡ None) → p ≡ Some y → (x : List ℕ) × (o ≡ Some x)
some_before None p y silent e = let none = silent refl in absurd cc
some_before (Some x) p y silent e = (x, refl)

-- how long it is after one batch more
pub within_next : (o p : Option (List ℕ)) (may_leave : List ℕ → Type 0) (gate size : ℕ) (batch : List ℕ) → (o ≡ None → p ≡ None) → ForSome o (λ x. length x ≡ gate + 1)
    → ForSome o (λ x. (p ≡ Some (take gate x ++ 1 ∷ batch)) × Only (take gate x ++ 1 ∷ batch) may_leave) → length batch ≡ size → ForSome p (λ y. length y ≡ gate + size + 1)
within_next o p may_leave gate size batch silent within done long = λ y f.
    let was = some_before o p y silent f in
    let here = (done was.0 was.1).0 in
    let e : y ≡ take gate was.0 ++ 1 ∷ batch = cc in
    omega (arith, ap length e, length-append (take gate was.0) (1 ∷ batch), length-take gate was.0, within was.0 was.1, long)

module _ {D : Type 0} (moment : D → ℕ) (left_since : D → ℕ → List ℕ → Type 0) (may_leave : D → List ℕ → Type 0) (told : D → Option (List ℕ)) where
  -- some of the batches are written, and these are left
  pub record HasWritten (first now : D) (list : List Entry) (parts : List (List Entry)) (gate : ℕ) (bytes sizes : List ℕ) : Type 0 where
    pub done : List (List Entry)
    pub todo : List (List Entry)
    pub all : parts ≡ done ++ todo
    pub held : List ℕ
    pub told_is : told now ≡ Some held
    pub resting : IsResting held gate (list ++ joined done)
    pub synced : Only held (may_leave now)
    pub next : AreNext (list ++ joined done) todo
    pub left : ArePieces todo bytes sizes
    pub moments : LeavesOnly moment left_since first now (StandsWithSome list parts)

  pub written_none : (first : D) (x : List ℕ) (list : List Entry) (parts : List (List Entry)) (gate : ℕ) (bytes sizes : List ℕ) → told first ≡ Some x → IsSettled (told first) (may_leave first) gate list
      → AreNext list parts → ArePieces parts bytes sizes → ((c : List ℕ) → left_since first (moment first) c → may_leave first c) → HasWritten first first list parts gate bytes sizes
  written_none first x list parts gate bytes sizes e settled next pieces only_now =
      let at = settled x e in
      let same : list ≡ list ++ [] = sym (append-nil list) in
      record {
        done = [];
        todo = parts;
        all = refl;
        held = x;
        told_is = e;
        resting = subst (IsResting x gate) same at.0;
        synced = at.1;
        next = subst (λ (es : List Entry). AreNext es parts) same next;
        left = pieces;
        moments = at_first moment left_since may_leave first (StandsWithSome list parts) only_now
            (λ c left. some_done list parts [] parts c refl (subst (Stands c) same (subst (λ (bs : List ℕ). Stands bs list) (sym (at.1 c left)) (resting_stands x gate list at.0))));
      }

  module _ (first mid new : D) (list : List Entry) (parts : List (List Entry)) (gate : ℕ) (bytes : List ℕ) (size : ℕ) (sizes batch : List ℕ)
      (was : HasWritten first mid list parts gate bytes (size ∷ sizes)) (is : batch ≡ take size bytes) where
    piece_here : NextPiece was.todo bytes size sizes
    piece_here = next_piece was.todo bytes size sizes was.left

    next_here : AreNext (list ++ joined was.done) (piece_here.p ∷ piece_here.parts)
    next_here = subst (AreNext (list ++ joined was.done)) piece_here.is was.next

    batch_is : batch ≡ piece piece_here.p
    batch_is = is ∙ piece_here.batch

    joined_here : list ++ joined (was.done ++ piece_here.p ∷ []) ≡ (list ++ joined was.done) ++ piece_here.p
    joined_here = ap (λ (es : List Entry). list ++ es) (joined_push was.done piece_here.p) ∙ sym (append_assoc list (joined was.done) piece_here.p)

    all_here : parts ≡ (was.done ++ piece_here.p ∷ []) ++ piece_here.parts
    all_here = was.all ∙ ap (λ (ps : List (List Entry)). was.done ++ ps) piece_here.is ∙ sym (append_assoc was.done (piece_here.p ∷ []) piece_here.parts)

    -- what the write of the next batch leaves stands for some of them
    pub some_stand : (c : List ℕ) → HasGateOrBatch gate was.held batch c → StandsWithSome list parts c
    some_stand c has =
        ⊎_elim (λ old. some_done list parts was.done was.todo c was.all old)
        (λ more. some_done list parts (was.done ++ piece_here.p ∷ []) piece_here.parts c all_here (subst (Stands c) (sym joined_here) more))
        (gate_or_batch gate was.held c (list ++ joined was.done) piece_here.p was.resting next_here.0 (subst (λ (bs : List ℕ). HasGateOrBatch gate was.held bs c) batch_is has))

    pub moments_next : ((x : List ℕ) → told mid ≡ Some x → Only x (may_leave mid) → LeavesOnly moment left_since mid new (HasGateOrBatch gate x batch)) → LeavesOnly moment left_since first new (StandsWithSome list parts)
    moments_next step =
        both moment left_since may_leave first mid new (StandsWithSome list parts) was.moments
        (weaker moment left_since may_leave mid new (HasGateOrBatch gate was.held batch) (StandsWithSome list parts) (step was.held was.told_is was.synced) some_stand)

    pub read_next : ((x : List ℕ) → told mid ≡ Some x → (y : List ℕ) → told new ≡ Some y → HasGateOrBatch gate x batch y) → ForSome (told new) (StandsWithSome list parts)
    read_next step = λ y f. some_stand y (step was.held was.told_is y f)

    pub written_next : ((x : List ℕ) → told mid ≡ Some x → Only x (may_leave mid) → LeavesOnly moment left_since mid new (HasGateOrBatch gate x batch))
        → ((x : List ℕ) → told mid ≡ Some x → (told new ≡ Some (take gate x ++ 1 ∷ batch)) × Only (take gate x ++ 1 ∷ batch) (may_leave new))
        → HasWritten first new list parts (gate + size) (drop size bytes) sizes
    written_next step done =
        let opened = done was.held was.told_is in
        let rests : IsResting (take gate was.held ++ 1 ∷ batch) (gate + size) (list ++ joined (was.done ++ piece_here.p ∷ [])) =
        subst (IsResting (take gate was.held ++ 1 ∷ batch) (gate + size)) (sym joined_here)
        (subst (λ (n : ℕ). IsResting (take gate was.held ++ 1 ∷ batch) (gate + n) ((list ++ joined was.done) ++ piece_here.p)) (sym piece_here.long)
        (subst (λ (bs : List ℕ). IsResting (take gate was.held ++ 1 ∷ bs) (gate + length (piece piece_here.p)) ((list ++ joined was.done) ++ piece_here.p)) (sym batch_is)
        (opened_rests gate was.held (list ++ joined was.done) piece_here.p was.resting next_here.0))) in
        record {
          done = was.done ++ piece_here.p ∷ [];
          todo = piece_here.parts;
          all = all_here;
          held = take gate was.held ++ 1 ∷ batch;
          told_is = opened.0;
          resting = rests;
          synced = opened.1;
          next = subst (λ (es : List Entry). AreNext es piece_here.parts) (sym joined_here) next_here.1;
          left = piece_here.after;
          moments = moments_next step;
        }

  -- once none is left, all are on the disk
  pub written_all : (first now : D) (list part : List Entry) (parts : List (List Entry)) (gate : ℕ) (bytes sizes : List ℕ) → HasWritten first now list parts gate bytes sizes → sizes ≡ [] → joined parts ≡ part
      → IsSettled (told now) (may_leave now) gate (list ++ part)
  written_all first now list part parts gate bytes sizes was none whole = λ y f.
      let over : was.todo ≡ [] = no_todo was.todo was.left in
      let all : joined was.done ≡ part = ap joined (sym (append-nil was.done) ∙ ap (λ (ps : List (List Entry)). was.done ++ ps) (sym over) ∙ sym was.all) ∙ whole in
      let told_is = was.told_is in
      let e : was.held ≡ y = cc in
      let rests = subst (λ (es : List Entry). IsResting was.held gate (list ++ es)) all was.resting in
      (subst (λ (bs : List ℕ). IsResting bs gate (list ++ part)) e rests, subst (λ (bs : List ℕ). Only bs (may_leave now)) e was.synced)
    where
      no_todo : (todo : List (List Entry)) → ArePieces todo bytes sizes → todo ≡ []
      no_todo [] left = refl
      no_todo (p ∷ todo) left = absurd (omega (arith, ap length none, ap length left.sizes_are))

  pub read_some : (first now : D) (list : List Entry) (parts : List (List Entry)) (gate : ℕ) (bytes sizes : List ℕ) → HasWritten first now list parts gate bytes sizes → ForSome (told now) (StandsWithSome list parts)
  read_some first now list parts gate bytes sizes was = λ y f.
      let told_is = was.told_is in
      let e : was.held ≡ y = cc in
      subst (StandsWithSome list parts) e (some_done list parts was.done was.todo was.held was.all (resting_stands was.held gate (list ++ joined was.done) was.resting))

  -- where nothing was written
  pub whole_none : (first : D) (x : List ℕ) (list part : List Entry) (parts : List (List Entry)) (gate : ℕ) → told first ≡ Some x → IsSettled (told first) (may_leave first) gate list
      → IsSplit part parts → ((c : List ℕ) → left_since first (moment first) c → may_leave first c) → AppendsWhole moment left_since told first first list part
  whole_none first x list part parts gate e settled split only_now =
      let at = settled x e in
      let stands = subst (Stands x) (sym (append-nil list)) (resting_stands x gate list at.0) in
      record {
        parts = parts;
        split = split;
        read = λ y f. let same : x ≡ y = cc in subst (StandsWithSome list parts) same (some_done list parts [] parts x refl stands);
        moments = at_first moment left_since may_leave first (StandsWithSome list parts) only_now
            (λ c left. subst (StandsWithSome list parts) (sym (at.1 c left)) (some_done list parts [] parts x refl stands));
      }

-- an empty part has no batch
pub no_sizes : (part : List Entry) (bytes sizes : List ℕ) → IsStaged part bytes sizes → part ≡ [] → sizes ≡ []
no_sizes part bytes sizes staged e =
    staged.pieces.sizes_are ∙ ap (λ (ps : List (List Entry)). map (λ (p : List Entry). length (piece p)) ps) (no_parts staged.parts staged.split.filled (staged.split.whole ∙ e))

-- how many batches there are
pub staged_batches : (part : List Entry) (bytes sizes : List ℕ) → IsStaged part bytes sizes → IsInBatches part (length sizes)
staged_batches part bytes sizes staged =
    (staged.parts, staged.split, omega (arith, ap length staged.pieces.sizes_are, length-map staged.parts (λ (p : List Entry). length (piece p))))
