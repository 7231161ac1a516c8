-- A first frame on a connection is taken or refused: a Hello by its dial, a Recover by what the list says of its session.
use Rattle.std.proofs.Common.{◌≡◌, ◌<◌, ◌≤◌, ◌⊎◌, ◌+◌, ◌==◌, ℕ, Bool, true, false, List, [], ◌∷◌, Option, Some, None, refl, ap, inl, inr, arith}
use Rattle.std.proofs.lemmas.Bool.{cases_lt, ltb-false}
use Rattle.std.specs.Prelude.{if◌then◌else◌, nat_lt}
use Rattle.plain_orders.specs.declared.entry.Entry.{Entry}
use Rattle.plain_orders.specs.declared.entry.Entry.TheVariants.{Epoch, Opened, Closed, Update as Updated, Commit as Committed, Rollback as RolledBack}
use Rattle.plain_orders.specs.Entries.{live, live_from, last_epoch, epoch_from, closes}
use Rattle.plain_orders.specs.Sessions.{app_in, app_from, place_of_epoch}
use Rattle.ecp_messages.specs.declared.up.Up.TheVariants.{Hello, Recover, Update, Add, Fetch, Ask, Unlock, Cancel, Commit, Rollback, Sync, Done, Claim, Bare}
use Rattle.data_rules.specs.Places.{place_from, close_place}
use Rattle.data_rules.specs.Puts.{Sofar}
use Rattle.data_rules.specs.Conns.{ends_conn}
use Rattle.data_rules.specs.Callers.{TakesHello, TakesRecover, calls, dial_of}
use Rattle.data_rules.specs.Frames.{EndsOldHello, EndsNoRecover}
use Rattle.data_rules.specs.Laws.{FirstIsAnswered}

-- one number is at most another, or above it
pub low_or_high : (a b : ℕ) → (a ≤ b) ⊎ (b < a)
low_or_high a b = go (cases_lt b a)
  where
    go : (b < a) ⊎ (a ≤ b) → (a ≤ b) ⊎ (b < a)
    go (inl high) = inr high
    go (inr low) = inl low

-- a truth value is one of the two
pub either : (t : Bool) → (t ≡ true) ⊎ (t ≡ false)
either true = inl refl
either false = inr refl

-- the number of one that is there
some_same : {x a : ℕ} → Some x ≡ Some a → x ≡ a
some_same e = cc (e)

-- it is this number, or it isn't
same_or_not : (o : Option ℕ) (a : ℕ) → (o ≡ Some a) ⊎ (o ≡ Some a → ⊥)
same_or_not None a = inr (λ e. absurd (cc (e)))
same_or_not (Some x) a = go (low_or_high x a) (low_or_high a x)
  where
    go : (x ≤ a) ⊎ (a < x) → (a ≤ x) ⊎ (x < a) → (Some x ≡ Some a) ⊎ (Some x ≡ Some a → ⊥)
    go (inl low) (inl high) = inl (ap Some (omega (arith, low, high)))
    go (inl low) (inr less) = inr (λ e. omega (arith, less, some_same e))
    go (inr more) _ = inr (λ e. omega (arith, more, some_same e))

-- what is found here or further on
found : (t : Bool) (k : ℕ) (o : Option ℕ) → (t ≡ false → (at : ℕ) × (o ≡ Some at)) → (at : ℕ) × ((if t then Some k else o) ≡ Some at)
found true k o rest = (k, refl)
found false k o rest = rest refl

-- an Epoch above a number stands in a list whose newest is above it
placed : (n m k : ℕ) (es : List Entry) → m ≤ n → n < epoch_from m es → (at : ℕ) × (place_of_epoch n k es ≡ Some at)
placed n m k [] low high = absurd (omega (arith, low, high))
placed n m k (Epoch number ∷ es) low high =
    found (nat_lt n number) k (place_of_epoch n (k + 1) es) (λ below. placed n number (k + 1) es (ltb-false n number below) high)
placed n m k (Opened session app ∷ es) low high = placed n m (k + 1) es low high
placed n m k (Closed session ∷ es) low high = placed n m (k + 1) es low high
placed n m k (Updated session w job txn op ∷ es) low high = placed n m (k + 1) es low high
placed n m k (Committed session w job txn ∷ es) low high = placed n m (k + 1) es low high
placed n m k (RolledBack session w job txn ∷ es) low high = placed n m (k + 1) es low high

-- whether this entry opens the session or not, it is live
stays : (t : Bool) (s : ℕ) (es : List Entry) → live_from (if t then true else true) es s ≡ false → live_from true es s ≡ false
stays true s es over = over
stays false s es over = over

-- the entry closes the session, or the rest of the list does
closed_here : (t live : Bool) (s k : ℕ) (es : List Entry) → live_from (if t then false else live) es s ≡ false →
    (live_from live es s ≡ false → (at : ℕ) × (place_from (closes s) (k + 1) es ≡ Some at)) →
    (at : ℕ) × ((if t then Some (k + 1) else place_from (closes s) (k + 1) es) ≡ Some at)
closed_here true live s k es over rest = (k + 1, refl)
closed_here false live s k es over rest = rest over

-- a live session that isn't live at the end was closed
closed_later : (s k : ℕ) (es : List Entry) → live_from true es s ≡ false → (at : ℕ) × (place_from (closes s) k es ≡ Some at)
closed_later s k [] over = absurd (cc (over))
closed_later s k (Epoch number ∷ es) over = closed_later s (k + 1) es over
closed_later s k (Opened session app ∷ es) over = closed_later s (k + 1) es (stays (session == s) s es over)
closed_later s k (Closed session ∷ es) over = closed_here (session == s) true s k es over (closed_later s (k + 1) es)
closed_later s k (Updated session w job txn op ∷ es) over = closed_later s (k + 1) es over
closed_later s k (Committed session w job txn ∷ es) over = closed_later s (k + 1) es over
closed_later s k (RolledBack session w job txn ∷ es) over = closed_later s (k + 1) es over

-- the entry opens the session, or the rest of the list does
opened_here : (t : Bool) (s k a app : ℕ) (es : List Entry) → app_from (if t then Some app else None) es s ≡ Some a → live_from (if t then true else false) es s ≡ false →
    (app_from None es s ≡ Some a → live_from false es s ≡ false → (at : ℕ) × (place_from (closes s) k es ≡ Some at)) →
    (at : ℕ) × (place_from (closes s) k es ≡ Some at)
opened_here true s k a app es its over rest = closed_later s k es over
opened_here false s k a app es its over rest = rest its over

-- a session that was opened and isn't live was closed
closed_somewhere : (s k a : ℕ) (es : List Entry) → app_from None es s ≡ Some a → live_from false es s ≡ false → (at : ℕ) × (place_from (closes s) k es ≡ Some at)
closed_somewhere s k a [] its over = absurd (cc (its))
closed_somewhere s k a (Epoch number ∷ es) its over = closed_somewhere s (k + 1) a es its over
closed_somewhere s k a (Opened session app ∷ es) its over = opened_here (session == s) s (k + 1) a app es its over (closed_somewhere s (k + 1) a es)
closed_somewhere s k a (Closed session ∷ es) its over = closed_here (session == s) false s k es over (closed_somewhere s (k + 1) a es its)
closed_somewhere s k a (Updated session w job txn op ∷ es) its over = closed_somewhere s (k + 1) a es its over
closed_somewhere s k a (Committed session w job txn ∷ es) its over = closed_somewhere s (k + 1) a es its over
closed_somewhere s k a (RolledBack session w job txn ∷ es) its over = closed_somewhere s (k + 1) a es its over

-- a Hello
hello_answered : (b : Sofar) (conn now app dial : ℕ) → (dial_of b.state app ≤ dial) ⊎ (dial < dial_of b.state app) →
    (c : Sofar) × (TakesHello b conn now app dial c ⊎ EndsOldHello b conn now app dial c)
hello_answered b conn now app dial (inl later) = (calls app dial conn now b, inl (record { later = later; after = refl }))
hello_answered b conn now app dial (inr older) = (ends_conn conn now b, inr (record { older = older; ended = record { after = refl } }))

-- a Recover of a live session
lives_on : (b : Sofar) (conn now app s epoch taken dial : ℕ) → app_in b.state.order s ≡ Some app → dial_of b.state app ≤ dial → live b.state.order s ≡ true →
    epoch ≤ last_epoch b.state.order → (last_epoch b.state.order ≤ epoch) ⊎ (epoch < last_epoch b.state.order) →
    (c : Sofar) × TakesRecover b conn now app s epoch taken dial c
lives_on b conn now app s epoch taken dial its later is_live begun (inl low) =
    (_, inl (record { its = its; later = later; is_live = is_live; same = omega (arith, begun, low); after = refl }))
lives_on b conn now app s epoch taken dial its later is_live begun (inr older) =
    let at : (kept : ℕ) × (place_of_epoch epoch 0 b.state.order ≡ Some kept) = placed epoch 0 0 b.state.order (omega arith) older in
    (_, inr (inl (record { its = its; later = later; is_live = is_live; older = older; kept = at.0; known = at.1; after = refl })))

-- a Recover of a session of its application server
is_known : (b : Sofar) (conn now app s epoch taken dial : ℕ) → app_in b.state.order s ≡ Some app → dial_of b.state app ≤ dial →
    epoch ≤ last_epoch b.state.order → (live b.state.order s ≡ true) ⊎ (live b.state.order s ≡ false) →
    (c : Sofar) × TakesRecover b conn now app s epoch taken dial c
is_known b conn now app s epoch taken dial its later begun (inl is_live) =
    lives_on b conn now app s epoch taken dial its later is_live begun (low_or_high (last_epoch b.state.order) epoch)
is_known b conn now app s epoch taken dial its later begun (inr over) =
    let at : (place : ℕ) × (close_place b.state.order s ≡ Some place) = closed_somewhere s 0 app b.state.order its over in
    (_, inr (inr (record { its = its; later = later; is_closed = over; begun = begun; at = at.0; closed = at.1; after = refl })))

-- a Recover
recover_answered : (b : Sofar) (conn now app s epoch taken dial : ℕ) → (app_in b.state.order s ≡ Some app) ⊎ (app_in b.state.order s ≡ Some app → ⊥) →
    (dial_of b.state app ≤ dial) ⊎ (dial < dial_of b.state app) → (epoch ≤ last_epoch b.state.order) ⊎ (last_epoch b.state.order < epoch) →
    (c : Sofar) × (TakesRecover b conn now app s epoch taken dial c ⊎ EndsNoRecover b conn now app s epoch dial c)
recover_answered b conn now app s epoch taken dial (inl its) (inl later) (inl begun) =
    let taken_so : (c : Sofar) × TakesRecover b conn now app s epoch taken dial c = is_known b conn now app s epoch taken dial its later begun (either (live b.state.order s)) in
    (taken_so.0, inl taken_so.1)
recover_answered b conn now app s epoch taken dial (inl its) (inl later) (inr above) =
    (_, inr (record { refused = record { why = inr (inr above) }; ended = record { after = refl } }))
recover_answered b conn now app s epoch taken dial (inl its) (inr older) _ =
    (_, inr (record { refused = record { why = inr (inl older) }; ended = record { after = refl } }))
recover_answered b conn now app s epoch taken dial (inr strange) _ _ =
    (_, inr (record { refused = record { why = inl strange }; ended = record { after = refl } }))

pub first_is_answered : FirstIsAnswered
first_is_answered (Hello app dial) b conn now = hello_answered b conn now app dial (low_or_high (dial_of b.state app) dial)
first_is_answered (Recover app session epoch taken dial) b conn now =
    recover_answered b conn now app session epoch taken dial (same_or_not (app_in b.state.order session) app) (low_or_high (dial_of b.state app) dial) (low_or_high epoch (last_epoch b.state.order))
first_is_answered (Update w job txn op) b conn now = (_, record { after = refl })
first_is_answered (Add w job key amount) b conn now = (_, record { after = refl })
first_is_answered (Fetch key) b conn now = (_, record { after = refl })
first_is_answered (Ask ticket job mode key) b conn now = (_, record { after = refl })
first_is_answered (Unlock job mode key) b conn now = (_, record { after = refl })
first_is_answered (Cancel ticket) b conn now = (_, record { after = refl })
first_is_answered (Commit w job txn wanted) b conn now = (_, record { after = refl })
first_is_answered (Rollback w job txn) b conn now = (_, record { after = refl })
first_is_answered (Sync ticket) b conn now = (_, record { after = refl })
first_is_answered Done b conn now = (_, record { after = refl })
first_is_answered (Claim job mode number at key) b conn now = (_, record { after = refl })
first_is_answered Bare b conn now = (_, record { after = refl })
