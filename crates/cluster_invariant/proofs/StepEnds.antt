-- What holds where a step of a data server ends, whatever was made in it: no round is on that is over, and no reply is there that may leave.
use Rattle.std.proofs.Common.{◌≡◌, ◌<◌, ℕ, Bool, true, false, not, List, [], ◌∷◌, filter, Option, Some, None, refl, sym, ◌∙◌, ap, subst}
use Rattle.std.specs.Prelude.{nat_le}
use Rattle.std.specs.List.{AllByRecursion}
use Rattle.std.proofs.lemmas.Bool.{leb-false}
use Rattle.data_rules.specs.DataState.{DataState, SessionWindow}
use Rattle.data_rules.specs.declared.rows.Caller.{Caller}
use Rattle.data_rules.specs.declared.rows.Reply.{Reply}
use Rattle.data_rules.specs.declared.rows.Role.{Role}
use Rattle.data_rules.specs.declared.rows.Role.TheVariants.{New, Waiting, Bound, Closing}
use Rattle.recovery_round.specs.RoundWords.{Round}
use Rattle.end_words.specs.Windows.{owes_bare}
use Rattle.data_rules.specs.Puts.{Sofar, conn_of, window_of}
use Rattle.data_rules.specs.Leaving.{must_wait, flushed, bare_to, bare_on}
use Rattle.data_rules.specs.Conns.{role_of}
use Rattle.data_rules.specs.Opening.{opens, opens_all, live_ends, round_ends, is_round_over, round_ends_if, rounds}
use Rattle.data_rules.specs.Frames.{bares_role, settled}
use Rattle.cluster_invariant.proofs.AllLists.{all_follow, all_passed}
use Rattle.cluster_invariant.proofs.PutLaws.{OnlyWindows, only_none, with_windows, with_waiting, only_flushed}
use Rattle.cluster_invariant.proofs.PieceKinds.{ends_back}
use Rattle.cluster_invariant.proofs.PiecesOfRounds.{only_normals, back_written, ends_aside, ends_told, opens_round, opens_callers}

-- rounds

all_open_round : (cs : List Caller) (now : ℕ) (b : Sofar) → (opens_all cs now b).state.round ≡ b.state.round
all_open_round [] now b = refl
all_open_round (c ∷ cs) now b = all_open_round cs now (opens c.app c.conn now b) ∙ opens_round c.app c.conn now b

all_open_callers : (cs : List Caller) (now : ℕ) (b : Sofar) → (opens_all cs now b).state.callers ≡ b.state.callers
all_open_callers [] now b = refl
all_open_callers (c ∷ cs) now b =
    all_open_callers cs now (opens c.app c.conn now b) ∙ ap (λ (x : Sofar). x.state.callers) (opens_callers b.state.callers c.app c.conn now b)

-- a round that ended is none, and no Hello waits
ended_round : (now : ℕ) (b : Sofar) → (round_ends b.state.callers now b).state.round ≡ None
ended_round now b =
    all_open_round b.state.callers now _
    ∙ ap (λ (x : Sofar). x.state.round) (ends_told (live_ends b.state.order) now b)
    ∙ ap (λ (d : DataState). d.round) (only_normals (live_ends b.state.order) (ends_back (live_ends b.state.order) now (back_written b))).state
    ∙ (ends_aside (live_ends b.state.order) now).round (back_written b)

ended_callers : (now : ℕ) (b : Sofar) → (round_ends b.state.callers now b).state.callers ≡ []
ended_callers now b =
    all_open_callers b.state.callers now _ ∙ ap (λ (x : Sofar). x.state.callers) (ends_told (live_ends b.state.order) now b)

-- A round that was over has ended.
pub rounds_over : (now : ℕ) (b : Sofar) → is_round_over (rounds now b).state (rounds now b).state.round ≡ false
rounds_over now b = go (is_round_over b.state b.state.round) refl
  where
    go : (over : Bool) → is_round_over b.state b.state.round ≡ over
        → is_round_over (round_ends_if over now b).state (round_ends_if over now b).state.round ≡ false
    go true over = ap (λ (r : Option Round). is_round_over (round_ends b.state.callers now b).state r) (ended_round now b)
    go false over = over

-- Hellos wait only in a round, if they did before.
pub rounds_calls : (now : ℕ) (b : Sofar) → (b.state.round ≡ None → b.state.callers ≡ []) → (rounds now b).state.round ≡ None → (rounds now b).state.callers ≡ []
rounds_calls now b calls = go (is_round_over b.state b.state.round)
  where
    go : (over : Bool) → (round_ends_if over now b).state.round ≡ None → (round_ends_if over now b).state.callers ≡ []
    go true none = ended_callers now b
    go false none = calls none

-- frames

only_bare : (owed : Bool) (s conn : ℕ) (b : Sofar) → OnlyWindows b (bare_to owed s conn b)
only_bare true s conn b = record { windows = _; state = refl; acts = refl; cuts = refl }
only_bare false s conn b = only_none b

only_bare_on : (o : Option ℕ) (s : ℕ) (b : Sofar) → OnlyWindows b (bare_on o s b)
only_bare_on None s b = only_none b
only_bare_on (Some conn) s b = only_bare (owes_bare (window_of b.state s)) s conn b

only_bares : (r : Option Role) (b : Sofar) → OnlyWindows b (bares_role r b)
only_bares None b = only_none b
only_bares (Some New) b = only_none b
only_bares (Some Waiting) b = only_none b
only_bares (Some (Bound s)) b = only_bare_on (conn_of b.state s) s b
only_bares (Some (Closing s)) b = only_none b

-- what the rounds and the flush left is there still, but for the windows
settled_state : (P : DataState → Type 0) → ((ws : List SessionWindow) (d : DataState) → P d → P (with_windows ws d)) → (conn now : ℕ) (b : Sofar)
    → P (with_waiting (rounds now b).state) → P (settled conn now b).state
settled_state P keeps conn now b holds =
    subst P (sym bares.state) (keeps bares.windows (flushed (rounds now b)).state
    (subst P (sym (only_flushed (rounds now b)).state) (keeps (only_flushed (rounds now b)).windows (with_waiting (rounds now b).state) holds)))
  where
    bares : OnlyWindows (flushed (rounds now b)) (settled conn now b)
    bares = only_bares (role_of (flushed (rounds now b)).state conn) (flushed (rounds now b))

-- After a frame no round is on that is over.
pub settled_over : (conn now : ℕ) (b : Sofar) → is_round_over (settled conn now b).state (settled conn now b).state.round ≡ false
settled_over conn now b = settled_state (λ d. is_round_over d d.round ≡ false) (λ ws d is. is) conn now b (rounds_over now b)

-- Hellos wait only in a round, if they did before.
pub settled_calls : (conn now : ℕ) (b : Sofar) → (b.state.round ≡ None → b.state.callers ≡ [])
    → (settled conn now b).state.round ≡ None → (settled conn now b).state.callers ≡ []
settled_calls conn now b calls = settled_state (λ d. d.round ≡ None → d.callers ≡ []) (λ ws d is. is) conn now b (rounds_calls now b calls)

-- a reply that must wait rests on what isn't synced
waits_above : (n : ℕ) (r : Reply) → must_wait n r ≡ true → n < r.at
waits_above n r waits = leb-false r.at n (false_not (nat_le r.at n) waits)
  where
    false_not : (b : Bool) → not b ≡ true → b ≡ false
    false_not true is = sym is
    false_not false is = refl

-- After a frame no reply is there that may leave.
pub settled_waits : (conn now : ℕ) (b : Sofar) → AllByRecursion (λ r. (settled conn now b).state.synced < r.at) (settled conn now b).state.replies
settled_waits conn now b =
    settled_state (λ d. AllByRecursion (λ r. d.synced < r.at) d.replies) (λ ws d is. is) conn now b
    (all_follow (λ r. must_wait (rounds now b).state.synced r ≡ true) (λ r. (rounds now b).state.synced < r.at)
    (λ r waits. waits_above (rounds now b).state.synced r waits) (filter (must_wait (rounds now b).state.synced) (rounds now b).state.replies)
    (all_passed (must_wait (rounds now b).state.synced) (rounds now b).state.replies))
