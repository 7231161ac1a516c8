-- Which sessions have windows while a step of a data server goes on, and to whom it put Welcomes: words of its small changes.
use Rattle.std.proofs.Common.{◌≡◌, ◌≢◌, ◌⊎◌, inl, inr, ◌+◌, ◌-◌, ℕ, Bool, true, false, ◌||◌, max, if◌then◌else◌, List, [], ◌∷◌, drop, length, Option, Some, None, refl, sym, ◌∙◌, ap, subst}
use Rattle.std.specs.Prelude.{⊤, nat_lt}
use Rattle.std.specs.List.{AllByRecursion, list_any}
use Rattle.std.proofs.lemmas.Bool.{false≢true}
use Rattle.plain_orders.specs.declared.entry.Entry.{Entry}
use Rattle.plain_orders.specs.Entries.{live}
use Rattle.ecp_messages.specs.declared.down.Down.{Down}
use Rattle.ecp_messages.specs.declared.down.Down.TheVariants.{Welcome, Reset, Block, Drop, Ack, Grant, Answer, Normal, Bare}
use Rattle.end_words.specs.Windows.{Window, numbered_from, resent, sent, with_ack_put, with_sent}
use Rattle.block_holders.specs.declared.noted.Noted.{Noted}
use Rattle.block_holders.specs.HolderWords.{touched}
use Rattle.data_rules.specs.DataState.{DataState, SessionWindow}
use Rattle.data_rules.specs.declared.down_frames.DownOut.{DownOut}
use Rattle.data_rules.specs.Callers.{sends_again}
use Rattle.data_rules.specs.Entering.{appends, drops, drops_one, spans_of, with_entry}
use Rattle.data_rules.specs.Puts.{Sofar, becomes, conn_of, puts, set_window, tells, tells_on, window_in, window_of, with_window}
use Rattle.cluster_invariant.specs.Link.{is_window_of}
use Rattle.cluster_invariant.proofs.AllLists.{all_joined}
use Rattle.link_kept.proofs.WindowLists.{set_elsewhere, set_here, set_others, set_there}
use Rattle.link_kept.proofs.WindowsGo.{same_or}
use Rattle.asks_kept.proofs.FewerGrants.{any_dropped, any_pushed}

-- a session that is live has a window
abbrev pub HasWindow : DataState → ℕ → Type 0
HasWindow d s = live d.order s ≡ true → list_any (is_window_of s) d.windows ≡ true

-- the session that a Welcome names has one
abbrev pub WelcomeHas : DataState → Down → Type 0
WelcomeHas d (Welcome session epoch kept front taken) = HasWindow d session
WelcomeHas d (Reset session at) = ⊤
WelcomeHas d (Block front block) = ⊤
WelcomeHas d (Drop front lo hi) = ⊤
WelcomeHas d (Ack front) = ⊤
WelcomeHas d (Grant front ticket at) = ⊤
WelcomeHas d (Answer front about job number at sum) = ⊤
WelcomeHas d (Normal front) = ⊤
WelcomeHas d Bare = ⊤

-- of a frame
abbrev pub FrameHas : DataState → DownOut → Type 0
FrameHas d f = WelcomeHas d f.down.message

-- a message is a Welcome
abbrev pub is_welcome : Down → Bool
is_welcome (Welcome session epoch kept front taken) = true
is_welcome (Reset session at) = false
is_welcome (Block front block) = false
is_welcome (Drop front lo hi) = false
is_welcome (Ack front) = false
is_welcome (Grant front ticket at) = false
is_welcome (Answer front about job number at sum) = false
is_welcome (Normal front) = false
is_welcome Bare = false

-- another names no session
pub other_has : (d : DataState) (m : Down) → is_welcome m ≡ false → WelcomeHas d m
other_has d (Welcome session epoch kept front taken) none = absurd (false≢true (sym none))
other_has d (Reset session at) none = tt
other_has d (Block front block) none = tt
other_has d (Drop front lo hi) none = tt
other_has d (Ack front) none = tt
other_has d (Grant front ticket at) none = tt
other_has d (Answer front about job number at sum) none = tt
other_has d (Normal front) none = tt
other_has d Bare none = tt

pub has_later : (d e : DataState) → ((s : ℕ) → HasWindow d s → HasWindow e s) → (m : Down) → WelcomeHas d m → WelcomeHas e m
has_later d e more (Welcome session epoch kept front taken) has = more session has
has_later d e more (Reset session at) has = tt
has_later d e more (Block front block) has = tt
has_later d e more (Drop front lo hi) has = tt
has_later d e more (Ack front) has = tt
has_later d e more (Grant front ticket at) has = tt
has_later d e more (Answer front about job number at sum) has = tt
has_later d e more (Normal front) has = tt
has_later d e more Bare has = tt

-- a Welcome waits in the window of a session
abbrev pub welcome_in : List SessionWindow → ℕ → Bool
welcome_in ws s = list_any is_welcome (window_in ws s).waiting

-- No window goes, no more Welcomes wait, and what was put names no session.
pub record Plainly (b c : Sofar) : Type 0 where
  pub windows : (s : ℕ) → list_any (is_window_of s) b.state.windows ≡ true → list_any (is_window_of s) c.state.windows ≡ true
  pub waiting : (s : ℕ) → welcome_in c.state.windows s ≡ true → welcome_in b.state.windows s ≡ true
  pub frames : (d : DataState) → AllByRecursion (FrameHas d) b.outs.frames → AllByRecursion (FrameHas d) c.outs.frames

pub plain_same : (b c : Sofar) → c.state.windows ≡ b.state.windows → c.outs.frames ≡ b.outs.frames → Plainly b c
plain_same b c windows frames = record {
  windows = λ s is. ap (list_any (is_window_of s)) windows ∙ is;
  waiting = λ s is. ap (λ (ws : List SessionWindow). welcome_in ws s) (sym windows) ∙ is;
  frames = λ d all. subst (λ (fs : List DownOut). AllByRecursion (FrameHas d) fs) (sym frames) all;
}

pub plain_then : (b c e : Sofar) → Plainly b c → Plainly c e → Plainly b e
plain_then b c e x y = record {
  windows = λ s is. y.windows s (x.windows s is);
  waiting = λ s is. x.waiting s (y.waiting s is);
  frames = λ d all. y.frames d (x.frames d all);
}

-- windows

pub set_more : (ws : List SessionWindow) (q : ℕ) (w : Window Down) (s : ℕ) → list_any (is_window_of s) ws ≡ true → list_any (is_window_of s) (set_window ws q w) ≡ true
set_more ws q w s is = go (same_or s q)
  where
    go : (s ≡ q) ⊎ (s ≢ q) → list_any (is_window_of s) (set_window ws q w) ≡ true
    go (inl same) = subst (λ (n : ℕ). list_any (is_window_of n) (set_window ws q w) ≡ true) (sym same) (set_there ws q w)
    go (inr other) = set_others ws q s w other ∙ is

pub set_waiting : (ws : List SessionWindow) (q : ℕ) (w : Window Down) → (list_any is_welcome w.waiting ≡ true → welcome_in ws q ≡ true) → (s : ℕ) → welcome_in (set_window ws q w) s ≡ true
    → welcome_in ws s ≡ true
set_waiting ws q w less s is = go (same_or s q)
  where
    go : (s ≡ q) ⊎ (s ≢ q) → welcome_in ws s ≡ true
    go (inl same) =
        subst (λ (n : ℕ). welcome_in ws n ≡ true) (sym same)
        (less (sym (ap (λ (v : Window Down). list_any is_welcome v.waiting) (set_here ws q w))
        ∙ subst (λ (n : ℕ). welcome_in (set_window ws q w) n ≡ true) same is))
    go (inr other) = sym (ap (λ (v : Window Down). list_any is_welcome v.waiting) (set_elsewhere ws q s w other)) ∙ is

-- a session's window, with no more Welcomes than it had
pub plain_set : (q : ℕ) (w : Window Down) (b c : Sofar) → (list_any is_welcome w.waiting ≡ true → welcome_in b.state.windows q ≡ true)
    → c.state.windows ≡ set_window b.state.windows q w → c.outs.frames ≡ b.outs.frames → Plainly b c
plain_set q w b c less windows frames = record {
  windows = λ s is. ap (list_any (is_window_of s)) windows ∙ set_more b.state.windows q w s is;
  waiting = λ s is. set_waiting b.state.windows q w less s (ap (λ (ws : List SessionWindow). welcome_in ws s) (sym windows) ∙ is);
  frames = λ d all. subst (λ (fs : List DownOut). AllByRecursion (FrameHas d) fs) (sym frames) all;
}

-- a frame goes out that is no Welcome
pub plain_tells : (q conn n : ℕ) (m : Down) (b : Sofar) → is_welcome m ≡ false → Plainly b (tells q conn n m b)
plain_tells q conn n m b none = record {
  windows = λ s is. set_more b.state.windows q (with_ack_put (window_in b.state.windows q)) s is;
  waiting = λ s is. set_waiting b.state.windows q (with_ack_put (window_in b.state.windows q)) (λ at. at) s is;
  frames = λ d all. all_joined (FrameHas d) b.outs.frames _ all (other_has d m none, tt);
}

plain_again : (q conn : ℕ) (ms : List (ℕ × Down)) (b : Sofar) → AllByRecursion (λ (m : ℕ × Down). is_welcome m.1 ≡ false) ms → Plainly b (sends_again q conn ms b)
plain_again q conn [] b none = plain_same b b refl refl
plain_again q conn (m ∷ ms) b none =
    plain_then b (tells q conn m.0 m.1 b) (sends_again q conn ms (tells q conn m.0 m.1 b)) (plain_tells q conn m.0 m.1 b none.0)
    (plain_again q conn ms (tells q conn m.0 m.1 b) none.1)

-- none of these messages is a Welcome
none_numbered : (n : ℕ) (ms : List Down) → list_any is_welcome ms ≡ false → AllByRecursion (λ (m : ℕ × Down). is_welcome m.1 ≡ false) (numbered_from n ms)
none_numbered n [] none = tt
none_numbered n (m ∷ ms) none = go (is_welcome m) refl none (none_numbered (n + 1) ms)
  where
    go : (b : Bool) → is_welcome m ≡ b → (b || list_any is_welcome ms) ≡ false
        → (list_any is_welcome ms ≡ false → AllByRecursion (λ (m : ℕ × Down). is_welcome m.1 ≡ false) (numbered_from (n + 1) ms))
        → AllByRecursion (λ (m : ℕ × Down). is_welcome m.1 ≡ false) (numbered_from n (m ∷ ms))
    go true is found more = absurd (false≢true (sym found))
    go false is found more = (is, more found)

none_left : (n : ℕ) (ms : List Down) → list_any is_welcome ms ≡ false → list_any is_welcome (drop n ms) ≡ false
none_left n ms none = go (list_any is_welcome (drop n ms)) refl
  where
    go : (b : Bool) → list_any is_welcome (drop n ms) ≡ b → b ≡ false
    go true is = absurd (false≢true (sym none ∙ any_dropped is_welcome n ms is))
    go false is = refl

-- messages that go out again
pub plain_resent : (q conn taken : ℕ) (w : Window Down) (b : Sofar) → list_any is_welcome w.waiting ≡ false → Plainly b (sends_again q conn (resent w taken) b)
plain_resent q conn taken w b none = plain_again q conn (resent w taken) b (go (nat_lt (sent w) taken))
  where
    go : (x : Bool)
        → AllByRecursion (λ (m : ℕ × Down). is_welcome m.1 ≡ false) (if x then [] else numbered_from (max taken w.acked) (drop (taken - w.acked) w.waiting))
    go true = tt
    go false = none_numbered (max taken w.acked) (drop (taken - w.acked) w.waiting) (none_left (taken - w.acked) w.waiting none)

-- a message is put that is no Welcome
pub plain_puts : (q : ℕ) (m : Down) (b : Sofar) → is_welcome m ≡ false → Plainly b (puts q m b)
plain_puts q m b none = go (conn_of b.state q)
  where
    c : Sofar
    c = becomes (λ d. with_window q (with_sent (window_of d q) m) d) b

    once : Plainly b c
    once =
        plain_set q (with_sent (window_in b.state.windows q) m) b c (λ is. any_pushed is_welcome (window_in b.state.windows q).waiting m none is) refl refl

    go : (o : Option ℕ) → Plainly b (tells_on q o (sent (window_of b.state q) + 1) m c)
    go None = once
    go (Some conn) = plain_then b c _ once (plain_tells q conn (sent (window_of b.state q) + 1) m c none)

pub plain_drops : (before : ℕ) (xs : List Noted) (b : Sofar) → Plainly b (drops before xs b)
plain_drops before [] b = plain_same b b refl refl
plain_drops before (x ∷ xs) b =
    plain_then b (drops_one before x xs b) (drops before xs (drops_one before x xs b)) (plain_puts x.session _ b refl)
    (plain_drops before xs (drops_one before x xs b))

-- an entry, with its Drops
pub plain_appends : (e : Entry) (b : Sofar) → Plainly b (appends e b)
plain_appends e b =
    plain_then b (becomes (with_entry e (spans_of b.state e)) b) (appends e b) (plain_same b (becomes (with_entry e (spans_of b.state e)) b) refl refl)
    (plain_drops (length b.state.order) (touched (spans_of b.state e) b.state.noted) (becomes (with_entry e (spans_of b.state e)) b))
