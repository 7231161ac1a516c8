-- Which replies leave behind a frame by which no round ends, and what a Welcome says that goes out then.
use Rattle.std.proofs.Common.{Bool, List, None, Option, Some, [], ap, arith, cond, drop, false, filter, inl, inr, length, not, refl, take, true, ℕ, ◌&&◌}
use Rattle.std.proofs.Common.{◌++◌, ◌<◌, ◌∙◌, ◌∷◌, ◌≡◌, ◌⊎◌}
use Rattle.std.proofs.lemmas.Bool.{leb-true}
use Rattle.std.proofs.lemmas.List.Elements.{filter-append}
use Rattle.std.specs.List.{AllByRecursion, list_any}
use Rattle.std.specs.Prelude.{nat_le}
use Rattle.data_rules.specs.Callers.{old_welcome}
use Rattle.data_rules.specs.Conns.{role_of}
use Rattle.data_rules.specs.DataState.{DataState, SessionWindow}
use Rattle.data_rules.specs.Frames.{bares_role, settled}
use Rattle.data_rules.specs.Leaving.{all_leave, bare_on, bare_to, epoch_welcome, flushed, leaves, may_leave, must_wait}
use Rattle.data_rules.specs.Opening.{is_round_over}
use Rattle.data_rules.specs.Puts.{Sofar, becomes, conn_of, head_of, window_in, window_of}
use Rattle.data_rules.specs.declared.rows.Reply.{Reply}
use Rattle.data_rules.specs.declared.rows.Role.TheVariants.{Bound}
use Rattle.dials_firsts.proofs.QuietWindows.{QuietIn, no_round}
use Rattle.end_words.specs.Windows.{owes_bare}
use Rattle.end_words.specs.declared.limits.TheConstants.{BARE_LIMIT}
use Rattle.plain_orders.specs.Entries.{count, last_epoch}
use Rattle.plain_orders.specs.Sessions.{is_close}
use Rattle.plain_orders.specs.declared.entry.Entry.{Entry}
use Rattle.recovery_round.specs.RoundWords.{Round, is_over}
use Rattle.ecp_messages.specs.declared.down.Down.TheVariants as down

-- none leaves of those that rest on what isn't synced
pub none_leave : (n : ℕ) (rs : List Reply) → AllByRecursion (λ (r : Reply). n < r.at) rs → filter (may_leave n) rs ≡ []
none_leave n [] all = refl
none_leave n (r ∷ rs) all = ap (λ (b : Bool). cond b (r ∷ filter (may_leave n) rs) (filter (may_leave n) rs)) (go (nat_le r.at n) refl) ∙ none_leave n rs all.1
  where
    go : (b : Bool) → nat_le r.at n ≡ b → nat_le r.at n ≡ false
    go true is = absurd (omega (arith, leb-true r.at n is, all.0))
    go false is = is

-- the state with the replies that wait
abbrev pub waited : Sofar → Sofar
waited b = becomes (λ d. record d { replies = filter (must_wait d.synced) d.replies }) b

pub flushed_none : (b : Sofar) → AllByRecursion (λ (r : Reply). b.state.synced < r.at) b.state.replies → flushed b ≡ waited b
flushed_none b all = ap (λ (rs : List Reply). all_leave rs (waited b)) (none_leave b.state.synced b.state.replies all)

pub flushed_one : (b : Sofar) (rs : List Reply) (r : Reply) → b.state.replies ≡ rs ++ r ∷ [] → AllByRecursion (λ (z : Reply). b.state.synced < z.at) rs
    → ((may_leave b.state.synced r ≡ true) × (flushed b ≡ leaves r.says (waited b))) ⊎ (flushed b ≡ waited b)
flushed_one b rs r is all = go (may_leave b.state.synced r) refl
  where
    leaving : filter (may_leave b.state.synced) b.state.replies ≡ cond (may_leave b.state.synced r) (r ∷ []) []
    leaving =
        ap (filter (may_leave b.state.synced)) is ∙ filter-append (may_leave b.state.synced) rs (r ∷ [])
        ∙ ap (λ (xs : List Reply). xs ++ cond (may_leave b.state.synced r) (r ∷ []) []) (none_leave b.state.synced rs all)

    go : (m : Bool) → may_leave b.state.synced r ≡ m → ((may_leave b.state.synced r ≡ true) × (flushed b ≡ leaves r.says (waited b))) ⊎ (flushed b ≡ waited b)
    go true may = inl (may, ap (λ (xs : List Reply). all_leave xs (waited b)) (leaving ∙ ap (λ (m : Bool). cond m (r ∷ []) []) may))
    go false may = inr (ap (λ (xs : List Reply). all_leave xs (waited b)) (leaving ∙ ap (λ (m : Bool). cond m (r ∷ []) []) may))

-- what follows a frame where no round ends
pub settled_on : (conn now : ℕ) (b : Sofar) → is_round_over b.state b.state.round ≡ false
    → settled conn now b ≡ bares_role (role_of (flushed b).state conn) (flushed b)
settled_on conn now b on = ap (λ (c : Sofar). bares_role (role_of (flushed c).state conn) (flushed c)) (no_round now b on)

-- a round is over by what is synced of the order
pub over_same : (d old : DataState) → d.order ≡ old.order → d.synced ≡ old.synced → d.round ≡ old.round → is_round_over d d.round ≡ is_round_over old old.round
over_same d old order synced round = ap (is_round_over d) round ∙ go old.round
  where
    go : (o : Option Round) → is_round_over d o ≡ is_round_over old o
    go None = refl
    go (Some r) = ap (λ (es : List Entry). is_over r && not (list_any is_close es)) (ap (λ (n : ℕ). drop n d.order) synced ∙ ap (drop old.synced) order)

-- no acknowledgement is owed where nothing was taken since a frame was put
pub none_owed : (s : ℕ) (b : Sofar) → QuietIn b.state.windows s → bares_role (Some (Bound s)) b ≡ b
none_owed s b quiet = go (conn_of b.state s)
  where
    none : owes_bare (window_of b.state s) ≡ false
    none = ap (λ (i : ℕ). nat_le BARE_LIMIT i) quiet

    go : (o : Option ℕ) → bare_on o s b ≡ b
    go None = refl
    go (Some k) = ap (λ (t : Bool). bare_to t s k b) none

pub welcome_same : (d old : DataState) (s kept : ℕ) → d.order ≡ old.order → d.synced ≡ old.synced
    → epoch_welcome d s kept ≡ down.Welcome s (last_epoch old.order) kept (head_of old s) 0
welcome_same d old s kept order synced =
    ap (λ (es : List Entry). down.Welcome s (last_epoch es) kept (record { n = length es; w = count es s; s = count (take d.synced es) s }) 0) order
    ∙ ap (λ (i : ℕ). down.Welcome s (last_epoch old.order) kept (record { n = length old.order; w = count old.order s; s = count (take i old.order) s }) 0)
    synced

pub same_welcome : (d old : DataState) (s : ℕ) → d.order ≡ old.order → d.synced ≡ old.synced → d.windows ≡ old.windows
    → old_welcome d s ≡ down.Welcome s (last_epoch old.order) (length old.order) (head_of old s) (window_of old s).taken
same_welcome d old s order synced windows =
    ap (λ (es : List Entry). down.Welcome s (last_epoch es) (length es) (record { n = length es; w = count es s; s = count (take d.synced es) s })
    (window_of d s).taken) order
    ∙ ap (λ (i : ℕ). down.Welcome s (last_epoch old.order) (length old.order)
    (record { n = length old.order; w = count old.order s; s = count (take i old.order) s }) (window_of d s).taken) synced
    ∙ ap (λ (ws : List SessionWindow). down.Welcome s (last_epoch old.order) (length old.order) (head_of old s) (window_in ws s).taken) windows
