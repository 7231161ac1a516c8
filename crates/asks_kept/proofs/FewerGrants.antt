-- Small changes of a data server's step that put no Grant: the table of locks stays, and no more Grants wait, in windows or as replies.
use Rattle.std.proofs.Common.{◌≡◌, ◌≢◌, ◌⊎◌, inl, inr, ◌+◌, ◌-◌, ℕ, zero, suc, Bool, true, false, ◌||◌, cond, List, [], ◌∷◌, ◌++◌, drop, filter, length, Option, Some, None, is_some, refl, sym, ◌∙◌, ap, subst}
use Rattle.std.specs.List.{list_any}
use Rattle.std.proofs.lemmas.Bool.{false≢true}
use Rattle.plain_orders.specs.declared.causes.ShutCause.{ShutCause}
use Rattle.plain_orders.specs.declared.causes.ShutCause.TheVariants.{Trouble, Replaced, Round}
use Rattle.plain_orders.specs.declared.act.Act.TheVariants as act
use Rattle.plain_orders.specs.declared.entry.Entry.{Entry}
use Rattle.plain_orders.specs.declared.entry.Entry.TheVariants.{Closed, Opened}
use Rattle.link_states.specs.declared.link_event.LinkEvent.TheVariants as event
use Rattle.ecp_messages.specs.declared.down.Down.{Down}
use Rattle.end_words.specs.Windows.{Window, fresh, with_ack, with_ack_put, with_sent, with_taken}
use Rattle.block_holders.specs.declared.noted.Noted.{Noted}
use Rattle.block_holders.specs.HolderWords.{touched}
use Rattle.data_rules.specs.DataState.{DataState, SessionWindow}
use Rattle.data_rules.specs.declared.rows.LiveEnd.{LiveEnd}
use Rattle.data_rules.specs.declared.rows.Reply.{Reply}
use Rattle.data_rules.specs.declared.rows.Says.TheVariants.{NewWelcome}
use Rattle.data_rules.specs.Callers.{sends_again}
use Rattle.data_rules.specs.Closing.{silenced, unawaited}
use Rattle.data_rules.specs.Conns.{breaks_if, drops_conn, end_breaks, is_normal, link_of, with_event, without_conn}
use Rattle.data_rules.specs.Entering.{appends, drops, drops_one, enters, spans_of, with_entry}
use Rattle.data_rules.specs.Opening.{bound, breaks_unless, opens}
use Rattle.data_rules.specs.Puts.{Sofar, becomes, conn_of, is_reply_elsewhere, is_window_elsewhere, puts, says_on, says_to, set_window, tells, window_in, writes}
use Rattle.cluster_invariant.specs.Asks.{grants_ticket, is_grant_of}
use Rattle.cluster_invariant.specs.Link.{is_window_of}
use Rattle.cluster_invariant.proofs.PieceKinds.{Ending, There, Here, cuts_if, end_back, ends_back, event_of, parts_from, shuts, with_close}
use Rattle.cluster_invariant.proofs.PutLaws.{puts_state, windows_put, with_windows}
use Rattle.link_kept.proofs.WindowLists.{gone_elsewhere, gone_there, none_there, set_elsewhere, set_here}
use Rattle.link_kept.proofs.WindowsGo.{same_or}

-- the Grant of this ticket waits in the window of the session
abbrev pub granted_in : List SessionWindow → ℕ → ℕ → Bool
granted_in ws s t = list_any (grants_ticket t) (window_in ws s).waiting

-- or as a reply to it
abbrev pub replied_in : List Reply → ℕ → ℕ → Bool
replied_in rs s t = list_any (is_grant_of s t) rs

-- no more Grants wait in these windows
abbrev pub WindowsFewer : List SessionWindow → List SessionWindow → Type 0
WindowsFewer ws vs = (s t : ℕ) → granted_in vs s t ≡ true → granted_in ws s t ≡ true

-- no more as replies
abbrev pub RepliesFewer : List Reply → List Reply → Type 0
RepliesFewer rs qs = (s t : ℕ) → replied_in qs s t ≡ true → replied_in rs s t ≡ true

-- No more Grants wait, and the table of locks is as it was.
pub record FewerGrants (d e : DataState) : Type 0 where
  pub locks : e.locks ≡ d.locks
  pub windows : WindowsFewer d.windows e.windows
  pub replies : RepliesFewer d.replies e.replies

pub fewer_same : (d e : DataState) → e.locks ≡ d.locks → e.windows ≡ d.windows → e.replies ≡ d.replies → FewerGrants d e
fewer_same d e locks windows replies = record {
  locks = locks;
  windows = λ s t is. ap (λ (ws : List SessionWindow). granted_in ws s t) (sym windows) ∙ is;
  replies = λ s t is. ap (λ (rs : List Reply). replied_in rs s t) (sym replies) ∙ is;
}

pub fewer_then : (d e f : DataState) → FewerGrants d e → FewerGrants e f → FewerGrants d f
fewer_then d e f x y = record {
  locks = y.locks ∙ x.locks;
  windows = λ s t is. x.windows s t (y.windows s t is);
  replies = λ s t is. x.replies s t (y.replies s t is);
}

-- lists

any_left : {X : Type 0} (p q : X → Bool) (xs : List X) → list_any p (filter q xs) ≡ true → list_any p xs ≡ true
any_left p q [] is = is
any_left p q (x ∷ xs) is = go (q x) (p x) is (any_left p q xs)
  where
    go : (b c : Bool) → list_any p (cond b (x ∷ filter q xs) (filter q xs)) ≡ true → (list_any p (filter q xs) ≡ true → list_any p xs ≡ true)
        → (p x || list_any p xs) ≡ true
    go b c found more = by b (p x) refl found
      where
        by : (k h : Bool) → p x ≡ h → list_any p (cond k (x ∷ filter q xs) (filter q xs)) ≡ true → (h || list_any p xs) ≡ true
        by k true here at = refl
        by true false here at = more (ap (λ (z : Bool). z || list_any p (filter q xs)) (sym here) ∙ at)
        by false false here at = more at

pub any_dropped : {X : Type 0} (p : X → Bool) (n : ℕ) (xs : List X) → list_any p (drop n xs) ≡ true → list_any p xs ≡ true
any_dropped p zero xs is = is
any_dropped p (suc n) [] is = is
any_dropped p (suc n) (x ∷ xs) is = behind (p x) (list_any p xs) (any_dropped p n xs is)
  where
    behind : (a b : Bool) → b ≡ true → (a || b) ≡ true
    behind true b at = refl
    behind false b at = at

-- one more that a test doesn't find
pub any_pushed : {X : Type 0} (p : X → Bool) (xs : List X) (x : X) → p x ≡ false → list_any p (xs ++ x ∷ []) ≡ true → list_any p xs ≡ true
any_pushed p [] x none is = absurd (false≢true (sym (ap (λ (b : Bool). b || false) none) ∙ is))
any_pushed p (y ∷ xs) x none is = go (p y) is (any_pushed p xs x none)
  where
    go : (b : Bool) → (b || list_any p (xs ++ x ∷ [])) ≡ true → (list_any p (xs ++ x ∷ []) ≡ true → list_any p xs ≡ true) → (b || list_any p xs) ≡ true
    go true at more = refl
    go false at more = more at

-- windows

fewer_set : (ws : List SessionWindow) (q : ℕ) (w : Window Down) → ((t : ℕ) → list_any (grants_ticket t) w.waiting ≡ true → granted_in ws q t ≡ true)
    → WindowsFewer ws (set_window ws q w)
fewer_set ws q w each s t is = go (same_or s q)
  where
    go : (s ≡ q) ⊎ (s ≢ q) → granted_in ws s t ≡ true
    go (inl same) =
        subst (λ (n : ℕ). granted_in ws n t ≡ true) (sym same)
        (each t (sym (ap (λ (v : Window Down). list_any (grants_ticket t) v.waiting) (set_here ws q w))
        ∙ subst (λ (n : ℕ). granted_in (set_window ws q w) n t ≡ true) same is))
    go (inr other) = sym (ap (λ (v : Window Down). list_any (grants_ticket t) v.waiting) (set_elsewhere ws q s w other)) ∙ is

-- a window that is gone keeps nothing
fewer_gone : (ws : List SessionWindow) (q : ℕ) → WindowsFewer ws (filter (is_window_elsewhere q) ws)
fewer_gone ws q s t is = go (same_or s q)
  where
    none : (b : Bool) → list_any (is_window_of q) (filter (is_window_elsewhere q) ws) ≡ b → window_in (filter (is_window_elsewhere q) ws) q ≡ fresh
    none true there = absurd ((gone_there ws q q there).0 refl)
    none false there = none_there (filter (is_window_elsewhere q) ws) q there

    go : (s ≡ q) ⊎ (s ≢ q) → granted_in ws s t ≡ true
    go (inl same) =
        absurd (false≢true (sym (ap (λ (v : Window Down). list_any (grants_ticket t) v.waiting) (none (list_any (is_window_of q) (filter (is_window_elsewhere q) ws)) refl))
        ∙ subst (λ (n : ℕ). granted_in (filter (is_window_elsewhere q) ws) n t ≡ true) same is))
    go (inr other) = sym (ap (λ (v : Window Down). list_any (grants_ticket t) v.waiting) (gone_elsewhere ws q s other)) ∙ is

pub fewer_windows : (d : DataState) (vs : List SessionWindow) → WindowsFewer d.windows vs → FewerGrants d (with_windows vs d)
fewer_windows d vs less = record { locks = refl; windows = less; replies = λ s t is. is }

-- a session's window, with no more Grants than it had
pub fewer_at : (d : DataState) (q : ℕ) (w : Window Down) → ((t : ℕ) → list_any (grants_ticket t) w.waiting ≡ true → granted_in d.windows q t ≡ true)
    → FewerGrants d (with_windows (set_window d.windows q w) d)
fewer_at d q w each = fewer_windows d (set_window d.windows q w) (fewer_set d.windows q w each)

pub fewer_fresh : (d : DataState) (q : ℕ) → FewerGrants d (with_windows (set_window d.windows q fresh) d)
fewer_fresh d q = fewer_at d q fresh (λ t is. absurd (false≢true is))

pub fewer_acked : (d : DataState) (q ack : ℕ) → FewerGrants d (with_windows (set_window d.windows q (with_ack (window_in d.windows q) ack)) d)
fewer_acked d q ack =
    fewer_at d q (with_ack (window_in d.windows q) ack)
    (λ t is. any_dropped (grants_ticket t) (ack - (window_in d.windows q).acked) (window_in d.windows q).waiting is)

pub fewer_taken : (d : DataState) (q ack : ℕ) → FewerGrants d (with_windows (set_window d.windows q (with_taken (window_in d.windows q) ack)) d)
fewer_taken d q ack =
    fewer_at d q (with_taken (window_in d.windows q) ack)
    (λ t is. any_dropped (grants_ticket t) (ack - (window_in d.windows q).acked) (window_in d.windows q).waiting is)

-- a frame goes out
pub fewer_tells : (q conn n : ℕ) (m : Down) (b : Sofar) → FewerGrants b.state (tells q conn n m b).state
fewer_tells q conn n m b = fewer_at b.state q (with_ack_put (window_in b.state.windows q)) (λ t is. is)

pub fewer_again : (q conn : ℕ) (ms : List (ℕ × Down)) (b : Sofar) → FewerGrants b.state (sends_again q conn ms b).state
fewer_again q conn [] b = fewer_same b.state b.state refl refl refl
fewer_again q conn (m ∷ ms) b =
    fewer_then b.state (tells q conn m.0 m.1 b).state (sends_again q conn ms (tells q conn m.0 m.1 b)).state (fewer_tells q conn m.0 m.1 b)
    (fewer_again q conn ms (tells q conn m.0 m.1 b))

-- a message is put that grants nothing
sent_fewer : (q : ℕ) (m : Down) (ws : List SessionWindow) → ((t : ℕ) → grants_ticket t m ≡ false) → WindowsFewer ws (set_window ws q (with_sent (window_in ws q) m))
sent_fewer q m ws none =
    fewer_set ws q (with_sent (window_in ws q) m) (λ t is. any_pushed (grants_ticket t) (window_in ws q).waiting m (none t) is)

put_fewer : (o : Option ℕ) (q : ℕ) (m : Down) (ws : List SessionWindow) → ((t : ℕ) → grants_ticket t m ≡ false) → WindowsFewer ws (windows_put o q m ws)
put_fewer None q m ws none = sent_fewer q m ws none
put_fewer (Some conn) q m ws none = λ s t is. sent_fewer q m ws none s t (told s t is)
  where
    vs : List SessionWindow
    vs = set_window ws q (with_sent (window_in ws q) m)

    told : WindowsFewer vs (set_window vs q (with_ack_put (window_in vs q)))
    told = fewer_set vs q (with_ack_put (window_in vs q)) (λ t is. is)

pub fewer_puts : (q : ℕ) (m : Down) (b : Sofar) → ((t : ℕ) → grants_ticket t m ≡ false) → FewerGrants b.state (puts q m b).state
fewer_puts q m b none =
    subst (λ (d : DataState). FewerGrants b.state d) (sym (puts_state q m b))
    (fewer_windows b.state (windows_put (conn_of b.state q) q m b.state.windows) (put_fewer (conn_of b.state q) q m b.state.windows none))

fewer_drops : (before : ℕ) (xs : List Noted) (b : Sofar) → FewerGrants b.state (drops before xs b).state
fewer_drops before [] b = fewer_same b.state b.state refl refl refl
fewer_drops before (x ∷ xs) b =
    fewer_then b.state (drops_one before x xs b).state (drops before xs (drops_one before x xs b)).state (fewer_puts x.session _ b (λ t. refl))
    (fewer_drops before xs (drops_one before x xs b))

-- an entry, with its Drops
pub fewer_appends : (e : Entry) (b : Sofar) → FewerGrants b.state (appends e b).state
fewer_appends e b =
    fewer_then b.state (with_entry e (spans_of b.state e) b.state) (appends e b).state (fewer_same b.state (with_entry e (spans_of b.state e) b.state) refl refl refl)
    (fewer_drops (length b.state.order) (touched (spans_of b.state e) b.state.noted) (becomes (with_entry e (spans_of b.state e)) b))

-- replies

replies_pushed : (rs : List Reply) (r : Reply) → ((s t : ℕ) → is_grant_of s t r ≡ false) → RepliesFewer rs (rs ++ r ∷ [])
replies_pushed rs r none s t is = any_pushed (is_grant_of s t) rs r (none s t) is

-- one more that is no Grant
pub fewer_reply : (d : DataState) (r : Reply) → ((s t : ℕ) → is_grant_of s t r ≡ false) → FewerGrants d (record d { replies = d.replies ++ r ∷ [] })
fewer_reply d r none = record { locks = refl; windows = λ s t is. is; replies = replies_pushed d.replies r none }

replies_left : (q : Reply → Bool) (rs : List Reply) → RepliesFewer rs (filter q rs)
replies_left q rs s t is = any_left (is_grant_of s t) q rs is

-- connections

pub fewer_gone_conn : (conn : ℕ) (d : DataState) → FewerGrants d (without_conn conn d)
fewer_gone_conn conn d = record { locks = refl; windows = λ s t is. is; replies = replies_left (is_reply_elsewhere (says_on conn)) d.replies }

pub fewer_drop : (o : Option ℕ) (b : Sofar) → FewerGrants b.state (drops_conn o b).state
fewer_drop None b = fewer_same b.state b.state refl refl refl
fewer_drop (Some conn) b = fewer_gone_conn conn b.state

pub fewer_cut : (ending : Ending) (conn : ℕ) (b : Sofar) → FewerGrants b.state (cuts_if ending conn b).state
fewer_cut There conn b = fewer_same b.state b.state refl refl refl
fewer_cut Here conn b = fewer_same b.state b.state refl refl refl

pub fewer_breaks : (app now : ℕ) (b : Sofar) → FewerGrants b.state (end_breaks (Some app) now b).state
fewer_breaks app now b = go (is_normal (link_of b.state app))
  where
    go : (normal : Bool) → FewerGrants b.state (becomes (with_event app now event.Ended) (breaks_if normal app now b)).state
    go true = fewer_same b.state _ refl refl refl
    go false = fewer_same b.state _ refl refl refl

-- rounds

fewer_back : (joined : Bool) (app now : ℕ) (b : Sofar) → FewerGrants b.state (breaks_unless joined app now (becomes (with_event app now (event.RoundOver joined)) b)).state
fewer_back true app now b = fewer_same b.state _ refl refl refl
fewer_back false app now b = fewer_same b.state _ refl refl refl

pub fewer_backs : (xs : List LiveEnd) (now : ℕ) (b : Sofar) → FewerGrants b.state (ends_back xs now b).state
fewer_backs [] now b = fewer_same b.state b.state refl refl refl
fewer_backs (x ∷ xs) now b =
    fewer_then b.state (end_back x.app x.session now b).state (ends_back xs now (end_back x.app x.session now b)).state
    (fewer_back (is_some (conn_of b.state x.session)) x.app now b) (fewer_backs xs now (end_back x.app x.session now b))

-- sessions

pub fewer_opens : (app conn now : ℕ) (b : Sofar) → FewerGrants b.state (opens app conn now b).state
fewer_opens app conn now b = go (enters (Opened s app) b) (fewer_appends (Opened s app) (writes (act.Enter b.state.server (Opened s app)) b))
  where
    s : ℕ
    s = length b.state.order + 1

    go : (c : Sofar) → FewerGrants b.state c.state → FewerGrants b.state (record (bound app s conn now c.state) { replies = c.state.replies ++ record { at = s; says = NewWelcome conn s } ∷ [] })
    go c less =
        fewer_then b.state c.state _ less
        (fewer_then c.state (with_windows (set_window c.state.windows s fresh) c.state) _ (fewer_fresh c.state s)
        (record { locks = refl; windows = λ q t is. is; replies = replies_pushed c.state.replies (record { at = s; says = NewWelcome conn s }) (λ q t. refl) }))

fewer_parts : (cause : ShutCause) (o : Option ℕ) (s : ℕ) (b : Sofar) → FewerGrants b.state (parts_from cause o s b).state
fewer_parts (Trouble time) None s b = fewer_same b.state b.state refl refl refl
fewer_parts (Trouble time) (Some conn) s b = fewer_same b.state _ refl refl refl
fewer_parts Replaced o s b = fewer_drop o b
fewer_parts (Round time) None s b = fewer_same b.state b.state refl refl refl
fewer_parts (Round time) (Some conn) s b = fewer_same b.state _ refl refl refl

pub fewer_shuts : (s app : ℕ) (cause : ShutCause) (now : ℕ) (b : Sofar) → FewerGrants b.state (shuts s app cause now b).state
fewer_shuts s app cause now b =
    go (parts_from cause (conn_of b.state s) s (with_close s cause b))
    (fewer_then b.state (with_close s cause b).state _
    (awaited (appends (Closed s) (becomes (silenced s) (writes (act.Shut b.state.server s cause) b)))
    (fewer_then b.state (silenced s b.state) _ silent (fewer_appends (Closed s) (becomes (silenced s) (writes (act.Shut b.state.server s cause) b)))))
    (fewer_parts cause (conn_of b.state s) s (with_close s cause b)))
  where
    silent : FewerGrants b.state (silenced s b.state)
    silent = record { locks = refl; windows = fewer_gone b.state.windows s; replies = replies_left (is_reply_elsewhere (says_to s)) b.state.replies }

    awaited : (c : Sofar) → FewerGrants b.state c.state → FewerGrants b.state (unawaited s c.state)
    awaited c less = fewer_then b.state c.state (unawaited s c.state) less (fewer_same c.state (unawaited s c.state) refl refl refl)

    go : (c : Sofar) → FewerGrants b.state c.state → FewerGrants b.state (with_event app now (event_of cause) c.state)
    go c less = fewer_then b.state c.state (with_event app now (event_of cause) c.state) less (fewer_same c.state (with_event app now (event_of cause) c.state) refl refl refl)
