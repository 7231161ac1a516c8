-- What the windows of a data server were given while a step goes on: its small changes, one by one.
use Rattle.std.proofs.Common.{◌≡◌, ◌≢◌, ◌≤◌, ◌⊎◌, inl, inr, ℕ, ◌+◌, ◌-◌, Bool, true, false, max, if◌then◌else◌, List, [], ◌∷◌, ◌++◌, length, drop, map, filter, Option, Some, None, is_some, refl, sym, ◌∙◌, ap, subst, arith, drop-drop}
use Rattle.std.specs.Prelude.{⊤, ◌==◌, ◌&&◌}
use Rattle.std.specs.List.{AllByRecursion, list_any, list_all}
use Rattle.std.proofs.lemmas.Bool.{eqb-true, eq-eqb, ne_eqb, true≢false, false≢true}
use Rattle.std.proofs.lemmas.List.{drop-append-le, append_assoc, length-append, drop-drop}
use Rattle.plain_orders.specs.declared.entry.Entry.{Entry}
use Rattle.plain_orders.specs.declared.entry.Entry.TheVariants.{Epoch, Opened, Closed, Update, Commit, Rollback}
use Rattle.plain_orders.specs.Entries.{live}
use Rattle.plain_orders.proofs.EntryLemmas.{live-push}
use Rattle.ecp_messages.specs.declared.down.Down.{Down}
use Rattle.ecp_messages.specs.declared.up.Up.{Up}
use Rattle.end_words.specs.Windows.{Window, fresh, with_sent, with_ack, with_taken, with_ack_put}
use Rattle.block_holders.specs.declared.noted.Noted.{Noted}
use Rattle.block_holders.specs.HolderWords.{touched, is_touched}
use Rattle.data_rules.specs.DataState.{DataState, SessionWindow}
use Rattle.data_rules.specs.Puts.{Sofar, becomes, tells, puts, window_in, set_window, is_window_elsewhere, conn_of}
use Rattle.data_rules.specs.Entering.{appends, drops, drops_one, with_entry, spans_of}
use Rattle.cluster_runs.specs.Sent.{Lane}
use Rattle.cluster_invariant.specs.Link.{LaneCounts, is_numbered_down, is_window_of, whose}
use Rattle.cluster_invariant.specs.Words.{all_differ, is_begun}
use Rattle.cluster_invariant.proofs.AllLists.{all_filtered}
use Rattle.cluster_invariant.proofs.PutLaws.{windows_put, puts_state, only_puts}
use Rattle.link_kept.proofs.WindowLists.{set_here, set_elsewhere, set_others, set_there, set_differ, gone_elsewhere, gone_others, gone_there, gone_differ, none_there}

-- one window

-- A window keeps what its lane had and what the step put behind it; a session that didn't learn of the order was put nothing.
pub record Grown (lane : Lane) (w : Window Down) : Type 0 where
  pub more : List Down
  pub waiting : w.waiting ≡ drop w.acked (lane.down ++ more)
  pub acked : w.acked ≤ lane.down_taken
  pub taken : w.taken ≤ length lane.up
  pub no_less : lane.up_taken ≤ w.taken
  pub numbered : list_all is_numbered_down more ≡ true
  pub none : lane.began ≡ None → more ≡ []

pub grown_fresh : (lane : Lane) → LaneCounts lane → lane.began ≡ None → Grown lane fresh
grown_fresh lane counts unlearnt = record {
  more = [];
  waiting = sym (ap (λ (ms : List Down). drop 0 (ms ++ [])) (counts.no_down unlearnt));
  acked = omega arith;
  taken = omega arith;
  no_less = omega (arith, counts.up_taken, ap (λ (ms : List Up). length ms) (counts.no_up unlearnt));
  numbered = refl;
  none = λ _. refl;
}

all_pushed : (p : Down → Bool) (ms : List Down) (m : Down) → list_all p ms ≡ true → p m ≡ true → list_all p (ms ++ m ∷ []) ≡ true
all_pushed p [] m all is = ap (λ (b : Bool). b && true) is
all_pushed p (x ∷ ms) m all is = go (p x) all (λ rest. all_pushed p ms m rest is)
  where
    go : (b : Bool) → (b && list_all p ms) ≡ true → (list_all p ms ≡ true → list_all p (ms ++ m ∷ []) ≡ true) → (b && list_all p (ms ++ m ∷ [])) ≡ true
    go true rest more = more rest
    go false rest more = absurd (false≢true rest)

-- a session that learnt of the order may be put a numbered message
pub grown_sent : (lane : Lane) (w : Window Down) (m : Down) → LaneCounts lane → is_begun lane ≡ true → is_numbered_down m ≡ true → Grown lane w
    → Grown lane (with_sent w m)
grown_sent lane w m counts begun is g = record {
  more = g.more ++ m ∷ [];
  waiting =
      ap (λ (ms : List Down). ms ++ m ∷ []) g.waiting
      ∙ sym (drop-append-le w.acked (lane.down ++ g.more) (m ∷ []) (omega (arith, g.acked, counts.down_taken, length-append lane.down g.more)))
      ∙ ap (drop w.acked) (append_assoc lane.down g.more (m ∷ []));
  acked = g.acked;
  taken = g.taken;
  no_less = g.no_less;
  numbered = all_pushed is_numbered_down g.more m g.numbered is;
  none = λ none. absurd (false≢true (sym (ap is_some none) ∙ begun));
}

pub grown_ack_put : (lane : Lane) (w : Window Down) → Grown lane w → Grown lane (with_ack_put w)
grown_ack_put lane w g = record { more = g.more; waiting = g.waiting; acked = g.acked; taken = g.taken; no_less = g.no_less; numbered = g.numbered; none = g.none }

pub drop_more : {X : Type 0} (a b : ℕ) (xs : List X) → drop (b - a) (drop a xs) ≡ drop (max a b) xs
drop_more a b xs = let same : a + (b - a) ≡ max a b = omega arith in drop-drop (b - a) a xs ∙ ap (λ (n : ℕ). drop n xs) same

pub grown_ack : (lane : Lane) (w : Window Down) (ack : ℕ) → ack ≤ lane.down_taken → Grown lane w → Grown lane (with_ack w ack)
grown_ack lane w ack low g = record {
  more = g.more;
  waiting = ap (drop (ack - w.acked)) g.waiting ∙ drop_more w.acked ack (lane.down ++ g.more);
  acked = omega (arith, low, g.acked);
  taken = g.taken;
  no_less = g.no_less;
  numbered = g.numbered;
  none = g.none;
}

pub grown_taken : (lane : Lane) (w : Window Down) (ack : ℕ) → ack ≤ lane.down_taken → w.taken + 1 ≤ length lane.up → Grown lane w → Grown lane (with_taken w ack)
grown_taken lane w ack low room g = go (grown_ack lane w ack low g)
  where
    go : Grown lane (with_ack w ack) → Grown lane (with_taken w ack)
    go a = record { more = a.more; waiting = a.waiting; acked = a.acked; taken = room; no_less = omega (arith, a.no_less); numbered = a.numbered; none = a.none }

-- all windows

-- each window is of a live session, and a live session's has grown from its lane
pub record WindowsGo (was : ℕ → Bool) (lane_of : ℕ → Lane) (ws : List SessionWindow) (es : List Entry) : Type 0 where
  pub differ : all_differ (map whose ws) ≡ true
  pub lives : (s : ℕ) → list_any (is_window_of s) ws ≡ true → live es s ≡ true
  pub each : (s : ℕ) → live es s ≡ true → Grown (lane_of s) (window_in ws s)
  -- one that wasn't live before didn't learn of the order
  pub newly : (s : ℕ) → live es s ≡ true → was s ≡ false → (lane_of s).began ≡ None
  -- nor did a live one without a window
  pub none : (s : ℕ) → live es s ≡ true → list_any (is_window_of s) ws ≡ false → (lane_of s).began ≡ None

-- of the state that a step has come to
abbrev pub WindowsGoOn : (ℕ → Bool) → (ℕ → Lane) → Sofar → Type 0
WindowsGoOn was lane_of b = WindowsGo was lane_of b.state.windows b.state.order

-- the session is live and learnt of the order
abbrev pub Served : (ℕ → Lane) → List Entry → ℕ → Type 0
Served lane_of es s = (live es s ≡ true) × (is_begun (lane_of s) ≡ true)

-- all sessions that have notes
abbrev pub AllServed : (ℕ → Lane) → List Entry → List Noted → Type 0
AllServed lane_of es xs = AllByRecursion (λ (y : Noted). Served lane_of es y.session) xs

pub same_or : (q s : ℕ) → (q ≡ s) ⊎ (q ≢ s)
same_or q s = go (q == s) refl
  where
    go : (b : Bool) → (q == s) ≡ b → (q ≡ s) ⊎ (q ≢ s)
    go true same = inl (eqb-true q s same)
    go false other = inr (λ same. false≢true (sym other ∙ eq-eqb q s same))

pub set_go : (was : ℕ → Bool) (lane_of : ℕ → Lane) (ws : List SessionWindow) (es : List Entry) (s : ℕ) (w : Window Down) → live es s ≡ true → Grown (lane_of s) w
    → WindowsGo was lane_of ws es → WindowsGo was lane_of (set_window ws s w) es
set_go was lane_of ws es s w is g h = record {
  differ = set_differ ws s w h.differ;
  lives = λ q there. lives q there (same_or q s);
  each = λ q lives. each q lives (same_or q s);
  newly = h.newly;
  none = λ q lives gone. none q lives gone (same_or q s);
}
  where
    none : (q : ℕ) → live es q ≡ true → list_any (is_window_of q) (set_window ws s w) ≡ false → (q ≡ s) ⊎ (q ≢ s) → (lane_of q).began ≡ None
    none q lives gone (inl same) =
        absurd (true≢false (sym (set_there ws s w) ∙ ap (λ (n : ℕ). list_any (is_window_of n) (set_window ws s w)) (sym same) ∙ gone))
    none q lives gone (inr apart) = h.none q lives (sym (set_others ws s q w apart) ∙ gone)

    lives : (q : ℕ) → list_any (is_window_of q) (set_window ws s w) ≡ true → (q ≡ s) ⊎ (q ≢ s) → live es q ≡ true
    lives q there (inl same) = ap (live es) same ∙ is
    lives q there (inr apart) = h.lives q (sym (set_others ws s q w apart) ∙ there)

    each : (q : ℕ) → live es q ≡ true → (q ≡ s) ⊎ (q ≢ s) → Grown (lane_of q) (window_in (set_window ws s w) q)
    each q lives (inl same) =
        subst (λ (n : ℕ). Grown (lane_of n) (window_in (set_window ws s w) n)) (sym same)
        (subst (λ (l : Window Down). Grown (lane_of s) l) (sym (set_here ws s w)) g)
    each q lives (inr apart) = subst (λ (l : Window Down). Grown (lane_of q) l) (sym (set_elsewhere ws s q w apart)) (h.each q lives)

pub tells_go : (was : ℕ → Bool) (lane_of : ℕ → Lane) (s conn n : ℕ) (m : Down) (b : Sofar) → live b.state.order s ≡ true → WindowsGoOn was lane_of b → WindowsGoOn was lane_of (tells s conn n m b)
tells_go was lane_of s conn n m b is h =
    set_go was lane_of b.state.windows b.state.order s (with_ack_put (window_in b.state.windows s)) is (grown_ack_put (lane_of s) (window_in b.state.windows s) (h.each s is)) h

module _ (was : ℕ → Bool) (lane_of : ℕ → Lane) (counts : (s : ℕ) → LaneCounts (lane_of s)) where
  pub puts_go : (s : ℕ) (m : Down) (b : Sofar) → Served lane_of b.state.order s → is_numbered_down m ≡ true → WindowsGoOn was lane_of b → WindowsGoOn was lane_of (puts s m b)
  puts_go s m b served is h =
      subst (λ (d : DataState). WindowsGo was lane_of d.windows d.order) (sym (puts_state s m b)) (go (conn_of b.state s))
    where
      ws : List SessionWindow
      ws = b.state.windows

      once : WindowsGo was lane_of (set_window ws s (with_sent (window_in ws s) m)) b.state.order
      once =
          set_go was lane_of ws b.state.order s (with_sent (window_in ws s) m) served.0
          (grown_sent (lane_of s) (window_in ws s) m (counts s) served.1 is (h.each s served.0)) h

      go : (o : Option ℕ) → WindowsGo was lane_of (windows_put o s m ws) b.state.order
      go None = once
      go (Some conn) =
          set_go was lane_of (set_window ws s (with_sent (window_in ws s) m)) b.state.order s
          (with_ack_put (window_in (set_window ws s (with_sent (window_in ws s) m)) s)) served.0
          (grown_ack_put (lane_of s) (window_in (set_window ws s (with_sent (window_in ws s) m)) s) (once.each s served.0)) once

  puts_order : (s : ℕ) (m : Down) (b : Sofar) → (puts s m b).state.order ≡ b.state.order
  puts_order s m b = ap (λ (d : DataState). d.order) (only_puts s m b).state

  pub drops_go : (before : ℕ) (xs : List Noted) (b : Sofar) → AllServed lane_of b.state.order xs → WindowsGoOn was lane_of b → WindowsGoOn was lane_of (drops before xs b)
  drops_go before [] b served h = h
  drops_go before (x ∷ xs) b served h =
      drops_go before xs (drops_one before x xs b)
      (subst (λ (es : List Entry). AllServed lane_of es xs) (sym (puts_order x.session _ b)) served.1) (puts_go x.session _ b served.0 refl h)

  -- an entry, whose Drops go to sessions that are served still
  pub appends_go : (e : Entry) (b : Sofar) → AllServed lane_of (b.state.order ++ e ∷ []) b.state.noted
      → WindowsGo was lane_of b.state.windows (b.state.order ++ e ∷ []) → WindowsGoOn was lane_of (appends e b)
  appends_go e b served h =
      drops_go (length b.state.order) (touched (spans_of b.state e) b.state.noted) (becomes (with_entry e (spans_of b.state e)) b)
      (all_filtered (λ (y : Noted). Served lane_of (b.state.order ++ e ∷ []) y.session) (is_touched (spans_of b.state e)) b.state.noted served) h

-- orders with an entry more

-- an entry that opens and closes nothing
abbrev pub IsStill : Entry → Type 0
IsStill (Epoch number) = ⊤
IsStill (Opened session app) = ⊥
IsStill (Closed session) = ⊥
IsStill (Update session w job txn op) = ⊤
IsStill (Commit session w job txn) = ⊤
IsStill (Rollback session w job txn) = ⊤

pub still_live : (es : List Entry) (e : Entry) (s : ℕ) → IsStill e → live (es ++ e ∷ []) s ≡ live es s
still_live es (Epoch number) s is = live-push es (Epoch number) s
still_live es (Opened session app) s is = absurd is
still_live es (Closed session) s is = absurd is
still_live es (Update session w job txn op) s is = live-push es (Update session w job txn op) s
still_live es (Commit session w job txn) s is = live-push es (Commit session w job txn) s
still_live es (Rollback session w job txn) s is = live-push es (Rollback session w job txn) s

-- what is live stays so behind an Open
pub open_live : (es : List Entry) (s app q : ℕ) → live es q ≡ true → live (es ++ Opened s app ∷ []) q ≡ true
open_live es s app q is = live-push es (Opened s app) q ∙ go (s == q)
  where
    go : (b : Bool) → (if b then true else live es q) ≡ true
    go true = refl
    go false = is

pub opened_live : (es : List Entry) (s app : ℕ) → live (es ++ Opened s app ∷ []) s ≡ true
opened_live es s app = live-push es (Opened s app) s ∙ ap (λ (b : Bool). if b then true else live es s) (eq-eqb s s refl)

-- what is live behind an Open is its session, or was live
pub open_or : (es : List Entry) (s app q : ℕ) → live (es ++ Opened s app ∷ []) q ≡ true → (q ≡ s) ⊎ (live es q ≡ true)
open_or es s app q is = go (s == q) refl (sym (live-push es (Opened s app) q) ∙ is)
  where
    go : (b : Bool) → (s == q) ≡ b → (if b then true else live es q) ≡ true → (q ≡ s) ⊎ (live es q ≡ true)
    go true same at = inl (sym (eqb-true s q same))
    go false other at = inr at

-- what is live behind a Close isn't its session, and was live
pub close_live : (es : List Entry) (s q : ℕ) → live (es ++ Closed s ∷ []) q ≡ true → (q ≢ s) × (live es q ≡ true)
close_live es s q is = go (s == q) refl (sym (live-push es (Closed s) q) ∙ is)
  where
    go : (b : Bool) → (s == q) ≡ b → (if b then false else live es q) ≡ true → (q ≢ s) × (live es q ≡ true)
    go true same at = absurd (false≢true at)
    go false other at = ((λ same. true≢false (sym (eq-eqb s q (sym same)) ∙ other)), at)

pub other_live : (es : List Entry) (s q : ℕ) → q ≢ s → live es q ≡ true → live (es ++ Closed s ∷ []) q ≡ true
other_live es s q apart is = live-push es (Closed s) q ∙ ap (λ (b : Bool). if b then false else live es q) (ne_eqb s q (λ same. apart (sym same))) ∙ is

-- the windows as an entry more stands

pub still_windows : (was : ℕ → Bool) (lane_of : ℕ → Lane) (ws : List SessionWindow) (es : List Entry) (e : Entry) → IsStill e → WindowsGo was lane_of ws es → WindowsGo was lane_of ws (es ++ e ∷ [])
still_windows was lane_of ws es e is h = record {
  differ = h.differ;
  lives = λ s there. still_live es e s is ∙ h.lives s there;
  each = λ s lives. h.each s (sym (still_live es e s is) ∙ lives);
  newly = λ s lives before. h.newly s (sym (still_live es e s is) ∙ lives) before;
  none = λ s lives gone. h.none s (sym (still_live es e s is) ∙ lives) gone;
}

-- a session that opens, of which nothing was put in this order
pub open_windows : (was : ℕ → Bool) (lane_of : ℕ → Lane) (ws : List SessionWindow) (es : List Entry) (s app : ℕ) → LaneCounts (lane_of s) → (lane_of s).began ≡ None → live es s ≡ false
    → WindowsGo was lane_of ws es → WindowsGo was lane_of ws (es ++ Opened s app ∷ [])
open_windows was lane_of ws es s app counts unlearnt closed h = record {
  differ = h.differ;
  lives = λ q there. open_live es s app q (h.lives q there);
  each = λ q lives. each q (open_or es s app q lives);
  newly = λ q lives before. newly q before (open_or es s app q lives);
  none = λ q lives gone. unlearnt_all q gone (open_or es s app q lives);
}
  where
    unlearnt_all : (q : ℕ) → list_any (is_window_of q) ws ≡ false → (q ≡ s) ⊎ (live es q ≡ true) → (lane_of q).began ≡ None
    unlearnt_all q gone (inl same) = subst (λ (n : ℕ). (lane_of n).began ≡ None) (sym same) unlearnt
    unlearnt_all q gone (inr is) = h.none q is gone

    none : list_any (is_window_of s) ws ≡ false
    none = go (list_any (is_window_of s) ws) refl
      where
        go : (b : Bool) → list_any (is_window_of s) ws ≡ b → b ≡ false
        go true there = absurd (true≢false (sym (h.lives s there) ∙ closed))
        go false there = refl

    newly : (q : ℕ) → was q ≡ false → (q ≡ s) ⊎ (live es q ≡ true) → (lane_of q).began ≡ None
    newly q before (inl same) = subst (λ (n : ℕ). (lane_of n).began ≡ None) (sym same) unlearnt
    newly q before (inr is) = h.newly q is before

    each : (q : ℕ) → (q ≡ s) ⊎ (live es q ≡ true) → Grown (lane_of q) (window_in ws q)
    each q (inl same) =
        subst (λ (n : ℕ). Grown (lane_of n) (window_in ws n)) (sym same)
        (subst (λ (w : Window Down). Grown (lane_of s) w) (sym (none_there ws s none)) (grown_fresh (lane_of s) counts unlearnt))
    each q (inr is) = h.each q is

-- one that is closed, whose window goes
pub close_windows : (was : ℕ → Bool) (lane_of : ℕ → Lane) (ws : List SessionWindow) (es : List Entry) (s : ℕ) → WindowsGo was lane_of ws es
    → WindowsGo was lane_of (filter (is_window_elsewhere s) ws) (es ++ Closed s ∷ [])
close_windows was lane_of ws es s h = record {
  differ = gone_differ ws s h.differ;
  lives = λ q there. let at : (q ≢ s) × (list_any (is_window_of q) ws ≡ true) = gone_there ws s q there in other_live es s q at.0 (h.lives q at.1);
  each =
      λ q lives.
      let at : (q ≢ s) × (live es q ≡ true) = close_live es s q lives in
      subst (λ (w : Window Down). Grown (lane_of q) w) (sym (gone_elsewhere ws s q at.0)) (h.each q at.1);
  newly = λ q lives before. let at : (q ≢ s) × (live es q ≡ true) = close_live es s q lives in h.newly q at.1 before;
  none =
      λ q lives gone.
      let at : (q ≢ s) × (live es q ≡ true) = close_live es s q lives in h.none q at.1 (sym (gone_others ws s q at.0) ∙ gone);
}
