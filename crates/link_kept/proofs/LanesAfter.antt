-- The windows and the lanes after a whole step of a data server.
use Rattle.std.proofs.Common.{◌≡◌, ◌≤◌, ℕ, ◌+◌, ◌-◌, Bool, true, false, not, if◌then◌else◌, cond, List, [], ◌∷◌, ◌++◌, length, drop, map, filter, None, is_some, refl, sym, ◌∙◌, ap, subst, arith}
use Rattle.std.specs.Prelude.{◌==◌, ◌&&◌}
use Rattle.std.specs.List.{list_any, list_all}
use Rattle.std.proofs.lemmas.Bool.{eqb-true, true≢false, false≢true}
use Rattle.std.proofs.lemmas.List.{append-nil, length-append, length-drop, drop-drop}
use Rattle.std.proofs.Math.Seq.{drop-append_seam}
use Rattle.subscript_keys.specs.declared.span.Span.{Span}
use Rattle.plain_orders.specs.declared.entry.Entry.{Entry}
use Rattle.plain_orders.specs.Entries.{live, closes}
use Rattle.plain_orders.specs.Fold.{fold}
use Rattle.plain_orders.specs.Spans.{entry_spans}
use Rattle.ecp_messages.specs.declared.down.Down.{Down}
use Rattle.end_words.specs.Windows.{Window, fresh, sent}
use Rattle.block_holders.specs.declared.noted.Noted.{Noted}
use Rattle.data_rules.specs.DataState.{DataState}
use Rattle.data_rules.specs.declared.down_frames.DownOut.{DownOut}
use Rattle.data_rules.specs.declared.data_in.DataIn.{DataIn}
use Rattle.data_rules.specs.declared.data_in.DataIn.TheVariants as data_in
use Rattle.data_rules.specs.Puts.{begun, window_of}
use Rattle.cluster_runs.specs.Sent.{Lane}
use Rattle.cluster_runs.specs.Lanes.{notes_of, drops_until, downs_given, is_closed_by, given_since, with_data_step, is_noted_of, span_of}
use Rattle.cluster_runs.specs.WireDrops.{Notes, with_entry, drops_of, is_met}
use Rattle.cluster_invariant.specs.Link.{LaneCounts, WindowIs, is_numbered_down, is_window_of, whose}
use Rattle.cluster_invariant.specs.Words.{all_differ, is_begun}
use Rattle.cluster_invariant.proofs.PieceMay.{Coming, begins}
use Rattle.cluster_invariant.proofs.PiecesOfSteps.{synced_state}
use Rattle.link_kept.proofs.AppLater.{LaneLater}
use Rattle.link_kept.proofs.WindowLists.{none_there}
use Rattle.link_kept.proofs.WindowsGo.{Grown, WindowsGo, WindowsGoOn, AllServed}

-- what was put to a session that the step closed

list_joined : (p : Down → Bool) (xs ys : List Down) → list_all p xs ≡ true → list_all p ys ≡ true → list_all p (xs ++ ys) ≡ true
list_joined p [] ys a b = b
list_joined p (x ∷ xs) ys a b = go (p x) a (λ rest. list_joined p xs ys rest b)
  where
    go : (c : Bool) → (c && list_all p xs) ≡ true → (list_all p xs ≡ true → list_all p (xs ++ ys) ≡ true) → (c && list_all p (xs ++ ys)) ≡ true
    go true rest more = more rest
    go false rest more = absurd (false≢true rest)

drops_numbered : (before with_it : List Entry) (synced s : ℕ) (xs : List Span) → list_all is_numbered_down (drops_of before with_it synced s xs) ≡ true
drops_numbered before with_it synced s [] = refl
drops_numbered before with_it synced s (x ∷ xs) = drops_numbered before with_it synced s xs

-- all of it has numbers
until_numbered : (s : ℕ) (t : Notes) (es : List Entry) → list_all is_numbered_down (drops_until s t es) ≡ true
until_numbered s t [] = refl
until_numbered s t (e ∷ es) = go (closes s e) (until_numbered s (record (with_entry t s e) { due = [] }) es)
  where
    go : (b : Bool) → list_all is_numbered_down (drops_until s (record (with_entry t s e) { due = [] }) es) ≡ true
        → list_all is_numbered_down (if b then [] else (with_entry t s e).due ++ drops_until s (record (with_entry t s e) { due = [] }) es) ≡ true
    go true more = refl
    go false more =
        list_joined is_numbered_down (with_entry t s e).due (drops_until s (record (with_entry t s e) { due = [] }) es)
        (drops_numbered t.order (t.order ++ e ∷ []) t.synced s (filter (is_met (entry_spans (fold t.order) e)) t.noted)) more

-- one without notes is put nothing
until_none : (s : ℕ) (t : Notes) (es : List Entry) → drops_until s (record t { noted = []; due = [] }) es ≡ []
until_none s t [] = refl
until_none s t (e ∷ es) = go (closes s e) (until_none s (record t { order = t.order ++ e ∷ [] }) es)
  where
    go : (b : Bool) → drops_until s (record t { order = t.order ++ e ∷ []; noted = []; due = [] }) es ≡ []
        → (if b then [] else [] ++ drops_until s (record t { order = t.order ++ e ∷ []; noted = []; due = [] }) es) ≡ []
    go true more = refl
    go false more = more

-- a session that didn't learn of the order has no notes where all that have are served
no_notes : (lane_of : ℕ → Lane) (es : List Entry) (s : ℕ) (xs : List Noted) → (lane_of s).began ≡ None → AllServed lane_of es xs → filter (is_noted_of s) xs ≡ []
no_notes lane_of es s [] unlearnt served = refl
no_notes lane_of es s (y ∷ ys) unlearnt served = go (y.session == s) refl (no_notes lane_of es s ys unlearnt served.1)
  where
    go : (b : Bool) → (y.session == s) ≡ b → filter (is_noted_of s) ys ≡ [] → cond b (y ∷ filter (is_noted_of s) ys) (filter (is_noted_of s) ys) ≡ []
    go true same more =
        absurd (false≢true (sym (ap is_some unlearnt) ∙ ap (λ (n : ℕ). is_begun (lane_of n)) (sym (eqb-true y.session s same)) ∙ served.0.1))
    go false other more = more

-- where a step begins

pub windows_begin : (lane_of : ℕ → Lane) (d : DataState) → all_differ (map whose d.windows) ≡ true
    → ((s : ℕ) → list_any (is_window_of s) d.windows ≡ true → live d.order s ≡ true)
    → ((s : ℕ) → live d.order s ≡ true → WindowIs (window_of d s) (lane_of s).down (lane_of s).down_taken (lane_of s).up_taken)
    → ((s : ℕ) → live d.order s ≡ true → list_any (is_window_of s) d.windows ≡ false → (lane_of s).began ≡ None)
    → ((s : ℕ) → LaneCounts (lane_of s)) → WindowsGo (live d.order) lane_of d.windows d.order
windows_begin lane_of d differ lives each none counts = record {
  differ = differ;
  lives = lives;
  each = λ s is. grown s (each s is);
  newly = λ s is before. absurd (true≢false (sym is ∙ before));
  none = none;
}
  where
    grown : (s : ℕ) → WindowIs (window_of d s) (lane_of s).down (lane_of s).down_taken (lane_of s).up_taken → Grown (lane_of s) (window_of d s)
    grown s w = record {
      more = [];
      waiting = w.waiting ∙ ap (drop (window_of d s).acked) (sym (append-nil (lane_of s).down));
      acked = w.acked;
      taken = omega (arith, w.taken, (counts s).up_taken);
      no_less = omega (arith, w.taken);
      numbered = refl;
      none = λ _. refl;
    }

-- a save counts at once, and the windows are as they were
pub begins_go : (was : ℕ → Bool) (lane_of : ℕ → Lane) (t : Coming) → WindowsGo was lane_of t.old.windows t.old.order → WindowsGoOn was lane_of (begins t)
begins_go was lane_of t h = go t.input
  where
    go : (input : DataIn) → WindowsGoOn was lane_of (begins (record { old = t.old; now = t.now; input = input }))
    go (data_in.Frame conn up) = h
    go (data_in.Connected conn) = h
    go (data_in.Broken conn) = h
    go data_in.Tick = h
    go (data_in.Saved upto) = subst (λ (d : DataState). WindowsGo was lane_of d.windows d.order) (sym (synced_state upto (begun t.old))) h

-- where it ends

module _ (lane_of : ℕ → Lane) (counts : (s : ℕ) → LaneCounts (lane_of s)) (old new : DataState) (frames : List DownOut)
    (first : WindowsGo (live old.order) lane_of old.windows old.order)
    (went : (s : ℕ) → live old.order s ≡ true → WindowIs (window_of old s) (lane_of s).down (lane_of s).down_taken (lane_of s).up_taken)
    (noted : AllServed lane_of old.order old.noted) (goes : WindowsGo (live old.order) lane_of new.windows new.order) where
  abbrev pub lane_after : ℕ → Lane
  lane_after s = with_data_step old new frames s (lane_of s)

  -- a session that isn't live has no window
  not_there : (d : DataState) → WindowsGo (live old.order) lane_of d.windows d.order → (s : ℕ) → live d.order s ≡ false → window_of d s ≡ fresh
  not_there d h s dead = go (list_any (is_window_of s) d.windows) refl
    where
      go : (b : Bool) → list_any (is_window_of s) d.windows ≡ b → window_of d s ≡ fresh
      go true there = absurd (true≢false (sym (h.lives s there) ∙ dead))
      go false there = none_there d.windows s there

  -- so many messages were put before the step
  sent_before : (s : ℕ) → live new.order s ≡ true → sent (window_of old s) ≡ length (lane_of s).down
  sent_before s lives = go (live old.order s) refl
    where
      go : (b : Bool) → live old.order s ≡ b → sent (window_of old s) ≡ length (lane_of s).down
      go true is = ap (λ (ms : List Down). (window_of old s).acked + length ms) (went s is).waiting ∙ omega (arith, (went s is).acked, (counts s).down_taken, length-drop (window_of old s).acked (lane_of s).down)
      go false dead =
          ap (λ (w : Window Down). sent w) (not_there old first s dead)
          ∙ ap (λ (ms : List Down). length ms) (sym ((counts s).no_down (goes.newly s lives dead)))

  closed_false : (a b : Bool) → b ≡ true → (a && not b) ≡ false
  closed_false true b is = ap not is
  closed_false false b is = refl

  -- what a live session was put in the step
  given_live : (s : ℕ) → live new.order s ≡ true → (g : Grown (lane_of s) (window_of new s)) → downs_given (is_closed_by old new s) old new s ≡ g.more
  given_live s lives g =
      ap (λ (b : Bool). downs_given b old new s) (closed_false (live old.order s) (live new.order s) lives)
      ∙ ap (λ (n : ℕ). drop (n - (window_of new s).acked) (window_of new s).waiting) (sent_before s lives)
      ∙ ap (drop (length (lane_of s).down - (window_of new s).acked)) g.waiting
      ∙ drop-drop (length (lane_of s).down - (window_of new s).acked) (window_of new s).acked ((lane_of s).down ++ g.more)
      ∙ ap (λ (n : ℕ). drop n ((lane_of s).down ++ g.more)) same
      ∙ drop-append_seam (lane_of s).down g.more
    where
      same : (window_of new s).acked + (length (lane_of s).down - (window_of new s).acked) ≡ length (lane_of s).down
      same = omega (arith, g.acked, (counts s).down_taken)

  -- The window of a live session is as its lane is after the step.
  pub window_after : (s : ℕ) → live new.order s ≡ true → WindowIs (window_of new s) (lane_after s).down (lane_after s).down_taken (lane_after s).up_taken
  window_after s lives = go (goes.each s lives)
    where
      go : Grown (lane_of s) (window_of new s) → WindowIs (window_of new s) (lane_after s).down (lane_after s).down_taken (lane_after s).up_taken
      go g = record {
        waiting = g.waiting ∙ ap (λ (ms : List Down). drop (window_of new s).acked ((lane_of s).down ++ ms)) (sym (given_live s lives g));
        acked = g.acked;
        taken = sym (ap (λ (b : Bool). if b then (window_of new s).taken else (lane_of s).up_taken) lives);
      }

  -- what any session was put in the step
  record GivenIs (s : ℕ) : Type 0 where
    numbered : list_all is_numbered_down (downs_given (is_closed_by old new s) old new s) ≡ true
    none : (lane_of s).began ≡ None → downs_given (is_closed_by old new s) old new s ≡ []

  given_is : (s : ℕ) → GivenIs s
  given_is s = by_new (live new.order s) refl
    where
      dead : live new.order s ≡ false → (b : Bool) → live old.order s ≡ b
          → (list_all is_numbered_down (downs_given (b && not false) old new s) ≡ true) × ((lane_of s).began ≡ None → downs_given (b && not false) old new s ≡ [])
      dead gone true is = (
        until_numbered s (notes_of old s) (drop (length old.order) new.order),
        λ unlearnt.
            ap (λ (xs : List Noted). drops_until s (record (notes_of old s) { noted = map span_of xs; due = [] }) (drop (length old.order) new.order))
            (no_notes lane_of old.order s old.noted unlearnt noted)
            ∙ until_none s (notes_of old s) (drop (length old.order) new.order),
      )
      dead gone false is = (ap (list_all is_numbered_down) nothing, λ unlearnt. nothing)
        where
          nothing : given_since (sent (window_of old s)) (window_of new s) ≡ []
          nothing =
              ap (λ (w : Window Down). given_since (sent w) (window_of new s)) (not_there old first s is)
              ∙ ap (λ (w : Window Down). given_since (sent (fresh {M = Down})) w) (not_there new goes s gone)

      by_new : (b : Bool) → live new.order s ≡ b → GivenIs s
      by_new true lives =
          let g : Grown (lane_of s) (window_of new s) = goes.each s lives in
          record { numbered = ap (list_all is_numbered_down) (given_live s lives g) ∙ g.numbered; none = λ unlearnt. given_live s lives g ∙ g.none unlearnt }
      by_new false gone =
          let closed : is_closed_by old new s ≡ (live old.order s && not false) = ap (λ (b : Bool). live old.order s && not b) gone in
          let both : (list_all is_numbered_down (downs_given (live old.order s && not false) old new s) ≡ true)
          × ((lane_of s).began ≡ None → downs_given (live old.order s && not false) old new s ≡ []) = dead gone (live old.order s) refl in
          record {
            numbered = ap (λ (b : Bool). list_all is_numbered_down (downs_given b old new s)) closed ∙ both.0;
            none = λ unlearnt. ap (λ (b : Bool). downs_given b old new s) closed ∙ both.1 unlearnt;
          }

  -- What was put and taken of each session in the order after the step.
  pub counts_after : (s : ℕ) → LaneCounts (lane_after s)
  counts_after s = go (given_is s)
    where
      taken : (b : Bool) → live new.order s ≡ b → (if b then (window_of new s).taken else (lane_of s).up_taken) ≤ length (lane_of s).up
      taken true lives = (goes.each s lives).taken
      taken false gone = (counts s).up_taken

      go : GivenIs s → LaneCounts (lane_after s)
      go g = record {
        up_taken = taken (live new.order s) refl;
        down_taken = omega (arith, (counts s).down_taken, length-append (lane_of s).down (downs_given (is_closed_by old new s) old new s));
        no_up = λ unlearnt. (counts s).no_up unlearnt;
        no_down =
            λ unlearnt.
            ap (λ (ms : List Down). ms ++ downs_given (is_closed_by old new s) old new s) ((counts s).no_down unlearnt) ∙ g.none unlearnt;
        ups = (counts s).ups;
        downs = list_joined is_numbered_down (lane_of s).down (downs_given (is_closed_by old new s) old new s) (counts s).downs g.numbered;
      }

  -- So the lane goes on.
  pub lane_goes : (s : ℕ) → LaneLater (lane_of s) (lane_after s)
  lane_goes s = record {
    began = refl;
    up = refl;
    up_taken = taken (live new.order s) refl;
    down = (downs_given (is_closed_by old new s) old new s, refl);
    down_taken = refl;
  }
    where
      taken : (b : Bool) → live new.order s ≡ b → (lane_of s).up_taken ≤ (if b then (window_of new s).taken else (lane_of s).up_taken)
      taken true lives = (goes.each s lives).no_less
      taken false gone = omega arith
