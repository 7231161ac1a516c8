-- What a running node has of its sessions while a step goes on: of those alone whose application servers learnt of the order.
use Rattle.std.proofs.Common.{◌≡◌, ◌≢◌, ◌≤◌, ℕ, ◌+◌, Bool, true, false, not, List, [], ◌∷◌, ◌++◌, length, filter, drop, None, refl, sym, ◌∙◌, ap, subst, arith}
use Rattle.std.specs.Prelude.{◌==◌, ◌||◌}
use Rattle.std.specs.List.{AllByRecursion, list_any}
use Rattle.std.proofs.lemmas.Bool.{eq-eqb, true≢false, or_parts}
use Rattle.std.proofs.lemmas.List.{drop-append-le, length-append}
use Rattle.subscript_keys.specs.declared.span.Span.{Span}
use Rattle.plain_orders.specs.declared.entry.Entry.{Entry}
use Rattle.plain_orders.specs.declared.entry.Entry.TheVariants.{Closed}
use Rattle.plain_orders.specs.Entries.{live}
use Rattle.plain_orders.specs.ItemEntries.{is_item_of}
use Rattle.lock_table.specs.declared.rows.Request.{Request}
use Rattle.lock_table.specs.LockWords.{Locks, Freed}
use Rattle.block_holders.specs.declared.noted.Noted.{Noted}
use Rattle.block_holders.specs.HolderWords.{untouched, is_untouched, forgotten, is_noted_elsewhere}
use Rattle.data_rules.specs.DataState.{DataState, SessionWindow}
use Rattle.data_rules.specs.declared.rows.Reply.{Reply}
use Rattle.data_rules.specs.declared.rows.Says.{Says}
use Rattle.data_rules.specs.declared.rows.Says.TheVariants.{NewWelcome, EpochWelcome, ResetOf, GrantOf, AnswerOf}
use Rattle.data_rules.specs.Puts.{Sofar, becomes, says_to, is_reply_elsewhere}
use Rattle.data_rules.specs.Entering.{with_entry}
use Rattle.data_rules.specs.Granting.{grants, grants_one, locks_become, with_locks}
use Rattle.data_rules.specs.Saving.{has_item_of}
use Rattle.cluster_runs.specs.Sent.{Lane}
use Rattle.cluster_invariant.specs.Words.{is_begun}
use Rattle.cluster_invariant.proofs.AllLists.{all_joined, all_filtered, all_follow, all_both, all_passed}
use Rattle.cluster_invariant.proofs.PutLaws.{with_windows}
use Rattle.link_kept.proofs.LockWaits.{TableWaits}
use Rattle.link_kept.proofs.LockSessions.{RequestsOf, TableOf, FreedOf}
use Rattle.link_kept.proofs.WindowsGo.{Served, AllServed, close_live, other_live}
use Rattle.link_kept.proofs.WindowPieces.{SaysServed}

-- its application server learnt of the order
abbrev pub Learnt : (ℕ → Lane) → ℕ → Type 0
Learnt lane_of s = is_begun (lane_of s) ≡ true

-- that of a request did too, and it is live, but where the step may close sessions, whose requests go one by one
abbrev pub MayAsk : (ℕ → Lane) → Bool → List Entry → ℕ → Type 0
MayAsk lane_of closing es s = (closing ≡ false → live es s ≡ true) × (is_begun (lane_of s) ≡ true)

-- the replies that wait are for sessions that may be told them
abbrev pub RepliesServed : (ℕ → Lane) → List Entry → List Reply → Type 0
RepliesServed lane_of es rs = AllByRecursion (λ (r : Reply). SaysServed lane_of es r.says) rs

-- the state that a step has come to
pub record ServesGo (lane_of : ℕ → Lane) (closing : Bool) (d : DataState) : Type 0 where
  pub noted : AllServed lane_of d.order d.noted
  pub table : TableOf (Learnt lane_of) (MayAsk lane_of closing d.order) d.locks
  pub waits : TableWaits d.locks
  pub replies : RepliesServed lane_of d.order d.replies
  pub items : (s : ℕ) → (lane_of s).began ≡ None → has_item_of (drop d.synced d.order) s ≡ false
  pub synced : d.synced ≤ length d.order
  pub low : (s : ℕ) → live d.order s ≡ true → s ≤ length d.order

-- what is told of sessions and what is held is the same
pub record SameServed (d e : DataState) : Type 0 where
  pub order : e.order ≡ d.order
  pub synced : e.synced ≡ d.synced
  pub noted : e.noted ≡ d.noted
  pub locks : e.locks ≡ d.locks

module _ (lane_of : ℕ → Lane) (closing : Bool) where
  pub serves_by : (d e : DataState) → SameServed d e → RepliesServed lane_of d.order e.replies → ServesGo lane_of closing d → ServesGo lane_of closing e
  serves_by d e same rs h = record {
    noted =
        subst (λ (xs : List Noted). AllServed lane_of e.order xs) (sym same.noted)
        (subst (λ (es : List Entry). AllServed lane_of es d.noted) (sym same.order) h.noted);
    table =
        subst (λ (l : Locks). TableOf (Learnt lane_of) (MayAsk lane_of closing e.order) l) (sym same.locks)
        (subst (λ (es : List Entry). TableOf (Learnt lane_of) (MayAsk lane_of closing es) d.locks) (sym same.order) h.table);
    waits = subst TableWaits (sym same.locks) h.waits;
    replies = subst (λ (es : List Entry). RepliesServed lane_of es e.replies) (sym same.order) rs;
    items =
        λ s unlearnt.
        ap (λ (n : ℕ). has_item_of (drop n e.order) s) same.synced ∙ ap (λ (es : List Entry). has_item_of (drop d.synced es) s) same.order ∙ h.items s unlearnt;
    synced = subst (λ (n : ℕ). n ≤ length e.order) (sym same.synced) (subst (λ (es : List Entry). d.synced ≤ length es) (sym same.order) h.synced);
    low =
        λ s lives.
        subst (λ (es : List Entry). s ≤ length es) (sym same.order) (h.low s (ap (λ (es : List Entry). live es s) (sym same.order) ∙ lives));
  }

  -- windows aren't among it
  pub serves_windows : (ws : List SessionWindow) (d : DataState) → ServesGo lane_of closing d → ServesGo lane_of closing (with_windows ws d)
  serves_windows ws d h = serves_by d (with_windows ws d) (record { order = refl; synced = refl; noted = refl; locks = refl }) h.replies h

  -- some of the replies
  pub serves_fewer : (d e : DataState) (p : Reply → Bool) → SameServed d e → e.replies ≡ filter p d.replies → ServesGo lane_of closing d → ServesGo lane_of closing e
  serves_fewer d e p same rs h =
      serves_by d e same
      (subst (λ (l : List Reply). RepliesServed lane_of d.order l) (sym rs) (all_filtered (λ (r : Reply). SaysServed lane_of d.order r.says) p d.replies h.replies)) h

  -- a reply more
  pub serves_reply : (d : DataState) (at : ℕ) (says : Says) → SaysServed lane_of d.order says → ServesGo lane_of closing d
      → ServesGo lane_of closing (record d { replies = d.replies ++ record { at = at; says = says } ∷ [] })
  serves_reply d at says is h =
      serves_by d (record d { replies = d.replies ++ record { at = at; says = says } ∷ [] }) (record { order = refl; synced = refl; noted = refl; locks = refl })
      (all_joined (λ (r : Reply). SaysServed lane_of d.order r.says) d.replies (record { at = at; says = says } ∷ []) h.replies (is, tt)) h

  -- requests that are granted
  pub serves_grants : (rs : List Request) (b : Sofar) → RequestsOf (Served lane_of b.state.order) rs → ServesGo lane_of closing b.state
      → ServesGo lane_of closing (grants rs b).state
  serves_grants [] b served h = h
  serves_grants (r ∷ rs) b served h =
      serves_grants rs (grants_one r b) served.1
      (serves_reply b.state (length b.state.order) (GrantOf r.who.session r.ticket (length b.state.order)) served.0 h)

  -- a call of the table of locks
  pub serves_locks : (f : Freed) (b : Sofar) → FreedOf (Learnt lane_of) (MayAsk lane_of closing b.state.order) f → TableWaits f.locks
      → RequestsOf (λ s. live b.state.order s ≡ true) f.grants → ServesGo lane_of closing b.state → ServesGo lane_of closing (locks_become f b).state
  serves_locks f b freed waits lives h =
      serves_grants f.grants (becomes (with_locks f.locks) b)
      (all_follow (λ (r : Request). (live b.state.order r.who.session ≡ true) × MayAsk lane_of closing b.state.order r.who.session)
      (λ (r : Request). Served lane_of b.state.order r.who.session) (λ r both. (both.0, both.1.1)) f.grants
      (all_both (λ (r : Request). live b.state.order r.who.session ≡ true) (λ (r : Request). MayAsk lane_of closing b.state.order r.who.session) f.grants lives
      freed.grants))
      (record { noted = h.noted; table = freed.table; waits = waits; replies = h.replies; items = h.items; synced = h.synced; low = h.low })

  -- orders with an entry more

  any_pushed : (p : Entry → Bool) (es : List Entry) (e : Entry) → list_any p es ≡ false → p e ≡ false → list_any p (es ++ e ∷ []) ≡ false
  any_pushed p [] e none is = ap (λ (b : Bool). b || false) is
  any_pushed p (x ∷ es) e none is =
      let parts : (p x ≡ false) × (list_any p es ≡ false) = or_parts (p x) (list_any p es) none in
      ap (λ (b : Bool). b || list_any p (es ++ e ∷ [])) parts.0 ∙ any_pushed p es e parts.1 is

  items_pushed : (d : DataState) (e : Entry) (s : ℕ) → d.synced ≤ length d.order → has_item_of (drop d.synced d.order) s ≡ false → is_item_of s e ≡ false
      → has_item_of (drop d.synced (d.order ++ e ∷ [])) s ≡ false
  items_pushed d e s low none is =
      ap (λ (xs : List Entry). has_item_of xs s) (drop-append-le d.synced d.order (e ∷ []) low) ∙ any_pushed (is_item_of s) (drop d.synced d.order) e none is

  says_later : (es fs : List Entry) → ((q : ℕ) → live es q ≡ true → live fs q ≡ true) → (says : Says) → SaysServed lane_of es says → SaysServed lane_of fs says
  says_later es fs more (NewWelcome conn s) is = more s is
  says_later es fs more (EpochWelcome conn s kept) is = more s is
  says_later es fs more (ResetOf conn s place) is = is
  says_later es fs more (GrantOf s ticket number) is = (more s is.0, is.1)
  says_later es fs more (AnswerOf s about job number place sum) is = (more s is.0, is.1)

  -- An entry that closes nothing, and is no item of a session that didn't learn of the order.
  pub serves_entry : (d : DataState) (e : Entry) (spans : List Span) → ((q : ℕ) → live d.order q ≡ true → live (d.order ++ e ∷ []) q ≡ true)
      → ((q : ℕ) → live (d.order ++ e ∷ []) q ≡ true → q ≤ length d.order + 1) → ((s : ℕ) → (lane_of s).began ≡ None → is_item_of s e ≡ false)
      → ServesGo lane_of closing d → ServesGo lane_of closing (with_entry e spans d)
  serves_entry d e spans more low none h = record {
    noted =
        all_follow (λ (y : Noted). Served lane_of d.order y.session) (λ (y : Noted). Served lane_of (d.order ++ e ∷ []) y.session)
        (λ (y : Noted) is. (more y.session is.0, is.1)) (untouched spans d.noted)
        (all_filtered (λ (y : Noted). Served lane_of d.order y.session) (is_untouched spans) d.noted h.noted);
    table = record {
      holds = h.table.holds;
      requests =
          all_follow (λ (r : Request). MayAsk lane_of closing d.order r.who.session) (λ (r : Request). MayAsk lane_of closing (d.order ++ e ∷ []) r.who.session)
          (λ (r : Request) is. ((λ still. more r.who.session (is.0 still)), is.1)) d.locks.requests h.table.requests;
      granted = h.table.granted;
    };
    waits = h.waits;
    replies =
        all_follow (λ (r : Reply). SaysServed lane_of d.order r.says) (λ (r : Reply). SaysServed lane_of (d.order ++ e ∷ []) r.says)
        (λ (r : Reply) is. says_later d.order (d.order ++ e ∷ []) more r.says is) d.replies h.replies;
    items = λ s unlearnt. items_pushed d e s h.synced (h.items s unlearnt) (none s unlearnt);
    synced = omega (arith, h.synced, length-append d.order (e ∷ []));
    low = λ q lives. omega (arith, low q lives, length-append d.order (e ∷ []));
  }

  not_true : (b : Bool) → not b ≡ true → b ≡ false
  not_true true is = sym is
  not_true false is = refl

  -- a reply that is none to the session that is closed
  says_elsewhere : (es : List Entry) (s : ℕ) (says : Says) → says_to s says ≡ false → SaysServed lane_of es says → SaysServed lane_of (es ++ Closed s ∷ []) says
  says_elsewhere es s (NewWelcome conn q) other is = other_live es s q (λ same. true≢false (sym (eq-eqb q s same) ∙ other)) is
  says_elsewhere es s (EpochWelcome conn q kept) other is = other_live es s q (λ same. true≢false (sym (eq-eqb q s same) ∙ other)) is
  says_elsewhere es s (ResetOf conn q place) other is = is
  says_elsewhere es s (GrantOf q ticket number) other is = (other_live es s q (λ same. true≢false (sym (eq-eqb q s same) ∙ other)) is.0, is.1)
  says_elsewhere es s (AnswerOf q about job number place sum) other is = (other_live es s q (λ same. true≢false (sym (eq-eqb q s same) ∙ other)) is.0, is.1)

  -- A Close, as what its session had goes.
  pub serves_close : (d : DataState) (s : ℕ) (spans : List Span) (e : DataState) → closing ≡ true → e.order ≡ d.order → e.synced ≡ d.synced
      → e.noted ≡ forgotten s d.noted → e.locks ≡ d.locks → e.replies ≡ filter (is_reply_elsewhere (says_to s)) d.replies
      → ServesGo lane_of closing d → ServesGo lane_of closing (with_entry (Closed s) spans e)
  serves_close d s spans e closes order synced noted locks replied h = record {
    noted =
        subst (λ (xs : List Noted). AllServed lane_of (e.order ++ Closed s ∷ []) (untouched spans xs)) (sym noted)
        (subst (λ (es : List Entry). AllServed lane_of (es ++ Closed s ∷ []) (untouched spans (forgotten s d.noted))) (sym order)
        (all_filtered (λ (y : Noted). Served lane_of (d.order ++ Closed s ∷ []) y.session) (is_untouched spans) (forgotten s d.noted) kept_notes));
    table =
        subst (λ (l : Locks). TableOf (Learnt lane_of) (MayAsk lane_of closing (e.order ++ Closed s ∷ [])) l) (sym locks) (record {
          holds = h.table.holds;
          requests =
              all_follow (λ (r : Request). MayAsk lane_of closing d.order r.who.session)
              (λ (r : Request). MayAsk lane_of closing (e.order ++ Closed s ∷ []) r.who.session)
              (λ (r : Request) is. ((λ still. absurd (true≢false (sym closes ∙ still))), is.1)) d.locks.requests h.table.requests;
          granted = h.table.granted;
        });
    waits = subst TableWaits (sym locks) h.waits;
    replies =
        subst (λ (rs : List Reply). RepliesServed lane_of (e.order ++ Closed s ∷ []) rs) (sym replied)
        (subst (λ (es : List Entry). RepliesServed lane_of (es ++ Closed s ∷ []) (filter (is_reply_elsewhere (says_to s)) d.replies)) (sym order) kept_replies);
    items =
        λ q unlearnt.
        items_pushed e (Closed s) q under
        (ap (λ (n : ℕ). has_item_of (drop n e.order) q) synced ∙ ap (λ (es : List Entry). has_item_of (drop d.synced es) q) order ∙ h.items q unlearnt) refl;
    synced = omega (arith, under, length-append e.order (Closed s ∷ []));
    low =
        λ q lives.
        let at : (q ≢ s) × (live e.order q ≡ true) = close_live e.order s q lives in
        omega (arith, h.low q (ap (λ (es : List Entry). live es q) (sym order) ∙ at.1), ap (λ (es : List Entry). length es) order, length-append e.order (Closed s ∷ []));
  }
    where
      under : e.synced ≤ length e.order
      under = subst (λ (n : ℕ). n ≤ length e.order) (sym synced) (subst (λ (es : List Entry). d.synced ≤ length es) (sym order) h.synced)

      kept_notes : AllServed lane_of (d.order ++ Closed s ∷ []) (forgotten s d.noted)
      kept_notes =
          all_follow (λ (y : Noted). Served lane_of d.order y.session × (is_noted_elsewhere s y ≡ true))
          (λ (y : Noted). Served lane_of (d.order ++ Closed s ∷ []) y.session)
          (λ (y : Noted) at. (other_live d.order s y.session (λ same. true≢false (sym (eq-eqb y.session s same) ∙ not_true (y.session == s) at.1)) at.0.0, at.0.1))
          (forgotten s d.noted)
          (all_both (λ (y : Noted). Served lane_of d.order y.session) (λ (y : Noted). is_noted_elsewhere s y ≡ true) (forgotten s d.noted)
          (all_filtered (λ (y : Noted). Served lane_of d.order y.session) (is_noted_elsewhere s) d.noted h.noted) (all_passed (is_noted_elsewhere s) d.noted))

      kept_replies : RepliesServed lane_of (d.order ++ Closed s ∷ []) (filter (is_reply_elsewhere (says_to s)) d.replies)
      kept_replies =
          all_follow (λ (r : Reply). SaysServed lane_of d.order r.says × (is_reply_elsewhere (says_to s) r ≡ true))
          (λ (r : Reply). SaysServed lane_of (d.order ++ Closed s ∷ []) r.says)
          (λ (r : Reply) at. says_elsewhere d.order s r.says (not_true (says_to s r.says) at.1) at.0) (filter (is_reply_elsewhere (says_to s)) d.replies)
          (all_both (λ (r : Reply). SaysServed lane_of d.order r.says) (λ (r : Reply). is_reply_elsewhere (says_to s) r ≡ true)
          (filter (is_reply_elsewhere (says_to s)) d.replies)
          (all_filtered (λ (r : Reply). SaysServed lane_of d.order r.says) (is_reply_elsewhere (says_to s)) d.replies h.replies)
          (all_passed (is_reply_elsewhere (says_to s)) d.replies))
