-- A session that a Hello of its application server replaces: what its Close makes of a data server, and the connection that is ended with it.
use Rattle.std.proofs.Common.{◌≡◌, ◌<◌, ℕ, Bool, true, false, ◌==◌, if◌then◌else◌, List, [], ◌∷◌, ◌++◌, length, filter, reverse, Option, Some, None}
use Rattle.std.proofs.Common.{is_some, option_map, refl, sym, ◌∙◌, ap, subst, arith}
use Rattle.std.specs.List.{AllByRecursion}
use Rattle.std.proofs.lemmas.List.{length-append}
use Rattle.plain_orders.specs.declared.act.Act.TheVariants as act
use Rattle.plain_orders.specs.declared.causes.ShutCause.TheVariants as shuts
use Rattle.plain_orders.specs.declared.entry.Entry.{Entry}
use Rattle.plain_orders.specs.declared.entry.Entry.TheVariants.{Closed}
use Rattle.plain_orders.proofs.EntryLemmas.{app_from-push, live-push}
use Rattle.lock_table.specs.declared.rows.Request.{Request}
use Rattle.lock_table.specs.LockWords.{Freed, Locks, is_other_ticket, is_request_of, without_request}
use Rattle.subscript_keys.specs.declared.span.Span.{Span}
use Rattle.block_holders.specs.declared.noted.Noted.{Noted}
use Rattle.block_holders.specs.HolderWords.{forgotten, is_noted_elsewhere, is_touched, is_untouched, touched}
use Rattle.data_rules.specs.declared.down_frames.DownOut.{DownOut}
use Rattle.data_rules.specs.declared.rows.Reply.{Reply}
use Rattle.data_rules.specs.declared.rows.Says.TheVariants.{GrantOf}
use Rattle.data_rules.specs.DataState.{DataState}
use Rattle.data_rules.specs.Closing.{cancels, cancels_all, cancels_one, silenced, unawaited}
use Rattle.data_rules.specs.Entering.{appends, spans_of, with_entry}
use Rattle.data_rules.specs.Granting.{grants, grants_one, with_locks}
use Rattle.data_rules.specs.Puts.{Sofar, becomes, begun, is_reply_elsewhere, says_to, writes}
use Rattle.recovery_round.specs.RoundWords.{Round, without}
use Rattle.cluster_runs.specs.Machine.{Site}
use Rattle.cluster_invariant.specs.Served.{HasLearnt}
use Rattle.cluster_invariant.proofs.AllLists.{all_filtered}
use Rattle.cluster_invariant.proofs.PutLaws.{Appended, OnlyLocks, appends_state, only_cancels, with_appended}
use Rattle.dials_server.proofs.OpenedNodes.{Within}
use Rattle.dials_server.proofs.PlainFrames.{PlainOn}
use Rattle.dials_server.proofs.SaveNodes.{FreedAll, pass_all}
use Rattle.dials_server.proofs.TellsNodes.{Tells, all_one_more, drops_plain}

-- requests that go, and those that are granted by it

module _ (Q : ℕ → Type 0) (P : Reply → Type 0) (of_grant : (session ticket at : ℕ) → Q session → P (record { at = at; says = GrantOf session ticket at })) where
  abbrev AllOf : List Request → Type 0
  AllOf rs = AllByRecursion (λ (r : Request). Q r.who.session) rs

  grants_fit : (rs : List Request) (b : Sofar) → AllOf rs → AllByRecursion P b.state.replies → AllByRecursion P (grants rs b).state.replies
  grants_fit [] b given all = all
  grants_fit (r ∷ rs) b given all = grants_fit rs (grants_one r b) given.1
      (all_one_more P b.state.replies _ all (of_grant r.who.session r.ticket (length b.state.order) given.0))

  grants_locks : (rs : List Request) (b : Sofar) → (grants rs b).state.locks ≡ b.state.locks
  grants_locks [] b = refl
  grants_locks (r ∷ rs) b = grants_locks rs (grants_one r b)

  cancels_fit : (rs : List Request) (b : Sofar) → AllOf b.state.locks.requests → AllByRecursion P b.state.replies
      → AllByRecursion P (cancels rs b).state.replies
  cancels_fit [] b waiting all = all
  cancels_fit (r ∷ rs) b waiting all =
      cancels_fit rs (cancels_one r b)
      (subst (λ (t : Locks). AllOf t.requests) (sym (grants_locks f.grants (becomes (with_locks f.locks) b))) freed.left)
      (grants_fit f.grants (becomes (with_locks f.locks) b) freed.given all)
    where
      f : Freed
      f = without_request b.state.locks r.who.session r.ticket (length b.state.order)

      freed : FreedAll Q f
      freed =
          pass_all Q _ [] [] (filter (is_other_ticket r.who.session r.ticket) b.state.locks.requests) (length b.state.order) tt tt
          (all_filtered (λ (q : Request). Q q.who.session) (is_other_ticket r.who.session r.ticket) b.state.locks.requests waiting)

-- no session of a number above the length stands in the list
pub within_closed : (es : List Entry) (s : ℕ) → Within es → Within (es ++ Closed s ∷ [])
within_closed es s is = record {
  dead = λ q above. live-push es (Closed s) q ∙ go (s == q) (is.dead q (low q above));
  unopened = λ q above. app_from-push None es (Closed s) q ∙ is.unopened q (low q above);
}
  where
    low : (q : ℕ) → length (es ++ Closed s ∷ []) < q → length es < q
    low q above = omega (arith, above, length-append es (Closed s ∷ []))

    go : {t : Bool} (b : Bool) → t ≡ false → (if b then false else t) ≡ false
    go true is = refl
    go false is = is

-- The Close, before the session's connection is ended.
abbrev pub shut_by : ℕ → DataState → Sofar
shut_by s d = cancels_all s (becomes (unawaited s) (appends (Closed s) (becomes (silenced s) (writes (act.Shut d.server s shuts.Replaced) (begun d)))))

-- What it makes.
pub record ShutBy (z : Site) (P : Reply → Type 0) (d : DataState) (s : ℕ) (c : Sofar) : Type 0 where
  pub order : c.state.order ≡ d.order ++ Closed s ∷ []
  pub dials : c.state.dials ≡ d.dials
  pub conns : c.state.conns ≡ d.conns
  pub callers : c.state.callers ≡ d.callers
  pub synced : c.state.synced ≡ d.synced
  pub round : is_some c.state.round ≡ is_some d.round
  pub noted : AllByRecursion (λ (y : Noted). HasLearnt z y.session) c.state.noted
  pub replies : AllByRecursion P c.state.replies
  pub frames : AllByRecursion (PlainOn z) c.outs.frames
  pub cuts : c.outs.cuts ≡ []

pub shut_is : (z : Site) (P : Reply → Type 0) → ((session ticket at : ℕ) → HasLearnt z session → P (record { at = at; says = GrantOf session ticket at }))
    → (d : DataState) (s : ℕ)
    → AllByRecursion (λ (y : Noted). HasLearnt z y.session) d.noted → AllByRecursion (λ (r : Request). HasLearnt z r.who.session) d.locks.requests
    → AllByRecursion P d.replies → Tells z d
    → ShutBy z P d s (shut_by s d)
shut_is z P of_grant d s noted requests replies tells = record {
  order = ap (λ (e : DataState). e.order) state;
  dials = ap (λ (e : DataState). e.dials) state;
  conns = ap (λ (e : DataState). e.conns) state;
  callers = ap (λ (e : DataState). e.callers) state;
  synced = ap (λ (e : DataState). e.synced) state;
  round = ap (λ (e : DataState). is_some e.round) state ∙ go d;
  noted =
      subst (λ (xs : List Noted). AllByRecursion (λ (y : Noted). HasLearnt z y.session) xs) (sym (ap (λ (e : DataState). e.noted) state))
      (all_filtered (λ (y : Noted). HasLearnt z y.session) (is_untouched spans) (forgotten s d.noted) others);
  replies =
      cancels_fit (HasLearnt z) P of_grant rs after
      (subst (λ (e : DataState). AllByRecursion (λ (r : Request). HasLearnt z r.who.session) e.locks.requests) (sym closed.state) requests)
      (subst (λ (e : DataState). AllByRecursion P e.replies) (sym closed.state) (all_filtered P (is_reply_elsewhere (says_to s)) d.replies replies));
  frames =
      subst (λ (fs : List DownOut). AllByRecursion (PlainOn z) fs) (sym cancelled.frames)
      (drops_plain z (length d.order) (touched spans (forgotten s d.noted)) (becomes (with_entry (Closed s) spans) silent)
      (all_filtered (λ (y : Noted). HasLearnt z y.session) (is_touched spans) (forgotten s d.noted) others) tells tt);
  cuts = cancelled.cuts ∙ closed.cuts;
}
  where
    silent : Sofar
    silent = becomes (silenced s) (writes (act.Shut d.server s shuts.Replaced) (begun d))

    spans : List Span
    spans = spans_of silent.state (Closed s)

    after : Sofar
    after = becomes (unawaited s) (appends (Closed s) silent)

    rs : List Request
    rs = reverse (filter (is_request_of s) after.state.locks.requests)

    closed : Appended (Closed s) silent (appends (Closed s) silent)
    closed = appends_state (Closed s) silent

    cancelled : OnlyLocks after (cancels rs after)
    cancelled = only_cancels rs after

    others : AllByRecursion (λ (y : Noted). HasLearnt z y.session) (forgotten s d.noted)
    others = all_filtered (λ (y : Noted). HasLearnt z y.session) (is_noted_elsewhere s) d.noted noted

    state : (shut_by s d).state ≡ record (unawaited s (with_appended
        (Closed s) closed.windows silent.state)) { locks = cancelled.locks; replies = cancelled.replies }
    state = cancelled.state ∙ ap (λ (e : DataState). record (unawaited s e) { locks = cancelled.locks; replies = cancelled.replies }) closed.state

    go : (e : DataState) → is_some (unawaited s e).round ≡ is_some e.round
    go e = by e.round
      where
        by : (o : Option Round) → is_some (option_map (λ r. without r s) o) ≡ is_some o
        by None = refl
        by (Some r) = refl
