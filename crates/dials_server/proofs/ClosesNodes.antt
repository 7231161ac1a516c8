-- What the Close of a session makes of a data server's connections.
use Rattle.std.proofs.Common.{◌≡◌, ℕ, ◌+◌, List, [], ◌∷◌, ◌++◌, length, map, filter, reverse, Option, Some, None, refl, sym, ◌∙◌, ap, subst}
use Rattle.std.specs.List.{AllByRecursion}
use Rattle.plain_orders.specs.declared.act.Act.TheVariants as act
use Rattle.plain_orders.specs.declared.causes.ShutCause.{ShutCause}
use Rattle.plain_orders.specs.declared.entry.Entry.TheVariants.{Closed}
use Rattle.lock_table.specs.declared.rows.Request.{Request}
use Rattle.lock_table.specs.LockWords.{is_request_of}
use Rattle.subscript_keys.specs.declared.span.Span.{Span}
use Rattle.block_holders.specs.declared.noted.Noted.{Noted}
use Rattle.block_holders.specs.HolderWords.{forgotten, is_noted_elsewhere, is_touched, is_untouched, touched}
use Rattle.data_rules.specs.declared.down_frames.DownOut.{DownOut}
use Rattle.data_rules.specs.declared.rows.Conn.{Conn}
use Rattle.data_rules.specs.declared.rows.Role.TheVariants.{Closing}
use Rattle.data_rules.specs.DataState.{DataState}
use Rattle.data_rules.specs.Closing.{cancels, cancels_all, silenced, unawaited, waits_for_reset}
use Rattle.data_rules.specs.Conns.{with_role_if}
use Rattle.data_rules.specs.Entering.{appends, spans_of, with_entry}
use Rattle.data_rules.specs.Puts.{Sofar, becomes, conn_of, writes}
use Rattle.cluster_runs.specs.Machine.{Site}
use Rattle.cluster_invariant.specs.Served.{HasLearnt}
use Rattle.cluster_invariant.proofs.AllLists.{all_filtered}
use Rattle.cluster_invariant.proofs.PutLaws.{Appended, OnlyLocks, appends_state, only_cancels, with_appended}
use Rattle.dials_server.proofs.ClosedNodes.{conns_closed}
use Rattle.dials_server.proofs.PlainFrames.{PlainOn}
use Rattle.dials_server.proofs.TellsNodes.{Tells, drops_plain}

-- What a Close makes, where the session's connection awaits its Reset.
pub record ClosedBy (z : Site) (b c : Sofar) (s : ℕ) : Type 0 where
  pub order : c.state.order ≡ b.state.order ++ Closed s ∷ []
  pub dials : c.state.dials ≡ b.state.dials
  pub links : c.state.links ≡ b.state.links
  pub conns : c.state.conns ≡ conns_closed (conn_of b.state s) s b.state.conns
  pub noted : AllByRecursion (λ (y : Noted). HasLearnt z y.session) b.state.noted → AllByRecursion (λ (y : Noted). HasLearnt z y.session) c.state.noted
  pub frames : AllByRecursion (λ (y : Noted). HasLearnt z y.session) b.state.noted → Tells z b.state → AllByRecursion (PlainOn z) b.outs.frames
      → AllByRecursion (PlainOn z) c.outs.frames
  pub cuts : c.outs.cuts ≡ b.outs.cuts

-- the connection awaits it
resets : (z : Site) (b c : Sofar) (s at : ℕ) (o : Option ℕ) → conn_of b.state s ≡ o → c.state.order ≡ b.state.order ++ Closed s ∷ [] → c.state.dials ≡ b.state.dials
    → c.state.links ≡ b.state.links → c.state.conns ≡ b.state.conns
    → (AllByRecursion (λ (y : Noted). HasLearnt z y.session) b.state.noted → AllByRecursion (λ (y : Noted). HasLearnt z y.session) c.state.noted)
    → (AllByRecursion (λ (y : Noted). HasLearnt z y.session) b.state.noted → Tells z b.state → AllByRecursion (PlainOn z) b.outs.frames
    → AllByRecursion (PlainOn z) c.outs.frames) → c.outs.cuts ≡ b.outs.cuts → ClosedBy z b (waits_for_reset o s at c) s
resets z b c s at None its order dials links conns noted frames cuts = record {
  order = order;
  dials = dials;
  links = links;
  conns = conns ∙ ap (λ (o : Option ℕ). conns_closed o s b.state.conns) (sym its);
  noted = noted;
  frames = frames;
  cuts = cuts;
}
resets z b c s at (Some conn) its order dials links conns noted frames cuts = record {
  order = order;
  dials = dials;
  links = links;
  conns = ap (λ (cs : List Conn). map (with_role_if conn (Closing s)) cs) conns ∙ ap (λ (o : Option ℕ). conns_closed o s b.state.conns) (sym its);
  noted = noted;
  frames = frames;
  cuts = cuts;
}

-- It is what a Close makes.
pub closed_by : (z : Site) (s : ℕ) (cause : ShutCause) (b : Sofar)
    → ClosedBy z b (waits_for_reset (conn_of b.state s) s (length b.state.order + 1)
    (cancels_all s (becomes (unawaited s) (appends (Closed s) (becomes (silenced s) (writes (act.Shut b.state.server s cause) b)))))) s
closed_by z s cause b =
    resets z b c s (length b.state.order + 1) (conn_of b.state s) refl (ap (λ (d : DataState). d.order) state) (ap (λ (d : DataState). d.dials) state)
    (ap (λ (d : DataState). d.links) state) (ap (λ (d : DataState). d.conns) state)
    (λ learnt.
    subst (λ (xs : List Noted). AllByRecursion (λ (y : Noted). HasLearnt z y.session) xs) (sym (ap (λ (d : DataState). d.noted) state))
    (all_filtered (λ (y : Noted). HasLearnt z y.session) (is_untouched spans) (forgotten s b.state.noted)
    (all_filtered (λ (y : Noted). HasLearnt z y.session) (is_noted_elsewhere s) b.state.noted learnt)))
    (λ learnt tells all.
    subst (λ (fs : List DownOut). AllByRecursion (PlainOn z) fs) (sym cancelled.frames)
    (drops_plain z (length b.state.order) (touched spans (forgotten s b.state.noted)) (becomes (with_entry (Closed s) spans) silent)
    (all_filtered (λ (y : Noted). HasLearnt z y.session) (is_touched spans) (forgotten s b.state.noted)
    (all_filtered (λ (y : Noted). HasLearnt z y.session) (is_noted_elsewhere s) b.state.noted learnt)) tells all)) (cancelled.cuts ∙ closed.cuts)
  where
    silent : Sofar
    silent = becomes (silenced s) (writes (act.Shut b.state.server s cause) b)

    spans : List Span
    spans = spans_of silent.state (Closed s)

    after : Sofar
    after = becomes (unawaited s) (appends (Closed s) silent)

    rs : List Request
    rs = reverse (filter (is_request_of s) after.state.locks.requests)

    c : Sofar
    c = cancels rs after

    closed : Appended (Closed s) silent (appends (Closed s) silent)
    closed = appends_state (Closed s) silent

    cancelled : OnlyLocks after c
    cancelled = only_cancels rs after

    state : c.state ≡ record (unawaited s (with_appended (Closed s) closed.windows silent.state)) { locks = cancelled.locks; replies = cancelled.replies }
    state = cancelled.state ∙ ap (λ (d : DataState). record (unawaited s d) { locks = cancelled.locks; replies = cancelled.replies }) closed.state
