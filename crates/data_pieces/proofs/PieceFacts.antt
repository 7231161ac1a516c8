-- What of a node's ends small changes of its step make: an entry that enters, an Open, a Close.
use Rattle.std.proofs.Common.{◌≡◌, ℕ, ◌+◌, List, [], ◌∷◌, ◌++◌, map, length, Option, Some, None, filter, refl, ◌∙◌, ap}
use Rattle.std.specs.Prelude.{set}
use Rattle.plain_orders.specs.declared.act.Act.TheVariants as act
use Rattle.plain_orders.specs.declared.causes.ShutCause.{ShutCause}
use Rattle.plain_orders.specs.declared.causes.ShutCause.TheVariants as causes
use Rattle.plain_orders.specs.declared.entry.Entry.{Entry}
use Rattle.plain_orders.specs.declared.entry.Entry.TheVariants.{Opened, Closed}
use Rattle.link_states.specs.declared.link_event.LinkEvent.TheVariants as event
use Rattle.link_states.specs.Tables.{data_next}
use Rattle.data_rules.specs.DataState.{DataState, SessionWindow}
use Rattle.data_rules.specs.declared.rows.Role.TheVariants.{Bound, Closing}
use Rattle.data_rules.specs.Closing.{silenced, unawaited}
use Rattle.data_rules.specs.Conns.{is_other_caller, is_other_conn, link_of, with_event, with_role_if}
use Rattle.data_rules.specs.Entering.{appends, enters}
use Rattle.data_rules.specs.Opening.{opens}
use Rattle.data_rules.specs.Puts.{Sofar, becomes, conn_of, writes}
use Rattle.cluster_invariant.proofs.PieceKinds.{event_of, parts_from, shuts, with_close}
use Rattle.cluster_invariant.proofs.PutLaws.{Appended, appends_state, with_appended}
use Rattle.data_pieces.proofs.ClosePieces.{ClosedWith, closed_callers, closed_conns}
use Rattle.data_pieces.proofs.EntryPieces.{Entered, OpenedOn}

-- an entry that enters

pub enters_facts : (e : Entry) (b : Sofar) → Entered e b.state (enters e b).state
enters_facts e b = go (appends_state e (writes (act.Enter b.state.server e) b))
  where
    go : Appended e (writes (act.Enter b.state.server e) b) (enters e b) → Entered e b.state (enters e b).state
    go a = record {
      server = ap (λ (d : DataState). d.server) a.state;
      order = ap (λ (d : DataState). d.order) a.state;
      synced = ap (λ (d : DataState). d.synced) a.state;
      links = ap (λ (d : DataState). d.links) a.state;
      conns = ap (λ (d : DataState). d.conns) a.state;
      callers = ap (λ (d : DataState). d.callers) a.state;
      round = ap (λ (d : DataState). d.round) a.state;
    }

pub enters_acts : (e : Entry) (b : Sofar) → (enters e b).outs.acts ≡ b.outs.acts ++ act.Enter b.state.server e ∷ []
enters_acts e b = (appends_state e (writes (act.Enter b.state.server e) b)).acts

-- an Open

pub opens_facts : (app conn now : ℕ) (b : Sofar) → OpenedOn app conn (data_next b.state.times now (link_of b.state app) event.Opened) b.state (opens app conn now b).state
opens_facts app conn now b = go (appends_state (Opened s app) (writes (act.Enter b.state.server (Opened s app)) b))
  where
    s : ℕ
    s = length b.state.order + 1

    go : Appended (Opened s app) (writes (act.Enter b.state.server (Opened s app)) b) (enters (Opened s app) b)
        → OpenedOn app conn (data_next b.state.times now (link_of b.state app) event.Opened) b.state (opens app conn now b).state
    go a = record {
      server = ap (λ (d : DataState). d.server) a.state;
      order = ap (λ (d : DataState). d.order) a.state;
      synced = ap (λ (d : DataState). d.synced) a.state;
      links = ap (λ (d : DataState). set d.links app (data_next d.times now (link_of d app) event.Opened)) a.state;
      conns = ap (λ (d : DataState). map (with_role_if conn (Bound s)) d.conns) a.state;
      callers = ap (λ (d : DataState). d.callers) a.state;
      round = ap (λ (d : DataState). d.round) a.state;
    }

pub opens_acts : (app conn now : ℕ) (b : Sofar) → (opens app conn now b).outs.acts ≡ b.outs.acts ++ act.Enter b.state.server (Opened (length b.state.order + 1) app) ∷ []
opens_acts app conn now b = enters_acts (Opened (length b.state.order + 1) app) b

-- a Close

-- by the connection that the session had
abbrev pub ClosedTo : ℕ → ℕ → ShutCause → Option ℕ → ℕ → DataState → DataState → Type 0
ClosedTo s app c o now n k =
    ClosedWith s app (data_next n.times now (link_of n app) (event_of c)) (closed_conns c o s n.conns) (closed_callers c o n.callers) n k

close_facts : (s app now : ℕ) (n : DataState) (w : Sofar) (ws : List SessionWindow) → w.state ≡ unawaited s (with_appended (Closed s) ws (silenced s n)) → (c : ShutCause) (o : Option ℕ)
    → ClosedTo s app c o now n (becomes (with_event app now (event_of c)) (parts_from c o s w)).state
close_facts s app now n w ws its (causes.Trouble time) None = record {
  server = ap (λ (d : DataState). d.server) its;
  order = ap (λ (d : DataState). d.order) its;
  synced = ap (λ (d : DataState). d.synced) its;
  links = ap (λ (d : DataState). set d.links app (data_next d.times now (link_of d app) event.Ticked)) its;
  conns = ap (λ (d : DataState). d.conns) its;
  callers = ap (λ (d : DataState). d.callers) its;
  round = ap (λ (d : DataState). d.round) its;
}
close_facts s app now n w ws its (causes.Trouble time) (Some conn) = record {
  server = ap (λ (d : DataState). d.server) its;
  order = ap (λ (d : DataState). d.order) its;
  synced = ap (λ (d : DataState). d.synced) its;
  links = ap (λ (d : DataState). set d.links app (data_next d.times now (link_of d app) event.Ticked)) its;
  conns = ap (λ (d : DataState). map (with_role_if conn (Closing s)) d.conns) its;
  callers = ap (λ (d : DataState). d.callers) its;
  round = ap (λ (d : DataState). d.round) its;
}
close_facts s app now n w ws its causes.Replaced None = record {
  server = ap (λ (d : DataState). d.server) its;
  order = ap (λ (d : DataState). d.order) its;
  synced = ap (λ (d : DataState). d.synced) its;
  links = ap (λ (d : DataState). set d.links app (data_next d.times now (link_of d app) event.Replaced)) its;
  conns = ap (λ (d : DataState). d.conns) its;
  callers = ap (λ (d : DataState). d.callers) its;
  round = ap (λ (d : DataState). d.round) its;
}
close_facts s app now n w ws its causes.Replaced (Some conn) = record {
  server = ap (λ (d : DataState). d.server) its;
  order = ap (λ (d : DataState). d.order) its;
  synced = ap (λ (d : DataState). d.synced) its;
  links = ap (λ (d : DataState). set d.links app (data_next d.times now (link_of d app) event.Replaced)) its;
  conns = ap (λ (d : DataState). filter (is_other_conn conn) d.conns) its;
  callers = ap (λ (d : DataState). filter (is_other_caller conn) d.callers) its;
  round = ap (λ (d : DataState). d.round) its;
}
close_facts s app now n w ws its (causes.Round time) None = record {
  server = ap (λ (d : DataState). d.server) its;
  order = ap (λ (d : DataState). d.order) its;
  synced = ap (λ (d : DataState). d.synced) its;
  links = ap (λ (d : DataState). set d.links app (data_next d.times now (link_of d app) event.Ticked)) its;
  conns = ap (λ (d : DataState). d.conns) its;
  callers = ap (λ (d : DataState). d.callers) its;
  round = ap (λ (d : DataState). d.round) its;
}
close_facts s app now n w ws its (causes.Round time) (Some conn) = record {
  server = ap (λ (d : DataState). d.server) its;
  order = ap (λ (d : DataState). d.order) its;
  synced = ap (λ (d : DataState). d.synced) its;
  links = ap (λ (d : DataState). set d.links app (data_next d.times now (link_of d app) event.Ticked)) its;
  conns = ap (λ (d : DataState). map (with_role_if conn (Closing s)) d.conns) its;
  callers = ap (λ (d : DataState). d.callers) its;
  round = ap (λ (d : DataState). d.round) its;
}

pub shuts_facts : (s app : ℕ) (cause : ShutCause) (now : ℕ) (b : Sofar) → ClosedTo s app cause (conn_of b.state s) now b.state (shuts s app cause now b).state
shuts_facts s app cause now b = go (appends_state (Closed s) (becomes (silenced s) (writes (act.Shut b.state.server s cause) b)))
  where
    go : Appended (Closed s) (becomes (silenced s) (writes (act.Shut b.state.server s cause) b)) (appends (Closed s) (becomes (silenced s) (writes (act.Shut b.state.server s cause) b)))
        → ClosedTo s app cause (conn_of b.state s) now b.state (shuts s app cause now b).state
    go a = close_facts s app now b.state (with_close s cause b) a.windows (ap (unawaited s) a.state) cause (conn_of b.state s)

pub shuts_acts : (s app : ℕ) (cause : ShutCause) (now : ℕ) (b : Sofar) → (shuts s app cause now b).outs.acts ≡ b.outs.acts ++ act.Shut b.state.server s cause ∷ []
shuts_acts s app cause now b = go cause (conn_of b.state s) ∙ (appends_state (Closed s) (becomes (silenced s) (writes (act.Shut b.state.server s cause) b))).acts
  where
    go : (c : ShutCause) (o : Option ℕ) → (parts_from c o s (with_close s cause b)).outs.acts ≡ (with_close s cause b).outs.acts
    go (causes.Trouble time) None = refl
    go (causes.Trouble time) (Some conn) = refl
    go causes.Replaced None = refl
    go causes.Replaced (Some conn) = refl
    go (causes.Round time) None = refl
    go (causes.Round time) (Some conn) = refl
