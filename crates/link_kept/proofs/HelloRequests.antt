-- After each step of a data server the requests that wait are of live sessions, also where a Hello closed one.
use Rattle.std.proofs.Common.{◌≡◌, inl, inr, ℕ, ◌+◌, Bool, true, false, List, [], ◌∷◌, ◌++◌, length, Option, Some, None, is_some, sym, ap, subst}
use Rattle.plain_orders.specs.declared.causes.ShutCause.TheVariants.{Replaced}
use Rattle.plain_orders.specs.declared.act.Act.TheVariants as act
use Rattle.plain_orders.specs.declared.entry.Entry.TheVariants.{Opened}
use Rattle.plain_orders.specs.Entries.{live, live_session}
use Rattle.plain_orders.specs.Sessions.{app_in}
use Rattle.link_states.specs.declared.link_event.LinkEvent.TheVariants.{RoundOver}
use Rattle.lock_table.specs.declared.rows.Request.{Request}
use Rattle.ecp_messages.specs.declared.down.Down.TheVariants as down
use Rattle.ecp_messages.specs.declared.up.Up.{Up}
use Rattle.ecp_messages.specs.declared.up.Up.TheVariants.{Hello}
use Rattle.ecp_messages.specs.declared.up.UpFrame.{UpFrame}
use Rattle.end_words.specs.Windows.{owes_bare}
use Rattle.data_rules.specs.DataState.{DataState}
use Rattle.data_rules.specs.declared.rows.Caller.{Caller}
use Rattle.data_rules.specs.declared.rows.Kind.{Kind}
use Rattle.data_rules.specs.declared.rows.LiveEnd.{LiveEnd}
use Rattle.data_rules.specs.declared.rows.Role.{Role}
use Rattle.data_rules.specs.declared.rows.Role.TheVariants.{New, Waiting, Bound, Closing}
use Rattle.data_rules.specs.Puts.{Sofar, becomes, writes, puts, conn_of, window_of, head_of}
use Rattle.data_rules.specs.Leaving.{flushed, bare_to, bare_on}
use Rattle.data_rules.specs.Conns.{role_of, link_of, is_normal, with_event, without_conn, breaks_if, end_breaks, loses_conn, drops_conn}
use Rattle.data_rules.specs.Opening.{opens, opens_all, breaks_unless, comes_back, come_back, live_ends, without_round, is_round_over, round_ends_if, rounds}
use Rattle.data_rules.specs.Callers.{with_dial, replaces, waiting_conn, is_let_in}
use Rattle.data_rules.specs.Frames.{Ends, TakesFirst, TakesBound, TakesClosing, TakesFrame, kind_of, bares_role, settled}
use Rattle.data_rules.specs.Step.{FrameStep}
use Rattle.cluster_invariant.proofs.AllLists.{all_follow}
use Rattle.cluster_invariant.proofs.PutLaws.{OnlyWindows, only_puts, only_flushed, appends_state}
use Rattle.link_kept.proofs.WindowsGo.{open_live}
use Rattle.link_kept.proofs.CloseRequests.{AskersLive, closes_askers}

-- what leaves the requests and the order

by_only : (b c : Sofar) → OnlyWindows b c → AskersLive b.state → AskersLive c.state
by_only b c o lives = subst (λ (d : DataState). AskersLive d) (sym o.state) lives

by_drop : (o : Option ℕ) (b : Sofar) → AskersLive b.state → AskersLive (drops_conn o b).state
by_drop None b lives = lives
by_drop (Some conn) b lives = lives

by_break : (normal : Bool) (app now : ℕ) (b : Sofar) → AskersLive b.state → AskersLive (breaks_if normal app now b).state
by_break true app now b lives = lives
by_break false app now b lives = lives

by_lost : (o : Option ℕ) (now : ℕ) (b : Sofar) → AskersLive b.state → AskersLive (end_breaks o now b).state
by_lost None now b lives = lives
by_lost (Some app) now b lives = by_break (is_normal (link_of b.state app)) app now b lives

by_loss : (r : Option Role) (now : ℕ) (b : Sofar) → AskersLive b.state → AskersLive (loses_conn r now b).state
by_loss None now b lives = lives
by_loss (Some New) now b lives = lives
by_loss (Some Waiting) now b lives = lives
by_loss (Some (Bound s)) now b lives = by_lost (app_in b.state.order s) now b lives
by_loss (Some (Closing s)) now b lives = lives

by_end : (conn now : ℕ) (b c : Sofar) → Ends b conn now c → AskersLive b.state → AskersLive c.state
by_end conn now b c ends lives =
    subst (λ (e : Sofar). AskersLive e.state) (sym ends.after) (by_loss (role_of b.state conn) now (becomes (without_conn conn) b) lives)

by_open : (app conn now : ℕ) (b : Sofar) → AskersLive b.state → AskersLive (opens app conn now b).state
by_open app conn now b lives =
    subst (λ (d : DataState). AskersLive d)
    (sym (appends_state (Opened (length b.state.order + 1) app) (writes (act.Enter b.state.server (Opened (length b.state.order + 1) app)) b)).state)
    (all_follow (λ (r : Request). live b.state.order r.who.session ≡ true)
    (λ (r : Request). live (b.state.order ++ Opened (length b.state.order + 1) app ∷ []) r.who.session ≡ true)
    (λ (r : Request) is. open_live b.state.order (length b.state.order + 1) app r.who.session is) b.state.locks.requests lives)

by_opens : (cs : List Caller) (now : ℕ) (b : Sofar) → AskersLive b.state → AskersLive (opens_all cs now b).state
by_opens [] now b lives = lives
by_opens (c ∷ cs) now b lives = by_opens cs now (opens c.app c.conn now b) (by_open c.app c.conn now b lives)

by_unless : (joined : Bool) (app now : ℕ) (b : Sofar) → AskersLive b.state → AskersLive (breaks_unless joined app now b).state
by_unless true app now b lives = lives
by_unless false app now b lives = lives

by_backs : (xs : List LiveEnd) (now : ℕ) (b : Sofar) → AskersLive b.state → AskersLive (come_back xs now b).state
by_backs [] now b lives = lives
by_backs (x ∷ xs) now b lives = by_backs xs now (comes_back x.app x.session now b) back
  where
    before : Sofar
    before =
        breaks_unless (is_some (conn_of b.state x.session)) x.app now (becomes (with_event x.app now (RoundOver (is_some (conn_of b.state x.session)))) b)

    back : AskersLive (comes_back x.app x.session now b).state
    back =
        by_only before (puts x.session (down.Normal (head_of b.state x.session)) before) (only_puts x.session (down.Normal (head_of b.state x.session)) before)
        (by_unless (is_some (conn_of b.state x.session)) x.app now (becomes (with_event x.app now (RoundOver (is_some (conn_of b.state x.session)))) b) lives)

by_over : (over : Bool) (now : ℕ) (b : Sofar) → AskersLive b.state → AskersLive (round_ends_if over now b).state
by_over true now b lives =
    by_opens b.state.callers now (come_back (live_ends b.state.order) now (writes (act.Back b.state.server) (becomes without_round b)))
    (by_backs (live_ends b.state.order) now (writes (act.Back b.state.server) (becomes without_round b)) lives)
by_over false now b lives = lives

by_bare : (owed : Bool) (s conn : ℕ) (b : Sofar) → AskersLive b.state → AskersLive (bare_to owed s conn b).state
by_bare true s conn b lives = lives
by_bare false s conn b lives = lives

by_bare_on : (o : Option ℕ) (s : ℕ) (b : Sofar) → AskersLive b.state → AskersLive (bare_on o s b).state
by_bare_on None s b lives = lives
by_bare_on (Some conn) s b lives = by_bare (owes_bare (window_of b.state s)) s conn b lives

by_bares : (r : Option Role) (b : Sofar) → AskersLive b.state → AskersLive (bares_role r b).state
by_bares None b lives = lives
by_bares (Some New) b lives = lives
by_bares (Some Waiting) b lives = lives
by_bares (Some (Bound s)) b lives = by_bare_on (conn_of b.state s) s b lives
by_bares (Some (Closing s)) b lives = lives

by_settled : (conn now : ℕ) (b : Sofar) → AskersLive b.state → AskersLive (settled conn now b).state
by_settled conn now b lives =
    by_bares (role_of (flushed (rounds now b)).state conn) (flushed (rounds now b))
    (subst (λ (d : DataState). AskersLive d) (sym (only_flushed (rounds now b)).state) (by_over (is_round_over b.state b.state.round) now b lives))

-- a Hello

by_replaced : (o : Option ℕ) (app now : ℕ) (b : Sofar) → AskersLive b.state → AskersLive (replaces o app now b).state
by_replaced None app now b lives = lives
by_replaced (Some s) app now b lives = closes_askers s Replaced b lives

by_let_in : (in_round : Bool) (app conn now : ℕ) (b : Sofar) → AskersLive b.state → AskersLive (is_let_in in_round app conn now b).state
by_let_in true app conn now b lives = by_drop (waiting_conn b.state app) b lives
by_let_in false app conn now b lives = by_open app conn now b lives

by_first : (m : Up) (app dial conn now : ℕ) (b c : Sofar) → m ≡ Hello app dial → TakesFirst m b conn now c → AskersLive b.state → AskersLive c.state
by_first m app dial conn now b c says takes lives = go (subst (λ (k : Up). TakesFirst k b conn now c) says takes)
  where
    go : TakesFirst (Hello app dial) b conn now c → AskersLive c.state
    go (inl hello) =
        subst (λ (e : Sofar). AskersLive e.state) (sym hello.after)
        (by_let_in (is_some b.state.round) app conn now (replaces (live_session b.state.order app) app now (becomes (with_dial app dial) b))
        (by_replaced (live_session b.state.order app) app now (becomes (with_dial app dial) b) lives))
    go (inr ended) = by_end conn now b c ended.ended lives

by_hello : (r : Option Role) (f : UpFrame) (app dial conn now : ℕ) (b c : Sofar) → f.message ≡ Hello app dial → TakesFrame r b conn now f c → AskersLive b.state
    → AskersLive c.state
by_hello None f app dial conn now b c says passes lives = subst (λ (e : Sofar). AskersLive e.state) (sym passes.after) lives
by_hello (Some New) f app dial conn now b c says takes lives = by_first f.message app dial conn now b c says takes lives
by_hello (Some Waiting) f app dial conn now b c says ends lives = by_end conn now b c ends lives
by_hello (Some (Bound s)) f app dial conn now b c says takes lives =
    by_end conn now b c (subst (λ (k : Kind). TakesBound k b conn now s f c) (ap kind_of says) takes) lives
by_hello (Some (Closing s)) f app dial conn now b c says takes lives =
    by_end conn now b c (subst (λ (k : Kind). TakesClosing k b conn now c) (ap kind_of says) takes) lives

-- After a Hello the requests that wait are of live sessions again.
pub hello_askers : (f : UpFrame) (app dial conn now : ℕ) (b c : Sofar) → f.message ≡ Hello app dial → FrameStep b now conn f c → AskersLive b.state → AskersLive c.state
hello_askers f app dial conn now b c says steps lives =
    subst (λ (e : Sofar). AskersLive e.state) (sym steps.after)
    (by_settled conn now steps.taken (by_hello (role_of b.state conn) f app dial conn now b steps.taken says steps.takes lives))
