-- Each small change of a data server's step adds acts that orders and ends let come.
use Rattle.std.proofs.Common.{◌≡◌, ◌≤◌, ◌&&◌, ◌||◌, not, drop, zero, suc, arith, ℕ, ◌+◌, Bool, true, false, List, [], ◌∷◌, ◌++◌, length, Option, Some, None, is_some, option_map, refl, sym, ◌∙◌, ap, subst}
use Rattle.std.proofs.lemmas.Bool.{false≢true}
use Rattle.std.specs.Prelude.{take}
use Rattle.std.specs.List.{list_any}
use Rattle.plain_orders.specs.declared.act.Act.{Act}
use Rattle.plain_orders.specs.declared.act.Act.TheVariants as act
use Rattle.plain_orders.specs.declared.causes.PairEnd.TheVariants as ends
use Rattle.plain_orders.specs.declared.entry.Entry.{Entry}
use Rattle.plain_orders.specs.declared.entry.Entry.TheVariants.{Opened, Update as UpdateEntry, Commit as CommitEntry, Rollback as RollbackEntry}
use Rattle.plain_orders.specs.declared.layout.Layout.{Layout}
use Rattle.plain_orders.specs.declared.op.Op.TheVariants as ops
use Rattle.plain_orders.specs.Entries.{closed_by, closes, live_session}
use Rattle.plain_orders.specs.Sessions.{is_close}
use Rattle.recovery_round.specs.RoundWords.{is_over}
use Rattle.plain_runs.specs.Plain.{Plain, Server}
use Rattle.plain_runs.specs.Run.{after_all}
use Rattle.ecp_messages.specs.declared.down.Down.TheVariants as down
use Rattle.ecp_messages.specs.declared.up.Up.{Up}
use Rattle.ecp_messages.specs.declared.up.Up.TheVariants.{Hello, Recover, Update, Add, Fetch, Ask, Unlock, Cancel, Commit, Rollback, Sync, Done, Claim, Bare}
use Rattle.link_states.specs.declared.link_event.LinkEvent.TheVariants as event
use Rattle.recovery_round.specs.RoundWords.{Round}
use Rattle.data_rules.specs.DataState.{DataState}
use Rattle.data_rules.specs.declared.data_in.DataIn.TheVariants as data_in
use Rattle.data_rules.specs.declared.rows.Caller.{Caller}
use Rattle.data_rules.specs.Callers.{waiting_conn}
use Rattle.data_rules.specs.Conns.{breaks_if, drops_conn, end_breaks, is_normal, link_of, with_event, without_conn}
use Rattle.data_rules.specs.Opening.{all_apps, breaks_unless, ends_among, is_round_over, with_end}
use Rattle.data_rules.specs.Puts.{Sofar, becomes, conn_of, head_of, puts, writes}
use Rattle.cluster_runs.specs.Steps.{raised}
use Rattle.cluster_invariant.specs.Ends.{due_in}
use Rattle.cluster_invariant.specs.Words.{IsFront}
use Rattle.cluster_invariant.proofs.PieceKinds.{Ending, There, Here, calls, cuts_if, end_back, ends_back, next_caller, with_replies}
use Rattle.cluster_invariant.proofs.PieceKinds.{Piece, Accepts, Forgets, Breaks, Dials, Waits, Opens, OpensNext, Resumes, GoesOn, ComesAgain, AwaitsReset, Closes, Acknowledges, Takes, TakesDone, Enters, Fetches, PutsNormal, PutsAck, Replies, Leaves, Bares, Locks, RoundEnds, Ticks, makes}
use Rattle.cluster_invariant.proofs.PieceKinds.{Asks, Unlocks, Withdraws, GivesBack, ForgetsTicket, Claims, Cancels, Releases}
use Rattle.lock_table.specs.LockWords.{without_session}
use Rattle.cluster_invariant.proofs.PieceMay.{Coming, ReleasesMay, item_of}
use Rattle.cluster_invariant.proofs.Pieces.{MayMake}
use Rattle.cluster_invariant.proofs.PiecesOfRounds.{back_written}
use Rattle.cluster_invariant.proofs.PutLaws.{only_leaves, only_puts}
use Rattle.data_pieces.proofs.BreakPieces.{HadConn}
use Rattle.data_pieces.proofs.CallersGo.{CallersOf}
use Rattle.data_pieces.proofs.ConnLists.{conn_for}
use Rattle.data_pieces.proofs.EndsGo.{EndsGo}
use Rattle.data_pieces.proofs.EndsPieces.{ConnsHold, had_conn}
use Rattle.data_pieces.proofs.LinksGo.{LinksGo}
use Rattle.data_pieces.proofs.PieceFacts.{enters_acts, opens_acts, shuts_acts}
use Rattle.data_pieces.proofs.PlainView.{view, view_back, view_broke}
use Rattle.runs_kept.proofs.ActsGo.{is_data}
use Rattle.runs_kept.proofs.LockRows.{WritesRows, calls_rows, goes_on_acts, locks_rows}
use Rattle.runs_kept.proofs.NowFrom.{EntryNow, MayNow}
use Rattle.runs_kept.proofs.RunGo.{NowGo, adds_go, one_adds, rows_adds, same_adds}
use Rattle.runs_kept.proofs.RunMay.{breaks_may, shuts_may}

dropped_acts : (o : Option ℕ) (b : Sofar) → (drops_conn o b).outs.acts ≡ b.outs.acts
dropped_acts None b = refl
dropped_acts (Some w) b = refl

cut_acts : (ending : Ending) (conn : ℕ) (b : Sofar) → (cuts_if ending conn b).outs.acts ≡ b.outs.acts
cut_acts There conn b = refl
cut_acts Here conn b = refl

some_round : (n : DataState) (o : Option Round) → is_round_over n o ≡ true → (is_some (option_map due_in o) ≡ true) × (list_any is_close (drop n.synced n.order) ≡ false)
some_round n None over = absurd (false≢true over)
some_round n (Some r) over = (refl, and_not (is_over r) (list_any is_close (drop n.synced n.order)) over)
  where
    and_not : (a c : Bool) → (a && not c) ≡ true → c ≡ false
    and_not true false is = refl
    and_not true true is = absurd (false≢true is)
    and_not false c is = absurd (false≢true is)

-- none is among those behind a later place
none_behind : (es : List Entry) (i j : ℕ) → i ≤ j → list_any is_close (drop i es) ≡ false → list_any is_close (drop j es) ≡ false
none_behind [] zero zero low none = none
none_behind [] zero (suc j) low none = refl
none_behind [] (suc i) zero low none = refl
none_behind [] (suc i) (suc j) low none = refl
none_behind (e ∷ es) zero zero low none = none
none_behind (e ∷ es) zero (suc j) low none = none_behind es 0 j (omega arith) (or_parts (is_close e) (list_any is_close es) none)
  where
    or_parts : (a c : Bool) → (a || c) ≡ false → c ≡ false
    or_parts true c is = absurd (false≢true (sym is))
    or_parts false c is = is
none_behind (e ∷ es) (suc i) zero low none = absurd (omega (arith, low))
none_behind (e ∷ es) (suc i) (suc j) low none = none_behind es i j (omega (arith, low)) none

none_is : (o : Option Round) → is_some o ≡ false → o ≡ None
none_is None is = refl
none_is (Some r) is = absurd (false≢true (sym is))

some_same : (x y : Entry) → Some x ≡ Some y → x ≡ y
some_same x y same = cc

-- an item rests on nothing here
item_now : (l : Layout) (p : Plain) (s : ℕ) (m : Up) (e : Entry) (a : Act) → item_of s m ≡ Some e → EntryNow l p e a
item_now l p s (Hello app dial) e a its = absurd cc
item_now l p s (Recover app q epoch taken dial) e a its = absurd cc
item_now l p s (Update w job txn op) e a its = subst (λ (x : Entry). EntryNow l p x a) (some_same (UpdateEntry s w job txn op) e its) tt
item_now l p s (Add w job key amount) e a its = subst (λ (x : Entry). EntryNow l p x a) (some_same (UpdateEntry s w job 0 (ops.Add key amount)) e its) tt
item_now l p s (Fetch key) e a its = absurd cc
item_now l p s (Ask ticket job mode key) e a its = absurd cc
item_now l p s (Unlock job mode key) e a its = absurd cc
item_now l p s (Cancel ticket) e a its = absurd cc
item_now l p s (Commit w job txn wanted) e a its = subst (λ (x : Entry). EntryNow l p x a) (some_same (CommitEntry s w job txn) e its) tt
item_now l p s (Rollback w job txn) e a its = subst (λ (x : Entry). EntryNow l p x a) (some_same (RollbackEntry s w job txn) e its) tt
item_now l p s (Sync ticket) e a its = absurd cc
item_now l p s Done e a its = absurd cc
item_now l p s (Claim job mode number at key) e a its = absurd cc
item_now l p s Bare e a its = absurd cc

-- the ends of a round go on
module _ (l : Layout) (p : Plain) (d k now saved : ℕ) (es : List Entry) where
  record BackGo (b : Sofar) : Type 0 where
    run : NowGo l p d k now saved b
    server : b.state.server ≡ d
    order : (view l p d k b.outs.acts).order ≡ es

  one_back : (a s : ℕ) (b : Sofar) → live_session es a ≡ Some s → BackGo b → BackGo (end_back a s now b)
  one_back a s b has h = go (is_some (conn_for s b.state.conns))
    where
      go : (joined : Bool) → BackGo (breaks_unless joined a now (becomes (with_event a now (event.RoundOver joined)) b))
      go true = record { run = adds_go l p d k now saved b (becomes (with_event a now (event.RoundOver true)) b) (same_adds l p k b (becomes (with_event a now (event.RoundOver true)) b) refl) h.run; server = h.server; order = h.order }
      go false = record {
        run = adds_go l p d k now saved b c (one_adds l p k b c (act.Broke a d ends.Server now) acts refl (record { now = h.run.clock; has_live = ap is_some (ap (λ (xs : List Entry). live_session xs a) h.order ∙ has) })) h.run;
        server = h.server;
        order = ap (λ (xs : List Act). (view l p d k xs).order) acts ∙ ap (λ (v : Server). v.order) (view_broke l p d k b.outs.acts a now) ∙ h.order;
      }
        where
          c : Sofar
          c = breaks_unless false a now (becomes (with_event a now (event.RoundOver false)) b)

          acts : (breaks_unless false a now (becomes (with_event a now (event.RoundOver false)) b)).outs.acts ≡ b.outs.acts ++ act.Broke a d ends.Server now ∷ []
          acts = ap (λ (q : ℕ). b.outs.acts ++ act.Broke a q ends.Server now ∷ []) h.server

  all_back : (apps : List ℕ) (b : Sofar) → BackGo b → BackGo (ends_back (ends_among apps es) now b)
  all_back [] b h = h
  all_back (a ∷ apps) b h = go (live_session es a) refl (λ c. all_back apps c)
    where
      go : (o : Option ℕ) → live_session es a ≡ o → ((c : Sofar) → BackGo c → BackGo (ends_back (ends_among apps es) now c)) → BackGo (ends_back (with_end o a (ends_among apps es)) now b)
      go None none more = more b h
      go (Some s) has more = more (end_back a s now b) (one_back a s b has h)

-- a Close among the entries that a save covers is one of the first so many of the order
closed_within : (s : ℕ) (es fs : List Entry) (synced upto n : ℕ) → IsFront es fs → upto ≤ length es → upto ≤ n → list_any (closes s) (drop synced (take upto es)) ≡ true
    → closed_by fs s n ≡ true
closed_within s es fs synced upto n front within low is =
    any_front (closes s) (take upto es) (take n fs)
    (subst (λ (xs : List Entry). IsFront (take upto es) (take n xs)) (sym front.1) (front_taken upto n es front.0 within low)) (any_dropped (closes s) synced (take upto es) is)
  where
    any_dropped : (p : Entry → Bool) (i : ℕ) (xs : List Entry) → list_any p (drop i xs) ≡ true → list_any p xs ≡ true
    any_dropped p zero xs is = is
    any_dropped p (suc i) [] is = is
    any_dropped p (suc i) (x ∷ xs) is = or_right (p x) (list_any p xs) (any_dropped p i xs is)
      where
        or_right : (a b : Bool) → b ≡ true → (a || b) ≡ true
        or_right true b is = refl
        or_right false b is = is

    any_front : (p : Entry → Bool) (xs ys : List Entry) → IsFront xs ys → list_any p xs ≡ true → list_any p ys ≡ true
    any_front p xs ys f is = ap (list_any p) f.1 ∙ any_left p xs f.0 is
      where
        any_left : (p : Entry → Bool) (xs zs : List Entry) → list_any p xs ≡ true → list_any p (xs ++ zs) ≡ true
        any_left p [] zs is = absurd (false≢true is)
        any_left p (x ∷ xs) zs is = go (p x) is (any_left p xs zs)
          where
            go : (b : Bool) → (b || list_any p xs) ≡ true → (list_any p xs ≡ true → list_any p (xs ++ zs) ≡ true) → (b || list_any p (xs ++ zs)) ≡ true
            go true is more = refl
            go false is more = more is

    front_taken : (i j : ℕ) (xs rest : List Entry) → i ≤ length xs → i ≤ j → IsFront (take i xs) (take j (xs ++ rest))
    front_taken zero j xs rest within low = (take j (xs ++ rest), refl)
    front_taken (suc i) j [] rest within low = absurd (omega (arith, within))
    front_taken (suc i) zero (x ∷ xs) rest within low = absurd (omega (arith, low))
    front_taken (suc i) (suc j) (x ∷ xs) rest within low = one (front_taken i j xs rest (omega (arith, within)) (omega (arith, low)))
      where
        one : IsFront (take i xs) (take j (xs ++ rest)) → IsFront (x ∷ take i xs) (x ∷ take j (xs ++ rest))
        one f = (f.0, ap (λ (ys : List Entry). x ∷ ys) f.1)

module _ (l : Layout) (p : Plain) (d k saved : ℕ) (t : Coming) (W : Caller → Type 0) (hold : ConnsHold t.old)
    (covers : (upto : ℕ) → t.input ≡ data_in.Saved upto → (upto ≤ length t.old.order) × (saved ≡ upto)) where
  abbrev Goes : Sofar → Type 0
  Goes b = EndsGo t W d (view l p d k b.outs.acts) b.state

  abbrev Runs : Sofar → Type 0
  Runs b = NowGo l p d k t.now saved b

  abbrev at : Sofar → Plain
  at b = after_all l p (raised k b.outs.acts)

  same_go : (b c : Sofar) → c.outs.acts ≡ b.outs.acts → Runs b → Runs c
  same_go b c same h = adds_go l p d k t.now saved b c (same_adds l p k b c same) h

  rows_go : (b c : Sofar) → WritesRows b c → Runs b → Runs c
  rows_go b c w h = adds_go l p d k t.now saved b c (rows_adds l p k b c w) h

  -- an act of this server
  act_go : (b c : Sofar) (a : ℕ → Act) → b.state.server ≡ d → c.outs.acts ≡ b.outs.acts ++ a b.state.server ∷ [] → is_data (a d) ≡ true → MayNow l (after_all l p (raised k b.outs.acts)) (a d) → Runs b → Runs c
  act_go b c a its acts plain may h = adds_go l p d k t.now saved b c (one_adds l p k b c (a d) (acts ∙ ap (λ (q : ℕ). b.outs.acts ++ a q ∷ []) its) plain may) h

  breaks_go : (ending : Ending) (conn session app : ℕ) (b : Sofar) → HadConn b.state app session conn → LinksGo d (view l p d k b.outs.acts) b.state → b.state.times ≡ l.times → Runs b
      → Runs (cuts_if ending conn (end_breaks (Some app) t.now (becomes (without_conn conn) b)))
  breaks_go ending conn session app b had links times h =
      same_go (end_breaks (Some app) t.now (becomes (without_conn conn) b)) (cuts_if ending conn (end_breaks (Some app) t.now (becomes (without_conn conn) b)))
      (cut_acts ending conn (end_breaks (Some app) t.now (becomes (without_conn conn) b))) (go (is_normal (link_of b.state app)))
    where
      go : (normal : Bool) → Runs (becomes (with_event app t.now event.Ended) (breaks_if normal app t.now (becomes (without_conn conn) b)))
      go true =
          act_go b (becomes (with_event app t.now event.Ended) (breaks_if true app t.now (becomes (without_conn conn) b))) (λ q. act.Broke app q ends.Server t.now) links.server refl refl
          (breaks_may l (after_all l p (raised k b.outs.acts)) d t b session app links times h.clock had.has) h
      go false = same_go b (becomes (with_event app t.now event.Ended) (breaks_if false app t.now (becomes (without_conn conn) b))) refl h

  opens_go : (app conn : ℕ) (b c : Sofar) → c.outs.acts ≡ b.outs.acts ++ act.Enter b.state.server (Opened (length b.state.order + 1) app) ∷ [] → live_session b.state.order app ≡ None → b.state.round ≡ None
      → LinksGo d (view l p d k b.outs.acts) b.state → Runs b → Runs c
  opens_go app conn b c acts free none links h =
      act_go b c (λ q. act.Enter q (Opened (length b.state.order + 1) app)) links.server acts refl
      (record {
        opened = h.opened;
        place = ap (λ (es : List Entry). length es + 1) (sym links.order);
        alone = ap (λ (es : List Entry). live_session es app) links.order ∙ free;
        up = sym links.due ∙ ap (option_map due_in) none;
      }) h

  round_go : (b : Sofar) → is_round_over b.state b.state.round ≡ true → LinksGo d (view l p d k b.outs.acts) b.state → b.state.synced ≡ saved → Runs b → Runs (makes t.now RoundEnds b)
  round_go b over links synced h =
      (all_back l p d k t.now saved b.state.order all_apps (back_written b) (record {
        run = act_go b (back_written b) (λ q. act.Back q) links.server refl refl (recovering, closes) h;
        server = links.server;
        order = ap (λ (q : ℕ). (view l p d k (b.outs.acts ++ act.Back q ∷ [])).order) links.server ∙ ap (λ (v : Server). v.order) (view_back l p d k b.outs.acts) ∙ links.order;
      })).run
    where
      recovering : is_some (view l p d k b.outs.acts).due ≡ true
      recovering = ap is_some (sym links.due) ∙ (some_round b.state b.state.round over).0

      closes : list_any is_close (drop (view l p d k b.outs.acts).synced (view l p d k b.outs.acts).order) ≡ false
      closes =
          subst (λ (es : List Entry). list_any is_close (drop (view l p d k b.outs.acts).synced es) ≡ false) (sym links.order)
          (none_behind b.state.order b.state.synced (view l p d k b.outs.acts).synced (subst (λ (m : ℕ). m ≤ (view l p d k b.outs.acts).synced) (sym synced) h.no_less) (some_round b.state b.state.round over).1)

  -- a Close that a save covers is synced
  of_save : (session : ℕ) (b : Sofar) → ReleasesMay t session b → IsFront t.old.order b.state.order → LinksGo d (view l p d k b.outs.acts) b.state → Runs b
      → closed_by (view l p d k b.outs.acts).order session (view l p d k b.outs.acts).synced ≡ true
  of_save session b may front links h =
      ap (λ (es : List Entry). closed_by es session (view l p d k b.outs.acts).synced) links.order
      ∙ closed_within session t.old.order b.state.order t.old.synced may.upto (view l p d k b.outs.acts).synced front (covers may.upto may.came).0
      (omega (arith, (covers may.upto may.came).1, h.no_less)) may.closed

  -- Each of them.
  pub run_piece : (q : Piece) (b : Sofar) → MayMake t q b → Goes b → b.state.times ≡ l.times → b.state.synced ≡ saved → IsFront t.old.order b.state.order → Runs b
      → Runs (makes t.now q b)
  run_piece (Accepts conn) b may e times synced front h = same_go b (makes t.now (Accepts conn) b) refl h
  run_piece (Forgets ending conn) b may e times synced front h = same_go b (makes t.now (Forgets ending conn) b) (cut_acts ending conn (becomes (without_conn conn) b)) h
  run_piece (Breaks ending conn session app) b may e times synced front h =
      breaks_go ending conn session app b (had_conn l p d k t W hold conn session app b may.first may.bound may.opened e) e.links times h
  run_piece (Dials app dial) b may e times synced front h = same_go b (makes t.now (Dials app dial) b) refl h
  run_piece (Waits app conn) b may e times synced front h = same_go b (makes t.now (Waits app conn) b) (dropped_acts (waiting_conn b.state app) b) h
  run_piece (Opens app conn) b may e times synced front h = opens_go app conn b (makes t.now (Opens app conn) b) (opens_acts app conn t.now b) may.free (none_is b.state.round may.round) e.links h
  run_piece (OpensNext app conn) b may e times synced front h =
      opens_go app conn b (makes t.now (OpensNext app conn) b) (opens_acts app conn t.now (becomes next_caller b)) (subst (CallersOf b.state.conns b.state.order) may.next e.callers).each.0.1 may.over e.links h
  run_piece (Resumes app session conn) b may e times synced front h = same_go b (makes t.now (Resumes app session conn) b) (dropped_acts (conn_of b.state session) b) h
  run_piece (GoesOn session conn taken) b may e times synced front h = same_go b (makes t.now (GoesOn session conn taken) b) (goes_on_acts session conn taken b) h
  run_piece (ComesAgain session conn kept) b may e times synced front h = same_go b (makes t.now (ComesAgain session conn kept) b) refl h
  run_piece (AwaitsReset session conn at) b may e times synced front h = same_go b (makes t.now (AwaitsReset session conn at) b) refl h
  run_piece (Closes session app cause) b may e times synced front h =
      act_go b (makes t.now (Closes session app cause) b) (λ q. act.Shut q session cause) e.links.server (shuts_acts session app cause t.now b) refl
      (shuts_may l (after_all l p (raised k b.outs.acts)) d t b session app e.links times h.clock may.has cause may.why) h
  run_piece (Acknowledges conn session up) b may e times synced front h = same_go b (makes t.now (Acknowledges conn session up) b) refl h
  run_piece (Takes conn session up) b may e times synced front h = same_go b (makes t.now (Takes conn session up) b) refl h
  run_piece (TakesDone conn session up) b may e times synced front h = same_go b (makes t.now (TakesDone conn session up) b) refl h
  run_piece (Enters x) b may e times synced front h =
      act_go b (makes t.now (Enters x) b) (λ q. act.Enter q x) e.links.server (enters_acts x b) refl (item_now l (after_all l p (raised k b.outs.acts)) may.session may.its.up.message x (act.Enter d x) may.item) h
  run_piece (Fetches session run block) b may e times synced front h =
      same_go (puts session (down.Block (head_of b.state session) block) b) (makes t.now (Fetches session run block) b) refl
      (same_go b (puts session (down.Block (head_of b.state session) block) b) (only_puts session (down.Block (head_of b.state session) block) b).acts h)
  run_piece (PutsNormal app session) b may e times synced front h = same_go b (makes t.now (PutsNormal app session) b) (only_puts session _ b).acts h
  run_piece (PutsAck session) b may e times synced front h = same_go b (makes t.now (PutsAck session) b) (only_puts session _ b).acts h
  run_piece (Replies at says) b may e times synced front h = same_go b (makes t.now (Replies at says) b) refl h
  run_piece (Leaves before r behind) b may e times synced front h =
      same_go (becomes (with_replies (before ++ behind)) b) (makes t.now (Leaves before r behind) b) (only_leaves r.says (becomes (with_replies (before ++ behind)) b)).acts
      (same_go b (becomes (with_replies (before ++ behind)) b) refl h)
  run_piece (Bares session conn) b may e times synced front h = same_go b (makes t.now (Bares session conn) b) refl h
  run_piece (Locks (Asks r)) b may e times synced front h = rows_go b (calls (Asks r) b) (calls_rows (Asks r) b tt) h
  run_piece (Locks (Unlocks who mode key)) b may e times synced front h = rows_go b (calls (Unlocks who mode key) b) (calls_rows (Unlocks who mode key) b tt) h
  run_piece (Locks (Withdraws r session ticket)) b may e times synced front h =
      rows_go b (calls (Withdraws r session ticket) b) (calls_rows (Withdraws r session ticket) b tt) h
  run_piece (Locks (GivesBack r)) b may e times synced front h = rows_go b (calls (GivesBack r) b) (calls_rows (GivesBack r) b tt) h
  run_piece (Locks (ForgetsTicket r)) b may e times synced front h = rows_go b (calls (ForgetsTicket r) b) (calls_rows (ForgetsTicket r) b tt) h
  run_piece (Locks (Claims who key mode number at)) b may e times synced front h =
      rows_go b (calls (Claims who key mode number at) b) (calls_rows (Claims who key mode number at) b tt) h
  run_piece (Locks (Cancels r)) b may e times synced front h = rows_go b (calls (Cancels r) b) (calls_rows (Cancels r) b tt) h
  run_piece (Locks (Releases session)) b may e times synced front h =
      rows_go (writes (act.Release b.state.server session) b) (calls (Releases session) b)
      (locks_rows (without_session b.state.locks session (length b.state.order)) (writes (act.Release b.state.server session) b))
      (act_go b (writes (act.Release b.state.server session) b) (λ q. act.Release q session) e.links.server refl refl
      (record { closed = of_save session b may front e.links h }) h)
  run_piece RoundEnds b may e times synced front h = round_go b may e.links synced h
  run_piece (Ticks app session) b may e times synced front h = same_go b (makes t.now (Ticks app session) b) refl h
