-- Over each small change of a data server's step, but for ticks, nothing is put on the connection of a live session that didn't learn of the
-- order but the Welcome that waited for it, or it goes and nothing was.
use Rattle.std.proofs.Common.{Bool, List, None, Option, Some, [], ap, cond, false, filter, inl, inr, is_some, length, option_map, refl, subst, sym, true, ℕ}
use Rattle.std.proofs.Common.{◌++◌, ◌+◌, ◌∙◌, ◌∷◌, ◌≡◌, ◌≢◌, ◌⊎◌}
use Rattle.std.proofs.lemmas.Bool.{eq-eqb, false≢true, ne_eqb, true≢false}
use Rattle.std.proofs.lemmas.List.Elements.{filter-append}
use Rattle.std.specs.List.{AllByRecursion}
use Rattle.block_holders.specs.HolderWords.{is_noted_elsewhere, is_touched, touched}
use Rattle.block_holders.specs.declared.noted.Noted.{Noted}
use Rattle.cluster_invariant.proofs.AllLists.{all_filtered, all_follow}
use Rattle.cluster_invariant.proofs.ConnRoles.{bound_role, other_stays}
use Rattle.cluster_invariant.proofs.PieceKinds.{Accepts, Acknowledges, AwaitsReset, Bares, Breaks, Closes, ComesAgain, Dials, Enters, Fetches, Forgets}
use Rattle.cluster_invariant.proofs.PieceKinds.{GoesOn, Leaves, Locks, Opens, OpensNext, Piece, PutsAck, PutsNormal, Replies, Resumes, RoundEnds, Takes}
use Rattle.cluster_invariant.proofs.PieceKinds.{TakesDone, Ticks, Waits, event_of, makes, next_caller, parts_from, with_close, with_replies}
use Rattle.cluster_invariant.proofs.PieceMay.{ClosesBy, Coming, RecoverCame, begins}
use Rattle.cluster_invariant.proofs.Pieces.{MayMake}
use Rattle.cluster_runs.specs.Sent.{Lane}
use Rattle.data_pieces.proofs.CallerPieces.{waiting_role}
use Rattle.data_pieces.proofs.CallersGo.{CallersOf, role_other}
use Rattle.data_pieces.proofs.ConnLists.{Differ, conn_for, role_at}
use Rattle.data_pieces.proofs.ConnPieces.{role_gone}
use Rattle.data_puts.proofs.SpokenAlong.{Along}
use Rattle.data_puts.proofs.SpokenPieces.{begins_frames}
use Rattle.data_rules.specs.Callers.{resumed, waiting_conn}
use Rattle.data_rules.specs.Closing.{silenced}
use Rattle.data_rules.specs.Conns.{drops_conn, is_other_conn, role_in, role_of, with_event, without_conn}
use Rattle.data_rules.specs.Entering.{appends, enters, spans_of}
use Rattle.data_rules.specs.Leaving.{leaves, may_leave}
use Rattle.data_rules.specs.Opening.{opens}
use Rattle.data_rules.specs.Puts.{Sofar, becomes, conn_of, head_of, is_reply_elsewhere, puts, says_on, says_to, writes}
use Rattle.data_rules.specs.declared.rows.Caller.{Caller}
use Rattle.data_rules.specs.declared.rows.Reply.{Reply}
use Rattle.data_rules.specs.declared.rows.Role.{Role}
use Rattle.data_rules.specs.declared.rows.Role.TheVariants.{Bound, Closing, New, Waiting}
use Rattle.data_rules.specs.declared.rows.Says.{Says}
use Rattle.data_rules.specs.declared.rows.Says.TheVariants.{AnswerOf, EpochWelcome, GrantOf, NewWelcome, ResetOf}
use Rattle.ecp_messages.specs.declared.down.Down.{Down}
use Rattle.ecp_messages.specs.declared.up.UpFrame.{UpFrame}
use Rattle.link_downs.proofs.OffConn.{Ended, beside_parts, broke, forgot, off_replies}
use Rattle.link_downs.proofs.OnConn.{Beside, HasOther, beside_appends, beside_calls, beside_conn, beside_dropped, beside_goes_on, beside_puts, beside_round}
use Rattle.link_downs.proofs.OnConn.{beside_tells, beside_then, put_on, put_there, waiting_on, waits_gone, waits_left, waits_other, waits_there}
use Rattle.link_kept.proofs.WindowPieces.{PutsWell, SaysServed}
use Rattle.link_kept.proofs.WindowsGo.{AllServed, Served, same_or}
use Rattle.link_nodes.proofs.BoundsGo.{BoundsGo, bounds_its}
use Rattle.plain_orders.specs.declared.causes.ShutCause.{ShutCause}
use Rattle.plain_orders.specs.declared.causes.ShutCause.TheVariants.{Replaced, Round, Trouble}
use Rattle.plain_orders.specs.declared.entry.Entry.{Entry}
use Rattle.plain_orders.specs.declared.layout.Layout.{Layout}
use Rattle.plain_runs.specs.Plain.{Plain}
use Rattle.subscript_keys.specs.declared.span.Span.{Span}
use Rattle.ecp_messages.specs.declared.down.Down.TheVariants as down
use Rattle.plain_orders.specs.declared.entry.Entry.TheVariants.{Opened as OpenEntry, Closed}
use Rattle.plain_orders.specs.declared.act.Act.TheVariants as act
use Rattle.data_rules.specs.declared.data_in.DataIn.TheVariants as data_in

-- what a change makes of it: replies of another session that is closed go
pub record Trimmed (q s : ℕ) (b c : Sofar) : Type 0 where
  pub role : role_of c.state q ≡ role_of b.state q
  pub put : put_on q c.outs.frames ≡ put_on q b.outs.frames
  pub closed : ℕ
  pub apart : closed ≢ s
  pub waits : waiting_on q c.state.replies ≡ filter (is_reply_elsewhere (says_to closed)) (waiting_on q b.state.replies)

-- it goes, and nothing was put on it
pub record Gone (q : ℕ) (c : Sofar) : Type 0 where
  pub role : role_of c.state q ≡ None
  pub put : put_on q c.outs.frames ≡ []
  pub waits : waiting_on q c.state.replies ≡ []

-- a reply leaves on it
pub record LeavesOn (q : ℕ) (b c : Sofar) : Type 0 where
  pub before : List Reply
  pub r : Reply
  pub behind : List Reply
  pub its : b.state.replies ≡ before ++ r ∷ behind
  pub synced : may_leave b.state.synced r ≡ true
  pub on : says_on q r.says ≡ true
  pub made : c ≡ leaves r.says (becomes (with_replies (before ++ behind)) b)

-- a frame came on it, and an acknowledgement goes out
pub record CameOn (t : Coming) (q : ℕ) (b c : Sofar) : Type 0 where
  pub up : UpFrame
  pub came : t.input ≡ data_in.Frame q up
  pub role : role_of c.state q ≡ role_of b.state q
  pub waits : waiting_on q c.state.replies ≡ waiting_on q b.state.replies

abbrev pub MadeOf : Coming → ℕ → ℕ → Sofar → Sofar → Type 0
MadeOf t q s b c = Beside q b c ⊎ (Trimmed q s b c ⊎ (Gone q c ⊎ (LeavesOn q b c ⊎ CameOn t q b c)))

-- an Open on another connection
opened_beside : (q app conn now : ℕ) (b : Sofar) → conn ≢ q
    → AllByRecursion (λ (y : Noted). HasOther q b.state.conns y.session)
    (touched (spans_of b.state (OpenEntry (length b.state.order + 1) app)) b.state.noted) → Beside q b (opens app conn now b)
opened_beside q app conn now b apart all = go (beside_appends q e (writes (act.Enter b.state.server e) b) all)
  where
    e : Entry
    e = OpenEntry (length b.state.order + 1) app

    go : Beside q (writes (act.Enter b.state.server e) b) (enters e b) → Beside q b (opens app conn now b)
    go x = record {
      role = role_other conn q (Bound (length b.state.order + 1)) (enters e b).state.conns (λ same. apart (sym same)) ∙ x.role;
      put = x.put;
      waits = waits_there q (enters e b).state.replies _ (ne_eqb conn q apart) ∙ x.waits;
    }

module _ (l : Layout) (p : Plain) (d k : ℕ) (t : Coming) (W : Caller → Type 0) (lane_of : ℕ → Lane) (q s : ℕ) (unlearnt : (lane_of s).began ≡ None)
    (no_tick : t.input ≡ data_in.Tick → ⊥)
    (no_conn : t.input ≡ data_in.Connected q → ⊥) (no_recover : (conn app session : ℕ) (b : Sofar) → RecoverCame t conn app session b → conn ≢ q) where
  module _ (b : Sofar) (along : Along l p d k t W b) (bounds : BoundsGo t W b.state.conns b.state.order) (role_q : role_of b.state q ≡ Some (Bound s)) where
    abbrev MadeAt : Sofar → Type 0
    MadeAt c = MadeOf t q s b c

    differ : Differ b.state.conns
    differ = along.ends.links.differ

    -- whose it is
    its_session : (r : ℕ) → conn_for r b.state.conns ≡ Some q → r ≡ s
    its_session r its = one (sym (bound_role r b.state.conns q differ its) ∙ role_q)
      where
        one : Some (Bound r) ≡ Some (Bound s) → r ≡ s
        one same = cc

    other : (r : ℕ) → r ≢ s → HasOther q b.state.conns r
    other r apart its = apart (its_session r its)

    served : (r : ℕ) → Served lane_of b.state.order r → HasOther q b.state.conns r
    served r is its =
        false≢true (sym (ap (λ (o : Option ℕ). is_some o) unlearnt) ∙ ap (λ (i : ℕ). is_some (lane_of i).began) (sym (its_session r its)) ∙ is.1)

    all_served : (es : List Entry) (xs : List Noted) (spans : List Span) → es ≡ b.state.order → AllServed lane_of es xs
        → AllByRecursion (λ (y : Noted). HasOther q b.state.conns y.session) (touched spans xs)
    all_served es xs spans same all =
        all_filtered (λ (y : Noted). HasOther q b.state.conns y.session) (is_touched spans) xs
        (all_follow (λ (y : Noted). Served lane_of es y.session) (λ (y : Noted). HasOther q b.state.conns y.session)
        (λ y is. served y.session (subst (λ (zs : List Entry). Served lane_of zs y.session) same is)) xs all)

    apart_from : (r : Role) (n : ℕ) → (r ≡ Bound s → ⊥) → role_of b.state n ≡ Some r → n ≢ q
    apart_from r n differs role same = differs (one (sym role ∙ ap (role_of b.state) same ∙ role_q))
      where
        one : Some r ≡ Some (Bound s) → r ≡ Bound s
        one is = cc

    new_apart : (n : ℕ) → role_of b.state n ≡ Some New → n ≢ q
    new_apart n role = apart_from New n (λ same. absurd cc) role

    gone : (c : Sofar) → role_of c.state q ≡ None → put_on q c.outs.frames ≡ [] → waiting_on q c.state.replies ≡ [] → MadeAt c
    gone c role silent none = inr (inr (inl (record { role = role; put = silent; waits = none })))

    -- an end of a connection
    ends_at : (n : ℕ) (x : Piece) → MayMake t x b → b ≡ begins t → Ended n b (makes t.now x b) → MadeAt (makes t.now x b)
    ends_at n x m first ended = or (same_or n q)
      where
        c : Sofar
        c = makes t.now x b

        or : (n ≡ q) ⊎ (n ≢ q) → MadeAt c
        or (inl same) =
            gone c
            (ap (role_at q) ended.conns ∙ ap (λ (i : ℕ). role_at q (without_conn i b.state).conns) same ∙ role_gone q b.state.conns)
            (ap (put_on q) (ended.frames ∙ ap (λ (e : Sofar). e.outs.frames) first ∙ begins_frames t.old t.now t.input))
            (ap (waiting_on q) ended.replies ∙ ap (λ (i : ℕ). waiting_on q (without_conn i b.state).replies) same ∙ waits_gone q b.state)
        or (inr apart) =
            inl (record {
              role = ap (role_at q) ended.conns ∙ ap (option_map role_in) (other_stays b.state.conns n q (λ same. apart (sym same)));
              put = ap (put_on q) ended.frames;
              waits = ap (waiting_on q) ended.replies ∙ waits_other q n b.state apart;
            })

    -- the session's own Close, for a newer Hello
    shut_here : (app : ℕ) (cause : ShutCause) → AllServed lane_of b.state.order b.state.noted → ClosesBy t s app cause b
        → MadeAt (makes t.now (Closes s app cause) b)
    shut_here app (Trouble time) all why = absurd (no_tick why.came)
    shut_here app (Round time) all why = absurd (no_tick why.came)
    shut_here app Replaced all why = go (conn_of b.state s) (bounds_its t W b.state.conns b.state.order q s differ bounds role_q)
      where
        z : Sofar
        z = becomes (silenced s) (writes (act.Shut b.state.server s Replaced) b)

        w : Sofar
        w = with_close s Replaced b

        beside : Beside q z (appends (Closed s) z)
        beside =
            beside_appends q (Closed s) z
            (all_served b.state.order z.state.noted (spans_of z.state (Closed s)) refl
            (all_filtered (λ (y : Noted). Served lane_of b.state.order y.session) (is_noted_elsewhere s) b.state.noted all))

        silent : put_on q w.outs.frames ≡ []
        silent = beside.put ∙ ap (put_on q) why.unput

        go : (o : Option ℕ) → o ≡ Some q → MadeAt (becomes (with_event app t.now (event_of Replaced)) (parts_from Replaced o s w))
        go None its = absurd cc
        go (Some n) its =
            subst (λ (i : ℕ). MadeAt (becomes (with_event app t.now (event_of Replaced)) (parts_from Replaced (Some i) s w))) (sym (one its))
            (gone (becomes (with_event app t.now (event_of Replaced)) (parts_from Replaced (Some q) s w)) (role_gone q w.state.conns) silent
            (waits_gone q w.state))
          where
            one : Some n ≡ Some q → n ≡ q
            one same = cc

    -- another session's
    shut_other : (r app : ℕ) (cause : ShutCause) → AllServed lane_of b.state.order b.state.noted → MayMake t (Closes r app cause) b → r ≢ s
        → MadeAt (makes t.now (Closes r app cause) b)
    shut_other r app cause all m apart =
        inr (inl (record {
          role = (beside_parts q cause (conn_of b.state r) r w (other r apart)).role ∙ beside.role;
          put = (beside_parts q cause (conn_of b.state r) r w (other r apart)).put ∙ beside.put;
          closed = r;
          apart = apart;
          waits =
              (beside_parts q cause (conn_of b.state r) r w (other r apart)).waits ∙ beside.waits
              ∙ waits_left q (is_reply_elsewhere (says_to r)) b.state.replies;
        }))
      where
        z : Sofar
        z = becomes (silenced r) (writes (act.Shut b.state.server r cause) b)

        w : Sofar
        w = with_close r cause b

        beside : Beside q z (appends (Closed r) z)
        beside =
            beside_appends q (Closed r) z
            (all_served b.state.order z.state.noted (spans_of z.state (Closed r)) refl
            (all_filtered (λ (y : Noted). Served lane_of b.state.order y.session) (is_noted_elsewhere r) b.state.noted all))

    -- a reply leaves
    leaves_beside : (says : Says) (c : Sofar) → c.state.conns ≡ b.state.conns → says_on q says ≡ false → SaysServed lane_of b.state.order says
        → Beside q c (leaves says c)
    leaves_beside (NewWelcome conn r) c conns out well = beside_tells q r conn 0 _ c (λ same. true≢false (sym (eq-eqb conn q same) ∙ out))
    leaves_beside (EpochWelcome conn r kept) c conns out well = beside_tells q r conn 0 _ c (λ same. true≢false (sym (eq-eqb conn q same) ∙ out))
    leaves_beside (ResetOf conn r place) c conns out well =
        record { role = refl; put = put_there q conn c.outs.frames _ (λ same. true≢false (sym (eq-eqb conn q same) ∙ out)); waits = refl }
    leaves_beside (GrantOf r ticket number) c conns out well = beside_puts q r _ c (λ its. served r well (ap (conn_for r) (sym conns) ∙ its))
    leaves_beside (AnswerOf r about job number place sum) c conns out well = beside_puts q r _ c (λ its. served r well (ap (conn_for r) (sym conns) ∙ its))

    leaves_at : (before : List Reply) (r : Reply) (behind : List Reply) → MayMake t (Leaves before r behind) b → SaysServed lane_of b.state.order r.says
        → MadeAt (makes t.now (Leaves before r behind) b)
    leaves_at before r behind m well = go (says_on q r.says) refl
      where
        c : Sofar
        c = becomes (with_replies (before ++ behind)) b

        split : says_on q r.says ≡ false → waiting_on q b.state.replies ≡ waiting_on q before ++ waiting_on q behind
        split is =
            ap (waiting_on q) m.its ∙ filter-append (λ (x : Reply). says_on q x.says) before (r ∷ behind)
            ∙ ap (λ (o : Bool). waiting_on q before ++ cond o (r ∷ waiting_on q behind) (waiting_on q behind)) is

        rest : waiting_on q (before ++ behind) ≡ waiting_on q before ++ waiting_on q behind
        rest = filter-append (λ (x : Reply). says_on q x.says) before behind

        go : (on : Bool) → says_on q r.says ≡ on → MadeAt (leaves r.says c)
        go true on = inr (inr (inr (inl (record { before = before; r = r; behind = behind; its = m.its; synced = m.synced; on = on; made = refl }))))
        go false out =
            inl (beside_then q b c (leaves r.says c) (record { role = refl; put = refl; waits = rest ∙ sym (split out) })
            (leaves_beside r.says c refl out well))

  -- What each small change makes of it.
  pub untold_piece : (x : Piece) (b : Sofar) → MayMake t x b → PutsWell lane_of x b → Along l p d k t W b → BoundsGo t W b.state.conns b.state.order
      → role_of b.state q ≡ Some (Bound s)
      → MadeOf t q s b (makes t.now x b)
  untold_piece x b may well along bounds h = go x may well
    where
      beside : (y : Piece) → MayMake t y b → Beside q b (makes t.now y b) → MadeOf t q s b (makes t.now y b)
      beside y m is = inl is

      is_new : (n : ℕ) → role_of b.state n ≡ Some New → n ≢ q
      is_new n role = new_apart b along bounds h n role

      noted_apart : (spans : List Span) → AllServed lane_of b.state.order b.state.noted
          → AllByRecursion (λ (y : Noted). HasOther q b.state.conns y.session) (touched spans b.state.noted)
      noted_apart spans all = all_served b along bounds h b.state.order b.state.noted spans refl all

      put_to : (r : ℕ) (m : Down) → Served lane_of b.state.order r → Beside q b (puts r m b)
      put_to r m is = beside_puts q r m b (served b along bounds h r is)

      go : (y : Piece) → MayMake t y b → PutsWell lane_of y b → MadeOf t q s b (makes t.now y b)
      go (Accepts conn) m well_y = beside (Accepts conn) m (beside_conn q conn b (λ same. no_conn (m.came ∙ ap data_in.Connected same)))
      go (Forgets ending conn) m well_y = ends_at b along bounds h conn (Forgets ending conn) m m.first (forgot ending conn b)
      go (Breaks ending conn session app) m well_y = ends_at b along bounds h conn (Breaks ending conn session app) m m.first (broke ending app t.now conn b)
      go (Dials app dial) m well_y = beside (Dials app dial) m (record { role = refl; put = refl; waits = refl })
      go (Waits app conn) m well_y = beside (Waits app conn) m (waits (beside_dropped q (waiting_conn b.state app) b older))
        where
          older : waiting_conn b.state app ≡ Some q → ⊥
          older its =
              apart_from b along bounds h Waiting q (λ same. absurd cc)
              (waiting_role app q b.state.conns b.state.order b.state.callers along.ends.callers.each its) refl

          waits : Beside q b (drops_conn (waiting_conn b.state app) b) → Beside q b (makes t.now (Waits app conn) b)
          waits x = record {
            role = role_other conn q Waiting (drops_conn (waiting_conn b.state app) b).state.conns (λ same. is_new conn m.is_new (sym same)) ∙ x.role;
            put = x.put;
            waits = x.waits;
          }
      go (Opens app conn) m well_y =
          beside (Opens app conn) m
          (opened_beside q app conn t.now b (is_new conn m.is_new) (noted_apart (spans_of b.state (OpenEntry (length b.state.order + 1) app)) well_y.noted))
      go (OpensNext app conn) m well_y =
          beside (OpensNext app conn) m
          (at (opened_beside q app conn t.now (becomes next_caller b) (apart_from b along bounds h Waiting conn (λ same. absurd cc) waits)
          (noted_apart (spans_of b.state (OpenEntry (length b.state.order + 1) app)) well_y.noted)))
        where
          waits : role_of b.state conn ≡ Some Waiting
          waits = (subst (λ (cs : List Caller). CallersOf b.state.conns b.state.order cs) m.next along.ends.callers).each.0.0

          at : Beside q (becomes next_caller b) (makes t.now (OpensNext app conn) b) → Beside q b (makes t.now (OpensNext app conn) b)
          at x = record { role = x.role; put = x.put; waits = x.waits }
      go (Resumes app session conn) m well_y = resumes (same_or session s)
        where
          apart : conn ≢ q
          apart = is_new conn m.is_new

          off : (o : Option ℕ) → o ≡ Some q → MadeOf t q s b (becomes (resumed app s conn t.now) (drops_conn o b))
          off None its = absurd cc
          off (Some n) its =
              subst (λ (i : ℕ). MadeOf t q s b (becomes (resumed app s conn t.now) (drops_conn (Some i) b))) (sym (one its))
              (gone b along bounds h (becomes (resumed app s conn t.now) (drops_conn (Some q) b))
              (role_other conn q (Bound s) (filter (is_other_conn q) b.state.conns) (λ same. apart (sym same)) ∙ role_gone q b.state.conns)
              (ap (put_on q) m.unput) (waits_gone q b.state))
            where
              one : Some n ≡ Some q → n ≡ q
              one same = cc

          resumed_on : Beside q b (drops_conn (conn_of b.state session) b) → Beside q b (makes t.now (Resumes app session conn) b)
          resumed_on x = record {
            role = role_other conn q (Bound session) (drops_conn (conn_of b.state session) b).state.conns (λ same. apart (sym same)) ∙ x.role;
            put = x.put;
            waits = x.waits;
          }

          resumes : (session ≡ s) ⊎ (session ≢ s) → MadeOf t q s b (makes t.now (Resumes app session conn) b)
          resumes (inl same) =
              subst (λ (n : ℕ). MadeOf t q s b (makes t.now (Resumes app n conn) b)) (sym same)
              (off (conn_of b.state s) (bounds_its t W b.state.conns b.state.order q s along.ends.links.differ bounds h))
          resumes (inr differs) =
              beside (Resumes app session conn) m (resumed_on (beside_dropped q (conn_of b.state session) b (other b along bounds h session differs)))
      go (GoesOn session conn upto) m well_y =
          beside (GoesOn session conn upto) m (beside_goes_on q session conn upto b (no_recover conn m.app session b m.came))
      go (ComesAgain session conn kept) m well_y =
          beside (ComesAgain session conn kept) m
          (record { role = refl; put = refl; waits = waits_there q b.state.replies _ (ne_eqb conn q (no_recover conn m.app session b m.came)) })
      go (AwaitsReset session conn at) m well_y =
          beside (AwaitsReset session conn at) m
          (record {
            role = role_other conn q (Closing session) b.state.conns (λ same. is_new conn m.is_new (sym same));
            put = refl;
            waits = waits_there q b.state.replies _ (ne_eqb conn q (is_new conn m.is_new));
          })
      go (Closes session app cause) m well_y = closes (same_or session s)
        where
          closes : (session ≡ s) ⊎ (session ≢ s) → MadeOf t q s b (makes t.now (Closes session app cause) b)
          closes (inl same) =
              subst (λ (n : ℕ). MadeOf t q s b (makes t.now (Closes n app cause) b)) (sym same)
              (shut_here b along bounds h app cause well_y (subst (λ (n : ℕ). ClosesBy t n app cause b) same m.why))
          closes (inr differs) = shut_other b along bounds h session app cause well_y m differs
      go (Acknowledges conn session f) m well_y = beside (Acknowledges conn session f) m (record { role = refl; put = refl; waits = refl })
      go (Takes conn session f) m well_y = beside (Takes conn session f) m (record { role = refl; put = refl; waits = refl })
      go (TakesDone conn session f) m well_y = beside (TakesDone conn session f) m (record { role = refl; put = refl; waits = refl })
      go (Enters e) m well_y =
          beside (Enters e) m (at (beside_appends q e (writes (act.Enter b.state.server e) b) (noted_apart (spans_of b.state e) well_y)))
        where
          at : Beside q (writes (act.Enter b.state.server e) b) (makes t.now (Enters e) b) → Beside q b (makes t.now (Enters e) b)
          at x = record { role = x.role; put = x.put; waits = x.waits }
      go (Fetches session run block) m well_y = beside (Fetches session run block) m (at (put_to session (down.Block (head_of b.state session) block) well_y))
        where
          at : Beside q b (puts session (down.Block (head_of b.state session) block) b) → Beside q b (makes t.now (Fetches session run block) b)
          at x = record { role = x.role; put = x.put; waits = x.waits }
      go (PutsNormal app session) m well_y = beside (PutsNormal app session) m (put_to session (down.Normal (head_of b.state session)) well_y)
      go (PutsAck session) m well_y = beside (PutsAck session) m (put_to session (down.Ack (head_of b.state session)) well_y)
      go (Replies at says) m well_y =
          beside (Replies at says) m
          (record {
            role = refl;
            put = refl;
            waits = waits_there q b.state.replies _
                (off_replies l p d k t W q false None (λ r is. absurd cc) no_tick no_conn at says b m);
          })
      go (Leaves before r behind) m well_y = leaves_at b along bounds h before r behind m well_y
      go (Bares session conn) m well_y = bares (same_or session s)
        where
          bares : (session ≡ s) ⊎ (session ≢ s) → MadeOf t q s b (makes t.now (Bares session conn) b)
          bares (inl same) =
              inr (inr (inr (inr (record {
                up = m.after.up;
                came =
                    m.after.on.came
                    ∙ ap (λ (i : ℕ). data_in.Frame i m.after.up) (bounds.only q m.after.conn s h (m.after.on.bound ∙ ap (λ (i : ℕ). Some (Bound i)) same));
                role = refl;
                waits = refl;
              }))))
          bares (inr differs) =
              beside (Bares session conn) m (beside_tells q session conn 0 down.Bare b (λ same. other b along bounds h session differs (m.its ∙ ap Some same)))
      go (Locks call) m well_y = beside (Locks call) m (beside_calls q call b)
      go RoundEnds m well_y = beside RoundEnds m (beside_round q t.now b)
      go (Ticks app session) m well_y = beside (Ticks app session) m (record { role = refl; put = refl; waits = refl })
