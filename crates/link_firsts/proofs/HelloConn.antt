-- The connection that a Hello came on, or comes on now, over each small change of a data server's step, but for ticks: its session opens,
-- and then its Welcome waits, or it goes and nothing was put on it.
use Rattle.std.proofs.Common.{Bool, List, None, Option, Some, [], ap, arith, cond, false, filter, inl, inr, is_some, length, map, not, option_map, refl}
use Rattle.std.proofs.Common.{subst, sym, true, ℕ, ◌++◌, ◌+◌, ◌<◌, ◌∙◌, ◌∷◌, ◌≡◌, ◌≢◌, ◌≤◌, ◌⊎◌}
use Rattle.std.proofs.lemmas.Bool.{eq-eqb, false≢true, leb-true, ne_eqb}
use Rattle.std.proofs.lemmas.List.Elements.{filter-append}
use Rattle.std.specs.List.{AllByRecursion, find}
use Rattle.block_holders.specs.HolderWords.{touched}
use Rattle.block_holders.specs.declared.noted.Noted.{Noted}
use Rattle.cluster_invariant.proofs.AllLists.{all_follow}
use Rattle.cluster_invariant.proofs.ConnRoles.{bound_role, dropped_conns, other_stays}
use Rattle.cluster_invariant.proofs.PieceKinds.{Accepts, Acknowledges, AwaitsReset, Bares, Breaks, Closes, ComesAgain, Dials, Enters, Fetches, Forgets}
use Rattle.cluster_invariant.proofs.PieceKinds.{GoesOn, Leaves, Locks, Opens, OpensNext, Piece, PutsAck, PutsNormal, Replies, Resumes, RoundEnds, Takes}
use Rattle.cluster_invariant.proofs.PieceKinds.{TakesDone, Ticks, Waits, makes, next_caller, parts_from, with_close, with_replies}
use Rattle.cluster_invariant.proofs.PieceMay.{Coming, RecoverCame}
use Rattle.cluster_invariant.proofs.Pieces.{MayMake}
use Rattle.cluster_invariant.proofs.PiecesOfCloses.{role_given}
use Rattle.cluster_invariant.proofs.PutLaws.{appends_state}
use Rattle.cluster_runs.specs.Sent.{Lane}
use Rattle.data_pieces.proofs.CallersGo.{CallersOf, role_other}
use Rattle.data_pieces.proofs.ConnLists.{role_at}
use Rattle.data_pieces.proofs.ConnPieces.{role_gone}
use Rattle.data_pieces.proofs.EndsPieces.{some_role}
use Rattle.data_puts.proofs.Spoken.{SpokenOn, is_spoken}
use Rattle.data_puts.proofs.SpokenAlong.{Along, waiting_new}
use Rattle.data_rules.specs.Callers.{waiting_conn, with_caller}
use Rattle.data_rules.specs.Closing.{silenced}
use Rattle.data_rules.specs.Conns.{drops_conn, is_conn, role_in, role_of, with_role_if, without_conn}
use Rattle.data_rules.specs.DataState.{DataState}
use Rattle.data_rules.specs.Entering.{appends, enters, spans_of}
use Rattle.data_rules.specs.Leaving.{may_leave}
use Rattle.data_rules.specs.Opening.{opens}
use Rattle.data_rules.specs.Puts.{Sofar, becomes, conn_of, head_of, is_reply_elsewhere, puts, says_on, says_to, writes}
use Rattle.data_rules.specs.declared.down_frames.DownOut.{DownOut}
use Rattle.data_rules.specs.declared.rows.Caller.{Caller}
use Rattle.data_rules.specs.declared.rows.Conn.{Conn}
use Rattle.data_rules.specs.declared.rows.Reply.{Reply}
use Rattle.data_rules.specs.declared.rows.Role.{Role}
use Rattle.data_rules.specs.declared.rows.Role.TheVariants.{Bound, Closing, New, Waiting}
use Rattle.data_rules.specs.declared.rows.Says.TheVariants.{NewWelcome}
use Rattle.link_downs.proofs.BoundConn.{none_waits}
use Rattle.link_downs.proofs.OffConn.{Ended, Off, all_each, beside_opens, beside_parts, broke, forgot, is_off, off_piece, off_replies}
use Rattle.link_downs.proofs.OnConn.{Beside, HasOther, beside_appends, beside_calls, beside_conn, beside_dropped, beside_goes_on, beside_leaves, beside_puts}
use Rattle.link_downs.proofs.OnConn.{beside_round, beside_tells, beside_then, put_on, waiting_on, waits_gone, waits_here, waits_left, waits_other}
use Rattle.link_downs.proofs.OnConn.{waits_there}
use Rattle.link_firsts.proofs.TickFirsts.{none_on}
use Rattle.link_firsts.proofs.UntoldGo.{alone}
use Rattle.link_firsts.proofs.UntoldPieces.{LeavesOn, MadeOf, Trimmed, untold_piece}
use Rattle.link_kept.proofs.WindowPieces.{PutsWell}
use Rattle.link_kept.proofs.WindowsGo.{same_or}
use Rattle.link_nodes.proofs.BoundsGo.{BoundsGo}
use Rattle.plain_orders.specs.declared.causes.ShutCause.{ShutCause}
use Rattle.plain_orders.specs.declared.entry.Entry.{Entry}
use Rattle.plain_orders.specs.declared.layout.Layout.{Layout}
use Rattle.plain_runs.specs.Plain.{Plain}
use Rattle.ecp_messages.specs.declared.down.Down.TheVariants as down
use Rattle.plain_orders.specs.declared.act.Act.TheVariants as act
use Rattle.plain_orders.specs.declared.entry.Entry.TheVariants.{Opened as OpenEntry, Closed}
use Rattle.data_rules.specs.declared.data_in.DataIn.TheVariants as data_in

-- nothing came on it, or a Hello waits
abbrev pub is_calling : Option Role → Bool
is_calling None = false
is_calling (Some New) = true
is_calling (Some Waiting) = true
is_calling (Some (Bound s)) = false
is_calling (Some (Closing s)) = false

pub record CalledOn (q : ℕ) (b : Sofar) : Type 0 where
  pub role : is_calling (role_of b.state q) ≡ true
  pub waits : waiting_on q b.state.replies ≡ []

-- its session was opened now, and its Welcome waits
pub record OpenedOn (t : Coming) (q : ℕ) (b : Sofar) : Type 0 where
  pub s : ℕ
  pub role : role_of b.state q ≡ Some (Bound s)
  pub above : length t.old.order < s
  pub waits : waiting_on q b.state.replies ≡ record { at = s; says = NewWelcome q s } ∷ []

abbrev pub HelloOn : Coming → ℕ → Sofar → Type 0
HelloOn t q b = CalledOn q b ⊎ (OpenedOn t q b ⊎ Off q false None b)

-- frames are on connections of sessions
pub none_put : (q : ℕ) (cs : List Conn) (fs : List DownOut) → is_calling (role_at q cs) ≡ true → AllByRecursion (SpokenOn cs) fs → put_on q fs ≡ []
none_put q cs fs calls all = none_on q fs (all_follow (SpokenOn cs) (λ (f : DownOut). f.conn ≡ q → ⊥) elsewhere fs all)
  where
    silent : (o : Option Role) → is_calling o ≡ true → is_spoken o ≡ true → ⊥
    silent None calls_o is = false≢true calls_o
    silent (Some New) calls_o is = false≢true is
    silent (Some Waiting) calls_o is = false≢true is
    silent (Some (Bound s)) calls_o is = false≢true calls_o
    silent (Some (Closing s)) calls_o is = false≢true calls_o

    elsewhere : (f : DownOut) → SpokenOn cs f → f.conn ≡ q → ⊥
    elsewhere f is same = silent (role_at q cs) calls (ap (λ (i : ℕ). is_spoken (role_at i cs)) (sym same) ∙ is)

module _ (l : Layout) (p : Plain) (d k : ℕ) (t : Coming) (W : Caller → Type 0) (lane_of : ℕ → Lane) (q : ℕ)
    (to_open : (s : ℕ) → length t.old.order < s → (lane_of s).began ≡ None)
    (no_tick : t.input ≡ data_in.Tick → ⊥) (no_conn : t.input ≡ data_in.Connected q → ⊥)
    (no_recover : (conn app session : ℕ) (b : Sofar) → RecoverCame t conn app session b → conn ≢ q) where
  -- once its session is opened
  opened_piece : (x : Piece) (b : Sofar) → MayMake t x b → PutsWell lane_of x b → Along l p d k t W b → BoundsGo t W b.state.conns b.state.order
      → b.state.synced ≤ length t.old.order → OpenedOn t q b
      → HelloOn t q (makes t.now x b)
  opened_piece x b may well along bounds low o =
      go (untold_piece l p d k t W lane_of q o.s (to_open o.s o.above) no_tick no_conn no_recover x b may well along bounds o.role)
    where
      c : Sofar
      c = makes t.now x b

      r : Reply
      r = record { at = o.s; says = NewWelcome q o.s }

      again : role_of c.state q ≡ role_of b.state q → waiting_on q c.state.replies ≡ r ∷ [] → HelloOn t q c
      again role waits = inr (inl (record { s = o.s; role = role ∙ o.role; above = o.above; waits = waits }))

      trimmed : Trimmed q o.s b c → HelloOn t q c
      trimmed y =
          again y.role
          (y.waits ∙ ap (filter (is_reply_elsewhere (says_to y.closed))) o.waits
          ∙ ap (λ (m : Bool). cond (not m) (r ∷ []) []) (ne_eqb o.s y.closed (λ same. y.apart (sym same))))

      leaves_now : LeavesOn q b c → HelloOn t q c
      leaves_now y = absurd (too_soon (alone (waiting_on q y.before) y.r (waiting_on q y.behind) r (sym split ∙ o.waits)))
        where
          split : waiting_on q b.state.replies ≡ waiting_on q y.before ++ y.r ∷ waiting_on q y.behind
          split =
              ap (waiting_on q) y.its ∙ filter-append (λ (z : Reply). says_on q z.says) y.before (y.r ∷ y.behind)
              ∙ ap (λ (m : Bool). waiting_on q y.before ++ cond m (y.r ∷ waiting_on q y.behind) (waiting_on q y.behind)) y.on

          too_soon : (waiting_on q y.before ≡ []) × (y.r ≡ r) × (waiting_on q y.behind ≡ []) → ⊥
          too_soon one =
              absurd (omega (arith, leb-true o.s b.state.synced (subst (λ (z : Reply). may_leave b.state.synced z ≡ true) one.1 y.synced), low, o.above))

      go : MadeOf t q o.s b c → HelloOn t q c
      go (inl y) = again y.role (y.waits ∙ o.waits)
      go (inr (inl y)) = trimmed y
      go (inr (inr (inl y))) = inr (inr (record { off = ap (is_off false) y.role; put = inl (y.put, inl y.waits) }))
      go (inr (inr (inr (inl y)))) = leaves_now y
      go (inr (inr (inr (inr y)))) = again y.role (y.waits ∙ o.waits)

  module _ (b : Sofar) (along : Along l p d k t W b) (longer : length t.old.order ≤ length b.state.order) (h : CalledOn q b) where
    others : (s : ℕ) → HasOther q b.state.conns s
    others s its = false≢true (sym (ap is_calling (bound_role s b.state.conns q along.ends.links.differ its)) ∙ h.role)

    silent : put_on q b.outs.frames ≡ []
    silent = none_put q b.state.conns b.outs.frames h.role along.speaks.frames

    called : (c : Sofar) → Beside q b c → HelloOn t q c
    called c x = inl (record { role = ap is_calling x.role ∙ h.role; waits = x.waits ∙ h.waits })

    gone : (c : Sofar) → Ended q b c → HelloOn t q c
    gone c ended = inr (inr (record {
      off = ap (is_off false) (ap (role_at q) ended.conns ∙ role_gone q b.state.conns);
      put = inl (ap (put_on q) ended.frames ∙ silent, inl (ap (waiting_on q) ended.replies ∙ waits_gone q b.state));
    }))

    ends_at : (n : ℕ) (c : Sofar) → Ended n b c → HelloOn t q c
    ends_at n c ended = or (same_or n q)
      where
        or : (n ≡ q) ⊎ (n ≢ q) → HelloOn t q c
        or (inl same) = gone c (subst (λ (i : ℕ). Ended i b c) same ended)
        or (inr apart) =
            called c
            (record {
              role = ap (role_at q) ended.conns ∙ ap (option_map role_in) (other_stays b.state.conns n q (λ same. apart (sym same)));
              put = ap (put_on q) ended.frames;
              waits = ap (waiting_on q) ended.replies ∙ waits_other q n b.state apart;
            })

    found : (r : Role) → role_of b.state q ≡ Some r → is_some (find (is_conn q) b.state.conns) ≡ true
    found r role = some_role (find (is_conn q) b.state.conns) r role

    -- a session opens for it
    opens_here : (app : ℕ) (c : Sofar) → c.state.conns ≡ b.state.conns → c.state.replies ≡ b.state.replies → c.state.order ≡ b.state.order
        → is_some (find (is_conn q) b.state.conns) ≡ true → HelloOn t q (opens app q t.now c)
    opens_here app c conns replies order there = inr (inl (record {
      s = n;
      role = role_given q (Bound n) (enters e c).state.conns (ap (λ (cs : List Conn). is_some (find (is_conn q) cs)) same_conns ∙ there);
      above = omega (arith, longer, ap (λ (es : List Entry). length es) order);
      waits = waits_here q (enters e c).state.replies (record { at = n; says = NewWelcome q n }) (eq-eqb q q refl)
          ∙ ap (λ (rs : List Reply). rs ++ record { at = n; says = NewWelcome q n } ∷ []) (ap (waiting_on q) same_replies ∙ h.waits);
    }))
      where
        n : ℕ
        n = length c.state.order + 1

        e : Entry
        e = OpenEntry n app

        same_conns : (enters e c).state.conns ≡ b.state.conns
        same_conns = ap (λ (x : DataState). x.conns) (appends_state e (writes (act.Enter c.state.server e) c)).state ∙ conns

        same_replies : (enters e c).state.replies ≡ b.state.replies
        same_replies = ap (λ (x : DataState). x.replies) (appends_state e (writes (act.Enter c.state.server e) c)).state ∙ replies

    opens_at : (app conn : ℕ) (r : Role) (c : Sofar) → role_of b.state conn ≡ Some r → c.state.conns ≡ b.state.conns → c.state.replies ≡ b.state.replies
        → c.state.order ≡ b.state.order
        → (conn ≢ q → Beside q b (opens app conn t.now c)) → HelloOn t q (opens app conn t.now c)
    opens_at app conn r c role conns replies order elsewhere = or (same_or conn q)
      where
        or : (conn ≡ q) ⊎ (conn ≢ q) → HelloOn t q (opens app conn t.now c)
        or (inl same) =
            subst (λ (i : ℕ). HelloOn t q (opens app i t.now c)) (sym same)
            (opens_here app c conns replies order (found r (ap (role_of b.state) (sym same) ∙ role)))
        or (inr apart) = called (opens app conn t.now c) (elsewhere apart)

    -- it waits for the round's end, or another one does
    waits_at : (app conn : ℕ) → role_of b.state conn ≡ Some New → HelloOn t q (makes t.now (Waits app conn) b)
    waits_at app conn is_new = or (same_or conn q) (waiting_conn b.state app) refl
      where
        here : (o : Option ℕ) → waiting_conn b.state app ≡ o → conn ≡ q → HelloOn t q (becomes (with_caller app conn) (drops_conn o b))
        here o its same = inl (record {
          role = ap (λ (i : ℕ). is_calling (role_at i (map (with_role_if conn Waiting) (drops_conn o b).state.conns))) (sym same)
              ∙ ap is_calling (role_given conn Waiting (drops_conn o b).state.conns there);
          waits = dropped_waits o;
        })
          where
            there : is_some (find (is_conn conn) (drops_conn o b).state.conns) ≡ true
            there =
                some_role (find (is_conn conn) (drops_conn o b).state.conns) New
                (ap (role_at conn) (dropped_conns o b) ∙ waiting_new l p d k t W app conn b o its along.ends.callers is_new)

            dropped_waits : (u : Option ℕ) → waiting_on q (drops_conn u b).state.replies ≡ []
            dropped_waits None = h.waits
            dropped_waits (Some n) = waits_left q (is_reply_elsewhere (says_on n)) b.state.replies ∙ ap (filter (is_reply_elsewhere (says_on n))) h.waits

        there_waits : (o : Option ℕ) → waiting_conn b.state app ≡ o → conn ≢ q → HelloOn t q (becomes (with_caller app conn) (drops_conn o b))
        there_waits None its apart =
            called (becomes (with_caller app conn) b)
            (record { role = role_other conn q Waiting b.state.conns (λ same. apart (sym same)); put = refl; waits = refl })
        there_waits (Some n) its apart = by (same_or n q)
          where
            by : (n ≡ q) ⊎ (n ≢ q) → HelloOn t q (becomes (with_caller app conn) (drops_conn (Some n) b))
            by (inl same) =
                subst (λ (i : ℕ). HelloOn t q (becomes (with_caller app conn) (drops_conn (Some i) b))) (sym same)
                (inr (inr (record {
                  off = ap (is_off false) (role_other conn q Waiting (without_conn q b.state).conns (λ is. apart (sym is)) ∙ role_gone q b.state.conns);
                  put = inl (silent, inl (waits_gone q b.state));
                })))
            by (inr other) = called (becomes (with_caller app conn) (drops_conn (Some n) b)) (at (beside_dropped q (Some n) b (λ is. other (one is))))
              where
                one : Some n ≡ Some q → n ≡ q
                one is = cc

                at : Beside q b (drops_conn (Some n) b) → Beside q b (becomes (with_caller app conn) (drops_conn (Some n) b))
                at x =
                    record {
                      role = role_other conn q Waiting (drops_conn (Some n) b).state.conns (λ same. apart (sym same))
                          ∙ x.role;
                      put = x.put;
                      waits = x.waits;
                    }

        or : (conn ≡ q) ⊎ (conn ≢ q) → (o : Option ℕ) → waiting_conn b.state app ≡ o → HelloOn t q (makes t.now (Waits app conn) b)
        or (inl same) o its = subst (λ (u : Option ℕ). HelloOn t q (becomes (with_caller app conn) (drops_conn u b))) (sym its) (here o its same)
        or (inr apart) o its = subst (λ (u : Option ℕ). HelloOn t q (becomes (with_caller app conn) (drops_conn u b))) (sym its) (there_waits o its apart)

    -- a session is closed
    closes_at : (s app : ℕ) (cause : ShutCause) → HelloOn t q (makes t.now (Closes s app cause) b)
    closes_at s app cause = inl (record {
      role = ap is_calling (parted.role ∙ beside.role) ∙ h.role;
      waits =
          parted.waits ∙ beside.waits ∙ waits_left q (is_reply_elsewhere (says_to s)) b.state.replies ∙ ap (filter (is_reply_elsewhere (says_to s))) h.waits;
    })
      where
        z : Sofar
        z = becomes (silenced s) (writes (act.Shut b.state.server s cause) b)

        w : Sofar
        w = with_close s cause b

        beside : Beside q z (appends (Closed s) z)
        beside =
            beside_appends q (Closed s) z
            (all_each (λ (y : Noted). HasOther q b.state.conns y.session) (λ y. others y.session) (touched (spans_of z.state (Closed s)) z.state.noted))

        parted : Beside q w (parts_from cause (conn_of b.state s) s w)
        parted = beside_parts q cause (conn_of b.state s) s w (others s)

  -- While nothing came of it.
  called_piece : (x : Piece) (b : Sofar) → MayMake t x b → Along l p d k t W b → length t.old.order ≤ length b.state.order → CalledOn q b
      → HelloOn t q (makes t.now x b)
  called_piece x b may along longer h = go x may
    where
      at : (y : Piece) → Beside q b (makes t.now y b) → HelloOn t q (makes t.now y b)
      at y x = called b along longer h (makes t.now y b) x

      no_one : (s : ℕ) → HasOther q b.state.conns s
      no_one s = others b along longer h s

      bound_apart : (conn s : ℕ) → role_of b.state conn ≡ Some (Bound s) → conn ≢ q
      bound_apart conn s role same = false≢true (sym (ap is_calling (sym (ap (role_of b.state) same) ∙ role)) ∙ h.role)

      noted_apart : (e : Entry) → AllByRecursion (λ (y : Noted). HasOther q b.state.conns y.session) (touched (spans_of b.state e) b.state.noted)
      noted_apart e = all_each (λ (y : Noted). HasOther q b.state.conns y.session) (λ y. no_one y.session) (touched (spans_of b.state e) b.state.noted)

      go : (y : Piece) → MayMake t y b → HelloOn t q (makes t.now y b)
      go (Accepts conn) m = at (Accepts conn) (beside_conn q conn b (λ same. no_conn (m.came ∙ ap data_in.Connected same)))
      go (Forgets ending conn) m = ends_at b along longer h conn (makes t.now (Forgets ending conn) b) (forgot ending conn b)
      go (Breaks ending conn session app) m = ends_at b along longer h conn (makes t.now (Breaks ending conn session app) b) (broke ending app t.now conn b)
      go (Dials app dial) m = at (Dials app dial) (record { role = refl; put = refl; waits = refl })
      go (Waits app conn) m = waits_at b along longer h app conn m.is_new
      go (Opens app conn) m = opens_at b along longer h app conn New b m.is_new refl refl refl (λ apart. beside_opens q app conn t.now b apart no_one)
      go (OpensNext app conn) m =
          opens_at b along longer h app conn Waiting (becomes next_caller b) waits refl refl refl
          (λ apart. next (beside_opens q app conn t.now (becomes next_caller b) apart no_one))
        where
          waits : role_of b.state conn ≡ Some Waiting
          waits = (subst (λ (cs : List Caller). CallersOf b.state.conns b.state.order cs) m.next along.ends.callers).each.0.0

          next : Beside q (becomes next_caller b) (opens app conn t.now (becomes next_caller b)) → Beside q b (opens app conn t.now (becomes next_caller b))
          next x = record { role = x.role; put = x.put; waits = x.waits }
      go (Resumes app session conn) m = at (Resumes app session conn) (resumed_on (beside_dropped q (conn_of b.state session) b (no_one session)))
        where
          resumed_on : Beside q b (drops_conn (conn_of b.state session) b) → Beside q b (makes t.now (Resumes app session conn) b)
          resumed_on x = record {
            role =
                role_other conn q (Bound session) (drops_conn (conn_of b.state session) b).state.conns
                (λ same. no_recover conn app session b m.came (sym same)) ∙ x.role;
            put = x.put;
            waits = x.waits;
          }
      go (GoesOn session conn upto) m = at (GoesOn session conn upto) (beside_goes_on q session conn upto b (bound_apart conn session m.bound))
      go (ComesAgain session conn kept) m =
          at (ComesAgain session conn kept)
          (record { role = refl; put = refl; waits = waits_there q b.state.replies _ (ne_eqb conn q (bound_apart conn session m.bound)) })
      go (AwaitsReset session conn place) m =
          at (AwaitsReset session conn place)
          (record {
            role = role_other conn q (Closing session) b.state.conns (λ same. no_recover conn m.app session b m.came (sym same));
            put = refl;
            waits = waits_there q b.state.replies _ (ne_eqb conn q (no_recover conn m.app session b m.came));
          })
      go (Closes session app cause) m = closes_at b along longer h session app cause
      go (Acknowledges conn session f) m = at (Acknowledges conn session f) (record { role = refl; put = refl; waits = refl })
      go (Takes conn session f) m = at (Takes conn session f) (record { role = refl; put = refl; waits = refl })
      go (TakesDone conn session f) m = at (TakesDone conn session f) (record { role = refl; put = refl; waits = refl })
      go (Enters e) m = at (Enters e) (entered (beside_appends q e (writes (act.Enter b.state.server e) b) (noted_apart e)))
        where
          entered : Beside q (writes (act.Enter b.state.server e) b) (makes t.now (Enters e) b) → Beside q b (makes t.now (Enters e) b)
          entered x = record { role = x.role; put = x.put; waits = x.waits }
      go (Fetches session run block) m =
          at (Fetches session run block) (fetched (beside_puts q session (down.Block (head_of b.state session) block) b (no_one session)))
        where
          fetched : Beside q b (puts session (down.Block (head_of b.state session) block) b) → Beside q b (makes t.now (Fetches session run block) b)
          fetched x = record { role = x.role; put = x.put; waits = x.waits }
      go (PutsNormal app session) m = at (PutsNormal app session) (beside_puts q session (down.Normal (head_of b.state session)) b (no_one session))
      go (PutsAck session) m = at (PutsAck session) (beside_puts q session (down.Ack (head_of b.state session)) b (no_one session))
      go (Replies place says) m =
          at (Replies place says)
          (record {
            role = refl;
            put = refl;
            waits = waits_there q b.state.replies _
                (off_replies l p d k t W q false None (λ r is. absurd cc) no_tick no_conn place says b m);
          })
      go (Leaves before r behind) m = leaving (none_waits q before r behind (sym (ap (waiting_on q) m.its) ∙ h.waits))
        where
          leaving : (says_on q r.says ≡ false) × (waiting_on q (before ++ behind) ≡ []) → HelloOn t q (makes t.now (Leaves before r behind) b)
          leaving y =
              at (Leaves before r behind)
              (beside_then q b (becomes (with_replies (before ++ behind)) b) (makes t.now (Leaves before r behind) b)
              (record { role = refl; put = refl; waits = y.1 ∙ sym h.waits })
              (beside_leaves q r.says (becomes (with_replies (before ++ behind)) b) y.0 no_one))
      go (Bares session conn) m = at (Bares session conn) (beside_tells q session conn 0 down.Bare b (λ same. no_one session (m.its ∙ ap Some same)))
      go (Locks call) m = at (Locks call) (beside_calls q call b)
      go RoundEnds m = at RoundEnds (beside_round q t.now b)
      go (Ticks app session) m = at (Ticks app session) (record { role = refl; put = refl; waits = refl })

  -- What each small change makes of it.
  pub hello_piece : (x : Piece) (b : Sofar) → MayMake t x b → PutsWell lane_of x b → Along l p d k t W b → BoundsGo t W b.state.conns b.state.order
      → b.state.synced ≤ length t.old.order → HelloOn t q b
      → HelloOn t q (makes t.now x b)
  hello_piece x b may well along bounds low (inl h) = called_piece x b may along bounds.longer h
  hello_piece x b may well along bounds low (inr (inl o)) = opened_piece x b may well along bounds low o
  hello_piece x b may well along bounds low (inr (inr off)) =
      inr (inr (off_piece l p d k t W q false None (λ r is. absurd cc) no_tick no_conn x b may along off))
