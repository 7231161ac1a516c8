-- A connection of a data server that is no live session's: nothing is put on it but a Reset that waited.
use Rattle.std.proofs.Common.{◌≡◌, ◌≢◌, ◌⊎◌, inl, inr, ◌+◌, ℕ, Bool, true, false, cond, List, [], ◌∷◌, ◌++◌, length, filter, Option, Some, None, refl, sym, ◌∙◌, ap, subst}
use Rattle.std.specs.Prelude.{not}
use Rattle.std.specs.List.{AllByRecursion}
use Rattle.std.proofs.lemmas.Bool.{ne_eqb, false≢true}
use Rattle.std.proofs.lemmas.List.Elements.{filter-append}
use Rattle.plain_orders.specs.declared.act.Act.TheVariants as act
use Rattle.plain_orders.specs.declared.causes.ShutCause.{ShutCause}
use Rattle.plain_orders.specs.declared.causes.ShutCause.TheVariants.{Trouble, Replaced, Round}
use Rattle.plain_orders.specs.declared.entry.Entry.{Entry}
use Rattle.plain_orders.specs.declared.entry.Entry.TheVariants.{Opened as OpenEntry, Closed}
use Rattle.plain_orders.specs.declared.layout.Layout.{Layout}
use Rattle.plain_runs.specs.Plain.{Plain}
use Rattle.ecp_messages.specs.declared.down.Down.TheVariants as down
use Rattle.ecp_messages.specs.declared.down.DownFrame.{DownFrame}
use Rattle.block_holders.specs.declared.noted.Noted.{Noted}
use Rattle.block_holders.specs.HolderWords.{touched}
use Rattle.data_rules.specs.declared.data_in.DataIn.TheVariants as data_in
use Rattle.data_rules.specs.declared.rows.Caller.{Caller}
use Rattle.data_rules.specs.declared.rows.Conn.{Conn}
use Rattle.data_rules.specs.declared.rows.Reply.{Reply}
use Rattle.data_rules.specs.declared.rows.Role.{Role}
use Rattle.data_rules.specs.declared.rows.Role.TheVariants.{New, Waiting, Bound, Closing}
use Rattle.data_rules.specs.declared.rows.Says.{Says}
use Rattle.data_rules.specs.declared.rows.Says.TheVariants.{NewWelcome, EpochWelcome, ResetOf, GrantOf, AnswerOf}
use Rattle.data_rules.specs.DataState.{DataState}
use Rattle.link_states.specs.declared.link_event.LinkEvent.TheVariants as event
use Rattle.data_rules.specs.Callers.{waiting_conn}
use Rattle.data_rules.specs.Closing.{silenced}
use Rattle.data_rules.specs.Conns.{breaks_if, drops_conn, end_breaks, is_normal, link_of, role_of, with_event, without_conn}
use Rattle.data_rules.specs.Entering.{appends, enters, spans_of}
use Rattle.data_rules.specs.Leaving.{leaves, may_leave}
use Rattle.data_rules.specs.Opening.{opens}
use Rattle.data_rules.specs.Puts.{Sofar, becomes, conn_of, head_of, is_reply_elsewhere, puts, says_on, says_to, writes}
use Rattle.cluster_invariant.proofs.ConnRoles.{bound_role}
use Rattle.cluster_invariant.proofs.PieceDeeds.{does_piece}
use Rattle.cluster_invariant.proofs.PieceKinds.{Ending, There, Here, Piece, Accepts, Forgets, Breaks, Dials, Waits, Opens, OpensNext, Resumes, GoesOn, ComesAgain, AwaitsReset, Closes, Acknowledges, Takes, TakesDone, Enters, Fetches, PutsNormal, PutsAck, Replies, Leaves, Bares, Locks, RoundEnds, Ticks, calls, closing_on, cuts_if, makes, next_caller, parts_from, round_over, with_close, with_replies}
use Rattle.cluster_invariant.proofs.PieceMay.{Coming, RepliesMay}
use Rattle.cluster_invariant.proofs.Pieces.{MayMake}
use Rattle.cluster_invariant.proofs.PutLaws.{appends_state}
use Rattle.data_pieces.proofs.CallerPieces.{waiting_role}
use Rattle.data_pieces.proofs.CallersGo.{CallersOf, role_other}
use Rattle.data_pieces.proofs.ConnLists.{Differ, role_at}
use Rattle.data_pieces.proofs.ConnPieces.{role_gone}
use Rattle.data_puts.proofs.SpokenAlong.{Along}
use Rattle.link_kept.proofs.WindowsGo.{same_or}
use Rattle.link_downs.proofs.OnConn.{Beside, HasOther, beside_appends, beside_breaks, beside_calls, beside_conn, beside_cut, beside_dropped, beside_goes_on, beside_gone, beside_leaves, beside_puts, beside_role, beside_round, beside_same, beside_tells, beside_then, put_here, put_on, waiting_on, waits_gone, waits_left, waits_there}

-- of no live session, and not to become one's: gone, or one that awaits a Reset where that may be
abbrev pub is_off : Bool → Option Role → Bool
is_off closing None = true
is_off closing (Some New) = false
is_off closing (Some Waiting) = false
is_off closing (Some (Bound s)) = false
is_off closing (Some (Closing s)) = closing

-- one reply, or none
abbrev pub listed : Option Reply → List Reply
listed None = []
listed (Some r) = r ∷ []

-- a reply is a Reset on this connection
pub record SaysReset (q : ℕ) (r : Reply) : Type 0 where
  pub session : ℕ
  pub place : ℕ
  pub its : r.says ≡ ResetOf q session place

-- the Reset that waited left
pub record LeftReset (q : ℕ) (ws : Option Reply) (upto : ℕ) (fs : List DownFrame) : Type 0 where
  pub reply : Reply
  pub waited : ws ≡ Some reply
  pub says : SaysReset q reply
  pub synced : may_leave upto reply ≡ true
  pub put : fs ≡ record { seq = 0; ack = 0; message = down.Reset says.session says.place } ∷ []

-- nothing was put on it, and no more waits than did, or the Reset was
abbrev pub OffPut : ℕ → Option Reply → Sofar → Type 0
OffPut q ws b =
    ((put_on q b.outs.frames ≡ []) × ((waiting_on q b.state.replies ≡ []) ⊎ (waiting_on q b.state.replies ≡ listed ws)))
    ⊎ (LeftReset q ws b.state.synced (put_on q b.outs.frames) × (waiting_on q b.state.replies ≡ []))

pub record Off (q : ℕ) (closing : Bool) (ws : Option Reply) (b : Sofar) : Type 0 where
  pub off : is_off closing (role_of b.state q) ≡ true
  pub put : OffPut q ws b

-- lists

not_empty : (xs : List Reply) (r : Reply) (ys : List Reply) → xs ++ r ∷ ys ≡ [] → ⊥
not_empty [] r ys is = cc
not_empty (x ∷ xs) r ys is = cc

alone : (xs : List Reply) (r : Reply) (ys : List Reply) (s : Reply) → xs ++ r ∷ ys ≡ s ∷ [] → (xs ≡ []) × (r ≡ s) × (ys ≡ [])
alone [] r ys s is = (refl, cc, cc)
alone (x ∷ xs) r ys s is = absurd (not_empty xs r ys (tail is))
  where
    tail : x ∷ (xs ++ r ∷ ys) ≡ s ∷ [] → xs ++ r ∷ ys ≡ []
    tail same = cc

pub all_each : {X : Type 0} (P : X → Type 0) → ((x : X) → P x) → (xs : List X) → AllByRecursion P xs
all_each P each [] = tt
all_each P each (x ∷ xs) = (each x, all_each P each xs)

-- what a connection that ended leaves, at which end it may be
pub record Ended (conn : ℕ) (b c : Sofar) : Type 0 where
  pub conns : c.state.conns ≡ (without_conn conn b.state).conns
  pub frames : c.outs.frames ≡ b.outs.frames
  pub replies : c.state.replies ≡ (without_conn conn b.state).replies

pub forgot : (ending : Ending) (conn : ℕ) (b : Sofar) → Ended conn b (cuts_if ending conn (becomes (without_conn conn) b))
forgot There conn b = record { conns = refl; frames = refl; replies = refl }
forgot Here conn b = record { conns = refl; frames = refl; replies = refl }

pub broke : (ending : Ending) (app now conn : ℕ) (b : Sofar) → Ended conn b (cuts_if ending conn (end_breaks (Some app) now (becomes (without_conn conn) b)))
broke ending app now conn b = go ending (is_normal (link_of (without_conn conn b.state) app))
  where
    go : (e : Ending) (normal : Bool) → Ended conn b (cuts_if e conn (becomes (with_event app now event.Ended) (breaks_if normal app now (becomes (without_conn conn) b))))
    go There true = record { conns = refl; frames = refl; replies = refl }
    go There false = record { conns = refl; frames = refl; replies = refl }
    go Here true = record { conns = refl; frames = refl; replies = refl }
    go Here false = record { conns = refl; frames = refl; replies = refl }

-- a change that leaves it
pub off_beside : (q : ℕ) (closing : Bool) (ws : Option Reply) (b c : Sofar) → Beside q b c → c.state.synced ≡ b.state.synced → Off q closing ws b → Off q closing ws c
off_beside q closing ws b c x same h = record { off = ap (is_off closing) x.role ∙ h.off; put = go h.put }
  where
    waits : (waiting_on q b.state.replies ≡ []) ⊎ (waiting_on q b.state.replies ≡ listed ws) → (waiting_on q c.state.replies ≡ []) ⊎ (waiting_on q c.state.replies ≡ listed ws)
    waits (inl none) = inl (x.waits ∙ none)
    waits (inr is) = inr (x.waits ∙ is)

    go : OffPut q ws b → OffPut q ws c
    go (inl silent) = inl (x.put ∙ silent.0, waits silent.1)
    go (inr spoke) =
        inr (
          record {
            reply = spoke.0.reply;
            waited = spoke.0.waited;
            says = spoke.0.says;
            synced = subst (λ (n : ℕ). may_leave n spoke.0.reply ≡ true) (sym same) spoke.0.synced;
            put = x.put ∙ spoke.0.put;
          },
          x.waits ∙ spoke.1,
        )

module _ (q : ℕ) (closing : Bool) (ws : Option Reply) where
  -- no session has it
  pub off_others : (b : Sofar) → Differ b.state.conns → Off q closing ws b → (s : ℕ) → HasOther q b.state.conns s
  off_others b differ h s its = false≢true (ap (is_off closing) (sym (bound_role s b.state.conns q differ its)) ∙ h.off)

  pub off_apart : (r : Role) (n : ℕ) (b : Sofar) → is_off closing (Some r) ≡ false → role_of b.state n ≡ Some r → Off q closing ws b → n ≢ q
  off_apart r n b on role h same = false≢true (sym on ∙ ap (is_off closing) (sym role ∙ ap (role_of b.state) same) ∙ h.off)

  -- it goes
  pub off_gone : (b c : Sofar) → Ended q b c → c.state.synced ≡ b.state.synced → Off q closing ws b → Off q closing ws c
  off_gone b c ended same h = record {
    off = ap (is_off closing) (ap (role_at q) ended.conns ∙ role_gone q b.state.conns);
    put = go h.put;
  }
    where
      none : waiting_on q c.state.replies ≡ []
      none = ap (waiting_on q) ended.replies ∙ waits_gone q b.state

      go : OffPut q ws b → OffPut q ws c
      go (inl silent) = inl (ap (put_on q) ended.frames ∙ silent.0, inl none)
      go (inr spoke) =
          inr (
            record {
              reply = spoke.0.reply;
              waited = spoke.0.waited;
              says = spoke.0.says;
              synced = subst (λ (n : ℕ). may_leave n spoke.0.reply ≡ true) (sym same) spoke.0.synced;
              put = ap (put_on q) ended.frames ∙ spoke.0.put;
            },
            none,
          )

  -- a session that is closed
  off_silenced : (s : ℕ) (b : Sofar) → Off q closing ws b → Off q closing ws (becomes (silenced s) b)
  off_silenced s b h = record { off = h.off; put = go h.put }
    where
      p : Reply → Bool
      p = is_reply_elsewhere (says_to s)

      fewer : (o : Option Reply) → (filter p (listed o) ≡ []) ⊎ (filter p (listed o) ≡ listed o)
      fewer None = inl refl
      fewer (Some r) = by (p r)
        where
          by : (b : Bool) → (cond b (r ∷ []) [] ≡ []) ⊎ (cond b (r ∷ []) [] ≡ r ∷ [])
          by true = inr refl
          by false = inl refl

      left : (waiting_on q (silenced s b.state).replies) ≡ filter p (waiting_on q b.state.replies)
      left = waits_left q p b.state.replies

      waits : (waiting_on q b.state.replies ≡ []) ⊎ (waiting_on q b.state.replies ≡ listed ws) → (waiting_on q (silenced s b.state).replies ≡ []) ⊎ (waiting_on q (silenced s b.state).replies ≡ listed ws)
      waits (inl none) = inl (left ∙ ap (filter p) none)
      waits (inr is) = by (fewer ws)
        where
          by : (filter p (listed ws) ≡ []) ⊎ (filter p (listed ws) ≡ listed ws) → (waiting_on q (silenced s b.state).replies ≡ []) ⊎ (waiting_on q (silenced s b.state).replies ≡ listed ws)
          by (inl none) = inl (left ∙ ap (filter p) is ∙ none)
          by (inr same) = inr (left ∙ ap (filter p) is ∙ same)

      go : OffPut q ws b → OffPut q ws (becomes (silenced s) b)
      go (inl silent) = inl (silent.0, waits silent.1)
      go (inr spoke) = inr (spoke.0, left ∙ ap (filter p) spoke.1)

-- an Open for another connection
pub beside_opens : (q app conn now : ℕ) (b : Sofar) → conn ≢ q → ((s : ℕ) → HasOther q b.state.conns s) → Beside q b (opens app conn now b)
beside_opens q app conn now b apart others = go (beside_appends q e (writes (act.Enter b.state.server e) b) (all_each (λ (y : Noted). HasOther q b.state.conns y.session) (λ y. others y.session) (touched (spans_of b.state e) b.state.noted)))
  where
    e : Entry
    e = OpenEntry (length b.state.order + 1) app

    go : Beside q (writes (act.Enter b.state.server e) b) (enters e b) → Beside q b (opens app conn now b)
    go x = record {
      role = role_other conn q (Bound (length b.state.order + 1)) (enters e b).state.conns (λ same. apart (sym same)) ∙ x.role;
      put = x.put;
      waits = waits_there q (enters e b).state.replies _ (ne_eqb conn q apart) ∙ x.waits;
    }

-- what a Close makes of the session's connection, where it has another
pub beside_parts : (q : ℕ) (cause : ShutCause) (o : Option ℕ) (s : ℕ) (b : Sofar) → (o ≡ Some q → ⊥) → Beside q b (parts_from cause o s b)
beside_parts q cause o s b apart = go cause
  where
    closing : (p : Option ℕ) → (p ≡ Some q → ⊥) → Beside q b (closing_on p s b)
    closing None other = beside_same q b
    closing (Some n) other = beside_role q n (Closing s) b (λ same. other (ap Some same))

    go : (c : ShutCause) → Beside q b (parts_from c o s b)
    go (Trouble time) = closing o apart
    go Replaced = beside_dropped q o b apart
    go (Round time) = closing o apart

-- a Close leaves what is synced
pub close_synced : (s : ℕ) (cause : ShutCause) (b : Sofar) → (with_close s cause b).state.synced ≡ b.state.synced
close_synced s cause b = ap (λ (n : DataState). n.synced) (appends_state (Closed s) (becomes (silenced s) (writes (act.Shut b.state.server s cause) b))).state

module _ (l : Layout) (p : Plain) (d k : ℕ) (t : Coming) (W : Caller → Type 0) (q : ℕ) (closing : Bool) (ws : Option Reply) (resets : (r : Reply) → ws ≡ Some r → SaysReset q r)
    (no_tick : t.input ≡ data_in.Tick → ⊥) (no_conn : t.input ≡ data_in.Connected q → ⊥) where
  abbrev pub OffAt : Sofar → Type 0
  OffAt b = Off q closing ws b

  off_leaves : (before : List Reply) (r : Reply) (behind : List Reply) (b : Sofar) → b.state.replies ≡ before ++ r ∷ behind → may_leave b.state.synced r ≡ true
      → ((s : ℕ) → HasOther q b.state.conns s) → (leaves r.says (becomes (with_replies (before ++ behind)) b)).state.synced ≡ b.state.synced → OffAt b
      → OffAt (leaves r.says (becomes (with_replies (before ++ behind)) b))
  off_leaves before r behind b its synced others same h = go (says_on q r.says) refl
    where
      c : Sofar
      c = becomes (with_replies (before ++ behind)) b

      e : Sofar
      e = leaves r.says c

      split : (m : Bool) → says_on q r.says ≡ m → waiting_on q b.state.replies ≡ waiting_on q before ++ cond m (r ∷ waiting_on q behind) (waiting_on q behind)
      split m is =
          ap (waiting_on q) its ∙ filter-append (λ (x : Reply). says_on q x.says) before (r ∷ behind)
          ∙ ap (λ (t : Bool). waiting_on q before ++ cond t (r ∷ waiting_on q behind) (waiting_on q behind)) is

      rest : waiting_on q (before ++ behind) ≡ waiting_on q before ++ waiting_on q behind
      rest = filter-append (λ (x : Reply). says_on q x.says) before behind

      -- it is the one that waited
      its_turn : (s : Reply) → ws ≡ Some s → says_on q r.says ≡ true → put_on q b.outs.frames ≡ [] → (waiting_on q before ≡ []) × (r ≡ s) × (waiting_on q behind ≡ []) → OffAt e
      its_turn s is on silent one = out (resets s is)
        where
          out : SaysReset q s → OffAt e
          out x =
              subst (λ (y : Says). OffAt (leaves y c)) (sym says)
              (record {
                off = h.off;
                put = inr (
                  record {
                    reply = s;
                    waited = is;
                    says = x;
                    synced = subst (λ (y : Reply). may_leave b.state.synced y ≡ true) one.1 synced;
                    put = put_here q b.outs.frames _ ∙ ap (λ (fs : List DownFrame). fs ++ record { seq = 0; ack = 0; message = down.Reset x.session x.place } ∷ []) silent;
                  },
                  rest ∙ ap (λ (xs : List Reply). xs ++ waiting_on q behind) one.0 ∙ one.2,
                );
              })
            where
              says : r.says ≡ ResetOf q x.session x.place
              says = ap (λ (y : Reply). y.says) one.1 ∙ x.its

      turn : (o : Option Reply) → ws ≡ o → says_on q r.says ≡ true → put_on q b.outs.frames ≡ [] → waiting_on q b.state.replies ≡ listed o → OffAt e
      turn None is on silent w = absurd (not_empty (waiting_on q before) r (waiting_on q behind) (sym (split true on) ∙ w))
      turn (Some s) is on silent w = its_turn s is on silent (alone (waiting_on q before) r (waiting_on q behind) s (sym (split true on) ∙ w))

      leaving : says_on q r.says ≡ true → OffPut q ws b → OffAt e
      leaving on (inl silent) = by silent.1
        where
          by : (waiting_on q b.state.replies ≡ []) ⊎ (waiting_on q b.state.replies ≡ listed ws) → OffAt e
          by (inl none) = absurd (not_empty (waiting_on q before) r (waiting_on q behind) (sym (split true on) ∙ none))
          by (inr is) = turn ws refl on silent.0 is
      leaving on (inr spoke) = absurd (not_empty (waiting_on q before) r (waiting_on q behind) (sym (split true on) ∙ spoke.1))

      go : (m : Bool) → says_on q r.says ≡ m → OffAt e
      go true on = leaving on h.put
      go false out =
          off_beside q closing ws b e
          (beside_then q b c e (record { role = refl; put = refl; waits = rest ∙ sym (split false out) }) (beside_leaves q r.says c out others)) same h

  pub off_replies : (at : ℕ) (says : Says) (b : Sofar) → RepliesMay t at says b → says_on q says ≡ false
  off_replies at (NewWelcome conn session) b may = absurd may
  off_replies at (EpochWelcome conn session kept) b may = absurd may
  off_replies at (ResetOf conn session place) b may = absurd (no_tick may.came)
  off_replies at (GrantOf session ticket number) b may = absurd may
  off_replies at (AnswerOf session about job number place sum) b may = refl

  -- What each small change makes of it.
  pub off_piece : (x : Piece) (b : Sofar) → MayMake t x b → Along l p d k t W b → OffAt b → OffAt (makes t.now x b)
  off_piece x b may along h = go x may
    where
      others : (s : ℕ) → HasOther q b.state.conns s
      others = off_others q closing ws b along.ends.links.differ h

      new_apart : (n : ℕ) → role_of b.state n ≡ Some New → n ≢ q
      new_apart n role = off_apart q closing ws New n b refl role h

      conn_apart : (s : ℕ) → conn_of b.state s ≡ Some q → ⊥
      conn_apart s its = others s its

      by : (y : Piece) → MayMake t y b → Beside q b (makes t.now y b) → OffAt (makes t.now y b)
      by y m beside = off_beside q closing ws b (makes t.now y b) beside (does_piece t y b m).synced h

      goes : (n : ℕ) (y : Piece) → MayMake t y b → Ended n b (makes t.now y b) → (n ≢ q → Beside q b (makes t.now y b)) → OffAt (makes t.now y b)
      goes n y m ended beside = or (same_or n q)
        where
          or : (n ≡ q) ⊎ (n ≢ q) → OffAt (makes t.now y b)
          or (inl same) = off_gone q closing ws b (makes t.now y b) (subst (λ (i : ℕ). Ended i b (makes t.now y b)) same ended) (does_piece t y b m).synced h
          or (inr apart) = by y m (beside apart)

      go : (y : Piece) → MayMake t y b → OffAt (makes t.now y b)
      go (Accepts conn) m = by (Accepts conn) m (beside_conn q conn b (λ same. no_conn (m.came ∙ ap data_in.Connected same)))
      go (Forgets ending conn) m =
          goes conn (Forgets ending conn) m (forgot ending conn b)
          (λ apart. beside_then q b (becomes (without_conn conn) b) (makes t.now (Forgets ending conn) b) (beside_gone q conn b apart) (beside_cut q ending conn (becomes (without_conn conn) b)))
      go (Breaks ending conn session app) m =
          goes conn (Breaks ending conn session app) m (broke ending app t.now conn b)
          (λ apart.
          beside_then q b (becomes (without_conn conn) b) (makes t.now (Breaks ending conn session app) b) (beside_gone q conn b apart)
          (beside_then q (becomes (without_conn conn) b) (end_breaks (Some app) t.now (becomes (without_conn conn) b)) (makes t.now (Breaks ending conn session app) b)
          (beside_breaks q app t.now (becomes (without_conn conn) b)) (beside_cut q ending conn (end_breaks (Some app) t.now (becomes (without_conn conn) b)))))
      go (Dials app dial) m = by (Dials app dial) m (record { role = refl; put = refl; waits = refl })
      go (Waits app conn) m = by (Waits app conn) m (waits (beside_dropped q (waiting_conn b.state app) b older))
        where
          older : waiting_conn b.state app ≡ Some q → ⊥
          older its =
              off_apart q closing ws Waiting q b refl (waiting_role app q b.state.conns b.state.order b.state.callers along.ends.callers.each its) h refl

          waits : Beside q b (drops_conn (waiting_conn b.state app) b) → Beside q b (makes t.now (Waits app conn) b)
          waits x = record {
            role = role_other conn q Waiting (drops_conn (waiting_conn b.state app) b).state.conns (λ same. new_apart conn m.is_new (sym same)) ∙ x.role;
            put = x.put;
            waits = x.waits;
          }
      go (Opens app conn) m = by (Opens app conn) m (beside_opens q app conn t.now b (new_apart conn m.is_new) others)
      go (OpensNext app conn) m = by (OpensNext app conn) m (at (beside_opens q app conn t.now (becomes next_caller b) (off_apart q closing ws Waiting conn b refl waits h) others))
        where
          waits : role_of b.state conn ≡ Some Waiting
          waits = (subst (λ (cs : List Caller). CallersOf b.state.conns b.state.order cs) m.next along.ends.callers).each.0.0

          at : Beside q (becomes next_caller b) (makes t.now (OpensNext app conn) b) → Beside q b (makes t.now (OpensNext app conn) b)
          at x = record { role = x.role; put = x.put; waits = x.waits }
      go (Resumes app session conn) m = by (Resumes app session conn) m (resumed_on (beside_dropped q (conn_of b.state session) b (conn_apart session)))
        where
          resumed_on : Beside q b (drops_conn (conn_of b.state session) b) → Beside q b (makes t.now (Resumes app session conn) b)
          resumed_on x = record {
            role = role_other conn q (Bound session) (drops_conn (conn_of b.state session) b).state.conns (λ same. new_apart conn m.is_new (sym same)) ∙ x.role;
            put = x.put;
            waits = x.waits;
          }
      go (GoesOn session conn taken) m = by (GoesOn session conn taken) m (beside_goes_on q session conn taken b (off_apart q closing ws (Bound session) conn b refl m.bound h))
      go (ComesAgain session conn kept) m =
          by (ComesAgain session conn kept) m
          (record { role = refl; put = refl; waits = waits_there q b.state.replies _ (ne_eqb conn q (off_apart q closing ws (Bound session) conn b refl m.bound h)) })
      go (AwaitsReset session conn at) m =
          by (AwaitsReset session conn at) m
          (record {
            role = role_other conn q (Closing session) b.state.conns (λ same. new_apart conn m.is_new (sym same));
            put = refl;
            waits = waits_there q b.state.replies _ (ne_eqb conn q (new_apart conn m.is_new));
          })
      go (Closes session app cause) m =
          closed (off_beside q closing ws z (with_close session cause b) enters_close (close_synced session cause b) (off_silenced q closing ws session (writes (act.Shut b.state.server session cause) b) (record { off = h.off; put = h.put })))
        where
          z : Sofar
          z = becomes (silenced session) (writes (act.Shut b.state.server session cause) b)

          enters_close : Beside q z (with_close session cause b)
          enters_close = at (beside_appends q (Closed session) z (all_each (λ (y : Noted). HasOther q b.state.conns y.session) (λ y. others y.session) (touched (spans_of z.state (Closed session)) z.state.noted)))
            where
              at : Beside q z (appends (Closed session) z) → Beside q z (with_close session cause b)
              at x = record { role = x.role; put = x.put; waits = x.waits }

          closed : OffAt (with_close session cause b) → OffAt (makes t.now (Closes session app cause) b)
          closed g =
              off_beside q closing ws (with_close session cause b) (makes t.now (Closes session app cause) b)
              (at (beside_parts q cause (conn_of b.state session) session (with_close session cause b) (conn_apart session)))
              ((does_piece t (Closes session app cause) b m).synced ∙ sym (close_synced session cause b)) g
            where
              at : Beside q (with_close session cause b) (parts_from cause (conn_of b.state session) session (with_close session cause b))
                  → Beside q (with_close session cause b) (makes t.now (Closes session app cause) b)
              at x = record { role = x.role; put = x.put; waits = x.waits }
      go (Acknowledges conn session up) m = by (Acknowledges conn session up) m (record { role = refl; put = refl; waits = refl })
      go (Takes conn session up) m = by (Takes conn session up) m (record { role = refl; put = refl; waits = refl })
      go (TakesDone conn session up) m = by (TakesDone conn session up) m (record { role = refl; put = refl; waits = refl })
      go (Enters e) m =
          by (Enters e) m
          (at (beside_appends q e (writes (act.Enter b.state.server e) b)
          (all_each (λ (y : Noted). HasOther q b.state.conns y.session) (λ y. others y.session) (touched (spans_of b.state e) b.state.noted))))
        where
          at : Beside q (writes (act.Enter b.state.server e) b) (makes t.now (Enters e) b) → Beside q b (makes t.now (Enters e) b)
          at x = record { role = x.role; put = x.put; waits = x.waits }
      go (Fetches session run block) m = by (Fetches session run block) m (at (beside_puts q session (down.Block (head_of b.state session) block) b (others session)))
        where
          at : Beside q b (puts session (down.Block (head_of b.state session) block) b) → Beside q b (makes t.now (Fetches session run block) b)
          at x = record { role = x.role; put = x.put; waits = x.waits }
      go (PutsNormal app session) m = by (PutsNormal app session) m (beside_puts q session (down.Normal (head_of b.state session)) b (others session))
      go (PutsAck session) m = by (PutsAck session) m (beside_puts q session (down.Ack (head_of b.state session)) b (others session))
      go (Replies at says) m = by (Replies at says) m (record { role = refl; put = refl; waits = waits_there q b.state.replies _ (off_replies at says b m) })
      go (Leaves before r behind) m = off_leaves before r behind b m.its m.synced others (does_piece t (Leaves before r behind) b m).synced h
      go (Bares session conn) m = by (Bares session conn) m (beside_tells q session conn 0 down.Bare b (λ same. others session (m.its ∙ ap Some same)))
      go (Locks call) m = by (Locks call) m (beside_calls q call b)
      go RoundEnds m = by RoundEnds m (beside_round q t.now b)
      go (Ticks app session) m = by (Ticks app session) m (record { role = refl; put = refl; waits = refl })
