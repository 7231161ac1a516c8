-- What the end of a round gives the window of a session: Normal once; and what follows each frame, and what a save makes.
use Rattle.std.proofs.Common.{◌≡◌, ◌≢◌, ◌≤◌, ◌<◌, ◌⊎◌, inl, inr, ℕ, zero, suc, ◌+◌, Bool, true, false, List, [], ◌∷◌, ◌++◌, length, Option, Some, None, is_some, refl, sym, ◌∙◌, ap, subst, arith}
use Rattle.std.specs.List.{range_with_len}
use Rattle.std.proofs.lemmas.Bool.{false≢true}
use Rattle.std.proofs.lemmas.List.{length-append}
use Rattle.plain_orders.specs.declared.entry.Entry.{Entry}
use Rattle.plain_orders.specs.declared.entry.Entry.TheVariants.{Opened}
use Rattle.plain_orders.specs.Entries.{live_session}
use Rattle.plain_orders.specs.Ordered.{IsOrdered}
use Rattle.plain_orders.proofs.LiveSessions.{OneLive, ordered_one_live}
use Rattle.ecp_messages.specs.declared.down.Down.{Down}
use Rattle.ecp_messages.specs.declared.down.Down.TheVariants as down
use Rattle.ecp_messages.specs.declared.front.Front.{Front}
use Rattle.recovery_round.specs.RoundWords.{Round}
use Rattle.data_rules.specs.DataState.{DataState}
use Rattle.data_rules.specs.declared.limits.TheConstants.{APP_LIMIT}
use Rattle.data_rules.specs.declared.rows.Caller.{Caller}
use Rattle.data_rules.specs.declared.rows.LiveEnd.{LiveEnd}
use Rattle.data_rules.specs.declared.rows.Role.{Role}
use Rattle.data_rules.specs.Conns.{role_of}
use Rattle.data_rules.specs.Frames.{bares_role, settled}
use Rattle.data_rules.specs.Leaving.{flushed}
use Rattle.data_rules.specs.Opening.{ends_among, is_round_over, live_ends, opens, opens_all, round_ends_if, rounds, with_end}
use Rattle.data_rules.specs.Puts.{Sofar, begun, head_of, puts}
use Rattle.data_rules.specs.Saving.{acks, acks_one, closed_in, part_saved, releases, releases_all, savers}
use Rattle.data_rules.specs.Step.{saved}
use Rattle.cluster_runs.specs.Sent.{Lane}
use Rattle.cluster_invariant.proofs.PieceKinds.{Releases, ends_back}
use Rattle.cluster_invariant.proofs.PieceMay.{synced_to}
use Rattle.cluster_invariant.proofs.PiecesOfRounds.{back_written, calls_with, ends_aside, ends_told, normals, only_normals, opens_round}
use Rattle.cluster_invariant.proofs.PiecesOfSteps.{synced_state}
use Rattle.cluster_invariant.proofs.PutLaws.{only_flushed, only_puts}
use Rattle.data_pieces.proofs.PieceFacts.{opens_facts}
use Rattle.data_puts.proofs.StepAwaits.{bared_only}
use Rattle.link_kept.proofs.WindowPieces.{SameWindows, same_calls, same_round}
use Rattle.link_kept.proofs.WindowsGo.{same_or}
use Rattle.rounds_server.proofs.Gave.{GaveIn, GaveTo, LeftByPlain, gave_bares, gave_flushed, gave_follows, gave_opens, gave_plain, gave_puts, gave_same}

-- Before a round ends T holds of what a session was given, and then U, which follows of T, and which a Normal makes of it too.
module _ (lane : Lane) (s : ℕ) (T U : List Down → ℕ → Type 0) (plain : LeftByPlain T) (still : LeftByPlain U)
    (also : (ms : List Down) (n : ℕ) → T ms n → U ms n) (normal : (front : Front) (ms : List Down) (n : ℕ) → T ms n → U (ms ++ down.Normal front ∷ []) n)
    (first : ℕ) (new : first < s → (lane.down ≡ []) × U [] 0) where
  -- the sessions are told

  -- a session that is none of these ends' isn't told
  none_told : (n a : ℕ) (es : List Entry) → ((app : ℕ) → a ≤ app → live_session es app ≡ Some s → ⊥) → (b : Sofar) → GaveTo lane s U b.state
      → GaveTo lane s U (normals (ends_among (range_with_len a n) es) b).state
  none_told zero a es none b h = h
  none_told (suc n) a es none b h = go (live_session es a) refl (none_told n (a + 1) es (λ app above. none app (omega (arith, above))))
    where
      rest : List LiveEnd
      rest = ends_among (range_with_len (a + 1) n) es

      go : (o : Option ℕ) → live_session es a ≡ o → ((c : Sofar) → GaveTo lane s U c.state → GaveTo lane s U (normals rest c).state)
          → GaveTo lane s U (normals (with_end o a rest) b).state
      go None its more = more b h
      go (Some q) its more =
          more (puts q (down.Normal (head_of b.state q)) b)
          (gave_puts lane s U U q (down.Normal (head_of b.state q)) b
          (λ same. absurd (none a (omega arith) (its ∙ ap (λ (k : ℕ). Some k) (sym same)))) (λ apart ms k is. is) h)

  same_app : (a b : ℕ) → Some a ≡ Some b → a ≡ b
  same_app a b same = cc

  -- each session is told at most once
  once_told : (n a : ℕ) (es : List Entry) → OneLive es → (b : Sofar) → GaveTo lane s T b.state
      → GaveTo lane s U (normals (ends_among (range_with_len a n) es) b).state
  once_told zero a es one b h = gave_follows lane s T U b.state also h
  once_told (suc n) a es one b h = go (live_session es a) refl (once_told n (a + 1) es one)
    where
      rest : List LiveEnd
      rest = ends_among (range_with_len (a + 1) n) es

      by : (q : ℕ) → live_session es a ≡ Some q → ((c : Sofar) → GaveTo lane s T c.state → GaveTo lane s U (normals rest c).state) → (s ≡ q) ⊎ (s ≢ q)
          → GaveTo lane s U (normals rest (puts q (down.Normal (head_of b.state q)) b)).state
      by q its more (inl same) =
          none_told n (a + 1) es (λ app above has. absurd (omega (arith, above, at app has))) (puts q (down.Normal (head_of b.state q)) b)
          (gave_puts lane s T U q (down.Normal (head_of b.state q)) b (λ is. normal (head_of b.state q)) (λ apart. absurd (apart same)) h)
        where
          at : (app : ℕ) → live_session es app ≡ Some s → app ≡ a
          at app has = same_app app a (sym (one.has_app app s has) ∙ one.has_app a s (its ∙ ap (λ (k : ℕ). Some k) (sym same)))
      by q its more (inr apart) =
          more (puts q (down.Normal (head_of b.state q)) b)
          (gave_puts lane s T T q (down.Normal (head_of b.state q)) b (λ same. absurd (apart same)) (λ is ms k at. at) h)

      go : (o : Option ℕ) → live_session es a ≡ o → ((c : Sofar) → GaveTo lane s T c.state → GaveTo lane s U (normals rest c).state)
          → GaveTo lane s U (normals (with_end o a rest) b).state
      go None its more = more b h
      go (Some q) its more = by q its more (same_or s q)

  -- the Hellos that waited open

  opened_all : (cs : List Caller) (now : ℕ) (b : Sofar) → first ≤ length b.state.order → GaveTo lane s U b.state → GaveTo lane s U (opens_all cs now b).state
  opened_all [] now b low h = h
  opened_all (c ∷ cs) now b low h =
      opened_all cs now (opens c.app c.conn now b)
      (omega (
        arith,
        low,
        ap (λ (es : List Entry). length es) (opens_facts c.app c.conn now b).order,
        length-append b.state.order (Opened (length b.state.order + 1) c.app ∷ []),
      ))
      (gave_opens lane s U still c.app c.conn now b (λ same. new (omega (arith, same, low))) h)

  all_open_round : (cs : List Caller) (now : ℕ) (b : Sofar) → (opens_all cs now b).state.round ≡ b.state.round
  all_open_round [] now b = refl
  all_open_round (c ∷ cs) now b = all_open_round cs now (opens c.app c.conn now b) ∙ opens_round c.app c.conn now b

  -- What holds then: U, and T still where a round is on.
  pub record Told (c : Sofar) : Type 0 where
    pub once : GaveTo lane s U c.state
    pub in_round : is_some c.state.round ≡ true → GaveTo lane s T c.state

  -- A round that is over ends.
  pub rounds_told : (now : ℕ) (b : Sofar) → IsOrdered b.state.order → first ≤ length b.state.order → GaveTo lane s T b.state → Told (rounds now b)
  rounds_told now b ordered low h = go (is_round_over b.state b.state.round)
    where
      ends : List LiveEnd
      ends = live_ends b.state.order

      back : Sofar
      back = ends_back ends now (back_written b)

      told : Sofar
      told = calls_with [] (normals ends back)

      told_order : told.state.order ≡ b.state.order
      told_order = ap (λ (d : DataState). d.order) (only_normals ends back).state ∙ (ends_aside ends now).order (back_written b)

      told_round : told.state.round ≡ None
      told_round = ap (λ (d : DataState). d.round) (only_normals ends back).state ∙ (ends_aside ends now).round (back_written b)

      once : GaveTo lane s U told.state
      once = once_told APP_LIMIT 0 b.state.order (ordered_one_live b.state.order ordered) back (gave_same lane s T b back (same_round ends now b) h)

      ended : Told (opens_all b.state.callers now told)
      ended = record {
        once = opened_all b.state.callers now told (omega (arith, low, ap (λ (es : List Entry). length es) told_order)) once;
        in_round = λ on. absurd (false≢true (sym (ap (λ (o : Option Round). is_some o) (all_open_round b.state.callers now told ∙ told_round)) ∙ on));
      }

      go : (over : Bool) → Told (round_ends_if over now b)
      go true = subst (λ (c : Sofar). Told (opens_all b.state.callers now c)) (sym (ends_told ends now b)) ended
      go false = record { once = gave_follows lane s T U b.state also h; in_round = λ on. h }

  -- what follows

  flushed_told : (b : Sofar) → Told b → Told (flushed b)
  flushed_told b h = record {
    once = gave_flushed lane s U still b h.once;
    in_round = λ on. gave_flushed lane s T plain b (h.in_round (sym (ap (λ (d : DataState). is_some d.round) (only_flushed b).state) ∙ on));
  }

  bares_told : (r : Option Role) (b : Sofar) → Told b → Told (bares_role r b)
  bares_told r b h = record {
    once = gave_bares lane s U still r b h.once;
    in_round = λ on. gave_bares lane s T plain r b (h.in_round (sym (ap (λ (o : Option Round). is_some o) (bared_only r b).round) ∙ on));
  }

  -- What follows each frame.
  pub settled_told : (conn now : ℕ) (b : Sofar) → IsOrdered b.state.order → first ≤ length b.state.order → GaveTo lane s T b.state → Told (settled conn now b)
  settled_told conn now b ordered low h =
      bares_told (role_of (flushed (rounds now b)).state conn) (flushed (rounds now b)) (flushed_told (rounds now b) (rounds_told now b ordered low h))

  -- saves

  abbrev Before : List Entry → Sofar → Type 0
  Before es b = GaveIn lane s T es b

  before_released : (es : List Entry) (qs : List ℕ) (b : Sofar) → Before es b → Before es (releases_all qs b)
  before_released es [] b h = h
  before_released es (q ∷ qs) b h = before_released es qs (releases q b) (go (same_calls (Releases q) b))
    where
      go : SameWindows b (releases q b) → Before es (releases q b)
      go same = record { order = same.order ∙ h.order; given = gave_same lane s T b (releases q b) same h.given }

  before_flushed : (es : List Entry) (b : Sofar) → Before es b → Before es (flushed b)
  before_flushed es b h = record { order = ap (λ (d : DataState). d.order) (only_flushed b).state ∙ h.order; given = gave_flushed lane s T plain b h.given }

  before_acked : (es : List Entry) (qs : List ℕ) (b : Sofar) → Before es b → Before es (acks qs b)
  before_acked es [] b h = h
  before_acked es (q ∷ qs) b h =
      before_acked es qs (acks_one q b) (record {
        order = ap (λ (d : DataState). d.order) (only_puts q (down.Ack (head_of b.state q)) b).state ∙ h.order;
        given = gave_plain lane s T plain q (down.Ack (head_of b.state q)) b refl h.given;
      })

  -- A save.
  pub saved_told : (old : DataState) (upto now : ℕ) → IsOrdered old.order → first ≤ length old.order → GaveTo lane s T old → Told (saved upto now (begun old))
  saved_told old upto now ordered low h =
      go (before_acked old.order acked (flushed released)
      (before_flushed old.order released (before_released old.order closed (synced_to upto (begun old)) start)))
    where
      closed : List ℕ
      closed = closed_in (part_saved old upto)

      acked : List ℕ
      acked = savers old.order (part_saved old upto)

      released : Sofar
      released = releases_all closed (synced_to upto (begun old))

      start : Before old.order (synced_to upto (begun old))
      start = record {
        order = ap (λ (d : DataState). d.order) (synced_state upto (begun old));
        given = subst (λ (d : DataState). GaveTo lane s T d) (sym (synced_state upto (begun old))) h;
      }

      go : Before old.order (acks acked (flushed released)) → Told (rounds now (acks acked (flushed released)))
      go b =
          rounds_told now (acks acked (flushed released)) (subst IsOrdered (sym b.order) ordered)
          (omega (arith, low, ap (λ (es : List Entry). length es) b.order)) b.given
