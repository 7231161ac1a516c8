-- What a data server counts as taken where a frame comes on the connection of a live session: the next message, or nothing of it.
use Rattle.std.proofs.Common.{◌≡◌, ◌≤◌, ◌⊎◌, inl, inr, ◌+◌, ℕ, Bool, true, false, length, Option, Some, None, refl, sym, ◌∙◌, ap, subst, arith}
use Rattle.std.specs.Prelude.{Ok, Err, Result}
use Rattle.plain_orders.specs.Entries.{live}
use Rattle.link_window.specs.declared.window.Taken.{Taken}
use Rattle.link_window.specs.declared.window.Taken.TheVariants.{Fresh, Repeat}
use Rattle.link_window.specs.declared.window.WindowError.{WindowError}
use Rattle.ecp_messages.specs.declared.down.Down.{Down}
use Rattle.ecp_messages.specs.declared.up.Up.{Up}
use Rattle.ecp_messages.specs.declared.up.Up.TheVariants as up
use Rattle.ecp_messages.specs.declared.up.UpFrame.{UpFrame}
use Rattle.end_words.specs.Windows.{Window, answers, owes_bare, with_ack, with_taken}
use Rattle.data_rules.specs.DataState.{DataState}
use Rattle.data_rules.specs.declared.data_in.DataIn.TheVariants as data_in
use Rattle.data_rules.specs.declared.rows.Kind.{Kind}
use Rattle.data_rules.specs.declared.rows.Kind.TheVariants.{Opening, Numbered, Unnumbered}
use Rattle.data_rules.specs.declared.rows.Role.{Role}
use Rattle.data_rules.specs.declared.rows.Role.TheVariants.{Bound, Closing, New, Waiting}
use Rattle.data_rules.specs.Closing.{unawaited}
use Rattle.data_rules.specs.Conns.{end_breaks, loses_conn, role_of, without_conn}
use Rattle.plain_orders.specs.Sessions.{app_in}
use Rattle.data_rules.specs.Frames.{Ends, TakesBare, TakesBound, TakesFrame, TakesNumbered, acknowledged, bares_role, kind_of, settled, took}
use Rattle.data_rules.specs.Leaving.{bare_on, bare_to, flushed}
use Rattle.data_rules.specs.Messages.{Takes as TakesMessage}
use Rattle.data_rules.specs.Opening.{rounds}
use Rattle.data_rules.specs.Puts.{Sofar, becomes, begun, body_of, conn_of, window_in, window_of}
use Rattle.data_rules.specs.Step.{FrameStep}
use Rattle.cluster_invariant.proofs.PieceMay.{ComesAgainMay, Coming, TakesMay}
use Rattle.cluster_invariant.proofs.Pieces.{Pieced, kept_by_pieces}
use Rattle.cluster_invariant.proofs.PiecesOfMessages.{is_done, made_of}
use Rattle.data_pieces.proofs.ConnPieces.{role_gone}
use Rattle.data_puts.proofs.StepAwaits.{bared_only, settled_anew, tick_of}
use Rattle.data_puts.proofs.TakenSame.{set_taken}
use Rattle.link_kept.proofs.Answers.{fresh_above, repeat_below}
use Rattle.link_kept.proofs.WindowLists.{set_here}
use Rattle.link_nodes.proofs.GoneGo.{IsGone, gone_breaks, gone_piece, gone_same}
use Rattle.link_nodes.proofs.TakenGo.{TakenIs, taken_piece, taken_same}

-- what follows each frame

tick_no_frame : (conn : ℕ) (f : UpFrame) → data_in.Tick ≡ data_in.Frame conn f → ⊥
tick_no_frame conn f is = cc

tick_no_conn : (conn : ℕ) → data_in.Tick ≡ data_in.Connected conn → ⊥
tick_no_conn conn is = cc

bared_conns : (r : Option Role) (b : Sofar) → (bares_role r b).state.conns ≡ b.state.conns
bared_conns r b = go r
  where
    by : (s conn : ℕ) (owed : Bool) → (bare_to owed s conn b).state.conns ≡ b.state.conns
    by s conn true = refl
    by s conn false = refl

    on : (s : ℕ) (o : Option ℕ) → (bare_on o s b).state.conns ≡ b.state.conns
    on s None = refl
    on s (Some conn) = by s conn (owes_bare (window_of b.state s))

    go : (q : Option Role) → (bares_role q b).state.conns ≡ b.state.conns
    go None = refl
    go (Some New) = refl
    go (Some Waiting) = refl
    go (Some (Bound s)) = on s (conn_of b.state s)
    go (Some (Closing s)) = refl

-- it counts nothing more
taken_settled : (s k conn now : ℕ) (b : Sofar) → TakenIs s k b → TakenIs s k (settled conn now b)
taken_settled s k conn now b h =
    taken_same s k (flushed (rounds now b)) (settled conn now b) (bared_only (role_of (flushed (rounds now b)).state conn) (flushed (rounds now b))).order
    ((bared_only (role_of (flushed (rounds now b)).state conn) (flushed (rounds now b))).taken s)
    (kept_by_pieces (tick_of b.state now) (TakenIs s k)
    (λ q c may is. taken_piece s k (tick_of b.state now) q c may (λ n f takes. tick_no_frame n f takes.on.came) (λ n kept again. absurd (tick_no_frame n again.came.came.up again.came.came.its)) is) b
    (flushed (rounds now b)) (settled_anew now b) h)

-- and a connection that went stays away
gone_settled : (q conn now : ℕ) (b : Sofar) → IsGone q b → IsGone q (settled conn now b)
gone_settled q conn now b h =
    gone_same q (flushed (rounds now b)) (settled conn now b) (bared_conns (role_of (flushed (rounds now b)).state conn) (flushed (rounds now b)))
    (kept_by_pieces (tick_of b.state now) (IsGone q) (λ x c may is. gone_piece q (tick_of b.state now) tick_no_conn x c may is) b (flushed (rounds now b)) (settled_anew now b) h)

ends_gone : (conn now : ℕ) (b c : Sofar) → Ends b conn now c → IsGone conn c
ends_gone conn now b c ends = subst (IsGone conn) (sym ends.after) (go (role_of b.state conn))
  where
    away : IsGone conn (becomes (without_conn conn) b)
    away = role_gone conn b.state.conns

    lost : (o : Option ℕ) → IsGone conn (end_breaks o now (becomes (without_conn conn) b))
    lost None = away
    lost (Some app) = gone_breaks conn app now (becomes (without_conn conn) b) away

    go : (r : Option Role) → IsGone conn (loses_conn r now (becomes (without_conn conn) b))
    go None = away
    go (Some New) = away
    go (Some Waiting) = away
    go (Some (Bound s)) = lost (app_in b.state.order s)
    go (Some (Closing s)) = away

-- a fresh message

module _ (old : DataState) (now conn s n : ℕ) (f : UpFrame) (bound : role_of old conn ≡ Some (Bound s)) (lives : live old.order s ≡ true) (within : s ≤ length old.order) (has : (window_of old s).taken ≡ n) where
  abbrev t : Coming
  t = record { old = old; now = now; input = data_in.Frame conn f }

  took_one : TakenIs s (n + 1) (took s f.ack (begun old))
  took_one = record {
    there = within;
    counted = λ is. ap (λ (w : Window Down). w.taken) (set_here old.windows s (with_taken (window_in old.windows s) f.ack)) ∙ ap (λ (k : ℕ). k + 1) has;
  }

  none_more : TakenIs s n (begun old)
  none_more = record { there = within; counted = λ is. has }

  -- nothing more of it is taken by what the message makes
  rest_taken : kind_of f.message ≡ Numbered → (c : Sofar) → Pieced t (took s f.ack (begun old)) c → TakenIs s (n + 1) c
  rest_taken kind c by =
      kept_by_pieces t (TakenIs s (n + 1))
      (λ q b may is. taken_piece s (n + 1) t q b may (λ m g takes. not_first b is takes.first) (λ m kept again. absurd (not_again b m kept again)) is) (took s f.ack (begun old)) c by took_one
    where
      not_first : (b : Sofar) → TakenIs s (n + 1) b → b ≡ begun old → ⊥
      not_first b is same = go (subst (TakenIs s (n + 1)) same is)
        where
          go : TakenIs s (n + 1) (begun old) → ⊥
          go at = absurd (omega (arith, at.counted lives, has))

      frame_is : (m : ℕ) (g : UpFrame) → data_in.Frame conn f ≡ data_in.Frame m g → f ≡ g
      frame_is m g is = cc

      not_again : (b : Sofar) (m kept : ℕ) → ComesAgainMay t s m kept b → ⊥
      not_again b m kept again =
          absurd (let both : Numbered ≡ Opening = sym kind ∙ ap (λ (g : UpFrame). kind_of g.message) (frame_is m again.came.came.up again.came.came.its) ∙ ap kind_of again.came.came.says in cc)

  fresh_taken : (c : Sofar) → TakesMay t conn s f (begun old) → TakesMessage f.message s (took s f.ack (begun old)) c → TakenIs s (n + 1) c
  fresh_taken c may made = go f.message refl made
    where
      others : (m : Up) → f.message ≡ m → is_done m ≡ false → TakesMessage m s (took s f.ack (begun old)) c → TakenIs s (n + 1) c
      others m says no_done takes = rest_taken may.kind c (made_of t conn s f (took s f.ack (begun old)) (record { came = refl; bound = bound }) may refl m says no_done c takes)

      go : (m : Up) → f.message ≡ m → TakesMessage m s (took s f.ack (begun old)) c → TakenIs s (n + 1) c
      go (up.Hello app dial) says takes = absurd takes
      go (up.Recover app q epoch taken dial) says takes = absurd takes
      go (up.Update w job txn op) says takes = others (up.Update w job txn op) says refl takes
      go (up.Add w job key amount) says takes = others (up.Add w job key amount) says refl takes
      go (up.Fetch key) says takes = others (up.Fetch key) says refl takes
      go (up.Ask ticket job mode key) says takes = others (up.Ask ticket job mode key) says refl takes
      go (up.Unlock job mode key) says takes = others (up.Unlock job mode key) says refl takes
      go (up.Cancel ticket) says takes = others (up.Cancel ticket) says refl takes
      go (up.Commit w job txn wanted) says takes = others (up.Commit w job txn wanted) says refl takes
      go (up.Rollback w job txn) says takes = others (up.Rollback w job txn) says refl takes
      go (up.Sync ticket) says takes = others (up.Sync ticket) says refl takes
      go up.Done says takes =
          subst (TakenIs s (n + 1)) (sym takes.after) (taken_same s (n + 1) (took s f.ack (begun old)) (becomes (unawaited s) (took s f.ack (begun old))) refl refl took_one)
      go (up.Claim job mode number at key) says takes = others (up.Claim job mode number at key) says refl takes
      go up.Bare says takes = absurd takes

-- The step of a frame, where what its number says is known: it is none, or the next.
module _ (old : DataState) (now conn s n k : ℕ) (f : UpFrame) (bound : role_of old conn ≡ Some (Bound s)) (lives : live old.order s ≡ true) (within : s ≤ length old.order) (has : (window_of old s).taken ≡ n)
    (number : ((f.seq ≡ 0) × (k ≡ n)) ⊎ ((kind_of f.message ≡ Unnumbered → ⊥) × ((f.seq ≡ n + 1) × (k ≡ n + 1)))) where
  -- as many as it says, or the connection went
  abbrev pub Counted : Sofar → Type 0
  Counted c = IsGone conn c ⊎ TakenIs s k c

  quiet : k ≡ n → TakenIs s k (acknowledged s f.ack (begun old))
  quiet same =
      subst (λ (i : ℕ). TakenIs s i (acknowledged s f.ack (begun old))) (sym same)
      (taken_same s n (begun old) (acknowledged s f.ack (begun old)) refl (set_taken old.windows s (with_ack (window_in old.windows s) f.ack) refl s)
      (none_more old now conn s n f bound lives within has))

  numbered : kind_of f.message ≡ Numbered → (r : Result Taken WindowError) → answers body_of (window_of old s) f.seq f.ack ≡ r → (c : Sofar) → TakesNumbered r (begun old) conn now s f c → Counted c
  numbered kind (Ok Fresh) fits c (inl fresh) = inr (go number)
    where
      go : ((f.seq ≡ 0) × (k ≡ n)) ⊎ ((kind_of f.message ≡ Unnumbered → ⊥) × ((f.seq ≡ n + 1) × (k ≡ n + 1))) → TakenIs s k c
      go (inl none) = absurd (omega (arith, none.0, fresh_above body_of (window_of old s) f.seq f.ack fits))
      go (inr next) =
          subst (λ (i : ℕ). TakenIs s i c) (sym next.1.1)
          (fresh_taken old now conn s n f bound lives within has c (record { first = refl; on = record { came = refl; bound = bound }; kind = kind; fresh = fits }) fresh.made)
  numbered kind (Ok Fresh) fits c (inr stray) = inl (ends_gone conn now (begun old) c stray.ended)
  numbered kind (Ok Repeat) fits c is = inr (subst (TakenIs s k) (sym is) (go number))
    where
      go : ((f.seq ≡ 0) × (k ≡ n)) ⊎ ((kind_of f.message ≡ Unnumbered → ⊥) × ((f.seq ≡ n + 1) × (k ≡ n + 1))) → TakenIs s k (acknowledged s f.ack (begun old))
      go (inl none) = quiet none.1
      go (inr next) = absurd (omega (arith, next.1.0, has, repeat_below body_of (window_of old s) f.seq f.ack fits))
  numbered kind (Err why) fits c ends = inl (ends_gone conn now (begun old) c ends)

  unnumbered : kind_of f.message ≡ Unnumbered → (r : Result Taken WindowError) → (c : Sofar) → TakesBare r (begun old) conn now s f.ack c → Counted c
  unnumbered kind (Ok answer) c is = inr (subst (TakenIs s k) (sym is) (go number))
    where
      go : ((f.seq ≡ 0) × (k ≡ n)) ⊎ ((kind_of f.message ≡ Unnumbered → ⊥) × ((f.seq ≡ n + 1) × (k ≡ n + 1))) → TakenIs s k (acknowledged s f.ack (begun old))
      go (inl none) = quiet none.1
      go (inr next) = absurd (next.0 kind)
  unnumbered kind (Err why) c ends = inl (ends_gone conn now (begun old) c ends)

  taken_by : (q : Kind) → kind_of f.message ≡ q → (c : Sofar) → TakesBound q (begun old) conn now s f c → Counted c
  taken_by Opening kind c ends = inl (ends_gone conn now (begun old) c ends)
  taken_by Numbered kind c takes = numbered kind (answers body_of (window_of old s) f.seq f.ack) refl c takes
  taken_by Unnumbered kind c takes = unnumbered kind (answers body_of (window_of old s) 0 f.ack) c takes

  -- The whole step.
  pub frame_counts : (c : Sofar) → FrameStep (begun old) now conn f c → Counted c
  frame_counts c step = subst Counted (sym step.after) (go (taken_by (kind_of f.message) refl step.taken (subst (λ (r : Option Role). TakesFrame r (begun old) conn now f step.taken) bound step.takes)))
    where
      go : Counted step.taken → Counted (settled conn now step.taken)
      go (inl gone) = inl (gone_settled conn conn now step.taken gone)
      go (inr is) = inr (taken_settled s k conn now step.taken is)
