-- What a data server puts on a connection that a Recover comes on first: nothing, or the Reset of a session that was closed, or the Welcome of
-- a new epoch, or the Welcome of the same epoch and what is sent again behind it.
use Rattle.std.proofs.Common.{Bool, List, None, Option, Some, [], ap, arith, false, filter, inl, inr, length, map, option_map, refl, subst, sym, true, ℕ}
use Rattle.std.proofs.Common.{◌++◌, ◌<◌, ◌∙◌, ◌∷◌, ◌≡◌, ◌≢◌, ◌≤◌, ◌⊎◌}
use Rattle.std.proofs.lemmas.Bool.{leb-true}
use Rattle.std.proofs.lemmas.List.{append-nil}
use Rattle.std.specs.List.{AllByRecursion, find}
use Rattle.cluster_invariant.proofs.AllLists.{all_filtered}
use Rattle.cluster_invariant.proofs.ConnRoles.{bound_role, other_stays}
use Rattle.cluster_invariant.proofs.PiecesOfCloses.{role_given}
use Rattle.cluster_invariant.proofs.PutLaws.{with_windows}
use Rattle.data_pieces.proofs.ConnLists.{Differ}
use Rattle.data_pieces.proofs.ConnPieces.{role_gone}
use Rattle.data_pieces.proofs.EndsPieces.{some_role}
use Rattle.data_rules.specs.Callers.{TakesRecover, comes_again, dial_of, goes_on, old_welcome, resumed, resumes, with_dial}
use Rattle.data_rules.specs.Conns.{drops_conn, ends_conn, is_conn, is_other_conn, loses_conn, role_in, role_of, with_role, without_conn}
use Rattle.data_rules.specs.DataState.{DataState, SessionWindow}
use Rattle.data_rules.specs.Frames.{EndsNoRecover, TakesFirst, TakesFrame, bares_role, settled}
use Rattle.data_rules.specs.Leaving.{bare_on, bare_to, epoch_welcome, flushed, leaves, may_leave}
use Rattle.data_rules.specs.Opening.{is_round_over}
use Rattle.data_rules.specs.Places.{close_place, epoch_place}
use Rattle.data_rules.specs.Puts.{Sofar, becomes, begun, conn_of, cuts, head_of, is_reply_elsewhere, replies, says_on, tells, window_in, window_of}
use Rattle.data_rules.specs.Step.{DataStep, made}
use Rattle.data_rules.specs.declared.data_outs.DataOuts.{DataOuts}
use Rattle.data_rules.specs.declared.rows.Reply.{Reply}
use Rattle.data_rules.specs.declared.rows.Role.{Role}
use Rattle.data_rules.specs.declared.rows.Role.TheVariants.{Bound, Closing, New}
use Rattle.data_rules.specs.declared.rows.Says.TheVariants.{EpochWelcome, ResetOf}
use Rattle.dials_firsts.proofs.QuietWindows.{QuietIn, flushed_quiet, flushed_role}
use Rattle.dials_firsts.proofs.ResumedFirsts.{again_state}
use Rattle.ecp_messages.specs.declared.down.Down.{Down}
use Rattle.ecp_messages.specs.declared.down.DownFrame.{DownFrame}
use Rattle.ecp_messages.specs.declared.up.Up.{Up}
use Rattle.ecp_messages.specs.declared.up.UpFrame.{UpFrame}
use Rattle.end_words.specs.Windows.{Window, fresh, owes_bare, resent}
use Rattle.link_downs.proofs.OnConn.{put_here, put_on, put_there}
use Rattle.link_firsts.proofs.RecoverPuts.{EpochPut, RecoverPut, ResetPut, SamePut, WindowKept, again_frame, again_put, kept_again, kept_then, kept_told}
use Rattle.link_firsts.proofs.RepliesLeave.{flushed_none, flushed_one, none_owed, over_same, same_welcome, settled_on, waited, welcome_same}
use Rattle.link_kept.proofs.WindowLists.{set_here}
use Rattle.link_kept.proofs.WindowsGo.{same_or}
use Rattle.plain_orders.specs.Entries.{last_epoch, live}
use Rattle.plain_orders.specs.Sessions.{app_in, place_of_epoch}
use Rattle.plain_orders.specs.declared.entry.Entry.{Entry}
use Rattle.ecp_messages.specs.declared.down.Down.TheVariants as down
use Rattle.ecp_messages.specs.declared.up.Up.TheVariants as up
use Rattle.data_rules.specs.declared.data_in.DataIn.TheVariants as data_in

-- the session takes the connection
record ResumedSo (old : DataState) (q s : ℕ) (c : Sofar) : Type 0 where
  order : c.state.order ≡ old.order
  synced : c.state.synced ≡ old.synced
  round : c.state.round ≡ old.round
  windows : c.state.windows ≡ old.windows
  frames : c.outs.frames ≡ []
  unsynced : AllByRecursion (λ (r : Reply). old.synced < r.at) c.state.replies
  role : role_of c.state q ≡ Some (Bound s)

module _ (old next : DataState) (outs : DataOuts) (now q : ℕ) (f : UpFrame) (a s e taken dial : ℕ) (role : role_of old q ≡ Some New)
    (differ : Differ old.conns) (hold : (conn r : ℕ) → role_of old conn ≡ Some (Bound r) → conn ≢ q) (on : is_round_over old old.round ≡ false)
    (unsynced : AllByRecursion (λ (r : Reply). old.synced < r.at) old.replies) where
  resumed_so : ResumedSo old q s (resumes a s dial q now (begun old))
  resumed_so = go (conn_of old s) refl
    where
      apart : (n : ℕ) → conn_of old s ≡ Some n → q ≢ n
      apart n its same = hold n s (bound_role s old.conns n differ its) (sym same)

      go : (o : Option ℕ) → conn_of old s ≡ o → ResumedSo old q s (becomes (resumed a s q now) (drops_conn o (becomes (with_dial a dial) (begun old))))
      go None its = record {
        order = refl;
        synced = refl;
        round = refl;
        windows = refl;
        frames = refl;
        unsynced = unsynced;
        role = role_given q (Bound s) old.conns (some_role (find (is_conn q) old.conns) New role);
      }
      go (Some n) its = record {
        order = refl;
        synced = refl;
        round = refl;
        windows = refl;
        frames = refl;
        unsynced = all_filtered (λ (r : Reply). old.synced < r.at) (is_reply_elsewhere (says_on n)) old.replies unsynced;
        role = role_given q (Bound s) (filter (is_other_conn n) old.conns)
            (some_role (find (is_conn q) (filter (is_other_conn n) old.conns)) New (ap (option_map role_in) (other_stays old.conns n q (apart n its)) ∙ role));
      }

  -- it ends the connection
  ended : made next outs ≡ settled q now (ends_conn q now (begun old)) → put_on q outs.frames ≡ []
  ended is =
      ap (λ (c : Sofar). put_on q c.outs.frames)
      (is ∙ settled_on q now b on_b ∙ ap (λ (c : Sofar). bares_role (role_of c.state q) c) (flushed_none b all_b) ∙ none_bares)
      ∙ ap (put_on q) frames_b
    where
      b : Sofar
      b = ends_conn q now (begun old)

      b_is : b ≡ cuts q (becomes (without_conn q) (begun old))
      b_is = ap (λ (r : Option Role). cuts q (loses_conn r now (becomes (without_conn q) (begun old)))) role

      on_b : is_round_over b.state b.state.round ≡ false
      on_b = ap (λ (c : Sofar). is_round_over c.state c.state.round) b_is ∙ on

      all_b : AllByRecursion (λ (r : Reply). b.state.synced < r.at) b.state.replies
      all_b =
          subst (λ (c : Sofar). AllByRecursion (λ (r : Reply). c.state.synced < r.at) c.state.replies) (sym b_is)
          (all_filtered (λ (r : Reply). old.synced < r.at) (is_reply_elsewhere (says_on q)) old.replies unsynced)

      frames_b : (waited b).outs.frames ≡ []
      frames_b = ap (λ (c : Sofar). c.outs.frames) b_is

      none_bares : bares_role (role_of (waited b).state q) (waited b) ≡ waited b
      none_bares = ap (λ (r : Option Role). bares_role r (waited b)) (ap (λ (c : Sofar). role_of c.state q) b_is ∙ role_gone q old.conns)

  -- a session that was closed
  gone : (place : ℕ) → close_place old.order s ≡ Some place
      → made next outs ≡ settled q now (replies place (ResetOf q s place) (becomes (λ d. with_role q (Closing s) (with_dial a dial d)) (begun old)))
      → (put_on q outs.frames ≡ []) ⊎ ResetPut old q s outs
  gone place closed is = go (flushed_one b old.replies (record { at = place; says = ResetOf q s place }) refl unsynced)
    where
      b : Sofar
      b = replies place (ResetOf q s place) (becomes (λ d. with_role q (Closing s) (with_dial a dial d)) (begun old))

      role_b : role_of b.state q ≡ Some (Closing s)
      role_b = role_given q (Closing s) old.conns (some_role (find (is_conn q) old.conns) New role)

      made_is : made next outs ≡ flushed b
      made_is = is ∙ settled_on q now b on ∙ ap (λ (r : Option Role). bares_role r (flushed b)) (flushed_role b q ∙ role_b)

      go : ((may_leave b.state.synced (record { at = place; says = ResetOf q s place }) ≡ true) × (flushed b ≡ leaves (ResetOf q s place) (waited b)))
          ⊎ (flushed b ≡ waited b)
          → (put_on q outs.frames ≡ []) ⊎ ResetPut old q s outs
      go (inl left) = inr (record {
        place = place;
        put = ap (λ (c : Sofar). put_on q c.outs.frames) (made_is ∙ left.1) ∙ put_here q [] _;
        low = leb-true place old.synced left.0;
        closed = closed;
      })
      go (inr still) = inl (ap (λ (c : Sofar). put_on q c.outs.frames) (made_is ∙ still))

  -- the session goes on in a new epoch
  returned : (kept : ℕ) → app_in old.order s ≡ Some a → dial_of old a ≤ dial → e < last_epoch old.order → place_of_epoch e 0 old.order ≡ Some kept
      → made next outs ≡ settled q now (comes_again s q kept (resumes a s dial q now (begun old))) → (put_on q outs.frames ≡ []) ⊎ EpochPut old next q a s e
      dial outs
  returned kept its later older known is =
      go (flushed_one b c.state.replies r refl (subst (λ (n : ℕ). AllByRecursion (λ (z : Reply). n < z.at) c.state.replies) (sym so.synced) so.unsynced))
    where
      c : Sofar
      c = resumes a s dial q now (begun old)

      so : ResumedSo old q s c
      so = resumed_so

      b : Sofar
      b = comes_again s q kept c

      r : Reply
      r = record { at = epoch_place c.state.order; says = EpochWelcome q s kept }

      on_b : is_round_over b.state b.state.round ≡ false
      on_b = over_same b.state old so.order so.synced so.round ∙ on

      quiet : QuietIn b.state.windows s
      quiet = ap (λ (u : Window Down). u.since) (set_here c.state.windows s fresh)

      made_is : made next outs ≡ flushed b
      made_is =
          is ∙ settled_on q now b on_b ∙ ap (λ (o : Option Role). bares_role o (flushed b)) (flushed_role b q ∙ so.role)
          ∙ none_owed s (flushed b) (flushed_quiet s b quiet)

      go : ((may_leave b.state.synced r ≡ true) × (flushed b ≡ leaves (EpochWelcome q s kept) (waited b))) ⊎ (flushed b ≡ waited b)
          → (put_on q outs.frames ≡ []) ⊎ EpochPut old next q a s e dial outs
      go (inl left) = inr (record {
        kept = kept;
        ack = (window_of b.state s).taken;
        put = ap (λ (z : Sofar). put_on q z.outs.frames) (made_is ∙ left.1) ∙ put_here q c.outs.frames _
            ∙ ap (λ (fs : List DownFrame). fs ++ record { seq = 0; ack = (window_of b.state s).taken; message = epoch_welcome b.state s kept } ∷ [])
            (ap (put_on q) so.frames)
            ∙ ap (λ (u : Down). record { seq = 0; ack = (window_of b.state s).taken; message = u } ∷ []) (welcome_same b.state old s kept so.order so.synced);
        its = its;
        later = later;
        older = older;
        known = known;
        synced =
            subst (λ (es : List Entry). epoch_place es ≤ old.synced) so.order
            (omega (arith, leb-true (epoch_place c.state.order) b.state.synced left.0, so.synced));
        order = ap (λ (z : Sofar). z.state.order) (made_is ∙ left.1) ∙ so.order;
        same_synced = ap (λ (z : Sofar). z.state.synced) (made_is ∙ left.1) ∙ so.synced;
      })
      go (inr still) = inl (ap (λ (z : Sofar). put_on q z.outs.frames) (made_is ∙ still) ∙ ap (put_on q) so.frames)

  -- the session goes on
  resumed_put : live old.order s ≡ true → e ≡ last_epoch old.order → made next outs ≡ settled q now (goes_on s q taken (resumes a s dial q now (begun old)))
      → SamePut old next q s e taken outs
  resumed_put lives same is = go (conn_of (waited b).state s) refl
    where
      c : Sofar
      c = resumes a s dial q now (begun old)

      so : ResumedSo old q s c
      so = resumed_so

      z : Sofar
      z = tells s q 0 (old_welcome c.state s) c

      ms : List (ℕ × Down)
      ms = resent (window_of c.state s) taken

      b : Sofar
      b = goes_on s q taken c

      b_state : b.state ≡ with_windows (again_state s q ms z).0 z.state
      b_state = (again_state s q ms z).1

      on_b : is_round_over b.state b.state.round ≡ false
      on_b =
          over_same b.state old (ap (λ (d : DataState). d.order) b_state ∙ so.order) (ap (λ (d : DataState). d.synced) b_state ∙ so.synced)
          (ap (λ (d : DataState). d.round) b_state ∙ so.round) ∙ on

      all_b : AllByRecursion (λ (r : Reply). b.state.synced < r.at) b.state.replies
      all_b =
          subst (λ (d : DataState). AllByRecursion (λ (r : Reply). d.synced < r.at) d.replies) (sym b_state)
          (subst (λ (n : ℕ). AllByRecursion (λ (r : Reply). n < r.at) c.state.replies) (sym so.synced) so.unsynced)

      role_b : role_of (waited b).state q ≡ Some (Bound s)
      role_b = ap (λ (d : DataState). role_of d q) b_state ∙ so.role

      made_is : made next outs ≡ bares_role (Some (Bound s)) (waited b)
      made_is =
          is ∙ settled_on q now b on_b ∙ ap (λ (y : Sofar). bares_role (role_of y.state q) y) (flushed_none b all_b)
          ∙ ap (λ (o : Option Role). bares_role o (waited b)) role_b

      window_same : window_of c.state s ≡ window_of old s
      window_same = ap (λ (ws : List SessionWindow). window_in ws s) so.windows

      ack : ℕ
      ack = (window_of old s).taken

      taken_c : (window_of c.state s).taken ≡ ack
      taken_c = ap (λ (u : Window Down). u.taken) window_same

      kept_b : WindowKept (window_of old s) (window_of (waited b).state s)
      kept_b =
          subst (λ (u : Window Down). WindowKept u (window_of (waited b).state s)) window_same
          (kept_then (window_of c.state s) (window_of z.state s) (window_of b.state s) (kept_told s q 0 (old_welcome c.state s) c) (kept_again s q ms z))

      first : DownFrame
      first = record { seq = 0; ack = ack; message = down.Welcome s (last_epoch old.order) (length old.order) (head_of old s) ack }

      again : List DownFrame
      again = map (again_frame ack) (resent (window_of old s) taken)

      put_z : put_on q z.outs.frames ≡ first ∷ []
      put_z =
          put_here q c.outs.frames _
          ∙ ap (λ (fs : List DownFrame). fs ++ record { seq = 0; ack = (window_of c.state s).taken; message = old_welcome c.state s } ∷ [])
          (ap (put_on q) so.frames)
          ∙ ap (λ (i : ℕ). record { seq = 0; ack = i; message = old_welcome c.state s } ∷ []) taken_c
          ∙ ap (λ (u : Down). record { seq = 0; ack = ack; message = u } ∷ []) (same_welcome c.state old s so.order so.synced so.windows)

      put_b : put_on q (waited b).outs.frames ≡ first ∷ again
      put_b =
          again_put s q ms z ∙ ap (λ (fs : List DownFrame). fs ++ map (again_frame (window_of z.state s).taken) ms) put_z
          ∙ ap (λ (i : ℕ). first ∷ map (again_frame i) ms) ((kept_told s q 0 (old_welcome c.state s) c).taken ∙ taken_c)
          ∙ ap (λ (u : Window Down). first ∷ map (again_frame ack) (resent u taken)) window_same

      order_b : (waited b).state.order ≡ old.order
      order_b = ap (λ (d : DataState). d.order) b_state ∙ so.order

      with_none : made next outs ≡ waited b → SamePut old next q s e taken outs
      with_none still = record {
        bares = [];
        are_bare = inl refl;
        put = ap (λ (y : Sofar). put_on q y.outs.frames) still ∙ put_b ∙ ap (λ (fs : List DownFrame). first ∷ fs) (sym (append-nil again));
        same = same;
        kept = subst (λ (y : Sofar). WindowKept (window_of old s) (window_of y.state s)) (sym still) kept_b;
        lives = lives;
        order = ap (λ (y : Sofar). y.state.order) still ∙ order_b;
      }

      with_bare : (n : ℕ) → made next outs ≡ tells s n 0 down.Bare (waited b) → SamePut old next q s e taken outs
      with_bare n told = by (same_or n q)
        where
          bare : DownFrame
          bare = record { seq = 0; ack = ack; message = down.Bare }

          by : (n ≡ q) ⊎ (n ≢ q) → SamePut old next q s e taken outs
          by (inl here) = record {
            bares = bare ∷ [];
            are_bare = inr refl;
            put =
                ap (λ (y : Sofar). put_on q y.outs.frames) (told ∙ ap (λ (i : ℕ). tells s i 0 down.Bare (waited b)) here) ∙ put_here q (waited b).outs.frames _
                ∙ ap (λ (fs : List DownFrame). fs ++ record { seq = 0; ack = (window_of (waited b).state s).taken; message = down.Bare } ∷ []) put_b
                ∙ ap (λ (i : ℕ). first ∷ (again ++ record { seq = 0; ack = i; message = down.Bare } ∷ [])) kept_b.taken;
            same = same;
            kept = subst (λ (y : Sofar). WindowKept (window_of old s) (window_of y.state s)) (sym told)
                (kept_then (window_of old s) (window_of (waited b).state s) (window_of (tells s n 0 down.Bare (waited b)).state s) kept_b
                (kept_told s n 0 down.Bare (waited b)));
            lives = lives;
            order = ap (λ (y : Sofar). y.state.order) told ∙ order_b;
          }
          by (inr apart) = record {
            bares = [];
            are_bare = inl refl;
            put =
                ap (λ (y : Sofar). put_on q y.outs.frames) told ∙ put_there q n (waited b).outs.frames _ apart ∙ put_b
                ∙ ap (λ (fs : List DownFrame). first ∷ fs) (sym (append-nil again));
            same = same;
            kept = subst (λ (y : Sofar). WindowKept (window_of old s) (window_of y.state s)) (sym told)
                (kept_then (window_of old s) (window_of (waited b).state s) (window_of (tells s n 0 down.Bare (waited b)).state s) kept_b
                (kept_told s n 0 down.Bare (waited b)));
            lives = lives;
            order = ap (λ (y : Sofar). y.state.order) told ∙ order_b;
          }

      go : (o : Option ℕ) → conn_of (waited b).state s ≡ o → SamePut old next q s e taken outs
      go None its = with_none (made_is ∙ ap (λ (o : Option ℕ). bare_on o s (waited b)) its)
      go (Some n) its = by (owes_bare (window_of (waited b).state s)) refl
        where
          to : made next outs ≡ bare_to (owes_bare (window_of (waited b).state s)) s n (waited b)
          to = made_is ∙ ap (λ (o : Option ℕ). bare_on o s (waited b)) its

          by : (owed : Bool) → owes_bare (window_of (waited b).state s) ≡ owed → SamePut old next q s e taken outs
          by true owed = with_bare n (to ∙ ap (λ (m : Bool). bare_to m s n (waited b)) owed)
          by false owed = with_none (to ∙ ap (λ (m : Bool). bare_to m s n (waited b)) owed)

  -- What it puts.
  pub recover_put : f.message ≡ up.Recover a s e taken dial → DataStep old now (data_in.Frame q f) outs next → RecoverPut old next q a s e taken dial outs
  recover_put says steps =
      go (subst (λ (u : Up). TakesFirst u (begun old) q now steps.taken) says
      (subst (λ (o : Option Role). TakesFrame o (begun old) q now f steps.taken) role steps.takes))
    where
      after : (z : Sofar) → steps.taken ≡ z → made next outs ≡ settled q now z
      after z same = steps.after ∙ ap (settled q now) same

      at_gone : (put_on q outs.frames ≡ []) ⊎ ResetPut old q s outs → RecoverPut old next q a s e taken dial outs
      at_gone (inl none) = inl none
      at_gone (inr put) = inr (inl put)

      at_return : (put_on q outs.frames ≡ []) ⊎ EpochPut old next q a s e dial outs → RecoverPut old next q a s e taken dial outs
      at_return (inl none) = inl none
      at_return (inr put) = inr (inr (inl put))

      go : TakesRecover (begun old) q now a s e taken dial steps.taken ⊎ EndsNoRecover (begun old) q now a s e dial steps.taken
          → RecoverPut old next q a s e taken dial outs
      go (inl (inl r)) = inr (inr (inr (resumed_put r.is_live r.same (after (goes_on s q taken (resumes a s dial q now (begun old))) r.after))))
      go (inl (inr (inl r))) =
          at_return (returned r.kept r.its r.later r.older r.known (after (comes_again s q r.kept (resumes a s dial q now (begun old))) r.after))
      go (inl (inr (inr r))) =
          at_gone (gone r.at r.closed
          (after (replies r.at (ResetOf q s r.at) (becomes (λ d. with_role q (Closing s) (with_dial a dial d)) (begun old))) r.after))
      go (inr r) = inl (ended (after (ends_conn q now (begun old)) r.ended.after))
