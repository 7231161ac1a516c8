-- What each small change of a step makes of the connection of a live session that didn't learn of the order: the Welcome that waited leaves,
-- or it stays as it was, or it goes.
use Rattle.std.proofs.Common.{Bool, List, None, Option, Some, [], ap, arith, cond, false, filter, inl, inr, length, refl, subst, sym, true, ℕ, ◌++◌, ◌∙◌, ◌∷◌}
use Rattle.std.proofs.Common.{◌≡◌, ◌≤◌, ◌⊎◌}
use Rattle.std.proofs.lemmas.List.Elements.{filter-append}
use Rattle.cluster_invariant.proofs.PieceKinds.{with_replies}
use Rattle.cluster_invariant.proofs.PieceMay.{Coming}
use Rattle.data_rules.specs.Leaving.{epoch_welcome, leaves, may_leave, new_welcome}
use Rattle.data_rules.specs.Puts.{Sofar, becomes, head_of, is_reply_elsewhere, says_on, says_to, tells, window_of}
use Rattle.data_rules.specs.declared.rows.Reply.{Reply}
use Rattle.data_rules.specs.declared.rows.Says.{Says}
use Rattle.data_rules.specs.declared.rows.Says.TheVariants.{AnswerOf, EpochWelcome, GrantOf, NewWelcome, ResetOf}
use Rattle.ecp_messages.specs.declared.down.Down.{Down}
use Rattle.ecp_messages.specs.declared.down.DownFrame.{DownFrame}
use Rattle.ecp_messages.specs.declared.up.UpFrame.{UpFrame}
use Rattle.link_downs.proofs.OffConn.{Off, is_off, listed}
use Rattle.link_downs.proofs.OnConn.{put_here, put_on, waiting_on}
use Rattle.link_downs.proofs.OrderPieces.{OrderStep}
use Rattle.link_firsts.proofs.UntoldConn.{Fewer, FirstPut, IsFirst, LeftSays, Untold, WaitsStill, fewer_beside, head_is, untold_fewer}
use Rattle.link_firsts.proofs.UntoldPieces.{LeavesOn, MadeOf, Trimmed}
use Rattle.plain_orders.specs.Entries.{count, last_epoch}
use Rattle.ecp_messages.specs.declared.down.Down.TheVariants as down
use Rattle.data_rules.specs.declared.data_in.DataIn.TheVariants as data_in

-- lists of replies, of which one leaves
pub not_empty : (xs : List Reply) (r : Reply) (ys : List Reply) → xs ++ r ∷ ys ≡ [] → ⊥
not_empty [] r ys is = cc
not_empty (x ∷ xs) r ys is = cc

pub alone : (xs : List Reply) (r : Reply) (ys : List Reply) (s : Reply) → xs ++ r ∷ ys ≡ s ∷ [] → (xs ≡ []) × (r ≡ s) × (ys ≡ [])
alone [] r ys s is = (refl, cc, cc)
alone (x ∷ xs) r ys s is = absurd (not_empty xs r ys (tail is))
  where
    tail : x ∷ (xs ++ r ∷ ys) ≡ s ∷ [] → xs ++ r ∷ ys ≡ []
    tail same = cc

-- replies of a session that is closed go
fewer_trimmed : (q s : ℕ) (ws : Option Reply) (b c : Sofar) → Trimmed q s b c → Fewer q ws b c
fewer_trimmed q s ws b c x = record { role = x.role; put = x.put; none = λ is. x.waits ∙ ap (filter p) is; still = go }
  where
    p : Reply → Bool
    p = is_reply_elsewhere (says_to x.closed)

    fewer : (o : Option Reply) → (filter p (listed o) ≡ []) ⊎ (filter p (listed o) ≡ listed o)
    fewer None = inl refl
    fewer (Some r) = by (p r)
      where
        by : (m : Bool) → (cond m (r ∷ []) [] ≡ []) ⊎ (cond m (r ∷ []) [] ≡ r ∷ [])
        by true = inr refl
        by false = inl refl

    go : WaitsStill q ws b → WaitsStill q ws c
    go (inl is) = inl (x.waits ∙ ap (filter p) is)
    go (inr is) = by (fewer ws)
      where
        by : (filter p (listed ws) ≡ []) ⊎ (filter p (listed ws) ≡ listed ws) → WaitsStill q ws c
        by (inl none) = inl (x.waits ∙ ap (filter p) is ∙ none)
        by (inr same) = inr (x.waits ∙ ap (filter p) is ∙ same)

module _ (t : Coming) (q s : ℕ) (ws : Option Reply) (no_frame : (f : UpFrame) → t.input ≡ data_in.Frame q f → ⊥)
    (firsts : (r : Reply) → ws ≡ Some r → IsFirst q s r.says) where
  module _ (b : Sofar) (h : Untold t.old q s ws b) (epoch : last_epoch b.state.order ≡ last_epoch t.old.order)
      (longer : length t.old.order ≤ length b.state.order) where
    -- the Welcome that waited leaves
    left_now : (z : Reply) (rs : List Reply) → ws ≡ Some z → may_leave b.state.synced z ≡ true → put_on q b.outs.frames ≡ [] → waiting_on q rs ≡ []
        → IsFirst q s z.says
        → (m : Down) → LeftSays t.old b.state.order b.state.synced z.says m → Untold t.old q s ws (tells s q 0 m (becomes (with_replies rs) b))
    left_now z rs is synced silent rest says m left = record {
      role = h.role;
      within = h.within;
      counted = h.counted;
      what = inr (
        record {
          reply = z;
          waited = is;
          synced = synced;
          frame = record { seq = 0; ack = (window_of b.state s).taken; message = m };
          put = put_here q b.outs.frames _ ∙ ap (λ (fs : List DownFrame). fs ++ record { seq = 0; ack = (window_of b.state s).taken; message = m } ∷ []) silent;
          seq = refl;
          says = left;
        },
        rest,
      );
    }

    leaves_now : (z : Reply) (rs : List Reply) → ws ≡ Some z → may_leave b.state.synced z ≡ true → put_on q b.outs.frames ≡ [] → waiting_on q rs ≡ []
        → (u : Says) → z.says ≡ u → IsFirst q s u
        → Untold t.old q s ws (leaves u (becomes (with_replies rs) b))
    leaves_now z rs is synced silent rest (NewWelcome conn session) its first =
        subst (λ (i : ℕ). Untold t.old q s ws (leaves (NewWelcome i session) (becomes (with_replies rs) b))) (sym first.0)
        (subst (λ (i : ℕ). Untold t.old q s ws (leaves (NewWelcome q i) (becomes (with_replies rs) b))) (sym first.1)
        (left_now z rs is synced silent rest (firsts z is) (new_welcome b.state s)
        (subst (λ (u : Says). LeftSays t.old b.state.order b.state.synced u (new_welcome b.state s)) (sym (its ∙ ap (λ (i : ℕ). NewWelcome conn i) first.1))
        (record {
          n = length b.state.order;
          says = ap (λ (i : ℕ). down.Welcome s i (length b.state.order) (record { n = length b.state.order; w = 0; s = 0 }) 0) epoch;
          longer = longer;
          within = omega arith;
        }))))
    leaves_now z rs is synced silent rest (EpochWelcome conn session kept) its first =
        subst (λ (i : ℕ). Untold t.old q s ws (leaves (EpochWelcome i session kept) (becomes (with_replies rs) b))) (sym first.0)
        (subst (λ (i : ℕ). Untold t.old q s ws (leaves (EpochWelcome q i kept) (becomes (with_replies rs) b))) (sym first.1)
        (left_now z rs is synced silent rest (firsts z is) (epoch_welcome b.state s kept)
        (subst (λ (u : Says). LeftSays t.old b.state.order b.state.synced u (epoch_welcome b.state s kept))
        (sym (its ∙ ap (λ (i : ℕ). EpochWelcome conn i kept) first.1)) (record {
          front = head_of b.state s;
          says = ap (λ (i : ℕ). down.Welcome s i kept (head_of b.state s) 0) epoch;
          longer = longer;
          header = head_is b.state s h.within;
          counted = h.counted;
        }))))
    leaves_now z rs is synced silent rest (ResetOf conn session place) its first = absurd first
    leaves_now z rs is synced silent rest (GrantOf session ticket number) its first = absurd first
    leaves_now z rs is synced silent rest (AnswerOf session about job number place sum) its first = absurd first

    leaves_go : (c : Sofar) → LeavesOn q b c → Untold t.old q s ws c
    leaves_go c x = leaving h.what
      where
        split : waiting_on q b.state.replies ≡ waiting_on q x.before ++ x.r ∷ waiting_on q x.behind
        split =
            ap (waiting_on q) x.its ∙ filter-append (λ (y : Reply). says_on q y.says) x.before (x.r ∷ x.behind)
            ∙ ap (λ (o : Bool). waiting_on q x.before ++ cond o (x.r ∷ waiting_on q x.behind) (waiting_on q x.behind)) x.on

        rest : waiting_on q (x.before ++ x.behind) ≡ waiting_on q x.before ++ waiting_on q x.behind
        rest = filter-append (λ (y : Reply). says_on q y.says) x.before x.behind

        its_turn : (z : Reply) → ws ≡ Some z → put_on q b.outs.frames ≡ [] → (waiting_on q x.before ≡ []) × (x.r ≡ z) × (waiting_on q x.behind ≡ [])
            → Untold t.old q s ws c
        its_turn z is silent one =
            subst (Untold t.old q s ws) (sym (x.made ∙ ap (λ (y : Reply). leaves y.says (becomes (with_replies (x.before ++ x.behind)) b)) one.1))
            (leaves_now z (x.before ++ x.behind) is (subst (λ (y : Reply). may_leave b.state.synced y ≡ true) one.1 x.synced) silent
            (rest ∙ ap (λ (xs : List Reply). xs ++ waiting_on q x.behind) one.0 ∙ one.2) z.says refl (firsts z is))

        turn : (o : Option Reply) → ws ≡ o → put_on q b.outs.frames ≡ [] → waiting_on q b.state.replies ≡ listed o → Untold t.old q s ws c
        turn None is silent w = absurd (not_empty (waiting_on q x.before) x.r (waiting_on q x.behind) (sym split ∙ w))
        turn (Some z) is silent w = its_turn z is silent (alone (waiting_on q x.before) x.r (waiting_on q x.behind) z (sym split ∙ w))

        leaving : FirstPut t.old q ws b → Untold t.old q s ws c
        leaving (inl silent) = or silent.1
          where
            or : WaitsStill q ws b → Untold t.old q s ws c
            or (inl none) = absurd (not_empty (waiting_on q x.before) x.r (waiting_on q x.behind) (sym split ∙ none))
            or (inr is) = turn ws refl silent.0 is
        leaving (inr spoke) = absurd (not_empty (waiting_on q x.before) x.r (waiting_on q x.behind) (sym split ∙ spoke.1))

    -- What a change makes of it.
    pub untold_goes : (c : Sofar) → c.state.synced ≡ b.state.synced → OrderStep t b c.state.order → count c.state.order s ≡ count b.state.order s
        → MadeOf t q s b c
        → Untold t.old q s ws c ⊎ Off q false None c
    untold_goes c same order counts (inl x) = inl (untold_fewer t q s ws b c (fewer_beside q ws b c x) same order counts h)
    untold_goes c same order counts (inr (inl x)) = inl (untold_fewer t q s ws b c (fewer_trimmed q s ws b c x) same order counts h)
    untold_goes c same order counts (inr (inr (inl x))) = inr (record { off = ap (is_off false) x.role; put = inl (x.put, inl x.waits) })
    untold_goes c same order counts (inr (inr (inr (inl x)))) = inl (leaves_go c x)
    untold_goes c same order counts (inr (inr (inr (inr x)))) = absurd (no_frame x.up x.came)
