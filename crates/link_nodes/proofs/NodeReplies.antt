-- The replies that wait after a step of a data server, by what waits as it is made.
use Rattle.std.proofs.Common.{◌≡◌, ◌≢◌, ◌≤◌, ◌<◌, ◌⊎◌, inl, inr, ℕ, Bool, true, false, ◌||◌, cond, List, [], ◌∷◌, ◌++◌, map, filter, length, append-nil, Option, Some, None, is_some, refl, sym, ◌∙◌, ap, subst, arith}
use Rattle.std.specs.Prelude.{⊤, IfSome, IsSomeAnd, nat_lt}
use Rattle.std.specs.List.{AllByRecursion, list_any}
use Rattle.std.proofs.lemmas.Bool.{or_parts, true≢false}
use Rattle.plain_orders.specs.Entries.{closes, last_epoch, live}
use Rattle.plain_orders.specs.Ordered.{IsOrdered}
use Rattle.plain_orders.proofs.LiveSessions.{none_opened}
use Rattle.plain_orders.specs.Sessions.{app_in, place_of_epoch}
use Rattle.plain_runs.specs.Plain.{Server, current, order_at}
use Rattle.ecp_messages.specs.declared.down.Down.{Down}
use Rattle.ecp_messages.specs.declared.down.Down.TheVariants as down
use Rattle.ecp_messages.specs.declared.down.DownFrame.{DownFrame}
use Rattle.ecp_messages.specs.declared.up.Up.TheVariants.{Recover}
use Rattle.data_rules.specs.DataState.{DataState}
use Rattle.data_rules.specs.declared.data_in.DataIn.{DataIn}
use Rattle.data_rules.specs.declared.data_in.DataIn.TheVariants as data_in
use Rattle.data_rules.specs.declared.data_outs.DataOuts.{DataOuts}
use Rattle.data_rules.specs.declared.down_frames.DownOut.{DownOut}
use Rattle.data_rules.specs.declared.rows.Caller.{Caller}
use Rattle.data_rules.specs.declared.rows.Reply.{Reply}
use Rattle.data_rules.specs.declared.rows.Role.{Role}
use Rattle.data_rules.specs.declared.rows.Role.TheVariants.{New, Bound, Closing}
use Rattle.data_rules.specs.declared.rows.Says.{Says}
use Rattle.data_rules.specs.declared.rows.Says.TheVariants.{NewWelcome, EpochWelcome, ResetOf, GrantOf, AnswerOf}
use Rattle.data_rules.specs.Conns.{role_of}
use Rattle.data_rules.specs.Places.{epoch_place}
use Rattle.cluster_runs.specs.CoresState.{Linked}
use Rattle.cluster_runs.specs.Connections.{down_of, is_out_on, link_of}
use Rattle.cluster_runs.specs.Goes.{server_site, server_takes}
use Rattle.cluster_runs.specs.Machine.{Site}
use Rattle.cluster_runs.specs.Sent.{Connection, FirstTaken, Knew, Lane, Mark, Place}
use Rattle.cluster_invariant.specs.Dials.{BoundIs, BoundTo, ClosingIs, DialsAre, IsLinkedBy, KnewIs, LinkedTo, NodeDials, RoleIs}
use Rattle.cluster_invariant.specs.Ends.{HelloAlone}
use Rattle.cluster_invariant.specs.Served.{IsServed}
use Rattle.cluster_invariant.specs.Waiting.{EpochWaits, IsUnended, IsUntold, NewWaits, OnLinked, ReplyWaits, ResetWaits, WaitsEpoch, WaitsEpochOn, WaitsFor, WaitsNewOn, WaitsResetOn}
use Rattle.cluster_invariant.specs.Words.{IsFront, is_normal_down, is_reset_down, is_reset_frame, stays_at}
use Rattle.cluster_invariant.proofs.AllLists.{all_follow}
use Rattle.cluster_invariant.proofs.PieceMay.{Came, Coming}
use Rattle.cluster_invariant.proofs.Small.{of_some}
use Rattle.data_ends_kept.proofs.HellosTaken.{link_is}
use Rattle.dials_server.proofs.FittingNodes.{same_link}
use Rattle.dials_server.proofs.QuietServer.{of_some_and}
use Rattle.link_kept.proofs.Later.{place_later}
use Rattle.link_kept.proofs.ServesServer.{live_within}
use Rattle.link_kept.proofs.WindowPieces.{SaysServed}
use Rattle.link_kept.proofs.WindowsGo.{Served}
use Rattle.link_kept.proofs.WindowsServer.{LanesGrow}
use Rattle.link_nodes.proofs.BoundsGo.{BoundsGo, Whence}
use Rattle.link_nodes.proofs.RecoverComes.{RecoverAlone}
use Rattle.link_nodes.proofs.RepliesGo.{FreshEpoch, FreshSays, Origin, RecoverOf, ResetGo, SaysGo, TickReset, WelcomeGo, is_first}
use Rattle.link_nodes.proofs.SiteAfter.{Heard, HeardTo, SiteAfter, Took, TookTo, its_same, link_takes, put_on, took_at}

-- what a step put on the connection that a reply waits for
abbrev pub SilentFor : (ℕ → Lane) → Coming → List DownOut → Says → Type 0
SilentFor lane_of t fs (NewWelcome conn session) = AllByRecursion (λ (f : DownOut). f.conn ≡ conn → is_first f.down.message ≡ false) fs
SilentFor lane_of t fs (EpochWelcome conn session kept) = AllByRecursion (λ (f : DownOut). f.conn ≡ conn → is_first f.down.message ≡ false) fs
SilentFor lane_of t fs (ResetOf conn session place) =
    AllByRecursion (λ (f : DownOut). f.conn ≡ conn → (is_first f.down.message ≡ false) × (TickReset t conn session × (is_some (lane_of session).began ≡ true))) fs
SilentFor lane_of t fs (GrantOf session ticket number) = ⊤
SilentFor lane_of t fs (AnswerOf session about job number place sum) = ⊤

pub heard_from : (k : ℕ) (fs : List DownFrame) (o p : Option Connection) (d : Connection) → HeardTo k fs o p → p ≡ Some d → (c : Connection) × ((o ≡ Some c) × Heard k fs c d)
heard_from k fs None None d h is = absurd cc
heard_from k fs None (Some e) d h is = absurd h
heard_from k fs (Some c) None d h is = absurd cc
heard_from k fs (Some c) (Some e) d h is = (c, (refl, subst (λ (y : Connection). Heard k fs c y) (one e d is) h))
  where
    one : (i j : Connection) → Some i ≡ Some j → i ≡ j
    one i j same = cc

pub took_from : (o p : Option Connection) (d : Connection) → TookTo o p → p ≡ Some d → (c : Connection) × ((o ≡ Some c) × Took c d)
took_from None None d h is = absurd cc
took_from None (Some e) d h is = absurd h
took_from (Some c) None d h is = absurd cc
took_from (Some c) (Some e) d h is = (c, (refl, subst (λ (y : Connection). Took c y) (one e d is) h))
  where
    one : (i j : Connection) → Some i ≡ Some j → i ≡ j
    one i j same = cc

-- what was put goes to the connection that a data connection is linked to
pub on_it : (P : DownFrame → Type 0) (z : Site) (conn a n : ℕ) (fs : List DownOut) → ((m : ℕ) → link_of z m ≡ Some (record { app = a; dial = n }) → m ≡ conn)
    → AllByRecursion (λ (f : DownOut). f.conn ≡ conn → P f.down) fs → AllByRecursion P (put_on z a n fs)
on_it P z conn a n [] only all = tt
on_it P z conn a n (f ∷ fs) only all = go (is_out_on z a n f) refl (on_it P z conn a n fs only all.1)
  where
    go : (b : Bool) → is_out_on z a n f ≡ b → AllByRecursion P (put_on z a n fs) → AllByRecursion P (map down_of (cond b (f ∷ filter (is_out_on z a n) fs) (filter (is_out_on z a n) fs)))
    go true is more = (all.0 (only f.conn (link_is a n (link_of z f.conn) is)), more)
    go false is more = more

on_dial : (y : Site) (conn a n : ℕ) (P : Connection → Type 0) → link_of y conn ≡ Some (record { app = a; dial = n }) → ((d : Connection) → (y.end_at a).connection_at n ≡ Some d → P d) → OnLinked y conn P
on_dial y conn a n P link each =
    subst (λ (o : Option Linked). IfSome o (λ l. IfSome ((y.end_at l.app).connection_at l.dial) P)) (sym link) (go ((y.end_at a).connection_at n) refl)
  where
    go : (o : Option Connection) → (y.end_at a).connection_at n ≡ o → IfSome o P
    go None is = tt
    go (Some d) is = each d is

-- and the other way
dial_on : (y : Site) (conn a n : ℕ) (P : Connection → Type 0) (d : Connection) → link_of y conn ≡ Some (record { app = a; dial = n }) → (y.end_at a).connection_at n ≡ Some d → OnLinked y conn P → P d
dial_on y conn a n P d link there on =
    of_some P ((y.end_at a).connection_at n) d there (of_some (λ (l : Linked). IfSome ((y.end_at l.app).connection_at l.dial) P) (link_of y conn) (record { app = a; dial = n }) link on)

module _ (v w : Server) (x : Site) (dead : ℕ → Bool) (old : DataState) (now : ℕ) (input : DataIn) (outs : DataOuts) (new : DataState) (W : Caller → Type 0)
    (past : x.past ≡ current v) (order_v : order_at v x.past ≡ old.order) (same : current w ≡ current v) (lasts : (k : ℕ) → k < current v → last_epoch (order_at w k) ≡ last_epoch (order_at v k))
    (left : (k : ℕ) → k < current v → stays_at w k ≡ stays_at v k) (goes_on : IsFront old.order new.order)
    (place_same : epoch_place new.order ≡ epoch_place old.order)
    (lanes : LanesGrow old new outs x (server_site old now input outs new x))
    (ordered : IsOrdered old.order) (node : NodeDials x old) (dials_new : DialsAre w (server_site old now input outs new x) dead) (node_new : NodeDials (server_site old now input outs new x) new)
    (bounds : BoundsGo (record { old = old; now = now; input = input }) W new.conns new.order) where
  abbrev t : Coming
  t = record { old = old; now = now; input = input }

  abbrev z : Site
  z = server_takes input x

  abbrev y : Site
  y = server_site old now input outs new x

  abbrev lane_of : ℕ → Lane
  lane_of s = x.lane_at s x.past

  module _ (after : SiteAfter x z y outs.frames) (accepted : (conn : ℕ) → input ≡ data_in.Connected conn → role_of old conn ≡ None)
      (hello_on : (conn app : ℕ) → W (record { conn = conn; app = app }) → LinkedTo z conn app HelloAlone)
      (recover_on : (conn app session epoch taken dial : ℕ) → Came t conn (Recover app session epoch taken dial) → LinkedTo z conn app (RecoverAlone v x app session epoch))
      (behind : (m : Mark) (kept : ℕ) → m.order < current v → place_of_epoch (last_epoch (order_at v m.order)) 0 old.order ≡ Some kept → stays_at v m.order ≤ kept) where
    -- a connection that was a session's is linked as it was
    still_linked : (conn : ℕ) (r : Role) (l : Linked) → role_of old conn ≡ Some r → link_of x conn ≡ Some l → link_of y conn ≡ Some l
    still_linked conn r l role link =
        after.links conn ∙ link_takes input x conn l (λ is. (let none : role_of old conn ≡ None = accepted conn is in cc)) link

    -- no other data connection is linked to it
    one_linked : (conn m a n : ℕ) → link_of y conn ≡ Some (record { app = a; dial = n }) → link_of z m ≡ Some (record { app = a; dial = n }) → m ≡ conn
    one_linked conn m a n link also = go ((y.end_at a).connection_at n) (linked conn link) (linked m (after.links m ∙ also))
      where
        linked : (k : ℕ) → link_of y k ≡ Some (record { app = a; dial = n }) → IsSomeAnd ((y.end_at a).connection_at n) (λ c. IsSomeAnd c.first (λ f. f.conn ≡ k))
        linked k is = of_some (IsLinkedBy y k) (link_of y k) (record { app = a; dial = n }) is (dials_new.links k)

        by : (o : Option FirstTaken) → IsSomeAnd o (λ f. f.conn ≡ conn) → IsSomeAnd o (λ f. f.conn ≡ m) → m ≡ conn
        by None i j = absurd i
        by (Some f) i j = sym j ∙ i

        go : (o : Option Connection) → IsSomeAnd o (λ c. IsSomeAnd c.first (λ f. f.conn ≡ conn)) → IsSomeAnd o (λ c. IsSomeAnd c.first (λ f. f.conn ≡ m)) → m ≡ conn
        go None i j = absurd i
        go (Some c) i j = by c.first i j

    -- a connection that begins nothing in the step
    record QuietOn (conn a n : ℕ) (d : Connection) : Type 0 where
      on : Connection
      there : (z.end_at a).connection_at n ≡ Some on
      its : d.its ≡ on.its
      knew : d.knew ≡ on.knew
      downs : d.downs ≡ on.downs ++ put_on z a n outs.frames

    quiet_on : (conn a n : ℕ) (d : Connection) → link_of y conn ≡ Some (record { app = a; dial = n }) → (y.end_at a).connection_at n ≡ Some d
        → AllByRecursion (λ (f : DownOut). f.conn ≡ conn → is_first f.down.message ≡ false) outs.frames → QuietOn conn a n d
    quiet_on conn a n d link there silent = go (heard_from x.past (put_on z a n outs.frames) ((z.end_at a).connection_at n) ((y.end_at a).connection_at n) d (after.each a n) there)
      where
        go : (c : Connection) × (((z.end_at a).connection_at n ≡ Some c) × Heard x.past (put_on z a n outs.frames) c d) → QuietOn conn a n d
        go h = record {
          on = h.0;
          there = h.1.0;
          its = h.1.1.its ∙ its_same x.past (put_on z a n outs.frames) h.0 (on_it (λ (f : DownFrame). is_first f.message ≡ false) z conn a n outs.frames (λ m is. one_linked conn m a n link is) silent);
          knew = h.1.1.knew;
          downs = h.1.1.downs;
        }

    -- what was taken of it before

    old_conn : (a n : ℕ) (c : Connection) → (z.end_at a).connection_at n ≡ Some c → (e : Connection) × (((x.end_at a).connection_at n ≡ Some e) × Took e c)
    old_conn a n c there = took_from ((x.end_at a).connection_at n) ((z.end_at a).connection_at n) c (took_at input x a n) there

    -- Welcomes

    -- the connection of a session after the step
    bound_now : (conn s : ℕ) → role_of new conn ≡ Some (Bound s) → BoundIs y new conn s
    bound_now conn s role = of_some (RoleIs y new conn) (role_of new conn) (Bound s) role (node_new.roles conn)

    bound_old : (conn s : ℕ) → role_of old conn ≡ Some (Bound s) → BoundIs x old conn s
    bound_old conn s role = of_some (RoleIs x old conn) (role_of old conn) (Bound s) role (node.roles conn)

    same_app : (conn a n b k : ℕ) → link_of y conn ≡ Some (record { app = a; dial = n }) → link_of y conn ≡ Some (record { app = b; dial = k }) → (a ≡ b) × (n ≡ k)
    same_app conn a n b k i j = same_link a b n k (sym i ∙ j)

    -- nothing was told to it as long as no Welcome is put
    untold_now : (conn s a n : ℕ) (d on : Connection) → BoundTo y new.order s d → d.its ≡ on.its → on.its ≡ None → IsUntold d
    untold_now conn s a n d on bound its none = record { its = its ∙ none; silent = bound.silent (its ∙ none) }

    bound_on : (conn s : ℕ) (b : BoundIs y new conn s) (d : Connection) → (y.end_at b.app).connection_at b.linked.dial ≡ Some d → BoundTo y new.order s d
    bound_on conn s b d there = of_some_and (BoundTo y new.order s) ((y.end_at b.app).connection_at b.linked.dial) d there b.linked.its

    -- a Hello came on it
    hello_at : (conn app a n : ℕ) (c : Connection) → link_of y conn ≡ Some (record { app = a; dial = n }) → (z.end_at a).connection_at n ≡ Some c → LinkedTo z conn app HelloAlone → HelloAlone c
    hello_at conn app a n c link there k = of_some_and HelloAlone ((z.end_at app).connection_at k.dial) c (ap (λ (i : ℕ). (z.end_at i).connection_at k.dial) (sym is.0) ∙ ap (z.end_at a).connection_at (sym is.1) ∙ there) k.its
      where
        is : (a ≡ app) × (n ≡ k.dial)
        is = same_app conn a n app k.dial link (after.links conn ∙ k.link)

    recover_at : (conn app session epoch a n : ℕ) (c : Connection) → link_of y conn ≡ Some (record { app = a; dial = n }) → (z.end_at a).connection_at n ≡ Some c
        → LinkedTo z conn app (RecoverAlone v x app session epoch) → RecoverAlone v x app session epoch c
    recover_at conn app session epoch a n c link there k =
        of_some_and (RecoverAlone v x app session epoch) ((z.end_at app).connection_at k.dial) c
        (ap (λ (i : ℕ). (z.end_at i).connection_at k.dial) (sym is.0) ∙ ap (z.end_at a).connection_at (sym is.1) ∙ there) k.its
      where
        is : (a ≡ app) × (n ≡ k.dial)
        is = same_app conn a n app k.dial link (after.links conn ∙ k.link)

    began_same : (s : ℕ) → (y.lane_at s y.past).began ≡ (lane_of s).began
    began_same s = ap (λ (k : Lane). k.began) (ap (y.lane_at s) lanes.past ∙ lanes.here s)

    low_old : (s : ℕ) → live old.order s ≡ true → length old.order < s → ⊥
    low_old s lives above = absurd (omega (arith, above, live_within old.order ordered s lives))

    -- a connection that was the session's has the same link
    was_at : (conn s a n : ℕ) (c : Connection) → role_of old conn ≡ Some (Bound s) → link_of y conn ≡ Some (record { app = a; dial = n }) → (z.end_at a).connection_at n ≡ Some c
        → (e : Connection) × ((link_of x conn ≡ Some (record { app = a; dial = n })) × (((x.end_at a).connection_at n ≡ Some e) × Took e c))
    was_at conn s a n c was link there =
        (found.0, (b.linked.link ∙ ap (λ (i : ℕ). Some (record { app = i; dial = b.linked.dial })) (sym same_link.0) ∙ ap (λ (i : ℕ). Some (record { app = a; dial = i })) (sym same_link.1), found.1))
      where
        b : BoundIs x old conn s
        b = bound_old conn s was

        same_link : (a ≡ b.app) × (n ≡ b.linked.dial)
        same_link = same_app conn a n b.app b.linked.dial link (still_linked conn (Bound s) (record { app = b.app; dial = b.linked.dial }) was b.linked.link)

        found : (e : Connection) × (((x.end_at a).connection_at n ≡ Some e) × Took e c)
        found = old_conn a n c there

    new_now : (at conn s : ℕ) → NewWaits x old at conn s ⊎ (length old.order < s) → WelcomeGo lane_of new.conns s at conn s
        → AllByRecursion (λ (f : DownOut). f.conn ≡ conn → is_first f.down.message ≡ false) outs.frames → NewWaits y new at conn s
    new_now at conn s origin g silent = record {
      place = g.until;
      bound = g.bound;
      unlearnt = began_same s ∙ g.unlearnt;
      untold = on_dial y conn b.app b.linked.dial WaitsNewOn b.linked.link (λ d there. go d there (quiet_on conn b.app b.linked.dial d b.linked.link there silent) (bounds.whence conn s g.bound));
    }
      where
        b : BoundIs y new conn s
        b = bound_now conn s g.bound

        go : (d : Connection) → (y.end_at b.app).connection_at b.linked.dial ≡ Some d → QuietOn conn b.app b.linked.dial d → Whence t W new.order conn s → WaitsNewOn d
        go d there q (inl was) = by origin
          where
            before : (e : Connection) × ((link_of x conn ≡ Some (record { app = b.app; dial = b.linked.dial })) × (((x.end_at b.app).connection_at b.linked.dial ≡ Some e) × Took e q.on))
            before = was_at conn s b.app b.linked.dial q.on was b.linked.link q.there

            from : WaitsNewOn before.0 → WaitsNewOn d
            from e = record {
              greeted = ap (λ (k : Knew). k.mark) (q.knew ∙ before.1.1.1.knew) ∙ e.greeted;
              untold = untold_now conn s b.app b.linked.dial d q.on (bound_on conn s b d there) q.its (before.1.1.1.its ∙ e.untold.its);
            }

            by : NewWaits x old at conn s ⊎ (length old.order < s) → WaitsNewOn d
            by (inl waits) = from (dial_on x conn b.app b.linked.dial WaitsNewOn before.0 before.1.0 before.1.1.0 waits.untold)
            by (inr fresh) = absurd (low_old s (bound_old conn s was).lives fresh)
        go d there q (inr (inl now)) = from (hello_at conn now.app b.app b.linked.dial q.on b.linked.link q.there (hello_on conn now.app now.called))
          where
            from : HelloAlone q.on → WaitsNewOn d
            from e = record {
              greeted = ap (λ (k : Knew). k.mark) q.knew ∙ e.hello;
              untold = untold_now conn s b.app b.linked.dial d q.on (bound_on conn s b d there) q.its e.its;
            }
        go d there q (inr (inr back)) = by origin
          where
            by : NewWaits x old at conn s ⊎ (length old.order < s) → WaitsNewOn d
            by (inl waits) = absurd (let both : Some New ≡ Some (Bound s) = sym back.was_new ∙ waits.bound in cc)
            by (inr fresh) = absurd (let none : app_in old.order s ≡ None = none_opened old.order ordered s fresh in let some : app_in old.order s ≡ Some back.app = back.was_there in cc)

    -- the mark of a Recover in an older epoch, in a list that goes on
    mark_now : (s kept : ℕ) (mk : Mark) → WaitsEpoch v old s kept mk → WaitsEpoch w new s kept mk
    mark_now s kept mk e = record {
      later = omega (arith, e.later, same);
      place = ap (λ (k : ℕ). place_of_epoch k 0 new.order) (lasts mk.order e.later) ∙ place_later (last_epoch (order_at v mk.order)) old.order new.order kept goes_on e.place;
      kept_more = subst (λ (k : ℕ). k ≤ kept) (sym (left mk.order e.later)) e.kept_more;
    }

    epoch_now : (at conn s kept : ℕ) → EpochWaits v x old at conn s kept ⊎ FreshEpoch t conn s kept → WelcomeGo lane_of new.conns (epoch_place new.order) at conn s
        → AllByRecursion (λ (f : DownOut). f.conn ≡ conn → is_first f.down.message ≡ false) outs.frames → EpochWaits w y new at conn s kept
    epoch_now at conn s kept origin g silent = record {
      place = g.until;
      bound = g.bound;
      unlearnt = began_same s ∙ g.unlearnt;
      says = on_dial y conn b.app b.linked.dial (WaitsEpochOn w new s kept) b.linked.link (λ d there. go d there (quiet_on conn b.app b.linked.dial d b.linked.link there silent) origin);
    }
      where
        b : BoundIs y new conn s
        b = bound_now conn s g.bound

        go : (d : Connection) → (y.end_at b.app).connection_at b.linked.dial ≡ Some d → QuietOn conn b.app b.linked.dial d → EpochWaits v x old at conn s kept ⊎ FreshEpoch t conn s kept
            → WaitsEpochOn w new s kept d
        go d there q (inl waits) = from (dial_on x conn b.app b.linked.dial (WaitsEpochOn v old s kept) before.0 before.1.0 before.1.1.0 waits.says)
          where
            before : (e : Connection) × ((link_of x conn ≡ Some (record { app = b.app; dial = b.linked.dial })) × (((x.end_at b.app).connection_at b.linked.dial ≡ Some e) × Took e q.on))
            before = was_at conn s b.app b.linked.dial q.on waits.bound b.linked.link q.there

            knew : d.knew ≡ before.0.knew
            knew = q.knew ∙ before.1.1.1.knew

            marks : (o : Option Mark) → IsSomeAnd o (WaitsEpoch v old s kept) → IsSomeAnd o (WaitsEpoch w new s kept)
            marks None is = is
            marks (Some mk) is = mark_now s kept mk is

            from : WaitsEpochOn v old s kept before.0 → WaitsEpochOn w new s kept d
            from e = record {
              its = ap (λ (k : Knew). k.session) knew ∙ e.its;
              says = subst (λ (k : Knew). IsSomeAnd k.mark (WaitsEpoch w new s kept)) (sym knew) (marks before.0.knew.mark e.says);
              untold = untold_now conn s b.app b.linked.dial d q.on (bound_on conn s b d there) q.its (before.1.1.1.its ∙ e.untold.its);
            }
        go d there q (inr fresh) =
            from (recover_at conn fresh.app s fresh.epoch b.app b.linked.dial q.on b.linked.link q.there (recover_on conn fresh.app s fresh.epoch fresh.taken fresh.dial fresh.came))
          where
            from : RecoverAlone v x fresh.app s fresh.epoch q.on → WaitsEpochOn w new s kept d
            from e = record {
              its = ap (λ (k : Knew). k.session) q.knew ∙ e.mark.session_is;
              says =
                  subst (λ (k : Knew). IsSomeAnd k.mark (WaitsEpoch w new s kept)) (sym q.knew)
                  (subst (λ (o : Option Mark). IsSomeAnd o (WaitsEpoch w new s kept)) (sym e.mark.its) (mark_now s kept mk (record { later = under; place = found; kept_more = behind mk kept under found })));
              untold = untold_now conn s b.app b.linked.dial d q.on (bound_on conn s b d there) q.its e.its;
            }
              where
                mk : Mark
                mk = e.mark.mark

                known : KnewIs v x fresh.app q.on.knew.session mk
                known = of_some (KnewIs v x fresh.app q.on.knew.session) q.on.knew.mark mk e.mark.its e.known

                under : mk.order < current v
                under = less (λ here. absurd (omega (arith, fresh.older, e.mark.epoch_is, ap (λ (k : ℕ). last_epoch (order_at v k)) (here ∙ sym past), ap last_epoch order_v)))
                  where
                    less : mk.order ≢ current v → mk.order < current v
                    less apart = omega (arith, known.there, apart)

                found : place_of_epoch (last_epoch (order_at v mk.order)) 0 old.order ≡ Some kept
                found = sym (ap (λ (k : ℕ). place_of_epoch k 0 old.order) e.mark.epoch_is) ∙ fresh.known

    -- Resets

    nothing : (fs : List DownFrame) → AllByRecursion (λ (f : DownFrame). ⊥) fs → fs ≡ []
    nothing [] all = refl
    nothing (f ∷ fs) all = absurd all.0

    is_plain : (f : DownFrame) → is_first f.message ≡ false → is_reset_frame f ≡ false
    is_plain f is = go f.message is
      where
        go : (m : Down) → is_first m ≡ false → is_reset_down m ≡ false
        go (down.Welcome session epoch kept front taken) plain = refl
        go (down.Reset session at) plain = absurd (true≢false plain)
        go (down.Block front block) plain = refl
        go (down.Drop front lo hi) plain = refl
        go (down.Ack front) plain = refl
        go (down.Grant front ticket at) plain = refl
        go (down.Answer front about job number at sum) plain = refl
        go (down.Normal front) plain = refl
        go down.Bare plain = refl

    unreset : (es fs : List DownFrame) → list_any is_reset_frame es ≡ false → AllByRecursion (λ (f : DownFrame). is_first f.message ≡ false) fs → list_any is_reset_frame (es ++ fs) ≡ false
    unreset [] [] none all = refl
    unreset [] (f ∷ fs) none all = ap (λ (b : Bool). b || list_any is_reset_frame fs) (is_plain f all.0) ∙ unreset [] fs refl all.1
    unreset (e ∷ es) fs none all =
        let split : (is_reset_frame e ≡ false) × (list_any is_reset_frame es ≡ false) = or_parts (is_reset_frame e) (list_any is_reset_frame es) none in
        ap (λ (b : Bool). b || list_any is_reset_frame (es ++ fs)) split.0 ∙ unreset es fs split.1 all

    closing_now : (conn s : ℕ) → role_of new conn ≡ Some (Closing s) → ClosingIs y new conn s
    closing_now conn s role = of_some (RoleIs y new conn) (role_of new conn) (Closing s) role (node_new.roles conn)

    reset_now : (at conn s place : ℕ) → ResetWaits x old at conn s place ⊎ (RecoverOf t conn s ⊎ TickReset t conn s) → ResetGo new.conns new.order at conn s place
        → AllByRecursion (λ (f : DownOut). f.conn ≡ conn → (is_first f.down.message ≡ false) × (TickReset t conn s × (is_some (lane_of s).began ≡ true))) outs.frames
        → ((conn s : ℕ) → input ≡ data_in.Tick → role_of old conn ≡ Some (Bound s) → role_of new conn ≡ Some (Closing s) → IsUnended new.order s (y.lane_at s y.past))
        → ((s : ℕ) → list_any (closes s) old.order ≡ true → (y.lane_at s y.past).down ≡ (lane_of s).down)
        → ResetWaits y new at conn s place
    reset_now at conn s place origin g silent in_tick same_down = record {
      until = g.until;
      closing = g.closing;
      closed = g.closed;
      follows =
          on_dial y conn b.app b.linked.dial (WaitsResetOn new.order s (y.lane_at s y.past)) b.linked.link
          (λ d there. go d (quiet_on conn b.app b.linked.dial d b.linked.link there (all_follow _ (λ (f : DownOut). f.conn ≡ conn → is_first f.down.message ≡ false) (λ f is here. (is here).0) outs.frames silent)) origin);
    }
      where
        b : ClosingIs y new conn s
        b = closing_now conn s g.closing

        only : (m : ℕ) → link_of z m ≡ Some (record { app = b.app; dial = b.linked.dial }) → m ≡ conn
        only m is = one_linked conn m b.app b.linked.dial b.linked.link is

        put : List DownFrame
        put = put_on z b.app b.linked.dial outs.frames

        -- nothing is put but by a tick that closes it
        none_put : (TickReset t conn s → ⊥) → put ≡ []
        none_put not = nothing put (on_it (λ (f : DownFrame). ⊥) z conn b.app b.linked.dial outs.frames only (all_follow _ (λ (f : DownOut). f.conn ≡ conn → ⊥) (λ f is here. not (is here).1.0) outs.frames silent))

        go : (d : Connection) → QuietOn conn b.app b.linked.dial d → ResetWaits x old at conn s place ⊎ (RecoverOf t conn s ⊎ TickReset t conn s) → WaitsResetOn new.order s (y.lane_at s y.past) d
        go d q (inl waits) = from (dial_on x conn b.app b.linked.dial (WaitsResetOn old.order s (lane_of s)) before.0 link_x before.1.0 waits.follows)
          where
            k : ClosingIs x old conn s
            k = of_some (RoleIs x old conn) (role_of old conn) (Closing s) waits.closing (node.roles conn)

            same_link : (b.app ≡ k.app) × (b.linked.dial ≡ k.linked.dial)
            same_link = same_app conn b.app b.linked.dial k.app k.linked.dial b.linked.link (still_linked conn (Closing s) (record { app = k.app; dial = k.linked.dial }) waits.closing k.linked.link)

            link_x : link_of x conn ≡ Some (record { app = b.app; dial = b.linked.dial })
            link_x = k.linked.link ∙ ap (λ (i : ℕ). Some (record { app = i; dial = k.linked.dial })) (sym same_link.0) ∙ ap (λ (i : ℕ). Some (record { app = b.app; dial = i })) (sym same_link.1)

            before : (e : Connection) × (((x.end_at b.app).connection_at b.linked.dial ≡ Some e) × Took e q.on)
            before = old_conn b.app b.linked.dial q.on q.there

            downs : d.downs ≡ before.0.downs
            downs = q.downs ∙ ap (λ (fs : List DownFrame). q.on.downs ++ fs) (none_put (λ tick. (let both : Some (Closing s) ≡ Some (Bound s) = sym waits.closing ∙ tick.was in cc)))
                ∙ append-nil q.on.downs ∙ before.1.1.downs

            its : d.its ≡ before.0.its
            its = q.its ∙ before.1.1.its

            from : WaitsResetOn old.order s (lane_of s) before.0 → WaitsResetOn new.order s (y.lane_at s y.past) d
            from e = record {
              first = ap (list_any is_reset_frame) downs ∙ e.first;
              silent = λ none. downs ∙ e.silent (sym its ∙ none);
              in_round = subst (λ (o : Option Place). IfSome o (λ p. IsUnended new.order s (y.lane_at s y.past))) (sym its) (round before.0.its e.in_round);
            }
              where
                round : (o : Option Place) → IfSome o (λ p. IsUnended old.order s (lane_of s)) → IfSome o (λ p. IsUnended new.order s (y.lane_at s y.past))
                round None is = tt
                round (Some p) is = record {
                  before = ap (λ (n : ℕ). nat_lt n s) place_same ∙ is.before;
                  untold = ap (list_any is_normal_down) (same_down s k.ended) ∙ is.untold;
                }
        go d q (inr (inl rec)) = from (recover_at conn rec.app s rec.epoch b.app b.linked.dial q.on b.linked.link q.there (recover_on conn rec.app s rec.epoch rec.taken rec.dial rec.came))
          where
            from : RecoverAlone v x rec.app s rec.epoch q.on → WaitsResetOn new.order s (y.lane_at s y.past) d
            from e = record {
              first = ap (list_any is_reset_frame) downs;
              silent = λ none. downs;
              in_round = subst (λ (o : Option Place). IfSome o (λ p. IsUnended new.order s (y.lane_at s y.past))) (sym (q.its ∙ e.its)) tt;
            }
              where
                downs : d.downs ≡ []
                downs = q.downs ∙ ap (λ (fs : List DownFrame). q.on.downs ++ fs) (none_put (λ tick. (let both : data_in.Tick ≡ data_in.Frame conn rec.came.up = sym tick.came ∙ rec.came.its in cc)))
                    ∙ append-nil q.on.downs ∙ e.silent
        go d q (inr (inr tick)) = from (of_some_and (BoundTo x old.order s) ((x.end_at k.app).connection_at k.linked.dial) before.0 there_x k.linked.its)
          where
            k : BoundIs x old conn s
            k = bound_old conn s tick.was

            same_link : (b.app ≡ k.app) × (b.linked.dial ≡ k.linked.dial)
            same_link = same_app conn b.app b.linked.dial k.app k.linked.dial b.linked.link (still_linked conn (Bound s) (record { app = k.app; dial = k.linked.dial }) tick.was k.linked.link)

            before : (e : Connection) × (((x.end_at b.app).connection_at b.linked.dial ≡ Some e) × Took e q.on)
            before = old_conn b.app b.linked.dial q.on q.there

            there_x : (x.end_at k.app).connection_at k.linked.dial ≡ Some before.0
            there_x = ap (λ (i : ℕ). (x.end_at i).connection_at k.linked.dial) (sym same_link.0) ∙ ap (x.end_at b.app).connection_at (sym same_link.1) ∙ before.1.0

            plain : AllByRecursion (λ (f : DownFrame). (is_first f.message ≡ false) × (is_some (lane_of s).began ≡ true)) put
            plain =
                on_it (λ (f : DownFrame). (is_first f.message ≡ false) × (is_some (lane_of s).began ≡ true)) z conn b.app b.linked.dial outs.frames only
                (all_follow _ (λ (f : DownOut). f.conn ≡ conn → (is_first f.down.message ≡ false) × (is_some (lane_of s).began ≡ true)) (λ f is here. ((is here).0, (is here).1.1)) outs.frames silent)

            from : BoundTo x old.order s before.0 → WaitsResetOn new.order s (y.lane_at s y.past) d
            from e = record {
              first =
                  ap (list_any is_reset_frame) (q.downs ∙ ap (λ (fs : List DownFrame). fs ++ put) before.1.1.downs)
                  ∙ unreset before.0.downs put e.unreset (all_follow (λ (f : DownFrame). (is_first f.message ≡ false) × (is_some (lane_of s).began ≡ true)) (λ (f : DownFrame). is_first f.message ≡ false) (λ f is. is.0) put plain);
              silent = λ none. q.downs ∙ ap (λ (fs : List DownFrame). fs ++ put) (before.1.1.downs ∙ e.silent (old_its none)) ∙ quiet (old_its none) put plain;
              in_round = all_round d.its (in_tick conn s tick.came tick.was g.closing);
            }
              where
                old_its : d.its ≡ None → before.0.its ≡ None
                old_its none = sym before.1.1.its ∙ sym q.its ∙ none

                quiet : before.0.its ≡ None → (fs : List DownFrame) → AllByRecursion (λ (f : DownFrame). (is_first f.message ≡ false) × (is_some (lane_of s).began ≡ true)) fs → fs ≡ []
                quiet none [] all = refl
                quiet none (f ∷ fs) all = absurd (let some : before.0.its ≡ Some (record { session = s; order = x.past }) = e.told all.0.1 in cc)

                all_round : (o : Option Place) → IsUnended new.order s (y.lane_at s y.past) → IfSome o (λ p. IsUnended new.order s (y.lane_at s y.past))
                all_round None is = tt
                all_round (Some p) is = is

    -- All of them.

    -- what is known of each as the step is made
    pub record ReplyMade (r : Reply) : Type 0 where
      pub origin : Origin v x t r
      pub says : SaysGo lane_of new.conns new.order r.at r.says
      pub silent : SilentFor lane_of t outs.frames r.says
      pub served : SaysServed lane_of new.order r.says
      pub unsynced : new.synced < r.at

    pub reply_now : ((conn s : ℕ) → input ≡ data_in.Tick → role_of old conn ≡ Some (Bound s) → role_of new conn ≡ Some (Closing s) → IsUnended new.order s (y.lane_at s y.past))
        → ((s : ℕ) → list_any (closes s) old.order ≡ true → (y.lane_at s y.past).down ≡ (lane_of s).down) → (r : Reply) → ReplyMade r → ReplyWaits w y new r
    reply_now in_tick same_down r k = record { unsynced = k.unsynced; says = go r.at r.says (either k.origin) k.says k.silent k.served }
      where
        either : Origin v x t r → WaitsFor v x old r.at r.says ⊎ FreshSays t r.says
        either (inl waits) = inl waits.says
        either (inr fresh) = inr fresh

        served : (s : ℕ) → Served lane_of new.order s → IsServed y new s
        served s is = record { lives = is.0; learnt = ap (λ (o : Option ℕ). is_some o) (began_same s) ∙ is.1 }

        go : (at : ℕ) (says : Says) → WaitsFor v x old at says ⊎ FreshSays t says → SaysGo lane_of new.conns new.order at says → SilentFor lane_of t outs.frames says → SaysServed lane_of new.order says
            → WaitsFor w y new at says
        go at (NewWelcome conn s) origin g silent is = new_now at conn s origin g silent
        go at (EpochWelcome conn s kept) origin g silent is = epoch_now at conn s kept origin g silent
        go at (ResetOf conn s place) origin g silent is = reset_now at conn s place origin g silent in_tick same_down
        go at (GrantOf s ticket number) origin g silent is = served s is
        go at (AnswerOf s about job number place sum) origin g silent is = served s is
