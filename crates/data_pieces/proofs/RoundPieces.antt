-- A data server's ends keep what holds of them as a round ends, and at a tick that an end outlasts.
use Rattle.std.proofs.Common.{◌≡◌, ◌≢◌, ◌<◌, ◌⊎◌, inl, inr, ◌||◌, ℕ, Bool, true, false, List, [], ◌∷◌, ◌++◌, length, Option, Some, None, is_some, option_map, refl, sym, ◌∙◌, ap, subst, eqb}
use Rattle.std.specs.Prelude.{get_or, IfSome, IsSomeAnd}
use Rattle.std.specs.List.{list_any}
use Rattle.std.proofs.lemmas.Bool.{eqb-true, eq-eqb, ne_eqb, false≢true}
use Rattle.std.proofs.lemmas.List.{get_or-set_other, get_or-set_same, length-set}
use Rattle.plain_orders.specs.declared.act.Act.TheVariants as act
use Rattle.plain_orders.specs.declared.causes.PairEnd.TheVariants as ends
use Rattle.plain_orders.specs.declared.entry.Entry.{Entry}
use Rattle.plain_orders.specs.declared.layout.Layout.{Layout}
use Rattle.plain_orders.specs.Entries.{last_epoch, live_session}
use Rattle.plain_orders.specs.Ordered.{IsOrdered}
use Rattle.plain_runs.specs.EndRows.{broke_server}
use Rattle.plain_runs.specs.OrderRows.{came_back}
use Rattle.plain_runs.specs.Plain.{Plain, Server}
use Rattle.link_states.specs.declared.data_link.DataLink.{DataLink}
use Rattle.link_states.specs.declared.data_link.DataLink.TheVariants.{Free, Normal, Trouble, Recovering}
use Rattle.link_states.specs.declared.link_event.LinkEvent.TheVariants.{RoundOver, Ticked}
use Rattle.link_states.specs.Tables.{data_next}
use Rattle.recovery_round.specs.RoundWords.{Round}
use Rattle.data_rules.specs.DataState.{DataState}
use Rattle.data_rules.specs.declared.limits.TheConstants.{APP_LIMIT}
use Rattle.data_rules.specs.declared.rows.Conn.{Conn}
use Rattle.data_rules.specs.Puts.{Sofar, becomes}
use Rattle.data_rules.specs.Conns.{link_of, with_event}
use Rattle.data_rules.specs.Opening.{breaks_unless, ends_among, with_end}
use Rattle.cluster_invariant.specs.Ends.{LinkIs, due_in}
use Rattle.cluster_invariant.specs.Words.{is_same}
use Rattle.cluster_invariant.proofs.PieceKinds.{end_back, ends_back}
use Rattle.cluster_invariant.proofs.PiecesOfRounds.{back_written}
use Rattle.cluster_invariant.proofs.Small.{put_same, put_other}
use Rattle.data_pieces.proofs.ConnLists.{Differ, conn_for}
use Rattle.data_pieces.proofs.LinksGo.{LinksGo, link_same, links_set}
use Rattle.data_pieces.proofs.PlainView.{view, view_back, view_broke}

-- a tick

pub links_ticks : (d : ℕ) (v : Server) (n : DataState) (app now : ℕ) → data_next n.times now (link_of n app) Ticked ≡ link_of n app → LinksGo d v n → LinksGo d v (with_event app now Ticked n)
links_ticks d v n app now same h = record {
  server = h.server;
  ordered = h.ordered;
  started = h.started;
  order = h.order;
  differ = h.differ;
  places = length-set n.links app _ ∙ h.places;
  links = links_set v v n (with_event app now Ticked n) app (data_next n.times now (link_of n app) Ticked) refl h.places
      (λ low. subst (LinkIs v (with_event app now Ticked n) app) (sym same)
      (link_same v v n (with_event app now Ticked n) app (link_of n app) (λ broke at. refl) refl refl (λ s at. refl) (h.links app low)))
      (λ a differs link is. link_same v v n (with_event app now Ticked n) a link (λ broke at. refl) refl refl (λ s at. refl) is) h.links;
  due = h.due;
  unbroken = h.unbroken;
}

-- the end of a round

-- an end as the round ends: it has gone on, or it recovers and its turn is to come
abbrev HasGone : Server → DataState → ℕ → ℕ → DataLink → Type 0
HasGone v n now app link = LinkIs v n app link × ((broke : ℕ) → link ≡ Trouble broke → broke ≡ now)

abbrev ToCome : List ℕ → ℕ → DataLink → Type 0
ToCome apps app link = (due : ℕ) × ((link ≡ Recovering due) × (list_any (is_same app) apps ≡ true))

-- all of them
record GoBack (d now : ℕ) (es : List Entry) (cs : List Conn) (apps : List ℕ) (v : Server) (n : DataState) : Type 0 where
  server : n.server ≡ d
  order : n.order ≡ es
  conns : n.conns ≡ cs
  round : n.round ≡ None
  places : length n.links ≡ APP_LIMIT
  plain : v.order ≡ es
  due : v.due ≡ None
  links : (app : ℕ) → app < APP_LIMIT → HasGone v n now app (link_of n app) ⊎ (is_some (live_session es app) ≡ true) × ToCome apps app (link_of n app)

-- one of them, by whether its session has a connection
abbrev back_by : Bool → ℕ → ℕ → Sofar → Sofar
back_by joined app now b = breaks_unless joined app now (becomes (with_event app now (RoundOver joined)) b)

abbrev back_plain : Bool → ℕ → ℕ → Server → Server
back_plain true app now v = v
back_plain false app now v = broke_server v app now

back_view : (l : Layout) (p : Plain) (d k : ℕ) (joined : Bool) (app now : ℕ) (b : Sofar) → b.state.server ≡ d → view l p d k (back_by joined app now b).outs.acts ≡ back_plain joined app now (view l p d k b.outs.acts)
back_view l p d k true app now b its = refl
back_view l p d k false app now b its = ap (λ (q : ℕ). view l p d k (b.outs.acts ++ act.Broke app q ends.Server now ∷ [])) its ∙ view_broke l p d k b.outs.acts app now

-- what it makes of a link that recovers or has gone on
back_link : (v : Server) (n k : DataState) (now app s : ℕ) (joined : Bool) (link : DataLink) → is_some (conn_for s n.conns) ≡ joined → k.order ≡ n.order → k.conns ≡ n.conns → k.round ≡ None → live_session n.order app ≡ Some s
    → HasGone v n now app link ⊎ ((due : ℕ) × (link ≡ Recovering due)) → HasGone (back_plain joined app now v) k now app (data_next n.times now link (RoundOver joined))
back_link v n k now app s joined link its order conns none has was = go joined link its was
  where
    live_is : live_session k.order app ≡ Some s
    live_is = ap (λ (es : List Entry). live_session es app) order ∙ has

    has_conn : is_some (conn_for s n.conns) ≡ true → IsSomeAnd (live_session k.order app) (λ q. is_some (conn_for q k.conns) ≡ true)
    has_conn is = subst (λ (o : Option ℕ). IsSomeAnd o (λ q. is_some (conn_for q k.conns) ≡ true)) (sym live_is) (ap (λ (cs : List Conn). is_some (conn_for s cs)) conns ∙ is)

    no_conn : is_some (conn_for s n.conns) ≡ false → IsSomeAnd (live_session k.order app) (λ q. conn_for q k.conns ≡ None)
    no_conn is = subst (λ (o : Option ℕ). IsSomeAnd o (λ q. conn_for q k.conns ≡ None)) (sym live_is) (ap (conn_for s) conns ∙ none_is (conn_for s n.conns) is)
      where
        none_is : (o : Option ℕ) → is_some o ≡ false → o ≡ None
        none_is None is = refl
        none_is (Some x) is = absurd (false≢true (sym is))

    -- what is known of its connection
    of_live : (P : ℕ → Type 0) → IsSomeAnd (live_session n.order app) P → P s
    of_live P h = subst (λ (o : Option ℕ). IsSomeAnd o P) has h

    same_broke : (x : ℕ) (y : ℕ) → Trouble x ≡ Trouble y → y ≡ x
    same_broke x y same = cc

    go : (j : Bool) (x : DataLink) → is_some (conn_for s n.conns) ≡ j → HasGone v n now app x ⊎ ((due : ℕ) × (x ≡ Recovering due)) → HasGone (back_plain j app now v) k now app (data_next n.times now x (RoundOver j))
    go j Free is (inl h) = absurd (let free : live_session n.order app ≡ None = h.0 in cc)
    go j Free is (inr h) = absurd (let not : Free ≡ Recovering h.0 = h.1 in cc)
    go true Normal is (inl h) = (record { out_of_round = none; joined = has_conn is }, λ broke at. absurd cc)
    go false Normal is (inl h) = absurd (false≢true (sym is ∙ of_live (λ q. is_some (conn_for q n.conns) ≡ true) h.0.joined))
    go j Normal is (inr h) = absurd (let not : Normal ≡ Recovering h.0 = h.1 in cc)
    go true (Trouble broke) is (inl h) = absurd (false≢true (sym (ap is_some (of_live (λ q. conn_for q n.conns ≡ None) h.0.apart)) ∙ is))
    go false (Trouble broke) is (inl h) = (
      record { out_of_round = none; apart = no_conn is; plain = put_same v.end_at app (Some now) ∙ ap Some (sym (h.1 broke refl)) },
      λ at same. same_broke broke at same ∙ h.1 broke refl,
    )
    go j (Trouble broke) is (inr h) = absurd (let not : Trouble broke ≡ Recovering h.0 = h.1 in cc)
    go true (Recovering due) is was = (record { out_of_round = none; joined = has_conn is }, λ broke at. absurd cc)
    go false (Recovering due) is was =
        (record { out_of_round = none; apart = no_conn is; plain = put_same v.end_at app (Some now) }, λ broke same. same_broke now broke same)

back_other : (v : Server) (app now a : ℕ) (joined : Bool) → a ≢ app → (back_plain joined app now v).end_at a ≡ v.end_at a
back_other v app now a true differs = refl
back_other v app now a false differs = put_other v.end_at app (Some now) a differs

back_rest : (v : Server) (app now : ℕ) (joined : Bool) → ((back_plain joined app now v).order ≡ v.order) × ((back_plain joined app now v).due ≡ v.due)
back_rest v app now true = (refl, refl)
back_rest v app now false = (refl, refl)

-- its turn comes no more
passed : (a : ℕ) (apps : List ℕ) (app : ℕ) → app ≢ a → list_any (is_same app) (a ∷ apps) ≡ true → list_any (is_same app) apps ≡ true
passed a apps app differs is = sym (ap (λ (b : Bool). b || list_any (is_same app) apps) (ne_eqb app a differs)) ∙ is

module _ (l : Layout) (p : Plain) (d k now : ℕ) (es : List Entry) (cs : List Conn) where
  -- an end without a live session isn't among those that recover
  skips : (a : ℕ) (apps : List ℕ) (v : Server) (n : DataState) → live_session es a ≡ None → GoBack d now es cs (a ∷ apps) v n → GoBack d now es cs apps v n
  skips a apps v n none h = record {
    server = h.server;
    order = h.order;
    conns = h.conns;
    round = h.round;
    places = h.places;
    plain = h.plain;
    due = h.due;
    links = λ app low. go app (eqb app a) refl (h.links app low);
  }
    where
      go : (app : ℕ) (b : Bool) → eqb app a ≡ b → HasGone v n now app (link_of n app) ⊎ (is_some (live_session es app) ≡ true) × ToCome (a ∷ apps) app (link_of n app)
          → HasGone v n now app (link_of n app) ⊎ (is_some (live_session es app) ≡ true) × ToCome apps app (link_of n app)
      go app b is (inl x) = inl x
      go app true is (inr x) = absurd (false≢true (sym (ap is_some (ap (live_session es) (eqb-true app a is) ∙ none)) ∙ x.0))
      go app false is (inr x) = inr (x.0, (x.1.0, (x.1.1.0, passed a apps app (λ same. false≢true (sym is ∙ eq-eqb app a same)) x.1.1.1)))

  -- one goes on
  one_back : (a s : ℕ) (apps : List ℕ) (b : Sofar) → live_session es a ≡ Some s → GoBack d now es cs (a ∷ apps) (view l p d k b.outs.acts) b.state
      → (joined : Bool) → is_some (conn_for s b.state.conns) ≡ joined → GoBack d now es cs apps (view l p d k (back_by joined a now b).outs.acts) (back_by joined a now b).state
  one_back a s apps b has h joined its = subst (λ (w : Server). GoBack d now es cs apps w (back_by joined a now b).state) (sym (back_view l p d k joined a now b h.server)) (by joined its)
    where
      v : Server
      v = view l p d k b.outs.acts

      after_one : (j : Bool) → (back_by j a now b).state ≡ with_event a now (RoundOver j) b.state
      after_one true = refl
      after_one false = refl

      here : (j : Bool) → is_some (conn_for s b.state.conns) ≡ j → GoBack d now es cs apps (back_plain j a now (view l p d k b.outs.acts)) (with_event a now (RoundOver j) b.state)
      here j is = record {
        server = h.server;
        order = h.order;
        conns = h.conns;
        round = h.round;
        places = length-set b.state.links a _ ∙ h.places;
        plain = (back_rest (view l p d k b.outs.acts) a now j).0 ∙ h.plain;
        due = (back_rest (view l p d k b.outs.acts) a now j).1 ∙ h.due;
        links = λ app low. go app low (eqb app a) refl;
      }
        where
          n : DataState
          n = with_event a now (RoundOver j) b.state

          turn : HasGone (view l p d k b.outs.acts) b.state now a (link_of b.state a) ⊎ (is_some (live_session es a) ≡ true) × ToCome (a ∷ apps) a (link_of b.state a)
              → HasGone (view l p d k b.outs.acts) b.state now a (link_of b.state a) ⊎ ((due : ℕ) × (link_of b.state a ≡ Recovering due))
          turn (inl x) = inl x
          turn (inr x) = inr (x.1.0, x.1.1.0)

          stays : (app : ℕ) → app ≢ a → (x : DataLink) → HasGone (view l p d k b.outs.acts) b.state now app x ⊎ (is_some (live_session es app) ≡ true) × ToCome (a ∷ apps) app x
              → HasGone (back_plain j a now (view l p d k b.outs.acts)) (with_event a now (RoundOver j) b.state) now app x ⊎ (is_some (live_session es app) ≡ true) × ToCome apps app x
          stays app differs x (inl y) =
              inl (
                link_same (view l p d k b.outs.acts) (back_plain j a now (view l p d k b.outs.acts)) b.state (with_event a now (RoundOver j) b.state) app x
                    (λ broke at. back_other (view l p d k b.outs.acts) a now app j differs) refl refl (λ q at. refl) y.0,
                y.1,
              )
          stays app differs x (inr y) = inr (y.0, (y.1.0, (y.1.1.0, passed a apps app differs y.1.1.1)))

          go : (app : ℕ) → app < APP_LIMIT → (b2 : Bool) → eqb app a ≡ b2
              → HasGone (back_plain j a now (view l p d k b.outs.acts)) (with_event a now (RoundOver j) b.state) now app (link_of (with_event a now (RoundOver j) b.state) app)
              ⊎ (is_some (live_session es app) ≡ true) × ToCome apps app (link_of (with_event a now (RoundOver j) b.state) app)
          go app low true same =
              inl (subst (λ (q : ℕ). HasGone (back_plain j a now (view l p d k b.outs.acts)) (with_event a now (RoundOver j) b.state) now q (link_of (with_event a now (RoundOver j) b.state) q)) (sym (eqb-true app a same))
              (subst (HasGone (back_plain j a now (view l p d k b.outs.acts)) (with_event a now (RoundOver j) b.state) now a)
              (sym (get_or-set_same b.state.links a _ Free (subst (λ (m : ℕ). a < m) (sym h.places) low_a)))
              (back_link (view l p d k b.outs.acts) b.state (with_event a now (RoundOver j) b.state) now a s j (link_of b.state a) is refl refl h.round
              (ap (λ (xs : List Entry). live_session xs a) h.order ∙ has) (turn (h.links a low_a)))))
            where
              low_a : a < APP_LIMIT
              low_a = subst (λ (q : ℕ). q < APP_LIMIT) (eqb-true app a same) low
          go app low false other =
              subst (λ (x : DataLink). HasGone (back_plain j a now (view l p d k b.outs.acts)) (with_event a now (RoundOver j) b.state) now app x ⊎ (is_some (live_session es app) ≡ true) × ToCome apps app x)
              (sym (get_or-set_other b.state.links a app _ Free differs)) (stays app differs (link_of b.state app) (h.links app low))
            where
              differs : app ≢ a
              differs = λ same. false≢true (sym other ∙ eq-eqb app a same)

      by : (j : Bool) → is_some (conn_for s b.state.conns) ≡ j → GoBack d now es cs apps (back_plain j a now (view l p d k b.outs.acts)) (back_by j a now b).state
      by j is = subst (GoBack d now es cs apps (back_plain j a now (view l p d k b.outs.acts))) (sym (after_one j)) (here j is)

  -- all go on
  all_back : (apps : List ℕ) (b : Sofar) → GoBack d now es cs apps (view l p d k b.outs.acts) b.state
      → GoBack d now es cs [] (view l p d k (ends_back (ends_among apps es) now b).outs.acts) (ends_back (ends_among apps es) now b).state
  all_back [] b h = h
  all_back (a ∷ apps) b h = go (live_session es a) refl (λ c. all_back apps c)
    where
      go : (o : Option ℕ) → live_session es a ≡ o
          → ((c : Sofar) → GoBack d now es cs apps (view l p d k c.outs.acts) c.state → GoBack d now es cs [] (view l p d k (ends_back (ends_among apps es) now c).outs.acts) (ends_back (ends_among apps es) now c).state)
          → GoBack d now es cs [] (view l p d k (ends_back (with_end o a (ends_among apps es)) now b).outs.acts) (ends_back (with_end o a (ends_among apps es)) now b).state
      go None none more = more b (skips a apps (view l p d k b.outs.acts) b.state none h)
      go (Some s) has more = more (end_back a s now b) (one_back a s apps b has h (is_some (conn_for s b.state.conns)) refl)

-- where the round was on all ends recover that have a session
goes_back : (d now : ℕ) (apps : List ℕ) (v w : Server) (n k : DataState) → is_some n.round ≡ true → ((app : ℕ) → app < APP_LIMIT → list_any (is_same app) apps ≡ true)
    → k.server ≡ n.server → k.order ≡ n.order → k.conns ≡ n.conns → k.links ≡ n.links → k.round ≡ None → w.order ≡ v.order → w.due ≡ None → LinksGo d v n → GoBack d now n.order n.conns apps w k
goes_back d now apps v w n k on all server order conns links round plain due h = record {
  server = server ∙ h.server;
  order = order;
  conns = conns;
  round = round;
  places = ap (λ (ls : List DataLink). length ls) links ∙ h.places;
  plain = plain ∙ h.order;
  due = due;
  links = λ app low. subst (λ (ls : List DataLink). HasGone w k now app (get_or ls app Free) ⊎ (is_some (live_session n.order app) ≡ true) × ToCome apps app (get_or ls app Free)) (sym links) (go app low (link_of n app) (h.links app low));
}
  where
    off : n.round ≡ None → ⊥
    off none = false≢true (sym (ap is_some none) ∙ on)

    go : (app : ℕ) → app < APP_LIMIT → (x : DataLink) → LinkIs v n app x → HasGone w k now app x ⊎ (is_some (live_session n.order app) ≡ true) × ToCome apps app x
    go app low Free is = inl (ap (λ (es : List Entry). live_session es app) order ∙ is, λ broke at. absurd cc)
    go app low Normal is = absurd (off is.out_of_round)
    go app low (Trouble broke) is = absurd (off is.out_of_round)
    go app low (Recovering due) is = inr (is.has_live, (due, (refl, all app low)))

-- and once all have gone on they are as they are to be
gone_back : (d now : ℕ) (es : List Entry) (cs : List Conn) (v : Server) (n : DataState) → IsOrdered es → last_epoch es ≢ 0 → Differ cs → GoBack d now es cs [] v n → LinksGo d v n
gone_back d now es cs v n ordered started differ h = record {
  server = h.server;
  ordered = subst IsOrdered (sym h.order) ordered;
  started = subst (λ (xs : List Entry). last_epoch xs ≢ 0) (sym h.order) started;
  order = h.plain ∙ sym h.order;
  differ = subst Differ (sym h.conns) differ;
  places = h.places;
  links = λ app low. go app (link_of n app) (h.links app low);
  due = ap (option_map due_in) h.round ∙ sym h.due;
  unbroken = subst (λ (o : Option Round). IfSome o (λ r. (app : ℕ) → v.end_at app ≡ None)) (sym h.round) tt;
}
  where
    go : (app : ℕ) (x : DataLink) → HasGone v n now app x ⊎ (is_some (live_session es app) ≡ true) × ToCome [] app x → LinkIs v n app x
    go app x (inl y) = y.0
    go app x (inr y) = absurd (false≢true y.1.1.1)

-- The round ends.
pub links_round : (l : Layout) (p : Plain) (d k now : ℕ) (apps : List ℕ) (b : Sofar) → is_some b.state.round ≡ true → ((app : ℕ) → app < APP_LIMIT → list_any (is_same app) apps ≡ true)
    → LinksGo d (view l p d k b.outs.acts) b.state
    → LinksGo d (view l p d k (ends_back (ends_among apps b.state.order) now (back_written b)).outs.acts) (ends_back (ends_among apps b.state.order) now (back_written b)).state
links_round l p d k now apps b on all h =
    gone_back d now b.state.order b.state.conns (view l p d k (ends_back (ends_among apps b.state.order) now (back_written b)).outs.acts)
    (ends_back (ends_among apps b.state.order) now (back_written b)).state h.ordered h.started h.differ
    (all_back l p d k now b.state.order b.state.conns apps (back_written b)
    (goes_back d now apps (view l p d k b.outs.acts) (view l p d k (back_written b).outs.acts) b.state (back_written b).state on all refl refl refl refl refl (ap (λ (v : Server). v.order) backs)
    (ap (λ (v : Server). v.due) backs) h))
  where
    backs : view l p d k (b.outs.acts ++ act.Back b.state.server ∷ []) ≡ came_back (view l p d k b.outs.acts)
    backs = ap (λ (q : ℕ). view l p d k (b.outs.acts ++ act.Back q ∷ [])) h.server ∙ view_back l p d k b.outs.acts
