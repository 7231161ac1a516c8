-- A data server's end keeps what holds of it as its connection goes.
use Rattle.std.proofs.Common.{◌≡◌, ◌≢◌, ◌<◌, ◌≤◌, ℕ, Bool, true, false, [], ◌∷◌, ◌++◌, Option, Some, None, option_map, refl, sym, ◌∙◌, ap, subst}
use Rattle.std.specs.Prelude.{IfSome, IsSomeAnd, nat_lt}
use Rattle.std.proofs.lemmas.Bool.{false≢true, ltb-true, ltb-false, lt-ltb}
use Rattle.std.proofs.lemmas.List.{get_or_past, length-set}
use Rattle.plain_orders.specs.declared.act.Act.TheVariants as act
use Rattle.plain_orders.specs.declared.causes.PairEnd.TheVariants as ends
use Rattle.plain_orders.specs.declared.layout.Layout.{Layout}
use Rattle.plain_orders.specs.Entries.{live_session}
use Rattle.plain_orders.specs.Sessions.{app_in}
use Rattle.plain_orders.proofs.LiveSessions.{OneLive, ordered_one_live}
use Rattle.plain_runs.specs.EndRows.{broke_server}
use Rattle.plain_runs.specs.Plain.{Plain, Server}
use Rattle.link_states.specs.declared.data_link.DataLink.{DataLink}
use Rattle.link_states.specs.declared.data_link.DataLink.TheVariants.{Free, Normal, Trouble, Recovering}
use Rattle.link_states.specs.declared.link_event.LinkEvent.TheVariants.{Ended}
use Rattle.link_states.specs.Tables.{data_next}
use Rattle.recovery_round.specs.RoundWords.{Round}
use Rattle.data_rules.specs.DataState.{DataState}
use Rattle.data_rules.specs.declared.limits.TheConstants.{APP_LIMIT}
use Rattle.data_rules.specs.declared.rows.Conn.{Conn}
use Rattle.data_rules.specs.declared.rows.Role.TheVariants.{Bound}
use Rattle.data_rules.specs.Puts.{Sofar, becomes}
use Rattle.data_rules.specs.Conns.{is_normal, link_of, with_link, with_event, without_conn, breaks_if, end_breaks}
use Rattle.cluster_invariant.specs.Ends.{LinkIs}
use Rattle.cluster_invariant.proofs.Small.{put_same, put_other}
use Rattle.data_pieces.proofs.ConnLists.{role_at, conn_for, none_for, for_gone, for_none, differ_gone}
use Rattle.data_pieces.proofs.LinksGo.{LinksGo, link_same, links_set}
use Rattle.data_pieces.proofs.PlainView.{view, view_broke}

-- an end in this state loses its connection
abbrev broken : DataLink → ℕ → ℕ → Sofar → Sofar
broken x app now b = becomes (λ k. with_link app (data_next k.times now x Ended) k) (breaks_if (is_normal x) app now b)

broken_is : (app now : ℕ) (b : Sofar) → end_breaks (Some app) now b ≡ broken (link_of b.state app) app now b
broken_is app now b = go (is_normal (link_of b.state app))
  where
    go : (normal : Bool) → becomes (with_event app now Ended) (breaks_if normal app now b) ≡ becomes (λ k. with_link app (data_next k.times now (link_of b.state app) Ended) k) (breaks_if normal app now b)
    go true = refl
    go false = refl

-- the connection that the session of an application server had, and no other
pub record HadConn (n : DataState) (app session conn : ℕ) : Type 0 where
  pub has : live_session n.order app ≡ Some session
  pub role : role_at conn n.conns ≡ Some (Bound session)
  pub its : conn_for session n.conns ≡ Some conn
  pub only : (m : ℕ) → role_at m n.conns ≡ Some (Bound session) → m ≡ conn

module _ (l : Layout) (p : Plain) (d k : ℕ) (app session conn now : ℕ) (b : Sofar) (h : LinksGo d (view l p d k b.outs.acts) b.state) (had : HadConn b.state app session conn) where
  abbrev n : DataState
  n = b.state

  abbrev v : Server
  v = view l p d k b.outs.acts

  gone : conn_for session (without_conn conn n).conns ≡ None
  gone = ap (option_map (λ (c : Conn). c.number)) (for_none conn session n.conns h.differ had.only)

  -- sessions of others stay
  others : (a s : ℕ) → a ≢ app → live_session n.order a ≡ Some s → conn_for s (without_conn conn n).conns ≡ conn_for s n.conns
  others a s differs at =
      ap (option_map (λ (c : Conn). c.number)) (for_gone conn s n.conns (none_for conn s n.conns h.differ
      (λ bound. differs (same (let both : Some (Bound session) ≡ Some (Bound s) = sym had.role ∙ bound in cc)))))
    where
      live : OneLive n.order
      live = ordered_one_live n.order h.ordered

      same : session ≡ s → a ≡ app
      same is = (let first : app_in n.order s ≡ Some a = live.has_app a s at in let second : app_in n.order session ≡ Some app = live.has_app app session had.has in cc)

  -- what the end becomes, with the plain server after it
  goes : (w : Server) (y : DataLink) → w.order ≡ v.order → w.due ≡ v.due → ((a : ℕ) → a ≢ app → w.end_at a ≡ v.end_at a) → (app < APP_LIMIT → LinkIs w (with_link app y (without_conn conn n)) app y)
      → IfSome n.round (λ r. (a : ℕ) → w.end_at a ≡ None) → LinksGo d w (with_link app y (without_conn conn n))
  goes w y order due ends here unbroken = record {
    server = h.server;
    ordered = h.ordered;
    started = h.started;
    order = order ∙ h.order;
    differ = differ_gone conn n.conns h.differ;
    places = length-set n.links app y ∙ h.places;
    links = links_set v w n (with_link app y (without_conn conn n)) app y refl h.places here
        (λ a differs link is. link_same v w n (with_link app y (without_conn conn n)) a link (λ broke at. ends a differs) refl refl (λ s at. others a s differs at) is) h.links;
    due = h.due ∙ sym due;
    unbroken = unbroken;
  }

  go : (x : DataLink) → LinkIs v n app x → LinksGo d (view l p d k (broken x app now (becomes (without_conn conn) b)).outs.acts) (broken x app now (becomes (without_conn conn) b)).state
  go Free is = absurd (let none : live_session n.order app ≡ None = is in let some : live_session n.order app ≡ Some session = had.has in cc)
  go Normal is =
      subst (λ (w : Server). LinksGo d w (with_link app (Trouble now) (without_conn conn n)))
      (sym (ap (λ (q : ℕ). view l p d k (b.outs.acts ++ act.Broke app q ends.Server now ∷ [])) h.server ∙ view_broke l p d k b.outs.acts app now))
      (goes (broke_server v app now) (Trouble now) refl refl (λ a differs. put_other v.end_at app (Some now) a differs)
      (λ low. record {
        out_of_round = is.out_of_round;
        apart = subst (λ (o : Option ℕ). IsSomeAnd o (λ s. conn_for s (without_conn conn n).conns ≡ None)) (sym had.has) gone;
        plain = put_same v.end_at app (Some now);
      })
      (subst (λ (o : Option Round). IfSome o (λ r. (a : ℕ) → (broke_server v app now).end_at a ≡ None)) (sym is.out_of_round) tt))
  go (Trouble broke) is = absurd (apart (live_session n.order app) had.has is.apart)
    where
      apart : (o : Option ℕ) → o ≡ Some session → IsSomeAnd o (λ s. conn_for s n.conns ≡ None) → ⊥
      apart None at none = none
      apart (Some s) at none = (let same : s ≡ session = cc in let is_none : conn_for session n.conns ≡ None = ap (λ (q : ℕ). conn_for q n.conns) (sym same) ∙ none in let some : conn_for session n.conns ≡ Some conn = had.its in cc)
  go (Recovering due) is = goes v (Recovering due) refl refl (λ a differs. refl) (λ low. record { in_round = is.in_round; has_live = is.has_live }) h.unbroken

  -- one that has no place is Free
  high : nat_lt app APP_LIMIT ≡ false → link_of n app ≡ Free
  high is = get_or_past n.links app Free (subst (λ (m : ℕ). m ≤ app) (sym h.places) (ltb-false app APP_LIMIT is))

  -- The end breaks.
  pub links_breaks : LinksGo d (view l p d k (end_breaks (Some app) now (becomes (without_conn conn) b)).outs.acts) (end_breaks (Some app) now (becomes (without_conn conn) b)).state
  links_breaks = subst (λ (c : Sofar). LinksGo d (view l p d k c.outs.acts) c.state) (sym (broken_is app now (becomes (without_conn conn) b))) (by (nat_lt app APP_LIMIT) refl)
    where
      by : (low : Bool) → nat_lt app APP_LIMIT ≡ low
          → LinksGo d (view l p d k (broken (link_of n app) app now (becomes (without_conn conn) b)).outs.acts) (broken (link_of n app) app now (becomes (without_conn conn) b)).state
      by true is = go (link_of n app) (h.links app (ltb-true app APP_LIMIT is))
      by false is =
          subst (λ (x : DataLink). LinksGo d (view l p d k (broken x app now (becomes (without_conn conn) b)).outs.acts) (broken x app now (becomes (without_conn conn) b)).state) (sym (high is))
          (goes v Free refl refl (λ a differs. refl) (λ low. absurd (false≢true (sym is ∙ lt-ltb app APP_LIMIT low))) h.unbroken)
