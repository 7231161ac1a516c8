-- What an application server is told as it meets a session, or learns of a new epoch; the others' ends stay as they were.
use Rattle.std.proofs.Common.{◌≡◌, ◌≢◌, ◌<◌, ◌≤◌, ℕ, Option, Some, None, option_map, refl, sym, ◌∙◌, ap, subst, arith, false}
use Rattle.std.specs.Prelude.{IfSome, IsSomeAnd, unwrap_or}
use Rattle.plain_orders.specs.declared.layout.Layout.{Layout}
use Rattle.plain_orders.specs.Entries.{last_epoch}
use Rattle.plain_runs.specs.Plain.{Server, Session as PlainSession, Entered, current, order_at}
use Rattle.plain_runs.specs.EndRows.{begun_by, met_by, new_session, told_of}
use Rattle.plain_runs.proofs.RunLemmas.{at_put}
use Rattle.data_rules.specs.Places.{epoch_place}
use Rattle.app_rules.specs.AppState.{Session}
use Rattle.cluster_runs.specs.Sent.{Place}
use Rattle.cluster_runs.specs.Machine.{End}
use Rattle.cluster_invariant.specs.Ends.{AppTold, ToldPlace, MetBelow}
use Rattle.cluster_invariant.specs.Words.{stays_at}
use Rattle.cluster_invariant.proofs.Small.{at_places, of_some, put_same}
use Rattle.told_kept.proofs.ToldStays.{MetKept, MetsKept}

pub met_same : (a : ℕ) (o : Option PlainSession) → MetKept a o o
met_same a None = tt
met_same a (Some s) = (refl, λ is. refl)

-- the order that is told, and what stays of it
pub record OrderTold (v : Server) (order epoch : ℕ) : Type 0 where
  pub there : order ≤ current v
  pub its_epoch : epoch ≡ last_epoch (order_at v order)
  pub stays : epoch_place (order_at v order) ≤ stays_at v order

-- what the end has then
pub record EndHas (f : End) (t : Session) (greatest n k newest : ℕ) : Type 0 where
  pub told : f.state.told ≡ greatest
  pub session : f.state.session ≡ Some t
  pub number : t.number ≡ n
  pub epoch : t.epoch ≡ newest
  pub place : f.told ≡ Some (record { session = n; order = k })

-- a new session

pub met_beside : (l : Layout) (v : Server) (app session a : ℕ) → v.session_at session ≡ None → a ≢ app → MetsKept a v (met_by l v app session)
met_beside l v app session a none differs n =
    at_put (MetKept a) v.session_at session (Some (new_session v app session)) (met_same a)
    (subst (λ (o : Option PlainSession). MetKept a o (Some (new_session v app session))) (sym none) (λ is. differs (sym is))) n

pub met_now : (l : Layout) (v : Server) (app session order epoch old : ℕ) (f : End) (t : Session) → EndHas f t session session order epoch → OrderTold v order epoch → session ≤ v.synced → session ≤ stays_at v order → old < session
    → ((n : ℕ) → MetBelow app old n (v.session_at n)) → v.entered_at session ≡ Some (record { app = app; in_order = order; lost_since = false }) → AppTold (met_by l v app session) app f
met_now l v app session order epoch old f t has o synced stands above met entered = record {
  synced = omega (arith, has.told, synced);
  newest = subst (λ (q : Option Session). IfSome q (λ s. s.number ≡ f.state.told)) (sym has.session) (has.number ∙ sym has.told);
  met = λ number. subst (λ n. MetBelow app n number (w.session_at number)) (sym has.told)
      (at_places (λ n q. MetBelow app session n q) v.session_at session (Some (new_session v app session)) (λ is. omega arith) (λ n other. rises n (v.session_at n) (met n)) number);
  place = subst (λ (p : Option Place). IfSome f.state.session (λ s. ToldPlace w app s p)) (sym has.place) (subst (λ (q : Option Session). IfSome q (λ s. ToldPlace w app s here)) (sym has.session) place);
}
  where
    w : Server
    w = met_by l v app session

    here : Option Place
    here = Some (record { session = session; order = order })

    rises : (n : ℕ) (q : Option PlainSession) → MetBelow app old n q → MetBelow app session n q
    rises n None h = tt
    rises n (Some s) h = λ is. omega (arith, h is, above)

    place : ToldPlace w app t here
    place = record {
      order = order;
      its = ap (λ (n : ℕ). Some (record { session = n; order = order })) (sym has.number);
      there = o.there;
      met = subst (λ (n : ℕ). IsSomeAnd (w.session_at n) (λ s. (s.app ≡ app) × (s.told ≡ order))) (sym has.number)
          (subst (λ (q : Option PlainSession). IsSomeAnd q (λ s. (s.app ≡ app) × (s.told ≡ order))) (sym (put_same v.session_at session (Some (new_session v app session))))
          (refl, ap (λ (q : Option Entered). (unwrap_or q (record { app = 0; in_order = 0; lost_since = false })).in_order) entered));
      epoch = has.epoch ∙ o.its_epoch;
      stays = o.stays;
      within = omega (arith, has.number, stands);
    }

-- a new epoch

pub learnt_beside : (l : Layout) (v : Server) (app session epoch kept a : ℕ) → IsSomeAnd (v.session_at session) (λ t. t.app ≡ app) → a ≢ app → MetsKept a v (told_of l v app session epoch kept)
learnt_beside l v app session epoch kept a its differs n = at_put (MetKept a) v.session_at session _ (met_same a) (go (v.session_at session) its) n
  where
    go : (o : Option PlainSession) → IsSomeAnd o (λ t. t.app ≡ app) → MetKept a o (option_map (λ (m : PlainSession). record m { told = begun_by v epoch }) o)
    go None h = absurd h
    go (Some s) h = (refl, λ is. absurd (differs (sym is ∙ h)))

pub learnt_now : (l : Layout) (v : Server) (app session epoch kept order : ℕ) (e f : End) (s t : Session) → EndHas f t e.state.told session order epoch → OrderTold v order epoch → session ≤ stays_at v order → begun_by v epoch ≡ order
    → e.state.session ≡ Some s → s.number ≡ session → IsSomeAnd (v.session_at session) (λ x. x.app ≡ app) → AppTold v app e → AppTold (told_of l v app session epoch kept) app f
learnt_now l v app session epoch kept order e f s t has o stands begun had its whose h = record {
  synced = omega (arith, has.told, h.synced);
  newest = subst (λ (q : Option Session). IfSome q (λ s. s.number ≡ f.state.told)) (sym has.session) (has.number ∙ sym its ∙ of_some (λ y. y.number ≡ e.state.told) e.state.session s had h.newest ∙ sym has.told);
  met = λ number. subst (λ n. MetBelow app n number (w.session_at number)) (sym has.told)
      (at_places (λ n q. MetBelow app e.state.told n q) v.session_at session (option_map learn (v.session_at session)) (below (v.session_at session) (h.met session)) (λ n other. h.met n) number);
  place = subst (λ (p : Option Place). IfSome f.state.session (λ s. ToldPlace w app s p)) (sym has.place) (subst (λ (q : Option Session). IfSome q (λ s. ToldPlace w app s here)) (sym has.session) place);
}
  where
    w : Server
    w = told_of l v app session epoch kept

    learn : PlainSession → PlainSession
    learn m = record m { told = begun_by v epoch }

    here : Option Place
    here = Some (record { session = session; order = order })

    below : (q : Option PlainSession) → MetBelow app e.state.told session q → MetBelow app e.state.told session (option_map learn q)
    below None h = tt
    below (Some s) h = h

    met_as : (q : Option PlainSession) → IsSomeAnd q (λ x. x.app ≡ app) → IsSomeAnd (option_map learn q) (λ x. (x.app ≡ app) × (x.told ≡ order))
    met_as None h = absurd h
    met_as (Some s) h = (h, begun)

    place : ToldPlace w app t here
    place = record {
      order = order;
      its = ap (λ (n : ℕ). Some (record { session = n; order = order })) (sym has.number);
      there = o.there;
      met = subst (λ (n : ℕ). IsSomeAnd (w.session_at n) (λ s. (s.app ≡ app) × (s.told ≡ order))) (sym has.number)
          (subst (λ (q : Option PlainSession). IsSomeAnd q (λ s. (s.app ≡ app) × (s.told ≡ order))) (sym (put_same v.session_at session (option_map learn (v.session_at session)))) (met_as (v.session_at session) whose));
      epoch = has.epoch ∙ o.its_epoch;
      stays = o.stays;
      within = omega (arith, has.number, stands);
    }
