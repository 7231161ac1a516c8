-- What is on its way on a connection that carries no session's messages yet, where a step of its data server puts nothing on it: a Welcome
-- of a new session, a Reset, or nothing.
use Rattle.std.proofs.Common.{Bool, List, None, Option, Some, [], ap, arith, drop, false, inl, is_some, length, refl, subst, suc, sym, true, zero, ℕ, ◌∙◌}
use Rattle.std.proofs.Common.{◌∷◌, ◌≡◌, ◌≢◌, ◌≤◌}
use Rattle.std.proofs.lemmas.Bool.{true≢false}
use Rattle.std.proofs.lemmas.List.{length-append}
use Rattle.std.specs.Prelude.{IfSome, IsSomeAnd}
use Rattle.app_rules.specs.AppState.{Session}
use Rattle.cluster_invariant.specs.Link.{AskedFirst, AskedWay, GreetedFirst, GreetedWay, NewWelcomeOn, ResetIs, ResetOn, WholeIf}
use Rattle.cluster_invariant.specs.Words.{stays_at}
use Rattle.cluster_runs.specs.Machine.{Site}
use Rattle.cluster_runs.specs.Sent.{Connection, FirstTaken, Lane, Place}
use Rattle.ecp_messages.specs.declared.down.Down.{Down}
use Rattle.ecp_messages.specs.declared.down.Down.TheVariants.{Ack, Answer, Bare, Block, Drop, Grant, Normal, Reset, Welcome}
use Rattle.ecp_messages.specs.declared.down.DownFrame.{DownFrame}
use Rattle.ecp_messages.specs.declared.front.Front.{Front}
use Rattle.link_kept.proofs.AppLater.{LaneLater, reset_later, unmet_later}
use Rattle.link_kept.proofs.Later.{EnteredStays, Later}
use Rattle.plain_orders.specs.declared.entry.Entry.{Entry}
use Rattle.plain_runs.specs.Plain.{Server, current, order_at}

-- places that are the same have the same session and order
some_place : (a b : Place) → Some a ≡ Some b → a ≡ b
some_place a b same = cc

pub places_same : (s k r j : ℕ) → ◌≡◌ {A = Option Place} (Some (record { session = s; order = k })) (Some (record { session = r; order = j }))
    → (s ≡ r) × (k ≡ j)
places_same s k r j same = (ap (λ (p : Place). p.session) both, ap (λ (p : Place). p.order) both)
  where
    both : ◌≡◌ {A = Place} (record { session = s; order = k }) (record { session = r; order = j })
    both = some_place (record { session = s; order = k }) (record { session = r; order = j }) same

-- a message is a Welcome
abbrev pub is_welcome : Down → Bool
is_welcome (Welcome session epoch kept front taken) = true
is_welcome m = false

-- the first of some frames is one
abbrev pub has_welcome : List DownFrame → Bool
has_welcome [] = false
has_welcome (f ∷ fs) = is_welcome f.message

-- nothing is left of what wasn't put
pub none_dropped : (k : ℕ) (fs : List DownFrame) → fs ≡ [] → drop k fs ≡ []
none_dropped zero fs is = is
none_dropped (suc k) [] is = refl
none_dropped (suc k) (f ∷ fs) is = absurd cc

-- a session that the connection of an end that greets carries didn't learn of the order
pub greeted_unlearnt : (v : Server) (x : Site) (app told : ℕ) (c : Connection) (left : List DownFrame) → GreetedWay v x app told c left → (s k : ℕ)
    → c.its ≡ Some (record { session = s; order = k })
    → (x.lane_at s k).began ≡ None
greeted_unlearnt v x app told c [] way s k its = absurd (none_some c.its way its)
  where
    none_some : (o : Option Place) → o ≡ None → o ≡ Some (record { session = s; order = k }) → ⊥
    none_some o none some = cc
greeted_unlearnt v x app told c (f ∷ fs) way s k its = go f.message way.1
  where
    go : (m : Down) → GreetedFirst v x app told c m → (x.lane_at s k).began ≡ None
    go (Welcome session epoch kept front taken) n = by (places_same session n.order s k (sym n.its ∙ its))
      where
        by : (session ≡ s) × (n.order ≡ k) → (x.lane_at s k).began ≡ None
        by same = sym (ap (λ (z : Lane). z.began) (ap (λ (i : ℕ). x.lane_at i n.order) same.0 ∙ ap (x.lane_at s) same.1)) ∙ n.unmet.unlearnt
    go (Reset session at) n = absurd n
    go (Block front block) n = absurd n
    go (Drop front lo hi) n = absurd n
    go (Ack front) n = absurd n
    go (Grant front ticket place) n = absurd n
    go (Answer front about job number place sum) n = absurd n
    go (Normal front) n = absurd n
    go Bare n = absurd n

module _ (v w : Server) (x y : Site) (later : Later x v w) (lanes : (s k : ℕ) → LaneLater (x.lane_at s k) (y.lane_at s k)) (c d : Connection)
    (its : d.its ≡ c.its)
    (whole : (s k : ℕ) → d.its ≡ Some (record { session = s; order = k }) → (y.lane_at s k).began ≡ None → WholeIf y s k (y.lane_at s k) d []) where
  -- the Welcome of a new session
  new_silent : (app : ℕ) → EnteredStays app v w → (told s epoch kept : ℕ) (front : Front) (taken : ℕ) → NewWelcomeOn v x app told c s epoch kept front taken
      → NewWelcomeOn w y app told d s epoch kept front taken
  new_silent app still told s epoch kept front taken n = record {
    order = n.order;
    its = its ∙ n.its;
    unmet = unmet_later v w x y later (λ q k. (lanes q k).began) app told s n.order still (inl n.synced) n.unmet;
    synced = omega (arith, n.synced, later.stays n.order n.unmet.there);
    its_epoch = n.its_epoch ∙ sym (later.last n.order n.unmet.there);
    stays = omega (arith, n.stays, later.place n.order n.unmet.there, later.stays n.order n.unmet.there);
    from_open = n.from_open;
    within = within;
    kept_all = n.kept_all;
    none_counted = n.none_counted;
    none_synced = n.none_synced;
    none_taken = n.none_taken;
    whole = whole s n.order (its ∙ n.its) ((lanes s n.order).began ∙ n.unmet.unlearnt);
  }
    where
      within : front.n ≤ length (order_at w n.order)
      within =
          subst (λ (l : List Entry). front.n ≤ length l) (sym (later.goes_on n.order n.unmet.there).1)
          (omega (arith, n.within, length-append (order_at v n.order) (later.goes_on n.order n.unmet.there).0))

  greeted_first : (app : ℕ) → EnteredStays app v w → (told : ℕ) (m : Down) → GreetedFirst v x app told c m → GreetedFirst w y app told d m
  greeted_first app still told (Welcome session epoch kept front taken) n = new_silent app still told session epoch kept front taken n
  greeted_first app still told (Reset session at) is = is
  greeted_first app still told (Block front block) is = is
  greeted_first app still told (Drop front lo hi) is = is
  greeted_first app still told (Ack front) is = is
  greeted_first app still told (Grant front ticket at) is = is
  greeted_first app still told (Answer front about job number at sum) is = is
  greeted_first app still told (Normal front) is = is
  greeted_first app still told Bare is = is

  -- an end that greets
  pub greeted_silent : (app : ℕ) → EnteredStays app v w → (told : ℕ) (left : List DownFrame) → GreetedWay v x app told c left → GreetedWay w y app told d left
  greeted_silent app still told [] is = its ∙ is
  greeted_silent app still told (f ∷ fs) is = (is.0, greeted_first app still told f.message is.1, is.2)

  module _ (s : Session) (k : ℕ) (first : is_some c.first ≡ true → d.first ≡ c.first) (firsts : IfSome c.first (λ f. f.order ≤ current v)) where
    reset_on : (m : Down) → ResetOn v s.number c m → ResetOn w s.number d m
    reset_on m is = go c.first refl firsts is
      where
        go : (o : Option FirstTaken) → c.first ≡ o → IfSome o (λ f. f.order ≤ current v)
            → IsSomeAnd o (λ f. ResetIs (order_at v f.order) (stays_at v f.order) s.number m) → ResetOn w s.number d m
        go None was low at = absurd at
        go (Some f) was low at =
            subst (λ (o : Option FirstTaken). IsSomeAnd o (λ f. ResetIs (order_at w f.order) (stays_at w f.order) s.number m))
            (sym (first (ap (λ (o : Option FirstTaken). is_some o) was) ∙ was))
            (reset_later (order_at v f.order) (order_at w f.order) (stays_at v f.order) (stays_at w f.order) s.number m (later.goes_on f.order low)
            (later.stays f.order low) at)

    asked_first : (m : Down) (behind : List DownFrame) → is_welcome m ≡ false → AskedFirst v x s k c behind m → AskedFirst w y s k d behind m
    asked_first (Welcome session epoch kept front taken) behind other is = absurd (true≢false other)
    asked_first (Reset session at) behind other is = (reset_on (Reset session at) is.0, is.1)
    asked_first (Block front block) behind other is = is
    asked_first (Drop front lo hi) behind other is = is
    asked_first (Ack front) behind other is = is
    asked_first (Grant front ticket at) behind other is = is
    asked_first (Answer front about job number at sum) behind other is = is
    asked_first (Normal front) behind other is = is
    asked_first Bare behind other is = is

    -- an end that asked, without a Welcome first
    pub asked_silent : (left : List DownFrame) → has_welcome left ≡ false → AskedWay v x s k c left → AskedWay w y s k d left
    asked_silent [] other is = its ∙ is
    asked_silent (f ∷ fs) other is = (is.0, asked_first f.message fs other is.1)
