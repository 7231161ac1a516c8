-- A connection that an application server makes: what it puts first on it says just what it knows, and the connections are numbered on.
use Rattle.std.proofs.Common.{◌≡◌, ◌≢◌, ◌≤◌, ◌<◌, ℕ, zero, suc, ◌+◌, Bool, true, false, [], ◌∷◌, Option, Some, None, is_some, refl, sym, ◌∙◌, ap, subst, arith}
use Rattle.std.specs.Prelude.{IfSome, IsSomeAnd, nat_lt}
use Rattle.std.proofs.lemmas.Bool.{false≢true, ltb-true, ltb-false, lt-ltb, le-ltb}
use Rattle.plain_runs.specs.Plain.{Server, Session as PlainSession, current, order_at}
use Rattle.app_rules.specs.AppState.{Session}
use Rattle.data_rules.specs.Places.{epoch_place}
use Rattle.cluster_runs.specs.Sent.{Knew, Place}
use Rattle.cluster_runs.specs.Machine.{Site, End}
use Rattle.cluster_runs.specs.Connections.{knows_of, fresh_connection, with_ups}
use Rattle.cluster_invariant.specs.Dials.{ConnectionIs, KnewIs, first_frame, is_made}
use Rattle.cluster_invariant.specs.Ends.{ToldPlace}
use Rattle.cluster_invariant.specs.Link.{WindowIs}
use Rattle.cluster_invariant.specs.Words.{stays_at}

-- What an end with a session knows is so.
pub knows_is : (v : Server) (x : Site) (app : ℕ) (o : Option Session) (p : Option Place) (told : ℕ) → IfSome o (λ s. ToldPlace v app s p)
    → IfSome o (λ s. IfSome p (λ z. WindowIs s.window (x.lane_at s.number z.order).up (x.lane_at s.number z.order).up_taken (x.lane_at s.number z.order).down_taken))
    → IfSome o (λ s. IfSome p (λ z. is_some (x.lane_at s.number z.order).began ≡ true))
    → IfSome (knows_of o p told).mark (KnewIs v x app (knows_of o p told).session)
knows_is v x app None p told place window begun = tt
knows_is v x app (Some s) None told place window begun = tt
knows_is v x app (Some s) (Some z) told place window begun = record {
  there = subst (λ (k : ℕ). k ≤ current v) (sym same) place.there;
  told = met (v.session_at s.number) place.met;
  begun = begun;
  taken = omega (arith, window.taken);
  stays = subst (λ (k : ℕ). epoch_place (order_at v k) ≤ stays_at v k) (sym same) place.stays;
}
  where
    order_or : Option Place → ℕ
    order_or None = 0
    order_or (Some q) = q.order

    same : z.order ≡ place.order
    same = ap order_or place.its

    met : (t : Option PlainSession) → IsSomeAnd t (λ u. (u.app ≡ app) × (u.told ≡ place.order)) → IsSomeAnd t (λ u. (u.app ≡ app) × (z.order ≤ u.told))
    met None is = absurd is
    met (Some u) is = (is.0, omega (arith, is.1, same))

-- The connection with its first frame.
pub made_is : (w : Server) (y : Site) (app number : ℕ) (knew : Knew) → IfSome knew.mark (KnewIs w y app knew.session)
    → ConnectionIs w y app number (with_ups (first_frame w app number knew ∷ []) (fresh_connection knew))
made_is w y app number knew known = record {
  first = refl;
  behind = refl;
  ups_taken = omega arith;
  downs_taken = omega arith;
  alone = λ none. refl;
  silent = λ none. refl;
  linked = refl;
  taken = refl;
  where_taken = tt;
  data_left = refl;
  its = tt;
  known = known;
}

-- the connections are numbered on

made_low : (dial number : ℕ) → is_made dial number ≡ true → number ≤ dial
made_low dial zero is = omega arith
made_low dial (suc number) is = omega (arith, ltb-true number dial is)

-- no connection of the next number was made
pub none_next : (dial : ℕ) → is_made dial (dial + 1) ≡ false
none_next dial = go (is_made dial (dial + 1)) refl
  where
    go : (b : Bool) → is_made dial (dial + 1) ≡ b → b ≡ false
    go true is = absurd (omega (arith, made_low dial (dial + 1) is))
    go false is = refl

-- with it those are made that were
pub made_next : (dial number : ℕ) → number ≢ dial + 1 → is_made (dial + 1) number ≡ is_made dial number
made_next dial zero other = refl
made_next dial (suc number) other = go (nat_lt number dial) refl
  where
    go : (b : Bool) → nat_lt number dial ≡ b → nat_lt number (dial + 1) ≡ b
    go true is = lt-ltb number (dial + 1) (omega (arith, ltb-true number dial is))
    go false is = le-ltb number (dial + 1) (omega (arith, ltb-false number dial is, other))

pub made_it : (dial : ℕ) → is_made (dial + 1) (dial + 1) ≡ true
made_it dial = go (is_made (dial + 1) (dial + 1)) refl
  where
    low : (number : ℕ) → number ≢ 0 → number ≤ dial + 1 → is_made (dial + 1) number ≡ true
    low zero some is = absurd (some refl)
    low (suc number) some is = lt-ltb number (dial + 1) (omega (arith, is))

    go : (b : Bool) → is_made (dial + 1) (dial + 1) ≡ b → b ≡ true
    go true is = refl
    go false is = absurd (false≢true (sym is ∙ low (dial + 1) (λ none. absurd (omega (arith, none))) (omega arith)))

-- each that was made is below it
pub made_above : (e : End) → ((number : ℕ) → is_some (e.connection_at number) ≡ is_made e.state.dial number) → (before : ℕ)
    → is_some (e.connection_at before) ≡ true → before < e.state.dial + 1
made_above e made before there = omega (arith, made_low e.state.dial before (sym (made before) ∙ there))
