-- A pair whose application end made a connection: it is later than all others, and says what the end knows.
use Rattle.std.proofs.Common.{◌≡◌, ◌<◌, ℕ, ◌+◌, Bool, true, false, not, ◌==◌, [], ◌∷◌, Option, Some, None, is_some, if◌then◌else◌, refl, sym, ◌∙◌, ap, subst}
use Rattle.std.specs.Prelude.{IfSome}
use Rattle.std.proofs.lemmas.Bool.{false≢true, eqb-true, eq-eqb}
use Rattle.plain_runs.specs.Plain.{Server}
use Rattle.app_rules.specs.declared.line.Line.{Line}
use Rattle.app_rules.specs.declared.line.Line.TheVariants.{Apart, Trying, Greeting, Asking, Joined}
use Rattle.app_rules.specs.AppState.{AppEnd}
use Rattle.app_rules.specs.Looks.{Shown}
use Rattle.cluster_runs.specs.Sent.{Connection, Knew}
use Rattle.cluster_runs.specs.Machine.{Site, End}
use Rattle.cluster_runs.specs.Connections.{knows, fresh_connection, with_ups}
use Rattle.cluster_runs.specs.Goes.{with_state}
use Rattle.cluster_invariant.specs.Dials.{PairDials, KnewIs, KnowsStill, first_frame, is_made}
use Rattle.cluster_invariant.specs.Words.{NoLess, is_wire, has_wire}
use Rattle.cluster_invariant.proofs.Small.{some_kept}
use Rattle.dials_kept.proofs.ConnectionsGrow.{StaysKnown, GrowTo, knew_later, no_less_same, pair_later}
use Rattle.dials_kept.proofs.NodesGrow.{SameNode, site_grows}
use Rattle.dials_kept.proofs.ShortDials.{grow_same}
use Rattle.dials_kept.proofs.QuietEnds.{no_wire}
use Rattle.dials_kept.proofs.MadeConnections.{made_is, made_it, made_next, none_next, made_above}

-- the connection with its first frame
abbrev pub made_now : Server → ℕ → ℕ → Knew → Connection
made_now w app number knew = with_ups (first_frame w app number knew ∷ []) (fresh_connection knew)

-- an end that made one
abbrev pub with_made : Server → ℕ → AppEnd → Shown → End → End
with_made w app new shown e =
    record (with_state new shown e) { connection_at = λ n. if n == new.dial then Some (made_now w app new.dial (knows e)) else e.connection_at n }

-- What the end's own state is then: the next number, on which it greets or asks.
pub record MadeNext (e : End) (new : AppEnd) (shown : Shown) : Type 0 where
  pub dial : new.dial ≡ e.state.dial + 1
  pub trying : has_wire e.state.line ≡ false
  pub wire : has_wire new.line ≡ true
  pub knows : knows (with_state new shown e) ≡ knows e

pub grow_made : (v w : Server) (x y : Site) → StaysKnown v w → SameNode x y → (app : ℕ) (dead : Bool) (e : End) (new : AppEnd) (shown : Shown) → MadeNext e new shown
    → IfSome (knows e).mark (KnewIs v x app (knows e).session) → PairDials v x dead app e → (number : ℕ)
    → GrowTo x w y app number e (e.connection_at number) ((with_made w app new shown e).connection_at number)
grow_made v w x y later same app dead e new shown next known is number = go (number == new.dial) refl
  where
    here : (o : Option Connection) → is_some o ≡ false → GrowTo x w y app new.dial e o (Some (made_now w app new.dial (knows e)))
    here (Some c) none = absurd (false≢true (sym none))
    here None none = record {
      is =
          made_is w y app new.dial (knows e)
          (some_kept (KnewIs v x app (knows e).session) (KnewIs w y app (knows e).session) (knew_later v w x y later (site_grows x y same) app (knows e).session)
          (knows e).mark known);
      knew = refl;
      its = refl;
      first = refl;
      above = λ before there. subst (λ (n : ℕ). before < n) (sym next.dial) (made_above e is.made before there);
    }

    go : (b : Bool) → (number == new.dial) ≡ b
        → GrowTo x w y app number e (e.connection_at number) (if b then Some (made_now w app new.dial (knows e)) else e.connection_at number)
    go true at =
        subst (λ (n : ℕ). GrowTo x w y app n e (e.connection_at n) (Some (made_now w app new.dial (knows e)))) (sym (eqb-true number new.dial at))
        (here (e.connection_at new.dial) (is.made new.dial ∙ ap (is_made e.state.dial) next.dial ∙ none_next e.state.dial))
    go false at = grow_same x y w app number e same.connections (e.connection_at number)

-- The pair, of a living application server.
pub pair_made : (v w : Server) (x y : Site) → StaysKnown v w → SameNode x y → (app : ℕ) (e : End) (new : AppEnd) (shown : Shown) → MadeNext e new shown
    → IfSome (knows e).mark (KnewIs v x app (knows e).session) → PairDials v x false app e → PairDials w y false app (with_made w app new shown e)
pair_made v w x y later same app e new shown next known is =
    pair_later v w x y later (site_grows x y same) false false app e f
    (subst (λ (k : Knew). NoLess (knows e) k) (sym next.knows) (no_less_same (knows e)))
    (grow_made v w x y later same app false e new shown next known is) (λ number. made number (number == new.dial) refl) (λ number. left number (number == new.dial) refl)
    (subst (λ (b : Bool). KnowsStill new.line (knows (with_state new shown e)) (if b then Some (made_now w app new.dial (knows e)) else e.connection_at new.dial))
    (sym (eq-eqb new.dial new.dial refl)) (still new.line)) is
  where
    f : End
    f = with_made w app new shown e

    made : (number : ℕ) (b : Bool) → (number == new.dial) ≡ b
        → is_some (if b then Some (made_now w app new.dial (knows e)) else e.connection_at number) ≡ is_made new.dial number
    made number true at =
        sym (ap (is_made new.dial) (eqb-true number new.dial at) ∙ ap (λ (n : ℕ). is_made n n) next.dial ∙ made_it e.state.dial)
    made number false at =
        is.made number ∙ sym (made_next e.state.dial number (λ same. false≢true (sym at ∙ eq-eqb number new.dial (same ∙ sym next.dial))))
        ∙ ap (λ (n : ℕ). is_made n number) (sym next.dial)

    has : is_wire false new new.dial ≡ true
    has = ap (λ (b : Bool). if b then new.dial == new.dial else false) next.wire ∙ eq-eqb new.dial new.dial refl

    had : (number : ℕ) → is_wire false e.state number ≡ false
    had number = ap (λ (b : Bool). if b then number == e.state.dial else false) next.trying

    left : (number : ℕ) (b : Bool) → (number == new.dial) ≡ b
        → IfSome (if b then Some (made_now w app new.dial (knows e)) else e.connection_at number) (λ c. c.app_left ≡ not (is_wire false new number))
    left number true at = sym (ap not (ap (is_wire false new) (eqb-true number new.dial at) ∙ has))
    left number false at =
        subst (λ (t : Bool). IfSome (e.connection_at number) (λ c. c.app_left ≡ not t))
        (had number ∙ sym (no_wire false new number (λ same. false≢true (sym at ∙ eq-eqb number new.dial same)))) (is.left number)

    still : (line : Line) → KnowsStill line (knows (with_state new shown e)) (Some (made_now w app new.dial (knows e)))
    still Apart = tt
    still Trying = tt
    still Greeting = (sym next.knows, refl)
    still Asking = (sym next.knows, refl)
    still Joined = tt
