-- The requests of an end in a lane that begins, and that a session was there before the order that it learns of.
use Rattle.std.proofs.Common.{◌≡◌, ◌≢◌, ◌≤◌, ◌<◌, ◌+◌, ◌-◌, ℕ, Bool, true, false, if◌then◌else◌, List, [], map, Option, Some, None, is_some, option_map, refl, sym, ◌∙◌, ap, subst, arith}
use Rattle.std.specs.Prelude.{IsSomeAnd, nat_lt}
use Rattle.std.specs.List.{AllByRecursion, list_any}
use Rattle.std.proofs.lemmas.Bool.{false≢true, ne_eqb, false_from_ne_true, ltb-true}
use Rattle.plain_orders.specs.declared.layout.Layout.{Layout}
use Rattle.plain_runs.specs.Plain.{Server, Session as PlainSession, current, order_at}
use Rattle.plain_runs.specs.Run.{IsRun, state_after}
use Rattle.ecp_messages.specs.declared.down.Down.{Down}
use Rattle.ecp_messages.specs.declared.up.Up.{Up}
use Rattle.app_rules.specs.declared.session_parts.Asked.{Asked}
use Rattle.app_rules.specs.AppState.{Session}
use Rattle.app_rules.specs.Welcoming.{ask_anew}
use Rattle.data_rules.specs.Places.{epoch_place}
use Rattle.cluster_runs.specs.Machine.{Machine}
use Rattle.cluster_runs.specs.Sent.{Lane, downs_taken, ups_taken}
use Rattle.cluster_invariant.specs.Asks.{AllFollow, EndAsks, GrantsAsked, LaneAsks, TicketsRise, has_one_job, is_ask}
use Rattle.cluster_invariant.specs.Ends.{number_of}
use Rattle.cluster_invariant.specs.Words.{is_opened_in, stays_at}
use Rattle.cluster_invariant.proofs.OrdersStay.{what_stays_rises}
use Rattle.asks_change.proofs.InputAsks.{SessionsStay}
use Rattle.asks_moves.proofs.AsksNews.{LaneBegins}
use Rattle.asks_moves.proofs.AsksSites.{SessionsPut}
use Rattle.asks_moves.proofs.EndChanges.{anew_are}
use Rattle.asks_moves.proofs.EndPuts.{AsksAre, end_of}

-- an Open that stays in an order was there before each later one
pub before_later : (l : Layout) (m : Machine) (d k j n : ℕ) → IsRun l m.trail → k < j → j ≤ current ((state_after l m.trail).server_at d)
    → n ≤ stays_at ((state_after l m.trail).server_at d) k → is_opened_in (order_at ((state_after l m.trail).server_at d) j) n ≡ false
before_later l m d k j n run past there stays =
    false_from_ne_true (nat_lt (epoch_place (order_at v j)) n)
    (λ above.
    absurd (omega (arith, ltb-true (epoch_place (order_at v j)) n above, stays, what_stays_rises l m.trail d k (j - 1) run (omega (arith, past)) (omega (arith, there, past)), before)))
  where
    v : Server
    v = (state_after l m.trail).server_at d

    same : (j - 1) + 1 ≡ j
    same = omega (arith, past)

    -- what stays of an order that isn't the last is what the next kept
    before : stays_at v (j - 1) ≡ epoch_place (order_at v j) - 1
    before =
        ap (λ (b : Bool). if b then v.synced else epoch_place (order_at v ((j - 1) + 1)) - 1) (ne_eqb (j - 1) (current v) (λ is. absurd (omega (arith, is, past, there))))
        ∙ ap (λ (i : ℕ). epoch_place (order_at v i) - 1) same

pub none_mapped : (o : Option Session) → is_some (option_map number_of o) ≡ false → o ≡ None
none_mapped None is = refl
none_mapped (Some s) is = absurd (false≢true (sym is))

-- a lane that begins with requests of which none was put
pub begins_with : (ms : List Up) (n : ℕ) (asks : List Asked) (b : Lane) → AllFollow [] [] ms → list_any is_ask ms ≡ false → has_one_job asks ≡ true
    → TicketsRise 0 asks
    → AllByRecursion (λ (x : Asked). x.ticket ≤ n) asks → LaneBegins ms b → LaneAsks b × EndAsks b n (map ask_anew asks)
begins_with ms n asks b follow none one rise below begins = (
  record { follow = here.follow; grants = subst (λ (ws : List Down). AllByRecursion (GrantsAsked (ups_taken b)) ws) (sym begins.down) tt },
  end_of b n (map ask_anew asks) here,
)
  where
    here : AsksAre b.up (downs_taken b) n (map ask_anew asks)
    here =
        subst (λ (us : List Up). AsksAre us (downs_taken b) n (map ask_anew asks)) (sym begins.up)
        (subst (λ (ws : List Down). AsksAre ms ws n (map ask_anew asks)) (sym begins.taken) (anew_are ms n asks follow none one rise below))

-- a session that stays puts nothing, and takes nothing
pub stays_put : (o q : Option Session) → SessionsStay o q → SessionsPut o q None
stays_put None None y = tt
stays_put None (Some r) y = absurd y
stays_put (Some s) None y = absurd y
stays_put (Some s) (Some r) y = ([], record { number = y.number; epoch = y.epoch; given = y.given; taken = omega (arith, y.taken) })

-- no session that is met is one that isn't
pub unmet_apart : (o : Option PlainSession) (P : PlainSession → Type 0) → o ≡ None → IsSomeAnd o P → ⊥
unmet_apart None P is met = met
unmet_apart (Some s) P is met = absurd cc

-- there is none
pub none_there : (o : Option Session) → is_some o ≡ false → o ≡ None
none_there None is = refl
none_there (Some s) is = absurd (false≢true (sym is))

pub some_same : {X : Type 0} (s q : X) → ◌≡◌ {A = Option X} (Some s) (Some q) → s ≡ q
some_same s q is = cc

pub none_some : {X : Type 0} (r : X) → ◌≡◌ {A = Option X} None (Some r) → ⊥
none_some r is = absurd cc
