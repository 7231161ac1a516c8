-- A round goes on in a step that ends none.
use Rattle.std.proofs.Common.{◌≡◌, ℕ, Bool, true, false, ◌++◌, Option, is_some, refl, sym, ◌∙◌, ap}
use Rattle.std.proofs.lemmas.Bool.{true≢false}
use Rattle.link_states.specs.declared.link_event.LinkEvent.TheVariants as event
use Rattle.ecp_messages.specs.declared.down.Down.TheVariants as down
use Rattle.recovery_round.specs.RoundWords.{Round, without}
use Rattle.data_rules.specs.DataState.{DataState}
use Rattle.data_rules.specs.Callers.{waiting_conn}
use Rattle.data_rules.specs.Conns.{breaks_if, is_normal, link_of, with_event, without_conn}
use Rattle.data_rules.specs.Opening.{is_round_over}
use Rattle.data_rules.specs.Puts.{Sofar, becomes, conn_of, head_of}
use Rattle.cluster_invariant.proofs.ConnRoles.{dropped_round}
use Rattle.cluster_invariant.proofs.PieceKinds.{Ending, There, Here, Piece, Accepts, Forgets, Breaks, Dials, Waits, Opens, OpensNext, Resumes, GoesOn, ComesAgain, AwaitsReset, Closes, Acknowledges, Takes, TakesDone, Enters, Fetches, PutsNormal, PutsAck, Replies, Leaves, Bares, Locks, RoundEnds, Ticks, cuts_if, makes, next_caller, with_replies}
use Rattle.cluster_invariant.proofs.PieceMay.{Coming}
use Rattle.cluster_invariant.proofs.Pieces.{MayMake}
use Rattle.cluster_invariant.proofs.PiecesOfCloses.{is_some_map}
use Rattle.cluster_invariant.proofs.PiecesOfRounds.{opens_round}
use Rattle.cluster_invariant.proofs.PutLaws.{only_leaves, only_puts}
use Rattle.data_pieces.proofs.PieceFacts.{enters_facts, shuts_facts}
use Rattle.data_pieces.proofs.QuietPieces.{quiet_calls, quiet_goes_on}

-- a round is on
abbrev pub is_on : Sofar → Bool
is_on b = is_some b.state.round

on_cuts : (ending : Ending) (conn : ℕ) (b : Sofar) → is_on (cuts_if ending conn b) ≡ is_on b
on_cuts There conn b = refl
on_cuts Here conn b = refl

on_breaks : (normal : Bool) (app now : ℕ) (b : Sofar) → is_on (becomes (with_event app now event.Ended) (breaks_if normal app now b)) ≡ is_on b
on_breaks true app now b = refl
on_breaks false app now b = refl

-- Each small change leaves it on where it isn't over.
pub round_stays : (t : Coming) (p : Piece) (b : Sofar) → MayMake t p b → is_round_over b.state b.state.round ≡ false → is_on (makes t.now p b) ≡ is_on b
round_stays t (Accepts conn) b may over = refl
round_stays t (Forgets ending conn) b may over = on_cuts ending conn (becomes (without_conn conn) b)
round_stays t (Breaks ending conn session app) b may over =
    on_cuts ending conn (becomes (with_event app t.now event.Ended) (breaks_if (is_normal (link_of b.state app)) app t.now (becomes (without_conn conn) b)))
    ∙ on_breaks (is_normal (link_of b.state app)) app t.now (becomes (without_conn conn) b)
round_stays t (Dials app dial) b may over = refl
round_stays t (Waits app conn) b may over = ap (λ (o : Option Round). is_some o) (dropped_round (waiting_conn b.state app) b)
round_stays t (Opens app conn) b may over = ap (λ (o : Option Round). is_some o) (opens_round app conn t.now b)
round_stays t (OpensNext app conn) b may over = ap (λ (o : Option Round). is_some o) (opens_round app conn t.now (becomes next_caller b))
round_stays t (Resumes app session conn) b may over = ap (λ (o : Option Round). is_some o) (dropped_round (conn_of b.state session) b)
round_stays t (GoesOn session conn taken) b may over = ap (λ (o : Option Round). is_some o) (quiet_goes_on session conn taken b).core.round
round_stays t (ComesAgain session conn kept) b may over = refl
round_stays t (AwaitsReset session conn at) b may over = refl
round_stays t (Closes session app cause) b may over =
    ap (λ (o : Option Round). is_some o) (shuts_facts session app cause t.now b).round ∙ is_some_map (λ (r : Round). without r session) b.state.round
round_stays t (Acknowledges conn session up) b may over = refl
round_stays t (Takes conn session up) b may over = refl
round_stays t (TakesDone conn session up) b may over = is_some_map (λ (r : Round). without r session) b.state.round
round_stays t (Enters e) b may over = ap (λ (o : Option Round). is_some o) (enters_facts e b).round
round_stays t (Fetches session run block) b may over =
    ap (λ (d : DataState). is_some d.round) (only_puts session (down.Block (head_of b.state session) block) b).state
round_stays t (PutsNormal app session) b may over = ap (λ (d : DataState). is_some d.round) (only_puts session (down.Normal (head_of b.state session)) b).state
round_stays t (PutsAck session) b may over = ap (λ (d : DataState). is_some d.round) (only_puts session (down.Ack (head_of b.state session)) b).state
round_stays t (Replies at says) b may over = refl
round_stays t (Leaves before r behind) b may over =
    ap (λ (d : DataState). is_some d.round) (only_leaves r.says (becomes (with_replies (before ++ behind)) b)).state
round_stays t (Bares session conn) b may over = refl
round_stays t (Locks call) b may over = ap (λ (o : Option Round). is_some o) (quiet_calls call b).core.round
round_stays t RoundEnds b may over = absurd (true≢false (sym may ∙ over))
round_stays t (Ticks app session) b may over = refl
