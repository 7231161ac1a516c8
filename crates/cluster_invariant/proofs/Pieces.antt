-- The law of the small changes of a data server's step: what each of them keeps they all keep.
use Rattle.std.proofs.Common.{◌≡◌, ℕ, List, [], ◌∷◌, ◌++◌, refl, sym, ◌∙◌, ap, subst}
use Rattle.std.specs.Prelude.{true, false}
use Rattle.data_rules.specs.Puts.{Sofar}
use Rattle.data_rules.specs.Opening.{is_round_over}
use Rattle.cluster_invariant.proofs.PieceKinds.{Piece, Accepts, Forgets, Breaks, Dials, Waits, Opens, OpensNext, Resumes, GoesOn, ComesAgain, AwaitsReset, Closes, Acknowledges, Takes, TakesDone, Enters, Fetches, PutsNormal, PutsAck, Replies, Leaves, Bares, Locks, RoundEnds, Ticks, makes, all_made}
use Rattle.cluster_invariant.proofs.PieceMay.{Coming, AcceptsMay, AcknowledgesMay, AwaitsResetMay, BaresMay, BreaksMay, CallsMay, ClosesMay, ComesAgainMay, DialsMay, EntersMay, FetchesMay, ForgetsMay, GoesOnMay, HelloMay, LeavesMay, OpensNextMay, PutsAckMay, PutsNormalMay, RepliesMay, ResumesMay, TakesDoneMay, TakesMay, TicksMay}

-- What is known where a piece is made.
abbrev pub MayMake : Coming → Piece → Sofar → Type 0
MayMake t (Accepts conn) b = AcceptsMay t conn b
MayMake t (Forgets ending conn) b = ForgetsMay t ending conn b
MayMake t (Breaks ending conn session app) b = BreaksMay t ending conn session app b
MayMake t (Dials app dial) b = DialsMay t app dial b
MayMake t (Waits app conn) b = HelloMay t app conn true b
MayMake t (Opens app conn) b = HelloMay t app conn false b
MayMake t (OpensNext app conn) b = OpensNextMay app conn b
MayMake t (Resumes app session conn) b = ResumesMay t app session conn b
MayMake t (GoesOn session conn taken) b = GoesOnMay t session conn taken b
MayMake t (ComesAgain session conn kept) b = ComesAgainMay t session conn kept b
MayMake t (AwaitsReset session conn at) b = AwaitsResetMay t session conn at b
MayMake t (Closes session app cause) b = ClosesMay t session app cause b
MayMake t (Acknowledges conn session up) b = AcknowledgesMay t conn session up b
MayMake t (Takes conn session up) b = TakesMay t conn session up b
MayMake t (TakesDone conn session up) b = TakesDoneMay t conn session up b
MayMake t (Enters e) b = EntersMay t e b
MayMake t (Fetches session run block) b = FetchesMay t session run block b
MayMake t (PutsNormal app session) b = PutsNormalMay t app session b
MayMake t (PutsAck session) b = PutsAckMay t session b
MayMake t (Replies at says) b = RepliesMay t at says b
MayMake t (Leaves before r behind) b = LeavesMay before r behind b
MayMake t (Bares session conn) b = BaresMay t session conn b
MayMake t (Locks call) b = CallsMay t call b
MayMake t RoundEnds b = is_round_over b.state b.state.round ≡ true
MayMake t (Ticks app session) b = TicksMay t app session b

-- each piece may be made where its turn comes
abbrev pub AllMay : Coming → List Piece → Sofar → Type 0
AllMay t [] b = Unit {0}
AllMay t (p ∷ ps) b = MayMake t p b × AllMay t ps (makes t.now p b)

-- It comes from the one to the other by pieces.
pub record Pieced (t : Coming) (b c : Sofar) : Type 0 where
  pub pieces : List Piece
  pub may : AllMay t pieces b
  pub made : c ≡ all_made t.now pieces b

kept_by_all : (t : Coming) (I : Sofar → Type 0) → ((p : Piece) (b : Sofar) → MayMake t p b → I b → I (makes t.now p b))
    → (ps : List Piece) (b : Sofar) → AllMay t ps b → I b → I (all_made t.now ps b)
kept_by_all t I keeps [] b may holds = holds
kept_by_all t I keeps (p ∷ ps) b may holds = kept_by_all t I keeps ps (makes t.now p b) may.1 (keeps p b may.0 holds)

-- What each piece keeps they all keep.
pub kept_by_pieces : (t : Coming) (I : Sofar → Type 0) → ((p : Piece) (b : Sofar) → MayMake t p b → I b → I (makes t.now p b))
    → (b c : Sofar) → Pieced t b c → I b → I c
kept_by_pieces t I keeps b c by holds = subst (λ (x : Sofar). I x) (sym by.made) (kept_by_all t I keeps by.pieces b by.may holds)

-- putting pieces together

pub no_piece : (t : Coming) (b : Sofar) → Pieced t b b
no_piece t b = record { pieces = []; may = tt; made = refl }

pub one_piece : (t : Coming) (p : Piece) (b : Sofar) → MayMake t p b → Pieced t b (makes t.now p b)
one_piece t p b may = record { pieces = p ∷ []; may = (may, tt); made = refl }

all_append : (now : ℕ) (ps qs : List Piece) (b : Sofar) → all_made now (ps ++ qs) b ≡ all_made now qs (all_made now ps b)
all_append now [] qs b = refl
all_append now (p ∷ ps) qs b = all_append now ps qs (makes now p b)

may_append : (t : Coming) (ps qs : List Piece) (b : Sofar) → AllMay t ps b → AllMay t qs (all_made t.now ps b) → AllMay t (ps ++ qs) b
may_append t [] qs b first more = more
may_append t (p ∷ ps) qs b first more = (first.0, may_append t ps qs (makes t.now p b) first.1 more)

pub and_then : (t : Coming) (b c e : Sofar) → Pieced t b c → Pieced t c e → Pieced t b e
and_then t b c e first more = record {
  pieces = first.pieces ++ more.pieces;
  may = may_append t first.pieces more.pieces b first.may (subst (λ (x : Sofar). AllMay t more.pieces x) first.made more.may);
  made = more.made ∙ ap (all_made t.now more.pieces) first.made ∙ sym (all_append t.now first.pieces more.pieces b);
}

-- a piece, and then others
pub one_then : (t : Coming) (p : Piece) (b c : Sofar) → MayMake t p b → Pieced t (makes t.now p b) c → Pieced t b c
one_then t p b c may more = and_then t b (makes t.now p b) c (one_piece t p b may) more

-- others, and then a piece
pub then_one : (t : Coming) (p : Piece) (b c : Sofar) → Pieced t b c → MayMake t p c → Pieced t b (makes t.now p c)
then_one t p b c first may = and_then t b c (makes t.now p c) first (one_piece t p c may)

-- from what a rule makes to what it is
pub by_after : (t : Coming) (b c e : Sofar) → c ≡ e → Pieced t b e → Pieced t b c
by_after t b c e after by = subst (λ (x : Sofar). Pieced t b x) (sym after) by
