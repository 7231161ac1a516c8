-- A numbered message that an end takes is the next one of its lane.
use Rattle.std.proofs.Common.{◌≡◌, ℕ, ◌+◌, Bool, true, false, if◌then◌else◌, List, [], ◌∷◌, ◌++◌, drop, Option, Some, refl, sym, ◌∙◌, ap, subst, arith, ◌==◌}
use Rattle.std.specs.List.{list_all}
use Rattle.std.proofs.lemmas.Bool.{and_parts, eqb-true, ltb-true}
use Rattle.std.specs.Prelude.{nat_lt}
use Rattle.plain_orders.specs.declared.entry.Entry.{Entry}
use Rattle.plain_runs.specs.Plain.{Server}
use Rattle.ecp_messages.specs.declared.down.Down.{Down}
use Rattle.ecp_messages.specs.declared.down.Down.TheVariants.{Welcome, Reset, Block, Drop, Ack, Grant, Answer, Normal, Bare}
use Rattle.ecp_messages.specs.declared.down.DownFrame.{DownFrame}
use Rattle.end_words.specs.Windows.{numbered_from}
use Rattle.app_rules.specs.declared.line.Line.TheVariants.{Joined}
use Rattle.app_rules.specs.AppState.{Session}
use Rattle.cluster_runs.specs.Sent.{Lane, Place}
use Rattle.cluster_runs.specs.Machine.{Site, End}
use Rattle.cluster_invariant.specs.Link.{AppWay, DownBy, DownWay, EndsWith, JoinedWay, ResetIs, WithSession, is_of_session, fits_down}
use Rattle.cluster_invariant.specs.Words.{IsFront, downs_left, numbered_behind, numbered_downs}
use Rattle.cluster_invariant.proofs.Small.{of_some}
use Rattle.ends_kept.proofs.TakenDown.{Taken}

-- a message that comes with a number
abbrev pub HasNumber : Down → Type 0
HasNumber (Welcome session epoch kept front taken) = ⊥
HasNumber (Reset session at) = ⊥
HasNumber (Block front block) = Unit {0}
HasNumber (Drop front lo hi) = Unit {0}
HasNumber (Ack front) = Unit {0}
HasNumber (Grant front ticket at) = Unit {0}
HasNumber (Answer front about job number at sum) = Unit {0}
HasNumber (Normal front) = Unit {0}
HasNumber Bare = ⊥

-- what is left of the lane begins with it
pub record NextDown (lane : Lane) (frame : DownFrame) : Type 0 where
  pub rest : List Down
  pub its : drop lane.down_taken lane.down ≡ frame.message ∷ rest
  pub seq : frame.seq ≡ lane.down_taken + 1

-- it isn't 0
above_zero : (m : Down) (n : ℕ) → HasNumber m → fits_down m n ≡ true → nat_lt 0 n ≡ true
above_zero (Welcome session epoch kept front taken) n has fits = absurd has
above_zero (Reset session at) n has fits = absurd has
above_zero (Block front block) n has fits = fits
above_zero (Drop front lo hi) n has fits = fits
above_zero (Ack front) n has fits = fits
above_zero (Grant front ticket at) n has fits = fits
above_zero (Answer front about job number at sum) n has fits = fits
above_zero (Normal front) n has fits = fits
above_zero Bare n has fits = absurd has

no_reset : (may : Bool) (es : List Entry) (stays session : ℕ) (f : DownFrame) (fs : List DownFrame) → HasNumber f.message → EndsWith may es stays session (f ∷ fs) → ⊥
no_reset may es stays session f [] has is = go f.message has is.1
  where
    go : (m : Down) → HasNumber m → ResetIs es stays session m → ⊥
    go (Welcome s epoch kept front taken) has is = is
    go (Reset s at) has is = has
    go (Block front block) has is = is
    go (Drop front lo hi) has is = is
    go (Ack front) has is = is
    go (Grant front ticket at) has is = is
    go (Answer front about job number at sum) has is = is
    go (Normal front) has is = is
    go Bare has is = is
no_reset may es stays session f (g ∷ fs) has is = is

first_of_lane : (n k : ℕ) (m : Down) (xs : List (ℕ × Down)) (ms : List Down) → IsFront ((k, m) ∷ xs) (numbered_from n ms) → (rest : List Down) × ((ms ≡ m ∷ rest) × (k ≡ n + 1))
first_of_lane n k m xs [] front = absurd (none front.0 front.1)
  where
    none : (rest : List (ℕ × Down)) → ◌≡◌ {A = List (ℕ × Down)} [] ((k, m) ∷ xs ++ rest) → ⊥
    none rest same = absurd (cc (same))
first_of_lane n k m xs (y ∷ ys) front =
    (ys, (ap (λ (zs : List (ℕ × Down)). (first zs).1 ∷ ys) front.1, ap (λ (zs : List (ℕ × Down)). (first zs).0) (sym front.1)))
  where
    first : List (ℕ × Down) → ℕ × Down
    first [] = (k, m)
    first (z ∷ zs) = z

next_in : (es : List Entry) (stays session : ℕ) (lane : Lane) (may : Bool) (frame : DownFrame) (behind left : List DownFrame) → left ≡ frame ∷ behind → HasNumber frame.message
    → DownWay es stays session lane may left → NextDown lane frame
next_in es stays session lane may frame behind left is has way = go way.its way.ends (sym is ∙ way.all) way.kinds way.next way.reset
  where
    heads : (a : DownFrame) (xs : List DownFrame) (b : DownFrame) (bs : List DownFrame) → a ∷ xs ≡ b ∷ bs → b ≡ a
    heads a xs b bs same = cc (same)

    go : (xs ys : List DownFrame) → frame ∷ behind ≡ xs ++ ys → list_all is_of_session xs ≡ true → IsFront (numbered_downs xs) (numbered_behind lane.down_taken lane.down)
        → EndsWith may es stays session ys → NextDown lane frame
    go [] [] same kinds next reset = absurd (cc (same))
    go [] (y ∷ ys) same kinds next reset =
        absurd (no_reset may es stays session y ys (subst (λ (f : DownFrame). HasNumber f.message) (sym (heads frame behind y ys same)) has) reset)
    go (x ∷ xs) ys same kinds next reset = by (x.seq == 0) refl next
      where
        its : x ≡ frame
        its = heads frame behind x (xs ++ ys) same

        numbered : nat_lt 0 x.seq ≡ true
        numbered =
            above_zero x.message x.seq (subst (λ (f : DownFrame). HasNumber f.message) (sym its) has) (and_parts (is_of_session x) (list_all is_of_session xs) kinds).0

        by : (b : Bool) → (x.seq == 0) ≡ b
            → IsFront (if b then numbered_downs xs else (x.seq, x.message) ∷ numbered_downs xs) (numbered_behind lane.down_taken lane.down) → NextDown lane frame
        by true zeroed front = absurd (omega (arith, eqb-true x.seq 0 zeroed, ltb-true 0 x.seq numbered))
        by false other front =
            let f : (rest : List Down) × ((drop lane.down_taken lane.down ≡ x.message ∷ rest) × (x.seq ≡ lane.down_taken + 1)) =
            first_of_lane lane.down_taken x.seq x.message (numbered_downs xs) (drop lane.down_taken lane.down) front in
            record {
              rest = f.0;
              its = f.1.0 ∙ ap (λ (g : DownFrame). g.message ∷ f.0) its;
              seq = ap (λ (g : DownFrame). g.seq) (sym its) ∙ f.1.1;
            }

-- What a joined end takes is next in the lane of its session in the order that it is told of.
pub joined_next : (v : Server) (x : Site) (app : ℕ) (e : End) (frame : DownFrame) (s : Session) (p : Place) → (t : Taken e frame) → AppWay v x app e → e.state.line ≡ Joined
    → e.state.session ≡ Some s → e.told ≡ Some p → HasNumber frame.message → NextDown (x.lane_at s.number p.order) frame
joined_next v x app e frame s p t way line session told has =
    go (subst (λ (o : Option Place). WithSession (Some s) o (λ s k. JoinedWay v x e.state s k t.connection)) told
    (subst (λ (o : Option Session). WithSession o e.told (λ s k. JoinedWay v x e.state s k t.connection)) session
    (subst (λ l. DownBy l v x app e t.connection) line (of_some (DownBy e.state.line v x app e) (e.connection_at e.state.dial) t.connection t.its way.down))))
  where
    go : JoinedWay v x e.state s p.order t.connection → NextDown (x.lane_at s.number p.order) frame
    go j = next_in _ _ s.number (x.lane_at s.number p.order) _ frame t.behind (downs_left t.connection) t.left has j.way
