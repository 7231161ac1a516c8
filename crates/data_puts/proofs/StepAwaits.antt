-- What a round awaits stays as it is to be over each step of a data server.
use Rattle.std.proofs.Common.{◌≡◌, ◌<◌, ◌≤◌, inl, inr, ℕ, Bool, true, false, List, ◌∷◌, drop, Option, Some, None, refl, sym, ◌∙◌, ap, subst, arith}
use Rattle.std.specs.Prelude.{Ok, Err, Result}
use Rattle.plain_orders.specs.Sessions.{app_in}
use Rattle.link_window.specs.declared.window.Taken.{Taken}
use Rattle.link_window.specs.declared.window.Taken.TheVariants.{Fresh, Repeat}
use Rattle.link_window.specs.declared.window.WindowError.{WindowError}
use Rattle.ecp_messages.specs.declared.up.Up.{Up}
use Rattle.ecp_messages.specs.declared.up.Up.TheVariants as up
use Rattle.ecp_messages.specs.declared.up.UpFrame.{UpFrame}
use Rattle.end_words.specs.Windows.{answers, owes_bare, with_ack, with_taken}
use Rattle.data_rules.specs.DataState.{DataState}
use Rattle.data_rules.specs.declared.data_in.DataIn.TheVariants as data_in
use Rattle.data_rules.specs.declared.rows.Kind.{Kind}
use Rattle.data_rules.specs.declared.rows.Role.{Role}
use Rattle.data_rules.specs.declared.rows.Role.TheVariants.{Bound, Closing, New, Waiting}
use Rattle.data_rules.specs.Callers.{TakesRecover, dial_of}
use Rattle.data_rules.specs.Conns.{end_breaks, loses_conn, role_of, without_conn}
use Rattle.data_rules.specs.Frames.{Ends, TakesBound, TakesClosing, TakesFirst, TakesFrame, TakesNumbered, acknowledged, bares_role, kind_of, settled, took}
use Rattle.data_rules.specs.Leaving.{bare_on, bare_to, flushed}
use Rattle.data_rules.specs.Messages.{Takes}
use Rattle.data_rules.specs.Opening.{rounds}
use Rattle.data_rules.specs.Puts.{Sofar, becomes, begun, body_of, conn_of, window_in, window_of}
use Rattle.cluster_runs.specs.Sent.{Lane}
use Rattle.cluster_invariant.proofs.PieceMay.{Coming, RoundWas, TakesMay}
use Rattle.cluster_invariant.proofs.Pieces.{Pieced, and_then, kept_by_pieces}
use Rattle.cluster_invariant.proofs.PiecesOfReplies.{flush_pieces}
use Rattle.cluster_invariant.proofs.PiecesOfRounds.{rounds_pieces}
use Rattle.cluster_invariant.proofs.RoundBefore.{round_same}
use Rattle.data_puts.proofs.AwaitsGo.{awaits_done}
use Rattle.data_puts.proofs.AwaitsPieces.{AwaitsOn, TakesKnown, awaits_breaks, awaits_piece, awaits_same}
use Rattle.data_puts.proofs.TakenSame.{SameTaken, set_taken, taken_bare}

-- what follows each frame, as if it followed a tick
abbrev pub tick_of : DataState → ℕ → Coming
tick_of old now = record { old = old; now = now; input = data_in.Tick }

pub settled_pieces : (t : Coming) (b : Sofar) → RoundWas t b.state → Pieced t b (flushed (rounds t.now b))
settled_pieces t b was = and_then t b (rounds t.now b) (flushed (rounds t.now b)) (rounds_pieces t b was) (flush_pieces t (rounds t.now b))

-- as if nothing had been taken before it
pub settled_anew : (now : ℕ) (b : Sofar) → Pieced (tick_of b.state now) b (flushed (rounds now b))
settled_anew now b = settled_pieces (tick_of b.state now) b (round_same (tick_of b.state now) b.state refl refl)

-- an acknowledgement that goes out by itself leaves all but the count of a window
pub record BaredOnly (b c : Sofar) : Type 0 where
  pub round : c.state.round ≡ b.state.round
  pub order : c.state.order ≡ b.state.order
  pub callers : c.state.callers ≡ b.state.callers
  pub taken : SameTaken b c

pub bared_only : (r : Option Role) (b : Sofar) → BaredOnly b (bares_role r b)
bared_only r b = go r
  where
    none : BaredOnly b b
    none = record { round = refl; order = refl; callers = refl; taken = λ s. refl }

    by : (s conn : ℕ) (owed : Bool) → BaredOnly b (bare_to owed s conn b)
    by s conn true = record { round = refl; order = refl; callers = refl; taken = taken_bare s conn b }
    by s conn false = none

    on : (s : ℕ) (o : Option ℕ) → BaredOnly b (bare_on o s b)
    on s None = none
    on s (Some conn) = by s conn (owes_bare (window_of b.state s))

    go : (q : Option Role) → BaredOnly b (bares_role q b)
    go None = none
    go (Some New) = none
    go (Some Waiting) = none
    go (Some (Bound s)) = on s (conn_of b.state s)
    go (Some (Closing s)) = none

module _ (lane_of : ℕ → Lane) (old : DataState) (now : ℕ) where
  none_known : (d : DataState) → TakesKnown lane_of (tick_of d now) (λ b. Unit {0})
  none_known d = record {
    next = λ conn session f b may. absurd (tick_no conn f may.on.came);
    again = λ session conn kept b e may. absurd (tick_no conn may.came.came.up may.came.came.its);
    undone = λ conn f is. absurd (tick_no conn f is);
  }
    where
      tick_no : (conn : ℕ) (f : UpFrame) → data_in.Tick ≡ data_in.Frame conn f → ⊥
      tick_no conn f is = cc

  pub settled_awaits : (conn : ℕ) (b : Sofar) → AwaitsOn lane_of b → AwaitsOn lane_of (settled conn now b)
  settled_awaits conn b h = bares (bared_only (role_of (flushed (rounds now b)).state conn) (flushed (rounds now b)))
    where
      flushed_awaits : AwaitsOn lane_of (flushed (rounds now b))
      flushed_awaits =
          kept_by_pieces (tick_of b.state now) (AwaitsOn lane_of) (λ q c may is. awaits_piece lane_of (tick_of b.state now) (λ e. Unit {0}) (none_known b.state) q c may tt is) b
          (flushed (rounds now b)) (settled_anew now b) h

      bares : BaredOnly (flushed (rounds now b)) (settled conn now b) → AwaitsOn lane_of (settled conn now b)
      bares only = awaits_same lane_of (flushed (rounds now b)) (settled conn now b) only.round only.order only.taken flushed_awaits

  ends_awaits : (conn : ℕ) (b c : Sofar) → Ends b conn now c → AwaitsOn lane_of b → AwaitsOn lane_of c
  ends_awaits conn b c ends h = subst (AwaitsOn lane_of) (sym ends.after) (go (role_of b.state conn))
    where
      lost : (s : ℕ) (o : Option ℕ) → AwaitsOn lane_of (end_breaks o now (becomes (without_conn conn) b))
      lost s None = h
      lost s (Some app) = awaits_breaks lane_of app now (becomes (without_conn conn) b) h

      go : (r : Option Role) → AwaitsOn lane_of (loses_conn r now (becomes (without_conn conn) b))
      go None = h
      go (Some New) = h
      go (Some Waiting) = h
      go (Some (Bound s)) = lost s (app_in b.state.order s)
      go (Some (Closing s)) = h

  -- a Done
  module _ (conn : ℕ) (f : UpFrame)
      (next : (session : ℕ) → TakesMay (record { old = old; now = now; input = data_in.Frame conn f }) conn session f (begun old)
      → (rest : List Up) × (drop (window_of old session).taken (lane_of session).up ≡ f.message ∷ rest)) where
    pub done_awaits : f.message ≡ up.Done → (c : Sofar) → TakesFrame (role_of old conn) (begun old) conn now f c → AwaitsOn lane_of (begun old) → AwaitsOn lane_of c
    done_awaits says c takes h = go (role_of old conn) refl takes
      where
        numbered : (s : ℕ) → role_of old conn ≡ Some (Bound s) → (r : Result Taken WindowError) → answers body_of (window_of old s) f.seq f.ack ≡ r
            → TakesNumbered r (begun old) conn now s f c → AwaitsOn lane_of c
        numbered s bound (Ok Fresh) fits (inl fresh) =
            subst (AwaitsOn lane_of) (sym (subst (λ (m : Up). Takes m s (took s f.ack (begun old)) c) says fresh.made).after)
            (awaits_done lane_of old.round old.windows old.order s (with_taken (window_in old.windows s) f.ack) its.0 refl (its.1 ∙ ap (λ (m : Up). m ∷ its.0) says) h)
          where
            its : (rest : List Up) × (drop (window_of old s).taken (lane_of s).up ≡ f.message ∷ rest)
            its = next s (record { first = refl; on = record { came = refl; bound = bound }; kind = ap kind_of says; fresh = fits })
        numbered s bound (Ok Fresh) fits (inr stray) = ends_awaits conn (begun old) c stray.ended h
        numbered s bound (Ok Repeat) fits is =
            subst (AwaitsOn lane_of) (sym is)
            (awaits_same lane_of (begun old) (acknowledged s f.ack (begun old)) refl refl (set_taken old.windows s (with_ack (window_in old.windows s) f.ack) refl) h)
        numbered s bound (Err why) fits ends = ends_awaits conn (begun old) c ends h

        go : (r : Option Role) → role_of old conn ≡ r → TakesFrame r (begun old) conn now f c → AwaitsOn lane_of c
        go None role passes = subst (AwaitsOn lane_of) (sym passes.after) h
        go (Some New) role first = ends_awaits conn (begun old) c (subst (λ (m : Up). TakesFirst m (begun old) conn now c) says first) h
        go (Some Waiting) role ends = ends_awaits conn (begun old) c ends h
        go (Some (Bound s)) role bound = numbered s role (answers body_of (window_of old s) f.seq f.ack) refl (subst (λ (k : Kind). TakesBound k (begun old) conn now s f c) (ap kind_of says) bound)
        go (Some (Closing s)) role closing = subst (AwaitsOn lane_of) (sym (subst (λ (k : Kind). TakesClosing k (begun old) conn now c) (ap kind_of says) closing).after) h

    -- a Recover on an older dial
    pub late_awaits : (app session epoch taken dial : ℕ) → f.message ≡ up.Recover app session epoch taken dial → dial < dial_of old app → (c : Sofar) → TakesFrame (role_of old conn) (begun old) conn now f c
        → AwaitsOn lane_of (begun old) → AwaitsOn lane_of c
    late_awaits app session epoch taken dial says older c takes h = go (role_of old conn) takes
      where
        low : dial_of old app ≤ dial → ⊥
        low later = absurd (omega (arith, later, older))

        recovers : TakesRecover (begun old) conn now app session epoch taken dial c → ⊥
        recovers (inl x) = low x.later
        recovers (inr (inl x)) = low x.later
        recovers (inr (inr x)) = low x.later

        first : TakesFirst (up.Recover app session epoch taken dial) (begun old) conn now c → AwaitsOn lane_of c
        first (inl x) = absurd (recovers x)
        first (inr x) = ends_awaits conn (begun old) c x.ended h

        go : (r : Option Role) → TakesFrame r (begun old) conn now f c → AwaitsOn lane_of c
        go None passes = subst (AwaitsOn lane_of) (sym passes.after) h
        go (Some New) x = first (subst (λ (m : Up). TakesFirst m (begun old) conn now c) says x)
        go (Some Waiting) ends = ends_awaits conn (begun old) c ends h
        go (Some (Bound s)) x = ends_awaits conn (begun old) c (subst (λ (k : Kind). TakesBound k (begun old) conn now s f c) (ap kind_of says) x) h
        go (Some (Closing s)) x = ends_awaits conn (begun old) c (subst (λ (k : Kind). TakesClosing k (begun old) conn now c) (ap kind_of says) x) h
