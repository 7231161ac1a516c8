-- What may come of a Recover that a data server takes first on a connection, and what is put of a session that goes on.
use Rattle.std.proofs.Common.{List, Some, [], ap, append_assoc, length, map, refl, sym, true, ℕ, ◌++◌, ◌<◌, ◌∙◌, ◌∷◌, ◌≡◌, ◌≤◌, ◌⊎◌}
use Rattle.std.proofs.lemmas.List.{append-nil}
use Rattle.data_rules.specs.Callers.{dial_of, sends_again}
use Rattle.data_rules.specs.DataState.{DataState}
use Rattle.data_rules.specs.Places.{close_place, epoch_place}
use Rattle.data_rules.specs.Puts.{Sofar, head_of, tells, window_of}
use Rattle.data_rules.specs.declared.data_outs.DataOuts.{DataOuts}
use Rattle.ecp_messages.specs.declared.down.Down.{Down}
use Rattle.ecp_messages.specs.declared.down.DownFrame.{DownFrame}
use Rattle.end_words.specs.Windows.{Window, resent, with_ack_put}
use Rattle.link_downs.proofs.OnConn.{put_here, put_on}
use Rattle.link_kept.proofs.WindowLists.{set_here}
use Rattle.plain_orders.specs.Entries.{last_epoch, live}
use Rattle.plain_orders.specs.Sessions.{app_in, place_of_epoch}
use Rattle.ecp_messages.specs.declared.down.Down.TheVariants as down

-- what came of a Recover of this session

pub record ResetPut (old : DataState) (q s : ℕ) (outs : DataOuts) : Type 0 where
  pub place : ℕ
  pub put : put_on q outs.frames ≡ record { seq = 0; ack = 0; message = down.Reset s place } ∷ []
  pub low : place ≤ old.synced
  pub closed : close_place old.order s ≡ Some place

pub record EpochPut (old next : DataState) (q a s e dial : ℕ) (outs : DataOuts) : Type 0 where
  pub kept : ℕ
  pub ack : ℕ
  pub put : put_on q outs.frames ≡ record { seq = 0; ack = ack; message = down.Welcome s (last_epoch old.order) kept (head_of old s) 0 } ∷ []
  pub its : app_in old.order s ≡ Some a
  pub later : dial_of old a ≤ dial
  pub older : e < last_epoch old.order
  pub known : place_of_epoch e 0 old.order ≡ Some kept
  pub synced : epoch_place old.order ≤ old.synced
  pub order : next.order ≡ old.order
  pub same_synced : next.synced ≡ old.synced

-- a frame that is sent again
abbrev pub again_frame : ℕ → ℕ × Down → DownFrame
again_frame ack m = record { seq = m.0; ack = ack; message = m.1 }

-- a window that is as it was but for what it owes
pub record WindowKept (w u : Window Down) : Type 0 where
  pub acked : u.acked ≡ w.acked
  pub waiting : u.waiting ≡ w.waiting
  pub taken : u.taken ≡ w.taken

pub kept_then : (w u z : Window Down) → WindowKept w u → WindowKept u z → WindowKept w z
kept_then w u z a b = record { acked = b.acked ∙ a.acked; waiting = b.waiting ∙ a.waiting; taken = b.taken ∙ a.taken }

pub record SamePut (old next : DataState) (q s e taken : ℕ) (outs : DataOuts) : Type 0 where
  -- an acknowledgement by itself may follow
  pub bares : List DownFrame
  pub are_bare : (bares ≡ []) ⊎ (bares ≡ record { seq = 0; ack = (window_of old s).taken; message = down.Bare } ∷ [])
  pub put : put_on q outs.frames
      ≡ record {
        seq = 0;
        ack = (window_of old s).taken;
        message = down.Welcome s (last_epoch old.order) (length old.order) (head_of old s)
            (window_of old s).taken;
      }
      ∷ (map (again_frame (window_of old s).taken) (resent (window_of old s) taken) ++ bares)
  pub same : e ≡ last_epoch old.order
  pub kept : WindowKept (window_of old s) (window_of next s)
  pub lives : live old.order s ≡ true
  pub order : next.order ≡ old.order

abbrev pub RecoverPut : DataState → DataState → ℕ → ℕ → ℕ → ℕ → ℕ → ℕ → DataOuts → Type 0
RecoverPut old next q a s e taken dial outs =
    (put_on q outs.frames ≡ []) ⊎ (ResetPut old q s outs ⊎ (EpochPut old next q a s e dial outs ⊎ SamePut old next q s e taken outs))

-- what is sent again is put behind what was put
pub kept_told : (s n seq : ℕ) (m : Down) (b : Sofar) → WindowKept (window_of b.state s) (window_of (tells s n seq m b).state s)
kept_told s n seq m b = by (set_here b.state.windows s (with_ack_put (window_of b.state s)))
  where
    by : window_of (tells s n seq m b).state s ≡ with_ack_put (window_of b.state s) → WindowKept (window_of b.state s) (window_of (tells s n seq m b).state s)
    by same =
        record {
          acked = ap (λ (u : Window Down). u.acked) same;
          waiting = ap (λ (u : Window Down). u.waiting) same;
          taken = ap (λ (u : Window Down). u.taken)
              same;
        }

pub again_put : (s q : ℕ) (ms : List (ℕ × Down)) (b : Sofar)
    → put_on q (sends_again s q ms b).outs.frames ≡ put_on q b.outs.frames ++ map (again_frame (window_of b.state s).taken) ms
again_put s q [] b = sym (append-nil (put_on q b.outs.frames))
again_put s q (m ∷ ms) b =
    again_put s q ms (tells s q m.0 m.1 b)
    ∙ ap (λ (fs : List DownFrame). fs ++ map (again_frame (window_of (tells s q m.0 m.1 b).state s).taken) ms) (put_here q b.outs.frames _)
    ∙ ap (λ (i : ℕ). (put_on q b.outs.frames ++ again_frame (window_of b.state s).taken m ∷ []) ++ map (again_frame i) ms) ((kept_told s q m.0 m.1 b).taken)
    ∙ append_assoc (put_on q b.outs.frames) (again_frame (window_of b.state s).taken m ∷ []) (map (again_frame (window_of b.state s).taken) ms)

pub kept_again : (s q : ℕ) (ms : List (ℕ × Down)) (b : Sofar) → WindowKept (window_of b.state s) (window_of (sends_again s q ms b).state s)
kept_again s q [] b = record { acked = refl; waiting = refl; taken = refl }
kept_again s q (m ∷ ms) b =
    kept_then (window_of b.state s) (window_of (tells s q m.0 m.1 b).state s) (window_of (sends_again s q (m ∷ ms) b).state s) (kept_told s q m.0 m.1 b)
    (kept_again s q ms (tells s q m.0 m.1 b))
