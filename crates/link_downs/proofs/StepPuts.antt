-- What a step of a data server puts on its connections, by what each was for before the step.
use Rattle.std.proofs.Common.{◌≡◌, ◌⊎◌, ℕ, Bool, true, false, List, [], ◌++◌, length, Option, Some, None}
use Rattle.std.specs.List.{list_any}
use Rattle.plain_orders.specs.Entries.{live}
use Rattle.ecp_messages.specs.declared.down.Down.{Down}
use Rattle.ecp_messages.specs.declared.down.DownFrame.{DownFrame}
use Rattle.data_rules.specs.declared.down_frames.DownOut.{DownOut}
use Rattle.data_rules.specs.declared.rows.Reply.{Reply}
use Rattle.data_rules.specs.declared.rows.Role.TheVariants.{Bound, Closing}
use Rattle.data_rules.specs.DataState.{DataState}
use Rattle.data_rules.specs.Conns.{role_of}
use Rattle.cluster_runs.specs.Machine.{Site}
use Rattle.cluster_runs.specs.Sent.{Lane}
use Rattle.cluster_invariant.specs.Link.{is_normal_frame}
use Rattle.link_downs.proofs.NumberedPuts.{PutNext}
use Rattle.link_downs.proofs.OffConn.{LeftReset, SaysReset, listed}
use Rattle.link_downs.proofs.OnConn.{put_on, waiting_on}

-- what its session was given is what was put, and it is the session's still, or awaits its Reset where the step closed that
pub record PutsGo (lane later : Lane) (q s : ℕ) (in_round : Bool) (new : DataState) (put : List DownFrame) : Type 0 where
  pub given : List Down
  pub down : later.down ≡ lane.down ++ given
  pub its : PutNext (length lane.down) later.up_taken put given
  -- a Normal is put only where a round was on
  pub normal : in_round ≡ false → list_any is_normal_frame put ≡ false
  pub bound : live new.order s ≡ true → role_of new q ≡ Some (Bound s)
  pub closed : live new.order s ≡ false → role_of new q ≡ Some (Closing s)

-- or it went, and nothing was put on it
abbrev pub BoundAfter : Lane → Lane → ℕ → ℕ → Bool → DataState → List DownFrame → Type 0
BoundAfter lane later q s in_round new put = PutsGo lane later q s in_round new put ⊎ ((put ≡ []) × (role_of new q ≡ None))

-- What is put on each connection but those of which no first frame was taken.
pub record StepPuts (x y : Site) (in_round : Bool) (old new : DataState) (frames : List DownOut) : Type 0 where
  -- on one that the node doesn't have
  pub none : (q : ℕ) → role_of old q ≡ None → put_on q frames ≡ []
  -- on a live session's, for which no first frame waits
  pub bound : (q s : ℕ) → role_of old q ≡ Some (Bound s) → waiting_on q old.replies ≡ []
      → BoundAfter (x.lane_at s x.past) (y.lane_at s x.past) q s in_round new (put_on q frames)
  -- on a closed session's at most the Reset that waited
  pub closing : (q s : ℕ) (ws : Option Reply) → role_of old q ≡ Some (Closing s) → waiting_on q old.replies ≡ listed ws
      → ((z : Reply) → ws ≡ Some z → SaysReset q z) → (put_on q frames ≡ []) ⊎ LeftReset q ws new.synced (put_on q frames)
