-- What stands in the order when a lock goes from one holder to another, and what no longer enters then.
use Rattle.std.specs.Prelude.{◌≡◌, ℕ, true, false, ◌<◌, ◌≤◌, List, [], ◌∷◌, ◌++◌, length, take, Some, ◌⊎◌, IsSomeAnd}
use Rattle.std.specs.List.{list_any}
use Rattle.plain_orders.specs.declared.op.Op.TheVariants.{Set}
use Rattle.plain_orders.specs.declared.entry.Entry.{Entry}
use Rattle.plain_orders.specs.declared.entry.Entry.TheVariants.{Update}
use Rattle.plain_orders.specs.declared.act.Act.{Act}
use Rattle.plain_orders.specs.declared.act.Act.TheVariants.{Enter, Grant}
use Rattle.plain_orders.specs.declared.layout.Layout.{Layout}
use Rattle.plain_orders.specs.declared.mode.Mode.{Mode}
use Rattle.plain_orders.specs.declared.mode.Mode.TheVariants.{Exclusive}
use Rattle.plain_orders.specs.Entries.{closes}
use Rattle.plain_orders.specs.ItemEntries.{is_item_of, w_of}
use Rattle.plain_runs.specs.Plain.{Server, Session, Hold, Given, app_of, current, issued_in, order_at}
use Rattle.plain_runs.specs.Holds.{binds, opposes, touched}
use Rattle.plain_runs.specs.Items.{all_stand}
use Rattle.plain_runs.specs.Run.{IsRun}
use Rattle.plain_runs.specs.Laws.{IsHold, server_after}
use Rattle.trail_laws.specs.ExampleTrails.{first_hold, handed_over, second_hold, taken_over, two_jobs, x_node}
use Rattle.trail_laws.specs.OrderLaw.{is_by}
use Rattle.trail_laws.specs.PrefixLaw.{seen_after}

-- A Close of the hold's session is among the entries, or it was given up and all that its job had issued in its session before is.
abbrev pub IsHandedOverIn : List Entry → Server → Hold → Type 0
IsHandedOverIn es s h =
    (list_any (closes h.session) es ≡ true)
    ⊎ IsSomeAnd h.given (λ (g : Given). all_stand es h.session h.job 0 (take g.before (issued_in s h.session)) ≡ true)

-- what is so at a grant of number `at`, on the server before it, of a hold h that is k at last
pub record HandedBefore (before after : Server) (at : ℕ) (h k : Hold) : Type 0 where
  -- it was gone or no longer in force
  pub free : binds h ≡ false
  pub here : at ≡ length before.order
  pub handed : IsHandedOverIn before.order after k

-- A hold that conflicts with a later grant to another holder, and that is answered or given up in the whole trail, was
-- gone or no longer in force before the grant, and is handed over in the entries that stood then.
abbrev pub Handover : Type 0
Handover =
    (layout : Layout) (before later : List Act) (d session job : ℕ) (mode : Mode) (key : List ℕ) (at i : ℕ) (h k : Hold)
    → IsRun layout (before ++ Grant d session job mode key at ∷ later)
    → IsHold (server_after layout before d) i h → opposes session job mode key h ≡ true
    → IsHold (server_after layout (before ++ Grant d session job mode key at ∷ later) d) i k → touched k ≡ true
    → HandedBefore (server_after layout before d) (server_after layout (before ++ Grant d session job mode key at ∷ later) d) at h k

-- Where the grant is answered, the entries that stood at it stand in the first places of every order from then on.
abbrev pub GrantStays : Type 0
GrantStays =
    (layout : Layout) (before later : List Act) (d session job : ℕ) (mode : Mode) (key : List ℕ) (at j : ℕ) (n : Hold)
    → IsRun layout (before ++ Grant d session job mode key at ∷ later)
    → IsHold (server_after layout (before ++ Grant d session job mode key at ∷ later) d) (length (server_after layout before d).holds) n → n.answered ≡ true
    → current (server_after layout before d) ≤ j → j ≤ current (server_after layout (before ++ Grant d session job mode key at ∷ later) d)
    → take at (order_at (server_after layout (before ++ Grant d session job mode key at ∷ later) d) j) ≡ (server_after layout before d).order

-- So do they in the order that the new holder's session is told of.
abbrev pub GrantIsTold : Type 0
GrantIsTold =
    (layout : Layout) (before later : List Act) (d session job : ℕ) (mode : Mode) (key : List ℕ) (at : ℕ) (n : Hold) (m : Session)
    → IsRun layout (before ++ Grant d session job mode key at ∷ later)
    → IsHold (server_after layout (before ++ Grant d session job mode key at ∷ later) d) (length (server_after layout before d).holds) n → n.answered ≡ true
    → (server_after layout (before ++ Grant d session job mode key at ∷ later) d).session_at session ≡ Some m
    → take at (order_at (server_after layout (before ++ Grant d session job mode key at ∷ later) d) m.told) ≡ (server_after layout before d).order

-- A job whose hold is answered has seen as many entries as stood when it was granted, as long as its pair has the hold's session.
abbrev pub HoldIsSeen : Type 0
HoldIsSeen =
    (layout : Layout) (acts : List Act) (d i : ℕ) (h : Hold) → IsRun layout acts → IsHold (server_after layout acts d) i h → h.answered ≡ true
    → ((server_after layout acts d).pair_at (app_of layout h.job)).session ≡ Some h.session
    → h.at ≤ seen_after layout acts d h.job

-- Where the grant is answered, no item enters after it that the conflicting hold's job had issued in its session before it gave that hold up.
abbrev pub NoLateUpdate : Type 0
NoLateUpdate =
    (layout : Layout) (before middle later : List Act) (d session job : ℕ) (mode : Mode) (key : List ℕ) (at i : ℕ) (h k n : Hold) (g : Given) (e : Entry)
    → IsRun layout (before ++ Grant d session job mode key at ∷ middle ++ Enter d e ∷ later)
    → IsHold (server_after layout before d) i h → opposes session job mode key h ≡ true
    → IsHold (server_after layout (before ++ Grant d session job mode key at ∷ middle ++ Enter d e ∷ later) d) i k → k.given ≡ Some g
    → IsHold (server_after layout (before ++ Grant d session job mode key at ∷ middle ++ Enter d e ∷ later) d) (length (server_after layout before d).holds) n → n.answered ≡ true
    → is_item_of k.session e ≡ true → is_by k.job e ≡ true
    → g.before < w_of e

-- A lock goes from job 0 to job 1, and then an item of job 0 enters that it issued after it had given the lock up.
abbrev pub LockExample : Type 0
LockExample =
    IsRun two_jobs (handed_over ++ Grant 0 2 1 Exclusive x_node 3 ∷ taken_over ++ Enter 0 (Update 2 2 0 0 (Set x_node (54 ∷ []))) ∷ [])
    × IsHold (server_after two_jobs handed_over 0) 0 first_hold
    × (opposes 2 1 Exclusive x_node first_hold ≡ true)
    × IsHold (server_after two_jobs (handed_over ++ Grant 0 2 1 Exclusive x_node 3 ∷ taken_over ++ Enter 0 (Update 2 2 0 0 (Set x_node (54 ∷ []))) ∷ []) 0) 0 first_hold
    × (length (server_after two_jobs handed_over 0).holds ≡ 1)
    × IsHold (server_after two_jobs (handed_over ++ Grant 0 2 1 Exclusive x_node 3 ∷ taken_over ++ Enter 0 (Update 2 2 0 0 (Set x_node (54 ∷ []))) ∷ []) 0) 1 second_hold
