-- Examples of a Fetch, of an update that drops the run, and of its save; and of inputs that are refused since one condition fails: it is named above each.
use Rattle.std.specs.Prelude.{ℕ, ◌≡◌, ◌<◌, [], ◌∷◌, replicate, set, length}
use Rattle.plain_orders.specs.declared.act.Act.TheVariants.{Enter, Synced, Broke}
use Rattle.plain_orders.specs.declared.causes.PairEnd.TheVariants.{Server}
use Rattle.plain_orders.specs.declared.entry.Entry.{Entry}
use Rattle.plain_orders.specs.declared.entry.Entry.TheVariants as entries
use Rattle.subscript_keys.specs.declared.run.Run.{Run}
use Rattle.plain_orders.specs.declared.op.Op.TheVariants.{Set}
use Rattle.link_states.specs.declared.data_link.DataLink.TheVariants.{Free, Trouble}
use Rattle.ecp_messages.specs.declared.down.Down.TheVariants.{Block, Drop, Ack}
use Rattle.ecp_messages.specs.declared.up.Up.TheVariants.{Fetch, Bare}
use Rattle.data_rules.specs.declared.limits.TheConstants.{APP_LIMIT}
use Rattle.data_rules.specs.declared.data_in.DataIn.TheVariants.{Frame, Saved}
use Rattle.data_rules.specs.DataState.{DataState}
use Rattle.data_rules.specs.Puts.{Sofar, begun, frame_on}
use Rattle.data_rules.specs.Messages.{TakesFetch, TakesItem}
use Rattle.data_rules.specs.Step.{DataStep}
use Rattle.data_examples.specs.Servers.{up, outs, head, window_at, welcomed, x_key, whole_run, whole_block, fetched, set_x, updated}

-- the session was sent two more runs after that, of which one touches ^x
abbrev pub noted_more : DataState
noted_more =
    record fetched {
      noted =
          record { session = 2; span = whole_run.span } ∷
          record { session = 2; span = record { lo = 121 ∷ []; hi = 122 ∷ [] } } ∷
          record { session = 2; span = record { lo = 120 ∷ []; hi = 121 ∷ [] } } ∷ [];
    }

-- the connection of the session was ended at the moment 4
abbrev pub cut_off : DataState → DataState
cut_off d = record d { conns = []; links = set (replicate APP_LIMIT Free) 1 (Trouble 4) }

-- the run over all keys with a pair at ^x
abbrev pub x_run : Run
x_run = record whole_run { pairs = record { key = x_key; value = 53 ∷ [] } ∷ [] }

-- a Fetch
abbrev pub FetchExamples : Type 0
FetchExamples =
    DataStep welcomed 0 (Frame 7 (up 1 0 (Fetch x_key))) (outs (frame_on 7 1 1 (Block (head 2 0 0) whole_block) ∷ []) [] []) fetched
    -- covered
    × ((c : Sofar) (t : TakesFetch (begun welcomed) 2 x_key c) → t.run.span.lo ≡ 121 ∷ [] → ⊥)
    -- is_true: a pair that isn't there
    × ((c : Sofar) (t : TakesFetch (begun welcomed) 2 x_key c) → t.run ≡ x_run → ⊥)
    -- in_bytes: a block of more bytes
    × ((c : Sofar) (t : TakesFetch (begun welcomed) 2 x_key c) → 8192 < length t.block → ⊥)

-- the entry that sets ^x to 5
abbrev pub x_set : ℕ → Entry
x_set w = entries.Update 2 w 0 0 (Set x_key (53 ∷ []))

-- an update and its save
abbrev pub UpdateExamples : Type 0
UpdateExamples =
    DataStep fetched 4 (Frame 7 (up 2 1 (set_x 1))) (outs (frame_on 7 2 2 (Drop (head 3 1 0) [] (255 ∷ [])) ∷ []) [] (Enter 0 (x_set 1) ∷ [])) updated
    -- two spans of one session: the first Drop carries the length before the entry
    × DataStep noted_more 4 (Frame 7 (up 2 1 (set_x 1)))
    (outs (frame_on 7 2 2 (Drop (head 2 0 0) [] (255 ∷ [])) ∷ frame_on 7 3 2 (Drop (head 3 1 0) (120 ∷ []) (121 ∷ [])) ∷ []) [] (Enter 0 (x_set 1) ∷ []))
    (record updated {
      windows = window_at 2 1 (Drop (head 2 0 0) [] (255 ∷ []) ∷ Drop (head 3 1 0) (120 ∷ []) (121 ∷ []) ∷ []) 2 0 ∷ [];
      noted = record { session = 2; span = record { lo = 121 ∷ []; hi = 122 ∷ [] } } ∷ [];
    })
    -- fits: it isn't the next
    × ((c : Sofar) → TakesItem (begun fetched) 2 2 (x_set 2) c → ⊥)
    × DataStep fetched 4 (Frame 7 (up 2 1 (set_x 2))) (outs [] (7 ∷ []) (Broke 1 0 Server 4 ∷ [])) (cut_off fetched)
    -- it stands already: nothing enters
    × DataStep updated 4 (Frame 7 (up 3 2 (set_x 1))) (outs [] [] []) (record updated { windows = window_at 2 2 [] 3 1 ∷ [] })
    -- a number that was taken: the acknowledgement alone counts
    × DataStep fetched 4 (Frame 7 (up 1 1 (Fetch x_key))) (outs [] [] []) (record fetched { windows = window_at 2 1 [] 1 0 ∷ [] })
    × DataStep fetched 4 (Frame 7 (up 0 1 Bare)) (outs [] [] []) (record fetched { windows = window_at 2 1 [] 1 0 ∷ [] })
    -- a gap in the numbers
    × DataStep fetched 4 (Frame 7 (up 3 1 (set_x 1))) (outs [] (7 ∷ []) (Broke 1 0 Server 4 ∷ [])) (cut_off fetched)
    -- an acknowledgement past what was sent
    × DataStep fetched 4 (Frame 7 (up 2 2 (set_x 1))) (outs [] (7 ∷ []) (Broke 1 0 Server 4 ∷ [])) (cut_off fetched)
    × DataStep fetched 4 (Frame 7 (up 0 2 Bare)) (outs [] (7 ∷ []) (Broke 1 0 Server 4 ∷ [])) (cut_off fetched)
    -- a connection that is not there
    × DataStep fetched 4 (Frame 9 (up 2 1 (set_x 1))) (outs [] [] []) fetched
    -- its save
    × DataStep updated 4 (Saved 3) (outs (frame_on 7 3 2 (Ack (head 3 1 1)) ∷ []) [] (Synced 0 3 ∷ []))
    (record updated { synced = 3; windows = window_at 2 1 (Drop (head 3 1 0) [] (255 ∷ []) ∷ Ack (head 3 1 1) ∷ []) 2 0 ∷ [] })
