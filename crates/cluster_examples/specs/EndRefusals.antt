-- Moves of an application server and of a data server that are refused since one condition fails: it is named above each.
use Rattle.std.specs.Prelude.{ℕ, ◌<◌, List, [], ◌∷◌, ◌++◌, None, true, false}
use Rattle.plain_orders.specs.declared.entry.Entry.{Entry}
use Rattle.plain_orders.specs.declared.entry.Entry.TheVariants.{Epoch, Opened}
use Rattle.plain_orders.specs.declared.limits.TheConstants.{START_EPOCH_LIMIT}
use Rattle.plain_orders.specs.Entries.{last_epoch}
use Rattle.ecp_messages.specs.declared.up.Up.TheVariants.{Hello, Fetch, Cancel}
use Rattle.ecp_messages.specs.declared.down.Down.TheVariants.{Ack}
use Rattle.app_rules.specs.declared.app_in.AppIn.TheVariants as app_in
use Rattle.data_rules.specs.declared.data_in.DataIn.TheVariants as data_in
use Rattle.cluster_runs.specs.CoresState.{CoresState, start}
use Rattle.cluster_runs.specs.Moves.{Allowed}
use Rattle.cluster_runs.specs.declared.moves.Move.TheVariants.{App, Server, Begin, Halt, Die, Tick}
use Rattle.cluster_examples.specs.Scenes.{x_key, head, up_frame, down_frame}
use Rattle.cluster_examples.specs.FirstRun.{layout, began, tried, accepted, greeted, welcomed, issued, saved}

-- steps of an application server's ends
abbrev pub AppRefusals : Type 0
AppRefusals =
    -- known: there is no such application server
    (Allowed tried (App 1 0 app_in.Tick) → ⊥)
    -- alive: it is gone
    × (Allowed (record tried { dead = true ∷ [] }) (App 0 0 app_in.Tick) → ⊥)
    -- clock: another moment than that of the last tick
    × (Allowed tried (App 0 1 app_in.Tick) → ⊥)
    -- no_less: before its last step
    × (Allowed (record tried { app_nows = 1 ∷ [] }) (App 0 0 app_in.Tick) → ⊥)
    -- takes: no frame is on its way
    × (Allowed greeted (App 0 0 (app_in.Frame 0 (down_frame 1 0 (Ack (head 2 0 0))))) → ⊥)
    -- takes: another one is the next
    × (Allowed welcomed (App 0 0 (app_in.Frame 0 (down_frame 1 0 (Ack (head 2 0 0))))) → ⊥)
    -- tried: no attempt is unanswered
    × (Allowed began (App 0 0 (app_in.Connected 0)) → ⊥)
    -- rose: the count of failed connects is the same
    × (Allowed tried (App 0 0 (app_in.NoWay 0 4 4)) → ⊥)
    -- known: there is no such data server
    × (Allowed tried (App 0 0 (app_in.Broken 1)) → ⊥)
    -- known: there is no such application server that could go
    × (Allowed tried (Die 1) → ⊥)
    -- alive: it is gone already
    × (Allowed (record tried { dead = true ∷ [] }) (Die 0) → ⊥)

-- the data server has left the connection
abbrev pub left : CoresState
left = record accepted { accepted = record { server = 0; conn = 1; dial = None; left = true } ∷ [] }

-- another connection is accepted
abbrev pub accepted_more : CoresState
accepted_more = record greeted { accepted = greeted.accepted ++ record { server = 0; conn = 2; dial = None; left = false } ∷ [] }

-- steps of a data server
abbrev pub ServerRefusals : Type 0
ServerRefusals =
    -- known: there is no such data server
    (Allowed began (Server 1 0 data_in.Tick) → ⊥)
    -- clock: another moment than that of the last tick
    × (Allowed began (Server 0 1 data_in.Tick) → ⊥)
    -- no_less: before its last step
    × (Allowed (record began { server_nows = 1 ∷ [] }) (Server 0 0 data_in.Tick) → ⊥)
    -- it is down
    × (Allowed (start layout) (Server 0 0 data_in.Tick) → ⊥)
    -- takes: the connection was never accepted
    × (Allowed accepted (Server 0 0 (data_in.Frame 2 (up_frame 0 0 (Hello 0 1)))) → ⊥)
    -- takes: it was left
    × (Allowed left (Server 0 0 (data_in.Frame 1 (up_frame 0 0 (Hello 0 1)))) → ⊥)
    -- unlinked: another connection is the dial's other end
    × (Allowed accepted_more (Server 0 0 (data_in.Frame 2 (up_frame 0 0 (Hello 0 1)))) → ⊥)
    -- unlinked: a first frame that names no dial
    × (Allowed accepted (Server 0 0 (data_in.Frame 1 (up_frame 1 0 (Cancel 1)))) → ⊥)
    -- first: it isn't the first of the dial that it names
    × (Allowed accepted (Server 0 0 (data_in.Frame 1 (up_frame 0 7 (Hello 0 1)))) → ⊥)
    -- another frame is the next of the dial
    × (Allowed issued (Server 0 0 (data_in.Frame 1 (up_frame 2 0 (Fetch x_key)))) → ⊥)
    -- the connection's number was had before
    × (Allowed accepted (Server 0 0 (data_in.Connected 1)) → ⊥)
    -- no_less: less is saved than was
    × (Allowed saved (Server 0 0 (data_in.Saved 2)) → ⊥)
    -- within: more is saved than there is
    × (Allowed saved (Server 0 0 (data_in.Saved 4)) → ⊥)

-- the data server is down, and all of its three entries were saved
abbrev pub down : CoresState
down = record saved { nodes = None ∷ [] }

-- starts and halts
abbrev pub BeginRefusals : Type 0
BeginRefusals =
    -- known: there is no such data server
    (Allowed began (Begin 1 0 []) → ⊥)
    -- is_down: it runs
    × (Allowed began (Begin 0 0 (Epoch 1 ∷ [])) → ⊥)
    -- clock: another moment than that of the last tick
    × (Allowed (start layout) (Begin 0 1 []) → ⊥)
    -- kept: the first start is with a list that is not ordered
    × (Allowed (start layout) (Begin 0 0 (Epoch 2 ∷ [])) → ⊥)
    -- no_less: a later start loses what was saved
    × (Allowed down (Begin 0 0 (Epoch 1 ∷ Opened 2 0 ∷ [])) → ⊥)
    -- front: what a later start keeps is no front of the order
    × (Allowed down (Begin 0 0 (Epoch 1 ∷ Opened 2 0 ∷ Epoch 2 ∷ [])) → ⊥)
    -- low: the last epoch is past the limit
    × ((es : List Entry) → START_EPOCH_LIMIT < last_epoch es → Allowed (start layout) (Begin 0 0 es) → ⊥)
    -- known: there is no such data server that could halt
    × (Allowed began (Halt 1) → ⊥)
    -- is_up: it is down already
    × (Allowed down (Halt 0) → ⊥)
    -- a tick may always come
    × ((c : CoresState) (now : ℕ) → Allowed c (Tick now))
