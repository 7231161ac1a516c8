-- Examples of the inputs of an application server's end; and of inputs that are refused since one condition fails: it is named above each.
use Rattle.std.specs.Prelude.{◌≡◌, [], ◌∷◌, Some, None, true, false}
use Rattle.plain_orders.specs.declared.act.Act.TheVariants.{Broke, Lose, Mended, Met, Told}
use Rattle.plain_orders.specs.declared.causes.Loss.TheVariants as losses
use Rattle.plain_orders.specs.declared.causes.PairEnd.TheVariants as ends
use Rattle.plain_orders.specs.declared.mode.Mode.TheVariants.{Exclusive}
use Rattle.plain_orders.specs.declared.refused.LinkName.TheVariants as names
use Rattle.link_states.specs.declared.app_link.AppLink.TheVariants.{Normal, Trouble}
use Rattle.ecp_messages.specs.declared.up.Up.TheVariants.{Hello, Recover, Ask, Claim, Done}
use Rattle.ecp_messages.specs.declared.down.Down.TheVariants as downs
use Rattle.app_job.specs.declared.reason.Reason.TheVariants as reasons
use Rattle.app_rules.specs.declared.app_in.AppIn.TheVariants.{Frame, Connected, NoWay, Broken, Join, Tick}
use Rattle.app_rules.specs.declared.line.Line.TheVariants.{Apart, Trying, Joined}
use Rattle.app_rules.specs.AppState.{Session, no_end}
use Rattle.app_rules.specs.AppStep.{AppStep, AppMay, started}
use Rattle.app_examples.specs.Apps.{times, app_with, down, up, outs, head, tried, greeting, unused, joined_with, joined, set_x, issued, broken_with, asking_with, lost_end}

-- a first connection, and its Welcome
abbrev pub HelloExamples : Type 0
HelloExamples =
    (started 1 1 times ≡ app_with no_end)
    -- the connection that was tried is there: a Hello
    × AppMay (app_with tried) (Connected 0)
    × AppStep (app_with tried) 1 (Connected 0) (outs (up 0 0 (Hello 1 1) ∷ []) [] [] []) (app_with greeting)
    -- tried: none was
    × (AppMay (app_with no_end) (Connected 0) → ⊥)
    -- known: there is no such data server
    × (AppMay (app_with tried) (Connected 1) → ⊥)
    -- it could not be made
    × AppMay (app_with tried) (NoWay 0 3 4)
    × AppStep (app_with tried) 1 (NoWay 0 3 4) (outs [] [] [] (Lose 1 0 (losses.NoWay 3 4) ∷ [])) (app_with (record no_end { failed = 1; before = 3; after = 4 }))
    -- rose: the count is the same
    × (AppMay (app_with tried) (NoWay 0 4 4) → ⊥)
    -- the Welcome of session 2
    × AppStep (app_with greeting) 1 (Frame 0 (down 0 0 (downs.Welcome 2 1 2 (head 2 0 0) 0))) (outs [] [] [] (Met 1 0 2 ∷ [])) (app_with joined)
    -- above: session 2 was told before
    × AppStep (app_with (record greeting { told = 2 })) 1 (Frame 0 (down 0 0 (downs.Welcome 2 1 2 (head 2 0 0) 0))) (outs [] [] (0 ∷ []) [])
    (app_with (record greeting { told = 2; line = Apart }))
    -- a numbered message comes before the Welcome
    × AppStep (app_with greeting) 1 (Frame 0 (down 1 0 (downs.Ack (head 2 0 0)))) (outs [] [] (0 ∷ []) []) (app_with (record greeting { line = Apart }))
    -- a greeting that breaks is forgotten
    × AppStep (app_with greeting) 1 (Broken 0) (outs [] [] [] []) (app_with (record greeting { line = Apart }))

-- a connection breaks, is tried again, and a Recover goes on in the same epoch
abbrev pub RecoverExamples : Type 0
RecoverExamples =
    -- it breaks
    AppStep (app_with (joined_with issued)) 5 (Broken 0) (outs [] [] [] (Broke 1 0 ends.App 5 ∷ [])) (app_with (broken_with issued))
    -- the time to try again isn't there
    × AppStep (app_with (broken_with issued)) 9 Tick (outs [] [] [] []) (app_with (broken_with issued))
    -- it is
    × AppStep (app_with (broken_with issued)) 10 Tick (outs [] (0 ∷ []) [] []) (app_with (record (broken_with issued) { line = Trying }))
    -- a line joins the pair again: at once
    × AppStep (app_with (broken_with issued)) 6 (Join 0) (outs [] (0 ∷ []) [] []) (app_with (record (broken_with issued) { line = Trying }))
    -- an attempt is unanswered already
    × AppStep (app_with (record (broken_with issued) { line = Trying })) 10 Tick (outs [] [] [] []) (app_with (record (broken_with issued) { line = Trying }))
    -- it fails, and no job is told
    × AppStep (app_with (record (broken_with issued) { line = Trying })) 11 (NoWay 0 3 4) (outs [] [] [] [])
    (app_with (record (broken_with issued) { link = Trouble 5 16 }))
    -- it is there: a Recover
    × AppStep (app_with (record (broken_with issued) { line = Trying })) 11 (Connected 0) (outs (up 0 0 (Recover 1 2 1 0 2) ∷ []) [] [] (Mended 1 0 ∷ []))
    (app_with (asking_with issued))
    -- its Welcome: the data server has taken nothing, and the Set goes out again with its number
    × AppStep (app_with (asking_with issued)) 12 (Frame 0 (down 0 0 (downs.Welcome 2 1 3 (head 3 0 0) 0))) (outs (up 1 0 set_x ∷ []) [] [] [])
    (app_with (record (asking_with issued) { link = Normal; line = Joined }))
    -- it has taken the Set, which is synced too: the front stays, and so the job's own update
    × AppStep (app_with (asking_with issued)) 12 (Frame 0 (down 0 0 (downs.Welcome 2 1 3 (head 3 1 1) 1))) (outs [] [] [] [])
    (app_with (record (asking_with (record issued { queue = [] })) { link = Normal; line = Joined }))
    -- its: another session
    × AppStep (app_with (asking_with issued)) 12 (Frame 0 (down 0 0 (downs.Welcome 3 1 3 (head 3 0 0) 0))) (outs [] [] (0 ∷ []) (Broke 1 0 ends.App 12 ∷ []))
    (app_with (record (asking_with issued) { link = Trouble 12 17; line = Apart }))
    -- the time to recover is over
    × AppStep (app_with (broken_with unused)) 105 Tick (outs [] [] [] (Lose 1 0 (losses.Expired 105) ∷ [])) (app_with lost_end)
    -- a Reset: the session was closed
    × AppStep (app_with (asking_with unused)) 12 (Frame 0 (down 0 0 (downs.Reset 2 5))) (outs [] [] (0 ∷ []) (Lose 1 0 (losses.Reset 5) ∷ []))
    (app_with (record no_end { dial = 2; told = 2; lost = record { session = 2; state = names.Recovery; reason = reasons.Reset 5 } ∷ [] }))
    -- its: of another session
    × AppStep (app_with (asking_with unused)) 12 (Frame 0 (down 0 0 (downs.Reset 3 5))) (outs [] [] (0 ∷ []) (Broke 1 0 ends.App 12 ∷ []))
    (app_with (record (asking_with unused) { link = Trouble 12 17; line = Apart }))

-- a session with a lock that job 1 holds, the Set of job 0 on its way, and an Ask of job 2 that was granted to nobody yet
abbrev pub busy : Session
busy =
    record issued {
      asks = record { ticket = 4; job = 2; mode = Exclusive; key = 121 ∷ 0 ∷ []; put = true; at = Some 5 } ∷ [];
      held = record { job = 1; mode = Exclusive; key = 122 ∷ 0 ∷ []; count = 2; at = 3 } ∷ [];
    }

-- the same in epoch 2: the Grant is forgotten, and the Claim, the Set and Done are put
abbrev pub busy_anew : Session
busy_anew =
    record busy {
      epoch = 2;
      n = 4;
      window = record { acked = 0; waiting = Claim 1 Exclusive 2 3 (122 ∷ 0 ∷ []) ∷ set_x ∷ Done ∷ []; taken = 0; since = 0 };
      normal_due = true;
      asks = record { ticket = 4; job = 2; mode = Exclusive; key = 121 ∷ 0 ∷ []; put = false; at = None } ∷ [];
    }

-- Normal: the Ask is put again
abbrev pub busy_again : Session
busy_again =
    record busy_anew {
      n = 6;
      w = 1;
      window = record { acked = 3; waiting = Ask 4 2 Exclusive (121 ∷ 0 ∷ []) ∷ []; taken = 1; since = 0 };
      normal_due = false;
      queue = [];
      late = [];
      asks = record { ticket = 4; job = 2; mode = Exclusive; key = 121 ∷ 0 ∷ []; put = true; at = None } ∷ [];
    }

-- a new epoch is told, and the round ends
abbrev pub EpochExamples : Type 0
EpochExamples =
    AppStep (app_with (asking_with busy)) 12 (Frame 0 (down 0 0 (downs.Welcome 2 2 3 (head 4 0 0) 0)))
    (outs (up 1 0 (Claim 1 Exclusive 2 3 (122 ∷ 0 ∷ [])) ∷ up 2 0 set_x ∷ up 3 0 Done ∷ []) [] [] (Told 1 0 2 2 3 ∷ []))
    (app_with (record (asking_with busy_anew) { line = Joined }))
    -- later: an epoch below the one told
    × AppStep (app_with (asking_with (record busy { epoch = 3 }))) 12 (Frame 0 (down 0 0 (downs.Welcome 2 2 3 (head 4 0 0) 0)))
    (outs [] [] (0 ∷ []) (Broke 1 0 ends.App 12 ∷ []))
    (app_with (record (asking_with (record busy { epoch = 3 })) { link = Trouble 12 17; line = Apart }))
    × AppStep (app_with (record (asking_with busy_anew) { line = Joined })) 13 (Frame 0 (down 1 3 (downs.Normal (head 6 1 1))))
    (outs (up 4 1 (Ask 4 2 Exclusive (121 ∷ 0 ∷ [])) ∷ []) [] [] [])
    (app_with (record (asking_with busy_again) { link = Normal; line = Joined }))
    -- ahead: its front is lower than the one told
    × AppStep (app_with (record (asking_with busy_anew) { line = Joined })) 13 (Frame 0 (down 1 3 (downs.Normal (head 3 1 1))))
    (outs [] [] (0 ∷ []) (Broke 1 0 ends.App 13 ∷ []))
    (app_with (record (asking_with busy_anew) { link = Trouble 13 18; line = Apart }))
    -- a number after a gap
    × AppStep (app_with (record (asking_with busy_anew) { line = Joined })) 13 (Frame 0 (down 2 3 (downs.Normal (head 6 1 1))))
    (outs [] [] (0 ∷ []) (Broke 1 0 ends.App 13 ∷ []))
    (app_with (record (asking_with busy_anew) { link = Trouble 13 18; line = Apart }))
