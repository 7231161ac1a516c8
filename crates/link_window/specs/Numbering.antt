-- How messages are numbered, acknowledged and taken.
use Rattle.std.specs.Prelude.{ℕ, ◌+◌, ◌-◌, max, List, [], ◌∷◌, ◌++◌, length, drop, nat_lt, if◌then◌else◌, Result, Ok, Err}
use Rattle.link_window.specs.WindowState.{WindowState}
use Rattle.link_window.specs.declared.window.Taken.{Taken}
use Rattle.link_window.specs.declared.window.Taken.TheVariants.{Fresh, Repeat}
use Rattle.link_window.specs.declared.window.WindowError.{WindowError}
use Rattle.link_window.specs.declared.window.WindowError.TheVariants.{AckPastSent, Gap}

-- nothing was sent and nothing taken
abbrev pub fresh_window : WindowState
fresh_window = record { acked = 0; waiting = []; taken = 0 }

-- how many messages were sent
abbrev pub sent_count : WindowState → ℕ
sent_count w = w.acked + length w.waiting

-- one message more follows those that were sent
abbrev pub after_send : WindowState → List ℕ → WindowState
after_send w body = record w { waiting = w.waiting ++ body ∷ [] }

-- an acknowledgement past what was sent is refused, then a number after a gap; a number above those taken is fresh
abbrev pub answer_to : WindowState → ℕ → ℕ → Result Taken WindowError
answer_to w seq ack =
    if nat_lt (sent_count w) ack then Err (AckPastSent (sent_count w) ack) else
    (if nat_lt (w.taken + 1) seq then Err (Gap (w.taken + 1) seq) else
    (if nat_lt w.taken seq then Ok Fresh else Ok Repeat))

-- the bodies up to the acknowledgement are given up, and the number is taken where it is the next
abbrev pub after_take : WindowState → ℕ → ℕ → WindowState
after_take w seq ack = record { acked = max w.acked ack; waiting = drop (ack - w.acked) w.waiting; taken = max w.taken seq }
