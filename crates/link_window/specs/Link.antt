-- Two ends with a window each, over any number of connections that may break at any moment.
use Rattle.std.specs.Prelude.{ℕ, ◌+◌, ◌-◌, max, ◌≡◌, List, [], ◌∷◌, ◌++◌, drop, Bool, true, false, Option, Some, None, Result, Ok, Err}
use Rattle.link_window.specs.WindowState.{WindowState}
use Rattle.link_window.specs.Numbering.{fresh_window, sent_count, answer_to, after_send, after_take}
use Rattle.link_window.specs.declared.window.Taken.{Taken}
use Rattle.link_window.specs.declared.window.Taken.TheVariants.{Fresh, Repeat}
use Rattle.link_window.specs.declared.window.WindowError.{WindowError}

-- a message on its way, with its number, the acknowledgement that goes with it and its body; a bare one has no number
pub data Frame : Type 0 where
  Numbered : (seq ack : ℕ) (body : List ℕ) → Frame
  Bare : (ack : ℕ) → Frame

-- one end
pub record End : Type 0 where
  pub window : WindowState
  pub put : List (List ℕ)  -- every body that it sent
  pub got : List (List ℕ)  -- every body that it took fresh
  pub coming : List Frame  -- what is on its way to it, on the connection that it has
  pub away : Bool  -- it left its connection and has no other
  pub told : Option ℕ  -- how many messages the other end took, as that end told it
  pub ready : Bool  -- it has sent again what follows that number, and puts on its connection what it sends
  pub refused : Bool  -- it refused a number

-- both ends, and whether they have the same connection
pub record Link : Type 0 where
  pub mine : End
  pub other : End
  pub joined : Bool

-- what may happen at an end
pub data Happening : Type 0 where
  Sends : (body : List ℕ) → Happening  -- it sends a body
  Acknowledges : Happening  -- it puts a bare message
  Takes : Happening  -- the next message comes to it
  Leaves : Happening  -- it leaves its connection; what was on its way to it is lost
  Joins : Happening  -- both, which had none, get a new connection
  IsTold : Happening  -- the other end, which takes no more from an old connection, tells it how many it took
  Resends : Happening  -- it sends again what the other end hasn't taken

-- which end it happens at
pub data At : Type 0 where
  Mine : Happening → At
  Other : Happening → At

abbrev pub fresh_end : End
fresh_end = record { window = fresh_window; put = []; got = []; coming = []; away = true; told = None; ready = false; refused = false }

-- both ends before their first connection
abbrev pub start : Link
start = record { mine = fresh_end; other = fresh_end; joined = false }

-- messages that a ready end puts are on their way to the other where both have the same connection, and else lost
abbrev pub carried : Bool → Bool → List Frame → List Frame
carried true true frames = frames
carried _ _ frames = []

abbrev pub with_coming : End → List Frame → End
with_coming e frames = record e { coming = e.coming ++ frames }

-- the messages of these bodies, numbered from n + 1
abbrev pub numbered : ℕ → ℕ → List (List ℕ) → List Frame
numbered n ack [] = []
numbered n ack (b ∷ bs) = Numbered (n + 1) ack b ∷ numbered (n + 1) ack bs

abbrev pub on_send : Link → List ℕ → Link
on_send l body = record l {
  mine = record l.mine { window = after_send l.mine.window body; put = l.mine.put ++ body ∷ [] };
  other = with_coming l.other (carried l.mine.ready l.joined (numbered (sent_count l.mine.window) l.mine.window.taken (body ∷ [])));
}

abbrev pub on_bare : Link → Link
on_bare l = record l { other = with_coming l.other (carried l.mine.ready l.joined (Bare l.mine.window.taken ∷ [])) }

-- an end that took a message
abbrev pub took : End → ℕ → ℕ → List (List ℕ) → Result Taken WindowError → End
took e seq ack bodies (Ok Fresh) = record e { window = after_take e.window seq ack; got = e.got ++ bodies }
took e seq ack bodies (Ok Repeat) = record e { window = after_take e.window seq ack }
took e seq ack bodies (Err why) = record e { refused = true }

abbrev pub on_take : End → List Frame → End
on_take e [] = e
on_take e (Numbered seq ack body ∷ frames) = took (record e { coming = frames }) seq ack (body ∷ []) (answer_to e.window seq ack)
on_take e (Bare ack ∷ frames) = took (record e { coming = frames }) 0 ack [] (answer_to e.window 0 ack)

abbrev pub on_leave : Link → Link
on_leave l = record l { mine = record l.mine { coming = []; away = true; told = None; ready = false }; joined = false }

abbrev pub on_join : Link → Bool → Bool → Link
on_join l true true = record { mine = record l.mine { away = false }; other = record l.other { away = false }; joined = true }
on_join l _ _ = l

-- the other end takes no more from an old connection: it left that, or both have the same and this one has put nothing there
abbrev pub on_told : Link → Bool → Bool → Bool → Link
on_told l false true _ = record l { mine = record l.mine { told = Some l.other.window.taken } }
on_told l false false true = record l { mine = record l.mine { told = Some l.other.window.taken } }
on_told l _ _ _ = l

abbrev pub on_resend : Link → Option ℕ → Bool → Link
on_resend l (Some n) false = record l {
  mine = record l.mine { told = None; ready = true };
  other = with_coming l.other (carried true l.joined (numbered (max n l.mine.window.acked) l.mine.window.taken (drop (n - l.mine.window.acked) l.mine.window.waiting)));
}
on_resend l _ _ = l

abbrev pub at_mine : Link → Happening → Link
at_mine l (Sends body) = on_send l body
at_mine l Acknowledges = on_bare l
at_mine l Takes = record l { mine = on_take l.mine l.mine.coming }
at_mine l Leaves = on_leave l
at_mine l Joins = on_join l l.mine.away l.other.away
at_mine l IsTold = on_told l l.mine.ready l.joined l.other.away
at_mine l Resends = on_resend l l.mine.told l.mine.away

-- the same two ends, seen from the other one
abbrev pub turned : Link → Link
turned l = record l { mine = l.other; other = l.mine }

abbrev pub happens : Link → At → Link
happens l (Mine what) = at_mine l what
happens l (Other what) = turned (at_mine (turned l) what)

abbrev pub run : List At → Link → Link
run [] l = l
run (a ∷ more) l = run more (happens l a)

-- what one end took is a front of what the other sent, and it refused no number
pub record IsInOrder (from to : End) : Type 0 where
  pub rest : List (List ℕ)
  pub front : to.got ++ rest ≡ from.put
  pub unrefused : to.refused ≡ false

-- it holds in both directions
pub record KeepsOrder (l : Link) : Type 0 where
  pub there : IsInOrder l.mine l.other
  pub back : IsInOrder l.other l.mine
