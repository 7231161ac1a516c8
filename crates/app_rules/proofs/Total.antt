-- Each input that may come has an outcome.
use Rattle.std.proofs.Common.{◌≡◌, ◌<◌, ◌≤◌, ◌⊎◌, ℕ, Bool, true, false, List, Result, Ok, Err, refl, inl, inr, arith}
use Rattle.std.proofs.lemmas.Bool.{cases_lt, leb-true}
use Rattle.subscript_keys.specs.declared.run.Run.{Run}
use Rattle.block_bytes.specs.Blocks.{IsBlockOf}
use Rattle.link_states.specs.declared.app_link.AppLink.{AppLink}
use Rattle.link_states.specs.declared.app_link.AppLink.TheVariants.{NotConnected, Normal, Trouble, Recovery}
use Rattle.link_window.specs.declared.window.Taken.{Taken}
use Rattle.link_window.specs.declared.window.Taken.TheVariants.{Fresh, Repeat}
use Rattle.link_window.specs.declared.window.WindowError.{WindowError}
use Rattle.ecp_messages.specs.declared.down.Down.{Down}
use Rattle.ecp_messages.specs.declared.down.Down.TheVariants.{Welcome, Reset, Block, Drop, Ack, Grant, Answer, Normal as NormalMessage, Bare}
use Rattle.ecp_messages.specs.declared.down.DownFrame.{DownFrame}
use Rattle.ecp_messages.specs.declared.front.Front.{Front}
use Rattle.app_rules.specs.declared.line.Line.{Line}
use Rattle.app_rules.specs.declared.line.Line.TheVariants.{Apart, Trying, Greeting, Asking, Joined}
use Rattle.app_rules.specs.declared.app_in.AppIn.TheVariants.{Frame, Connected, NoWay, Broken, Join, Tick}
use Rattle.app_rules.specs.Works.{Sofar, begun, end_at, session_at, sets}
use Rattle.app_rules.specs.Welcoming.{greatest, TakesWelcome, IsAsked, IsNoWelcome}
use Rattle.app_rules.specs.Downs.{TakesReset, EndsReset, IsNoRun, HasNoRun, Delivers, falls, took, joined, settled, TakesNumbered, TakesHeaded, TakesAck, TakesBare, TakesFrame}
use Rattle.app_rules.specs.Laws.{StepIsThere}
use Rattle.app_rules.proofs.BlockDecided.{block_known}

-- a truth value is one of the two
either : (t : Bool) → (t ≡ true) ⊎ (t ≡ false)
either true = inl refl
either false = inr refl

-- of two numbers one is below the other, or they are the same
ordered : (a b : ℕ) → (a < b) ⊎ ((a ≡ b) ⊎ (b < a))
ordered a b = go (cases_lt a b) (cases_lt b a)
  where
    go : (a < b) ⊎ (b ≤ a) → (b < a) ⊎ (a ≤ b) → (a < b) ⊎ ((a ≡ b) ⊎ (b < a))
    go (inl low) _ = inl low
    go (inr high) (inl above) = inr (inr above)
    go (inr high) (inr low) = inr (inl (omega (arith, high, low)))

-- a Welcome that may not come
stray : (b : Sofar) (d now session epoch kept : ℕ) (front : Front) (taken : ℕ) → IsNoWelcome b d session epoch front → (c : Sofar) × TakesWelcome b d now session epoch kept front taken c
stray b d now session epoch kept front taken none = (_, inr (inr (inr (record { stray = none; after = refl }))))

-- by how far the connection is
welcome_by : (l : Line) (b : Sofar) (d now session epoch kept : ℕ) (front : Front) (taken : ℕ) → (end_at b.state d).line ≡ l
    → (c : Sofar) × TakesWelcome b d now session epoch kept front taken c
welcome_by Apart b d now session epoch kept front taken at =
    stray b d now session epoch kept front taken (record { no_new = λ e _ _. absurd (cc (at, e)); no_old = λ asked _. absurd (cc (at, asked.asking)) })
welcome_by Trying b d now session epoch kept front taken at =
    stray b d now session epoch kept front taken (record { no_new = λ e _ _. absurd (cc (at, e)); no_old = λ asked _. absurd (cc (at, asked.asking)) })
welcome_by Joined b d now session epoch kept front taken at =
    stray b d now session epoch kept front taken (record { no_new = λ e _ _. absurd (cc (at, e)); no_old = λ asked _. absurd (cc (at, asked.asking)) })
welcome_by Greeting b d now session epoch kept front taken at = go (cases_lt (end_at b.state d).told session) (cases_lt front.n greatest)
  where
    no_old : IsAsked b d session front → ⊥
    no_old asked = absurd (cc (at, asked.asking))

    go : ((end_at b.state d).told < session) ⊎ (session ≤ (end_at b.state d).told) → (front.n < greatest) ⊎ (greatest ≤ front.n)
        → (c : Sofar) × TakesWelcome b d now session epoch kept front taken c
    go (inl above) (inl below) = (_, inl (record { greeting = at; above = above; below = below; after = refl }))
    go (inl above) (inr great) =
        stray b d now session epoch kept front taken (record { no_new = λ _ _ below. omega (arith, great, below); no_old = λ asked _. no_old asked })
    go (inr low) _ =
        stray b d now session epoch kept front taken (record { no_new = λ _ above _. omega (arith, low, above); no_old = λ asked _. no_old asked })
welcome_by Asking b d now session epoch kept front taken at =
    go (ordered (session_at b.state d).number session) (cases_lt front.n greatest) (ordered (session_at b.state d).epoch epoch)
  where
    no_new : (end_at b.state d).line ≡ Greeting → ⊥
    no_new e = absurd (cc (at, e))

    go : ((session_at b.state d).number < session) ⊎ (((session_at b.state d).number ≡ session) ⊎ (session < (session_at b.state d).number))
        → (front.n < greatest) ⊎ (greatest ≤ front.n)
        → ((session_at b.state d).epoch < epoch) ⊎ (((session_at b.state d).epoch ≡ epoch) ⊎ (epoch < (session_at b.state d).epoch))
        → (c : Sofar) × TakesWelcome b d now session epoch kept front taken c
    go (inl low) _ _ = stray b d now session epoch kept front taken (record { no_new = λ e _ _. no_new e; no_old = λ asked _. omega (arith, low, asked.its) })
    go (inr (inr high)) _ _ = stray b d now session epoch kept front taken (record { no_new = λ e _ _. no_new e; no_old = λ asked _. omega (arith, high, asked.its) })
    go (inr (inl its)) (inr great) _ =
        stray b d now session epoch kept front taken (record { no_new = λ e _ _. no_new e; no_old = λ asked _. omega (arith, great, asked.below) })
    go (inr (inl its)) (inl below) (inl later) =
        (_, inr (inr (inl (record { asked = record { asking = at; its = its; below = below }; later = later; after = refl }))))
    go (inr (inl its)) (inl below) (inr (inl same)) =
        (_, inr (inl (record { asked = record { asking = at; its = its; below = below }; same = same; after = refl })))
    go (inr (inl its)) (inl below) (inr (inr older)) =
        stray b d now session epoch kept front taken (record { no_new = λ e _ _. no_new e; no_old = λ _ late. omega (arith, older, leb-true (session_at b.state d).epoch epoch late) })

-- the link is in Recovery or not
recovery_or_not : (l : AppLink) → (l ≡ Recovery) ⊎ (l ≡ Recovery → ⊥)
recovery_or_not NotConnected = inr (λ e. absurd (cc (e)))
recovery_or_not Normal = inr (λ e. absurd (cc (e)))
recovery_or_not (Trouble broke try_at) = inr (λ e. absurd (cc (e)))
recovery_or_not Recovery = inl refl

-- a Reset
reset_there : (b : Sofar) (d now session at : ℕ) → (c : Sofar) × (TakesReset b d session at c ⊎ EndsReset b d now session c)
reset_there b d now session at = go (recovery_or_not (end_at b.state d).link) (ordered (session_at b.state d).number session)
  where
    go : ((end_at b.state d).link ≡ Recovery) ⊎ ((end_at b.state d).link ≡ Recovery → ⊥)
        → ((session_at b.state d).number < session) ⊎ (((session_at b.state d).number ≡ session) ⊎ (session < (session_at b.state d).number))
        → (c : Sofar) × (TakesReset b d session at c ⊎ EndsReset b d now session c)
    go (inl recovering) (inr (inl its)) = (_, inl (record { recovering = recovering; its = its; after = refl }))
    go (inl recovering) (inl low) = (_, inr (record { stray = λ _ e. omega (arith, low, e); after = refl }))
    go (inl recovering) (inr (inr high)) = (_, inr (record { stray = λ _ e. omega (arith, high, e); after = refl }))
    go (inr other) _ = (_, inr (record { stray = λ e _. other e; after = refl }))

-- a numbered message makes something, or it is a Block that is no run's
abbrev Delivered : Down → ℕ → ℕ → Sofar → Type 0
Delivered m d now b = ((c : Sofar) × Delivers m d now b c) ⊎ HasNoRun m

-- a Block
block_there : (front : Front) (block : List ℕ) (d now : ℕ) (b : Sofar) → ((run : Run) × IsBlockOf run block) ⊎ IsNoRun block → Delivered (Block front block) d now b
block_there front block d now b (inl run) = inl (_, record { run = run.0; its = run.1; after = refl })
block_there front block d now b (inr none) = inr none

-- by what the window says
numbered_there : (r : Result Taken WindowError) (b : Sofar) (d now : ℕ) (frame : DownFrame) (f : Front)
    → Delivered frame.message d now (sets d (took frame.seq frame.ack f) b) → (c : Sofar) × TakesNumbered r b d now frame f c
numbered_there (Ok Fresh) b d now frame f m = go (either (falls (session_at b.state d) f)) m
  where
    go : (falls (session_at b.state d) f ≡ true) ⊎ (falls (session_at b.state d) f ≡ false) → Delivered frame.message d now (sets d (took frame.seq frame.ack f) b)
        → (c : Sofar) × TakesNumbered (Ok Fresh) b d now frame f c
    go (inl falls_so) _ = (_, inr (record { why = inl falls_so; after = refl }))
    go (inr ahead) (inl made) = (made.0, inl (record { ahead = ahead; made = made.1 }))
    go (inr ahead) (inr none) = (_, inr (record { why = inr none; after = refl }))
numbered_there (Ok Repeat) b d now frame f m = (_, refl)
numbered_there (Err why) b d now frame f m = (_, refl)

-- before this connection's Welcome or behind it
headed_there : (t : Bool) (b : Sofar) (d now : ℕ) (frame : DownFrame) (f : Front) → Delivered frame.message d now (sets d (took frame.seq frame.ack f) b)
    → (c : Sofar) × TakesHeaded t b d now frame f c
headed_there true b d now frame f m = numbered_there _ b d now frame f m
headed_there false b d now frame f m = (_, refl)

-- an acknowledgement by itself
ack_there : (r : Result Taken WindowError) (b : Sofar) (d now ack : ℕ) → (c : Sofar) × TakesAck r b d now ack c
ack_there (Ok answer) b d now ack = (_, refl)
ack_there (Err why) b d now ack = (_, refl)

bare_there : (t : Bool) (b : Sofar) (d now ack : ℕ) → (c : Sofar) × TakesBare t b d now ack c
bare_there true b d now ack = ack_there _ b d now ack
bare_there false b d now ack = (_, refl)

-- a frame with this message
frame_there : (m : Down) (b : Sofar) (d now seq ack : ℕ)
    → (c : Sofar) × TakesFrame m b d now (record { seq = seq; ack = ack; message = m }) c
frame_there (Welcome session epoch kept front taken) b d now seq ack = welcome_by (end_at b.state d).line b d now session epoch kept front taken refl
frame_there (Reset session at) b d now seq ack = reset_there b d now session at
frame_there (Block front block) b d now seq ack = headed_there (joined b d) b d now _ front (block_there front block d now _ (block_known block))
frame_there (Drop front lo hi) b d now seq ack = headed_there (joined b d) b d now _ front (inl (_, refl))
frame_there (Ack front) b d now seq ack = headed_there (joined b d) b d now _ front (inl (_, refl))
frame_there (Grant front ticket at) b d now seq ack = headed_there (joined b d) b d now _ front (inl (_, refl))
frame_there (Answer front about job number at sum) b d now seq ack = headed_there (joined b d) b d now _ front (inl (_, refl))
frame_there (NormalMessage front) b d now seq ack = headed_there (joined b d) b d now _ front (inl (_, refl))
frame_there Bare b d now seq ack = bare_there (joined b d) b d now ack

pub step_is_there : StepIsThere
step_is_there a now (Frame d down) may =
    let t : (c : Sofar) × TakesFrame down.message (begun a) d now down c = frame_there down.message (begun a) d now down.seq down.ack in
    (settled d t.0, record { taken = t.0; takes = t.1; after = refl })
step_is_there a now (Connected d) may = (_, refl)
step_is_there a now (NoWay d fails_before fails_after) may = (_, refl)
step_is_there a now (Broken d) may = (_, refl)
step_is_there a now (Join d) may = (_, refl)
step_is_there a now Tick may = (_, refl)
