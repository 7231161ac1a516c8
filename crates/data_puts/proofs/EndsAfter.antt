-- What holds of a node's ends once a step of it is made.
use Rattle.std.proofs.Common.{◌≡◌, ◌<◌, ◌≤◌, ℕ, Bool, true, false, List, [], ◌∷◌, drop, Some, refl, sym, ◌∙◌, ap, subst}
use Rattle.std.specs.Prelude.{nat_lt}
use Rattle.std.specs.List.{list_any}
use Rattle.std.proofs.lemmas.Bool.{ltb-false, ltb-true}
use Rattle.plain_orders.specs.declared.layout.Layout.{Layout}
use Rattle.plain_orders.specs.Entries.{last_epoch}
use Rattle.plain_orders.specs.Sessions.{app_in}
use Rattle.plain_runs.specs.Plain.{Plain}
use Rattle.ecp_messages.specs.declared.up.Up.{Up}
use Rattle.ecp_messages.specs.declared.up.Up.TheVariants as up
use Rattle.ecp_messages.specs.declared.up.UpFrame.{UpFrame}
use Rattle.data_rules.specs.DataState.{DataState}
use Rattle.data_rules.specs.declared.data_in.DataIn.{DataIn}
use Rattle.data_rules.specs.declared.data_in.DataIn.TheVariants as data_in
use Rattle.data_rules.specs.declared.data_outs.DataOuts.{DataOuts}
use Rattle.data_rules.specs.declared.limits.TheConstants.{APP_LIMIT}
use Rattle.data_rules.specs.declared.rows.Caller.{Caller}
use Rattle.data_rules.specs.Callers.{dial_of}
use Rattle.data_rules.specs.Opening.{all_apps}
use Rattle.data_rules.specs.Puts.{Sofar, begun, window_of}
use Rattle.data_rules.specs.Step.{DataMay, DataStep, FrameStep, made}
use Rattle.cluster_runs.specs.Sent.{Lane}
use Rattle.cluster_invariant.specs.Ends.{is_done}
use Rattle.cluster_invariant.specs.Words.{is_same}
use Rattle.cluster_invariant.proofs.PieceMay.{Coming, HelloMay, TakesMay, begins}
use Rattle.cluster_invariant.proofs.Pieces.{kept_by_pieces}
use Rattle.cluster_invariant.proofs.PiecesOfSteps.{StepFrom, step_pieces}
use Rattle.data_puts.proofs.AwaitsPieces.{AwaitsOn, TakesKnown, awaits_piece}
use Rattle.data_pieces.proofs.EndsPieces.{ConnsHold}
use Rattle.data_puts.proofs.SpokenAlong.{Along, along_piece}
use Rattle.data_puts.proofs.StepAwaits.{done_awaits, late_awaits, settled_awaits}

-- what is known of the messages of an input
pub record InputKnown (lane_of : ℕ → Lane) (old : DataState) (now : ℕ) (input : DataIn) : Type 0 where
  pub next : (conn session : ℕ) (f : UpFrame) (b : Sofar) → TakesMay (record { old = old; now = now; input = input }) conn session f b
      → (rest : List Up) × (drop (window_of b.state session).taken (lane_of session).up ≡ f.message ∷ rest)
  pub unlearnt : (conn app session epoch taken dial : ℕ) (f : UpFrame) → input ≡ data_in.Frame conn f → f.message ≡ up.Recover app session epoch taken dial → dial_of old app ≤ dial
      → ((a : ℕ) → app_in old.order session ≡ Some a → a ≡ app) → epoch < last_epoch old.order → (lane_of session).up ≡ []

module _ (l : Layout) (p : Plain) (d k : ℕ) (W : Caller → Type 0) (lane_of : ℕ → Lane) (old : DataState) (now : ℕ) (outs : DataOuts) (new : DataState) (from : StepFrom old) where
  abbrev At : DataIn → Coming
  At input = record { old = old; now = now; input = input }

  -- all that goes along
  pub along_after : (input : DataIn) → DataMay old input → DataStep old now input outs new → ConnsHold old → ((app : ℕ) → app < APP_LIMIT → list_any (is_same app) all_apps ≡ true)
      → ((app conn : ℕ) (b : Sofar) → HelloMay (At input) app conn true b → W (record { conn = conn; app = app })) → Along l p d k (At input) W (begins (At input)) → Along l p d k (At input) W (made new outs)
  along_after input may steps hold all greets first =
      kept_by_pieces (At input) (Along l p d k (At input) W) (along_piece l p d k (At input) W hold all greets) (begins (At input)) (made new outs) (step_pieces old now input outs new from may steps) first

  -- what a round awaits, where no Done and no late Recover comes
  pieces_awaits : (input : DataIn) → DataMay old input → DataStep old now input outs new → ConnsHold old → ((app : ℕ) → app < APP_LIMIT → list_any (is_same app) all_apps ≡ true)
      → ((app conn : ℕ) (b : Sofar) → HelloMay (At input) app conn true b → W (record { conn = conn; app = app })) → Along l p d k (At input) W (begins (At input))
      → TakesKnown lane_of (At input) (Along l p d k (At input) W) → AwaitsOn lane_of (begins (At input)) → AwaitsOn lane_of (made new outs)
  pieces_awaits input may steps hold all greets first known h =
      (kept_by_pieces (At input) (λ b. Along l p d k (At input) W b × AwaitsOn lane_of b)
      (λ q b m both. (along_piece l p d k (At input) W hold all greets q b m both.0, awaits_piece lane_of (At input) (Along l p d k (At input) W) known q b m both.0 both.1))
      (begins (At input)) (made new outs) (step_pieces old now input outs new from may steps) (first, h)).1

  known_of : (input : DataIn) → InputKnown lane_of old now input → ((conn : ℕ) (f : UpFrame) → input ≡ data_in.Frame conn f → is_done f.message ≡ false)
      → ((conn app session epoch taken dial : ℕ) (f : UpFrame) → input ≡ data_in.Frame conn f → f.message ≡ up.Recover app session epoch taken dial → dial_of old app ≤ dial)
      → TakesKnown lane_of (At input) (Along l p d k (At input) W)
  known_of input known undone later = record {
    next = known.next;
    again = λ session conn kept b e may.
        known.unlearnt conn may.app session may.came.epoch may.came.taken may.came.dial may.came.came.up may.came.came.its may.came.came.says
        (later conn may.app session may.came.epoch may.came.taken may.came.dial may.came.came.up may.came.came.its may.came.came.says)
        (λ a is. (let here : app_in b.state.order session ≡ Some a = e.ends.grown.apps session a is in let there : app_in b.state.order session ≡ Some may.app = may.came.its in cc))
        (subst (λ (n : ℕ). may.came.epoch < n) e.ends.grown.epoch may.older);
    undone = undone;
  }

  -- a frame
  frame_awaits : (conn : ℕ) (f : UpFrame) → DataMay old (data_in.Frame conn f) → FrameStep (begun old) now conn f (made new outs) → ConnsHold old → ((app : ℕ) → app < APP_LIMIT → list_any (is_same app) all_apps ≡ true)
      → ((app c : ℕ) (b : Sofar) → HelloMay (At (data_in.Frame conn f)) app c true b → W (record { conn = c; app = app })) → Along l p d k (At (data_in.Frame conn f)) W (begun old)
      → InputKnown lane_of old now (data_in.Frame conn f) → AwaitsOn lane_of (begun old) → AwaitsOn lane_of (made new outs)
  frame_awaits conn f may steps hold all greets first known h = go f.message refl
    where
      same : (c : ℕ) (g : UpFrame) → data_in.Frame conn f ≡ data_in.Frame c g → f ≡ g
      same c g is = cc

      others : is_done f.message ≡ false → ((app session epoch taken dial : ℕ) → f.message ≡ up.Recover app session epoch taken dial → dial_of old app ≤ dial) → AwaitsOn lane_of (made new outs)
      others undone later =
          pieces_awaits (data_in.Frame conn f) may steps hold all greets first
          (known_of (data_in.Frame conn f) known (λ c g is. ap (λ (u : UpFrame). is_done u.message) (sym (same c g is)) ∙ undone)
          (λ c app session epoch taken dial g is says. later app session epoch taken dial (ap (λ (u : UpFrame). u.message) (same c g is) ∙ says))) h

      next : (session : ℕ) → TakesMay (At (data_in.Frame conn f)) conn session f (begun old) → (rest : List Up) × (drop (window_of old session).taken (lane_of session).up ≡ f.message ∷ rest)
      next session m = known.next conn session f (begun old) m

      ended : AwaitsOn lane_of steps.taken → AwaitsOn lane_of (made new outs)
      ended t = subst (AwaitsOn lane_of) (sym steps.after) (settled_awaits lane_of old now conn steps.taken t)

      plain : (m : Up) → f.message ≡ m → is_done m ≡ false → ((app session epoch taken dial : ℕ) → m ≡ up.Recover app session epoch taken dial → ⊥) → AwaitsOn lane_of (made new outs)
      plain m says undone apart = others (ap is_done says ∙ undone) (λ app session epoch taken dial is. absurd (apart app session epoch taken dial (sym says ∙ is)))

      go : (m : Up) → f.message ≡ m → AwaitsOn lane_of (made new outs)
      go (up.Hello app dial) says = plain (up.Hello app dial) says refl (λ a s e t x is. cc)
      go (up.Recover app session epoch taken dial) says = by (nat_lt dial (dial_of old app)) refl
        where
          numbers : (a s e t x : ℕ) → up.Recover app session epoch taken dial ≡ up.Recover a s e t x → (app ≡ a) × (dial ≡ x)
          numbers a s e t x is = (cc, cc)

          by : (b : Bool) → nat_lt dial (dial_of old app) ≡ b → AwaitsOn lane_of (made new outs)
          by true is = ended (late_awaits lane_of old now conn f next app session epoch taken dial says (ltb-true dial (dial_of old app) is) steps.taken steps.takes h)
          by false is =
              others (ap is_done says)
              (λ a s e t x its.
              (let n : (app ≡ a) × (dial ≡ x) = numbers a s e t x (sym says ∙ its) in
              subst (λ (q : ℕ). q ≤ x) (ap (dial_of old) n.0) (subst (λ (q : ℕ). dial_of old app ≤ q) n.1 (ltb-false dial (dial_of old app) is))))
      go (up.Update w job txn op) says = plain (up.Update w job txn op) says refl (λ a s e t x is. cc)
      go (up.Add w job key amount) says = plain (up.Add w job key amount) says refl (λ a s e t x is. cc)
      go (up.Fetch key) says = plain (up.Fetch key) says refl (λ a s e t x is. cc)
      go (up.Ask ticket job mode key) says = plain (up.Ask ticket job mode key) says refl (λ a s e t x is. cc)
      go (up.Unlock job mode key) says = plain (up.Unlock job mode key) says refl (λ a s e t x is. cc)
      go (up.Cancel ticket) says = plain (up.Cancel ticket) says refl (λ a s e t x is. cc)
      go (up.Commit w job txn wanted) says = plain (up.Commit w job txn wanted) says refl (λ a s e t x is. cc)
      go (up.Rollback w job txn) says = plain (up.Rollback w job txn) says refl (λ a s e t x is. cc)
      go (up.Sync ticket) says = plain (up.Sync ticket) says refl (λ a s e t x is. cc)
      go up.Done says = ended (done_awaits lane_of old now conn f next says steps.taken steps.takes h)
      go (up.Claim job mode number at key) says = plain (up.Claim job mode number at key) says refl (λ a s e t x is. cc)
      go up.Bare says = plain up.Bare says refl (λ a s e t x is. cc)

  -- What the round awaits, after each step.
  pub awaits_after : (input : DataIn) → DataMay old input → DataStep old now input outs new → ConnsHold old → ((app : ℕ) → app < APP_LIMIT → list_any (is_same app) all_apps ≡ true)
      → ((app conn : ℕ) (b : Sofar) → HelloMay (At input) app conn true b → W (record { conn = conn; app = app })) → Along l p d k (At input) W (begins (At input))
      → InputKnown lane_of old now input → AwaitsOn lane_of (begins (At input)) → AwaitsOn lane_of (made new outs)
  awaits_after (data_in.Frame conn f) may steps hold all greets first known h = frame_awaits conn f may steps hold all greets first known h
  awaits_after (data_in.Connected conn) may steps hold all greets first known h =
      pieces_awaits (data_in.Connected conn) may steps hold all greets first (known_of (data_in.Connected conn) known (λ c f is. absurd cc) (λ c a s e t x f is says. absurd cc)) h
  awaits_after (data_in.Broken conn) may steps hold all greets first known h =
      pieces_awaits (data_in.Broken conn) may steps hold all greets first (known_of (data_in.Broken conn) known (λ c f is. absurd cc) (λ c a s e t x f is says. absurd cc)) h
  awaits_after data_in.Tick may steps hold all greets first known h = pieces_awaits data_in.Tick may steps hold all greets first (known_of data_in.Tick known (λ c f is. absurd cc) (λ c a s e t x f is says. absurd cc)) h
  awaits_after (data_in.Saved upto) may steps hold all greets first known h =
      pieces_awaits (data_in.Saved upto) may steps hold all greets first (known_of (data_in.Saved upto) known (λ c f is. absurd cc) (λ c a s e t x f is says. absurd cc)) h
