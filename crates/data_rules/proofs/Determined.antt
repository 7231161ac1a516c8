-- A step has one outcome, but for the run that answers a Fetch: no two of the rules for one input hold together.
use Rattle.std.proofs.Common.{◌≡◌, ◌<◌, ◌≤◌, ◌∙◌, ◌⊎◌, ℕ, Bool, true, false, Option, Some, None, Result, Ok, Err, sym, ap, inl, inr, arith}
use Rattle.ecp_messages.specs.declared.up.Up.{Up}
use Rattle.ecp_messages.specs.declared.up.Up.TheVariants.{Hello, Recover, Update, Add, Fetch, Ask, Unlock, Cancel, Commit, Rollback, Sync, Done, Claim, Bare}
use Rattle.ecp_messages.specs.declared.up.UpFrame.{UpFrame}
use Rattle.link_window.specs.declared.window.Taken.{Taken}
use Rattle.link_window.specs.declared.window.Taken.TheVariants.{Fresh, Repeat}
use Rattle.link_window.specs.declared.window.WindowError.{WindowError}
use Rattle.data_rules.specs.declared.data_in.DataIn.TheVariants.{Frame, Connected, Broken, Tick, Saved}
use Rattle.data_rules.specs.declared.rows.Role.{Role}
use Rattle.data_rules.specs.declared.rows.Role.TheVariants.{New, Waiting, Bound, Closing}
use Rattle.data_rules.specs.declared.rows.Kind.{Kind}
use Rattle.data_rules.specs.declared.rows.Kind.TheVariants.{Opening, Numbered, Unnumbered}
use Rattle.data_rules.specs.declared.data_outs.DataOuts.{DataOuts}
use Rattle.data_rules.specs.DataState.{DataState}
use Rattle.data_rules.specs.Puts.{Sofar, begun}
use Rattle.data_rules.specs.Step.{made}
use Rattle.data_rules.specs.Callers.{TakesHello, TakesRecover, IsNoRecover}
use Rattle.data_rules.specs.Messages.{CannotFollow, TakesCommit, Takes, IsStray}
use Rattle.data_rules.specs.Frames.{settled, took, EndsOldHello, EndsNoRecover, TakesFirst, TakesNumbered, TakesBare, TakesBound, TakesClosing, TakesFrame}
use Rattle.data_rules.specs.Laws.{is_fetch, StepIsDetermined, FetchIsDetermined}

-- both are the same third
one : {A : Type 0} {x y z : A} → x ≡ z → y ≡ z → x ≡ y
one p q = p ∙ sym q

-- a Commit, by whether its answer is wanted
commit_one : (wanted : Bool) (b c e : Sofar) (s w job : ℕ) (x : _) → TakesCommit wanted b s w job x c → TakesCommit wanted b s w job x e → c ≡ e
commit_one true b c e s w job x t u = one t.after u.after
commit_one false b c e s w job x t u = one t.after u.after

-- a fresh message that is taken
fresh_one : (m : Up) (s : ℕ) (b c e : Sofar) → is_fetch m ≡ false → Takes m s b c → Takes m s b e → c ≡ e
fresh_one (Hello app dial) s b c e unlike t u = absurd t
fresh_one (Recover app session epoch taken dial) s b c e unlike t u = absurd t
fresh_one (Update w job txn op) s b c e unlike t u = one t.after u.after
fresh_one (Add w job key amount) s b c e unlike t u = one t.after u.after
fresh_one (Fetch key) s b c e unlike t u = absurd (cc (unlike))
fresh_one (Ask ticket job mode key) s b c e unlike t u = one t.after u.after
fresh_one (Unlock job mode key) s b c e unlike t u = one t.after u.after
fresh_one (Cancel ticket) s b c e unlike t u = one t.after u.after
fresh_one (Commit w job txn wanted) s b c e unlike t u = commit_one wanted b c e s w job _ t u
fresh_one (Rollback w job txn) s b c e unlike t u = one t.after u.after
fresh_one (Sync ticket) s b c e unlike t u = one t.after u.after
fresh_one Done s b c e unlike t u = one t.after u.after
fresh_one (Claim job mode number at key) s b c e unlike t u = one t.after u.after
fresh_one Bare s b c e unlike t u = absurd t

-- a Commit that fits isn't stray
commit_fits : (wanted : Bool) (ack : ℕ) (b c : Sofar) (s w job : ℕ) (x : _) → TakesCommit wanted (took s ack b) s w job x c → CannotFollow b.state s w x → ⊥
commit_fits true ack b c s w job x t stray = stray.1 (t.fits stray.0)
commit_fits false ack b c s w job x t stray = stray.1 (t.fits stray.0)

-- a message that is taken isn't stray
not_both : (m : Up) (s ack : ℕ) (b c : Sofar) → Takes m s (took s ack b) c → IsStray m s b.state → ⊥
not_both (Hello app dial) s ack b c t stray = t
not_both (Recover app session epoch taken dial) s ack b c t stray = t
not_both (Update w job txn op) s ack b c t stray = stray.1 (t.fits stray.0)
not_both (Add w job key amount) s ack b c t stray = stray.1 (t.fits stray.0)
not_both (Fetch key) s ack b c t stray = stray
not_both (Ask ticket job mode key) s ack b c t stray = stray
not_both (Unlock job mode key) s ack b c t stray = stray
not_both (Cancel ticket) s ack b c t stray = stray
not_both (Commit w job txn wanted) s ack b c t stray = commit_fits wanted ack b c s w job _ t stray
not_both (Rollback w job txn) s ack b c t stray = stray.1 (t.fits stray.0)
not_both (Sync ticket) s ack b c t stray = stray
not_both Done s ack b c t stray = absurd (cc (t.awaited, stray))
not_both (Claim job mode number at key) s ack b c t (inl stray) = absurd (cc (t.awaited, stray))
not_both (Claim job mode number at key) s ack b c t (inr stray) = absurd (cc (t.alone, stray))
not_both Bare s ack b c t stray = t

-- a numbered message, by what the window says
numbered_one : (r : Result Taken WindowError) (b c e : Sofar) (conn now s : ℕ) (f : UpFrame) → is_fetch f.message ≡ false →
    TakesNumbered r b conn now s f c → TakesNumbered r b conn now s f e → c ≡ e
numbered_one (Ok Fresh) b c e conn now s f unlike (inl t) (inl u) = fresh_one f.message s (took s f.ack b) c e unlike t.made u.made
numbered_one (Ok Fresh) b c e conn now s f unlike (inl t) (inr u) = absurd (not_both f.message s f.ack b c t.made u.stray)
numbered_one (Ok Fresh) b c e conn now s f unlike (inr t) (inl u) = absurd (not_both f.message s f.ack b e u.made t.stray)
numbered_one (Ok Fresh) b c e conn now s f unlike (inr t) (inr u) = one t.ended.after u.ended.after
numbered_one (Ok Repeat) b c e conn now s f unlike t u = one t u
numbered_one (Err why) b c e conn now s f unlike t u = one t.after u.after

-- an acknowledgement by itself
bare_one : (r : Result Taken WindowError) (b c e : Sofar) (conn now s ack : ℕ) → TakesBare r b conn now s ack c → TakesBare r b conn now s ack e → c ≡ e
bare_one (Ok answer) b c e conn now s ack t u = one t u
bare_one (Err why) b c e conn now s ack t u = one t.after u.after

-- on the connection of a live session
bound_one : (k : Kind) (b c e : Sofar) (conn now s : ℕ) (f : UpFrame) → is_fetch f.message ≡ false →
    TakesBound k b conn now s f c → TakesBound k b conn now s f e → c ≡ e
bound_one Opening b c e conn now s f unlike t u = one t.after u.after
bound_one Numbered b c e conn now s f unlike t u = numbered_one _ b c e conn now s f unlike t u
bound_one Unnumbered b c e conn now s f unlike t u = bare_one _ b c e conn now s f.ack t u

-- on that of a closed one
closing_one : (k : Kind) (b c e : Sofar) (conn now : ℕ) → TakesClosing k b conn now c → TakesClosing k b conn now e → c ≡ e
closing_one Opening b c e conn now t u = one t.after u.after
closing_one Numbered b c e conn now t u = one t.after u.after
closing_one Unnumbered b c e conn now t u = one t.after u.after

-- a Hello
hello_one : (b c e : Sofar) (conn now app dial : ℕ) → TakesHello b conn now app dial c ⊎ EndsOldHello b conn now app dial c →
    TakesHello b conn now app dial e ⊎ EndsOldHello b conn now app dial e → c ≡ e
hello_one b c e conn now app dial (inl t) (inl u) = one t.after u.after
hello_one b c e conn now app dial (inl t) (inr u) = absurd (omega (arith, t.later, u.older))
hello_one b c e conn now app dial (inr t) (inl u) = absurd (omega (arith, t.older, u.later))
hello_one b c e conn now app dial (inr t) (inr u) = one t.ended.after u.ended.after

-- a Recover that is taken
taken_one : (b c e : Sofar) (conn now app s epoch taken dial : ℕ) → TakesRecover b conn now app s epoch taken dial c →
    TakesRecover b conn now app s epoch taken dial e → c ≡ e
taken_one b c e conn now app s epoch taken dial (inl t) (inl u) = one t.after u.after
taken_one b c e conn now app s epoch taken dial (inl t) (inr (inl u)) = absurd (omega (arith, t.same, u.older))
taken_one b c e conn now app s epoch taken dial (inl t) (inr (inr u)) = absurd (cc (t.is_live, u.is_closed))
taken_one b c e conn now app s epoch taken dial (inr (inl t)) (inl u) = absurd (omega (arith, t.older, u.same))
taken_one b c e conn now app s epoch taken dial (inr (inl t)) (inr (inl u)) = cc (t.known, u.known, t.after, u.after)
taken_one b c e conn now app s epoch taken dial (inr (inl t)) (inr (inr u)) = absurd (cc (t.is_live, u.is_closed))
taken_one b c e conn now app s epoch taken dial (inr (inr t)) (inl u) = absurd (cc (t.is_closed, u.is_live))
taken_one b c e conn now app s epoch taken dial (inr (inr t)) (inr (inl u)) = absurd (cc (t.is_closed, u.is_live))
taken_one b c e conn now app s epoch taken dial (inr (inr t)) (inr (inr u)) = cc (t.closed, u.closed, t.after, u.after)

-- no reason to refuse it holds
refuses : {A : Type 0} {dial least last epoch : ℕ} → (A → ⊥) ⊎ (dial < least) ⊎ (last < epoch) → A → least ≤ dial → epoch ≤ last → ⊥
refuses (inl unlike) its later begun = unlike its
refuses (inr (inl older)) its later begun = omega (arith, older, later)
refuses (inr (inr above)) its later begun = omega (arith, above, begun)

-- one that is taken isn't refused
not_refused : (b c : Sofar) (conn now app s epoch taken dial : ℕ) → TakesRecover b conn now app s epoch taken dial c → IsNoRecover b.state app s epoch dial → ⊥
not_refused b c conn now app s epoch taken dial (inl t) unlike = refuses unlike.why t.its t.later (omega (arith, t.same))
not_refused b c conn now app s epoch taken dial (inr (inl t)) unlike = refuses unlike.why t.its t.later (omega (arith, t.older))
not_refused b c conn now app s epoch taken dial (inr (inr t)) unlike = refuses unlike.why t.its t.later t.begun

-- a Recover
recover_one : (b c e : Sofar) (conn now app s epoch taken dial : ℕ) →
    TakesRecover b conn now app s epoch taken dial c ⊎ EndsNoRecover b conn now app s epoch dial c →
    TakesRecover b conn now app s epoch taken dial e ⊎ EndsNoRecover b conn now app s epoch dial e → c ≡ e
recover_one b c e conn now app s epoch taken dial (inl t) (inl u) = taken_one b c e conn now app s epoch taken dial t u
recover_one b c e conn now app s epoch taken dial (inl t) (inr u) = absurd (not_refused b c conn now app s epoch taken dial t u.refused)
recover_one b c e conn now app s epoch taken dial (inr t) (inl u) = absurd (not_refused b e conn now app s epoch taken dial u t.refused)
recover_one b c e conn now app s epoch taken dial (inr t) (inr u) = one t.ended.after u.ended.after

-- the first frame on a connection
first_one : (m : Up) (b c e : Sofar) (conn now : ℕ) → TakesFirst m b conn now c → TakesFirst m b conn now e → c ≡ e
first_one (Hello app dial) b c e conn now t u = hello_one b c e conn now app dial t u
first_one (Recover app session epoch taken dial) b c e conn now t u = recover_one b c e conn now app session epoch taken dial t u
first_one (Update w job txn op) b c e conn now t u = one t.after u.after
first_one (Add w job key amount) b c e conn now t u = one t.after u.after
first_one (Fetch key) b c e conn now t u = one t.after u.after
first_one (Ask ticket job mode key) b c e conn now t u = one t.after u.after
first_one (Unlock job mode key) b c e conn now t u = one t.after u.after
first_one (Cancel ticket) b c e conn now t u = one t.after u.after
first_one (Commit w job txn wanted) b c e conn now t u = one t.after u.after
first_one (Rollback w job txn) b c e conn now t u = one t.after u.after
first_one (Sync ticket) b c e conn now t u = one t.after u.after
first_one Done b c e conn now t u = one t.after u.after
first_one (Claim job mode number at key) b c e conn now t u = one t.after u.after
first_one Bare b c e conn now t u = one t.after u.after

-- a frame, by what its connection is for
frame_one : (r : Option Role) (b c e : Sofar) (conn now : ℕ) (f : UpFrame) → is_fetch f.message ≡ false →
    TakesFrame r b conn now f c → TakesFrame r b conn now f e → c ≡ e
frame_one None b c e conn now f unlike t u = one t.after u.after
frame_one (Some New) b c e conn now f unlike t u = first_one f.message b c e conn now t u
frame_one (Some Waiting) b c e conn now f unlike t u = one t.after u.after
frame_one (Some (Bound session)) b c e conn now f unlike t u = bound_one _ b c e conn now session f unlike t u
frame_one (Some (Closing session)) b c e conn now f unlike t u = closing_one _ b c e conn now t u

-- outputs and state, of both together
halves : {new other : DataState} {outs others : DataOuts} → made new outs ≡ made other others → (outs ≡ others) × (new ≡ other)
halves same = (ap (λ (b : Sofar). b.outs) same, ap (λ (b : Sofar). b.state) same)

pub step_is_determined : StepIsDetermined
step_is_determined d now (Frame conn up) outs others new other unlike t u =
    let same : t.taken ≡ u.taken = frame_one _ (begun d) t.taken u.taken conn now up unlike t.takes u.takes in
    halves (one t.after (u.after ∙ sym (ap (settled conn now) same)))
step_is_determined d now (Connected conn) outs others new other unlike t u = halves (one t u)
step_is_determined d now (Broken conn) outs others new other unlike t u = halves (one t u)
step_is_determined d now Tick outs others new other unlike t u = halves (one t u)
step_is_determined d now (Saved upto) outs others new other unlike t u = halves (one t u)

pub fetch_is_determined : FetchIsDetermined
fetch_is_determined b c other session key t u same = cc (same, t.in_bytes.written, u.in_bytes.written, t.after, u.after)
