-- Ends of an application server that take and put nothing in a step: they are as they were, or have no connection any more.
use Rattle.std.proofs.Common.{◌≡◌, ◌≢◌, ◌⊎◌, inl, inr, ℕ, Bool, true, false, not, ◌&&◌, ◌==◌, List, [], ◌∷◌, None, refl, sym, ◌∙◌, ap, subst, eqb}
use Rattle.std.specs.Prelude.{nat_le}
use Rattle.std.specs.List.{AllByRecursion}
use Rattle.std.proofs.lemmas.Bool.{eqb-true, eq-eqb, false≢true, ne_eqb}
use Rattle.plain_orders.specs.declared.act.Act.{Act}
use Rattle.plain_orders.specs.declared.layout.Times.{Times}
use Rattle.plain_orders.specs.Times.{until}
use Rattle.link_states.specs.declared.app_link.AppLink.{AppLink}
use Rattle.link_states.specs.declared.app_link.AppLink.TheVariants.{NotConnected, Normal as NormalLink, Trouble, Recovery}
use Rattle.app_rules.specs.declared.line.Line.{Line}
use Rattle.app_rules.specs.declared.line.Line.TheVariants.{Apart, Trying, Greeting, Asking, Joined}
use Rattle.app_rules.specs.AppState.{AppState, AppEnd}
use Rattle.app_rules.specs.Laws.{KeepsOthers}
use Rattle.app_rules.specs.Losing.{ticks, ticks_from, line_after_loss}
use Rattle.app_rules.specs.Works.{Sofar, end_at, is_apart}
use Rattle.app_rules.proofs.OneEnd.{one_ticks_from}
use Rattle.cluster_invariant.specs.Words.{has_wire}
use Rattle.cluster_invariant.proofs.AllLists.{all_joined}
use Rattle.cluster_steps.proofs.FrameEnds.{ended_from}
use Rattle.cluster_steps.proofs.InputEnds.{failed_end, rejoined, ticked_from, ticked_acts, ticked_here, tried_if, troubled, lost_if, trouble_here}
use Rattle.link_apps.proofs.EnteredStays.{keeps_entered}

-- An end that put and took nothing: it has its session or lost it, and is as it was or has no connection.
pub record EndRests (e t : AppEnd) : Type 0 where
  pub dial : t.dial ≡ e.dial
  pub told : t.told ≡ e.told
  pub session : (t.session ≡ e.session) ⊎ (t.session ≡ None)
  pub still : (t ≡ e) ⊎ (has_wire t.line ≡ false)

pub rests_same : (e : AppEnd) → EndRests e e
rests_same e = record { dial = refl; told = refl; session = inl refl; still = inl refl }

pub rests_then : (e f g : AppEnd) → EndRests e f → EndRests f g → EndRests e g
rests_then e f g x y = record { dial = y.dial ∙ x.dial; told = y.told ∙ x.told; session = sessions x.session y.session; still = stills x.still y.still }
  where
    sessions : (f.session ≡ e.session) ⊎ (f.session ≡ None) → (g.session ≡ f.session) ⊎ (g.session ≡ None) → (g.session ≡ e.session) ⊎ (g.session ≡ None)
    sessions (inl a) (inl b) = inl (b ∙ a)
    sessions (inr a) (inl b) = inr (b ∙ a)
    sessions a (inr b) = inr b

    stills : (f ≡ e) ⊎ (has_wire f.line ≡ false) → (g ≡ f) ⊎ (has_wire g.line ≡ false) → (g ≡ e) ⊎ (has_wire g.line ≡ false)
    stills (inl a) (inl b) = inl (b ∙ a)
    stills (inr a) (inl b) = inr (ap (λ (z : AppEnd). has_wire z.line) b ∙ a)
    stills a (inr b) = inr b

pub failed_rests : (link : AppLink) (times : Times) (before later now : ℕ) (e : AppEnd) → EndRests e (failed_end link times before later now e)
failed_rests NotConnected times before later now e = record { dial = refl; told = refl; session = inl refl; still = inr refl }
failed_rests NormalLink times before later now e = record { dial = refl; told = refl; session = inl refl; still = inr refl }
failed_rests (Trouble broke try_at) times before later now e = record { dial = refl; told = refl; session = inl refl; still = inr refl }
failed_rests Recovery times before later now e = record { dial = refl; told = refl; session = inl refl; still = inr refl }

-- a connection that ended
pub ended_rests : (line : Line) (times : Times) (now : ℕ) (e : AppEnd) → e.line ≡ line → EndRests e (ended_from line times now e)
ended_rests Apart times now e is = rests_same e
ended_rests Trying times now e is = rests_same e
ended_rests Greeting times now e is = record { dial = refl; told = refl; session = inl refl; still = inr refl }
ended_rests Asking times now e is = record { dial = refl; told = refl; session = inl refl; still = inr refl }
ended_rests Joined times now e is = record { dial = refl; told = refl; session = inl refl; still = inr refl }

tried_rests : (apart : Bool) (e : AppEnd) → EndRests e (tried_if apart e)
tried_rests true e = record { dial = refl; told = refl; session = inl refl; still = inr refl }
tried_rests false e = rests_same e

pub rejoined_rests : (link : AppLink) (e : AppEnd) → EndRests e (rejoined link e)
rejoined_rests NotConnected e = rests_same e
rejoined_rests NormalLink e = rests_same e
rejoined_rests (Trouble broke try_at) e = tried_rests (is_apart e.line) e
rejoined_rests Recovery e = rests_same e

pub lost_wire : (k : Line) → has_wire (line_after_loss k) ≡ false
lost_wire Apart = refl
lost_wire Trying = refl
lost_wire Greeting = refl
lost_wire Asking = refl
lost_wire Joined = refl

troubled_rests : (over may : Bool) (broke now : ℕ) (e : AppEnd) → EndRests e (troubled over may broke now e)
troubled_rests true may broke now e = record { dial = refl; told = refl; session = inr refl; still = inr (lost_wire e.line) }
troubled_rests false true broke now e = tried_rests (is_apart e.line) e
troubled_rests false false broke now e = rests_same e

ticked_rests : (link : AppLink) (times : Times) (now : ℕ) (e : AppEnd) → EndRests e (ticked_from link times now e)
ticked_rests NotConnected times now e = rests_same e
ticked_rests NormalLink times now e = rests_same e
ticked_rests (Trouble broke try_at) times now e = troubled_rests (nat_le (until broke times.recover) now) (nat_le try_at now) broke now e
ticked_rests Recovery times now e = rests_same e

-- one end of several
pub one_rests : (a b : AppState) (d k : ℕ) → KeepsOthers a b d → EndRests (end_at a d) (end_at b d) → EndRests (end_at a k) (end_at b k)
one_rests a b d k others here = go (eqb k d) refl
  where
    go : (t : Bool) → eqb k d ≡ t → EndRests (end_at a k) (end_at b k)
    go true same = subst (λ (n : ℕ). EndRests (end_at a n) (end_at b n)) (sym (eqb-true k d same)) here
    go false other =
        subst (λ (x : AppEnd). EndRests (end_at a k) x) (sym (others k (λ same. false≢true (sym other ∙ eq-eqb k d same)))) (rests_same (end_at a k))

one_ticked : (link : AppLink) (d k now : ℕ) (b : Sofar) → (end_at b.state d).link ≡ link → EndRests (end_at b.state k) (end_at (ticks_from link d now b).state k)
one_ticked NotConnected d k now b same = rests_same (end_at b.state k)
one_ticked NormalLink d k now b same = rests_same (end_at b.state k)
one_ticked (Trouble broke try_at) d k now b same =
    one_rests b.state (ticks_from (Trouble broke try_at) d now b).state d k (one_ticks_from (Trouble broke try_at) d now b).others
    (subst (λ (l : AppLink). EndRests (end_at b.state d) (end_at (ticks_from l d now b).state d)) same
    (subst (λ (x : AppEnd). EndRests (end_at b.state d) x) (sym (ticked_here d now b (trouble_here b.state d broke try_at same)).end)
    (ticked_rests (end_at b.state d).link b.state.times now (end_at b.state d))))
one_ticked Recovery d k now b same = rests_same (end_at b.state k)

-- Each end after a tick.
pub all_ticked : (ds : List ℕ) (k now : ℕ) (b : Sofar) → EndRests (end_at b.state k) (end_at (ticks ds now b).state k)
all_ticked [] k now b = rests_same (end_at b.state k)
all_ticked (d ∷ ds) k now b =
    rests_then (end_at b.state k) (end_at (ticks_from (end_at b.state d).link d now b).state k) (end_at (ticks (d ∷ ds) now b).state k)
    (one_ticked (end_at b.state d).link d k now b refl) (all_ticked ds k now (ticks_from (end_at b.state d).link d now b))

-- what a tick loses

-- no session is lost at this data server
abbrev pub Keeps : ℕ → ℕ → List Act → Type 0
Keeps app d acts = AllByRecursion (λ a. keeps_entered app d a ≡ true) acts

lost_elsewhere : (over : Bool) (app a d k now : ℕ) → d ≢ k → Keeps app k (lost_if over a d now)
lost_elsewhere true app a d k now other = (by (a == app), tt)
  where
    by : (b : Bool) → not (b && d == k) ≡ true
    by true = ap not (ne_eqb d k other)
    by false = refl
lost_elsewhere false app a d k now other = tt

ticked_elsewhere : (link : AppLink) (times : Times) (app a d k now : ℕ) → d ≢ k → Keeps app k (ticked_acts link times a d now)
ticked_elsewhere NotConnected times app a d k now other = tt
ticked_elsewhere NormalLink times app a d k now other = tt
ticked_elsewhere (Trouble broke try_at) times app a d k now other = lost_elsewhere (nat_le (until broke times.recover) now) app a d k now other
ticked_elsewhere Recovery times app a d k now other = tt

-- an end that isn't in trouble
abbrev pub IsUntroubled : AppEnd → Type 0
IsUntroubled e = (broke try_at : ℕ) → e.link ≡ Trouble broke try_at → ⊥

tick_keeps : (link : AppLink) (app d k now : ℕ) (b : Sofar) → (end_at b.state d).link ≡ link → IsUntroubled (end_at b.state k) → Keeps app k b.outs.acts
    → Keeps app k (ticks_from link d now b).outs.acts
tick_keeps NotConnected app d k now b same calm keeps = keeps
tick_keeps NormalLink app d k now b same calm keeps = keeps
tick_keeps (Trouble broke try_at) app d k now b same calm keeps =
    subst (λ (l : AppLink). Keeps app k (ticks_from l d now b).outs.acts) same
    (subst (Keeps app k) (sym (ticked_here d now b (trouble_here b.state d broke try_at same)).acts)
    (all_joined (λ a. keeps_entered app k a ≡ true) b.outs.acts (ticked_acts (end_at b.state d).link b.state.times b.state.app d now) keeps
    (ticked_elsewhere (end_at b.state d).link b.state.times app b.state.app d k now (λ at. absurd (calm broke try_at (ap (λ (n : ℕ). (end_at b.state n).link) (sym at) ∙ same))))))
tick_keeps Recovery app d k now b same calm keeps = keeps

tick_calm : (link : AppLink) (d k now : ℕ) (b : Sofar) → (end_at b.state d).link ≡ link → IsUntroubled (end_at b.state k) → end_at (ticks_from link d now b).state k ≡ end_at b.state k
tick_calm NotConnected d k now b same calm = refl
tick_calm NormalLink d k now b same calm = refl
tick_calm (Trouble broke try_at) d k now b same calm =
    (one_ticks_from (Trouble broke try_at) d now b).others k (λ at. absurd (calm broke try_at (ap (λ (n : ℕ). (end_at b.state n).link) at ∙ same)))
tick_calm Recovery d k now b same calm = refl

-- Where an end isn't in trouble a tick loses no session of it.
pub ticks_keep : (ds : List ℕ) (app k now : ℕ) (b : Sofar) → IsUntroubled (end_at b.state k) → Keeps app k b.outs.acts → Keeps app k (ticks ds now b).outs.acts
ticks_keep [] app k now b calm keeps = keeps
ticks_keep (d ∷ ds) app k now b calm keeps =
    ticks_keep ds app k now (ticks_from (end_at b.state d).link d now b)
    (subst IsUntroubled (sym (tick_calm (end_at b.state d).link d k now b refl calm)) calm)
    (tick_keeps (end_at b.state d).link app d k now b refl calm keeps)
