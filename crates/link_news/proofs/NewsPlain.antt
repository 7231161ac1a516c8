-- The plain server as a session is met, or told of a new epoch: that session is known, and no other is changed.
use Rattle.std.proofs.Common.{◌≡◌, ◌≢◌, inl, inr, ℕ, true, List, [], ◌∷◌, ◌++◌, Option, Some, None, option_map, is_some, refl, sym, ◌∙◌, ap, subst}
use Rattle.std.specs.Prelude.{IfSome}
use Rattle.plain_orders.specs.declared.act.Act.{Act}
use Rattle.plain_orders.specs.declared.act.Act.TheVariants as act
use Rattle.plain_orders.specs.declared.layout.Layout.{Layout}
use Rattle.plain_runs.specs.Plain.{Plain, Server, Session as PlainSession, put}
use Rattle.plain_runs.specs.EndRows.{met_by, told_of, new_session as new_plain, begun_by}
use Rattle.plain_runs.specs.Run.{after_all}
use Rattle.ecp_messages.specs.declared.down.Down.{Down}
use Rattle.ecp_messages.specs.declared.down.Down.TheVariants.{Welcome, Reset, Block, Drop, Ack, Grant, Answer, Normal, Bare}
use Rattle.app_rules.specs.AppState.{AppEnd, Session}
use Rattle.app_rules.specs.Welcoming.{in_epoch, new_session, told_puts}
use Rattle.app_rules.specs.Works.{Sofar, end_at, synced_up}
use Rattle.cluster_invariant.proofs.Small.{of_some, put_other, put_same}
use Rattle.cluster_steps.proofs.EndSteps.{session_put}
use Rattle.cluster_steps.proofs.InputsBring.{WelcomeTold}

-- The session is known after the acts, and the others are as they were.
pub record ToldActs (l : Layout) (p : Plain) (d session : ℕ) (acts : List Act) : Type 0 where
  pub met : is_some (((after_all l p acts).server_at d).session_at session) ≡ true
  pub others : (q : ℕ) → q ≢ session → ((after_all l p acts).server_at d).session_at q ≡ (p.server_at d).session_at q

-- one that is met
met_acts : (l : Layout) (p : Plain) (app d session : ℕ) → ToldActs l p d session (act.Met app d session ∷ [])
met_acts l p app d session = record {
  met =
      ap (λ (v : Server). is_some (v.session_at session)) here
      ∙ ap is_some (put_same (p.server_at d).session_at session (Some (new_plain (p.server_at d) app session)));
  others = λ q other.
      ap (λ (v : Server). v.session_at q) here
      ∙ put_other (p.server_at d).session_at session (Some (new_plain (p.server_at d) app session)) q other;
}
  where
    here : put p.server_at d (met_by l (p.server_at d) app session) d ≡ met_by l (p.server_at d) app session
    here = put_same p.server_at d (met_by l (p.server_at d) app session)

-- one that is told of a new epoch
told_acts : (l : Layout) (p : Plain) (app d session epoch kept : ℕ) → is_some ((p.server_at d).session_at session) ≡ true
    → ToldActs l p d session (act.Told app d session epoch kept ∷ [])
told_acts l p app d session epoch kept known = record {
  met =
      ap (λ (v : Server). is_some (v.session_at session)) here
      ∙ ap is_some (put_same (p.server_at d).session_at session (option_map later ((p.server_at d).session_at session)))
      ∙ mapped ((p.server_at d).session_at session) known;
  others = λ q other.
      ap (λ (v : Server). v.session_at q) here
      ∙ put_other (p.server_at d).session_at session (option_map later ((p.server_at d).session_at session)) q other;
}
  where
    later : PlainSession → PlainSession
    later m = record m { told = begun_by (p.server_at d) epoch }

    here : put p.server_at d (told_of l (p.server_at d) app session epoch kept) d ≡ told_of l (p.server_at d) app session epoch kept
    here = put_same p.server_at d (told_of l (p.server_at d) app session epoch kept)

    mapped : (o : Option PlainSession) → is_some o ≡ true → is_some (option_map later o) ≡ true
    mapped None is = is
    mapped (Some z) is = refl

-- the session that an end has is this one
same_number : (s u : Session) → ◌≡◌ {A = Option Session} (Some s) (Some u) → s.number ≡ u.number
same_number s u is = let same : s ≡ u = cc in ap (λ (z : Session). z.number) same

-- So it is after a Welcome that tells something new.
pub welcome_acts : (l : Layout) (p : Plain) (m : Down) (app d now : ℕ) (e : AppEnd) (b c : Sofar) → b.outs.acts ≡ []
    → IfSome e.session (λ s. is_some ((p.server_at d).session_at s.number) ≡ true) → WelcomeTold m d now e b c
    → (u : Session) → (end_at c.state d).session ≡ Some u → ToldActs l p d u.number c.outs.acts
welcome_acts l p (Welcome session epoch kept front taken) app d now e b c none known (inl x) u is =
    subst (ToldActs l p d u.number) (sym (x.here.acts ∙ ap (λ (ws : List Act). ws ++ act.Met b.state.app d session ∷ []) none))
    (subst (λ (n : ℕ). ToldActs l p d n (act.Met b.state.app d session ∷ []))
    (same_number (session_put x.since [] (new_session session epoch front)) u (sym (ap (λ (z : AppEnd). z.session) x.here.end) ∙ is))
    (met_acts l p b.state.app d session))
welcome_acts l p (Welcome session epoch kept front taken) app d now e b c none known (inr x) u is =
    subst (ToldActs l p d u.number) (sym (x.here.acts ∙ ap (λ (ws : List Act). ws ++ act.Told b.state.app d session epoch kept ∷ []) none))
    (subst (λ (n : ℕ). ToldActs l p d n (act.Told b.state.app d session epoch kept ∷ []))
    (sym x.same_number
    ∙ same_number (session_put x.since (told_puts front.w (synced_up front.s x.session)) (in_epoch epoch front x.session)) u
    (sym (ap (λ (z : AppEnd). z.session) x.here.end) ∙ is))
    (told_acts l p b.state.app d session epoch kept
    (subst (λ (n : ℕ). is_some ((p.server_at d).session_at n) ≡ true) x.same_number
    (of_some (λ (s : Session). is_some ((p.server_at d).session_at s.number) ≡ true) e.session x.session x.its known))))
welcome_acts l p (Reset session at) app d now e b c none known told u is = absurd told
welcome_acts l p (Block front block) app d now e b c none known told u is = absurd told
welcome_acts l p (Drop front lo hi) app d now e b c none known told u is = absurd told
welcome_acts l p (Ack front) app d now e b c none known told u is = absurd told
welcome_acts l p (Grant front ticket at) app d now e b c none known told u is = absurd told
welcome_acts l p (Answer front about job number at sum) app d now e b c none known told u is = absurd told
welcome_acts l p (Normal front) app d now e b c none known told u is = absurd told
welcome_acts l p Bare app d now e b c none known told u is = absurd told
