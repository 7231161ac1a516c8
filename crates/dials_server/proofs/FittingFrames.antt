-- What a data server puts in a step, by what the connections are for after it: a Welcome on that of its session, a Reset on one that awaits
-- it, and all else on those whose Welcome was put.
use Rattle.std.proofs.Common.{◌≡◌, ◌⊎◌, ℕ, Bool, true, false, cond, ◌||◌, List, [], ◌∷◌, ◌++◌, map, filter, Option, Some, None, is_some, refl, sym, ◌∙◌, ap, subst, inl, inr}
use Rattle.std.specs.Prelude.{IsSomeAnd}
use Rattle.std.specs.List.{AllByRecursion, list_any}
use Rattle.std.proofs.lemmas.Bool.{false≢true}
use Rattle.ecp_messages.specs.declared.down.Down.{Down}
use Rattle.ecp_messages.specs.declared.down.Down.TheVariants.{Welcome, Reset, Block, Drop, Ack, Grant, Answer, Normal, Bare}
use Rattle.ecp_messages.specs.declared.down.DownFrame.{DownFrame}
use Rattle.data_rules.specs.declared.down_frames.DownOut.{DownOut}
use Rattle.data_rules.specs.declared.rows.Role.TheVariants.{Bound, Closing}
use Rattle.data_rules.specs.DataState.{DataState}
use Rattle.data_rules.specs.Conns.{role_of}
use Rattle.cluster_runs.specs.CoresState.{Linked}
use Rattle.cluster_runs.specs.Sent.{Connection, Place}
use Rattle.cluster_runs.specs.Machine.{Site}
use Rattle.cluster_runs.specs.Connections.{down_of, is_out_on, link_of, welcomed, with_downs}
use Rattle.cluster_invariant.specs.Words.{is_reset_down, is_reset_frame}
use Rattle.dials_server.proofs.LinkWords.{is_link_true}
use Rattle.dials_server.proofs.PlainFrames.{TellsOn}

abbrev pub FitsOn : Down → Site → DataState → ℕ → Type 0
FitsOn (Welcome session epoch kept front taken) x n conn = role_of n conn ≡ Some (Bound session)
FitsOn (Reset session at) x n conn = role_of n conn ≡ Some (Closing session)
FitsOn (Block front block) x n conn = TellsOn x conn
FitsOn (Drop front lo hi) x n conn = TellsOn x conn
FitsOn (Ack front) x n conn = TellsOn x conn
FitsOn (Grant front ticket at) x n conn = TellsOn x conn
FitsOn (Answer front about job number at sum) x n conn = TellsOn x conn
FitsOn (Normal front) x n conn = TellsOn x conn
FitsOn Bare x n conn = TellsOn x conn

abbrev pub FrameFits : Site → DataState → DownOut → Type 0
FrameFits x n f = FitsOn f.down.message x n f.conn

-- what is put on one connection
abbrev pub frames_on : Site → ℕ → ℕ → List DownOut → List DownFrame
frames_on x a k fs = map down_of (filter (is_out_on x a k) fs)

-- A Welcome of its session was put on it.
pub record WelcomedOn (x : Site) (n : DataState) (a k : ℕ) (its : Option Place) : Type 0 where
  pub conn : ℕ
  pub session : ℕ
  pub link : link_of x conn ≡ Some (record { app = a; dial = k })
  pub role : role_of n conn ≡ Some (Bound session)
  pub says : its ≡ Some (record { session = session; order = x.past })

-- A Reset was.
pub record ResetOn (x : Site) (n : DataState) (a k : ℕ) : Type 0 where
  pub conn : ℕ
  pub session : ℕ
  pub link : link_of x conn ≡ Some (record { app = a; dial = k })
  pub role : role_of n conn ≡ Some (Closing session)

module _ (x : Site) (n : DataState) (a k : ℕ) where
  abbrev ItsOn : Option Place → Option Place → Type 0
  ItsOn o q = (q ≡ o) ⊎ WelcomedOn x n a k q

  one_its : (m : Down) (conn : ℕ) (its : Option Place) → FitsOn m x n conn → link_of x conn ≡ Some (record { app = a; dial = k }) → ItsOn its (welcomed x.past its m)
  one_its (Welcome session epoch kept front taken) conn its fits link = inr (record { conn = conn; session = session; link = link; role = fits; says = refl })
  one_its (Reset session at) conn its fits link = inl refl
  one_its (Block front block) conn its fits link = inl refl
  one_its (Drop front lo hi) conn its fits link = inl refl
  one_its (Ack front) conn its fits link = inl refl
  one_its (Grant front ticket at) conn its fits link = inl refl
  one_its (Answer front about job number at sum) conn its fits link = inl refl
  one_its (Normal front) conn its fits link = inl refl
  one_its Bare conn its fits link = inl refl

  its_then : (o p q : Option Place) → ItsOn o p → ItsOn p q → ItsOn o q
  its_then o p q (inl same) (inl more) = inl (more ∙ same)
  its_then o p q (inr put) (inl more) = inr (record { conn = put.conn; session = put.session; link = put.link; role = put.role; says = more ∙ put.says })
  its_then o p q first (inr put) = inr put

  -- whose messages follow
  pub its_on : (fs : List DownOut) (c : Connection) → AllByRecursion (FrameFits x n) fs → ItsOn c.its (with_downs x.past (frames_on x a k fs) c).its
  its_on [] c fits = inl refl
  its_on (f ∷ fs) c fits =
      go (is_out_on x a k f) refl (its_on fs c fits.1) (its_on fs (record c { downs = c.downs ++ f.down ∷ []; its = welcomed x.past c.its f.down.message }) fits.1)
    where
      go : (b : Bool) → is_out_on x a k f ≡ b → ItsOn c.its (with_downs x.past (frames_on x a k fs) c).its
          → ItsOn (welcomed x.past c.its f.down.message)
          (with_downs x.past (frames_on x a k fs) (record c { downs = c.downs ++ f.down ∷ []; its = welcomed x.past c.its f.down.message })).its
          → ItsOn c.its (with_downs x.past (map down_of (cond b (f ∷ filter (is_out_on x a k) fs) (filter (is_out_on x a k) fs))) c).its
      go true on off more =
          its_then c.its (welcomed x.past c.its f.down.message) _ (one_its f.down.message f.conn c.its fits.0 (is_link_true a k (link_of x f.conn) on)) more
      go false out off more = off

  some_on : (o q : Option Place) → ItsOn o q → is_some o ≡ true → is_some q ≡ true
  some_on o q (inl same) there = ap is_some same ∙ there
  some_on o q (inr put) there = ap is_some put.says

  -- one that carries nothing hears nothing, or a Reset
  pub quiet_on : (fs : List DownOut) (c : Connection) → (x.end_at a).connection_at k ≡ Some c → AllByRecursion (FrameFits x n) fs
      → (with_downs x.past (frames_on x a k fs) c).its ≡ None → (frames_on x a k fs ≡ []) ⊎ ResetOn x n a k
  quiet_on [] c it fits none = inl refl
  quiet_on (f ∷ fs) c it fits none = go (is_out_on x a k f) refl (quiet_on fs c it fits.1) none
    where
      after : Connection
      after = record c { downs = c.downs ++ f.down ∷ []; its = welcomed x.past c.its f.down.message }

      -- something carried stays
      carried : is_some (welcomed x.past c.its f.down.message) ≡ true → (with_downs x.past (frames_on x a k fs) after).its ≡ None → ⊥
      carried there gone =
          false≢true (sym (ap is_some gone) ∙ some_on after.its (with_downs x.past (frames_on x a k fs) after).its (its_on fs after fits.1) there)

      told : link_of x f.conn ≡ Some (record { app = a; dial = k }) → TellsOn x f.conn → is_some c.its ≡ true
      told link tells =
          subst (λ (o : Option Connection). IsSomeAnd o (λ z. is_some z.its ≡ true)) it
          (subst (λ (o : Option Linked). IsSomeAnd o (λ l. IsSomeAnd ((x.end_at l.app).connection_at l.dial) (λ z. is_some z.its ≡ true))) link tells)

      by : (m : Down) → f.down.message ≡ m → FitsOn m x n f.conn → link_of x f.conn ≡ Some (record { app = a; dial = k })
          → (with_downs x.past (frames_on x a k fs) after).its ≡ None → ResetOn x n a k
      by (Welcome session epoch kept front taken) says on link gone =
          absurd (carried (ap (λ (m : Down). is_some (welcomed x.past c.its m)) says) gone)
      by (Reset session at) says on link gone = record { conn = f.conn; session = session; link = link; role = on }
      by (Block front block) says on link gone = absurd (carried (ap (λ (m : Down). is_some (welcomed x.past c.its m)) says ∙ told link on) gone)
      by (Drop front lo hi) says on link gone = absurd (carried (ap (λ (m : Down). is_some (welcomed x.past c.its m)) says ∙ told link on) gone)
      by (Ack front) says on link gone = absurd (carried (ap (λ (m : Down). is_some (welcomed x.past c.its m)) says ∙ told link on) gone)
      by (Grant front ticket at) says on link gone = absurd (carried (ap (λ (m : Down). is_some (welcomed x.past c.its m)) says ∙ told link on) gone)
      by (Answer front about job number at sum) says on link gone =
          absurd (carried (ap (λ (m : Down). is_some (welcomed x.past c.its m)) says ∙ told link on) gone)
      by (Normal front) says on link gone = absurd (carried (ap (λ (m : Down). is_some (welcomed x.past c.its m)) says ∙ told link on) gone)
      by Bare says on link gone = absurd (carried (ap (λ (m : Down). is_some (welcomed x.past c.its m)) says ∙ told link on) gone)

      go : (b : Bool) → is_out_on x a k f ≡ b → ((with_downs x.past (frames_on x a k fs) c).its ≡ None → (frames_on x a k fs ≡ []) ⊎ ResetOn x n a k)
          → (with_downs x.past (map down_of (cond b (f ∷ filter (is_out_on x a k) fs) (filter (is_out_on x a k) fs))) c).its ≡ None
          → (map down_of (cond b (f ∷ filter (is_out_on x a k) fs) (filter (is_out_on x a k) fs)) ≡ []) ⊎ ResetOn x n a k
      go true on more gone = inr (by f.down.message refl fits.0 (is_link_true a k (link_of x f.conn) on) gone)
      go false out more gone = more gone

  one_reset : (m : Down) (conn : ℕ) → FitsOn m x n conn → link_of x conn ≡ Some (record { app = a; dial = k }) → (is_reset_down m ≡ false) ⊎ ResetOn x n a k
  one_reset (Welcome session epoch kept front taken) conn fits link = inl refl
  one_reset (Reset session at) conn fits link = inr (record { conn = conn; session = session; link = link; role = fits })
  one_reset (Block front block) conn fits link = inl refl
  one_reset (Drop front lo hi) conn fits link = inl refl
  one_reset (Ack front) conn fits link = inl refl
  one_reset (Grant front ticket at) conn fits link = inl refl
  one_reset (Answer front about job number at sum) conn fits link = inl refl
  one_reset (Normal front) conn fits link = inl refl
  one_reset Bare conn fits link = inl refl

  -- whether a Reset is among it
  pub resets_on : (fs : List DownOut) → AllByRecursion (FrameFits x n) fs → (list_any is_reset_frame (frames_on x a k fs) ≡ false) ⊎ ResetOn x n a k
  resets_on [] fits = inl refl
  resets_on (f ∷ fs) fits = go (is_out_on x a k f) refl (resets_on fs fits.1)
    where
      both : (is_reset_down f.down.message ≡ false) ⊎ ResetOn x n a k → (list_any is_reset_frame (frames_on x a k fs) ≡ false) ⊎ ResetOn x n a k
          → ((is_reset_down f.down.message || list_any is_reset_frame (frames_on x a k fs)) ≡ false) ⊎ ResetOn x n a k
      both (inl first) (inl more) = inl (ap (λ (b : Bool). b || list_any is_reset_frame (frames_on x a k fs)) first ∙ more)
      both (inr put) more = inr put
      both (inl first) (inr put) = inr put

      go : (b : Bool) → is_out_on x a k f ≡ b → (list_any is_reset_frame (frames_on x a k fs) ≡ false) ⊎ ResetOn x n a k
          → (list_any is_reset_frame (map down_of (cond b (f ∷ filter (is_out_on x a k) fs) (filter (is_out_on x a k) fs))) ≡ false) ⊎ ResetOn x n a k
      go true on more = both (one_reset f.down.message f.conn fits.0 (is_link_true a k (link_of x f.conn) on)) more
      go false out more = more

  -- what is put is put on a linked one
  pub linked_on : (fs : List DownOut) → (frames_on x a k fs ≡ []) ⊎ ((conn : ℕ) × (link_of x conn ≡ Some (record { app = a; dial = k })))
  linked_on [] = inl refl
  linked_on (f ∷ fs) = go (is_out_on x a k f) refl (linked_on fs)
    where
      go : (b : Bool) → is_out_on x a k f ≡ b → (frames_on x a k fs ≡ []) ⊎ ((conn : ℕ) × (link_of x conn ≡ Some (record { app = a; dial = k })))
          → (map down_of (cond b (f ∷ filter (is_out_on x a k) fs) (filter (is_out_on x a k) fs)) ≡ []) ⊎ ((conn : ℕ) × (link_of x conn ≡ Some (record { app = a; dial = k })))
      go true on more = inr (f.conn, is_link_true a k (link_of x f.conn) on)
      go false out more = more
