-- Fronts of one data server's sessions after a step of an application server: its own end's, and the others'.
use Rattle.std.proofs.Common.{◌≡◌, ◌≢◌, ◌≤◌, inl, inr, ◌&&◌, ◌==◌, ℕ, Bool, true, false, if◌then◌else◌, List, [], ◌∷◌, take, Option, Some, None, refl, sym, ◌∙◌, ap, subst, arith}
use Rattle.std.specs.Prelude.{IfSome}
use Rattle.std.specs.List.{AllByRecursion}
use Rattle.std.proofs.lemmas.Bool.{and_parts, eqb-true}
use Rattle.plain_orders.specs.Entries.{count}
use Rattle.plain_runs.specs.Plain.{Server, current, order_at, put}
use Rattle.subscript_keys.specs.declared.run.Run.{Run}
use Rattle.ecp_messages.specs.declared.down.Down.{Down}
use Rattle.ecp_messages.specs.declared.up.Up.{Up}
use Rattle.ecp_messages.specs.declared.up.UpFrame.{UpFrame}
use Rattle.app_rules.specs.AppState.{Session}
use Rattle.app_rules.specs.Looks.{Shown, shown_front}
use Rattle.cluster_runs.specs.Goes.{at_told}
use Rattle.cluster_runs.specs.Lanes.{with_app_step}
use Rattle.cluster_runs.specs.Machine.{Site, End}
use Rattle.cluster_runs.specs.Sent.{Lane, Place, downs_taken}
use Rattle.cluster_invariant.specs.Ends.{EndsAre, ToldPlace}
use Rattle.cluster_invariant.specs.Fronts.{Stands, FrontIs, FrontOf, FrontsHold, ShownIs, ShownOf}
use Rattle.cluster_invariant.specs.Link.{WindowIs}
use Rattle.cluster_invariant.specs.Words.{IsFront}
use Rattle.cluster_invariant.proofs.Small.{at_places}
use Rattle.cluster_steps.proofs.InputsBring.{IsStill, SessionStays}
use Rattle.cluster_steps.proofs.JobEnds.{SessionsGrow}
use Rattle.cluster_steps.proofs.JobPieces.{IsAmong}
use Rattle.link_kept.proofs.ShortMoves.{told_there}
use Rattle.fronts_kept.proofs.FrontsLater.{SameTaken, front_later, same_taken, shown_later}

-- one session

among_stands : (ms : List Down) (r : Run) (xs : List Run) → AllByRecursion (λ (run : Run). Stands run ms) xs → IsAmong r xs → Stands r ms
among_stands ms r [] all is = absurd is
among_stands ms r (x ∷ xs) all (inl same) = subst (λ (run : Run). Stands run ms) (sym same) all.0
among_stands ms r (x ∷ xs) all (inr more) = among_stands ms r xs all.1 more

all_stand : (ms : List Down) (xs ys : List Run) → AllByRecursion (λ (run : Run). Stands run ms) xs → AllByRecursion (λ (run : Run). IsAmong run xs) ys
    → AllByRecursion (λ (run : Run). Stands run ms) ys
all_stand ms xs [] all among = tt
all_stand ms xs (y ∷ ys) all among = (among_stands ms y xs all among.0, all_stand ms xs ys all among.1)

-- A session that took nothing: its front is as it was, and its runs are among those that it had.
pub record KeepsFront (s t : Session) : Type 0 where
  pub number : t.number ≡ s.number
  pub epoch : t.epoch ≡ s.epoch
  pub n : t.n ≡ s.n
  pub w : t.w ≡ s.w
  pub cache : AllByRecursion (λ (run : Run). IsAmong run s.cache) t.cache
  pub taken : t.window.taken ≡ s.window.taken

-- or there is none
abbrev pub SessionsKeep : Option Session → Option Session → Type 0
SessionsKeep None None = Unit {0}
SessionsKeep None (Some t) = ⊥
SessionsKeep (Some s) None = ⊥
SessionsKeep (Some s) (Some t) = KeepsFront s t

among_more : (x : Run) (xs ys : List Run) → AllByRecursion (λ (run : Run). IsAmong run xs) ys → AllByRecursion (λ (run : Run). IsAmong run (x ∷ xs)) ys
among_more x xs [] all = tt
among_more x xs (y ∷ ys) all = (inr all.0, among_more x xs ys all.1)

among_same : (xs : List Run) → AllByRecursion (λ (run : Run). IsAmong run xs) xs
among_same [] = tt
among_same (x ∷ xs) = (inl refl, among_more x xs xs (among_same xs))

-- one that a job's step left, or an input
pub grows_keep : (puts : List Up) (o q : Option Session) → SessionsGrow puts o q → SessionsKeep o q
grows_keep puts None None grows = tt
grows_keep puts None (Some t) grows = absurd grows
grows_keep puts (Some s) None grows = absurd grows
grows_keep puts (Some s) (Some t) grows =
    record { number = grows.number; epoch = grows.epoch; n = grows.n; w = grows.w; cache = grows.cache; taken = grows.taken }

pub still_keeps : (s t : Session) → IsStill s t → KeepsFront s t
still_keeps s t still = record {
  number = still.number;
  epoch = still.epoch;
  n = still.n;
  w = still.w;
  cache = subst (λ (ys : List Run). AllByRecursion (λ (run : Run). IsAmong run s.cache) ys) (sym still.cache) (among_same s.cache);
  taken = still.taken;
}

pub stays_keep : (o q : Option Session) → SessionStays o q → SessionsKeep o q
stays_keep None None stays = tt
stays_keep None (Some t) stays = absurd stays
stays_keep (Some s) None stays = absurd stays
stays_keep (Some s) (Some t) stays = still_keeps s t stays

-- the front of an end's session, by what the end is told of
abbrev pub FrontWith : Server → Site → Option Place → Option Session → Type 0
FrontWith u z told o = IfSome o (λ s. IfSome told (λ p. FrontIs (order_at u p.order) (z.lane_at s.number p.order) s.number s.n s.w s.cache))

pub front_keeps : (u : Server) (z : Site) (told : Option Place) (o q : Option Session) → SessionsKeep o q → FrontWith u z told o → FrontWith u z told q
front_keeps u z told o None keeps is = tt
front_keeps u z told None (Some t) keeps is = absurd keeps
front_keeps u z None (Some s) (Some t) keeps is = tt
front_keeps u z (Some p) (Some s) (Some t) keeps is =
    subst (λ (i : ℕ). FrontIs (order_at u p.order) (z.lane_at i p.order) i t.n t.w t.cache) (sym keeps.number) (record {
      at = keeps.n ∙ is.at;
      with_count = keeps.w ∙ is.with_count;
      within = omega (arith, keeps.n, is.within);
      counted = keeps.w ∙ is.counted ∙ ap (λ (n : ℕ). count (take n (order_at u p.order)) s.number) (sym keeps.n);
      runs = all_stand (downs_taken (z.lane_at s.number p.order)) s.cache t.cache is.runs keeps.cache;
    })

-- what is published of it
abbrev pub ShownWith : Site → Option Place → Shown → Option Session → Type 0
ShownWith z told shown None = shown.runs ≡ []
ShownWith z told shown (Some s) = IfSome told (λ p. ShownIs (z.lane_at s.number p.order) s shown)

pub shown_keeps : (z : Site) (told : Option Place) (shown : Shown) (o q : Option Session) → SessionsKeep o q → ShownWith z told shown o → ShownWith z told shown q
shown_keeps z told shown None None keeps is = is
shown_keeps z told shown None (Some t) keeps is = absurd keeps
shown_keeps z told shown (Some s) None keeps is = absurd keeps
shown_keeps z None shown (Some s) (Some t) keeps is = tt
shown_keeps z (Some p) shown (Some s) (Some t) keeps is = record {
  runs = subst (λ (i : ℕ). AllByRecursion (λ (run : Run). Stands run (downs_taken (z.lane_at i p.order))) shown.runs) (sym keeps.number) is.runs;
  front =
      λ some.
      is.front some
      ∙ ap (λ (i : ℕ). Some (record (shown_front s) { session = i })) (sym keeps.number)
      ∙ ap (λ (i : ℕ). Some (record (shown_front s) { session = t.number; epoch = i })) (sym keeps.epoch)
      ∙ ap (λ (i : ℕ). Some (record (shown_front t) { n = i; w = s.w })) (sym keeps.n) ∙ ap (λ (i : ℕ). Some (record (shown_front t) { w = i })) (sym keeps.w);
}

as_shown : (z : Site) (e : End) (o : Option Session) → ShownWith z e.told e.shown o → ShownOf z e o
as_shown z e None is = is
as_shown z e (Some s) is = is

pub shown_as : (z : Site) (e : End) (o : Option Session) → ShownOf z e o → ShownWith z e.told e.shown o
shown_as z e None is = is
shown_as z e (Some s) is = is

-- the lanes

-- of the lane of an end's session as much was taken as before
abbrev pub TakenAt : Site → Site → Option Place → Option Session → Type 0
TakenAt x z told o = IfSome o (λ s. IfSome told (λ p. SameTaken (x.lane_at s.number p.order) (z.lane_at s.number p.order)))

pub front_at : (v u : Server) (x z : Site) (told : Option Place) (o : Option Session) → ((k : ℕ) → k ≤ current v → IsFront (order_at v k) (order_at u k))
    → IfSome o (λ s. IfSome told (λ p. p.order ≤ current v)) → TakenAt x z told o → FrontWith v x told o → FrontWith u z told o
front_at v u x z told None on low taken is = tt
front_at v u x z None (Some s) on low taken is = tt
front_at v u x z (Some p) (Some s) on low taken is =
    front_later (order_at v p.order) (order_at u p.order) (x.lane_at s.number p.order) (z.lane_at s.number p.order) s.number s.n s.w s.cache (on p.order low) taken is

pub shown_at : (x z : Site) (told : Option Place) (shown : Shown) (o : Option Session) → TakenAt x z told o → ShownWith x told shown o → ShownWith z told shown o
shown_at x z told shown None taken is = is
shown_at x z None shown (Some s) taken is = tt
shown_at x z (Some p) shown (Some s) taken is = shown_later (x.lane_at s.number p.order) (z.lane_at s.number p.order) s shown taken is

-- A site at which one end moved, and where of the others' lanes as much was taken as before.
pub fronts_at_end : (v u : Server) (x z : Site) (dead : ℕ → Bool) (app : ℕ) (moved : End) → ((k : ℕ) → k ≤ current v → IsFront (order_at v k) (order_at u k))
    → z.end_at ≡ put x.end_at app moved → EndsAre v x dead → FrontsHold v x dead
    → ((i : ℕ) → i ≢ app → dead i ≡ false → TakenAt x z (x.end_at i).told (x.end_at i).state.session)
    → FrontWith u z moved.told moved.state.session → ShownWith z moved.told moved.shown moved.state.session → FrontsHold u z dead
fronts_at_end v u x z dead app moved on ends are fronts taken own shown = record {
  apps =
      subst (λ (g : ℕ → End). (i : ℕ) → dead i ≡ false → IfSome (g i).state.session (FrontOf u z (g i))) (sym ends)
      (at_places (λ (i : ℕ) (e : End). dead i ≡ false → IfSome e.state.session (FrontOf u z e)) x.end_at app moved (λ lives. own)
      (λ i other lives.
      front_at v u x z (x.end_at i).told (x.end_at i).state.session on (told_there v i (x.end_at i) (are.told i lives)) (taken i other lives) (fronts.apps i lives)));
  shown =
      subst (λ (g : ℕ → End). (i : ℕ) → dead i ≡ false → ShownOf z (g i) (g i).state.session) (sym ends)
      (at_places (λ (i : ℕ) (e : End). dead i ≡ false → ShownOf z e e.state.session) x.end_at app moved
      (λ lives. as_shown z moved moved.state.session shown)
      (λ i other lives.
      as_shown z (x.end_at i) (x.end_at i).state.session
      (shown_at x z (x.end_at i).told (x.end_at i).shown (x.end_at i).state.session (taken i other lives)
      (shown_as x (x.end_at i) (x.end_at i).state.session (fronts.shown i lives)))));
}

-- the session has taken what its lane says
abbrev pub TakenIs : Site → Option Place → Option Session → Type 0
TakenIs x told q = IfSome q (λ t. IfSome told (λ p. t.window.taken ≡ (x.lane_at p.session p.order).down_taken))

step_taken : (m : Option Down) (n sent : ℕ) (t : Session) (frames : List UpFrame) (a : Lane) → t.window.taken ≡ a.down_taken
    → SameTaken a (with_app_step false m n sent (Some t) frames a)
step_taken m n sent t frames a same = record { front = refl; taken = ap (λ (k : ℕ). take k a.down) same }

-- where nothing is taken all lanes are so
pub told_taken : (x z : Site) (m : Option Down) (n sent : ℕ) (frames : List UpFrame) (told : Option Place) (q : Option Session) → z.lane_at ≡ x.lane_at → TakenIs x told q → (s k : ℕ)
    → SameTaken (x.lane_at s k) ((at_told told (with_app_step false m n sent q frames) z).lane_at s k)
told_taken x z m n sent frames told q same taken s k =
    subst (λ (f : ℕ → ℕ → Lane). SameTaken (x.lane_at s k) ((at_told told (with_app_step false m n sent q frames) (record z { lane_at = f })).lane_at s k)) (sym same)
    (go told q taken)
  where
    go : (told : Option Place) (q : Option Session) → TakenIs x told q
        → SameTaken (x.lane_at s k) ((at_told told (with_app_step false m n sent q frames) (record z { lane_at = x.lane_at })).lane_at s k)
    go None q taken = same_taken (x.lane_at s k)
    go (Some p) None taken = by (s == p.session && k == p.order)
      where
        by : (b : Bool) → SameTaken (x.lane_at s k) (if b then x.lane_at s k else x.lane_at s k)
        by true = same_taken (x.lane_at s k)
        by false = same_taken (x.lane_at s k)
    go (Some p) (Some t) taken = by (s == p.session && k == p.order) refl
      where
        by : (b : Bool) → (s == p.session && k == p.order) ≡ b
            → SameTaken (x.lane_at s k) (if b then with_app_step false m n sent (Some t) frames (x.lane_at s k) else x.lane_at s k)
        by true at =
            let parts = and_parts (s == p.session) (k == p.order) at in
            step_taken m n sent t frames (x.lane_at s k)
            (taken ∙ ap (λ (i : ℕ). (x.lane_at i p.order).down_taken) (sym (eqb-true s p.session parts.0)) ∙ ap (λ (i : ℕ). (x.lane_at s i).down_taken) (sym (eqb-true k p.order parts.1)))
        by false at = same_taken (x.lane_at s k)

-- so they are at each end
pub taken_at : (x z : Site) (told : Option Place) (o : Option Session) → ((s k : ℕ) → SameTaken (x.lane_at s k) (z.lane_at s k)) → TakenAt x z told o
taken_at x z told None all = tt
taken_at x z None (Some s) all = tt
taken_at x z (Some p) (Some s) all = all s.number p.order

-- a session that took nothing, as the invariant has it
pub kept_taken : (x : Site) (v : Server) (app : ℕ) (told : Option Place) (o q : Option Session) → SessionsKeep o q → IfSome o (λ s. ToldPlace v app s told)
    → IfSome o (λ s. IfSome told (λ p. WindowIs s.window (x.lane_at s.number p.order).up (x.lane_at s.number p.order).up_taken (x.lane_at s.number p.order).down_taken))
    → TakenIs x told q
kept_taken x v app told o None keeps place window = tt
kept_taken x v app told None (Some t) keeps place window = absurd keeps
kept_taken x v app None (Some s) (Some t) keeps place window = tt
kept_taken x v app (Some p) (Some s) (Some t) keeps place window =
    keeps.taken ∙ window.taken ∙ ap (λ (i : ℕ). (x.lane_at i p.order).down_taken) (session_of p place.order place.its)
  where
    session_of : (y : Place) (k : ℕ) → Some y ≡ Some (record { session = s.number; order = k }) → s.number ≡ y.session
    session_of y k same = cc (same)
