-- The tables of application ends stay those of the plain pairs over each step of an application server and each command of a job.
use Rattle.std.proofs.Common.{◌≡◌, ℕ, Bool, true, false, List, [], ◌∷◌, ◌++◌, length, refl, sym, ◌∙◌, subst, inl, inr, eqb, nat_le, IfSome}
use Rattle.std.specs.Prelude.{is_some}
use Rattle.std.specs.List.{AllByRecursion, range_with_len}
use Rattle.std.proofs.lemmas.Bool.{eqb-true, eq-eqb, false≢true}
use Rattle.plain_orders.specs.declared.act.Act.{Act}
use Rattle.plain_orders.specs.declared.act.Act.TheVariants as act
use Rattle.plain_orders.specs.declared.causes.Loss.TheVariants as losses
use Rattle.plain_orders.specs.declared.layout.Layout.{Layout}
use Rattle.plain_orders.specs.Times.{until}
use Rattle.plain_orders.specs.declared.refused.LinkName.TheVariants as names
use Rattle.app_job.specs.declared.reason.Reason.TheVariants as reasons
use Rattle.plain_runs.specs.Plain.{Plain, Pair}
use Rattle.plain_runs.specs.Run.{after_all}
use Rattle.plain_runs.specs.Step.{after}
use Rattle.plain_runs.proofs.RunLemmas.{after_all-append}
use Rattle.link_states.specs.declared.app_link.AppLink.{AppLink}
use Rattle.link_states.specs.declared.app_link.AppLink.TheVariants.{NotConnected, Normal as NormalLink, Trouble, Recovery}
use Rattle.ecp_messages.specs.declared.down.Down.{Down}
use Rattle.ecp_messages.specs.declared.down.Down.TheVariants.{Welcome, Reset, Block, Drop, Ack, Grant, Answer, Normal, Bare}
use Rattle.ecp_messages.specs.declared.down.DownFrame.{DownFrame}
use Rattle.ecp_messages.specs.declared.front.Front.{Front}
use Rattle.ecp_messages.specs.declared.up.UpFrame.{UpFrame}
use Rattle.app_rules.specs.declared.app_in.AppIn.{AppIn}
use Rattle.app_rules.specs.declared.app_in.AppIn.TheVariants as app_in
use Rattle.app_rules.specs.declared.line.Line.{Line}
use Rattle.app_rules.specs.declared.line.Line.TheVariants.{Apart, Trying, Greeting, Asking, Joined}
use Rattle.app_rules.specs.AppState.{AppEnd}
use Rattle.app_rules.specs.AppStep.{AppMay, Makes}
use Rattle.app_rules.specs.Laws.{KeepsOthers, named_by}
use Rattle.app_rules.specs.Losing.{ticks, ticks_from}
use Rattle.app_rules.specs.Works.{Sofar, end_at, is_normal}
use Rattle.app_rules.proofs.OneEnd.{one_ticks_from}
use Rattle.cluster_invariant.specs.Ends.{AppTables, has_session}
use Rattle.cluster_steps.proofs.JobEnds.{Grew, grows_by}
use Rattle.cluster_steps.proofs.JobActs.{Wrote, wrote_by}
use Rattle.cluster_steps.proofs.JobPieces.{GoesOn, IsOfJob}
use Rattle.cluster_steps.proofs.EndSteps.{Here}
use Rattle.cluster_steps.proofs.FrameEnds.{FrameCame, NumberedCame, ended_from, ended_acts}
use Rattle.cluster_steps.proofs.FrameCases.{frame_came}
use Rattle.cluster_steps.proofs.InputEnds.{ConnectedCame, connected_came, failed_acts, failed_end, failed_came, broken_came, rejoined, joined_came, ticked_from, ticked_acts, ticked_here, lost_if, trouble_here}
use Rattle.ends_kept.proofs.PairActs.{IsAt, IsOfApp, pair_by, acts_pair, acts_elsewhere, job_pairs}
use Rattle.ends_kept.proofs.PairTables.{line_has, tables_by_job, tables_by_fresh, tables_by_ack, broke_by, tables_by_end, tables_by_meeting, tables_by_going_on, tables_by_learning, tables_by_loss, tables_by_connection, tables_by_failure, tables_by_join, lost_by, tables_by_tick}

-- What a step has come to: its application server's ends with the plain pairs after the acts so far, which are its own.
pub record TablesAre (l : Layout) (p : Plain) (app : ℕ) (b : Sofar) : Type 0 where
  pub its : b.state.app ≡ app
  pub own : AllByRecursion (IsOfApp app) b.outs.acts
  pub each : (d : ℕ) → AppTables (((after_all l p b.outs.acts).server_at d).pair_at app) (end_at b.state d)

all_both : (P : Act → Type 0) (xs ys : List Act) → AllByRecursion P xs → AllByRecursion P ys → AllByRecursion P (xs ++ ys)
all_both P [] ys a b = b
all_both P (x ∷ xs) ys a b = (a.0, all_both P xs ys a.1 b)

at_own : (app d : ℕ) (ws : List Act) → AllByRecursion (IsAt app d) ws → AllByRecursion (IsOfApp app) ws
at_own app d [] at = tt
at_own app d (a ∷ ws) at = (inl (d, at.0), at_own app d ws at.1)

-- a step at one end
one_end : (l : Layout) (p : Plain) (app d : ℕ) (f : AppEnd) (us : List UpFrame) (cs : List ℕ) (ws : List Act) (b c : Sofar) → TablesAre l p app b → Here d f us cs ws b c → KeepsOthers b.state c.state d
    → AllByRecursion (IsAt app d) ws → AppTables (pair_by ws (((after_all l p b.outs.acts).server_at d).pair_at app)) f → TablesAre l p app c
one_end l p app d f us cs ws b c t h others at here = record {
  its = h.app ∙ t.its;
  own = subst (λ (xs : List Act). AllByRecursion (IsOfApp app) xs) (sym h.acts) (all_both (IsOfApp app) b.outs.acts ws t.own (at_own app d ws at));
  each = λ k. subst (λ (xs : List Act). AppTables (((after_all l p xs).server_at k).pair_at app) (end_at c.state k)) (sym h.acts)
      (subst (λ (q : Plain). AppTables ((q.server_at k).pair_at app) (end_at c.state k)) (sym (after_all-append l p b.outs.acts ws)) (go k (eqb k d) refl));
}
  where
    q : Plain
    q = after_all l p b.outs.acts

    go : (k : ℕ) (t : Bool) → eqb k d ≡ t → AppTables (((after_all l q ws).server_at k).pair_at app) (end_at c.state k)
    go k true same =
        subst (λ n. AppTables (((after_all l q ws).server_at n).pair_at app) (end_at c.state n)) (sym (eqb-true k d same))
        (subst (λ (e : AppEnd). AppTables (((after_all l q ws).server_at d).pair_at app) e) (sym h.end)
        (subst (λ (x : Pair). AppTables x f) (sym (acts_pair l q ws app d at)) here))
    go k false other =
        subst (λ (e : AppEnd). AppTables (((after_all l q ws).server_at k).pair_at app) e) (sym (others k (λ same. false≢true (sym other ∙ eq-eqb k d same))))
        (subst (λ s. AppTables (s.pair_at app) (end_at b.state k)) (sym (acts_elsewhere l q ws app d k at (λ same. false≢true (sym other ∙ eq-eqb k d same)))) (t.each k))

-- frames

ended_at : (app a d now : ℕ) (line : Line) → a ≡ app → AllByRecursion (IsAt app d) (ended_acts line a d now)
ended_at app a d now Apart its = tt
ended_at app a d now Trying its = tt
ended_at app a d now Greeting its = tt
ended_at app a d now Asking its = ((its, refl), tt)
ended_at app a d now Joined its = ((its, refl), tt)

ended_pair : (a d now : ℕ) (line : Line) (pair : Pair) → pair_by (ended_acts line a d now) pair ≡ broke_by line now pair
ended_pair a d now Apart pair = refl
ended_pair a d now Trying pair = refl
ended_pair a d now Greeting pair = refl
ended_pair a d now Asking pair = refl
ended_pair a d now Joined pair = refl

by_end : (l : Layout) (p : Plain) (app d now : ℕ) (cs : List ℕ) (b c : Sofar) → TablesAre l p app b → KeepsOthers b.state c.state d
    → Here d (ended_from (end_at b.state d).line b.state.times now (end_at b.state d)) [] cs (ended_acts (end_at b.state d).line b.state.app d now) b c → TablesAre l p app c
by_end l p app d now cs b c t others h =
    one_end l p app d (ended_from (end_at b.state d).line b.state.times now (end_at b.state d)) [] cs (ended_acts (end_at b.state d).line b.state.app d now) b c t h others
    (ended_at app b.state.app d now (end_at b.state d).line t.its)
    (subst (λ (x : Pair). AppTables x (ended_from (end_at b.state d).line b.state.times now (end_at b.state d))) (sym (ended_pair b.state.app d now (end_at b.state d).line (((after_all l p b.outs.acts).server_at d).pair_at app)))
    (tables_by_end (((after_all l p b.outs.acts).server_at d).pair_at app) (end_at b.state d) (end_at b.state d).line b.state.times now refl (t.each d)))

by_numbered : (l : Layout) (p : Plain) (app d now seq ack : ℕ) (m : Down) (f : Front) (b c : Sofar) → TablesAre l p app b → KeepsOthers b.state c.state d → NumberedCame d now seq ack m f (end_at b.state d) b c → TablesAre l p app c
by_numbered l p app d now seq ack m f b c t others (inl x) =
    one_end l p app d _ _ [] [] b c t x.here others tt
    (tables_by_fresh (((after_all l p b.outs.acts).server_at d).pair_at app) m (end_at b.state d) x.session b.state.times now seq ack x.since f x.after x.link x.put x.its x.is_joined x.delivered (t.each d))
by_numbered l p app d now seq ack m f b c t others (inr (inl x)) =
    one_end l p app d _ _ [] [] b c t x.settles.here others tt
    (tables_by_ack (((after_all l p b.outs.acts).server_at d).pair_at app) (end_at b.state d) x.session ack x.settles.since x.its (t.each d))
by_numbered l p app d now seq ack m f b c t others (inr (inr x)) = by_end l p app d now (d ∷ []) b c t others x

by_frame : (m : Down) (l : Layout) (p : Plain) (app d now : ℕ) (frame : DownFrame) (b c : Sofar) → TablesAre l p app b → KeepsOthers b.state c.state d → FrameCame m d now frame (end_at b.state d) b c → TablesAre l p app c
by_frame (Welcome session epoch kept front taken) l p app d now frame b c t others (inl x) =
    one_end l p app d _ _ [] (act.Met b.state.app d session ∷ []) b c t x.here others ((t.its, refl), tt)
    (tables_by_meeting (((after_all l p b.outs.acts).server_at d).pair_at app) (end_at b.state d) b.state.times now session epoch x.since front x.greeting (t.each d))
by_frame (Welcome session epoch kept front taken) l p app d now frame b c t others (inr (inl x)) =
    one_end l p app d _ _ [] [] b c t x.here others tt
    (tables_by_going_on (((after_all l p b.outs.acts).server_at d).pair_at app) (end_at b.state d) x.session b.state.times now front.s x.since x.its x.asking (t.each d))
by_frame (Welcome session epoch kept front taken) l p app d now frame b c t others (inr (inr (inl x))) =
    one_end l p app d _ _ [] (act.Told b.state.app d session epoch kept ∷ []) b c t x.here others ((t.its, refl), tt)
    (tables_by_learning (((after_all l p b.outs.acts).server_at d).pair_at app) (end_at b.state d) x.session epoch x.since front _ x.its x.asking (t.each d))
by_frame (Welcome session epoch kept front taken) l p app d now frame b c t others (inr (inr (inr x))) = by_end l p app d now (d ∷ []) b c t others x
by_frame (Reset session at) l p app d now frame b c t others (inl x) =
    one_end l p app d _ _ (d ∷ []) (act.Lose b.state.app d (losses.Reset at) ∷ []) b c t x.here others ((t.its, refl), tt)
    (tables_by_loss (((after_all l p b.outs.acts).server_at d).pair_at app) (end_at b.state d) names.Recovery (reasons.Reset at) (t.each d))
by_frame (Reset session at) l p app d now frame b c t others (inr x) = by_end l p app d now (d ∷ []) b c t others x
by_frame (Block front block) l p app d now frame b c t others x = by_numbered l p app d now frame.seq frame.ack (Block front block) front b c t others x
by_frame (Drop front lo hi) l p app d now frame b c t others x = by_numbered l p app d now frame.seq frame.ack (Drop front lo hi) front b c t others x
by_frame (Ack front) l p app d now frame b c t others x = by_numbered l p app d now frame.seq frame.ack (Ack front) front b c t others x
by_frame (Grant front ticket at) l p app d now frame b c t others x = by_numbered l p app d now frame.seq frame.ack (Grant front ticket at) front b c t others x
by_frame (Answer front about job number at sum) l p app d now frame b c t others x = by_numbered l p app d now frame.seq frame.ack (Answer front about job number at sum) front b c t others x
by_frame (Normal front) l p app d now frame b c t others x = by_numbered l p app d now frame.seq frame.ack (Normal front) front b c t others x
by_frame Bare l p app d now frame b c t others (inl x) =
    one_end l p app d _ _ [] [] b c t x.settles.here others tt
    (tables_by_ack (((after_all l p b.outs.acts).server_at d).pair_at app) (end_at b.state d) x.session frame.ack x.settles.since x.its (t.each d))
by_frame Bare l p app d now frame b c t others (inr (inl x)) = one_end l p app d (end_at b.state d) [] [] [] b c t x others tt (t.each d)
by_frame Bare l p app d now frame b c t others (inr (inr x)) = by_end l p app d now (d ∷ []) b c t others x

-- connections

by_connected : (link : AppLink) (l : Layout) (p : Plain) (app d now : ℕ) (b c : Sofar) → TablesAre l p app b → KeepsOthers b.state c.state d → (end_at b.state d).link ≡ link → (end_at b.state d).line ≡ Trying
    → ConnectedCame link d now (end_at b.state d) b c → TablesAre l p app c
by_connected NotConnected l p app d now b c t others same line x =
    one_end l p app d _ _ [] [] b c t x others tt (tables_by_connection (((after_all l p b.outs.acts).server_at d).pair_at app) (end_at b.state d) NotConnected b.state.times now same line (t.each d))
by_connected NormalLink l p app d now b c t others same line x =
    one_end l p app d _ _ [] [] b c t x others tt (tables_by_connection (((after_all l p b.outs.acts).server_at d).pair_at app) (end_at b.state d) NormalLink b.state.times now same line (t.each d))
by_connected (Trouble broke try_at) l p app d now b c t others same line x =
    one_end l p app d _ _ [] (act.Mended b.state.app d ∷ []) b c t x others ((t.its, refl), tt)
    (tables_by_connection (((after_all l p b.outs.acts).server_at d).pair_at app) (end_at b.state d) (Trouble broke try_at) b.state.times now same line (t.each d))
by_connected Recovery l p app d now b c t others same line x =
    one_end l p app d _ _ [] [] b c t x others tt (tables_by_connection (((after_all l p b.outs.acts).server_at d).pair_at app) (end_at b.state d) Recovery b.state.times now same line (t.each d))

failed_at : (app a d before later : ℕ) (link : AppLink) → a ≡ app → AllByRecursion (IsAt app d) (failed_acts link a d before later)
failed_at app a d before later NotConnected its = ((its, refl), tt)
failed_at app a d before later NormalLink its = tt
failed_at app a d before later (Trouble broke try_at) its = tt
failed_at app a d before later Recovery its = tt

failed_pair : (a d before later : ℕ) (link : AppLink) (pair : Pair) → pair_by (failed_acts link a d before later) pair ≡ pair
failed_pair a d before later NotConnected pair = refl
failed_pair a d before later NormalLink pair = refl
failed_pair a d before later (Trouble broke try_at) pair = refl
failed_pair a d before later Recovery pair = refl

-- a tick

lost_at : (app a d now : ℕ) (over : Bool) → a ≡ app → AllByRecursion (IsAt app d) (lost_if over a d now)
lost_at app a d now true its = ((its, refl), tt)
lost_at app a d now false its = tt

lost_pair : (a d now : ℕ) (over : Bool) (pair : Pair) → pair_by (lost_if over a d now) pair ≡ lost_by over pair
lost_pair a d now true pair = refl
lost_pair a d now false pair = refl

pub by_tick : (link : AppLink) (l : Layout) (p : Plain) (app d now : ℕ) (b : Sofar) → TablesAre l p app b → (end_at b.state d).link ≡ link → TablesAre l p app (ticks_from link d now b)
by_tick NotConnected l p app d now b t same = t
by_tick NormalLink l p app d now b t same = t
by_tick (Trouble broke try_at) l p app d now b t same = go (ticked_here d now b (trouble_here b.state d broke try_at same))
  where
    go : Here d (ticked_from (end_at b.state d).link b.state.times now (end_at b.state d)) [] [] (ticked_acts (end_at b.state d).link b.state.times b.state.app d now) b (ticks_from (end_at b.state d).link d now b)
        → TablesAre l p app (ticks_from (Trouble broke try_at) d now b)
    go h =
        one_end l p app d (ticked_from (Trouble broke try_at) b.state.times now (end_at b.state d)) [] [] (lost_if (nat_le (until broke b.state.times.recover) now) b.state.app d now) b (ticks_from (Trouble broke try_at) d now b) t
        (subst (λ (k : AppLink). Here d (ticked_from k b.state.times now (end_at b.state d)) [] [] (ticked_acts k b.state.times b.state.app d now) b (ticks_from k d now b)) same h)
        (one_ticks_from (Trouble broke try_at) d now b).others
        (lost_at app b.state.app d now (nat_le (until broke b.state.times.recover) now) t.its)
        (subst (λ (x : Pair). AppTables x (ticked_from (Trouble broke try_at) b.state.times now (end_at b.state d))) (sym (lost_pair b.state.app d now (nat_le (until broke b.state.times.recover) now) (((after_all l p b.outs.acts).server_at d).pair_at app)))
        (tables_by_tick (((after_all l p b.outs.acts).server_at d).pair_at app) (end_at b.state d) (Trouble broke try_at) b.state.times now same (t.each d)))
by_tick Recovery l p app d now b t same = t

by_ticks : (ds : List ℕ) (l : Layout) (p : Plain) (app now : ℕ) (b : Sofar) → TablesAre l p app b → TablesAre l p app (ticks ds now b)
by_ticks [] l p app now b t = t
by_ticks (d ∷ ds) l p app now b t = by_ticks ds l p app now (ticks_from (end_at b.state d).link d now b) (by_tick (end_at b.state d).link l p app d now b t refl)

-- Each input.
pub tables_by_input : (input : AppIn) (l : Layout) (p : Plain) (app now : ℕ) (b c : Sofar) → TablesAre l p app b → AppMay b.state input → IfSome (named_by input) (KeepsOthers b.state c.state) → Makes b now input c → TablesAre l p app c
tables_by_input (app_in.Frame d frame) l p app now b c t may others h =
    by_frame frame.message l p app d now frame b c t others
    (frame_came b now d frame c may.known (line_has (((after_all l p b.outs.acts).server_at d).pair_at app) (end_at b.state d) (t.each d)) h)
tables_by_input (app_in.Connected d) l p app now b c t may others h =
    by_connected (end_at b.state d).link l p app d now b c t others refl may.tried (subst (λ (x : Sofar). ConnectedCame (end_at b.state d).link d now (end_at b.state d) b x) (sym h) (connected_came d now b may.known))
tables_by_input (app_in.NoWay d before later) l p app now b c t may others h =
    one_end l p app d (failed_end (end_at b.state d).link b.state.times before later now (end_at b.state d)) [] [] (failed_acts (end_at b.state d).link b.state.app d before later) b c t
    (subst (λ (x : Sofar). Here d (failed_end (end_at b.state d).link b.state.times before later now (end_at b.state d)) [] [] (failed_acts (end_at b.state d).link b.state.app d before later) b x) (sym h)
    (failed_came d before later now b may.tried.known)) others
    (failed_at app b.state.app d before later (end_at b.state d).link t.its)
    (subst (λ (x : Pair). AppTables x (failed_end (end_at b.state d).link b.state.times before later now (end_at b.state d))) (sym (failed_pair b.state.app d before later (end_at b.state d).link (((after_all l p b.outs.acts).server_at d).pair_at app)))
    (tables_by_failure (((after_all l p b.outs.acts).server_at d).pair_at app) (end_at b.state d) (end_at b.state d).link b.state.times before later now refl may.tried.tried (t.each d)))
tables_by_input (app_in.Broken d) l p app now b c t may others h =
    by_end l p app d now [] b c t others
    (subst (λ (x : Sofar). Here d (ended_from (end_at b.state d).line b.state.times now (end_at b.state d)) [] [] (ended_acts (end_at b.state d).line b.state.app d now) b x) (sym h) (broken_came d now b may))
tables_by_input (app_in.Join d) l p app now b c t may others h =
    one_end l p app d (rejoined (end_at b.state d).link (end_at b.state d)) [] [] [] b c t
    (subst (λ (x : Sofar). Here d (rejoined (end_at b.state d).link (end_at b.state d)) [] [] [] b x) (sym h) (joined_came d b may)) others tt
    (tables_by_join (((after_all l p b.outs.acts).server_at d).pair_at app) (end_at b.state d) (end_at b.state d).link refl (t.each d))
tables_by_input app_in.Tick l p app now b c t may others h = subst (λ (x : Sofar). TablesAre l p app x) (sym h) (by_ticks (range_with_len 0 (length b.state.ends)) l p app now b t)

-- Each command of a job.
job_own : (app : ℕ) (ws : List Act) → AllByRecursion IsOfJob ws → AllByRecursion (IsOfApp app) ws
job_own app [] of_job = tt
job_own app (a ∷ ws) of_job = (inr of_job.0, job_own app ws of_job.1)

jobs_pairs : (l : Layout) (p : Plain) (ws : List Act) (app d : ℕ) → AllByRecursion IsOfJob ws → ((after_all l p ws).server_at d).pair_at app ≡ (p.server_at d).pair_at app
jobs_pairs l p [] app d of_job = refl
jobs_pairs l p (a ∷ ws) app d of_job = jobs_pairs l (after l p a) ws app d of_job.1 ∙ job_pairs l p a app d of_job.0

pub normal_has : (pair : Pair) (e : AppEnd) → AppTables pair e → is_normal e.link ≡ true → is_some e.session ≡ true
normal_has pair e t normal = sym t.connected ∙ go e.link normal
  where
    go : (link : AppLink) → is_normal link ≡ true → has_session link ≡ true
    go NotConnected n = absurd (false≢true n)
    go NormalLink n = refl
    go (Trouble broke try_at) n = absurd (false≢true n)
    go Recovery n = absurd (false≢true n)

pub tables_by_command : (l : Layout) (p : Plain) (app : ℕ) (b c : Sofar) → c.state.app ≡ b.state.app → TablesAre l p app b → GoesOn b c → TablesAre l p app c
tables_by_command l p app b c same_app t g = go (wrote_by b c g) (grows_by b c g (λ d. normal_has (((after_all l p b.outs.acts).server_at d).pair_at app) (end_at b.state d) (t.each d)))
  where
    go : Wrote b c → ((d : ℕ) → Grew d b c) → TablesAre l p app c
    go w grew = record {
      its = same_app ∙ t.its;
      own = subst (λ (xs : List Act). AllByRecursion (IsOfApp app) xs) (sym w.acts) (all_both (IsOfApp app) b.outs.acts w.written t.own (job_own app w.written w.of_job));
      each = λ d. subst (λ (xs : List Act). AppTables (((after_all l p xs).server_at d).pair_at app) (end_at c.state d)) (sym w.acts)
          (subst (λ (q : Plain). AppTables ((q.server_at d).pair_at app) (end_at c.state d)) (sym (after_all-append l p b.outs.acts w.written))
          (subst (λ (x : Pair). AppTables x (end_at c.state d)) (sym (jobs_pairs l (after_all l p b.outs.acts) w.written app d w.of_job))
          (tables_by_job (((after_all l p b.outs.acts).server_at d).pair_at app) (grew d).put (end_at b.state d) (end_at c.state d) (grew d).end (t.each d))));
    }
