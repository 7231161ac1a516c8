-- A script that fits its output.
use Rattle.std.proofs.Common.{Option, None, Some, ◌≡◌, ◌≢◌, ℕ, zero, suc, add-one, ◌+◌, ◌<◌, ◌≤◌, Bool, true, false, ◌==◌, if◌then◌else◌, List, [], ◌∷◌, ◌++◌, length, take, All, None, map, refl, sym, ap, ◌∙◌, subst, append-nil, append_assoc, inl, inr, arith, get_or, length-append, ◌||◌, ◌&&◌, not}
use Rattle.std.specs.List.{flat_map, filter, range_with_len, AllByRecursion, list_any}
use Rattle.std.specs.Prelude.{unwrap_or, Any, IfSome, slice_get, slice_index_or}
use Rattle.std.proofs.lemmas.Bool.{eqb-true}
use Rattle.std.proofs.lemmas.Grind.{flat_map-append}
use Rattle.std.proofs.lemmas.List.Elements.{filter-append, recursion_from_All}
use Rattle.std.proofs.lemmas.List.{map-append}
use Rattle.std.proofs.lemmas.Option.{slice_get_past}
use Rattle.plain_orders.specs.declared.act.Act.{Act}
use Rattle.plain_orders.specs.declared.act.Act.TheVariants.{Opened, Read}
use Rattle.plain_orders.specs.declared.layout.Layout.{Layout}
use Rattle.plain_runs.specs.Plain.{Plain, start}
use Rattle.plain_runs.specs.Run.{after_all, state_after}
use Rattle.plain_runs.specs.Step.{after}
use Rattle.app_job.specs.declared.answer.Answer.{Answer}
use Rattle.app_job.specs.declared.command.Command.{Command}
use Rattle.app_job.specs.declared.command.Command.TheVariants.{Set, Kill, Get, Shape, Next}
use Rattle.job_script.specs.declared.script.Script.{Script}
use Rattle.job_script.specs.declared.script_line.ScriptLine.{ScriptLine}
use Rattle.job_script.specs.declared.todo.Todo.{Todo}
use Rattle.job_script.specs.declared.todo.Todo.TheVariants.{Job, Await}
use Rattle.transcript.specs.ActText.{CanPrintAct}
use Rattle.transcript.specs.AnswerText.{CanPrintAnswer}
use Rattle.transcript.specs.PieceText.{CanPrintPiece}
use Rattle.transcript.specs.declared.piece.AnswerLine.{AnswerLine}
use Rattle.transcript.specs.declared.piece.Piece.{Piece}
use Rattle.transcript.specs.declared.piece.Piece.TheVariants.{Answered, Gone}
use Rattle.script_fits.specs.declared.output.Output.{Output}
use Rattle.script_fits.specs.Moments.{Moment, moments, moments_from, moments_of, is_job, job_of}
use Rattle.script_fits.specs.Locking.{Past, no_past}
use Rattle.script_fits.specs.Commands.{Whole}
use Rattle.script_fits.specs.JobLines.{CommandLine, Ended, AreDone, command_of, commands_of, ended_of, end_of, past_after}
use Rattle.script_fits.specs.Pieces.{answers_in, answer_in, has_wait, if_waiting, unless_waiting, why_of, halt_in}
use Rattle.script_fits.specs.Naming.{IsDeclared, opened_in}
use Rattle.script_fits.specs.Walk.{Added, SoFar, after_opening, down_after, with_line, down_at, is_halted, is_up_piece}
use Rattle.script_fits.specs.Lines.{LineAdds, LinesAdd, answer_line, tick_in, ticks_of, death_in, deaths_of, crash_in, gone_of, unsaved, ArePumps, AreRestarts, IsNoLater, IsAccounted, IsOfRunning, doer_of, is_still}
use Rattle.script_fits.specs.Breaks.{AreApart, Causes, LiesIn, no_causes, causes_after, range_of, with_causes}
use Rattle.script_fits.specs.Fits.{AreRising, Fits, IsOpening, IsReadFree, reader_in}
use Rattle.plain_runs.proofs.RunLemmas.{after_all-append}
use Rattle.cluster_call.specs.Stage.{IsUndisturbed, found_of, loss_of}
use Rattle.cluster_call.specs.Running.{AllCanPrint, AddsAct, CanRun, DidCommand, DidTodo, HasJob, IsMade, IsQuiet, IsServed, Makes, TodoRuns, own_line, pieces_of}
use Rattle.cluster_call.proofs.AddLemmas.{all_both}
use Rattle.cluster_call.proofs.WalkLemmas.{walk, LinesAdd-more, walk-more, causes-more, whole_acts, none_of, all_so, moments-more, own_moment, own_moments, if_own, AreDone-more, AreDone-ends, AreRising-more}

-- Lines done so far: what each added, and the ends of commands. `opening` is what stood in the trail before the first.
pub record IsRunTo (l : Layout) (opening : List Act) (lines : List ScriptLine) (acts : List Act) (pieces : List Piece) : Type 0 where
  pub added : List Added
  pub ends : List Ended
  pub lines_add : LinesAdd l (after_opening opening) lines added
  pub so_lines : (walk (after_opening opening) lines added).lines ≡ lines
  pub so_acts : (walk (after_opening opening) lines added).acts ≡ acts
  pub so_pieces : (walk (after_opening opening) lines added).pieces ≡ pieces
  pub so_ends : (walk (after_opening opening) lines added).ends ≡ ends
  pub up : (d : ℕ) → (walk (after_opening opening) lines added).down d ≡ false
  pub trail : acts ≡ opening ++ flat_map (λ (a : Added). a.acts) added
  pub all_pieces : pieces ≡ flat_map (λ (a : Added). a.pieces) added
  pub all_ends : ends ≡ flat_map (λ (a : Added). a.ends) added
  pub breaks : (causes_after no_causes lines added).unexplained ≡ 0
  pub failed : flat_map range_of acts ≡ []
  pub opened : flat_map opened_in acts ≡ flat_map opened_in opening
  pub found : flat_map found_of acts ≡ flat_map found_of opening
  pub kept : flat_map loss_of acts ≡ flat_map loss_of opening
  pub all_answers : length (answers_in pieces) ≡ length pieces
  pub reads : AllByRecursion IsReadFree (moments l acts)
  pub declared : AllByRecursion (IsDeclared l) acts
  pub printed : AllCanPrint acts
  pub answered : AllByRecursion CanPrintPiece pieces
  pub rising : AreRising 0 ends
  pub below : AllByRecursion (λ (e : Ended). e.place < length acts) ends
  pub answers : answers_in pieces ≡ map answer_line ends
  pub jobs : (j : ℕ) → (left : Past) × AreDone l j no_past (commands_of j lines) (moments_of j (moments l acts)) (ended_of j ends) left

-- no line was done yet
pub run_none : (l : Layout) (opening : List Act) → AllByRecursion IsReadFree (moments l opening) → AllByRecursion (IsDeclared l) opening → AllCanPrint opening → flat_map range_of opening ≡ [] → ((j : ℕ) → moments_of j (moments l opening) ≡ []) → IsRunTo l opening [] opening []
run_none l opening unread declared printed failed none = record {
  added = [];
  ends = [];
  lines_add = refl;
  so_lines = refl;
  so_acts = refl;
  so_pieces = refl;
  so_ends = refl;
  up = λ d. refl;
  trail = sym (append-nil opening);
  all_pieces = refl;
  all_ends = refl;
  breaks = refl;
  failed = failed;
  opened = refl;
  found = refl;
  kept = refl;
  all_answers = refl;
  reads = unread;
  declared = declared;
  printed = printed;
  answered = tt;
  rising = tt;
  below = tt;
  answers = refl;
  jobs = λ j. (no_past, (none j, refl, refl));
}

-- what no act has anything of stays as it was
more_none : {X : Type 0} (l : Layout) (f : Act → List X) (acts more : List Act) (xs : List X) → ((a : Act) → IsQuiet l a → f a ≡ []) → AllByRecursion (IsQuiet l) more → flat_map f acts ≡ xs → flat_map f (acts ++ more) ≡ xs
more_none l f acts more xs none all is =
    flat_map-append f acts more ∙ ap (λ ys. flat_map f acts ++ ys) (none_of (IsQuiet l) f more none all) ∙ append-nil (flat_map f acts) ∙ is

-- an act that opens nothing finds nothing
found_none : (a : Act) → opened_in a ≡ [] → found_of a ≡ []
found_none (Opened d entries) none = absurd cc
found_none _ none = refl

-- what no job makes is no read
no_reader : (a : Act) → job_of a ≡ None → reader_in a ≡ None
no_reader (Read job line d at via question) none = absurd cc
no_reader _ none = refl

-- so nobody reads among acts that no job makes
served_reads : (l : Layout) (k : ℕ) (p : Plain) (acts : List Act) → AllByRecursion (IsServed l) acts → AllByRecursion IsReadFree (moments_from l k p acts)
served_reads l k p [] all = tt
served_reads l k p (a ∷ acts) all = (subst (λ o. IfSome o (λ j. (p.job_at j).rollback_only ≡ false)) (sym (no_reader a all.0.job)) tt, served_reads l (k + 1) (after l p a) acts all.1)

-- an act of the only job is a read of it, or none
own_reader : (a : Act) (P : ℕ → Type 0) → job_of a ≡ Some 0 → P 0 → IfSome (reader_in a) P
own_reader (Read job line d at via question) P own here = subst P (sym (unwrapped own)) here
  where
    unwrapped : {x y : ℕ} → Some x ≡ Some y → x ≡ y
    unwrapped e = ap (λ o. unwrap_or o 0) e
own_reader _ P own here = tt

-- a line's reads
line_reads : (l : Layout) (line k : ℕ) (p : Plain) (before more : List Act) (act : Act) → AllByRecursion (IsServed l) before → IsMade l line act → AllByRecursion (IsServed l) more
    → ((after_all l p before).job_at 0).rollback_only ≡ false → AllByRecursion IsReadFree (moments_from l k p (before ++ act ∷ more))
line_reads l line k p [] more act served its rest free =
    (own_reader act (λ j. (p.job_at j).rollback_only ≡ false) its.job free, served_reads l (k + 1) (after l p act) more rest)
line_reads l line k p (a ∷ before) more act served its rest free = (
  subst (λ o. IfSome o (λ j. (p.job_at j).rollback_only ≡ false)) (sym (no_reader a served.0.job)) tt,
  line_reads l line (k + 1) (after l p a) before more act served.1 its rest free,
)

-- a command done by one act
makes_done : (l : Layout) (line : ℕ) (command : Command) (past : Past) (m : Moment) (answer : Answer) → (m.before.job_at 0).rollback_only ≡ false → Makes line command m.act answer → Whole l 0 line command past (m ∷ []) answer past.held_back
makes_done l line (Set at value) past m answer free makes = (makes, (free, tt), refl)
makes_done l line (Kill at) past m answer free makes = (makes, (free, tt), refl)
makes_done l line (Get at) past m answer free makes = (makes, refl)
makes_done l line (Shape at) past m answer free makes = (makes, (free, tt), refl)
makes_done l line (Next parent sub) past m answer free makes = (makes, (free, tt), refl)
makes_done l line _ past m answer free makes = absurd makes

-- its answer doesn't wait
no_why : (line : ℕ) (command : Command) (act : Act) (answer : Answer) → Makes line command act answer → why_of answer ≡ None
no_why line (Set at value) act answer makes = ap why_of makes.2
no_why line (Kill at) act answer makes = ap why_of makes.2
no_why line (Get at) act answer makes = ap why_of makes.4
no_why line (Shape at) act answer makes = ap why_of makes.4
no_why line (Next parent sub) act answer makes = ap why_of makes.4
no_why line _ act answer makes = absurd makes

-- its answer can be printed
answer_can : (line : ℕ) (command : Command) (act : Act) (answer : Answer) → Makes line command act answer → CanPrintAct act → CanPrintAnswer answer
answer_can line (Set at value) act answer makes can = subst CanPrintAnswer (sym makes.2) tt
answer_can line (Kill at) act answer makes can = subst CanPrintAnswer (sym makes.2) tt
answer_can line (Get at) act answer makes can = subst CanPrintAnswer (sym makes.4) tt
answer_can line (Shape at) act answer makes can = subst CanPrintAnswer (sym makes.4) tt
answer_can line (Next parent sub) act answer makes can = subst CanPrintAnswer (sym makes.4) (subst CanPrintAct (ap (λ acts. get_or acts 0 act) makes.3) can).2
answer_can line _ act answer makes can = absurd makes

-- all acts of a line are quiet
line_quiet : (l : Layout) (line : ℕ) (old new : List Act) (act : Act) → (d : AddsAct l line old new act) → AllByRecursion (IsQuiet l) (d.before ++ act ∷ d.after)
line_quiet l line old new act d =
    all_both (IsQuiet l) d.before (act ∷ d.after) (all_so (IsServed l) (IsQuiet l) d.before (λ a s. s.quiet) d.served_before)
    (d.its.quiet, all_so (IsServed l) (IsQuiet l) d.after (λ a s. s.quiet) d.served_after)

served_no_later : (l : Layout) (line : ℕ) (a : Act) → IsServed l a → IsNoLater line a
served_no_later l line a s = subst (λ o. IfSome o (λ k. k ≤ line)) (sym s.line) tt

made_no_later : (l : Layout) (line : ℕ) (a : Act) → IsMade l line a → IsNoLater line a
made_no_later l line a s = subst (λ o. IfSome o (λ k. k ≤ line)) (sym s.its_line) (omega arith)

-- no act of a line is for a later one
line_no_later : (l : Layout) (line : ℕ) (old new : List Act) (act : Act) → (d : AddsAct l line old new act) → AllByRecursion (IsNoLater line) (d.before ++ act ∷ d.after)
line_no_later l line old new act d =
    all_both (IsNoLater line) d.before (act ∷ d.after) (all_so (IsServed l) (IsNoLater line) d.before (served_no_later l line) d.served_before)
    (made_no_later l line act d.its, all_so (IsServed l) (IsNoLater line) d.after (served_no_later l line) d.served_after)

-- the only moment of the job at a line
abbrev line_moment : (l : Layout) (line : ℕ) (old new : List Act) (act : Act) → AddsAct l line old new act → Moment
line_moment l line old new act d = own_moment l (0 + length old) (after_all l start old) d.before act

-- what a command's line adds
abbrev line_added : (l : Layout) (line : ℕ) (old new : List Act) (act : Act) (answer : Answer) → AddsAct l line old new act → Added
line_added l line old new act answer d = record {
  acts = d.before ++ act ∷ d.after;
  pieces = Answered (own_line line answer) ∷ [];
  ends = end_of 0 line answer (line_moment l line old new act d ∷ []) ∷ [];
}

-- nothing is asked of a command that isn't there
none_open : (cs : List CommandLine) (n : ℕ) (P : CommandLine → Type 0) → n ≡ length cs → IfSome (slice_get cs n) P
none_open cs n P same = subst (λ o. IfSome o P) (sym (slice_get_past cs n (omega (arith, same)))) tt

-- nobody waits where each command has its end
all_told : (l : Layout) (s : SoFar) (j : ℕ) → length (ended_of j s.ends) ≡ length (commands_of j s.lines) → IsAccounted l s j
all_told l s j counted = inr (none_open (commands_of j s.lines) (length (ended_of j s.ends)) (λ c. has_wait j c.line s.pieces ≡ true) counted)

-- what is so of every data server is so of the one that acts
of_any : (o : Option ℕ) (P : ℕ → Type 0) → ((d : ℕ) → P d) → IfSome o P
of_any None P all = tt
of_any (Some d) P all = all d

-- where all servers are up, a command's line stops none
none_still : (down : ℕ → Bool) (todo : Todo) (command : Command) → todo ≡ Job 0 command → ((d : ℕ) → down d ≡ false) → (d : ℕ) → is_still down todo d ≡ false
none_still down todo command e up d = ap (λ t. is_still down t d) e ∙ ap (λ b. (b && not false) || false) (up d)

-- they stay up
up_after : (down : ℕ → Bool) (todo : Todo) (command : Command) (pieces : List Piece) → todo ≡ Job 0 command → ((d : ℕ) → flat_map halt_in pieces ≡ []) → ((d : ℕ) → list_any (is_up_piece d) pieces ≡ false) → ((d : ℕ) → down d ≡ false)
    → (d : ℕ) → down_after down todo pieces d ≡ false
up_after down todo command pieces e halts ups up d =
    ap (λ t. down_after down t pieces d) e ∙ ap (λ hs. is_halted d hs || down_at down (Job 0 command) pieces d) (halts d)
    ∙ ap (λ b. if b then false else (down d || false)) (ups d) ∙ ap (λ b. b || false) (up d)

-- a line whose command is done at once
job_adds : (l : Layout) (s : SoFar) (x : ScriptLine) (command : Command) (old new : List Act) (act : Act) (answer : Answer) → (d : AddsAct l x.line old new act) → s.acts ≡ old → x.todo ≡ Job 0 command → HasJob l
    → (state_after l old).died_at 0 ≡ false → ((d : ℕ) → s.down d ≡ false) → Makes x.line command act answer
    → ((j : ℕ) → IsAccounted l (with_line s x (line_added l x.line old new act answer d)) j)
    → LineAdds l s x (line_added l x.line old new act answer d)
job_adds l s x command old new act answer d at todo job alive up makes told =
    let quiet : AllByRecursion (IsQuiet l) (d.before ++ act ∷ d.after) = line_quiet l x.line old new act d in
    let silent : why_of answer ≡ None = no_why x.line command act answer makes in
    record {
      middle = Answered (own_line x.line answer) ∷ [];
      waiting = [];
      ticks = none_of (IsQuiet l) tick_in (d.before ++ act ∷ d.after) (λ a q. q.clock) quiet ∙ ap (ticks_of (state_after l s.acts).clock) (sym todo);
      deaths = none_of (IsQuiet l) death_in (d.before ++ act ∷ d.after) (λ a q. q.deaths) quiet ∙ ap (deaths_of (state_after l s.acts)) (sym todo);
      opened = none_of (IsQuiet l) opened_in (d.before ++ act ∷ d.after) (λ a q. q.opened) quiet;
      restarts = subst (λ t. AreRestarts s.down x.line t [] (d.before ++ act ∷ d.after)) (sym todo) (refl, none_of (IsQuiet l) crash_in (d.before ++ act ∷ d.after) (λ a q. q.crashes) quiet);
      halts = tt;
      still =
          all_so (IsQuiet l) (IsOfRunning s.down x.todo) (d.before ++ act ∷ d.after)
          (λ a q. of_any (doer_of a) (λ e. is_still s.down x.todo e ≡ false) (none_still s.down x.todo command todo up)) quiet;
      pumps = subst (λ t. ArePumps (unsaved l (state_after l (s.acts ++ (d.before ++ act ∷ d.after))) (down_after s.down x.todo (Answered (own_line x.line answer) ∷ []))) x.line t []) (sym todo) refl;
      gone =
          sym
          (ap (gone_of l (state_after l s.acts) x.line) todo
          ∙ ap (λ apps. if (state_after l s.acts).died_at (slice_index_or apps 0 0) then Gone 0 x.line ∷ [] else []) job.job
          ∙ ap (λ acts. if (state_after l acts).died_at 0 then Gone 0 x.line ∷ [] else []) at ∙ ap (λ b. if b then Gone 0 x.line ∷ [] else []) alive);
      given = line_no_later l x.line old new act d;
      answers = ap (λ o. unless_waiting o (own_line x.line answer) ++ []) silent;
      places = (
        (
          omega (arith, ap length at),
          omega (arith, ap length at, length-append d.before (act ∷ d.after)),
        ),
        tt,
      );
      pieces = refl;
      no_wait = ap (λ o. if_waiting o (own_line x.line answer) ++ []) silent;
      only_waits = refl;
      waits = tt;
      accounted = told;
    }

-- a line at which nothing happens
still_adds : (l : Layout) (s : SoFar) (x : ScriptLine) (job : ℕ) → x.todo ≡ Await job → ((j : ℕ) → IsAccounted l (with_line s x (record { acts = []; pieces = []; ends = [] })) j) → LineAdds l s x (record { acts = []; pieces = []; ends = [] })
still_adds l s x job todo told = record {
  middle = [];
  waiting = [];
  ticks = ap (ticks_of (state_after l s.acts).clock) (sym todo);
  deaths = ap (deaths_of (state_after l s.acts)) (sym todo);
  opened = refl;
  restarts = subst (λ t. AreRestarts s.down x.line t [] []) (sym todo) (refl, refl);
  halts = tt;
  still = tt;
  pumps = subst (λ t. ArePumps (unsaved l (state_after l (s.acts ++ [])) (down_after s.down x.todo [])) x.line t []) (sym todo) refl;
  gone = ap (gone_of l (state_after l s.acts) x.line) (sym todo);
  given = tt;
  answers = refl;
  places = tt;
  pieces = refl;
  no_wait = refl;
  only_waits = refl;
  waits = tt;
  accounted = told;
}

-- the same of equal lists
moved : (l : Layout) (j : ℕ) (cs ds : List CommandLine) (ms ns : List Moment) (es fs : List Ended) (left : Past) → ds ≡ cs → ns ≡ ms → fs ≡ es → AreDone l j no_past cs ms es left → AreDone l j no_past ds ns fs left
moved l j cs ds ms ns es fs left c m e done =
    subst (λ xs. AreDone l j no_past xs ns fs left) (sym c) (subst (λ xs. AreDone l j no_past cs xs fs left) (sym m) (subst (λ xs. AreDone l j no_past cs ms xs left) (sym e) done))

-- the commands of one line more
commands_more : (j : ℕ) (xs : List ScriptLine) (x : ScriptLine) (todo : Todo) → x.todo ≡ todo → commands_of j (xs ++ x ∷ []) ≡ commands_of j xs ++ command_of j x.line todo
commands_more j xs x todo e =
    flat_map-append (λ (y : ScriptLine). command_of j y.line y.todo) xs (x ∷ []) ∙ ap (λ cs. commands_of j xs ++ cs) (append-nil (command_of j x.line x.todo)) ∙ ap (λ t. commands_of j xs ++ command_of j x.line t) e

-- the moments of a job with one line more
line_moments : (l : Layout) (j line : ℕ) (old new : List Act) (act : Act) → (d : AddsAct l line old new act) → moments_of j (moments l new) ≡ moments_of j (moments l old) ++ if_own j (line_moment l line old new act d)
line_moments l j line old new act d =
    ap (λ acts. moments_of j (moments l acts)) d.whole
    ∙ ap (moments_of j) (moments-more l 0 start old (d.before ++ act ∷ d.after))
    ∙ filter-append (λ (m : Moment). is_job j (job_of m.act)) (moments l old) (moments_from l (0 + length old) (after_all l start old) (d.before ++ act ∷ d.after))
    ∙ ap (λ ms. moments_of j (moments l old) ++ ms) (own_moments l j line (0 + length old) (after_all l start old) d.before d.after act d.served_before d.its d.served_after)

-- each job's commands with one line more
job_more : (l : Layout) (j : ℕ) (xs : List ScriptLine) (x : ScriptLine) (command : Command) (old new : List Act) (act : Act) (answer : Answer) (ends : List Ended) → (d : AddsAct l x.line old new act) → x.todo ≡ Job 0 command
    → Makes x.line command act answer → ((i : ℕ) → (left : Past) × AreDone l i no_past (commands_of i xs) (moments_of i (moments l old)) (ended_of i ends) left)
    → (left : Past) × AreDone l j no_past (commands_of j (xs ++ x ∷ [])) (moments_of j (moments l new)) (ended_of j (ends ++ end_of 0 x.line answer (line_moment l x.line old new act d ∷ []) ∷ [])) left
job_more l j xs x command old new act answer ends d todo makes jobs = go (0 == j) refl
  where
    e : Ended
    e = end_of 0 x.line answer (line_moment l x.line old new act d ∷ [])

    Goal : ℕ → Type 0
    Goal i = (left : Past) × AreDone l i no_past (commands_of i (xs ++ x ∷ [])) (moments_of i (moments l new)) (ended_of i (ends ++ e ∷ [])) left

    ended : (i : ℕ) → ended_of i (ends ++ e ∷ []) ≡ ended_of i ends ++ if_own i e
    ended i = filter-append (λ (y : Ended). y.job == i) ends (e ∷ [])

    own : Goal 0
    own =
        let m : Moment = line_moment l x.line old new act d in
        let free : (m.before.job_at 0).rollback_only ≡ false = subst (λ p. (p.job_at 0).rollback_only ≡ false) (after_all-append l start old d.before) d.free in
        let (left, done) = jobs 0 in (
          past_after left (m ∷ []) left.held_back,
          moved l 0 (commands_of 0 xs ++ record { line = x.line; command = command } ∷ []) (commands_of 0 (xs ++ x ∷ [])) (moments_of 0 (moments l old) ++ m ∷ []) (moments_of 0 (moments l new)) (ended_of 0 ends ++ e ∷ []) (ended_of 0 (ends ++ e ∷ []))
              (past_after left (m ∷ []) left.held_back) (commands_more 0 xs x (Job 0 command) todo) (line_moments l 0 x.line old new act d) (ended 0)
              (AreDone-more l 0 no_past (commands_of 0 xs) (moments_of 0 (moments l old)) (ended_of 0 ends) left (record { line = x.line; command = command }) (m ∷ []) answer left.held_back done
              (inl (makes_done l x.line command left m answer free makes))),
        )

    other : (0 == j) ≡ false → Goal j
    other ne =
        let (left, done) = jobs j in (
          left,
          moved l j (commands_of j xs) (commands_of j (xs ++ x ∷ [])) (moments_of j (moments l old)) (moments_of j (moments l new)) (ended_of j ends) (ended_of j (ends ++ e ∷ [])) left
              (commands_more j xs x (Job 0 command) todo ∙ ap (λ b. commands_of j xs ++ (if b then record { line = x.line; command = command } ∷ [] else [])) ne ∙ append-nil (commands_of j xs))
              (line_moments l j x.line old new act d ∙ ap (λ b. moments_of j (moments l old) ++ (if b then line_moment l x.line old new act d ∷ [] else [])) ne ∙ append-nil (moments_of j (moments l old)))
              (ended j ∙ ap (λ b. ended_of j ends ++ (if b then e ∷ [] else [])) ne ∙ append-nil (ended_of j ends)) done,
        )

    go : (b : Bool) → (0 == j) ≡ b → Goal j
    go true same = subst Goal (eqb-true 0 j same) own
    go false ne = other ne

-- places below a length are below a greater one
below_more : (n m : ℕ) (ends : List Ended) → n ≤ m → AllByRecursion (λ (e : Ended). e.place < n) ends → AllByRecursion (λ (e : Ended). e.place < m) ends
below_more n m ends low all = all_so (λ (e : Ended). e.place < n) (λ (e : Ended). e.place < m) ends (λ e here. omega (arith, here, low)) all

-- counts of commands and of their ends agree
counted : (l : Layout) (xs : List ScriptLine) (acts : List Act) (ends : List Ended) → ((i : ℕ) → (left : Past) × AreDone l i no_past (commands_of i xs) (moments_of i (moments l acts)) (ended_of i ends) left)
    → (j : ℕ) → length (ended_of j ends) ≡ length (commands_of j xs)
counted l xs acts ends jobs j = let (left, done) = jobs j in AreDone-ends l j no_past (commands_of j xs) (moments_of j (moments l acts)) (ended_of j ends) left done

-- nobody waits once a line is done
told_more : (l : Layout) (s : SoFar) (x : ScriptLine) (y : Added) (xs : List ScriptLine) (ends : List Ended) → s.lines ≡ xs → s.ends ≡ ends → ((j : ℕ) → length (ended_of j (ends ++ y.ends)) ≡ length (commands_of j (xs ++ x ∷ [])))
    → (j : ℕ) → IsAccounted l (with_line s x y) j
told_more l s x y xs ends at of counts j =
    all_told l (with_line s x y) j (ap (λ es. length (ended_of j (es ++ y.ends))) of ∙ counts j ∙ ap (λ ls. length (commands_of j (ls ++ x ∷ []))) (sym at))

-- one more of what each line added
added_more : {X : Type 0} (f : Added → List X) (added : List Added) (y : Added) → flat_map f (added ++ y ∷ []) ≡ flat_map f added ++ f y
added_more f added y = flat_map-append f added (y ∷ []) ∙ ap (λ xs. flat_map f added ++ xs) (append-nil (f y))

-- one line more: a command
job_line : (l : Layout) (opening : List Act) (xs : List ScriptLine) (x : ScriptLine) (command : Command) (old new : List Act) (pieces : List Piece) (answer : Answer) → IsRunTo l opening xs old pieces → x.todo ≡ Job 0 command → HasJob l
    → (state_after l old).died_at 0 ≡ false → DidCommand l x.line command old new answer → IsRunTo l opening (xs ++ x ∷ []) new (pieces ++ pieces_of (own_line x.line answer ∷ []))
job_line l opening xs x command old new pieces answer r todo job alive did =
    let d : AddsAct l x.line old new did.act = did.adds in
    let y : Added = line_added l x.line old new did.act answer d in
    let s : SoFar = walk (after_opening opening) xs r.added in
    let e : Ended = end_of 0 x.line answer (line_moment l x.line old new did.act d ∷ []) in
    let quiet : AllByRecursion (IsQuiet l) y.acts = line_quiet l x.line old new did.act d in
    let jobs : ((j : ℕ) → (left : Past) × AreDone l j no_past (commands_of j (xs ++ x ∷ [])) (moments_of j (moments l new)) (ended_of j (r.ends ++ e ∷ [])) left) =
    (λ j. job_more l j xs x command old new did.act answer r.ends d todo did.makes r.jobs) in
    let adds : LineAdds l s x y = job_adds l s x command old new did.act answer d r.so_acts todo job alive r.up did.makes (told_more l s x y xs r.ends r.so_lines r.so_ends (counted l (xs ++ x ∷ []) new (r.ends ++ e ∷ []) jobs)) in
    let walked : walk (after_opening opening) (xs ++ x ∷ []) (r.added ++ y ∷ []) ≡ with_line s x y = walk-more l (after_opening opening) xs r.added x y r.lines_add in
    record {
      added = r.added ++ y ∷ [];
      ends = r.ends ++ e ∷ [];
      lines_add = LinesAdd-more l (after_opening opening) xs r.added x y r.lines_add adds;
      so_lines = ap (λ (w : SoFar). w.lines) walked ∙ ap (λ ls. ls ++ x ∷ []) r.so_lines;
      so_acts = ap (λ (w : SoFar). w.acts) walked ∙ ap (λ acts. acts ++ y.acts) r.so_acts ∙ sym d.whole;
      so_pieces = ap (λ (w : SoFar). w.pieces) walked ∙ ap (λ ps. ps ++ y.pieces) r.so_pieces;
      so_ends = ap (λ (w : SoFar). w.ends) walked ∙ ap (λ es. es ++ e ∷ []) r.so_ends;
      up = λ k. ap (λ (w : SoFar). w.down k) walked ∙ up_after s.down x.todo command y.pieces todo (λ i. refl) (λ i. refl) r.up k;
      trail =
          d.whole ∙ ap (λ acts. acts ++ y.acts) r.trail ∙ append_assoc opening (flat_map (λ (a : Added). a.acts) r.added) y.acts
          ∙ ap (λ acts. opening ++ acts) (sym (added_more (λ (a : Added). a.acts) r.added y));
      all_pieces = ap (λ ps. ps ++ y.pieces) r.all_pieces ∙ sym (added_more (λ (a : Added). a.pieces) r.added y);
      all_ends = ap (λ es. es ++ e ∷ []) r.all_ends ∙ sym (added_more (λ (a : Added). a.ends) r.added y);
      breaks =
          ap (λ (c : Causes). c.unexplained)
          (causes-more l (after_opening opening) no_causes xs r.added x y r.lines_add ∙ whole_acts l (with_causes (causes_after no_causes xs r.added) x y) y.acts quiet)
          ∙ r.breaks;
      failed = ap (flat_map range_of) d.whole ∙ more_none l range_of old y.acts [] (λ a q. q.failed) quiet r.failed;
      opened = ap (flat_map opened_in) d.whole ∙ more_none l opened_in old y.acts (flat_map opened_in opening) (λ a q. q.opened) quiet r.opened;
      found = ap (flat_map found_of) d.whole ∙ more_none l found_of old y.acts (flat_map found_of opening) (λ a q. found_none a q.opened) quiet r.found;
      kept = ap (flat_map loss_of) d.whole ∙ more_none l loss_of old y.acts (flat_map loss_of opening) (λ a q. q.kept) quiet r.kept;
      reads =
          subst (AllByRecursion IsReadFree) (sym (ap (moments l) d.whole ∙ moments-more l 0 start old y.acts))
          (all_both IsReadFree (moments l old) (moments_from l (0 + length old) (after_all l start old) y.acts) r.reads
          (line_reads l x.line (0 + length old) (after_all l start old) d.before d.after did.act d.served_before d.its d.served_after
          (subst (λ p. (p.job_at 0).rollback_only ≡ false) (after_all-append l start old d.before) d.free)));
      all_answers =
          omega
          (arith, ap length (flat_map-append answer_in pieces y.pieces), length-append (answers_in pieces) (answers_in y.pieces), length-append pieces y.pieces, r.all_answers, ap length adds.answers);
      declared = subst (AllByRecursion (IsDeclared l)) (sym d.whole) (all_both (IsDeclared l) old y.acts r.declared (all_so (IsQuiet l) (IsDeclared l) y.acts (λ a q. q.declared) quiet));
      printed = subst AllCanPrint (sym d.whole) (all_both CanPrintAct old y.acts r.printed (all_so (IsQuiet l) CanPrintAct y.acts (λ a q. q.printed) quiet));
      answered = all_both CanPrintPiece pieces y.pieces r.answered (answer_can x.line command did.act answer did.makes d.its.quiet.printed, tt);
      rising = AreRising-more 0 (length old) r.ends e (omega arith) (omega arith) r.below r.rising;
      below =
          all_both (λ (z : Ended). z.place < length new) r.ends (e ∷ [])
          (below_more (length old) (length new) r.ends (omega (arith, ap length d.whole, length-append old y.acts)) r.below)
          (omega (arith, ap length d.whole, length-append old y.acts, length-append d.before (did.act ∷ d.after)), tt);
      answers =
          flat_map-append answer_in pieces y.pieces ∙ ap (λ xs. xs ++ answers_in y.pieces) r.answers ∙ ap (λ xs. map answer_line r.ends ++ xs) adds.answers
          ∙ sym (map-append answer_line r.ends (e ∷ []));
      jobs = jobs;
    }

-- one line more: nothing
still_line : (l : Layout) (opening : List Act) (xs : List ScriptLine) (x : ScriptLine) (job : ℕ) (acts : List Act) (pieces : List Piece) → IsRunTo l opening xs acts pieces → x.todo ≡ Await job → IsRunTo l opening (xs ++ x ∷ []) acts pieces
still_line l opening xs x job acts pieces r todo =
    let y : Added = record { acts = []; pieces = []; ends = [] } in
    let s : SoFar = walk (after_opening opening) xs r.added in
    let same : ((j : ℕ) → commands_of j (xs ++ x ∷ []) ≡ commands_of j xs) = (λ j. commands_more j xs x (Await job) todo ∙ append-nil (commands_of j xs)) in
    let jobs : ((j : ℕ) → (left : Past) × AreDone l j no_past (commands_of j (xs ++ x ∷ [])) (moments_of j (moments l acts)) (ended_of j r.ends) left) =
    (λ j. let (left, done) = r.jobs j in (left, subst (λ cs. AreDone l j no_past cs (moments_of j (moments l acts)) (ended_of j r.ends) left) (sym (same j)) done)) in
    let counts : ((j : ℕ) → length (ended_of j (r.ends ++ [])) ≡ length (commands_of j (xs ++ x ∷ []))) =
    (λ j. ap (λ es. length (ended_of j es)) (append-nil r.ends) ∙ counted l (xs ++ x ∷ []) acts r.ends jobs j) in
    let adds : LineAdds l s x y = still_adds l s x job todo (told_more l s x y xs r.ends r.so_lines r.so_ends counts) in
    let walked : walk (after_opening opening) (xs ++ x ∷ []) (r.added ++ y ∷ []) ≡ with_line s x y = walk-more l (after_opening opening) xs r.added x y r.lines_add in
    record {
      added = r.added ++ y ∷ [];
      ends = r.ends;
      lines_add = LinesAdd-more l (after_opening opening) xs r.added x y r.lines_add adds;
      so_lines = ap (λ (w : SoFar). w.lines) walked ∙ ap (λ ls. ls ++ x ∷ []) r.so_lines;
      so_acts = ap (λ (w : SoFar). w.acts) walked ∙ append-nil s.acts ∙ r.so_acts;
      so_pieces = ap (λ (w : SoFar). w.pieces) walked ∙ append-nil s.pieces ∙ r.so_pieces;
      so_ends = ap (λ (w : SoFar). w.ends) walked ∙ append-nil s.ends ∙ r.so_ends;
      up = λ k. ap (λ (w : SoFar). w.down k) walked ∙ ap (λ t. down_after s.down t [] k) todo ∙ ap (λ b. b || false) (r.up k);
      trail = r.trail ∙ ap (λ acts. opening ++ acts) (sym (added_more (λ (a : Added). a.acts) r.added y ∙ append-nil (flat_map (λ (a : Added). a.acts) r.added)));
      all_pieces = r.all_pieces ∙ sym (added_more (λ (a : Added). a.pieces) r.added y ∙ append-nil (flat_map (λ (a : Added). a.pieces) r.added));
      all_ends = r.all_ends ∙ sym (added_more (λ (a : Added). a.ends) r.added y ∙ append-nil (flat_map (λ (a : Added). a.ends) r.added));
      breaks = ap (λ (c : Causes). c.unexplained) (causes-more l (after_opening opening) no_causes xs r.added x y r.lines_add) ∙ r.breaks;
      failed = r.failed;
      opened = r.opened;
      found = r.found;
      kept = r.kept;
      all_answers = r.all_answers;
      reads = r.reads;
      declared = r.declared;
      printed = r.printed;
      answered = r.answered;
      rising = r.rising;
      below = r.below;
      answers = r.answers;
      jobs = jobs;
    }

-- one more line taken
take-more : (lines : List ScriptLine) (i : ℕ) (line : ScriptLine) → i < length lines → line ≡ get_or lines i line → take (i + 1) lines ≡ take i lines ++ line ∷ []
take-more lines i line low is = ap (λ n. take n lines) (add-one i) ∙ go lines i low is
  where
    go : (xs : List ScriptLine) (n : ℕ) → n < length xs → line ≡ get_or xs n line → take (suc n) xs ≡ take n xs ++ line ∷ []
    go [] n low is = absurd (omega arith)
    go (x ∷ xs) zero low is = ap (λ y. y ∷ []) (sym is)
    go (x ∷ xs) (suc n) low is = ap (λ ys. x ∷ ys) (go xs n (omega arith) is)

-- one line more
pub run_more : (l : Layout) (opening : List Act) (lines : List ScriptLine) (i : ℕ) (line : ScriptLine) (old new : List Act) (pieces : List Piece) (more : List AnswerLine)
    → i < length lines → line ≡ get_or lines i line → TodoRuns l line.todo → (state_after l old).died_at 0 ≡ false → IsRunTo l opening (take i lines) old pieces → DidTodo l line.line line.todo old new more
    → IsRunTo l opening (take (i + 1) lines) new (pieces ++ pieces_of more)
run_more l opening lines i line old new pieces more low is runs alive r did = subst (λ ls. IsRunTo l opening ls new (pieces ++ pieces_of more)) (sym (take-more lines i line low is)) (go line.todo refl runs did)
  where
    go : (todo : Todo) → line.todo ≡ todo → TodoRuns l todo → DidTodo l line.line todo old new more → IsRunTo l opening (take i lines ++ line ∷ []) new (pieces ++ pieces_of more)
    go (Job job command) e may (answer, done, its) =
        subst (λ ms. IsRunTo l opening (take i lines ++ line ∷ []) new (pieces ++ pieces_of ms)) (sym its)
        (job_line l opening (take i lines) line command old new pieces answer r (e ∙ ap (λ n. Job n command) may.1) may.0 alive done)
    go (Await job) e may did =
        subst (λ ms. IsRunTo l opening (take i lines ++ line ∷ []) new (pieces ++ pieces_of ms)) (sym did.1)
        (subst (λ ps. IsRunTo l opening (take i lines ++ line ∷ []) new ps) (sym (append-nil pieces))
        (subst (λ acts. IsRunTo l opening (take i lines ++ line ∷ []) acts pieces) (sym did.0) (still_line l opening (take i lines) line job old pieces r e)))
    go _ e may did = absurd may

-- all lines
pub fits_all : (script : Script) (opening : List Act) (out : Output) (acts : List Act) (pieces : List Piece) → flat_map opened_in opening ≡ range_with_len 0 script.layout.servers → AllByRecursion IsOpening opening
    → AllByRecursion (λ d. length (filter (λ o. o == d) (range_with_len 0 script.layout.servers)) ≡ 1) (range_with_len 0 script.layout.servers)
    → IsRunTo script.layout opening script.lines acts pieces → out.trail ≡ acts → out.pieces.items ≡ pieces → Fits script [] out
fits_all script opening out acts pieces begins openings once r t p = record {
  ends = r.ends;
  jobs = record {
    declared = subst (AllByRecursion (IsDeclared script.layout)) (sym t) r.declared;
    opened = subst (λ os. AllByRecursion (λ d. length (filter (λ o. o == d) os) ≡ 1) (range_with_len 0 script.layout.servers)) (sym (ap (flat_map opened_in) t ∙ r.opened ∙ begins)) once;
    jobs = λ j. let (left, done) = r.jobs j in record {
      done = commands_of j script.lines;
      rest = [];
      its = moments_of j (moments script.layout acts);
      begun = [];
      left = left;
      lines = sym (append-nil (commands_of j script.lines));
      whole = ap (λ acts. moments_of j (moments script.layout acts)) t ∙ sym (append-nil (moments_of j (moments script.layout acts)));
      each = done;
      last = refl;
    };
    rising = r.rising;
    answers = ap answers_in p ∙ r.answers;
  };
  lines = record {
    opening = opening;
    added = r.added;
    begins = openings;
    in_order = begins;
    trail = t ∙ r.trail;
    pieces = p ∙ r.all_pieces;
    whole = r.all_ends;
    lines = r.lines_add;
    over = λ j. inr (none_open (commands_of j script.lines) (length (ended_of j r.ends)) (λ c. has_wait j c.line out.pieces.items ≡ true) (counted script.layout script.lines acts r.ends r.jobs j));
    reads = subst (λ acts. AllByRecursion IsReadFree (moments script.layout acts)) (sym t) r.reads;
    one = omega arith;
    breaks = inr (omega (arith, r.breaks));
    failed = subst (AllByRecursion (λ q. Any (LiesIn q) [])) (sym (ap (flat_map range_of) t ∙ r.failed)) tt;
    apart = subst AreApart (sym (ap (flat_map range_of) t ∙ r.failed)) tt;
  };
}

-- nothing came from outside
pub undisturbed : (l : Layout) (opening : List Act) (lines : List ScriptLine) (out : Output) (acts : List Act) (pieces : List Piece) → flat_map found_of opening ≡ [] → flat_map loss_of opening ≡ [] → IsRunTo l opening lines acts pieces
    → out.trail ≡ acts → out.pieces.items ≡ pieces → IsUndisturbed out
undisturbed l opening lines out acts pieces fresh kept r t p = record {
  fresh = ap (flat_map found_of) t ∙ r.found ∙ fresh;
  kept = ap (flat_map loss_of) t ∙ r.kept ∙ kept;
  answered = subst (λ ps. length (answers_in ps) ≡ length ps) (sym p) r.all_answers;
}

-- where there is no data server no line does anything
pub none_run : (l : Layout) (done lines : List ScriptLine) → l.servers ≡ 0 → AllByRecursion (λ (x : ScriptLine). TodoRuns l x.todo) lines → IsRunTo l [] done [] [] → IsRunTo l [] (done ++ lines) [] []
none_run l done [] none runs r = subst (λ ls. IsRunTo l [] ls [] []) (sym (append-nil done)) r
none_run l done (x ∷ lines) none runs r = subst (λ ls. IsRunTo l [] ls [] []) (append_assoc done (x ∷ []) lines) (none_run l (done ++ x ∷ []) lines none runs.1 (go x.todo refl runs.0))
  where
    go : (todo : Todo) → x.todo ≡ todo → TodoRuns l todo → IsRunTo l [] (done ++ x ∷ []) [] []
    go (Job job command) e may = absurd (omega (arith, none, may.0.server))
    go (Await job) e may = still_line l [] done x job [] [] r e
    go _ e may = absurd may

-- one data server at most begins once
once : (n : ℕ) → n ≤ 1 → AllByRecursion (λ d. length (filter (λ o. o == d) (range_with_len 0 n)) ≡ 1) (range_with_len 0 n)
once zero few = tt
once (suc zero) few = (refl, tt)
once (suc (suc n)) few = absurd (omega (arith, few))

-- it is the first
first_of_one : (n : ℕ) → n ≤ 1 → n ≢ 0 → 0 ∷ [] ≡ range_with_len 0 n
first_of_one zero few some = absurd (some refl)
first_of_one (suc zero) few some = refl
first_of_one (suc (suc n)) few some = absurd (omega (arith, few))

-- a script without a data server
pub fits_none : (script : Script) (out : Output) → script.layout.servers ≡ 0 → CanRun script → out.trail ≡ [] → out.pieces.items ≡ [] → Fits script [] out
fits_none script out none runs t p =
    fits_all script [] out [] [] (sym (ap (range_with_len 0) none)) tt (once script.layout.servers runs.few)
    (none_run script.layout [] script.lines none (recursion_from_All (λ (x : ScriptLine). TodoRuns script.layout x.todo) script.lines runs.lines) (run_none script.layout [] tt tt tt refl (λ j. refl))) t p

-- a script with one
pub fits_one : (script : Script) (out : Output) (acts : List Act) (pieces : List Piece) → script.layout.servers ≢ 0 → CanRun script → IsRunTo script.layout (Opened 0 [] ∷ []) script.lines acts pieces → out.trail ≡ acts → out.pieces.items ≡ pieces → Fits script [] out
fits_one script out acts pieces some runs r t p =
    fits_all script (Opened 0 [] ∷ []) out acts pieces (first_of_one script.layout.servers runs.few some) (refl, tt) (once script.layout.servers runs.few) r t p

-- the opening of a script with one
pub run_opened : (l : Layout) → l.servers ≢ 0 → IsRunTo l (Opened 0 [] ∷ []) [] (Opened 0 [] ∷ []) []
run_opened l some = run_none l (Opened 0 [] ∷ []) (tt, tt) (omega (arith, some), tt) (tt, tt) refl (λ j. refl)

-- each line can be run
pub one_runs : (l : Layout) (lines : List ScriptLine) (i : ℕ) (line : ScriptLine) → i < length lines → line ≡ get_or lines i line → All (λ (x : ScriptLine). TodoRuns l x.todo) lines → TodoRuns l line.todo
one_runs l lines i line low is runs = go lines i low is (recursion_from_All (λ (x : ScriptLine). TodoRuns l x.todo) lines runs)
  where
    go : (xs : List ScriptLine) (n : ℕ) → n < length xs → line ≡ get_or xs n line → AllByRecursion (λ (x : ScriptLine). TodoRuns l x.todo) xs → TodoRuns l line.todo
    go [] n low is may = absurd (omega arith)
    go (x ∷ xs) zero low is may = subst (λ (y : ScriptLine). TodoRuns l y.todo) (sym is) may.0
    go (x ∷ xs) (suc n) low is may = go xs n (omega arith) is may.1

-- lines taken up to their end are all of them
pub taken_all : (lines : List ScriptLine) (n : ℕ) → length lines ≤ n → take n lines ≡ lines
taken_all [] zero low = refl
taken_all [] (suc n) low = refl
taken_all (x ∷ lines) zero low = absurd (omega arith)
taken_all (x ∷ lines) (suc n) low = ap (λ xs. x ∷ xs) (taken_all lines n (omega arith))
