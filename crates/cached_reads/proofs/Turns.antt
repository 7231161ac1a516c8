-- What a turn that only waits or uses runs leaves: the acts that were written and the front.
use Rattle.std.proofs.Common.{◌≡◌, inl, inr, ℕ, zero, suc, Bool, true, false, cond, ◌||◌, List, [], ◌∷◌, Option, Some, None, filter, map, refl, sym, ◌∙◌}
use Rattle.std.specs.Prelude.{get_or, set, unwrap_or}
use Rattle.std.specs.List.{list_any}
use Rattle.std.specs.Option.{option_map}
use Rattle.std.proofs.lemmas.Bool.{false≢true}
use Rattle.subscript_keys.specs.declared.run.Run.{Run}
use Rattle.plain_runs.specs.JobRows.{is_own}
use Rattle.plain_runs.specs.Plain.{Server}
use Rattle.ecp_messages.specs.declared.up.Up.{Up}
use Rattle.ecp_messages.specs.declared.up.Up.TheVariants.{Fetch}
use Rattle.app_rules.specs.AppState.{AppEnd, Session, no_end, no_session}
use Rattle.app_rules.specs.declared.session_parts.Late.{Late}
use Rattle.app_rules.specs.Works.{Sofar, end_at, is_apart, session_of, tells_if, tries_if, with_session}
use Rattle.app_rules.specs.JobState.{Progress, Work, Turn}
use Rattle.app_rules.specs.Issuing.{has_own, is_free, is_late_of, op_in, own_ops, pair_session, tries_if_free, uses_if, waits_state}
use Rattle.app_rules.specs.Reading.{caches, fetches_unless, front_n, is_fetching, via_of, waits_fetch, with_cache}
use Rattle.cached_reads.specs.Reads.{ReadsStand, WritesRead}

-- acts stay where a frame is put
told_acts : (b : Bool) (d seq : ℕ) (m : Up) (x : Sofar) → (tells_if b d seq m x).outs.acts ≡ x.outs.acts
told_acts true d seq m x = refl
told_acts false d seq m x = refl

-- where a run is fetched
fetch_acts : (b : Bool) (d : ℕ) (key : List ℕ) (w : Work) → (fetches_unless b d key w).ends.outs.acts ≡ w.ends.outs.acts
fetch_acts true d key w = refl
fetch_acts false d key w = told_acts _ d _ (Fetch key) _

pub wait_acts : (d : ℕ) (key : List ℕ) (w : Work) → (waits_fetch d key w).work.ends.outs.acts ≡ w.ends.outs.acts
wait_acts d key w = fetch_acts (is_fetching w d key) d key w

-- where a connection is tried
tried_acts : (b : Bool) (d : ℕ) (x : Sofar) → (tries_if b d x).outs.acts ≡ x.outs.acts
tried_acts true d x = refl
tried_acts false d x = refl

free_acts : (b : Bool) (d : ℕ) (x : Sofar) → (tries_if_free b d x).outs.acts ≡ x.outs.acts
free_acts true d x = tried_acts (is_apart (end_at x.state d).line) d x
free_acts false d x = refl

used_acts : (o : Option ℕ) (d : ℕ) (w : Work) → (uses_if o d w).ends.outs.acts ≡ w.ends.outs.acts
used_acts None d w = refl
used_acts (Some s) d w = refl

-- and where the connection is waited for
pub state_acts : (d : ℕ) (w : Work) → (waits_state d w).work.ends.outs.acts ≡ w.ends.outs.acts
state_acts d w =
    free_acts (is_free (end_at w.ends.state d).link) d (uses_if (pair_session w.ends.state d) d w).ends
    ∙ used_acts (pair_session w.ends.state d) d w

-- the front's length of an end
abbrev n_of : AppEnd → ℕ
n_of e = (session_of e).n

cache_kept : (runs : List Run) (o : Option Session) → (unwrap_or (option_map (with_cache runs) o) no_session).n ≡ (unwrap_or o no_session).n
cache_kept runs None = refl
cache_kept runs (Some s) = refl

end_kept : (f : AppEnd → AppEnd) → ((e : AppEnd) → n_of (f e) ≡ n_of e) → (es : List AppEnd) (d : ℕ)
    → n_of (get_or (set es d (f (get_or es d no_end))) d no_end) ≡ n_of (get_or es d no_end)
end_kept f same [] zero = refl
end_kept f same [] (suc d) = refl
end_kept f same (e ∷ es) zero = same e
end_kept f same (e ∷ es) (suc d) = end_kept f same es d

-- the front stays where runs are used
pub cached_front : (d : ℕ) (runs : List Run) (w : Work) → front_n (caches d runs w) d ≡ front_n w d
cached_front d runs w = end_kept (with_session (with_cache runs)) (λ e. cache_kept runs e.session) w.ends.state.ends d

-- a read from runs is not by own updates
pub not_own : (p : Progress) → is_own (via_of p) ≡ false
not_own p = go p.fetched
  where
    go : (b : Bool) → is_own (via_of (record p { fetched = b })) ≡ false
    go true = refl
    go false = refl

-- where none of the updates on their way is the job's, it has no own ones
none_late : (job : ℕ) (ls : List Late) → list_any (is_late_of job) ls ≡ false → map op_in (filter (is_late_of job) ls) ≡ []
none_late job [] e = refl
none_late job (l ∷ ls) e = go (is_late_of job l) (none_late job ls) e
  where
    go : (b : Bool) → (list_any (is_late_of job) ls ≡ false → map op_in (filter (is_late_of job) ls) ≡ [])
        → (b || list_any (is_late_of job) ls) ≡ false → map op_in (cond b (l ∷ filter (is_late_of job) ls) (filter (is_late_of job) ls)) ≡ []
    go true more e = absurd (false≢true (sym e))
    go false more e = more e

pub no_own : (w : Work) (d : ℕ) → has_own w d ≡ false → own_ops w d ≡ []
no_own w d e = none_late w.job.index _ e

-- what a job's reads stand on stays where its session is used
pub used_stands : (v : Server) (app d : ℕ) (w : Work) (o : Option ℕ) → ReadsStand v app d w → ReadsStand v app d (uses_if o d w)
used_stands v app d w None s = s
used_stands v app d w (Some n) s = record { there = s.there; ordered = s.ordered; within = s.within; seen = s.seen; runs = s.runs; own = s.own }

pub used_writes : (v : Server) (app d : ℕ) (w : Work) (o : Option ℕ) (t : Turn) → WritesRead v app d (uses_if o d w) t → WritesRead v app d w t
used_writes v app d w None t x = x
used_writes v app d w (Some n) t (inl e) = inl e
used_writes v app d w (Some n) t (inr r) = inr (record { via = r.via; question = r.question; written = r.written; may = r.may })
