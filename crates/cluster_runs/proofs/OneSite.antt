-- A function that is changed at one place is the same at each other.
use Rattle.std.proofs.Common.{◌≡◌, ◌≢◌, ℕ, ap, sym, subst, if◌then◌else◌}
use Rattle.std.proofs.lemmas.Bool.{ne_eqb}
use Rattle.std.specs.Prelude.{List}
use Rattle.plain_orders.specs.declared.act.Act.{Act}
use Rattle.plain_runs.specs.Plain.{put}
use Rattle.cluster_runs.specs.Machine.{Machine, Site, with_acts}
use Rattle.cluster_runs.specs.Goes.{at_site, server_site, begun_site, halted_site}
use Rattle.cluster_runs.specs.Laws.{OthersKept, StepChangesOne, BeginChangesOne, HaltChangesOne}

put_other : {X : Type 0} (f : ℕ → X) (k : ℕ) (x : X) (q : ℕ) → q ≢ k → put f k x q ≡ f q
put_other f k x q other = ap (λ b. if b then x else f q) (ne_eqb q k other)

-- a site that is changed leaves the others
site_kept : (m : Machine) (server : ℕ) (f : Site → Site) (written : List Act) (n : Machine)
    → n ≡ with_acts written (at_site server f m) → OthersKept m server n
site_kept m server f written n after other unlike =
    subst (λ (x : Machine). x.site_at other ≡ m.site_at other) (sym after) (put_other m.site_at server (f (m.site_at server)) other unlike)

halted_kept : (m : Machine) (server : ℕ) (f : Site → Site) (n : Machine) → n ≡ at_site server f m → OthersKept m server n
halted_kept m server f n after other unlike =
    subst (λ (x : Machine). x.site_at other ≡ m.site_at other) (sym after) (put_other m.site_at server (f (m.site_at server)) other unlike)

pub step_changes_one : StepChangesOne
step_changes_one m server now input outs written n goes = site_kept m server (server_site goes.node now input goes.data_outs goes.state) written n goes.after

pub begin_changes_one : BeginChangesOne
begin_changes_one m server now entries outs written n goes = site_kept m server (begun_site m.layout server now entries) written n goes.after

pub halt_changes_one : HaltChangesOne
halt_changes_one m server outs written n goes = halted_kept m server halted_site n goes.after
