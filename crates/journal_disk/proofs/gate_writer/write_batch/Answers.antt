use Rattle.std.proofs.Common.{ℕ, ◌+◌, List, length, ◌∙◌, subst}
use Rattle.outer_disk.specs.Disk.{Torn}
use Rattle.journal_disk.specs.Writing.{HasGateOrBatch}
use Rattle.journal_disk.proofs.Moments.{at_some, at_both, one, more}
use Rattle.journal_disk.proofs.Torn.{told_behind, not_yet, torn_behind, torn_gate}
use Rattle.journal_disk.proofs.gate_writer.write_batch.Goals as goal

pub returns-in_err-write_at-2-clause-read : goal.returns-in_err-write_at-2-clause-read
returns-in_err-write_at-2-clause-read g c = λ x e y f.
    let gate = c.args.gate in
    let batch = c.args.batch.now in
    let long = c.requires.within x e in
    let staged = c.sync.ensures.same ∙ told_behind gate x batch long _ _ c.in_ok-write_at.ensures.ok e in
    torn_gate gate x batch long y (at_both (Torn gate 1) _ _ _ _ c.in_err-write_at-2.ensures.err staged f)

pub returns-in_err-write_at-2-clause-any_moment : goal.returns-in_err-write_at-2-clause-any_moment
returns-in_err-write_at-2-clause-any_moment g c = λ x e only.
    let gate = c.args.gate in
    let batch = c.args.batch.now in
    let long = c.requires.within x e in
    let P = HasGateOrBatch gate x batch in
    let moment = g.D.Disk.moment in
    let since = g.D.Disk.left_since in
    let may = g.D.Disk.may_leave in
    let staged = c.sync.ensures.same ∙ told_behind gate x batch long _ _ c.in_ok-write_at.ensures.ok e in
    let only_staged = at_some _ _ _ c.in_ok-sync.ensures.ok staged in
    let before : (b : List ℕ) → may c.args.disk.now b → P b = λ b left. not_yet gate x batch long b (only b left) in
    let first : (b : List ℕ) → may c.write_at.new.self b → P b = λ b left.
    let from = c.write_at.ensures.crash b left in
    torn_behind gate x batch long (length batch) b (subst (λ d. Torn (gate + 1) (length batch) d b) (only from.0 from.1) from.2) in
    let second : (b : List ℕ) → may c.write_at-2.new.self b → P b = λ b left.
    let from = c.write_at-2.ensures.crash b left in
    torn_gate gate x batch long b (subst (λ d. Torn gate 1 d b) (only_staged from.0 from.1) from.2) in
    let behind = one moment since may c.args.disk.now c.write_at.new.self P (g.met.D.Disk.only_now c.args.disk.now) c.write_at.ensures.time before first in
    let kept = more moment since may c.args.disk.now c.write_at.new.self c.sync.new.self P behind c.sync.ensures.time (λ b left. first b (c.sync.ensures.crash b left)) in
    more moment since may c.args.disk.now c.sync.new.self c.write_at-2.new.self P kept c.write_at-2.ensures.time second

pub returns-clause-any_moment : goal.returns-clause-any_moment
returns-clause-any_moment g c = λ x e only.
    let gate = c.args.gate in
    let batch = c.args.batch.now in
    let long = c.requires.within x e in
    let P = HasGateOrBatch gate x batch in
    let moment = g.D.Disk.moment in
    let since = g.D.Disk.left_since in
    let may = g.D.Disk.may_leave in
    let staged = c.sync.ensures.same ∙ told_behind gate x batch long _ _ c.in_ok-write_at.ensures.ok e in
    let only_staged = at_some _ _ _ c.in_ok-sync.ensures.ok staged in
    let before : (b : List ℕ) → may c.args.disk.now b → P b = λ b left. not_yet gate x batch long b (only b left) in
    let first : (b : List ℕ) → may c.write_at.new.self b → P b = λ b left.
    let from = c.write_at.ensures.crash b left in
    torn_behind gate x batch long (length batch) b (subst (λ d. Torn (gate + 1) (length batch) d b) (only from.0 from.1) from.2) in
    let second : (b : List ℕ) → may c.write_at-2.new.self b → P b = λ b left.
    let from = c.write_at-2.ensures.crash b left in
    torn_gate gate x batch long b (subst (λ d. Torn gate 1 d b) (only_staged from.0 from.1) from.2) in
    let behind = one moment since may c.args.disk.now c.write_at.new.self P (g.met.D.Disk.only_now c.args.disk.now) c.write_at.ensures.time before first in
    let kept = more moment since may c.args.disk.now c.write_at.new.self c.sync.new.self P behind c.sync.ensures.time (λ b left. first b (c.sync.ensures.crash b left)) in
    let opened = more moment since may c.args.disk.now c.sync.new.self c.write_at-2.new.self P kept c.write_at-2.ensures.time second in
    more moment since may c.args.disk.now c.write_at-2.new.self c.sync-2.new.self P opened c.sync-2.ensures.time (λ b left. second b (c.sync-2.ensures.crash b left))
