-- Examples of entries of which just one condition fails after an ordered list.
use Rattle.std.proofs.Common.{◌≡◌, ℕ, [], ◌+◌, refl, arith, rules}
use Rattle.plain_orders.specs.declared.entry.Entry.TheVariants.{Epoch}
use Rattle.plain_orders.specs.declared.limits.TheConstants.{EPOCH_END}
use Rattle.plain_orders.specs.Ordered.{IsOrdered}
use Rattle.plain_examples.specs.EntryExamples.{EntryExamples, FailsBehind, one_epoch, one_open, one_update, one_commit, two_opens, one_close}
use Rattle.plain_examples.specs.Leads.{epochs}
use Rattle.plain_examples.proofs.Keys.{no_empty_key, x_key, x_may, long_key_is_key}
use Rattle.plain_examples.proofs.LeadRuns.{epochs_last, epochs_ordered}

one_epoch_ordered : IsOrdered one_epoch
one_epoch_ordered = (record { is_next = refl; in_range = omega arith }, tt)

one_open_ordered : IsOrdered one_open
one_open_ordered = (record { is_next = refl; in_range = omega arith }, (record { is_started = λ e. omega (arith, e); is_position = refl; is_free = refl }, tt))

one_update_ordered : IsOrdered one_update
one_update_ordered = (
  record { is_next = refl; in_range = omega arith },
  (record { is_started = λ e. omega (arith, e); is_position = refl; is_free = refl }, (record { is_live = refl; is_next = refl; within = record { key_may = x_may; within = omega arith } }, tt)),
)

one_commit_ordered : IsOrdered one_commit
one_commit_ordered = (record { is_next = refl; in_range = omega arith }, (record { is_started = λ e. omega (arith, e); is_position = refl; is_free = refl }, (record { is_live = refl; is_next = refl; within = record { key_may = x_may; within = omega arith } }, (record { is_live = refl; is_next = refl; is_begun = refl }, tt))))

two_opens_ordered : IsOrdered two_opens
two_opens_ordered = (record { is_next = refl; in_range = omega arith }, (record { is_started = λ e. omega (arith, e); is_position = refl; is_free = refl }, (record { is_live = refl; is_next = refl; within = record { key_may = x_may; within = omega arith } }, (record { is_started = λ e. omega (arith, e); is_position = refl; is_free = refl }, tt))))

one_close_ordered : IsOrdered one_close
one_close_ordered = (record { is_next = refl; in_range = omega arith }, (record { is_started = λ e. omega (arith, e); is_position = refl; is_free = refl }, (record { is_live = refl }, tt)))

last_epochs : (n : ℕ) → n + 1 ≡ EPOCH_END → FailsBehind 1 (epochs 0 n) (Epoch (n + 1))
last_epochs n same = (epochs_ordered [] 0 n refl (omega (arith, same)), (omega (arith, epochs_last 0 n), ((λ e. omega (arith, e, same)), tt)))

pub entry_examples : EntryExamples
entry_examples = (
  (tt, search (rules, x_key)),
  (one_epoch_ordered, search (rules, x_key)),
  (tt, ((λ h. h refl), (refl, (refl, tt)))),
  (one_epoch_ordered, search (rules, x_key)),
  (one_open_ordered, search (rules, x_key)),
  (one_epoch_ordered, search (rules, x_key)),
  (one_close_ordered, search (rules, x_key)),
  (one_epoch_ordered, search (rules, x_key)),
  (one_open_ordered, search (rules, x_key)),
  (one_open_ordered, (refl, (refl, (no_empty_key, (omega arith, (omega arith, tt)))))),
  (one_open_ordered, (refl, (refl, (long_key_is_key, ((λ h. omega (arith, h)), (omega arith, tt)))))),
  (one_open_ordered, (refl, (refl, (x_key, (omega arith, ((λ h. omega (arith, h)), tt)))))),
  (one_epoch_ordered, search (rules, x_key)),
  (one_open_ordered, search (rules, x_key)),
  (one_open_ordered, (refl, (refl, (no_empty_key, (omega arith, tt))))),
  (one_open_ordered, (refl, (refl, (long_key_is_key, ((λ h. omega (arith, h)), tt))))),
  (one_epoch_ordered, search (rules, x_key)),
  (one_open_ordered, search (rules, x_key)),
  (one_open_ordered, (refl, (refl, (no_empty_key, (omega arith, (refl, (omega arith, tt))))))),
  (one_open_ordered, (refl, (refl, (long_key_is_key, ((λ h. omega (arith, h)), (refl, (omega arith, tt))))))),
  (one_open_ordered, (refl, (refl, (x_key, (omega arith, ((λ h. omega (arith, h)), (omega arith, tt))))))),
  (one_open_ordered, (refl, (refl, (x_key, (omega arith, (refl, ((λ h. omega (arith, h)), tt))))))),
  (one_update_ordered, search (rules, x_key)),
  (one_update_ordered, search (rules, x_key)),
  (one_update_ordered, search (rules, x_key)),
  (two_opens_ordered, search (rules, x_key)),
  (one_commit_ordered, search (rules, x_key)),
  (one_update_ordered, search (rules, x_key)),
  (one_update_ordered, search (rules, x_key)),
  (one_update_ordered, search (rules, x_key)),
  (two_opens_ordered, search (rules, x_key)),
  (one_commit_ordered, search (rules, x_key)),
  last_epochs,
)
