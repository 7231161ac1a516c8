-- Examples of the inputs of an application server's end; and of inputs that are refused since one condition fails: it is named above each.
use Rattle.std.proofs.Common.{ℕ, refl, inl, inr, arith, false}
use Rattle.plain_orders.specs.declared.act.Act.TheVariants.{Lose, Met, Told}
use Rattle.plain_orders.specs.declared.causes.Loss.TheVariants as losses
use Rattle.plain_orders.specs.declared.refused.LinkName.TheVariants as names
use Rattle.link_states.specs.declared.link_event.LinkEvent.TheVariants.{Welcomed}
use Rattle.app_job.specs.declared.reason.Reason.TheVariants as reasons
use Rattle.end_words.specs.Windows.{resent}
use Rattle.app_rules.specs.AppState.{Session}
use Rattle.app_rules.specs.Works.{Sofar, begun, cuts, writes, becomes, happens, sets, puts_all, synced_up, with_line}
use Rattle.app_rules.specs.declared.line.Line.TheVariants.{Joined}
use Rattle.app_rules.specs.Losing.{ends_it, loses}
use Rattle.app_rules.specs.Welcoming.{met, sends_again, settles_unless, told_puts, in_epoch}
use Rattle.app_rules.specs.Delivering.{goes_normal}
use Rattle.app_rules.specs.Downs.{took}
use Rattle.app_examples.specs.Apps.{app_with, greeting, head, issued, unused, asking_with}
use Rattle.app_examples.specs.EndExamples.{HelloExamples, RecoverExamples, EpochExamples, busy, busy_anew}

pub hello_examples : HelloExamples
hello_examples = (
  refl,
  record { known = omega arith; tried = refl },
  refl,
  (λ may. absurd (cc (may.tried))),
  (λ may. omega (arith, may.known)),
  record { tried = record { known = omega arith; tried = refl }; rose = omega arith },
  refl,
  (λ may. omega (arith, may.rose)),
  record {
    taken = happens 0 1 Welcomed (becomes 0 (met 2 1 (head 2 0 0)) (writes (Met 1 0 2) (begun (app_with greeting))));
    takes = inl (record { greeting = refl; above = omega arith; below = omega arith; after = refl });
    after = refl;
  },
  record {
    taken = ends_it 0 1 (begun (app_with (record greeting { told = 2 })));
    takes = inr (inr (inr (record { stray = record { no_new = (λ g a b. omega (arith, a)); no_old = (λ a e. absurd (cc (a.asking))) }; after = refl })));
    after = refl;
  },
  record { taken = ends_it 0 1 (begun (app_with greeting)); takes = refl; after = refl },
  refl,
)

-- what the Welcome of the same epoch leaves
abbrev went_on : Session → (n w s taken : ℕ) → Sofar
went_on x n w s taken =
    settles_unless false 0 12
    (sends_again 0 (resent x.window taken) (sets 0 (synced_up s) (becomes 0 (with_line Joined) (begun (app_with (asking_with x))))))

pub recover_examples : RecoverExamples
recover_examples = (
  refl,
  refl,
  refl,
  refl,
  refl,
  refl,
  refl,
  record {
    taken = went_on issued 3 0 0 0;
    takes = inr (inl (record { asked = record { asking = refl; its = refl; below = omega arith }; same = refl; after = refl }));
    after = refl;
  },
  record {
    taken = went_on issued 3 1 1 1;
    takes = inr (inl (record { asked = record { asking = refl; its = refl; below = omega arith }; same = refl; after = refl }));
    after = refl;
  },
  record {
    taken = ends_it 0 12 (begun (app_with (asking_with issued)));
    takes = inr (inr (inr (record { stray = record { no_new = (λ g a b. absurd (cc (g))); no_old = (λ a e. absurd (cc (a.its))) }; after = refl })));
    after = refl;
  },
  refl,
  record {
    taken = cuts 0 (loses 0 names.Recovery (reasons.Reset 5) (writes (Lose 1 0 (losses.Reset 5)) (begun (app_with (asking_with unused)))));
    takes = inl (record { recovering = refl; its = refl; after = refl });
    after = refl;
  },
  record {
    taken = ends_it 0 12 (begun (app_with (asking_with unused)));
    takes = inr (record { stray = (λ r i. absurd (cc (i))); after = refl });
    after = refl;
  },
)

pub epoch_examples : EpochExamples
epoch_examples = (
  record {
    taken =
        puts_all 0 (told_puts 0 (synced_up 0 busy))
        (sets 0 (in_epoch 2 (head 4 0 0)) (becomes 0 (with_line Joined) (writes (Told 1 0 2 2 3) (begun (app_with (asking_with busy))))));
    takes = inr (inr (inl (record { asked = record { asking = refl; its = refl; below = omega arith }; later = omega arith; after = refl })));
    after = refl;
  },
  record {
    taken = ends_it 0 12 (begun (app_with (asking_with (record busy { epoch = 3 }))));
    takes = inr (inr (inr (record { stray = record { no_new = (λ g a b. absurd (cc (g))); no_old = (λ a e. absurd (cc (e))) }; after = refl })));
    after = refl;
  },
  record {
    taken = goes_normal 0 13 (sets 0 (took 1 3 (head 6 1 1)) (begun (app_with (record (asking_with busy_anew) { line = Joined }))));
    takes = inl (record { ahead = refl; made = refl });
    after = refl;
  },
  record {
    taken = ends_it 0 13 (begun (app_with (record (asking_with busy_anew) { line = Joined })));
    takes = inr (record { why = inl refl; after = refl });
    after = refl;
  },
  record { taken = ends_it 0 13 (begun (app_with (record (asking_with busy_anew) { line = Joined }))); takes = refl; after = refl },
)
