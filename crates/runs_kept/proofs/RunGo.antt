-- What holds of the acts of a data server's step so far: orders and ends let each of them come.
use Rattle.std.proofs.Common.{◌≡◌, ◌≤◌, ℕ, true, List, [], ◌∷◌, ◌++◌, sym, ◌∙◌, ap, subst}
use Rattle.std.specs.Prelude.{map}
use Rattle.std.specs.List.{AllByRecursion}
use Rattle.std.proofs.lemmas.List.{append-nil}
use Rattle.plain_orders.specs.declared.act.Act.{Act}
use Rattle.plain_orders.specs.declared.layout.Layout.{Layout}
use Rattle.plain_runs.specs.Plain.{Plain}
use Rattle.plain_runs.specs.Run.{after_all}
use Rattle.plain_runs.proofs.RunLemmas.{after_all-append}
use Rattle.data_rules.specs.Puts.{Sofar}
use Rattle.cluster_runs.specs.Steps.{raised}
use Rattle.data_pieces.proofs.PlainView.{view}
use Rattle.runs_kept.proofs.ActsGo.{Kept, all_keep, is_data, raised_data, raised_joined}
use Rattle.runs_kept.proofs.LockRows.{WritesRows, act_of, rows_data, rows_now}
use Rattle.runs_kept.proofs.NowFrom.{MayNow, NowFrom, now_joined}

-- the acts so far, what moment it is, and that the server has an order, which is synced so far at least
pub record NowGo (l : Layout) (p : Plain) (d k now saved : ℕ) (b : Sofar) : Type 0 where
  pub run : NowFrom l p (raised k b.outs.acts)
  pub clock : now ≡ (after_all l p (raised k b.outs.acts)).clock
  pub opened : (view l p d k b.outs.acts).opened ≡ true
  pub no_less : saved ≤ (view l p d k b.outs.acts).synced

-- what a small change adds
pub record Adds (l : Layout) (p : Plain) (k : ℕ) (b c : Sofar) : Type 0 where
  pub more : List Act
  pub acts : c.outs.acts ≡ b.outs.acts ++ more
  pub plain : AllByRecursion (λ a. is_data a ≡ true) more
  pub run : NowFrom l (after_all l p (raised k b.outs.acts)) more

pub adds_go : (l : Layout) (p : Plain) (d k now saved : ℕ) (b c : Sofar) → Adds l p k b c → NowGo l p d k now saved b → NowGo l p d k now saved c
adds_go l p d k now saved b c a h = go (all_keep l (after_all l p (raised k b.outs.acts)) a.more a.plain)
  where
    acts : raised k c.outs.acts ≡ raised k b.outs.acts ++ a.more
    acts = ap (raised k) a.acts ∙ raised_joined k b.outs.acts a.more ∙ ap (λ (ys : List Act). raised k b.outs.acts ++ ys) (raised_data k a.more a.plain)

    plain : after_all l p (raised k c.outs.acts) ≡ after_all l (after_all l p (raised k b.outs.acts)) a.more
    plain = ap (after_all l p) acts ∙ after_all-append l p (raised k b.outs.acts) a.more

    go : Kept (after_all l p (raised k b.outs.acts)) (after_all l (after_all l p (raised k b.outs.acts)) a.more) → NowGo l p d k now saved c
    go kept = record {
      run = subst (NowFrom l p) (sym acts) (now_joined l p (raised k b.outs.acts) a.more h.run a.run);
      clock = h.clock ∙ sym kept.clock ∙ sym (ap (λ (q : Plain). q.clock) plain);
      opened = ap (λ (q : Plain). (q.server_at d).opened) plain ∙ kept.opened d h.opened;
      no_less = subst (λ (m : ℕ). saved ≤ m) (sym (ap (λ (q : Plain). (q.server_at d).synced) plain ∙ kept.synced d)) h.no_less;
    }

-- no act
pub same_adds : (l : Layout) (p : Plain) (k : ℕ) (b c : Sofar) → c.outs.acts ≡ b.outs.acts → Adds l p k b c
same_adds l p k b c same = record { more = []; acts = same ∙ sym (append-nil b.outs.acts); plain = tt; run = tt }

-- one
pub one_adds : (l : Layout) (p : Plain) (k : ℕ) (b c : Sofar) (a : Act) → c.outs.acts ≡ b.outs.acts ++ a ∷ [] → is_data a ≡ true → MayNow l (after_all l p (raised k b.outs.acts)) a → Adds l p k b c
one_adds l p k b c a acts its may = record { more = a ∷ []; acts = acts; plain = (its, tt); run = (may, tt) }

-- grants and holds that end
pub rows_adds : (l : Layout) (p : Plain) (k : ℕ) (b c : Sofar) → WritesRows b c → Adds l p k b c
rows_adds l p k b c w = record {
  more = map act_of w.rows;
  acts = w.acts;
  plain = rows_data w.rows;
  run = rows_now l (after_all l p (raised k b.outs.acts)) w.rows;
}
