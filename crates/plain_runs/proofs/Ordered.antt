-- Each order of a run is an ordered list.
use Rattle.std.proofs.Common.{◌≡◌, ◌≢◌, ℕ, zero, suc, ◌+◌, ◌-◌, List, [], ◌∷◌, ◌++◌, take, drop, refl, subst, sym, ap, ◌∙◌, Bool, true, ◌==◌, if◌then◌else◌, arith, append_assoc, Option, Some, None, slice_get}
use Rattle.std.specs.Prelude.{is_some}
use Rattle.std.specs.Option.{option_map}
use Rattle.std.proofs.lemmas.Bool.{and_parts}
use Rattle.std.proofs.lemmas.List.{append-nil, take-append-drop}
use Rattle.std.proofs.lemmas.Option.{same_Some}
use Rattle.plain_orders.specs.declared.act.Act.{Act}
use Rattle.plain_orders.specs.declared.act.Act.TheVariants.{Opened, Enter, Synced, Shut, Release, Met, Told, Back, Crash, Issue, Read, Grant, Granted, GiveUp, Quit, Free, Counted, NotWhole, Range, Committed, RolledBack, Reached, Level, Done, Refused, Broke, Mended, Tick, Lose, Died}
use Rattle.plain_orders.specs.declared.refused.Refused.{Refused as Refusal}
use Rattle.plain_orders.specs.declared.refused.Refused.TheVariants.{NoTransaction, TooDeep, RollbackOnly, LockTimeout, Network}
use Rattle.plain_orders.specs.declared.causes.Loss.{Loss}
use Rattle.plain_orders.specs.declared.causes.Loss.TheVariants.{Reset as ByReset, Expired as ByExpired, NoWay as ByNoWay}
use Rattle.plain_orders.specs.declared.causes.PairEnd.{PairEnd}
use Rattle.plain_orders.specs.declared.causes.PairEnd.TheVariants.{App as AppEnd, Server as ServerEnd}
use Rattle.plain_orders.specs.declared.entry.Entry.{Entry}
use Rattle.plain_orders.specs.declared.entry.Entry.TheVariants.{Epoch, Opened as OpenedEntry, Closed, Update, Commit, Rollback}
use Rattle.plain_orders.specs.declared.item.Item.{Item}
use Rattle.plain_orders.specs.declared.item.Item.TheVariants.{Op, Commit as CommitItem, Rollback as RollbackItem}
use Rattle.plain_orders.specs.declared.op.Op.{Op as Operation}
use Rattle.plain_orders.specs.declared.op.Op.TheVariants.{Set, Kill, Add}
use Rattle.plain_orders.specs.declared.layout.Layout.{Layout}
use Rattle.plain_orders.specs.Entries.{count, last_epoch, live}
use Rattle.plain_orders.specs.Fold.{fold, is_begun}
use Rattle.plain_orders.specs.Ordered.{IsOrdered, MayFollow, OpMay}
use Rattle.plain_orders.specs.Own.{Issued}
use Rattle.plain_orders.proofs.EntryLemmas.{last_epoch-push}
use Rattle.plain_orders.proofs.OrderLemmas.{ordered-front, ordered-push}
use Rattle.plain_runs.specs.Plain.{Job, Plain, Server, Session, app_of, issued_in, orders, pair_session, start}
use Rattle.plain_runs.specs.Items.{entry_of, entry_of_item}
use Rattle.plain_runs.specs.OrderRows.{CrashMay, EnterMay, ItemMay, OpenedMay, crashed, entered, opened_with}
use Rattle.plain_runs.specs.EndRows.{begun_by, broke, lost, met_by, shut, told_of}
use Rattle.plain_runs.specs.JobRows.{EndMay, IssueMay, ItemIs, issues, pair_issued, refused, txn_of}
use Rattle.plain_runs.specs.Step.{MayCome, after}
use Rattle.plain_runs.specs.Run.{IsRun, RunFrom, after_all}
use Rattle.plain_runs.specs.Laws.{EachIsOrdered, server_after}
use Rattle.plain_runs.proofs.RunLemmas.{at_put}
use Rattle.plain_runs.proofs.Orders.{Each, each-append, each_get}
use Rattle.plain_runs.proofs.OrderLaws.{shut_live}
use Rattle.plain_runs.proofs.HoldRows.{issued_of}
use Rattle.plain_runs.proofs.Issued.{AsIssued, IssuedKept, each_map, row_steps as issued_rows, view}
use Rattle.plain_runs.proofs.BegunItems.{Stand, begun_is, may_end}

-- an item was issued as it may be, after those before it
abbrev ItemWas : ℕ → ℕ → List Issued → Item → Type 0
ItemWas job txn before (Op op) = OpMay txn op
ItemWas job txn before (CommitItem n) = EndMay job n before
ItemWas job txn before (RollbackItem n) = EndMay job n before

abbrev Was : List Issued → Issued → Type 0
Was before i = ItemWas i.job i.txn before i.item

abbrev pub WereFrom : List Issued → List Issued → Type 0
WereFrom before [] = Unit {0}
WereFrom before (i ∷ is) = Was before i × WereFrom (before ++ i ∷ []) is

were-push : (before is : List Issued) (i : Issued) → WereFrom before is → Was (before ++ is) i → WereFrom before (is ++ i ∷ [])
were-push before [] i w here = (subst (λ xs. Was xs i) (append-nil before) here, tt)
were-push before (x ∷ is) i w here = (w.0, were-push (before ++ x ∷ []) is i w.1 (subst (λ xs. Was xs i) (sym (append_assoc before (x ∷ []) is)) here))

was_at : (before is : List Issued) (k : ℕ) (i : Issued) → WereFrom before is → slice_get is k ≡ Some i → Was (before ++ take k is) i
was_at before [] k i w e = absurd (cc (e))
was_at before (x ∷ is) zero i w e = subst (λ y. Was (before ++ []) y) (same_Some x i e) (subst (λ xs. Was xs x) (sym (append-nil before)) w.0)
was_at before (x ∷ is) (suc k) i w e = subst (λ xs. Was xs i) (append_assoc before (x ∷ []) (take k is)) (was_at (before ++ x ∷ []) is k i w.1 e)

-- what the law sees of a server
pub record Written : Type 0 where
  pub opened : Bool
  pub past : List (List Entry)
  pub order : List Entry
  pub ses : ℕ → Option Session

abbrev pub written : Server → Written
written s = record { opened = s.opened; past = s.past; order = s.order; ses = s.session_at }

pub record OrderedKept (v : Written) : Type 0 where
  pub begun : v.opened ≡ true → last_epoch v.order ≢ 0
  pub before : Each IsOrdered v.past
  pub now : IsOrdered v.order
  pub were : (n : ℕ) → WereFrom [] (issued_of (v.ses n))

abbrev OrderedSteps : Server → Server → Type 0
OrderedSteps s t = OrderedKept (written s) → OrderedKept (written t)

ordered_same : (s : Server) → OrderedSteps s s
ordered_same s k = k

-- an entry that may follow stands at the end
push : (s t : Server) (e : Entry) → written t ≡ record (written s) { order = s.order ++ e ∷ [] } → (last_epoch s.order ≢ 0 → last_epoch (s.order ++ e ∷ []) ≢ 0) → (OrderedKept (written s) → MayFollow s.order e) → OrderedSteps s t
push s t e same still may k = subst OrderedKept (sym same) (record {
  begun = λ o. still (k.begun o);
  before = k.before;
  now = ordered-push s.order e k.now (may k);
  were = k.were;
})

-- an Epoch at the end
not_zero : (es : List Entry) (n : ℕ) → last_epoch (es ++ Epoch (n + 1) ∷ []) ≢ 0
not_zero es n e = omega (arith, last_epoch-push es (Epoch (n + 1)), e)

opened_ordered : (clock round : ℕ) (s : Server) (entries : List Entry) → OpenedMay s entries → OrderedSteps s (opened_with clock round s entries)
opened_ordered clock round s entries may k = record {
  begun = λ _. not_zero entries (last_epoch entries);
  before = k.before;
  now = ordered-push entries _ may.ordered (record { is_next = refl; in_range = omega (arith, may.low) });
  were = k.were;
}

crash_ordered : (clock round : ℕ) (s : Server) (kept : ℕ) → CrashMay s kept → OrderedSteps s (crashed clock round s kept)
crash_ordered clock round s kept may k = record {
  begun = λ _. not_zero (take kept s.order) (last_epoch (take kept s.order));
  before = each-append IsOrdered s.past (s.order ∷ []) k.before (k.now, tt);
  now = ordered-push (take kept s.order) _ (ordered-front (take kept s.order) (drop kept s.order) (subst IsOrdered (sym (take-append-drop kept s.order)) k.now)) (record { is_next = refl; in_range = omega (arith, may.low) });
  were = k.were;
}

shut_ordered : (s : Server) (session : ℕ) → live s.order session ≡ true → OrderedSteps s (shut s session)
shut_ordered s session is = push s (shut s session) (Closed session) refl (λ z e. z (sym (last_epoch-push s.order (Closed session)) ∙ e)) (λ k. record { is_live = is })

-- an item that is at the end of a told session is as it was issued
item_was : (s : Server) (session w : ℕ) (e : Entry) → ItemMay s session w e → OrderedKept (written s) → (i : Issued) × ((entry_of session w i ≡ e) × Was (take (count s.order session) (issued_in s session)) i)
item_was s session w e may k = go (slice_get (issued_in s session) (w - 1)) refl may.issued
  where
    go : (o : Option Issued) → slice_get (issued_in s session) (w - 1) ≡ o → option_map (entry_of session w) o ≡ Some e → (i : Issued) × ((entry_of session w i ≡ e) × Was (take (count s.order session) (issued_in s session)) i)
    go None g h = absurd (cc (h))
    go (Some i) g h =
        let place : w - 1 ≡ count s.order session = omega (arith, may.next) in
        (i, (same_Some (entry_of session w i) e h, subst (λ n. Was (take n (issued_in s session)) i) place (was_at [] (issued_in s session) (w - 1) i (k.were session) g)))

-- the job's transaction that its item ends is open
end_is_begun : (s : Server) (session w job txn : ℕ) (e : Entry) → ItemMay s session w e → IssuedKept (view s) → OrderedKept (written s) → EndMay job txn (take (count s.order session) (issued_in s session)) → is_begun session job txn (fold s.order).begun ≡ true
end_is_begun s session w job txn e may is k end =
    begun_is session job txn end.positive (issued_in s session) s.order k.now stands may.is_live ∙ may_end job txn (take (count s.order session) (issued_in s session)) end.used end.unended
  where
    met : is_some (s.session_at session) ≡ true
    met = (and_parts (is_some (s.session_at session)) _ may.told).0

    stands : Each (Stand session job txn end.positive (issued_in s session)) s.order
    stands = each_map (AsIssued s.session_at s.entered_at) (Stand session job txn end.positive (issued_in s session)) (λ x a. a session (is.met session met)) s.order is.as_issued

update_follows : (s : Server) (session w job txn : ℕ) (op : Operation) → ItemMay s session w (Update session w job txn op) → OrderedKept (written s) → OpMay txn op
update_follows s session w job txn op may k = go (item_was s session w (Update session w job txn op) may k)
  where
    by : (j t : ℕ) (before : List Issued) (x : Item) → entry_of_item session w j t x ≡ Update session w job txn op → ItemWas j t before x → OpMay txn op
    by j t before (Op o) e h = let one : t ≡ txn = cc (e) in let two : o ≡ op = cc (e) in subst (λ y. OpMay txn y) two (subst (λ n. OpMay n o) one h)
    by j t before (CommitItem n) e h = absurd (cc (e))
    by j t before (RollbackItem n) e h = absurd (cc (e))

    go : (i : Issued) × ((entry_of session w i ≡ Update session w job txn op) × Was (take (count s.order session) (issued_in s session)) i) → OpMay txn op
    go h = by h.0.job h.0.txn _ h.0.item h.1.0 h.1.1

commit_follows : (s : Server) (session w job txn : ℕ) → ItemMay s session w (Commit session w job txn) → OrderedKept (written s) → EndMay job txn (take (count s.order session) (issued_in s session))
commit_follows s session w job txn may k = go (item_was s session w (Commit session w job txn) may k)
  where
    by : (j t : ℕ) (before : List Issued) (x : Item) → entry_of_item session w j t x ≡ Commit session w job txn → ItemWas j t before x → EndMay job txn before
    by j t before (Op o) e h = absurd (cc (e))
    by j t before (CommitItem n) e h = let one : j ≡ job = cc (e) in let two : n ≡ txn = cc (e) in subst (λ m. EndMay job m before) two (subst (λ m. EndMay m n before) one h)
    by j t before (RollbackItem n) e h = absurd (cc (e))

    go : (i : Issued) × ((entry_of session w i ≡ Commit session w job txn) × Was (take (count s.order session) (issued_in s session)) i) → EndMay job txn (take (count s.order session) (issued_in s session))
    go h = by h.0.job h.0.txn _ h.0.item h.1.0 h.1.1

rollback_follows : (s : Server) (session w job txn : ℕ) → ItemMay s session w (Rollback session w job txn) → OrderedKept (written s) → EndMay job txn (take (count s.order session) (issued_in s session))
rollback_follows s session w job txn may k = go (item_was s session w (Rollback session w job txn) may k)
  where
    by : (j t : ℕ) (before : List Issued) (x : Item) → entry_of_item session w j t x ≡ Rollback session w job txn → ItemWas j t before x → EndMay job txn before
    by j t before (Op o) e h = absurd (cc (e))
    by j t before (RollbackItem n) e h = let one : j ≡ job = cc (e) in let two : n ≡ txn = cc (e) in subst (λ m. EndMay job m before) two (subst (λ m. EndMay m n before) one h)
    by j t before (CommitItem n) e h = absurd (cc (e))

    go : (i : Issued) × ((entry_of session w i ≡ Rollback session w job txn) × Was (take (count s.order session) (issued_in s session)) i) → EndMay job txn (take (count s.order session) (issued_in s session))
    go h = by h.0.job h.0.txn _ h.0.item h.1.0 h.1.1

enter_ordered : (l : Layout) (clock : ℕ) (s : Server) (x : Entry) → EnterMay l clock s x → IssuedKept (view s) → OrderedSteps s (entered s x)
enter_ordered l clock s (Epoch number) may is = absurd may
enter_ordered l clock s (Closed session) may is = absurd may
enter_ordered l clock s (OpenedEntry session app) may is = push s (entered s (OpenedEntry session app)) (OpenedEntry session app) refl (λ z e. z (sym (last_epoch-push s.order (OpenedEntry session app)) ∙ e)) (λ k. record { is_started = k.begun may.opened; is_position = may.place; is_free = may.alone })
enter_ordered l clock s (Update session w job txn op) may is = push s (entered s (Update session w job txn op)) (Update session w job txn op) refl (λ z e. z (sym (last_epoch-push s.order (Update session w job txn op)) ∙ e)) (λ k. record { is_live = may.is_live; is_next = may.next; within = update_follows s session w job txn op may k })
enter_ordered l clock s (Commit session w job txn) may is = push s (entered s (Commit session w job txn)) (Commit session w job txn) refl (λ z e. z (sym (last_epoch-push s.order (Commit session w job txn)) ∙ e)) (λ k. record { is_live = may.is_live; is_next = may.next; is_begun = end_is_begun s session w job txn _ may is k (commit_follows s session w job txn may k) })
enter_ordered l clock s (Rollback session w job txn) may is = push s (entered s (Rollback session w job txn)) (Rollback session w job txn) refl (λ z e. z (sym (last_epoch-push s.order (Rollback session w job txn)) ∙ e)) (λ k. record { is_live = may.is_live; is_next = may.next; is_begun = end_is_begun s session w job txn _ may is k (rollback_follows s session w job txn may k) })

-- sessions change, each with items that were issued as they may be
sessions : (s t : Server) → written t ≡ record (written s) { ses = t.session_at } → ((n : ℕ) → WereFrom [] (issued_of (s.session_at n)) → WereFrom [] (issued_of (t.session_at n))) → OrderedSteps s t
sessions s t same were k = subst OrderedKept (sym same) (record { begun = k.begun; before = k.before; now = k.now; were = λ n. were n (k.were n) })

were_put : (f : ℕ → Option Session) (n : ℕ) (o : Option Session) → (WereFrom [] (issued_of (f n)) → WereFrom [] (issued_of o)) → (m : ℕ) → WereFrom [] (issued_of (f m)) → WereFrom [] (issued_of (if m == n then o else f m))
were_put f n o here m w = at_put (λ a b. WereFrom [] (issued_of a) → WereFrom [] (issued_of b)) f n o (λ a x. x) here m w

met_ordered : (l : Layout) (s : Server) (app session : ℕ) → OrderedSteps s (met_by l s app session)
met_ordered l s app session = sessions s (met_by l s app session) refl (were_put s.session_at session _ (λ _. tt))

told_ordered : (l : Layout) (s : Server) (app session epoch kept : ℕ) → OrderedSteps s (told_of l s app session epoch kept)
told_ordered l s app session epoch kept = sessions s (told_of l s app session epoch kept) refl (were_put s.session_at session _ (go (s.session_at session)))
  where
    go : (o : Option Session) → WereFrom [] (issued_of o) → WereFrom [] (issued_of (option_map (λ (m : Session). record m { told = begun_by s epoch }) o))
    go None w = w
    go (Some m) w = w

new_was : (x : Job) (job : ℕ) (before : List Issued) (item : Item) → ItemIs job before item → ItemWas job (txn_of x item) before item
new_was x job before (Op (Set key value)) may = may
new_was x job before (Op (Kill key)) may = may
new_was x job before (Op (Add key amount)) may = may
new_was x job before (CommitItem n) may = may
new_was x job before (RollbackItem n) may = may

issue_ordered : (s : Server) (x : Job) (app job line w : ℕ) (item : Item) → IssueMay s app job w item → OrderedSteps s (issues s app (record { item = item; txn = txn_of x item; job = job; line = line }))
issue_ordered s x app job line w item may = sessions s (issues s app i) refl (were_put s.session_at (pair_session s app) _ (go (s.session_at (pair_session s app)) refl))
  where
    i : Issued
    i = record { item = item; txn = txn_of x item; job = job; line = line }

    go : (o : Option Session) → s.session_at (pair_session s app) ≡ o → WereFrom [] (issued_of o) → WereFrom [] (issued_of (option_map (λ (m : Session). record m { issued = m.issued ++ i ∷ [] }) o))
    go None e w = w
    go (Some m) e w = were-push [] m.issued i w (subst (λ is. Was is i) (ap issued_of e) (new_was x job (pair_issued s app) item may.its))

broke_ordered : (s : Server) (app : ℕ) (end : PairEnd) (time : ℕ) → OrderedSteps s (broke s app end time)
broke_ordered s app AppEnd time = ordered_same s
broke_ordered s app ServerEnd time = ordered_same s

lost_ordered : (l : Layout) (p : Plain) (app d : ℕ) (loss : Loss) (e : ℕ) → OrderedSteps (p.server_at e) ((lost l p app d loss).server_at e)
lost_ordered l p app d (ByReset at) e = at_put OrderedSteps p.server_at d _ ordered_same (ordered_same (p.server_at d)) e
lost_ordered l p app d (ByExpired time) e = at_put OrderedSteps p.server_at d _ ordered_same (ordered_same (p.server_at d)) e
lost_ordered l p app d (ByNoWay from to) e = at_put OrderedSteps p.server_at d _ ordered_same (ordered_same (p.server_at d)) e

refused_ordered : (p : Plain) (j : ℕ) (r : Refusal) (e : ℕ) → OrderedSteps (p.server_at e) ((refused p j r).server_at e)
refused_ordered p j NoTransaction e = ordered_same (p.server_at e)
refused_ordered p j TooDeep e = ordered_same (p.server_at e)
refused_ordered p j RollbackOnly e = ordered_same (p.server_at e)
refused_ordered p j LockTimeout e = ordered_same (p.server_at e)
refused_ordered p j (Network d state reason) e = at_put OrderedSteps p.server_at d _ ordered_same (ordered_same (p.server_at d)) e

row_ordered : (l : Layout) (p : Plain) (a : Act) → MayCome l p a → ((d : ℕ) → IssuedKept (view (p.server_at d))) → (e : ℕ) → OrderedSteps (p.server_at e) ((after l p a).server_at e)
row_ordered l p (Opened d entries) may is e = at_put OrderedSteps p.server_at d _ ordered_same (opened_ordered p.clock l.times.round (p.server_at d) entries may) e
row_ordered l p (Enter d x) may is e = at_put OrderedSteps p.server_at d _ ordered_same (enter_ordered l p.clock (p.server_at d) x may (is d)) e
row_ordered l p (Synced d n) may is e = at_put OrderedSteps p.server_at d _ ordered_same (ordered_same (p.server_at d)) e
row_ordered l p (Shut d session cause) may is e = at_put OrderedSteps p.server_at d _ ordered_same (shut_ordered (p.server_at d) session (shut_live l p (p.server_at d) session cause may)) e
row_ordered l p (Release d session) may is e = at_put OrderedSteps p.server_at d _ ordered_same (ordered_same (p.server_at d)) e
row_ordered l p (Met app d session) may is e = at_put OrderedSteps p.server_at d _ ordered_same (met_ordered l (p.server_at d) app session) e
row_ordered l p (Told app d session epoch kept) may is e = at_put OrderedSteps p.server_at d _ ordered_same (told_ordered l (p.server_at d) app session epoch kept) e
row_ordered l p (Back d) may is e = at_put OrderedSteps p.server_at d _ ordered_same (ordered_same (p.server_at d)) e
row_ordered l p (Crash d kept) may is e = at_put OrderedSteps p.server_at d _ ordered_same (crash_ordered p.clock l.times.round (p.server_at d) kept may) e
row_ordered l p (Issue job line d w item) may is e = at_put OrderedSteps p.server_at d _ ordered_same (issue_ordered (p.server_at d) (p.job_at job) (app_of l job) job line w item may.1) e
row_ordered l p (Read job line d at via question) may is e = at_put OrderedSteps p.server_at d _ ordered_same (ordered_same (p.server_at d)) e
row_ordered l p (Grant d session job mode key at) may is e = at_put OrderedSteps p.server_at d _ ordered_same (ordered_same (p.server_at d)) e
row_ordered l p (Granted job line d at) may is e = at_put OrderedSteps p.server_at d _ ordered_same (ordered_same (p.server_at d)) e
row_ordered l p (GiveUp job line d mode key) may is e = at_put OrderedSteps p.server_at d _ ordered_same (ordered_same (p.server_at d)) e
row_ordered l p (Quit job line d mode key) may is e = at_put OrderedSteps p.server_at d _ ordered_same (ordered_same (p.server_at d)) e
row_ordered l p (Free d session job mode key) may is e = at_put OrderedSteps p.server_at d _ ordered_same (ordered_same (p.server_at d)) e
row_ordered l p (Counted job line d at sum) may is e = at_put OrderedSteps p.server_at d _ ordered_same (ordered_same (p.server_at d)) e
row_ordered l p (NotWhole job line d at) may is e = at_put OrderedSteps p.server_at d _ ordered_same (ordered_same (p.server_at d)) e
row_ordered l p (Range job line d at) may is e = at_put OrderedSteps p.server_at d _ ordered_same (ordered_same (p.server_at d)) e
row_ordered l p (Committed job line d at) may is e = at_put OrderedSteps p.server_at d _ ordered_same (ordered_same (p.server_at d)) e
row_ordered l p (RolledBack job line d at) may is e = at_put OrderedSteps p.server_at d _ ordered_same (ordered_same (p.server_at d)) e
row_ordered l p (Reached job line d at) may is e = at_put OrderedSteps p.server_at d _ ordered_same (ordered_same (p.server_at d)) e
row_ordered l p (Level job line level) may is e = ordered_same (p.server_at e)
row_ordered l p (Done job line) may is e = ordered_same (p.server_at e)
row_ordered l p (Refused job line refusal) may is e = refused_ordered p job refusal e
row_ordered l p (Broke app d end time) may is e = at_put OrderedSteps p.server_at d _ ordered_same (broke_ordered (p.server_at d) app end time) e
row_ordered l p (Mended app d) may is e = at_put OrderedSteps p.server_at d _ ordered_same (ordered_same (p.server_at d)) e
row_ordered l p (Tick time) may is e = ordered_same (p.server_at e)
row_ordered l p (Lose app d loss) may is e = lost_ordered l p app d loss e
row_ordered l p (Died app) may is e = ordered_same (p.server_at e)

run_ordered : (l : Layout) (p : Plain) (acts : List Act) → RunFrom l p acts → ((d : ℕ) → IssuedKept (view (p.server_at d))) → ((d : ℕ) → OrderedKept (written (p.server_at d))) → (e : ℕ) → OrderedKept (written ((after_all l p acts).server_at e))
run_ordered l p [] run is k e = k e
run_ordered l p (a ∷ acts) run is k e = run_ordered l (after l p a) acts run.1 (λ d. issued_rows l p a run.0 d (is d)) (λ d. row_ordered l p a run.0 is d (k d)) e

pub ordered_kept : (l : Layout) (acts : List Act) (d : ℕ) → IsRun l acts → OrderedKept (written (server_after l acts d))
ordered_kept l acts d run =
    run_ordered l start acts run (λ e. record { fresh = λ _ n. refl; placed = tt; met = λ n m. absurd (cc (m)); as_issued = tt })
    (λ e. record { begun = λ o. absurd (cc (o)); before = tt; now = tt; were = λ n. tt }) d

pub each_is_ordered : EachIsOrdered
each_is_ordered l acts d k run =
    let kept : OrderedKept (written (server_after l acts d)) = ordered_kept l acts d run in
    each_get IsOrdered (orders (server_after l acts d)) k [] (each-append IsOrdered (server_after l acts d).past ((server_after l acts d).order ∷ []) kept.before (kept.now, tt)) tt
