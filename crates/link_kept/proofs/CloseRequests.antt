-- As a session is closed all its requests go, so that those that wait are of live sessions again.
use Rattle.std.proofs.Common.{◌≡◌, ◌≢◌, ℕ, ◌+◌, ◌⊎◌, inl, inr, Bool, true, false, not, ◌&&◌, cond, List, [], ◌∷◌, ◌++◌, length, filter, reverse, Option, Some, None, refl, sym, ◌∙◌, ap, subst}
use Rattle.std.specs.Prelude.{◌==◌}
use Rattle.std.specs.List.{AllByRecursion}
use Rattle.std.proofs.lemmas.List.{reverse-append}
use Rattle.std.proofs.lemmas.Bool.{eq-eqb, false≢true, true≢false}
use Rattle.plain_orders.specs.declared.causes.ShutCause.{ShutCause}
use Rattle.plain_orders.specs.declared.causes.ShutCause.TheVariants.{Trouble, Replaced, Round}
use Rattle.plain_orders.specs.declared.act.Act.TheVariants as act
use Rattle.plain_orders.specs.declared.entry.Entry.{Entry}
use Rattle.plain_orders.specs.declared.entry.Entry.TheVariants.{Closed}
use Rattle.plain_orders.specs.Entries.{live}
use Rattle.lock_table.specs.declared.rows.Request.{Request}
use Rattle.lock_table.specs.LockWords.{Locks, Freed, waits, with_grant, pass, is_other_ticket, is_request_of, without_request}
use Rattle.data_rules.specs.DataState.{DataState}
use Rattle.data_rules.specs.declared.rows.LiveEnd.{LiveEnd}
use Rattle.data_rules.specs.declared.data_in.DataIn.TheVariants as data_in
use Rattle.data_rules.specs.declared.data_outs.DataOuts.{DataOuts}
use Rattle.data_rules.specs.Step.{DataStep}
use Rattle.data_rules.specs.Puts.{Sofar, becomes, writes, begun, conn_of}
use Rattle.data_rules.specs.Entering.{appends}
use Rattle.data_rules.specs.Granting.{grants, grants_one, locks_become, with_locks}
use Rattle.data_rules.specs.Conns.{link_of, drops_conn}
use Rattle.data_rules.specs.Closing.{silenced, unawaited, cancels_one, cancels, cancels_all, waits_for_reset, turns_away, closes}
use Rattle.data_rules.specs.Opening.{live_ends}
use Rattle.data_rules.specs.Messages.{is_awaited}
use Rattle.data_rules.specs.Saving.{is_free, cause_of, hears_tick, closes_late, ticks_end, ticks_one, ticks}
use Rattle.link_states.specs.Tables.{data_next}
use Rattle.link_states.specs.declared.link_event.LinkEvent.TheVariants.{Ticked}
use Rattle.cluster_invariant.proofs.AllLists.{all_joined, all_filtered, all_follow, all_both, all_passed}
use Rattle.cluster_invariant.proofs.PutLaws.{appends_state}
use Rattle.cluster_invariant.proofs.PiecesOfCloses.{closes_order}
use Rattle.link_kept.proofs.LockSessions.{RequestsOf}
use Rattle.link_kept.proofs.WindowsGo.{other_live}

-- what a call leaves of the requests

pass_left : (P : Request → Type 0) (l : Locks) (left grants rs : List Request) (at : ℕ) → AllByRecursion P left → AllByRecursion P rs
    → AllByRecursion P (pass l left grants rs at).locks.requests
pass_left P l left grants [] at lefts rest = lefts
pass_left P l left grants (r ∷ rs) at lefts rest =
    go (waits l.holds left r) (pass_left P l (left ++ r ∷ []) grants rs at (all_joined P left (r ∷ []) lefts (rest.0, tt)) rest.1)
    (pass_left P (with_grant l r at) left (grants ++ r ∷ []) rs at lefts rest.1)
  where
    go : (b : Bool) → AllByRecursion P (pass l (left ++ r ∷ []) grants rs at).locks.requests
        → AllByRecursion P (pass (with_grant l r at) left (grants ++ r ∷ []) rs at).locks.requests
        → AllByRecursion P (cond b (pass l (left ++ r ∷ []) grants rs at) (pass (with_grant l r at) left (grants ++ r ∷ []) rs at)).locks.requests
    go true a b = a
    go false a b = b

grants_locks : (rs : List Request) (b : Sofar) → (grants rs b).state.locks ≡ b.state.locks
grants_locks [] b = refl
grants_locks (r ∷ rs) b = grants_locks rs (grants_one r b)

become_locks : (f : Freed) (b : Sofar) → (locks_become f b).state.locks ≡ f.locks
become_locks f b = grants_locks f.grants (becomes (with_locks f.locks) b)

one_left : (P : Request → Type 0) (r : Request) (b : Sofar) → AllByRecursion P b.state.locks.requests → AllByRecursion P (cancels_one r b).state.locks.requests
one_left P r b all =
    subst (λ (l : Locks). AllByRecursion P l.requests) (sym (become_locks (without_request b.state.locks r.who.session r.ticket (length b.state.order)) b))
    (pass_left P (record b.state.locks { requests = filter (is_other_ticket r.who.session r.ticket) b.state.locks.requests }) [] []
    (filter (is_other_ticket r.who.session r.ticket) b.state.locks.requests) (length b.state.order) tt
    (all_filtered P (is_other_ticket r.who.session r.ticket) b.state.locks.requests all))

-- it has another ticket
abbrev IsOther : Request → Request → Type 0
IsOther r q = is_other_ticket r.who.session r.ticket q ≡ true

one_gone : (r : Request) (b : Sofar) → AllByRecursion (IsOther r) (cancels_one r b).state.locks.requests
one_gone r b =
    subst (λ (l : Locks). AllByRecursion (IsOther r) l.requests) (sym (become_locks (without_request b.state.locks r.who.session r.ticket (length b.state.order)) b))
    (pass_left (IsOther r) (record b.state.locks { requests = filter (is_other_ticket r.who.session r.ticket) b.state.locks.requests }) [] []
    (filter (is_other_ticket r.who.session r.ticket) b.state.locks.requests) (length b.state.order) tt
    (all_passed (is_other_ticket r.who.session r.ticket) b.state.locks.requests))

all_left : (P : Request → Type 0) (rs : List Request) (b : Sofar) → AllByRecursion P b.state.locks.requests → AllByRecursion P (cancels rs b).state.locks.requests
all_left P [] b all = all
all_left P (r ∷ rs) b all = all_left P rs (cancels_one r b) (one_left P r b all)

-- it has another ticket than each of these
abbrev OtherThan : List Request → Request → Type 0
OtherThan rs q = AllByRecursion (λ (r : Request). IsOther r q) rs

all_gone : (rs : List Request) (b : Sofar) → AllByRecursion (OtherThan rs) (cancels rs b).state.locks.requests
all_gone [] b = all_any (λ (q : Request). OtherThan [] q) (λ q. tt) b.state.locks.requests
  where
    all_any : (P : Request → Type 0) → ((q : Request) → P q) → (qs : List Request) → AllByRecursion P qs
    all_any P f [] = tt
    all_any P f (q ∷ qs) = (f q, all_any P f qs)
all_gone (r ∷ rs) b =
    all_both (IsOther r) (OtherThan rs) (cancels rs (cancels_one r b)).state.locks.requests (all_left (IsOther r) rs (cancels_one r b) (one_gone r b))
    (all_gone rs (cancels_one r b))

-- a request of the session is among those that go

-- a request with its ticket is among these
abbrev Among : Request → List Request → Type 0
Among q [] = ⊥
Among q (r ∷ rs) = (r ≡ q) ⊎ Among q rs

among_joined : (q : Request) (xs ys : List Request) → Among q xs ⊎ Among q ys → Among q (xs ++ ys)
among_joined q [] ys (inl is) = absurd is
among_joined q [] ys (inr is) = is
among_joined q (x ∷ xs) ys (inl (inl same)) = inl same
among_joined q (x ∷ xs) ys (inl (inr is)) = inr (among_joined q xs ys (inl is))
among_joined q (x ∷ xs) ys (inr is) = inr (among_joined q xs ys (inr is))

among_reversed : (q : Request) (xs : List Request) → Among q xs → Among q (reverse xs)
among_reversed q [] is = absurd is
among_reversed q (x ∷ xs) (inl same) = subst (Among q) (sym (reverse-append (x ∷ []) xs)) (among_joined q (reverse xs) (x ∷ []) (inr (inl same)))
among_reversed q (x ∷ xs) (inr is) = subst (Among q) (sym (reverse-append (x ∷ []) xs)) (among_joined q (reverse xs) (x ∷ []) (inl (among_reversed q xs is)))

-- each of some requests that is the session's is among its
each_among : (s : ℕ) (rs : List Request) → AllByRecursion (λ (q : Request). q.who.session ≡ s → Among q (filter (is_request_of s) rs)) rs
each_among s [] = tt
each_among s (r ∷ rs) = go (r.who.session == s) refl (each_among s rs)
  where
    go : (b : Bool) → (r.who.session == s) ≡ b → AllByRecursion (λ (q : Request). q.who.session ≡ s → Among q (filter (is_request_of s) rs)) rs
        → AllByRecursion (λ (q : Request). q.who.session ≡ s → Among q (cond b (r ∷ filter (is_request_of s) rs) (filter (is_request_of s) rs))) (r ∷ rs)
    go true its more = (
      (λ same. inl refl),
      all_follow (λ (q : Request). q.who.session ≡ s → Among q (filter (is_request_of s) rs))
          (λ (q : Request). q.who.session ≡ s → Among q (r ∷ filter (is_request_of s) rs)) (λ q f same. inr (f same)) rs more,
    )
    go false other more = ((λ same. absurd (false≢true (sym other ∙ eq-eqb r.who.session s same))), more)

not_other : (q : Request) (rs : List Request) → OtherThan rs q → Among q rs → ⊥
not_other q [] other is = is
not_other q (r ∷ rs) other (inl same) = itself r q same other.0
  where
    itself : (a b : Request) → a ≡ b → IsOther a b → ⊥
    itself a b same is =
        let t : is_other_ticket b.who.session b.ticket b ≡ true = ap (λ (c : Request). is_other_ticket c.who.session c.ticket b) (sym same) ∙ is in
        let f : is_other_ticket b.who.session b.ticket b ≡ false =
        ap (λ (x : Bool). not (x && (b.ticket == b.ticket))) (eq-eqb b.who.session b.who.session refl) ∙ ap not (eq-eqb b.ticket b.ticket refl) in
        true≢false (sym t ∙ f)
not_other q (r ∷ rs) other (inr is) = not_other q rs other.1 is

-- No request of the session is left.
pub none_left : (s : ℕ) (b : Sofar) → RequestsOf (λ q. q ≢ s) (cancels_all s b).state.locks.requests
none_left s b =
    all_follow (λ (q : Request). OtherThan rs q × (q.who.session ≡ s → Among q (filter (is_request_of s) b.state.locks.requests))) (λ (q : Request). q.who.session ≢ s)
    (λ q both same. not_other q rs both.0 (among_reversed q (filter (is_request_of s) b.state.locks.requests) (both.1 same))) (cancels_all s b).state.locks.requests
    (all_both (OtherThan rs) (λ (q : Request). q.who.session ≡ s → Among q (filter (is_request_of s) b.state.locks.requests)) (cancels_all s b).state.locks.requests
    (all_gone rs b)
    (all_left (λ (q : Request). q.who.session ≡ s → Among q (filter (is_request_of s) b.state.locks.requests)) rs b (each_among s b.state.locks.requests)))
  where
    rs : List Request
    rs = reverse (filter (is_request_of s) b.state.locks.requests)

-- closing

-- the requests that wait are of live sessions
abbrev pub AskersLive : DataState → Type 0
AskersLive d = RequestsOf (λ q. live d.order q ≡ true) d.locks.requests

reset_locks : (o : Option ℕ) (s at : ℕ) (b : Sofar) → (waits_for_reset o s at b).state.locks ≡ b.state.locks
reset_locks None s at b = refl
reset_locks (Some conn) s at b = refl

pub drop_locks : (o : Option ℕ) (b : Sofar) → (drops_conn o b).state.locks ≡ b.state.locks
drop_locks None b = refl
drop_locks (Some conn) b = refl

turned_locks : (cause : ShutCause) (o : Option ℕ) (s at : ℕ) (b : Sofar) → (turns_away cause o s at b).state.locks ≡ b.state.locks
turned_locks (Trouble time) o s at b = reset_locks o s at b
turned_locks Replaced o s at b = drop_locks o b
turned_locks (Round time) o s at b = reset_locks o s at b

-- Those of a session that is closed go with it.
pub closes_askers : (s : ℕ) (cause : ShutCause) (b : Sofar) → AskersLive b.state → AskersLive (closes s cause b).state
closes_askers s cause b lives =
    subst (λ (es : List Entry). RequestsOf (λ q. live es q ≡ true) (closes s cause b).state.locks.requests) (sym (closes_order s cause b))
    (subst (λ (l : Locks). RequestsOf (λ q. live (b.state.order ++ Closed s ∷ []) q ≡ true) l.requests)
    (sym (turned_locks cause (conn_of b.state s) s (length b.state.order + 1) (cancels_all s closed)))
    (all_follow (λ (r : Request). (r.who.session ≢ s) × (live b.state.order r.who.session ≡ true)) (λ (r : Request). live (b.state.order ++ Closed s ∷ []) r.who.session ≡ true)
    (λ (r : Request) both. other_live b.state.order s r.who.session both.0 both.1) (cancels_all s closed).state.locks.requests
    (all_both (λ (r : Request). r.who.session ≢ s) (λ (r : Request). live b.state.order r.who.session ≡ true) (cancels_all s closed).state.locks.requests
    (none_left s closed)
    (all_left (λ (r : Request). live b.state.order r.who.session ≡ true) (reverse (filter (is_request_of s) closed.state.locks.requests)) closed
    (subst (λ (l : Locks). RequestsOf (λ q. live b.state.order q ≡ true) l.requests) (sym same) lives)))))
  where
    closed : Sofar
    closed = becomes (unawaited s) (appends (Closed s) (becomes (silenced s) (writes (act.Shut b.state.server s cause) b)))

    same : closed.state.locks ≡ b.state.locks
    same = ap (λ (d : DataState). d.locks) (appends_state (Closed s) (becomes (silenced s) (writes (act.Shut b.state.server s cause) b))).state

late_askers : (late : Bool) (s now : ℕ) (cause : ShutCause) (b : Sofar) → AskersLive b.state → AskersLive (closes_late late s now cause b).state
late_askers true s now cause b lives = closes_askers s cause b lives
late_askers false s now cause b lives = lives

end_askers : (hears : Bool) (app s now : ℕ) (b : Sofar) → AskersLive b.state → AskersLive (ticks_end hears app s now b).state
end_askers true app s now b lives =
    late_askers (is_free (data_next b.state.times now (link_of b.state app) Ticked)) s now (cause_of (link_of b.state app) now) b lives
end_askers false app s now b lives = lives

ticks_askers : (xs : List LiveEnd) (now : ℕ) (b : Sofar) → AskersLive b.state → AskersLive (ticks xs now b).state
ticks_askers [] now b lives = lives
ticks_askers (x ∷ xs) now b lives =
    ticks_askers xs now (ticks_one x now b) (end_askers (hears_tick (link_of b.state x.app) (is_awaited b.state x.session)) x.app x.session now b lives)

-- After a tick the requests that wait are of live sessions again.
pub tick_askers : (old : DataState) (now : ℕ) (outs : DataOuts) (new : DataState) → DataStep old now data_in.Tick outs new → AskersLive old → AskersLive new
tick_askers old now outs new steps lives =
    subst (λ (b : Sofar). AskersLive b.state) (sym steps) (ticks_askers (live_ends old.order) now (begun old) lives)
