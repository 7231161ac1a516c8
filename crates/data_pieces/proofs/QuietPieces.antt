-- Small changes of a data server's step that leave its ends: putting, replies and locks.
use Rattle.std.proofs.Common.{◌≡◌, ℕ, true, List, [], ◌∷◌, ◌++◌, refl, sym, ◌∙◌, ap, subst}
use Rattle.std.specs.List.{AllByRecursion}
use Rattle.std.proofs.lemmas.List.{append-nil, append_assoc}
use Rattle.plain_orders.specs.declared.act.Act.{Act}
use Rattle.plain_orders.specs.declared.act.Act.TheVariants as act
use Rattle.plain_orders.specs.declared.layout.Layout.{Layout}
use Rattle.plain_runs.specs.Plain.{Plain}
use Rattle.ecp_messages.specs.declared.down.Down.{Down}
use Rattle.end_words.specs.Windows.{resent}
use Rattle.lock_table.specs.declared.rows.Request.{Request}
use Rattle.lock_table.specs.LockWords.{Freed, asked, freed, without_request, without_grant, without_session}
use Rattle.data_rules.specs.DataState.{DataState}
use Rattle.data_rules.specs.Puts.{Sofar, becomes, writes, tells, window_of}
use Rattle.data_rules.specs.Callers.{goes_on, sends_again, old_welcome}
use Rattle.data_rules.specs.Granting.{grants, grants_one, locks_become, with_locks, frees}
use Rattle.cluster_invariant.proofs.AllLists.{all_joined}
use Rattle.cluster_invariant.proofs.PieceKinds.{LockCall, Asks, Unlocks, Withdraws, GivesBack, ForgetsTicket, Claims, Cancels, Releases, calls}
use Rattle.cluster_invariant.proofs.PutLaws.{OnlyLocks, OnlyWindows, only_locks}
use Rattle.data_pieces.proofs.LinksGo.{LinksGo, SameCore, core_then, links_beside, same_core}
use Rattle.data_pieces.proofs.PlainView.{SameView, is_of_locks, view, view_locks}

-- acts of locks alone are written
pub record LockActs (b c : Sofar) : Type 0 where
  pub more : List Act
  pub all : AllByRecursion (λ a. is_of_locks a ≡ true) more
  pub acts : c.outs.acts ≡ b.outs.acts ++ more

pub no_acts : (b c : Sofar) → c.outs.acts ≡ b.outs.acts → LockActs b c
no_acts b c same = record { more = []; all = tt; acts = same ∙ sym (append-nil b.outs.acts) }

one_act : (b c : Sofar) (a : Act) → is_of_locks a ≡ true → c.outs.acts ≡ b.outs.acts ++ a ∷ [] → LockActs b c
one_act b c a is same = record { more = a ∷ []; all = (is, tt); acts = same }

acts_then : (b c e : Sofar) → LockActs b c → LockActs c e → LockActs b e
acts_then b c e f m = record {
  more = f.more ++ m.more;
  all = all_joined (λ a. is_of_locks a ≡ true) f.more m.more f.all m.all;
  acts = m.acts ∙ ap (λ (xs : List Act). xs ++ m.more) f.acts ∙ append_assoc b.outs.acts f.more m.more;
}

-- nothing of the ends is changed, and no act is written but those of locks
pub record Quiet (b c : Sofar) : Type 0 where
  pub core : SameCore b.state c.state
  pub acts : LockActs b c

quiet_then : (b c e : Sofar) → Quiet b c → Quiet c e → Quiet b e
quiet_then b c e f m = record { core = core_then b.state c.state e.state f.core m.core; acts = acts_then b c e f.acts m.acts }

pub quiet_windows : (b c : Sofar) → OnlyWindows b c → Quiet b c
quiet_windows b c o = record {
  core = record {
    server = ap (λ (d : DataState). d.server) o.state;
    order = ap (λ (d : DataState). d.order) o.state;
    synced = ap (λ (d : DataState). d.synced) o.state;
    links = ap (λ (d : DataState). d.links) o.state;
    conns = ap (λ (d : DataState). d.conns) o.state;
    callers = ap (λ (d : DataState). d.callers) o.state;
    round = ap (λ (d : DataState). d.round) o.state;
  };
  acts = no_acts b c o.acts;
}

-- locks

grants_acts : (rs : List Request) (b : Sofar) → LockActs b (grants rs b)
grants_acts [] b = no_acts b b refl
grants_acts (r ∷ rs) b =
    acts_then b (grants_one r b) (grants rs (grants_one r b)) (one_act b (grants_one r b) (act.Grant b.state.server r.who.session r.who.job r.mode r.name _) refl refl)
    (grants_acts rs (grants_one r b))

quiet_locks : (f : Freed) (b : Sofar) → Quiet b (locks_become f b)
quiet_locks f b = go (only_locks f b)
  where
    go : OnlyLocks b (locks_become f b) → Quiet b (locks_become f b)
    go o = record {
      core = record {
        server = ap (λ (d : DataState). d.server) o.state;
        order = ap (λ (d : DataState). d.order) o.state;
        synced = ap (λ (d : DataState). d.synced) o.state;
        links = ap (λ (d : DataState). d.links) o.state;
        conns = ap (λ (d : DataState). d.conns) o.state;
        callers = ap (λ (d : DataState). d.callers) o.state;
        round = ap (λ (d : DataState). d.round) o.state;
      };
      acts = acts_then b (becomes (with_locks f.locks) b) (locks_become f b) (no_acts b (becomes (with_locks f.locks) b) refl) (grants_acts f.grants (becomes (with_locks f.locks) b));
    }

quiet_writes : (a : Act) (b : Sofar) → is_of_locks a ≡ true → Quiet b (writes a b)
quiet_writes a b is = record { core = same_core b.state; acts = one_act b (writes a b) a is refl }

pub quiet_calls : (call : LockCall) (b : Sofar) → Quiet b (calls call b)
quiet_calls (Asks r) b = quiet_locks (asked b.state.locks r _) b
quiet_calls (Unlocks who mode key) b =
    quiet_then b (frees who mode key b) (calls (Unlocks who mode key) b) (quiet_writes (act.Free b.state.server who.session who.job mode key) b refl)
    (quiet_locks (freed b.state.locks who key mode _) (frees who mode key b))
quiet_calls (Withdraws r session ticket) b =
    quiet_then b (frees r.who r.mode r.name b) (calls (Withdraws r session ticket) b) (quiet_writes (act.Free b.state.server r.who.session r.who.job r.mode r.name) b refl)
    (quiet_locks (without_request b.state.locks session ticket _) (frees r.who r.mode r.name b))
quiet_calls (GivesBack r) b =
    quiet_then b (frees r.who r.mode r.name b) (calls (GivesBack r) b) (quiet_writes (act.Free b.state.server r.who.session r.who.job r.mode r.name) b refl)
    (quiet_locks (without_grant b.state.locks r _) (frees r.who r.mode r.name b))
quiet_calls (ForgetsTicket r) b = record { core = record { server = refl; order = refl; synced = refl; links = refl; conns = refl; callers = refl; round = refl }; acts = no_acts b (calls (ForgetsTicket r) b) refl }
quiet_calls (Claims who key mode number at) b = record { core = record { server = refl; order = refl; synced = refl; links = refl; conns = refl; callers = refl; round = refl }; acts = no_acts b (calls (Claims who key mode number at) b) refl }
quiet_calls (Cancels r) b = quiet_locks (without_request b.state.locks r.who.session r.ticket _) b
quiet_calls (Releases session) b =
    quiet_then b (writes (act.Release b.state.server session) b) (calls (Releases session) b) (quiet_writes (act.Release b.state.server session) b refl)
    (quiet_locks (without_session b.state.locks session _) (writes (act.Release b.state.server session) b))

-- a session goes on in its epoch

quiet_again : (s conn : ℕ) (ms : List (ℕ × Down)) (b : Sofar) → Quiet b (sends_again s conn ms b)
quiet_again s conn [] b = record { core = same_core b.state; acts = no_acts b b refl }
quiet_again s conn (m ∷ ms) b =
    quiet_then b (tells s conn m.0 m.1 b) (sends_again s conn (m ∷ ms) b)
    (record { core = record { server = refl; order = refl; synced = refl; links = refl; conns = refl; callers = refl; round = refl }; acts = no_acts b (tells s conn m.0 m.1 b) refl })
    (quiet_again s conn ms (tells s conn m.0 m.1 b))

pub quiet_goes_on : (s conn taken : ℕ) (b : Sofar) → Quiet b (goes_on s conn taken b)
quiet_goes_on s conn taken b =
    quiet_then b (tells s conn 0 (old_welcome b.state s) b) (goes_on s conn taken b)
    (record { core = record { server = refl; order = refl; synced = refl; links = refl; conns = refl; callers = refl; round = refl }; acts = no_acts b (tells s conn 0 (old_welcome b.state s) b) refl })
    (quiet_again s conn (resent (window_of b.state s) taken) (tells s conn 0 (old_welcome b.state s) b))

-- a change of the state alone that leaves all this
pub quiet_state : (b c : Sofar) → SameCore b.state c.state → c.outs.acts ≡ b.outs.acts → Quiet b c
quiet_state b c core acts = record { core = core; acts = no_acts b c acts }

pub quiet_more : (b c e : Sofar) → Quiet b c → Quiet c e → Quiet b e
quiet_more b c e f m = quiet_then b c e f m

-- Each of them keeps the ends.
pub links_quiet : (l : Layout) (p : Plain) (d k : ℕ) (b c : Sofar) → Quiet b c → LinksGo d (view l p d k b.outs.acts) b.state → LinksGo d (view l p d k c.outs.acts) c.state
links_quiet l p d k b c q h =
    links_beside d (view l p d k b.outs.acts) (view l p d k c.outs.acts) b.state c.state
    (subst (λ (xs : List Act). SameView (view l p d k b.outs.acts) (view l p d k xs)) (sym q.acts.acts) (view_locks l p d k b.outs.acts q.acts.more q.acts.all)) q.core h
