-- A save of a data server releases each session whose Close it covers.
use Rattle.std.proofs.Common.{◌≡◌, ℕ, Bool, true, false, List, [], ◌∷◌, ◌++◌, length, is_some, refl, sym, ◌∙◌, ap, subst, ◌==◌, ◌&&◌, ◌||◌}
use Rattle.std.specs.List.{list_any}
use Rattle.std.proofs.lemmas.Bool.{eq-eqb, eqb-true, false≢true}
use Rattle.std.proofs.lemmas.List.{append-nil, append_assoc}
use Rattle.std.proofs.lemmas.List.Folds.{list_any-append}
use Rattle.plain_orders.specs.declared.act.Act.{Act}
use Rattle.plain_orders.specs.declared.act.Act.TheVariants as act
use Rattle.plain_orders.specs.declared.entry.Entry.{Entry}
use Rattle.plain_orders.specs.declared.entry.Entry.TheVariants.{Epoch, Opened, Closed, Update, Commit, Rollback}
use Rattle.plain_orders.specs.Entries.{closes}
use Rattle.plain_runs.proofs.Lists.{any_front}
use Rattle.ecp_messages.specs.declared.down.Down.TheVariants.{Ack}
use Rattle.lock_table.specs.LockWords.{without_session}
use Rattle.data_rules.specs.DataState.{DataState}
use Rattle.data_rules.specs.declared.data_in.DataIn.TheVariants as data_in
use Rattle.data_rules.specs.Leaving.{flushed}
use Rattle.data_rules.specs.Opening.{rounds}
use Rattle.data_rules.specs.Puts.{Sofar, becomes, begun, head_of, writes}
use Rattle.data_rules.specs.Saving.{acks, acks_one, closed_in, part_saved, releases, releases_all, savers}
use Rattle.data_rules.specs.Step.{saved}
use Rattle.cluster_invariant.proofs.Deeds.{Does, does_locks}
use Rattle.cluster_invariant.proofs.PieceDeeds.{does_piece}
use Rattle.cluster_invariant.proofs.PieceMay.{Coming, synced_to}
use Rattle.cluster_invariant.proofs.Pieces.{kept_by_pieces}
use Rattle.cluster_invariant.proofs.PiecesOfRounds.{rounds_pieces}
use Rattle.cluster_invariant.proofs.PiecesOfSteps.{synced_state}
use Rattle.cluster_invariant.proofs.PutLaws.{OnlyWindows, only_flushed, only_locks, only_puts, with_waiting}
use Rattle.cluster_invariant.proofs.RoundBefore.{round_same}
use Rattle.locks_kept.proofs.ForcedActs.{is_release, to_release}

-- acts are written, and the server, the round and the order stay
record Goes (b c : Sofar) : Type 0 where
  more : List Act
  acts : c.outs.acts ≡ b.outs.acts ++ more
  server : c.state.server ≡ b.state.server
  round : is_some c.state.round ≡ is_some b.state.round
  order : c.state.order ≡ b.state.order

goes_then : (b c e : Sofar) → Goes b c → Goes c e → Goes b e
goes_then b c e s t = record {
  more = s.more ++ t.more;
  acts = t.acts ∙ ap (λ (xs : List Act). xs ++ t.more) s.acts ∙ append_assoc b.outs.acts s.more t.more;
  server = t.server ∙ s.server;
  round = t.round ∙ s.round;
  order = t.order ∙ s.order;
}

goes_by_windows : (b c : Sofar) → OnlyWindows b c → Goes b c
goes_by_windows b c o = record {
  more = [];
  acts = o.acts ∙ sym (append-nil b.outs.acts);
  server = ap (λ (d : DataState). d.server) o.state;
  round = ap (λ (d : DataState). is_some d.round) o.state;
  order = ap (λ (d : DataState). d.order) o.state;
}

-- a session that is released
released : (s : ℕ) (b : Sofar) → Goes (writes (act.Release b.state.server s) b) (releases s b)
released s b =
    go (only_locks (without_session b.state.locks s (length b.state.order)) (writes (act.Release b.state.server s) b)).state
    (does_locks (without_session b.state.locks s (length b.state.order)) (writes (act.Release b.state.server s) b))
  where
    go : (releases s b).state ≡ record b.state {
      locks = (only_locks (without_session b.state.locks s (length b.state.order)) (writes (act.Release b.state.server s) b)).locks;
      replies = (only_locks (without_session b.state.locks s (length b.state.order)) (writes (act.Release b.state.server s) b)).replies;
    } → Does (writes (act.Release b.state.server s) b) (releases s b) → Goes (writes (act.Release b.state.server s) b) (releases s b)
    go state does = record {
      more = _;
      acts = does.acts;
      server = does.server;
      round = ap (λ (d : DataState). is_some d.round) state;
      order = ap (λ (d : DataState). d.order) state;
    }

releases_goes : (s : ℕ) (b : Sofar) → Goes b (releases s b)
releases_goes s b =
    goes_then b (writes (act.Release b.state.server s) b) (releases s b)
    (record { more = act.Release b.state.server s ∷ []; acts = refl; server = refl; round = refl; order = refl }) (released s b)

all_goes : (ss : List ℕ) (b : Sofar) → Goes b (releases_all ss b)
all_goes [] b = record { more = []; acts = sym (append-nil b.outs.acts); server = refl; round = refl; order = refl }
all_goes (s ∷ ss) b = goes_then b (releases s b) (releases_all ss (releases s b)) (releases_goes s b) (all_goes ss (releases s b))

-- what was written stays
stays : (d q : ℕ) (b c : Sofar) → Goes b c → to_release d b.outs.acts q ≡ true → to_release d c.outs.acts q ≡ true
stays d q b c g is = subst (λ (xs : List Act). to_release d xs q ≡ true) (sym g.acts) (any_front (is_release d q) b.outs.acts g.more is)

writes_it : (d s : ℕ) (b : Sofar) → b.state.server ≡ d → to_release d (writes (act.Release b.state.server s) b).outs.acts s ≡ true
writes_it d s b its =
    list_any-append (is_release d s) b.outs.acts (act.Release b.state.server s ∷ [])
    ∙ ap (λ (t : Bool). list_any (is_release d s) b.outs.acts || ((t && (s == s)) || false)) (eq-eqb b.state.server d its)
    ∙ ap (λ (t : Bool). list_any (is_release d s) b.outs.acts || (t || false)) (eq-eqb s s refl)
    ∙ or_true (list_any (is_release d s) b.outs.acts)
  where
    or_true : (t : Bool) → (t || true) ≡ true
    or_true true = refl
    or_true false = refl

-- each of several sessions is released
all_written : (d q : ℕ) (ss : List ℕ) (b : Sofar) → b.state.server ≡ d → list_any (λ s. s == q) ss ≡ true
    → to_release d (releases_all ss b).outs.acts q ≡ true
all_written d q [] b its is = absurd (false≢true is)
all_written d q (s ∷ ss) b its is = go (s == q) refl is (λ has. all_written d q ss (releases s b) ((releases_goes s b).server ∙ its) has)
  where
    go : (t : Bool) → (s == q) ≡ t → (t || list_any (λ s. s == q) ss) ≡ true
        → (list_any (λ s. s == q) ss ≡ true → to_release d (releases_all ss (releases s b)).outs.acts q ≡ true)
        → to_release d (releases_all ss (releases s b)).outs.acts q ≡ true
    go true same has more =
        stays d q (releases s b) (releases_all ss (releases s b)) (all_goes ss (releases s b))
        (stays d q (writes (act.Release b.state.server s) b) (releases s b) (released s b)
        (subst (λ (n : ℕ). to_release d (writes (act.Release b.state.server s) b).outs.acts n ≡ true) (eqb-true s q same) (writes_it d s b its)))
    go false other has more = more has

-- the sessions of the Closes
closed_has : (q : ℕ) (es : List Entry) → list_any (closes q) es ≡ true → list_any (λ s. s == q) (closed_in es) ≡ true
closed_has q [] is = absurd (false≢true is)
closed_has q (Epoch number ∷ es) is = closed_has q es is
closed_has q (Opened session app ∷ es) is = closed_has q es is
closed_has q (Closed session ∷ es) is = go (session == q) is (closed_has q es)
  where
    go : (t : Bool) → (t || list_any (closes q) es) ≡ true → (list_any (closes q) es ≡ true → list_any (λ s. s == q) (closed_in es) ≡ true)
        → (t || list_any (λ s. s == q) (closed_in es)) ≡ true
    go true is more = refl
    go false is more = more is
closed_has q (Update session w job txn op ∷ es) is = closed_has q es is
closed_has q (Commit session w job txn ∷ es) is = closed_has q es is
closed_has q (Rollback session w job txn ∷ es) is = closed_has q es is

acks_goes : (ss : List ℕ) (b : Sofar) → Goes b (acks ss b)
acks_goes [] b = record { more = []; acts = sym (append-nil b.outs.acts); server = refl; round = refl; order = refl }
acks_goes (s ∷ ss) b =
    goes_then b (acks_one s b) (acks ss (acks_one s b)) (goes_by_windows b (acks_one s b) (only_puts s (Ack (head_of b.state s)) b)) (acks_goes ss
    (acks_one s b))

flush_goes : (b : Sofar) → Goes b (flushed b)
flush_goes b = go (only_flushed b)
  where
    go : OnlyWindows (becomes with_waiting b) (flushed b) → Goes b (flushed b)
    go o = record {
      more = [];
      acts = o.acts ∙ sym (append-nil b.outs.acts);
      server = ap (λ (d : DataState). d.server) o.state;
      round = ap (λ (d : DataState). is_some d.round) o.state;
      order = ap (λ (d : DataState). d.order) o.state;
    }

-- the end of a round writes more
rounds_stay : (d q : ℕ) (t : Coming) (b : Sofar) → is_some b.state.round ≡ is_some t.old.round → b.state.order ≡ t.old.order
    → to_release d b.outs.acts q ≡ true → to_release d (rounds t.now b).outs.acts q ≡ true
rounds_stay d q t b round order is =
    kept_by_pieces t (λ (x : Sofar). to_release d x.outs.acts q ≡ true) (λ p x may has. go x _ (does_piece t p x may) has)
    b (rounds t.now b) (rounds_pieces t b (round_same t b.state round order)) is
  where
    go : (x y : Sofar) → Does x y → to_release d x.outs.acts q ≡ true → to_release d y.outs.acts q ≡ true
    go x y does has = subst (λ (xs : List Act). to_release d xs q ≡ true) (sym does.acts) (any_front (is_release d q) x.outs.acts _ has)

-- A save releases each session whose Close it covers.
pub save_releases : (old : DataState) (now upto d q : ℕ) → old.server ≡ d → list_any (closes q) (part_saved old upto) ≡ true
    → to_release d (saved upto now (begun old)).outs.acts q ≡ true
save_releases old now upto d q its closed =
    rounds_stay d q t c (goes.round ∙ ap (λ (n : DataState). is_some n.round) (synced_state upto (begun old)))
    (goes.order ∙ ap (λ (n : DataState). n.order) (synced_state upto (begun old)))
    (stays d q (releases_all all b) c rest
    (all_written d q all b (ap (λ (n : DataState). n.server) (synced_state upto (begun old)) ∙ its) (closed_has q (part_saved old upto) closed)))
  where
    t : Coming
    t = record { old = old; now = now; input = data_in.Saved upto }

    b : Sofar
    b = synced_to upto (begun old)

    all : List ℕ
    all = closed_in (part_saved old upto)

    acked : List ℕ
    acked = savers old.order (part_saved old upto)

    c : Sofar
    c = acks acked (flushed (releases_all all b))

    rest : Goes (releases_all all b) c
    rest =
        goes_then (releases_all all b) (flushed (releases_all all b)) c (flush_goes (releases_all all b)) (acks_goes acked (flushed (releases_all all b)))

    goes : Goes b c
    goes = goes_then b (releases_all all b) c (all_goes all b) rest
