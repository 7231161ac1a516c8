-- Where a round is over, each live session learnt of the order.
use Rattle.std.proofs.Common.{◌≡◌, ℕ, zero, suc, Bool, true, false, not, ◌||◌, ◌==◌, List, [], ◌∷◌, length, filter, cond, if◌then◌else◌, take, Option, option_map, Some, None, is_some, refl, sym, ◌∙◌, ap, subst, arith}
use Rattle.std.specs.List.{list_any}
use Rattle.std.proofs.lemmas.Bool.{eq-eqb, eqb-true, false≢true, ne_eqb}
use Rattle.plain_orders.specs.declared.entry.Entry.{Entry}
use Rattle.plain_orders.specs.declared.entry.Entry.TheVariants.{Epoch, Opened, Closed, Update, Commit, Rollback}
use Rattle.plain_orders.specs.Entries.{live, live_from, live_session}
use Rattle.plain_orders.specs.Ordered.{IsOrdered}
use Rattle.plain_orders.specs.Sessions.{live_sessions, opened_sessions}
use Rattle.plain_orders.proofs.LiveSessions.{ordered_one_live}
use Rattle.plain_runs.specs.Plain.{Server}
use Rattle.ecp_messages.specs.declared.up.Up.{Up}
use Rattle.recovery_round.specs.RoundWords.{Round, is_another, is_over, without}
use Rattle.data_rules.specs.DataState.{DataState}
use Rattle.cluster_runs.specs.Machine.{Site}
use Rattle.cluster_invariant.specs.Ends.{RoundIs, is_done, is_undone}
use Rattle.cluster_invariant.specs.Link.{LaneCounts}
use Rattle.cluster_invariant.specs.Served.{HasLearnt}
use Rattle.cluster_invariant.specs.Words.{is_same}
use Rattle.cluster_invariant.proofs.Small.{of_some}
use Rattle.dials_server.proofs.GoNodes.{RoundFits}

-- a session of which a Done was taken learnt of the order
pub done_learnt : (x : Site) (s : ℕ) → LaneCounts (x.lane_at s x.past) → is_undone (λ q. x.lane_at q x.past) s ≡ false → HasLearnt x s
done_learnt x s counts done = go (x.lane_at s x.past).began refl
  where
    go : (o : Option ℕ) → (x.lane_at s x.past).began ≡ o → is_some (x.lane_at s x.past).began ≡ true
    go (Some dial) its = ap (λ (o : Option ℕ). is_some o) its
    go None its = absurd (false≢true (sym done ∙ ap not (ap (list_any is_done) (empty (x.lane_at s x.past).up_taken (x.lane_at s x.past).up (counts.no_up its)))))
      where
        empty : (k : ℕ) (ms : List Up) → ms ≡ [] → take k ms ≡ []
        empty zero ms none = refl
        empty (suc k) [] none = refl
        empty (suc k) (m ∷ ms) none = absurd cc

-- live sessions are among those that were opened

or_other : (a b : Bool) → (a ≡ false → b ≡ true) → (a || b) ≡ true
or_other true b is = refl
or_other false b is = is refl

pub live_opened : (b : Bool) (es : List Entry) (s : ℕ) → live_from b es s ≡ true → b ≡ false → list_any (is_same s) (opened_sessions es) ≡ true
live_opened b [] s lives none = absurd (false≢true (sym none ∙ lives))
live_opened b (Epoch number ∷ es) s lives none = live_opened b es s lives none
live_opened b (Opened session app ∷ es) s lives none =
    or_other (s == session) (list_any (is_same s) (opened_sessions es))
    (λ other.
    live_opened (if session == s then true else b) es s lives
    (ap (λ (t : Bool). if t then true else b) (ne_eqb session s (λ same. false≢true (sym other ∙ eq-eqb s session (sym same)))) ∙ none))
live_opened b (Closed session ∷ es) s lives none = live_opened (if session == s then false else b) es s lives (go (session == s))
  where
    go : (t : Bool) → (if t then false else b) ≡ false
    go true = refl
    go false = none
live_opened b (Update session w job txn op ∷ es) s lives none = live_opened b es s lives none
live_opened b (Commit session w job txn ∷ es) s lives none = live_opened b es s lives none
live_opened b (Rollback session w job txn ∷ es) s lives none = live_opened b es s lives none

pub among_filtered : (p : ℕ → Bool) (xs : List ℕ) (s : ℕ) → p s ≡ true → list_any (is_same s) xs ≡ true → list_any (is_same s) (filter p xs) ≡ true
among_filtered p [] s is there = absurd (false≢true there)
among_filtered p (k ∷ ks) s is there = go (p k) refl (s == k) refl there (among_filtered p ks s is)
  where
    go : (t : Bool) → p k ≡ t → (b : Bool) → (s == k) ≡ b → (b || list_any (is_same s) ks) ≡ true
        → (list_any (is_same s) ks ≡ true → list_any (is_same s) (filter p ks) ≡ true)
        → list_any (is_same s) (cond t (k ∷ filter p ks) (filter p ks)) ≡ true
    go true passes true same found more = ap (λ (b : Bool). b || list_any (is_same s) (filter p ks)) same
    go true passes false other found more = ap (λ (b : Bool). b || list_any (is_same s) (filter p ks)) other ∙ more found
    go false fails true same found more = absurd (false≢true (sym fails ∙ ap p (sym (eqb-true s k same)) ∙ is))
    go false fails false other found more = more found

none_passes : (p : ℕ → Bool) (xs : List ℕ) (s : ℕ) → filter p xs ≡ [] → list_any (is_same s) xs ≡ true → p s ≡ false
none_passes p [] s none there = absurd (false≢true there)
none_passes p (k ∷ ks) s none there = go (p k) refl none (s == k) refl there (none_passes p ks s)
  where
    go : (t : Bool) → p k ≡ t → cond t (k ∷ filter p ks) (filter p ks) ≡ [] → (b : Bool) → (s == k) ≡ b → (b || list_any (is_same s) ks) ≡ true
        → (filter p ks ≡ [] → list_any (is_same s) ks ≡ true → p s ≡ false) → p s ≡ false
    go true passes some b same found more = absurd (cc (some))
    go false fails none_of true same found more = ap p (eqb-true s k same) ∙ fails
    go false fails none_of false other found more = more none_of found

-- A live session that the round doesn't await learnt of the order.
pub over_learnt : (v : Server) (x : Site) (n : DataState) → IsOrdered n.order → ((s : ℕ) → LaneCounts (x.lane_at s x.past)) → RoundIs v n (λ q. x.lane_at q x.past) → (r : Round)
    → n.round ≡ Some r → is_over r ≡ true → (app s : ℕ) → live_session n.order app ≡ Some s → HasLearnt x s
over_learnt v x n ordered counts round r its over app s has =
    done_learnt x s (counts s)
    (none_passes (is_undone (λ q. x.lane_at q x.past)) (live_sessions n.order) s
    (sym (of_some (λ (r : Round). r.awaited ≡ filter (is_undone (λ q. x.lane_at q x.past)) (live_sessions n.order)) n.round r its round.awaited) ∙ empty r.awaited over)
    (among_filtered (live n.order) (opened_sessions n.order) s lives (live_opened false n.order s lives refl)))
  where
    lives : live n.order s ≡ true
    lives = (ordered_one_live n.order ordered).lives app s has

    empty : (xs : List ℕ) → (length xs == 0) ≡ true → xs ≡ []
    empty [] is = refl
    empty (k ∷ ks) is = absurd (omega (arith, eqb-true (length (k ∷ ks)) 0 is))

-- The same where the session that the round still awaits learnt of it.
pub over_but_one : (v : Server) (x : Site) (n : DataState) (q : ℕ) → IsOrdered n.order → ((s : ℕ) → LaneCounts (x.lane_at s x.past)) → RoundIs v n (λ s. x.lane_at s x.past)
    → HasLearnt x q → RoundFits x n.order (option_map (λ r. without r q) n.round)
over_but_one v x n q ordered counts round learnt r its over app s has = go n.round refl its
  where
    lives : list_any (is_same s) (live_sessions n.order) ≡ true
    lives = among_filtered (live n.order) (opened_sessions n.order) s ((ordered_one_live n.order ordered).lives app s has) (live_opened false n.order s ((ordered_one_live n.order ordered).lives app s has) refl)

    no_more : (xs : List ℕ) → (length xs == 0) ≡ true → xs ≡ []
    no_more [] is = refl
    no_more (k ∷ ks) is = absurd (omega (arith, eqb-true (length (k ∷ ks)) 0 is))

    by : (t : Round) → n.round ≡ Some t → is_over (without t q) ≡ true → (b : Bool) → is_undone (λ i. x.lane_at i x.past) s ≡ b → HasLearnt x s
    by t round_is ends false done = done_learnt x s (counts s) done
    by t round_is ends true undone =
        subst (λ (i : ℕ). HasLearnt x i) (sym (eqb-true s q same)) learnt
      where
        awaited : list_any (is_same s) t.awaited ≡ true
        awaited =
            ap (list_any (is_same s)) (of_some (λ (u : Round). u.awaited ≡ filter (is_undone (λ i. x.lane_at i x.past)) (live_sessions n.order)) n.round t round_is round.awaited)
            ∙ among_filtered (is_undone (λ i. x.lane_at i x.past)) (live_sessions n.order) s undone lives

        same : (s == q) ≡ true
        same = unlike (s == q) (none_passes (is_another q) t.awaited s (no_more (filter (is_another q) t.awaited) ends) awaited)
          where
            unlike : (b : Bool) → not b ≡ false → b ≡ true
            unlike true is = refl
            unlike false is = absurd (false≢true (sym is))

    go : (o : Option Round) → n.round ≡ o → option_map (λ t. without t q) o ≡ Some r → HasLearnt x s
    go None none is = absurd (cc (is))
    go (Some t) some is = by t some (ap is_over (round_same (without t q) r is) ∙ over) (is_undone (λ i. x.lane_at i x.past) s) refl
      where
        round_same : (i j : Round) → ◌≡◌ {A = Option Round} (Some i) (Some j) → i ≡ j
        round_same i j same = cc (same)
