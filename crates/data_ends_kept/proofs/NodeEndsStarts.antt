-- The data ends of a node that starts: each live session's end is in the round, or there is none.
use Rattle.std.proofs.Common.{◌≡◌, ◌≢◌, ◌<◌, ◌⊎◌, inl, inr, ℕ, ◌+◌, ◌&&◌, ◌||◌, ◌==◌, Bool, true, false, not, cond, List, [], ◌∷◌, ◌++◌, length, Option, Some, None, is_some, option_map, map, refl, sym, ◌∙◌, ap, subst, arith, eqb, if◌then◌else◌}
use Rattle.std.specs.Prelude.{IfSome, IsSomeAnd, drop}
use Rattle.std.specs.List.{AllByRecursion, filter, find, list_all, list_any}
use Rattle.std.proofs.lemmas.Bool.{eqb-true, eq-eqb, ne_eqb, false≢true}
use Rattle.std.proofs.lemmas.List.{get_or-replicate, get_or-set_same, get_or-set_other, length-replicate, length-set}
use Rattle.plain_orders.specs.declared.entry.Entry.{Entry}
use Rattle.plain_orders.specs.declared.entry.Entry.TheVariants.{Epoch}
use Rattle.plain_orders.specs.declared.layout.Times.{Times}
use Rattle.plain_orders.specs.Entries.{last_epoch, live, live_session}
use Rattle.plain_orders.specs.Ordered.{IsOrdered}
use Rattle.plain_orders.specs.Sessions.{is_close, live_sessions}
use Rattle.plain_orders.specs.Times.{until}
use Rattle.plain_orders.proofs.EntryLemmas.{live_session-push}
use Rattle.plain_orders.proofs.LiveSessions.{ordered_one_live}
use Rattle.plain_runs.specs.OrderRows.{due_of}
use Rattle.plain_runs.specs.Plain.{Server}
use Rattle.plain_runs.proofs.Lists.{live_has}
use Rattle.link_states.specs.declared.data_link.DataLink.TheVariants.{Free, Recovering}
use Rattle.recovery_round.specs.RoundWords.{Round}
use Rattle.data_rules.specs.DataState.{DataState}
use Rattle.data_rules.specs.declared.limits.TheConstants.{APP_LIMIT}
use Rattle.data_rules.specs.declared.rows.LiveEnd.{LiveEnd}
use Rattle.data_rules.specs.declared.rows.Caller.{Caller}
use Rattle.data_rules.specs.declared.rows.Conn.{Conn}
use Rattle.data_rules.specs.Conns.{is_conn, link_of, role_in, with_link}
use Rattle.data_rules.specs.Opening.{all_apps, ends_among, is_round_over, with_end}
use Rattle.data_rules.specs.Step.{recovering, round_of, started, with_epoch}
use Rattle.cluster_runs.specs.Machine.{Site}
use Rattle.cluster_runs.specs.Sent.{Lane, no_lane}
use Rattle.cluster_invariant.specs.Ends.{CallerIs, LinkIs, app_of_caller, NodeEnds, due_in, is_undone}
use Rattle.cluster_invariant.specs.Words.{all_differ, is_same}
use Rattle.data_pieces.proofs.Places.{in_range}
use Rattle.data_pieces.proofs.AwaitedSessions.{quiet_sessions}

-- the ends that recover

recovering_places : (xs : List LiveEnd) (due : ℕ) (d : DataState) → length (recovering xs due d).links ≡ length d.links
recovering_places [] due d = refl
recovering_places (x ∷ xs) due d = recovering_places xs due (with_link x.app (Recovering due) d) ∙ length-set d.links x.app (Recovering due)

-- an end with a live session recovers
recovers : (apps : List ℕ) (es : List Entry) (due app s : ℕ) (d : DataState) → app < length d.links → live_session es app ≡ Some s
    → (list_any (is_same app) apps ≡ true) ⊎ (link_of d app ≡ Recovering due) → link_of (recovering (ends_among apps es) due d) app ≡ Recovering due
recovers [] es due app s d low its (inl x) = absurd (false≢true x)
recovers [] es due app s d low its (inr x) = x
recovers (a ∷ apps) es due app s d low its why = go (live_session es a) refl (eqb app a) refl (λ k. recovers apps es due app s k)
  where
    at : DataState
    at = with_link a (Recovering due) d

    there : app < length at.links
    there = omega (arith, low, length-set d.links a (Recovering due))

    rest : app ≢ a → (list_any (is_same app) apps ≡ true) ⊎ (link_of d app ≡ Recovering due)
    rest differs = elim why [
      | inl x ↦ inl (sym (ap (λ (b : Bool). b || list_any (is_same app) apps) (ne_eqb app a differs)) ∙ x)
      | inr x ↦ inr x
    ]

    moved : (o : (list_any (is_same app) apps ≡ true) ⊎ (link_of d app ≡ Recovering due)) → app ≢ a → (list_any (is_same app) apps ≡ true) ⊎ (link_of at app ≡ Recovering due)
    moved (inl x) differs = inl x
    moved (inr x) differs = inr (get_or-set_other d.links a app (Recovering due) Free differs ∙ x)

    go : (o : Option ℕ) → live_session es a ≡ o → (b : Bool) → eqb app a ≡ b
        → ((k : DataState) → app < length k.links → live_session es app ≡ Some s → (list_any (is_same app) apps ≡ true) ⊎ (link_of k app ≡ Recovering due) → link_of (recovering (ends_among apps es) due k) app ≡ Recovering due)
        → link_of (recovering (with_end o a (ends_among apps es)) due d) app ≡ Recovering due
    go None none true same more = absurd (let both : Some s ≡ None = sym its ∙ ap (live_session es) (eqb-true app a same) ∙ none in cc)
    go None none false other more = more d low its (rest (λ same. false≢true (sym other ∙ eq-eqb app a same)))
    go (Some q) has true same more =
        more at there its
        (inr (subst (λ (n : ℕ). link_of at n ≡ Recovering due) (sym (eqb-true app a same))
        (get_or-set_same d.links a (Recovering due) Free (subst (λ (n : ℕ). n < length d.links) (eqb-true app a same) low))))
    go (Some q) has false other more =
        more at there its (moved (rest (λ same. false≢true (sym other ∙ eq-eqb app a same))) (λ same. false≢true (sym other ∙ eq-eqb app a same)))

-- one without a live session stays
stays_free : (apps : List ℕ) (es : List Entry) (due app : ℕ) (d : DataState) → live_session es app ≡ None → link_of (recovering (ends_among apps es) due d) app ≡ link_of d app
stays_free [] es due app d none = refl
stays_free (a ∷ apps) es due app d none = go (live_session es a) refl (λ k. stays_free apps es due app k none)
  where
    go : (o : Option ℕ) → live_session es a ≡ o → ((k : DataState) → link_of (recovering (ends_among apps es) due k) app ≡ link_of k app) → link_of (recovering (with_end o a (ends_among apps es)) due d) app ≡ link_of d app
    go None free more = more d
    go (Some q) has more =
        more (with_link a (Recovering due) d)
        ∙ get_or-set_other d.links a app (Recovering due) Free (λ same. absurd (let both : Some q ≡ None = sym has ∙ ap (live_session es) (sym same) ∙ none in cc))

-- the round

some_length : (s : ℕ) (ss : List ℕ) → (length (s ∷ ss) == 0) ≡ false
some_length s ss = ne_eqb (length (s ∷ ss)) 0 (λ same. absurd (omega (arith, same)))

-- where a session is live there is a round
has_round : (es : List Entry) (s due : ℕ) → live es s ≡ true → IsSomeAnd (round_of (live_sessions es) due) (λ r. r.due ≡ due)
has_round es s due lives = go (live_sessions es) refl
  where
    go : (ss : List ℕ) → live_sessions es ≡ ss → IsSomeAnd (round_of ss due) (λ r. r.due ≡ due)
    go [] none = absurd (false≢true (live_has es (λ _. false) s (ap (list_all (λ _. false)) none) lives))
    go (q ∷ ss) some = refl

filter_all : (p : ℕ → Bool) → ((n : ℕ) → p n ≡ true) → (ns : List ℕ) → filter p ns ≡ ns
filter_all p all [] = refl
filter_all p all (n ∷ ns) = ap (λ (b : Bool). cond b (n ∷ filter p ns) (filter p ns)) (all n) ∙ ap (λ (xs : List ℕ). n ∷ xs) (filter_all p all ns)

-- what a node has that starts with these entries, and a round that is due then
record Started (es : List Entry) (due : ℕ) (n : DataState) : Type 0 where
  order : n.order ≡ es ++ Epoch (last_epoch es + 1) ∷ []
  round : n.round ≡ round_of (live_sessions es) due
  conns : n.conns ≡ []
  callers : n.callers ≡ []
  places : length n.links ≡ APP_LIMIT
  free : (app : ℕ) → app < APP_LIMIT → live_session es app ≡ None → link_of n app ≡ Free
  recovers : (app s : ℕ) → app < APP_LIMIT → live_session es app ≡ Some s → link_of n app ≡ Recovering due

module _ (v : Server) (y : Site) (n : DataState) (es : List Entry) (at : ℕ) (its : Started es at n) (due : v.due ≡ (if length (live_sessions es) == 0 then None else Some at))
    (unbroken : (app : ℕ) → v.end_at app ≡ None) (lanes : (s : ℕ) → y.lane_at s y.past ≡ no_lane) (ordered : IsOrdered es)
  where
    live_in : (app : ℕ) → live_session n.order app ≡ live_session es app
    live_in app = ap (λ (xs : List Entry). live_session xs app) its.order ∙ live_session-push es (Epoch (last_epoch es + 1)) app

    link_is : (app : ℕ) → app < APP_LIMIT → LinkIs v n app (link_of n app)
    link_is app low = go (live_session es app) refl
      where
        go : (o : Option ℕ) → live_session es app ≡ o → LinkIs v n app (link_of n app)
        go None none = subst (LinkIs v n app) (sym (its.free app low none)) (live_in app ∙ none)
        go (Some s) has =
            subst (LinkIs v n app) (sym (its.recovers app s low has))
            (record {
              in_round = subst (λ (o : Option Round). IsSomeAnd o (λ r. r.due ≡ at)) (sym its.round) (has_round es s at ((ordered_one_live es ordered).lives app s has));
              has_live = ap is_some (live_in app ∙ has);
            })

    round_due : (ss : List ℕ) → option_map due_in (round_of ss at) ≡ (if length ss == 0 then None else Some at)
    round_due [] = refl
    round_due (s ∷ ss) = sym (ap (λ (b : Bool). if b then None else Some at) (some_length s ss))

    undone : (s : ℕ) → is_undone (λ k. y.lane_at k y.past) s ≡ true
    undone s = ap (λ (x : Lane). is_undone (λ k. x) s) (lanes s)

    awaited : (ss : List ℕ) → live_sessions es ≡ ss → IfSome (round_of ss at) (λ r. r.awaited ≡ filter (is_undone (λ k. y.lane_at k y.past)) (live_sessions n.order))
    awaited [] is = tt
    awaited (s ∷ ss) is =
        sym (filter_all (is_undone (λ k. y.lane_at k y.past)) undone (live_sessions n.order) ∙ ap live_sessions its.order ∙ quiet_sessions es (Epoch (last_epoch es + 1)) refl ∙ is)

    is_on : (ss : List ℕ) → is_round_over n (round_of ss at) ≡ false
    is_on [] = refl
    is_on (s ∷ ss) = ap (λ (b : Bool). b && not (list_any is_close (drop n.synced n.order))) (some_length s ss)

    none_broke : (o : Option Round) → IfSome o (λ r. (app : ℕ) → v.end_at app ≡ None)
    none_broke None = tt
    none_broke (Some r) = unbroken

    -- All of its data ends.
    started_ends : NodeEnds v y n
    started_ends = record {
      places = its.places;
      links = link_is;
      round = record {
        due = ap (option_map due_in) its.round ∙ round_due (live_sessions es) ∙ sym due;
        awaited = subst (λ (o : Option Round). IfSome o (λ r. r.awaited ≡ filter (is_undone (λ k. y.lane_at k y.past)) (live_sessions n.order))) (sym its.round) (awaited (live_sessions es) refl);
        is_on = ap (is_round_over n) its.round ∙ is_on (live_sessions es);
        unbroken = none_broke n.round;
      };
      callers = record {
        out_of_round = λ none. its.callers;
        one_each = ap (λ (cs : List Caller). all_differ (map app_of_caller cs)) its.callers;
        each = subst (AllByRecursion (CallerIs n y)) (sym its.callers) tt;
        all = λ conn waits. absurd (let none : option_map role_in (find (is_conn conn) n.conns) ≡ None = ap (λ (cs : List Conn). option_map role_in (find (is_conn conn) cs)) its.conns in cc);
      };
    }

-- what the ends leave that recover
record Rest (n k : DataState) : Type 0 where
  order : k.order ≡ n.order
  conns : k.conns ≡ n.conns
  callers : k.callers ≡ n.callers

recovering_rest : (xs : List LiveEnd) (due : ℕ) (d : DataState) → Rest d (recovering xs due d)
recovering_rest [] due d = record { order = refl; conns = refl; callers = refl }
recovering_rest (x ∷ xs) due d = go (recovering_rest xs due (with_link x.app (Recovering due) d))
  where
    go : Rest (with_link x.app (Recovering due) d) (recovering xs due (with_link x.app (Recovering due) d)) → Rest d (recovering xs due (with_link x.app (Recovering due) d))
    go r = record { order = r.order; conns = r.conns; callers = r.callers }

-- the links of all ends, where each has its place
record Links (limit : ℕ) (apps : List ℕ) (es : List Entry) (due : ℕ) (d : DataState) : Type 0 where
  places : length d.links ≡ limit
  all : (app : ℕ) → app < limit → list_any (is_same app) apps ≡ true
  free : (app : ℕ) → app < limit → link_of d app ≡ Free

started_is : (limit : ℕ) (apps : List ℕ) (es : List Entry) (due : ℕ) (d : DataState) → limit ≡ APP_LIMIT → d.order ≡ es ++ Epoch (last_epoch es + 1) ∷ [] → d.conns ≡ [] → d.callers ≡ []
    → Links limit apps es due d → Started es due (record (recovering (ends_among apps es) due d) { round = round_of (live_sessions es) due })
started_is limit apps es due d same order conns callers h = go (recovering_rest (ends_among apps es) due d)
  where
    low_in : (app : ℕ) → app < APP_LIMIT → app < limit
    low_in app low = subst (λ (n : ℕ). app < n) (sym same) low

    go : Rest d (recovering (ends_among apps es) due d) → Started es due (record (recovering (ends_among apps es) due d) { round = round_of (live_sessions es) due })
    go r = record {
      order = r.order ∙ order;
      round = refl;
      conns = r.conns ∙ conns;
      callers = r.callers ∙ callers;
      places = recovering_places (ends_among apps es) due d ∙ h.places ∙ same;
      free = λ app low none. stays_free apps es due app d none ∙ h.free app (low_in app low);
      recovers = λ app s low has. recovers apps es due app s d (subst (λ (n : ℕ). app < n) (sym h.places) (low_in app low)) has (inl (h.all app (low_in app low)));
    }

-- A node that starts.
pub node_ends_begin : (v : Server) (y : Site) (d : ℕ) (times : Times) (es : List Entry) (now : ℕ) → v.due ≡ due_of es now times.round → ((app : ℕ) → v.end_at app ≡ None)
    → ((s : ℕ) → y.lane_at s y.past ≡ no_lane) → IsOrdered es → NodeEnds v y (started d times es now)
node_ends_begin v y d times es now due unbroken lanes ordered =
    started_ends v y (started d times es now) es (until now times.round)
    (started_is APP_LIMIT all_apps es (until now times.round) (with_epoch d times es) refl refl refl refl
    (record {
      places = length-replicate APP_LIMIT Free;
      all = λ app low. in_range APP_LIMIT 0 app (omega arith) low;
      free = λ app low. get_or-replicate APP_LIMIT app Free Free low;
    }))
    due unbroken lanes ordered
