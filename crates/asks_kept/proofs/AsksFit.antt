-- What a data server's step asks of its table of locks fits: a job asks once, a claim is of a job that doesn't ask, and as the requests of a closed session go none of its others is granted.
use Rattle.std.proofs.Common.{◌≡◌, ◌≢◌, ℕ, Bool, true, false, cond, List, [], ◌∷◌, ◌++◌, length, drop, filter, refl, sym, ◌∙◌, ap, subst}
use Rattle.std.specs.Prelude.{◌==◌}
use Rattle.std.specs.List.{AllByRecursion}
use Rattle.std.proofs.lemmas.Bool.{and_parts, eqb-true, true≢false}
use Rattle.std.proofs.lemmas.List.Elements.{filter-append}
use Rattle.plain_orders.specs.declared.entry.Entry.{Entry}
use Rattle.plain_orders.specs.declared.mode.Mode.{Mode}
use Rattle.plain_orders.specs.Entries.{live}
use Rattle.lock_table.specs.declared.rows.Request.{Request}
use Rattle.lock_table.specs.declared.rows.Who.{Who}
use Rattle.lock_table.specs.LockWords.{Locks, is_other_ticket, is_same_who, pass, without_request}
use Rattle.ecp_messages.specs.declared.up.Up.{Up}
use Rattle.ecp_messages.specs.declared.up.Up.TheVariants as up
use Rattle.ecp_messages.specs.declared.up.UpFrame.{UpFrame}
use Rattle.data_rules.specs.DataState.{DataState}
use Rattle.data_rules.specs.declared.rows.Role.TheVariants.{Bound}
use Rattle.data_rules.specs.Conns.{role_of}
use Rattle.data_rules.specs.Puts.{Sofar, window_of}
use Rattle.cluster_runs.specs.Sent.{Lane, downs_taken, ups_taken}
use Rattle.cluster_runs.specs.Machine.{Site}
use Rattle.cluster_invariant.specs.Asks.{FollowsAsks, LaneAsks, NodeAsks, RequestIs, is_over}
use Rattle.cluster_invariant.specs.Dials.{RoleIs}
use Rattle.cluster_invariant.specs.Served.{AllWait, is_of_who}
use Rattle.cluster_invariant.proofs.AllLists.{all_both, all_filtered, all_follow}
use Rattle.cluster_invariant.proofs.Small.{of_some}
use Rattle.cluster_invariant.proofs.PieceMay.{Asked, AskersLive, CancelsMay, Coming, IsLast, LivesUnless, TakesMay, begins}
use Rattle.link_kept.proofs.CancelWaits.{behind_grants, wait_front}
use Rattle.link_kept.proofs.FramesFit.{FrameAt, begins_old, taken_next}
use Rattle.link_kept.proofs.LockSessions.{RequestsOf}
use Rattle.link_kept.proofs.LockWaits.{IsAlone, TableWaits}
use Rattle.asks_kept.proofs.Follows.{follow_at, none_found, none_taken, over_none}
use Rattle.asks_kept.proofs.UpKinds.{Before, all_before, any_ask, any_for, any_ticket}

-- one request

-- a request that waits isn't over
waits_open : (lane : Lane) (n : DataState) (r : Request) → RequestIs lane n r → is_over (ups_taken lane) (downs_taken lane) r.ticket ≡ false
waits_open lane n r is = over_none (ups_taken lane) (downs_taken lane) r.ticket is.wanted (none_taken _ lane.down_taken lane.down is.ungranted)

-- what is known of the next message of a lane by those that were taken
pub next_follows : (lane : Lane) (m : Up) (rest : List Up) → LaneAsks lane → drop lane.up_taken lane.up ≡ m ∷ rest → FollowsAsks (ups_taken lane) (downs_taken lane) m
next_follows lane m rest asks next = follow_at [] (downs_taken lane) lane.up_taken lane.up m rest asks.follow next

module _ (lane_of : ℕ → Lane) (n : DataState) where
  -- the session and the job of a holder
  holder_parts : (r : Request) (w : Who) → is_same_who r.who w ≡ true → (r.who.session ≡ w.session) × (r.who.job ≡ w.job)
  holder_parts r w same =
      let parts : ((r.who.session == w.session) ≡ true) × ((r.who.job == w.job) ≡ true) = and_parts (r.who.session == w.session) (r.who.job == w.job) same in
      (eqb-true r.who.session w.session parts.0, eqb-true r.who.job w.job parts.1)

  -- No request of the job waits as it asks.
  pub asks_alone : (w : Who) (ticket : ℕ) (mode : Mode) (key : List ℕ) (rest : List Up) → LaneAsks (lane_of w.session)
      → drop (lane_of w.session).up_taken (lane_of w.session).up ≡ up.Ask ticket w.job mode key ∷ rest → (rs : List Request)
      → AllByRecursion (λ (r : Request). RequestIs (lane_of r.who.session) n r) rs → IsAlone w rs
  asks_alone w ticket mode key rest asks next rs all = none_found (λ (r : Request). RequestIs (lane_of r.who.session) n r) (is_of_who w) not rs all
    where
      lane : Lane
      lane = lane_of w.session

      not : (r : Request) → is_same_who r.who w ≡ true → RequestIs (lane_of r.who.session) n r → ⊥
      not r same is =
          let parts : (r.who.session ≡ w.session) × (r.who.job ≡ w.job) = holder_parts r w same in
          let at : RequestIs lane n r = subst (λ (s : ℕ). RequestIs (lane_of s) n r) parts.0 is in
          let before : Before (ups_taken lane) (downs_taken lane) ticket w.job r.ticket r.who.job =
          all_before (ups_taken lane) (downs_taken lane) ticket w.job (ups_taken lane) (next_follows lane (up.Ask ticket w.job mode key) rest asks next) r.ticket r.who.job
          (any_for r (ups_taken lane) at.asked) in
          true≢false (sym (before.1 parts.1) ∙ waits_open lane n r at)

  -- Nor does one as it claims.
  pub claims_alone : (w : Who) (mode : Mode) (number at : ℕ) (key : List ℕ) (rest : List Up) → LaneAsks (lane_of w.session)
      → drop (lane_of w.session).up_taken (lane_of w.session).up ≡ up.Claim w.job mode number at key ∷ rest → (rs : List Request)
      → AllByRecursion (λ (r : Request). RequestIs (lane_of r.who.session) n r) rs → IsAlone w rs
  claims_alone w mode number at key rest asks next rs all = none_found (λ (r : Request). RequestIs (lane_of r.who.session) n r) (is_of_who w) not rs all
    where
      lane : Lane
      lane = lane_of w.session

      not : (r : Request) → is_same_who r.who w ≡ true → RequestIs (lane_of r.who.session) n r → ⊥
      not r same is =
          let parts : (r.who.session ≡ w.session) × (r.who.job ≡ w.job) = holder_parts r w same in
          let here : RequestIs lane n r = subst (λ (s : ℕ). RequestIs (lane_of s) n r) parts.0 is in
          true≢false (sym (any_ask r.ticket (ups_taken lane) (any_ticket r.ticket r.who.job (ups_taken lane) (any_for r (ups_taken lane) here.asked)))
          ∙ next_follows lane (up.Claim w.job mode number at key) rest asks next)

-- a closed session

-- As the last request of a closed session goes, those that are granted are of live ones.
pub cancel_lives : (l : Locks) (es : List Entry) (r : Request) (at : ℕ) → TableWaits l → IsLast r l.requests → AllByRecursion (LivesUnless r.who.session es) l.requests
    → RequestsOf (λ s. live es s ≡ true) (without_request l r.who.session r.ticket at).grants
cancel_lives l es r at table last others =
    subst (λ (rs : List Request). RequestsOf Live (pass (record l { requests = rs }) [] [] rs at).grants) (sym kept)
    (behind_grants Live (record l { requests = last.before ++ filter other last.behind }) [] [] last.before (filter other last.behind) at front tt rest)
  where
    Live : ℕ → Type 0
    Live s = live es s ≡ true

    other : Request → Bool
    other = is_other_ticket r.who.session r.ticket

    -- those before it stay
    stay : (rs : List Request) → AllByRecursion (λ (q : Request). other q ≡ true) rs → filter other rs ≡ rs
    stay [] all = refl
    stay (q ∷ rs) all = ap (λ (b : Bool). cond b (q ∷ filter other rs) (filter other rs)) all.0 ∙ ap (λ (xs : List Request). q ∷ xs) (stay rs all.1)

    kept : filter other l.requests ≡ last.before ++ filter other last.behind
    kept = ap (filter other) last.its ∙ filter-append other last.before last.behind ∙ ap (λ (xs : List Request). xs ++ filter other last.behind) (stay last.before last.others)

    front : AllWait l.holds [] last.before
    front = wait_front l.holds [] last.before last.behind (subst (λ (rs : List Request). AllWait l.holds [] rs) last.its table.wait)

    behind_of : (xs ys : List Request) → AllByRecursion (LivesUnless r.who.session es) (xs ++ ys) → AllByRecursion (LivesUnless r.who.session es) ys
    behind_of [] ys all = all
    behind_of (x ∷ xs) ys all = behind_of xs ys all.1

    rest : RequestsOf Live (filter other last.behind)
    rest =
        all_follow (λ (q : Request). (q.who.session ≢ r.who.session) × LivesUnless r.who.session es q) (λ (q : Request). live es q.who.session ≡ true) (λ q both. both.1 both.0)
        (filter other last.behind)
        (all_both (λ (q : Request). q.who.session ≢ r.who.session) (LivesUnless r.who.session es) (filter other last.behind) last.none
        (all_filtered (LivesUnless r.who.session es) other last.behind
        (behind_of last.before last.behind (subst (AllByRecursion (LivesUnless r.who.session es)) last.its others))))

-- where a step makes them

module _ (x : Site) (dead : ℕ → Bool) (t : Coming) (at_frame : FrameAt x dead t.old t.input) where
  -- a message that is just taken is the next one of its lane
  pub just_next : (conn session : ℕ) (f : UpFrame) → TakesMay t conn session f (begins t)
      → (rest : List Up) × (drop (x.lane_at session x.past).up_taken (x.lane_at session x.past).up ≡ f.message ∷ rest)
  just_next conn session f may =
      subst (λ (k : ℕ). (rest : List Up) × (drop k (x.lane_at session x.past).up ≡ f.message ∷ rest))
      (ap (λ (d : DataState). (window_of d session).taken) same ∙ (at_frame.windows.each session lives).taken)
      (taken_next x dead t at_frame conn session f (begins t) may)
    where
      same : (begins t).state ≡ t.old
      same = begins_old t conn f may.on.came

      lives : live t.old.order session ≡ true
      lives =
          (of_some (RoleIs x t.old conn) (role_of t.old conn) (Bound session) (sym (ap (λ (d : DataState). role_of d conn) same) ∙ may.on.bound) (at_frame.dials.roles conn)).lives

  module _ (lanes : (session k : ℕ) → LaneAsks (x.lane_at session k)) (node : NodeAsks (λ s. x.lane_at s x.past) t.old) where
    -- the table is as it was as the step began
    asked_locks : (session : ℕ) (m : Up) (b : Sofar) → Asked t session m b → b.state.locks ≡ t.old.locks
    asked_locks session m b asked =
        ap (λ (c : Sofar). c.state.locks) asked.just ∙ ap (λ (d : DataState). d.locks) (begins_old t asked.its.conn asked.its.up asked.its.on.came)

    pub asked_next : (session : ℕ) (m : Up) (b : Sofar) → Asked t session m b
        → (rest : List Up) × (drop (x.lane_at session x.past).up_taken (x.lane_at session x.past).up ≡ m ∷ rest)
    asked_next session m b asked =
        let next : (rest : List Up) × (drop (x.lane_at session x.past).up_taken (x.lane_at session x.past).up ≡ asked.its.up.message ∷ rest) =
        just_next asked.its.conn session asked.its.up asked.first in
        (next.0, next.1 ∙ ap (λ (u : Up). u ∷ next.0) asked.says)

    -- A job that asks has no request that waits.
    pub asks_fit : (r : Request) (b : Sofar) → Asked t r.who.session (up.Ask r.ticket r.who.job r.mode r.name) b → IsAlone r.who b.state.locks.requests
    asks_fit r b asked =
        let next : (rest : List Up) × (drop (x.lane_at r.who.session x.past).up_taken (x.lane_at r.who.session x.past).up ≡ up.Ask r.ticket r.who.job r.mode r.name ∷ rest) =
        asked_next r.who.session (up.Ask r.ticket r.who.job r.mode r.name) b asked in
        subst (λ (l : Locks). IsAlone r.who l.requests) (sym (asked_locks r.who.session (up.Ask r.ticket r.who.job r.mode r.name) b asked))
        (asks_alone (λ s. x.lane_at s x.past) t.old r.who r.ticket r.mode r.name next.0 (lanes r.who.session x.past) next.1 t.old.locks.requests node.requests)

    -- Nor has one that claims.
    pub claims_fit : (w : Who) (mode : Mode) (number at : ℕ) (key : List ℕ) (b : Sofar) → Asked t w.session (up.Claim w.job mode number at key) b
        → IsAlone w b.state.locks.requests
    claims_fit w mode number at key b asked =
        let next : (rest : List Up) × (drop (x.lane_at w.session x.past).up_taken (x.lane_at w.session x.past).up ≡ up.Claim w.job mode number at key ∷ rest) =
        asked_next w.session (up.Claim w.job mode number at key) b asked in
        subst (λ (l : Locks). IsAlone w l.requests) (sym (asked_locks w.session (up.Claim w.job mode number at key) b asked))
        (claims_alone (λ s. x.lane_at s x.past) t.old w mode number at key next.0 (lanes w.session x.past) next.1 t.old.locks.requests node.requests)

    -- As requests of a closed session go, one after the other, those that are granted are of live sessions.
    pub cancels_fit : (r : Request) (b : Sofar) → AskersLive t.old → TableWaits b.state.locks → CancelsMay t r b
        → RequestsOf (λ s. live b.state.order s ≡ true) (without_request b.state.locks r.who.session r.ticket (length b.state.order)).grants
    cancels_fit r b lives table may =
        cancel_lives b.state.locks b.state.order r (length b.state.order) table (may.last node.one_each) (may.others lives)
