-- What a running node has of its sessions, after each of its steps.
use Rattle.std.proofs.Common.{◌≡◌, ◌≢◌, ◌≤◌, ◌⊎◌, inl, inr, ℕ, zero, suc, ◌+◌, ◌-◌, Bool, true, false, List, [], ◌∷◌, ◌++◌, length, drop, Some, refl, sym, ◌∙◌, ap, subst, arith}
use Rattle.std.specs.List.{AllByRecursion, list_any}
use Rattle.std.proofs.lemmas.Bool.{false≢true, or_parts}
use Rattle.std.proofs.lemmas.List.{length-append, drop-drop}
use Rattle.plain_orders.specs.declared.entry.Entry.{Entry}
use Rattle.plain_orders.specs.declared.entry.Entry.TheVariants.{Epoch, Opened, Closed, Update, Commit, Rollback}
use Rattle.plain_orders.specs.Entries.{live}
use Rattle.plain_orders.specs.ItemEntries.{is_item_of}
use Rattle.plain_orders.specs.Ordered.{IsOrdered, MayFollow}
use Rattle.plain_orders.proofs.OrderLemmas.{ordered_induction}
use Rattle.plain_runs.specs.Plain.{Server}
use Rattle.lock_table.specs.declared.rows.Hold.{Hold}
use Rattle.lock_table.specs.declared.rows.Request.{Request}
use Rattle.block_holders.specs.declared.noted.Noted.{Noted}
use Rattle.data_rules.specs.DataState.{DataState}
use Rattle.data_rules.specs.declared.data_in.DataIn.{DataIn}
use Rattle.data_rules.specs.declared.data_in.DataIn.TheVariants as data_in
use Rattle.data_rules.specs.declared.data_outs.DataOuts.{DataOuts}
use Rattle.data_rules.specs.declared.rows.Reply.{Reply}
use Rattle.data_rules.specs.declared.rows.Role.TheVariants.{Bound}
use Rattle.data_rules.specs.declared.rows.Says.{Says}
use Rattle.data_rules.specs.declared.rows.Says.TheVariants.{NewWelcome, EpochWelcome, ResetOf, GrantOf, AnswerOf}
use Rattle.data_rules.specs.Conns.{role_of}
use Rattle.data_rules.specs.Puts.{Sofar, begun}
use Rattle.data_rules.specs.Saving.{has_item_of}
use Rattle.data_rules.specs.Step.{DataMay, DataStep, made}
use Rattle.cluster_runs.specs.Sent.{Lane}
use Rattle.cluster_runs.specs.Machine.{Site}
use Rattle.cluster_runs.specs.Goes.{server_site}
use Rattle.cluster_invariant.specs.Dials.{NodeDials, RoleIs}
use Rattle.cluster_invariant.specs.Served.{IsServed, NodeServes, HasLearnt}
use Rattle.cluster_invariant.specs.Waiting.{ReplyWaits, WaitsFor}
use Rattle.cluster_invariant.specs.Words.{is_begun}
use Rattle.cluster_invariant.proofs.Small.{of_some}
use Rattle.cluster_invariant.proofs.AllLists.{all_follow, all_both}
use Rattle.cluster_invariant.proofs.PieceKinds.{Piece, makes}
use Rattle.cluster_invariant.proofs.PieceMay.{Coming, begins}
use Rattle.cluster_invariant.proofs.Pieces.{MayMake}
use Rattle.cluster_invariant.proofs.PiecesOfSteps.{StepFrom, synced_state}
use Rattle.link_kept.proofs.AppLater.{LaneLater}
use Rattle.link_kept.proofs.LockSessions.{RequestsOf}
use Rattle.link_kept.proofs.WindowsGo.{WindowsGoOn, Served, open_or, close_live, still_live}
use Rattle.link_kept.proofs.WindowPieces.{PutsWell, SaysServed}
use Rattle.link_kept.proofs.WindowsServer.{LanesGrow, WindowsAfter, StepKept, server_lanes, windows_kept_by_step}
use Rattle.link_kept.proofs.ServesGo.{MayAsk, ServesGo}
use Rattle.link_kept.proofs.FitsWell.{FitsWell, may_close}
use Rattle.link_kept.proofs.ServesPieces.{puts_well, serves_piece}

-- live sessions stand at their places

low_pushed : (es : List Entry) (e : Entry) → IsOrdered es → ((s : ℕ) → live es s ≡ true → s ≤ length es) → MayFollow es e → (s : ℕ) → live (es ++ e ∷ []) s ≡ true
    → s ≤ length (es ++ e ∷ [])
low_pushed es (Epoch number) o low may s lives =
    omega (arith, low s (sym (still_live es (Epoch number) s tt) ∙ lives), length-append es (Epoch number ∷ []))
low_pushed es (Opened session app) o low may s lives = go (open_or es session app s lives)
  where
    go : (s ≡ session) ⊎ (live es s ≡ true) → s ≤ length (es ++ Opened session app ∷ [])
    go (inl same) = omega (arith, same, may.is_position, length-append es (Opened session app ∷ []))
    go (inr before) = omega (arith, low s before, length-append es (Opened session app ∷ []))
low_pushed es (Closed session) o low may s lives =
    let at : (s ≢ session) × (live es s ≡ true) = close_live es session s lives in omega (arith, low s at.1, length-append es (Closed session ∷ []))
low_pushed es (Update session w job txn op) o low may s lives =
    omega (arith, low s (sym (still_live es (Update session w job txn op) s tt) ∙ lives), length-append es (Update session w job txn op ∷ []))
low_pushed es (Commit session w job txn) o low may s lives =
    omega (arith, low s (sym (still_live es (Commit session w job txn) s tt) ∙ lives), length-append es (Commit session w job txn ∷ []))
low_pushed es (Rollback session w job txn) o low may s lives =
    omega (arith, low s (sym (still_live es (Rollback session w job txn) s tt) ∙ lives), length-append es (Rollback session w job txn ∷ []))

pub live_within : (es : List Entry) → IsOrdered es → (s : ℕ) → live es s ≡ true → s ≤ length es
live_within es o = ordered_induction (λ (xs : List Entry). (s : ℕ) → live xs s ≡ true → s ≤ length xs) (λ s lives. absurd (false≢true lives)) low_pushed es o

-- where a step begins

-- a connection of a session is of a live one
bound_lives : (x : Site) (n : DataState) → NodeDials x n → (conn s : ℕ) → role_of n conn ≡ Some (Bound s) → live n.order s ≡ true
bound_lives x n dials conn s role = (of_some (RoleIs x n conn) (role_of n conn) (Bound s) role (dials.roles conn)).lives

says_served : (v : Server) (x : Site) (n : DataState) (at : ℕ) → NodeDials x n → (says : Says) → WaitsFor v x n at says → SaysServed (λ s. x.lane_at s x.past) n.order says
says_served v x n at dials (NewWelcome conn s) is = bound_lives x n dials conn s is.bound
says_served v x n at dials (EpochWelcome conn s kept) is = bound_lives x n dials conn s is.bound
says_served v x n at dials (ResetOf conn s place) is = tt
says_served v x n at dials (GrantOf s ticket number) is = (is.lives, is.learnt)
says_served v x n at dials (AnswerOf s about job number place sum) is = (is.lives, is.learnt)

-- What a node has holds as a step begins.
pub serves_begin : (v : Server) (x : Site) (n : DataState) (closing : Bool) → IsOrdered n.order → n.synced ≤ length n.order → NodeDials x n → NodeServes x n
    → AllByRecursion (ReplyWaits v x n) n.replies → ServesGo (λ s. x.lane_at s x.past) closing n
serves_begin v x n closing ordered within dials serves waiting = record {
  noted =
      all_follow (λ (y : Noted). IsServed x n y.session) (λ (y : Noted). Served (λ s. x.lane_at s x.past) n.order y.session) (λ y is. (is.lives, is.learnt)) n.noted
      serves.noted;
  table = record {
    holds = serves.holds;
    requests =
        all_follow (λ (r : Request). IsServed x n r.who.session) (λ (r : Request). MayAsk (λ s. x.lane_at s x.past) closing n.order r.who.session)
        (λ r is. ((λ still. is.lives), is.learnt)) n.locks.requests serves.requests;
    granted = serves.granted;
  };
  waits = record { wait = serves.wait; one_each = serves.one_each };
  replies =
      all_follow (ReplyWaits v x n) (λ (r : Reply). SaysServed (λ s. x.lane_at s x.past) n.order r.says) (λ r is. says_served v x n r.at dials r.says is.says) n.replies
      waiting;
  items = serves.items;
  synced = within;
  low = live_within n.order ordered;
}

-- less of the order isn't synced
fewer_items : (s n m : ℕ) (es : List Entry) → n ≤ m → has_item_of (drop n es) s ≡ false → has_item_of (drop m es) s ≡ false
fewer_items s n m es low none =
    let same : n + (m - n) ≡ m = omega (arith, low) in
    ap (λ (k : ℕ). has_item_of (drop k es) s) (sym same) ∙ ap (λ (xs : List Entry). has_item_of xs s) (sym (drop-drop (m - n) n es))
    ∙ any_dropped (is_item_of s) (m - n) (drop n es) none
  where
    any_dropped : (p : Entry → Bool) (k : ℕ) (xs : List Entry) → list_any p xs ≡ false → list_any p (drop k xs) ≡ false
    any_dropped p zero xs is = is
    any_dropped p (suc k) [] is = refl
    any_dropped p (suc k) (x ∷ xs) is = any_dropped p k xs (or_parts (p x) (list_any p xs) is).1

-- a save counts at once
serves_begins : (lane_of : ℕ → Lane) (closing : Bool) (old : DataState) (now : ℕ) (input : DataIn) → DataMay old input → ServesGo lane_of closing old
    → ServesGo lane_of closing (begins (record { old = old; now = now; input = input })).state
serves_begins lane_of closing old now (data_in.Frame conn f) may h = h
serves_begins lane_of closing old now (data_in.Connected conn) may h = h
serves_begins lane_of closing old now (data_in.Broken conn) may h = h
serves_begins lane_of closing old now data_in.Tick may h = h
serves_begins lane_of closing old now (data_in.Saved upto) may h =
    subst (λ (d : DataState). ServesGo lane_of closing d) (sym (synced_state upto (begun old))) (record {
      noted = h.noted;
      table = h.table;
      waits = h.waits;
      replies = h.replies;
      items = λ s unlearnt. fewer_items s old.synced upto old.order may.no_less (h.items s unlearnt);
      synced = may.within;
      low = h.low;
    })

-- what holds after a step, where the requests that wait are of live sessions again
pub record ServesAfter (old new : DataState) (x y : Site) (closing : Bool) : Type 0 where
  pub windows : WindowsAfter y new
  pub goes_on : (s k : ℕ) → LaneLater (x.lane_at s k) (y.lane_at s k)
  pub goes : ServesGo (λ s. x.lane_at s x.past) closing new
  pub serves : RequestsOf (λ s. live new.order s ≡ true) new.locks.requests → NodeServes y new

-- They are where the step can't close a session.
pub serves_still : (old new : DataState) (x y : Site) (closing : Bool) → closing ≡ false → ServesAfter old new x y closing → NodeServes y new
serves_still old new x y closing still a =
    a.serves
    (all_follow (λ (r : Request). MayAsk (λ s. x.lane_at s x.past) closing new.order r.who.session) (λ (r : Request). live new.order r.who.session ≡ true)
    (λ (r : Request) is. is.0 still) new.locks.requests a.goes.table.requests)

-- Each step of a data server keeps its windows, the counts of its lanes and what it has of its sessions, where what it puts to and takes from
-- them fits, piece by piece; and with it whatever each piece keeps where what it puts and takes is well.
pub serves_kept_by_step : (x : Site) (old : DataState) (now : ℕ) (input : DataIn) (outs : DataOuts) (new : DataState) → WindowsAfter x old
    → ServesGo (λ s. x.lane_at s x.past) (may_close input) old → StepFrom old → DataMay old input → DataStep old now input outs new
    → (E : Sofar → Type 0)
    → ((p : Piece) (b : Sofar) → MayMake (record { old = old; now = now; input = input }) p b → E b → ServesGo (λ s. x.lane_at s x.past) (may_close input) b.state
    → WindowsGoOn (live old.order) (λ s. x.lane_at s x.past) b → FitsWell (λ s. x.lane_at s x.past) p b)
    → ((p : Piece) (b : Sofar) → MayMake (record { old = old; now = now; input = input }) p b → E b → E (makes now p b))
    → E (begins (record { old = old; now = now; input = input }))
    → (G : Sofar → Type 0)
    → ((p : Piece) (b : Sofar) → MayMake (record { old = old; now = now; input = input }) p b → PutsWell (λ s. x.lane_at s x.past) p b → G b → G (makes now p b))
    → G (begins (record { old = old; now = now; input = input })) → ServesAfter old new x (server_site old now input outs new x) (may_close input) × G (made new outs)
serves_kept_by_step x old now input outs new h serves from may steps E fits keeps first G more begun = (after (server_lanes old now input outs new x) went.0, went.1)
  where
    t : Coming
    t = record { old = old; now = now; input = input }

    lane_of : ℕ → Lane
    lane_of s = x.lane_at s x.past

    went : (StepKept old now input outs new x × ServesGo lane_of (may_close input) new) × G (made new outs)
    went =
        let both : StepKept old now input outs new x × ((ServesGo lane_of (may_close input) new × E (made new outs)) × G (made new outs)) =
        windows_kept_by_step x old now input outs new h serves.noted from may steps (λ b. (ServesGo lane_of (may_close input) b.state × E b) × G b)
        (λ p b m s w. puts_well lane_of t p b m (fits p b m s.0.1 s.0.0 w) s.0.0)
        (λ p b m s w.
        ((serves_piece lane_of t p b m (fits p b m s.0.1 s.0.0 w) s.0.0, keeps p b m s.0.1), more p b m (puts_well lane_of t p b m (fits p b m s.0.1 s.0.0 w) s.0.0) s.1))
        ((serves_begins lane_of (may_close input) old now input may serves, first), begun) in
        ((both.0, both.1.0.0), both.1.1)

    after : LanesGrow old new outs x (server_site old now input outs new x) → StepKept old now input outs new x × ServesGo lane_of (may_close input) new
        → ServesAfter old new x (server_site old now input outs new x) (may_close input)
    after g both = record { windows = both.0.windows; goes_on = both.0.goes_on; goes = both.1; serves = λ lives. serve lives }
      where
        y : Site
        y = server_site old now input outs new x

        same : (s : ℕ) → is_begun (y.lane_at s y.past) ≡ is_begun (lane_of s)
        same s = ap (λ (z : Lane). is_begun z) (ap (y.lane_at s) g.past ∙ g.here s)

        served : (s : ℕ) → Served lane_of new.order s → IsServed y new s
        served s is = record { lives = is.0; learnt = same s ∙ is.1 }

        serve : RequestsOf (λ s. live new.order s ≡ true) new.locks.requests → NodeServes y new
        serve lives = record {
          noted = all_follow (λ (n : Noted). Served lane_of new.order n.session) (λ (n : Noted). IsServed y new n.session) (λ n is. served n.session is) new.noted both.1.noted;
          requests =
              all_follow (λ (r : Request). (live new.order r.who.session ≡ true) × MayAsk lane_of (may_close input) new.order r.who.session)
              (λ (r : Request). IsServed y new r.who.session) (λ r at. served r.who.session (at.0, at.1.1)) new.locks.requests
              (all_both (λ (r : Request). live new.order r.who.session ≡ true) (λ (r : Request). MayAsk lane_of (may_close input) new.order r.who.session)
              new.locks.requests lives both.1.table.requests);
          wait = both.1.waits.wait;
          one_each = both.1.waits.one_each;
          granted =
              all_follow (λ (r : Request). is_begun (lane_of r.who.session) ≡ true) (λ (r : Request). HasLearnt y r.who.session) (λ r is. same r.who.session ∙ is)
              new.locks.granted both.1.table.granted;
          holds =
              all_follow (λ (k : Hold). is_begun (lane_of k.who.session) ≡ true) (λ (k : Hold). HasLearnt y k.who.session) (λ k is. same k.who.session ∙ is)
              new.locks.holds both.1.table.holds;
          items =
              λ s unlearnt.
              both.1.items s (sym (ap (λ (z : Lane). z.began) (ap (y.lane_at s) g.past ∙ g.here s)) ∙ unlearnt);
        }
