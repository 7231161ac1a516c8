-- What rounds put at one data server, as the application server's end there learns of a new session or of a new epoch.
use Rattle.std.proofs.Common.{◌≡◌, ◌≢◌, ℕ, zero, suc, Bool, true, false, if◌then◌else◌, List, [], ◌∷◌, filter, length, Option, Some, None, refl, sym, ◌∙◌, ap, subst, arith}
use Rattle.std.specs.Prelude.{IfSome, ◌&&◌, ◌==◌, not, map, nat_lt, take}
use Rattle.std.specs.List.{list_any, list_all}
use Rattle.std.proofs.lemmas.Bool.{and_parts, false≢true}
use Rattle.plain_orders.specs.declared.entry.Entry.{Entry}
use Rattle.plain_runs.specs.Plain.{Server, order_at, put}
use Rattle.ecp_messages.specs.declared.down.Down.{Down}
use Rattle.ecp_messages.specs.declared.front.Front.{Front}
use Rattle.ecp_messages.specs.declared.up.Up.{Up}
use Rattle.app_rules.specs.declared.app_outs.AppOuts.{AppOuts}
use Rattle.app_rules.specs.declared.session_parts.Asked.{Asked}
use Rattle.app_rules.specs.declared.session_parts.Held.{Held}
use Rattle.app_rules.specs.declared.session_parts.Owed.{Owed}
use Rattle.app_rules.specs.declared.session_parts.Queued.{Queued}
use Rattle.app_rules.specs.AppState.{AppEnd, Session}
use Rattle.app_rules.specs.Delivering.{is_ask_unput}
use Rattle.app_rules.specs.Welcoming.{ask_anew, claim_of, in_epoch, message_of, new_session, to_send, told_puts, with_all_owed, with_one_owed}
use Rattle.app_rules.specs.Works.{is_above, synced_up}
use Rattle.cluster_runs.specs.Connections.{ups_to}
use Rattle.cluster_runs.specs.Goes.{app_site, at_told}
use Rattle.cluster_runs.specs.Lanes.{given_since, is_told_new, sent_before, with_app_step}
use Rattle.cluster_runs.specs.Machine.{Site, End}
use Rattle.cluster_runs.specs.Sent.{Lane, Place, downs_taken}
use Rattle.cluster_runs.specs.WireDrops.{is_block}
use Rattle.cluster_runs.specs.Written.{count_of}
use Rattle.cluster_steps.proofs.AppSites.{site_beside, site_ends}
use Rattle.cluster_steps.proofs.EndSteps.{session_put}
use Rattle.cluster_invariant.specs.Link.{LaneCounts}
use Rattle.cluster_invariant.specs.Rounds.{ComesBack, LaneRound, RoundOf, RoundsHold, SessionRound, awaits_normal, is_claim, is_fetch, is_item, owed_message}
use Rattle.cluster_invariant.specs.Words.{is_normal_down, is_opened_in}
use Rattle.cluster_invariant.proofs.OrderBeside.{SameOrders}
use Rattle.link_apps.proofs.LanesApps.{own_lane, told_lane}
use Rattle.rounds_apps.proofs.RoundSessions.{mapped_left}
use Rattle.rounds_apps.proofs.RoundsEnds.{rounds_at_end}

-- a session that begins in an order
pub record BeginsRound (es : List Entry) (r : Session) : Type 0 where
  pub due : r.normal_due ≡ not (is_opened_in es r.number)
  pub comes : r.normal_due ≡ true → ComesBack (given_since 0 r.window)
  pub asks : r.normal_due ≡ true → list_all is_ask_unput r.asks ≡ true
  pub queued : list_all is_item (map message_of r.queue) ≡ true
  pub owed : list_all is_item (map owed_message r.owed) ≡ true

-- a new session: Normal isn't awaited
pub new_begins : (es : List Entry) (since session epoch : ℕ) (front : Front) → is_opened_in es session ≡ true → BeginsRound es (session_put since [] (new_session session epoch front))
new_begins es since session epoch front is = record {
  due = sym (ap not is);
  comes = λ due. absurd (false≢true due);
  asks = λ due. refl;
  queued = refl;
  owed = refl;
}

-- a session in a new epoch: claims, items and Done are put, and Normal is awaited

all_claims : (hs : List Held) → list_all is_claim (map claim_of hs) ≡ true
all_claims [] = refl
all_claims (h ∷ hs) = all_claims hs

all_anew : (xs : List Asked) → list_all is_ask_unput (map ask_anew xs) ≡ true
all_anew [] = refl
all_anew (a ∷ xs) = all_anew xs

one_owed : (o : Owed) (qs : List Queued) → is_item o.message ≡ true → list_all is_item (map message_of qs) ≡ true → list_all is_item (map message_of (with_one_owed o qs)) ≡ true
one_owed o [] item is = ap (λ (b : Bool). b && true) item
one_owed o (q ∷ qs) item is =
    go (nat_lt o.w q.w) (o.w == q.w) (and_parts (is_item q.message) (list_all is_item (map message_of qs)) is)
    (one_owed o qs item (and_parts (is_item q.message) (list_all is_item (map message_of qs)) is).1)
  where
    go : (a b : Bool) → (is_item q.message ≡ true) × (list_all is_item (map message_of qs) ≡ true) → list_all is_item (map message_of (with_one_owed o qs)) ≡ true
        → list_all is_item (map message_of (if a then record { w = o.w; message = o.message; job = o.job } ∷ q ∷ qs else (if b then q ∷ qs else q ∷ with_one_owed o qs))) ≡ true
    go true b parts more = ap (λ (z : Bool). z && list_all is_item (map message_of (q ∷ qs))) item ∙ is
    go false true parts more = is
    go false false parts more = ap (λ (z : Bool). z && list_all is_item (map message_of (with_one_owed o qs))) parts.0 ∙ more

all_owed : (os : List Owed) (qs : List Queued) → list_all is_item (map owed_message os) ≡ true → list_all is_item (map message_of qs) ≡ true
    → list_all is_item (map message_of (with_all_owed os qs)) ≡ true
all_owed [] qs owed is = is
all_owed (o ∷ os) qs owed is =
    let parts : (is_item o.message ≡ true) × (list_all is_item (map owed_message os) ≡ true) = and_parts (is_item o.message) (list_all is_item (map owed_message os)) owed in
    all_owed os (with_one_owed o qs) parts.1 (one_owed o qs parts.0 is)

pub epoch_begins : (es : List Entry) (since epoch : ℕ) (front : Front) (s : Session) → is_opened_in es s.number ≡ false
    → list_all is_item (map message_of s.queue) ≡ true → list_all is_item (map owed_message s.owed) ≡ true
    → BeginsRound es (session_put since (told_puts front.w (synced_up front.s s)) (in_epoch epoch front s))
epoch_begins es since epoch front s is queued owed = record {
  due = sym (ap not is);
  comes = λ due. record {
    claims = map claim_of s.held;
    items = map message_of (to_send front.w (synced_up front.s s));
    all = refl;
    are_claims = all_claims s.held;
    are_items =
        all_owed s.owed (filter (is_above front.w) (filter (is_above front.s) s.queue)) owed
        (mapped_left message_of is_item (is_above front.w) (filter (is_above front.s) s.queue) (mapped_left message_of is_item (is_above front.s) s.queue queued));
  };
  asks = λ due. all_anew s.asks;
  queued = mapped_left message_of is_item (is_above front.s) s.queue queued;
  owed = owed;
}

-- the lane that begins

-- nothing was taken of what wasn't put
none_taken : (n : ℕ) → ◌≡◌ {A = List Down} (take n []) []
none_taken zero = refl
none_taken (suc n) = refl

module _ (v u : Server) (x : Site) (dead : ℕ → Bool) (app d : ℕ) (outs : AppOuts) (t : AppEnd) (m : Option Down) (moved : End) (same : SameOrders v u)
    (counts : (s k : ℕ) → LaneCounts (x.lane_at s k)) (rounds : RoundsHold v x dead) (p : Place) (r : Session) (told : moved.told ≡ Some p) (state : moved.state ≡ t)
    (now : t.session ≡ Some r) (number : r.number ≡ p.session) (is_new : is_told_new (x.end_at app).state.session t.session ≡ true)
    (unlearnt : (x.lane_at p.session p.order).began ≡ None)
    (apart : (a : ℕ) → a ≢ app → dead a ≡ false → (q : Session) → (x.end_at a).state.session ≡ Some q → q.number ≢ p.session)
    (begins : BeginsRound (order_at v p.order) r) where
  abbrev e : End
  e = x.end_at app

  abbrev y : Site
  y = app_site app d outs e.state t m moved x

  abbrev z : Site
  z = record x { end_at = put x.end_at app moved }

  abbrev lane : Lane
  lane = x.lane_at p.session p.order

  abbrev stepped : Lane → Lane
  stepped a = with_app_step true m e.state.dial (sent_before e.state.session) (Some r) (ups_to d outs.frames) a

  lanes_are : y.lane_at ≡ (at_told (Some p) stepped z).lane_at
  lanes_are =
      ap (λ (o : Option Place). (at_told o (with_app_step (is_told_new e.state.session t.session) m e.state.dial (sent_before e.state.session) t.session (ups_to d outs.frames)) z).lane_at) told
      ∙ ap (λ (b : Bool). (at_told (Some p) (with_app_step b m e.state.dial (sent_before e.state.session) t.session (ups_to d outs.frames)) z).lane_at) is_new
      ∙ ap (λ (o : Option Session). (at_told (Some p) (with_app_step true m e.state.dial (sent_before e.state.session) o (ups_to d outs.frames)) z).lane_at) now

  -- a relation to each lane as it was
  each_lane : (R : Lane → Lane → Type 0) → ((a : Lane) → R a a) → (s k : ℕ) → (s ≡ p.session → k ≡ p.order → R (x.lane_at s k) (stepped (x.lane_at s k)))
      → R (x.lane_at s k) (y.lane_at s k)
  each_lane R keeps s k here =
      subst (λ (f : ℕ → ℕ → Lane). R (x.lane_at s k) (f s k)) (sym lanes_are) (told_lane R keeps (Some p) stepped z s k here)

  no_down : lane.down ≡ []
  no_down = (counts p.session p.order).no_down unlearnt

  no_up_taken : lane.up_taken ≡ 0
  no_up_taken = omega (arith, (counts p.session p.order).up_taken, ap (λ (ms : List Up). length ms) ((counts p.session p.order).no_up unlearnt))

  none_taken_down : downs_taken (stepped lane) ≡ []
  none_taken_down = ap (take lane.down_taken) no_down ∙ none_taken lane.down_taken

  awaits_is : awaits_normal (order_at v p.order) p.session (stepped lane) ≡ not (is_opened_in (order_at v p.order) p.session)
  awaits_is =
      ap (λ (ms : List Down). not (is_opened_in (order_at v p.order) p.session) && not (list_any is_normal_down ms)) none_taken_down
      ∙ go (not (is_opened_in (order_at v p.order) p.session))
    where
      go : (b : Bool) → (b && true) ≡ b
      go true = refl
      go false = refl

  due_is : r.normal_due ≡ awaits_normal (order_at v p.order) p.session (stepped lane)
  due_is = begins.due ∙ ap (λ (n : ℕ). not (is_opened_in (order_at v p.order) n)) number ∙ sym awaits_is

  own_lane_round : LaneRound (order_at v p.order) p.session lane → LaneRound (order_at v p.order) p.session (stepped lane)
  own_lane_round is = record {
    once = is.once;
    opened = is.opened;
    awaits = λ begun awaits. begins.comes (due_is ∙ awaits);
    blocks =
        ap (count_of is_block) no_down
        ∙ sym (ap (λ (n : ℕ). count_of is_fetch (take n (stepped lane).up)) no_up_taken);
  }

  lane_kept : (s k : ℕ) → LaneRound (order_at v k) s (x.lane_at s k) → LaneRound (order_at v k) s (y.lane_at s k)
  lane_kept s k =
      each_lane (λ a b. LaneRound (order_at v k) s a → LaneRound (order_at v k) s b) (λ a is. is) s k
      (λ one here.
      subst (λ (n : ℕ). LaneRound (order_at v k) n (x.lane_at n k) → LaneRound (order_at v k) n (stepped (x.lane_at n k))) (sym one)
      (subst (λ (j : ℕ). LaneRound (order_at v j) p.session (x.lane_at p.session j) → LaneRound (order_at v j) p.session (stepped (x.lane_at p.session j))) (sym here)
      own_lane_round))

  own_session_round : SessionRound (order_at v p.order) (y.lane_at r.number p.order) r
  own_session_round =
      subst (λ (n : ℕ). SessionRound (order_at v p.order) (y.lane_at n p.order) r) (sym number)
      (subst (λ (b : Lane). SessionRound (order_at v p.order) b r) (sym (ap (λ (f : ℕ → ℕ → Lane). f p.session p.order) lanes_are ∙ own_lane p stepped z)) (record {
        due = due_is ∙ ap (λ (n : ℕ). awaits_normal (order_at v p.order) n (stepped lane)) (sym number);
        asks = begins.asks;
        queued = begins.queued;
        owed = begins.owed;
      }))

  -- The rounds hold there.
  pub rounds_at_news : RoundsHold u y dead
  rounds_at_news = rounds_at_end v u x y dead app moved rounds (record {
    same = same;
    beside = site_beside app d outs e.state t m moved x;
    ends = site_ends app d outs e.state t m moved x;
    downs = λ s k. each_lane (λ a b. b.down ≡ a.down) (λ a. refl) s k (λ one here. refl);
    lanes = λ s k low. lane_kept s k (rounds.lanes s k low);
    others = λ a other lives q has k. each_lane (λ b c. c ≡ b) (λ b. refl) q.number k (λ one here. absurd (apart a other lives q has one));
    own = λ lives.
        subst (λ (f : AppEnd). IfSome f.session (RoundOf v y moved)) (sym state)
        (subst (λ (o : Option Session). IfSome o (RoundOf v y moved)) (sym now)
        (subst (λ (o : Option Place). IfSome o (λ q. SessionRound (order_at v q.order) (y.lane_at r.number q.order) r)) (sym told) own_session_round));
  })
