-- A session over what its end does, for its rounds: it is as it was, or a message was taken.
use Rattle.std.proofs.Common.{◌≡◌, ◌-◌, ℕ, Bool, true, false, List, [], ◌∷◌, ◌++◌, drop, filter, append-nil, Some, None, refl, sym, ◌∙◌, ap, subst, arith, ℤ}
use Rattle.std.specs.Prelude.{◌&&◌, ◌==◌, not, map, max, if◌then◌else◌}
use Rattle.std.specs.List.{list_all}
use Rattle.std.proofs.lemmas.Bool.{and_parts, false≢true}
use Rattle.ecp_messages.specs.declared.about.About.{About}
use Rattle.ecp_messages.specs.declared.about.About.TheVariants.{Synced, Counted, NotWhole, Range, Committed, RolledBack}
use Rattle.ecp_messages.specs.declared.down.Down.{Down}
use Rattle.ecp_messages.specs.declared.down.Down.TheVariants.{Welcome, Reset, Block, Drop, Ack, Grant, Answer, Normal, Bare}
use Rattle.ecp_messages.specs.declared.front.Front.{Front}
use Rattle.ecp_messages.specs.declared.up.Up.{Up}
use Rattle.plain_orders.specs.declared.layout.Times.{Times}
use Rattle.link_states.specs.declared.app_link.AppLink.{AppLink}
use Rattle.end_words.specs.Windows.{Window, sent}
use Rattle.app_rules.specs.declared.session_parts.Asked.{Asked}
use Rattle.app_rules.specs.declared.session_parts.Queued.{Queued}
use Rattle.app_rules.specs.AppState.{Session}
use Rattle.app_rules.specs.Delivering.{grant_if, is_ask_unput, is_owed_elsewhere, with_all_put, with_answer}
use Rattle.app_rules.specs.Downs.{took}
use Rattle.app_rules.specs.Welcoming.{message_of}
use Rattle.app_rules.specs.Works.{is_above, synced_up, with_window}
use Rattle.cluster_runs.specs.Lanes.{given_since}
use Rattle.cluster_invariant.specs.Rounds.{is_item, owed_message}
use Rattle.cluster_invariant.specs.Words.{is_normal_down}
use Rattle.cluster_steps.proofs.EndSteps.{session_put}
use Rattle.cluster_steps.proofs.FrameEnds.{Delivered}
use Rattle.link_apps.proofs.LanesApps.{given_put}
use Rattle.link_apps.proofs.TookSites.{given_took}
use Rattle.rounds_apps.proofs.RoundLanes.{SessionGoes}

-- lists

-- what all of some are, all that are left of them are
pub all_left : {X : Type 0} (p q : X → Bool) (xs : List X) → list_all p xs ≡ true → list_all p (filter q xs) ≡ true
all_left p q [] is = refl
all_left p q (x ∷ xs) is = go (q x) (and_parts (p x) (list_all p xs) is) (all_left p q xs (and_parts (p x) (list_all p xs) is).1)
  where
    go : (b : Bool) → (p x ≡ true) × (list_all p xs ≡ true) → list_all p (filter q xs) ≡ true → list_all p (if b then x ∷ filter q xs else filter q xs) ≡ true
    go true parts more = ap (λ (z : Bool). z && list_all p (filter q xs)) parts.0 ∙ more
    go false parts more = more

-- the same of what is made of each
pub mapped_left : {X Y : Type 0} (f : X → Y) (p : Y → Bool) (q : X → Bool) (xs : List X) → list_all p (map f xs) ≡ true → list_all p (map f (filter q xs)) ≡ true
mapped_left f p q [] is = refl
mapped_left f p q (x ∷ xs) is = go (q x) (and_parts (p (f x)) (list_all p (map f xs)) is) (mapped_left f p q xs (and_parts (p (f x)) (list_all p (map f xs)) is).1)
  where
    go : (b : Bool) → (p (f x) ≡ true) × (list_all p (map f xs) ≡ true) → list_all p (map f (filter q xs)) ≡ true
        → list_all p (map f (if b then x ∷ filter q xs else filter q xs)) ≡ true
    go true parts more = ap (λ (z : Bool). z && list_all p (map f (filter q xs))) parts.0 ∙ more
    go false parts more = more

-- one that tells of each made one what it tells of it
pub all_mapped : {X : Type 0} (f : X → X) (p : X → Bool) → ((x : X) → p (f x) ≡ p x) → (xs : List X) → list_all p (map f xs) ≡ list_all p xs
all_mapped f p same [] = refl
all_mapped f p same (x ∷ xs) = ap (λ (b : Bool). b && list_all p (map f xs)) (same x) ∙ ap (λ (b : Bool). p x && b) (all_mapped f p same xs)

-- sessions

pub still_due : (b : Bool) → b ≡ (b && not false)
still_due true = refl
still_due false = refl

-- a window of which nothing was put and taken
pub window_goes : (s : Session) (w : Window Up) → given_since (sent s.window) w ≡ [] → w.taken ≡ s.window.taken → SessionGoes s (record s { window = w }) None []
window_goes s w given taken = record {
  number = refl;
  epoch = refl;
  given = given;
  taken = omega (arith, taken);
  due = still_due s.normal_due;
  waits = λ none due. refl;
  asks = λ due is. is;
  queued = λ is. is;
  owed = λ is. is;
}

pub same_goes : (s : Session) → SessionGoes s s None []
same_goes s = window_goes s s.window (given_put s.window s.window [] refl (sym (append-nil s.window.waiting))) refl

-- an acknowledgement came
pub acked_goes : (s : Session) (ack since : ℕ) → SessionGoes s (session_put since [] (with_window (λ w. record w { acked = max w.acked ack; waiting = drop (ack - w.acked) w.waiting }) s)) None []
acked_goes s ack since =
    window_goes s _ (given_took s.window (record s.window { acked = max s.window.acked ack; waiting = drop (ack - s.window.acked) s.window.waiting ++ []; since = since }) ack [] refl refl) refl

-- the Welcome of the epoch that was told came
pub went_goes : (s : Session) (since : ℕ) (n : ℕ) → SessionGoes s (session_put since [] (synced_up n s)) None []
went_goes s since n = record {
  number = refl;
  epoch = refl;
  given = given_put s.window (record s.window { waiting = s.window.waiting ++ []; since = since }) [] refl refl;
  taken = omega arith;
  due = still_due s.normal_due;
  waits = λ none due. refl;
  asks = λ due is. is;
  queued = mapped_left message_of is_item (is_above n) s.queue;
  owed = λ is. is;
}

-- a message was taken

module _ (ack since seq : ℕ) (f : Front) (s : Session) where
  abbrev taking : Session
  taking = took seq ack f s

  -- what was put then
  given_then : (w : Window Up) (put : List Up) → w.acked ≡ max s.window.acked ack → w.waiting ≡ drop (ack - s.window.acked) s.window.waiting ++ put
      → given_since (sent s.window) w ≡ put
  given_then w put acked waiting = given_took s.window w ack put acked waiting

  -- a session that is the one that took it, but for what a message brings that is no Normal
  brought : (m : Down) (t : Session) → is_normal_down m ≡ false → t.number ≡ taking.number → t.epoch ≡ taking.epoch → t.window ≡ taking.window → t.normal_due ≡ taking.normal_due
      → (list_all is_ask_unput taking.asks ≡ true → list_all is_ask_unput t.asks ≡ true) → t.queue ≡ taking.queue
      → (list_all is_item (map owed_message taking.owed) ≡ true → list_all is_item (map owed_message t.owed) ≡ true) → SessionGoes s (session_put since [] t) (Some m) []
  brought m t no_normal number epoch window due asks queue owed = record {
    number = number;
    epoch = epoch;
    given =
        given_then (session_put since [] t).window [] (ap (λ (w : Window Up). w.acked) window) (ap (λ (w : Window Up). w.waiting ++ []) window);
    taken = ap (λ (w : Window Up). w.taken) window;
    due = due ∙ still_due s.normal_due ∙ ap (λ (b : Bool). s.normal_due && not b) (sym no_normal);
    waits = λ none is. refl;
    asks = λ is unput. asks unput;
    queued = λ is. ap (λ (q : List Queued). list_all is_item (map message_of q)) queue ∙ mapped_left message_of is_item (is_above f.s) s.queue is;
    owed = owed;
  }

  -- a Grant leaves whether an Ask was put
  granted_unput : (ticket at : ℕ) (a : Asked) → is_ask_unput (grant_if ticket at a) ≡ is_ask_unput a
  granted_unput ticket at a = go (a.ticket == ticket)
    where
      go : (b : Bool) → is_ask_unput (if b then record a { at = Some at } else a) ≡ is_ask_unput a
      go true = refl
      go false = refl

  answered : (m : Down) (about : About) (number at : ℕ) (sum : ℤ) → is_normal_down m ≡ false → SessionGoes s (session_put since [] (with_answer about number at sum taking)) (Some m) []
  answered m Counted number at sum none = brought m _ none refl refl refl refl (λ is. is) refl (mapped_left owed_message is_item (is_owed_elsewhere number) s.owed)
  answered m NotWhole number at sum none = brought m _ none refl refl refl refl (λ is. is) refl (mapped_left owed_message is_item (is_owed_elsewhere number) s.owed)
  answered m Range number at sum none = brought m _ none refl refl refl refl (λ is. is) refl (mapped_left owed_message is_item (is_owed_elsewhere number) s.owed)
  answered m Committed number at sum none = brought m _ none refl refl refl refl (λ is. is) refl (mapped_left owed_message is_item (is_owed_elsewhere number) s.owed)
  answered m RolledBack number at sum none = brought m _ none refl refl refl refl (λ is. is) refl (mapped_left owed_message is_item (is_owed_elsewhere number) s.owed)
  answered m Synced number at sum none = brought m _ none refl refl refl refl (λ is. is) refl (λ is. is)

  same_put : (m : Down) (t : Session) (put : List Up) → put ≡ [] → SessionGoes s (session_put since [] t) (Some m) [] → SessionGoes s (session_put since put t) (Some m) put
  same_put m t put none is = subst (λ (ms : List Up). SessionGoes s (session_put since ms t) (Some m) ms) (sym none) is

  same_after : (m : Down) (t r : Session) → t ≡ r → SessionGoes s (session_put since [] r) (Some m) [] → SessionGoes s (session_put since [] t) (Some m) []
  same_after m t r same is = subst (λ (z : Session). SessionGoes s (session_put since [] z) (Some m) []) (sym same) is

  -- a Normal: nothing is awaited any more
  settled_goes : (front : Front) (put : List Up) → SessionGoes s (session_put since put (with_all_put taking)) (Some (Normal front)) put
  settled_goes front put = record {
    number = refl;
    epoch = refl;
    given = given_then (session_put since put (with_all_put taking)).window put refl refl;
    taken = refl;
    due = none_due s.normal_due;
    waits = λ no is. absurd (false≢true (sym no));
    asks = λ due unput. absurd (false≢true due);
    queued = mapped_left message_of is_item (is_above f.s) s.queue;
    owed = λ is. is;
  }
    where
      none_due : (b : Bool) → false ≡ (b && not true)
      none_due true = refl
      none_due false = refl

  -- What a fresh message makes of the session that takes it.
  pub took_goes : (m : Down) (link : AppLink) (times : Times) (now : ℕ) (t : Session) (settled : AppLink) (put : List Up) → Delivered m taking link times now t settled put
      → SessionGoes s (session_put since put t) (Some m) put
  took_goes (Welcome session epoch kept front taken) link times now t settled put is = absurd is
  took_goes (Reset session at) link times now t settled put is = absurd is
  took_goes (Block front block) link times now t settled put is =
      same_put (Block front block) t put is.4 (same_after (Block front block) t _ is.2 (brought (Block front block) _ refl refl refl refl refl (λ x. x) refl (λ x. x)))
  took_goes (Drop front lo hi) link times now t settled put is =
      same_put (Drop front lo hi) t put is.2 (same_after (Drop front lo hi) t _ is.0 (brought (Drop front lo hi) _ refl refl refl refl refl (λ x. x) refl (λ x. x)))
  took_goes (Ack front) link times now t settled put is =
      same_put (Ack front) t put is.2 (same_after (Ack front) t _ is.0 (brought (Ack front) _ refl refl refl refl refl (λ x. x) refl (λ x. x)))
  took_goes (Grant front ticket at) link times now t settled put is =
      same_put (Grant front ticket at) t put is.2
      (same_after (Grant front ticket at) t _ is.0
      (brought (Grant front ticket at) _ refl refl refl refl refl (λ x. all_mapped (grant_if ticket at) is_ask_unput (granted_unput ticket at) s.asks ∙ x) refl (λ x. x)))
  took_goes (Answer front about job number at sum) link times now t settled put is =
      same_put (Answer front about job number at sum) t put is.2
      (same_after (Answer front about job number at sum) t _ is.0 (answered (Answer front about job number at sum) about number at sum refl))
  took_goes (Normal front) link times now t settled put is =
      subst (λ (z : Session). SessionGoes s (session_put since put z) (Some (Normal front)) put) (sym is.0) (settled_goes front put)
  took_goes Bare link times now t settled put is = absurd is
