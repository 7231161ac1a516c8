-- A lane of a session, and the session, as its end puts messages and takes the next one or none.
use Rattle.std.proofs.Common.{◌≡◌, ◌≤◌, ◌+◌, ℕ, zero, suc, Bool, true, false, List, [], ◌∷◌, ◌++◌, drop, length, append-nil, Option, Some, None, is_some, refl, sym, ◌∙◌, ap, subst, arith}
use Rattle.std.specs.Prelude.{⊤, ◌&&◌, ◌||◌, not, map, take}
use Rattle.std.specs.List.{list_any, list_all}
use Rattle.std.proofs.lemmas.Bool.{false≢true, and_parts}
use Rattle.std.proofs.lemmas.List.{take-append-le}
use Rattle.plain_orders.specs.declared.entry.Entry.{Entry}
use Rattle.ecp_messages.specs.declared.down.Down.{Down}
use Rattle.ecp_messages.specs.declared.up.Up.{Up}
use Rattle.end_words.specs.Windows.{sent}
use Rattle.app_rules.specs.AppState.{Session}
use Rattle.app_rules.specs.Delivering.{is_ask_unput}
use Rattle.app_rules.specs.Welcoming.{message_of}
use Rattle.cluster_runs.specs.Lanes.{given_since}
use Rattle.cluster_runs.specs.Sent.{Lane, downs_taken}
use Rattle.cluster_runs.specs.WireDrops.{is_block}
use Rattle.cluster_runs.specs.Written.{count_of}
use Rattle.cluster_invariant.specs.Rounds.{ComesBack, LaneRound, SessionRound, awaits_normal, is_fetch, is_item, owed_message}
use Rattle.cluster_invariant.specs.Words.{is_begun, is_normal_down, is_opened_in}

-- the message that was taken is a Normal
abbrev pub is_normal_taken : Option Down → Bool
is_normal_taken None = false
is_normal_taken (Some m) = is_normal_down m

-- how many were taken
abbrev pub count_taken : Option Down → ℕ
count_taken None = 0
count_taken (Some m) = 1

-- a message that is taken is the next one of the lane
abbrev pub TakesNext : Option Down → Lane → Type 0
TakesNext None a = ⊤
TakesNext (Some m) a = (rest : List Down) × (drop a.down_taken a.down ≡ m ∷ rest)

-- What a step makes of a session that goes on, for its rounds: it took this message or none, and these were put.
pub record SessionGoes (s t : Session) (took : Option Down) (put : List Up) : Type 0 where
  pub number : t.number ≡ s.number
  pub epoch : t.epoch ≡ s.epoch
  pub given : given_since (sent s.window) t.window ≡ put
  pub taken : t.window.taken ≡ s.window.taken + count_taken took
  pub due : t.normal_due ≡ (s.normal_due && not (is_normal_taken took))
  -- nothing is put while Normal is awaited
  pub waits : is_normal_taken took ≡ false → s.normal_due ≡ true → put ≡ []
  pub asks : t.normal_due ≡ true → list_all is_ask_unput s.asks ≡ true → list_all is_ask_unput t.asks ≡ true
  pub queued : list_all is_item (map message_of s.queue) ≡ true → list_all is_item (map message_of t.queue) ≡ true
  pub owed : list_all is_item (map owed_message s.owed) ≡ true → list_all is_item (map owed_message t.owed) ≡ true

-- The lane then.
pub record LaneGoes (a b : Lane) (took : Option Down) (put : List Up) : Type 0 where
  pub began : b.began ≡ a.began
  pub up : b.up ≡ a.up ++ put
  pub up_taken : b.up_taken ≡ a.up_taken
  pub down : b.down ≡ a.down
  pub down_taken : b.down_taken ≡ a.down_taken + count_taken took

-- what was taken

take_next : {X : Type 0} (n : ℕ) (xs : List X) (x : X) (rest : List X) → drop n xs ≡ x ∷ rest → take (n + 1) xs ≡ take n xs ++ x ∷ []
take_next {X} zero [] x rest is = absurd (none is)
  where
    none : ◌≡◌ {A = List X} [] (x ∷ rest) → ⊥
    none e = absurd cc
take_next {X} (suc n) [] x rest is = absurd (none is)
  where
    none : ◌≡◌ {A = List X} [] (x ∷ rest) → ⊥
    none e = absurd cc
take_next {X} zero (y ∷ ys) x rest is = ap (λ (z : X). z ∷ []) (head is)
  where
    head : y ∷ ys ≡ x ∷ rest → y ≡ x
    head e = cc
take_next {X} (suc n) (y ∷ ys) x rest is =
    ap (λ (k : ℕ). take k (y ∷ ys)) (let same : suc n + 1 ≡ suc (n + 1) = omega arith in same) ∙ ap (λ (zs : List X). y ∷ zs) (take_next n ys x rest is)

any_joined : {X : Type 0} (p : X → Bool) (xs : List X) (x : X) → list_any p (xs ++ x ∷ []) ≡ (list_any p xs || p x)
any_joined p [] x = go (p x)
  where
    go : (b : Bool) → (b || false) ≡ b
    go true = refl
    go false = refl
any_joined p (y ∷ ys) x = go (p y) (any_joined p ys x)
  where
    go : (b : Bool) → list_any p (ys ++ x ∷ []) ≡ (list_any p ys || p x) → (b || list_any p (ys ++ x ∷ [])) ≡ ((b || list_any p ys) || p x)
    go true is = refl
    go false is = is

-- whether a Normal was taken
normal_after : (a b : Lane) (took : Option Down) (put : List Up) → LaneGoes a b took put → TakesNext took a
    → list_any is_normal_down (downs_taken b) ≡ (list_any is_normal_down (downs_taken a) || is_normal_taken took)
normal_after a b None put g next =
    ap (λ (ms : List Down). list_any is_normal_down (take b.down_taken ms)) g.down
    ∙ ap (λ (n : ℕ). list_any is_normal_down (take n a.down)) (let same : b.down_taken ≡ a.down_taken = omega (arith, g.down_taken) in same)
    ∙ go (list_any is_normal_down (downs_taken a))
  where
    go : (b : Bool) → b ≡ (b || false)
    go true = refl
    go false = refl
normal_after a b (Some m) put g next =
    ap (λ (ms : List Down). list_any is_normal_down (take b.down_taken ms)) g.down
    ∙ ap (λ (n : ℕ). list_any is_normal_down (take n a.down)) g.down_taken
    ∙ ap (list_any is_normal_down) (take_next a.down_taken a.down m next.0 next.1)
    ∙ any_joined is_normal_down (take a.down_taken a.down) m

-- so Normal is awaited no more once it was taken
awaits_after : (es : List Entry) (n : ℕ) (a b : Lane) (took : Option Down) (put : List Up) → LaneGoes a b took put → TakesNext took a
    → awaits_normal es n b ≡ (awaits_normal es n a && not (is_normal_taken took))
awaits_after es n a b took put g next =
    ap (λ (t : Bool). not (is_opened_in es n) && not t) (normal_after a b took put g next)
    ∙ go (not (is_opened_in es n)) (list_any is_normal_down (downs_taken a)) (is_normal_taken took)
  where
    go : (x y z : Bool) → (x && not (y || z)) ≡ ((x && not y) && not z)
    go true true z = refl
    go true false z = refl
    go false y z = refl

-- The lane puts what a round lets it put.
pub lane_round : (es : List Entry) (a b : Lane) (s : Session) (took : Option Down) (put : List Up) → a.up_taken ≤ length a.up → LaneGoes a b took put → TakesNext took a
    → (is_normal_taken took ≡ false → s.normal_due ≡ true → put ≡ []) → SessionRound es a s → LaneRound es s.number a → LaneRound es s.number b
lane_round es a b s took put low g next waits is h = record {
  once = omega (arith, h.once, ap (count_of is_normal_down) g.down);
  opened = λ here. ap (list_any is_normal_down) g.down ∙ h.opened here;
  awaits = λ begun awaits. still begun (and_parts (awaits_normal es s.number a) (not (is_normal_taken took)) (sym (awaits_after es s.number a b took put g next) ∙ awaits));
  blocks =
      ap (count_of is_block) g.down ∙ h.blocks
      ∙ ap (count_of is_fetch)
      (sym (ap (λ (k : ℕ). take k b.up) g.up_taken ∙ ap (take a.up_taken) g.up ∙ take-append-le a.up_taken a.up put low));
}
  where
    untaken : (b : Bool) → not b ≡ true → b ≡ false
    untaken true is = absurd (false≢true is)
    untaken false is = refl

    still : is_begun b ≡ true → (awaits_normal es s.number a ≡ true) × (not (is_normal_taken took) ≡ true) → ComesBack b.up
    still begun parts =
        subst ComesBack
        (sym (g.up ∙ ap (λ (ms : List Up). a.up ++ ms) (waits (untaken (is_normal_taken took) parts.1) (is.due ∙ parts.0)) ∙ append-nil a.up))
        (h.awaits (ap is_some (sym g.began) ∙ begun) parts.0)

-- And the session awaits Normal just as it did.
pub session_round : (es : List Entry) (a b : Lane) (s t : Session) (took : Option Down) (put : List Up) → LaneGoes a b took put → TakesNext took a → SessionGoes s t took put
    → SessionRound es a s → SessionRound es b t
session_round es a b s t took put g next goes is = record {
  due =
      goes.due ∙ ap (λ (d : Bool). d && not (is_normal_taken took)) is.due ∙ sym (awaits_after es s.number a b took put g next)
      ∙ ap (λ (n : ℕ). awaits_normal es n b) (sym goes.number);
  asks = λ due. goes.asks due (is.asks (and_parts s.normal_due (not (is_normal_taken took)) (sym goes.due ∙ due)).0);
  queued = goes.queued is.queued;
  owed = goes.owed is.owed;
}
