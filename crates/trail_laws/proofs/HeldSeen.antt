-- What is kept of a hold while it stands: its entries in the orders, and that its job has seen them.
use Rattle.std.proofs.Common.{◌≡◌, ℕ, ◌≤◌, ◌<◌, List, length, take, subst, sym, ap, ◌∙◌, true, arith, ◌⊎◌, inl, inr, Option, Some}
use Rattle.std.proofs.lemmas.Bool.{cases_lt}
use Rattle.plain_orders.specs.declared.entry.Entry.{Entry}
use Rattle.plain_orders.specs.declared.layout.Layout.{Layout}
use Rattle.plain_runs.specs.Plain.{Server, Hold, app_of}
use Rattle.plain_runs.proofs.ToldItems.{nth, last_nth}
use Rattle.trail_laws.proofs.HoldGoes.{HoldGoes, stands}
use Rattle.trail_laws.proofs.ServerGoes.{base_of}

-- what this sees of a server
pub record View : Type 0 where
  pub past : List (List Entry)
  pub order : List Entry
  pub base : ℕ → Option ℕ
  pub pair : ℕ → Option ℕ
  pub seen : ℕ → ℕ

abbrev pub view : Server → View
view s = record { past = s.past; order = s.order; base = λ n. base_of (s.session_at n) (s.entered_at n); pair = λ a. (s.pair_at a).session; seen = λ j. (s.known_at j).seen }

-- A hold that stands has its entries in each order from the one that its session is told of. Where it is answered its
-- job has seen them, while its pair has the session.
pub record HoldSeen (l : Layout) (v : View) (h : Hold) : Type 0 where
  pub seen : h.answered ≡ true → v.pair (app_of l h.job) ≡ Some h.session → h.at ≤ v.seen h.job
  pub agree : stands h ≡ true → (b j : ℕ) → v.base h.session ≡ Some b → b ≤ j → j ≤ length v.past → take h.at (nth v.past v.order j) ≡ take h.at (nth v.past v.order b)

-- the orders go on, and sessions are told of later ones
pub record Onward (v w : View) : Type 0 where
  pub more : length v.past ≤ length w.past
  pub past : (i : ℕ) → i < length v.past → nth w.past w.order i ≡ nth v.past v.order i
  pub base : (n b : ℕ) → w.base n ≡ Some b → ((c : ℕ) × ((v.base n ≡ Some c) × (c ≤ b))) ⊎ (b ≡ length w.past)
  pub low : (n b : ℕ) → v.base n ≡ Some b → b ≤ length v.past

pub agree_on : (l : Layout) (v w : View) (h k : Hold) → Onward v w → HoldGoes v.past v.order w.past w.order h k → HoldSeen l v h
    → stands k ≡ true → (b j : ℕ) → w.base k.session ≡ Some b → b ≤ j → j ≤ length w.past → take k.at (nth w.past w.order j) ≡ take k.at (nth w.past w.order b)
agree_on l v w h k on g x st b j is low high = subst (λ n. take n (nth w.past w.order j) ≡ take n (nth w.past w.order b)) (sym g.at) (go (on.base h.session b (ap w.base (sym g.session) ∙ is)))
  where
    -- each later order, against one that was there
    back : (c i : ℕ) → v.base h.session ≡ Some c → c ≤ i → i ≤ length w.past → take h.at (nth w.past w.order i) ≡ take h.at (nth v.past v.order c)
    back c i e from to = one (cases_lt i (length v.past))
      where
        one : (i < length v.past) ⊎ (length v.past ≤ i) → take h.at (nth w.past w.order i) ≡ take h.at (nth v.past v.order c)
        one (inl under) = ap (take h.at) (on.past i under) ∙ x.agree (g.stood st) c i e from (omega (arith, under))
        one (inr over) = g.stays st i over to ∙ ap (take h.at) (sym (last_nth v.past v.order)) ∙ x.agree (g.stood st) c (length v.past) e (on.low h.session c e) (omega arith)

    go : ((c : ℕ) × ((v.base h.session ≡ Some c) × (c ≤ b))) ⊎ (b ≡ length w.past) → take h.at (nth w.past w.order j) ≡ take h.at (nth w.past w.order b)
    go (inl c) = back c.0 j c.1.0 (omega (arith, c.1.1, low)) high ∙ sym (back c.0 b c.1.0 c.1.1 (omega (arith, low, high)))
    go (inr last) = let same : j ≡ b = omega (arith, last, low, high) in ap (λ i. take h.at (nth w.past w.order i)) same

-- so a hold keeps this where what is seen rises and no pair gets a session
pub hold_on : (l : Layout) (v w : View) (h k : Hold) → Onward v w → ((a n : ℕ) → w.pair a ≡ Some n → v.pair a ≡ Some n) → ((j : ℕ) → v.seen j ≤ w.seen j) → HoldGoes v.past v.order w.past w.order h k → (k.answered ≡ true → h.answered ≡ true)
    → HoldSeen l v h → HoldSeen l w k
hold_on l v w h k on pair seen g ans x = record {
  seen = λ a e. omega (arith, g.at, ap w.seen g.job, seen h.job, x.seen (ans a) (pair (app_of l h.job) h.session (ap (λ j. w.pair (app_of l j)) (sym g.job) ∙ e ∙ ap Some g.session)));
  agree = agree_on l v w h k on g x;
}
