-- What is on its way upwards as more is put: on the connection that carries it, and where it waits in the window alone.
use Rattle.std.proofs.Common.{◌≡◌, ◌≤◌, ℕ, ◌+◌, Bool, true, false, ◌&&◌, if◌then◌else◌, List, [], ◌∷◌, ◌++◌, length, drop, map, None, refl, sym, ◌∙◌, ap, subst, arith}
use Rattle.std.specs.Prelude.{◌==◌}
use Rattle.std.specs.List.{AllByRecursion, list_all}
use Rattle.std.proofs.lemmas.Bool.{false≢true, ne_eqb}
use Rattle.std.proofs.lemmas.List.{append-nil, drop-append-le, length-append, length-drop}
use Rattle.ecp_messages.specs.declared.up.Up.{Up}
use Rattle.ecp_messages.specs.declared.up.UpFrame.{UpFrame}
use Rattle.end_words.specs.Windows.{numbered_from}
use Rattle.cluster_runs.specs.Sent.{Lane}
use Rattle.cluster_invariant.specs.Link.{LaneCounts, UpWay, is_numbered_up, is_numbered_down}
use Rattle.cluster_invariant.specs.Words.{IsFront, numbered_ups, numbered_behind}
use Rattle.cluster_invariant.proofs.AllLists.{all_follow, all_joined}
use Rattle.cluster_steps.proofs.JobEnds.{up_frame, numbered_joined}
use Rattle.link_kept.proofs.Later.{front_then}
use Rattle.link_kept.proofs.AppLater.{behind_front}
use Rattle.link_apps.proofs.NodeApps.{LanePut}

-- frames

pub numbered_ups_joined : (xs ys : List UpFrame) → numbered_ups (xs ++ ys) ≡ numbered_ups xs ++ numbered_ups ys
numbered_ups_joined [] ys = refl
numbered_ups_joined (f ∷ fs) ys = go (f.seq == 0) (numbered_ups_joined fs ys)
  where
    go : (b : Bool) → numbered_ups (fs ++ ys) ≡ numbered_ups fs ++ numbered_ups ys
        → (if b then numbered_ups (fs ++ ys) else (f.seq, f.message) ∷ numbered_ups (fs ++ ys))
        ≡ (if b then numbered_ups fs else (f.seq, f.message) ∷ numbered_ups fs) ++ numbered_ups ys
    go true more = more
    go false more = ap (λ (ms : List (ℕ × Up)). (f.seq, f.message) ∷ ms) more

-- those of messages with their numbers
pub numbered_frames : (taken n : ℕ) (ms : List Up) → numbered_ups (map (up_frame taken) (numbered_from n ms)) ≡ numbered_from n ms
numbered_frames taken n [] = refl
numbered_frames taken n (m ∷ ms) =
    ap (λ (b : Bool). if b then numbered_ups (map (up_frame taken) (numbered_from (n + 1) ms)) else (n + 1, m) ∷ numbered_ups (map (up_frame taken) (numbered_from (n + 1) ms)))
    (ne_eqb (n + 1) 0 (λ same. absurd (omega (arith, same))))
    ∙ ap (λ (xs : List (ℕ × Up)). (n + 1, m) ∷ xs) (numbered_frames taken (n + 1) ms)

-- and their acknowledgements
pub acks_frames : (taken low : ℕ) (xs : List (ℕ × Up)) → taken ≤ low → AllByRecursion (λ (f : UpFrame). f.ack ≤ low) (map (up_frame taken) xs)
acks_frames taken low [] is = tt
acks_frames taken low (x ∷ xs) is = (is, acks_frames taken low xs is)

-- what is behind a place of a list with more behind it
pub behind_more : (n : ℕ) (ms put : List Up) → n ≤ length ms → numbered_behind n (ms ++ put) ≡ numbered_behind n ms ++ numbered_from (length ms) put
behind_more n ms put low =
    ap (numbered_from n) (drop-append-le n ms put low)
    ∙ numbered_joined n (drop n ms) put
    ∙ ap (λ (k : ℕ). numbered_behind n ms ++ numbered_from k put) (omega (arith, length-drop n ms, low))

pub all_numbered : (xs ys : List Up) → list_all is_numbered_up xs ≡ true → list_all is_numbered_up ys ≡ true → list_all is_numbered_up (xs ++ ys) ≡ true
all_numbered [] ys a b = b
all_numbered (x ∷ xs) ys a b = go (is_numbered_up x) a (λ rest. all_numbered xs ys rest b)
  where
    go : (c : Bool) → (c && list_all is_numbered_up xs) ≡ true → (list_all is_numbered_up xs ≡ true → list_all is_numbered_up (xs ++ ys) ≡ true)
        → (c && list_all is_numbered_up (xs ++ ys)) ≡ true
    go true rest more = more rest
    go false rest more = absurd (false≢true rest)

-- the way upwards

-- Nothing more is put on the connection: it carries a front still.
pub way_put : (lane later : Lane) (left : List UpFrame) (whole : Bool) → LaneCounts lane → LanePut lane later → UpWay lane left whole → UpWay later left false
way_put lane later left whole counts put way = record {
  none = λ unlearnt. way.none (sym put.began ∙ unlearnt);
  next =
      front_then (numbered_ups left) (numbered_behind lane.up_taken lane.up) (numbered_behind later.up_taken later.up) way.next
      (subst (λ (n : ℕ). IsFront (numbered_behind lane.up_taken lane.up) (numbered_behind n later.up)) (sym put.up_taken)
      (behind_front lane.up_taken lane.up later.up counts.up_taken put.up));
  whole = λ is. absurd (false≢true is);
  acks = all_follow (λ (f : UpFrame). f.ack ≤ lane.down_taken) (λ (f : UpFrame). f.ack ≤ later.down_taken) (λ f is. omega (arith, is, put.down_taken)) left way.acks;
}

-- Messages that are put go out on the connection that carries all before them.
pub way_sent : (lane later : Lane) (left more : List UpFrame) (put : List Up) → LaneCounts lane → LanePut lane later → later.up ≡ lane.up ++ put
    → (lane.began ≡ None → ⊥) → numbered_ups more ≡ numbered_from (length lane.up) put → AllByRecursion (λ (f : UpFrame). f.ack ≤ later.down_taken) more
    → UpWay lane left true → UpWay later (left ++ more) true
way_sent lane later left more put counts goes up begun numbers acks way = record {
  none = λ unlearnt. absurd (begun (sym goes.began ∙ unlearnt));
  next = ([], sym all ∙ sym (append-nil (numbered_ups (left ++ more))));
  whole = λ is. all;
  acks =
      all_joined (λ (f : UpFrame). f.ack ≤ later.down_taken) left more
      (all_follow (λ (f : UpFrame). f.ack ≤ lane.down_taken) (λ (f : UpFrame). f.ack ≤ later.down_taken) (λ f is. omega (arith, is, goes.down_taken)) left way.acks)
      acks;
}
  where
    all : numbered_ups (left ++ more) ≡ numbered_behind later.up_taken later.up
    all =
        numbered_ups_joined left more
        ∙ ap (λ (xs : List (ℕ × Up)). xs ++ numbered_ups more) (way.whole refl)
        ∙ ap (λ (xs : List (ℕ × Up)). numbered_behind lane.up_taken lane.up ++ xs) numbers
        ∙ sym (behind_more lane.up_taken lane.up put counts.up_taken)
        ∙ sym (ap (λ (n : ℕ). numbered_behind n later.up) goes.up_taken ∙ ap (numbered_behind lane.up_taken) up)

-- The counts of a lane as more is put.
pub counts_put : (lane later : Lane) (put : List Up) → LanePut lane later → later.up ≡ lane.up ++ put → (lane.began ≡ None → ⊥) → list_all is_numbered_up put ≡ true
    → later.down_taken ≤ length later.down → LaneCounts lane → LaneCounts later
counts_put lane later put goes up begun all low c = record {
  up_taken = omega (arith, c.up_taken, goes.up_taken, ap (λ (ms : List Up). length ms) up, length-append lane.up put);
  down_taken = low;
  no_up = λ unlearnt. absurd (begun (sym goes.began ∙ unlearnt));
  no_down = λ unlearnt. absurd (begun (sym goes.began ∙ unlearnt));
  ups = ap (list_all is_numbered_up) up ∙ all_numbered lane.up put c.ups all;
  downs = ap (list_all is_numbered_down) goes.down ∙ c.downs;
}
