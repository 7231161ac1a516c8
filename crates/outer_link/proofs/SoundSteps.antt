-- What is true of the table's parts stays true.
use Rattle.std.proofs.Common.{◌≡◌, ℕ, ◌+◌, ◌<◌, ◌≤◌, ◌^◌, zero, suc, Some, List, [], ◌∷◌, ◌++◌, length, set, take, refl, ap, ◌∙◌, sym, subst, arith, false, inl, inr, length-set}
use Rattle.std.specs.Prelude.{slice_get, All, map}
use Rattle.std.proofs.lemmas.Bool.{cases_eq}
use Rattle.std.proofs.lemmas.List.{length-map, take-map, take-append-le, map-append, map-set, length_push}
use Rattle.std.proofs.lemmas.List.Elements.{All-nil, All-cons, All-head, All-tail, All-map, All-weaker, All-set, All-push}
use Rattle.std.proofs.lemmas.Option.{slice_get_within, same_Some, none-some, slice_get-map}
use Rattle.outer_link.specs.declared.connection.Connection.{Connection}
use Rattle.outer_link.specs.ServerState.{ServerState}
use Rattle.outer_link.specs.TableState.{IsSound, CutsWithin, SeesNone, conn_told}
use Rattle.outer_link.specs.Told.{ConnTold, is_waiting}
use Rattle.outer_link.proofs.ListSteps.{got_same, got_other, all_at}

-- a write in a front, where the new element has what the old one had
front_set : {A : Type 0} → (P : A → Type 0) (k : ℕ) (xs : List A) (i : ℕ) (x y : A) → slice_get xs i ≡ Some x → (P x → P y) → All P (take k xs) → All P (take k (set xs i y))
front_set P zero xs i x y at from all = All-nil P
front_set P (suc k) [] i x y at from all = absurd (none-some x at)
front_set P (suc k) (z ∷ xs) zero x y at from all =
    All-cons P y (take k xs) (from (subst P (same_Some z x at) (All-head P z (take k xs) all))) (All-tail P z (take k xs) all)
front_set P (suc k) (z ∷ xs) (suc i) x y at from all =
    All-cons P z (take k (set xs i y)) (All-head P z (take k xs) all) (front_set P k xs i x y at from (All-tail P z (take k xs) all))

-- connections that still don't wait
pub sees_map : (h : ConnTold → ConnTold) (xs : List ConnTold) (n : ℕ) (v w : ServerState) → w.seen ≡ v.seen
    → ((c : ConnTold) → is_waiting n c ≡ false → is_waiting n (h c) ≡ false) → SeesNone xs n v → SeesNone (map h xs) n w
sees_map h xs n v w same still sees = (
  rw (same, length-map xs h) sees.0,
  rw (same, take-map h v.seen xs)
      (All-map (λ c. is_waiting n c ≡ false) h (take v.seen xs)
      (All-weaker (λ c. is_waiting n c ≡ false) (λ c. is_waiting n (h c) ≡ false) still (take v.seen xs) sees.1)),
)

-- behind a change of one data server
pub kept_server : (apps : ℕ) (servers : List ServerState) (conns : List Connection) (s : ℕ) (v w : ServerState) (h : ConnTold → ConnTold)
    → IsSound apps servers conns → slice_get servers s ≡ Some v → length w.pairs ≡ length v.pairs → CutsWithin (length conns) w
    → map (conn_told (set servers s w)) conns ≡ map h (map (conn_told servers) conns)
    → ((n : ℕ) (c : ConnTold) → is_waiting n c ≡ false → is_waiting n (h c) ≡ false)
    → SeesNone (map h (map (conn_told servers) conns)) s w → IsSound apps (set servers s w) conns
kept_server apps servers conns s v w h kept at pairs cuts told still sees = record {
  pairs = All-set (λ x. length x.pairs ≡ apps) servers s w (pairs ∙ all_at (λ x. length x.pairs ≡ apps) servers s v at kept.pairs) kept.pairs;
  numbers = kept.numbers;
  made = kept.made;
  cuts = All-set (CutsWithin (length conns)) servers s w cuts kept.cuts;
  seen = λ n x there. rw told (seen_then n x there);
}
  where
    seen_then : (n : ℕ) (x : ServerState) → slice_get (set servers s w) n ≡ Some x → SeesNone (map h (map (conn_told servers) conns)) n x
    seen_then n x there =
        elim (cases_eq n s) [
          | inl here ↦
              let is : w ≡ x = same_Some w x (sym (got_same servers s w (slice_get_within servers s v at)) ∙ ap (λ i. slice_get (set servers s w) i) (sym here) ∙ there) in
              subst (λ y. SeesNone (map h (map (conn_told servers) conns)) n y) is
              (subst (λ i. SeesNone (map h (map (conn_told servers) conns)) i w) (sym here) sees)
          | inr apart ↦
              sees_map h (map (conn_told servers) conns) n x x refl (still n)
              (kept.seen n x (sym (got_other servers s n w apart) ∙ there))
        ]

-- behind a change of one connection
pub kept_conn : (apps : ℕ) (servers : List ServerState) (conns : List Connection) (i : ℕ) (c d : Connection)
    → IsSound apps servers conns → slice_get conns i ≡ Some c → d.made ≡ c.made
    → ((n : ℕ) → is_waiting n (conn_told servers c) ≡ false → is_waiting n (conn_told servers d) ≡ false)
    → IsSound apps servers (set conns i d)
kept_conn apps servers conns i c d kept at made still = record {
  pairs = kept.pairs;
  numbers = rw (length-set conns i d) kept.numbers;
  made = subst (λ m. All (λ (x : Connection). x.made < m) (set conns i d)) (sym (length-set conns i d))
      (All-set (λ x. x.made < length conns) conns i d (rw made (all_at (λ x. x.made < length conns) conns i c at kept.made)) kept.made);
  cuts = rw (length-set conns i d) kept.cuts;
  seen = λ n x there. rw (map-set (conn_told servers) conns i d) (
    rw (length-set (map (conn_told servers) conns) i (conn_told servers d)) (kept.seen n x there).0,
    front_set (λ y. is_waiting n y ≡ false) x.seen (map (conn_told servers) conns) i (conn_told servers c) (conn_told servers d)
        (rw (slice_get-map (conn_told servers) conns i, at) refl) (still n) (kept.seen n x there).1,
  );
}

-- behind one connection more
pub kept_more : (apps : ℕ) (servers : List ServerState) (conns : List Connection) (c : Connection)
    → IsSound apps servers conns → c.made ≡ length conns → length conns < 2 ^ 32 → IsSound apps servers (conns ++ c ∷ [])
kept_more apps servers conns c kept made room = record {
  pairs = kept.pairs;
  numbers = rw (length_push conns c) (omega arith);
  made = subst (λ m. All (λ (x : Connection). x.made < m) (conns ++ c ∷ [])) (sym (length_push conns c))
      (All-push (λ x. x.made < length conns + 1) conns c
      (All-weaker (λ x. x.made < length conns) (λ x. x.made < length conns + 1) (λ x b. omega arith) conns kept.made) (omega arith));
  cuts = rw (length_push conns c) (All-weaker (CutsWithin (length conns)) (CutsWithin (length conns + 1)) more servers kept.cuts);
  seen = λ n x there. rw (map-append (conn_told servers) conns (c ∷ [])) (
    seen_more n x there,
    rw (take-append-le x.seen (map (conn_told servers) conns) (conn_told servers c ∷ []) (kept.seen n x there).0) (kept.seen n x there).1,
  );
}
  where
    more : (x : ServerState) → CutsWithin (length conns) x → CutsWithin (length conns + 1) x
    more x within =
        let low = within.0 in
        (omega arith, All-weaker (λ p. p.cut_before ≤ length conns) (λ p. p.cut_before ≤ length conns + 1) (λ p b. omega arith) x.pairs within.1)

    seen_more : (n : ℕ) (x : ServerState) → slice_get servers n ≡ Some x → x.seen ≤ length (map (conn_told servers) conns ++ conn_told servers c ∷ [])
    seen_more n x there =
        let low : x.seen ≤ length (map (conn_told servers) conns) = (kept.seen n x there).0 in
        rw (length_push (map (conn_told servers) conns) (conn_told servers c)) (omega arith)
