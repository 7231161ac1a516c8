-- Connections that are cut all at once, by a count of those that were made.
use Rattle.std.proofs.Common.{◌≡◌, ℕ, ◌<◌, Some, List, length, set, refl, ap, ◌∙◌, sym, true, false, ◌&&◌, ◌||◌, Bool, inl, inr}
use Rattle.std.specs.Prelude.{slice_get, All, map, ◌==◌}
use Rattle.std.proofs.lemmas.Bool.{cases_eq, lt-ltb, eq-eqb, ne_eqb, and_left, and_right}
use Rattle.std.proofs.Math.Bool.{or_assoc, or-true}
use Rattle.std.proofs.lemmas.Simd.{map-map}
use Rattle.std.proofs.lemmas.Option.{slice_get_within}
use Rattle.outer_link.specs.declared.connection.Connection.{Connection}
use Rattle.outer_link.specs.ServerState.{ServerState, has_cut, shut_server, parted_server}
use Rattle.outer_link.specs.TableState.{is_cut_together, conn_told}
use Rattle.outer_link.specs.Told.{ConnTold, cut_where, is_of_server, is_of_pair}
use Rattle.outer_link.proofs.ListSteps.{got_same, got_other, map_as}

-- a connection of the data server that was changed
marked_here : (servers : List ServerState) (s : ℕ) (v w : ServerState) (c : Connection) → slice_get servers s ≡ Some v → c.server ≡ s → (is_cut_together servers c ≡ has_cut v c.app c.made) × (is_cut_together (set servers s w) c ≡ has_cut w c.app c.made)
marked_here servers s v w c at here =
    (rw (here, at) refl, rw (here, got_same servers s w (slice_get_within servers s v at)) refl)

-- a connection of another one
marked_there : (servers : List ServerState) (s : ℕ) (w : ServerState) (c : Connection) → (c.server ≡ s → ⊥) → is_cut_together (set servers s w) c ≡ is_cut_together servers c
marked_there servers s w c apart = rw (got_other servers s c.server w apart) refl

or_nothing : (a b : Bool) → b ≡ false → a ≡ (a || b)
or_nothing true b nothing = refl
or_nothing false b nothing = sym nothing

or_both : (d a b : Bool) → a ≡ true → b ≡ true → a ≡ (d || b)
or_both true a b first second = first
or_both false a b first second = first ∙ sym second

-- where a change of a data server cuts the connections of a test
pub marked_by : (servers : List ServerState) (s : ℕ) (v w : ServerState) (test : Connection → Bool) (c : Connection) → slice_get servers s ≡ Some v
    → (c.server ≡ s → has_cut w c.app c.made ≡ (has_cut v c.app c.made || test c)) → ((c.server ≡ s → ⊥) → test c ≡ false)
    → is_cut_together (set servers s w) c ≡ (is_cut_together servers c || test c)
marked_by servers s v w test c at inside outside =
    elim (cases_eq c.server s) [
      | inl here ↦ let m = marked_here servers s v w c at here in m.1 ∙ inside here ∙ ap (λ b. b || test c) (sym m.0)
      | inr apart ↦ marked_there servers s w c apart ∙ or_nothing (is_cut_together servers c) (test c) (outside apart)
    ]

-- a data server that is shut has cut all of its connections that were made
shut_inside : (s : ℕ) (v : ServerState) (made : ℕ) (c : Connection) → c.made < made → c.server ≡ s
    → has_cut (shut_server v made) c.app c.made ≡ (has_cut v c.app c.made || (c.server == s))
shut_inside s v made c before here =
    or_both (has_cut v c.app c.made) _ _ (rw (lt-ltb c.made made before) refl) (eq-eqb c.server s here)

-- a pair that is parted has cut all of its connections that were made
part_inside : (a s : ℕ) (v : ServerState) (made : ℕ) (c : Connection) → c.made < made → a < length v.pairs → c.server ≡ s
    → has_cut (parted_server v a made) c.app c.made ≡ (has_cut v c.app c.made || ((c.app == a) && (c.server == s)))
part_inside a s v made c before within here =
    elim (cases_eq c.app a) [
      | inl same ↦
          or_both (has_cut v c.app c.made) _ _
          (rw (same, got_same v.pairs a (record { parted = true; cut_before = made }) within, lt-ltb c.made made before, or-true) refl)
          (rw (eq-eqb c.app a same, eq-eqb c.server s here) refl)
      | inr apart ↦
          rw (got_other v.pairs a c.app (record { parted = true; cut_before = made }) apart)
          (or_nothing (has_cut v c.app c.made) ((c.app == a) && (c.server == s)) (and_left (c.app == a) (c.server == s) (ne_eqb c.app a apart)))
    ]

-- what is told of connections, behind a change of marks
cut_all : (old now : List ServerState) (conns : List Connection) (test : ConnTold → Bool) (made : ℕ) → All (λ c. c.made < made) conns
    → ((c : Connection) → c.made < made → is_cut_together now c ≡ (is_cut_together old c || test (conn_told old c)))
    → map (conn_told now) conns ≡ map (cut_where test) (map (conn_told old) conns)
cut_all old now conns test made before marked =
    map_as (conn_told now) (λ c. cut_where test (conn_told old c)) (λ c. c.made < made) conns
    (λ c b. rw (marked c b, ← (or_assoc c.is_cut (is_cut_together old c) (test (conn_told old c)))) refl) before
    ∙ sym (map-map (cut_where test) (conn_told old) conns)

-- shutting a data server cuts its connections
pub cut_shut : (servers : List ServerState) (conns : List Connection) (s made : ℕ) (v : ServerState) → slice_get servers s ≡ Some v → All (λ c. c.made < made) conns
    → map (conn_told (set servers s (shut_server v made))) conns ≡ map (cut_where (is_of_server s)) (map (conn_told servers) conns)
cut_shut servers conns s made v at before =
    cut_all servers (set servers s (shut_server v made)) conns (is_of_server s) made before
    (λ c b. marked_by servers s v (shut_server v made) (λ x. x.server == s) c at (shut_inside s v made c b) (ne_eqb c.server s))

-- parting a pair cuts its connections
pub cut_part : (servers : List ServerState) (conns : List Connection) (a s made : ℕ) (v : ServerState) → slice_get servers s ≡ Some v → a < length v.pairs → All (λ c. c.made < made) conns
    → map (conn_told (set servers s (parted_server v a made))) conns ≡ map (cut_where (is_of_pair a s)) (map (conn_told servers) conns)
cut_part servers conns a s made v at within before =
    cut_all servers (set servers s (parted_server v a made)) conns (is_of_pair a s) made before
    (λ c b. marked_by servers s v (parted_server v a made) (λ x. (x.app == a) && (x.server == s)) c at (part_inside a s v made c b within)
    (λ apart. and_right (c.app == a) (c.server == s) (ne_eqb c.server s apart)))

-- a data server that cuts no more
pub cut_none : (servers : List ServerState) (conns : List Connection) (s : ℕ) (v w : ServerState) → slice_get servers s ≡ Some v
    → ((app made : ℕ) → has_cut w app made ≡ has_cut v app made) → map (conn_told (set servers s w)) conns ≡ map (conn_told servers) conns
cut_none servers conns s v w at same =
    map_as (conn_told (set servers s w)) (conn_told servers) (λ _. Unit {0}) conns
    (λ c _. rw (unmarked c) refl) (λ _ _ _. tt)
  where
    unmarked : (c : Connection) → is_cut_together (set servers s w) c ≡ is_cut_together servers c
    unmarked c = marked_by servers s v w (λ _. false) c at (λ _. same c.app c.made ∙ or_nothing (has_cut v c.app c.made) false refl) (λ _. refl) ∙ sym (or_nothing (is_cut_together servers c) false refl)
