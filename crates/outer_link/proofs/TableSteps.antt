-- What each change of the table's parts does to what it tells, and that the parts stay as they must be.
use Rattle.std.proofs.Common.{◌≡◌, ℕ, ◌<◌, ◌≤◌, zero, suc, Some, None, List, [], ◌∷◌, ◌++◌, length, get_or, set, take, replicate, refl, ap, ◌∙◌, sym, subst, arith, add-zero, Bool, true, false, not, ◌&&◌, ◌||◌, inl, inr}
use Rattle.std.specs.Prelude.{slice_get, All, map, nat_lt, if◌then◌else◌}
use Rattle.std.specs.Option.{option_map_or}
use Rattle.std.proofs.lemmas.Bool.{cases_eq, true≢false, le-ltb}
use Rattle.std.proofs.lemmas.List.{length-map, length-set, append-nil, map-append, map-id, map-set}
use Rattle.std.proofs.lemmas.List.Elements.{All-set}
use Rattle.std.proofs.lemmas.Option.{slice_get_read, slice_get_within, slice_get-get_or, slice_get-map}
use Rattle.outer_link.specs.Changed.{changed}
use Rattle.outer_link.specs.declared.connection.Connection.{Connection}
use Rattle.outer_link.specs.declared.data_server.Pair.{Pair}
use Rattle.outer_link.specs.ServerState.{ServerState, fresh_pair, fresh_server, reach_of, has_cut, joined_pair, shut_server, parted_server, joined_server}
use Rattle.outer_link.specs.TableState.{IsSound, CutsWithin, SeesNone, NoneWaits, conn_told, told_of, is_cut_together}
use Rattle.outer_link.specs.Told.{ConnTold, ServerTold, Told, is_waiting, cut_where, is_of_server, is_of_pair, with_listening, with_parted, fresh_conn, fresh_told, conn_with, conn_without, coming, undelivered, is_cut_at, is_parted, after_take, after_listen, after_shut, after_part, after_join, after_connect, after_put}
use Rattle.outer_link.specs.Lines.{fresh_lines, left, line_to, put_into, taken_from}
use Rattle.outer_link.specs.declared.end.End.TheVariants.{App, Server}
use Rattle.outer_link.specs.declared.end.End.{End}
use Rattle.outer_link.proofs.ChangedLemmas.{changed_at}
use Rattle.outer_link.proofs.SoundSteps.{kept_server, sees_map}
use Rattle.outer_link.proofs.ListSteps.{got_same, got_other, map_changed, changed_same, changed_nothing, all_at}
use Rattle.outer_link.proofs.CutSteps.{cut_shut, cut_part, cut_none}

-- a data server that is told of is there
pub server_within : (servers : List ServerState) (conns : List Connection) (t : Told) (s : ℕ) → told_of servers conns ≡ t → s < length t.servers → s < length servers
server_within servers conns t s is within = subst (λ n. s < n) (length-map servers reach_of) (subst (λ (x : Told). s < length x.servers) (sym is) within)

-- the same of a connection
pub conn_within : (servers : List ServerState) (conns : List Connection) (t : Told) (n : ℕ) → told_of servers conns ≡ t → n < length t.conns → n < length conns
conn_within servers conns t n is within = subst (λ m. n < m) (length-map conns (conn_told servers)) (subst (λ (x : Told). n < length x.conns) (sym is) within)

-- what was read of the data servers
pub server_at : (servers : List ServerState) (conns : List Connection) (t : Told) (s : ℕ) (v : ServerState) → told_of servers conns ≡ t → s < length t.servers
    → v ≡ get_or servers s v → slice_get servers s ≡ Some v
server_at servers conns t s v is within read = slice_get_read servers (length servers) s v refl (server_within servers conns t s is within) read

-- what was read of the connections
pub conn_at : (servers : List ServerState) (conns : List Connection) (t : Told) (n : ℕ) (c : Connection) → told_of servers conns ≡ t → n < length t.conns
    → c ≡ get_or conns n c → slice_get conns n ≡ Some c
conn_at servers conns t n c is within read = slice_get_read conns (length conns) n c refl (conn_within servers conns t n is within) read

-- an application server has its pair with each data server
pub pair_within : (apps : ℕ) (servers : List ServerState) (conns : List Connection) (a s : ℕ) (v : ServerState) → IsSound apps servers conns
    → slice_get servers s ≡ Some v → a < apps → a < length v.pairs
pair_within apps servers conns a s v kept at within = rw (all_at (λ x. length x.pairs ≡ apps) servers s v at kept.pairs) within

same_told : {a b : List ConnTold} {c d : List ServerTold} → a ≡ b → c ≡ d → (let x : Told = record { conns = a; servers = c } in x) ≡ record { conns = b; servers = d }
same_told e f = rw (e, f) refl

-- what is cut does not wait
still_cut : (at accepted is_cut more : Bool) → (at && not (accepted || is_cut)) ≡ false → (at && not (accepted || (is_cut || more))) ≡ false
still_cut false accepted is_cut more e = refl
still_cut true true is_cut more e = refl
still_cut true false true more e = refl
still_cut true false false more e = absurd (true≢false e)

-- a connection that is cut doesn't wait
pub cut_waits : (at accepted : Bool) → (at && not (accepted || true)) ≡ false
cut_waits false accepted = refl
cut_waits true false = refl
cut_waits true true = refl

-- a change of a data server that cuts nothing
kept_quiet : (apps : ℕ) (servers : List ServerState) (conns : List Connection) (s : ℕ) (v w : ServerState)
    → IsSound apps servers conns → slice_get servers s ≡ Some v → length w.pairs ≡ length v.pairs → CutsWithin (length conns) w
    → ((app made : ℕ) → has_cut w app made ≡ has_cut v app made) → SeesNone (map (conn_told servers) conns) s w → IsSound apps (set servers s w) conns
kept_quiet apps servers conns s v w kept at pairs cuts same sees =
    kept_server apps servers conns s v w (λ c. c) kept at pairs cuts
    (cut_none servers conns s v w at same ∙ sym (map-id (map (conn_told servers) conns)))
    (λ n c e. e) (rw (map-id (map (conn_told servers) conns)) sees)

-- the data server listens
pub kept_listen : (apps : ℕ) (servers : List ServerState) (conns : List Connection) (s : ℕ) (v : ServerState)
    → IsSound apps servers conns → slice_get servers s ≡ Some v → IsSound apps (set servers s (record v { listens = true })) conns
kept_listen apps servers conns s v kept at =
    kept_quiet apps servers conns s v (record v { listens = true }) kept at refl (all_at (CutsWithin (length conns)) servers s v at kept.cuts) (λ _ _. refl) (kept.seen s v at)

pub told_listen : (servers : List ServerState) (conns : List Connection) (s : ℕ) (v : ServerState) → slice_get servers s ≡ Some v
    → told_of (set servers s (record v { listens = true })) conns ≡ after_listen (told_of servers conns) s
told_listen servers conns s v at =
    same_told (cut_none servers conns s v (record v { listens = true }) at (λ _ _. refl))
    (map_changed reach_of (with_listening true) s servers v (record v { listens = true }) at refl)

-- the data server is shut
pub kept_shut : (apps : ℕ) (servers : List ServerState) (conns : List Connection) (s : ℕ) (v : ServerState)
    → IsSound apps servers conns → slice_get servers s ≡ Some v → IsSound apps (set servers s (shut_server v (length conns))) conns
kept_shut apps servers conns s v kept at =
    let w : ServerState = shut_server v (length conns) in
    let still : (n : ℕ) (c : ConnTold) → is_waiting n c ≡ false → is_waiting n (cut_where (is_of_server s) c) ≡ false =
    λ n c e. still_cut _ c.accepted c.is_cut _ e in
    kept_server apps servers conns s v w (cut_where (is_of_server s)) kept at refl
    (omega arith, (all_at (CutsWithin (length conns)) servers s v at kept.cuts).1)
    (cut_shut servers conns s (length conns) v at kept.made) still
    (sees_map (cut_where (is_of_server s)) (map (conn_told servers) conns) s v w refl (still s) (kept.seen s v at))

pub told_shut : (servers : List ServerState) (conns : List Connection) (s : ℕ) (v : ServerState) → slice_get servers s ≡ Some v
    → All (λ c. c.made < length conns) conns → told_of (set servers s (shut_server v (length conns))) conns ≡ after_shut (told_of servers conns) s
told_shut servers conns s v at made =
    same_told (cut_shut servers conns s (length conns) v at made)
    (map_changed reach_of (with_listening false) s servers v (shut_server v (length conns)) at refl)

-- the pair is parted
pub kept_part : (apps : ℕ) (servers : List ServerState) (conns : List Connection) (a s : ℕ) (v : ServerState) → a < length v.pairs
    → IsSound apps servers conns → slice_get servers s ≡ Some v → IsSound apps (set servers s (parted_server v a (length conns))) conns
kept_part apps servers conns a s v within kept at =
    let w : ServerState = parted_server v a (length conns) in
    let cuts = all_at (CutsWithin (length conns)) servers s v at kept.cuts in
    let still : (n : ℕ) (c : ConnTold) → is_waiting n c ≡ false → is_waiting n (cut_where (is_of_pair a s) c) ≡ false =
    λ n c e. still_cut _ c.accepted c.is_cut _ e in
    kept_server apps servers conns s v w (cut_where (is_of_pair a s)) kept at (length-set v.pairs a (record { parted = true; cut_before = length conns }))
    (cuts.0, All-set (λ p. p.cut_before ≤ length conns) v.pairs a (record { parted = true; cut_before = length conns }) (omega arith) cuts.1)
    (cut_part servers conns a s (length conns) v at within kept.made) still
    (sees_map (cut_where (is_of_pair a s)) (map (conn_told servers) conns) s v w refl (still s) (kept.seen s v at))

pub told_part : (servers : List ServerState) (conns : List Connection) (a s : ℕ) (v : ServerState) → a < length v.pairs → slice_get servers s ≡ Some v
    → All (λ c. c.made < length conns) conns → told_of (set servers s (parted_server v a (length conns))) conns ≡ after_part (told_of servers conns) a s
told_part servers conns a s v within at made =
    same_told (cut_part servers conns a s (length conns) v at within made)
    (map_changed reach_of (with_parted a true) s servers v (parted_server v a (length conns)) at
    (ap (λ ps. let x : ServerTold = record { listens = v.listens; parted = ps } in x) (map-set (λ p. p.parted) v.pairs a (record { parted = true; cut_before = length conns }))))

pub parted_apart : (servers : List ServerState) (conns : List Connection) (a s made : ℕ) (v : ServerState) → a < length v.pairs → slice_get servers s ≡ Some v
    → is_parted (told_of (set servers s (parted_server v a made)) conns) a s ≡ true
parted_apart servers conns a s made v within at =
    let p : Pair = record { parted = true; cut_before = made } in
    rw (
      slice_get-map reach_of (set servers s (parted_server v a made)) s,
      got_same servers s (parted_server v a made) (slice_get_within servers s v at),
      slice_get-map (λ (x : Pair). x.parted) (set v.pairs a p) a,
      got_same v.pairs a p within,
    ) refl

-- the pair is joined
joined_cut : (v : ServerState) (a app made : ℕ) → a < length v.pairs → has_cut (joined_server v a) app made ≡ has_cut v app made
joined_cut v a app made within =
    let d = get_or v.pairs a fresh_pair in
    let at : slice_get v.pairs a ≡ Some d = slice_get-get_or v.pairs a fresh_pair within in
    rw (changed_at joined_pair a v.pairs d at)
    (elim (cases_eq app a) [
      | inl here ↦ rw (here, got_same v.pairs a (joined_pair d) within, at) refl
      | inr apart ↦ rw (got_other v.pairs a app (joined_pair d) apart) refl
    ])

pub kept_join : (apps : ℕ) (servers : List ServerState) (conns : List Connection) (a s : ℕ) (v : ServerState) → a < length v.pairs
    → IsSound apps servers conns → slice_get servers s ≡ Some v → IsSound apps (set servers s (joined_server v a)) conns
kept_join apps servers conns a s v within kept at =
    let d = get_or v.pairs a fresh_pair in
    let there : slice_get v.pairs a ≡ Some d = slice_get-get_or v.pairs a fresh_pair within in
    let as_set = changed_at joined_pair a v.pairs d there in
    let cuts = all_at (CutsWithin (length conns)) servers s v at kept.cuts in
    kept_quiet apps servers conns s v (joined_server v a) kept at (ap length as_set ∙ length-set v.pairs a (joined_pair d))
    (cuts.0, rw as_set (All-set (λ p. p.cut_before ≤ length conns) v.pairs a (joined_pair d) (all_at (λ p. p.cut_before ≤ length conns) v.pairs a d there cuts.1) cuts.1))
    (λ app made. joined_cut v a app made within) (kept.seen s v at)

pub told_join : (servers : List ServerState) (conns : List Connection) (a s : ℕ) (v : ServerState) → a < length v.pairs → slice_get servers s ≡ Some v
    → told_of (set servers s (joined_server v a)) conns ≡ after_join (told_of servers conns) a s
told_join servers conns a s v within at =
    let d = get_or v.pairs a fresh_pair in
    let there : slice_get v.pairs a ≡ Some d = slice_get-get_or v.pairs a fresh_pair within in
    same_told (cut_none servers conns s v (joined_server v a) at (λ app made. joined_cut v a app made within))
    (map_changed reach_of (with_parted a false) s servers v (joined_server v a) at
    (ap (λ ps. let x : ServerTold = record { listens = v.listens; parted = ps } in x)
    (ap (map (λ p. p.parted)) (changed_at joined_pair a v.pairs d there) ∙ map-set (λ p. p.parted) v.pairs a (joined_pair d))))

-- the data server has seen so many connections
pub kept_see : (apps : ℕ) (servers : List ServerState) (conns : List Connection) (s k : ℕ) (v : ServerState)
    → IsSound apps servers conns → slice_get servers s ≡ Some v → k ≤ length (map (conn_told servers) conns)
    → NoneWaits s (take k (map (conn_told servers) conns)) → IsSound apps (set servers s (record v { seen = k })) conns
kept_see apps servers conns s k v kept at within none =
    kept_quiet apps servers conns s v (record v { seen = k }) kept at refl (all_at (CutsWithin (length conns)) servers s v at kept.cuts) (λ _ _. refl) (within, none)

pub told_see : (servers : List ServerState) (conns : List Connection) (s k : ℕ) (v : ServerState) → slice_get servers s ≡ Some v
    → told_of (set servers s (record v { seen = k })) conns ≡ told_of servers conns
told_see servers conns s k v at =
    same_told (cut_none servers conns s v (record v { seen = k }) at (λ _ _. refl))
    (map_changed reach_of (λ r. r) s servers v (record v { seen = k }) at refl
    ∙ changed_same (λ r. r) s (map reach_of servers) (reach_of v) (rw (slice_get-map reach_of servers s, at) refl) refl)

-- a new table
map_replicate : {A B : Type 0} → (f : A → B) (n : ℕ) (x : A) → map f (replicate n x) ≡ replicate n (f x)
map_replicate f zero x = refl
map_replicate f (suc n) x = ap (λ xs. f x ∷ xs) (map_replicate f n x)

pub told_fresh : (apps servers : ℕ) → told_of (replicate servers (fresh_server apps)) [] ≡ fresh_told apps servers
told_fresh apps servers =
    same_told refl
    (map_replicate reach_of servers (fresh_server apps)
    ∙ ap (λ ps. replicate servers (let x : ServerTold = record { listens = false; parted = ps } in x)) (map_replicate (λ (p : Pair). p.parted) apps fresh_pair))

-- a new connection, behind all others, is not cut
unmarked : (servers : List ServerState) (c : Connection) (made : ℕ) → All (CutsWithin made) servers → c.made ≡ made → is_cut_together servers c ≡ false
unmarked servers c made cuts is =
    elim (slice_get servers c.server) as (λ o. slice_get servers c.server ≡ o → option_map_or (λ s. has_cut s c.app c.made) o false ≡ false) [
      | None ↦ λ _. refl
      | Some v ↦ λ at. no_cut v (all_at (CutsWithin made) servers c.server v at cuts)
    ] refl
  where
    no_pair : (v : ServerState) → All (λ p. p.cut_before ≤ made) v.pairs → option_map_or (λ p. nat_lt c.made p.cut_before) (slice_get v.pairs c.app) false ≡ false
    no_pair v all =
        elim (slice_get v.pairs c.app) as (λ o. slice_get v.pairs c.app ≡ o → option_map_or (λ p. nat_lt c.made p.cut_before) o false ≡ false) [
          | None ↦ λ _. refl
          | Some p ↦ λ at. let low : p.cut_before ≤ made = all_at (λ x. x.cut_before ≤ made) v.pairs c.app p at all in le-ltb c.made p.cut_before (omega arith)
        ] refl

    no_cut : (v : ServerState) → CutsWithin made v → has_cut v c.app c.made ≡ false
    no_cut v within =
        let low : v.cut_before ≤ made = within.0 in
        rw (le-ltb c.made v.cut_before (omega arith)) (no_pair v within.1)

pub told_connect : (apps : ℕ) (servers : List ServerState) (conns : List Connection) (a s : ℕ) (c : Connection) → IsSound apps servers conns
    → c.app ≡ a → c.server ≡ s → c.made ≡ length conns → c.is_cut ≡ false → c.is_accepted ≡ false → c.lines ≡ fresh_lines
    → told_of servers (conns ++ c ∷ []) ≡ after_connect (told_of servers conns) a s
told_connect apps servers conns a s c kept of_app of_server made uncut unaccepted lines =
    same_told (map-append (conn_told servers) conns (c ∷ []) ∙ ap (λ x. map (conn_told servers) conns ++ x ∷ []) fresh) refl
  where
    fresh : conn_told servers c ≡ fresh_conn a s
    fresh = rw (unmarked servers c (length conns) kept.cuts made, of_app, of_server, uncut, unaccepted, lines) refl

-- one connection is changed
pub told_conn : (servers : List ServerState) (conns : List Connection) (n : ℕ) (c d : Connection) (f : ConnTold → ConnTold) → slice_get conns n ≡ Some c
    → conn_told servers d ≡ f (conn_told servers c) → told_of servers (set conns n d) ≡ record (told_of servers conns) { conns = changed f n (map (conn_told servers) conns) }
told_conn servers conns n c d f at is = same_told (map_changed (conn_told servers) f n conns c d at is) refl

-- what is told of one connection
pub told_at : (servers : List ServerState) (conns : List Connection) (n : ℕ) (c : Connection) → slice_get conns n ≡ Some c
    → slice_get (told_of servers conns).conns n ≡ Some (conn_told servers c)
told_at servers conns n c at = rw (slice_get-map (conn_told servers) conns n, at) refl

-- whether it is cut
pub cut_at : (servers : List ServerState) (conns : List Connection) (n : ℕ) (c : Connection) (b : Bool) → slice_get conns n ≡ Some c
    → is_cut_at (told_of servers conns) n ≡ b → (conn_told servers c).is_cut ≡ b
cut_at servers conns n c b at is = ap (λ o. option_map_or (λ (x : ConnTold). x.is_cut) o false) (sym (told_at servers conns n c at)) ∙ is

-- what is to be taken there, where it isn't cut
pub left_at : (servers : List ServerState) (conns : List Connection) (n : ℕ) (c : Connection) (end : End) → slice_get conns n ≡ Some c
    → is_cut_at (told_of servers conns) n ≡ false → undelivered (told_of servers conns) n end ≡ left (line_to c.lines end)
left_at servers conns n c end at uncut =
    ap (λ o. option_map_or (coming end) o []) (told_at servers conns n c at) ∙ rw (cut_at servers conns n c false at uncut) refl

-- bytes put on a connection that is cut change nothing
pub put_on_cut : (t : Told) (n : ℕ) (end : End) (bytes : List ℕ) → is_cut_at t n ≡ true → after_put t n end bytes ≡ t
put_on_cut t n end bytes cut =
    same_told (changed_nothing (conn_with end bytes) n t.conns (λ c at. rw (is_cut c at) refl)) refl
  where
    is_cut : (c : ConnTold) → slice_get t.conns n ≡ Some c → c.is_cut ≡ true
    is_cut c at = ap (λ o. option_map_or (λ (x : ConnTold). x.is_cut) o false) (sym at) ∙ cut

-- bytes put on another
pub told_put : (servers : List ServerState) (conns : List Connection) (n : ℕ) (c : Connection) (end : End) (bytes : List ℕ) → slice_get conns n ≡ Some c
    → is_cut_at (told_of servers conns) n ≡ false
    → told_of servers (set conns n (record c { lines = put_into c.lines end bytes })) ≡ after_put (told_of servers conns) n end bytes
told_put servers conns n c end bytes at uncut =
    told_conn servers conns n c (record c { lines = put_into c.lines end bytes }) (conn_with end bytes) at
    (rw (cut_at servers conns n c false at uncut) refl)

-- no byte put
pub put_none : (t : Told) (n : ℕ) (end : End) → after_put t n end [] ≡ t
put_none t n end = same_told (changed_nothing (conn_with end []) n t.conns (λ c _. nothing c end)) refl
  where
    on_open : (c : ConnTold) (e : End) → (let x : ConnTold = record c { lines = put_into c.lines e [] } in x) ≡ c
    on_open c App = rw append-nil refl
    on_open c Server = rw append-nil refl

    nothing : (c : ConnTold) (e : End) → conn_with e [] c ≡ c
    nothing c e =
        elim c.is_cut as (λ b. (if b then c else record c { lines = put_into c.lines e [] }) ≡ c) [ true ↦ refl | false ↦ on_open c e ]

-- no byte taken
pub take_none : (t : Told) (n : ℕ) (end : End) → after_take t n end 0 ≡ t
take_none t n end = same_told (changed_nothing (conn_without end 0) n t.conns (λ c _. nothing c end)) refl
  where
    nothing : (c : ConnTold) (e : End) → conn_without e 0 c ≡ c
    nothing c App = rw add-zero refl
    nothing c Server = rw add-zero refl

-- bytes taken
pub told_take : (servers : List ServerState) (conns : List Connection) (n : ℕ) (c : Connection) (end : End) (count : ℕ) → slice_get conns n ≡ Some c
    → told_of servers (set conns n (record c { lines = taken_from c.lines end count })) ≡ after_take (told_of servers conns) n end count
told_take servers conns n c end count at =
    told_conn servers conns n c (record c { lines = taken_from c.lines end count }) (conn_without end count) at refl
