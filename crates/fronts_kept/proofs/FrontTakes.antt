-- A session's front and runs as it takes one message more.
use Rattle.std.proofs.Common.{◌≡◌, inl, inr, ℕ, zero, suc, ◌+◌, Bool, true, false, not, List, [], ◌∷◌, ◌++◌, take, drop, Some, refl, sym, ◌∙◌, ap, subst, arith, if◌then◌else◌}
use Rattle.std.specs.List.{AllByRecursion, list_any}
use Rattle.std.specs.Prelude.{◌||◌}
use Rattle.std.proofs.lemmas.Bool.{false≢true}
use Rattle.plain_orders.specs.declared.entry.Entry.{Entry}
use Rattle.subscript_keys.specs.declared.run.Run.{Run}
use Rattle.subscript_keys.specs.declared.span.Span.{Span}
use Rattle.block_bytes.specs.Blocks.{IsBlockOf}
use Rattle.block_cache.specs.CacheWords.{with_block, without_met, is_clear_of}
use Rattle.block_cache.specs.declared.limits.TheConstants.{CACHE_LIMIT}
use Rattle.ecp_messages.specs.declared.down.Down.{Down}
use Rattle.ecp_messages.specs.declared.down.Down.TheVariants.{Welcome, Reset, Block, Drop, Ack, Grant, Answer, Normal, Bare}
use Rattle.ecp_messages.specs.declared.front.Front.{Front}
use Rattle.app_rules.specs.AppState.{Session}
use Rattle.app_rules.specs.Looks.{Shown, ShowsMessage, shown_front}
use Rattle.cluster_runs.specs.Sent.{Lane, downs_taken}
use Rattle.cluster_invariant.specs.Coherence.{IsHeader, drops, front_of}
use Rattle.cluster_invariant.specs.Fronts.{CameIn, FrontIs, ShownIs, Stands, last_front}

-- the header of the last message
last_front-push : (f : Front) (ms : List Down) (m : Down) → last_front f (ms ++ m ∷ []) ≡ front_of m
last_front-push f [] m = refl
last_front-push f (x ∷ ms) m = last_front-push (front_of x) ms m

-- one message more of a list
pub take_more : {X : Type 0} (n : ℕ) (xs : List X) (m : X) (rest : List X) → drop n xs ≡ m ∷ rest → take (n + 1) xs ≡ take n xs ++ m ∷ []
take_more zero [] m rest is = absurd cc
take_more zero (x ∷ xs) m rest is = ap (λ (y : _). y ∷ []) (cc (is))
take_more (suc n) [] m rest is = absurd cc
take_more (suc n) (x ∷ xs) m rest is = ap (λ (k : ℕ). take k (x ∷ xs)) (one n) ∙ ap (λ (ys : List _). x ∷ ys) (take_more n xs m rest is)
  where
    one : (k : ℕ) → suc k + 1 ≡ suc (k + 1)
    one k = omega arith

-- what holds of all holds of it
pub all_dropped : {X : Type 0} (P : X → Type 0) (n : ℕ) (xs : List X) (m : X) (rest : List X) → drop n xs ≡ m ∷ rest → AllByRecursion P xs → P m
all_dropped P zero [] m rest is all = absurd cc
all_dropped P zero (x ∷ xs) m rest is all = subst P (cc (is)) all.0
all_dropped P (suc n) [] m rest is all = absurd cc
all_dropped P (suc n) (x ∷ xs) m rest is all = all_dropped P n xs m rest is all.1

-- runs that stand

any_push : (P : Down → Bool) (ms : List Down) (m : Down) → list_any P ms ≡ false → P m ≡ false → list_any P (ms ++ m ∷ []) ≡ false
any_push P [] m none last = ap (λ (b : Bool). b || false) last
any_push P (x ∷ ms) m none last = go (P x) none (λ is. any_push P ms m is last)
  where
    go : (b : Bool) → (b || list_any P ms) ≡ false → (list_any P ms ≡ false → list_any P (ms ++ m ∷ []) ≡ false) → (b || list_any P (ms ++ m ∷ [])) ≡ false
    go true is more = absurd (false≢true (sym is))
    go false is more = more is

came_push : (run : Run) (block : List ℕ) (ms : List Down) (m : Down) → drops run.span m ≡ false → CameIn run block ms → CameIn run block (ms ++ m ∷ [])
came_push run block ms m apart came = record { its = came.its; unmet = any_push (drops run.span) ms m came.unmet apart }

stands_push : (run : Run) (ms : List Down) (m : Down) → drops run.span m ≡ false → Stands run ms → Stands run (ms ++ m ∷ [])
stands_push run [] m apart is = absurd is
stands_push run (Welcome session epoch kept front taken ∷ ms) m apart is = stands_push run ms m apart is
stands_push run (Reset session at ∷ ms) m apart is = stands_push run ms m apart is
stands_push run (Block front block ∷ ms) m apart (inl came) = inl (came_push run block ms m apart came)
stands_push run (Block front block ∷ ms) m apart (inr later) = inr (stands_push run ms m apart later)
stands_push run (Drop front lo hi ∷ ms) m apart is = stands_push run ms m apart is
stands_push run (Ack front ∷ ms) m apart is = stands_push run ms m apart is
stands_push run (Grant front ticket at ∷ ms) m apart is = stands_push run ms m apart is
stands_push run (Answer front about job number at sum ∷ ms) m apart is = stands_push run ms m apart is
stands_push run (Normal front ∷ ms) m apart is = stands_push run ms m apart is
stands_push run (Bare ∷ ms) m apart is = stands_push run ms m apart is

-- the run of the last Block
stands_last : (run : Run) (front : Front) (block : List ℕ) (ms : List Down) → IsBlockOf run block → Stands run (ms ++ Block front block ∷ [])
stands_last run front block [] its = inl (record { its = its; unmet = refl })
stands_last run front block (Welcome session epoch kept f taken ∷ ms) its = stands_last run front block ms its
stands_last run front block (Reset session at ∷ ms) its = stands_last run front block ms its
stands_last run front block (Block f bytes ∷ ms) its = inr (stands_last run front block ms its)
stands_last run front block (Drop f lo hi ∷ ms) its = stands_last run front block ms its
stands_last run front block (Ack f ∷ ms) its = stands_last run front block ms its
stands_last run front block (Grant f ticket at ∷ ms) its = stands_last run front block ms its
stands_last run front block (Answer f about job number at sum ∷ ms) its = stands_last run front block ms its
stands_last run front block (Normal f ∷ ms) its = stands_last run front block ms its
stands_last run front block (Bare ∷ ms) its = stands_last run front block ms its

-- What a message makes of runs.
abbrev pub RunsAfter : Down → List Run → List Run → Type 0
RunsAfter (Welcome session epoch kept front taken) xs ys = ⊥
RunsAfter (Reset session at) xs ys = ⊥
RunsAfter (Block front block) xs ys = (run : Run) × IsBlockOf run block × (ys ≡ with_block run xs)
RunsAfter (Drop front lo hi) xs ys = ys ≡ without_met (record { lo = lo; hi = hi }) xs
RunsAfter (Ack front) xs ys = ys ≡ xs
RunsAfter (Grant front ticket at) xs ys = ys ≡ xs
RunsAfter (Answer front about job number at sum) xs ys = ys ≡ xs
RunsAfter (Normal front) xs ys = ys ≡ xs
RunsAfter Bare xs ys = ⊥

abbrev AllStand : List Down → List Run → Type 0
AllStand ms xs = AllByRecursion (λ run. Stands run ms) xs

-- a message that meets none of them
all_push : (ms : List Down) (m : Down) (xs : List Run) → ((span : Span) → drops span m ≡ false) → AllStand ms xs → AllStand (ms ++ m ∷ []) xs
all_push ms m [] apart all = tt
all_push ms m (x ∷ xs) apart all = (stands_push x ms m (apart x.span) all.0, all_push ms m xs apart all.1)

all_first : (P : Run → Type 0) (n : ℕ) (xs : List Run) → AllByRecursion P xs → AllByRecursion P (take n xs)
all_first P zero xs all = tt
all_first P (suc n) [] all = tt
all_first P (suc n) (x ∷ xs) all = (all.0, all_first P n xs all.1)

-- those that a Drop doesn't meet
all_clear : (ms : List Down) (front : Front) (lo : List ℕ) (hi : _) (xs : List Run) → AllStand ms xs
    → AllStand (ms ++ Drop front lo hi ∷ []) (without_met (record { lo = lo; hi = hi }) xs)
all_clear ms front lo hi [] all = tt
all_clear ms front lo hi (x ∷ xs) all = go (is_clear_of (record { lo = lo; hi = hi }) x) refl (all_clear ms front lo hi xs all.1)
  where
    apart : (b : Bool) → not b ≡ true → b ≡ false
    apart true is = absurd (false≢true is)
    apart false is = refl

    go : (b : Bool) → is_clear_of (record { lo = lo; hi = hi }) x ≡ b → AllStand (ms ++ Drop front lo hi ∷ []) (without_met (record { lo = lo; hi = hi }) xs)
        → AllStand (ms ++ Drop front lo hi ∷ []) (if b then x ∷ without_met (record { lo = lo; hi = hi }) xs else without_met (record { lo = lo; hi = hi }) xs)
    go true clear rest = (stands_push x ms (Drop front lo hi) (apart _ clear) all.0, rest)
    go false met rest = rest

-- Each run came and wasn't dropped, after the message too.
pub runs_after : (m : Down) (ms : List Down) (xs ys : List Run) → RunsAfter m xs ys → AllStand ms xs → AllStand (ms ++ m ∷ []) ys
runs_after (Welcome session epoch kept front taken) ms xs ys is all = absurd is
runs_after (Reset session at) ms xs ys is all = absurd is
runs_after (Block front block) ms xs ys is all =
    subst (AllStand (ms ++ Block front block ∷ [])) (sym is.2)
    (all_first (λ run. Stands run (ms ++ Block front block ∷ [])) CACHE_LIMIT (is.0 ∷ xs)
    (stands_last is.0 front block ms is.1, all_push ms (Block front block) xs (λ span. refl) all))
runs_after (Drop front lo hi) ms xs ys is all = subst (AllStand (ms ++ Drop front lo hi ∷ [])) (sym is) (all_clear ms front lo hi xs all)
runs_after (Ack front) ms xs ys is all = subst (AllStand (ms ++ Ack front ∷ [])) (sym is) (all_push ms (Ack front) xs (λ span. refl) all)
runs_after (Grant front ticket at) ms xs ys is all =
    subst (AllStand (ms ++ Grant front ticket at ∷ [])) (sym is) (all_push ms (Grant front ticket at) xs (λ span. refl) all)
runs_after (Answer front about job number at sum) ms xs ys is all =
    subst (AllStand (ms ++ Answer front about job number at sum ∷ [])) (sym is) (all_push ms (Answer front about job number at sum) xs (λ span. refl) all)
runs_after (Normal front) ms xs ys is all = subst (AllStand (ms ++ Normal front ∷ [])) (sym is) (all_push ms (Normal front) xs (λ span. refl) all)
runs_after Bare ms xs ys is all = absurd is

-- The front of a session that took one message more.
pub front_takes : (es : List Entry) (stays number n w : ℕ) (a b : Lane) (m : Down) (xs ys : List Run) → downs_taken b ≡ downs_taken a ++ m ∷ []
    → IsHeader es stays number (front_of m) → RunsAfter m xs ys → FrontIs es a number n w xs → FrontIs es b number (front_of m).n (front_of m).w ys
front_takes es stays number n w a b m xs ys more header runs is = record {
  at = sym (ap (λ (f : Front). f.n) (last b.front));
  with_count = sym (ap (λ (f : Front). f.w) (last b.front));
  within = header.within;
  counted = header.counted;
  runs = subst (λ (ms : List Down). AllStand ms ys) (sym more) (runs_after m (downs_taken a) xs ys runs is.runs);
}
  where
    last : (f : Front) → last_front f (downs_taken b) ≡ front_of m
    last f = ap (last_front f) more ∙ last_front-push f (downs_taken a) m

-- what a message shows
shows_runs : (m : Down) (s : Session) (x y : Shown) → ShowsMessage m (shown_front s) x y → (xs ys : List Run) → RunsAfter m xs ys → RunsAfter m x.runs y.runs × (y.front ≡ Some (shown_front s))
shows_runs (Welcome session epoch kept front taken) s x y shows xs ys has = absurd has
shows_runs (Reset session at) s x y shows xs ys has = absurd has
shows_runs (Block front block) s x y shows xs ys has = ((shows.run, shows.its, ap (λ (z : Shown). z.runs) shows.after), ap (λ (z : Shown). z.front) shows.after)
shows_runs (Drop front lo hi) s x y shows xs ys has = (ap (λ (z : Shown). z.runs) shows, ap (λ (z : Shown). z.front) shows)
shows_runs (Ack front) s x y shows xs ys has = (ap (λ (z : Shown). z.runs) shows, ap (λ (z : Shown). z.front) shows)
shows_runs (Grant front ticket at) s x y shows xs ys has = (ap (λ (z : Shown). z.runs) shows, ap (λ (z : Shown). z.front) shows)
shows_runs (Answer front about job number at sum) s x y shows xs ys has = (ap (λ (z : Shown). z.runs) shows, ap (λ (z : Shown). z.front) shows)
shows_runs (Normal front) s x y shows xs ys has = (ap (λ (z : Shown). z.runs) shows, ap (λ (z : Shown). z.front) shows)
shows_runs Bare s x y shows xs ys has = absurd has

-- And what is published of it.
pub shown_takes : (s t : Session) (a b : Lane) (m : Down) (x y : Shown) (xs ys : List Run) → downs_taken b ≡ downs_taken a ++ m ∷ [] → RunsAfter m xs ys
    → ShowsMessage m (shown_front t) x y → ShownIs a s x → ShownIs b t y
shown_takes s t a b m x y xs ys more has shows is = record {
  runs = subst (λ (ms : List Down). AllStand ms y.runs) (sym more) (runs_after m (downs_taken a) x.runs y.runs (shows_runs m t x y shows xs ys has).0 is.runs);
  front = λ some. (shows_runs m t x y shows xs ys has).1;
}
