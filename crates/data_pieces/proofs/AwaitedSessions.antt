-- The live sessions of a list with an entry more, and those among them that a round awaits.
use Rattle.std.proofs.Common.{◌≡◌, ◌==◌, ◌&&◌, ℕ, Bool, true, false, not, cond, List, [], ◌∷◌, ◌++◌, refl, sym, ◌∙◌, ap, if◌then◌else◌}
use Rattle.std.specs.List.{filter}
use Rattle.std.proofs.lemmas.Bool.{eqb-true, eq-eqb, ne_eqb, false≢true}
use Rattle.plain_orders.specs.declared.entry.Entry.{Entry}
use Rattle.plain_orders.specs.declared.entry.Entry.TheVariants.{Epoch, Opened, Closed, Update, Commit, Rollback}
use Rattle.plain_orders.specs.Entries.{live, live_after}
use Rattle.plain_orders.specs.Sessions.{live_sessions, opened_sessions}
use Rattle.plain_orders.proofs.EntryLemmas.{live-push}
use Rattle.recovery_round.specs.RoundWords.{is_another}

pub same_filter : (f g : ℕ → Bool) → ((n : ℕ) → g n ≡ f n) → (ns : List ℕ) → filter g ns ≡ filter f ns
same_filter f g same [] = refl
same_filter f g same (n ∷ ns) = ap (λ (b : Bool). if b then n ∷ filter g ns else filter g ns) (same n) ∙ ap (λ (xs : List ℕ). if f n then n ∷ xs else xs) (same_filter f g same ns)

-- a test behind another is both
pub both_filter : (f g : ℕ → Bool) (ns : List ℕ) → filter f (filter g ns) ≡ filter (λ n. f n && g n) ns
both_filter f g [] = refl
both_filter f g (n ∷ ns) = go (f n) (g n) refl (both_filter f g ns)
  where
    go : (a b : Bool) → f n ≡ a → filter f (filter g ns) ≡ filter (λ k. f k && g k) ns
        → filter f (cond b (n ∷ filter g ns) (filter g ns)) ≡ cond (a && b) (n ∷ filter (λ k. f k && g k) ns) (filter (λ k. f k && g k) ns)
    go true true is more = ap (λ (t : Bool). cond t (n ∷ filter f (filter g ns)) (filter f (filter g ns))) is ∙ ap (λ (xs : List ℕ). n ∷ xs) more
    go true false is more = more
    go false true is more = ap (λ (t : Bool). cond t (n ∷ filter f (filter g ns)) (filter f (filter g ns))) is ∙ more
    go false false is more = more

-- neither an Open nor a Close
abbrev pub is_quiet : Entry → Bool
is_quiet (Epoch number) = true
is_quiet (Opened session app) = false
is_quiet (Closed session) = false
is_quiet (Update session w job txn op) = true
is_quiet (Commit session w job txn) = true
is_quiet (Rollback session w job txn) = true

-- no Open
abbrev is_no_open : Entry → Bool
is_no_open (Epoch number) = true
is_no_open (Opened session app) = false
is_no_open (Closed session) = true
is_no_open (Update session w job txn op) = true
is_no_open (Commit session w job txn) = true
is_no_open (Rollback session w job txn) = true

opened_more : (es : List Entry) (e : Entry) → is_no_open e ≡ true → opened_sessions (es ++ e ∷ []) ≡ opened_sessions es
opened_more [] (Epoch number) none = refl
opened_more [] (Opened session app) none = absurd (false≢true none)
opened_more [] (Closed session) none = refl
opened_more [] (Update session w job txn op) none = refl
opened_more [] (Commit session w job txn) none = refl
opened_more [] (Rollback session w job txn) none = refl
opened_more (Epoch number ∷ es) e none = opened_more es e none
opened_more (Opened session app ∷ es) e none = ap (λ (xs : List ℕ). session ∷ xs) (opened_more es e none)
opened_more (Closed session ∷ es) e none = opened_more es e none
opened_more (Update session w job txn op ∷ es) e none = opened_more es e none
opened_more (Commit session w job txn ∷ es) e none = opened_more es e none
opened_more (Rollback session w job txn ∷ es) e none = opened_more es e none

quiet_no_open : (e : Entry) → is_quiet e ≡ true → is_no_open e ≡ true
quiet_no_open (Epoch number) is = refl
quiet_no_open (Opened session app) is = is
quiet_no_open (Closed session) is = refl
quiet_no_open (Update session w job txn op) is = refl
quiet_no_open (Commit session w job txn) is = refl
quiet_no_open (Rollback session w job txn) is = refl

quiet_live : (e : Entry) (b : Bool) (s : ℕ) → is_quiet e ≡ true → live_after b e s ≡ b
quiet_live (Epoch number) b s is = refl
quiet_live (Opened session app) b s is = absurd (false≢true is)
quiet_live (Closed session) b s is = absurd (false≢true is)
quiet_live (Update session w job txn op) b s is = refl
quiet_live (Commit session w job txn) b s is = refl
quiet_live (Rollback session w job txn) b s is = refl

-- The live sessions stay where no session is opened or closed.
pub quiet_sessions : (es : List Entry) (e : Entry) → is_quiet e ≡ true → live_sessions (es ++ e ∷ []) ≡ live_sessions es
quiet_sessions es e quiet =
    ap (filter (live (es ++ e ∷ []))) (opened_more es e (quiet_no_open e quiet))
    ∙ same_filter (live es) (live (es ++ e ∷ [])) (λ s. live-push es e s ∙ quiet_live e (live es s) s quiet) (opened_sessions es)

-- A Close takes its session away.
pub closed_sessions : (es : List Entry) (session : ℕ) → live_sessions (es ++ Closed session ∷ []) ≡ filter (is_another session) (live_sessions es)
closed_sessions es session =
    ap (filter (live (es ++ Closed session ∷ []))) (opened_more es (Closed session) refl)
    ∙ same_filter (λ s. is_another session s && live es s) (live (es ++ Closed session ∷ [])) (λ s. live-push es (Closed session) s ∙ go s (session == s) refl) (opened_sessions es)
    ∙ sym (both_filter (is_another session) (live es) (opened_sessions es))
  where
    go : (s : ℕ) (b : Bool) → (session == s) ≡ b → (if b then false else live es s) ≡ (not (s == session) && live es s)
    go s true same = sym (ap (λ (t : Bool). not t && live es s) (eq-eqb s session (sym (eqb-true session s same))))
    go s false other = sym (ap (λ (t : Bool). not t && live es s) (ne_eqb s session (λ same. false≢true (sym other ∙ eq-eqb session s (sym same)))))
