-- As the latest request of a session goes, none of its other requests is granted.
use Rattle.std.proofs.Common.{◌≡◌, ℕ, Bool, true, false, cond, List, [], ◌∷◌, ◌++◌, filter, sym, subst}
use Rattle.lock_table.specs.declared.rows.Hold.{Hold}
use Rattle.lock_table.specs.declared.rows.Request.{Request}
use Rattle.lock_table.specs.LockWords.{Locks, waits, with_grant, pass, is_other_ticket, without_request}
use Rattle.cluster_invariant.specs.Served.{AllWait}
use Rattle.cluster_invariant.proofs.AllLists.{all_joined}
use Rattle.link_kept.proofs.LockSessions.{RequestsOf}

-- what waits in front waits without what is behind
pub wait_front : (hs : List Hold) (earlier xs ys : List Request) → AllWait hs earlier (xs ++ ys) → AllWait hs earlier xs
wait_front hs earlier [] ys is = tt
wait_front hs earlier (x ∷ xs) ys is = (is.0, wait_front hs (earlier ++ x ∷ []) xs ys is.1)

-- a pass grants some of what it goes through
pass_grants : (P : ℕ → Type 0) (l : Locks) (left grants rs : List Request) (at : ℕ) → RequestsOf P grants → RequestsOf P rs
    → RequestsOf P (pass l left grants rs at).grants
pass_grants P l left grants [] at given rest = given
pass_grants P l left grants (r ∷ rs) at given rest =
    go (waits l.holds left r) (pass_grants P l (left ++ r ∷ []) grants rs at given rest.1)
    (pass_grants P (with_grant l r at) left (grants ++ r ∷ []) rs at (all_joined (λ (q : Request). P q.who.session) grants (r ∷ []) given (rest.0, tt)) rest.1)
  where
    go : (b : Bool) → RequestsOf P (pass l (left ++ r ∷ []) grants rs at).grants → RequestsOf P (pass (with_grant l r at) left (grants ++ r ∷ []) rs at).grants
        → RequestsOf P (cond b (pass l (left ++ r ∷ []) grants rs at) (pass (with_grant l r at) left (grants ++ r ∷ []) rs at)).grants
    go true a b = a
    go false a b = b

-- of what waits in front nothing is granted
pub behind_grants : (P : ℕ → Type 0) (l : Locks) (left grants xs ys : List Request) (at : ℕ) → AllWait l.holds left xs → RequestsOf P grants → RequestsOf P ys
    → RequestsOf P (pass l left grants (xs ++ ys) at).grants
behind_grants P l left grants [] ys at wait given rest = pass_grants P l left grants ys at given rest
behind_grants P l left grants (x ∷ xs) ys at wait given rest =
    subst
    (λ (b : Bool).
    RequestsOf P (cond b (pass l (left ++ x ∷ []) grants (xs ++ ys) at) (pass (with_grant l x at) left (grants ++ x ∷ []) (xs ++ ys) at)).grants)
    (sym wait.0) (behind_grants P l (left ++ x ∷ []) grants xs ys at wait.1 given rest)

-- As a request goes, of the requests only such are granted as stand behind it.
pub cancel_grants : (P : ℕ → Type 0) (l : Locks) (before behind : List Request) (r : Request) (at : ℕ) → AllWait l.holds [] l.requests
    → l.requests ≡ before ++ r ∷ behind → filter (is_other_ticket r.who.session r.ticket) l.requests ≡ before ++ behind → RequestsOf P behind
    → RequestsOf P (without_request l r.who.session r.ticket at).grants
cancel_grants P l before behind r at wait its rest all =
    subst (λ (rs : List Request). RequestsOf P (pass (record l { requests = rs }) [] [] rs at).grants) (sym rest)
    (behind_grants P (record l { requests = before ++ behind }) [] [] before behind at
    (wait_front l.holds [] before (r ∷ behind) (subst (λ (rs : List Request). AllWait l.holds [] rs) its wait)) tt all)
