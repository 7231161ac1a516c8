-- What requests that go leave of a connection, and lists that begin alike.
use Rattle.std.proofs.Common.{◌≡◌, ◌≤◌, ℕ, List, [], ◌∷◌, ◌++◌, length, drop, sym, ◌∙◌}
use Rattle.std.proofs.lemmas.List.{drop-append-le}
use Rattle.lock_table.specs.declared.rows.Request.{Request}
use Rattle.lock_table.specs.LockWords.{without_request}
use Rattle.data_rules.specs.Closing.{cancels, cancels_one}
use Rattle.data_rules.specs.Puts.{Sofar}
use Rattle.link_downs.proofs.OnConn.{Beside, beside_locks, beside_same, beside_then}

-- what a tick makes of a connection whose requests go
pub beside_cancels : (q : ℕ) (rs : List Request) (b : Sofar) → Beside q b (cancels rs b)
beside_cancels q [] b = beside_same q b
beside_cancels q (r ∷ rs) b =
    beside_then q b (cancels_one r b) (cancels rs (cancels_one r b)) (beside_locks q (without_request b.state.locks r.who.session r.ticket (length b.state.order)) b)
    (beside_cancels q rs (cancels_one r b))

-- lists that begin alike and go on differently

tail_same : {X : Type 0} (v : X) (xs ys : List X) → v ∷ xs ≡ v ∷ ys → xs ≡ ys
tail_same v xs ys is = cc

rest_same : {X : Type 0} (ws ys zs : List X) → ws ++ ys ≡ ws ++ zs → ys ≡ zs
rest_same [] ys zs is = is
rest_same (w ∷ ws) ys zs is = rest_same ws ys zs (tail_same w (ws ++ ys) (ws ++ zs) is)

pub same_rest : {X : Type 0} (n : ℕ) (xs ys zs : List X) → n ≤ length xs → drop n (xs ++ ys) ≡ drop n (xs ++ zs) → ys ≡ zs
same_rest n xs ys zs low same = rest_same (drop n xs) ys zs (sym (drop-append-le n xs ys low) ∙ same ∙ drop-append-le n xs zs low)
