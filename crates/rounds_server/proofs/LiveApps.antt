-- A live session of an ordered list is the live session of an application server.
use Rattle.std.proofs.Common.{◌≡◌, ℕ, Bool, true, false, List, [], ◌∷◌, Option, Some, None, is_some, refl, if◌then◌else◌, ◌==◌}
use Rattle.std.proofs.lemmas.Bool.{false≢true}
use Rattle.plain_orders.specs.declared.entry.Entry.{Entry}
use Rattle.plain_orders.specs.declared.entry.Entry.TheVariants.{Epoch, Opened, Closed, Update, Commit, Rollback}
use Rattle.plain_orders.specs.Entries.{live, live_from, live_session}
use Rattle.plain_orders.specs.Sessions.{app_from, app_in}
use Rattle.plain_orders.proofs.LiveSessions.{OneLive}

-- one that is live has an application server, where it had one if it was live before
some_app : (s : ℕ) (b : Bool) (o : Option ℕ) (es : List Entry) → (b ≡ true → is_some o ≡ true) → live_from b es s ≡ true → is_some (app_from o es s) ≡ true
some_app s b o [] has lives = has lives
some_app s b o (Epoch number ∷ es) has lives = some_app s b o es has lives
some_app s b o (Opened session app ∷ es) has lives =
    some_app s (if session == s then true else b) (if session == s then Some app else o) es (opens (session == s)) lives
  where
    opens : (c : Bool) → (if c then true else b) ≡ true → is_some (if c then Some app else o) ≡ true
    opens true is = refl
    opens false is = has is
some_app s b o (Closed session ∷ es) has lives = some_app s (if session == s then false else b) o es (closes (session == s)) lives
  where
    closes : (c : Bool) → (if c then false else b) ≡ true → is_some o ≡ true
    closes true is = absurd (false≢true is)
    closes false is = has is
some_app s b o (Update session w job txn op ∷ es) has lives = some_app s b o es has lives
some_app s b o (Commit session w job txn ∷ es) has lives = some_app s b o es has lives
some_app s b o (Rollback session w job txn ∷ es) has lives = some_app s b o es has lives

pub live_app : (es : List Entry) → OneLive es → (s : ℕ) → live es s ≡ true → (app : ℕ) × (live_session es app ≡ Some s)
live_app es one s lives = go (app_in es s) refl (some_app s false None es (λ is. absurd (false≢true is)) lives)
  where
    go : (o : Option ℕ) → app_in es s ≡ o → is_some o ≡ true → (app : ℕ) × (live_session es app ≡ Some s)
    go None its some = absurd (false≢true some)
    go (Some app) its some = (app, one.is_one app s lives its)
