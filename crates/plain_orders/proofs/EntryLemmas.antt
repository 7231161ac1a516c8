-- Counts, live sessions and epochs of a list with one entry more, or with several.
use Rattle.std.proofs.Common.{◌≡◌, ℕ, max, Bool, List, [], ◌∷◌, ◌++◌, Option, refl}
use Rattle.plain_orders.specs.declared.entry.Entry.{Entry}
use Rattle.plain_orders.specs.Sessions.{app_from, app_after}
use Rattle.plain_orders.specs.Entries.{w_in, count_from, count, live_after, live_from, live, live_session_after, live_session_from, live_session, epoch_after, epoch_from, last_epoch}

pub count_from-append : (n : ℕ) (es fs : List Entry) (s : ℕ) → count_from n (es ++ fs) s ≡ count_from (count_from n es s) fs s
count_from-append n [] fs s = refl
count_from-append n (e ∷ es) fs s = count_from-append (max n (w_in s e)) es fs s

-- one entry more of a session's count
pub count-push : (es : List Entry) (e : Entry) (s : ℕ) → count (es ++ e ∷ []) s ≡ max (count es s) (w_in s e)
count-push es e s = count_from-append 0 es (e ∷ []) s

pub live_from-append : (b : Bool) (es fs : List Entry) (s : ℕ) → live_from b (es ++ fs) s ≡ live_from (live_from b es s) fs s
live_from-append b [] fs s = refl
live_from-append b (e ∷ es) fs s = live_from-append (live_after b e s) es fs s

-- whether a session is live after one entry more
pub live-push : (es : List Entry) (e : Entry) (s : ℕ) → live (es ++ e ∷ []) s ≡ live_after (live es s) e s
live-push es e s = live_from-append _ es (e ∷ []) s

pub live_session_from-append : (o : Option ℕ) (es fs : List Entry) (a : ℕ) → live_session_from o (es ++ fs) a ≡ live_session_from (live_session_from o es a) fs a
live_session_from-append o [] fs a = refl
live_session_from-append o (e ∷ es) fs a = live_session_from-append (live_session_after o e a) es fs a

-- an application server's live session after one entry more
pub live_session-push : (es : List Entry) (e : Entry) (a : ℕ) → live_session (es ++ e ∷ []) a ≡ live_session_after (live_session es a) e a
live_session-push es e a = live_session_from-append _ es (e ∷ []) a

pub epoch_from-append : (n : ℕ) (es fs : List Entry) → epoch_from n (es ++ fs) ≡ epoch_from (epoch_from n es) fs
epoch_from-append n [] fs = refl
epoch_from-append n (e ∷ es) fs = epoch_from-append (epoch_after n e) es fs

-- the newest epoch after one entry more
pub last_epoch-push : (es : List Entry) (e : Entry) → last_epoch (es ++ e ∷ []) ≡ epoch_after (last_epoch es) e
last_epoch-push es e = epoch_from-append 0 es (e ∷ [])

-- whose Opens a list has, with one entry more
pub app_from-push : (o : Option ℕ) (es : List Entry) (e : Entry) (s : ℕ) → app_from o (es ++ e ∷ []) s ≡ app_after (app_from o es s) e s
app_from-push o [] e s = refl
app_from-push o (x ∷ es) e s = app_from-push (app_after o x s) es e s
