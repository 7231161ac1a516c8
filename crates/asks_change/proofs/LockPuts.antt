-- What a lock makes of the end that it is for: the Ask that it puts, and the Cancel that gives it up. Other ends are as they were.
use Rattle.std.proofs.Common.{◌≡◌, ◌≢◌, ◌<◌, ◌+◌, ℕ, Bool, true, false, List, [], ◌∷◌, ◌++◌, length, Option, Some, None, option_map, refl, sym, ◌∙◌, ap, subst}
use Rattle.std.specs.List.{find}
use Rattle.std.proofs.lemmas.List.{get_or-set_same, get_or-set_other, length-set}
use Rattle.plain_orders.specs.declared.act.Act.{Act}
use Rattle.plain_orders.specs.declared.mode.Mode.{Mode}
use Rattle.ecp_messages.specs.declared.up.Up.{Up}
use Rattle.ecp_messages.specs.declared.up.Up.TheVariants.{Ask}
use Rattle.end_words.specs.Windows.{with_sent, with_ack_put}
use Rattle.app_job.specs.declared.command.Command.TheVariants.{Lock}
use Rattle.app_job.specs.Sites.{Site}
use Rattle.app_job.specs.declared.refusal.Refusal.{Refusal}
use Rattle.app_job.specs.declared.refusal.Refusal.TheVariants as refusals
use Rattle.app_rules.specs.AppState.{AppEnd, Session, no_end}
use Rattle.app_rules.specs.declared.session_parts.Asked.{Asked}
use Rattle.app_rules.specs.JobState.{Work, Turn}
use Rattle.app_rules.specs.JobStep.{Turns}
use Rattle.app_rules.specs.Issuing.{at_normal, is_free, is_up, pair_session, tries_if_free, uses}
use Rattle.app_rules.specs.Locking.{ask_of_job, asks, by_grant, is_due, locks_by, locks_now, waits_grant, with_ask, with_held, with_ticket}
use Rattle.app_rules.specs.Refusing.{is_ask_put_of, quits, quits_if, refused}
use Rattle.app_rules.specs.Works.{Sofar, becomes, end_at, is_apart, is_joined, puts, session_at, sets, tells_if, tries_if, with_line, with_session, with_window, writes}
use Rattle.app_rules.specs.declared.line.Line.TheVariants.{Trying}
use Rattle.asks_change.proofs.LockedAsks.{new_ask}
use Rattle.asks_change.proofs.QuietLocks.{used_ends}

-- the end that is changed

pub becomes_here : (d : ℕ) (f : AppEnd → AppEnd) (b : Sofar) → d < length b.state.ends → end_at (becomes d f b).state d ≡ f (end_at b.state d)
becomes_here d f b low = get_or-set_same b.state.ends d (f (end_at b.state d)) no_end low

becomes_low : (d : ℕ) (f : AppEnd → AppEnd) (b : Sofar) → d < length b.state.ends → d < length (becomes d f b).state.ends
becomes_low d f b low = subst (λ (n : ℕ). d < n) (sym (length-set b.state.ends d (f (end_at b.state d)))) low

-- One message is put in a session.
pub record SessionPut (m : Up) (s t : Session) : Type 0 where
  pub asks : t.asks ≡ s.asks
  pub waiting : t.window.waiting ≡ s.window.waiting ++ m ∷ []

abbrev pub SessionsPut : Up → Option Session → Option Session → Type 0
SessionsPut m None None = Unit {0}
SessionsPut m None (Some t) = ⊥
SessionsPut m (Some s) None = ⊥
SessionsPut m (Some s) (Some t) = SessionPut m s t

pub record EndPut (m : Up) (e f : AppEnd) : Type 0 where
  pub ticket : f.ticket ≡ e.ticket
  pub session : SessionsPut m e.session f.session

told_put : (t : Bool) (d seq : ℕ) (m k : Up) (e : AppEnd) (b : Sofar) → d < length b.state.ends → EndPut k e (end_at b.state d)
    → EndPut k e (end_at (tells_if t d seq m b).state d)
told_put false d seq m k e b low x = x
told_put true d seq m k e b low x =
    subst (λ (f : AppEnd). EndPut k e f) (sym (becomes_here d (with_session (with_window with_ack_put)) b low))
    (record { ticket = x.ticket; session = go e.session (end_at b.state d).session x.session })
  where
    go : (o q : Option Session) → SessionsPut k o q → SessionsPut k o (option_map (with_window with_ack_put) q)
    go None None y = tt
    go None (Some t) y = absurd y
    go (Some s) None y = absurd y
    go (Some s) (Some t) y = record { asks = y.asks; waiting = y.waiting }

pub puts_here : (d : ℕ) (m : Up) (b : Sofar) → d < length b.state.ends → EndPut m (end_at b.state d) (end_at (puts d m b).state d)
puts_here d m b low =
    told_put (is_joined (end_at b.state d).line) d _ m m (end_at b.state d) (sets d (with_window (λ w. with_sent w m)) b)
    (becomes_low d (with_session (with_window (λ w. with_sent w m))) b low)
    (subst (λ (f : AppEnd). EndPut m (end_at b.state d) f) (sym (becomes_here d (with_session (with_window (λ w. with_sent w m))) b low))
    (record { ticket = refl; session = go (end_at b.state d).session }))
  where
    go : (o : Option Session) → SessionsPut m o (option_map (with_window (λ w. with_sent w m)) o)
    go None = tt
    go (Some s) = record { asks = refl; waiting = refl }

-- An Ask is put, and waited for.
pub record SessionAsks (n job : ℕ) (mode : Mode) (key : List ℕ) (s t : Session) : Type 0 where
  pub asks : t.asks ≡ s.asks ++ new_ask n job mode key ∷ []
  pub waiting : t.window.waiting ≡ s.window.waiting ++ Ask n job mode key ∷ []

abbrev pub SessionsAsk : ℕ → ℕ → Mode → List ℕ → Option Session → Option Session → Type 0
SessionsAsk n job mode key None None = Unit {0}
SessionsAsk n job mode key None (Some t) = ⊥
SessionsAsk n job mode key (Some s) None = ⊥
SessionsAsk n job mode key (Some s) (Some t) = SessionAsks n job mode key s t

pub record EndAsksOne (job : ℕ) (mode : Mode) (key : List ℕ) (e f : AppEnd) : Type 0 where
  pub ticket : f.ticket ≡ e.ticket + 1
  pub session : SessionsAsk (e.ticket + 1) job mode key e.session f.session

pub asks_here : (d : ℕ) (mode : Mode) (key : List ℕ) (w : Work) → d < length w.ends.state.ends
    → EndAsksOne w.job.index mode key (end_at w.ends.state d) (end_at (asks d mode key w).ends.state d)
asks_here d mode key w low = by (puts_here d (Ask (e.ticket + 1) w.job.index mode key) c low_c)
  where
    e : AppEnd
    e = end_at w.ends.state d

    b : Sofar
    b = becomes d with_ticket w.ends

    low_b : d < length b.state.ends
    low_b = becomes_low d with_ticket w.ends low

    c : Sofar
    c = sets d (with_ask (e.ticket + 1) w.job.index mode key) b

    low_c : d < length c.state.ends
    low_c = becomes_low d (with_session (with_ask (e.ticket + 1) w.job.index mode key)) b low_b

    end_c : end_at c.state d ≡ with_session (with_ask (e.ticket + 1) w.job.index mode key) (with_ticket e)
    end_c =
        becomes_here d (with_session (with_ask (e.ticket + 1) w.job.index mode key)) b low_b
        ∙ ap (with_session (with_ask (e.ticket + 1) w.job.index mode key)) (becomes_here d with_ticket w.ends low)

    go : (o q : Option Session) → SessionsPut (Ask (e.ticket + 1) w.job.index mode key) (option_map (with_ask (e.ticket + 1) w.job.index mode key) o) q
        → SessionsAsk (e.ticket + 1) w.job.index mode key o q
    go None None y = tt
    go None (Some t) y = absurd y
    go (Some s) None y = absurd y
    go (Some s) (Some t) y = record { asks = y.asks; waiting = y.waiting }

    by : EndPut (Ask (e.ticket + 1) w.job.index mode key) (end_at c.state d) (end_at (asks d mode key w).ends.state d)
        → EndAsksOne w.job.index mode key e (end_at (asks d mode key w).ends.state d)
    by y = record {
      ticket = y.ticket ∙ ap (λ (f : AppEnd). f.ticket) end_c;
      session =
          go e.session (end_at (asks d mode key w).ends.state d).session
          (subst (λ (f : AppEnd). SessionsPut (Ask (e.ticket + 1) w.job.index mode key) f.session (end_at (asks d mode key w).ends.state d).session) end_c y.session);
    }

-- other ends

-- All ends but one are as they were.
pub record Beside (d : ℕ) (b c : Sofar) : Type 0 where
  pub at : (k : ℕ) → k ≢ d → end_at c.state k ≡ end_at b.state k

module _ (d : ℕ) where
  beside_same : (b : Sofar) → Beside d b b
  beside_same b = record { at = λ k other. refl }

  beside_then : {b c e : Sofar} → Beside d b c → Beside d c e → Beside d b e
  beside_then x y = record { at = λ k other. y.at k other ∙ x.at k other }

  beside_is : (b c : Sofar) → c ≡ b → Beside d b c
  beside_is b c same = subst (λ (s : Sofar). Beside d b s) (sym same) (beside_same b)

  beside_becomes : (f : AppEnd → AppEnd) (b : Sofar) → Beside d b (becomes d f b)
  beside_becomes f b = record { at = λ k other. get_or-set_other b.state.ends d k (f (end_at b.state d)) no_end other }

  beside_writes : (a : Act) (b : Sofar) → Beside d b (writes a b)
  beside_writes a b = record { at = λ k other. refl }

  beside_tells : (t : Bool) (seq : ℕ) (m : Up) (b : Sofar) → Beside d b (tells_if t d seq m b)
  beside_tells false seq m b = beside_same b
  beside_tells true seq m b = record { at = (beside_becomes (with_session (with_window with_ack_put)) b).at }

  beside_puts : (m : Up) (b : Sofar) → Beside d b (puts d m b)
  beside_puts m b =
      beside_then (beside_becomes (with_session (with_window (λ w. with_sent w m))) b)
      (beside_tells (is_joined (end_at b.state d).line) _ m (sets d (with_window (λ w. with_sent w m)) b))

  beside_tries : (t : Bool) (b : Sofar) → Beside d b (tries_if t d b)
  beside_tries false b = beside_same b
  beside_tries true b = record { at = (beside_becomes (with_line Trying) b).at }

  beside_free : (t : Bool) (b : Sofar) → Beside d b (tries_if_free t d b)
  beside_free true b = beside_tries (is_apart (end_at b.state d).line) b
  beside_free false b = beside_same b

  beside_uses : (w : Work) → Beside d w.ends (uses d w).ends
  beside_uses w = beside_is w.ends (uses d w).ends (used_ends (pair_session w.ends.state d) d w)

  beside_quits : (o : Option Asked) (mode : Mode) (key : List ℕ) (w : Work) → Beside d w.ends (quits_if o d mode key w).ends
  beside_quits None mode key w = beside_same w.ends
  beside_quits (Some a) mode key w = beside_then (beside_writes _ w.ends) (beside_puts _ _)

  beside_quit : (mode : Mode) (key : List ℕ) (w : Work) → Beside d w.ends (quits d mode key w).ends
  beside_quit mode key w = beside_quits (find (is_ask_put_of w.job.index) (session_at w.ends.state d).asks) mode key w

  beside_due : (b : Bool) (mode : Mode) (key : List ℕ) (w : Work) → Beside d w.ends (waits_grant b d mode key w).work.ends
  beside_due true mode key w = beside_then (beside_quit mode key w) (beside_writes _ _)
  beside_due false mode key w = beside_same w.ends

  beside_grant : (o : Option ℕ) (mode : Mode) (key : List ℕ) (wait : Option ℕ) (now : ℕ) (w : Work)
      → Beside d w.ends (by_grant o d mode key wait now w).work.ends
  beside_grant (Some n) mode key wait now w = beside_then (beside_becomes (with_session (with_held w.job.index mode key n)) w.ends) (beside_writes _ _)
  beside_grant None mode key wait now w = beside_due (is_due wait w.at.first now) mode key w

  beside_asks : (mode : Mode) (key : List ℕ) (w : Work) → Beside d w.ends (asks d mode key w).ends
  beside_asks mode key w =
      beside_then (beside_becomes with_ticket w.ends) (beside_then (beside_becomes (with_session (with_ask _ w.job.index mode key)) _) (beside_puts _ _))

  beside_locks : (o : Option Asked) (mode : Mode) (key : List ℕ) (wait : Option ℕ) (now : ℕ) (w : Work)
      → Beside d w.ends (locks_by o d mode key wait now w).work.ends
  beside_locks None mode key wait now w = beside_then (beside_asks mode key w) (beside_grant None mode key wait now (asks d mode key w))
  beside_locks (Some a) mode key wait now w = beside_grant a.at mode key wait now w

  beside_normal : (is_there : Bool) (mode : Mode) (key : List ℕ) (wait : Option ℕ) (now : ℕ) (w : Work)
      → Beside d w.ends (at_normal is_there d (locks_now d mode key wait now) w).work.ends
  beside_normal true mode key wait now w = beside_then (beside_uses w) (beside_locks (ask_of_job (uses d w) d) mode key wait now (uses d w))
  beside_normal false mode key wait now w = beside_then (beside_uses w) (beside_free (is_free (end_at w.ends.state d).link) (uses d w).ends)

beside_refused : (r : Refusal) (at : Site) (mode : Mode) (wait : Option ℕ) (w : Work) → Beside at.server w.ends (refused r (Lock at mode wait) w).ends
beside_refused (refusals.Network d state reason) at mode wait w = beside_writes at.server _ w.ends
beside_refused refusals.RollbackOnly at mode wait w = beside_then at.server (beside_quit at.server mode at.key w) (beside_writes at.server _ _)
beside_refused (refusals.NotWhole n) at mode wait w = beside_same at.server w.ends
beside_refused (refusals.Range n) at mode wait w = beside_same at.server w.ends
beside_refused refusals.NoTransaction at mode wait w = beside_writes at.server _ w.ends
beside_refused refusals.TooDeep at mode wait w = beside_writes at.server _ w.ends
beside_refused refusals.LockTimeout at mode wait w = beside_writes at.server _ w.ends

-- A turn of a lock leaves all ends but that of its data server.
pub beside_lock : (r : Option Refusal) (at : Site) (mode : Mode) (wait : Option ℕ) (now : ℕ) (w : Work) (t : Turn) → Turns r (Lock at mode wait) now w t
    → Beside at.server w.ends t.work.ends
beside_lock (Some r) at mode wait now w t h = subst (λ (y : Turn). Beside at.server w.ends y.work.ends) (sym h) (beside_refused r at mode wait w)
beside_lock None at mode wait now w t h =
    subst (λ (y : Turn). Beside at.server w.ends y.work.ends) (sym h) (beside_normal at.server (is_up w at.server) mode at.key wait now w)
