-- What becomes of an end's requests as it takes an input: nothing, all are lost with their session, a fresh message, or a Welcome that tells
-- something new.
use Rattle.std.proofs.Common.{◌≡◌, ◌⊎◌, ◌<◌, ℕ, Bool, true, false, List, [], ◌∷◌, ◌++◌, drop, length, ◌-◌, Option, Some, None, option_map, refl, sym, ◌∙◌, ap, subst, inl, inr, eqb}
use Rattle.std.specs.List.{AllByRecursion, range_with_len}
use Rattle.std.specs.Prelude.{IfSome, max, nat_le, unwrap_or}
use Rattle.std.proofs.lemmas.Bool.{eqb-true, eq-eqb, false≢true}
use Rattle.std.proofs.lemmas.List.{append-nil, append_assoc}
use Rattle.plain_orders.specs.declared.layout.Times.{Times}
use Rattle.plain_orders.specs.Times.{until}
use Rattle.link_states.specs.declared.app_link.AppLink.{AppLink}
use Rattle.link_states.specs.declared.app_link.AppLink.TheVariants.{NotConnected, Normal as NormalLink, Trouble, Recovery}
use Rattle.ecp_messages.specs.declared.down.Down.{Down}
use Rattle.ecp_messages.specs.declared.down.Down.TheVariants.{Welcome, Reset, Block, Drop, Ack, Grant, Answer, Normal, Bare}
use Rattle.ecp_messages.specs.declared.down.DownFrame.{DownFrame}
use Rattle.ecp_messages.specs.declared.front.Front.{Front}
use Rattle.end_words.specs.Windows.{sent, with_ack, with_ack_put}
use Rattle.app_rules.specs.declared.app_in.AppIn.{AppIn}
use Rattle.app_rules.specs.declared.app_in.AppIn.TheVariants as app_in
use Rattle.app_rules.specs.declared.line.Line.{Line}
use Rattle.app_rules.specs.declared.line.Line.TheVariants.{Apart, Trying, Greeting, Asking, Joined}
use Rattle.app_rules.specs.declared.session_parts.Lost.{Lost}
use Rattle.app_rules.specs.AppState.{AppEnd, Session, no_session}
use Rattle.app_rules.specs.AppStep.{AppMay, Makes}
use Rattle.app_rules.specs.Laws.{KeepsOthers, named_by}
use Rattle.app_rules.specs.Losing.{ticks, ticks_from}
use Rattle.app_rules.specs.Works.{Sofar, end_at, session_of, synced_up, with_window, is_apart}
use Rattle.app_rules.proofs.OneEnd.{one_ticks_from}
use Rattle.cluster_invariant.proofs.AllLists.{all_follow, all_joined}
use Rattle.cluster_runs.specs.Lanes.{given_since}
use Rattle.cluster_steps.proofs.EndSteps.{session_put}
use Rattle.cluster_steps.proofs.FrameCases.{LineHas, frame_came}
use Rattle.cluster_steps.proofs.FrameEnds.{FrameCame, NumberedCame, TookFresh, ended_from}
use Rattle.cluster_steps.proofs.InputEnds.{ConnectedCame, connected_came, failed_end, failed_came, broken_came, rejoined, joined_came, ticked_from, ticked_here, tried_if, troubled, trouble_here}
use Rattle.cluster_steps.proofs.InputsBring.{FreshTaken, WelcomeTold}
use Rattle.link_apps.proofs.LanesApps.{given_put}
use Rattle.link_apps.proofs.TookSites.{given_took}

-- A session whose requests stay, and in which nothing is put.
pub record AsksStay (s t : Session) : Type 0 where
  pub number : t.number ≡ s.number
  pub asks : t.asks ≡ s.asks
  pub given : given_since (sent s.window) t.window ≡ []
  pub epoch : t.epoch ≡ s.epoch
  pub taken : t.window.taken ≡ s.window.taken

-- the same, of an end that may have none
abbrev pub SessionsStay : Option Session → Option Session → Type 0
SessionsStay None None = Unit {0}
SessionsStay None (Some t) = ⊥
SessionsStay (Some s) None = ⊥
SessionsStay (Some s) (Some t) = AsksStay s t

-- An end that has what it had.
pub record EndStays (e f : AppEnd) : Type 0 where
  pub ticket : f.ticket ≡ e.ticket
  pub told : f.told ≡ e.told
  pub lost : f.lost ≡ e.lost
  pub failed : f.failed ≡ e.failed
  pub session : SessionsStay e.session f.session

-- a loss is that of the end's session, or of none
abbrev pub IsLossOf : AppEnd → Lost → Type 0
IsLossOf e y = (y.session ≡ (session_of e).number) ⊎ (y.session ≡ 0)

-- An end that lost its session.
pub record EndLoses (e f : AppEnd) : Type 0 where
  pub ticket : f.ticket ≡ e.ticket
  pub told : f.told ≡ e.told
  pub more : List Lost
  pub lost : f.lost ≡ e.lost ++ more
  pub its : AllByRecursion (IsLossOf e) more
  pub failed : f.failed ≡ e.failed
  pub none : f.session ≡ None

-- An end that isn't connected, and whose attempt failed.
pub record EndFails (e f : AppEnd) : Type 0 where
  pub ticket : f.ticket ≡ e.ticket
  pub told : f.told ≡ e.told
  pub lost : f.lost ≡ e.lost
  pub apart : e.link ≡ NotConnected
  pub session : f.session ≡ e.session

-- An end that rests as it was, but for its link and line.
pub record EndRests (e f : AppEnd) : Type 0 where
  pub ticket : f.ticket ≡ e.ticket
  pub told : f.told ≡ e.told
  pub lost : f.lost ≡ e.lost
  pub failed : f.failed ≡ e.failed
  pub session : f.session ≡ e.session

-- one that stays, or loses its session
abbrev pub StaysOrLoses : AppEnd → AppEnd → Type 0
StaysOrLoses e f = EndStays e f ⊎ EndLoses e f

-- one that rests, or loses it
abbrev pub RestsOrLoses : AppEnd → AppEnd → Type 0
RestsOrLoses e f = EndRests e f ⊎ EndLoses e f

-- nothing is given in a window that is as it was
given_none : (s : Session) → given_since (sent s.window) s.window ≡ []
given_none s = given_put s.window s.window [] refl (sym (append-nil s.window.waiting))

sessions_same : (o : Option Session) → SessionsStay o o
sessions_same None = tt
sessions_same (Some s) = record { number = refl; asks = refl; given = given_none s; epoch = refl; taken = refl }

pub end_same : (e : AppEnd) → EndStays e e
end_same e = record { ticket = refl; told = refl; lost = refl; failed = refl; session = sessions_same e.session }

rest_same : (e : AppEnd) → EndRests e e
rest_same e = record { ticket = refl; told = refl; lost = refl; failed = refl; session = refl }

rests_stay : (e f : AppEnd) → EndRests e f → EndStays e f
rests_stay e f x = record {
  ticket = x.ticket;
  told = x.told;
  lost = x.lost;
  failed = x.failed;
  session = subst (λ (o : Option Session). SessionsStay e.session o) (sym x.session) (sessions_same e.session);
}

either_stays : (e f : AppEnd) → RestsOrLoses e f → StaysOrLoses e f
either_stays e f (inl x) = inl (rests_stay e f x)
either_stays e f (inr x) = inr x

-- several

rest_then : (e f g : AppEnd) → EndRests e f → EndRests f g → EndRests e g
rest_then e f g x y = record {
  ticket = y.ticket ∙ x.ticket;
  told = y.told ∙ x.told;
  lost = y.lost ∙ x.lost;
  failed = y.failed ∙ x.failed;
  session = y.session ∙ x.session;
}

rest_lose : (e f g : AppEnd) → EndRests e f → EndLoses f g → EndLoses e g
rest_lose e f g x y = record {
  ticket = y.ticket ∙ x.ticket;
  told = y.told ∙ x.told;
  more = y.more;
  lost = y.lost ∙ ap (λ (ys : List Lost). ys ++ y.more) x.lost;
  its = all_follow (IsLossOf f) (IsLossOf e) each y.more y.its;
  failed = y.failed ∙ x.failed;
  none = y.none;
}
  where
    each : (z : Lost) → IsLossOf f z → IsLossOf e z
    each z (inl same) = inl (same ∙ ap (λ (o : Option Session). (unwrap_or o no_session).number) x.session)
    each z (inr none) = inr none

lose_rest : (e f g : AppEnd) → EndLoses e f → EndRests f g → EndLoses e g
lose_rest e f g x y = record {
  ticket = y.ticket ∙ x.ticket;
  told = y.told ∙ x.told;
  more = x.more;
  lost = y.lost ∙ x.lost;
  its = x.its;
  failed = y.failed ∙ x.failed;
  none = y.session ∙ x.none;
}

lose_twice : (e f g : AppEnd) → EndLoses e f → EndLoses f g → EndLoses e g
lose_twice e f g x y = record {
  ticket = y.ticket ∙ x.ticket;
  told = y.told ∙ x.told;
  more = x.more ++ y.more;
  lost = y.lost ∙ ap (λ (ys : List Lost). ys ++ y.more) x.lost ∙ append_assoc e.lost x.more y.more;
  its = all_joined (IsLossOf e) x.more y.more x.its (all_follow (IsLossOf f) (IsLossOf e) each y.more y.its);
  failed = y.failed ∙ x.failed;
  none = y.none;
}
  where
    each : (z : Lost) → IsLossOf f z → IsLossOf e z
    each z (inl same) = inr (same ∙ ap (λ (o : Option Session). (unwrap_or o no_session).number) x.none)
    each z (inr none) = inr none

either_then : (e f g : AppEnd) → RestsOrLoses e f → RestsOrLoses f g → RestsOrLoses e g
either_then e f g (inl x) (inl y) = inl (rest_then e f g x y)
either_then e f g (inl x) (inr y) = inr (rest_lose e f g x y)
either_then e f g (inr x) (inl y) = inr (lose_rest e f g x y)
either_then e f g (inr x) (inr y) = inr (lose_twice e f g x y)

-- frames

-- a session that is there has what it had
one_stays : (e f : AppEnd) (s t : Session) → e.session ≡ Some s → f.ticket ≡ e.ticket → f.told ≡ e.told → f.lost ≡ e.lost → f.failed ≡ e.failed
    → f.session ≡ Some t
    → AsksStay s t → EndStays e f
one_stays e f s t there ticket told lost failed is stays = record {
  ticket = ticket;
  told = told;
  lost = lost;
  failed = failed;
  session = subst (λ (o : Option Session). SessionsStay o f.session) (sym there) (subst (λ (o : Option Session). SessionsStay (Some s) o) (sym is) stays);
}

stays_here : (e f g : AppEnd) → g ≡ f → EndStays e f → EndStays e g
stays_here e f g same x = subst (λ (y : AppEnd). EndStays e y) (sym same) x

ended_stays : (line : Line) (times : Times) (now : ℕ) (e : AppEnd) → EndStays e (ended_from line times now e)
ended_stays Apart times now e = end_same e
ended_stays Trying times now e = end_same e
ended_stays Greeting times now e = record { ticket = refl; told = refl; lost = refl; failed = refl; session = sessions_same e.session }
ended_stays Asking times now e = record { ticket = refl; told = refl; lost = refl; failed = refl; session = sessions_same e.session }
ended_stays Joined times now e = record { ticket = refl; told = refl; lost = refl; failed = refl; session = sessions_same e.session }

-- an acknowledgement came
acked_stays : (s : Session) (ack since : ℕ) → AsksStay s (session_put since [] (with_window (λ w. with_ack w ack) s))
acked_stays s ack since = record {
  number = refl;
  asks = refl;
  given =
      given_took s.window (record s.window { acked = max s.window.acked ack; waiting = drop (ack - s.window.acked) s.window.waiting ++ []; since = since }) ack [] refl refl;
  epoch = refl;
  taken = refl;
}

-- the Welcome of the epoch that was told came
went_stays : (s : Session) (since n : ℕ) → AsksStay s (session_put since [] (synced_up n s))
went_stays s since n = record {
  number = refl;
  asks = refl;
  given = given_put s.window (record s.window { waiting = s.window.waiting ++ []; since = since }) [] refl refl;
  epoch = refl;
  taken = refl;
}

ended_it : (d now : ℕ) (b c : Sofar) → end_at c.state d ≡ ended_from (end_at b.state d).line b.state.times now (end_at b.state d)
    → EndStays (end_at b.state d) (end_at c.state d)
ended_it d now b c same = stays_here (end_at b.state d) _ (end_at c.state d) same (ended_stays (end_at b.state d).line b.state.times now (end_at b.state d))

-- What becomes of the requests of the end that a frame comes to.
abbrev pub FrameAsks : Down → ℕ → ℕ → DownFrame → Sofar → Sofar → Type 0
FrameAsks m d now frame b c =
    StaysOrLoses (end_at b.state d) (end_at c.state d) ⊎ FreshTaken m d now frame (end_at b.state d) b c ⊎ WelcomeTold m d now (end_at b.state d) b c

numbered_asks : (d now seq ack : ℕ) (m : Down) (f : Front) (b c : Sofar) → NumberedCame d now seq ack m f (end_at b.state d) b c
    → StaysOrLoses (end_at b.state d) (end_at c.state d) ⊎ TookFresh d now seq ack m f (end_at b.state d) b c
numbered_asks d now seq ack m f b c (inl x) = inr x
numbered_asks d now seq ack m f b c (inr (inl x)) =
    inl (inl (stays_here (end_at b.state d) _ (end_at c.state d) x.settles.here.end
    (one_stays (end_at b.state d) _ x.session _ x.its refl refl refl refl refl (acked_stays x.session ack x.settles.since))))
numbered_asks d now seq ack m f b c (inr (inr x)) = inl (inl (ended_it d now b c x.end))

numbered_first : {A B C : Type 0} → A ⊎ B → A ⊎ B ⊎ C
numbered_first (inl x) = inl x
numbered_first (inr x) = inr (inl x)

frame_asks : (m : Down) (d now : ℕ) (frame : DownFrame) (b c : Sofar) → FrameCame m d now frame (end_at b.state d) b c → FrameAsks m d now frame b c
frame_asks (Welcome session epoch kept front taken) d now frame b c (inl x) = inr (inr (inl x))
frame_asks (Welcome session epoch kept front taken) d now frame b c (inr (inl x)) =
    inl (inl (stays_here (end_at b.state d) _ (end_at c.state d) x.here.end
    (one_stays (end_at b.state d) _ x.session _ x.its refl refl refl refl refl (went_stays x.session x.since front.s))))
frame_asks (Welcome session epoch kept front taken) d now frame b c (inr (inr (inl x))) = inr (inr (inr x))
frame_asks (Welcome session epoch kept front taken) d now frame b c (inr (inr (inr x))) = inl (inl (ended_it d now b c x.end))
frame_asks (Reset session at) d now frame b c (inl x) =
    inl (inr (subst (λ (y : AppEnd). EndLoses (end_at b.state d) y) (sym x.here.end) (record {
      ticket = refl;
      told = refl;
      more = _;
      lost = refl;
      its = (inl refl, tt);
      failed = refl;
      none = refl;
    })))
frame_asks (Reset session at) d now frame b c (inr x) = inl (inl (ended_it d now b c x.end))
frame_asks (Block front block) d now frame b c x = numbered_first (numbered_asks d now frame.seq frame.ack (Block front block) front b c x)
frame_asks (Drop front lo hi) d now frame b c x = numbered_first (numbered_asks d now frame.seq frame.ack (Drop front lo hi) front b c x)
frame_asks (Ack front) d now frame b c x = numbered_first (numbered_asks d now frame.seq frame.ack (Ack front) front b c x)
frame_asks (Grant front ticket at) d now frame b c x = numbered_first (numbered_asks d now frame.seq frame.ack (Grant front ticket at) front b c x)
frame_asks (Answer front about job number at sum) d now frame b c x =
    numbered_first (numbered_asks d now frame.seq frame.ack (Answer front about job number at sum) front b c x)
frame_asks (Normal front) d now frame b c x = numbered_first (numbered_asks d now frame.seq frame.ack (Normal front) front b c x)
frame_asks Bare d now frame b c (inl x) =
    inl (inl (stays_here (end_at b.state d) _ (end_at c.state d) x.settles.here.end
    (one_stays (end_at b.state d) _ x.session _ x.its refl refl refl refl refl (acked_stays x.session frame.ack x.settles.since))))
frame_asks Bare d now frame b c (inr (inl x)) = inl (inl (stays_here (end_at b.state d) _ (end_at c.state d) x.end (end_same (end_at b.state d))))
frame_asks Bare d now frame b c (inr (inr x)) = inl (inl (ended_it d now b c x.end))

-- other inputs

acked : (o : Option Session) → SessionsStay o (option_map (with_window with_ack_put) o)
acked None = tt
acked (Some s) = record { number = refl; asks = refl; given = given_put s.window (with_ack_put s.window) [] refl (sym (append-nil s.window.waiting)); epoch = refl; taken = refl }

connected_stays : (link : AppLink) (d now : ℕ) (b c : Sofar) → ConnectedCame link d now (end_at b.state d) b c → EndStays (end_at b.state d) (end_at c.state d)
connected_stays NotConnected d now b c x =
    stays_here (end_at b.state d) _ (end_at c.state d) x.end (record { ticket = refl; told = refl; lost = refl; failed = refl; session = sessions_same (end_at b.state d).session })
connected_stays NormalLink d now b c x =
    stays_here (end_at b.state d) _ (end_at c.state d) x.end (record { ticket = refl; told = refl; lost = refl; failed = refl; session = sessions_same (end_at b.state d).session })
connected_stays (Trouble broke try_at) d now b c x =
    stays_here (end_at b.state d) _ (end_at c.state d) x.end (record { ticket = refl; told = refl; lost = refl; failed = refl; session = acked (end_at b.state d).session })
connected_stays Recovery d now b c x =
    stays_here (end_at b.state d) _ (end_at c.state d) x.end (record { ticket = refl; told = refl; lost = refl; failed = refl; session = sessions_same (end_at b.state d).session })

-- an end whose attempt failed
abbrev pub StaysOrFails : AppEnd → AppEnd → Type 0
StaysOrFails e f = EndStays e f ⊎ EndFails e f

failed_asks : (link : AppLink) (times : Times) (before later now : ℕ) (e : AppEnd) → e.link ≡ link → StaysOrFails e (failed_end link times before later now e)
failed_asks NotConnected times before later now e apart = inr (record { ticket = refl; told = refl; lost = refl; apart = apart; session = refl })
failed_asks NormalLink times before later now e apart = inl (record { ticket = refl; told = refl; lost = refl; failed = refl; session = sessions_same e.session })
failed_asks (Trouble broke try_at) times before later now e apart =
    inl (record { ticket = refl; told = refl; lost = refl; failed = refl; session = sessions_same e.session })
failed_asks Recovery times before later now e apart = inl (record { ticket = refl; told = refl; lost = refl; failed = refl; session = sessions_same e.session })

tried_rests : (apart : Bool) (e : AppEnd) → EndRests e (tried_if apart e)
tried_rests true e = record { ticket = refl; told = refl; lost = refl; failed = refl; session = refl }
tried_rests false e = rest_same e

rejoined_stays : (link : AppLink) (e : AppEnd) → EndStays e (rejoined link e)
rejoined_stays NotConnected e = end_same e
rejoined_stays NormalLink e = end_same e
rejoined_stays (Trouble broke try_at) e = rests_stay e _ (tried_rests (is_apart e.line) e)
rejoined_stays Recovery e = end_same e

troubled_asks : (over may : Bool) (broke now : ℕ) (e : AppEnd) → RestsOrLoses e (troubled over may broke now e)
troubled_asks true may broke now e =
    inr (record { ticket = refl; told = refl; more = _; lost = refl; its = (inl refl, tt); failed = refl; none = refl })
troubled_asks false true broke now e = inl (tried_rests (is_apart e.line) e)
troubled_asks false false broke now e = inl (rest_same e)

ticked_asks : (link : AppLink) (times : Times) (now : ℕ) (e : AppEnd) → RestsOrLoses e (ticked_from link times now e)
ticked_asks NotConnected times now e = inl (rest_same e)
ticked_asks NormalLink times now e = inl (rest_same e)
ticked_asks (Trouble broke try_at) times now e = troubled_asks (nat_le (until broke times.recover) now) (nat_le try_at now) broke now e
ticked_asks Recovery times now e = inl (rest_same e)

-- one end of several
of_one : (R : AppEnd → AppEnd → Type 0) → ((e : AppEnd) → R e e) → (d k : ℕ) (b c : Sofar) → KeepsOthers b.state c.state d
    → R (end_at b.state d) (end_at c.state d)
    → R (end_at b.state k) (end_at c.state k)
of_one R same d k b c others here = go (eqb k d) refl
  where
    go : (t : Bool) → eqb k d ≡ t → R (end_at b.state k) (end_at c.state k)
    go true is = subst (λ n. R (end_at b.state n) (end_at c.state n)) (sym (eqb-true k d is)) here
    go false other = subst (λ (x : AppEnd). R (end_at b.state k) x) (sym (others k (λ is. false≢true (sym other ∙ eq-eqb k d is)))) (same (end_at b.state k))

one_ticked : (link : AppLink) (d k now : ℕ) (b : Sofar) → (end_at b.state d).link ≡ link
    → ((broke try_at : ℕ) → link ≡ Trouble broke try_at → d < length b.state.ends)
    → RestsOrLoses (end_at b.state k) (end_at (ticks_from link d now b).state k)
one_ticked NotConnected d k now b same there = inl (rest_same (end_at b.state k))
one_ticked NormalLink d k now b same there = inl (rest_same (end_at b.state k))
one_ticked (Trouble broke try_at) d k now b same there =
    of_one RestsOrLoses (λ e. inl (rest_same e)) d k b (ticks_from (Trouble broke try_at) d now b) (one_ticks_from (Trouble broke try_at) d now b).others
    (go (ticked_here d now b (there broke try_at refl)).end)
  where
    go : end_at (ticks_from (end_at b.state d).link d now b).state d ≡ ticked_from (end_at b.state d).link b.state.times now (end_at b.state d)
        → RestsOrLoses (end_at b.state d) (end_at (ticks_from (Trouble broke try_at) d now b).state d)
    go is =
        subst (λ (y : AppEnd). RestsOrLoses (end_at b.state d) y)
        (sym (subst (λ (x : AppLink). end_at (ticks_from x d now b).state d ≡ ticked_from x b.state.times now (end_at b.state d)) same is))
        (ticked_asks (Trouble broke try_at) b.state.times now (end_at b.state d))
one_ticked Recovery d k now b same there = inl (rest_same (end_at b.state k))

all_ticked : (ds : List ℕ) (k now : ℕ) (b : Sofar) → RestsOrLoses (end_at b.state k) (end_at (ticks ds now b).state k)
all_ticked [] k now b = inl (rest_same (end_at b.state k))
all_ticked (d ∷ ds) k now b =
    either_then (end_at b.state k) (end_at (ticks_from (end_at b.state d).link d now b).state k) _
    (one_ticked (end_at b.state d).link d k now b refl (λ broke try_at is. trouble_here b.state d broke try_at is)) (all_ticked ds k now (ticks_from (end_at b.state d).link d now b))

-- What becomes of the requests of the end with a data server.
abbrev pub InputAsks : AppIn → ℕ → ℕ → Sofar → Sofar → Type 0
InputAsks (app_in.Frame d frame) k now b c = EndStays (end_at b.state k) (end_at c.state k) ⊎ ((k ≡ d) × FrameAsks frame.message d now frame b c)
InputAsks (app_in.Connected d) k now b c = EndStays (end_at b.state k) (end_at c.state k)
InputAsks (app_in.NoWay d before later) k now b c = StaysOrFails (end_at b.state k) (end_at c.state k)
InputAsks (app_in.Broken d) k now b c = EndStays (end_at b.state k) (end_at c.state k)
InputAsks (app_in.Join d) k now b c = EndStays (end_at b.state k) (end_at c.state k)
InputAsks app_in.Tick k now b c = StaysOrLoses (end_at b.state k) (end_at c.state k)

-- Each input.
pub input_asks : (input : AppIn) (k now : ℕ) (b c : Sofar) → AppMay b.state input → IfSome (named_by input) (KeepsOthers b.state c.state)
    → ((d : ℕ) → LineHas (end_at b.state d).line (end_at b.state d).session) → Makes b now input c → InputAsks input k now b c
input_asks (app_in.Frame d frame) k now b c may others has h = go (eqb k d) refl (frame_asks frame.message d now frame b c (frame_came b now d frame c may.known (has d) h))
  where
    go : (t : Bool) → eqb k d ≡ t → FrameAsks frame.message d now frame b c → InputAsks (app_in.Frame d frame) k now b c
    go true same x = inr (eqb-true k d same, x)
    go false other x = inl (stays_here (end_at b.state k) (end_at b.state k) (end_at c.state k) (others k (λ same. false≢true (sym other ∙ eq-eqb k d same))) (end_same (end_at b.state k)))
input_asks (app_in.Connected d) k now b c may others has h =
    of_one EndStays end_same d k b c others
    (connected_stays (end_at b.state d).link d now b c (subst (λ (x : Sofar). ConnectedCame (end_at b.state d).link d now (end_at b.state d) b x) (sym h) (connected_came d now b may.known)))
input_asks (app_in.NoWay d before later) k now b c may others has h =
    of_one StaysOrFails (λ e. inl (end_same e)) d k b c others
    (subst (λ (y : AppEnd). StaysOrFails (end_at b.state d) y) (sym (ap (λ (x : Sofar). end_at x.state d) h ∙ (failed_came d before later now b may.tried.known).end))
    (failed_asks (end_at b.state d).link b.state.times before later now (end_at b.state d) refl))
input_asks (app_in.Broken d) k now b c may others has h =
    of_one EndStays end_same d k b c others
    (stays_here (end_at b.state d) _ (end_at c.state d) (ap (λ (x : Sofar). end_at x.state d) h ∙ (broken_came d now b may).end)
    (ended_stays (end_at b.state d).line b.state.times now (end_at b.state d)))
input_asks (app_in.Join d) k now b c may others has h =
    of_one EndStays end_same d k b c others
    (stays_here (end_at b.state d) _ (end_at c.state d) (ap (λ (x : Sofar). end_at x.state d) h ∙ (joined_came d b may).end)
    (rejoined_stays (end_at b.state d).link (end_at b.state d)))
input_asks app_in.Tick k now b c may others has h =
    subst (λ (x : Sofar). StaysOrLoses (end_at b.state k) (end_at x.state k)) (sym h)
    (either_stays (end_at b.state k) _ (all_ticked (range_with_len 0 (length b.state.ends)) k now b))
