-- A frame from one data server is taken by what is known of that one alone.
use Rattle.std.proofs.Common.{◌≡◌, ◌⊎◌, ◌<◌, ℕ, Bool, true, false, List, refl, sym, subst, ap, ◌∙◌, Option, Some, None, Result, Ok, Err, inl, inr}
use Rattle.std.specs.Prelude.{nat_le}
use Rattle.plain_orders.specs.declared.act.Act.TheVariants.{Lose, Met, Told as ToldAct}
use Rattle.plain_orders.specs.declared.causes.Loss.TheVariants as losses
use Rattle.plain_orders.specs.declared.refused.LinkName.TheVariants as names
use Rattle.link_states.specs.declared.link_event.LinkEvent.TheVariants.{Welcomed}
use Rattle.ecp_messages.specs.declared.up.Up.{Up}
use Rattle.ecp_messages.specs.declared.down.Down.{Down}
use Rattle.ecp_messages.specs.declared.down.Down.TheVariants.{Welcome, Reset, Block, Drop, Ack, Grant, Answer, Normal, Bare}
use Rattle.ecp_messages.specs.declared.down.DownFrame.{DownFrame}
use Rattle.ecp_messages.specs.declared.front.Front.{Front}
use Rattle.link_window.specs.declared.window.Taken.{Taken}
use Rattle.link_window.specs.declared.window.Taken.TheVariants.{Fresh, Repeat}
use Rattle.link_window.specs.declared.window.WindowError.{WindowError}
use Rattle.app_job.specs.declared.reason.Reason.TheVariants as reasons
use Rattle.end_words.specs.Windows.{answers, resent, with_ack}
use Rattle.app_rules.specs.declared.app_in.AppIn.TheVariants.{Frame, Connected, NoWay, Broken, Join, Tick}
use Rattle.app_rules.specs.declared.app_outs.AppOuts.{AppOuts}
use Rattle.app_rules.specs.declared.line.Line.TheVariants.{Joined}
use Rattle.app_rules.specs.AppState.{AppState}
use Rattle.app_rules.specs.Works.{Sofar, begun, end_at, session_of, session_at, becomes, happens, sets, writes, cuts, puts_all, with_line, with_window, is_joined, body_of, synced_up}
use Rattle.app_rules.specs.Losing.{ends_it, loses, without_session}
use Rattle.app_rules.specs.Welcoming.{TakesWelcome, IsAsked, met, sends_again, settles_unless, told_puts, in_epoch}
use Rattle.app_rules.specs.Delivering.{with_run, with_drop, with_grant, with_answer, goes_normal}
use Rattle.app_rules.specs.Downs.{Delivers, HasNoRun, TakesNumbered, TakesHeaded, TakesAck, TakesBare, TakesFrame, settled, joined, took, falls, acknowledged}
use Rattle.app_rules.specs.AppStep.{AppStep, made}
use Rattle.app_rules.specs.Laws.{IsAlikeAt, StepsAlone}
use Rattle.app_rules.proofs.Alone.{IsLike, like_writes, like_cuts, like_change, like_sets, like_puts_all}
use Rattle.app_rules.proofs.AloneSteps.{like_event, like_ends_it, like_broken, like_joins, like_connected, like_failed, like_sends_again, like_settles, like_goes_normal, like_settled}
use Rattle.app_rules.proofs.Alike.{frame_alike}

like_from : {d : ℕ} (c x e : Sofar) → c ≡ x → IsLike x e d → IsLike c e d
like_from {d} c x e p l = subst (λ y. IsLike y e d) (sym p) l

like_sent : (d : ℕ) (ms ns : List (ℕ × Up)) (b c : Sofar) → ns ≡ ms → IsLike b c d → IsLike (sends_again d ms b) (sends_again d ns c) d
like_sent d ms ns b c e l = subst (λ xs. IsLike (sends_again d ms b) (sends_again d xs c) d) (sym e) (like_sends_again d ms b c l)

like_put : (d : ℕ) (ms ns : List Up) (b c : Sofar) → ns ≡ ms → IsLike b c d → IsLike (puts_all d ms b) (puts_all d ns c) d
like_put d ms ns b c e l = subst (λ xs. IsLike (puts_all d ms b) (puts_all d xs c) d) (sym e) (like_puts_all d ms b c l)

asked_too : (b g : Sofar) (d session : ℕ) (front : Front) → end_at g.state d ≡ end_at b.state d → IsAsked b d session front → IsAsked g d session front
asked_too b g d session front e a = record {
  asking = ap (λ x. x.line) e ∙ a.asking;
  its = ap (λ x. (session_of x).number) e ∙ a.its;
  below = a.below;
}

welcome_too : (b g : Sofar) (d now session epoch kept : ℕ) (front : Front) (taken : ℕ) (c : Sofar) → IsLike b g d
    → TakesWelcome b d now session epoch kept front taken c → (e : Sofar) × TakesWelcome g d now session epoch kept front taken e × IsLike c e d
welcome_too b g d now session epoch kept front taken c l (inl h) = (
  happens d now Welcomed (becomes d (met session epoch front) (writes (Met g.state.app d session) g)),
  inl (record {
    greeting = ap (λ x. x.line) l.state.same_end ∙ h.greeting;
    above = subst (λ x. x.told < session) (sym l.state.same_end) h.above;
    below = h.below;
    after = refl;
  }),
  like_from c _ _ h.after
      (like_event d now Welcomed _ _
      (like_change d (met session epoch front) _ _
      (like_writes (Met b.state.app d session) (Met g.state.app d session) b g (ap (λ a. Met a d session) l.state.app) l))),
)
welcome_too b g d now session epoch kept front taken c l (inr (inl h)) = (
  settles_unless (session_at g.state d).normal_due d now
      (sends_again d (resent (session_at g.state d).window taken) (sets d (synced_up front.s) (becomes d (with_line Joined) g))),
  inr (inl (record {
    asked = asked_too b g d session front l.state.same_end h.asked;
    same = ap (λ x. (session_of x).epoch) l.state.same_end ∙ h.same;
    after = refl;
  })),
  like_from c _ _ h.after
      (like_settles (session_at b.state d).normal_due (session_at g.state d).normal_due d now _ _ (ap (λ x. (session_of x).normal_due) l.state.same_end)
      (like_sent d (resent (session_at b.state d).window taken) (resent (session_at g.state d).window taken) _ _ (ap (λ x. resent (session_of x).window taken) l.state.same_end)
      (like_sets d (synced_up front.s) _ _ (like_change d (with_line Joined) b g l)))),
)
welcome_too b g d now session epoch kept front taken c l (inr (inr (inl h))) = (
  puts_all d (told_puts front.w (synced_up front.s (session_at g.state d)))
      (sets d (in_epoch epoch front) (becomes d (with_line Joined) (writes (ToldAct g.state.app d session epoch kept) g))),
  inr (inr (inl (record {
    asked = asked_too b g d session front l.state.same_end h.asked;
    later = subst (λ x. (session_of x).epoch < epoch) (sym l.state.same_end) h.later;
    after = refl;
  }))),
  like_from c _ _ h.after
      (like_put d (told_puts front.w (synced_up front.s (session_at b.state d))) (told_puts front.w (synced_up front.s (session_at g.state d))) _ _
      (ap (λ x. told_puts front.w (synced_up front.s (session_of x))) l.state.same_end)
      (like_sets d (in_epoch epoch front) _ _
      (like_change d (with_line Joined) _ _
      (like_writes (ToldAct b.state.app d session epoch kept) (ToldAct g.state.app d session epoch kept) b g (ap (λ a. ToldAct a d session epoch kept) l.state.app) l)))),
)
welcome_too b g d now session epoch kept front taken c l (inr (inr (inr h))) = (
  ends_it d now g,
  inr (inr (inr (record {
    stray = record {
      no_new = λ greeting above below. h.stray.no_new (ap (λ x. x.line) (sym l.state.same_end) ∙ greeting) (subst (λ x. x.told < session) l.state.same_end above) below;
      no_old = λ asked low. h.stray.no_old (asked_too g b d session front (sym l.state.same_end) asked) (subst (λ x. nat_le (session_of x).epoch epoch ≡ true) l.state.same_end low);
    };
    after = refl;
  }))),
  like_from c _ _ h.after (like_ends_it d now b g l),
)

delivers_too : (m : Down) (d now : ℕ) (b g c : Sofar) → IsLike b g d → Delivers m d now b c → (e : Sofar) × Delivers m d now g e × IsLike c e d
delivers_too (Welcome session epoch kept front taken) d now b g c l h = absurd h
delivers_too (Reset session at) d now b g c l h = absurd h
delivers_too (Block front block) d now b g c l h =
    (sets d (with_run h.run) g, record { run = h.run; its = h.its; after = refl }, like_from c _ _ h.after (like_sets d (with_run h.run) b g l))
delivers_too (Drop front lo hi) d now b g c l h =
    (sets d (with_drop (record { lo = lo; hi = hi })) g, refl, like_from c _ _ h (like_sets d (with_drop (record { lo = lo; hi = hi })) b g l))
delivers_too (Ack front) d now b g c l h = (g, refl, like_from c b g h l)
delivers_too (Grant front ticket at) d now b g c l h = (sets d (with_grant ticket at) g, refl, like_from c _ _ h (like_sets d (with_grant ticket at) b g l))
delivers_too (Answer front about job number at sum) d now b g c l h =
    (sets d (with_answer about number at sum) g, refl, like_from c _ _ h (like_sets d (with_answer about number at sum) b g l))
delivers_too (Normal front) d now b g c l h = (goes_normal d now g, refl, like_from c _ _ h (like_goes_normal d now b g l))
delivers_too Bare d now b g c l h = absurd h

numbered_too : (r : Result Taken WindowError) (b g : Sofar) (d now : ℕ) (frame : DownFrame) (f : Front) (c : Sofar) → IsLike b g d
    → TakesNumbered r b d now frame f c → (e : Sofar) × TakesNumbered r g d now frame f e × IsLike c e d
numbered_too (Ok Fresh) b g d now frame f c l (inl h) =
    let t : (e : Sofar) × Delivers frame.message d now (sets d (took frame.seq frame.ack f) g) e × IsLike c e d =
    delivers_too frame.message d now _ (sets d (took frame.seq frame.ack f) g) c (like_sets d (took frame.seq frame.ack f) b g l) h.made in
    (t.0, inl (record { ahead = ap (λ x. falls (session_of x) f) l.state.same_end ∙ h.ahead; made = t.1 }), t.2)
numbered_too (Ok Fresh) b g d now frame f c l (inr h) = (ends_it d now g, inr (record { why = by h.why; after = refl }), like_from c _ _ h.after (like_ends_it d now b g l))
  where
    by : (falls (session_at b.state d) f ≡ true) ⊎ HasNoRun frame.message → (falls (session_at g.state d) f ≡ true) ⊎ HasNoRun frame.message
    by (inl t) = inl (ap (λ x. falls (session_of x) f) l.state.same_end ∙ t)
    by (inr n) = inr n
numbered_too (Ok Repeat) b g d now frame f c l h =
    (acknowledged d frame.ack g, refl, like_from c _ _ h (like_sets d (with_window (λ w. with_ack w frame.ack)) b g l))
numbered_too (Err why) b g d now frame f c l h = (ends_it d now g, refl, like_from c _ _ h (like_ends_it d now b g l))

headed_too : (t : Bool) (b g : Sofar) (d now : ℕ) (frame : DownFrame) (f : Front) (c : Sofar) → IsLike b g d
    → TakesHeaded t b d now frame f c → (e : Sofar) × TakesHeaded t g d now frame f e × IsLike c e d
headed_too true b g d now frame f c l h =
    subst (λ r. (e : Sofar) × TakesNumbered r g d now frame f e × IsLike c e d) (sym (ap (λ x. answers body_of (session_of x).window frame.seq frame.ack) l.state.same_end))
    (numbered_too (answers body_of (session_at b.state d).window frame.seq frame.ack) b g d now frame f c l h)
headed_too false b g d now frame f c l h = (ends_it d now g, refl, like_from c _ _ h (like_ends_it d now b g l))

joined_too : (b g : Sofar) (d now : ℕ) (frame : DownFrame) (f : Front) (c : Sofar) → IsLike b g d
    → TakesHeaded (joined b d) b d now frame f c → (e : Sofar) × TakesHeaded (joined g d) g d now frame f e × IsLike c e d
joined_too b g d now frame f c l h =
    subst (λ t. (e : Sofar) × TakesHeaded t g d now frame f e × IsLike c e d) (sym (ap (λ x. is_joined x.line) l.state.same_end)) (headed_too (joined b d) b g d now frame f c l h)

ack_too : (r : Result Taken WindowError) (b g : Sofar) (d now ack : ℕ) (c : Sofar) → IsLike b g d → TakesAck r b d now ack c → (e : Sofar) × TakesAck r g d now ack e × IsLike c e d
ack_too (Ok answer) b g d now ack c l h = (acknowledged d ack g, refl, like_from c _ _ h (like_sets d (with_window (λ w. with_ack w ack)) b g l))
ack_too (Err why) b g d now ack c l h = (ends_it d now g, refl, like_from c _ _ h (like_ends_it d now b g l))

bare_too : (t : Bool) (b g : Sofar) (d now ack : ℕ) (c : Sofar) → IsLike b g d → TakesBare t b d now ack c → (e : Sofar) × TakesBare t g d now ack e × IsLike c e d
bare_too true b g d now ack c l h =
    subst (λ r. (e : Sofar) × TakesAck r g d now ack e × IsLike c e d) (sym (ap (λ x. answers body_of (session_of x).window 0 ack) l.state.same_end))
    (ack_too (answers body_of (session_at b.state d).window 0 ack) b g d now ack c l h)
bare_too false b g d now ack c l h = (g, refl, like_from c b g h l)

frame_too : (m : Down) (b g : Sofar) (d now : ℕ) (frame : DownFrame) (c : Sofar) → IsLike b g d → TakesFrame m b d now frame c → (e : Sofar) × TakesFrame m g d now frame e × IsLike c e d
frame_too (Welcome session epoch kept front taken) b g d now frame c l h = welcome_too b g d now session epoch kept front taken c l h
frame_too (Reset session at) b g d now frame c l (inl h) = (
  cuts d (loses d names.Recovery (reasons.Reset at) (writes (Lose g.state.app d (losses.Reset at)) g)),
  inl (record {
    recovering = ap (λ x. x.link) l.state.same_end ∙ h.recovering;
    its = ap (λ x. (session_of x).number) l.state.same_end ∙ h.its;
    after = refl;
  }),
  like_from c _ _ h.after
      (like_cuts _ _
      (like_change d (without_session names.Recovery (reasons.Reset at)) _ _
      (like_writes (Lose b.state.app d (losses.Reset at)) (Lose g.state.app d (losses.Reset at)) b g (ap (λ a. Lose a d (losses.Reset at)) l.state.app) l))),
)
frame_too (Reset session at) b g d now frame c l (inr h) = (
  ends_it d now g,
  inr (record {
    stray = λ recovering its. h.stray (ap (λ x. x.link) (sym l.state.same_end) ∙ recovering) (ap (λ x. (session_of x).number) (sym l.state.same_end) ∙ its);
    after = refl;
  }),
  like_from c _ _ h.after (like_ends_it d now b g l),
)
frame_too (Block front block) b g d now frame c l h = joined_too b g d now frame front c l h
frame_too (Drop front lo hi) b g d now frame c l h = joined_too b g d now frame front c l h
frame_too (Ack front) b g d now frame c l h = joined_too b g d now frame front c l h
frame_too (Grant front ticket at) b g d now frame c l h = joined_too b g d now frame front c l h
frame_too (Answer front about job number at sum) b g d now frame c l h = joined_too b g d now frame front c l h
frame_too (Normal front) b g d now frame c l h = joined_too b g d now frame front c l h
frame_too Bare b g d now frame c l h =
    subst (λ t. (e : Sofar) × TakesBare t g d now frame.ack e × IsLike c e d) (sym (ap (λ x. is_joined x.line) l.state.same_end)) (bare_too (joined b d) b g d now frame.ack c l h)

likes : (d : ℕ) (new other : AppState) (outs other_outs : AppOuts) (x y : Sofar) → made new outs ≡ x → made other other_outs ≡ y → IsLike x y d → (end_at other d ≡ end_at new d) × (other_outs ≡ outs)
likes d new other outs other_outs x y p q l =
    let k : IsLike (made new outs) (made other other_outs) d = subst (λ z. IsLike (made new outs) z d) (sym q) (subst (λ z. IsLike z y d) (sym p) l) in
    (k.state.same_end, k.outs)

at_begin : (d : ℕ) (a b : AppState) → IsAlikeAt a b d → IsLike (begun a) (begun b) d
at_begin d a b h = record { state = h; outs = refl }

frames_alone : (a b new other : AppState) (d now : ℕ) (down : DownFrame) (outs other_outs : AppOuts) → IsAlikeAt a b d
    → AppStep a now (Frame d down) outs new → AppStep b now (Frame d down) other_outs other → (end_at other d ≡ end_at new d) × (other_outs ≡ outs)
frames_alone a b new other d now down outs other_outs h x y =
    let t : (e : Sofar) × TakesFrame down.message (begun b) d now down e × IsLike x.taken e d = frame_too down.message (begun a) (begun b) d now down x.taken (at_begin d a b h) x.takes in
    let same : y.taken ≡ t.0 = frame_alike down.message (begun b) d now down t.0 y.taken t.1 y.takes in
    likes d new other outs other_outs (settled d x.taken) (settled d t.0) x.after (y.after ∙ ap (settled d) same) (like_settled d x.taken t.0 t.2)

one_of : ℕ → Option ℕ → ℕ
one_of z None = z
one_of z (Some i) = i

named : (k d : ℕ) → Some k ≡ Some d → k ≡ d
unfolding one_of
named k d e = ap (one_of 0) e

pub steps_alone : StepsAlone
steps_alone a b new other d now (Frame k down) outs other_outs n h x y =
    subst (λ i. (end_at other i ≡ end_at new i) × (other_outs ≡ outs)) (named k d n)
    (frames_alone a b new other k now down outs other_outs (subst (λ i. IsAlikeAt a b i) (sym (named k d n)) h) x y)
steps_alone a b new other d now (Connected k) outs other_outs n h x y =
    subst (λ i. (end_at other i ≡ end_at new i) × (other_outs ≡ outs)) (named k d n) (likes k new other outs other_outs _ _ x y (like_connected k now (begun a) (begun b) (at_begin k a b (subst (λ i. IsAlikeAt a b i) (sym (named k d n)) h))))
steps_alone a b new other d now (NoWay k before after) outs other_outs n h x y =
    subst (λ i. (end_at other i ≡ end_at new i) × (other_outs ≡ outs)) (named k d n) (likes k new other outs other_outs _ _ x y (like_failed k before after now (begun a) (begun b) (at_begin k a b (subst (λ i. IsAlikeAt a b i) (sym (named k d n)) h))))
steps_alone a b new other d now (Broken k) outs other_outs n h x y =
    subst (λ i. (end_at other i ≡ end_at new i) × (other_outs ≡ outs)) (named k d n) (likes k new other outs other_outs _ _ x y (like_broken k now (begun a) (begun b) (at_begin k a b (subst (λ i. IsAlikeAt a b i) (sym (named k d n)) h))))
steps_alone a b new other d now (Join k) outs other_outs n h x y =
    subst (λ i. (end_at other i ≡ end_at new i) × (other_outs ≡ outs)) (named k d n)
    (likes k new other outs other_outs _ _ x y
    (like_joins (end_at a k).link (end_at b k).link k (begun a) (begun b) (ap (λ z. z.link) (subst (λ i. IsAlikeAt a b i) (sym (named k d n)) h).same_end)
    (at_begin k a b (subst (λ i. IsAlikeAt a b i) (sym (named k d n)) h))))
steps_alone a b new other d now Tick outs other_outs n h x y = absurd (cc (n))
