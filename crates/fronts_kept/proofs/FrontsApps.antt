-- Fronts over each input of an application server: nothing is taken, or one message more, or a Welcome begins a lane.
use Rattle.std.proofs.Common.{◌≡◌, ◌≢◌, ◌≤◌, ◌&&◌, ◌==◌, ℕ, zero, suc, ◌+◌, Bool, true, false, if◌then◌else◌, List, [], ◌∷◌, ◌++◌, take, drop, Option, Some, None, refl, sym, ◌∙◌, ap, subst, arith}
use Rattle.std.specs.Prelude.{IfSome}
use Rattle.std.specs.List.{AllByRecursion}
use Rattle.std.proofs.lemmas.Bool.{eq-eqb, ne_eqb}
use Rattle.plain_orders.specs.Entries.{count}
use Rattle.plain_runs.specs.Plain.{Server, current, order_at}
use Rattle.subscript_keys.specs.declared.run.Run.{Run}
use Rattle.link_states.specs.declared.app_link.AppLink.{AppLink}
use Rattle.plain_orders.specs.declared.layout.Times.{Times}
use Rattle.ecp_messages.specs.declared.about.About.{About}
use Rattle.ecp_messages.specs.declared.about.About.TheVariants.{Counted, NotWhole, Range, Committed, RolledBack, Synced}
use Rattle.ecp_messages.specs.declared.down.Down.{Down}
use Rattle.ecp_messages.specs.declared.down.Down.TheVariants.{Welcome, Reset, Block, Drop, Ack, Grant, Answer, Normal, Bare}
use Rattle.ecp_messages.specs.declared.front.Front.{Front}
use Rattle.ecp_messages.specs.declared.up.Up.{Up}
use Rattle.ecp_messages.specs.declared.up.UpFrame.{UpFrame}
use Rattle.app_rules.specs.AppState.{AppEnd, Session}
use Rattle.app_rules.specs.Downs.{took}
use Rattle.app_rules.specs.Works.{Sofar}
use Rattle.app_rules.specs.Delivering.{with_answer}
use Rattle.app_rules.specs.Looks.{Shown, ShowsMessage, shown_front}
use Rattle.cluster_runs.specs.Goes.{at_told}
use Rattle.cluster_runs.specs.Lanes.{with_app_step}
use Rattle.cluster_runs.specs.Machine.{Site}
use Rattle.cluster_runs.specs.Sent.{Lane, Place, downs_taken}
use Rattle.cluster_invariant.specs.Coherence.{IsHeader, front_of}
use Rattle.cluster_invariant.specs.Fronts.{FrontIs, ShownIs, Stands, last_front}
use Rattle.cluster_invariant.specs.Words.{IsFront}
use Rattle.cluster_steps.proofs.EndSteps.{session_put}
use Rattle.cluster_steps.proofs.FrameEnds.{Delivered, TookFresh}
use Rattle.fronts_kept.proofs.FrontTakes.{RunsAfter, front_takes, shown_takes, take_more}
use Rattle.fronts_kept.proofs.FrontsEnds.{FrontWith, ShownWith, TakenAt}
use Rattle.fronts_kept.proofs.FrontsLater.{SameTaken, front_later, same_taken}

-- a fresh message

-- what it makes of a session
pub record TakesOne (m : Down) (s t : Session) : Type 0 where
  pub number : t.number ≡ s.number
  pub epoch : t.epoch ≡ s.epoch
  pub n : t.n ≡ (front_of m).n
  pub w : t.w ≡ (front_of m).w
  pub taken : t.window.taken ≡ s.window.taken + 1
  pub runs : RunsAfter m s.cache t.cache

-- a session that is delivered one is it but for its runs
record Keeps (s t : Session) : Type 0 where
  number : t.number ≡ s.number
  epoch : t.epoch ≡ s.epoch
  n : t.n ≡ s.n
  w : t.w ≡ s.w
  taken : t.window.taken ≡ s.window.taken

keeps_as : (s t : Session) (f : Session → Session) → t ≡ f s → Keeps s (f s) → Keeps s t
keeps_as s t f is keeps = subst (λ (r : Session). Keeps s r) (sym is) keeps

answer_keeps : (about : About) (number at : ℕ) (sum : _) (s : Session) → Keeps s (with_answer about number at sum s) × ((with_answer about number at sum s).cache ≡ s.cache)
answer_keeps Counted number at sum s = (record { number = refl; epoch = refl; n = refl; w = refl; taken = refl }, refl)
answer_keeps NotWhole number at sum s = (record { number = refl; epoch = refl; n = refl; w = refl; taken = refl }, refl)
answer_keeps Range number at sum s = (record { number = refl; epoch = refl; n = refl; w = refl; taken = refl }, refl)
answer_keeps Committed number at sum s = (record { number = refl; epoch = refl; n = refl; w = refl; taken = refl }, refl)
answer_keeps RolledBack number at sum s = (record { number = refl; epoch = refl; n = refl; w = refl; taken = refl }, refl)
answer_keeps Synced number at sum s = (record { number = refl; epoch = refl; n = refl; w = refl; taken = refl }, refl)

delivered_keeps : (m : Down) (s : Session) (link : AppLink) (times : Times) (now : ℕ) (t : Session) (l : AppLink) (put : List Up) → Delivered m s link times now t l put
    → Keeps s t × RunsAfter m s.cache t.cache
delivered_keeps (Welcome session epoch kept front taken) s link times now t l put h = absurd h
delivered_keeps (Reset session at) s link times now t l put h = absurd h
delivered_keeps (Block front block) s link times now t l put h =
    (subst (λ (r : Session). Keeps s r) (sym h.2) (record { number = refl; epoch = refl; n = refl; w = refl; taken = refl }), (h.0, h.1, ap (λ (r : Session). r.cache) h.2))
delivered_keeps (Drop front lo hi) s link times now t l put h =
    (subst (λ (r : Session). Keeps s r) (sym h.0) (record { number = refl; epoch = refl; n = refl; w = refl; taken = refl }), ap (λ (r : Session). r.cache) h.0)
delivered_keeps (Ack front) s link times now t l put h =
    (subst (λ (r : Session). Keeps s r) (sym h.0) (record { number = refl; epoch = refl; n = refl; w = refl; taken = refl }), ap (λ (r : Session). r.cache) h.0)
delivered_keeps (Grant front ticket at) s link times now t l put h =
    (subst (λ (r : Session). Keeps s r) (sym h.0) (record { number = refl; epoch = refl; n = refl; w = refl; taken = refl }), ap (λ (r : Session). r.cache) h.0)
delivered_keeps (Answer front about job number at sum) s link times now t l put h =
    (subst (λ (r : Session). Keeps s r) (sym h.0) (answer_keeps about number at sum s).0, ap (λ (r : Session). r.cache) h.0 ∙ (answer_keeps about number at sum s).1)
delivered_keeps (Normal front) s link times now t l put h =
    (subst (λ (r : Session). Keeps s r) (sym h.0) (record { number = refl; epoch = refl; n = refl; w = refl; taken = refl }), ap (λ (r : Session). r.cache) h.0)
delivered_keeps Bare s link times now t l put h = absurd h

-- a fresh message that came
pub fresh_takes : (m : Down) (d now seq ack : ℕ) (f : Front) (e : AppEnd) (b c : Sofar) → f ≡ front_of m → (x : TookFresh d now seq ack m f e b c)
    → TakesOne m x.session (session_put x.since x.put x.after)
fresh_takes m d now seq ack f e b c same x = go (delivered_keeps m (took seq ack f x.session) e.link b.state.times now x.after x.link x.put x.delivered)
  where
    go : Keeps (took seq ack f x.session) x.after × RunsAfter m x.session.cache x.after.cache → TakesOne m x.session (session_put x.since x.put x.after)
    go k = record {
      number = k.0.number;
      epoch = k.0.epoch;
      n = k.0.n ∙ ap (λ (g : Front). g.n) same;
      w = k.0.w ∙ ap (λ (g : Front). g.w) same;
      taken = k.0.taken;
      runs = k.1;
    }

-- lanes

-- the lane that an end is told of, by its place
pub own_lane : (z : Site) (p : Place) (f : Lane → Lane) (s : ℕ) → s ≡ p.session → (at_told (Some p) f z).lane_at s p.order ≡ f (z.lane_at s p.order)
own_lane z p f s its = ap (λ (b : Bool). if b then f (z.lane_at s p.order) else z.lane_at s p.order) (ap (λ (b : Bool). b && p.order == p.order) (eq-eqb s p.session its) ∙ eq-eqb p.order p.order refl)

-- another session's isn't it
other_lane : (z : Site) (told : Option Place) (f : Lane → Lane) (s k : ℕ) → IfSome told (λ p. s ≢ p.session) → (at_told told f z).lane_at s k ≡ z.lane_at s k
other_lane z None f s k apart = refl
other_lane z (Some p) f s k apart = ap (λ (b : Bool). if b && k == p.order then f (z.lane_at s k) else z.lane_at s k) (ne_eqb s p.session apart)

-- of an end whose session is another one as much was taken as before
pub taken_beside : (x z : Site) (told : Option Place) (f : Lane → Lane) (p : Option Place) (o : Option Session) → z.lane_at ≡ x.lane_at
    → IfSome o (λ s. IfSome told (λ q. s.number ≢ q.session)) → TakenAt x (at_told told f z) p o
taken_beside x z told f p None same apart = tt
taken_beside x z told f None (Some s) same apart = tt
taken_beside x z told f (Some q) (Some s) same apart =
    subst (λ (a : Lane). SameTaken (x.lane_at s.number q.order) a) (sym (other_lane z told f s.number q.order apart ∙ ap (λ (g : ℕ → ℕ → Lane). g s.number q.order) same))
    (same_taken (x.lane_at s.number q.order))

-- One message more was taken.
pub own_takes : (v u : Server) (x z : Site) (told : Option Place) (app : ℕ) (m : Down) (mo : Option Down) (n sent stays : ℕ) (frames : List UpFrame) (s t : Session) (rest : List Down)
    (shown y : Shown) → ((k : ℕ) → k ≤ current v → IsFront (order_at v k) (order_at u k)) → z.lane_at ≡ x.lane_at → (p : Place) → told ≡ Some p → p.session ≡ s.number
    → p.order ≤ current v → s.window.taken ≡ (x.lane_at s.number p.order).down_taken
    → drop (x.lane_at s.number p.order).down_taken (x.lane_at s.number p.order).down ≡ m ∷ rest → IsHeader (order_at v p.order) stays s.number (front_of m)
    → TakesOne m s t → ShowsMessage m (shown_front t) shown y → FrontWith v x told (Some s) → ShownWith x told shown (Some s)
    → FrontWith u (at_told told (with_app_step false mo n sent (Some t) frames) z) told (Some t)
    × ShownWith (at_told told (with_app_step false mo n sent (Some t) frames) z) told y (Some t)
own_takes v u x z told app m mo n sent stays frames s t rest shown y on same p its its_session low window next header takes shows front was =
    subst (λ (o : Option Place). FrontWith u (at_told o (with_app_step false mo n sent (Some t) frames) z) o (Some t)
    × ShownWith (at_told o (with_app_step false mo n sent (Some t) frames) z) o y (Some t)) (sym its) (
      subst (λ (i : ℕ). FrontIs (order_at u p.order) (after.lane_at i p.order) i t.n t.w t.cache) (sym takes.number)
          (subst (λ (a : Lane). FrontIs (order_at u p.order) a s.number t.n t.w t.cache) (sym lane) own),
      subst (λ (i : ℕ). ShownIs (after.lane_at i p.order) t y) (sym takes.number) (subst (λ (a : Lane). ShownIs a t y) (sym lane)
          (shown_takes s t before b m shown y s.cache t.cache more takes.runs shows (subst (λ (o : Option Place). ShownWith x o shown (Some s)) its was))),
    )
  where
    after : Site
    after = at_told (Some p) (with_app_step false mo n sent (Some t) frames) z

    before : Lane
    before = x.lane_at s.number p.order

    b : Lane
    b = with_app_step false mo n sent (Some t) frames before

    lane : after.lane_at s.number p.order ≡ b
    lane =
        own_lane z p (with_app_step false mo n sent (Some t) frames) s.number (sym its_session)
        ∙ ap (λ (g : ℕ → ℕ → Lane). with_app_step false mo n sent (Some t) frames (g s.number p.order)) same

    more : downs_taken b ≡ downs_taken before ++ m ∷ []
    more = ap (λ (k : ℕ). take k before.down) (takes.taken ∙ ap (λ (k : ℕ). k + 1) window) ∙ take_more before.down_taken before.down m rest next

    own : FrontIs (order_at u p.order) b s.number t.n t.w t.cache
    own =
        subst (λ (k : ℕ). FrontIs (order_at u p.order) b s.number k t.w t.cache) (sym takes.n)
        (subst (λ (k : ℕ). FrontIs (order_at u p.order) b s.number (front_of m).n k t.cache) (sym takes.w)
        (front_later (order_at v p.order) (order_at u p.order) b b s.number (front_of m).n (front_of m).w t.cache (on p.order low) (same_taken b)
        (front_takes (order_at v p.order) stays s.number s.n s.w before b m s.cache t.cache more header takes.runs
        (subst (λ (o : Option Place). FrontWith v x o (Some s)) its front))))

abbrev nothing_put : List Down
nothing_put = []

none_taken : (k : ℕ) → take k nothing_put ≡ []
none_taken zero = refl
none_taken (suc k) = refl

-- A lane begins.
pub own_begins : (v u : Server) (x z : Site) (mo : Option Down) (n sent : ℕ) (frames : List UpFrame) (front : Front) (t : Session) (y : Shown) (stays : ℕ) (p : Place)
    → ((k : ℕ) → k ≤ current v → IsFront (order_at v k) (order_at u k)) → z.lane_at ≡ x.lane_at → p.order ≤ current v → t.number ≡ p.session
    → (x.lane_at p.session p.order).down ≡ [] → IsHeader (order_at v p.order) stays p.session front → t.n ≡ front.n → t.w ≡ front.w → t.cache ≡ [] → y.runs ≡ []
    → (with_app_step true mo n sent (Some t) frames (x.lane_at p.session p.order)).front ≡ front
    → FrontWith u (at_told (Some p) (with_app_step true mo n sent (Some t) frames) z) (Some p) (Some t)
    × ShownWith (at_told (Some p) (with_app_step true mo n sent (Some t) frames) z) (Some p) y (Some t)
own_begins v u x z mo n sent frames front t y stays p on same low number empty header tn tw cache runs begins = (
  subst (λ (i : ℕ). FrontIs (order_at u p.order) (after.lane_at i p.order) i t.n t.w t.cache) (sym number)
      (subst (λ (a : Lane). FrontIs (order_at u p.order) a p.session t.n t.w t.cache) (sym lane)
      (front_later (order_at v p.order) (order_at u p.order) b b p.session t.n t.w t.cache (on p.order low) (same_taken b) (record {
        at = tn ∙ ap (λ (f : Front). f.n) (sym last);
        with_count = tw ∙ ap (λ (f : Front). f.w) (sym last);
        within = omega (arith, tn, header.within);
        counted = tw ∙ header.counted ∙ ap (λ (k : ℕ). count (take k (order_at v p.order)) p.session) (sym tn);
        runs = subst (λ (xs : List Run). AllByRecursion (λ run. Stands run (downs_taken b)) xs) (sym cache) tt;
      }))),
  record {
    runs = subst (λ (xs : List Run). AllByRecursion (λ run. Stands run (downs_taken (after.lane_at t.number p.order))) xs) (sym runs) tt;
    front = λ some. absurd (some runs);
  },
)
  where
    after : Site
    after = at_told (Some p) (with_app_step true mo n sent (Some t) frames) z

    b : Lane
    b = with_app_step true mo n sent (Some t) frames (x.lane_at p.session p.order)

    lane : after.lane_at p.session p.order ≡ b
    lane =
        own_lane z p (with_app_step true mo n sent (Some t) frames) p.session refl
        ∙ ap (λ (g : ℕ → ℕ → Lane). with_app_step true mo n sent (Some t) frames (g p.session p.order)) same

    last : last_front b.front (downs_taken b) ≡ front
    last = ap (λ (ms : List Down). last_front b.front (take b.down_taken ms)) empty ∙ ap (last_front b.front) (none_taken b.down_taken) ∙ begins
