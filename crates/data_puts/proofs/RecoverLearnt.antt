-- A Recover in an older epoch, on a dial that is no older than those before, is of a session that didn't learn of the order.
use Rattle.std.proofs.Common.{◌≡◌, ◌≢◌, ◌<◌, ◌≤◌, ◌⊎◌, inl, inr, ◌==◌, ℕ, Bool, true, false, List, [], ◌∷◌, drop, Option, Some, None, is_some, option_map, refl, sym, ◌∙◌, ap, subst, arith, if◌then◌else◌}
use Rattle.std.specs.Prelude.{IsSomeAnd, nat_lt}
use Rattle.std.proofs.lemmas.Bool.{eq-eqb, eqb-true, false≢true, ltb-false, ltb-true, true≢false}
use Rattle.plain_orders.specs.declared.entry.Entry.{Entry}
use Rattle.plain_orders.specs.Entries.{last_epoch}
use Rattle.plain_orders.specs.Sessions.{app_in}
use Rattle.plain_runs.specs.Plain.{Server, current, order_at}
use Rattle.ecp_messages.specs.declared.up.Up.TheVariants.{Recover}
use Rattle.ecp_messages.specs.declared.up.UpFrame.{UpFrame}
use Rattle.data_rules.specs.DataState.{DataState}
use Rattle.data_rules.specs.declared.data_in.DataIn.TheVariants as data_in
use Rattle.data_rules.specs.declared.limits.TheConstants.{APP_LIMIT}
use Rattle.data_rules.specs.Callers.{dial_of}
use Rattle.cluster_runs.specs.CoresState.{Accepted, CoresState, Dial, Linked}
use Rattle.cluster_runs.specs.Connections.{dial_of as dial_in, link_in, link_of}
use Rattle.cluster_runs.specs.declared.moves.Move.TheVariants.{Server as ServerMove}
use Rattle.cluster_runs.specs.Machine.{DataConnection, Machine, Site}
use Rattle.cluster_runs.specs.Mirrors.{Mirrors, accepted_of}
use Rattle.cluster_runs.specs.Moves.{Allowed, FirstMay, LinkedMay, TakenMay, dial_of as dial_named, first_of, is_unlinked, named_dial, next_up}
use Rattle.cluster_runs.specs.Sent.{Connection, FirstTaken, Knew, Mark}
use Rattle.cluster_invariant.specs.Dials.{ConnectionIs, DialsAre, LearntBy, LearntOn, NodeDials, as_it_learns, first_frame, first_message, is_connection_in, is_taken_in}
use Rattle.cluster_invariant.specs.Words.{MarkNoLess, NoLess, ups_left}
use Rattle.cluster_invariant.proofs.Small.{of_some}
use Rattle.cluster_invariant.proofs.PastOrders.{order_now}

-- the first frame on a connection

-- the first frame of a connection to which no data connection is linked
pub record FirstCame (x : Site) (l : Linked) (f : UpFrame) : Type 0 where
  pub on : Connection
  pub there : (x.end_at l.app).connection_at l.dial ≡ Some on
  pub unlinked : on.linked ≡ false
  pub rest : List UpFrame
  pub left : ups_left on ≡ f ∷ rest

first_is : (fs : List UpFrame) (f : UpFrame) → first_of fs ≡ Some f → (rest : List UpFrame) × (fs ≡ f ∷ rest)
first_is [] f is = absurd cc
first_is (g ∷ fs) f is = (fs, ap (λ (h : UpFrame). h ∷ fs) (some_same g f is))
  where
    some_same : (a b : UpFrame) → Some a ≡ Some b → a ≡ b
    some_same a b same = cc

came_on : (x : Site) (server : ℕ) (l : Linked) (f : UpFrame) (o : Option Connection) → (x.end_at l.app).connection_at l.dial ≡ o → is_unlinked (option_map (dial_in l.app server l.dial) o) ≡ true
    → next_up (option_map (dial_in l.app server l.dial) o) ≡ Some f → FirstCame x l f
came_on x server l f None there unlinked is = absurd cc
came_on x server l f (Some c) there unlinked is = go c.data_left (c.linked) refl unlinked is
  where
    go : (b d : Bool) → c.linked ≡ d → (if d then false else true) ≡ true → first_of (if b then [] else drop c.ups_taken c.ups) ≡ Some f → FirstCame x l f
    go b true at none some = absurd (false≢true none)
    go true false at none some = absurd cc
    go false false at none some =
        let next : (rest : List UpFrame) × (ups_left c ≡ f ∷ rest) = first_is (ups_left c) f some in
        record { on = c; there = there; unlinked = at; rest = next.0; left = next.1 }

pub first_came : (c : CoresState) (m : Machine) (server now conn : ℕ) (f : UpFrame) (l : Linked) → Mirrors c m → Allowed c (ServerMove server now (data_in.Frame conn f))
    → link_of (m.site_at server) conn ≡ None → named_dial f.message ≡ Some l → FirstCame (m.site_at server) l f
first_came c m server now conn f l shows allowed none named =
    taken ((m.site_at server).connection_at conn) none (subst (λ (o : Option Accepted). TakenMay o c server f) (shows.accepted server conn) allowed.takes)
  where
    first : FirstMay c server f → FirstCame (m.site_at server) l f
    first may =
        came_on (m.site_at server) server l f (((m.site_at server).end_at l.app).connection_at l.dial) refl
        (ap is_unlinked (sym same) ∙ may.unlinked) (ap (λ (o : Option Dial). next_up o) (sym same) ∙ may.first)
      where
        same : dial_named c server (named_dial f.message) ≡ option_map (dial_in l.app server l.dial) (((m.site_at server).end_at l.app).connection_at l.dial)
        same = ap (dial_named c server) named ∙ shows.dials l.app server l.dial

    taken : (o : Option DataConnection) → link_in o ≡ None → TakenMay (option_map (accepted_of server conn) o) c server f → FirstCame (m.site_at server) l f
    taken None is may = absurd may
    taken (Some d) is may = first (subst (λ (o : Option Linked). LinkedMay o c server f) is may.1)

-- what is known of the connection

-- nothing was taken of it, and so the frame is the first one that was put
pub first_put : (v : Server) (x : Site) (l : Linked) (f : UpFrame) (came : FirstCame x l f) → ConnectionIs v x l.app l.dial came.on → (came.on.ups_taken ≡ 0) × (f ≡ first_frame v l.app l.dial came.on.knew)
first_put v x l f came h = (none, same f (first_frame v l.app l.dial came.on.knew) came.rest (drop 1 came.on.ups) (sym came.left ∙ ap (λ (n : ℕ). drop n came.on.ups) none ∙ h.first))
  where
    none : came.on.ups_taken ≡ 0
    none = omega (arith, ltb-false 0 came.on.ups_taken (sym h.linked ∙ came.unlinked))

    same : (a b : UpFrame) (xs ys : List UpFrame) → a ∷ xs ≡ b ∷ ys → a ≡ b
    same a b xs ys is = cc

-- what a Recover says was known
pub record SaysMark (v : Server) (k : Knew) (session epoch : ℕ) : Type 0 where
  pub mark : Mark
  pub its : k.mark ≡ Some mark
  pub session_is : k.session ≡ session
  pub epoch_is : epoch ≡ last_epoch (order_at v mark.order)

pub says_mark : (v : Server) (app dial : ℕ) (k : Knew) (session epoch taken to : ℕ) → (first_frame v app dial k).message ≡ Recover app session epoch taken to → SaysMark v k session epoch
says_mark v app dial k session epoch taken to says = go k.mark refl says
  where
    go : (o : Option Mark) → k.mark ≡ o → first_message v app dial k.session o ≡ Recover app session epoch taken to → SaysMark v k session epoch
    go None its is = absurd cc
    go (Some m) its is = record { mark = m; its = its; session_is = cc; epoch_is = cc }

module _ (v : Server) (x : Site) (dead : ℕ → Bool) (n : DataState) (dials : DialsAre v x dead) (node : NodeDials x n) (order : n.order ≡ v.order) (past : x.past ≡ current v)
    (app session epoch taken dial : ℕ) (f : UpFrame) (came : FirstCame x (record { app = app; dial = dial }) f) (says : f.message ≡ Recover app session epoch taken dial)
    (low : app < APP_LIMIT) (opened : (a : ℕ) → app_in n.order session ≡ Some a → a ≡ app) (older : epoch < last_epoch n.order) (later : dial_of n app ≤ dial) where
  now_order : order_at v x.past ≡ n.order
  now_order = ap (order_at v) past ∙ order_now v ∙ sym order

  its : ConnectionIs v x app dial came.on
  its = of_some (ConnectionIs v x app dial) ((x.end_at app).connection_at dial) came.on came.there ((dials.pairs app).each dial)

  mark : SaysMark v came.on.knew session epoch
  mark = says_mark v app dial came.on.knew session epoch taken dial (sym (ap (λ (g : UpFrame). g.message) (first_put v x (record { app = app; dial = dial }) f came its).1) ∙ says)

  -- the connection on which the session learnt of it
  learnt_on : (b : ℕ) → LearntOn v (x.end_at app) app session x.past b → ⊥
  learnt_on b on = go ((x.end_at app).connection_at b) refl on.carries
    where
      not_less : NoLess (as_it_learns session x.past) came.on.knew → ⊥
      not_less (inl less) = absurd (omega (arith, less, mark.session_is))
      not_less (inr same) = by (subst (MarkNoLess (Some (record { order = x.past; taken = 0 }))) mark.its same.1)
        where
          there : mark.mark.order ≤ current v
          there = (of_some _ came.on.knew.mark mark.mark mark.its its.known).there

          by : (x.past < mark.mark.order) ⊎ ((x.past ≡ mark.mark.order) × (0 ≤ mark.mark.taken)) → ⊥
          by (inl more) = absurd (omega (arith, more, there, past))
          by (inr at) = absurd (omega (arith, older, mark.epoch_is, ap (λ (k : ℕ). last_epoch (order_at v k)) (sym at.0), ap last_epoch now_order))

      go : (o : Option Connection) → (x.end_at app).connection_at b ≡ o → IsSomeAnd o (λ c. c.its ≡ Some (record { session = session; order = x.past })) → ⊥
      go None there carries = carries
      go (Some c) there carries = by (b == dial) refl
        where
          c_is : ConnectionIs v x app b c
          c_is = of_some (ConnectionIs v x app b) ((x.end_at app).connection_at b) c there ((dials.pairs app).each b)

          first_at : (o : Option FirstTaken) → IsSomeAnd o (λ g. g.order ≡ x.past) → (is_taken_in x.past o ≡ true) × (is_some o ≡ true)
          first_at None none = absurd none
          first_at (Some g) at = (eq-eqb g.order x.past at, refl)

          taken_first : (is_taken_in x.past c.first ≡ true) × (is_some c.first ≡ true)
          taken_first = first_at c.first (of_some _ c.its (record { session = session; order = x.past }) carries c_is.its).order

          known_dial : b ≤ dial_of n app
          known_dial = (node.dials app low).greatest b (ap (is_connection_in x.past) there ∙ taken_first.0)

          by : (t : Bool) → (b == dial) ≡ t → ⊥
          by true same =
              true≢false (sym taken_first.1 ∙ c_is.taken ∙ ap (λ (o : Connection). o.linked) (one c came.on (sym there ∙ ap (x.end_at app).connection_at (eqb-true b dial same) ∙ came.there)) ∙ came.unlinked)
            where
              one : (a d : Connection) → Some a ≡ Some d → a ≡ d
              one a d is = cc
          by false other = not_less (of_some _ ((x.end_at app).connection_at dial) came.on came.there (on.later dial (below other)))
            where
              below : (b == dial) ≡ false → b < dial
              below apart = less (λ same. false≢true (sym apart ∙ eq-eqb b dial same))
                where
                  less : b ≢ dial → b < dial
                  less differs = step (nat_lt b dial) refl
                    where
                      step : (t : Bool) → nat_lt b dial ≡ t → b < dial
                      step true is = ltb-true b dial is
                      step false is = absurd (differs (omega (arith, known_dial, later, ltb-false b dial is)))

  -- The session didn't learn of the order.
  pub recover_unlearnt : (x.lane_at session x.past).began ≡ None
  recover_unlearnt = go (x.lane_at session x.past).began (dials.learnt session x.past)
    where
      of_app : (b : ℕ) (a : Option ℕ) → app_in n.order session ≡ a → LearntBy v x session x.past (Some b) a → ⊥
      of_app b None is learnt = learnt
      of_app b (Some a) is learnt = learnt_on b (subst (λ (q : ℕ). LearntOn v (x.end_at q) q session x.past b) (opened a is) learnt)

      go : (o : Option ℕ) → LearntBy v x session x.past o (app_in (order_at v x.past) session) → o ≡ None
      go None learnt = refl
      go (Some b) learnt =
          absurd (of_app b (app_in n.order session) refl (subst (λ (a : Option ℕ). LearntBy v x session x.past (Some b) a) (ap (λ (es : List Entry). app_in es session) now_order) learnt))
