-- A frame on the connection of a Hello that waits ends it; and no first frame comes on a connection that is linked.
use Rattle.std.proofs.Common.{◌≡◌, ◌≢◌, ◌<◌, ℕ, zero, suc, Bool, true, not, List, [], ◌∷◌, drop, filter, Option, Some, None, is_some, refl, sym, ◌∙◌, ap, subst}
use Rattle.std.specs.Prelude.{IsSomeAnd, nat_lt}
use Rattle.std.specs.List.{AllByRecursion, list_all, list_any}
use Rattle.std.proofs.lemmas.Bool.{eq-eqb, false≢true, true≢false, and_parts}
use Rattle.plain_orders.specs.declared.layout.Layout.{Layout}
use Rattle.plain_runs.specs.Plain.{Plain, Server}
use Rattle.ecp_messages.specs.declared.up.UpFrame.{UpFrame}
use Rattle.data_rules.specs.DataState.{DataState}
use Rattle.data_rules.specs.declared.data_in.DataIn.{DataIn}
use Rattle.data_rules.specs.declared.data_in.DataIn.TheVariants as data_in
use Rattle.data_rules.specs.declared.data_outs.DataOuts.{DataOuts}
use Rattle.data_rules.specs.declared.limits.TheConstants.{APP_LIMIT}
use Rattle.data_rules.specs.declared.rows.Caller.{Caller}
use Rattle.data_rules.specs.declared.rows.Kind.TheVariants.{Opening}
use Rattle.data_rules.specs.declared.rows.Role.{Role}
use Rattle.data_rules.specs.declared.rows.Role.TheVariants.{Bound, Closing, New, Waiting}
use Rattle.data_rules.specs.Conns.{is_other_caller, loses_conn, role_of, without_conn}
use Rattle.data_rules.specs.Frames.{Ends, TakesFrame, kind_of, settled}
use Rattle.data_rules.specs.Leaving.{flushed}
use Rattle.data_rules.specs.Opening.{all_apps, rounds}
use Rattle.data_rules.specs.Puts.{Sofar, becomes, begun, cuts}
use Rattle.data_rules.specs.Step.{DataStep, FrameStep, made}
use Rattle.cluster_runs.specs.CoresState.{Linked}
use Rattle.cluster_runs.specs.Connections.{link_of}
use Rattle.cluster_runs.specs.Machine.{Site}
use Rattle.cluster_runs.specs.Sent.{Connection, FirstTaken}
use Rattle.cluster_invariant.specs.Dials.{ConnectionIs, DialsAre, IsLinkedBy, follows, is_following}
use Rattle.cluster_invariant.specs.Ends.{NodeEnds}
use Rattle.cluster_invariant.specs.Words.{is_same}
use Rattle.cluster_invariant.proofs.PieceMay.{RoundWas}
use Rattle.cluster_invariant.proofs.RoundBefore.{round_same}
use Rattle.cluster_invariant.proofs.AllLists.{all_follow, all_passed}
use Rattle.cluster_invariant.proofs.Pieces.{kept_by_pieces}
use Rattle.cluster_invariant.proofs.Small.{of_some}
use Rattle.link_kept.proofs.FramesFit.{NextIs}
use Rattle.data_pieces.proofs.ConnLists.{role_at}
use Rattle.data_pieces.proofs.EndsAlong.{ends_piece}
use Rattle.data_pieces.proofs.EndsBegin.{NodeHas, ends_begin}
use Rattle.data_pieces.proofs.EndsGo.{EndsGo}
use Rattle.data_pieces.proofs.EndsPieces.{ConnsHold, forgets_go}
use Rattle.data_pieces.proofs.PlainView.{view}
use Rattle.data_puts.proofs.StepAwaits.{BaredOnly, bared_only, settled_pieces, tick_of}

-- a frame behind the first is no first one

all_drop : (n : ℕ) (fs : List UpFrame) → list_all is_following fs ≡ true → list_all is_following (drop n fs) ≡ true
all_drop zero fs all = all
all_drop (suc n) [] all = all
all_drop (suc n) (f ∷ fs) all = all_drop n fs (and_parts (is_following f) (list_all is_following fs) all).1

pub opening_unlinked : (v : Server) (x : Site) (dead : ℕ → Bool) → DialsAre v x dead → (conn : ℕ) (f : UpFrame) → kind_of f.message ≡ Opening → ((l : Linked) → link_of x conn ≡ Some l → NextIs x l f) → link_of x conn ≡ None
opening_unlinked v x dead dials conn f kind next = go (link_of x conn) refl
  where
    some_first : (o : Option Connection) (c : Connection) → o ≡ Some c → IsSomeAnd o (λ k. IsSomeAnd k.first (λ g. g.conn ≡ conn)) → is_some c.first ≡ true
    some_first None c at h = absurd h
    some_first (Some k) c at h = ap (λ (y : Connection). is_some y.first) (sym same) ∙ of_first k.first h
      where
        same : k ≡ c
        same = cc

        of_first : (o : Option FirstTaken) → IsSomeAnd o (λ g. g.conn ≡ conn) → is_some o ≡ true
        of_first None none = absurd none
        of_first (Some g) is = refl

    follows_it : (n : ℕ) (fs rest : List UpFrame) → nat_lt 0 n ≡ true → list_all is_following (drop 1 fs) ≡ true → drop n fs ≡ f ∷ rest → is_following f ≡ true
    follows_it zero fs rest taken all is = absurd (false≢true taken)
    follows_it (suc n) [] rest taken all is = absurd (cc (is))
    follows_it (suc n) (g ∷ fs) rest taken all is = (and_parts (is_following f) (list_all is_following rest) (subst (λ (xs : List UpFrame). list_all is_following xs ≡ true) is (all_drop n fs all))).0

    linked : (l : Linked) → link_of x conn ≡ Some l → ⊥
    linked l is = by (next l is)
      where
        by : NextIs x l f → ⊥
        by at = true≢false (sym (follows_it at.on.ups_taken at.on.ups at.rest (sym its.linked ∙ sym its.taken ∙ some_first ((x.end_at l.app).connection_at l.dial) at.on at.there (of_some (IsLinkedBy x conn) (link_of x conn) l is (dials.links conn))) its.behind at.left)
            ∙ ap (λ k. follows k f.seq) kind)
          where
            its : ConnectionIs v x l.app l.dial at.on
            its = of_some (ConnectionIs v x l.app l.dial) ((x.end_at l.app).connection_at l.dial) at.on at.there ((dials.pairs l.app).each l.dial)

    go : (o : Option Linked) → link_of x conn ≡ o → link_of x conn ≡ None
    go None is = is
    go (Some l) is = absurd (linked l is)

-- no Hello is left on a connection that ends

other_conn : (conn : ℕ) (c : Caller) → is_other_caller conn c ≡ true → c.conn ≢ conn
other_conn conn c is same = true≢false (sym is ∙ ap not (eq-eqb c.conn conn same))

-- another connection
abbrev Elsewhere : ℕ → Caller → Type 0
Elsewhere conn c = c.conn ≢ conn

module _ (l : Layout) (p : Plain) (d k : ℕ) (x : Site) (old : DataState) (now conn : ℕ) (has : NodeHas d (p.server_at d) old) (ends : NodeEnds (p.server_at d) x old) (hold : ConnsHold old)
    (waits : role_of old conn ≡ Some Waiting) where
  abbrev Goes : (Caller → Type 0) → Sofar → Type 0
  Goes W b = EndsGo (tick_of old now) W d (view l p d k b.outs.acts) b.state

  any_caller : (cs : List Caller) → AllByRecursion (λ c. Unit {0}) cs
  any_caller [] = tt
  any_caller (c ∷ cs) = (tt, any_caller cs)

  gone : Goes (λ c. Unit {0}) (becomes (without_conn conn) (begun old))
  gone =
      forgets_go l p d k (tick_of old now) (λ c. Unit {0}) hold conn (begun old)
      (λ s bound. absurd (let both : Some Waiting ≡ Some (Bound s) = sym waits ∙ bound in cc))
      (ends_begin l p d k (λ c. Unit {0}) x old now data_in.Tick has ends (any_caller old.callers))

  elsewhere : Goes (Elsewhere conn) (becomes (without_conn conn) (begun old))
  elsewhere = record {
    links = gone.links;
    callers = gone.callers;
    on = gone.on;
    grown = gone.grown;
    whence = all_follow (λ c. is_other_caller conn c ≡ true) (Elsewhere conn) (λ c is. other_conn conn c is) (filter (is_other_caller conn) old.callers) (all_passed (is_other_caller conn) old.callers);
  }

  after_end : (taken : Sofar) → Ends (begun old) conn now taken → Goes (Elsewhere conn) taken
  after_end taken ended =
      subst (Goes (Elsewhere conn)) (sym ended.after)
      (subst (λ (r : Option Role). Goes (Elsewhere conn) (cuts conn (loses_conn r now (becomes (without_conn conn) (begun old))))) (sym waits) elsewhere)

  round_was : (taken : Sofar) → Ends (begun old) conn now taken → RoundWas (tick_of old now) taken.state
  round_was taken ended =
      subst (λ (y : Sofar). RoundWas (tick_of old now) y.state) (sym ended.after)
      (subst (λ (r : Option Role). RoundWas (tick_of old now) (cuts conn (loses_conn r now (becomes (without_conn conn) (begun old)))).state) (sym waits)
      (round_same (tick_of old now) (without_conn conn old) refl refl))

  tick_no : (c : ℕ) (f : UpFrame) → data_in.Tick ≡ data_in.Frame c f → ⊥
  tick_no c f is = cc

  pub waiting_gone : ((app : ℕ) → app < APP_LIMIT → list_any (is_same app) all_apps ≡ true) → (f : UpFrame) (outs : DataOuts) (new : DataState) → FrameStep (begun old) now conn f (made new outs)
      → AllByRecursion (Elsewhere conn) new.callers
  waiting_gone all f outs new steps =
      subst (λ (y : Sofar). AllByRecursion (Elsewhere conn) y.state.callers) (sym steps.after)
      (bares (bared_only (role_of (flushed (rounds now steps.taken)).state conn) (flushed (rounds now steps.taken))))
    where
      ended : Ends (begun old) conn now steps.taken
      ended = subst (λ (r : Option Role). TakesFrame r (begun old) conn now f steps.taken) waits steps.takes

      bares : BaredOnly (flushed (rounds now steps.taken)) (settled conn now steps.taken) → AllByRecursion (Elsewhere conn) (settled conn now steps.taken).state.callers
      bares only =
          subst (AllByRecursion (Elsewhere conn)) (sym only.callers)
          (kept_by_pieces (tick_of old now) (Goes (Elsewhere conn))
          (λ q b may h. ends_piece l p d k (tick_of old now) (Elsewhere conn) hold all (λ app c e m. absurd (tick_no c m.came.up m.came.its)) q b may h) steps.taken
          (flushed (rounds now steps.taken)) (settled_pieces (tick_of old now) steps.taken (round_was steps.taken ended)) (after_end steps.taken ended)).whence

-- what holds of any
any_of : (P : Caller → Type 0) → ((w : Caller) → P w) → (ws : List Caller) → AllByRecursion P ws
any_of P all [] = tt
any_of P all (w ∷ ws) = (all w, any_of P all ws)

-- so a Hello that waits after a step is of another connection than the frame that came
abbrev pub AwayFrom : DataState → DataIn → Caller → Type 0
AwayFrom old i w = role_at w.conn old.conns ≡ Some Waiting → (f : UpFrame) → i ≡ data_in.Frame w.conn f → ⊥

pub away : (l : Layout) (p : Plain) (d k : ℕ) (x : Site) (old : DataState) (now : ℕ) → NodeHas d (p.server_at d) old → NodeEnds (p.server_at d) x old → ConnsHold old
    → ((app : ℕ) → app < APP_LIMIT → list_any (is_same app) all_apps ≡ true) → (i : DataIn) (outs : DataOuts) (new : DataState) → DataStep old now i outs new
    → AllByRecursion (AwayFrom old i) new.callers
away l p d k x old now has ends hold all (data_in.Frame conn f) outs new steps = by (role_of old conn) refl
  where
    same : (n : ℕ) (g : UpFrame) → data_in.Frame conn f ≡ data_in.Frame n g → n ≡ conn
    same n g is = cc

    others : (r : Option Role) → role_of old conn ≡ r → (r ≡ Some Waiting → ⊥) → AllByRecursion (AwayFrom old (data_in.Frame conn f)) new.callers
    others r role apart =
        any_of (AwayFrom old (data_in.Frame conn f)) (λ w at g is. apart (sym role ∙ ap (λ (n : ℕ). role_at n old.conns) (sym (same w.conn g is)) ∙ at)) new.callers

    by : (r : Option Role) → role_of old conn ≡ r → AllByRecursion (AwayFrom old (data_in.Frame conn f)) new.callers
    by None role = others None role (λ is. absurd cc)
    by (Some New) role = others (Some New) role (λ is. absurd cc)
    by (Some Waiting) waits =
        all_follow (Elsewhere conn) (AwayFrom old (data_in.Frame conn f)) (λ w differs at g is. differs (same w.conn g is)) new.callers
        (waiting_gone l p d k x old now conn has ends hold waits all f outs new steps)
    by (Some (Bound s)) role = others (Some (Bound s)) role (λ is. absurd cc)
    by (Some (Closing s)) role = others (Some (Closing s)) role (λ is. absurd cc)
away l p d k x old now has ends hold all (data_in.Connected conn) outs new steps = any_of (AwayFrom old (data_in.Connected conn)) (λ w at f is. absurd cc) new.callers
away l p d k x old now has ends hold all (data_in.Broken conn) outs new steps = any_of (AwayFrom old (data_in.Broken conn)) (λ w at f is. absurd cc) new.callers
away l p d k x old now has ends hold all data_in.Tick outs new steps = any_of (AwayFrom old data_in.Tick) (λ w at f is. absurd cc) new.callers
away l p d k x old now has ends hold all (data_in.Saved upto) outs new steps = any_of (AwayFrom old (data_in.Saved upto)) (λ w at f is. absurd cc) new.callers
