-- While an end asks nothing comes upwards on the connection of its session, where the end's connection carries the session's messages in
-- the order that runs: that is the one, and the first frame on it was taken.
use Rattle.std.proofs.Common.{◌≡◌, ◌≤◌, ℕ, zero, suc, Bool, true, false, List, [], ◌∷◌, drop, Option, Some, None, is_some, refl, sym, ◌∙◌, ap, subst, arith}
use Rattle.std.specs.Prelude.{IsSomeAnd, nat_lt}
use Rattle.std.proofs.lemmas.Bool.{false≢true, ltb-true}
use Rattle.std.proofs.Math.Seq.{drop-nil}
use Rattle.plain_orders.specs.declared.entry.Entry.{Entry}
use Rattle.plain_orders.specs.Sessions.{app_in}
use Rattle.plain_runs.specs.Plain.{Server, order_at}
use Rattle.ecp_messages.specs.declared.up.UpFrame.{UpFrame}
use Rattle.data_rules.specs.declared.data_in.DataIn.{DataIn}
use Rattle.data_rules.specs.declared.data_in.DataIn.TheVariants as data_in
use Rattle.data_rules.specs.declared.rows.Role.TheVariants.{Bound}
use Rattle.data_rules.specs.DataState.{DataState}
use Rattle.data_rules.specs.Conns.{role_of}
use Rattle.app_rules.specs.declared.line.Line.{Line}
use Rattle.app_rules.specs.declared.line.Line.TheVariants.{Asking}
use Rattle.cluster_runs.specs.CoresState.{Linked}
use Rattle.cluster_runs.specs.Connections.{knows, link_of}
use Rattle.cluster_runs.specs.Machine.{Site}
use Rattle.cluster_runs.specs.Sent.{Connection, FirstTaken}
use Rattle.cluster_invariant.specs.Dials.{BoundIs, CarriesOf, ConnectionIs, IsNewest, KnowsStill, PairDials, RoleIs, is_made}
use Rattle.cluster_invariant.specs.Words.{ups_left}
use Rattle.cluster_invariant.proofs.Small.{of_some}
use Rattle.link_kept.proofs.FramesFit.{FrameAt, NextIs}

-- a list of one of which one was taken
none_left : (k : ℕ) (us : List UpFrame) → nat_lt 0 k ≡ true → drop 1 us ≡ [] → drop k us ≡ []
none_left zero us some none = absurd (false≢true some)
none_left (suc k) [] some none = refl
none_left (suc k) (u ∷ us) some none = ap (drop k) none ∙ drop-nil k

made_low : (dial number : ℕ) → is_made dial number ≡ true → number ≤ dial
made_low dial zero is = omega arith
made_low dial (suc number) is = omega (arith, ltb-true number dial is)

module _ (v : Server) (x : Site) (dead : Bool) (deads : ℕ → Bool) (node : DataState) (input : DataIn) (order : order_at v x.past ≡ node.order) (frames : FrameAt x deads node input)
    (a : ℕ) (pair : PairDials v x dead a (x.end_at a)) (line : (x.end_at a).state.line ≡ Asking)
    (c : Connection) (it : (x.end_at a).connection_at (x.end_at a).state.dial ≡ Some c) (s : ℕ) (its : c.its ≡ Some (record { session = s; order = x.past }))
    (carries : CarriesOf v a c.first (record { session = s; order = x.past })) where
  abbrev dial : ℕ
  dial = (x.end_at a).state.dial

  is : ConnectionIs v x a dial c
  is = of_some (ConnectionIs v x a dial) ((x.end_at a).connection_at dial) c it (pair.each dial)

  -- nothing is on its way upwards on it
  nothing_comes : ups_left c ≡ []
  nothing_comes = none_left c.ups_taken c.ups (sym is.linked ∙ sym is.taken ∙ taken c.first carries.order) alone
    where
      taken : (o : Option FirstTaken) → IsSomeAnd o (λ f. f.order ≡ x.past) → is_some o ≡ true
      taken None none = absurd none
      taken (Some f) some = refl

      still : KnowsStill Asking (knows (x.end_at a)) (Some c)
      still =
          subst (λ (o : Option Connection). KnowsStill Asking (knows (x.end_at a)) o) it
          (subst (λ (z : Line). KnowsStill z (knows (x.end_at a)) ((x.end_at a).connection_at dial)) line pair.still)

      alone : drop 1 c.ups ≡ []
      alone = still.1

  some_app : (i j : ℕ) → Some i ≡ Some j → i ≡ j
  some_app i j same = cc

  -- a live session's connection is this one
  module _ (conn : ℕ) (role : role_of node conn ≡ Some (Bound s)) where
    bound : BoundIs x node conn s
    bound = of_some (RoleIs x node conn) (role_of node conn) (Bound s) role (frames.dials.roles conn)

    app_same : bound.app ≡ a
    app_same = some_app bound.app a (sym bound.opened ∙ ap (λ (es : List Entry). app_in es s) (sym order) ∙ carries.opened)

    newest : IsNewest (x.end_at bound.app) s x.past bound.linked.dial
    newest =
        of_some (λ (l : Linked). IsNewest (x.end_at bound.app) s x.past l.dial) (link_of x conn) (record { app = bound.app; dial = bound.linked.dial }) bound.linked.link bound.newest

    no_later : dial ≤ bound.linked.dial
    no_later =
        of_some (λ (z : Connection). z.its ≡ Some (record { session = s; order = x.past }) → dial ≤ bound.linked.dial) ((x.end_at a).connection_at dial) c it
        (subst (λ (i : ℕ). IsNewest (x.end_at i) s x.past bound.linked.dial) app_same newest dial) its

    no_sooner : bound.linked.dial ≤ dial
    no_sooner = made_low dial bound.linked.dial (sym (pair.made bound.linked.dial) ∙ there ((x.end_at a).connection_at bound.linked.dial) first)
      where
        first : IsSomeAnd ((x.end_at a).connection_at bound.linked.dial) (λ z. z.first ≡ Some (record { order = x.past; conn = conn }))
        first =
            subst (λ (i : ℕ). IsSomeAnd ((x.end_at i).connection_at bound.linked.dial) (λ z. z.first ≡ Some (record { order = x.past; conn = conn }))) app_same bound.linked.first

        there : (o : Option Connection) → IsSomeAnd o (λ z. z.first ≡ Some (record { order = x.past; conn = conn })) → is_some o ≡ true
        there None none = absurd none
        there (Some z) some = refl

    dial_same : bound.linked.dial ≡ dial
    dial_same = omega (arith, no_later, no_sooner)

    pub no_frame : (f : UpFrame) → input ≡ data_in.Frame conn f → ⊥
    no_frame f came = by (frames.next conn f (record { app = bound.app; dial = bound.linked.dial }) came bound.linked.link)
      where
        one : (e d : Connection) → Some e ≡ Some d → e ≡ d
        one e d same = cc

        here : (x.end_at bound.app).connection_at bound.linked.dial ≡ Some c
        here = ap (λ (i : ℕ). (x.end_at i).connection_at bound.linked.dial) app_same ∙ ap (λ (i : ℕ). (x.end_at a).connection_at i) dial_same ∙ it

        by : NextIs x (record { app = bound.app; dial = bound.linked.dial }) f → ⊥
        by next = some_left (ups_left c) (ap (λ (z : Connection). ups_left z) (sym (one next.on c (sym next.there ∙ here))) ∙ next.left) nothing_comes
          where
            some_left : (fs : List UpFrame) → fs ≡ f ∷ next.rest → fs ≡ [] → ⊥
            some_left fs some none = cc
