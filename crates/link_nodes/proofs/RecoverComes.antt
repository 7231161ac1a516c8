-- A Recover that comes is alone on its connection, which is linked then.
use Rattle.std.proofs.Common.{◌≡◌, ℕ, Bool, true, [], drop, Option, Some, None, is_some, option_map, refl, sym, ◌∙◌, ap, subst, arith, if◌then◌else◌}
use Rattle.std.specs.Prelude.{IfSome, IsSomeAnd}
use Rattle.std.proofs.lemmas.Bool.{eq-eqb, false≢true}
use Rattle.plain_runs.specs.Plain.{Server}
use Rattle.ecp_messages.specs.declared.up.Up.TheVariants.{Recover}
use Rattle.ecp_messages.specs.declared.up.UpFrame.{UpFrame}
use Rattle.data_rules.specs.declared.data_in.DataIn.TheVariants as data_in
use Rattle.cluster_runs.specs.CoresState.{Linked}
use Rattle.cluster_runs.specs.Connections.{at_conn, first_else, is_link, link_else, link_in, link_of, linked_if, up_taken}
use Rattle.cluster_runs.specs.Goes.{server_takes}
use Rattle.cluster_runs.specs.Machine.{DataConnection, Site}
use Rattle.cluster_runs.specs.Moves.{named_dial}
use Rattle.cluster_runs.specs.Sent.{Connection, FirstTaken, Place}
use Rattle.cluster_invariant.specs.Dials.{CarriesOf, DialsAre, KnewIs, LinkedTo}
use Rattle.data_ends_kept.proofs.HellosTaken.{FirstFrames, its_link, not_first, untaken}
use Rattle.data_puts.proofs.RecoverLearnt.{FirstCame, SaysMark, first_put, says_mark}

-- its first frame was taken, which says this, and nothing else is on it
pub record RecoverAlone (v : Server) (x : Site) (app session epoch : ℕ) (c : Connection) : Type 0 where
  pub mark : SaysMark v c.knew session epoch
  pub known : IfSome c.knew.mark (KnewIs v x app c.knew.session)
  pub one : drop 1 c.ups ≡ []
  pub taken : c.ups_taken ≡ 1
  pub silent : c.downs ≡ []
  pub its : c.its ≡ None

module _ (v : Server) (x : Site) (dead : ℕ → Bool) (dials : DialsAre v x dead) (conn app session epoch told dial : ℕ) (f : UpFrame) (says : f.message ≡ Recover app session epoch told dial)
    (there : is_some (x.connection_at conn) ≡ true) (none : link_of x conn ≡ None) (first : FirstFrames v x dead dials (data_in.Frame conn f)) where
  named : named_dial f.message ≡ Some (record { app = app; dial = dial })
  named = ap named_dial says

  came : FirstCame x (record { app = app; dial = dial }) f
  came = first conn f (record { app = app; dial = dial }) refl none named

  linked_now : link_of (server_takes (data_in.Frame conn f) x) conn ≡ Some (record { app = app; dial = dial })
  linked_now = ap (λ (b : Bool). link_in (if b then option_map (linked_if (named_dial f.message)) (x.connection_at conn) else x.connection_at conn)) (eq-eqb conn conn refl) ∙ go (x.connection_at conn) there none
    where
      go : (o : Option DataConnection) → is_some o ≡ true → link_in o ≡ None → link_in (option_map (linked_if (named_dial f.message)) o) ≡ Some (record { app = app; dial = dial })
      go None is link = absurd (false≢true is)
      go (Some c) is link = ap (λ (q : Option Linked). link_else q (named_dial f.message)) link ∙ named

  zero_taken : came.on.ups_taken ≡ 0
  zero_taken = (first_put v x (record { app = app; dial = dial }) f came (untaken v x dead dials (record { app = app; dial = dial }) f came)).0

  none_first : came.on.first ≡ None
  none_first = not_first v x dead dials (record { app = app; dial = dial }) f came

  carries_none : came.on.its ≡ None
  carries_none = go came.on.its (untaken v x dead dials (record { app = app; dial = dial }) f came).its
    where
      go : (o : Option Place) → IfSome o (CarriesOf v app came.on.first) → o ≡ None
      go None h = refl
      go (Some q) h = absurd (subst (λ (g : Option FirstTaken). IsSomeAnd g (λ y. y.order ≡ q.order)) none_first h.order)

  taken_alone : RecoverAlone v x app session epoch (up_taken x.past conn came.on)
  taken_alone = record {
    mark =
        says_mark v app dial came.on.knew session epoch told dial
        (sym (ap (λ (g : UpFrame). g.message) (first_put v x (record { app = app; dial = dial }) f came (untaken v x dead dials (record { app = app; dial = dial }) f came)).1) ∙ says);
    known = (untaken v x dead dials (record { app = app; dial = dial }) f came).known;
    one = (untaken v x dead dials (record { app = app; dial = dial }) f came).alone zero_taken;
    taken = omega (arith, zero_taken);
    silent = (untaken v x dead dials (record { app = app; dial = dial }) f came).silent zero_taken;
    its = carries_none;
  }

  at_dial : ((server_takes (data_in.Frame conn f) x).end_at app).connection_at dial ≡ Some (up_taken x.past conn came.on)
  at_dial =
      ap (option_map (λ (k : Connection). if is_link app dial (link_of (at_conn conn (linked_if (named_dial f.message)) x) conn) then up_taken x.past conn k else k)) came.there
      ∙ ap (λ (o : Option Linked). Some (if is_link app dial o then up_taken x.past conn came.on else came.on)) linked_now
      ∙ ap (λ (b : Bool). Some (if b then up_taken x.past conn came.on else came.on)) (its_link app dial)

  -- Its connection after the input.
  pub recover_takes : LinkedTo (server_takes (data_in.Frame conn f) x) conn app (RecoverAlone v x app session epoch)
  recover_takes = record {
    dial = dial;
    link = linked_now;
    first = subst (λ (o : Option Connection). IsSomeAnd o (λ c. c.first ≡ Some (record { order = x.past; conn = conn }))) (sym at_dial)
        (ap (λ (o : Option FirstTaken). Some (first_else o (record { order = x.past; conn = conn }))) none_first);
    its = subst (λ (o : Option Connection). IsSomeAnd o (RecoverAlone v x app session epoch)) (sym at_dial) taken_alone;
  }
