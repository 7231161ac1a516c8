-- A Hello that comes is alone on its connection, which no other data connection is linked to.
use Rattle.std.proofs.Common.{◌≡◌, ◌⊎◌, inl, inr, ℕ, Bool, true, Option, Some, None, is_some, option_map, refl, sym, ◌∙◌, ap, subst, arith, if◌then◌else◌}
use Rattle.std.specs.Prelude.{IfSome, IsSomeAnd}
use Rattle.std.proofs.lemmas.Bool.{eq-eqb, false≢true}
use Rattle.plain_runs.specs.Plain.{Server}
use Rattle.ecp_messages.specs.declared.up.Up.TheVariants.{Hello}
use Rattle.ecp_messages.specs.declared.up.UpFrame.{UpFrame}
use Rattle.data_rules.specs.declared.data_in.DataIn.TheVariants as data_in
use Rattle.cluster_runs.specs.CoresState.{Linked}
use Rattle.cluster_runs.specs.Connections.{at_conn, first_else, is_link, link_else, link_in, link_of, linked_if, up_taken}
use Rattle.cluster_runs.specs.Goes.{server_takes}
use Rattle.cluster_runs.specs.Machine.{DataConnection, Site}
use Rattle.cluster_runs.specs.Moves.{named_dial}
use Rattle.cluster_runs.specs.Sent.{Connection, FirstTaken, Mark, Place}
use Rattle.cluster_invariant.specs.Dials.{CarriesOf, DialsAre, IsLinkedBy, LinkedTo, first_message}
use Rattle.cluster_invariant.specs.Ends.{HelloAlone}
use Rattle.cluster_invariant.proofs.Small.{of_some}
use Rattle.data_ends_kept.proofs.HellosTaken.{FirstFrames, its_link, link_after, not_first, untaken}
use Rattle.data_puts.proofs.RecoverLearnt.{FirstCame, first_put}

module _ (v : Server) (x : Site) (dead : ℕ → Bool) (dials : DialsAre v x dead) (conn app dial : ℕ) (f : UpFrame) (says : f.message ≡ Hello app dial) (there : is_some (x.connection_at conn) ≡ true)
    (none : link_of x conn ≡ None) (first : FirstFrames v x dead dials (data_in.Frame conn f)) where
  named : named_dial f.message ≡ Some (record { app = app; dial = dial })
  named = ap named_dial says

  came : FirstCame x (record { app = app; dial = dial }) f
  came = first conn f (record { app = app; dial = dial }) refl none named

  -- it is linked then
  pub linked_now : link_of (server_takes (data_in.Frame conn f) x) conn ≡ Some (record { app = app; dial = dial })
  linked_now = ap (λ (b : Bool). link_in (if b then option_map (linked_if (named_dial f.message)) (x.connection_at conn) else x.connection_at conn)) (eq-eqb conn conn refl) ∙ go (x.connection_at conn) there none
    where
      go : (o : Option DataConnection) → is_some o ≡ true → link_in o ≡ None → link_in (option_map (linked_if (named_dial f.message)) o) ≡ Some (record { app = app; dial = dial })
      go None is link = absurd (false≢true is)
      go (Some c) is link = ap (λ (q : Option Linked). link_else q (named_dial f.message)) link ∙ named

  -- what was known as the connection was made
  greets : came.on.knew.mark ≡ None
  greets = go came.on.knew.mark (sym (ap (λ (g : UpFrame). g.message) (first_put v x (record { app = app; dial = dial }) f came (untaken v x dead dials (record { app = app; dial = dial }) f came)).1) ∙ says)
    where
      go : (o : Option Mark) → first_message v app dial came.on.knew.session o ≡ Hello app dial → o ≡ None
      go None is = refl
      go (Some m) is = absurd cc

  zero_taken : came.on.ups_taken ≡ 0
  zero_taken = (first_put v x (record { app = app; dial = dial }) f came (untaken v x dead dials (record { app = app; dial = dial }) f came)).0

  none_first : came.on.first ≡ None
  none_first = not_first v x dead dials (record { app = app; dial = dial }) f came

  carries_none : came.on.its ≡ None
  carries_none = go came.on.its (untaken v x dead dials (record { app = app; dial = dial }) f came).its
    where
      go : (o : Option Place) → IfSome o (CarriesOf v app came.on.first) → o ≡ None
      go None h = refl
      go (Some q) h = absurd (subst (λ (g : Option FirstTaken). IsSomeAnd g (λ y. y.order ≡ q.order)) none_first h.order)

  taken_alone : HelloAlone (up_taken x.past conn came.on)
  taken_alone = record {
    hello = greets;
    one = (untaken v x dead dials (record { app = app; dial = dial }) f came).alone zero_taken;
    taken = omega (arith, zero_taken);
    silent = (untaken v x dead dials (record { app = app; dial = dial }) f came).silent zero_taken;
    its = carries_none;
  }

  at_dial : ((server_takes (data_in.Frame conn f) x).end_at app).connection_at dial ≡ Some (up_taken x.past conn came.on)
  at_dial =
      ap (option_map (λ (k : Connection). if is_link app dial (link_of (at_conn conn (linked_if (named_dial f.message)) x) conn) then up_taken x.past conn k else k)) came.there
      ∙ ap (λ (o : Option Linked). Some (if is_link app dial o then up_taken x.past conn came.on else came.on)) linked_now
      ∙ ap (λ (b : Bool). Some (if b then up_taken x.past conn came.on else came.on)) (its_link app dial)

  -- Its connection after the input.
  pub hello_takes : LinkedTo (server_takes (data_in.Frame conn f) x) conn app HelloAlone
  hello_takes = record {
    dial = dial;
    link = linked_now;
    first = subst (λ (o : Option Connection). IsSomeAnd o (λ c. c.first ≡ Some (record { order = x.past; conn = conn }))) (sym at_dial)
        (ap (λ (o : Option FirstTaken). Some (first_else o (record { order = x.past; conn = conn }))) none_first);
    its = subst (λ (o : Option Connection). IsSomeAnd o HelloAlone) (sym at_dial) taken_alone;
  }

  -- No other is linked to it.
  pub hello_only : (m : ℕ) → link_of (server_takes (data_in.Frame conn f) x) m ≡ Some (record { app = app; dial = dial }) → m ≡ conn
  hello_only m is = go (link_after v x dead dials (data_in.Frame conn f) first m (record { app = app; dial = dial }) is)
    where
      no_first : (o : Option Connection) → o ≡ Some came.on → IsSomeAnd o (λ c. IsSomeAnd c.first (λ g. g.conn ≡ m)) → ⊥
      no_first None at h = h
      no_first (Some c) at h = subst (λ (o : Option FirstTaken). IsSomeAnd o (λ g. g.conn ≡ m)) (ap (λ (y : Connection). y.first) same ∙ none_first) h
        where
          same : c ≡ came.on
          same = cc

      go : (link_of x m ≡ Some (record { app = app; dial = dial })) ⊎ ((g : UpFrame) × (FirstCame x (record { app = app; dial = dial }) g × (data_in.Frame conn f ≡ data_in.Frame m g))) → m ≡ conn
      go (inl linked) = absurd (no_first ((x.end_at app).connection_at dial) came.there (of_some (IsLinkedBy x m) (link_of x m) (record { app = app; dial = dial }) linked (dials.links m)))
      go (inr y) = frame_conn y.0 y.1.1
        where
          frame_conn : (g : UpFrame) → data_in.Frame conn f ≡ data_in.Frame m g → m ≡ conn
          frame_conn g same = cc
