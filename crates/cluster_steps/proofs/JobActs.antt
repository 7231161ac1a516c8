-- The acts that a job's step writes.
use Rattle.std.proofs.Common.{◌≡◌, ℕ, Bool, true, false, List, [], ◌∷◌, ◌++◌, refl, sym, ◌∙◌, ap, subst}
use Rattle.std.specs.List.{AllByRecursion}
use Rattle.std.proofs.lemmas.List.{append-nil, append_assoc}
use Rattle.plain_orders.specs.declared.act.Act.{Act}
use Rattle.ecp_messages.specs.declared.up.Up.{Up}
use Rattle.end_words.specs.Windows.{with_sent}
use Rattle.app_rules.specs.Works.{Sofar, tells_if, tries_if, sets, end_at, with_window, is_joined, is_apart}
use Rattle.cluster_steps.proofs.JobPieces.{JobPiece, GoesOn, MayMake, AllMay, IsOfJob, made_by, all_made}
use Rattle.cluster_steps.proofs.JobPieces.JobPiece.{Writes, Tries, Notes, Tickets, Puts}

-- these were written, each of a job
pub record Wrote (b c : Sofar) : Type 0 where
  pub written : List Act
  pub of_job : AllByRecursion IsOfJob written
  pub acts : c.outs.acts ≡ b.outs.acts ++ written

none : (b c : Sofar) → c.outs.acts ≡ b.outs.acts → Wrote b c
none b c same = record { written = []; of_job = tt; acts = same ∙ sym (append-nil b.outs.acts) }

tells_none : (t : Bool) (d seq : ℕ) (m : Up) (b : Sofar) → (tells_if t d seq m b).outs.acts ≡ b.outs.acts
tells_none true d seq m b = refl
tells_none false d seq m b = refl

tries_none : (t : Bool) (d : ℕ) (b : Sofar) → (tries_if t d b).outs.acts ≡ b.outs.acts
tries_none true d b = refl
tries_none false d b = refl

by_piece : (p : JobPiece) (b : Sofar) → MayMake p b → Wrote b (made_by p b)
by_piece (Writes a) b may = record { written = a ∷ []; of_job = (may, tt); acts = refl }
by_piece (Tries d) b may = none b (made_by (Tries d) b) (tries_none (is_apart (end_at b.state d).line) d b)
by_piece (Notes d n) b may = none b (made_by (Notes d n) b) refl
by_piece (Tickets d) b may = none b (made_by (Tickets d) b) refl
by_piece (Puts d m) b may = none b (made_by (Puts d m) b) (tells_none (is_joined (end_at b.state d).line) d _ m (sets d (with_window (λ w. with_sent w m)) b))

both : (xs ys : List Act) → AllByRecursion IsOfJob xs → AllByRecursion IsOfJob ys → AllByRecursion IsOfJob (xs ++ ys)
both [] ys a b = b
both (x ∷ xs) ys a b = (a.0, both xs ys a.1 b)

by_pieces : (ps : List JobPiece) (b : Sofar) → AllMay ps b → Wrote b (all_made ps b)
by_pieces [] b may = none b b refl
by_pieces (p ∷ ps) b may = go (by_piece p b may.0) (by_pieces ps (made_by p b) may.1)
  where
    go : Wrote b (made_by p b) → Wrote (made_by p b) (all_made (p ∷ ps) b) → Wrote b (all_made (p ∷ ps) b)
    go x y = record {
      written = x.written ++ y.written;
      of_job = both x.written y.written x.of_job y.of_job;
      acts = y.acts ∙ ap (λ (ws : List Act). ws ++ y.written) x.acts ∙ append_assoc b.outs.acts x.written y.written;
    }

-- What a step that goes on by pieces wrote.
pub wrote_by : (b c : Sofar) → GoesOn b c → Wrote b c
wrote_by b c g = subst (λ (x : Sofar). Wrote b x) (sym g.after) (by_pieces g.pieces b g.may)
