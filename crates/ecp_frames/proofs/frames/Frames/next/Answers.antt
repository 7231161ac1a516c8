use Rattle.std.proofs.Common.{◌≡◌, ℕ, ◌+◌, List, drop, take, Option, Some, rules, ap, sym, ◌∙◌}
use Rattle.std.proofs.lemmas.List.{drop-take}
use Rattle.std.specs.Option.{option_map}
use Rattle.ecp_frames.specs.Stream.{whole_ahead}
use Rattle.ecp_frames.proofs.StreamLemmas.{whole_is, IsWhole, boundary_behind, fault_goes_on}
use Rattle.ecp_frames.proofs.frames.Frames.next.Goals as goal

pub invariant_of-self-2 : goal.invariant_of-self-2
invariant_of-self-2 c =
    let whole : whole_ahead c.self.inside.bytes.items ≡ Some c.in-Some.length = search rules in
    let w : IsWhole c.self.inside.bytes.items c.in-Some.length = whole_is c.self.inside.bytes.items c.in-Some.length whole in
    let items : c.freeze_to.new.self.items ≡ drop (4 + c.in-Some.length) c.self.inside.bytes.items = search rules in
    rw (items, c.saturating_sub-self-inside.ensures) (
      c.self.invariant.0 ∙ fault_goes_on c.self.inside.bytes.items c.in-Some.length w.ahead w.allowed,
      boundary_behind c.self.inside.bytes.items c.in-Some.length c.self.inside.checked w.ahead w.allowed w.within c.self.invariant.1,
    )

pub returns-clause-frame : goal.returns-clause-frame
returns-clause-frame c =
    let whole : whole_ahead c.self.inside.bytes.items ≡ Some c.in-Some.length = search rules in
    let front : c.in_ok-frame.frame ≡ take (4 + c.in-Some.length) c.self.inside.bytes.items = search rules in
    let body : c.advance.new.self ≡ take c.in-Some.length (drop 4 c.self.inside.bytes.items) = c.advance.ensures ∙ ap (λ (xs : List ℕ). drop 4 xs) front ∙ drop-take 4 c.in-Some.length c.self.inside.bytes.items in
    ap (λ (xs : List ℕ). Some xs) body ∙ ap (λ (o : Option ℕ). option_map (λ n. take n (drop 4 c.self.inside.bytes.items)) o) (sym whole) ∙ ap (λ (xs : List ℕ). option_map (λ n. take n (drop 4 xs)) (whole_ahead xs)) c.self.view_is
