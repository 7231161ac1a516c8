use Rattle.std.proofs.Common.{◌∙◌, ap, sym}
use Rattle.std.specs.Option.{option_copied}
use Rattle.plain_programs.proofs.KeyLemmas.{next_key_is}
use Rattle.folded_store.proofs.folded_store.FoldedStore.next_sub.Goals as goal

pub sub_behind-requires-clause-key : goal.sub_behind-requires-clause-key
sub_behind-requires-clause-key g c =
    (next_key_is c.args.self.now.pairs c.in_ok-next_key.ensures.keys c.args.parent.now _ c.in-Some.key.now (sym c.in_ok-next_key.ensures.value ∙ ap option_copied c.in-Some.is)).0

pub sub_behind-requires-clause-below : goal.sub_behind-requires-clause-below
sub_behind-requires-clause-below g c =
    (next_key_is c.args.self.now.pairs c.in_ok-next_key.ensures.keys c.args.parent.now _ c.in-Some.key.now (sym c.in_ok-next_key.ensures.value ∙ ap option_copied c.in-Some.is)).1
