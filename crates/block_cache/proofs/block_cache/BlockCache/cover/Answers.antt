use Rattle.std.proofs.Common.{refl, ap, ◌∙◌}
use Rattle.std.specs.List.{find}
use Rattle.end_words.specs.Runs.{covers}
use Rattle.block_cache.proofs.CacheLemmas.{find-in_front}
use Rattle.block_cache.proofs.block_cache.BlockCache.cover.Goals as goal

pub returns : goal.returns
returns c =
    ((refl, λ _. tt, c.use_cover.ensures), record { uses = tt; value = c.peek.ensures ∙ ap (find (covers c.args.key.now)) c.use_cover.ensures ∙ find-in_front (covers c.args.key.now) c.args.self.now })
