use Rattle.std.proofs.Common.{◌<◌, length, refl, sym, subst}
use Rattle.outer_link.specs.ServerState.{ServerState, joined_pair}
use Rattle.outer_link.proofs.ChangedLemmas.{changed_read}
use Rattle.outer_link.proofs.data_server.DataServer.join.Goals as goal

pub returns : goal.returns
returns c =
    let within : c.args.app < length c.self.inside.pairs.items =
    subst (λ (s : ServerState). c.args.app < length s.pairs) (sym c.self.view_is) c.requires in
    let e = changed_read joined_pair c.args.app c.self.inside.pairs.items c.index-pair.result.now within c.index-pair.ensures in
    rw (← c.self.view_is, e) refl
