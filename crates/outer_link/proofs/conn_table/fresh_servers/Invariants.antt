use Rattle.std.proofs.Common.{◌≡◌, replicate}
use Rattle.outer_link.specs.ServerState.{fresh_server}
use Rattle.outer_link.proofs.conn_table.fresh_servers.Given as goal

abbrev pub invariant-loop-server : goal.invariant-loop-server
invariant-loop-server l = l.servers.items ≡ replicate l._server (fresh_server l.apps)
