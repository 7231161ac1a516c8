use Rattle.std.proofs.Common.{◌≡◌, take}
use Rattle.std.specs.List.{filter}
use Rattle.lock_table.specs.LockWords.{is_request_of}
use Rattle.lock_table.proofs.lock_table.LockTable.requests_of.Given as goal

abbrev pub invariant-loop-request : goal.invariant-loop-request
invariant-loop-request l = l.requests.items ≡ filter (is_request_of l.session) (take l.request-index l.request-items)
