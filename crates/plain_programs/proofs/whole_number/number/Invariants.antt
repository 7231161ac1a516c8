use Rattle.std.proofs.Common.{◌≡◌, ◌^◌, ◌<◌, true, drop}
use Rattle.std.specs.List.{list_all}
use Rattle.plain_orders.specs.Numbers.{is_digit, number_from}
use Rattle.plain_programs.proofs.whole_number.number.Given as goal

abbrev pub invariant-loop-digit : goal.invariant-loop-digit
invariant-loop-digit l = record {
  small : l.number < 10 ^ l.digit-index;
  digits : list_all is_digit (drop l.digit-index l.digits) ≡ true;
  same : number_from l.number (drop l.digit-index l.digits) ≡ number_from 0 l.digits;
}
