-- The key of ^x is a key within the limit.
use Rattle.std.proofs.Common.{[], ◌∷◌, refl, arith}
use Rattle.subscript_keys.specs.Key.{IsKey, key_of}
use Rattle.plain_orders.specs.Ordered.{KeyMay}
use Rattle.data_examples.specs.Servers.{x_key}

x_is_key : IsKey x_key
unfolding key_of
x_is_key = (record { name = 120 ∷ []; subs = [] }, record { name = (refl, tt, omega arith); subs = tt }, refl)

pub x_may : KeyMay x_key
x_may = record { is_key = x_is_key; within = omega arith }
