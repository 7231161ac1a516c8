-- ^x and ^y are nodes.
use Rattle.std.proofs.Common.{[], ◌∷◌, refl, arith}
use Rattle.subscript_keys.specs.Key.{IsKey, key_of}
use Rattle.plain_orders.specs.Ordered.{KeyMay}

x_key : IsKey (120 ∷ 0 ∷ [])
unfolding key_of
x_key = (record { name = 120 ∷ []; subs = [] }, record { name = (refl, tt, omega arith); subs = tt }, refl)

pub x_may : KeyMay (120 ∷ 0 ∷ [])
x_may = record { is_key = x_key; within = omega arith }

y_key : IsKey (121 ∷ 0 ∷ [])
unfolding key_of
y_key = (record { name = 121 ∷ []; subs = [] }, record { name = (refl, tt, omega arith); subs = tt }, refl)

pub y_may : KeyMay (121 ∷ 0 ∷ [])
y_may = record { is_key = y_key; within = omega arith }
