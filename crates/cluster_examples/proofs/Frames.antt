-- Keys, frames and blocks of the runs have their forms.
use Rattle.std.proofs.Common.{[], ◌∷◌, refl, arith}
use Rattle.subscript_keys.specs.Key.{IsKey, IsNode, key_of}
use Rattle.plain_orders.specs.Ordered.{KeyMay}
use Rattle.app_job.specs.Sites.{IsSite}
use Rattle.field_bytes.specs.Fields.{IsKeyField, list_bytes, u16_bytes}
use Rattle.block_bytes.specs.Blocks.{IsBlockOf, block_bytes, span_bytes, pair_bytes}
use Rattle.ecp_messages.specs.Rows.{IsSought}
use Rattle.app_rules.specs.declared.app_outs.AppOuts.{AppOuts}
use Rattle.cluster_runs.specs.Steps.{Made}
use Rattle.cluster_examples.specs.Scenes.{x, a, x_key, a_key, run_of, x_is_5, x_is_1, empty_block, block_5, block_1}

x_node : IsNode x.node
x_node = record { name = (refl, tt, omega arith); subs = tt }

a_node : IsNode a.node
a_node = record { name = (refl, tt, omega arith); subs = tt }

x_is_key : IsKey x_key
unfolding key_of
x_is_key = (x.node, x_node, refl)

a_is_key : IsKey a_key
unfolding key_of
a_is_key = (a.node, a_node, refl)

pub x_may : KeyMay x_key
x_may = record { is_key = x_is_key; within = omega arith }

pub x_is_site : IsSite x
unfolding key_of
x_is_site = record { node = x_node; key = refl; within = omega arith }

pub a_is_site : IsSite a
unfolding key_of
a_is_site = record { node = a_node; key = refl; within = omega arith }

pub x_field : IsKeyField x_key
x_field = (x_is_key, omega arith)

pub a_field : IsKeyField a_key
a_field = (a_is_key, omega arith)

pub x_sought : IsSought x_key
x_sought = record { some = omega arith; below = refl; short = omega arith }

pub empty_block_is : IsBlockOf (run_of []) empty_block
unfolding block_bytes span_bytes list_bytes u16_bytes
empty_block_is = record { has_block = record { span = refl; rising = tt; within = tt }; written = refl; limit = omega arith }

pub block_5_is : IsBlockOf (run_of (x_is_5 ∷ [])) block_5
unfolding block_bytes span_bytes list_bytes u16_bytes pair_bytes
block_5_is = record { has_block = record { span = refl; rising = (tt, tt); within = (record { from = λ e. absurd (cc e); to = refl }, tt) }; written = refl; limit = omega arith }

pub block_1_is : IsBlockOf (run_of (x_is_1 ∷ [])) block_1
unfolding block_bytes span_bytes list_bytes u16_bytes pair_bytes
block_1_is = record { has_block = record { span = refl; rising = (tt, tt); within = (record { from = λ e. absurd (cc e); to = refl }, tt) }; written = refl; limit = omega arith }

-- what an application server put, tried, ended and wrote, of what a move did
abbrev pub app_outs_of : Made → AppOuts
app_outs_of m = record { frames = m.outs.ups; connects = m.outs.connects; cuts = m.outs.app_cuts; acts = m.acts }

pub a_may : KeyMay a_key
a_may = record { is_key = a_is_key; within = omega arith }
