use Rattle.cluster_invariant.proofs.OrdersStay.{orders_agree}
use Rattle.link_kept.proofs.ShortMoves.{link_kept_by_tick, link_kept_by_look, link_kept_by_die, link_kept_by_halt}
use Rattle.link_kept.proofs.StartsKept.{link_kept_by_start}
use Rattle.link_kept.proofs.laws.what_is_on_its_way_is_kept.Goals as goal

pub returns-clause-ticks : goal.returns-clause-ticks
returns-clause-ticks c = link_kept_by_tick

pub returns-clause-looks : goal.returns-clause-looks
returns-clause-looks c = λ l m app job line at outs written new h run goes. link_kept_by_look l m app job line at outs written new h (λ d. orders_agree l m.trail d run) goes

pub returns-clause-deaths : goal.returns-clause-deaths
returns-clause-deaths c = λ l m app outs written new h run goes. link_kept_by_die l m app outs written new h (λ d. orders_agree l m.trail d run) goes

pub returns-clause-halts : goal.returns-clause-halts
returns-clause-halts c = λ l m server outs written new h run goes. link_kept_by_halt l m server outs written new h (λ d. orders_agree l m.trail d run) goes

pub returns-clause-starts : goal.returns-clause-starts
returns-clause-starts c = link_kept_by_start
