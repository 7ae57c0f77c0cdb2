use Rattle.std.proofs.Common.{◌≡◌, get_or, take, refl, rules, arith}
use Rattle.std.proofs.lemmas.List.{length_push}
use Rattle.fa_search.proofs.ComingLemmas.{leads_none, leads_more, front_there}
use Rattle.fa_search.proofs.coming.orders_of.Goals as goal

pub loop-one-init : goal.loop-one-init
loop-one-init c = rw c.new-orders.ensures.items (leads_none c.args.common.now c.args.left.now, refl)

pub loop-one-preserved : goal.loop-one-preserved
loop-one-preserved c =
    let before = c.loop-one.invariant in
    let one = c.one-item.result in
    let here : one ≡ get_or (take c.min-count.result c.args.left.now) c.loop-one.one-index one = search rules in
    rw c.in_ok-push.ensures.items (
      leads_more c.args.common.now c.args.left.now c.loop-one.orders.items c.in_ok-order.field-0 one
          (front_there c.args.left.now c.min-count.result c.loop-one.one-index one c.loop-one-test.true here) c.in_ok-order.ensures before.0,
      (let more = length_push c.loop-one.orders.items c.in_ok-order.field-0 in let same = before.1 in omega (arith, more, same)),
    )
