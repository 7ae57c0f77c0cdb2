use Rattle.std.proofs.Common.{length, rules, ap}
use Rattle.fa_bodies.proofs.ItemLaws.{items_in-begins, items_in-short}
use Rattle.fa_bodies.proofs.forget_one.ItemsIterator.next.Goals as goal

pub returns-then-self-lt-LEN-clause-steps : goal.returns-then-self-lt-LEN-clause-steps
returns-then-self-lt-LEN-clause-steps c =
    let none = items_in-short c.args.self.now.bytes.now c.if-self-lt-LEN.true in
    (none, none)

pub returns-clause-steps : goal.returns-clause-steps
returns-clause-steps c =
    let item = c.at-nodeid.result.0 in
    items_in-begins (item.nodeid, item.nlookup) c.args.self.now.bytes.now c.at-nodeid.result.1.now c.at-nodeid.ensures

pub returns-clause-goes : goal.returns-clause-goes
returns-clause-goes c =
    let item = c.at-nodeid.result.0 in
    let shorter = ap length (items_in-begins (item.nodeid, item.nlookup) c.args.self.now.bytes.now c.at-nodeid.result.1.now c.at-nodeid.ensures) in
    search rules
