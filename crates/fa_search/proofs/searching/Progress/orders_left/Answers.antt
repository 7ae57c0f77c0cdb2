use Rattle.std.proofs.Common.{◌≡◌, ℕ, List, subst, ap}
use Rattle.fa_order.specs.declared.entry.Entry.{Entry}
use Rattle.fa_search.specs.parts.Configurations.{PlainConfiguration}
use Rattle.fa_tree.specs.Alike.{IsLastFrom}
use Rattle.fa_search.specs.parts.Settling.{AreMerged, EachLeadsTo}
use Rattle.fa_search.proofs.ComingLemmas.{left_by_merged, came_to}
use Rattle.fa_search.proofs.searching.Progress.orders_left.Goals as goal

pub returns-in_ok-alternatives_of-in-Ok-clause-comes : goal.returns-in_ok-alternatives_of-in-Ok-clause-comes
returns-in_ok-alternatives_of-in-Ok-clause-comes c = λ m first are covers.
    let common = c.args.self.now.common.items in
    let held = c.args.self.now.held.items in
    let left = c.in-Ok.left.items in
    let found = c.in_ok-alternatives_of-in-Ok.field-0 in
    let same : c.replace-held.result.items ≡ held = ap (λ v. v.items) c.replace-held.ensures.value in
    let at = c.args.at in
    let Counts : ℕ → Type 0 = IsLastFrom c.args.self.now.flight.last_uses at in
    let merged : AreMerged Counts held left = subst (λ (xs : List PlainConfiguration). AreMerged Counts xs left) same c.in-Ok.ensures.merged in
    let each : EachLeadsTo common left found.orders.items =
    subst (λ (es : List Entry). EachLeadsTo es left found.orders.items) c.deref.ensures.value c.in_ok-alternatives_of-in-Ok.ensures.each in
    came_to m first common at left (left_by_merged m first common at held are Counts covers left merged) found each c.in_ok-alternatives_of-in-Ok.ensures.trees
