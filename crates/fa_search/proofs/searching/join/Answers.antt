use Rattle.std.proofs.Common.{◌≡◌, ◌∙◌, ◌++◌, List, length, get_or, ap, rules}
use Rattle.fa_order.specs.declared.entry.Entry.{Entry}
use Rattle.fa_search.proofs.SearchLemmas.{held_by_joined_in}
use Rattle.fa_search.proofs.searching.join.Goals as goal

pub returns-in_ok-append-clause-held : goal.returns-in_ok-append-clause-held
returns-in_ok-append-clause-held c = λ m first at are.
    let items = c.args.held.now.items in
    let x = c.index_mut.result.now in
    let one : length items ≡ 1 = search rules in
    let here : get_or items 0 x ≡ x = search rules in
    held_by_joined_in m first c.args.common.now.items c.append.new.self.items at items x c.take_entries-entries.new.self one here c.take_entries-entries.ensures.left
    (c.in_ok-append.ensures.items ∙ ap (λ (es : List Entry). c.args.common.now.items ++ es) c.take_entries-entries.ensures.taken) are
