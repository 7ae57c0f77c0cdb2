use Rattle.std.proofs.Common.{rules, tests, ◌≡◌, true}
use Rattle.std.specs.Prelude.{is_some}
use Rattle.fa_tree.specs.parts.FileIdLaws.{same_equal}
use Rattle.fa_tree.proofs.StayedLemmas.{stayed_there}
use Rattle.fa_tree.proofs.open_names.OpenNames.name_stayed.Goals as goal

pub returns-then-is_some-clause-stayed : goal.returns-then-is_some-clause-stayed
returns-then-is_some-clause-stayed c =
    let o = c.args.self.now in
    let own = same_equal c.in_ok-place.place.now.directory o.directory (search (rules, tests)) in
    let some : is_some c.file_stayed.result ≡ true = search (rules, tests) in
    rw c.as_slice.ensures.value
    (stayed_there o.directory o.at o.slots.now.table.entries c.in_ok-place.place.now c.in_ok-place.slot.now c.in_ok-place.ensures.value own c.file_stayed.result c.file_stayed.ensures some)
