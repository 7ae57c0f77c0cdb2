use Rattle.std.proofs.Common.{◌≤◌, subst, arith}
use Rattle.std.specs.FinMap as map
use Rattle.fa_tree.specs.parts.NameParts.{NamesShown}
use Rattle.fa_tree.proofs.CountLemmas.{names_few}
use Rattle.fa_tree.proofs.names.Names.places.Goals as goal

pub returns-clause-most : goal.returns-clause-most
returns-clause-most c =
    let few = names_few c.self.inside.slots.table.entries in
    subst (λ (n : NamesShown). map.len n.names ≤ c.len.result) c.self.view_is (omega (arith, few, c.len.ensures.len))
