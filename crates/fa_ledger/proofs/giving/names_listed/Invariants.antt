use Rattle.std.proofs.Common.{◌≡◌, List, ◌++◌}
use Rattle.std.specs.Prelude.{map, nat_eq}
use Rattle.indexmap.specs.IndexMap.{get}
use Rattle.fa_bodies.specs.Dirents.{PlainDirent}
use Rattle.fa_bodies.specs.Listing.{entries_left}
use Rattle.fa_ledger.specs.Counts.{nodes_of_listing}
use Rattle.fa_ledger.specs.parts.Steps.{given_to}
use Rattle.fa_ledger.proofs.giving.names_listed.Given as goal

-- the names so far are those of the nodes that the entries so far give
abbrev pub invariant-loop-dirent : goal.invariant-loop-dirent
invariant-loop-dirent l =
    (goal.iterator-loop-dirent).can_next l.dirent-iterator
    × (goal.iterator-loop-dirent).is_finite l.dirent-iterator
    × ((front : List PlainDirent) × (entries_left l.fn.listing ≡ front ++ entries_left l.dirent-iterator)
    × (l.names.items ≡ map (λ id. given_to id l.at (get nat_eq l.nodes.known id)) (nodes_of_listing front)))
