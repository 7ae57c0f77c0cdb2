-- What the table of nodes shows.
use Rattle.std.specs.FinMap.{FinMap, from_entries}
use Rattle.fa_tree.specs.declared.id.FileId.{FileId}
use Rattle.fa_tree.specs.State.{node_cmp}
use Rattle.fa_tree.specs.declared.nodes.Nodes.{Nodes}

abbrev pub nodes_shown : Nodes → FinMap node_cmp FileId
nodes_shown n = from_entries n.files.entries
