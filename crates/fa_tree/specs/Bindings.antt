-- For which file an answer gives a name to a node.
use Rattle.std.specs.Prelude.{◌≡◌, List, [], ◌∷◌, Contains, Option, Some, None}
use Rattle.std.specs.FinMap.{FinMap, get, insert}
use Rattle.fa_ledger.specs.declared.name.NodeName.{NodeName}
use Rattle.fa_tree.specs.declared.id.FileId.{FileId}
use Rattle.fa_tree.specs.State.{node_cmp}

-- names of nodes, each with the file for which it is given; the node of an entry whose name is not there is for none
abbrev pub bound : List NodeName → List (Option FileId) → List (NodeName × FileId)
bound [] files = []
bound (name ∷ names) [] = []
bound (name ∷ names) (None ∷ files) = bound names files
bound (name ∷ names) (Some file ∷ files) = (name, file) ∷ bound names files

-- A name that stands for a file already is given for that one, and one that is given twice for one file.
pub record AreBound (nodes : FinMap node_cmp FileId) (given : List (NodeName × FileId)) : Type 0 where
  pub known : (name : NodeName) (file other : FileId) → Contains given (name, file) → get nodes name ≡ Some other → file ≡ other
  pub one : (name : NodeName) (file other : FileId) → Contains given (name, file) → Contains given (name, other) → file ≡ other

-- the files that names of nodes stand for after these were given
abbrev pub nodes_after : List (NodeName × FileId) → FinMap node_cmp FileId → FinMap node_cmp FileId
nodes_after [] nodes = nodes
nodes_after (one ∷ given) nodes = nodes_after given (insert nodes one.0 one.1)
