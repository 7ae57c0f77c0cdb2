-- What holds of a tree holds of its fields.
use Rattle.std.proofs.Common.{◌≡◌, ℕ, List, sym, subst}
use Rattle.fa_tree.specs.declared.id.FileId.{FileId}
use Rattle.fa_tree.specs.State.{TreeState}
use Rattle.fa_tree.specs.Making.{MayBeMade}

-- what may be made in a state may be made in the same state
pub still_made : (t u : TreeState) (directory : FileId) (name : List ℕ) → t ≡ u → MayBeMade u.store directory name → MayBeMade t.store directory name
still_made t u directory name same may = subst (λ (v : TreeState). MayBeMade v.store directory name) (sym same) may
