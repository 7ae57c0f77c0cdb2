-- What a rename asks for, by what was asked of the tree.
use Rattle.std.proofs.Common.{◌≡◌, ℕ, List, Option, Some, subst, sym, ◌∙◌}
use Rattle.std.specs.FinMap.{get}
use Rattle.fa_tree.specs.declared.id.FileId.{FileId}
use Rattle.fa_tree.specs.State.{Store, HasName}
use Rattle.fa_tree.specs.Renaming.{MayReplace, MayComeInto, MayBeRenamed}

same_file : (file other : FileId) → ◌≡◌ {A = Option FileId} (Some file) (Some other) → file ≡ other
same_file file other is = cc

-- a rename that may be done may take the new name from any file that has it
pub may_take : (s : Store) (old_directory : FileId) (old_name : List ℕ) (new_directory : FileId) (new_name : List ℕ) (file : FileId)
    → get s.names (old_directory, old_name) ≡ Some file → MayBeRenamed s old_directory old_name new_directory new_name
    → (other : FileId) → HasName s new_directory new_name other → MayReplace s file other
may_take s old_directory old_name new_directory new_name file there may =
    subst (λ f. (other : FileId) → HasName s new_directory new_name other → MayReplace s f other)
    (same_file may.file file (sym may.there ∙ there)) may.replaces

-- and the file may come into the new directory, unless it has the new name
pub may_move : (s : Store) (old_directory : FileId) (old_name : List ℕ) (new_directory : FileId) (new_name : List ℕ) (file : FileId)
    → get s.names (old_directory, old_name) ≡ Some file → MayBeRenamed s old_directory old_name new_directory new_name
    → (HasName s new_directory new_name file → ⊥) → MayComeInto s new_directory file
may_move s old_directory old_name new_directory new_name file there may =
    subst (λ f. (HasName s new_directory new_name f → ⊥) → MayComeInto s new_directory f)
    (same_file may.file file (sym may.there ∙ there)) may.moves
