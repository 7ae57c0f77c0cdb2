-- LINK (POSIX link).
use Rattle.std.specs.Prelude.{◌⊎◌, ℕ, List, [], ◌∷◌, Option}
use Rattle.std.specs.Option.{option_map_or}
use Rattle.fa_tree.specs.declared.id.FileId.{FileId}
use Rattle.fa_tree.specs.State.{Store, IsFree, IsThere, IsDirectory, IsLinked, IsLinkedDirectory}
use Rattle.fa_tree.specs.Resolved.{OfOther}
use Rattle.fa_tree.specs.Edits.Edit.{Added}
use Rattle.fa_tree.specs.Rules.{Rule}

-- A file that is linked and no directory gets a further name, in a linked directory that has not the name.
abbrev pub MayBeLinked : Store → (directory : FileId) → (name : List ℕ) → (file : FileId) → Type 0
MayBeLinked s directory name file =
    IsLinkedDirectory s directory × IsFree s directory name × IsLinked s file × (IsDirectory s file → ⊥)

-- of the file that is named second; its answer says what that of a new file says (Making)
abbrev pub link_rule : Store → (directory : FileId) → (name : List ℕ) → (other : Option FileId) → Rule
link_rule s directory name other = record {
  needs = OfOther other (λ file. MayBeLinked s directory name file);
  edits = option_map_or (λ file. Added directory name file ∷ []) other [];
  files = λ truncates count. s.files;
  missing = (IsLinked s directory → ⊥) ⊎ OfOther other (λ file. IsLinked s file → ⊥);
  taken = IsThere s directory name;
  no_directory = IsDirectory s directory → ⊥;
  a_directory = ⊥;
  not_empty = ⊥;
}
