-- RENAME (POSIX rename), and RENAME2, which has flags (renameat2 of Linux).
use Rattle.std.specs.Prelude.{◌≡◌, ◌≢◌, ◌⊎◌, ℕ, if◌then◌else◌, List, [], ◌∷◌, Option, Some, None}
use Rattle.std.specs.Option.{option_map_or}
use Rattle.std.specs.FinMap.{get}
use Rattle.fa_bodies.specs.declared.rename_flags.RenameFlags.{RenameFlags}
use Rattle.fa_bodies.specs.declared.rename_flags.RenameFlags.TheVariants.{Replace, NoReplace, Exchange}
use Rattle.fa_tree.specs.declared.id.FileId.{FileId}
use Rattle.fa_tree.specs.State.{Store, file_eq, HasName, IsFree, IsThere, IsDirectory, IsLinked, IsLinkedDirectory, IsEmptyDirectory, IsBelow}
use Rattle.fa_tree.specs.Resolved.{OfOther}
use Rattle.fa_tree.specs.Causes.{IsDirectoryThere, IsFullDirectoryThere, IsNonDirectoryThere}
use Rattle.fa_tree.specs.Rules.{Rule}
use Rattle.fa_tree.specs.Edits.{Edit}
use Rattle.fa_tree.specs.Edits.Edit.{Added, Removed}

-- A file may take the name of another: of itself; a directory that of an empty directory; what is no directory that of what
-- is none either.
abbrev pub MayReplace : Store → (file other : FileId) → Type 0
MayReplace s file other =
    (other ≡ file) ⊎ ((IsDirectory s file × IsEmptyDirectory s other) ⊎ ((IsDirectory s file → ⊥) × (IsDirectory s other → ⊥)))

-- As for loops a file may come into a directory: one that is a directory itself not into itself nor below itself.
abbrev pub MayComeInto : Store → (directory file : FileId) → Type 0
MayComeInto s directory file = IsDirectory s file → (directory ≢ file) × (IsBelow s file directory → ⊥)

-- The old name is in its directory, and the new directory is linked. A file whose name the new name is may be replaced. The file may
-- come into the new directory, unless the new name is its own already.
pub record MayBeRenamed (s : Store) (old_directory : FileId) (old_name : List ℕ) (new_directory : FileId) (new_name : List ℕ) : Type 0 where
  pub from : IsDirectory s old_directory
  pub to : IsLinkedDirectory s new_directory
  pub file : FileId
  pub there : HasName s old_directory old_name file
  pub replaces : (other : FileId) → HasName s new_directory new_name other → MayReplace s file other
  pub moves : (HasName s new_directory new_name file → ⊥) → MayComeInto s new_directory file

-- The edits of a rename of this file, by the file whose name the new name is, if it is one's: none where it is this file (both
-- names stay); else the old name goes, then the other file's name, and then the new name is added for this file.
abbrev pub moved : (old_directory : FileId) → (old_name : List ℕ) → (new_directory : FileId) → (new_name : List ℕ) → (file : FileId) → Option FileId → List Edit
moved old_directory old_name new_directory new_name file None =
    Removed old_directory old_name ∷ Added new_directory new_name file ∷ []
moved old_directory old_name new_directory new_name file (Some other) =
    (if file_eq other file then []
    else Removed old_directory old_name ∷ Removed new_directory new_name ∷ Added new_directory new_name file ∷ [])

-- the edits of a RENAME, if the old name is a file's
abbrev pub rename_edits : Store → (old_directory : FileId) → (old_name : List ℕ) → (new_directory : FileId) → (new_name : List ℕ) → List Edit
rename_edits s old_directory old_name new_directory new_name =
    option_map_or (λ file. moved old_directory old_name new_directory new_name file (get s.names (new_directory, new_name)))
    (get s.names (old_directory, old_name)) []

-- ---- an exchange

-- Both names are there, and each file may come into the other's directory.
pub record MayBeExchanged (s : Store) (old_directory : FileId) (old_name : List ℕ) (new_directory : FileId) (new_name : List ℕ) : Type 0 where
  pub from : IsDirectory s old_directory
  pub to : IsDirectory s new_directory
  pub file : FileId
  pub there : HasName s old_directory old_name file
  pub other : FileId
  pub also : HasName s new_directory new_name other
  pub goes : MayComeInto s new_directory file
  pub comes : MayComeInto s old_directory other

-- The edits of an exchange of names of these two files: none where they are one file; else each name goes, and comes again for the
-- other's file.
abbrev pub exchanged : (old_directory : FileId) → (old_name : List ℕ) → (new_directory : FileId) → (new_name : List ℕ) → (file other : FileId) → List Edit
exchanged old_directory old_name new_directory new_name file other =
    (if file_eq other file then []
    else Removed old_directory old_name ∷ Added old_directory old_name other
    ∷ Removed new_directory new_name ∷ Added new_directory new_name file ∷ [])

-- the edits of an exchange, if both names are files'
abbrev pub exchange_edits : Store → (old_directory : FileId) → (old_name : List ℕ) → (new_directory : FileId) → (new_name : List ℕ) → List Edit
exchange_edits s old_directory old_name new_directory new_name =
    option_map_or (λ file. option_map_or (exchanged old_directory old_name new_directory new_name file) (get s.names (new_directory, new_name)) [])
    (get s.names (old_directory, old_name)) []

-- ---- the operations

-- RENAME, to the second directory that is named. Of a new name that is a directory's which is not empty POSIX lets a server answer
-- ENOTEMPTY or EEXIST.
abbrev pub rename_rule : Store → (old_directory : FileId) → (old_name : List ℕ) → (other : Option FileId) → (new_name : List ℕ) → Rule
rename_rule s old_directory old_name other new_name = record {
  needs = OfOther other (λ new_directory. MayBeRenamed s old_directory old_name new_directory new_name);
  edits = option_map_or (λ new_directory. rename_edits s old_directory old_name new_directory new_name) other [];
  files = λ truncates count. s.files;
  missing = IsFree s old_directory old_name ⊎ ((IsLinked s old_directory → ⊥) ⊎ OfOther other (λ directory. IsLinked s directory → ⊥));
  taken = OfOther other (λ directory. IsFullDirectoryThere s directory new_name);
  no_directory =
      (IsDirectory s old_directory → ⊥)
      ⊎ (OfOther other (λ directory. IsDirectory s directory → ⊥)
      ⊎ (IsDirectoryThere s old_directory old_name × OfOther other (λ directory. IsNonDirectoryThere s directory new_name)));
  a_directory = IsNonDirectoryThere s old_directory old_name × OfOther other (λ directory. IsDirectoryThere s directory new_name);
  not_empty = OfOther other (λ directory. IsFullDirectoryThere s directory new_name);
}

-- RENAME2 with RENAME_NOREPLACE: as RENAME, but the new name may not be there.
abbrev pub noreplace_rule : Store → (old_directory : FileId) → (old_name : List ℕ) → (other : Option FileId) → (new_name : List ℕ) → Rule
noreplace_rule s old_directory old_name other new_name =
    let rename = rename_rule s old_directory old_name other new_name in
    record {
      needs = OfOther other (λ directory. IsFree s directory new_name) × rename.needs;
      edits = rename.edits;
      files = rename.files;
      missing = rename.missing;
      taken = OfOther other (λ directory. IsThere s directory new_name);
      no_directory = rename.no_directory;
      a_directory = rename.a_directory;
      not_empty = rename.not_empty;
    }

-- RENAME2 with RENAME_EXCHANGE.
abbrev pub exchange_rule : Store → (old_directory : FileId) → (old_name : List ℕ) → (other : Option FileId) → (new_name : List ℕ) → Rule
exchange_rule s old_directory old_name other new_name = record {
  needs = OfOther other (λ new_directory. MayBeExchanged s old_directory old_name new_directory new_name);
  edits = option_map_or (λ new_directory. exchange_edits s old_directory old_name new_directory new_name) other [];
  files = λ truncates count. s.files;
  missing =
      (IsFree s old_directory old_name ⊎ OfOther other (λ directory. IsFree s directory new_name))
      ⊎ ((IsLinked s old_directory → ⊥) ⊎ OfOther other (λ directory. IsLinked s directory → ⊥));
  taken = ⊥;
  no_directory = (IsDirectory s old_directory → ⊥) ⊎ OfOther other (λ directory. IsDirectory s directory → ⊥);
  a_directory = ⊥;
  not_empty = ⊥;
}

-- RENAME2, to the second directory that is named: without a flag as RENAME.
abbrev pub rename2_rule : Store → (old_directory : FileId) → (old_name : List ℕ) → RenameFlags → (other : Option FileId) → (new_name : List ℕ) → Rule
rename2_rule s old_directory old_name Replace other new_name = rename_rule s old_directory old_name other new_name
rename2_rule s old_directory old_name NoReplace other new_name = noreplace_rule s old_directory old_name other new_name
rename2_rule s old_directory old_name Exchange other new_name = exchange_rule s old_directory old_name other new_name
