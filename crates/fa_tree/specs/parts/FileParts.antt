-- What the files of a tree show.
use Rattle.std.specs.Prelude.{ℕ, List, map}
use Rattle.std.specs.FinMap.{FinMap, from_entries}
use Rattle.fa_tree.specs.declared.id.FileId.{FileId}
use Rattle.fa_tree.specs.declared.file as declared
use Rattle.fa_tree.specs.declared.files.CountedFile.{CountedFile}
use Rattle.fa_tree.specs.State.{File, file_cmp}

abbrev pub file_shown : declared.File.File → File
file_shown f = record { kind = f.kind; bits = f.bits; bytes = f.contents }

-- what the table of files shows
abbrev pub files_shown : List (FileId × CountedFile) → FinMap file_cmp File
files_shown table = from_entries (map (λ entry. (entry.0, file_shown entry.1.file)) table)

-- a file with other permission bits
abbrev pub with_bits : ℕ → File → File
with_bits bits file = record { kind = file.kind; bits = bits; bytes = file.bytes }

-- a file with its bytes changed
abbrev pub with_bytes : (List ℕ → List ℕ) → File → File
with_bytes change file = record { kind = file.kind; bits = file.bits; bytes = change file.bytes }
