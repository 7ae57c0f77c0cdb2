-- READ and WRITE (POSIX pread and pwrite).
use Rattle.std.specs.FinMap.{get}
use Rattle.std.specs.Prelude.{◌≡◌, ℕ, Bool, List, [], take, Some}
use Rattle.fa_store.specs.Contents.{IsReadAs, readable, written}
use Rattle.fa_ledger.specs.declared.operation.Outcome.{Outcome}
use Rattle.fa_tree.specs.declared.id.FileId.{FileId}
use Rattle.fa_tree.specs.State.{File, Store, IsDirectory, IsLinked, IsRegular}
use Rattle.fa_tree.specs.Rules.{Rule, Said, bytes_said, if_done, with_file}

-- the bytes are so read from this file
abbrev pub IsReadFrom : Store → FileId → (direct : Bool) → (offset size : ℕ) → (given : List ℕ) → Type 0
IsReadFrom s id direct offset size given =
    (file : File) × (get s.files id ≡ Some file) × IsReadAs direct (readable file.bytes offset size) given

-- the file after so many bytes were written from the front of a payload
abbrev pub file_written : (offset : ℕ) → (payload : List ℕ) → (count : ℕ) → File → File
file_written offset payload count file = record {
  kind = file.kind;
  bits = file.bits;
  bytes = written file.bytes offset (take count payload);
}

abbrev pub read_rule : Store → (file : FileId) → Rule
read_rule s file = record {
  needs = IsRegular s file;
  edits = [];
  files = λ truncates count. s.files;
  missing = IsLinked s file → ⊥;
  taken = ⊥;
  no_directory = ⊥;
  a_directory = IsDirectory s file;
  not_empty = ⊥;
}

abbrev pub read_said : Store → (file : FileId) → (direct : Bool) → (offset size : ℕ) → Outcome (List ℕ) → Said
read_said s file direct offset size o = if_done o (λ bytes. bytes_said (IsReadFrom s file direct offset size bytes))

-- its answer says how many bytes were written, and so what became of the file
abbrev pub write_rule : Store → (file : FileId) → (offset : ℕ) → (payload : List ℕ) → Rule
write_rule s file offset payload = record {
  needs = IsRegular s file;
  edits = [];
  files = λ truncates count. with_file s.files file (file_written offset payload count);
  missing = IsLinked s file → ⊥;
  taken = ⊥;
  no_directory = ⊥;
  a_directory = IsDirectory s file;
  not_empty = ⊥;
}
