-- What a tree tells of itself, for whoever says why it judged so.
use Rattle.std.specs.Prelude.{◌≡◌, ◌≢◌, ℕ, List, length, count_by, Some}
use Rattle.std.specs.FinMap.{get, entries}
use Rattle.std.specs.declared.cmp.Ordering.TheVariants.{Greater}
use Rattle.fa_capture.specs.Checks.{FirstFailure}
use Rattle.fa_ledger.specs.Calls.{PlainCall}
use Rattle.fa_ledger.specs.Operations.{PlainOperation, bare}
use Rattle.fa_ledger.specs.Operations.PlainOperation.{Lists, Acts}
use Rattle.fa_tree.specs.declared.error.StepError.{StepError}
use Rattle.fa_tree.specs.declared.error.StepError.TheVariants.{Refused, Memory}
use Rattle.fa_tree.specs.declared.id.FileId.{FileId}
use Rattle.fa_tree.specs.declared.telling.FileFacts.{FileFacts}
use Rattle.fa_tree.specs.State.{File, Store, TreeState, place_cmp, file_eq, HasName, links}
use Rattle.fa_tree.specs.Resolved.{Resolved, resolved}
use Rattle.fa_tree.specs.Rules.{Rule}
use Rattle.fa_tree.specs.Operations.{rule}
use Rattle.fa_tree.specs.Refusals.{DoneAnd}

-- What is told of a file is so: its type, its permission bits, how many bytes it has, and how many names.
pub record AreFactsTold (s : Store) (id : FileId) (facts : FileFacts) : Type 0 where
  pub file : File
  pub there : get s.files id ≡ Some file
  pub kind : facts.kind ≡ file.kind
  pub bits : facts.bits ≡ file.bits
  pub size : facts.size ≡ length file.bytes
  pub names : facts.names ≡ links s id

-- how many names are in a directory
abbrev pub names_inside : Store → (directory : FileId) → ℕ
names_inside s directory = count_by (λ entry. file_eq entry.0.0 directory) (entries s.names)

-- the directory has the name for the file, and no place that has one for it comes before this
pub record IsLeastName (s : Store) (directory : FileId) (name : List ℕ) (file : FileId) : Type 0 where
  pub named : HasName s directory name file
  pub least : (other : FileId) (other_name : List ℕ) → HasName s other other_name file → place_cmp (directory, name) (other, other_name) ≢ Greater

-- The tree knows what a call names, and this holds of the rule of its operation there.
abbrev pub OfRule : TreeState → PlainCall → (Rule → Type 0) → Type 0
OfRule t call Such = (x : Resolved) × (resolved t call ≡ Some x) × Such (rule t.store x call.operation)

-- What is told of a step that is not taken: the code of the first of these checks that fails. Or, of a request that lists and was not
-- answered by an error, want of memory: what was listed so far is looked through with memory.
abbrev pub Foretells : StepError → PlainOperation → List (ℕ × Type 0) → Type 0
Foretells (Refused code) o checks = FirstFailure checks code
Foretells Memory (Lists l) checks = DoneAnd (bare l.outcome) (Unit {0})
Foretells Memory (Acts a) checks = ⊥
