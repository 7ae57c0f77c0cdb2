-- What attributes are judged by.
use Rattle.std.specs.FinMap.{get}
use Rattle.std.specs.Prelude.{◌≡◌, ◌≢◌, ℕ, ◌+◌, Bool, true, false, if◌then◌else◌, List, [], ◌∷◌, length, Option, Some, None}
use Rattle.fa_bodies.specs.declared.attributes.Attributes.{Attributes}
use Rattle.fa_bodies.specs.declared.mode.Kind.{Kind}
use Rattle.fa_bodies.specs.declared.mode.Kind.TheVariants.{Directory, Regular, Symlink}
use Rattle.fa_bodies.specs.declared.setattr.SetattrIn.{SetattrIn}
use Rattle.fa_bodies.specs.FlagBits.{fattr_size}
use Rattle.fa_bodies.specs.Flags.{has_flag, fattr_bits}
use Rattle.fa_bodies.specs.Modes.{mode_bits, HasFileType}
use Rattle.fa_tree.specs.declared.id.FileId.TheVariants as file_id
use Rattle.fa_tree.specs.declared.id.FileId.{FileId}
use Rattle.fa_tree.specs.declared.facts.Facts.{Facts}
use Rattle.fa_tree.specs.Attributes.{permission_bits, Fits}
use Rattle.fa_tree.specs.Lookups.{bits_set}
use Rattle.fa_tree.specs.State.{File, Store, links}

-- they are those of this file
pub record AreFactsOf (s : Store) (id : FileId) (facts : Facts) : Type 0 where
  pub file : File
  pub there : get s.files id ≡ Some file
  pub kind : facts.kind ≡ file.kind
  pub bits : facts.bits ≡ file.bits
  pub size : facts.size ≡ length file.bytes
  pub names : links s id ≡ facts.links + (if facts.further then 1 else 0)

-- attributes fit them
pub record AreFit (facts : Facts) (attr : Attributes) : Type 0 where
  pub kind : HasFileType (mode_bits attr.mode) (Some facts.kind)
  pub bits : facts.kind ≢ Symlink → permission_bits (mode_bits attr.mode) ≡ facts.bits
  pub size : facts.kind ≡ Regular → attr.size ≡ facts.size
  pub nlink : facts.kind ≢ Directory → attr.nlink ≡ facts.links + (if facts.further then 1 else 0)

-- they are those of this file, if there are any; else there is no such file
abbrev pub AreFactsIfAny : Store → Option FileId → Option Facts → Type 0
AreFactsIfAny s found None = (file : FileId) → found ≡ Some file → get s.files file ≡ None
AreFactsIfAny s found (Some facts) = (file : FileId) × (found ≡ Some file) × AreFactsOf s file facts

-- they are those of a file that is made
pub record AreNewFacts (kind : Kind) (bits size : ℕ) (facts : Facts) : Type 0 where
  pub kind_is : facts.kind ≡ kind
  pub bits_are : facts.bits ≡ bits
  pub size_is : facts.size ≡ size
  pub one_name : facts.links + (if facts.further then 1 else 0) ≡ 1

-- they are those of this file, which gets a further name
abbrev pub AreFurtherFacts : Store → Option FileId → Option Facts → Type 0
AreFurtherFacts s found None = (file : FileId) → found ≡ Some file → get s.files file ≡ None
AreFurtherFacts s found (Some facts) =
    (file : FileId) × (before : Facts) × (found ≡ Some file) × (before.further ≡ false) × AreFactsOf s file before
    × (facts ≡ record { kind = before.kind; bits = before.bits; size = before.size; links = before.links; further = true })

-- how many bytes SETATTR leaves
abbrev pub size_set : SetattrIn → ℕ → ℕ
size_set a size = (if has_flag (fattr_bits a.valid) fattr_size then a.size else size)

-- they are those of this file, after SETATTR
abbrev pub AreSetFacts : Store → SetattrIn → FileId → Option Facts → Type 0
AreSetFacts s a id None = get s.files id ≡ None
AreSetFacts s a id (Some facts) =
    (before : Facts) × AreFactsOf s id before × (before.further ≡ false)
    × (facts ≡ record { kind = before.kind; bits = bits_set a before.kind before.bits; size = size_set a before.size; links = before.links; further = false })

-- they are those of this file, or of it when it is emptied
abbrev pub AreOpenedFacts : Store → (truncates : Bool) → FileId → Option Facts → Type 0
AreOpenedFacts s truncates id None = get s.files id ≡ None
AreOpenedFacts s truncates id (Some facts) =
    (before : Facts) × AreFactsOf s id before
    × (facts ≡ record { kind = before.kind; bits = before.bits; size = (if truncates then 0 else before.size); links = before.links; further = before.further })

-- they are those of this file, or of it when it is emptied, if one was found, else of a regular one that is made
abbrev pub AreCreatedFacts : Store → (truncates : Bool) → Option FileId → (bits : ℕ) → Option Facts → Type 0
AreCreatedFacts s truncates (Some file) bits facts = AreOpenedFacts s truncates file facts
AreCreatedFacts s truncates None bits None = ⊥
AreCreatedFacts s truncates None bits (Some facts) = AreNewFacts Regular bits 0 facts

-- a file that was found, else the one that this request makes
abbrev pub IsFoundOrMade : (asked : ℕ) → Option FileId → (file : FileId) → Type 0
IsFoundOrMade asked (Some found) file = file ≡ found
IsFoundOrMade asked None file = file ≡ file_id.Made asked

-- attributes are those of this file
abbrev pub SpokenFit : Store → Option FileId → Attributes → Type 0
SpokenFit s found attr = (file : FileId) × (found ≡ Some file) × Fits s file attr

-- attributes fit them, if there are any
abbrev pub FitIfAny : Option Facts → Attributes → Type 0
FitIfAny None attr = ⊥
FitIfAny (Some facts) attr = AreFit facts attr

-- the files for which an answer gives nodes are this one, or none; no file also where the name of an entry is not there
abbrev pub AreFilesGiven : List (Option FileId) → Option FileId → Type 0
AreFilesGiven [] file = file ≡ None
AreFilesGiven (one ∷ files) file = (file ≡ one) × (files ≡ [])
