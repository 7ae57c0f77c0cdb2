-- Directory entries, and which of them the payload of a READDIR or READDIRPLUS reply holds.
use Rattle.std.specs.Prelude.{◌≡◌, ℕ, ◌+◌, ◌%◌, ◌<◌, Bool, true, false, List, [], ◌∷◌, ◌++◌, length, Option, Some, None}
use Rattle.fa_bodies.specs.declared.dirent.Dirent.{Dirent}
use Rattle.fa_bodies.specs.declared.entry.EntryOut.{EntryOut}
use Rattle.fa_bodies.specs.Fields.{BeginsWith}
use Rattle.fa_bodies.specs.Names.{IsFilename}
use Rattle.fa_bodies.specs.Structs.{entry_out, dirent_head}

-- a directory entry, without where its name lies in memory
pub record PlainDirent : Type 0 where
  pub ino : ℕ
  pub off : ℕ
  pub kind : ℕ
  pub name : List ℕ
  pub entry : Option EntryOut

-- what a directory entry that was read shows
abbrev pub dirent_shown : Dirent → PlainDirent
dirent_shown d =
    record { ino = d.ino; off = d.off; kind = d.kind; name = d.name.now; entry = d.entry }

-- The bytes begin with this filename, which may be `.` or `..`, and padding behind it, as few bytes of
-- any content as make the whole struct fuse_dirent, which has 24 bytes before the name, a multiple of 8
-- (FUSE_DIRENT_ALIGN of fuse.h).
pub record IsPaddedName (bytes name rest : List ℕ) : Type 0 where
  pub padding : List ℕ
  pub spelled : bytes ≡ name ++ padding ++ rest
  pub filename : IsFilename name
  pub aligned : (24 + length name + length padding) % 8 ≡ 0
  pub least : length padding < 8

-- What stands before a struct fuse_dirent: a struct fuse_entry_out for READDIRPLUS (struct
-- fuse_direntplus), nothing for READDIR.
abbrev pub HasEntry : (plus : Bool) → List ℕ → Option EntryOut → List ℕ → Type 0
HasEntry true bytes (Some entry) rest = BeginsWith bytes (entry_out entry) rest
HasEntry true bytes None rest = ⊥
HasEntry false bytes (Some entry) rest = ⊥
HasEntry false bytes None rest = bytes ≡ rest

-- The bytes begin with this directory entry, and the rest stands behind its padding.
pub record IsDirent (plus : Bool) (bytes : List ℕ) (d : PlainDirent) (rest : List ℕ) : Type 0 where
  pub behind_entry : List ℕ
  pub behind_head : List ℕ
  pub entry : HasEntry plus bytes d.entry behind_entry
  pub head : BeginsWith behind_entry (dirent_head d.ino d.off (length d.name) d.kind) behind_head
  pub name : IsPaddedName behind_head d.name rest

-- The bytes begin with these entries, one after the other, and the rest stands behind the last.
abbrev pub AreEntries : (plus : Bool) → List ℕ → List PlainDirent → List ℕ → Type 0
AreEntries plus bytes [] rest = bytes ≡ rest
AreEntries plus bytes (d ∷ ds) rest =
    (after : List ℕ) × IsDirent plus bytes d after × AreEntries plus after ds rest

-- no entry stands at the front of the bytes
abbrev pub HasNoDirent : (plus : Bool) → List ℕ → Type 0
HasNoDirent plus bytes = (d : PlainDirent) (rest : List ℕ) → IsDirent plus bytes d rest → ⊥

-- The bytes hold these entries: what stands behind the last begins with no entry.
abbrev pub HoldsEntries : (plus : Bool) → List ℕ → List PlainDirent → Type 0
HoldsEntries plus bytes ds =
    (rest : List ℕ) × AreEntries plus bytes ds rest × HasNoDirent plus rest
