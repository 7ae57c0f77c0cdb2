-- The entries that bytes hold, computed, since what an iterator has left must be a function. Nothing is to
-- be learned here: `entries` ensures that these are the entries of `HoldsEntries`, and bytes hold one such
-- list.
use Rattle.std.specs.Prelude.{◌==◌, ℕ, zero, suc, ◌+◌, ◌-◌, ◌%◌, ◌&&◌, not, Bool, true, false, if◌then◌else◌, nat_le, List, [], ◌∷◌, length, take, drop, Option, Some, None}
use Rattle.std.specs.Int.{w32, w64, from_le_bytes}
use Rattle.std.specs.List.{list_all}
use Rattle.std.specs.Option.{option_map_or}
use Rattle.fa_bodies.specs.declared.attributes.Attributes.{Attributes}
use Rattle.fa_bodies.specs.declared.entry.EntryOut.{EntryOut}
use Rattle.fa_bodies.specs.declared.dirent.Entries.{Entries}
use Rattle.fa_bodies.specs.declared.names.TheConstants.{MAX_NAME}
use Rattle.fa_bodies.specs.Dirents.{PlainDirent}

-- the numbers in the first four and eight bytes
abbrev pub u32_in : List ℕ → ℕ
u32_in bytes = from_le_bytes w32 (take 4 bytes)

abbrev pub u64_in : List ℕ → ℕ
u64_in bytes = from_le_bytes w64 (take 8 bytes)

-- the attributes in the first 88 bytes
unfoldable pub attributes_in : List ℕ → Attributes
attributes_in bytes =
    record {
      ino = u64_in bytes;
      size = u64_in (drop 8 bytes);
      blocks = u64_in (drop 16 bytes);
      atime = u64_in (drop 24 bytes);
      mtime = u64_in (drop 32 bytes);
      ctime = u64_in (drop 40 bytes);
      atimensec = u32_in (drop 48 bytes);
      mtimensec = u32_in (drop 52 bytes);
      ctimensec = u32_in (drop 56 bytes);
      mode = record { 0 = u32_in (drop 60 bytes) };
      nlink = u32_in (drop 64 bytes);
      uid = u32_in (drop 68 bytes);
      gid = u32_in (drop 72 bytes);
      rdev = u32_in (drop 76 bytes);
      blksize = u32_in (drop 80 bytes);
    }

-- the entry_out in the first 128 bytes
unfoldable pub entry_out_in : List ℕ → EntryOut
entry_out_in bytes =
    record {
      nodeid = u64_in bytes;
      generation = u64_in (drop 8 bytes);
      entry_valid = u64_in (drop 16 bytes);
      attr_valid = u64_in (drop 24 bytes);
      entry_valid_nsec = u32_in (drop 32 bytes);
      attr_valid_nsec = u32_in (drop 36 bytes);
      attr = attributes_in (drop 40 bytes);
    }

-- a test of the name of a directory entry
abbrev pub is_listed_name : List ℕ → Bool
is_listed_name name =
    nat_le 1 (length name) && nat_le (length name) MAX_NAME && list_all (λ b. not (b == 0) && not (b == 47)) name

-- so many bytes and their padding
abbrev pub padded : ℕ → ℕ
padded count = count + (8 - count % 8) % 8

-- the directory entry at the front of bytes behind its entry_out, and what stands behind it
unfoldable pub first_dirent : Option EntryOut → List ℕ → Option (PlainDirent × List ℕ)
first_dirent entry bytes =
    let namelen = u32_in (drop 16 bytes) in
    let name = take namelen (drop 24 bytes) in
    let whole = 24 + padded namelen in
    let found : PlainDirent =
    record {
      ino = u64_in bytes;
      off = u64_in (drop 8 bytes);
      kind = u32_in (drop 20 bytes);
      name = name;
      entry = entry;
    } in
    (if nat_le whole (length bytes) && is_listed_name name then Some (found, drop whole bytes) else None)

-- the directory entry at the front of bytes, and what stands behind it
unfoldable pub first_entry : (plus : Bool) → List ℕ → Option (PlainDirent × List ℕ)
first_entry false bytes = first_dirent None bytes
first_entry true bytes =
    (if nat_le 128 (length bytes) then first_dirent (Some (entry_out_in bytes)) (drop 128 bytes) else None)

-- the entries at the front of bytes, of which there are at most so many
unfoldable pub first_entries : ℕ → (plus : Bool) → List ℕ → List PlainDirent
first_entries zero plus bytes = []
first_entries (suc count) plus bytes =
    option_map_or (λ found. found.0 ∷ first_entries count plus found.1) (first_entry plus bytes) []

-- the entries that the bytes hold, of which there are no more than bytes
unfoldable pub entries_in : (plus : Bool) → List ℕ → List PlainDirent
entries_in plus bytes = first_entries (length bytes) plus bytes

-- the entries are those of a READDIRPLUS
abbrev pub is_plus : Entries → Bool
is_plus it = it.plus

-- the entries that the iterator has not yielded
abbrev pub entries_left : Entries → List PlainDirent
entries_left it = entries_in it.plus it.bytes.now
