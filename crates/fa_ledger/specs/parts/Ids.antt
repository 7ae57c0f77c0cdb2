-- The ids of nodes in messages.
use Rattle.std.specs.Prelude.{◌≡◌, ℕ, nat_lt, Bool, if◌then◌else◌, List, length, take, drop}
use Rattle.std.specs.Int.{w64, from_le_bytes}
use Rattle.fa_ledger.specs.declared.giving.GivenNames.{GivenNames}
use Rattle.fa_ledger.specs.declared.giving.GivenNames.TheVariants.{One}
use Rattle.fa_ledger.specs.declared.name.NodeName.{NodeName}
use Rattle.fa_ledger.specs.declared.name.NodeName.TheVariants.{Root, Given}

-- The node id behind the first 16 bytes: in a request that of its node (`nodeid` of struct fuse_in_header of fuse.h), in a reply with an entry
-- that of the node which it gives (`nodeid` of struct fuse_entry_out). Fewer than 24 bytes have 0.
abbrev pub id_in : List ℕ → ℕ
id_in bytes = (if nat_lt (length bytes) 24 then 0 else from_le_bytes w64 (take 8 (drop 16 bytes)))

-- the id of the name stands there; the root's name has none
abbrev pub IsIdIn : List ℕ → NodeName → Type 0
IsIdIn bytes Root = Unit {0}
IsIdIn bytes (Given by id) = id_in bytes ≡ id

-- where it is one name, its id stands there; the names of a list stand whole
abbrev pub IsGivenIn : List ℕ → GivenNames → Type 0
IsGivenIn reply (One name) = IsIdIn reply name
IsGivenIn reply other = Unit {0}

-- the root's name, or that of the node with the id there
abbrev pub name_in : List ℕ → (is_root : Bool) (by : ℕ) → NodeName
name_in bytes is_root by = (if is_root then Root else Given by (id_in bytes))
