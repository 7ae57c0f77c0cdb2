-- How messages lie in bytes: the fields of the structs of fuse.h one after the other, the lowest byte
-- of each first, and names behind them.
use Rattle.std.specs.Prelude.{◌≡◌, ℕ, ◌<◌, ◌^◌, ◌+◌, ℤ, List, [], ◌∷◌, ◌++◌, length}
use Rattle.std.specs.Int.{w32, w64, to_le_bytes, cast_unsigned}
use Rattle.std.specs.Int.RustNames.{FitsSigned}
use Rattle.fa_bodies.specs.Names.{IsName, IsTarget}

-- the four bytes of a number below 2 ^ 32
unfoldable pub le32 : ℕ → List ℕ
le32 n = to_le_bytes w32 n

-- the eight bytes of a number below 2 ^ 64
unfoldable pub le64 : ℕ → List ℕ
le64 n = to_le_bytes w64 n

-- A field with its value.
pub data Field : Type 0 where
  U32 : ℕ → Field
  U64 : ℕ → Field
  I32 : ℤ → Field
  -- a number of bytes that are not read: padding, and what is of no use here
  Unread : ℕ → Field
  -- a name, and the zero byte that ends it, as the kernel sends both
  Name : List ℕ → Field
  -- the target of a symbolic link, and the zero byte that ends it
  Target : List ℕ → Field

-- The bytes begin with the fields, one after the other, and the rest stands behind the last. Unread
-- bytes may be anything.
abbrev pub BeginsWith : List ℕ → List Field → List ℕ → Type 0
BeginsWith bytes [] rest = bytes ≡ rest
BeginsWith bytes (U32 n ∷ fields) rest =
    (n < 2 ^ 32) × (after : List ℕ) × (bytes ≡ le32 n ++ after) × BeginsWith after fields rest
BeginsWith bytes (U64 n ∷ fields) rest =
    (n < 2 ^ 64) × (after : List ℕ) × (bytes ≡ le64 n ++ after) × BeginsWith after fields rest
BeginsWith bytes (I32 z ∷ fields) rest =
    FitsSigned w32 z × (after : List ℕ) × (bytes ≡ le32 (cast_unsigned w32 z) ++ after)
    × BeginsWith after fields rest
BeginsWith bytes (Unread count ∷ fields) rest =
    (skipped : List ℕ) × (after : List ℕ) × (length skipped ≡ count) × (bytes ≡ skipped ++ after)
    × BeginsWith after fields rest
BeginsWith bytes (Name name ∷ fields) rest =
    IsName name × (after : List ℕ) × (bytes ≡ name ++ 0 ∷ after) × BeginsWith after fields rest
BeginsWith bytes (Target target ∷ fields) rest =
    IsTarget target × (after : List ℕ) × (bytes ≡ target ++ 0 ∷ after) × BeginsWith after fields rest

-- The bytes are the fields and nothing behind them.
abbrev pub IsSpelled : List ℕ → List Field → Type 0
IsSpelled bytes fields = BeginsWith bytes fields []

-- how many bytes the fields have
abbrev pub byte_count : List Field → ℕ
byte_count [] = 0
byte_count (U32 n ∷ fields) = 4 + byte_count fields
byte_count (U64 n ∷ fields) = 8 + byte_count fields
byte_count (I32 z ∷ fields) = 4 + byte_count fields
byte_count (Unread count ∷ fields) = count + byte_count fields
byte_count (Name name ∷ fields) = length name + 1 + byte_count fields
byte_count (Target target ∷ fields) = length target + 1 + byte_count fields
