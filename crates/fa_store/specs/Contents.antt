-- The bytes of a file, as they are read, written, cut and filled.
use Rattle.std.specs.Prelude.{◌≡◌, ℕ, ◌+◌, ◌-◌, ◌==◌, if◌then◌else◌, Bool, true, false, List, ◌++◌, length, replicate, take, drop}

-- the bytes, with zeros behind them up to this length, if they are fewer
abbrev pub filled : List ℕ → ℕ → List ℕ
filled bytes size = bytes ++ replicate (size - length bytes) 0

-- bytes that are cut to this length or filled with zeros up to it (POSIX ftruncate)
abbrev pub resized : List ℕ → ℕ → List ℕ
resized bytes size = take size (filled bytes size)

-- Bytes after these were written at this offset: what lies between the old end and the offset are zeros. Where none are
-- written nothing changes.
abbrev pub written : List ℕ → (offset : ℕ) → List ℕ → List ℕ
written bytes offset payload =
    (if length payload == 0 then bytes else take offset (filled bytes offset) ++ (payload ++ drop (offset + length payload) bytes))

-- the bytes that there are from this offset on, at most so many
abbrev pub readable : List ℕ → (offset size : ℕ) → List ℕ
readable bytes offset size = take size (drop offset bytes)

-- READ gives exactly the bytes that it asks for, fewer at the end of the file alone (this profile; POSIX lets read give fewer).
-- On a direct handle it may give any front of them, none or all among these.
abbrev pub IsReadAs : (direct : Bool) → (asked given : List ℕ) → Type 0
IsReadAs true asked given = (rest : List ℕ) × (asked ≡ given ++ rest)
IsReadAs false asked given = given ≡ asked
