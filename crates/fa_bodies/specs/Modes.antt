-- Modes of files: st_mode of POSIX <sys/stat.h>, with the numbers of Linux (<linux/stat.h>), which are
-- octal there.
use Rattle.std.specs.Prelude.{◌≡◌, ◌≢◌, ℕ, ◌⊎◌, ◌*◌, ◌^◌, Option, Some, None}
use Rattle.std.specs.Int.RustNames.{bit_and}
use Rattle.fa_bodies.specs.declared.mode.Mode.{Mode}
use Rattle.fa_bodies.specs.declared.mode.Kind.{Kind}
use Rattle.fa_bodies.specs.declared.mode.Kind.TheVariants.{Fifo, CharDevice, Directory, BlockDevice, Regular, Symlink, Socket}

-- the bits of a mode
abbrev pub mode_bits : Mode → ℕ
mode_bits m = m.0

-- the part of a mode that tells the type: its bits in 0170000 (S_IFMT)
abbrev pub type_bits : ℕ → ℕ
type_bits mode = bit_and mode (15 * 2 ^ 12)

-- this part for each type (S_IFIFO, S_IFCHR, ..)
abbrev pub type_number : Kind → ℕ
type_number Fifo = 1 * 2 ^ 12  -- 0010000
type_number CharDevice = 2 * 2 ^ 12  -- 0020000
type_number Directory = 4 * 2 ^ 12  -- 0040000
type_number BlockDevice = 6 * 2 ^ 12  -- 0060000
type_number Regular = 8 * 2 ^ 12  -- 0100000
type_number Symlink = 10 * 2 ^ 12  -- 0120000
type_number Socket = 12 * 2 ^ 12  -- 0140000

-- the type that a mode tells, or that it tells none
abbrev pub HasFileType : ℕ → Option Kind → Type 0
HasFileType mode (Some t) = type_bits mode ≡ type_number t
HasFileType mode None = (t : Kind) → type_bits mode ≢ type_number t

-- A mode that MKNOD may give a file: of any type but a directory and a symbolic link. Type 0 stands
-- for a regular file.
abbrev pub IsNodeMode : ℕ → Type 0
IsNodeMode mode =
    (type_bits mode ≡ 0)
    ⊎ ((t : Kind) × HasFileType mode (Some t) × (t ≢ Directory) × (t ≢ Symlink))
