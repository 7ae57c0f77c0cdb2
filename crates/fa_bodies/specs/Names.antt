-- Names and targets in requests.
use Rattle.std.specs.Prelude.{◌≢◌, ℕ, ◌≤◌, List, length, All, codes}
use Rattle.fa_bodies.specs.declared.names.TheConstants.{MAX_NAME}

-- a byte that a name may have: neither zero nor a slash
abbrev pub IsNameByte : ℕ → Type 0
IsNameByte b = (b ≢ 0) × (b ≢ 47)

-- A filename of POSIX (no zero byte, no slash) of 1 to MAX_NAME bytes.
pub record IsFilename (name : List ℕ) : Type 0 where
  pub not_empty : 1 ≤ length name
  pub not_too_long : length name ≤ MAX_NAME
  pub each_byte : All IsNameByte name

-- A name in a request: a filename that is neither `.` nor `..`.
pub record IsName (name : List ℕ) : Type 0 where
  pub filename : IsFilename name
  pub not_dot : name ≢ codes "."
  pub not_dot_dot : name ≢ codes ".."

-- none of the bytes is this one
abbrev pub LacksByte : (byte : ℕ) → List ℕ → Type 0
LacksByte byte bytes = All (λ b. b ≢ byte) bytes

-- no byte is zero
abbrev pub HasNoZero : List ℕ → Type 0
HasNoZero bytes = LacksByte 0 bytes

-- The target of a symbolic link (POSIX symlink): one byte or more, none of them zero. Slashes, `.` and
-- `..` may stand in it.
abbrev pub IsTarget : List ℕ → Type 0
IsTarget target = (1 ≤ length target) × HasNoZero target
