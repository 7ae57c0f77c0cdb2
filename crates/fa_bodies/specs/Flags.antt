-- What the flag words of messages show: their bits, those without a name included.
use Rattle.std.specs.Prelude.{◌≡◌, ◌==◌, ℕ, Bool}
use Rattle.std.specs.Int.RustNames.{bit_and}
use Rattle.fa_bodies.specs.declared.flags.InitFlags.{InitFlags}
use Rattle.fa_bodies.specs.declared.flags.GetattrFlags.{GetattrFlags}
use Rattle.fa_bodies.specs.declared.flags.FattrFlags.{FattrFlags}
use Rattle.fa_bodies.specs.declared.flags.OpenFlags.{OpenFlags}
use Rattle.fa_bodies.specs.declared.flags.FopenFlags.{FopenFlags}
use Rattle.fa_bodies.specs.declared.rename_flags.RenameFlags.{RenameFlags}
use Rattle.fa_bodies.specs.declared.rename_flags.RenameFlags.TheVariants.{Replace, NoReplace, Exchange}

-- flags of INIT
abbrev pub init_bits : InitFlags → ℕ
init_bits f = f.0

-- flags of GETATTR
abbrev pub getattr_bits : GetattrFlags → ℕ
getattr_bits f = f.0

-- the fields that count in a SETATTR
abbrev pub fattr_bits : FattrFlags → ℕ
fattr_bits f = f.0

-- how a file is opened
abbrev pub open_bits : OpenFlags → ℕ
open_bits f = f.0

-- how an open file may be used
abbrev pub fopen_bits : FopenFlags → ℕ
fopen_bits f = f.0

-- flags of RENAME2 that are judged (Linux <linux/fs.h>): none, RENAME_NOREPLACE and RENAME_EXCHANGE
abbrev pub rename_bits : RenameFlags → ℕ
rename_bits Replace = 0
rename_bits NoReplace = 1
rename_bits Exchange = 2

-- the flag word has this flag
abbrev pub HasFlag : ℕ → ℕ → Type 0
HasFlag flags flag = bit_and flags flag ≡ flag

-- and as a test
abbrev pub has_flag : ℕ → ℕ → Bool
has_flag flags flag = bit_and flags flag == flag
