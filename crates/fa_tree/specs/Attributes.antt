-- Attributes of a reply against a file (st_mode, st_size and st_nlink of POSIX <sys/stat.h>; this profile judges no others).
use Rattle.std.specs.FinMap.{get}
use Rattle.std.specs.Prelude.{◌≡◌, ◌≢◌, ℕ, length, Some}
use Rattle.std.specs.Int.RustNames.{bit_and}
use Rattle.fa_bodies.specs.declared.attributes.Attributes.{Attributes}
use Rattle.fa_bodies.specs.declared.mode.Kind.TheVariants.{Directory, Regular, Symlink}
use Rattle.fa_bodies.specs.Modes.{mode_bits, HasFileType}
use Rattle.fa_tree.specs.declared.id.FileId.{FileId}
use Rattle.fa_tree.specs.State.{File, Store, links}

-- all permission bits, 0777: S_IRWXU, S_IRWXG and S_IRWXO of POSIX <sys/stat.h>
abbrev pub all_bits : ℕ
all_bits = 511

-- the permission bits of a mode
abbrev pub permission_bits : ℕ → ℕ
permission_bits mode = bit_and mode all_bits

-- The attributes are those of the file: its type; its permission bits, unless it is a symbolic link; its size, if it is
-- regular; and how many names it has, unless it is a directory.
pub record Fits (s : Store) (id : FileId) (attr : Attributes) : Type 0 where
  pub file : File
  pub there : get s.files id ≡ Some file
  pub kind : HasFileType (mode_bits attr.mode) (Some file.kind)
  pub bits : file.kind ≢ Symlink → permission_bits (mode_bits attr.mode) ≡ file.bits
  pub size : file.kind ≡ Regular → attr.size ≡ length file.bytes
  pub nlink : file.kind ≢ Directory → attr.nlink ≡ links s id
