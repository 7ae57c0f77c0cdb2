-- The numbers of fuse.h and errno.h. Definitions speak of them by the names of the code's constants; here each constant
-- is tied to its number.
use Rattle.std.specs.Prelude.{ℕ, ◌==◌, ℤ, negsuc, List, [], ◌∷◌, IsTrue}
use Rattle.std.specs.List.{list_all}
use Rattle.std.specs.Ordering.{int_eq}
use Rattle.fa_bodies.specs.declared.opcodes.TheConstants.{LOOKUP, FORGET, GETATTR, SETATTR, READLINK, SYMLINK, MKNOD, MKDIR, UNLINK, RMDIR, RENAME, LINK, OPEN, READ, WRITE, STATFS, RELEASE, FSYNC, SETXATTR, GETXATTR, LISTXATTR, REMOVEXATTR, FLUSH, INIT, OPENDIR, READDIR, RELEASEDIR, FSYNCDIR, GETLK, SETLK, SETLKW, ACCESS, CREATE, INTERRUPT, BMAP, DESTROY, IOCTL, POLL, BATCH_FORGET, FALLOCATE, READDIRPLUS, RENAME2, LSEEK, COPY_FILE_RANGE}
use Rattle.fa_bodies.specs.declared.errno.TheConstants.{ENOENT, EIO, EACCES, EEXIST, ENOTDIR, EISDIR, ENOSYS, ENOTEMPTY, EPROTO}

-- enum fuse_opcode of fuse.h, as far as it is read
abbrev pub opcode_numbers : List (ℕ × ℕ)
opcode_numbers =
    (LOOKUP, 1) ∷ (FORGET, 2) ∷ (GETATTR, 3) ∷ (SETATTR, 4) ∷ (READLINK, 5) ∷ (SYMLINK, 6)
    ∷ (MKNOD, 8) ∷ (MKDIR, 9) ∷ (UNLINK, 10) ∷ (RMDIR, 11) ∷ (RENAME, 12) ∷ (LINK, 13)
    ∷ (OPEN, 14) ∷ (READ, 15) ∷ (WRITE, 16) ∷ (STATFS, 17) ∷ (RELEASE, 18)
    ∷ (FSYNC, 20) ∷ (SETXATTR, 21) ∷ (GETXATTR, 22) ∷ (LISTXATTR, 23) ∷ (REMOVEXATTR, 24)
    ∷ (FLUSH, 25) ∷ (INIT, 26) ∷ (OPENDIR, 27) ∷ (READDIR, 28) ∷ (RELEASEDIR, 29) ∷ (FSYNCDIR, 30)
    ∷ (GETLK, 31) ∷ (SETLK, 32) ∷ (SETLKW, 33) ∷ (ACCESS, 34) ∷ (CREATE, 35) ∷ (INTERRUPT, 36)
    ∷ (BMAP, 37) ∷ (DESTROY, 38) ∷ (IOCTL, 39) ∷ (POLL, 40)
    ∷ (BATCH_FORGET, 42) ∷ (FALLOCATE, 43) ∷ (READDIRPLUS, 44) ∷ (RENAME2, 45) ∷ (LSEEK, 46) ∷ (COPY_FILE_RANGE, 47)
    ∷ []

-- errno.h of Linux, negated as in a reply: `negsuc n` is -(n + 1)
abbrev pub error_numbers : List (ℤ × ℤ)
error_numbers =
    (ENOENT, negsuc 1) ∷ (EIO, negsuc 4) ∷ (EACCES, negsuc 12) ∷ (EEXIST, negsuc 16) ∷ (ENOTDIR, negsuc 19)
    ∷ (EISDIR, negsuc 20) ∷ (ENOSYS, negsuc 37) ∷ (ENOTEMPTY, negsuc 38) ∷ (EPROTO, negsuc 70)
    ∷ []

-- each opcode has its number
abbrev pub OpcodesAreNumbered : Type 0
OpcodesAreNumbered = IsTrue (list_all (λ e. e.0 == e.1) opcode_numbers)

-- each error has its number
abbrev pub ErrorsAreNumbered : Type 0
ErrorsAreNumbered = IsTrue (list_all (λ e. int_eq e.0 e.1) error_numbers)
