-- The flags by their bits.
use Rattle.std.specs.Prelude.{ℕ, ◌^◌}

-- ---- flags of INIT (fuse.h)

-- FUSE_ATOMIC_O_TRUNC
abbrev pub atomic_o_trunc : ℕ
atomic_o_trunc = 2 ^ 3

-- FUSE_WRITEBACK_CACHE
abbrev pub writeback_cache : ℕ
writeback_cache = 2 ^ 16

-- FUSE_POSIX_ACL
abbrev pub posix_acl : ℕ
posix_acl = 2 ^ 20

-- ---- flags of GETATTR (fuse.h)

-- FUSE_GETATTR_FH
abbrev pub getattr_fh : ℕ
getattr_fh = 2 ^ 0

-- ---- flags of SETATTR (fuse.h)

-- FATTR_MODE
abbrev pub fattr_mode : ℕ
fattr_mode = 2 ^ 0

-- FATTR_SIZE
abbrev pub fattr_size : ℕ
fattr_size = 2 ^ 3

-- FATTR_FH
abbrev pub fattr_fh : ℕ
fattr_fh = 2 ^ 6

-- ---- flags of open (POSIX <fcntl.h>, with the generic numbers of Linux)

-- O_EXCL
abbrev pub o_excl : ℕ
o_excl = 2 ^ 7

-- O_TRUNC
abbrev pub o_trunc : ℕ
o_trunc = 2 ^ 9

-- ---- flags of an open file (fuse.h)

-- FOPEN_DIRECT_IO
abbrev pub fopen_direct_io : ℕ
fopen_direct_io = 2 ^ 0
