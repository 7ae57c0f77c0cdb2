-- The structs of fuse.h (protocol 7.31) that are read, field by field in the order of the C source.
use Rattle.std.specs.Prelude.{ℕ, ℤ, List, [], ◌∷◌}
use Rattle.fa_bodies.specs.declared.getattr.GetattrIn.{GetattrIn}
use Rattle.fa_bodies.specs.declared.setattr.SetattrIn.{SetattrIn}
use Rattle.fa_bodies.specs.declared.attributes.AttrOut.{AttrOut}
use Rattle.fa_bodies.specs.declared.attributes.Attributes.{Attributes}
use Rattle.fa_bodies.specs.declared.entry.EntryOut.{EntryOut}
use Rattle.fa_bodies.specs.declared.flags.OpenFlags.{OpenFlags}
use Rattle.fa_bodies.specs.declared.handles.FlushIn.{FlushIn}
use Rattle.fa_bodies.specs.declared.handles.OpenIn.{OpenIn}
use Rattle.fa_bodies.specs.declared.handles.OpenOut.{OpenOut}
use Rattle.fa_bodies.specs.declared.handles.ReadIn.{ReadIn}
use Rattle.fa_bodies.specs.declared.handles.ReleaseIn.{ReleaseIn}
use Rattle.fa_bodies.specs.declared.init.InitIn.{InitIn}
use Rattle.fa_bodies.specs.declared.init.Negotiated.{Negotiated}
use Rattle.fa_bodies.specs.declared.mode.Mode.{Mode}
use Rattle.fa_bodies.specs.Flags.{init_bits, getattr_bits, fattr_bits, open_bits, fopen_bits}
use Rattle.fa_bodies.specs.Modes.{mode_bits}
use Rattle.fa_bodies.specs.Fields.{Field}
use Rattle.fa_bodies.specs.Fields.Field.{U32, U64, I32, Unread}

-- struct fuse_in_header, 40 bytes: uid, gid, pid and padding are not read
abbrev pub in_header : (len opcode unique nodeid : ℕ) → List Field
in_header len opcode unique nodeid = U32 len ∷ U32 opcode ∷ U64 unique ∷ U64 nodeid ∷ Unread 16 ∷ []

-- struct fuse_out_header, 16 bytes
abbrev pub out_header : (len : ℕ) (error : ℤ) (unique : ℕ) → List Field
out_header len error unique = U32 len ∷ I32 error ∷ U64 unique ∷ []

-- struct fuse_init_in, 16 bytes
abbrev pub init_in : InitIn → List Field
init_in i = U32 i.major ∷ U32 i.minor ∷ U32 i.max_readahead ∷ U32 (init_bits i.flags) ∷ []

-- struct fuse_init_out, the first 16 of its 64 bytes
abbrev pub init_out : Negotiated → List Field
init_out n = U32 n.major ∷ U32 n.minor ∷ U32 n.max_readahead ∷ U32 (init_bits n.flags) ∷ []

-- struct fuse_attr, 88 bytes: the padding is not read
abbrev pub attr : Attributes → List Field
attr a =
    U64 a.ino ∷ U64 a.size ∷ U64 a.blocks ∷ U64 a.atime ∷ U64 a.mtime ∷ U64 a.ctime
    ∷ U32 a.atimensec ∷ U32 a.mtimensec ∷ U32 a.ctimensec ∷ U32 (mode_bits a.mode) ∷ U32 a.nlink
    ∷ U32 a.uid ∷ U32 a.gid ∷ U32 a.rdev ∷ U32 a.blksize ∷ Unread 4 ∷ []

-- struct fuse_entry_out, 128 bytes
abbrev pub entry_out : EntryOut → List Field
entry_out e =
    U64 e.nodeid ∷ U64 e.generation ∷ U64 e.entry_valid ∷ U64 e.attr_valid
    ∷ U32 e.entry_valid_nsec ∷ U32 e.attr_valid_nsec ∷ attr e.attr

-- struct fuse_forget_in, 8 bytes
abbrev pub forget_in : (nlookup : ℕ) → List Field
forget_in nlookup = U64 nlookup ∷ []

-- struct fuse_getattr_in, 16 bytes: dummy is not read
abbrev pub getattr_in : GetattrIn → List Field
getattr_in g = U32 (getattr_bits g.getattr_flags) ∷ Unread 4 ∷ U64 g.fh ∷ []

-- struct fuse_setattr_in, 88 bytes: padding and both unused fields are not read
abbrev pub setattr_in : SetattrIn → List Field
setattr_in s =
    U32 (fattr_bits s.valid) ∷ Unread 4 ∷ U64 s.fh ∷ U64 s.size ∷ U64 s.lock_owner
    ∷ U64 s.atime ∷ U64 s.mtime ∷ U64 s.ctime ∷ U32 s.atimensec ∷ U32 s.mtimensec ∷ U32 s.ctimensec
    ∷ U32 (mode_bits s.mode) ∷ Unread 4 ∷ U32 s.uid ∷ U32 s.gid ∷ Unread 4 ∷ []

-- struct fuse_mknod_in, 16 bytes: padding is not read
abbrev pub mknod_in : (mode : Mode) (rdev umask : ℕ) → List Field
mknod_in mode rdev umask = U32 (mode_bits mode) ∷ U32 rdev ∷ U32 umask ∷ Unread 4 ∷ []

-- struct fuse_mkdir_in, 8 bytes
abbrev pub mkdir_in : (mode : Mode) (umask : ℕ) → List Field
mkdir_in mode umask = U32 (mode_bits mode) ∷ U32 umask ∷ []

-- struct fuse_rename_in, 8 bytes
abbrev pub rename_in : (newdir : ℕ) → List Field
rename_in newdir = U64 newdir ∷ []

-- struct fuse_rename2_in, 16 bytes: padding is not read
abbrev pub rename2_in : (newdir flags : ℕ) → List Field
rename2_in newdir flags = U64 newdir ∷ U32 flags ∷ Unread 4 ∷ []

-- struct fuse_link_in, 8 bytes
abbrev pub link_in : (oldnodeid : ℕ) → List Field
link_in oldnodeid = U64 oldnodeid ∷ []

-- struct fuse_open_in, 8 bytes: unused is not read
abbrev pub open_in : OpenIn → List Field
open_in o = U32 (open_bits o.flags) ∷ Unread 4 ∷ []

-- struct fuse_read_in, 40 bytes: padding is not read
abbrev pub read_in : ReadIn → List Field
read_in r =
    U64 r.fh ∷ U64 r.offset ∷ U32 r.size ∷ U32 r.read_flags ∷ U64 r.lock_owner ∷ U32 (open_bits r.flags)
    ∷ Unread 4 ∷ []

-- struct fuse_write_in, 40 bytes: padding is not read
abbrev pub write_in : (fh offset size write_flags lock_owner : ℕ) (flags : OpenFlags) → List Field
write_in fh offset size write_flags lock_owner flags =
    U64 fh ∷ U64 offset ∷ U32 size ∷ U32 write_flags ∷ U64 lock_owner ∷ U32 (open_bits flags)
    ∷ Unread 4 ∷ []

-- struct fuse_release_in, 24 bytes
abbrev pub release_in : ReleaseIn → List Field
release_in r = U64 r.fh ∷ U32 (open_bits r.flags) ∷ U32 r.release_flags ∷ U64 r.lock_owner ∷ []

-- struct fuse_flush_in, 24 bytes: unused and padding are not read
abbrev pub flush_in : FlushIn → List Field
flush_in f = U64 f.fh ∷ Unread 8 ∷ U64 f.lock_owner ∷ []

-- struct fuse_create_in, 16 bytes: padding is not read
abbrev pub create_in : (flags : OpenFlags) (mode : Mode) (umask : ℕ) → List Field
create_in flags mode umask = U32 (open_bits flags) ∷ U32 (mode_bits mode) ∷ U32 umask ∷ Unread 4 ∷ []

-- struct fuse_batch_forget_in, 8 bytes: dummy is not read
abbrev pub batch_forget_in : (count : ℕ) → List Field
batch_forget_in count = U32 count ∷ Unread 4 ∷ []

-- struct fuse_attr_out, 104 bytes: dummy is not read
abbrev pub attr_out : AttrOut → List Field
attr_out a = U64 a.attr_valid ∷ U32 a.attr_valid_nsec ∷ Unread 4 ∷ attr a.attr

-- struct fuse_open_out, 16 bytes: padding is not read
abbrev pub open_out : OpenOut → List Field
open_out o = U64 o.fh ∷ U32 (fopen_bits o.open_flags) ∷ Unread 4 ∷ []

-- struct fuse_write_out, 8 bytes: padding is not read
abbrev pub write_out : (size : ℕ) → List Field
write_out size = U32 size ∷ Unread 4 ∷ []

-- struct fuse_forget_one, 16 bytes
abbrev pub forget_one : (nodeid nlookup : ℕ) → List Field
forget_one nodeid nlookup = U64 nodeid ∷ U64 nlookup ∷ []

-- struct fuse_dirent before the name, 24 bytes
abbrev pub dirent_head : (ino off namelen kind : ℕ) → List Field
dirent_head ino off namelen kind = U64 ino ∷ U64 off ∷ U32 namelen ∷ U32 kind ∷ []
