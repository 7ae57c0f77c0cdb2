-- A struct is known by its fields.
use Rattle.std.proofs.Common.{◌≡◌, ℕ, List, ◌∷◌, ap, refl}
use Rattle.fa_bodies.specs.declared.getattr.GetattrIn.{GetattrIn}
use Rattle.fa_bodies.specs.declared.setattr.SetattrIn.{SetattrIn}
use Rattle.fa_bodies.specs.declared.attributes.AttrOut.{AttrOut}
use Rattle.fa_bodies.specs.declared.attributes.Attributes.{Attributes}
use Rattle.fa_bodies.specs.declared.entry.EntryOut.{EntryOut}
use Rattle.fa_bodies.specs.declared.handles.FlushIn.{FlushIn}
use Rattle.fa_bodies.specs.declared.handles.OpenIn.{OpenIn}
use Rattle.fa_bodies.specs.declared.handles.OpenOut.{OpenOut}
use Rattle.fa_bodies.specs.declared.handles.ReadIn.{ReadIn}
use Rattle.fa_bodies.specs.declared.handles.ReleaseIn.{ReleaseIn}
use Rattle.fa_bodies.specs.declared.init.InitIn.{InitIn}
use Rattle.fa_bodies.specs.declared.init.Negotiated.{Negotiated}
use Rattle.fa_bodies.specs.Fields.{Field, BeginsWith}
use Rattle.fa_bodies.specs.Fields.Field.{U32, U64, Unread}
use Rattle.fa_bodies.specs.Structs.{attr, entry_out, init_in, init_out, getattr_in, setattr_in, open_in, read_in, release_in, flush_in, attr_out, open_out, write_out}
use Rattle.fa_bodies.proofs.FieldLaws.{fields-one}

-- Each struct from its fields; what other fields give is of no interest.

abbrev attr_of : Attributes → List Field → Attributes
attr_of other (U64 ino ∷ U64 size ∷ U64 blocks ∷ U64 atime ∷ U64 mtime ∷ U64 ctime ∷ U32 atimensec ∷ U32 mtimensec ∷ U32 ctimensec ∷ U32 mode ∷ U32 nlink ∷ U32 uid ∷ U32 gid ∷ U32 rdev ∷ U32 blksize ∷ rest) =
    record { ino = ino; size = size; blocks = blocks; atime = atime; mtime = mtime; ctime = ctime; atimensec = atimensec; mtimensec = mtimensec; ctimensec = ctimensec; mode = record { 0 = mode }; nlink = nlink; uid = uid; gid = gid; rdev = rdev; blksize = blksize }
attr_of other _ = other

abbrev entry_of : EntryOut → List Field → EntryOut
entry_of other (U64 nodeid ∷ U64 generation ∷ U64 entry_valid ∷ U64 attr_valid ∷ U32 entry_valid_nsec ∷ U32 attr_valid_nsec ∷ rest) =
    record { nodeid = nodeid; generation = generation; entry_valid = entry_valid; attr_valid = attr_valid; entry_valid_nsec = entry_valid_nsec; attr_valid_nsec = attr_valid_nsec; attr = attr_of other.attr rest }
entry_of other _ = other

abbrev init_in_of : InitIn → List Field → InitIn
init_in_of other (U32 major ∷ U32 minor ∷ U32 max_readahead ∷ U32 flags ∷ rest) =
    record { major = major; minor = minor; max_readahead = max_readahead; flags = record { 0 = flags } }
init_in_of other _ = other

abbrev init_out_of : Negotiated → List Field → Negotiated
init_out_of other (U32 major ∷ U32 minor ∷ U32 max_readahead ∷ U32 flags ∷ rest) =
    record { major = major; minor = minor; max_readahead = max_readahead; flags = record { 0 = flags } }
init_out_of other _ = other

abbrev getattr_of : GetattrIn → List Field → GetattrIn
getattr_of other (U32 flags ∷ Unread n ∷ U64 fh ∷ rest) = record { getattr_flags = record { 0 = flags }; fh = fh }
getattr_of other _ = other

abbrev setattr_of : SetattrIn → List Field → SetattrIn
setattr_of other (U32 valid ∷ Unread m ∷ U64 fh ∷ U64 size ∷ U64 lock_owner ∷ U64 atime ∷ U64 mtime ∷ U64 ctime ∷ U32 atimensec ∷ U32 mtimensec ∷ U32 ctimensec ∷ U32 mode ∷ Unread n ∷ U32 uid ∷ U32 gid ∷ rest) =
    record { valid = record { 0 = valid }; fh = fh; size = size; lock_owner = lock_owner; atime = atime; mtime = mtime; ctime = ctime; atimensec = atimensec; mtimensec = mtimensec; ctimensec = ctimensec; mode = record { 0 = mode }; uid = uid; gid = gid }
setattr_of other _ = other

abbrev open_of : OpenIn → List Field → OpenIn
open_of other (U32 flags ∷ rest) = record { flags = record { 0 = flags } }
open_of other _ = other

abbrev read_of : ReadIn → List Field → ReadIn
read_of other (U64 fh ∷ U64 offset ∷ U32 size ∷ U32 read_flags ∷ U64 lock_owner ∷ U32 flags ∷ rest) =
    record { fh = fh; offset = offset; size = size; read_flags = read_flags; lock_owner = lock_owner; flags = record { 0 = flags } }
read_of other _ = other

abbrev release_of : ReleaseIn → List Field → ReleaseIn
release_of other (U64 fh ∷ U32 flags ∷ U32 release_flags ∷ U64 lock_owner ∷ rest) =
    record { fh = fh; flags = record { 0 = flags }; release_flags = release_flags; lock_owner = lock_owner }
release_of other _ = other

abbrev flush_of : FlushIn → List Field → FlushIn
flush_of other (U64 fh ∷ Unread n ∷ U64 lock_owner ∷ rest) = record { fh = fh; lock_owner = lock_owner }
flush_of other _ = other

abbrev attr_out_of : AttrOut → List Field → AttrOut
attr_out_of other (U64 attr_valid ∷ U32 attr_valid_nsec ∷ Unread n ∷ rest) =
    record { attr_valid = attr_valid; attr_valid_nsec = attr_valid_nsec; attr = attr_of other.attr rest }
attr_out_of other _ = other

abbrev open_out_of : OpenOut → List Field → OpenOut
open_out_of other (U64 fh ∷ U32 flags ∷ rest) = record { fh = fh; open_flags = record { 0 = flags } }
open_out_of other _ = other

abbrev write_out_of : List Field → ℕ
write_out_of (U32 size ∷ rest) = size
write_out_of _ = 0

-- bytes begin with at most one struct of a kind

pub entry-one : (a b : EntryOut) (bytes r s : List ℕ) → BeginsWith bytes (entry_out a) r → BeginsWith bytes (entry_out b) s → a ≡ b
entry-one a b bytes r s p q = ap (entry_of a) (fields-one (entry_out a) (entry_out b) bytes r s (refl, tt) p q).0

pub attr-one : (a b : Attributes) (bytes r s : List ℕ) → BeginsWith bytes (attr a) r → BeginsWith bytes (attr b) s → a ≡ b
attr-one a b bytes r s p q = ap (attr_of a) (fields-one (attr a) (attr b) bytes r s (refl, tt) p q).0

pub init_in-one : (a b : InitIn) (bytes r s : List ℕ) → BeginsWith bytes (init_in a) r → BeginsWith bytes (init_in b) s → a ≡ b
init_in-one a b bytes r s p q = ap (init_in_of a) (fields-one (init_in a) (init_in b) bytes r s tt p q).0

pub init_out-one : (a b : Negotiated) (bytes r s : List ℕ) → BeginsWith bytes (init_out a) r → BeginsWith bytes (init_out b) s → a ≡ b
init_out-one a b bytes r s p q = ap (init_out_of a) (fields-one (init_out a) (init_out b) bytes r s tt p q).0

pub getattr_in-one : (a b : GetattrIn) (bytes r s : List ℕ) → BeginsWith bytes (getattr_in a) r → BeginsWith bytes (getattr_in b) s → a ≡ b
getattr_in-one a b bytes r s p q = ap (getattr_of a) (fields-one (getattr_in a) (getattr_in b) bytes r s (refl, tt) p q).0

pub setattr_in-one : (a b : SetattrIn) (bytes r s : List ℕ) → BeginsWith bytes (setattr_in a) r → BeginsWith bytes (setattr_in b) s → a ≡ b
setattr_in-one a b bytes r s p q = ap (setattr_of a) (fields-one (setattr_in a) (setattr_in b) bytes r s (refl, (refl, (refl, tt))) p q).0

pub open_in-one : (a b : OpenIn) (bytes r s : List ℕ) → BeginsWith bytes (open_in a) r → BeginsWith bytes (open_in b) s → a ≡ b
open_in-one a b bytes r s p q = ap (open_of a) (fields-one (open_in a) (open_in b) bytes r s (refl, tt) p q).0

pub read_in-one : (a b : ReadIn) (bytes r s : List ℕ) → BeginsWith bytes (read_in a) r → BeginsWith bytes (read_in b) s → a ≡ b
read_in-one a b bytes r s p q = ap (read_of a) (fields-one (read_in a) (read_in b) bytes r s (refl, tt) p q).0

pub release_in-one : (a b : ReleaseIn) (bytes r s : List ℕ) → BeginsWith bytes (release_in a) r → BeginsWith bytes (release_in b) s → a ≡ b
release_in-one a b bytes r s p q = ap (release_of a) (fields-one (release_in a) (release_in b) bytes r s tt p q).0

pub flush_in-one : (a b : FlushIn) (bytes r s : List ℕ) → BeginsWith bytes (flush_in a) r → BeginsWith bytes (flush_in b) s → a ≡ b
flush_in-one a b bytes r s p q = ap (flush_of a) (fields-one (flush_in a) (flush_in b) bytes r s (refl, tt) p q).0

pub attr_out-one : (a b : AttrOut) (bytes r s : List ℕ) → BeginsWith bytes (attr_out a) r → BeginsWith bytes (attr_out b) s → a ≡ b
attr_out-one a b bytes r s p q = ap (attr_out_of a) (fields-one (attr_out a) (attr_out b) bytes r s (refl, (refl, tt)) p q).0

pub open_out-one : (a b : OpenOut) (bytes r s : List ℕ) → BeginsWith bytes (open_out a) r → BeginsWith bytes (open_out b) s → a ≡ b
open_out-one a b bytes r s p q = ap (open_out_of a) (fields-one (open_out a) (open_out b) bytes r s (refl, tt) p q).0

pub write_out-one : (a b : ℕ) (bytes r s : List ℕ) → BeginsWith bytes (write_out a) r → BeginsWith bytes (write_out b) s → a ≡ b
write_out-one a b bytes r s p q = ap write_out_of (fields-one (write_out a) (write_out b) bytes r s (refl, tt) p q).0
