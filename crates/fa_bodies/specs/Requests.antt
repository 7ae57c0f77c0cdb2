-- What bytes are a request, and which one.
use Rattle.std.specs.Prelude.{◌≡◌, ◌≢◌, ℕ, ◌≤◌, ◌+◌, ◌*◌, List, [], ◌∷◌, ◌++◌, length, ◌⊎◌}
use Rattle.fa_capture.specs.declared.codes.TheConstants.{HEADER_TOO_SHORT, LENGTH_FIELD, OPERATION, REQUEST_BODY, PROFILE_LIMIT}
use Rattle.fa_capture.specs.Checks.{checks_of}
use Rattle.fa_bodies.specs.declared.getattr.GetattrIn.{GetattrIn}
use Rattle.fa_bodies.specs.declared.setattr.SetattrIn.{SetattrIn}
use Rattle.fa_bodies.specs.declared.bodies.TheConstants.{MAX_FILE_BYTES}
use Rattle.fa_bodies.specs.declared.flags.OpenFlags.{OpenFlags}
use Rattle.fa_bodies.specs.declared.handles.FlushIn.{FlushIn}
use Rattle.fa_bodies.specs.declared.handles.OpenIn.{OpenIn}
use Rattle.fa_bodies.specs.declared.handles.ReadIn.{ReadIn}
use Rattle.fa_bodies.specs.declared.handles.ReleaseIn.{ReleaseIn}
use Rattle.fa_bodies.specs.declared.init.InitIn.{InitIn}
use Rattle.fa_bodies.specs.declared.mode.Mode.{Mode}
use Rattle.fa_bodies.specs.declared.opcodes.TheConstants.{LOOKUP, FORGET, GETATTR, SETATTR, READLINK, SYMLINK, MKNOD, MKDIR, UNLINK, RMDIR, RENAME, LINK, OPEN, READ, WRITE, STATFS, RELEASE, FSYNC, SETXATTR, GETXATTR, LISTXATTR, REMOVEXATTR, FLUSH, INIT, OPENDIR, READDIR, RELEASEDIR, FSYNCDIR, GETLK, SETLK, SETLKW, ACCESS, CREATE, INTERRUPT, BMAP, DESTROY, IOCTL, POLL, BATCH_FORGET, FALLOCATE, READDIRPLUS, RENAME2, LSEEK, COPY_FILE_RANGE}
use Rattle.fa_bodies.specs.declared.rename_flags.RenameFlags.{RenameFlags}
use Rattle.fa_bodies.specs.declared.requests.Request.{Request}
use Rattle.fa_bodies.specs.declared.requests.RequestBody.{RequestBody}
use Rattle.fa_bodies.specs.declared.requests.RequestBody.TheVariants as declared
use Rattle.fa_bodies.specs.Fields.{BeginsWith, IsSpelled}
use Rattle.fa_bodies.specs.Fields.Field.{U32, Name, Target}
use Rattle.fa_bodies.specs.FlagBits.{fattr_size}
use Rattle.fa_bodies.specs.Flags.{HasFlag, fattr_bits, rename_bits}
use Rattle.fa_bodies.specs.Modes.{mode_bits, IsNodeMode}
use Rattle.fa_bodies.specs.Structs.{in_header, forget_in, getattr_in, setattr_in, mknod_in, mkdir_in, rename_in, rename2_in, link_in, open_in, read_in, write_in, release_in, flush_in, init_in, create_in, batch_forget_in}
use Rattle.fa_bodies.specs.Views.{setattr_shown}

-- The body of a request, without where its names, its payload or what SETATTR asks for lie in memory.
pub data PlainBody : Type 0 where
  Lookup : (name : List ℕ) → PlainBody
  Forget : (nlookup : ℕ) → PlainBody
  Getattr : GetattrIn → PlainBody
  Setattr : SetattrIn → PlainBody
  Readlink : PlainBody
  Symlink : (name target : List ℕ) → PlainBody
  Mknod : (mode : Mode) (rdev umask : ℕ) (name : List ℕ) → PlainBody
  Mkdir : (mode : Mode) (umask : ℕ) (name : List ℕ) → PlainBody
  Unlink : (name : List ℕ) → PlainBody
  Rmdir : (name : List ℕ) → PlainBody
  Rename : (newdir : ℕ) (old_name new_name : List ℕ) → PlainBody
  Link : (oldnodeid : ℕ) (new_name : List ℕ) → PlainBody
  Open : OpenIn → PlainBody
  Read : ReadIn → PlainBody
  Write : (fh offset size write_flags lock_owner : ℕ) (flags : OpenFlags) (payload : List ℕ) → PlainBody
  Release : ReleaseIn → PlainBody
  Flush : FlushIn → PlainBody
  Init : InitIn → PlainBody
  Opendir : OpenIn → PlainBody
  Readdir : ReadIn → PlainBody
  Releasedir : ReleaseIn → PlainBody
  Create : (flags : OpenFlags) (mode : Mode) (umask : ℕ) (name : List ℕ) → PlainBody
  BatchForget : (count : ℕ) (items : List ℕ) → PlainBody
  Readdirplus : ReadIn → PlainBody
  Rename2 : (newdir : ℕ) (flags : RenameFlags) (old_name new_name : List ℕ) → PlainBody
  -- an operation that is read by its header alone, or a RENAME2 with flags that are not judged
  Passed : PlainBody

-- A request, without where parts of its body lie in memory.
pub record PlainRequest : Type 0 where
  pub unique : ℕ
  pub node : ℕ
  pub opcode : ℕ
  pub body : PlainBody

-- what a body that was read shows
abbrev pub body_shown : RequestBody → PlainBody
body_shown (declared.Lookup name) = Lookup name.now
body_shown (declared.Forget nlookup) = Forget nlookup
body_shown (declared.Getattr g) = Getattr g
body_shown (declared.Setattr s) = Setattr (setattr_shown s)
body_shown declared.Readlink = Readlink
body_shown (declared.Symlink name target) = Symlink name.now target.now
body_shown (declared.Mknod mode rdev umask name) = Mknod mode rdev umask name.now
body_shown (declared.Mkdir mode umask name) = Mkdir mode umask name.now
body_shown (declared.Unlink name) = Unlink name.now
body_shown (declared.Rmdir name) = Rmdir name.now
body_shown (declared.Rename newdir old_name new_name) = Rename newdir old_name.now new_name.now
body_shown (declared.Link oldnodeid new_name) = Link oldnodeid new_name.now
body_shown (declared.Open o) = Open o
body_shown (declared.Read r) = Read r
body_shown (declared.Write fh offset size write_flags lock_owner flags payload) =
    Write fh offset size write_flags lock_owner flags payload.now
body_shown (declared.Release r) = Release r
body_shown (declared.Flush f) = Flush f
body_shown (declared.Init i) = Init i
body_shown (declared.Opendir o) = Opendir o
body_shown (declared.Readdir r) = Readdir r
body_shown (declared.Releasedir r) = Releasedir r
body_shown (declared.Create flags mode umask name) = Create flags mode umask name.now
body_shown (declared.BatchForget count items) = BatchForget count items.now
body_shown (declared.Readdirplus r) = Readdirplus r
body_shown (declared.Rename2 newdir flags old_name new_name) = Rename2 newdir flags old_name.now new_name.now
body_shown declared.Passed = Passed

-- what a request that was read shows
abbrev pub request_shown : Request → PlainRequest
request_shown r =
    record { unique = r.unique; node = r.node; opcode = r.opcode; body = body_shown r.body }

-- the number is one of these, in a form that computes on a list that is written out
abbrev pub IsOneOf : List ℕ → ℕ → Type 0
IsOneOf [] n = ⊥
IsOneOf (m ∷ ms) n = (n ≡ m) ⊎ IsOneOf ms n

-- operations without effect here, whatever is answered
abbrev pub bystanders : List ℕ
bystanders =
    STATFS ∷ FSYNC ∷ FSYNCDIR
    ∷ SETXATTR ∷ GETXATTR ∷ LISTXATTR ∷ REMOVEXATTR
    ∷ GETLK ∷ SETLK ∷ SETLKW
    ∷ ACCESS ∷ INTERRUPT ∷ BMAP ∷ DESTROY
    ∷ POLL ∷ LSEEK
    ∷ []

-- operations that change files in ways that are not judged here, but for RENAME2 with flags that are
abbrev pub changers : List ℕ
changers = IOCTL ∷ FALLOCATE ∷ RENAME2 ∷ COPY_FILE_RANGE ∷ []

-- An operation that is read (enum fuse_opcode of fuse.h): those from LOOKUP, 1, to COPY_FILE_RANGE, 47, of which 7 and
-- 19 are no operations, and 41 is NOTIFY_REPLY.
abbrev pub IsOperation : ℕ → Type 0
IsOperation opcode =
    (LOOKUP ≤ opcode) × (opcode ≤ COPY_FILE_RANGE) × (opcode ≢ 7) × (opcode ≢ 19) × (opcode ≢ 41)

-- struct fuse_rename2_in and two names, with flags that are not judged
pub record IsOtherRename (body : List ℕ) : Type 0 where
  pub newdir : ℕ
  pub flags : ℕ
  pub old_name : List ℕ
  pub new_name : List ℕ
  pub spelled : IsSpelled body (rename2_in newdir flags ++ Name old_name ∷ Name new_name ∷ [])
  pub other : (judged : RenameFlags) → rename_bits judged ≡ flags → ⊥

-- The body of a request with this opcode (enum fuse_opcode of fuse.h): one case for each operation whose body is read,
-- and one for those that are read by their headers alone and for a RENAME2 with flags that are not judged.
abbrev pub IsRequestBody : ℕ → List ℕ → PlainBody → Type 0
-- a name
IsRequestBody opcode body (Lookup name) = (opcode ≡ LOOKUP) × IsSpelled body (Name name ∷ [])
-- struct fuse_forget_in
IsRequestBody opcode body (Forget nlookup) = (opcode ≡ FORGET) × IsSpelled body (forget_in nlookup)
-- struct fuse_getattr_in
IsRequestBody opcode body (Getattr g) = (opcode ≡ GETATTR) × IsSpelled body (getattr_in g)
-- struct fuse_setattr_in
IsRequestBody opcode body (Setattr s) = (opcode ≡ SETATTR) × IsSpelled body (setattr_in s)
-- nothing
IsRequestBody opcode body Readlink = (opcode ≡ READLINK) × IsSpelled body []
-- a name, and behind it the target
IsRequestBody opcode body (Symlink name target) = (opcode ≡ SYMLINK) × IsSpelled body (Name name ∷ Target target ∷ [])
-- struct fuse_mknod_in with a type that MKNOD may make, and a name
IsRequestBody opcode body (Mknod mode rdev umask name) =
    (opcode ≡ MKNOD) × IsNodeMode (mode_bits mode) × IsSpelled body (mknod_in mode rdev umask ++ Name name ∷ [])
-- struct fuse_mkdir_in, and a name
IsRequestBody opcode body (Mkdir mode umask name) =
    (opcode ≡ MKDIR) × IsSpelled body (mkdir_in mode umask ++ Name name ∷ [])
-- a name
IsRequestBody opcode body (Unlink name) = (opcode ≡ UNLINK) × IsSpelled body (Name name ∷ [])
-- a name
IsRequestBody opcode body (Rmdir name) = (opcode ≡ RMDIR) × IsSpelled body (Name name ∷ [])
-- struct fuse_rename_in, and two names
IsRequestBody opcode body (Rename newdir old_name new_name) =
    (opcode ≡ RENAME) × IsSpelled body (rename_in newdir ++ Name old_name ∷ Name new_name ∷ [])
-- struct fuse_link_in, and a name
IsRequestBody opcode body (Link oldnodeid new_name) =
    (opcode ≡ LINK) × IsSpelled body (link_in oldnodeid ++ Name new_name ∷ [])
-- struct fuse_open_in
IsRequestBody opcode body (Open o) = (opcode ≡ OPEN) × IsSpelled body (open_in o)
-- struct fuse_read_in
IsRequestBody opcode body (Read r) = (opcode ≡ READ) × IsSpelled body (read_in r)
-- struct fuse_write_in, and as many bytes as its size says
IsRequestBody opcode body (Write fh offset size write_flags lock_owner flags payload) =
    (opcode ≡ WRITE) × BeginsWith body (write_in fh offset size write_flags lock_owner flags) payload
    × (length payload ≡ size)
-- struct fuse_release_in
IsRequestBody opcode body (Release r) = (opcode ≡ RELEASE) × IsSpelled body (release_in r)
-- struct fuse_flush_in
IsRequestBody opcode body (Flush f) = (opcode ≡ FLUSH) × IsSpelled body (flush_in f)
-- struct fuse_init_in, and any bytes behind it: newer minors append fields
IsRequestBody opcode body (Init i) = (opcode ≡ INIT) × (newer : List ℕ) × BeginsWith body (init_in i) newer
-- struct fuse_open_in
IsRequestBody opcode body (Opendir o) = (opcode ≡ OPENDIR) × IsSpelled body (open_in o)
-- struct fuse_read_in
IsRequestBody opcode body (Readdir r) = (opcode ≡ READDIR) × IsSpelled body (read_in r)
-- struct fuse_release_in
IsRequestBody opcode body (Releasedir r) = (opcode ≡ RELEASEDIR) × IsSpelled body (release_in r)
-- struct fuse_create_in, and a name
IsRequestBody opcode body (Create flags mode umask name) =
    (opcode ≡ CREATE) × IsSpelled body (create_in flags mode umask ++ Name name ∷ [])
-- struct fuse_batch_forget_in, and 16 bytes for each item
IsRequestBody opcode body (BatchForget count items) =
    (opcode ≡ BATCH_FORGET) × BeginsWith body (batch_forget_in count) items × (length items ≡ 16 * count)
-- struct fuse_read_in
IsRequestBody opcode body (Readdirplus r) = (opcode ≡ READDIRPLUS) × IsSpelled body (read_in r)
-- struct fuse_rename2_in, and two names
IsRequestBody opcode body (Rename2 newdir flags old_name new_name) =
    (opcode ≡ RENAME2) × IsSpelled body (rename2_in newdir (rename_bits flags) ++ Name old_name ∷ Name new_name ∷ [])
-- any bytes, but a RENAME2 has its form whatever its flags
IsRequestBody opcode body Passed =
    IsOneOf bystanders opcode ⊎ (IsOneOf changers opcode × (opcode ≡ RENAME2 → IsOtherRename body))

-- a request that may be answered: all but those that only forget
abbrev pub MayBeAnswered : PlainBody → Type 0
MayBeAnswered (Forget nlookup) = ⊥
MayBeAnswered (BatchForget count items) = ⊥
MayBeAnswered (Lookup name) = Unit {0}
MayBeAnswered (Getattr g) = Unit {0}
MayBeAnswered (Setattr s) = Unit {0}
MayBeAnswered Readlink = Unit {0}
MayBeAnswered (Symlink name target) = Unit {0}
MayBeAnswered (Mknod mode rdev umask name) = Unit {0}
MayBeAnswered (Mkdir mode umask name) = Unit {0}
MayBeAnswered (Unlink name) = Unit {0}
MayBeAnswered (Rmdir name) = Unit {0}
MayBeAnswered (Rename newdir old_name new_name) = Unit {0}
MayBeAnswered (Link oldnodeid new_name) = Unit {0}
MayBeAnswered (Open o) = Unit {0}
MayBeAnswered (Read r) = Unit {0}
MayBeAnswered (Write fh offset size write_flags lock_owner flags payload) = Unit {0}
MayBeAnswered (Release r) = Unit {0}
MayBeAnswered (Flush f) = Unit {0}
MayBeAnswered (Init i) = Unit {0}
MayBeAnswered (Opendir o) = Unit {0}
MayBeAnswered (Readdir r) = Unit {0}
MayBeAnswered (Releasedir r) = Unit {0}
MayBeAnswered (Create flags mode umask name) = Unit {0}
MayBeAnswered (Readdirplus r) = Unit {0}
MayBeAnswered (Rename2 newdir flags old_name new_name) = Unit {0}
MayBeAnswered Passed = Unit {0}

-- The request stays within the file limit: no WRITE goes past it, and no SETATTR with FATTR_SIZE asks
-- for more. A sum in a definition does not wrap.
abbrev pub IsWithinLimit : PlainBody → Type 0
IsWithinLimit (Lookup name) = Unit {0}
IsWithinLimit (Forget nlookup) = Unit {0}
IsWithinLimit (Getattr g) = Unit {0}
IsWithinLimit (Setattr s) = HasFlag (fattr_bits s.valid) fattr_size → s.size ≤ MAX_FILE_BYTES
IsWithinLimit Readlink = Unit {0}
IsWithinLimit (Symlink name target) = Unit {0}
IsWithinLimit (Mknod mode rdev umask name) = Unit {0}
IsWithinLimit (Mkdir mode umask name) = Unit {0}
IsWithinLimit (Unlink name) = Unit {0}
IsWithinLimit (Rmdir name) = Unit {0}
IsWithinLimit (Rename newdir old_name new_name) = Unit {0}
IsWithinLimit (Link oldnodeid new_name) = Unit {0}
IsWithinLimit (Open o) = Unit {0}
IsWithinLimit (Read r) = Unit {0}
IsWithinLimit (Write fh offset size write_flags lock_owner flags payload) = offset + size ≤ MAX_FILE_BYTES
IsWithinLimit (Release r) = Unit {0}
IsWithinLimit (Flush f) = Unit {0}
IsWithinLimit (Init i) = Unit {0}
IsWithinLimit (Opendir o) = Unit {0}
IsWithinLimit (Readdir r) = Unit {0}
IsWithinLimit (Releasedir r) = Unit {0}
IsWithinLimit (Create flags mode umask name) = Unit {0}
IsWithinLimit (BatchForget count items) = Unit {0}
IsWithinLimit (Readdirplus r) = Unit {0}
IsWithinLimit (Rename2 newdir flags old_name new_name) = Unit {0}
IsWithinLimit Passed = Unit {0}

-- The bytes are this request: a header whose len is the length of the whole, and a body of its
-- operation that stays within the file limit.
pub record IsRequest (bytes : List ℕ) (r : PlainRequest) : Type 0 where
  pub body_bytes : List ℕ
  pub header : BeginsWith bytes (in_header (length bytes) r.opcode r.unique r.node) body_bytes
  pub body : IsRequestBody r.opcode body_bytes r.body
  pub limit : IsWithinLimit r.body

-- the message is as long as its first field says
abbrev pub IsLengthRight : List ℕ → Type 0
IsLengthRight bytes = (rest : List ℕ) × BeginsWith bytes (U32 (length bytes) ∷ []) rest

-- The bytes begin with a request header, and its opcode and the bytes behind it are such.
pub record HasRequestHeader (bytes : List ℕ) (Such : ℕ → List ℕ → Type 0) : Type 0 where
  pub len : ℕ
  pub opcode : ℕ
  pub unique : ℕ
  pub node : ℕ
  pub body_bytes : List ℕ
  pub header : BeginsWith bytes (in_header len opcode unique node) body_bytes
  pub such : Such opcode body_bytes

-- some body that the operation allows
abbrev pub HasBody : ℕ → List ℕ → Type 0
HasBody opcode body = (b : PlainBody) × IsRequestBody opcode body b

-- some body that the operation allows, within the file limit
abbrev pub HasBodyWithinLimit : ℕ → List ℕ → Type 0
HasBodyWithinLimit opcode body = (b : PlainBody) × IsRequestBody opcode body b × IsWithinLimit b

-- The checks of every message in their order, each with its code: it has room for its header, and
-- its length is right.
abbrev pub length_checks : (header : ℕ) → List ℕ → List (ℕ × Type 0)
length_checks header bytes =
    (HEADER_TOO_SHORT, header ≤ length bytes)
    ∷ (LENGTH_FIELD, IsLengthRight bytes)
    ∷ []

-- the rules of a request's opcode and body in their order, each with its code
abbrev pub body_rules : List (ℕ × (ℕ → List ℕ → Type 0))
body_rules =
    (OPERATION, λ opcode body. IsOperation opcode)
    ∷ (REQUEST_BODY, HasBody)
    ∷ (PROFILE_LIMIT, HasBodyWithinLimit)
    ∷ []

-- The checks of a request in their order, each with its code. All of them hold exactly where the
-- bytes are a request.
abbrev pub request_checks : List ℕ → List (ℕ × Type 0)
request_checks bytes = length_checks 40 bytes ++ checks_of (HasRequestHeader bytes) body_rules
