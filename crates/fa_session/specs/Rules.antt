-- The rules of a session: what INIT and its answer must be, which uniques are free, and which replies some operations
-- have.
use Rattle.std.specs.Prelude.{◌≡◌, ◌≢◌, ℕ, min, List}
use Rattle.fa_capture.specs.Message.{Message}
use Rattle.fa_bodies.specs.declared.errno.TheConstants.{ENOSYS}
use Rattle.fa_bodies.specs.declared.opcodes.TheConstants.{INTERRUPT}
use Rattle.fa_bodies.specs.FlagBits.{writeback_cache, posix_acl}
use Rattle.fa_bodies.specs.Flags.{HasFlag, init_bits}
use Rattle.fa_bodies.specs.Requests.{PlainRequest, PlainBody, IsOneOf, changers}
use Rattle.fa_bodies.specs.Requests.PlainBody.{Init, Open, Opendir}
use Rattle.fa_bodies.specs.Replies.{PlainReply}
use Rattle.fa_bodies.specs.Replies.PlainReply.{Refused, InitAnswer, Skipped}
use Rattle.fa_session.specs.Answers.{IsOutstanding, AnswersAt}

-- the request is INIT
abbrev pub IsInit : PlainBody → Type 0
IsInit (Init i) = Unit {0}
IsInit other = ⊥

-- The request is INTERRUPT (enum fuse_opcode of fuse.h), which is read by its header alone.
abbrev pub IsInterrupt : PlainRequest → Type 0
IsInterrupt r = r.opcode ≡ INTERRUPT

-- INIT was answered among these messages
abbrev pub IsInitAnswered : List Message → Type 0
IsInitAnswered before = (q p : ℕ) × (r : PlainRequest) × AnswersAt before q p r × IsInit r.body

-- After these messages the request may have its unique: no outstanding request has it. One exception stands: an
-- INTERRUPT may repeat the unique of an outstanding INTERRUPT, and takes its place (fuse.rst, "Interrupting filesystem
-- operations"; this profile).
abbrev pub IsUniqueFree : List Message → PlainRequest → Type 0
IsUniqueFree before r =
    (p : ℕ) (waiting : PlainRequest) → IsOutstanding before p waiting → waiting.unique ≡ r.unique
    → IsInterrupt r × IsInterrupt waiting

-- the answer of INIT is a success
abbrev pub IsInitAccepted : PlainRequest → PlainReply → Type 0
IsInitAccepted r (Refused error) = IsInit r.body → ⊥
IsInitAccepted r other = Unit {0}

-- Both sides speak major 7, and the least of their minors is 31 (FUSE_KERNEL_VERSION and FUSE_KERNEL_MINOR_VERSION of
-- fuse.h).
abbrev pub IsVersionRight : PlainBody → PlainReply → Type 0
IsVersionRight (Init i) (InitAnswer n) = (i.major ≡ 7) × (n.major ≡ 7) × (min i.minor n.minor ≡ 31)
IsVersionRight other reply = Unit {0}

-- Neither FUSE_WRITEBACK_CACHE nor FUSE_POSIX_ACL (fuse.h) is set on both sides.
abbrev pub AreFlagsRight : PlainBody → PlainReply → Type 0
AreFlagsRight (Init i) (InitAnswer n) =
    (HasFlag (init_bits i.flags) writeback_cache → HasFlag (init_bits n.flags) writeback_cache → ⊥)
    × (HasFlag (init_bits i.flags) posix_acl → HasFlag (init_bits n.flags) posix_acl → ⊥)
AreFlagsRight other reply = Unit {0}

-- The answer of a changer whose request is not judged, as IOCTL or a RENAME2 with flags that are not judged, is no success: those change
-- files in ways that this profile does not judge. A success of such a request is read as `Skipped`.
abbrev pub IsLeftOutRefused : PlainRequest → PlainReply → Type 0
IsLeftOutRefused r Skipped = IsOneOf changers r.opcode → ⊥
IsLeftOutRefused r other = Unit {0}

-- OPEN and OPENDIR are not answered by ENOSYS (errno.h), after which a kernel opens without a message
-- (FUSE_NO_OPEN_SUPPORT and FUSE_NO_OPENDIR_SUPPORT of fuse.h).
abbrev pub IsOpenByMessage : PlainBody → PlainReply → Type 0
IsOpenByMessage (Open o) (Refused error) = error ≢ ENOSYS
IsOpenByMessage (Opendir o) (Refused error) = error ≢ ENOSYS
IsOpenByMessage other reply = Unit {0}
