-- What bytes are a reply, and which one.
use Rattle.std.specs.Prelude.{◌≡◌, ◌≢◌, Bool, true, false, ℕ, ◌≤◌, ℤ, pos, negsuc, ◌≤ℤ◌, ◌<ℤ◌, ◌⊎◌, List, [], ◌∷◌, ◌++◌, length}
use Rattle.fa_capture.specs.declared.codes.TheConstants.{ERROR_VALUE, NOTIFICATION, REPLY_BODY}
use Rattle.fa_capture.specs.Checks.{checks_of}
use Rattle.fa_bodies.specs.declared.attributes.AttrOut.{AttrOut}
use Rattle.fa_bodies.specs.declared.entry.EntryOut.{EntryOut}
use Rattle.fa_bodies.specs.declared.handles.OpenOut.{OpenOut}
use Rattle.fa_bodies.specs.declared.init.Negotiated.{Negotiated}
use Rattle.fa_bodies.specs.declared.opcodes.TheConstants.{INTERRUPT}
use Rattle.fa_bodies.specs.declared.replies.ReplyHead.{ReplyHead}
use Rattle.fa_bodies.specs.declared.replies.Reply.{Reply}
use Rattle.fa_bodies.specs.declared.replies.Reply.TheVariants as declared
use Rattle.fa_bodies.specs.Dirents.{PlainDirent, AreEntries}
use Rattle.fa_bodies.specs.Fields.{BeginsWith, IsSpelled}
use Rattle.fa_bodies.specs.Listing.{entries_left}
use Rattle.fa_bodies.specs.Structs.{out_header, entry_out, attr_out, open_out, write_out, init_out}
use Rattle.fa_bodies.specs.Views.{entry_shown, attr_shown}
use Rattle.fa_bodies.specs.Requests.{PlainBody, PlainRequest, MayBeAnswered, length_checks}
use Rattle.fa_bodies.specs.Requests.PlainBody.{Lookup, Forget, Getattr, Setattr, Readlink, Symlink, Mknod, Mkdir, Unlink, Rmdir, Rename, Link, Open, Read, Write, Release, Flush, Init, Opendir, Readdir, Releasedir, Create, BatchForget, Readdirplus, Rename2, Passed}

-- What a reply says, without where its payload, its entry or its attributes lie in memory.
pub data PlainReply : Type 0 where
  Refused : (error : ℤ) → PlainReply
  Empty : PlainReply
  Entry : EntryOut → PlainReply
  Created : EntryOut → OpenOut → PlainReply
  Attributes : AttrOut → PlainReply
  Opened : OpenOut → PlainReply
  Written : (size : ℕ) → PlainReply
  Bytes : (payload : List ℕ) → PlainReply
  Listed : List PlainDirent → PlainReply
  InitAnswer : Negotiated → PlainReply
  Skipped : PlainReply

-- what a reply that was read shows
abbrev pub reply_shown : Reply → PlainReply
reply_shown (declared.Refused error) = Refused error
reply_shown declared.Empty = Empty
reply_shown (declared.Entry e) = Entry (entry_shown e)
reply_shown (declared.Created e o) = Created (entry_shown e) o
reply_shown (declared.Attributes a) = Attributes (attr_shown a)
reply_shown (declared.Opened o) = Opened o
reply_shown (declared.Written size) = Written size
reply_shown (declared.Bytes payload) = Bytes payload.now
reply_shown (declared.Listed walk) = Listed (entries_left walk)
reply_shown (declared.Negotiated n) = InitAnswer n
reply_shown declared.Skipped = Skipped

-- the reply is an error
abbrev pub IsError : PlainReply → Type 0
IsError reply = (error : ℤ) × (reply ≡ Refused error)

-- an error that a reply may have here: -999 to 0
abbrev pub IsErrorValue : ℤ → Type 0
IsErrorValue error = (negsuc 998 ≤ℤ error) × (error ≤ℤ pos 0)  -- negsuc 998 is -999

-- The codes of the notifications that are read (enum fuse_notify_code of fuse.h): POLL, INVAL_INODE,
-- INVAL_ENTRY, STORE and DELETE. RETRIEVE is none of them.
abbrev pub IsNotificationCode : ℤ → Type 0
IsNotificationCode code =
    (code ≡ pos 1) ⊎ (code ≡ pos 2) ⊎ (code ≡ pos 3) ⊎ (code ≡ pos 4) ⊎ (code ≡ pos 6)

-- the head of a reply, which has a unique other than 0, has an error in range
abbrev pub IsErrorRight : ReplyHead → Type 0
IsErrorRight head = head.unique ≢ 0 → IsErrorValue head.error

-- the head of a notification, which has unique 0, has a code that is read, in the place of the error
abbrev pub IsNotificationRight : ReplyHead → Type 0
IsNotificationRight head = head.unique ≡ 0 → IsNotificationCode head.error

-- The bytes begin with this head of a reply or of a notification: the header's len is the length of the
-- whole, and its error or code is right.
pub record IsReplyHead (bytes : List ℕ) (head : ReplyHead) : Type 0 where
  pub body_bytes : List ℕ
  pub header : BeginsWith bytes (out_header (length bytes) head.error head.unique) body_bytes
  pub reply : IsErrorRight head
  pub notification : IsNotificationRight head

-- The bytes begin with the head of a reply that repeats this unique, or of a notification where it is 0.
abbrev pub RepeatsUnique : List ℕ → (unique : ℕ) → Type 0
RepeatsUnique bytes unique = (error : ℤ) × IsReplyHead bytes (record { unique = unique; error = error })

-- The bytes begin with a reply header, and its error and unique are such.
pub record HasReplyHeader (bytes : List ℕ) (Such : ReplyHead → Type 0) : Type 0 where
  pub len : ℕ
  pub head : ReplyHead
  pub body_bytes : List ℕ
  pub header : BeginsWith bytes (out_header len head.error head.unique) body_bytes
  pub such : Such head

-- the rules of a head's error and code in their order, each with its code
abbrev pub head_rules : List (ℕ × (ReplyHead → Type 0))
head_rules = (ERROR_VALUE, IsErrorRight) ∷ (NOTIFICATION, IsNotificationRight) ∷ []

-- The checks of a message from the server in their order, each with its code. All of them hold exactly
-- where the bytes begin with the head of a reply or of a notification.
abbrev pub reply_head_checks : List ℕ → List (ℕ × Type 0)
reply_head_checks bytes = length_checks 16 bytes ++ checks_of (HasReplyHeader bytes) head_rules

-- the answer of INIT: 24 to 64 bytes of a struct fuse_init_out
abbrev pub IsInitOut : List ℕ → Negotiated → Type 0
IsInitOut body n =
    (24 ≤ length body) × (length body ≤ 64)
    × (unread : List ℕ) × BeginsWith body (init_out n) unread

-- a struct fuse_entry_out
abbrev pub IsEntryBody : List ℕ → PlainReply → Type 0
IsEntryBody body reply = (e : EntryOut) × (reply ≡ Entry e) × IsSpelled body (entry_out e)

-- a struct fuse_entry_out, and behind it a struct fuse_open_out
abbrev pub IsCreatedBody : List ℕ → PlainReply → Type 0
IsCreatedBody body reply =
    (e : EntryOut) × (o : OpenOut) × (reply ≡ Created e o) × IsSpelled body (entry_out e ++ open_out o)

-- a struct fuse_attr_out
abbrev pub IsAttributesBody : List ℕ → PlainReply → Type 0
IsAttributesBody body reply = (a : AttrOut) × (reply ≡ Attributes a) × IsSpelled body (attr_out a)

-- a struct fuse_open_out
abbrev pub IsOpenedBody : List ℕ → PlainReply → Type 0
IsOpenedBody body reply = (o : OpenOut) × (reply ≡ Opened o) × IsSpelled body (open_out o)

-- a struct fuse_write_out, with at most as many bytes as were to be written
abbrev pub IsWrittenBody : (asked : ℕ) → List ℕ → PlainReply → Type 0
IsWrittenBody asked body reply =
    (size : ℕ) × (reply ≡ Written size) × IsSpelled body (write_out size) × (size ≤ asked)

-- at most so many bytes
abbrev pub IsBytesBody : (asked : ℕ) → List ℕ → PlainReply → Type 0
IsBytesBody asked body reply = (reply ≡ Bytes body) × (length body ≤ asked)

-- whole directory entries one after the other, of at most so many bytes
abbrev pub IsListedBody : (plus : Bool) (asked : ℕ) → List ℕ → PlainReply → Type 0
IsListedBody plus asked body reply =
    (ds : List PlainDirent) × (reply ≡ Listed ds) × AreEntries plus body ds [] × (length body ≤ asked)

-- nothing
abbrev pub IsEmptyBody : List ℕ → PlainReply → Type 0
IsEmptyBody body reply = (reply ≡ Empty) × (body ≡ [])

-- the first 24 to 64 bytes of a struct fuse_init_out
abbrev pub IsNegotiatedBody : List ℕ → PlainReply → Type 0
IsNegotiatedBody body reply = (n : Negotiated) × (reply ≡ InitAnswer n) × IsInitOut body n

-- The body of a success to a request with this opcode and body: one case for each operation whose
-- body is read, and one for those that are read by their headers alone and for a RENAME2 with flags that
-- are not judged. FORGET and BATCH_FORGET have no answer.
abbrev pub IsSuccessBody : (opcode : ℕ) → PlainBody → List ℕ → PlainReply → Type 0
IsSuccessBody opcode (Lookup name) body reply = IsEntryBody body reply
IsSuccessBody opcode (Forget nlookup) body reply = ⊥
IsSuccessBody opcode (Getattr g) body reply = IsAttributesBody body reply
IsSuccessBody opcode (Setattr s) body reply = IsAttributesBody body reply
-- the target
IsSuccessBody opcode Readlink body reply = reply ≡ Bytes body
IsSuccessBody opcode (Symlink name target) body reply = IsEntryBody body reply
IsSuccessBody opcode (Mknod mode rdev umask name) body reply = IsEntryBody body reply
IsSuccessBody opcode (Mkdir mode umask name) body reply = IsEntryBody body reply
IsSuccessBody opcode (Unlink name) body reply = IsEmptyBody body reply
IsSuccessBody opcode (Rmdir name) body reply = IsEmptyBody body reply
IsSuccessBody opcode (Rename newdir old_name new_name) body reply = IsEmptyBody body reply
IsSuccessBody opcode (Link oldnodeid new_name) body reply = IsEntryBody body reply
IsSuccessBody opcode (Open o) body reply = IsOpenedBody body reply
IsSuccessBody opcode (Read r) body reply = IsBytesBody r.size body reply
IsSuccessBody opcode (Write fh offset size write_flags lock_owner flags payload) body reply =
    IsWrittenBody size body reply
IsSuccessBody opcode (Release r) body reply = IsEmptyBody body reply
IsSuccessBody opcode (Flush f) body reply = IsEmptyBody body reply
IsSuccessBody opcode (Init i) body reply = IsNegotiatedBody body reply
IsSuccessBody opcode (Opendir o) body reply = IsOpenedBody body reply
IsSuccessBody opcode (Readdir r) body reply = IsListedBody false r.size body reply
IsSuccessBody opcode (Releasedir r) body reply = IsEmptyBody body reply
IsSuccessBody opcode (Create flags mode umask name) body reply = IsCreatedBody body reply
IsSuccessBody opcode (BatchForget count items) body reply = ⊥
IsSuccessBody opcode (Readdirplus r) body reply = IsListedBody true r.size body reply
IsSuccessBody opcode (Rename2 newdir flags old_name new_name) body reply = IsEmptyBody body reply
-- any bytes, but INTERRUPT is answered by the header alone
IsSuccessBody opcode Passed body reply = (reply ≡ Skipped) × (opcode ≡ INTERRUPT → body ≡ [])

-- the body of a success to a request
abbrev pub IsSuccess : (asked : PlainRequest) → List ℕ → PlainReply → Type 0
IsSuccess asked body reply = IsSuccessBody asked.opcode asked.body body reply

-- What a reply with this error and body says to a request: a success its body, and an error, which has
-- no body, that it was refused. FORGET and BATCH_FORGET have no answer.
abbrev pub Says : (asked : PlainRequest) → ℤ → List ℕ → PlainReply → Type 0
Says asked error body reply =
    ((error ≡ pos 0) × IsSuccess asked body reply)
    ⊎ ((error <ℤ pos 0) × MayBeAnswered asked.body × (reply ≡ Refused error) × (body ≡ []))

-- The bytes are this reply to the request: a head with the unique of the request, and what it says.
pub record IsReply (asked : PlainRequest) (bytes : List ℕ) (reply : PlainReply) : Type 0 where
  pub error : ℤ
  pub head : IsReplyHead bytes (record { unique = asked.unique; error = error })
  pub body : Says asked error head.body_bytes reply

-- The check of a reply whose header was read, with its code.
abbrev pub reply_checks : PlainRequest → List ℕ → List (ℕ × Type 0)
reply_checks asked bytes = (REPLY_BODY, (reply : PlainReply) × IsReply asked bytes reply) ∷ []
