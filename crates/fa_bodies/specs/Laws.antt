-- What holds of the grammar of messages.
use Rattle.std.specs.Prelude.{◌≡◌, ◌↔◌, ℕ, ◌<◌, ◌*◌, Bool, List, [], length, All}
use Rattle.fa_capture.specs.Checks.{AllHold}
use Rattle.fa_bodies.specs.declared.replies.ReplyHead.{ReplyHead}
use Rattle.fa_bodies.specs.Dirents.{PlainDirent, AreEntries, HoldsEntries}
use Rattle.fa_bodies.specs.ForgetOnes.{AreItems, HoldsItems}
use Rattle.fa_bodies.specs.Requests.{PlainRequest, IsOperation, HasBody, IsRequest, request_checks}
use Rattle.fa_bodies.specs.Replies.{PlainReply, IsReplyHead, IsReply, reply_head_checks}

-- Bytes are at most one request.
abbrev pub RequestIsOne : Type 0
RequestIsOne =
    (bytes : List ℕ) (a b : PlainRequest) → IsRequest bytes a → IsRequest bytes b → a ≡ b

-- Bytes are a request exactly where all checks hold.
abbrev pub RequestPassesChecks : Type 0
RequestPassesChecks =
    (bytes : List ℕ) → AllHold (request_checks bytes) ↔ ((r : PlainRequest) × IsRequest bytes r)

-- An opcode is that of an operation that is read exactly where some bytes are a body of it.
abbrev pub OperationHasBody : Type 0
OperationHasBody = (opcode : ℕ) → IsOperation opcode ↔ ((body : List ℕ) × HasBody opcode body)

-- Bytes begin with at most one head of a reply.
abbrev pub ReplyHeadIsOne : Type 0
ReplyHeadIsOne =
    (bytes : List ℕ) (a b : ReplyHead) → IsReplyHead bytes a → IsReplyHead bytes b → a ≡ b

-- Bytes begin with the head of a reply exactly where all checks hold.
abbrev pub ReplyHeadPassesChecks : Type 0
ReplyHeadPassesChecks =
    (bytes : List ℕ)
    → AllHold (reply_head_checks bytes) ↔ ((head : ReplyHead) × IsReplyHead bytes head)

-- Bytes are at most one reply to a request.
abbrev pub ReplyIsOne : Type 0
ReplyIsOne =
    (asked : PlainRequest) (bytes : List ℕ) (a b : PlainReply)
    → IsReply asked bytes a → IsReply asked bytes b → a ≡ b

-- Bytes hold at most one list of items of BATCH_FORGET.
abbrev pub ItemsAreOne : Type 0
ItemsAreOne =
    (bytes : List ℕ) (a b : List (ℕ × ℕ)) → HoldsItems bytes a → HoldsItems bytes b → a ≡ b

-- All bytes hold a list of items of BATCH_FORGET.
abbrev pub BytesHoldItems : Type 0
BytesHoldItems =
    (bytes : List ℕ) → All (λ b. b < 256) bytes → (items : List (ℕ × ℕ)) × HoldsItems bytes items

-- The payload of a READDIR or READDIRPLUS reply holds at most one list of entries.
abbrev pub EntriesAreOne : Type 0
EntriesAreOne =
    (plus : Bool) (bytes : List ℕ) (a b : List PlainDirent)
    → HoldsEntries plus bytes a → HoldsEntries plus bytes b → a ≡ b

-- All bytes hold a list of entries.
abbrev pub BytesHoldEntries : Type 0
BytesHoldEntries =
    (plus : Bool) (bytes : List ℕ) → All (λ b. b < 256) bytes
    → (ds : List PlainDirent) × HoldsEntries plus bytes ds

-- Bytes with room for so many items of BATCH_FORGET hold so many, and nothing stands behind them.
abbrev pub CountedItems : Type 0
CountedItems =
    (count : ℕ) (bytes : List ℕ) (items : List (ℕ × ℕ))
    → length bytes ≡ 16 * count → HoldsItems bytes items → (length items ≡ count) × AreItems bytes items []

-- Bytes that are whole directory entries hold these.
abbrev pub WholeEntries : Type 0
WholeEntries =
    (plus : Bool) (bytes : List ℕ) (ds : List PlainDirent)
    → AreEntries plus bytes ds [] → HoldsEntries plus bytes ds
