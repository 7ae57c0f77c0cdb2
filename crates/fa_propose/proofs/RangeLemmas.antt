-- The numbers of a proposal's entries are those that an order text can have.
use Rattle.std.proofs.Common.{◌≡◌, ℕ, ◌<◌, ◌≤◌, ◌^◌, List, length, Option, None, Some, arith}
use Rattle.std.specs.Prelude.{All}
use Rattle.std.proofs.lemmas.Option.{slice_get_within}
use Rattle.std.proofs.lemmas.List.Elements.{All-nil, All-push}
use Rattle.fa_capture.specs.declared.limits.TheConstants.{MAX_MESSAGES}
use Rattle.fa_capture.specs.Message.{Message}
use Rattle.fa_bodies.specs.Requests.{PlainBody, IsRequestBody}
use Rattle.fa_bodies.specs.Replies.{PlainReply}
use Rattle.fa_session.specs.Events.PlainEvent.{Asked}
use Rattle.fa_ledger.specs.declared.operation.Outcome.TheVariants.{Unanswered}
use Rattle.fa_ledger.specs.Calls.{PlainCall}
use Rattle.fa_ledger.specs.Operations.{PlainOperation, operation_of}
use Rattle.fa_ledger.specs.Operations.PlainAction.{Write}
use Rattle.fa_ledger.specs.Operations.PlainOperation.{Acts}
use Rattle.fa_ledger.proofs.CallerLemmas.{message_of, lost_made, operation_made}
use Rattle.fa_tree.specs.State.{TreeState}
use Rattle.fa_order.specs.declared.entry.Entry.{Entry}
use Rattle.fa_order.specs.Order.{IsCount, IsInRange}
use Rattle.fa_propose.specs.Proposals.{count_proposed, entry_of, IsCandidate, IsProposedSoFar, IsProposal}
use Rattle.fa_propose.specs.Proposals.IsProposedSoFar.{begun, further}
use Rattle.fa_propose.proofs.PlacedLemmas.{tried_is_candidate}

-- the size of a WRITE stands in four bytes
write_within : (opcode : ℕ) (bytes : List ℕ) (body : PlainBody) (offset size : ℕ) (payload : List ℕ) → IsRequestBody opcode bytes body → operation_of body None ≡ Some (Acts (Write offset size payload Unanswered)) → size < 2 ^ 32
write_within opcode bytes (PlainBody.Write fh at count write_flags lock_owner flags written) offset size payload spelled is =
    let same : count ≡ size = cc in
    let fits : count < 2 ^ 32 = spelled.1.3.3.0 in
    omega (arith, same, fits)
write_within opcode bytes other offset size payload spelled is = absurd cc

-- so does the count that is proposed for a request
count_within : (opcode : ℕ) (bytes : List ℕ) (body : PlainBody) (reply : Option PlainReply) → IsRequestBody opcode bytes body → (o : PlainOperation) → operation_of body reply ≡ Some o → IsCount (count_proposed o)
count_within opcode bytes body reply spelled (Acts (Write offset size payload Unanswered)) is =
    write_within opcode bytes body offset size payload spelled (lost_made body reply (Acts (Write offset size payload Unanswered)) is)
count_within opcode bytes body reply spelled other is = tt

-- the entry of a call that may come next
candidate_within : (c : List Message) (es : List Entry) (call : PlainCall) → length c ≤ MAX_MESSAGES → IsCandidate c es call → IsInRange (entry_of call)
candidate_within c es call short may =
    let is = may.exact in
    let message = message_of c may.events may.are call.asked (Asked call.asked is.request) is.there in
    let within = slice_get_within c call.asked message.0 message.1 in
    let made = operation_made may.events call is in
    record { at = omega (arith, within, short); wrote = count_within is.request.opcode message.2.1.1.body_bytes is.request.body made.0 message.2.1.1.body call.operation made.1 }

-- the entries that were proposed so far
proposed_within : (c : List Message) (start : TreeState) {es : List Entry} {tree : TreeState} → length c ≤ MAX_MESSAGES → IsProposedSoFar c start es tree → All IsInRange es
proposed_within c start short begun = All-nil IsInRange
proposed_within c start short (further es tree new call before left next) =
    let one = candidate_within c es call short (tried_is_candidate c es next.earlier next.later call next.tried) in
    All-push IsInRange es (entry_of call) (proposed_within c start short before) one

pub proposal_in_range : (c : List Message) (start : TreeState) (es : List Entry) → length c ≤ MAX_MESSAGES → IsProposal c start es → All IsInRange es
proposal_in_range c start es short proposal = proposed_within c start short proposal.proposed
