-- Which openings of directories are of use, as a table tells that has the last answer to what lists on each.
use Rattle.std.proofs.Common.{◌≡◌, ℕ, List, Option, None, Some, refl, subst, inl, inr, arith}
use Rattle.std.specs.Prelude.{slice_get, option_map}
use Rattle.std.specs.BTreeMap.{BTreeMap}
use Rattle.std.proofs.lemmas.Bool.{cases_lt}
use Rattle.std.proofs.lemmas.Option.{same_Some}
use Rattle.fa_capture.specs.Message.{Message}
use Rattle.fa_bodies.specs.Dirents.{PlainDirent}
use Rattle.fa_bodies.specs.Replies.{PlainReply}
use Rattle.fa_bodies.specs.Requests.{PlainBody}
use Rattle.fa_bodies.specs.Requests.PlainBody.{Readdir, Readdirplus}
use Rattle.fa_session.specs.Events.{PlainEvent}
use Rattle.fa_session.specs.Answers.{IsAnsweredBy}
use Rattle.fa_ledger.specs.declared.call.Listing.{Listing}
use Rattle.fa_ledger.specs.declared.operation.Outcome.{Outcome}
use Rattle.fa_ledger.specs.Calls.{PlainAnswer, PlainCall, IsCall, AreCalls}
use Rattle.fa_ledger.specs.Choices.{AllowsBy}
use Rattle.fa_ledger.specs.Kinds.{OnlyReads}
use Rattle.fa_ledger.specs.Listings.{offset_asked, IsListingIfAny}
use Rattle.fa_ledger.specs.Operations.{PlainOperation, dirents_in, came_to, operation_of}
use Rattle.fa_ledger.specs.Operations.PlainOperation.{Lists}
use Rattle.fa_ledger.proofs.CallerLemmas.{call_at, operation_made}
use Rattle.fa_check.proofs.CallerLemmas.{tree_is_call, call_one, call_of_message, choice_allowed}
use Rattle.fa_tree.specs.Alike.{IsLastFrom}
use Rattle.fa_search.specs.parts.Flight.{IsUseNoted, AreLastUses, AreLater, CoversFrom}
use Rattle.fa_search.proofs.FlightLemmas.{no_choice, answer_answers}

-- ---- what lists only reads

lists_reads : (b : PlainBody) (offset : ℕ) (reply : Option PlainReply) (o : PlainOperation) → offset_asked b ≡ Some offset → operation_of b reply ≡ Some o → OnlyReads o
lists_reads (Readdir r) offset reply o asks is = by (came_to dirents_in reply) is
  where
    by : (found : Option (Outcome (List PlainDirent))) → option_map (λ (done : Outcome (List PlainDirent)). Lists (record { size = r.size; outcome = done })) found ≡ Some o → OnlyReads o
    by None same = absurd cc
    by (Some done) same = subst OnlyReads (same_Some (Lists (record { size = r.size; outcome = done })) o same) tt
lists_reads (Readdirplus r) offset reply o asks is = by (came_to dirents_in reply) is
  where
    by : (found : Option (Outcome (List PlainDirent))) → option_map (λ (done : Outcome (List PlainDirent)). Lists (record { size = r.size; outcome = done })) found ≡ Some o → OnlyReads o
    by None same = absurd cc
    by (Some done) same = subst OnlyReads (same_Some (Lists (record { size = r.size; outcome = done })) o same) tt
lists_reads b offset reply o asks is = absurd cc

listing_reads : (es : List PlainEvent) (call : PlainCall) → IsCall es call → (listing : Listing) → call.listing ≡ Some listing → OnlyReads call.operation
listing_reads es call is listing lists =
    let made = operation_made es call is in
    let begins = subst (IsListingIfAny _ is.request) lists is.asked.listing in
    lists_reads is.request.body begins.offset made.0 call.operation begins.asks made.1

-- so an order names it only where it is answered
reads_unnamed : (answer : Option PlainAnswer) (o : PlainOperation) (wrote : Option ℕ) → answer ≡ None → OnlyReads o → AllowsBy answer o wrote → ⊥
reads_unnamed (Some answer) o wrote none reads allowed = absurd cc
reads_unnamed None o wrote none reads allowed = no_choice o wrote reads allowed

-- ---- the table

-- each opening of use from a message on stands in it so
pub covers_from : (c : List Message) (calls : List PlainCall) → AreCalls c calls → (at : ℕ) (last_uses : BTreeMap ℕ ℕ) → AreLastUses calls last_uses → CoversFrom c at last_uses
covers_from c calls are at last_uses noted opened used =
    let found = tree_is_call c calls are used.asked used.named.0 in
    of_call found.0 found.1.0 found.1.1 found.1.2
  where
    of_call : (place : ℕ) (call : PlainCall) → slice_get calls place ≡ Some call → call.asked ≡ used.asked → IsLastFrom last_uses at opened
    of_call place call there asked = by call.answer refl
      where
        same : used.call ≡ call
        same = (call_one c used.asked used.call call used.so_far _ used.of_request (call_of_message c calls are place used.asked call there asked)).0

        lists : call.listing ≡ Some used.listing
        lists = subst (λ (k : PlainCall). k.listing ≡ Some used.listing) same used.lists

        on : call.handle ≡ Some opened
        on = subst (λ (k : PlainCall). k.handle ≡ Some opened) same used.on

        by : (answer : Option PlainAnswer) → call.answer ≡ answer → IsLastFrom last_uses at opened
        by None none =
            absurd (reads_unnamed call.answer call.operation used.named.1.0 none
            (listing_reads are.events call (call_at are.events calls are.exact.each place call there) used.listing lists)
            (choice_allowed c calls are (record { at = used.asked; wrote = used.named.1.0 }) used.named.1.1 place call there asked))
        by (Some answer) has =
            let last = noted place call there answer used.listing opened has lists on in
            let answered : IsAnsweredBy c used.asked answer.at =
            subst (λ (k : ℕ). IsAnsweredBy c k answer.at) asked (answer_answers c calls are answer.at place (call, answer, there, has, refl)).1 in (
              last.0,
              last.1,
              elim (cases_lt answer.at at) [
                | inl early ↦ absurd (used.waits (answer.at, answered, early))
                | inr late ↦ (let behind = last.2 in omega (arith, behind, late))
              ],
            )

-- ---- as it is made

-- what was noted of a call stays so where what stands in the table stays, or later
pub noted_still : (call : PlainCall) (last_uses later : BTreeMap ℕ ℕ) → AreLater last_uses later → IsUseNoted call last_uses → IsUseNoted call later
noted_still call last_uses later still noted answer listing opened has lists on = still answer.at opened (noted answer listing opened has lists on)
