-- Which calls are in flight behind a message: one that answers none, and one that answers a call; and which call it answers.
use Rattle.std.proofs.Common.{◌≡◌, ◌↔◌, ℕ, ◌+◌, ◌<◌, ◌≤◌, Bool, true, false, not, MatchBool, List, [], ◌∷◌, zero, suc, length, Option, Some, None, refl, sym, ap, subst, ◌∙◌, inl, inr, arith}
use Rattle.std.proofs.Common.{Ordering, Equal}
use Rattle.std.specs.Prelude.{Contains, All, IfSome, IsSome, IsNone, IsTrue, is_some, option_map, slice_get}
use Rattle.std.specs.Cmp.{IsTotalOrder}
use Rattle.std.specs.List.{AllWithin, HoldsAt}
use Rattle.std.specs.Map.{keys_of, values_of}
use Rattle.std.specs.BTreeMap.{BTreeMap, IsOrdered, Updates, get}
use Rattle.std.proofs.lemmas.Bool.{cases_lt, cases_eq, true≢false}
use Rattle.std.proofs.lemmas.List.{length-map, get_or-map}
use Rattle.std.proofs.lemmas.Iterator.Search.{true_from_All}
use Rattle.std.proofs.lemmas.List.Elements.{All-contains, All-contains_itself, All-map, All-weaker}
use Rattle.std.proofs.lemmas.Map.Lookups.{CmpEqualImpliesEq, exact_unsigned}
use Rattle.std.proofs.lemmas.Map.Views.{IfSome-get, btree_map_contains_key_iff}
use Rattle.std.proofs.lemmas.Option.{same_Some, slice_get_within, IfSome_then}
use Rattle.fa_capture.specs.Message.{Message}
use Rattle.fa_ledger.specs.Calls.{PlainAnswer, PlainCall, AreCalls}
use Rattle.fa_ledger.specs.declared.calls.Calls.{Calls}
use Rattle.fa_ledger.specs.Kinds.{OnlyReads}
use Rattle.fa_check.specs.Orders.{IsTreeRequestAt}
use Rattle.fa_check.specs.Replays.{IsAnswerAt}
use Rattle.fa_check.proofs.CallerLemmas.{call_is_tree, call_answered, asked_rise, one_place, one_answered}
use Rattle.fa_propose.proofs.CallerLemmas.{put_there, other_stays, there_from}
use Rattle.fa_search.specs.contracts.flight.DueOrd.TheImpl as order
use Rattle.fa_search.specs.contracts.flight.DueOrd.TheImpl.Laws as laws
use Rattle.fa_search.specs.declared.flight.Due.{Due}
use Rattle.fa_search.specs.declared.flight.Pending.{Pending}
use Rattle.fa_search.specs.declared.flight.InFlight.{InFlight}
use Rattle.fa_search.specs.parts.Configurations.{IsCallPending}
use Rattle.fa_search.specs.parts.Flight.{due_by, IsDue, IsPendingOf, IsInFlight, IsFlight, IsAmongNow, IsSent, AreLastUses}
use Rattle.fa_search.proofs.FlightLemmas.{answer_answers}
use Rattle.fa_search.proofs.PendingLemmas.{answered_behind, request_answers_none}

-- ---- when calls are answered

-- how that is compared
abbrev pub cmp : Due → Due → Ordering
cmp = order.cmp-value.it

-- it is a total order
pub cmp_total : IsTotalOrder cmp
cmp_total = laws.total-law

same_due : (m n : Bool) (p q : ℕ) → cmp (record { never = m; position = p }) (record { never = n; position = q }) ≡ Equal → (m ≡ n) × (p ≡ q)
same_due true true p q e = (refl, exact_unsigned p q e)
same_due true false p q e = absurd cc
same_due false true p q e = absurd cc
same_due false false p q e = (refl, exact_unsigned p q e)

-- which tells all apart
pub cmp_exact : CmpEqualImpliesEq cmp
cmp_exact a b e =
    let same = same_due a.never b.never a.position b.position e in
    ap (λ (n : Bool). made n a.position) same.0 ∙ ap (λ (p : ℕ). made b.never p) same.1
  where
    made : Bool → ℕ → Due
    made n p = record { never = n; position = p }

-- what this message answers
abbrev pub answer_due : (at : ℕ) → Due
answer_due at = record { never = false; position = at }

-- a call that this message answers has that answer
due_at : (answer : Option PlainAnswer) (asked at : ℕ) → answer_due at ≡ due_by answer asked → (given : PlainAnswer) × (answer ≡ Some given) × (given.at ≡ at)
due_at None asked at e = absurd (let never : false ≡ true = ap (λ (d : Due). d.never) e in cc)
due_at (Some given) asked at e = (given, refl, sym (ap (λ (d : Due). d.position) e))

-- and so is one that has it
due_of : (answer : Option PlainAnswer) (asked : ℕ) (given : PlainAnswer) → answer ≡ Some given → due_by answer asked ≡ answer_due given.at
due_of answer asked given has = ap (λ (a : Option PlainAnswer). due_by a asked) has

-- ---- a call that was sent

-- it is put among those in flight by when it is answered
pub among_now : (place : ℕ) (call : PlainCall) (old new : BTreeMap Due Pending) (due : Due) (pending : Pending) → IsOrdered cmp old → IsOrdered cmp new → Updates cmp old new due (Some pending)
    → IsDue due call → IsPendingOf place call pending → IsAmongNow place call old.entries new.entries
among_now place call old new due pending was is updates is_due of_call = record {
  due = due;
  pending = pending;
  is_due = is_due;
  of_call = of_call;
  added = put_there cmp_total cmp_exact old new was is due (Some pending) updates pending refl;
  kept = λ e has other. other_stays cmp_total cmp_exact old new was is due (Some pending) updates e.0 e.1 other has;
  each = λ e has. elim (there_from cmp_total cmp_exact old new was is due (Some pending) updates e.0 e.1 has) [
    | inl before ↦ inl before.0
    | inr here ↦ inr (ap (λ (d : Due). (d, e.1)) here.0 ∙ ap (λ (x : Pending). (due, x)) (sym (same_Some pending e.1 here.1)))
  ];
}

-- where it is told that there is an answer, one is shown
pub none_shown : {A B : Type 0} (shows : A → B) (answer : Option A) (told : Bool) → is_some answer ≡ not told → told ≡ false → option_map shows answer ≡ None → ⊥
none_shown shows None told is lacks none = true≢false (ap not (sym lacks) ∙ sym is)
none_shown shows (Some given) told is lacks none = absurd cc

-- where it is told that it does not only read, it does not
pub not_read : (told : Bool) (Reads : Type 0) → (Reads → IsTrue told) → told ≡ false → Reads → ⊥
not_read told Reads is other reads = true≢false (sym (is reads) ∙ other)

-- ---- the one that is alone

pub alone_told : (place : ℕ) (es : List (Due × Pending)) (told : Bool)
    → MatchBool told (AllWithin (λ (p : Pending). p.place ≡ place) (values_of es) 0 (length (values_of es))) ((k : ℕ) × (k < length (values_of es)) × HoldsAt (λ (p : Pending). p.place ≡ place → ⊥) (values_of es) k)
    → IsTrue told ↔ All (λ (e : Due × Pending). e.1.place ≡ place) es
alone_told place es told cases = (
  alone told cases,
  (λ all. true_from_All (λ (p : Pending). p.place ≡ place) (λ (p : Pending). p.place ≡ place → ⊥) told (values_of es) (λ p here other. other here) cases
      (All-map (λ (p : Pending). p.place ≡ place) (λ (e : Due × Pending). e.1) es all)),
)
  where
    alone : (told : Bool)
        → MatchBool told (AllWithin (λ (p : Pending). p.place ≡ place) (values_of es) 0 (length (values_of es))) ((k : ℕ) × (k < length (values_of es)) × HoldsAt (λ (p : Pending). p.place ≡ place → ⊥) (values_of es) k)
        → IsTrue told → All (λ (e : Due × Pending). e.1.place ≡ place) es
    alone true all is k d within =
        subst (λ (p : Pending). p.place ≡ place) (get_or-map (λ (e : Due × Pending). e.1) es k d d.1 within)
        (all k d.1 (omega arith) (omega (arith, within, length-map es (λ (e : Due × Pending). e.1))))
    alone false other is k d within = absurd (true≢false (sym is))

-- ---- the request that a message answers

-- the key of an entry is among the keys
key_there : (es : List (Due × Pending)) (e : Due × Pending) → Contains es e → Contains (keys_of es) e.0
key_there es e has = (
  has.0,
  (let within = has.1 in omega (arith, within, length-map es (λ (x : Due × Pending). x.0))),
  get_or-map (λ (x : Due × Pending). x.0) es has.0 e e.0 has.1 ∙ ap (λ (x : Due × Pending). x.0) has.2,
)

-- what is found by its number is a call that it answers
pub found_answered : (flight : InFlight) (found : Option Pending) → found ≡ get cmp flight.requests (answer_due flight.at)
    → IfSome found (λ pending. (calls : Calls) → IsFlight calls.list flight → IsInFlight calls.list flight.at pending × IsAnswerAt calls.list pending.place flight.at)
found_answered flight found looked = subst (λ (r : Option Pending). IfSome r Such) (sym looked) (IfSome_then (get cmp flight.requests (answer_due flight.at)) (IfSome-get cmp_total cmp_exact flight.requests (answer_due flight.at)) answers)
  where
    Such : Pending → Type 0
    Such pending = (calls : Calls) → IsFlight calls.list flight → IsInFlight calls.list flight.at pending × IsAnswerAt calls.list pending.place flight.at

    answers : (pending : Pending) → Contains flight.requests.entries (answer_due flight.at, pending) → Such pending
    answers pending has calls is =
        let was = All-contains (λ (e : Due × Pending). (there : IsInFlight calls.list flight.at e.1) × IsDue e.0 there.call) flight.requests.entries (answer_due flight.at, pending) is.each has in
        let given = due_at was.0.call.answer was.0.call.asked flight.at was.1 in
        (was.0, (was.0.call, given.0, was.0.listed, given.1, given.2))

-- where no call stands, the list has ended
past_end : (calls : List PlainCall) (place : ℕ) → slice_get calls place ≡ None → length calls ≤ place
past_end [] place none = omega arith
past_end (call ∷ calls) zero none = absurd cc
past_end (call ∷ calls) (suc place) none = omega (arith, past_end calls place none)

module _ (c : List Message) (calls : List PlainCall) (are : AreCalls c calls) where
  -- ---- calls at their places

  -- two calls at one place are one
  one_call : (i j : ℕ) (a b : PlainCall) → slice_get calls i ≡ Some a → slice_get calls j ≡ Some b → i ≡ j → a ≡ b
  one_call i j a b first second same = same_Some a b (sym first ∙ ap (slice_get calls) same ∙ second)

  -- an answer comes behind its call
  answered_later : (place : ℕ) (call : PlainCall) (answer : PlainAnswer) → slice_get calls place ≡ Some call → call.answer ≡ Some answer → call.asked < answer.at
  answered_later place call answer there has = answered_behind c call.asked answer.at (call_answered c calls are place call answer there has)

  -- calls that are answered at the same time are one
  due_tells : (i j : ℕ) (a b : PlainCall) → slice_get calls i ≡ Some a → slice_get calls j ≡ Some b → due_by a.answer a.asked ≡ due_by b.answer b.asked → i ≡ j
  due_tells i j a b first second same = by a.answer refl b.answer refl
    where
      by : (x : Option PlainAnswer) → a.answer ≡ x → (y : Option PlainAnswer) → b.answer ≡ y → i ≡ j
      by None one None two =
          let e : due_by None a.asked ≡ due_by None b.asked = sym (ap (λ (z : Option PlainAnswer). due_by z a.asked) one) ∙ same ∙ ap (λ (z : Option PlainAnswer). due_by z b.asked) two in
          one_place c calls are i j a b first second (ap (λ (d : Due). d.position) e)
      by None one (Some y) two =
          let e : due_by None a.asked ≡ due_by (Some y) b.asked = sym (ap (λ (z : Option PlainAnswer). due_by z a.asked) one) ∙ same ∙ ap (λ (z : Option PlainAnswer). due_by z b.asked) two in
          absurd (let never : true ≡ false = ap (λ (d : Due). d.never) e in cc)
      by (Some x) one None two =
          let e : due_by (Some x) a.asked ≡ due_by None b.asked = sym (ap (λ (z : Option PlainAnswer). due_by z a.asked) one) ∙ same ∙ ap (λ (z : Option PlainAnswer). due_by z b.asked) two in
          absurd (let never : false ≡ true = ap (λ (d : Due). d.never) e in cc)
      by (Some x) one (Some y) two =
          let e : due_by (Some x) a.asked ≡ due_by (Some y) b.asked = sym (ap (λ (z : Option PlainAnswer). due_by z a.asked) one) ∙ same ∙ ap (λ (z : Option PlainAnswer). due_by z b.asked) two in
          let at : x.at ≡ y.at = ap (λ (d : Due). d.position) e in
          one_answered c calls are i j y.at (a, x, first, one, at) (b, y, second, two, refl)

  module _ (old new : InFlight) (next : new.at ≡ old.at + 1) (same_uses : new.last_uses ≡ old.last_uses) (is : IsFlight calls old) where
    -- the table stays
    uses_here : AreLastUses calls new.last_uses
    uses_here = subst (AreLastUses calls) (sym same_uses) is.uses

    -- ---- in flight at a message and at the next

    -- a call that was sent before the message, and is in flight at the next, is so here
    pending_back : (call : PlainCall) → call.asked < old.at → IsCallPending new.at call → IsCallPending old.at call
    pending_back call sent pending = record {
      sent = sent;
      waits = λ answer has. (let later = pending.waits answer has in omega (arith, later, next));
      named = pending.named;
    }

    -- what is in flight stays so where the message is not its answer
    abbrev still : (pending : Pending) (was : IsInFlight calls old.at pending) → ((answer : PlainAnswer) → was.call.answer ≡ Some answer → answer.at ≡ old.at → ⊥) → IsInFlight calls new.at pending
    still pending was other = record {
      call = was.call;
      listed = was.listed;
      kept = was.kept;
      waits = record {
        sent = (let sent = was.waits.sent in omega (arith, sent, next));
        waits = λ answer has. (elim (cases_eq answer.at old.at) [
          | inl now ↦ absurd (other answer has now)
          | inr apart ↦ let late = was.waits.waits answer has in omega (arith, late, apart, next)
        ]);
        named = was.waits.named;
      };
    }

    -- ---- a message that sent no call

    module _ (count : new.seen ≡ old.seen) (unasked : (place : ℕ) (call : PlainCall) → slice_get calls place ≡ Some call → call.asked ≡ old.at → ⊥) where
      -- what is in flight at the next message is so here
      pending_here : (place : ℕ) (call : PlainCall) → slice_get calls place ≡ Some call → IsCallPending new.at call → IsCallPending old.at call
      pending_here place call there pending =
          let sent = pending.sent in
          let other = unasked place call there in
          pending_back call (elim (cases_lt call.asked old.at) [ inl before ↦ before | inr behind ↦ absurd (other (omega (arith, sent, next, behind))) ]) pending

      sent_here : (place : ℕ) (call : PlainCall) → slice_get calls place ≡ Some call → place < new.seen → call.asked < new.at
      sent_here place call there before = let sent = is.sent place call there (omega (arith, before, count)) in omega (arith, sent, next)

      unsent_here : (place : ℕ) (call : PlainCall) → slice_get calls place ≡ Some call → new.seen ≤ place → new.at ≤ call.asked
      unsent_here place call there behind =
          let unsent = is.unsent place call there (omega (arith, behind, count)) in
          elim (cases_eq call.asked old.at) [ inl now ↦ absurd (unasked place call there now) | inr other ↦ omega (arith, unsent, other, next) ]

      -- and answers none
      pub passed_by : new.requests.entries ≡ old.requests.entries → ((place : ℕ) → IsAnswerAt calls place old.at → ⊥) → IsFlight calls new
      passed_by same none = record {
        each =
            subst (All (λ (e : Due × Pending). (there : IsInFlight calls new.at e.1) × IsDue e.0 there.call)) (sym same)
            (All-weaker (λ (e : Due × Pending). (there : IsInFlight calls old.at e.1) × IsDue e.0 there.call) (λ (e : Due × Pending). (there : IsInFlight calls new.at e.1) × IsDue e.0 there.call)
            (λ e was. (still e.1 was.0 (λ answer has now. none e.1.place (was.0.call, answer, was.0.listed, has, now)), was.1)) old.requests.entries is.each);
        all = λ place call there pending.
            let found = is.all place call there (pending_here place call there pending) in
            (found.0, subst (λ (es : List (Due × Pending)). Contains es found.0) (sym same) found.1, found.2);
        sent = sent_here;
        unsent = unsent_here;
        uses = uses_here;
      }

      -- and answers this one
      pub answered_by : IsOrdered cmp old.requests → IsOrdered cmp new.requests → Updates cmp old.requests new.requests (answer_due old.at) None → IsFlight calls new
      answered_by was_ordered ordered updates = record {
        each = All-weaker (Contains new.requests.entries) (λ (e : Due × Pending). (there : IsInFlight calls new.at e.1) × IsDue e.0 there.call) stays new.requests.entries (All-contains_itself new.requests.entries);
        all = λ place call there pending.
            let found = is.all place call there (pending_here place call there pending) in
            let was = All-contains (λ (e : Due × Pending). (there : IsInFlight calls old.at e.1) × IsDue e.0 there.call) old.requests.entries found.0 is.each found.1 in
            let one : was.0.call ≡ call = one_call found.0.1.place place was.0.call call was.0.listed there found.2 in (
              found.0,
              other_stays cmp_total cmp_exact old.requests new.requests was_ordered ordered (answer_due old.at) None updates found.0.0 found.0.1
                  (λ now.
                  let given = due_at call.answer call.asked old.at (sym now ∙ was.1 ∙ ap (λ (x : PlainCall). due_by x.answer x.asked) one) in
                  let late = pending.waits given.0 given.1 in
                  let here = given.2 in
                  omega (arith, late, here, next)) found.1,
              found.2,
            );
        sent = sent_here;
        unsent = unsent_here;
        uses = uses_here;
      }
        where
          stays : (e : Due × Pending) → Contains new.requests.entries e → (there : IsInFlight calls new.at e.1) × IsDue e.0 there.call
          stays e has = elim (there_from cmp_total cmp_exact old.requests new.requests was_ordered ordered (answer_due old.at) None updates e.0 e.1 has) [
            | inl before ↦
                let was = All-contains (λ (e : Due × Pending). (there : IsInFlight calls old.at e.1) × IsDue e.0 there.call) old.requests.entries e is.each before.0 in (
                  still e.1 was.0
                      (λ answer given now.
                      before.1 (was.1 ∙ due_of was.0.call.answer was.0.call.asked answer given ∙ ap answer_due now)),
                  was.1,
                )
            | inr here ↦ absurd (let none = here.1 in cc)
          ]

    -- ---- a message that sent a call

    module _ (count : new.seen ≡ old.seen + 1) (call : PlainCall) (there : slice_get calls old.seen ≡ Some call) (asked : call.asked ≡ old.at) where
      -- the calls that were sent are those before, and this one
      sent_with : (place : ℕ) (other : PlainCall) → slice_get calls place ≡ Some other → place < new.seen → other.asked < new.at
      sent_with place other stands before = elim (cases_lt place old.seen) [
        | inl earlier ↦ let sent = is.sent place other stands earlier in omega (arith, sent, next)
        | inr late ↦
            let one : other ≡ call = one_call place old.seen other call stands there (omega (arith, before, count, late)) in
            let number : other.asked ≡ call.asked = ap (λ (x : PlainCall). x.asked) one in
            omega (arith, number, asked, next)
      ]

      unsent_with : (place : ℕ) (other : PlainCall) → slice_get calls place ≡ Some other → new.seen ≤ place → new.at ≤ other.asked
      unsent_with place other stands behind = let rises = asked_rise c calls are old.seen place call other (omega (arith, behind, count)) there stands in omega (arith, rises, asked, next)

      -- another one that is in flight at the next message is so here
      pending_other : (place : ℕ) (other : PlainCall) → slice_get calls place ≡ Some other → (place ≡ old.seen → ⊥) → IsCallPending new.at other → IsCallPending old.at other
      pending_other place other stands apart pending = pending_back other (elim (cases_lt place old.seen) [
        | inl earlier ↦ is.sent place other stands earlier
        | inr late ↦
            let rises = asked_rise c calls are old.seen place call other (elim (cases_lt old.seen place) [ inl below ↦ below | inr near ↦ absurd (apart (omega (arith, late, near))) ]) there stands in
            let sent = pending.sent in
            absurd (omega (arith, rises, asked, sent, next))
      ]) pending

      -- it answers none
      none_now : ((place : ℕ) → IsAnswerAt calls place old.at → ⊥) → (pending : Pending) (was : IsInFlight calls old.at pending) (answer : PlainAnswer) → was.call.answer ≡ Some answer → answer.at ≡ old.at → ⊥
      none_now none pending was answer has now = none pending.place (was.call, answer, was.listed, has, now)

      -- an order may not name it
      unnamed_sent : call.answer ≡ None → OnlyReads call.operation → new.requests.entries ≡ old.requests.entries → ((place : ℕ) → IsAnswerAt calls place old.at → ⊥) → IsFlight calls new
      unnamed_sent unanswered reads same none = record {
        each =
            subst (All (λ (e : Due × Pending). (stands : IsInFlight calls new.at e.1) × IsDue e.0 stands.call)) (sym same)
            (All-weaker (λ (e : Due × Pending). (stands : IsInFlight calls old.at e.1) × IsDue e.0 stands.call) (λ (e : Due × Pending). (stands : IsInFlight calls new.at e.1) × IsDue e.0 stands.call)
            (λ e was. (still e.1 was.0 (none_now none e.1 was.0), was.1)) old.requests.entries is.each);
        all = λ place other stands pending.
            let apart : place ≡ old.seen → ⊥ = λ here.
            let one : other ≡ call = one_call place old.seen other call stands there here in
            pending.named (ap (λ (x : PlainCall). x.answer) one ∙ unanswered) (subst (λ (x : PlainCall). OnlyReads x.operation) (sym one) reads) in
            let found = is.all place other stands (pending_other place other stands apart pending) in
            (found.0, subst (λ (es : List (Due × Pending)). Contains es found.0) (sym same) found.1, found.2);
        sent = sent_with;
        unsent = unsent_with;
        uses = uses_here;
      }

      -- it may name it: it is in flight too
      named_sent : (call.answer ≡ None → OnlyReads call.operation → ⊥) → IsAmongNow old.seen call old.requests.entries new.requests.entries → ((place : ℕ) → IsAnswerAt calls place old.at → ⊥) → IsFlight calls new
      named_sent named among none = record {
        each = All-weaker (Contains new.requests.entries) (λ (e : Due × Pending). (stands : IsInFlight calls new.at e.1) × IsDue e.0 stands.call) in_flight new.requests.entries (All-contains_itself new.requests.entries);
        all = λ place other stands pending. elim (cases_eq place old.seen) [
          | inl here ↦ ((among.due, among.pending), among.added, among.of_call.there ∙ sym here)
          | inr apart ↦
              let found = is.all place other stands (pending_other place other stands apart pending) in
              let was = All-contains (λ (e : Due × Pending). (stands : IsInFlight calls old.at e.1) × IsDue e.0 stands.call) old.requests.entries found.0 is.each found.1 in
              let one : was.0.call ≡ other = one_call found.0.1.place place was.0.call other was.0.listed stands found.2 in (
                found.0,
                among.kept found.0 found.1
                    (λ same. apart (due_tells place old.seen other call stands there (sym (was.1 ∙ ap (λ (x : PlainCall). due_by x.answer x.asked) one) ∙ same ∙ among.is_due))),
                found.2,
              )
        ];
        sent = sent_with;
        unsent = unsent_with;
        uses = uses_here;
      }
        where
          this : (stands : IsInFlight calls new.at among.pending) × IsDue among.due stands.call
          this = (
            record {
              call = call;
              listed = ap (slice_get calls) among.of_call.there ∙ there;
              kept = record {
                there = refl;
                number = among.of_call.number;
                unanswered = among.of_call.unanswered;
                most = among.of_call.most;
                keeps = among.of_call.keeps;
                up_to = among.of_call.up_to;
                gives = among.of_call.gives;
              };
              waits = record {
                sent = omega (arith, asked, next);
                waits = λ answer has. (let later = answered_later old.seen call answer there has in omega (arith, later, asked, next));
                named = named;
              };
            },
            among.is_due,
          )

          in_flight : (e : Due × Pending) → Contains new.requests.entries e → (stands : IsInFlight calls new.at e.1) × IsDue e.0 stands.call
          in_flight e has = elim (among.each e has) [
            | inl before ↦
                let was = All-contains (λ (e : Due × Pending). (stands : IsInFlight calls old.at e.1) × IsDue e.0 stands.call) old.requests.entries e is.each before in
                (still e.1 was.0 (none_now none e.1 was.0), was.1)
            | inr added ↦ subst (λ (e : Due × Pending). (stands : IsInFlight calls new.at e.1) × IsDue e.0 stands.call) (sym added) this
          ]

      pub passed_with : IsSent old.seen call old.requests.entries new.requests.entries → ((place : ℕ) → IsAnswerAt calls place old.at → ⊥) → IsFlight calls new
      passed_with sent none = elim sent [
        | inl unnamed ↦ unnamed_sent unnamed.0 unnamed.1 unnamed.2 none
        | inr named ↦ named_sent named.0 named.1 none
      ]

    -- ---- a message that sent no call of the list

    -- the next one is not its call
    pub none_asked : ((call : PlainCall) → slice_get calls old.seen ≡ Some call → call.asked ≡ old.at → ⊥) → (place : ℕ) (call : PlainCall) → slice_get calls place ≡ Some call → call.asked ≡ old.at → ⊥
    none_asked other place call there now = elim (cases_lt place old.seen) [
      | inl earlier ↦ let sent = is.sent place call there earlier in omega (arith, sent, now)
      | inr late ↦ elim (cases_eq place old.seen) [
        | inl here ↦ other call (sym (ap (slice_get calls) here) ∙ there) now
        | inr apart ↦ behind (slice_get calls old.seen) refl (elim (cases_lt old.seen place) [ inl below ↦ below | inr near ↦ absurd (apart (omega (arith, late, near))) ])
      ]
    ]
      where
        behind : (first : Option PlainCall) → slice_get calls old.seen ≡ first → old.seen < place → ⊥
        behind None gone below =
            let within = slice_get_within calls place call there in
            let end = past_end calls old.seen gone in
            omega (arith, within, end, below)
        behind (Some first) stands below =
            let rises = asked_rise c calls are old.seen place first call below stands there in
            let unsent = is.unsent old.seen first stands (omega arith) in
            omega (arith, rises, unsent, now)

    -- nor does an answer
    pub answer_asks_none : (answered : ℕ) → IsAnswerAt calls answered old.at → (place : ℕ) (call : PlainCall) → slice_get calls place ≡ Some call → call.asked ≡ old.at → ⊥
    answer_asks_none answered answer place call there now =
        let of = answer_answers c calls are old.at answered answer in
        request_answers_none c old.at (subst (IsTreeRequestAt c) now (call_is_tree c calls are place call there)) answer.0.asked of.0 of.1

  -- ---- the request that a message answers

  module _ (flight : InFlight) (is : IsFlight calls flight) where
    -- the call that it answers is in flight
    waits_now : (place : ℕ) (answer : IsAnswerAt calls place flight.at) → IsCallPending flight.at answer.0
    waits_now place answer =
        let later = answered_later place answer.0 answer.1 answer.2 answer.3 in
        let here = answer.4 in
        record {
          sent = omega (arith, later, here);
          waits = λ given has. (let same : given ≡ answer.1 = same_Some given answer.1 (sym has ∙ answer.3) in let at = ap (λ (x : PlainAnswer). x.at) same in omega (arith, at, here));
          named = λ none reads. (let gone : None ≡ Some answer.1 = sym none ∙ answer.3 in absurd cc);
        }

    -- an entry at its place has its key
    key_of : (place : ℕ) (answer : IsAnswerAt calls place flight.at) (e : Due × Pending) (was : IsInFlight calls flight.at e.1) → IsDue e.0 was.call → e.1.place ≡ place → e.0 ≡ answer_due flight.at
    key_of place answer e was is_due here =
        let one : was.call ≡ answer.0 = one_call e.1.place place was.call answer.0 was.listed answer.2 here in
        let due : due_by was.call.answer was.call.asked ≡ due_by answer.0.answer answer.0.asked = ap (λ (x : PlainCall). due_by x.answer x.asked) one in
        let by : due_by answer.0.answer answer.0.asked ≡ answer_due answer.1.at = due_of answer.0.answer answer.0.asked answer.1 answer.3 in
        is_due ∙ due ∙ by ∙ ap answer_due answer.4

    -- so its key is there
    answer_waits : (place : ℕ) → IsAnswerAt calls place flight.at → Contains (keys_of flight.requests.entries) (answer_due flight.at)
    answer_waits place answer =
        let found = is.all place answer.0 answer.2 (waits_now place answer) in
        let was = All-contains (λ (e : Due × Pending). (there : IsInFlight calls flight.at e.1) × IsDue e.0 there.call) flight.requests.entries found.0 is.each found.1 in
        subst (Contains (keys_of flight.requests.entries)) (key_of place answer found.0 was.0 was.1 found.2) (key_there flight.requests.entries found.0 found.1)

    -- so where none is found it answers none
    pub none_answered : (found : Option Pending) → found ≡ get cmp flight.requests (answer_due flight.at) → IsNone found → (place : ℕ) → IsAnswerAt calls place flight.at → ⊥
    none_answered found looked none place answer =
        by found none (subst (λ (r : Option Pending). IsSome r) (sym looked) ((btree_map_contains_key_iff cmp_total cmp_exact flight.requests (answer_due flight.at)).1 (answer_waits place answer)))
      where
        by : (r : Option Pending) → IsNone r → IsSome r → ⊥
        by None gone some = absurd cc
        by (Some x) gone some = absurd cc
