-- A reply comes, and its request is settled: where it alone is in flight, and where others are too.
use Rattle.std.proofs.Common.{◌≡◌, ◌⊎◌, ℕ, ◌+◌, ◌<◌, ◌≤◌, List, [], ◌∷◌, ◌++◌, length, take, min, Option, Some, None, refl, sym, subst, ap, ◌∙◌, inl, inr, arith}
use Rattle.std.specs.Prelude.{Contains, slice_get}
use Rattle.std.proofs.lemmas.Bool.{cases_lt}
use Rattle.std.proofs.lemmas.List.Elements.{Contains-append_cases, Contains-append_left, Contains-append_right, Contains-push, All-contains}
use Rattle.std.proofs.lemmas.List.{append_assoc, take-append-le}
use Rattle.std.proofs.lemmas.Option.{slice_get_within, same_Some}
use Rattle.fa_capture.specs.Message.{Message}
use Rattle.fa_capture.proofs.CallerLemmas.{take_one_more}
use Rattle.fa_session.specs.Answers.{IsAnsweredBy}
use Rattle.fa_ledger.specs.Calls.{PlainAnswer, PlainCall, AreCalls}
use Rattle.fa_ledger.specs.Choices.{AllowsBy}
use Rattle.fa_tree.specs.State.{TreeState}
use Rattle.fa_order.specs.declared.entry.Entry.{Entry}
use Rattle.fa_check.specs.Orders.{IsTreeRequestAt}
use Rattle.fa_check.specs.Replays.{IsAnswerAt}
use Rattle.fa_check.specs.Runs.{EntrySteps}
use Rattle.fa_check.proofs.CallerLemmas.{tree_is_call, one_step_failure}
use Rattle.fa_search.specs.Searches.{IsRefusedFrom}
use Rattle.fa_search.specs.declared.flight.InFlight.{InFlight}
use Rattle.fa_search.specs.declared.flight.Pending.{Pending}
use Rattle.fa_search.specs.parts.Configurations.{PlainConfiguration, IsPending, IsCallPending, MayBeTried, AreSettling, IsSpent, AreSpent}
use Rattle.fa_search.specs.parts.Flight.{IsInFlight, IsFlight, IsAlone}
use Rattle.fa_search.specs.parts.Placed.{MayBePlacedAt, IsPlacedIn}
use Rattle.fa_search.specs.parts.Settling.{IsTraced, AreHeldBy, AreSettlingBy, IsSettled, IsIn, AreGrown, IsOnlyPending, IsTakenIn, IsLeastOf}
use Rattle.fa_search.specs.parts.Settling.IsTakenIn.{WasPlaced, GetsPlaced, StaysLeft}
use Rattle.fa_search.proofs.PendingLemmas.{answered_pending}
use Rattle.fa_search.proofs.FlightLemmas.{answer_answers, pending_by_call}
use Rattle.fa_search.proofs.HeldLemmas.{held_ahead}
use Rattle.fa_search.proofs.SettlingLemmas.{each_of, still_there, AreAmong, none_settling, waits_more, settled_more, held_more, spent_still, spent_more}
use Rattle.fa_search.proofs.TriedLemmas.{spent_alone, step_followed, one_ahead}
use Rattle.fa_search.proofs.TracedLemmas.{traced_placed}

-- the request that the message answers may be tried
pub answer_tried : (c : List Message) (at asked : ℕ) → IsTreeRequestAt c asked → IsAnsweredBy c asked at → MayBeTried c at (record { at = asked; wrote = None })
answer_tried c at asked tree by = record {
  pending = answered_pending c at asked tree by;
  choice = record { answered = λ q answered. refl; unanswered = λ o waits. absurd (waits.0 at by) };
}

-- a list with one more is not empty
never_none : (xs : List PlainConfiguration) (x : PlainConfiguration) → xs ++ x ∷ [] ≡ [] → ⊥
never_none xs x none = let some = Contains-push xs x in let has = subst (λ (ys : List PlainConfiguration). Contains ys x) none some in omega (arith, has.1)

-- ---- where it alone is in flight

-- The request is settled from those that were taken: of these the ones in which it was not placed are spent.
pub record IsSettledSoFar (c : List Message) (first : TreeState) (common : List Entry) (at asked : ℕ) (taken left settled : List PlainConfiguration) : Type 0 where
  pub work : List PlainConfiguration
  pub settling : AreSettling c first at asked taken work settled
  pub spent : AreSpent c at work work settled
  pub left_is : settled ≡ [] → left ≡ work
  pub traced : (x : PlainConfiguration) → Contains settled x → IsTraced c first common at x
  pub left_traced : (x : PlainConfiguration) → Contains left x → IsTraced c first common at x

module _ (c : List Message) (first : TreeState) (common : List Entry) (at asked : ℕ) where
  -- before any is taken
  pub none_so_far : IsSettledSoFar c first common at asked [] [] []
  none_so_far = record {
    work = [];
    settling = none_settling c first at asked;
    spent = λ x has. absurd (omega (arith, has.1));
    left_is = λ none. refl;
    traced = λ x has. absurd (omega (arith, has.1));
    left_traced = λ x has. absurd (omega (arith, has.1));
  }

  -- where all that were held are taken it is settled
  pub settled_alone : (held left settled : List PlainConfiguration) → AreHeldBy c first common at held → IsSettledSoFar c first common at asked held left settled
      → IsSettled c first common at asked left settled
  settled_alone held left settled are so_far = record {
    held = held;
    work = so_far.work;
    are_held = are.are;
    settling = so_far.settling;
    spent = so_far.spent;
    left_is = so_far.left_is;
    traced = so_far.traced;
    left_traced = so_far.left_traced;
  }

  module _ (only : IsOnlyPending c at asked) (taken left settled : List PlainConfiguration) (x : PlainConfiguration) (is : IsTraced c first common at x)
      (so_far : IsSettledSoFar c first common at asked taken left settled) where
    -- one more in which it was placed
    was_placed : Contains x.placed asked → IsSettledSoFar c first common at asked (taken ++ x ∷ []) left (settled ++ x ∷ [])
    was_placed has = record {
      work = so_far.work;
      settling = held_more c first at asked taken so_far.work (settled ++ x ∷ []) x (inr (Contains-push settled x))
          (settled_more c first at asked taken so_far.work settled x is.0 so_far.settling has);
      spent = spent_still c at so_far.work so_far.work settled so_far.work (settled ++ x ∷ []) ((λ y there. there), (λ y there. still_there settled x y there)) so_far.spent;
      left_is = λ none. absurd (never_none settled x none);
      traced = each_of settled x (IsTraced c first common at) so_far.traced is;
      left_traced = so_far.left_traced;
    }

    -- one more in which it is placed by its step
    gets_placed : (y : PlainConfiguration) → (Contains x.placed asked → ⊥) → IsPlacedIn c x (record { at = asked; wrote = None }) y
        → IsSettledSoFar c first common at asked (taken ++ x ∷ []) left (settled ++ y ∷ [])
    gets_placed y lacks in_it =
        let e : Entry = record { at = asked; wrote = None } in
        let work = so_far.work ++ x ∷ [] in
        let traced : IsTraced c first common at y = traced_placed c first common at x y e (answer_tried c at asked only.0 only.1) lacks in_it is in
        record {
          work = work;
          settling = held_more c first at asked taken work (settled ++ y ∷ []) x (inl (Contains-push so_far.work x))
              (settled_more c first at asked taken work settled y traced.0 (waits_more c first at asked taken so_far.work settled x is.0 so_far.settling lacks) ((in_it.placed asked).1 (inr refl)));
          spent = spent_more c at so_far.work work (settled ++ y ∷ []) x
              (spent_alone c at asked x work (settled ++ y ∷ []) only.1 only.2
              (λ new steps. step_followed c at x y e y.tree work (settled ++ y ∷ []) in_it.steps (λ knows. one_ahead c at x y asked y.tree refl in_it.placed) (inr (Contains-push settled y)) new steps))
              (spent_still c at so_far.work so_far.work settled work (settled ++ y ∷ []) ((λ z there. still_there so_far.work x z there), (λ z there. still_there settled y z there)) so_far.spent);
          left_is = λ none. absurd (never_none settled y none);
          traced = each_of settled y (IsTraced c first common at) so_far.traced traced;
          left_traced = so_far.left_traced;
        }

    -- one more in which it is not placed, and has no step
    stays_left : (Contains x.placed asked → ⊥) → ((new : TreeState) → EntrySteps x.tree new c (record { at = asked; wrote = None }) → ⊥)
        → IsSettledSoFar c first common at asked (taken ++ x ∷ []) (left ++ x ∷ []) settled
    stays_left lacks none =
        let work = so_far.work ++ x ∷ [] in
        record {
          work = work;
          settling = held_more c first at asked taken work settled x (inl (Contains-push so_far.work x))
              (waits_more c first at asked taken so_far.work settled x is.0 so_far.settling lacks);
          spent = spent_more c at so_far.work work settled x
              (spent_alone c at asked x work settled only.1 only.2 (λ new steps. absurd (none new steps)))
              (spent_still c at so_far.work so_far.work settled work settled ((λ z there. still_there so_far.work x z there), (λ z there. there)) so_far.spent);
          left_is = λ empty. ap (λ (xs : List PlainConfiguration). xs ++ x ∷ []) (so_far.left_is empty);
          traced = so_far.traced;
          left_traced = each_of left x (IsTraced c first common at) so_far.left_traced is;
        }

    by_lists : (more further others beyond : List PlainConfiguration) → more ≡ others → further ≡ beyond
        → IsSettledSoFar c first common at asked (taken ++ x ∷ []) others beyond → IsSettledSoFar c first common at asked (taken ++ x ∷ []) more further
    by_lists more further others beyond same alike is_so =
        subst (λ (xs : List PlainConfiguration). IsSettledSoFar c first common at asked (taken ++ x ∷ []) xs further) (sym same)
        (subst (λ (xs : List PlainConfiguration). IsSettledSoFar c first common at asked (taken ++ x ∷ []) others xs) (sym alike) is_so)

    -- so one more that was taken in
    pub taken_more : (more further : List PlainConfiguration) → IsTakenIn c asked x left settled more further → IsSettledSoFar c first common at asked (taken ++ x ∷ []) more further
    taken_more more further (WasPlaced has same behind) = by_lists more further left (settled ++ x ∷ []) same behind (was_placed has)
    taken_more more further (GetsPlaced y lacks in_it same behind) = by_lists more further left (settled ++ y ∷ []) same behind (gets_placed y lacks in_it)
    taken_more more further (StaysLeft lacks none behind same) = by_lists more further (left ++ x ∷ []) settled behind same (stays_left lacks none)

-- ---- where others are in flight too

-- What was held is taken in up to now: each is in the two lists, or what is ahead of it.
abbrev pub AreTakenIn : List Message → (at : ℕ) → (taken work settled : List PlainConfiguration) → Type 0
AreTakenIn c at taken work settled = (x : PlainConfiguration) → Contains taken x → IsIn c at x work settled

-- the lists that grew have what they had
pub grown_among : (work settled more further : List PlainConfiguration) → AreGrown work settled more further → AreAmong work settled more further
grown_among work settled more further grown = (
  (λ x has. subst (λ (xs : List PlainConfiguration). Contains xs x) (sym grown.work_is) (Contains-append_left work grown.behind x has)),
  (λ x has. subst (λ (xs : List PlainConfiguration). Contains xs x) (sym grown.settled_is) (Contains-append_left settled grown.beside x has)),
)

-- so what was in them is
pub in_still : (c : List Message) (at : ℕ) (x : PlainConfiguration) (work settled more further : List PlainConfiguration) → AreGrown work settled more further → IsIn c at x work settled
    → IsIn c at x more further
in_still c at x work settled more further grown is =
    let among = grown_among work settled more further grown in
    record {
      to = is.to;
      there = elim is.there [ inl waits ↦ inl (among.0 is.to waits) | inr done ↦ inr (among.1 is.to done) ];
      ahead = is.ahead;
    }

pub taken_still : (c : List Message) (at : ℕ) (taken work settled more further : List PlainConfiguration) → AreGrown work settled more further → AreTakenIn c at taken work settled
    → AreTakenIn c at taken more further
taken_still c at taken work settled more further grown are x has = in_still c at x work settled more further grown (are x has)

-- and one more
pub taken_in_more : (c : List Message) (at : ℕ) (taken work settled more further : List PlainConfiguration) (x : PlainConfiguration) → AreGrown work settled more further → IsIn c at x more further
    → AreTakenIn c at taken work settled → AreTakenIn c at (taken ++ x ∷ []) more further
taken_in_more c at taken work settled more further x grown is are =
    each_of taken x (λ y. IsIn c at y more further) (taken_still c at taken work settled more further grown are) is

-- before any is taken in
pub none_settling_by : (c : List Message) (first : TreeState) (common : List Entry) (at asked : ℕ) → AreSettlingBy c first common at asked [] [] []
none_settling_by c first common at asked = record {
  are = none_settling c first at asked;
  traced = λ x has. absurd (elim has [ inl waits ↦ omega (arith, waits.1) | inr done ↦ omega (arith, done.1) ]);
}

-- what was spent up to a place is so behind it, with that of the place
pub spent_next : (c : List Message) (at next : ℕ) (x : PlainConfiguration) (work settled more further : List PlainConfiguration) → AreGrown work settled more further → slice_get work next ≡ Some x
    → AreSpent c at (take next work) work settled → IsSpent c at x more further → AreSpent c at (take (next + 1) more) more further
spent_next c at next x work settled more further grown there spent is =
    subst (λ (those : List PlainConfiguration). AreSpent c at those more further) (sym taken)
    (spent_more c at (take next work) more further x is (spent_still c at (take next work) work settled more further (grown_among work settled more further grown) spent))
  where
    taken : take (next + 1) more ≡ take next work ++ x ∷ []
    taken =
        let within : next < length work = slice_get_within work next x there in
        ap (take (next + 1)) grown.work_is ∙ take-append-le (next + 1) work grown.behind (omega (arith, within)) ∙ take_one_more work next x there

-- where each in which the request is not placed is spent, it is settled
pub settled_among : (c : List Message) (first : TreeState) (common : List Entry) (at asked : ℕ) (held work settled : List PlainConfiguration) → AreHeldBy c first common at held
    → AreTakenIn c at held work settled → AreSettlingBy c first common at asked [] work settled → AreSpent c at work work settled → IsSettled c first common at asked work settled
settled_among c first common at asked held work settled are taken settling spent = record {
  held = work ++ settled;
  work = work;
  are_held = held_ahead c first at held (work ++ settled)
      (λ y has. settling.are.reached y (Contains-append_cases work settled y has))
      (λ x has. (let is = taken x has in
      (is.to, elim is.there [ inl waits ↦ Contains-append_left work settled is.to waits | inr done ↦ Contains-append_right work settled is.to done ], is.ahead)))
      are.are;
  settling = record {
    begun = Contains-append_cases work settled;
    waiting = settling.are.waiting;
    placed = settling.are.placed;
    reached = settling.are.reached;
  };
  spent = spent;
  left_is = λ none. refl;
  traced = λ x done. settling.traced x (inr done);
  left_traced = λ x waits. settling.traced x (inl waits);
}

-- ---- where none has a step

-- The least code with which the request is refused from these; as long as there are none it is the greatest that there is.
pub record IsLeastSoFar (c : List Message) (asked : ℕ) (those : List PlainConfiguration) (code : ℕ) : Type 0 where
  pub one : ((those ≡ []) × (code ≡ 65535)) ⊎ ((x : PlainConfiguration) × Contains those x × IsRefusedFrom x.tree c asked code)
  pub least : (x : PlainConfiguration) (other : ℕ) → Contains those x → IsRefusedFrom x.tree c asked other → code ≤ other

pub none_least : (c : List Message) (asked : ℕ) → IsLeastSoFar c asked [] 65535
none_least c asked = record { one = inl (refl, refl); least = λ x other has. absurd (omega (arith, has.1)) }

-- one more, which refuses with this code
pub least_more : (c : List Message) (asked : ℕ) (those : List PlainConfiguration) (x : PlainConfiguration) (least code now : ℕ) → code ≤ 65535 → IsRefusedFrom x.tree c asked code
    → now ≡ min least code → IsLeastSoFar c asked those least → IsLeastSoFar c asked (those ++ x ∷ []) now
least_more c asked those x least code now fits refused both so_far = record {
  one = elim is [
    | inl old ↦ elim so_far.one [
      | inl none ↦ inr (x, Contains-push those x, subst (IsRefusedFrom x.tree c asked) (let all = none.1 in omega (arith, all, old, below, fits)) refused)
      | inr some ↦ inr (some.0, still_there those x some.0 some.1, subst (IsRefusedFrom some.0.tree c asked) (sym old) some.2)
    ]
    | inr new ↦ inr (x, Contains-push those x, subst (IsRefusedFrom x.tree c asked) (sym new) refused)
  ];
  least = λ y other has too.
      each_of those x (λ z. (k : ℕ) → IsRefusedFrom z.tree c asked k → now ≤ k)
      (λ z there k refuses. (let above = so_far.least z k there refuses in omega (arith, above, under)))
      (λ k refuses. (let same = one_step_failure c x.tree (record { at = asked; wrote = None }) code k refused refuses in omega (arith, same, below)))
      y has other too;
}
  where
    under : now ≤ least
    under = omega (arith, both)

    below : now ≤ code
    below = omega (arith, both)

    is : (now ≡ least) ⊎ (now ≡ code)
    is = elim (cases_lt code least) [ inl less ↦ inr (omega (arith, both, less)) | inr most ↦ inl (omega (arith, both, most)) ]

-- one more is kept behind the others, as it was
pub kept_more : (old seen kept new : List PlainConfiguration) (x now : PlainConfiguration) → now ≡ x → new ≡ kept ++ now ∷ [] → kept ≡ old ++ seen → new ≡ old ++ (seen ++ x ∷ [])
kept_more old seen kept new x now still behind before =
    behind ∙ ap (λ (y : PlainConfiguration). kept ++ y ∷ []) still ∙ ap (λ (xs : List PlainConfiguration). xs ++ x ∷ []) before ∙ append_assoc old seen (x ∷ [])

-- of none before, they are kept alone
pub kept_alone : (old left new : List PlainConfiguration) → new ≡ old ++ left → old ≡ [] → new ≡ left
kept_alone old left new behind none = behind ∙ ap (λ (xs : List PlainConfiguration). xs ++ left) none

-- where there are some it is their least
pub least_of_all : (c : List Message) (asked : ℕ) (those : List PlainConfiguration) (code : ℕ) → 0 < length those → IsLeastSoFar c asked those code → IsLeastOf c asked those code
least_of_all c asked those code some so_far = record {
  one = elim so_far.one [
    | inl none ↦ absurd (let empty : length those ≡ 0 = ap length none.0 in omega (arith, empty, some))
    | inr found ↦ found
  ];
  least = so_far.least;
}

-- ---- which of both it is

-- a request that is in flight and answered carries no count
pub answered_placed : (calls : List PlainCall) (at : ℕ) (pending : Pending) → IsInFlight calls at pending → IsAnswerAt calls pending.place at
    → MayBePlacedAt calls pending.place (record { at = pending.asked; wrote = None })
answered_placed calls at pending is answer =
    let same : is.call ≡ answer.0 = same_Some is.call answer.0 (sym is.listed ∙ answer.2) in
    (is.call, is.listed, sym is.kept.number, subst (λ (given : Option PlainAnswer). AllowsBy given is.call.operation None) (sym (ap (λ (call : PlainCall). call.answer) same ∙ answer.3)) refl)

module _ (c : List Message) (calls : List PlainCall) (are : AreCalls c calls) (at : ℕ) (pending : Pending) (is : IsInFlight calls at pending)
    (answer : IsAnswerAt calls pending.place at) where
  -- the message answers its request
  pub asked_answered : IsTreeRequestAt c pending.asked × IsAnsweredBy c pending.asked at
  asked_answered =
      let same : is.call ≡ answer.0 = same_Some is.call answer.0 (sym is.listed ∙ answer.2) in
      let number : answer.0.asked ≡ pending.asked = ap (λ (call : PlainCall). call.asked) (sym same) ∙ sym is.kept.number in
      let by = answer_answers c calls are at pending.place answer in
      (subst (IsTreeRequestAt c) number by.0, subst (λ (k : ℕ). IsAnsweredBy c k at) number by.1)

  -- and where it alone is in flight, no other may be named
  pub alone_only : (flight : InFlight) → flight.at ≡ at → IsFlight calls flight → IsAlone flight pending.place → IsOnlyPending c at pending.asked
  alone_only flight here are_all alone =
      let by = asked_answered in (
        by.0,
        by.1,
        (λ p waits.
            let found = tree_is_call c calls are p waits.tree_request in
            let call = found.1.0 in
            let pends : IsCallPending at call = (pending_by_call c calls are at found.0 call found.1.1).0 (subst (IsPending c at) (sym found.1.2) waits) in
            let e = are_all.all found.0 call found.1.1 (subst (λ (k : ℕ). IsCallPending k call) (sym here) pends) in
            let place : found.0 ≡ pending.place = sym e.2 ∙ All-contains (λ f. f.1.place ≡ pending.place) flight.requests.entries e.0 alone e.1 in
            let same : call ≡ is.call = same_Some call is.call (sym found.1.1 ∙ ap (slice_get calls) place ∙ is.listed) in
            sym found.1.2 ∙ ap (λ (x : PlainCall). x.asked) same ∙ sym is.kept.number),
      )
