-- Good messages and a first tree have never no proposal.
use Rattle.std.proofs.Common.{◌≡◌, ℕ, zero, suc, ◌+◌, ◌≤◌, ◌⊎◌, List, [], ◌∷◌, ◌++◌, length, get_or, take, drop, Option, Some, None, refl, sym, ap, subst, ◌∙◌, inl, inr, arith}
use Rattle.std.specs.Prelude.{slice_get, map, All, AllPairs, Contains}
use Rattle.std.proofs.lemmas.Bool.{cases_lt}
use Rattle.std.proofs.lemmas.Option.{slice_get_within, slice_get-get_or, get_or_from_slice_get}
use Rattle.std.proofs.lemmas.List.{length-append, take-append-drop, get_or_at}
use Rattle.std.proofs.lemmas.List.Elements.{All-nil, All-cons, All-contains, Contains-get_or, Contains-append_left}
use Rattle.std.proofs.lemmas.List.Kept.{AllPairs-cons}
use Rattle.fa_capture.specs.Checks.{AllHold}
use Rattle.fa_capture.specs.Message.{Message}
use Rattle.fa_capture.proofs.CallerLemmas.{contains_cases, contains_first, contains_behind, pairs_behind, pairs_tail}
use Rattle.fa_session.specs.Events.{PlainEvent}
use Rattle.fa_ledger.specs.Calls.{PlainAnswer, PlainCall, IsCall, AreCalls}
use Rattle.fa_ledger.specs.Kinds.{KeepsTree}
use Rattle.fa_ledger.proofs.CallerLemmas.{events_are_one, call_at, call_with, call_is_one, calls_are_there, request_event}
use Rattle.fa_tree.specs.State.{TreeState}
use Rattle.fa_order.specs.declared.entry.Entry.{Entry}
use Rattle.fa_check.specs.Orders.{IsTreeRequestAt, numbers}
use Rattle.fa_check.specs.Faults.{order_checks}
use Rattle.fa_check.proofs.CallerLemmas.{number_still, number_now}
use Rattle.fa_propose.specs.declared.rank.Group.{Group}
use Rattle.fa_propose.specs.declared.rank.Group.TheVariants.{Unchanging, Changing, Unanswered}
use Rattle.fa_propose.specs.declared.rank.Rank.{Rank}
use Rattle.fa_propose.specs.declared.proposing.TheConstants.{MAX_TRIED}
use Rattle.fa_propose.specs.Proposals.{entry_of, IsCandidate, IsRankIn, IsRank, group_number, IsTriedBefore, AreCandidates, AreTried, StepsTo, HasNoStep, IsNext, IsStuck, AllPlaced, IsProposedSoFar, IsProposal}
use Rattle.fa_propose.specs.Proposals.IsProposedSoFar.{begun, further}
use Rattle.fa_propose.specs.Laws.{ProposalIsThere}
use Rattle.fa_propose.proofs.CandidateLemmas.{tried_on}
use Rattle.fa_propose.proofs.RankLemmas.{in_group}

-- ---- what can't be refused

-- that a fact holds or does not
either : (Fact : Type 0) → ((Fact ⊎ (Fact → ⊥)) → ⊥) → ⊥
either Fact neither = neither (inr (λ holds. neither (inl holds)))

-- ---- lists in order

-- what holds of each that a list contains holds of all
all_contained : {X : Type 0} (P : X → Type 0) (xs : List X) → ((x : X) → Contains xs x → P x) → All P xs
all_contained P xs each k d within = each (get_or xs k d) (Contains-get_or xs k d within)

-- that one of the two stands before the other
abbrev AreOrdered : {X : Type 0} → (X → X → Type 0) → X → X → Type 0
AreOrdered R x y = ((R x y ⊎ R y x) → ⊥) → ⊥

module _ {X : Type 0} (R : X → X → Type 0) (further_on : (x y z : X) → R x y → R y z → R x z) where
  -- one more is put in its place
  put_in : (x : X) (xs : List X) → AllPairs R xs → ((y : X) → Contains xs y → AreOrdered R x y)
      → ((ys : List X) → AllPairs R ys → Contains ys x → ((y : X) → Contains xs y → Contains ys y) → ((y : X) → Contains ys y → (x ≡ y) ⊎ Contains xs y) → ⊥) → ⊥
  put_in x [] pairs ordered not =
      not (x ∷ []) (AllPairs-cons R x [] (All-nil (R x)) pairs) (contains_first x []) (λ y has. absurd (omega (arith, has.1))) (λ y has. contains_cases x [] y has)
  put_in x (y ∷ xs) pairs ordered not =
      ordered y (contains_first y xs) (λ order. elim order [
        | inl first ↦
            not (x ∷ y ∷ xs) (AllPairs-cons R x (y ∷ xs) (All-cons (R x) y xs first (all_contained (R x) xs (λ z has. further_on x y z first (pairs_behind R [] xs y z pairs has)))) pairs)
            (contains_first x (y ∷ xs)) (λ z has. contains_behind x (y ∷ xs) z has) (λ z has. contains_cases x (y ∷ xs) z has)
        | inr later ↦
            put_in x xs (pairs_tail R y xs pairs) (λ z has. ordered z (contains_behind y xs z has)) (λ ys rest there kept back.
            not (y ∷ ys)
            (AllPairs-cons R y ys (all_contained (R y) ys (λ z has. elim (back z has) [
              | inl new ↦ subst (R y) new later
              | inr old ↦ pairs_behind R [] xs y z pairs old
            ])) rest)
            (contains_behind y ys x there)
            (λ z has. elim (contains_cases y xs z has) [
              | inl here ↦ subst (Contains (y ∷ ys)) here (contains_first y ys)
              | inr behind ↦ contains_behind y ys z (kept z behind)
            ])
            (λ z has. elim (contains_cases y ys z has) [
              | inl here ↦ inr (subst (Contains (y ∷ xs)) here (contains_first y xs))
              | inr behind ↦ elim (back z behind) [ inl new ↦ inl new | inr old ↦ inr (contains_behind y xs z old) ]
            ]))
      ])

  -- those that are such are picked, in order
  picked_in_order : (Such : X → Type 0) (xs : List X) → AllPairs (AreOrdered R) xs
      → ((ys : List X) → AllPairs R ys → ((y : X) → Contains ys y → Contains xs y × Such y) → ((y : X) → Contains xs y → Such y → Contains ys y) → ⊥) → ⊥
  picked_in_order Such [] ordered not =
      not [] (λ i j d before within. absurd (omega (arith, within))) (λ y has. absurd (omega (arith, has.1))) (λ y has such. absurd (omega (arith, has.1)))
  picked_in_order Such (x ∷ xs) ordered not =
      picked_in_order Such xs (pairs_tail (AreOrdered R) x xs ordered) (λ ys pairs each complete.
      either (Such x) (λ known. elim known [
        | inl such ↦
            put_in x ys pairs (λ y has. pairs_behind (AreOrdered R) [] xs x y ordered (each y has).0) (λ zs whole there kept back.
            not zs whole
            (λ z has. elim (back z has) [
              | inl here ↦ (subst (Contains (x ∷ xs)) here (contains_first x xs), subst Such here such)
              | inr behind ↦ (contains_behind x xs z (each z behind).0, (each z behind).1)
            ])
            (λ z has is. elim (contains_cases x xs z has) [
              | inl here ↦ subst (Contains zs) here there
              | inr behind ↦ kept z (complete z behind is)
            ]))
        | inr lacks ↦
            not ys pairs (λ z has. (contains_behind x xs z (each z has).0, (each z has).1)) (λ z has is. elim (contains_cases x xs z has) [
              | inl here ↦ absurd (lacks (subst Such (sym here) is))
              | inr behind ↦ complete z behind is
            ])
      ]))

-- a list without one of its elements
without : {X : Type 0} (xs : List X) (x : X) → Contains xs x → (ys : List X) × (length xs ≡ length ys + 1) × ((y : X) → Contains xs y → (x ≡ y) ⊎ Contains ys y)
without [] x has = absurd (omega (arith, has.1))
without {X = X} (w ∷ xs) x has =
    elim (contains_cases w xs x has) [
      | inl here ↦ (xs, omega arith, λ y also. subst (λ (u : X). (u ≡ y) ⊎ Contains xs y) here (contains_cases w xs y also))
      | inr behind ↦
          let rest : (ys : List X) × (length xs ≡ length ys + 1) × ((y : X) → Contains xs y → (x ≡ y) ⊎ Contains ys y) = without xs x behind in (
            w ∷ rest.0,
            omega (arith, rest.1),
            λ y also. elim (contains_cases w xs y also) [
              | inl first ↦ inr (subst (Contains (w ∷ rest.0)) first (contains_first w rest.0))
              | inr later ↦ elim (rest.2 y later) [ inl same ↦ inl same | inr other ↦ inr (contains_behind w rest.0 y other) ]
            ],
          )
    ]

-- ---- ranks

-- that a call has a rank
rank_is_there : (call : PlainCall) → ((rank : Rank) → IsRank rank call → ⊥) → ⊥
rank_is_there call not = by call.answer refl
  where
    by : (answer : Option PlainAnswer) → call.answer ≡ answer → ⊥
    by None is = not (record { group = Unanswered; position = call.asked }) (is, refl)
    by (Some answer) is =
        either (KeepsTree call.operation) (λ known. elim known [
          | inl keeps ↦ not (record { group = Unchanging; position = answer.at }) (answer, is, keeps, refl)
          | inr changes ↦ not (record { group = Changing; position = answer.at }) (answer, is, changes, refl)
        ])

-- groups at the same place are one
same_group : (g h : Group) → group_number g ≡ group_number h → g ≡ h
same_group Unchanging Unchanging is = refl
same_group Unchanging Changing is = absurd (omega (arith, is))
same_group Unchanging Unanswered is = absurd (omega (arith, is))
same_group Changing Unchanging is = absurd (omega (arith, is))
same_group Changing Changing is = refl
same_group Changing Unanswered is = absurd (omega (arith, is))
same_group Unanswered Unchanging is = absurd (omega (arith, is))
same_group Unanswered Changing is = absurd (omega (arith, is))
same_group Unanswered Unanswered is = refl

-- ---- candidates

module _ (c : List Message) (calls : List PlainCall) (are : AreCalls c calls) where
  -- that of calls at two places one is tried before the other
  calls_ordered : (i j : ℕ) (a b : PlainCall) → slice_get calls i ≡ Some a → slice_get calls j ≡ Some b → (i ≡ j → ⊥) → AreOrdered IsTriedBefore a b
  calls_ordered i j a b here there apart not =
      rank_is_there a (λ rank is. rank_is_there b (λ other too.
      elim (cases_lt (group_number rank.group) (group_number other.group)) [
        | inl less ↦ not (inl (rank, other, is, too, inl less))
        | inr far ↦ elim (cases_lt (group_number other.group) (group_number rank.group)) [
          | inl more ↦ not (inr (other, rank, too, is, inl more))
          | inr near ↦
              let group : rank.group ≡ other.group = same_group rank.group other.group (omega (arith, far, near)) in
              elim (cases_lt rank.position other.position) [
                | inl earlier ↦ not (inl (rank, other, is, too, inr (group, earlier)))
                | inr above ↦ elim (cases_lt other.position rank.position) [
                  | inl later ↦ not (inr (other, rank, too, is, inr (sym group, later)))
                  | inr below ↦
                      let position : rank.position ≡ other.position = omega (arith, above, below) in
                      let moved : IsRankIn other.group other.position a =
                      subst (λ (p : ℕ). IsRankIn other.group p a) position (subst (λ (g : Group). IsRankIn g rank.position a) group is) in
                      apart (in_group c calls are other.group other.position i j a b here there moved too)
                ]
              ]
        ]
      ]))

  -- that of each two calls one is tried before the other
  all_ordered : AllPairs (AreOrdered IsTriedBefore) calls
  all_ordered i j d before within =
      calls_ordered i j (get_or calls i d) (get_or calls j d) (slice_get-get_or calls i d (omega (arith, before, within))) (slice_get-get_or calls j d within)
      (λ same. omega (arith, before, same))

  -- each call of the events is in the list
  call_in_list : (call : PlainCall) → IsCall are.events call → Contains calls call
  call_in_list call is =
      let found = call_with calls call.asked (are.exact.complete call.asked is.request is.there is.asked.tree) in
      let there = call_at are.events calls are.exact.each found.0 found.1 found.2 in
      let same : found.1 ≡ call = call_is_one c are.events are.are found.1 call there is found.3 in
      (found.0, slice_get_within calls found.0 found.1 found.2, get_or_from_slice_get calls found.0 found.1 call found.2 ∙ same)

  -- that there is the list of the candidates
  candidates_are_there : (es : List Entry) → ((candidates : List PlainCall) → AreCandidates c es candidates → ⊥) → ⊥
  candidates_are_there es not =
      picked_in_order IsTriedBefore tried_on (IsCandidate c es) calls all_ordered (λ candidates ordered each complete.
      not candidates (record {
        each = all_contained (IsCandidate c es) candidates (λ call has. (each call has).1);
        complete = λ call is. complete call (call_in_list call (subst (λ (events : List PlainEvent). IsCall events call) (events_are_one c is.events are.events is.are are.are) is.exact)) is;
        ordered = ordered;
      }))

-- ---- steps

-- Of these calls there is a first that has a step, or none has one.
abbrev HasFirstStep : List Message → TreeState → List PlainCall → Type 0
HasFirstStep c tree xs =
    ((earlier later : List PlainCall) × (call : PlainCall) × (new : TreeState) × (xs ≡ earlier ++ call ∷ later) × All (HasNoStep tree c) earlier × StepsTo tree new c call)
    ⊎ All (HasNoStep tree c) xs

-- that one of the two is so
first_is_there : (c : List Message) (tree : TreeState) (xs : List PlainCall) → (HasFirstStep c tree xs → ⊥) → ⊥
first_is_there c tree [] not = not (inr (All-nil (HasNoStep tree c)))
first_is_there c tree (x ∷ xs) not =
    either ((new : TreeState) × StepsTo tree new c x) (λ known. elim known [
      | inl steps ↦ not (inl ([], xs, x, steps.0, refl, All-nil (HasNoStep tree c), steps.1))
      | inr stays ↦
          let lacks : HasNoStep tree c x = λ new steps. stays (new, steps) in
          first_is_there c tree xs (λ rest. elim rest [
            | inl found ↦ not (inl (x ∷ found.0, found.1, found.2, found.3, ap (λ (ys : List PlainCall). x ∷ ys) found.4, All-cons (HasNoStep tree c) x found.0 lacks found.5, found.6))
            | inr none ↦ not (inr (All-cons (HasNoStep tree c) x xs lacks none))
          ])
    ])

-- the next call passes the checks of its place
next_placed : (c : List Message) (es : List Entry) (old new : TreeState) (call : PlainCall) → IsNext c es old new call → AllHold (order_checks c es (entry_of call))
next_placed c es old new call is =
    let candidates = is.tried.candidates in
    let here : Contains (is.earlier ++ call ∷ is.later) call =
    (length is.earlier, omega (arith, length-append is.earlier (call ∷ is.later)), get_or_at is.earlier call is.later call (length is.earlier) refl) in
    let front : Contains (take MAX_TRIED candidates) call = subst (λ (xs : List PlainCall). Contains xs call) is.tried.front here in
    let whole : Contains candidates call =
    subst (λ (xs : List PlainCall). Contains xs call) (take-append-drop MAX_TRIED candidates) (Contains-append_left (take MAX_TRIED candidates) (drop MAX_TRIED candidates) call front) in
    let candidate : IsCandidate c es call = All-contains (IsCandidate c es) candidates call is.tried.are.each whole in
    candidate.placed_rightly

-- ---- one call after the other

module _ (c : List Message) (calls : List PlainCall) (first : TreeState) (are : AreCalls c calls) (none : (es : List Entry) → IsProposal c first es → ⊥) where
  -- that a further call is proposed, since the proposal does not end
  one_more : (es : List Entry) (tree : TreeState) → IsProposedSoFar c first es tree → ((new : TreeState) (call : PlainCall) → (AllPlaced c es → ⊥) → IsNext c es tree new call → ⊥) → ⊥
  one_more es tree so_far not =
      either (AllPlaced c es) (λ known. elim known [
        | inl all ↦ none es (record { last = tree; proposed = so_far; ends = inl all })
        | inr left ↦ candidates_are_there c calls are es (λ candidates each.
            first_is_there c tree (take MAX_TRIED candidates) (λ steps. elim steps [
              | inl found ↦
                  let tried : AreTried c es (found.0 ++ found.2 ∷ found.1) = record { candidates = candidates; are = each; front = sym found.4 } in
                  not found.3 found.2 left (record { earlier = found.0; later = found.1; tried = tried; none_before = found.5; steps = found.6 })
              | inr stuck ↦
                  let tried : AreTried c es (take MAX_TRIED candidates) = record { candidates = candidates; are = each; front = refl } in
                  let ends : IsStuck c es tree = record { calls = take MAX_TRIED candidates; tried = tried; none = stuck } in
                  none es (record { last = tree; proposed = so_far; ends = inr ends })
            ]))
      ])

  -- so it goes on for ever, though each call takes one of the requests that are left
  goes_on : (n : ℕ) (left : List ℕ) (es : List Entry) (tree : TreeState) → length left ≤ n
      → ((p : ℕ) → IsTreeRequestAt c p → (Contains (numbers es) p → ⊥) → Contains left p) → IsProposedSoFar c first es tree → ⊥
  goes_on zero left es tree few lacks so_far =
      one_more es tree so_far (λ new call more next.
      let hold = next_placed c es tree new call next in
      let has : Contains left call.asked = lacks call.asked hold.0 hold.1.0 in
      omega (arith, few, has.1))
  goes_on (suc n) left es tree few lacks so_far =
      one_more es tree so_far (λ new call more next.
      let e = entry_of call in
      let hold = next_placed c es tree new call next in
      let rest = without left call.asked (lacks call.asked hold.0 hold.1.0) in
      goes_on n rest.0 (es ++ e ∷ []) new (omega (arith, few, rest.1)) (λ p asked apart.
      elim (rest.2 p (lacks p asked (λ has. apart (number_still es e p has)))) [
        | inl same ↦ absurd (apart (subst (Contains (numbers (es ++ e ∷ []))) same (number_now es e)))
        | inr other ↦ other
      ])
      (further es tree new call so_far more next))

  -- which are no more than the calls at first
  refused : ⊥
  refused =
      let left = map (λ (call : PlainCall). call.asked) calls in
      goes_on (length left) left [] first (omega arith) (λ p asked apart. are.exact.complete p asked.0 (request_event c are.events are.are p asked.0 asked.1) asked.2) begun

-- there is never no proposal
pub proposal_is_there : ProposalIsThere
proposal_is_there c first good none = calls_are_there c good (λ calls are. refused c calls first are none)
