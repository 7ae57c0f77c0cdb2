-- Candidates: the order in which calls are tried is strict, and the lists of candidates are one.
use Rattle.std.proofs.Common.{◌≡◌, List, take, sym, ap, ◌∙◌, inl, inr, arith}
use Rattle.std.proofs.lemmas.List.Elements.{All-contains}
use Rattle.fa_capture.specs.Message.{Message}
use Rattle.fa_capture.proofs.CallerLemmas.{same_order}
use Rattle.fa_ledger.specs.Calls.{PlainCall}
use Rattle.fa_order.specs.declared.entry.Entry.{Entry}
use Rattle.fa_propose.specs.declared.proposing.TheConstants.{MAX_TRIED}
use Rattle.fa_propose.specs.Proposals.{IsCandidate, group_number, IsTriedBefore, AreCandidates, AreTried}
use Rattle.fa_propose.proofs.RankLemmas.{rank_parts}

-- of two calls that are tried one after the other, the later one is not tried before the earlier one
pub one_way : (a b : PlainCall) → IsTriedBefore a b → IsTriedBefore b a → ⊥
one_way a b before behind =
    let first = rank_parts before.0.group behind.1.group before.0.position behind.1.position a before.2 behind.3 in
    let second = rank_parts before.1.group behind.0.group before.1.position behind.0.position b before.3 behind.2 in
    let groups = ap group_number first.0 in
    let others = ap group_number second.0 in
    elim before.4 [
      | inl less ↦ elim behind.4 [
        | inl more ↦ omega (arith, groups, others, less, more)
        | inr later ↦ let same = ap group_number later.0 in omega (arith, groups, others, less, same)
      ]
      | inr earlier ↦ let same = ap group_number earlier.0 in elim behind.4 [
        | inl more ↦ omega (arith, groups, others, same, more)
        | inr later ↦ omega (arith, first.1, second.1, earlier.1, later.1)
      ]
    ]

-- a call that is tried before one that is tried before a third is tried before that one
pub tried_on : (a b c : PlainCall) → IsTriedBefore a b → IsTriedBefore b c → IsTriedBefore a c
tried_on a b c before behind =
    let between = rank_parts before.1.group behind.0.group before.1.position behind.0.position b before.3 behind.2 in
    let others = ap group_number between.0 in (
      before.0,
      behind.1,
      before.2,
      behind.3,
      elim before.4 [
        | inl less ↦ elim behind.4 [
          | inl more ↦ inl (omega (arith, others, less, more))
          | inr later ↦ let same = ap group_number later.0 in inl (omega (arith, others, less, same))
        ]
        | inr earlier ↦ elim behind.4 [
          | inl more ↦ let same = ap group_number earlier.0 in inl (omega (arith, others, same, more))
          | inr later ↦ inr (earlier.0 ∙ between.0 ∙ later.0, omega (arith, between.1, earlier.1, later.1))
        ]
      ],
    )

-- ---- candidates

-- the list of all candidates is one
pub candidates_are_one : (c : List Message) (es : List Entry) (xs ys : List PlainCall) → AreCandidates c es xs → AreCandidates c es ys → xs ≡ ys
candidates_are_one c es xs ys are too =
    same_order IsTriedBefore one_way xs ys are.ordered too.ordered
    (λ z has. too.complete z (All-contains (IsCandidate c es) xs z are.each has))
    (λ z has. are.complete z (All-contains (IsCandidate c es) ys z too.each has))

-- and so is that of those that are tried
pub tried_are_one : (c : List Message) (es : List Entry) (xs ys : List PlainCall) → AreTried c es xs → AreTried c es ys → xs ≡ ys
tried_are_one c es xs ys are too =
    are.front ∙ ap (λ (calls : List PlainCall). take MAX_TRIED calls) (candidates_are_one c es are.candidates too.candidates are.are too.are) ∙ sym too.front
