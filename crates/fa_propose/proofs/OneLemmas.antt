-- Messages and a first tree have one proposal at most.
use Rattle.std.proofs.Common.{◌≡◌, ◌<◌, ◌⊎◌, List, [], ◌∷◌, ◌++◌, length, refl, sym, ap, subst, ◌∙◌, inl, inr, append_assoc, append-nil, arith}
use Rattle.std.specs.Prelude.{All}
use Rattle.std.proofs.lemmas.Bool.{cases_lt}
use Rattle.fa_capture.specs.Message.{Message}
use Rattle.fa_capture.proofs.CallerLemmas.{same_parts, longer_front, all_middle}
use Rattle.fa_ledger.specs.Calls.{PlainCall}
use Rattle.fa_tree.specs.State.{TreeState}
use Rattle.fa_order.specs.declared.entry.Entry.{Entry}
use Rattle.fa_check.proofs.CallerLemmas.{run_is_one}
use Rattle.fa_propose.specs.Proposals.{entry_of, StepsTo, HasNoStep, IsNext, IsStuck, AllPlaced, IsProposedSoFar}
use Rattle.fa_propose.specs.Proposals.IsProposedSoFar.{begun, further}
use Rattle.fa_propose.specs.Laws.{ProposalIsOne}
use Rattle.fa_propose.proofs.CandidateLemmas.{tried_are_one}

-- ---- the next call

module _ (c : List Message) (es : List Entry) (old : TreeState) where
  -- a call that has a step is not among those before the first that has one
  none_earlier : (earlier others later rest : List PlainCall) (call other : PlainCall) (new : TreeState) → earlier ++ call ∷ later ≡ others ++ other ∷ rest
      → All (HasNoStep old c) others → StepsTo old new c call → length earlier < length others → ⊥
  none_earlier earlier others later rest call other new same none steps before =
      let mid = longer_front earlier others later rest call other same before in
      all_middle (HasNoStep old c) earlier mid.0 call (subst (All (HasNoStep old c)) mid.1 none) new steps

  -- the next call that is proposed is one, and so is the tree behind it
  next_is_one : (new new_too : TreeState) (call other : PlainCall) → IsNext c es old new call → IsNext c es old new_too other → (call ≡ other) × (new ≡ new_too)
  next_is_one new new_too call other is too =
      let same : is.earlier ++ call ∷ is.later ≡ too.earlier ++ other ∷ too.later = tried_are_one c es (is.earlier ++ call ∷ is.later) (too.earlier ++ other ∷ too.later) is.tried too.tried in
      elim (cases_lt (length is.earlier) (length too.earlier)) [
        | inl before ↦ absurd (none_earlier is.earlier too.earlier is.later too.later call other new same too.none_before is.steps before)
        | inr far ↦ elim (cases_lt (length too.earlier) (length is.earlier)) [
          | inl before ↦ absurd (none_earlier too.earlier is.earlier too.later is.later other call new_too (sym same) is.none_before too.steps before)
          | inr near ↦
              let one : call ≡ other = (same_parts is.earlier too.earlier is.later too.later call other same (omega (arith, far, near))).1 in
              let moved : StepsTo old new c other = subst (λ (x : PlainCall). StepsTo old new c x) one is.steps in
              (one, run_is_one c old new new_too (entry_of other ∷ []) (new, moved, refl) (new_too, too.steps, refl))
        ]
      ]

  -- where a call is next, some call that is tried has a step
  next_not_stuck : (new : TreeState) (call : PlainCall) → IsNext c es old new call → IsStuck c es old → ⊥
  next_not_stuck new call is stuck =
      let same : stuck.calls ≡ is.earlier ++ call ∷ is.later = tried_are_one c es stuck.calls (is.earlier ++ call ∷ is.later) stuck.tried is.tried in
      all_middle (HasNoStep old c) is.earlier is.later call (subst (All (HasNoStep old c)) same stuck.none) new is.steps

-- ---- proposals from the front

-- from these entries and this tree the further entries are proposed, and lead to the last tree
abbrev GoesOn : List Message → List Entry → (tree last : TreeState) → List Entry → Type 0
GoesOn c es tree last [] = tree ≡ last
GoesOn c es tree last (e ∷ rest) =
    (new : TreeState) × (call : PlainCall) × (e ≡ entry_of call) × (AllPlaced c es → ⊥) × IsNext c es tree new call × GoesOn c (es ++ e ∷ []) new last rest

module _ (c : List Message) where
  -- one more is proposed behind these
  goes_further : (es rest : List Entry) (start tree new : TreeState) (call : PlainCall) → GoesOn c es start tree rest
      → (AllPlaced c (es ++ rest) → ⊥) → IsNext c (es ++ rest) tree new call → GoesOn c es start new (rest ++ entry_of call ∷ [])
  goes_further es [] start tree new call goes left next =
      let here : IsNext c es start new call =
      subst (λ (t : TreeState). IsNext c es t new call) (sym goes) (subst (λ (xs : List Entry). IsNext c xs tree new call) (append-nil es) next) in
      (new, call, refl, subst (λ (xs : List Entry). AllPlaced c xs → ⊥) (append-nil es) left, here, refl)
  goes_further es (e ∷ rest) start tree new call goes left next =
      let parts : es ++ e ∷ rest ≡ (es ++ e ∷ []) ++ rest = sym (append_assoc es (e ∷ []) rest) in (
        goes.0,
        goes.1,
        goes.2,
        goes.3,
        goes.4,
        goes_further (es ++ e ∷ []) rest goes.0 tree new call goes.5
            (subst (λ (xs : List Entry). AllPlaced c xs → ⊥) parts left) (subst (λ (xs : List Entry). IsNext c xs tree new call) parts next),
      )

  -- what is proposed so far goes on from the first tree
  goes_from_first : (start : TreeState) (es : List Entry) (tree : TreeState) → IsProposedSoFar c start es tree → GoesOn c [] start tree es
  goes_from_first start es tree begun = refl
  goes_from_first start es tree (further earlier old new call so_far left next) =
      goes_further [] earlier start old new call (goes_from_first start earlier old so_far) left next

  -- behind these entries and at this tree the proposal ends
  abbrev Ends : List Entry → TreeState → Type 0
  Ends es tree = AllPlaced c es ⊎ IsStuck c es tree

  -- where it ends no call is next
  ends_not_on : (es : List Entry) (tree new : TreeState) (call : PlainCall) → Ends es tree → (AllPlaced c es → ⊥) → IsNext c es tree new call → ⊥
  ends_not_on es tree new call ends left next =
      elim ends [
        | inl all ↦ left all
        | inr stuck ↦ next_not_stuck c es tree new call next stuck
      ]

  -- where nothing goes on it ends at once
  ends_here : (es : List Entry) (tree last : TreeState) → tree ≡ last → Ends (es ++ []) last → Ends es tree
  ends_here es tree last same ends = subst (λ (t : TreeState). Ends es t) (sym same) (subst (λ (xs : List Entry). Ends xs last) (append-nil es) ends)

  -- proposals that go on from the same entries and tree are one
  goes_one_way : (es rest others : List Entry) (tree last other : TreeState) → GoesOn c es tree last rest → GoesOn c es tree other others
      → Ends (es ++ rest) last → Ends (es ++ others) other → rest ≡ others
  goes_one_way es [] [] tree last other goes too ends stops = refl
  goes_one_way es [] (f ∷ others) tree last other goes too ends stops = absurd (ends_not_on es tree too.0 too.1 (ends_here es tree last goes ends) too.3 too.4)
  goes_one_way es (e ∷ rest) [] tree last other goes too ends stops = absurd (ends_not_on es tree goes.0 goes.1 (ends_here es tree other too stops) goes.3 goes.4)
  goes_one_way es (e ∷ rest) (f ∷ others) tree last other goes too ends stops =
      let next = next_is_one c es tree goes.0 too.0 goes.1 too.1 goes.4 too.4 in
      let same : f ≡ e = too.2 ∙ ap entry_of (sym next.0) ∙ sym goes.2 in
      let on : GoesOn c (es ++ e ∷ []) goes.0 other others =
      subst (λ (t : TreeState). GoesOn c (es ++ e ∷ []) t other others) (sym next.1) (subst (λ (x : Entry). GoesOn c (es ++ x ∷ []) too.0 other others) same too.5) in
      let stop : Ends (es ++ e ∷ others) other = subst (λ (x : Entry). Ends (es ++ x ∷ others) other) same stops in
      let behind : rest ≡ others = goes_one_way (es ++ e ∷ []) rest others goes.0 last other goes.5 on
      (subst (λ (xs : List Entry). Ends xs last) (sym (append_assoc es (e ∷ []) rest)) ends)
      (subst (λ (xs : List Entry). Ends xs other) (sym (append_assoc es (e ∷ []) others)) stop) in
      cc

-- there is one proposal at most
pub proposal_is_one : ProposalIsOne
proposal_is_one c first es others is too =
    goes_one_way c [] es others first is.last too.last (goes_from_first c first es is.last is.proposed) (goes_from_first c first others too.last too.proposed) is.ends too.ends
