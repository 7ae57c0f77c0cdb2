-- The entries that may come next, one beside each of the candidates.
use Rattle.std.proofs.Common.{◌≡◌, ℕ, zero, suc, ◌<◌, List, [], ◌∷◌, ◌++◌, length, take, get_or, Some, None, refl, sym, ap, subst, ◌∙◌, inl, inr, arith}
use Rattle.std.specs.Prelude.{slice_get, All, AllPairs, Contains}
use Rattle.std.proofs.lemmas.List.Elements.{All-nil, All-cons, All-head, All-tail}
use Rattle.std.proofs.lemmas.Option.{same_Some}
use Rattle.fa_capture.specs.Message.{Message}
use Rattle.fa_capture.proofs.CallerLemmas.{contains_cases, contains_first, contains_behind}
use Rattle.fa_ledger.specs.Calls.{PlainCall, IsCall, AreCalls}
use Rattle.fa_ledger.proofs.CallerLemmas.{call_at, call_is_one, events_are_one}
use Rattle.fa_tree.specs.State.{TreeState}
use Rattle.fa_order.specs.declared.entry.Entry.{Entry}
use Rattle.fa_check.specs.Runs.{EntrySteps}
use Rattle.fa_check.proofs.CallerLemmas.{choice_allowed, tree_is_call}
use Rattle.fa_propose.specs.declared.rank.Group.TheVariants.{Unchanging}
use Rattle.fa_propose.specs.declared.rank.Rank.{Rank}
use Rattle.fa_propose.specs.declared.proposing.TheConstants.{MAX_TRIED}
use Rattle.fa_propose.specs.Proposals.{entry_of, IsCandidate, IsRank, AreCandidates, HasNoStep, IsNext, IsStuck}
use Rattle.fa_propose.specs.parts.Ready.{IsReadyCall, IsReady, AreAllSeen, IsRankedBefore, HasNoEntryStep, NoneSteps, IsFirstStep}
use Rattle.fa_propose.proofs.RankLemmas.{ranked_place}

-- any entry at any rank
some_entry : Rank × Entry
some_entry = (record { group = Unchanging; position = 0 }, record { at = 0; wrote = None })

-- the entry at its rank proposes this call
record Proposes (c : List Message) (calls : List PlainCall) (es : List Entry) (p : Rank × Entry) (call : PlainCall) : Type 0 where
  place : ℕ
  there : slice_get calls place ≡ Some call
  ranked : IsRank p.0 call
  proposes : p.1 ≡ entry_of call
  candidate : IsCandidate c es call

-- one call beside each entry
abbrev Match : (c : List Message) (calls : List PlainCall) (es : List Entry) → List (Rank × Entry) → List PlainCall → Type 0
Match c calls es [] [] = Unit {0}
Match c calls es [] (x ∷ xs) = ⊥
Match c calls es (p ∷ ps) [] = ⊥
Match c calls es (p ∷ ps) (x ∷ xs) = Proposes c calls es p x × Match c calls es ps xs

module _ (c : List Message) (calls : List PlainCall) (are : AreCalls c calls) (es : List Entry) where
  -- ---- lists that match

  -- there is a list of calls
  matched : (ps : List (Rank × Entry)) (seen : ℕ) → ((rank : Rank) (entry : Entry) → Contains ps (rank, entry) → IsReadyCall c calls es seen rank entry) → (xs : List PlainCall) × Match c calls es ps xs
  matched [] seen each = ([], tt)
  matched (p ∷ ps) seen each =
      let first = each p.0 p.1 (contains_first p ps) in
      let rest : (xs : List PlainCall) × Match c calls es ps xs = matched ps seen (λ rank entry has. each rank entry (contains_behind p ps (rank, entry) has)) in
      (first.call ∷ rest.0, (record { place = first.place; there = first.there; ranked = first.ranked; proposes = first.proposes; candidate = first.candidate }, rest.1))

  -- they are as long
  same_length : (ps : List (Rank × Entry)) (xs : List PlainCall) → Match c calls es ps xs → length ps ≡ length xs
  same_length [] [] match = refl
  same_length [] (x ∷ xs) match = absurd match
  same_length (p ∷ ps) [] match = absurd match
  same_length (p ∷ ps) (x ∷ xs) match = ap suc (same_length ps xs match.1)

  -- at each place the entry proposes the call
  matched_at : (ps : List (Rank × Entry)) (xs : List PlainCall) → Match c calls es ps xs → (i : ℕ) (d : Rank × Entry) (e : PlainCall) → i < length xs → Proposes c calls es (get_or ps i d) (get_or xs i e)
  matched_at [] [] match i d e within = absurd (omega (arith, within))
  matched_at [] (x ∷ xs) match i d e within = absurd match
  matched_at (p ∷ ps) [] match i d e within = absurd match
  matched_at (p ∷ ps) (x ∷ xs) match zero d e within = match.0
  matched_at (p ∷ ps) (x ∷ xs) match (suc i) d e within = matched_at ps xs match.1 i d e (omega (arith, within))

  -- each entry has its call
  call_beside : (ps : List (Rank × Entry)) (xs : List PlainCall) → Match c calls es ps xs → (p : Rank × Entry) → Contains ps p → (x : PlainCall) × Contains xs x × Proposes c calls es p x
  call_beside [] [] match p has = absurd (omega (arith, has.1))
  call_beside [] (x ∷ xs) match p has = absurd match
  call_beside (q ∷ ps) [] match p has = absurd match
  call_beside (q ∷ ps) (x ∷ xs) match p has =
      elim (contains_cases q ps p has) [
        | inl first ↦ (x, contains_first x xs, subst (λ r. Proposes c calls es r x) first match.0)
        | inr behind ↦
            let rest = call_beside ps xs match.1 p behind in
            (rest.0, contains_behind x xs rest.0 rest.1, rest.2)
      ]

  -- as many of both
  match_take : (n : ℕ) (ps : List (Rank × Entry)) (xs : List PlainCall) → Match c calls es ps xs → Match c calls es (take n ps) (take n xs)
  match_take zero ps xs match = tt
  match_take (suc n) [] [] match = tt
  match_take (suc n) [] (x ∷ xs) match = absurd match
  match_take (suc n) (p ∷ ps) [] match = absurd match
  match_take (suc n) (p ∷ ps) (x ∷ xs) match = (match.0, match_take n ps xs match.1)

  -- in the same parts
  match_parts : (earlier later : List (Rank × Entry)) (p : Rank × Entry) (xs : List PlainCall) → Match c calls es (earlier ++ p ∷ later) xs
      → (before : List PlainCall) × (x : PlainCall) × (behind : List PlainCall) × (xs ≡ before ++ x ∷ behind) × Match c calls es earlier before × Proposes c calls es p x
  match_parts [] later p [] match = absurd match
  match_parts [] later p (x ∷ xs) match = ([], x, xs, refl, tt, match.0)
  match_parts (q ∷ earlier) later p [] match = absurd match
  match_parts (q ∷ earlier) later p (x ∷ xs) match =
      let rest = match_parts earlier later p xs match.1 in
      (x ∷ rest.0, rest.1, rest.2, ap (λ (ys : List PlainCall). x ∷ ys) rest.3, (match.0, rest.4), rest.5)

  -- where no entry has a step, no call has
  match_none : (tree : TreeState) (ps : List (Rank × Entry)) (xs : List PlainCall) → Match c calls es ps xs → All (HasNoEntryStep c tree) ps → All (HasNoStep tree c) xs
  match_none tree [] [] match none = All-nil (HasNoStep tree c)
  match_none tree [] (x ∷ xs) match none = absurd match
  match_none tree (p ∷ ps) [] match none = absurd match
  match_none tree (p ∷ ps) (x ∷ xs) match none =
      All-cons (HasNoStep tree c) x xs (λ new steps. All-head (HasNoEntryStep c tree) p ps none new (subst (EntrySteps tree new c) (sym match.0.proposes) steps))
      (match_none tree ps xs match.1 (All-tail (HasNoEntryStep c tree) p ps none))

  -- ---- the candidates

  -- a candidate is a call
  pub candidate_there : (call : PlainCall) → IsCandidate c es call → (place : ℕ) × (slice_get calls place ≡ Some call)
  candidate_there call is =
      let found = tree_is_call c calls are call.asked is.placed_rightly.0 in
      let events = events_are_one c are.events is.events are.are is.are in
      let other = call_at are.events calls are.exact.each found.0 found.1.0 found.1.1 in
      let same : found.1.0 ≡ call = call_is_one c is.events is.are found.1.0 call (subst (λ e. IsCall e found.1.0) events other) is.exact found.1.2 in
      (found.0, found.1.1 ∙ ap (λ x. Some x) same)

  module _ (seen : ℕ) (ready : List (Rank × Entry)) (is : IsReady c calls es seen ready) (all : AreAllSeen c calls es seen) (ordered : AllPairs IsRankedBefore ready) where
    -- each candidate is in the list
    candidate_beside : (xs : List PlainCall) → Match c calls es ready xs → (call : PlainCall) → IsCandidate c es call → Contains xs call
    candidate_beside xs match call candidate =
        let there = candidate_there call candidate in
        let allowed = choice_allowed c calls are (entry_of call) candidate.placed_rightly.1.1.1.0 there.0 call there.1 refl in
        let entry = is.complete there.0 call (all there.0 call there.1 candidate) there.1 candidate.placed_rightly.1.0 allowed in
        let beside = call_beside ready xs match (entry.0, entry_of call) entry.2 in
        let place : beside.2.place ≡ there.0 = ranked_place c calls are entry.0 beside.2.place there.0 beside.0 call beside.2.there there.1 beside.2.ranked entry.1 in
        let same : beside.0 ≡ call = same_Some beside.0 call (sym beside.2.there ∙ ap (slice_get calls) place ∙ there.1) in
        subst (Contains xs) same beside.1

    are_candidates : (xs : List PlainCall) → Match c calls es ready xs → AreCandidates c es xs
    are_candidates xs match = record {
      each = λ i d within. (matched_at ready xs match i some_entry d within).candidate;
      complete = candidate_beside xs match;
      ordered = λ i j d before within.
          let long = same_length ready xs match in
          let a = matched_at ready xs match i some_entry d (omega (arith, before, within)) in
          let b = matched_at ready xs match j some_entry d within in
          ((get_or ready i some_entry).0, (get_or ready j some_entry).0, a.ranked, b.ranked, ordered i j some_entry before (omega (arith, within, long)));
    }

    -- none of those that are tried has a step
    pub stuck : (tree : TreeState) → NoneSteps c tree ready → IsStuck c es tree
    stuck tree none =
        let xs = matched ready seen is.each in
        record {
          calls = take MAX_TRIED xs.0;
          tried = record { candidates = xs.0; are = are_candidates xs.0 xs.1; front = refl };
          none = match_none tree (take MAX_TRIED ready) (take MAX_TRIED xs.0) (match_take MAX_TRIED ready xs.0 xs.1) none;
        }

    -- the first that has a step is the next call
    pub next_call : (old new : TreeState) (found : Rank × Entry) → IsFirstStep c old new ready found → (call : PlainCall) × (found.1 ≡ entry_of call) × IsNext c es old new call
    next_call old new found first =
        let xs = matched ready seen is.each in
        let tried = match_take MAX_TRIED ready xs.0 xs.1 in
        let parts = match_parts first.earlier first.later found (take MAX_TRIED xs.0) (subst (λ ps. Match c calls es ps (take MAX_TRIED xs.0)) first.tried tried) in
        let proposes : found.1 ≡ entry_of parts.1 = parts.5.proposes in (
          parts.1,
          proposes,
          record {
            earlier = parts.0;
            later = parts.2;
            tried = record { candidates = xs.0; are = are_candidates xs.0 xs.1; front = sym parts.3 };
            none_before = match_none old first.earlier parts.0 parts.4 first.none_before;
            steps = subst (EntrySteps old new c) proposes first.steps;
          },
        )
