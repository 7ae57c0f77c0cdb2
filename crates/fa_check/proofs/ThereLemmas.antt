-- There is never no verdict.
use Rattle.std.proofs.Common.{◌≡◌, ℕ, zero, suc, ◌<◌, List, [], ◌∷◌, ◌++◌, length, refl, sym, ap, subst, ◌∙◌, inl, inr, append_assoc, append-nil, arith}
use Rattle.std.specs.Prelude.{map, AllPairs, Contains}
use Rattle.std.specs.List.Sorted.{IsStrictlyIncreasing}
use Rattle.std.proofs.lemmas.Bool.{cases_lt}
use Rattle.std.proofs.lemmas.List.{length-append}
use Rattle.std.proofs.lemmas.List.Kept.{AllPairs-from_increasing}
use Rattle.fa_capture.specs.declared.codes.TheConstants.{ANSWERED_LEFT_OUT}
use Rattle.fa_capture.specs.Message.{Message}
use Rattle.fa_capture.proofs.CallerLemmas.{checks_either, contains_cases, contains_first, contains_behind, pairs_tail, first_least}
use Rattle.fa_ledger.specs.Passing.{AreGood}
use Rattle.fa_ledger.specs.Calls.{PlainCall, AreCalls}
use Rattle.fa_ledger.specs.SoFar.{listing_so_far}
use Rattle.fa_ledger.proofs.CallerLemmas.{calls_are_there, request_event}
use Rattle.fa_tree.specs.State.{TreeState}
use Rattle.fa_tree.specs.Steps.{Steps, step_checks}
use Rattle.fa_tree.proofs.CallerLemmas.{steps_where_all_hold}
use Rattle.fa_order.specs.declared.entry.Entry.{Entry}
use Rattle.fa_check.specs.declared.verdict.Verdict.{Verdict}
use Rattle.fa_check.specs.declared.verdict.Verdict.TheVariants.{Legal, NotShown}
use Rattle.fa_check.specs.Runs.{IsCallAt, Runs}
use Rattle.fa_check.specs.Faults.{order_checks, EachPlaced, IsAnsweredUnplaced}
use Rattle.fa_check.specs.Verdicts.{IsUnansweredUnplaced, IsVerdict}
use Rattle.fa_check.specs.Laws.{VerdictIsThere}
use Rattle.fa_check.proofs.OrderLemmas.{valid_where_each_is_placed}
use Rattle.fa_check.proofs.RunLemmas.{run_more}
use Rattle.fa_check.proofs.MessageLemmas.{tree_is_call, call_of_message}
use Rattle.fa_check.proofs.EntryLemmas.{each_more}
use Rattle.fa_check.proofs.EndLemmas.{cons_rises}

-- ---- what can't be refused

-- Of numbers that rise those that are such can be picked.
picked : (Such : ℕ → Type 0) (xs : List ℕ) → AllPairs (λ a b. a < b) xs
    → ((ys : List ℕ) → IsStrictlyIncreasing ys → ((p : ℕ) → Contains ys p → Contains xs p × Such p) → ((p : ℕ) → Contains xs p → Such p → Contains ys p) → ⊥) → ⊥
picked Such [] rise not = not [] (λ k within. absurd (omega (arith, within))) (λ p has. absurd (omega (arith, has.1))) (λ p has such. absurd (omega (arith, has.1)))
picked Such (x ∷ xs) rise not =
    picked Such xs (pairs_tail (λ a b. a < b) x xs rise) (λ ys rises each complete.
    let lacks : ¬ Such x = λ such.
    not (x ∷ ys) (cons_rises x ys rises (λ z has. first_least x xs z rise (each z has).0))
    (λ p has. elim (contains_cases x ys p has) [
      | inl here ↦ (subst (Contains (x ∷ xs)) here (contains_first x xs), subst Such here such)
      | inr behind ↦ (contains_behind x xs p (each p behind).0, (each p behind).1)
    ])
    (λ p has is. elim (contains_cases x xs p has) [
      | inl here ↦ subst (Contains (x ∷ ys)) here (contains_first x ys)
      | inr behind ↦ contains_behind x ys p (complete p behind is)
    ]) in
    not ys rises (λ p has. (contains_behind x xs p (each p has).0, (each p has).1)) (λ p has is. elim (contains_cases x xs p has) [
      | inl here ↦ absurd (lacks (subst Such (sym here) is))
      | inr behind ↦ complete p behind is
    ]))

-- ---- one entry after the other

module _ (c : List Message) (calls : List PlainCall) (first : TreeState) (good : AreGood c) (are : AreCalls c calls) (order : List Entry) (none : (verdict : Verdict) → IsVerdict c first order verdict → ⊥) where
  -- where all entries are placed, no answered tree request is left out, the least first
  none_left : (last : TreeState) → EachPlaced c order → Runs first last c order → (n p : ℕ) → p < n → IsAnsweredUnplaced c order p → ⊥
  none_left last placed run zero p below unplaced = absurd (omega (arith, below))
  none_left last placed run (suc n) p below unplaced =
      none (NotShown (length order) p ANSWERED_LEFT_OUT) (inr (record {
        tree = last;
        placed = placed;
        run = run;
        number = refl;
        told = refl;
        left_out = unplaced;
        least = λ k other. elim (cases_lt k p) [
          | inl before ↦ absurd (none_left last placed run n k (omega (arith, before, below)) other)
          | inr behind ↦ behind
        ];
      }))

  -- so the order is legal
  ends : (last : TreeState) → EachPlaced c order → Runs first last c order → ⊥
  ends last placed run =
      picked (IsUnansweredUnplaced c order) (map (λ (call : PlainCall). call.asked) calls) (AllPairs-from_increasing (map (λ (call : PlainCall). call.asked) calls) are.exact.rising) (λ all rises each complete.
      none (Legal (length c) (length order) (length all)) (record {
        legal = record {
          good = good;
          valid = (valid_where_each_is_placed c order).1 (placed, (λ p unplaced. none_left last placed run (suc p) p (omega arith) unplaced));
          last = last;
          run = run;
        };
        messages_are = refl;
        placed_are = refl;
        left_are = record {
          all = all;
          rising = rises;
          each = λ p has. (each p has).1;
          complete = λ p left. complete p (are.exact.complete p left.0.0 (request_event c are.events are.are p left.0.0 left.0.1) left.0.2) left;
          number = refl;
        };
      }))

  -- the entries behind those that are placed
  goes_on : (rest earlier : List Entry) (now : TreeState) → order ≡ earlier ++ rest → EachPlaced c earlier → Runs first now c earlier → ⊥
  goes_on [] earlier now parts placed run =
      let whole : earlier ≡ order = sym (parts ∙ append-nil earlier) in
      ends now (subst (EachPlaced c) whole placed) (subst (Runs first now c) whole run)
  goes_on (e ∷ rest) earlier now parts placed run =
      checks_either (order_checks c earlier e) (λ either. elim either [
        | inr fails ↦ none (NotShown (length earlier) e.at fails.0) (inl (record {
          earlier = earlier;
          later = rest;
          e = e;
          tree = now;
          parts = parts;
          number = refl;
          message = refl;
          placed = placed;
          run = run;
          fails = inl fails.1;
        }))
        | inl hold ↦
            let found = tree_is_call c calls are e.at hold.0 in
            let call = found.1.0 in
            let so_far = listing_so_far calls found.0 in
            let of_request : IsCallAt c e.at call so_far = call_of_message c calls are found.0 e.at call found.1.1 found.1.2 in
            checks_either (step_checks now call e.wrote so_far) (λ stepped. elim stepped [
              | inr fails ↦ none (NotShown (length earlier) e.at fails.0) (inl (record {
                earlier = earlier;
                later = rest;
                e = e;
                tree = now;
                parts = parts;
                number = refl;
                message = refl;
                placed = placed;
                run = run;
                fails = inr (hold, record { call = call; so_far = so_far; of_request = of_request; fails = fails.1 });
              }))
              | inl allowed ↦
                  let next : (new : TreeState) × Steps now new call e.wrote so_far = (steps_where_all_hold now call e.wrote so_far).0 allowed in
                  goes_on rest (earlier ++ e ∷ []) next.0 (parts ∙ sym (append_assoc earlier (e ∷ []) rest)) (each_more c earlier e placed hold)
                  (run_more c first now next.0 earlier e run (record { call = call; so_far = so_far; of_request = of_request; steps = next.1 }))
            ])
      ])

pub verdict_is_there : VerdictIsThere
verdict_is_there c first es good none =
    calls_are_there c good (λ calls are.
    goes_on c calls first good are es none es [] first refl (λ earlier later e same. absurd (let long = ap length same in omega (arith, long, length-append earlier (e ∷ later)))) refl)
