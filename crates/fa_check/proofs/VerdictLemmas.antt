-- Verdicts: there is one at most, what is answered is answered exactly where it is so, and how the loop over the entries
-- comes to one.
use Rattle.std.proofs.Common.{◌≡◌, ℕ, ◌+◌, ◌<◌, ◌≤◌, List, [], ◌∷◌, ◌++◌, length, take, drop, get_or, Ok, Err, Result, refl, sym, ap, subst, ◌∙◌, inl, arith}
use Rattle.std.proofs.Math.Logic.{∥∥₁_elim}
use Rattle.std.specs.Prelude.{IfOk}
use Rattle.std.proofs.lemmas.List.{length-append, take_all}
use Rattle.std.proofs.lemmas.Option.{slice_get-get_or}
use Rattle.std.specs.declared.alloc.AllocError.{AllocError}
use Rattle.fa_capture.specs.Message.{Message}
use Rattle.fa_capture.proofs.CallerLemmas.{rising_is_one, take_one_more, parts_at}
use Rattle.fa_ledger.specs.declared.calls.Calls.{Calls}
use Rattle.fa_tree.specs.State.{TreeState}
use Rattle.fa_tree.specs.declared.error.StepError.{StepError}
use Rattle.fa_tree.specs.declared.error.StepError.TheVariants.{Refused, Memory}
use Rattle.fa_order.specs.declared.entry.Entry.{Entry}
use Rattle.fa_check.specs.declared.placing.Placing.{Placing}
use Rattle.fa_check.specs.declared.verdict.Verdict.{Verdict}
use Rattle.fa_check.specs.declared.verdict.Verdict.TheVariants.{Legal, Fault, NotShown}
use Rattle.fa_check.specs.Faults.{IsOrderAtFault}
use Rattle.fa_check.specs.Verdicts.{AreMessagesOf, Counts, IsLegalWith, IsVerdict, Exactly}
use Rattle.fa_check.specs.Laws.{VerdictIsOne}
use Rattle.fa_check.specs.Marks.{AreUnset}
use Rattle.fa_check.specs.Replays.{IsPlacing, IsReplayed, NextFails}
use Rattle.fa_check.specs.parts.Answers.{answer_to}
use Rattle.fa_check.proofs.MarkLemmas.{count_none}
use Rattle.fa_check.proofs.FaultLemmas.{one_order_at_fault, legal_has_no_fault}

-- a count is one
count_is_one : (Such : ℕ → Type 0) (a b : ℕ) → Counts Such a → Counts Such b → a ≡ b
count_is_one Such a b is too =
    let same = rising_is_one is.all too.all is.rising too.rising (λ p there. too.complete p (is.each p there)) (λ p there. is.complete p (too.each p there)) in
    sym is.number ∙ ap length same ∙ too.number

pub verdict_is_one : VerdictIsOne
verdict_is_one c first es (Legal messages placed left) (Legal others entries unplaced) is too =
    let n : messages ≡ others = is.messages_are ∙ sym too.messages_are in
    let k : placed ≡ entries = is.placed_are ∙ sym too.placed_are in
    let l : left ≡ unplaced = count_is_one _ left unplaced is.left_are too.left_are in
    cc
verdict_is_one c first es (Legal messages placed left) (Fault at code) is too = absurd too
verdict_is_one c first es (Legal messages placed left) (NotShown entry at code) is too = absurd (legal_has_no_fault c first es entry at code is.legal too)
verdict_is_one c first es (Fault at code) other is too = absurd is
verdict_is_one c first es (NotShown entry at code) (Legal messages placed left) is too = absurd (legal_has_no_fault c first es entry at code too.legal is)
verdict_is_one c first es (NotShown entry at code) (Fault place told) is too = absurd too
verdict_is_one c first es (NotShown entry at code) (NotShown other place told) is too =
    let same = one_order_at_fault c first es entry at code other place told is too in
    let n : entry ≡ other = same.0 in
    let k : at ≡ place = same.1 in
    let l : code ≡ told = same.2 in
    cc

-- a verdict that is told is told exactly where it is one
told_exactly : (c : List Message) (first : TreeState) (es : List Entry) (result : Result Verdict AllocError) (verdict : Verdict) → IfOk result (IsVerdict c first es) → Exactly result verdict (IsVerdict c first es verdict)
told_exactly c first es (Ok told) verdict is = record {
  only = λ same. let here : told ≡ verdict = cc in subst (IsVerdict c first es) here is;
  always = λ holds. verdict_is_one c first es told verdict is holds;
}
told_exactly c first es (Err e) verdict is = record { only = λ same. absurd cc; always = λ holds. tt }

pub legal_exactly : (c : List Message) (first : TreeState) (es : List Entry) (result : Result Verdict AllocError) → IfOk result (IsVerdict c first es)
    → (messages placed left : ℕ) → Exactly result (Legal messages placed left) (IsLegalWith c first es messages placed left)
legal_exactly c first es result is messages placed left = told_exactly c first es result (Legal messages placed left) is

pub not_shown_exactly : (c : List Message) (first : TreeState) (es : List Entry) (result : Result Verdict AllocError) → IfOk result (IsVerdict c first es)
    → (entry at code : ℕ) → Exactly result (NotShown entry at code) (IsOrderAtFault c first es entry at code)
not_shown_exactly c first es result is entry at code = told_exactly c first es result (NotShown entry at code) is

-- and it is no fault
pub never_fault : (calls : Calls) (first : TreeState) (es : List Entry) (result : Result Verdict AllocError) → ((c : List Message) → AreMessagesOf calls c → IfOk result (IsVerdict c first es))
    → (at code : ℕ) → result ≡ Ok (Fault at code) → ⊥
never_fault calls first es result told at code same =
    ∥∥₁_elim calls.good (λ x y. absurd x) (λ some.
    let is = told some.0 (record { good = some.1; counted = some.2; are = some.3 }) in
    subst (λ r. IfOk r (IsVerdict some.0 first es)) same is)

-- ---- the loop over the entries

-- before any entry
pub none_replayed : (calls : Calls) (first : TreeState) (s : Placing) → IsPlacing calls.list calls.messages s → AreUnset (length calls.list) s.marks.items → IsReplayed calls first first [] s
none_replayed calls first s shape none = record {
  shape = shape;
  placed = record {
    exact = λ place call there. ((λ is. absurd (none.none place is)), (λ has. absurd (omega (arith, has.1))));
    known = λ p has. absurd (omega (arith, has.1));
  };
  counted = shape.counted ∙ count_none s.marks.items none.none;
  run = λ c is. ((λ earlier later e same. absurd (let long = ap length same in omega (arith, long, length-append earlier (e ∷ later)))), refl);
}

-- one more entry
replayed_next : (calls : Calls) (first new : TreeState) (order : List Entry) (i : ℕ) (d : Entry) (t : Placing) → i < length order
    → IsReplayed calls first new (take i order ++ get_or order i d ∷ []) t → IsReplayed calls first new (take (i + 1) order) t
replayed_next calls first new order i d t within so_far =
    subst (λ es. IsReplayed calls first new es t) (sym (take_one_more order i (get_or order i d) (slice_get-get_or order i d within))) so_far

-- one more entry, along calls that stay the same
pub along_next : (along after calls : Calls) (first tree new : TreeState) (order : List Entry) (i : ℕ) (d : Entry) (s t : Placing) → i < length order → along ≡ calls → after ≡ along
    → ((first : TreeState) (es : List Entry) → IsReplayed along first tree es s → IsReplayed along first new (es ++ get_or order i d ∷ []) t)
    → IsReplayed calls first tree (take i order) s → (after ≡ calls) × IsReplayed calls first new (take (i + 1) order) t
along_next along after calls first tree new order i d s t within is same placed so_far = (
  same ∙ is,
  replayed_next calls first new order i d t within
      (subst (λ (x : Calls). IsReplayed x first new (take i order ++ get_or order i d ∷ []) t) is
      (placed first (take i order) (subst (λ (x : Calls). IsReplayed x first tree (take i order) s) (sym is) so_far))),
)

-- all entries
pub all_replayed : (calls : Calls) (first last : TreeState) (order : List Entry) (i : ℕ) (s : Placing) → length order ≤ i → IsReplayed calls first last (take i order) s → IsReplayed calls first last order s
all_replayed calls first last order i s end so_far = subst (λ es. IsReplayed calls first last es s) (take_all i order end) so_far

-- the entry at this place fails
failed_at : (calls : Calls) (first tree : TreeState) (order : List Entry) (i : ℕ) (d : Entry) (s : Placing) (count : ℕ) (error : StepError) → i < length order
    → IsReplayed calls first tree (take i order) s → NextFails calls tree (get_or order i d) s error → count ≡ s.count
    → (c : List Message) → AreMessagesOf calls c → IfOk (answer_to count (get_or order i d).at error) (IsVerdict c first order)
failed_at calls first tree order i d s count Memory within so_far fails counted c is = tt
failed_at calls first tree order i d s count (Refused code) within so_far fails counted c is =
    let before = so_far.run c is in
    inl (record {
      earlier = take i order;
      later = drop (i + 1) order;
      e = get_or order i d;
      tree = tree;
      parts = parts_at order i d within;
      number = counted ∙ so_far.counted;
      message = refl;
      placed = before.0;
      run = before.1;
      fails = fails first (take i order) so_far c is;
    })

-- along calls that stay the same
pub failed_along : (along calls : Calls) (first tree : TreeState) (order : List Entry) (i : ℕ) (d : Entry) (s : Placing) (count : ℕ) (error : StepError) → i < length order → along ≡ calls
    → IsReplayed calls first tree (take i order) s → NextFails along tree (get_or order i d) s error → count ≡ s.count
    → (c : List Message) → AreMessagesOf calls c → IfOk (answer_to count (get_or order i d).at error) (IsVerdict c first order)
failed_along along calls first tree order i d s count error within is so_far fails =
    failed_at calls first tree order i d s count error within so_far (subst (λ (x : Calls). NextFails x tree (get_or order i d) s error) is fails)
