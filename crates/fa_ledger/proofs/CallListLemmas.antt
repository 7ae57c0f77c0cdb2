-- The list of the calls.
use Rattle.std.proofs.Common.{◌≡◌, ℕ, zero, suc, ◌+◌, ◌<◌, true, false, List, [], ◌∷◌, ◌++◌, length, get_or, Some, None, refl, sym, ap, subst, ◌∙◌, inl, inr, arith}
use Rattle.std.specs.Prelude.{◌==◌, ◌≤◌, slice_get, slice_set, map, option_map, All, Option, Vec}
use Rattle.std.specs.declared.alloc.Global.{Global}
use Rattle.std.specs.Option.{option_map_or}
use Rattle.std.specs.List.Sorted.{IsStrictlyIncreasing}
use Rattle.std.proofs.lemmas.Bool.{cases_lt}
use Rattle.std.proofs.lemmas.Bool.Decides.{nat_tests}
use Rattle.std.proofs.lemmas.List.{length-append, length-map, map-append, map-set}
use Rattle.std.proofs.lemmas.List.Elements.{All-head, All-tail, All-weaker}
use Rattle.std.proofs.lemmas.Option.{slice_get_within, slice_get-map, slice_get-get_or, get_or_from_slice_get, same_Some}
use Rattle.fa_capture.proofs.CallerLemmas.{get_kept}
use Rattle.fa_ledger.specs.declared.name.NodeName.{NodeName}
use Rattle.fa_ledger.specs.declared.row.Aside.{Aside}
use Rattle.fa_ledger.specs.declared.row.Beside.{Beside}
use Rattle.fa_ledger.specs.declared.row.Beside.TheVariants as beside
use Rattle.fa_ledger.specs.declared.row.Gives.{Gives}
use Rattle.fa_ledger.specs.declared.row.Gives.TheVariants as gives
use Rattle.fa_ledger.specs.declared.row.Row.{Row}
use Rattle.fa_ledger.specs.Calls.{PlainAnswer, PlainCall}
use Rattle.fa_ledger.specs.parts.CallParts.{WaitsAt}
use Rattle.fa_ledger.specs.Operations.{PlainOperation}
use Rattle.fa_ledger.specs.parts.RowParts.{names_kept, row_shown, answer_kept, beside_at, beside_kept, beside_place, gives_kept, IsAmong, IsPlaceIn, StandsIn}
use Rattle.fa_ledger.specs.parts.Steps.{answered_by, with_answer}
use Rattle.fa_ledger.proofs.EventLemmas.{element_at}

-- no call has this number
abbrev IsNewNumber : List PlainCall → ℕ → Type 0
IsNewNumber calls asked = (place : ℕ) (call : PlainCall) → slice_get calls place ≡ Some call → call.asked ≡ asked → ⊥

-- a number that another one is not
other_number : (m n : ℕ) → (m ≡ n → ⊥) → (n == m) ≡ false
other_number m n other = grind (arith, nat_tests)

-- a call that does not have this number is left as it is
one_left : (call : PlainCall) (asked : ℕ) (o : PlainOperation) (answer : PlainAnswer) → (call.asked ≡ asked → ⊥) → with_answer (call ∷ []) asked o answer ≡ call ∷ []
one_left call asked o answer other = rw (other_number asked call.asked (λ same. other (sym same))) refl

-- calls of which none has this number are left as they are
all_left : (calls : List PlainCall) (asked : ℕ) (o : PlainOperation) (answer : PlainAnswer) → IsNewNumber calls asked → with_answer calls asked o answer ≡ calls
all_left [] asked o answer none = refl
all_left (call ∷ calls) asked o answer none =
    let first : with_answer (call ∷ []) asked o answer ≡ call ∷ [] = one_left call asked o answer (none 0 call refl) in
    let others : with_answer calls asked o answer ≡ calls = all_left calls asked o answer (λ k. none (suc k)) in
    ap (λ cs. cs ++ with_answer calls asked o answer) first ∙ ap (λ cs. call ∷ cs) others

-- the answer of the only call with this number stands at its place
one_answered : (calls : List PlainCall) (place asked : ℕ) (call new : PlainCall) (o : PlainOperation) (answer : PlainAnswer) → slice_get calls place ≡ Some call
    → ((k : ℕ) (other : PlainCall) → slice_get calls k ≡ Some other → other.asked ≡ asked → k ≡ place)
    → with_answer (call ∷ []) asked o answer ≡ new ∷ [] → slice_set calls place new ≡ with_answer calls asked o answer
one_answered [] place asked call new o answer there only answered = absurd cc
one_answered (first ∷ calls) zero asked call new o answer there only answered =
    let same : first ≡ call = same_Some first call there in
    let here : with_answer (first ∷ []) asked o answer ≡ new ∷ [] = subst (λ c. with_answer (c ∷ []) asked o answer ≡ new ∷ []) (sym same) answered in
    let others : with_answer calls asked o answer ≡ calls = all_left calls asked o answer (λ k other at numbered.
    let none : suc k ≡ 0 = only (suc k) other at numbered in omega (arith, none)) in
    sym (ap (λ cs. cs ++ with_answer calls asked o answer) here ∙ ap (λ cs. new ∷ cs) others)
one_answered (first ∷ calls) (suc place) asked call new o answer there only answered =
    let kept : with_answer (first ∷ []) asked o answer ≡ first ∷ [] = one_left first asked o answer (λ numbered.
    let none : 0 ≡ suc place = only 0 first refl numbered in omega (arith, none)) in
    let others : slice_set calls place new ≡ with_answer calls asked o answer = one_answered calls place asked call new o answer there (λ k other at numbered.
    let later : suc k ≡ suc place = only (suc k) other at numbered in omega (arith, later)) answered in
    ap (λ cs. first ∷ cs) others ∙ sym (ap (λ cs. cs ++ with_answer calls asked o answer) kept)

-- of rising numbers a later one is larger
rises_far : (xs : List ℕ) → IsStrictlyIncreasing xs → (k j : ℕ) → k < j → j < length xs → get_or xs k 0 < get_or xs j 0
rises_far xs rise k zero before within = absurd (omega (arith, before))
rises_far xs rise k (suc j) before within =
    let number : j + 1 ≡ suc j = omega arith in
    let next : get_or xs j 0 < get_or xs (j + 1) 0 = rise j (omega (arith, within)) in
    let last : get_or xs (j + 1) 0 ≡ get_or xs (suc j) 0 = ap (λ i. get_or xs i 0) number in
    elim (cases_lt k j) [
      | inl below ↦ let near = rises_far xs rise k j below (omega (arith, within)) in omega (arith, near, next, last)
      | inr end ↦
          let same : get_or xs k 0 ≡ get_or xs j 0 = ap (λ i. get_or xs i 0) (omega (arith, before, end)) in
          omega (arith, same, next, last)
    ]

-- a number of rising ones stands at one place
rising_place : (xs : List ℕ) → IsStrictlyIncreasing xs → (k j x : ℕ) → slice_get xs k ≡ Some x → slice_get xs j ≡ Some x → k ≡ j
rising_place xs rise k j x here there =
    let within : k < length xs = slice_get_within xs k x here in
    let inside : j < length xs = slice_get_within xs j x there in
    let mine : get_or xs k 0 ≡ x = get_or_from_slice_get xs k x 0 here in
    let yours : get_or xs j 0 ≡ x = get_or_from_slice_get xs j x 0 there in
    elim (cases_lt k j) [
      | inl below ↦ let less = rises_far xs rise k j below inside in absurd (omega (arith, less, mine, yours))
      | inr not_below ↦ elim (cases_lt j k) [
        | inl above ↦ let more = rises_far xs rise j k above within in absurd (omega (arith, more, mine, yours))
        | inr not_above ↦ omega (arith, not_below, not_above)
      ]
    ]

-- a call of rising numbers has its number alone
only_call : (calls : List PlainCall) → IsStrictlyIncreasing (map (λ call. call.asked) calls) → (place asked : ℕ) (call : PlainCall) → slice_get calls place ≡ Some call → call.asked ≡ asked
    → (k : ℕ) (other : PlainCall) → slice_get calls k ≡ Some other → other.asked ≡ asked → k ≡ place
only_call calls rise place asked call there numbered k other at same =
    let number : PlainCall → ℕ = λ c. c.asked in
    rising_place (map number calls) rise k place asked
    (slice_get-map number calls k ∙ ap (option_map number) at ∙ ap (λ n. Some n) same)
    (slice_get-map number calls place ∙ ap (option_map number) there ∙ ap (λ n. Some n) numbered)

-- ---- rows, with what stands beside them

-- more stands beside rows behind what stood there
pub record HasMore (old new : Aside) : Type 0 where
  pub besides : (more : List Beside) × (new.besides.items ≡ old.besides.items ++ more)
  pub listed : (more : List (Vec NodeName Global)) × (new.listed.items ≡ old.listed.items ++ more)

-- what names an answer gives stays so where those of more listings come behind these
names_stay : (reply : List ℕ) (listed more : List (Vec NodeName Global)) (gives : Gives) → IsAmong (length listed) gives → names_kept reply (listed ++ more) gives ≡ names_kept reply listed gives
names_stay reply listed more (gives.Several place) among =
    let one = element_at listed place among in
    let names : Vec NodeName Global → List NodeName = λ v. v.items in
    ap (λ found. option_map_or names found []) (get_kept listed more place one.0 one.1) ∙ sym (ap (λ found. option_map_or names found []) one.1)
names_stay reply listed more other among = refl

-- and so does the other node or the listing
beside_stays : (besides more : List Beside) (place : Option ℕ) → IsPlaceIn (length besides) place → beside_at (besides ++ more) place ≡ beside_at besides place
beside_stays besides more None within = refl
beside_stays besides more (Some place) within =
    let one = element_at besides place within in
    let found : Option Beside → Beside = λ o. option_map_or (λ (b : Beside). b) o beside.Nothing in
    ap found (get_kept besides more place one.0 one.1) ∙ sym (ap found one.1)

-- and what the row shows
row_stays : (old new : Aside) (row : Row) → HasMore old new → StandsIn old row → row_shown new row ≡ row_shown old row
row_stays old new row more stands =
    let reply = row.messages.reply.now in
    let names : names_kept reply new.listed.items (gives_kept row) ≡ names_kept reply old.listed.items (gives_kept row) =
    rw more.listed.1 (names_stay reply old.listed.items more.listed.0 (gives_kept row) stands.1) in
    let besides : beside_kept new row ≡ beside_kept old row =
    rw more.besides.1 (beside_stays old.besides.items more.besides.0 (beside_place row) stands.0) in
    rw (names, besides) refl

-- and what all rows show
pub rows_stay : (old new : Aside) (rows : List Row) → HasMore old new → All (StandsIn old) rows → map (row_shown new) rows ≡ map (row_shown old) rows
rows_stay old new [] more stand = refl
rows_stay old new (row ∷ rows) more stand =
    let first : row_shown new row ≡ row_shown old row = row_stays old new row more (All-head (StandsIn old) row rows stand) in
    let later : map (row_shown new) rows ≡ map (row_shown old) rows = rows_stay old new rows more (All-tail (StandsIn old) row rows stand) in
    cc

-- what stands among so many stands among more
among_more : (count more : ℕ) (gives : Gives) → count ≤ more → IsAmong count gives → IsAmong more gives
among_more count more (gives.Several place) less among = omega (arith, less, among)
among_more count more other less among = among

place_in_more : (count more : ℕ) (place : Option ℕ) → count ≤ more → IsPlaceIn count place → IsPlaceIn more place
place_in_more count more None less within = within
place_in_more count more (Some place) less within = omega (arith, less, within)

pub stands_in_more : (old new : Aside) (row : Row) → HasMore old new → StandsIn old row → StandsIn new row
stands_in_more old new row more stands =
    let besides : length old.besides.items ≤ length new.besides.items = rw more.besides.1 (omega (arith, length-append old.besides.items more.besides.0)) in
    let listed : length old.listed.items ≤ length new.listed.items = rw more.listed.1 (omega (arith, length-append old.listed.items more.listed.0)) in
    (place_in_more _ _ (beside_place row) besides stands.0, among_more _ _ (gives_kept row) listed stands.1)

pub all_stand_in_more : (old new : Aside) (rows : List Row) → HasMore old new → All (StandsIn old) rows → All (StandsIn new) rows
all_stand_in_more old new rows more stand = All-weaker (StandsIn old) (StandsIn new) (λ row. stands_in_more old new row more) rows stand

module _ (aside : Aside) where
  -- what the list shows with one row more
  pub shown_pushed : (items pushed : List Row) (row : Row) (call : PlainCall) → pushed ≡ items ++ row ∷ [] → row_shown aside row ≡ call
      → map (row_shown aside) pushed ≡ map (row_shown aside) items ++ call ∷ []
  shown_pushed items pushed row call added is =
      ap (map (row_shown aside)) added ∙ map-append (row_shown aside) items (row ∷ []) ∙ ap (λ (c : PlainCall). map (row_shown aside) items ++ c ∷ []) is

  -- the call at a place of the list, as it is shown
  pub shown_at : (items : List Row) (place : ℕ) (call : Row) → call ≡ get_or items place call → place < length items → slice_get (map (row_shown aside) items) place ≡ Some (row_shown aside call)
  shown_at items place call read within =
      slice_get-map (row_shown aside) items place
      ∙ ap (option_map (row_shown aside)) (slice_get-get_or items place call within ∙ ap (λ c. Some c) (sym read))

  -- such a place is within the list
  pub place_within : (items : List Row) (place : ℕ) (call : PlainCall) → slice_get (map (row_shown aside) items) place ≡ Some call → place < length items
  place_within items place call there =
      let within : place < length (map (row_shown aside) items) = slice_get_within (map (row_shown aside) items) place call there in
      omega (arith, within, length-map items (row_shown aside))

  -- the row there shows that call
  pub row_there : (items : List Row) (place : ℕ) (call : PlainCall) (row : Row) → slice_get (map (row_shown aside) items) place ≡ Some call → row ≡ get_or items place row → call ≡ row_shown aside row
  row_there items place call row there read =
      same_Some call (row_shown aside row) (sym there ∙ shown_at items place row read (place_within items place call there))

  -- a call that waits is the one at the place of its number
  pub waits_there : (items : List Row) (asked place : ℕ) (call : PlainCall) (row : Row) → IsStrictlyIncreasing (map (λ call. call.asked) (map (row_shown aside) items))
      → slice_get (map (row_shown aside) items) place ≡ Some call → call.asked ≡ asked → row ≡ get_or items place row
      → (k : ℕ) (other : PlainCall) → WaitsAt (map (row_shown aside) items) asked k other → answer_kept aside row ≡ None
  waits_there items asked place call row rise there numbered read k other waits =
      let same : k ≡ place = only_call (map (row_shown aside) items) rise place asked call there numbered k other waits.there waits.numbered in
      let one : other ≡ row_shown aside row = row_there items place other row (subst (λ (n : ℕ). slice_get (map (row_shown aside) items) n ≡ Some other) same waits.there) read in
      subst (λ (c : PlainCall). c.answer ≡ None) one waits.unanswered

  -- the list after the answer is set at its place
  pub answer_set : (rows : List Row) (place asked : ℕ) (call : PlainCall) (row after : Row) (o : PlainOperation) (answer : PlainAnswer) → WaitsAt (map (row_shown aside) rows) asked place call
      → row ≡ get_or rows place row → IsStrictlyIncreasing (map (λ call. call.asked) (map (row_shown aside) rows))
      → row_shown aside after ≡ answered_by o answer (row_shown aside row)
      → map (row_shown aside) (slice_set rows place after) ≡ with_answer (map (row_shown aside) rows) asked o answer
  answer_set rows place asked call row after o answer waits read rise is =
      let same : call ≡ row_shown aside row = row_there rows place call row waits.there read in
      let there : WaitsAt (map (row_shown aside) rows) asked place (row_shown aside row) = subst (WaitsAt (map (row_shown aside) rows) asked place) same waits in
      let only = only_call (map (row_shown aside) rows) rise place asked (row_shown aside row) there.there there.numbered in
      let test : (row.asked == asked) ≡ true = grind (arith, nat_tests, there.numbered) in
      map-set (row_shown aside) rows place after
      ∙ one_answered (map (row_shown aside) rows) place asked (row_shown aside row) (row_shown aside after) o answer there.there only (rw test (ap (λ (c : PlainCall). c ∷ []) (sym is)))
