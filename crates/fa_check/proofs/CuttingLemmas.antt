-- What the code that cuts an order knows of each entry, by the calls, and of the entries so far.
use Rattle.std.proofs.Common.{◌≡◌, ◌⊎◌, ℕ, suc, ◌+◌, ◌<◌, ◌≤◌, List, [], ◌∷◌, ◌++◌, length, take, drop, Option, None, Some, refl, sym, ap, subst, ◌∙◌, inl, inr, arith}
use Rattle.std.specs.Prelude.{slice_get, option_map, IfNone, IsTrue, ◌↔◌, nat_lt}
use Rattle.std.proofs.lemmas.Bool.{cases_lt, ltb-true, lt-ltb}
use Rattle.std.proofs.lemmas.List.{take-append-drop}
use Rattle.std.proofs.lemmas.Option.{slice_get_within, slice_get-get_or, same_Some}
use Rattle.fa_capture.specs.Message.{Message}
use Rattle.fa_capture.proofs.CallerLemmas.{take_one_more, get_from_drop}
use Rattle.fa_ledger.specs.declared.call.Answer.{Answer}
use Rattle.fa_ledger.specs.declared.call.Call.{Call}
use Rattle.fa_ledger.specs.declared.calls.Calls.{Calls}
use Rattle.fa_ledger.specs.Calls.{PlainCall, call_shown, answer_shown}
use Rattle.fa_ledger.specs.Kinds.{KeepsTree}
use Rattle.fa_order.specs.declared.entry.Entry.{Entry}
use Rattle.fa_check.specs.Orders.{IsTreeRequestAt}
use Rattle.fa_check.specs.Verdicts.{AreMessagesOf}
use Rattle.fa_check.specs.Cuts.{wrote_without, Goes, Stays, AreLeft, IsAnsweredEntry, IsCut}
use Rattle.fa_check.specs.parts.Cutting.{IsEndOfFrontUpTo, IsEndOfFront}
use Rattle.fa_check.proofs.MessageLemmas.{tree_is_call}
use Rattle.fa_check.proofs.CutThereLemmas.{open_stays, open_not_done, early_stays, early_done, late_not_done, late_goes, late_stays}

-- ---- options

pub on_none : {X : Type 0} (o : Option X) (P : Type 0) → IfNone o P → ((x : X) → o ≡ Some x → ⊥) → P
on_none None P holds other = holds
on_none (Some x) P holds other = absurd (other x refl)

-- ---- one entry

-- no call, no tree request
pub no_call : (calls : Calls) (at : ℕ) → ((place : ℕ) (call : PlainCall) → slice_get calls.list place ≡ Some call → call.asked ≡ at → ⊥)
    → (c : List Message) → AreMessagesOf calls c → IsTreeRequestAt c at → ⊥
no_call calls at none c is tree =
    let found = tree_is_call c calls.list is.are at tree in
    none found.0 found.1.0 found.1.1 found.1.2

-- the call that was found
pub record IsFoundAs (calls : Calls) (place at : ℕ) (call : Call) : Type 0 where
  pub there : slice_get calls.list place ≡ Some (call_shown call)
  pub asked : call.asked ≡ at

pub found_as : (calls : Calls) (place at : ℕ) (call : Call) → (found : PlainCall) × (slice_get calls.list place ≡ Some found) × (found.asked ≡ at)
    → slice_get calls.list place ≡ Some (call_shown call) → IsFoundAs calls place at call
found_as calls place at call found there =
    record { there = there; asked = ap (λ (x : PlainCall). x.asked) (same_Some (call_shown call) found.0 (sym there ∙ found.1)) ∙ found.2 }

module _ (calls : Calls) (place m : ℕ) (e : Entry) (call : Call) (f : IsFoundAs calls place e.at call) (c : List Message) (is : AreMessagesOf calls c) where
  pub shown_open : call.answer ≡ None → Stays c m e e
  shown_open none = open_stays c calls.list is.are m place (call_shown call) e f.there f.asked (ap (option_map answer_shown) none)

  pub shown_not_done : call.answer ≡ None → IsAnsweredEntry c m e → ⊥
  shown_not_done none = open_not_done c calls.list is.are m place (call_shown call) e f.there f.asked (ap (option_map answer_shown) none)

  module _ (answer : Answer) (has : call.answer ≡ Some answer) where
    pub shown_early : answer.at < m → Stays c m e e
    shown_early early =
        early_stays c calls.list is.are m place (call_shown call) e f.there f.asked (answer_shown answer) (ap (option_map answer_shown) has) early

    pub shown_done : answer.at < m → IsAnsweredEntry c m e
    shown_done early =
        early_done c calls.list is.are m place (call_shown call) e f.there f.asked (answer_shown answer) (ap (option_map answer_shown) has) early

    pub shown_late : m ≤ answer.at → IsAnsweredEntry c m e → ⊥
    shown_late late =
        late_not_done c calls.list is.are m place (call_shown call) e f.there f.asked (answer_shown answer) (ap (option_map answer_shown) has) late

    pub shown_goes : m ≤ answer.at → KeepsTree (call_shown call).operation → Goes c m e
    shown_goes late leaves =
        late_goes c calls.list is.are m place (call_shown call) e f.there f.asked (answer_shown answer) (ap (option_map answer_shown) has) late leaves

    pub shown_stays : m ≤ answer.at → (KeepsTree (call_shown call).operation → ⊥)
        → Stays c m e (record { at = e.at; wrote = wrote_without (call_shown call).operation e.wrote })
    shown_stays late keeps =
        late_stays c calls.list is.are m place (call_shown call) e f.there f.asked (answer_shown answer) (ap (option_map answer_shown) has) late keeps

-- ---- the front

-- of none
pub front_none : (c : List Message) (m : ℕ) (es : List Entry) → IsEndOfFrontUpTo c m es 0 0
front_none c m es = record { last = inl refl; none = λ k e from below there done. omega (arith, below) }

-- one entry more that is done
pub front_done : (c : List Message) (m : ℕ) (es : List Entry) (n : ℕ) (e : Entry) → slice_get es n ≡ Some e → IsAnsweredEntry c m e → IsEndOfFrontUpTo c m es (n + 1) (n + 1)
front_done c m es n e there done = record { last = inr (n, e, omega arith, there, done); none = λ k f from below at is. omega (arith, from, below) }

-- or is not
pub front_more : (c : List Message) (m : ℕ) (es : List Entry) (n count : ℕ) (e : Entry) → slice_get es n ≡ Some e → (IsAnsweredEntry c m e → ⊥) → IsEndOfFrontUpTo c m es n count → IsEndOfFrontUpTo c m es (n + 1) count
front_more c m es n count e there open_one front = record {
  last = front.last;
  none = λ k f from below at done.
      elim (cases_lt k n) [
        | inl before ↦ front.none k f from before at done
        | inr behind ↦
            let same : k ≡ n = omega (arith, behind, below) in
            let here : slice_get es n ≡ Some f = subst (λ (i : ℕ). slice_get es i ≡ Some f) same at in
            open_one (subst (IsAnsweredEntry c m) (same_Some f e (sym here ∙ there)) done)
      ];
}

-- ---- what is left

pub left_none : (c : List Message) (m : ℕ) → AreLeft c m [] []
left_none c m = refl

pub left_stays : (c : List Message) (m : ℕ) (es left : List Entry) (e f : Entry) → Stays c m e f → AreLeft c m es left → AreLeft c m (es ++ e ∷ []) (left ++ f ∷ [])
left_stays c m [] left e f stays are = inr (f, [], ap (λ (xs : List Entry). xs ++ f ∷ []) are, stays, refl)
left_stays c m (g ∷ es) left e f stays (inl gone) = inl (gone.0, left_stays c m es left e f stays gone.1)
left_stays c m (g ∷ es) left e f stays (inr (h, rest, is, remains, are)) =
    inr (h, rest ++ f ∷ [], ap (λ (xs : List Entry). xs ++ f ∷ []) is, remains, left_stays c m es rest e f stays are)

pub left_goes : (c : List Message) (m : ℕ) (es left : List Entry) (e : Entry) → Goes c m e → AreLeft c m es left → AreLeft c m (es ++ e ∷ []) left
left_goes c m [] left e goes are = inl (goes, are)
left_goes c m (g ∷ es) left e goes (inl gone) = inl (gone.0, left_goes c m es left e goes gone.1)
left_goes c m (g ∷ es) left e goes (inr (h, rest, is, remains, are)) = inr (h, rest, is, remains, left_goes c m es rest e goes are)

-- ---- all of it

front_last : (c : List Message) (m : ℕ) (es : List Entry) (n count : ℕ) → IsEndOfFrontUpTo c m es n count
    → (take count es ≡ []) ⊎ ((earlier : List Entry) × (e : Entry) × (take count es ≡ earlier ++ e ∷ []) × IsAnsweredEntry c m e)
front_last c m es n count front =
    elim front.last [
      | inl none ↦ inl (ap (λ (k : ℕ). take k es) none)
      | inr last ↦
          let more : suc last.0 ≡ last.0 + 1 = omega arith in
          inr (take last.0 es, last.1, ap (λ (k : ℕ). take k es) (last.2 ∙ more) ∙ take_one_more es last.0 last.1 last.3, last.4)
    ]

pub all_cut : (c : List Message) (m : ℕ) (es left : List Entry) (count : ℕ) → IsEndOfFront c m es count → AreLeft c m (take count es) left → IsCut c m es left
all_cut c m es left count front are = record {
  front = take count es;
  behind = drop count es;
  parts = sym (take-append-drop count es);
  last = front_last c m es (length es) count front;
  none = λ k d within done.
      let there : slice_get es (count + k) ≡ Some _ = get_from_drop count es k _ (slice_get-get_or (drop count es) k d within) in
      front.none (count + k) _ (omega arith) (slice_get_within es (count + k) _ there) there done;
  left = are;
}

-- the test of an answer's number
pub done_test : (calls : Calls) (place m : ℕ) (e : Entry) (call : Call) → IsFoundAs calls place e.at call → (c : List Message) → AreMessagesOf calls c → (answer : Answer) → call.answer ≡ Some answer
    → IsTrue (nat_lt answer.at m) ↔ IsAnsweredEntry c m e
done_test calls place m e call f c is answer has = (
  (λ test. shown_done calls place m e call f c is answer has (ltb-true answer.at m test)),
  (λ done.
      elim (cases_lt answer.at m) [
        | inl early ↦ lt-ltb answer.at m early
        | inr late ↦ absurd (shown_late calls place m e call f c is answer has late done)
      ]),
)

-- the front of the first n entries, of whatever messages the calls are
pub record IsEndSoFar (calls : Calls) (m : ℕ) (es : List Entry) (n count : ℕ) : Type 0 where
  pub within : count ≤ n
  pub exact : (c : List Message) → AreMessagesOf calls c → IsEndOfFrontUpTo c m es n count

pub front_begins : (calls : Calls) (m : ℕ) (es : List Entry) → IsEndSoFar calls m es 0 0
front_begins calls m es = record { within = omega arith; exact = λ c is. front_none c m es }

-- one entry more of those that are looked at
pub next_stays : (c : List Message) (m : ℕ) (xs left new : List Entry) (n : ℕ) (e f : Entry) → slice_get xs n ≡ Some e → Stays c m e f → new ≡ left ++ f ∷ []
    → AreLeft c m (take n xs) left → AreLeft c m (take (n + 1) xs) new
next_stays c m xs left new n e f there stays is are =
    subst (λ (ys : List Entry). AreLeft c m ys new) (sym (take_one_more xs n e there)) (subst (AreLeft c m (take n xs ++ e ∷ [])) (sym is) (left_stays c m (take n xs) left e f stays are))

pub next_goes : (c : List Message) (m : ℕ) (xs left new : List Entry) (n : ℕ) (e : Entry) → slice_get xs n ≡ Some e → Goes c m e → new ≡ left → AreLeft c m (take n xs) left
    → AreLeft c m (take (n + 1) xs) new
next_goes c m xs left new n e there goes is are =
    subst (λ (ys : List Entry). AreLeft c m ys new) (sym (take_one_more xs n e there)) (subst (AreLeft c m (take n xs ++ e ∷ [])) (sym is) (left_goes c m (take n xs) left e goes are))
