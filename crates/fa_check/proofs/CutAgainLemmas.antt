-- An order that is cut and cut again: what is left at last is what an earlier cut leaves at once. And messages that have a legal order
-- have one in each of their fronts.
use Rattle.std.proofs.Common.{◌≡◌, ℕ, ◌<◌, ◌≤◌, List, [], ◌∷◌, ◌++◌, append_assoc, take, refl, sym, ap, subst, ◌∙◌, inl, inr, arith}
use Rattle.std.specs.Prelude.{All, Contains, get_or}
use Rattle.std.proofs.lemmas.List.Elements.{All-contains, Contains-append_cases, Contains-append_left, Contains-get_or}
use Rattle.std.proofs.lemmas.List.{take-take}
use Rattle.fa_capture.specs.Message.{Message}
use Rattle.fa_capture.proofs.CallerLemmas.{get_of_front, contains_first, contains_behind}
use Rattle.fa_session.specs.Answers.{Answers, IsAnsweredBy}
use Rattle.fa_session.proofs.CallerLemmas.{answer_after}
use Rattle.fa_ledger.specs.Operations.{PlainOperation}
use Rattle.fa_ledger.proofs.CallerLemmas.{answers_of_front}
use Rattle.fa_order.specs.declared.entry.Entry.{Entry}
use Rattle.fa_check.specs.Orders.{IsTreeRequestAt}
use Rattle.fa_check.specs.Faults.{EachPlaced}
use Rattle.fa_check.specs.Cuts.{IsAnsweredBefore, IsAnsweredLate, Goes, Stays, AreLeft, IsAnsweredEntry, IsCut}
use Rattle.fa_check.specs.Laws.{CutAgain, NoOrderStays}
use Rattle.fa_check.proofs.OrderLemmas.{number_of, number_in}
use Rattle.fa_check.proofs.CutLemmas.{not_late, answered_of_front, answered_in_front, tree_of_front, tree_in_front}
use Rattle.fa_check.proofs.CutLemmas.{stays_at, done_left, left_at, front_sent}
use Rattle.fa_check.proofs.CutRunLemmas.{contained_parts, cut_is_legal}
use Rattle.fa_check.proofs.CutThereLemmas.{cut_is_there}
use Rattle.fa_check.proofs.CuttingLemmas.{left_stays}

module _ (c : List Message) (k m : ℕ) (earlier : k ≤ m) where
  -- ---- replies

  -- a reply from k on among the first messages is one from k on
  late_of_front : (p : ℕ) (o : PlainOperation) → IsAnsweredLate (take m c) k p o → IsAnsweredLate c k p o
  late_of_front p o (q, r, reply, at, far, does) =
      let below : q < m = (answers_of_front c m q p r (at.0, at.1, at.2)).0 in
      let before : take q (take m c) ≡ take q c = take-take q m c (omega (arith, below)) in
      (q, r, reply, (at.0, get_of_front c m q at.0 at.1, subst (λ (xs : List Message). Answers xs at.0 p r) before at.2, at.3), far, does)

  -- and it answers before m
  early_of_front : (p : ℕ) (o : PlainOperation) → IsAnsweredLate (take m c) k p o → IsAnsweredBefore c m p
  early_of_front p o (q, r, reply, at, far, does) =
      let answered = answered_of_front c m p q (r, (at.0, at.1, at.2)) in
      (q, answered.1, answered.0)

  -- a reply from m on is one from k on
  late_earlier : (p : ℕ) (o : PlainOperation) → IsAnsweredLate c m p o → IsAnsweredLate c k p o
  late_earlier p o (q, r, reply, at, far, does) = (q, r, reply, at, omega (arith, earlier, far), does)

  -- ---- each entry

  -- one that goes at m goes at k
  goes_earlier : (e : Entry) → Goes c m e → Goes c k e
  goes_earlier e (inl none) = inl none
  goes_earlier e (inr (o, late, leaves)) = inr (o, late_earlier e.at o late, leaves)

  -- one that is left at m, and of that nothing at k, goes at k
  goes_then : (e left : Entry) → e.at < m → Stays c m e left → Goes (take m c) k left → Goes c k e
  goes_then e left sent stays (inl none) =
      absurd (none (subst (IsTreeRequestAt (take m c)) (sym (stays_at c m e left stays)) (tree_in_front c m e.at sent stays.0)))
  goes_then e left sent stays (inr (o, late, leaves)) =
      inr (o, subst (λ (p : ℕ). IsAnsweredLate c k p o) (stays_at c m e left stays) (late_of_front left.at o late), leaves)

  -- one that is left as it is at m, and then at k, is so left at k
  same_then : (e again : Entry) → IsTreeRequestAt c e.at → ((q : ℕ) → IsAnsweredBy c e.at q → q < m) → Stays (take m c) k e again
      → Stays c k e again
  same_then e again tree early (there, inl same) =
      (tree, inl ((λ q by. same.0 q (answered_in_front c m e.at q (early q by) by)), same.1))
  same_then e again tree early (there, inr (o, late, keeps, is)) = (tree, inr (o, late_of_front e.at o late, keeps, is))

  -- one that is left at m, and then at k, is so left at k
  stays_then : (e left again : Entry) → Stays c m e left → Stays (take m c) k left again → Stays c k e again
  stays_then e left again (tree, inl same) remains =
      same_then e again tree same.0 (subst (λ (x : Entry). Stays (take m c) k x again) same.1 remains)
  stays_then e left again (tree, inr (o, late, keeps, is)) (there, inl same) = (tree, inr (o, late_earlier e.at o late, keeps, same.1 ∙ is))
  stays_then e left again (tree, inr (o, late, keeps, is)) (there, inr (u, early, changes, too)) =
      let at : left.at ≡ e.at = ap (λ (x : Entry). x.at) is in
      absurd (not_late c m e.at o late (subst (IsAnsweredBefore c m) at (early_of_front left.at u early)))

  -- what is left of entries at m, and then at k, is what is left of them at k
  left_then : (es left again : List Entry) → ((e : Entry) → Contains es e → e.at < m) → AreLeft c m es left
      → AreLeft (take m c) k left again → AreLeft c k es again
  left_then [] left again sent are more = subst (λ (xs : List Entry). AreLeft (take m c) k xs again) are more
  left_then (e ∷ es) left again sent (inl gone) more =
      inl (goes_earlier e gone.0, left_then es left again (λ x has. sent x (contains_behind e es x has)) gone.1 more)
  left_then (e ∷ es) left again sent (inr (f, rest, is, stays, are)) more =
      let below : (x : Entry) → Contains es x → x.at < m = λ x has. sent x (contains_behind e es x has) in
      elim (subst (λ (xs : List Entry). AreLeft (take m c) k xs again) is more) [
        | inl gone ↦ inl (goes_then e f (sent e (contains_first e es)) stays gone.0, left_then es rest again below are gone.1)
        | inr kept ↦ inr (kept.0, kept.1, kept.2, stays_then e f kept.0 stays kept.3, left_then es rest kept.1 below are kept.4)
      ]

  -- ---- entries that are done

  -- the request at p is a tree request that was answered before k
  abbrev IsAnsweredEntryAt : List Message → ℕ → Type 0
  IsAnsweredEntryAt xs p = IsTreeRequestAt xs p × IsAnsweredBefore xs k p

  -- what is done before k is so among the first messages
  done_in_front : (p : ℕ) → IsAnsweredEntryAt c p → IsAnsweredEntryAt (take m c) p
  done_in_front p (tree, (q, by, near)) =
      let below : q < m = omega (arith, near, earlier) in
      let sent : p < q = answer_after c q p by.0 by.1 in
      (tree_in_front c m p (omega (arith, sent, below)) tree, (q, answered_in_front c m p q below by, near))

  -- and back
  done_of_front : (p : ℕ) → IsAnsweredEntryAt (take m c) p → IsAnsweredEntryAt c p
  done_of_front p (tree, (q, by, near)) = (tree_of_front c m p tree, (q, (answered_of_front c m p q by).1, near))

  -- what is done before k is done before m
  done_later : (e : Entry) → IsAnsweredEntry c k e → IsAnsweredEntry c m e
  done_later e (tree, (q, by, near)) = (tree, (q, by, omega (arith, near, earlier)))

  -- where nothing that is left is done before k, nothing is
  none_done : (es left : List Entry) → AreLeft c m es left → All (λ e. IsAnsweredEntry (take m c) k e → ⊥) left
      → (e : Entry) → Contains es e → IsAnsweredEntry c k e → ⊥
  none_done es left are none e has done =
      let later = done_later e done in
      let found = number_of left e.at (done_left c m es left are e.at later.0 later.1 (number_in es e has)) in
      All-contains (λ (x : Entry). IsAnsweredEntry (take m c) k x → ⊥) left found.0 none found.1
      (subst (IsAnsweredEntryAt (take m c)) (sym found.2) (done_in_front e.at done))

  -- ---- the whole order

  module _ (es cut again : List Entry) (placed : EachPlaced c es) (j : IsCut c m es cut) (i : IsCut (take m c) k cut again) where
    -- an entry of the front at m was sent before it
    sent_before : (e : Entry) → Contains j.front e → e.at < m
    sent_before e has =
        let around = contained_parts j.front e has in
        front_sent c m es cut placed j around.0 around.1 e around.2

    -- what stands behind the front at k was not done before it
    none_behind : (inner left : List Entry) → AreLeft c m inner left → All (λ e. IsAnsweredEntry (take m c) k e → ⊥) left
        → All (λ e. IsAnsweredEntry c k e → ⊥) (inner ++ j.behind)
    none_behind inner left are none n d within done =
        let e : Entry = get_or (inner ++ j.behind) n d in
        elim (Contains-append_cases inner j.behind e (Contains-get_or (inner ++ j.behind) n d within)) [
          | inl inside ↦ none_done inner left are none e inside done
          | inr behind ↦ All-contains (λ (x : Entry). IsAnsweredEntry c m x → ⊥) j.behind e j.none behind (done_later e done)
        ]

    -- where the second front is empty, so is the one at k
    empty_front : i.front ≡ [] → IsCut c k es again
    empty_front empty =
        let all : cut ≡ i.behind = i.parts ∙ ap (λ (xs : List Entry). xs ++ i.behind) empty in
        record {
          front = [];
          behind = j.front ++ j.behind;
          parts = j.parts;
          last = inl refl;
          none = none_behind j.front i.behind (subst (AreLeft c m j.front) all j.left) i.none;
          left = subst (λ (xs : List Entry). AreLeft (take m c) k xs again) empty i.left;
        }

    -- else it ends in the entry of which the last of the second front is left
    ending_front : (before : List Entry) (f : Entry) → i.front ≡ before ++ f ∷ [] → IsAnsweredEntry (take m c) k f → IsCut c k es again
    ending_front before f ends done =
        let whole : cut ≡ before ++ f ∷ i.behind =
        i.parts ∙ ap (λ (xs : List Entry). xs ++ i.behind) ends ∙ append_assoc before (f ∷ []) i.behind in
        let of = left_at c m j.front cut before i.behind f j.left whole in
        let at : f.at ≡ of.entry.at = stays_at c m of.entry f of.stays in
        let front : List Entry = of.before ++ of.entry ∷ [] in
        let both : j.front ≡ front ++ of.after = of.parts ∙ sym (append_assoc of.before (of.entry ∷ []) of.after) in
        let sent : (e : Entry) → Contains front e → e.at < m =
        λ e has. sent_before e (subst (λ (xs : List Entry). Contains xs e) (sym both) (Contains-append_left front of.after e has)) in
        record {
          front = front;
          behind = of.after ++ j.behind;
          parts = j.parts ∙ ap (λ (xs : List Entry). xs ++ j.behind) both ∙ append_assoc front of.after j.behind;
          last = inr (of.before, of.entry, refl, subst (IsAnsweredEntryAt c) at (done_of_front f.at done));
          none = none_behind of.after i.behind of.behind i.none;
          left = left_then front (before ++ f ∷ []) again sent (left_stays c m of.before before of.entry f of.stays of.left)
              (subst (λ (xs : List Entry). AreLeft (take m c) k xs again) ends i.left);
        }

    cut_twice : IsCut c k es again
    cut_twice = elim i.last [ inl empty ↦ empty_front empty | inr last ↦ ending_front last.0 last.1 last.2 last.3 ]

-- an order cut at m and again at k is the order cut at k
pub cut_again : CutAgain
cut_again c k m es cut again earlier placed j i = cut_twice c k m earlier es cut again placed j i

-- a legal order of the messages leaves one of the first
pub no_order_stays : NoOrderStays
no_order_stays c first m none (es, legal) = cut_is_there c m es legal.good (λ cut k. none (cut, cut_is_legal c first es cut m legal k))
