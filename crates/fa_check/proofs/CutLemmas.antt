-- Orders that are cut at a message: what is left of entries that are placed, and hold what was answered before it, is a valid order of
-- the messages before.
use Rattle.std.proofs.Common.{◌≡◌, ℕ, ◌<◌, ◌≤◌, List, [], ◌∷◌, ◌++◌, length, take, Option, None, Some, refl, sym, ap, subst, ◌∙◌, append_assoc, inl, inr, arith}
use Rattle.std.specs.Prelude.{AllPairs, Contains}
use Rattle.std.proofs.lemmas.Option.{same_Some}
use Rattle.std.proofs.lemmas.List.{length-append}
use Rattle.std.proofs.lemmas.List.Elements.{All-contains, Contains-append_cases}
use Rattle.fa_capture.specs.Checks.{AllHold}
use Rattle.fa_capture.specs.Message.{Message}
use Rattle.fa_capture.proofs.CallerLemmas.{contains_cases, contains_first, contains_behind, pairs_before, snoc_cases}
use Rattle.fa_bodies.specs.Requests.{PlainRequest}
use Rattle.fa_bodies.specs.Replies.{PlainReply}
use Rattle.fa_bodies.proofs.CallerLemmas.{request_is_one}
use Rattle.fa_session.specs.Answers.{AnswersAt, IsAnsweredBy, IsRepliedAt}
use Rattle.fa_session.proofs.CallerLemmas.{one_request, answered_once, answered_asked, answer_after}
use Rattle.fa_ledger.specs.declared.operation.Outcome.TheVariants.{Fails, Succeeds, Unanswered}
use Rattle.fa_ledger.specs.Choices.{MayBePlaced}
use Rattle.fa_ledger.specs.Kinds.{KeepsTree}
use Rattle.fa_ledger.specs.Operations.{PlainOperation, operation_of, ended}
use Rattle.fa_ledger.specs.Operations.PlainAction.{Lookup, Getattr, Readlink, Read, Write, Opendir}
use Rattle.fa_ledger.specs.Operations.PlainOperation.{Lists, Acts}
use Rattle.fa_ledger.proofs.CallerLemmas.{lost, lost_made, not_unanswered, WroteWithin, reply_comes, asked_of_front, asked_in_front, answers_of_front, answers_in_front}
use Rattle.fa_order.specs.declared.entry.Entry.{Entry}
use Rattle.fa_check.specs.Orders.{IsTreeRequestAt, numbers, IsChoice, IsValidOrder}
use Rattle.fa_check.specs.Faults.{order_checks, EachPlaced, IsAnsweredUnplaced}
use Rattle.fa_check.specs.Cuts.{IsAnsweredBefore, IsAnsweredLate, wrote_without, Stays, AreLeft, IsAnsweredEntry, IsCut}
use Rattle.fa_check.proofs.OrderLemmas.{placed_precedence, placed_valid, number_of, number_in}

-- ---- answers

-- what a reply answers
replied_answers : (c : List Message) (q p : ℕ) (r : PlainRequest) (reply : PlainReply) → IsRepliedAt c q p r reply → AnswersAt c q p r
replied_answers c q p r reply at = (at.0, at.1, at.2)

-- a request is not answered before and late
pub not_late : (c : List Message) (m p : ℕ) (o : PlainOperation) → IsAnsweredLate c m p o → IsAnsweredBefore c m p → ⊥
not_late c m p o late before =
    let same : late.0 ≡ before.0 = answered_once c late.0 before.0 p late.1 before.1.0 (replied_answers c late.0 p late.1 late.2 late.3) before.1.1 in
    let far = late.4 in
    let near = before.2 in
    omega (arith, same, far, near)

-- an answer among the first messages is one before m
pub answered_of_front : (c : List Message) (m p q : ℕ) → IsAnsweredBy (take m c) p q → (q < m) × IsAnsweredBy c p q
answered_of_front c m p q by = let whole = answers_of_front c m q p by.0 by.1 in (whole.0, (by.0, whole.1))

-- one before m is among the first messages
pub answered_in_front : (c : List Message) (m p q : ℕ) → q < m → IsAnsweredBy c p q → IsAnsweredBy (take m c) p q
answered_in_front c m p q below by = (by.0, answers_in_front c m q p by.0 below by.1)

-- a tree request among the first messages is one of all
pub tree_of_front : (c : List Message) (m p : ℕ) → IsTreeRequestAt (take m c) p → IsTreeRequestAt c p
tree_of_front c m p tree = (tree.0, (asked_of_front c m p tree.0 tree.1).1, tree.2)

-- one before m is among the first messages
pub tree_in_front : (c : List Message) (m p : ℕ) → p < m → IsTreeRequestAt c p → IsTreeRequestAt (take m c) p
tree_in_front c m p below tree = (tree.0, asked_in_front c m p tree.0 below tree.1, tree.2)

-- ---- what is left

-- an entry that stays keeps its number
pub stays_at : (c : List Message) (m : ℕ) (e left : Entry) → Stays c m e left → left.at ≡ e.at
stays_at c m e left (tree, inl same) = ap (λ (x : Entry). x.at) same.1
stays_at c m e left (tree, inr late) = ap (λ (x : Entry). x.at) late.3

-- a number that is left was there
numbers_left : (c : List Message) (m : ℕ) (es left : List Entry) → AreLeft c m es left → (p : ℕ) → Contains (numbers left) p → Contains (numbers es) p
numbers_left c m [] left are p has = subst (λ (xs : List Entry). Contains (numbers xs) p) are has
numbers_left c m (e ∷ es) left (inl gone) p has = contains_behind e.at (numbers es) p (numbers_left c m es left gone.1 p has)
numbers_left c m (e ∷ es) left (inr (f, rest, is, stays, are)) p has =
    elim (contains_cases f.at (numbers rest) p (subst (λ (xs : List Entry). Contains (numbers xs) p) is has)) [
      | inl here ↦ subst (Contains (numbers (e ∷ es))) (sym (stays_at c m e f stays) ∙ here) (contains_first e.at (numbers es))
      | inr behind ↦ contains_behind e.at (numbers es) p (numbers_left c m es rest are p behind)
    ]

-- one that was done before m is left
pub done_left : (c : List Message) (m : ℕ) (es left : List Entry) → AreLeft c m es left → (p : ℕ) → IsTreeRequestAt c p → IsAnsweredBefore c m p → Contains (numbers es) p → Contains (numbers left) p
done_left c m [] left are p tree before has = absurd (omega (arith, has.1))
done_left c m (e ∷ es) left (inl gone) p tree before has =
    elim (contains_cases e.at (numbers es) p has) [
      | inl here ↦ elim gone.0 [
        | inl none ↦ absurd (none (subst (IsTreeRequestAt c) (sym here) tree))
        | inr late ↦ absurd (not_late c m e.at late.0 late.1 (subst (IsAnsweredBefore c m) (sym here) before))
      ]
      | inr behind ↦ done_left c m es left gone.1 p tree before behind
    ]
done_left c m (e ∷ es) left (inr (f, rest, is, stays, are)) p tree before has =
    subst (λ (xs : List Entry). Contains (numbers xs) p) (sym is)
    (elim (contains_cases e.at (numbers es) p has) [
      | inl here ↦ subst (Contains (numbers (f ∷ rest))) (stays_at c m e f stays ∙ here) (contains_first f.at (numbers rest))
      | inr behind ↦ contains_behind f.at (numbers rest) p (done_left c m es rest are p tree before behind)
    ])

-- the entry of which one is left, and what is left of those before it and behind it
pub record LeftOf (c : List Message) (m : ℕ) (es earlier later : List Entry) (f : Entry) : Type 0 where
  pub before : List Entry
  pub after : List Entry
  pub entry : Entry
  pub parts : es ≡ before ++ entry ∷ after
  pub stays : Stays c m entry f
  pub left : AreLeft c m before earlier
  pub behind : AreLeft c m after later

pub left_at : (c : List Message) (m : ℕ) (es left earlier later : List Entry) (f : Entry) → AreLeft c m es left → left ≡ earlier ++ f ∷ later → LeftOf c m es earlier later f
left_at c m [] left earlier later f are parts =
    let none : 0 ≡ length (earlier ++ f ∷ later) = ap length (sym are ∙ parts) in
    absurd (omega (arith, none, length-append earlier (f ∷ later)))
left_at c m (e ∷ es) left earlier later f (inl gone) parts =
    let found = left_at c m es left earlier later f gone.1 parts in
    record {
      before = e ∷ found.before;
      after = found.after;
      entry = found.entry;
      parts = ap (λ (xs : List Entry). e ∷ xs) found.parts;
      stays = found.stays;
      left = inl (gone.0, found.left);
      behind = found.behind;
    }
left_at c m (e ∷ es) left [] later f (inr (g, rest, is, stays, are)) parts =
    let whole : g ∷ rest ≡ f ∷ later = sym is ∙ parts in
    let same : g ≡ f = cc in
    let others : rest ≡ later = cc in
    record {
      before = [];
      after = es;
      entry = e;
      parts = refl;
      stays = subst (Stays c m e) same stays;
      left = refl;
      behind = subst (AreLeft c m es) others are;
    }
left_at c m (e ∷ es) left (x ∷ earlier) later f (inr (g, rest, is, stays, are)) parts =
    let whole : g ∷ rest ≡ x ∷ (earlier ++ f ∷ later) = sym is ∙ parts in
    let same : g ≡ x = cc in
    let others : rest ≡ earlier ++ f ∷ later = cc in
    let found = left_at c m es rest earlier later f are others in
    record {
      before = e ∷ found.before;
      after = found.after;
      entry = found.entry;
      parts = ap (λ (xs : List Entry). e ∷ xs) {y = found.before ++ found.entry ∷ found.after} found.parts;
      stays = found.stays;
      left = inr (x, earlier, refl, subst (Stays c m e) same stays, found.left);
      behind = found.behind;
    }

-- ---- choices

-- a changing request that succeeded may be placed without its answer
may_be_left : (o : PlainOperation) → (KeepsTree o → ⊥) → (ended o ≡ Unanswered → ⊥) → WroteWithin o → MayBePlaced (lost o) (wrote_without o None)
may_be_left (Lists l) changes ends within = absurd (changes (inr tt))
may_be_left (Acts (Lookup name o)) changes ends within = absurd (changes (inr tt))
may_be_left (Acts (Getattr o)) changes ends within = absurd (changes (inr tt))
may_be_left (Acts (Readlink o)) changes ends within = absurd (changes (inr tt))
may_be_left (Acts (Read offset size o)) changes ends within = absurd (changes (inr tt))
may_be_left (Acts (Opendir o)) changes ends within = absurd (changes (inr tt))
may_be_left (Acts (Write offset size payload (Fails error))) changes ends within = absurd (changes (inl tt))
may_be_left (Acts (Write offset size payload (Succeeds count))) changes ends within = (count, refl, within.0)
may_be_left (Acts (Write offset size payload Unanswered)) changes ends within = absurd (ends refl)
may_be_left other changes ends within = ((λ reads. reads), refl)

-- the choice of an entry that stays is allowed
module _ (c : List Message) (m : ℕ) (e : Entry) (choice : IsChoice c e) where
  same_choice : ((q : ℕ) → IsAnsweredBy c e.at q → q < m) → IsChoice (take m c) e
  same_choice early = record {
    answered = λ q by. choice.answered q (by.0, (answers_of_front c m q e.at by.0 by.1).1);
    unanswered = λ o waits.
        let r = waits.1.0 in
        choice.unanswered o ((λ q by. waits.0 q (by.0, answers_in_front c m q e.at by.0 (early q by) by.1)), (r, (asked_of_front c m e.at r waits.1.1).1, waits.1.2));
  }

  module _ (o : PlainOperation) (late : IsAnsweredLate c m e.at o) (changes : KeepsTree o → ⊥) where
    answers : AnswersAt c late.0 e.at late.1
    answers = replied_answers c late.0 e.at late.1 late.2 late.3

    carries : e.wrote ≡ None
    carries = choice.answered late.0 (late.1, answers)

    lost_choice : IsChoice (take m c) (record { at = e.at; wrote = wrote_without o e.wrote })
    lost_choice = record {
      answered = λ q by. absurd (let early = answered_of_front c m e.at q by in not_late c m e.at o late (q, early.1, early.0));
      unanswered = λ u waits.
          let s = waits.1.0 in
          let asked = waits.1.1 in
          let made = waits.1.2 in
          let same : s ≡ late.1 = one_request request_is_one c e.at s late.1 (asked_of_front c m e.at s asked).1 (answered_asked c late.0 e.at late.1 answers) in
          let without : operation_of s.body None ≡ Some (lost o) =
          ap (λ (x : PlainRequest). operation_of x.body None) same ∙ lost_made late.1.body (Some late.2) o late.5 in
          let comes = reply_comes late.1 late.3.0.bytes late.2 o late.3.3 late.5 in
          let may : MayBePlaced (lost o) (wrote_without o None) = may_be_left o changes (λ ends. not_unanswered late.2 (sym comes.ends ∙ ends)) comes.within in
          subst (λ (x : PlainOperation). MayBePlaced x (wrote_without o e.wrote)) (same_Some (lost o) u (sym without ∙ made))
          (subst (λ (w : Option ℕ). MayBePlaced (lost o) (wrote_without o w)) (sym carries) may);
    }

  choice_left : (left : Entry) → Stays c m e left → IsChoice (take m c) left
  choice_left left (tree, inl same) = subst (IsChoice (take m c)) (sym same.1) (same_choice same.0)
  choice_left left (tree, inr late) = subst (IsChoice (take m c)) (sym late.3) (lost_choice late.0 late.1 late.2)

-- ---- the order that is left

module _ (c : List Message) (m : ℕ) (es cut : List Entry) (placed : EachPlaced c es) (k : IsCut c m es cut) where
  -- an entry of the front, in the whole order
  whole_parts : (before after : List Entry) (e : Entry) → k.front ≡ before ++ e ∷ after → es ≡ before ++ e ∷ (after ++ k.behind)
  whole_parts before after e parts = k.parts ∙ ap (λ (xs : List Entry). xs ++ k.behind) parts ∙ append_assoc before (e ∷ after) k.behind

  -- passes the checks of its place
  pub front_placed : (before after : List Entry) (e : Entry) → k.front ≡ before ++ e ∷ after → AllHold (order_checks c before e)
  front_placed before after e parts = placed before (after ++ k.behind) e (whole_parts before after e parts)

  -- and was sent before m
  pub front_sent : (before after : List Entry) (e : Entry) → k.front ≡ before ++ e ∷ after → e.at < m
  front_sent before after e parts =
      elim k.last [
        | inl none ↦
            let empty : 0 ≡ length (before ++ e ∷ after) = ap length (sym none ∙ parts) in
            absurd (omega (arith, empty, length-append before (e ∷ after)))
        | inr last ↦
            let done = last.3.1 in
            let near = done.2 in
            elim (snoc_cases last.0 before after last.1 e (sym last.2 ∙ parts)) [
              | inl own ↦
                  let at : e.at ≡ last.1.at = ap (λ (x : Entry). x.at) own.1 in
                  let after_it = answered_after c done.0 last.1.at done.1 in
                  omega (arith, at, after_it, near)
              | inr inner ↦
                  let there : Contains last.0 e = subst (λ (xs : List Entry). Contains xs e) (sym inner.1) (middle_in before inner.0 e) in
                  let pairs : AllPairs (λ (a b : Entry). (q : ℕ) → IsAnsweredBy c b.at q → a.at ≤ q) (last.0 ++ last.1 ∷ k.behind) =
                  subst (AllPairs (λ (a b : Entry). (q : ℕ) → IsAnsweredBy c b.at q → a.at ≤ q))
                  (k.parts ∙ ap (λ (xs : List Entry). xs ++ k.behind) last.2 ∙ append_assoc last.0 (last.1 ∷ []) k.behind) (placed_precedence c es placed) in
                  let kept : e.at ≤ done.0 = pairs_before (λ (a b : Entry). (q : ℕ) → IsAnsweredBy c b.at q → a.at ≤ q) last.0 k.behind e last.1 pairs there done.0 done.1 in
                  omega (arith, kept, near)
            ]
      ]
    where
      answered_after : (c : List Message) (q p : ℕ) → IsAnsweredBy c p q → p < q
      answered_after c q p by = answer_after c q p by.0 by.1

      middle_in : (xs ys : List Entry) (x : Entry) → Contains (xs ++ x ∷ ys) x
      middle_in [] ys x = contains_first x ys
      middle_in (y ∷ xs) ys x = contains_behind y (xs ++ x ∷ ys) x (middle_in xs ys x)

  -- each entry that is left passes the checks of its place
  pub cut_placed : EachPlaced (take m c) cut
  cut_placed earlier later f parts =
      let of = left_at c m k.front cut earlier later f k.left parts in
      let at : f.at ≡ of.entry.at = stays_at c m of.entry f of.stays in
      let sent : of.entry.at < m = front_sent of.before of.after of.entry of.parts in
      let hold = front_placed of.before of.after of.entry of.parts in (
        subst (IsTreeRequestAt (take m c)) (sym at) (tree_in_front c m of.entry.at sent hold.0),
        (
          (λ has. hold.1.0 (subst (Contains (numbers of.before)) at (numbers_left c m of.before earlier of.left f.at has))),
          (
            (λ p q asked by before.
                let tree : IsTreeRequestAt c p = tree_of_front c m p asked in
                let early = answered_of_front c m p q by in
                let there : Contains (numbers of.before) p = hold.1.1.0 p q tree early.1 (let same = at in omega (arith, before, same)) in
                done_left c m of.before earlier of.left p tree (q, early.1, early.0) there),
            (choice_left c m of.entry hold.1.1.1.0 f of.stays, tt),
          ),
        ),
      )

  -- where the entries hold what was answered before m
  module _ (held : (p : ℕ) → IsTreeRequestAt c p → IsAnsweredBefore c m p → Contains (numbers es) p) where
    -- none of it is left out
    none_left_out : (p : ℕ) → IsAnsweredUnplaced (take m c) cut p → ⊥
    none_left_out p (asked, by, lacks) =
        let tree : IsTreeRequestAt c p = tree_of_front c m p asked in
        let answered = answered_of_front c m p by.0 by.1 in
        let early : IsAnsweredBefore c m p = (by.0, answered.1, answered.0) in
        let found = number_of es p (held p tree early) in
        let in_parts : Contains (k.front ++ k.behind) found.0 = subst (λ (xs : List Entry). Contains xs found.0) k.parts found.1 in
        elim (Contains-append_cases k.front k.behind found.0 in_parts) [
          | inl front ↦ lacks (done_left c m k.front cut k.left p tree early (subst (Contains (numbers k.front)) found.2 (number_in k.front found.0 front)))
          | inr behind ↦
              All-contains (λ (e : Entry). IsAnsweredEntry c m e → ⊥) k.behind found.0 k.none behind
              (subst (IsTreeRequestAt c) (sym found.2) tree, subst (IsAnsweredBefore c m) (sym found.2) early)
        ]

    pub cut_valid : IsValidOrder (take m c) cut
    cut_valid = placed_valid (take m c) cut cut_placed none_left_out
