-- An order has one cut at a message; and the verdict of a legal order that is cut.
use Rattle.std.proofs.Common.{◌≡◌, ◌⊎◌, ℕ, ◌≤◌, List, [], ◌∷◌, ◌++◌, append-nil, length, take, Some, refl, sym, ap, subst, ◌∙◌, inl, inr, arith}
use Rattle.std.specs.Prelude.{Contains}
use Rattle.std.proofs.lemmas.Bool.{cases_lt}
use Rattle.std.proofs.lemmas.Option.{same_Some}
use Rattle.std.proofs.lemmas.List.Elements.{All-contains}
use Rattle.fa_capture.specs.Message.{Message}
use Rattle.fa_capture.proofs.CallerLemmas.{contains_first, contains_behind}
use Rattle.fa_bodies.specs.Requests.{PlainRequest}
use Rattle.fa_bodies.specs.Replies.{PlainReply, IsReply}
use Rattle.fa_bodies.proofs.CallerLemmas.{request_is_one, reply_is_one}
use Rattle.fa_session.specs.Answers.{AnswersAt, IsRepliedAt}
use Rattle.fa_session.proofs.CallerLemmas.{one_request, answered_once, answered_asked}
use Rattle.fa_ledger.specs.Kinds.{KeepsTree}
use Rattle.fa_ledger.specs.Operations.{PlainOperation, operation_of}
use Rattle.fa_order.specs.declared.entry.Entry.{Entry}
use Rattle.fa_check.specs.declared.verdict.Verdict.TheVariants.{Legal, Fault, NotShown}
use Rattle.fa_check.specs.Cuts.{IsAnsweredLate, wrote_without, Goes, StaysSame, Stays, AreLeft, IsAnsweredEntry, IsCut}
use Rattle.fa_check.specs.Laws.{CutIsOne, CutIsToldLegal}
use Rattle.fa_check.proofs.FaultLemmas.{legal_has_no_fault}
use Rattle.fa_check.proofs.CutRunLemmas.{cut_is_legal}

-- ---- one reply

-- a request has one reply, and it is one request
one_reply : (c : List Message) (p q k : ℕ) (r s : PlainRequest) (reply other : PlainReply) → IsRepliedAt c q p r reply → IsRepliedAt c k p s other → (r ≡ s) × (reply ≡ other)
one_reply c p q k r s reply other is too =
    let first : AnswersAt c q p r = (is.0, is.1, is.2) in
    let second : AnswersAt c k p s = (too.0, too.1, too.2) in
    let place : q ≡ k = answered_once c q k p r s first second in
    let request : r ≡ s = one_request request_is_one c p r s (answered_asked c q p r first) (answered_asked c k p s second) in
    let here : IsRepliedAt c k p s reply =
    subst (λ (x : PlainRequest). IsRepliedAt c k p x reply) request (subst (λ (n : ℕ). IsRepliedAt c n p r reply) place is) in
    let message : here.0 ≡ too.0 = same_Some here.0 too.0 (sym here.1 ∙ too.1) in
    (request, reply_is_one s too.0.bytes reply other (subst (λ (x : Message). IsReply s x.bytes reply) message here.3) too.3)

-- and so is what came of it
one_late : (c : List Message) (m p : ℕ) (o u : PlainOperation) → IsAnsweredLate c m p o → IsAnsweredLate c m p u → o ≡ u
one_late c m p o u late too =
    let one = one_reply c p late.0 too.0 late.1 too.1 late.2 too.2 late.3 too.3 in
    same_Some o u (sym late.5 ∙ ap (λ (x : PlainRequest). operation_of x.body (Some late.2)) one.0 ∙ ap (λ (x : PlainReply). operation_of too.1.body (Some x)) one.1 ∙ too.5)

-- ---- one of each entry

stays_early : (c : List Message) (m : ℕ) (e left : Entry) (o : PlainOperation) → StaysSame c m e left → IsAnsweredLate c m e.at o → ⊥
stays_early c m e left o same late =
    let near = same.0 late.0 (late.1, (late.3.0, late.3.1, late.3.2)) in
    let far = late.4 in
    omega (arith, near, far)

-- an entry does not go and stay
not_both : (c : List Message) (m : ℕ) (e left : Entry) → Goes c m e → Stays c m e left → ⊥
not_both c m e left (inl none) stays = none stays.0
not_both c m e left (inr (o, late, leaves)) (tree, inl same) = stays_early c m e left o same late
not_both c m e left (inr (o, late, leaves)) (tree, inr (u, later, keeps, is)) = keeps (subst KeepsTree (one_late c m e.at o u late later) leaves)

-- one is left of it
one_stays : (c : List Message) (m : ℕ) (e left other : Entry) → Stays c m e left → Stays c m e other → left ≡ other
one_stays c m e left other (tree, inl same) (also, inl too) = same.1 ∙ sym too.1
one_stays c m e left other (tree, inl same) (also, inr (u, late, keeps, is)) = absurd (stays_early c m e left u same late)
one_stays c m e left other (tree, inr (o, late, keeps, is)) (also, inl too) = absurd (stays_early c m e other o too late)
one_stays c m e left other (tree, inr (o, late, keeps, is)) (also, inr (u, later, keeps_, too)) =
    let made : PlainOperation → Entry = λ x. record { at = e.at; wrote = wrote_without x e.wrote } in
    is ∙ ap made (one_late c m e.at o u late later) ∙ sym too

one_left : (c : List Message) (m : ℕ) (es left other : List Entry) → AreLeft c m es left → AreLeft c m es other → left ≡ other
one_left c m [] left other is too = is ∙ sym too
one_left c m (e ∷ es) left other (inl gone) (inl also) = one_left c m es left other gone.1 also.1
one_left c m (e ∷ es) left other (inl gone) (inr (f, rest, is, stays, are)) = absurd (not_both c m e f gone.0 stays)
one_left c m (e ∷ es) left other (inr (f, rest, is, stays, are)) (inl gone) = absurd (not_both c m e f gone.0 stays)
one_left c m (e ∷ es) left other (inr (f, rest, is, stays, are)) (inr (g, others, same, remains, too)) =
    is ∙ ap (λ (x : Entry). x ∷ rest) (one_stays c m e f g stays remains) ∙ ap (λ (xs : List Entry). g ∷ xs) (one_left c m es rest others are too) ∙ sym same

-- ---- one front

-- of two parts of a list the shorter front is the front of the longer one
shorter_front : {X : Type 0} (xs ys us vs : List X) → xs ++ us ≡ ys ++ vs → length xs ≤ length ys → (mid : List X) × (ys ≡ xs ++ mid) × (us ≡ mid ++ vs)
shorter_front [] ys us vs same short = (ys, refl, same)
shorter_front (x ∷ xs) [] us vs same short = absurd (omega (arith, short))
shorter_front {X = X} (x ∷ xs) (y ∷ ys) us vs same short =
    let head : x ≡ y = cc in
    let tail : xs ++ us ≡ ys ++ vs = cc in
    let rest = shorter_front xs ys us vs tail (omega (arith, short)) in
    let front : ys ≡ xs ++ rest.0 = rest.1 in
    (rest.0, cc, rest.2)

in_last : (mid vs : List Entry) (e : Entry) (xs earlier : List Entry) → xs ++ mid ≡ earlier ++ e ∷ [] → (mid ≡ []) ⊎ Contains (mid ++ vs) e
in_last mid vs e [] [] same = inr (subst (λ (ys : List Entry). Contains (ys ++ vs) e) (sym same) (contains_first e vs))
in_last mid vs e [] (x ∷ earlier) same =
    inr (subst (λ (ys : List Entry). Contains (ys ++ vs) e) (sym same) (in_middle (x ∷ earlier)))
  where
    in_middle : (ys : List Entry) → Contains ((ys ++ e ∷ []) ++ vs) e
    in_middle [] = contains_first e vs
    in_middle (y ∷ ys) = contains_behind y ((ys ++ e ∷ []) ++ vs) e (in_middle ys)
in_last mid vs e (x ∷ xs) [] same =
    let tail : xs ++ mid ≡ [] = cc in
    inl (none_behind xs tail)
  where
    none_behind : (ys : List Entry) → ys ++ mid ≡ [] → mid ≡ []
    none_behind [] is = is
    none_behind (y ∷ ys) is = absurd cc
in_last mid vs e (x ∷ xs) (y ∷ earlier) same =
    let tail : xs ++ mid ≡ earlier ++ e ∷ [] = cc in
    in_last mid vs e xs earlier tail

module _ (c : List Message) (m : ℕ) (es cut other : List Entry) (k : IsCut c m es cut) (j : IsCut c m es other) where
  -- where one front is no longer than the other, they are one
  no_longer : length k.front ≤ length j.front → j.front ≡ k.front
  no_longer short =
      let between = shorter_front k.front j.front k.behind j.behind (sym k.parts ∙ j.parts) short in
      let none : between.0 ≡ [] =
      elim j.last [
        | inl empty ↦ nothing_behind k.front between.0 (sym between.1 ∙ empty)
        | inr last ↦ elim (in_last between.0 j.behind last.1 k.front last.0 (sym between.1 ∙ last.2)) [
          | inl none ↦ none
          | inr there ↦
              absurd (All-contains (λ (e : Entry). IsAnsweredEntry c m e → ⊥) k.behind last.1 k.none (subst (λ (xs : List Entry). Contains xs last.1) (sym between.2) there) last.3)
        ]
      ] in
      between.1 ∙ ap (λ (xs : List Entry). k.front ++ xs) none ∙ append-nil k.front
    where
      nothing_behind : (xs ys : List Entry) → xs ++ ys ≡ [] → ys ≡ []
      nothing_behind [] ys is = is
      nothing_behind (x ∷ xs) ys is = absurd cc

pub cut_is_one : CutIsOne
cut_is_one c m es cut other k j =
    let front : j.front ≡ k.front =
    elim (cases_lt (length j.front) (length k.front)) [
      | inl shorter ↦ sym (no_longer c m es other cut j k (omega (arith, shorter)))
      | inr far ↦ no_longer c m es cut other k j far
    ] in
    one_left c m k.front cut other k.left (subst (λ (xs : List Entry). AreLeft c m xs other) front j.left)

-- ---- its verdict

pub cut_is_told_legal : CutIsToldLegal
cut_is_told_legal c first es cut m (Legal messages placed left) legal k is = (messages, placed, left, refl)
cut_is_told_legal c first es cut m (Fault at code) legal k is = absurd is
cut_is_told_legal c first es cut m (NotShown entry at code) legal k is =
    absurd (legal_has_no_fault (take m c) first cut entry at code (cut_is_legal c first es cut m legal k) is)
