-- Ranks: a call has one, and two calls of the same messages have different ones.
use Rattle.std.proofs.Common.{◌≡◌, ℕ, List, Some, None, refl, sym, ap, ◌∙◌}
use Rattle.std.specs.Prelude.{slice_get}
use Rattle.std.proofs.lemmas.Option.{same_Some}
use Rattle.fa_capture.specs.Message.{Message}
use Rattle.fa_ledger.specs.Calls.{PlainAnswer, PlainCall, AreCalls}
use Rattle.fa_check.proofs.CallerLemmas.{one_answered, one_place}
use Rattle.fa_propose.specs.declared.rank.Group.{Group}
use Rattle.fa_propose.specs.declared.rank.Group.TheVariants.{Unchanging, Changing, Unanswered}
use Rattle.fa_propose.specs.declared.rank.Rank.{Rank}
use Rattle.fa_propose.specs.Proposals.{IsRankIn, IsRank}
use Rattle.fa_propose.proofs.RankOrderLemmas.{rank_of_parts}

-- ---- a call has one rank

-- a call has one group, and one position in it
pub rank_parts : (g h : Group) (p q : ℕ) (call : PlainCall) → IsRankIn g p call → IsRankIn h q call → (g ≡ h) × (p ≡ q)
rank_parts Unchanging Unchanging p q call is too =
    (refl, is.3 ∙ ap (λ (x : PlainAnswer). x.at) (same_Some is.0 too.0 (sym is.1 ∙ too.1)) ∙ sym too.3)
rank_parts Unchanging Changing p q call is too = absurd (too.2 is.2)
rank_parts Unchanging Unanswered p q call is too = let clash : Some is.0 ≡ None = sym is.1 ∙ too.0 in absurd cc
rank_parts Changing Unchanging p q call is too = absurd (is.2 too.2)
rank_parts Changing Changing p q call is too =
    (refl, is.3 ∙ ap (λ (x : PlainAnswer). x.at) (same_Some is.0 too.0 (sym is.1 ∙ too.1)) ∙ sym too.3)
rank_parts Changing Unanswered p q call is too = let clash : Some is.0 ≡ None = sym is.1 ∙ too.0 in absurd cc
rank_parts Unanswered Unchanging p q call is too = let clash : Some too.0 ≡ None = sym too.1 ∙ is.0 in absurd cc
rank_parts Unanswered Changing p q call is too = let clash : Some too.0 ≡ None = sym too.1 ∙ is.0 in absurd cc
rank_parts Unanswered Unanswered p q call is too = (refl, is.1 ∙ sym too.1)

-- and so one rank
pub rank_is_one : (call : PlainCall) (a b : Rank) → IsRank a call → IsRank b call → a ≡ b
rank_is_one call a b first second =
    let same = rank_parts a.group b.group a.position b.position call first second in
    rank_of_parts a b same.0 same.1

-- ---- a rank is of one call

module _ (c : List Message) (calls : List PlainCall) (are : AreCalls c calls) where
  -- those of one group and one position do
  pub in_group : (g : Group) (p i j : ℕ) (a b : PlainCall) → slice_get calls i ≡ Some a → slice_get calls j ≡ Some b → IsRankIn g p a → IsRankIn g p b → i ≡ j
  in_group Unchanging p i j a b first second of_a of_b = one_answered c calls are i j p (a, of_a.0, first, of_a.1, sym of_a.3) (b, of_b.0, second, of_b.1, sym of_b.3)
  in_group Changing p i j a b first second of_a of_b = one_answered c calls are i j p (a, of_a.0, first, of_a.1, sym of_a.3) (b, of_b.0, second, of_b.1, sym of_b.3)
  in_group Unanswered p i j a b first second of_a of_b = one_place c calls are i j a b first second (sym of_a.1 ∙ of_b.1)

  -- calls of the same rank stand at one place
  pub ranked_place : (rank : Rank) (i j : ℕ) (a b : PlainCall) → slice_get calls i ≡ Some a → slice_get calls j ≡ Some b → IsRank rank a → IsRank rank b → i ≡ j
  ranked_place rank i j a b first second of_a of_b = in_group rank.group rank.position i j a b first second of_a of_b
