use Rattle.std.proofs.Common.{◌≡◌, length, inl, inr, arith}
use Rattle.std.proofs.lemmas.Bool.{cases_lt}
use Rattle.std.proofs.lemmas.Bool.Decides.{nat_tests}
use Rattle.std.proofs.lemmas.Option.{slice_get_within}
use Rattle.fa_check.proofs.MarkLemmas.{not_both}
use Rattle.fa_check.proofs.unplaced_answers.UnplacedAnswers.is_empty.Goals as goal

pub returns : goal.returns
returns c =
    let marks = c.args.self.now.answers.items in
    let front = c.args.self.now.front in (
      (λ is at set.
          let all : front ≡ length marks = grind (arith, nat_tests, is, c.len.ensures) in
          not_both marks at set (c.requires.before at (omega (arith, all, slice_get_within marks at _ set)))),
      (λ none. elim (cases_lt front (length marks)) [
        | inl inside ↦ absurd (none front (c.requires.there inside))
        | inr past ↦ grind (arith, nat_tests, c.requires.within, past, c.len.ensures)
      ]),
    )
