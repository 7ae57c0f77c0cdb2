use Rattle.std.proofs.Common.{ap, refl}
use Rattle.std.specs.Option.{option_copied}
use Rattle.fa_command_line.proofs.number.wide_number_if_any.Goals as goal

pub returns-in_err-wide_number-in-Some-clause-none : goal.returns-in_err-wide_number-in-Some-clause-none
returns-in_err-wide_number-in-Some-clause-none c = λ none. (c.in-Some.text.now, ap (λ text. option_copied text) c.in-Some.is, c.in_err-wide_number-in-Some.ensures.none refl)
