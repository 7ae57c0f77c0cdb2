use Rattle.std.proofs.Common.{refl}
use Rattle.fa_command_line.proofs.call.Call.new.Goals as goal

pub returns-in_err-new-clause-none : goal.returns-in_err-new-clause-none
returns-in_err-new-clause-none c = λ none. (
  c.in_default.ensures.none refl,
  c.in_default-new.ensures.none refl,
  c.in_default-new-2.ensures.none refl,
  c.in_default-new-3.ensures.none refl,
  c.in_default-new-4.ensures.none refl,
  c.in_default-new-5.ensures.none refl,
  c.in_default-new-6.ensures.none refl,
  c.in_default-new-7.ensures.none refl,
  c.in_default-new-8.ensures.none refl,
  c.in_default-new-9.ensures.none refl,
  c.in_default-new-10.ensures.none refl,
  c.in_default-new-11.ensures.none refl,
  c.in_err-new.ensures.none refl,
)
