use Rattle.std.proofs.Common.{inl, inr, refl, sym, codes, None}
use Rattle.fa_command_line.proofs.CommandLineLemmas.{value_of-given, none_given, none_read}
use Rattle.fa_command_line.proofs.call.FrontPaths.new.Goals as goal

pub returns-in_err-get_str-clause-none : goal.returns-in_err-get_str-clause-none
returns-in_err-get_str-clause-none c none =
    inr (inl (value_of-given _ c.in_ok-options.options.now (codes "capture") None (sym c.in_ok-options.ensures.rows) c.in_err-get_str.ensures))

pub returns-in_err-get_str-2-clause-none : goal.returns-in_err-get_str-2-clause-none
returns-in_err-get_str-2-clause-none c none =
    inr (inr (λ number.
    none_given _ (codes "at") number
    (value_of-given _ c.in_ok-options.options.now (codes "at") None (sym c.in_ok-options.ensures.rows) c.in_err-get_str-2.ensures)))

pub returns-in_err-number-clause-none : goal.returns-in_err-number-clause-none
returns-in_err-number-clause-none c none =
    inr (inr (λ number.
    none_read _ (codes "at") _ number
    (value_of-given _ c.in_ok-options.options.now (codes "at") _ (sym c.in_ok-options.ensures.rows) c.in_ok-get_str-2.ensures)
    (c.in_err-number.ensures.none refl)))

pub returns-clause-found : goal.returns-clause-found
returns-clause-found c = record {
  command = c.in_ok-options.ensures.found.0 refl;
  capture_is = value_of-given _ c.in_ok-options.options.now (codes "capture") _ (sym c.in_ok-options.ensures.rows) c.in_ok-get_str.ensures;
  at_is = (
    _,
    value_of-given _ c.in_ok-options.options.now (codes "at") _ (sym c.in_ok-options.ensures.rows) c.in_ok-get_str-2.ensures,
    c.in_ok-number.ensures.found,
  );
}
