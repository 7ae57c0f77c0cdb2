use Rattle.std.proofs.Common.{None, Some, sym, ap, ◌∙◌}
use Rattle.std.specs.Option.{option_map}
use Rattle.fa_tree.specs.parts.OpenParts.{open_of}
use Rattle.fa_tree.proofs.OpenLemmas.{found_shown}
use Rattle.fa_tree.proofs.open.Openings.last.Goals as goal

pub returns-in_err-at : goal.returns-in_err-at
returns-in_err-at c = ap (option_map open_of) c.from_residual.ensures ∙ sym (found_shown c.args.slots.now.table.entries c.args.self.now c.args.asked None c.in_err-at.ensures.last)

pub invariant_of-result : goal.invariant_of-result
invariant_of-result c = record { later = c.requires c.in_ok-at.at c.in_ok-at.opening c.in_ok-at.ensures.there }

pub returns : goal.returns
returns c = sym (found_shown c.args.slots.now.table.entries c.args.self.now c.args.asked (Some (c.in_ok-at.at, c.in_ok-at.opening)) c.in_ok-at.ensures.last)
