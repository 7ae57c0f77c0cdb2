use Rattle.std.proofs.Common.{None, Some, length, sym, ap, ◌∙◌, arith}
use Rattle.std.specs.Option.{option_map}
use Rattle.fa_tree.specs.parts.MemberParts.{members_of}
use Rattle.fa_tree.specs.parts.OpenParts.{open_of}
use Rattle.fa_tree.proofs.BirthLemmas.{whole_later}
use Rattle.fa_tree.proofs.OpenLemmas.{found_shown}
use Rattle.fa_tree.proofs.open.Openings.last_whole.Goals as goal

pub returns-in_err-at : goal.returns-in_err-at
returns-in_err-at c = ap (option_map open_of) c.from_residual.ensures ∙ sym (found_shown c.args.slots.now.table.entries c.args.self.now c.args.asked None c.in_err-at.ensures.last)

pub invariant_of-result : goal.invariant_of-result
invariant_of-result c =
    let members = members_of c.args.slots.now.members.table.entries c.in_ok-at.opening.directory in
    record {
      later = whole_later c.args.slots.now.table.entries members c.in_ok-at.at (length c.of.result.now) (let all = ap length c.of.ensures in omega (arith, all));
    }

pub returns : goal.returns
returns c = sym (found_shown c.args.slots.now.table.entries c.args.self.now c.args.asked (Some (c.in_ok-at.at, c.in_ok-at.opening)) c.in_ok-at.ensures.last)
