use Rattle.std.proofs.Common.{nat_eq, inr, sym, ap, ◌∙◌, arith}
use Rattle.std.specs.Map.{lookup}
use Rattle.fa_tree.specs.parts.KeptParts.{size_of_listing}
use Rattle.fa_tree.proofs.KeptLemmas.{sum_put}
use Rattle.fa_tree.proofs.ReplayLemmas.{put_or_there}
use Rattle.fa_tree.proofs.kept.Kept.put_beside.Goals as goal

pub invariant_of-self : goal.invariant_of-self
invariant_of-self c =
    let more = sum_put size_of_listing nat_eq c.args.handle c.args.listing c.args.self.now.by_handle.entries in
    record { counted = rw (c.in-Ok.ensures.entries) (omega (arith, more, c.size-size.ensures, c.args.self.now.counted)) }

pub returns-in-Ok-clause-kept : goal.returns-in-Ok-clause-kept
returns-in-Ok-clause-kept c =
    put_or_there c.args.self.now.by_handle.entries c.args.self.now.by_handle.entries c.insert.new.self.entries c.args.handle c.args.listing
    c.in-Ok.ensures.updates.0 (λ other kept there. there)

pub returns-clause-kept : goal.returns-clause-kept
returns-clause-kept c = λ other kept found. inr (ap (lookup (nat_eq other)) (sym c.in-Err.ensures.err) ∙ found)
