use Rattle.std.proofs.Common.{sym, subst}
use Rattle.fa_ledger.specs.declared.calls.Calls.{Calls}
use Rattle.fa_tree.specs.parts.ReplayParts.{IsKept}
use Rattle.fa_tree.proofs.ReplayLemmas.{told_put}
use Rattle.fa_tree.proofs.replay.Replay.keep.Goals as goal

pub invariant_of-self : goal.invariant_of-self
invariant_of-self c =
    told_put c.self.inside.calls.now c.self.inside.so_far.by_handle.entries c.put.new.self.by_handle.entries c.in-Some.handle c.args.listing c.put.ensures.kept
    (subst (λ (calls : Calls). IsKept calls c.args.listing) (sym c.self.view_is) c.requires) c.self.invariant

pub invariant_of-self-else-is_some : goal.invariant_of-self-else-is_some
invariant_of-self-else-is_some c =
    told_put c.self.inside.calls.now c.self.inside.so_far.by_handle.entries c.put_beside.new.self.by_handle.entries c.in-Some.handle c.args.listing c.put_beside.ensures.kept
    (subst (λ (calls : Calls). IsKept calls c.args.listing) (sym c.self.view_is) c.requires) c.self.invariant
