use Rattle.std.proofs.Common.{◌≡◌, true, false, inl, inr, refl, sym, ap, subst, ◌∙◌}
use Rattle.fa_bodies.specs.Listing.{entries_left}
use Rattle.fa_tree.specs.Bindings.{AreBound, bound}
use Rattle.fa_tree.specs.Directories.{files_listed}
use Rattle.fa_tree.specs.parts.OpenParts.{open_of}
use Rattle.fa_tree.proofs.tree.Tree.judge_entries.Goals as goal

pub returns-then-not-branch-2-clause-refused : goal.returns-then-not-branch-2-clause-refused
returns-then-not-branch-2-clause-refused c = inr (
  c.if-not-may_list.ensures.0 refl,
  inr (
    c.if-not-types_fit.ensures.0 refl,
    inr (
      subst (AreBound c.args.self.now.nodes) (c.deref.ensures.value ∙ c.in_ok-nodes.ensures
          ∙ ap (λ names. bound names (files_listed c.args.self.now.store (open_of c.args.at.now.names).directory (entries_left c.args.entries))) c.names_given.ensures) (c.in_ok-may_bind_all.ensures.0 c.if-not-branch.false),
      inl (λ are. (let clash : false ≡ true = sym c.if-not-branch-2.true ∙ c.in_ok-entries_are.ensures.are.1 are in absurd cc), refl),
    ),
  ),
)
