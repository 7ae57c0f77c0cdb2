use Rattle.std.proofs.Common.{◌≡◌, rules, subst, sym}
use Rattle.fa_tree.specs.State.{IsDirectory, root}
use Rattle.fa_tree.proofs.stored.Stored.is_directory.Goals as goal

pub returns-then-eq : goal.returns-then-eq
returns-then-eq c =
    let is : c.args.file ≡ root = search rules in
    let there : IsDirectory c.args.self.now.store root = subst (λ shown. IsDirectory shown.store root) c.self.view_is c.self.invariant.0.root_is_one in
    (λ _. subst (IsDirectory c.args.self.now.store) (sym is) there, λ _. c.if-eq.true)
