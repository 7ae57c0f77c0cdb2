use Rattle.std.proofs.Common.{◌≡◌, ap, ◌∙◌, refl, arith}
use Rattle.fa_tree.specs.declared.files.Counts.{Counts}
use Rattle.fa_tree.specs.State.{links}
use Rattle.fa_tree.specs.parts.FileParts.{file_shown}
use Rattle.fa_tree.specs.parts.StoredParts.{StoredShown}
use Rattle.fa_tree.specs.parts.StoredView.{stored_shown}
use Rattle.fa_tree.proofs.JudgingLemmas.{file_there}
use Rattle.fa_tree.proofs.stored.Stored.facts.Goals as goal

pub returns-in-Some-clause-of : goal.returns-in-Some-clause-of
returns-in-Some-clause-of c = record {
  file = file_shown c.in-Some.there.now.file;
  there = file_there (stored_shown c.self.inside) c.args.self.now c.args.file (file_shown c.in-Some.there.now.file) c.self.view_is c.in-Some.ensures.file;
  kind = refl;
  bits = refl;
  size = c.len.ensures;
  names =
      (let told : c.in-Some.there.now.counts.links ≡ links c.args.self.now.store c.args.file =
      ap (λ (n : Counts). n.links) c.in-Some.ensures.counts ∙ c.self.invariant.3.links c.args.file ∙ ap (λ (t : StoredShown). links t.store c.args.file) c.self.view_is in
      omega (arith, told));
}
