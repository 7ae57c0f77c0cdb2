use Rattle.std.proofs.Common.{sym, ap, ◌∙◌}
use Rattle.std.specs.Option.{option_map}
use Rattle.fa_tree.specs.declared.files.CountedFile.{CountedFile}
use Rattle.fa_tree.specs.parts.FileParts.{file_shown}
use Rattle.fa_tree.proofs.CountLemmas.{lent_counts}
use Rattle.fa_tree.proofs.FileLemmas.{get_files, shown_copied}
use Rattle.fa_tree.proofs.files.Files.get.Goals as goal

pub returns : goal.returns
returns c = record {
  file = shown_copied c.get.result ∙ ap (option_map (λ (e : CountedFile). file_shown e.file)) c.get.ensures.value ∙ sym (get_files c.args.self.now.by_id.entries c.args.id);
  counts = lent_counts c.args.self.now.by_id.entries c.args.id c.get.result c.get.ensures.value;
}
