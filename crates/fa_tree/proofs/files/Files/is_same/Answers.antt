use Rattle.fa_tree.specs.parts.FileIdLaws.{file_cmp_total, files_apart}
use Rattle.fa_tree.specs.parts.FileParts.{files_shown}
use Rattle.fa_tree.proofs.SameLemmas.{within_both}
use Rattle.fa_tree.proofs.files.Files.is_same.Goals as goal

pub returns-then-is_within : goal.returns-then-is_within
returns-then-is_within c = λ is.
    within_both file_cmp_total files_apart (files_shown c.args.self.now.by_id.entries) (files_shown c.args.other.now.by_id.entries) (c.is_within.ensures c.if-is_within.true) (c.is_within-then-is_within.ensures is)
