use Rattle.std.proofs.Common.{◌≡◌, Some, rules, tests}
use Rattle.std.specs.FinMap as map
use Rattle.std.proofs.lemmas.Iterator.{cases_from_all}
use Rattle.std.proofs.lemmas.Iterator.Consumers.{YieldsList-from_rest}
use Rattle.fa_tree.specs.declared.files.CountedFile.{CountedFile}
use Rattle.fa_tree.specs.declared.id.FileId.{FileId}
use Rattle.fa_tree.specs.parts.FileParts.{file_shown, files_shown}
use Rattle.fa_store.proofs.CallerLemmas.{walked}
use Rattle.fa_tree.proofs.SameLemmas.{files_within}
use Rattle.fa_tree.proofs.files.Files.is_within.Goals as goal

pub returns : goal.returns
returns c = λ is.
    let table = c.args.self.now.by_id.entries in
    let others = files_shown c.args.other.now.by_id.entries in
    let there : FileId × CountedFile → Type 0 = λ e. map.get others e.0 ≡ Some (file_shown e.1.file) in
    files_within table others
    (walked c.all.result there table _ is
    (cases_from_all _ _ c.all.result there (λ e. Unit {0}) c.all.ensures.ran (YieldsList-from_rest table c.iter.ensures.rest)
    (λ x q k. search (rules, tests)) (λ x q k. tt)))
