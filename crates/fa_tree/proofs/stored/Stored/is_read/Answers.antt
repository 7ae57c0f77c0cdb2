use Rattle.fa_tree.specs.State.{File}
use Rattle.fa_store.specs.Contents.{IsReadAs, readable}
use Rattle.fa_tree.specs.parts.FileParts.{file_shown}
use Rattle.fa_tree.specs.parts.StoredView.{stored_shown}
use Rattle.fa_tree.proofs.JudgingLemmas.{file_there, of_this}
use Rattle.fa_tree.proofs.stored.Stored.is_read.Goals as goal

pub returns-in-Some : goal.returns-in-Some
returns-in-Some c =
    let file : File = file_shown c.in-Some.there.now.file in
    of_this c.args.self.now.store.files c.args.file file (λ f. IsReadAs c.args.direct (readable f.bytes c.args.offset c.args.size) c.args.given.now) c.is_read.result
    (file_there (stored_shown c.self.inside) c.args.self.now c.args.file file c.self.view_is c.in-Some.ensures.file) c.is_read.ensures
