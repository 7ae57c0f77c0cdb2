use Rattle.std.proofs.Common.{is_some, refl, sym, ap}
use Rattle.std.proofs.lemmas.Result.{on_ok_weaker, on_err_weaker}
use Rattle.fa_store.specs.Contents.{resized}
use Rattle.fa_tree.specs.declared.files.CountedFile.{CountedFile}
use Rattle.fa_tree.specs.parts.FileParts.{with_bytes}
use Rattle.fa_tree.proofs.CountLemmas.{counts_stay, counts_there}
use Rattle.fa_tree.proofs.FileLemmas.{bytes_changed, files_unchanged, files_kept, with_contents}
use Rattle.fa_tree.proofs.files.Files.resize.Goals as goal

pub returns-in-Some : goal.returns-in-Some
returns-in-Some c =
    let old = c.args.self.now.by_id.entries in
    let was : CountedFile = c.in-Some.entry.now in
    let now : CountedFile = with_contents was c.resize.new.self in
    let new = (c.get_mut.follows.lender now).entries in
    let wrote = (c.get_mut.follows.holds now).3 (ap is_some (sym c.in-Some.ensures.value)) in
    record {
      resized = on_ok_weaker c.resize.result (λ same. bytes_changed old new c.args.id was c.resize.new.self (λ bytes. resized bytes c.args.size) (sym c.in-Some.ensures.value) same wrote.0) c.resize.ensures.resized;
      unchanged = on_err_weaker c.resize.result (λ same. files_kept old new c.args.id was c.resize.new.self (sym c.in-Some.ensures.value) same wrote.0) c.resize.ensures.unchanged;
      counts = counts_stay old new c.args.id now wrote.0 (counts_there old c.args.id was c.in-Some.ensures.value);
    }

pub returns-in-None : goal.returns-in-None
returns-in-None c =
    rw (c.get_mut.follows.holds-at-none) (record {
      resized = files_unchanged c.args.self.now.by_id.entries c.args.id (with_bytes (λ bytes. resized bytes c.args.size)) (sym c.in-None.ensures.value);
      unchanged = tt;
      counts = λ of. refl;
    })
