use Rattle.std.proofs.Common.{is_some, refl, sym, ap}
use Rattle.fa_tree.specs.declared.files.CountedFile.{CountedFile}
use Rattle.fa_tree.specs.parts.CountParts.{one_link_less}
use Rattle.fa_tree.proofs.CountLemmas.{counts_changed, counts_there, known_written}
use Rattle.fa_tree.proofs.FileLemmas.{files_stay}
use Rattle.fa_tree.proofs.files.Files.remove_link.Goals as goal

pub returns-in-Some : goal.returns-in-Some
returns-in-Some c =
    let old = c.args.self.now.by_id.entries in
    let was : CountedFile = c.in-Some.entry.now in
    let now : CountedFile = record { file = was.file; counts = one_link_less was.counts } in
    let new = (c.get_mut.follows.lender now).entries in
    let wrote = (c.get_mut.follows.holds now).3 (ap is_some (sym c.in-Some.ensures.value)) in
    record {
      counts = counts_changed old new c.args.file now wrote.0 one_link_less (ap one_link_less (counts_there old c.args.file was c.in-Some.ensures.value));
      kept = known_written old new c.args.file now wrote.0;
      files = files_stay old new c.args.file was now (sym c.in-Some.ensures.value) refl wrote.0;
    }
