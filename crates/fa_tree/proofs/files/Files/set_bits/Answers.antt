use Rattle.std.proofs.Common.{is_some, refl, sym, ap}
use Rattle.fa_tree.specs.declared.files.CountedFile.{CountedFile}
use Rattle.fa_tree.specs.parts.CountParts.{counts_of}
use Rattle.fa_tree.specs.parts.FileParts.{with_bits}
use Rattle.fa_tree.proofs.CountLemmas.{counts_stay, counts_there}
use Rattle.fa_tree.proofs.FileLemmas.{files_changed, files_unchanged}
use Rattle.fa_tree.proofs.files.Files.set_bits.Goals as goal

pub returns-in-Some : goal.returns-in-Some
returns-in-Some c =
    let old = c.args.self.now.by_id.entries in
    let was : CountedFile = c.in-Some.entry.now in
    let now : CountedFile = record { file = record { kind = was.file.kind; bits = c.args.bits; contents = was.file.contents }; counts = was.counts } in
    let new = (c.get_mut.follows.lender now).entries in
    let wrote = (c.get_mut.follows.holds now).3 (ap is_some (sym c.in-Some.ensures.value)) in
    record {
      files = files_changed old new c.args.id was now (with_bits c.args.bits) (sym c.in-Some.ensures.value) refl wrote.0;
      counts = counts_stay old new c.args.id now wrote.0 (counts_there old c.args.id was c.in-Some.ensures.value);
    }

pub returns-in-None : goal.returns-in-None
returns-in-None c =
    rw (c.get_mut.follows.holds-at-none) (record {
      files = files_unchanged c.args.self.now.by_id.entries c.args.id (with_bits c.args.bits) (sym c.in-None.ensures.value);
      counts = λ of. refl;
    })
