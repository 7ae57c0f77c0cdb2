use Rattle.std.proofs.Common.{refl}
use Rattle.std.specs.Option.{option_copied}
use Rattle.fa_tree_text.proofs.AdditionLemmas.{file_line, name_line, no_fields}
use Rattle.fa_tree_text.proofs.additions.add_fields.Goals as goal

pub returns-in-Some-File-clause-added : goal.returns-in-Some-File-clause-added
returns-in-Some-File-clause-added c =
    file_line c.add_file.result c.args.tree.now _ c.in-Some-File.file.kind c.in-Some-File.file.bits c.in-Some-File.file.path.now (option_copied c.in-Some-File.file.body) c.args.line.now
    (rw c.in-Some-File.field-0-is at c.in-Some-File.ensures.found) c.add_file.ensures.added

pub returns-in-Some-Name-clause-added : goal.returns-in-Some-Name-clause-added
returns-in-Some-Name-clause-added c =
    name_line c.add_name.result c.args.tree.now _ c.in-Some-Name.name.path.now c.in-Some-Name.name.older.now c.args.line.now (rw c.in-Some-Name.field-0-is at c.in-Some-Name.ensures.found) c.add_name.ensures.added

pub returns-in-None-clause-added : goal.returns-in-None-clause-added
returns-in-None-clause-added c = (no_fields c.args.tree.now c.args.line.now c.in-None.ensures.no_file c.in-None.ensures.no_name, refl)
