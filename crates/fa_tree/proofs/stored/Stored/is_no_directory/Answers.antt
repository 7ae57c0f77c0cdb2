use Rattle.fa_tree.proofs.stored.Stored.is_no_directory.Goals as goal

pub returns-in-Rename : goal.returns-in-Rename
returns-in-Rename c = rw (c.in-Rename.is) (λ handle. c.is_no_place.ensures)
