use Rattle.fa_search.proofs.settling.is_given_by_placed.Goals as goal

pub returns-in-Some : goal.returns-in-Some
returns-in-Some c = λ told. let found = c.is_placed_giving.ensures told in (found.0, c.in-Some.name, found.1, found.2, found.3, c.in-Some.is)
