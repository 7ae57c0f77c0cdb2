use Rattle.fa_search.proofs.settling.code_from.Goals as goal

pub returns-in-Ok-clause-refused : goal.returns-in-Ok-clause-refused
returns-in-Ok-clause-refused c = λ m are none. absurd (none c.place.new.self.tree (c.in-Ok.ensures.placed m are).steps)

pub returns-in-Err-Refused-clause-refused : goal.returns-in-Err-Refused-clause-refused
returns-in-Err-Refused-clause-refused c = λ m are none. (let refused = rw c.in-Err-Refused.field-0-is at c.in-Err-Refused.ensures.refused in refused.1 m are)

pub returns-in-Ok-clause-still : goal.returns-in-Ok-clause-still
returns-in-Ok-clause-still c = λ m are none. absurd (none c.place.new.self.tree (c.in-Ok.ensures.placed m are).steps)

pub returns-in-Err-Refused-clause-still : goal.returns-in-Err-Refused-clause-still
returns-in-Err-Refused-clause-still c = λ m are none. (let refused = rw c.in-Err-Refused.field-0-is at c.in-Err-Refused.ensures.refused in refused.0)
