use Rattle.fa_tree.proofs.stored.Stored.is_typed_now.Goals as goal

pub returns : goal.returns
returns c = (λ told. record { typed = c.is_typed_if_looked_up.ensures.0 told }, λ is. c.is_typed_if_looked_up.ensures.1 is.typed)
