use Rattle.fa_tree.proofs.replay.Replay.take_kept.Goals as goal

pub invariant_of-self : goal.invariant_of-self
invariant_of-self c = λ handle kept found. c.self.invariant handle kept (c.take.ensures.left handle kept found)
