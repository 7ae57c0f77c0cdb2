use Rattle.fa_tree.proofs.TallyLemmas.{told_before}
use Rattle.fa_tree.proofs.tally.Tally.reach.Goals as goal

pub returns : goal.returns
returns c = λ new times grown are. told_before c.args.self.now new (record { names = c.len.result; again = c.len-2.result }) c.len.ensures.len c.len-2.ensures.len grown times are
