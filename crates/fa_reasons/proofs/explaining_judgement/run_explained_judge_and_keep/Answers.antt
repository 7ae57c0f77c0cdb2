use Rattle.fa_reasons.proofs.explaining_judgement.run_explained_judge_and_keep.Goals as goal

pub returns-in-Some-clause-end : goal.returns-in-Some-clause-end
returns-in-Some-clause-end g c = rw c.in-Some.is c.keep_on_tree.ensures.end

pub returns-in-Some-clause-capture_first : goal.returns-in-Some-clause-capture_first
returns-in-Some-clause-capture_first g c = rw c.in-Some.is c.keep_on_tree.ensures.capture_first

pub returns-in-Some-clause-read : goal.returns-in-Some-clause-read
returns-in-Some-clause-read g c = rw c.in-Some.is c.keep_on_tree.ensures.read

pub returns-in-Some-clause-failed : goal.returns-in-Some-clause-failed
returns-in-Some-clause-failed g c = rw c.in-Some.is c.keep_on_tree.ensures.failed
