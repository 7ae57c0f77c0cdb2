use Rattle.std.proofs.Common.{◌≡◌, ◌-◌, ◌<◌, ◌^◌, length, subst, sym, arith}
use Rattle.fa_check.specs.Verdicts.{IsLegalWith}
use Rattle.fa_check.proofs.GoodLemmas.{few_calls}
use Rattle.fa_check.proofs.MarkLemmas.{count_within}
use Rattle.fa_check.proofs.EndLemmas.{left_out, all_placed}
use Rattle.fa_check.proofs.placing.Placing.verdict.Goals as goal

pub overflow_cast-result : goal.overflow_cast-result
overflow_cast-result c =
    let list = c.args.calls.now.list in
    let few = few_calls list c.args.calls.now.messages c.args.calls.now.good in
    let long : c.len.result ≡ length list = c.len.ensures in
    let below : c.args.calls.now.messages < 2 ^ 32 = c.requires.few in
    omega (arith, few, long, below)

pub overflow_sub-result : goal.overflow_sub-result
overflow_sub-result c =
    let list = c.args.calls.now.list in
    let within = count_within c.args.self.now.marks.items in
    let long : c.len.result ≡ length list = c.len.ensures in
    omega (arith, within, c.requires.sized, c.requires.counted, long)

pub returns-in-Some : goal.returns-in-Some
returns-in-Some c = λ first last es so_far messages is. left_out c.args.calls.now first last es c.args.self.now so_far messages is c.in-Some.at c.in-Some.ensures

pub returns-in-None : goal.returns-in-None
returns-in-None c = λ first last es so_far messages is.
    let list = c.args.calls.now.list in
    let long : c.len.result ≡ length list = c.len.ensures in
    subst (λ n. IsLegalWith messages first es c.args.calls.now.messages c.args.self.now.count (n - c.args.self.now.count)) (sym long)
    (all_placed c.args.calls.now first last es c.args.self.now so_far messages is c.in-None.ensures)
