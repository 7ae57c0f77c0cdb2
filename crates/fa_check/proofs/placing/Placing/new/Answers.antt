use Rattle.std.proofs.Common.{◌≡◌, length, refl, subst}
use Rattle.fa_check.specs.Marks.{AreUnset}
use Rattle.fa_check.proofs.PlacingLemmas.{none_placed}
use Rattle.fa_check.proofs.VerdictLemmas.{none_replayed}
use Rattle.fa_check.proofs.placing.Placing.new.Goals as goal

pub returns : goal.returns
returns c = λ first.
    let list = c.args.calls.now.list in
    let long : c.len.result ≡ length list = c.len.ensures in
    let none = c.in_ok-unset.ensures in
    none_replayed c.args.calls.now first _
    (none_placed list c.args.calls.now.messages _
    (subst (λ n. AreUnset n c.in_ok-unset.field-0.items) long none)
    c.in_ok-all.ensures.wide c.in_ok-all.ensures.few c.in_ok-all.ensures.answers c.in_ok-all.ensures.front refl)
    (subst (λ n. AreUnset n c.in_ok-unset.field-0.items) long none)
