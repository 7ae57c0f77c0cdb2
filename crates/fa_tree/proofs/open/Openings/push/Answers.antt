use Rattle.std.proofs.Common.{◌≡◌, length, subst, sym, ap, ◌∙◌, Some, cond, nat_eq, arith}
use Rattle.std.specs.Map.{lookup}
use Rattle.fa_ledger.proofs.CallerLemmas.{wrote_ok}
use Rattle.fa_tree.specs.parts.OpenParts.{AreLast}
use Rattle.fa_tree.proofs.OpenLemmas.{last_push}
use Rattle.fa_tree.proofs.open.Openings.push.Goals as goal

pub invariant_of-self-2 : goal.invariant_of-self-2
invariant_of-self-2 c =
    let openings = c.self.inside.list.items in
    let places = c.reserve.new.self.entries in
    let wrote = (wrote_ok c.insert.result _ c.unwrap.result c.unwrap.ensures c.insert.ensures.updates).0 in
    let count : c.len-at.result ≡ length openings = omega arith in
    subst (AreLast c.insert.new.self.entries) (sym c.in_ok-push.ensures.items)
    (last_push openings c.args.opening places c.insert.new.self.entries
    (subst (λ es. AreLast es openings) (sym c.in_ok-reserve.ensures.entries) c.self.invariant)
    (λ q. wrote q ∙ ap (λ n. cond (nat_eq c.args.opening.asked q) (Some n) (lookup (nat_eq q) places)) count))
