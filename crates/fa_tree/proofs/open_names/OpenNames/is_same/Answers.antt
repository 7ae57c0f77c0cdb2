use Rattle.std.proofs.Common.{◌≡◌, true, false, sym, ◌∙◌, rules, tests}
use Rattle.fa_tree.specs.parts.FileIdLaws.{same_equal}
use Rattle.fa_tree.proofs.SameLemmas.{open_same}
use Rattle.fa_tree.proofs.open_names.OpenNames.is_same.Goals as goal
use Rattle.fa_tree.proofs.open_names.OpenNames.is_same.Goals.{then-eq, else-eq}

pub returns-then-is_within : goal.returns-then-is_within
returns-then-is_within c = λ is.
    elim c.if-eq.branch [
      | then-eq w ↦
          let o = c.args.self.now in
          let k = c.args.other.now in
          let own = same_equal o.directory k.directory (search (rules, tests)) in
          open_same o.slots.now.table.entries k.slots.now.table.entries o.directory k.directory o.at k.at own
          (w.is_within.ensures (sym w.value-is ∙ c.if-is_within.true)) (c.is_within-then-is_within.ensures is)
      | else-eq w ↦ absurd (let clash : true ≡ false = sym c.if-is_within.true ∙ w.value-is ∙ w.if-eq.false in cc)
    ]
