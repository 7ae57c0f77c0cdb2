use Rattle.std.proofs.Common.{refl, sym, ap, ◌∙◌}
use Rattle.std.specs.BTreeMap.{insert_entry}
use Rattle.fa_propose.specs.parts.Candidates.{cmp}
use Rattle.fa_propose.proofs.FirstLemmas.{inserted_alone, inserted_before, shown_before, inserted_behind}
use Rattle.fa_propose.proofs.candidates.Candidates.insert.Goals as goal

pub invariant_of-self : goal.invariant_of-self
invariant_of-self c = inserted_alone c.self.inside c.self.invariant c.args.rank c.args.entry _ c.in_default.is refl refl

pub invariant_of-self-in-Less : goal.invariant_of-self-in-Less
invariant_of-self-in-Less c =
    inserted_before c.self.inside c.self.invariant c.args.rank c.args.entry _ c.in-Some.first c.in-Some.is (sym c.cmp.ensures ∙ c.in-Less.is) refl c.in_ok-insert_other-in-Less.ensures.entries

pub invariant_of-self-in-Greater : goal.invariant_of-self-in-Greater
invariant_of-self-in-Greater c =
    inserted_behind c.self.inside c.self.invariant c.args.rank c.args.entry _ c.in-Some.first c.in-Some.is (sym c.cmp.ensures ∙ c.in-Greater.is) refl
    c.in_ok-insert_other-in-Greater.ensures.entries

pub returns-in_ok-insert_other-in-Less-clause-inserted : goal.returns-in_ok-insert_other-in-Less-clause-inserted
returns-in_ok-insert_other-in-Less-clause-inserted c =
    shown_before c.self.inside c.self.invariant c.args.rank c.args.entry c.in-Some.first c.in-Some.is (sym c.cmp.ensures ∙ c.in-Less.is) c.insert_other.new.others
    c.in_ok-insert_other-in-Less.ensures.entries ∙ ap (λ es. insert_entry cmp es c.args.rank c.args.entry) c.self.view_is
