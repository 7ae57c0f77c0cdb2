use Rattle.std.proofs.Common.{◌≡◌, ℕ, ◌<◌, ◌∷◌, [], Bool, true, false, length, refl, sym, ap, ◌∙◌, inl, arith}
use Rattle.std.specs.Prelude.{not}
use Rattle.std.specs.FinMap.{get}
use Rattle.fa_tree.specs.Edits.Edit.{Added, Removed}
use Rattle.fa_tree.specs.parts.FileIdLaws.{file_ties}
use Rattle.fa_tree.specs.parts.NameParts.{edited}
use Rattle.fa_tree.proofs.BirthLemmas.{put_again, opened_kept}
use Rattle.fa_tree.proofs.EditedLemmas.{edited_exchanged, edited_of_one}
use Rattle.fa_tree.proofs.ExchangeLemmas.{shown_exchanged, within_exchanged}
use Rattle.fa_tree.proofs.names.Names.exchange.Goals as goal

differs : (b : Bool) → true ≡ not b → b ≡ false
differs true is = absurd cc
differs false is = refl

is_one : (b : Bool) → false ≡ not b → b ≡ true
is_one true is = refl
is_one false is = absurd cc

pub invariant_of-self : goal.invariant_of-self
invariant_of-self c =
    let there = ap (λ n. get n.names (c.args.old_directory, c.args.old_name.now)) c.self.view_is ∙ c.requires.there in
    let also = ap (λ n. get n.names (c.args.new_directory, c.args.new_name.now)) c.self.view_is ∙ c.requires.also in (
      within_exchanged c.self.inside.slots.table.entries c.replace.new.self.table.entries c.replace-then-ne.new.self.table.entries c.args.old_directory c.args.old_name.now c.args.new_directory c.args.new_name.now c.args.file c.args.other c.len-born.result
          there also c.replace.ensures.put c.replace-then-ne.ensures.put _ c.len-born.ensures c.self.invariant.0,
      (let old = c.self.inside.slots in
          let between = c.replace.new.self in
          let new = c.replace-then-ne.new.self in
          let later : (at : ℕ) → at < length c.self.inside.openings → at < c.len-born.result = λ at less. (let count = c.len-born.ensures in omega (arith, less, count)) in
          opened_kept between.table.entries new.table.entries between.members.table.entries new.members.table.entries (c.args.new_directory, c.args.new_name.now) _ (inl c.replace-then-ne.ensures.places) c.replace-then-ne.ensures.put
          c.self.inside.openings (λ at less slot. put_again at c.len-born.result c.args.file (later at less) slot)
          (opened_kept old.table.entries between.table.entries old.members.table.entries between.members.table.entries (c.args.old_directory, c.args.old_name.now) _ (inl c.replace.ensures.places) c.replace.ensures.put
          c.self.inside.openings (λ at less slot. put_again at c.len-born.result c.args.other (later at less) slot) c.self.invariant.1)),
    )

pub returns-then-ne : goal.returns-then-ne
returns-then-ne c =
    let there = ap (λ n. get n.names (c.args.old_directory, c.args.old_name.now)) c.self.view_is ∙ c.requires.there in
    let also = ap (λ n. get n.names (c.args.new_directory, c.args.new_name.now)) c.self.view_is ∙ c.requires.also in
    shown_exchanged c.self.inside.slots.table.entries c.replace.new.self.table.entries c.replace-then-ne.new.self.table.entries c.args.old_directory c.args.old_name.now c.args.new_directory c.args.new_name.now c.args.file c.args.other c.len-born.result
    there also c.replace.ensures.put c.replace-then-ne.ensures.put
    c.self.inside.openings (sym c.len-born.ensures)
    ∙ ap (λ n. edited (Removed c.args.new_directory c.args.new_name.now ∷ Added c.args.new_directory c.args.new_name.now c.args.file ∷ []) (edited (Removed c.args.old_directory c.args.old_name.now ∷ Added c.args.old_directory c.args.old_name.now c.args.other ∷ []) n)) c.self.view_is
    ∙ edited_exchanged c.args.self.now c.args.old_directory c.args.old_name.now c.args.new_directory c.args.new_name.now c.args.file c.args.other (file_ties c.args.other c.args.file ∙ differs _ c.if-ne.ensures)

pub returns-else-ne : goal.returns-else-ne
returns-else-ne c =
    edited_of_one c.args.self.now c.args.old_directory c.args.old_name.now c.args.new_directory c.args.new_name.now c.args.file c.args.other
    (file_ties c.args.other c.args.file ∙ is_one _ c.if-ne.ensures)
