-- A file that a request made is there by its entry, or was there before the run.
use Rattle.std.proofs.Common.{◌≡◌, ℕ, List, [], ◌∷◌, Option, None, Some, refl, sym, ap, subst, ◌∙◌, inl, inr}
use Rattle.std.specs.Prelude.{Contains}
use Rattle.std.specs.FinMap.{get}
use Rattle.fa_capture.specs.Message.{Message}
use Rattle.fa_capture.proofs.CallerLemmas.{contains_first, contains_behind}
use Rattle.fa_tree.specs.declared.id.FileId.TheVariants as file_id
use Rattle.fa_tree.specs.declared.id.FileId.{FileId}
use Rattle.fa_tree.specs.State.{File, TreeState, IsFile, file_pair}
use Rattle.fa_tree.specs.Making.{HasMadeNone}
use Rattle.fa_tree.proofs.CallerLemmas.{step_makes_own}
use Rattle.fa_order.specs.declared.entry.Entry.{Entry}
use Rattle.fa_check.specs.Orders.{numbers}
use Rattle.fa_check.specs.Runs.{Runs}
use Rattle.fa_check.specs.Laws.{UnplacedMakesNone}

-- a file of a request that no entry names was there before
made_before : (c : List Message) (asked : ℕ) (es : List Entry) (first last : TreeState) → Runs first last c es → (Contains (numbers es) asked → ⊥)
    → IsFile last.store (file_id.Made asked) → IsFile first.store (file_id.Made asked)
made_before c asked [] first last run unplaced is = subst (λ (t : TreeState). IsFile t.store (file_id.Made asked)) run is
made_before c asked (e ∷ es) first last run unplaced is =
    let step = run.1 in
    let between : IsFile run.0.store (file_id.Made asked) = made_before c asked es run.0 last run.2 (λ has. unplaced (contains_behind e.at (numbers es) asked has)) is in
    elim (step_makes_own first run.0 step.call e.wrote step.so_far (file_id.Made asked) step.steps between) [
      | inl before ↦ before
      | inr own ↦
          let number : asked ≡ e.at = ap (λ (f : FileId). (file_pair f).1) own ∙ step.of_request.number in
          absurd (unplaced (subst (Contains (numbers (e ∷ es))) (sym number) (contains_first e.at (numbers es))))
    ]

pub unplaced_makes_none : UnplacedMakesNone
unplaced_makes_none c first last es asked none run unplaced = by (get last.store.files (file_id.Made asked)) refl
  where
    by : (found : Option File) → get last.store.files (file_id.Made asked) ≡ found → HasMadeNone last.store asked
    by None is = is
    by (Some file) is =
        let there = made_before c asked es first last run unplaced (file, is) in
        let clash : None ≡ Some there.0 = sym none ∙ there.1 in
        absurd cc
