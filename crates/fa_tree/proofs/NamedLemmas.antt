-- What a step does to names of nodes and to open directories: what was known stays so, and each name that is given stands for its file.
use Rattle.std.proofs.Common.{◌≡◌, ℕ, zero, suc, Bool, true, false, cond, List, [], ◌∷◌, Option, Some, refl, sym, ap, subst, ◌∙◌, arith}
use Rattle.std.specs.Prelude.{Contains}
use Rattle.std.specs.Cmp.{tied_itself}
use Rattle.std.specs.Ordering.{eq_by_cmp, is_eq}
use Rattle.std.specs.FinMap.{FinMap, get, insert, get-insert}
use Rattle.std.proofs.lemmas.Option.{same_Some}
use Rattle.fa_capture.specs.Checks.{AllHold}
use Rattle.fa_capture.proofs.CallerLemmas.{contains_first, contains_behind}
use Rattle.fa_bodies.specs.Dirents.{PlainDirent}
use Rattle.fa_ledger.specs.declared.name.NodeName.{NodeName}
use Rattle.fa_ledger.specs.declared.operation.Outcome.{Outcome}
use Rattle.fa_ledger.specs.declared.operation.Outcome.TheVariants.{Fails, Succeeds, Unanswered}
use Rattle.fa_ledger.specs.Calls.{PlainCall}
use Rattle.fa_ledger.specs.Operations.{ended}
use Rattle.fa_tree.specs.declared.id.FileId.{FileId}
use Rattle.fa_tree.specs.State.{TreeState, node_cmp}
use Rattle.fa_tree.specs.Resolved.{Resolved}
use Rattle.fa_tree.specs.Operations.{count_written}
use Rattle.fa_tree.specs.Edits.{open_after}
use Rattle.fa_tree.specs.Bindings.{AreBound, nodes_after}
use Rattle.fa_tree.specs.Steps.{setting, given_in, operation_checks, checks_of_files, tree_done, tree_by, Steps}
use Rattle.fa_tree.specs.Laws.{WithoutEditsOpenStays, EachOpenByItself, NamesKeepFiles, GivenNamesStand}
use Rattle.fa_tree.proofs.NodeLemmas.{node_total, name_same}
use Rattle.fa_tree.proofs.NameLemmas.{get-each_open}
use Rattle.fa_tree.proofs.ChangedLemmas.{stays_open}
use Rattle.fa_tree.proofs.OutcomeLemmas.{errors_give_nothing, given_whatever}

-- ---- names of nodes

-- each name that some nodes have stands for the same file among others
abbrev pub NodesWithin : (part whole : FinMap node_cmp FileId) → Type 0
NodesWithin part whole = (name : NodeName) (file : FileId) → get part name ≡ Some file → get whole name ≡ Some file

-- a name that may be given leaves the others, and they may be given after it
module _ (one : NodeName × FileId) (given : List (NodeName × FileId)) (nodes : FinMap node_cmp FileId) (may : AreBound nodes (one ∷ given)) where
  one_within : NodesWithin nodes (insert nodes one.0 one.1)
  one_within name file is = by (eq_by_cmp node_cmp name one.0) refl (get-insert node_total nodes one.0 one.1 name)
    where
      by : (b : Bool) → eq_by_cmp node_cmp name one.0 ≡ b → get (insert nodes one.0 one.1) name ≡ cond b (Some one.1) (get nodes name) → get (insert nodes one.0 one.1) name ≡ Some file
      by true tie has =
          let own : name ≡ one.0 = name_same name one.0 tie in
          has ∙ ap (λ (n : FileId). Some n) (may.known one.0 one.1 file (contains_first one given) (subst (λ (k : NodeName). get nodes k ≡ Some file) own is))
      by false apart has = has ∙ is

  rest_bound : AreBound (insert nodes one.0 one.1) given
  rest_bound = record {
    known = λ name file other there is.
        elim (eq_by_cmp node_cmp name one.0) as (λ (b : Bool). eq_by_cmp node_cmp name one.0 ≡ b → get (insert nodes one.0 one.1) name ≡ cond b (Some one.1) (get nodes name) → file ≡ other) [
          | true ↦ λ tie has.
              let own : name ≡ one.0 = name_same name one.0 tie in
              let here : one.1 ≡ other = same_Some one.1 other (sym has ∙ is) in
              may.one one.0 file one.1 (contains_behind one given (one.0, file) (subst (λ (k : NodeName). Contains given (k, file)) own there)) (contains_first one given) ∙ here
          | false ↦ λ apart has. may.known name file other (contains_behind one given (name, file) there) (sym has ∙ is)
        ] refl (get-insert node_total nodes one.0 one.1 name);
    one = λ name file other there also. may.one name file other (contains_behind one given (name, file) there) (contains_behind one given (name, other) also);
  }

-- names that may be given leave what was known
pub nodes_grown : (given : List (NodeName × FileId)) (nodes : FinMap node_cmp FileId) → AreBound nodes given → NodesWithin nodes (nodes_after given nodes)
nodes_grown [] nodes may = λ name file is. is
nodes_grown (one ∷ given) nodes may =
    λ name file is. nodes_grown given (insert nodes one.0 one.1) (rest_bound one given nodes may) name file (one_within one given nodes may name file is)

-- a name that is given has its file
name_inserted : (nodes : FinMap node_cmp FileId) (name : NodeName) (file : FileId) → get (insert nodes name file) name ≡ Some file
name_inserted nodes name file = get-insert node_total nodes name file name ∙ ap (λ b. cond b (Some file) (get nodes name)) (ap is_eq (tied_itself node_total name))

-- each name that is given stands for its file
given_stands : (given : List (NodeName × FileId)) (nodes : FinMap node_cmp FileId) → AreBound nodes given → (name : NodeName) (file : FileId) → Contains given (name, file)
    → get (nodes_after given nodes) name ≡ Some file
given_stands [] nodes may name file has = absurd (omega (arith, has.1))
given_stands (one ∷ given) nodes may name file (zero, within, is) =
    let same : one ≡ (name, file) = is in
    nodes_grown given (insert nodes one.0 one.1) (rest_bound one given nodes may) name file
    (subst (λ (p : NodeName × FileId). get (insert nodes p.0 p.1) name ≡ Some file) (sym same) (name_inserted nodes name file))
given_stands (one ∷ given) nodes may name file (suc k, within, is) =
    given_stands given (insert nodes one.0 one.1) (rest_bound one given nodes may) name file (k, omega (arith, within), is)

-- ---- over a step

module _ (old new : TreeState) (call : PlainCall) (wrote : Option ℕ) (so_far : List PlainDirent) (s : Steps old new call wrote so_far) where
  -- the checks of its operation hold
  pub checks_hold : AllHold (operation_checks old.nodes (setting old.store s.files call call.operation (count_written call.operation wrote) so_far) call call.operation)
  checks_hold =
      let of_files : AllHold (checks_of_files old call call.operation (count_written call.operation wrote) so_far (Some s.files)) =
      subst (λ (files : Option Resolved). AllHold (checks_of_files old call call.operation (count_written call.operation wrote) so_far files)) s.named s.allowed in of_files.1

  -- the names that it gives, each with its file
  abbrev pub given : List (NodeName × FileId)
  given = given_in (setting old.store s.files call call.operation (count_written call.operation wrote) []) call call.operation

  -- they may be given
  pub may_be_given : AreBound old.nodes given
  may_be_given = subst (AreBound old.nodes) (given_whatever old.store s.files call call.operation (count_written call.operation wrote) so_far) checks_hold.1.1.1.0

  -- what was known stays so
  keeps : (e : Outcome (Unit {0})) → NodesWithin old.nodes (tree_by old (tree_done old s.files call call.operation (count_written call.operation wrote)) e).nodes
  keeps (Fails error) = λ name file is. is
  keeps (Succeeds success) =
      nodes_grown given old.nodes may_be_given
  keeps Unanswered =
      nodes_grown given old.nodes may_be_given

  step_keeps : NodesWithin old.nodes new.nodes
  step_keeps = subst (λ (t : TreeState). NodesWithin old.nodes t.nodes) (sym s.after) (keeps (ended call.operation))

pub names_keep_files : NamesKeepFiles
names_keep_files old new call wrote so_far name file s is = step_keeps old new call wrote so_far s name file is

-- where it did not fail, each name that is given stands for its file; an error gives none
pub given_names_stand : GivenNamesStand
given_names_stand old new call wrote so_far s name file has =
    subst (λ (t : TreeState). get t.nodes name ≡ Some file) (sym s.after) (by (ended call.operation) refl)
  where
    count : ℕ
    count = count_written call.operation wrote

    stands : get (tree_done old s.files call call.operation count).nodes name ≡ Some file
    stands =
        given_stands (given old new call wrote so_far s) old.nodes (may_be_given old new call wrote so_far s) name file
        (subst (λ (these : List (NodeName × FileId)). Contains these (name, file)) (given_whatever old.store s.files call call.operation count so_far) has)

    by : (e : Outcome (Unit {0})) → ended call.operation ≡ e → get (tree_by old (tree_done old s.files call call.operation count) e).nodes name ≡ Some file
    by (Fails error) fails =
        let none = errors_give_nothing (setting old.store s.files call call.operation count so_far) call call.operation error fails in
        let nowhere : Contains [] (name, file) = subst (λ (given : List (NodeName × FileId)). Contains given (name, file)) none has in
        absurd (omega (arith, nowhere.1))
    by (Succeeds success) is = stands
    by Unanswered is = stands

-- ---- open directories

pub without_edits_open_stays : WithoutEditsOpenStays
without_edits_open_stays handles = stays_open handles

pub each_open_by_itself : EachOpenByItself
each_open_by_itself edits handles asked = get-each_open (open_after edits) handles asked
