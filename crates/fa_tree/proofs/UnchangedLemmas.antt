-- Steps that leave the tree as it is: of what failed, and of what only reads, gives no node and opens no directory anew.
use Rattle.std.proofs.Common.{◌≡◌, ℕ, Bool, false, List, [], Option, ap, ◌∙◌, refl}
use Rattle.std.specs.Ordering.{nat_cmp}
use Rattle.std.specs.FinMap.{FinMap}
use Rattle.fa_bodies.specs.Dirents.{PlainDirent}
use Rattle.fa_ledger.specs.declared.name.NodeName.{NodeName}
use Rattle.fa_ledger.specs.declared.operation.Outcome.{Outcome}
use Rattle.fa_ledger.specs.declared.operation.Outcome.TheVariants.{Fails, Succeeds, Unanswered}
use Rattle.fa_ledger.specs.Calls.{PlainCall}
use Rattle.fa_ledger.specs.Kinds.{IsFailure, OnlyReads}
use Rattle.fa_ledger.specs.Operations.{PlainOperation, ended}
use Rattle.fa_tree.specs.declared.id.FileId.{FileId}
use Rattle.fa_tree.specs.State.{OpenDirectory, Store, TreeState, node_cmp}
use Rattle.fa_tree.specs.Resolved.{Resolved}
use Rattle.fa_tree.specs.Edits.{Edit, handles_after}
use Rattle.fa_tree.specs.Opening.{with_opened}
use Rattle.fa_tree.specs.Operations.{rule, changed, said, directory_opened, count_written}
use Rattle.fa_tree.specs.Bindings.{bound, nodes_after}
use Rattle.fa_tree.specs.Steps.{names_given, opens_anew, setting, tree_done, tree_by, Steps}
use Rattle.fa_tree.proofs.ChangeLemmas.{reading_changes_nothing, reading_edits_nothing}
use Rattle.fa_tree.proofs.ChangedLemmas.{stays_open}
use Rattle.fa_tree.proofs.PartLemmas.{none_opened}

-- a failure leaves the tree
failure_left : (t done : TreeState) (e : Outcome (Unit {0})) → IsFailure e → tree_by t done e ≡ t
failure_left t done (Fails error) fails = refl
failure_left t done other fails = absurd fails

-- and so does what leaves it where it is done
done_left : (t done : TreeState) (e : Outcome (Unit {0})) → done ≡ t → tree_by t done e ≡ t
done_left t done (Fails error) same = refl
done_left t done (Succeeds success) same = same
done_left t done Unanswered same = same

module _ (t : TreeState) (x : Resolved) (call : PlainCall) (o : PlainOperation) (count : ℕ) (reads : OnlyReads o) (gives : names_given call ≡ []) (opens : opens_anew call ≡ false) where
  -- what only reads, gives none and opens none leaves the tree where it is done
  reading_left : tree_done t x call o count ≡ t
  reading_left =
      let after : Store = changed t.store x call.truncates o count in
      let files : List (Option FileId) = (said (setting t.store x call o count []) o).files in
      let made : Store → FinMap node_cmp FileId → FinMap nat_cmp OpenDirectory → TreeState = λ store nodes handles. record { store = store; nodes = nodes; handles = handles } in
      let nodes : nodes_after (bound (names_given call) files) t.nodes ≡ t.nodes = ap (λ (names : List NodeName). nodes_after (bound names files) t.nodes) gives in
      let edited : FinMap nat_cmp OpenDirectory = handles_after (rule t.store x o).edits t.handles in
      let open_still : edited ≡ t.handles = ap (λ (es : List Edit). handles_after es t.handles) (reading_edits_nothing t.store x o reads) ∙ stays_open t.handles in
      let handles : with_opened after.names (directory_opened x o) call.asked (opens_anew call) edited ≡ t.handles =
      ap (λ (anew : Bool). with_opened after.names (directory_opened x o) call.asked anew edited) opens ∙ none_opened after.names (directory_opened x o) call.asked edited ∙ open_still in
      ap (λ (s : Store). made s (nodes_after (bound (names_given call) files) t.nodes) (with_opened after.names (directory_opened x o) call.asked (opens_anew call) edited))
      (reading_changes_nothing t.store x call.truncates o count reads)
      ∙ ap (λ (ns : FinMap node_cmp FileId). made t.store ns (with_opened after.names (directory_opened x o) call.asked (opens_anew call) edited)) nodes
      ∙ ap (λ (hs : FinMap nat_cmp OpenDirectory). made t.store t.nodes hs) handles

-- a step of what failed leaves the tree
pub step_failed_stays : (old new : TreeState) (call : PlainCall) (wrote : Option ℕ) (so_far : List PlainDirent) → IsFailure (ended call.operation) → Steps old new call wrote so_far → new ≡ old
step_failed_stays old new call wrote so_far fails s =
    s.after ∙ failure_left old (tree_done old s.files call call.operation (count_written call.operation wrote)) (ended call.operation) fails

-- a step of what only reads does, where it gives no node and opens no directory anew
pub step_read_stays : (old new : TreeState) (call : PlainCall) (wrote : Option ℕ) (so_far : List PlainDirent) → OnlyReads call.operation → names_given call ≡ [] → opens_anew call ≡ false
    → Steps old new call wrote so_far → new ≡ old
step_read_stays old new call wrote so_far reads gives opens s =
    let count : ℕ = count_written call.operation wrote in
    s.after ∙ done_left old (tree_done old s.files call call.operation count) (ended call.operation) (reading_left old s.files call call.operation count reads gives opens)
