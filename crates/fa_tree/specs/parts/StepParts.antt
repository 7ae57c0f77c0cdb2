-- What is judged of a call of which no error came.
use Rattle.std.specs.Prelude.{ℕ, List, [], ◌∷◌}
use Rattle.std.specs.FinMap.{FinMap}
use Rattle.fa_capture.specs.declared.codes.TheConstants.{SUCCESS_NOT_ALLOWED, ATTRIBUTES, NODE_ID_OF_ANOTHER, BYTES_READ}
use Rattle.fa_ledger.specs.Calls.{PlainCall}
use Rattle.fa_ledger.specs.Operations.{PlainOperation}
use Rattle.fa_tree.specs.declared.id.FileId.{FileId}
use Rattle.fa_tree.specs.State.{node_cmp}
use Rattle.fa_tree.specs.Bindings.{AreBound}
use Rattle.fa_tree.specs.Operations.{Setting, rule, said}
use Rattle.fa_tree.specs.Steps.{given_in}

-- the checks of an action that did not fail, in the order of their codes
abbrev pub done_checks : FinMap node_cmp FileId → Setting → PlainCall → PlainOperation → List (ℕ × Type 0)
done_checks nodes g call o =
    (SUCCESS_NOT_ALLOWED, (rule g.before g.files o).needs × (said g o).found)
    ∷ (ATTRIBUTES, (said g o).attributes)
    ∷ (NODE_ID_OF_ANOTHER, AreBound nodes (given_in g call o))
    ∷ (BYTES_READ, (said g o).bytes)
    ∷ []
