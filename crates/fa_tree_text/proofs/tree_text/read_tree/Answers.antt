use Rattle.std.proofs.Common.{◌≤◌, length, Some, sym, subst, arith}
use Rattle.std.specs.Cmp.{unsigned_Decides}
use Rattle.std.proofs.lemmas.Result.{err_from_is_err_and}
use Rattle.std.proofs.lemmas.Slice.Eq.{strip_prefix_is}
use Rattle.fa_tree_text.specs.Faults.{IsTreeFaultTold}
use Rattle.fa_tree_text.proofs.TreeLemmas.{left_within, begins_first, tree_fault_root}
use Rattle.fa_tree_text.proofs.tree_text.read_tree.Goals as goal

pub returns-in_default-read_root-clause-fault : goal.returns-in_default-read_root-clause-fault
returns-in_default-read_root-clause-fault c =
    let first = strip_prefix_is unsigned_Decides c.args.bytes.now c.as_slice.result.now (Some c.in-Some.left) c.in-Some.ensures.cases in
    tree_fault_root c.args.bytes.now c.in-Some.left.now (rw c.as_slice.ensures at first) c.in_default-read_root.ensures.none

pub add_lines-requires : goal.add_lines-requires
add_lines-requires c =
    let first = strip_prefix_is unsigned_Decides c.args.bytes.now c.as_slice.result.now (Some c.in-Some.left) c.in-Some.ensures.cases in
    let within : length c.in-Some-read_root.left.now ≤ length c.args.bytes.now =
    left_within c.args.bytes.now c.in-Some.left.now c.in-Some-read_root.left.now c.in-Some-read_root.bits (rw c.as_slice.ensures at first) c.in-Some-read_root.ensures.found in
    omega (arith, within, c.requires)

pub returns-in_err-add_lines-clause-fault : goal.returns-in_err-add_lines-clause-fault
returns-in_err-add_lines-clause-fault c =
    let first = strip_prefix_is unsigned_Decides c.args.bytes.now c.as_slice.result.now (Some c.in-Some.left) c.in-Some.ensures.cases in
    let begins = begins_first c.args.bytes.now c.in-Some.left.now c.in-Some-read_root.left.now c.in-Some-read_root.bits c.in_ok-tree.tree (rw c.as_slice.ensures at first) c.in-Some-read_root.ensures.found c.in-Some-read_root.ensures.in_range c.in_ok-tree.ensures in
    let told = err_from_is_err_and c.from_residual-in_err-add_lines.result c.from_residual-in_err-add_lines.ensures.1 in
    rw told.1 (subst (IsTreeFaultTold c.args.bytes.now) (sym told.2) (c.in_err-add_lines.ensures.fault c.args.bytes.now c.in-Some-read_root.bits begins))

pub returns-clause-found : goal.returns-clause-found
returns-clause-found c =
    let first = strip_prefix_is unsigned_Decides c.args.bytes.now c.as_slice.result.now (Some c.in-Some.left) c.in-Some.ensures.cases in
    let begins = begins_first c.args.bytes.now c.in-Some.left.now c.in-Some-read_root.left.now c.in-Some-read_root.bits c.in_ok-tree.tree (rw c.as_slice.ensures at first) c.in-Some-read_root.ensures.found c.in-Some-read_root.ensures.in_range c.in_ok-tree.ensures in
    c.in_ok-add_lines.ensures.read c.args.bytes.now c.in-Some-read_root.bits begins
