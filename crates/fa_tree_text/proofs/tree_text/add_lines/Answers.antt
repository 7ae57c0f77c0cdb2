use Rattle.std.proofs.Common.{◌≡◌, length, Some, None, ap, arith}
use Rattle.std.specs.Prelude.{Result, Ok, Err, IfErr, IsErrAnd}
use Rattle.std.specs.Cmp.{unsigned_Decides}
use Rattle.std.proofs.lemmas.Slice.Eq.{strip_prefix_is}
use Rattle.fa_order.specs.declared.error.TextError.{TextError}
use Rattle.fa_order.specs.declared.error.TextError.TheVariants.{Line, Memory}
use Rattle.fa_tree_text.proofs.TreeLemmas.{so_far_first, so_far_more, fewer_left, text_read, tree_fault_next, tree_fault_on}
use Rattle.fa_tree_text.proofs.tree_text.add_lines.Goals as goal

pub loop-last_name-init : goal.loop-last_name-init
loop-last_name-init c =
    record { so_far = λ bytes bits begins. so_far_first bytes c.args.left.now bits c.args.tree.now begins; counted = omega arith; found = c.new-folders.ensures c.args.tree.now.store }

pub overflow_add-line : goal.overflow_add-line
overflow_add-line c = omega (arith, c.loop-last_name.invariant.counted, c.requires)

pub loop-last_name-preserved : goal.loop-last_name-preserved
loop-last_name-preserved c =
    let added = rw c.in-Some.is at c.in_ok-rest.ensures.added in
    let less = fewer_left c.loop-last_name.left.now c.in-Some.rest.now c.loop-last_name.tree c.add_line.new.tree added in
    record {
      so_far = λ bytes bits begins. so_far_more bytes c.loop-last_name.left.now c.in-Some.rest.now bits c.loop-last_name.line c.loop-last_name.tree c.add_line.new.tree (c.loop-last_name.invariant.so_far bytes bits begins) added;
      counted = omega (arith, less, c.loop-last_name.invariant.counted);
      found = c.in_ok-rest.ensures.kept;
    }

pub overflow_add-result : goal.overflow_add-result
overflow_add-result c = omega (arith, c.loop-last_name.invariant.counted, c.requires)

pub returns-in-None-clause-fault : goal.returns-in-None-clause-fault
returns-in-None-clause-fault c = λ bytes bits begins.
    let no_end = strip_prefix_is unsigned_Decides c.loop-last_name.left.now c.as_slice.result.now None c.in-None.ensures.cases in
    tree_fault_next bytes c.loop-last_name.left.now bits c.loop-last_name.line c.loop-last_name.tree (c.loop-last_name.invariant.so_far bytes bits begins) (rw c.in_default.is at c.in_ok-rest.ensures.none) (rw c.as_slice.ensures at no_end)

pub returns-in-Some-empty-clause-read : goal.returns-in-Some-empty-clause-read
returns-in-Some-empty-clause-read c = λ bytes bits begins.
    let end = strip_prefix_is unsigned_Decides c.loop-last_name.left.now c.as_slice.result.now (Some c.in-Some-empty.field-0) c.in-Some-empty.ensures.cases in
    text_read bytes c.loop-last_name.left.now c.in-Some-empty.field-0.now bits c.loop-last_name.line c.loop-last_name.tree c.add_line.new.tree (rw c.in_default.is at c.in_ok-rest.ensures.unchanged) (c.loop-last_name.invariant.so_far bytes bits begins) (rw c.as_slice.ensures at end) c.in-Some-empty.len_below

pub returns-clause-fault : goal.returns-clause-fault
returns-clause-fault c = λ bytes bits begins.
    let end = strip_prefix_is unsigned_Decides c.loop-last_name.left.now c.as_slice.result.now (Some c.in-Some-strip_prefix.field-0) c.in-Some-strip_prefix.ensures.cases in
    tree_fault_on bytes c.loop-last_name.left.now c.in-Some-strip_prefix.field-0.now bits c.loop-last_name.line c.loop-last_name.tree (c.loop-last_name.invariant.so_far bytes bits begins) (rw c.as_slice.ensures at end)
    (λ none. let short : length c.in-Some-strip_prefix.field-0.now ≡ 0 = ap length none in omega (arith, short, c.in-Some-strip_prefix.len_at_least))

-- want of memory says nothing of the bytes
memory_tells : {T : Type 0} (r : Result T TextError) (Such : TextError → Type 0) → Such Memory → IsErrAnd r (λ e. e ≡ Memory) → IfErr r Such
memory_tells (Ok x) Such told is = tt
memory_tells (Err (Line n)) Such told is = absurd (let clash : Line n ≡ Memory = is in cc)
memory_tells (Err Memory) Such told is = told

pub returns-in_err-rest-clause-fault : goal.returns-in_err-rest-clause-fault
returns-in_err-rest-clause-fault c = memory_tells c.from_residual.result _ (λ bytes bits begins. tt) c.from_residual.ensures.1
