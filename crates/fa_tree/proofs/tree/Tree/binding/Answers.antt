use Rattle.std.proofs.Common.{None, List, Option, sym, ap, subst, ◌∙◌, slice_get}
use Rattle.std.specs.Option.{option_copied}
use Rattle.fa_ledger.specs.Calls.{call_shown}
use Rattle.fa_ledger.specs.Operations.{action_shown}
use Rattle.fa_ledger.specs.Operations.PlainOperation.{Acts}
use Rattle.fa_ledger.specs.declared.name.NodeName.{NodeName}
use Rattle.fa_tree.specs.declared.id.FileId.{FileId}
use Rattle.fa_tree.specs.Operations.{said}
use Rattle.fa_tree.specs.Steps.{names_given, setting}
use Rattle.fa_tree.specs.parts.FactParts.{AreFilesGiven}
use Rattle.fa_tree.specs.parts.NamedParts.{named_shown}
use Rattle.fa_tree.specs.parts.TreeView.{tree_shown}
use Rattle.fa_tree.proofs.BindingLemmas.{still_told, given_in_vain, given_no_name, given_for_one}
use Rattle.fa_tree.proofs.tree.Tree.binding.Goals as goal

pub returns-in_err-file : goal.returns-in_err-file
returns-in_err-file c = rw (c.from_residual.ensures) (λ count so_far may.
    let x = named_shown c.args.named.now None in
    let call = call_shown c.args.call.now in
    let a = action_shown c.args.action.now in
    let files : List (Option FileId) = (said (setting c.args.self.now.store x call (Acts a) count so_far) (Acts a)).files in
    let told = still_told (tree_shown c.self.inside) c.args.self.now c.self.view_is x call.truncates call.direct a count c.file_given.result
    (c.file_given.ensures None call.truncates call.direct count) may in
    given_in_vain (names_given call) files (subst (AreFilesGiven files) c.in_err-file.was told))

pub returns-in-None : goal.returns-in-None
returns-in-None c = λ count so_far may.
    let call = call_shown c.args.call.now in
    let a = action_shown c.args.action.now in
    let at : List NodeName → Option NodeName = λ names. slice_get names 0 in
    given_no_name (names_given call) (said (setting c.args.self.now.store (named_shown c.args.named.now None) call (Acts a) count so_far) (Acts a)).files
    (sym (ap at c.names_given.ensures) ∙ sym c.first.ensures.value ∙ ap option_copied c.in-None.is)

pub returns-in-Some : goal.returns-in-Some
returns-in-Some c = λ count so_far may.
    let x = named_shown c.args.named.now None in
    let call = call_shown c.args.call.now in
    let a = action_shown c.args.action.now in
    let files : List (Option FileId) = (said (setting c.args.self.now.store x call (Acts a) count so_far) (Acts a)).files in
    let told = still_told (tree_shown c.self.inside) c.args.self.now c.self.view_is x call.truncates call.direct a count c.file_given.result
    (c.file_given.ensures None call.truncates call.direct count) may in
    let at : List NodeName → Option NodeName = λ names. slice_get names 0 in
    given_for_one (names_given call) files c.in-Some.name.now c.in_ok-file.file (subst (AreFilesGiven files) c.in_ok-file.was told)
    (sym (ap at c.names_given.ensures) ∙ sym c.in-Some.ensures.value)
