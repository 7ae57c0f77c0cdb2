-- In the tree that the server began with no request has made a file.
use Rattle.std.proofs.Common.{None, Some, sym, subst}
use Rattle.fa_tree.specs.State.{TreeState}
use Rattle.fa_tree.specs.Making.{HasMadeNone}
use Rattle.fa_tree.proofs.CallerLemmas.{empty_made_none}
use Rattle.fa_tree_text.proofs.CallerLemmas.{text_made_none}
use Rattle.fa_audit.specs.declared.judge.TheConstants.{ROOT_BITS}
use Rattle.fa_audit.specs.Laws.{GivenTreeHasNoMadeFile}

pub given_tree_has_no_made_file : GivenTreeHasNoMadeFile
given_tree_has_no_made_file None first asked is = subst (λ (t : TreeState). HasMadeNone t.store asked) (sym is) (empty_made_none ROOT_BITS asked)
given_tree_has_no_made_file (Some text) first asked is = text_made_none text first asked is
