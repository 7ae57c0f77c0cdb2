-- What an operation makes of the store.
use Rattle.std.proofs.Common.{◌≡◌, ℕ, Bool, Option, Some, refl, sym, ap, subst, ◌∙◌}
use Rattle.std.proofs.lemmas.Option.{same_Some}
use Rattle.fa_bodies.specs.Requests.{PlainBody}
use Rattle.fa_bodies.specs.Replies.{PlainReply}
use Rattle.fa_ledger.specs.Operations.{PlainOperation, operation_of}
use Rattle.fa_ledger.specs.Operations.PlainAction.{Lookup, Getattr, Setattr, Readlink, Symlink, Mknod, Mkdir, Unlink, Rmdir, Rename, Rename2, Link, Open, Read, Write, Opendir, Create}
use Rattle.fa_ledger.specs.Operations.PlainOperation.{Lists, Acts}
use Rattle.fa_ledger.proofs.CallerLemmas.{lost, lost_made}
use Rattle.fa_tree.specs.State.{Store}
use Rattle.fa_tree.specs.Resolved.{Resolved}
use Rattle.fa_tree.specs.Edits.{names_after}
use Rattle.fa_tree.specs.Rules.{Rule, HasCause}
use Rattle.fa_tree.specs.Operations.{rule}
use Rattle.fa_tree.specs.Laws.{ReadingChangesNothing, ReadingEditsNothing, OutcomeChangesNothing}

-- neither names nor files are changed by one that reads
pub reading_changes_nothing : ReadingChangesNothing
reading_changes_nothing s x truncates (Lists l) count reads = refl
reading_changes_nothing s x truncates (Acts (Lookup name o)) count reads = refl
reading_changes_nothing s x truncates (Acts (Getattr o)) count reads = refl
reading_changes_nothing s x truncates (Acts (Readlink o)) count reads = refl
reading_changes_nothing s x truncates (Acts (Read offset size o)) count reads = refl
reading_changes_nothing s x truncates (Acts (Opendir o)) count reads = refl
reading_changes_nothing s x truncates other count reads = absurd reads

pub reading_edits_nothing : ReadingEditsNothing
reading_edits_nothing s x (Lists l) reads = refl
reading_edits_nothing s x (Acts (Lookup name o)) reads = refl
reading_edits_nothing s x (Acts (Getattr o)) reads = refl
reading_edits_nothing s x (Acts (Readlink o)) reads = refl
reading_edits_nothing s x (Acts (Read offset size o)) reads = refl
reading_edits_nothing s x (Acts (Opendir o)) reads = refl
reading_edits_nothing s x other reads = absurd reads

-- ---- the rule of an operation is that of its request, whatever came of it

pub lost_rule : (s : Store) (x : Resolved) (o : PlainOperation) → ◌≡◌ {A = Rule} (rule s x (lost o)) (rule s x o)
lost_rule s x (Lists l) = refl
lost_rule s x (Acts (Lookup name o)) = refl
lost_rule s x (Acts (Getattr o)) = refl
lost_rule s x (Acts (Setattr set o)) = refl
lost_rule s x (Acts (Readlink o)) = refl
lost_rule s x (Acts (Symlink name target o)) = refl
lost_rule s x (Acts (Mknod mode umask name o)) = refl
lost_rule s x (Acts (Mkdir mode umask name o)) = refl
lost_rule s x (Acts (Unlink name o)) = refl
lost_rule s x (Acts (Rmdir name o)) = refl
lost_rule s x (Acts (Rename old_name new_name o)) = refl
lost_rule s x (Acts (Rename2 flags old_name new_name o)) = refl
lost_rule s x (Acts (Link new_name o)) = refl
lost_rule s x (Acts (Open o)) = refl
lost_rule s x (Acts (Read offset size o)) = refl
lost_rule s x (Acts (Write offset size payload o)) = refl
lost_rule s x (Acts (Opendir o)) = refl
lost_rule s x (Acts (Create flags mode umask name o)) = refl

pub same_rule : (s : Store) (x : Resolved) (body : PlainBody) (one two : Option PlainReply) (o p : PlainOperation) → operation_of body one ≡ Some o → operation_of body two ≡ Some p
    → ◌≡◌ {A = Rule} (rule s x p) (rule s x o)
same_rule s x body one two o p is also =
    let asked : lost p ≡ lost o = same_Some (lost p) (lost o) (sym (lost_made body two p also) ∙ lost_made body one o is) in
    sym (lost_rule s x p) ∙ ap (rule s x) asked ∙ lost_rule s x o

-- the store that a rule leaves
abbrev store_by : Store → Rule → (truncates : Bool) → (count : ℕ) → Store
store_by s r truncates count = record { names = names_after r.edits s.names; files = r.files truncates count }

pub outcome_changes_nothing : OutcomeChangesNothing
outcome_changes_nothing s x body one two o p is also truncates count =
    let same = same_rule s x body one two o p is also in (
      ap (λ (r : Rule). store_by s r truncates count) same,
      (λ needs. subst (λ (r : Rule). r.needs) same needs, λ needs. subst (λ (r : Rule). r.needs) (sym same) needs),
      λ error. (λ caused. subst (λ (r : Rule). HasCause r error) same caused, λ caused. subst (λ (r : Rule). HasCause r error) (sym same) caused),
    )
