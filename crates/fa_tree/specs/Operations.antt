-- The operations together: the rule of each, and what its answer says. The words are on the pages of their families.
use Rattle.std.specs.Prelude.{ℕ, Bool, List, Option, Some, None}
use Rattle.std.specs.Option.{option_map_or}
use Rattle.fa_bodies.specs.Dirents.{PlainDirent}
use Rattle.fa_ledger.specs.declared.call.Listing.{Listing}
use Rattle.fa_ledger.specs.declared.operation.Outcome.TheVariants.{Succeeds}
use Rattle.fa_ledger.specs.Operations.{PlainAction, PlainOperation}
use Rattle.fa_ledger.specs.Operations.PlainAction.{Lookup, Getattr, Setattr, Readlink, Symlink, Mknod, Mkdir, Unlink, Rmdir, Rename, Rename2, Link, Open, Read, Write, Opendir, Create}
use Rattle.fa_ledger.specs.Operations.PlainOperation.{Lists, Acts}
use Rattle.fa_tree.specs.declared.id.FileId.{FileId}
use Rattle.fa_tree.specs.State.{Store}
use Rattle.fa_tree.specs.Resolved.{Resolved}
use Rattle.fa_tree.specs.Edits.{names_after}
use Rattle.fa_tree.specs.Rules.{Rule, Said, nothing_said}
use Rattle.fa_tree.specs.Contents.{read_rule, read_said, write_rule}
use Rattle.fa_tree.specs.Lookups.{lookup_rule, lookup_said, getattr_rule, setattr_rule, file_said, readlink_rule, readlink_said}
use Rattle.fa_tree.specs.Making.{new_symlink, new_node, new_directory, new_regular, making_rule, made_said, create_rule, create_said}
use Rattle.fa_tree.specs.Removing.{unlink_rule, rmdir_rule}
use Rattle.fa_tree.specs.Renaming.{rename_rule, rename2_rule}
use Rattle.fa_tree.specs.Linking.{link_rule}
use Rattle.fa_tree.specs.Opening.{open_rule, directory_rule}
use Rattle.fa_tree.specs.Directories.{list_said}

-- ---- rules

abbrev pub action_rule : Store → Resolved → PlainAction → Rule
action_rule s x (Lookup name o) = lookup_rule s x.node name
action_rule s x (Getattr o) = getattr_rule s x.node
action_rule s x (Setattr a o) = setattr_rule s x.node a
action_rule s x (Readlink o) = readlink_rule s x.node
action_rule s x (Symlink name target o) = making_rule s x.asked x.node name (new_symlink target)
action_rule s x (Mknod mode umask name o) = making_rule s x.asked x.node name (new_node mode umask)
action_rule s x (Mkdir mode umask name o) = making_rule s x.asked x.node name (new_directory mode umask)
action_rule s x (Unlink name o) = unlink_rule s x.node name
action_rule s x (Rmdir name o) = rmdir_rule s x.node name
action_rule s x (Rename old_name new_name o) = rename_rule s x.node old_name x.other new_name
action_rule s x (Rename2 flags old_name new_name o) = rename2_rule s x.node old_name flags x.other new_name
action_rule s x (Link new_name o) = link_rule s x.node new_name x.other
action_rule s x (Open o) = open_rule s x.node
action_rule s x (Read offset size o) = read_rule s x.node
action_rule s x (Write offset size payload o) = write_rule s x.node offset payload
action_rule s x (Opendir o) = directory_rule s x.node
action_rule s x (Create flags mode umask name o) = create_rule s x.asked x.node name flags (new_regular mode umask)

abbrev pub rule : Store → Resolved → PlainOperation → Rule
rule s x (Lists l) = directory_rule s x.node
rule s x (Acts a) = action_rule s x a

-- the store after a success, which empties a file that is there or not, and wrote so many bytes
abbrev pub changed : Store → Resolved → (truncates : Bool) → PlainOperation → (count : ℕ) → Store
changed s x truncates o count = record {
  names = names_after (rule s x o).edits s.names;
  files = (rule s x o).files truncates count;
}

-- ---- answers

-- what a success says, by the store that it was asked of and the one that it left; where a file handle is direct, bytes may be fewer
abbrev pub action_said : (before after : Store) → Resolved → (direct : Bool) → PlainAction → Said
action_said before after x direct (Lookup name o) = lookup_said before after x.node name o
action_said before after x direct (Getattr o) = file_said after x.node o
action_said before after x direct (Setattr set o) = file_said after x.node o
action_said before after x direct (Readlink o) = readlink_said after x.node o
action_said before after x direct (Symlink name target o) = made_said after x.node name o
action_said before after x direct (Mknod mode umask name o) = made_said after x.node name o
action_said before after x direct (Mkdir mode umask name o) = made_said after x.node name o
action_said before after x direct (Unlink name o) = nothing_said
action_said before after x direct (Rmdir name o) = nothing_said
action_said before after x direct (Rename old_name new_name o) = nothing_said
action_said before after x direct (Rename2 flags old_name new_name o) = nothing_said
action_said before after x direct (Link new_name o) = made_said after x.node new_name o
action_said before after x direct (Open o) = nothing_said
action_said before after x direct (Read offset size o) = read_said after x.node direct offset size o
action_said before after x direct (Write offset size payload o) = nothing_said
action_said before after x direct (Opendir o) = nothing_said
action_said before after x direct (Create flags mode umask name o) = create_said after x.node name o

-- What an operation is judged by: the store before it and after it, the files that it names, and of its call whether its file handle is
-- direct and what it goes on from, if it lists, and what was listed so far.
pub record Setting : Type 0 where
  pub before : Store
  pub after : Store
  pub files : Resolved
  pub direct : Bool
  pub listing : Option Listing
  pub so_far : List PlainDirent

abbrev pub said : Setting → PlainOperation → Said
said g (Lists l) = list_said g.after l.size g.files.handle g.listing g.so_far l.outcome
said g (Acts a) = action_said g.before g.after g.files g.direct a

-- ---- what a call adds to what its success says

-- the directory that a success opens, if it opens one
abbrev pub directory_opened : Resolved → PlainOperation → Option FileId
directory_opened x (Acts (Opendir o)) = Some x.node
directory_opened x other = None

-- how many bytes a WRITE wrote that did not fail: as its answer says, and as the order says where it has none
abbrev pub count_written : PlainOperation → (wrote : Option ℕ) → ℕ
count_written (Acts (Write offset size payload (Succeeds count))) wrote = count
count_written other wrote = option_map_or (λ count. count) wrote 0
