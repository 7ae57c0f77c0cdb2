-- What a call names, in the code's words.
use Rattle.std.specs.Prelude.{◌≡◌, Option, None, Some}
use Rattle.std.specs.FinMap.{get}
use Rattle.fa_ledger.specs.Operations.{PlainAction}
use Rattle.fa_ledger.specs.Operations.PlainAction.{Lookup, Symlink, Mknod, Mkdir, Unlink, Rmdir, Rename, Rename2, Link, Create}
use Rattle.fa_tree.specs.declared.id.FileId.{FileId}
use Rattle.fa_tree.specs.State.{Store, OpenDirectory}
use Rattle.fa_tree.specs.Resolved.{Resolved}
use Rattle.fa_tree.specs.declared.named.Named.{Named}
use Rattle.fa_tree.specs.declared.named.NamedDirectory.{NamedDirectory}
use Rattle.fa_tree.specs.parts.OpenParts.{open_of}

-- the request and the files that it names, with an open directory if it lists one
abbrev pub named_shown : Named → Option OpenDirectory → Resolved
named_shown n handle = record { asked = n.asked; node = n.node; other = n.other; handle = handle }

-- the same of a call that lists
abbrev pub directory_shown : NamedDirectory → Resolved
directory_shown at = named_shown at.named (Some (open_of at.names))

-- the file of the name that an action gives in this directory, of RENAME and RENAME2 of the old one, if it gives one and the name is
-- there
abbrev pub file_of_name : Store → (directory : FileId) → PlainAction → Option FileId
file_of_name s directory (Lookup name o) = get s.names (directory, name)
file_of_name s directory (Symlink name target o) = get s.names (directory, name)
file_of_name s directory (Mknod mode umask name o) = get s.names (directory, name)
file_of_name s directory (Mkdir mode umask name o) = get s.names (directory, name)
file_of_name s directory (Unlink name o) = get s.names (directory, name)
file_of_name s directory (Rmdir name o) = get s.names (directory, name)
file_of_name s directory (Rename old_name new_name o) = get s.names (directory, old_name)
file_of_name s directory (Rename2 flags old_name new_name o) = get s.names (directory, old_name)
file_of_name s directory (Link new_name o) = get s.names (directory, new_name)
file_of_name s directory (Create flags mode umask name o) = get s.names (directory, name)
file_of_name s directory other = None

-- what a call names has the file of the name that its action gives
abbrev pub HasFileOfName : Store → Named → PlainAction → Type 0
HasFileOfName s named action = named.file ≡ file_of_name s named.node action
