-- What requests mention: nodes, lookups of nodes, file handles; a line for each body.
use Rattle.std.specs.Prelude.{ℕ, ◌==◌, if◌then◌else◌, List, [], ◌∷◌, Option, Some, None}
use Rattle.fa_bodies.specs.declared.entry.EntryOut.{EntryOut}
use Rattle.fa_bodies.specs.FlagBits.{getattr_fh, fattr_fh}
use Rattle.fa_bodies.specs.Flags.{has_flag, getattr_bits, fattr_bits}
use Rattle.fa_bodies.specs.Items.{items_in}
use Rattle.fa_bodies.specs.Requests.{PlainBody}
use Rattle.fa_bodies.specs.Requests.PlainBody.{Lookup, Forget, Getattr, Setattr, Readlink, Symlink, Mknod, Mkdir, Unlink, Rmdir, Rename, Link, Open, Read, Write, Release, Flush, Init, Opendir, Readdir, Releasedir, Create, BatchForget, Readdirplus, Rename2, Passed}
use Rattle.fa_ledger.specs.declared.key.HandleKind.{HandleKind}
use Rattle.fa_ledger.specs.declared.key.HandleKind.TheVariants.{File, Directory}

-- What a request mentions, where its header has this node: the nodes that it names; what it takes back, which is nodes, each with how many
-- of its lookups, in their order; the file handle that it uses, if any; and, of a success that says an entry, the nodes that this gives.
pub record Mentions : Type 0 where
  pub names : (node : ℕ) → List ℕ
  pub takes : (node : ℕ) → List (ℕ × ℕ)
  pub uses : Option (ℕ × HandleKind)
  pub gives : EntryOut → List ℕ

-- ---- words for the table

-- nothing
abbrev pub nothing : Mentions
nothing = record { names = λ node. []; takes = λ node. []; uses = None; gives = λ entry. [] }

-- lookups to be taken back
abbrev pub lookups : (ℕ → List (ℕ × ℕ)) → Mentions
lookups takes = record { names = λ node. []; takes = takes; uses = None; gives = λ entry. [] }

-- the node of the header, and a file handle, if any
abbrev pub handle : Option (ℕ × HandleKind) → Mentions
handle uses = record { names = λ node. node ∷ []; takes = λ node. []; uses = uses; gives = λ entry. [] }

-- the node of the header, and those that the entry gives
abbrev pub entry_for : (EntryOut → List ℕ) → Mentions
entry_for gives = record { names = λ node. node ∷ []; takes = λ node. []; uses = None; gives = gives }

-- the node with this id, if any: 0 stands for none
abbrev pub node_with : ℕ → List ℕ
node_with nodeid = (if nodeid == 0 then [] else nodeid ∷ [])

-- the node that an entry gives, if any
abbrev pub node_of : EntryOut → List ℕ
node_of entry = node_with entry.nodeid

-- the node of the header, and another
abbrev pub two_nodes : ℕ → Mentions
two_nodes other = record { names = λ node. node ∷ other ∷ []; takes = λ node. []; uses = None; gives = λ entry. [] }

-- the node of an entry, whatever it is
abbrev pub node_made : EntryOut → List ℕ
node_made entry = entry.nodeid ∷ []

-- ---- the table

-- LOOKUP says by node id 0 that the name is not there; SYMLINK, MKNOD, MKDIR and LINK give whatever they say. CREATE and READDIRPLUS
-- give theirs by replies of other forms (`nodes_given`). RENAME and RENAME2 name the new directory too, and LINK the file. GETATTR and
-- SETATTR use a handle only where their flags say so. The items of a BATCH_FORGET are those that its bytes hold: a law of fa_bodies
-- says that `items_in` are the ones of `HoldsItems`. INIT and what is passed mention nothing (this profile).
abbrev pub mentions : PlainBody → Mentions
mentions (Lookup name) = entry_for node_of
mentions (Forget nlookup) = lookups (λ node. (node, nlookup) ∷ [])
mentions (Getattr g) = handle (if has_flag (getattr_bits g.getattr_flags) getattr_fh then Some (g.fh, File) else None)
mentions (Setattr s) = handle (if has_flag (fattr_bits s.valid) fattr_fh then Some (s.fh, File) else None)
mentions Readlink = handle None
mentions (Symlink name target) = entry_for node_made
mentions (Mknod mode rdev umask name) = entry_for node_made
mentions (Mkdir mode umask name) = entry_for node_made
mentions (Unlink name) = handle None
mentions (Rmdir name) = handle None
mentions (Rename newdir old_name new_name) = two_nodes newdir
mentions (Link oldnodeid new_name) = record { names = λ node. node ∷ oldnodeid ∷ []; takes = λ node. []; uses = None; gives = node_made }
mentions (Open o) = handle None
mentions (Read r) = handle (Some (r.fh, File))
mentions (Write fh offset size write_flags lock_owner flags payload) = handle (Some (fh, File))
mentions (Release r) = handle (Some (r.fh, File))
mentions (Flush f) = handle (Some (f.fh, File))
mentions (Init i) = nothing
mentions (Opendir o) = handle None
mentions (Readdir r) = handle (Some (r.fh, Directory))
mentions (Releasedir r) = handle (Some (r.fh, Directory))
mentions (Create flags mode umask name) = handle None
mentions (BatchForget count items) = lookups (λ node. items_in items)
mentions (Readdirplus r) = handle (Some (r.fh, Directory))
mentions (Rename2 newdir flags old_name new_name) = two_nodes newdir
mentions Passed = nothing
