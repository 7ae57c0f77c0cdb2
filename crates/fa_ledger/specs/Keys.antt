-- Keys of file handles: a number of a handle (`fh` of struct fuse_open_out of fuse.h) counts under the name of its node, and
-- for files and directories apart (this profile). And which key a request uses.
use Rattle.std.specs.Prelude.{ℕ, ◌==◌, Bool, true, false, ◌&&◌, List, Option, option_map, option_and_then}
use Rattle.fa_bodies.specs.Requests.{PlainRequest, PlainBody}
use Rattle.fa_session.specs.Events.{PlainEvent}
use Rattle.fa_ledger.specs.declared.key.HandleKind.{HandleKind}
use Rattle.fa_ledger.specs.declared.key.HandleKind.TheVariants.{File, Directory}
use Rattle.fa_ledger.specs.declared.key.Key.{Key}
use Rattle.fa_ledger.specs.declared.name.NodeName.{NodeName}
use Rattle.fa_ledger.specs.declared.name.NodeName.TheVariants.{Root, Given}
use Rattle.fa_ledger.specs.Mentions.{mentions}
use Rattle.fa_ledger.specs.Names.{name_at}

-- ---- keys

abbrev pub name_eq : NodeName → NodeName → Bool
name_eq Root Root = true
name_eq Root (Given by id) = false
name_eq (Given by id) Root = false
name_eq (Given by id) (Given since other) = by == since && id == other

abbrev pub kind_eq : HandleKind → HandleKind → Bool
kind_eq File File = true
kind_eq File Directory = false
kind_eq Directory File = false
kind_eq Directory Directory = true

abbrev pub key_eq : Key → Key → Bool
key_eq a b = name_eq a.node b.node && a.fh == b.fh && kind_eq a.kind b.kind

-- the key of a handle of a node: its name after these events, the handle's number, and what is open
abbrev pub key_at : List PlainEvent → ℕ → ℕ × HandleKind → Option Key
key_at es node handle = option_map (λ name. record { node = name; fh = handle.0; kind = handle.1 }) (name_at es node)

-- ---- what a request uses

-- the handle that a request of this body uses, if any
abbrev pub handle_used : PlainBody → Option (ℕ × HandleKind)
handle_used body = (mentions body).uses

-- the key that a request uses after these events
abbrev pub key_used : List PlainEvent → PlainRequest → Option Key
key_used es r = option_and_then (key_at es r.node) (handle_used r.body)
