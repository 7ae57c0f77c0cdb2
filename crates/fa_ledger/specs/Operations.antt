-- Operations: what tree requests ask for, and what came of each (the bodies of requests and replies of fuse.h), without what a call has
-- by name, which is nodes and file handles, and without what the tree does not look at.
use Rattle.std.specs.Prelude.{ℕ, List, Option, Some, None, option_map}
use Rattle.fa_bodies.specs.declared.attributes.AttrOut.{AttrOut}
use Rattle.fa_bodies.specs.declared.entry.EntryOut.{EntryOut}
use Rattle.fa_bodies.specs.declared.flags.OpenFlags.{OpenFlags}
use Rattle.fa_bodies.specs.declared.handles.OpenOut.{OpenOut}
use Rattle.fa_bodies.specs.declared.mode.Mode.{Mode}
use Rattle.fa_bodies.specs.declared.rename_flags.RenameFlags.{RenameFlags}
use Rattle.fa_bodies.specs.declared.setattr.SetattrIn.{SetattrIn}
use Rattle.fa_bodies.specs.declared.views.EntryBytes.{EntryBytes}
use Rattle.fa_bodies.specs.Dirents.{PlainDirent}
use Rattle.fa_bodies.specs.Listing.{entries_left}
use Rattle.fa_bodies.specs.Replies.{PlainReply}
use Rattle.fa_bodies.specs.Replies.PlainReply.{Refused, Empty, Entry, Created, Attributes, Opened, Written, Bytes, Listed}
use Rattle.fa_bodies.specs.Requests.{PlainBody}
use Rattle.fa_bodies.specs.Views.{entry_shown, attr_shown, setattr_shown}
use Rattle.fa_ledger.specs.declared.operation.Action.{Action}
use Rattle.fa_ledger.specs.declared.operation.Action.TheVariants as declared
use Rattle.fa_ledger.specs.declared.operation.List.{List as ListRequest}
use Rattle.fa_ledger.specs.declared.operation.Operation.{Operation}
use Rattle.fa_ledger.specs.declared.operation.Operation.TheVariants as variants
use Rattle.fa_ledger.specs.declared.operation.Outcome.{Outcome}
use Rattle.fa_ledger.specs.declared.operation.Outcome.TheVariants.{Fails, Succeeds, Unanswered}

-- What a tree request that does not list asks for, without where its names, its payload and the structs of its messages lie in memory,
-- each with what came of it: an error, a success with what it says, or no answer.
pub data PlainAction : Type 0 where
  Lookup : (name : List ℕ) → Outcome EntryOut → PlainAction
  Getattr : Outcome AttrOut → PlainAction
  Setattr : SetattrIn → Outcome AttrOut → PlainAction
  Readlink : Outcome (List ℕ) → PlainAction
  Symlink : (name target : List ℕ) → Outcome EntryOut → PlainAction
  Mknod : Mode → (umask : ℕ) (name : List ℕ) → Outcome EntryOut → PlainAction
  Mkdir : Mode → (umask : ℕ) (name : List ℕ) → Outcome EntryOut → PlainAction
  Unlink : (name : List ℕ) → Outcome (Unit {0}) → PlainAction
  Rmdir : (name : List ℕ) → Outcome (Unit {0}) → PlainAction
  Rename : (old_name new_name : List ℕ) → Outcome (Unit {0}) → PlainAction
  Rename2 : RenameFlags → (old_name new_name : List ℕ) → Outcome (Unit {0}) → PlainAction
  Link : (new_name : List ℕ) → Outcome EntryOut → PlainAction
  Open : Outcome OpenOut → PlainAction
  Read : (offset size : ℕ) → Outcome (List ℕ) → PlainAction
  Write : (offset size : ℕ) (payload : List ℕ) → Outcome ℕ → PlainAction
  Opendir : Outcome OpenOut → PlainAction
  Create : OpenFlags → Mode → (umask : ℕ) (name : List ℕ) → Outcome (EntryOut × OpenOut) → PlainAction

-- What READDIR and READDIRPLUS ask for, with what came of it.
pub record PlainList : Type 0 where
  pub size : ℕ
  pub outcome : Outcome (List PlainDirent)

-- What a tree request asks for, with what came of it.
pub data PlainOperation : Type 0 where
  Lists : PlainList → PlainOperation
  Acts : PlainAction → PlainOperation

-- ---- what came of a request

-- what a success says, by the form that its request has. A reply of another form answers no such request (IsSuccessBody of fa_bodies).
abbrev pub done_in : PlainReply → Option (Unit {0})
done_in Empty = Some tt
done_in other = None

abbrev pub entry_in : PlainReply → Option EntryOut
entry_in (Entry entry) = Some entry
entry_in other = None

abbrev pub created_in : PlainReply → Option (EntryOut × OpenOut)
created_in (Created entry handle) = Some (entry, handle)
created_in other = None

abbrev pub attributes_in : PlainReply → Option AttrOut
attributes_in (Attributes attributes) = Some attributes
attributes_in other = None

abbrev pub handle_in : PlainReply → Option OpenOut
handle_in (Opened handle) = Some handle
handle_in other = None

abbrev pub count_in : PlainReply → Option ℕ
count_in (Written count) = Some count
count_in other = None

abbrev pub bytes_in : PlainReply → Option (List ℕ)
bytes_in (Bytes bytes) = Some bytes
bytes_in other = None

abbrev pub dirents_in : PlainReply → Option (List PlainDirent)
dirents_in (Listed entries) = Some entries
dirents_in other = None

-- what a reply, if there is one, comes to, where a success of the request says this
abbrev pub came_to : {A : Type 0} → (PlainReply → Option A) → Option PlainReply → Option (Outcome A)
came_to says None = Some Unanswered
came_to says (Some (Refused error)) = Some (Fails error)
came_to says (Some reply) = option_map (λ success. Succeeds success) (says reply)

-- ---- which operation a request is

-- what a request of this body, with this reply if any, asks for, and what came of it, if it is a tree request that does not list and may
-- be answered so
abbrev pub action_of : PlainBody → Option PlainReply → Option PlainAction
action_of (PlainBody.Lookup name) reply = option_map (λ o. Lookup name o) (came_to entry_in reply)
action_of (PlainBody.Getattr g) reply = option_map (λ o. Getattr o) (came_to attributes_in reply)
action_of (PlainBody.Setattr s) reply = option_map (λ o. Setattr s o) (came_to attributes_in reply)
action_of PlainBody.Readlink reply = option_map (λ o. Readlink o) (came_to bytes_in reply)
action_of (PlainBody.Symlink name target) reply = option_map (λ o. Symlink name target o) (came_to entry_in reply)
action_of (PlainBody.Mknod mode rdev umask name) reply = option_map (λ o. Mknod mode umask name o) (came_to entry_in reply)
action_of (PlainBody.Mkdir mode umask name) reply = option_map (λ o. Mkdir mode umask name o) (came_to entry_in reply)
action_of (PlainBody.Unlink name) reply = option_map (λ o. Unlink name o) (came_to done_in reply)
action_of (PlainBody.Rmdir name) reply = option_map (λ o. Rmdir name o) (came_to done_in reply)
action_of (PlainBody.Rename newdir old_name new_name) reply = option_map (λ o. Rename old_name new_name o) (came_to done_in reply)
action_of (PlainBody.Rename2 newdir flags old_name new_name) reply = option_map (λ o. Rename2 flags old_name new_name o) (came_to done_in reply)
action_of (PlainBody.Link oldnodeid new_name) reply = option_map (λ o. Link new_name o) (came_to entry_in reply)
action_of (PlainBody.Open o) reply = option_map (λ o. Open o) (came_to handle_in reply)
action_of (PlainBody.Read r) reply = option_map (λ o. Read r.offset r.size o) (came_to bytes_in reply)
action_of (PlainBody.Write fh offset size write_flags lock_owner flags payload) reply = option_map (λ o. Write offset size payload o) (came_to count_in reply)
action_of (PlainBody.Opendir o) reply = option_map (λ o. Opendir o) (came_to handle_in reply)
action_of (PlainBody.Create flags mode umask name) reply = option_map (λ o. Create flags mode umask name o) (came_to created_in reply)
action_of other reply = None

-- the same of any tree request
abbrev pub operation_of : PlainBody → Option PlainReply → Option PlainOperation
operation_of (PlainBody.Readdir r) reply = option_map (λ o. Lists (record { size = r.size; outcome = o })) (came_to dirents_in reply)
operation_of (PlainBody.Readdirplus r) reply = option_map (λ o. Lists (record { size = r.size; outcome = o })) (came_to dirents_in reply)
operation_of other reply = option_map (λ action. Acts action) (action_of other reply)

-- what came of a request, where its success shows this
abbrev pub with_success : {A B : Type 0} → (A → B) → Outcome A → Outcome B
with_success shown (Fails error) = Fails error
with_success shown (Succeeds success) = Succeeds (shown success)
with_success shown Unanswered = Unanswered

-- the same, but for what its success says
abbrev pub bare : {A : Type 0} → Outcome A → Outcome (Unit {0})
bare o = with_success (λ success. tt) o

-- what came of it, but for what its success says
abbrev pub action_ended : PlainAction → Outcome (Unit {0})
action_ended (Lookup name o) = bare o
action_ended (Getattr o) = bare o
action_ended (Setattr s o) = bare o
action_ended (Readlink o) = bare o
action_ended (Symlink name target o) = bare o
action_ended (Mknod mode umask name o) = bare o
action_ended (Mkdir mode umask name o) = bare o
action_ended (Unlink name o) = o
action_ended (Rmdir name o) = o
action_ended (Rename old_name new_name o) = o
action_ended (Rename2 flags old_name new_name o) = o
action_ended (Link new_name o) = bare o
action_ended (Open o) = bare o
action_ended (Read offset size o) = bare o
action_ended (Write offset size payload o) = bare o
action_ended (Opendir o) = bare o
action_ended (Create flags mode umask name o) = bare o

abbrev pub ended : PlainOperation → Outcome (Unit {0})
ended (Lists l) = bare l.outcome
ended (Acts a) = action_ended a

-- ---- what the code's words show

-- the entry that CREATE answers, with its open handle
abbrev pub created_shown : EntryBytes × OpenOut → EntryOut × OpenOut
created_shown made = (entry_shown made.0, made.1)

abbrev pub action_shown : Action → PlainAction
action_shown (declared.Lookup name o) = Lookup name.now (with_success entry_shown o)
action_shown (declared.Getattr o) = Getattr (with_success attr_shown o)
action_shown (declared.Setattr s o) = Setattr (setattr_shown s) (with_success attr_shown o)
action_shown (declared.Readlink o) = Readlink (with_success (λ bytes. bytes.now) o)
action_shown (declared.Symlink name target o) = Symlink name.now target.now (with_success entry_shown o)
action_shown (declared.Mknod mode umask name o) = Mknod mode umask name.now (with_success entry_shown o)
action_shown (declared.Mkdir mode umask name o) = Mkdir mode umask name.now (with_success entry_shown o)
action_shown (declared.Unlink name o) = Unlink name.now o
action_shown (declared.Rmdir name o) = Rmdir name.now o
action_shown (declared.Rename old_name new_name o) = Rename old_name.now new_name.now o
action_shown (declared.Rename2 flags old_name new_name o) = Rename2 flags old_name.now new_name.now o
action_shown (declared.Link new_name o) = Link new_name.now (with_success entry_shown o)
action_shown (declared.Open o) = Open o
action_shown (declared.Read offset size o) = Read offset size (with_success (λ bytes. bytes.now) o)
action_shown (declared.Write offset size payload o) = Write offset size payload.now o
action_shown (declared.Opendir o) = Opendir o
action_shown (declared.Create flags mode umask name o) = Create flags mode umask name.now (with_success created_shown o)

abbrev pub list_shown : ListRequest → PlainList
list_shown l = record { size = l.size; outcome = with_success entries_left l.outcome }

abbrev pub operation_shown : Operation → PlainOperation
operation_shown (variants.List l) = Lists (list_shown l)
operation_shown (variants.Act a) = Acts (action_shown a)
