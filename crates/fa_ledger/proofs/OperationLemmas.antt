-- Which operation a tree request is, and what came of it.
use Rattle.std.proofs.Common.{◌≡◌, ℕ, ℤ, List, [], ◌∷◌, Option, None, Some, refl, sym, ap, subst, ◌∙◌, inl, inr}
use Rattle.std.specs.Prelude.{◌<◌, ◌≤◌, ◌^◌, option_map}
use Rattle.std.proofs.lemmas.Option.{same_Some}
use Rattle.fa_bodies.specs.declared.handles.ReadIn.{ReadIn}
use Rattle.fa_bodies.specs.declared.requests.RequestBody.{RequestBody}
use Rattle.fa_bodies.specs.declared.requests.RequestBody.TheVariants as declared
use Rattle.fa_bodies.specs.Requests.{PlainBody, PlainRequest, body_shown}
use Rattle.fa_bodies.specs.Replies.{PlainReply, IsSuccessBody, Says, IsReply}
use Rattle.fa_bodies.specs.Replies.PlainReply.{Refused, Empty, Entry, Created, Attributes, Opened, Written, Bytes, Listed}
use Rattle.fa_bodies.specs.Dirents.{PlainDirent}
use Rattle.fa_ledger.specs.declared.operation.Outcome.{Outcome}
use Rattle.fa_ledger.specs.declared.operation.Outcome.TheVariants.{Fails, Succeeds, Unanswered}
use Rattle.fa_ledger.specs.Counts.{nodes_of_listing, nodes_given}
use Rattle.fa_ledger.specs.Mentions.{node_of}
use Rattle.fa_ledger.specs.Kinds.{IsTreeRequest}
use Rattle.fa_ledger.specs.Operations.{PlainAction, PlainOperation, action_of, operation_of, came_to, ended, done_in, entry_in, created_in, attributes_in, handle_in, count_in, bytes_in, dirents_in}
use Rattle.fa_ledger.specs.SoFar.{entries_answered}
use Rattle.fa_ledger.specs.Operations.PlainAction.{Lookup, Getattr, Setattr, Readlink, Symlink, Mknod, Mkdir, Unlink, Rmdir, Rename, Rename2, Link, Open, Read, Write, Opendir, Create}
use Rattle.fa_ledger.specs.Operations.PlainOperation.{Lists, Acts}

-- a body that does not list is that of an action
pub acts_by : (b : RequestBody) (reply : Option PlainReply) → ((r : ReadIn) → b ≡ declared.Readdir r → ⊥) → ((r : ReadIn) → b ≡ declared.Readdirplus r → ⊥)
    → operation_of (body_shown b) reply ≡ option_map (λ (a : PlainAction). Acts a) (action_of (body_shown b) reply)
acts_by (declared.Readdir r) reply not also = absurd (not r refl)
acts_by (declared.Readdirplus r) reply not also = absurd (also r refl)
acts_by other reply not also = refl

-- ---- how an operation is made

-- what holds of each action that is so made holds of the operation of a request
pub action_made : {A : Type 0} (make : Outcome A → PlainAction) (found : Option (Outcome A)) (o : PlainOperation) (Such : PlainOperation → Type 0)
    → option_map (λ (a : PlainAction). Acts a) (option_map make found) ≡ Some o → ((w : Outcome A) → Such (Acts (make w))) → Such o
action_made make None o Such is each = absurd cc
action_made make (Some w) o Such is each = subst Such (same_Some (Acts (make w)) o is) (each w)

-- the same of a request that lists
pub list_made : (size : ℕ) (found : Option (Outcome (List PlainDirent))) (o : PlainOperation) (Such : PlainOperation → Type 0)
    → option_map (λ (w : Outcome (List PlainDirent)). Lists (record { size = size; outcome = w })) found ≡ Some o
    → ((w : Outcome (List PlainDirent)) → Such (Lists (record { size = size; outcome = w }))) → Such o
list_made size None o Such is each = absurd cc
list_made size (Some w) o Such is each = subst Such (same_Some (Lists (record { size = size; outcome = w })) o is) (each w)

-- ---- a request that was not answered

pub unanswered_there : (body : PlainBody) → IsTreeRequest body → (o : PlainOperation) × (operation_of body None ≡ Some o) × (ended o ≡ Unanswered)
unanswered_there (PlainBody.Lookup name) tree = (Acts (Lookup name Unanswered), refl, refl)
unanswered_there (PlainBody.Getattr g) tree = (Acts (Getattr Unanswered), refl, refl)
unanswered_there (PlainBody.Setattr s) tree = (Acts (Setattr s Unanswered), refl, refl)
unanswered_there PlainBody.Readlink tree = (Acts (Readlink Unanswered), refl, refl)
unanswered_there (PlainBody.Symlink name target) tree = (Acts (Symlink name target Unanswered), refl, refl)
unanswered_there (PlainBody.Mknod mode rdev umask name) tree = (Acts (Mknod mode umask name Unanswered), refl, refl)
unanswered_there (PlainBody.Mkdir mode umask name) tree = (Acts (Mkdir mode umask name Unanswered), refl, refl)
unanswered_there (PlainBody.Unlink name) tree = (Acts (Unlink name Unanswered), refl, refl)
unanswered_there (PlainBody.Rmdir name) tree = (Acts (Rmdir name Unanswered), refl, refl)
unanswered_there (PlainBody.Rename newdir old_name new_name) tree = (Acts (Rename old_name new_name Unanswered), refl, refl)
unanswered_there (PlainBody.Rename2 newdir flags old_name new_name) tree = (Acts (Rename2 flags old_name new_name Unanswered), refl, refl)
unanswered_there (PlainBody.Link oldnodeid new_name) tree = (Acts (Link new_name Unanswered), refl, refl)
unanswered_there (PlainBody.Open i) tree = (Acts (Open Unanswered), refl, refl)
unanswered_there (PlainBody.Read r) tree = (Acts (Read r.offset r.size Unanswered), refl, refl)
unanswered_there (PlainBody.Write fh offset size write_flags lock_owner flags payload) tree = (Acts (Write offset size payload Unanswered), refl, refl)
unanswered_there (PlainBody.Opendir i) tree = (Acts (Opendir Unanswered), refl, refl)
unanswered_there (PlainBody.Create flags mode umask name) tree = (Acts (Create flags mode umask name Unanswered), refl, refl)
unanswered_there (PlainBody.Readdir r) tree = ((Lists (record { size = r.size; outcome = Unanswered })), refl, refl)
unanswered_there (PlainBody.Readdirplus r) tree = ((Lists (record { size = r.size; outcome = Unanswered })), refl, refl)
unanswered_there other tree = absurd cc

-- no other request is an operation
pub operation_asked : (body : PlainBody) (reply : Option PlainReply) (o : PlainOperation) → operation_of body reply ≡ Some o → IsTreeRequest body
operation_asked (PlainBody.Forget nlookup) reply o is = absurd cc
operation_asked (PlainBody.Release r) reply o is = absurd cc
operation_asked (PlainBody.Flush f) reply o is = absurd cc
operation_asked (PlainBody.Init i) reply o is = absurd cc
operation_asked (PlainBody.Releasedir r) reply o is = absurd cc
operation_asked (PlainBody.BatchForget count items) reply o is = absurd cc
operation_asked PlainBody.Passed reply o is = absurd cc
operation_asked other reply o is = refl

-- what a request asks for that came to this
abbrev pub lost_action : PlainAction → PlainAction
lost_action (Lookup name o) = Lookup name Unanswered
lost_action (Getattr o) = Getattr Unanswered
lost_action (Setattr s o) = Setattr s Unanswered
lost_action (Readlink o) = Readlink Unanswered
lost_action (Symlink name target o) = Symlink name target Unanswered
lost_action (Mknod mode umask name o) = Mknod mode umask name Unanswered
lost_action (Mkdir mode umask name o) = Mkdir mode umask name Unanswered
lost_action (Unlink name o) = Unlink name Unanswered
lost_action (Rmdir name o) = Rmdir name Unanswered
lost_action (Rename old_name new_name o) = Rename old_name new_name Unanswered
lost_action (Rename2 flags old_name new_name o) = Rename2 flags old_name new_name Unanswered
lost_action (Link new_name o) = Link new_name Unanswered
lost_action (Open o) = Open Unanswered
lost_action (Read offset size o) = Read offset size Unanswered
lost_action (Write offset size payload o) = Write offset size payload Unanswered
lost_action (Opendir o) = Opendir Unanswered
lost_action (Create flags mode umask name o) = Create flags mode umask name Unanswered

abbrev pub lost : PlainOperation → PlainOperation
lost (Lists l) = Lists (record { size = l.size; outcome = Unanswered })
lost (Acts a) = Acts (lost_action a)

-- it is the operation of the same request without its answer
pub lost_made : (body : PlainBody) (reply : Option PlainReply) (o : PlainOperation) → operation_of body reply ≡ Some o → operation_of body None ≡ Some (lost o)
lost_made (PlainBody.Lookup name) reply o is = action_made (λ w. Lookup name w) (came_to entry_in reply) o (λ x. operation_of (PlainBody.Lookup name) None ≡ Some (lost x)) is (λ w. refl)
lost_made (PlainBody.Getattr g) reply o is = action_made (λ w. Getattr w) (came_to attributes_in reply) o (λ x. operation_of (PlainBody.Getattr g) None ≡ Some (lost x)) is (λ w. refl)
lost_made (PlainBody.Setattr s) reply o is = action_made (λ w. Setattr s w) (came_to attributes_in reply) o (λ x. operation_of (PlainBody.Setattr s) None ≡ Some (lost x)) is (λ w. refl)
lost_made PlainBody.Readlink reply o is = action_made (λ w. Readlink w) (came_to bytes_in reply) o (λ x. operation_of PlainBody.Readlink None ≡ Some (lost x)) is (λ w. refl)
lost_made (PlainBody.Symlink name target) reply o is = action_made (λ w. Symlink name target w) (came_to entry_in reply) o (λ x. operation_of (PlainBody.Symlink name target) None ≡ Some (lost x)) is (λ w. refl)
lost_made (PlainBody.Mknod mode rdev umask name) reply o is = action_made (λ w. Mknod mode umask name w) (came_to entry_in reply) o (λ x. operation_of (PlainBody.Mknod mode rdev umask name) None ≡ Some (lost x)) is (λ w. refl)
lost_made (PlainBody.Mkdir mode umask name) reply o is = action_made (λ w. Mkdir mode umask name w) (came_to entry_in reply) o (λ x. operation_of (PlainBody.Mkdir mode umask name) None ≡ Some (lost x)) is (λ w. refl)
lost_made (PlainBody.Unlink name) reply o is = action_made (λ w. Unlink name w) (came_to done_in reply) o (λ x. operation_of (PlainBody.Unlink name) None ≡ Some (lost x)) is (λ w. refl)
lost_made (PlainBody.Rmdir name) reply o is = action_made (λ w. Rmdir name w) (came_to done_in reply) o (λ x. operation_of (PlainBody.Rmdir name) None ≡ Some (lost x)) is (λ w. refl)
lost_made (PlainBody.Rename newdir old_name new_name) reply o is = action_made (λ w. Rename old_name new_name w) (came_to done_in reply) o (λ x. operation_of (PlainBody.Rename newdir old_name new_name) None ≡ Some (lost x)) is (λ w. refl)
lost_made (PlainBody.Rename2 newdir flags old_name new_name) reply o is = action_made (λ w. Rename2 flags old_name new_name w) (came_to done_in reply) o (λ x. operation_of (PlainBody.Rename2 newdir flags old_name new_name) None ≡ Some (lost x)) is (λ w. refl)
lost_made (PlainBody.Link oldnodeid new_name) reply o is = action_made (λ w. Link new_name w) (came_to entry_in reply) o (λ x. operation_of (PlainBody.Link oldnodeid new_name) None ≡ Some (lost x)) is (λ w. refl)
lost_made (PlainBody.Open i) reply o is = action_made (λ w. Open w) (came_to handle_in reply) o (λ x. operation_of (PlainBody.Open i) None ≡ Some (lost x)) is (λ w. refl)
lost_made (PlainBody.Read r) reply o is = action_made (λ w. Read r.offset r.size w) (came_to bytes_in reply) o (λ x. operation_of (PlainBody.Read r) None ≡ Some (lost x)) is (λ w. refl)
lost_made (PlainBody.Write fh offset size write_flags lock_owner flags payload) reply o is = action_made (λ w. Write offset size payload w) (came_to count_in reply) o (λ x. operation_of (PlainBody.Write fh offset size write_flags lock_owner flags payload) None ≡ Some (lost x)) is (λ w. refl)
lost_made (PlainBody.Opendir i) reply o is = action_made (λ w. Opendir w) (came_to handle_in reply) o (λ x. operation_of (PlainBody.Opendir i) None ≡ Some (lost x)) is (λ w. refl)
lost_made (PlainBody.Create flags mode umask name) reply o is = action_made (λ w. Create flags mode umask name w) (came_to created_in reply) o (λ x. operation_of (PlainBody.Create flags mode umask name) None ≡ Some (lost x)) is (λ w. refl)
lost_made (PlainBody.Readdir r) reply o is = list_made r.size (came_to dirents_in reply) o (λ x. operation_of (PlainBody.Readdir r) None ≡ Some (lost x)) is (λ w. refl)
lost_made (PlainBody.Readdirplus r) reply o is = list_made r.size (came_to dirents_in reply) o (λ x. operation_of (PlainBody.Readdirplus r) None ≡ Some (lost x)) is (λ w. refl)
lost_made other reply o is = absurd cc

-- it is not answered
pub lost_ended : (o : PlainOperation) → ended (lost o) ≡ Unanswered
lost_ended (Lists l) = refl
lost_ended (Acts (Lookup name o)) = refl
lost_ended (Acts (Getattr o)) = refl
lost_ended (Acts (Setattr s o)) = refl
lost_ended (Acts (Readlink o)) = refl
lost_ended (Acts (Symlink name target o)) = refl
lost_ended (Acts (Mknod mode umask name o)) = refl
lost_ended (Acts (Mkdir mode umask name o)) = refl
lost_ended (Acts (Unlink name o)) = refl
lost_ended (Acts (Rmdir name o)) = refl
lost_ended (Acts (Rename old_name new_name o)) = refl
lost_ended (Acts (Rename2 flags old_name new_name o)) = refl
lost_ended (Acts (Link new_name o)) = refl
lost_ended (Acts (Open o)) = refl
lost_ended (Acts (Read offset size o)) = refl
lost_ended (Acts (Write offset size payload o)) = refl
lost_ended (Acts (Opendir o)) = refl
lost_ended (Acts (Create flags mode umask name o)) = refl

-- a reply with entries comes to these
pub listed_lists : (body : PlainBody) (ds : List PlainDirent) (o : PlainOperation) → operation_of body (Some (Listed ds)) ≡ Some o → entries_answered o ≡ ds
listed_lists (PlainBody.Readdir r) ds o is = ap entries_answered (sym (same_Some (Lists (record { size = r.size; outcome = Succeeds ds })) o is))
listed_lists (PlainBody.Readdirplus r) ds o is = ap entries_answered (sym (same_Some (Lists (record { size = r.size; outcome = Succeeds ds })) o is))
listed_lists other ds o is = absurd cc

-- ---- and one that was

-- what came of a request that is answered so
abbrev pub ended_by : PlainReply → Outcome (Unit {0})
ended_by (Refused error) = Fails error
ended_by other = Succeeds tt

-- it is answered
pub not_unanswered : (reply : PlainReply) → ended_by reply ≡ Unanswered → ⊥
not_unanswered (Refused error) is = absurd cc
not_unanswered other is = absurd cc

-- the nodes that its success gives, in their order
abbrev pub listed_nodes : Outcome (List PlainDirent) → List ℕ
listed_nodes (Fails error) = []
listed_nodes (Succeeds entries) = nodes_of_listing entries
listed_nodes Unanswered = []

abbrev pub gives : PlainOperation → List ℕ
gives (Lists l) = listed_nodes l.outcome
gives (Acts (Lookup name (Succeeds entry))) = node_of entry
gives (Acts (Symlink name target (Succeeds entry))) = entry.nodeid ∷ []
gives (Acts (Mknod mode umask name (Succeeds entry))) = entry.nodeid ∷ []
gives (Acts (Mkdir mode umask name (Succeeds entry))) = entry.nodeid ∷ []
gives (Acts (Link new_name (Succeeds entry))) = entry.nodeid ∷ []
gives (Acts (Create flags mode umask name (Succeeds made))) = made.0.nodeid ∷ []
gives other = []

-- a WRITE wrote at most what it was asked to
abbrev pub WroteWithin : PlainOperation → Type 0
WroteWithin (Acts (Write offset size payload (Succeeds count))) = (count ≤ size) × (count < 2 ^ 32)
WroteWithin other = Unit {0}

-- what a reply says to a request is what came of its operation
pub record ComesTo (body : PlainBody) (reply : PlainReply) (o : PlainOperation) : Type 0 where
  pub given : nodes_given body reply ≡ gives o
  pub ends : ended o ≡ ended_by reply
  pub within : WroteWithin o

-- an operation is there, and this is so of it
abbrev pub IsThere : PlainBody → PlainReply → Type 0
IsThere body reply = (o : PlainOperation) × (operation_of body (Some reply) ≡ Some o) × ComesTo body reply o

there : (body : PlainBody) (reply right : PlainReply) (made : PlainOperation) → reply ≡ right → operation_of body (Some right) ≡ Some made → ComesTo body right made → IsThere body reply
there body reply right made told is comes = (
  made,
  ap (λ (r : PlainReply). operation_of body (Some r)) told ∙ is,
  subst (λ (r : PlainReply). ComesTo body r made) (sym told) comes,
)

-- a success, by its form
success_there : (opcode : ℕ) (body : PlainBody) (bytes : List ℕ) (reply : PlainReply) → IsSuccessBody opcode body bytes reply → IsTreeRequest body → IsThere body reply
success_there opcode (PlainBody.Lookup name) bytes reply f tree = there (PlainBody.Lookup name) reply (Entry f.0) (Acts (Lookup name (Succeeds f.0))) f.1 refl (record { given = refl; ends = refl; within = tt })
success_there opcode (PlainBody.Getattr g) bytes reply f tree = there (PlainBody.Getattr g) reply (Attributes f.0) (Acts (Getattr (Succeeds f.0))) f.1 refl (record { given = refl; ends = refl; within = tt })
success_there opcode (PlainBody.Setattr s) bytes reply f tree = there (PlainBody.Setattr s) reply (Attributes f.0) (Acts (Setattr s (Succeeds f.0))) f.1 refl (record { given = refl; ends = refl; within = tt })
success_there opcode PlainBody.Readlink bytes reply f tree = there PlainBody.Readlink reply (Bytes bytes) (Acts (Readlink (Succeeds bytes))) f refl (record { given = refl; ends = refl; within = tt })
success_there opcode (PlainBody.Symlink name target) bytes reply f tree = there (PlainBody.Symlink name target) reply (Entry f.0) (Acts (Symlink name target (Succeeds f.0))) f.1 refl (record { given = refl; ends = refl; within = tt })
success_there opcode (PlainBody.Mknod mode rdev umask name) bytes reply f tree = there (PlainBody.Mknod mode rdev umask name) reply (Entry f.0) (Acts (Mknod mode umask name (Succeeds f.0))) f.1 refl (record { given = refl; ends = refl; within = tt })
success_there opcode (PlainBody.Mkdir mode umask name) bytes reply f tree = there (PlainBody.Mkdir mode umask name) reply (Entry f.0) (Acts (Mkdir mode umask name (Succeeds f.0))) f.1 refl (record { given = refl; ends = refl; within = tt })
success_there opcode (PlainBody.Unlink name) bytes reply f tree = there (PlainBody.Unlink name) reply (Empty) (Acts (Unlink name (Succeeds tt))) f.0 refl (record { given = refl; ends = refl; within = tt })
success_there opcode (PlainBody.Rmdir name) bytes reply f tree = there (PlainBody.Rmdir name) reply (Empty) (Acts (Rmdir name (Succeeds tt))) f.0 refl (record { given = refl; ends = refl; within = tt })
success_there opcode (PlainBody.Rename newdir old_name new_name) bytes reply f tree = there (PlainBody.Rename newdir old_name new_name) reply (Empty) (Acts (Rename old_name new_name (Succeeds tt))) f.0 refl (record { given = refl; ends = refl; within = tt })
success_there opcode (PlainBody.Rename2 newdir flags old_name new_name) bytes reply f tree = there (PlainBody.Rename2 newdir flags old_name new_name) reply (Empty) (Acts (Rename2 flags old_name new_name (Succeeds tt))) f.0 refl (record { given = refl; ends = refl; within = tt })
success_there opcode (PlainBody.Link oldnodeid new_name) bytes reply f tree = there (PlainBody.Link oldnodeid new_name) reply (Entry f.0) (Acts (Link new_name (Succeeds f.0))) f.1 refl (record { given = refl; ends = refl; within = tt })
success_there opcode (PlainBody.Open i) bytes reply f tree = there (PlainBody.Open i) reply (Opened f.0) (Acts (Open (Succeeds f.0))) f.1 refl (record { given = refl; ends = refl; within = tt })
success_there opcode (PlainBody.Read r) bytes reply f tree = there (PlainBody.Read r) reply (Bytes bytes) (Acts (Read r.offset r.size (Succeeds bytes))) f.0 refl (record { given = refl; ends = refl; within = tt })
success_there opcode (PlainBody.Write fh offset size write_flags lock_owner flags payload) bytes reply f tree = there (PlainBody.Write fh offset size write_flags lock_owner flags payload) reply (Written f.0) (Acts (Write offset size payload (Succeeds f.0))) f.1 refl (record { given = refl; ends = refl; within = (f.3, f.2.0) })
success_there opcode (PlainBody.Opendir i) bytes reply f tree = there (PlainBody.Opendir i) reply (Opened f.0) (Acts (Opendir (Succeeds f.0))) f.1 refl (record { given = refl; ends = refl; within = tt })
success_there opcode (PlainBody.Create flags mode umask name) bytes reply f tree = there (PlainBody.Create flags mode umask name) reply (Created f.0 f.1) (Acts (Create flags mode umask name (Succeeds (f.0, f.1)))) f.2 refl (record { given = refl; ends = refl; within = tt })
success_there opcode (PlainBody.Readdir r) bytes reply f tree = there (PlainBody.Readdir r) reply (Listed f.0) (Lists (record { size = r.size; outcome = Succeeds f.0 })) f.1 refl (record { given = refl; ends = refl; within = tt })
success_there opcode (PlainBody.Readdirplus r) bytes reply f tree = there (PlainBody.Readdirplus r) reply (Listed f.0) (Lists (record { size = r.size; outcome = Succeeds f.0 })) f.1 refl (record { given = refl; ends = refl; within = tt })
success_there opcode other bytes reply f tree = absurd cc

-- an error
error_there : (body : PlainBody) (reply : PlainReply) (error : ℤ) → reply ≡ Refused error → IsTreeRequest body → IsThere body reply
error_there (PlainBody.Lookup name) reply error told tree = there (PlainBody.Lookup name) reply (Refused error) (Acts (Lookup name (Fails error))) told refl (record { given = refl; ends = refl; within = tt })
error_there (PlainBody.Getattr g) reply error told tree = there (PlainBody.Getattr g) reply (Refused error) (Acts (Getattr (Fails error))) told refl (record { given = refl; ends = refl; within = tt })
error_there (PlainBody.Setattr s) reply error told tree = there (PlainBody.Setattr s) reply (Refused error) (Acts (Setattr s (Fails error))) told refl (record { given = refl; ends = refl; within = tt })
error_there PlainBody.Readlink reply error told tree = there PlainBody.Readlink reply (Refused error) (Acts (Readlink (Fails error))) told refl (record { given = refl; ends = refl; within = tt })
error_there (PlainBody.Symlink name target) reply error told tree = there (PlainBody.Symlink name target) reply (Refused error) (Acts (Symlink name target (Fails error))) told refl (record { given = refl; ends = refl; within = tt })
error_there (PlainBody.Mknod mode rdev umask name) reply error told tree = there (PlainBody.Mknod mode rdev umask name) reply (Refused error) (Acts (Mknod mode umask name (Fails error))) told refl (record { given = refl; ends = refl; within = tt })
error_there (PlainBody.Mkdir mode umask name) reply error told tree = there (PlainBody.Mkdir mode umask name) reply (Refused error) (Acts (Mkdir mode umask name (Fails error))) told refl (record { given = refl; ends = refl; within = tt })
error_there (PlainBody.Unlink name) reply error told tree = there (PlainBody.Unlink name) reply (Refused error) (Acts (Unlink name (Fails error))) told refl (record { given = refl; ends = refl; within = tt })
error_there (PlainBody.Rmdir name) reply error told tree = there (PlainBody.Rmdir name) reply (Refused error) (Acts (Rmdir name (Fails error))) told refl (record { given = refl; ends = refl; within = tt })
error_there (PlainBody.Rename newdir old_name new_name) reply error told tree = there (PlainBody.Rename newdir old_name new_name) reply (Refused error) (Acts (Rename old_name new_name (Fails error))) told refl (record { given = refl; ends = refl; within = tt })
error_there (PlainBody.Rename2 newdir flags old_name new_name) reply error told tree = there (PlainBody.Rename2 newdir flags old_name new_name) reply (Refused error) (Acts (Rename2 flags old_name new_name (Fails error))) told refl (record { given = refl; ends = refl; within = tt })
error_there (PlainBody.Link oldnodeid new_name) reply error told tree = there (PlainBody.Link oldnodeid new_name) reply (Refused error) (Acts (Link new_name (Fails error))) told refl (record { given = refl; ends = refl; within = tt })
error_there (PlainBody.Open i) reply error told tree = there (PlainBody.Open i) reply (Refused error) (Acts (Open (Fails error))) told refl (record { given = refl; ends = refl; within = tt })
error_there (PlainBody.Read r) reply error told tree = there (PlainBody.Read r) reply (Refused error) (Acts (Read r.offset r.size (Fails error))) told refl (record { given = refl; ends = refl; within = tt })
error_there (PlainBody.Write fh offset size write_flags lock_owner flags payload) reply error told tree = there (PlainBody.Write fh offset size write_flags lock_owner flags payload) reply (Refused error) (Acts (Write offset size payload (Fails error))) told refl (record { given = refl; ends = refl; within = tt })
error_there (PlainBody.Opendir i) reply error told tree = there (PlainBody.Opendir i) reply (Refused error) (Acts (Opendir (Fails error))) told refl (record { given = refl; ends = refl; within = tt })
error_there (PlainBody.Create flags mode umask name) reply error told tree = there (PlainBody.Create flags mode umask name) reply (Refused error) (Acts (Create flags mode umask name (Fails error))) told refl (record { given = refl; ends = refl; within = tt })
error_there (PlainBody.Readdir r) reply error told tree = there (PlainBody.Readdir r) reply (Refused error) (Lists (record { size = r.size; outcome = Fails error })) told refl (record { given = refl; ends = refl; within = tt })
error_there (PlainBody.Readdirplus r) reply error told tree = there (PlainBody.Readdirplus r) reply (Refused error) (Lists (record { size = r.size; outcome = Fails error })) told refl (record { given = refl; ends = refl; within = tt })
error_there other reply error told tree = absurd cc

-- any answer
answer_there : (asked : PlainRequest) (error : ℤ) (bytes : List ℕ) (reply : PlainReply) → Says asked error bytes reply → IsTreeRequest asked.body → IsThere asked.body reply
answer_there asked error bytes reply (inl success) tree = success_there asked.opcode asked.body bytes reply success.1 tree
answer_there asked error bytes reply (inr refused) tree = error_there asked.body reply error refused.2 tree

-- the operation of a tree request that is replied to
pub reply_done : (r : PlainRequest) (bytes : List ℕ) (reply : PlainReply) → IsReply r bytes reply → IsTreeRequest r.body → IsThere r.body reply
reply_done r bytes reply is tree = answer_there r is.error is.head.body_bytes reply is.body tree

pub reply_comes : (r : PlainRequest) (bytes : List ℕ) (reply : PlainReply) (o : PlainOperation) → IsReply r bytes reply → operation_of r.body (Some reply) ≡ Some o → ComesTo r.body reply o
reply_comes r bytes reply o is does =
    let done = reply_done r bytes reply is (operation_asked r.body (Some reply) o does) in
    subst (ComesTo r.body reply) (same_Some done.0 o (sym done.1 ∙ does)) done.2
