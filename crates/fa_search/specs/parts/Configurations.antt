-- How far a search has come at a message: all tree requests that were answered before it are placed, in some order, and of those in flight
-- some are. Only which of these are, and the tree, matters for what may come behind it.
use Rattle.std.specs.Prelude.{◌≡◌, ◌≢◌, ◌↔◌, ◌⊎◌, ℕ, ◌<◌, ◌≤◌, false, List, [], Contains, All, Option, Some, None}
use Rattle.fa_capture.specs.Message.{Message}
use Rattle.fa_session.specs.Answers.{IsAnsweredBy}
use Rattle.fa_ledger.specs.Calls.{PlainAnswer, PlainCall}
use Rattle.fa_ledger.specs.declared.name.NodeName.{NodeName}
use Rattle.fa_ledger.specs.declared.name.NodeName.TheVariants.{Root, Given}
use Rattle.fa_ledger.specs.Kinds.{IsFailure, OnlyReads}
use Rattle.fa_ledger.specs.Operations.{PlainOperation, ended}
use Rattle.fa_ledger.specs.Operations.PlainAction.{Write}
use Rattle.fa_ledger.specs.Operations.PlainOperation.{Acts}
use Rattle.fa_tree.specs.declared.id.FileId.{FileId}
use Rattle.fa_tree.specs.State.{TreeState, file_of}
use Rattle.fa_tree.specs.Alike.{AreAlike}
use Rattle.fa_tree.specs.Steps.{names_given, opens_anew}
use Rattle.fa_order.specs.declared.entry.Entry.{Entry}
use Rattle.fa_check.specs.Orders.{IsTreeRequestAt, IsChoice, numbers}
use Rattle.fa_check.specs.Runs.{EntrySteps, Runs}
use Rattle.fa_check.specs.Faults.{EachPlaced}
use Rattle.fa_check.specs.Cuts.{IsAnsweredBefore, Explains}
use Rattle.fa_search.specs.Searches.{IsUsedFrom}
use Rattle.fa_search.specs.parts.Going.{OrThis, GoesOn}

-- Which requests in flight are placed, by the numbers of their messages, the tree, and entries that led to it.
pub record PlainConfiguration : Type 0 where
  pub placed : List ℕ
  pub tree : TreeState
  pub entries : List Entry

-- the tree request at p was answered before this message
abbrev pub IsAnsweredTree : List Message → (at p : ℕ) → Type 0
IsAnsweredTree c at p = IsTreeRequestAt c p × IsAnsweredBefore c at p

-- The tree request at p is done at this message: it was answered before, or it is one of those in flight that are placed.
abbrev pub IsDoneAt : List Message → (at : ℕ) → (placed : List ℕ) → (p : ℕ) → Type 0
IsDoneAt c at placed p = IsAnsweredTree c at p ⊎ Contains placed p

-- ---- requests in flight

-- The tree request at p was sent before this message, was not answered before it, and an order may name it: it does not only read, or an
-- answer comes.
pub record IsPending (c : List Message) (at p : ℕ) : Type 0 where
  pub tree_request : IsTreeRequestAt c p
  pub sent : p < at
  pub waits : IsAnsweredBefore c at p → ⊥
  pub named : (wrote : Option ℕ) × IsChoice c (record { at = p; wrote = wrote })

-- these are all of them
abbrev pub ArePending : List Message → (at : ℕ) → List ℕ → Type 0
ArePending c at pending = (p : ℕ) → Contains pending p ↔ IsPending c at p

-- The call is in flight at this message, and an order may name it: it was sent before, its answer, if it has one, comes at this message or
-- behind it, and if it has none it does not only read.
pub record IsCallPending (at : ℕ) (call : PlainCall) : Type 0 where
  pub sent : call.asked < at
  pub waits : (answer : PlainAnswer) → call.answer ≡ Some answer → at ≤ answer.at
  pub named : call.answer ≡ None → OnlyReads call.operation → ⊥

-- how many bytes at most an order may say that the request wrote, with this answer or none: those of a WRITE that has none
abbrev pub most_written : Option PlainAnswer → PlainOperation → Option ℕ
most_written None (Acts (Write offset size payload o)) = Some size
most_written answer o = None

-- the count is one of those up to this, and none where there is none
abbrev pub IsCountUpTo : (most : Option ℕ) → (wrote : Option ℕ) → Type 0
IsCountUpTo None wrote = wrote ≡ None
IsCountUpTo (Some most) wrote = (count : ℕ) × (wrote ≡ Some count) × (count ≤ most)

-- an entry that names one of them, with a choice that is allowed
pub record MayBeTried (c : List Message) (at : ℕ) (e : Entry) : Type 0 where
  pub pending : IsPending c at e.at
  pub choice : IsChoice c e

-- the numbers and one more
abbrev pub IsOneMore : (old : List ℕ) → (number : ℕ) → (new : List ℕ) → Type 0
IsOneMore old number new = (p : ℕ) → Contains new p ↔ (Contains old p ⊎ (number ≡ p))

-- the numbers without this one
abbrev pub IsOneLess : (old : List ℕ) → (number : ℕ) → (new : List ℕ) → Type 0
IsOneLess old number new = (p : ℕ) → Contains new p ↔ (Contains old p × (number ≢ p))

-- this message answers no tree request
abbrev pub AnswersNone : List Message → (at : ℕ) → Type 0
AnswersNone c at = (p : ℕ) → IsTreeRequestAt c p → IsAnsweredBy c p at → ⊥

-- ---- what is held at a message

-- Some entries come to the configuration: they lead from the first tree to its tree, and hold exactly what is done.
pub record IsReached (c : List Message) (first : TreeState) (at : ℕ) (x : PlainConfiguration) : Type 0 where
  pub entries : List Entry
  pub rightly : EachPlaced c entries
  pub run : Runs first x.tree c entries
  pub exact : (p : ℕ) → Contains (numbers entries) p ↔ IsDoneAt c at x.placed p

-- each request of these entries that is answered at any time is done, or in the rest
abbrev pub AreDoneOrIn : List Message → (Done : ℕ → Type 0) → (rest es : List Entry) → Type 0
AreDoneOrIn c Done rest es = (p q : ℕ) → IsAnsweredBy c p q → Contains (numbers es) p → Done p ⊎ Contains (numbers rest) p

-- Entries that lead to this tree go on from one of these configurations: some rest leads from it to the same tree, but for openings of no use,
-- and with it no answered request of theirs is left out.
pub record HasRest (c : List Message) (at : ℕ) (held : List PlainConfiguration) (es : List Entry) (last : TreeState) : Type 0 where
  pub from : PlainConfiguration
  pub there : Contains held from
  pub rest : List Entry
  pub to : TreeState
  pub on : GoesOn c (IsDoneAt c at from.placed) from.tree to rest
  pub alike : AreAlike (IsUsedFrom c at) last to
  pub kept : AreDoneOrIn c (IsDoneAt c at from.placed) rest es

-- The configurations that a search holds at a message: entries come to each, and whatever explains the replies before that message goes on
-- from one of them.
pub record AreHeld (c : List Message) (first : TreeState) (at : ℕ) (held : List PlainConfiguration) : Type 0 where
  pub reached : (x : PlainConfiguration) → Contains held x → IsReached c first at x
  pub complete : (es : List Entry) (last : TreeState) → Explains c first at es → Runs first last c es → HasRest c at held es last

-- ---- requests that leave the tree

-- by what came of it the call leaves each tree as it is: it failed; or it only reads, its answer gives no node, and it opens no directory anew
abbrev pub KeepsTrees : PlainCall → Type 0
KeepsTrees call = IsFailure (ended call.operation) ⊎ (OnlyReads call.operation × (names_given call ≡ []) × (opens_anew call ≡ false))

-- the node was given first by this reply or an earlier one; the root is never given
abbrev pub IsGivenUpTo : (reply : ℕ) → NodeName → Type 0
IsGivenUpTo reply Root = ⊥
IsGivenUpTo reply (Given by id) = by ≤ reply

-- the call only reads and opens no directory anew, and each node that its answer gives was given first by this reply or an earlier one
abbrev pub GivesUpTo : (reply : ℕ) → PlainCall → Type 0
GivesUpTo reply call = OnlyReads call.operation × (opens_anew call ≡ false) × All (IsGivenUpTo reply) (names_given call)

-- the tree knows the node: its name stands for a file
abbrev pub IsKnown : NodeName → TreeState → Type 0
IsKnown name tree = (file : FileId) × (file_of tree name ≡ Some file)

-- behind each step that the request at p has, the tree knows the node
abbrev pub MakesKnown : List Message → (p : ℕ) → NodeName → Type 0
MakesKnown c p name = (old new : TreeState) (e : Entry) → e.at ≡ p → EntrySteps old new c e → IsKnown name new

-- The tree knows what was given: each node that a step of a request makes known, of one which was answered before this message, or of one of
-- these. So it is of each tree to which entries with these requests lead (`knows_reached`).
abbrev pub KnowsGiven : List Message → (at : ℕ) → (Placed : ℕ → Type 0) → TreeState → Type 0
KnowsGiven c at Placed tree = (p : ℕ) (name : NodeName) → IsAnsweredTree c at p ⊎ Placed p → MakesKnown c p name → IsKnown name tree

-- each node that the one tree knows the other knows
abbrev pub KnowsAsMuch : (tree other : TreeState) → Type 0
KnowsAsMuch tree other = (name : NodeName) → IsKnown name tree → IsKnown name other

-- a step of the request at p leaves this tree as it is, and each that knows as much, such as those to which entries lead from it
abbrev pub LeavesFrom : List Message → TreeState → (p : ℕ) → Type 0
LeavesFrom c tree p = (later new : TreeState) (e : Entry) → KnowsAsMuch tree later → e.at ≡ p → EntrySteps later new c e → new ≡ later

-- it does so from the tree of the configuration, if that knows what was given
abbrev pub LeavesIfKnown : List Message → (at : ℕ) → PlainConfiguration → (p : ℕ) → Type 0
LeavesIfKnown c at x p = KnowsGiven c at (Contains x.placed) x.tree → LeavesFrom c x.tree p

-- The request at p leaves the tree as it is, and each that knows as much, and the tree knows what its steps make known.
pub record IsIdleIn (c : List Message) (tree : TreeState) (p : ℕ) : Type 0 where
  pub leaves : LeavesFrom c tree p
  pub knows : (name : NodeName) → MakesKnown c p name → IsKnown name tree

-- The configuration has this tree, but for openings of no use, and of the requests in flight those are placed in it that are answered at
-- any time, and of others only such as leave this tree and each later one. So whatever goes on where these requests are placed goes on from
-- it: those that leave the tree may be placed at once, and those without an answer later.
pub record IsAhead (c : List Message) (at : ℕ) (Placed : ℕ → Type 0) (tree : TreeState) (x : PlainConfiguration) : Type 0 where
  pub same : AreAlike (IsUsedFrom c at) tree x.tree
  pub all : (p q : ℕ) → IsAnsweredBy c p q → Placed p → Contains x.placed p
  pub others : (p : ℕ) → Contains x.placed p → Placed p ⊎ IsIdleIn c tree p

-- it is so if the tree knows what was given
abbrev pub IsAheadIfKnown : List Message → (at : ℕ) → (Placed : ℕ → Type 0) → TreeState → PlainConfiguration → Type 0
IsAheadIfKnown c at Placed tree x = KnowsGiven c at Placed tree → IsAhead c at Placed tree x

-- ---- what is settled where a reply comes

-- One of these two lists has what the entry leads to from the configuration, or what is ahead of that, if the tree to which it leads knows
-- what was given.
pub record IsFollowed (c : List Message) (at : ℕ) (x : PlainConfiguration) (e : Entry) (new : TreeState) (work settled : List PlainConfiguration) : Type 0 where
  pub to : PlainConfiguration
  pub there : Contains work to ⊎ Contains settled to
  pub ahead : IsAheadIfKnown c at (OrThis (Contains x.placed) e.at) new to

-- whatever may be tried from the configuration, and has a step, leads to one of these, if the tree to which it leads knows what was given
abbrev pub IsSpent : List Message → (at : ℕ) → PlainConfiguration → (work settled : List PlainConfiguration) → Type 0
IsSpent c at x work settled =
    (e : Entry) (new : TreeState) → MayBeTried c at e → (Contains x.placed e.at → ⊥) → EntrySteps x.tree new c e → IsFollowed c at x e new work settled

-- Two lists of configurations while the request at `asked` is settled, which was answered: it is not placed in those of the first, and is in
-- those of the second. Each that was held is among them, and entries come to each.
pub record AreSettling (c : List Message) (first : TreeState) (at asked : ℕ) (held work settled : List PlainConfiguration) : Type 0 where
  pub begun : (x : PlainConfiguration) → Contains held x → Contains work x ⊎ Contains settled x
  pub waiting : (x : PlainConfiguration) → Contains work x → Contains x.placed asked → ⊥
  pub placed : (x : PlainConfiguration) → Contains settled x → Contains x.placed asked
  pub reached : (x : PlainConfiguration) → Contains work x ⊎ Contains settled x → IsReached c first at x

-- each of these is spent
abbrev pub AreSpent : List Message → (at : ℕ) → (those work settled : List PlainConfiguration) → Type 0
AreSpent c at those work settled = (x : PlainConfiguration) → Contains those x → IsSpent c at x work settled

-- the configuration without this request, which is placed in it
abbrev pub IsWithout : (old : PlainConfiguration) → (asked : ℕ) → (new : PlainConfiguration) → Type 0
IsWithout old asked new = (new.tree ≡ old.tree) × IsOneLess old.placed asked new.placed

-- these are all of them without the request
pub record AreWithout (settled : List PlainConfiguration) (asked : ℕ) (held : List PlainConfiguration) : Type 0 where
  pub each : (y : PlainConfiguration) → Contains held y → (x : PlainConfiguration) × Contains settled x × IsWithout x asked y
  pub all : (x : PlainConfiguration) → Contains settled x → (y : PlainConfiguration) × Contains held y × IsWithout x asked y
