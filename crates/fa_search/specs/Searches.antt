-- What a search of all orders finds: the message past which none goes where none is legal, and why; how far it came; and an order.
use Rattle.std.specs.Prelude.{◌≡◌, ℕ, ◌+◌, ◌-◌, ◌^◌, ◌<◌, ◌≤◌, List, length, take, Contains, All, Option, None, Some}
use Rattle.std.specs.List.Sorted.{IsStrictlyIncreasing}
use Rattle.fa_capture.specs.Message.{Message}
use Rattle.fa_bodies.specs.Dirents.{PlainDirent}
use Rattle.fa_session.specs.Answers.{IsAnsweredBy}
use Rattle.fa_ledger.specs.Passing.{AreGood}
use Rattle.fa_ledger.specs.declared.call.Listing.{Listing}
use Rattle.fa_ledger.specs.Calls.{PlainCall}
use Rattle.fa_tree.specs.State.{TreeState}
use Rattle.fa_tree.specs.Alike.{AreAlike}
use Rattle.fa_order.specs.declared.entry.Entry.{Entry}
use Rattle.fa_check.specs.Orders.{IsTreeRequestAt, IsChoice, numbers}
use Rattle.fa_check.specs.Runs.{IsCallAt, HasOrder}
use Rattle.fa_check.specs.Faults.{StepFails}
use Rattle.fa_check.specs.Cuts.{IsAnsweredBefore, Explains}
use Rattle.fa_check.specs.Verdicts.{IsLegalWith}
use Rattle.fa_search.specs.declared.budget.Budget.{Budget}
use Rattle.fa_search.specs.declared.coming.Alternatives.{Alternatives}
use Rattle.fa_search.specs.declared.finding.Finding.{Finding}
use Rattle.fa_search.specs.declared.finding.Finding.TheVariants.{Found}

-- ---- no order

-- No order of these messages is legal from this first tree. Messages that are not good have none either.
abbrev pub HasNoOrder : List Message → TreeState → Type 0
HasNoOrder c first = HasOrder c first → ⊥

-- The messages are good; some entries explain all replies before this one, and none explain its own and those before it. What entries
-- hold is judged by its reply, whenever that came: of a request in flight at this message the reply that comes later is known.
pub record IsStop (c : List Message) (first : TreeState) (at : ℕ) : Type 0 where
  pub good : AreGood c
  pub within : at < length c
  pub before : (es : List Entry) × Explains c first at es
  pub none : (es : List Entry) → Explains c first (at + 1) es → ⊥

-- The messages before this one, as a capture of their own, have an order, and those up to and with it have none. There the replies of
-- requests in flight are cut off, so this message may be a later one than that past which no order of all messages goes.
pub record IsFirstWithout (c : List Message) (first : TreeState) (at : ℕ) : Type 0 where
  pub within : at < length c
  pub before : HasOrder (take at c) first
  pub none : HasNoOrder (take (at + 1) c) first

-- ---- what may come behind a message

-- the tree request at p may be named by an order: it does not only read, or it is answered
abbrev pub MayBeNamed : List Message → (p : ℕ) → Type 0
MayBeNamed c p = IsTreeRequestAt c p × ((wrote : Option ℕ) × IsChoice c (record { at = p; wrote = wrote }))

-- An opening of a directory is of use from this message on: a tree request lists on the handle that the request at `opened` opened, was
-- not answered before the message, and may be named by an order.
pub record IsUsedFrom (c : List Message) (at opened : ℕ) : Type 0 where
  pub asked : ℕ
  pub call : PlainCall
  pub so_far : List PlainDirent
  pub of_request : IsCallAt c asked call so_far
  pub listing : Listing
  pub lists : call.listing ≡ Some listing
  pub on : call.handle ≡ Some opened
  pub waits : IsAnsweredBefore c at asked → ⊥
  pub named : MayBeNamed c asked

-- ---- the refusal

-- Some entries come to the reply at this message: they explain all replies before it, lead to this tree, and leave out the tree request
-- at `asked`, which it answers.
pub record ComesTo (c : List Message) (first : TreeState) (at : ℕ) (es : List Entry) (tree : TreeState) (asked : ℕ) : Type 0 where
  pub explains : Explains c first at es
  pub leads : tree ≡ explains.last
  pub tree_request : IsTreeRequestAt c asked
  pub answered : IsAnsweredBy c asked at
  pub left_out : Contains (numbers es) asked → ⊥

-- from this tree the tree request at `asked`, taken without a count as one that was answered, is refused with this code
abbrev pub IsRefusedFrom : TreeState → List Message → (asked code : ℕ) → Type 0
IsRefusedFrom tree c asked code = StepFails tree c (record { at = asked; wrote = None }) code

-- The request that this message answers is refused with this code after some entries that come to it. Others may go past it, unless no
-- order does.
abbrev pub IsRefusedWith : List Message → TreeState → (at code : ℕ) → Type 0
IsRefusedWith c first at code =
    (es : List Entry) × (tree : TreeState) × (asked : ℕ) × ComesTo c first at es tree asked × IsRefusedFrom tree c asked code

-- These are all codes with which it is refused, after whatever entries come to it, each once.
pub record AreCodesAt (c : List Message) (first : TreeState) (at : ℕ) (codes : List ℕ) : Type 0 where
  pub rising : IsStrictlyIncreasing codes
  pub each : (code : ℕ) → Contains codes code → IsRefusedWith c first at code
  pub complete : (code : ℕ) → IsRefusedWith c first at code → Contains codes code

-- It is refused with this code, and with none that is less.
pub record IsLeastCode (c : List Message) (first : TreeState) (at code : ℕ) : Type 0 where
  pub refused : IsRefusedWith c first at code
  pub least : (other : ℕ) → IsRefusedWith c first at other → code ≤ other

-- ---- what was alive where no order goes on

-- each of these orders comes to the reply at this message, to some tree
abbrev pub EachComesTo : List Message → (first : TreeState) → (at : ℕ) → Alternatives → Type 0
EachComesTo c first at found = All (λ order. (tree : TreeState) × (asked : ℕ) × ComesTo c first at order.items tree asked) found.orders.items

-- To these trees entries come at this message, and to no others, but for openings of directories that are of no use from there on. Some
-- may stand there more than once.
pub record AreTreesTo (c : List Message) (first : TreeState) (at : ℕ) (trees : List TreeState) : Type 0 where
  pub each : (tree : TreeState) → Contains trees tree → (es : List Entry) × (asked : ℕ) × ComesTo c first at es tree asked
  pub complete : (es : List Entry) (tree : TreeState) (asked : ℕ) → ComesTo c first at es tree asked
      → (other : TreeState) × Contains trees other × AreAlike (IsUsedFrom c at) tree other

-- entries come to so many trees at this message, or to fewer where some of these are alike
abbrev pub ComeToSoMany : List Message → (first : TreeState) → (at count : ℕ) → Type 0
ComeToSoMany c first at count = (trees : List TreeState) × AreTreesTo c first at trees × (length trees ≡ count)

-- ---- how far a search has come

-- The message answers a tree request, and some entries explain all replies before it. Whether any explain its own too is not said.
pub record IsExplainedUpTo (c : List Message) (first : TreeState) (at : ℕ) : Type 0 where
  pub asked : ℕ
  pub tree_request : IsTreeRequestAt c asked
  pub answered : IsAnsweredBy c asked at
  pub entries : List Entry
  pub explains : Explains c first at entries

-- Of each two tree requests that were sent before this message, and that an order may name, the earlier one is answered before the later
-- one is sent.
abbrev pub AreSerialBefore : List Message → (at : ℕ) → Type 0
AreSerialBefore c at = (p later : ℕ) → MayBeNamed c p → MayBeNamed c later → p < later → later < at → (q : ℕ) × IsAnsweredBy c p q × (q < later)

-- ---- how much it may take

-- A budget without an end: as many steps, trees and bytes as can be counted. A search with it never gives up.
pub record IsEndless (budget : Budget) : Type 0 where
  pub steps : budget.steps ≡ 2 ^ 64 - 1
  pub trees : budget.trees ≡ 2 ^ 64 - 1
  pub bytes : budget.bytes ≡ 2 ^ 64 - 1

-- ---- an order

-- the order that was found, if one was, is legal, with the numbers of its entries and of what it leaves out
abbrev pub IfLegal : List Message → (first : TreeState) → Finding → Type 0
IfLegal c first (Found order placed left) = IsLegalWith c first order.items (length c) placed left
IfLegal c first other = Unit {0}

-- what was found is this order
abbrev pub IsFound : List Entry → Finding → Type 0
IsFound es (Found order placed left) = order.items ≡ es
IsFound es other = ⊥
