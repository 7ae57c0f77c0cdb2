-- What holds of orders and verdicts.
use Rattle.std.specs.Prelude.{◌≡◌, ◌↔◌, ℕ, ◌≤◌, List, length, take, Contains}
use Rattle.fa_capture.specs.declared.codes.TheConstants.{UNKNOWN_HERE}
use Rattle.fa_capture.specs.Message.{Message}
use Rattle.fa_ledger.specs.Passing.{AreGood}
use Rattle.fa_tree.specs.State.{TreeState}
use Rattle.fa_tree.specs.Making.{HasMadeNone}
use Rattle.fa_order.specs.declared.entry.Entry.{Entry}
use Rattle.fa_check.specs.declared.verdict.Verdict.{Verdict}
use Rattle.fa_check.specs.declared.verdict.Verdict.TheVariants.{Legal}
use Rattle.fa_check.specs.Orders.{numbers, IsValidOrder}
use Rattle.fa_check.specs.Runs.{Runs, IsLegalRun, HasOrder}
use Rattle.fa_check.specs.Faults.{EachPlaced, IsAnsweredUnplaced, IsOrderAtFault}
use Rattle.fa_check.specs.Verdicts.{IsVerdict}
use Rattle.fa_check.specs.Cuts.{IsCut, Explains}

-- An order is valid exactly where each entry passes the checks of its place after those before it, and none that was answered
-- is left out.
abbrev pub ValidWhereEachIsPlaced : Type 0
ValidWhereEachIsPlaced =
    (c : List Message) (es : List Entry)
    → IsValidOrder c es ↔ (EachPlaced c es × ((p : ℕ) → IsAnsweredUnplaced c es p → ⊥))

-- From a tree the entries lead to one other at most.
abbrev pub RunIsOne : Type 0
RunIsOne =
    (c : List Message) (first last other : TreeState) (es : List Entry) → Runs first last c es → Runs first other c es → last ≡ other

-- A legal run has no entry at fault, and leaves none out.
abbrev pub LegalHasNoFault : Type 0
LegalHasNoFault =
    (c : List Message) (first : TreeState) (es : List Entry) (entry at code : ℕ)
    → IsLegalRun c first es → IsOrderAtFault c first es entry at code → ⊥

-- Messages, a first tree and an order have one verdict at most.
abbrev pub VerdictIsOne : Type 0
VerdictIsOne =
    (c : List Message) (first : TreeState) (es : List Entry) (verdict other : Verdict)
    → IsVerdict c first es verdict → IsVerdict c first es other → verdict ≡ other

-- Good messages, a first tree and an order have never no verdict.
abbrev pub VerdictIsThere : Type 0
VerdictIsThere =
    (c : List Message) (first : TreeState) (es : List Entry) → AreGood c
    → ((verdict : Verdict) → IsVerdict c first es verdict → ⊥) → ⊥

-- The tree knows what the call of an entry names, where the entry's place is right: a file for each node, and the open directory
-- for a handle. An answer before the entry's request gave these, and the request of that answer is placed before the entry. So
-- none is at fault with this code, whatever the messages and the first tree.
abbrev pub NeverUnknownHere : Type 0
NeverUnknownHere =
    (c : List Message) (first : TreeState) (es : List Entry) (entry at : ℕ) → IsOrderAtFault c first es entry at UNKNOWN_HERE → ⊥

-- A run makes no file of a request that no entry names: where the request had made none in the first tree, it has made none in the
-- last. So from a tree in which no request has made a file, an entry that is placed for the first time is never refused for a file
-- that its own request made. The premise is needed: MKDIR by request 2, not answered, and RMDIR by request 3 leave a tree that has
-- the file of 2 still, and from that tree an entry for 2 is at fault with code 81.
abbrev pub UnplacedMakesNone : Type 0
UnplacedMakesNone =
    (c : List Message) (first last : TreeState) (es : List Entry) (asked : ℕ)
    → HasMadeNone first.store asked → Runs first last c es → (Contains (numbers es) asked → ⊥) → HasMadeNone last.store asked

-- The prefix law: an order that is a legal run of the messages is, cut at any message, a legal run of the messages before it.
abbrev pub CutIsLegal : Type 0
CutIsLegal =
    (c : List Message) (first : TreeState) (es cut : List Entry) (m : ℕ)
    → IsLegalRun c first es → IsCut c m es cut → IsLegalRun (take m c) first cut

-- The prefix law for entries that need not hold all answers: where they explain the replies before a message of good messages,
-- what is left of them, cut at that message, is a legal run of the messages before it.
abbrev pub ExplainedIsLegalCut : Type 0
ExplainedIsLegalCut =
    (c : List Message) (first : TreeState) (es cut : List Entry) (m : ℕ)
    → AreGood c → Explains c first m es → IsCut c m es cut → IsLegalRun (take m c) first cut

-- What is legal explains the replies before each message.
abbrev pub LegalExplains : Type 0
LegalExplains = (c : List Message) (first : TreeState) (es : List Entry) (m : ℕ) → IsLegalRun c first es → Explains c first m es

-- Of good messages entries that explain all replies are legal.
abbrev pub ExplainsAllIsLegal : Type 0
ExplainsAllIsLegal = (c : List Message) (first : TreeState) (es : List Entry) → AreGood c → Explains c first (length c) es → IsLegalRun c first es

-- Entries that are each placed rightly, cut at a message, and cut again at that one or an earlier one, are the entries cut there.
abbrev pub CutAgain : Type 0
CutAgain =
    (c : List Message) (k m : ℕ) (es cut again : List Entry)
    → k ≤ m → EachPlaced c es → IsCut c m es cut → IsCut (take m c) k cut again → IsCut c k es again

-- Messages whose first ones have no order have none, however they go on: what has an order keeps one in each of its fronts.
abbrev pub NoOrderStays : Type 0
NoOrderStays = (c : List Message) (first : TreeState) (m : ℕ) → (HasOrder (take m c) first → ⊥) → HasOrder c first → ⊥

-- An order has one cut at a message at most.
abbrev pub CutIsOne : Type 0
CutIsOne = (c : List Message) (m : ℕ) (es cut other : List Entry) → IsCut c m es cut → IsCut c m es other → cut ≡ other

-- Of good messages an order has never no cut.
abbrev pub CutIsThere : Type 0
CutIsThere = (c : List Message) (m : ℕ) (es : List Entry) → AreGood c → ((cut : List Entry) → IsCut c m es cut → ⊥) → ⊥

-- So the verdict of a legal order that is cut is, for the messages before, that it is legal.
abbrev pub CutIsToldLegal : Type 0
CutIsToldLegal =
    (c : List Message) (first : TreeState) (es cut : List Entry) (m : ℕ) (verdict : Verdict)
    → IsLegalRun c first es → IsCut c m es cut → IsVerdict (take m c) first cut verdict
    → (messages placed left : ℕ) × (verdict ≡ Legal messages placed left)
