-- What holds of messages without an order.
use Rattle.std.specs.Prelude.{◌≡◌, ◌↔◌, ℕ, ◌≤◌, List, [], ◌∷◌, length, take}
use Rattle.fa_capture.specs.Message.{Message}
use Rattle.fa_ledger.specs.Passing.{AreGood}
use Rattle.fa_tree.specs.State.{TreeState}
use Rattle.fa_order.specs.declared.entry.Entry.{Entry}
use Rattle.fa_check.specs.Runs.{IsLegalRun}
use Rattle.fa_check.specs.Cuts.{Explains}
use Rattle.fa_search.specs.Searches.{HasNoOrder, IsStop, IsFirstWithout, ComesTo, IsRefusedFrom, AreCodesAt}

-- Of good messages entries are legal exactly where they explain all replies.
abbrev pub LegalExplainsAll : Type 0
LegalExplainsAll = (c : List Message) (first : TreeState) (es : List Entry) → AreGood c → IsLegalRun c first es ↔ Explains c first (length c) es

-- Where entries explain the replies before a message of good messages, the messages before it have never no order: that of the entries
-- that are cut there (`ExplainedIsLegalCut` of fa_check).
abbrev pub ExplainedFrontHasOrder : Type 0
ExplainedFrontHasOrder = (c : List Message) (first : TreeState) (m : ℕ) (es : List Entry) → AreGood c → Explains c first m es → HasNoOrder (take m c) first → ⊥

-- ---- the message past which no order goes

-- Messages and a first tree have one at most,
abbrev pub StopIsOne : Type 0
StopIsOne = (c : List Message) (first : TreeState) (at other : ℕ) → IsStop c first at → IsStop c first other → at ≡ other

-- and where they have one, they have no order.
abbrev pub StopHasNoOrder : Type 0
StopHasNoOrder = (c : List Message) (first : TreeState) (at : ℕ) → IsStop c first at → HasNoOrder c first

-- Good messages without an order have never none.
abbrev pub StopIsThere : Type 0
StopIsThere = (c : List Message) (first : TreeState) → AreGood c → HasNoOrder c first → ((at : ℕ) → IsStop c first at → ⊥) → ⊥

-- Whatever entries explain the replies before it come to it: they leave out a tree request that it answers.
abbrev pub StopIsComeTo : Type 0
StopIsComeTo =
    (c : List Message) (first : TreeState) (at : ℕ) (es : List Entry) (explained : Explains c first at es)
    → IsStop c first at → ((asked : ℕ) → ComesTo c first at es explained.last asked → ⊥) → ⊥

-- After all entries that come to it, that request is refused: never with no code.
abbrev pub StopIsRefused : Type 0
StopIsRefused =
    (c : List Message) (first tree : TreeState) (at asked : ℕ) (es : List Entry) → IsStop c first at → ComesTo c first at es tree asked
    → ((code : ℕ) → IsRefusedFrom tree c asked code → ⊥) → ⊥

-- Where there is one code alone, it is refused with that one after all of them.
abbrev pub OneCodeRefusesAll : Type 0
OneCodeRefusesAll =
    (c : List Message) (first tree : TreeState) (at asked code : ℕ) (es : List Entry)
    → IsStop c first at → AreCodesAt c first at (code ∷ []) → ComesTo c first at es tree asked → (IsRefusedFrom tree c asked code → ⊥) → ⊥

-- ---- the first messages without an order

-- Where the first messages have no order, no more of them have one.
abbrev pub NoneGoesOn : Type 0
NoneGoesOn = (c : List Message) (first : TreeState) (m n : ℕ) → m ≤ n → HasNoOrder (take m c) first → HasNoOrder (take n c) first

-- So there is one message at most with which the first ones have no order any more.
abbrev pub FirstWithoutIsOne : Type 0
FirstWithoutIsOne = (c : List Message) (first : TreeState) (at other : ℕ) → IsFirstWithout c first at → IsFirstWithout c first other → at ≡ other

-- Messages without an order have never none.
abbrev pub FirstWithoutIsThere : Type 0
FirstWithoutIsThere = (c : List Message) (first : TreeState) → HasNoOrder c first → ((at : ℕ) → IsFirstWithout c first at → ⊥) → ⊥

-- ---- both

-- The message past which no order goes comes no later than that with which the first messages have none any more. It may come earlier: at
-- the answer to a READ that came in the midst of a WRITE, with bytes that the count of the WRITE's own answer does not explain, while another
-- count does.
abbrev pub StopComesFirst : Type 0
StopComesFirst =
    (c : List Message) (first : TreeState) (stop at : ℕ) → IsStop c first stop → IsFirstWithout c first at → stop ≤ at
