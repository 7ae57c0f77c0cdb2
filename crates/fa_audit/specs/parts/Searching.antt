-- What a search finds of good messages from a first tree, and what is decided by it.
use Rattle.std.specs.Prelude.{ℕ, List, length, Option, None, IfSome}
use Rattle.fa_capture.specs.Message.{Message}
use Rattle.fa_tree.specs.State.{TreeState}
use Rattle.fa_order.specs.declared.entry.Entry.{Entry}
use Rattle.fa_check.specs.Runs.{IsLegalRun, HasOrder}
use Rattle.fa_check.specs.Verdicts.{IsLegalWith}
use Rattle.fa_propose.specs.Proposals.{IsProposal}
use Rattle.fa_search.specs.Searches.{HasNoOrder, IsStop, IsLeastCode, IsExplainedUpTo, AreSerialBefore}
use Rattle.fa_search.specs.declared.finding.Finding.{Finding}
use Rattle.fa_search.specs.declared.finding.Finding.TheVariants as finding
use Rattle.fa_audit.specs.declared.found.Decision.{Decision}
use Rattle.fa_audit.specs.declared.found.Decision.TheVariants as decided
use Rattle.fa_audit.specs.declared.shortest.Known.{Known}
use Rattle.fa_audit.specs.declared.shortest.Known.TheVariants as known
use Rattle.fa_audit.specs.Searched.{IsShortestWithout}

-- No order goes past the reply at this message, and this is the least code with which its request is refused; so many of the first
-- messages alone have no order, where a number is told.
pub record IsStopWith (c : List Message) (first : TreeState) (at code : ℕ) (shortest : Option ℕ) : Type 0 where
  pub stop : IsStop c first at
  pub least : IsLeastCode c first at code
  pub alone : IfSome shortest (IsShortestWithout c first)

-- Some entries explain all replies before this message, which answers a tree request; requests overlap before it, and the order that is
-- proposed is not legal.
pub record IsGivenUpIn (c : List Message) (first : TreeState) (at : ℕ) : Type 0 where
  pub explained : IsExplainedUpTo c first at
  pub overlaps : AreSerialBefore c at → ⊥
  pub unproposed : (es : List Entry) → IsProposal c first es → IsLegalRun c first es → ⊥

-- what is found,
abbrev pub IsFindingIn : List Message → TreeState → Finding → Type 0
IsFindingIn c first (finding.Found order placed left) = IsLegalWith c first order.items (length c) placed left
IsFindingIn c first (finding.NoOrder at code) = IsStopWith c first at code None
IsFindingIn c first (finding.GaveUp at) = IsGivenUpIn c first at

-- and what is decided by it.
abbrev pub IsDecisionIn : List Message → TreeState → Decision → Type 0
IsDecisionIn c first (decided.Legal order messages placed left) = IsLegalWith c first order.items messages placed left
IsDecisionIn c first (decided.NoOrder at code shortest) = IsStopWith c first at code shortest
IsDecisionIn c first (decided.GaveUp at) = IsGivenUpIn c first at

-- what is known of messages by what is found of them,
abbrev pub known_by : Finding → Known
known_by (finding.Found order placed left) = known.Order
known_by (finding.NoOrder at code) = known.NoOrder
known_by (finding.GaveUp at) = known.Nothing

-- and what that says
abbrev pub IsKnownOf : List Message → TreeState → Known → Type 0
IsKnownOf c first known.Order = HasOrder c first
IsKnownOf c first known.NoOrder = HasNoOrder c first
IsKnownOf c first known.Nothing = Unit {0}
