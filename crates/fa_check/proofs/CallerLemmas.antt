-- The lemmas for the crates above.
use Rattle.std.proofs.Common.{◌≡◌, ℕ, List, Result, Ok}
use Rattle.std.specs.declared.alloc.AllocError.{AllocError}
use Rattle.fa_capture.specs.Message.{Message}
use Rattle.fa_tree.specs.State.{TreeState}
use Rattle.fa_order.specs.declared.entry.Entry.{Entry}
use Rattle.fa_check.specs.declared.verdict.Verdict.{Verdict}
use Rattle.fa_check.specs.declared.verdict.Verdict.TheVariants.{Legal, Fault, NotShown}
use Rattle.fa_check.specs.Faults.{IsOrderAtFault}
use Rattle.fa_check.specs.Verdicts.{IsLegalWith, IsVerdict, Exactly}
-- an order has one verdict
pub use Rattle.fa_check.proofs.VerdictLemmas.{verdict_is_one}
-- and never none, where the messages are good
pub use Rattle.fa_check.proofs.ThereLemmas.{verdict_is_there}
-- a message has one call, an entry leads to one tree, and so does a run
pub use Rattle.fa_check.proofs.RunLemmas.{call_one, entry_is_one, run_is_one, run_more, run_at}
-- the calls of messages
pub use Rattle.fa_check.proofs.MessageLemmas.{call_is_tree, tree_is_call, call_answered, call_unanswered, answered_call, call_of_message, asked_rise, one_place, one_answered}
-- an order is valid exactly where each entry passes the checks of its place
pub use Rattle.fa_check.proofs.OrderLemmas.{valid_where_each_is_placed, placed_valid, number_more, number_still, number_now}
-- one entry more, and an order without a fault
pub use Rattle.fa_check.proofs.EntryLemmas.{each_more, allowed_choice, choice_allowed}
pub use Rattle.fa_check.proofs.FaultLemmas.{placed_no_fault, legal_has_no_fault}
-- a step that is taken fails no check, and the first that one fails is one
pub use Rattle.fa_check.proofs.FaultLemmas.{no_step_failure, one_step_failure}
-- a legal order explains the replies before each message, what explains all replies is legal, and what explains those before a message is
-- so when it is cut there
pub use Rattle.fa_check.proofs.CutRunLemmas.{explained_is_legal_cut, legal_explains, explains_all_is_legal}
-- messages whose first ones have no order have none
pub use Rattle.fa_check.proofs.CutAgainLemmas.{no_order_stays}
-- an order has one cut, of good messages never none, with numbers in range where the order's are
pub use Rattle.fa_check.proofs.CutOneLemmas.{cut_is_one}
pub use Rattle.fa_check.proofs.CutThereLemmas.{cut_is_there}
pub use Rattle.fa_check.proofs.CutRangeLemmas.{cut_in_range}
-- what may come next, and what a replay says of it
pub use Rattle.fa_check.proofs.FrontLemmas.{may_come_next, comes_before_front, replayed_step, refused_no_step, entries_within, all_before_front, left_at_front}

-- what `check` answers is the verdict
pub verdict_told : (c : List Message) (first : TreeState) (es : List Entry) (result : Result Verdict AllocError) (verdict : Verdict) → result ≡ Ok verdict
    → ((messages placed left : ℕ) → Exactly result (Legal messages placed left) (IsLegalWith c first es messages placed left))
    → ((entry at code : ℕ) → Exactly result (NotShown entry at code) (IsOrderAtFault c first es entry at code))
    → ((at code : ℕ) → result ≡ Ok (Fault at code) → ⊥) → IsVerdict c first es verdict
verdict_told c first es result (Legal messages placed left) is legal not_shown never = (legal messages placed left).only is
verdict_told c first es result (Fault at code) is legal not_shown never = never at code is
verdict_told c first es result (NotShown entry at code) is legal not_shown never = (not_shown entry at code).only is
