-- The parts of the audit make its answer.
use Rattle.std.proofs.Common.{◌≡◌, ℕ, ◌⊎◌, List, Option, Result, Ok, Err, refl, sym, subst, ◌∙◌, inl, inr}
use Rattle.fa_capture.specs.Message.{Message, messages}
use Rattle.fa_ledger.specs.declared.calls.Calls.{Calls}
use Rattle.fa_ledger.specs.Passing.{IsGoodCapture}
use Rattle.fa_tree.specs.State.{TreeState}
use Rattle.fa_order.specs.declared.entry.Entry.{Entry}
use Rattle.fa_order.specs.Order.{IsOrderText}
use Rattle.fa_check.specs.declared.verdict.Verdict.{Verdict}
use Rattle.fa_check.specs.declared.verdict.Verdict.TheVariants.{Legal, Fault, NotShown}
use Rattle.fa_check.specs.Verdicts.{IsVerdict}
use Rattle.fa_audit.specs.declared.verdict.AuditError.{AuditError}
use Rattle.fa_audit.specs.declared.verdict.AuditError.TheVariants.{OrderText, TreeText, Memory}
use Rattle.fa_audit.specs.declared.verdict.StartError.{StartError}
use Rattle.fa_audit.specs.declared.verdict.StartError.TheVariants as starts
use Rattle.fa_audit.specs.Verdict.{IsGivenTree, IsAnswer, Exactly}
use Rattle.fa_audit.specs.Laws.{OneAnswer}
use Rattle.fa_audit.specs.Proposed.{answer_of}
use Rattle.fa_audit.specs.declared.protocol.Broken.{Broken}
use Rattle.fa_audit.specs.declared.protocol.Broken.TheVariants as broken
use Rattle.fa_audit.specs.Starts.{IsStartOf, IsNoStart, IsOrderRefused}
use Rattle.fa_audit.specs.parts.Answers.{Tells, AreCallsOf, IsCaptureRefused, start_refused, IsTreeRefused}

-- ---- the answer is the only one

-- what is told is the answer, or that memory was refused
told_cases : (capture : List ℕ) (tree : Option (List ℕ)) (order : List ℕ) (result : Result Verdict AuditError) → Tells capture tree order result → (result ≡ Err Memory) ⊎ IsAnswer capture tree order result
told_cases capture tree order (Ok verdict) tells = inr tells
told_cases capture tree order (Err (TreeText line)) tells = inr tells
told_cases capture tree order (Err (OrderText line)) tells = inr tells
told_cases capture tree order (Err Memory) tells = inl refl

pub exactly : OneAnswer → (capture : List ℕ) (tree : Option (List ℕ)) (order : List ℕ) (result answer : Result Verdict AuditError) → Tells capture tree order result → (answer ≡ Err Memory → ⊥) → Exactly result answer (IsAnswer capture tree order answer)
exactly one capture tree order result answer tells apart = record {
  only = λ same. elim (told_cases capture tree order result tells) [
    | inl memory ↦ absurd (apart (sym same ∙ memory))
    | inr is ↦ subst (IsAnswer capture tree order) same is
  ];
  always = λ is. elim (told_cases capture tree order result tells) [
    | inl memory ↦ inr memory
    | inr told ↦ inl (one capture tree order result answer told is)
  ];
}

abbrev given : Verdict → Result Verdict AuditError
given verdict = Ok verdict

abbrev refused : AuditError → Result Verdict AuditError
refused error = Err error

pub verdict_apart : (verdict : Verdict) → given verdict ≡ refused Memory → ⊥
verdict_apart verdict same = absurd cc

pub tree_line_apart : (line : ℕ) → refused (TreeText line) ≡ refused Memory → ⊥
tree_line_apart line same = absurd cc

pub order_line_apart : (line : ℕ) → refused (OrderText line) ≡ refused Memory → ⊥
order_line_apart line same = absurd cc

-- ---- the verdict on an order

-- what is answered of an order, as an answer of the audit
pub verdict_told : (capture : List ℕ) (tree : Option (List ℕ)) (order : List ℕ) (c : List Message) (first : TreeState) (es : List Entry) (verdict : Verdict)
    → IsGoodCapture capture c → IsGivenTree tree first → IsOrderText order es → IsVerdict c first es verdict → IsAnswer capture tree order (Ok verdict)
verdict_told capture tree order c first es (Legal messages placed left) good given text is =
    record {
      messages = c;
      first = first;
      last = is.legal.last;
      entries = es;
      good = good;
      given = given;
      text = text;
      valid = is.legal.valid;
      run = is.legal.run;
      count_is = is.messages_are;
      placed_are = is.placed_are;
      left_are = is.left_are;
    }
verdict_told capture tree order c first es (Fault at code) good given text is = absurd is
verdict_told capture tree order c first es (NotShown entry at code) good given text is =
    record { messages = c; first = first; entries = es; good = good; given = given; text = text; fault = is }

-- a fault of the order text
pub order_told : (capture : List ℕ) (tree : Option (List ℕ)) (order : List ℕ) (c : List Message) (first : TreeState) (error : AuditError)
    → IsGoodCapture capture c → IsGivenTree tree first → IsOrderRefused order error → Tells capture tree order (Err error)
order_told capture tree order c first (OrderText line) good given fault = record { messages = c; first = first; good = good; given = given; fault = fault }
order_told capture tree order c first (TreeText line) good given fault = absurd fault
order_told capture tree order c first Memory good given fault = tt

-- ---- what an order starts with

-- they and the given tree are a start
pub start_of : (bytes : List ℕ) (tree : Option (List ℕ)) (calls : Calls) (first : TreeState) → AreCallsOf bytes calls → IsGivenTree tree first → IsStartOf bytes tree calls first
start_of bytes tree calls first of is_given = record { messages = of.messages; good = of.good; are = of.are; given = is_given }

-- a capture that is refused is no start
pub capture_no_start : (capture : List ℕ) (tree : Option (List ℕ)) (b : Broken) → IsCaptureRefused capture b → IsNoStart capture tree (start_refused b)
capture_no_start capture tree (broken.Fault at code) fault = fault
capture_no_start capture tree broken.Memory fault = tt

-- a fault of the tree text behind a good capture
pub tree_no_start : (capture : List ℕ) (tree : Option (List ℕ)) (c : List Message) (error : StartError) → IsGoodCapture capture c → IsTreeRefused tree error → IsNoStart capture tree error
tree_no_start capture tree c (starts.Fault at code) good refused = absurd refused
tree_no_start capture tree c (starts.TreeText line) good refused = record { messages = c; text = refused.0; good = good; handed_in = refused.1; fault = refused.2 }
tree_no_start capture tree c starts.Memory good refused = tt

-- of memory nothing is said
pub memory_no_start : (capture : List ℕ) (tree : Option (List ℕ)) (error : StartError) → error ≡ starts.Memory → IsNoStart capture tree error
memory_no_start capture tree error memory = rw memory tt

-- where there is no start, the audit tells it
pub no_start_told : (capture : List ℕ) (tree : Option (List ℕ)) (order : List ℕ) (error : StartError) → IsNoStart capture tree error → Tells capture tree order (answer_of error)
no_start_told capture tree order (starts.Fault at code) fault = fault
no_start_told capture tree order (starts.TreeText line) fault = fault
no_start_told capture tree order starts.Memory fault = tt
