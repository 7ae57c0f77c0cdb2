use Rattle.std.proofs.Common.{inl, inr}
use Rattle.std.proofs.lemmas.Result.{IfOk-weaker}
use Rattle.fa_reasons.proofs.explaining.run_explain.Goals as goal

-- without a tree, by an order

pub returns-in-Some-order-clause-end : goal.returns-in-Some-order-clause-end
returns-in-Some-order-clause-end g c =
    rw (c.in_default.is, c.in-Some-order.is)
    (IfOk-weaker c.explain_order_on_empty_root.result _ _ (λ status ends. (ends.0, tt, ends.1)) c.explain_order_on_empty_root.ensures.end)

pub returns-in-Some-order-clause-capture_first : goal.returns-in-Some-order-clause-capture_first
returns-in-Some-order-clause-capture_first g c =
    rw (c.in_default.is, c.in-Some-order.is) (λ failed. (tt, c.explain_order_on_empty_root.ensures.capture_first failed))

pub returns-in-Some-order-clause-read : goal.returns-in-Some-order-clause-read
returns-in-Some-order-clause-read g c =
    rw (c.in_default.is, c.in-Some-order.is)
    (λ read. elim (c.explain_order_on_empty_root.ensures.read read) [
      | inl capture ↦ inl capture
      | inr order ↦ inr (inr order)
    ])

pub returns-in-Some-order-clause-failed : goal.returns-in-Some-order-clause-failed
returns-in-Some-order-clause-failed g c =
    rw (c.in_default.is, c.in-Some-order.is)
    (λ failed. elim failed [
      | inl capture ↦ c.explain_order_on_empty_root.ensures.failed (inl capture)
      | inr (inl none) ↦ absurd none
      | inr (inr order) ↦ c.explain_order_on_empty_root.ensures.failed (inr order)
    ])

-- with a tree, by the order that is proposed

pub returns-in_default-order-clause-end : goal.returns-in_default-order-clause-end
returns-in_default-order-clause-end g c =
    rw (c.in-Some.is, c.in_default-order.is)
    (IfOk-weaker c.explain_proposal_on_tree.result _ _ (λ status ends. (ends.0, ends.1, tt)) c.explain_proposal_on_tree.ensures.end)

pub returns-in_default-order-clause-capture_first : goal.returns-in_default-order-clause-capture_first
returns-in_default-order-clause-capture_first g c =
    rw (c.in-Some.is, c.in_default-order.is) (λ failed. (c.explain_proposal_on_tree.ensures.capture_first failed, tt))

pub returns-in_default-order-clause-read : goal.returns-in_default-order-clause-read
returns-in_default-order-clause-read g c =
    rw (c.in-Some.is, c.in_default-order.is)
    (λ read. elim (c.explain_proposal_on_tree.ensures.read read) [
      | inl capture ↦ inl capture
      | inr tree ↦ inr (inl tree)
    ])

pub returns-in_default-order-clause-failed : goal.returns-in_default-order-clause-failed
returns-in_default-order-clause-failed g c =
    rw (c.in-Some.is, c.in_default-order.is)
    (λ failed. elim failed [
      | inl capture ↦ c.explain_proposal_on_tree.ensures.failed (inl capture)
      | inr (inl tree) ↦ c.explain_proposal_on_tree.ensures.failed (inr tree)
      | inr (inr none) ↦ absurd none
    ])

-- with a tree, by an order

pub returns-clause-end : goal.returns-clause-end
returns-clause-end g c = rw (c.in-Some.is, c.in-Some-order-2.is) c.explain_order_on_tree.ensures.end

pub returns-clause-capture_first : goal.returns-clause-capture_first
returns-clause-capture_first g c = rw (c.in-Some.is, c.in-Some-order-2.is) c.explain_order_on_tree.ensures.capture_first

pub returns-clause-tree_first : goal.returns-clause-tree_first
returns-clause-tree_first g c = rw (c.in-Some.is, c.in-Some-order-2.is) c.explain_order_on_tree.ensures.tree_first

pub returns-clause-read : goal.returns-clause-read
returns-clause-read g c = rw (c.in-Some.is, c.in-Some-order-2.is) c.explain_order_on_tree.ensures.read

pub returns-clause-failed : goal.returns-clause-failed
returns-clause-failed g c = rw (c.in-Some.is, c.in-Some-order-2.is) c.explain_order_on_tree.ensures.failed
