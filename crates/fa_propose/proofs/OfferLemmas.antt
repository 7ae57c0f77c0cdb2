-- A call is taken in among the entries that may come next.
use Rattle.std.proofs.Common.{◌≡◌, List, None, refl, sym, subst, ◌∙◌, inl, inr}
use Rattle.std.specs.Prelude.{◌≢◌, Contains}
use Rattle.std.specs.BTreeMap.{insert_entry}
use Rattle.fa_ledger.specs.Calls.{PlainCall}
use Rattle.fa_ledger.specs.Choices.{Allows}
use Rattle.fa_ledger.specs.declared.operation.Outcome.TheVariants.{Unanswered}
use Rattle.fa_ledger.specs.Operations.{PlainOperation, ended}
use Rattle.fa_ledger.specs.Operations.PlainAction.{Write}
use Rattle.fa_ledger.specs.Operations.PlainOperation.{Acts}
use Rattle.fa_order.specs.declared.entry.Entry.{Entry}
use Rattle.fa_propose.specs.declared.rank.Rank.{Rank}
use Rattle.fa_propose.specs.Proposals.{count_proposed, entry_of, IsRank}
use Rattle.fa_propose.specs.parts.Candidates.{cmp}
use Rattle.fa_propose.specs.parts.Ready.{IsOffered}
use Rattle.fa_propose.proofs.EntryLemmas.{inserted_there, inserted_stays, inserted_from}
use Rattle.fa_propose.proofs.RankOrderLemmas.{cmp_exact}

-- of what was answered no count is proposed
pub none_proposed : (o : PlainOperation) → ended o ≢ Unanswered → count_proposed o ≡ None
none_proposed (Acts (Write offset size payload Unanswered)) answered = absurd (answered refl)
none_proposed other answered = refl

-- it is taken in at its rank
pub offered : (call : PlainCall) (rank : Rank) (entry : Entry) → IsRank rank call → entry ≡ entry_of call → Allows call entry.wrote
    → (old new : List (Rank × Entry)) → new ≡ insert_entry cmp old rank entry → IsOffered call old new
offered call rank entry ranked proposes allowed old new is = subst (λ (es : List (Rank × Entry)). IsOffered call old es) (sym is) (record {
  added = λ may. (rank, ranked, subst (λ (e : Entry). Contains (insert_entry cmp old rank entry) (rank, e)) proposes (inserted_there cmp cmp_exact rank entry old));
  kept = λ other e apart has. inserted_stays cmp cmp_exact rank entry other e (λ same. apart (subst (λ (r : Rank). IsRank r call) (sym same) ranked)) old has;
  from = λ other e has. elim (inserted_from cmp cmp_exact rank entry other e old has) [
    | inl before ↦ inl before
    | inr here ↦
        inr (subst (λ (x : Entry). Allows call x.wrote) proposes allowed, subst (λ (r : Rank). IsRank r call) (sym here.0) ranked, here.1 ∙ proposes)
  ];
})
