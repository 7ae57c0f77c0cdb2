use Rattle.std.proofs.Common.{List, ℕ, ◌+◌, ◌<◌, length, rules, subst, ap, is_some}
use Rattle.fa_capture.specs.declared.input.TheConstants.{MAX_READ_LIMIT}
use Rattle.fa_capture.specs.Pieces.{IsOpen, IsToldOf}
use Rattle.fa_capture.specs.parts.Walks.{IsReadTo}
use Rattle.fa_capture.proofs.PieceLemmas.{told_of}
use Rattle.fa_capture.proofs.StopLemmas.{read_goes_on}
use Rattle.fa_capture.proofs.feed.Feed.feed.Goals.{in-Some-told, in-None}
use Rattle.fa_capture.proofs.feed.Feed.feed.Goals as goal

pub read_on-self-inside-requires : goal.read_on-self-inside-requires
read_on-self-inside-requires c =
    rw (c.deref.ensures.value, c.in_ok-take_in.ensures.taken) (read_goes_on c.self.inside.bytes.items c.args.piece.now c.self.inside.stop c.self.invariant.0)

pub returns-clause-open : goal.returns-clause-open
returns-clause-open c = elim c.match-self-2.branch [
  | in-Some-told w ↦ rw w.result-is (search rules)
  | in-None w ↦ rw w.result-is (subst IsOpen c.deref-2.ensures.value (c.decided_fault-self-inside.ensures.none (ap is_some w.in-None.is)))
]

pub returns-clause-short : goal.returns-clause-short
returns-clause-short c = elim c.match-self-2.branch [
  | in-Some-told w ↦ rw w.result-is (search rules)
  | in-None w ↦ rw w.result-is (subst (λ (bytes : List ℕ). length bytes < MAX_READ_LIMIT + 65536) c.deref-2.ensures.value (c.decided_fault-self-inside.ensures.short (ap is_some w.in-None.is)))
]

pub invariant_of-self-2 : goal.invariant_of-self-2
invariant_of-self-2 c = (
  subst (λ (bytes : List ℕ). IsReadTo bytes c.read_on-self-inside.result) c.deref.ensures.value c.read_on-self-inside.ensures,
  subst (λ (bytes : List ℕ). IsToldOf bytes c.decided_fault-self-inside.result) c.deref-2.ensures.value (told_of c.deref-2.result.now c.decided_fault-self-inside.result c.decided_fault-self-inside.ensures.fault c.decided_fault-self-inside.ensures.none),
)
