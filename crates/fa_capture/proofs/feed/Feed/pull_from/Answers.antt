use Rattle.std.proofs.Common.{◌≡◌, arith, List, [], ℕ, ◌++◌, subst, sym, ap, ◌∙◌, None, Some, is_some, refl}
use Rattle.std.proofs.lemmas.List.{append-nil}
use Rattle.fa_capture.specs.declared.fault.CaptureFault.{CaptureFault}
use Rattle.fa_capture.specs.Pieces.{PlainFeed, IsOpen, IsToldOf}
use Rattle.fa_capture.specs.parts.Walks.{IsReadTo}
use Rattle.fa_capture.proofs.PieceLemmas.{told_of, open_is_short}
use Rattle.fa_capture.proofs.PullLemmas.{none_pulled, never_told}
use Rattle.fa_capture.proofs.StopLemmas.{read_goes_on}
use Rattle.fa_capture.proofs.feed.Feed.pull_from.Goals as goal

pub returns-in_default-pull : goal.returns-in_default-pull
returns-in_default-pull g c =
    let f = c.self.inside in
    let taken = c.in_ok-pull.ensures.taken in
    let none : taken.0 ≡ [] = none_pulled c.in_ok-pull.pull taken.0 c.in_default-pull.not-Got taken.1.counted in
    let same : c.pull_in.new.bytes.items ≡ f.bytes.items = taken.2 ∙ ap (λ (l : List ℕ). f.bytes.items ++ l) none ∙ append-nil f.bytes.items in
    let untold : f.told ≡ None = never_told f.told c.in_default.not-Some in
    let opens : IsOpen c.pull_in.new.bytes.items = subst IsOpen (sym same) (subst (IsToldOf f.bytes.items) untold c.self.invariant.1) in
    let never : (fault : CaptureFault) → c.args.self.now.told ≡ Some fault → ⊥ = λ fault told. c.in_default.not-Some fault (ap (λ (p : PlainFeed). p.told) c.self.view_is ∙ told) in
    record {
      again = λ fault told. absurd (never fault told);
      kept = λ fault told. absurd (never fault told);
      taken = (taken.0, taken.1, rw (taken.2, untold, sym c.self.view_is) refl);
      «open» = opens;
      short = open_is_short c.pull_in.new.bytes.items c.in_ok-pull.ensures.bytes opens;
      within = rw (sym c.self.view_is) (omega (arith, c.in_ok-pull.ensures.within, c.next_ask.ensures.most));
      fault = λ fault told is. absurd cc;
      decided = λ fault told is. absurd cc;
      memory = λ is. absurd cc;
      failed = c.in_ok-pull.ensures.failed;
      interrupted = c.in_ok-pull.ensures.interrupted;
      unmarked = tt;
    }

pub read_on-self-inside-requires : goal.read_on-self-inside-requires
read_on-self-inside-requires g c =
    let taken = c.in_ok-pull.ensures.taken in
    rw (c.deref.ensures.value, taken.2) (read_goes_on c.self.inside.bytes.items taken.0 c.self.inside.stop c.self.invariant.0)

pub invariant_of-self-2 : goal.invariant_of-self-2
invariant_of-self-2 g c = (
  subst (λ (bytes : List ℕ). IsReadTo bytes c.read_on-self-inside.result) c.deref.ensures.value c.read_on-self-inside.ensures,
  subst (λ (bytes : List ℕ). IsToldOf bytes c.decided_fault-self-inside.result) c.deref-2.ensures.value (told_of c.deref-2.result.now c.decided_fault-self-inside.result c.decided_fault-self-inside.ensures.fault c.decided_fault-self-inside.ensures.none),
)

pub returns-clause-open : goal.returns-clause-open
returns-clause-open g c =
    let none = never_told c.decided_fault-self-inside.result c.in_default-told.not-Some in
    subst IsOpen c.deref-2.ensures.value (c.decided_fault-self-inside.ensures.none (ap is_some none))
