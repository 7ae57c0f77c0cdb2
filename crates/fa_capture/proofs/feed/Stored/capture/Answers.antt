use Rattle.std.proofs.Common.{List, ℕ, subst}
use Rattle.fa_capture.specs.Captures.{IsCaptureOf}
use Rattle.fa_capture.proofs.StopLemmas.{no_stop}
use Rattle.fa_capture.proofs.feed.Stored.capture.Goals as goal

pub returns-in_default : goal.returns-in_default
returns-in_default c =
    subst (λ (bytes : List ℕ). IsCaptureOf bytes c.without_magic.result) c.self.view_is (c.without_magic.ensures c.self.inside.bytes.items (no_stop c.self.inside.bytes.items c.self.inside.stop c.in_default.not-Some c.self.invariant))
