use Rattle.fa_capture.specs.declared.format.Format.TheVariants.{Plain, Timed}
use Rattle.fa_capture.proofs.PieceLemmas.{starts_magic, never_magic}
use Rattle.fa_capture.proofs.feed.begins_magic.Goals as goal

pub returns-then-starts_with-clause-begun : goal.returns-then-starts_with-clause-begun
returns-then-starts_with-clause-begun c = starts_magic Plain c.magic.result.now c.args.bytes.now c.starts_with.result c.magic.ensures c.starts_with.ensures.value

pub returns-else-starts_with-clause-begun : goal.returns-else-starts_with-clause-begun
returns-else-starts_with-clause-begun c = starts_magic Timed c.magic-else-starts_with.result.now c.args.bytes.now c.starts_with-else-starts_with.result c.magic-else-starts_with.ensures c.starts_with-else-starts_with.ensures.value

pub returns-else-starts_with-clause-other : goal.returns-else-starts_with-clause-other
returns-else-starts_with-clause-other c =
    never_magic c.magic.result.now c.magic-else-starts_with.result.now c.args.bytes.now c.starts_with.result c.starts_with-else-starts_with.result c.magic.ensures c.magic-else-starts_with.ensures
    c.starts_with.ensures.value c.starts_with-else-starts_with.ensures.value c.if-starts_with.false
