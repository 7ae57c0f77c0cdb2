use Rattle.std.proofs.Common.{◌≡◌, ◌++◌, sym, ap, subst, ◌∙◌}
use Rattle.percent_encoding.specs.Percent.{percent_decode}
use Rattle.fa_bodies.specs.Names.{IsName}
use Rattle.fa_tree_text.proofs.UnescapedLemmas.{unescaped_decodes, unescaped_spelled, unescaped_whole}
use Rattle.fa_tree_text.proofs.paths.decode_name.Goals as goal

pub returns-then-is_unescaped-clause-decoded : goal.returns-then-is_unescaped-clause-decoded
returns-then-is_unescaped-clause-decoded c =
    c.in_ok-extend_from_slice.ensures.items ∙ ap (λ items. items ++ c.args.spelled.now) c.clear.ensures.items
    ∙ sym (unescaped_decodes c.args.spelled.now (c.is_unescaped.ensures.0 c.if-is_unescaped.true))

pub returns-then-is_unescaped-clause-spelled : goal.returns-then-is_unescaped-clause-spelled
returns-then-is_unescaped-clause-spelled c =
    let unescaped = c.is_unescaped.ensures.0 c.if-is_unescaped.true in
    let name : c.deref.result.now ≡ percent_decode c.args.spelled.now = c.deref.ensures.value ∙ returns-then-is_unescaped-clause-decoded c in (
      λ is. record {
        each_byte = unescaped_spelled c.args.spelled.now unescaped;
        escapes = unescaped_whole c.args.spelled.now unescaped;
        name = subst IsName name (c.is_name.ensures.0 is);
      },
      λ is. c.is_name.ensures.1 (subst IsName (sym name) is.name),
    )
