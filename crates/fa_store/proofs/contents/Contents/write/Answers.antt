use Rattle.std.proofs.Common.{◌≡◌, ◌+◌, ◌≤◌, ◌==◌, max, false, length, sym, ap, ◌∙◌, rules, arith}
use Rattle.fa_store.specs.parts.PageParts.{page_of}
use Rattle.fa_store.proofs.ContentsLemmas.{byte_same, bytes_same, written_is, written_over}
use Rattle.fa_store.proofs.contents.Contents.write.Goals as goal

pub returns-in_err-store-clause-unchanged : goal.returns-in_err-store-clause-unchanged
returns-in_err-store-clause-unchanged c =
    let same = bytes_same (page_of c.store.new.pages) (page_of c.self.inside.pages) c.self.inside.len c.store.ensures.same in
    let unchanged = same ∙ c.self.view_is in
    search (rules, unchanged)

pub returns-clause-written : goal.returns-clause-written
returns-clause-written c =
    let is : c.in_ok-end.end ≡ c.args.offset + length c.args.payload.now = search rules in
    let some : (length c.args.payload.now == 0) ≡ false = search rules in
    let put = written_over (page_of c.put.new.pages) (page_of c.store.new.pages) (page_of c.self.inside.pages) c.args.offset c.args.payload.now (length c.args.payload.now) c.put.ensures c.store.ensures.same in
    let long : c.max-self-inside.result ≡ max c.self.inside.len (c.args.offset + length c.args.payload.now) = c.max-self-inside.ensures ∙ ap (λ n. max c.self.inside.len n) is in
    rw (sym c.self.view_is, long)
    (written_is (page_of c.put.new.pages) (page_of c.self.inside.pages) c.self.inside.len c.args.payload.now c.args.offset some c.self.invariant put)

pub invariant_of-self : goal.invariant_of-self
invariant_of-self c i behind = byte_same (page_of c.store.new.pages) (page_of c.self.inside.pages) c.store.ensures.same i ∙ c.self.invariant i behind

pub invariant_of-self-2 : goal.invariant_of-self-2
invariant_of-self-2 c i behind =
    let is : c.in_ok-end.end ≡ c.args.offset + length c.args.payload.now = search rules in
    let long : c.max-self-inside.result ≡ max c.self.inside.len (c.args.offset + length c.args.payload.now) = c.max-self-inside.ensures ∙ ap (λ n. max c.self.inside.len n) is in
    let past : c.args.offset + length c.args.payload.now ≤ i = omega (arith, behind, long) in
    let end : c.self.inside.len ≤ i = omega (arith, behind, long) in
    c.put.ensures.behind i past
    ∙ (byte_same (page_of c.store.new.pages) (page_of c.self.inside.pages) c.store.ensures.same i ∙ c.self.invariant i end)
