use Rattle.std.proofs.Common.{◌<◌, length, sym, rules}
use Rattle.fa_search.proofs.configuration.is_there.Goals as goal

pub returns : goal.returns
returns c = λ same.
    let within : c.args.place < length c.args.list.now = search rules in
    (c.index-list-place.result, (c.args.place, within, sym c.index-list-place.is), c.is_same.ensures same)
