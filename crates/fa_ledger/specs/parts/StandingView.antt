-- What the fields of a standing show.
use Rattle.fa_ledger.specs.declared.standing.Standing.TheInside.{Inside}
use Rattle.fa_ledger.specs.Standing.{PlainStanding}
use Rattle.fa_ledger.specs.parts.View.{by_id}

-- what the fields show
abbrev pub standing_shown : Inside → PlainStanding
standing_shown s = record {
  messages = s.messages;
  nodes = by_id s.live.tables.nodes.known.entries;
  handles = s.live.tables.handles.opened.entries;
  opening = s.live.opening.entries;
}
