-- What a feed keeps of its pieces.
use Rattle.fa_capture.specs.declared.feed.Feed.TheInside.{Inside}
use Rattle.fa_capture.specs.declared.feed.Stored.TheInside.{Inside as Stored}
use Rattle.fa_capture.specs.Pieces.{IsToldOf}
use Rattle.fa_capture.specs.parts.Walks.{IsReadTo}

-- the walk over the bytes stopped where the feed says
abbrev pub IsFed : Inside → Type 0
IsFed f = IsReadTo f.bytes.items f.stop × IsToldOf f.bytes.items f.told

-- and where what was stored says
abbrev pub IsStored : Stored → Type 0
IsStored s = IsReadTo s.bytes.items s.stop
