-- The lemmas for the crates above.

-- ordered checks: the code that is told, lists of checks one after the other, and rules that are checked in two ways
pub use Rattle.fa_capture.proofs.ChecksLemmas.{no_failure, one_failure, checks_either, fails_first, fails_behind, hold_both, hold_later, hold_front, lifted_failure, lifted_hold, HaveNot, not_told}
-- two readings of the same bytes agree
pub use Rattle.fa_capture.proofs.ReadingLemmas.{one_reading_lem as one_reading}
-- bytes that do not begin as a capture hold no record
pub use Rattle.fa_capture.proofs.ReadingLemmas.{reads_without}
-- where a framing fault is decided, what came is the capture of all that comes; how much comes before one is; and what follows
pub use Rattle.fa_capture.proofs.PieceLemmas.{decided_capture, open_is_short, recording_is_short, records_stay}
-- whatever stands behind the records that a walk has read, bytes hold these first
pub use Rattle.fa_capture.proofs.PieceLemmas.{walk_goes_on}
-- before anything came there is no magic, and no fault is decided
pub use Rattle.fa_capture.proofs.PieceLemmas.{nothing_yet}
-- two recordings of the same bytes agree
pub use Rattle.fa_capture.proofs.ReadingLemmas.{one_recording}
-- as many messages as records, and one record more
pub use Rattle.fa_capture.proofs.ReadingLemmas.{records_length, messages_on}
-- a migrated capture and the one that it was made of hold the same messages
pub use Rattle.fa_capture.proofs.MigrateLemmas.{migrated_reads, reads_migrated}
-- an output that takes all that it is given
pub use Rattle.fa_capture.proofs.OutputLemmas.{still_unbroken}
-- bytes have a reading
pub use Rattle.fa_capture.proofs.ReadingThereLemmas.{reading_is_there}
-- packets are as many as their messages
pub use Rattle.fa_capture.proofs.ReadingLemmas.{messages_length}
-- what a slice of bytes has in it
pub use Rattle.fa_capture.proofs.BytesLemmas.{are_bytes}
-- bytes with as many in front
pub use Rattle.fa_capture.proofs.FramingLemmas.{one_front}
-- lists: places, parts, elements, fronts
pub use Rattle.fa_capture.proofs.ListLemmas.{get_of_front, get_in_front, get_from_drop, same_parts, longer_front, parts_at, contains_longer, contains_front}
pub use Rattle.fa_capture.proofs.ListLemmas.{contains_cases, contains_first, contains_behind, contains_decided, counted_there, all_middle, pairs_before, pairs_behind}
-- one element more
pub use Rattle.fa_capture.proofs.ListLemmas.{get_kept, get_back, get_last, get_cases, take_before, take_all_before, snoc_cases, take_with_next, take_one_more}
-- lists in order, and numbers that rise
pub use Rattle.fa_capture.proofs.ListLemmas.{pairs_tail, same_order, first_least, rising_is_one, rising_within}
-- what is written, what a search finds, and tables
pub use Rattle.fa_capture.proofs.ListLemmas.{get_set_same, get_set_other, get_set_back, position_found, position_first, position_none, found_alike}
