-- The laws' proofs.
use Rattle.cbor_model.specs.Laws.{ReaderFinds, ReaderAccepts, SameWithScratch, ScratchNeed, OneSpelling, ValueIsStorable, OrderIsTotal, OneFlat, CanonicalReadsBack, ValueIsCanonical, NormalisedOnce, EqualBytes, ByteOrder, LeastSpelling, ValueIsInRange, FirstRefusal, NoneAllowed, OneFirstRefusal, ReadOrRefused, SpelledAllowsNone, SameFirstRefusal, InMemoryIsInRange, CanonicalIsAcceptable, WrittenReadsBack, DocumentIsAcceptable, DocumentReadsBack, LastPairStays, PartsBytes, KeyRule, FollowingIsUnread, RefusedHoldsBeginning, AllThatFitIsHeld, StoredOrStops, AllIsStored}
use Rattle.cbor_model.proofs.reader.Whole.{found_whole, read_whole}
use Rattle.cbor_model.proofs.reader.Scratch as scratch
use Rattle.cbor_model.proofs.values.Storable.{storable}
use Rattle.cbor_model.proofs.order.Same as same
use Rattle.cbor_model.proofs.values.ReadsBack.{reads_back}
use Rattle.cbor_model.proofs.values.Canonical as canonical
use Rattle.cbor_model.proofs.order.Apart as apart
use Rattle.cbor_model.proofs.values.Normal as normal
use Rattle.cbor_model.proofs.order.ByteOrder as byteorder
use Rattle.cbor_model.proofs.order.Least as least
use Rattle.cbor_model.proofs.values.InRange as inrange
use Rattle.cbor_model.proofs.refusals.FirstRefusal as refusal
use Rattle.cbor_model.proofs.values.InMemory as inmemory
use Rattle.cbor_model.proofs.documents.InDocuments as documents
use Rattle.cbor_model.proofs.order.Puts as puts
use Rattle.cbor_model.proofs.documents.Parts as parts
use Rattle.cbor_model.proofs.reader.RawReader as rawreader
use Rattle.cbor_model.proofs.documents.SliceWrites as room
use Rattle.cbor_model.proofs.documents.Unstored as unstored

pub reader_finds : ReaderFinds
reader_finds = found_whole

pub reader_accepts : ReaderAccepts
reader_accepts = read_whole

pub same_with_scratch : SameWithScratch
same_with_scratch = scratch.same_with_scratch

pub scratch_need : ScratchNeed
scratch_need = scratch.scratch_need

pub one_spelling : OneSpelling
one_spelling = apart.one_spelling

pub value_is_storable : ValueIsStorable
value_is_storable = storable

pub order_is_total : OrderIsTotal
order_is_total = same.val_cmp_total

pub one_flat : OneFlat
one_flat = same.one_flat

pub canonical_reads_back : CanonicalReadsBack
canonical_reads_back = reads_back

pub value_is_canonical : ValueIsCanonical
value_is_canonical = canonical.value_is_canonical

pub normalised_once : NormalisedOnce
normalised_once = normal.normalised_once

pub equal_bytes : EqualBytes
equal_bytes = byteorder.equal_bytes

pub byte_order : ByteOrder
byte_order = byteorder.byte_order

pub least_spelling : LeastSpelling
least_spelling = least.least_spelling

pub value_is_in_range : ValueIsInRange
value_is_in_range = inrange.value_is_in_range

pub first_refusal : FirstRefusal
first_refusal = refusal.first_refusal

pub none_allowed : NoneAllowed
none_allowed = refusal.none_allowed

pub one_first_refusal : OneFirstRefusal
one_first_refusal = refusal.one_first

pub read_or_refused : ReadOrRefused
read_or_refused = refusal.read_or_refused

pub spelled_allows_none : SpelledAllowsNone
spelled_allows_none = refusal.spelled_allows_none

pub same_first_refusal : SameFirstRefusal
same_first_refusal = refusal.same_first

pub in_memory_is_in_range : InMemoryIsInRange
in_memory_is_in_range = inmemory.in_range

pub canonical_is_acceptable : CanonicalIsAcceptable
canonical_is_acceptable = inmemory.canonical_is_acceptable

pub written_reads_back : WrittenReadsBack
written_reads_back = inmemory.written_reads_back

pub document_is_acceptable : DocumentIsAcceptable
document_is_acceptable = documents.document_is_acceptable

pub document_reads_back : DocumentReadsBack
document_reads_back = documents.document_reads_back

pub last_pair_stays : LastPairStays
last_pair_stays = puts.last_pair_stays

pub parts_bytes : PartsBytes
parts_bytes = parts.parts_bytes

pub key_rule : KeyRule
key_rule = rawreader.key_rule

pub following_is_unread : FollowingIsUnread
following_is_unread = rawreader.following_is_unread

pub refused_holds_beginning : RefusedHoldsBeginning
refused_holds_beginning = room.holds_beginning

pub all_that_fit_is_held : AllThatFitIsHeld
all_that_fit_is_held = room.holds_all

pub stored_or_stops : StoredOrStops
stored_or_stops = unstored.stored_or_stops

pub all_is_stored : AllIsStored
all_is_stored = unstored.all_stored
