-- Document 01, "Numbers a caller may see". Assumes nothing.
use Rattle.std.specs.Prelude.{ℕ}
use Rattle.words.specs.declared.Refusal.{Refusal}
use Rattle.words.specs.declared.Refusal.TheVariants.{BufferTooShort, InvalidNumSlices, SliceSizeAboveLimit, EmptySlice, InvalidAckRange, InvalidPacketType, ReliableChannelMaxMemoryReached, InvalidSliceMessage, BadSettings, BadStore, TableFull, TooLong, BadNumber, ClockBack, NoRoom, WrongKind, BadIndex}

abbrev pub number_of : Refusal → ℕ
number_of BufferTooShort = 1
number_of InvalidNumSlices = 2
number_of SliceSizeAboveLimit = 3
number_of EmptySlice = 4
number_of InvalidAckRange = 5
number_of InvalidPacketType = 6
number_of ReliableChannelMaxMemoryReached = 7
number_of InvalidSliceMessage = 8
number_of BadSettings = 9
number_of BadStore = 10
number_of TableFull = 11
number_of TooLong = 12
number_of BadNumber = 13
number_of ClockBack = 14
number_of NoRoom = 15
number_of WrongKind = 16
number_of BadIndex = 17
