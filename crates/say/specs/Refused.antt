-- A refusal in words: its number and its name. Document 01, "Numbers a caller may see". Assumes nothing.
use Rattle.std.specs.Prelude.{ℕ, List, ◌++◌}
use Rattle.words.specs.Refusal.{number_of}
use Rattle.words.specs.declared.Refusal.{Refusal}
use Rattle.words.specs.declared.Refusal.TheVariants.{BufferTooShort, InvalidNumSlices, SliceSizeAboveLimit, EmptySlice, InvalidAckRange, InvalidPacketType, ReliableChannelMaxMemoryReached, InvalidSliceMessage, BadSettings, BadStore, TableFull, TooLong, BadNumber, ClockBack, NoRoom, WrongKind, BadIndex}
use Rattle.script.specs.Ascii.{ascii}
use Rattle.say.specs.Say.{decimal_of}

abbrev pub name_of : Refusal → List ℕ
name_of BufferTooShort = ascii "BufferTooShort"
name_of InvalidNumSlices = ascii "InvalidNumSlices"
name_of SliceSizeAboveLimit = ascii "SliceSizeAboveLimit"
name_of EmptySlice = ascii "EmptySlice"
name_of InvalidAckRange = ascii "InvalidAckRange"
name_of InvalidPacketType = ascii "InvalidPacketType"
name_of ReliableChannelMaxMemoryReached = ascii "ReliableChannelMaxMemoryReached"
name_of InvalidSliceMessage = ascii "InvalidSliceMessage"
name_of BadSettings = ascii "BadSettings"
name_of BadStore = ascii "BadStore"
name_of TableFull = ascii "TableFull"
name_of TooLong = ascii "TooLong"
name_of BadNumber = ascii "BadNumber"
name_of ClockBack = ascii "ClockBack"
name_of NoRoom = ascii "NoRoom"
name_of WrongKind = ascii "WrongKind"
name_of BadIndex = ascii "BadIndex"

abbrev pub refusal_of : Refusal → List ℕ
refusal_of e = decimal_of (number_of e) ++ ascii " " ++ name_of e
