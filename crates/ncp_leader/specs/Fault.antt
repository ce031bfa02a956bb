-- The names of the faults of a message, as a program prints them (this profile).
use Rattle.std.specs.Prelude.{ℕ, List, codes}
use Rattle.ncp_leader.specs.declared.fault.MessageFault.{MessageFault}
use Rattle.ncp_leader.specs.declared.fault.MessageFault.TheVariants.{ShortPrefix, M1NotZero, SizeZero, M2NotZero, TextMissing, TextTooLong, NotWhole}

abbrev pub name_of_message_fault : MessageFault → List ℕ
name_of_message_fault ShortPrefix = codes "ShortPrefix"
name_of_message_fault M1NotZero = codes "M1NotZero"
name_of_message_fault SizeZero = codes "SizeZero"
name_of_message_fault M2NotZero = codes "M2NotZero"
name_of_message_fault TextMissing = codes "TextMissing"
name_of_message_fault TextTooLong = codes "TextTooLong"
name_of_message_fault NotWhole = codes "NotWhole"
