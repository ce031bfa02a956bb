-- The names and numbers of a call's refusals, and the names of the outcomes of a command and of a text.
use Rattle.std.specs.Prelude.{ℕ, List, codes}
use Rattle.ncp_model.specs.declared.call_fault.CallFault.{CallFault}
use Rattle.ncp_model.specs.declared.call_fault.CallFault.TheVariants.{UnknownPeer, NotUp, BadSex, BadSize, BadRoom, NoEntry, AlreadyAsked, Closing, NotOpen, WrongEnd, NotWhole, Busy, NoRoom, TooMuch, TableFull, QueueFull, OutOfMemory}
use Rattle.ncp_model.specs.declared.outcomes.Heard.{Heard}
use Rattle.ncp_model.specs.declared.outcomes.Heard.TheVariants as heard
use Rattle.ncp_model.specs.declared.outcomes.Took.{Took}
use Rattle.ncp_model.specs.declared.outcomes.Took.TheVariants.{Admitted, Late, WrongSize, Over}
use Rattle.ncp_model.specs.declared.outcomes.Took.TheVariants as took

-- as a program prints it
abbrev pub name_of_call_fault : CallFault → List ℕ
name_of_call_fault UnknownPeer = codes "UnknownPeer"
name_of_call_fault NotUp = codes "NotUp"
name_of_call_fault BadSex = codes "BadSex"
name_of_call_fault BadSize = codes "BadSize"
name_of_call_fault BadRoom = codes "BadRoom"
name_of_call_fault NoEntry = codes "NoEntry"
name_of_call_fault AlreadyAsked = codes "AlreadyAsked"
name_of_call_fault Closing = codes "Closing"
name_of_call_fault NotOpen = codes "NotOpen"
name_of_call_fault WrongEnd = codes "WrongEnd"
name_of_call_fault NotWhole = codes "NotWhole"
name_of_call_fault Busy = codes "Busy"
name_of_call_fault NoRoom = codes "NoRoom"
name_of_call_fault TooMuch = codes "TooMuch"
name_of_call_fault TableFull = codes "TableFull"
name_of_call_fault QueueFull = codes "QueueFull"
name_of_call_fault OutOfMemory = codes "OutOfMemory"

-- the order of the checks: a smaller number first
abbrev pub fault_number : CallFault → ℕ
fault_number UnknownPeer = 1
fault_number NotUp = 2
fault_number BadSex = 3
fault_number BadSize = 4
fault_number BadRoom = 5
fault_number NoEntry = 6
fault_number AlreadyAsked = 7
fault_number Closing = 8
fault_number NotOpen = 9
fault_number WrongEnd = 10
fault_number NotWhole = 11
fault_number Busy = 12
fault_number NoRoom = 13
fault_number TooMuch = 14
fault_number TableFull = 15
fault_number QueueFull = 16
fault_number OutOfMemory = 17

-- the outcome of a command, as a program prints it
abbrev pub name_of_heard : Heard → List ℕ
name_of_heard heard.Nothing = codes "nothing"
name_of_heard (heard.Reply command) = codes "reply"
name_of_heard heard.Late = codes "late"
name_of_heard heard.Full = codes "full"

-- the outcome of a text, as a program prints it
abbrev pub name_of_took : Took → List ℕ
name_of_took Admitted = codes "admitted"
name_of_took Late = codes "late"
name_of_took WrongSize = codes "wrong-size"
name_of_took Over = codes "over"
name_of_took took.NotOpen = codes "not-open"
