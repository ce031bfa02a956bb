-- The outcome of received bits, in words (this profile).
use Rattle.std.specs.Prelude.{ℕ, List, ◌++◌, codes}
use Rattle.ncp_leader.specs.Fault.{name_of_message_fault}
use Rattle.ncp_model.specs.Faults.{name_of_took}
use Rattle.ncp_peer.specs.declared.received.Received.{Received}
use Rattle.ncp_peer.specs.declared.received.Received.TheVariants.{Short, Other, Unknown, Stray, Answered, Fault, WrongLink, WrongSize, Control, Text, NotUp}
use Rattle.ncp_play_buffer.specs.Lines.{field}

abbrev pub received_words : Received → List ℕ
received_words Short = codes "short"
received_words (Other kind) = field (codes "other ") kind
received_words Unknown = codes "unknown"
received_words Stray = codes "stray"
received_words Answered = codes "answered"
received_words (Fault fault) = codes "fault " ++ name_of_message_fault fault
received_words WrongLink = codes "wrong-link"
received_words WrongSize = codes "wrong-size"
received_words (Control commands) = field (codes "control ") commands
received_words (Text took) = codes "text " ++ name_of_took took
received_words NotUp = codes "text not-up"
