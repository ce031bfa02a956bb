-- Example messages for the definitions: from host 1 to host 2.
use Rattle.std.specs.Prelude.{ℕ, List, [], ◌∷◌}
use Rattle.ncp_leader.specs.Message.{Message}
use Rattle.ncp_interface.specs.declared.sent_message.LinkState.{LinkState}
use Rattle.ncp_interface.specs.declared.sent_message.SentMessage.{SentMessage}
use Rattle.ncp_interface.specs.Slots.{gone_out}

-- a message without text on this link, in bytes of this size
abbrev pub empty_message_on : ℕ → ℕ → Message
empty_message_on link size = record { leader = record { flags = 0; kind = 0; host = 2; link = link; low = 0 }; size = size; count = 0; text = [] }

-- a message on link 0, which is outstanding
abbrev pub control_sent : SentMessage
control_sent = gone_out 1 2 0 []

-- one on link 2, in this state
abbrev pub second_sent : LinkState → SentMessage
second_sent state = record (gone_out 1 2 2 []) { slot = state }

-- the first, and then the second in this state
abbrev pub both_sent : LinkState → List SentMessage
both_sent state = control_sent ∷ second_sent state ∷ []
