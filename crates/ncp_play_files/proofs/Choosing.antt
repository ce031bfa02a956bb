-- Which lines a message has.
use Rattle.std.proofs.Common.{◌≡◌, Bool, true, false, List, [], Result, refl, sym, ap, ◌∙◌}
use Rattle.ncp_numbers.specs.Bytes.{bytes_of}
use Rattle.ncp_leader.specs.Leader.{leader_in}
use Rattle.ncp_leader.specs.Message.{Message, message_in}
use Rattle.ncp_leader.specs.declared.leader.Leader.{Leader}
use Rattle.ncp_leader.specs.declared.leader.Short.{Short}
use Rattle.ncp_play_files.specs.Lines.{control_lines, text_line, text_lines, is_control, is_regular_leader, message_lines, details}

pub lines_of_control : (message : Message) → is_control message ≡ true → control_lines (bytes_of message.text) ≡ text_lines message
lines_of_control message h = rw h refl

pub lines_of_text : (message : Message) → is_control message ≡ false → text_line message.text ≡ text_lines message
lines_of_text message h = rw h refl

pub details_of_regular : (message : List Bool) (leader : Result Leader Short) → leader ≡ leader_in message → is_regular_leader leader ≡ true → message_lines (message_in message) ≡ details message
details_of_regular message leader e h = let k : is_regular_leader (leader_in message) ≡ true = ap is_regular_leader (sym e) ∙ h in rw k refl

pub details_of_other : (message : List Bool) (leader : Result Leader Short) → leader ≡ leader_in message → is_regular_leader leader ≡ false → [] ≡ details message
details_of_other message leader e h = let k : is_regular_leader (leader_in message) ≡ false = ap is_regular_leader (sym e) ∙ h in rw k refl
