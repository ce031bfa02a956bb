-- The rules that one message by itself can break: those of NIC 8246 (message form), and one of this
-- project, `Extras`. By that one, the flags and the low field (bits 25 to 32) of the leader are zero,
-- nothing follows the text, and the text is neither empty nor longer than this implementation sends: at
-- most 120 bytes on link 0 (NIC 8246), and at most 7,928 bits on another link, which make 8,000 with
-- leader and prefix. Padding is nothing. A `Rule` is a broken rule, with the numbers that show it.
use Rattle.std.specs.Prelude.{ℕ, ◌+◌, ◌-◌, ◌==◌, not, ◌&&◌, ◌||◌, nat_lt, nat_le, count_ones, Bool, List, length, drop, Option, Some, None, Result, Ok, Err, if◌then◌else◌}
use Rattle.ncp_numbers.specs.Numbers.{number_of}
use Rattle.ncp_leader.specs.declared.fault.MessageFault.{MessageFault}
use Rattle.ncp_leader.specs.declared.regular.TheConstants.{FRONT_BITS, MAX_TEXT_BITS}
use Rattle.ncp_leader.specs.Message.{Message}
use Rattle.ncp_monitor.specs.declared.finding.Rule.{Rule}
use Rattle.ncp_monitor.specs.declared.finding.Rule.TheVariants.{Fault, WrongLink, WrongSize, Extras}
use Rattle.ncp_monitor.specs.declared.message.TheConstants.{MAX_PADDING_BITS}
use Rattle.ncp_interface.specs.Contents.{is_unused}

-- the most bits of text that this implementation sends in a message, by its link; on link 0, 120 bytes
abbrev pub most_bits : ℕ → ℕ
most_bits link = if link == 0 then 960 else MAX_TEXT_BITS

-- A host fills its last word with zeros, and its interface pads the message with a one and zeros. So
-- padding is at most `MAX_PADDING_BITS` bits, and at most one of them is a one.
abbrev pub is_padding : List Bool → Bool
is_padding rest = nat_le (length rest) MAX_PADDING_BITS && nat_le (count_ones (number_of rest)) 1

-- the offset at which the text of a message ends
abbrev pub end_of_text : Message → ℕ
end_of_text message = FRONT_BITS + length message.text

-- The number of bits that are judged of a message: without what follows its text, if that is padding.
abbrev pub judged_bits : Result Message MessageFault → List Bool → ℕ
judged_bits (Ok message) bits = if is_padding (drop (end_of_text message) bits) then end_of_text message else length bits
judged_bits (Err fault) bits = length bits

-- the number of bits after the text in a message of `len` bits, which include the 72 of leader and
-- prefix; 0 if `len` is too small
abbrev pub bits_after_text : Message → ℕ → ℕ
bits_after_text message len = len - FRONT_BITS - length message.text

-- the message differs from those that this implementation sends: in flags, low field or bits after the
-- text, or its text is empty or too long
abbrev pub has_extras : Message → ℕ → Bool
has_extras message len =
    not (message.leader.flags == 0) || not (message.leader.low == 0) || not (bits_after_text message len == 0) || (length message.text == 0)
    || nat_lt (most_bits message.leader.link) (length message.text)

-- that rule, with the flags, the low field, the bits of text and the bits after it; its link is not shown
abbrev pub extras_of : Message → ℕ → Rule
extras_of message len = Extras message.leader.flags message.leader.low (length message.text) (bits_after_text message len)

-- the first rule, if any, that a regular message breaks (one that could be read): its link is unused; it
-- is on link 0 and its byte size is not 8; it has extras
abbrev pub rule_of_regular : Message → ℕ → Option Rule
rule_of_regular message len =
    if is_unused message.leader.link then Some (WrongLink message.leader.link)
    else if message.leader.link == 0 && not (message.size == 8) then Some (WrongSize message.size)
    else if has_extras message len then Some (extras_of message len)
    else None

-- the first rule, if any, that a message of `len` bits breaks. If it could not be read, that is the
-- fault, with `link`, the link in its leader; else `link` is not used.
abbrev pub rule_of_message : Result Message MessageFault → ℕ → ℕ → Option Rule
rule_of_message (Ok message) link len = rule_of_regular message len
rule_of_message (Err fault) link len = Some (Fault fault link)
