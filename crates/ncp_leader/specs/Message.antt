-- A regular message and its bits (NIC 8246, message form; BBN 1822, section 3). Offsets count from 0; the
-- standard counts bits from 1. The order of the faults, and the longest text that is made, are this
-- profile's.
use Rattle.std.specs.Prelude.{◌≡◌, ◌≢◌, ◌<◌, ℕ, ◌+◌, ◌*◌, ◌/◌, ◌%◌, ◌^◌, ◌==◌, Bool, false, not, List, [], ◌∷◌, ◌++◌, length, replicate, slice_range, nat_lt, Result, Ok, Err, if◌then◌else◌}
use Rattle.ncp_numbers.specs.Numbers.{bits_of}
use Rattle.ncp_bits.specs.Bits.{HasOne}
use Rattle.ncp_leader.specs.declared.leader.Leader.{Leader}
use Rattle.ncp_leader.specs.declared.fault.MessageFault.{MessageFault}
use Rattle.ncp_leader.specs.declared.fault.MessageFault.TheVariants.{ShortPrefix, M1NotZero, SizeZero, M2NotZero, TextMissing, TextTooLong, NotWhole}
use Rattle.ncp_leader.specs.declared.regular.TheConstants.{FRONT_BITS, MAX_TEXT_BITS}
use Rattle.ncp_leader.specs.Leader.{IsLeader, leader_bits, leader_at, number_at}

-- a message: a leader, a byte size, a byte count and a text
pub record Message : Type 0 where
  pub leader : Leader
  pub size : ℕ
  pub count : ℕ
  pub text : List Bool

-- each field fits its bits, the byte size is not 0, and the text is `count` bytes of that size
pub record IsMessage (message : Message) : Type 0 where
  pub leader : IsLeader message.leader
  pub some : 0 < message.size
  pub size : message.size < 2 ^ 8
  pub count : message.count < 2 ^ 16
  pub whole : length message.text ≡ message.size * message.count

-- M1 and M2, which must be zero
abbrev pub eight_zeros : List Bool
eight_zeros = replicate 8 false

-- the encoding: the leader, eight zeros, the byte size, the byte count, eight zeros, the text
abbrev pub message_bits : Message → List Bool
message_bits message =
    leader_bits message.leader ++ eight_zeros ++ bits_of 8 message.size ++ bits_of 16 message.count ++ eight_zeros ++ message.text

-- the bits are the encoding of a message; the rest, its padding, is arbitrary
pub record Encodes (bits : List Bool) (message : Message) : Type 0 where
  pub fits : IsMessage message
  pub rest : List Bool
  pub form : bits ≡ message_bits message ++ rest

abbrev pub size_at : List Bool → ℕ
size_at bits = number_at bits 40 8

abbrev pub count_at : List Bool → ℕ
count_at bits = number_at bits 48 16

-- the offset at which the text of this byte size and count ends
abbrev pub text_end : List Bool → ℕ
text_end bits = FRONT_BITS + size_at bits * count_at bits

-- the message with the fields at these offsets
abbrev pub message_at : List Bool → Message
message_at bits = record {
  leader = leader_at bits;
  size = size_at bits;
  count = count_at bits;
  text = slice_range bits FRONT_BITS (text_end bits);
}

-- the message with which the bits start, or the first fault
abbrev pub message_in : List Bool → Result Message MessageFault
message_in bits =
    if nat_lt (length bits) FRONT_BITS then Err ShortPrefix
    else if not (number_at bits 32 8 == 0) then Err M1NotZero
    else if size_at bits == 0 then Err SizeZero
    else if not (number_at bits 64 8 == 0) then Err M2NotZero
    else if nat_lt (length bits) (text_end bits) then Err TextMissing
    else Ok (message_at bits)

-- a byte of a message's text, by its index from 0: a run of the byte size
abbrev pub message_byte_at : Message → ℕ → List Bool
message_byte_at message place = slice_range message.text (message.size * place) (message.size * place + message.size)

-- the message with this leader, byte size and text of whole bytes
abbrev pub message_with : Leader → ℕ → List Bool → Message
message_with leader size text = record { leader = leader; size = size; count = length text / size; text = text }

-- the encoding of that message, without padding, or the first fault
abbrev pub written : Leader → ℕ → List Bool → Result (List Bool) MessageFault
written leader size text =
    if size == 0 then Err SizeZero
    else if nat_lt MAX_TEXT_BITS (length text) then Err TextTooLong
    else if not (length text % size == 0) then Err NotWhole
    else Ok (message_bits (message_with leader size text))

-- the condition of each fault, when bits are read as a message: M1 is bits 33 to 40, M2 bits 65 to 72
abbrev pub IsReadFault : List Bool → MessageFault → Type 0
IsReadFault bits ShortPrefix = length bits < FRONT_BITS
IsReadFault bits M1NotZero = HasOne (slice_range bits 32 40)
IsReadFault bits SizeZero = size_at bits ≡ 0
IsReadFault bits M2NotZero = HasOne (slice_range bits 64 72)
IsReadFault bits TextMissing = length bits < text_end bits
IsReadFault bits TextTooLong = ⊥
IsReadFault bits NotWhole = ⊥

-- the condition of each fault, when a byte size and a text are written: a text is not of whole bytes if
-- no number of bytes has its length
abbrev pub IsWriteFault : ℕ → List Bool → MessageFault → Type 0
IsWriteFault size text ShortPrefix = ⊥
IsWriteFault size text M1NotZero = ⊥
IsWriteFault size text SizeZero = size ≡ 0
IsWriteFault size text M2NotZero = ⊥
IsWriteFault size text TextMissing = ⊥
IsWriteFault size text TextTooLong = MAX_TEXT_BITS < length text
IsWriteFault size text NotWhole = (count : ℕ) → length text ≢ size * count

-- the order of the checks, the same for both
abbrev pub message_faults_judged : List MessageFault
message_faults_judged = ShortPrefix ∷ M1NotZero ∷ SizeZero ∷ M2NotZero ∷ TextMissing ∷ TextTooLong ∷ NotWhole ∷ []
