-- The sockets of a connection, and what its sides choose (NIC 8246, RTS and STR). The receiver's socket is
-- even, the sender's is odd. The receiver chooses the link, the sender the byte size.
use Rattle.std.specs.Prelude.{ℕ, ◌==◌, ◌%◌, not, ◌&&◌, Bool, false, Option, Some, None}

-- a sender's socket: odd
abbrev pub is_senders : ℕ → Bool
is_senders socket = socket % 2 == 1

-- a number is known, and is this one
abbrev pub is_number_given : Option ℕ → ℕ → Bool
is_number_given None number = false
is_number_given (Some given) number = given == number

-- the receiver's socket is even, and the sender's odd
abbrev pub is_of_sexes : ℕ → ℕ → Bool
is_of_sexes receive send = not (is_senders receive) && is_senders send
