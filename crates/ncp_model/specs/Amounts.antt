-- Amounts of an allocation: a number of messages and a number of bits (NIC 8246, allocation).
use Rattle.std.specs.Prelude.{ℕ, ◌+◌, ◌*◌, ◌≤◌, min}
use Rattle.std.specs.Int.{div_ceil}
use Rattle.ncp_model.specs.declared.amounts.Amount.{Amount}
use Rattle.ncp_model.specs.declared.limits.TheConstants.{GIVE_BACK_PARTS}
use Rattle.ncp_wire.specs.declared.command.Command.{Command}
use Rattle.ncp_wire.specs.declared.command.Command.TheVariants.{All, Ret}
use Rattle.ncp_model.specs.Endpoint.{Endpoint}

abbrev pub amount : ℕ → ℕ → Amount
amount messages bits = record { messages = messages; bits = bits }

abbrev pub no_amount : Amount
no_amount = amount 0 0

infixl 70 ◌⊕◌
abbrev pub ◌⊕◌ : Amount → Amount → Amount
a ⊕ b = amount (a.messages + b.messages) (a.bits + b.bits)

-- at most as many messages, and at most as many bits
infix 60 ◌⊑◌
abbrev pub ◌⊑◌ : Amount → Amount → Type 0
a ⊑ b = (a.messages ≤ b.messages) × (a.bits ≤ b.bits)

-- the remaining allocation: of a sender what its counters still permit, of a receiver what is outstanding
abbrev pub allowance : Endpoint → Amount
allowance e = amount e.messages e.bits

-- The amount that a command grants, and the amount that it returns (NIC 8246, ALL and RET).

abbrev pub granted : Command → Amount
granted (All on of_messages of_bits) = amount of_messages of_bits
granted c = no_amount

abbrev pub returned : Command → Amount
returned (Ret on of_messages of_bits) = amount of_messages of_bits
returned c = no_amount

-- The part of a counter that a GVB calls back: `fraction` 128ths of it, rounded up, and at most all of it
-- (NIC 8246, GVB; the denominator of 128 and the rounding are this profile's rules).
unfoldable pub back : ℕ → ℕ → ℕ
back counter fraction = min counter (div_ceil (counter * fraction) GIVE_BACK_PARTS)
