-- Numbers of messages and of bits (NIC 8246, ALL and RET).
use Rattle.std.specs.Prelude.{ℕ, ◌+◌, ◌-◌, ◌^◌, ◌&&◌, nat_lt, nat_le, min, Bool}
use Rattle.ncp_follow.specs.declared.amount.SaturatingAmount.{SaturatingAmount}

abbrev pub nothing : SaturatingAmount
nothing = record { messages = 0; bits = 0 }

-- adds messages and bits; saturates
abbrev pub with_more : SaturatingAmount → ℕ → ℕ → SaturatingAmount
with_more amount messages bits = record { messages = min (amount.messages + messages) (2 ^ 32 - 1); bits = min (amount.bits + bits) (2 ^ 32 - 1) }

-- subtracts messages and bits, down to zero
abbrev pub with_less : SaturatingAmount → ℕ → ℕ → SaturatingAmount
with_less amount messages bits = record { messages = amount.messages - messages; bits = amount.bits - bits }

-- covers a message of `bits` bits
abbrev pub covers : SaturatingAmount → ℕ → Bool
covers amount bits = nat_lt 0 amount.messages && nat_le bits amount.bits
