-- What a command grants and returns, of messages and of bits by themselves.
use Rattle.std.specs.Prelude.{ℕ}
use Rattle.ncp_wire.specs.declared.command.Command.{Command}
use Rattle.ncp_model.specs.Amounts.{granted, returned}

abbrev pub granted_messages : Command → ℕ
granted_messages c = (granted c).messages

abbrev pub granted_bits : Command → ℕ
granted_bits c = (granted c).bits

abbrev pub returned_messages : Command → ℕ
returned_messages c = (returned c).messages

abbrev pub returned_bits : Command → ℕ
returned_bits c = (returned c).bits
