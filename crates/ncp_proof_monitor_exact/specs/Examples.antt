-- Captures of the interfaces of hosts 1 and 2 with an RST of host 1: delivered once, delivered twice, and
-- one without a record of the delivery.
use Rattle.std.specs.Prelude.{ℕ, Bool, List, [], ◌∷◌}
use Rattle.ncp_numbers.specs.Bytes.{bits_of_bytes}
use Rattle.ncp_interface.specs.declared.imp_direction.ImpDirection.{ImpDirection}
use Rattle.ncp_interface.specs.declared.imp_direction.ImpDirection.TheVariants.{FromImp}
use Rattle.ncp_proof_monitor_exact.specs.Cases.{Capture, sends, receives, control, rfnm, rst}

abbrev pub sent : ℕ × ImpDirection × List Bool
sent = sends (control 1 rst)

-- at host 2, with the number of host 1 in its leader
abbrev pub delivered : ℕ × ImpDirection × List Bool
delivered = (2, FromImp, bits_of_bytes (0 ∷ 1 ∷ 0 ∷ 0 ∷ 0 ∷ 8 ∷ 0 ∷ 1 ∷ 0 ∷ rst))

abbrev pub acknowledged : ℕ × ImpDirection × List Bool
acknowledged = receives (rfnm 0)

abbrev pub once : Capture
once = sent ∷ delivered ∷ acknowledged ∷ []

abbrev pub twice : Capture
twice = sent ∷ delivered ∷ delivered ∷ acknowledged ∷ []

abbrev pub unseen : Capture
unseen = sent ∷ acknowledged ∷ []
