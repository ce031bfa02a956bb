-- Captures of the interfaces of hosts 1 and 2, besides those of `Examples`: a clean one that lacks a record,
-- and two to which the laws do not apply.
use Rattle.std.specs.Prelude.{ℕ, List, [], ◌∷◌}
use Rattle.ncp_numbers.specs.Bytes.{bits_of_bytes}
use Rattle.ncp_interface.specs.declared.imp_direction.ImpDirection.TheVariants.{FromImp}
use Rattle.ncp_monitor.specs.Coverage.{CaptureRecord}
use Rattle.ncp_proof_monitor_exact.specs.Cases.{sends, receives, control, rrp}
use Rattle.ncp_proof_monitor_exact.specs.Examples.{sent, acknowledged}

-- the first record of host 2, a NOP of its IMP, is after the RFNM to host 1
abbrev pub seen_late : List CaptureRecord
seen_late = sent ∷ acknowledged ∷ (2, FromImp, bits_of_bytes (4 ∷ 0 ∷ 0 ∷ 0 ∷ [])) ∷ []

-- an RRP for which no RST asked, which an audit finds
abbrev pub unasked : List CaptureRecord
unasked = sends (control 1 rrp) ∷ []

-- the IMP of host 1 resets its interface while the RST is outstanding
abbrev pub reset : List CaptureRecord
reset = sent ∷ receives (10 ∷ 0 ∷ 0 ∷ 0 ∷ []) ∷ []
