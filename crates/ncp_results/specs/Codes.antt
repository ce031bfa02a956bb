-- The result codes for C: a refusal of a call keeps the number that it has everywhere, and no two codes
-- are equal.
use Rattle.std.specs.Prelude.{ℕ, ◌+◌, Result, Ok, Err}
use Rattle.ncp_bits.specs.declared.bits.BitsFault.{BitsFault}
use Rattle.ncp_bits.specs.declared.bits.BitsFault.TheVariants.{TooLong, ShortBytes, SpareNotZero}
use Rattle.ncp_host.specs.declared.fault.HostFault.{HostFault}
use Rattle.ncp_host.specs.declared.fault.HostFault.TheVariants.{BadPeers, OutOfMemory}
use Rattle.ncp_host.specs.declared.fault.LoadFault.{LoadFault}
use Rattle.ncp_host.specs.declared.fault.LoadFault.TheVariants as load
use Rattle.ncp_model.specs.declared.call_fault.CallFault.{CallFault}
use Rattle.ncp_subnet.specs.declared.fault.SubnetFault.{SubnetFault}
use Rattle.ncp_subnet.specs.declared.fault.SubnetFault.TheVariants.{NotRegular, NoHost, Occupied}
use Rattle.ncp_model.specs.Faults.{fault_number}
use Rattle.ncp_results.specs.declared.codes.TheConstants.{DONE, BITS, NEW, SUBNET, LOAD}

-- of a call
abbrev pub fault_code : CallFault → ℕ
fault_code fault = fault_number fault

abbrev pub code_of : {A : Type 0} → Result A CallFault → ℕ
code_of (Ok answer) = DONE
code_of (Err fault) = fault_code fault

-- of a new host
abbrev pub host_code : HostFault → ℕ
host_code BadPeers = NEW + 1
host_code OutOfMemory = NEW + 2

-- of a failure to load a host
abbrev pub load_code : LoadFault → ℕ
load_code load.NotAHost = LOAD + 1
load_code load.OtherVersion = LOAD + 2
load_code load.OutOfMemory = LOAD + 3

-- of a message that the subnet does not accept
abbrev pub subnet_code : SubnetFault → ℕ
subnet_code NotRegular = SUBNET + 1
subnet_code NoHost = SUBNET + 2
subnet_code Occupied = SUBNET + 3

-- of a bits fault
abbrev pub bits_number : BitsFault → ℕ
bits_number TooLong = 1
bits_number ShortBytes = 2
bits_number SpareNotZero = 3

abbrev pub bits_code : BitsFault → ℕ
bits_code fault = BITS + bits_number fault
