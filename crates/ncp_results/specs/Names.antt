-- The names of the result codes, as programs print them, found by number.
use Rattle.std.specs.Prelude.{ℕ, ◌==◌, if◌then◌else◌, List, [], ◌∷◌, codes, Option, None, Some}
use Rattle.ncp_bits.specs.declared.bits.BitsFault.{BitsFault}
use Rattle.ncp_bits.specs.declared.bits.BitsFault.TheVariants.{TooLong, ShortBytes, SpareNotZero}
use Rattle.ncp_host.specs.declared.fault.HostFault.{HostFault}
use Rattle.ncp_host.specs.declared.fault.HostFault.TheVariants as new
use Rattle.ncp_host.specs.declared.fault.LoadFault.{LoadFault}
use Rattle.ncp_host.specs.declared.fault.LoadFault.TheVariants as load
use Rattle.ncp_subnet.specs.declared.fault.SubnetFault.{SubnetFault}
use Rattle.ncp_subnet.specs.declared.fault.SubnetFault.TheVariants as subnet
use Rattle.ncp_model.specs.declared.call_fault.CallFault.TheVariants as call
use Rattle.ncp_model.specs.Faults as call_names
use Rattle.ncp_results.specs.declared.codes.TheConstants.{DONE, NO_HOST, NO_POINTER, NO_SUBNET, NOTHING, SHORT_BUFFER}
use Rattle.ncp_results.specs.declared.names.ResultCode.{ResultCode}
use Rattle.ncp_results.specs.declared.names.ResultCode.TheVariants.{Done, Call, New, NoHost, NoPointer, ShortBuffer, Nothing, NoSubnet, Bits, Subnet, Load}
use Rattle.ncp_results.specs.Codes.{fault_code, host_code, load_code, subnet_code, bits_code}

abbrev pub name_of_new : HostFault → List ℕ
name_of_new new.BadPeers = codes "BadPeers"
name_of_new new.OutOfMemory = codes "OutOfMemory"

abbrev pub name_of_subnet : SubnetFault → List ℕ
name_of_subnet subnet.NotRegular = codes "NotRegular"
name_of_subnet subnet.NoHost = codes "NoHost"
name_of_subnet subnet.Occupied = codes "Occupied"

abbrev pub name_of_load : LoadFault → List ℕ
name_of_load load.NotAHost = codes "NotAHost"
name_of_load load.OtherVersion = codes "OtherVersion"
name_of_load load.OutOfMemory = codes "OutOfMemory"

abbrev pub name_of_bits : BitsFault → List ℕ
name_of_bits TooLong = codes "TooLong"
name_of_bits ShortBytes = codes "ShortBytes"
name_of_bits SpareNotZero = codes "SpareNotZero"

abbrev pub number_of_answer : ResultCode → ℕ
number_of_answer Done = DONE
number_of_answer (Call fault) = fault_code fault
number_of_answer (New fault) = host_code fault
number_of_answer NoHost = NO_HOST
number_of_answer NoPointer = NO_POINTER
number_of_answer ShortBuffer = SHORT_BUFFER
number_of_answer Nothing = NOTHING
number_of_answer NoSubnet = NO_SUBNET
number_of_answer (Bits fault) = bits_code fault
number_of_answer (Subnet fault) = subnet_code fault
number_of_answer (Load fault) = load_code fault

abbrev pub name_of_answer : ResultCode → List ℕ
name_of_answer Done = codes "Done"
name_of_answer (Call fault) = call_names.name_of_call_fault fault
name_of_answer (New fault) = name_of_new fault
name_of_answer NoHost = codes "NoHost"
name_of_answer NoPointer = codes "NoPointer"
name_of_answer ShortBuffer = codes "ShortBuffer"
name_of_answer Nothing = codes "Nothing"
name_of_answer NoSubnet = codes "NoSubnet"
name_of_answer (Bits fault) = name_of_bits fault
name_of_answer (Subnet fault) = name_of_subnet fault
name_of_answer (Load fault) = name_of_load fault

-- all result codes
abbrev pub all_answers : List ResultCode
all_answers =
    Done ∷ Call call.UnknownPeer ∷ Call call.NotUp ∷ Call call.BadSex ∷ Call call.BadSize ∷ Call call.BadRoom ∷ Call call.NoEntry ∷ Call call.AlreadyAsked ∷ Call call.Closing
    ∷ Call call.NotOpen ∷ Call call.WrongEnd ∷ Call call.NotWhole ∷ Call call.Busy ∷ Call call.NoRoom ∷ Call call.TooMuch ∷ Call call.TableFull ∷ Call call.QueueFull
    ∷ Call call.OutOfMemory ∷ NoHost ∷ NoPointer ∷ ShortBuffer ∷ Nothing ∷ NoSubnet ∷ Bits TooLong ∷ Bits ShortBytes ∷ Bits SpareNotZero
    ∷ New new.BadPeers ∷ New new.OutOfMemory
    ∷ Subnet subnet.NotRegular ∷ Subnet subnet.NoHost ∷ Subnet subnet.Occupied
    ∷ Load load.NotAHost ∷ Load load.OtherVersion ∷ Load load.OutOfMemory ∷ []

-- the result code with a number
abbrev pub answer_among : List ResultCode → ℕ → Option ResultCode
answer_among [] code = None
answer_among (answer ∷ behind) code = if number_of_answer answer == code then Some answer else answer_among behind code
