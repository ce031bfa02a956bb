-- The effects of the functions for C on the host of a handle, if it has one. Without a host they return
-- `NO_HOST`, and nothing changes.
use Rattle.std.specs.Prelude.{ℕ, ◌≡◌, ◌⊎◌, ◌++◌, Bool, false, nat_lt, if◌then◌else◌, List, [], length, drop, Option, None, Some, Result, Ok, Err}
use Rattle.ncp_bits.specs.declared.bits.BitsFault.{BitsFault}
use Rattle.ncp_numbers.specs.Bytes.{bytes_for, bytes_of}
use Rattle.ncp_leader.specs.Leader.{leader_in}
use Rattle.ncp_wire.specs.declared.command.Command.{Command}
use Rattle.ncp_wire.specs.Spelling.{spelling}
use Rattle.ncp_model.specs.declared.call_fault.CallFault.{CallFault}
use Rattle.ncp_host.specs.Host.{Host}
use Rattle.ncp_host.specs.declared.ignored.Ignored.{Ignored}
use Rattle.ncp_host.specs.Saved.{saved}
use Rattle.ncp_host.specs.declared.fault.LoadFault.TheVariants as load
use Rattle.ncp_model.specs.declared.call_fault.CallFault.TheVariants as call
use Rattle.ncp_host.specs.Arrivals.{OnlyNamedPeerChanges}
use Rattle.ncp_embed.specs.declared.handle.held.BoxedHost.{BoxedHost}
use Rattle.ncp_results.specs.declared.returned.Arrived.{Arrived}
use Rattle.ncp_results.specs.declared.codes.TheConstants.{DONE, NO_HOST, NOTHING, SHORT_BUFFER}
use Rattle.ncp_host.specs.declared.fault.HostFault.TheVariants.{OutOfMemory}
use Rattle.ncp_results.specs.Codes.{code_of, fault_code, host_code, load_code, bits_code}
use Rattle.ncp_results.specs.Lookups.{arrived_at}

abbrev pub held : Host → BoxedHost
held h = record { host = h }

-- a host is copied, or allocation fails
abbrev pub IsCopyCode : Option BoxedHost → ℕ → Type 0
IsCopyCode None code = code ≡ NO_HOST
IsCopyCode (Some at) code = (code ≡ DONE) ⊎ (code ≡ host_code OutOfMemory)

-- A host as bytes. A buffer too short for them is refused, and the size needed is returned.

abbrev pub bytes_saved : Option BoxedHost → List ℕ
bytes_saved None = []
bytes_saved (Some at) = saved at.host

abbrev pub IsSaveCode : ℕ → Option BoxedHost → ℕ → Type 0
IsSaveCode room None code = code ≡ NO_HOST
IsSaveCode room (Some at) code =
    (code ≡ (if nat_lt room (length (saved at.host)) then SHORT_BUFFER else DONE)) ⊎ (code ≡ fault_code call.OutOfMemory)

-- there is a host, and its saved bytes are these
abbrev pub IsSavedAs : List ℕ → Option BoxedHost → Type 0
IsSavedAs bytes None = ⊥
IsSavedAs bytes (Some at) = saved at.host ≡ bytes

-- the host was loaded; or an allocation failed
abbrev pub IsLoadedOrNoMemory : Host → ℕ → Option BoxedHost → Type 0
IsLoadedOrNoMemory h code now = ((code ≡ DONE) × (now ≡ Some (held h))) ⊎ (code ≡ load_code load.OutOfMemory)

abbrev pub IsLoadCode : ℕ → Type 0
IsLoadCode code =
    (code ≡ DONE) ⊎ (code ≡ load_code load.NotAHost) ⊎ (code ≡ load_code load.OtherVersion) ⊎ (code ≡ load_code load.OutOfMemory)

-- A call on the host: its code, and the host after it.

abbrev pub code_in : {A : Type 0} → (Host → Result A CallFault) → Option BoxedHost → ℕ
code_in reply None = NO_HOST
code_in reply (Some at) = code_of (reply at.host)

abbrev pub host_changed_in : (Host → Host) → Option BoxedHost → Option BoxedHost
host_changed_in after None = None
host_changed_in after (Some at) = Some (held (after at.host))

-- The call does all of its work, or on allocation failure none. `OutOfMemory` is the last refusal: it is
-- returned only if no other applies.
abbrev pub AnswersOrNoMemory : ℕ → Option BoxedHost → ℕ → Option BoxedHost → Option BoxedHost → Type 0
AnswersOrNoMemory code after result before now =
    ((result ≡ code) × (now ≡ after)) ⊎ ((result ≡ 17) × (code ≡ DONE) × (now ≡ before))

-- A result is written if there is one; otherwise the output is unchanged.

abbrev pub formed : {A B : Type 0} → (A → B) → Result A CallFault → B → B
formed form (Ok answer) out = form answer
formed form (Err fault) out = out

abbrev pub formed_in : {A B : Type 0} → (A → B) → (Host → Result A CallFault) → Option BoxedHost → B → B
formed_in form reply None out = out
formed_in form reply (Some at) out = formed form (reply at.host) out

-- Whether a result passes a test: false if there is none.

abbrev pub holds_if_ok : {A : Type 0} → (A → Bool) → Result A CallFault → Bool
holds_if_ok test (Ok answer) = test answer
holds_if_ok test (Err fault) = false

abbrev pub holds_in : {A : Type 0} → (A → Bool) → (Host → Result A CallFault) → Option BoxedHost → Bool
holds_in test reply None = false
holds_in test reply (Some at) = holds_if_ok test (reply at.host)

-- The same for an optional result.

abbrev pub code_if_any : {A : Type 0} → Option A → ℕ
code_if_any None = NOTHING
code_if_any (Some answer) = DONE

abbrev pub any_of : {A B : Type 0} → (A → B → B) → Option A → B → B
any_of write None out = out
any_of write (Some answer) out = write answer out

abbrev pub any_code_in : {A : Type 0} → (Host → Option A) → Option BoxedHost → ℕ
any_code_in reply None = NO_HOST
any_code_in reply (Some at) = code_if_any (reply at.host)

-- Bytes written to the front of a buffer; a message and a command as bytes; their numbers of bits or
-- bytes.

abbrev pub over : List ℕ → ℕ → List ℕ → List ℕ
over bytes count out = bytes ++ drop count out

abbrev pub message_over : List Bool → List ℕ → List ℕ
message_over message out = over (bytes_of message) (bytes_for (length message)) out

abbrev pub size_of_message : List Bool → ℕ → ℕ
size_of_message message out = length message

abbrev pub command_over : Command → List ℕ → List ℕ
command_over command out = over (spelling command) (length (spelling command)) out

abbrev pub size_of_command : Command → ℕ → ℕ
size_of_command command out = length (spelling command)

-- A buffer without room for the longest result is refused before any other check, and nothing changes.

abbrev pub with_room : {A : Type 0} → ℕ → List ℕ → A → A → A
with_room longest out short answer = if nat_lt (length out) longest then short else answer

-- Bits are passed as bytes. If these do not hold that number of bits, the call is refused before any
-- other check, and nothing changes.

abbrev pub code_of_bits : Result (List Bool) BitsFault → (List Bool → ℕ) → ℕ
code_of_bits (Err fault) code = bits_code fault
code_of_bits (Ok bits) code = code bits

abbrev pub after_bits_read : {A : Type 0} → Result (List Bool) BitsFault → (List Bool → A) → A → A
after_bits_read (Err fault) after before = before
after_bits_read (Ok bits) after before = after bits

abbrev pub receive_code : List Bool → Option BoxedHost → ℕ
receive_code bits None = NO_HOST
receive_code bits (Some at) = DONE

abbrev pub arrived_in : List Bool → Option BoxedHost → Arrived → Arrived
arrived_in bits None out = out
arrived_in bits (Some at) out = arrived_at bits at.host

abbrev pub ignored_told : Host → Result Ignored CallFault
ignored_told h = Ok h.ignored

-- The same for a result that may be refused or absent.

abbrev pub code_of_found : {A : Type 0} → Result (Option A) CallFault → ℕ
code_of_found (Ok answer) = code_if_any answer
code_of_found (Err fault) = fault_code fault

abbrev pub found_code_in : {A : Type 0} → (Host → Result (Option A) CallFault) → Option BoxedHost → ℕ
found_code_in reply None = NO_HOST
found_code_in reply (Some at) = code_of_found (reply at.host)

abbrev pub form_if_any : {A B : Type 0} → (A → B) → Option A → B → B
form_if_any form None out = out
form_if_any form (Some answer) out = form answer

abbrev pub found_of : {A B : Type 0} → (A → B) → Result (Option A) CallFault → B → B
found_of form (Ok answer) out = form_if_any form answer out
found_of form (Err fault) out = out

abbrev pub found_formed_in : {A B : Type 0} → (A → B) → (Host → Result (Option A) CallFault) → Option BoxedHost → B → B
found_formed_in form reply None out = out
found_formed_in form reply (Some at) out = found_of form (reply at.host) out

-- received bits change the state of the peer in their leader, or one count of messages that belong to no
-- peer, and nothing else, for any bits
abbrev pub TouchesOnePeer : Result (List Bool) BitsFault → Option BoxedHost → Option BoxedHost → Type 0
TouchesOnePeer (Err fault) before now = now ≡ before
TouchesOnePeer (Ok bits) None now = now ≡ None
TouchesOnePeer (Ok bits) (Some before) None = ⊥
TouchesOnePeer (Ok bits) (Some before) (Some now) = OnlyNamedPeerChanges (leader_in bits) before.host now.host
