-- The inputs of a script's events. A restart of the IMP is, as the host sees it, an Incomplete Transmission
-- (BBN 1822, section 3) that arrives on each link with an unanswered message (this project's own rule, its
-- profile).
use Rattle.std.specs.Prelude.{◌≡◌, ◌⊎◌, ℕ, Bool, true, false, List, [], ◌∷◌, ◌++◌, Some, None, Result, Ok, Err}
use Rattle.ncp_peer.specs.Output.{links}
use Rattle.ncp_host.specs.Host.{Host, state_of}
use Rattle.ncp_host.specs.Restarting.{incomplete_bits, is_message_out, incomplete_comes, after_restart}
use Rattle.ncp_transcript.specs.declared.input.Input.{Input}
use Rattle.ncp_transcript.specs.declared.input.Input.TheVariants.{In}
use Rattle.ncp_transcript.specs.Alone.{Alone, AreHostSteps}
use Rattle.ncp_play_script.specs.declared.host_lines.HostEvent.{HostEvent}
use Rattle.ncp_play_script.specs.declared.host_lines.HostEvent.TheVariants as events
use Rattle.ncp_play_notes.specs.declared.fault.PlayFault.{PlayFault}
use Rattle.ncp_play_notes.specs.declared.fault.PlayFault.TheVariants.{BadLine, LineTooLong, BadHosts, Feed, ReadFailed, WriteFailed, OutOfMemory}

-- one on a link before other inputs, if a message on it is unanswered
abbrev pub incomplete_if : Bool → ℕ → ℕ → List Input → List Input
incomplete_if true number on inputs = In (incomplete_bits number on) ∷ inputs
incomplete_if false number on inputs = inputs

-- on these links to a peer, in order, each at the state after the earlier ones
unfoldable pub incompletes_on : ℕ → List ℕ → Host → List Input
incompletes_on number [] h = []
incompletes_on number (on ∷ ons) h = incomplete_if (is_message_out on (state_of h number)) number on (incompletes_on number ons (incomplete_comes number on h))

-- a restart for a peer: from the lowest link up
abbrev pub inputs_of_restart : ℕ → Host → List Input
inputs_of_restart number h = incompletes_on number links h

-- for these peers, in order
abbrev pub inputs_of_restarts : List ℕ → Host → List Input
inputs_of_restarts [] h = []
inputs_of_restarts (number ∷ numbers) h = inputs_of_restart number h ++ inputs_of_restarts numbers (after_restart number h)

-- the inputs of an event at the state before it, for a host with these peers
abbrev pub inputs_of : List ℕ → HostEvent → Host → List Input
inputs_of peers (events.Input input) h = input ∷ []
inputs_of peers (events.Restart None) h = inputs_of_restarts peers h
inputs_of peers (events.Restart (Some number)) h = inputs_of_restart number h

-- the inputs of events were applied, in order
abbrev pub AreEvents : List ℕ → List HostEvent → Alone → Alone → Type 0
AreEvents peers [] before now = now ≡ before
AreEvents peers (event ∷ more) before now = (next : Alone) × AreHostSteps (inputs_of peers event before.host) before next × AreEvents peers more next now

-- a prefix of inputs was applied
abbrev pub AreFirstSteps : List Input → Alone → Alone → Type 0
AreFirstSteps inputs before now = (done : List Input) × (more : List Input) × (inputs ≡ done ++ more) × AreHostSteps done before now

-- the effect of playing inputs, by the result: all were applied; after a failure a prefix of them
abbrev pub DoesAllOf : List Input → Alone → Result Unit PlayFault → Alone → Type 0
DoesAllOf inputs before (Ok done) now = AreHostSteps inputs before now
DoesAllOf inputs before (Err OutOfMemory) now = AreFirstSteps inputs before now
DoesAllOf inputs before (Err WriteFailed) now = AreFirstSteps inputs before now
DoesAllOf inputs before (Err ReadFailed) now = ⊥
DoesAllOf inputs before (Err BadHosts) now = ⊥
DoesAllOf inputs before (Err (Feed fault)) now = ⊥
DoesAllOf inputs before (Err (BadLine line)) now = ⊥
DoesAllOf inputs before (Err (LineTooLong line)) now = ⊥

-- a prefix of the inputs of events was applied: of those of the first event, or all of them and a prefix
-- of those of the others
abbrev pub AreFirstInputs : List ℕ → List HostEvent → Alone → Alone → Type 0
AreFirstInputs peers [] before now = now ≡ before
AreFirstInputs peers (event ∷ more) before now =
    AreFirstSteps (inputs_of peers event before.host) before now
    ⊎ ((next : Alone) × AreHostSteps (inputs_of peers event before.host) before next × AreFirstInputs peers more next now)
