use Rattle.std.proofs.Common.{◌≡◌, ◌++◌, ℕ, List, [], All}
use Rattle.ncp_wire.specs.declared.command.Command.{Command}
use Rattle.ncp_saved.specs.Values.{listed, command_saved}
use Rattle.ncp_saved.specs.Reading.{HasItsData}
use Rattle.ncp_phase.specs.declared.flags.Flags.{Flags}
use Rattle.ncp_phase.specs.Waiting.{QueueFits}
use Rattle.ncp_phase.specs.Restoring.{phase_with}
use Rattle.ncp_peer.proofs.ListRead.{IsAt}
use Rattle.ncp_peer.proofs.reading.read_commands.Given as goal

-- the commands that are read are queued, and the others are left
abbrev pub invariant-loop-place : goal.invariant-loop-place
invariant-loop-place l =
    (flags : Flags) (waiting : List Command) (rest : List ℕ) → QueueFits (phase_with flags waiting) → All HasItsData waiting → l.fn.phase ≡ phase_with flags [] → l.fn.reader ≡ listed command_saved waiting ++ rest
    → IsAt command_saved waiting rest l.reader l._place (λ done. l.phase ≡ phase_with flags done)
