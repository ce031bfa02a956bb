-- States for examples.
use Rattle.std.specs.Prelude.{◌≡◌, ℕ, true, [], ◌∷◌}
use Rattle.ncp_wire.specs.declared.command.Command.{Command}
use Rattle.ncp_model.specs.declared.pair.Pair.{Pair}
use Rattle.ncp_model.specs.Phase.{up_phase}
use Rattle.ncp_model.specs.Peers.{new_peer}
use Rattle.ncp_proof_machine.specs.Watching.{HistoryVars}
use Rattle.ncp_peer.specs.PeerState.{PeerState, new_state}
use Rattle.ncp_transcript_two.specs.World.{World, NoteBody}
use Rattle.ncp_transcript_two.specs.Watch.{Both}
use Rattle.ncp_proof_promises.specs.Since.{nothing_seen}

abbrev pub waiting_state : PeerState
waiting_state = record new_state { peer = record new_peer { phase = record up_phase { wait = true } } }

-- an ECO was made, and an INR was received
abbrev pub seen_before : HistoryVars
seen_before = record nothing_seen { made = Command.Eco 64 ∷ []; came = Command.Inr 2 ∷ [] }

-- this host has this number, before and after the note
abbrev pub IsThis : ℕ → NoteBody → World → World → Type 0
IsThis number told v after = (number ≡ v.here) × (number ≡ after.here)

-- this host, of the pair, has this number
abbrev pub IsPairOf : ℕ → Pair → World → Both → Type 0
IsPairOf number pair v p = number ≡ v.here
