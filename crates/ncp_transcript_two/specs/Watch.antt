-- The histories of pairs in a run: the text given, got and taken, and the amounts granted and returned,
-- since the pair last opened. Each note adds what it shows; the state before it determines whether the
-- pair opens, and which pair a link identifies.
use Rattle.std.specs.Prelude.{ℕ, ◌==◌, Bool, if◌then◌else◌, List, [], ◌∷◌, take, Some, Result, Ok, Err}
use Rattle.std.specs.FinMap.{empty}
use Rattle.ncp_numbers.specs.Bytes.{bytes_of}
use Rattle.ncp_leader.specs.declared.regular.TheConstants.{FRONT_BITS}
use Rattle.ncp_leader.specs.declared.fault.MessageFault.{MessageFault}
use Rattle.ncp_leader.specs.Message.{Message, message_in}
use Rattle.ncp_wire.specs.declared.command.Command.{Command}
use Rattle.ncp_wire.specs.declared.command.Command.TheVariants.{Rst, Rrp}
use Rattle.ncp_control.specs.Reading.{commands_in}
use Rattle.ncp_model.specs.declared.pair.Pair.{Pair}
use Rattle.ncp_model.specs.Ends.{demux_command, pair_of, receiver_on}
use Rattle.ncp_model.specs.EndpointEvents as all
use Rattle.ncp_model.specs.Demux.{comes}
use Rattle.ncp_model.specs.Phase.{up}
use Rattle.ncp_model.specs.Sending.{is_full}
use Rattle.ncp_proof_machine.specs.Resets.{Party, This, That}
use Rattle.ncp_model.specs.Peers.{Peer, PairCall, called}
use Rattle.ncp_proof_machine.specs.Hosts.{Pasts, pasts_after, pasts_after_at}
use Rattle.ncp_peer.specs.PeerState.{PeerState, control_link}
use Rattle.ncp_peer.specs.Hearing as hearing
use Rattle.ncp_transcript.specs.Asked.{Asked, Asks, Asks_echo, Asks_reset, Asks_wake}
use Rattle.ncp_transcript_two.specs.World.{World, swap, NoteBody, Called, In, WorldEvent, step}

abbrev pub pasts_after_call : Pair → PairCall → Peer → Pasts → Pasts
pasts_after_call pair call p pasts = if up p.phase then pasts_after pair (called call (is_full p.phase) p.ends) p.ends pasts else pasts

abbrev pub pasts_after_asked : Asked → Peer → Pasts → Pasts
pasts_after_asked (Asks pair call) p pasts = pasts_after_call pair call p pasts
pasts_after_asked (Asks_echo byte) p pasts = pasts
pasts_after_asked Asks_reset p pasts = pasts
pasts_after_asked Asks_wake p pasts = pasts

abbrev pub of_command : Command → Peer → Pasts → Pasts
of_command Rst p pasts = pasts
of_command Rrp p pasts = pasts
of_command c p pasts = if up p.phase then pasts_after_at (demux_command c p.ends) (comes c p.ends) p.ends pasts else pasts

abbrev pub of_commands : List Command → PeerState → Pasts → Pasts
of_commands [] s pasts = pasts
of_commands (c ∷ cs) s pasts = of_commands cs (hearing.state_hears c s) (of_command c s.peer pasts)

abbrev pub pasts_after_text : ℕ → List Bool → Message → Peer → Pasts → Pasts
pasts_after_text on head m p pasts = if up p.phase then pasts_after_at (pair_of (receiver_on on p.ends)) (Some (all.Text_comes head m.size m.text)) p.ends pasts else pasts

abbrev pub pasts_after_message : ℕ → List Bool → Result Message MessageFault → PeerState → Pasts → Pasts
pasts_after_message on bits (Err fault) s pasts = pasts
pasts_after_message on bits (Ok m) s pasts = if on == control_link then of_commands (commands_in (bytes_of m.text)) s pasts else pasts_after_text on (take FRONT_BITS bits) m s.peer pasts

-- the histories at this host and at that one
pub record Both : Type 0 where
  pub this : Pasts
  pub that : Pasts

abbrev pub no_histories : Both
no_histories = record { this = empty; that = empty }

abbrev pub turn : Both → Both
turn p = record { this = p.that; that = p.this }

-- the histories after a note of this host, in the world before it
abbrev pub histories_after_body : NoteBody → World → Both → Both
histories_after_body (Called asked reply) v p = record p { this = pasts_after_asked asked v.this.peer p.this }
histories_after_body (In on m received) v p = record p { that = pasts_after_message on m (message_in m) v.that p.that }
histories_after_body told v p = p

abbrev pub histories_after_note : Party → NoteBody → World → Both → Both
histories_after_note This told v p = histories_after_body told v p
histories_after_note That told v p = turn (histories_after_body told (swap v) (turn p))

abbrev pub histories_from : List WorldEvent → World → Both → Both
histories_from [] v p = p
histories_from (e ∷ es) v p = histories_from es (step e v).0 (histories_after_note e.side (step e v).1.told v p)
