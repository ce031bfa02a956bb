-- One host and one peer: the state that the host has for the peer, and all its transitions. It has no
-- history variables: no record of all that was made, received and given. Whether the data links are quiet
-- is an argument, since the state of the links is elsewhere.
use Rattle.std.specs.Prelude.{ℕ, Bool, true, false, if◌then◌else◌, List, [], ◌∷◌, ◌++◌, length, drop, Result, Ok, Err}
use Rattle.std.specs.FinMap.{get}
use Rattle.ncp_wire.specs.declared.command.Command.{Command}
use Rattle.ncp_wire.specs.declared.command.Command.TheVariants.{Eco, Erp, Rst, Rrp}
use Rattle.ncp_wire.specs.declared.command.Command.TheVariants as commands
use Rattle.ncp_wire.specs.declared.fault.CommandFault.{CommandFault}
use Rattle.ncp_model.specs.declared.pair.Pair.{Pair}
use Rattle.ncp_model.specs.declared.call_fault.CallFault.{CallFault}
use Rattle.ncp_model.specs.declared.call_fault.CallFault.TheVariants.{NotUp}
use Rattle.ncp_model.specs.declared.outcomes.Heard.{Heard}
use Rattle.ncp_model.specs.declared.outcomes.Heard.TheVariants as heard
use Rattle.ncp_model.specs.Effect.{answer, made_if_any, made_by_call, made_by_hearing}
use Rattle.ncp_model.specs.Texts.{made_by_text, Rfnm}
use Rattle.ncp_model.specs.Ends.{Ends, count, has_asked, free_link, sender_on, receiver_on, pair_of, demux_command, hear, text_in, cut_in, answered_in, map_after_at, no_ends, put}
use Rattle.ncp_model.specs.EndpointEvents.{EndpointEvent, Outcome, Refused, Took_out, Transition, happens}
use Rattle.ncp_model.specs.EndpointEvents as all
use Rattle.ncp_model.specs.Echo.{Echoes, no_echoes, echo_answer, echo_asked, eco_reply, hear_erp, hear_err, purge_echo}
use Rattle.ncp_model.specs.Phase.{Phase, new_phase, up, is_resetting, Reaction, makes_all, resets, hears_rst, hears_rrp, goes_down}
use Rattle.ncp_model.specs.Phase as phases
use Rattle.ncp_model.specs.Sending.{is_full, next_commands}

pub record Peer : Type 0 where
  pub phase : Phase  -- the flags, and the queued commands
  pub ends : Ends
  pub echoes : Echoes

abbrev pub new_peer : Peer
new_peer = record { phase = new_phase; ends = no_ends; echoes = no_echoes }

-- A clearing removes every endpoint and ends the awaited echo.

abbrev pub cleared : Phase → Peer → Peer
cleared q p = record { phase = q; ends = no_ends; echoes = purge_echo p.echoes }

-- the host goes down
abbrev pub falls : Peer → Peer
falls p = cleared (goes_down p.phase) p

-- the state after commands were made: cleared if the host went down meanwhile, else with its endpoints
-- and echo
abbrev pub kept : Phase → Ends → Ends
kept q m = if up q then m else no_ends

abbrev pub kept_echoes : Phase → Echoes → Echoes
kept_echoes q s = if up q then s else purge_echo s

abbrev pub standing : Phase → Ends → Echoes → Peer
standing q m s = record { phase = q; ends = kept q m; echoes = kept_echoes q s }

-- the commands of a call or of replies are made, if the host is up
abbrev pub makes : List Command → Peer → Peer
makes cs p = standing (makes_all cs p.phase) p.ends p.echoes

-- A user's calls while the host is up. Counts of the other endpoints and of queued commands are looked up
-- in the state.

pub data PairCall : Type 0 where
  Ask_to_send : (of_size : ℕ) → (with_room : ℕ) → PairCall
  Ask_to_receive : (with_room : ℕ) → PairCall
  Close : PairCall
  Give : (text : List Bool) → PairCall
  Take : (bytes : ℕ) → PairCall
  Allocate : (of_messages : ℕ) → (of_bits : ℕ) → PairCall
  Call_back : (of_messages : ℕ) → (of_bits : ℕ) → PairCall
  Interrupt : PairCall

abbrev pub called : PairCall → Bool → Ends → EndpointEvent
called (Ask_to_send of_size with_room) full m = all.Asks_to_send of_size with_room (count has_asked m) full
called (Ask_to_receive with_room) full m = all.Asks_to_receive with_room (free_link m) (count has_asked m) full
called Close full m = all.Closes full
called (Give text) full m = all.Gives text
called (Take bytes) full m = all.Takes bytes
called (Allocate of_messages of_bits) full m = all.Allocates of_messages of_bits full
called (Call_back of_messages of_bits) full m = all.Calls_back of_messages of_bits full
called Interrupt full m = all.Interrupts full

abbrev pub happened_at : Pair → PairCall → Peer → Transition
happened_at pair call p = happens pair (called call (is_full p.phase) p.ends) (get p.ends pair)

abbrev pub calls_up : Pair → PairCall → Peer → Peer
calls_up pair call p = makes (happened_at pair call p).made (record p { ends = put p.ends pair (happened_at pair call p).after })

abbrev pub calls : Pair → PairCall → Peer → Peer
calls pair call p = if up p.phase then calls_up pair call p else p

-- the outcome of a call, and its result
abbrev pub comes_of : Pair → PairCall → Peer → Outcome
comes_of pair call p = if up p.phase then (happened_at pair call p).outcome else Refused NotUp

abbrev pub reply : Outcome → Result (Unit {0}) CallFault
reply (Refused fault) = Err fault
reply outcome = Ok tt

-- the result of a `take`
abbrev pub reply_of_take : Outcome → Result (List Bool) CallFault
reply_of_take (Refused fault) = Err fault
reply_of_take (Took_out text) = Ok text
reply_of_take outcome = Ok []

abbrev pub echo_called : ℕ → Peer → Peer
echo_called byte p = makes (made_by_call (echo_answer byte (is_full p.phase) p.echoes)) (record p { echoes = echo_asked (is_full p.phase) p.echoes })

abbrev pub calls_echo : ℕ → Peer → Peer
calls_echo byte p = if up p.phase then echo_called byte p else p

-- the result of a call that makes a command: `Ok` unless it is refused
abbrev pub call_accepted : {A : Type 0} → Result A CallFault → Result (Unit {0}) CallFault
call_accepted (Ok a) = Ok tt
call_accepted (Err fault) = Err fault

abbrev pub reply_of_echo : ℕ → Peer → Result (Unit {0}) CallFault
reply_of_echo byte p = if up p.phase then call_accepted (echo_answer byte (is_full p.phase) p.echoes) else Err NotUp

abbrev pub calls_reset : Bool → Peer → Peer
calls_reset quiet p = if is_resetting p.phase then p else cleared (resets quiet p.phase) p

-- A command arrives. If it names a link, it acts on the endpoint found by that link.

abbrev pub is_full_up : Heard → Bool
is_full_up heard.Full = true
is_full_up answer_given = false

abbrev pub echo_replies : Command → List Command
echo_replies (Eco byte) = eco_reply byte ∷ []
echo_replies c = []

abbrev pub echoes_after : Command → Echoes → Echoes
echoes_after (Erp byte) s = hear_erp byte s
echoes_after (commands.Err code data_bytes) s = hear_err (record { code = code; bytes = data_bytes }) s
echoes_after c s = s

-- the host's reaction to a command
abbrev pub reaction : Bool → Command → Peer → Reaction
reaction quiet c p = record {
  quiet = quiet;
  full = is_full_up (answer (hear c p.ends));
  replies = made_by_hearing (answer (hear c p.ends)) ++ echo_replies c;
}

-- the effect, while up, of a command that is neither RST nor RRP
abbrev pub hears_other : Bool → Command → Peer → Peer
hears_other quiet c p = standing
    (phases.phase_hears c (reaction quiet c p) p.phase)
    (map_after_at p.ends (demux_command c p.ends) (hear c p.ends))
    (echoes_after c p.echoes)

-- the effect of a command: of RST and RRP in any phase, of all others only while up
abbrev pub hears : Bool → Command → Peer → Peer
hears quiet Rst p = cleared (hears_rst quiet p.phase) p
hears quiet Rrp p = record p { phase = hears_rrp p.phase }
hears quiet c p = if up p.phase then hears_other quiet c p else p

-- the host finds a fault in a control text, and makes its ERR
abbrev pub hears_fault : CommandFault → Peer → Peer
hears_fault fault p = if up p.phase then makes (commands.Err fault.code fault.bytes ∷ []) p else p

-- A text arrives on a link, with its leader and prefix. While the host is not up it is dropped.

abbrev pub takes_text : ℕ → List Bool → ℕ → List Bool → Peer → Peer
takes_text on head of_size text p =
    let took = text_in on of_size text p.ends in
    makes (made_by_text head text (answer took)) (record p { ends = map_after_at p.ends (pair_of (receiver_on on p.ends)) took })

abbrev pub hears_text : ℕ → List Bool → ℕ → List Bool → Peer → Peer
hears_text on head of_size text p = if up p.phase then takes_text on head of_size text p else p

-- A text is sent on a link.
abbrev pub cuts : ℕ → Peer → Peer
cuts on p = record p { ends = map_after_at p.ends (pair_of (sender_on on p.ends)) (cut_in on p.ends) }

-- The commands of the next control message are sent.
abbrev pub peer_sends : Peer → Peer
peer_sends p = record p { phase = record p.phase { waiting = drop (length (next_commands p.phase.waiting)) p.phase.waiting } }

-- An RFNM acknowledges a text: its sender may send again, and a leaving sender makes its CLS. Endpoints
-- exist only while the host is up.
abbrev pub frees_up : ℕ → Peer → Peer
frees_up on p =
    let act = answered_in on Rfnm p.ends in
    makes (made_if_any (answer act)) (record p { ends = map_after_at p.ends (pair_of (sender_on on p.ends)) act })

abbrev pub frees : ℕ → Peer → Peer
frees on p = if up p.phase then frees_up on p else p

-- settling, if the data links are quiet
abbrev pub settles : Bool → Peer → Peer
settles quiet p = record p { phase = phases.phase_settles quiet p.phase }
