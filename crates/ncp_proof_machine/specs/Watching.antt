-- The history variables of a host of two: the commands made and received since it was last cleared, the
-- history of each pair, and whether the protocol was violated. The step, the host's state for its peer
-- before it, and whether the host is still up after it determine what it appends. No rule reads them.
use Rattle.std.specs.Prelude.{◌≡◌, ℕ, Bool, ◌||◌, if◌then◌else◌, List, [], ◌∷◌, ◌++◌, Some}
use Rattle.std.specs.List.{filter}
use Rattle.ncp_wire.specs.declared.command.Command.{Command}
use Rattle.ncp_wire.specs.declared.command.Command.TheVariants.{Rst, Rrp}
use Rattle.ncp_model.specs.declared.pair.Pair.{Pair}
use Rattle.ncp_model.specs.Effect.{answer, made_if_any, made_by_call}
use Rattle.ncp_model.specs.Texts.{made_by_text, Rfnm}
use Rattle.ncp_model.specs.Ends.{pair_of, receiver_on, demux_command, hear, text_in, answered_in}
use Rattle.ncp_model.specs.EndpointEvents.{of_hearing, outcome_of_text, is_violation, EndpointEvent}
use Rattle.ncp_model.specs.Demux.{comes}
use Rattle.ncp_model.specs.Echo.{echo_answer}
use Rattle.ncp_model.specs.Phase.{up, is_other, is_resetting}
use Rattle.ncp_model.specs.Sending.{is_full}
use Rattle.ncp_model.specs.Peers.{Peer, PairCall, called, happened_at, reaction, calls_up, echo_called, frees_up, hears, hears_other, takes_text}
use Rattle.ncp_proof_machine.specs.Delivery.{Slot, Travelling, MessageTransit, Accepted, Delivered}
use Rattle.ncp_proof_machine.specs.Hosts.{Node, TextOut, Pasts, pasts_after, pasts_after_at, TwoNodes, NodeStep, Calls_reset, Calls, Calls_echo, Falls, Hears, Hears_text, Text_is_answered, node_steps}
use Rattle.ncp_proof_machine.specs.Seen.{Links, links_of, are_quiet}
use Rattle.ncp_proof_machine.specs.Hosts.{peer_of}

pub record HistoryVars : Type 0 where
  pub made : List Command
  pub came : List Command
  pub pasts : Pasts
  pub violated : Bool

abbrev pub watch_of : Node → HistoryVars
watch_of n = record { made = n.host.made; came = n.host.came; pasts = n.pasts; violated = n.violated }

-- a clearing: commands made and received start again, from empty
abbrev pub begins_empty : HistoryVars → HistoryVars
begins_empty w = record w { made = []; came = [] }

-- Commands were received, and others made, at a host that was up. If it no longer is, it was cleared.
abbrev pub notes : Bool → List Command → List Command → HistoryVars → HistoryVars
notes still_up came made w = record w {
  made = if still_up then w.made ++ filter is_other made else [];
  came = if still_up then w.came ++ came else [];
}

-- an event on a pair, and whether it violates the protocol
abbrev pub notes_of_pair : Pasts → Bool → HistoryVars → HistoryVars
notes_of_pair pasts is_against w = record w { pasts = pasts; violated = w.violated || is_against }

abbrev pub sees_call : Pair → PairCall → Peer → HistoryVars → HistoryVars
sees_call pair call p w =
    if up p.phase
    then notes (up (calls_up pair call p).phase) [] (happened_at pair call p).made
    (notes_of_pair (pasts_after pair (called call (is_full p.phase) p.ends) p.ends w.pasts) (is_violation (happened_at pair call p).outcome) w)
    else w

abbrev pub sees_echo : ℕ → Peer → HistoryVars → HistoryVars
sees_echo byte p w =
    if up p.phase
    then notes (up (echo_called byte p).phase) [] (made_by_call (echo_answer byte (is_full p.phase) p.echoes)) w
    else w

abbrev pub sees_command : Bool → Command → Peer → HistoryVars → HistoryVars
sees_command quiet Rst p w = begins_empty w
sees_command quiet Rrp p w = w
sees_command quiet c p w =
    if up p.phase
    then notes (up (hears_other quiet c p).phase) (c ∷ []) (reaction quiet c p).replies
    (notes_of_pair (pasts_after_at (demux_command c p.ends) (comes c p.ends) p.ends w.pasts) (is_violation (of_hearing (answer (hear c p.ends)))) w)
    else w

abbrev pub sees_each : Bool → List Command → Peer → HistoryVars → HistoryVars
sees_each quiet [] p w = w
sees_each quiet (c ∷ cs) p w = sees_each quiet cs (hears quiet c p) (sees_command quiet c p w)

abbrev pub sees_text : ℕ → List Bool → TextOut → Peer → HistoryVars → HistoryVars
sees_text on head t p w =
    let took = text_in on t.of_size t.bits p.ends in
    if up p.phase
    then notes (up (takes_text on head t.of_size t.bits p).phase) [] (made_by_text head t.bits (answer took))
    (notes_of_pair (pasts_after_at (pair_of (receiver_on on p.ends)) (Some (EndpointEvent.Text_comes head t.of_size t.bits)) p.ends w.pasts) (is_violation (outcome_of_text (answer took))) w)
    else w

-- a text of this host was acknowledged
abbrev pub sees_taken : ℕ → Peer → HistoryVars → HistoryVars
sees_taken on p w =
    if up p.phase
    then notes (up (frees_up on p).phase) [] (made_if_any (answer (answered_in on Rfnm p.ends))) w
    else w

-- The history variables after each step, given the links of the host and of the other.

abbrev pub sees_message : MessageTransit (List Command) → Bool → Peer → HistoryVars → HistoryVars
sees_message (Accepted m) quiet p w = sees_each quiet m p w
sees_message subnet quiet p w = w

abbrev pub sees_coming : ℕ → List Bool → MessageTransit TextOut → Peer → HistoryVars → HistoryVars
sees_coming on head (Accepted t) p w = sees_text on head t p w
sees_coming on head subnet p w = w

abbrev pub sees_answer : ℕ → Slot TextOut → MessageTransit TextOut → Peer → HistoryVars → HistoryVars
sees_answer on (Travelling t) Delivered p w = sees_taken on p w
sees_answer on slot subnet p w = w

abbrev pub watch_after : NodeStep → Links → Links → Peer → HistoryVars → HistoryVars
watch_after Calls_reset own others p w = if is_resetting p.phase then w else begins_empty w
watch_after (Calls pair call) own others p w = sees_call pair call p w
watch_after (Calls_echo byte) own others p w = sees_echo byte p w
watch_after Falls own others p w = begins_empty w
watch_after Hears own others p w = sees_message others.control.subnet (are_quiet own) p w
watch_after (Hears_text on head) own others p w = sees_coming on head (others.texts on).subnet p w
watch_after (Text_is_answered on) own others p w = sees_answer on (own.texts on).slot (own.texts on).subnet p w
watch_after step own others p w = w

abbrev pub WatchesAgree : Type 0
WatchesAgree = (step : NodeStep) (w : TwoNodes) → watch_of (node_steps step w).this ≡ watch_after step (links_of w.this) (links_of w.that) (peer_of w.this) (watch_of w.this)

abbrev pub OtherWatchesStay : Type 0
OtherWatchesStay = (step : NodeStep) (w : TwoNodes) → watch_of (node_steps step w).that ≡ watch_of w.that
