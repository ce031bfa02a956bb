-- All endpoints of the connections with one peer: a finite map from pairs to endpoints. It supplies the
-- counts that effects depend on, and the endpoint that a command or a text identifies.
use Rattle.std.specs.Prelude.{ℕ, zero, suc, ◌==◌, Bool, not, ◌&&◌, nat_lt, if◌then◌else◌, List, [], ◌∷◌, Option, None, Some, Result, true, false}
use Rattle.std.specs.List.{count_by}
use Rattle.std.specs.FinMap.{FinMap, empty, entries, get, insert, remove}
use Rattle.ncp_wire.specs.declared.command.Command.{Command}
use Rattle.ncp_wire.specs.declared.command.Command.TheVariants.{Rts, Str, Cls, All, Gvb, Ret, Inr, Ins}
use Rattle.ncp_model.specs.declared.pair.Pair.{Pair}
use Rattle.ncp_model.specs.declared.call_fault.CallFault.{CallFault}
use Rattle.ncp_model.specs.declared.outcomes.Heard.{Heard}
use Rattle.ncp_model.specs.declared.outcomes.Heard.TheVariants.{Nothing}
use Rattle.ncp_model.specs.declared.outcomes.Took.{Took}
use Rattle.ncp_wire.specs.declared.links.TheConstants.{FIRST_LINK, DATA_LINKS}
use Rattle.ncp_model.specs.Pairs.{pair_cmp, sends, receives}
use Rattle.ncp_model.specs.Endpoint.{Endpoint, is_ended}
use Rattle.ncp_model.specs.Effect.{Effect, Stays, Becomes}
use Rattle.ncp_model.specs.Calls.{may_ask, ask_send, ask_receive}
use Rattle.ncp_model.specs.Commands.{wrong_rts, wrong_str, hear_rts, hear_str, hear_cls, hear_all, hear_gvb, hear_ret, hear_inr, hear_ins}
use Rattle.ncp_model.specs.Texts.{hear_text, cut, Answer, end_answered}

abbrev pub Ends : Type 0
Ends = FinMap pair_cmp Endpoint

-- the number of endpoints that pass a test
abbrev pub count : (Pair × Endpoint → Bool) → Ends → ℕ
count test m = count_by test (entries m)

-- whether one passes
abbrev pub any : (Pair × Endpoint → Bool) → Ends → Bool
any test m = nat_lt 0 (count test m)

-- the two kinds that are counted, with a limit of 64 each (this profile's): an endpoint with a local
-- request, and one with the peer's request alone
abbrev pub has_asked : Pair × Endpoint → Bool
has_asked p = p.1.asked

abbrev pub is_by_peer : Pair × Endpoint → Bool
is_by_peer p = not p.1.asked

-- a sending endpoint that heard this link (NIC 8246, RTS: the receiver chooses it)
abbrev pub hears_link : ℕ → Pair × Endpoint → Bool
hears_link on p = sends p.0 && p.1.heard && p.1.link == on

-- a receiving endpoint that asked with this link, even if it has left (this profile's rule)
abbrev pub uses_link : ℕ → Pair × Endpoint → Bool
uses_link on p = receives p.0 && p.1.asked && p.1.link == on

-- the first of `many` numbers from `from` up that passes, else the next number after them
unfoldable pub lowest : (ℕ → Bool) → ℕ → ℕ → ℕ
lowest test zero from = from
lowest test (suc many) from = if test from then from else lowest test many (suc from)

-- the lowest link from 2 up that no receiving endpoint uses; at most 64 of the 70 links are used at once.
-- That it is the lowest is this profile's rule
abbrev pub free_link : Ends → ℕ
free_link m = lowest (λ on. not (any (uses_link on) m)) DATA_LINKS FIRST_LINK

-- the first entry that passes a test
abbrev pub first_by : (Pair × Endpoint → Bool) → List (Pair × Endpoint) → Option (Pair × Endpoint)
first_by test [] = None
first_by test (p ∷ ps) = if test p then Some p else first_by test ps

-- The endpoint that a link identifies: for ALL, GVB and INR a sending endpoint that heard it; for RET,
-- INS and text a receiving endpoint that asked with it (NIC 8246, links). An endpoint that has left is
-- found too: this profile's rule.

abbrev pub sender_on : ℕ → Ends → Option (Pair × Endpoint)
sender_on on m = first_by (hears_link on) (entries m)

abbrev pub receiver_on : ℕ → Ends → Option (Pair × Endpoint)
receiver_on on m = first_by (uses_link on) (entries m)

abbrev pub end_of : Option (Pair × Endpoint) → Option Endpoint
end_of None = None
end_of (Some p) = Some p.1

abbrev pub pair_of : Option (Pair × Endpoint) → Option Pair
pair_of None = None
pair_of (Some p) = Some p.0

-- this host's pair for a command, if there is one (NIC 8246, commands: requests and CLS name both
-- sockets, other connection commands a link)
abbrev pub demux_command : Command → Ends → Option Pair
demux_command (Rts receive send on) m = Some (record { local = send; remote = receive })
demux_command (Str send receive of_size) m = Some (record { local = receive; remote = send })
demux_command (Cls my your) m = Some (record { local = your; remote = my })
demux_command (All on more_messages more_bits) m = pair_of (sender_on on m)
demux_command (Gvb on of_messages of_bits) m = pair_of (sender_on on m)
demux_command (Ret on of_messages of_bits) m = pair_of (receiver_on on m)
demux_command (Inr on) m = pair_of (sender_on on m)
demux_command (Ins on) m = pair_of (receiver_on on m)
demux_command c m = None

-- Local requests in a table: the number of local requests and the free link are looked up (this profile's
-- rules).

abbrev pub ask_send_in : Pair → ℕ → ℕ → Bool → Ends → Effect (Result Command CallFault)
ask_send_in pair of_size with_room full m = ask_send pair of_size with_room (count has_asked m) full (get m pair)

abbrev pub ask_receive_in : Pair → ℕ → Bool → Ends → Effect (Result Command CallFault)
ask_receive_in pair with_room full m = ask_receive pair with_room (free_link m) (count has_asked m) full (get m pair)

-- A text that arrives, is sent or is answered on a link: the effect on the endpoint that the link
-- identifies (NIC 8246, links).

abbrev pub text_in : ℕ → ℕ → List Bool → Ends → Effect Took
text_in on of_size text m = hear_text of_size text (end_of (receiver_on on m))

abbrev pub cut_at : Option (Pair × Endpoint) → Effect (Option (ℕ × List Bool))
cut_at None = Stays None
cut_at (Some p) = cut p.0 (Some p.1)

abbrev pub cut_in : ℕ → Ends → Effect (Option (ℕ × List Bool))
cut_in on m = cut_at (sender_on on m)

abbrev pub answered_at : Answer → Option (Pair × Endpoint) → Effect (Option Command)
answered_at how None = Stays None
answered_at how (Some p) = end_answered p.0 how (Some p.1)

abbrev pub answered_in : ℕ → Answer → Ends → Effect (Option Command)
answered_in on how m = answered_at how (sender_on on m)

-- whether a local request may be made
abbrev pub may_ask_in : Pair → Bool → Ends → Result (Unit {0}) CallFault
may_ask_in pair full m = may_ask (count has_asked m) full (get m pair)

-- The peer's requests in a table: whether one endpoint heard the link, and the number with the peer's
-- request alone, are looked up (this profile's rules).

abbrev pub wrong_rts_in : Pair → ℕ → Ends → Bool
wrong_rts_in pair on m = wrong_rts pair on (any (hears_link on) m) (get m pair)

abbrev pub wrong_str_in : Pair → ℕ → Ends → Bool
wrong_str_in pair of_size m = wrong_str pair of_size (get m pair)

abbrev pub hear_rts_in : Pair → ℕ → Ends → Effect Heard
hear_rts_in pair on m = hear_rts pair on (any (hears_link on) m) (count is_by_peer m) (get m pair)

abbrev pub hear_str_in : Pair → ℕ → Ends → Effect Heard
hear_str_in pair of_size m = hear_str pair of_size (count is_by_peer m) (get m pair)

-- the effect of a connection command on the endpoint that it identifies; any other command has none
abbrev pub hear : Command → Ends → Effect Heard
hear (Rts receive send on) m = hear_rts_in (record { local = send; remote = receive }) on m
hear (Str send receive of_size) m = hear_str_in (record { local = receive; remote = send }) of_size m
hear (Cls my your) m =
    let pair : Pair = record { local = your; remote = my } in
    hear_cls pair (get m pair)
hear (All on more_messages more_bits) m = hear_all on more_messages more_bits (end_of (sender_on on m))
hear (Gvb on of_messages of_bits) m = hear_gvb on of_messages of_bits (end_of (sender_on on m))
hear (Ret on of_messages of_bits) m = hear_ret on of_messages of_bits (end_of (receiver_on on m))
hear (Inr on) m = hear_inr on (end_of (sender_on on m))
hear (Ins on) m = hear_ins on (end_of (receiver_on on m))
hear c m = Stays Nothing

-- the table with this endpoint, or with none, at a pair
abbrev pub put : Ends → Pair → Option Endpoint → Ends
put m pair None = remove m pair
put m pair (Some e) = insert m pair e

-- the table with this endpoint at a pair; one that is over is removed
abbrev pub map_with : Ends → Pair → Endpoint → Ends
map_with m pair e = if is_ended e then remove m pair else insert m pair e

-- the table after an effect at a pair
abbrev pub map_after : {A : Type 0} → Ends → Pair → Effect A → Ends
map_after m pair (Stays a) = m
map_after m pair (Becomes e a) = map_with m pair e

-- the table after an effect at the pair that a look-up found; unchanged if it found none
abbrev pub map_after_at : {A : Type 0} → Ends → Option Pair → Effect A → Ends
map_after_at m None act = m
map_after_at m (Some pair) act = map_after m pair act

-- the table after a clearing
abbrev pub no_ends : Ends
no_ends = empty

-- the link of a command that identifies its endpoint by a link alone
abbrev pub link_of : Command → Option ℕ
link_of (All on of_messages of_bits) = Some on
link_of (Gvb on of_messages of_bits) = Some on
link_of (Ret on of_messages of_bits) = Some on
link_of (Inr on) = Some on
link_of (Ins on) = Some on
link_of c = None

-- whether a command names sockets
abbrev pub names_sockets : Command → Bool
names_sockets (Rts receive send on) = true
names_sockets (Str send receive of_size) = true
names_sockets (Cls my your) = true
names_sockets c = false
