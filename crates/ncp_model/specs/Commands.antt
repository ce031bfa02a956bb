-- The effect of an incoming command on its endpoint, while the host is up with the peer.
use Rattle.std.specs.Prelude.{ℕ, ◌+◌, ◌-◌, min, ◌==◌, Bool, true, false, not, ◌&&◌, ◌||◌, nat_le, nat_lt, if◌then◌else◌, [], length, Option, None, Some, is_none}
use Rattle.ncp_wire.specs.declared.command.Command.{Command}
use Rattle.ncp_wire.specs.declared.command.Command.TheVariants.{Rts, Str, Cls, All, Gvb, Ret, Inr, Ins}
use Rattle.ncp_model.specs.declared.pair.Pair.{Pair}
use Rattle.ncp_model.specs.declared.outcomes.Heard.{Heard}
use Rattle.ncp_model.specs.declared.outcomes.Heard.TheVariants.{Nothing, Reply, Late, Full}
use Rattle.ncp_model.specs.declared.limits.TheConstants.{MAX_BY_PEER, MAX_MESSAGES, MAX_AMOUNT, MAX_COUNT}
use Rattle.ncp_model.specs.Pairs.{sends, receives, is_proper}
use Rattle.ncp_model.specs.Amounts.{back}
use Rattle.ncp_model.specs.Endpoint.{Endpoint, or_new, is_closing}
use Rattle.ncp_model.specs.Effect.{Effect, Stays, Becomes, met, leaves, closing, is_data_link, error_of, wrong_parameters, no_socket, not_connected}

-- by_peer: the number of endpoints with the peer's request alone

abbrev pub errs : ℕ → Command → Effect Heard
errs code command = Stays (Reply (error_of code command))

-- The peer's request. On an endpoint that is closing it only sets `heard` and the link or size; it opens
-- nothing. The pair is this host's: the receiver's RTS arrives at the sender (NIC 8246, RTS and STR; the
-- conditions are this profile's).

-- taken: another sending endpoint heard that link
abbrev pub wrong_rts : Pair → ℕ → Bool → Option Endpoint → Bool
wrong_rts pair on taken before = not (sends pair) || not (is_data_link on) || (or_new before).heard || taken

abbrev pub wrong_str : Pair → ℕ → Option Endpoint → Bool
wrong_str pair of_size before = not (receives pair) || of_size == 0 || (or_new before).heard

-- the endpoint with the receiver's link, and with the sender's size
abbrev pub heard_link : ℕ → Endpoint → Endpoint
heard_link on e = met (record e { heard = true; link = on })

abbrev pub heard_size : ℕ → Endpoint → Endpoint
heard_size of_size e = met (record e { heard = true; size = of_size })

abbrev pub hear_rts : Pair → ℕ → Bool → ℕ → Option Endpoint → Effect Heard
hear_rts pair on taken by_peer before =
    if wrong_rts pair on taken before then errs wrong_parameters (Rts pair.remote pair.local on)
    else if is_none before && nat_le MAX_BY_PEER by_peer then Stays Full
    else Becomes (heard_link on (or_new before)) Nothing

abbrev pub hear_str : Pair → ℕ → ℕ → Option Endpoint → Effect Heard
hear_str pair of_size by_peer before =
    if wrong_str pair of_size before then errs wrong_parameters (Str pair.remote pair.local of_size)
    else if is_none before && nat_le MAX_BY_PEER by_peer then Stays Full
    else Becomes (heard_size of_size (or_new before)) Nothing

-- The peer's CLS is matched by one of this endpoint (NIC 8246, CLS): made before, or in reply, or
-- deferred while a text of the endpoint is unacknowledged or it holds bits. The deferral is this
-- profile's rule.

abbrev pub hear_cls_end : Pair → Endpoint → Effect Heard
hear_cls_end pair e =
    if e.cls then errs wrong_parameters (Cls pair.remote pair.local)
    else if e.left || e.leaving then Becomes (record e { cls = true }) Nothing
    else if sends pair && e.busy then Becomes (record e { cls = true; leaving = true; stored = [] }) Nothing
    else if receives pair && nat_lt 0 (length e.stored) then Becomes (record e { cls = true; leaving = true }) Nothing
    else Becomes (leaves (record e { cls = true })) (Reply (closing pair))

abbrev pub hear_cls_at : Pair → Option Endpoint → Effect Heard
hear_cls_at pair None = errs no_socket (Cls pair.remote pair.local)
hear_cls_at pair (Some e) = hear_cls_end pair e

abbrev pub hear_cls : Pair → Option Endpoint → Effect Heard
hear_cls pair before = if not (is_proper pair) then errs wrong_parameters (Cls pair.remote pair.local) else hear_cls_at pair before

-- A command that names a link acts on the open endpoint that the link identifies. At an endpoint that is
-- closing it is late (this profile's rule). If the endpoint has not opened, or there is none, it is
-- answered by an ERR: not connected (NIC 8246, ERR).

abbrev pub at_open : Command → (Endpoint → Effect Heard) → Option Endpoint → Effect Heard
at_open command act None = errs not_connected command
at_open command act (Some e) =
    if is_closing e then Stays Late
    else if not e.opened then errs not_connected command
    else act e

-- ALL raises both counters; if one would pass its limit, it is an error and raises neither (NIC 8246,
-- ALL)
abbrev pub all_at : ℕ → ℕ → ℕ → Endpoint → Effect Heard
all_at on more_messages more_bits e =
    if nat_lt MAX_MESSAGES (e.messages + more_messages) || nat_lt MAX_AMOUNT (e.bits + more_bits)
    then errs wrong_parameters (All on more_messages more_bits)
    else Becomes (record e { messages = e.messages + more_messages; bits = e.bits + more_bits }) Nothing

abbrev pub hear_all : ℕ → ℕ → ℕ → Option Endpoint → Effect Heard
hear_all on more_messages more_bits = at_open (All on more_messages more_bits) (all_at on more_messages more_bits)

-- GVB takes the named parts of both counters, and RET reports them (NIC 8246, GVB)
abbrev pub gvb_at : ℕ → ℕ → ℕ → Endpoint → Effect Heard
gvb_at on of_messages of_bits e =
    Becomes
    (record e { messages = e.messages - back e.messages of_messages; bits = e.bits - back e.bits of_bits })
    (Reply (Ret on (back e.messages of_messages) (back e.bits of_bits)))

abbrev pub hear_gvb : ℕ → ℕ → ℕ → Option Endpoint → Effect Heard
hear_gvb on of_messages of_bits = at_open (Gvb on of_messages of_bits) (gvb_at on of_messages of_bits)

-- RET lowers both outstanding numbers and answers the GVB; if it exceeds one, it is an error and changes
-- nothing (NIC 8246, RET)
abbrev pub ret_at : ℕ → ℕ → ℕ → Endpoint → Effect Heard
ret_at on of_messages of_bits e =
    if nat_lt e.messages of_messages || nat_lt e.bits of_bits
    then errs wrong_parameters (Ret on of_messages of_bits)
    else Becomes (record e { messages = e.messages - of_messages; bits = e.bits - of_bits; recall = false }) Nothing

abbrev pub hear_ret : ℕ → ℕ → ℕ → Option Endpoint → Effect Heard
hear_ret on of_messages of_bits = at_open (Ret on of_messages of_bits) (ret_at on of_messages of_bits)

-- an interrupt is counted, up to the limit of a running number (NIC 8246, INR and INS)
abbrev pub interrupted : Endpoint → Effect Heard
interrupted e = Becomes (record e { interrupts = min (e.interrupts + 1) MAX_COUNT }) Nothing

abbrev pub hear_inr : ℕ → Option Endpoint → Effect Heard
hear_inr on = at_open (Inr on) interrupted

abbrev pub hear_ins : ℕ → Option Endpoint → Effect Heard
hear_ins on = at_open (Ins on) interrupted
