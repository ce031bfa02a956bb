-- The effect of text on an endpoint: text that arrives, text that is sent, and the answer to it. Also a
-- clearing.
use Rattle.std.specs.Prelude.{ℕ, ◌-◌, ◌*◌, ◌/◌, min, ◌==◌, Bool, true, false, not, ◌&&◌, ◌||◌, nat_le, nat_lt, if◌then◌else◌, List, [], ◌∷◌, ◌++◌, length, take, drop, Option, None, Some}
use Rattle.ncp_wire.specs.declared.command.Command.{Command}
pub use Rattle.ncp_wire.specs.declared.answer.Answer.{Answer}
pub use Rattle.ncp_wire.specs.declared.answer.Answer.TheVariants.{Rfnm, Incomplete, Dead}
use Rattle.ncp_model.specs.declared.pair.Pair.{Pair}
use Rattle.ncp_model.specs.declared.outcomes.Took.{Took}
use Rattle.ncp_model.specs.declared.outcomes.Took.TheVariants.{Admitted, Late, WrongSize, Over, NotOpen}
use Rattle.ncp_model.specs.declared.limits.TheConstants.{MAX_TEXT}
use Rattle.ncp_model.specs.Pairs.{sends}
use Rattle.ncp_model.specs.Endpoint.{Endpoint, is_closing, is_open}
use Rattle.ncp_model.specs.Effect.{Effect, Stays, Becomes, leaves, closing, text_error}

-- A text arrives, while the host is up with the peer, at the receiving endpoint that its link identifies.
-- It uses one message and its bits of the outstanding allocation (NIC 8246, allocation; the treatment of
-- a text that does not fit is this profile's rule).

abbrev pub text_at : ℕ → List Bool → Endpoint → Effect Took
text_at of_size text e =
    if not (of_size == e.size) then Stays WrongSize
    else if e.messages == 0 || nat_lt e.bits (length text) then Stays Over
    else Becomes (record e { messages = e.messages - 1; bits = e.bits - length text; stored = e.stored ++ text }) Admitted

abbrev pub hear_text : ℕ → List Bool → Option Endpoint → Effect Took
hear_text of_size text None = Stays NotOpen
hear_text of_size text (Some e) =
    if is_closing e then Stays Late
    else if not e.opened then Stays NotOpen
    else text_at of_size text e

-- the commands made; head is the text's leader and prefix (NIC 8246, ERR; that an ERR is made only if no
-- open connection has the link is this profile's rule)
abbrev pub made_by_text : List Bool → List Bool → Took → List Command
made_by_text head text NotOpen = text_error head text ∷ []
made_by_text head text took = []

-- A text is sent: as many whole bytes of the stored text as the counter of bits permits and one message
-- holds, if that is at least one byte and the counter of messages at least one (NIC 8246, allocation).
-- One text at a time, and as much as fits: this profile's rules.

abbrev pub bytes_to_send : Endpoint → ℕ
bytes_to_send e = min (length e.stored / e.size) (min (e.bits / e.size) (MAX_TEXT / e.size))

abbrev pub can_send : Pair → Endpoint → Bool
can_send pair e = sends pair && is_open e && not e.busy && nat_le 1 (bytes_to_send e) && nat_le 1 e.messages

abbrev pub cut_bits : ℕ → Endpoint → Effect (Option (ℕ × List Bool))
cut_bits count e =
    Becomes
    (record e { messages = e.messages - 1; bits = e.bits - count; stored = drop count e.stored; busy = true })
    (Some (e.size, take count e.stored))

-- the byte size and the text, if any
abbrev pub cut : Pair → Option Endpoint → Effect (Option (ℕ × List Bool))
cut pair None = Stays None
cut pair (Some e) = if can_send pair e then cut_bits (bytes_to_send e * e.size) e else Stays None

-- The answer to a text: it was delivered (RFNM); it was not delivered and is sent again (Incomplete
-- Transmission); it was not delivered and is kept until the user asks for it (Destination Dead) (BBN
-- 1822, section 3).

-- only an RFNM frees the sender; a leaving sender then makes its CLS: this profile's rule
abbrev pub taken_at : Pair → Endpoint → Effect (Option Command)
taken_at pair e =
    if not (sends pair) then Stays None
    else if e.leaving then Becomes (leaves (record e { busy = false })) (Some (closing pair))
    else Becomes (record e { busy = false }) None

abbrev pub end_answered : Pair → Answer → Option Endpoint → Effect (Option Command)
end_answered pair Rfnm None = Stays None
end_answered pair Rfnm (Some e) = taken_at pair e
end_answered pair Incomplete before = Stays None
end_answered pair Dead before = Stays None

-- A clearing (an accepted reset, an RST that arrives, going down) removes the endpoint (NIC 8246, RST;
-- that going down clears is this profile's rule).
abbrev pub end_cleared : Option Endpoint → Option Endpoint
end_cleared before = None
