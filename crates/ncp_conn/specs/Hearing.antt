-- The effect of a command on the endpoint that its link identifies, and the table after an effect there
-- (NIC 8246, links).
use Rattle.std.specs.Prelude.{ℕ, not, if◌then◌else◌, Option, None, Some}
use Rattle.ncp_wire.specs.declared.command.Command.{Command}
use Rattle.ncp_model.specs.declared.outcomes.Heard.{Heard}
use Rattle.ncp_model.specs.declared.outcomes.Heard.TheVariants.{Reply, Late}
use Rattle.ncp_model.specs.Endpoint.{Endpoint, is_closing}
use Rattle.ncp_model.specs.Effect.{Effect, error_of, not_connected}
use Rattle.ncp_model.specs.Commands.{at_open}
use Rattle.ncp_model.specs.Ends.{Ends, sender_on, receiver_on, end_of, pair_of, map_after_at}

-- the answer of `at_open` at an endpoint that cannot hear a command; none if it can
abbrev pub refusal_of : Command → Endpoint → Option Heard
refusal_of command e =
    if is_closing e then Some Late
    else if not e.opened then Some (Reply (error_of not_connected command))
    else None

-- the table after an effect at the sending endpoint that heard a link, and at the receiving one that
-- asked with it
abbrev pub after_sender : {A : Type 0} → ℕ → Effect A → Ends → Ends
after_sender on act m = map_after_at m (pair_of (sender_on on m)) act

abbrev pub after_receiver : {A : Type 0} → ℕ → Effect A → Ends → Ends
after_receiver on act m = map_after_at m (pair_of (receiver_on on m)) act

-- the effect of a command there, if the endpoint is open
abbrev pub command_at_sender : ℕ → Command → (Endpoint → Effect Heard) → Ends → Effect Heard
command_at_sender on command act m = at_open command act (end_of (sender_on on m))

abbrev pub command_at_receiver : ℕ → Command → (Endpoint → Effect Heard) → Ends → Effect Heard
command_at_receiver on command act m = at_open command act (end_of (receiver_on on m))

-- the table after it
abbrev pub after_command_at_sender : ℕ → Command → (Endpoint → Effect Heard) → Ends → Ends
after_command_at_sender on command act m = after_sender on (command_at_sender on command act m) m

abbrev pub after_command_at_receiver : ℕ → Command → (Endpoint → Effect Heard) → Ends → Ends
after_command_at_receiver on command act m = after_receiver on (command_at_receiver on command act m) m
