-- What an interface reset leaves in doubt of a message (BBN 1822: type 10, Interface Reset; type 8, Error
-- in Data).
--
-- An IMP that is reset forgets the messages of its host that it has not answered. The host may send each
-- of them again; so may its peers theirs, of which it got a part. So of a message that was outstanding at
-- the reset the wire shows neither whether it arrived nor how often. Of a message of type 8 only the first
-- is true, and only of one message: the IMP did not take it.
use Rattle.std.specs.Prelude.{ℕ, ◌==◌, not, ◌&&◌, ◌||◌, Bool, true, false, List, slice_set, Option, Some, None, if◌then◌else◌}
use Rattle.ncp_interface.specs.declared.doubt.Doubt.{Doubt}
use Rattle.ncp_interface.specs.declared.sent_message.SentMessage.{SentMessage}
use Rattle.ncp_interface.specs.Slots.{is_slot_out, kept_at}

-- it may be sent again, though no answer came
abbrev pub awaits_repeat : Doubt → Bool
awaits_repeat Doubt.None = false
awaits_repeat Doubt.Refused = true
awaits_repeat Doubt.Forgotten = true
awaits_repeat Doubt.Copied = false

-- a copy of it may still arrive, and no answer to it is known to be false
abbrev pub may_arrive_again : Doubt → Bool
may_arrive_again Doubt.None = false
may_arrive_again Doubt.Refused = false
may_arrive_again Doubt.Forgotten = true
may_arrive_again Doubt.Copied = true

-- when its host sends on the link: of a forgotten message two copies may be under way
abbrev pub doubt_after_out : Doubt → Doubt
doubt_after_out Doubt.None = Doubt.None
doubt_after_out Doubt.Refused = Doubt.None
doubt_after_out Doubt.Forgotten = Doubt.Copied
doubt_after_out Doubt.Copied = Doubt.Copied

abbrev pub is_certain : Doubt → Bool
is_certain Doubt.None = true
is_certain Doubt.Refused = false
is_certain Doubt.Forgotten = false
is_certain Doubt.Copied = false

-- the doubt about a message that the host sends, if there was one about the last message on its link
abbrev pub doubt_left : Doubt → Option Doubt
doubt_left was = if is_certain was then None else Some (doubt_after_out was)

-- the IMP refused it: if a copy of it may still arrive, that stays so
abbrev pub doubt_after_refusal : Doubt → Doubt
doubt_after_refusal doubt = if may_arrive_again doubt then Doubt.Forgotten else Doubt.Refused

abbrev pub doubt_of : List SentMessage → Option ℕ → Doubt
doubt_of kept None = Doubt.None
doubt_of kept (Some place) = (kept_at kept place).doubt

abbrev pub with_doubt : List SentMessage → Option ℕ → Doubt → List SentMessage
with_doubt kept None doubt = kept
with_doubt kept (Some place) doubt = slice_set kept place (record (kept_at kept place) { doubt = doubt })

-- a message that is outstanding when the interface of host `at` is reset
abbrev pub after_reset_at : ℕ → SentMessage → SentMessage
after_reset_at at kept =
    if not (is_slot_out kept.slot) then kept
    else if kept.from == at then record kept { doubt = Doubt.Forgotten }
    else if kept.to == at && not (awaits_repeat kept.doubt) then record kept { doubt = Doubt.Copied }
    else kept

-- a message that is outstanding from or to the host
abbrev pub is_outstanding_at : ℕ → SentMessage → Bool
is_outstanding_at at kept = is_slot_out kept.slot && (kept.from == at || kept.to == at)

-- after the IMP refused the message at an index: if it is outstanding, it may be sent again
abbrev pub refused_at : List SentMessage → Option ℕ → List SentMessage
refused_at kept None = kept
refused_at kept (Some place) =
    if is_slot_out (kept_at kept place).slot then with_doubt kept (Some place) (doubt_after_refusal (kept_at kept place).doubt)
    else kept
