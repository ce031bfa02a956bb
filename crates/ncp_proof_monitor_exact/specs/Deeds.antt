-- The events of the messages from one host to another on one link, as recorded in a capture, and when
-- these events are faithful. The monitor's state does not appear here.
use Rattle.std.specs.Prelude.{ℕ, ◌==◌, ◌&&◌, Bool, true, false, List, [], ◌∷◌, if◌then◌else◌}
use Rattle.ncp_transcript_two.specs.Honest.{MessageEvent, Sent, Arrives, Acked, Nacked, Other, Clear, HonestFrom, RepeatsFrom}
use Rattle.ncp_interface.specs.declared.event.InterfaceEvent.{InterfaceEvent}
use Rattle.ncp_interface.specs.declared.event.InterfaceEvent.TheVariants as event
use Rattle.ncp_interface.specs.Events.{event_of}
use Rattle.ncp_proof_monitor_exact.specs.Cases.{Capture}

-- An event concerns a message from one host to another: the first host sends it or receives its answer,
-- or the second host receives it.
abbrev pub is_toward : ℕ → ℕ → ℕ → InterfaceEvent → Bool
is_toward from to at (event.Out peer link) = at == from && peer == to
is_toward from to at (event.Answer kind peer link) = at == from && peer == to
is_toward from to at (event.In peer link) = at == to && peer == from
is_toward from to at other = false

abbrev pub is_on : ℕ → InterfaceEvent → Bool
is_on on (event.Out peer link) = link == on
is_on on (event.Answer kind peer link) = link == on
is_on on (event.In peer link) = link == on
is_on on other = false

-- an answer of type 5 is an RFNM (BBN 1822, section 3)
abbrev pub deed_of : List Bool → InterfaceEvent → MessageEvent
deed_of bits (event.Out peer link) = Sent bits
deed_of bits (event.In peer link) = Arrives bits
deed_of bits (event.Answer kind peer link) = if kind == 5 then Acked else Nacked
deed_of bits other = Other

abbrev pub deed_recorded : ℕ → ℕ → ℕ → ℕ → List Bool → InterfaceEvent → MessageEvent
deed_recorded from to on at bits e = if is_toward from to at e && is_on on e then deed_of bits e else Other

abbrev pub deeds_recorded : ℕ → ℕ → ℕ → Capture → List MessageEvent
deeds_recorded from to on [] = []
deeds_recorded from to on (one ∷ more) = deed_recorded from to on one.0 one.2 (event_of one.1 one.0 one.2) ∷ deeds_recorded from to on more

-- The subnet was honest and carried one message at a time. Each message was delivered once before its
-- RFNM, unaltered except for the number in its leader; or was not delivered before another answer. The
-- last may lack its answer. An undelivered message was the next one sent, unchanged.
abbrev pub IsFaithful : ℕ → List MessageEvent → Type 0
IsFaithful from deeds = HonestFrom from Clear deeds × RepeatsFrom [] true deeds
