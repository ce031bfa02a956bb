-- The marks of a pair of sockets, and its sums: what the events on its endpoint show since its last end
-- or clearing. Marks use no rule, but only the event, its outcome, and the commands made (NIC 8246,
-- establishment, termination, allocation; that each counts since the last end is this profile's rule).
use Rattle.std.specs.Prelude.{ℕ, ◌+◌, ◌-◌, min, Bool, true, false, not, ◌&&◌, ◌||◌, if◌then◌else◌, List, [], ◌∷◌, ◌++◌, length, drop, Option, None, Some}
use Rattle.ncp_wire.specs.declared.command.Command.{Command}
use Rattle.ncp_model.specs.declared.pair.Pair.{Pair}
use Rattle.ncp_model.specs.declared.limits.TheConstants.{MAX_COUNT}
use Rattle.ncp_model.specs.declared.amounts.Amount.{Amount}
use Rattle.ncp_model.specs.Amounts.{amount, no_amount, ◌⊕◌, returned}
use Rattle.ncp_model.specs.Texts.{Rfnm, Incomplete, Dead}
use Rattle.ncp_model.specs.Pairs.{sends}
use Rattle.ncp_model.specs.Endpoint.{Endpoint}
use Rattle.ncp_model.specs.EndpointEvents.{EndpointEvent, Outcome}
use Rattle.ncp_proof_endpoint.specs.Histories.{is_outcome_accepted, is_admitted, taken_out}
use Rattle.ncp_conn.specs.declared.record.Record.{Record}
use Rattle.ncp_conn.specs.Records.{record_if_any}
use Rattle.ncp_transcript.specs.declared.note.HostNote.{HostNote}
use Rattle.ncp_proof_runs.specs.Acts.{Acted, acts_of}

pub record Marks : Type 0 where
  pub asked : Bool  -- the local request was made
  pub heard : Bool  -- the peer's request was received, without an ERR and with room for it
  pub opened : Bool  -- both requests met before the local CLS was made
  pub shut : Bool  -- since then a CLS was made or received, or a close accepted
  pub left : Bool  -- the local CLS was made
  pub cls : Bool  -- the peer's CLS was received, without an ERR
  pub link : ℕ  -- of the RTS
  pub size : ℕ  -- of the STR
  pub room : ℕ  -- in bits, of the local request
  pub busy : Bool  -- a text was sent, and has had no RFNM
  pub recall : Bool  -- a GVB was made, and no RET accepted since
  pub granted : Amount  -- by ALL that a sender accepted, or an accepted allocate at a receiver
  pub returned : Amount  -- by RET, received or made
  pub used : Amount  -- by texts that were admitted or sent
  pub interrupts : ℕ  -- INRs or INSs received
  pub entered : List Bool  -- given at a sender, got at a receiver
  pub drawn : List Bool  -- sent by a sender, taken at a receiver

abbrev pub no_marks : Marks
no_marks = record {
  asked = false;
  heard = false;
  opened = false;
  shut = false;
  left = false;
  cls = false;
  link = 0;
  size = 0;
  room = 0;
  busy = false;
  recall = false;
  granted = no_amount;
  returned = no_amount;
  used = no_amount;
  interrupts = 0;
  entered = [];
  drawn = [];
}

-- The requests: the pair opens once both are there, unless a CLS was made.

abbrev pub marks_met : Marks → Marks
marks_met m = record m { opened = m.opened || (m.asked && m.heard && not m.left) }

abbrev pub asked_size : Bool → ℕ → ℕ → Marks → Marks
asked_size it of_size with_room m = marks_met (record m { asked = m.asked || it; size = if it then of_size else m.size; room = if it then with_room else m.room })

abbrev pub asked_link : Bool → ℕ → ℕ → Marks → Marks
asked_link it on with_room m = marks_met (record m { asked = m.asked || it; link = if it then on else m.link; room = if it then with_room else m.room })

abbrev pub marks_heard_size : Bool → ℕ → Marks → Marks
marks_heard_size it of_size m = marks_met (record m { heard = m.heard || it; size = if it then of_size else m.size })

abbrev pub marks_heard_link : Bool → ℕ → Marks → Marks
marks_heard_link it on m = marks_met (record m { heard = m.heard || it; link = if it then on else m.link })

-- Closing: with the local CLS and the peer's, the connection has ended, and no mark remains.

abbrev pub ended : Marks → Marks
ended m = if m.left && m.cls then no_marks else m

abbrev pub closed : Bool → Marks → Marks
closed it m = record m { shut = m.shut || (it && m.opened) }

abbrev pub cls_made : Bool → Marks → Marks
cls_made it m = ended (record m { left = m.left || it; shut = m.shut || (it && m.opened) })

abbrev pub cls_came : Bool → Marks → Marks
cls_came it m = record m { cls = m.cls || it; shut = m.shut || (it && m.opened) }

-- The sums.

abbrev pub marks_granted : Bool → Amount → Marks → Marks
marks_granted it more m = record m { granted = m.granted ⊕ (if it then more else no_amount) }

abbrev pub marks_returned : Amount → Marks → Marks
marks_returned more m = record m { returned = m.returned ⊕ more }

abbrev pub marks_interrupted : Bool → Marks → Marks
marks_interrupted it m = record m { interrupts = if it then min (m.interrupts + 1) MAX_COUNT else m.interrupts }

abbrev pub came_in : Bool → List Bool → Marks → Marks
came_in it text m = record m {
  used = m.used ⊕ (if it then amount 1 (length text) else no_amount);
  entered = m.entered ++ (if it then text else []);
}

-- The facts in an outcome, and in the commands made.

abbrev pub marks_went_out : Outcome → Marks → Marks
marks_went_out (Outcome.Sent of_size text) m = record m {
  used = m.used ⊕ amount 1 (length text);
  drawn = m.drawn ++ text;
  busy = true;
}
marks_went_out outcome m = m

abbrev pub is_cls_command : Command → Bool
is_cls_command (Command.Cls my your) = true
is_cls_command c = false

abbrev pub makes_cls : List Command → Bool
makes_cls [] = false
makes_cls (c ∷ cs) = is_cls_command c

abbrev pub link_in_rts : Command → ℕ
link_in_rts (Command.Rts receive send on) = on
link_in_rts c = 0

abbrev pub link_asked : List Command → ℕ
link_asked [] = 0
link_asked (c ∷ cs) = link_in_rts c

abbrev pub returned_by : List Command → Amount
returned_by [] = no_amount
returned_by (c ∷ cs) = returned c

-- The marks after each event. An accepted close makes its CLS, or leaves it pending.
abbrev pub marks_by : EndpointEvent → Outcome → List Command → Marks → Marks
marks_by (EndpointEvent.Asks_to_send of_size with_room own full) o made m = asked_size (is_outcome_accepted o) of_size with_room m
marks_by (EndpointEvent.Asks_to_receive with_room on own full) o made m = asked_link (is_outcome_accepted o) (link_asked made) with_room m
marks_by (EndpointEvent.Closes full) o made m = cls_made (makes_cls made) (closed (is_outcome_accepted o) m)
marks_by (EndpointEvent.Gives text) o made m = record m { entered = m.entered ++ (if is_outcome_accepted o then text else []) }
marks_by (EndpointEvent.Takes bytes) o made m = cls_made (makes_cls made) (record m { drawn = m.drawn ++ taken_out o })
marks_by (EndpointEvent.Allocates of_messages of_bits full) o made m = marks_granted (is_outcome_accepted o) (amount of_messages of_bits) m
marks_by (EndpointEvent.Calls_back of_messages of_bits full) o made m = record m { recall = m.recall || is_outcome_accepted o }
marks_by (EndpointEvent.Interrupts full) o made m = m
marks_by (EndpointEvent.Rts_comes on taken by_peer) o made m = marks_heard_link (is_outcome_accepted o) on m
marks_by (EndpointEvent.Str_comes of_size by_peer) o made m = marks_heard_size (is_outcome_accepted o) of_size m
marks_by EndpointEvent.Cls_comes o made m = cls_made (makes_cls made) (cls_came (is_outcome_accepted o) m)
marks_by (EndpointEvent.All_comes on of_messages of_bits) o made m = marks_granted (is_outcome_accepted o) (amount of_messages of_bits) m
marks_by (EndpointEvent.Gvb_comes on of_messages of_bits) o made m = marks_returned (returned_by made) m
marks_by (EndpointEvent.Ret_comes on of_messages of_bits) o made m =
    marks_returned (if is_outcome_accepted o then amount of_messages of_bits else no_amount) (record m { recall = m.recall && not (is_outcome_accepted o) })
marks_by (EndpointEvent.Inr_comes on) o made m = marks_interrupted (is_outcome_accepted o) m
marks_by (EndpointEvent.Ins_comes on) o made m = marks_interrupted (is_outcome_accepted o) m
marks_by (EndpointEvent.Text_comes head of_size text) o made m = came_in (is_admitted o) text m
marks_by EndpointEvent.Text_goes_out o made m = marks_went_out o m
marks_by (EndpointEvent.Is_answered Rfnm) o made m = cls_made (makes_cls made) (record m { busy = false })
marks_by (EndpointEvent.Is_answered Incomplete) o made m = m
marks_by (EndpointEvent.Is_answered Dead) o made m = m
marks_by EndpointEvent.Is_cleared o made m = no_marks

-- the marks after a list of events, in order
abbrev pub marks_from : List Acted → Marks → Marks
marks_from [] m = m
marks_from (act ∷ more) m = marks_from more (marks_by act.what act.outcome act.made m)

-- the marks of a pair, by all notes of a peer
abbrev pub marks_of : Pair → List HostNote → Marks
marks_of pair all_notes = marks_from (acts_of pair all_notes) no_marks

-- The state that marks show: there is an endpoint while any mark is set; it is live from its opening on,
-- open until it is shut, left once its CLS was made, and leaving if it is live and neither of these.

abbrev pub is_marked_there : Marks → Bool
is_marked_there m = m.asked || m.heard || m.left || m.cls

abbrev pub is_marked_open : Marks → Bool
is_marked_open m = m.opened && not m.shut

abbrev pub is_leaving : Marks → Bool
is_leaving m = m.opened && not (is_marked_open m) && not m.left

-- the stored text was dropped: at a sender that is shut, and once the CLS was made
abbrev pub is_marked_dropped : Pair → Marks → Bool
is_marked_dropped pair m = m.left || (sends pair && m.shut)

-- The endpoint of a pair, and the record returned to a user, as its marks and sums determine them.

abbrev pub end_of_marks : Pair → Marks → Endpoint
end_of_marks pair m = record {
  asked = m.asked;
  heard = m.heard;
  opened = m.opened;
  leaving = is_leaving m;
  left = m.left;
  cls = m.cls;
  link = m.link;
  size = m.size;
  messages = m.granted.messages - m.returned.messages - m.used.messages;
  bits = m.granted.bits - m.returned.bits - m.used.bits;
  stored = if is_marked_dropped pair m then [] else drop (length m.drawn) m.entered;
  room = m.room;
  busy = m.busy;
  recall = m.recall;
  interrupts = m.interrupts;
}

abbrev pub end_marked : Pair → Marks → Option Endpoint
end_marked pair m = if is_marked_there m then Some (end_of_marks pair m) else None

abbrev pub record_marked : Pair → Marks → Option Record
record_marked pair m = record_if_any pair (end_marked pair m)
