-- One message on one link: the slot at the sending host, and the state in the subnet (BBN 1822, section
-- 3: a host has one unanswered message on a link). This file defines the subnet's half.
use Rattle.std.specs.Prelude.{Option, None, Some}
use Rattle.ncp_wire.specs.declared.answer.Answer.{Answer}
pub use Rattle.ncp_slot.specs.declared.slot.Slot.{Slot}
pub use Rattle.ncp_slot.specs.declared.slot.Slot.TheVariants.{Empty, Ready, Travelling, Held}
use Rattle.ncp_slot.specs.Slot.{answered, handed_out}
pub use Rattle.ncp_slot.specs.Slot.{woken}

-- the state of a message in the subnet
pub data MessageTransit (M : Type 0) : Type 0 where
  Free : MessageTransit M
  Accepted : (m : M) → MessageTransit M
  Delivered : MessageTransit M
  Lost : MessageTransit M
  Dead : MessageTransit M

pub record Link (M : Type 0) : Type 0 where
  pub slot : Slot M
  pub subnet : MessageTransit M

-- a link without a message
abbrev pub idle : {M : Type 0} → Link M
idle = record { slot = Empty; subnet = Free }

-- a ready message is sent, and the subnet accepts it
abbrev pub out : {M : Type 0} → M → Link M
out m = record { slot = handed_out (Ready m); subnet = Accepted m }

-- an undelivered message is lost, or finds its destination dead
abbrev pub undelivered : {M : Type 0} → MessageTransit M → MessageTransit M → MessageTransit M
undelivered as_what (Accepted m) = as_what
undelivered as_what subnet = subnet

-- the subnet's answer: none while it has the message
abbrev pub answer_of_transit : {M : Type 0} → MessageTransit M → Option Answer
answer_of_transit Delivered = Some Answer.Rfnm
answer_of_transit Lost = Some Answer.Incomplete
answer_of_transit Dead = Some Answer.Dead
answer_of_transit subnet = None

-- an answer arrives at the sending host, and the subnet is free again
abbrev pub answer_arrives : {M : Type 0} → Slot M → Option Answer → MessageTransit M → Link M
answer_arrives (Travelling m) (Some answer) subnet = record { slot = answered answer (Travelling m); subnet = Free }
answer_arrives slot answer subnet = record { slot = slot; subnet = subnet }

abbrev pub link_answered : {M : Type 0} → Slot M → MessageTransit M → Link M
link_answered slot subnet = answer_arrives slot (answer_of_transit subnet) subnet

-- the undelivered message of a link, at the host or in the subnet
abbrev pub message_not_come : {M : Type 0} → Slot M → MessageTransit M → Option M
message_not_come Empty subnet = None
message_not_come (Ready m) subnet = Some m
message_not_come (Held m) subnet = Some m
message_not_come (Travelling m) Free = None
message_not_come (Travelling m) (Accepted c) = Some c
message_not_come (Travelling m) Delivered = None
message_not_come (Travelling m) Lost = Some m
message_not_come (Travelling m) Dead = Some m
