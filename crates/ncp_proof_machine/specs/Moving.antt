-- How the links of a host of two change. The host's half of a link is a slot: a message is put in, sent,
-- answered, or woken, and nothing else happens to it. The subnet's half accepts the message sent, loses
-- it or finds its destination dead, delivers it, and is free again after it answers.
use Rattle.std.specs.Prelude.{◌≡◌, ℕ, ◌+◌, ◌==◌, if◌then◌else◌, List, [], ◌∷◌, Bool, take, Option, None, Some}
use Rattle.ncp_wire.specs.declared.command.Command.{Command}
use Rattle.ncp_slot.specs.declared.slot.Slot.{Slot}
use Rattle.ncp_slot.specs.declared.slot.Slot.TheVariants.{Travelling}
use Rattle.ncp_wire.specs.declared.answer.Answer.{Answer}
use Rattle.ncp_slot.specs.Slot.{answered, handed_out, put_in, ready_message, woken}
use Rattle.ncp_model.specs.Effect.{answer}
use Rattle.ncp_model.specs.Ends.{Ends, cut_in}
use Rattle.ncp_proof_machine.specs.Delivery.{MessageTransit, Free, Accepted, Delivered, Lost, Dead, Link, answer_of_transit, undelivered}
use Rattle.ncp_proof_machine.specs.Hosts.{TextOut, TwoNodes, NodeStep, Sends, Sends_text, Hears, Hears_text, Loses, Loses_text, Dies, Text_dies, Is_answered, Text_is_answered, Wakes, node_steps}

-- The next message is put in, and a ready one is sent.

abbrev pub put_if_any : {M : Type 0} → Option M → Slot M → Slot M
put_if_any None slot = slot
put_if_any (Some m) slot = put_in m slot

abbrev pub accepts : {M : Type 0} → Option M → MessageTransit M → MessageTransit M
accepts None subnet = subnet
accepts (Some m) subnet = Accepted m

abbrev pub link_sent : {M : Type 0} → Option M → Slot M → MessageTransit M → Link M
link_sent m slot subnet = record {
  slot = handed_out (put_if_any m slot);
  subnet = accepts (ready_message (put_if_any m slot)) subnet;
}

-- An answer arrives, if the subnet has one.

abbrev pub hears_answer : {M : Type 0} → Option Answer → Slot M → Slot M
hears_answer None slot = slot
hears_answer (Some a) slot = answered a slot

abbrev pub has_done : {M : Type 0} → Slot M → Option Answer → MessageTransit M → MessageTransit M
has_done (Travelling m) (Some a) subnet = Free
has_done slot a subnet = subnet

abbrev pub answered_by : {M : Type 0} → Slot M → MessageTransit M → Link M
answered_by slot subnet = record { slot = hears_answer (answer_of_transit subnet) slot; subnet = has_done slot (answer_of_transit subnet) subnet }

abbrev pub transit_delivered : {M : Type 0} → MessageTransit M → MessageTransit M
transit_delivered (Accepted m) = Delivered
transit_delivered subnet = subnet

-- A host's own links after a step, given its queued commands and its ends.

-- the first n + 1 queued commands, if there is any
abbrev pub first_waiting : ℕ → List Command → Option (List Command)
first_waiting n [] = None
first_waiting n (c ∷ cs) = Some (take (n + 1) (c ∷ cs))

abbrev pub as_text : Option (ℕ × List Bool) → Option TextOut
as_text None = None
as_text (Some text) = Some (record { of_size = text.0; bits = text.1 })

abbrev pub control_link_after : NodeStep → List Command → Link (List Command) → Link (List Command)
control_link_after (Sends n) waiting k = link_sent (first_waiting n waiting) k.slot k.subnet
control_link_after Loses waiting k = record k { subnet = undelivered Lost k.subnet }
control_link_after Dies waiting k = record k { subnet = undelivered Dead k.subnet }
control_link_after Is_answered waiting k = answered_by k.slot k.subnet
control_link_after Wakes waiting k = record k { slot = woken k.slot }
control_link_after step waiting k = k

abbrev pub text_link_after : NodeStep → ℕ → Ends → Link TextOut → Link TextOut
text_link_after (Sends_text link) on m k = if on == link then link_sent (as_text (answer (cut_in link m))) k.slot k.subnet else k
text_link_after (Loses_text link) on m k = if on == link then record k { subnet = undelivered Lost k.subnet } else k
text_link_after (Text_dies link) on m k = if on == link then record k { subnet = undelivered Dead k.subnet } else k
text_link_after (Text_is_answered link) on m k = if on == link then answered_by k.slot k.subnet else k
text_link_after Wakes on m k = record k { slot = woken k.slot }
text_link_after step on m k = k

-- The other host's links: messages this host hears were delivered.

abbrev pub control_heard : NodeStep → Link (List Command) → Link (List Command)
control_heard Hears k = record k { subnet = transit_delivered k.subnet }
control_heard step k = k

abbrev pub text_heard : NodeStep → ℕ → Link TextOut → Link TextOut
text_heard (Hears_text link head) on k = if on == link then record k { subnet = transit_delivered k.subnet } else k
text_heard step on k = k

abbrev pub ControlMoves : Type 0
ControlMoves = (step : NodeStep) (w : TwoNodes) → (node_steps step w).this.control ≡ control_link_after step w.this.host.phase.waiting w.this.control

abbrev pub TextsMove : Type 0
TextsMove = (step : NodeStep) (w : TwoNodes) (on : ℕ) → (node_steps step w).this.texts on ≡ text_link_after step on w.this.ends (w.this.texts on)

abbrev pub ControlIsHeard : Type 0
ControlIsHeard = (step : NodeStep) (w : TwoNodes) → (node_steps step w).that.control ≡ control_heard step w.that.control

abbrev pub TextsAreHeard : Type 0
TextsAreHeard = (step : NodeStep) (w : TwoNodes) (on : ℕ) → (node_steps step w).that.texts on ≡ text_heard step on (w.that.texts on)
