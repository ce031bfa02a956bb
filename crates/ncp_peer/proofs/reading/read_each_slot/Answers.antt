-- Link by link the slots get their messages.
use Rattle.std.proofs.Common.{ℕ, ◌+◌, ◌-◌, ◌<◌, ◌≤◌, ◌++◌, refl, arith}
use Rattle.std.specs.List.{range_with_len}
use Rattle.ncp_slot.specs.Slots.{HasSlot, slot_at, data_links}
use Rattle.ncp_peer.specs.SavedPeer.{slots_on}
use Rattle.ncp_peer.proofs.SlotsRead.{first_slot, first_read, next_slot, next_read, last_read}
use Rattle.ncp_peer.proofs.reading.read_each_slot.Goals as goal

has_zero : HasSlot 0
has_zero = (λ z. absurd (cc z), omega arith)

has_link : (link : ℕ) → 2 ≤ link → link < 72 → HasSlot link
has_link link low high = (λ z. absurd (omega (arith, low, z)), omega (arith, high))

pub returns-in_err-read_slot : goal.returns-in_err-read_slot
returns-in_err-read_slot c = record {
  reads = λ all rest fit empty e. absurd (let read = c.read_slot.ensures.reads (slot_at all 0) (slots_on data_links all ++ rest) has_zero (empty 0) (fit.small 0) (first_slot all rest c.args.reader.now e) in let was = c.in_err-read_slot.was in cc);
}

pub loop-link-init : goal.loop-link-init
loop-link-init c = λ all rest fit empty e.
    let read = c.read_slot.ensures.reads (slot_at all 0) (slots_on data_links all ++ rest) has_zero (empty 0) (fit.small 0) (first_slot all rest c.args.reader.now e) in
    first_read all c.args.slots.now c.read_slot.new.slots rest c.read_slot.new.reader read.2 empty read.1 c.read_slot.ensures.others

pub returns-in_err-read_slot-2 : goal.returns-in_err-read_slot-2
returns-in_err-read_slot-2 c = record {
  reads = λ all rest fit empty e.
      let at = c.loop-link.invariant all rest fit empty e in
      let below : c.loop-link.link < 72 = omega arith in
      absurd (
      let read = c.read_slot-in-loop-link.ensures.reads (slot_at all c.loop-link.link) (slots_on (range_with_len (c.loop-link.link + 1) (72 - (c.loop-link.link + 1))) all ++ rest) (has_link c.loop-link.link (omega arith) below) (at.behind c.loop-link.link (omega arith)) (fit.small c.loop-link.link) (next_slot all c.loop-link.slots rest c.loop-link.reader c.loop-link.link below at) in
      let was = c.in_err-read_slot-2.was in cc
      );
}

pub loop-link-preserved : goal.loop-link-preserved
loop-link-preserved c = λ all rest fit empty e.
    let at = c.loop-link.invariant all rest fit empty e in
    let below : c.loop-link.link < 72 = omega arith in
    let read = c.read_slot-in-loop-link.ensures.reads (slot_at all c.loop-link.link) (slots_on (range_with_len (c.loop-link.link + 1) (72 - (c.loop-link.link + 1))) all ++ rest) (has_link c.loop-link.link (omega arith) below) (at.behind c.loop-link.link (omega arith)) (fit.small c.loop-link.link) (next_slot all c.loop-link.slots rest c.loop-link.reader c.loop-link.link below at) in
    next_read all c.loop-link.slots c.read_slot-in-loop-link.new.slots rest c.loop-link.reader c.read_slot-in-loop-link.new.reader c.loop-link.link at read.1 c.read_slot-in-loop-link.ensures.others read.2

pub returns : goal.returns
returns c = record {
  reads = λ all rest fit empty e.
      let end = last_read all c.loop-link.slots rest c.loop-link.reader c.loop-link.link (omega arith) (c.loop-link.invariant all rest fit empty e) in
      (refl, end.1, end.0);
}
