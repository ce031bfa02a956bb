use Rattle.std.proofs.Common.{◌≡◌, ◌==◌, ◌++◌, ℕ, true≢false, inl, inr, refl, sym, ap, ◌∙◌}
use Rattle.ncp_saved.specs.Values.{bits_saved}
use Rattle.ncp_slot.specs.Slots.{slot_at}
use Rattle.ncp_peer.proofs.SlotsRead.{which_slot, steps_make}
use Rattle.ncp_peer.proofs.reading.read_slot.Goals as goal

pub returns-in_err-kind-clause-reads : goal.returns-in_err-kind-clause-reads
returns-in_err-kind-clause-reads c = λ slot rest has empty small e. elim (which_slot slot c.args.reader.now rest small e) [
  | inl none ↦ absurd (let read = c.byte.ensures.reads 0 rest none.1 in let was = c.in_err-kind.was in cc)
  | inr is ↦ absurd (let read = c.byte.ensures.reads is.kind (bits_saved is.message ++ rest) is.are in let was = c.in_err-kind.was in cc)
]

pub returns-then-kind-eq0-clause-reads : goal.returns-then-kind-eq0-clause-reads
returns-then-kind-eq0-clause-reads c = λ slot rest has empty small e. elim (which_slot slot c.args.reader.now rest small e) [
  | inl none ↦ (refl, empty ∙ sym none.0, (c.byte.ensures.reads 0 rest none.1).1)
  | inr is ↦
      let read = c.byte.ensures.reads is.kind (bits_saved is.message ++ rest) is.are in
      let same : c.in_ok-kind.kind ≡ is.kind = (let was = c.in_ok-kind.was in let r = read.0 in cc) in
      absurd (true≢false (ap (λ (k : ℕ). k == 0) (sym c.if-kind-eq0.true ∙ same) ∙ is.some))
]

pub returns-in_err-message-clause-reads : goal.returns-in_err-message-clause-reads
returns-in_err-message-clause-reads c = λ slot rest has empty small e. elim (which_slot slot c.args.reader.now rest small e) [
  | inl none ↦
      let read = c.byte.ensures.reads 0 rest none.1 in
      let same : c.in_ok-kind.kind ≡ 0 = (let was = c.in_ok-kind.was in let r = read.0 in cc) in
      absurd (c.if-kind-eq0.false same)
  | inr is ↦
      let read = c.byte.ensures.reads is.kind (bits_saved is.message ++ rest) is.are in
      absurd (let message = c.message.ensures.reads is.message rest is.small read.1 in let was = c.in_err-message.was in cc)
]

pub returns-clause-reads : goal.returns-clause-reads
returns-clause-reads c = λ slot rest has empty small e. elim (which_slot slot c.args.reader.now rest small e) [
  | inl none ↦
      let read = c.byte.ensures.reads 0 rest none.1 in
      let same : c.in_ok-kind.kind ≡ 0 = (let was = c.in_ok-kind.was in let r = read.0 in cc) in
      absurd (c.if-kind-eq0.false same)
  | inr is ↦
      let read = c.byte.ensures.reads is.kind (bits_saved is.message ++ rest) is.are in
      let message = c.message.ensures.reads is.message rest is.small read.1 in
      let kind : c.in_ok-kind.kind ≡ is.kind = (let was = c.in_ok-kind.was in let r = read.0 in cc) in
      let bits : c.in_ok-message.message ≡ is.message = (let was = c.in_ok-message.was in let r = message.0 in cc) in (
        refl,
        steps_make slot (slot_at c.args.slots.now c.args.link) (slot_at c.put-put.new.self c.args.link) (slot_at c.send_if_sent.new.slots c.args.link) (slot_at c.hold_if_held.new.slots c.args.link)
            c.in_ok-kind.kind is.kind c.in_ok-message.message is.message empty c.put-put.ensures.slot c.send_if_sent.ensures.slot c.hold_if_held.ensures.slot kind bits is.made,
        message.1,
      )
]
