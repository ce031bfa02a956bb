-- What an input does to the slots of a host: a call leaves them or wakes what is held, an answer is one to its link.
use Rattle.std.proofs.Common.{◌≡◌, ◌≢◌, ◌⊎◌, inl, inr, ℕ, Bool, true, false, if◌then◌else◌, List, Option, None, Some, Result, Ok, Err, refl, sym, ap, ◌∙◌, subst}
use Rattle.ncp_leader.specs.declared.leader.Leader.{Leader}
use Rattle.ncp_leader.specs.declared.leader.Short.{Short}
use Rattle.ncp_leader.specs.Message.{message_in}
use Rattle.ncp_wire.specs.declared.answer.Answer.{Answer}
use Rattle.ncp_wire.specs.declared.answer.Answer.TheVariants.{Rfnm, Incomplete, Dead}
use Rattle.ncp_slot.specs.declared.slot.Slot.{Slot}
use Rattle.ncp_slot.specs.Slot.{answered, is_empty, is_travelling, woken}
use Rattle.ncp_slot.specs.Slots.{LinkSlot, LinkSlots, slot_at}
use Rattle.ncp_slot.proofs.Places.{slot_at-with_slot_same, slot_at-with_slot_other}
use Rattle.ncp_slot.proofs.Waking.{slot_at-all_woken}
use Rattle.ncp_model.specs.Peers.{Take}
use Rattle.ncp_peer.specs.Counting.{one_more}
use Rattle.ncp_peer.specs.PeerState.{PeerState, is_answered, answer_taken, answer_comes}
use Rattle.ncp_host.specs.Host.{Host, state_of}
use Rattle.ncp_transcript.specs.Asked.{Asked, Asks, Asks_echo, Asks_reset, Asks_wake, asked_in}
use Rattle.ncp_transcript.specs.declared.call.Call.{Call}
use Rattle.ncp_transcript.specs.declared.note.HostNote.{HostNote}
use Rattle.ncp_transcript.specs.After.{after_note}
use Rattle.ncp_transcript.specs.Noting.{CallNoted}
use Rattle.ncp_transcript.specs.Runs.{IsHostSaid}
use Rattle.ncp_transcript.proofs.AskedCalls.{reads, CallOutcome, Was_done, Was_taken, Was_refused, Was_read, outcome-noted}
use Rattle.ncp_proof_runs.specs.Peers.{names, state_asked, bits_for, note_for}
use Rattle.ncp_proof_runs.proofs.States.{done}
use Rattle.ncp_proof_runs.proofs.PeerRuns.{message-slots}
use Rattle.ncp_proof_runs.proofs.HostRuns.{Holds, some_same, note-state}

-- ---- the note of a call

abbrev pub is_of_call : HostNote → Bool
is_of_call (HostNote.Out message) = false
is_of_call HostNote.Nothing = false
is_of_call (HostNote.In message received) = false
is_of_call (HostNote.Answered peer link how received) = false
is_of_call other = true

read_by_call : (note : HostNote) (call : Call) → reads note ≡ Some call → is_of_call note ≡ true
read_by_call (HostNote.Out message) call e = absurd (cc e)
read_by_call HostNote.Nothing call e = absurd (cc e)
read_by_call (HostNote.In message received) call e = absurd (cc e)
read_by_call (HostNote.Answered peer link how received) call e = absurd (cc e)
read_by_call other call e = refl

pub call_noted : (call : Call) (note : HostNote) (h : Host) → CallNoted call note h → is_of_call note ≡ true
call_noted call note h noted = go note (outcome-noted call note h noted)
  where
    go : (note : HostNote) → CallOutcome call h note → is_of_call note ≡ true
    go note (Was_done peer asked s at says by) = refl
    go note (Was_taken peer pair bytes text s at says is) = refl
    go note (Was_refused fault why) = refl
    go note (Was_read read by) = read_by_call read call by

-- what it asked
abbrev pub asked_of_note : HostNote → Option (ℕ × Asked)
asked_of_note (HostNote.Done call) = asked_in call
asked_of_note (HostNote.Took peer pair bytes text) = Some (peer, Asks pair (Take bytes))
asked_of_note other = None

pub note_asked : (note : HostNote) → is_of_call note ≡ true → (s : PeerState) → state_asked (asked_of_note note) s ≡ note_for note s
note_asked (HostNote.Out message) c s = absurd (cc c)
note_asked HostNote.Nothing c s = absurd (cc c)
note_asked (HostNote.In message received) c s = absurd (cc c)
note_asked (HostNote.Answered peer link how received) c s = absurd (cc c)
note_asked other c s = refl

-- ---- the slots after it

pub empty_woken : (slot : LinkSlot) → is_empty (woken slot) ≡ is_empty slot
empty_woken Slot.Empty = refl
empty_woken (Slot.Ready m) = refl
empty_woken (Slot.Travelling m) = refl
empty_woken (Slot.Held m) = refl

abbrev pub Leaves : ℕ → PeerState → PeerState → Type 0
Leaves on s now = (slot_at now.slots on ≡ slot_at s.slots on) ⊎ (slot_at now.slots on ≡ woken (slot_at s.slots on))

asked_leaves : (o : Option (ℕ × Asked)) (s : PeerState) (on : ℕ) → Leaves on s (state_asked o s)
asked_leaves None s on = inl refl
asked_leaves (Some (peer, Asks pair call)) s on = inl refl
asked_leaves (Some (peer, Asks_echo byte)) s on = inl refl
asked_leaves (Some (peer, Asks_reset)) s on = inl refl
asked_leaves (Some (peer, Asks_wake)) s on = inr (slot_at-all_woken s.slots on)

pub call_leaves : (note : HostNote) → is_of_call note ≡ true → (s : PeerState) (on : ℕ) → Leaves on s (note_for note s)
call_leaves note c s on = subst (λ (now : PeerState). Leaves on s now) (note_asked note c s) (asked_leaves (asked_of_note note) s on)

-- bits that are no answer leave them
pub bits_leave : (r : Result Leader Short) (bits : List Bool) (s : PeerState) (on : ℕ) → slot_at (bits_for r bits s).slots on ≡ slot_at s.slots on
bits_leave (Err short) bits s on = refl
bits_leave (Ok leader) bits s on = ap (λ (x : LinkSlots). slot_at x on) (message-slots leader.link bits (message_in bits) s)

-- an answer

abbrev counted : PeerState → PeerState
counted s = record s { counts = record s.counts { stray = one_more s.counts.stray } }

pub answer_here : (link : ℕ) (how : Answer) (s : PeerState) → slot_at (answer_comes link how s).slots link ≡ answered how (slot_at s.slots link)
answer_here link how s = go (slot_at s.slots link) refl how
  where
    taken : (b : Bool) → is_answered link s ≡ b → slot_at (answer_comes link how s).slots link ≡ slot_at (if b then answer_taken link how s else counted s).slots link
    taken b e = ap (λ (c : Bool). slot_at (if c then answer_taken link how s else counted s).slots link) e

    stays : (slot : LinkSlot) → slot_at s.slots link ≡ slot → is_travelling slot ≡ false → answered how slot ≡ slot → slot_at (answer_comes link how s).slots link ≡ answered how (slot_at s.slots link)
    stays slot q t a = taken false (ap is_travelling q ∙ t) ∙ q ∙ sym a ∙ ap (answered how) (sym q)

    go : (slot : LinkSlot) → slot_at s.slots link ≡ slot → (h : Answer) → slot_at (answer_comes link how s).slots link ≡ answered how (slot_at s.slots link)
    go (Slot.Travelling m) q h = taken true (ap is_travelling q) ∙ slot_at-with_slot_same s.slots link (answered how (slot_at s.slots link))
    go Slot.Empty q h = stays Slot.Empty q refl (empty how)
      where
        empty : (a : Answer) → answered {M = List Bool} a Slot.Empty ≡ Slot.Empty
        empty Rfnm = refl
        empty Incomplete = refl
        empty Dead = refl
    go (Slot.Ready m) q h = stays (Slot.Ready m) q refl (ready how)
      where
        ready : (a : Answer) → answered a (Slot.Ready m) ≡ Slot.Ready m
        ready Rfnm = refl
        ready Incomplete = refl
        ready Dead = refl
    go (Slot.Held m) q h = stays (Slot.Held m) q refl (held how)
      where
        held : (a : Answer) → answered a (Slot.Held m) ≡ Slot.Held m
        held Rfnm = refl
        held Incomplete = refl
        held Dead = refl

pub answer_there : (link on : ℕ) (how : Answer) (s : PeerState) → on ≢ link → slot_at (answer_comes link how s).slots on ≡ slot_at s.slots on
answer_there link on how s ne = go (is_answered link s)
  where
    go : (b : Bool) → slot_at (if b then answer_taken link how s else counted s).slots on ≡ slot_at s.slots on
    go true = slot_at-with_slot_other s.slots link (answered how (slot_at s.slots link)) on ne
    go false = refl

-- ---- the peer after a note was there before it

was_there : (b : Bool) (f : PeerState → PeerState) (o : Option PeerState) (now : PeerState) → done b f o ≡ Some now → (s : PeerState) × (o ≡ Some s) × (now ≡ (if b then f s else s))
was_there b f None now e = absurd (cc)
was_there b f (Some s) now e = (s, refl, sym (some_same e))

pub was : (ns : List ℕ) (note : HostNote) (h : Host) (m : ℕ) (now : PeerState) → Holds ns h → IsHostSaid note h → state_of (after_note note h) m ≡ Some now
    → (s : PeerState) × (state_of h m ≡ Some s) × (now ≡ (if names m note then note_for note s else s))
was ns note h m now k p e = was_there (names m note) (note_for note) (state_of h m) now (sym (note-state ns note h m k p) ∙ e)
