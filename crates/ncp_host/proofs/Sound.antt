-- What is true of what a host has for a peer, whatever it lives through: two sending ends never hear one
-- link, a text that is out is in its slot, and while the host is not up no end is there.
use Rattle.std.proofs.Common.{◌≡◌, ℕ, ◌==◌, Bool, true, false, if◌then◌else◌, List, [], ◌∷◌, take, Option, None, Some, Result, Ok, Err, refl, sym, ap, ◌∙◌, subst, arith}
use Rattle.ncp_numbers.specs.Bytes.{bytes_of}
use Rattle.std.specs.FinMap.{get-empty}
use Rattle.ncp_leader.specs.declared.leader.Leader.{Leader}
use Rattle.ncp_leader.specs.declared.regular.TheConstants.{FRONT_BITS}
use Rattle.ncp_leader.specs.declared.fault.MessageFault.{MessageFault}
use Rattle.ncp_leader.specs.Message.{Message, message_in}
use Rattle.ncp_wire.specs.declared.command.Command.{Command}
use Rattle.ncp_wire.specs.declared.command.Command.TheVariants.{Rst, Rrp}
use Rattle.ncp_wire.specs.declared.fault.CommandFault.{CommandFault}
use Rattle.ncp_control.specs.Reading.{commands_in, fault_in}
use Rattle.ncp_slot.specs.declared.slot.Slot.TheVariants.{Empty, Ready, Travelling, Held}
use Rattle.ncp_wire.specs.declared.answer.Answer.{Answer}
use Rattle.ncp_wire.specs.declared.answer.Answer.TheVariants.{Rfnm, Incomplete, Dead}
use Rattle.ncp_slot.specs.Slot.{answered, is_empty, is_travelling, woken}
use Rattle.ncp_slot.specs.Slots.{LinkSlot, LinkSlots, slot_at, with_slot, all_woken, is_quiet, no_slots}
use Rattle.ncp_slot.proofs.Places.{slot_at-with_slot_same, slot_at-with_slot_other}
use Rattle.ncp_slot.proofs.Waking.{slot_at-all_woken}
use Rattle.ncp_model.specs.declared.pair.Pair.{Pair}
use Rattle.ncp_model.specs.Echo.{Echoes, purge_echo}
use Rattle.ncp_model.specs.Pairs.{pair_cmp}
use Rattle.ncp_model.specs.Demux.{passes}
use Rattle.ncp_model.proofs.Lookups.{nowhere}
use Rattle.ncp_model.specs.Ends.{Ends, hears_link, sender_on, pair_of, cut_in, map_after_at, no_ends, put}
use Rattle.ncp_model.specs.Phase.{Phase, up, hears_rrp, is_resetting}
use Rattle.ncp_model.specs.Phase as phases
use Rattle.ncp_model.specs.Sending.{is_full}
use Rattle.ncp_model.specs.EndpointEvents.{EndpointEvent}
use Rattle.ncp_model.specs.Peers.{Peer, PairCall, Ask_to_send, Ask_to_receive, Close, Give, Take, Allocate, Call_back, Interrupt, called, calls_up, echo_called, standing, cleared, makes, hears_other, takes_text, frees_up}
use Rattle.ncp_model.specs.Peers as peers
use Rattle.ncp_peer.specs.Counting.{one_more}
use Rattle.ncp_peer.specs.PeerState.{PeerState, new_state, state_calls_wake, control_link, frees_on, is_answered, answer_taken, answer_comes}
use Rattle.ncp_peer.specs.Hearing.{state_hears, state_hears_all, hears_last, state_hears_text, control_size, state_after_control, state_after_text, is_wrong_link, message_after, regular, answer_of, after_bits}
use Rattle.ncp_peer.specs.Output.{after_by, after_made, after_output}
use Rattle.ncp_peer.specs.Soundness.{Agree, SoundPeer, IsSound}
use Rattle.ncp_host.proofs.Steady.{is_still}
use Rattle.ncp_host.proofs.Agreeing.{IsTold, StaysFull, agree-empty, agree-full, agree-put, agree-hears, agree-text, agree-cut, agree-emptied, agree-freed}

sound-cleared : (q : Phase) (p : Peer) (slots : LinkSlots) → SoundPeer (cleared q p) slots
sound-cleared q p slots = record { ends = agree-empty slots; down = λ u. refl }

sound-standing : (q : Phase) (m : Ends) (s : Echoes) (slots : LinkSlots) → Agree m slots → SoundPeer (standing q m s) slots
sound-standing q m s slots a = go (up q) refl
  where
    go : (b : Bool) → up q ≡ b → SoundPeer (record { phase = q; ends = if b then m else no_ends; echoes = if b then s else purge_echo s }) slots
    go true u = record { ends = a; down = λ d. absurd (cc (u, d)) }
    go false u = record { ends = agree-empty slots; down = λ d. refl }

-- The calls of a user.

still-call : (call : PairCall) (full : Bool) (m : Ends) → is_still (called call full m) ≡ true
still-call (Ask_to_send of_size with_room) full m = refl
still-call (Ask_to_receive with_room) full m = refl
still-call Close full m = refl
still-call (Give text) full m = refl
still-call (Take bytes) full m = refl
still-call (Allocate x y) full m = refl
still-call (Call_back x y) full m = refl
still-call Interrupt full m = refl

told-call : (call : PairCall) (full : Bool) (m n : Ends) → IsTold n (called call full m)
told-call (Ask_to_send of_size with_room) full m n = tt
told-call (Ask_to_receive with_room) full m n = tt
told-call Close full m n = tt
told-call (Give text) full m n = tt
told-call (Take bytes) full m n = tt
told-call (Allocate x y) full m n = tt
told-call (Call_back x y) full m n = tt
told-call Interrupt full m n = tt

pub sound-calls : (pair : Pair) (call : PairCall) (p : Peer) (slots : LinkSlots) → SoundPeer p slots → SoundPeer (peers.calls pair call p) slots
sound-calls pair call p slots s = go (up p.phase)
  where
    what : EndpointEvent
    what = called call (is_full p.phase) p.ends

    put_there : Agree (put p.ends pair (peers.happened_at pair call p).after) slots
    put_there = agree-put p.ends slots pair what s.ends (still-call call (is_full p.phase) p.ends) (told-call call (is_full p.phase) p.ends p.ends)

    go : (b : Bool) → SoundPeer (if b then calls_up pair call p else p) slots
    go true = sound-standing _ _ p.echoes slots put_there
    go false = s

pub sound-echo : (byte : ℕ) (p : Peer) (slots : LinkSlots) → SoundPeer p slots → SoundPeer (peers.calls_echo byte p) slots
sound-echo byte p slots s = go (up p.phase)
  where
    go : (b : Bool) → SoundPeer (if b then echo_called byte p else p) slots
    go true = sound-standing _ p.ends _ slots s.ends
    go false = s

pub sound-reset : (quiet : Bool) (p : Peer) (slots : LinkSlots) → SoundPeer p slots → SoundPeer (peers.calls_reset quiet p) slots
sound-reset quiet p slots s = go (is_resetting p.phase)
  where
    go : (b : Bool) → SoundPeer (if b then p else cleared (phases.resets quiet p.phase) p) slots
    go true = s
    go false = sound-cleared (phases.resets quiet p.phase) p slots

-- Commands that come.

sound-other : (quiet : Bool) (c : Command) (p : Peer) (slots : LinkSlots) → SoundPeer p slots → SoundPeer (if up p.phase then hears_other quiet c p else p) slots
sound-other quiet c p slots s = go (up p.phase)
  where
    go : (b : Bool) → SoundPeer (if b then hears_other quiet c p else p) slots
    go true = sound-standing _ _ _ slots (agree-hears p.ends slots c s.ends)
    go false = s

down_before : (q : Phase) → up (hears_rrp q) ≡ false → up q ≡ false
down_before q u = grind arith

pub sound-hears : (quiet : Bool) (c : Command) (p : Peer) (slots : LinkSlots) → SoundPeer p slots → SoundPeer (peers.hears quiet c p) slots
sound-hears quiet Rst p slots s = sound-cleared (phases.hears_rst quiet p.phase) p slots
sound-hears quiet Rrp p slots s = record { ends = s.ends; down = λ u. s.down (down_before p.phase u) }
sound-hears quiet c p slots s = sound-other quiet c p slots s

sound-makes : (cs : List Command) (p : Peer) (slots : LinkSlots) → Agree p.ends slots → SoundPeer (makes cs p) slots
sound-makes cs p slots a = sound-standing _ p.ends p.echoes slots a

sound-fault : (fault : CommandFault) (p : Peer) (slots : LinkSlots) → SoundPeer p slots → SoundPeer (peers.hears_fault fault p) slots
sound-fault fault p slots s = go (up p.phase)
  where
    go : (b : Bool) → SoundPeer (if b then makes (Command.Err fault.code fault.bytes ∷ []) p else p) slots
    go true = sound-makes (Command.Err fault.code fault.bytes ∷ []) p slots s.ends
    go false = s

sound-text : (on : ℕ) (head : List Bool) (of_size : ℕ) (text : List Bool) (p : Peer) (slots : LinkSlots) → SoundPeer p slots → SoundPeer (peers.hears_text on head of_size text p) slots
sound-text on head of_size text p slots s = go (up p.phase)
  where
    go : (b : Bool) → SoundPeer (if b then takes_text on head of_size text p else p) slots
    go true = sound-standing _ _ p.echoes slots (agree-text p.ends slots on of_size text s.ends)
    go false = s

-- What a host has for a peer.

pub sound-new : IsSound new_state
sound-new = record { ends = agree-empty no_slots; down = λ u. refl }

sound-all : (cs : List Command) (s : PeerState) → IsSound s → IsSound (state_hears_all cs s)
sound-all [] s h = h
sound-all (c ∷ cs) s h = sound-all cs (state_hears c s) (sound-hears (is_quiet s.slots) c s.peer s.slots h)

sound-last : (fault : Option CommandFault) (s : PeerState) → IsSound s → IsSound (hears_last fault s)
sound-last None s h = h
sound-last (Some fault) s h = sound-fault fault s.peer s.slots h

sound-control : (m : Message) (s : PeerState) → IsSound s → IsSound (state_after_control m s)
sound-control m s h = go (m.size == control_size)
  where
    go : (b : Bool) → IsSound (if b then state_hears_text (commands_in (bytes_of m.text)) (fault_in (bytes_of m.text)) s else record s { counts = record s.counts { wrong_size = one_more s.counts.wrong_size } })
    go true = sound-last (fault_in (bytes_of m.text)) (state_hears_all (commands_in (bytes_of m.text)) s) (sound-all (commands_in (bytes_of m.text)) s h)
    go false = h

sound-message : (on : ℕ) (bits : List Bool) (m : Result Message MessageFault) (s : PeerState) → IsSound s → IsSound (message_after on bits m s)
sound-message on bits (Err fault) s h = h
sound-message on bits (Ok m) s h = go (is_wrong_link on) (on == control_link)
  where
    go : (b c : Bool) → IsSound (if b then record s { counts = record s.counts { wrong_link = one_more s.counts.wrong_link } } else if c then state_after_control m s else state_after_text on (take FRONT_BITS bits) m s)
    go true c = h
    go false true = sound-control m s h
    go false false = sound-text on (take FRONT_BITS bits) m.size m.text s.peer s.slots h

-- An answer to what went out.

elsewhere : (slots : LinkSlots) (on : ℕ) (slot : LinkSlot) (by : ℕ) → ((by ≡ on) → ⊥) → slot_at (with_slot slots on slot) by ≡ slot_at slots by
elsewhere slots on slot by d = slot_at-with_slot_other slots on slot by d

-- a slot is filled
filled : (slots : LinkSlots) (on : ℕ) (slot : LinkSlot) → is_empty slot ≡ false → StaysFull slots (with_slot slots on slot)
filled slots on slot f by k = go (by == on) refl
  where
    go : (b : Bool) → (by == on) ≡ b → is_empty (slot_at (with_slot slots on slot) by) ≡ false
    go true e = let s : by ≡ on = grind (arith, e) in subst (λ (y : ℕ). is_empty (slot_at (with_slot slots on slot) y) ≡ false) (sym s) (ap is_empty (slot_at-with_slot_same slots on slot) ∙ f)
    go false e = ap is_empty (elsewhere slots on slot by (λ s. absurd (grind (arith, e, s)))) ∙ k

settles_down : (quiet : Bool) (q : Phase) → up (phases.phase_settles quiet q) ≡ false → up q ≡ false
settles_down quiet q u = go quiet (up q) refl u
  where
    go : (b c : Bool) → up q ≡ c → up (phases.phase_settles b q) ≡ false → up q ≡ false
    go b false e d = e
    go false true e d = d
    go true true e d = absurd (grind arith)

sound-settles : (quiet : Bool) (p : Peer) (slots : LinkSlots) → SoundPeer p slots → SoundPeer (peers.settles quiet p) slots
sound-settles quiet p slots s = record { ends = s.ends; down = λ u. s.down (settles_down quiet p.phase u) }

sound-frees : (on : ℕ) (p : Peer) (slots now : LinkSlots) → ((by : ℕ) → ((by ≡ on) → ⊥) → slot_at now by ≡ slot_at slots by) → SoundPeer p slots → SoundPeer (frees_on on p) now
sound-frees on p slots now same s = go (on == control_link) refl (up p.phase) refl
  where
    go : (b : Bool) → (on == control_link) ≡ b → (c : Bool) → up p.phase ≡ c → SoundPeer (if b then p else if c then frees_up on p else p) now
    go true e c u = record { ends = agree-emptied p.ends slots now on s.ends same (λ q z b h. absurd (z (grind (arith, e)))); down = s.down }
    go false e true u = sound-standing _ _ p.echoes now (agree-freed p.ends slots now on s.ends same)
    go false e false u = record { ends = subst (λ (m : Ends). Agree m now) (sym (s.down u)) (agree-empty now); down = s.down }

sound-taken : (on : ℕ) (how : Answer) (s : PeerState) → is_answered on s ≡ true → IsSound s → IsSound (answer_taken on how s)
sound-taken on Rfnm s t h = sound-settles _ _ _ (sound-frees on s.peer s.slots (with_slot s.slots on (answered Rfnm (slot_at s.slots on))) (λ by d. elsewhere s.slots on _ by d) h)
sound-taken on Incomplete s t h = record { ends = agree-full s.peer.ends s.slots _ h.ends (filled s.slots on (answered Incomplete (slot_at s.slots on)) (full (slot_at s.slots on) t)); down = h.down }
  where
    full : (slot : LinkSlot) → is_travelling slot ≡ true → is_empty (answered Incomplete slot) ≡ false
    full Empty e = absurd (cc e)
    full (Ready m) e = absurd (cc e)
    full (Travelling m) e = refl
    full (Held m) e = absurd (cc e)
sound-taken on Dead s t h = record { ends = agree-full s.peer.ends s.slots _ h.ends (filled s.slots on (answered Dead (slot_at s.slots on)) (full (slot_at s.slots on) t)); down = h.down }
  where
    full : (slot : LinkSlot) → is_travelling slot ≡ true → is_empty (answered Dead slot) ≡ false
    full Empty e = absurd (cc e)
    full (Ready m) e = absurd (cc e)
    full (Travelling m) e = refl
    full (Held m) e = absurd (cc e)

sound-answer : (on : ℕ) (how : Answer) (s : PeerState) → IsSound s → IsSound (answer_comes on how s)
sound-answer on how s h = go (is_answered on s) refl
  where
    go : (b : Bool) → is_answered on s ≡ b → IsSound (if b then answer_taken on how s else record s { counts = record s.counts { stray = one_more s.counts.stray } })
    go true e = sound-taken on how s e h
    go false e = h

pub sound-bits : (leader : Leader) (bits : List Bool) (s : PeerState) → IsSound s → IsSound (after_bits leader bits s)
sound-bits leader bits s h = go (leader.kind == regular)
  where
    go : (b : Bool) → IsSound (if b then message_after leader.link bits (message_in bits) s else answer_comes leader.link (answer_of leader.kind) s)
    go true = sound-message leader.link bits (message_in bits) s h
    go false = sound-answer leader.link (answer_of leader.kind) s h

pub sound-wakes : (s : PeerState) → IsSound s → IsSound (state_calls_wake s)
sound-wakes s h = record { ends = agree-full s.peer.ends s.slots (all_woken s.slots) h.ends (λ on k. ap is_empty (slot_at-all_woken s.slots on) ∙ still (slot_at s.slots on) k); down = h.down }
  where
    still : (slot : LinkSlot) → is_empty slot ≡ false → is_empty (woken slot) ≡ false
    still Empty e = e
    still (Ready m) e = refl
    still (Travelling m) e = refl
    still (Held m) e = refl

-- A message goes out on a link.

sent_down : (p : Peer) → up (peers.peer_sends p).phase ≡ false → up p.phase ≡ false
sent_down p u = u

nobody : (on : ℕ) → pair_of (sender_on on no_ends) ≡ None
nobody on = ap pair_of (nowhere (hears_link on) no_ends (λ p. ap (passes (hears_link on) p) (get-empty pair_cmp p)))

sound-made : (on : ℕ) (p : Peer) (slots now : LinkSlots) → StaysFull slots now → is_empty (slot_at now on) ≡ false → SoundPeer p slots → SoundPeer (after_made on p) now
sound-made on p slots now full there s = go (on == control_link) refl
  where
    go : (b : Bool) → (on == control_link) ≡ b → SoundPeer (if b then peers.peer_sends p else peers.cuts on p) now
    go true e = record { ends = agree-full p.ends slots now s.ends full; down = s.down }
    go false e = by_phase (up p.phase) refl
      where
        by_phase : (c : Bool) → up p.phase ≡ c → SoundPeer (peers.cuts on p) now
        by_phase true u = record { ends = agree-cut p.ends slots now on s.ends (λ z. absurd (grind (arith, e, z))) full there; down = λ d. absurd (cc (u, d)) }
        by_phase false u = record { ends = agree-cut p.ends slots now on s.ends (λ z. absurd (grind (arith, e, z))) full there; down = λ d. ap (λ (m : Ends). map_after_at m (pair_of (sender_on on m)) (cut_in on m)) (s.down u) ∙ ap (λ (x : Option Pair). map_after_at no_ends x (cut_in on no_ends)) (nobody on) }

pub sound-output : (on : ℕ) (message : List Bool) (s : PeerState) → IsSound s → IsSound (after_output on message s)
sound-output on message s h = go (slot_at s.slots on)
  where
    full : StaysFull s.slots (with_slot s.slots on (Travelling message))
    full = filled s.slots on (Travelling message) refl

    there : is_empty (slot_at (with_slot s.slots on (Travelling message)) on) ≡ false
    there = ap is_empty (slot_at-with_slot_same s.slots on (Travelling message))

    kept : SoundPeer s.peer (with_slot s.slots on (Travelling message))
    kept = record { ends = agree-full s.peer.ends s.slots _ h.ends full; down = h.down }

    go : (slot : LinkSlot) → SoundPeer (after_by slot on s.peer) (with_slot s.slots on (Travelling message))
    go Empty = sound-made on s.peer s.slots _ full there h
    go (Ready m) = kept
    go (Travelling m) = kept
    go (Held m) = kept
