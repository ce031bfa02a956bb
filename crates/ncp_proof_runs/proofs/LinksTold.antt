-- What is kept for a link is what its notes say.
use Rattle.std.proofs.Common.{◌≡◌, ◌≢◌, ℕ, ◌==◌, Bool, true, false, if◌then◌else◌, List, [], ◌∷◌, Option, None, Some, Result, Ok, Err, inl, inr, refl, sym, ap, ◌∙◌, subst}
use Rattle.std.proofs.lemmas.Bool.Decides.{eqb_tells}
use Rattle.ncp_leader.specs.declared.leader.Leader.{Leader}
use Rattle.ncp_leader.specs.declared.leader.Short.{Short}
use Rattle.ncp_leader.specs.Leader.{leader_in}
use Rattle.ncp_leader.specs.Message.{message_in}
use Rattle.ncp_slot.specs.declared.slot.Slot.TheVariants.{Travelling}
use Rattle.ncp_wire.specs.declared.answer.Answer.{Answer}
use Rattle.ncp_wire.specs.declared.answer.Answer.TheVariants.{Rfnm, Incomplete, Dead}
use Rattle.ncp_slot.specs.Slot.{answered, woken, is_travelling}
use Rattle.ncp_slot.specs.Slots.{LinkSlot, LinkSlots, slot_at, with_slot, all_woken}
use Rattle.ncp_slot.proofs.Places.{slot_at-with_slot_same, slot_at-with_slot_other, slot_at-no_slots}
use Rattle.ncp_slot.proofs.Waking.{slot_at-all_woken}
use Rattle.ncp_model.specs.Peers.{Peer}
use Rattle.ncp_peer.specs.Counting.{one_more}
use Rattle.ncp_peer.specs.declared.received.Received.{Received}
use Rattle.ncp_peer.specs.PeerState.{PeerState, new_state, is_answered, answer_taken, answer_comes}
use Rattle.ncp_peer.specs.Hearing.{answer_received}
use Rattle.ncp_peer.specs.Output.{made_on, output_by, output_on}
use Rattle.ncp_transcript.specs.Asked.{asked_in}
use Rattle.ncp_transcript.specs.declared.call.Call.{Call}
use Rattle.ncp_transcript.specs.declared.note.HostNote.{HostNote}
use Rattle.ncp_proof_runs.specs.Peers.{is_this_number, state_asked, bits_for, out_for, note_for, notes_for}
use Rattle.ncp_proof_runs.specs.Links.{LinkSoFar, nothing_noted, takes_fresh, goes_fresh, link_went_out, was_answered, was_woken, link_of_leader, noted_by, link_noted_from, slot_of_answer, slot_so_far, received_noted, ready_after, ready_as_noted}
use Rattle.ncp_proof_runs.proofs.Said.{IsOut, IsSaidOf, IsRunOf}
use Rattle.ncp_proof_runs.proofs.PeerRuns.{message-slots}

-- What is ready on a link is what the notes say is ready.

ready-after : (a : Option Answer) (w : Bool) (f : List Bool) (n on : ℕ) (p : Peer) → output_by (slot_of_answer a w f) n on p ≡ ready_after a w f (made_on n on p)
ready-after None w f n on p = refl
ready-after (Some Rfnm) w f n on p = refl
ready-after (Some Incomplete) w f n on p = refl
ready-after (Some Dead) true f n on p = refl
ready-after (Some Dead) false f n on p = refl

ready-by : (u : Bool) (a : Option Answer) (w : Bool) (f : List Bool) (n on : ℕ) (p : Peer) → output_by (if u then Travelling f else slot_of_answer a w f) n on p ≡ (if u then None else ready_after a w f (made_on n on p))
ready-by true a w f n on p = refl
ready-by false a w f n on p = ready-after a w f n on p

pub ready-is : (n on : ℕ) (t : LinkSoFar) (s : PeerState) → slot_at s.slots on ≡ slot_so_far t → output_on n on s ≡ ready_as_noted n on t s.peer
ready-is n on t s e = ap (λ (slot : LinkSlot). output_by slot n on s.peer) e ∙ ready-by t.unanswered t.answer t.woken t.fresh n on s.peer

-- What is known of a message that goes out.

free-by : (u : Bool) (r : Option (List Bool)) (m : List Bool) → (if u then None else r) ≡ Some m → u ≡ false
free-by true r m e = absurd (cc)
free-by false r m e = refl

pub out-free : (n on : ℕ) (t : LinkSoFar) (p : Peer) (m : List Bool) → ready_as_noted n on t p ≡ Some m → t.unanswered ≡ false
out-free n on t p m e = free-by t.unanswered (ready_after t.answer t.woken t.fresh (made_on n on p)) m e

again-by : (a : Option Answer) (w : Bool) (f m : List Bool) (made : Option (List Bool)) → ready_after a w f made ≡ Some m → takes_fresh a ≡ false → m ≡ f
again-by None w f m made e stale = absurd (cc)
again-by (Some Rfnm) w f m made e stale = absurd (cc)
again-by (Some Incomplete) w f m made e stale = cc
again-by (Some Dead) true f m made e stale = cc
again-by (Some Dead) false f m made e stale = absurd (cc)

unless-out : (u : Bool) (r : Option (List Bool)) (m : List Bool) → (if u then None else r) ≡ Some m → r ≡ Some m
unless-out true r m e = absurd (cc)
unless-out false r m e = e

pub out-again : (n on : ℕ) (t : LinkSoFar) (p : Peer) (m : List Bool) → ready_as_noted n on t p ≡ Some m → goes_fresh t ≡ false → m ≡ t.fresh
out-again n on t p m e stale = again-by t.answer t.woken t.fresh m (made_on n on p) (unless-out t.unanswered (ready_after t.answer t.woken t.fresh (made_on n on p)) m e) stale

dead-by : (a : Option Answer) (w : Bool) (f m : List Bool) (made : Option (List Bool)) → ready_after a w f made ≡ Some m → a ≡ Some Dead → w ≡ true
dead-by None w f m made e d = absurd (cc)
dead-by (Some Rfnm) w f m made e d = absurd (cc)
dead-by (Some Incomplete) w f m made e d = absurd (cc)
dead-by (Some Dead) true f m made e d = refl
dead-by (Some Dead) false f m made e d = absurd (cc)

pub out-woken : (n on : ℕ) (t : LinkSoFar) (p : Peer) (m : List Bool) → ready_as_noted n on t p ≡ Some m → t.answer ≡ Some Dead → t.woken ≡ true
out-woken n on t p m e d = dead-by t.answer t.woken t.fresh m (made_on n on p) (unless-out t.unanswered (ready_after t.answer t.woken t.fresh (made_on n on p)) m e) d

-- An answer.

travels-by : (a : Option Answer) (w : Bool) (f : List Bool) → is_travelling (slot_of_answer a w f) ≡ false
travels-by None w f = refl
travels-by (Some Rfnm) w f = refl
travels-by (Some Incomplete) w f = refl
travels-by (Some Dead) true f = refl
travels-by (Some Dead) false f = refl

travels : (u : Bool) (a : Option Answer) (w : Bool) (f : List Bool) → is_travelling (if u then Travelling f else slot_of_answer a w f) ≡ u
travels true a w f = refl
travels false a w f = travels-by a w f

pub answered-told : (on : ℕ) (s : PeerState) (t : LinkSoFar) → slot_at s.slots on ≡ slot_so_far t → is_answered on s ≡ t.unanswered
answered-told on s t e = ap is_travelling e ∙ travels t.unanswered t.answer t.woken t.fresh

pub received-told : (on : ℕ) (s : PeerState) (t : LinkSoFar) → slot_at s.slots on ≡ slot_so_far t → answer_received on s ≡ received_noted t
received-told on s t e = ap (λ (b : Bool). if b then Received.Answered else Received.Stray) (answered-told on s t e)

answer-by : (how : Answer) (u : Bool) (a : Option Answer) (w : Bool) (f : List Bool) → u ≡ true
    → answered how (if u then Travelling f else slot_of_answer a w f) ≡ slot_of_answer (if u then Some how else a) (if u then false else w) f
answer-by Rfnm true a w f e = refl
answer-by Incomplete true a w f e = refl
answer-by Dead true a w f e = refl
answer-by how false a w f e = absurd (cc)

stray-by : (how : Answer) (u : Bool) (a : Option Answer) (w : Bool) (f : List Bool) → u ≡ false
    → (if u then Travelling f else slot_of_answer a w f) ≡ slot_of_answer (if u then Some how else a) (if u then false else w) f
stray-by how true a w f e = absurd (cc)
stray-by how false a w f e = refl

-- Each note.

abbrev pub Tells : ℕ → PeerState → LinkSoFar → Type 0
Tells on s t = slot_at s.slots on ≡ slot_so_far t

answer-tells : (on link : ℕ) (how : Answer) (s : PeerState) (t : LinkSoFar) → Tells on s t → Tells on (answer_comes link how s) (if link == on then was_answered how t else t)
answer-tells on link how s t e = elim (eqb_tells link on) [
  | inl same ↦ subst (λ (b : Bool). Tells on (answer_comes link how s) (if b then was_answered how t else t)) (sym same.0) (here (t.unanswered) refl same.1)
  | inr apart ↦ subst (λ (b : Bool). Tells on (answer_comes link how s) (if b then was_answered how t else t)) (sym apart.0) (there (is_answered link s) (λ e. apart.1 (sym e)))
]
  where
    here : (u : Bool) → t.unanswered ≡ u → link ≡ on → Tells on (answer_comes link how s) (was_answered how t)
    here true g same =
        let yes : is_answered link s ≡ true = ap (λ (k : ℕ). is_answered k s) same ∙ answered-told on s t e ∙ g in
        ap (λ (b : Bool). slot_at (if b then answer_taken link how s else record s { counts = record s.counts { stray = one_more s.counts.stray } }).slots on) yes
        ∙ ap (λ (k : ℕ). slot_at (with_slot s.slots k (answered how (slot_at s.slots k))) on) same
        ∙ slot_at-with_slot_same s.slots on (answered how (slot_at s.slots on))
        ∙ ap (answered how) e
        ∙ answer-by how t.unanswered t.answer t.woken t.fresh g
    here false g same =
        let no : is_answered link s ≡ false = ap (λ (k : ℕ). is_answered k s) same ∙ answered-told on s t e ∙ g in
        ap (λ (b : Bool). slot_at (if b then answer_taken link how s else record s { counts = record s.counts { stray = one_more s.counts.stray } }).slots on) no
        ∙ e
        ∙ stray-by how t.unanswered t.answer t.woken t.fresh g

    there : (b : Bool) → on ≢ link → Tells on (if b then answer_taken link how s else record s { counts = record s.counts { stray = one_more s.counts.stray } }) t
    there true ne = slot_at-with_slot_other s.slots link (answered how (slot_at s.slots link)) on ne ∙ e
    there false ne = e

wake-by : (u : Bool) (a : Option Answer) (w : Bool) (f : List Bool) → woken (if u then Travelling f else slot_of_answer a w f) ≡ (if u then Travelling f else slot_of_answer a true f)
wake-by true a w f = refl
wake-by false None w f = refl
wake-by false (Some Rfnm) w f = refl
wake-by false (Some Incomplete) w f = refl
wake-by false (Some Dead) true f = refl
wake-by false (Some Dead) false f = refl

wake-tells : (on : ℕ) (s : PeerState) (t : LinkSoFar) → Tells on s t → slot_at (all_woken s.slots) on ≡ slot_so_far (was_woken t)
wake-tells on s t e = slot_at-all_woken s.slots on ∙ ap woken e ∙ wake-by t.unanswered t.answer t.woken t.fresh

fresh-by : (b : Bool) (m f : List Bool) → (b ≡ false → m ≡ f) → m ≡ (if b then m else f)
fresh-by true m f h = refl
fresh-by false m f h = h refl

out-tells : (n on : ℕ) (message : List Bool) (s : PeerState) (t : LinkSoFar) → IsOut n message s → Tells on s t
    → Tells on (out_for (leader_in message) message s) (if is_this_number on (link_of_leader (leader_in message)) then link_went_out message t else t)
out-tells n on message s t p e =
    subst (λ (r : Result Leader Short). Tells on (out_for r message s) (if is_this_number on (link_of_leader r) then link_went_out message t else t)) (sym p.leader)
    (elim (eqb_tells p.on on) [
      | inl same ↦ subst (λ (b : Bool). slot_at (with_slot s.slots p.on (Travelling message)) on ≡ slot_so_far (if b then link_went_out message t else t)) (sym same.0) (here same.1)
      | inr apart ↦ subst (λ (b : Bool). slot_at (with_slot s.slots p.on (Travelling message)) on ≡ slot_so_far (if b then link_went_out message t else t)) (sym apart.0)
          (slot_at-with_slot_other s.slots p.on (Travelling message) on (λ i. apart.1 (sym i)) ∙ e)
    ])
  where
    here : p.on ≡ on → slot_at (with_slot s.slots p.on (Travelling message)) on ≡ Travelling (if goes_fresh t then message else t.fresh)
    here same =
        let ready : ready_as_noted n on t s.peer ≡ Some message = sym (ready-is n on t s e) ∙ ap (λ (k : ℕ). output_on n k s) (sym same) ∙ p.ready in
        ap (λ (k : ℕ). slot_at (with_slot s.slots k (Travelling message)) on) same
        ∙ slot_at-with_slot_same s.slots on (Travelling message)
        ∙ ap (λ (m : List Bool). Travelling m) (fresh-by (goes_fresh t) message t.fresh (out-again n on t s.peer message ready))

bits-tells : (on : ℕ) (r : Result Leader Short) (bits : List Bool) (s : PeerState) (t : LinkSoFar) → Tells on s t → Tells on (bits_for r bits s) t
bits-tells on (Err short) bits s t e = e
bits-tells on (Ok leader) bits s t e = ap (λ (x : LinkSlots). slot_at x on) (message-slots leader.link bits (message_in bits) s) ∙ e

called-tells : (on : ℕ) (call : Call) (s : PeerState) (t : LinkSoFar) → Tells on s t → Tells on (state_asked (asked_in call) s) (noted_by on (HostNote.Done call) t)
called-tells on (Call.Wake peer) s t e = wake-tells on s t e
called-tells on call s t e = e

pub note-tells : (n on : ℕ) (note : HostNote) (s : PeerState) (t : LinkSoFar) → IsSaidOf n note s → Tells on s t → Tells on (note_for note s) (noted_by on note t)
note-tells n on (HostNote.Done call) s t p e = called-tells on call s t e
note-tells n on (HostNote.Out message) s t p e = out-tells n on message s t p e
note-tells n on (HostNote.In message received) s t p e = bits-tells on (leader_in message) message s t e
note-tells n on (HostNote.Answered peer link how received) s t p e = answer-tells on link how s t e
note-tells n on other s t p e = e

pub run-tells : (n on : ℕ) (all : List HostNote) (s : PeerState) (t : LinkSoFar) → IsRunOf n all s → Tells on s t → Tells on (notes_for all s) (link_noted_from on all t)
run-tells n on [] s t p e = e
run-tells n on (note ∷ rest) s t p e = run-tells n on rest (note_for note s) (noted_by on note t) p.1 (note-tells n on note s t p.0 e)

pub new-tells : (on : ℕ) → Tells on new_state nothing_noted
new-tells on = slot_at-no_slots on
