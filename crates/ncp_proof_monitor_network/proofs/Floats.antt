-- The texts of a host that are out and have not come, by their links, read off its slots and the subnet: through each event.
use Rattle.std.proofs.Common.{◌≡◌, ◌⊎◌, inl, inr, ℕ, ◌==◌, Bool, true, false, not, if◌then◌else◌, List, [], ◌∷◌, length, Option, None, Some, is_some, Result, Ok, Err, eq-eqb, refl, sym, ap, ◌∙◌, subst}
use Rattle.std.proofs.lemmas.Bool.{eqb-true}
use Rattle.ncp_leader.specs.declared.fault.MessageFault.{MessageFault}
use Rattle.ncp_leader.specs.Message.{Message, message_in}
use Rattle.ncp_wire.specs.declared.answer.Answer.{Answer}
use Rattle.ncp_slot.specs.declared.slot.Slot.{Slot}
use Rattle.ncp_slot.specs.Slot.{is_empty, answered, woken}
use Rattle.ncp_slot.specs.Slots.{LinkSlot, LinkSlots, slot_at, with_slot, is_quiet}
use Rattle.ncp_slot.proofs.Places.{slot_at-with_slot_same, slot_at-with_slot_other}
use Rattle.ncp_peer.specs.PeerState.{PeerState}
use Rattle.ncp_host.specs.Host.{Host, numbers_of}
use Rattle.ncp_transcript.specs.declared.note.HostNote.{HostNote}
use Rattle.ncp_transcript.specs.After.{after_note}
use Rattle.ncp_transcript.specs.Runs.{IsHostSaid}
use Rattle.ncp_proof_runs.specs.Peers.{names, note_for}
use Rattle.ncp_proof_runs.proofs.HostRuns
use Rattle.ncp_proof_runs.proofs.HostRuns.{some_same}
use Rattle.ncp_transcript_two.specs.Subnet.{Holds, Free, Accepted, Delivered, TransitByLink, set_at}
use Rattle.ncp_transcript_two.specs.World.{World}
use Rattle.ncp_transcript_two.specs.Seen.{had_for}
use Rattle.ncp_transcript_two.proofs.OnePeer.{has-peer}
use Rattle.ncp_transcript_two.specs.Underway.{not_come}
use Rattle.ncp_interface.specs.declared.sent_message.SentMessage.{SentMessage}
use Rattle.ncp_interface.specs.Slots.{busy_link}
use Rattle.ncp_proof_monitor.proofs.HostSlots.{is_of_call, call_leaves, was, answer_here, answer_there}
use Rattle.ncp_proof_monitor.proofs.Phased.{Sees}
use Rattle.ncp_proof_monitor_messages.proofs.Moves.{goes_on}
use Rattle.ncp_proof_monitor_messages.proofs.Arrivals.{is_told}
use Rattle.ncp_proof_monitor_host.proofs.Carries.{ShowsBusy}
use Rattle.ncp_proof_monitor_network.proofs.ConsistentViews.{Afloat, with_float}
use Rattle.ncp_proof_monitor_network.proofs.Sessions.{Floated}

-- size and bits of a text, as it is read
abbrev pub float_read : Result Message MessageFault → Option (ℕ × ℕ)
float_read (Ok m) = Some (m.size, length m.text)
float_read (Err fault) = None

abbrev pub float_of : Option (List Bool) → Option (ℕ × ℕ)
float_of None = None
float_of (Some m) = float_read (message_in m)

-- the message sent on a link that has not arrived
abbrev pub out_on : PeerState → TransitByLink → ℕ → Option (List Bool)
out_on s u l = not_come (slot_at s.slots l) (u l)

-- on link 0 there are commands
abbrev pub floats : PeerState → TransitByLink → Afloat
floats s u l = if l == 0 then None else float_of (out_on s u l)

pub floats_same : (s now : PeerState) (u t : TransitByLink) → ((l : ℕ) → out_on now t l ≡ out_on s u l) → (l : ℕ) → floats now t l ≡ floats s u l
floats_same s now u t e l = ap (λ (o : Option (List Bool)). if l == 0 then None else float_of o) (e l)

-- ---- what of one link changes

differ : (l on : ℕ) → (l == on) ≡ false → (l ≡ on) → ⊥
differ l on e f = let nay : true ≡ false = sym (eq-eqb l on f) ∙ e in absurd (cc nay)

slot_else : (slots : LinkSlots) (on l : ℕ) (slot : LinkSlot) → (l == on) ≡ false → slot_at (with_slot slots on slot) l ≡ slot_at slots l
slot_else slots on l slot e = slot_at-with_slot_other slots on slot l (differ l on e)

holds_else : (u : TransitByLink) (on l : ℕ) (h : Holds) → (l == on) ≡ false → set_at on h u l ≡ u l
holds_else u on l h e = ap (λ (b : Bool). if b then h else u l) e

holds_here : (u : TransitByLink) (on : ℕ) (h : Holds) → set_at on h u on ≡ h
holds_here u on h = ap (λ (b : Bool). if b then h else u on) (eq-eqb on on refl)

-- by what it is there, and what it is elsewhere
by_link : (P : ℕ → Type 0) (on : ℕ) → P on → ((l : ℕ) → (l == on) ≡ false → P l) → (l : ℕ) → P l
by_link P on here others l = go (l == on) refl
  where
    go : (b : Bool) → (l == on) ≡ b → P l
    go true e = subst P (sym (eqb-true l on e)) here
    go false e = others l e

module _ (on : ℕ) (m : List Bool) (v : World) where
  -- a message is sent
  out_else : (l : ℕ) → (l == on) ≡ false → out_on (goes_on on m v).this (goes_on on m v).going l ≡ out_on v.this v.going l
  out_else l e =
      ap (λ (x : LinkSlot). not_come x (set_at on (Accepted m) v.going l)) (slot_else v.this.slots on l (Slot.Travelling m) e)
      ∙ ap (not_come (slot_at v.this.slots l)) (holds_else v.going on l (Accepted m) e)

  out_here : out_on (goes_on on m v).this (goes_on on m v).going on ≡ Some m
  out_here =
      ap (λ (x : LinkSlot). not_come x (set_at on (Accepted m) v.going on)) (slot_at-with_slot_same v.this.slots on (Slot.Travelling m))
      ∙ ap (not_come (Slot.Travelling m)) (holds_here v.going on (Accepted m))

  -- again
  pub floats_again : slot_at v.this.slots on ≡ Slot.Ready m → (l : ℕ) → floats (goes_on on m v).this (goes_on on m v).going l ≡ floats v.this v.going l
  floats_again e =
      floats_same v.this (goes_on on m v).this v.going (goes_on on m v).going
      (by_link (λ (l : ℕ). out_on (goes_on on m v).this (goes_on on m v).going l ≡ out_on v.this v.going l) on (out_here ∙ sym (ap (λ (x : LinkSlot). not_come x (v.going on)) e)) out_else)

  -- a text
  pub floats_text : (x : Message) → (on == 0) ≡ false → message_in m ≡ Ok x → (l : ℕ) → floats (goes_on on m v).this (goes_on on m v).going l ≡ with_float on (Some (x.size, length x.text)) (floats v.this v.going) l
  floats_text x z reads = by_link (λ (l : ℕ). floats (goes_on on m v).this (goes_on on m v).going l ≡ with_float on (Some (x.size, length x.text)) (floats v.this v.going) l) on here others
    where
      now : Option (ℕ × ℕ)
      now = Some (x.size, length x.text)

      here : floats (goes_on on m v).this (goes_on on m v).going on ≡ with_float on now (floats v.this v.going) on
      here =
          ap (λ (b : Bool). if b then None else float_of (out_on (goes_on on m v).this (goes_on on m v).going on)) z ∙ ap float_of out_here ∙ ap float_read reads
          ∙ sym (ap (λ (b : Bool). if b then now else floats v.this v.going on) (eq-eqb on on refl))

      others : (l : ℕ) → (l == on) ≡ false → floats (goes_on on m v).this (goes_on on m v).going l ≡ with_float on now (floats v.this v.going) l
      others l e = ap (λ (o : Option (List Bool)). if l == 0 then None else float_of o) (out_else l e) ∙ sym (ap (λ (b : Bool). if b then now else floats v.this v.going l) e)

-- commands
pub floats_zero : (m : List Bool) (v : World) (l : ℕ) → floats (goes_on 0 m v).this (goes_on 0 m v).going l ≡ floats v.this v.going l
floats_zero m v = by_link (λ (l : ℕ). floats (goes_on 0 m v).this (goes_on 0 m v).going l ≡ floats v.this v.going l) 0 refl (λ l e. ap (λ (o : Option (List Bool)). if l == 0 then None else float_of o) (out_else 0 m v l e))

-- ---- it is lost, or its destination is dead

pub floats_lost : (on : ℕ) (m : List Bool) (as_what : Holds) (v : World) → slot_at v.this.slots on ≡ Slot.Travelling m → v.going on ≡ Accepted m → not_come (Slot.Travelling m) as_what ≡ Some m → (l : ℕ) → floats v.this (set_at on as_what v.going) l ≡ floats v.this v.going l
floats_lost on m as_what v s e f =
    floats_same v.this v.this v.going (set_at on as_what v.going)
    (by_link (λ (l : ℕ). out_on v.this (set_at on as_what v.going) l ≡ out_on v.this v.going l) on
    (ap (λ (x : LinkSlot). not_come x (set_at on as_what v.going on)) s ∙ ap (not_come (Slot.Travelling m)) (holds_here v.going on as_what) ∙ f
    ∙ sym (ap (not_come (Slot.Travelling m)) e) ∙ sym (ap (λ (x : LinkSlot). not_come x (v.going on)) s))
    (λ l d. ap (not_come (slot_at v.this.slots l)) (holds_else v.going on l as_what d)))

-- ---- it is answered

pub floats_reported : (on : ℕ) (m : List Bool) (a : Answer) (h : Holds) (v : World) → slot_at v.this.slots on ≡ Slot.Travelling m → v.going on ≡ h → not_come (answered a (Slot.Travelling m)) Free ≡ not_come (Slot.Travelling m) h
    → (l : ℕ) → floats (is_told on a v).this (is_told on a v).going l ≡ floats v.this v.going l
floats_reported on m a h v s e f =
    floats_same v.this (is_told on a v).this v.going (is_told on a v).going
    (by_link (λ (l : ℕ). out_on (is_told on a v).this (is_told on a v).going l ≡ out_on v.this v.going l) on
    (ap (λ (x : LinkSlot). not_come x (set_at on Free v.going on)) (answer_here on a v.this ∙ ap (answered a) s) ∙ ap (not_come (answered a (Slot.Travelling m))) (holds_here v.going on Free) ∙ f
    ∙ sym (ap (not_come (Slot.Travelling m)) e) ∙ sym (ap (λ (x : LinkSlot). not_come x (v.going on)) s))
    (λ l d. ap (λ (x : LinkSlot). not_come x (set_at on Free v.going l)) (answer_there on l a v.this (differ l on d)) ∙ ap (not_come (slot_at v.this.slots l)) (holds_else v.going on l Free d)))

-- ---- it comes

-- commands
pub floats_heard : (v : World) (l : ℕ) → floats v.this (set_at 0 Delivered v.going) l ≡ floats v.this v.going l
floats_heard v =
    by_link (λ (l : ℕ). floats v.this (set_at 0 Delivered v.going) l ≡ floats v.this v.going l) 0 refl
    (λ l d. ap (λ (h : Holds). if l == 0 then None else float_of (not_come (slot_at v.this.slots l) h)) (holds_else v.going 0 l Delivered d))

-- a text
pub floats_came : (on : ℕ) (m : List Bool) (v : World) → slot_at v.this.slots on ≡ Slot.Travelling m → (l : ℕ) → floats v.this (set_at on Delivered v.going) l ≡ with_float on None (floats v.this v.going) l
floats_came on m v s = by_link (λ (l : ℕ). floats v.this (set_at on Delivered v.going) l ≡ with_float on None (floats v.this v.going) l) on here others
  where
    none : (b : Bool) (o : Option (ℕ × ℕ)) → o ≡ None → (if b then None else o) ≡ None
    none true o e = refl
    none false o e = e

    gone : out_on v.this (set_at on Delivered v.going) on ≡ None
    gone = ap (λ (x : LinkSlot). not_come x (set_at on Delivered v.going on)) s ∙ ap (not_come (Slot.Travelling m)) (holds_here v.going on Delivered)

    here : floats v.this (set_at on Delivered v.going) on ≡ with_float on None (floats v.this v.going) on
    here =
        ap (λ (o : Option (List Bool)). if on == 0 then None else float_of o) gone ∙ none (on == 0) None refl
        ∙ sym (ap (λ (b : Bool). if b then None else floats v.this v.going on) (eq-eqb on on refl))

    others : (l : ℕ) → (l == on) ≡ false → floats v.this (set_at on Delivered v.going) l ≡ with_float on None (floats v.this v.going) l
    others l d =
        ap (λ (h : Holds). if l == 0 then None else float_of (not_come (slot_at v.this.slots l) h)) (holds_else v.going on l Delivered d)
        ∙ sym (ap (λ (b : Bool). if b then None else floats v.this v.going l) d)

-- as it was sent
pub floats_out : (s : PeerState) (u : TransitByLink) (on : ℕ) (m : List Bool) (x : Message) → (on == 0) ≡ false → slot_at s.slots on ≡ Slot.Travelling m → u on ≡ Accepted m → message_in m ≡ Ok x → floats s u on ≡ Some (x.size, length x.text)
floats_out s u on m x z e h reads =
    ap (λ (b : Bool). if b then None else float_of (out_on s u on)) z ∙ ap (λ (y : LinkSlot). float_of (not_come y (u on))) e ∙ ap (λ (y : Holds). float_of (not_come (Slot.Travelling m) y)) h ∙ ap float_read reads

-- what comes leaves those of the other
pub floats_back : (now s : PeerState) (u : TransitByLink) → now.slots ≡ s.slots → (l : ℕ) → floats now u l ≡ floats s u l
floats_back now s u e l = ap (λ (x : LinkSlots). if l == 0 then None else float_of (not_come (slot_at x l) (u l))) e

-- ---- a call

not_come_woken : (slot : LinkSlot) (h : Holds) → not_come (woken slot) h ≡ not_come slot h
not_come_woken Slot.Empty h = refl
not_come_woken (Slot.Ready m) h = refl
not_come_woken (Slot.Travelling m) h = refl
not_come_woken (Slot.Held m) h = refl

pub floats_called : (s now : PeerState) (u : TransitByLink) → ((l : ℕ) → (slot_at now.slots l ≡ slot_at s.slots l) ⊎ (slot_at now.slots l ≡ woken (slot_at s.slots l))) → (l : ℕ) → floats now u l ≡ floats s u l
floats_called s now u leaves = floats_same s now u u (λ l. go l (leaves l))
  where
    go : (l : ℕ) → (slot_at now.slots l ≡ slot_at s.slots l) ⊎ (slot_at now.slots l ≡ woken (slot_at s.slots l)) → out_on now u l ≡ out_on s u l
    go l (inl e) = ap (λ (x : LinkSlot). not_come x (u l)) e
    go l (inr e) = ap (λ (x : LinkSlot). not_come x (u l)) e ∙ not_come_woken (slot_at s.slots l) (u l)

pub call_floats : (n : ℕ) (h : Host) (note : HostNote) (u : TransitByLink) → numbers_of h.peers ≡ n ∷ [] → numbers_of (after_note note h).peers ≡ n ∷ [] → IsHostSaid note h → is_of_call note ≡ true → HostRuns.Holds (n ∷ []) h
    → (l : ℕ) → floats (had_for n (after_note note h)) u l ≡ floats (had_for n h) u l
call_floats n h note u before now said c holds =
    let x = was (n ∷ []) note h n (had_for n (after_note note h)) holds said (has-peer n (after_note note h) now) in
    let same : x.0 ≡ had_for n h = some_same (sym x.1 ∙ has-peer n h before) in
    subst (λ (t : PeerState). (l : ℕ) → floats t u l ≡ floats (had_for n h) u l) (sym x.2)
    (subst (λ (t : PeerState). (l : ℕ) → floats (if names n note then note_for note x.0 else x.0) u l ≡ floats t u l) same (by x.0 (names n note)))
  where
    by : (t : PeerState) (b : Bool) (l : ℕ) → floats (if b then note_for note t else t) u l ≡ floats t u l
    by t true = floats_called t (note_for note t) u (call_leaves note c t)
    by t false = λ l. refl

-- ---- what is kept of the messages shows them

pub floated_same : (me n : ℕ) (busy : Option ℕ) (kept : List SentMessage) (t u : Afloat) → ((l : ℕ) → t l ≡ u l) → Floated me n busy kept t → Floated me n busy kept u
floated_same me n busy kept t u e f = record { none = λ b l. sym (e l) ∙ f.none b l; idle = λ l b. sym (e l) ∙ f.idle l b }

none_on_empty : (slot : LinkSlot) (h : Holds) → is_empty slot ≡ true → not_come slot h ≡ None
none_on_empty Slot.Empty h e = refl
none_on_empty (Slot.Ready m) h e = absurd (cc e)
none_on_empty (Slot.Travelling m) h e = absurd (cc e)
none_on_empty (Slot.Held m) h e = absurd (cc e)

-- no message is unacknowledged on it
pub none_floats : (s : PeerState) (u : TransitByLink) (l : ℕ) → ((l == 0) ≡ false → is_empty (slot_at s.slots l) ≡ true) → floats s u l ≡ None
none_floats s u l e = go (l == 0) refl
  where
    go : (b : Bool) → (l == 0) ≡ b → (if b then None else float_of (out_on s u l)) ≡ None
    go true z = refl
    go false z = ap float_of (none_on_empty (slot_at s.slots l) (u l) (e z))

pub floated : (me n : ℕ) (kept : List SentMessage) (s : PeerState) (u : TransitByLink) → ShowsBusy me n kept s.slots → Sees (is_quiet s.slots) (busy_link me n kept) → (is_quiet s.slots ≡ true → (l : ℕ) → ((l ≡ 0) → ⊥) → is_empty (slot_at s.slots l) ≡ true)
    → Floated me n (busy_link me n kept) kept (floats s u)
floated me n kept s u shows sees tells = record {
  none = λ e l. none_floats s u l (λ z. tells (quiet e) l (λ f. let nay : true ≡ false = sym (eq-eqb l 0 f) ∙ z in absurd (cc nay)));
  idle = λ l e. none_floats s u l (λ z. shows l z ∙ ap not e);
}
  where
    quiet : busy_link me n kept ≡ None → is_quiet s.slots ≡ true
    quiet e = go (is_quiet s.slots) refl
      where
        go : (b : Bool) → is_quiet s.slots ≡ b → b ≡ true
        go true q = refl
        go false q = let nay : false ≡ true = sym (ap is_some e) ∙ sees.some q in absurd (cc nay)
