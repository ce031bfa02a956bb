-- What is reckoned of a connection is its ledger, and the ledger is balanced.
use Rattle.std.proofs.Common.{◌≡◌, ◌<◌, ◌≤◌, ℕ, ◌==◌, ◌^◌, Bool, true, false, ◌&&◌, if◌then◌else◌, List, ◌++◌, length, take, IfSome, Option, None, Some, Result, refl, sym, ap, ◌∙◌, subst, arith}
use Rattle.std.proofs.lemmas.Bool.{and_parts, eqb-true}
use Rattle.std.proofs.lemmas.List.{take_all}
use Rattle.std.specs.FinMap.{get, get-empty}
use Rattle.ncp_numbers.specs.Bytes.{bytes_of, bits_of_bytes}
use Rattle.ncp_leader.specs.declared.fault.MessageFault.{MessageFault}
use Rattle.ncp_leader.specs.Message.{Message, message_in}
use Rattle.ncp_wire.specs.declared.command.Command.{Command}
use Rattle.ncp_wire.specs.Spelling.{spellings}
use Rattle.ncp_control.specs.Reading.{commands_in}
use Rattle.ncp_slot.specs.Slot.{kept_message}
use Rattle.ncp_slot.specs.Slots.{LinkSlot, slot_at}
use Rattle.ncp_slot.proofs.Places.{slot_at-no_slots}
use Rattle.ncp_model.specs.declared.pair.Pair.{Pair}
use Rattle.ncp_model.specs.declared.limits.TheConstants.{MAX_WAITING}
use Rattle.ncp_model.specs.Pairs.{pair_cmp, is_send, sends, is_proper, counterpart}
use Rattle.ncp_model.specs.Endpoint.{Endpoint, is_open, or_new}
use Rattle.ncp_model.specs.Peers.{Peer}
use Rattle.ncp_proof_machine.specs.Delivery.{Link}
use Rattle.ncp_proof_headline.specs.Headline.{total_on}
use Rattle.ncp_proof_machine.specs.Hosts.{Node, NodeEvent}
use Rattle.ncp_proof_machine.specs.Hosts as hosts
use Rattle.ncp_proof_headline.proofs.HostsHeld.{ever}
use Rattle.ncp_conn.specs.declared.record.Record.{Record}
use Rattle.ncp_conn.specs.Records.{record_of, record_if_any, record_in}
use Rattle.ncp_peer.specs.PeerState.{PeerState}
use Rattle.ncp_host.specs.Host.{state_of, if_known}
use Rattle.ncp_peer.specs.PeerCalls.{record_answer, kept_for}
use Rattle.ncp_subnet.specs.Transit.{is_delivered}
use Rattle.ncp_transcript_two.specs.Subnet.{Holds, TransitByLink}
use Rattle.ncp_transcript_two.specs.World.{World, swap}
use Rattle.ncp_transcript_two.specs.Watch.{Both, turn}
use Rattle.ncp_transcript_two.specs.Tie.{MessageState, Nowhere, Waits, Goes, Came, Failed, Died, Kept, slot_of, holds_of, OfMessage, LinkRefines, control_bits, text_as_message, AreCommands, IsTextOn, Represents, IsReachable}
use Rattle.ncp_transcript_two.specs.Underway.{text_read, commands_of, not_come, commands_out, underway, amount_out, sender_at, receiver_at}
use Rattle.ncp_model.specs.Amounts.{amount, granted, returned}
use Rattle.ncp_transcript_two.specs.Ledgers.{ledger_in, are_open, ledger_from, ledger_of, IsBalanced}
use Rattle.ncp_world.specs.Reckoning.{control_commands, commands_kept, waiting_of, unless_came, kept_from, commands_from, if_open, ledger_with, ledger_if, ledger_read}
use Rattle.ncp_transcript_two.specs.declared.ledger.Ledger.{Ledger}
use Rattle.ncp_transcript_two.specs.declared.side.Side.{Side}
use Rattle.ncp_transcript_two.specs.declared.side.Side.TheVariants.{A, B}
use Rattle.ncp_transcript_two.specs.declared.note.Note.{Note}
use Rattle.ncp_transcript_two.specs.Between.{Hosts, other, side_number, host_of, transit_of}
use Rattle.ncp_transcript_two.specs.Transcript.{IsTranscript}
use Rattle.ncp_transcript_two.specs.Seen.{state_or_new, seen}
use Rattle.ncp_transcript_two.specs.OfRules.{histories_of}
use Rattle.ncp_transcript_two.proofs.Written.{read, control_text}
use Rattle.ncp_transcript_two.proofs.Reaching.{of-reached}
use Rattle.ncp_transcript_two.proofs.Runs.{OfModelWith}
use Rattle.ncp_transcript_two.proofs.Carried.{counterpart-over}
use Rattle.ncp_transcript_two.proofs.Underway.{amounts-carried}
use Rattle.ncp_transcript_two.proofs.Headlines.{watched-all}
use Rattle.ncp_transcript_two.proofs.Waiting.{few-wait}

-- What a host tells of a peer is what it has for it, or has when it is new.

kept-told : (o : Option PeerState) (on : ℕ) → kept_for o on ≡ kept_message (slot_at (state_or_new o).slots on)
kept-told None on = sym (ap kept_message (slot_at-no_slots on))
kept-told (Some s) on = refl

waiting-told : (o : Option PeerState) → waiting_of o ≡ (state_or_new o).peer.phase.waiting
waiting-told None = refl
waiting-told (Some s) = refl

-- an open end, as a record
abbrev if_end_open : Pair → Option Endpoint → Option Record
if_end_open pair None = None
if_end_open pair (Some e) = if is_open e then Some (record_of pair e) else None

end-told : (o : Option PeerState) (pair : Pair) → if_open (if_known o (λ s. record_answer (record_in pair s.peer.ends))) ≡ if_end_open pair (get (state_or_new o).peer.ends pair)
end-told None pair = sym (ap (if_end_open pair) (get-empty pair_cmp pair))
end-told (Some s) pair = go (get s.peer.ends pair) refl
  where
    go : (e : Option Endpoint) → get s.peer.ends pair ≡ e → if_open (record_answer (record_in pair s.peer.ends)) ≡ if_end_open pair (get s.peer.ends pair)
    go None e = ap (λ (x : Option Endpoint). if_open (record_answer (record_if_any pair x))) e ∙ sym (ap (if_end_open pair) e)
    go (Some x) e = ap (λ (x : Option Endpoint). if_open (record_answer (record_if_any pair x))) e ∙ sym (ap (if_end_open pair) e)

-- A message that is kept and did not come has not come, and is read as the commands that were written.

line-kept : {M : Type 0} (write : M → List Bool) (P : M → Type 0) (l : Link M) (s : LinkSlot) (h : Holds) → LinkRefines write P l s h → unless_came (is_delivered h) (kept_message s) ≡ not_come s h
line-kept write P l s h c =
    ap (λ (x : LinkSlot). unless_came (is_delivered h) (kept_message x)) c.in_slot ∙ ap (λ (x : Holds). unless_came (is_delivered x) (kept_message (slot_of write c.place))) c.in_subnet
    ∙ go c.place ∙ sym (ap (λ (x : Holds). not_come (slot_of write c.place) x) c.in_subnet) ∙ sym (ap (λ (x : LinkSlot). not_come x h) c.in_slot)
  where
    go : (p : MessageState _) → unless_came (is_delivered (holds_of write p)) (kept_message (slot_of write p)) ≡ not_come (slot_of write p) (holds_of write p)
    go Nowhere = refl
    go (Waits m) = refl
    go (Goes m) = refl
    go (Came m) = refl
    go (Failed m) = refl
    go (Died m) = refl
    go (Kept m) = refl

control-read : (there : ℕ) (cs : List Command) → there < 2 ^ 8 → AreCommands cs → control_commands (message_in (control_bits there cs)) ≡ commands_of (control_bits there cs)
control-read there cs n a =
    let r = read there 0 8 (bits_of_bytes (spellings cs)) n (omega arith) (control_text cs a) in
    ap control_commands r ∙ sym (ap (λ (m : Result Message MessageFault). commands_in (bytes_of (text_read m))) r)

line-read : (there : ℕ) (l : Link (List Command)) (s : LinkSlot) (h : Holds) → there < 2 ^ 8 → LinkRefines (control_bits there) AreCommands l s h → commands_kept (not_come s h) ≡ commands_out (not_come s h)
line-read there l s h n c =
    ap (λ (x : LinkSlot). commands_kept (not_come x h)) c.in_slot ∙ ap (λ (x : Holds). commands_kept (not_come (slot_of (control_bits there) c.place) x)) c.in_subnet
    ∙ go c.place c.fits
    ∙ sym (ap (λ (x : Holds). commands_out (not_come (slot_of (control_bits there) c.place) x)) c.in_subnet) ∙ sym (ap (λ (x : LinkSlot). commands_out (not_come x h)) c.in_slot)
  where
    go : (p : MessageState (List Command)) → OfMessage AreCommands p
        → commands_kept (not_come (slot_of (control_bits there) p) (holds_of (control_bits there) p)) ≡ commands_out (not_come (slot_of (control_bits there) p) (holds_of (control_bits there) p))
    go Nowhere f = refl
    go (Waits m) f = control-read there m n f
    go (Goes m) f = control-read there m n f
    go (Came m) f = refl
    go (Failed m) f = control-read there m n f
    go (Died m) f = control-read there m n f
    go (Kept m) f = control-read there m n f

-- What is told of one side, where its host stands for one of the model.

abbrev had : Side → Hosts → PeerState
had side w = state_or_new (state_of (host_of side w) (side_number (other side) w))

abbrev goes : Side → Hosts → TransitByLink
goes side w = λ on. transit_of side on w

module _ (side : Side) (w : Hosts) (there : ℕ) (n : Node) (k : Represents there n (had side w) (goes side w)) (few : length n.host.phase.waiting ≤ MAX_WAITING) where
  kept-is : (on : ℕ) → kept_from side on w ≡ not_come (slot_at (had side w).slots on) (goes side w on)
  kept-is on = ap (unless_came (is_delivered (goes side w on))) (kept-told (state_of (host_of side w) (side_number (other side) w)) on) ∙ go (on == 0) refl
    where
      go : (b : Bool) → (on == 0) ≡ b → unless_came (is_delivered (goes side w on)) (kept_message (slot_at (had side w).slots on)) ≡ not_come (slot_at (had side w).slots on) (goes side w on)
      go true z = subst (λ (x : ℕ). unless_came (is_delivered (goes side w x)) (kept_message (slot_at (had side w).slots x)) ≡ not_come (slot_at (had side w).slots x) (goes side w x)) (sym (eqb-true on 0 z))
          (line-kept (control_bits there) AreCommands n.control (slot_at (had side w).slots 0) (goes side w 0) k.control)
      go false z = line-kept (text_as_message there on) (IsTextOn on) (n.texts on) (slot_at (had side w).slots on) (goes side w on) (k.texts on z)

  waiting-is : take MAX_WAITING (waiting_of (state_of (host_of side w) (side_number (other side) w))) ≡ (had side w).peer.phase.waiting
  waiting-is =
      let same : (had side w).peer.phase.waiting ≡ n.host.phase.waiting = ap (λ (p : Peer). p.phase.waiting) k.peer in
      let long = ap (λ (cs : List Command). length cs) same in
      ap (take MAX_WAITING) (waiting-told (state_of (host_of side w) (side_number (other side) w)))
      ∙ take_all MAX_WAITING (had side w).peer.phase.waiting (omega (arith, long, few))

  commands-is : commands_from side w ≡ underway (had side w) (goes side w)
  commands-is =
      ap (λ (o : Option (List Bool)). commands_kept o ++ take MAX_WAITING (waiting_of (state_of (host_of side w) (side_number (other side) w)))) (kept-is 0)
      ∙ ap (λ (cs : List Command). cs ++ take MAX_WAITING (waiting_of (state_of (host_of side w) (side_number (other side) w)))) (line-read there n.control (slot_at (had side w).slots 0) (goes side w 0) k.number k.control)
      ∙ ap (λ (cs : List Command). commands_out (not_come (slot_at (had side w).slots 0) (goes side w 0)) ++ cs) waiting-is

-- The world with the host of a side as this host.

abbrev from : Side → Hosts → World
from side w = record {
  here = side_number side w;
  there = side_number (other side) w;
  this = had side w;
  that = had (other side) w;
  going = goes side w;
  coming = goes (other side) w;
}

-- a ledger, where these commands and this text are underway
abbrev with_those : Endpoint → Endpoint → List Command → List Command → Option (List Bool) → Ledger
with_those sender receiver there back text = record {
  outstanding = amount receiver.messages receiver.bits;
  counters = amount sender.messages sender.bits;
  all = total_on sender.link granted back;
  text = amount_out text;
  ret = total_on sender.link returned there;
}

abbrev ledger_at : Side → Hosts → Endpoint → Endpoint → Ledger
ledger_at side w s r = with_those s r (underway (had side w) (goes side w)) (underway (had (other side) w) (goes (other side) w)) (not_come (slot_at (had side w).slots s.link) (goes side w s.link))

module _ (side : Side) (w : Hosts) (there back : ℕ) (n m : Node) (k : Represents there n (had side w) (goes side w)) (l : Represents back m (had (other side) w) (goes (other side) w))
    (few : length n.host.phase.waiting ≤ MAX_WAITING) (few_too : length m.host.phase.waiting ≤ MAX_WAITING) where
  both-open : (pair : Pair) (s r : Endpoint) → ledger_with side w (record_of pair s) (record_of (counterpart pair) r) ≡ ledger_at side w s r
  both-open pair s r = λ i. with_those s r (commands-is side w there n k few i) (commands-is (other side) w back m l few_too i) (kept-is side w there n k few s.link i)

  reckoned : (pair : Pair) → ledger_read side pair w ≡ ledger_from pair (from side w)
  reckoned pair =
      (λ i. if is_send pair.local then ledger_if side w (end-told (state_of (host_of side w) (side_number (other side) w)) pair i) (end-told (state_of (host_of (other side) w) (side_number (other (other side)) w)) (counterpart pair) i) else None)
      ∙ go (is_send pair.local) (get (had side w).peer.ends pair) (get (had (other side) w).peer.ends (counterpart pair))
    where
      ends : (s r : Endpoint) (a b : Bool) → ledger_if side w (if a then Some (record_of pair s) else None) (if b then Some (record_of (counterpart pair) r) else None) ≡ (if a && b then Some (ledger_at side w s r) else None)
      ends s r true true = ap (λ (x : Ledger). Some x) (both-open pair s r)
      ends s r true false = refl
      ends s r false b = refl

      one : (s : Endpoint) (a : Bool) → ledger_if side w (if a then Some (record_of pair s) else None) None ≡ None
      one s true = refl
      one s false = refl

      none : (s : Endpoint) (a : Bool) → (if a && false then Some (ledger_at side w s (or_new None)) else None) ≡ None
      none s true = refl
      none s false = refl

      go : (b : Bool) (s r : Option Endpoint) → (if b then ledger_if side w (if_end_open pair s) (if_end_open (counterpart pair) r) else None) ≡ (if b && (is_open (or_new s) && is_open (or_new r)) then Some (ledger_at side w (or_new s) (or_new r)) else None)
      go false s r = refl
      go true None r = refl
      go true (Some s) None = one s (is_open s) ∙ sym (none s (is_open s))
      go true (Some s) (Some r) = ends s r (is_open s) (is_open r)

-- of two hosts of which the same is seen as of those of a transcript
pub ledger-seen : (ns : List Note) (x w : Hosts) → IsTranscript ns x → seen x ≡ seen w → (pair : Pair) → ledger_read A pair w ≡ ledger_of A pair w
ledger-seen ns x w t e pair =
    let o = watched-all ns x t in
    let few = few-wait o.0 o.1.reached in
    reckoned A w w.number_b w.number_a o.0.this o.0.that (subst (λ (v : World). Represents v.there o.0.this v.this v.going) e o.1.this) (subst (λ (v : World). Represents v.here o.0.that v.that v.coming) e o.1.that) few.0 few.1 pair

pub ledger-is : (ns : List Note) (w : Hosts) → IsTranscript ns w → (side : Side) (pair : Pair) → ledger_read side pair w ≡ ledger_of side pair w
ledger-is ns w t A pair =
    let o = watched-all ns w t in
    let few = few-wait o.0 o.1.reached in
    reckoned A w w.number_b w.number_a o.0.this o.0.that o.1.this o.1.that few.0 few.1 pair
ledger-is ns w t B pair =
    let o = watched-all ns w t in
    let few = few-wait o.0 o.1.reached in
    reckoned B w w.number_a w.number_b o.0.that o.0.this o.1.that o.1.this few.1 few.0 pair

-- An open end has a socket of each kind, and what is outstanding is where the ledger says.

sends-proper : (pair : Pair) → is_send pair.local ≡ true → is_proper pair ≡ true → sends pair ≡ true
sends-proper pair s p = grind arith

proper-ends : (w : hosts.TwoNodes) → IsReachable w → (pair : Pair) → is_proper pair ≡ false → get w.this.ends pair ≡ None
proper-ends w r pair improper = of-reached (λ (x : hosts.TwoNodes). get x.this.ends pair ≡ None) (λ (es : List NodeEvent). let t = ever es in t.holds.joined.ties.there.proper pair improper) w r

module _ (pair : Pair) (v : World) (p : Both) (o : OfModelWith p v) where
  sends-open : is_send pair.local ≡ true → is_open (sender_at pair v) ≡ true → sends pair ≡ true
  sends-open s opened = go (is_proper pair) refl
    where
      go : (b : Bool) → is_proper pair ≡ b → sends pair ≡ true
      go true e = sends-proper pair s e
      go false e =
          let same = ap (λ (q : Peer). is_open (or_new (get q.ends pair))) o.1.this.peer in
          let shut = ap (λ (x : Option Endpoint). is_open (or_new x)) (proper-ends o.0 o.1.reached pair e) in
          absurd (cc (opened, same, shut))

  balanced : (l : Ledger) → ledger_from pair v ≡ Some l → IsBalanced l
  balanced l = go (is_send pair.local && are_open pair v) refl
    where
      go : (b : Bool) → (is_send pair.local && are_open pair v) ≡ b → (if b then Some (ledger_in pair v) else None) ≡ Some l → IsBalanced l
      go false e is = absurd (cc is)
      go true e is =
          let a = and_parts (is_send pair.local) (are_open pair v) e in
          let opened = and_parts (is_open (sender_at pair v)) (is_open (receiver_at pair v)) a.1 in
          let s = sends-open a.0 opened.0 in
          let same : ledger_in pair v ≡ l = cc is in
          subst IsBalanced same (amounts-carried pair s v p o (opened.0, opened.1))

pub ledger-balanced : (ns : List Note) (w : Hosts) → IsTranscript ns w → (side : Side) (pair : Pair) (l : Ledger) → ledger_of side pair w ≡ Some l → IsBalanced l
ledger-balanced ns w t A pair l e = balanced pair (seen w) (histories_of ns w) (watched-all ns w t) l e
ledger-balanced ns w t B pair l e = balanced pair (swap (seen w)) (turn (histories_of ns w)) (counterpart-over (seen w) (histories_of ns w) (watched-all ns w t)) l e

pub if-some : (P : Ledger → Type 0) (o : Option Ledger) → ((l : Ledger) → o ≡ Some l → P l) → IfSome o P
if-some P None k = tt
if-some P (Some l) k = k l refl
