-- Commands go out in the order in which they were made, note by note.
use Rattle.std.proofs.Common.{◌≡◌, ℕ, ◌==◌, Bool, true, false, not, ◌&&◌, ◌||◌, if◌then◌else◌, List, [], ◌∷◌, ◌++◌, map, length, take, drop, Option, None, Some, Result, Ok, Err, inl, inr, refl, sym, ap, ◌∙◌, subst}
use Rattle.std.proofs.lemmas.List.{append_assoc, append-nil, map-append}
use Rattle.std.proofs.lemmas.Bool.Decides.{eqb_tells}
use Rattle.ncp_numbers.specs.Bytes.{bytes_of}
use Rattle.ncp_leader.specs.declared.leader.Leader.{Leader}
use Rattle.ncp_leader.specs.declared.leader.Short.{Short}
use Rattle.ncp_leader.specs.declared.fault.MessageFault.{MessageFault}
use Rattle.ncp_leader.specs.Leader.{leader_in}
use Rattle.ncp_leader.specs.Message.{Message, message_in}
use Rattle.ncp_wire.specs.declared.command.Command.{Command}
use Rattle.ncp_wire.specs.declared.fault.CommandFault.{CommandFault}
use Rattle.ncp_control.specs.Reading.{commands_in, fault_in}
use Rattle.ncp_slot.specs.declared.slot.Slot.TheVariants.{Empty, Ready, Travelling, Held}
use Rattle.ncp_wire.specs.declared.answer.Answer.{Answer}
use Rattle.ncp_wire.specs.declared.answer.Answer.TheVariants.{Rfnm, Incomplete, Dead}
use Rattle.ncp_slot.specs.Slot.{answered}
use Rattle.ncp_slot.specs.Slots.{LinkSlot, LinkSlots, slot_at, with_slot, is_quiet}
use Rattle.ncp_model.specs.declared.pair.Pair.{Pair}
use Rattle.ncp_model.specs.Effect.{answer, made_if_any, made_by_call}
use Rattle.ncp_model.specs.Texts.{made_by_text}
use Rattle.ncp_model.specs.Texts
use Rattle.ncp_model.specs.Ends.{text_in, answered_in}
use Rattle.ncp_model.specs.Echo.{echo_answer}
use Rattle.ncp_model.specs.Phase.{Phase, up, is_resetting, wants_reset, makes_all, phase_settles, resets}
use Rattle.ncp_model.specs.Sending.{is_full, next_commands}
use Rattle.ncp_model.specs.Peers.{Peer, Take, happened_at, PairCall, calls, calls_echo, calls_reset, calls_up, cleared, cuts, echo_called, frees, frees_up, makes, peer_sends, takes_text}
use Rattle.ncp_peer.specs.Counting.{one_more}
use Rattle.ncp_peer.specs.PeerState.{PeerState, new_state, control_link, is_answered, answer_taken, answer_comes, frees_on, after_answer}
use Rattle.ncp_peer.specs.Hearing.{control_size, state_after_control, state_after_text, is_wrong_link, state_hears, state_hears_all, hears_last, message_after}
use Rattle.ncp_peer.specs.Output.{control_message, output_by, output_on, after_by}
use Rattle.ncp_phase.specs.declared.flags.Flags.{Flags}
use Rattle.ncp_phase.specs.Flags.{flags_of}
use Rattle.ncp_host.specs.Calls.{flags_returned}
use Rattle.ncp_host.specs.Host.{Host, state_of, new_host, if_known}
use Rattle.ncp_transcript.specs.Asked.{asked_in, Asked, Asks, Asks_echo, Asks_reset, Asks_wake}
use Rattle.ncp_transcript.specs.Notes.{returned_or_refused}
use Rattle.ncp_transcript.specs.declared.call.Call.{Call}
use Rattle.ncp_transcript.specs.declared.note.HostNote.{HostNote}
use Rattle.ncp_transcript.specs.After.{after_notes}
use Rattle.ncp_proof_runs.specs.Peers.{FromBeginning, notes_of_peer, is_this_number, state_asked, bits_for, out_for, note_for, notes_for}
use Rattle.ncp_proof_runs.specs.Links.{LinkSoFar, nothing_noted, takes_fresh, goes_fresh, link_of_leader, noted_by, slot_of_answer, fresh_by, fresh_from, fresh_on}
use Rattle.ncp_proof_runs.specs.Making.{Made, reset_asked, made_sent, all_made_in, settling_made, by_pair_call, by_echo, by_reset, by_asked, by_command, by_commands, by_fault, by_control, by_text, by_message, by_bits, by_freeing, by_answer, by_answered, by_out, made_by_note, made_from, nothing_made, made_of, is_up_noted, message_of, joined}
use Rattle.ncp_proof_runs.proofs.Said.{IsOut, IsSaidOf, IsRunOf}
use Rattle.ncp_proof_runs.proofs.EachPeer.{each_peer}
use Rattle.ncp_proof_runs.proofs.LinksTold.{Tells, ready-is, out-free, note-tells, new-tells}
use Rattle.ncp_proof_runs.proofs.InRuns.{before_note, is_a_peer, kept_as_noted}
use Rattle.ncp_proof_runs.proofs.MadeOfRuns.{Agrees, all_made-agrees, settling-agrees, asked-agrees, command-agrees, sent-agrees}

-- Notes by which no control message goes out fresh.

module _ (g : List Command) where
  while-up : (cs : List Command) (p now : Peer) (l : Made) → now.phase ≡ makes_all cs p.phase → Agrees l p.phase g
      → Agrees (if up p.phase then all_made_in cs p.phase l else l) (if up p.phase then now else p).phase g
  while-up cs p now l is a = go (up p.phase)
    where
      go : (b : Bool) → Agrees (if b then all_made_in cs p.phase l else l) (if b then now else p).phase g
      go true = subst (λ (q : Phase). Agrees (all_made_in cs p.phase l) q g) (sym is) (all_made-agrees g cs p.phase l a)
      go false = a

  pair-call : (pair : Pair) (call : PairCall) (s : PeerState) (l : Made) → Agrees l s.peer.phase g → Agrees (by_pair_call pair call s l) (calls pair call s.peer).phase g
  pair-call pair call s l a = while-up (happened_at pair call s.peer).made s.peer (calls_up pair call s.peer) l refl a

  echo-call : (byte : ℕ) (s : PeerState) (l : Made) → Agrees l s.peer.phase g → Agrees (by_echo byte s l) (calls_echo byte s.peer).phase g
  echo-call byte s l a = while-up (made_by_call (echo_answer byte (is_full s.peer.phase) s.peer.echoes)) s.peer (echo_called byte s.peer) l refl a

  reset-call : (s : PeerState) (l : Made) → Agrees l s.peer.phase g → Agrees (by_reset s l) (calls_reset (is_quiet s.slots) s.peer).phase g
  reset-call s l a = go (is_resetting s.peer.phase) refl
    where
      go : (b : Bool) → is_resetting s.peer.phase ≡ b
          → Agrees (if b then l else settling_made (is_quiet s.slots) (wants_reset s.peer.phase) (reset_asked l)) (if b then s.peer else cleared (resets (is_quiet s.slots) s.peer.phase) s.peer).phase g
      go true e = a
      go false e =
          subst (λ (b : Bool). Agrees (settling_made (is_quiet s.slots) (wants_reset s.peer.phase) (reset_asked l)) (if b then s.peer.phase else phase_settles (is_quiet s.slots) (wants_reset s.peer.phase)) g) (sym e)
          (asked-agrees g (is_quiet s.slots) s.peer.phase l a)

  call-agrees : (asked : Option (ℕ × Asked)) (s : PeerState) (l : Made) → Agrees l s.peer.phase g → Agrees (by_asked asked s l) (state_asked asked s).peer.phase g
  call-agrees None s l a = a
  call-agrees (Some (peer, Asks pair call)) s l a = pair-call pair call s l a
  call-agrees (Some (peer, Asks_echo byte)) s l a = echo-call byte s l a
  call-agrees (Some (peer, Asks_reset)) s l a = reset-call s l a
  call-agrees (Some (peer, Asks_wake)) s l a = a

  commands-agree : (cs : List Command) (s : PeerState) (l : Made) → Agrees l s.peer.phase g → Agrees (by_commands cs s l) (state_hears_all cs s).peer.phase g
  commands-agree [] s l a = a
  commands-agree (c ∷ cs) s l a = commands-agree cs (state_hears c s) (by_command (is_quiet s.slots) c s.peer l) (command-agrees g (is_quiet s.slots) c s.peer l a)

  fault-agrees : (fault : Option CommandFault) (s : PeerState) (l : Made) → Agrees l s.peer.phase g → Agrees (by_fault fault s l) (hears_last fault s).peer.phase g
  fault-agrees None s l a = a
  fault-agrees (Some fault) s l a = while-up (Command.Err fault.code fault.bytes ∷ []) s.peer (makes (Command.Err fault.code fault.bytes ∷ []) s.peer) l refl a

  message-agrees : (on : ℕ) (bits : List Bool) (o : Result Message MessageFault) (s : PeerState) (l : Made) → Agrees l s.peer.phase g → Agrees (by_message on bits o s l) (message_after on bits o s).peer.phase g
  message-agrees on bits (Err fault) s l a = a
  message-agrees on bits (Ok m) s l a = go (is_wrong_link on) (on == control_link)
    where
      control : (b : Bool) → Agrees (if b then by_fault (fault_in (bytes_of m.text)) (state_hears_all (commands_in (bytes_of m.text)) s) (by_commands (commands_in (bytes_of m.text)) s l) else l)
          (if b then hears_last (fault_in (bytes_of m.text)) (state_hears_all (commands_in (bytes_of m.text)) s) else record s { counts = record s.counts { wrong_size = one_more s.counts.wrong_size } }).peer.phase g
      control true = fault-agrees (fault_in (bytes_of m.text)) (state_hears_all (commands_in (bytes_of m.text)) s) (by_commands (commands_in (bytes_of m.text)) s l) (commands-agree (commands_in (bytes_of m.text)) s l a)
      control false = a

      go : (b d : Bool) → Agrees (if b then l else if d then by_control m s l else by_text on (take 72 bits) m s l)
          (if b then record s { counts = record s.counts { wrong_link = one_more s.counts.wrong_link } } else if d then state_after_control m s else state_after_text on (take 72 bits) m s).peer.phase g
      go true d = a
      go false true = control (m.size == control_size)
      go false false = while-up (made_by_text (take 72 bits) m.text (answer (text_in on m.size m.text s.peer.ends))) s.peer (takes_text on (take 72 bits) m.size m.text s.peer) l refl a

  bits-agree : (o : Result Leader Short) (bits : List Bool) (s : PeerState) (l : Made) → Agrees l s.peer.phase g → Agrees (by_bits o bits s l) (bits_for o bits s).peer.phase g
  bits-agree (Err short) bits s l a = a
  bits-agree (Ok leader) bits s l a = message-agrees leader.link bits (message_in bits) s l a

  freeing-agrees : (on : ℕ) (p : Peer) (l : Made) → Agrees l p.phase g → Agrees (by_freeing on p l) (frees_on on p).phase g
  freeing-agrees on p l a = go (on == control_link)
    where
      go : (b : Bool) → Agrees (if b then l else if up p.phase then all_made_in (made_if_any (answer (answered_in on Texts.Rfnm p.ends))) p.phase l else l) (if b then p else frees on p).phase g
      go true = a
      go false = while-up (made_if_any (answer (answered_in on Texts.Rfnm p.ends))) p (frees_up on p) l refl a

  answer-agrees : (on : ℕ) (how : Answer) (slots : LinkSlots) (p : Peer) (l : Made) → Agrees l p.phase g → Agrees (by_answer on how slots p l) (after_answer on how slots p).phase g
  answer-agrees on Rfnm slots p l a = settling-agrees g (is_quiet slots) (frees_on on p).phase (by_freeing on p l) (freeing-agrees on p l a)
  answer-agrees on Incomplete slots p l a = a
  answer-agrees on Dead slots p l a = a

  answered-agrees : (on : ℕ) (how : Answer) (s : PeerState) (l : Made) → Agrees l s.peer.phase g → Agrees (by_answered on how s l) (answer_comes on how s).peer.phase g
  answered-agrees on how s l a = go (is_answered on s)
    where
      go : (b : Bool) → Agrees (if b then by_answer on how (with_slot s.slots on (answered how (slot_at s.slots on))) s.peer l else l) (if b then answer_taken on how s else record s { counts = record s.counts { stray = one_more s.counts.stray } }).peer.phase g
      go true = answer-agrees on how (with_slot s.slots on (answered how (slot_at s.slots on))) s.peer l a
      go false = a

-- What goes out.

-- one note: the control messages that went out fresh, and what waits
pub record Went (n : ℕ) (fresh : List (List Bool)) (l : Made) (now : Phase) (g : List Command) : Type 0 where
  pub css : List (List Command)
  pub messages : fresh ≡ map (message_of n) css
  pub agrees : Agrees l now (g ++ joined css)

none-went : (n : ℕ) (l : Made) (now : Phase) (g : List Command) → Agrees l now g → Went n [] l now g
none-went n l now g a = record { css = []; messages = refl; agrees = subst (λ (xs : List Command). Agrees l now xs) (sym (append-nil g)) a }

commands-message : (n : ℕ) (cs : List Command) (message : List Bool) → control_message n cs ≡ Some message → message ≡ message_of n cs
commands-message n [] message e = absurd (cc)
commands-message n (c ∷ cs) message e = cc

module _ (n : ℕ) (message : List Bool) (s : PeerState) (t : LinkSoFar) (l : Made) (g : List Command) (tells : Tells control_link s t) (a : Agrees l s.peer.phase g) where
  -- it is the one that is ready on link 0
  control-went : output_on n control_link s ≡ Some message → Went n (if goes_fresh t then message ∷ [] else []) (if goes_fresh t then made_sent l else l) (after_by (slot_at s.slots control_link) control_link s.peer).phase g
  control-went ready = go t.answer refl
    where
      free : t.unanswered ≡ false
      free = out-free n control_link t s.peer message (sym (ready-is n control_link t s tells) ∙ ready)

      slot : slot_at s.slots control_link ≡ slot_of_answer t.answer t.woken t.fresh
      slot = tells ∙ ap (λ (b : Bool). if b then Travelling t.fresh else slot_of_answer t.answer t.woken t.fresh) free

      first : slot_at s.slots control_link ≡ Empty → Went n (message ∷ []) (made_sent l) (after_by (slot_at s.slots control_link) control_link s.peer).phase g
      first e =
          let made : control_message n (next_commands s.peer.phase.waiting) ≡ Some message = ap (λ (x : LinkSlot). output_by x n control_link s.peer) (sym e) ∙ ready in
          record {
            css = next_commands s.peer.phase.waiting ∷ [];
            messages = ap (λ (m : List Bool). m ∷ []) (commands-message n (next_commands s.peer.phase.waiting) message made);
            agrees =
                subst (λ (x : LinkSlot). Agrees (made_sent l) (after_by x control_link s.peer).phase (g ++ (next_commands s.peer.phase.waiting ++ []))) (sym e)
                (subst (λ (xs : List Command). Agrees (made_sent l) (record s.peer.phase { waiting = drop (length (next_commands s.peer.phase.waiting)) s.peer.phase.waiting }) (g ++ xs)) (sym (append-nil (next_commands s.peer.phase.waiting))) (sent-agrees l s.peer.phase g a));
          }

      again : (x : LinkSlot) → slot_at s.slots control_link ≡ x → (after_by x control_link s.peer).phase ≡ s.peer.phase → Went n [] l (after_by (slot_at s.slots control_link) control_link s.peer).phase g
      again x e w = subst (λ (y : LinkSlot). Went n [] l (after_by y control_link s.peer).phase g) (sym e) (subst (λ (q : Phase). Went n [] l q g) (sym w) (none-went n l s.peer.phase g a))

      by : (w : Bool) (f : List Bool) → (after_by (if w then Ready f else Held f) control_link s.peer).phase ≡ s.peer.phase
      by true f = refl
      by false f = refl

      go : (o : Option Answer) → t.answer ≡ o → Went n (if takes_fresh t.answer then message ∷ [] else []) (if takes_fresh t.answer then made_sent l else l) (after_by (slot_at s.slots control_link) control_link s.peer).phase g
      go o e = subst (λ (x : Option Answer). Went n (if takes_fresh x then message ∷ [] else []) (if takes_fresh x then made_sent l else l) (after_by (slot_at s.slots control_link) control_link s.peer).phase g) (sym e) (at o (slot ∙ ap (λ (x : Option Answer). slot_of_answer x t.woken t.fresh) e))
        where
          at : (o : Option Answer) → slot_at s.slots control_link ≡ slot_of_answer o t.woken t.fresh → Went n (if takes_fresh o then message ∷ [] else []) (if takes_fresh o then made_sent l else l) (after_by (slot_at s.slots control_link) control_link s.peer).phase g
          at None e = first e
          at (Some Rfnm) e = first e
          at (Some Incomplete) e = again (Ready t.fresh) e refl
          at (Some Dead) e = again (if t.woken then Ready t.fresh else Held t.fresh) e (by t.woken t.fresh)

  -- what goes out on another link takes no command
  other-waits : (on : ℕ) (slot : LinkSlot) → (on == control_link) ≡ false → (after_by slot on s.peer).phase ≡ s.peer.phase
  other-waits on Empty e = ap (λ (b : Bool). (if b then peer_sends s.peer else cuts on s.peer).phase) e
  other-waits on (Ready m) e = refl
  other-waits on (Travelling m) e = refl
  other-waits on (Held m) e = refl

  out-went : IsOut n message s → Went n (fresh_by control_link (HostNote.Out message) t) (by_out (leader_in message) t l) (out_for (leader_in message) message s).peer.phase g
  out-went p =
      subst (λ (r : Result Leader Short). Went n (if is_this_number control_link (link_of_leader r) then (if goes_fresh t then message ∷ [] else []) else []) (by_out r t l) (out_for r message s).peer.phase g) (sym p.leader)
      (elim (eqb_tells p.on control_link) [
        | inl here ↦ subst (λ (b : Bool). Went n (if b then (if goes_fresh t then message ∷ [] else []) else []) (if b then (if goes_fresh t then made_sent l else l) else l) (after_by (slot_at s.slots p.on) p.on s.peer).phase g) (sym here.0)
            (subst (λ (on : ℕ). Went n (if goes_fresh t then message ∷ [] else []) (if goes_fresh t then made_sent l else l) (after_by (slot_at s.slots on) on s.peer).phase g) (sym here.1) (control-went (ap (λ (on : ℕ). output_on n on s) (sym here.1) ∙ p.ready)))
        | inr there ↦ subst (λ (b : Bool). Went n (if b then (if goes_fresh t then message ∷ [] else []) else []) (if b then (if goes_fresh t then made_sent l else l) else l) (after_by (slot_at s.slots p.on) p.on s.peer).phase g) (sym there.0)
            (subst (λ (q : Phase). Went n [] l q g) (sym (other-waits p.on (slot_at s.slots p.on) there.0)) (none-went n l s.peer.phase g a))
      ])

note-went : (n : ℕ) (note : HostNote) (s : PeerState) (t : LinkSoFar) (l : Made) (g : List Command) → IsSaidOf n note s → Tells control_link s t → Agrees l s.peer.phase g
    → Went n (fresh_by control_link note t) (made_by_note note s t l) (note_for note s).peer.phase g
note-went n (HostNote.Done call) s t l g p e a = none-went n (by_asked (asked_in call) s l) (state_asked (asked_in call) s).peer.phase g (call-agrees g (asked_in call) s l a)
note-went n (HostNote.Took peer pair bytes text) s t l g p e a = none-went n (by_pair_call pair (Take bytes) s l) (calls pair (Take bytes) s.peer).phase g (pair-call g pair (Take bytes) s l a)
note-went n (HostNote.Out message) s t l g p e a = out-went n message s t l g e a p
note-went n (HostNote.In message told) s t l g p e a = none-went n (by_bits (leader_in message) message s l) (bits_for (leader_in message) message s).peer.phase g (bits-agree g (leader_in message) message s l a)
note-went n (HostNote.Answered peer link how told) s t l g p e a = none-went n (by_answered link how s l) (answer_comes link how s).peer.phase g (answered-agrees g link how s l a)
note-went n other s t l g p e a = none-went n l s.peer.phase g a

joined-append : (xs ys : List (List Command)) → joined (xs ++ ys) ≡ joined xs ++ joined ys
joined-append [] ys = refl
joined-append (x ∷ xs) ys = ap (λ (zs : List Command). x ++ zs) (joined-append xs ys) ∙ sym (append_assoc x (joined xs) (joined ys))

pub run-went : (n : ℕ) (all : List HostNote) (s : PeerState) (t : LinkSoFar) (l : Made) (g : List Command) → IsRunOf n all s → Tells control_link s t → Agrees l s.peer.phase g
    → Went n (fresh_from control_link all t) (made_from all s t l) (notes_for all s).peer.phase g
run-went n [] s t l g p e a = none-went n l s.peer.phase g a
run-went n (note ∷ rest) s t l g p e a =
    let one = note-went n note s t l g p.0 e a in
    let more = run-went n rest (note_for note s) (noted_by control_link note t) (made_by_note note s t l) (g ++ joined one.css) p.1 (note-tells n control_link note s t p.0 e) one.agrees in
    record {
      css = one.css ++ more.css;
      messages = ap (λ (xs : List (List Bool)). xs ++ fresh_from control_link rest (noted_by control_link note t)) one.messages ∙ ap (λ (xs : List (List Bool)). map (message_of n) one.css ++ xs) more.messages ∙ sym (map-append (message_of n) one.css more.css);
      agrees = subst (λ (xs : List Command). Agrees (made_from rest (note_for note s) (noted_by control_link note t) (made_by_note note s t l)) (notes_for rest (note_for note s)).peer.phase xs)
          (append_assoc g (joined one.css) (joined more.css) ∙ ap (λ (xs : List Command). g ++ xs) (sym (joined-append one.css more.css))) more.agrees;
    }

-- over all the notes of a peer
all-went : (me : ℕ) (ns : List ℕ) (all : List HostNote) (n : ℕ) (s : PeerState) → FromBeginning me ns all → state_of (after_notes all (new_host me ns)) n ≡ Some s → Went n (fresh_on control_link (notes_of_peer n all)) (made_of (notes_of_peer n all)) s.peer.phase []
all-went me ns all n s from there =
    subst (λ (x : PeerState). Went n (fresh_on control_link (notes_of_peer n all)) (made_of (notes_of_peer n all)) x.peer.phase []) (sym (kept_as_noted me ns all n s from there))
    (run-went n (notes_of_peer n all) new_state nothing_noted nothing_made [] (each_peer me ns all n from (is_a_peer me ns all n s from there)).run (new-tells control_link)
    (record { all = refl; count = refl; down = refl; want = refl; wait = refl; owe = refl }))

pub commands-noted : (me : ℕ) (ns : List ℕ) (all : List HostNote) (n : ℕ) (s : PeerState) → FromBeginning me ns all → state_of (after_notes all (new_host me ns)) n ≡ Some s
    → (css : List (List Command)) × (fresh_on control_link (notes_of_peer n all) ≡ map (message_of n) css) × ((made_of (notes_of_peer n all)).all ≡ joined css ++ s.peer.phase.waiting) × ((made_of (notes_of_peer n all)).gone ≡ length (joined css))
commands-noted me ns all n s from there = let w = all-went me ns all n s from there in (w.css, w.messages, w.agrees.all, w.agrees.count)

pub flags-noted : (me : ℕ) (ns : List ℕ) (all : List HostNote) (n : ℕ) (s : PeerState) → FromBeginning me ns all → state_of (after_notes all (new_host me ns)) n ≡ Some s
    → (s.peer.phase.down ≡ not (made_of (notes_of_peer n all)).began) × (s.peer.phase.want ≡ not (made_of (notes_of_peer n all)).did_reset) × (s.peer.phase.wait ≡ not (made_of (notes_of_peer n all)).got_answer) × (s.peer.phase.owe ≡ not (made_of (notes_of_peer n all)).gave_answer)
flags-noted me ns all n s from there = let w = all-went me ns all n s from there in (w.agrees.down, w.agrees.want, w.agrees.wait, w.agrees.owe)

-- no flag is set where all four are there
no-flag : (a b c d : Bool) → not (not a || not b || not d || not c) ≡ (a && b && c && d)
no-flag true true true true = refl
no-flag true true true false = refl
no-flag true true false true = refl
no-flag true true false false = refl
no-flag true false c d = refl
no-flag false b c d = refl

pub up-noted : (me : ℕ) (ns : List ℕ) (all : List HostNote) (n : ℕ) (s : PeerState) → FromBeginning me ns all → state_of (after_notes all (new_host me ns)) n ≡ Some s → up s.peer.phase ≡ is_up_noted (made_of (notes_of_peer n all))
up-noted me ns all n s from there =
    let f = flags-noted me ns all n s from there in
    let l = made_of (notes_of_peer n all) in
    ap (λ (b : Bool). not (b || s.peer.phase.want || s.peer.phase.owe || s.peer.phase.wait)) f.0
    ∙ ap (λ (b : Bool). not (not l.began || b || s.peer.phase.owe || s.peer.phase.wait)) f.1
    ∙ ap (λ (b : Bool). not (not l.began || not l.did_reset || s.peer.phase.owe || b)) f.2
    ∙ ap (λ (b : Bool). not (not l.began || not l.did_reset || b || not l.got_answer)) f.3
    ∙ no-flag l.began l.did_reset l.got_answer l.gave_answer

-- a note that reads them

flags-read : (n : ℕ) (flags : Flags) (h : Host) → returned_or_refused (Call.Phase n) (HostNote.Phase n) (flags_returned n h) ≡ HostNote.Phase n flags → (s : PeerState) × (state_of h n ≡ Some s) × (flags_of s.peer.phase ≡ flags)
flags-read n flags h e = go (state_of h n) refl e
  where
    go : (o : Option PeerState) → state_of h n ≡ o → returned_or_refused (Call.Phase n) (HostNote.Phase n) (if_known o (λ s. Ok (flags_of s.peer.phase))) ≡ HostNote.Phase n flags → (s : PeerState) × (state_of h n ≡ Some s) × (flags_of s.peer.phase ≡ flags)
    go None f e = absurd (cc)
    go (Some s) f e = (s, f, cc)

pub flags-said : (me : ℕ) (ns : List ℕ) (before after : List HostNote) (n : ℕ) (flags : Flags) → FromBeginning me ns (before ++ HostNote.Phase n flags ∷ after)
    → (flags.down ≡ not (made_of (notes_of_peer n before)).began) × (flags.want ≡ not (made_of (notes_of_peer n before)).did_reset) × (flags.owe ≡ not (made_of (notes_of_peer n before)).gave_answer) × (flags.wait ≡ not (made_of (notes_of_peer n before)).got_answer)
flags-said me ns before after n flags from =
    let b = before_note me ns before after (HostNote.Phase n flags) from in
    let w = flags-read n flags (after_notes before (new_host me ns)) b.said in
    let f = flags-noted me ns before n w.0 b.from w.1 in
    let l = made_of (notes_of_peer n before) in
    subst (λ (x : Flags). (x.down ≡ not l.began) × (x.want ≡ not l.did_reset) × (x.owe ≡ not l.gave_answer) × (x.wait ≡ not l.got_answer)) w.2 (f.0, f.1, f.3, f.2)
