-- A message that a host sends breaks no rule of messages by itself, and its commands are whole.
use Rattle.std.proofs.Common.{drop, ◌≡◌, inl, inr, ◌<◌, ◌≤◌, ℕ, ◌+◌, ◌-◌, ◌*◌, ◌/◌, ◌==◌, suc, Bool, true, false, not, ◌&&◌, ◌||◌, nat_le, nat_lt, min, if◌then◌else◌, List, [], ◌∷◌, length, take, All, Option, None, Some, Result, Ok, refl, sym, ap, ◌∙◌, subst, length-take-le, le-ltb, mul-pos, arith}
use Rattle.std.proofs.lemmas.Bool.{eqb-true}
use Rattle.std.proofs.lemmas.Bool.Decides.{eqb_tells}
use Rattle.std.proofs.lemmas.List.{length-append}
use Rattle.std.proofs.lemmas.List.Elements.{All-nil, All-cons}
use Rattle.std.proofs.Math.Nat.{div-mul-le_self, mul-le-mul_right, min-le_left}
use Rattle.ncp_numbers.specs.Numbers.{bits_of}
use Rattle.ncp_numbers.specs.Bytes.{bits_of_bytes, bytes_of}
use Rattle.ncp_numbers.proofs.Bytes.{length-bits_of_bytes}
use Rattle.ncp_numbers.proofs.Packing.{bytes_of-bits_of_bytes}
use Rattle.ncp_leader.specs.declared.leader.Leader.{Leader}
use Rattle.ncp_leader.specs.declared.leader.Short.{Short}
use Rattle.ncp_leader.specs.declared.regular.TheConstants.{FRONT_BITS}
use Rattle.ncp_leader.specs.Leader.{leader_in}
use Rattle.ncp_leader.specs.declared.fault.MessageFault.{MessageFault}
use Rattle.ncp_leader.specs.Message.{Message, message_in, message_with}
use Rattle.ncp_wire.specs.declared.command.Command.{Command}
use Rattle.ncp_wire.specs.declared.answer.Answer.{Answer}
use Rattle.ncp_wire.specs.declared.answer.Answer.TheVariants.{Rfnm, Incomplete, Dead}
use Rattle.ncp_wire.specs.Spelling.{spelling, spellings, IsCommand}
use Rattle.ncp_control.specs.Reading.{fault_in}
use Rattle.ncp_control.proofs.Reading.{spelling_takes, spellings_small, spelled_alone}
use Rattle.ncp_slot.specs.declared.slot.Slot.TheVariants.{Empty, Ready, Travelling, Held}
use Rattle.ncp_slot.specs.Slot.{kept_message, answered, woken}
use Rattle.ncp_slot.specs.Slots.{LinkSlot, slot_at, with_slot}
use Rattle.ncp_slot.proofs.Places.{slot_at-with_slot_same, slot_at-with_slot_other}
use Rattle.ncp_model.specs.declared.pair.Pair.{Pair}
use Rattle.ncp_model.specs.declared.limits.TheConstants.{MAX_CONTROL, MAX_TEXT}
use Rattle.ncp_model.specs.Endpoint.{Endpoint}
use Rattle.ncp_model.specs.Effect.{Stays, answer}
use Rattle.ncp_model.specs.Ends.{Ends, sender_on, cut_at, cut_in}
use Rattle.ncp_model.specs.Sending.{fitting, next_commands}
use Rattle.ncp_model.specs.Texts.{bytes_to_send, can_send, cut_bits, cut}
use Rattle.ncp_model.specs.Peers.{Peer}
use Rattle.ncp_transcript_two.specs.Tie.{IsText}
use Rattle.ncp_transcript_two.proofs.Well.{cut-written}
use Rattle.ncp_transcript_two.proofs.Written.{read}
use Rattle.ncp_peer.specs.PeerState.{PeerState, control_link, answer_comes}
use Rattle.ncp_peer.specs.Output.{leader_to, message_to, links, control_message, text_message, made_on, output_by, after_output}
use Rattle.ncp_host.specs.Host.{is_one_of}
use Rattle.ncp_transcript.specs.declared.note.HostNote.{HostNote}
use Rattle.ncp_proof_runs.specs.Peers.{out_for, note_for}
use Rattle.ncp_proof_runs.proofs.Ready.{link_small}
use Rattle.ncp_proof_runs.proofs.Said.{IsOut, IsSaidOf}
use Rattle.ncp_monitor.specs.declared.finding.Rule.{Rule}
use Rattle.ncp_monitor.specs.Messages.{is_padding, end_of_text, most_bits, extras_of, judged_bits, rule_of_message}
use Rattle.ncp_interface.specs.Contents.{is_unused}
use Rattle.ncp_proof_monitor.proofs.Goes.{used}
use Rattle.ncp_proof_monitor.proofs.HostSlots.{is_of_call, call_leaves, bits_leave, answer_here, answer_there}
use Rattle.ncp_proof_monitor.proofs.Fine.{PeerInvariant}

abbrev pub Laid : ℕ → List Bool → Type 0
Laid on bits = rule_of_message (message_in bits) on (judged_bits (message_in bits) bits) ≡ None

-- on link 0 it is whole commands
abbrev pub Clean : List Bool → Type 0
Clean bits = (m : Message) → message_in bits ≡ Ok m → (m.leader.link == 0) ≡ true → fault_in (bytes_of m.text) ≡ None

abbrev pub Whole : ℕ → List Bool → Type 0
Whole on bits = Laid on bits × Clean bits

-- ---- a message that is made

message_length : (n on size : ℕ) (text : List Bool) → length (message_to n on size text) ≡ 72 + length text
unfolding bits_of
message_length n on size text = omega arith

-- nothing follows its text
pub judged_made : (n on size : ℕ) (text : List Bool) → judged_bits (Ok (message_with (leader_to n on) size text)) (message_to n on size text) ≡ 72 + length text
judged_made n on size text = go (is_padding (drop (end_of_text (message_with (leader_to n on) size text)) (message_to n on size text)))
  where
    go : (b : Bool) → (if b then FRONT_BITS + length text else length (message_to n on size text)) ≡ 72 + length text
    go true = refl
    go false = message_length n on size text

pub laid : (n on size : ℕ) (text : List Bool) → n < 256 → is_one_of on links ≡ true → IsText size text → 0 < length text → length text ≤ most_bits on → (on == 0 && not (size == 8)) ≡ false → Laid on (message_to n on size text)
laid n on size text l u t some few eight =
    ap (λ (r : Result Message MessageFault). rule_of_message r on (judged_bits r (message_to n on size text))) (read n on size text l (link_small on u) t)
    ∙ tested (Rule.WrongLink on) (Rule.WrongSize size) (extras_of m len) (is_unused on) (on == 0 && not (size == 8)) ((len - FRONT_BITS - length text) == 0) (length text == 0) (nat_lt (most_bits on) (length text))
    (used on u) eight none_following has_text fits
  where
    len : ℕ
    len = judged_bits (Ok (message_with (leader_to n on) size text)) (message_to n on size text)

    m : Message
    m = message_with (leader_to n on) size text

    none_following : ((len - FRONT_BITS - length text) == 0) ≡ true
    none_following = let e : len - FRONT_BITS - length text ≡ 0 = (let k = judged_made n on size text in omega (arith, k)) in ap (λ (x : ℕ). x == 0) e

    has_text : (length text == 0) ≡ false
    has_text = elim (eqb_tells (length text) 0) [
      | inl one ↦ absurd (let e = one.1 in omega (arith, e, some))
      | inr other ↦ other.0
    ]

    fits : nat_lt (most_bits on) (length text) ≡ false
    fits = le-ltb (most_bits on) (length text) few

    -- by the tests, in their order
    tested : (rule_a rule_b rule_c : Rule) (a b c d e : Bool) → a ≡ false → b ≡ false → c ≡ true → d ≡ false → e ≡ false
        → (if a then Some rule_a else if b then Some rule_b else if false || false || not c || d || e then Some rule_c else None) ≡ None
    tested x y z false false true false false a b c d e = refl
    tested x y z true b c d e p q r s t = absurd (cc)
    tested x y z false true c d e p q r s t = absurd (cc)
    tested x y z false false false d e p q r s t = absurd (cc)
    tested x y z false false true true e p q r s t = absurd (cc)
    tested x y z false false true false true p q r s t = absurd (cc)

-- ---- of commands

pub weighs : (room : ℕ) (cs : List Command) → length (spellings (fitting room cs)) ≤ room
weighs room [] = omega arith
weighs room (c ∷ cs) = go (nat_le (length (spelling c)) room) refl (weighs (room - length (spelling c)) cs)
  where
    go : (b : Bool) → nat_le (length (spelling c)) room ≡ b → length (spellings (fitting (room - length (spelling c)) cs)) ≤ room - length (spelling c) → length (spellings (fitting room (c ∷ cs))) ≤ room
    go true e h = let l = length-append (spelling c) (spellings (fitting (room - length (spelling c)) cs)) in grind arith
    go false e h = grind arith

-- the first of commands that can be written
pub fitting_all : (room : ℕ) (cs : List Command) → All IsCommand cs → All IsCommand (fitting room cs)
fitting_all room [] k = All-nil IsCommand
fitting_all room (c ∷ cs) k = go (nat_le (length (spelling c)) room) (fitting_all (room - length (spelling c)) cs (λ i d l. k (suc i) d (omega (arith, l))))
  where
    go : (b : Bool) → All IsCommand (fitting (room - length (spelling c)) cs) → All IsCommand (if b then c ∷ fitting (room - length (spelling c)) cs else [])
    go true rest = All-cons IsCommand c (fitting (room - length (spelling c)) cs) (k 0 c (omega arith)) rest
    go false rest = All-nil IsCommand

-- the message that is read of what was written
is_read : (n on size : ℕ) (text : List Bool) (m : Message) → n < 256 → is_one_of on links ≡ true → IsText size text → message_in (message_to n on size text) ≡ Ok m → message_with (leader_to n on) size text ≡ m
is_read n on size text m l u t e = let same : Ok (message_with (leader_to n on) size text) ≡ Ok m = sym (read n on size text l (link_small on u) t) ∙ e in cc

commands_clean : (n : ℕ) (cs : List Command) → n < 256 → All IsCommand cs → IsText 8 (bits_of_bytes (spellings cs)) → Clean (message_to n 0 8 (bits_of_bytes (spellings cs)))
commands_clean n cs l k t m e c =
    ap (λ (x : Message). fault_in (bytes_of x.text)) (sym (is_read n 0 8 (bits_of_bytes (spellings cs)) m l refl t e))
    ∙ ap fault_in (bytes_of-bits_of_bytes (spellings cs) (spellings_small cs k)) ∙ (spelled_alone cs k).1

-- a text is on another link
text_clean : (n on size : ℕ) (text : List Bool) → n < 256 → is_one_of on links ≡ true → IsText size text → (on == 0) ≡ false → Clean (message_to n on size text)
text_clean n on size text l u t z m e c =
    let nay : true ≡ false = sym c ∙ ap (λ (x : Message). x.leader.link == 0) (sym (is_read n on size text m l u t e)) ∙ z in
    absurd (cc)

commands_whole : (n : ℕ) (message : List Bool) (cs : List Command) → n < 256 → length (spellings cs) ≤ 120 → All IsCommand cs → control_message n cs ≡ Some message → Whole 0 message
commands_whole n message [] l w k e = absurd (cc)
commands_whole n message (c ∷ cs) l w k e =
    let text : List Bool = bits_of_bytes (spellings (c ∷ cs)) in
    let bits : length text ≡ 8 * length (spellings (c ∷ cs)) = length-bits_of_bytes (spellings (c ∷ cs)) in
    let more : length (spellings (c ∷ cs)) ≡ length (spelling c) + length (spellings cs) = length-append (spelling c) (spellings cs) in
    let takes : 0 < length (spelling c) = spelling_takes c in
    let few : length text ≤ 960 = omega (arith, bits, w) in
    let is : message_to n 0 8 text ≡ message = cc in
    let fits : IsText 8 text = (omega arith, omega arith, omega (arith, bits, w), omega (arith, bits)) in
    subst (Whole 0) is (laid n 0 8 text l refl fits (omega (arith, bits, more, takes)) few refl, commands_clean n (c ∷ cs) l k fits)

-- ---- of a text

some_cut : (pair : Pair) (e : Endpoint) (text : ℕ × List Bool) → 0 < text.0 → answer (cut pair (Some e)) ≡ Some text → 0 < length text.1
some_cut pair e text size = go (can_send pair e) refl
  where
    times : (k m a : ℕ) → m ≤ a / k → m * k ≤ a
    times k m a l = omega (arith, mul-le-mul_right k l, div-mul-le_self a k)

    go : (b : Bool) → can_send pair e ≡ b → answer (if b then cut_bits (bytes_to_send e * e.size) e else Stays None) ≡ Some text → 0 < length text.1
    go false b x = absurd (cc x)
    go true b x =
        let same : (e.size, take (bytes_to_send e * e.size) e.stored) ≡ text = cc x in
        let sized : 0 < e.size = subst (λ (t : ℕ × List Bool). 0 < t.0) (sym same) size in
        let bytes : 0 < bytes_to_send e = grind arith in
        let n : ℕ = bytes_to_send e * e.size in
        let held : n ≤ length e.stored = times e.size (bytes_to_send e) (length e.stored) (min-le_left (length e.stored / e.size) (min (e.bits / e.size) (MAX_TEXT / e.size))) in
        let long : length (take n e.stored) ≡ n = length-take-le n e.stored held in
        let some : 0 < n = mul-pos bytes sized in
        subst (λ (t : ℕ × List Bool). 0 < length t.1) same (omega (arith, long, some))

some_text : (on : ℕ) (m : Ends) (text : ℕ × List Bool) → 0 < text.0 → answer (cut_in on m) ≡ Some text → 0 < length text.1
some_text on m text size x = go (sender_on on m) x
  where
    go : (o : Option (Pair × Endpoint)) → answer (cut_at o) ≡ Some text → 0 < length text.1
    go None x = absurd (cc x)
    go (Some q) x = some_cut q.0 q.1 text size x

text_whole : (n on : ℕ) (m : List Bool) (p : Peer) (o : Option (ℕ × List Bool)) → n < 256 → is_one_of on links ≡ true → (on == 0) ≡ false → PeerInvariant p → answer (cut_in on p.ends) ≡ o → text_message n on o ≡ Some m → Whole on m
text_whole n on m p None l u z k g e = absurd (cc)
text_whole n on m p (Some t) l u z k g e =
    let is : message_to n on t.0 t.1 ≡ m = cc in
    let text : IsText t.0 t.1 = cut-written on p.ends t k.good k.well.ends g in
    let most : most_bits on ≡ 7928 = ap (λ (b : Bool). if b then 960 else 7928) z in
    let few : length t.1 ≤ 7928 = text.2 in
    subst (Whole on) is (laid n on t.0 t.1 l u text (some_text on p.ends t text.0 g) (omega (arith, most, few)) (ap (λ (b : Bool). b && not (t.0 == 8)) z), text_clean n on t.0 t.1 l u text z)

made_whole : (n on : ℕ) (m : List Bool) (p : Peer) → n < 256 → is_one_of on links ≡ true → PeerInvariant p → made_on n on p ≡ Some m → Whole on m
made_whole n on m p l u k e = go (on == control_link) refl e
  where
    go : (b : Bool) → (on == control_link) ≡ b → (if b then control_message n (next_commands p.phase.waiting) else text_message n on (answer (cut_in on p.ends))) ≡ Some m → Whole on m
    go true g e = subst (λ (j : ℕ). Whole j m) (sym (eqb-true on 0 g)) (commands_whole n m (next_commands p.phase.waiting) l (weighs MAX_CONTROL p.phase.waiting) (fitting_all MAX_CONTROL p.phase.waiting k.well.waiting) e)
    go false g e = text_whole n on m p (answer (cut_in on p.ends)) l u g k refl e

-- ---- what is kept

-- each message that is kept for a peer is so
abbrev pub AllWhole : PeerState → Type 0
AllWhole s = (on : ℕ) (m : List Bool) → kept_message (slot_at s.slots on) ≡ Some m → Whole on m

pub out_whole : (n : ℕ) (m : List Bool) (s : PeerState) (is : IsOut n m s) → n < 256 → PeerInvariant s.peer → AllWhole s → Whole is.on m
out_whole n m s is l k a = go (slot_at s.slots is.on) refl is.ready
  where
    go : (slot : LinkSlot) → slot_at s.slots is.on ≡ slot → output_by slot n is.on s.peer ≡ Some m → Whole is.on m
    go Empty q e = made_whole n is.on m s.peer l is.a_link k e
    go (Ready x) q e = a is.on m (ap kept_message q ∙ e)
    go (Travelling x) q e = absurd (cc)
    go (Held x) q e = absurd (cc)

woken_kept : (slot : LinkSlot) → kept_message (woken slot) ≡ kept_message slot
woken_kept Empty = refl
woken_kept (Ready m) = refl
woken_kept (Travelling m) = refl
woken_kept (Held m) = refl

answered_kept : (how : Answer) (slot : LinkSlot) (m : List Bool) → kept_message (answered how slot) ≡ Some m → kept_message slot ≡ Some m
answered_kept Rfnm Empty m e = e
answered_kept Rfnm (Ready x) m e = e
answered_kept Rfnm (Travelling x) m e = absurd (cc)
answered_kept Rfnm (Held x) m e = e
answered_kept Incomplete Empty m e = e
answered_kept Incomplete (Ready x) m e = e
answered_kept Incomplete (Travelling x) m e = e
answered_kept Incomplete (Held x) m e = e
answered_kept Dead Empty m e = e
answered_kept Dead (Ready x) m e = e
answered_kept Dead (Travelling x) m e = e
answered_kept Dead (Held x) m e = e

call_whole : (note : HostNote) (s : PeerState) → is_of_call note ≡ true → AllWhole s → AllWhole (note_for note s)
call_whole note s c a on m e = elim (call_leaves note c s on) [
  | inl same ↦ a on m (ap kept_message (sym same) ∙ e)
  | inr woke ↦ a on m (sym (ap kept_message woke ∙ woken_kept (slot_at s.slots on)) ∙ e)
]

goes_whole : (n : ℕ) (m : List Bool) (s : PeerState) → IsOut n m s → n < 256 → PeerInvariant s.peer → AllWhole s → AllWhole (note_for (HostNote.Out m) s)
goes_whole n m s is l k a = subst (λ (r : Result Leader Short). AllWhole (out_for r m s)) (sym is.leader) after
  where
    after : AllWhole (after_output is.on m s)
    after on x e = elim (eqb_tells on is.on) [
      | inl same ↦ here same.1
      | inr other ↦ a on x (ap kept_message (sym (slot_at-with_slot_other s.slots is.on (Travelling m) on other.1)) ∙ e)
    ]
      where
        here : on ≡ is.on → Whole on x
        here same =
            let one : Some m ≡ Some x = sym (ap (λ (j : ℕ). kept_message (slot_at (with_slot s.slots is.on (Travelling m)) j)) same ∙ ap kept_message (slot_at-with_slot_same s.slots is.on (Travelling m))) ∙ e in
            let is_x : m ≡ x = cc in
            subst (λ (j : ℕ). Whole j x) (sym same) (subst (λ (y : List Bool). Whole is.on y) is_x (out_whole n m s is l k a))

pub note_whole : (n : ℕ) (note : HostNote) (s : PeerState) → IsSaidOf n note s → n < 256 → PeerInvariant s.peer → AllWhole s → AllWhole (note_for note s)
note_whole n (HostNote.Out m) s p l k a = goes_whole n m s p l k a
note_whole n HostNote.Nothing s p l k a = a
note_whole n (HostNote.In m received) s p l k a = λ on x e. a on x (ap kept_message (sym (bits_leave (leader_in m) m s on)) ∙ e)
note_whole n (HostNote.Answered peer link how received) s p l k a = λ on x e. elim (eqb_tells on link) [
  | inl same ↦ a on x (subst (λ (j : ℕ). kept_message (slot_at s.slots j) ≡ Some x) (sym same.1)
      (answered_kept how (slot_at s.slots link) x (ap kept_message (sym (answer_here link how s)) ∙ subst (λ (j : ℕ). kept_message (slot_at (answer_comes link how s).slots j) ≡ Some x) same.1 e)))
  | inr other ↦ a on x (ap kept_message (sym (answer_there link on how s other.1)) ∙ e)
]
note_whole n note s p l k a = call_whole note s refl a
