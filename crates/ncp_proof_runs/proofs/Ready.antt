-- The message that is ready on a link: it names the peer and the link in its leader.
use Rattle.std.proofs.Common.{◌≡◌, ℕ, ◌<◌, ◌==◌, nat_lt, Bool, true, false, ◌||◌, if◌then◌else◌, List, [], ◌∷◌, ◌++◌, Option, None, Some, Ok, refl, sym, ap, ◌∙◌, arith}
use Rattle.std.specs.List.{list_all}
use Rattle.std.proofs.lemmas.List.{append_assoc}
use Rattle.std.proofs.lemmas.Bool.{eqb-true, and_parts, ltb-true}
use Rattle.ncp_numbers.specs.Bytes.{bits_of_bytes}
use Rattle.ncp_numbers.specs.Numbers.{bits_of}
use Rattle.ncp_leader.specs.Leader.{leader_in, leader_bits, IsLeader}
use Rattle.ncp_leader.specs.Message.{Message, message_bits, message_with, eight_zeros}
use Rattle.ncp_leader.proofs.Leaders.{leader_in-bits}
use Rattle.ncp_wire.specs.declared.command.Command.{Command}
use Rattle.ncp_wire.specs.Spelling.{spellings}
use Rattle.ncp_slot.specs.declared.slot.Slot.TheVariants.{Empty, Ready, Travelling, Held}
use Rattle.ncp_slot.specs.Slot.{kept_message}
use Rattle.ncp_slot.specs.Slots.{LinkSlot, slot_at}
use Rattle.ncp_model.specs.Effect.{answer}
use Rattle.ncp_model.specs.Ends.{cut_in}
use Rattle.ncp_model.specs.Sending.{next_commands}
use Rattle.ncp_model.specs.Peers.{Peer}
use Rattle.ncp_peer.specs.PeerState.{PeerState, control_link}
use Rattle.ncp_peer.specs.Output.{leader_to, message_to, links, control_message, text_message, made_on, output_by, output_on, first_or, first_output}
use Rattle.ncp_host.specs.Host.{is_one_of}

first_none : (n : ℕ) (s : PeerState) → first_output n [] s ≡ None
unfolding first_output
first_none n s = refl

first_more : (n : ℕ) (s : PeerState) (on : ℕ) (ons : List ℕ) → first_output n (on ∷ ons) s ≡ first_or on (output_on n on s) (first_output n ons s)
unfolding first_output
first_more n s on ons = refl

no_less : {A B : Type 0} {a : A} → None ≡ Some a → B
no_less e = absurd (cc)

same_one : {A : Type 0} {a b : A} → Some a ≡ Some b → a ≡ b
same_one e = cc

no_more : {A B : Type 0} {a : A} → Some a ≡ None → B
no_more e = absurd (cc)

-- the first link on which a message is ready has it
pub first_is : (n : ℕ) (s : PeerState) (ons : List ℕ) (on : ℕ) (message : List Bool) → first_output n ons s ≡ Some (on, message) → (is_one_of on ons ≡ true) × (output_on n on s ≡ Some message)
first_is n s [] on message e = no_less (sym (first_none n s) ∙ e)
first_is n s (k ∷ ons) on message e = go (output_on n k s) refl (first_is n s ons on message)
  where
    told : (o : Option (List Bool)) → output_on n k s ≡ o → first_or k o (first_output n ons s) ≡ Some (on, message)
    told o q = ap (λ x. first_or k x (first_output n ons s)) (sym q) ∙ sym (first_more n s k ons) ∙ e

    go : (o : Option (List Bool)) → output_on n k s ≡ o
        → (first_output n ons s ≡ Some (on, message) → (is_one_of on ons ≡ true) × (output_on n on s ≡ Some message))
        → ((k == on || is_one_of on ons) ≡ true) × (output_on n on s ≡ Some message)
    go None q rest = let r = rest (told None q) in (either (k == on) r.0, r.1)
      where
        either : (b : Bool) → is_one_of on ons ≡ true → (b || is_one_of on ons) ≡ true
        either true h = refl
        either false h = h
    go (Some m) q rest =
        let i = told (Some m) q in
        let both : ◌≡◌ {A = ℕ × List Bool} (k, m) (on, message) = same_one i in
        let link : k ≡ on = ap (λ (x : ℕ × List Bool). x.0) both in
        let text : m ≡ message = ap (λ (x : ℕ × List Bool). x.1) both in
        (let here : (k == on) ≡ true = grind (arith, link) in ap (λ (b : Bool). b || is_one_of on ons) here, ap (λ (j : ℕ). output_on n j s) (sym link) ∙ q ∙ ap (λ (x : List Bool). Some x) text)

-- where there is none, none of them has one
pub none_is : (n : ℕ) (s : PeerState) (ons : List ℕ) (on : ℕ) → first_output n ons s ≡ None → is_one_of on ons ≡ true → output_on n on s ≡ None
none_is n s [] on e h = absurd (cc)
none_is n s (k ∷ ons) on e h = go (output_on n k s) refl (none_is n s ons on)
  where
    told : (o : Option (List Bool)) → output_on n k s ≡ o → first_or k o (first_output n ons s) ≡ None
    told o q = ap (λ x. first_or k x (first_output n ons s)) (sym q) ∙ sym (first_more n s k ons) ∙ e

    by : (b : Bool) → (k == on) ≡ b → (b || is_one_of on ons) ≡ true → output_on n k s ≡ None → (is_one_of on ons ≡ true → output_on n on s ≡ None) → output_on n on s ≡ None
    by true g h q rest = ap (λ (j : ℕ). output_on n j s) (sym (eqb-true k on g)) ∙ q
    by false g h q rest = rest h

    go : (o : Option (List Bool)) → output_on n k s ≡ o → (first_output n ons s ≡ None → is_one_of on ons ≡ true → output_on n on s ≡ None) → output_on n on s ≡ None
    go None q rest = by (k == on) refl h q (rest (told None q))
    go (Some m) q rest = no_more (told (Some m) q)

-- Each link has a place in a leader.

one_small : (ons : List ℕ) (on : ℕ) → list_all (λ k. nat_lt k 256) ons ≡ true → is_one_of on ons ≡ true → on < 256
one_small [] on a h = absurd (cc)
one_small (k ∷ ons) on a h = go (k == on) refl h (one_small ons on (and_parts (nat_lt k 256) (list_all (λ j. nat_lt j 256) ons) a).1)
  where
    small : nat_lt k 256 ≡ true
    small = (and_parts (nat_lt k 256) (list_all (λ j. nat_lt j 256) ons) a).0

    go : (b : Bool) → (k == on) ≡ b → (b || is_one_of on ons) ≡ true → (is_one_of on ons ≡ true → on < 256) → on < 256
    go true g h rest = let same : k ≡ on = eqb-true k on g in let l : k < 256 = ltb-true k 256 small in omega (arith, same, l)
    go false g h rest = rest h

pub link_small : (on : ℕ) → is_one_of on links ≡ true → on < 256
link_small on h = one_small links on refl h

leader_fits : (n on : ℕ) → n < 256 → on < 256 → IsLeader (leader_to n on)
leader_fits n on l k = record { flags = omega arith; kind = omega arith; host = l; link = k; low = omega arith }

leader_then : (m : Message) → message_bits m ≡ leader_bits m.leader ++ (eight_zeros ++ bits_of 8 m.size ++ bits_of 16 m.count ++ eight_zeros ++ m.text)
leader_then m = simp append_assoc refl

to-leader : (n on size : ℕ) (text : List Bool) → n < 256 → on < 256 → leader_in (message_to n on size text) ≡ Ok (leader_to n on)
to-leader n on size text l k =
    let m = message_with (leader_to n on) size text in
    ap leader_in (leader_then m) ∙ leader_in-bits (leader_to n on) (eight_zeros ++ bits_of 8 m.size ++ bits_of 16 m.count ++ eight_zeros ++ m.text) (leader_fits n on l k)

-- every message that is kept names the peer and the link
abbrev pub Addressed : ℕ → PeerState → Type 0
Addressed n s = (on : ℕ) (message : List Bool) → kept_message (slot_at s.slots on) ≡ Some message → leader_in message ≡ Ok (leader_to n on)

made-leader : (n on : ℕ) (p : Peer) (message : List Bool) → n < 256 → on < 256 → made_on n on p ≡ Some message → leader_in message ≡ Ok (leader_to n on)
made-leader n on p message l k e = go (on == control_link) refl e
  where
    commands : (cs : List Command) → on ≡ 0 → control_message n cs ≡ Some message → leader_in message ≡ Ok (leader_to n on)
    commands [] z e = absurd (cc)
    commands (c ∷ cs) z e =
        let same : message_to n 0 8 (bits_of_bytes (spellings (c ∷ cs))) ≡ message = cc in
        ap leader_in (sym same) ∙ to-leader n 0 8 (bits_of_bytes (spellings (c ∷ cs))) l (omega arith) ∙ ap (λ (j : ℕ). Ok (leader_to n j)) (sym z)

    text : (t : Option (ℕ × List Bool)) → text_message n on t ≡ Some message → leader_in message ≡ Ok (leader_to n on)
    text None e = absurd (cc)
    text (Some t) e = let same : message_to n on t.0 t.1 ≡ message = cc in ap leader_in (sym same) ∙ to-leader n on t.0 t.1 l k

    go : (b : Bool) → (on == control_link) ≡ b → (if b then control_message n (next_commands p.phase.waiting) else text_message n on (answer (cut_in on p.ends))) ≡ Some message → leader_in message ≡ Ok (leader_to n on)
    go true g e = commands (next_commands p.phase.waiting) (eqb-true on 0 g) e
    go false g e = text (answer (cut_in on p.ends)) e

pub output-leader : (n on : ℕ) (s : PeerState) (message : List Bool) → n < 256 → on < 256 → Addressed n s → output_on n on s ≡ Some message → leader_in message ≡ Ok (leader_to n on)
output-leader n on s message l k a e = go (slot_at s.slots on) refl e
  where
    go : (slot : LinkSlot) → slot_at s.slots on ≡ slot → output_by slot n on s.peer ≡ Some message → leader_in message ≡ Ok (leader_to n on)
    go Empty q e = made-leader n on s.peer message l k e
    go (Ready m) q e = a on message (ap kept_message q ∙ e)
    go (Travelling m) q e = absurd (cc)
    go (Held m) q e = absurd (cc)
