-- Each message sent takes one of the links on which a host may send.
use Rattle.std.proofs.Common.{◌≡◌, ◌≢◌, ℕ, ◌+◌, ◌<◌, ◌≤◌, ◌==◌, Bool, true, false, cond, List, [], ◌∷◌, Option, None, Some, refl, sym, ap, ◌∙◌, subst, arith}
use Rattle.std.specs.List.{count_by}
use Rattle.std.proofs.lemmas.List.Sums.{sum_by-cons}
use Rattle.ncp_slot.specs.declared.slot.Slot.TheVariants.{Empty, Ready, Travelling, Held}
use Rattle.ncp_slot.specs.Slots.{LinkSlot, slot_at}
use Rattle.ncp_slot.proofs.Places.{slot_at-with_slot_same, slot_at-with_slot_other}
use Rattle.ncp_peer.specs.PeerState.{PeerState}
use Rattle.ncp_peer.specs.Output.{links, output_by, output_on, first_or, first_output, next_of, after_output}
use Rattle.ncp_host.specs.Host.{Host}
use Rattle.ncp_host.specs.Turns.{first_message, message_in_turn, after_turn, next_output, after_next_output}
use Rattle.ncp_peer.proofs.Outputs.{first_none, first_more}
use Rattle.ncp_host.proofs.Turns.{message_cons, message_nil, after_cons}
use Rattle.ncp_play_feed.specs.Going.{may_go, link_goes_on, links_to_peers, open_links}

-- ---- counts

abbrev one : Bool → ℕ
one b = cond b 1 0

count_cons : (p : ℕ → Bool) (n : ℕ) (ns : List ℕ) → count_by p (n ∷ ns) ≡ one (p n) + count_by p ns
count_cons p n ns = sum_by-cons (λ k. one (p k)) n ns

one_less : (a b : Bool) → (b ≡ true → a ≡ true) → one b ≤ one a
one_less true false h = omega arith
one_less false false h = omega arith
one_less true true h = omega arith
one_less false true h = let e : ⊥ = cc (h refl) in absurd e

-- a number that passes the second test passes the first
no_more : (p q : ℕ → Bool) → ((n : ℕ) → q n ≡ true → p n ≡ true) → (ns : List ℕ) → count_by q ns ≤ count_by p ns
no_more p q h [] = omega arith
no_more p q h (n ∷ ns) =
    let here = one_less (p n) (q n) (h n) in
    let rest = no_more p q h ns in
    rw (count_cons p n ns, count_cons q n ns) (omega arith)

-- ---- one peer

module _ (number : ℕ) (s : PeerState) where
  -- a link on which a message was sent
  gone : (on : ℕ) (message : List Bool) → link_goes_on (after_output on message s) on ≡ false
  gone on message = ap may_go (slot_at-with_slot_same s.slots on (Travelling message))

  -- no link becomes free
  stays : (on : ℕ) (message : List Bool) (link : ℕ) → link_goes_on (after_output on message s) link ≡ true → link_goes_on s link ≡ true
  stays on message link h = go (link == on) refl
    where
      go : (b : Bool) → (link == on) ≡ b → link_goes_on s link ≡ true
      go true e =
          let same : link ≡ on = grind arith in
          let no : link_goes_on (after_output on message s) link ≡ false = subst (λ (l : ℕ). link_goes_on (after_output on message s) l ≡ false) (sym same) (gone on message) in
          absurd (cc (h, no))
      go false e =
          let other : link ≢ on = grind arith in
          sym (ap may_go (slot_at-with_slot_other s.slots on (Travelling message) link other)) ∙ h

  -- a message is sent only on a link that may send
  may : (on : ℕ) (message : List Bool) → output_on number on s ≡ Some message → link_goes_on s on ≡ true
  may on message h = go (slot_at s.slots on) refl
    where
      go : (slot : LinkSlot) → slot_at s.slots on ≡ slot → link_goes_on s on ≡ true
      go Empty e = ap may_go e
      go (Ready m) e = ap may_go e
      go (Travelling m) e =
          let none : output_on number on s ≡ None = ap (λ (x : LinkSlot). output_by x number on s.peer) e in
          absurd (cc (h, none))
      go (Held m) e =
          let none : output_on number on s ≡ None = ap (λ (x : LinkSlot). output_by x number on s.peer) e in
          absurd (cc (h, none))

  abbrev Fewer : List ℕ → ℕ × List Bool → Type 0
  Fewer ons out = count_by (link_goes_on (after_output out.0 out.1 s)) ons < count_by (link_goes_on s) ons

  fewer_in : (ons : List ℕ) (out : ℕ × List Bool) → first_output number ons s ≡ Some out → Fewer ons out
  fewer_in [] out h = let e : ◌≡◌ {A = Option (ℕ × List Bool)} None (Some out) = sym (first_none number s) ∙ h in absurd (cc e)
  fewer_in (on ∷ ons) out h = go (output_on number on s) refl (fewer_in ons out)
    where
      first : (o : Option (List Bool)) → output_on number on s ≡ o → first_or on o (first_output number ons s) ≡ Some out
      first o e = ap (λ x. first_or on x (first_output number ons s)) (sym e) ∙ sym (first_more number s on ons) ∙ h

      go : (o : Option (List Bool)) → output_on number on s ≡ o → (first_output number ons s ≡ Some out → Fewer ons out) → Fewer (on ∷ ons) out
      go None e behind =
          let rest = behind (first None e) in
          let here = one_less (link_goes_on s on) (link_goes_on (after_output out.0 out.1 s) on) (stays out.0 out.1 on) in
          rw (count_cons (link_goes_on s) on ons, count_cons (link_goes_on (after_output out.0 out.1 s)) on ons) (omega arith)
      go (Some message) e behind =
          let same : (on, message) ≡ out = let f = first (Some message) e in cc f in
          subst (Fewer (on ∷ ons)) same (
          let rest = no_more (link_goes_on s) (link_goes_on (after_output on message s)) (stays on message) ons in
          rw (count_cons (link_goes_on s) on ons, count_cons (link_goes_on (after_output on message s)) on ons, gone on message, may on message e) (omega arith))

-- ---- all peers

fewer_to : (ps : List (ℕ × PeerState)) (message : List Bool) → message_in_turn ps ≡ Some message → links_to_peers (after_turn ps) < links_to_peers ps
fewer_to [] message h = let e : ◌≡◌ {A = Option (List Bool)} None (Some message) = sym message_nil ∙ h in absurd (cc e)
fewer_to (p ∷ ps) message h = go (next_of p.0 p.1) refl (fewer_to ps message)
  where
    go : (o : Option (ℕ × List Bool)) → next_of p.0 p.1 ≡ o → (message_in_turn ps ≡ Some message → links_to_peers (after_turn ps) < links_to_peers ps) → links_to_peers (after_turn (p ∷ ps)) < links_to_peers (p ∷ ps)
    go None e behind =
        let rest : message_in_turn ps ≡ Some message = sym (message_cons p ps ∙ ap (λ o. first_message o (message_in_turn ps)) e) ∙ h in
        let less = behind rest in
        rw (after_cons p ps, e) (omega arith)
    go (Some out) e behind =
        let less = fewer_in p.0 p.1 links out e in
        rw (after_cons p ps, e) (omega arith)

pub fewer_links : (h : Host) (message : List Bool) → next_output h ≡ Some message → open_links (after_next_output h) < open_links h
fewer_links h message e = fewer_to h.peers message e
