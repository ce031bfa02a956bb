-- What goes out next is the message on the first link that is ready, to the first peer that has one.
use Rattle.std.proofs.Common.{◌≡◌, ◌⊎◌, ℕ, zero, suc, ◌+◌, ◌*◌, ◌==◌, ◌≤◌, ◌<◌, Bool, true, false, nat_lt, if◌then◌else◌, List, [], ◌∷◌, length, map, Option, None, Some, Result, Ok, Err, inl, inr, refl, sym, ap, ◌∙◌, subst, arith}
use Rattle.std.specs.List.{range_with_len}
use Rattle.std.specs.FinMap.{get}
use Rattle.ncp_leader.specs.declared.leader.Leader.{Leader}
use Rattle.ncp_leader.specs.declared.leader.Short.{Short}
use Rattle.ncp_leader.specs.Leader.{leader_in}
use Rattle.ncp_wire.specs.declared.command.Command.{Command}
use Rattle.ncp_slot.specs.declared.slot.Slot.TheVariants.{Empty, Ready, Travelling, Held}
use Rattle.ncp_slot.specs.Slot.{is_empty}
use Rattle.ncp_slot.specs.Slots.{LinkSlot, HasSlot, slot_at, data_links}
use Rattle.ncp_model.specs.declared.pair.Pair.{Pair}
use Rattle.ncp_model.specs.Endpoint.{Endpoint}
use Rattle.ncp_model.specs.Effect.{answer, Stays}
use Rattle.ncp_model.specs.Texts.{bytes_to_send, can_send, cut_bits}
use Rattle.ncp_model.specs.Ends.{Ends, any, hears_link, sender_on, pair_of, end_of, cut_at, cut_in}
use Rattle.ncp_model.specs.Sending.{next_commands}
use Rattle.ncp_model.specs.Demux.{passes}
use Rattle.ncp_model.proofs.Lookups.{any-none, none-any, leads-there}
use Rattle.ncp_model.proofs.LinksDemux.{led}
use Rattle.ncp_peer.specs.PeerState.{PeerState, new_state, control_link, state_calls, state_calls_echo, state_calls_reset, state_calls_wake}
use Rattle.ncp_peer.specs.Hearing.{is_kind, after_bits}
use Rattle.ncp_peer.specs.Output.{control_message, text_message, output_by, output_on, first_or, first_output, next_of}
use Rattle.ncp_host.specs.Host.{Host, state_of, at_peer}
use Rattle.ncp_host.specs.Arrivals.{after_with, after_from, one_other}
use Rattle.ncp_host.specs.Turns.{message_in_turn, after_turn, first_message, first_goes}
use Rattle.ncp_peer.specs.Readiness.{has_text, is_ready_by, is_link_ready, NoLinkReady, IsFirstLink, IsNext}
use Rattle.ncp_host.specs.Running.{HostStep, Calls, Resets, Echoes, Wakes, Receives, Sends, after_step}
pub use Rattle.ncp_peer.specs.Soundness.{IsWell, AreWell}
use Rattle.ncp_peer.specs.Soundness.{is_end_busy, Agree, IsOut, pair_hears_link}
use Rattle.ncp_host.proofs.Sound.{sound-calls, sound-echo, sound-reset, sound-wakes, sound-bits, sound-output, sound-new}
use Rattle.ncp_host.proofs.Short.{some_go, fit-calls, fit-echo, fit-reset, fit-bits, fit-output, fit-new}
use Rattle.ncp_peer.proofs.Outputs.{first_none, first_more}
use Rattle.ncp_host.proofs.Turns.{message_cons, message_nil, after_cons, after_nil}

abbrev goes : {A : Type 0} → Option A → Bool
goes None = false
goes (Some a) = true

-- On a data link whose slot is empty a text is cut where a connection has text: the end that heard the link
-- is the only one, and no text of it is out.

by_link : (on by : ℕ) (p : Pair) (e : Endpoint) → hears_link on (p, e) ≡ true → hears_link by (p, e) ≡ true → by ≡ on
by_link on by p e h k = grind arith

not_busy : (on : ℕ) (m : Ends) (s : PeerState) (p : Pair) (e : Endpoint) → Agree m s.slots → is_empty (slot_at s.slots on) ≡ true → get m p ≡ Some e → hears_link on (p, e) ≡ true → e.busy ≡ false
not_busy on m s p e a empty g h = go e.busy refl
  where
    go : (b : Bool) → e.busy ≡ b → e.busy ≡ false
    go false k = k
    go true k =
        let o : IsOut m s.slots p = a.out p (ap is_end_busy g ∙ k) in
        let same : o.0 ≡ on = by_link on o.0 p e h (sym (ap (passes (hears_link o.0) p) g) ∙ o.2) in
        let full : is_empty (slot_at s.slots on) ≡ false = subst (λ (y : ℕ). is_empty (slot_at s.slots y) ≡ false) same o.3 in
        absurd (cc (empty, full))

sends_text : (on : ℕ) (p : Pair) (e : Endpoint) → hears_link on (p, e) ≡ true → e.busy ≡ false → can_send p e ≡ has_text on (p, e)
sends_text on p e h b = grind arith

needs_link : (on : ℕ) (p : Pair) (e : Endpoint) → has_text on (p, e) ≡ true → hears_link on (p, e) ≡ true
needs_link on p e h = grind arith

cut_goes : (number on : ℕ) (s : PeerState) → Agree s.peer.ends s.slots → is_empty (slot_at s.slots on) ≡ true → goes (text_message number on (answer (cut_in on s.peer.ends))) ≡ any (has_text on) s.peer.ends
cut_goes number on s a empty = go (sender_on on m) refl
  where
    m : Ends
    m = s.peer.ends

    hears_too : (p : Pair) (o : Option Endpoint) → passes (has_text on) p o ≡ true → passes (hears_link on) p o ≡ true
    hears_too p None h = absurd (cc h)
    hears_too p (Some e) h = needs_link on p e h

    leads : (p : Pair) → pair_hears_link on p m ≡ true → pair_of (sender_on on m) ≡ Some p
    leads p h = leads-there (hears_link on) m p h (λ q k. a.one on q p k h)

    none : (p : Pair) (b : Bool) → passes (has_text on) p (get m p) ≡ b → (b ≡ true → ⊥) → passes (has_text on) p (get m p) ≡ false
    none p true e d = absurd (d refl)
    none p false e d = e

    some : (b : Bool) → any (has_text on) m ≡ b → (p : Pair) → passes (has_text on) p (get m p) ≡ true → any (has_text on) m ≡ true
    some true e p h = e
    some false e p h = let z = any-none (has_text on) m e p in absurd (cc (h, z))

    go : (o : Option (Pair × Endpoint)) → sender_on on m ≡ o → goes (text_message number on (answer (cut_at o))) ≡ any (has_text on) m
    go None e = sym (none-any (has_text on) m (λ p. none p (passes (has_text on) p (get m p)) refl (λ t. nobody p t)))
      where
        nobody : (p : Pair) → passes (has_text on) p (get m p) ≡ true → ⊥
        nobody p t = let l = leads p (hears_too p (get m p) t) in absurd (cc (e, l))
    go (Some q) e = by_test (has_text on q) refl
      where
        found : (get m q.0 ≡ end_of (sender_on on m)) × (pair_hears_link on q.0 m ≡ true)
        found = led (hears_link on) m q.0 (ap pair_of e)

        there : get m q.0 ≡ Some q.1
        there = found.0 ∙ ap end_of e

        link : hears_link on q ≡ true
        link = sym (ap (passes (hears_link on) q.0) there) ∙ found.1

        may : can_send q.0 q.1 ≡ has_text on q
        may = sends_text on q.0 q.1 link (not_busy on m s q.0 q.1 a empty there link)

        by_test : (b : Bool) → has_text on q ≡ b → goes (text_message number on (answer (if can_send q.0 q.1 then cut_bits (bytes_to_send q.1 * q.1.size) q.1 else Stays None))) ≡ any (has_text on) m
        by_test true t =
            ap (λ b. goes (text_message number on (answer (if b then cut_bits (bytes_to_send q.1 * q.1.size) q.1 else Stays None)))) (may ∙ t)
            ∙ sym (some (any (has_text on) m) refl q.0 (ap (passes (has_text on) q.0) there ∙ t))
        by_test false t =
            ap (λ b. goes (text_message number on (answer (if b then cut_bits (bytes_to_send q.1 * q.1.size) q.1 else Stays None)))) (may ∙ t)
            ∙ sym (none-any (has_text on) m (λ p. none p (passes (has_text on) p (get m p)) refl (λ h. nobody p h)))
          where
            nobody : (p : Pair) → passes (has_text on) p (get m p) ≡ true → ⊥
            nobody p h =
                let same : p ≡ q.0 = a.one on p q.0 (hears_too p (get m p) h) found.1 in
                let has : passes (has_text on) q.0 (get m q.0) ≡ true = subst (λ (y : Pair). passes (has_text on) y (get m y) ≡ true) same h in
                let has_not : passes (has_text on) q.0 (get m q.0) ≡ false = ap (passes (has_text on) q.0) there ∙ t in
                absurd (cc (has, has_not))

says : (number : ℕ) (cs : List Command) → goes (control_message number cs) ≡ nat_lt 0 (length cs)
says number [] = refl
says number (c ∷ cs) = grind arith

-- a message goes out on a link where the link is ready
pub goes_where_ready : (number on : ℕ) (s : PeerState) → IsWell s → goes (output_on number on s) ≡ is_link_ready on s
goes_where_ready number on s h = go (slot_at s.slots on) refl
  where
    new : (b : Bool) → is_empty (slot_at s.slots on) ≡ true → goes (if b then control_message number (next_commands s.peer.phase.waiting) else text_message number on (answer (cut_in on s.peer.ends))) ≡ (if b then nat_lt 0 (length s.peer.phase.waiting) else any (has_text on) s.peer.ends)
    new true e = says number (next_commands s.peer.phase.waiting) ∙ some_go s.peer.phase.waiting h.1
    new false e = cut_goes number on s h.0.ends e

    go : (slot : LinkSlot) → slot_at s.slots on ≡ slot → goes (output_by slot number on s.peer) ≡ is_ready_by slot on s.peer
    go Empty e = new (on == control_link) (ap is_empty e)
    go (Ready m) e = refl
    go (Travelling m) e = refl
    go (Held m) e = refl

-- The links in their order.

module _ (number : ℕ) (s : PeerState) (h : IsWell s) where
  silent : (on : ℕ) → output_on number on s ≡ None → is_link_ready on s ≡ false
  silent on e = sym (goes_where_ready number on s h) ∙ ap goes e

  speaks : (on : ℕ) (message : List Bool) → output_on number on s ≡ Some message → is_link_ready on s ≡ true
  speaks on message e = sym (goes_where_ready number on s h) ∙ ap goes e

  -- from a link on, so many of them
  abbrev Silent : ℕ → ℕ → Type 0
  Silent from many = (on : ℕ) → from ≤ on → on < from + many → is_link_ready on s ≡ false

  record FirstOf (from many on : ℕ) (message : List Bool) : Type 0 where
    least : from ≤ on
    below : on < from + many
    said : output_on number on s ≡ Some message
    before : (lower : ℕ) → from ≤ lower → lower < on → is_link_ready lower s ≡ false

  abbrev FirstIn : ℕ → ℕ → Option (ℕ × List Bool) → Type 0
  FirstIn from many None = Silent from many
  FirstIn from many (Some out) = FirstOf from many out.0 out.1

  here_or_above : (from on : ℕ) → from ≤ on → (from ≡ on) ⊎ (from + 1 ≤ on)
  here_or_above from on l = go (from == on) refl
    where
      go : (b : Bool) → (from == on) ≡ b → (from ≡ on) ⊎ (from + 1 ≤ on)
      go true e = inl (grind arith)
      go false e = inr (grind arith)

  in_range : (many from : ℕ) → FirstIn from many (first_output number (range_with_len from many) s)
  in_range zero from = subst (FirstIn from zero) (sym (first_none number s)) (λ on l b. absurd (omega arith))
  in_range (suc many) from = subst (FirstIn from (suc many)) (sym (first_more number s from (range_with_len (from + 1) many))) (go (output_on number from s) refl (first_output number (range_with_len (from + 1) many) s) (in_range many (from + 1)))
    where
      go : (o : Option (List Bool)) → output_on number from s ≡ o → (rest : Option (ℕ × List Bool)) → FirstIn (from + 1) many rest → FirstIn from (suc many) (first_or from o rest)
      go (Some message) e rest r = record { least = omega arith; below = omega arith; said = e; before = λ lower l b. absurd (omega arith) }
      go None e None r = (λ on l b. elim (here_or_above from on l) [ inl same ↦ subst (λ (y : ℕ). is_link_ready y s ≡ false) same (silent from e) | inr above ↦ r on above (omega arith) ])
      go None e (Some out) r =
          let least = r.least in
          let below = r.below in
          record {
            least = omega arith;
            below = omega arith;
            said = r.said;
            before = λ lower l b. elim (here_or_above from lower l) [ inl same ↦ subst (λ (y : ℕ). is_link_ready y s ≡ false) same (silent from e) | inr above ↦ r.before lower above b ];
          }

  abbrev NextTo : Option (ℕ × List Bool) → Type 0
  NextTo None = NoLinkReady s
  NextTo (Some out) = IsFirstLink out.0 s × (output_on number out.0 s ≡ Some out.1)

  control_or_data : (on : ℕ) → HasSlot on → (0 ≡ on) ⊎ ((2 ≤ on) × (on < 72))
  control_or_data on has = go (0 == on) refl (1 == on) refl
    where
      go : (b : Bool) → (0 == on) ≡ b → (c : Bool) → (1 == on) ≡ c → (0 ≡ on) ⊎ ((2 ≤ on) × (on < 72))
      go true e c f = inl (grind arith)
      go false e true f = absurd (has.0 (grind arith))
      go false e false f = let l = has.1 in inr (grind arith, grind arith)

  next_to : NextTo (next_of number s)
  next_to = subst NextTo (sym (first_more number s 0 data_links)) (go (output_on number 0 s) refl (first_output number data_links s) (in_range 70 2))
    where
      go : (o : Option (List Bool)) → output_on number 0 s ≡ o → (rest : Option (ℕ × List Bool)) → FirstIn 2 70 rest → NextTo (first_or 0 o rest)
      go (Some message) e rest r = (record { link = (λ z. absurd (cc z), omega arith); ready = speaks 0 message e; first = λ lower b has. absurd (omega arith) }, e)
      go None e None r = (λ on has. elim (control_or_data on has) [ inl same ↦ subst (λ (y : ℕ). is_link_ready y s ≡ false) same (silent 0 e) | inr l ↦ r on l.0 l.1 ])
      go None e (Some out) r =
          let least = r.least in
          let below = r.below in (
            record {
              link = (λ z. absurd (omega arith), omega arith);
              ready = speaks out.0 out.1 r.said;
              first = λ lower b has. elim (control_or_data lower has) [ inl same ↦ subst (λ (y : ℕ). is_link_ready y s ≡ false) same (silent 0 e) | inr l ↦ r.before lower l.0 b ];
            },
            r.said,
          )

-- The peers in their order.

pub is_next : (ps : List (ℕ × PeerState)) → AreWell ps → IsNext (message_in_turn ps) ps
is_next [] h = subst (λ (o : Option (List Bool)). IsNext o []) (sym message_nil) tt
is_next (p ∷ ps) h = subst (λ (o : Option (List Bool)). IsNext o (p ∷ ps)) (sym (message_cons p ps)) (go (next_of p.0 p.1) (next_to p.0 p.1 h.0) (message_in_turn ps) (is_next ps h.1))
  where
    go : (o : Option (ℕ × List Bool)) → NextTo p.0 p.1 h.0 o → (rest : Option (List Bool)) → IsNext rest ps → IsNext (first_message o rest) (p ∷ ps)
    go None n None r = (n, r)
    go None n (Some message) r = inr (n, r)
    go (Some out) n rest r = inl (out.0, n.0, n.1)

-- Each step of a host leaves it so.

changed-well : (ps : List (ℕ × PeerState)) (number : ℕ) (f : PeerState → PeerState) → ((s : PeerState) → IsWell s → IsWell (f s)) → AreWell ps → AreWell (at_peer number f ps)
changed-well [] number f k h = tt
changed-well (p ∷ ps) number f k h = go (p.0 == number) (changed-well ps number f k h.1)
  where
    go : (b : Bool) → AreWell (at_peer number f ps) → AreWell (if b then (p.0, f p.1) ∷ ps else p ∷ at_peer number f ps)
    go true r = (k p.1 h.0, h.1)
    go false r = (h.0, r)

turn-well : (ps : List (ℕ × PeerState)) → AreWell ps → AreWell (after_turn ps)
turn-well [] h = subst AreWell (sym after_nil) tt
turn-well (p ∷ ps) h = subst AreWell (sym (after_cons p ps)) (go (next_of p.0 p.1) (turn-well ps h.1))
  where
    go : (o : Option (ℕ × List Bool)) → AreWell (after_turn ps) → AreWell (first_goes o p ps (after_turn ps))
    go None r = (h.0, r)
    go (Some out) r = ((sound-output out.0 out.1 p.1 h.0.0, fit-output out.0 out.1 p.1 h.0.1), h.1)

received-well : (leader : Result Leader Short) (bits : List Bool) (h : Host) → AreWell h.peers → AreWell (after_with leader bits h).peers
received-well (Err short) bits h s = s
received-well (Ok leader) bits h s = go (is_kind leader.kind) (state_of h leader.host)
  where
    go : (b : Bool) (o : Option PeerState) → AreWell (if b then after_from o leader bits h else one_other h).peers
    go true None = s
    go true (Some x) = changed-well h.peers leader.host (after_bits leader bits) (λ x k. (sound-bits leader bits x k.0, fit-bits leader bits x k.1)) s
    go false o = s

pub step-well : (step : HostStep) (h : Host) → AreWell h.peers → AreWell (after_step step h).peers
step-well (Calls number pair call) h s = changed-well h.peers number (state_calls pair call) (λ x k. (sound-calls pair call x.peer x.slots k.0, fit-calls pair call x.peer k.1)) s
step-well (Resets number) h s = changed-well h.peers number state_calls_reset (λ x k. (sound-reset _ x.peer x.slots k.0, fit-reset _ x.peer k.1)) s
step-well (Echoes number byte) h s = changed-well h.peers number (state_calls_echo byte) (λ x k. (sound-echo byte x.peer x.slots k.0, fit-echo byte x.peer k.1)) s
step-well (Wakes number) h s = changed-well h.peers number state_calls_wake (λ x k. (sound-wakes x k.0, k.1)) s
step-well (Receives bits) h s = received-well (leader_in bits) bits h s
step-well Sends h s = turn-well h.peers s

pub new-well : (ns : List ℕ) → AreWell (map (λ n. (n, new_state)) ns)
new-well [] = tt
new-well (n ∷ ns) = ((sound-new, fit-new), new-well ns)
