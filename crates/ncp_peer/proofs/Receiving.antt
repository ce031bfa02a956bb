-- What a message does, from what its parts did.
use Rattle.std.proofs.Common.{◌≡◌, ◌≢◌, ◌⊎◌, inl, inr, ℕ, ◌<◌, ◌≤◌, ◌==◌, Bool, true, false, if◌then◌else◌, List, take, Ok, sym, ap, ◌∙◌, arith}
use Rattle.ncp_numbers.specs.Bytes.{bytes_of}
use Rattle.ncp_leader.specs.Message.{Message}
use Rattle.ncp_control.specs.Texts.{items_of}
use Rattle.ncp_control.specs.Reading.{commands_in, fault_in}
use Rattle.ncp_slot.specs.Slots.{is_quiet}
use Rattle.ncp_model.specs.declared.outcomes.Took.{Took}
use Rattle.ncp_model.specs.Effect.{answer}
use Rattle.ncp_model.specs.Ends.{text_in}
use Rattle.ncp_model.specs.Phase.{up}
use Rattle.ncp_model.specs.Peers.{Peer, takes_text}
use Rattle.ncp_peer.specs.declared.counts.Counts.{Counts}
use Rattle.ncp_peer.specs.declared.received.Received.TheVariants as received
use Rattle.ncp_peer.specs.PeerState.{PeerState}
use Rattle.ncp_peer.specs.Hearing.{state_after_control, control_received, state_after_text, text_received, took, message_after, message_received, state_hears_text, is_wrong_link}
use Rattle.ncp_peer.specs.Counting.{one_more, counts_of_text}
use Rattle.ncp_peer.specs.Steps.{heard_items}
use Rattle.ncp_peer.proofs.Hearing.{text_heard}

eq_yes : (a b : ℕ) → a ≡ b → (a == b) ≡ true
eq_yes a b e = grind arith

eq_no : (a b : ℕ) → a ≢ b → (a == b) ≡ false
eq_no a b e = grind arith

pub control_heard : (m : Message) (p s : PeerState) (quiet : Bool) (text : List Bool) (k : Peer) (cs : Counts)
    → s ≡ p → m.size ≡ 8 → quiet ≡ is_quiet s.slots → text ≡ m.text
    → k ≡ (heard_items quiet (items_of (commands_in (bytes_of text)) (fault_in (bytes_of text))) (s.peer, s.counts)).0
    → cs ≡ (heard_items quiet (items_of (commands_in (bytes_of text)) (fault_in (bytes_of text))) (s.peer, s.counts)).1
    → record s { peer = k; counts = cs } ≡ state_after_control m p
control_heard m p s quiet text k cs is size q t peer counts =
    let heard : Bool → List Bool → Peer × Counts = λ b x. heard_items b (items_of (commands_in (bytes_of x)) (fault_in (bytes_of x))) (s.peer, s.counts) in
    let other : PeerState = record s { counts = record s.counts { wrong_size = one_more s.counts.wrong_size } } in
    ap (λ (x : Peer). record s { peer = x; counts = cs }) peer
    ∙ ap (λ (x : Counts). record s { peer = (heard quiet text).0; counts = x }) counts
    ∙ ap (λ (b : Bool). record s { peer = (heard b text).0; counts = (heard b text).1 }) q
    ∙ ap (λ (x : List Bool). record s { peer = (heard (is_quiet s.slots) x).0; counts = (heard (is_quiet s.slots) x).1 }) t
    ∙ text_heard (commands_in (bytes_of m.text)) (fault_in (bytes_of m.text)) s
    ∙ ap (λ (b : Bool). if b then state_hears_text (commands_in (bytes_of m.text)) (fault_in (bytes_of m.text)) s else other) (sym (eq_yes m.size 8 size))
    ∙ ap (λ (x : PeerState). state_after_control m x) is

right : (on : ℕ) → on ≢ 1 → on ≤ 71 → is_wrong_link on ≡ false
right on a b = grind arith

wrong : (on : ℕ) → (on ≡ 1) ⊎ ((on ≢ 1) × (71 < on)) → is_wrong_link on ≡ true
wrong on w = elim w [
  | inl e ↦ grind (arith, e)
  | inr h ↦ grind (arith, h.1)
]

-- a message on a link that carries nothing, and one on the control link
module _ (on : ℕ) (bits : List Bool) (m : Message) (s : PeerState) where
  abbrev if_right : Bool → PeerState
  if_right t = if t then record s { counts = record s.counts { wrong_link = one_more s.counts.wrong_link } } else (if on == 0 then state_after_control m s else state_after_text on (take 72 bits) m s)

  pub wrong_received : (on ≡ 1) ⊎ ((on ≢ 1) × (71 < on)) → received.WrongLink ≡ message_received on (Ok m) s
  wrong_received w = sym (ap (λ t. if t then received.WrongLink else (if on == 0 then control_received m else text_received on m s)) (wrong on w))

  pub wrong_heard : (n : ℕ) → (on ≡ 1) ⊎ ((on ≢ 1) × (71 < on)) → n ≡ one_more s.counts.wrong_link → record s { counts = record s.counts { wrong_link = n } } ≡ message_after on bits (Ok m) s
  wrong_heard n w e = ap (λ k. record s { counts = record s.counts { wrong_link = k } }) e ∙ sym (ap if_right (wrong on w))

  pub control_told : on ≢ 1 → on ≤ 71 → on ≡ 0 → state_after_control m s ≡ message_after on bits (Ok m) s
  control_told a b z = sym (ap (λ (t : Bool). if t then state_after_control m s else state_after_text on (take 72 bits) m s) (eq_yes on 0 z)) ∙ sym (ap if_right (right on a b))

  pub text_is_returned : on ≢ 1 → on ≤ 71 → on ≢ 0 → text_received on m s ≡ message_received on (Ok m) s
  text_is_returned a b z =
      sym (ap (λ (t : Bool). if t then control_received m else text_received on m s) (eq_no on 0 z))
      ∙ sym (ap (λ t. if t then received.WrongLink else (if on == 0 then control_received m else text_received on m s)) (right on a b))

pub text_told : (on : ℕ) (bits head : List Bool) (m : Message) (s : PeerState)
    → on ≢ 1 → on ≤ 71 → on ≢ 0 → head ≡ take 72 bits → state_after_text on head m s ≡ message_after on bits (Ok m) s
text_told on bits head m s a b z h =
    let wrong : PeerState = record s { counts = record s.counts { wrong_link = one_more s.counts.wrong_link } } in
    let text : PeerState = state_after_text on (take 72 bits) m s in
    ap (λ (x : List Bool). state_after_text on x m s) h
    ∙ ap (λ (t : Bool). if t then state_after_control m s else text) (sym (eq_no on 0 z))
    ∙ ap (λ (t : Bool). if t then wrong else (if on == 0 then state_after_control m s else text)) (sym (right on a b))

-- a text on a data link, while down and while up
module _ (on : ℕ) (head : List Bool) (m : Message) (s : PeerState) where
  abbrev text_counts : Bool → Counts
  text_counts b = if b then counts_of_text (took on m s) s.counts else record s.counts { not_up = one_more s.counts.not_up }

  abbrev text_peer : Bool → Peer
  text_peer b = if b then takes_text on head m.size m.text s.peer else s.peer

  pub down_received : up s.peer.phase ≡ false → received.NotUp ≡ text_received on m s
  down_received u = sym (ap (λ b. if b then received.Text (took on m s) else received.NotUp) u)

  pub down_heard : (n : ℕ) → up s.peer.phase ≡ false → n ≡ one_more s.counts.not_up → record s { counts = record s.counts { not_up = n } } ≡ state_after_text on head m s
  down_heard n u e = ap (λ k. record s { counts = record s.counts { not_up = k } }) e ∙ sym (ap (λ b. record s { peer = text_peer b; counts = text_counts b }) u)

  module _ (size : ℕ) (text : List Bool) (t : Took) (u : up s.peer.phase ≡ true) (of_size : size ≡ m.size) (of_text : text ≡ m.text) (told : t ≡ answer (text_in on size text s.peer.ends)) where
    is_took : t ≡ took on m s
    is_took = told ∙ ap (λ k. answer (text_in on k text s.peer.ends)) of_size ∙ ap (λ x. answer (text_in on m.size x s.peer.ends)) of_text

    pub up_received : received.Text t ≡ text_received on m s
    up_received = ap received.Text is_took ∙ sym (ap (λ b. if b then received.Text (took on m s) else received.NotUp) u)

    pub up_heard : (p : Peer) (cs : Counts) → p ≡ takes_text on head size text s.peer → cs ≡ counts_of_text t s.counts → record s { peer = p; counts = cs } ≡ state_after_text on head m s
    up_heard p cs peer counts =
        ap (λ (x : Counts). record s { peer = p; counts = x }) (counts ∙ ap (λ k. counts_of_text k s.counts) is_took)
        ∙ ap (λ (x : Peer). record s { peer = x; counts = text_counts true }) (peer ∙ ap (λ k. takes_text on head k text s.peer) of_size ∙ ap (λ x. takes_text on head m.size x s.peer) of_text)
        ∙ sym (ap (λ b. record s { peer = text_peer b; counts = text_counts b }) u)
