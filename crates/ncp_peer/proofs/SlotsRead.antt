-- Slots that are read link by link.
use Rattle.std.proofs.Common.{◌≡◌, ◌⊎◌, inl, inr, ℕ, ◌+◌, ◌-◌, ◌<◌, ◌≤◌, ◌==◌, Bool, false, nat_lt, if◌then◌else◌, List, [], ◌∷◌, ◌++◌, length, refl, sym, ap, ap₂, ◌∙◌, arith}
use Rattle.std.specs.List.{range_with_len}
use Rattle.std.proofs.lemmas.List.{append_assoc}
use Rattle.std.proofs.lemmas.Bool.{cases_lt}
use Rattle.ncp_wire.specs.declared.answer.Answer.TheVariants.{Dead}
use Rattle.ncp_slot.specs.declared.slot.Slot.TheVariants.{Empty, Ready, Travelling, Held}
use Rattle.ncp_slot.specs.Slot.{put_in, handed_out, answered}
use Rattle.ncp_slot.specs.Slots.{LinkSlot, LinkSlots, HasSlot, OtherSlotsStay, slot_at, data_links}
use Rattle.ncp_saved.specs.Values.{bits_saved}
use Rattle.ncp_peer.specs.SavedPeer.{slot_saved, slots_on, slots_saved}
use Rattle.ncp_peer.specs.Loading.{IsSmall}
use Rattle.ncp_peer.proofs.SlotRows.{cut_range}

-- what a kind makes of a slot
abbrev pub sent_if : ℕ → LinkSlot → LinkSlot
sent_if kind slot = if nat_lt 1 kind then handed_out slot else slot

abbrev pub held_if : ℕ → LinkSlot → LinkSlot
held_if kind slot = if kind == 3 then answered Dead slot else slot

-- a slot with a message: its kind, and the message
pub record IsFull (slot : LinkSlot) (bytes rest : List ℕ) : Type 0 where
  pub kind : ℕ
  pub message : List Bool
  pub are : bytes ≡ (kind ∷ []) ++ (bits_saved message ++ rest)
  pub small : length message ≤ 8192
  pub some : (kind == 0) ≡ false
  pub made : held_if kind (sent_if kind (put_in message Empty)) ≡ slot

abbrev pub Slotted : LinkSlot → List ℕ → List ℕ → Type 0
Slotted slot bytes rest = ((slot ≡ Empty) × (bytes ≡ (0 ∷ []) ++ rest)) ⊎ IsFull slot bytes rest

pub which_slot : (slot : LinkSlot) (bytes rest : List ℕ) → IsSmall slot → bytes ≡ slot_saved slot ++ rest → Slotted slot bytes rest
unfolding slot_saved
which_slot Empty bytes rest small e = inl (refl, e)
which_slot (Ready m) bytes rest small e = inr (record { kind = 1; message = m; are = e; small = small; some = refl; made = refl })
which_slot (Travelling m) bytes rest small e = inr (record { kind = 2; message = m; are = e; small = small; some = refl; made = refl })
which_slot (Held m) bytes rest small e = inr (record { kind = 3; message = m; are = e; small = small; some = refl; made = refl })

-- the slot after the three steps
pub steps_make : (slot s0 s1 s2 s3 : LinkSlot) (kind k : ℕ) (read m : List Bool) → s0 ≡ Empty → s1 ≡ put_in read s0 → s2 ≡ sent_if kind s1 → s3 ≡ held_if kind s2 → kind ≡ k → read ≡ m → held_if k (sent_if k (put_in m Empty)) ≡ slot → s3 ≡ slot
steps_make slot s0 s1 s2 s3 kind k read m e0 e1 e2 e3 same_kind same made =
    e3
    ∙ ap (held_if kind) (e2 ∙ ap (sent_if kind) (e1 ∙ ap (put_in read) e0))
    ∙ ap₂ (λ (n : ℕ) (bits : List Bool). held_if n (sent_if n (put_in bits Empty))) same_kind same
    ∙ made

pub others_after : (a b c d : LinkSlots) (link : ℕ) → OtherSlotsStay a b link → OtherSlotsStay b c link → OtherSlotsStay c d link → OtherSlotsStay a d link
others_after a b c d link one two three = λ other ne. three other ne ∙ two other ne ∙ one other ne

-- the slots of the links below one are read
pub record SlotsRead (all : LinkSlots) (rest : List ℕ) (link : ℕ) (now : List ℕ) (slots : LinkSlots) : Type 0 where
  pub bytes : now ≡ slots_on (range_with_len link (72 - link)) all ++ rest
  pub before : (on : ℕ) → HasSlot on → on < link → slot_at slots on ≡ slot_at all on
  pub behind : (on : ℕ) → link ≤ on → slot_at slots on ≡ Empty

-- the slot of link 0 is first
pub first_slot : (all : LinkSlots) (rest now : List ℕ) → now ≡ slots_saved all ++ rest → now ≡ slot_saved (slot_at all 0) ++ (slots_on data_links all ++ rest)
first_slot all rest now e = e ∙ append_assoc (slot_saved (slot_at all 0)) (slots_on data_links all) rest

pub first_read : (all old slots : LinkSlots) (rest now : List ℕ) → now ≡ slots_on data_links all ++ rest → ((on : ℕ) → slot_at old on ≡ Empty) → slot_at slots 0 ≡ slot_at all 0 → OtherSlotsStay old slots 0 → SlotsRead all rest 2 now slots
first_read all old slots rest now e empty here others = record {
  bytes = e;
  before = λ on has below. let zero : on ≡ 0 = (let ne = has.0 in omega (arith, below, ne)) in ap (slot_at slots) zero ∙ here ∙ ap (slot_at all) (sym zero);
  behind = λ on above. others on (λ z. absurd (omega (arith, above, z))) ∙ empty on;
}

pub next_slot : (all slots : LinkSlots) (rest now : List ℕ) (link : ℕ) → link < 72 → SlotsRead all rest link now slots → now ≡ slot_saved (slot_at all link) ++ (slots_on (range_with_len (link + 1) (72 - (link + 1))) all ++ rest)
next_slot all slots rest now link below read =
    read.bytes
    ∙ ap (λ (ons : List ℕ). slots_on ons all ++ rest) (cut_range link below)
    ∙ append_assoc (slot_saved (slot_at all link)) (slots_on (range_with_len (link + 1) (72 - (link + 1))) all) rest

pub next_read : (all slots after : LinkSlots) (rest now left : List ℕ) (link : ℕ) → SlotsRead all rest link now slots → slot_at after link ≡ slot_at all link → OtherSlotsStay slots after link → left ≡ slots_on (range_with_len (link + 1) (72 - (link + 1))) all ++ rest → SlotsRead all rest (link + 1) left after
next_read all slots after rest now left link read here others e = record {
  bytes = e;
  before = λ on has below. elim (cases_lt on link) [
    | inl lower ↦ others on (λ z. absurd (omega (arith, lower, z))) ∙ read.before on has lower
    | inr up ↦ let same : on ≡ link = omega (arith, below, up) in ap (slot_at after) same ∙ here ∙ ap (slot_at all) (sym same)
  ];
  behind = λ on above. others on (λ z. absurd (omega (arith, above, z))) ∙ read.behind on (omega (arith, above));
}

pub last_read : (all slots : LinkSlots) (rest now : List ℕ) (link : ℕ) → 72 ≤ link → SlotsRead all rest link now slots → (now ≡ rest) × ((on : ℕ) → HasSlot on → slot_at slots on ≡ slot_at all on)
last_read all slots rest now link end read =
    let none : 72 - link ≡ 0 = omega (arith, end) in (
      read.bytes ∙ ap (λ (k : ℕ). slots_on (range_with_len link k) all ++ rest) none,
      λ on has. read.before on has (let most = has.1 in omega (arith, end, most)),
    )
