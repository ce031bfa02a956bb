-- What the test of every field of a record says.
use Rattle.std.proofs.Common.{◌≡◌, Bool, true, ◌&&◌, ◌==◌, refl, sym, ◌∙◌, subst}
use Rattle.std.proofs.Math.Bool.{beq}
use Rattle.std.proofs.lemmas.Bool.Decides.{Decides-eqb, Decides-and}
use Rattle.std.specs.Bool.{Decides}
use Rattle.std.specs.Cmp.{booleans_Decides}
use denote.Enum.Bare.{sameb}
use Rattle.ncp_conn.specs.declared.record.Role.{Role}
use Rattle.ncp_conn.specs.declared.record.Role.TheVariants.{Send, Receive}
use Rattle.ncp_conn.specs.declared.record.Record.{Record}
use Rattle.ncp_conn.specs.contracts.record.Role.{the_type}

ends_decided : (a b : Role) → Decides (sameb the_type a b) (a ≡ b)
ends_decided Send Send = (λ _. refl, λ _. refl)
ends_decided Send Receive = (λ h. absurd (cc), λ h. absurd (cc))
ends_decided Receive Send = (λ h. absurd (cc), λ h. absurd (cc))
ends_decided Receive Receive = (λ _. refl, λ _. refl)

abbrev same_record : Record → Record → Bool
same_record a b =
    sameb the_type a.end b.end && (beq a.asked b.asked && (beq a.heard b.heard && (beq a.opened b.opened && (beq a.leaving b.leaving && (beq a.left b.left && (beq a.cls b.cls
    && (a.link == b.link && (a.size == b.size && (a.messages == b.messages && (a.bits == b.bits && (a.stored == b.stored
    && (beq a.busy b.busy && (beq a.recall b.recall && a.interrupts == b.interrupts)))))))))))))

abbrev SameFields : Record → Record → Type 0
SameFields a b = (a.end ≡ b.end) × ((a.asked ≡ b.asked) × ((a.heard ≡ b.heard) × ((a.opened ≡ b.opened) × ((a.leaving ≡ b.leaving) × ((a.left ≡ b.left) × ((a.cls ≡ b.cls) × ((a.link ≡ b.link) × ((a.size ≡ b.size) × ((a.messages ≡ b.messages) × ((a.bits ≡ b.bits) × ((a.stored ≡ b.stored) × ((a.busy ≡ b.busy) × ((a.recall ≡ b.recall) × (a.interrupts ≡ b.interrupts))))))))))))))

fields_decided : (a b : Record) → Decides (same_record a b) (SameFields a b)
fields_decided a b =
    Decides-and _ _ (ends_decided a.end b.end) (Decides-and _ _ (booleans_Decides a.asked b.asked) (Decides-and _ _ (booleans_Decides a.heard b.heard) (Decides-and _ _ (booleans_Decides a.opened b.opened)
    (Decides-and _ _ (booleans_Decides a.leaving b.leaving) (Decides-and _ _ (booleans_Decides a.left b.left) (Decides-and _ _ (booleans_Decides a.cls b.cls) (Decides-and _ _ (Decides-eqb a.link b.link)
    (Decides-and _ _ (Decides-eqb a.size b.size) (Decides-and _ _ (Decides-eqb a.messages b.messages) (Decides-and _ _ (Decides-eqb a.bits b.bits) (Decides-and _ _ (Decides-eqb a.stored b.stored)
    (Decides-and _ _ (booleans_Decides a.busy b.busy) (Decides-and _ _ (booleans_Decides a.recall b.recall) (Decides-eqb a.interrupts b.interrupts))))))))))))))

one_record : (a b : Record) → SameFields a b → a ≡ b
one_record a b (end, (asked, (heard, (opened, (leaving, (left, (cls, (link, (size, (messages, (bits, (stored, (busy, (recall, interrupts)))))))))))))) = λ i. record {
  end = end i;
  asked = asked i;
  heard = heard i;
  opened = opened i;
  leaving = leaving i;
  left = left i;
  cls = cls i;
  link = link i;
  size = size i;
  messages = messages i;
  bits = bits i;
  stored = stored i;
  busy = busy i;
  recall = recall i;
  interrupts = interrupts i;
}

itself : (a : Record) → same_record a a ≡ true
itself a = (fields_decided a a).1 (refl, (refl, (refl, (refl, (refl, (refl, (refl, (refl, (refl, (refl, (refl, (refl, (refl, (refl, refl))))))))))))))

pub records_decided : (a b : Record) (r : Bool) → r ≡ same_record a b → Decides r (a ≡ b)
records_decided a b r e = (λ t. one_record a b ((fields_decided a b).0 (sym e ∙ t)), λ p. e ∙ subst (λ (m : Record). same_record a m ≡ true) p (itself a))
