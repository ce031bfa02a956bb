use Rattle.std.proofs.Common.{◌≡◌, ◌++◌, ◌∷◌, [], List, ℕ, ap, sym, ◌∙◌}
use Rattle.std.proofs.lemmas.Result.{on_ok_weaker}
use Rattle.std.proofs.lemmas.List.{append_assoc}
use Rattle.ncp_slot.specs.Slots.{slot_at}
use Rattle.ncp_saved.specs.Values.{bits_saved}
use Rattle.ncp_peer.proofs.SlotKinds.{kind_none}
use Rattle.ncp_peer.proofs.peer.saving.put_slot.Goals as goal

pub returns-in_ok-put_byte-in-Some : goal.returns-in_ok-put_byte-in-Some
returns-in_ok-put_byte-in-Some c = on_ok_weaker c.put_bits.result
    (λ (is : c.put_bits.new.out.items ≡ c.put_byte.new.out.items ++ bits_saved c.in-Some.message.now).
    is ∙ ap (λ (w : List ℕ). w ++ bits_saved c.in-Some.message.now) c.in_ok-put_byte-in-Some.ensures
    ∙ append_assoc c.args.out.now.items (c.kind_of.result ∷ []) (bits_saved c.in-Some.message.now)
    ∙ ap (λ (w : List ℕ). c.args.out.now.items ++ w) (sym (c.kind_of.ensures c.in-Some.message.now (sym c.in-Some.ensures.kept))))
    c.put_bits.ensures

pub returns-in-None : goal.returns-in-None
returns-in-None c = on_ok_weaker c.put_byte-in-None.result
    (λ (is : c.put_byte-in-None.new.out.items ≡ c.args.out.now.items ++ 0 ∷ []). is ∙ ap (λ (w : List ℕ). c.args.out.now.items ++ w) (sym (kind_none (slot_at c.args.slots.now c.args.link) (sym c.in-None.ensures.kept))))
    c.put_byte-in-None.ensures
