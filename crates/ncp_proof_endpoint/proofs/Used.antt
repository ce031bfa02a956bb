-- What a GVB and a text take.
use Rattle.std.proofs.Common.{◌≡◌, ℕ, ◌+◌, ◌*◌, ◌≤◌, ◌++◌, Bool, true, List, [], ◌∷◌, length, Some, arith}
use Rattle.std.specs.Int.{div_ceil}
use Rattle.std.proofs.Math.Nat.{min-le_left}
use Rattle.std.proofs.lemmas.List.{take-append-drop, length-take-le}
use Rattle.ncp_wire.specs.declared.command.Command.TheVariants.{Ret}
use Rattle.ncp_model.specs.declared.pair.Pair.{Pair}
use Rattle.ncp_model.specs.declared.limits.TheConstants.{GIVE_BACK_PARTS}
use Rattle.ncp_model.specs.Amounts.{back}
use Rattle.ncp_model.specs.Endpoint.{Endpoint}
use Rattle.ncp_model.specs.Texts.{bytes_to_send}
use Rattle.ncp_model.specs.EndpointEvents.{happens, EndpointEvent, Outcome}

pub back-at_most : (counter fraction : ℕ) → back counter fraction ≤ counter
unfolding back
back-at_most counter fraction = min-le_left counter (div_ceil (counter * fraction) GIVE_BACK_PARTS)

pub gvb-takes : (pair : Pair) (on of_messages of_bits : ℕ) (x e : Endpoint) → (happens pair (EndpointEvent.Gvb_comes on of_messages of_bits) (Some x)).outcome ≡ Outcome.Accepted → (happens pair (EndpointEvent.Gvb_comes on of_messages of_bits) (Some x)).after ≡ Some e
    → (e.messages + back x.messages of_messages ≡ x.messages) × (e.bits + back x.bits of_bits ≡ x.bits) × ((happens pair (EndpointEvent.Gvb_comes on of_messages of_bits) (Some x)).made ≡ Ret on (back x.messages of_messages) (back x.bits of_bits) ∷ [])
gvb-takes pair on m b x e o h =
    let f : back x.messages m ≤ x.messages = back-at_most x.messages m in
    let g : back x.bits b ≤ x.bits = back-at_most x.bits b in
    (grind (arith, o, h, f), grind (arith, o, h, g), grind (arith, o))

pub cut-takes : (pair : Pair) (of_size : ℕ) (text : List Bool) (x e : Endpoint) → (happens pair EndpointEvent.Text_goes_out (Some x)).outcome ≡ Outcome.Sent of_size text → (happens pair EndpointEvent.Text_goes_out (Some x)).after ≡ Some e
    → (e.messages + 1 ≡ x.messages) × (e.bits + length text ≡ x.bits) × (text ++ e.stored ≡ x.stored) × (e.busy ≡ true)
cut-takes pair n text x e o h =
    let w : bytes_to_send x * x.size ≤ length x.stored = grind arith in
    let b : bytes_to_send x * x.size ≤ x.bits = grind arith in
    let l = length-take-le (bytes_to_send x * x.size) x.stored w in
    let s = take-append-drop (bytes_to_send x * x.size) x.stored in
    (grind (arith, o, h), grind (arith, o, h, b, l), grind (arith, o, h, s), grind (arith, o, h))
