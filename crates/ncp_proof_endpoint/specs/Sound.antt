-- Invariants of every endpoint after any events.
use Rattle.std.specs.Prelude.{◌≡◌, true, false, [], Option, None, Some}
use Rattle.ncp_model.specs.declared.pair.Pair.{Pair}
use Rattle.ncp_model.specs.Pairs.{sends}
use Rattle.ncp_model.specs.Endpoint.{Endpoint, is_open, is_ended}

abbrev pub SoundEnd : Pair → Endpoint → Type 0
SoundEnd pair e = record {
  -- it has opened if both requests are there and no CLS is pending or made, and only if both requests met
  opens : is_open e ≡ true → e.opened ≡ true;
  asked : e.opened ≡ true → e.asked ≡ true;
  heard : e.opened ≡ true → e.heard ≡ true;
  -- before it opens nothing is counted or stored
  messages : e.opened ≡ false → e.messages ≡ 0;
  bits : e.opened ≡ false → e.bits ≡ 0;
  stored : e.opened ≡ false → e.stored ≡ [];
  interrupts : e.opened ≡ false → e.interrupts ≡ 0;
  busy : e.opened ≡ false → e.busy ≡ false;
  recall : e.opened ≡ false → e.recall ≡ false;
  leaving : e.opened ≡ false → e.leaving ≡ false;
  -- only a sender has an unacknowledged text, and its CLS is not made while it has
  sender : e.busy ≡ true → sends pair ≡ true;
  out : e.busy ≡ true → e.left ≡ false;
  -- once the CLS was made it is no longer pending, and nothing is stored
  due : e.left ≡ true → e.leaving ≡ false;
  dropped : e.left ≡ true → e.stored ≡ [];
  -- once the peer's CLS arrived the local one is pending; an endpoint with both no longer exists
  shut : e.cls ≡ true → e.leaving ≡ true;
  over : is_ended e ≡ false;
}

abbrev pub SoundAt : Pair → Option Endpoint → Type 0
SoundAt pair None = Unit {0}
SoundAt pair (Some e) = SoundEnd pair e
