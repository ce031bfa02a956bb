-- Limits on the numbers of an endpoint after any events (this profile's limits).
use Rattle.std.specs.Prelude.{◌≡◌, ◌≤◌, ◌+◌, ◌<◌, true, length, Option, None, Some}
use Rattle.ncp_model.specs.declared.pair.Pair.{Pair}
use Rattle.ncp_model.specs.declared.limits.TheConstants.{MAX_ROOM, MAX_MESSAGES, MAX_AMOUNT, MAX_COUNT}
use Rattle.ncp_model.specs.Pairs.{sends, receives}
use Rattle.ncp_model.specs.Endpoint.{Endpoint}
use Rattle.ncp_model.specs.Effect.{is_data_link}

abbrev pub InLimits : Pair → Endpoint → Type 0
InLimits pair e = record {
  room : e.room ≤ MAX_ROOM;
  stored : length e.stored ≤ e.room;
  -- the store has room for all bits a receiver allocated
  outstanding : receives pair ≡ true → e.bits + length e.stored ≤ e.room;
  messages : e.messages ≤ MAX_MESSAGES;
  bits : e.bits ≤ MAX_AMOUNT;
  interrupts : e.interrupts ≤ MAX_COUNT;
  -- a link that was heard is a data link, and a byte size is not zero
  link : sends pair ≡ true → e.heard ≡ true → is_data_link e.link ≡ true;
  own_size : sends pair ≡ true → e.asked ≡ true → 0 < e.size;
  its_size : receives pair ≡ true → e.heard ≡ true → 0 < e.size;
}

abbrev pub InLimitsAt : Pair → Option Endpoint → Type 0
InLimitsAt pair None = Unit {0}
InLimitsAt pair (Some e) = InLimits pair e
