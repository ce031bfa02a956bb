-- Definitions for the laws on byte sizes (src/byte_sizes.rt), and for their examples with bytes of 1, of
-- 36 and of 255 bits.
use Rattle.std.specs.Prelude.{◌≡◌, ℕ, Bool, List, length, Option, None, Some, Ok}
use Rattle.ncp_model.specs.declared.pair.Pair.{Pair}
use Rattle.ncp_model.specs.Endpoint.{Endpoint, or_new}
use Rattle.ncp_model.specs.Effect.{Becomes}
use Rattle.ncp_model.specs.Calls.{take_held}
use Rattle.ncp_model.specs.Texts.{cut}
use Rattle.ncp_model.specs.EndpointEvents.{happens, Gives, Accepted}
use Rattle.ncp_model.specs.Rows.{outward, inward, sized, with_counters, with_stored, sent_one}

-- an endpoint of this byte size with these bits stored; also with this allocation
abbrev pub bytes_stored : ℕ → List Bool → Endpoint
bytes_stored of_size bits_there = with_stored bits_there (sized of_size)

abbrev pub bytes_waiting : ℕ → List Bool → ℕ → ℕ → Endpoint
bytes_waiting of_size bits_there of_messages of_bits = with_counters of_messages of_bits (bytes_stored of_size bits_there)

-- taking `bytes` bytes at the endpoint `before` returns these bits and leaves `after`
abbrev pub TakenFrom : ℕ → Endpoint → Endpoint → List Bool → Type 0
TakenFrom bytes before after text = take_held inward bytes (Some before) ≡ Becomes after (Ok (text, None))

-- the endpoint `before` sends this text, of this byte size, and becomes `after`, busy
abbrev pub SentFrom : ℕ → Endpoint → Endpoint → List Bool → Type 0
SentFrom of_size before after text = cut outward (Some before) ≡ Becomes (sent_one after) (Some (of_size, text))

-- for every endpoint of this byte size with 8,000 bits stored and 9,000 allocated
abbrev pub WellFilled : ℕ → (Endpoint → Type 0) → Type 0
WellFilled of_size holds = (e : Endpoint) → length e.stored ≡ 8000 → e.bits ≡ 9000 → e.size ≡ of_size → holds e

-- for every text that is given and accepted: the text, and the endpoint before and after
abbrev pub WhenGiven : (List Bool → Endpoint → Endpoint → Type 0) → Type 0
WhenGiven holds =
    (pair : Pair) (text : List Bool) (before : Option Endpoint) (e : Endpoint) → (happens pair (Gives text) before).outcome ≡ Accepted → (happens pair (Gives text) before).after ≡ Some e → holds text (or_new before) e
