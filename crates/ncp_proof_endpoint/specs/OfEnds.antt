-- The quantifiers of the laws of byte sizes, of conservation, and of the CLS; and endpoints with bytes of
-- 36 and 255 bits.
use Rattle.std.specs.Prelude.{◌≡◌, ◌≤◌, ℕ, ◌*◌, Bool, true, false, List, [], ◌∷◌, length, Option, Some}
use Rattle.ncp_wire.specs.declared.command.Command.{Command}
use Rattle.ncp_wire.specs.declared.command.Command.TheVariants.{Cls}
use Rattle.ncp_model.specs.declared.pair.Pair.{Pair}
use Rattle.ncp_model.specs.declared.limits.TheConstants.{MAX_TEXT}
use Rattle.ncp_model.specs.Pairs.{sends}
use Rattle.ncp_model.specs.Endpoint.{Endpoint, or_new, is_open}
use Rattle.ncp_model.specs.EndpointEvents.{EndpointEvent, Transition, happens, Gives, Takes, Calls_back, Interrupts, Text_goes_out, Accepted, Took_out, Sent}
use Rattle.ncp_model.specs.Rows.{sized, with_counters}
use Rattle.ncp_proof_endpoint.specs.ByteSizes.{bytes_stored, bytes_waiting}
use Rattle.ncp_proof_endpoint.specs.Keeping.{Always, is_clearing}

-- For every text at an endpoint: the text, and the endpoint before.

-- it was given and accepted; it was taken, of `bytes` bytes asked for; it was sent, with its byte size
abbrev pub OfTextsGiven : (List Bool → Endpoint → Type 0) → Type 0
OfTextsGiven holds =
    (pair : Pair) (text : List Bool) (before : Option Endpoint) → (happens pair (Gives text) before).outcome ≡ Accepted → holds text (or_new before)

abbrev pub OfTextsTaken : (ℕ → List Bool → Endpoint → Type 0) → Type 0
OfTextsTaken holds =
    (pair : Pair) (bytes : ℕ) (before : Option Endpoint) (text : List Bool) → (happens pair (Takes bytes) before).outcome ≡ Took_out text → holds bytes text (or_new before)

abbrev pub OfTextsSent : (ℕ → List Bool → Endpoint → Type 0) → Type 0
OfTextsSent holds =
    (pair : Pair) (before : Option Endpoint) (of_size : ℕ) (text : List Bool) → (happens pair Text_goes_out before).outcome ≡ Sent of_size text → holds of_size text (or_new before)

-- For every number of bytes, and every endpoint with a byte size.

-- any number; at most those asked for, held, and fitting a message; at most those stored, allocated, and
-- fitting one
abbrev pub OfBytesAsked : (ℕ → Endpoint → Type 0) → Type 0
OfBytesAsked holds = (bytes : ℕ) (e : Endpoint) → 1 ≤ e.size → holds bytes e

abbrev pub OfBytesToTake : (ℕ → ℕ → Endpoint → Type 0) → Type 0
OfBytesToTake holds =
    (bytes count : ℕ) (e : Endpoint) → 1 ≤ e.size → count ≤ bytes → count * e.size ≤ length e.stored → count * e.size ≤ MAX_TEXT → holds bytes count e

abbrev pub OfBytesToSend : (ℕ → Endpoint → Type 0) → Type 0
OfBytesToSend holds =
    (count : ℕ) (e : Endpoint) → 1 ≤ e.size → count * e.size ≤ length e.stored → count * e.size ≤ e.bits → count * e.size ≤ MAX_TEXT → holds count e

-- bytes of 36 and of 255 bits stored; also with an allocation, and for bytes of 1 bit
abbrev pub stored_36 : List Bool → Endpoint
stored_36 bits_there = bytes_stored 36 bits_there

abbrev pub stored_255 : List Bool → Endpoint
stored_255 bits_there = bytes_stored 255 bits_there

abbrev pub ready_1 : List Bool → ℕ → ℕ → Endpoint
ready_1 bits_there of_messages of_bits = bytes_waiting 1 bits_there of_messages of_bits

abbrev pub ready_36 : List Bool → ℕ → ℕ → Endpoint
ready_36 bits_there of_messages of_bits = bytes_waiting 36 bits_there of_messages of_bits

abbrev pub ready_255 : List Bool → ℕ → ℕ → Endpoint
ready_255 bits_there of_messages of_bits = bytes_waiting 255 bits_there of_messages of_bits

-- an allocation of one byte of 36 bits
abbrev pub granted_36 : Endpoint
granted_36 = with_counters 1 36 (sized 36)

-- For every event at an existing endpoint.

-- a `take` that makes the CLS: the text, and the endpoint before
abbrev pub OfEachLastTaking : (List Bool → Endpoint → Type 0) → Type 0
OfEachLastTaking holds =
    (pair : Pair) (bytes : ℕ) (text : List Bool) (x : Endpoint) → (happens pair (Takes bytes) (Some x)).outcome ≡ Took_out text → (happens pair (Takes bytes) (Some x)).made ≡ Cls pair.local pair.remote ∷ [] → holds text x

-- an accepted call of a GVB: the endpoint before and after
abbrev pub OfEachRecalling : (Endpoint → Endpoint → Type 0) → Type 0
OfEachRecalling holds =
    (pair : Pair) (of_messages of_bits : ℕ) (full : Bool) (x e : Endpoint) → (happens pair (Calls_back of_messages of_bits full) (Some x)).outcome ≡ Accepted → (happens pair (Calls_back of_messages of_bits full) (Some x)).after ≡ Some e → holds x e

-- an accepted interrupt: the endpoint before, and the commands made
abbrev pub OfEachInterrupt : (Pair → Endpoint → List Command → Type 0) → Type 0
OfEachInterrupt holds =
    (pair : Pair) (full : Bool) (x : Endpoint) → (happens pair (Interrupts full) (Some x)).outcome ≡ Accepted → holds pair x (happens pair (Interrupts full) (Some x)).made

-- any event: the event, the endpoint before, and the transition; any event but a clearing; any event at a
-- sender with an unacknowledged text
abbrev pub AtEachEnd : (Pair → EndpointEvent → Endpoint → Transition → Type 0) → Type 0
AtEachEnd holds = (pair : Pair) (what : EndpointEvent) (e : Endpoint) → holds pair what e (happens pair what (Some e))

abbrev pub UnlessCleared : (Endpoint → Transition → Type 0) → Type 0
UnlessCleared holds =
    (pair : Pair) (what : EndpointEvent) (e : Endpoint) → is_clearing what ≡ false → holds e (happens pair what (Some e))

abbrev pub WhileBusy : (EndpointEvent → Transition → Type 0) → Type 0
WhileBusy holds =
    (pair : Pair) (what : EndpointEvent) (e : Endpoint) → sends pair ≡ true → e.busy ≡ true → holds what (happens pair what (Some e))

-- the pair, and the commands made there; the endpoint before and after
abbrev pub OfAllMade : (Pair → List Command → Type 0) → Type 0
OfAllMade holds = (pair : Pair) (what : EndpointEvent) (before : Option Endpoint) → holds pair (happens pair what before).made

abbrev pub WhereAnEndStays : (Endpoint → Endpoint → Type 0) → Type 0
WhereAnEndStays holds = (pair : Pair) (what : EndpointEvent) (x e : Endpoint) → (happens pair what (Some x)).after ≡ Some e → holds x e

-- for every endpoint that was neither open nor closing and is open after an event
abbrev pub WhereOneOpens : (Endpoint → Type 0) → Type 0
WhereOneOpens holds =
    Always (λ what was now. is_open was ≡ false → was.leaving ≡ false → was.left ≡ false → is_open now ≡ true → holds now)
