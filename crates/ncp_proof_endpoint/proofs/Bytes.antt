-- Whole bytes.
use Rattle.std.proofs.Common.{◌≡◌, ℕ, ◌*◌, ◌/◌, ◌≤◌, Bool, List, length, min, take, Option, None, Some, refl, arith}
use Rattle.std.proofs.lemmas.Nat.{le-div}
use Rattle.ncp_model.specs.declared.pair.Pair.{Pair}
use Rattle.ncp_model.specs.declared.limits.TheConstants.{MAX_TEXT}
use Rattle.ncp_model.specs.Endpoint.{Endpoint, or_new}
use Rattle.ncp_model.specs.Calls.{bits_to_take}
use Rattle.ncp_model.specs.Texts.{bytes_to_send}
use Rattle.ncp_model.specs.EndpointEvents.{happens, EndpointEvent, Outcome}

-- below two numbers is below the lower one
below : (a b c : ℕ) → a ≤ b → a ≤ c → a ≤ min b c
below a b c h k = omega (arith, h, k)

times : (a b s : ℕ) → a ≤ b → a * s ≤ b * s
times a b s h = grind (arith, h)

pub most-taken : (bytes count : ℕ) (e : Endpoint) → 1 ≤ e.size → count ≤ bytes → count * e.size ≤ length e.stored → count * e.size ≤ MAX_TEXT → count * e.size ≤ bits_to_take bytes e
most-taken bytes count e s b h f =
    times count (min bytes (min (length e.stored / e.size) (MAX_TEXT / e.size))) e.size
    (below count bytes (min (length e.stored / e.size) (MAX_TEXT / e.size)) b (below count (length e.stored / e.size) (MAX_TEXT / e.size) (le-div count (length e.stored) e.size s h) (le-div count MAX_TEXT e.size s f)))

pub most-sent : (count : ℕ) (e : Endpoint) → 1 ≤ e.size → count * e.size ≤ length e.stored → count * e.size ≤ e.bits → count * e.size ≤ MAX_TEXT → count ≤ bytes_to_send e
most-sent count e s w b f =
    below count (length e.stored / e.size) (min (e.bits / e.size) (MAX_TEXT / e.size)) (le-div count (length e.stored) e.size s w)
    (below count (e.bits / e.size) (MAX_TEXT / e.size) (le-div count e.bits e.size s b) (le-div count MAX_TEXT e.size s f))

pub whole-taken : (bytes : ℕ) (e : Endpoint) → 1 ≤ e.size → (count : ℕ) × (bits_to_take bytes e ≡ count * e.size) × (count ≤ bytes)
whole-taken bytes e s =
    let many : ℕ = min (length e.stored / e.size) (MAX_TEXT / e.size) in
    (min bytes many, refl, omega arith)

pub front-sent : (pair : Pair) (before : Option Endpoint) (of_size : ℕ) (text : List Bool) → (happens pair EndpointEvent.Text_goes_out before).outcome ≡ Outcome.Sent of_size text
    → (of_size ≡ (or_new before).size) × (text ≡ take (bytes_to_send (or_new before) * (or_new before).size) (or_new before).stored)
front-sent pair None n text h = absurd (cc h)
front-sent pair (Some e) n text h = (grind (arith, h), grind (arith, h))
