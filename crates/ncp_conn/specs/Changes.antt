-- The effects on an entry: a pair with its endpoint.
use Rattle.std.specs.Prelude.{ℕ, Bool, if◌then◌else◌, List, ◌++◌, Result, Ok, Err}
use Rattle.ncp_model.specs.declared.pair.Pair.{Pair}
use Rattle.ncp_model.specs.declared.call_fault.CallFault.{CallFault}
use Rattle.ncp_model.specs.declared.call_fault.CallFault.TheVariants.{NoRoom}
use Rattle.ncp_model.specs.Endpoint.{Endpoint}
use Rattle.ncp_model.specs.Effect.{Effect, Stays, Becomes}
use Rattle.ncp_model.specs.Calls.{fits}

-- the entry after an effect on its endpoint
abbrev pub after : {A : Type 0} → Pair × Endpoint → Effect A → Pair × Endpoint
after p (Stays a) = p
after p (Becomes e a) = (p.0, e)

-- the entry with another endpoint
abbrev pub with_end : Pair × Endpoint → Endpoint → Pair × Endpoint
with_end p e = (p.0, e)

-- the fields that decide the link of an entry, and by whose request it exists
abbrev pub marks : Pair × Endpoint → Bool × (Bool × ℕ)
marks p = (p.1.asked, (p.1.heard, p.1.link))

-- appending a text to the stored bits, if there is room
abbrev pub putting : List Bool → Endpoint → Result (Unit {0}) CallFault
putting text e = if fits text e then Ok tt else Err NoRoom

abbrev pub with_text : List Bool → Endpoint → Endpoint
with_text text e = record e { stored = if fits text e then e.stored ++ text else e.stored }
