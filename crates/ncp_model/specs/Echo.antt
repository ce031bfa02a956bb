-- A host's state for a peer besides the endpoints: the awaited echo, the byte of the last one, and the
-- received errors (NIC 8246, ECO, ERP and ERR; one echo at a time, and 16 errors, are this profile's
-- rules).
use Rattle.std.specs.Prelude.{ℕ, ◌-◌, Bool, false, not, ◌||◌, if◌then◌else◌, List, [], ◌∷◌, ◌++◌, length, drop, Option, None, Some, Result, Ok, Err}
use Rattle.ncp_wire.specs.declared.command.Command.{Command}
use Rattle.ncp_wire.specs.declared.command.Command.TheVariants.{Eco, Erp}
use Rattle.ncp_model.specs.declared.call_fault.CallFault.{CallFault}
pub use Rattle.ncp_model.specs.declared.outcomes.Error.{Error}
use Rattle.ncp_model.specs.declared.call_fault.CallFault.TheVariants.{Busy, QueueFull}
use Rattle.ncp_model.specs.declared.limits.TheConstants.{MAX_ERRORS}

pub record Echoes : Type 0 where
  pub awaited : Bool  -- an echo is unanswered
  pub echoed : Option ℕ  -- the byte of the last ERP that answered one
  pub errors : List Error  -- oldest first

abbrev pub no_echoes : Echoes
no_echoes = record { awaited = false; echoed = None; errors = [] }

-- the result of the call, and the state after it; full: the queue has no room for its command
abbrev pub echo_answer : ℕ → Bool → Echoes → Result Command CallFault
echo_answer byte full s = if s.awaited then Err Busy else if full then Err QueueFull else Ok (Eco byte)

abbrev pub echo_asked : Bool → Echoes → Echoes
echo_asked full s = record s { awaited = s.awaited || not full }

-- the reply to an ECO: the same byte
abbrev pub eco_reply : ℕ → Command
eco_reply byte = Erp byte

-- an ERP ends the awaited echo; it is stray if none is awaited
abbrev pub hear_erp : ℕ → Echoes → Echoes
hear_erp byte s = record s { awaited = false; echoed = if s.awaited then Some byte else s.echoed }

abbrev pub is_stray_erp : Echoes → Bool
is_stray_erp s = not s.awaited

-- a received ERR is kept with the last 16, and is never answered
abbrev pub last_errors : List Error → List Error
last_errors errors = drop (length errors - MAX_ERRORS) errors

abbrev pub hear_err : Error → Echoes → Echoes
hear_err error s = record s { errors = last_errors (s.errors ++ error ∷ []) }

-- a purge ends the awaited echo, and keeps the byte and the errors
abbrev pub purge_echo : Echoes → Echoes
purge_echo s = record s { awaited = false }
