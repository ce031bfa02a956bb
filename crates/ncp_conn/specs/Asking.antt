-- Whether a local request may be made, and the conditions on a new entry.
use Rattle.std.specs.Prelude.{ℕ, ◌≡◌, ◌<◌, ◌⊎◌, true, false, None, Result, Err, IsOk}
use Rattle.std.specs.FinMap.{get}
use Rattle.ncp_model.specs.declared.pair.Pair.{Pair}
use Rattle.ncp_model.specs.declared.call_fault.CallFault.{CallFault}
use Rattle.ncp_model.specs.declared.call_fault.CallFault.TheVariants.{OutOfMemory}
use Rattle.ncp_model.specs.declared.limits.TheConstants.{MAX_OWN, MAX_BY_PEER}
use Rattle.ncp_model.specs.Endpoint.{Endpoint, or_new, is_ended}
use Rattle.ncp_model.specs.Effect.{Effect, answer}
use Rattle.ncp_model.specs.Ends.{Ends, count, any, has_asked, is_by_peer, hears_link, uses_link, map_after}

-- a local request may be made
pub record MayAsk (pair : Pair) (m : Ends) : Type 0 where
  pub first : (or_new (get m pair)).asked ≡ false
  pub own : count has_asked m < MAX_OWN

-- a new entry can be added to a table
pub record Enters (m : Ends) (p : Pair × Endpoint) : Type 0 where
  pub none : get m p.0 ≡ None
  pub over : is_ended p.1 ≡ false
  pub own : p.1.asked ≡ true → count has_asked m < MAX_OWN
  pub by_peer : p.1.asked ≡ false → count is_by_peer m < MAX_BY_PEER
  pub hears : (on : ℕ) → hears_link on p ≡ true → any (hears_link on) m ≡ false
  pub uses : (on : ℕ) → uses_link on p ≡ true → any (uses_link on) m ≡ false

-- a call that allocates has its effect at the pair, or returns `OutOfMemory` and changes nothing; that
-- only if it would be accepted
abbrev pub ActsOrNoMemory : {A : Type 0} → Pair → Effect (Result A CallFault) → Result A CallFault → Ends → Ends → Type 0
ActsOrNoMemory pair act result before now =
    ((result ≡ answer act) × (now ≡ map_after before pair act)) ⊎ ((result ≡ Err OutOfMemory) × IsOk (answer act) × (now ≡ before))
