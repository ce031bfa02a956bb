-- Tables in which exactly one endpoint passes a test, or none does.
use Rattle.std.specs.Prelude.{◌≡◌, Bool, true, Some}
use Rattle.std.specs.FinMap.{get}
use Rattle.ncp_model.specs.declared.pair.Pair.{Pair}
use Rattle.ncp_model.specs.Endpoint.{Endpoint}
use Rattle.ncp_model.specs.Ends.{Ends}

-- for every table with exactly one endpoint that passes, and that endpoint
abbrev pub OfTheOnlyEnd : (Pair × Endpoint → Bool) → (Ends → Pair × Endpoint → Type 0) → Type 0
OfTheOnlyEnd passes holds =
    (m : Ends) (q : Pair) (e : Endpoint) → get m q ≡ Some e → passes (q, e) ≡ true → ((p : Pair) (x : Endpoint) → get m p ≡ Some x → passes (p, x) ≡ true → p ≡ q) → holds m (q, e)

-- for every table with no endpoint that passes
abbrev pub WhereNoEnd : (Pair × Endpoint → Bool) → (Ends → Type 0) → Type 0
WhereNoEnd passes holds = (m : Ends) → ((p : Pair) (x : Endpoint) → get m p ≡ Some x → passes (p, x) ≡ true → ⊥) → holds m
