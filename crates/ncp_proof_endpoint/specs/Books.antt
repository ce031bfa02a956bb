-- The accounts of a receiving endpoint: how its record relates to its history.
use Rattle.std.specs.Prelude.{◌≡◌, true, false, ◌++◌, List, [], ◌∷◌, Option, None, Some}
use Rattle.ncp_model.specs.declared.pair.Pair.{Pair}
use Rattle.ncp_model.specs.Amounts.{◌⊕◌, allowance}
use Rattle.ncp_model.specs.Endpoint.{Endpoint}
use Rattle.ncp_model.specs.EndpointEvents.{EndpointEvent}
use Rattle.ncp_model.specs.Demux.{suits}
use Rattle.ncp_proof_endpoint.specs.Histories.{PairHistory, allowance_used}

-- each event suits the kind of the endpoint
abbrev pub Suit : Pair → List EndpointEvent → Type 0
Suit pair [] = Unit {0}
Suit pair (what ∷ more) = (suits pair what ≡ true) × Suit pair more

abbrev pub Books : Endpoint → PairHistory → Type 0
Books e past = record {
  -- the outstanding allocation is what was granted, less what was returned and used
  counted : e.opened ≡ true → allowance e ⊕ past.returned ⊕ allowance_used past ≡ past.granted;
  -- until it leaves, all text got was taken or is held
  held : e.opened ≡ true → e.left ≡ false → past.got ≡ past.taken ++ e.stored;
}

abbrev pub BooksAt : Option Endpoint → PairHistory → Type 0
BooksAt None past = Unit {0}
BooksAt (Some e) past = Books e past
