-- The history of a pair of sockets at one host since its connection opened there. A history variable
-- only: no rule reads it. All of it is this profile's way to describe a connection.
use Rattle.std.specs.Prelude.{ℕ, ◌+◌, Bool, true, false, not, ◌&&◌, if◌then◌else◌, List, [], ◌∷◌, ◌++◌, length, Option, None, ◌≡◌}
use Rattle.ncp_model.specs.declared.pair.Pair.{Pair}
use Rattle.ncp_model.specs.declared.amounts.Amount.{Amount}
use Rattle.ncp_model.specs.Amounts.{amount, no_amount, ◌⊕◌}
use Rattle.ncp_model.specs.Endpoint.{Endpoint, is_live}
use Rattle.ncp_model.specs.EndpointEvents.{EndpointEvent, Outcome, happens}

-- each but `calls` is since the last opening, and is unchanged by a clearing or an end. `taken` also starts again,
-- from empty, when a receiver asks, so that nothing was taken before its connection opens
pub record PairHistory : Type 0 where
  pub given : List Bool  -- by the sender's user
  pub got : List Bool  -- from the peer, and admitted
  pub taken : List Bool  -- by the receiver's user, since the last ask
  pub granted : Amount  -- by ALL
  pub returned : Amount  -- by RET
  pub calls : List (EndpointEvent × Outcome)  -- those of its user that were not refused, since the beginning, oldest first
  pub used_messages : ℕ  -- by texts that were admitted; the bits used are those that were got

abbrev pub no_past : PairHistory
no_past = record { given = []; got = []; taken = []; granted = no_amount; returned = no_amount; calls = []; used_messages = 0 }

-- the history when the connection opens: all but the calls starts again, from empty
abbrev pub reopened : PairHistory → PairHistory
reopened past = record no_past { calls = past.calls }

-- the amount of the allocation that was used
abbrev pub allowance_used : PairHistory → Amount
allowance_used past = amount past.used_messages (length past.got)

abbrev pub is_outcome_accepted : Outcome → Bool
is_outcome_accepted Outcome.Accepted = true
is_outcome_accepted outcome = false

abbrev pub is_admitted : Outcome → Bool
is_admitted Outcome.Admitted = true
is_admitted outcome = false

abbrev pub taken_out : Outcome → List Bool
taken_out (Outcome.Took_out text) = text
taken_out outcome = []

-- whether the outcome is a refusal
abbrev pub is_refused_call : Outcome → Bool
is_refused_call (Outcome.Refused fault) = true
is_refused_call o = false

-- the calls, with one more if it was not refused
abbrev pub with_call : EndpointEvent → Outcome → List (EndpointEvent × Outcome) → List (EndpointEvent × Outcome)
with_call what o ls = if is_refused_call o then ls else ls ++ (what, o) ∷ []

-- the user's calls after an event with its outcome
abbrev pub calls_after : EndpointEvent → Outcome → List (EndpointEvent × Outcome) → List (EndpointEvent × Outcome)
calls_after (EndpointEvent.Asks_to_send of_size with_room own full) o ls = with_call (EndpointEvent.Asks_to_send of_size with_room own full) o ls
calls_after (EndpointEvent.Asks_to_receive with_room on own full) o ls = with_call (EndpointEvent.Asks_to_receive with_room on own full) o ls
calls_after (EndpointEvent.Closes full) o ls = with_call (EndpointEvent.Closes full) o ls
calls_after (EndpointEvent.Gives text) o ls = with_call (EndpointEvent.Gives text) o ls
calls_after (EndpointEvent.Takes bytes) o ls = with_call (EndpointEvent.Takes bytes) o ls
calls_after (EndpointEvent.Allocates m b full) o ls = with_call (EndpointEvent.Allocates m b full) o ls
calls_after (EndpointEvent.Calls_back m b full) o ls = with_call (EndpointEvent.Calls_back m b full) o ls
calls_after what o ls = ls

-- what an event with its outcome adds to what is counted since the opening
abbrev pub adds_since_opening : EndpointEvent → Outcome → PairHistory → PairHistory
adds_since_opening (EndpointEvent.Asks_to_receive with_room on own full) o past = record past { taken = if is_outcome_accepted o then [] else past.taken }
adds_since_opening (EndpointEvent.Gives text) o past = record past { given = past.given ++ (if is_outcome_accepted o then text else []) }
adds_since_opening (EndpointEvent.Takes bytes) o past = record past { taken = past.taken ++ taken_out o }
adds_since_opening (EndpointEvent.Allocates m b full) o past = record past { granted = past.granted ⊕ (if is_outcome_accepted o then amount m b else no_amount) }
adds_since_opening (EndpointEvent.Ret_comes on m b) o past = record past { returned = past.returned ⊕ (if is_outcome_accepted o then amount m b else no_amount) }
adds_since_opening (EndpointEvent.Text_comes head of_size text) o past =
    record past { got = past.got ++ (if is_admitted o then text else []); used_messages = past.used_messages + (if is_admitted o then 1 else 0) }
adds_since_opening what o past = past

-- the history after an event with its outcome
abbrev pub adds : EndpointEvent → Outcome → PairHistory → PairHistory
adds what o past = record (adds_since_opening what o past) { calls = calls_after what o past.calls }

-- the connection opens: the endpoint becomes live
abbrev pub opens : Option Endpoint → Option Endpoint → Bool
opens before after = not (is_live before) && is_live after

-- an endpoint, with the history of its pair
pub record EndpointWithHistory : Type 0 where
  pub end : Option Endpoint
  pub past : PairHistory

abbrev pub watches : Pair → EndpointEvent → EndpointWithHistory → EndpointWithHistory
watches pair what w = record {
  end = (happens pair what w.end).after;
  past = adds what (happens pair what w.end).outcome (if opens w.end (happens pair what w.end).after then reopened w.past else w.past);
}

abbrev pub watch_from : Pair → List EndpointEvent → EndpointWithHistory → EndpointWithHistory
watch_from pair [] w = w
watch_from pair (what ∷ more) w = watch_from pair more (watches pair what w)

-- from a host without an endpoint for the pair
abbrev pub watch : Pair → List EndpointEvent → EndpointWithHistory
watch pair whats = watch_from pair whats (record { end = None; past = no_past })

-- the first list is a prefix of the second
abbrev pub IsPrefix : List Bool → List Bool → Type 0
IsPrefix xs ys = (rest : List Bool) × (xs ++ rest ≡ ys)
