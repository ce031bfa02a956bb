-- What was given since the last ask that has a give is what was given since the opening, or nothing was: after each run.
use Rattle.std.proofs.Common.{◌≡◌, ℕ, Bool, true, false, ◌||◌, if◌then◌else◌, List, [], ◌∷◌, ◌++◌, Option, None, Some, refl, sym, ap, subst, arith}
use Rattle.std.specs.FinMap.{get}
use Rattle.ncp_model.specs.declared.pair.Pair.{Pair}
use Rattle.ncp_model.specs.Pairs.{sends}
use Rattle.ncp_model.specs.Endpoint.{Endpoint}
use Rattle.ncp_model.specs.EndpointEvents.{EndpointEvent, Outcome, happens}
use Rattle.ncp_model.specs.Demux.{suits}
use Rattle.ncp_proof_endpoint.specs.Histories.{PairHistory, no_past, is_outcome_accepted}
use Rattle.ncp_proof_endpoint.specs.Sound.{SoundAt}
use Rattle.ncp_peer.specs.PeerState.{new_state}
use Rattle.ncp_transcript.specs.declared.note.HostNote.{HostNote}
use Rattle.ncp_proof_runs.specs.Histories.{past_then, past_so_far}
use Rattle.ncp_proof_runs.specs.Peers.{notes_for}
use Rattle.ncp_statement.specs.Statement.{UserEvent, Asked, Gave, TookBits, AllowedBits, CalledBack, OtherEvent, given_from}
use Rattle.ncp_proof_statement.specs.Since.{had_out, use_then, did_run, tallied, Givings, no_givings, givings_with, givings_then, GivenSince, Gives}
use Rattle.ncp_proof_statement.proofs.Giving.{given-kept, given-goes, given-freed, other_way}
use Rattle.ncp_proof_statement.proofs.Tallies.{Ties, new-kept}
use Rattle.ncp_proof_statement.proofs.Tallies

-- What a use adds is what the happening does.

or_true : (b : Bool) → true ≡ (b || true)
or_true true = refl
or_true false = refl

or_false : (b : Bool) → b ≡ (b || false)
or_false true = refl
or_false false = refl

asked-with : (b : Bool) (g : Givings) → givings_with (if b then Asked else OtherEvent) g ≡ record { given = g.given; anew = g.anew || b }
asked-with true g = ap (λ (a : Bool). (let y : Givings = record { given = g.given; anew = a } in y)) (or_true g.anew)
asked-with false g = ap (λ (a : Bool). (let y : Givings = record { given = g.given; anew = a } in y)) (or_false g.anew)

-- no pair that sends is asked to receive
asked-not : (b : Bool) (g : Givings) → b ≡ false → givings_with (if b then Asked else OtherEvent) g ≡ g
asked-not true g e = absurd (cc e)
asked-not false g e = refl

pub refused-it : (pair : Pair) (room on own : ℕ) (full : Bool) (o : Option Endpoint) → sends pair ≡ true → is_outcome_accepted (happens pair (EndpointEvent.Asks_to_receive room on own full) o).outcome ≡ false
refused-it pair room on own full None h = grind arith
refused-it pair room on own full (Some e) h = grind arith

gave-with : (b : Bool) (text : List Bool) (g : Givings) → givings_with (if b then Gave text else OtherEvent) g ≡ (if b then record { given = (if g.anew then [] else g.given) ++ text; anew = false } else g)
gave-with true text g = refl
gave-with false text g = refl

had-with : (o : Outcome) (g : Givings) → givings_with (had_out o) g ≡ g
had-with (Outcome.Refused fault) g = refl
had-with o g = refl

let-with : (b : Bool) (bits : ℕ) (g : Givings) → givings_with (if b then AllowedBits bits else OtherEvent) g ≡ g
let-with true bits g = refl
let-with false bits g = refl

-- what gives nothing
other-with : (u : UserEvent) (b : Bool) (g : Givings) → givings_with u g ≡ g → givings_with (if b then u else OtherEvent) g ≡ g
other-with u true g e = e
other-with u false g e = refl

as-then : (pair : Pair) (what : EndpointEvent) (o : Option Endpoint) (g : Givings) → sends pair ≡ true → givings_with (use_then what (happens pair what o).outcome) g ≡ givings_then what (happens pair what o).outcome g
as-then pair (EndpointEvent.Asks_to_send of_size with_room own full) o g h = asked-with (is_outcome_accepted (happens pair (EndpointEvent.Asks_to_send of_size with_room own full) o).outcome) g
as-then pair (EndpointEvent.Asks_to_receive with_room on own full) o g h = asked-not (is_outcome_accepted (happens pair (EndpointEvent.Asks_to_receive with_room on own full) o).outcome) g (refused-it pair with_room on own full o h)
as-then pair (EndpointEvent.Gives text) o g h = gave-with (is_outcome_accepted (happens pair (EndpointEvent.Gives text) o).outcome) text g
as-then pair (EndpointEvent.Takes bytes) o g h = had-with (happens pair (EndpointEvent.Takes bytes) o).outcome g
as-then pair (EndpointEvent.Allocates m b full) o g h = let-with (is_outcome_accepted (happens pair (EndpointEvent.Allocates m b full) o).outcome) b g
as-then pair (EndpointEvent.Calls_back m b full) o g h = other-with CalledBack (is_outcome_accepted (happens pair (EndpointEvent.Calls_back m b full) o).outcome) g refl
as-then pair (EndpointEvent.Closes full) o g h = other-with UserEvent.Closed (is_outcome_accepted (happens pair (EndpointEvent.Closes full) o).outcome) g refl
as-then pair what o g h = refl

-- The tally is tied to each end, and so to each run.

gives-step : (pair : Pair) (what : EndpointEvent) (o : Option Endpoint) (past : PairHistory) (g : Givings) → suits pair what ≡ true → SoundAt pair o → Gives pair o past g
    → Gives pair (happens pair what o).after (past_then o what (happens pair what o) past) (givings_with (use_then what (happens pair what o).outcome) g)
gives-step pair what o past g fit s k h =
    subst (λ (y : Givings). GivenSince (happens pair what o).after (past_then o what (happens pair what o) past) y) (sym (as-then pair what o g h))
    (given-kept pair what o past g (other_way pair h) fit s (k h))

gives-ties : Ties Givings givings_with Gives
gives-ties = record {
  quiet = λ g. refl;
  step = gives-step;
  ends = λ pair o past g k h. ((k h).0, ((k h).1.0, tt));
  goes = λ pair o past g h s k i. given-goes pair o past g s (k i);
  frees = λ pair o past g h s k i. given-freed pair o past g s (k i);
}

pub run-kept : (pair : Pair) (all_notes : List HostNote) → sends pair ≡ true → GivenSince (get (notes_for all_notes new_state).peer.ends pair) (past_so_far pair all_notes) (tallied givings_with no_givings (did_run pair all_notes new_state))
run-kept pair all_notes h =
    (Tallies.run-kept Givings givings_with Gives gives-ties pair all_notes new_state no_past no_givings
    (new-kept Givings givings_with Gives gives-ties pair no_givings (λ i. (true, (refl, tt))))).1 h

-- As the page counts.

pub given-tallied : (us : List UserEvent) (anew : Bool) (given : List Bool) → given_from anew given us ≡ (tallied givings_with (let g : Givings = record { given = given; anew = anew } in g) us).given
given-tallied [] anew given = refl
given-tallied (Asked ∷ us) anew given = given-tallied us true given
given-tallied (Gave text ∷ us) true given = given-tallied us false text
given-tallied (Gave text ∷ us) false given = given-tallied us false (given ++ text)
given-tallied (TookBits text ∷ us) anew given = given-tallied us anew given
given-tallied (AllowedBits bits ∷ us) anew given = given-tallied us anew given
given-tallied (CalledBack ∷ us) anew given = given-tallied us anew given
given-tallied (UserEvent.Closed ∷ us) anew given = given-tallied us anew given
given-tallied (OtherEvent ∷ us) anew given = given-tallied us anew given
