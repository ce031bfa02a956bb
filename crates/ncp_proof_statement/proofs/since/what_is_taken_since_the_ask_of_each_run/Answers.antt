use Rattle.std.proofs.Common.{◌≡◌, ◌≤◌, ℕ, Bool, true, List, [], length, Option, Some, sym, ap, ◌∙◌, subst}
use Rattle.std.specs.FinMap.{get}
use Rattle.ncp_model.specs.declared.pair.Pair.{Pair}
use Rattle.ncp_model.specs.Pairs.{receives}
use Rattle.ncp_model.specs.Endpoint.{Endpoint}
use Rattle.ncp_peer.specs.PeerState.{PeerState, new_state}
use Rattle.ncp_host.specs.Host.{state_of, new_host}
use Rattle.ncp_transcript.specs.declared.note.HostNote.{HostNote}
use Rattle.ncp_transcript.specs.After.{after_notes}
use Rattle.ncp_proof_runs.specs.Peers.{FromBeginning, notes_of_peer}
use Rattle.ncp_proof_runs.specs.Histories.{past_so_far}
use Rattle.ncp_proof_runs.proofs.InRuns.{kept_as_noted}
use Rattle.ncp_statement.specs.Statement.{UserEvent, taken_from, allowed_from}
use Rattle.ncp_proof_statement.specs.Since.{did_run, tallied, Takings, no_takings, takings_with, TakenSince, uses_by}
use Rattle.ncp_proof_statement.proofs.Noted.{noted-from}
use Rattle.ncp_proof_statement.proofs.Receiving.{run-kept, taken-tallied, allowed-tallied}
use Rattle.ncp_proof_statement.proofs.since.what_is_taken_since_the_ask_of_each_run.Goals as goal

module _ (me : ℕ) (ns : List ℕ) (all : List HostNote) (n : ℕ) (pair : Pair) (from : FromBeginning me ns all) where
  abbrev Tally : Takings
  Tally = tallied takings_with no_takings (did_run pair (notes_of_peer n all) new_state)

  taken-is : taken_from [] (uses_by pair (notes_of_peer n all)) ≡ Tally.taken
  taken-is = taken-tallied (uses_by pair (notes_of_peer n all)) no_takings ∙ ap (λ (us : List UserEvent). (tallied takings_with no_takings us).taken) (noted-from me ns n pair [] all from)

  allowed-is : allowed_from 0 (uses_by pair (notes_of_peer n all)) ≡ Tally.allowed
  allowed-is = allowed-tallied (uses_by pair (notes_of_peer n all)) no_takings ∙ ap (λ (us : List UserEvent). (tallied takings_with no_takings us).allowed) (noted-from me ns n pair [] all from)

  since : (s : PeerState) (e : Endpoint) → state_of (after_notes all (new_host me ns)) n ≡ Some s → receives pair ≡ true → get s.peer.ends pair ≡ Some e → e.opened ≡ true → (Tally.taken ≡ (past_so_far pair (notes_of_peer n all)).taken) × (Tally.allowed ≡ (past_so_far pair (notes_of_peer n all)).granted.bits)
  since s e there r is live =
      let at : TakenSince (Some e) (past_so_far pair (notes_of_peer n all)) Tally =
      subst (λ (o : Option Endpoint). TakenSince o (past_so_far pair (notes_of_peer n all)) Tally)
      (ap (λ (x : PeerState). get x.peer.ends pair) (sym (kept_as_noted me ns all n s from there)) ∙ is) ((run-kept pair (notes_of_peer n all)).1 r).1 in
      at.0 live

pub returns-clause-taken : goal.returns-clause-taken
returns-clause-taken c me ns all n s pair from there e r is live = taken-is me ns all n pair from ∙ (since me ns all n pair from s e there r is live).0

pub returns-clause-allowed : goal.returns-clause-allowed
returns-clause-allowed c me ns all n s pair from there e r is live = allowed-is me ns all n pair from ∙ (since me ns all n pair from s e there r is live).1

pub returns-clause-within : goal.returns-clause-within
returns-clause-within c me ns all n pair from =
    subst (λ (t : List Bool). length t ≤ allowed_from 0 (uses_by pair (notes_of_peer n all))) (sym (taken-is me ns all n pair from))
    (subst (λ (m : ℕ). length (Tally me ns all n pair from).taken ≤ m) (sym (allowed-is me ns all n pair from)) (run-kept pair (notes_of_peer n all)).0)
