-- What was taken since the ask is, at a receiver, what its history has as taken, whether its end is there or not; and at
-- any other pair it is nothing: after each run.
use Rattle.std.proofs.Common.{◌≡◌, ℕ, Bool, true, false, if◌then◌else◌, List, [], ◌++◌, Option, None, Some, refl, sym, ap, ◌∙◌, subst, arith}
use Rattle.std.proofs.lemmas.List.{append_assoc, append-nil}
use Rattle.std.specs.FinMap.{get}
use Rattle.ncp_model.specs.declared.pair.Pair.{Pair}
use Rattle.ncp_model.specs.Pairs.{sends, receives}
use Rattle.ncp_model.specs.Endpoint.{Endpoint}
use Rattle.ncp_model.specs.EndpointEvents.{EndpointEvent, happens}
use Rattle.ncp_model.specs.Demux.{suits}
use Rattle.ncp_proof_endpoint.specs.Histories.{PairHistory, no_past, adds, opens, is_outcome_accepted, taken_out, reopened}
use Rattle.ncp_proof_endpoint.specs.Sound.{SoundAt}
use Rattle.ncp_proof_endpoint.proofs.SoundEnds.{one_way}
use Rattle.ncp_peer.specs.PeerState.{new_state}
use Rattle.ncp_transcript.specs.declared.note.HostNote.{HostNote}
use Rattle.ncp_proof_runs.specs.Histories.{past_then, past_so_far}
use Rattle.ncp_proof_runs.specs.Peers.{notes_for}
use Rattle.ncp_proof_statement.specs.Since.{use_then, did_run, tallied, Takings, no_takings, takings_with, takings_then, TakenSince}
use Rattle.ncp_proof_statement.proofs.Taking.{taken-kept}
use Rattle.ncp_proof_statement.proofs.Receiving.{as-then, no-sender}
use Rattle.ncp_proof_statement.proofs.Tallies.{Ties, new-kept, run-kept}

ruleset on_all = (append-nil, append_assoc)

-- at a receiver
same-kept : (pair : Pair) (what : EndpointEvent) (before : Option Endpoint) (past : PairHistory) (t : Takings) → sends pair ≡ false → suits pair what ≡ true → SoundAt pair before → TakenSince before past t → t.taken ≡ past.taken
    → (takings_then what (happens pair what before).outcome t).taken ≡ (adds what (happens pair what before).outcome (if opens before (happens pair what before).after then reopened past else past)).taken
same-kept pair (EndpointEvent.Asks_to_send of_size with_room own full) None past t n l s k e = grind (arith, on_all)
same-kept pair (EndpointEvent.Asks_to_send of_size with_room own full) (Some x) past t n l s k e = grind (arith, on_all)
same-kept pair (EndpointEvent.Asks_to_receive with_room on own full) None past t n l s k e = grind (arith, on_all)
same-kept pair (EndpointEvent.Asks_to_receive with_room on own full) (Some x) past t n l s k e = grind (arith, on_all)
same-kept pair (EndpointEvent.Closes full) None past t n l s k e = grind (arith, on_all)
same-kept pair (EndpointEvent.Closes full) (Some x) past t n l s k e = grind (arith, on_all)
same-kept pair (EndpointEvent.Gives text) None past t n l s k e = grind (arith, on_all)
same-kept pair (EndpointEvent.Gives text) (Some x) past t n l s k e = grind (arith, on_all)
same-kept pair (EndpointEvent.Takes bytes) None past t n l s k e = grind (arith, on_all)
same-kept pair (EndpointEvent.Takes bytes) (Some x) past t n l s k e = grind (arith, on_all)
same-kept pair (EndpointEvent.Allocates m b full) None past t n l s k e = grind (arith, on_all)
same-kept pair (EndpointEvent.Allocates m b full) (Some x) past t n l s k e = grind (arith, on_all)
same-kept pair (EndpointEvent.Calls_back m b full) None past t n l s k e = grind (arith, on_all)
same-kept pair (EndpointEvent.Calls_back m b full) (Some x) past t n l s k e = grind (arith, on_all)
same-kept pair (EndpointEvent.Interrupts full) None past t n l s k e = grind (arith, on_all)
same-kept pair (EndpointEvent.Interrupts full) (Some x) past t n l s k e = grind (arith, on_all)
same-kept pair (EndpointEvent.Rts_comes on taken by_peer) None past t n l s k e = grind (arith, on_all)
same-kept pair (EndpointEvent.Rts_comes on taken by_peer) (Some x) past t n l s k e = grind (arith, on_all)
same-kept pair (EndpointEvent.Str_comes of_size by_peer) None past t n l s k e = grind (arith, on_all)
same-kept pair (EndpointEvent.Str_comes of_size by_peer) (Some x) past t n l s k e = grind (arith, on_all)
same-kept pair EndpointEvent.Cls_comes None past t n l s k e = grind (arith, on_all)
same-kept pair EndpointEvent.Cls_comes (Some x) past t n l s k e = grind (arith, on_all)
same-kept pair (EndpointEvent.Ret_comes on m b) None past t n l s k e = grind (arith, on_all)
same-kept pair (EndpointEvent.Ret_comes on m b) (Some x) past t n l s k e = grind (arith, on_all)
same-kept pair (EndpointEvent.Ins_comes on) None past t n l s k e = grind (arith, on_all)
same-kept pair (EndpointEvent.Ins_comes on) (Some x) past t n l s k e = grind (arith, on_all)
same-kept pair (EndpointEvent.Text_comes head of_size text) None past t n l s k e = grind (arith, on_all)
same-kept pair (EndpointEvent.Text_comes head of_size text) (Some x) past t n l s k e = grind (arith, on_all)
same-kept pair EndpointEvent.Is_cleared None past t n l s k e = grind (arith, on_all)
same-kept pair EndpointEvent.Is_cleared (Some x) past t n l s k e = grind (arith, on_all)
same-kept pair (EndpointEvent.All_comes on m b) before past t n l s k e = absurd (cc (n, l))
same-kept pair (EndpointEvent.Gvb_comes on m b) before past t n l s k e = absurd (cc (n, l))
same-kept pair (EndpointEvent.Inr_comes on) before past t n l s k e = absurd (cc (n, l))
same-kept pair EndpointEvent.Text_goes_out before past t n l s k e = absurd (cc (n, l))
same-kept pair (EndpointEvent.Is_answered how) before past t n l s k e = absurd (cc (n, l))

-- at no receiver `take` answers nothing
nothing-out : (pair : Pair) (bytes : ℕ) (before : Option Endpoint) → receives pair ≡ false → taken_out (happens pair (EndpointEvent.Takes bytes) before).outcome ≡ []
nothing-out pair bytes None r = refl
nothing-out pair bytes (Some e) r = grind arith

asked-none : (b : Bool) (x : Takings) → x.taken ≡ [] → (if b then no_takings else x).taken ≡ []
asked-none true x k = refl
asked-none false x k = k

none-then : (pair : Pair) (what : EndpointEvent) (before : Option Endpoint) (x : Takings) → receives pair ≡ false → x.taken ≡ [] → (takings_then what (happens pair what before).outcome x).taken ≡ []
none-then pair (EndpointEvent.Asks_to_send of_size with_room own full) before x r k = asked-none (is_outcome_accepted (happens pair (EndpointEvent.Asks_to_send of_size with_room own full) before).outcome) x k
none-then pair (EndpointEvent.Asks_to_receive with_room on own full) before x r k = asked-none (is_outcome_accepted (happens pair (EndpointEvent.Asks_to_receive with_room on own full) before).outcome) x k
none-then pair (EndpointEvent.Takes bytes) before x r k = ap (λ (t : List Bool). t ++ taken_out (happens pair (EndpointEvent.Takes bytes) before).outcome) k ∙ nothing-out pair bytes before r
none-then pair what before x r k = k

abbrev pub IsAll : Pair → Option Endpoint → PairHistory → Takings → Type 0
IsAll pair end past x = (receives pair ≡ false → x.taken ≡ []) × (receives pair ≡ true → (x.taken ≡ past.taken) × TakenSince end past x)

all-step : (pair : Pair) (what : EndpointEvent) (o : Option Endpoint) (past : PairHistory) (x : Takings) → suits pair what ≡ true → SoundAt pair o → IsAll pair o past x
    → IsAll pair (happens pair what o).after (past_then o what (happens pair what o) past) (takings_with (use_then what (happens pair what o).outcome) x)
all-step pair what o past x fit s k =
    subst (λ (y : Takings). IsAll pair (happens pair what o).after (past_then o what (happens pair what o) past) y) (sym (as-then what (happens pair what o).outcome x)) (
      λ r. none-then pair what o x r (k.0 r),
      λ r. (same-kept pair what o past x (one_way pair r) fit s (k.1 r).1 (k.1 r).0, taken-kept pair what o past x (one_way pair r) fit s (k.1 r).1),
    )

all-ties : Ties Takings takings_with IsAll
all-ties = record {
  quiet = λ x. refl;
  step = all-step;
  ends = λ pair o past x k. (k.0, λ r. ((k.1 r).0, tt));
  goes = λ pair o past x h s k. (k.0, λ r. absurd (no-sender pair h r));
  frees = λ pair o past x h s k. (k.0, λ r. absurd (no-sender pair h r));
}

pub all-kept : (pair : Pair) (all_notes : List HostNote) → IsAll pair (get (notes_for all_notes new_state).peer.ends pair) (past_so_far pair all_notes) (tallied takings_with no_takings (did_run pair all_notes new_state))
all-kept pair all_notes =
    (run-kept Takings takings_with IsAll all-ties pair all_notes new_state no_past no_takings
    (new-kept Takings takings_with IsAll all-ties pair no_takings (λ r. refl, λ r. (refl, tt)))).1
