-- What the model says of a pair is so of the world of bits.
use Rattle.std.proofs.Common.{◌≡◌, true, false, List, ◌++◌, sym, ap, subst}
use Rattle.std.specs.FinMap.{get}
use Rattle.ncp_model.specs.declared.pair.Pair.{Pair}
use Rattle.ncp_model.specs.Pairs.{sends, counterpart}
use Rattle.ncp_model.specs.Endpoint.{is_live, or_new}
use Rattle.ncp_model.specs.Ends.{Ends}
use Rattle.ncp_proof_endpoint.specs.Books.{BooksAt}
use Rattle.ncp_model.specs.Peers.{Peer}
use Rattle.ncp_proof_machine.specs.Hosts.{NodeEvent, run, past_of}
use Rattle.ncp_proof_machine.specs.Hosts as hosts
use Rattle.ncp_proof_headline.specs.Headline.{BeginsInModel, TakenOrHeld, WithinAllocationInModel}
use Rattle.ncp_proof_headline.proofs.HostsHeld.{ever}
use Rattle.ncp_proof_headline.proofs.HostsHeadline.{begins, held_all, within}
use Rattle.ncp_transcript_two.specs.World.{World, swap}
use Rattle.ncp_transcript_two.specs.Watch.{Both, turn}
use Rattle.ncp_transcript_two.specs.Streams.{GotIsPrefix, GotIsTakenOrHeld, NeverBeyondAllocation}
use Rattle.ncp_transcript_two.proofs.Reaching.{of-reached}
use Rattle.ncp_transcript_two.proofs.Ties.{tied-swapped}
use Rattle.ncp_transcript_two.proofs.Runs.{OfModelWith, both}
use Rattle.ncp_proof_endpoint.specs.Histories.{IsPrefix}

module _ (pair : Pair) (s : sends pair ≡ true) (v : World) (p : Both) (t : OfModelWith p v) where
  -- what is said of these ends and these histories of the model
  moved : (P : Ends → Both → Type 0) → P t.0.that.ends (both t.0) → P v.that.peer.ends p
  moved P k = subst (λ (q : Peer). P q.ends p) (sym t.1.that.peer) (subst (λ (b : Both). P t.0.that.ends b) t.2 k)

  pub got-begins : GotIsPrefix pair v p
  got-begins = moved (λ m b. is_live (get m (counterpart pair)) ≡ true → IsPrefix (past_of b.that (counterpart pair)).got (past_of b.this pair).given)
      (of-reached (λ (w : hosts.TwoNodes). BeginsInModel pair w) (λ (es : List NodeEvent). let t = ever es in begins t.own t.own' (run es) t.holds t.stand pair s) t.0 t.1.reached)

  pub got-held : GotIsTakenOrHeld pair v p
  got-held = moved (λ m b. is_live (get m (counterpart pair)) ≡ true → (or_new (get m (counterpart pair))).left ≡ false → (past_of b.that (counterpart pair)).got ≡ (past_of b.that (counterpart pair)).taken ++ (or_new (get m (counterpart pair))).stored)
      (of-reached (λ (w : hosts.TwoNodes). TakenOrHeld pair w) (λ (es : List NodeEvent). let t = ever es in held_all t.own t.own' (run es) t.holds t.stand pair s) t.0 t.1.reached)

  pub got-within : NeverBeyondAllocation pair v p
  got-within = moved (λ m b. BooksAt (get m (counterpart pair)) (past_of b.that (counterpart pair)))
      (of-reached (λ (w : hosts.TwoNodes). WithinAllocationInModel pair w) (λ (es : List NodeEvent). let t = ever es in within t.own t.own' (run es) t.holds t.stand pair s) t.0 t.1.reached)

-- the other way
pub counterpart-over : (v : World) (p : Both) → OfModelWith p v → OfModelWith (turn p) (swap v)
counterpart-over v p t = (hosts.nodes_swapped t.0, tied-swapped t.0 v t.1, ap turn t.2)
