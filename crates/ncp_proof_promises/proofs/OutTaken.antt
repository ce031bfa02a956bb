-- What goes out the subnet takes.
use Rattle.std.proofs.Common.{◌≡◌, ℕ, ◌==◌, true, Bool, if◌then◌else◌, List, Option, None, Some, ap, arith}
use Rattle.ncp_proof_machine.specs.Hosts.{TwoNodes}
use Rattle.ncp_transcript_two.specs.Subnet.{Holds, Free, Accepted, Delivered, Lost, Dead, TransitByLink, set_at, link_in}
use Rattle.ncp_transcript_two.specs.World.{World, NoteBody, Call_is_made, Goes_out, Is_delivered, Is_lost, Finds_dead, Is_answered, moves, goes, delivers, loses, dies, answers_for, WorldStep}
use Rattle.ncp_transcript_two.specs.Tie.{Refines, IsMove}
use Rattle.ncp_peer.specs.Output.{next_of}
use Rattle.ncp_proof_promises.specs.Taking.{IsTaken}

same : (n : ℕ) → (n == n) ≡ true
same n = grind arith

pub set-there : (on : ℕ) (holds : Holds) (u : TransitByLink) → set_at on holds u on ≡ holds
set-there on holds u = ap (λ (b : Bool). if b then holds else u on) (same on)

abbrev Does : World → World × NoteBody → Type 0
Does v did = IsTaken did.1 v did.0

pub out-taken : (o : Option (ℕ × List Bool)) (v : World) → Does v (goes o v)
out-taken None v = tt
out-taken (Some out) v = set-there (link_in out.1) (Accepted out.1) v.going

comes : (on : ℕ) (holds : Holds) (v : World) → Does v (delivers on holds v)
comes on Free v = tt
comes on (Accepted m) v = tt
comes on Delivered v = tt
comes on Lost v = tt
comes on Dead v = tt

lost : (on : ℕ) (holds : Holds) (v : World) → Does v (loses on holds v)
lost on Free v = tt
lost on (Accepted m) v = tt
lost on Delivered v = tt
lost on Lost v = tt
lost on Dead v = tt

died : (on : ℕ) (holds : Holds) (v : World) → Does v (dies on holds v)
died on Free v = tt
died on (Accepted m) v = tt
died on Delivered v = tt
died on Lost v = tt
died on Dead v = tt

answered : (on : ℕ) (holds : Holds) (v : World) → Does v (answers_for on holds v)
answered on Free v = tt
answered on (Accepted m) v = tt
answered on Delivered v = tt
answered on Lost v = tt
answered on Dead v = tt

pub is-taken : (st : WorldStep) (x : TwoNodes) (v : World) → IsMove st → Refines x v → IsTaken (moves st v).1 v (moves st v).0
is-taken (Call_is_made asked) x v ok t = tt
is-taken Goes_out x v ok t = out-taken (next_of v.there v.this) v
is-taken (Is_delivered on) x v ok t = comes on (v.going on) v
is-taken (Is_lost on) x v ok t = lost on (v.going on) v
is-taken (Finds_dead on) x v ok t = died on (v.going on) v
is-taken (Is_answered on) x v ok t = answered on (v.going on) v
