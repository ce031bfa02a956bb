use Rattle.std.proofs.Common.{◌≡◌, ℕ, zero, suc, Bool, true, List, Some, inl, inr, ap, arith}
use Rattle.ncp_slot.specs.declared.slot.Slot.TheVariants.{Ready}
use Rattle.ncp_slot.specs.Slots.{HasSlot, LinkSlot, slot_at}
use Rattle.ncp_peer.specs.PeerState.{PeerState}
use Rattle.ncp_peer.specs.Output.{output_by, output_on}
use Rattle.ncp_peer.specs.Readiness.{is_ready_by, is_link_ready, IsMessageTo}
use Rattle.ncp_host.proofs.laws.the_first_that_is_ready_goes_out.Goals as goal

zero_has : HasSlot 0
zero_has = (λ z. absurd (cc z), omega arith)

ready_there : (s : PeerState) (again : List Bool) → slot_at s.slots 0 ≡ Ready again → is_link_ready 0 s ≡ true
ready_there s again e = ap (λ (slot : LinkSlot). is_ready_by slot 0 s.peer) e

said_there : (number : ℕ) (s : PeerState) (again : List Bool) → slot_at s.slots 0 ≡ Ready again → output_on number 0 s ≡ Some again
said_there number s again e = ap (λ (slot : LinkSlot). output_by slot number 0 s.peer) e

is_there : (p : ℕ × PeerState) (again message : List Bool) → slot_at p.1.slots 0 ≡ Ready again → IsMessageTo p message → message ≡ again
is_there p again message e (zero, first, said) = cc (said_there p.0 p.1 again e, said)
is_there p again message e (suc on, first, said) = absurd (cc (ready_there p.1 again e, first.first 0 (omega arith) zero_has))

pub returns-clause-may : goal.returns-clause-may
returns-clause-may c p ps again e = inl (0, record { link = zero_has; ready = ready_there p.1 again e; first = λ lower b has. absurd (omega arith) }, said_there p.0 p.1 again e)

pub returns-clause-alone : goal.returns-clause-alone
returns-clause-alone c p ps again message e next =
    elim next [ inl here ↦ is_there p again message e here | inr behind ↦ absurd (cc (ready_there p.1 again e, behind.0 0 zero_has)) ]

pub returns-clause-following : goal.returns-clause-following
returns-clause-following c p q ps again message none e next =
    elim next [
      | inl here ↦ absurd (cc (here.1.ready, none here.0 here.1.link))
      | inr behind ↦ returns-clause-alone c q ps again message e behind.1
    ]

pub returns-clause-lower : goal.returns-clause-lower
returns-clause-lower c lower on s b has ready first = cc (ready, first.first lower b has)
