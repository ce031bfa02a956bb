-- A reply answers what is due, or it does not.
use Rattle.std.proofs.Common.{inl, inr, refl}
use Rattle.ncp_proof_monitor_replies.specs.EchoOwed.{OtherWaits, NoneWaits}
use Rattle.ncp_proof_monitor_replies.proofs.owing.an_echo_is_owed.Goals as goal

pub returns : goal.returns
returns c = record {
  waits = inr (record { answers = refl; exact = refl; open_still = refl }, tt);
  other = other;
  none = none;
}
  where
    other : OtherWaits → ⊥
    other (inl (lacks, never)) = never
    other (inr (given, rest)) = cc given.answers

    none : NoneWaits → ⊥
    none (lacks, rest) = cc lacks.lacks
