use Rattle.std.proofs.Common.{◌≡◌, Ok, refl, sym, ◌∙◌}
use Rattle.ncp_numbers.specs.Bytes.{bits_of_bytes}
use Rattle.ncp_leader.specs.Bytes.{leader_bytes}
use Rattle.ncp_leader.proofs.Fronts.{leader_read, leader_spelled}
use Rattle.ncp_leader.proofs.Leaders.{BeginsWith-bits}
use Rattle.ncp_leader.proofs.leader.put_leader.Goals as goal

pub unwrap-requires : goal.unwrap-requires
unwrap-requires c =
    let read : c.from_bytes.result ≡ Ok (bits_of_bytes (leader_bytes c.args.leader.now)) = (rw c.leader_bytes.ensures.bytes at c.from_bytes.ensures.read) ∙ leader_read _ _ _ _ in
    rw read refl

pub returns-clause-bits : goal.returns-clause-bits
returns-clause-bits c =
    let read : c.from_bytes.result ≡ Ok (bits_of_bytes (leader_bytes c.args.leader.now)) = (rw c.leader_bytes.ensures.bytes at c.from_bytes.ensures.read) ∙ leader_read _ _ _ _ in
    let bits : c.unwrap.result ≡ bits_of_bytes (leader_bytes c.args.leader.now) = let e : Ok c.unwrap.result ≡ Ok (bits_of_bytes (leader_bytes c.args.leader.now)) = sym c.unwrap.ensures ∙ read in cc in
    bits ∙ leader_spelled c.args.leader.now c.requires.kind

pub returns-clause-begins : goal.returns-clause-begins
returns-clause-begins c =
    BeginsWith-bits c.args.leader.now c.unwrap.result c.leader_bytes.ensures.fits (returns-clause-bits c)
