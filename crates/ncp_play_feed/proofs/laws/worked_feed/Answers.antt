use Rattle.std.proofs.Common.{refl, ◌∷◌, []}
use Rattle.ncp_numbers.specs.Numbers.{bits_of}
use Rattle.ncp_numbers.specs.Bytes.{byte_bits}
use Rattle.ncp_play_feed.proofs.laws.worked_feed.Goals as goal

pub returns-clause-whole : goal.returns-clause-whole
unfolding bits_of byte_bits
returns-clause-whole c = (0 ∷ 32 ∷ 5 ∷ 2 ∷ 0 ∷ 0 ∷ [], refl, ([], refl, refl))

pub returns-clause-cut : goal.returns-clause-cut
unfolding bits_of byte_bits
returns-clause-cut c = (0 ∷ 32 ∷ 5 ∷ 2 ∷ 0 ∷ 0 ∷ 0 ∷ [], refl, (0 ∷ [], refl, refl))
