-- The parts of words that are near; and how much the others have in common.
use Rattle.std.proofs.Common.{◌≡◌, ◌≤◌, ◌+◌, [], length, refl, arith, codes}
use Rattle.ncp_play_explain.proofs.Nearness.{near_shares, near_size}
use Rattle.ncp_play_explain.proofs.laws.near_words_are_these.Goals as goal

pub returns-clause-missing : goal.returns-clause-missing
returns-clause-missing c = record { front = codes "res"; here = []; there = codes "e"; end = codes "t"; word_is = refl; known_is = refl; few_here = omega arith; few_there = omega arith; common = omega arith }

pub returns-clause-too_many : goal.returns-clause-too_many
returns-clause-too_many c = record { front = codes "wake"; here = codes "up"; there = []; end = []; word_is = refl; known_is = refl; few_here = omega arith; few_there = omega arith; common = omega arith }

pub returns-clause-capital : goal.returns-clause-capital
returns-clause-capital c = record { front = codes "reset"; here = []; there = []; end = []; word_is = refl; known_is = refl; few_here = omega arith; few_there = omega arith; common = omega arith }

pub returns-clause-underscore : goal.returns-clause-underscore
returns-clause-underscore c = record { front = codes "ask-send"; here = []; there = []; end = []; word_is = refl; known_is = refl; few_here = omega arith; few_there = omega arith; common = omega arith }

pub returns-clause-three_letters : goal.returns-clause-three_letters
returns-clause-three_letters c = λ n.
    let shared : (length n.front ≤ 4) × (length n.end ≤ 0) = near_shares (codes "closing") (codes "close") n in
    let sizes : (7 ≡ length n.front + length n.here + length n.end) × (5 ≡ length n.front + length n.there + length n.end) = near_size (codes "closing") (codes "close") n in
    let here = n.few_here in let there = n.few_there in let common = n.common in
    absurd (omega (arith, shared.0, shared.1, sizes.0, sizes.1, here, there, common))

pub returns-clause-two_places : goal.returns-clause-two_places
returns-clause-two_places c = λ n.
    let shared : (length n.front ≤ 3) × (length n.end ≤ 2) = near_shares (codes "allacote") (codes "allocate") n in
    let sizes : (8 ≡ length n.front + length n.here + length n.end) × (8 ≡ length n.front + length n.there + length n.end) = near_size (codes "allacote") (codes "allocate") n in
    let here = n.few_here in let there = n.few_there in let common = n.common in
    absurd (omega (arith, shared.0, shared.1, sizes.0, sizes.1, here, there, common))

pub returns-clause-one_in_common : goal.returns-clause-one_in_common
returns-clause-one_in_common c = λ n.
    let shared : (length n.front ≤ 0) × (length n.end ≤ 1) = near_shares (codes "an") (codes "in") n in
    let sizes : (2 ≡ length n.front + length n.here + length n.end) × (2 ≡ length n.front + length n.there + length n.end) = near_size (codes "an") (codes "in") n in
    let here = n.few_here in let there = n.few_there in let common = n.common in
    absurd (omega (arith, shared.0, shared.1, sizes.0, sizes.1, here, there, common))
