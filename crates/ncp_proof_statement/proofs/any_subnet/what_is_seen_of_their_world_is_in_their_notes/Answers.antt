use Rattle.ncp_proof_statement.proofs.Resting.{seen-is, notes-are, this-past, that-past}
use Rattle.ncp_proof_statement.proofs.any_subnet.what_is_seen_of_their_world_is_in_their_notes.Goals as goal

pub returns-clause-seen : goal.returns-clause-seen
returns-clause-seen c a b ns k = seen-is a b ns k

pub returns-clause-notes : goal.returns-clause-notes
returns-clause-notes c a b ns k side = notes-are a b ns k side

pub returns-clause-here : goal.returns-clause-here
returns-clause-here c a b ns k pair =
    this-past a b ns k
    (λ q. c.the_histories_are_of_the_notes_of_each_host.ensures.here k.more k.world q k.is)
    (λ q. c.the_histories_are_of_the_notes_of_each_host.ensures.there k.more k.world q k.is)
    pair

pub returns-clause-there : goal.returns-clause-there
returns-clause-there c a b ns k pair =
    that-past a b ns k
    (λ q. c.the_histories_are_of_the_notes_of_each_host.ensures.here k.more k.world q k.is)
    (λ q. c.the_histories_are_of_the_notes_of_each_host.ensures.there k.more k.world q k.is)
    pair
