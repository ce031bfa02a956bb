use Rattle.std.proofs.Common.{refl}
use Rattle.ncp_proof_connection.proofs.runs.either_side_closes_with_a_text_out.Goals as goal

pub returns-clause-by_receiver : goal.returns-clause-by_receiver
returns-clause-by_receiver c = refl

pub returns-clause-by_receiver_there : goal.returns-clause-by_receiver_there
returns-clause-by_receiver_there c = refl

pub returns-clause-by_receiver_to_sender : goal.returns-clause-by_receiver_to_sender
returns-clause-by_receiver_to_sender c = refl

pub returns-clause-by_receiver_to_receiver : goal.returns-clause-by_receiver_to_receiver
returns-clause-by_receiver_to_receiver c = refl

pub returns-clause-late : goal.returns-clause-late
returns-clause-late c = refl

pub returns-clause-by_sender : goal.returns-clause-by_sender
returns-clause-by_sender c = refl

pub returns-clause-by_sender_there : goal.returns-clause-by_sender_there
returns-clause-by_sender_there c = refl

pub returns-clause-by_sender_to_sender : goal.returns-clause-by_sender_to_sender
returns-clause-by_sender_to_sender c = refl

pub returns-clause-by_sender_to_receiver : goal.returns-clause-by_sender_to_receiver
returns-clause-by_sender_to_receiver c = refl

pub returns-clause-taken : goal.returns-clause-taken
returns-clause-taken c = refl

pub returns-clause-outlives : goal.returns-clause-outlives
returns-clause-outlives c = refl
