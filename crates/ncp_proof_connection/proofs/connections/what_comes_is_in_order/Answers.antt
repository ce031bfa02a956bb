use Rattle.std.proofs.Common.{List, subst}
use Rattle.std.proofs.lemmas.Bool.{lt-ltb}
use Rattle.ncp_wire.specs.declared.command.Command.{Command}
use Rattle.ncp_proof_connection.specs.Connections.{Text, occur}
use Rattle.ncp_proof_connection.proofs.Whole.{Inv, ever}
use Rattle.ncp_proof_connection.proofs.InOrder.{sender_in_order, receiver_in_order, text_in_order}
use Rattle.ncp_proof_connection.proofs.connections.what_comes_is_in_order.Goals as goal

pub returns-clause-to_sender : goal.returns-clause-to_sender
returns-clause-to_sender c = λ pair events d rest n sd few e. sender_in_order pair sd n (lt-ltb n 64 few) d rest (occur pair events) (subst (λ (q : List Command). Inv pair (record (occur pair events) { to_sender = q })) e (ever pair sd events))

pub returns-clause-to_receiver : goal.returns-clause-to_receiver
returns-clause-to_receiver c = λ pair events d rest n sd few e. receiver_in_order pair sd n (lt-ltb n 64 few) d rest (occur pair events) (subst (λ (q : List Command). Inv pair (record (occur pair events) { to_receiver = q })) e (ever pair sd events))

pub returns-clause-text : goal.returns-clause-text
returns-clause-text c = λ pair events head li n bits sd e. text_in_order pair sd head li n bits (occur pair events) (subst (λ (t : Text). Inv pair (record (occur pair events) { text = t })) e (ever pair sd events))
