use Rattle.ncp_proof_endpoint.proofs.OneCls.{cls-made, cls-once, cls-none, cls-sockets, cls-waits, cls-dropped}
use Rattle.ncp_proof_endpoint.proofs.one_cls.a_cls_is_made_where_an_end_is_left.Goals as goal

pub returns-clause-made : goal.returns-clause-made
returns-clause-made c = cls-made

pub returns-clause-once : goal.returns-clause-once
returns-clause-once c = cls-once

pub returns-clause-none : goal.returns-clause-none
returns-clause-none c = cls-none

pub returns-clause-its_sockets : goal.returns-clause-its_sockets
returns-clause-its_sockets c = cls-sockets

pub returns-clause-waits : goal.returns-clause-waits
returns-clause-waits c = cls-waits

pub returns-clause-dropped : goal.returns-clause-dropped
returns-clause-dropped c = cls-dropped
