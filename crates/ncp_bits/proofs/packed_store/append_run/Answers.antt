use Rattle.std.proofs.Common.{◌++◌, ap, ◌∙◌, arith}
use Rattle.ncp_bits.proofs.Joins.{run_written}
use Rattle.ncp_bits.proofs.packed_store.append_run.Goals as goal

pub returns-clause-held : goal.returns-clause-held
returns-clause-held c =
    run_written c.write_after.new.out c.make_room-front.new.bytes c.args.part.now c.make_room-front.result c.args.len (omega arith) c.write_after.ensures
    ∙ ap (λ bits. bits ++ c.args.part.now) c.make_room-front.ensures.held
