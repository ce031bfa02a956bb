use Rattle.std.proofs.Common.{false, Ok, Err, refl}
use Rattle.ncp_play_files.specs.Results.{is_read, is_write}
use Rattle.ncp_play_program.specs.Orders.{streams_of}
use Rattle.ncp_play_program.proofs.Blaming.{blames-exactly}
use Rattle.ncp_play_program.proofs.program.carry_out.Goals as goal

pub returns-in-Err-clause-does : goal.returns-in-Err-clause-does
returns-in-Err-clause-does g c = rw c.in-Show.is (Err c.in-Err.fault, refl, record { read_failed = c.in-Err.ensures.read_failed; write_failed = c.in-Err.ensures.write_failed; blamed = c.in-Err.ensures.blamed }, c.in-Err.ensures.output)

pub returns-in-Err-convert-clause-does : goal.returns-in-Err-convert-clause-does
returns-in-Err-convert-clause-does g c = rw c.in-Convert.is (Err c.in-Err-convert.fault, refl, record { read_failed = c.in-Err-convert.ensures.read_failed; write_failed = c.in-Err-convert.ensures.write_failed; blamed = c.in-Err-convert.ensures.blamed }, c.in-Err-convert.ensures.output)

pub returns-in-Ok-check-clause-does : goal.returns-in-Ok-check-clause-does
returns-in-Ok-check-clause-does g c = rw c.in-Check.is
    (Ok c.in-Ok-check.sound, refl, blames-exactly false false (streams_of (g.S.Source.left c.check.new.source) (g.S.Source.has_failed c.check.new.source) (g.W.Sink.written c.check.new.sink) (g.W.Sink.has_failed c.check.new.sink)) c.in-Ok-check.ensures.read_failed c.in-Ok-check.ensures.write_failed, c.in-Ok-check.ensures.output)

pub returns-in-Err-check-clause-does : goal.returns-in-Err-check-clause-does
returns-in-Err-check-clause-does g c = rw c.in-Check.is
    (Err c.in-Err-check.fault, refl, blames-exactly (is_read c.in-Err-check.fault) (is_write c.in-Err-check.fault) (streams_of (g.S.Source.left c.check.new.source) (g.S.Source.has_failed c.check.new.source) (g.W.Sink.written c.check.new.sink) (g.W.Sink.has_failed c.check.new.sink)) c.in-Err-check.ensures.read_failed c.in-Err-check.ensures.write_failed, c.in-Err-check.ensures.output)

pub returns-in-Ok-count-clause-does : goal.returns-in-Ok-count-clause-does
returns-in-Ok-count-clause-does g c = rw c.in-Count.is
    (Ok c.in-Ok-count.field-0, refl, record { read_failed = c.in-Ok-count.ensures.read_failed; write_failed = c.in-Ok-count.ensures.write_failed; blamed = c.in-Ok-count.ensures.blamed }, c.in-Ok-count.ensures.output)

pub returns-in-Err-count-clause-does : goal.returns-in-Err-count-clause-does
returns-in-Err-count-clause-does g c = rw c.in-Count.is (Err c.in-Err-count.fault, refl, record { read_failed = c.in-Err-count.ensures.read_failed; write_failed = c.in-Err-count.ensures.write_failed; blamed = c.in-Err-count.ensures.blamed }, c.in-Err-count.ensures.output)

pub returns-in-World-clause-does : goal.returns-in-World-clause-does
returns-in-World-clause-does g c = rw c.in-World.is
    (record { read_failed = c.play_world.ensures.read_failed; write_failed = c.play_world.ensures.write_failed; blamed = c.play_world.ensures.blamed }, λ bytes was left written. (c.play_world.ensures.output bytes was left written, c.play_world.ensures.many bytes was left written))

pub returns-in-Record-clause-does : goal.returns-in-Record-clause-does
returns-in-Record-clause-does g c = rw c.in-Record.is
    (record { read_failed = c.record_world.ensures.read_failed; write_failed = c.record_world.ensures.write_failed; blamed = c.record_world.ensures.blamed }, λ bytes was left written. (c.record_world.ensures.output bytes was left written, c.record_world.ensures.many bytes was left written))

pub returns-in-Audit-clause-does : goal.returns-in-Audit-clause-does
returns-in-Audit-clause-does g c = rw c.in-Audit.is c.judge.ensures.does

pub returns-in-Follow-clause-does : goal.returns-in-Follow-clause-does
returns-in-Follow-clause-does g c = rw c.in-Follow.is c.trace.ensures.does
