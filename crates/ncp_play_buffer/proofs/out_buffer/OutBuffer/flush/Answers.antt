use Rattle.std.proofs.Common.{◌∙◌, ◌+◌, ◌≤◌, false, [], List, ℕ, length, take, refl, ap, subst, le_trans, arith}
use Rattle.std.proofs.lemmas.List.{append-nil}
use Rattle.std.specs.Io.KnownBytes.{Appends}
use Rattle.std.proofs.lemmas.Result.{err_from_is_err_and}
use Rattle.ncp_play_buffer.proofs.Outcomes.{on_err_always}
use Rattle.ncp_play_stream.specs.Pieces.{bytes_and_writes, unpaid}
use Rattle.ncp_play_buffer.proofs.Pieces.{written_whole, written_twice, written_one, none_unpaid}
use Rattle.ncp_play_stream.proofs.Saying.{writes_flushed, writes_flushed_front}
use Rattle.ncp_play_buffer.proofs.out_buffer.OutBuffer.flush.Goals as goal

pub returns-in_err-put_all-clause-err : goal.returns-in_err-put_all-clause-err
returns-in_err-put_all-clause-err g c =
    let front = c.in_err-put_all.ensures.err in
    on_err_always c.from_residual.result (writes_flushed_front c.args.self.now front.0 (g.W.Sink.written c.args.sink.now) (g.W.Sink.written c.put_all.new.sink)
    (subst (λ (p : List ℕ). Appends (g.W.Sink.written c.args.sink.now) (g.W.Sink.written c.put_all.new.sink) (take front.0 p)) c.self.view_is front.1))

pub returns-clause-ok : goal.returns-clause-ok
returns-clause-ok g c =
    let page : List ℕ = take c.self.inside.len c.self.inside.bytes in (
      refl,
      writes_flushed c.args.self.now page [] (g.W.Sink.written c.args.sink.now) (g.W.Sink.written c.put_all.new.sink) c.in_ok-put_all.ensures.ok (append-nil page ∙ c.self.view_is),
    )

pub returns-clause-whole : goal.returns-clause-whole
returns-clause-whole g c = λ long.
    written_whole g.W.Sink.takes_all (g.W.Sink.writes c.args.sink.now) (g.W.Sink.writes c.put_all.new.sink) (g.W.Sink.written c.args.sink.now) (g.W.Sink.written c.put_all.new.sink) (take c.self.inside.len c.self.inside.bytes) c.in_ok-put_all.ensures.ok (λ all. omega (arith, c.in_ok-put_all.ensures.once all)) (omega (arith, ap length c.self.view_is))

pub returns-clause-one : goal.returns-clause-one
returns-clause-one g c =
    let page : List ℕ = take c.self.inside.len c.self.inside.bytes in
    let w = g.W.Sink in
    subst (λ (p : List ℕ). bytes_and_writes w.takes_all (w.writes c.args.sink.now) (w.written c.args.sink.now) + unpaid false p ≤ bytes_and_writes w.takes_all (w.writes c.put_all.new.sink) (w.written c.put_all.new.sink) + 4096)
    c.self.view_is
    (written_one w.takes_all (w.writes c.args.sink.now) (w.writes c.put_all.new.sink) (w.written c.args.sink.now) (w.written c.put_all.new.sink) page c.in_ok-put_all.ensures.ok c.in_ok-put_all.ensures.once)

pub returns-clause-writes : goal.returns-clause-writes
unfolding returns-clause-one
returns-clause-writes g c = le_trans (returns-clause-one g c) (omega arith)

pub returns-in_err-put_all-clause-whole : goal.returns-in_err-put_all-clause-whole
returns-in_err-put_all-clause-whole g c = λ long.
    let front = c.in_err-put_all.ensures.err in
    let p = err_from_is_err_and c.from_residual.result c.from_residual.ensures.1 in
    rw p.1 (written_twice g.W.Sink.takes_all (g.W.Sink.writes c.args.sink.now) (g.W.Sink.writes c.put_all.new.sink) (g.W.Sink.written c.args.sink.now) (g.W.Sink.written c.put_all.new.sink) (take front.0 (take c.self.inside.len c.self.inside.bytes)) front.1 c.put_all.ensures.twice)

pub returns-in_err-put_all-clause-writes : goal.returns-in_err-put_all-clause-writes
returns-in_err-put_all-clause-writes g c =
    let front = c.in_err-put_all.ensures.err in
    let twice = written_twice g.W.Sink.takes_all (g.W.Sink.writes c.args.sink.now) (g.W.Sink.writes c.put_all.new.sink) (g.W.Sink.written c.args.sink.now) (g.W.Sink.written c.put_all.new.sink) (take front.0 (take c.self.inside.len c.self.inside.bytes)) front.1 c.put_all.ensures.twice in
    let none = none_unpaid c.args.self.now (omega (arith, ap length c.self.view_is, c.in_err-put_all.ensures.some)) in
    omega (arith, twice, none)
