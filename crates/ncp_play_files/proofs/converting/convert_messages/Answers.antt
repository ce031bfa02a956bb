use Rattle.std.proofs.Common.{◌≡◌, ◌++◌, ◌∙◌, ◌||◌, List, [], ℕ, Some, sym, ap, le_trans, arith}
use Rattle.std.proofs.Math.Bool.{or-false}
use Rattle.std.proofs.lemmas.List.{append-nil}
use Rattle.std.proofs.lemmas.Result.{err_from_is_err_and}
use Rattle.ncp_play_stream.specs.Streams.{SaidSoFar}
use Rattle.ncp_play_files.specs.Converted.{next_at}
use Rattle.ncp_play_files.specs.Versions.{header_of}
use Rattle.ncp_play_files.proofs.Turned.{at_front, turned_none, turned_broken, turned_more}
use Rattle.ncp_play_files.specs.Results.{is_read_failed, is_write_failed}
use Rattle.ncp_play_files.proofs.converting.convert_messages.Goals as goal

pub returns-in_err-found-clause-output : goal.returns-in_err-found-clause-output
returns-in_err-found-clause-output g c = λ bytes was a f.
    let p = err_from_is_err_and c.from_residual.result c.from_residual.ensures.1 in
    let turn = c.args.turn in
    let said : SaidSoFar was c.args.out.now.page.now (g.W.Sink.written c.args.out.now.sink.now) [] = ([], f ∙ ap Some (sym (append-nil was)), c.requires) in
    rw (p.1, p.2) (
    turned_none turn.to turn.given (next_at turn.from turn.wanted) (at_front turn.from turn.wanted) was bytes c.args.out.now.page.now (g.S.Source.left c.take_on.new.input.source.now) (g.W.Sink.written c.args.out.now.sink.now) c.in_err-found.field-0.0
    (c.in_err-found.ensures.output bytes a) said)

pub returns-then-not-found-clause-output : goal.returns-then-not-found-clause-output
returns-then-not-found-clause-output g c = λ bytes was a f.
    let none = rw c.if-not-found.true at (c.in_ok-found.ensures.output bytes a) in
    let page : c.push_header.new.page ≡ header_of c.args.turn.to = c.push_header.ensures.bytes ∙ ap (λ (page : List ℕ). page ++ header_of c.args.turn.to) c.requires in
    ([], none, ([], f ∙ ap Some (sym (append-nil was)), page))

pub returns-in-Ok-clause-output : goal.returns-in-Ok-clause-output
returns-in-Ok-clause-output g c = λ bytes was a f.
    let turn = c.args.turn in
    let read = rw c.if-not-found.false at (c.in_ok-found.ensures.output bytes a) in
    let page : c.push_header.new.page ≡ header_of turn.to = c.push_header.ensures.bytes ∙ ap (λ (page : List ℕ). page ++ header_of turn.to) c.requires in
    let head : SaidSoFar was c.push_header.new.page (g.W.Sink.written c.args.out.now.sink.now) (header_of turn.to) = ([], f ∙ ap Some (sym (append-nil was)), page) in
    turned_more turn.to turn.given (next_at turn.from turn.wanted) (at_front turn.from turn.wanted) was bytes read.0 c.take_on.new.message read.1 1 c.convert_rest.result c.convert_rest.new.out.page.now
    (g.S.Source.left c.convert_rest.new.input.source.now) (g.W.Sink.written c.convert_rest.new.out.sink.now) (c.convert_rest.ensures.output 1 read.0 was _ read.2 ((rw c.whole.ensures at c.in-Ok.ensures.output) was (header_of turn.to) head))

pub returns-in-Err-clause-output : goal.returns-in-Err-clause-output
returns-in-Err-clause-output g c = λ bytes was a f.
    let turn = c.args.turn in
    let read = rw c.if-not-found.false at (c.in_ok-found.ensures.output bytes a) in
    let page : c.push_header.new.page ≡ header_of turn.to = c.push_header.ensures.bytes ∙ ap (λ (page : List ℕ). page ++ header_of turn.to) c.requires in
    let head : SaidSoFar was c.push_header.new.page (g.W.Sink.written c.args.out.now.sink.now) (header_of turn.to) = ([], f ∙ ap Some (sym (append-nil was)), page) in
    let broken = rw c.whole.ensures at c.in-Err.ensures.output in
    turned_broken turn.to turn.given (next_at turn.from turn.wanted) (at_front turn.from turn.wanted) was bytes read.0 c.take_on.new.message read.1 broken.0 c.render_message.new.out.page.now
    (g.S.Source.left c.take_on.new.input.source.now) (g.W.Sink.written c.render_message.new.out.sink.now) (broken.1 was (header_of turn.to) head)

pub returns-in_err-found-clause-writes : goal.returns-in_err-found-clause-writes
returns-in_err-found-clause-writes g c = omega (arith, c.in_err-found.ensures.lowers)

pub returns-in_err-found-clause-sink_mark : goal.returns-in_err-found-clause-sink_mark
returns-in_err-found-clause-sink_mark g c =
    let p = err_from_is_err_and c.from_residual.result c.from_residual.ensures.1 in
    rw (p.1, p.2) (sym (or-false _) ∙ ap (λ b. g.W.Sink.has_failed c.args.out.now.sink.now || b) (sym c.in_err-found.ensures.other))

pub returns-then-not-found-clause-writes : goal.returns-then-not-found-clause-writes
returns-then-not-found-clause-writes g c = omega (arith, c.in_ok-found.ensures.lowers)

pub returns-then-not-found-clause-sink_mark : goal.returns-then-not-found-clause-sink_mark
returns-then-not-found-clause-sink_mark g c = sym (or-false _)

pub returns-in-Ok-clause-source_mark : goal.returns-in-Ok-clause-source_mark
returns-in-Ok-clause-source_mark g c = c.convert_rest.ensures.source_mark ∙ ap (λ b. b || is_read_failed c.convert_rest.result) (c.in_ok-found.ensures.mark ∙ or-false _)

pub returns-in-Ok-clause-writes : goal.returns-in-Ok-clause-writes
returns-in-Ok-clause-writes g c = omega (arith, c.in_ok-found.ensures.lowers, c.in-Ok.ensures.writes, c.convert_rest.ensures.writes)

pub returns-in-Ok-clause-sink_mark : goal.returns-in-Ok-clause-sink_mark
returns-in-Ok-clause-sink_mark g c = c.convert_rest.ensures.sink_mark ∙ ap (λ b. b || is_write_failed c.convert_rest.result) (c.in-Ok.ensures.mark ∙ or-false _)

pub returns-in-Ok-clause-reads : goal.returns-in-Ok-clause-reads
returns-in-Ok-clause-reads g c = le_trans (c.in_ok-found.ensures.taken c.if-not-found.false) c.convert_rest.ensures.reads

pub returns-in-Err-clause-writes : goal.returns-in-Err-clause-writes
returns-in-Err-clause-writes g c = omega (arith, c.in_ok-found.ensures.lowers, c.in-Err.ensures.writes)
