use Rattle.std.proofs.Common.{◌≡◌, ◌∙◌, ◌++◌, [], decimal, ap, sym, subst}
use Rattle.std.proofs.lemmas.List.{append-nil}
use Rattle.ncp_leader.specs.Message.{message_in}
use Rattle.ncp_play_files.specs.Lines.{capture_point_words, summary, record_first_line, details, message_lines}
use Rattle.ncp_play_stream.specs.Streams.{WritesText, WritesPrefixOf, WritesTextOrPrefixOf}
use Rattle.ncp_play_files.proofs.Choosing.{details_of_regular, details_of_other}
use Rattle.ncp_play_stream.proofs.Saying.{answers_after, answers_broken, writes_prefix_longer}
use Rattle.ncp_play_files.proofs.record.render_record.Goals as goal

pub returns-in_err-render_first_line-clause-output : goal.returns-in_err-render_first_line-clause-output
returns-in_err-render_first_line-clause-output g c =
    let w = g.W.Sink in let message = c.args.message.now in
    let was = w.written c.args.out.now.sink.now in let now = w.written c.render_first_line.new.out.sink.now in
    let first : decimal c.args.number.now ++ capture_point_words c.args.capture_point ++ summary c.args.capture_point.direction c.read_leader_in-leader.result ≡ record_first_line c.args.capture_point c.args.number.now message =
    ap (λ leader. decimal c.args.number.now ++ capture_point_words c.args.capture_point ++ summary c.args.capture_point.direction leader) c.read_leader_in-leader.ensures.exact in
    answers_broken c.args.out.now.page.now _ was now c.render_first_line.new.out.page.now c.from_residual.result c.from_residual.ensures.0 (
    subst (λ text. WritesPrefixOf c.args.out.now.page.now was (text ++ details message) now) first
    (writes_prefix_longer c.args.out.now.page.now _ (details message) was now c.in_err-render_first_line.ensures.output))

pub returns-then-has_details-clause-output : goal.returns-then-has_details-clause-output
returns-then-has_details-clause-output g c =
    let w = g.W.Sink in let message = c.args.message.now in
    let was = w.written c.args.out.now.sink.now in let mid = w.written c.render_first_line.new.out.sink.now in let now = w.written c.render_details.new.out.sink.now in
    let first : decimal c.args.number.now ++ capture_point_words c.args.capture_point ++ summary c.args.capture_point.direction c.read_leader_in-leader.result ≡ record_first_line c.args.capture_point c.args.number.now message =
    ap (λ leader. decimal c.args.number.now ++ capture_point_words c.args.capture_point ++ summary c.args.capture_point.direction leader) c.read_leader_in-leader.ensures.exact in
    let same : message_lines (message_in message) ≡ details message = details_of_regular message c.read_leader_in-leader.result c.read_leader_in-leader.ensures.exact (sym c.has_details.ensures ∙ c.if-has_details.true) in
    answers_after c.args.out.now.page.now (record_first_line c.args.capture_point c.args.number.now message) c.render_first_line.new.out.page.now (details message) c.render_details.new.out.page.now was mid now c.render_details.result
    (subst (λ text. WritesText c.args.out.now.page.now was text c.render_first_line.new.out.page.now mid) first c.in_ok-render_first_line.ensures.output)
    (subst (λ text. WritesTextOrPrefixOf c.render_first_line.new.out.page.now mid text c.render_details.result c.render_details.new.out.page.now now) same c.render_details.ensures.output)

pub returns-clause-output : goal.returns-clause-output
returns-clause-output g c =
    let w = g.W.Sink in let message = c.args.message.now in
    let was = w.written c.args.out.now.sink.now in let now = w.written c.render_first_line.new.out.sink.now in
    let first : decimal c.args.number.now ++ capture_point_words c.args.capture_point ++ summary c.args.capture_point.direction c.read_leader_in-leader.result ≡ record_first_line c.args.capture_point c.args.number.now message =
    ap (λ leader. decimal c.args.number.now ++ capture_point_words c.args.capture_point ++ summary c.args.capture_point.direction leader) c.read_leader_in-leader.ensures.exact in
    let none : [] ≡ details message = details_of_other message c.read_leader_in-leader.result c.read_leader_in-leader.ensures.exact (sym c.has_details.ensures ∙ c.if-has_details.false) in
    subst (λ text. WritesText c.args.out.now.page.now was text c.render_first_line.new.out.page.now now)
    (first ∙ sym (append-nil (record_first_line c.args.capture_point c.args.number.now message)) ∙ ap (λ text. record_first_line c.args.capture_point c.args.number.now message ++ text) none) c.in_ok-render_first_line.ensures.output
