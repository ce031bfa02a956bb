use Rattle.std.proofs.Common.{◌≡◌, ◌∙◌, ap, sym, subst}
use Rattle.ncp_numbers.specs.Bytes.{bytes_of}
use Rattle.ncp_play_files.specs.Lines.{size_line, text_lines, text_line, control_lines}
use Rattle.ncp_play_stream.specs.Streams.{WritesTextOrPrefixOf}
use Rattle.ncp_play_files.proofs.Choosing.{lines_of_control, lines_of_text}
use Rattle.ncp_play_stream.proofs.Saying.{answers_after, answers_broken, writes_prefix_longer}
use Rattle.ncp_play_files.proofs.detail.render_message.Goals as goal

pub returns-in_err-render_size-clause-output : goal.returns-in_err-render_size-clause-output
returns-in_err-render_size-clause-output g c =
    let w = g.W.Sink in let message = c.args.message.now in
    let was = w.written c.args.out.now.sink.now in let now = w.written c.render_size.new.out.sink.now in
    answers_broken c.args.out.now.page.now _ was now c.render_size.new.out.page.now c.from_residual.result c.from_residual.ensures.0
    (writes_prefix_longer c.args.out.now.page.now (size_line message) (text_lines message) was now c.in_err-render_size.ensures.output)

pub returns-then-is_of_control-clause-output : goal.returns-then-is_of_control-clause-output
returns-then-is_of_control-clause-output g c =
    let w = g.W.Sink in let message = c.args.message.now in
    let was = w.written c.args.out.now.sink.now in let mid = w.written c.render_size.new.out.sink.now in let now = w.written c.render_commands.new.out.sink.now in
    let same : control_lines (bytes_of c.text.result) ≡ text_lines message = ap (λ text. control_lines (bytes_of text)) c.text.ensures.text ∙ lines_of_control message (sym c.is_of_control.ensures ∙ c.if-is_of_control.true) in
    answers_after c.args.out.now.page.now (size_line message) c.render_size.new.out.page.now (text_lines message) c.render_commands.new.out.page.now was mid now c.render_commands.result c.in_ok-render_size.ensures.output
    (subst (λ text. WritesTextOrPrefixOf c.render_size.new.out.page.now mid text c.render_commands.result c.render_commands.new.out.page.now now) same c.render_commands.ensures.output)

pub returns-else-is_of_control-clause-output : goal.returns-else-is_of_control-clause-output
returns-else-is_of_control-clause-output g c =
    let w = g.W.Sink in let message = c.args.message.now in
    let was = w.written c.args.out.now.sink.now in let mid = w.written c.render_size.new.out.sink.now in let now = w.written c.render_text.new.out.sink.now in
    let same : text_line c.text-else-is_of_control.result ≡ text_lines message = ap text_line c.text-else-is_of_control.ensures.text ∙ lines_of_text message (sym c.is_of_control.ensures ∙ c.if-is_of_control.false) in
    answers_after c.args.out.now.page.now (size_line message) c.render_size.new.out.page.now (text_lines message) c.render_text.new.out.page.now was mid now c.render_text.result c.in_ok-render_size.ensures.output
    (subst (λ text. WritesTextOrPrefixOf c.render_size.new.out.page.now mid text c.render_text.result c.render_text.new.out.page.now now) same c.render_text.ensures.output)
