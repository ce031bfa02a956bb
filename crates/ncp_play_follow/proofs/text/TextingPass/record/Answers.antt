use Rattle.std.proofs.Common.{◌∙◌, ◌++◌, Bool, List, ap, subst}
use Rattle.ncp_numbers.specs.Bytes.{bytes_of}
use Rattle.ncp_play_stream.specs.Streams.{WritesText, WritesPrefixOf}
use Rattle.ncp_play_stream.proofs.Saying.{answers_broken}
use Rattle.ncp_play_files.specs.Versions.{Recorded}
use Rattle.ncp_follow.specs.declared.follower.Follower.{Follower}
use Rattle.ncp_follow.specs.Connections.{index_numbered, numbered, connection_text}
use Rattle.ncp_follow.specs.Followed.{silent}
use Rattle.ncp_play_follow.specs.FollowedFiles.{after_seen}
use Rattle.ncp_play_follow.specs.FollowedTexts.{whole_bits, bits_left_over, bits_with, text_pass}
use Rattle.ncp_play_follow.proofs.FollowedPasses.{heard}
use Rattle.ncp_play_follow.proofs.text.TextingPass.record.Goals as goal

pub returns-clause-output : goal.returns-clause-output
returns-clause-output g c =
    let w = g.W.Sink in let old = c.args.self.now in let wanted = old.wanted in
    let seen : Recorded = record { capture_point = c.args.capture_point; message = c.args.message } in
    let after = heard old.follower.now c.hear.new.self c.args.number.now seen c.number.result c.is_sent.result c.host_of.result c.copy_from_part.new.self c.hear.ensures c.number.ensures c.is_sent.ensures c.host_of.ensures c.copy_from_part.ensures in
    let said = ap connection_text c.connection-connection.ensures ∙ ap (λ (f : Follower). connection_text (numbered f.tables.told (index_numbered wanted))) after in
    subst (λ (xs : List Bool). WritesText c.args.out.now.page.now (w.written c.args.out.now.sink.now) (bytes_of (whole_bits (old.spare ++ xs))) c.render_text.new.out.page.now (w.written c.render_text.new.out.sink.now)) said c.in_ok-render_text.ensures.output

pub returns-in_err-render_text-clause-output : goal.returns-in_err-render_text-clause-output
returns-in_err-render_text-clause-output g c =
    let w = g.W.Sink in let old = c.args.self.now in let wanted = old.wanted in
    let seen : Recorded = record { capture_point = c.args.capture_point; message = c.args.message } in
    let after = heard old.follower.now c.hear.new.self c.args.number.now seen c.number.result c.is_sent.result c.host_of.result c.copy_from_part.new.self c.hear.ensures c.number.ensures c.is_sent.ensures c.host_of.ensures c.copy_from_part.ensures in
    let said = ap connection_text c.connection-connection.ensures ∙ ap (λ (f : Follower). connection_text (numbered f.tables.told (index_numbered wanted))) after in
    answers_broken c.args.out.now.page.now (bytes_of (whole_bits (bits_with (text_pass.state old) c.args.number.now seen))) (w.written c.args.out.now.sink.now) (w.written c.render_text.new.out.sink.now) c.render_text.new.out.page.now c.from_residual.result c.from_residual.ensures.0
    (subst (λ (xs : List Bool). WritesPrefixOf c.args.out.now.page.now (w.written c.args.out.now.sink.now) (bytes_of (whole_bits (old.spare ++ xs))) (w.written c.render_text.new.out.sink.now)) said c.in_err-render_text.ensures.output)

pub returns-clause-state : goal.returns-clause-state
returns-clause-state g c =
    let old = c.args.self.now in let wanted = old.wanted in
    let seen : Recorded = record { capture_point = c.args.capture_point; message = c.args.message } in
    let after = heard old.follower.now c.hear.new.self c.args.number.now seen c.number.result c.is_sent.result c.host_of.result c.copy_from_part.new.self c.hear.ensures c.number.ensures c.is_sent.ensures c.host_of.ensures c.copy_from_part.ensures in
    let said = ap connection_text c.connection-connection.ensures ∙ ap (λ (f : Follower). connection_text (numbered f.tables.told (index_numbered wanted))) after in
    let spare = c.in_ok-render_text.ensures.spare ∙ ap (λ (xs : List Bool). bits_left_over (old.spare ++ xs)) said in
    let known = c.forget_text.ensures ∙ ap (silent wanted) after in
    ap (λ (f : Follower). record { wanted = wanted; follower = f; spare = c.render_text.new.spare }) known
    ∙ ap (λ (xs : List Bool). record { wanted = wanted; follower = silent wanted (after_seen old.follower.now c.args.number.now seen); spare = xs }) spare
