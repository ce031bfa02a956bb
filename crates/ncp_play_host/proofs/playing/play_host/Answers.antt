use Rattle.std.proofs.Common.{◌≡◌, ◌∙◌, ◌||◌, [], Some, true, false, sym, ap, rules}
use Rattle.std.proofs.lemmas.List.{append-nil}
use Rattle.ncp_play_stream.specs.Streams.{SaidSoFar}
use Rattle.ncp_play_notes.specs.Faults.{play_write_failed}
use Rattle.ncp_play_host.proofs.Whole.{played_failed, played_whole, played_broken}
use Rattle.ncp_play_host.proofs.playing.play_host.Goals as goal

pub returns-then-failed-clause-output : goal.returns-then-failed-clause-output
returns-then-failed-clause-output g c =
    let same_sink : c.play_script-played.new.out.sink.now ≡ c.sink-1.given.0 = search rules in
    rw (← same_sink) (
    λ bytes was e f.
    let played = c.play_script-played.result in
    let mark = c.play_script-played.ensures.sink_mark ∙ ap (λ b. b || play_write_failed played) c.requires.sink_clean in
    let blamed : play_write_failed played ≡ true = sym mark ∙ sym c.failed.ensures ∙ c.if-failed.true in
    let said : SaidSoFar was c.new-page.result (g.W.Sink.written c.args.sink.now) [] = ([], f ∙ ap Some (sym (append-nil was)), c.new-page.ensures) in
    played_failed bytes was played (g.R.Source.left c.play_script-played.new.source) c.play_script-played.new.out.page.now (g.W.Sink.written c.play_script-played.new.out.sink.now) (c.play_script-played.ensures.output bytes was e said) blamed)

pub returns-in-Ok-clause-output : goal.returns-in-Ok-clause-output
returns-in-Ok-clause-output g c =
    let same_sink : c.flush.new.self.sink.now ≡ c.sink-2-1.given.0 = search rules in
    rw (← same_sink) (
    λ bytes was e f.
    let played = c.play_script-played.result in
    let mark = c.play_script-played.ensures.sink_mark ∙ ap (λ b. b || play_write_failed played) c.requires.sink_clean in
    let blamed : play_write_failed played ≡ false = sym mark ∙ sym c.failed.ensures ∙ c.if-failed.false in
    let said : SaidSoFar was c.new-page.result (g.W.Sink.written c.args.sink.now) [] = ([], f ∙ ap Some (sym (append-nil was)), c.new-page.ensures) in
    played_whole bytes was (g.R.Source.left c.play_script-played.new.source) c.play_script-played.new.out.page.now c.flush.new.self.page.now (g.W.Sink.written c.play_script-played.new.out.sink.now) (g.W.Sink.written c.flush.new.self.sink.now) c.in-Ok.ensures.ok played
    (c.play_script-played.ensures.output bytes was e said) blamed)

pub returns-in-Err-clause-output : goal.returns-in-Err-clause-output
returns-in-Err-clause-output g c =
    let same_sink : c.flush.new.self.sink.now ≡ c.sink-2-1.given.0 = search rules in
    rw (← same_sink) (
    λ bytes was e f.
    let played = c.play_script-played.result in
    let mark = c.play_script-played.ensures.sink_mark ∙ ap (λ b. b || play_write_failed played) c.requires.sink_clean in
    let blamed : play_write_failed played ≡ false = sym mark ∙ sym c.failed.ensures ∙ c.if-failed.false in
    let said : SaidSoFar was c.new-page.result (g.W.Sink.written c.args.sink.now) [] = ([], f ∙ ap Some (sym (append-nil was)), c.new-page.ensures) in
    played_broken bytes was (g.R.Source.left c.play_script-played.new.source) c.play_script-played.new.out.page.now (g.W.Sink.written c.play_script-played.new.out.sink.now) (g.W.Sink.written c.flush.new.self.sink.now) c.in-Err.ensures.err played
    (c.play_script-played.ensures.output bytes was e said) blamed)
