use Rattle.std.proofs.Common.{◌≡◌, ◌∙◌, ◌||◌, true, false, sym, ap, le_refl, rules}
use Rattle.std.proofs.Math.Bool.{or-false}
use Rattle.ncp_play_files.specs.Results.{is_read_failed, is_write_failed}
use Rattle.ncp_play_files.specs.Converted.{ConvertedAs, ConvertedCut}
use Rattle.ncp_play_files.proofs.Progress.{wrote_failed, wrote_flushed, wrote_broken}
use Rattle.ncp_play_files.proofs.ConvertedFiles.{converted_longer}
use Rattle.ncp_play_files.proofs.Limits.{reads_done, writes_done, unpaid_few}
use Rattle.ncp_play_files.proofs.Waiting.{paid_flushed}
use Rattle.ncp_play_stream.specs.Pieces.{unpaid}
use Rattle.ncp_play_files.proofs.converting.convert.Goals as goal

pub returns-then-failed-clause-output : goal.returns-then-failed-clause-output
returns-then-failed-clause-output g c =
    let same_source : c.convert_file-converted.new.input.source.now ≡ c.source-1.given.0 = search rules in
    let same_sink : c.convert_file-converted.new.out.sink.now ≡ c.sink-1.given.0 = search rules in
    rw (← same_source, ← same_sink) (
    λ bytes was e f.
    let shown = c.convert_file-converted.result in
    let mark = c.convert_file-converted.ensures.sink_mark ∙ ap (λ b. b || is_write_failed shown) c.requires.sink_clean in
    let blamed : is_write_failed shown ≡ true = sym mark ∙ sym c.failed.ensures ∙ c.if-failed.true in
    wrote_failed (ConvertedAs c.args.at) (ConvertedCut c.args.at) (converted_longer c.args.at) bytes was c.convert_file-converted.new.out.page.now (g.S.Source.left c.convert_file-converted.new.input.source.now) (g.W.Sink.written c.convert_file-converted.new.out.sink.now) shown (c.convert_file-converted.ensures.output bytes was e f) blamed)

pub returns-in-Ok-clause-output : goal.returns-in-Ok-clause-output
returns-in-Ok-clause-output g c =
    let same_source : c.convert_file-converted.new.input.source.now ≡ c.source-1.given.0 = search rules in
    let same_sink : c.flush.new.self.sink.now ≡ c.sink-2-1.given.0 = search rules in
    rw (← same_source, ← same_sink) (
    λ bytes was e f.
    let shown = c.convert_file-converted.result in
    let mark = c.convert_file-converted.ensures.sink_mark ∙ ap (λ b. b || is_write_failed shown) c.requires.sink_clean in
    let blamed : is_write_failed shown ≡ false = sym mark ∙ sym c.failed.ensures ∙ c.if-failed.false in
    wrote_flushed (ConvertedAs c.args.at) (ConvertedCut c.args.at) (converted_longer c.args.at) bytes was c.convert_file-converted.new.out.page.now c.flush.new.self.page.now (g.S.Source.left c.convert_file-converted.new.input.source.now) (g.W.Sink.written c.convert_file-converted.new.out.sink.now) (g.W.Sink.written c.flush.new.self.sink.now) shown
    (c.convert_file-converted.ensures.output bytes was e f) c.in-Ok.ensures.ok blamed)

pub returns-in-Err-clause-output : goal.returns-in-Err-clause-output
returns-in-Err-clause-output g c =
    let same_sink : c.flush.new.self.sink.now ≡ c.sink-2-1.given.0 = search rules in
    rw (← same_sink) (
    λ bytes was e f.
    let shown = c.convert_file-converted.result in
    let mark = c.convert_file-converted.ensures.sink_mark ∙ ap (λ b. b || is_write_failed shown) c.requires.sink_clean in
    let blamed : is_write_failed shown ≡ false = sym mark ∙ sym c.failed.ensures ∙ c.if-failed.false in
    wrote_broken (ConvertedAs c.args.at) (ConvertedCut c.args.at) (converted_longer c.args.at) bytes was c.convert_file-converted.new.out.page.now (g.S.Source.left c.convert_file-converted.new.input.source.now) (g.W.Sink.written c.convert_file-converted.new.out.sink.now) (g.W.Sink.written c.flush.new.self.sink.now) shown
    (c.convert_file-converted.ensures.output bytes was e f) c.in-Err.ensures.err blamed)

pub returns-then-failed-clause-reads : goal.returns-then-failed-clause-reads
returns-then-failed-clause-reads g c =
    let same_source : c.convert_file-converted.new.input.source.now ≡ c.source-1.given.0 = search rules in
    rw (← same_source) (
    λ bytes e.
    let s = g.S.Source in
    reads_done s.gives_all (s.reads c.args.source.now) (s.reads c.convert_file-converted.new.input.source.now) 2 bytes (s.left c.convert_file-converted.new.input.source.now) (rw e at c.convert_file-converted.ensures.reads))

pub returns-then-failed-clause-writes : goal.returns-then-failed-clause-writes
returns-then-failed-clause-writes g c =
    let same_source : c.convert_file-converted.new.input.source.now ≡ c.source-1.given.0 = search rules in
    let same_sink : c.convert_file-converted.new.out.sink.now ≡ c.sink-1.given.0 = search rules in
    rw (← same_source, ← same_sink) (
    λ was now full e f.
    let w = g.W.Sink in let s = g.S.Source in let lost = is_write_failed c.convert_file-converted.result in
    writes_done was now (w.writes c.args.sink.now) (w.writes c.convert_file-converted.new.out.sink.now) (s.reads c.args.source.now) (s.reads c.convert_file-converted.new.input.source.now) (unpaid lost c.convert_file-converted.new.out.page.now)
    (rw (full, e, f) at c.convert_file-converted.ensures.writes) (unpaid_few lost c.convert_file-converted.new.out.page.now))

pub returns-then-failed-clause-read_failed : goal.returns-then-failed-clause-read_failed
returns-then-failed-clause-read_failed g c =
    let same_source : c.convert_file-converted.new.input.source.now ≡ c.source-1.given.0 = search rules in
    rw (← same_source) (
    λ h. c.convert_file-converted.ensures.source_mark ∙ ap (λ b. b || is_read_failed c.convert_file-converted.result) c.requires.source_clean ∙ h)

pub returns-then-failed-clause-blamed : goal.returns-then-failed-clause-blamed
returns-then-failed-clause-blamed g c =
    let same_source : c.convert_file-converted.new.input.source.now ≡ c.source-1.given.0 = search rules in
    rw (← same_source) (
    λ h. ap (λ b. b || is_write_failed c.convert_file-converted.result) (sym (c.convert_file-converted.ensures.source_mark ∙ ap (λ b. b || is_read_failed c.convert_file-converted.result) c.requires.source_clean) ∙ h))

pub returns-then-failed-clause-write_failed : goal.returns-then-failed-clause-write_failed
returns-then-failed-clause-write_failed g c =
    let same_sink : c.convert_file-converted.new.out.sink.now ≡ c.sink-1.given.0 = search rules in
    rw (← same_sink) (
    c.convert_file-converted.ensures.sink_mark ∙ ap (λ b. b || is_write_failed c.convert_file-converted.result) c.requires.sink_clean)

pub returns-in-Ok-clause-reads : goal.returns-in-Ok-clause-reads
returns-in-Ok-clause-reads g c =
    let same_source : c.convert_file-converted.new.input.source.now ≡ c.source-1.given.0 = search rules in
    rw (← same_source) (
    λ bytes e.
    let s = g.S.Source in
    reads_done s.gives_all (s.reads c.args.source.now) (s.reads c.convert_file-converted.new.input.source.now) 2 bytes (s.left c.convert_file-converted.new.input.source.now) (rw e at c.convert_file-converted.ensures.reads))

pub returns-in-Ok-clause-writes : goal.returns-in-Ok-clause-writes
returns-in-Ok-clause-writes g c =
    let same_source : c.convert_file-converted.new.input.source.now ≡ c.source-1.given.0 = search rules in
    let same_sink : c.flush.new.self.sink.now ≡ c.sink-2-1.given.0 = search rules in
    rw (← same_source, ← same_sink) (
    λ was now full e f.
    let w = g.W.Sink in let s = g.S.Source in
    let mark = c.convert_file-converted.ensures.sink_mark ∙ ap (λ b. b || is_write_failed c.convert_file-converted.result) c.requires.sink_clean in
    let blamed : is_write_failed c.convert_file-converted.result ≡ false = sym mark ∙ sym c.failed.ensures ∙ c.if-failed.false in
    let converted = rw blamed at c.convert_file-converted.ensures.writes in
    let paid = paid_flushed w.takes_all (w.writes c.args.sink.now) (w.writes c.convert_file-converted.new.out.sink.now) (w.writes c.flush.new.self.sink.now) (w.written c.args.sink.now) (w.written c.convert_file-converted.new.out.sink.now) (w.written c.flush.new.self.sink.now)
    (s.reads c.args.source.now) (s.reads c.convert_file-converted.new.input.source.now) c.convert_file-converted.new.out.page.now converted c.flush.ensures.writes in
    writes_done was now (w.writes c.args.sink.now) (w.writes c.flush.new.self.sink.now) (s.reads c.args.source.now) (s.reads c.convert_file-converted.new.input.source.now) 8192 (rw (full, e, f) at paid) (le_refl 8192))

pub returns-in-Ok-clause-read_failed : goal.returns-in-Ok-clause-read_failed
returns-in-Ok-clause-read_failed g c =
    let same_source : c.convert_file-converted.new.input.source.now ≡ c.source-1.given.0 = search rules in
    rw (← same_source) (
    λ h. c.convert_file-converted.ensures.source_mark ∙ ap (λ b. b || is_read_failed c.convert_file-converted.result) c.requires.source_clean ∙ h)

pub returns-in-Ok-clause-blamed : goal.returns-in-Ok-clause-blamed
returns-in-Ok-clause-blamed g c =
    let same_source : c.convert_file-converted.new.input.source.now ≡ c.source-1.given.0 = search rules in
    rw (← same_source) (
    λ h. ap (λ b. b || is_write_failed c.convert_file-converted.result) (sym (c.convert_file-converted.ensures.source_mark ∙ ap (λ b. b || is_read_failed c.convert_file-converted.result) c.requires.source_clean) ∙ h))

pub returns-in-Ok-clause-write_failed : goal.returns-in-Ok-clause-write_failed
returns-in-Ok-clause-write_failed g c =
    let same_sink : c.flush.new.self.sink.now ≡ c.sink-2-1.given.0 = search rules in
    rw (← same_sink) (
    c.in-Ok.ensures.mark ∙ or-false _ ∙ c.convert_file-converted.ensures.sink_mark ∙ ap (λ b. b || is_write_failed c.convert_file-converted.result) c.requires.sink_clean)

pub returns-in-Err-clause-reads : goal.returns-in-Err-clause-reads
returns-in-Err-clause-reads g c =
    let same_source : c.convert_file-converted.new.input.source.now ≡ c.source-1.given.0 = search rules in
    rw (← same_source) (
    λ bytes e.
    let s = g.S.Source in
    reads_done s.gives_all (s.reads c.args.source.now) (s.reads c.convert_file-converted.new.input.source.now) 2 bytes (s.left c.convert_file-converted.new.input.source.now) (rw e at c.convert_file-converted.ensures.reads))

pub returns-in-Err-clause-writes : goal.returns-in-Err-clause-writes
returns-in-Err-clause-writes g c =
    let same_source : c.convert_file-converted.new.input.source.now ≡ c.source-1.given.0 = search rules in
    let same_sink : c.flush.new.self.sink.now ≡ c.sink-2-1.given.0 = search rules in
    rw (← same_source, ← same_sink) (
    λ was now full e f.
    let w = g.W.Sink in let s = g.S.Source in
    let mark = c.convert_file-converted.ensures.sink_mark ∙ ap (λ b. b || is_write_failed c.convert_file-converted.result) c.requires.sink_clean in
    let blamed : is_write_failed c.convert_file-converted.result ≡ false = sym mark ∙ sym c.failed.ensures ∙ c.if-failed.false in
    let converted = rw blamed at c.convert_file-converted.ensures.writes in
    let paid = paid_flushed w.takes_all (w.writes c.args.sink.now) (w.writes c.convert_file-converted.new.out.sink.now) (w.writes c.flush.new.self.sink.now) (w.written c.args.sink.now) (w.written c.convert_file-converted.new.out.sink.now) (w.written c.flush.new.self.sink.now)
    (s.reads c.args.source.now) (s.reads c.convert_file-converted.new.input.source.now) c.convert_file-converted.new.out.page.now converted c.flush.ensures.writes in
    writes_done was now (w.writes c.args.sink.now) (w.writes c.flush.new.self.sink.now) (s.reads c.args.source.now) (s.reads c.convert_file-converted.new.input.source.now) 8192 (rw (full, e, f) at paid) (le_refl 8192))

pub returns-in-Err-clause-write_failed : goal.returns-in-Err-clause-write_failed
returns-in-Err-clause-write_failed g c =
    let same_sink : c.flush.new.self.sink.now ≡ c.sink-2-1.given.0 = search rules in
    rw (← same_sink) (
    c.in-Err.ensures.mark ∙ ap (λ b. b || true) (sym c.failed.ensures ∙ c.if-failed.false))
