use Rattle.std.proofs.Common.{◌∙◌, ◌||◌, sym, ap}
use Rattle.ncp_play_script.specs.Scripts.{lines_of}
use Rattle.ncp_play_script.specs.Words.{words_of}
use Rattle.ncp_play_reader.specs.NextLines.{ended_lines, goes_on}
use Rattle.ncp_play_host.proofs.Asks.{asks_none, asks_too_long, asks_played, less_where_it_goes_on}
use Rattle.ncp_play_host.proofs.asking.next_asked.Goals as goal

pub returns-in-Ok-Over-clause-output : goal.returns-in-Ok-Over-clause-output
returns-in-Ok-Over-clause-output g c = λ bytes ahead. asks_none c.args.peers.now c.args.script.now.lines.now.number (lines_of bytes) (rw c.in-Ok-Over.field-0-is at (c.in-Ok-Over.ensures.output bytes ahead))

pub returns-in-Ok-TooLong-clause-output : goal.returns-in-Ok-TooLong-clause-output
returns-in-Ok-TooLong-clause-output g c = λ bytes ahead.
    asks_too_long c.args.peers.now c.args.script.now.lines.now.number bytes c.in-Ok-TooLong.number c.next_played.new.lines (g.S.Source.left c.next_played.new.source) (rw c.in-Ok-TooLong.field-0-is at (c.in-Ok-TooLong.ensures.output bytes ahead))

pub returns-in-Ok-Played-clause-output : goal.returns-in-Ok-Played-clause-output
returns-in-Ok-Played-clause-output g c = λ bytes ahead.
    asks_played c.args.peers.now c.args.script.now.lines.now.number bytes c.in-Ok-Played.number c.in-Ok-Played.ended c.next_played.new.lines (g.S.Source.left c.next_played.new.source) (rw c.in-Ok-Played.field-0-is at (c.in-Ok-Played.ensures.output bytes ahead)) c.new-words.result (c.new-words.ensures ∙ ap words_of c.text.ensures)
    c.asked_by_words.result c.asked_by_words.ensures.output

pub returns-in-Ok-Played-clause-read_measure : goal.returns-in-Ok-Played-clause-read_measure
returns-in-Ok-Played-clause-read_measure g c = less_where_it_goes_on c.asked_by_words.result c.in-Ok-Played.ended _ c.asked_by_words.ensures.ended (λ lf. c.in-Ok-Played.ensures.read_measure (ap goes_on c.in-Ok-Played.field-0-is ∙ lf))

pub returns-in-Ok-Played-clause-mark : goal.returns-in-Ok-Played-clause-mark
returns-in-Ok-Played-clause-mark g c = c.in-Ok-Played.ensures.mark ∙ ap (λ b. g.S.Source.has_failed c.args.script.now.source.now || b) (sym c.asked_by_words.ensures.read)

pub returns-in-Ok-Played-clause-other : goal.returns-in-Ok-Played-clause-other
returns-in-Ok-Played-clause-other g c = c.asked_by_words.ensures.write

pub returns-in-Err-clause-output : goal.returns-in-Err-clause-output
returns-in-Err-clause-output g c = λ bytes ahead.
    let read = c.in-Err.ensures.output bytes ahead in
    (read.0, read.1, asks_none c.args.peers.now c.args.script.now.lines.now.number (ended_lines (lines_of read.0)) read.2)
