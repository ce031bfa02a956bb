use Rattle.std.proofs.Common.{Option, ◌++◌, codes, sym, ap, ◌∙◌}
use Rattle.ncp_play_notes.specs.Names.{Name}
use Rattle.ncp_play_notes.specs.Results.{result_words}
use Rattle.ncp_play_notes.specs.NoteLines.{line_prefix_and_name, line_if_named}
use Rattle.ncp_play_notes.proofs.Appended.{three_appended}
use Rattle.ncp_play_notes.proofs.note_lines.push_call_line.Goals as goal

pub returns : goal.returns
returns c =
    let page = c.args.page.now in let note = c.args.note.now in
    three_appended page c.push_named.new.page c.push_result.new.page c.push.new.self (line_prefix_and_name c.args.heading (c.in-Some.verb, c.in-Some.peer)) (result_words note) (codes "\n")
    c.push_named.ensures.bytes c.push_result.ensures.bytes c.push.ensures.bytes
    ∙ ap (λ (name : Option Name). page ++ line_if_named c.args.heading name (result_words note)) (sym c.in-Some.is ∙ c.name_of_note.ensures)
