use Rattle.std.proofs.Common.{◌-◌, ◌+◌, take, drop, length, sym, ◌∙◌, ap, option_map}
use Rattle.ncp_play_script.specs.Words.{words_left, is_only}
use Rattle.ncp_play_script.proofs.Cuts.{cut_some, cut_none, not_only}
use Rattle.ncp_play_script.proofs.line_words.Words.is_only.Goals as goal

pub returns-in-Some-position_of : goal.returns-in-Some-position_of
returns-in-Some-position_of c =
    let line = c.in-Some.rest.now in let place = c.in-Some-position_of.field-0 in
    let words =
    sym c.self.view_is ∙ ap (λ rest. words_left (option_map (λ bytes. bytes.now) rest)) c.in-Some.is
    ∙ cut_some line place (sym c.in-Some-position_of.is ∙ c.position_of.ensures) in
    not_only c.args.word.now (take place line) (take (length line - (place + 1)) (drop (place + 1) line)) ∙ sym (ap (is_only c.args.word.now) words)

pub returns-in-None : goal.returns-in-None
returns-in-None c =
    let words =
    sym c.self.view_is ∙ ap (λ rest. words_left (option_map (λ bytes. bytes.now) rest)) c.in-Some.is
    ∙ cut_none c.in-Some.rest.now (sym c.in-None.is ∙ c.position_of.ensures) in
    c.eq.ensures ∙ sym (ap (is_only c.args.word.now) words)
