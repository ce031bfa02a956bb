use Rattle.std.proofs.Common.{sym, ◌∙◌, ap, option_map}
use Rattle.ncp_play_script.specs.Words.{words_left, ends_at}
use Rattle.ncp_play_script.proofs.Cuts.{cut_some, cut_none}
use Rattle.ncp_play_script.proofs.line_words.Words.ends_at.Goals as goal

pub returns-in-Some-position_of : goal.returns-in-Some-position_of
returns-in-Some-position_of c =
    let words =
    sym c.self.view_is ∙ ap (λ rest. words_left (option_map (λ bytes. bytes.now) rest)) c.in-Some.is
    ∙ cut_some c.in-Some.rest.now c.in-Some-position_of.place (sym c.in-Some-position_of.is ∙ c.position_of.ensures) in
    c.eq.ensures ∙ sym (ap (ends_at c.args.word.now) words)

pub returns-in-None : goal.returns-in-None
returns-in-None c =
    let words =
    sym c.self.view_is ∙ ap (λ rest. words_left (option_map (λ bytes. bytes.now) rest)) c.in-Some.is
    ∙ cut_none c.in-Some.rest.now (sym c.in-None.is ∙ c.position_of.ensures) in
    c.eq-in-None.ensures ∙ sym (ap (ends_at c.args.word.now) words)
