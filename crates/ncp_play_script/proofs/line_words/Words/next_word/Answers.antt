use Rattle.std.proofs.Common.{sym, ◌∙◌, ap, option_map}
use Rattle.ncp_play_script.specs.Words.{words_left}
use Rattle.ncp_play_script.proofs.Cuts.{cut_some, cut_none}
use Rattle.ncp_play_script.proofs.line_words.Words.next_word.Goals as goal

pub returns-in-Some : goal.returns-in-Some
returns-in-Some c =
    sym c.self.view_is ∙ ap (λ rest. words_left (option_map (λ bytes. bytes.now) rest)) c.in_ok-rest.was
    ∙ cut_some c.in_ok-rest.rest.now c.in-Some.place (sym c.in-Some.is ∙ c.position_of.ensures)

pub returns-in-None : goal.returns-in-None
returns-in-None c =
    sym c.self.view_is ∙ ap (λ rest. words_left (option_map (λ bytes. bytes.now) rest)) c.in_ok-rest.was
    ∙ cut_none c.in_ok-rest.rest.now (sym c.in-None.is ∙ c.position_of.ensures)
