use Rattle.std.proofs.Common.{ℕ, option_map, ap, ◌∙◌}
use Rattle.ncp_play_script.specs.Words.{number_first}
use Rattle.ncp_play_script.proofs.line_words.Words.next_u8.Goals as goal

pub returns-in_err-number : goal.returns-in_err-number
returns-in_err-number c =
    ap (option_map (λ (number : ℕ). (number, c.next_number.new.self))) c.from_residual.ensures ∙ c.in_err-number.ensures ∙ ap (λ (most : ℕ). number_first most c.args.self.now) c.from.ensures

pub returns : goal.returns
returns c = c.in_ok-number.ensures ∙ ap (λ (most : ℕ). number_first most c.args.self.now) c.from.ensures
