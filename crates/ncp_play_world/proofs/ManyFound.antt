-- Whether a script is one of two to eight hosts, by its first line.
use Rattle.std.proofs.Common.{◌≡◌, ℕ, Bool, List, Option, Ok, sym, ap, ◌∙◌}
use Rattle.ncp_play_script.specs.FirstLines.{is_many}
use Rattle.ncp_play_script.specs.Lines.{text_of_line}
use Rattle.ncp_play_script.specs.Words.{words_of}
use Rattle.ncp_play_reader.specs.declared.lines.Lines.{Lines}
use Rattle.ncp_play_simulation.specs.NextEvents.{FindsFirst}
use Rattle.ncp_play_world.specs.ManyRules.{names_many, is_many_script}

pub found_many : (bytes : List ℕ) (ended : Bool) (now : Lines) (left : Option (List ℕ)) (text : List ℕ) (many : Bool) → FindsFirst 1 bytes (Ok ended) now left → text ≡ text_of_line ended now.line → many ≡ is_many (words_of text) → is_many_script bytes ≡ many
found_many bytes ended now left text many found same e = ap names_many found.2.0 ∙ ap (λ (t : List ℕ). is_many (words_of t)) (sym found.4 ∙ sym same) ∙ sym e
