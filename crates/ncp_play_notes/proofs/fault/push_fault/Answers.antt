use Rattle.std.proofs.Common.{ℕ, List, Option, ◌++◌, codes, ap, ◌∙◌}
use Rattle.ncp_play_notes.specs.Faults.{place_words, line_of, name_of_play_fault}
use Rattle.ncp_play_notes.proofs.Appended.{four_appended}
use Rattle.ncp_play_notes.proofs.fault.push_fault.Goals as goal

pub returns : goal.returns
returns c =
    four_appended c.args.page.now c.push_text.new.self c.push_place.new.page c.push_text-2.new.self c.push.new.self (codes "ncp: ") (place_words (line_of c.args.fault)) (name_of_play_fault c.args.fault) (codes "\n")
    c.push_text.ensures.bytes
    (c.push_place.ensures.bytes ∙ ap (λ (line : Option ℕ). c.push_text.new.self ++ place_words line) c.line.ensures)
    (c.push_text-2.ensures.bytes ∙ ap (λ (name : List ℕ). c.push_place.new.page ++ name) (c.as_bytes.ensures.value ∙ c.name.ensures))
    c.push.ensures.bytes
