use Rattle.std.proofs.Common.{◌≡◌, ◌++◌, ◌∙◌, codes, ap, sym}
use Rattle.std.proofs.lemmas.List.{append_assoc}
use Rattle.ncp_play_files.specs.Lines.{item_words}
use Rattle.ncp_play_files.proofs.detail.push_item.Goals.{in-Ok, in-Err}
use Rattle.ncp_play_files.proofs.detail.push_item.Goals as goal

pub returns : goal.returns
returns c =
    let page = c.args.page.now in
    let words : c.match-item.page ≡ c.push_text.new.self ++ item_words c.args.item.now = elim c.match-item.branch [
      | in-Ok w ↦ w.page-is ∙ w.push_command.ensures.bytes ∙ ap (λ item. c.push_text.new.self ++ item_words item) (sym w.in-Ok.is)
      | in-Err w ↦ w.page-is ∙ w.push_error.ensures.bytes ∙ ap (λ item. c.push_text.new.self ++ item_words item) (sym w.in-Err.is)
    ] in
    let indented = ap (λ before. before ++ item_words c.args.item.now) c.push_text.ensures.bytes ∙ append_assoc page (codes "  ") (item_words c.args.item.now) in
    c.push.ensures.bytes ∙ ap (λ before. before ++ codes "\n") (words ∙ indented) ∙ append_assoc page (codes "  " ++ item_words c.args.item.now) (codes "\n")
