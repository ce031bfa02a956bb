use Rattle.std.proofs.Common.{◌≡◌, codes, rules, ap, ◌++◌, ◌∙◌, List, ℕ}
use Rattle.ncp_play_buffer.specs.Lines.{field}
use Rattle.ncp_leader.specs.Fault.{name_of_message_fault}
use Rattle.ncp_play_audit.proofs.Words.{three_words}
use Rattle.ncp_play_audit.proofs.rule_words.push_fault.Goals as goal

pub returns-clause-bytes : goal.returns-clause-bytes
returns-clause-bytes c =
    let name = c.push_text-2.ensures.bytes ∙ ap (λ (xs : List ℕ). c.push_text.new.self ++ xs) (c.as_bytes.ensures.value ∙ c.name.ensures) in
    let link : c.push_field.new.page ≡ c.push_text-2.new.self ++ field (codes " link=") c.args.link = search rules in
    three_words c.args.page.now c.push_text.new.self c.push_text-2.new.self c.push_field.new.page
    (codes "fault name=") (name_of_message_fault c.args.fault) (field (codes " link=") c.args.link)
    c.push_text.ensures.bytes name link
