use Rattle.std.proofs.Common.{ℕ, List, ◌++◌, codes, sym, ap, ◌∙◌}
use Rattle.ncp_play_buffer.specs.Lines.{field}
use Rattle.ncp_peer.specs.declared.received.Received.{Received}
use Rattle.ncp_leader.specs.Fault.{name_of_message_fault}
use Rattle.ncp_model.specs.Faults.{name_of_took}
use Rattle.ncp_play_notes.specs.Arrived.{received_words}
use Rattle.ncp_play_notes.proofs.Appended.{two_appended}
use Rattle.ncp_play_notes.proofs.arrived.push_received.Goals as goal

pub returns-in-Short-clause-bytes : goal.returns-in-Short-clause-bytes
returns-in-Short-clause-bytes c = c.push_text.ensures.bytes ∙ ap (λ (received : Received). c.args.page.now ++ received_words received) (sym c.in-Short.is)

pub returns-in-Unknown-clause-bytes : goal.returns-in-Unknown-clause-bytes
returns-in-Unknown-clause-bytes c = c.push_text-in-Unknown.ensures.bytes ∙ ap (λ (received : Received). c.args.page.now ++ received_words received) (sym c.in-Unknown.is)

pub returns-in-Stray-clause-bytes : goal.returns-in-Stray-clause-bytes
returns-in-Stray-clause-bytes c = c.push_text-in-Stray.ensures.bytes ∙ ap (λ (received : Received). c.args.page.now ++ received_words received) (sym c.in-Stray.is)

pub returns-in-Answered-clause-bytes : goal.returns-in-Answered-clause-bytes
returns-in-Answered-clause-bytes c = c.push_text-in-Answered.ensures.bytes ∙ ap (λ (received : Received). c.args.page.now ++ received_words received) (sym c.in-Answered.is)

pub returns-in-WrongLink-clause-bytes : goal.returns-in-WrongLink-clause-bytes
returns-in-WrongLink-clause-bytes c = c.push_text-in-WrongLink.ensures.bytes ∙ ap (λ (received : Received). c.args.page.now ++ received_words received) (sym c.in-WrongLink.is)

pub returns-in-WrongSize-clause-bytes : goal.returns-in-WrongSize-clause-bytes
returns-in-WrongSize-clause-bytes c = c.push_text-in-WrongSize.ensures.bytes ∙ ap (λ (received : Received). c.args.page.now ++ received_words received) (sym c.in-WrongSize.is)

pub returns-in-NotUp-clause-bytes : goal.returns-in-NotUp-clause-bytes
returns-in-NotUp-clause-bytes c = c.push_text-in-NotUp.ensures.bytes ∙ ap (λ (received : Received). c.args.page.now ++ received_words received) (sym c.in-NotUp.is)

pub returns-in-Other-clause-bytes : goal.returns-in-Other-clause-bytes
returns-in-Other-clause-bytes c = c.push_field.ensures.bytes ∙ ap (λ kind. c.args.page.now ++ field (codes "other ") kind) c.from.ensures ∙ ap (λ (received : Received). c.args.page.now ++ received_words received) (sym c.in-Other.is)

pub returns-in-Control-clause-bytes : goal.returns-in-Control-clause-bytes
returns-in-Control-clause-bytes c = c.push_field-in-Control.ensures.bytes ∙ ap (λ (received : Received). c.args.page.now ++ received_words received) (sym c.in-Control.is)

pub returns-in-Fault-clause-bytes : goal.returns-in-Fault-clause-bytes
returns-in-Fault-clause-bytes c =
    two_appended c.args.page.now c.push_text-in-Fault.new.self c.push_text-in-Fault-2.new.self (codes "fault ") (name_of_message_fault c.in-Fault.fault) c.push_text-in-Fault.ensures.bytes
    (c.push_text-in-Fault-2.ensures.bytes ∙ ap (λ (name : List ℕ). c.push_text-in-Fault.new.self ++ name) (c.as_bytes.ensures.value ∙ c.name.ensures))
    ∙ ap (λ (received : Received). c.args.page.now ++ received_words received) (sym c.in-Fault.is)

pub returns-in-Text-clause-bytes : goal.returns-in-Text-clause-bytes
returns-in-Text-clause-bytes c =
    two_appended c.args.page.now c.push_text-in-Text.new.self c.push_text-in-Text-2.new.self (codes "text ") (name_of_took c.in-Text.took) c.push_text-in-Text.ensures.bytes
    (c.push_text-in-Text-2.ensures.bytes ∙ ap (λ (name : List ℕ). c.push_text-in-Text.new.self ++ name) (c.as_bytes-in-Text.ensures.value ∙ c.name-in-Text.ensures))
    ∙ ap (λ (received : Received). c.args.page.now ++ received_words received) (sym c.in-Text.is)
