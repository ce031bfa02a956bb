-- In one of the tables, or in none.
use Rattle.std.proofs.Common.{◌≡◌, List, ℕ}
use Rattle.std.specs.List.{Contains}
use Rattle.std.proofs.lemmas.List.Elements.{Contains-append_left, Contains-append_right, All-append}
use Rattle.ncp_play_explain.specs.Names.{table}
use Rattle.ncp_play_explain.specs.Printed.{printed}
use Rattle.ncp_play_audit.specs.Rules.{rules_reported}
use Rattle.ncp_play_follow.specs.Ends.{ends_by_word}
use Rattle.ncp_web.specs.Meanings.{line_meanings, report_meanings, meanings}
use Rattle.ncp_web.proofs.faults.any_meaning.Goals as goal

of_report : (entry : List ℕ × List ℕ) → Contains report_meanings entry → Contains meanings entry
of_report entry k = Contains-append_right table report_meanings entry k

of_line : (entry : List ℕ × List ℕ) → Contains line_meanings entry → Contains meanings entry
of_line entry k = of_report entry (Contains-append_right rules_reported line_meanings entry k)

pub returns-in-Some-clause-known : goal.returns-in-Some-clause-known
returns-in-Some-clause-known c = Contains-append_left table report_meanings (c.args.name.now, c.in-Some.text.now) c.in-Some.ensures.known

pub returns-in-Some-rule_meaning-clause-known : goal.returns-in-Some-rule_meaning-clause-known
returns-in-Some-rule_meaning-clause-known c =
    let entry : List ℕ × List ℕ = (c.args.name.now, c.in-Some-rule_meaning.text.now) in of_report entry (Contains-append_left rules_reported line_meanings entry c.in-Some-rule_meaning.ensures.known)

pub returns-in-Some-end_meaning-clause-known : goal.returns-in-Some-end_meaning-clause-known
returns-in-Some-end_meaning-clause-known c =
    let entry : List ℕ × List ℕ = (c.args.name.now, c.in-Some-end_meaning.text.now) in of_line entry (Contains-append_left ends_by_word printed entry c.in-Some-end_meaning.ensures.known)

pub returns-in-Some-word_meaning-clause-known : goal.returns-in-Some-word_meaning-clause-known
returns-in-Some-word_meaning-clause-known c =
    let entry : List ℕ × List ℕ = (c.args.name.now, c.in-Some-word_meaning.text.now) in of_line entry (Contains-append_right ends_by_word printed entry c.in-Some-word_meaning.ensures.known)

pub returns-in-None-word_meaning-clause-unknown : goal.returns-in-None-word_meaning-clause-unknown
returns-in-None-word_meaning-clause-unknown c =
    let Other : List ℕ × List ℕ → Type 0 = λ entry. entry.0 ≡ c.args.name.now → ⊥ in
    All-append Other table report_meanings c.in-None.ensures.unknown
    (All-append Other rules_reported line_meanings c.in-None-rule_meaning.ensures.unknown
    (All-append Other ends_by_word printed c.in-None-end_meaning.ensures.unknown c.in-None-word_meaning.ensures.unknown))
