-- The first of the words is what stands before the first space.
use Rattle.std.proofs.Common.{drop, map, sym, ap, ◌∙◌}
use Rattle.std.proofs.lemmas.Bool.{false≢true}
use Rattle.ncp_play_explain.proofs.first_line.wrong_words.Goals as goal

pub returns-then-is_among-clause-hosts : goal.returns-then-is_among-clause-hosts
returns-then-is_among-clause-hosts c = λ _.
    let first = c.first_of-head.ensures.line c.args.text.now (ap (map (λ word. word.now)) c.as_slice.ensures.value ∙ c.in_ok-words.ensures) in
    let hosts = c.words_after-hosts.ensures ∙ ap (λ ws. drop 1 (map (λ word. word.now) ws)) c.as_slice-then-is_among.ensures.value ∙ ap (drop 1) c.in_ok-words.ensures in
    rw hosts at (rw first at c.wrong_hosts.ensures)

pub returns-then-is_among-clause-head : goal.returns-then-is_among-clause-head
returns-then-is_among-clause-head c = λ other.
    let first = c.first_of-head.ensures.line c.args.text.now (ap (map (λ word. word.now)) c.as_slice.ensures.value ∙ c.in_ok-words.ensures) in
    absurd (other (rw first at (c.is_among.ensures.there.0 c.if-is_among.true)))

pub returns-clause-hosts : goal.returns-clause-hosts
returns-clause-hosts c = λ known.
    let first = c.first_of-head.ensures.line c.args.text.now (ap (map (λ word. word.now)) c.as_slice.ensures.value ∙ c.in_ok-words.ensures) in
    absurd (false≢true (sym c.if-is_among.false ∙ (rw first at c.is_among.ensures.there.1) known))

pub returns-clause-head : goal.returns-clause-head
returns-clause-head c = λ _.
    let first = c.first_of-head.ensures.line c.args.text.now (ap (map (λ word. word.now)) c.as_slice.ensures.value ∙ c.in_ok-words.ensures) in
    rw first at c.wrong_head.ensures
