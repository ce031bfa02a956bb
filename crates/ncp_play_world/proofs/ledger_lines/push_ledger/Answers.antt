use Rattle.std.proofs.Common.{◌++◌, codes, sym, ap, ◌∙◌}
use Rattle.ncp_play_world.specs.LedgerLines.{amount_words, ledger_words}
use Rattle.ncp_play_notes.proofs.Appended.{five_appended}
use Rattle.ncp_play_world.proofs.ledger_lines.push_ledger.Goals as goal

pub returns-clause-bytes : goal.returns-clause-bytes
returns-clause-bytes c =
    let it = c.in-Some.ledger in let page = c.args.page.now in
    five_appended page c.push_amount.new.page c.push_amount-2.new.page c.push_amount-3.new.page c.push_amount-4.new.page c.push_amount-5.new.page
    (amount_words (codes " out=") it.outstanding) (amount_words (codes " counters=") it.counters) (amount_words (codes " all=") it.all) (amount_words (codes " text=") it.text) (amount_words (codes " ret=") it.ret)
    c.push_amount.ensures.bytes c.push_amount-2.ensures.bytes c.push_amount-3.ensures.bytes c.push_amount-4.ensures.bytes c.push_amount-5.ensures.bytes
    ∙ ap (λ ledger. page ++ ledger_words ledger) (sym c.in-Some.is)
