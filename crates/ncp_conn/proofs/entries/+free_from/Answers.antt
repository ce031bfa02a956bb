use Rattle.std.proofs.Common.{◌≡◌, ◌-◌, ◌+◌, is_none, not, true, false, sym, ap, ◌∙◌, arith, add-one}
use Rattle.ncp_model.specs.Ends.{lowest}
use Rattle.ncp_conn.specs.Indexes.{key_at}
use Rattle.ncp_conn.proofs.Asking.{lowest_end, lowest_yes, lowest_no}
use Rattle.ncp_conn.proofs.entries.+free_from.Goals as goal

pub returns-then-link-gt-LAST_LINK : goal.returns-then-link-gt-LAST_LINK
returns-then-link-gt-LAST_LINK t c =
    let h = c.if-link-gt-LAST_LINK.true in
    sym (lowest_end (λ on. is_none (key_at c.args.index.now on)) (72 - c.args.link) c.args.link (omega (arith, h)))

pub returns-then-is_none : goal.returns-then-is_none
returns-then-is_none t c =
    let h = c.if-link-gt-LAST_LINK.false in
    let e : is_none (key_at c.args.index.now c.args.link) ≡ true = ap is_none (sym c.key.ensures) ∙ ap not c.if-is_none.ensures in
    sym (lowest_yes (λ on. is_none (key_at c.args.index.now on)) (72 - c.args.link) (72 - (c.args.link + 1)) c.args.link (omega (arith, h)) e)

pub returns : goal.returns
returns t c =
    let h = c.if-link-gt-LAST_LINK.false in
    let e : is_none (key_at c.args.index.now c.args.link) ≡ false = ap is_none (sym c.key.ensures) ∙ ap not c.if-is_none.ensures in
    c.free_from.ensures ∙ ap (lowest (λ on. is_none (key_at c.args.index.now on)) (72 - (c.args.link + 1))) (add-one c.args.link) ∙ sym (lowest_no (λ on. is_none (key_at c.args.index.now on)) (72 - c.args.link) (72 - (c.args.link + 1)) c.args.link (omega (arith, h)) e)
