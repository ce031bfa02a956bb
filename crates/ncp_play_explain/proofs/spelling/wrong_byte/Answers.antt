-- A byte that is neither a tab nor a carriage return.
use Rattle.std.proofs.Common.{◌≡◌, ◌==◌, ◌++◌, false, arith, sym, ap, ◌∙◌, codes, decimal}
use Rattle.std.specs.String.{string_bytes}
use Rattle.std.proofs.lemmas.Bool.Decides.{eqb_tells}
use Rattle.std.proofs.lemmas.Result.{IfOk-weaker}
use Rattle.ncp_play_explain.specs.Spelling.{byte_printed}
use Rattle.ncp_play_explain.proofs.Spelled.{other_printed}
use Rattle.ncp_play_explain.proofs.spelling.wrong_byte.Goals as goal

pub returns : goal.returns
returns c =
    let tail = codes ", which is no letter, digit or sign of ASCII" in
    let no_tab : (c.args.byte == 9) ≡ false = grind (arith, eqb_tells, c.if-byte-eq-TAB.false) in
    let no_return : (c.args.byte == 13) ≡ false = grind (arith, eqb_tells, c.if-byte-eq-RETURN.false) in
    IfOk-weaker c.format-2.result (λ s. string_bytes s ≡ codes "byte " ++ (decimal c.args.place ++ (codes " is " ++ (string_bytes c.in_ok-byte.byte ++ tail)))) (λ s. string_bytes s ≡ byte_printed c.args.place c.args.byte)
    (λ s h. h ∙ ap (λ digits. codes "byte " ++ (decimal c.args.place ++ (codes " is " ++ (digits ++ tail)))) c.in_ok-byte.ensures
    ∙ sym (other_printed c.args.place c.args.byte no_tab no_return))
    c.format-2.ensures.ok
