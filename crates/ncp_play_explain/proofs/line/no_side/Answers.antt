-- A word that is neither a side nor a verb.
use Rattle.std.proofs.Common.{◌≡◌, ◌++◌, codes, inr, sym, ◌∙◌}
use Rattle.std.specs.String.{string_bytes}
use Rattle.std.proofs.lemmas.Bool.{false≢true}
use Rattle.std.proofs.lemmas.Result.{IfOk-weaker}
use Rattle.ncp_play_explain.specs.Lines.{PrintsNoSide}
use Rattle.ncp_play_explain.proofs.line.no_side.Goals as goal

pub returns-else-branch : goal.returns-else-branch
returns-else-branch c =
    IfOk-weaker c.format-else-branch.result (λ printed. string_bytes printed ≡ codes "'" ++ (c.args.word.now ++ codes "' is no side: a line begins with a or b")) (λ printed. PrintsNoSide c.args.word.now (string_bytes printed))
    (λ printed h. inr (λ verb. false≢true (sym c.if-branch.false ∙ c.in_ok-is_verb.ensures.1 verb), h)) c.format-else-branch.ensures.ok
