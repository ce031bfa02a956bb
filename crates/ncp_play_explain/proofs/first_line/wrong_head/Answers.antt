-- With the first word that is near, if one is.
use Rattle.std.proofs.Common.{◌≡◌, ◌++◌, sym, ap, ◌∙◌, codes, inl, inr}
use Rattle.std.specs.String.{string_bytes}
use Rattle.std.proofs.lemmas.Result.{IfOk-weaker}
use Rattle.ncp_play_explain.specs.Printing.{PrintsNoHead, first_line_wanted}
use Rattle.ncp_play_explain.proofs.Pieces.{four, six}
use Rattle.ncp_play_explain.proofs.first_line.wrong_head.Goals as goal

pub returns-in-Some : goal.returns-in-Some
returns-in-Some c =
    IfOk-weaker c.format.result (λ s. string_bytes s ≡ c.wanted-wanted.result.now ++ (codes "; '" ++ (c.args.head.now ++ (codes "' is no such word; did you mean '" ++ (c.in-Some.near.now ++ codes "'?"))))) (λ s. PrintsNoHead c.args.player c.args.head.now (string_bytes s))
    (λ s h. inl (
      c.in-Some.near.now,
      c.in-Some.ensures.found,
      h ∙ ap (λ w. w ++ (codes "; '" ++ (c.args.head.now ++ (codes "' is no such word; did you mean '" ++ (c.in-Some.near.now ++ codes "'?"))))) c.wanted-wanted.ensures
          ∙ sym (six (first_line_wanted c.args.player) (codes "; '") c.args.head.now (codes "' is no such word; did you mean '") c.in-Some.near.now (codes "'?")),
    ))
    c.format.ensures.ok

pub returns-in-None : goal.returns-in-None
returns-in-None c =
    IfOk-weaker c.format-in-None.result (λ s. string_bytes s ≡ c.wanted-wanted.result.now ++ (codes ", and here it begins with '" ++ (c.args.head.now ++ codes "'"))) (λ s. PrintsNoHead c.args.player c.args.head.now (string_bytes s))
    (λ s h. inr (
      c.in-None.ensures.none,
      h ∙ ap (λ w. w ++ (codes ", and here it begins with '" ++ (c.args.head.now ++ codes "'"))) c.wanted-wanted.ensures
          ∙ sym (four (first_line_wanted c.args.player) (codes ", and here it begins with '") c.args.head.now (codes "'")),
    ))
    c.format-in-None.ensures.ok
