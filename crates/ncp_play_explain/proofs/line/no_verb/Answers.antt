-- With the first verb that is near, if one is.
use Rattle.std.proofs.Common.{◌≡◌, ◌++◌, map, sym, ap, subst, ◌∙◌, codes, inl, inr}
use Rattle.std.specs.String.{string_bytes}
use Rattle.std.proofs.lemmas.Result.{IfOk-weaker}
use Rattle.ncp_play_explain.specs.Near.{NoneIsNear, IsNearest}
use Rattle.ncp_play_explain.specs.Printing.{PrintsNoVerb}
use Rattle.ncp_play_explain.proofs.Pieces.{verb_near, verb_far}
use Rattle.ncp_play_explain.proofs.line.no_verb.Goals as goal

pub returns-in-Some : goal.returns-in-Some
returns-in-Some c =
    IfOk-weaker c.format.result (λ s. string_bytes s ≡ codes "'" ++ (c.args.verb.now ++ (codes "' is no verb; did you mean '" ++ (c.in-Some.near.now ++ codes "'?")))) (λ s. PrintsNoVerb c.args.verb.now (string_bytes s))
    (λ s h. inl (c.in-Some.near.now, subst (λ known. IsNearest c.args.verb.now known c.in-Some.near.now) (ap (λ ws. map (λ w. w.now) ws) c.as_slice.ensures.value ∙ c.in_ok-known.ensures) c.in-Some.ensures.found, h ∙ sym (verb_near c.args.verb.now c.in-Some.near.now)))
    c.format.ensures.ok

pub returns : goal.returns
returns c =
    IfOk-weaker c.format-in-None.result (λ s. string_bytes s ≡ codes "'" ++ (c.args.verb.now ++ codes "' is no verb")) (λ s. PrintsNoVerb c.args.verb.now (string_bytes s))
    (λ s h. inr (subst (λ known. NoneIsNear 2 c.args.verb.now known) (ap (λ ws. map (λ w. w.now) ws) c.as_slice.ensures.value ∙ c.in_ok-known.ensures) c.in-None.ensures.none, h ∙ sym (verb_far c.args.verb.now)))
    c.format-in-None.ensures.ok
