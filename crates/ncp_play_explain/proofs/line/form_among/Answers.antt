-- The verb is in the first table that has it.
use Rattle.std.proofs.Common.{◌≡◌, [], map, option_to_list, Option, None, ap, ◌∙◌}
use Rattle.std.specs.Option.{option_or}
use Rattle.ncp_play_explain.specs.Arguments.{asked_argument}
use Rattle.ncp_play_explain.specs.Verbs.{call_verbs, plain, verb_in, verbs_of}
use Rattle.ncp_play_explain.proofs.line.form_among.Goals as goal

after_none : {X : Type 0} (first found more : Option X) → None ≡ first → found ≡ more → found ≡ option_or first more
after_none first found more e same = same ∙ ap (λ o. option_or o more) e

pub returns-in-Some-form_in : goal.returns-in-Some-form_in
returns-in-Some-form_in c =
    let others = verb_in (map asked_argument (option_to_list c.args.to)) (verbs_of c.args.others.now) c.args.verb.now in
    after_none (verb_in [] plain c.args.verb.now) _ _ c.in_default.ensures (ap (λ o. option_or o others) c.in-Some-form_in.ensures)

pub returns : goal.returns
returns c =
    after_none (verb_in [] plain c.args.verb.now) _ _ c.in_default.ensures
    (after_none (verb_in (map asked_argument (option_to_list c.args.peer)) call_verbs c.args.verb.now) _ _ c.in_default-form_in.ensures c.form_in-3.ensures)
