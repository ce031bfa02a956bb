-- The verb is one of those that are left.
use Rattle.std.proofs.Common.{◌≡◌, drop, map, option_to_list}
use Rattle.ncp_play_explain.specs.Arguments.{asked_argument}
use Rattle.ncp_play_explain.specs.Verbs.{verb_in, verbs_of}
use Rattle.ncp_play_explain.proofs.line.form_in.Given as goal

abbrev pub invariant-loop-usage : goal.invariant-loop-usage
invariant-loop-usage l =
    verb_in (map asked_argument (option_to_list l.leading)) (verbs_of l.usages) l.verb ≡ verb_in (map asked_argument (option_to_list l.leading)) (verbs_of (drop l.usage-index l.usages)) l.verb
