use Rattle.ncp_play_script.proofs.verbs.verb_named.Goals as goal

pub returns : goal.returns
returns c = c.named_among.ensures
