-- What a search for a text finds.
use Rattle.std.proofs.lemmas.Str.Pattern.{contains_text}
use Rattle.ncp_play_explain.proofs.spelling.has_part.Goals as goal

pub returns : goal.returns
returns c = contains_text c.contains.result c.args.part.now c.args.text.now c.contains.ensures.cases
