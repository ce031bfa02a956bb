use Rattle.ncp_embed.proofs.life.ncp_embed_free.Goals as goal

pub returns : goal.returns
returns c = cc
