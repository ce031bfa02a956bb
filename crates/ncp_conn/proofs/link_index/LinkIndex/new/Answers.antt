use Rattle.ncp_conn.proofs.Indexes.{nowhere}
use Rattle.ncp_conn.proofs.link_index.LinkIndex.new.Goals as goal

pub returns : goal.returns
returns c = λ on. nowhere 72 on
