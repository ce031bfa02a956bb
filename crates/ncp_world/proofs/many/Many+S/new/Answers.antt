use Rattle.std.proofs.Common.{◌≡◌, ◌<◌, ℕ, true, get_or, sym, ◌∙◌, arith}
use Rattle.ncp_transcript.proofs.Beginning.{one_fits}
use Rattle.ncp_transcript_many.specs.Network.{are_hosts}
use Rattle.ncp_transcript_many.proofs.ManyRuns.{transcript-new}
use Rattle.ncp_world.proofs.many.Many+S.new.Goals as goal

pub of-requires : goal.of-requires
of-requires g c =
    let good : are_hosts c.args.hosts.now ≡ true = sym c.are_hosts.ensures ∙ c.if-not-are_hosts.false in
    let small : (k : ℕ) → get_or c.args.hosts.now k 0 < 256 = λ (k : ℕ). let fits = c.type_inv.hosts k in omega arith in
    transcript-new c.args.hosts.now c.in_ok-network.network good (one_fits c.args.hosts.now small) c.in_ok-network.ensures
