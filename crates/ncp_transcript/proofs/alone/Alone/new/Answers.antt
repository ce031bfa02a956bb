use Rattle.std.proofs.Common.{◌≡◌, ◌<◌, ℕ, get_or, Err, ap, ◌∙◌, arith}
use Rattle.std.proofs.lemmas.Result.{err_from_is_err_and}
use Rattle.ncp_host.specs.declared.fault.HostFault.TheVariants.{BadPeers, OutOfMemory}
use Rattle.ncp_transcript.proofs.Beginning.{one_fits}
use Rattle.ncp_transcript.proofs.Growing.{transcript_new, is_err_of}
use Rattle.ncp_transcript.proofs.alone.Alone.new.Goals as goal

pub invariant_of-result : goal.invariant_of-result
invariant_of-result g c =
    let small : (k : ℕ) → get_or c.args.peers.now k 0 < 256 = λ (k : ℕ). let fits = c.type_inv.peers k in omega arith in
    rw c.new-2.ensures (transcript_new c.args.me c.args.peers.now c.in_ok-host.host c.in_ok-host.ensures.good (one_fits c.args.peers.now small) c.in_ok-host.ensures.new)

pub returns-in_err-host-clause-bad : goal.returns-in_err-host-clause-bad
returns-in_err-host-clause-bad g c =
    let e = err_from_is_err_and c.from_residual.result c.from_residual.ensures.1 in
    λ no. let bad : c.in_err-host.field-0.0 ≡ BadPeers = cc (c.in_err-host.ensures.bad no) in e.1 ∙ ap Err (e.2 ∙ bad)

pub returns-in_err-host-clause-full : goal.returns-in_err-host-clause-full
returns-in_err-host-clause-full g c =
    let e = err_from_is_err_and c.from_residual.result c.from_residual.ensures.1 in
    λ good. is_err_of c.from_residual.result e.0 OutOfMemory e.1 (e.2 ∙ c.in_err-host.ensures.full good)

pub returns-clause-host : goal.returns-clause-host
returns-clause-host g c = c.in_ok-host.ensures.new

pub returns-clause-ok : goal.returns-clause-ok
returns-clause-ok g c = c.in_ok-host.ensures.good

pub returns-clause-run : goal.returns-clause-run
returns-clause-run g c =
    let small : (k : ℕ) → get_or c.args.peers.now k 0 < 256 = λ (k : ℕ). let fits = c.type_inv.peers k in omega arith in
    rw c.new-2.ensures (transcript_new c.args.me c.args.peers.now c.in_ok-host.host c.in_ok-host.ensures.good (one_fits c.args.peers.now small) c.in_ok-host.ensures.new)
