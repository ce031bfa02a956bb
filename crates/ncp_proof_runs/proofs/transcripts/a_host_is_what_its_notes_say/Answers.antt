use Rattle.std.proofs.Common.{Some, ap, ◌∙◌}
use Rattle.ncp_host.specs.Host.{Host, numbers_of}
use Rattle.ncp_proof_runs.proofs.Ignored.{ignored_told}
use Rattle.ncp_proof_runs.proofs.InOrder.{flags-noted, up-noted}
use Rattle.ncp_proof_runs.proofs.Recorded.{record-there}
use Rattle.ncp_proof_runs.proofs.EchoTold.{echoes-noted}
use Rattle.ncp_proof_runs.proofs.CountsTold.{counts-noted}
use Rattle.ncp_proof_runs.proofs.Begun.{is_run, is_kept, peer_told}
use Rattle.ncp_proof_runs.proofs.transcripts.a_host_is_what_its_notes_say.Goals as goal

pub returns-clause-run : goal.returns-clause-run
returns-clause-run g c = is_run c.args.alone.now.notes c.args.alone.now.host c.transcript-notes.ensures.run

pub returns-clause-host : goal.returns-clause-host
returns-clause-host g c = c.transcript-notes.ensures.run.state

pub returns-clause-peer : goal.returns-clause-peer
returns-clause-peer g c n e = peer_told c.args.alone.now.notes c.args.alone.now.host n c.transcript-notes.ensures.run e

pub returns-clause-down : goal.returns-clause-down
returns-clause-down g c n s there =
    let all = c.args.alone.now.notes in
    let h = c.args.alone.now.host in
    (flags-noted h.me (numbers_of h.peers) all n s (is_run all h c.transcript-notes.ensures.run) (is_kept all h n (Some s) c.transcript-notes.ensures.run there)).0

pub returns-clause-want : goal.returns-clause-want
returns-clause-want g c n s there =
    let all = c.args.alone.now.notes in
    let h = c.args.alone.now.host in
    (flags-noted h.me (numbers_of h.peers) all n s (is_run all h c.transcript-notes.ensures.run) (is_kept all h n (Some s) c.transcript-notes.ensures.run there)).1

pub returns-clause-owe : goal.returns-clause-owe
returns-clause-owe g c n s there =
    let all = c.args.alone.now.notes in
    let h = c.args.alone.now.host in
    (flags-noted h.me (numbers_of h.peers) all n s (is_run all h c.transcript-notes.ensures.run) (is_kept all h n (Some s) c.transcript-notes.ensures.run there)).3

pub returns-clause-wait : goal.returns-clause-wait
returns-clause-wait g c n s there =
    let all = c.args.alone.now.notes in
    let h = c.args.alone.now.host in
    (flags-noted h.me (numbers_of h.peers) all n s (is_run all h c.transcript-notes.ensures.run) (is_kept all h n (Some s) c.transcript-notes.ensures.run there)).2

pub returns-clause-up : goal.returns-clause-up
returns-clause-up g c n s there =
    let all = c.args.alone.now.notes in
    let h = c.args.alone.now.host in
    up-noted h.me (numbers_of h.peers) all n s (is_run all h c.transcript-notes.ensures.run) (is_kept all h n (Some s) c.transcript-notes.ensures.run there)

pub returns-clause-records : goal.returns-clause-records
returns-clause-records g c n s pair there =
    let all = c.args.alone.now.notes in
    let h = c.args.alone.now.host in
    record-there h.me (numbers_of h.peers) all n s pair (is_run all h c.transcript-notes.ensures.run) (is_kept all h n (Some s) c.transcript-notes.ensures.run there)

pub returns-clause-echo : goal.returns-clause-echo
returns-clause-echo g c n s there =
    let all = c.args.alone.now.notes in
    let h = c.args.alone.now.host in
    echoes-noted h.me (numbers_of h.peers) all n s (is_run all h c.transcript-notes.ensures.run) (is_kept all h n (Some s) c.transcript-notes.ensures.run there)

pub returns-clause-counts : goal.returns-clause-counts
returns-clause-counts g c n s there =
    let all = c.args.alone.now.notes in
    let h = c.args.alone.now.host in
    counts-noted h.me (numbers_of h.peers) all n s (is_run all h c.transcript-notes.ensures.run) (is_kept all h n (Some s) c.transcript-notes.ensures.run there)

pub returns-clause-ignored : goal.returns-clause-ignored
returns-clause-ignored g c =
    let all = c.args.alone.now.notes in
    let h = c.args.alone.now.host in
    ap (λ (x : Host). x.ignored) c.transcript-notes.ensures.run.state ∙ ignored_told h.me (numbers_of h.peers) all (is_run all h c.transcript-notes.ensures.run)
