use Rattle.std.proofs.Common.{Some}
use Rattle.ncp_host.specs.Host.{numbers_of}
use Rattle.ncp_transcript.specs.declared.note.HostNote.{HostNote}
use Rattle.ncp_proof_runs.proofs.InRuns.{again_out, nothing_ready}
use Rattle.ncp_proof_runs.proofs.InOrder.{commands-noted}
use Rattle.ncp_proof_runs.proofs.First.{out-first, none-ready}
use Rattle.ncp_proof_runs.proofs.Begun.{is_run, is_run_at, is_kept}
use Rattle.ncp_proof_runs.proofs.transcripts.its_messages_are_explained.Goals as goal

pub returns-clause-commands : goal.returns-clause-commands
returns-clause-commands g c n s there =
    let all = c.args.alone.now.notes in
    let h = c.args.alone.now.host in
    commands-noted h.me (numbers_of h.peers) all n s (is_run all h c.transcript-notes.ensures.run) (is_kept all h n (Some s) c.transcript-notes.ensures.run there)

pub returns-clause-again : goal.returns-clause-again
returns-clause-again g c before after message n on e =
    let all = c.args.alone.now.notes in
    let h = c.args.alone.now.host in
    again_out h.me (numbers_of h.peers) before after message n on (is_run_at all before after (HostNote.Out message) h c.transcript-notes.ensures.run e)

pub returns-clause-first : goal.returns-clause-first
returns-clause-first g c message before after e =
    let all = c.args.alone.now.notes in
    let h = c.args.alone.now.host in
    out-first h.me (numbers_of h.peers) before after message (is_run_at all before after (HostNote.Out message) h c.transcript-notes.ensures.run e)

pub returns-clause-none_ready : goal.returns-clause-none_ready
returns-clause-none_ready g c before after e =
    let all = c.args.alone.now.notes in
    let h = c.args.alone.now.host in
    none-ready h.me (numbers_of h.peers) before after (is_run_at all before after HostNote.Nothing h c.transcript-notes.ensures.run e)

pub returns-clause-nothing : goal.returns-clause-nothing
returns-clause-nothing g c before after e n on =
    let all = c.args.alone.now.notes in
    let h = c.args.alone.now.host in
    nothing_ready h.me (numbers_of h.peers) before after n on (is_run_at all before after HostNote.Nothing h c.transcript-notes.ensures.run e)
