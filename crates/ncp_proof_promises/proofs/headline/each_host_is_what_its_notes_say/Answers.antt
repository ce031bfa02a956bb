use Rattle.std.proofs.Common.{ℕ, List, Some, ap}
use Rattle.ncp_model.specs.Echo.{Echoes}
use Rattle.ncp_peer.specs.PeerState.{PeerState}
use Rattle.ncp_host.specs.Host.{Host, numbers_of}
use Rattle.ncp_proof_runs.proofs.EchoTold.{echoes-noted}
use Rattle.ncp_proof_runs.proofs.CountsTold.{counts-noted}
use Rattle.ncp_proof_runs.proofs.Begun.{is_run, is_kept}
use Rattle.ncp_proof_runs.proofs.InOrder.{commands-noted, flags-noted, up-noted}
use Rattle.ncp_proof_runs.proofs.InRuns.{slot_as_noted}
use Rattle.ncp_proof_runs.proofs.Recorded.{record-there}
use Rattle.ncp_transcript.specs.declared.note.HostNote.{HostNote}
use Rattle.ncp_transcript_two.specs.Between.{other, side_number, host_of}
use Rattle.ncp_transcript_two.specs.Sides.{notes_at}
use Rattle.ncp_transcript_two.specs.Seen.{had_for}
use Rattle.ncp_proof_promises.proofs.Standing.{kept-for}
use Rattle.ncp_proof_promises.proofs.headline.each_host_is_what_its_notes_say.Goals as goal

pub returns-clause-commands : goal.returns-clause-commands
returns-clause-commands c ns w side is =
    let all : List HostNote = notes_at side ns in
    let h : Host = host_of side w in
    let n : ℕ = side_number (other side) w in
    let s : PeerState = had_for n h in
    let t = c.each_host_is_by_itself.ensures ns w side is in
    commands-noted h.me (numbers_of h.peers) all n s (is_run all h t) (is_kept all h n (Some s) t (kept-for ns w side is))

pub returns-clause-up : goal.returns-clause-up
returns-clause-up c ns w side is =
    let all : List HostNote = notes_at side ns in
    let h : Host = host_of side w in
    let n : ℕ = side_number (other side) w in
    let s : PeerState = had_for n h in
    let t = c.each_host_is_by_itself.ensures ns w side is in
    up-noted h.me (numbers_of h.peers) all n s (is_run all h t) (is_kept all h n (Some s) t (kept-for ns w side is))

pub returns-clause-down : goal.returns-clause-down
returns-clause-down c ns w side is =
    let all : List HostNote = notes_at side ns in
    let h : Host = host_of side w in
    let n : ℕ = side_number (other side) w in
    let s : PeerState = had_for n h in
    let t = c.each_host_is_by_itself.ensures ns w side is in
    (flags-noted h.me (numbers_of h.peers) all n s (is_run all h t) (is_kept all h n (Some s) t (kept-for ns w side is))).0

pub returns-clause-want : goal.returns-clause-want
returns-clause-want c ns w side is =
    let all : List HostNote = notes_at side ns in
    let h : Host = host_of side w in
    let n : ℕ = side_number (other side) w in
    let s : PeerState = had_for n h in
    let t = c.each_host_is_by_itself.ensures ns w side is in
    (flags-noted h.me (numbers_of h.peers) all n s (is_run all h t) (is_kept all h n (Some s) t (kept-for ns w side is))).1

pub returns-clause-owe : goal.returns-clause-owe
returns-clause-owe c ns w side is =
    let all : List HostNote = notes_at side ns in
    let h : Host = host_of side w in
    let n : ℕ = side_number (other side) w in
    let s : PeerState = had_for n h in
    let t = c.each_host_is_by_itself.ensures ns w side is in
    (flags-noted h.me (numbers_of h.peers) all n s (is_run all h t) (is_kept all h n (Some s) t (kept-for ns w side is))).3

pub returns-clause-waits : goal.returns-clause-waits
returns-clause-waits c ns w side is =
    let all : List HostNote = notes_at side ns in
    let h : Host = host_of side w in
    let n : ℕ = side_number (other side) w in
    let s : PeerState = had_for n h in
    let t = c.each_host_is_by_itself.ensures ns w side is in
    (flags-noted h.me (numbers_of h.peers) all n s (is_run all h t) (is_kept all h n (Some s) t (kept-for ns w side is))).2

pub returns-clause-slots : goal.returns-clause-slots
returns-clause-slots c ns w side is on =
    let all : List HostNote = notes_at side ns in
    let h : Host = host_of side w in
    let n : ℕ = side_number (other side) w in
    let s : PeerState = had_for n h in
    let t = c.each_host_is_by_itself.ensures ns w side is in
    slot_as_noted h.me (numbers_of h.peers) all n on s (is_run all h t) (is_kept all h n (Some s) t (kept-for ns w side is))

pub returns-clause-records : goal.returns-clause-records
returns-clause-records c ns w side is pair =
    let all : List HostNote = notes_at side ns in
    let h : Host = host_of side w in
    let n : ℕ = side_number (other side) w in
    let s : PeerState = had_for n h in
    let t = c.each_host_is_by_itself.ensures ns w side is in
    record-there h.me (numbers_of h.peers) all n s pair (is_run all h t) (is_kept all h n (Some s) t (kept-for ns w side is))

pub returns-clause-echo : goal.returns-clause-echo
returns-clause-echo c ns w side is =
    let all : List HostNote = notes_at side ns in
    let h : Host = host_of side w in
    let n : ℕ = side_number (other side) w in
    let s : PeerState = had_for n h in
    let t = c.each_host_is_by_itself.ensures ns w side is in
    ap (λ (x : Echoes). x.awaited) (echoes-noted h.me (numbers_of h.peers) all n s (is_run all h t) (is_kept all h n (Some s) t (kept-for ns w side is)))

pub returns-clause-echoed : goal.returns-clause-echoed
returns-clause-echoed c ns w side is =
    let all : List HostNote = notes_at side ns in
    let h : Host = host_of side w in
    let n : ℕ = side_number (other side) w in
    let s : PeerState = had_for n h in
    let t = c.each_host_is_by_itself.ensures ns w side is in
    ap (λ (x : Echoes). x.echoed) (echoes-noted h.me (numbers_of h.peers) all n s (is_run all h t) (is_kept all h n (Some s) t (kept-for ns w side is)))

pub returns-clause-errors : goal.returns-clause-errors
returns-clause-errors c ns w side is =
    let all : List HostNote = notes_at side ns in
    let h : Host = host_of side w in
    let n : ℕ = side_number (other side) w in
    let s : PeerState = had_for n h in
    let t = c.each_host_is_by_itself.ensures ns w side is in
    ap (λ (x : Echoes). x.errors) (echoes-noted h.me (numbers_of h.peers) all n s (is_run all h t) (is_kept all h n (Some s) t (kept-for ns w side is)))

pub returns-clause-counts : goal.returns-clause-counts
returns-clause-counts c ns w side is =
    let all : List HostNote = notes_at side ns in
    let h : Host = host_of side w in
    let n : ℕ = side_number (other side) w in
    let s : PeerState = had_for n h in
    let t = c.each_host_is_by_itself.ensures ns w side is in
    counts-noted h.me (numbers_of h.peers) all n s (is_run all h t) (is_kept all h n (Some s) t (kept-for ns w side is))
