use Rattle.std.proofs.Common.{◌≡◌, true}
use Rattle.ncp_host.specs.Host.{are_peers}
use Rattle.ncp_play_script.specs.FirstLines.{named_in}
use Rattle.ncp_play_host.proofs.Begun.{is_begun, named_first, not_bad}
use Rattle.ncp_play_host.proofs.beginning.host_of_words.Goals as goal

pub returns-in-Ok-clause-output : goal.returns-in-Ok-clause-output
returns-in-Ok-clause-output g c =
    let named = named_in c.in-Some.hosts in
    let peers : are_peers named.me named.peers ≡ true = rw c.as_slice.ensures.value at c.in-Ok.ensures.ok in
    (named_first c.args.words.now named c.in-Some.ensures peers, is_begun c.in-Ok.alone named (rw c.as_slice.ensures.value at c.in-Ok.ensures.host) c.in-Ok.ensures.notes)

pub returns-in-Err-OutOfMemory-clause-output : goal.returns-in-Err-OutOfMemory-clause-output
returns-in-Err-OutOfMemory-clause-output g c =
    let named = named_in c.in-Some.hosts in
    let bad = rw c.as_slice.ensures.value at c.new.ensures.bad in
    let peers : are_peers named.me named.peers ≡ true = not_bad (are_peers named.me named.peers) c.new.result c.in-Err-OutOfMemory.field-0 bad c.in-Err-OutOfMemory.is c.in-Err-OutOfMemory.field-0-is in
    (named, named_first c.args.words.now named c.in-Some.ensures peers)
