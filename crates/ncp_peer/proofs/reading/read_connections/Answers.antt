-- Each connection that is read is put into the table beside those before it.
use Rattle.std.proofs.Common.{◌++◌, inl, inr, arith}
use Rattle.std.specs.FinMap.{entries, entries_sorted}
use Rattle.std.proofs.lemmas.Result.{err_from_is_err_and}
use Rattle.ncp_saved.specs.Values.{listed}
use Rattle.ncp_conn.specs.Restoring.{IsPossible}
use Rattle.ncp_peer.specs.SavedPeer.{connection_saved}
use Rattle.ncp_peer.proofs.Connecting.{no_more}
use Rattle.ncp_peer.proofs.Regrouped.{is_read, is_none}
use Rattle.ncp_peer.proofs.ListRead.{at_first, at_mark, at_next, at_most}
use Rattle.ncp_peer.proofs.TableRead.{next_has, next_is_new, none_in, one_in, all_in, goes_on, next_may_stand}
use Rattle.ncp_peer.proofs.reading.read_connections.Goals as goal

pub loop-place-init : goal.loop-place-init
loop-place-init g c = λ m rest stand none e. at_first connection_saved (entries m) rest c.args.reader.now _ e (none_in c.args.table.now none)

pub returns-in_err-mark : goal.returns-in_err-mark
returns-in_err-mark g c = record {
  reads = λ m rest stand none e.
      elim (at_mark connection_saved (entries m) rest c.loop-place.reader c.mark.new.self c.loop-place._place _ c.mark.result (c.loop-place.invariant m rest stand none e) c.mark.ensures.reads) [
        | inl end ↦ absurd (let was = c.in_err-mark.was in let is = end.0 in cc)
        | inr more ↦ absurd (let was = c.in_err-mark.was in let is = more.0 in cc)
      ];
}

pub returns-then-not-branch : goal.returns-then-not-branch
returns-then-not-branch g c = record {
  reads = λ m rest stand none e.
      let at = c.loop-place.invariant m rest stand none e in
      elim (at_mark connection_saved (entries m) rest c.loop-place.reader c.mark.new.self c.loop-place._place _ c.mark.result at c.mark.ensures.reads) [
        | inl end ↦ (all_in m c.loop-place.table at.done at.holds end.1, end.2)
        | inr more ↦ absurd (let was = c.in_ok-mark.was in let is = more.0 in let no = c.if-not-branch.true in cc)
      ];
}

pub returns-in_err-read_connection : goal.returns-in_err-read_connection
returns-in_err-read_connection g c = record {
  reads = λ m rest stand none e.
      let at = c.loop-place.invariant m rest stand none e in
      elim (at_mark connection_saved (entries m) rest c.loop-place.reader c.mark.new.self c.loop-place._place _ c.mark.result at c.mark.ensures.reads) [
        | inl end ↦ absurd (let was = c.in_ok-mark.was in let is = end.0 in let yes = c.if-not-branch.false in cc)
        | inr more ↦
            let next = more.1 in
            let possible = next_has IsPossible (entries m) at.done next.others next.next stand.each next.joined in
            let read = c.read_connection.ensures.reads next.next (listed connection_saved next.others ++ rest) possible (next_may_stand m c.loop-place.table at.done next.others next.next stand at.holds next.joined possible.can) next.bytes in
            let from = err_from_is_err_and c.from_residual-in_err-read_connection.result c.from_residual-in_err-read_connection.ensures.1 in
            rw (from.1, from.2) (is_none _ c.read_connection.result c.in_err-read_connection.field-0.0 c.in_err-read_connection.was read)
      ];
}

pub loop-place-preserved : goal.loop-place-preserved
loop-place-preserved g c = λ m rest stand none e.
    let at = c.loop-place.invariant m rest stand none e in
    elim (at_mark connection_saved (entries m) rest c.loop-place.reader c.mark.new.self c.loop-place._place _ c.mark.result at c.mark.ensures.reads) [
      | inl end ↦ absurd (let was = c.in_ok-mark.was in let is = end.0 in let yes = c.if-not-branch.false in cc)
      | inr more ↦
          let next = more.1 in
          let possible = next_has IsPossible (entries m) at.done next.others next.next stand.each next.joined in
          let read = is_read _ c.read_connection.result c.in_ok-read_connection.field-0 c.in_ok-read_connection.was (c.read_connection.ensures.reads next.next (listed connection_saved next.others ++ rest) possible (next_may_stand m c.loop-place.table at.done next.others next.next stand at.holds next.joined possible.can) next.bytes) in
          let new = next_is_new (entries m) at.done next.others next.next (entries_sorted m) next.joined in
          at_next connection_saved (entries m) rest c.loop-place.reader c.mark.new.self c.read_connection.new.reader c.loop-place._place _ _ at next read.1
          (one_in at.done next.next c.loop-place.table c.read_connection.new.table at.holds new (goes_on next.next possible.can) read.0)
    ]

pub returns : goal.returns
returns g c = record {
  reads = λ m rest stand none e.
      let most = at_most connection_saved (entries m) rest c.loop-place.reader c.loop-place._place _ (c.loop-place.invariant m rest stand none e) in
      let few = no_more m 128 (omega arith) stand.own stand.by_peer in
      absurd (let n = c.loop-place-test.false in omega (arith, most, n, few));
}
