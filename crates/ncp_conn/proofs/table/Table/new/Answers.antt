use Rattle.ncp_conn.proofs.Tables.{kept_empty, ends_empty}
use Rattle.ncp_conn.proofs.table.Table.new.Goals as goal

pub invariant_of-result : goal.invariant_of-result
invariant_of-result g c =
    let made = c.in_ok-new.ensures in
    kept_empty c.in_ok-new.field-0 made.slots made.room made.senders made.receivers made.sending

pub returns : goal.returns
returns g c = let made = c.in_ok-new.ensures in ends_empty c.in_ok-new.field-0 made.slots
