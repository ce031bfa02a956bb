use Rattle.ncp_monitor.proofs.Events.{made_new}
use Rattle.ncp_monitor.proofs.monitor.Monitor.new.Goals as goal

pub returns : goal.returns
returns c =
    made_new c.args.part c.none_seen.result c.in_ok-views.views c.in_ok-kept.kept c.in_ok-conn_tables.conn_tables c.none_seen-2.result c.in_ok-in_doubt.in_doubt
    c.none_seen.ensures c.none_seen-2.ensures c.in_ok-in_doubt.ensures c.in_ok-views.ensures c.in_ok-kept.ensures c.in_ok-conn_tables.ensures
