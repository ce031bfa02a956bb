use Rattle.std.proofs.Common.{sym}
use Rattle.ncp_conn.proofs.Finding.{is_found, found_has}
use Rattle.ncp_conn.proofs.entries.Entries.find.Goals as goal

pub returns-clause-found : goal.returns-clause-found
returns-clause-found g c = is_found c.args.pair c.args.self.now.slab c.key_of.result (sym c.key_of.ensures)

pub returns-clause-inside : goal.returns-clause-inside
returns-clause-inside g c = found_has c.args.pair c.args.self.now.slab c.key_of.result (is_found c.args.pair c.args.self.now.slab c.key_of.result (sym c.key_of.ensures))
