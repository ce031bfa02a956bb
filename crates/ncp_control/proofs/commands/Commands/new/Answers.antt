use Rattle.std.proofs.Common.{◌≡◌, ◌*◌, ◌≤◌, length, refl, arith}
use Rattle.ncp_numbers.specs.Bytes.{bytes_of}
use Rattle.ncp_control.specs.Reading.{items_in}
use Rattle.ncp_control.proofs.Text.{length_whole, bytes_are_small}
use Rattle.ncp_control.proofs.Reading.{reads, commands_met, fault_met, last_met, items_are_few}
use Rattle.ncp_control.proofs.commands.Commands.new.Goals as goal

pub returns-clause-reads : goal.returns-clause-reads
returns-clause-reads c = reads (bytes_of c.args.text) (bytes_are_small c.args.text)

pub returns-clause-count : goal.returns-clause-count
returns-clause-count c =
    let l : 8 * length (bytes_of c.args.text) ≡ length c.args.text = length_whole c.args.text c.requires in
    let few : length (items_in (bytes_of c.args.text)) ≤ length (bytes_of c.args.text) = items_are_few (bytes_of c.args.text) (bytes_are_small c.args.text) in
    omega arith

pub returns-clause-commands : goal.returns-clause-commands
returns-clause-commands c = commands_met (bytes_of c.args.text)

pub returns-clause-fault : goal.returns-clause-fault
returns-clause-fault c = fault_met (bytes_of c.args.text)

pub returns-clause-items : goal.returns-clause-items
unfolding items_in
returns-clause-items c = refl

pub returns-clause-last : goal.returns-clause-last
returns-clause-last c = last_met (bytes_of c.args.text)
