-- How an item of a control text (a command, or the fault at its end) changes how far two hosts have come
-- up: as an RST, as an RRP, or not as a reset.
use Rattle.std.specs.Prelude.{Result, Ok}
use Rattle.std.specs.declared.result.Result.TheVariants.{Err as Fault}
use Rattle.ncp_wire.specs.declared.command.Command.{Command}
use Rattle.ncp_wire.specs.declared.command.Command.TheVariants.{Nop, Rts, Str, Cls, All as Allocate, Gvb, Ret, Inr, Ins, Eco, Erp, Err, Rst, Rrp}
use Rattle.ncp_wire.specs.declared.fault.CommandFault.{CommandFault}
use Rattle.ncp_monitor.specs.declared.finding.ItemKind.TheVariants as a
use Rattle.ncp_monitor.specs.declared.act.Act.{Act}
use Rattle.ncp_monitor.specs.declared.act.Act.TheVariants.{Reset, Reply, Other}

abbrev pub act_of : Result Command CommandFault → Act
act_of (Fault fault) = Other a.Bad
act_of (Ok Nop) = Other a.Nop
act_of (Ok (Rts receive send link)) = Other a.Rts
act_of (Ok (Str send receive size)) = Other a.Str
act_of (Ok (Cls my your)) = Other a.Cls
act_of (Ok (Allocate link messages bits)) = Other a.All
act_of (Ok (Gvb link fm fb)) = Other a.Gvb
act_of (Ok (Ret link messages bits)) = Other a.Ret
act_of (Ok (Inr link)) = Other a.Inr
act_of (Ok (Ins link)) = Other a.Ins
act_of (Ok (Eco byte)) = Other a.Eco
act_of (Ok (Erp byte)) = Other a.Erp
act_of (Ok (Err code bytes)) = Other a.Err
act_of (Ok Rst) = Reset
act_of (Ok Rrp) = Reply
