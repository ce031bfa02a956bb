-- What an IMP reports about the messages of its host (BBN 1822: type 10, Interface Reset; type 8, Error in
-- Data).
use Rattle.std.specs.Prelude.{◌==◌, Bool, List, Option, Some, None, Result, Ok, Err, if◌then◌else◌}
use Rattle.ncp_leader.specs.declared.leader.Leader.{Leader}
use Rattle.ncp_leader.specs.declared.leader.Short.{Short}
use Rattle.ncp_leader.specs.Leader.{leader_in}
use Rattle.ncp_interface.specs.declared.imp_direction.ImpDirection.{ImpDirection}
use Rattle.ncp_interface.specs.declared.imp_direction.ImpDirection.TheVariants.{ToImp, FromImp}
use Rattle.ncp_interface.specs.declared.notice.ImpNotice.{ImpNotice}
use Rattle.ncp_interface.specs.declared.notice.ImpNotice.TheVariants as notice

abbrev pub notice_in : Leader → Option ImpNotice
notice_in leader =
    if leader.kind == 10 then Some notice.InterfaceReset
    else if leader.kind == 8 then Some (notice.MessageRefused leader.host leader.link)
    else None

abbrev pub notice_after : ImpDirection → Result Leader Short → Option ImpNotice
notice_after ToImp read = None
notice_after FromImp (Err short) = None
notice_after FromImp (Ok leader) = notice_in leader

abbrev pub notice_of : ImpDirection → List Bool → Option ImpNotice
notice_of way bits = notice_after way (leader_in bits)
