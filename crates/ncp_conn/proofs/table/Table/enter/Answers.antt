use Rattle.ncp_conn.proofs.Tables.{enters_list, room_left, kept_entered, ends_entered}
use Rattle.slab.specs.Slab.{values}
use Rattle.ncp_conn.proofs.table.Table.enter.Goals as goal

pub insert-requires : goal.insert-requires
insert-requires g c =
    room_left c.self.inside.entries c.args.entry c.self.invariant (enters_list (values c.self.inside.entries.slab) _ c.args.self.now c.args.entry c.self.view_is c.self.invariant.table c.requires.enters)

pub invariant_of-self : goal.invariant_of-self
invariant_of-self g c =
    kept_entered c.self.inside.entries c.insert.new.self c.self.inside.entries.slab.vacant_key c.args.entry c.insert.ensures.vacant c.insert.ensures.enters c.self.invariant c.insert.ensures.sending (enters_list (values c.self.inside.entries.slab) _ c.args.self.now c.args.entry c.self.view_is c.self.invariant.table c.requires.enters)

pub returns : goal.returns
returns g c =
    ends_entered c.self.inside.entries c.insert.new.self c.self.inside.entries.slab.vacant_key c.args.entry c.insert.ensures.vacant c.insert.ensures.enters c.args.self.now c.self.view_is c.self.invariant (enters_list (values c.self.inside.entries.slab) _ c.args.self.now c.args.entry c.self.view_is c.self.invariant.table c.requires.enters)
