use Rattle.std.proofs.Common.{◌∙◌, sym, refl}
use Rattle.ncp_model.specs.Endpoint.{Endpoint}
use Rattle.ncp_conn.specs.Stores.{stored_in, room_in}
use Rattle.ncp_conn.specs.Restoring.{end_told}
use Rattle.ncp_conn.proofs.Restoring.{stands, may, may_not}
use Rattle.ncp_conn.proofs.table.Table.restore.Goals as goal

pub returns-then-not-has_room_for_one-clause-fits : goal.returns-then-not-has_room_for_one-clause-fits
returns-then-not-has_room_for_one-clause-fits g c =
    let e : Endpoint = end_told c.args.told.now (stored_in g.S.BitStore.held c.args.store) (room_in g.S.BitStore.capacity c.args.store) in
    (λ h. absurd (cc), λ h. sym (may_not c.args.self.now c.in-Some.entry c.args.pair e c.in-Some.ensures.entry (sym c.if-not-has_room_for_one.ensures)) ∙ h)

pub enter-requires : goal.enter-requires
enter-requires g c = record {
  enters = stands c.args.self.now c.in-Some.entry.0 c.in-Some.entry.1 c.in-Some.ensures.good (sym c.if-not-has_room_for_one.ensures);
}

pub returns-clause-fits : goal.returns-clause-fits
returns-clause-fits g c =
    let e : Endpoint = end_told c.args.told.now (stored_in g.S.BitStore.held c.args.store) (room_in g.S.BitStore.capacity c.args.store) in
    (λ h. may c.args.self.now c.in-Some.entry c.args.pair e c.in-Some.ensures.entry c.in-Some.ensures.good (sym c.if-not-has_room_for_one.ensures), λ h. refl)
