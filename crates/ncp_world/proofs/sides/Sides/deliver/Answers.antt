use Rattle.std.proofs.Common.{sym, ◌∙◌}
use Rattle.ncp_transcript_two.specs.Between.{Hosts}
use Rattle.ncp_world.proofs.Delivering.{noted-at-a, noted-at-b, came-at-a, came-at-b}
use Rattle.ncp_world.proofs.sides.Sides.deliver.Goals.{in-A+in_ok-told-in-A, in-B+in_ok-told-in-B}
use Rattle.ncp_world.proofs.sides.Sides.deliver.Goals as goal

pub returns-in-Some-clause-note : goal.returns-in-Some-clause-note
returns-in-Some-clause-note g c =
    let was : Hosts = record { number_a = c.self.inside.number_a; number_b = c.self.inside.number_b; a = c.self.inside.a; b = c.self.inside.b; subnet = c.self.inside.subnet } in
    elim c.match-side.branch [
      | in-A+in_ok-told-in-A w ↦ noted-at-b was c.args.self.now c.other.result c.args.link c.number-from.result c.number-to.result c.self.view_is c.in-Some.note w.in_ok-told-in-A.told (sym w.told-is ∙ c.in-Some.is) c.args.side w.in-A.is c.number-from.ensures c.other.ensures c.number-to.ensures w.in_ok-told-in-A.ensures.note
      | in-B+in_ok-told-in-B w ↦ noted-at-a was c.args.self.now c.other.result c.args.link c.number-from.result c.number-to.result c.self.view_is c.in-Some.note w.in_ok-told-in-B.told (sym w.told-is ∙ c.in-Some.is) c.args.side w.in-B.is c.number-from.ensures c.other.ensures c.number-to.ensures w.in_ok-told-in-B.ensures.note
    ]

pub returns-in-Some-clause-hosts : goal.returns-in-Some-clause-hosts
returns-in-Some-clause-hosts g c =
    let was : Hosts = record { number_a = c.self.inside.number_a; number_b = c.self.inside.number_b; a = c.self.inside.a; b = c.self.inside.b; subnet = c.self.inside.subnet } in
    elim c.match-side.branch [
      | in-A+in_ok-told-in-A w ↦ w.self-is ∙ came-at-b was c.args.self.now c.other.result c.args.link c.number-from.result c.number-to.result c.self.view_is c.in-Some.note w.in_ok-told-in-A.told (sym w.told-is ∙ c.in-Some.is) c.args.side w.comes.new.host w.comes.new.subnet w.in-A.is c.number-from.ensures c.other.ensures c.number-to.ensures w.in_ok-told-in-A.ensures.host w.in_ok-told-in-A.ensures.subnet
      | in-B+in_ok-told-in-B w ↦ w.self-is ∙ came-at-a was c.args.self.now c.other.result c.args.link c.number-from.result c.number-to.result c.self.view_is c.in-Some.note w.in_ok-told-in-B.told (sym w.told-is ∙ c.in-Some.is) c.args.side w.comes-in-B.new.host w.comes-in-B.new.subnet w.in-B.is c.number-from.ensures c.other.ensures c.number-to.ensures w.in_ok-told-in-B.ensures.host w.in_ok-told-in-B.ensures.subnet
    ]
