use Rattle.std.proofs.Common.{◌≡◌, ◌+◌, true, false, refl, sym, ◌∙◌, get_or}
use Rattle.std.specs.Prelude.{slice_set}
use Rattle.ncp_host.proofs.Turns.{none_yet, turn_some, turn_none, turns_idle, turn_over, turn_goes}
use Rattle.ncp_host.proofs.host.send_first.Goals as goal

pub loop-place-init : goal.loop-place-init
loop-place-init g c =
    turns_idle c.args.numbers.now c.args.peers.now c.args.peers.now 0 c.first_not_idle-place.result c.requires (none_yet c.args.numbers.now c.args.peers.now) c.first_not_idle-place.ensures.least c.first_not_idle-place.ensures.inside c.first_not_idle-place.ensures.passed

pub returns-in-Some-clause-sent : goal.returns-in-Some-clause-sent
returns-in-Some-clause-sent g c =
    (turn_some c.args.numbers.now c.args.peers.now c.loop-place.peers c.loop-place.place (get_or c.args.numbers.now c.loop-place.place 0) 0 (get_or c.loop-place.peers c.loop-place.place c.index-peers-place.result) c.index-peers-place.result c.send_next.new.self c.requires c.loop-place.invariant c.loop-place-test.true refl refl
    c.in-Some.link (sym c.in-Some.is ∙ c.send_next.ensures.link) c.send_next.ensures.state).0

pub returns-in-Some-clause-none : goal.returns-in-Some-clause-none
returns-in-Some-clause-none g c = (
  λ none. let both : true ≡ false = none in absurd (cc),
  λ none. absurd (turn_goes c.args.numbers.now c.args.peers.now c.loop-place.peers c.loop-place.place (get_or c.args.numbers.now c.loop-place.place 0) 0 (get_or c.loop-place.peers c.loop-place.place c.index-peers-place.result) c.index-peers-place.result c.send_next.new.self c.requires c.loop-place.invariant c.loop-place-test.true refl refl
      c.in-Some.link (sym c.in-Some.is ∙ c.send_next.ensures.link) none),
)

pub returns-in-Some-clause-peers : goal.returns-in-Some-clause-peers
returns-in-Some-clause-peers g c =
    (turn_some c.args.numbers.now c.args.peers.now c.loop-place.peers c.loop-place.place (get_or c.args.numbers.now c.loop-place.place 0) 0 (get_or c.loop-place.peers c.loop-place.place c.index-peers-place.result) c.index-peers-place.result c.send_next.new.self c.requires c.loop-place.invariant c.loop-place-test.true refl refl
    c.in-Some.link (sym c.in-Some.is ∙ c.send_next.ensures.link) c.send_next.ensures.state).1

pub loop-place-preserved : goal.loop-place-preserved
loop-place-preserved g c =
    let yet = turn_none c.args.numbers.now c.args.peers.now c.loop-place.peers c.loop-place.place (get_or c.args.numbers.now c.loop-place.place 0) 0 (get_or c.loop-place.peers c.loop-place.place c.index-peers-place.result) c.index-peers-place.result c.send_next.new.self c.requires c.loop-place.invariant c.loop-place-test.true refl refl
    (sym c.in_default.is ∙ c.send_next.ensures.link) (rw c.in_default.is at c.send_next.ensures.none) in
    turns_idle c.args.numbers.now c.args.peers.now (slice_set c.loop-place.peers c.loop-place.place c.send_next.new.self) (c.loop-place.place + 1) c.first_not_idle-place-in-loop-place.result c.requires yet c.first_not_idle-place-in-loop-place.ensures.least c.first_not_idle-place-in-loop-place.ensures.inside c.first_not_idle-place-in-loop-place.ensures.passed

pub returns-clause-none : goal.returns-clause-none
returns-clause-none g c = (λ none. sym (turn_over c.args.numbers.now c.args.peers.now c.loop-place.peers c.loop-place.place c.requires c.loop-place.invariant c.loop-place-test.false).0, λ none. refl)

pub returns-clause-peers : goal.returns-clause-peers
returns-clause-peers g c = (turn_over c.args.numbers.now c.args.peers.now c.loop-place.peers c.loop-place.place c.requires c.loop-place.invariant c.loop-place-test.false).1
