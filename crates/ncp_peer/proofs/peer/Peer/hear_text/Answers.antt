use Rattle.std.proofs.Common.{◌≡◌, inl, inr, ℕ, sym, ap, ◌∙◌}
use Rattle.ncp_peer.specs.PeerState.{PeerState}
use Rattle.ncp_peer.specs.Hearing.{state_after_text, text_received}
use Rattle.ncp_peer.specs.Counting.{counts_of_text}
use Rattle.ncp_peer.proofs.Receiving.{down_received, down_heard, up_received, up_heard}
use Rattle.ncp_peer.proofs.peer.Peer.hear_text.Goals as goal

pub returns-then-not-is_up-clause-received : goal.returns-then-not-is_up-clause-received
returns-then-not-is_up-clause-received g c =
    let s : PeerState = record { peer = c.self.inside.association; slots = c.self.inside.slots; counts = c.self.inside.counts } in
    down_received c.args.link c.args.head c.args.message.now s (sym c.is_up.ensures ∙ c.if-not-is_up.true)
    ∙ ap (text_received c.args.link c.args.message.now) c.self.view_is

pub returns-then-not-is_up-clause-state : goal.returns-then-not-is_up-clause-state
returns-then-not-is_up-clause-state g c =
    let s : PeerState = record { peer = c.self.inside.association; slots = c.self.inside.slots; counts = c.self.inside.counts } in
    down_heard c.args.link c.args.head c.args.message.now s c.one_more-self-inside.result (sym c.is_up.ensures ∙ c.if-not-is_up.true) c.one_more-self-inside.ensures
    ∙ ap (state_after_text c.args.link c.args.head c.args.message.now) c.self.view_is

pub returns-in-Late-clause-received : goal.returns-in-Late-clause-received
returns-in-Late-clause-received g c =
    let s : PeerState = record { peer = c.self.inside.association; slots = c.self.inside.slots; counts = c.self.inside.counts } in
    up_received c.args.link c.args.head c.args.message.now s c.size.result c.text.result c.hear_text-took.result (sym c.is_up.ensures ∙ c.if-not-is_up.false) c.size.ensures.size c.text.ensures.text c.hear_text-took.ensures.took
    ∙ ap (text_received c.args.link c.args.message.now) c.self.view_is

pub returns-in-Late-clause-state : goal.returns-in-Late-clause-state
returns-in-Late-clause-state g c =
    let s : PeerState = record { peer = c.self.inside.association; slots = c.self.inside.slots; counts = c.self.inside.counts } in
    up_heard c.args.link c.args.head c.args.message.now s c.size.result c.text.result c.hear_text-took.result (sym c.is_up.ensures ∙ c.if-not-is_up.false) c.size.ensures.size c.text.ensures.text c.hear_text-took.ensures.took
    c.hear_text-took.new.self _ c.hear_text-took.ensures.peer
    (ap (λ (n : ℕ). record s.counts { late = n }) c.one_more-self-inside-in-Late.ensures ∙ sym (ap (λ t. counts_of_text t s.counts) c.in-Late.is))
    ∙ ap (state_after_text c.args.link c.args.head c.args.message.now) c.self.view_is

pub returns-in-WrongSize-clause-received : goal.returns-in-WrongSize-clause-received
returns-in-WrongSize-clause-received g c =
    let s : PeerState = record { peer = c.self.inside.association; slots = c.self.inside.slots; counts = c.self.inside.counts } in
    up_received c.args.link c.args.head c.args.message.now s c.size.result c.text.result c.hear_text-took.result (sym c.is_up.ensures ∙ c.if-not-is_up.false) c.size.ensures.size c.text.ensures.text c.hear_text-took.ensures.took
    ∙ ap (text_received c.args.link c.args.message.now) c.self.view_is

pub returns-in-WrongSize-clause-state : goal.returns-in-WrongSize-clause-state
returns-in-WrongSize-clause-state g c =
    let s : PeerState = record { peer = c.self.inside.association; slots = c.self.inside.slots; counts = c.self.inside.counts } in
    up_heard c.args.link c.args.head c.args.message.now s c.size.result c.text.result c.hear_text-took.result (sym c.is_up.ensures ∙ c.if-not-is_up.false) c.size.ensures.size c.text.ensures.text c.hear_text-took.ensures.took
    c.hear_text-took.new.self _ c.hear_text-took.ensures.peer
    (ap (λ (n : ℕ). record s.counts { wrong_size = n }) c.one_more-self-inside-in-WrongSize.ensures ∙ sym (ap (λ t. counts_of_text t s.counts) c.in-WrongSize.is))
    ∙ ap (state_after_text c.args.link c.args.head c.args.message.now) c.self.view_is

pub returns-in-Over-clause-received : goal.returns-in-Over-clause-received
returns-in-Over-clause-received g c =
    let s : PeerState = record { peer = c.self.inside.association; slots = c.self.inside.slots; counts = c.self.inside.counts } in
    up_received c.args.link c.args.head c.args.message.now s c.size.result c.text.result c.hear_text-took.result (sym c.is_up.ensures ∙ c.if-not-is_up.false) c.size.ensures.size c.text.ensures.text c.hear_text-took.ensures.took
    ∙ ap (text_received c.args.link c.args.message.now) c.self.view_is

pub returns-in-Over-clause-state : goal.returns-in-Over-clause-state
returns-in-Over-clause-state g c =
    let s : PeerState = record { peer = c.self.inside.association; slots = c.self.inside.slots; counts = c.self.inside.counts } in
    up_heard c.args.link c.args.head c.args.message.now s c.size.result c.text.result c.hear_text-took.result (sym c.is_up.ensures ∙ c.if-not-is_up.false) c.size.ensures.size c.text.ensures.text c.hear_text-took.ensures.took
    c.hear_text-took.new.self _ c.hear_text-took.ensures.peer
    (ap (λ (n : ℕ). record s.counts { over = n }) c.one_more-self-inside-in-Over.ensures ∙ sym (ap (λ t. counts_of_text t s.counts) c.in-Over.is))
    ∙ ap (state_after_text c.args.link c.args.head c.args.message.now) c.self.view_is

pub returns-in-Admitted-clause-received : goal.returns-in-Admitted-clause-received
returns-in-Admitted-clause-received g c =
    let s : PeerState = record { peer = c.self.inside.association; slots = c.self.inside.slots; counts = c.self.inside.counts } in
    up_received c.args.link c.args.head c.args.message.now s c.size.result c.text.result c.hear_text-took.result (sym c.is_up.ensures ∙ c.if-not-is_up.false) c.size.ensures.size c.text.ensures.text c.hear_text-took.ensures.took
    ∙ ap (text_received c.args.link c.args.message.now) c.self.view_is

pub returns-in-Admitted-clause-state : goal.returns-in-Admitted-clause-state
returns-in-Admitted-clause-state g c =
    let s : PeerState = record { peer = c.self.inside.association; slots = c.self.inside.slots; counts = c.self.inside.counts } in
    let counts : s.counts ≡ counts_of_text c.hear_text-took.result s.counts = elim c.in-Admitted.is [
      | inl e ↦ sym (ap (λ t. counts_of_text t s.counts) e)
      | inr e ↦ sym (ap (λ t. counts_of_text t s.counts) e)
    ] in
    up_heard c.args.link c.args.head c.args.message.now s c.size.result c.text.result c.hear_text-took.result (sym c.is_up.ensures ∙ c.if-not-is_up.false) c.size.ensures.size c.text.ensures.text c.hear_text-took.ensures.took
    c.hear_text-took.new.self c.self.inside.counts c.hear_text-took.ensures.peer counts
    ∙ ap (state_after_text c.args.link c.args.head c.args.message.now) c.self.view_is
