-- Equality of leaders and of messages, field by field.
use Rattle.std.specs.Prelude.{Bool, nat_eq}
use Rattle.std.specs.Ordering.{on, eq_of_both}
use Rattle.std.specs.Cmp.{IsEquivalence, on_equiv, and_equiv, nat_eq_equiv, bool_eq_equiv}
use Rattle.std.specs.Cmp.Lexicographic.{pointwise, lists_equiv}
use Rattle.std.proofs.Math.Bool.{beq}
use Rattle.ncp_leader.specs.declared.leader.Leader.{Leader}
use Rattle.ncp_leader.specs.Message.{Message}

abbrev pub same_leader : Leader → Leader → Bool
same_leader = eq_of_both (on (λ leader. leader.flags) nat_eq) (eq_of_both (on (λ leader. leader.kind) nat_eq) (eq_of_both (on (λ leader. leader.host) nat_eq) (eq_of_both (on (λ leader. leader.link) nat_eq) (on (λ leader. leader.low) nat_eq))))

abbrev pub same_message : Message → Message → Bool
same_message = eq_of_both (on (λ message. message.leader) same_leader) (eq_of_both (on (λ message. message.size) nat_eq) (eq_of_both (on (λ message. message.count) nat_eq) (on (λ message. message.text) (pointwise beq))))

pub leader_equiv : IsEquivalence same_leader
leader_equiv = and_equiv (on_equiv (λ (leader : Leader). leader.flags) nat_eq_equiv) (and_equiv (on_equiv (λ (leader : Leader). leader.kind) nat_eq_equiv) (and_equiv (on_equiv (λ (leader : Leader). leader.host) nat_eq_equiv) (and_equiv (on_equiv (λ (leader : Leader). leader.link) nat_eq_equiv) (on_equiv (λ (leader : Leader). leader.low) nat_eq_equiv))))

pub message_equiv : IsEquivalence same_message
message_equiv = and_equiv (on_equiv (λ (message : Message). message.leader) leader_equiv) (and_equiv (on_equiv (λ (message : Message). message.size) nat_eq_equiv) (and_equiv (on_equiv (λ (message : Message). message.count) nat_eq_equiv) (on_equiv (λ (message : Message). message.text) (lists_equiv bool_eq_equiv))))
