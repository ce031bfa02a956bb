use Rattle.std.proofs.Common.{◌≡◌, ◌+◌, List, [], ◌∷◌, ◌++◌, length, Ok, Err, Result, sym, ap, ◌∙◌, arith}
use Rattle.std.proofs.lemmas.List.{append_assoc, append-nil}
use Rattle.ncp_numbers.specs.Bytes.{bytes_of}
use Rattle.ncp_wire.specs.declared.command.Command.{Command}
use Rattle.ncp_wire.specs.declared.fault.CommandFault.{CommandFault}
use Rattle.ncp_control.specs.Texts.{items_of, commands_among}
use Rattle.ncp_control.specs.Reading.{commands_in, fault_in}
use Rattle.ncp_model.specs.Peers.{Peer}
use Rattle.ncp_peer.specs.declared.counts.Counts.{Counts}
use Rattle.ncp_peer.specs.Steps.{heard_items}
use Rattle.ncp_peer.proofs.Hearing.{item_heard, both, fewer, commands_ok, commands_err}
use Rattle.ncp_peer.proofs.association.Association.hear_all.Goals as goal

pub overflow_add-count : goal.overflow_add-count
overflow_add-count g c =
    let n = fewer c.loop-item.yielded c.loop-item.item-iterator c.into_iter-item-iterator.result c.in-Some.item c.next.new.self c.loop-item.invariant.items c.in-Some.ensures.steps in
    let m = ap (λ (xs : List (Result Command CommandFault)). length xs) c.into_iter-item-iterator.ensures.into_iter_gives in
    omega (arith, n, m, c.new-item-items.ensures.count, c.len-bits.ensures.len, c.len-bits.ensures.fits, c.loop-item.invariant.count)

pub loop-item-preserved-in-Ok : goal.loop-item-preserved-in-Ok
loop-item-preserved-in-Ok g c = record {
  can = tt;
  ends = tt;
  items = append_assoc c.loop-item.yielded (c.in-Some.item ∷ []) c.next.new.self ∙ ap (λ items. c.loop-item.yielded ++ items) (sym c.in-Some.ensures.steps) ∙ c.loop-item.invariant.items;
  count = ap (λ n. n + 1) c.loop-item.invariant.count ∙ sym (commands_ok c.loop-item.yielded c.in-Ok.command) ∙ ap (λ x. length (commands_among (c.loop-item.yielded ++ x ∷ []))) (sym c.in-Ok.is);
  heard = item_heard c.args.quiet c.loop-item.yielded c.in-Some.item (Ok c.in-Ok.command) (c.args.self.now, c.args.counts.now) (c.loop-item.self, c.loop-item.counts) (c.hear.new.self, c.hear.new.counts)
      c.in-Ok.is c.loop-item.invariant.heard (both c.hear.ensures.peer c.hear.ensures.counts);
}

pub loop-item-preserved : goal.loop-item-preserved
loop-item-preserved g c = record {
  can = tt;
  ends = tt;
  items = append_assoc c.loop-item.yielded (c.in-Some.item ∷ []) c.next.new.self ∙ ap (λ items. c.loop-item.yielded ++ items) (sym c.in-Some.ensures.steps) ∙ c.loop-item.invariant.items;
  count = c.loop-item.invariant.count ∙ sym (commands_err c.loop-item.yielded c.in-Err.fault) ∙ ap (λ x. length (commands_among (c.loop-item.yielded ++ x ∷ []))) (sym c.in-Err.is);
  heard = item_heard c.args.quiet c.loop-item.yielded c.in-Some.item (Err c.in-Err.fault) (c.args.self.now, c.args.counts.now) (c.loop-item.self, c.loop-item.counts) (c.hear_fault.new.self, c.hear_fault.new.counts)
      c.in-Err.is c.loop-item.invariant.heard (both c.hear_fault.ensures.peer c.hear_fault.ensures.counts);
}

pub returns-clause-peer : goal.returns-clause-peer
returns-clause-peer g c =
    let all : c.loop-item.yielded ≡ items_of (commands_in (bytes_of c.args.text)) (fault_in (bytes_of c.args.text)) = sym (append-nil c.loop-item.yielded) ∙ ap (λ items. c.loop-item.yielded ++ items) (sym c.in-None.ensures.steps.0) ∙ c.loop-item.invariant.items ∙ c.into_iter-item-iterator.ensures.into_iter_gives ∙ c.new-item-items.ensures.items in
    ap (λ (s : Peer × Counts). s.0) (c.loop-item.invariant.heard ∙ ap (λ items. heard_items c.args.quiet items (c.args.self.now, c.args.counts.now)) all)

pub returns-clause-counts : goal.returns-clause-counts
returns-clause-counts g c =
    let all : c.loop-item.yielded ≡ items_of (commands_in (bytes_of c.args.text)) (fault_in (bytes_of c.args.text)) = sym (append-nil c.loop-item.yielded) ∙ ap (λ items. c.loop-item.yielded ++ items) (sym c.in-None.ensures.steps.0) ∙ c.loop-item.invariant.items ∙ c.into_iter-item-iterator.ensures.into_iter_gives ∙ c.new-item-items.ensures.items in
    ap (λ (s : Peer × Counts). s.1) (c.loop-item.invariant.heard ∙ ap (λ items. heard_items c.args.quiet items (c.args.self.now, c.args.counts.now)) all)
