use Rattle.std.proofs.Common.{◌++◌, ◌∷◌, ◌∙◌, [], refl, sym, ap, subst, arith}
use Rattle.std.specs.List.{flat_map}
use Rattle.std.proofs.Math.Bool.{or-false}
use Rattle.std.proofs.lemmas.List.{append_assoc, append-nil}
use Rattle.ncp_play_files.specs.Lines.{item_line, control_lines}
use Rattle.ncp_numbers.specs.Bytes.{bytes_of}
use Rattle.ncp_play_stream.specs.Streams.{WritesText, WritesPrefixOf}
use Rattle.ncp_play_stream.proofs.Saying.{answers_broken, writes_prefix_longer, writes_prefix_after, writes_more}
use Rattle.ncp_play_stream.proofs.Saying.{writes_none, writes_item, writes_items, writes_items_broken}
use Rattle.ncp_play_files.proofs.detail.render_commands.Goals as goal

pub returns-in_err-make_room-clause-output : goal.returns-in_err-make_room-clause-output
returns-in_err-make_room-clause-output g c =
    let w = g.W.Sink in
    let was = w.written c.args.out.now.sink.now in let now = w.written c.make_room.new.self.sink.now in
    let lines = control_lines (bytes_of c.args.text) in
    answers_broken c.args.out.now.page.now lines was now c.make_room.new.self.page.now c.from_residual.result c.from_residual.ensures.0
    (writes_prefix_longer c.args.out.now.page.now [] lines was now c.in_err-make_room.ensures.err)

pub loop-item-init : goal.loop-item-init
loop-item-init g c = record {
  can = tt;
  ends = tt;
  items = refl;
  room = c.in_ok-make_room.ensures.room;
  said = writes_none item_line c.make_room.new.self.page.now (g.W.Sink.written c.make_room.new.self.sink.now);
  writes = omega arith;
  mark = refl;
  same_outlet = (refl, refl);
}

pub returns-in_err-make_room-2-clause-output : goal.returns-in_err-make_room-2-clause-output
returns-in_err-make_room-2-clause-output g c =
    let w = g.W.Sink in
    let start = c.make_room.new.self in let mid = c.loop-item.out in let room = c.make_room-in-loop-item.new.self in
    let was = w.written c.args.out.now.sink.now in
    let all = c.into_iter-item-iterator.ensures.into_iter_gives ∙ c.new-item-items.ensures.items in
    let items = append_assoc c.loop-item.yielded (c.in-Some.item ∷ []) c.next.new.self ∙ ap (λ items. c.loop-item.yielded ++ items) (sym c.in-Some.ensures.steps) ∙ c.loop-item.invariant.items in
    let said =
    writes_item item_line start.page.now mid.page.now mid.page.now c.push_item.new.page (w.written start.sink.now) (w.written mid.sink.now) (w.written mid.sink.now) c.loop-item.yielded c.in-Some.item c.loop-item.invariant.said
    (writes_none item_line mid.page.now (w.written mid.sink.now)) c.push_item.ensures in
    let lines = flat_map item_line c.into_iter-item-iterator.result in
    let broken : WritesPrefixOf c.args.out.now.page.now was lines (w.written room.sink.now) =
    writes_prefix_after c.args.out.now.page.now [] start.page.now lines was (w.written start.sink.now) (w.written room.sink.now) c.in_ok-make_room.ensures.ok
    (writes_items_broken item_line start.page.now c.push_item.new.page (w.written start.sink.now) (w.written mid.sink.now) (w.written room.sink.now) (c.loop-item.yielded ++ c.in-Some.item ∷ []) c.next.new.self c.into_iter-item-iterator.result
    said c.in_err-make_room-2.ensures.err items) in
    answers_broken c.args.out.now.page.now (control_lines (bytes_of c.args.text)) was (w.written room.sink.now) room.page.now c.from_residual-in_err-make_room-2.result c.from_residual-in_err-make_room-2.ensures.0
    (subst (λ items. WritesPrefixOf c.args.out.now.page.now was (flat_map item_line items) (w.written room.sink.now)) all broken)

pub loop-item-preserved : goal.loop-item-preserved
loop-item-preserved g c =
    let w = g.W.Sink in
    let start = c.make_room.new.self in let mid = c.loop-item.out in let room = c.make_room-in-loop-item.new.self in
    let text = flat_map item_line (c.loop-item.yielded ++ c.in-Some.item ∷ []) in
    let said =
    writes_item item_line start.page.now mid.page.now mid.page.now c.push_item.new.page (w.written start.sink.now) (w.written mid.sink.now) (w.written mid.sink.now) c.loop-item.yielded c.in-Some.item c.loop-item.invariant.said
    (writes_none item_line mid.page.now (w.written mid.sink.now)) c.push_item.ensures in
    record {
      can = tt;
      ends = tt;
      items = append_assoc c.loop-item.yielded (c.in-Some.item ∷ []) c.next.new.self ∙ ap (λ items. c.loop-item.yielded ++ items) (sym c.in-Some.ensures.steps) ∙ c.loop-item.invariant.items;
      room = c.in_ok-make_room-2.ensures.room;
      said = subst (λ text. WritesText start.page.now (w.written start.sink.now) text room.page.now (w.written room.sink.now)) (append-nil text)
          (writes_more start.page.now text c.push_item.new.page [] room.page.now (w.written start.sink.now) (w.written mid.sink.now) (w.written room.sink.now) said c.in_ok-make_room-2.ensures.ok);
      writes = let one = c.in_ok-make_room-2.ensures.writes in omega (arith, one, c.loop-item.invariant.writes);
      mark = c.in_ok-make_room-2.ensures.mark ∙ or-false _ ∙ c.loop-item.invariant.mark;
      same_outlet = (c.in_ok-make_room-2.ensures.same_outlet.0 ∙ c.loop-item.invariant.same_outlet.0, c.in_ok-make_room-2.ensures.same_outlet.1 ∙ c.loop-item.invariant.same_outlet.1);
    }

pub returns-clause-output : goal.returns-clause-output
returns-clause-output g c =
    let w = g.W.Sink in
    let start = c.make_room.new.self in let last = c.loop-item.out in
    let was = w.written c.args.out.now.sink.now in
    let all = c.into_iter-item-iterator.ensures.into_iter_gives ∙ c.new-item-items.ensures.items in
    let lines = flat_map item_line c.into_iter-item-iterator.result in
    let said : WritesText c.args.out.now.page.now was lines last.page.now (w.written last.sink.now) =
    writes_more c.args.out.now.page.now [] start.page.now lines last.page.now was (w.written start.sink.now) (w.written last.sink.now) c.in_ok-make_room.ensures.ok
    (writes_items item_line start.page.now last.page.now (w.written start.sink.now) (w.written last.sink.now) c.loop-item.yielded c.loop-item.item-iterator c.into_iter-item-iterator.result c.loop-item.invariant.said c.loop-item.invariant.items c.in-None.ensures.steps.0) in
    subst (λ items. WritesText c.args.out.now.page.now was (flat_map item_line items) last.page.now (w.written last.sink.now)) all said
