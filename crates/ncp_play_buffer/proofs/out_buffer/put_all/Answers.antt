use Rattle.std.proofs.Common.{◌∙◌, length, inl, refl, subst, arith}
use Rattle.std.proofs.Math.Bool.{or-false}
use Rattle.std.proofs.lemmas.List.{take_rest, length-drop}
use Rattle.std.specs.Io.KnownBytes.{Appends}
use Rattle.ncp_play_buffer.proofs.Pieces.{written_once}
use Rattle.ncp_play_stream.proofs.Streaming.{appends_none, appends_more, take_on}
use Rattle.ncp_play_buffer.proofs.out_buffer.put_all.Goals as goal

pub loop-done-init : goal.loop-done-init
loop-done-init g c =
    record { inside = omega arith; bytes = appends_none (g.W.Sink.written c.args.sink.now); writes = λ all. inl (refl, refl); mark = refl }

pub loop-done-preserved : goal.loop-done-preserved
loop-done-preserved g c =
    let s = g.W.Sink in
    record {
      inside = omega (arith, simp (take_rest, length-drop) at c.in_ok-done.ensures.count);
      bytes = subst (λ zs. Appends (s.written c.args.sink.now) (s.written c.write.new.self) zs)
          (take_on c.args.piece.now c.loop-done.done c.in_ok-done.field-0)
          (appends_more _ (s.written c.loop-done.sink) _ _ _ c.loop-done.invariant.bytes (simp take_rest at c.in_ok-done.ensures.bytes));
      writes = λ all.
          written_once (s.writes c.args.sink.now) (s.writes c.loop-done.sink) (s.writes c.write.new.self) (s.room c.loop-done.sink) (s.room c.write.new.self) (length c.args.piece.now) c.loop-done.done c.in_ok-done.field-0
          (c.loop-done.invariant.writes all) c.loop-done-test.true c.write.ensures.counted (simp (take_rest, length-drop) at c.in_ok-done.ensures.some)
          (simp (take_rest, length-drop) at (c.in_ok-done.ensures.all all)) (c.in_ok-done.ensures.room all);
      mark = c.in_ok-done.ensures.mark ∙ or-false _ ∙ c.loop-done.invariant.mark;
    }
