use Rattle.std.proofs.Common.{◌∙◌, refl, subst, arith}
use Rattle.std.proofs.Math.Bool.{or-false}
use Rattle.std.proofs.lemmas.List.{take_rest, length-drop}
use Rattle.std.specs.Io.KnownBytes.{Appends}
use Rattle.ncp_play_stream.proofs.Streaming.{appends_none, appends_more, take_on}
use Rattle.ncp_play_program.proofs.put.put.Goals as goal

pub loop-done-init : goal.loop-done-init
loop-done-init g c = record { inside = omega arith; bytes = appends_none (g.W.Sink.written c.args.sink.now); mark = refl }

pub loop-done-preserved : goal.loop-done-preserved
loop-done-preserved g c =
    let s = g.W.Sink in
    record {
      inside = omega (arith, simp (take_rest, length-drop) at c.in_ok-done.ensures.count);
      bytes = subst (λ zs. Appends (s.written c.args.sink.now) (s.written c.write.new.self) zs)
          (take_on c.args.piece.now c.loop-done.done c.in_ok-done.field-0)
          (appends_more _ (s.written c.loop-done.sink) _ _ _ c.loop-done.invariant.bytes (simp take_rest at c.in_ok-done.ensures.bytes));
      mark = c.in_ok-done.ensures.mark ∙ or-false _ ∙ c.loop-done.invariant.mark;
    }
