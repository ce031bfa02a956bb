use Rattle.std.proofs.Common.{length, ap, sym, ◌∙◌, arith}
use Rattle.std.proofs.Math.Bool.{or-false}
use Rattle.ncp_play_buffer.proofs.InBuffers.{moves_more, grows_more}
use Rattle.ncp_play_buffer.proofs.in_buffer.InBuffer.need.Goals as goal

pub returns-in_err-refill-clause-moved : goal.returns-in_err-refill-clause-moved
returns-in_err-refill-clause-moved g c =
    moves_more c.args.self.now c.loop-self.self c.refill.new.self (g.S.Source.left c.args.source.now) (g.S.Source.left c.loop-self.source) (g.S.Source.left c.refill.new.source) c.loop-self.invariant.moved c.refill.ensures.moved

pub returns-in_err-refill-clause-grows : goal.returns-in_err-refill-clause-grows
returns-in_err-refill-clause-grows g c = grows_more c.args.self.now c.loop-self.self c.refill.new.self c.loop-self.invariant.grows c.refill.ensures.grows

pub returns-in_err-refill-clause-reads : goal.returns-in_err-refill-clause-reads
returns-in_err-refill-clause-reads g c = omega (arith, c.loop-self.invariant.reads, c.refill.ensures.reads)

pub returns-in_err-refill-clause-read_measure : goal.returns-in_err-refill-clause-read_measure
returns-in_err-refill-clause-read_measure g c = omega (arith, c.loop-self.invariant.read_measure, c.refill.ensures.read_measure)

pub returns-then-not-branch-clause-moved : goal.returns-then-not-branch-clause-moved
returns-then-not-branch-clause-moved g c =
    moves_more c.args.self.now c.loop-self.self c.refill.new.self (g.S.Source.left c.args.source.now) (g.S.Source.left c.loop-self.source) (g.S.Source.left c.refill.new.source) c.loop-self.invariant.moved c.refill.ensures.moved

pub returns-then-not-branch-clause-grows : goal.returns-then-not-branch-clause-grows
returns-then-not-branch-clause-grows g c = grows_more c.args.self.now c.loop-self.self c.refill.new.self c.loop-self.invariant.grows c.refill.ensures.grows

pub returns-then-not-branch-clause-reads : goal.returns-then-not-branch-clause-reads
returns-then-not-branch-clause-reads g c = omega (arith, c.loop-self.invariant.reads, c.refill.ensures.reads)

pub returns-then-not-branch-clause-read_measure : goal.returns-then-not-branch-clause-read_measure
returns-then-not-branch-clause-read_measure g c = omega (arith, c.loop-self.invariant.read_measure, c.refill.ensures.read_measure)

pub loop-self-preserved : goal.loop-self-preserved
loop-self-preserved g c =
    record {
      moved = moves_more c.args.self.now c.loop-self.self c.refill.new.self (g.S.Source.left c.args.source.now) (g.S.Source.left c.loop-self.source) (g.S.Source.left c.refill.new.source) c.loop-self.invariant.moved c.refill.ensures.moved;
      grows = grows_more c.args.self.now c.loop-self.self c.refill.new.self c.loop-self.invariant.grows c.refill.ensures.grows;
      read_measure = omega (arith, c.loop-self.invariant.read_measure, c.refill.ensures.read_measure);
      reads = omega (arith, c.loop-self.invariant.reads, c.in_ok-refill.ensures.taken c.if-not-branch.false);
      lowers = omega (arith, c.loop-self.invariant.lowers, c.refill.ensures.lowers);
      unread = λ same. absurd (omega (arith, same, c.loop-self.invariant.lowers, c.in_ok-refill.ensures.read));
      mark = c.in_ok-refill.ensures.mark ∙ or-false _ ∙ c.loop-self.invariant.mark;
    }

pub returns-clause-there : goal.returns-clause-there
returns-clause-there g c = λ _. omega (arith, ap length c.unread.ensures.bytes)

pub returns-clause-reads : goal.returns-clause-reads
returns-clause-reads g c = omega (arith, c.loop-self.invariant.reads)

pub returns-clause-taken : goal.returns-clause-taken
returns-clause-taken g c = λ _. c.loop-self.invariant.reads

pub returns-clause-mark : goal.returns-clause-mark
returns-clause-mark g c = c.loop-self.invariant.mark ∙ sym (or-false _)

pub returns-in_err-refill-clause-lowers : goal.returns-in_err-refill-clause-lowers
returns-in_err-refill-clause-lowers g c = omega (arith, c.loop-self.invariant.lowers, c.refill.ensures.lowers)

pub returns-then-not-branch-clause-lowers : goal.returns-then-not-branch-clause-lowers
returns-then-not-branch-clause-lowers g c = omega (arith, c.loop-self.invariant.lowers, c.refill.ensures.lowers)

pub returns-then-not-branch-clause-unread : goal.returns-then-not-branch-clause-unread
returns-then-not-branch-clause-unread g c = λ same. absurd (omega (arith, same, c.loop-self.invariant.lowers, c.in_ok-refill.ensures.read))

pub returns-clause-lowers : goal.returns-clause-lowers
returns-clause-lowers g c = c.loop-self.invariant.lowers

pub returns-clause-unread : goal.returns-clause-unread
returns-clause-unread g c = c.loop-self.invariant.unread
