use Rattle.std.proofs.Common.{refl}
use Rattle.ncp_transcript_two.specs.declared.side.Side.TheVariants.{A}
use Rattle.ncp_example_file.proofs.Transferring.{at_sender, still-said}
use Rattle.ncp_example_file.proofs.transfer.send_file.Goals as goal

pub returns : goal.returns
returns g c = record {
  whole = λ h.
      c.what_both_say_is_so.ensures A at_sender c.args.file.now refl
      (still-said c.args.file.now c.send_pieces.new.world.notes c.close.new.world.notes (c.in_ok-whole.ensures h) c.in_ok-close.ensures);
}
