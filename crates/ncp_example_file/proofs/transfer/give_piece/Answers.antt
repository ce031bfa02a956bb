use Rattle.std.proofs.Common.{Bool, true, ◌∙◌, subst}
use Rattle.ncp_transcript.specs.declared.call.Call.TheVariants as calls
use Rattle.ncp_transcript_two.specs.declared.side.Side.TheVariants.{A}
use Rattle.ncp_example_file.specs.Calls.{IsCounted}
use Rattle.ncp_example_file.proofs.Transferring.{at_sender, given-more}
use Rattle.ncp_example_file.proofs.transfer.give_piece.Goals as goal

pub returns-clause-given : goal.returns-clause-given
returns-clause-given g c h =
    let k : IsCounted A (calls.Give 2 at_sender c.in_ok-text.text) true c.args.world.now.notes c.call.new.world.notes =
    subst (λ (b : Bool). IsCounted A (calls.Give 2 at_sender c.in_ok-text.text) b c.args.world.now.notes c.call.new.world.notes) c.if-not-branch.false c.in_ok-call.ensures.counted in
    given-more c.args.world.now.notes c.call.new.world.notes 2 c.args.given c.min-bits.result c.args.file.now c.in_ok-text.text k
    (c.in_ok-text.ensures ∙ c.to_bits.ensures ∙ c.slice.ensures.bits) h
