use Rattle.std.proofs.Common.{below_more, sym, ap, ◌∙◌, arith}
use Rattle.std.proofs.lemmas.List.{get_or-set_same, get_or-set_other}
use Rattle.ncp_numbers.specs.Numbers.{number_of}
use Rattle.ncp_bits.proofs.Runs.{run_across}
use Rattle.ncp_bits.proofs.writing.fill_shifted.Goals as goal

pub loop-place-preserved : goal.loop-place-preserved
loop-place-preserved c =
    below_more _ c.loop-place.place
    (λ k h. get_or-set_other c.loop-place.out c.loop-place.place k c.byte_across.result 0 (λ e. omega arith) ∙ c.loop-place.invariant k h)
    (get_or-set_same c.loop-place.out c.loop-place.place c.byte_across.result 0 (omega arith) ∙ c.byte_across.ensures
    ∙ ap number_of (sym (run_across c.args.bytes.now c.loop-place.place c.args.skip (omega arith) (omega arith))))
