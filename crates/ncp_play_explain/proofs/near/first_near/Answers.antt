-- The first that is near.
use Rattle.std.proofs.Common.{◌≡◌, [], true, false}
use Rattle.ncp_play_explain.specs.Near.{IsNear}
use Rattle.ncp_play_explain.proofs.Places.{at_place, none_more, none_at_all}
use Rattle.ncp_play_explain.proofs.near.first_near.Goals as goal

pub returns-then-is_near-clause-found : goal.returns-then-is_near-clause-found
returns-then-is_near-clause-found c = record {
  place = c.loop-candidate.candidate-index;
  there = at_place (λ one. one.now) c.args.known.now c.loop-candidate.candidate-index record { ref_ptr = (0, 0); now = [] } c.loop-candidate-test.true;
  near = rw (c.as_bytes.ensures.value, c.as_bytes-in-loop-candidate.ensures.value) at c.is_near.ensures.near c.if-is_near.true;
  first = c.loop-candidate.invariant;
}

pub loop-candidate-preserved : goal.loop-candidate-preserved
loop-candidate-preserved c =
    none_more (λ other. IsNear c.args.most c.args.word.now other → ⊥) (λ one. one.now) c.args.known.now c.loop-candidate.candidate-index record { ref_ptr = (0, 0); now = [] } c.loop-candidate-test.true c.loop-candidate.invariant
    (λ n. let e : c.is_near.result ≡ true = c.is_near.ensures.far (rw (c.as_bytes.ensures.value, c.as_bytes-in-loop-candidate.ensures.value) n) in
    let f : c.is_near.result ≡ false = c.if-is_near.false in absurd cc)

pub returns-clause-none : goal.returns-clause-none
returns-clause-none c = none_at_all (λ other. IsNear c.args.most c.args.word.now other → ⊥) (λ one. one.now) c.args.known.now c.loop-candidate.candidate-index c.loop-candidate-test.false c.loop-candidate.invariant
