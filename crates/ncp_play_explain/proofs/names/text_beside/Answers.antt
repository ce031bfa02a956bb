-- The name at the place that the loop has come to.
use Rattle.std.proofs.Common.{◌≡◌, ℕ, List, [], get_or, ap}
use Rattle.std.specs.Cmp.Lexicographic.{same_text}
use Rattle.ncp_play_explain.proofs.Apart.{unequal}
use Rattle.ncp_play_explain.proofs.Places.{contains_at, none_more, none_at_all}
use Rattle.ncp_play_explain.proofs.names.text_beside.Goals as goal

pub returns-then-eq-clause-known : goal.returns-then-eq-clause-known
returns-then-eq-clause-known c =
    let here = get_or c.args.names.now c.loop-known.known-index (record { ref_ptr = (0, 0); now = [] }, record { ref_ptr = (0, 0); now = [] }) in
    let same : here.0.now ≡ c.args.name.now = same_text here.0.now c.args.name.now c.if-eq.ensures in
    contains_at (λ entry. (entry.0.now, entry.1.now)) c.args.names.now c.loop-known.known-index (record { ref_ptr = (0, 0); now = [] }, record { ref_ptr = (0, 0); now = [] })
    (c.args.name.now, here.1.now) c.loop-known-test.true (ap (λ (word : List ℕ). (word, here.1.now)) same)

pub loop-known-preserved : goal.loop-known-preserved
loop-known-preserved c =
    none_more (λ (entry : List ℕ × List ℕ). entry.0 ≡ c.args.name.now → ⊥) (λ entry. (entry.0.now, entry.1.now)) c.args.names.now c.loop-known.known-index
    (record { ref_ptr = (0, 0); now = [] }, record { ref_ptr = (0, 0); now = [] }) c.loop-known-test.true c.loop-known.invariant (unequal _ _ c.if-eq.ensures)

pub returns-clause-unknown : goal.returns-clause-unknown
returns-clause-unknown c = none_at_all (λ (entry : List ℕ × List ℕ). entry.0 ≡ c.args.name.now → ⊥) (λ entry. (entry.0.now, entry.1.now)) c.args.names.now c.loop-known.known-index c.loop-known-test.false c.loop-known.invariant
