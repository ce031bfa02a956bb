-- A byte more is on the page.
use Rattle.std.proofs.Common.{◌≡◌, ◌+◌, ◌∙◌, ◌++◌, ℕ, List, [], ◌∷◌, take, get_or, sym, ap, arith}
use Rattle.std.specs.List.{flat_map}
use Rattle.std.proofs.lemmas.List.{append-nil, take_all, take_more, flat_map_more}
use Rattle.ncp_play_explain.specs.Spelling.{spelled}
use Rattle.ncp_play_follow.proofs.letters.push_spelled.Goals as goal

pub loop-byte-init : goal.loop-byte-init
loop-byte-init c = record { bytes = sym (append-nil c.args.page.now); len = omega arith }

pub loop-byte-preserved : goal.loop-byte-preserved
loop-byte-preserved c =
    let bytes = c.args.bytes.now in let i = c.loop-byte.byte-index in let item = get_or bytes i 0 in
    let more : take (i + 1) bytes ≡ take i bytes ++ item ∷ [] = take_more bytes i 0 c.loop-byte-test.true in
    let said : c.as_bytes.result.now ≡ spelled item = c.as_bytes.ensures.value ∙ c.in_signs.ensures in
    record {
      bytes = c.push_text.ensures.bytes ∙ ap (λ (zs : List ℕ). c.loop-byte.page ++ zs) said ∙ ap (λ (zs : List ℕ). zs ++ spelled item) c.loop-byte.invariant.bytes
          ∙ flat_map_more spelled c.args.page.now (take i bytes) item ∙ ap (λ (done : List ℕ). c.args.page.now ++ flat_map spelled done) (sym more);
      len = omega (arith, c.push_text.ensures.len, c.as_bytes.ensures.len, c.loop-byte.invariant.len);
    }

pub returns-clause-bytes : goal.returns-clause-bytes
returns-clause-bytes c =
    c.loop-byte.invariant.bytes ∙ ap (λ (done : List ℕ). c.args.page.now ++ flat_map spelled done) (take_all c.loop-byte.byte-index c.args.bytes.now c.loop-byte-test.false)
