use Rattle.std.proofs.Common.{◌≡◌, ℕ, List, [], IsTrue, subst}
use Rattle.ncp_play_script.proofs.Cuts.{all_read}
use Rattle.ncp_play_script.proofs.line_words.Words.is_empty.Goals as goal

pub returns : goal.returns
returns c =
    let Says : List (List ℕ) → Type 0 = λ words. (IsTrue c.is_none.result → words ≡ []) × (words ≡ [] → IsTrue c.is_none.result) in
    subst Says c.self.view_is (all_read (λ rest. rest.now) c.self.inside.rest c.is_none.result c.is_none.ensures)
