-- Texts in pieces, with the pieces put together from behind.
use Rattle.std.proofs.Common.{◌≡◌, ℕ, List, ◌++◌, ◌∙◌, codes, append_assoc}
use Rattle.ncp_play_explain.specs.Printing.{no_verb}

pub four : (a b c d : List ℕ) → a ++ b ++ c ++ d ≡ a ++ (b ++ (c ++ d))
four a b c d = append_assoc (a ++ b) c d ∙ append_assoc a b (c ++ d)

pub six : (a b c d e f : List ℕ) → a ++ b ++ c ++ d ++ e ++ f ≡ a ++ (b ++ (c ++ (d ++ (e ++ f))))
six a b c d e f = append_assoc (a ++ b ++ c ++ d) e f ∙ append_assoc (a ++ b ++ c) d (e ++ f) ∙ append_assoc (a ++ b) c (d ++ (e ++ f)) ∙ append_assoc a b (c ++ (d ++ (e ++ f)))

pub verb_near : (word near : List ℕ) → no_verb word ++ codes "; did you mean '" ++ near ++ codes "'?" ≡ codes "'" ++ (word ++ (codes "' is no verb; did you mean '" ++ (near ++ codes "'?")))
verb_near word near = six (codes "'") word (codes "' is no verb") (codes "; did you mean '") near (codes "'?")

pub verb_far : (word : List ℕ) → no_verb word ≡ codes "'" ++ (word ++ codes "' is no verb")
verb_far word = append_assoc (codes "'") word (codes "' is no verb")
