-- Words that are appended one after the other.
use Rattle.std.proofs.Common.{◌≡◌, ℕ, List, ◌++◌, ap, sym, ◌∙◌}
use Rattle.std.proofs.lemmas.List.{append_assoc}

pub three_words : (page p q last a b c : List ℕ) → p ≡ page ++ a → q ≡ p ++ b → last ≡ q ++ c → last ≡ page ++ (a ++ (b ++ c))
three_words page p q last a b c e f g =
    g ∙ ap (λ (xs : List ℕ). xs ++ c) (f ∙ ap (λ (xs : List ℕ). xs ++ b) e) ∙ append_assoc (page ++ a) b c ∙ append_assoc page a (b ++ c)

pub two_pairs : (page p last a b c d : List ℕ) → p ≡ page ++ (a ++ b) → last ≡ p ++ (c ++ d) → last ≡ page ++ (((a ++ b) ++ c) ++ d)
two_pairs page p last a b c d e f =
    f ∙ ap (λ (xs : List ℕ). xs ++ (c ++ d)) e ∙ append_assoc page (a ++ b) (c ++ d) ∙ ap (λ (xs : List ℕ). page ++ xs) (sym (append_assoc (a ++ b) c d))

pub two_words : (page p last a b : List ℕ) → p ≡ page ++ a → last ≡ p ++ b → last ≡ page ++ (a ++ b)
two_words page p last a b e f = f ∙ ap (λ (xs : List ℕ). xs ++ b) e ∙ append_assoc page a b

pub word_and_pair : (page p last a c d : List ℕ) → p ≡ page ++ a → last ≡ p ++ (c ++ d) → last ≡ page ++ ((a ++ c) ++ d)
word_and_pair page p last a c d e f = two_words page p last a (c ++ d) e f ∙ ap (λ (xs : List ℕ). page ++ xs) (sym (append_assoc a c d))

pub word_by_word : (page p q last a b c : List ℕ) → p ≡ page ++ a → q ≡ p ++ b → last ≡ q ++ c → last ≡ page ++ ((a ++ b) ++ c)
word_by_word page p q last a b c e f g = two_words page q last (a ++ b) c (two_words page p q a b e f) g
