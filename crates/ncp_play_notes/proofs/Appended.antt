-- An out buffer to which several texts were appended in order.
use Rattle.std.proofs.Common.{◌≡◌, ℕ, List, ◌++◌, ap, ◌∙◌}
use Rattle.std.proofs.lemmas.List.{append_assoc}

pub two_appended : (p p1 p2 a b : List ℕ) → p1 ≡ p ++ a → p2 ≡ p1 ++ b → p2 ≡ p ++ (a ++ b)
two_appended p p1 p2 a b h1 h2 = h2 ∙ ap (λ (q : List ℕ). q ++ b) h1 ∙ append_assoc p a b

pub three_appended : (p p1 p2 p3 a b c : List ℕ) → p1 ≡ p ++ a → p2 ≡ p1 ++ b → p3 ≡ p2 ++ c → p3 ≡ p ++ (a ++ b ++ c)
three_appended p p1 p2 p3 a b c h1 h2 h3 = two_appended p p2 p3 (a ++ b) c (two_appended p p1 p2 a b h1 h2) h3

pub four_appended : (p p1 p2 p3 p4 a b c d : List ℕ) → p1 ≡ p ++ a → p2 ≡ p1 ++ b → p3 ≡ p2 ++ c → p4 ≡ p3 ++ d → p4 ≡ p ++ (a ++ b ++ c ++ d)
four_appended p p1 p2 p3 p4 a b c d h1 h2 h3 h4 = two_appended p p3 p4 (a ++ b ++ c) d (three_appended p p1 p2 p3 a b c h1 h2 h3) h4

pub five_appended : (p p1 p2 p3 p4 p5 a b c d e : List ℕ) → p1 ≡ p ++ a → p2 ≡ p1 ++ b → p3 ≡ p2 ++ c → p4 ≡ p3 ++ d → p5 ≡ p4 ++ e → p5 ≡ p ++ (a ++ b ++ c ++ d ++ e)
five_appended p p1 p2 p3 p4 p5 a b c d e h1 h2 h3 h4 h5 = two_appended p p4 p5 (a ++ b ++ c ++ d) e (four_appended p p1 p2 p3 p4 a b c d h1 h2 h3 h4) h5

pub six_appended : (p p1 p2 p3 p4 p5 p6 a b c d e f : List ℕ) → p1 ≡ p ++ a → p2 ≡ p1 ++ b → p3 ≡ p2 ++ c → p4 ≡ p3 ++ d → p5 ≡ p4 ++ e → p6 ≡ p5 ++ f → p6 ≡ p ++ (a ++ b ++ c ++ d ++ e ++ f)
six_appended p p1 p2 p3 p4 p5 p6 a b c d e f h1 h2 h3 h4 h5 h6 = two_appended p p5 p6 (a ++ b ++ c ++ d ++ e) f (five_appended p p1 p2 p3 p4 p5 a b c d e h1 h2 h3 h4 h5) h6

pub seven_appended : (p p1 p2 p3 p4 p5 p6 p7 a b c d e f g : List ℕ) → p1 ≡ p ++ a → p2 ≡ p1 ++ b → p3 ≡ p2 ++ c → p4 ≡ p3 ++ d → p5 ≡ p4 ++ e → p6 ≡ p5 ++ f → p7 ≡ p6 ++ g → p7 ≡ p ++ (a ++ b ++ c ++ d ++ e ++ f ++ g)
seven_appended p p1 p2 p3 p4 p5 p6 p7 a b c d e f g h1 h2 h3 h4 h5 h6 h7 = two_appended p p6 p7 (a ++ b ++ c ++ d ++ e ++ f) g (six_appended p p1 p2 p3 p4 p5 p6 a b c d e f h1 h2 h3 h4 h5 h6) h7
