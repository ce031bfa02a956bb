-- Two lists of bytes are compared from either side.
use Rattle.std.proofs.Common.{◌≡◌, ℕ, Bool, true, false, List, refl, sym}
use Rattle.std.specs.Str.{bytes_eq}
use Rattle.std.proofs.lemmas.Slice.Eq.{bytes_eq-Decides}

differs : (a b : List ℕ) (is : Bool) → bytes_eq b a ≡ is → bytes_eq a b ≡ false → is ≡ false
differs a b false e differ = refl
differs a b true e differ = let same : a ≡ b = sym ((bytes_eq-Decides b a).0 e) in let is : bytes_eq a b ≡ true = (bytes_eq-Decides a b).1 same in absurd (cc)

-- two lists of bytes that differ, the other way round
pub counterpart : (a b : List ℕ) → bytes_eq a b ≡ false → bytes_eq b a ≡ false
counterpart a b differ = differs a b (bytes_eq b a) refl differ
