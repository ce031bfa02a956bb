-- Pieces of bytes, one behind the other.
use Rattle.std.proofs.Common.{◌≡◌, ◌++◌, [], List, ℕ, refl}
use Rattle.std.proofs.lemmas.List.{append_assoc}
use Rattle.ncp_numbers.specs.Bytes.{bytes_of}

pub end_joined : (o m w b r i f g s first second third last : List ℕ) → first ≡ o ++ m → second ≡ first ++ w → third ≡ second ++ b ++ r ++ i → last ≡ third ++ f → f ≡ g → last ++ s ≡ o ++ (m ++ w ++ b ++ r ++ i ++ (g ++ s))
end_joined o m w b r i f g s first second third last e1 e2 e3 e4 e5 = rw (e4, e3, e2, e1, e5) (simp append_assoc)

pub counts_joined : (o a b c d e f g first second last : List ℕ) → first ≡ o ++ a ++ b ++ c → second ≡ first ++ d ++ e ++ f → last ≡ second ++ g → last ≡ o ++ (a ++ b ++ c ++ d ++ e ++ f ++ g)
counts_joined o a b c d e f g first second last e1 e2 e3 = rw (e3, e2, e1) (simp append_assoc)

pub no_bytes : bytes_of [] ≡ []
unfolding bytes_of
no_bytes = refl
