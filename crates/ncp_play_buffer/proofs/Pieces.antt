-- The number of writes that a piece takes.
use Rattle.std.proofs.Common.{◌≡◌, ℕ, ◌+◌, ◌-◌, ◌<◌, ◌≤◌, ◌⊎◌, inl, inr, min, Bool, true, false, List, [], ◌∷◌, length, Option, Some, None, refl, ap, ◌∙◌, arith}
use Rattle.std.proofs.lemmas.List.{length-append}
use Rattle.std.specs.Io.KnownBytes.{Appends}
use Rattle.ncp_play_stream.specs.Pieces.{bytes_and_writes, lost_pieces, unpaid}

-- a piece was not written yet, or by one write: whole, or as much of it as there was room for
abbrev pub WrittenOnce : (was now room len done : ℕ) → Type 0
WrittenOnce was now room len done = ((done ≡ 0) × (now ≡ was)) ⊎ ((was ≤ now + 1) × (0 < done) × (done < len → room ≡ 0))

-- if there is no room after a first write, no other follows
pub written_once : (was mid now room after len done count : ℕ) → WrittenOnce was mid room len done → done < len → mid ≤ now + 1 → (0 < len - done → 0 < count) → count ≡ min (len - done) room → after + count ≡ room
    → WrittenOnce was now after len (done + count)
written_once was mid now room after len done count (inl h) inside counted some all left = inr (omega (arith, h.0, h.1, some (omega arith)), omega (arith, some (omega arith)), λ less. omega (arith, h.0))
written_once was mid now room after len done count (inr h) inside counted some all left = let full = h.2 inside in let one = some (omega arith) in absurd (omega arith)

-- a piece that is written at once, and one whose write may fail
pub written_whole : (full : Bool) (was now : ℕ) (a b : Option (List ℕ)) (piece : List ℕ) → Appends a b piece → (full ≡ true → was ≤ now + 1) → 4096 ≤ length piece → bytes_and_writes full was a ≤ bytes_and_writes full now b + lost_pieces false
written_whole false was now a b piece h one long = omega arith
written_whole true was now None b piece h one long = omega arith
written_whole true was now (Some xs) None piece h one long = absurd h
written_whole true was now (Some xs) (Some ys) piece h one long = let l : length ys ≡ length xs + length piece = ap length h ∙ length-append xs piece in omega (arith, one refl)

pub written_twice : (full : Bool) (was now : ℕ) (a b : Option (List ℕ)) (piece : List ℕ) → Appends a b piece → (full ≡ true → was ≤ now + 2) → bytes_and_writes full was a ≤ bytes_and_writes full now b + lost_pieces true
written_twice false was now a b piece h two = omega arith
written_twice true was now None b piece h two = omega arith
written_twice true was now (Some xs) None piece h two = absurd h
written_twice true was now (Some xs) (Some ys) piece h two = let l : length ys ≡ length xs + length piece = ap length h ∙ length-append xs piece in omega (arith, two refl)

-- a buffer that is written at once: by no write if it is empty
pub written_one : (full : Bool) (was now : ℕ) (a b : Option (List ℕ)) (piece : List ℕ) → Appends a b piece → (full ≡ true → was ≤ now + min 1 (length piece)) → bytes_and_writes full was a + unpaid false piece ≤ bytes_and_writes full now b + 4096
written_one false was now a b [] h one = omega arith
written_one false was now a b (x ∷ piece) h one = omega arith
written_one true was now None b [] h one = omega arith
written_one true was now None b (x ∷ piece) h one = omega arith
written_one true was now (Some xs) None piece h one = absurd h
written_one true was now (Some xs) (Some ys) [] h one = let l : length ys ≡ length xs + 0 = ap length h ∙ length-append xs [] in omega (arith, one refl)
written_one true was now (Some xs) (Some ys) (x ∷ piece) h one = let l : length ys ≡ length xs + length (x ∷ piece) = ap length h ∙ length-append xs (x ∷ piece) in omega (arith, one refl)

-- a buffer with bytes leaves nothing unpaid
pub none_unpaid : (page : List ℕ) → 0 < length page → unpaid false page ≡ 0
none_unpaid [] h = absurd (omega arith)
none_unpaid (x ∷ page) h = refl
