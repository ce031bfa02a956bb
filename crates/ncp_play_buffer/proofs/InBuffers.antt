-- Bytes that are read into an in buffer and consumed.
use Rattle.std.proofs.Common.{◌≡◌, ℕ, ◌+◌, ◌-◌, ◌<◌, ◌≤◌, Bool, List, ◌++◌, length, take, drop, slice_range, Option, Some, None, sym, ap, ◌∙◌, arith, refl}
use Rattle.std.proofs.lemmas.List.{length-append, length-take, length-take-le, take_at, drop-drop, drop-take, append_assoc}
use Rattle.std.specs.Io.KnownBytes.{Consumes, Keeps}
use Rattle.ncp_play_stream.proofs.Streaming.{front_more}
use Rattle.ncp_play_stream.specs.Streams.{Moves}
use Rattle.ncp_play_stream.specs.Pieces.{reads_for, reads_beyond}
use Rattle.ncp_play_buffer.specs.InBuffers.{read_measure}

pub skipped : (bytes window : List ℕ) (from to count : ℕ) → slice_range bytes from to ≡ window → from ≤ to → count ≤ length window → slice_range bytes (from + count) to ≡ drop count window
skipped bytes window from to count e h k =
    let l : length window ≡ length (slice_range bytes from to) = ap length (sym e) in
    let inside : count ≤ to - from = omega (arith, simp length-take at l) in
    let split : to - from ≡ count + (to - (from + count)) = omega arith in
    ap (take (to - (from + count))) (ap (λ n. drop n bytes) (omega arith) ∙ sym (drop-drop count from bytes))
    ∙ sym (drop-take count (to - (from + count)) (drop from bytes))
    ∙ ap (λ n. drop count (take n (drop from bytes))) (sym split)
    ∙ ap (drop count) e

-- an in buffer after a read that appends to it
pub refilled : (moved piece post : List ℕ) (n count : ℕ) → n ≤ length moved → count ≤ length piece → slice_range (take n moved ++ (piece ++ post)) 0 (n + count) ≡ take n moved ++ take count piece
refilled moved piece post n count h k = ap (λ m. take m (take n moved ++ (piece ++ post))) (omega arith) ∙ front_more moved piece post n count h k

-- bytes that were appended to an in buffer
pub moves_read : (window piece : List ℕ) (a b : Option (List ℕ)) → Consumes a b piece → Moves window a (window ++ piece) b
moves_read window piece None b h = λ bytes k. let e : ⊥ = cc in absurd e
moves_read window piece (Some xs) None h = absurd h
moves_read window piece (Some xs) (Some ys) h = λ bytes k.
    let e : xs ≡ k.0 = cc in
    (ys, refl, append_assoc window piece ys ∙ ap (λ zs. window ++ zs) (sym h ∙ e) ∙ k.2)

pub moves_none : (window : List ℕ) (a b : Option (List ℕ)) → Keeps a b → Moves window a window b
moves_none window None b h = λ bytes k. let e : ⊥ = cc in absurd e
moves_none window (Some xs) None h = absurd h
moves_none window (Some xs) (Some ys) h = λ bytes k. let e : xs ≡ k.0 = cc in (ys, refl, ap (λ zs. window ++ zs) (h ∙ e) ∙ k.2)

pub moves_more : (v w u : List ℕ) (a b c : Option (List ℕ)) → Moves v a w b → Moves w b u c → Moves v a u c
moves_more v w u a b c h k = λ bytes m. k bytes (h bytes m)

-- an in buffer after a failed read: its bytes are at the front, and the remaining work has not grown
pub refused : (moved rest : List ℕ) (n : ℕ) → n ≤ length moved → slice_range (take n moved ++ rest) 0 n ≡ take n moved
refused moved rest n h = take_at (take n moved) rest (n - 0) (length-take-le n moved h ∙ omega arith)

pub beyond_kept : (full : Bool) (was now : ℕ) (a b : Option (List ℕ)) → Keeps a b → now ≡ was - 1 → reads_beyond full was a ≤ reads_beyond full now b + 1
beyond_kept full was now None b h e = omega arith
beyond_kept full was now (Some xs) None h e = absurd h
beyond_kept full was now (Some xs) (Some ys) h e = let same : reads_for full (length ys) ≡ reads_for full (length xs) = ap (λ zs. reads_for full (length zs)) h in omega arith

pub effort_kept : (was now : ℕ) (before window : List ℕ) → now ≡ was - 1 → window ≡ before → read_measure now window ≤ read_measure was before
effort_kept was now before window e same = let l : length window ≡ length before = ap length same in omega arith

-- an in buffer is longer after bytes were read into it
pub grown : (window piece more : List ℕ) (count : ℕ) → more ≡ window ++ take count piece → count ≤ length piece → 0 < count → length window < length more
grown window piece more count e h some =
    let l : length more ≡ length window + count = ap length e ∙ length-append window (take count piece) ∙ ap (λ n. length window + n) (length-take-le count piece h) in
    omega arith

pub grows_more : (v w u : List ℕ) → ((piece : List ℕ) × (w ≡ v ++ piece)) → ((piece : List ℕ) × (u ≡ w ++ piece)) → (piece : List ℕ) × (u ≡ v ++ piece)
grows_more v w u h k = (h.0 ++ k.0, k.1 ∙ ap (λ xs. xs ++ k.0) h.1 ∙ append_assoc v h.0 k.0)
