-- Fields in a list of bytes: what is read at a place spells the bytes that stand there.
use Rattle.std.proofs.Common.{◌≡◌, ℕ, ◌+◌, ◌-◌, ◌^◌, ◌<◌, ◌≤◌, List, ◌∷◌, ◌++◌, length, take, drop, get_or, slice_range, refl, sym, ap, ◌∙◌, arith, inl, inr}
use Rattle.std.specs.List.{All}
use Rattle.std.specs.Int.{to_be_bytes, w16, w32}
use Rattle.std.proofs.lemmas.Bool.{cases_lt}
use Rattle.std.proofs.lemmas.List.{length-take-le, length-drop, drop-drop, drop_more, take-append-drop, get_or_past, get_or-drop}
use Rattle.std.proofs.lemmas.List.Elements.{All-get_or, All-drop, All-take}
use Rattle.std.proofs.lemmas.Nat.{be_bytes_2, be_bytes_4}
use Rattle.ncp_wire.specs.Spelling.{IsByte}
use Rattle.ncp_control.specs.Reading.{byte_at, short_at, word_at}

-- at any place, since 0 is read behind the end
pub small_at : (bytes : List ℕ) → All IsByte bytes → (offset : ℕ) → get_or bytes offset 0 < 256
small_at bytes small offset = elim (cases_lt offset (length bytes)) [
  | inl h ↦ All-get_or IsByte bytes offset 0 h small
  | inr h ↦ let e : get_or bytes offset 0 ≡ 0 = get_or_past bytes offset 0 h in omega arith
]

-- the bytes of a field
module _ (bytes : List ℕ) (small : All IsByte bytes) (offset size : ℕ) where
  field : List ℕ
  field = slice_range bytes offset (offset + size)

  field_small : (k : ℕ) → get_or field k 0 < 256
  unfolding field
  field_small = small_at field (All-take IsByte (offset + size - offset) (drop offset bytes) (All-drop IsByte offset bytes small))

  length-field : offset + size ≤ length bytes → length field ≡ size
  unfolding field
  length-field h = let e : offset + size - offset ≡ size = omega arith in
      length-take-le (offset + size - offset) (drop offset bytes) (simp length-drop (omega arith)) ∙ e

  -- a field, and what is behind it
  field_front : drop offset bytes ≡ field ++ drop (offset + size) bytes
  unfolding field
  field_front =
      let e : offset + size - offset ≡ size = omega arith in
      sym (ap (λ n. take n (drop offset bytes) ++ drop (offset + size) bytes) e
      ∙ ap (λ xs. take size (drop offset bytes) ++ xs) (sym (drop-drop size offset bytes))
      ∙ take-append-drop size (drop offset bytes))

module _ (bytes : List ℕ) (small : All IsByte bytes) (offset : ℕ) where
  pub byte_front : offset < length bytes → drop offset bytes ≡ byte_at bytes offset ∷ drop (offset + 1) bytes
  byte_front h = drop_more bytes offset 0 h

  pub short_front : offset + 2 ≤ length bytes → drop offset bytes ≡ to_be_bytes w16 (short_at bytes offset) ++ drop (offset + 2) bytes
  unfolding field
  short_front h =
      field_front bytes small offset 2
      ∙ ap (λ xs. xs ++ drop (offset + 2) bytes) (sym (be_bytes_2 (field bytes small offset 2) _ (length-field bytes small offset 2 h) (field_small bytes small offset 2) refl))

  pub word_front : offset + 4 ≤ length bytes → drop offset bytes ≡ to_be_bytes w32 (word_at bytes offset) ++ drop (offset + 4) bytes
  unfolding field
  word_front h =
      field_front bytes small offset 4
      ∙ ap (λ xs. xs ++ drop (offset + 4) bytes) (sym (be_bytes_4 (field bytes small offset 4) _ (length-field bytes small offset 4 h) (field_small bytes small offset 4) refl))

  pub byte_fits : byte_at bytes offset < 2 ^ 8
  byte_fits = small_at bytes small offset

  pub short_fits : short_at bytes offset < 2 ^ 16
  unfolding field
  short_fits = let fits = field_small bytes small offset 2 in omega (arith, fits 0, fits 1)

  pub word_fits : word_at bytes offset < 2 ^ 32
  unfolding field
  word_fits = let fits = field_small bytes small offset 4 in omega (arith, fits 0, fits 1, fits 2, fits 3)

-- the byte at a place is the first of those from there on
pub byte_front_at : (bytes : List ℕ) (offset : ℕ) → byte_at (drop offset bytes) 0 ≡ byte_at bytes offset
byte_front_at bytes offset = get_or-drop offset bytes 0 0 ∙ ap (byte_at bytes) (omega arith)
