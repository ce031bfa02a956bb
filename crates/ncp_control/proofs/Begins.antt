-- What is read at the front of bytes is a command whose spelling begins them.
use Rattle.std.proofs.Common.{◌≡◌, ℕ, suc, ◌+◌, ◌^◌, ◌<◌, ◌≤◌, List, ◌∷◌, ◌++◌, length, take, drop, slice_range, Some, refl, sym, ap, ◌∙◌, arith}
use Rattle.std.specs.List.{All}
use Rattle.std.specs.Option.{IfSome}
use Rattle.std.specs.Int.{to_be_bytes, w16, w32}
use Rattle.std.proofs.lemmas.List.{length-take-le, length-drop, drop-drop, take-append-drop}
use Rattle.std.proofs.lemmas.List.Elements.{All-drop, All-take}
use Rattle.std.proofs.lemmas.Option.{MatchOption-at_some, slice_get_within}
use borrow.Author.Count.{below_none, below_more}
use Rattle.ncp_wire.specs.Spelling.{spelling, IsByte, IsCommand}
use Rattle.ncp_control.specs.Reading.{sizes, size_of, byte_at, short_at, word_at, command_with}
use Rattle.ncp_control.proofs.Fields.{byte_front, short_front, word_front, byte_fits, short_fits, word_fits}
use Rattle.ncp_wire.specs.declared.command.Command.{Command}

-- a command of so many bytes begins these bytes
abbrev pub Begins : Command → ℕ → List ℕ → Type 0
Begins command size bytes = record {
  fits : IsCommand command;
  takes : length (spelling command) ≡ size;
  front : bytes ≡ spelling command ++ drop size bytes;
}

-- each opcode by itself
each_opcode : (P : ℕ → Type 0) → P 0 → P 1 → P 2 → P 3 → P 4 → P 5 → P 6 → P 7 → P 8 → P 9 → P 10 → P 11 → P 12 → P 13 → (opcode : ℕ) → opcode < 14 → P opcode
each_opcode P a b c d e f g h i j k l m n =
    below_more P 13 (below_more P 12 (below_more P 11 (below_more P 10 (below_more P 9 (below_more P 8 (below_more P 7 (
    below_more P 6 (below_more P 5 (below_more P 4 (below_more P 3 (below_more P 2 (below_more P 1 (below_more P 0 (below_none P)
    a) b) c) d) e) f) g) h) i) j) k) l) m) n

module _ (bytes : List ℕ) (small : All IsByte bytes) where
  -- the opcode, and the fields behind it
  opened : (opcode : ℕ) (fields : List ℕ) → byte_at bytes 0 ≡ opcode → 1 ≤ length bytes → drop 1 bytes ≡ fields → bytes ≡ opcode ∷ fields
  opened opcode fields is h e = byte_front bytes small 0 h ∙ ap (λ n. n ∷ drop 1 bytes) is ∙ ap (λ xs. opcode ∷ xs) e

  then_byte : (offset : ℕ) (rest : List ℕ) → offset < length bytes → drop (offset + 1) bytes ≡ rest → drop offset bytes ≡ byte_at bytes offset ∷ rest
  then_byte offset rest h e = byte_front bytes small offset h ∙ ap (λ xs. byte_at bytes offset ∷ xs) e

  then_short : (offset : ℕ) (rest : List ℕ) → offset + 2 ≤ length bytes → drop (offset + 2) bytes ≡ rest → drop offset bytes ≡ to_be_bytes w16 (short_at bytes offset) ++ rest
  then_short offset rest h e = short_front bytes small offset h ∙ ap (λ xs. to_be_bytes w16 (short_at bytes offset) ++ xs) e

  then_word : (offset : ℕ) (rest : List ℕ) → offset + 4 ≤ length bytes → drop (offset + 4) bytes ≡ rest → drop offset bytes ≡ to_be_bytes w32 (word_at bytes offset) ++ rest
  then_word offset rest h e = word_front bytes small offset h ∙ ap (λ xs. to_be_bytes w32 (word_at bytes offset) ++ xs) e

  -- the ten bytes of an ERR
  then_ten : 12 ≤ length bytes → drop 2 bytes ≡ slice_range bytes 2 12 ++ drop 12 bytes
  then_ten h = sym (ap (λ xs. take 10 (drop 2 bytes) ++ xs) (sym (drop-drop 10 2 bytes)) ∙ take-append-drop 10 (drop 2 bytes))

  fits : (offset : ℕ) → byte_at bytes offset < 2 ^ 8
  fits = byte_fits bytes small

  word : (offset : ℕ) → word_at bytes offset < 2 ^ 32
  word = word_fits bytes small

  IsRead : ℕ → Type 0
  IsRead opcode = byte_at bytes 0 ≡ opcode → IfSome (size_of opcode) (λ size. size ≤ length bytes → Begins (command_with opcode bytes) size bytes)

  read_each : (opcode : ℕ) → opcode < 14 → IsRead opcode
  unfolding IsRead command_with
  read_each = each_opcode IsRead
      (λ is h. record { fits = tt; takes = refl; front = opened 0 _ is (omega arith) refl })
      (λ is h. record {
        fits = (word 1, word 5, fits 9);
        takes = refl;
        front = opened 1 _ is (omega arith) (then_word 1 _ (omega arith) (then_word 5 _ (omega arith) (then_byte 9 _ (omega arith) refl)));
      })
      (λ is h. record {
        fits = (word 1, word 5, fits 9);
        takes = refl;
        front = opened 2 _ is (omega arith) (then_word 1 _ (omega arith) (then_word 5 _ (omega arith) (then_byte 9 _ (omega arith) refl)));
      })
      (λ is h. record {
        fits = (word 1, word 5);
        takes = refl;
        front = opened 3 _ is (omega arith) (then_word 1 _ (omega arith) (then_word 5 _ (omega arith) refl));
      })
      (λ is h. record {
        fits = (fits 1, short_fits bytes small 2, word 4);
        takes = refl;
        front = opened 4 _ is (omega arith) (then_byte 1 _ (omega arith) (then_short 2 _ (omega arith) (then_word 4 _ (omega arith) refl)));
      })
      (λ is h. record {
        fits = (fits 1, fits 2, fits 3);
        takes = refl;
        front = opened 5 _ is (omega arith) (then_byte 1 _ (omega arith) (then_byte 2 _ (omega arith) (then_byte 3 _ (omega arith) refl)));
      })
      (λ is h. record {
        fits = (fits 1, short_fits bytes small 2, word 4);
        takes = refl;
        front = opened 6 _ is (omega arith) (then_byte 1 _ (omega arith) (then_short 2 _ (omega arith) (then_word 4 _ (omega arith) refl)));
      })
      (λ is h. record { fits = fits 1; takes = refl; front = opened 7 _ is (omega arith) (then_byte 1 _ (omega arith) refl) })
      (λ is h. record { fits = fits 1; takes = refl; front = opened 8 _ is (omega arith) (then_byte 1 _ (omega arith) refl) })
      (λ is h. record { fits = fits 1; takes = refl; front = opened 9 _ is (omega arith) (then_byte 1 _ (omega arith) refl) })
      (λ is h. record { fits = fits 1; takes = refl; front = opened 10 _ is (omega arith) (then_byte 1 _ (omega arith) refl) })
      (λ is h. let ten : length (slice_range bytes 2 12) ≡ 10 = length-take-le 10 (drop 2 bytes) (simp length-drop (omega arith)) in
      record {
        fits = (fits 1, ten, All-take IsByte 10 (drop 2 bytes) (All-drop IsByte 2 bytes small));
        takes = ap (λ n. suc (suc n)) ten;
        front = opened 11 _ is (omega arith) (then_byte 1 _ (omega arith) (then_ten h));
      })
      (λ is h. record { fits = tt; takes = refl; front = opened 12 _ is (omega arith) refl })
      (λ is h. record { fits = tt; takes = refl; front = opened 13 _ is (omega arith) refl })

  -- where an opcode's command is there, it is what is read
  pub read_begins : (size : ℕ) → size_of (byte_at bytes 0) ≡ Some size → size ≤ length bytes → Begins (command_with (byte_at bytes 0) bytes) size bytes
  unfolding IsRead
  read_begins size e h =
      MatchOption-at_some (Unit {0}) (λ size. size ≤ length bytes → Begins (command_with (byte_at bytes 0) bytes) size bytes) size e
      (read_each (byte_at bytes 0) (slice_get_within sizes (byte_at bytes 0) size e) refl) h
