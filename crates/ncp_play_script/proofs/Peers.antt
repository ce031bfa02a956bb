-- Peers read word by word.
use Rattle.std.proofs.Common.{◌≡◌, ℕ, ◌<◌, ◌≤◌, Bool, true, false, nat_le, List, [], ◌∷◌, ◌++◌, length, Option, Some, None, option_map, Result, Ok, Err, if◌then◌else◌, codes, refl, sym, ap, ◌∙◌, append_assoc, length-append, arith}
use Rattle.std.specs.Str.{bytes_eq}
use Rattle.std.specs.Result.{IsOk, OnOk, result_ok}
use Rattle.std.proofs.lemmas.Bool.Decides.{nat_tests}
use Rattle.std.proofs.lemmas.List.{append-nil}
use Rattle.ncp_host.specs.declared.limits.TheConstants.{MAX_PEERS}
use Rattle.ncp_play_script.specs.Words.{ends_at, number_of_word, number_first, largest_u8}
use Rattle.ncp_play_script.specs.Calls.{Read}
use Rattle.ncp_play_script.specs.FirstLines.{with_number, numbers_of_words, few, number_before, numbers_first, few_first}

-- nothing was read yet
pub none_read : (numbers : Option (List ℕ)) → option_map (λ behind. [] ++ behind) numbers ≡ numbers
none_read None = refl
none_read (Some numbers) = refl

-- one more was read
pub one_read : (read : List ℕ) (number : ℕ) (numbers : Option (List ℕ)) → option_map (λ behind. read ++ behind) (with_number (Some number) numbers) ≡ option_map (λ behind. (read ++ number ∷ []) ++ behind) numbers
one_read read number None = refl
one_read read number (Some numbers) = ap Some (sym (append_assoc read (number ∷ []) numbers))

not_few : (within : Bool) (numbers : List ℕ) → within ≡ false → (if within then Some numbers else None) ≡ None
not_few true numbers e = absurd (cc)
not_few false numbers e = refl

-- as many were read as a host has at most, and one more
pub one_too_many : (read : List ℕ) (number : ℕ) (numbers : Option (List ℕ)) → length read ≡ MAX_PEERS → few (option_map (λ behind. read ++ behind) (with_number (Some number) numbers)) ≡ None
one_too_many read number None full = refl
one_too_many read number (Some numbers) full =
    let len = length-append read (number ∷ numbers) in
    not_few (nat_le (length (read ++ number ∷ numbers)) MAX_PEERS) (read ++ number ∷ numbers) (grind (arith, nat_tests))

are_few : (within : Bool) (numbers : List ℕ) → within ≡ true → (if within then Some numbers else None) ≡ Some numbers
are_few true numbers e = refl
are_few false numbers e = absurd (cc)

-- all were read
pub all_read : (read : List ℕ) → length read ≤ MAX_PEERS → few (Some (read ++ [])) ≡ Some read
all_read read fits = ap (λ numbers. few (Some numbers)) (append-nil read) ∙ are_few (nat_le (length read) MAX_PEERS) read (grind (arith, nat_tests))

-- a number is the first of the words, and the others are left
pub first_read : (words after : List (List ℕ)) (number : ℕ) → ◌≡◌ {A = Option (ℕ × List (List ℕ))} (Some (number, after)) (number_first largest_u8 words) → numbers_of_words words ≡ with_number (Some number) (numbers_of_words after)
first_read [] after number e = absurd (cc)
first_read (word ∷ words) after number e = go (number_of_word largest_u8 word) e
  where
    go : (o : Option ℕ) → ◌≡◌ {A = Option (ℕ × List (List ℕ))} (Some (number, after)) (option_map (λ n. (n, words)) o) → with_number o (numbers_of_words words) ≡ with_number (Some number) (numbers_of_words after)
    go None e = absurd (cc)
    go (Some n) e = let same : ◌≡◌ {A = ℕ × List (List ℕ)} (number, after) (n, words) = cc in ap (λ (p : ℕ × List (List ℕ)). with_number (Some p.0) (numbers_of_words p.1)) (sym same)

-- a peer was taken in
pub is_taken : {E P : Type 0} (r : Result (Unit {0}) E) (o : Option (Unit {0})) (u : Unit {0}) → o ≡ result_ok r → o ≡ Some u → OnOk r P → IsOk r × P
is_taken (Ok t) o u e some p = (refl, p)
is_taken (Err x) o u e some p = absurd (cc)

pub one_fits : (read now : List ℕ) (number : ℕ) → now ≡ read ++ number ∷ [] → length read < MAX_PEERS → length now ≤ MAX_PEERS
one_fits read now number e room = let len = length-append read (number ∷ []) in rw e (omega (arith, len))

-- ---- numbers up to the word `watch`

-- numbers that were read before, in front of others
abbrev pub in_front : List ℕ → Read (List ℕ) → Read (List ℕ)
in_front read found = option_map (λ it. (read ++ it.0, it.1)) found

pub none_in_front : (found : Read (List ℕ)) → in_front [] found ≡ found
none_in_front None = refl
none_in_front (Some found) = refl

pub one_in_front : (read : List ℕ) (number : ℕ) (found : Read (List ℕ)) → in_front read (number_before (Some number) found) ≡ in_front (read ++ number ∷ []) found
one_in_front read number None = refl
one_in_front read number (Some found) = ap (λ (numbers : List ℕ). Some (numbers, found.1)) (sym (append_assoc read (number ∷ []) found.0))

not_few_first : (within : Bool) (numbers : List ℕ) (words : List (List ℕ)) → within ≡ false → ◌≡◌ {A = Read (List ℕ)} (if within then Some (numbers, words) else None) None
not_few_first true numbers words e = absurd (cc e)
not_few_first false numbers words e = refl

pub one_too_many_in_front : (read : List ℕ) (number : ℕ) (found : Read (List ℕ)) → length read ≡ MAX_PEERS → few_first (in_front read (number_before (Some number) found)) ≡ None
one_too_many_in_front read number None full = refl
one_too_many_in_front read number (Some found) full =
    let len = length-append read (number ∷ found.0) in
    not_few_first (nat_le (length (read ++ number ∷ found.0)) MAX_PEERS) (read ++ number ∷ found.0) found.1 (grind (arith, nat_tests))

are_few_first : (within : Bool) (numbers : List ℕ) (words : List (List ℕ)) → within ≡ true → ◌≡◌ {A = Read (List ℕ)} (if within then Some (numbers, words) else None) (Some (numbers, words))
are_few_first true numbers words e = refl
are_few_first false numbers words e = absurd (cc e)

-- all were read: no word is left, or the next is `watch`
none_numbered : (words : List (List ℕ)) → ends_at (codes "watch") words ≡ true → ◌≡◌ {A = Read (List ℕ)} (numbers_first words) (Some ([], words))
none_numbered [] over = refl
none_numbered (word ∷ words) over = go (bytes_eq (codes "watch") word) over
  where
    go : (b : Bool) → b ≡ true → ◌≡◌ {A = Read (List ℕ)} (if b then Some ([], word ∷ words) else number_before (number_of_word largest_u8 word) (numbers_first words)) (Some ([], word ∷ words))
    go true e = refl
    go false e = absurd (cc e)

pub all_in_front : (read : List ℕ) (words : List (List ℕ)) → length read ≤ MAX_PEERS → ends_at (codes "watch") words ≡ true → ◌≡◌ {A = Read (List ℕ)} (few_first (in_front read (numbers_first words))) (Some (read, words))
all_in_front read words fits over =
    ap (λ (found : Read (List ℕ)). few_first (in_front read found)) (none_numbered words over)
    ∙ ap (λ (numbers : List ℕ). few_first (Some (numbers, words))) (append-nil read)
    ∙ are_few_first (nat_le (length read) MAX_PEERS) read words (grind (arith, nat_tests))

-- the numbers from a word on that was read as a number, or not
abbrev pub numbered_after : Option (ℕ × List (List ℕ)) → Read (List ℕ)
numbered_after None = None
numbered_after (Some (number, after)) = number_before (Some number) (numbers_first after)

-- another word is read as a number, or as none
pub one_numbered : (words : List (List ℕ)) → ends_at (codes "watch") words ≡ false → (o : Option (ℕ × List (List ℕ))) → o ≡ number_first largest_u8 words → numbers_first words ≡ numbered_after o
one_numbered [] next o e = absurd (cc next)
one_numbered (word ∷ words) next o e = go (bytes_eq (codes "watch") word) next ∙ read_so (number_of_word largest_u8 word) o e
  where
    go : (b : Bool) → b ≡ false → ◌≡◌ {A = Read (List ℕ)} (if b then Some ([], word ∷ words) else number_before (number_of_word largest_u8 word) (numbers_first words)) (number_before (number_of_word largest_u8 word) (numbers_first words))
    go true e = absurd (cc e)
    go false e = refl

    read_so : (n : Option ℕ) (o : Option (ℕ × List (List ℕ))) → o ≡ option_map (λ (number : ℕ). (number, words)) n → number_before n (numbers_first words) ≡ numbered_after o
    read_so None o f = sym (ap numbered_after f)
    read_so (Some number) o f = sym (ap numbered_after f)
