-- The host that a first line names can be created: each of its peers fits a leader.
use Rattle.std.proofs.Common.{◌≡◌, ◌<◌, ◌==◌, ◌&&◌, ◌||◌, ℕ, Bool, true, false, nat_lt, nat_le, List, [], ◌∷◌, length, Option, Some, None, option_map, if◌then◌else◌, refl, subst, arith}
use Rattle.std.specs.Prelude.{codes}
use Rattle.std.specs.Str.{bytes_eq, all_ascii_digits}
use Rattle.std.proofs.lemmas.Bool.{and_parts}
use Rattle.std.proofs.lemmas.Bool.Decides.{nat_tests}
use Rattle.ncp_host.specs.declared.limits.TheConstants.{MAX_PEERS}
use Rattle.ncp_host.specs.Host.{is_one_of, are_peers, new_host}
use Rattle.ncp_transcript.specs.Runs.{IsHostTranscript}
use Rattle.ncp_transcript.proofs.Growing.{transcript_new}
use Rattle.ncp_play_script.specs.declared.numbers.TheConstants.{MAX_DIGITS}
use Rattle.ncp_play_script.specs.Words.{value_after, is_number, number_of_word, number_first, largest_u8}
use Rattle.ncp_play_script.specs.FirstLines.{Named, with_number, numbers_of_words, few, with_peers, host_named, if_peers, first_of_host}

-- each of these numbers fits a leader
abbrev Fit : List ℕ → Type 0
Fit ns = (n : ℕ) → is_one_of n ns ≡ true → n < 256

is_some : {A : Type 0} (a b : A) → Some a ≡ Some b → a ≡ b
is_some a b e = cc

-- ---- the numbers of words

at_most : (n : ℕ) → nat_le n largest_u8 ≡ true → n < 256
at_most n e = grind (arith, nat_tests)

number_fits : (word : List ℕ) (n : ℕ) → number_of_word largest_u8 word ≡ Some n → n < 256
number_fits word n e = go (is_number largest_u8 word) refl e
  where
    go : (b : Bool) → is_number largest_u8 word ≡ b → (if b then Some (value_after 0 word) else None) ≡ Some n → n < 256
    go false is e = absurd (let f : ⊥ = cc in f)
    go true is e =
        let spelled = and_parts (nat_lt 0 (length word) && nat_le (length word) MAX_DIGITS) (all_ascii_digits word && nat_le (value_after 0 word) largest_u8) is in
        let small = and_parts (all_ascii_digits word) (nat_le (value_after 0 word) largest_u8) spelled.1 in
        subst (λ (m : ℕ). m < 256) (is_some (value_after 0 word) n e) (at_most (value_after 0 word) small.1)

one_more : (m : ℕ) (ms : List ℕ) → m < 256 → Fit ms → Fit (m ∷ ms)
one_more m ms small fits n is = go (m == n) refl is
  where
    go : (b : Bool) → (m == n) ≡ b → (b || is_one_of n ms) ≡ true → n < 256
    go true same e = grind (arith, nat_tests)
    go false other e = fits n e

numbers_fit : (words : List (List ℕ)) (ns : List ℕ) → numbers_of_words words ≡ Some ns → Fit ns
numbers_fit [] ns e = subst Fit (is_some [] ns e) (λ n is. absurd (let f : ⊥ = cc in f))
numbers_fit (word ∷ words) ns e = go (number_of_word largest_u8 word) refl (numbers_of_words words) refl (λ ms r. numbers_fit words ms r) e
  where
    go : (first : Option ℕ) → number_of_word largest_u8 word ≡ first → (behind : Option (List ℕ)) → numbers_of_words words ≡ behind → ((ms : List ℕ) → numbers_of_words words ≡ Some ms → Fit ms) → with_number first behind ≡ Some ns → Fit ns
    go None s behind r fits e = absurd (let f : ⊥ = cc in f)
    go (Some m) s None r fits e = absurd (let f : ⊥ = cc in f)
    go (Some m) s (Some ms) r fits e = subst Fit (is_some (m ∷ ms) ns e) (one_more m ms (number_fits word m s) (fits ms r))

-- ---- the host that they name

few_fit : (me : ℕ) (words : List (List ℕ)) (named : Named) → with_peers (Some (me, words)) ≡ Some named → Fit named.peers
few_fit me words named e = go (numbers_of_words words) refl e
  where
    within : (b : Bool) (ns : List ℕ) → numbers_of_words words ≡ Some ns → option_map (λ (peers : List ℕ). record { me = me; peers = peers }) (if b then Some ns else None) ≡ Some named → Fit named.peers
    within true ns s e = subst (λ (x : Named). Fit x.peers) (is_some (record { me = me; peers = ns }) named e) (numbers_fit words ns s)
    within false ns s e = absurd (let f : ⊥ = cc in f)

    go : (numbers : Option (List ℕ)) → numbers_of_words words ≡ numbers → option_map (λ (peers : List ℕ). record { me = me; peers = peers }) (few numbers) ≡ Some named → Fit named.peers
    go None s e = absurd (let f : ⊥ = cc in f)
    go (Some ns) s e = within (nat_le (length ns) MAX_PEERS) ns s e

host_fits : (words : List (List ℕ)) (named : Named) → host_named words ≡ Some named → Fit named.peers
host_fits [] named e = absurd (let f : ⊥ = cc in f)
host_fits (word ∷ words) named e = go (bytes_eq (codes "host") word) e
  where
    behind : (first : Option (ℕ × List (List ℕ))) → with_peers first ≡ Some named → Fit named.peers
    behind None e = absurd (let f : ⊥ = cc in f)
    behind (Some (me, rest)) e = few_fit me rest named e

    go : (b : Bool) → (if b then with_peers (number_first largest_u8 words) else None) ≡ Some named → Fit named.peers
    go true e = behind (number_first largest_u8 words) e
    go false e = absurd (let f : ⊥ = cc in f)

-- a new host that a first line names has an empty transcript
pub named_new : (words : List (List ℕ)) (named : Named) → first_of_host words ≡ Some named → IsHostTranscript [] (new_host named.me named.peers)
named_new words named e = go (host_named words) refl e
  where
    with_them : (b : Bool) (found : Named) → are_peers found.me found.peers ≡ b → Fit found.peers → (if b then Some found else None) ≡ Some named → IsHostTranscript [] (new_host named.me named.peers)
    with_them true found good fits e =
        subst (λ (x : Named). IsHostTranscript [] (new_host x.me x.peers)) (is_some found named e) (transcript_new found.me found.peers (new_host found.me found.peers) good fits refl)
    with_them false found good fits e = absurd (let f : ⊥ = cc in f)

    go : (found : Option Named) → host_named words ≡ found → if_peers found ≡ Some named → IsHostTranscript [] (new_host named.me named.peers)
    go None s e = absurd (let f : ⊥ = cc in f)
    go (Some found) s e = with_them (are_peers found.me found.peers) found refl (host_fits words found s) e
