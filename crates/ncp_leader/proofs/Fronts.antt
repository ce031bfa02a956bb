-- Leader and prefix of a message, as bytes.
use Rattle.std.proofs.Common.{◌≡◌, ℕ, ◌+◌, ◌*◌, ◌/◌, ◌%◌, ◌^◌, ◌≤◌, bit_or, List, Bool, [], ◌∷◌, ◌++◌, take, drop, length, Result, Ok, Err, IsOk, IfErr, refl, sym, ap, ◌∙◌, arith}
use Rattle.std.proofs.lemmas.List.{append-nil, take-append-drop}
use Rattle.std.proofs.lemmas.Nat.{or_shifted, shl_whole}
use Rattle.ncp_numbers.specs.Numbers.{bits_of}
use Rattle.ncp_numbers.specs.Bytes.{bits_of_bytes, byte_bits}
use Rattle.ncp_numbers.proofs.Shifts.{drop-bits_of, take-bits_of, bits_of-mod}
use Rattle.ncp_bits.specs.declared.bits.BitsFault.{BitsFault}
use Rattle.ncp_bits.specs.Bits.{read_bytes}
use Rattle.ncp_leader.specs.declared.leader.Leader.{Leader}
use Rattle.ncp_leader.specs.Leader.{leader_bits}
use Rattle.ncp_leader.specs.Bytes.{leader_bytes}
use Rattle.ncp_leader.specs.Message.{eight_zeros, message_bits, message_with}
use Rattle.ncp_leader.specs.Front.{front_bits}

-- two numbers of four bits in one byte
pub first_byte : (flags kind : ℕ) → flags ≤ 15 → kind ≤ 15 → bit_or (flags * 2 ^ 4 % 2 ^ 8) kind ≡ flags * 2 ^ 4 + kind
first_byte flags kind f k =
    ap (λ (n : ℕ). bit_or n kind) (shl_whole flags 4 4 8 (omega (arith, f)) (omega arith)) ∙ or_shifted flags 4 kind (omega (arith, k))

two_fields : (flags kind : ℕ) → kind ≤ 15 → bits_of 8 (flags * 2 ^ 4 + kind) ≡ bits_of 4 flags ++ bits_of 4 kind
two_fields flags kind k =
    let high : (flags * 2 ^ 4 + kind) / 2 ^ 4 ≡ flags = omega (arith, k) in
    let low : (flags * 2 ^ 4 + kind) % 2 ^ 4 ≡ kind = omega (arith, k) in
    sym (take-append-drop 4 (bits_of 8 (flags * 2 ^ 4 + kind)))
    ∙ ap (λ (xs : List Bool). xs ++ drop 4 (bits_of 8 (flags * 2 ^ 4 + kind))) (take-bits_of 4 4 (flags * 2 ^ 4 + kind) ∙ ap (bits_of 4) high)
    ∙ ap (λ (xs : List Bool). bits_of 4 flags ++ xs) (drop-bits_of 4 4 (flags * 2 ^ 4 + kind) ∙ sym (bits_of-mod 4 (flags * 2 ^ 4 + kind)) ∙ ap (bits_of 4) low)

-- the two bytes of a number are its sixteen bits
two_bytes : (n : ℕ) → bits_of 8 (n / 256 % 256) ++ bits_of 8 (n % 256) ≡ bits_of 16 n
two_bytes n =
    ap (λ (xs : List Bool). xs ++ bits_of 8 (n % 256)) (bits_of-mod 8 (n / 256) ∙ sym (take-bits_of 8 8 n))
    ∙ ap (λ (xs : List Bool). take 8 (bits_of 16 n) ++ xs) (bits_of-mod 8 n ∙ sym (drop-bits_of 8 8 n))
    ∙ take-append-drop 8 (bits_of 16 n)

-- four bytes
bytes_distinct : (first host link low : ℕ) → bits_of_bytes (first ∷ host ∷ link ∷ low ∷ []) ≡ bits_of 8 first ++ bits_of 8 host ++ bits_of 8 link ++ bits_of 8 low
unfolding bits_of byte_bits
bytes_distinct first host link low = refl

leader_joined : (leader : Leader) → (bits_of 4 leader.flags ++ bits_of 4 leader.kind) ++ bits_of 8 leader.host ++ bits_of 8 leader.link ++ bits_of 8 leader.low ≡ leader_bits leader
unfolding bits_of
leader_joined leader = refl

pub leader_spelled : (leader : Leader) → leader.kind ≤ 15 → bits_of_bytes (leader_bytes leader) ≡ leader_bits leader
leader_spelled leader k =
    bytes_distinct (leader.flags * 2 ^ 4 + leader.kind) leader.host leader.link leader.low
    ∙ ap (λ (xs : List Bool). xs ++ bits_of 8 leader.host ++ bits_of 8 leader.link ++ bits_of 8 leader.low) (two_fields leader.flags leader.kind k)
    ∙ leader_joined leader

-- whole bytes are read
pub leader_read : (a b c d : ℕ) → read_bytes (a ∷ b ∷ c ∷ d ∷ []) 32 ≡ Ok (bits_of_bytes (a ∷ b ∷ c ∷ d ∷ []))
unfolding bits_of byte_bits
leader_read a b c d = refl

-- the nine bytes in front of a text
abbrev pub front : Leader → ℕ → ℕ → List ℕ
front leader size count = (leader.flags * 2 ^ 4 + leader.kind) ∷ leader.host ∷ leader.link ∷ leader.low ∷ 0 ∷ size ∷ (count / 256 % 256) ∷ (count % 256) ∷ 0 ∷ []

nine_read : (a b c d e f g h i : ℕ) → read_bytes (a ∷ b ∷ c ∷ d ∷ e ∷ f ∷ g ∷ h ∷ i ∷ []) 72 ≡ Ok (bits_of_bytes (a ∷ b ∷ c ∷ d ∷ e ∷ f ∷ g ∷ h ∷ i ∷ []))
unfolding bits_of byte_bits
nine_read a b c d e f g h i = refl

pub front_read : (leader : Leader) (size count : ℕ) → read_bytes (front leader size count) 72 ≡ Ok (bits_of_bytes (front leader size count))
front_read leader size count = nine_read (leader.flags * 2 ^ 4 + leader.kind) leader.host leader.link leader.low 0 size (count / 256 % 256) (count % 256) 0

-- after the leader: the prefix and a text
nine_distinct : (first host link low size high last : ℕ) (text : List Bool)
    → bits_of_bytes (first ∷ host ∷ link ∷ low ∷ 0 ∷ size ∷ high ∷ last ∷ 0 ∷ []) ++ text
    ≡ bits_of_bytes (first ∷ host ∷ link ∷ low ∷ []) ++ eight_zeros ++ bits_of 8 size ++ (bits_of 8 high ++ bits_of 8 last) ++ eight_zeros ++ text
unfolding bits_of byte_bits
nine_distinct first host link low size high last text = refl

pub front_spelled : (leader : Leader) (size count : ℕ) (text : List Bool) → leader.kind ≤ 15
    → bits_of_bytes (front leader size count) ++ text ≡ leader_bits leader ++ eight_zeros ++ bits_of 8 size ++ bits_of 16 count ++ eight_zeros ++ text
front_spelled leader size count text k =
    nine_distinct (leader.flags * 2 ^ 4 + leader.kind) leader.host leader.link leader.low size (count / 256 % 256) (count % 256) text
    ∙ ap (λ (xs : List Bool). xs ++ eight_zeros ++ bits_of 8 size ++ (bits_of 8 (count / 256 % 256) ++ bits_of 8 (count % 256)) ++ eight_zeros ++ text) (leader_spelled leader k)
    ∙ ap (λ (xs : List Bool). leader_bits leader ++ eight_zeros ++ bits_of 8 size ++ xs ++ eight_zeros ++ text) (two_bytes count)

pub front_is : (leader : Leader) (size count : ℕ) → leader.kind ≤ 15 → bits_of_bytes (front leader size count) ≡ front_bits leader size count
front_is leader size count k = sym (append-nil (bits_of_bytes (front leader size count))) ∙ front_spelled leader size count [] k ∙ append-nil (front_bits leader size count)

-- bits that cannot be refused are copied
pub not_refused : (result : Result (Unit {0}) BitsFault) (read : Result (List Bool) BitsFault) (bits : List Bool) → read ≡ Ok bits → IfErr result (λ fault. read ≡ Err fault) → IsOk result
not_refused (Ok done) read bits is err = refl
not_refused (Err fault) read bits is err = absurd (cc)

front_joined : (leader : Leader) (size count : ℕ) (text : List Bool)
    → front_bits leader size count ++ text ≡ leader_bits leader ++ eight_zeros ++ bits_of 8 size ++ bits_of 16 count ++ eight_zeros ++ text
unfolding bits_of
front_joined leader size count text = refl

-- what stands before a text, and the text, are a message
pub front_text : (leader : Leader) (size count : ℕ) (text : List Bool) → count ≡ length text / size → front_bits leader size count ++ text ≡ message_bits (message_with leader size text)
front_text leader size count text counted =
    front_joined leader size count text
    ∙ ap (λ (k : ℕ). leader_bits leader ++ eight_zeros ++ bits_of 8 size ++ bits_of 16 k ++ eight_zeros ++ text) counted
