-- Reading and writing a regular message.
use Rattle.std.proofs.Common.{◌≡◌, ℕ, ◌+◌, ◌*◌, ◌/◌, ◌%◌, ◌^◌, ◌<◌, ◌≤◌, Bool, true, false, cond, not, eqb, ltb, List, ◌++◌, length, take, drop, slice_range, Result, Ok, Err, IfOk, sym, ap, subst, ◌∙◌, arith, refl}
use Rattle.std.specs.Prelude.{◌↔◌}
use Rattle.std.proofs.lemmas.List.{append_assoc, length-append, length-take-le, length-drop, take_at, drop-drop, take-append-drop}
use Rattle.std.proofs.lemmas.Bool.{le-ltb, ltb-false, ne_eqb, eqb-false}
use Rattle.std.proofs.lemmas.Map.Views.{exact_unsigned_eq}
use Rattle.std.proofs.Math.Nat.{div-le_self, div-add-mod}
use Rattle.ncp_numbers.specs.Numbers.{number_of, bits_of}
use Rattle.ncp_numbers.proofs.Numbers.{number_of_range}
use Rattle.ncp_numbers.proofs.Fields.{field_rest, number_of-fitting}
use Rattle.ncp_leader.specs.declared.leader.Leader.{Leader}
use Rattle.ncp_leader.specs.declared.fault.MessageFault.{MessageFault}
use Rattle.ncp_leader.specs.Leader.{IsLeader, leader_bits, leader_at, leader_in, number_at}
use Rattle.ncp_leader.specs.Message.{Message, IsMessage, Encodes, message_bits, message_in, message_at, message_with, eight_zeros, size_at, count_at, text_end}
use Rattle.ncp_leader.proofs.Leaders.{IsLeader-at, leader_first, leader_at-bits, leader_in-bits, unless_false, one_value}

-- ---- what stands there is read

-- the fields, where they stand
at_m1 : (m : Message) (rest : List Bool) → slice_range (message_bits m ++ rest) 32 40 ≡ bits_of 8 0
unfolding bits_of
at_m1 m rest = refl

at_size : (m : Message) (rest : List Bool) → slice_range (message_bits m ++ rest) 40 48 ≡ bits_of 8 m.size
unfolding bits_of
at_size m rest = refl

at_count : (m : Message) (rest : List Bool) → slice_range (message_bits m ++ rest) 48 64 ≡ bits_of 16 m.count
unfolding bits_of
at_count m rest = refl

at_m2 : (m : Message) (rest : List Bool) → slice_range (message_bits m ++ rest) 64 72 ≡ bits_of 8 0
unfolding bits_of
at_m2 m rest = refl

at_text : (m : Message) (rest : List Bool) → drop 72 (message_bits m ++ rest) ≡ m.text ++ rest
unfolding bits_of
at_text m rest = refl

-- behind the leader
after_leader : Message → List Bool → List Bool
after_leader m rest = eight_zeros ++ bits_of 8 m.size ++ bits_of 16 m.count ++ eight_zeros ++ m.text ++ rest

leader_then : (m : Message) (rest : List Bool) → message_bits m ++ rest ≡ leader_bits m.leader ++ after_leader m rest
unfolding after_leader
leader_then m rest = simp append_assoc refl

leader_at-message : (m : Message) (rest : List Bool) → IsLeader m.leader → leader_at (message_bits m ++ rest) ≡ m.leader
leader_at-message m rest fits = ap leader_at (leader_then m rest) ∙ leader_at-bits m.leader (after_leader m rest) fits

length-message : (m : Message) (rest : List Bool) → length (message_bits m ++ rest) ≡ 72 + length (m.text ++ rest)
unfolding bits_of
length-message m rest = omega arith

same_message : (l k : Leader) (s t c d : ℕ) (x y : List Bool) → l ≡ k → s ≡ t → c ≡ d → x ≡ y
    → (let m : Message = record { leader = l; size = s; count = c; text = x } in m) ≡ (let m : Message = record { leader = k; size = t; count = d; text = y } in m)
same_message l k s t c d x y p q r v = cc

is_zero : (n : ℕ) → n ≡ 0 → not (eqb n 0) ≡ false
is_zero n h = rw h refl

eqb_positive : (n : ℕ) → 0 < n → eqb n 0 ≡ false
eqb_positive n h = ne_eqb n 0 (λ e. omega arith)

pub message_in-bits : (m : Message) (rest : List Bool) → IsMessage m → message_in (message_bits m ++ rest) ≡ Ok m
message_in-bits m rest fits =
    let bits : List Bool = message_bits m ++ rest in
    let l : length bits ≡ 72 + (length m.text + length rest) = length-message m rest ∙ ap (λ (n : ℕ). 72 + n) (length-append m.text rest) in
    let long : ltb (length bits) 72 ≡ false = le-ltb _ _ (omega arith) in
    let m1 : number_at bits 32 8 ≡ 0 = ap number_of (at_m1 m rest) ∙ number_of-fitting 8 0 (omega arith) in
    let size : size_at bits ≡ m.size = ap number_of (at_size m rest) ∙ number_of-fitting 8 m.size fits.size in
    let m2 : number_at bits 64 8 ≡ 0 = ap number_of (at_m2 m rest) ∙ number_of-fitting 8 0 (omega arith) in
    let count : count_at bits ≡ m.count = ap number_of (at_count m rest) ∙ number_of-fitting 16 m.count fits.count in
    let both : size_at bits * count_at bits ≡ m.size * m.count = ap (λ (n : ℕ). n * count_at bits) size ∙ ap (λ (n : ℕ). m.size * n) count in
    let text : slice_range bits 72 (text_end bits) ≡ m.text =
    ap (λ (n : ℕ). take n (drop 72 bits)) (omega arith) ∙ ap (take (m.size * m.count)) (at_text m rest) ∙ take_at m.text rest (m.size * m.count) fits.whole in
    unless_false _ _ _ _ long (
    unless_false _ _ _ _ (is_zero _ m1) (
    unless_false _ _ _ _ (eqb_positive _ (omega (arith, fits.some))) (
    unless_false _ _ _ _ (is_zero _ m2) (
    unless_false _ _ _ _ (le-ltb _ _ (omega (arith, fits.whole))) (
    ap Ok (same_message _ m.leader _ m.size _ m.count _ m.text (leader_at-message m rest fits.leader) size count text))))))

pub stands_read : (bits : List Bool) (m : Message) → Encodes bits m → message_in bits ≡ Ok m
stands_read bits m stands = ap message_in stands.form ∙ message_in-bits m stands.rest stands.fits

-- one list stands for one message
pub one_message : (bits : List Bool) (one other : Message) → Encodes bits one → Encodes bits other → one ≡ other
one_message bits one other p q = one_value (message_in bits) (stands_read bits one p) (stands_read bits other q)

-- ---- what is read stands there

-- the text is as long as size and count say
pub length-text : (bits : List Bool) → text_end bits ≤ length bits → length (slice_range bits 72 (text_end bits)) ≡ size_at bits * count_at bits
length-text bits there =
    ap (λ (k : ℕ). length (take k (drop 72 bits))) (omega arith) ∙ length-take-le (size_at bits * count_at bits) (drop 72 bits) (simp length-drop (omega arith))

pub IsMessage-at : (bits : List Bool) → 0 < size_at bits → text_end bits ≤ length bits
    → IsMessage (message_at bits)
IsMessage-at bits some there =
    record {
      leader = IsLeader-at bits;
      some = some;
      size = number_of_range bits 40 8;
      count = number_of_range bits 48 16;
      whole = length-text bits there;
    }

pub zeros : bits_of 8 0 ≡ eight_zeros
unfolding bits_of
zeros = refl

Encodes-at : (bits : List Bool) → 72 ≤ length bits → number_at bits 32 8 ≡ 0 → 0 < size_at bits → number_at bits 64 8 ≡ 0 → text_end bits ≤ length bits
    → Encodes bits (message_at bits)
Encodes-at bits long m1 some m2 there =
    let n : ℕ = size_at bits * count_at bits in
    let text : List Bool = slice_range bits 72 (72 + n) in
    let front : text ≡ take n (drop 72 bits) = ap (λ (k : ℕ). take k (drop 72 bits)) (omega arith) in
    let tail : drop 72 bits ≡ text ++ drop (72 + n) bits =
    sym (ap (λ xs. text ++ xs) (sym (drop-drop n 72 bits)) ∙ ap (λ xs. xs ++ drop n (drop 72 bits)) front ∙ take-append-drop n (drop 72 bits)) in
    let zeros_1 : bits_of 8 (number_at bits 32 8) ≡ eight_zeros = ap (bits_of 8) m1 ∙ zeros in
    let zeros_2 : bits_of 8 (number_at bits 64 8) ≡ eight_zeros = ap (bits_of 8) m2 ∙ zeros in
    let chain : drop 32 bits ≡ eight_zeros ++ (bits_of 8 (size_at bits) ++ (bits_of 16 (count_at bits) ++ (eight_zeros ++ (text ++ drop (72 + n) bits)))) =
    field_rest bits 32 8 (omega arith) ∙ ap (λ xs. xs ++ drop 40 bits) zeros_1
    ∙ ap (λ rest. eight_zeros ++ rest) (field_rest bits 40 8 (omega arith)
    ∙ ap (λ rest. bits_of 8 (size_at bits) ++ rest) (field_rest bits 48 16 (omega arith)
    ∙ ap (λ rest. bits_of 16 (count_at bits) ++ rest) (field_rest bits 64 8 (omega arith) ∙ ap (λ xs. xs ++ drop 72 bits) zeros_2
    ∙ ap (λ rest. eight_zeros ++ rest) tail))) in
    record {
      fits = IsMessage-at bits some there;
      rest = drop (72 + n) bits;
      form = simp append_assoc (simp append_assoc at (leader_first bits (omega arith) ∙ ap (λ rest. leader_bits (leader_at bits) ++ rest) chain));
    }

-- a test that refuses gives no value
IfOk-cond : {A E : Type 0} (P : A → Type 0) (test : Bool) (error : E) (given : Result A E) → (test ≡ false → IfOk given P) → IfOk (cond test (Err error) given) P
IfOk-cond P true error given then = tt
IfOk-cond P false error given then = then refl

not_false : (test : Bool) → not test ≡ false → test ≡ true
not_false true off = refl
not_false false off = cc

zero : (n : ℕ) → not (eqb n 0) ≡ false → n ≡ 0
zero n off = exact_unsigned_eq n 0 (not_false (eqb n 0) off)

positive : (n : ℕ) → eqb n 0 ≡ false → 0 < n
positive n off = let some : n ≡ 0 → ⊥ = eqb-false n 0 off in omega arith

pub read_stands : (bits : List Bool) → IfOk (message_in bits) (Encodes bits)
read_stands bits =
    IfOk-cond (Encodes bits) _ _ _ (λ long.
    IfOk-cond (Encodes bits) _ _ _ (λ m1.
    IfOk-cond (Encodes bits) _ _ _ (λ some.
    IfOk-cond (Encodes bits) _ _ _ (λ m2.
    IfOk-cond (Encodes bits) _ _ _ (λ there.
    Encodes-at bits (ltb-false _ _ long) (zero _ m1) (positive _ some) (zero _ m2) (ltb-false _ _ there))))))

-- ---- a result that is what is read

IfOk-value : {A E : Type 0} (P : A → Type 0) (r : Result A E) (x : A) → Ok x ≡ r → IfOk r P → P x
IfOk-value {A = A} {E = E} P r x e h = let Q : Result A E → Type 0 = λ s. IfOk s P in subst Q (sym e) h

pub found_law : (bits : List Bool) (m : Message) → Ok m ≡ message_in bits → Encodes bits m
found_law bits m e = IfOk-value (Encodes bits) (message_in bits) m e (read_stands bits)

pub only_law : (bits : List Bool) (r : Result Message MessageFault) → r ≡ message_in bits → (m : Message) → Encodes bits m → r ≡ Ok m
only_law bits r e m stands = e ∙ stands_read bits m stands

-- the leader of a message is the one in front of it
pub message_leader : (bits : List Bool) (m : Message) → message_in bits ≡ Ok m → leader_in bits ≡ Ok m.leader
message_leader bits m e =
    let stands : Encodes bits m = found_law bits m (sym e) in
    ap leader_in (stands.form ∙ leader_then m stands.rest) ∙ leader_in-bits m.leader (after_leader m stands.rest) stands.fits.leader

pub reads_or_stands : (bits : List Bool) (m : Message) → (message_in bits ≡ Ok m) ↔ Encodes bits m
reads_or_stands bits m = (λ e. found_law bits m (sym e), λ stands. stands_read bits m stands)

-- ---- what is written is a message

pub IsMessage-with : (leader : Leader) (size : ℕ) (text : List Bool) → IsLeader leader → 0 < size → size < 2 ^ 8 → length text ≤ 7928 → length text % size ≡ 0
    → IsMessage (message_with leader size text)
IsMessage-with leader size text fits some small short whole =
    let few : length text / size ≤ length text = div-le_self (length text) size in
    let parts : size * (length text / size) + length text % size ≡ length text = div-add-mod (length text) size in
    record {
      leader = fits;
      some = some;
      size = small;
      count = omega arith;
      whole = omega (arith, parts, whole);
    }
