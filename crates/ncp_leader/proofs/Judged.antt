-- The faults of a message, in the order in which they are judged.
use Rattle.std.proofs.Common.{◌≡◌, ◌≢◌, ◌↔◌, ℕ, ◌*◌, ◌/◌, ◌%◌, Bool, false, not, eqb, List, length, slice_range, nat_lt, Ok, Err, sym, ap, ◌∙◌, arith}
use Rattle.std.proofs.lemmas.Bool.Decides.{Decides-ltb, Decides-eqb, Decides-not}
use Rattle.std.proofs.Math.Nat.{div-add-mod, mul-mod_right}
use Rattle.std.specs.Bool.{Decides}
use Rattle.ncp_numbers.specs.Numbers.{number_at}
use Rattle.ncp_bits.specs.Reasons.{IsFirst, NoneHolds}
use Rattle.ncp_bits.proofs.Runs.{any_set}
use Rattle.ncp_bits.proofs.Judging.{answer, answer_first, answer_none}
use Rattle.ncp_leader.specs.declared.leader.Leader.{Leader}
use Rattle.ncp_leader.specs.declared.regular.TheConstants.{FRONT_BITS, MAX_TEXT_BITS}
use Rattle.ncp_leader.specs.declared.fault.MessageFault.{MessageFault}
use Rattle.ncp_leader.specs.declared.fault.MessageFault.TheVariants.{ShortPrefix, M1NotZero, SizeZero, M2NotZero, TextMissing, TextTooLong, NotWhole}
use Rattle.ncp_leader.specs.Message.{message_in, message_at, message_bits, message_with, written, size_at, text_end, IsReadFault, IsWriteFault, message_faults_judged}

-- the tests of a message that is read
read_test : List Bool → MessageFault → Bool
read_test bits ShortPrefix = nat_lt (length bits) FRONT_BITS
read_test bits M1NotZero = not (eqb (number_at bits 32 8) 0)
read_test bits SizeZero = eqb (size_at bits) 0
read_test bits M2NotZero = not (eqb (number_at bits 64 8) 0)
read_test bits TextMissing = nat_lt (length bits) (text_end bits)
read_test bits TextTooLong = false
read_test bits NotWhole = false

never : Decides false ⊥
never = (λ e. cc e, λ e. absurd e)

read_decided : (bits : List Bool) (fault : MessageFault) → Decides (read_test bits fault) (IsReadFault bits fault)
unfolding read_test
read_decided bits ShortPrefix = Decides-ltb (length bits) FRONT_BITS
read_decided bits M1NotZero = (λ t. sym (any_set (slice_range bits 32 40)) ∙ t, λ h. any_set (slice_range bits 32 40) ∙ h)
read_decided bits SizeZero = Decides-eqb (size_at bits) 0
read_decided bits M2NotZero = (λ t. sym (any_set (slice_range bits 64 72)) ∙ t, λ h. any_set (slice_range bits 64 72) ∙ h)
read_decided bits TextMissing = Decides-ltb (length bits) (text_end bits)
read_decided bits TextTooLong = never
read_decided bits NotWhole = never

pub read_first : (bits : List Bool) (fault : MessageFault) → (message_in bits ≡ Err fault) ↔ IsFirst (IsReadFault bits) message_faults_judged fault
unfolding answer read_test
read_first bits fault = answer_first {holds = IsReadFault bits} (read_test bits) (read_decided bits) message_faults_judged (message_at bits) fault

pub read_none : (bits : List Bool) → NoneHolds (IsReadFault bits) message_faults_judged → message_in bits ≡ Ok (message_at bits)
unfolding answer read_test
read_none bits h = answer_none {holds = IsReadFault bits} (read_test bits) (read_decided bits) message_faults_judged (message_at bits) h

-- a length is a whole number of bytes where nothing is left of it
no_rest : (n size : ℕ) → n % size ≡ 0 → n ≡ size * (n / size)
no_rest n size h = omega (arith, h, div-add-mod n size)

rest_of : (size count : ℕ) → (size * count) % size ≡ 0
rest_of size count = mul-mod_right size count

whole : (n size : ℕ) → Decides (not (eqb (n % size) 0)) ((count : ℕ) → n ≢ size * count)
whole n size =
    let d : Decides (not (eqb (n % size) 0)) (¬ (n % size ≡ 0)) = Decides-not (eqb (n % size) 0) (Decides-eqb (n % size) 0) in
    (λ t count e. d.0 t (ap (λ (k : ℕ). k % size) e ∙ rest_of size count), λ h. d.1 (λ e. h (n / size) (no_rest n size e)))

-- the tests of a text that is written
write_test : ℕ → List Bool → MessageFault → Bool
write_test size text ShortPrefix = false
write_test size text M1NotZero = false
write_test size text SizeZero = eqb size 0
write_test size text M2NotZero = false
write_test size text TextMissing = false
write_test size text TextTooLong = nat_lt MAX_TEXT_BITS (length text)
write_test size text NotWhole = not (eqb (length text % size) 0)

write_decided : (size : ℕ) (text : List Bool) (fault : MessageFault) → Decides (write_test size text fault) (IsWriteFault size text fault)
unfolding write_test
write_decided size text ShortPrefix = never
write_decided size text M1NotZero = never
write_decided size text SizeZero = Decides-eqb size 0
write_decided size text M2NotZero = never
write_decided size text TextMissing = never
write_decided size text TextTooLong = Decides-ltb MAX_TEXT_BITS (length text)
write_decided size text NotWhole = whole (length text) size

pub write_first : (leader : Leader) (size : ℕ) (text : List Bool) (fault : MessageFault) → (written leader size text ≡ Err fault) ↔ IsFirst (IsWriteFault size text) message_faults_judged fault
unfolding answer write_test
write_first leader size text fault = answer_first {holds = IsWriteFault size text} (write_test size text) (write_decided size text) message_faults_judged (message_bits (message_with leader size text)) fault

pub write_none : (leader : Leader) (size : ℕ) (text : List Bool) → NoneHolds (IsWriteFault size text) message_faults_judged → written leader size text ≡ Ok (message_bits (message_with leader size text))
unfolding answer write_test
write_none leader size text h = answer_none {holds = IsWriteFault size text} (write_test size text) (write_decided size text) message_faults_judged (message_bits (message_with leader size text)) h
