-- What is saved of a command is its spelling, but for an ERR.
use Rattle.std.proofs.Common.{◌≡◌, ◌⊎◌, inl, inr, ℕ, ◌<◌, ◌/◌, ◌%◌, ◌^◌, ◌==◌, false, List, [], ◌∷◌, ◌++◌, length, get_or, refl, ap₂, ◌∙◌, subst, arith}
use Rattle.std.specs.Int.{to_be_bytes, w16, w32}
use Rattle.ncp_wire.specs.declared.command.Command.{Command}
use Rattle.ncp_wire.specs.declared.command.Command.TheVariants.{Nop, Rts, Str, Cls, All as Allocate, Gvb, Ret, Inr, Ins, Eco, Erp, Err, Rst, Rrp}
use Rattle.ncp_wire.specs.Spelling.{IsCommand, spelling}
use Rattle.ncp_model.specs.declared.outcomes.Error.{Error}
use Rattle.ncp_saved.specs.Values.{two_bytes, four_bytes, command_saved, error_saved}
use Rattle.ncp_saved.specs.Reading.{HasItsData}

abbrev pub AreSmall : List ℕ → Type 0
AreSmall bytes = (k : ℕ) → get_or bytes k 0 < 256

two_is : (n : ℕ) → n / 256 < 256 → (two_bytes n ≡ to_be_bytes w16 n) × (n < 2 ^ 16)
two_is n small =
    let high : n / 256 ≡ n / 256 % 256 = omega (arith, small) in
    (λ i. high i ∷ n % 256 ∷ [], omega (arith, small))

four_is : (n : ℕ) → n / 65536 / 256 < 256 → (four_bytes n ≡ to_be_bytes w32 n) × (n < 2 ^ 32)
four_is n small =
    let a : n / 65536 / 256 ≡ n / 16777216 % 256 = omega (arith, small) in
    let b : n / 65536 % 256 ≡ n / 65536 % 256 = refl in
    let d : n % 65536 / 256 ≡ n / 256 % 256 = omega arith in
    let e : n % 65536 % 256 ≡ n % 256 = omega arith in
    (λ i. a i ∷ b i ∷ d i ∷ e i ∷ [], omega (arith, small))

-- an ERR: its opcode, and the error behind it
pub record IsError (command : Command) (bytes rest : List ℕ) : Type 0 where
  pub error : Error
  pub is : Err error.code error.bytes ≡ command
  pub ten : length error.bytes ≡ 10
  pub are : bytes ≡ (11 ∷ []) ++ (error_saved error ++ rest)

-- another command: its spelling
pub record IsSpelled (command : Command) (bytes rest : List ℕ) : Type 0 where
  pub first : ℕ
  pub behind : List ℕ
  pub begins : bytes ≡ first ∷ behind
  pub other : (first == 11) ≡ false
  pub fits : IsCommand command
  pub are : bytes ≡ spelling command ++ rest

pub which : (command : Command) (bytes rest : List ℕ) → AreSmall bytes → HasItsData command → bytes ≡ command_saved command ++ rest → IsError command bytes rest ⊎ IsSpelled command bytes rest
unfolding command_saved error_saved
which Nop bytes rest small has e = inr (record { first = 0; behind = rest; begins = e; other = refl; fits = tt; are = e })
which (Rts receive send link) bytes rest small has e =
    let s = subst AreSmall e small in
    let one = four_is receive (s 1) in
    let two = four_is send (s 5) in
    inr (record { first = 1; behind = (four_bytes receive ++ four_bytes send ++ link ∷ []) ++ rest; begins = e; other = refl; fits = (one.1, two.1, s 9); are = e ∙ ap₂ (λ (a b : List ℕ). (1 ∷ a ++ b ++ link ∷ []) ++ rest) one.0 two.0 })
which (Str send receive size) bytes rest small has e =
    let s = subst AreSmall e small in
    let one = four_is send (s 1) in
    let two = four_is receive (s 5) in
    inr (record { first = 2; behind = (four_bytes send ++ four_bytes receive ++ size ∷ []) ++ rest; begins = e; other = refl; fits = (one.1, two.1, s 9); are = e ∙ ap₂ (λ (a b : List ℕ). (2 ∷ a ++ b ++ size ∷ []) ++ rest) one.0 two.0 })
which (Cls my your) bytes rest small has e =
    let s = subst AreSmall e small in
    let one = four_is my (s 1) in
    let two = four_is your (s 5) in
    inr (record { first = 3; behind = (four_bytes my ++ four_bytes your) ++ rest; begins = e; other = refl; fits = (one.1, two.1); are = e ∙ ap₂ (λ (a b : List ℕ). (3 ∷ a ++ b) ++ rest) one.0 two.0 })
which (Allocate link messages bits) bytes rest small has e =
    let s = subst AreSmall e small in
    let one = two_is messages (s 2) in
    let two = four_is bits (s 4) in
    inr (record { first = 4; behind = (link ∷ two_bytes messages ++ four_bytes bits) ++ rest; begins = e; other = refl; fits = (s 1, one.1, two.1); are = e ∙ ap₂ (λ (a b : List ℕ). (4 ∷ link ∷ a ++ b) ++ rest) one.0 two.0 })
which (Gvb link fm fb) bytes rest small has e =
    let s = subst AreSmall e small in
    inr (record { first = 5; behind = (link ∷ fm ∷ fb ∷ []) ++ rest; begins = e; other = refl; fits = (s 1, s 2, s 3); are = e })
which (Ret link messages bits) bytes rest small has e =
    let s = subst AreSmall e small in
    let one = two_is messages (s 2) in
    let two = four_is bits (s 4) in
    inr (record { first = 6; behind = (link ∷ two_bytes messages ++ four_bytes bits) ++ rest; begins = e; other = refl; fits = (s 1, one.1, two.1); are = e ∙ ap₂ (λ (a b : List ℕ). (6 ∷ link ∷ a ++ b) ++ rest) one.0 two.0 })
which (Inr link) bytes rest small has e = inr (record { first = 7; behind = link ∷ rest; begins = e; other = refl; fits = subst AreSmall e small 1; are = e })
which (Ins link) bytes rest small has e = inr (record { first = 8; behind = link ∷ rest; begins = e; other = refl; fits = subst AreSmall e small 1; are = e })
which (Eco byte) bytes rest small has e = inr (record { first = 9; behind = byte ∷ rest; begins = e; other = refl; fits = subst AreSmall e small 1; are = e })
which (Erp byte) bytes rest small has e = inr (record { first = 10; behind = byte ∷ rest; begins = e; other = refl; fits = subst AreSmall e small 1; are = e })
which (Err code told) bytes rest small has e = inl (record { error = record { code = code; bytes = told }; is = refl; ten = has; are = e })
which Rst bytes rest small has e = inr (record { first = 12; behind = rest; begins = e; other = refl; fits = tt; are = e })
which Rrp bytes rest small has e = inr (record { first = 13; behind = rest; begins = e; other = refl; fits = tt; are = e })
