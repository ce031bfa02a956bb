-- What an ERR about a text shows, and that each one that waits is admitted.
use Rattle.std.proofs.Common.{◌≡◌, ℕ, zero, suc, ◌*◌, Bool, true, false, not, ◌&&◌, nat_le, List, [], ◌∷◌, ◌++◌, length, map, refl, sym, ap, subst}
use Rattle.std.specs.Prelude.{drop}
use Rattle.std.specs.List.{range_with_len}
use Rattle.ncp_numbers.specs.Numbers.{number_of, bits_of}
use Rattle.ncp_numbers.specs.Bytes.{bytes_for, byte_of, bytes_of}
use Rattle.ncp_leader.specs.declared.leader.Leader.{Leader}
use Rattle.ncp_leader.specs.Front.{front_bits}
use Rattle.ncp_model.specs.Effect.{text_error}
use Rattle.ncp_wire.specs.declared.command.Command.{Command}
use Rattle.ncp_wire.specs.declared.command.Command.TheVariants.{Err}
use Rattle.ncp_monitor.specs.declared.conn_state.FactKind.{FactKind}
use Rattle.ncp_monitor.specs.ConnStates.{SeenTables, is_marked}
pub use Rattle.ncp_monitor.specs.Texts.{shows_command}
pub use Rattle.ncp_proof_monitor_allocation.specs.TextErrors.{is_text_error}

-- what it shows
abbrev pub shown_by : Command → List ℕ
shown_by (Err code bytes) = bytes
shown_by c = []

-- each ERR about a text that waits is admitted
abbrev pub AllAdmitted : ℕ → ℕ → List Command → SeenTables → Type 0
AllAdmitted me n [] b = Unit {0}
AllAdmitted me n (c ∷ w) b = (is_text_error c ≡ true → is_marked me n (FactKind.Admits true (shown_by c)) b ≡ true) × AllAdmitted me n w b

pub admitted_more : (me n : ℕ) (w more : List Command) (b : SeenTables) → AllAdmitted me n w b → AllAdmitted me n more b → AllAdmitted me n (w ++ more) b
admitted_more me n [] more b a d = d
admitted_more me n (c ∷ w) more b (k, a) d = (k, admitted_more me n w more b a d)

-- what is admitted stays so
pub admitted_wider : (me n : ℕ) (w : List Command) (b after : SeenTables) → ((bytes : List ℕ) → is_marked me n (FactKind.Admits true bytes) b ≡ true → is_marked me n (FactKind.Admits true bytes) after ≡ true)
    → AllAdmitted me n w b → AllAdmitted me n w after
admitted_wider me n [] b after f a = tt
admitted_wider me n (c ∷ w) b after f (k, a) = ((λ e. f (shown_by c) (k e)), admitted_wider me n w b after f a)

-- ---- an ERR about a text is one

-- a byte whose last four bits are zero
first_byte : (a b c d : Bool) (rest : List Bool)
    → (nat_le 1 (byte_of (a ∷ b ∷ c ∷ d ∷ false ∷ false ∷ false ∷ false ∷ rest)) && nat_le (byte_of (a ∷ b ∷ c ∷ d ∷ false ∷ false ∷ false ∷ false ∷ rest)) 8) ≡ false
unfolding byte_of number_of
first_byte true true true true rest = refl
first_byte true true true false rest = refl
first_byte true true false true rest = refl
first_byte true true false false rest = refl
first_byte true false true true rest = refl
first_byte true false true false rest = refl
first_byte true false false true rest = refl
first_byte true false false false rest = refl
first_byte false true true true rest = refl
first_byte false true true false rest = refl
first_byte false true false true rest = refl
first_byte false true false false rest = refl
first_byte false false true true rest = refl
first_byte false false true false rest = refl
first_byte false false false true rest = refl
first_byte false false false false rest = refl

shows_first : (bits : List Bool) → (nat_le 1 (byte_of bits) && nat_le (byte_of bits) 8) ≡ false → shows_command (bytes_of bits) ≡ false
unfolding bytes_of
shows_first bits e = go (bytes_for (length bits))
  where
    go : (count : ℕ) → shows_command (map (λ place. byte_of (drop (8 * place) bits)) (range_with_len 0 count)) ≡ false
    go zero = refl
    go (suc k) = e

kind_zero : (flags kind : ℕ) (rest : List Bool) → kind ≡ 0 → shows_command (bytes_of ((bits_of 4 flags ++ bits_of 4 kind) ++ rest)) ≡ false
unfolding bits_of
kind_zero flags kind rest k =
    subst (λ (x : ℕ). shows_command (bytes_of ((bits_of 4 flags ++ bits_of 4 x) ++ rest)) ≡ false) (sym k) (shows_first ((bits_of 4 flags ++ bits_of 4 0) ++ rest) (first_byte _ _ _ _ rest))

-- a leader of a regular message is no command
pub text_is_error : (leader : Leader) (size count : ℕ) (text : List Bool) → leader.kind ≡ 0 → is_text_error (text_error (front_bits leader size count) text) ≡ true
unfolding bits_of
text_is_error leader size count text k = ap not (kind_zero leader.flags leader.kind _ k)
