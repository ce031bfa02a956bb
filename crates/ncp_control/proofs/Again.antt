-- What was spelled is read again, whatever follows.
use Rattle.std.proofs.Common.{◌≡◌, ℕ, ◌^◌, ◌<◌, ◌≤◌, List, ◌++◌, length, leb, cond, Some, None, refl, ap, ◌∙◌, arith}
use Rattle.std.specs.Int.{to_be_bytes, from_be_bytes, w16, w32}
use Rattle.std.proofs.lemmas.Bool.{cond-true, le-leb}
use Rattle.std.proofs.lemmas.List.{take_at, length-append}
use Rattle.std.proofs.lemmas.Nat.{from_be_bytes-to_be_bytes_2, from_be_bytes-to_be_bytes_4}
use Rattle.ncp_wire.specs.Spelling.{spelling, IsCommand}
use Rattle.ncp_control.specs.Reading.{command_at, command_with}
use Rattle.ncp_wire.specs.declared.command.Command.{Command}
use Rattle.ncp_wire.specs.declared.command.Command.TheVariants.{Nop, Rts, Str, Cls, All as Allocate, Gvb, Ret, Inr, Ins, Eco, Erp, Err, Rst, Rrp}

-- a command whose bytes are there
there : (size : ℕ) (bytes : List ℕ) (read command : Command) → size ≤ length bytes → read ≡ command → cond (leb size (length bytes)) (Some read) None ≡ Some command
there size bytes read command h e = cond-true (leb size (length bytes)) (Some read) None (le-leb size (length bytes) h) ∙ ap Some e

words : (make : ℕ → ℕ → Command) (a b : ℕ) → a < 2 ^ 32 → b < 2 ^ 32 → make (from_be_bytes w32 (to_be_bytes w32 a)) (from_be_bytes w32 (to_be_bytes w32 b)) ≡ make a b
words make a b x y = ap (λ n. make n (from_be_bytes w32 (to_be_bytes w32 b))) (from_be_bytes-to_be_bytes_4 a x) ∙ ap (make a) (from_be_bytes-to_be_bytes_4 b y)

short_and_word : (make : ℕ → ℕ → Command) (a b : ℕ) → a < 2 ^ 16 → b < 2 ^ 32 → make (from_be_bytes w16 (to_be_bytes w16 a)) (from_be_bytes w32 (to_be_bytes w32 b)) ≡ make a b
short_and_word make a b x y = ap (λ n. make n (from_be_bytes w32 (to_be_bytes w32 b))) (from_be_bytes-to_be_bytes_2 a x) ∙ ap (make a) (from_be_bytes-to_be_bytes_4 b y)

pub command_again : (command : Command) (more : List ℕ) → IsCommand command → command_at (spelling command ++ more) ≡ Some command
unfolding command_at command_with
command_again Nop more h = there 1 (spelling Nop ++ more) Nop Nop (omega arith) refl
command_again (Rts receive send link) more h = there 10 (spelling (Rts receive send link) ++ more) _ (Rts receive send link) (omega arith) (words (λ a b. Rts a b link) receive send h.0 h.1)
command_again (Str send receive size) more h = there 10 (spelling (Str send receive size) ++ more) _ (Str send receive size) (omega arith) (words (λ a b. Str a b size) send receive h.0 h.1)
command_again (Cls my your) more h = there 9 (spelling (Cls my your) ++ more) _ (Cls my your) (omega arith) (words Cls my your h.0 h.1)
command_again (Allocate link messages bits) more h = there 8 (spelling (Allocate link messages bits) ++ more) _ (Allocate link messages bits) (omega arith) (short_and_word (Allocate link) messages bits h.1 h.2)
command_again (Gvb link fm fb) more h = there 4 (spelling (Gvb link fm fb) ++ more) _ (Gvb link fm fb) (omega arith) refl
command_again (Ret link messages bits) more h = there 8 (spelling (Ret link messages bits) ++ more) _ (Ret link messages bits) (omega arith) (short_and_word (Ret link) messages bits h.1 h.2)
command_again (Inr link) more h = there 2 (spelling (Inr link) ++ more) _ (Inr link) (omega arith) refl
command_again (Ins link) more h = there 2 (spelling (Ins link) ++ more) _ (Ins link) (omega arith) refl
command_again (Eco byte) more h = there 2 (spelling (Eco byte) ++ more) _ (Eco byte) (omega arith) refl
command_again (Erp byte) more h = there 2 (spelling (Erp byte) ++ more) _ (Erp byte) (omega arith) refl
command_again (Err code bytes) more h =
    there 12 (spelling (Err code bytes) ++ more) _ (Err code bytes) (omega (arith, length-append bytes more)) (ap (Err code) (take_at bytes more 10 h.1))
command_again Rst more h = there 1 (spelling Rst ++ more) Rst Rst (omega arith) refl
command_again Rrp more h = there 1 (spelling Rrp ++ more) Rrp Rrp (omega arith) refl
