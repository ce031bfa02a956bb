-- The one reading of a text.
use Rattle.std.proofs.Common.{◌≡◌, ℕ, zero, suc, ◌+◌, ◌-◌, ◌/◌, ◌^◌, ◌<◌, ◌≤◌, List, [], ◌∷◌, ◌++◌, length, drop, get_or, inl, inr, replicate, leb, ltb, cond, Option, Some, None, Ok, refl, sym, ap, subst, ◌∙◌, arith, append_assoc, append-nil, length-append}
use Rattle.std.specs.List.{All, AllByRecursion}
use Rattle.std.specs.Option.{option_map_or, option_and_then, IfSome}
use Rattle.std.specs.declared.result.Result.TheVariants.{Err as Fault}
use Rattle.std.proofs.lemmas.Bool.{cases_lt, leb-true, le-leb, lt-leb, lt-ltb, le-ltb, cond-true, cond-false, cond_both}
use Rattle.std.proofs.lemmas.List.{length-drop, length-take-le, drop-drop, drop_at, append_cancel_left}
use Rattle.std.proofs.lemmas.List.Elements.{All-nil, All-cons, All-head, All-tail, All-drop, All-take, All-append, All-replicate, All-from_recursion, recursion_from_All}
use Rattle.std.proofs.lemmas.Nat.{mod_below}
use Rattle.std.specs.Int.{byte_at as digit}
use Rattle.std.proofs.lemmas.Option.{none-some, same_Some, cond_some, option_and_then_some, slice_get-get_or, slice_get_within}
use Rattle.ncp_wire.specs.Spelling.{spelling, spellings, IsByte, IsCommand, padded, error_of}
use Rattle.ncp_control.specs.Texts.{Reads, NoneBegins, fault_of, items_of, commands_among, fault_among, EndsAtFault}
use Rattle.ncp_control.specs.Reading.{sizes, size_of, byte_at, command_with, command_at, commands_within, commands_in, rest_in, fault_in, items_in}
use Rattle.ncp_wire.specs.declared.command.Command.{Command}
use Rattle.ncp_wire.specs.declared.command.Command.TheVariants.{Nop, Rts, Str, Cls, All as Allocate, Gvb, Ret, Inr, Ins, Eco, Erp, Err, Rst, Rrp}
use Rattle.ncp_wire.specs.declared.fault.CommandFault.{CommandFault}
use Rattle.ncp_control.proofs.Begins.{Begins, read_begins}
use Rattle.ncp_control.proofs.Again.{command_again}

-- ---- spellings

-- a command takes a byte at least
pub spelling_takes : (command : Command) → 0 < length (spelling command)
spelling_takes Nop = omega arith
spelling_takes (Rts receive send link) = omega arith
spelling_takes (Str send receive size) = omega arith
spelling_takes (Cls my your) = omega arith
spelling_takes (Allocate link messages bits) = omega arith
spelling_takes (Gvb link fm fb) = omega arith
spelling_takes (Ret link messages bits) = omega arith
spelling_takes (Inr link) = omega arith
spelling_takes (Ins link) = omega arith
spelling_takes (Eco byte) = omega arith
spelling_takes (Erp byte) = omega arith
spelling_takes (Err code bytes) = omega arith
spelling_takes Rst = omega arith
spelling_takes Rrp = omega arith

-- and no more than twelve
pub spelling_short : (command : Command) → IsCommand command → length (spelling command) ≤ 12
spelling_short Nop h = omega arith
spelling_short (Rts receive send link) h = omega arith
spelling_short (Str send receive size) h = omega arith
spelling_short (Cls my your) h = omega arith
spelling_short (Allocate link messages bits) h = omega arith
spelling_short (Gvb link fm fb) h = omega arith
spelling_short (Ret link messages bits) h = omega arith
spelling_short (Inr link) h = omega arith
spelling_short (Ins link) h = omega arith
spelling_short (Eco byte) h = omega arith
spelling_short (Erp byte) h = omega arith
spelling_short (Err code bytes) h = let ten : length bytes ≡ 10 = h.1 in omega arith
spelling_short Rst h = omega arith
spelling_short Rrp h = omega arith

digit_small : (offset number : ℕ) → digit offset number < 256
digit_small zero number = mod_below number 256 (omega arith)
digit_small (suc offset) number = mod_below (number / 256 ^ suc offset) 256 (omega arith)

short_small : {R : Type 0} (number : ℕ) → R → IsByte (digit 1 number) × (IsByte (digit 0 number) × R)
short_small number rest = (digit_small 1 number, (digit_small 0 number, rest))

word_small : {R : Type 0} (number : ℕ) → R → IsByte (digit 3 number) × (IsByte (digit 2 number) × (IsByte (digit 1 number) × (IsByte (digit 0 number) × R)))
word_small number rest = (digit_small 3 number, (digit_small 2 number, (digit_small 1 number, (digit_small 0 number, rest))))

each_small : (command : Command) → IsCommand command → AllByRecursion IsByte (spelling command)
each_small Nop h = (omega arith, tt)
each_small (Rts receive send link) h = (omega arith, word_small receive (word_small send (h.2, tt)))
each_small (Str send receive size) h = (omega arith, word_small send (word_small receive (h.2, tt)))
each_small (Cls my your) h = (omega arith, word_small my (word_small your tt))
each_small (Allocate link messages bits) h = (omega arith, (h.0, short_small messages (word_small bits tt)))
each_small (Gvb link fm fb) h = (omega arith, (h.0, (h.1, (h.2, tt))))
each_small (Ret link messages bits) h = (omega arith, (h.0, short_small messages (word_small bits tt)))
each_small (Inr link) h = (omega arith, (h, tt))
each_small (Ins link) h = (omega arith, (h, tt))
each_small (Eco byte) h = (omega arith, (h, tt))
each_small (Erp byte) h = (omega arith, (h, tt))
each_small (Err code bytes) h = (omega arith, (h.0, recursion_from_All IsByte bytes h.2))
each_small Rst h = (omega arith, tt)
each_small Rrp h = (omega arith, tt)

pub spelling_small : (command : Command) → IsCommand command → All IsByte (spelling command)
spelling_small command h = All-from_recursion IsByte (spelling command) (each_small command h)

pub spellings_small : (commands : List Command) → All IsCommand commands → All IsByte (spellings commands)
spellings_small [] each = All-nil IsByte
spellings_small (command ∷ commands) each =
    All-append IsByte (spelling command) (spellings commands)
    (spelling_small command (All-head IsCommand command commands each))
    (spellings_small commands (All-tail IsCommand command commands each))

-- no spelling begins another
pub one_spelling : (one other : Command) (x y : List ℕ) → IsCommand one → IsCommand other → spelling one ++ x ≡ spelling other ++ y → (one ≡ other) × (x ≡ y)
one_spelling one other x y h k e =
    let same : one ≡ other = same_Some one other (sym (command_again one x h) ∙ ap command_at e ∙ command_again other y k) in
    (same, append_cancel_left (spelling one) x y (e ∙ ap (λ command. spelling command ++ y) (sym same)))

-- ---- the command at the front

pub read_at : (bytes : List ℕ) (command : Command) → All IsByte bytes → command_at bytes ≡ Some command → Begins command (length (spelling command)) bytes
unfolding command_at
read_at [] command small e = absurd (none-some command e)
read_at (opcode ∷ bytes) command small e =
    option_and_then_some (λ size. cond (leb size (length (opcode ∷ bytes))) (Some (command_with opcode (opcode ∷ bytes))) None) (size_of opcode) command e (λ size is_size found.
    let parts = cond_some (leb size (length (opcode ∷ bytes))) (command_with opcode (opcode ∷ bytes)) command found in
    let begins : Begins (command_with opcode (opcode ∷ bytes)) size (opcode ∷ bytes) = read_begins (opcode ∷ bytes) small size is_size (leb-true size (length (opcode ∷ bytes)) parts.0) in
    let same : Begins command size (opcode ∷ bytes) = subst (λ read. Begins read size (opcode ∷ bytes)) parts.1 begins in
    record { fits = same.fits; takes = refl; front = same.front ∙ ap (λ n. spelling command ++ drop n (opcode ∷ bytes)) (sym same.takes) })

pub none_at : (bytes : List ℕ) → command_at bytes ≡ None → NoneBegins bytes
none_at bytes e command more fits joined = none-some command (sym e ∙ ap command_at joined ∙ command_again command more fits)

-- an opcode that no command has; a command whose bytes end early; one that is there
pub size_none : (bytes : List ℕ) → size_of (byte_at bytes 0) ≡ None → command_at bytes ≡ None
unfolding command_at
size_none [] none = refl
size_none (opcode ∷ bytes) none = ap (option_and_then (λ size. cond (leb size (length (opcode ∷ bytes))) (Some (command_with opcode (opcode ∷ bytes))) None)) none

pub size_short : (bytes : List ℕ) (size : ℕ) → size_of (byte_at bytes 0) ≡ Some size → length bytes < size → command_at bytes ≡ None
unfolding command_at
size_short [] size is_size short = refl
size_short (opcode ∷ bytes) size is_size short =
    ap (option_and_then (λ size. cond (leb size (length (opcode ∷ bytes))) (Some (command_with opcode (opcode ∷ bytes))) None)) is_size
    ∙ cond-false (leb size (length (opcode ∷ bytes))) (Some (command_with opcode (opcode ∷ bytes))) None (lt-leb size (length (opcode ∷ bytes)) short)

-- an opcode whose command is not there
pub size_over : (bytes : List ℕ) (left : ℕ) (found : Option ℕ) → length bytes ≡ left → size_of (byte_at bytes 0) ≡ found → IfSome found (λ size. left < size) → command_at bytes ≡ None
size_over bytes left None long none over = size_none bytes none
size_over bytes left (Some size) long is_size over = let short : left < size = over in size_short bytes size is_size (omega arith)

pub size_there : (bytes : List ℕ) (size : ℕ) → 0 < length bytes → size_of (byte_at bytes 0) ≡ Some size → size ≤ length bytes → command_at bytes ≡ Some (command_with (byte_at bytes 0) bytes)
unfolding command_at
size_there [] size some is_size there = absurd (omega arith)
size_there (opcode ∷ bytes) size some is_size there =
    ap (option_and_then (λ size. cond (leb size (length (opcode ∷ bytes))) (Some (command_with opcode (opcode ∷ bytes))) None)) is_size
    ∙ cond-true (leb size (length (opcode ∷ bytes))) (Some (command_with opcode (opcode ∷ bytes))) None (le-leb size (length (opcode ∷ bytes)) there)

-- ---- the commands of a text

map_or_same : (found : Option Command) (f g : Command → List Command) → ((command : Command) → f command ≡ g command) → option_map_or f found [] ≡ option_map_or g found []
map_or_same None f g h = refl
map_or_same (Some command) f g h = h command

within_nil : (n : ℕ) → commands_within n [] ≡ []
unfolding commands_within command_at
within_nil zero = refl
within_nil (suc n) = refl

-- behind a command there is less
shorter : (command : Command) (byte : ℕ) (bytes : List ℕ) (n : ℕ) → length bytes ≤ n → length (drop (length (spelling command)) (byte ∷ bytes)) ≤ n
shorter command byte bytes n h =
    let some : 0 < length (spelling command) = spelling_takes command in
    let l : length (drop (length (spelling command)) (byte ∷ bytes)) ≡ length (byte ∷ bytes) - length (spelling command) = length-drop (length (spelling command)) (byte ∷ bytes) in
    omega arith

-- a greater number of bytes at most changes nothing
enough : (n m : ℕ) (bytes : List ℕ) → length bytes ≤ n → length bytes ≤ m → commands_within n bytes ≡ commands_within m bytes
unfolding commands_within
enough n m [] h k = within_nil n ∙ sym (within_nil m)
enough zero m (byte ∷ bytes) h k = absurd (omega arith)
enough (suc n) zero (byte ∷ bytes) h k = absurd (omega arith)
enough (suc n) (suc m) (byte ∷ bytes) h k =
    map_or_same (command_at (byte ∷ bytes)) _ _ (λ command.
    ap (λ commands. command ∷ commands)
    (enough n m (drop (length (spelling command)) (byte ∷ bytes)) (shorter command byte bytes n (omega arith)) (shorter command byte bytes m (omega arith))))

pub commands_next : (bytes : List ℕ) (command : Command) → command_at bytes ≡ Some command → commands_in bytes ≡ command ∷ commands_in (drop (length (spelling command)) bytes)
unfolding commands_within command_at
commands_next [] command e = absurd (none-some command e)
commands_next (byte ∷ bytes) command e =
    let rest = drop (length (spelling command)) (byte ∷ bytes) in
    ap (λ found. option_map_or (λ command. command ∷ commands_within (length bytes) (drop (length (spelling command)) (byte ∷ bytes))) found []) e
    ∙ ap (λ commands. command ∷ commands) (enough (length bytes) (length rest) rest (shorter command byte bytes (length bytes) (omega arith)) (omega arith))

pub commands_none : (bytes : List ℕ) → command_at bytes ≡ None → commands_in bytes ≡ []
unfolding commands_within
commands_none [] e = refl
commands_none (byte ∷ bytes) e = ap (λ found. option_map_or (λ command. command ∷ commands_within (length bytes) (drop (length (spelling command)) (byte ∷ bytes))) found []) e

pub rest_next : (bytes : List ℕ) (command : Command) → command_at bytes ≡ Some command → rest_in bytes ≡ rest_in (drop (length (spelling command)) bytes)
rest_next bytes command e =
    let behind = spellings (commands_in (drop (length (spelling command)) bytes)) in
    ap (λ commands. drop (length (spellings commands)) bytes) (commands_next bytes command e)
    ∙ ap (λ n. drop n bytes) (length-append (spelling command) behind)
    ∙ sym (drop-drop (length behind) (length (spelling command)) bytes)

pub rest_none : (bytes : List ℕ) → command_at bytes ≡ None → rest_in bytes ≡ bytes
rest_none bytes e = ap (λ commands. drop (length (spellings commands)) bytes) (commands_none bytes e)

-- ---- that is the reading, and no other is

reads_next : (bytes : List ℕ) (command : Command) (commands : List Command) (rest : List ℕ) → Begins command (length (spelling command)) bytes → Reads (drop (length (spelling command)) bytes) commands rest → Reads bytes (command ∷ commands) rest
reads_next bytes command commands rest begins reads = record {
  joined = begins.front ∙ ap (λ xs. spelling command ++ xs) reads.joined ∙ sym (append_assoc (spelling command) (spellings commands) rest);
  each = All-cons IsCommand command commands begins.fits reads.each;
  longest = reads.longest;
}

reads_as : (bytes : List ℕ) (commands others : List Command) (rest more : List ℕ) → commands ≡ others → rest ≡ more → Reads bytes commands rest → Reads bytes others more
reads_as bytes commands others rest more e f reads = subst (λ xs. Reads bytes others xs) f (subst (λ xs. Reads bytes xs rest) e reads)

-- behind a command that was read there is less
read_shortens : (bytes : List ℕ) (command : Command) → Begins command (length (spelling command)) bytes → length (drop (length (spelling command)) bytes) < length bytes
read_shortens bytes command begins =
    let rest = drop (length (spelling command)) bytes in
    let some : 0 < length (spelling command) = spelling_takes command in
    let l : length bytes ≡ length (spelling command) + length rest = ap length begins.front ∙ length-append (spelling command) rest in
    omega arith

reads_found : (bytes : List ℕ) (found : Option Command) → All IsByte bytes → command_at bytes ≡ found
    → ((rest : List ℕ) → length rest < length bytes → All IsByte rest → Reads rest (commands_in rest) (rest_in rest))
    → Reads bytes (commands_in bytes) (rest_in bytes)
reads_found bytes None small e behind =
    reads_as bytes [] (commands_in bytes) bytes (rest_in bytes) (sym (commands_none bytes e)) (sym (rest_none bytes e))
    (record { joined = refl; each = All-nil IsCommand; longest = none_at bytes e })
reads_found bytes (Some command) small e behind =
    let rest = drop (length (spelling command)) bytes in
    let begins : Begins command (length (spelling command)) bytes = read_at bytes command small e in
    reads_as bytes (command ∷ commands_in rest) (commands_in bytes) (rest_in rest) (rest_in bytes) (sym (commands_next bytes command e)) (sym (rest_next bytes command e))
    (reads_next bytes command (commands_in rest) (rest_in rest) begins
    (behind rest (read_shortens bytes command begins) (All-drop IsByte (length (spelling command)) bytes small)))

reads_within : (n : ℕ) (bytes : List ℕ) → length bytes < n → All IsByte bytes → Reads bytes (commands_in bytes) (rest_in bytes)
reads_within zero bytes h small = absurd (omega arith)
reads_within (suc n) bytes h small =
    reads_found bytes (command_at bytes) small refl (λ rest fewer each. reads_within n rest (omega arith) each)

pub reads : (bytes : List ℕ) → All IsByte bytes → Reads bytes (commands_in bytes) (rest_in bytes)
reads bytes small = reads_within (suc (length bytes)) bytes (omega arith) small

-- where none begins, none is read
none_read : (bytes : List ℕ) (found : Option Command) → All IsByte bytes → NoneBegins bytes → command_at bytes ≡ found → command_at bytes ≡ None
none_read bytes None small none e = e
none_read bytes (Some command) small none e =
    let begins : Begins command (length (spelling command)) bytes = read_at bytes command small e in
    absurd (none command (drop (length (spelling command)) bytes) begins.fits begins.front)

-- a command and what is behind it
front_read : (bytes : List ℕ) (command : Command) (more : List ℕ) → IsCommand command → bytes ≡ spelling command ++ more
    → (command_at bytes ≡ Some command) × (drop (length (spelling command)) bytes ≡ more)
front_read bytes command more fits e =
    (ap command_at e ∙ command_again command more fits, ap (drop (length (spelling command))) e ∙ drop_at (spelling command) more (length (spelling command)) refl)

pub only : (commands : List Command) (bytes rest : List ℕ) → All IsByte bytes → Reads bytes commands rest → (commands_in bytes ≡ commands) × (rest_in bytes ≡ rest)
only [] bytes rest small reads =
    let none : command_at bytes ≡ None = none_read bytes (command_at bytes) small (subst NoneBegins (sym reads.joined) reads.longest) refl in
    (commands_none bytes none, rest_none bytes none ∙ reads.joined)
only (command ∷ commands) bytes rest small reads =
    let behind = spellings commands ++ rest in
    let front = front_read bytes command behind (All-head IsCommand command commands reads.each) (reads.joined ∙ append_assoc (spelling command) (spellings commands) rest) in
    let small_after : All IsByte behind = subst (All IsByte) front.1 (All-drop IsByte (length (spelling command)) bytes small) in
    let others = only commands behind rest small_after (record { joined = refl; each = All-tail IsCommand command commands reads.each; longest = reads.longest }) in (
      commands_next bytes command front.0 ∙ ap (λ xs. command ∷ commands_in xs) front.1 ∙ ap (λ xs. command ∷ xs) others.0,
      rest_next bytes command front.0 ∙ ap rest_in front.1 ∙ others.1,
    )

-- commands whose joined spellings begin a text are the first that are read
pub first_ones : (others : List Command) (bytes more : List ℕ) → All IsCommand others → bytes ≡ spellings others ++ more → (further : List Command) × (commands_in bytes ≡ others ++ further)
first_ones [] bytes more each e = (commands_in bytes, refl)
first_ones (other ∷ others) bytes more each e =
    let behind = spellings others ++ more in
    let front = front_read bytes other behind (All-head IsCommand other others each) (e ∙ append_assoc (spelling other) (spellings others) more) in
    let later = first_ones others behind more (All-tail IsCommand other others each) refl in
    (later.0, commands_next bytes other front.0 ∙ ap (λ xs. other ∷ commands_in xs) front.1 ∙ ap (λ xs. other ∷ xs) later.1)

-- what was spelled is read, and what follows is left
pub spelled : (commands : List Command) (tail : List ℕ) → All IsCommand commands → All IsByte tail → NoneBegins tail
    → (commands_in (spellings commands ++ tail) ≡ commands) × (fault_in (spellings commands ++ tail) ≡ fault_of tail)
spelled commands tail each small none =
    let one = only commands (spellings commands ++ tail) tail (All-append IsByte (spellings commands) tail (spellings_small commands each) small) (record { joined = refl; each = each; longest = none }) in
    (one.0, ap fault_of one.1)

nothing_begins : NoneBegins []
nothing_begins command more fits e =
    let some : 0 < length (spelling command) = spelling_takes command in
    let l : 0 ≡ length (spelling command) + length more = ap length e ∙ length-append (spelling command) more in
    absurd (omega arith)

pub spelled_alone : (commands : List Command) → All IsCommand commands → (commands_in (spellings commands) ≡ commands) × (fault_in (spellings commands) ≡ None)
spelled_alone commands each =
    let read = spelled commands [] each (All-nil IsByte) nothing_begins in
    (ap commands_in (sym (append-nil (spellings commands))) ∙ read.0, ap fault_in (sym (append-nil (spellings commands))) ∙ read.1)

-- ---- what a reader meets

pub items_nil : items_in [] ≡ []
unfolding items_in commands_within
items_nil = refl

pub items_next : (bytes : List ℕ) (command : Command) → command_at bytes ≡ Some command → items_in bytes ≡ Ok command ∷ items_in (drop (length (spelling command)) bytes)
unfolding items_in
items_next bytes command e =
    ap (λ commands. items_of commands (fault_of (rest_in bytes))) (commands_next bytes command e)
    ∙ ap (λ rest. items_of (command ∷ commands_in (drop (length (spelling command)) bytes)) (fault_of rest)) (rest_next bytes command e)

pub items_fault : (bytes : List ℕ) (fault : CommandFault) → command_at bytes ≡ None → fault_of bytes ≡ Some fault → items_in bytes ≡ Fault fault ∷ []
unfolding items_in
items_fault bytes fault e is =
    ap (λ commands. items_of commands (fault_of (rest_in bytes))) (commands_none bytes e)
    ∙ ap (λ rest. items_of [] (fault_of rest)) (rest_none bytes e)
    ∙ ap (items_of []) is

commands_of-items_of : (commands : List Command) (fault : Option CommandFault) → commands_among (items_of commands fault) ≡ commands
commands_of-items_of [] None = refl
commands_of-items_of [] (Some fault) = refl
commands_of-items_of (command ∷ commands) fault = ap (λ xs. command ∷ xs) (commands_of-items_of commands fault)

fault_among-items_of : (commands : List Command) (fault : Option CommandFault) → fault_among (items_of commands fault) ≡ fault
fault_among-items_of [] None = refl
fault_among-items_of [] (Some fault) = refl
fault_among-items_of (command ∷ commands) fault = fault_among-items_of commands fault

EndsAtFault-items_of : (commands : List Command) (fault : Option CommandFault) → EndsAtFault (items_of commands fault)
EndsAtFault-items_of [] None = tt
EndsAtFault-items_of [] (Some fault) = refl
EndsAtFault-items_of (command ∷ commands) fault = EndsAtFault-items_of commands fault

pub last_met : (bytes : List ℕ) → EndsAtFault (items_in bytes)
unfolding items_in
last_met bytes = EndsAtFault-items_of (commands_in bytes) (fault_in bytes)

pub commands_met : (bytes : List ℕ) → commands_among (items_in bytes) ≡ commands_in bytes
unfolding items_in
commands_met bytes = commands_of-items_of (commands_in bytes) (fault_in bytes)

pub fault_met : (bytes : List ℕ) → fault_among (items_in bytes) ≡ fault_in bytes
unfolding items_in
fault_met bytes = fault_among-items_of (commands_in bytes) (fault_in bytes)

-- each item takes a byte at least
items_found : (bytes : List ℕ) (found : Option Command) → All IsByte bytes → command_at bytes ≡ found
    → ((rest : List ℕ) → length rest < length bytes → All IsByte rest → length (items_in rest) ≤ length rest)
    → length (items_in bytes) ≤ length bytes
items_found [] found small e behind = let l : length (items_in []) ≡ 0 = ap length items_nil in omega arith
items_found (opcode ∷ bytes) None small e behind =
    let l : length (items_in (opcode ∷ bytes)) ≡ 1 = ap length (items_fault (opcode ∷ bytes) _ e refl) in omega arith
items_found (opcode ∷ bytes) (Some command) small e behind =
    let rest = drop (length (spelling command)) (opcode ∷ bytes) in
    let fewer : length rest < length (opcode ∷ bytes) = read_shortens (opcode ∷ bytes) command (read_at (opcode ∷ bytes) command small e) in
    let l : length (items_in (opcode ∷ bytes)) ≡ suc (length (items_in rest)) = ap length (items_next (opcode ∷ bytes) command e) in
    let few : length (items_in rest) ≤ length rest = behind rest fewer (All-drop IsByte (length (spelling command)) (opcode ∷ bytes) small) in
    omega arith

items_within : (n : ℕ) (bytes : List ℕ) → length bytes < n → All IsByte bytes → length (items_in bytes) ≤ length bytes
items_within zero bytes h small = absurd (omega arith)
items_within (suc n) bytes h small =
    items_found bytes (command_at bytes) small refl (λ rest fewer each. items_within n rest (omega arith) each)

pub items_are_few : (bytes : List ℕ) → All IsByte bytes → length (items_in bytes) ≤ length bytes
items_are_few bytes small = items_within (suc (length bytes)) bytes (omega arith) small

-- ---- errors

padded_ten : (bytes : List ℕ) → All IsByte bytes → (length (padded 10 bytes) ≡ 10) × All IsByte (padded 10 bytes)
padded_ten bytes small = (
  length-take-le 10 (bytes ++ replicate 10 0) (simp length-append (omega arith)),
  All-take IsByte 10 (bytes ++ replicate 10 0) (All-append IsByte bytes (replicate 10 0) small (All-replicate IsByte 10 0 (omega arith))),
)

pub error_about : (code : ℕ) (command : Command) → IsByte code → IsCommand command → IsCommand (error_of code command)
error_about code command h fits = let ten = padded_ten (spelling command) (spelling_small command fits) in (h, ten.0, ten.1)

fault_small : (rest : List ℕ) (fault : CommandFault) → All IsByte rest → fault_of rest ≡ Some fault → IsCommand (Err fault.code fault.bytes)
fault_small [] fault small e = absurd (none-some fault e)
fault_small (opcode ∷ bytes) fault small e =
    let ten = padded_ten (opcode ∷ bytes) small in
    subst (λ read. IsCommand (Err read.code read.bytes)) (same_Some _ fault e)
    (cond_both (ltb 13 opcode) 1 2 (λ n. n < 256) (λ t. omega arith) (λ t. omega arith), ten.0, ten.1)

pub error_at_fault : (bytes : List ℕ) (fault : CommandFault) → All IsByte bytes → fault_in bytes ≡ Some fault → IsCommand (Err fault.code fault.bytes)
error_at_fault bytes fault small e = fault_small (rest_in bytes) fault (All-drop IsByte (length (spellings (commands_in bytes))) bytes small) e

-- ---- the fault of a text

pub fault_nil : fault_in [] ≡ None
unfolding commands_within
fault_nil = refl

-- behind a command the same fault is still to come
pub fault_next : (bytes : List ℕ) (size : ℕ) → All IsByte bytes → size_of (byte_at bytes 0) ≡ Some size → 0 < size → size ≤ length bytes → fault_in bytes ≡ fault_in (drop size bytes)
fault_next bytes size small is_size some there =
    let command = command_with (byte_at bytes 0) bytes in
    let begins : Begins command size bytes = read_begins bytes small size is_size there in
    ap fault_of (rest_next bytes command (size_there bytes size (omega arith) is_size there))
    ∙ ap (λ n. fault_in (drop n bytes)) begins.takes

-- the fault at an opcode whose command is not there, by its code
abbrev pub code_at : ℕ → ℕ
code_at opcode = cond (ltb 13 opcode) 1 2

pub code_unknown : (opcode : ℕ) → size_of opcode ≡ None → code_at opcode ≡ 1
code_unknown opcode none = elim (cases_lt opcode 14) [
  | inl h ↦ absurd (none-some (get_or sizes opcode 0) (sym none ∙ slice_get-get_or sizes opcode 0 h))
  | inr h ↦ cond-true (ltb 13 opcode) 1 2 (lt-ltb 13 opcode (omega arith))
]

pub code_short : (opcode size : ℕ) → size_of opcode ≡ Some size → code_at opcode ≡ 2
code_short opcode size is_size =
    let few : opcode < 14 = slice_get_within sizes opcode size is_size in
    cond-false (ltb 13 opcode) 1 2 (le-ltb 13 opcode (omega arith))

abbrev pub fault_with : ℕ → List ℕ → CommandFault
fault_with code shown = record { code = code; bytes = shown }

pub fault_front : (bytes : List ℕ) (code : ℕ) → 0 < length bytes → code_at (byte_at bytes 0) ≡ code → fault_of bytes ≡ Some (fault_with code (padded 10 bytes))
fault_front [] code some is = absurd (omega arith)
fault_front (opcode ∷ bytes) code some is = ap (λ code. Some (fault_with code (padded 10 (opcode ∷ bytes)))) is

-- where no command is, the fault is there
pub fault_here : (bytes : List ℕ) (fault : CommandFault) → command_at bytes ≡ None → fault_of bytes ≡ Some fault → fault_in bytes ≡ Some fault
fault_here bytes fault none is = ap fault_of (rest_none bytes none) ∙ is
