-- How the work of one end changes, act by act.
use Rattle.std.proofs.Common.{◌≡◌, ◌==◌, ℕ, zero, suc, sym, ap, ◌∙◌, mul_comm, mul-add, mul-one, mod-lt, div-lt_iff_lt-mul, ◌%◌, ◌<◌, le_trans, mul-le-mul_right, div-mul-le_self, ◌+◌, ◌*◌, ◌/◌, drop, ◌≤◌, Bool, true, false, List, length, Option, None, Some, refl, arith, length-append, length-drop}
use Rattle.std.proofs.lemmas.Bool.{eqb-true}
use Rattle.std.proofs.Math.Nat.{div-zero, zero-div, mod-add-div, add-mul-div_left}
use Rattle.ncp_model.specs.declared.pair.Pair.{Pair}
use Rattle.ncp_model.specs.Endpoint.{Endpoint}
use Rattle.ncp_model.specs.Texts.{Rfnm, Incomplete, Dead}
use Rattle.ncp_model.specs.EndpointEvents.{EndpointEvent, happens}
use Rattle.ncp_proof_progress.specs.Work.{queue_work, end_work_at, happened_work, work_added, takes_away}

-- what is claimed of a happening
abbrev pub Paid : Pair → EndpointEvent → Option Endpoint → Type 0
Paid pair what before = happened_work pair (happens pair what before) + takes_away (happens pair what before).outcome ≤ end_work_at pair before + work_added pair what before

-- a text that goes out takes a byte at least
cut-takes : (s : List Bool) (size n : ℕ) → 1 ≤ n → n ≤ length s / size → 2 * (length (drop (n * size) s) / size) + 2 ≤ 2 * (length s / size)
cut-takes s zero n h k = let z : length s / 0 ≡ 0 = div-zero (length s) in absurd (omega (arith, h, k, z))
cut-takes s (suc size) n h k =
    let within : n * suc size ≤ length s = le_trans (mul-le-mul_right (suc size) k) (div-mul-le_self (length s) (suc size)) in
    let whole : (length (drop (n * suc size) s) + suc size * n) / suc size ≡ length (drop (n * suc size) s) / suc size + n = add-mul-div_left (length (drop (n * suc size) s)) n (omega arith) in
    let parts : length (drop (n * suc size) s) + suc size * n ≡ length s = rw (length-drop, mul_comm (suc size) n) (omega (arith, within)) in
    let sum : length s / suc size ≡ length (drop (n * suc size) s) / suc size + n = ap (λ (i : ℕ). i / suc size) (sym parts) ∙ whole in
    omega (arith, sum, h)

-- so many bits more are so many bytes more at most
bits-add : (a b size : ℕ) → (a + b) / size ≤ a / size + b
bits-add a b zero = let z = div-zero (a + b) in omega (arith, z)
bits-add a b (suc size) =
    let more : a + b ≤ a + suc size * b = let h : 1 * b ≤ suc size * b = mul-le-mul_right b (omega arith) in omega (arith, h) in
    let parts : a % suc size + suc size * (a / suc size) ≡ a = mod-add-div a (suc size) in
    let small : a % suc size < suc size = mod-lt a (omega arith) in
    let far : suc size * (a / suc size + b + 1) ≡ suc size * (a / suc size) + suc size * b + suc size = mul-add (suc size) (a / suc size + b) 1 ∙ ap (λ (i : ℕ). i + suc size * 1) (mul-add (suc size) (a / suc size) b) ∙ ap (λ (i : ℕ). suc size * (a / suc size) + suc size * b + i) (mul-one (suc size)) in
    let turn : (a / suc size + b + 1) * suc size ≡ suc size * (a / suc size + b + 1) = mul_comm (a / suc size + b + 1) (suc size) in
    let below : a + b < (a / suc size + b + 1) * suc size = omega (arith, more, parts, small, far, turn) in
    let some : 0 < suc size = omega arith in
    let lt : (a + b) / suc size < a / suc size + b + 1 = (div-lt_iff_lt-mul some).1 below in
    omega (arith, lt)

-- whole bytes are as many bytes more
bytes-add : (a b size : ℕ) → b % size ≡ 0 → (a + b) / size ≤ a / size + b / size
bytes-add a b zero whole = let z = div-zero (a + b) in omega (arith, z)
bytes-add a b (suc size) whole =
    let parts : b % suc size + suc size * (b / suc size) ≡ b = mod-add-div b (suc size) in
    let times : suc size * (b / suc size) ≡ b = omega (arith, parts, whole) in
    let sum : (a + suc size * (b / suc size)) / suc size ≡ a / suc size + b / suc size = add-mul-div_left a (b / suc size) (omega arith) in
    let same : (a + b) / suc size ≡ a / suc size + b / suc size = ap (λ (i : ℕ). (a + i) / suc size) (sym times) ∙ sum in
    omega (arith, same)

asks-to-send : (pair : Pair) (of_size : ℕ) (with_room : ℕ) (own : ℕ) (full : Bool) (e : Endpoint) → Paid pair (EndpointEvent.Asks_to_send of_size with_room own full) (Some e)
unfolding queue_work
asks-to-send pair of_size with_room own full e = grind (arith, zero-div)

asks-to-receive : (pair : Pair) (with_room : ℕ) (on : ℕ) (own : ℕ) (full : Bool) (e : Endpoint) → Paid pair (EndpointEvent.Asks_to_receive with_room on own full) (Some e)
unfolding queue_work
asks-to-receive pair with_room on own full e = go e.asked e.left e.leaving refl refl refl
  where
    go : (a l g : Bool) → e.asked ≡ a → e.left ≡ l → e.leaving ≡ g → Paid pair (EndpointEvent.Asks_to_receive with_room on own full) (Some e)
    go true true true p q r = grind (arith, zero-div)
    go true true false p q r = grind (arith, zero-div)
    go true false true p q r = grind (arith, zero-div)
    go true false false p q r = grind (arith, zero-div)
    go false true true p q r = grind (arith, zero-div)
    go false true false p q r = grind (arith, zero-div)
    go false false true p q r = grind (arith, zero-div)
    go false false false p q r = grind (arith, zero-div)

closes : (pair : Pair) (full : Bool) (e : Endpoint) → Paid pair (EndpointEvent.Closes full) (Some e)
unfolding queue_work
closes pair full e = grind (arith, zero-div)

gives : (pair : Pair) (text : List Bool) (e : Endpoint) → Paid pair (EndpointEvent.Gives text) (Some e)
unfolding queue_work
gives pair text e = go (length text % e.size == 0) refl
  where
    go : (b : Bool) → (length text % e.size == 0) ≡ b → Paid pair (EndpointEvent.Gives text) (Some e)
    go false q = grind (arith, zero-div)
    go true q =
        let w : length text % e.size ≡ 0 = eqb-true (length text % e.size) 0 q in
        let h : (length e.stored + length text) / e.size ≤ length e.stored / e.size + length text / e.size = bytes-add (length e.stored) (length text) e.size w in
        grind (arith, length-append, h)

takes : (pair : Pair) (bytes : ℕ) (e : Endpoint) → Paid pair (EndpointEvent.Takes bytes) (Some e)
unfolding queue_work
takes pair bytes e = grind (arith, zero-div, length-drop)

allocates : (pair : Pair) (m : ℕ) (b : ℕ) (full : Bool) (e : Endpoint) → Paid pair (EndpointEvent.Allocates m b full) (Some e)
unfolding queue_work
allocates pair m b full e = grind (arith, zero-div)

calls-back : (pair : Pair) (m : ℕ) (b : ℕ) (full : Bool) (e : Endpoint) → Paid pair (EndpointEvent.Calls_back m b full) (Some e)
unfolding queue_work
calls-back pair m b full e = grind (arith, zero-div)

interrupts : (pair : Pair) (full : Bool) (e : Endpoint) → Paid pair (EndpointEvent.Interrupts full) (Some e)
unfolding queue_work
interrupts pair full e = grind (arith, zero-div)

rts-comes : (pair : Pair) (on : ℕ) (taken : Bool) (by_peer : ℕ) (e : Endpoint) → Paid pair (EndpointEvent.Rts_comes on taken by_peer) (Some e)
unfolding queue_work
rts-comes pair on taken by_peer e = grind (arith, zero-div)

str-comes : (pair : Pair) (of_size : ℕ) (by_peer : ℕ) (e : Endpoint) → Paid pair (EndpointEvent.Str_comes of_size by_peer) (Some e)
unfolding queue_work
str-comes pair of_size by_peer e = grind (arith, zero-div)

cls-comes : (pair : Pair) (e : Endpoint) → Paid pair EndpointEvent.Cls_comes (Some e)
unfolding queue_work
cls-comes pair e = grind (arith, zero-div)

all-comes : (pair : Pair) (on : ℕ) (m : ℕ) (b : ℕ) (e : Endpoint) → Paid pair (EndpointEvent.All_comes on m b) (Some e)
unfolding queue_work
all-comes pair on m b e = grind (arith, zero-div)

gvb-comes : (pair : Pair) (on : ℕ) (m : ℕ) (b : ℕ) (e : Endpoint) → Paid pair (EndpointEvent.Gvb_comes on m b) (Some e)
unfolding queue_work
gvb-comes pair on m b e = grind (arith, zero-div)

ret-comes : (pair : Pair) (on : ℕ) (m : ℕ) (b : ℕ) (e : Endpoint) → Paid pair (EndpointEvent.Ret_comes on m b) (Some e)
unfolding queue_work
ret-comes pair on m b e = grind (arith, zero-div)

inr-comes : (pair : Pair) (on : ℕ) (e : Endpoint) → Paid pair (EndpointEvent.Inr_comes on) (Some e)
unfolding queue_work
inr-comes pair on e = grind (arith, zero-div)

ins-comes : (pair : Pair) (on : ℕ) (e : Endpoint) → Paid pair (EndpointEvent.Ins_comes on) (Some e)
unfolding queue_work
ins-comes pair on e = grind (arith, zero-div)

text-comes : (pair : Pair) (head : List Bool) (of_size : ℕ) (text : List Bool) (e : Endpoint) → Paid pair (EndpointEvent.Text_comes head of_size text) (Some e)
unfolding queue_work
text-comes pair head of_size text e = grind (arith, zero-div, length-append, bits-add)

text-goes-out : (pair : Pair) (e : Endpoint) → Paid pair EndpointEvent.Text_goes_out (Some e)
unfolding queue_work
text-goes-out pair e = grind (arith, zero-div, cut-takes)

is-answered-rfnm : (pair : Pair) (e : Endpoint) → Paid pair (EndpointEvent.Is_answered Rfnm) (Some e)
unfolding queue_work
is-answered-rfnm pair e = grind (arith, zero-div)

is-answered-incomplete : (pair : Pair) (e : Endpoint) → Paid pair (EndpointEvent.Is_answered Incomplete) (Some e)
unfolding queue_work
is-answered-incomplete pair e = grind (arith, zero-div)

is-answered-dead : (pair : Pair) (e : Endpoint) → Paid pair (EndpointEvent.Is_answered Dead) (Some e)
unfolding queue_work
is-answered-dead pair e = grind (arith, zero-div)

is-cleared : (pair : Pair) (e : Endpoint) → Paid pair EndpointEvent.Is_cleared (Some e)
unfolding queue_work
is-cleared pair e = grind (arith, zero-div)

pub paid : (pair : Pair) (what : EndpointEvent) (before : Option Endpoint) → Paid pair what before
unfolding queue_work
paid pair (EndpointEvent.Asks_to_send of_size with_room own full) None = grind (arith, zero-div)
paid pair (EndpointEvent.Asks_to_send of_size with_room own full) (Some e) = asks-to-send pair of_size with_room own full e
paid pair (EndpointEvent.Asks_to_receive with_room on own full) None = grind (arith, zero-div)
paid pair (EndpointEvent.Asks_to_receive with_room on own full) (Some e) = asks-to-receive pair with_room on own full e
paid pair (EndpointEvent.Closes full) None = grind (arith, zero-div)
paid pair (EndpointEvent.Closes full) (Some e) = closes pair full e
paid pair (EndpointEvent.Gives text) None = grind (arith, zero-div)
paid pair (EndpointEvent.Gives text) (Some e) = gives pair text e
paid pair (EndpointEvent.Takes bytes) None = grind (arith, zero-div)
paid pair (EndpointEvent.Takes bytes) (Some e) = takes pair bytes e
paid pair (EndpointEvent.Allocates m b full) None = grind (arith, zero-div)
paid pair (EndpointEvent.Allocates m b full) (Some e) = allocates pair m b full e
paid pair (EndpointEvent.Calls_back m b full) None = grind (arith, zero-div)
paid pair (EndpointEvent.Calls_back m b full) (Some e) = calls-back pair m b full e
paid pair (EndpointEvent.Interrupts full) None = grind (arith, zero-div)
paid pair (EndpointEvent.Interrupts full) (Some e) = interrupts pair full e
paid pair (EndpointEvent.Rts_comes on taken by_peer) None = grind (arith, zero-div)
paid pair (EndpointEvent.Rts_comes on taken by_peer) (Some e) = rts-comes pair on taken by_peer e
paid pair (EndpointEvent.Str_comes of_size by_peer) None = grind (arith, zero-div)
paid pair (EndpointEvent.Str_comes of_size by_peer) (Some e) = str-comes pair of_size by_peer e
paid pair EndpointEvent.Cls_comes None = grind (arith, zero-div)
paid pair EndpointEvent.Cls_comes (Some e) = cls-comes pair e
paid pair (EndpointEvent.All_comes on m b) None = grind (arith, zero-div)
paid pair (EndpointEvent.All_comes on m b) (Some e) = all-comes pair on m b e
paid pair (EndpointEvent.Gvb_comes on m b) None = grind (arith, zero-div)
paid pair (EndpointEvent.Gvb_comes on m b) (Some e) = gvb-comes pair on m b e
paid pair (EndpointEvent.Ret_comes on m b) None = grind (arith, zero-div)
paid pair (EndpointEvent.Ret_comes on m b) (Some e) = ret-comes pair on m b e
paid pair (EndpointEvent.Inr_comes on) None = grind (arith, zero-div)
paid pair (EndpointEvent.Inr_comes on) (Some e) = inr-comes pair on e
paid pair (EndpointEvent.Ins_comes on) None = grind (arith, zero-div)
paid pair (EndpointEvent.Ins_comes on) (Some e) = ins-comes pair on e
paid pair (EndpointEvent.Text_comes head of_size text) None = grind (arith, zero-div)
paid pair (EndpointEvent.Text_comes head of_size text) (Some e) = text-comes pair head of_size text e
paid pair EndpointEvent.Text_goes_out None = grind (arith, zero-div)
paid pair EndpointEvent.Text_goes_out (Some e) = text-goes-out pair e
paid pair (EndpointEvent.Is_answered Rfnm) None = grind (arith, zero-div)
paid pair (EndpointEvent.Is_answered Rfnm) (Some e) = is-answered-rfnm pair e
paid pair (EndpointEvent.Is_answered Incomplete) None = grind (arith, zero-div)
paid pair (EndpointEvent.Is_answered Incomplete) (Some e) = is-answered-incomplete pair e
paid pair (EndpointEvent.Is_answered Dead) None = grind (arith, zero-div)
paid pair (EndpointEvent.Is_answered Dead) (Some e) = is-answered-dead pair e
paid pair EndpointEvent.Is_cleared None = grind (arith, zero-div)
paid pair EndpointEvent.Is_cleared (Some e) = is-cleared pair e
