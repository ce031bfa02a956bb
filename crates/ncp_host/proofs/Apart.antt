-- What is saved tells things apart: where what is saved of one thing and of another begin the same bytes, the
-- things are the same, and so is what is behind them.
use Rattle.std.proofs.Common.{true≢false, ◌≡◌, ◌≢◌, ℕ, ◌+◌, ◌*◌, ◌/◌, ◌%◌, Bool, true, false, if◌then◌else◌, List, [], ◌∷◌, ◌++◌, length, take, drop, replicate, None, Some, refl, sym, ap, ap₂, ◌∙◌, arith, ◌==◌, ◌||◌, inl, inr}
use Rattle.std.specs.List.{list_any, AllZip}
use Rattle.std.specs.FinMap.{entries, same_entries_map}
use Rattle.std.proofs.lemmas.List.{append_assoc, append_cancel_right}
use Rattle.std.proofs.lemmas.List.FromFn.{length-map-range_with_len}
use Rattle.std.proofs.lemmas.Bool.Decides.{eqb_tells}
use Rattle.std.proofs.Math.Seq.{drop-append_seam, take-append_seam}
use Rattle.std.proofs.Math.Nat.{div-add-mod}
use Rattle.ncp_numbers.specs.Bytes.{bytes_of, bits_of_bytes, bytes_for, spare_for}
use Rattle.ncp_numbers.proofs.Packing.{bits_of_bytes-bytes_of}
use Rattle.ncp_wire.specs.declared.command.Command.{Command}
use Rattle.ncp_wire.specs.declared.command.Command.TheVariants.{Nop, Rts, Str, Cls, All, Gvb, Ret, Inr, Ins, Eco, Erp, Err, Rst, Rrp}
use Rattle.ncp_model.specs.declared.pair.Pair.{Pair}
use Rattle.ncp_slot.specs.declared.slot.Slot.TheVariants.{Empty, Ready, Travelling, Held}
use Rattle.ncp_slot.specs.Slots.{LinkSlots, slot_at}
use Rattle.ncp_model.specs.Endpoint.{Endpoint}
use Rattle.ncp_peer.specs.PeerState.{PeerState}
use Rattle.ncp_peer.specs.Output.{links}
use Rattle.ncp_host.specs.Host.{Host, numbers_of}
use Rattle.ncp_saved.specs.Values.{two_bytes, four_bytes, mark, listed, bits_saved, command_saved, error_saved, echoed_saved, pair_saved}
use Rattle.ncp_phase.specs.SavedPhase.{phase_saved, echoes_saved}
use Rattle.ncp_peer.specs.SavedPeer.{end_saved, connection_saved, ends_saved, slot_saved, slots_on, slots_saved, counts_saved, state_saved, AreAlike}
use Rattle.ncp_host.specs.Saved.{ignored_saved, peer_saved, saved, AreAlikeHosts}
use Rattle.ncp_host.proofs.Restarting.{in_links}

abbrev pub Apart : {A : Type 0} → (A → List ℕ) → Type 0
Apart {A} saved = (a b : A) (r s : List ℕ) → saved a ++ r ≡ saved b ++ s → (a ≡ b) × (r ≡ s)

-- the first of some bytes, and what is behind it

head_of : List ℕ → ℕ
head_of [] = 0
head_of (x ∷ xs) = x

tail_of : List ℕ → List ℕ
tail_of [] = []
tail_of (x ∷ xs) = xs

pub byte_distinct : (x y : ℕ) (r s : List ℕ) → x ∷ r ≡ y ∷ s → (x ≡ y) × (r ≡ s)
unfolding head_of tail_of
byte_distinct x y r s e = (ap head_of e, ap tail_of e)

-- two bytes that are not the same
differ : (x y : ℕ) (r s : List ℕ) → x ≢ y → x ∷ r ≡ y ∷ s → ⊥
differ x y r s other e = other (byte_distinct x y r s e).0

-- one thing behind the other
pub both_distinct : {A B : Type 0} (f : A → List ℕ) (g : B → List ℕ) → Apart f → Apart g
    → (a c : A) (b d : B) (r s : List ℕ) → (f a ++ g b) ++ r ≡ (f c ++ g d) ++ s → (a ≡ c) × (b ≡ d) × (r ≡ s)
both_distinct f g fs gs a c b d r s e =
    let first : (a ≡ c) × (g b ++ r ≡ g d ++ s) = fs a c (g b ++ r) (g d ++ s) (sym (append_assoc (f a) (g b) r) ∙ e ∙ append_assoc (f c) (g d) s) in
    let second : (b ≡ d) × (r ≡ s) = gs b d r s first.1 in
    (first.0, second.0, second.1)

-- Numbers and marks.

pub joined_distinct : (m a b : ℕ) → a / m ≡ b / m → a % m ≡ b % m → a ≡ b
joined_distinct m a b high low = sym (div-add-mod a m) ∙ ap₂ (λ h l. m * h + l) high low ∙ div-add-mod b m

pub two_distinct : Apart two_bytes
two_distinct a b r s e =
    let high : (a / 256 ≡ b / 256) × (a % 256 ∷ r ≡ b % 256 ∷ s) = byte_distinct _ _ _ _ e in
    let low : (a % 256 ≡ b % 256) × (r ≡ s) = byte_distinct _ _ _ _ high.1 in
    (joined_distinct 256 a b high.0 low.0, low.1)

pub four_distinct : Apart four_bytes
four_distinct a b r s e =
    let high : (a / 65536 ≡ b / 65536) × (two_bytes (a % 65536) ++ r ≡ two_bytes (b % 65536) ++ s) = two_distinct _ _ (two_bytes (a % 65536) ++ r) (two_bytes (b % 65536) ++ s) e in
    let low : (a % 65536 ≡ b % 65536) × (r ≡ s) = two_distinct _ _ r s high.1 in
    (joined_distinct 65536 a b high.0 low.0, low.1)

pub mark_distinct : (x y : Bool) (r s : List ℕ) → mark x ∷ r ≡ mark y ∷ s → (x ≡ y) × (r ≡ s)
mark_distinct true true r s e = (refl, (byte_distinct 1 1 r s e).1)
mark_distinct false false r s e = (refl, (byte_distinct 0 0 r s e).1)
mark_distinct true false r s e = absurd (differ 1 0 r s (omega arith) e)
mark_distinct false true r s e = absurd (differ 0 1 r s (omega arith) e)

-- Things in a row.

pub listed_distinct : {A : Type 0} (f : A → List ℕ) → Apart f → Apart (listed f)
unfolding listed
listed_distinct f fs [] [] r s e = (refl, (byte_distinct 0 0 r s e).1)
listed_distinct f fs [] (y ∷ ys) r s e = absurd (differ 0 1 r ((f y ++ listed f ys) ++ s) (omega arith) e)
listed_distinct f fs (x ∷ xs) [] r s e = absurd (differ 1 0 ((f x ++ listed f xs) ++ r) s (omega arith) e)
listed_distinct {A} f fs (x ∷ xs) (y ∷ ys) r s e =
    let rest : (f x ++ listed f xs) ++ r ≡ (f y ++ listed f ys) ++ s = (byte_distinct 1 1 _ _ e).1 in
    let first : (x ≡ y) × (listed f xs ++ r ≡ listed f ys ++ s) = fs x y _ _ (sym (append_assoc (f x) (listed f xs) r) ∙ rest ∙ append_assoc (f y) (listed f ys) s) in
    let others : (xs ≡ ys) × (r ≡ s) = listed_distinct f fs xs ys r s first.1 in
    (ap₂ (λ (z : A) zs. z ∷ zs) first.0 others.0, others.1)

-- Bytes and bits of which the number is known.

pub same_long : (n : ℕ) (a b r s : List ℕ) → length a ≡ n → length b ≡ n → a ++ r ≡ b ++ s → (a ≡ b) × (r ≡ s)
same_long n a b r s la lb e =
    (sym (take-append_seam a r) ∙ ap₂ take (la ∙ sym lb) e ∙ take-append_seam b s, sym (drop-append_seam a r) ∙ ap₂ drop (la ∙ sym lb) e ∙ drop-append_seam b s)

length-bytes_of : (bits : List Bool) → length (bytes_of bits) ≡ bytes_for (length bits)
unfolding bytes_of
length-bytes_of bits = length-map-range_with_len _ 0 (bytes_for (length bits))

whole_distinct : (a b : List Bool) → length a ≡ length b → bytes_of a ≡ bytes_of b → a ≡ b
whole_distinct a b len e = append_cancel_right a b (replicate (spare_for (length a)) false) (
    sym (bits_of_bytes-bytes_of a) ∙ ap bits_of_bytes e ∙ bits_of_bytes-bytes_of b ∙ ap (λ n. b ++ replicate (spare_for n) false) (sym len))

pub bits_distinct : Apart bits_saved
unfolding bits_saved
bits_distinct a b r s e =
    let count : (length a ≡ length b) × (bytes_of a ++ r ≡ bytes_of b ++ s) = four_distinct (length a) (length b) (bytes_of a ++ r) (bytes_of b ++ s) e in
    let bytes : (bytes_of a ≡ bytes_of b) × (r ≡ s) = same_long _ _ _ r s (length-bytes_of a) (length-bytes_of b ∙ ap bytes_for (sym count.0)) count.1 in
    (whole_distinct a b count.0 bytes.0, bytes.1)

-- Commands: each is read back from what is saved of it.

two_in : List ℕ → ℕ × List ℕ
two_in (a ∷ b ∷ rest) = (256 * a + b, rest)
two_in rest = (0, [])

four_in : List ℕ → ℕ × List ℕ
four_in bytes =
    let high = two_in bytes in
    let low = two_in high.1 in
    (65536 * high.0 + low.0, low.1)

byte_in : List ℕ → ℕ × List ℕ
byte_in bytes = (head_of bytes, tail_of bytes)

command_with : ℕ → List ℕ → Command × List ℕ
command_with opcode bytes =
    if opcode == 0 then (Nop, bytes)
    else if opcode == 1 then (let a = four_in bytes in let b = four_in a.1 in let c = byte_in b.1 in (Rts a.0 b.0 c.0, c.1))
    else if opcode == 2 then (let a = four_in bytes in let b = four_in a.1 in let c = byte_in b.1 in (Str a.0 b.0 c.0, c.1))
    else if opcode == 3 then (let a = four_in bytes in let b = four_in a.1 in (Cls a.0 b.0, b.1))
    else if opcode == 4 then (let a = byte_in bytes in let b = two_in a.1 in let c = four_in b.1 in (All a.0 b.0 c.0, c.1))
    else if opcode == 5 then (let a = byte_in bytes in let b = byte_in a.1 in let c = byte_in b.1 in (Gvb a.0 b.0 c.0, c.1))
    else if opcode == 6 then (let a = byte_in bytes in let b = two_in a.1 in let c = four_in b.1 in (Ret a.0 b.0 c.0, c.1))
    else if opcode == 7 then (let a = byte_in bytes in (Inr a.0, a.1))
    else if opcode == 8 then (let a = byte_in bytes in (Ins a.0, a.1))
    else if opcode == 9 then (let a = byte_in bytes in (Eco a.0, a.1))
    else if opcode == 10 then (let a = byte_in bytes in (Erp a.0, a.1))
    else if opcode == 11 then (let a = byte_in bytes in let n = byte_in a.1 in (Err a.0 (take n.0 n.1), drop n.0 n.1))
    else if opcode == 12 then (Rst, bytes)
    else (Rrp, bytes)

command_in : List ℕ → Command × List ℕ
command_in bytes = command_with (head_of bytes) (tail_of bytes)

two_back : (n : ℕ) → 256 * (n / 256) + n % 256 ≡ n
two_back n = div-add-mod n 256

-- a number in four bytes, read from them
four_of : ℕ → ℕ
four_of n = 65536 * (256 * (n / 65536 / 256) + n / 65536 % 256) + (256 * (n % 65536 / 256) + n % 65536 % 256)

four_back : (n : ℕ) → four_of n ≡ n
unfolding four_of
four_back n = ap₂ (λ high low. 65536 * high + low) (two_back (n / 65536)) (two_back (n % 65536)) ∙ div-add-mod n 65536

command_back : (c : Command) (r : List ℕ) → command_in (command_saved c ++ r) ≡ (c, r)
unfolding command_in command_with command_saved byte_in two_in four_in head_of tail_of four_of
command_back Nop r = refl
command_back (Rts receive send link) r = ap₂ (λ a b. (Rts a b link, r)) (four_back receive) (four_back send)
command_back (Str send receive size) r = ap₂ (λ a b. (Str a b size, r)) (four_back send) (four_back receive)
command_back (Cls my your) r = ap₂ (λ a b. (Cls a b, r)) (four_back my) (four_back your)
command_back (All link messages bits) r = ap₂ (λ a b. (All link a b, r)) (two_back messages) (four_back bits)
command_back (Gvb link fm fb) r = refl
command_back (Ret link messages bits) r = ap₂ (λ a b. (Ret link a b, r)) (two_back messages) (four_back bits)
command_back (Inr link) r = refl
command_back (Ins link) r = refl
command_back (Eco byte) r = refl
command_back (Erp byte) r = refl
command_back (Err code bytes) r = ap₂ (λ a b. (Err code a, b)) (take-append_seam bytes r) (drop-append_seam bytes r)
command_back Rst r = refl
command_back Rrp r = refl

pub command_distinct : Apart command_saved
command_distinct a b r s e =
    let same : (a, r) ≡ (b, s) = sym (command_back a r) ∙ ap command_in e ∙ command_back b s in
    (ap (λ (p : Command × List ℕ). p.0) same, ap (λ (p : Command × List ℕ). p.1) same)

-- The parts of what a host has for a peer.

pub error_distinct : Apart error_saved
unfolding error_saved
error_distinct a b r s e =
    let code : (a.code ≡ b.code) × (length a.bytes ∷ a.bytes ++ r ≡ length b.bytes ∷ b.bytes ++ s) = byte_distinct _ _ _ _ e in
    let count : (length a.bytes ≡ length b.bytes) × (a.bytes ++ r ≡ b.bytes ++ s) = byte_distinct _ _ _ _ code.1 in
    let data_same : (a.bytes ≡ b.bytes) × (r ≡ s) = same_long (length b.bytes) a.bytes b.bytes r s count.0 refl count.1 in
    (ap₂ (λ c bytes. record { code = c; bytes = bytes }) code.0 data_same.0, data_same.1)

pub echoed_distinct : Apart echoed_saved
unfolding echoed_saved
echoed_distinct None None r s e = (refl, (byte_distinct 0 0 r s e).1)
echoed_distinct (Some a) (Some b) r s e =
    let byte : (a ≡ b) × (r ≡ s) = byte_distinct a b r s (byte_distinct 1 1 _ _ e).1 in
    (ap Some byte.0, byte.1)
echoed_distinct None (Some b) r s e = absurd (differ 0 1 r (b ∷ s) (omega arith) e)
echoed_distinct (Some a) None r s e = absurd (differ 1 0 (a ∷ r) s (omega arith) e)

pub echoes_distinct : Apart echoes_saved
unfolding echoes_saved
echoes_distinct a b r s e =
    let awaited : (a.awaited ≡ b.awaited) × ((echoed_saved a.echoed ++ listed error_saved a.errors) ++ r ≡ (echoed_saved b.echoed ++ listed error_saved b.errors) ++ s) = mark_distinct a.awaited b.awaited _ _ e in
    let rest : (a.echoed ≡ b.echoed) × (a.errors ≡ b.errors) × (r ≡ s) = both_distinct echoed_saved (listed error_saved) echoed_distinct (listed_distinct error_saved error_distinct) a.echoed b.echoed a.errors b.errors r s awaited.1 in
    (λ i. record { awaited = awaited.0 i; echoed = rest.0 i; errors = rest.1 i }, rest.2)

pub phase_distinct : Apart phase_saved
unfolding phase_saved
phase_distinct a b r s e =
    let down = mark_distinct a.down b.down _ _ e in
    let want = mark_distinct a.want b.want _ _ down.1 in
    let owe = mark_distinct a.owe b.owe _ _ want.1 in
    let wait = mark_distinct a.wait b.wait _ _ owe.1 in
    let waiting = listed_distinct command_saved command_distinct a.waiting b.waiting r s wait.1 in
    (λ i. record { down = down.0 i; want = want.0 i; owe = owe.0 i; wait = wait.0 i; waiting = waiting.0 i }, waiting.1)

pub pair_distinct : Apart pair_saved
unfolding pair_saved
pair_distinct a b r s e =
    let local = four_distinct a.local b.local (four_bytes a.remote ++ r) (four_bytes b.remote ++ s) e in
    let remote = four_distinct a.remote b.remote r s local.1 in
    (λ i. record { local = local.0 i; remote = remote.0 i }, remote.1)

pub end_distinct : Apart end_saved
unfolding end_saved
end_distinct a b r s e =
    let asked = mark_distinct a.asked b.asked _ _ e in
    let heard = mark_distinct a.heard b.heard _ _ asked.1 in
    let opened = mark_distinct a.opened b.opened _ _ heard.1 in
    let leaving = mark_distinct a.leaving b.leaving _ _ opened.1 in
    let left = mark_distinct a.left b.left _ _ leaving.1 in
    let cls = mark_distinct a.cls b.cls _ _ left.1 in
    let busy = mark_distinct a.busy b.busy _ _ cls.1 in
    let recall = mark_distinct a.recall b.recall _ _ busy.1 in
    let link = byte_distinct a.link b.link _ _ recall.1 in
    let size = byte_distinct a.size b.size _ _ link.1 in
    let messages = two_distinct a.messages b.messages _ _ size.1 in
    let bits = four_distinct a.bits b.bits _ _ messages.1 in
    let room = four_distinct a.room b.room _ _ bits.1 in
    let interrupts = four_distinct a.interrupts b.interrupts (bits_saved a.stored ++ r) (bits_saved b.stored ++ s) room.1 in
    let stored = bits_distinct a.stored b.stored r s interrupts.1 in (
      λ i. record {
        asked = asked.0 i;
        heard = heard.0 i;
        opened = opened.0 i;
        leaving = leaving.0 i;
        left = left.0 i;
        cls = cls.0 i;
        link = link.0 i;
        size = size.0 i;
        messages = messages.0 i;
        bits = bits.0 i;
        stored = stored.0 i;
        room = room.0 i;
        busy = busy.0 i;
        recall = recall.0 i;
        interrupts = interrupts.0 i;
      },
      stored.1,
    )

pub connection_distinct : Apart connection_saved
unfolding connection_saved
connection_distinct a b r s e =
    let both = both_distinct pair_saved end_saved pair_distinct end_distinct a.0 b.0 a.1 b.1 r s e in
    (ap₂ (λ (p : Pair) (q : Endpoint). (p, q)) both.0 both.1, both.2)

pub ends_distinct : Apart ends_saved
ends_distinct a b r s e =
    let all = listed_distinct connection_saved connection_distinct (entries a) (entries b) r s e in
    (same_entries_map a b all.0, all.1)

pub slot_distinct : Apart slot_saved
unfolding slot_saved
slot_distinct Empty Empty r s e = (refl, (byte_distinct 0 0 r s e).1)
slot_distinct (Ready a) (Ready b) r s e = let m = bits_distinct a b r s (byte_distinct 1 1 (bits_saved a ++ r) (bits_saved b ++ s) e).1 in (ap Ready m.0, m.1)
slot_distinct (Travelling a) (Travelling b) r s e = let m = bits_distinct a b r s (byte_distinct 2 2 (bits_saved a ++ r) (bits_saved b ++ s) e).1 in (ap Travelling m.0, m.1)
slot_distinct (Held a) (Held b) r s e = let m = bits_distinct a b r s (byte_distinct 3 3 (bits_saved a ++ r) (bits_saved b ++ s) e).1 in (ap Held m.0, m.1)
slot_distinct Empty (Ready b) r s e = absurd (differ 0 1 r (bits_saved b ++ s) (omega arith) e)
slot_distinct Empty (Travelling b) r s e = absurd (differ 0 2 r (bits_saved b ++ s) (omega arith) e)
slot_distinct Empty (Held b) r s e = absurd (differ 0 3 r (bits_saved b ++ s) (omega arith) e)
slot_distinct (Ready a) Empty r s e = absurd (differ 1 0 (bits_saved a ++ r) s (omega arith) e)
slot_distinct (Ready a) (Travelling b) r s e = absurd (differ 1 2 (bits_saved a ++ r) (bits_saved b ++ s) (omega arith) e)
slot_distinct (Ready a) (Held b) r s e = absurd (differ 1 3 (bits_saved a ++ r) (bits_saved b ++ s) (omega arith) e)
slot_distinct (Travelling a) Empty r s e = absurd (differ 2 0 (bits_saved a ++ r) s (omega arith) e)
slot_distinct (Travelling a) (Ready b) r s e = absurd (differ 2 1 (bits_saved a ++ r) (bits_saved b ++ s) (omega arith) e)
slot_distinct (Travelling a) (Held b) r s e = absurd (differ 2 3 (bits_saved a ++ r) (bits_saved b ++ s) (omega arith) e)
slot_distinct (Held a) Empty r s e = absurd (differ 3 0 (bits_saved a ++ r) s (omega arith) e)
slot_distinct (Held a) (Ready b) r s e = absurd (differ 3 1 (bits_saved a ++ r) (bits_saved b ++ s) (omega arith) e)
slot_distinct (Held a) (Travelling b) r s e = absurd (differ 3 2 (bits_saved a ++ r) (bits_saved b ++ s) (omega arith) e)

-- on some links the slots are the same
abbrev SameOn : List ℕ → LinkSlots → LinkSlots → Type 0
SameOn ons a b = (on : ℕ) → list_any (λ k. on == k) ons ≡ true → slot_at a on ≡ slot_at b on

slots_distinct : (ons : List ℕ) (a b : LinkSlots) (r s : List ℕ) → slots_on ons a ++ r ≡ slots_on ons b ++ s → SameOn ons a b × (r ≡ s)
slots_distinct [] a b r s e = (λ on none. absurd (true≢false (sym none)), e)
slots_distinct (k ∷ ks) a b r s e =
    let first : (slot_at a k ≡ slot_at b k) × (slots_on ks a ++ r ≡ slots_on ks b ++ s) =
    slot_distinct (slot_at a k) (slot_at b k) (slots_on ks a ++ r) (slots_on ks b ++ s)
    (sym (append_assoc (slot_saved (slot_at a k)) (slots_on ks a) r) ∙ e ∙ append_assoc (slot_saved (slot_at b k)) (slots_on ks b) s) in
    let rest : SameOn ks a b × (r ≡ s) = slots_distinct ks a b r s first.1 in (
      λ on is. elim (eqb_tells on k) [
        | inl y ↦ ap (slot_at a) y.1 ∙ first.0 ∙ ap (slot_at b) (sym y.1)
        | inr other ↦ rest.0 on (sym (ap (λ (x : Bool). x || list_any (λ j. on == j) ks) other.0) ∙ is)
      ],
      rest.1,
    )

pub counts_distinct : Apart counts_saved
unfolding counts_saved
counts_distinct a b r s e =
    let stray = four_distinct a.stray b.stray _ _ e in
    let faults = four_distinct a.faults b.faults _ _ stray.1 in
    let wrong_link = four_distinct a.wrong_link b.wrong_link _ _ faults.1 in
    let wrong_size = four_distinct a.wrong_size b.wrong_size _ _ wrong_link.1 in
    let not_up = four_distinct a.not_up b.not_up _ _ wrong_size.1 in
    let late = four_distinct a.late b.late _ _ not_up.1 in
    let over = four_distinct a.over b.over r s late.1 in (
      λ i. record {
        stray = stray.0 i;
        faults = faults.0 i;
        wrong_link = wrong_link.0 i;
        wrong_size = wrong_size.0 i;
        not_up = not_up.0 i;
        late = late.0 i;
        over = over.0 i;
      },
      over.1,
    )

pub ignored_distinct : Apart ignored_saved
unfolding ignored_saved
ignored_distinct a b r s e =
    let short = four_distinct a.short b.short _ _ e in
    let other = four_distinct a.other b.other _ _ short.1 in
    let unknown = four_distinct a.unknown b.unknown r s other.1 in
    (λ i. record { short = short.0 i; other = other.0 i; unknown = unknown.0 i }, unknown.1)

-- A peer, the peers, and a host.

-- five pieces, one behind the other
five : (a b c d e r : List ℕ) → (a ++ b ++ c ++ d ++ e) ++ r ≡ a ++ (b ++ (c ++ (d ++ (e ++ r))))
five a b c d e r = append_assoc (a ++ b ++ c ++ d) e r ∙ append_assoc (a ++ b ++ c) d (e ++ r) ∙ append_assoc (a ++ b) c (d ++ (e ++ r)) ∙ append_assoc a b (c ++ (d ++ (e ++ r)))

state_distinct : (a b : PeerState) (r s : List ℕ) → state_saved a ++ r ≡ state_saved b ++ s → AreAlike a b × (r ≡ s)
unfolding state_saved
state_distinct a b r s e =
    let whole = sym (five (phase_saved a.peer.phase) (ends_saved a.peer.ends) (echoes_saved a.peer.echoes) (slots_saved a.slots) (counts_saved a.counts) r)
    ∙ e ∙ five (phase_saved b.peer.phase) (ends_saved b.peer.ends) (echoes_saved b.peer.echoes) (slots_saved b.slots) (counts_saved b.counts) s in
    let phase = phase_distinct a.peer.phase b.peer.phase _ _ whole in
    let ends = ends_distinct a.peer.ends b.peer.ends _ _ phase.1 in
    let echoes = echoes_distinct a.peer.echoes b.peer.echoes _ _ ends.1 in
    let slots = slots_distinct links a.slots b.slots _ _ echoes.1 in
    let counts = counts_distinct a.counts b.counts r s slots.1 in (
      record {
        peer = λ i. record { phase = phase.0 i; ends = ends.0 i; echoes = echoes.0 i };
        slots = λ on has. slots.0 on (in_links on has);
        counts = counts.0;
      },
      counts.1,
    )

abbrev Alike : ℕ × PeerState → ℕ × PeerState → Type 0
Alike p q = AreAlike p.1 q.1

peers_distinct : (ps qs : List (ℕ × PeerState)) (r s : List ℕ) → listed peer_saved ps ++ r ≡ listed peer_saved qs ++ s
    → (numbers_of ps ≡ numbers_of qs) × AllZip Alike ps qs × (r ≡ s)
unfolding listed peer_saved
peers_distinct [] [] r s e = (refl, tt, (byte_distinct 0 0 r s e).1)
peers_distinct [] (q ∷ qs) r s e = absurd (differ 0 1 r ((peer_saved q ++ listed peer_saved qs) ++ s) (omega arith) e)
peers_distinct (p ∷ ps) [] r s e = absurd (differ 1 0 ((peer_saved p ++ listed peer_saved ps) ++ r) s (omega arith) e)
peers_distinct (p ∷ ps) (q ∷ qs) r s e =
    let number : (p.0 ≡ q.0) × ((state_saved p.1 ++ listed peer_saved ps) ++ r ≡ (state_saved q.1 ++ listed peer_saved qs) ++ s) = byte_distinct p.0 q.0 _ _ (byte_distinct 1 1 _ _ e).1 in
    let state : AreAlike p.1 q.1 × (listed peer_saved ps ++ r ≡ listed peer_saved qs ++ s) = state_distinct p.1 q.1 _ _ (
    sym (append_assoc (state_saved p.1) (listed peer_saved ps) r) ∙ number.1 ∙ append_assoc (state_saved q.1) (listed peer_saved qs) s) in
    let rest = peers_distinct ps qs r s state.1 in
    (ap₂ (λ (n : ℕ) ns. n ∷ ns) number.0 rest.0, (state.0, rest.1), rest.2)

pub hosts_distinct : (one other : Host) → saved one ≡ saved other → AreAlikeHosts one other
unfolding saved
hosts_distinct one other e =
    let me = byte_distinct one.me other.me _ _ (ap (drop 9) e) in
    let ignored = ignored_distinct one.ignored other.ignored (listed peer_saved one.peers) (listed peer_saved other.peers) me.1 in
    let peers = peers_distinct one.peers other.peers [] [] (ap (λ (xs : List ℕ). xs ++ []) ignored.1) in
    record { me = me.0; numbers = peers.0; peers = peers.1; ignored = ignored.0 }
