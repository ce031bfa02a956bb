-- A received message is the same as the sent one, except for the host in its leader.
use Rattle.std.proofs.Common.{◌≡◌, ℕ, Bool, true, false, ◌&&◌, ◌||◌, nat_lt, if◌then◌else◌, List, length, slice_range, refl, le-ltb, arith}
use Rattle.ncp_numbers.specs.Numbers.{bits_of}
use Rattle.ncp_peer.specs.Output.{message_to}
use Rattle.ncp_interface.specs.Slots.{same_bits, same_but_host}
use Rattle.ncp_proof_monitor.proofs.Shown.{all_same}

long : (n on size : ℕ) (text : List Bool) → nat_lt (length (message_to n on size text)) 16 ≡ false
unfolding bits_of
long n on size text = le-ltb (length (message_to n on size text)) 16 (omega arith)

tested : (a b c d : Bool) → a ≡ false → b ≡ false → c ≡ true → d ≡ true → (if a || b then false else c && d) ≡ true
tested false false true true a b c d = refl
tested true b c d p q r s = absurd (cc)
tested false true c d p q r s = absurd (cc)
tested false false false d p q r s = absurd (cc)
tested false false true false p q r s = absurd (cc)

front : (from to on size : ℕ) (text : List Bool) → same_bits (slice_range (message_to to on size text) 0 8) (slice_range (message_to from on size text) 0 8) ≡ true
unfolding bits_of
front from to on size text = refl

behind : (from to on size : ℕ) (text : List Bool)
    → same_bits (slice_range (message_to to on size text) 16 (length (message_to to on size text))) (slice_range (message_to from on size text) 16 (length (message_to from on size text))) ≡ true
unfolding bits_of
behind from to on size text = all_same (slice_range (message_to to on size text) 16 (length (message_to to on size text)))

pub near : (from to on size : ℕ) (text : List Bool) → same_but_host (message_to to on size text) (message_to from on size text) ≡ true
near from to on size text = tested _ _ _ _ (long to on size text) (long from on size text) (front from to on size text) (behind from to on size text)
