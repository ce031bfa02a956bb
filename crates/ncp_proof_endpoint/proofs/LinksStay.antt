-- Meant for other crates too: they cite what is public here.
--
-- Which link an end is on: it stays while the end is there, and no other end there has it.
use Rattle.std.proofs.Common.{◌≡◌, ℕ, ◌==◌, Bool, true, false, not, ◌&&◌, ◌||◌, nat_le, Option, None, Some, refl, arith}
use Rattle.ncp_model.specs.declared.pair.Pair.{Pair}
use Rattle.ncp_model.specs.declared.limits.TheConstants.{MAX_OWN}
use Rattle.ncp_model.specs.Effect.{is_room}
use Rattle.ncp_model.specs.Endpoint.{Endpoint}
use Rattle.ncp_model.specs.Ends.{hears_link, uses_link}
use Rattle.ncp_model.specs.Texts.{Rfnm, Incomplete, Dead}
use Rattle.ncp_model.specs.EndpointEvents.{EndpointEvent, happens}
use Rattle.ncp_model.specs.Demux.{passes}
use Rattle.ncp_proof_endpoint.specs.Sound.{SoundAt}

-- the peer's request, or the own one, by which an end comes to be on a link
abbrev pub brings_link : ℕ → EndpointEvent → Bool
brings_link l (EndpointEvent.Rts_comes on taken by_peer) = on == l && not taken
brings_link l what = false

abbrev pub takes_link : ℕ → EndpointEvent → Bool
takes_link l (EndpointEvent.Asks_to_receive with_room on own full) = on == l && not (nat_le MAX_OWN own)
takes_link l what = false

-- Own requests, by whether the store, the table and the queue have place.

heard-by-send-new : (l : ℕ) (pair : Pair) (of_size with_room own : ℕ) (full : Bool) → SoundAt pair None → passes (hears_link l) pair (happens pair (EndpointEvent.Asks_to_send of_size with_room own full) None).after ≡ true → (passes (hears_link l) pair None || brings_link l (EndpointEvent.Asks_to_send of_size with_room own full)) ≡ true
heard-by-send-new l pair of_size with_room own full s k = go (is_room with_room) (nat_le MAX_OWN own) full refl refl refl
  where
    go : (a b c : Bool) → is_room with_room ≡ a → nat_le MAX_OWN own ≡ b → full ≡ c → (passes (hears_link l) pair None || brings_link l (EndpointEvent.Asks_to_send of_size with_room own full)) ≡ true
    go true true true p q r = grind arith
    go true true false p q r = grind arith
    go true false true p q r = grind arith
    go true false false p q r = grind arith
    go false true true p q r = grind arith
    go false true false p q r = grind arith
    go false false true p q r = grind arith
    go false false false p q r = grind arith

heard-by-send-there : (l : ℕ) (pair : Pair) (of_size with_room own : ℕ) (full : Bool) (e : Endpoint) → SoundAt pair (Some e) → passes (hears_link l) pair (happens pair (EndpointEvent.Asks_to_send of_size with_room own full) (Some e)).after ≡ true → (passes (hears_link l) pair (Some e) || brings_link l (EndpointEvent.Asks_to_send of_size with_room own full)) ≡ true
heard-by-send-there l pair of_size with_room own full e s k = go (is_room with_room) (nat_le MAX_OWN own) full refl refl refl
  where
    go : (a b c : Bool) → is_room with_room ≡ a → nat_le MAX_OWN own ≡ b → full ≡ c → (passes (hears_link l) pair (Some e) || brings_link l (EndpointEvent.Asks_to_send of_size with_room own full)) ≡ true
    go true true true p q r = grind arith
    go true true false p q r = grind arith
    go true false true p q r = grind arith
    go true false false p q r = grind arith
    go false true true p q r = grind arith
    go false true false p q r = grind arith
    go false false true p q r = grind arith
    go false false false p q r = grind arith

heard-by-receive-new : (l : ℕ) (pair : Pair) (with_room on own : ℕ) (full : Bool) → SoundAt pair None → passes (hears_link l) pair (happens pair (EndpointEvent.Asks_to_receive with_room on own full) None).after ≡ true → (passes (hears_link l) pair None || brings_link l (EndpointEvent.Asks_to_receive with_room on own full)) ≡ true
heard-by-receive-new l pair with_room on own full s k = go (is_room with_room) (nat_le MAX_OWN own) full refl refl refl
  where
    go : (a b c : Bool) → is_room with_room ≡ a → nat_le MAX_OWN own ≡ b → full ≡ c → (passes (hears_link l) pair None || brings_link l (EndpointEvent.Asks_to_receive with_room on own full)) ≡ true
    go true true true p q r = grind arith
    go true true false p q r = grind arith
    go true false true p q r = grind arith
    go true false false p q r = grind arith
    go false true true p q r = grind arith
    go false true false p q r = grind arith
    go false false true p q r = grind arith
    go false false false p q r = grind arith

heard-by-receive-there : (l : ℕ) (pair : Pair) (with_room on own : ℕ) (full : Bool) (e : Endpoint) → SoundAt pair (Some e) → passes (hears_link l) pair (happens pair (EndpointEvent.Asks_to_receive with_room on own full) (Some e)).after ≡ true → (passes (hears_link l) pair (Some e) || brings_link l (EndpointEvent.Asks_to_receive with_room on own full)) ≡ true
heard-by-receive-there l pair with_room on own full e s k = go (is_room with_room) (nat_le MAX_OWN own) full refl refl refl
  where
    go : (a b c : Bool) → is_room with_room ≡ a → nat_le MAX_OWN own ≡ b → full ≡ c → (passes (hears_link l) pair (Some e) || brings_link l (EndpointEvent.Asks_to_receive with_room on own full)) ≡ true
    go true true true p q r = grind arith
    go true true false p q r = grind arith
    go true false true p q r = grind arith
    go true false false p q r = grind arith
    go false true true p q r = grind arith
    go false true false p q r = grind arith
    go false false true p q r = grind arith
    go false false false p q r = grind arith

asked-by-send-new : (l : ℕ) (pair : Pair) (of_size with_room own : ℕ) (full : Bool) → SoundAt pair None → passes (uses_link l) pair (happens pair (EndpointEvent.Asks_to_send of_size with_room own full) None).after ≡ true → (passes (uses_link l) pair None || takes_link l (EndpointEvent.Asks_to_send of_size with_room own full)) ≡ true
asked-by-send-new l pair of_size with_room own full s k = go (is_room with_room) (nat_le MAX_OWN own) full refl refl refl
  where
    go : (a b c : Bool) → is_room with_room ≡ a → nat_le MAX_OWN own ≡ b → full ≡ c → (passes (uses_link l) pair None || takes_link l (EndpointEvent.Asks_to_send of_size with_room own full)) ≡ true
    go true true true p q r = grind arith
    go true true false p q r = grind arith
    go true false true p q r = grind arith
    go true false false p q r = grind arith
    go false true true p q r = grind arith
    go false true false p q r = grind arith
    go false false true p q r = grind arith
    go false false false p q r = grind arith

asked-by-send-there : (l : ℕ) (pair : Pair) (of_size with_room own : ℕ) (full : Bool) (e : Endpoint) → SoundAt pair (Some e) → passes (uses_link l) pair (happens pair (EndpointEvent.Asks_to_send of_size with_room own full) (Some e)).after ≡ true → (passes (uses_link l) pair (Some e) || takes_link l (EndpointEvent.Asks_to_send of_size with_room own full)) ≡ true
asked-by-send-there l pair of_size with_room own full e s k = go (is_room with_room) (nat_le MAX_OWN own) full refl refl refl
  where
    go : (a b c : Bool) → is_room with_room ≡ a → nat_le MAX_OWN own ≡ b → full ≡ c → (passes (uses_link l) pair (Some e) || takes_link l (EndpointEvent.Asks_to_send of_size with_room own full)) ≡ true
    go true true true p q r = grind arith
    go true true false p q r = grind arith
    go true false true p q r = grind arith
    go true false false p q r = grind arith
    go false true true p q r = grind arith
    go false true false p q r = grind arith
    go false false true p q r = grind arith
    go false false false p q r = grind arith

asked-by-receive-new : (l : ℕ) (pair : Pair) (with_room on own : ℕ) (full : Bool) → SoundAt pair None → passes (uses_link l) pair (happens pair (EndpointEvent.Asks_to_receive with_room on own full) None).after ≡ true → (passes (uses_link l) pair None || takes_link l (EndpointEvent.Asks_to_receive with_room on own full)) ≡ true
asked-by-receive-new l pair with_room on own full s k = go (is_room with_room) (nat_le MAX_OWN own) full refl refl refl
  where
    go : (a b c : Bool) → is_room with_room ≡ a → nat_le MAX_OWN own ≡ b → full ≡ c → (passes (uses_link l) pair None || takes_link l (EndpointEvent.Asks_to_receive with_room on own full)) ≡ true
    go true true true p q r = grind arith
    go true true false p q r = grind arith
    go true false true p q r = grind arith
    go true false false p q r = grind arith
    go false true true p q r = grind arith
    go false true false p q r = grind arith
    go false false true p q r = grind arith
    go false false false p q r = grind arith

asked-by-receive-there : (l : ℕ) (pair : Pair) (with_room on own : ℕ) (full : Bool) (e : Endpoint) → SoundAt pair (Some e) → passes (uses_link l) pair (happens pair (EndpointEvent.Asks_to_receive with_room on own full) (Some e)).after ≡ true → (passes (uses_link l) pair (Some e) || takes_link l (EndpointEvent.Asks_to_receive with_room on own full)) ≡ true
asked-by-receive-there l pair with_room on own full e s k = go (is_room with_room) (nat_le MAX_OWN own) full refl refl refl
  where
    go : (a b c : Bool) → is_room with_room ≡ a → nat_le MAX_OWN own ≡ b → full ≡ c → (passes (uses_link l) pair (Some e) || takes_link l (EndpointEvent.Asks_to_receive with_room on own full)) ≡ true
    go true true true p q r = grind arith
    go true true false p q r = grind arith
    go true false true p q r = grind arith
    go true false false p q r = grind arith
    go false true true p q r = grind arith
    go false true false p q r = grind arith
    go false false true p q r = grind arith
    go false false false p q r = grind arith

-- an end that hears a link afterwards heard it before, or hears it now
pub heard-by : (l : ℕ) (pair : Pair) (what : EndpointEvent) (before : Option Endpoint) → SoundAt pair before → passes (hears_link l) pair (happens pair what before).after ≡ true → (passes (hears_link l) pair before || brings_link l what) ≡ true
heard-by l pair (EndpointEvent.Asks_to_send of_size with_room own full) None s k = heard-by-send-new l pair of_size with_room own full s k
heard-by l pair (EndpointEvent.Asks_to_send of_size with_room own full) (Some e) s k = heard-by-send-there l pair of_size with_room own full e s k
heard-by l pair (EndpointEvent.Asks_to_receive with_room on own full) None s k = heard-by-receive-new l pair with_room on own full s k
heard-by l pair (EndpointEvent.Asks_to_receive with_room on own full) (Some e) s k = heard-by-receive-there l pair with_room on own full e s k
heard-by l pair (EndpointEvent.Closes full) None s k = absurd (cc k)
heard-by l pair (EndpointEvent.Closes full) (Some e) s k = grind arith
heard-by l pair (EndpointEvent.Gives text) None s k = absurd (cc k)
heard-by l pair (EndpointEvent.Gives text) (Some e) s k = grind arith
heard-by l pair (EndpointEvent.Takes bytes) None s k = absurd (cc k)
heard-by l pair (EndpointEvent.Takes bytes) (Some e) s k = grind arith
heard-by l pair (EndpointEvent.Allocates m b full) None s k = absurd (cc k)
heard-by l pair (EndpointEvent.Allocates m b full) (Some e) s k = grind arith
heard-by l pair (EndpointEvent.Calls_back m b full) None s k = absurd (cc k)
heard-by l pair (EndpointEvent.Calls_back m b full) (Some e) s k = grind arith
heard-by l pair (EndpointEvent.Interrupts full) None s k = absurd (cc k)
heard-by l pair (EndpointEvent.Interrupts full) (Some e) s k = grind arith
heard-by l pair (EndpointEvent.Rts_comes on taken by_peer) None s k = grind arith
heard-by l pair (EndpointEvent.Rts_comes on taken by_peer) (Some e) s k = grind arith
heard-by l pair (EndpointEvent.Str_comes of_size by_peer) None s k = grind arith
heard-by l pair (EndpointEvent.Str_comes of_size by_peer) (Some e) s k = grind arith
heard-by l pair EndpointEvent.Cls_comes None s k = grind arith
heard-by l pair EndpointEvent.Cls_comes (Some e) s k = grind arith
heard-by l pair (EndpointEvent.All_comes on m b) None s k = absurd (cc k)
heard-by l pair (EndpointEvent.All_comes on m b) (Some e) s k = grind arith
heard-by l pair (EndpointEvent.Gvb_comes on m b) None s k = absurd (cc k)
heard-by l pair (EndpointEvent.Gvb_comes on m b) (Some e) s k = grind arith
heard-by l pair (EndpointEvent.Ret_comes on m b) None s k = absurd (cc k)
heard-by l pair (EndpointEvent.Ret_comes on m b) (Some e) s k = grind arith
heard-by l pair (EndpointEvent.Inr_comes on) None s k = absurd (cc k)
heard-by l pair (EndpointEvent.Inr_comes on) (Some e) s k = grind arith
heard-by l pair (EndpointEvent.Ins_comes on) None s k = absurd (cc k)
heard-by l pair (EndpointEvent.Ins_comes on) (Some e) s k = grind arith
heard-by l pair (EndpointEvent.Text_comes head of_size text) None s k = absurd (cc k)
heard-by l pair (EndpointEvent.Text_comes head of_size text) (Some e) s k = grind arith
heard-by l pair EndpointEvent.Text_goes_out None s k = absurd (cc k)
heard-by l pair EndpointEvent.Text_goes_out (Some e) s k = grind arith
heard-by l pair (EndpointEvent.Is_answered Rfnm) None s k = absurd (cc k)
heard-by l pair (EndpointEvent.Is_answered Rfnm) (Some e) s k = grind arith
heard-by l pair (EndpointEvent.Is_answered Incomplete) before s k = grind arith
heard-by l pair (EndpointEvent.Is_answered Dead) before s k = grind arith
heard-by l pair EndpointEvent.Is_cleared before s k = absurd (cc k)

pub asked-by : (l : ℕ) (pair : Pair) (what : EndpointEvent) (before : Option Endpoint) → SoundAt pair before → passes (uses_link l) pair (happens pair what before).after ≡ true → (passes (uses_link l) pair before || takes_link l what) ≡ true
asked-by l pair (EndpointEvent.Asks_to_send of_size with_room own full) None s k = asked-by-send-new l pair of_size with_room own full s k
asked-by l pair (EndpointEvent.Asks_to_send of_size with_room own full) (Some e) s k = asked-by-send-there l pair of_size with_room own full e s k
asked-by l pair (EndpointEvent.Asks_to_receive with_room on own full) None s k = asked-by-receive-new l pair with_room on own full s k
asked-by l pair (EndpointEvent.Asks_to_receive with_room on own full) (Some e) s k = asked-by-receive-there l pair with_room on own full e s k
asked-by l pair (EndpointEvent.Closes full) None s k = absurd (cc k)
asked-by l pair (EndpointEvent.Closes full) (Some e) s k = grind arith
asked-by l pair (EndpointEvent.Gives text) None s k = absurd (cc k)
asked-by l pair (EndpointEvent.Gives text) (Some e) s k = grind arith
asked-by l pair (EndpointEvent.Takes bytes) None s k = absurd (cc k)
asked-by l pair (EndpointEvent.Takes bytes) (Some e) s k = grind arith
asked-by l pair (EndpointEvent.Allocates m b full) None s k = absurd (cc k)
asked-by l pair (EndpointEvent.Allocates m b full) (Some e) s k = grind arith
asked-by l pair (EndpointEvent.Calls_back m b full) None s k = absurd (cc k)
asked-by l pair (EndpointEvent.Calls_back m b full) (Some e) s k = grind arith
asked-by l pair (EndpointEvent.Interrupts full) None s k = absurd (cc k)
asked-by l pair (EndpointEvent.Interrupts full) (Some e) s k = grind arith
asked-by l pair (EndpointEvent.Rts_comes on taken by_peer) None s k = grind arith
asked-by l pair (EndpointEvent.Rts_comes on taken by_peer) (Some e) s k = grind arith
asked-by l pair (EndpointEvent.Str_comes of_size by_peer) None s k = grind arith
asked-by l pair (EndpointEvent.Str_comes of_size by_peer) (Some e) s k = grind arith
asked-by l pair EndpointEvent.Cls_comes None s k = grind arith
asked-by l pair EndpointEvent.Cls_comes (Some e) s k = grind arith
asked-by l pair (EndpointEvent.All_comes on m b) None s k = absurd (cc k)
asked-by l pair (EndpointEvent.All_comes on m b) (Some e) s k = grind arith
asked-by l pair (EndpointEvent.Gvb_comes on m b) None s k = absurd (cc k)
asked-by l pair (EndpointEvent.Gvb_comes on m b) (Some e) s k = grind arith
asked-by l pair (EndpointEvent.Ret_comes on m b) None s k = absurd (cc k)
asked-by l pair (EndpointEvent.Ret_comes on m b) (Some e) s k = grind arith
asked-by l pair (EndpointEvent.Inr_comes on) None s k = absurd (cc k)
asked-by l pair (EndpointEvent.Inr_comes on) (Some e) s k = grind arith
asked-by l pair (EndpointEvent.Ins_comes on) None s k = absurd (cc k)
asked-by l pair (EndpointEvent.Ins_comes on) (Some e) s k = grind arith
asked-by l pair (EndpointEvent.Text_comes head of_size text) None s k = absurd (cc k)
asked-by l pair (EndpointEvent.Text_comes head of_size text) (Some e) s k = grind arith
asked-by l pair EndpointEvent.Text_goes_out None s k = absurd (cc k)
asked-by l pair EndpointEvent.Text_goes_out (Some e) s k = grind arith
asked-by l pair (EndpointEvent.Is_answered Rfnm) None s k = absurd (cc k)
asked-by l pair (EndpointEvent.Is_answered Rfnm) (Some e) s k = grind arith
asked-by l pair (EndpointEvent.Is_answered Incomplete) before s k = grind arith
asked-by l pair (EndpointEvent.Is_answered Dead) before s k = grind arith
asked-by l pair EndpointEvent.Is_cleared before s k = absurd (cc k)
