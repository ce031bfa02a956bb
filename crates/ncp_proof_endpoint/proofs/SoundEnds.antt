-- Meant for other crates too: they cite what is public here.
--
-- Every act leaves a sound end.
use Rattle.std.proofs.Common.{◌≡◌, ℕ, Bool, true, false, List, [], ◌∷◌, Option, None, Some, refl, arith}
use Rattle.ncp_model.specs.declared.pair.Pair.{Pair}
use Rattle.ncp_model.specs.Pairs.{sends, receives}
use Rattle.ncp_model.specs.Endpoint.{Endpoint}
use Rattle.ncp_model.specs.Texts.{Rfnm, Incomplete, Dead}
use Rattle.ncp_model.specs.EndpointEvents.{EndpointEvent, happens, end_from}
use Rattle.ncp_proof_endpoint.specs.Sound.{SoundAt}

pub one_way : (pair : Pair) → receives pair ≡ true → sends pair ≡ false
one_way pair h = grind arith

-- an own request on an end that is there: by whether it is asked and heard
asks-send : (pair : Pair) (of_size with_room own : ℕ) (full : Bool) (e : Endpoint) → SoundAt pair (Some e) → SoundAt pair (happens pair (EndpointEvent.Asks_to_send of_size with_room own full) (Some e)).after
asks-send pair of_size with_room own full e s = go e.asked e.heard refl refl
  where
    go : (a h : Bool) → e.asked ≡ a → e.heard ≡ h → SoundAt pair (happens pair (EndpointEvent.Asks_to_send of_size with_room own full) (Some e)).after
    go true true p q = grind arith
    go true false p q = grind arith
    go false true p q = grind arith
    go false false p q = grind arith

asks-receive : (pair : Pair) (with_room on own : ℕ) (full : Bool) (e : Endpoint) → SoundAt pair (Some e) → SoundAt pair (happens pair (EndpointEvent.Asks_to_receive with_room on own full) (Some e)).after
asks-receive pair with_room on own full e s = go e.asked e.heard refl refl
  where
    go : (a h : Bool) → e.asked ≡ a → e.heard ≡ h → SoundAt pair (happens pair (EndpointEvent.Asks_to_receive with_room on own full) (Some e)).after
    go true true p q = grind arith
    go true false p q = grind arith
    go false true p q = grind arith
    go false false p q = grind arith

pub sound-after : (pair : Pair) (what : EndpointEvent) (before : Option Endpoint) → SoundAt pair before → SoundAt pair (happens pair what before).after
sound-after pair (EndpointEvent.Asks_to_send of_size with_room own full) None s = grind arith
sound-after pair (EndpointEvent.Asks_to_send of_size with_room own full) (Some e) s = asks-send pair of_size with_room own full e s
sound-after pair (EndpointEvent.Asks_to_receive with_room on own full) None s = grind arith
sound-after pair (EndpointEvent.Asks_to_receive with_room on own full) (Some e) s = asks-receive pair with_room on own full e s
sound-after pair (EndpointEvent.Closes full) None s = s
sound-after pair (EndpointEvent.Closes full) (Some e) s = grind arith
sound-after pair (EndpointEvent.Gives text) None s = s
sound-after pair (EndpointEvent.Gives text) (Some e) s = grind arith
sound-after pair (EndpointEvent.Takes bytes) None s = s
sound-after pair (EndpointEvent.Takes bytes) (Some e) s = grind arith
sound-after pair (EndpointEvent.Allocates m b full) None s = s
sound-after pair (EndpointEvent.Allocates m b full) (Some e) s = grind arith
sound-after pair (EndpointEvent.Calls_back m b full) None s = s
sound-after pair (EndpointEvent.Calls_back m b full) (Some e) s = grind arith
sound-after pair (EndpointEvent.Interrupts full) None s = s
sound-after pair (EndpointEvent.Interrupts full) (Some e) s = grind arith
sound-after pair (EndpointEvent.Rts_comes on taken by_peer) None s = grind arith
sound-after pair (EndpointEvent.Rts_comes on taken by_peer) (Some e) s = grind arith
sound-after pair (EndpointEvent.Str_comes of_size by_peer) None s = grind arith
sound-after pair (EndpointEvent.Str_comes of_size by_peer) (Some e) s = grind arith
sound-after pair EndpointEvent.Cls_comes None s = grind arith
sound-after pair EndpointEvent.Cls_comes (Some e) s = grind arith
sound-after pair (EndpointEvent.All_comes on m b) None s = s
sound-after pair (EndpointEvent.All_comes on m b) (Some e) s = grind arith
sound-after pair (EndpointEvent.Gvb_comes on m b) None s = s
sound-after pair (EndpointEvent.Gvb_comes on m b) (Some e) s = grind arith
sound-after pair (EndpointEvent.Ret_comes on m b) None s = s
sound-after pair (EndpointEvent.Ret_comes on m b) (Some e) s = grind arith
sound-after pair (EndpointEvent.Inr_comes on) None s = s
sound-after pair (EndpointEvent.Inr_comes on) (Some e) s = grind arith
sound-after pair (EndpointEvent.Ins_comes on) None s = s
sound-after pair (EndpointEvent.Ins_comes on) (Some e) s = grind arith
sound-after pair (EndpointEvent.Text_comes head of_size text) None s = s
sound-after pair (EndpointEvent.Text_comes head of_size text) (Some e) s = grind arith
sound-after pair EndpointEvent.Text_goes_out None s = s
sound-after pair EndpointEvent.Text_goes_out (Some e) s = grind arith
sound-after pair (EndpointEvent.Is_answered Rfnm) None s = s
sound-after pair (EndpointEvent.Is_answered Rfnm) (Some e) s = grind arith
sound-after pair (EndpointEvent.Is_answered Incomplete) before s = s
sound-after pair (EndpointEvent.Is_answered Dead) before s = s
sound-after pair EndpointEvent.Is_cleared before s = tt

pub sound-from : (pair : Pair) (whats : List EndpointEvent) (before : Option Endpoint) → SoundAt pair before → SoundAt pair (end_from pair whats before)
sound-from pair [] before s = s
sound-from pair (what ∷ more) before s = sound-from pair more (happens pair what before).after (sound-after pair what before s)

pub sound-ever : (pair : Pair) (whats : List EndpointEvent) → SoundAt pair (end_from pair whats None)
sound-ever pair whats = sound-from pair whats None tt
