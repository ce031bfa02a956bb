-- Meant for other crates too: they cite what is public here.
--
-- No number of an end goes beyond its limit.
use Rattle.std.proofs.Common.{◌≡◌, ℕ, Bool, true, false, List, [], ◌∷◌, Option, None, Some, refl, arith}
use Rattle.std.proofs.lemmas.List.{length-append, length-drop}
use Rattle.ncp_model.specs.declared.pair.Pair.{Pair}
use Rattle.ncp_model.specs.Pairs.{sends}
use Rattle.ncp_model.specs.Endpoint.{Endpoint, is_closing}
use Rattle.ncp_model.specs.Texts.{Rfnm, Incomplete, Dead}
use Rattle.ncp_model.specs.EndpointEvents.{EndpointEvent, happens, end_from}
use Rattle.ncp_model.specs.Demux.{suits}
use Rattle.ncp_proof_endpoint.specs.Sound.{SoundAt}
use Rattle.ncp_proof_endpoint.specs.Books.{Suit}
use Rattle.ncp_proof_endpoint.specs.Limits.{InLimitsAt}
use Rattle.ncp_proof_endpoint.proofs.SoundEnds.{sound-after}

ruleset on_numbers = (length-append, length-drop)

-- Calls on an end that is there, by whether it sends, asked and heard.

asks_send : (pair : Pair) (of_size : ℕ) (with_room : ℕ) (own : ℕ) (full : Bool) (e : Endpoint) → SoundAt pair (Some e) → InLimitsAt pair (Some e) → InLimitsAt pair (happens pair (EndpointEvent.Asks_to_send of_size with_room own full) (Some e)).after
asks_send pair of_size with_room own full e s k = go (sends pair) e.asked e.heard (is_closing e) refl refl refl refl
  where
    go : (f g h i : Bool) → sends pair ≡ f → e.asked ≡ g → e.heard ≡ h → is_closing e ≡ i → InLimitsAt pair (happens pair (EndpointEvent.Asks_to_send of_size with_room own full) (Some e)).after
    go true true true true x y z w = grind (arith, on_numbers)
    go true true true false x y z w = grind (arith, on_numbers)
    go true true false true x y z w = grind (arith, on_numbers)
    go true true false false x y z w = grind (arith, on_numbers)
    go true false true true x y z w = grind (arith, on_numbers)
    go true false true false x y z w = grind (arith, on_numbers)
    go true false false true x y z w = grind (arith, on_numbers)
    go true false false false x y z w = grind (arith, on_numbers)
    go false true true true x y z w = grind (arith, on_numbers)
    go false true true false x y z w = grind (arith, on_numbers)
    go false true false true x y z w = grind (arith, on_numbers)
    go false true false false x y z w = grind (arith, on_numbers)
    go false false true true x y z w = grind (arith, on_numbers)
    go false false true false x y z w = grind (arith, on_numbers)
    go false false false true x y z w = grind (arith, on_numbers)
    go false false false false x y z w = grind (arith, on_numbers)

asks_receive : (pair : Pair) (with_room : ℕ) (on : ℕ) (own : ℕ) (full : Bool) (e : Endpoint) → SoundAt pair (Some e) → InLimitsAt pair (Some e) → InLimitsAt pair (happens pair (EndpointEvent.Asks_to_receive with_room on own full) (Some e)).after
asks_receive pair with_room on own full e s k = go (sends pair) e.asked e.heard (is_closing e) refl refl refl refl
  where
    go : (f g h i : Bool) → sends pair ≡ f → e.asked ≡ g → e.heard ≡ h → is_closing e ≡ i → InLimitsAt pair (happens pair (EndpointEvent.Asks_to_receive with_room on own full) (Some e)).after
    go true true true true x y z w = grind (arith, on_numbers)
    go true true true false x y z w = grind (arith, on_numbers)
    go true true false true x y z w = grind (arith, on_numbers)
    go true true false false x y z w = grind (arith, on_numbers)
    go true false true true x y z w = grind (arith, on_numbers)
    go true false true false x y z w = grind (arith, on_numbers)
    go true false false true x y z w = grind (arith, on_numbers)
    go true false false false x y z w = grind (arith, on_numbers)
    go false true true true x y z w = grind (arith, on_numbers)
    go false true true false x y z w = grind (arith, on_numbers)
    go false true false true x y z w = grind (arith, on_numbers)
    go false true false false x y z w = grind (arith, on_numbers)
    go false false true true x y z w = grind (arith, on_numbers)
    go false false true false x y z w = grind (arith, on_numbers)
    go false false false true x y z w = grind (arith, on_numbers)
    go false false false false x y z w = grind (arith, on_numbers)

closes : (pair : Pair) (full : Bool) (e : Endpoint) → SoundAt pair (Some e) → InLimitsAt pair (Some e) → InLimitsAt pair (happens pair (EndpointEvent.Closes full) (Some e)).after
closes pair full e s k = go (sends pair) e.asked e.heard (is_closing e) refl refl refl refl
  where
    go : (f g h i : Bool) → sends pair ≡ f → e.asked ≡ g → e.heard ≡ h → is_closing e ≡ i → InLimitsAt pair (happens pair (EndpointEvent.Closes full) (Some e)).after
    go true true true true x y z w = grind (arith, on_numbers)
    go true true true false x y z w = grind (arith, on_numbers)
    go true true false true x y z w = grind (arith, on_numbers)
    go true true false false x y z w = grind (arith, on_numbers)
    go true false true true x y z w = grind (arith, on_numbers)
    go true false true false x y z w = grind (arith, on_numbers)
    go true false false true x y z w = grind (arith, on_numbers)
    go true false false false x y z w = grind (arith, on_numbers)
    go false true true true x y z w = grind (arith, on_numbers)
    go false true true false x y z w = grind (arith, on_numbers)
    go false true false true x y z w = grind (arith, on_numbers)
    go false true false false x y z w = grind (arith, on_numbers)
    go false false true true x y z w = grind (arith, on_numbers)
    go false false true false x y z w = grind (arith, on_numbers)
    go false false false true x y z w = grind (arith, on_numbers)
    go false false false false x y z w = grind (arith, on_numbers)

gives : (pair : Pair) (text : List Bool) (e : Endpoint) → SoundAt pair (Some e) → InLimitsAt pair (Some e) → InLimitsAt pair (happens pair (EndpointEvent.Gives text) (Some e)).after
gives pair text e s k = go (sends pair) e.asked e.heard (is_closing e) refl refl refl refl
  where
    go : (f g h i : Bool) → sends pair ≡ f → e.asked ≡ g → e.heard ≡ h → is_closing e ≡ i → InLimitsAt pair (happens pair (EndpointEvent.Gives text) (Some e)).after
    go true true true true x y z w = grind (arith, on_numbers)
    go true true true false x y z w = grind (arith, on_numbers)
    go true true false true x y z w = grind (arith, on_numbers)
    go true true false false x y z w = grind (arith, on_numbers)
    go true false true true x y z w = grind (arith, on_numbers)
    go true false true false x y z w = grind (arith, on_numbers)
    go true false false true x y z w = grind (arith, on_numbers)
    go true false false false x y z w = grind (arith, on_numbers)
    go false true true true x y z w = grind (arith, on_numbers)
    go false true true false x y z w = grind (arith, on_numbers)
    go false true false true x y z w = grind (arith, on_numbers)
    go false true false false x y z w = grind (arith, on_numbers)
    go false false true true x y z w = grind (arith, on_numbers)
    go false false true false x y z w = grind (arith, on_numbers)
    go false false false true x y z w = grind (arith, on_numbers)
    go false false false false x y z w = grind (arith, on_numbers)

allocates : (pair : Pair) (m : ℕ) (b : ℕ) (full : Bool) (e : Endpoint) → SoundAt pair (Some e) → InLimitsAt pair (Some e) → InLimitsAt pair (happens pair (EndpointEvent.Allocates m b full) (Some e)).after
allocates pair m b full e s k = go (sends pair) e.asked e.heard (is_closing e) refl refl refl refl
  where
    go : (f g h i : Bool) → sends pair ≡ f → e.asked ≡ g → e.heard ≡ h → is_closing e ≡ i → InLimitsAt pair (happens pair (EndpointEvent.Allocates m b full) (Some e)).after
    go true true true true x y z w = grind (arith, on_numbers)
    go true true true false x y z w = grind (arith, on_numbers)
    go true true false true x y z w = grind (arith, on_numbers)
    go true true false false x y z w = grind (arith, on_numbers)
    go true false true true x y z w = grind (arith, on_numbers)
    go true false true false x y z w = grind (arith, on_numbers)
    go true false false true x y z w = grind (arith, on_numbers)
    go true false false false x y z w = grind (arith, on_numbers)
    go false true true true x y z w = grind (arith, on_numbers)
    go false true true false x y z w = grind (arith, on_numbers)
    go false true false true x y z w = grind (arith, on_numbers)
    go false true false false x y z w = grind (arith, on_numbers)
    go false false true true x y z w = grind (arith, on_numbers)
    go false false true false x y z w = grind (arith, on_numbers)
    go false false false true x y z w = grind (arith, on_numbers)
    go false false false false x y z w = grind (arith, on_numbers)

calls_back : (pair : Pair) (m : ℕ) (b : ℕ) (full : Bool) (e : Endpoint) → SoundAt pair (Some e) → InLimitsAt pair (Some e) → InLimitsAt pair (happens pair (EndpointEvent.Calls_back m b full) (Some e)).after
calls_back pair m b full e s k = go (sends pair) e.asked e.heard (is_closing e) refl refl refl refl
  where
    go : (f g h i : Bool) → sends pair ≡ f → e.asked ≡ g → e.heard ≡ h → is_closing e ≡ i → InLimitsAt pair (happens pair (EndpointEvent.Calls_back m b full) (Some e)).after
    go true true true true x y z w = grind (arith, on_numbers)
    go true true true false x y z w = grind (arith, on_numbers)
    go true true false true x y z w = grind (arith, on_numbers)
    go true true false false x y z w = grind (arith, on_numbers)
    go true false true true x y z w = grind (arith, on_numbers)
    go true false true false x y z w = grind (arith, on_numbers)
    go true false false true x y z w = grind (arith, on_numbers)
    go true false false false x y z w = grind (arith, on_numbers)
    go false true true true x y z w = grind (arith, on_numbers)
    go false true true false x y z w = grind (arith, on_numbers)
    go false true false true x y z w = grind (arith, on_numbers)
    go false true false false x y z w = grind (arith, on_numbers)
    go false false true true x y z w = grind (arith, on_numbers)
    go false false true false x y z w = grind (arith, on_numbers)
    go false false false true x y z w = grind (arith, on_numbers)
    go false false false false x y z w = grind (arith, on_numbers)

interrupts : (pair : Pair) (full : Bool) (e : Endpoint) → SoundAt pair (Some e) → InLimitsAt pair (Some e) → InLimitsAt pair (happens pair (EndpointEvent.Interrupts full) (Some e)).after
interrupts pair full e s k = go (sends pair) e.asked e.heard (is_closing e) refl refl refl refl
  where
    go : (f g h i : Bool) → sends pair ≡ f → e.asked ≡ g → e.heard ≡ h → is_closing e ≡ i → InLimitsAt pair (happens pair (EndpointEvent.Interrupts full) (Some e)).after
    go true true true true x y z w = grind (arith, on_numbers)
    go true true true false x y z w = grind (arith, on_numbers)
    go true true false true x y z w = grind (arith, on_numbers)
    go true true false false x y z w = grind (arith, on_numbers)
    go true false true true x y z w = grind (arith, on_numbers)
    go true false true false x y z w = grind (arith, on_numbers)
    go true false false true x y z w = grind (arith, on_numbers)
    go true false false false x y z w = grind (arith, on_numbers)
    go false true true true x y z w = grind (arith, on_numbers)
    go false true true false x y z w = grind (arith, on_numbers)
    go false true false true x y z w = grind (arith, on_numbers)
    go false true false false x y z w = grind (arith, on_numbers)
    go false false true true x y z w = grind (arith, on_numbers)
    go false false true false x y z w = grind (arith, on_numbers)
    go false false false true x y z w = grind (arith, on_numbers)
    go false false false false x y z w = grind (arith, on_numbers)

pub limits-after : (pair : Pair) (what : EndpointEvent) (before : Option Endpoint) → suits pair what ≡ true → SoundAt pair before → InLimitsAt pair before → InLimitsAt pair (happens pair what before).after
limits-after pair (EndpointEvent.Asks_to_send of_size with_room own full) None u s k = grind (arith, on_numbers)
limits-after pair (EndpointEvent.Asks_to_send of_size with_room own full) (Some e) u s k = asks_send pair of_size with_room own full e s k
limits-after pair (EndpointEvent.Asks_to_receive with_room on own full) None u s k = grind (arith, on_numbers)
limits-after pair (EndpointEvent.Asks_to_receive with_room on own full) (Some e) u s k = asks_receive pair with_room on own full e s k
limits-after pair (EndpointEvent.Closes full) None u s k = tt
limits-after pair (EndpointEvent.Closes full) (Some e) u s k = closes pair full e s k
limits-after pair (EndpointEvent.Gives text) None u s k = tt
limits-after pair (EndpointEvent.Gives text) (Some e) u s k = gives pair text e s k
limits-after pair (EndpointEvent.Takes bytes) None u s k = tt
limits-after pair (EndpointEvent.Takes bytes) (Some e) u s k = grind (arith, on_numbers)
limits-after pair (EndpointEvent.Allocates m b full) None u s k = tt
limits-after pair (EndpointEvent.Allocates m b full) (Some e) u s k = allocates pair m b full e s k
limits-after pair (EndpointEvent.Calls_back m b full) None u s k = tt
limits-after pair (EndpointEvent.Calls_back m b full) (Some e) u s k = calls_back pair m b full e s k
limits-after pair (EndpointEvent.Interrupts full) None u s k = tt
limits-after pair (EndpointEvent.Interrupts full) (Some e) u s k = interrupts pair full e s k
limits-after pair (EndpointEvent.Rts_comes on taken by_peer) None u s k = grind (arith, on_numbers)
limits-after pair (EndpointEvent.Rts_comes on taken by_peer) (Some e) u s k = grind (arith, on_numbers)
limits-after pair (EndpointEvent.Str_comes of_size by_peer) None u s k = grind (arith, on_numbers)
limits-after pair (EndpointEvent.Str_comes of_size by_peer) (Some e) u s k = grind (arith, on_numbers)
limits-after pair EndpointEvent.Cls_comes None u s k = grind (arith, on_numbers)
limits-after pair EndpointEvent.Cls_comes (Some e) u s k = grind (arith, on_numbers)
limits-after pair (EndpointEvent.All_comes on m b) None u s k = tt
limits-after pair (EndpointEvent.All_comes on m b) (Some e) u s k = grind (arith, on_numbers)
limits-after pair (EndpointEvent.Gvb_comes on m b) None u s k = tt
limits-after pair (EndpointEvent.Gvb_comes on m b) (Some e) u s k = grind (arith, on_numbers)
limits-after pair (EndpointEvent.Ret_comes on m b) None u s k = tt
limits-after pair (EndpointEvent.Ret_comes on m b) (Some e) u s k = grind (arith, on_numbers)
limits-after pair (EndpointEvent.Inr_comes on) None u s k = tt
limits-after pair (EndpointEvent.Inr_comes on) (Some e) u s k = grind (arith, on_numbers)
limits-after pair (EndpointEvent.Ins_comes on) None u s k = tt
limits-after pair (EndpointEvent.Ins_comes on) (Some e) u s k = grind (arith, on_numbers)
limits-after pair (EndpointEvent.Text_comes head of_size text) None u s k = tt
limits-after pair (EndpointEvent.Text_comes head of_size text) (Some e) u s k = grind (arith, on_numbers)
limits-after pair EndpointEvent.Text_goes_out None u s k = tt
limits-after pair EndpointEvent.Text_goes_out (Some e) u s k = grind (arith, on_numbers)
limits-after pair (EndpointEvent.Is_answered Rfnm) None u s k = tt
limits-after pair (EndpointEvent.Is_answered Rfnm) (Some e) u s k = grind (arith, on_numbers)
limits-after pair (EndpointEvent.Is_answered Incomplete) before u s k = k
limits-after pair (EndpointEvent.Is_answered Dead) before u s k = k
limits-after pair EndpointEvent.Is_cleared before u s k = tt

limits-from : (pair : Pair) (whats : List EndpointEvent) (before : Option Endpoint) → Suit pair whats → SoundAt pair before → InLimitsAt pair before → InLimitsAt pair (end_from pair whats before)
limits-from pair [] before u s k = k
limits-from pair (what ∷ more) before u s k = limits-from pair more (happens pair what before).after u.1 (sound-after pair what before s) (limits-after pair what before u.0 s k)

pub limits-ever : (pair : Pair) (whats : List EndpointEvent) → Suit pair whats → InLimitsAt pair (end_from pair whats None)
limits-ever pair whats u = limits-from pair whats None u tt tt
