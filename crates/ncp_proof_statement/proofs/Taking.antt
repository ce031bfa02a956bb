-- What was taken and allowed since the last ask is what was taken and granted since the last opening, of an end that is
-- live.
use Rattle.std.proofs.Common.{◌≡◌, ℕ, refl, true, false, if◌then◌else◌, Bool, Option, None, Some, arith}
use Rattle.std.proofs.lemmas.List.{append-nil, append_assoc}
use Rattle.ncp_model.specs.declared.pair.Pair.{Pair}
use Rattle.ncp_model.specs.Pairs.{sends, receives}
use Rattle.ncp_model.specs.Endpoint.{Endpoint}
use Rattle.ncp_model.specs.EndpointEvents.{EndpointEvent, happens}
use Rattle.ncp_model.specs.Demux.{suits}
use Rattle.ncp_proof_endpoint.specs.Histories.{PairHistory, no_past, adds, opens, reopened}
use Rattle.ncp_proof_endpoint.specs.Sound.{SoundAt}
use Rattle.ncp_proof_statement.specs.Since.{Takings, takings_then, TakenSince, Gifts, gifts_then, GiftsSince}

abbrev pub TakenKept : Pair → EndpointEvent → Option Endpoint → PairHistory → Takings → Type 0
TakenKept pair what before past t =
    TakenSince (happens pair what before).after (adds what (happens pair what before).outcome (if opens before (happens pair what before).after then reopened past else past)) (takings_then what (happens pair what before).outcome t)

ruleset on_taken = (append-nil, append_assoc)

pub taken-kept : (pair : Pair) (what : EndpointEvent) (before : Option Endpoint) (past : PairHistory) (t : Takings) → sends pair ≡ false → suits pair what ≡ true → SoundAt pair before → TakenSince before past t → TakenKept pair what before past t
taken-kept pair (EndpointEvent.Asks_to_send of_size with_room own full) None past t n l s k = grind (arith, on_taken)
taken-kept pair (EndpointEvent.Asks_to_send of_size with_room own full) (Some e) past t n l s k = grind (arith, on_taken)
taken-kept pair (EndpointEvent.Asks_to_receive with_room on own full) None past t n l s k = grind (arith, on_taken)
taken-kept pair (EndpointEvent.Asks_to_receive with_room on own full) (Some e) past t n l s k = grind (arith, on_taken)
taken-kept pair (EndpointEvent.Closes full) None past t n l s k = tt
taken-kept pair (EndpointEvent.Closes full) (Some e) past t n l s k = grind (arith, on_taken)
taken-kept pair (EndpointEvent.Gives text) None past t n l s k = tt
taken-kept pair (EndpointEvent.Gives text) (Some e) past t n l s k = grind (arith, on_taken)
taken-kept pair (EndpointEvent.Takes bytes) None past t n l s k = tt
taken-kept pair (EndpointEvent.Takes bytes) (Some e) past t n l s k = grind (arith, on_taken)
taken-kept pair (EndpointEvent.Allocates m b full) None past t n l s k = tt
taken-kept pair (EndpointEvent.Allocates m b full) (Some e) past t n l s k = grind (arith, on_taken)
taken-kept pair (EndpointEvent.Calls_back m b full) None past t n l s k = tt
taken-kept pair (EndpointEvent.Calls_back m b full) (Some e) past t n l s k = grind (arith, on_taken)
taken-kept pair (EndpointEvent.Interrupts full) None past t n l s k = tt
taken-kept pair (EndpointEvent.Interrupts full) (Some e) past t n l s k = grind (arith, on_taken)
taken-kept pair (EndpointEvent.Rts_comes on taken by_peer) None past t n l s k = grind (arith, on_taken)
taken-kept pair (EndpointEvent.Rts_comes on taken by_peer) (Some e) past t n l s k = grind (arith, on_taken)
taken-kept pair (EndpointEvent.Str_comes of_size by_peer) None past t n l s k = grind (arith, on_taken)
taken-kept pair (EndpointEvent.Str_comes of_size by_peer) (Some e) past t n l s k = grind (arith, on_taken)
taken-kept pair EndpointEvent.Cls_comes None past t n l s k = grind (arith, on_taken)
taken-kept pair EndpointEvent.Cls_comes (Some e) past t n l s k = grind (arith, on_taken)
taken-kept pair (EndpointEvent.All_comes on m b) before past t n l s k = absurd (cc (n, l))
taken-kept pair (EndpointEvent.Gvb_comes on m b) before past t n l s k = absurd (cc (n, l))
taken-kept pair (EndpointEvent.Ret_comes on m b) None past t n l s k = tt
taken-kept pair (EndpointEvent.Ret_comes on m b) (Some e) past t n l s k = grind (arith, on_taken)
taken-kept pair (EndpointEvent.Inr_comes on) before past t n l s k = absurd (cc (n, l))
taken-kept pair (EndpointEvent.Ins_comes on) None past t n l s k = tt
taken-kept pair (EndpointEvent.Ins_comes on) (Some e) past t n l s k = grind (arith, on_taken)
taken-kept pair (EndpointEvent.Text_comes head of_size text) None past t n l s k = tt
taken-kept pair (EndpointEvent.Text_comes head of_size text) (Some e) past t n l s k = grind (arith, on_taken)
taken-kept pair EndpointEvent.Text_goes_out before past t n l s k = absurd (cc (n, l))
taken-kept pair (EndpointEvent.Is_answered how) before past t n l s k = absurd (cc (n, l))
taken-kept pair EndpointEvent.Is_cleared before past t n l s k = tt

-- And what was given since the last ask that has a give is, of a sender, what was given since it opened, or nothing
-- was given since.

abbrev pub GiftsKept : Pair → EndpointEvent → Option Endpoint → PairHistory → Gifts → Type 0
GiftsKept pair what before past g =
    GiftsSince (happens pair what before).after (adds what (happens pair what before).outcome (if opens before (happens pair what before).after then reopened past else past)) (gifts_then what (happens pair what before).outcome (opens before (happens pair what before).after) g)

-- an own request on an end that is there: by whether it is asked and heard
asks-gifts : (pair : Pair) (of_size with_room own : ℕ) (full : Bool) (e : Endpoint) (past : PairHistory) (g : Gifts) → SoundAt pair (Some e) → GiftsSince (Some e) past g → GiftsKept pair (EndpointEvent.Asks_to_send of_size with_room own full) (Some e) past g
asks-gifts pair of_size with_room own full e past g s k = go e.asked e.heard e.opened g.none g.anew refl refl refl refl refl
  where
    go : (a h o z w : Bool) → e.asked ≡ a → e.heard ≡ h → e.opened ≡ o → g.none ≡ z → g.anew ≡ w → GiftsKept pair (EndpointEvent.Asks_to_send of_size with_room own full) (Some e) past g
    go true true o z w p q r y x = grind (arith, on_taken)
    go true false o z w p q r y x = grind (arith, on_taken)
    go false h true z w p q r y x = grind (arith, on_taken)
    go false true false true w p q r y x = grind (arith, on_taken)
    go false true false false w p q r y x = grind (arith, on_taken)
    go false false false true w p q r y x = grind (arith, on_taken)
    go false false false false w p q r y x = grind (arith, on_taken)

pub gifts-kept : (pair : Pair) (what : EndpointEvent) (before : Option Endpoint) (past : PairHistory) (g : Gifts) → receives pair ≡ false → suits pair what ≡ true → SoundAt pair before → GiftsSince before past g → GiftsKept pair what before past g
gifts-kept pair (EndpointEvent.Asks_to_send of_size with_room own full) None past g n l s k = grind (arith, on_taken)
gifts-kept pair (EndpointEvent.Asks_to_send of_size with_room own full) (Some e) past g n l s k = asks-gifts pair of_size with_room own full e past g s k
gifts-kept pair (EndpointEvent.Asks_to_receive with_room on own full) None past g n l s k = grind (arith, on_taken)
gifts-kept pair (EndpointEvent.Asks_to_receive with_room on own full) (Some e) past g n l s k = grind (arith, on_taken)
gifts-kept pair (EndpointEvent.Closes full) None past g n l s k = grind (arith, on_taken)
gifts-kept pair (EndpointEvent.Closes full) (Some e) past g n l s k = grind (arith, on_taken)
gifts-kept pair (EndpointEvent.Gives text) None past g n l s k = grind (arith, on_taken)
gifts-kept pair (EndpointEvent.Gives text) (Some e) past g n l s k = grind (arith, on_taken)
gifts-kept pair (EndpointEvent.Takes bytes) None past g n l s k = grind (arith, on_taken)
gifts-kept pair (EndpointEvent.Takes bytes) (Some e) past g n l s k = grind (arith, on_taken)
gifts-kept pair (EndpointEvent.Allocates m b full) None past g n l s k = grind (arith, on_taken)
gifts-kept pair (EndpointEvent.Allocates m b full) (Some e) past g n l s k = grind (arith, on_taken)
gifts-kept pair (EndpointEvent.Calls_back m b full) None past g n l s k = grind (arith, on_taken)
gifts-kept pair (EndpointEvent.Calls_back m b full) (Some e) past g n l s k = grind (arith, on_taken)
gifts-kept pair (EndpointEvent.Interrupts full) None past g n l s k = grind (arith, on_taken)
gifts-kept pair (EndpointEvent.Interrupts full) (Some e) past g n l s k = grind (arith, on_taken)
gifts-kept pair (EndpointEvent.Rts_comes on taken by_peer) None past g n l s k = grind (arith, on_taken)
gifts-kept pair (EndpointEvent.Rts_comes on taken by_peer) (Some e) past g n l s k = grind (arith, on_taken)
gifts-kept pair (EndpointEvent.Str_comes of_size by_peer) None past g n l s k = grind (arith, on_taken)
gifts-kept pair (EndpointEvent.Str_comes of_size by_peer) (Some e) past g n l s k = grind (arith, on_taken)
gifts-kept pair EndpointEvent.Cls_comes None past g n l s k = grind (arith, on_taken)
gifts-kept pair EndpointEvent.Cls_comes (Some e) past g n l s k = grind (arith, on_taken)
gifts-kept pair (EndpointEvent.All_comes on m b) None past g n l s k = grind (arith, on_taken)
gifts-kept pair (EndpointEvent.All_comes on m b) (Some e) past g n l s k = grind (arith, on_taken)
gifts-kept pair (EndpointEvent.Gvb_comes on m b) None past g n l s k = grind (arith, on_taken)
gifts-kept pair (EndpointEvent.Gvb_comes on m b) (Some e) past g n l s k = grind (arith, on_taken)
gifts-kept pair (EndpointEvent.Ret_comes on m b) before past g n l s k = absurd (cc (n, l))
gifts-kept pair (EndpointEvent.Inr_comes on) None past g n l s k = grind (arith, on_taken)
gifts-kept pair (EndpointEvent.Inr_comes on) (Some e) past g n l s k = grind (arith, on_taken)
gifts-kept pair (EndpointEvent.Ins_comes on) before past g n l s k = absurd (cc (n, l))
gifts-kept pair (EndpointEvent.Text_comes head of_size text) before past g n l s k = absurd (cc (n, l))
gifts-kept pair EndpointEvent.Text_goes_out None past g n l s k = grind (arith, on_taken)
gifts-kept pair EndpointEvent.Text_goes_out (Some e) past g n l s k = grind (arith, on_taken)
gifts-kept pair (EndpointEvent.Is_answered how) None past g n l s k = grind (arith, on_taken)
gifts-kept pair (EndpointEvent.Is_answered how) (Some e) past g n l s k = grind (arith, on_taken)
gifts-kept pair EndpointEvent.Is_cleared before past g n l s k = grind (arith, on_taken)
