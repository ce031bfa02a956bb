-- Meant for other crates too: they cite what is public here.
--
-- What acts change of an end's link, and what they make of requests.
use Rattle.std.proofs.Common.{◌≡◌, ℕ, Bool, true, false, List, [], ◌∷◌, Option, None, Some, refl, arith}
use Rattle.std.proofs.lemmas.Bool.{both_ways}
use Rattle.ncp_wire.specs.declared.command.Command.{Command}
use Rattle.ncp_wire.specs.declared.command.Command.TheVariants.{Rts}
use Rattle.ncp_model.specs.declared.pair.Pair.{Pair}
use Rattle.ncp_model.specs.Pairs.{sends, receives}
use Rattle.ncp_model.specs.Endpoint.{Endpoint, or_new}
use Rattle.ncp_model.specs.Texts.{Rfnm, Incomplete, Dead}
use Rattle.ncp_model.specs.EndpointEvents.{EndpointEvent, happens}
use Rattle.ncp_proof_connection.proofs.ReceiverActs.{only_receives}

-- no request to send is among these
abbrev pub no_rts : List Command → Bool
no_rts [] = true
no_rts (Rts receive send on ∷ cs) = false
no_rts (c ∷ cs) = no_rts cs

-- An end that is left is not on its way out, and no CLS came to it.
abbrev pub Left : Option Endpoint → Type 0
Left before = (or_new before).left ≡ true → ((or_new before).leaving ≡ false) × ((or_new before).cls ≡ false)

-- What a sender's end heard is unchanged, unless an RTS or a CLS arrives, after which the end may no
-- longer exist. An end that was left stays left.
abbrev pub keeps_link : EndpointEvent → Bool
keeps_link (EndpointEvent.Rts_comes on taken by_peer) = false
keeps_link EndpointEvent.Cls_comes = false
keeps_link EndpointEvent.Is_cleared = false
keeps_link what = true

abbrev pub SenderCalm : Option Endpoint → Option Endpoint → Type 0
SenderCalm before after = ((or_new after).heard ≡ true → ((or_new before).heard ≡ true) × ((or_new after).link ≡ (or_new before).link))
    × ((or_new before).left ≡ true → (or_new after).left ≡ true)

pub sender_calm : (pair : Pair) (what : EndpointEvent) (before : Option Endpoint) → sends pair ≡ true → keeps_link what ≡ true → Left before → SenderCalm before (happens pair what before).after
sender_calm pair (EndpointEvent.Asks_to_send a b n full) None sd c d = (λ h. (grind arith, grind arith), λ l. grind arith)
sender_calm pair (EndpointEvent.Asks_to_send a b n full) (Some e) sd c d = (λ h. (grind arith, grind arith), λ l. let m = d l in let m0 = m.0 in let m1 = m.1 in grind arith)
sender_calm pair (EndpointEvent.Asks_to_receive a on n full) None sd c d = (λ h. (grind arith, grind arith), λ l. grind arith)
sender_calm pair (EndpointEvent.Asks_to_receive a on n full) (Some e) sd c d = (λ h. (grind arith, grind arith), λ l. let m = d l in let m0 = m.0 in let m1 = m.1 in grind arith)
sender_calm pair (EndpointEvent.Closes full) None sd c d = (λ h. (h, refl), λ l. l)
sender_calm pair (EndpointEvent.Closes full) (Some e) sd c d = (λ h. (grind arith, grind arith), λ l. let m = d l in let m0 = m.0 in let m1 = m.1 in grind arith)
sender_calm pair (EndpointEvent.Gives text) None sd c d = (λ h. (h, refl), λ l. l)
sender_calm pair (EndpointEvent.Gives text) (Some e) sd c d = (λ h. (grind arith, grind arith), λ l. let m = d l in let m0 = m.0 in let m1 = m.1 in grind arith)
sender_calm pair (EndpointEvent.Takes n) None sd c d = (λ h. (h, refl), λ l. l)
sender_calm pair (EndpointEvent.Takes n) (Some e) sd c d = (λ h. (grind arith, grind arith), λ l. let m = d l in let m0 = m.0 in let m1 = m.1 in grind arith)
sender_calm pair (EndpointEvent.Allocates a b full) None sd c d = (λ h. (h, refl), λ l. l)
sender_calm pair (EndpointEvent.Allocates a b full) (Some e) sd c d = (λ h. (grind arith, grind arith), λ l. let m = d l in let m0 = m.0 in let m1 = m.1 in grind arith)
sender_calm pair (EndpointEvent.Calls_back a b full) None sd c d = (λ h. (h, refl), λ l. l)
sender_calm pair (EndpointEvent.Calls_back a b full) (Some e) sd c d = (λ h. (grind arith, grind arith), λ l. let m = d l in let m0 = m.0 in let m1 = m.1 in grind arith)
sender_calm pair (EndpointEvent.Interrupts full) None sd c d = (λ h. (h, refl), λ l. l)
sender_calm pair (EndpointEvent.Interrupts full) (Some e) sd c d = (λ h. (grind arith, grind arith), λ l. let m = d l in let m0 = m.0 in let m1 = m.1 in grind arith)
sender_calm pair (EndpointEvent.Rts_comes on taken n) before sd c d = absurd (both_ways false refl c)
sender_calm pair (EndpointEvent.Str_comes a n) None sd c d = (λ h. (grind arith, grind arith), λ l. grind arith)
sender_calm pair (EndpointEvent.Str_comes a n) (Some e) sd c d = (λ h. (grind arith, grind arith), λ l. let m = d l in let m0 = m.0 in let m1 = m.1 in grind arith)
sender_calm pair EndpointEvent.Cls_comes before sd c d = absurd (both_ways false refl c)
sender_calm pair (EndpointEvent.All_comes on a b) None sd c d = (λ h. (h, refl), λ l. l)
sender_calm pair (EndpointEvent.All_comes on a b) (Some e) sd c d = (λ h. (grind arith, grind arith), λ l. let m = d l in let m0 = m.0 in let m1 = m.1 in grind arith)
sender_calm pair (EndpointEvent.Gvb_comes on a b) None sd c d = (λ h. (h, refl), λ l. l)
sender_calm pair (EndpointEvent.Gvb_comes on a b) (Some e) sd c d = (λ h. (grind arith, grind arith), λ l. let m = d l in let m0 = m.0 in let m1 = m.1 in grind arith)
sender_calm pair (EndpointEvent.Ret_comes on a b) None sd c d = (λ h. (h, refl), λ l. l)
sender_calm pair (EndpointEvent.Ret_comes on a b) (Some e) sd c d = (λ h. (grind arith, grind arith), λ l. let m = d l in let m0 = m.0 in let m1 = m.1 in grind arith)
sender_calm pair (EndpointEvent.Inr_comes on) None sd c d = (λ h. (h, refl), λ l. l)
sender_calm pair (EndpointEvent.Inr_comes on) (Some e) sd c d = (λ h. (grind arith, grind arith), λ l. let m = d l in let m0 = m.0 in let m1 = m.1 in grind arith)
sender_calm pair (EndpointEvent.Ins_comes on) None sd c d = (λ h. (h, refl), λ l. l)
sender_calm pair (EndpointEvent.Ins_comes on) (Some e) sd c d = (λ h. (grind arith, grind arith), λ l. let m = d l in let m0 = m.0 in let m1 = m.1 in grind arith)
sender_calm pair (EndpointEvent.Text_comes head n text) None sd c d = (λ h. (h, refl), λ l. l)
sender_calm pair (EndpointEvent.Text_comes head n text) (Some e) sd c d = (λ h. (grind arith, grind arith), λ l. let m = d l in let m0 = m.0 in let m1 = m.1 in grind arith)
sender_calm pair EndpointEvent.Text_goes_out None sd c d = (λ h. (h, refl), λ l. l)
sender_calm pair EndpointEvent.Text_goes_out (Some e) sd c d = (λ h. (grind arith, grind arith), λ l. let m = d l in let m0 = m.0 in let m1 = m.1 in grind arith)
sender_calm pair (EndpointEvent.Is_answered Rfnm) None sd c d = (λ h. (h, refl), λ l. l)
sender_calm pair (EndpointEvent.Is_answered Rfnm) (Some e) sd c d = (λ h. (grind arith, grind arith), λ l. let m = d l in let m0 = m.0 in let m1 = m.1 in grind arith)
sender_calm pair (EndpointEvent.Is_answered Incomplete) before sd c d = (λ h. (h, refl), λ l. l)
sender_calm pair (EndpointEvent.Is_answered Dead) before sd c d = (λ h. (h, refl), λ l. l)
sender_calm pair EndpointEvent.Is_cleared before sd c d = absurd (both_ways false refl c)

-- an RTS that comes to an end that heard none
pub sender_hears_rts : (pair : Pair) (on n : ℕ) (before : Option Endpoint) → sends pair ≡ true → Left before → (or_new before).heard ≡ false
    → ((or_new (happens pair (EndpointEvent.Rts_comes on false n) before).after).heard ≡ true → (or_new (happens pair (EndpointEvent.Rts_comes on false n) before).after).link ≡ on)
    × ((or_new before).left ≡ true → (or_new (happens pair (EndpointEvent.Rts_comes on false n) before).after).left ≡ true)
sender_hears_rts pair on n None sd d u = (λ h. grind arith, λ l. grind arith)
sender_hears_rts pair on n (Some e) sd d u = (λ h. grind arith, λ l. let m = d l in let m0 = m.0 in let m1 = m.1 in grind arith)

-- a CLS arrives at an end that had received none: one that was left no longer exists
pub sender_hears_cls : (pair : Pair) (before : Option Endpoint) → sends pair ≡ true → (or_new before).cls ≡ false
    → (or_new (happens pair EndpointEvent.Cls_comes before).after).heard ≡ true → ((or_new before).left ≡ false) × ((or_new before).heard ≡ true) × ((or_new (happens pair EndpointEvent.Cls_comes before).after).link ≡ (or_new before).link)
sender_hears_cls pair None sd c = λ h. (refl, grind arith, grind arith)
sender_hears_cls pair (Some e) sd c = λ h. (grind arith, grind arith, grind arith)

-- A receiver asks with its link alone, and makes an RTS then alone.
abbrev pub asks_link : EndpointEvent → Bool
asks_link (EndpointEvent.Asks_to_receive with_room on own full) = true
asks_link what = false

abbrev pub ReceiverCalm : Option Endpoint → Option Endpoint → Type 0
ReceiverCalm before after = (or_new after).asked ≡ true → ((or_new before).asked ≡ true) × ((or_new after).link ≡ (or_new before).link)

pub receiver_calm : (pair : Pair) (what : EndpointEvent) (before : Option Endpoint) → receives pair ≡ true → asks_link what ≡ false → ReceiverCalm before (happens pair what before).after
receiver_calm pair (EndpointEvent.Asks_to_send a b n full) before rd c = rw (only_receives pair rd) (λ h. (h, refl))
receiver_calm pair (EndpointEvent.Asks_to_receive a on n full) before rd c = absurd (both_ways true c refl)
receiver_calm pair (EndpointEvent.Closes full) None rd c = λ h. (h, refl)
receiver_calm pair (EndpointEvent.Closes full) (Some e) rd c = λ h. (grind arith, grind arith)
receiver_calm pair (EndpointEvent.Gives text) None rd c = λ h. (h, refl)
receiver_calm pair (EndpointEvent.Gives text) (Some e) rd c = λ h. (grind arith, grind arith)
receiver_calm pair (EndpointEvent.Takes n) None rd c = λ h. (h, refl)
receiver_calm pair (EndpointEvent.Takes n) (Some e) rd c = λ h. (grind arith, grind arith)
receiver_calm pair (EndpointEvent.Allocates a b full) None rd c = λ h. (h, refl)
receiver_calm pair (EndpointEvent.Allocates a b full) (Some e) rd c = λ h. (grind arith, grind arith)
receiver_calm pair (EndpointEvent.Calls_back a b full) None rd c = λ h. (h, refl)
receiver_calm pair (EndpointEvent.Calls_back a b full) (Some e) rd c = λ h. (grind arith, grind arith)
receiver_calm pair (EndpointEvent.Interrupts full) None rd c = λ h. (h, refl)
receiver_calm pair (EndpointEvent.Interrupts full) (Some e) rd c = λ h. (grind arith, grind arith)
receiver_calm pair (EndpointEvent.Rts_comes on taken n) None rd c = λ h. (grind arith, grind arith)
receiver_calm pair (EndpointEvent.Rts_comes on taken n) (Some e) rd c = λ h. (grind arith, grind arith)
receiver_calm pair (EndpointEvent.Str_comes a n) None rd c = λ h. (grind arith, grind arith)
receiver_calm pair (EndpointEvent.Str_comes a n) (Some e) rd c = λ h. (grind arith, grind arith)
receiver_calm pair EndpointEvent.Cls_comes None rd c = λ h. (grind arith, grind arith)
receiver_calm pair EndpointEvent.Cls_comes (Some e) rd c = λ h. (grind arith, grind arith)
receiver_calm pair (EndpointEvent.All_comes on a b) None rd c = λ h. (h, refl)
receiver_calm pair (EndpointEvent.All_comes on a b) (Some e) rd c = λ h. (grind arith, grind arith)
receiver_calm pair (EndpointEvent.Gvb_comes on a b) None rd c = λ h. (h, refl)
receiver_calm pair (EndpointEvent.Gvb_comes on a b) (Some e) rd c = λ h. (grind arith, grind arith)
receiver_calm pair (EndpointEvent.Ret_comes on a b) None rd c = λ h. (h, refl)
receiver_calm pair (EndpointEvent.Ret_comes on a b) (Some e) rd c = λ h. (grind arith, grind arith)
receiver_calm pair (EndpointEvent.Inr_comes on) None rd c = λ h. (h, refl)
receiver_calm pair (EndpointEvent.Inr_comes on) (Some e) rd c = λ h. (grind arith, grind arith)
receiver_calm pair (EndpointEvent.Ins_comes on) None rd c = λ h. (h, refl)
receiver_calm pair (EndpointEvent.Ins_comes on) (Some e) rd c = λ h. (grind arith, grind arith)
receiver_calm pair (EndpointEvent.Text_comes head n text) None rd c = λ h. (h, refl)
receiver_calm pair (EndpointEvent.Text_comes head n text) (Some e) rd c = λ h. (grind arith, grind arith)
receiver_calm pair EndpointEvent.Text_goes_out None rd c = λ h. (h, refl)
receiver_calm pair EndpointEvent.Text_goes_out (Some e) rd c = λ h. (grind arith, grind arith)
receiver_calm pair (EndpointEvent.Is_answered Rfnm) None rd c = λ h. (h, refl)
receiver_calm pair (EndpointEvent.Is_answered Rfnm) (Some e) rd c = λ h. (grind arith, grind arith)
receiver_calm pair (EndpointEvent.Is_answered Incomplete) before rd c = λ h. (h, refl)
receiver_calm pair (EndpointEvent.Is_answered Dead) before rd c = λ h. (h, refl)
receiver_calm pair EndpointEvent.Is_cleared before rd c = λ h. absurd (both_ways false refl h)

pub makes_no_rts : (pair : Pair) (what : EndpointEvent) (before : Option Endpoint) → receives pair ≡ true → asks_link what ≡ false → no_rts (happens pair what before).made ≡ true
makes_no_rts pair (EndpointEvent.Asks_to_send a b n full) None rd c = grind arith
makes_no_rts pair (EndpointEvent.Asks_to_send a b n full) (Some e) rd c = grind arith
makes_no_rts pair (EndpointEvent.Asks_to_receive a on n full) before rd c = absurd (both_ways true c refl)
makes_no_rts pair (EndpointEvent.Closes full) None rd c = refl
makes_no_rts pair (EndpointEvent.Closes full) (Some e) rd c = grind arith
makes_no_rts pair (EndpointEvent.Gives text) before rd c = refl
makes_no_rts pair (EndpointEvent.Takes n) None rd c = refl
makes_no_rts pair (EndpointEvent.Takes n) (Some e) rd c = grind arith
makes_no_rts pair (EndpointEvent.Allocates a b full) None rd c = refl
makes_no_rts pair (EndpointEvent.Allocates a b full) (Some e) rd c = grind arith
makes_no_rts pair (EndpointEvent.Calls_back a b full) None rd c = refl
makes_no_rts pair (EndpointEvent.Calls_back a b full) (Some e) rd c = grind arith
makes_no_rts pair (EndpointEvent.Interrupts full) None rd c = refl
makes_no_rts pair (EndpointEvent.Interrupts full) (Some e) rd c = grind arith
makes_no_rts pair (EndpointEvent.Rts_comes on taken n) None rd c = grind arith
makes_no_rts pair (EndpointEvent.Rts_comes on taken n) (Some e) rd c = grind arith
makes_no_rts pair (EndpointEvent.Str_comes a n) None rd c = grind arith
makes_no_rts pair (EndpointEvent.Str_comes a n) (Some e) rd c = grind arith
makes_no_rts pair EndpointEvent.Cls_comes None rd c = grind arith
makes_no_rts pair EndpointEvent.Cls_comes (Some e) rd c = grind arith
makes_no_rts pair (EndpointEvent.All_comes on a b) None rd c = refl
makes_no_rts pair (EndpointEvent.All_comes on a b) (Some e) rd c = grind arith
makes_no_rts pair (EndpointEvent.Gvb_comes on a b) None rd c = refl
makes_no_rts pair (EndpointEvent.Gvb_comes on a b) (Some e) rd c = grind arith
makes_no_rts pair (EndpointEvent.Ret_comes on a b) None rd c = refl
makes_no_rts pair (EndpointEvent.Ret_comes on a b) (Some e) rd c = grind arith
makes_no_rts pair (EndpointEvent.Inr_comes on) None rd c = refl
makes_no_rts pair (EndpointEvent.Inr_comes on) (Some e) rd c = grind arith
makes_no_rts pair (EndpointEvent.Ins_comes on) None rd c = refl
makes_no_rts pair (EndpointEvent.Ins_comes on) (Some e) rd c = grind arith
makes_no_rts pair (EndpointEvent.Text_comes head n text) None rd c = refl
makes_no_rts pair (EndpointEvent.Text_comes head n text) (Some e) rd c = grind arith
makes_no_rts pair EndpointEvent.Text_goes_out before rd c = refl
makes_no_rts pair (EndpointEvent.Is_answered Rfnm) None rd c = refl
makes_no_rts pair (EndpointEvent.Is_answered Rfnm) (Some e) rd c = grind arith
makes_no_rts pair (EndpointEvent.Is_answered Incomplete) before rd c = refl
makes_no_rts pair (EndpointEvent.Is_answered Dead) before rd c = refl
makes_no_rts pair EndpointEvent.Is_cleared before rd c = refl
