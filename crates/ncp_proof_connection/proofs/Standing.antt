-- After any event, an end that exists was requested, and its room is that of a store.
use Rattle.std.proofs.Common.{◌≡◌, Bool, true, ◌||◌, ◌&&◌, nat_le, Option, None, Some, refl, arith}
use Rattle.std.proofs.lemmas.Bool.{and_parts, leb-true}
use Rattle.ncp_model.specs.declared.pair.Pair.{Pair}
use Rattle.ncp_model.specs.Endpoint.{Endpoint, or_new}
use Rattle.ncp_model.specs.Texts.{Rfnm, Incomplete, Dead}
use Rattle.ncp_proof_endpoint.specs.Sound.{SoundAt}
use Rattle.ncp_model.specs.EndpointEvents.{EndpointEvent, happens}
use Rattle.ncp_proof_connection.proofs.Joint.{EndpointInvariant, firm, new_firm}

abbrev pub stands : Option Endpoint → Bool
stands None = true
stands (Some e) = (e.asked || e.heard) && nat_le e.room 65536

abbrev pub StillStands : Pair → EndpointEvent → Option Endpoint → Type 0
StillStands pair what before = stands before ≡ true → stands (happens pair what before).after ≡ true

pub stands-after : (pair : Pair) (what : EndpointEvent) (before : Option Endpoint) → StillStands pair what before
stands-after pair (EndpointEvent.Asks_to_send of_size with_room own full) None = λ s. grind arith
stands-after pair (EndpointEvent.Asks_to_send of_size with_room own full) (Some e) = λ s. grind arith
stands-after pair (EndpointEvent.Asks_to_receive with_room on own full) None = λ s. grind arith
stands-after pair (EndpointEvent.Asks_to_receive with_room on own full) (Some e) = λ s. grind arith
stands-after pair (EndpointEvent.Closes full) None = λ s. refl
stands-after pair (EndpointEvent.Closes full) (Some e) = λ s. grind arith
stands-after pair (EndpointEvent.Gives text) None = λ s. refl
stands-after pair (EndpointEvent.Gives text) (Some e) = λ s. grind arith
stands-after pair (EndpointEvent.Takes bytes) None = λ s. refl
stands-after pair (EndpointEvent.Takes bytes) (Some e) = λ s. grind arith
stands-after pair (EndpointEvent.Allocates m b full) None = λ s. refl
stands-after pair (EndpointEvent.Allocates m b full) (Some e) = λ s. grind arith
stands-after pair (EndpointEvent.Calls_back m b full) None = λ s. refl
stands-after pair (EndpointEvent.Calls_back m b full) (Some e) = λ s. grind arith
stands-after pair (EndpointEvent.Interrupts full) None = λ s. refl
stands-after pair (EndpointEvent.Interrupts full) (Some e) = λ s. grind arith
stands-after pair (EndpointEvent.Rts_comes on taken by_peer) None = λ s. grind arith
stands-after pair (EndpointEvent.Rts_comes on taken by_peer) (Some e) = λ s. grind arith
stands-after pair (EndpointEvent.Str_comes of_size by_peer) None = λ s. grind arith
stands-after pair (EndpointEvent.Str_comes of_size by_peer) (Some e) = λ s. grind arith
stands-after pair EndpointEvent.Cls_comes None = λ s. grind arith
stands-after pair EndpointEvent.Cls_comes (Some e) = λ s. grind arith
stands-after pair (EndpointEvent.All_comes on m b) None = λ s. refl
stands-after pair (EndpointEvent.All_comes on m b) (Some e) = λ s. grind arith
stands-after pair (EndpointEvent.Gvb_comes on m b) None = λ s. refl
stands-after pair (EndpointEvent.Gvb_comes on m b) (Some e) = λ s. grind arith
stands-after pair (EndpointEvent.Ret_comes on m b) None = λ s. refl
stands-after pair (EndpointEvent.Ret_comes on m b) (Some e) = λ s. grind arith
stands-after pair (EndpointEvent.Inr_comes on) None = λ s. refl
stands-after pair (EndpointEvent.Inr_comes on) (Some e) = λ s. grind arith
stands-after pair (EndpointEvent.Ins_comes on) None = λ s. refl
stands-after pair (EndpointEvent.Ins_comes on) (Some e) = λ s. grind arith
stands-after pair (EndpointEvent.Text_comes head of_size text) None = λ s. refl
stands-after pair (EndpointEvent.Text_comes head of_size text) (Some e) = λ s. grind arith
stands-after pair EndpointEvent.Text_goes_out None = λ s. refl
stands-after pair EndpointEvent.Text_goes_out (Some e) = λ s. grind arith
stands-after pair (EndpointEvent.Is_answered Rfnm) None = λ s. refl
stands-after pair (EndpointEvent.Is_answered Rfnm) (Some e) = λ s. grind arith
stands-after pair (EndpointEvent.Is_answered Incomplete) before = λ s. s
stands-after pair (EndpointEvent.Is_answered Dead) before = λ s. s
stands-after pair EndpointEvent.Is_cleared before = λ s. refl

pub firm_of : (pair : Pair) (o : Option Endpoint) → SoundAt pair o → stands o ≡ true → EndpointInvariant (or_new o)
firm_of pair None s t = new_firm
firm_of pair (Some e) s t = (let f = and_parts (e.asked || e.heard) (nat_le e.room 65536) t in firm pair e s (λ _. f.0) (leb-true e.room 65536 f.1))
