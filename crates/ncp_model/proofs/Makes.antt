-- The commands that acts make.
use Rattle.std.proofs.Common.{◌≡◌, [], Option, None, Some, refl, arith}
use Rattle.std.specs.List.{filter}
use Rattle.ncp_model.specs.declared.pair.Pair.{Pair}
use Rattle.ncp_model.specs.Phase.{is_reset}
use Rattle.ncp_model.specs.Endpoint.{Endpoint}
use Rattle.ncp_model.specs.Texts.{Rfnm, Incomplete, Dead}
use Rattle.ncp_model.specs.EndpointEvents.{EndpointEvent, happens}
use Rattle.ncp_model.specs.EndpointEvents as all

abbrev pub NoReset : Pair → EndpointEvent → Option Endpoint → Type 0
NoReset pair what before = filter is_reset (happens pair what before).made ≡ []

pub none-reset : (pair : Pair) (what : EndpointEvent) (before : Option Endpoint) → NoReset pair what before
none-reset pair (all.Asks_to_send of_size with_room own full) before = grind arith
none-reset pair (all.Asks_to_receive with_room on own full) before = grind arith
none-reset pair (all.Closes full) None = refl
none-reset pair (all.Closes full) (Some e) = grind arith
none-reset pair (all.Gives text) before = refl
none-reset pair (all.Takes bytes) None = refl
none-reset pair (all.Takes bytes) (Some e) = grind arith
none-reset pair (all.Allocates m b full) None = refl
none-reset pair (all.Allocates m b full) (Some e) = grind arith
none-reset pair (all.Calls_back m b full) None = refl
none-reset pair (all.Calls_back m b full) (Some e) = grind arith
none-reset pair (all.Interrupts full) None = refl
none-reset pair (all.Interrupts full) (Some e) = grind arith
none-reset pair (all.Rts_comes on taken by_peer) before = grind arith
none-reset pair (all.Str_comes of_size by_peer) before = grind arith
none-reset pair all.Cls_comes None = grind arith
none-reset pair all.Cls_comes (Some e) = grind arith
none-reset pair (all.All_comes on m b) None = refl
none-reset pair (all.All_comes on m b) (Some e) = grind arith
none-reset pair (all.Gvb_comes on m b) None = refl
none-reset pair (all.Gvb_comes on m b) (Some e) = grind arith
none-reset pair (all.Ret_comes on m b) None = refl
none-reset pair (all.Ret_comes on m b) (Some e) = grind arith
none-reset pair (all.Inr_comes on) None = refl
none-reset pair (all.Inr_comes on) (Some e) = grind arith
none-reset pair (all.Ins_comes on) None = refl
none-reset pair (all.Ins_comes on) (Some e) = grind arith
none-reset pair (all.Text_comes head of_size text) None = refl
none-reset pair (all.Text_comes head of_size text) (Some e) = grind arith
none-reset pair all.Text_goes_out before = refl
none-reset pair (all.Is_answered Rfnm) None = refl
none-reset pair (all.Is_answered Rfnm) (Some e) = grind arith
none-reset pair (all.Is_answered Incomplete) before = refl
none-reset pair (all.Is_answered Dead) before = refl
none-reset pair all.Is_cleared before = refl
