-- A refusal changes nothing.
use Rattle.std.proofs.Common.{◌≡◌, true, Option, None, Some, arith}
use Rattle.ncp_model.specs.declared.pair.Pair.{Pair}
use Rattle.ncp_model.specs.Endpoint.{Endpoint}
use Rattle.ncp_model.specs.Texts.{Rfnm, Incomplete, Dead}
use Rattle.ncp_model.specs.EndpointEvents.{EndpointEvent, happens}
use Rattle.ncp_proof_endpoint.specs.Refusals.{is_refused_outcome, made_by_refusal}

pub refused-end : (pair : Pair) (what : EndpointEvent) (before : Option Endpoint) → is_refused_outcome (happens pair what before).outcome ≡ true → (happens pair what before).after ≡ before
refused-end pair (EndpointEvent.Asks_to_send of_size with_room own full) before h = grind arith
refused-end pair (EndpointEvent.Asks_to_receive with_room on own full) before h = grind arith
refused-end pair (EndpointEvent.Closes full) None h = grind arith
refused-end pair (EndpointEvent.Closes full) (Some e) h = grind arith
refused-end pair (EndpointEvent.Gives text) None h = grind arith
refused-end pair (EndpointEvent.Gives text) (Some e) h = grind arith
refused-end pair (EndpointEvent.Takes bytes) None h = grind arith
refused-end pair (EndpointEvent.Takes bytes) (Some e) h = grind arith
refused-end pair (EndpointEvent.Allocates m b full) None h = grind arith
refused-end pair (EndpointEvent.Allocates m b full) (Some e) h = grind arith
refused-end pair (EndpointEvent.Calls_back m b full) None h = grind arith
refused-end pair (EndpointEvent.Calls_back m b full) (Some e) h = grind arith
refused-end pair (EndpointEvent.Interrupts full) None h = grind arith
refused-end pair (EndpointEvent.Interrupts full) (Some e) h = grind arith
refused-end pair (EndpointEvent.Rts_comes on taken by_peer) before h = grind arith
refused-end pair (EndpointEvent.Str_comes of_size by_peer) before h = grind arith
refused-end pair EndpointEvent.Cls_comes None h = grind arith
refused-end pair EndpointEvent.Cls_comes (Some e) h = grind arith
refused-end pair (EndpointEvent.All_comes on m b) None h = grind arith
refused-end pair (EndpointEvent.All_comes on m b) (Some e) h = grind arith
refused-end pair (EndpointEvent.Gvb_comes on m b) None h = grind arith
refused-end pair (EndpointEvent.Gvb_comes on m b) (Some e) h = grind arith
refused-end pair (EndpointEvent.Ret_comes on m b) None h = grind arith
refused-end pair (EndpointEvent.Ret_comes on m b) (Some e) h = grind arith
refused-end pair (EndpointEvent.Inr_comes on) None h = grind arith
refused-end pair (EndpointEvent.Inr_comes on) (Some e) h = grind arith
refused-end pair (EndpointEvent.Ins_comes on) None h = grind arith
refused-end pair (EndpointEvent.Ins_comes on) (Some e) h = grind arith
refused-end pair (EndpointEvent.Text_comes head of_size text) None h = grind arith
refused-end pair (EndpointEvent.Text_comes head of_size text) (Some e) h = grind arith
refused-end pair EndpointEvent.Text_goes_out None h = grind arith
refused-end pair EndpointEvent.Text_goes_out (Some e) h = grind arith
refused-end pair (EndpointEvent.Is_answered Rfnm) None h = grind arith
refused-end pair (EndpointEvent.Is_answered Rfnm) (Some e) h = grind arith
refused-end pair (EndpointEvent.Is_answered Incomplete) before h = grind arith
refused-end pair (EndpointEvent.Is_answered Dead) before h = grind arith
refused-end pair EndpointEvent.Is_cleared before h = grind arith

pub refused-made : (pair : Pair) (what : EndpointEvent) (before : Option Endpoint) → is_refused_outcome (happens pair what before).outcome ≡ true → (happens pair what before).made ≡ made_by_refusal what (happens pair what before).outcome
refused-made pair (EndpointEvent.Asks_to_send of_size with_room own full) before h = grind arith
refused-made pair (EndpointEvent.Asks_to_receive with_room on own full) before h = grind arith
refused-made pair (EndpointEvent.Closes full) None h = grind arith
refused-made pair (EndpointEvent.Closes full) (Some e) h = grind arith
refused-made pair (EndpointEvent.Gives text) None h = grind arith
refused-made pair (EndpointEvent.Gives text) (Some e) h = grind arith
refused-made pair (EndpointEvent.Takes bytes) None h = grind arith
refused-made pair (EndpointEvent.Takes bytes) (Some e) h = grind arith
refused-made pair (EndpointEvent.Allocates m b full) None h = grind arith
refused-made pair (EndpointEvent.Allocates m b full) (Some e) h = grind arith
refused-made pair (EndpointEvent.Calls_back m b full) None h = grind arith
refused-made pair (EndpointEvent.Calls_back m b full) (Some e) h = grind arith
refused-made pair (EndpointEvent.Interrupts full) None h = grind arith
refused-made pair (EndpointEvent.Interrupts full) (Some e) h = grind arith
refused-made pair (EndpointEvent.Rts_comes on taken by_peer) before h = grind arith
refused-made pair (EndpointEvent.Str_comes of_size by_peer) before h = grind arith
refused-made pair EndpointEvent.Cls_comes None h = grind arith
refused-made pair EndpointEvent.Cls_comes (Some e) h = grind arith
refused-made pair (EndpointEvent.All_comes on m b) None h = grind arith
refused-made pair (EndpointEvent.All_comes on m b) (Some e) h = grind arith
refused-made pair (EndpointEvent.Gvb_comes on m b) None h = grind arith
refused-made pair (EndpointEvent.Gvb_comes on m b) (Some e) h = grind arith
refused-made pair (EndpointEvent.Ret_comes on m b) None h = grind arith
refused-made pair (EndpointEvent.Ret_comes on m b) (Some e) h = grind arith
refused-made pair (EndpointEvent.Inr_comes on) None h = grind arith
refused-made pair (EndpointEvent.Inr_comes on) (Some e) h = grind arith
refused-made pair (EndpointEvent.Ins_comes on) None h = grind arith
refused-made pair (EndpointEvent.Ins_comes on) (Some e) h = grind arith
refused-made pair (EndpointEvent.Text_comes head of_size text) None h = grind arith
refused-made pair (EndpointEvent.Text_comes head of_size text) (Some e) h = grind arith
refused-made pair EndpointEvent.Text_goes_out None h = grind arith
refused-made pair EndpointEvent.Text_goes_out (Some e) h = grind arith
refused-made pair (EndpointEvent.Is_answered Rfnm) None h = grind arith
refused-made pair (EndpointEvent.Is_answered Rfnm) (Some e) h = grind arith
refused-made pair (EndpointEvent.Is_answered Incomplete) before h = grind arith
refused-made pair (EndpointEvent.Is_answered Dead) before h = grind arith
refused-made pair EndpointEvent.Is_cleared before h = grind arith
