-- The CLSs that acts make.
use Rattle.std.proofs.Common.{◌≡◌, true, false, [], ◌∷◌, Option, None, Some, arith}
use Rattle.std.specs.List.{list_any}
use Rattle.ncp_wire.specs.declared.command.Command.TheVariants.{Cls}
use Rattle.ncp_model.specs.declared.pair.Pair.{Pair}
use Rattle.ncp_model.specs.Pairs.{sends}
use Rattle.ncp_model.specs.Endpoint.{Endpoint}
use Rattle.ncp_model.specs.Texts.{Rfnm, Incomplete, Dead}
use Rattle.ncp_model.specs.EndpointEvents.{EndpointEvent, happens}
use Rattle.ncp_proof_endpoint.specs.Keeping.{is_cls, is_clearing, frees_the_sender, was_left}

pub cls-made : (pair : Pair) (what : EndpointEvent) (e : Endpoint) → is_clearing what ≡ false → e.left ≡ false → list_any is_cls (happens pair what (Some e)).made ≡ was_left (happens pair what (Some e)).after
cls-made pair (EndpointEvent.Asks_to_send of_size with_room own full) e c l = grind arith
cls-made pair (EndpointEvent.Asks_to_receive with_room on own full) e c l = grind arith
cls-made pair (EndpointEvent.Closes full) e c l = grind arith
cls-made pair (EndpointEvent.Gives text) e c l = grind arith
cls-made pair (EndpointEvent.Takes bytes) e c l = grind arith
cls-made pair (EndpointEvent.Allocates m b full) e c l = grind arith
cls-made pair (EndpointEvent.Calls_back m b full) e c l = grind arith
cls-made pair (EndpointEvent.Interrupts full) e c l = grind arith
cls-made pair (EndpointEvent.Rts_comes on taken by_peer) e c l = grind arith
cls-made pair (EndpointEvent.Str_comes of_size by_peer) e c l = grind arith
cls-made pair EndpointEvent.Cls_comes e c l = grind arith
cls-made pair (EndpointEvent.All_comes on m b) e c l = grind arith
cls-made pair (EndpointEvent.Gvb_comes on m b) e c l = grind arith
cls-made pair (EndpointEvent.Ret_comes on m b) e c l = grind arith
cls-made pair (EndpointEvent.Inr_comes on) e c l = grind arith
cls-made pair (EndpointEvent.Ins_comes on) e c l = grind arith
cls-made pair (EndpointEvent.Text_comes head of_size text) e c l = grind arith
cls-made pair EndpointEvent.Text_goes_out e c l = grind arith
cls-made pair (EndpointEvent.Is_answered Rfnm) e c l = grind arith
cls-made pair (EndpointEvent.Is_answered Incomplete) e c l = grind arith
cls-made pair (EndpointEvent.Is_answered Dead) e c l = grind arith
cls-made pair EndpointEvent.Is_cleared e c l = grind arith

pub cls-once : (pair : Pair) (what : EndpointEvent) (e : Endpoint) → e.left ≡ true → e.leaving ≡ false → list_any is_cls (happens pair what (Some e)).made ≡ false
cls-once pair (EndpointEvent.Asks_to_send of_size with_room own full) e l k = grind arith
cls-once pair (EndpointEvent.Asks_to_receive with_room on own full) e l k = grind arith
cls-once pair (EndpointEvent.Closes full) e l k = grind arith
cls-once pair (EndpointEvent.Gives text) e l k = grind arith
cls-once pair (EndpointEvent.Takes bytes) e l k = grind arith
cls-once pair (EndpointEvent.Allocates m b full) e l k = grind arith
cls-once pair (EndpointEvent.Calls_back m b full) e l k = grind arith
cls-once pair (EndpointEvent.Interrupts full) e l k = grind arith
cls-once pair (EndpointEvent.Rts_comes on taken by_peer) e l k = grind arith
cls-once pair (EndpointEvent.Str_comes of_size by_peer) e l k = grind arith
cls-once pair EndpointEvent.Cls_comes e l k = grind arith
cls-once pair (EndpointEvent.All_comes on m b) e l k = grind arith
cls-once pair (EndpointEvent.Gvb_comes on m b) e l k = grind arith
cls-once pair (EndpointEvent.Ret_comes on m b) e l k = grind arith
cls-once pair (EndpointEvent.Inr_comes on) e l k = grind arith
cls-once pair (EndpointEvent.Ins_comes on) e l k = grind arith
cls-once pair (EndpointEvent.Text_comes head of_size text) e l k = grind arith
cls-once pair EndpointEvent.Text_goes_out e l k = grind arith
cls-once pair (EndpointEvent.Is_answered Rfnm) e l k = grind arith
cls-once pair (EndpointEvent.Is_answered Incomplete) e l k = grind arith
cls-once pair (EndpointEvent.Is_answered Dead) e l k = grind arith
cls-once pair EndpointEvent.Is_cleared e l k = grind arith

pub cls-none : (pair : Pair) (what : EndpointEvent) → list_any is_cls (happens pair what None).made ≡ false
cls-none pair (EndpointEvent.Asks_to_send of_size with_room own full) = grind arith
cls-none pair (EndpointEvent.Asks_to_receive with_room on own full) = grind arith
cls-none pair (EndpointEvent.Closes full) = grind arith
cls-none pair (EndpointEvent.Gives text) = grind arith
cls-none pair (EndpointEvent.Takes bytes) = grind arith
cls-none pair (EndpointEvent.Allocates m b full) = grind arith
cls-none pair (EndpointEvent.Calls_back m b full) = grind arith
cls-none pair (EndpointEvent.Interrupts full) = grind arith
cls-none pair (EndpointEvent.Rts_comes on taken by_peer) = grind arith
cls-none pair (EndpointEvent.Str_comes of_size by_peer) = grind arith
cls-none pair EndpointEvent.Cls_comes = grind arith
cls-none pair (EndpointEvent.All_comes on m b) = grind arith
cls-none pair (EndpointEvent.Gvb_comes on m b) = grind arith
cls-none pair (EndpointEvent.Ret_comes on m b) = grind arith
cls-none pair (EndpointEvent.Inr_comes on) = grind arith
cls-none pair (EndpointEvent.Ins_comes on) = grind arith
cls-none pair (EndpointEvent.Text_comes head of_size text) = grind arith
cls-none pair EndpointEvent.Text_goes_out = grind arith
cls-none pair (EndpointEvent.Is_answered Rfnm) = grind arith
cls-none pair (EndpointEvent.Is_answered Incomplete) = grind arith
cls-none pair (EndpointEvent.Is_answered Dead) = grind arith
cls-none pair EndpointEvent.Is_cleared = grind arith

pub cls-sockets : (pair : Pair) (what : EndpointEvent) (before : Option Endpoint) → list_any is_cls (happens pair what before).made ≡ true → (happens pair what before).made ≡ Cls pair.local pair.remote ∷ []
cls-sockets pair (EndpointEvent.Asks_to_send of_size with_room own full) before h = grind arith
cls-sockets pair (EndpointEvent.Asks_to_receive with_room on own full) before h = grind arith
cls-sockets pair (EndpointEvent.Closes full) None h = grind arith
cls-sockets pair (EndpointEvent.Closes full) (Some e) h = grind arith
cls-sockets pair (EndpointEvent.Gives text) None h = grind arith
cls-sockets pair (EndpointEvent.Gives text) (Some e) h = grind arith
cls-sockets pair (EndpointEvent.Takes bytes) None h = grind arith
cls-sockets pair (EndpointEvent.Takes bytes) (Some e) h = grind arith
cls-sockets pair (EndpointEvent.Allocates m b full) None h = grind arith
cls-sockets pair (EndpointEvent.Allocates m b full) (Some e) h = grind arith
cls-sockets pair (EndpointEvent.Calls_back m b full) None h = grind arith
cls-sockets pair (EndpointEvent.Calls_back m b full) (Some e) h = grind arith
cls-sockets pair (EndpointEvent.Interrupts full) None h = grind arith
cls-sockets pair (EndpointEvent.Interrupts full) (Some e) h = grind arith
cls-sockets pair (EndpointEvent.Rts_comes on taken by_peer) before h = grind arith
cls-sockets pair (EndpointEvent.Str_comes of_size by_peer) before h = grind arith
cls-sockets pair EndpointEvent.Cls_comes None h = grind arith
cls-sockets pair EndpointEvent.Cls_comes (Some e) h = grind arith
cls-sockets pair (EndpointEvent.All_comes on m b) None h = grind arith
cls-sockets pair (EndpointEvent.All_comes on m b) (Some e) h = grind arith
cls-sockets pair (EndpointEvent.Gvb_comes on m b) None h = grind arith
cls-sockets pair (EndpointEvent.Gvb_comes on m b) (Some e) h = grind arith
cls-sockets pair (EndpointEvent.Ret_comes on m b) None h = grind arith
cls-sockets pair (EndpointEvent.Ret_comes on m b) (Some e) h = grind arith
cls-sockets pair (EndpointEvent.Inr_comes on) None h = grind arith
cls-sockets pair (EndpointEvent.Inr_comes on) (Some e) h = grind arith
cls-sockets pair (EndpointEvent.Ins_comes on) None h = grind arith
cls-sockets pair (EndpointEvent.Ins_comes on) (Some e) h = grind arith
cls-sockets pair (EndpointEvent.Text_comes head of_size text) None h = grind arith
cls-sockets pair (EndpointEvent.Text_comes head of_size text) (Some e) h = grind arith
cls-sockets pair EndpointEvent.Text_goes_out None h = grind arith
cls-sockets pair EndpointEvent.Text_goes_out (Some e) h = grind arith
cls-sockets pair (EndpointEvent.Is_answered Rfnm) None h = grind arith
cls-sockets pair (EndpointEvent.Is_answered Rfnm) (Some e) h = grind arith
cls-sockets pair (EndpointEvent.Is_answered Incomplete) before h = grind arith
cls-sockets pair (EndpointEvent.Is_answered Dead) before h = grind arith
cls-sockets pair EndpointEvent.Is_cleared before h = grind arith

pub cls-waits : (pair : Pair) (what : EndpointEvent) (e : Endpoint) → sends pair ≡ true → e.busy ≡ true → frees_the_sender what ≡ false → list_any is_cls (happens pair what (Some e)).made ≡ false
cls-waits pair (EndpointEvent.Asks_to_send of_size with_room own full) e s u r = grind arith
cls-waits pair (EndpointEvent.Asks_to_receive with_room on own full) e s u r = grind arith
cls-waits pair (EndpointEvent.Closes full) e s u r = grind arith
cls-waits pair (EndpointEvent.Gives text) e s u r = grind arith
cls-waits pair (EndpointEvent.Takes bytes) e s u r = grind arith
cls-waits pair (EndpointEvent.Allocates m b full) e s u r = grind arith
cls-waits pair (EndpointEvent.Calls_back m b full) e s u r = grind arith
cls-waits pair (EndpointEvent.Interrupts full) e s u r = grind arith
cls-waits pair (EndpointEvent.Rts_comes on taken by_peer) e s u r = grind arith
cls-waits pair (EndpointEvent.Str_comes of_size by_peer) e s u r = grind arith
cls-waits pair EndpointEvent.Cls_comes e s u r = grind arith
cls-waits pair (EndpointEvent.All_comes on m b) e s u r = grind arith
cls-waits pair (EndpointEvent.Gvb_comes on m b) e s u r = grind arith
cls-waits pair (EndpointEvent.Ret_comes on m b) e s u r = grind arith
cls-waits pair (EndpointEvent.Inr_comes on) e s u r = grind arith
cls-waits pair (EndpointEvent.Ins_comes on) e s u r = grind arith
cls-waits pair (EndpointEvent.Text_comes head of_size text) e s u r = grind arith
cls-waits pair EndpointEvent.Text_goes_out e s u r = grind arith
cls-waits pair (EndpointEvent.Is_answered Rfnm) e s u r = grind arith
cls-waits pair (EndpointEvent.Is_answered Incomplete) e s u r = grind arith
cls-waits pair (EndpointEvent.Is_answered Dead) e s u r = grind arith
cls-waits pair EndpointEvent.Is_cleared e s u r = grind arith

pub cls-dropped : (pair : Pair) (what : EndpointEvent) (x e : Endpoint) → (happens pair what (Some x)).after ≡ Some e → x.left ≡ false → e.left ≡ true → e.stored ≡ []
cls-dropped pair (EndpointEvent.Asks_to_send of_size with_room own full) x e h l k = grind arith
cls-dropped pair (EndpointEvent.Asks_to_receive with_room on own full) x e h l k = grind arith
cls-dropped pair (EndpointEvent.Closes full) x e h l k = grind arith
cls-dropped pair (EndpointEvent.Gives text) x e h l k = grind arith
cls-dropped pair (EndpointEvent.Takes bytes) x e h l k = grind arith
cls-dropped pair (EndpointEvent.Allocates m b full) x e h l k = grind arith
cls-dropped pair (EndpointEvent.Calls_back m b full) x e h l k = grind arith
cls-dropped pair (EndpointEvent.Interrupts full) x e h l k = grind arith
cls-dropped pair (EndpointEvent.Rts_comes on taken by_peer) x e h l k = grind arith
cls-dropped pair (EndpointEvent.Str_comes of_size by_peer) x e h l k = grind arith
cls-dropped pair EndpointEvent.Cls_comes x e h l k = grind arith
cls-dropped pair (EndpointEvent.All_comes on m b) x e h l k = grind arith
cls-dropped pair (EndpointEvent.Gvb_comes on m b) x e h l k = grind arith
cls-dropped pair (EndpointEvent.Ret_comes on m b) x e h l k = grind arith
cls-dropped pair (EndpointEvent.Inr_comes on) x e h l k = grind arith
cls-dropped pair (EndpointEvent.Ins_comes on) x e h l k = grind arith
cls-dropped pair (EndpointEvent.Text_comes head of_size text) x e h l k = grind arith
cls-dropped pair EndpointEvent.Text_goes_out x e h l k = grind arith
cls-dropped pair (EndpointEvent.Is_answered Rfnm) x e h l k = grind arith
cls-dropped pair (EndpointEvent.Is_answered Incomplete) x e h l k = grind arith
cls-dropped pair (EndpointEvent.Is_answered Dead) x e h l k = grind arith
cls-dropped pair EndpointEvent.Is_cleared x e h l k = grind arith
