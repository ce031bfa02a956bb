-- What waits is proper: requests of right sexes, with a link from 2 to 71 or a size, and CLS of one socket of each sex. Each end
-- is of such sockets.
use Rattle.std.proofs.Common.{◌≡◌, ℕ, ◌==◌, Bool, true, false, not, ◌&&◌, ◌||◌, nat_le, if◌then◌else◌, List, [], ◌∷◌, ◌++◌, Option, None, Some, is_some, refl, arith}
use Rattle.std.specs.FinMap.{get}
use Rattle.ncp_wire.specs.declared.command.Command.{Command}
use Rattle.ncp_wire.specs.declared.command.Command.TheVariants.{Rts, Str, Cls}
use Rattle.ncp_model.specs.declared.pair.Pair.{Pair}
use Rattle.ncp_model.specs.declared.limits.TheConstants.{MAX_OWN}
use Rattle.ncp_model.specs.Pairs.{sends, receives, is_proper}
use Rattle.ncp_model.specs.Endpoint.{Endpoint}
use Rattle.ncp_model.specs.Ends.{Ends}
use Rattle.ncp_model.specs.Texts.{Rfnm, Incomplete, Dead}
use Rattle.ncp_model.specs.EndpointEvents.{EndpointEvent, happens}
use Rattle.ncp_model.specs.Peers.{PairCall, Ask_to_send, Ask_to_receive, Close, Give, Take, Allocate, Call_back, Interrupt, called}
use Rattle.ncp_model.proofs.FreeLinks.{free-from, free-room}
use Rattle.ncp_monitor.specs.declared.finding.Rule.{Rule}
use Rattle.ncp_interface.specs.declared.request.Request.TheVariants.{Link, Size}
use Rattle.ncp_monitor.specs.Requests.{range_rule}
use Rattle.ncp_interface.specs.Sockets.{is_of_sexes}

-- the sockets, the link and the size that a request or a CLS may have
abbrev pub has_right_parts : Command → Bool
has_right_parts (Rts receive send link) = is_of_sexes receive send && (nat_le 2 link && nat_le link 71)
has_right_parts (Str send receive size) = is_of_sexes receive send && not (size == 0)
has_right_parts (Cls my your) = is_of_sexes my your || is_of_sexes your my
has_right_parts c = true

abbrev pub AllProper : List Command → Type 0
AllProper [] = Unit {0}
AllProper (c ∷ cs) = (has_right_parts c ≡ true) × AllProper cs

-- an end is of one socket of each sex
abbrev pub IsProperEnd : Pair → Option Endpoint → Type 0
IsProperEnd pair o = is_some o ≡ true → is_proper pair ≡ true

abbrev pub ProperEnds : Ends → Type 0
ProperEnds m = (pair : Pair) → IsProperEnd pair (get m pair)

-- ---- lists

pub proper_append : (cs ds : List Command) → AllProper cs → AllProper ds → AllProper (cs ++ ds)
proper_append [] ds a b = b
proper_append (c ∷ cs) ds (k, a) b = (k, proper_append cs ds a b)

-- ---- what is made is proper, if the end was, and if an RTS is made with a link that may be

abbrev pub HasLink : EndpointEvent → Type 0
HasLink (EndpointEvent.Asks_to_receive room on own full) = nat_le MAX_OWN own ≡ false → (nat_le 2 on && nat_le on 71) ≡ true
HasLink what = Unit {0}

sexes : (pair : Pair) → is_proper pair ≡ true → (is_of_sexes pair.local pair.remote || is_of_sexes pair.remote pair.local) ≡ true
sexes pair p = grind arith

receiving : (pair : Pair) → receives pair ≡ true → is_of_sexes pair.local pair.remote ≡ true
receiving pair r = grind arith

sending : (pair : Pair) → sends pair ≡ true → is_of_sexes pair.remote pair.local ≡ true
sending pair s = grind arith

abbrev Made : Pair → EndpointEvent → Option Endpoint → Type 0
Made pair what before = AllProper (happens pair what before).made

made_to_send : (pair : Pair) (of_size room own : ℕ) (full : Bool) (before : Option Endpoint) → Made pair (EndpointEvent.Asks_to_send of_size room own full) before
made_to_send pair of_size room own full before = let s = sending pair in grind arith

pub proper_made : (pair : Pair) (what : EndpointEvent) (before : Option Endpoint) → IsProperEnd pair before → HasLink what → Made pair what before
proper_made pair (EndpointEvent.Asks_to_send of_size room own full) before p l = made_to_send pair of_size room own full before
proper_made pair (EndpointEvent.Asks_to_receive room on own full) before p l = let r = receiving pair in grind arith
proper_made pair (EndpointEvent.Closes full) None p l = tt
proper_made pair (EndpointEvent.Closes full) (Some e) p l = let s = sexes pair (p refl) in grind arith
proper_made pair (EndpointEvent.Gives text) before p l = tt
proper_made pair (EndpointEvent.Takes bytes) None p l = tt
proper_made pair (EndpointEvent.Takes bytes) (Some e) p l = let s = sexes pair (p refl) in grind arith
proper_made pair (EndpointEvent.Allocates m b full) None p l = tt
proper_made pair (EndpointEvent.Allocates m b full) (Some e) p l = grind arith
proper_made pair (EndpointEvent.Calls_back m b full) None p l = tt
proper_made pair (EndpointEvent.Calls_back m b full) (Some e) p l = grind arith
proper_made pair (EndpointEvent.Interrupts full) None p l = tt
proper_made pair (EndpointEvent.Interrupts full) (Some e) p l = grind arith
proper_made pair (EndpointEvent.Rts_comes on taken by_peer) before p l = grind arith
proper_made pair (EndpointEvent.Str_comes of_size by_peer) before p l = grind arith
proper_made pair EndpointEvent.Cls_comes None p l = grind arith
proper_made pair EndpointEvent.Cls_comes (Some e) p l = let s = sexes pair (p refl) in grind arith
proper_made pair (EndpointEvent.All_comes on m b) before p l = grind arith
proper_made pair (EndpointEvent.Gvb_comes on m b) before p l = grind arith
proper_made pair (EndpointEvent.Ret_comes on m b) before p l = grind arith
proper_made pair (EndpointEvent.Inr_comes on) before p l = grind arith
proper_made pair (EndpointEvent.Ins_comes on) before p l = grind arith
proper_made pair (EndpointEvent.Text_comes head of_size text) before p l = grind arith
proper_made pair EndpointEvent.Text_goes_out before p l = tt
proper_made pair (EndpointEvent.Is_answered Rfnm) None p l = tt
proper_made pair (EndpointEvent.Is_answered Rfnm) (Some e) p l = let s = sexes pair (p refl) in grind arith
proper_made pair (EndpointEvent.Is_answered Incomplete) before p l = tt
proper_made pair (EndpointEvent.Is_answered Dead) before p l = tt
proper_made pair EndpointEvent.Is_cleared before p l = tt

-- the free link is one that may be, while fewer have asked than may
pub call_link : (call : PairCall) (full : Bool) (m : Ends) → HasLink (called call full m)
call_link (Ask_to_send of_size room) full m = tt
call_link (Ask_to_receive room) full m = λ few. let r = free-room m (grind arith) in let f = free-from m in grind arith
call_link Close full m = tt
call_link (Give text) full m = tt
call_link (Take bytes) full m = tt
call_link (Allocate x y) full m = tt
call_link (Call_back x y) full m = tt
call_link Interrupt full m = tt

-- ---- an end is proper after all that happens there

pub proper_after : (pair : Pair) (what : EndpointEvent) (before : Option Endpoint) → IsProperEnd pair before → IsProperEnd pair (happens pair what before).after
proper_after pair (EndpointEvent.Asks_to_send of_size room own full) before p = grind arith
proper_after pair (EndpointEvent.Asks_to_receive room on own full) before p = grind arith
proper_after pair (EndpointEvent.Closes full) None p = p
proper_after pair (EndpointEvent.Closes full) (Some e) p = λ x. p refl
proper_after pair (EndpointEvent.Gives text) None p = p
proper_after pair (EndpointEvent.Gives text) (Some e) p = λ x. p refl
proper_after pair (EndpointEvent.Takes bytes) None p = p
proper_after pair (EndpointEvent.Takes bytes) (Some e) p = λ x. p refl
proper_after pair (EndpointEvent.Allocates m b full) None p = p
proper_after pair (EndpointEvent.Allocates m b full) (Some e) p = λ x. p refl
proper_after pair (EndpointEvent.Calls_back m b full) None p = p
proper_after pair (EndpointEvent.Calls_back m b full) (Some e) p = λ x. p refl
proper_after pair (EndpointEvent.Interrupts full) None p = p
proper_after pair (EndpointEvent.Interrupts full) (Some e) p = λ x. p refl
proper_after pair (EndpointEvent.Rts_comes on taken by_peer) None p = grind arith
proper_after pair (EndpointEvent.Rts_comes on taken by_peer) (Some e) p = λ x. p refl
proper_after pair (EndpointEvent.Str_comes of_size by_peer) None p = grind arith
proper_after pair (EndpointEvent.Str_comes of_size by_peer) (Some e) p = λ x. p refl
proper_after pair EndpointEvent.Cls_comes None p = grind arith
proper_after pair EndpointEvent.Cls_comes (Some e) p = λ x. p refl
proper_after pair (EndpointEvent.All_comes on m b) None p = p
proper_after pair (EndpointEvent.All_comes on m b) (Some e) p = λ x. p refl
proper_after pair (EndpointEvent.Gvb_comes on m b) None p = p
proper_after pair (EndpointEvent.Gvb_comes on m b) (Some e) p = λ x. p refl
proper_after pair (EndpointEvent.Ret_comes on m b) None p = p
proper_after pair (EndpointEvent.Ret_comes on m b) (Some e) p = λ x. p refl
proper_after pair (EndpointEvent.Inr_comes on) None p = p
proper_after pair (EndpointEvent.Inr_comes on) (Some e) p = λ x. p refl
proper_after pair (EndpointEvent.Ins_comes on) None p = p
proper_after pair (EndpointEvent.Ins_comes on) (Some e) p = λ x. p refl
proper_after pair (EndpointEvent.Text_comes head of_size text) None p = p
proper_after pair (EndpointEvent.Text_comes head of_size text) (Some e) p = λ x. p refl
proper_after pair EndpointEvent.Text_goes_out None p = p
proper_after pair EndpointEvent.Text_goes_out (Some e) p = λ x. p refl
proper_after pair (EndpointEvent.Is_answered Rfnm) None p = p
proper_after pair (EndpointEvent.Is_answered Rfnm) (Some e) p = λ x. p refl
proper_after pair (EndpointEvent.Is_answered Incomplete) before p = p
proper_after pair (EndpointEvent.Is_answered Dead) before p = p
proper_after pair EndpointEvent.Is_cleared before p = λ x. absurd (cc x)

-- ---- facts about a sent command

pub rts_range : (receive send link : ℕ) → has_right_parts (Rts receive send link) ≡ true → (is_of_sexes receive send ≡ true) × (range_rule (Rts receive send link) (Link link) ≡ None)
rts_range receive send link p = go (is_of_sexes receive send) (nat_le 2 link && nat_le link 71) p
  where
    go : (s r : Bool) → (s && r) ≡ true → (s ≡ true) × ((if r then None else Some (Rule.LinkRange (Rts receive send link))) ≡ None)
    go true true p = (refl, refl)
    go true false p = absurd (cc p)
    go false r p = absurd (cc p)

pub str_range : (send receive size : ℕ) → has_right_parts (Str send receive size) ≡ true → (is_of_sexes receive send ≡ true) × (range_rule (Str send receive size) (Size size) ≡ None)
str_range send receive size p = go (is_of_sexes receive send) (size == 0) p
  where
    go : (s r : Bool) → (s && not r) ≡ true → (s ≡ true) × ((if r then Some (Rule.SizeZero (Str send receive size)) else None) ≡ None)
    go true true p = absurd (cc p)
    go true false p = (refl, refl)
    go false r p = absurd (cc p)
