-- Meant for other crates too: they cite what is public here.
--
-- What a leaving end waits for.
use Rattle.std.proofs.Common.{◌≡◌, ℕ, Bool, true, false, List, [], ◌∷◌, Option, None, Some, refl, sym, subst, arith, length-append}
use Rattle.std.specs.FinMap.{get, get-empty}
use Rattle.ncp_model.specs.declared.pair.Pair.{Pair}
use Rattle.ncp_model.specs.Pairs.{pair_cmp}
use Rattle.ncp_model.specs.Endpoint.{Endpoint}
use Rattle.ncp_model.specs.Ends.{Ends, put, no_ends}
use Rattle.ncp_model.specs.Texts.{Rfnm, Incomplete, Dead}
use Rattle.ncp_model.specs.EndpointEvents.{EndpointEvent, Transition, happens}
use Rattle.ncp_model.specs.Sending.{is_full}
use Rattle.ncp_proof_machine.specs.Resets.{is_up, host_makes_all, Party, This, That}
use Rattle.ncp_proof_endpoint.specs.Sound.{SoundAt}
use Rattle.ncp_proof_endpoint.proofs.SoundEnds.{one_way, sound-after}
use Rattle.ncp_proof_machine.specs.Hosts.{Node, PairCall, called, happens_at, node_calls, TwoNodes, nodes_swapped, NodeStep, node_steps, NodeEvent, node_at, run_from, run, start}
use Rattle.ncp_proof_machine.proofs.EndsGood.{Changes, changed-each, put-changes}
use Rattle.ncp_proof_machine.proofs.HostsBase.{either, other-keeps}
use Rattle.ncp_proof_machine.proofs.Standing.{ByLinks, StandsIn, keeping, none-stand, step-keeps}
use Rattle.ncp_proof_progress.specs.Idle.{LeavingAt}

-- an end after something happened there
abbrev After : Pair → EndpointEvent → Option Endpoint → Type 0
After pair what before = SoundAt pair before → LeavingAt pair before → LeavingAt pair (happens pair what before).after

asks-send : (pair : Pair) (of_size with_room own : ℕ) (full : Bool) (e : Endpoint) → After pair (EndpointEvent.Asks_to_send of_size with_room own full) (Some e)
asks-send pair of_size with_room own full e s l = go e.asked e.heard refl refl
  where
    go : (a h : Bool) → e.asked ≡ a → e.heard ≡ h → LeavingAt pair (happens pair (EndpointEvent.Asks_to_send of_size with_room own full) (Some e)).after
    go true true p q = grind arith
    go true false p q = grind arith
    go false true p q = grind arith
    go false false p q = grind arith

asks-receive : (pair : Pair) (with_room on own : ℕ) (full : Bool) (e : Endpoint) → After pair (EndpointEvent.Asks_to_receive with_room on own full) (Some e)
asks-receive pair with_room on own full e s l = go e.asked e.heard refl refl
  where
    go : (a h : Bool) → e.asked ≡ a → e.heard ≡ h → LeavingAt pair (happens pair (EndpointEvent.Asks_to_receive with_room on own full) (Some e)).after
    go true true p q = grind arith
    go true false p q = grind arith
    go false true p q = grind arith
    go false false p q = grind arith

closes : (pair : Pair) (full : Bool) (e : Endpoint) → After pair (EndpointEvent.Closes full) (Some e)
closes pair full e s l = let o = one_way pair in grind (arith, o)

gives : (pair : Pair) (text : List Bool) (e : Endpoint) → After pair (EndpointEvent.Gives text) (Some e)
gives pair text e s l = grind (arith, length-append)

takes : (pair : Pair) (bytes : ℕ) (e : Endpoint) → After pair (EndpointEvent.Takes bytes) (Some e)
takes pair bytes e s l = let o = one_way pair in grind (arith, o)

cls : (pair : Pair) (e : Endpoint) → After pair EndpointEvent.Cls_comes (Some e)
cls pair e s l = let o = one_way pair in grind (arith, o)

text-comes : (pair : Pair) (head : List Bool) (of_size : ℕ) (text : List Bool) (e : Endpoint) → After pair (EndpointEvent.Text_comes head of_size text) (Some e)
text-comes pair head of_size text e s l = grind (arith, length-append)

goes-out : (pair : Pair) (e : Endpoint) → After pair EndpointEvent.Text_goes_out (Some e)
goes-out pair e s l = let o = one_way pair in grind (arith, o)

answered : (pair : Pair) (e : Endpoint) → After pair (EndpointEvent.Is_answered Rfnm) (Some e)
answered pair e s l = let o = one_way pair in grind (arith, o)

pub leaving-after : (pair : Pair) (what : EndpointEvent) (before : Option Endpoint) → SoundAt pair before → LeavingAt pair before → LeavingAt pair (happens pair what before).after
leaving-after pair (EndpointEvent.Asks_to_send of_size with_room own full) None s l = grind arith
leaving-after pair (EndpointEvent.Asks_to_send of_size with_room own full) (Some e) s l = asks-send pair of_size with_room own full e s l
leaving-after pair (EndpointEvent.Asks_to_receive with_room on own full) None s l = grind arith
leaving-after pair (EndpointEvent.Asks_to_receive with_room on own full) (Some e) s l = asks-receive pair with_room on own full e s l
leaving-after pair (EndpointEvent.Closes full) None s l = l
leaving-after pair (EndpointEvent.Closes full) (Some e) s l = closes pair full e s l
leaving-after pair (EndpointEvent.Gives text) None s l = l
leaving-after pair (EndpointEvent.Gives text) (Some e) s l = gives pair text e s l
leaving-after pair (EndpointEvent.Takes bytes) None s l = l
leaving-after pair (EndpointEvent.Takes bytes) (Some e) s l = takes pair bytes e s l
leaving-after pair (EndpointEvent.Allocates m b full) None s l = l
leaving-after pair (EndpointEvent.Allocates m b full) (Some e) s l = grind arith
leaving-after pair (EndpointEvent.Calls_back m b full) None s l = l
leaving-after pair (EndpointEvent.Calls_back m b full) (Some e) s l = grind arith
leaving-after pair (EndpointEvent.Interrupts full) None s l = l
leaving-after pair (EndpointEvent.Interrupts full) (Some e) s l = grind arith
leaving-after pair (EndpointEvent.Rts_comes on taken by_peer) None s l = grind arith
leaving-after pair (EndpointEvent.Rts_comes on taken by_peer) (Some e) s l = grind arith
leaving-after pair (EndpointEvent.Str_comes of_size by_peer) None s l = grind arith
leaving-after pair (EndpointEvent.Str_comes of_size by_peer) (Some e) s l = grind arith
leaving-after pair EndpointEvent.Cls_comes None s l = grind arith
leaving-after pair EndpointEvent.Cls_comes (Some e) s l = cls pair e s l
leaving-after pair (EndpointEvent.All_comes on m b) None s l = l
leaving-after pair (EndpointEvent.All_comes on m b) (Some e) s l = grind arith
leaving-after pair (EndpointEvent.Gvb_comes on m b) None s l = l
leaving-after pair (EndpointEvent.Gvb_comes on m b) (Some e) s l = grind arith
leaving-after pair (EndpointEvent.Ret_comes on m b) None s l = l
leaving-after pair (EndpointEvent.Ret_comes on m b) (Some e) s l = grind arith
leaving-after pair (EndpointEvent.Inr_comes on) None s l = l
leaving-after pair (EndpointEvent.Inr_comes on) (Some e) s l = grind arith
leaving-after pair (EndpointEvent.Ins_comes on) None s l = l
leaving-after pair (EndpointEvent.Ins_comes on) (Some e) s l = grind arith
leaving-after pair (EndpointEvent.Text_comes head of_size text) None s l = l
leaving-after pair (EndpointEvent.Text_comes head of_size text) (Some e) s l = text-comes pair head of_size text e s l
leaving-after pair EndpointEvent.Text_goes_out None s l = l
leaving-after pair EndpointEvent.Text_goes_out (Some e) s l = goes-out pair e s l
leaving-after pair (EndpointEvent.Is_answered Rfnm) None s l = l
leaving-after pair (EndpointEvent.Is_answered Rfnm) (Some e) s l = answered pair e s l
leaving-after pair (EndpointEvent.Is_answered Incomplete) before s l = l
leaving-after pair (EndpointEvent.Is_answered Dead) before s l = l
leaving-after pair EndpointEvent.Is_cleared before s l = tt

-- of all ends of a host

abbrev Each : Ends → Type 0
Each m = (pair : Pair) → SoundAt pair (get m pair) × LeavingAt pair (get m pair)

none-each : Each no_ends
none-each pair = subst (λ (o : Option Endpoint). SoundAt pair o × LeavingAt pair o) (sym (get-empty pair_cmp pair)) (tt, tt)

each-after : (m k : Ends) (pair : Pair) (what : EndpointEvent) → Changes m k pair what → Each m → Each k
each-after m k pair what c g = changed-each (λ (p : Pair) (o : Option Endpoint). SoundAt p o × LeavingAt p o) m k pair what c (λ b. (sound-after pair what (get m pair) b.0, leaving-after pair what (get m pair) b.0 b.1)) g

by_links : (m k : Ends) (pair : Pair) (what : EndpointEvent) → ByLinks m pair what → Changes m k pair what → Each m → Each k
by_links m k pair what b c g = each-after m k pair what c g

abbrev Stands : Node → Type 0
Stands n = StandsIn Each n

calling-stands : (pair : Pair) (call : PairCall) (n : Node) → Stands n → Stands (node_calls pair call n)
calling-stands pair call n p =
    let what : EndpointEvent = called call (is_full n.host.phase) n.ends in
    let did : Transition = happens pair what (get n.ends pair) in
    let good = each-after n.ends (put n.ends pair did.after) pair what (put-changes n.ends pair what) p.good in
    either Stands (is_up n.host) (happens_at pair what n) n (keeping Each none-each by_links (host_makes_all did.made n.host) (put n.ends pair did.after) good) p

abbrev BothStand : TwoNodes → Type 0
BothStand w = Stands w.this × Stands w.that

step-stands : (step : NodeStep) (w : TwoNodes) → BothStand w → BothStand (node_steps step w)
step-stands step w p = (
  step-keeps Each none-each by_links step w (λ pair call e. calling-stands pair call w.this p.0) p.0,
  other-keeps Stands (λ n l q. q) (λ n ls q. q) step w p.1,
)

side-stands : (side : Party) (step : NodeStep) (w : TwoNodes) → BothStand w → BothStand (node_at side step w)
side-stands This step w p = step-stands step w p
side-stands That step w p = let q = step-stands step (nodes_swapped w) (p.1, p.0) in (q.1, q.0)

run-stands : (es : List NodeEvent) (w : TwoNodes) → BothStand w → BothStand (run_from es w)
run-stands [] w p = p
run-stands (e ∷ es) w p = run-stands es (node_at e.side e.step w) (side-stands e.side e.step w p)

pub leaving-ever : (es : List NodeEvent) (pair : Pair) → LeavingAt pair (get (run es).this.ends pair) × LeavingAt pair (get (run es).that.ends pair)
leaving-ever es pair =
    let n = none-stand Each none-each by_links in
    let q = run-stands es start (n (is_up start.this.host), n (is_up start.that.host)) in
    ((q.0.good pair).1, (q.1.good pair).1)
