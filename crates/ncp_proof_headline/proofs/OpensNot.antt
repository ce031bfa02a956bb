-- Where a host has no ends, one step opens none: an end opens only where an own request and the
-- peer's were both made, and one step has but one call, or commands that come, and no call.
use Rattle.std.proofs.Common.{◌≡◌, ◌⊎◌, inl, inr, Bool, true, false, if◌then◌else◌, Option, None, Some, refl, sym, ap, ◌∙◌, subst, arith}
use Rattle.std.specs.FinMap.{get, get-empty}
use Rattle.ncp_wire.specs.declared.command.Command.{Command}
use Rattle.ncp_model.specs.declared.pair.Pair.{Pair}
use Rattle.ncp_model.specs.Pairs.{pair_cmp}
use Rattle.ncp_model.specs.Endpoint.{Endpoint, is_live}
use Rattle.ncp_model.specs.Texts.{Rfnm, Incomplete}
use Rattle.ncp_wire.specs.declared.answer.Answer.{Answer}
use Rattle.ncp_model.specs.Ends.{Ends, has_asked, no_ends, put}
use Rattle.ncp_model.specs.EndpointEvents.{EndpointEvent, happens}
use Rattle.ncp_model.specs.Demux.{passes}
use Rattle.ncp_model.specs.Sending.{is_full}
use Rattle.ncp_proof_machine.specs.Resets.{ResetHost, is_up, host_makes_all, Party, This, That}
use Rattle.ncp_proof_machine.specs.Hosts.{Node, PairCall, called, happens_at, node_hears, TwoNodes, nodes_swapped, NodeStep, Calls, node_steps, node_at}
use Rattle.ncp_proof_machine.proofs.EndsGood.{Changes, same_or, changed-each, put-changes}
use Rattle.ncp_proof_machine.proofs.HostsBase.{either, other-keeps}
use Rattle.ncp_proof_machine.proofs.Standing.{asks, ByLinks, StandsIn, command-stands, step-keeps}

-- an end, if one is there, has no own request, and did not open
abbrev Unopened : Pair → Option Endpoint → Type 0
Unopened pair o = (passes has_asked pair o ≡ false) × (is_live o ≡ false)

abbrev NoneOpen : Ends → Type 0
NoneOpen m = (p : Pair) → Unopened p (get m p)

none-open : NoneOpen no_ends
none-open p = subst (Unopened p) (sym (get-empty pair_cmp p)) (refl, refl)

-- nothing but an own request asks, and without one nothing opens
unopened-after : (pair : Pair) (what : EndpointEvent) (before : Option Endpoint) → asks what ≡ false → Unopened pair before → Unopened pair (happens pair what before).after
unopened-after pair (EndpointEvent.Asks_to_send of_size with_room own full) before a u = absurd (cc a)
unopened-after pair (EndpointEvent.Asks_to_receive with_room on own full) before a u = absurd (cc a)
unopened-after pair (EndpointEvent.Closes full) None a u = u
unopened-after pair (EndpointEvent.Closes full) (Some e) a u = grind arith
unopened-after pair (EndpointEvent.Gives text) None a u = u
unopened-after pair (EndpointEvent.Gives text) (Some e) a u = grind arith
unopened-after pair (EndpointEvent.Takes bytes) None a u = u
unopened-after pair (EndpointEvent.Takes bytes) (Some e) a u = grind arith
unopened-after pair (EndpointEvent.Allocates m b full) None a u = u
unopened-after pair (EndpointEvent.Allocates m b full) (Some e) a u = grind arith
unopened-after pair (EndpointEvent.Calls_back m b full) None a u = u
unopened-after pair (EndpointEvent.Calls_back m b full) (Some e) a u = grind arith
unopened-after pair (EndpointEvent.Interrupts full) None a u = u
unopened-after pair (EndpointEvent.Interrupts full) (Some e) a u = grind arith
unopened-after pair (EndpointEvent.Rts_comes on taken by_peer) None a u = grind arith
unopened-after pair (EndpointEvent.Rts_comes on taken by_peer) (Some e) a u = grind arith
unopened-after pair (EndpointEvent.Str_comes of_size by_peer) None a u = grind arith
unopened-after pair (EndpointEvent.Str_comes of_size by_peer) (Some e) a u = grind arith
unopened-after pair EndpointEvent.Cls_comes None a u = grind arith
unopened-after pair EndpointEvent.Cls_comes (Some e) a u = grind arith
unopened-after pair (EndpointEvent.All_comes on m b) None a u = u
unopened-after pair (EndpointEvent.All_comes on m b) (Some e) a u = grind arith
unopened-after pair (EndpointEvent.Gvb_comes on m b) None a u = u
unopened-after pair (EndpointEvent.Gvb_comes on m b) (Some e) a u = grind arith
unopened-after pair (EndpointEvent.Ret_comes on m b) None a u = u
unopened-after pair (EndpointEvent.Ret_comes on m b) (Some e) a u = grind arith
unopened-after pair (EndpointEvent.Inr_comes on) None a u = u
unopened-after pair (EndpointEvent.Inr_comes on) (Some e) a u = grind arith
unopened-after pair (EndpointEvent.Ins_comes on) None a u = u
unopened-after pair (EndpointEvent.Ins_comes on) (Some e) a u = grind arith
unopened-after pair (EndpointEvent.Text_comes head of_size text) None a u = u
unopened-after pair (EndpointEvent.Text_comes head of_size text) (Some e) a u = grind arith
unopened-after pair EndpointEvent.Text_goes_out None a u = u
unopened-after pair EndpointEvent.Text_goes_out (Some e) a u = grind arith
unopened-after pair (EndpointEvent.Is_answered Rfnm) None a u = u
unopened-after pair (EndpointEvent.Is_answered Rfnm) (Some e) a u = grind arith
unopened-after pair (EndpointEvent.Is_answered Incomplete) before a u = u
unopened-after pair (EndpointEvent.Is_answered Answer.Dead) before a u = u
unopened-after pair EndpointEvent.Is_cleared before a u = (refl, refl)

-- one call where no end is: the peer's request is not there, so nothing opens
called-unopened : (pair : Pair) (call : PairCall) (full : Bool) (m : Ends) → is_live (happens pair (called call full m) None).after ≡ false
called-unopened pair call full m = grind arith

-- one end is changed, and by no own request
by_links : (m k : Ends) (pair : Pair) (what : EndpointEvent) → ByLinks m pair what → Changes m k pair what → NoneOpen m → NoneOpen k
by_links m k pair what b c u = changed-each Unopened m k pair what c (unopened-after pair what (get m pair) b.unasked) u

none-stand : (n : Node) → n.ends ≡ no_ends → StandsIn NoneOpen n
none-stand n e = record { none = λ _. e; good = subst NoneOpen (sym e) none-open }

-- where there were no ends a command opens none
pub none-live-heard : (c : Command) (n : Node) (p : Pair) → n.ends ≡ no_ends → is_live (get (node_hears c n).ends p) ≡ false
none-live-heard c n p e = ((command-stands NoneOpen none-open by_links c n (none-stand n e)).good p).1

-- a call puts one end there, that is not open
calling-opens : (pair : Pair) (call : PairCall) (n : Node) (p : Pair) → n.ends ≡ no_ends → is_live (get (happens_at pair (called call (is_full n.host.phase) n.ends) n).ends p) ≡ false
calling-opens pair call n p e = go (is_up host)
  where
    what : EndpointEvent
    what = called call (is_full n.host.phase) n.ends

    host : ResetHost
    host = host_makes_all (happens pair what (get n.ends pair)).made n.host

    m : Ends
    m = put n.ends pair (happens pair what (get n.ends pair)).after

    absent : (q : Pair) → get n.ends q ≡ None
    absent q = ap (λ (k : Ends). get k q) e ∙ get-empty pair_cmp q

    beside : (p ≡ pair) ⊎ ((p ≡ pair) → ⊥) → is_live (get m p) ≡ false
    beside (inl s) =
        ap (λ (q : Pair). is_live (get m q)) s
        ∙ ap is_live (put-changes n.ends pair what).there
        ∙ ap (λ (o : Option Endpoint). is_live (happens pair what o).after) (absent pair)
        ∙ called-unopened pair call (is_full n.host.phase) n.ends
    beside (inr d) = ap is_live ((put-changes n.ends pair what).elsewhere p d ∙ absent p)

    go : (b : Bool) → is_live (get (if b then m else no_ends) p) ≡ false
    go true = beside (same_or p pair)
    go false = (none-open p).1

-- this host's step, and its ends
pub none-live : (step : NodeStep) (w : TwoNodes) (p : Pair) → w.this.ends ≡ no_ends → is_live (get (node_steps step w).this.ends p) ≡ false
none-live (Calls pair call) w p e =
    either (λ (n : Node). is_live (get n.ends p) ≡ false) (is_up w.this.host) (happens_at pair (called call (is_full w.this.host.phase) w.this.ends) w.this) w.this
    (calling-opens pair call w.this p e) ((none-stand w.this e).good p).1
none-live step w p e = ((step-keeps NoneOpen none-open by_links step w (λ pair call f. absurd (cc f)) (none-stand w.this e)).good p).1

-- a step of this host leaves that host's ends as they are
pub none-live-there : (step : NodeStep) (w : TwoNodes) (p : Pair) → w.that.ends ≡ no_ends → is_live (get (node_steps step w).that.ends p) ≡ false
none-live-there step w p e =
    let same = other-keeps (λ (n : Node). n.ends ≡ w.that.ends) (λ n l f. f) (λ n ls f. f) step w refl in
    ap (λ (m : Ends). is_live (get m p)) (same ∙ e) ∙ (none-open p).1

-- a step of either host
pub none-live-at : (side : Party) (step : NodeStep) (w : TwoNodes) (p : Pair)
    → (w.this.ends ≡ no_ends → is_live (get (node_at side step w).this.ends p) ≡ false) × (w.that.ends ≡ no_ends → is_live (get (node_at side step w).that.ends p) ≡ false)
none-live-at This step w p = (λ e. none-live step w p e, λ e. none-live-there step w p e)
none-live-at That step w p = (λ e. none-live-there step (nodes_swapped w) p e, λ e. none-live step (nodes_swapped w) p e)
