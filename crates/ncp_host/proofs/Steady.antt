-- What the acts on an end leave of what ties a sending end to its link.
use Rattle.std.proofs.Common.{◌≡◌, ℕ, Bool, true, false, Option, None, Some, if◌then◌else◌, ◌==◌, refl, sym, ap, ◌∙◌, subst, arith}
use Rattle.ncp_model.specs.declared.pair.Pair.{Pair}
use Rattle.ncp_model.specs.Pairs.{sends, receives}
use Rattle.ncp_wire.specs.declared.command.Command.TheVariants.{Rts}
use Rattle.ncp_model.specs.declared.outcomes.Heard.TheVariants.{Nothing}
use Rattle.ncp_model.specs.Endpoint.{Endpoint, is_ended}
use Rattle.ncp_model.specs.Effect.{Becomes, end_after, wrong_parameters}
use Rattle.ncp_model.specs.Commands.{wrong_rts, heard_link, errs}
use Rattle.ncp_model.specs.Ends.{hears_link}
use Rattle.ncp_model.specs.Texts.{Rfnm, Incomplete, Dead}
use Rattle.ncp_model.specs.Demux.{passes}
use Rattle.ncp_model.specs.EndpointEvents.{EndpointEvent, happens}
use Rattle.ncp_model.specs.EndpointEvents as all
use Rattle.ncp_peer.specs.Soundness.{is_end_busy}

-- no text of the end goes out
abbrev pub is_still : EndpointEvent → Bool
is_still all.Text_goes_out = false
is_still what = true

pub stays-busy : (pair : Pair) (what : EndpointEvent) (before : Option Endpoint) (e : Endpoint) → (happens pair what before).after ≡ Some e → is_still what ≡ true → e.busy ≡ true → is_end_busy before ≡ true
stays-busy pair (all.Asks_to_send of_size with_room own full) None e h s k = grind arith
stays-busy pair (all.Asks_to_send of_size with_room own full) (Some x) e h s k = grind arith
stays-busy pair (all.Asks_to_receive with_room by own full) None e h s k = grind arith
stays-busy pair (all.Asks_to_receive with_room by own full) (Some x) e h s k = grind arith
stays-busy pair (all.Closes full) None e h s k = grind arith
stays-busy pair (all.Closes full) (Some x) e h s k = grind arith
stays-busy pair (all.Gives text) None e h s k = grind arith
stays-busy pair (all.Gives text) (Some x) e h s k = grind arith
stays-busy pair (all.Takes bytes) None e h s k = grind arith
stays-busy pair (all.Takes bytes) (Some x) e h s k = grind arith
stays-busy pair (all.Allocates m b full) None e h s k = grind arith
stays-busy pair (all.Allocates m b full) (Some x) e h s k = grind arith
stays-busy pair (all.Calls_back m b full) None e h s k = grind arith
stays-busy pair (all.Calls_back m b full) (Some x) e h s k = grind arith
stays-busy pair (all.Interrupts full) None e h s k = grind arith
stays-busy pair (all.Interrupts full) (Some x) e h s k = grind arith
stays-busy pair (all.Rts_comes by taken by_peer) None e h s k = grind arith
stays-busy pair (all.Rts_comes by taken by_peer) (Some x) e h s k = grind arith
stays-busy pair (all.Str_comes of_size by_peer) None e h s k = grind arith
stays-busy pair (all.Str_comes of_size by_peer) (Some x) e h s k = grind arith
stays-busy pair all.Cls_comes None e h s k = grind arith
stays-busy pair all.Cls_comes (Some x) e h s k = grind arith
stays-busy pair (all.All_comes by m b) None e h s k = grind arith
stays-busy pair (all.All_comes by m b) (Some x) e h s k = grind arith
stays-busy pair (all.Gvb_comes by m b) None e h s k = grind arith
stays-busy pair (all.Gvb_comes by m b) (Some x) e h s k = grind arith
stays-busy pair (all.Ret_comes by m b) None e h s k = grind arith
stays-busy pair (all.Ret_comes by m b) (Some x) e h s k = grind arith
stays-busy pair (all.Inr_comes by) None e h s k = grind arith
stays-busy pair (all.Inr_comes by) (Some x) e h s k = grind arith
stays-busy pair (all.Ins_comes by) None e h s k = grind arith
stays-busy pair (all.Ins_comes by) (Some x) e h s k = grind arith
stays-busy pair (all.Text_comes head of_size text) None e h s k = grind arith
stays-busy pair (all.Text_comes head of_size text) (Some x) e h s k = grind arith
stays-busy pair all.Text_goes_out before e h s k = absurd (cc s)
stays-busy pair (all.Is_answered Rfnm) None e h s k = grind arith
stays-busy pair (all.Is_answered Rfnm) (Some x) e h s k = grind arith
stays-busy pair (all.Is_answered Incomplete) None e h s k = grind arith
stays-busy pair (all.Is_answered Incomplete) (Some x) e h s k = grind arith
stays-busy pair (all.Is_answered Dead) None e h s k = grind arith
stays-busy pair (all.Is_answered Dead) (Some x) e h s k = grind arith
stays-busy pair all.Is_cleared before e h s k = absurd (cc h)

sender : (on : ℕ) (pair : Pair) (e : Endpoint) → hears_link on (pair, e) ≡ true → sends pair ≡ true
sender on pair e h = grind arith

receives_not : (pair : Pair) → sends pair ≡ true → receives pair ≡ false
receives_not pair h = grind arith

-- a sending end asks for no link
asks_not : (pair : Pair) (with_room by own : ℕ) (full : Bool) (before : Option Endpoint) → receives pair ≡ false → (happens pair (all.Asks_to_receive with_room by own full) before).after ≡ before
asks_not pair with_room by own full before r = grind (arith, r)

same_end : (x e : Endpoint) → ◌≡◌ {A = Option Endpoint} (Some x) (Some e) → x ≡ e
same_end x e h = cc h

pub stays-heard : (on : ℕ) (pair : Pair) (what : EndpointEvent) (x e : Endpoint) → (happens pair what (Some x)).after ≡ Some e → hears_link on (pair, x) ≡ true → hears_link on (pair, e) ≡ true
stays-heard on pair (all.Asks_to_send of_size with_room own full) x e h k = grind arith
stays-heard on pair (all.Asks_to_receive with_room by own full) x e h k =
    let same : x ≡ e = same_end x e (sym (asks_not pair with_room by own full (Some x) (receives_not pair (sender on pair x k))) ∙ h) in
    subst (λ (y : Endpoint). hears_link on (pair, y) ≡ true) same k
stays-heard on pair (all.Closes full) x e h k = grind arith
stays-heard on pair (all.Gives text) x e h k = grind arith
stays-heard on pair (all.Takes bytes) x e h k = grind arith
stays-heard on pair (all.Allocates m b full) x e h k = grind arith
stays-heard on pair (all.Calls_back m b full) x e h k = grind arith
stays-heard on pair (all.Interrupts full) x e h k = grind arith
stays-heard on pair (all.Rts_comes by taken by_peer) x e h k = grind arith
stays-heard on pair (all.Str_comes of_size by_peer) x e h k = grind arith
stays-heard on pair all.Cls_comes x e h k = grind arith
stays-heard on pair (all.All_comes by m b) x e h k = grind arith
stays-heard on pair (all.Gvb_comes by m b) x e h k = grind arith
stays-heard on pair (all.Ret_comes by m b) x e h k = grind arith
stays-heard on pair (all.Inr_comes by) x e h k = grind arith
stays-heard on pair (all.Ins_comes by) x e h k = grind arith
stays-heard on pair (all.Text_comes head of_size text) x e h k = grind arith
stays-heard on pair all.Text_goes_out x e h k = grind arith
stays-heard on pair (all.Is_answered Rfnm) x e h k = grind arith
stays-heard on pair (all.Is_answered Incomplete) x e h k = grind arith
stays-heard on pair (all.Is_answered Dead) x e h k = grind arith
stays-heard on pair all.Is_cleared x e h k = absurd (cc h)

-- an RTS that comes: it is wrong, and changes nothing; or no other end heard its link

rts_wrong : (pair : Pair) (by by_peer : ℕ) (taken : Bool) (before : Option Endpoint) → wrong_rts pair by taken before ≡ true → (happens pair (all.Rts_comes by taken by_peer) before).after ≡ before
rts_wrong pair by by_peer taken before w = grind (arith, w)

rts_free : (pair : Pair) (by : ℕ) (taken : Bool) (before : Option Endpoint) → wrong_rts pair by taken before ≡ false → taken ≡ false
rts_free pair by taken before w = grind (arith, w)

rts_after : (pair : Pair) (by by_peer : ℕ) (taken : Bool) (x : Endpoint) → wrong_rts pair by taken (Some x) ≡ false → (happens pair (all.Rts_comes by taken by_peer) (Some x)).after ≡ (if is_ended (heard_link by x) then None else Some (heard_link by x))
rts_after pair by by_peer taken x w = ap (λ b. end_after (Some x) (if b then errs wrong_parameters (Rts pair.remote pair.local by) else Becomes (heard_link by x) Nothing)) w

link_of_it : (on by : ℕ) (x e : Endpoint) → (if is_ended (heard_link by x) then None else Some (heard_link by x)) ≡ Some e → (e.link == on) ≡ true → on ≡ by
link_of_it on by x e h k = grind arith

heard_there : (on : ℕ) (pair : Pair) (e : Endpoint) → hears_link on (pair, e) ≡ true → (e.link == on) ≡ true
heard_there on pair e h = grind arith

-- only an RTS gives an end a link that it had not heard: one that no other heard
abbrev pub NewLink : ℕ → EndpointEvent → Type 0
NewLink on (all.Rts_comes by taken by_peer) = (on ≡ by) × (taken ≡ false)
NewLink on what = ⊥

pub new-link : (on : ℕ) (pair : Pair) (what : EndpointEvent) (before : Option Endpoint) (e : Endpoint) → (happens pair what before).after ≡ Some e → hears_link on (pair, e) ≡ true → passes (hears_link on) pair before ≡ false → NewLink on what
new-link on pair (all.Asks_to_send of_size with_room own full) None e h k n = absurd (grind arith)
new-link on pair (all.Asks_to_send of_size with_room own full) (Some x) e h k n = absurd (grind arith)
new-link on pair (all.Asks_to_receive with_room by own full) None e h k n = absurd (cc (asks_not pair with_room by own full None (receives_not pair (sender on pair e k)), h))
new-link on pair (all.Asks_to_receive with_room by own full) (Some x) e h k n =
    let same : x ≡ e = same_end x e (sym (asks_not pair with_room by own full (Some x) (receives_not pair (sender on pair e k))) ∙ h) in
    absurd (cc (k, subst (λ (y : Endpoint). hears_link on (pair, y) ≡ false) same n))
new-link on pair (all.Closes full) None e h k n = absurd (grind arith)
new-link on pair (all.Closes full) (Some x) e h k n = absurd (grind arith)
new-link on pair (all.Gives text) None e h k n = absurd (grind arith)
new-link on pair (all.Gives text) (Some x) e h k n = absurd (grind arith)
new-link on pair (all.Takes bytes) None e h k n = absurd (grind arith)
new-link on pair (all.Takes bytes) (Some x) e h k n = absurd (grind arith)
new-link on pair (all.Allocates m b full) None e h k n = absurd (grind arith)
new-link on pair (all.Allocates m b full) (Some x) e h k n = absurd (grind arith)
new-link on pair (all.Calls_back m b full) None e h k n = absurd (grind arith)
new-link on pair (all.Calls_back m b full) (Some x) e h k n = absurd (grind arith)
new-link on pair (all.Interrupts full) None e h k n = absurd (grind arith)
new-link on pair (all.Interrupts full) (Some x) e h k n = absurd (grind arith)
new-link on pair (all.Rts_comes by taken by_peer) None e h k n = (grind arith, grind arith)
new-link on pair (all.Rts_comes by taken by_peer) (Some x) e h k n = go (wrong_rts pair by taken (Some x)) refl
  where
    go : (b : Bool) → wrong_rts pair by taken (Some x) ≡ b → (on ≡ by) × (taken ≡ false)
    go true w =
        let same : x ≡ e = same_end x e (sym (rts_wrong pair by by_peer taken (Some x) w) ∙ h) in
        absurd (cc (k, subst (λ (y : Endpoint). hears_link on (pair, y) ≡ false) same n))
    go false w = (link_of_it on by x e (sym (rts_after pair by by_peer taken x w) ∙ h) (heard_there on pair e k), rts_free pair by taken (Some x) w)
new-link on pair (all.Str_comes of_size by_peer) None e h k n = absurd (grind arith)
new-link on pair (all.Str_comes of_size by_peer) (Some x) e h k n = absurd (grind arith)
new-link on pair all.Cls_comes None e h k n = absurd (grind arith)
new-link on pair all.Cls_comes (Some x) e h k n = absurd (grind arith)
new-link on pair (all.All_comes by m b) None e h k n = absurd (grind arith)
new-link on pair (all.All_comes by m b) (Some x) e h k n = absurd (grind arith)
new-link on pair (all.Gvb_comes by m b) None e h k n = absurd (grind arith)
new-link on pair (all.Gvb_comes by m b) (Some x) e h k n = absurd (grind arith)
new-link on pair (all.Ret_comes by m b) None e h k n = absurd (grind arith)
new-link on pair (all.Ret_comes by m b) (Some x) e h k n = absurd (grind arith)
new-link on pair (all.Inr_comes by) None e h k n = absurd (grind arith)
new-link on pair (all.Inr_comes by) (Some x) e h k n = absurd (grind arith)
new-link on pair (all.Ins_comes by) None e h k n = absurd (grind arith)
new-link on pair (all.Ins_comes by) (Some x) e h k n = absurd (grind arith)
new-link on pair (all.Text_comes head of_size text) None e h k n = absurd (grind arith)
new-link on pair (all.Text_comes head of_size text) (Some x) e h k n = absurd (grind arith)
new-link on pair all.Text_goes_out None e h k n = absurd (grind arith)
new-link on pair (all.Is_answered Rfnm) None e h k n = absurd (grind arith)
new-link on pair (all.Is_answered Incomplete) None e h k n = absurd (grind arith)
new-link on pair (all.Is_answered Dead) None e h k n = absurd (grind arith)
new-link on pair all.Text_goes_out (Some x) e h k n = absurd (grind arith)
new-link on pair (all.Is_answered Rfnm) (Some x) e h k n = absurd (grind arith)
new-link on pair (all.Is_answered Incomplete) (Some x) e h k n = absurd (grind arith)
new-link on pair (all.Is_answered Dead) (Some x) e h k n = absurd (grind arith)
new-link on pair all.Is_cleared before e h k n = absurd (cc h)

-- after an RFNM no text of a sending end is out
pub freed : (on : ℕ) (pair : Pair) (before : Option Endpoint) (e : Endpoint) → (happens pair (all.Is_answered Rfnm) before).after ≡ Some e → hears_link on (pair, e) ≡ true → e.busy ≡ false
freed on pair None e h k = grind arith
freed on pair (Some x) e h k = grind arith
