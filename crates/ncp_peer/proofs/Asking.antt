-- A call of the host is a call of its table, and the command made.
use Rattle.std.proofs.Common.{◌≡◌, Bool, true, if◌then◌else◌, List, [], Result, Ok, Err, IsOk, inl, inr, refl, sym, ap, ◌∙◌}
use Rattle.std.specs.FinMap.{get}
use Rattle.ncp_wire.specs.declared.command.Command.{Command}
use Rattle.ncp_model.specs.declared.pair.Pair.{Pair}
use Rattle.ncp_model.specs.Effect.{Effect, answer, end_after, made_by_call}
use Rattle.ncp_model.specs.Ends.{Ends, map_after, no_ends, put}
use Rattle.ncp_model.specs.Echo.{purge_echo}
use Rattle.ncp_model.specs.Phase.{up}
use Rattle.ncp_model.specs.Sending.{is_full}
use Rattle.ncp_model.specs.declared.call_fault.CallFault.{CallFault}
use Rattle.ncp_model.specs.declared.call_fault.CallFault.TheVariants.{NotUp}
use Rattle.ncp_model.specs.EndpointEvents.{Refused, outcome_of_call}
use Rattle.ncp_conn.specs.Asking.{ActsOrNoMemory}
use Rattle.ncp_model.specs.Peers.{Peer, PairCall, makes, calls, calls_up, happened_at, comes_of, reply, call_accepted}
use Rattle.ncp_peer.specs.Steps.{CalledOrNoMemory}
use Rattle.ncp_peer.proofs.Placing.{put_after}

-- nothing is made while up
pub made_none : (p : Peer) → up p.phase ≡ true → makes [] p ≡ p
made_none p u = ap (λ b. record p { ends = if b then p.ends else no_ends; echoes = if b then p.echoes else purge_echo p.echoes }) u

pub called : {A : Type 0} (pair : Pair) (call : PairCall) (p now : Peer) (act : Bool → Effect A) (made_by : A → List Command) (full : Bool) (m : Ends) (a : A)
    → p ≡ now → up p.phase ≡ true → full ≡ is_full p.phase
    → (happened_at pair call p).after ≡ end_after (get p.ends pair) (act (is_full p.phase))
    → (happened_at pair call p).made ≡ made_by (answer (act (is_full p.phase)))
    → a ≡ answer (act full) → m ≡ map_after p.ends pair (act full)
    → makes (made_by a) (record p { ends = m }) ≡ calls pair call now
called pair call p now act made_by full m a is u f after made told table =
    ap (λ b. makes (made_by b) (record p { ends = m })) (told ∙ ap (λ b. answer (act b)) f)
    ∙ ap (λ n. makes (made_by (answer (act (is_full p.phase)))) (record p { ends = n })) (table ∙ ap (λ b. map_after p.ends pair (act b)) f ∙ sym (put_after p.ends pair (act (is_full p.phase))) ∙ ap (λ e. put p.ends pair e) (sym after))
    ∙ ap (λ cs. makes cs (record p { ends = put p.ends pair (happened_at pair call p).after })) (sym made)
    ∙ sym (ap (λ b. if b then calls_up pair call p else p) u)
    ∙ ap (calls pair call) is

replies : (r : Result Command CallFault) → reply (outcome_of_call r) ≡ call_accepted r
replies (Ok c) = refl
replies (Err f) = refl

good : (r : Result Command CallFault) → IsOk r → call_accepted r ≡ Ok tt
good (Ok c) h = refl
good (Err f) h = absurd (cc)

-- a call that takes memory
pub asked : (pair : Pair) (call : PairCall) (p now : Peer) (act : Bool → Effect (Result Command CallFault)) (full : Bool) (m : Ends) (r : Result Command CallFault)
    → p ≡ now → up p.phase ≡ true → full ≡ is_full p.phase
    → (happened_at pair call p).after ≡ end_after (get p.ends pair) (act (is_full p.phase))
    → (happened_at pair call p).made ≡ made_by_call (answer (act (is_full p.phase)))
    → (happened_at pair call p).outcome ≡ outcome_of_call (answer (act (is_full p.phase)))
    → ActsOrNoMemory pair (act full) r p.ends m
    → CalledOrNoMemory pair call (call_accepted r) now (makes (made_by_call r) (record p { ends = m }))
asked pair call p now act full m r is u f after made outcome done =
    let told : reply (comes_of pair call now) ≡ call_accepted (answer (act full)) =
    ap (λ x. reply (comes_of pair call x)) (sym is) ∙ ap (λ b. reply (if b then (happened_at pair call p).outcome else Refused NotUp)) u ∙ ap reply outcome ∙ replies (answer (act (is_full p.phase))) ∙ ap (λ b. call_accepted (answer (act b))) (sym f) in
    elim done [
      | inl h ↦ inl (ap call_accepted h.0 ∙ sym told, called pair call p now act made_by_call full m r is u f after made h.0 h.1)
      | inr h ↦ inr (ap call_accepted h.0, told ∙ good (answer (act full)) h.1, ap (λ x. makes (made_by_call x) (record p { ends = m })) h.0 ∙ ap (λ x. makes [] (record p { ends = x })) h.2 ∙ made_none p u ∙ is)
    ]
