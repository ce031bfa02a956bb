-- What a host makes of what comes, and of a text that was taken, is neither RST nor RRP.
use Rattle.std.proofs.Common.{◌≡◌, ℕ, Bool, true, false, not, cond, List, [], ◌∷◌, ◌++◌, Option, None, Some, refl, sym, ap, ◌∙◌}
use Rattle.std.specs.FinMap.{get}
use Rattle.std.specs.List.{filter}
use Rattle.ncp_wire.specs.declared.command.Command.{Command}
use Rattle.ncp_model.specs.declared.pair.Pair.{Pair}
use Rattle.ncp_model.specs.Phase.{is_reset}
use Rattle.ncp_model.specs.Endpoint.{Endpoint}
use Rattle.ncp_model.specs.Effect.{answer, made_by_hearing, made_if_any}
use Rattle.ncp_model.specs.Texts.{Rfnm, made_by_text}
use Rattle.ncp_model.specs.Ends.{Ends, any, count, is_by_peer, hears_link, sender_on, receiver_on, end_of, hear, text_in, answered_at, answered_in}
use Rattle.ncp_model.specs.EndpointEvents.{EndpointEvent, happens}
use Rattle.ncp_model.specs.Peers.{echo_replies}
use Rattle.ncp_model.proofs.Makes.{none-reset}
use Rattle.ncp_proof_headline.proofs.HostsJoined.{AllOther}

unreset : (cs : List Command) → filter is_reset cs ≡ [] → AllOther cs
unreset [] e = tt
unreset (c ∷ cs) e = go (is_reset c) refl (unreset cs)
  where
    go : (b : Bool) → is_reset c ≡ b → (filter is_reset cs ≡ [] → AllOther cs) → AllOther (c ∷ cs)
    go true k r = let nay : c ∷ filter is_reset cs ≡ [] = sym (ap (λ (b : Bool). cond b (c ∷ filter is_reset cs) (filter is_reset cs)) k) ∙ e in absurd (cc nay)
    go false k r = (ap not k, r (sym (ap (λ (b : Bool). cond b (c ∷ filter is_reset cs) (filter is_reset cs)) k) ∙ e))

others_too : (cs ds : List Command) → AllOther cs → AllOther ds → AllOther (cs ++ ds)
others_too [] ds p q = q
others_too (c ∷ cs) ds p q = (p.0, others_too cs ds p.1 q)

pub happening_unreset : (pair : Pair) (what : EndpointEvent) (before : Option Endpoint) → AllOther (happens pair what before).made
happening_unreset pair what before = unreset (happens pair what before).made (none-reset pair what before)

-- a pair, where none matters
any_pair : Pair
any_pair = record { local = 0; remote = 0 }

heard_unreset : (c : Command) (m : Ends) → AllOther (made_by_hearing (answer (hear c m)))
heard_unreset (Command.Rts receive send on) m = let pair : Pair = record { local = send; remote = receive } in happening_unreset pair (EndpointEvent.Rts_comes on (any (hears_link on) m) (count is_by_peer m)) (get m pair)
heard_unreset (Command.Str send receive of_size) m = let pair : Pair = record { local = receive; remote = send } in happening_unreset pair (EndpointEvent.Str_comes of_size (count is_by_peer m)) (get m pair)
heard_unreset (Command.Cls my your) m = let pair : Pair = record { local = your; remote = my } in happening_unreset pair EndpointEvent.Cls_comes (get m pair)
heard_unreset (Command.All on a b) m = happening_unreset any_pair (EndpointEvent.All_comes on a b) (end_of (sender_on on m))
heard_unreset (Command.Gvb on a b) m = happening_unreset any_pair (EndpointEvent.Gvb_comes on a b) (end_of (sender_on on m))
heard_unreset (Command.Ret on a b) m = happening_unreset any_pair (EndpointEvent.Ret_comes on a b) (end_of (receiver_on on m))
heard_unreset (Command.Inr on) m = happening_unreset any_pair (EndpointEvent.Inr_comes on) (end_of (sender_on on m))
heard_unreset (Command.Ins on) m = happening_unreset any_pair (EndpointEvent.Ins_comes on) (end_of (receiver_on on m))
heard_unreset c m = tt

echo_unreset : (c : Command) → AllOther (echo_replies c)
echo_unreset (Command.Eco byte) = (refl, tt)
echo_unreset c = tt

pub hearing_unreset : (c : Command) (m : Ends) → AllOther (made_by_hearing (answer (hear c m)) ++ echo_replies c)
hearing_unreset c m = others_too (made_by_hearing (answer (hear c m))) (echo_replies c) (heard_unreset c m) (echo_unreset c)

pub text_unreset : (head : List Bool) (on of_size : ℕ) (text : List Bool) (m : Ends) → AllOther (made_by_text head text (answer (text_in on of_size text m)))
text_unreset head on of_size text m = happening_unreset any_pair (EndpointEvent.Text_comes head of_size text) (end_of (receiver_on on m))

pub answer_unreset : (on : ℕ) (m : Ends) → AllOther (made_if_any (answer (answered_in on Rfnm m)))
answer_unreset on m = go (sender_on on m)
  where
    go : (o : Option (Pair × Endpoint)) → AllOther (made_if_any (answer (answered_at Rfnm o)))
    go None = tt
    go (Some q) = happening_unreset q.0 (EndpointEvent.Is_answered Rfnm) (Some q.1)
