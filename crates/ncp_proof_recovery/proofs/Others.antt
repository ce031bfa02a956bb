-- What a host makes by calls, by what comes and by texts is neither RST nor RRP; and where there are no ends an answer to a
-- text finds none.
use Rattle.std.proofs.Common.{◌≡◌, ℕ, Bool, true, false, cond, not, List, [], ◌∷◌, ◌++◌, Option, None, Some, refl, sym, ap, ◌∙◌}
use Rattle.std.specs.List.{filter}
use Rattle.std.specs.FinMap.{get, get-empty}
use Rattle.ncp_wire.specs.declared.command.Command.{Command}
use Rattle.ncp_model.specs.declared.pair.Pair.{Pair}
use Rattle.ncp_model.specs.Pairs.{pair_cmp}
use Rattle.ncp_model.specs.Endpoint.{Endpoint}
use Rattle.ncp_model.specs.Effect.{answer, made_if_any, made_by_hearing}
use Rattle.ncp_model.specs.Texts.{Rfnm, made_by_text}
use Rattle.ncp_model.specs.Ends.{Ends, count, any, is_by_peer, hears_link, sender_on, receiver_on, end_of, pair_of, hear, text_in, answered_at, answered_in, map_after_at, no_ends}
use Rattle.ncp_model.specs.EndpointEvents.{EndpointEvent, happens}
use Rattle.ncp_model.specs.Demux.{passes}
use Rattle.ncp_model.specs.Phase.{is_reset}
use Rattle.ncp_model.specs.Peers.{echo_replies}
use Rattle.ncp_model.proofs.Lookups.{nowhere}
use Rattle.ncp_model.proofs.Makes.{none-reset}
use Rattle.ncp_proof_headline.proofs.HostsJoined.{AllOther}

none-other : (cs : List Command) → filter is_reset cs ≡ [] → AllOther cs
none-other [] e = tt
none-other (c ∷ cs) e = go (is_reset c) refl (none-other cs)
  where
    go : (b : Bool) → is_reset c ≡ b → (filter is_reset cs ≡ [] → AllOther cs) → AllOther (c ∷ cs)
    go true k r = absurd (cc (e, ap (λ b. cond b (c ∷ filter is_reset cs) (filter is_reset cs)) k))
    go false k r = (ap not k, r (sym (ap (λ b. cond b (c ∷ filter is_reset cs) (filter is_reset cs)) k) ∙ e))

more-other : (cs ds : List Command) → AllOther cs → AllOther ds → AllOther (cs ++ ds)
more-other [] ds p q = q
more-other (c ∷ cs) ds p q = (p.0, more-other cs ds p.1 q)

pub called-other : (pair : Pair) (what : EndpointEvent) (before : Option Endpoint) → AllOther (happens pair what before).made
called-other pair what before = none-other (happens pair what before).made (none-reset pair what before)

-- a pair, where none matters
any-pair : Pair
any-pair = record { local = 0; remote = 0 }

heard-other : (c : Command) (m : Ends) → AllOther (made_by_hearing (answer (hear c m)))
heard-other (Command.Rts receive send on) m = let pair : Pair = record { local = send; remote = receive } in called-other pair (EndpointEvent.Rts_comes on (any (hears_link on) m) (count is_by_peer m)) (get m pair)
heard-other (Command.Str send receive of_size) m = let pair : Pair = record { local = receive; remote = send } in called-other pair (EndpointEvent.Str_comes of_size (count is_by_peer m)) (get m pair)
heard-other (Command.Cls my your) m = let pair : Pair = record { local = your; remote = my } in called-other pair EndpointEvent.Cls_comes (get m pair)
heard-other (Command.All on a b) m = called-other any-pair (EndpointEvent.All_comes on a b) (end_of (sender_on on m))
heard-other (Command.Gvb on a b) m = called-other any-pair (EndpointEvent.Gvb_comes on a b) (end_of (sender_on on m))
heard-other (Command.Ret on a b) m = called-other any-pair (EndpointEvent.Ret_comes on a b) (end_of (receiver_on on m))
heard-other (Command.Inr on) m = called-other any-pair (EndpointEvent.Inr_comes on) (end_of (sender_on on m))
heard-other (Command.Ins on) m = called-other any-pair (EndpointEvent.Ins_comes on) (end_of (receiver_on on m))
heard-other c m = tt

echoed-other : (c : Command) → AllOther (echo_replies c)
echoed-other (Command.Eco byte) = (refl, tt)
echoed-other c = tt

pub hear-other : (c : Command) (m : Ends) → AllOther (made_by_hearing (answer (hear c m)) ++ echo_replies c)
hear-other c m = more-other (made_by_hearing (answer (hear c m))) (echo_replies c) (heard-other c m) (echoed-other c)

pub text-other : (head : List Bool) (on of_size : ℕ) (text : List Bool) (m : Ends) → AllOther (made_by_text head text (answer (text_in on of_size text m)))
text-other head on of_size text m = called-other any-pair (EndpointEvent.Text_comes head of_size text) (end_of (receiver_on on m))

pub answered-other : (on : ℕ) (m : Ends) → AllOther (made_if_any (answer (answered_in on Rfnm m)))
answered-other on m = go (sender_on on m)
  where
    go : (o : Option (Pair × Endpoint)) → AllOther (made_if_any (answer (answered_at Rfnm o)))
    go None = tt
    go (Some q) = called-other q.0 (EndpointEvent.Is_answered Rfnm) (Some q.1)

none-sends-on : (on : ℕ) → sender_on on no_ends ≡ None
none-sends-on on = nowhere (hears_link on) no_ends (λ p. ap (passes (hears_link on) p) (get-empty pair_cmp p))

pub gone-answer : (on : ℕ) → answer (answered_in on Rfnm no_ends) ≡ None
gone-answer on = ap (λ o. answer (answered_at Rfnm o)) (none-sends-on on)

pub gone-answer-map : (on : ℕ) → map_after_at no_ends (pair_of (sender_on on no_ends)) (answered_in on Rfnm no_ends) ≡ no_ends
gone-answer-map on = ap (λ o. map_after_at no_ends (pair_of o) (answered_at Rfnm o)) (none-sends-on on)
