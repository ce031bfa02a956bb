-- A command that is answered Full leaves its end and the histories; what a host makes is never a reset;
-- and where there are no ends, an answer to a text finds none.
use Rattle.std.proofs.Common.{◌≡◌, ℕ, ◌==◌, Bool, true, false, cond, not, ◌&&◌, ◌||◌, nat_le, if◌then◌else◌, List, [], ◌∷◌, ◌++◌, Option, None, Some, is_none, refl, sym, ap, ◌∙◌, subst, arith}
use Rattle.std.specs.List.{filter}
use Rattle.std.specs.FinMap.{get, insert, get-empty, get-insert}
use Rattle.std.specs.Ordering.{eq_by_cmp}
use Rattle.std.proofs.lemmas.Map.Views.{tells_apart}
use Rattle.ncp_wire.specs.declared.command.Command.{Command}
use Rattle.ncp_model.specs.declared.pair.Pair.{Pair}
use Rattle.ncp_model.specs.declared.outcomes.Heard.{Heard}
use Rattle.ncp_model.specs.declared.limits.TheConstants.{MAX_BY_PEER}
use Rattle.ncp_model.specs.Pairs.{pair_cmp, sends, receives, counterpart}
use Rattle.ncp_model.specs.Endpoint.{Endpoint, or_new, is_live}
use Rattle.ncp_model.specs.Effect.{Stays, Becomes, answer, end_after, met, is_data_link, made_if_any, made_by_hearing, wrong_parameters}
use Rattle.ncp_model.specs.Commands.{errs, hear_cls, hear_all, hear_gvb, hear_ret, hear_inr, hear_ins}
use Rattle.ncp_model.specs.Texts.{Rfnm, made_by_text}
use Rattle.ncp_model.specs.Ends.{Ends, count, any, is_by_peer, hears_link, sender_on, receiver_on, end_of, pair_of, demux_command, hear, text_in, answered_at, answered_in, map_after_at, no_ends}
use Rattle.ncp_model.specs.EndpointEvents.{EndpointEvent, happens, of_hearing, is_violation}
use Rattle.ncp_proof_endpoint.specs.Histories.{PairHistory, opens, reopened}
use Rattle.ncp_model.specs.Demux.{passes, comes}
use Rattle.ncp_model.specs.Phase.{is_reset}
use Rattle.ncp_proof_machine.specs.Hosts.{Node, Pasts, or_no_past, past_of, pasts_after_at, is_full_up, echo_replies}
use Rattle.ncp_model.proofs.PairOrder.{pairs_exact, pairs_total}
use Rattle.ncp_proof_headline.proofs.HostsJoined.{AllOther}
use Rattle.ncp_model.proofs.Lookups.{nowhere}
use Rattle.ncp_model.proofs.Makes.{none-reset}
use Rattle.ncp_proof_headline.specs.Tied.{watched_at}
use Rattle.ncp_proof_headline.proofs.Ties.{Owners, Ties}

-- A command that is answered Full.

full_is_safe : (h : Heard) → is_full_up h ≡ true → is_violation (of_hearing h) ≡ false
full_is_safe Heard.Full e = refl
full_is_safe h e = absurd (cc e)

pub full-safe : (c : Command) (m : Ends) → is_full_up (answer (hear c m)) ≡ true → is_violation (of_hearing (answer (hear c m))) ≡ false
full-safe c m = full_is_safe (answer (hear c m))

-- a request is refused, answered Full or taken: only the last changes the end
full_stays : (wrong full : Bool) (before : Option Endpoint) (c : Command) (e : Endpoint)
    → is_full_up (answer (if wrong then errs wrong_parameters c else if full then Stays Heard.Full else Becomes e Heard.Nothing)) ≡ true
    → end_after before (if wrong then errs wrong_parameters c else if full then Stays Heard.Full else Becomes e Heard.Nothing) ≡ before
full_stays true full before c e h = refl
full_stays false true before c e h = refl
full_stays false false before c e h = absurd (cc h)

-- an end that stays does not open
same_opens : (before after : Option Endpoint) → after ≡ before → opens before after ≡ false
same_opens before after e = subst (λ (o : Option Endpoint). opens before o ≡ false) (sym e) (go (is_live before))
  where
    go : (b : Bool) → (not b && b) ≡ false
    go true = refl
    go false = refl

-- what was there is written again
written_again : (pasts : Pasts) (pair : Pair) (past : PairHistory) → past ≡ past_of pasts pair → (p : Pair) → past_of (insert pasts pair past) p ≡ past_of pasts p
written_again pasts pair past e p = go (eq_by_cmp pair_cmp p pair) refl
  where
    go : (b : Bool) → eq_by_cmp pair_cmp p pair ≡ b → past_of (insert pasts pair past) p ≡ past_of pasts p
    go true k =
        ap or_no_past (get-insert pairs_total pasts pair past p ∙ ap (λ b. cond b (Some past) (get pasts p)) k)
        ∙ (e ∙ ap (past_of pasts) (sym (tells_apart pairs_exact p pair k)))
    go false k = ap or_no_past (get-insert pairs_total pasts pair past p ∙ ap (λ b. cond b (Some past) (get pasts p)) k)

-- the end stays, and nothing is added
unopened : (pasts : Pasts) (pair : Pair) (before after : Option Endpoint) → after ≡ before → (p : Pair) → past_of (insert pasts pair (if opens before after then reopened (past_of pasts pair) else past_of pasts pair)) p ≡ past_of pasts p
unopened pasts pair before after e = written_again pasts pair (if opens before after then reopened (past_of pasts pair) else past_of pasts pair) (ap (λ b. if b then reopened (past_of pasts pair) else past_of pasts pair) (same_opens before after e))

-- no other command is ever answered Full
cls_room : (pair : Pair) (before : Option Endpoint) → is_full_up (answer (hear_cls pair before)) ≡ false
cls_room pair None = grind arith
cls_room pair (Some e) = grind arith

all_room : (on a b : ℕ) (before : Option Endpoint) → is_full_up (answer (hear_all on a b before)) ≡ false
all_room on a b None = refl
all_room on a b (Some e) = grind arith

gvb_room : (on a b : ℕ) (before : Option Endpoint) → is_full_up (answer (hear_gvb on a b before)) ≡ false
gvb_room on a b None = refl
gvb_room on a b (Some e) = grind arith

ret_room : (on a b : ℕ) (before : Option Endpoint) → is_full_up (answer (hear_ret on a b before)) ≡ false
ret_room on a b None = refl
ret_room on a b (Some e) = grind arith

inr_room : (on : ℕ) (before : Option Endpoint) → is_full_up (answer (hear_inr on before)) ≡ false
inr_room on None = refl
inr_room on (Some e) = grind arith

ins_room : (on : ℕ) (before : Option Endpoint) → is_full_up (answer (hear_ins on before)) ≡ false
ins_room on None = refl
ins_room on (Some e) = grind arith

pub full-pasts : (c : Command) (n : Node) → is_full_up (answer (hear c n.ends)) ≡ true → (p : Pair) → past_of (pasts_after_at (demux_command c n.ends) (comes c n.ends) n.ends n.pasts) p ≡ past_of n.pasts p
full-pasts (Command.Rts receive send on) n h =
    let pair : Pair = record { local = send; remote = receive } in
    let before : Option Endpoint = get n.ends pair in
    unopened n.pasts pair before (happens pair (EndpointEvent.Rts_comes on (any (hears_link on) n.ends) (count is_by_peer n.ends)) before).after
    (full_stays
    (not (sends pair) || not (is_data_link on) || (or_new before).heard || any (hears_link on) n.ends)
    (is_none before && nat_le MAX_BY_PEER (count is_by_peer n.ends))
    before (Command.Rts receive send on) (met (record (or_new before) { heard = true; link = on })) h)
full-pasts (Command.Str send receive of_size) n h =
    let pair : Pair = record { local = receive; remote = send } in
    let before : Option Endpoint = get n.ends pair in
    unopened n.pasts pair before (happens pair (EndpointEvent.Str_comes of_size (count is_by_peer n.ends)) before).after
    (full_stays
    (not (receives pair) || of_size == 0 || (or_new before).heard)
    (is_none before && nat_le MAX_BY_PEER (count is_by_peer n.ends))
    before (Command.Str send receive of_size) (met (record (or_new before) { heard = true; size = of_size })) h)
full-pasts (Command.Cls my your) n h = let pair : Pair = record { local = your; remote = my } in absurd (cc (h, cls_room pair (get n.ends pair)))
full-pasts (Command.All on a b) n h = absurd (cc (h, all_room on a b (end_of (sender_on on n.ends))))
full-pasts (Command.Gvb on a b) n h = absurd (cc (h, gvb_room on a b (end_of (sender_on on n.ends))))
full-pasts (Command.Ret on a b) n h = absurd (cc (h, ret_room on a b (end_of (receiver_on on n.ends))))
full-pasts (Command.Inr on) n h = absurd (cc (h, inr_room on (end_of (sender_on on n.ends))))
full-pasts (Command.Ins on) n h = absurd (cc (h, ins_room on (end_of (receiver_on on n.ends))))
full-pasts c n h = absurd (cc h)

-- The histories that a host keeps are written otherwise, and say the same.

pub ties-pasts : (a b : Bool) (own own' : Owners) (n m : Node) (u v : List Command) (pasts : Pasts) → ((p : Pair) → past_of pasts p ≡ past_of n.pasts p) → Ties a b own own' n m u v → Ties a b own own' (record n { pasts = pasts }) m u v
ties-pasts a b own own' n m u v pasts e t = record {
  g = t.g;
  back = t.back;
  reached = t.reached;
  reached_back = t.reached_back;
  there = record { alive = t.there.alive; alive_too = t.there.alive_too; sender = λ p s. t.there.sender p s ∙ knows p; receiver = t.there.receiver; texts = t.there.texts; proper = t.there.proper };
  here = record { alive = t.here.alive; alive_too = t.here.alive_too; sender = t.here.sender; receiver = λ p s. t.here.receiver p s ∙ knows (counterpart p); texts = t.here.texts; proper = t.here.proper };
  going = t.going;
  coming = t.coming;
}
  where
    knows : (p : Pair) → watched_at n p ≡ watched_at (record n { pasts = pasts }) p
    knows p = ap (λ (past : PairHistory). record { end = get n.ends p; past = past }) (sym (e p))

-- What a host makes is neither RST nor RRP.

pub none-other : (cs : List Command) → filter is_reset cs ≡ [] → AllOther cs
none-other [] e = tt
none-other (c ∷ cs) e = go (is_reset c) refl (none-other cs)
  where
    go : (b : Bool) → is_reset c ≡ b → (filter is_reset cs ≡ [] → AllOther cs) → AllOther (c ∷ cs)
    go true k r = absurd (cc (e, ap (λ b. cond b (c ∷ filter is_reset cs) (filter is_reset cs)) k))
    go false k r = (ap not k, r (sym (ap (λ b. cond b (c ∷ filter is_reset cs) (filter is_reset cs)) k) ∙ e))

more_other : (cs ds : List Command) → AllOther cs → AllOther ds → AllOther (cs ++ ds)
more_other [] ds p q = q
more_other (c ∷ cs) ds p q = (p.0, more_other cs ds p.1 q)

pub called-other : (pair : Pair) (what : EndpointEvent) (before : Option Endpoint) → AllOther (happens pair what before).made
called-other pair what before = none-other (happens pair what before).made (none-reset pair what before)

-- a pair, where none matters
any_pair : Pair
any_pair = record { local = 0; remote = 0 }

heard-other : (c : Command) (m : Ends) → AllOther (made_by_hearing (answer (hear c m)))
heard-other (Command.Rts receive send on) m = let pair : Pair = record { local = send; remote = receive } in called-other pair (EndpointEvent.Rts_comes on (any (hears_link on) m) (count is_by_peer m)) (get m pair)
heard-other (Command.Str send receive of_size) m = let pair : Pair = record { local = receive; remote = send } in called-other pair (EndpointEvent.Str_comes of_size (count is_by_peer m)) (get m pair)
heard-other (Command.Cls my your) m = let pair : Pair = record { local = your; remote = my } in called-other pair EndpointEvent.Cls_comes (get m pair)
heard-other (Command.All on a b) m = called-other any_pair (EndpointEvent.All_comes on a b) (end_of (sender_on on m))
heard-other (Command.Gvb on a b) m = called-other any_pair (EndpointEvent.Gvb_comes on a b) (end_of (sender_on on m))
heard-other (Command.Ret on a b) m = called-other any_pair (EndpointEvent.Ret_comes on a b) (end_of (receiver_on on m))
heard-other (Command.Inr on) m = called-other any_pair (EndpointEvent.Inr_comes on) (end_of (sender_on on m))
heard-other (Command.Ins on) m = called-other any_pair (EndpointEvent.Ins_comes on) (end_of (receiver_on on m))
heard-other c m = tt

echoed-other : (c : Command) → AllOther (echo_replies c)
echoed-other (Command.Eco byte) = (refl, tt)
echoed-other c = tt

pub hear-other : (c : Command) (m : Ends) → AllOther (made_by_hearing (answer (hear c m)) ++ echo_replies c)
hear-other c m = more_other (made_by_hearing (answer (hear c m))) (echo_replies c) (heard-other c m) (echoed-other c)

pub text-other : (head : List Bool) (on of_size : ℕ) (text : List Bool) (m : Ends) → AllOther (made_by_text head text (answer (text_in on of_size text m)))
text-other head on of_size text m = called-other any_pair (EndpointEvent.Text_comes head of_size text) (end_of (receiver_on on m))

pub answered-other : (on : ℕ) (m : Ends) → AllOther (made_if_any (answer (answered_in on Rfnm m)))
answered-other on m = go (sender_on on m)
  where
    go : (o : Option (Pair × Endpoint)) → AllOther (made_if_any (answer (answered_at Rfnm o)))
    go None = tt
    go (Some q) = called-other q.0 (EndpointEvent.Is_answered Rfnm) (Some q.1)

-- No end is found where there is none.

none_sends_on : (on : ℕ) → sender_on on no_ends ≡ None
none_sends_on on = nowhere (hears_link on) no_ends (λ p. ap (passes (hears_link on) p) (get-empty pair_cmp p))

pub gone-answer : (on : ℕ) → answer (answered_in on Rfnm no_ends) ≡ None
gone-answer on = ap (λ o. answer (answered_at Rfnm o)) (none_sends_on on)

pub gone-answer-map : (on : ℕ) → map_after_at no_ends (pair_of (sender_on on no_ends)) (answered_in on Rfnm no_ends) ≡ no_ends
gone-answer-map on = ap (λ o. map_after_at no_ends (pair_of o) (answered_at Rfnm o)) (none_sends_on on)
