-- What waits at a host can be written, and so can what its ends make, whatever happens there.
use Rattle.std.proofs.Common.{◌≡◌, ◌⊎◌, inl, inr, ◌<◌, ◌≤◌, ℕ, ◌+◌, ◌*◌, ◌/◌, ◌%◌, ◌^◌, Bool, true, false, not, ◌&&◌, if◌then◌else◌, List, [], ◌∷◌, ◌++◌, length, take, min, All, Option, None, Some, Ok, Err, refl, sym, ap, ◌∙◌, arith, subst}
use Rattle.std.proofs.Math.Nat.{div-mul-le_self, mul-le-mul_right, min-le_left, min-le_right, mul-mod_left}
use Rattle.std.proofs.lemmas.List.{length-take-le}
use Rattle.std.specs.List.{list_any, filter}
use Rattle.std.specs.FinMap.{get, get-empty}
use Rattle.std.proofs.lemmas.List.Elements.{All-nil, All-cons, All-push, All-filter, All-drop}
use Rattle.ncp_wire.specs.declared.command.Command.{Command}
use Rattle.ncp_wire.specs.declared.command.Command.TheVariants.{Rst, Rrp}
use Rattle.ncp_wire.specs.declared.command.Command.TheVariants as commands
use Rattle.ncp_wire.specs.Spelling.{IsCommand}
use Rattle.ncp_model.specs.declared.pair.Pair.{Pair}
use Rattle.ncp_model.specs.declared.limits.TheConstants.{MAX_TEXT}
use Rattle.ncp_model.specs.Pairs.{pair_cmp, sends}
use Rattle.ncp_model.specs.Endpoint.{Endpoint, is_open}
use Rattle.ncp_model.specs.Effect.{Effect, Stays, answer, made_if_any, made_by_hearing}
use Rattle.ncp_model.specs.Commands.{hear_all, hear_gvb, hear_ret, hear_inr, hear_ins}
use Rattle.ncp_model.specs.declared.outcomes.Heard.{Heard}
use Rattle.ncp_model.specs.declared.outcomes.Took.{Took}
use Rattle.ncp_model.specs.declared.call_fault.CallFault.TheVariants.{Busy, QueueFull}
use Rattle.ncp_model.specs.Texts.{made_by_text, hear_text, Rfnm, cut, cut_bits, can_send, bytes_to_send}
use Rattle.ncp_model.specs.Ends.{Ends, count, any, is_by_peer, hears_link, uses_link, free_link, sender_on, receiver_on, pair_of, end_of, demux_command, hear, text_in, cut_at, cut_in, answered_at, answered_in, map_after, map_after_at, no_ends}
use Rattle.ncp_model.specs.Echo.{echo_answer, echo_asked}
use Rattle.ncp_model.specs.EndpointEvents.{EndpointEvent, Transition, happens, happened, of_hearing, outcome_of_text}
use Rattle.ncp_model.specs.EndpointEvents as all
use Rattle.ncp_model.specs.Demux.{passes, comes}
use Rattle.ncp_proof_endpoint.specs.Sound.{SoundAt}
use Rattle.ncp_proof_endpoint.specs.Limits.{InLimitsAt}
use Rattle.ncp_model.specs.Phase.{Phase, up, is_reset, is_other, is_rst, is_rrp, has_room_for_one, queued, goes_down, phase_makes, makes_all, is_resetting, phase_answers, phase_asks}
use Rattle.ncp_model.specs.Phase as phases
use Rattle.ncp_model.specs.Sending.{is_full, next_commands}
use Rattle.ncp_model.specs.Peers.{Peer, PairCall, Ask_to_send, Ask_to_receive, Close, Give, Take, Allocate, Call_back, Interrupt}
use Rattle.ncp_model.specs.Peers as peers
use Rattle.ncp_proof_machine.proofs.EndsGood.{EndsInvariant, Changes, same_or, act-changes, put-changes}
use Rattle.ncp_model.proofs.FreeLinks.{lowest-upto}
use Rattle.ncp_model.proofs.LinksDemux.{led, command-led, cut-led, answered-led}
use Rattle.ncp_transcript_two.specs.Tie.{IsPair, IsCall, IsText, EndFits, EndpointFieldsInRange, FieldsInRange}
use Rattle.ncp_transcript_two.proofs.Fits.{Fits, fits-after, Each, err, text_err, made-fits}
use Rattle.ncp_model.specs.Ends as ends
use Rattle.ncp_model.specs.Effect as acts

abbrev pub EndsWell : Ends → Type 0
EndsWell m = (pair : Pair) → EndpointFieldsInRange pair (get m pair)

fits-of : (pair : Pair) (o : Option Endpoint) → EndpointFieldsInRange pair o → EndFits o
fits-of pair None k = tt
fits-of pair (Some e) k = k.1

well-of : (pair : Pair) (o : Option Endpoint) → IsPair pair → EndFits o → EndpointFieldsInRange pair o
well-of pair None p k = tt
well-of pair (Some e) p k = (p, k)

passes-pair : (test : Pair × Endpoint → Bool) (pair : Pair) (o : Option Endpoint) → passes test pair o ≡ true → EndpointFieldsInRange pair o → IsPair pair
passes-pair test pair None h k = absurd (cc h)
passes-pair test pair (Some e) h k = k.0

pub none-well : EndsWell no_ends
none-well pair = subst (EndpointFieldsInRange pair) (sym (get-empty pair_cmp pair)) tt

each-all : (cs : List Command) → Each cs → All IsCommand cs
each-all [] k = All-nil IsCommand
each-all (c ∷ cs) k = All-cons IsCommand c cs k.0 (each-all cs k.1)

-- ---- what waits

abbrev AllWait : Phase → Type 0
AllWait q = All IsCommand q.waiting

wait-if : (b : Bool) (q r : Phase) → AllWait q → AllWait r → AllWait (if b then q else r)
wait-if true q r k l = k
wait-if false q r k l = l

down-wait : (q : Phase) → AllWait q → AllWait (goes_down q)
down-wait q k = All-filter is_reset IsCommand q.waiting k

makes-wait : (c : Command) (q : Phase) → IsCommand c → AllWait q → AllWait (phase_makes c q)
makes-wait c q f k = wait-if (up q && is_other c) (if has_room_for_one q then queued c q else goes_down q) q (wait-if (has_room_for_one q) (queued c q) (goes_down q) (All-push IsCommand q.waiting c k f) (down-wait q k)) k

makes_all-wait : (cs : List Command) (q : Phase) → Each cs → AllWait q → AllWait (makes_all cs q)
makes_all-wait [] q f k = k
makes_all-wait (c ∷ cs) q f k = makes_all-wait cs (phase_makes c q) f.1 (makes-wait c q f.0 k)

answers-wait : (q : Phase) → AllWait q → AllWait (phase_answers q)
answers-wait q k = go q.owe (list_any is_rrp q.waiting)
  where
    go : (a b : Bool) → AllWait (if a then record q { down = false; owe = false; waiting = if b then q.waiting else q.waiting ++ Rrp ∷ [] } else q)
    go true true = k
    go true false = All-push IsCommand q.waiting Rrp k tt
    go false b = k

asks-wait : (q : Phase) → AllWait q → AllWait (phase_asks q)
asks-wait q k = go q.want (list_any is_rst q.waiting)
  where
    go : (a b : Bool) → AllWait (if a then record q { down = false; want = false; wait = true; waiting = if b then q.waiting else q.waiting ++ Rst ∷ [] } else q)
    go true true = k
    go true false = All-push IsCommand q.waiting Rst k tt
    go false b = k

settles-wait : (b : Bool) (q : Phase) → AllWait q → AllWait (phases.phase_settles b q)
settles-wait true q k = asks-wait (phase_answers q) (answers-wait q k)
settles-wait false q k = k

purge-wait : (q : Phase) → AllWait q → All IsCommand (filter is_reset q.waiting)
purge-wait q k = All-filter is_reset IsCommand q.waiting k

-- ---- the ends

changed-well : (m n : Ends) (pair : Pair) (what : EndpointEvent) → Changes m n pair what → IsPair pair → Fits what → EndsWell m → EndsWell n
changed-well m n pair what c p f k q = go (same_or q pair)
  where
    go : (q ≡ pair) ⊎ ((q ≡ pair) → ⊥) → EndpointFieldsInRange q (get n q)
    go (inl e) = subst (λ (r : Pair). EndpointFieldsInRange r (get n r)) (sym e) (subst (EndpointFieldsInRange pair) (sym c.there) (well-of pair (happens pair what (get m pair)).after p (fits-after pair what (get m pair) f (fits-of pair (get m pair) (k pair)))))
    go (inr d) = subst (EndpointFieldsInRange q) (sym (c.elsewhere q d)) (k q)

-- ---- calls

keeps-well : (b : Bool) (m : Ends) → EndsWell m → EndsWell (if b then m else no_ends)
keeps-well true m k = k
keeps-well false m k = none-well

pub makes-well : (cs : List Command) (p : Peer) → Each cs → FieldsInRange p → FieldsInRange (peers.makes cs p)
makes-well cs p f k = record { waiting = makes_all-wait cs p.phase f k.waiting; ends = keeps-well (up (makes_all cs p.phase)) p.ends k.ends }

if-well : (b : Bool) (p q : Peer) → FieldsInRange p → FieldsInRange q → FieldsInRange (if b then p else q)
if-well true p q k l = k
if-well false p q k l = l

called-fits : (call : PairCall) (full : Bool) (m : Ends) → IsCall call → Fits (peers.called call full m)
called-fits (Ask_to_send of_size with_room) full m k = k
called-fits (Ask_to_receive with_room) full m k = let l : free_link m ≤ 2 + 70 = lowest-upto (λ (on : ℕ). not (any (uses_link on) m)) 70 2 in omega (arith, l)
called-fits Close full m k = tt
called-fits (Give text) full m k = tt
called-fits (Take bytes) full m k = tt
called-fits (Allocate a b) full m k = k
called-fits (Call_back a b) full m k = k
called-fits Interrupt full m k = tt

pub calls-well : (pair : Pair) (call : PairCall) (p : Peer) → IsPair pair → IsCall call → InLimitsAt pair (get p.ends pair) → FieldsInRange p → FieldsInRange (peers.calls pair call p)
calls-well pair call p i f l k =
    let what : EndpointEvent = peers.called call (is_full p.phase) p.ends in
    let ok : Fits what = called-fits call (is_full p.phase) p.ends f in
    let after : Option Endpoint = (happens pair what (get p.ends pair)).after in
    if-well (up p.phase) (peers.calls_up pair call p) p
    (makes-well (happens pair what (get p.ends pair)).made (record p { ends = ends.put p.ends pair after })
    (made-fits pair what (get p.ends pair) i ok (fits-of pair (get p.ends pair) (k.ends pair)) l)
    (record { waiting = k.waiting; ends = changed-well p.ends (ends.put p.ends pair after) pair what (put-changes p.ends pair what) i ok k.ends }))
    k

pub echo-well : (byte : ℕ) (p : Peer) → byte < 2 ^ 8 → FieldsInRange p → FieldsInRange (peers.calls_echo byte p)
echo-well byte p f k =
    let full : Bool = is_full p.phase in
    if-well (up p.phase) (peers.echo_called byte p) p (makes-well (acts.made_by_call (echo_answer byte full p.echoes)) (record p { echoes = echo_asked full p.echoes }) (go p.echoes.awaited full) (record { waiting = k.waiting; ends = k.ends })) k
  where
    go : (a b : Bool) → Each (acts.made_by_call (if a then Err Busy else if b then Err QueueFull else Ok (commands.Eco byte)))
    go true b = tt
    go false true = tt
    go false false = (f, tt)

pub reset-well : (q : Bool) (p : Peer) → FieldsInRange p → FieldsInRange (peers.calls_reset q p)
reset-well q p k = if-well (is_resetting p.phase) p (peers.cleared (phases.resets q p.phase) p) k
    (record { waiting = wait-if (is_resetting p.phase) p.phase (phases.phase_settles q (phases.wants_reset p.phase)) k.waiting (settles-wait q (phases.wants_reset p.phase) (purge-wait p.phase k.waiting)); ends = none-well })

pub settles-well : (q : Bool) (p : Peer) → FieldsInRange p → FieldsInRange (peers.settles q p)
settles-well q p k = record { waiting = settles-wait q p.phase k.waiting; ends = k.ends }

pub sends-well : (p : Peer) → FieldsInRange p → FieldsInRange (peers.peer_sends p)
sends-well p k = record { waiting = All-drop IsCommand (length (next_commands p.phase.waiting)) p.phase.waiting k.waiting; ends = k.ends }

-- ---- a command comes

each-append : (xs ys : List Command) → Each xs → Each ys → Each (xs ++ ys)
each-append [] ys k l = l
each-append (x ∷ xs) ys k l = (k.0, each-append xs ys k.1 l)

lead-fits : (c : Command) (m : Ends) (pair : Pair) → IsCommand c → EndsWell m → demux_command c m ≡ Some pair → (what : EndpointEvent) × (comes c m ≡ Some what) × IsPair pair × Fits what
lead-fits (commands.Rts a b d) m pair f k e = let x : (let q : Pair = record { local = b; remote = a } in q) ≡ pair = cc e in (all.Rts_comes d (any (hears_link d) m) (count is_by_peer m), refl, subst IsPair x (f.1, f.0), f.2)
lead-fits (commands.Str a b d) m pair f k e = let x : (let q : Pair = record { local = b; remote = a } in q) ≡ pair = cc e in (all.Str_comes d (count is_by_peer m), refl, subst IsPair x (f.1, f.0), f.2)
lead-fits (commands.Cls a b) m pair f k e = let x : (let q : Pair = record { local = b; remote = a } in q) ≡ pair = cc e in (all.Cls_comes, refl, subst IsPair x (f.1, f.0), tt)
lead-fits (commands.All a b d) m pair f k e = (all.All_comes a b d, refl, passes-pair (hears_link a) pair (get m pair) (led (hears_link a) m pair e).1 (k pair), f)
lead-fits (commands.Gvb a b d) m pair f k e = (all.Gvb_comes a b d, refl, passes-pair (hears_link a) pair (get m pair) (led (hears_link a) m pair e).1 (k pair), f)
lead-fits (commands.Ret a b d) m pair f k e = (all.Ret_comes a b d, refl, passes-pair (uses_link a) pair (get m pair) (led (uses_link a) m pair e).1 (k pair), f)
lead-fits (commands.Inr a) m pair f k e = (all.Inr_comes a, refl, passes-pair (hears_link a) pair (get m pair) (led (hears_link a) m pair e).1 (k pair), f)
lead-fits (commands.Ins a) m pair f k e = (all.Ins_comes a, refl, passes-pair (uses_link a) pair (get m pair) (led (uses_link a) m pair e).1 (k pair), f)
lead-fits c m pair f k e = absurd (cc e)

-- where it leads nowhere
by-link : (c : Command) (act : Option Endpoint → Effect Heard) (o : Option (Pair × Endpoint)) → pair_of o ≡ None → Each (made_by_hearing (answer (act None))) → Each (made_by_hearing (answer (act (end_of o))))
by-link c act None e k = k
by-link c act (Some q) e k = absurd (cc e)

none-made : (c : Command) (m : Ends) → IsCommand c → demux_command c m ≡ None → Each (made_by_hearing (answer (hear c m)))
none-made (commands.Rts a b d) m f e = absurd (cc e)
none-made (commands.Str a b d) m f e = absurd (cc e)
none-made (commands.Cls a b) m f e = absurd (cc e)
none-made (commands.All a b d) m f e = by-link (commands.All a b d) (hear_all a b d) (sender_on a m) e (err 5 (commands.All a b d) (omega arith) f, tt)
none-made (commands.Gvb a b d) m f e = by-link (commands.Gvb a b d) (hear_gvb a b d) (sender_on a m) e (err 5 (commands.Gvb a b d) (omega arith) f, tt)
none-made (commands.Ret a b d) m f e = by-link (commands.Ret a b d) (hear_ret a b d) (receiver_on a m) e (err 5 (commands.Ret a b d) (omega arith) f, tt)
none-made (commands.Inr a) m f e = by-link (commands.Inr a) (hear_inr a) (sender_on a m) e (err 5 (commands.Inr a) (omega arith) f, tt)
none-made (commands.Ins a) m f e = by-link (commands.Ins a) (hear_ins a) (receiver_on a m) e (err 5 (commands.Ins a) (omega arith) f, tt)
none-made c m f e = tt

command-well : (c : Command) (m : Ends) → IsCommand c → EndsInvariant m → EndsWell m → Each (made_by_hearing (answer (hear c m))) × EndsWell (map_after_at m (demux_command c m) (hear c m))
command-well c m f g k = go (demux_command c m) refl
  where
    go : (o : Option Pair) → demux_command c m ≡ o → Each (made_by_hearing (answer (hear c m))) × EndsWell (map_after_at m o (hear c m))
    go None e = (none-made c m f e, k)
    go (Some pair) e =
        let w = lead-fits c m pair f k e in
        let l = command-led m c pair w.0 e w.1 in
        let same : happens pair w.0 (get m pair) ≡ happened (get m pair) (hear c m) made_by_hearing of_hearing = l.1 in (
          subst Each (ap (λ (d : Transition). d.made) same) (made-fits pair w.0 (get m pair) w.2 w.3 (fits-of pair (get m pair) (k pair)) (g.limits pair)),
          changed-well m (map_after m pair (hear c m)) pair w.0 (act-changes m pair w.0 (hear c m) (ap (λ (d : Transition). d.after) same)) w.2 w.3 k,
        )

echo_replies-each : (c : Command) → IsCommand c → Each (peers.echo_replies c)
echo_replies-each (commands.Eco byte) f = (f, tt)
echo_replies-each c f = tt

other-wait : (c : Command) (r : phases.Reaction) (q : Phase) → Each r.replies → AllWait q → AllWait (phases.phase_hears c r q)
other-wait Rst r q f k = settles-wait r.quiet (phases.owes_answer q) (purge-wait q k)
other-wait Rrp r q f k = k
other-wait c r q f k = wait-if (up q) (if r.full then goes_down q else makes_all r.replies q) q (wait-if r.full (goes_down q) (makes_all r.replies q) (down-wait q k) (makes_all-wait r.replies q f k)) k

other-well : (q : Bool) (c : Command) (p : Peer) → IsCommand c → EndsInvariant p.ends → FieldsInRange p → FieldsInRange (peers.hears_other q c p)
other-well q c p f g k =
    let w = command-well c p.ends f g k.ends in
    let r : phases.Reaction = peers.reaction q c p in
    record {
      waiting = other-wait c r p.phase (each-append (made_by_hearing (answer (hear c p.ends))) (peers.echo_replies c) w.0 (echo_replies-each c f)) k.waiting;
      ends = keeps-well (up (phases.phase_hears c r p.phase)) (map_after_at p.ends (demux_command c p.ends) (hear c p.ends)) w.1;
    }

pub hears-well : (q : Bool) (c : Command) (p : Peer) → IsCommand c → EndsInvariant p.ends → FieldsInRange p → FieldsInRange (peers.hears q c p)
hears-well q Rst p f g k = record { waiting = settles-wait q (phases.owes_answer p.phase) (purge-wait p.phase k.waiting); ends = none-well }
hears-well q Rrp p f g k = record { waiting = k.waiting; ends = k.ends }
hears-well q c p f g k = if-well (up p.phase) (peers.hears_other q c p) p (other-well q c p f g k) k

-- ---- a text comes, goes out, is taken

no-text : (head text : List Bool) (of_size : ℕ) (o : Option (Pair × Endpoint)) → length head ≡ 72 → pair_of o ≡ None → Each (made_by_text head text (answer (hear_text of_size text (end_of o))))
no-text head text of_size None f e = (text_err head text f, tt)
no-text head text of_size (Some q) f e = absurd (cc e)

text-made : (on : ℕ) (head : List Bool) (of_size : ℕ) (text : List Bool) (m : Ends) → length head ≡ 72 → EndsInvariant m → EndsWell m
    → Each (made_by_text head text (answer (text_in on of_size text m))) × EndsWell (map_after_at m (pair_of (receiver_on on m)) (text_in on of_size text m))
text-made on head of_size text m f g k = go (pair_of (receiver_on on m)) refl
  where
    took : Effect Took
    took = text_in on of_size text m

    go : (o : Option Pair) → pair_of (receiver_on on m) ≡ o → Each (made_by_text head text (answer took)) × EndsWell (map_after_at m o took)
    go None e = (no-text head text of_size (receiver_on on m) f e, k)
    go (Some pair) e =
        let what : EndpointEvent = all.Text_comes head of_size text in
        let l = led (uses_link on) m pair e in
        let same : happens pair what (get m pair) ≡ happened (get m pair) took (made_by_text head text) outcome_of_text = ap (λ (x : Option Endpoint). happened (get m pair) (hear_text of_size text x) (made_by_text head text) outcome_of_text) l.0 in
        let i : IsPair pair = passes-pair (uses_link on) pair (get m pair) l.1 (k pair) in (
          subst Each (ap (λ (d : Transition). d.made) same) (made-fits pair what (get m pair) i f (fits-of pair (get m pair) (k pair)) (g.limits pair)),
          changed-well m (map_after m pair took) pair what (act-changes m pair what took (ap (λ (d : Transition). d.after) same)) i f k,
        )

pub text-well : (on : ℕ) (head : List Bool) (of_size : ℕ) (text : List Bool) (p : Peer) → length head ≡ 72 → EndsInvariant p.ends → FieldsInRange p → FieldsInRange (peers.hears_text on head of_size text p)
text-well on head of_size text p f g k =
    let w = text-made on head of_size text p.ends f g k.ends in
    if-well (up p.phase) (peers.takes_text on head of_size text p) p (makes-well (made_by_text head text (answer (text_in on of_size text p.ends))) (record p { ends = map_after_at p.ends (pair_of (receiver_on on p.ends)) (text_in on of_size text p.ends) }) w.0 (record { waiting = k.waiting; ends = w.1 })) k

no-answer : (o : Option (Pair × Endpoint)) → pair_of o ≡ None → Each (made_if_any (answer (answered_at Rfnm o)))
no-answer None e = tt
no-answer (Some q) e = absurd (cc e)

taken-made : (on : ℕ) (m : Ends) → EndsInvariant m → EndsWell m → Each (made_if_any (answer (answered_in on Rfnm m))) × EndsWell (map_after_at m (pair_of (sender_on on m)) (answered_in on Rfnm m))
taken-made on m g k = go (pair_of (sender_on on m)) refl
  where
    go : (o : Option Pair) → pair_of (sender_on on m) ≡ o → Each (made_if_any (answer (answered_in on Rfnm m))) × EndsWell (map_after_at m o (answered_in on Rfnm m))
    go None e = (no-answer (sender_on on m) e, k)
    go (Some pair) e =
        let what : EndpointEvent = all.Is_answered Rfnm in
        let l = answered-led m on Rfnm pair e in
        let i : IsPair pair = passes-pair (hears_link on) pair (get m pair) (led (hears_link on) m pair e).1 (k pair) in (
          subst Each (ap (λ (d : Transition). d.made) l.1) (made-fits pair what (get m pair) i tt (fits-of pair (get m pair) (k pair)) (g.limits pair)),
          changed-well m (map_after m pair (answered_in on Rfnm m)) pair what (act-changes m pair what (answered_in on Rfnm m) (ap (λ (d : Transition). d.after) l.1)) i tt k,
        )

pub frees-well : (on : ℕ) (p : Peer) → EndsInvariant p.ends → FieldsInRange p → FieldsInRange (peers.frees on p)
frees-well on p g k =
    let w = taken-made on p.ends g k.ends in
    if-well (up p.phase) (peers.frees_up on p) p (makes-well (made_if_any (answer (answered_in on Rfnm p.ends))) (record p { ends = map_after_at p.ends (pair_of (sender_on on p.ends)) (answered_in on Rfnm p.ends) }) w.0 (record { waiting = k.waiting; ends = w.1 })) k

cut-ends : (on : ℕ) (m : Ends) → EndsWell m → EndsWell (map_after_at m (pair_of (sender_on on m)) (cut_in on m))
cut-ends on m k = go (pair_of (sender_on on m)) refl
  where
    go : (o : Option Pair) → pair_of (sender_on on m) ≡ o → EndsWell (map_after_at m o (cut_in on m))
    go None e = k
    go (Some pair) e =
        let what : EndpointEvent = all.Text_goes_out in
        let l = cut-led m on pair e in
        let i : IsPair pair = passes-pair (hears_link on) pair (get m pair) (led (hears_link on) m pair e).1 (k pair) in
        changed-well m (map_after m pair (cut_in on m)) pair what (act-changes m pair what (cut_in on m) (ap (λ (d : Transition). d.after) l.1)) i tt k

pub cuts-well : (on : ℕ) (p : Peer) → FieldsInRange p → FieldsInRange (peers.cuts on p)
cuts-well on p k = record { waiting = k.waiting; ends = cut-ends on p.ends k.ends }

-- ---- what goes out can be written

times : (k m a : ℕ) → m ≤ a / k → m * k ≤ a
times k m a l = omega (arith, mul-le-mul_right k l, div-mul-le_self a k)

cut-text : (pair : Pair) (e : Endpoint) (text : ℕ × List Bool) → EndFits (Some e) → InLimitsAt pair (Some e) → SoundAt pair (Some e) → answer (cut pair (Some e)) ≡ Some text → IsText text.0 text.1
cut-text pair e text f l s = go (can_send pair e) refl
  where
    go : (b : Bool) → can_send pair e ≡ b → answer (if b then cut_bits (bytes_to_send e * e.size) e else Stays None) ≡ Some text → IsText text.0 text.1
    go false b x = absurd (cc x)
    go true b x =
        let same : (e.size, take (bytes_to_send e * e.size) e.stored) ≡ text = cc x in
        let sender : sends pair ≡ true = grind arith in
        let open_ : is_open e ≡ true = grind arith in
        let some : 0 < e.size = l.own_size sender (s.asked (s.opens open_)) in
        let n : ℕ = bytes_to_send e * e.size in
        let held : n ≤ length e.stored = times e.size (bytes_to_send e) (length e.stored) (min-le_left (length e.stored / e.size) (min (e.bits / e.size) (MAX_TEXT / e.size))) in
        let few : n ≤ MAX_TEXT = times e.size (bytes_to_send e) MAX_TEXT (omega (arith, min-le_right (length e.stored / e.size) (min (e.bits / e.size) (MAX_TEXT / e.size)), min-le_right (e.bits / e.size) (MAX_TEXT / e.size))) in
        let long : length (take n e.stored) ≡ n = length-take-le n e.stored held in
        subst (λ (t : ℕ × List Bool). IsText t.0 t.1) same (some, f.0, omega (arith, long, few), ap (λ (k : ℕ). k % e.size) long ∙ mul-mod_left (bytes_to_send e) e.size)

pub cut-written : (on : ℕ) (m : Ends) (text : ℕ × List Bool) → EndsInvariant m → EndsWell m → answer (cut_in on m) ≡ Some text → IsText text.0 text.1
cut-written on m text g k x = go (sender_on on m) refl x
  where
    go : (o : Option (Pair × Endpoint)) → sender_on on m ≡ o → answer (cut_at o) ≡ Some text → IsText text.0 text.1
    go None e x = absurd (cc x)
    go (Some q) e x =
        let there : get m q.0 ≡ Some q.1 = (led (hears_link on) m q.0 (ap pair_of e)).0 ∙ ap end_of e in
        cut-text q.0 q.1 text (subst EndFits there (fits-of q.0 (get m q.0) (k q.0))) (subst (InLimitsAt q.0) there (g.limits q.0)) (subst (SoundAt q.0) there (g.sound q.0)) x
