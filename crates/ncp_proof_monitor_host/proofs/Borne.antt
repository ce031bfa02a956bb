-- An invariant of a host's state for a peer, after any event: the queued commands are proper, each end
-- has one socket of each sex, a text in a slot is that of a busy end while no reset is pending, and a
-- leaving end waits for a text.
use Rattle.std.proofs.Common.{◌≡◌, ℕ, zero, suc, Bool, true, false, ◌&&◌, if◌then◌else◌, List, [], ◌∷◌, ◌++◌, drop, Option, None, Some, is_some, Result, refl, sym, ap, ◌∙◌, subst, arith}
use Rattle.std.specs.List.{filter, list_any}
use Rattle.std.specs.FinMap.{get, get-empty}
use Rattle.ncp_wire.specs.declared.command.Command.{Command}
use Rattle.ncp_wire.specs.declared.command.Command.TheVariants.{Rts, Str, Cls, Gvb, Ret, Inr, Ins, Eco, Err, Rst, Rrp}
use Rattle.ncp_wire.specs.declared.fault.CommandFault.{CommandFault}
use Rattle.ncp_slot.specs.Slot.{is_empty}
use Rattle.ncp_slot.specs.Slots.{LinkSlots, slot_at}
use Rattle.ncp_model.specs.declared.pair.Pair.{Pair}
use Rattle.ncp_model.specs.declared.call_fault.CallFault.{CallFault}
use Rattle.ncp_model.specs.Pairs.{pair_cmp}
use Rattle.ncp_model.specs.Endpoint.{Endpoint}
use Rattle.ncp_model.specs.Effect.{Effect, answer, end_after, made_by_call, made_if_any, made_by_hearing}
use Rattle.ncp_model.specs.Echo.{Echoes, echo_answer, purge_echo}
use Rattle.ncp_model.specs.Ends.{Ends, any, count, is_by_peer, hears_link, uses_link, sender_on, receiver_on, pair_of, end_of, demux_command, hear, text_in, cut_at, cut_in, answered_at, answered_in, map_after, map_after_at, no_ends, put}
use Rattle.ncp_model.specs.EndpointEvents.{EndpointEvent, Transition, happens}
use Rattle.ncp_model.specs.Phase.{Phase, Reaction, up, is_reset, is_other, is_rst, is_rrp, is_resetting, has_room_for_one, queued, goes_down, phase_makes, makes_all, phase_hears, phase_answers, phase_asks, phase_settles, wants_reset, owes_answer}
use Rattle.ncp_model.specs.Sending.{is_full}
use Rattle.ncp_model.specs.Texts.{Rfnm, hear_text, cut, made_by_text}
use Rattle.ncp_model.specs.declared.outcomes.Took.{Took}
use Rattle.ncp_model.specs.Peers.{Peer, PairCall, Ask_to_send, called, happened_at, calls_up, calls, echo_called, calls_echo, calls_reset, cleared, standing, makes, reaction, echo_replies, echoes_after, hears_other, hears, hears_fault, takes_text, hears_text, cuts, peer_sends, frees_up, frees, settles}
use Rattle.ncp_model.proofs.LinksDemux.{led, command-led, cut-led, answered-led}
use Rattle.ncp_model.proofs.EndsAfter.{after-at}
use Rattle.ncp_proof_endpoint.specs.Sound.{SoundAt}
use Rattle.ncp_proof_machine.proofs.EndsGood.{Changes, changed-each, put-changes, act-changes}
use Rattle.ncp_proof_progress.specs.Idle.{LeavingAt}
use Rattle.ncp_proof_progress.proofs.LeavingEnds.{leaving-after}
use Rattle.ncp_peer.specs.Soundness.{is_end_busy}
use Rattle.ncp_proof_monitor_allocation.proofs.Proper.{has_right_parts, AllProper, IsProperEnd, ProperEnds, proper_append, proper_made, proper_after, call_link}
use Rattle.ncp_proof_monitor_host.proofs.BusySlots.{BusySlots, FillsNone, busy_less, is_kept, busy_put, busy_hears, busy_text, busy_cut, busy_freed}
use Rattle.ncp_proof_monitor_host.proofs.Carries.{is_unreset}
use Rattle.ncp_proof_monitor.proofs.EndsStay.{comes_some}

abbrev pub SoundEnds : Ends → Type 0
SoundEnds m = (pair : Pair) → SoundAt pair (get m pair)

abbrev pub LeavingEnds : Ends → Type 0
LeavingEnds m = (pair : Pair) → LeavingAt pair (get m pair)

pub record Borne (p : Peer) (slots : LinkSlots) : Type 0 where
  pub proper : AllProper p.phase.waiting
  pub sexes : ProperEnds p.ends
  pub busy : is_unreset p.phase ≡ true → BusySlots p.ends slots
  pub leaving : LeavingEnds p.ends

-- while the data links are quiet, none has a message
abbrev pub QuietReports : Bool → LinkSlots → Type 0
QuietReports quiet slots = quiet ≡ true → (on : ℕ) → ((on ≡ 0) → ⊥) → is_empty (slot_at slots on) ≡ true

-- ---- what waits

proper_filter : (t : Command → Bool) (cs : List Command) → AllProper cs → AllProper (filter t cs)
proper_filter t [] a = tt
proper_filter t (c ∷ cs) (k, a) = go (t c) (proper_filter t cs a)
  where
    go : (b : Bool) → AllProper (filter t cs) → AllProper (if b then c ∷ filter t cs else filter t cs)
    go true rest = (k, rest)
    go false rest = rest

pub proper_drop : (n : ℕ) (cs : List Command) → AllProper cs → AllProper (drop n cs)
proper_drop zero cs a = a
proper_drop (suc n) [] a = tt
proper_drop (suc n) (c ∷ cs) (k, a) = proper_drop n cs a

proper_makes_one : (c : Command) (p : Phase) → has_right_parts c ≡ true → AllProper p.waiting → AllProper (phase_makes c p).waiting
proper_makes_one c p k a = go (up p && is_other c) (has_room_for_one p)
  where
    go : (x y : Bool) → AllProper (if x then (if y then queued c p else goes_down p) else p).waiting
    go true true = proper_append p.waiting (c ∷ []) a (k, tt)
    go true false = proper_filter is_reset p.waiting a
    go false y = a

proper_makes : (cs : List Command) (p : Phase) → AllProper cs → AllProper p.waiting → AllProper (makes_all cs p).waiting
proper_makes [] p k a = a
proper_makes (c ∷ cs) p (k, ks) a = proper_makes cs (phase_makes c p) ks (proper_makes_one c p k a)

waits_one : (c : Command) (p : Phase) → (phase_makes c p).wait ≡ p.wait
waits_one c p = go (up p && is_other c) (has_room_for_one p)
  where
    go : (x y : Bool) → (if x then (if y then queued c p else goes_down p) else p).wait ≡ p.wait
    go true true = refl
    go true false = refl
    go false y = refl

waits_as : (cs : List Command) (p : Phase) → (makes_all cs p).wait ≡ p.wait
waits_as [] p = refl
waits_as (c ∷ cs) p = waits_as cs (phase_makes c p) ∙ waits_one c p

up_waits : (p : Phase) → up p ≡ true → p.wait ≡ false
up_waits p u = grind arith

unreset_up : (p : Phase) → p.wait ≡ false → is_unreset p ≡ true → up p ≡ true
unreset_up p w u = grind arith

pub up_unreset : (p : Phase) → up p ≡ true → is_unreset p ≡ true
up_unreset p u = grind arith

-- ---- settling

proper_settles : (quiet : Bool) (p : Phase) → AllProper p.waiting → AllProper (phase_settles quiet p).waiting
proper_settles false p a = a
proper_settles true p a = asks (phase_answers p) (answers p.owe (list_any is_rrp p.waiting))
  where
    answers : (o k : Bool) → AllProper (if o then record p { down = false; owe = false; waiting = if k then p.waiting else p.waiting ++ Rrp ∷ [] } else p).waiting
    answers true true = a
    answers true false = proper_append p.waiting (Rrp ∷ []) a (refl, tt)
    answers false k = a

    asks : (q : Phase) → AllProper q.waiting → AllProper (phase_asks q).waiting
    asks q b = go q.want (list_any is_rst q.waiting)
      where
        go : (w k : Bool) → AllProper (if w then record q { down = false; want = false; wait = true; waiting = if k then q.waiting else q.waiting ++ Rst ∷ [] } else q).waiting
        go true true = b
        go true false = proper_append q.waiting (Rst ∷ []) b (refl, tt)
        go false k = b

-- ---- no end is there

pub none_sexes : ProperEnds no_ends
none_sexes pair k = let none : is_some (get no_ends pair) ≡ false = ap is_some (get-empty pair_cmp pair) in let nay : true ≡ false = sym k ∙ none in absurd (cc nay)

pub none_leaving : LeavingEnds no_ends
none_leaving pair = subst (LeavingAt pair) (sym (get-empty pair_cmp pair)) tt

-- cleared: no reset is due only if the data links are quiet
cleared_borne : (q : Phase) (p : Peer) (slots : LinkSlots) → AllProper q.waiting → (is_unreset q ≡ true → (on : ℕ) → ((on ≡ 0) → ⊥) → is_empty (slot_at slots on) ≡ true) → Borne (cleared q p) slots
cleared_borne q p slots a quiet = record {
  proper = a;
  sexes = none_sexes;
  busy = λ u on d e. let nay : true ≡ false = sym (quiet u on d) ∙ e in absurd (cc nay);
  leaving = none_leaving;
}

-- commands are made, and the ends are these while it is up
standing_borne : (q : Phase) (m : Ends) (s : Echoes) (slots : LinkSlots) → AllProper q.waiting → q.wait ≡ false → ProperEnds m → BusySlots m slots → LeavingEnds m → Borne (standing q m s) slots
standing_borne q m s slots a w sexes busy leaving = go (up q) refl
  where
    go : (b : Bool) → up q ≡ b → Borne (record { phase = q; ends = if b then m else no_ends; echoes = if b then s else purge_echo s }) slots
    go true u = record { proper = a; sexes = sexes; busy = λ k. busy; leaving = leaving }
    go false u = record {
      proper = a;
      sexes = none_sexes;
      busy = λ k. let nay : true ≡ false = sym (unreset_up q w k) ∙ u in absurd (cc nay);
      leaving = none_leaving;
    }

-- ---- the ends after something happened at one

changed_sexes : (m n : Ends) (pair : Pair) (what : EndpointEvent) → Changes m n pair what → ProperEnds m → ProperEnds n
changed_sexes m n pair what c k = changed-each IsProperEnd m n pair what c (λ e. proper_after pair what (get m pair) e) k

changed_leaving : (m n : Ends) (pair : Pair) (what : EndpointEvent) → SoundEnds m → Changes m n pair what → LeavingEnds m → LeavingEnds n
changed_leaving m n pair what sound c k = changed-each LeavingAt m n pair what c (λ e. leaving-after pair what (get m pair) (sound pair) e) k

looked_sexes : {A : Type 0} → (m : Ends) (o : Option Pair) (act : Effect A) → ((pair : Pair) → o ≡ Some pair → (what : EndpointEvent) × ((happens pair what (get m pair)).after ≡ end_after (get m pair) act)) → ProperEnds m → ProperEnds (map_after_at m o act)
looked_sexes m None act f k = k
looked_sexes m (Some pair) act f k = let w = f pair refl in changed_sexes m (map_after m pair act) pair w.0 (act-changes m pair w.0 act w.1) k

looked_leaving : {A : Type 0} → (m : Ends) (o : Option Pair) (act : Effect A) → SoundEnds m → ((pair : Pair) → o ≡ Some pair → (what : EndpointEvent) × ((happens pair what (get m pair)).after ≡ end_after (get m pair) act)) → LeavingEnds m
    → LeavingEnds (map_after_at m o act)
looked_leaving m None act sound f k = k
looked_leaving m (Some pair) act sound f k = let w = f pair refl in changed_leaving m (map_after m pair act) pair w.0 sound (act-changes m pair w.0 act w.1) k

pub by_command : (c : Command) (m : Ends) (pair : Pair) → demux_command c m ≡ Some pair → (what : EndpointEvent) × ((happens pair what (get m pair)).after ≡ end_after (get m pair) (hear c m))
by_command c m pair e = let w = comes_some c m pair e in (w.0, ap (λ (d : Transition). d.after) (command-led m c pair w.0 e w.1).1)

by_text : (m : Ends) (on of_size : ℕ) (text : List Bool) (pair : Pair) → pair_of (receiver_on on m) ≡ Some pair → (what : EndpointEvent) × ((happens pair what (get m pair)).after ≡ end_after (get m pair) (text_in on of_size text m))
by_text m on of_size text pair e = (EndpointEvent.Text_comes [] of_size text, ap (λ (o : Option Endpoint). end_after (get m pair) (hear_text of_size text o)) (led (uses_link on) m pair e).0)

by_cut : (m : Ends) (on : ℕ) (pair : Pair) → pair_of (sender_on on m) ≡ Some pair → (what : EndpointEvent) × ((happens pair what (get m pair)).after ≡ end_after (get m pair) (cut_in on m))
by_cut m on pair e = (EndpointEvent.Text_goes_out, ap (λ (d : Transition). d.after) (cut-led m on pair e).1)

by_answer : (m : Ends) (on : ℕ) (pair : Pair) → pair_of (sender_on on m) ≡ Some pair → (what : EndpointEvent) × ((happens pair what (get m pair)).after ≡ end_after (get m pair) (answered_in on Rfnm m))
by_answer m on pair e = (EndpointEvent.Is_answered Rfnm, ap (λ (d : Transition). d.after) (answered-led m on Rfnm pair e).1)

-- ---- calls

kept_call : (call : PairCall) (full : Bool) (m : Ends) → is_kept (called call full m) ≡ true
kept_call (Ask_to_send of_size room) full m = refl
kept_call call full m = refl

pub calls_borne : (pair : Pair) (call : PairCall) (p : Peer) (slots : LinkSlots) → SoundEnds p.ends → Borne p slots → Borne (calls pair call p) slots
calls_borne pair call p slots sound k = go (up p.phase) refl
  where
    what : EndpointEvent
    what = called call (is_full p.phase) p.ends

    made : List Command
    made = (happened_at pair call p).made

    m : Ends
    m = put p.ends pair (happens pair what (get p.ends pair)).after

    c : Changes p.ends m pair what
    c = put-changes p.ends pair what

    go : (b : Bool) → up p.phase ≡ b → Borne (if b then calls_up pair call p else p) slots
    go true u =
        standing_borne (makes_all made p.phase) m p.echoes slots
        (proper_makes made p.phase (proper_made pair what (get p.ends pair) (k.sexes pair) (call_link call (is_full p.phase) p.ends)) k.proper)
        (waits_as made p.phase ∙ up_waits p.phase u)
        (changed_sexes p.ends m pair what c k.sexes)
        (busy_put p.ends m slots pair what (kept_call call (is_full p.phase) p.ends) (sound pair) c.there c.elsewhere (k.busy (up_unreset p.phase u)))
        (changed_leaving p.ends m pair what sound c k.leaving)
    go false u = k

-- commands are made, and the ends stay
makes_borne : (cs : List Command) (p : Peer) (s : Echoes) (slots : LinkSlots) → AllProper cs → up p.phase ≡ true → Borne p slots → Borne (standing (makes_all cs p.phase) p.ends s) slots
makes_borne cs p s slots a u k = standing_borne (makes_all cs p.phase) p.ends s slots (proper_makes cs p.phase a k.proper) (waits_as cs p.phase ∙ up_waits p.phase u) k.sexes (k.busy (up_unreset p.phase u)) k.leaving

pub echo_borne : (byte : ℕ) (p : Peer) (slots : LinkSlots) → Borne p slots → Borne (calls_echo byte p) slots
echo_borne byte p slots k = go (up p.phase) refl
  where
    echoed : (full : Bool) → AllProper (made_by_call (echo_answer byte full p.echoes))
    echoed full = by p.echoes.awaited full
      where
        by : (a f : Bool) → AllProper (made_by_call (if a then Result.Err CallFault.Busy else if f then Result.Err CallFault.QueueFull else Result.Ok (Eco byte)))
        by true f = tt
        by false true = tt
        by false false = (refl, tt)

    go : (b : Bool) → up p.phase ≡ b → Borne (if b then echo_called byte p else p) slots
    go true u = makes_borne (made_by_call (echo_answer byte (is_full p.phase) p.echoes)) p _ slots (echoed (is_full p.phase)) u k
    go false u = k

pub fault_borne : (fault : CommandFault) (p : Peer) (slots : LinkSlots) → Borne p slots → Borne (hears_fault fault p) slots
fault_borne fault p slots k = go (up p.phase) refl
  where
    go : (b : Bool) → up p.phase ≡ b → Borne (if b then makes (Err fault.code fault.bytes ∷ []) p else p) slots
    go true u = makes_borne (Err fault.code fault.bytes ∷ []) p p.echoes slots (refl, tt) u k
    go false u = k

-- ---- resets

wanted : (p : Phase) → is_unreset (phase_settles false (wants_reset p)) ≡ false
wanted p = grind arith

owed : (p : Phase) → is_unreset (phase_settles false (owes_answer p)) ≡ false
owed p = grind arith

reset_borne_by : (quiet : Bool) (q : Phase) (p : Peer) (slots : LinkSlots) → QuietReports quiet slots → AllProper q.waiting → is_unreset (phase_settles false q) ≡ false → Borne (cleared (phase_settles quiet q) p) slots
reset_borne_by quiet q p slots tells a none = cleared_borne (phase_settles quiet q) p slots (proper_settles quiet q a) (unreset quiet refl)
  where
    unreset : (b : Bool) → quiet ≡ b → is_unreset (phase_settles b q) ≡ true → (on : ℕ) → ((on ≡ 0) → ⊥) → is_empty (slot_at slots on) ≡ true
    unreset true e u = tells e
    unreset false e u = let nay : true ≡ false = sym u ∙ none in absurd (cc nay)

pub reset_borne : (quiet : Bool) (p : Peer) (slots : LinkSlots) → QuietReports quiet slots → Borne p slots → Borne (calls_reset quiet p) slots
reset_borne quiet p slots tells k = go (is_resetting p.phase)
  where
    go : (b : Bool) → Borne (if b then p else cleared (if b then p.phase else phase_settles quiet (wants_reset p.phase)) p) slots
    go true = k
    go false = reset_borne_by quiet (wants_reset p.phase) p slots tells (proper_filter is_reset p.phase.waiting k.proper) (wanted p.phase)

-- ---- commands come

abbrev one_pair : Pair
one_pair = record { local = 1; remote = 0 }

heard_made : (c : Command) (m : Ends) → ProperEnds m → AllProper (made_by_hearing (answer (hear c m)))
heard_made (Rts receive send on) m k = proper_made (record { local = send; remote = receive }) (EndpointEvent.Rts_comes on (any (hears_link on) m) (count is_by_peer m)) (get m (record { local = send; remote = receive })) (k (record { local = send; remote = receive })) tt
heard_made (Str send receive size) m k = proper_made (record { local = receive; remote = send }) (EndpointEvent.Str_comes size (count is_by_peer m)) (get m (record { local = receive; remote = send })) (k (record { local = receive; remote = send })) tt
heard_made (Cls my your) m k = proper_made (record { local = your; remote = my }) EndpointEvent.Cls_comes (get m (record { local = your; remote = my })) (k (record { local = your; remote = my })) tt
heard_made (Command.All on x y) m k = proper_made one_pair (EndpointEvent.All_comes on x y) (end_of (sender_on on m)) (λ z. refl) tt
heard_made (Gvb on x y) m k = proper_made one_pair (EndpointEvent.Gvb_comes on x y) (end_of (sender_on on m)) (λ z. refl) tt
heard_made (Ret on x y) m k = proper_made one_pair (EndpointEvent.Ret_comes on x y) (end_of (receiver_on on m)) (λ z. refl) tt
heard_made (Inr on) m k = proper_made one_pair (EndpointEvent.Inr_comes on) (end_of (sender_on on m)) (λ z. refl) tt
heard_made (Ins on) m k = proper_made one_pair (EndpointEvent.Ins_comes on) (end_of (receiver_on on m)) (λ z. refl) tt
heard_made c m k = tt

echoes_made : (c : Command) → AllProper (echo_replies c)
echoes_made (Eco byte) = (refl, tt)
echoes_made c = tt

-- the phase after another command, while the host is up
reacts : (c : Command) (r : Reaction) (p : Phase) → is_other c ≡ true → up p ≡ true → phase_hears c r p ≡ (if r.full then goes_down p else makes_all r.replies p)
reacts Rst r p o u = absurd (cc o)
reacts Rrp r p o u = absurd (cc o)
reacts c r p o u = ap (λ (b : Bool). if b then (if r.full then goes_down p else makes_all r.replies p) else p) u

reacted_proper : (full : Bool) (cs : List Command) (p : Phase) → AllProper cs → AllProper p.waiting → AllProper (if full then goes_down p else makes_all cs p).waiting
reacted_proper true cs p k a = proper_filter is_reset p.waiting a
reacted_proper false cs p k a = proper_makes cs p k a

reacted_waits : (full : Bool) (cs : List Command) (p : Phase) → (if full then goes_down p else makes_all cs p).wait ≡ p.wait
reacted_waits true cs p = refl
reacted_waits false cs p = waits_as cs p

other_borne : (quiet : Bool) (c : Command) (p : Peer) (slots : LinkSlots) → is_other c ≡ true → SoundEnds p.ends → Borne p slots → Borne (if up p.phase then hears_other quiet c p else p) slots
other_borne quiet c p slots o sound k = go (up p.phase) refl
  where
    r : Reaction
    r = reaction quiet c p

    go : (b : Bool) → up p.phase ≡ b → Borne (if b then hears_other quiet c p else p) slots
    go true u =
        let is = reacts c r p.phase o u in
        standing_borne (phase_hears c r p.phase) (map_after_at p.ends (demux_command c p.ends) (hear c p.ends)) (echoes_after c p.echoes) slots
        (subst (λ (q : Phase). AllProper q.waiting) (sym is) (reacted_proper r.full r.replies p.phase (proper_append (made_by_hearing (answer (hear c p.ends))) (echo_replies c) (heard_made c p.ends k.sexes) (echoes_made c)) k.proper))
        (ap (λ (q : Phase). q.wait) is ∙ reacted_waits r.full r.replies p.phase ∙ up_waits p.phase u)
        (looked_sexes p.ends (demux_command c p.ends) (hear c p.ends) (λ pair e. by_command c p.ends pair e) k.sexes)
        (busy_hears p.ends slots c sound (k.busy (up_unreset p.phase u)))
        (looked_leaving p.ends (demux_command c p.ends) (hear c p.ends) sound (λ pair e. by_command c p.ends pair e) k.leaving)
    go false u = k

pub hears_borne : (quiet : Bool) (c : Command) (p : Peer) (slots : LinkSlots) → QuietReports quiet slots → SoundEnds p.ends → Borne p slots → Borne (hears quiet c p) slots
hears_borne quiet Rst p slots tells sound k = reset_borne_by quiet (owes_answer p.phase) p slots tells (proper_filter is_reset p.phase.waiting k.proper) (owed p.phase)
hears_borne quiet Rrp p slots tells sound k = record { proper = k.proper; sexes = k.sexes; busy = k.busy; leaving = k.leaving }
hears_borne quiet c p slots tells sound k = other_borne quiet c p slots refl sound k

-- ---- a text comes

text_made : (head text : List Bool) (took : Took) → AllProper (made_by_text head text took)
text_made head text Took.NotOpen = (refl, tt)
text_made head text Took.Admitted = tt
text_made head text Took.Late = tt
text_made head text Took.WrongSize = tt
text_made head text Took.Over = tt

pub text_borne : (on : ℕ) (head : List Bool) (of_size : ℕ) (text : List Bool) (p : Peer) (slots : LinkSlots) → SoundEnds p.ends → Borne p slots → Borne (hears_text on head of_size text p) slots
text_borne on head of_size text p slots sound k = go (up p.phase) refl
  where
    cs : List Command
    cs = made_by_text head text (answer (text_in on of_size text p.ends))

    go : (b : Bool) → up p.phase ≡ b → Borne (if b then takes_text on head of_size text p else p) slots
    go true u =
        standing_borne (makes_all cs p.phase) (map_after_at p.ends (pair_of (receiver_on on p.ends)) (text_in on of_size text p.ends)) p.echoes slots
        (proper_makes cs p.phase (text_made head text (answer (text_in on of_size text p.ends))) k.proper)
        (waits_as cs p.phase ∙ up_waits p.phase u)
        (looked_sexes p.ends (pair_of (receiver_on on p.ends)) (text_in on of_size text p.ends) (λ pair e. by_text p.ends on of_size text pair e) k.sexes)
        (busy_text p.ends slots on of_size text sound (k.busy (up_unreset p.phase u)))
        (looked_leaving p.ends (pair_of (receiver_on on p.ends)) (text_in on of_size text p.ends) sound (λ pair e. by_text p.ends on of_size text pair e) k.leaving)
    go false u = k

-- ---- no slot is filled

pub slots_borne : (p : Peer) (slots now : LinkSlots) → FillsNone slots now → Borne p slots → Borne p now
slots_borne p slots now f k = record { proper = k.proper; sexes = k.sexes; busy = λ u. busy_less p.ends slots now f (k.busy u); leaving = k.leaving }

pub settles_borne : (quiet : Bool) (p : Peer) (slots : LinkSlots) → QuietReports quiet slots → Borne p slots → Borne (settles quiet p) slots
settles_borne false p slots tells k = k
settles_borne true p slots tells k = record {
  proper = proper_settles true p.phase k.proper;
  sexes = k.sexes;
  busy = λ u on d e. let nay : true ≡ false = sym (tells refl on d) ∙ e in absurd (cc nay);
  leaving = k.leaving;
}

-- ---- a text was taken

answered_made : (on : ℕ) (m : Ends) → ProperEnds m → AllProper (made_if_any (answer (answered_in on Rfnm m)))
answered_made on m k = go (pair_of (sender_on on m)) refl
  where
    nobody : (o : Option (Pair × Endpoint)) → pair_of o ≡ None → AllProper (made_if_any (answer (answered_at Rfnm o)))
    nobody None e = tt
    nobody (Some q) e = absurd (cc e)

    go : (o : Option Pair) → pair_of (sender_on on m) ≡ o → AllProper (made_if_any (answer (answered_in on Rfnm m)))
    go None e = nobody (sender_on on m) e
    go (Some pair) e = subst (λ (h : Transition). AllProper h.made) (answered-led m on Rfnm pair e).1 (proper_made pair (EndpointEvent.Is_answered Rfnm) (get m pair) (k pair) tt)

pub frees_borne : (on : ℕ) (p : Peer) (slots now : LinkSlots) → SoundEnds p.ends → is_empty (slot_at now on) ≡ true → ((by : ℕ) → ((by ≡ on) → ⊥) → is_empty (slot_at now by) ≡ false → is_empty (slot_at slots by) ≡ false) → FillsNone slots now
    → Borne p slots → Borne (frees on p) now
frees_borne on p slots now sound gone same less k = go (up p.phase) refl
  where
    cs : List Command
    cs = made_if_any (answer (answered_in on Rfnm p.ends))

    go : (b : Bool) → up p.phase ≡ b → Borne (if b then frees_up on p else p) now
    go true u =
        standing_borne (makes_all cs p.phase) (map_after_at p.ends (pair_of (sender_on on p.ends)) (answered_in on Rfnm p.ends)) p.echoes now
        (proper_makes cs p.phase (answered_made on p.ends k.sexes) k.proper)
        (waits_as cs p.phase ∙ up_waits p.phase u)
        (looked_sexes p.ends (pair_of (sender_on on p.ends)) (answered_in on Rfnm p.ends) (λ pair e. by_answer p.ends on pair e) k.sexes)
        (busy_freed p.ends slots now on gone same (k.busy (up_unreset p.phase u)))
        (looked_leaving p.ends (pair_of (sender_on on p.ends)) (answered_in on Rfnm p.ends) sound (λ pair e. by_answer p.ends on pair e) k.leaving)
    go false u = slots_borne p slots now less k

-- ---- a message is sent

pub sends_borne : (p : Peer) (slots : LinkSlots) → Borne p slots → Borne (peer_sends p) slots
sends_borne p slots k = record { proper = proper_drop _ p.phase.waiting k.proper; sexes = k.sexes; busy = k.busy; leaving = k.leaving }

cut_is_busy : (pair : Pair) (e : Endpoint) (t : ℕ × List Bool) → answer (cut pair (Some e)) ≡ Some t → is_end_busy (end_after (Some e) (cut pair (Some e))) ≡ true
cut_is_busy pair e t a = grind arith

busy_after : (m : Ends) (on : ℕ) (pair : Pair) (t : ℕ × List Bool) → pair_of (sender_on on m) ≡ Some pair → answer (cut_in on m) ≡ Some t → is_end_busy (get (map_after m pair (cut_in on m)) pair) ≡ true
busy_after m on pair t e a = ap is_end_busy (after-at m pair (cut_in on m)) ∙ go (sender_on on m) e a (led (hears_link on) m pair e).0
  where
    go : (o : Option (Pair × Endpoint)) → pair_of o ≡ Some pair → answer (cut_at o) ≡ Some t → get m pair ≡ end_of o → is_end_busy (end_after (get m pair) (cut_at o)) ≡ true
    go None e a g = absurd (cc e)
    go (Some q) e a g = ap (λ (b : Option Endpoint). is_end_busy (end_after b (cut_at (Some q)))) g ∙ cut_is_busy q.0 q.1 t a

pub cuts_borne : (on : ℕ) (p : Peer) (slots now : LinkSlots) (t : ℕ × List Bool) → SoundEnds p.ends → answer (cut_in on p.ends) ≡ Some t → ((by : ℕ) → ((by ≡ on) → ⊥) → is_empty (slot_at now by) ≡ false → is_empty (slot_at slots by) ≡ false)
    → Borne p slots → Borne (cuts on p) now
cuts_borne on p slots now t sound a same k = record {
  proper = k.proper;
  sexes = looked_sexes p.ends (pair_of (sender_on on p.ends)) (cut_in on p.ends) (λ pair e. by_cut p.ends on pair e) k.sexes;
  busy = λ u. go (pair_of (sender_on on p.ends)) refl (k.busy u);
  leaving = looked_leaving p.ends (pair_of (sender_on on p.ends)) (cut_in on p.ends) sound (λ pair e. by_cut p.ends on pair e) k.leaving;
}
  where
    nobody : (o : Option (Pair × Endpoint)) → pair_of o ≡ None → answer (cut_at o) ≡ Some t → ⊥
    nobody None e a = cc a
    nobody (Some q) e a = cc e

    go : (o : Option Pair) → pair_of (sender_on on p.ends) ≡ o → BusySlots p.ends slots → BusySlots (map_after_at p.ends o (cut_in on p.ends)) now
    go None e b = absurd (nobody (sender_on on p.ends) e a)
    go (Some pair) e b = busy_cut p.ends slots now on pair e (sound pair) (busy_after p.ends on pair t e a) same b
