-- What is known of what is said, through all that the host does by itself: its calls, texts that go out, and the answers to them.
use Rattle.std.proofs.Common.{◌≡◌, ℕ, ◌+◌, ◌<◌, ◌==◌, Bool, true, false, not, ◌&&◌, ◌||◌, ◌⊎◌, if◌then◌else◌, List, [], ◌∷◌, ◌++◌, Option, None, Some, Ok, Err, refl, sym, ap, ◌∙◌, subst, arith}
use Rattle.std.specs.FinMap.{get}
use Rattle.std.specs.List.{list_any}
use Rattle.std.proofs.lemmas.List.{append-nil}
use Rattle.ncp_wire.specs.declared.command.Command.{Command}
use Rattle.ncp_wire.specs.declared.answer.Answer.{Answer}
use Rattle.ncp_wire.specs.declared.answer.Answer.TheVariants.{Incomplete, Dead}
use Rattle.ncp_slot.specs.Slots.{LinkSlots, is_quiet, slot_at, with_slot}
use Rattle.ncp_slot.specs.Slot.{answered}
use Rattle.ncp_model.specs.declared.pair.Pair.{Pair}
use Rattle.ncp_model.specs.declared.call_fault.CallFault.{CallFault}
use Rattle.ncp_model.specs.Effect.{Effect, answer, end_after, made_if_any, made_by_call}
use Rattle.ncp_model.specs.Endpoint.{Endpoint}
use Rattle.ncp_model.specs.Ends.{Ends, put, sender_on, pair_of, answered_at, answered_in, map_after, map_after_at, no_ends}
use Rattle.ncp_model.specs.Echo.{Echoes, echo_answer, echo_asked}
use Rattle.ncp_model.specs.Texts.{Rfnm}
use Rattle.ncp_model.specs.EndpointEvents.{EndpointEvent, Transition, happens}
use Rattle.ncp_model.specs.Phase.{Phase, up, is_rst, is_rrp, is_other, is_resetting, has_room_for_one, queued, goes_down, wants_reset, phase_answers, phase_asks, phase_settles, phase_makes, makes_all}
use Rattle.ncp_model.specs.Sending.{is_full}
use Rattle.ncp_model.specs.Peers.{Peer, PairCall, Ask_to_send, called, calls, calls_up, calls_echo, echo_called, calls_reset, cleared, frees, frees_up, settles, standing}
use Rattle.ncp_model.proofs.ResetLists.{bit, rsts, others, rrps-append, rrps-purged, others-purged}
use Rattle.ncp_model.proofs.EndsAfter.{after-at, after-elsewhere}
use Rattle.ncp_model.proofs.LinksDemux.{answered-led}
use Rattle.ncp_proof_headline.proofs.HostsJoined.{AllOther}
use Rattle.ncp_proof_machine.proofs.EndsGood.{EndsInvariant, put-changes}
use Rattle.ncp_peer.specs.PeerState.{PeerState, control_link, frees_on, after_answer, is_answered, answer_taken, answer_comes}
use Rattle.ncp_peer.specs.Counting.{one_more}
use Rattle.ncp_transcript.specs.Asked.{Asked, Asks, Asks_echo, Asks_reset, Asks_wake}
use Rattle.ncp_transcript.specs.declared.note.HostNote.{HostNote}
use Rattle.ncp_proof_runs.specs.Peers.{state_asked, note_for}
use Rattle.ncp_monitor.specs.declared.view.View.{View}
use Rattle.ncp_monitor.specs.Views.{awaits_reply}
use Rattle.ncp_monitor.specs.declared.conn_state.FactKind.{FactKind}
use Rattle.ncp_monitor.specs.ConnStates.{SeenTables, is_marked}
use Rattle.ncp_monitor.proofs.Shapes.{Say}
use Rattle.ncp_monitor.proofs.LinkOrder.{Sockets, about}
use Rattle.ncp_proof_monitor.proofs.HostSlots.{is_of_call, asked_of_note, note_asked}
use Rattle.ncp_proof_monitor.proofs.PhaseSeen.{same_up}
use Rattle.ncp_proof_monitor_allocation.proofs.OwnMoves.{all_says, is_of_host}
use Rattle.ncp_proof_monitor_allocation.proofs.Comes.{says_append, unsaid_meets}
use Rattle.ncp_proof_monitor_allocation.proofs.Echoing.{echo_waits}
use Rattle.ncp_proof_monitor_allocation.proofs.SeenTables.{conn_seen, suspended_of}
use Rattle.ncp_proof_monitor_allocation.proofs.Came.{asks_in, has_come}
use Rattle.ncp_proof_monitor_allocation.proofs.Proper.{ProperEnds}
use Rattle.ncp_proof_monitor_allocation.proofs.OwnCame.{is_text_coming}
use Rattle.ncp_proof_monitor_allocation.proofs.NoResets.{happening_unreset, answer_unreset}
use Rattle.ncp_proof_monitor_host.proofs.OwnReports.{is_asking, unasked_free, call_free, call_reports}
use Rattle.ncp_proof_monitor_host.proofs.Spoken.{Tells, Spoken}
use Rattle.ncp_proof_monitor_allocation.proofs.CallsCounted.{is_call}
use Rattle.ncp_proof_monitor_host.proofs.ReportedSteps.{unworded_counted}
use Rattle.ncp_proof_monitor_replies.proofs.OwedSteps.{owed_more}
use Rattle.ncp_proof_monitor_host.proofs.Begun.{begins_reports}
use Rattle.ncp_proof_monitor_host.proofs.MadeUp.{made_owed, made_rsts, owing, owing_same, made_reports}
use Rattle.ncp_proof_monitor_host.proofs.SpokenIn.{settles_calm}

-- ---- calls

called_host : (call : PairCall) (full : Bool) (m : Ends) → (is_of_host (called call full m) ≡ true) × ((is_text_coming (called call full m) ≡ false) × (is_call (called call full m) ≡ true))
called_host (Ask_to_send of_size room) full m = (refl, (refl, refl))
called_host call full m = (refl, (refl, refl))

-- with commands made, while the host is up
made_spoken : (me n : ℕ) (cs : List Command) (m : Ends) (s : Echoes) (p : Peer) (v : View) (b : SeenTables) → Spoken me n p v b
    → ((up (makes_all cs p.phase) ≡ true) → v.suspended ≡ false → rsts p.phase.waiting ≡ 0 → Tells me n (standing (makes_all cs p.phase) m s).ends (standing (makes_all cs p.phase) m s).echoes.awaited (makes_all cs p.phase).waiting b)
    → Spoken me n (standing (makes_all cs p.phase) m s) v b
made_spoken me n cs m s p v b k t = record {
  owed = λ r a o. k.owed r a (subst (λ (i : ℕ). 0 < i) (owing_same p.phase (makes_all cs p.phase) (made_owed cs p.phase)) o);
  unmade = λ r o. k.unmade r (sym (made_owed cs p.phase).0 ∙ o);
  waits = λ a. k.waits a;
  tells = λ r z d. t d r (sym (made_rsts cs p.phase) ∙ z);
}

pub calls_spoken : (me n : ℕ) (pair : Pair) (call : PairCall) (p : Peer) (v : View) (b : SeenTables) → EndsInvariant p.ends → ProperEnds p.ends → Spoken me n p v b → Spoken me n (calls pair call p) v b
calls_spoken me n pair call p v b good sexes k = go (up p.phase) refl
  where
    what : EndpointEvent
    what = called call (is_full p.phase) p.ends

    it : Transition
    it = happens pair what (get p.ends pair)

    now : Ends
    now = put p.ends pair it.after

    go : (u : Bool) → up p.phase ≡ u → Spoken me n (if u then calls_up pair call p else p) v b
    go false u = k
    go true u = made_spoken me n it.made now p.echoes p v b k (λ d r z.
        made_reports me n it.made p.phase now p.echoes b (happening_unreset pair what (get p.ends pair)) d (λ x.
        let h = called_host call (is_full p.phase) p.ends in
        let c = put-changes p.ends pair what in
        call_reports me n pair what p.ends now p.echoes.awaited p.phase.waiting b good sexes h.0 h.1.0 h.1.1 (record { there = c.there; elsewhere = c.elsewhere }) (call_free call (is_full p.phase) p.ends pair sexes) (k.tells r z x)))

-- an ECO waits
eco_reports : (me n byte : ℕ) (m : Ends) (w : List Command) (b : SeenTables) → Tells me n m false w b → Tells me n m true (w ++ Command.Eco byte ∷ []) b
eco_reports me n byte m w b t = record {
  meets = unsaid_meets me n m w b (Command.Eco byte ∷ []) refl t.meets;
  held = t.held;
  echoing = echo_waits me n byte w b t.echoing;
  came = λ u e g r h. subst (λ (x : List (Sockets × Say)). CameBy u e x) (sym none) (t.came u e g r h);
  counted = unworded_counted me n m w b (Command.Eco byte) refl refl t.counted;
  owed = owed_more me n m w (Command.Eco byte ∷ []) b refl t.owed;
}
  where
    none : all_says (w ++ Command.Eco byte ∷ []) ≡ all_says w
    none = says_append w (Command.Eco byte ∷ []) ∙ append-nil (all_says w)

    CameBy : Sockets → Endpoint → List (Sockets × Say) → Type 0
    CameBy u e x = (suspended_of me n b u ≡ true) ⊎ ((if asks_in (about u x) then is_marked me n (FactKind.LinkSuspended true e.link) b else has_come (conn_seen me n b u)) ≡ true)

pub echo_spoken : (me n byte : ℕ) (p : Peer) (v : View) (b : SeenTables) → Spoken me n p v b → Spoken me n (calls_echo byte p) v b
echo_spoken me n byte p v b k = go (up p.phase) refl
  where
    cs : List Command
    cs = made_by_call (echo_answer byte (is_full p.phase) p.echoes)

    s : Echoes
    s = echo_asked (is_full p.phase) p.echoes

    other : AllOther cs
    other = by p.echoes.awaited (is_full p.phase)
      where
        by : (a f : Bool) → AllOther (made_by_call (if a then Err CallFault.Busy else if f then Err CallFault.QueueFull else Ok (Command.Eco byte)))
        by true f = tt
        by false true = tt
        by false false = (refl, tt)

    tell : Tells me n p.ends p.echoes.awaited p.phase.waiting b → Tells me n p.ends s.awaited (p.phase.waiting ++ cs) b
    tell t = by p.echoes.awaited (is_full p.phase) t
      where
        same : (a : Bool) → Tells me n p.ends a p.phase.waiting b → Tells me n p.ends a (p.phase.waiting ++ []) b
        same a t = subst (λ (x : List Command). Tells me n p.ends a x b) (sym (append-nil p.phase.waiting)) t

        by : (a f : Bool) → Tells me n p.ends a p.phase.waiting b → Tells me n p.ends (a || not f) (p.phase.waiting ++ made_by_call (if a then Err CallFault.Busy else if f then Err CallFault.QueueFull else Ok (Command.Eco byte))) b
        by true f t = same true t
        by false true t = same false t
        by false false t = eco_reports me n byte p.ends p.phase.waiting b t

    go : (u : Bool) → up p.phase ≡ u → Spoken me n (if u then echo_called byte p else p) v b
    go false u = k
    go true u = made_spoken me n cs p.ends s p v b k (λ d r z. made_reports me n cs p.phase p.ends s b other d (λ x. tell (k.tells r z x)))

-- ---- settling, and a reset

answers_owing : (p : Phase) → 0 < owing (phase_answers p) → 0 < owing p
answers_owing p l = go p.owe refl (list_any is_rrp p.waiting) l
  where
    go : (o : Bool) → p.owe ≡ o → (r : Bool) → 0 < owing (if o then record p { down = false; owe = false; waiting = if r then p.waiting else p.waiting ++ Command.Rrp ∷ [] } else p) → 0 < owing p
    go true e r l = let z : bit p.owe ≡ 1 = ap bit e in omega (arith, z)
    go false e r l = l

asks_owing : (p : Phase) → owing (phase_asks p) ≡ owing p
asks_owing p = go p.want (list_any is_rst p.waiting)
  where
    go : (w r : Bool) → owing (if w then record p { down = false; want = false; wait = true; waiting = if r then p.waiting else p.waiting ++ Command.Rst ∷ [] } else p) ≡ owing p
    go true true = refl
    go true false = let e = rrps-append p.waiting (Command.Rst ∷ []) in omega (arith, e)
    go false r = refl

settles_owing : (q : Bool) (p : Phase) → 0 < owing (phase_settles q p) → 0 < owing p
settles_owing true p l = answers_owing p (subst (λ (i : ℕ). 0 < i) (asks_owing (phase_answers p)) l)
settles_owing false p l = l

settles_unmade : (q : Bool) (p : Phase) → (phase_settles q p).owe ≡ true → p.owe ≡ true
settles_unmade q p o = grind arith

wanted_down : (q : Bool) (p : Phase) → up (phase_settles q (wants_reset p)) ≡ true → ⊥
wanted_down q p u = grind arith

pub reset_spoken : (me n : ℕ) (q : Bool) (p : Peer) (v : View) (b : SeenTables) → Spoken me n p v b → Spoken me n (calls_reset q p) v b
reset_spoken me n q p v b k = go (is_resetting p.phase) refl
  where
    go : (x : Bool) → is_resetting p.phase ≡ x → Spoken me n (if x then p else cleared (if x then p.phase else phase_settles q (wants_reset p.phase)) p) v b
    go true e = k
    go false e = record {
      unmade = λ r o. k.unmade r (settles_unmade q (wants_reset p.phase) o);
      owed = λ r a o. k.owed r a (subst (λ (i : ℕ). 0 < i + bit p.phase.owe) (rrps-purged p.phase.waiting) (settles_owing q (wants_reset p.phase) o));
      waits = λ a. k.waits a;
      tells = λ r z d. absurd (wanted_down q p.phase d);
    }

comes_up : (q : Bool) (p : Phase) → up p ≡ false → up (phase_settles q p) ≡ true → p.owe ≡ true
comes_up q p e u = grind arith

pub settles_spoken : (me n : ℕ) (q : Bool) (p : Peer) (v : View) (b : SeenTables) → (up p.phase ≡ false → p.ends ≡ no_ends) → (up p.phase ≡ false → others p.phase.waiting ≡ []) → Spoken me n p v b → Spoken me n (settles q p) v b
settles_spoken me n q p v b none calm k = record {
  owed = λ r a o. k.owed r a (settles_owing q p.phase o);
  unmade = λ r o. k.unmade r (settles_unmade q p.phase o);
  waits = λ a. k.waits a;
  tells = λ r z d. by (up p.phase) refl r z d;
}
  where
    by : (u : Bool) → up p.phase ≡ u → v.suspended ≡ false → rsts (phase_settles q p.phase).waiting ≡ 0 → up (phase_settles q p.phase) ≡ true → Tells me n p.ends p.echoes.awaited (phase_settles q p.phase).waiting b
    by true u r z d = subst (λ (x : Phase). Tells me n p.ends p.echoes.awaited x.waiting b) (sym (same_up q p.phase u)) (k.tells r (subst (λ (x : Phase). rsts x.waiting ≡ 0) (same_up q p.phase u) z) u)
    by false u r z d =
        subst (λ (m : Ends). Tells me n m p.echoes.awaited (phase_settles q p.phase).waiting b) (sym (none u))
        (begins_reports me n p.echoes.awaited (phase_settles q p.phase).waiting b (settles_calm q p.phase (calm u)) (k.unmade r (comes_up q p.phase u d)))

-- ---- each call

asked_spoken : (me n : ℕ) (o : Option (ℕ × Asked)) (s : PeerState) (v : View) (b : SeenTables) → EndsInvariant s.peer.ends → ProperEnds s.peer.ends → Spoken me n s.peer v b → Spoken me n (state_asked o s).peer v b
asked_spoken me n None s v b g x k = k
asked_spoken me n (Some (peer, Asks pair call)) s v b g x k = calls_spoken me n pair call s.peer v b g x k
asked_spoken me n (Some (peer, Asks_echo byte)) s v b g x k = echo_spoken me n byte s.peer v b k
asked_spoken me n (Some (peer, Asks_reset)) s v b g x k = reset_spoken me n (is_quiet s.slots) s.peer v b k
asked_spoken me n (Some (peer, Asks_wake)) s v b g x k = k

pub call_spoken : (me n : ℕ) (note : HostNote) (s : PeerState) (v : View) (b : SeenTables) → is_of_call note ≡ true → EndsInvariant s.peer.ends → ProperEnds s.peer.ends → Spoken me n s.peer v b → Spoken me n (note_for note s).peer v b
call_spoken me n note s v b c g x k = subst (λ (now : PeerState). Spoken me n now.peer v b) (note_asked note c s) (asked_spoken me n (asked_of_note note) s v b g x k)

-- ---- where a link leads

-- what happens at the end to which a look-up leads
pub record Led {A : Type 0} (m : Ends) (pair : Pair) (act : Effect A) (cs : List Command) : Type 0 where
  pub what : EndpointEvent
  pub host : is_of_host what ≡ true
  pub text : is_text_coming what ≡ false
  pub call : is_call what ≡ true
  pub asks : is_asking what ≡ false
  pub after : (happens pair what (get m pair)).after ≡ end_after (get m pair) act
  pub made : (happens pair what (get m pair)).made ≡ cs

pub looked_reports : {A : Type 0} (me n : ℕ) (o : Option Pair) (act : Effect A) (cs : List Command) (m : Ends) (awaited : Bool) (w : List Command) (b : SeenTables) → EndsInvariant m → ProperEnds m → ((pair : Pair) → o ≡ Some pair → Led m pair act cs) → (o ≡ None → cs ≡ [])
    → Tells me n m awaited w b → Tells me n (map_after_at m o act) awaited (w ++ cs) b
looked_reports me n None act cs m awaited w b good sexes led none t = subst (λ (x : List Command). Tells me n m awaited x b) (sym (ap (λ (x : List Command). w ++ x) (none refl) ∙ append-nil w)) t
looked_reports me n (Some pair) act cs m awaited w b good sexes led none t =
    let l = led pair refl in
    subst (λ (x : List Command). Tells me n (map_after m pair act) awaited (w ++ x) b) l.made
    (call_reports me n pair l.what m (map_after m pair act) awaited w b good sexes l.host l.text l.call
    (record { there = after-at m pair act ∙ sym l.after; elsewhere = λ q d. after-elsewhere m pair q act d }) (unasked_free l.what m pair l.host l.asks) t)

-- ---- a text was taken

one_calm : (c : Command) (p : Phase) → (up p ≡ false → others p.waiting ≡ []) → up (phase_makes c p) ≡ false → others (phase_makes c p).waiting ≡ []
one_calm c p calm = go (up p) refl (is_other c) (has_room_for_one p)
  where
    go : (b : Bool) → up p ≡ b → (o h : Bool) → up (if b && o then (if h then queued c p else goes_down p) else p) ≡ false → others (if b && o then (if h then queued c p else goes_down p) else p).waiting ≡ []
    go true u true true d = let nay : true ≡ false = sym u ∙ d in absurd (cc nay)
    go true u true false d = others-purged p.waiting
    go true u false h d = calm d
    go false u o h d = calm d

made_calm : (cs : List Command) (p : Phase) → (up p ≡ false → others p.waiting ≡ []) → up (makes_all cs p) ≡ false → others (makes_all cs p).waiting ≡ []
made_calm [] p calm d = calm d
made_calm (c ∷ cs) p calm d = made_calm cs (phase_makes c p) (one_calm c p calm) d

-- where the host is not up there is no end, and no other command waits
pub record Down (p : Peer) : Type 0 where
  pub none : up p.phase ≡ false → p.ends ≡ no_ends
  pub calm : up p.phase ≡ false → others p.phase.waiting ≡ []

frees_spoken : (me n on : ℕ) (p : Peer) (v : View) (b : SeenTables) → EndsInvariant p.ends → ProperEnds p.ends → Down p → Spoken me n p v b → Spoken me n (frees on p) v b × Down (frees on p)
frees_spoken me n on p v b good sexes down k = go (up p.phase) refl
  where
    act : Effect (Option Command)
    act = answered_in on Rfnm p.ends

    cs : List Command
    cs = made_if_any (answer act)

    now : Ends
    now = map_after_at p.ends (pair_of (sender_on on p.ends)) act

    nothing : pair_of (sender_on on p.ends) ≡ None → cs ≡ []
    nothing e = by (sender_on on p.ends) e
      where
        by : (o : Option (Pair × Endpoint)) → pair_of o ≡ None → made_if_any (answer (answered_at Rfnm o)) ≡ []
        by None e = refl
        by (Some q) e = absurd (cc e)

    none_down : (u : Bool) → u ≡ false → (if u then now else no_ends) ≡ no_ends
    none_down true e = absurd (cc e)
    none_down false e = refl

    go : (u : Bool) → up p.phase ≡ u → Spoken me n (if u then frees_up on p else p) v b × Down (if u then frees_up on p else p)
    go false u = (k, down)
    go true u = (
      made_spoken me n cs now p.echoes p v b k (λ d r z. made_reports me n cs p.phase now p.echoes b (answer_unreset on p.ends) d (λ x.
          looked_reports me n (pair_of (sender_on on p.ends)) act cs p.ends p.echoes.awaited p.phase.waiting b good sexes (λ pair e. let l = answered-led p.ends on Rfnm pair e in record {
            what = EndpointEvent.Is_answered Rfnm;
            host = refl;
            text = refl;
            call = refl;
            asks = refl;
            after = ap (λ (d : Transition). d.after) l.1;
            made = ap (λ (d : Transition). d.made) l.1;
          }) nothing (k.tells r z x))),
      record { none = λ d. none_down (up (makes_all cs p.phase)) d; calm = λ d. made_calm cs p.phase down.calm d },
    )

pub answer_spoken : (me n on : ℕ) (how : Answer) (s : PeerState) (v : View) (b : SeenTables) → EndsInvariant s.peer.ends → ProperEnds s.peer.ends → Down s.peer → Spoken me n s.peer v b → Spoken me n (answer_comes on how s).peer v b
answer_spoken me n on how s v b good sexes down k = go (is_answered on s)
  where
    counted : PeerState
    counted = record s { counts = record s.counts { stray = one_more s.counts.stray } }

    freed : (z : Bool) → Spoken me n (if z then s.peer else frees on s.peer) v b × Down (if z then s.peer else frees on s.peer)
    freed true = (k, down)
    freed false = frees_spoken me n on s.peer v b good sexes down k

    taken : (how : Answer) (slots : LinkSlots) → Spoken me n (after_answer on how slots s.peer) v b
    taken Rfnm slots = let f = freed (on == control_link) in settles_spoken me n (is_quiet slots) (frees_on on s.peer) v b f.1.none f.1.calm f.0
    taken Incomplete slots = k
    taken Dead slots = k

    go : (x : Bool) → Spoken me n (if x then answer_taken on how s else counted).peer v b
    go true = taken how (with_slot s.slots on (answered how (slot_at s.slots on)))
    go false = k

-- ---- the same of the view

pub spoken_as : (me n : ℕ) (p : Peer) (v now : View) (b : SeenTables) → (now.suspended ≡ false → v.suspended ≡ false) → now.acted ≡ v.acted → awaits_reply now.host.wait ≡ awaits_reply v.host.wait → Spoken me n p v b → Spoken me n p now b
spoken_as me n p v now b r i h k = record {
  owed = λ x a o. k.owed (r x) (sym i ∙ a) o;
  unmade = λ x o. k.unmade (r x) o;
  waits = λ a. k.waits (sym h ∙ a);
  tells = λ x z d. k.tells (r x) z d;
}
