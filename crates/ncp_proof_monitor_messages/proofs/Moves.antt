-- The observations at each interface of the other host, through a call, and through a sent message.
use Rattle.std.proofs.Common.{◌≡◌, ℕ, ◌<◌, ◌==◌, Bool, true, false, if◌then◌else◌, List, [], ◌∷◌, ◌++◌, length, drop, Some, Result, refl, sym, ap, ◌∙◌, subst, arith}
use Rattle.std.proofs.lemmas.Bool.{eqb-true, eq-eqb, ne_eqb}
use Rattle.ncp_numbers.specs.Bytes.{bytes_of, bits_of_bytes}
use Rattle.ncp_numbers.proofs.Packing.{bytes_of-bits_of_bytes}
use Rattle.ncp_leader.specs.declared.fault.MessageFault.{MessageFault}
use Rattle.ncp_leader.specs.Message.{Message}
use Rattle.ncp_wire.specs.declared.command.Command.{Command}
use Rattle.ncp_wire.specs.Spelling.{spellings}
use Rattle.ncp_control.specs.Reading.{commands_in}
use Rattle.ncp_control.proofs.Reading.{spellings_small, spelled_alone}
use Rattle.ncp_slot.specs.declared.slot.Slot.{Slot}
use Rattle.ncp_slot.specs.Slot.{is_empty}
use Rattle.ncp_slot.specs.Slots.{LinkSlot, slot_at, is_quiet}
use Rattle.ncp_slot.proofs.Places.{slot_at-with_slot_same, slot_at-with_slot_other}
use Rattle.ncp_model.specs.Effect.{answer}
use Rattle.ncp_model.specs.Ends.{cut_in}
use Rattle.ncp_model.specs.Sending.{next_commands}
use Rattle.ncp_model.specs.Peers.{Peer, cuts, peer_sends}
use Rattle.ncp_model.proofs.ResetLists.{others}
use Rattle.ncp_peer.specs.PeerState.{PeerState}
use Rattle.ncp_peer.specs.Output.{after_by, after_output}
use Rattle.ncp_transcript_two.specs.Subnet.{Holds, Accepted, set_at}
use Rattle.ncp_transcript_two.specs.World.{World, swap}
use Rattle.ncp_transcript_two.specs.Tie.{control_bits, AreCommands}
use Rattle.ncp_transcript_two.specs.Underway.{text_read, commands_of, not_come, commands_out}
use Rattle.ncp_transcript_two.proofs.Written.{read, control_text}
use Rattle.ncp_proof_runs.proofs.MadeOfRuns.{next-first}
use Rattle.ncp_monitor.specs.declared.view.ObservedPhase.{ObservedPhase}
use Rattle.ncp_monitor.specs.declared.view.View.{View}
use Rattle.ncp_monitor.specs.Views.{awaits_reply}
use Rattle.ncp_proof_monitor.proofs.Phased.{Phased}
use Rattle.ncp_proof_monitor.proofs.PhaseSteps.{Unheard, none_heard, Stands}
use Rattle.ncp_proof_monitor.proofs.PhaseSeen.{quiet_filled, quiet_zero, heard_some}
use Rattle.ncp_proof_monitor_messages.proofs.PeerSeen.{Beside, Sent}
use Rattle.ncp_proof_monitor_messages.proofs.Counts.{line, Counts, recount}
use Rattle.ncp_proof_monitor_messages.proofs.Toward.{Opens, Toward, not_up, none_waits, first_reset, front_none}
use Rattle.ncp_proof_monitor_messages.proofs.OwnOut.{Alike, beside_alike}

-- ---- what a message on link 0 says

pub commands_read : (there : ℕ) (cs : List Command) → there < 256 → AreCommands cs → commands_of (control_bits there cs) ≡ cs
commands_read there cs n a =
    ap (λ (r : Result Message MessageFault). commands_in (bytes_of (text_read r))) (read there 0 8 (bits_of_bytes (spellings cs)) n (omega arith) (control_text cs a))
    ∙ ap commands_in (bytes_of-bits_of_bytes (spellings cs) (spellings_small cs a.0))
    ∙ (spelled_alone cs a.0).0

-- ---- a call

-- a host's state after an event that leaves its links unchanged, and in which no link is heard
pub record Keeps (s now : PeerState) : Type 0 where
  pub line : (t : Holds) → not_come (slot_at now.slots 0) t ≡ not_come (slot_at s.slots 0) t
  pub unheard : Unheard s.peer.ends → Unheard now.peer.ends
  pub quiet : is_quiet now.slots ≡ is_quiet s.slots

pub this_called : (v : World) (now : PeerState) (view : View) (began : Bool) → Keeps v.this now → Toward v view began → Toward (record v { this = now }) view began
this_called v now view began k t = record {
  beside = t.beside;
  calm = λ e. ap others same ∙ t.calm e;
  bare = λ e. let b = t.bare e in record { unheard = k.unheard b.unheard; this_quiet = k.quiet ∙ b.this_quiet; that_quiet = b.that_quiet; none = b.none };
  opens = λ e. subst (λ (cs : List Command). Opens cs began) (sym same) (t.opens e);
}
  where
    same : line now v.going ≡ line v.this v.going
    same = ap commands_out (k.line (v.going 0))

pub that_called : (v : World) (now : PeerState) (view : View) (began : Bool) → Keeps v.that now → Counts v → Counts (record v { that = now }) → Toward v view began → Toward (record v { that = now }) view began
that_called v now view began k c d t = record {
  beside = recount v (record v { that = now }) view c d refl same refl t.beside;
  calm = t.calm;
  bare = λ e. let b = t.bare e in record { unheard = b.unheard; this_quiet = b.this_quiet; that_quiet = k.quiet ∙ b.that_quiet; none = ap others same ∙ b.none };
  opens = t.opens;
}
  where
    same : line now v.coming ≡ line v.that v.coming
    same = ap commands_out (k.line (v.coming 0))

-- ---- a message is sent

abbrev pub goes_on : ℕ → List Bool → World → World
goes_on on m v = record v { this = after_output on m v.this; going = set_at on (Accepted m) v.going }

-- the line after it: a message on link 0, and one on another link

pub line_zero : (m : List Bool) (v : World) → line (goes_on 0 m v).this (goes_on 0 m v).going ≡ commands_of m
line_zero m v = ap (λ (x : LinkSlot). commands_out (not_come x (Accepted m))) (slot_at-with_slot_same v.this.slots 0 (Slot.Travelling m))

pub not_zero : (on : ℕ) → (on == 0) ≡ false → (0 == on) ≡ false
not_zero on z = ne_eqb 0 on (λ e. let nay : true ≡ false = sym (eq-eqb on 0 (sym e)) ∙ z in absurd (cc))

pub line_other : (on : ℕ) (m : List Bool) (v : World) → (on == 0) ≡ false → line (goes_on on m v).this (goes_on on m v).going ≡ line v.this v.going
line_other on m v z =
    ap (λ (x : LinkSlot). commands_out (not_come x (if 0 == on then Accepted m else v.going 0))) (slot_at-with_slot_other v.this.slots on (Slot.Travelling m) 0 (λ e. let nay : true ≡ false = sym (eq-eqb on 0 (sym e)) ∙ z in absurd (cc)))
    ∙ ap (λ (b : Bool). commands_out (not_come (slot_at v.this.slots 0) (if b then Accepted m else v.going 0))) (not_zero on z)

-- again
pub line_again : (on : ℕ) (m : List Bool) (v : World) → slot_at v.this.slots on ≡ Slot.Ready m → line (goes_on on m v).this (goes_on on m v).going ≡ line v.this v.going
line_again on m v e = go (on == 0) refl
  where
    zero_on : slot_at v.this.slots 0 ≡ Slot.Ready m → line (goes_on 0 m v).this (goes_on 0 m v).going ≡ line v.this v.going
    zero_on e = line_zero m v ∙ ap (λ (x : LinkSlot). commands_out (not_come x (v.going 0))) (sym e)

    go : (b : Bool) → (on == 0) ≡ b → line (goes_on on m v).this (goes_on on m v).going ≡ line v.this v.going
    go true z = subst (λ (j : ℕ). slot_at v.this.slots j ≡ Slot.Ready m → line (goes_on j m v).this (goes_on j m v).going ≡ line v.this v.going) (sym (eqb-true on 0 z)) zero_on e
    go false z = line_other on m v z

module _ (on : ℕ) (m : List Bool) (v : World) where
  abbrev pub now : World
  now = goes_on on m v

  quiet_again : slot_at v.this.slots on ≡ Slot.Ready m → is_quiet now.this.slots ≡ is_quiet v.this.slots
  quiet_again e = quiet_filled v.this.slots on (Slot.Travelling m) (sym (ap is_empty e))

  peer_again : slot_at v.this.slots on ≡ Slot.Ready m → now.this.peer ≡ v.this.peer
  peer_again e = ap (λ (x : LinkSlot). after_by x on v.this.peer) e

  pub again_there : (view : View) (began after : Bool) → slot_at v.this.slots on ≡ Slot.Ready m → after ≡ began → Toward v view began → Toward now view after
  again_there view began after e same t = record {
    beside = t.beside;
    calm = λ x. ap others (line_again on m v e) ∙ t.calm x;
    bare = λ x. let b = t.bare x in record { unheard = subst (λ (p : Peer). Unheard p.ends) (sym (peer_again e)) b.unheard; this_quiet = quiet_again e ∙ b.this_quiet; that_quiet = b.that_quiet; none = b.none };
    opens = λ x. subst (λ (cs : List Command). Opens cs after) (sym (line_again on m v e)) (subst (Opens (line v.this v.going)) (sym same) (t.opens x));
  }

  pub again_here : (view next : View) (began : Bool) → slot_at v.this.slots on ≡ Slot.Ready m → Alike view next → Toward (swap v) view began → Toward (swap now) next began
  again_here view next began e a t = record {
    beside = subst (λ (p : Peer). Beside p.phase next) (sym (peer_again e)) (beside_alike v.this.peer.phase view next a t.beside);
    calm = λ x. t.calm (ap (λ (s : ObservedPhase). awaits_reply s.wait) (sym a.peer) ∙ x);
    bare = λ x. let b = t.bare (ap (λ (s : ObservedPhase). s.began) (sym a.peer) ∙ x) in record { unheard = b.unheard; this_quiet = b.this_quiet; that_quiet = quiet_again e ∙ b.that_quiet; none = ap others (line_again on m v e) ∙ b.none };
    opens = λ x. t.opens (ap (λ (s : ObservedPhase). s.began) (sym a.peer) ∙ x);
  }

  -- a text

  peer_text : slot_at v.this.slots on ≡ Slot.Empty → (on == 0) ≡ false → now.this.peer ≡ cuts on v.this.peer
  peer_text e z = ap (λ (x : LinkSlot). after_by x on v.this.peer) e ∙ ap (λ (b : Bool). if b then peer_sends v.this.peer else cuts on v.this.peer) z

  pub text_there : (view : View) (began after : Bool) (text : ℕ × List Bool) → (on == 0) ≡ false → answer (cut_in on v.this.peer.ends) ≡ Some text → Toward v view began → Toward now view after
  text_there view began after text z cut t = record {
    beside = t.beside;
    calm = λ x. ap others (line_other on m v z) ∙ t.calm x;
    bare = λ x. absurd (heard_some v.this.peer.ends on text (t.bare x).unheard cut);
    opens = λ x. absurd (heard_some v.this.peer.ends on text (t.bare x).unheard cut);
  }

  pub text_here : (view next : View) (began q : Bool) (text : ℕ × List Bool) → slot_at v.this.slots on ≡ Slot.Empty → (on == 0) ≡ false → answer (cut_in on v.this.peer.ends) ≡ Some text → Stands v.this.peer q view → Alike view next → Toward (swap v) view began → Toward (swap now) next began
  text_here view next began q text e z cut k a t = record {
    beside = subst (λ (p : Peer). Beside p.phase next) (sym (peer_text e z)) (beside_alike v.this.peer.phase view next a t.beside);
    calm = λ x. t.calm (ap (λ (s : ObservedPhase). awaits_reply s.wait) (sym a.peer) ∙ x);
    bare = λ x. absurd (none (ap (λ (s : ObservedPhase). s.began) (sym a.peer) ∙ x));
    opens = λ x. absurd (none (ap (λ (s : ObservedPhase). s.began) (sym a.peer) ∙ x));
  }
    where
      none : view.peer.began ≡ false → ⊥
      none x = heard_some v.this.peer.ends on text (subst Unheard (sym (k.down (not_up v.this.peer.phase q view t.beside k.phased x))) none_heard) cut

-- commands

module _ (m : List Bool) (v : World) (cs : List Command) (gone : commands_of m ≡ cs) (from : cs ≡ next_commands v.this.peer.phase.waiting) (empty : slot_at v.this.slots 0 ≡ Slot.Empty) where
  abbrev pub next : World
  next = goes_on 0 m v

  abbrev pub rest : List Command
  rest = drop (length cs) v.this.peer.phase.waiting

  all : cs ++ rest ≡ v.this.peer.phase.waiting
  all = subst (λ (xs : List Command). xs ++ drop (length xs) v.this.peer.phase.waiting ≡ v.this.peer.phase.waiting) (sym from) (next-first v.this.peer.phase.waiting)

  said : line next.this next.going ≡ cs
  said = line_zero m v ∙ gone

  none_before : line v.this v.going ≡ []
  none_before = ap (λ (x : LinkSlot). commands_out (not_come x (v.going 0))) empty

  peer_sent : next.this.peer ≡ peer_sends v.this.peer
  peer_sent = ap (λ (x : LinkSlot). after_by x 0 v.this.peer) empty

  quiet_sent : is_quiet next.this.slots ≡ is_quiet v.this.slots
  quiet_sent = quiet_zero v.this.slots 0 (Slot.Travelling m) refl

  opens_so : (q : Bool) (own : View) (xs ys : List Command) (after : Bool) → xs ++ ys ≡ v.this.peer.phase.waiting → (xs ≡ [] → ⊥) → Phased v.this.peer.phase q own → own.host.began ≡ false → Opens xs after
  opens_so q own [] ys after e some k b = absurd (some refl)
  opens_so q own (c ∷ xs) ys after e some k b = first_reset c (xs ++ ys) v.this.peer.phase q own (subst (λ (ws : List Command). Phased (record v.this.peer.phase { waiting = ws }) q own) (sym e) k) b

  pub commands_there : (view own : View) (after q : Bool) → Counts v → (cs ≡ [] → ⊥) → Phased v.this.peer.phase q own → Toward v view own.host.began → Toward next view after
  commands_there view own after q c some k t = record {
    beside = t.beside;
    calm = λ x. ap others said ∙ front_none cs rest v.this.peer.phase.waiting all (none_waits v view c t.beside x);
    bare = λ x. let b = t.bare x in record { unheard = subst (λ (p : Peer). Unheard p.ends) (sym peer_sent) b.unheard; this_quiet = quiet_sent ∙ b.this_quiet; that_quiet = b.that_quiet; none = b.none };
    opens = λ x. subst (λ (xs : List Command). Opens xs after) (sym said) (opens_so q own cs rest after all some k (subst (λ (xs : List Command). Opens xs own.host.began) none_before (t.opens x)));
  }

  pub commands_here : (view before now : View) (began q : Bool) → Counts (swap v) → Phased v.this.peer.phase q view → Alike view before → Sent v.this.peer.phase rest before now → Toward (swap v) view began → Toward (swap next) now began
  commands_here view before now began q c k a s t = record {
    beside = subst (λ (p : Peer). Beside p.phase now) (sym peer_sent) (subst (λ (xs : List Command). Beside (record v.this.peer.phase { waiting = xs }) now) (ap (λ (xs : List Command). drop (length xs) v.this.peer.phase.waiting) from) s.beside);
    calm = λ x. t.calm (ap (λ (y : ObservedPhase). awaits_reply y.wait) (sym a.peer) ∙ s.less x);
    bare = λ x. let y = was x in let b = t.bare y in record {
      unheard = b.unheard;
      this_quiet = b.this_quiet;
      that_quiet = quiet_sent ∙ b.that_quiet;
      none = ap others said ∙ front_none cs rest v.this.peer.phase.waiting all (k.calm (not_up v.this.peer.phase q view t.beside k y));
    };
    opens = λ x. t.opens (was x);
  }
    where
      was : now.peer.began ≡ false → view.peer.began ≡ false
      was x = ap (λ (y : ObservedPhase). y.began) (sym a.peer) ∙ sym s.began ∙ x
