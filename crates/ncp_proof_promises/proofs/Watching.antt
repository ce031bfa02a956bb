-- What was made and came, note by note.
use Rattle.std.proofs.Common.{◌≡◌, ℕ, ◌==◌, Bool, if◌then◌else◌, List, [], ◌∷◌, ◌++◌, Option, None, Some, refl, sym, ap, subst}
use Rattle.std.proofs.lemmas.Bool.{eq-eqb}
use Rattle.ncp_wire.specs.declared.command.Command.{Command}
use Rattle.ncp_slot.specs.Slots.{LinkSlot, no_slots}
use Rattle.ncp_slot.proofs.Places.{slot_at-no_slots}
use Rattle.ncp_transcript_two.specs.Subnet.{TransitByLink}
use Rattle.ncp_proof_machine.specs.Resets.{Party, This, That}
use Rattle.ncp_proof_machine.proofs.ResetKept.{Kept}
use Rattle.ncp_proof_machine.proofs.ResetRuns.{starting}
use Rattle.ncp_proof_machine.specs.Hosts.{nodes_swapped}
use Rattle.ncp_peer.specs.PeerState.{PeerState, new_state}
use Rattle.ncp_transcript_two.specs.World.{World, swap, NoteBody, WorldEvent, moves, at, step, world_run_from, notes_from, WorldNote}
use Rattle.ncp_transcript_two.specs.Tie.{IsOfModel}
use Rattle.ncp_transcript_two.specs.declared.note.Note.{Note}
use Rattle.ncp_transcript_two.specs.Between.{Hosts, hosts_after_note, hosts_after_notes}
use Rattle.ncp_transcript_two.specs.Transcript.{IsRun, began, IsTranscript}
use Rattle.ncp_transcript_two.specs.Seen.{state_or_new, seen, as_rules, body_of, side_of, notes_of}
use Rattle.ncp_transcript_two.proofs.Ties.{tied-swapped}
use Rattle.ncp_transcript_two.proofs.SeenSteps.{Stand}
use Rattle.ncp_transcript_two.proofs.SeenRuns.{Follows, follows}
use Rattle.ncp_proof_promises.specs.Since.{Watches, nothing_seen, none_watched, watches_after_body, watches_on_side, watches_if_body, watched_from, other_way, CommandsAgree, IsSilentWhileDown}
use Rattle.ncp_transcript_two.proofs.SeenRuns.{stand-after}
use Rattle.ncp_transcript_two.proofs.Headlines.{stands}
use Rattle.ncp_proof_promises.proofs.Each.{begins-tied, tied-after}
use Rattle.ncp_proof_promises.proofs.Lines.{line_of, line}
use Rattle.ncp_proof_promises.proofs.Keeping.{host_at, KeptIn, step-kept, kept-counterpart, commands-agree, silent}

on-side : (e : WorldEvent) (v : World) (p : Watches) → IsOfModel v → KeptIn p v → KeptIn (watches_on_side e.side (step e v).1.told v p) (step e v).0
on-side e v p m g = go e.side
  where
    go : (side : Party) → KeptIn (watches_on_side side (at side e.step v).1 v p) (at side e.step v).0
    go This = step-kept e.step m.0 v p m.1 g
    go That =
        let d : World × NoteBody = moves e.step (swap v) in
        kept-counterpart (watches_after_body d.1 (swap v) (record { this = p.that; that = p.this })) d.0 (step-kept e.step (nodes_swapped m.0) (swap v) (record { this = p.that; that = p.this }) (tied-swapped m.0 v m.1) (kept-counterpart p v g))

of-one : (side : Party) (v : World) (p : Watches) → IsOfModel v → KeptIn p v → (o : Option NoteBody) (es : List WorldEvent) → notes_from es v ≡ notes_of side o ++ [] → KeptIn (watches_if_body side o v p) (world_run_from es v)
of-one side v p m g None [] e = g
of-one side v p m g None (x ∷ es) e = absurd (cc e)
of-one side v p m g (Some t) [] e = absurd (cc e)
of-one side v p m g (Some t) (x ∷ []) e =
    let is : (step x v).1 ≡ (let n : WorldNote = record { side = side; told = t } in n) = cc e in
    subst (λ (n : WorldNote). KeptIn (watches_on_side n.side n.told v p) (step x v).0) is (on-side x v p m g)
of-one side v p m g (Some t) (x ∷ y ∷ es) e = absurd (cc e)

each : (ns : List Note) (w : Hosts) (p : Watches) → IsRun ns w → Stand w → IsOfModel (seen w) → KeptIn p (seen w) → KeptIn (watched_from ns w p) (seen (hosts_after_notes ns w))
each [] w p r k m g = g
each (note ∷ ns) w p r k m g =
    let f : Follows (note ∷ []) w (seen w) = follows (note ∷ []) w (r.0, tt) k m in
    let q : Watches = watches_if_body (as_rules (side_of note)) (body_of note) (seen w) p in
    each ns (hosts_after_note note w) q r.1 (stand-after note w k) (tied-after note w f m)
    (subst (KeptIn q) f.state (of-one (as_rules (side_of note)) (seen w) p m g (body_of note) f.events f.said))

-- at the beginning

new-state : (n : ℕ) → state_or_new (if n == n then Some new_state else None) ≡ new_state
new-state n = ap (λ (b : Bool). state_or_new (if b then Some new_state else None)) (eq-eqb n n refl)

new-line : (u : TransitByLink) → line no_slots u ≡ []
new-line u = ap (λ (s : LinkSlot). line_of s (u 0)) (slot_at-no_slots 0)

begins-kept : (w : Hosts) → KeptIn none_watched (seen (began w))
begins-kept w =
    let v : World = seen (began w) in
    subst (λ (s : PeerState). Kept (host_at s.peer nothing_seen) (host_at v.that.peer nothing_seen) (line s.slots v.going) (line v.that.slots v.coming)) (sym (new-state w.number_b))
    (subst (λ (s : PeerState). Kept (host_at new_state.peer nothing_seen) (host_at s.peer nothing_seen) (line no_slots v.going) (line s.slots v.coming)) (sym (new-state w.number_a))
    (subst (λ (x : List Command). Kept (host_at new_state.peer nothing_seen) (host_at new_state.peer nothing_seen) x (line no_slots v.coming)) (sym (new-line v.going))
    (subst (λ (x : List Command). Kept (host_at new_state.peer nothing_seen) (host_at new_state.peer nothing_seen) [] x) (sym (new-line v.coming)) starting.kept)))

kept-last : (ns : List Note) (w : Hosts) → IsTranscript ns w → KeptIn (watched_from ns (began w) none_watched) (seen w)
kept-last ns w t =
    subst (λ (x : Hosts). KeptIn (watched_from ns (began w) none_watched) (seen x)) (sym t.state)
    (each ns (began w) none_watched t.run (stands ns w t) (begins-tied ns w t) (begins-kept w))

pub agree : (ns : List Note) (w : Hosts) → IsTranscript ns w → CommandsAgree (seen w) (watched_from ns (began w) none_watched) × CommandsAgree (swap (seen w)) (other_way (watched_from ns (began w) none_watched))
agree ns w t =
    let p : Watches = watched_from ns (began w) none_watched in
    let g : KeptIn p (seen w) = kept-last ns w t in
    (commands-agree p (seen w) g, commands-agree (other_way p) (swap (seen w)) (kept-counterpart p (seen w) g))

pub are-silent : (ns : List Note) (w : Hosts) → IsTranscript ns w → IsSilentWhileDown (seen w).this (watched_from ns (began w) none_watched).this × IsSilentWhileDown (seen w).that (watched_from ns (began w) none_watched).that
are-silent ns w t = silent (watched_from ns (began w) none_watched) (seen w) (kept-last ns w t)
