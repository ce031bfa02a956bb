-- Each run of the world of bits is one of the model.
use Rattle.std.proofs.Common.{◌≡◌, ◌<◌, ℕ, ◌^◌, Bool, List, [], ◌∷◌, Option, None, Some, refl, sym, ap, ◌∙◌, subst}
use Rattle.ncp_peer.specs.Output.{next_of}
use Rattle.ncp_proof_machine.specs.Resets.{Party, This, That}
use Rattle.ncp_proof_machine.specs.Hosts as hosts
use Rattle.ncp_peer.specs.PeerState.{PeerState, new_state}
use Rattle.ncp_transcript_two.specs.Subnet.{Holds, Free, Accepted, Delivered, Lost, Dead, TransitByLink}
use Rattle.ncp_transcript_two.specs.World.{World}
use Rattle.ncp_transcript_two.specs.World as worlds
use Rattle.ncp_transcript_two.specs.Tie.{Nowhere, Represents, Begins, Refines}
use Rattle.ncp_transcript_two.proofs.Ties.{tied-swapped}
use Rattle.std.proofs.lemmas.List.Elements.{All-nil}
use Rattle.ncp_transcript_two.proofs.Well.{none-well}
use Rattle.ncp_wire.specs.Spelling.{IsCommand}
use Rattle.ncp_transcript_two.specs.Tie.{FieldsInRange}
use Rattle.ncp_transcript_two.proofs.Ties.{call-ties, lose-ties, die-ties}
use Rattle.ncp_transcript_two.proofs.Comings.{deliver-ties}
use Rattle.ncp_transcript_two.proofs.Answering.{taken-ties, refused-ties, dead-ties}
use Rattle.ncp_transcript_two.proofs.Goings.{out-ties}
use Rattle.ncp_transcript_two.specs.Tie.{IsMove, AreEvents, IsNewWorld, IsOfModel}
use Rattle.ncp_slot.proofs.Places.{slot_at-no_slots}
use Rattle.ncp_slot.specs.Slots.{slot_at}
use Rattle.ncp_slot.specs.declared.slot.Slot.TheVariants as slots
use Rattle.ncp_transcript_two.specs.World.{Call_is_made, Goes_out, Is_delivered, Is_lost, Finds_dead, Is_answered, WorldEvent, NoteBody, moves, goes, delivers, loses, dies, answers_for, at, step, world_run_from}
use Rattle.ncp_proof_machine.specs.Hosts.{Pasts}
use Rattle.ncp_transcript_two.specs.Watch.{Both, histories_after_body, histories_after_note, histories_from}
use Rattle.ncp_transcript_two.specs.Watch as watch
use Rattle.ncp_transcript_two.proofs.Ties.{FollowsWith}

-- the histories that the model has are those of the notes
abbrev pub both : hosts.TwoNodes → Both
both w = record { this = w.this.pasts; that = w.that.pasts }

abbrev pub Heeds : hosts.TwoNodes → NoteBody → World → World → Type 0
Heeds w told v x = FollowsWith told w (histories_after_body told v (both w)).this (histories_after_body told v (both w)).that x

out-go : (w : hosts.TwoNodes) (v : World) (o : Option (ℕ × List Bool)) → Refines w v → next_of v.there v.this ≡ o → Heeds w (goes o v).1 v (goes o v).0
out-go w v None t e = (w, t, refl, refl, refl)
out-go w v (Some out) t e = out-ties w v out t e

deliver-go : (on : ℕ) (w : hosts.TwoNodes) (v : World) (h : Holds) → Refines w v → v.going on ≡ h → Heeds w (delivers on h v).1 v (delivers on h v).0
deliver-go on w v Free t e = (w, t, refl, refl, refl)
deliver-go on w v (Accepted m) t e = deliver-ties on w v m t e
deliver-go on w v Delivered t e = (w, t, refl, refl, refl)
deliver-go on w v Lost t e = (w, t, refl, refl, refl)
deliver-go on w v Dead t e = (w, t, refl, refl, refl)

lose-go : (on : ℕ) (w : hosts.TwoNodes) (v : World) (h : Holds) → Refines w v → v.going on ≡ h → Heeds w (loses on h v).1 v (loses on h v).0
lose-go on w v Free t e = (w, t, refl, refl, refl)
lose-go on w v (Accepted m) t e = lose-ties on w v m t e
lose-go on w v Delivered t e = (w, t, refl, refl, refl)
lose-go on w v Lost t e = (w, t, refl, refl, refl)
lose-go on w v Dead t e = (w, t, refl, refl, refl)

die-go : (on : ℕ) (w : hosts.TwoNodes) (v : World) (h : Holds) → Refines w v → v.going on ≡ h → Heeds w (dies on h v).1 v (dies on h v).0
die-go on w v Free t e = (w, t, refl, refl, refl)
die-go on w v (Accepted m) t e = die-ties on w v m t e
die-go on w v Delivered t e = (w, t, refl, refl, refl)
die-go on w v Lost t e = (w, t, refl, refl, refl)
die-go on w v Dead t e = (w, t, refl, refl, refl)

answer-go : (on : ℕ) (w : hosts.TwoNodes) (v : World) (h : Holds) → Refines w v → v.going on ≡ h → Heeds w (answers_for on h v).1 v (answers_for on h v).0
answer-go on w v Free t e = (w, t, refl, refl, refl)
answer-go on w v (Accepted m) t e = (w, t, refl, refl, refl)
answer-go on w v Delivered t e = taken-ties on w v t e
answer-go on w v Lost t e = refused-ties on w v t e
answer-go on w v Dead t e = dead-ties on w v t e

same_both : (w : hosts.TwoNodes) (q : Both) → w.this.pasts ≡ q.this → w.that.pasts ≡ q.that → both w ≡ q
same_both w q a b = ap (λ (x : Pasts). (let r : Both = record { this = x; that = w.that.pasts } in r)) a ∙ ap (λ (x : Pasts). (let r : Both = record { this = q.this; that = x } in r)) b

pub moves-tie : (st : worlds.WorldStep) (w : hosts.TwoNodes) (v : World) → IsMove st → Refines w v → Heeds w (moves st v).1 v (moves st v).0
moves-tie (Call_is_made asked) w v ok t = call-ties asked w v ok t
moves-tie Goes_out w v ok t = out-go w v (next_of v.there v.this) t refl
moves-tie (Is_delivered on) w v ok t = deliver-go on w v (v.going on) t refl
moves-tie (Is_lost on) w v ok t = lose-go on w v (v.going on) t refl
moves-tie (Finds_dead on) w v ok t = die-go on w v (v.going on) t refl
moves-tie (Is_answered on) w v ok t = answer-go on w v (v.going on) t refl

-- a world of the model, with its histories
abbrev pub OfModelWith : Both → World → Type 0
OfModelWith p v = (w : hosts.TwoNodes) × Refines w v × (both w ≡ p)

pub step-watched : (side : Party) (st : worlds.WorldStep) (v : World) (p : Both) → IsMove st → OfModelWith p v → OfModelWith (histories_after_note side (at side st v).1 v p) (at side st v).0
step-watched This st v p ok t =
    let r = moves-tie st t.0 v ok t.1 in
    (r.0, r.1, same_both r.0 (histories_after_body (moves st v).1 v (both t.0)) r.2 r.3 ∙ ap (histories_after_body (moves st v).1 v) t.2)
step-watched That st v p ok t =
    let r = moves-tie st (hosts.nodes_swapped t.0) (worlds.swap v) ok (tied-swapped t.0 v t.1) in
    (hosts.nodes_swapped r.0, tied-swapped r.0 (moves st (worlds.swap v)).0 r.1, ap watch.turn (same_both r.0 (histories_after_body (moves st (worlds.swap v)).1 (worlds.swap v) (both (hosts.nodes_swapped t.0))) r.2 r.3) ∙ ap (λ (q : Both). watch.turn (histories_after_body (moves st (worlds.swap v)).1 (worlds.swap v) (watch.turn q))) t.2)

pub run-watched : (es : List WorldEvent) (v : World) (p : Both) → AreEvents es → OfModelWith p v → OfModelWith (histories_from es v p) (world_run_from es v)
run-watched [] v p ok t = t
run-watched (e ∷ es) v p ok t = run-watched es (step e v).0 (histories_after_note e.side (step e v).1.told v p) ok.1 (step-watched e.side e.step v p ok.0 t)

pub step-ties : (side : Party) (st : worlds.WorldStep) (v : World) → IsMove st → IsOfModel v → IsOfModel (at side st v).0
step-ties side st v ok t = let r = step-watched side st v (both t.0) ok (t.0, t.1, refl) in (r.0, r.1)

pub run-ties : (es : List WorldEvent) (v : World) → AreEvents es → IsOfModel v → IsOfModel (world_run_from es v)
run-ties [] v ok t = t
run-ties (e ∷ es) v ok t = run-ties es (step e v).0 ok.1 (step-ties e.side e.step v ok.0 t)

pub new-side : (there : ℕ) (s : PeerState) (u : TransitByLink) → there < 2 ^ 8 → s ≡ new_state → ((on : ℕ) → u on ≡ Free) → Represents there hosts.new_node s u
new-side there s u b k f = record {
  number = b;
  peer = ap (λ (r : PeerState). r.peer) k;
  control = record { place = Nowhere; model = refl; in_slot = empty 0; in_subnet = f 0; fits = tt };
  texts = λ on _. record { place = Nowhere; model = refl; in_slot = empty on; in_subnet = f on; fits = tt };
  well = subst (λ (r : PeerState). FieldsInRange r.peer) (sym k) (record { waiting = All-nil IsCommand; ends = none-well });
}
  where
    empty : (on : ℕ) → slot_at s.slots on ≡ slots.Empty
    empty on = ap (λ (r : PeerState). slot_at r.slots on) k ∙ slot_at-no_slots on

pub new-watched : (v : World) → IsNewWorld v → OfModelWith watch.no_histories v
new-watched v k = (hosts.start, record { reached = Begins; this = new-side v.there v.this v.going k.there k.this k.going; that = new-side v.here v.that v.coming k.here k.that k.coming }, refl)

pub new-ties : (v : World) → IsNewWorld v → IsOfModel v
new-ties v k = let t = new-watched v k in (t.0, t.1)
