-- Each act leaves the end that the marks and sums say.
use Rattle.std.proofs.Common.{◌≡◌, ℕ, ◌*◌, ◌/◌, ◌≤◌, min, true, false, ◌||◌, List, [], ◌∷◌, ◌++◌, length, take, Option, None, Some, refl, sym, subst, arith}
use Rattle.std.proofs.Math.Nat.{div-mul-le_self, mul-le-mul_right, min-le_left, min-le_right}
use Rattle.std.proofs.lemmas.List.{append-nil, append_assoc, length-append, length-take-le, take-append-drop}
use Rattle.ncp_model.specs.declared.pair.Pair.{Pair}
use Rattle.ncp_model.specs.Endpoint.{Endpoint}
use Rattle.ncp_model.specs.declared.limits.TheConstants.{MAX_TEXT}
use Rattle.ncp_model.specs.Amounts.{◌⊕◌, allowance, back}
use Rattle.ncp_model.specs.Texts.{Rfnm, Incomplete, Dead, bytes_to_send}
use Rattle.ncp_model.specs.EndpointEvents.{EndpointEvent, happens}
use Rattle.ncp_proof_endpoint.specs.Sound.{SoundAt}
use Rattle.ncp_proof_runs.specs.Acts.{Acted, AreActs}
use Rattle.ncp_proof_endpoint.proofs.SoundEnds.{sound-after}
use Rattle.ncp_proof_runs.specs.Marks.{Marks, no_marks, is_leaving, is_marked_dropped, marks_by, marks_from}

-- the marks of an end
abbrev pub IsMarked : Endpoint → Marks → Type 0
IsMarked e m = record {
  asked : e.asked ≡ m.asked;
  heard : e.heard ≡ m.heard;
  opened : e.opened ≡ m.opened;
  leaving : e.leaving ≡ is_leaving m;
  left : e.left ≡ m.left;
  cls : e.cls ≡ m.cls;
  there : (m.asked || m.heard) ≡ true;
  shut : m.opened ≡ false → m.shut ≡ false;
  out : m.opened ≡ true → m.left ≡ true → m.shut ≡ true;
  link : e.link ≡ m.link;
  size : e.size ≡ m.size;
  room : e.room ≡ m.room;
  busy : e.busy ≡ m.busy;
  recall : e.recall ≡ m.recall;
  interrupts : e.interrupts ≡ m.interrupts;
}

abbrev pub IsMarkedAt : Option Endpoint → Marks → Type 0
IsMarkedAt None m = m ≡ no_marks
IsMarkedAt (Some e) m = IsMarked e m

abbrev After : Pair → EndpointEvent → Option Endpoint → Marks → Type 0
After pair what before m = IsMarkedAt (happens pair what before).after (marks_by what (happens pair what before).outcome (happens pair what before).made m)

pub marked-after : (pair : Pair) (what : EndpointEvent) (before : Option Endpoint) (m : Marks) → SoundAt pair before → IsMarkedAt before m → After pair what before m
marked-after pair (EndpointEvent.Asks_to_send of_size with_room own full) None m s k = grind arith
marked-after pair (EndpointEvent.Asks_to_send of_size with_room own full) (Some e) m s k = grind arith
marked-after pair (EndpointEvent.Asks_to_receive with_room on own full) None m s k = grind arith
marked-after pair (EndpointEvent.Asks_to_receive with_room on own full) (Some e) m s k = grind arith
marked-after pair (EndpointEvent.Closes full) None m s k = grind arith
marked-after pair (EndpointEvent.Closes full) (Some e) m s k = grind arith
marked-after pair (EndpointEvent.Gives text) None m s k = grind arith
marked-after pair (EndpointEvent.Gives text) (Some e) m s k = grind arith
marked-after pair (EndpointEvent.Takes bytes) None m s k = grind arith
marked-after pair (EndpointEvent.Takes bytes) (Some e) m s k = grind arith
marked-after pair (EndpointEvent.Allocates a b full) None m s k = grind arith
marked-after pair (EndpointEvent.Allocates a b full) (Some e) m s k = grind arith
marked-after pair (EndpointEvent.Calls_back a b full) None m s k = grind arith
marked-after pair (EndpointEvent.Calls_back a b full) (Some e) m s k = grind arith
marked-after pair (EndpointEvent.Interrupts full) None m s k = grind arith
marked-after pair (EndpointEvent.Interrupts full) (Some e) m s k = grind arith
marked-after pair (EndpointEvent.Rts_comes on taken by_peer) None m s k = grind arith
marked-after pair (EndpointEvent.Rts_comes on taken by_peer) (Some e) m s k = grind arith
marked-after pair (EndpointEvent.Str_comes of_size by_peer) None m s k = grind arith
marked-after pair (EndpointEvent.Str_comes of_size by_peer) (Some e) m s k = grind arith
marked-after pair EndpointEvent.Cls_comes None m s k = grind arith
marked-after pair EndpointEvent.Cls_comes (Some e) m s k = grind arith
marked-after pair (EndpointEvent.All_comes on a b) None m s k = grind arith
marked-after pair (EndpointEvent.All_comes on a b) (Some e) m s k = grind arith
marked-after pair (EndpointEvent.Gvb_comes on a b) None m s k = grind arith
marked-after pair (EndpointEvent.Gvb_comes on a b) (Some e) m s k = grind arith
marked-after pair (EndpointEvent.Ret_comes on a b) None m s k = grind arith
marked-after pair (EndpointEvent.Ret_comes on a b) (Some e) m s k = grind arith
marked-after pair (EndpointEvent.Inr_comes on) None m s k = grind arith
marked-after pair (EndpointEvent.Inr_comes on) (Some e) m s k = grind arith
marked-after pair (EndpointEvent.Ins_comes on) None m s k = grind arith
marked-after pair (EndpointEvent.Ins_comes on) (Some e) m s k = grind arith
marked-after pair (EndpointEvent.Text_comes head of_size text) None m s k = grind arith
marked-after pair (EndpointEvent.Text_comes head of_size text) (Some e) m s k = grind arith
marked-after pair EndpointEvent.Text_goes_out None m s k = grind arith
marked-after pair EndpointEvent.Text_goes_out (Some e) m s k = grind arith
marked-after pair (EndpointEvent.Is_answered Rfnm) None m s k = grind arith
marked-after pair (EndpointEvent.Is_answered Rfnm) (Some e) m s k = grind arith
marked-after pair (EndpointEvent.Is_answered Incomplete) before m s k = k
marked-after pair (EndpointEvent.Is_answered Dead) before m s k = k
marked-after pair EndpointEvent.Is_cleared before m s k = refl

-- its sums: the counters or what is outstanding, and the bits that are stored
abbrev pub IsSummed : Pair → Endpoint → Marks → Type 0
IsSummed pair e m = record {
  amounts : allowance e ⊕ m.returned ⊕ m.used ≡ m.granted;
  kept : is_marked_dropped pair m ≡ false → m.entered ≡ m.drawn ++ e.stored;
  dropped : is_marked_dropped pair m ≡ true → e.stored ≡ [];
}

abbrev pub IsSummedAt : Pair → Option Endpoint → Marks → Type 0
IsSummedAt pair None m = Unit {0}
IsSummedAt pair (Some e) m = IsSummed pair e m

abbrev Sums : Pair → EndpointEvent → Option Endpoint → Marks → Type 0
Sums pair what before m = IsSummedAt pair (happens pair what before).after (marks_by what (happens pair what before).outcome (happens pair what before).made m)

ruleset on_sums = (append-nil, append_assoc, length-append, take-append-drop)

-- what is called back is there
back_below : (c f : ℕ) → back c f ≤ c
unfolding back
back_below c f = omega arith

times : (k n a : ℕ) → n ≤ a / k → n * k ≤ a
times k n a l = omega (arith, mul-le-mul_right k l, div-mul-le_self a k)

-- what goes out is there, and the counter admits it
sent_below : (e : Endpoint) → (bytes_to_send e * e.size ≤ length e.stored) × (bytes_to_send e * e.size ≤ e.bits)
sent_below e =
    let waiting = length e.stored / e.size in
    let rest = min (e.bits / e.size) (MAX_TEXT / e.size) in (
      times e.size (bytes_to_send e) (length e.stored) (min-le_left waiting rest),
      times e.size (bytes_to_send e) e.bits (omega (arith, min-le_right waiting rest, min-le_left (e.bits / e.size) (MAX_TEXT / e.size))),
    )

goes-out : (pair : Pair) (e : Endpoint) (m : Marks) → SoundAt pair (Some e) → IsMarked e m → IsSummed pair e m → Sums pair EndpointEvent.Text_goes_out (Some e) m
goes-out pair e m s k q =
    let b = sent_below e in
    let whole : length (take (bytes_to_send e * e.size) e.stored) ≡ bytes_to_send e * e.size = length-take-le (bytes_to_send e * e.size) e.stored b.0 in
    grind (arith, on_sums)

called-back : (pair : Pair) (on of_messages of_bits : ℕ) (e : Endpoint) (m : Marks) → SoundAt pair (Some e) → IsMarked e m → IsSummed pair e m → Sums pair (EndpointEvent.Gvb_comes on of_messages of_bits) (Some e) m
called-back pair on of_messages of_bits e m s k q =
    let a = back_below e.messages of_messages in
    let b = back_below e.bits of_bits in
    grind (arith, on_sums)

pub summed-after : (pair : Pair) (what : EndpointEvent) (before : Option Endpoint) (m : Marks) → SoundAt pair before → IsMarkedAt before m → IsSummedAt pair before m → Sums pair what before m
summed-after pair (EndpointEvent.Asks_to_send of_size with_room own full) None m s k q = grind (arith, on_sums)
summed-after pair (EndpointEvent.Asks_to_send of_size with_room own full) (Some e) m s k q = grind (arith, on_sums)
summed-after pair (EndpointEvent.Asks_to_receive with_room on own full) None m s k q = grind (arith, on_sums)
summed-after pair (EndpointEvent.Asks_to_receive with_room on own full) (Some e) m s k q = grind (arith, on_sums)
summed-after pair (EndpointEvent.Closes full) None m s k q = tt
summed-after pair (EndpointEvent.Closes full) (Some e) m s k q = grind (arith, on_sums)
summed-after pair (EndpointEvent.Gives text) None m s k q = tt
summed-after pair (EndpointEvent.Gives text) (Some e) m s k q = grind (arith, on_sums)
summed-after pair (EndpointEvent.Takes bytes) None m s k q = tt
summed-after pair (EndpointEvent.Takes bytes) (Some e) m s k q = grind (arith, on_sums)
summed-after pair (EndpointEvent.Allocates a b full) None m s k q = tt
summed-after pair (EndpointEvent.Allocates a b full) (Some e) m s k q = grind (arith, on_sums)
summed-after pair (EndpointEvent.Calls_back a b full) None m s k q = tt
summed-after pair (EndpointEvent.Calls_back a b full) (Some e) m s k q = grind (arith, on_sums)
summed-after pair (EndpointEvent.Interrupts full) None m s k q = tt
summed-after pair (EndpointEvent.Interrupts full) (Some e) m s k q = grind (arith, on_sums)
summed-after pair (EndpointEvent.Rts_comes on taken by_peer) None m s k q = grind (arith, on_sums)
summed-after pair (EndpointEvent.Rts_comes on taken by_peer) (Some e) m s k q = grind (arith, on_sums)
summed-after pair (EndpointEvent.Str_comes of_size by_peer) None m s k q = grind (arith, on_sums)
summed-after pair (EndpointEvent.Str_comes of_size by_peer) (Some e) m s k q = grind (arith, on_sums)
summed-after pair EndpointEvent.Cls_comes None m s k q = grind (arith, on_sums)
summed-after pair EndpointEvent.Cls_comes (Some e) m s k q = grind (arith, on_sums)
summed-after pair (EndpointEvent.All_comes on a b) None m s k q = tt
summed-after pair (EndpointEvent.All_comes on a b) (Some e) m s k q = grind (arith, on_sums)
summed-after pair (EndpointEvent.Gvb_comes on a b) None m s k q = tt
summed-after pair (EndpointEvent.Gvb_comes on a b) (Some e) m s k q = called-back pair on a b e m s k q
summed-after pair (EndpointEvent.Ret_comes on a b) None m s k q = tt
summed-after pair (EndpointEvent.Ret_comes on a b) (Some e) m s k q = grind (arith, on_sums)
summed-after pair (EndpointEvent.Inr_comes on) None m s k q = tt
summed-after pair (EndpointEvent.Inr_comes on) (Some e) m s k q = grind (arith, on_sums)
summed-after pair (EndpointEvent.Ins_comes on) None m s k q = tt
summed-after pair (EndpointEvent.Ins_comes on) (Some e) m s k q = grind (arith, on_sums)
summed-after pair (EndpointEvent.Text_comes head of_size text) None m s k q = tt
summed-after pair (EndpointEvent.Text_comes head of_size text) (Some e) m s k q = grind (arith, on_sums)
summed-after pair EndpointEvent.Text_goes_out None m s k q = tt
summed-after pair EndpointEvent.Text_goes_out (Some e) m s k q = goes-out pair e m s k q
summed-after pair (EndpointEvent.Is_answered Rfnm) None m s k q = tt
summed-after pair (EndpointEvent.Is_answered Rfnm) (Some e) m s k q = grind (arith, on_sums)
summed-after pair (EndpointEvent.Is_answered Incomplete) before m s k q = q
summed-after pair (EndpointEvent.Is_answered Dead) before m s k q = q
summed-after pair EndpointEvent.Is_cleared before m s k q = tt

-- All three, over a list of acts.

pub record Told (pair : Pair) (before : Option Endpoint) (m : Marks) : Type 0 where
  pub sound : SoundAt pair before
  pub marked : IsMarkedAt before m
  pub summed : IsSummedAt pair before m

pub told-from : (pair : Pair) (acts : List Acted) (before after : Option Endpoint) (m : Marks) → AreActs pair before acts after → Told pair before m → Told pair after (marks_from acts m)
told-from pair [] before after m e k = subst (λ (o : Option Endpoint). Told pair o m) (sym e) k
told-from pair (act ∷ more) before after m e k =
    let did = happens pair act.what before in
    let now = Told pair did.after (marks_by act.what act.outcome act.made m) in
    let is : Told pair did.after (marks_by act.what did.outcome did.made m) =
    record { sound = sound-after pair act.what before k.sound; marked = marked-after pair act.what before m k.sound k.marked; summed = summed-after pair act.what before m k.sound k.marked k.summed } in
    let here : Told pair did.after (marks_by act.what act.outcome act.made m) = subst (λ (a : Acted). Told pair did.after (marks_by act.what a.outcome a.made m)) (sym e.1) is in
    told-from pair more did.after after (marks_by act.what act.outcome act.made m) e.2 here
