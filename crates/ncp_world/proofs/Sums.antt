-- What commands carry, added up one after the other.
use Rattle.std.specs.Prelude.{slice_get}
use Rattle.std.proofs.Common.{◌≡◌, ◌≤◌, ◌<◌, ℕ, zero, suc, ◌+◌, List, [], ◌∷◌, ◌++◌, length, take, get_or, Option, Some, None, refl, sym, ap, ◌∙◌, arith}
use Rattle.std.proofs.lemmas.List.{take_more, take_all}
use Rattle.std.proofs.lemmas.Option.{slice_get_within, get_or_from_slice_get}
use Rattle.ncp_wire.specs.declared.command.Command.{Command}
use Rattle.ncp_peer.specs.PeerState.{PeerState}
use Rattle.ncp_peer.specs.PeerCalls.{waiting_at}
use Rattle.ncp_world.specs.declared.carrying.Carried.{Carried}
use Rattle.ncp_world.specs.Reckoning.{carried_on, carried_both, waiting_of}

carried_append : (link : ℕ) (cs ds : List Command) → carried_on link (cs ++ ds) ≡ carried_both (carried_on link cs) (carried_on link ds)
carried_append link [] ds = grind arith
carried_append link (c ∷ cs) ds = let e = carried_append link cs ds in grind arith

-- two sums, one of each part
pub carried_joined : (link : ℕ) (cs ds : List Command) (a b : Carried) → a ≡ carried_on link cs → b ≡ carried_on link ds → carried_both a b ≡ carried_on link (cs ++ ds)
carried_joined link cs ds a b e k = (λ i. carried_both (e i) (k i)) ∙ sym (carried_append link cs ds)

-- The command at a place of those that wait, if there is one.

told-at : (o : Option PeerState) (place : ℕ) → waiting_at o place ≡ slice_get (waiting_of o) place
told-at None place = refl
told-at (Some s) place = refl

pub waits-next : (link : ℕ) (o : Option PeerState) (place : ℕ) (so_far more : Carried) (c : Command)
    → waiting_at o place ≡ Some c → more ≡ carried_on link (c ∷ []) → so_far ≡ carried_on link (take place (waiting_of o)) → carried_both so_far more ≡ carried_on link (take (place + 1) (waiting_of o))
waits-next link o place so_far more c e m k =
    let there : slice_get (waiting_of o) place ≡ Some c = sym (told-at o place) ∙ e in
    let inside : place < length (waiting_of o) = slice_get_within (waiting_of o) place c there in
    let is : get_or (waiting_of o) place c ≡ c = get_or_from_slice_get (waiting_of o) place c c there in
    carried_joined link (take place (waiting_of o)) (c ∷ []) so_far more k m
    ∙ sym (ap (carried_on link) (take_more (waiting_of o) place c inside ∙ ap (λ (x : Command). take place (waiting_of o) ++ x ∷ []) is))

past : (cs : List Command) (place : ℕ) → slice_get cs place ≡ None → length cs ≤ place
past [] place e = omega arith
past (c ∷ cs) zero e = absurd (cc e)
past (c ∷ cs) (suc place) e = let h = past cs place e in omega (arith, h)

pub waits-none : (link : ℕ) (o : Option PeerState) (place most : ℕ) (so_far : Carried) → place ≤ most → waiting_at o place ≡ None → so_far ≡ carried_on link (take place (waiting_of o)) → so_far ≡ carried_on link (take most (waiting_of o))
waits-none link o place most so_far less e k =
    let few : length (waiting_of o) ≤ place = past (waiting_of o) place (sym (told-at o place) ∙ e) in
    k ∙ ap (carried_on link) (take_all place (waiting_of o) few ∙ sym (take_all most (waiting_of o) (omega (arith, few, less))))
