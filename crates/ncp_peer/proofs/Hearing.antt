-- What is heard, command by command and as a whole text.
use Rattle.std.proofs.Common.{◌≡◌, ◌+◌, ◌≤◌, Bool, true, false, if◌then◌else◌, List, [], ◌∷◌, ◌++◌, map, length, Option, None, Some, Result, Ok, Err, refl, sym, ap, ◌∙◌, arith, length-append, add-one}
use Rattle.std.specs.Option.{option_to_list}
use Rattle.ncp_wire.specs.declared.command.Command.{Command}
use Rattle.ncp_wire.specs.declared.command.Command.TheVariants.{Rst, Rrp}
use Rattle.ncp_wire.specs.declared.fault.CommandFault.{CommandFault}
use Rattle.ncp_control.specs.Texts.{items_of, commands_among}
use Rattle.ncp_slot.specs.Slots.{is_quiet}
use Rattle.ncp_model.specs.Phase.{up, is_rst, is_rrp}
use Rattle.ncp_model.specs.Peers.{Peer, hears, hears_other}
use Rattle.ncp_peer.specs.declared.counts.Counts.{Counts}
use Rattle.ncp_peer.specs.PeerState.{PeerState}
use Rattle.ncp_peer.specs.Hearing as states
use Rattle.ncp_peer.specs.Steps.{heard_item, heard_items}

pub hears_is : (quiet : Bool) (c : Command) (p : Peer) → is_rst c ≡ false → is_rrp c ≡ false → up p.phase ≡ true → hears_other quiet c p ≡ hears quiet c p
hears_is quiet Rst p e f u = absurd (cc)
hears_is quiet Rrp p e f u = absurd (cc)
hears_is quiet c p e f u = sym (ap (λ b. if b then hears_other quiet c p else p) u)

pub items_more : (quiet : Bool) (xs : List (Result Command CommandFault)) (x : Result Command CommandFault) (s : Peer × Counts) → heard_items quiet (xs ++ x ∷ []) s ≡ heard_item quiet x (heard_items quiet xs s)
items_more quiet [] x s = refl
items_more quiet (y ∷ xs) x s = items_more quiet xs x (heard_item quiet y s)

abbrev with_heard : PeerState → Peer × Counts → PeerState
with_heard s h = record s { peer = h.0; counts = h.1 }

last : (fault : Option CommandFault) (s : PeerState) → with_heard s (heard_items (is_quiet s.slots) (map Err (option_to_list fault)) (s.peer, s.counts)) ≡ states.hears_last fault s
last None s = refl
last (Some fault) s = refl

pub text_heard : (cs : List Command) (fault : Option CommandFault) (s : PeerState) → record s { peer = (heard_items (is_quiet s.slots) (items_of cs fault) (s.peer, s.counts)).0; counts = (heard_items (is_quiet s.slots) (items_of cs fault) (s.peer, s.counts)).1 } ≡ states.state_hears_text cs fault s
text_heard [] fault s = last fault s
text_heard (c ∷ cs) fault s = text_heard cs fault (states.state_hears c s)

pub few_commands : (xs : List (Result Command CommandFault)) → length (commands_among xs) ≤ length xs
few_commands [] = omega arith
few_commands (Ok c ∷ xs) = let h = few_commands xs in omega arith
few_commands (Err f ∷ xs) = let h = few_commands xs in omega arith

pub commands_ok : (xs : List (Result Command CommandFault)) (c : Command) → length (commands_among (xs ++ Ok c ∷ [])) ≡ length (commands_among xs) + 1
commands_ok [] c = refl
commands_ok (Ok d ∷ xs) c = let h = commands_ok xs c in omega arith
commands_ok (Err f ∷ xs) c = commands_ok xs c

pub commands_err : (xs : List (Result Command CommandFault)) (f : CommandFault) → length (commands_among (xs ++ Err f ∷ [])) ≡ length (commands_among xs)
commands_err [] f = refl
commands_err (Ok d ∷ xs) f = let h = commands_err xs f in omega arith
commands_err (Err g ∷ xs) f = commands_err xs f

pub item_heard : (quiet : Bool) (xs : List (Result Command CommandFault)) (x y : Result Command CommandFault) (s a b : Peer × Counts) → x ≡ y → a ≡ heard_items quiet xs s → b ≡ heard_item quiet y a → b ≡ heard_items quiet (xs ++ x ∷ []) s
item_heard quiet xs x y s a b e i h = h ∙ ap (λ z. heard_item quiet z a) (sym e) ∙ ap (heard_item quiet x) i ∙ sym (items_more quiet xs x s)

pub both : {A B : Type 0} {a c : A} {b d : B} → a ≡ c → b ≡ d → ◌≡◌ {A = A × B} (a, b) (c, d)
both {A} {B} {a} {c} {b} {d} e f = ap (λ (x : A). (x, b)) e ∙ ap (λ (y : B). (c, y)) f

-- so far there are fewer than so many
pub fewer : (xs ys all : List (Result Command CommandFault)) (x : Result Command CommandFault) (rest : List (Result Command CommandFault)) → xs ++ ys ≡ all → ys ≡ x ∷ rest → length (commands_among xs) + 1 ≤ length all
fewer xs ys all x rest e f =
    let a = few_commands xs in
    let b : length xs + length ys ≡ length all = sym (length-append xs ys) ∙ ap (λ zs. length zs) e in
    let d : length ys ≡ length rest + 1 = ap (λ zs. length zs) f ∙ sym (add-one (length rest)) in
    omega arith
