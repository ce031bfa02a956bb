use Rattle.std.proofs.Common.{◌≡◌, ◌⊎◌, inl, inr, ℕ, ◌+◌, ◌<◌, ◌≤◌, ◌==◌, ◌%◌, Bool, true, false, not, ◌&&◌, ◌||◌, nat_le, nat_lt, length, Result, Ok, Err, refl, arith}
use Rattle.std.proofs.lemmas.Bool.Decides.{nat_tests}
use Rattle.ncp_wire.specs.declared.command.Command.{Command}
use Rattle.ncp_model.specs.declared.call_fault.CallFault.{CallFault}
use Rattle.ncp_model.specs.declared.call_fault.CallFault.TheVariants.{Closing, NotOpen, WrongEnd, NotWhole, NoRoom, TooMuch, QueueFull}
use Rattle.ncp_model.specs.Pairs.{sends, receives}
use Rattle.ncp_model.specs.Endpoint.{Endpoint, is_closing}
use Rattle.ncp_model.specs.Effect.{Effect, Becomes, answer}
use Rattle.ncp_model.specs.Calls.{refuse, ◌>>◌, unless_refused, fits, is_too_much}
use Rattle.ncp_host.proofs.laws.what_has_room.Goals as goal

-- what a call answers, by what is judged before the room, by the room and behind it
abbrev gives : Bool → Bool → Bool → Bool → Bool → Endpoint → Effect (Result (Unit {0}) CallFault)
gives going opened sending whole fitting after =
    unless_refused
    (((refuse Closing going >> refuse NotOpen (not opened)) >> refuse WrongEnd (not sending)) >> (refuse NotWhole (not whole) >> refuse NoRoom (not fitting)))
    (Becomes after (Ok tt))

given : (a b c d f : Bool) (e : Endpoint) → answer (gives a b c d f e) ≡ Ok tt → f ≡ true
given true b c d f e h = absurd (cc)
given false false c d f e h = absurd (cc)
given false true false d f e h = absurd (cc)
given false true true false f e h = absurd (cc)
given false true true true false e h = absurd (cc)
given false true true true true e h = refl

not_given : (a b c d f : Bool) (e : Endpoint) → answer (gives a b c d f e) ≡ Err NoRoom → f ≡ false
not_given true b c d f e h = absurd (cc)
not_given false false c d f e h = absurd (cc)
not_given false true false d f e h = absurd (cc)
not_given false true true false f e h = absurd (cc)
not_given false true true true false e h = refl
not_given false true true true true e h = absurd (cc)

abbrev allows : Bool → Bool → Bool → Bool → Bool → Endpoint → Command → Effect (Result Command CallFault)
allows going opened receiving much full after made =
    unless_refused
    (((refuse Closing going >> refuse NotOpen (not opened)) >> refuse WrongEnd (not receiving)) >> (refuse TooMuch much >> refuse QueueFull full))
    (Becomes after (Ok made))

allowed : (a b c d f : Bool) (e : Endpoint) (made k : Command) → answer (allows a b c d f e made) ≡ Ok k → d ≡ false
allowed true b c d f e made k h = absurd (cc)
allowed false false c d f e made k h = absurd (cc)
allowed false true false d f e made k h = absurd (cc)
allowed false true true true f e made k h = absurd (cc)
allowed false true true false true e made k h = absurd (cc)
allowed false true true false false e made k h = refl

not_allowed : (a b c d f : Bool) (e : Endpoint) (made : Command) → answer (allows a b c d f e made) ≡ Err TooMuch → d ≡ true
not_allowed true b c d f e made h = absurd (cc)
not_allowed false false c d f e made h = absurd (cc)
not_allowed false true false d f e made h = absurd (cc)
not_allowed false true true true f e made h = refl
not_allowed false true true false true e made h = absurd (cc)
not_allowed false true true false false e made h = absurd (cc)

at_most : (a b : ℕ) → nat_le a b ≡ true → a ≤ b
at_most a b h = grind (arith, nat_tests)

over : (a b : ℕ) → nat_le a b ≡ false → b < a
over a b h = grind (arith, nat_tests)

less : (a b : ℕ) → nat_lt a b ≡ true → a < b
less a b h = grind (arith, nat_tests)

not_less : (a b : ℕ) → nat_lt a b ≡ false → b ≤ a
not_less a b h = grind (arith, nat_tests)

neither : (a b : Bool) → (a || b) ≡ false → (a ≡ false) × (b ≡ false)
neither false false h = (refl, refl)
neither false true h = absurd (cc)
neither true b h = absurd (cc)

one_of : (a b : Bool) → (a || b) ≡ true → (a ≡ true) ⊎ (b ≡ true)
one_of true b h = inl refl
one_of false true h = inr refl
one_of false false h = absurd (cc)

pub returns-clause-given : goal.returns-clause-given
returns-clause-given c pair text e h =
    at_most _ _ (given (is_closing e) (e.asked && e.heard) (sends pair) (length text % e.size == 0) (fits text e) _ h)

pub returns-clause-not_given : goal.returns-clause-not_given
returns-clause-not_given c pair text e h =
    over _ _ (not_given (is_closing e) (e.asked && e.heard) (sends pair) (length text % e.size == 0) (fits text e) _ h)

pub returns-clause-allowed : goal.returns-clause-allowed
returns-clause-allowed c pair messages bits full e k h =
    let both = neither (nat_lt e.room (e.bits + length e.stored + bits)) (nat_lt 65535 (e.messages + messages)) (allowed (is_closing e) (e.asked && e.heard) (receives pair) (is_too_much messages bits e) full _ _ k h) in
    (not_less _ _ both.0, not_less _ _ both.1)

pub returns-clause-not_allowed : goal.returns-clause-not_allowed
returns-clause-not_allowed c pair messages bits full e h =
    elim (one_of (nat_lt e.room (e.bits + length e.stored + bits)) (nat_lt 65535 (e.messages + messages)) (not_allowed (is_closing e) (e.asked && e.heard) (receives pair) (is_too_much messages bits e) full _ _ h)) [
      | inl l ↦ inl (less _ _ l)
      | inr l ↦ inr (less _ _ l)
    ]
