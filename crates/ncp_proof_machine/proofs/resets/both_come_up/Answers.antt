-- This host resets, that one answers, and this one sends another command.
use Rattle.std.proofs.Common.{◌≡◌, true, false, List, [], ◌∷◌, refl}
use Rattle.ncp_wire.specs.declared.command.Command.{Command}
use Rattle.ncp_wire.specs.declared.command.Command.TheVariants.{Rst, Rrp}
use Rattle.ncp_model.specs.Phase.{Reaction, is_other}
use Rattle.ncp_proof_machine.specs.Resets.{ResetEvent, This, That, Resets, Makes, Sends, Hears, Is_answered}
use Rattle.ncp_proof_machine.specs.AfterResets.{CanBe, CameAlone}
use Rattle.ncp_proof_machine.proofs.resets.both_come_up.Goals as goal

abbrev quietly : List Reaction
quietly = record { quiet = true; full = false; replies = [] } ∷ []

abbrev schedule : Command → List ResetEvent
schedule c =
    record { side = This; step = Resets true } ∷ record { side = This; step = Sends 0 } ∷ record { side = That; step = Hears quietly }
    ∷ record { side = This; step = Is_answered } ∷ record { side = That; step = Sends 0 } ∷ record { side = This; step = Hears quietly }
    ∷ record { side = This; step = Makes c } ∷ record { side = This; step = Sends 0 } ∷ record { side = That; step = Hears quietly } ∷ []

comes : (c : Command) → is_other c ≡ true → CanBe (CameAlone c)
comes Rst o = absurd (cc o)
comes Rrp o = absurd (cc o)
comes c o = (schedule c, (refl, refl, refl))

pub returns : goal.returns
returns c = comes
