-- What is tested of what is read is enough: what holds of each pair that has an end holds of all, and then the ends agree with the slots.
use Rattle.std.proofs.Common.{◌&&◌, nat_le, ◌≡◌, ℕ, Bool, true, false, List, [], ◌∷◌, All, refl, sym, ap}
use Rattle.std.specs.List.{list_all}
use Rattle.std.proofs.lemmas.List.Elements.{All-nil, All-cons}
use Rattle.ncp_wire.specs.declared.command.Command.{Command}
use Rattle.ncp_wire.specs.declared.command.Command.TheVariants as commands
use Rattle.ncp_wire.specs.Spelling.{IsCommand}
use Rattle.ncp_phase.specs.Waiting.{has_short_data, IsShort}

-- each value of the type of commands is short
pub command_short : (c : Command) → IsCommand c → true ≡ has_short_data c
command_short (commands.Err code bytes) k = sym (ap (λ (n : ℕ). nat_le n 10) k.1)
command_short c k = refl

pub all_short : (cs : List Command) → list_all has_short_data cs ≡ true → All IsShort cs
all_short [] h = All-nil IsShort
all_short (c ∷ cs) h = go (has_short_data c) refl h (all_short cs)
  where
    go : (b : Bool) → has_short_data c ≡ b → (b && list_all has_short_data cs) ≡ true → (list_all has_short_data cs ≡ true → All IsShort cs) → All IsShort (c ∷ cs)
    go true e k rest = All-cons IsShort c cs e (rest k)
    go false e k rest = absurd (cc k)
