-- The replies that one of two hosts owes the other, in order: the next that fits, and those after it.
use Rattle.std.specs.Prelude.{ℕ, ◌==◌, Bool, true, false, ◌||◌, if◌then◌else◌, List, [], ◌∷◌}
use Rattle.ncp_monitor.proofs.LinkOrder.{Sockets, same}

-- an ERP; or the RET of a connection, for its link, with its numbers: the exact ones at the host that
-- owes it, or no smaller ones
pub data Owing : Type 0 where
  Echoes : (byte : ℕ) → Owing
  Returning : (u : Sockets) → (link : ℕ) → (messages : ℕ) → (bits : ℕ) → Owing

abbrev pub is_echo_of : ℕ → Owing → Bool
is_echo_of byte (Echoes other) = other == byte
is_echo_of byte (Returning u link messages bits) = false

abbrev pub is_returning_on : ℕ → Owing → Bool
is_returning_on link (Echoes byte) = false
is_returning_on link (Returning u on messages bits) = on == link

abbrev pub is_owed_of : Sockets → Owing → Bool
is_owed_of u (Echoes byte) = false
is_owed_of u (Returning v link messages bits) = same v u

abbrev pub is_echo : Owing → Bool
is_echo (Echoes byte) = true
is_echo (Returning u link messages bits) = false

-- the first that fits, if no ERP precedes it
abbrev pub Chosen : Bool → Bool → Type 0 → Type 0 → Type 0
Chosen true echo here later = here
Chosen false true here later = ⊥
Chosen false false here later = later

abbrev pub NextOwed : (Owing → Bool) → (Owing → Type 0) → List Owing → Type 0
NextOwed fits p [] = ⊥
NextOwed fits p (o ∷ owing) = Chosen (fits o) (is_echo o) (p o) (NextOwed fits p owing)

-- those after it
abbrev pub owed_after : (Owing → Bool) → List Owing → List Owing
owed_after fits [] = []
owed_after fits (o ∷ owing) = if fits o then owing else owed_after fits owing

abbrev pub has_echo : List Owing → Bool
has_echo [] = false
has_echo (o ∷ owing) = is_echo o || has_echo owing

abbrev pub any_owing : Owing → Type 0
any_owing o = Unit {0}
