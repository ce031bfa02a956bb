-- The checks of a host that is read from bytes.
use Rattle.std.specs.Prelude.{◌≡◌, ℕ, ◌==◌, Bool, true, false, not, if◌then◌else◌, List, [], ◌∷◌, take, drop, slice_get, Option, None, Some, refl}
use Rattle.std.specs.Str.{bytes_eq}
use Rattle.ncp_host.specs.Saved.{file_name, file_version}

-- the version of a saved host's bytes, if they begin with the name
abbrev pub version_in : List ℕ → Option ℕ
version_in bytes = if bytes_eq (take 8 bytes) file_name then slice_get (drop 8 bytes) 0 else None

-- whether the bytes are of another version
abbrev pub is_other : Option ℕ → Bool
is_other None = false
is_other (Some version) = not (version == file_version)

abbrev pub is_of_other_version : List ℕ → Bool
is_of_other_version bytes = is_other (version_in bytes)

-- Checked by hand: the name and this version, the name and another version, and the name alone.

pub this_by_hand : is_of_other_version (78 ∷ 67 ∷ 80 ∷ 32 ∷ 104 ∷ 111 ∷ 115 ∷ 116 ∷ 1 ∷ []) ≡ false
this_by_hand = refl

pub other_by_hand : is_of_other_version (78 ∷ 67 ∷ 80 ∷ 32 ∷ 104 ∷ 111 ∷ 115 ∷ 116 ∷ 2 ∷ []) ≡ true
other_by_hand = refl

pub name_by_hand : version_in (78 ∷ 67 ∷ 80 ∷ 32 ∷ 104 ∷ 111 ∷ 115 ∷ 116 ∷ []) ≡ None
name_by_hand = refl
