-- The link on which a message is sent.
use Rattle.std.specs.Prelude.{ℕ, Bool, List, Option, None, Some}

abbrev pub link_on : Option (ℕ × List Bool) → Option ℕ
link_on None = None
link_on (Some out) = Some out.0
