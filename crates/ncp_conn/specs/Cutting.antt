-- The next link on which a text may be sent.
use Rattle.std.specs.Prelude.{ℕ, zero, suc, ◌+◌, ◌-◌, ◌/◌, Bool, if◌then◌else◌, List, [], length, Option, None, Some, is_some}
use Rattle.ncp_wire.specs.declared.links.TheConstants.{LAST_LINK}
use Rattle.ncp_model.specs.Effect.{answer}
use Rattle.ncp_model.specs.Ends.{Ends, cut_in}

-- whether a text may be cut on a link
abbrev pub may_cut : Ends → ℕ → Bool
may_cut m on = is_some (answer (cut_in on m))

-- the byte size and the number of bytes of a text that is cut, if any
abbrev pub cut_sizes : Option (ℕ × List Bool) → Option (ℕ × ℕ)
cut_sizes None = None
cut_sizes (Some text) = Some (text.0, length text.1 / text.0)

-- its bits, or none
abbrev pub cut_text : Option (ℕ × List Bool) → List Bool
cut_text None = []
cut_text (Some text) = text.1

-- the first of `many` numbers from `from` up that passes, if one does
unfoldable pub first_number_that : (ℕ → Bool) → ℕ → ℕ → Option ℕ
first_number_that test zero from = None
first_number_that test (suc many) from = if test from then Some from else first_number_that test many (suc from)

-- the lowest link from `from` up on which a text may be cut
abbrev pub next_cut : ℕ → Ends → Option ℕ
next_cut from m = first_number_that (may_cut m) (LAST_LINK + 1 - from) from
