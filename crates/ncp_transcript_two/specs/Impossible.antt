-- Impossible events, for which `Nothing` is noted.
use Rattle.std.specs.Prelude.{◌≡◌, false, None}
use Rattle.ncp_subnet.specs.Transit.{is_accepted, answer_kind}
use Rattle.ncp_subnet.specs.Ways.{OnLink}
use Rattle.ncp_transcript_two.specs.declared.note.Move.{Move}
use Rattle.ncp_transcript_two.specs.declared.note.Move.TheVariants as moves

-- impossible on a link: a delivery, a loss or a dead destination if the subnet has no message that may
-- still be delivered; an answer if it has none that was delivered, was lost, or found its destination
-- dead
abbrev pub IsImpossible : Move → OnLink → Type 0
IsImpossible moves.Deliver transit = is_accepted transit ≡ false
IsImpossible moves.Lose transit = is_accepted transit ≡ false
IsImpossible moves.Dead transit = is_accepted transit ≡ false
IsImpossible moves.Answer transit = answer_kind transit ≡ None
