-- The line of a move is that of the move that it is.
use Rattle.std.proofs.Common.{◌≡◌, ℕ, List, ◌++◌, ap, ◌∙◌}
use Rattle.ncp_play_world_lines.specs.declared.move_line.Moved.{Moved}
use Rattle.ncp_play_world_lines.specs.MoveLines.{move_line}

pub is_line_of : (new page outcome : List ℕ) (made moved : Moved) → new ≡ page ++ move_line made outcome → made ≡ moved → new ≡ page ++ move_line moved outcome
is_line_of new page outcome made moved said is = said ∙ ap (λ (m : Moved). page ++ move_line m outcome) is
