-- The rendering of the notes of hosts.
use Rattle.std.specs.Prelude.{ℕ, List, [], ◌∷◌, ◌++◌}
use Rattle.ncp_play_buffer.specs.Lines.{number_after}

-- the head, before all notes; and the text of a note, by its number and the hosts after it
pub record Rendering (N W : Type 0) : Type 0 where
  pub head : List ℕ
  pub of_note : ℕ → N → W → List ℕ

module _ {N W : Type 0} (after : N → W → W) where
  -- after all these notes, in order
  abbrev pub after_all : List N → W → W
  after_all [] w = w
  after_all (note ∷ notes) w = after_all notes (after note w)

  -- the rendering of notes; the first has this number, and `w` are the hosts before it
  abbrev pub printed_from : Rendering N W → ℕ → W → List N → List ℕ
  printed_from rendering number w [] = []
  printed_from rendering number w (note ∷ notes) = rendering.of_note number note (after note w) ++ printed_from rendering (number_after number) (after note w) notes

  -- the head and the rendering of all notes, for hosts that began as `began`
  abbrev pub told : Rendering N W → W → List N → List ℕ
  told rendering began notes = rendering.head ++ printed_from rendering 1 began notes

-- the number of the note after these
abbrev pub number_after_notes : {N : Type 0} → ℕ → List N → ℕ
number_after_notes number [] = number
number_after_notes number (note ∷ notes) = number_after_notes (number_after number) notes
