-- The rendering of notes after others.
use Rattle.std.proofs.Common.{◌≡◌, ℕ, List, [], ◌∷◌, ◌++◌, refl, ap, sym, ◌∙◌}
use Rattle.std.proofs.lemmas.List.{append_assoc, append-nil}
use Rattle.ncp_play_buffer.specs.Lines.{number_after}
use Rattle.ncp_play_simulation.specs.Printing.{Rendering, after_all, printed_from, told, number_after_notes}

module _ {N W : Type 0} (after : N → W → W) where
  printed_append : (rendering : Rendering N W) (number : ℕ) (w : W) (notes more : List N)
      → printed_from after rendering number w (notes ++ more) ≡ printed_from after rendering number w notes ++ printed_from after rendering (number_after_notes number notes) (after_all after notes w) more
  printed_append rendering number w [] more = refl
  printed_append rendering number w (note ∷ notes) more =
      let next : W = after note w in
      ap (λ text. rendering.of_note number note next ++ text) (printed_append rendering (number_after number) next notes more)
      ∙ sym (append_assoc (rendering.of_note number note next) (printed_from after rendering (number_after number) next notes) (printed_from after rendering (number_after_notes (number_after number) notes) (after_all after notes next) more))

  -- one note more
  pub told_one : (rendering : Rendering N W) (began : W) (notes : List N) (note : N)
      → told after rendering began (notes ++ note ∷ []) ≡ told after rendering began notes ++ rendering.of_note (number_after_notes 1 notes) note (after note (after_all after notes began))
  told_one rendering began notes note =
      let last : List ℕ = rendering.of_note (number_after_notes 1 notes) note (after note (after_all after notes began)) in
      ap (λ text. rendering.head ++ text) (printed_append rendering 1 began notes (note ∷ []) ∙ ap (λ text. printed_from after rendering 1 began notes ++ text) (append-nil last))
      ∙ sym (append_assoc rendering.head (printed_from after rendering 1 began notes) last)

  pub after_one : (notes : List N) (note : N) (w : W) → after_all after (notes ++ note ∷ []) w ≡ after note (after_all after notes w)
  after_one [] note w = refl
  after_one (one ∷ notes) note w = after_one notes note (after one w)

pub number_one : {N : Type 0} (number : ℕ) (notes : List N) (note : N) → number_after_notes number (notes ++ note ∷ []) ≡ number_after (number_after_notes number notes)
number_one number [] note = refl
number_one number (one ∷ notes) note = number_one (number_after number) notes note
