-- The place of the note that a line has left.
use Rattle.std.proofs.Common.{◌≡◌, ◌≤◌, ◌<◌, ℕ, zero, suc, ◌+◌, ◌-◌, ◌==◌, nat_lt, Bool, true, false, cond, List, [], ◌∷◌, ◌++◌, map, take, drop, length, Option, Some, None, option_map, refl, sym, ap, ◌∙◌, arith}
use Rattle.std.proofs.lemmas.Bool.Decides.{nat_tests}
use Rattle.std.proofs.lemmas.List.{length-drop, length-take}
use Rattle.ncp_play_world_lines.specs.declared.settling.ScriptNote.{ScriptNote}
use Rattle.ncp_play_world_lines.specs.declared.settling.ScriptNote.TheVariants.{Noted, Settled}
use Rattle.ncp_play_world.specs.declared.marks.Mark.{Mark}
use Rattle.ncp_play_world.specs.Traces.{traces_of, notes_marked, note_place, marked_place, position_of_line}

none_more : (found : Option ℕ) → option_map (λ (p : ℕ). 0 + p) found ≡ found
none_more None = refl
none_more (Some p) = ap Some (omega arith)

one_further : (n : ℕ) (found : Option ℕ) → option_map suc (option_map (λ (p : ℕ). n + p) found) ≡ option_map (λ (p : ℕ). suc n + p) found
one_further n None = refl
one_further n (Some p) = ap Some (omega arith)

further : (n m : ℕ) (found : Option ℕ) → option_map (λ (p : ℕ). n + m + p) found ≡ option_map (λ (p : ℕ). n + p) (option_map (λ (p : ℕ). m + p) found)
further n m None = refl
further n m (Some p) = ap Some (omega arith)

module _ {N : Type 0} where
  place_before : (xs : List N) (rest : List (ScriptNote N)) (left : ℕ) → left < length xs → note_place (map Noted xs ++ rest) left ≡ Some left
  place_before [] rest left l = absurd (omega (arith, l))
  place_before (x ∷ xs) rest zero l = refl
  place_before (x ∷ xs) rest (suc left) l = ap (option_map suc) (place_before xs rest left (omega (arith, l)))

  place_none : (xs : List N) (left : ℕ) → length xs ≤ left → note_place (map Noted xs) left ≡ None
  place_none [] left l = refl
  place_none (x ∷ xs) zero l = absurd (omega (arith, l))
  place_none (x ∷ xs) (suc left) l = ap (option_map suc) (place_none xs left (omega (arith, l)))

  place_some : (xs : List N) (left : ℕ) → left < length xs → note_place (map Noted xs) left ≡ Some left
  place_some [] left l = absurd (omega (arith, l))
  place_some (x ∷ xs) zero l = refl
  place_some (x ∷ xs) (suc left) l = ap (option_map suc) (place_some xs left (omega (arith, l)))

  place_at : (xs : List N) (many : ℕ) (rest : List (ScriptNote N)) → note_place (map Noted xs ++ Settled many ∷ rest) (length xs) ≡ None
  place_at [] many rest = refl
  place_at (x ∷ xs) many rest = ap (option_map suc) (place_at xs many rest)

  place_after : (xs : List N) (many : ℕ) (rest : List (ScriptNote N)) (left : ℕ) → note_place (map Noted xs ++ Settled many ∷ rest) (length xs + suc left) ≡ option_map (λ (p : ℕ). length xs + p) (note_place rest left)
  place_after [] many rest left =
      let e : 0 + suc left ≡ suc left = omega arith in
      ap (note_place (Settled many ∷ rest)) e ∙ sym (none_more (note_place rest left))
  place_after (x ∷ xs) many rest left =
      let e : suc (length xs) + suc left ≡ suc (length xs + suc left) = omega arith in
      ap (note_place (Noted x ∷ map Noted xs ++ Settled many ∷ rest)) e ∙ ap (option_map suc) (place_after xs many rest left) ∙ one_further (length xs) (note_place rest left)

  -- behind all marks
  following_all : (notes : List N) (since before left : ℕ) → 0 + since ≡ length notes → (small : Bool) → nat_lt left since ≡ small → cond small (Some (before + left)) None ≡ option_map (λ (p : ℕ). before + p) (note_place (map Noted notes) left)
  following_all notes since before left all true e =
      let l : left < since = grind (arith, nat_tests, e) in
      ap (option_map (λ (p : ℕ). before + p)) (sym (place_some notes left (omega (arith, l, all))))
  following_all notes since before left all false e =
      let l : since ≤ left = grind (arith, nat_tests, e) in
      ap (option_map (λ (p : ℕ). before + p)) (sym (place_none notes left (omega (arith, l, all))))

  -- before a mark, at it, and behind it
  after_mark : (notes : List N) (mark : Mark) (marks : List Mark) (since before left : ℕ) → mark.behind ≤ length notes
      → marked_place marks since (before + mark.behind) (left - (mark.behind + 1)) ≡ option_map (λ (p : ℕ). before + mark.behind + p) (note_place (traces_of (drop mark.behind notes) marks) (left - (mark.behind + 1)))
      → (small same : Bool) → nat_lt left mark.behind ≡ small → (left == mark.behind) ≡ same
      → cond small (Some (before + left)) (cond same None (marked_place marks since (before + mark.behind) (left - (mark.behind + 1)))) ≡ option_map (λ (p : ℕ). before + p) (note_place (traces_of notes (mark ∷ marks)) left)
  after_mark notes mark marks since before left few on true same e f =
      let l : left < mark.behind = grind (arith, nat_tests, e) in
      let len = length-take mark.behind notes in
      let inside : left < length (take mark.behind notes) = omega (arith, l, len, few) in
      ap (option_map (λ (p : ℕ). before + p)) (sym (place_before (take mark.behind notes) (Settled mark.many ∷ traces_of (drop mark.behind notes) marks) left inside))
  after_mark notes mark marks since before left few on false true e f =
      let l : left ≡ mark.behind = grind (arith, nat_tests, f) in
      let len = length-take mark.behind notes in
      let at : left ≡ length (take mark.behind notes) = omega (arith, l, len, few) in
      ap (option_map (λ (p : ℕ). before + p)) (sym (ap (note_place (traces_of notes (mark ∷ marks))) at ∙ place_at (take mark.behind notes) mark.many (traces_of (drop mark.behind notes) marks)))
  after_mark notes mark marks since before left few on false false e f =
      let over : mark.behind < left = grind (arith, nat_tests, e, f) in
      let len = length-take mark.behind notes in
      let size : length (take mark.behind notes) ≡ mark.behind = omega (arith, len, few) in
      let behind : left ≡ length (take mark.behind notes) + suc (left - (mark.behind + 1)) = omega (arith, over, size) in
      let rest : Option ℕ = note_place (traces_of (drop mark.behind notes) marks) (left - (mark.behind + 1)) in
      on ∙ further before mark.behind rest
      ∙ ap (option_map (λ (p : ℕ). before + p))
      (ap (λ (n : ℕ). option_map (λ (p : ℕ). n + p) rest) (sym size)
      ∙ sym (ap (note_place (traces_of notes (mark ∷ marks))) behind ∙ place_after (take mark.behind notes) mark.many (traces_of (drop mark.behind notes) marks) (left - (mark.behind + 1))))

  -- the marks say it of what they make of notes
  marked_is : (notes : List N) (marks : List Mark) (since before left : ℕ) → notes_marked marks + since ≡ length notes → marked_place marks since before left ≡ option_map (λ (p : ℕ). before + p) (note_place (traces_of notes marks) left)
  marked_is notes [] since before left all = following_all notes since before left all (nat_lt left since) refl
  marked_is notes (mark ∷ marks) since before left all =
      let len = length-drop mark.behind notes in
      after_mark notes mark marks since before left (omega (arith, all))
      (marked_is (drop mark.behind notes) marks since (before + mark.behind) (left - (mark.behind + 1)) (omega (arith, all, len))) (nat_lt left mark.behind) (left == mark.behind) refl refl

  -- of a line whose number is counted from 1
  pub place_is : (notes : List N) (marks : List Mark) (since line : ℕ) → notes_marked marks + since ≡ length notes → marked_place marks since 0 line ≡ position_of_line (traces_of notes marks) (suc line)
  place_is notes marks since line all = marked_is notes marks since 0 line all ∙ none_more (note_place (traces_of notes marks) line)
