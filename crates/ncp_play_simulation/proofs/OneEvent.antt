-- One more note that is rendered.
use Rattle.std.proofs.Common.{◌≡◌, ◌⊎◌, inl, inr, ℕ, zero, suc, ◌+◌, Bool, true, false, length, Err, List, [], ◌∷◌, ◌++◌, Option, refl, sym, ap, ◌∙◌, subst, arith}
use Rattle.std.proofs.lemmas.List.{length-append}
use Rattle.ncp_play_stream.specs.Streams.{SaidSoFar, WritesText, WritesPrefixOf}
use Rattle.ncp_play_buffer.specs.Lines.{number_after}
use Rattle.ncp_play_notes.specs.declared.fault.PlayFault.{PlayFault}
use Rattle.ncp_play_notes.specs.declared.fault.PlayFault.TheVariants.{BadLine, LineTooLong, BadHosts, Feed, ReadFailed, WriteFailed, OutOfMemory}
use Rattle.ncp_play_simulation.specs.Rules.{Rules, Begins, Step}
use Rattle.ncp_play_simulation.specs.Printing.{Rendering, after_all, told, number_after_notes}
use Rattle.ncp_play_simulation.specs.Playing.{Tells, PrintsPrefixOf, DoesPart, DoesEvent}
use Rattle.ncp_play_simulation.proofs.MoreNotes.{told_one, number_one, after_one}

module _ {F E N W : Type 0} (rules : Rules F E N W) (rendering : Rendering N W) (began : W) (was : List ℕ) (number : ℕ) (before now : W) (note : N) (page : List ℕ) (written : Option (List ℕ))
    (so_far : Tells rules rendering began was before number page written) (longer : rules.notes now ≡ rules.notes before ++ note ∷ []) (behind : now ≡ rules.after note before) where
  abbrev noted : List N
  noted = rules.notes before

  left_so : now ≡ rules.after note (after_all rules.after noted began)
  left_so = behind ∙ ap (rules.after note) so_far.0

  leads : now ≡ after_all rules.after (rules.notes now) began
  leads = left_so ∙ sym (after_one rules.after noted note began) ∙ ap (λ (notes : List N). after_all rules.after notes began) (sym longer)

  -- the rendering of one more note
  more : told rules.after rendering began noted ++ rendering.of_note number note now ≡ told rules.after rendering began (rules.notes now)
  more =
      ap (λ n. told rules.after rendering began noted ++ rendering.of_note n note now) so_far.1
      ∙ ap (λ (w : W). told rules.after rendering began noted ++ rendering.of_note (number_after_notes 1 noted) note w) left_so
      ∙ sym (told_one rules.after rendering began noted note) ∙ ap (told rules.after rendering began) (sym longer)

  pub prints_one : (page' : List ℕ) (written' : Option (List ℕ)) → WritesText page written (rendering.of_note number note now) page' written' → Tells rules rendering began was now (number_after number) page' written'
  prints_one page' written' says = (
    leads,
    ap number_after so_far.1 ∙ sym (number_one 1 noted note) ∙ ap (number_after_notes 1) (sym longer),
    subst (λ text. SaidSoFar was page' written' text) more (says was (told rules.after rendering began noted) so_far.2),
  )

  pub prints_one_broken : (written' : Option (List ℕ)) → WritesPrefixOf page written (rendering.of_note number note now) written' → PrintsPrefixOf rules rendering began was (rules.notes now) written'
  prints_one_broken written' says = (says.0, subst (λ text. SaidSoFar was says.0 written' text) more (says.1 was (told rules.after rendering began noted) so_far.2))

-- ---- an event of several parts

-- one part more
module _ {F E N W : Type 0} (rules : Rules F E N W) (event : E) where
  pub begins_one : (left many : ℕ) (before mid now : W) → Begins rules event left many before mid → rules.Part event (left + many) true mid now → Begins rules event left (suc many) before now
  begins_one left zero before mid now h part =
      (now, subst (λ (w : W). rules.Part event left true w now) h (subst (λ (n : ℕ). rules.Part event n true mid now) (let e : left + 0 ≡ left = omega arith in e) part), refl)
  begins_one left (suc many) before mid now h part =
      let e : left + suc many ≡ suc left + many = omega arith in
      (h.0, h.1, begins_one (suc left) many h.0 mid now h.2 (subst (λ (n : ℕ). rules.Part event n true mid now) e part))

  -- the same from its beginning
  from_beginning : (left : ℕ) (before mid now : W) → Begins rules event 0 left before mid → rules.Part event left true mid now → Begins rules event 0 (suc left) before now
  from_beginning left before mid now h part =
      let e : left ≡ 0 + left = omega arith in
      begins_one 0 left before mid now h (subst (λ (n : ℕ). rules.Part event n true mid now) e part)

  -- a part of it after which a write failed
  part_written : (left : ℕ) (on : Bool) (before mid now : W) → Begins rules event 0 left before mid → rules.Part event left on mid now → ((many : ℕ) × Begins rules event 0 (suc many) before now) ⊎ Step rules event before now
  part_written left true before mid now h part = inl (left, from_beginning left before mid now h part)
  part_written left false before mid now h part = inr (left, mid, h, part)

  pub part_err : (left : ℕ) (before mid now : W) (fault : PlayFault) → Begins rules event 0 left before mid → DoesPart rules event left mid (Err fault) now → DoesEvent rules event before (Err fault) now
  part_err left before mid now OutOfMemory h does = (left, subst (λ (w : W). Begins rules event 0 left before w) (sym does) h)
  part_err left before mid now WriteFailed h does = part_written left does.0 before mid now h does.1
  part_err left before mid now ReadFailed h does = absurd does
  part_err left before mid now BadHosts h does = absurd does
  part_err left before mid now (BadLine line) h does = absurd does
  part_err left before mid now (LineTooLong line) h does = absurd does
  part_err left before mid now (Feed fault) h does = absurd does

  pub part_more : (left : ℕ) (on : Bool) (before mid now : W) → on ≡ true → Begins rules event 0 left before mid → rules.Part event left on mid now → Begins rules event 0 (left + 1) before now
  part_more left on before mid now e h part =
      let n : suc left ≡ left + 1 = omega arith in
      subst (λ (k : ℕ). Begins rules event 0 k before now) n (from_beginning left before mid now h (subst (λ (b : Bool). rules.Part event left b mid now) e part))

  pub part_last : (left : ℕ) (on : Bool) (before mid now : W) → on ≡ false → Begins rules event 0 left before mid → rules.Part event left on mid now → Step rules event before now
  part_last left on before mid now e h part = (left, mid, h, subst (λ (b : Bool). rules.Part event left b mid now) e part)

-- one note more
pub one_longer : {N : Type 0} (notes longer : List N) (note : N) → longer ≡ notes ++ note ∷ [] → length longer ≡ length notes + 1
one_longer notes longer note e = ap length e ∙ length-append notes (note ∷ [])
