-- One trace more: a note behind the notes, or a mark behind all of them. And the last of all.
use Rattle.std.proofs.Common.{◌≡◌, ◌≤◌, ℕ, zero, suc, ◌+◌, ◌-◌, Bool, ◌||◌, List, [], ◌∷◌, ◌++◌, map, take, drop, length, get_or, Some, None, option_map, refl, sym, ap, ◌∙◌, arith}
use Rattle.std.specs.Prelude.{slice_get}
use Rattle.std.specs.List.{list_any}
use Rattle.std.proofs.lemmas.List.{map-append, append_assoc, append-nil, take-append-le, drop-append-le, length-append, length-map, length-drop, take-append-drop}
use Rattle.std.proofs.lemmas.Option.{same_Some}
use Rattle.std.proofs.Math.Seq.{take-length, drop-length, get_or-append_seam}
use Rattle.ncp_play_world_lines.specs.declared.settling.ScriptNote.{ScriptNote}
use Rattle.ncp_play_world_lines.specs.declared.settling.ScriptNote.TheVariants.{Noted, Settled}
use Rattle.ncp_play_world.specs.declared.marks.Mark.{Mark}
use Rattle.ncp_play_world.specs.Traces.{traces_of, notes_marked, last_word, last_marked, notes_in, IsLast, is_trace_refusal}

-- ---- marks

-- one mark more
pub notes_marked_more : (marks : List Mark) (mark : Mark) → notes_marked (marks ++ mark ∷ []) ≡ notes_marked marks + mark.behind
notes_marked_more [] mark = omega (arith)
notes_marked_more (first ∷ marks) mark = let rest = notes_marked_more marks mark in omega (arith, rest)

-- the last of all
pub last_word_at : (marks : List Mark) → last_word marks ≡ option_map (λ (mark : Mark). mark.many) (slice_get marks (length marks - 1))
last_word_at [] = refl
last_word_at (mark ∷ []) = refl
last_word_at (mark ∷ next ∷ marks) =
    let rest = last_word_at (next ∷ marks) in
    let place : length (next ∷ marks) ≡ suc (length (next ∷ marks) - 1) = omega arith in
    let more : length (mark ∷ next ∷ marks) - 1 ≡ length (next ∷ marks) = omega arith in
    rest ∙ sym (ap (λ (n : ℕ). option_map (λ (m : Mark). m.many) (slice_get (mark ∷ next ∷ marks) n)) (more ∙ place))

pub last_of_all : (marks : List Mark) (since : ℕ) (mark : Mark) → Some mark ≡ slice_get marks (length marks - 1) → since ≡ 0 → Some mark.many ≡ last_marked marks since
last_of_all marks since mark at none = ap (option_map (λ (m : Mark). m.many)) at ∙ sym (last_word_at marks) ∙ ap (last_marked marks) (sym none)

-- no word is the last
no_word : (marks : List Mark) → None ≡ last_word marks → marks ≡ []
no_word [] last = refl
no_word (mark ∷ []) last = absurd (cc)
no_word (mark ∷ next ∷ marks) last = let none = no_word (next ∷ marks) last in absurd (cc)

-- so the marks stand before the last note
few_marked : (marks : List Mark) (since before : ℕ) → notes_marked marks + since ≡ before + 1 → None ≡ last_marked marks since → notes_marked marks ≤ before
few_marked marks zero before e last = let none = ap notes_marked (no_word marks last) in omega (arith, e, none)
few_marked marks (suc since) before e last = omega (arith, e)

module _ {A : Type 0} where
  -- one longer
  pub one_more : (all before : List A) (item : A) → all ≡ before ++ item ∷ [] → length all ≡ length before + 1
  one_more all before item e = ap length e ∙ length-append before (item ∷ [])

  -- the last of a list is one
  last_is : (all before : List A) (item it : A) → all ≡ before ++ item ∷ [] → it ≡ get_or all (length all - 1) it → it ≡ item
  last_is all before item it e at =
      let longer = one_more all before item e in
      let place : length all - 1 ≡ length before = omega (arith, longer) in
      at ∙ ap (λ n. get_or all n it) place ∙ ap (λ xs. get_or xs (length before) it) e ∙ get_or-append_seam before item [] it

  pub same_last : (all before others : List A) (item it : A) → all ≡ before ++ item ∷ [] → all ≡ others ++ it ∷ [] → it ≡ item
  same_last all before others item it e f =
      let longer = one_more all others it f in
      let place : length all - 1 ≡ length others = omega (arith, longer) in
      last_is all before item it e (sym (ap (λ n. get_or all n it) place ∙ ap (λ xs. get_or xs (length others) it) f ∙ get_or-append_seam others it [] it))

  -- the item at the last place stands behind the others
  pub after_others : (all : List A) (item : A) → Some item ≡ slice_get all (length all - 1) → (before : List A) × (all ≡ before ++ item ∷ [])
  after_others [] item e = absurd (cc)
  after_others (one ∷ []) item e = ([], ap (λ (x : A). x ∷ []) (sym (same_Some item one e)))
  after_others (one ∷ next ∷ rest) item e =
      let place : length (next ∷ rest) ≡ suc (length (next ∷ rest) - 1) = omega arith in
      let more : length (one ∷ next ∷ rest) - 1 ≡ length (next ∷ rest) = omega arith in
      let last = after_others (next ∷ rest) item (e ∙ ap (slice_get (one ∷ next ∷ rest)) (more ∙ place)) in
      (one ∷ last.0, ap (λ (xs : List A). one ∷ xs) last.1)

  -- where there is none, there is nothing
  pub none_at_all : (all : List A) → None ≡ slice_get all (length all - 1) → all ≡ []
  none_at_all [] e = refl
  none_at_all (one ∷ []) e = absurd (cc)
  none_at_all (one ∷ next ∷ rest) e =
      let place : length (next ∷ rest) ≡ suc (length (next ∷ rest) - 1) = omega arith in
      let more : length (one ∷ next ∷ rest) - 1 ≡ length (next ∷ rest) = omega arith in
      let none = none_at_all (next ∷ rest) (e ∙ ap (slice_get (one ∷ next ∷ rest)) (more ∙ place)) in
      absurd (cc)

module _ {N : Type 0} where
  -- ---- what lines have left, from notes and marks

  -- what is left behind a mark
  left_after : (notes : List N) (mark : Mark) (rest : ℕ) → mark.behind + rest ≤ length notes → rest ≤ length (drop mark.behind notes)
  left_after notes mark rest l = let len = length-drop mark.behind notes in omega (arith, l, len)

  pub traces_note : (notes : List N) (note : N) (marks : List Mark) → notes_marked marks ≤ length notes → traces_of (notes ++ note ∷ []) marks ≡ traces_of notes marks ++ Noted note ∷ []
  traces_note notes note [] l = map-append Noted notes (note ∷ [])
  traces_note notes note (mark ∷ marks) l =
      let one : mark.behind ≤ length notes = omega (arith, l) in
      let kept : take mark.behind (notes ++ note ∷ []) ≡ take mark.behind notes = take-append-le mark.behind notes (note ∷ []) one in
      let rest : drop mark.behind (notes ++ note ∷ []) ≡ drop mark.behind notes ++ note ∷ [] = drop-append-le mark.behind notes (note ∷ []) one in
      let first : List (ScriptNote N) = map Noted (take mark.behind notes) in
      ap (λ (xs : List N). map Noted xs ++ Settled mark.many ∷ traces_of (drop mark.behind (notes ++ note ∷ [])) marks) kept
      ∙ ap (λ (xs : List N). first ++ Settled mark.many ∷ traces_of xs marks) rest
      ∙ ap (λ (ts : List (ScriptNote N)). first ++ Settled mark.many ∷ ts) (traces_note (drop mark.behind notes) note marks (left_after notes mark (notes_marked marks) l))
      ∙ sym (append_assoc first (Settled mark.many ∷ traces_of (drop mark.behind notes) marks) (Noted note ∷ []))

  pub traces_mark : (notes : List N) (mark : Mark) (marks : List Mark) → notes_marked marks + mark.behind ≡ length notes → traces_of notes (marks ++ mark ∷ []) ≡ traces_of notes marks ++ Settled mark.many ∷ []
  traces_mark notes mark [] e =
      let all : mark.behind ≡ length notes = omega (arith, e) in
      ap (λ (n : ℕ). map Noted (take n notes) ++ Settled mark.many ∷ map Noted (drop n notes)) all
      ∙ ap (λ (xs : List N). map Noted xs ++ Settled mark.many ∷ map Noted (drop (length notes) notes)) (take-length notes)
      ∙ ap (λ (xs : List N). map Noted notes ++ Settled mark.many ∷ map Noted xs) (drop-length notes)
  traces_mark notes mark (first ∷ marks) e =
      let len = length-drop first.behind notes in
      let rest : notes_marked marks + mark.behind ≡ length (drop first.behind notes) = omega (arith, e, len) in
      let front : List (ScriptNote N) = map Noted (take first.behind notes) in
      ap (λ (ts : List (ScriptNote N)). front ++ Settled first.many ∷ ts) (traces_mark (drop first.behind notes) mark marks rest)
      ∙ sym (append_assoc front (Settled first.many ∷ traces_of (drop first.behind notes) marks) (Settled mark.many ∷ []))

  -- how many there are
  pub length-traces : (notes : List N) (marks : List Mark) → length (traces_of notes marks) ≡ length notes + length marks
  length-traces notes [] = let len = length-map notes (λ (note : N). Noted note) in omega (arith, len)
  length-traces notes (mark ∷ marks) =
      let front : List (ScriptNote N) = map Noted (take mark.behind notes) in
      let rest : List (ScriptNote N) = traces_of (drop mark.behind notes) marks in
      let kept = length-map (take mark.behind notes) (λ (note : N). Noted note) in
      let both = ap length (take-append-drop mark.behind notes) in
      let parts = length-append (take mark.behind notes) (drop mark.behind notes) in
      let all = length-append front (Settled mark.many ∷ rest) in
      let behind = length-traces (drop mark.behind notes) marks in
      omega (arith, kept, both, parts, all, behind)

  in_noted : (notes : List N) (traces : List (ScriptNote N)) → notes_in (map Noted notes ++ traces) ≡ notes ++ notes_in traces
  in_noted [] traces = refl
  in_noted (note ∷ notes) traces = ap (λ (ns : List N). note ∷ ns) (in_noted notes traces)

  -- the notes are those of all traces
  pub notes_again : (notes : List N) (marks : List Mark) → notes_in (traces_of notes marks) ≡ notes
  notes_again notes [] =
      let all : map Noted notes ≡ map Noted notes ++ [] = sym (append-nil (map Noted notes)) in
      ap (λ (ts : List (ScriptNote N)). notes_in ts) all ∙ in_noted notes [] ∙ append-nil notes
  notes_again notes (mark ∷ marks) =
      in_noted (take mark.behind notes) (Settled mark.many ∷ traces_of (drop mark.behind notes) marks)
      ∙ ap (λ (ns : List N). take mark.behind notes ++ ns) (notes_again (drop mark.behind notes) marks) ∙ take-append-drop mark.behind notes

  -- a call was refused, of which there is a note
  pub any_in : (refused : N → Bool) (traces : List (ScriptNote N)) → list_any (is_trace_refusal refused) traces ≡ list_any refused (notes_in traces)
  any_in refused [] = refl
  any_in refused (Noted note ∷ traces) = ap (λ (b : Bool). refused note || b) (any_in refused traces)
  any_in refused (Settled many ∷ traces) = any_in refused traces

  -- ---- the last

  -- a word, behind which no note stands
  word_last : (notes : List N) (marks : List Mark) (many : ℕ) → notes_marked marks ≡ length notes → Some many ≡ last_word marks → IsLast (Settled many) (traces_of notes marks)
  word_last notes [] many e last = absurd (cc)
  word_last notes (mark ∷ []) many e last = (map Noted notes, traces_mark notes mark [] (omega (arith, e)) ∙ ap (λ (n : ℕ). map Noted notes ++ Settled n ∷ []) (sym (same_Some many mark.many last)))
  word_last notes (mark ∷ next ∷ marks) many e last =
      let len = length-drop mark.behind notes in
      let front : List (ScriptNote N) = map Noted (take mark.behind notes) in
      let rest = word_last (drop mark.behind notes) (next ∷ marks) many (omega (arith, e, len)) last in (
        front ++ Settled mark.many ∷ rest.0,
        ap (λ (ts : List (ScriptNote N)). front ++ Settled mark.many ∷ ts) rest.1 ∙ sym (append_assoc front (Settled mark.many ∷ rest.0) (Settled many ∷ [])),
      )

  pub settled_last : (notes : List N) (marks : List Mark) (since many : ℕ) → notes_marked marks + since ≡ length notes → Some many ≡ last_marked marks since → IsLast (Settled many) (traces_of notes marks)
  settled_last notes marks zero many e last = word_last notes marks many (omega (arith, e)) last
  settled_last notes marks (suc since) many e last = absurd (cc)

  pub noted_last : (notes : List N) (marks : List Mark) (since : ℕ) (note : N) → notes_marked marks + since ≡ length notes → None ≡ last_marked marks since → Some note ≡ slice_get notes (length notes - 1) → IsLast (Noted note) (traces_of notes marks)
  noted_last notes marks since note e last at =
      let others = after_others notes note at in
      let longer = one_more notes others.0 note others.1 in
      (traces_of others.0 marks, ap (λ (ns : List N). traces_of ns marks) others.1 ∙ traces_note others.0 note marks (few_marked marks since (length others.0) (e ∙ longer) last))

  pub none_last : (notes : List N) (marks : List Mark) (since : ℕ) → notes_marked marks + since ≡ length notes → None ≡ last_marked marks since → None ≡ slice_get notes (length notes - 1) → traces_of notes marks ≡ []
  none_last notes marks zero e last at = ap (λ (ns : List N). traces_of ns marks) (none_at_all notes at) ∙ ap (λ (ms : List Mark). traces_of {N = N} [] ms) (no_word marks last)
  none_last notes marks (suc since) e last at = let none = ap length (none_at_all notes at) in absurd (omega (arith, e, none))
