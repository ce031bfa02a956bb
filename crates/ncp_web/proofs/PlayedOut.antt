-- A line that is played note by note to its end.
use Rattle.std.proofs.Common.{◌≡◌, ◌∙◌, ℕ, zero, suc, ◌+◌, List, Some, true, false, sym, subst, arith}
use Rattle.ncp_play_script.specs.Words.{words_of}
use Rattle.ncp_play_simulation.specs.Rules.{Rules, Begins}
use Rattle.ncp_play_simulation.specs.Printing.{Rendering}
use Rattle.ncp_web.specs.Sessions.{GoesOn, PlaysOut, IsDone}

module _ {F E N W : Type 0} (rules : Rules F E N W) (rendering : Rendering N W) (first : F) (line : List ℕ) where
  same_event : (event other : E) → rules.reads first (words_of line) ≡ Some event → rules.reads first (words_of line) ≡ Some other → other ≡ event
  same_event event other one two =
      let both : Some other ≡ Some event = sym two ∙ one in
      let same : other ≡ event = cc in
      same

  -- behind so many notes it has begun
  begun : (event : E) → rules.reads first (words_of line) ≡ Some event → (many left : ℕ) (before : W) (left' : ℕ) (now : W) → GoesOn rules rendering first line many left before left' now
      → Begins rules event left many before now × (left' ≡ left + many)
  begun event reads zero left before left' now h = (h.1, let same = h.0 in omega (arith, same))
  begun event reads (suc many) left before left' now h =
      let happens = h.3.1 in
      let counted = h.3.2 in
      let part = subst (λ (e : E). rules.Part e left true before h.1) (same_event event happens.0 reads happens.1) happens.2.0 in
      let more = begun event reads many h.0 h.1 left' now h.4 in
      let behind = more.1 in
      let next : h.0 ≡ suc left = omega (arith, counted) in
      ((h.1, part, subst (λ (n : ℕ). Begins rules event n many h.1 now) next more.0), omega (arith, counted, behind))

  pub played_out : (before now : W) → PlaysOut rules rendering first line before now → IsDone rules first line before now
  played_out before now p =
      let happens = p.5.1 in
      let all = begun happens.0 happens.1 p.0 0 before p.1 p.2 p.4 in
      let behind = all.1 in
      let count : p.1 ≡ p.0 = omega (arith, behind) in
      (happens.0, happens.1, (p.0, p.2, all.0, subst (λ (n : ℕ). rules.Part happens.0 n false p.2 now) count happens.2.0))
