-- Each error that is read is kept behind those before it.
use Rattle.std.proofs.Common.{◌≡◌, ℕ, ◌+◌, ◌-◌, ◌≤◌, ◌++◌, ◌∷◌, [], List, inl, inr, length, drop, length-append, refl, ap, ap₂, ◌∙◌, arith}
use Rattle.ncp_model.specs.declared.outcomes.Error.{Error}
use Rattle.ncp_model.specs.Echo.{Echoes, hear_err, last_errors}
use Rattle.ncp_saved.specs.Values.{listed, error_saved}
use Rattle.ncp_saved.proofs.Rows.{next_within}
use Rattle.ncp_phase.specs.Restoring.{HasAllData}
use Rattle.ncp_peer.proofs.ListRead.{at_mark, at_next, at_most}
use Rattle.ncp_peer.proofs.TableRead.{next_has}
use Rattle.ncp_peer.proofs.reading.read_errors.Goals as goal

-- none is dropped while they are few
kept : (errors : List Error) (error : Error) → length errors + 1 ≤ 16 → last_errors (errors ++ error ∷ []) ≡ errors ++ error ∷ []
kept errors error few =
    let n : length (errors ++ error ∷ []) ≡ length errors + 1 = length-append errors (error ∷ []) in
    let none : length (errors ++ error ∷ []) - 16 ≡ 0 = omega (arith, n, few) in
    ap (λ (k : ℕ). drop k (errors ++ error ∷ [])) none

pub returns-in_err-mark : goal.returns-in_err-mark
returns-in_err-mark c = record {
  reads = λ errors rest few whole none e.
      elim (at_mark error_saved errors rest c.loop-place.reader c.mark.new.self c.loop-place._place _ c.mark.result (c.loop-place.invariant errors rest few whole none e) c.mark.ensures.reads) [
        | inl end ↦ absurd (let was = c.in_err-mark.was in let is = end.0 in cc)
        | inr more ↦ absurd (let was = c.in_err-mark.was in let is = more.0 in cc)
      ];
}

pub returns-then-not-branch : goal.returns-then-not-branch
returns-then-not-branch c = record {
  reads = λ errors rest few whole none e.
      let at = c.loop-place.invariant errors rest few whole none e in
      elim (at_mark error_saved errors rest c.loop-place.reader c.mark.new.self c.loop-place._place _ c.mark.result at c.mark.ensures.reads) [
        | inl end ↦ (refl, at.holds ∙ ap (λ (xs : List Error). record c.args.echoes.now { errors = xs }) end.1, end.2)
        | inr more ↦ absurd (let was = c.in_ok-mark.was in let is = more.0 in let no = c.if-not-branch.true in cc)
      ];
}

pub returns-in_err-error : goal.returns-in_err-error
returns-in_err-error c = record {
  reads = λ errors rest few whole none e.
      let at = c.loop-place.invariant errors rest few whole none e in
      elim (at_mark error_saved errors rest c.loop-place.reader c.mark.new.self c.loop-place._place _ c.mark.result at c.mark.ensures.reads) [
        | inl end ↦ absurd (let was = c.in_ok-mark.was in let is = end.0 in let yes = c.if-not-branch.false in cc)
        | inr more ↦
            let next = more.1 in
            absurd (let read = c.error.ensures.reads next.next (listed error_saved next.others ++ rest) (next_has HasAllData errors at.done next.others next.next whole next.joined) next.bytes in let was = c.in_err-error.was in cc)
      ];
}

pub loop-place-preserved : goal.loop-place-preserved
loop-place-preserved c = λ errors rest few whole none e.
    let at = c.loop-place.invariant errors rest few whole none e in
    elim (at_mark error_saved errors rest c.loop-place.reader c.mark.new.self c.loop-place._place _ c.mark.result at c.mark.ensures.reads) [
      | inl end ↦ absurd (let was = c.in_ok-mark.was in let is = end.0 in let yes = c.if-not-branch.false in cc)
      | inr more ↦
          let next = more.1 in
          let read = c.error.ensures.reads next.next (listed error_saved next.others ++ rest) (next_has HasAllData errors at.done next.others next.next whole next.joined) next.bytes in
          let same : c.in_ok-error.field-0 ≡ next.next = (let was = c.in_ok-error.was in let is = read.0 in cc) in
          let within : length at.done + 1 ≤ 16 = (let n = next_within error_saved errors at.done rest c.mark.new.self next in omega (arith, n, few)) in
          at_next error_saved errors rest c.loop-place.reader c.mark.new.self c.error.new.self c.loop-place._place _ _ at next read.1
          (c.hear_err.ensures ∙ ap₂ (λ (error : Error) (s : Echoes). hear_err error s) same at.holds ∙ ap (λ (xs : List Error). record c.args.echoes.now { errors = xs }) (kept at.done next.next within))
    ]

pub returns : goal.returns
returns c = record {
  reads = λ errors rest few whole none e.
      let most = at_most error_saved errors rest c.loop-place.reader c.loop-place._place _ (c.loop-place.invariant errors rest few whole none e) in
      absurd (let n = c.loop-place-test.false in omega (arith, most, n, few));
}
