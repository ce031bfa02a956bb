use Rattle.std.proofs.Common.{◌≡◌, ◌∷◌, Ok}
use Rattle.ncp_saved.specs.Values.{mark}
use Rattle.ncp_peer.proofs.reading.read_marks.Goals as goal

pub returns-in_err-mark-3 : goal.returns-in_err-mark-3
returns-in_err-mark-3 c = record {
  reads = λ m rest e.
      let first = c.mark.ensures.reads m.0 (mark m.1 ∷ mark m.2 ∷ mark m.3 ∷ rest) e in
      let second = c.mark-2.ensures.reads m.1 (mark m.2 ∷ mark m.3 ∷ rest) first.1 in
      let third = c.mark-3.ensures.reads m.2 (mark m.3 ∷ rest) second.1 in
      absurd (let was = c.in_err-mark-3.was in let read = third.0 in cc);
}

pub returns-in_err-mark-4 : goal.returns-in_err-mark-4
returns-in_err-mark-4 c = record {
  reads = λ m rest e.
      let first = c.mark.ensures.reads m.0 (mark m.1 ∷ mark m.2 ∷ mark m.3 ∷ rest) e in
      let second = c.mark-2.ensures.reads m.1 (mark m.2 ∷ mark m.3 ∷ rest) first.1 in
      let third = c.mark-3.ensures.reads m.2 (mark m.3 ∷ rest) second.1 in
      let fourth = c.mark-4.ensures.reads m.3 rest third.1 in
      absurd (let was = c.in_err-mark-4.was in let read = fourth.0 in cc);
}

pub returns : goal.returns
returns c = record {
  reads = λ m rest e.
      let first = c.mark.ensures.reads m.0 (mark m.1 ∷ mark m.2 ∷ mark m.3 ∷ rest) e in
      let second = c.mark-2.ensures.reads m.1 (mark m.2 ∷ mark m.3 ∷ rest) first.1 in
      let third = c.mark-3.ensures.reads m.2 (mark m.3 ∷ rest) second.1 in
      let fourth = c.mark-4.ensures.reads m.3 rest third.1 in
      let a : c.in_ok-mark.field-0 ≡ m.0 = (let was = c.in_ok-mark.was in let read = first.0 in cc) in
      let b : c.in_ok-mark-2.field-0 ≡ m.1 = (let was = c.in_ok-mark-2.was in let read = second.0 in cc) in
      let d : c.in_ok-mark-3.field-0 ≡ m.2 = (let was = c.in_ok-mark-3.was in let read = third.0 in cc) in
      let f : c.in_ok-mark-4.field-0 ≡ m.3 = (let was = c.in_ok-mark-4.was in let read = fourth.0 in cc) in
      (λ i. Ok (a i, b i, d i, f i), fourth.1);
}
