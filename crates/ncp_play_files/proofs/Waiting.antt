-- What is waited for, and that what goes out before it is paid.
use Rattle.std.proofs.Common.{◌≡◌, ℕ, ◌+◌, ◌-◌, ◌<◌, ◌≤◌, not, Bool, true, false, ltb, List, [], length, drop, Option, Result, Ok, Err, refl, sym, ap, ◌∙◌, arith, subst, le_trans}
use Rattle.std.proofs.Math.Bool.{and-false}
use Rattle.std.proofs.lemmas.List.{length-drop}
use Rattle.std.proofs.lemmas.Bool.{le-ltb}
use Rattle.byteorder.specs.Endian.{big_number}
use Rattle.ncp_numbers.specs.Bytes.{bytes_for}
use Rattle.ncp_play_stream.specs.Pieces.{bytes_and_writes, lost_pieces, unpaid, Paid}
use Rattle.ncp_play_files.specs.declared.file.FileFault.{FileFault}
use Rattle.ncp_play_files.specs.Results.{is_write, is_write_failed}
use Rattle.ncp_play_files.specs.Steps.{StandsWhole, said_nothing, unpaid_after, unpaid_out}
use Rattle.ncp_play_files.specs.Waiting.{lacks_message}

-- ---- what is lacking

-- a message that stands whole lacks nothing
pub whole_lacks_nothing : (front : ℕ) (window : List ℕ) (len : ℕ) → front ≤ length window → StandsWhole (drop front window) len → lacks_message front window ≡ false
whole_lacks_nothing front window len h k =
    let l : length (drop front window) ≡ length window - front = length-drop front window in
    let inside : front + 2 + bytes_for len ≤ length window = omega (arith, l, k.inside) in
    let head : ltb (length window) (front + 2) ≡ false = le-ltb _ _ (omega (arith, inside)) in
    let rest : ltb (length window) (front + 2 + bytes_for (big_number 2 (drop front window))) ≡ false =
    ap (λ n. ltb (length window) (front + 2 + bytes_for n)) (sym k.number) ∙ le-ltb _ _ inside in
    rw (head, rest) (and-false _)

-- a number that is not greater, and not the same
less_unless : (before now : ℕ) → now ≤ before → (now ≡ before → ⊥) → now < before
less_unless before now h k = grind (arith, h, k)

-- a record that came without a read was whole
pub waited_plain : (before now : ℕ) (window after : List ℕ) (len : ℕ) → now ≤ before → (now ≡ before → after ≡ window) → StandsWhole after len → lacks_message 0 window ≡ true → now < before
waited_plain before now window after len l unread whole lacks =
    less_unless before now l (λ same.
    let e : false ≡ true = sym (whole_lacks_nothing 0 window len (omega arith) (subst (λ w. StandsWhole w len) (unread same) whole)) ∙ lacks in
    absurd (let f : ⊥ = cc in f))

-- in version 2 behind its passage
pub waited_placed : (before mid now : ℕ) (window passed after : List ℕ) (len : ℕ) → now ≤ mid → mid ≤ before → (mid ≡ before → passed ≡ drop 2 window) → (now ≡ mid → after ≡ passed) → 2 ≤ length after → StandsWhole after len → lacks_message 2 window ≡ true
    → now < before
waited_placed before mid now window passed after len l m first second two whole lacks =
    less_unless before now (le_trans l m) (λ same.
    let stays : after ≡ drop 2 window = second (omega (arith, same, l, m)) ∙ first (omega (arith, same, l, m)) in
    let inside : 2 ≤ length window = omega (arith, two, ap length stays, length-drop 2 window) in
    let e : false ≡ true = sym (whole_lacks_nothing 2 window len inside (subst (λ w. StandsWhole w len) stays whole)) ∙ lacks in
    absurd (let f : ⊥ = cc in f))

-- ---- what is paid

module _ (full : Bool) (w0 w1 w2 : ℕ) (a b c : Option (List ℕ)) (r0 r1 : ℕ) (page1 page2 : List ℕ) where
  paid_err : (failed waits : Bool) → bytes_and_writes full w0 a ≤ bytes_and_writes full w1 b + unpaid_out (Ok tt) waits → bytes_and_writes full w1 b ≤ bytes_and_writes full w2 c + lost_pieces failed → r1 ≤ r0
      → (waits ≡ true → page1 ≡ []) → (not failed ≡ false → waits ≡ true → r1 < r0) → (not failed ≡ true → page2 ≡ page1) → Paid full w0 a r0 w2 c r1 (unpaid failed page2)
  paid_err true true h k l out waited kept = omega (arith, h, k, waited refl refl)
  paid_err true false h k l out waited kept = omega (arith, h, k, l)
  paid_err false true h k l out waited kept = let none : unpaid false page2 ≡ 4096 = ap (unpaid false) (kept refl ∙ out refl) in omega (arith, h, k, l, none)
  paid_err false false h k l out waited kept = omega (arith, h, k, l)

  -- something went out before more was waited for, and then this was said
  pub paid_on : (waits : Bool) (r : Result Bool FileFault) → bytes_and_writes full w0 a ≤ bytes_and_writes full w1 b + unpaid_out (Ok tt) waits → bytes_and_writes full w1 b ≤ bytes_and_writes full w2 c + lost_pieces (is_write_failed r) → r1 ≤ r0
      → (waits ≡ true → page1 ≡ []) → (said_nothing r ≡ false → waits ≡ true → r1 < r0) → (said_nothing r ≡ true → page2 ≡ page1) → Paid full w0 a r0 w2 c r1 (unpaid_after r page2)
  paid_on true (Ok true) h k l out waited kept = omega (arith, h, k, waited refl refl)
  paid_on false (Ok true) h k l out waited kept = omega (arith, h, k, l)
  paid_on true (Ok false) h k l out waited kept = let none : unpaid false page2 ≡ 4096 = ap (unpaid false) (kept refl ∙ out refl) in omega (arith, h, k, l, none)
  paid_on false (Ok false) h k l out waited kept = omega (arith, h, k, l)
  paid_on waits (Err fault) h k l out waited kept = paid_err (is_write fault) waits h k l out waited kept

-- what is left unpaid is paid where the page is written at last
pub paid_flushed : (full : Bool) (w0 w1 w2 : ℕ) (a b c : Option (List ℕ)) (r0 r1 : ℕ) (page : List ℕ) → Paid full w0 a r0 w1 b r1 (unpaid false page)
    → bytes_and_writes full w1 b + unpaid false page ≤ bytes_and_writes full w2 c + lost_pieces true → Paid full w0 a r0 w2 c r1 8192
paid_flushed full w0 w1 w2 a b c r0 r1 page h k = omega (arith, h, k)
