use Rattle.std.proofs.Common.{◌≡◌, ℕ, ◌==◌, true, false, refl, sym, ap, ◌∙◌}
use Rattle.std.specs.List.{list_any}
use Rattle.ncp_peer.specs.declared.received.Received.TheVariants as received
use Rattle.ncp_statement.specs.Statement.{is_err}
use Rattle.ncp_statement.proofs.examples.complaints_are_seen.Goals as goal

not_false : true ≡ false → ⊥
not_false e = absurd (cc)

not_read : (n : ℕ) → received.WrongSize ≡ received.Control n → ⊥
not_read n e = absurd (cc)

pub returns-clause-read : goal.returns-clause-read
returns-clause-read c m = (λ z. refl, (λ z. absurd (cc z), tt))

pub returns-clause-unread : goal.returns-clause-unread
returns-clause-unread c m t = not_read _ (t.0 refl)

pub returns-clause-over : goal.returns-clause-over
returns-clause-over c m t = not_false t.0

pub returns-clause-size : goal.returns-clause-size
returns-clause-size c m t = not_false t.0

pub returns-clause-not_open : goal.returns-clause-not_open
returns-clause-not_open c m t = not_false t.0

pub returns-clause-err : goal.returns-clause-err
returns-clause-err c m code bytes cs zero e t = not_false (sym (ap (list_any is_err) e) ∙ t.0 (ap (λ (n : ℕ). n == 0) zero))

pub returns-clause-late : goal.returns-clause-late
returns-clause-late c m = (refl, tt)
