use Rattle.std.proofs.Common.{◌≡◌, refl, sym, ap, ◌∙◌, true, false}
use Rattle.ncp_model.specs.Endpoint.{Endpoint, is_closing}
use Rattle.ncp_model.specs.Rows.{opened_end, gone}
use Rattle.ncp_proof_recovery.proofs.rows.what_is_called_back.Goals as goal

pub returns-clause-unanswered : goal.returns-clause-unanswered
returns-clause-unanswered c f = cc (f opened_end (record opened_end { recall = true }) refl refl refl refl)

pub returns-clause-late : goal.returns-clause-late
returns-clause-late c = λ e f p q s r. let x : gone opened_end ≡ e = cc p in absurd (cc (ap (λ (e : Endpoint). is_closing e) x ∙ s))
