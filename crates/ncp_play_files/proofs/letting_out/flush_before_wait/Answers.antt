use Rattle.std.proofs.Common.{List, ℕ, subst, refl}
use Rattle.std.proofs.lemmas.List.{append-nil}
use Rattle.ncp_play_stream.specs.Streams.{SaidSoFar}
use Rattle.ncp_play_files.proofs.letting_out.flush_before_wait.Goals as goal

pub returns-in-Ok-clause-output : goal.returns-in-Ok-clause-output
returns-in-Ok-clause-output g c = λ was said told.
    subst (λ (text : List ℕ). SaidSoFar was c.flush.new.self.page.now (g.W.Sink.written c.flush.new.self.sink.now) text) (append-nil said) (c.in-Ok.ensures.ok.1 was said told)

pub returns-in-Err-clause-output : goal.returns-in-Err-clause-output
returns-in-Err-clause-output g c =
    (refl, c.in-Err.ensures.err.0, λ was said told. subst (λ (text : List ℕ). SaidSoFar was c.in-Err.ensures.err.0 (g.W.Sink.written c.flush.new.self.sink.now) text) (append-nil said) (c.in-Err.ensures.err.1 was said told))
