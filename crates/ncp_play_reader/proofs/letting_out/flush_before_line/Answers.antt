use Rattle.std.proofs.Common.{◌≡◌, ◌++◌, ◌∙◌, ◌||◌, [], List, ℕ, subst, sym}
use Rattle.std.proofs.Math.Bool.{or-false}
use Rattle.std.proofs.lemmas.List.{append-nil}
use Rattle.ncp_play_stream.specs.Streams.{SaidSoFar}
use Rattle.ncp_play_reader.proofs.letting_out.flush_before_line.Goals as goal

pub returns-then-has_line-clause-ok : goal.returns-then-has_line-clause-ok
returns-then-has_line-clause-ok g c = λ was said told. told

pub returns-in-Ok-clause-ok : goal.returns-in-Ok-clause-ok
returns-in-Ok-clause-ok g c = λ was said told.
    subst (λ (text : List ℕ). SaidSoFar was c.flush.new.self.page.now (g.W.Sink.written c.flush.new.self.sink.now) text) (append-nil said) (c.in-Ok.ensures.ok.1 was said told)

pub returns-in-Err-clause-err : goal.returns-in-Err-clause-err
returns-in-Err-clause-err g c =
    (c.in-Err.ensures.err.0, λ was said told. subst (λ (text : List ℕ). SaidSoFar was c.in-Err.ensures.err.0 (g.W.Sink.written c.flush.new.self.sink.now) text) (append-nil said) (c.in-Err.ensures.err.1 was said told))
