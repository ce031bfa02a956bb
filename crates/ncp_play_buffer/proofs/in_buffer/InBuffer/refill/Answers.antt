use Rattle.std.proofs.Common.{◌≡◌, ◌++◌, ◌-◌, [], List, ℕ, length, take, subst, sym, ap, ◌∙◌, arith}
use Rattle.std.proofs.lemmas.List.{append-nil, length-take-le}
use Rattle.std.proofs.lemmas.Bool.Decides.{Decides-ltb}
use Rattle.std.proofs.lemmas.Result.{err_from_is_err_and}
use Rattle.ncp_play_stream.specs.Streams.{Moves}
use Rattle.ncp_play_buffer.proofs.Outcomes.{on_err_always}
use Rattle.ncp_play_buffer.proofs.InBuffers.{moves_read, moves_none, refilled, refused, beyond_kept, effort_kept, grown}
use Rattle.ncp_play_buffer.proofs.in_buffer.InBuffer.refill.Goals as goal

pub returns-clause-moved : goal.returns-clause-moved
returns-clause-moved g c =
    let n = c.self.inside.to - c.self.inside.from in
    let window : take n c.move_to_front.new.bytes ≡ c.args.self.now = c.move_to_front.ensures ∙ c.self.view_is in
    subst (λ (w : List ℕ). Moves c.args.self.now (g.S.Source.left c.args.source.now) w (g.S.Source.left c.read.new.self))
    (ap (λ (w : List ℕ). w ++ take c.in_ok-count.count c.read.new.piece) (sym window)
    ∙ sym (refilled c.move_to_front.new.bytes c.read.new.piece _ n c.in_ok-count.count (omega arith) (omega (arith, c.in_ok-count.ensures.count))))
    (moves_read c.args.self.now (take c.in_ok-count.count c.read.new.piece) (g.S.Source.left c.args.source.now) (g.S.Source.left c.read.new.self) c.in_ok-count.ensures.bytes.0)

pub returns-clause-grows : goal.returns-clause-grows
returns-clause-grows g c =
    let n = c.self.inside.to - c.self.inside.from in
    let window : take n c.move_to_front.new.bytes ≡ c.args.self.now = c.move_to_front.ensures ∙ c.self.view_is in (
      take c.in_ok-count.count c.read.new.piece,
      refilled c.move_to_front.new.bytes c.read.new.piece _ n c.in_ok-count.count (omega arith) (omega (arith, c.in_ok-count.ensures.count))
          ∙ ap (λ (w : List ℕ). w ++ take c.in_ok-count.count c.read.new.piece) window,
    )

pub returns-in_err-count-clause-moved : goal.returns-in_err-count-clause-moved
returns-in_err-count-clause-moved g c =
    subst (λ (w : List ℕ). Moves c.args.self.now (g.S.Source.left c.args.source.now) w (g.S.Source.left c.read.new.self))
    (sym (refused c.move_to_front.new.bytes _ (c.self.inside.to - c.self.inside.from) (omega arith) ∙ c.move_to_front.ensures ∙ c.self.view_is))
    (moves_none c.args.self.now (g.S.Source.left c.args.source.now) (g.S.Source.left c.read.new.self) c.in_err-count.ensures.bytes)

pub returns-in_err-count-clause-grows : goal.returns-in_err-count-clause-grows
returns-in_err-count-clause-grows g c =
    ([], refused c.move_to_front.new.bytes _ (c.self.inside.to - c.self.inside.from) (omega arith) ∙ c.move_to_front.ensures ∙ c.self.view_is ∙ sym (append-nil c.args.self.now))

pub returns-in_err-count-clause-err : goal.returns-in_err-count-clause-err
returns-in_err-count-clause-err g c =
    on_err_always c.from_residual.result (refused c.move_to_front.new.bytes _ (c.self.inside.to - c.self.inside.from) (omega arith) ∙ c.move_to_front.ensures ∙ c.self.view_is)

pub returns-in_err-count-clause-reads : goal.returns-in_err-count-clause-reads
returns-in_err-count-clause-reads g c =
    let window : length c.args.self.now ≡ c.self.inside.to - c.self.inside.from = sym (ap length (c.move_to_front.ensures ∙ c.self.view_is)) ∙ length-take-le (c.self.inside.to - c.self.inside.from) c.move_to_front.new.bytes (omega arith) in
    beyond_kept g.S.Source.gives_all (g.S.Source.reads c.args.source.now) (g.S.Source.reads c.read.new.self) (g.S.Source.left c.args.source.now) (g.S.Source.left c.read.new.self) c.in_err-count.ensures.bytes (c.read.ensures.lowers (omega arith))

pub returns-in_err-count-clause-read_measure : goal.returns-in_err-count-clause-read_measure
returns-in_err-count-clause-read_measure g c =
    let window : length c.args.self.now ≡ c.self.inside.to - c.self.inside.from = sym (ap length (c.move_to_front.ensures ∙ c.self.view_is)) ∙ length-take-le (c.self.inside.to - c.self.inside.from) c.move_to_front.new.bytes (omega arith) in
    effort_kept (g.S.Source.reads c.args.source.now) (g.S.Source.reads c.read.new.self) c.args.self.now _ (c.read.ensures.lowers (omega arith)) (refused c.move_to_front.new.bytes _ (c.self.inside.to - c.self.inside.from) (omega arith) ∙ c.move_to_front.ensures ∙ c.self.view_is)

pub returns-in_err-count-clause-mark : goal.returns-in_err-count-clause-mark
returns-in_err-count-clause-mark g c =
    let p = err_from_is_err_and c.from_residual.result c.from_residual.ensures.1 in
    rw p.1 c.in_err-count.ensures.mark

pub returns-clause-more : goal.returns-clause-more
unfolding returns-clause-grows
returns-clause-more g c = λ some.
    grown c.args.self.now c.read.new.piece _ c.in_ok-count.count (returns-clause-grows g c).1 (omega (arith, c.in_ok-count.ensures.count)) ((Decides-ltb 0 c.in_ok-count.count).0 some)

pub returns-clause-mark : goal.returns-clause-mark
returns-clause-mark g c = c.in_ok-count.ensures.mark

pub returns-in_err-count-clause-lowers : goal.returns-in_err-count-clause-lowers
returns-in_err-count-clause-lowers g c =
    let window : length c.args.self.now ≡ c.self.inside.to - c.self.inside.from = sym (ap length (c.move_to_front.ensures ∙ c.self.view_is)) ∙ length-take-le (c.self.inside.to - c.self.inside.from) c.move_to_front.new.bytes (omega arith) in
    c.read.ensures.lowers (omega arith)

pub returns-clause-lowers : goal.returns-clause-lowers
returns-clause-lowers g c =
    let window : length c.args.self.now ≡ c.self.inside.to - c.self.inside.from = sym (ap length (c.move_to_front.ensures ∙ c.self.view_is)) ∙ length-take-le (c.self.inside.to - c.self.inside.from) c.move_to_front.new.bytes (omega arith) in
    c.read.ensures.lowers (omega arith)
