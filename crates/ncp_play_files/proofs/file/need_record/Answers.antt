use Rattle.std.proofs.Common.{◌≡◌, ◌≤◌, ◌++◌, ◌||◌, length, sym, ap, ◌∙◌, arith}
use Rattle.std.proofs.Math.Bool.{or-false}
use Rattle.std.proofs.lemmas.List.{length-append}
use Rattle.std.proofs.lemmas.Result.{err_from_is_err_and}
use Rattle.byteorder.specs.Endian.{big_number}
use Rattle.byteorder.specs.Numbers.{big_from-append}
use Rattle.ncp_play_files.specs.File.{next_record}
use Rattle.ncp_play_files.proofs.Files.{next_too_long}
use Rattle.ncp_play_files.proofs.file.need_record.Goals as goal

pub returns-in_err-len-clause-output : goal.returns-in_err-len-clause-output
returns-in_err-len-clause-output g c = λ bytes a.
    let p = err_from_is_err_and c.from_residual.result c.from_residual.ensures.1 in
    let there : 2 ≤ length c.args.input.now.window.now = omega (arith, ap length c.unread.ensures.bytes) in
    let len : big_number 2 c.unread-2.result.now ≡ big_number 2 c.args.input.now.window.now = ap (big_number 2) c.unread-2.ensures.bytes in
    rw (p.1, p.2, c.in_err-len.ensures.err.0) (
    ap next_record (sym a.2)
    ∙ next_too_long (c.args.input.now.window.now ++ a.0) (big_number 2 c.unread-2.result.now) (simp length-append (omega arith)) (len ∙ sym (big_from-append 2 c.args.input.now.window.now a.0 there)) c.in_err-len.ensures.err.1)

pub returns-in_err-len-clause-mark : goal.returns-in_err-len-clause-mark
returns-in_err-len-clause-mark g c =
    let p = err_from_is_err_and c.from_residual.result c.from_residual.ensures.1 in
    rw (p.1, p.2) (sym (or-false _) ∙ ap (λ b. g.S.Source.has_failed c.args.input.now.source.now || b) (sym c.in_err-len.ensures.read))

pub returns-in_err-len-clause-other : goal.returns-in_err-len-clause-other
returns-in_err-len-clause-other g c =
    let p = err_from_is_err_and c.from_residual.result c.from_residual.ensures.1 in
    rw (p.1, p.2) c.in_err-len.ensures.write
