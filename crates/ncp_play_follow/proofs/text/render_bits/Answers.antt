use Rattle.std.proofs.Common.{◌≡◌, ◌∙◌, ◌+◌, ◌-◌, ◌++◌, List, Bool, ℕ, length, ap, arith}
use Rattle.std.specs.Prelude.{slice_range}
use Rattle.std.proofs.lemmas.List.{append_assoc}
use Rattle.ncp_numbers.specs.Bytes.{bytes_of}
use Rattle.ncp_play_stream.proofs.Saying.{writes_line, answers_no_room}
use Rattle.ncp_play_follow.specs.FollowedTexts.{whole_bits, bits_left_over}
use Rattle.ncp_play_follow.proofs.SaidTexts.{in_two, two_parts}
use Rattle.ncp_play_follow.proofs.text.render_bits.Goals as goal

pub returns-in_err-make_room-clause-output : goal.returns-in_err-make_room-clause-output
returns-in_err-make_room-clause-output g c =
    let w = g.W.Sink in
    answers_no_room c.args.out.now.page.now (bytes_of (whole_bits (c.args.spare.now ++ c.args.text.now))) (w.written c.args.out.now.sink.now) (w.written c.make_room.new.self.sink.now) c.make_room.new.self.page.now c.from_residual.result c.from_residual.ensures.0 c.in_err-make_room.ensures.err

pub returns-clause-output : goal.returns-clause-output
returns-clause-output g c =
    let w = g.W.Sink in let text = c.args.text.now in let spare = c.args.spare.now in
    let first = c.slice.result in let second = c.slice-2.result in
    let n = c.min-front.result in let m = c.len-2.result - n in
    let both : n + m ≡ length text = omega (arith, c.min-front.ensures, c.len.ensures.len, c.len-2.ensures.len) in
    let parts : first ++ second ≡ text =
    ap (λ (xs : List Bool). xs ++ second) c.slice.ensures.bits ∙ ap (λ (xs : List Bool). slice_range text 0 (0 + n) ++ xs) c.slice-2.ensures.bits ∙ two_parts text n m both in
    let page = c.make_room.new.self.page.now in
    let put : c.push-2.new.page ≡ page ++ bytes_of (whole_bits (spare ++ text)) =
    c.push-2.ensures.bytes
    ∙ ap (λ (xs : List Bool). c.push.new.page ++ bytes_of (whole_bits (xs ++ second))) c.push.ensures.spare
    ∙ ap (λ (xs : List ℕ). xs ++ bytes_of (whole_bits (bits_left_over (spare ++ first) ++ second))) c.push.ensures.bytes
    ∙ append_assoc page (bytes_of (whole_bits (spare ++ first))) (bytes_of (whole_bits (bits_left_over (spare ++ first) ++ second)))
    ∙ ap (λ (xs : List ℕ). page ++ xs) (in_two spare first second).0
    ∙ ap (λ (xs : List Bool). page ++ bytes_of (whole_bits (spare ++ xs))) parts in
    writes_line c.args.out.now.page.now page c.push-2.new.page (bytes_of (whole_bits (spare ++ text))) (w.written c.args.out.now.sink.now) (w.written c.make_room.new.self.sink.now) c.in_ok-make_room.ensures.ok put

pub returns-clause-spare : goal.returns-clause-spare
returns-clause-spare g c =
    let text = c.args.text.now in let spare = c.args.spare.now in
    let first = c.slice.result in let second = c.slice-2.result in
    let n = c.min-front.result in let m = c.len-2.result - n in
    let both : n + m ≡ length text = omega (arith, c.min-front.ensures, c.len.ensures.len, c.len-2.ensures.len) in
    let parts : first ++ second ≡ text =
    ap (λ (xs : List Bool). xs ++ second) c.slice.ensures.bits ∙ ap (λ (xs : List Bool). slice_range text 0 (0 + n) ++ xs) c.slice-2.ensures.bits ∙ two_parts text n m both in
    c.push-2.ensures.spare ∙ ap (λ (xs : List Bool). bits_left_over (xs ++ second)) c.push.ensures.spare ∙ (in_two spare first second).1 ∙ ap (λ (xs : List Bool). bits_left_over (spare ++ xs)) parts
