use Rattle.std.proofs.Common.{◌≡◌, ◌∙◌, ◌++◌, List, Bool, ap}
use Rattle.ncp_numbers.specs.Bytes.{bytes_of}
use Rattle.ncp_play_follow.specs.FollowedTexts.{whole_bits, bits_left_over}
use Rattle.ncp_play_follow.proofs.SaidTexts.{front_run, back_run}
use Rattle.ncp_play_follow.proofs.text.Spare.push.Goals as goal

pub returns-clause-bytes : goal.returns-clause-bytes
returns-clause-bytes c =
    let all = c.append.new.self in
    let joined : all ≡ c.args.self.now ++ c.args.text =
    (rw c.unwrap.ensures at c.append.ensures.ok) ∙ ap (λ (xs : List Bool). xs ++ c.args.text) c.self.view_is in
    c.push_part.ensures.bytes ∙ ap (λ (xs : List Bool). c.args.page.now ++ bytes_of xs) (c.slice.ensures.bits ∙ front_run all c.len.result c.len.ensures.len ∙ ap whole_bits joined)

pub returns-clause-spare : goal.returns-clause-spare
returns-clause-spare c =
    let all = c.append.new.self in
    let joined : all ≡ c.args.self.now ++ c.args.text =
    (rw c.unwrap.ensures at c.append.ensures.ok) ∙ ap (λ (xs : List Bool). xs ++ c.args.text) c.self.view_is in
    c.to_bits-self-inside.ensures ∙ c.slice-2.ensures.bits ∙ back_run all c.len.result c.len-2.result c.len.ensures.len c.len-2.ensures.len ∙ ap bits_left_over joined
