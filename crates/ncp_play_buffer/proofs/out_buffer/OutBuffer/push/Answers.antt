use Rattle.std.proofs.Common.{◌≡◌, ◌++◌, [], ◌∷◌, length, List, ℕ, sym, ap, ◌∙◌, arith}
use Rattle.std.proofs.lemmas.List.{length-take-le, take_more_set}
use Rattle.ncp_play_buffer.proofs.out_buffer.OutBuffer.push.Goals as goal

pub returns-clause-bytes : goal.returns-clause-bytes
returns-clause-bytes c =
    let l : c.self.inside.len ≡ length c.args.self.now = sym (length-take-le c.self.inside.len c.self.inside.bytes (omega arith)) ∙ ap length c.self.view_is in
    take_more_set c.self.inside.bytes c.self.inside.len c.args.byte (omega arith) ∙ ap (λ (page : List ℕ). page ++ c.args.byte ∷ []) c.self.view_is
