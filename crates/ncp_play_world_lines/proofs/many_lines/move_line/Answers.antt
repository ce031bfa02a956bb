use Rattle.std.proofs.Common.{ℕ, List, Some, refl, sym, ap, ◌∙◌}
use Rattle.ncp_play_script.specs.Words.{number_first, largest_u8}
use Rattle.ncp_play_script.specs.Calls.{Read, behind, all_of}
use Rattle.ncp_transcript_many.specs.ManyHappening.{wanted_of}
use Rattle.ncp_transcript_many.specs.declared.many_event.ManyEvent.{ManyEvent}
use Rattle.ncp_play_world_lines.proofs.many_lines.move_line.Goals as goal

pub returns-then-is_empty : goal.returns-then-is_empty
returns-then-is_empty c =
    let moved : ℕ → ℕ → List (List ℕ) → Read ManyEvent = λ to link words. Some (wanted_of c.args.wanted c.args.from to link, words) in
    ap Some c.wanted_of.ensures ∙ ap (λ (words : List (List ℕ)). all_of (moved c.in_ok-to.to c.in_ok-link.link words)) (sym (c.if-is_empty.ensures.0 refl))
    ∙ ap (λ (read : Read ℕ). all_of (behind read (moved c.in_ok-to.to))) c.in_ok-link.ensures
    ∙ ap (λ (read : Read ℕ). all_of (behind read (λ to words. behind (number_first largest_u8 words) (moved to)))) c.in_ok-to.ensures
