use Rattle.std.proofs.Common.{◌≡◌, ◌∷◌, ℕ, Bool, false, List, Option, None, if◌then◌else◌, codes, sym, ap, ◌∙◌}
use Rattle.std.proofs.lemmas.Result.{IfOk-weaker}
use Rattle.std.specs.Str.{bytes_eq}
use Rattle.ncp_transcript_many.specs.declared.many_event.ManyEvent.TheVariants as events
use Rattle.ncp_play_script.specs.HostLines.{alone}
use Rattle.ncp_transcript_two.specs.declared.note.Move.{Move}
use Rattle.ncp_play_world_lines.specs.Moves.{move_named}
use Rattle.ncp_play_world_lines.specs.ManyLines.{many_call_line, many_move_or_call, many_asked_of}
use Rattle.ncp_play_world_lines.proofs.Turned.{counterpart}
use Rattle.ncp_play_world_lines.proofs.many_lines.asked_of.Goals as goal

-- a line that asks for no output and no move is a call
line-of : (hosts : List ℕ) (host : ℕ) (word : List ℕ) (words : List (List ℕ)) → bytes_eq (codes "out") word ≡ false → move_named word ≡ None → many_asked_of hosts host (word ∷ words) ≡ many_call_line hosts host (word ∷ words)
line-of hosts host word words is-out none =
    ap (λ (b : Bool). if b then alone (events.Out host) words else many_move_or_call hosts host (move_named word) word words) is-out
    ∙ ap (λ (m : Option Move). many_move_or_call hosts host m word words) none

pub returns-clause-event : goal.returns-clause-event
returns-clause-event c =
    let read : many_asked_of c.args.hosts.now c.args.host c.args.words.now ≡ many_call_line c.args.hosts.now c.args.host (c.in-Some.word.now ∷ c.next_word.new.self) =
    ap (many_asked_of c.args.hosts.now c.args.host) c.in-Some.ensures ∙ line-of c.args.hosts.now c.args.host c.in-Some.word.now c.next_word.new.self
    (counterpart c.in-Some.word.now (codes "out") (sym c.eq.ensures ∙ c.if-eq.false)) (sym c.move_named.ensures ∙ c.in_default-move_named.is) in
    IfOk-weaker c.call_line.result (λ event. event ≡ many_call_line c.args.hosts.now c.args.host (c.in-Some.word.now ∷ c.next_word.new.self)) (λ event. event ≡ many_asked_of c.args.hosts.now c.args.host c.args.words.now) (λ event e. e ∙ sym read) c.call_line.ensures.event
