use Rattle.std.proofs.Common.{◌≡◌, ◌∷◌, ℕ, Bool, false, List, Option, None, if◌then◌else◌, codes, sym, ap, ◌∙◌}
use Rattle.std.proofs.lemmas.Result.{IfOk-weaker}
use Rattle.std.specs.Str.{bytes_eq}
use Rattle.ncp_play_script.specs.declared.first_lines.TwoHosts.{TwoHosts}
use Rattle.ncp_play_script.specs.HostLines.{alone}
use Rattle.ncp_transcript_two.specs.declared.side.Side.{Side}
use Rattle.ncp_transcript_two.specs.declared.note.Move.{Move}
use Rattle.ncp_transcript_two.specs.declared.event.Event.TheVariants as events
use Rattle.ncp_play_world_lines.specs.Moves.{move_named}
use Rattle.ncp_play_world_lines.specs.WorldLines.{call_event_of, move_or_call, event_asked_of}
use Rattle.ncp_play_world_lines.proofs.Turned.{counterpart}
use Rattle.ncp_play_world_lines.proofs.world_lines.asked_of.Goals as goal

-- a line that asks for no output and no move is a call
line-of : (hosts : TwoHosts) (side : Side) (word : List ℕ) (words : List (List ℕ)) → bytes_eq (codes "out") word ≡ false → move_named word ≡ None → event_asked_of hosts side (word ∷ words) ≡ call_event_of hosts side (word ∷ words)
line-of hosts side word words is-out none =
    ap (λ (b : Bool). if b then alone (events.Out side) words else move_or_call hosts side (move_named word) word words) is-out
    ∙ ap (λ (m : Option Move). move_or_call hosts side m word words) none

pub returns-clause-event : goal.returns-clause-event
returns-clause-event c =
    let read : event_asked_of c.args.hosts c.args.side c.args.words.now ≡ call_event_of c.args.hosts c.args.side (c.in-Some.word.now ∷ c.next_word.new.self) =
    ap (event_asked_of c.args.hosts c.args.side) c.in-Some.ensures ∙ line-of c.args.hosts c.args.side c.in-Some.word.now c.next_word.new.self
    (counterpart c.in-Some.word.now (codes "out") (sym c.eq.ensures ∙ c.if-eq.false)) (sym c.move_named.ensures ∙ c.in_default-move_named.is) in
    IfOk-weaker c.call_line.result (λ event. event ≡ call_event_of c.args.hosts c.args.side (c.in-Some.word.now ∷ c.next_word.new.self)) (λ event. event ≡ event_asked_of c.args.hosts c.args.side c.args.words.now) (λ event e. e ∙ sym read) c.call_line.ensures.event
