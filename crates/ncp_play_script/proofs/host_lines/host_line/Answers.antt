use Rattle.std.proofs.Common.{◌≡◌, ◌∷◌, ℕ, Bool, true, false, List, Option, if◌then◌else◌, codes, refl, sym, ap, ◌∙◌}
use Rattle.std.proofs.lemmas.Result.{IfOk-weaker}
use Rattle.std.specs.Str.{bytes_eq}
use Rattle.std.proofs.lemmas.Slice.Eq.{bytes_eq-Decides}
use Rattle.ncp_transcript.specs.declared.input.Input.TheVariants as inputs
use Rattle.ncp_play_script.specs.declared.host_lines.HostLine.{HostLine}
use Rattle.ncp_play_script.specs.declared.host_lines.HostLine.TheVariants.{Feed}
use Rattle.ncp_play_script.specs.HostLines.{alone, input_line, bits_line, restart_line, call_of_words, host_line_of}
use Rattle.ncp_play_script.proofs.host_lines.host_line.Goals as goal

differs : (a b : List ℕ) (is : Bool) → bytes_eq b a ≡ is → bytes_eq a b ≡ false → is ≡ false
differs a b false e differ = refl
differs a b true e differ = let same : a ≡ b = sym ((bytes_eq-Decides b a).0 e) in let is : bytes_eq a b ≡ true = (bytes_eq-Decides a b).1 same in absurd (cc)

-- two lists of bytes that differ, the other way round
counterpart : (a b : List ℕ) → bytes_eq a b ≡ false → bytes_eq b a ≡ false
counterpart a b differ = differs a b (bytes_eq b a) refl differ

-- a line that begins with none of the words of its own is a call
line-of : (peers : List ℕ) (word : List ℕ) (words : List (List ℕ)) → bytes_eq (codes "in") word ≡ false → bytes_eq (codes "out") word ≡ false → bytes_eq (codes "feed") word ≡ false → bytes_eq (codes "restart") word ≡ false
    → host_line_of peers (word ∷ words) ≡ call_of_words (word ∷ words)
line-of peers word words is-in is-out is-feed is-restart =
    let restart_or_call : Bool → Option HostLine = λ b. if b then restart_line peers words else call_of_words (word ∷ words) in
    let feed_or : Bool → Option HostLine = λ b. if b then alone Feed words else restart_or_call (bytes_eq (codes "restart") word) in
    let out_or : Bool → Option HostLine = λ b. if b then alone (input_line inputs.Out) words else feed_or (bytes_eq (codes "feed") word) in
    ap (λ (b : Bool). if b then bits_line words else out_or (bytes_eq (codes "out") word)) is-in ∙ ap out_or is-out ∙ ap feed_or is-feed ∙ ap restart_or_call is-restart

pub returns-clause-line : goal.returns-clause-line
returns-clause-line c =
    let word = c.in-Some.word.now in
    let read : host_line_of c.args.peers.now c.args.words.now ≡ call_of_words (word ∷ c.next_word.new.self) =
    ap (host_line_of c.args.peers.now) c.in-Some.ensures ∙ line-of c.args.peers.now word c.next_word.new.self
    (counterpart word (codes "in") (sym c.eq.ensures ∙ c.if-eq.false)) (counterpart word (codes "out") (sym c.eq-2.ensures ∙ c.if-eq-2.false)) (counterpart word (codes "feed") (sym c.eq-3.ensures ∙ c.if-eq-3.false)) (counterpart word (codes "restart") (sym c.eq-4.ensures ∙ c.if-eq-4.false)) in
    IfOk-weaker c.call_line.result (λ line. line ≡ call_of_words (word ∷ c.next_word.new.self)) (λ line. line ≡ host_line_of c.args.peers.now c.args.words.now) (λ line e. e ∙ sym read) c.call_line.ensures.line
