use Rattle.std.proofs.Common.{◌≡◌, ℕ, List, [], ◌++◌, Option, option_map, sym, ap, ◌∙◌}
use Rattle.ncp_play_script.specs.FirstLines.{numbers_of_words, few}
use Rattle.ncp_play_script.proofs.Peers.{one_read, all_read, first_read, is_taken, one_fits}
use Rattle.ncp_play_script.proofs.first_lines.peers_of.Goals as goal

pub returns : goal.returns
returns c =
    let read = c.loop-words.peers.items in
    let none : c.loop-words.words ≡ [] = c.is_empty.ensures.0 c.loop-words-test.false in
    sym (c.loop-words.invariant.read ∙ ap (λ words. few (option_map (λ behind. read ++ behind) (numbers_of_words words))) none ∙ all_read read c.loop-words.invariant.room)

pub loop-words-preserved : goal.loop-words-preserved
loop-words-preserved c =
    let read = c.loop-words.peers.items in
    let number = c.in_ok-peer.peer in
    let behind = c.next_u8.new.self in
    let taken = is_taken c.try_push.result c.ok.result c.in_ok-ok.field-0 c.ok.ensures.value c.in_ok-ok.was c.try_push.ensures.ok in
    record {
      read = c.loop-words.invariant.read
          ∙ ap (λ (numbers : Option (List ℕ)). few (option_map (λ rest. read ++ rest) numbers)) (first_read c.loop-words.words behind number c.in_ok-peer.ensures)
          ∙ ap few (one_read read number (numbers_of_words behind))
          ∙ ap (λ (items : List ℕ). few (option_map (λ rest. items ++ rest) (numbers_of_words behind))) (sym taken.1);
      room = one_fits read c.try_push.new.self.items number taken.1 (c.try_push.ensures.variant.0 taken.0);
    }
