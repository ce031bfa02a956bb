use Rattle.std.proofs.Common.{◌≡◌, ◌++◌, ◌∷◌, [], ℕ, Bool, List, Ok, map, ◌∙◌}
use Rattle.ncp_model.specs.Endpoint.{Endpoint}
use Rattle.ncp_saved.specs.Values.{mark, two_bytes, four_bytes, bits_saved}
use Rattle.ncp_peer.specs.SavedPeer.{end_saved}
use Rattle.ncp_peer.specs.Loading.{marks_saved, way_saved, three_saved}
use Rattle.ncp_peer.proofs.Regrouped.{record_pieces}
use Rattle.ncp_peer.proofs.reading.read_record.Goals as goal

-- what is behind the marks, and behind all numbers
stored_behind : Endpoint → List ℕ → List ℕ
stored_behind e rest = bits_saved e.stored ++ rest

numbers_behind : Endpoint → List ℕ → List ℕ
numbers_behind e rest = three_saved (e.bits, e.room, e.interrupts) ++ stored_behind e rest

pieces : (e : Endpoint) (reader rest : List ℕ) → reader ≡ end_saved e ++ rest → reader ≡ marks_saved (e.asked, e.heard, e.opened, e.leaving) ++ (marks_saved (e.left, e.cls, e.busy, e.recall) ++ (way_saved (e.link, e.size, e.messages) ++ numbers_behind e rest))
unfolding end_saved stored_behind numbers_behind
pieces e reader rest is =
    is ∙ record_pieces (map mark (e.asked ∷ e.heard ∷ e.opened ∷ e.leaving ∷ e.left ∷ e.cls ∷ e.busy ∷ e.recall ∷ [])) (e.link ∷ e.size ∷ two_bytes e.messages) (four_bytes e.bits) (four_bytes e.room) (four_bytes e.interrupts) (bits_saved e.stored) rest

pub returns-in_err-asked : goal.returns-in_err-asked
returns-in_err-asked c = record {
  reads = λ e rest is. absurd (let read = c.read_marks.ensures.reads (e.asked, e.heard, e.opened, e.leaving) _ (pieces e c.args.reader.now rest is) in let was = c.in_err-asked.was in cc);
}

pub returns-in_err-left : goal.returns-in_err-left
returns-in_err-left c = record {
  reads = λ e rest is.
      let first = c.read_marks.ensures.reads (e.asked, e.heard, e.opened, e.leaving) _ (pieces e c.args.reader.now rest is) in
      absurd (let read = c.read_marks-2.ensures.reads (e.left, e.cls, e.busy, e.recall) _ first.1 in let was = c.in_err-left.was in cc);
}

pub returns-in_err-link : goal.returns-in_err-link
returns-in_err-link c = record {
  reads = λ e rest is.
      let first = c.read_marks.ensures.reads (e.asked, e.heard, e.opened, e.leaving) _ (pieces e c.args.reader.now rest is) in
      let second = c.read_marks-2.ensures.reads (e.left, e.cls, e.busy, e.recall) _ first.1 in
      absurd (let read = c.read_way.ensures.reads (e.link, e.size, e.messages) _ second.1 in let was = c.in_err-link.was in cc);
}

pub returns-in_err-bits : goal.returns-in_err-bits
unfolding numbers_behind
returns-in_err-bits c = record {
  reads = λ e rest is.
      let first = c.read_marks.ensures.reads (e.asked, e.heard, e.opened, e.leaving) _ (pieces e c.args.reader.now rest is) in
      let second = c.read_marks-2.ensures.reads (e.left, e.cls, e.busy, e.recall) _ first.1 in
      let third = c.read_way.ensures.reads (e.link, e.size, e.messages) (numbers_behind e rest) second.1 in
      absurd (let read = c.read_three.ensures.reads (e.bits, e.room, e.interrupts) (stored_behind e rest) third.1 in let was = c.in_err-bits.was in cc);
}

pub returns : goal.returns
unfolding numbers_behind stored_behind
returns c = record {
  reads = λ e rest is.
      let first = c.read_marks.ensures.reads (e.asked, e.heard, e.opened, e.leaving) _ (pieces e c.args.reader.now rest is) in
      let second = c.read_marks-2.ensures.reads (e.left, e.cls, e.busy, e.recall) _ first.1 in
      let third = c.read_way.ensures.reads (e.link, e.size, e.messages) (numbers_behind e rest) second.1 in
      let fourth = c.read_three.ensures.reads (e.bits, e.room, e.interrupts) (stored_behind e rest) third.1 in
      let a : ◌≡◌ {A = Bool × Bool × Bool × Bool} (c.in_ok-asked.asked, c.in_ok-asked.heard, c.in_ok-asked.opened, c.in_ok-asked.leaving) (e.asked, e.heard, e.opened, e.leaving) = (let was = c.in_ok-asked.was in let same = first.0 in cc) in
      let b : ◌≡◌ {A = Bool × Bool × Bool × Bool} (c.in_ok-left.left, c.in_ok-left.cls, c.in_ok-left.busy, c.in_ok-left.recall) (e.left, e.cls, e.busy, e.recall) = (let was = c.in_ok-left.was in let same = second.0 in cc) in
      let d : ◌≡◌ {A = ℕ × ℕ × ℕ} (c.in_ok-link.link, c.in_ok-link.size, c.in_ok-link.messages) (e.link, e.size, e.messages) = (let was = c.in_ok-link.was in let same = third.0 in cc) in
      let f : ◌≡◌ {A = ℕ × ℕ × ℕ} (c.in_ok-bits.bits, c.in_ok-bits.room, c.in_ok-bits.interrupts) (e.bits, e.room, e.interrupts) = (let was = c.in_ok-bits.was in let same = fourth.0 in cc) in (
        λ i. Ok (
          record {
            end = c.args.end;
            asked = (a i).0;
            heard = (a i).1;
            opened = (a i).2;
            leaving = (a i).3;
            left = (b i).0;
            cls = (b i).1;
            link = (d i).0;
            size = (d i).1;
            messages = (d i).2;
            bits = (f i).0;
            stored = 0;
            busy = (b i).2;
            recall = (b i).3;
            interrupts = (f i).2;
          },
          (f i).1,
        ),
        fourth.1,
      );
}
