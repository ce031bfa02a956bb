use Rattle.std.proofs.Common.{◌≡◌, ◌++◌, ℕ, List, Ok, ◌∙◌}
use Rattle.ncp_saved.specs.Values.{four_bytes}
use Rattle.ncp_peer.specs.declared.counts.Counts.{Counts}
use Rattle.ncp_peer.specs.SavedPeer.{counts_saved}
use Rattle.ncp_peer.specs.Loading.{three_saved}
use Rattle.ncp_peer.proofs.Regrouped.{counts_pieces}
use Rattle.ncp_peer.proofs.reading.read_counts.Goals as goal

pieces : (n : Counts) (reader rest : List ℕ) → reader ≡ counts_saved n ++ rest → reader ≡ three_saved (n.stray, n.faults, n.wrong_link) ++ (three_saved (n.wrong_size, n.not_up, n.late) ++ (four_bytes n.over ++ rest))
unfolding counts_saved
pieces n reader rest e = e ∙ counts_pieces (four_bytes n.stray) (four_bytes n.faults) (four_bytes n.wrong_link) (four_bytes n.wrong_size) (four_bytes n.not_up) (four_bytes n.late) (four_bytes n.over) rest

pub returns-in_err-stray : goal.returns-in_err-stray
returns-in_err-stray c = record {
  reads = λ n rest e. absurd (let read = c.read_three.ensures.reads (n.stray, n.faults, n.wrong_link) _ (pieces n c.args.reader.now rest e) in let was = c.in_err-stray.was in cc);
}

pub returns-in_err-wrong_size : goal.returns-in_err-wrong_size
returns-in_err-wrong_size c = record {
  reads = λ n rest e.
      let first = c.read_three.ensures.reads (n.stray, n.faults, n.wrong_link) _ (pieces n c.args.reader.now rest e) in
      absurd (let read = c.read_three-2.ensures.reads (n.wrong_size, n.not_up, n.late) (four_bytes n.over ++ rest) first.1 in let was = c.in_err-wrong_size.was in cc);
}

pub returns-in_err-over : goal.returns-in_err-over
returns-in_err-over c = record {
  reads = λ n rest e.
      let first = c.read_three.ensures.reads (n.stray, n.faults, n.wrong_link) _ (pieces n c.args.reader.now rest e) in
      let second = c.read_three-2.ensures.reads (n.wrong_size, n.not_up, n.late) (four_bytes n.over ++ rest) first.1 in
      absurd (let read = c.four_bytes.ensures.reads n.over rest second.1 in let was = c.in_err-over.was in cc);
}

pub returns : goal.returns
returns c = record {
  reads = λ n rest e.
      let first = c.read_three.ensures.reads (n.stray, n.faults, n.wrong_link) _ (pieces n c.args.reader.now rest e) in
      let second = c.read_three-2.ensures.reads (n.wrong_size, n.not_up, n.late) (four_bytes n.over ++ rest) first.1 in
      let third = c.four_bytes.ensures.reads n.over rest second.1 in
      let a : ◌≡◌ {A = ℕ × ℕ × ℕ} (c.in_ok-stray.stray, c.in_ok-stray.faults, c.in_ok-stray.wrong_link) (n.stray, n.faults, n.wrong_link) = (let was = c.in_ok-stray.was in let is = first.0 in cc) in
      let b : ◌≡◌ {A = ℕ × ℕ × ℕ} (c.in_ok-wrong_size.wrong_size, c.in_ok-wrong_size.not_up, c.in_ok-wrong_size.late) (n.wrong_size, n.not_up, n.late) = (let was = c.in_ok-wrong_size.was in let is = second.0 in cc) in
      let d : c.in_ok-over.over ≡ n.over = (let was = c.in_ok-over.was in let is = third.0 in cc) in
      (λ i. Ok (record { stray = (a i).0; faults = (a i).1; wrong_link = (a i).2; wrong_size = (b i).0; not_up = (b i).1; late = (b i).2; over = d i }), third.1);
}
