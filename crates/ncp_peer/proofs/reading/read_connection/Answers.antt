use Rattle.std.proofs.Common.{◌≡◌, ℕ, ◌≤◌, ◌++◌, List, length, sym, ap, ◌∙◌, arith}
use Rattle.std.specs.FinMap.{insert}
use Rattle.std.proofs.lemmas.List.{append_assoc}
use Rattle.std.proofs.lemmas.Result.{err_from_is_err_and}
use Rattle.ncp_model.specs.declared.pair.Pair.{Pair}
use Rattle.ncp_model.specs.Endpoint.{Endpoint}
use Rattle.ncp_conn.specs.declared.record.Record.{Record}
use Rattle.ncp_conn.specs.Restoring.{end_told, may_stand}
use Rattle.ncp_saved.specs.Values.{pair_saved}
use Rattle.ncp_peer.specs.SavedPeer.{end_saved, connection_saved}
use Rattle.ncp_peer.specs.Loading.{record_unstored}
use Rattle.ncp_peer.proofs.Regrouped.{is_read, is_none}
use Rattle.ncp_peer.proofs.TableRead.{can_room, can_none}
use Rattle.ncp_peer.proofs.reading.read_connection.Goals as goal

pieces : (p : Pair × Endpoint) (reader rest : List ℕ) → reader ≡ connection_saved p ++ rest → reader ≡ pair_saved p.0 ++ (end_saved p.1 ++ rest)
unfolding connection_saved
pieces p reader rest e = e ∙ append_assoc (pair_saved p.0) (end_saved p.1) rest

pub returns-in_err-pair : goal.returns-in_err-pair
returns-in_err-pair g c = record {
  reads = λ p rest possible stand e. absurd (let read = c.read_pair.ensures.reads p.0 (end_saved p.1 ++ rest) (pieces p c.args.reader.now rest e) in let was = c.in_err-pair.was in cc);
}

pub returns-in_err-record : goal.returns-in_err-record
returns-in_err-record g c = record {
  reads = λ p rest possible stand e.
      let first = c.read_pair.ensures.reads p.0 (end_saved p.1 ++ rest) (pieces p c.args.reader.now rest e) in
      absurd (let read = c.read_record.ensures.reads p.1 rest first.1 in let was = c.in_err-record.was in cc);
}

pub returns-in_err-store : goal.returns-in_err-store
returns-in_err-store g c = record {
  reads = λ p rest possible stand e.
      let first = c.read_pair.ensures.reads p.0 (end_saved p.1 ++ rest) (pieces p c.args.reader.now rest e) in
      let second = c.read_record.ensures.reads p.1 rest first.1 in
      let same : ◌≡◌ {A = Record × ℕ} (c.in_ok-record.record, c.in_ok-record.room) (record_unstored c.role_of.result p.1, p.1.room) = (let was = c.in_ok-record.was in let is = second.0 in cc) in
      let room : c.in_ok-record.room ≡ p.1.room = ap (λ (x : Record × ℕ). x.1) same in
      let fits : length p.1.stored ≤ c.in_ok-record.room = (let f = possible.fits in omega (arith, f, room)) in
      let small : c.in_ok-record.room ≤ 65536 = (let f = can_room p possible.can in omega (arith, f, room)) in
      let third = c.read_stored.ensures.reads p.1.stored rest fits small (λ none. room ∙ can_none p possible.can (sym (ap (λ (x : Record × ℕ). x.0.asked) same) ∙ none)) second.1 in
      let from = err_from_is_err_and c.from_residual-in_err-store.result c.from_residual-in_err-store.ensures.1 in
      rw (from.1, from.2) (is_none _ c.read_stored.result c.in_err-store.field-0.0 c.in_err-store.was third);
}

pub returns-in-Ok : goal.returns-in-Ok
returns-in-Ok g c = record {
  reads = λ p rest possible stand e.
      let first = c.read_pair.ensures.reads p.0 (end_saved p.1 ++ rest) (pieces p c.args.reader.now rest e) in
      let second = c.read_record.ensures.reads p.1 rest first.1 in
      let pair : c.in_ok-pair.pair ≡ p.0 = (let was = c.in_ok-pair.was in let is = first.0 in cc) in
      let same : ◌≡◌ {A = Record × ℕ} (c.in_ok-record.record, c.in_ok-record.room) (record_unstored c.role_of.result p.1, p.1.room) = (let was = c.in_ok-record.was in let is = second.0 in cc) in
      let room : c.in_ok-record.room ≡ p.1.room = ap (λ (x : Record × ℕ). x.1) same in
      let fits : length p.1.stored ≤ c.in_ok-record.room = (let f = possible.fits in omega (arith, f, room)) in
      let small : c.in_ok-record.room ≤ 65536 = (let f = can_room p possible.can in omega (arith, f, room)) in
      let third = c.read_stored.ensures.reads p.1.stored rest fits small (λ none. room ∙ can_none p possible.can (sym (ap (λ (x : Record × ℕ). x.0.asked) same) ∙ none)) second.1 in
      let store = is_read _ c.read_stored.result c.in_ok-store.store c.in_ok-store.was third in
      (c.in-Ok.ensures.ok ∙ (λ i. insert c.args.table.now (pair i) (end_told (same i).0 (store.0 i) ((store.1 ∙ room) i))), store.2);
}

pub returns-in-Err : goal.returns-in-Err
returns-in-Err g c = record {
  reads = λ p rest possible stand e.
      let first = c.read_pair.ensures.reads p.0 (end_saved p.1 ++ rest) (pieces p c.args.reader.now rest e) in
      let second = c.read_record.ensures.reads p.1 rest first.1 in
      let pair : c.in_ok-pair.pair ≡ p.0 = (let was = c.in_ok-pair.was in let is = first.0 in cc) in
      let same : ◌≡◌ {A = Record × ℕ} (c.in_ok-record.record, c.in_ok-record.room) (record_unstored c.role_of.result p.1, p.1.room) = (let was = c.in_ok-record.was in let is = second.0 in cc) in
      let room : c.in_ok-record.room ≡ p.1.room = ap (λ (x : Record × ℕ). x.1) same in
      let fits : length p.1.stored ≤ c.in_ok-record.room = (let f = possible.fits in omega (arith, f, room)) in
      let small : c.in_ok-record.room ≤ 65536 = (let f = can_room p possible.can in omega (arith, f, room)) in
      let third = c.read_stored.ensures.reads p.1.stored rest fits small (λ none. room ∙ can_none p possible.can (sym (ap (λ (x : Record × ℕ). x.0.asked) same) ∙ none)) second.1 in
      let store = is_read _ c.read_stored.result c.in_ok-store.store c.in_ok-store.was third in
      let may = (λ i. may_stand (pair i) (end_told (same i).0 (store.0 i) ((store.1 ∙ room) i)) c.args.table.now) ∙ stand in
      absurd (let no = c.in-Err.ensures.fits.1 may in cc);
}
