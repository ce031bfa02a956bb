use Rattle.std.proofs.Common.{◌≡◌, ◌++◌, ◌∷◌, [], ℕ, true, not, eqb, List, true≢false, refl, sym, ap, ◌∙◌, subst}
use Rattle.std.specs.Cmp.Lexicographic.{pointwise}
use Rattle.std.proofs.lemmas.Bool.Decides.{Decides-eqb}
use Rattle.std.proofs.lemmas.Slice.Eq.{slice_eq-Decides}
use Rattle.std.specs.Result.{IsOkAnd}
use Rattle.std.proofs.lemmas.Result.{err_from_is_err_and}
use Rattle.ncp_saved.specs.Values.{listed}
use Rattle.ncp_peer.proofs.Regrouped.{is_read, is_none}
use Rattle.ncp_host.specs.Host.{Host}
use Rattle.ncp_host.specs.Saved.{file_name, ignored_saved, peer_saved, saved}
use Rattle.ncp_host.proofs.PeersRead.{host_pieces}
use Rattle.ncp_host.proofs.host.loading.host_saved_as.Goals as goal

-- the same bytes do not differ
differ : (xs ys : List ℕ) → xs ≡ ys → true ≡ not (pointwise eqb xs ys) → ⊥
differ xs ys same e = true≢false (e ∙ ap not ((slice_eq-Decides Decides-eqb xs ys (pointwise eqb xs ys) refl).1 same))

abbrev behind : Host → List ℕ
behind h = h.me ∷ (ignored_saved h.ignored ++ (listed peer_saved h.peers ++ []))

pub returns-in_err-_name_and_version-clause-takes : goal.returns-in_err-_name_and_version-clause-takes
returns-in_err-_name_and_version-clause-takes g c = λ h is e.
    let t = c.take.ensures.bytes (file_name ++ 1 ∷ []) (behind h) refl (c.new-reader.ensures ∙ host_pieces h c.args.bytes.now e) in
    absurd (subst (λ r. IsOkAnd r (λ bytes. bytes.now ≡ file_name ++ 1 ∷ [])) c.in_err-_name_and_version.was t.0)

pub returns-in_err-host-clause-takes : goal.returns-in_err-host-clause-takes
returns-in_err-host-clause-takes g c = λ h is e.
    let t = c.take.ensures.bytes (file_name ++ 1 ∷ []) (behind h) refl (c.new-reader.ensures ∙ host_pieces h c.args.bytes.now e) in
    let from = err_from_is_err_and c.from_residual-in_err-host.result c.from_residual-in_err-host.ensures.1 in
    rw (from.1, from.2) (is_none _ c.read_host.result c.in_err-host.field-0.0 c.in_err-host.was (c.read_host.ensures.reads h [] is t.1))

pub returns-then-ne-clause-takes : goal.returns-then-ne-clause-takes
returns-then-ne-clause-takes g c = λ h is e.
    let t = c.take.ensures.bytes (file_name ++ 1 ∷ []) (behind h) refl (c.new-reader.ensures ∙ host_pieces h c.args.bytes.now e) in
    let host = is_read _ c.read_host.result c.in_ok-host.host c.in_ok-host.was (c.read_host.ensures.reads h [] is t.1) in
    let same : c.in_ok-again.again.items ≡ c.args.bytes.now = c.in_ok-again.ensures.saved ∙ ap saved host.0 ∙ sym e in
    absurd (differ c.as_slice.result.now c.args.bytes.now (c.as_slice.ensures.value ∙ same) c.if-ne.ensures)

pub returns-clause-takes : goal.returns-clause-takes
returns-clause-takes g c = λ h is e.
    let t = c.take.ensures.bytes (file_name ++ 1 ∷ []) (behind h) refl (c.new-reader.ensures ∙ host_pieces h c.args.bytes.now e) in
    (is_read _ c.read_host.result c.in_ok-host.host c.in_ok-host.was (c.read_host.ensures.reads h [] is t.1)).0
