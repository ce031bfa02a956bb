use Rattle.std.proofs.Common.{◌≡◌, ◌++◌, ◌∷◌, [], Some, true, false, inl, inr, refl, sym, ap, ◌∙◌}
use Rattle.ncp_model.specs.Echo.{Echoes, no_echoes, hear_erp}
use Rattle.ncp_peer.proofs.Regrouped.{which_echoed}
use Rattle.ncp_peer.proofs.reading.read_echoed.Goals as goal

pub returns-in_err-mark : goal.returns-in_err-mark
returns-in_err-mark c = record {
  reads = λ echoed rest none e. elim (which_echoed echoed c.args.reader.now rest e) [
    | inl no_byte ↦ absurd (let read = c.mark.ensures.reads false rest no_byte.1 in let was = c.in_err-mark.was in cc)
    | inr one ↦ absurd (let read = c.mark.ensures.reads true ((one.0 ∷ []) ++ rest) one.2 in let was = c.in_err-mark.was in cc)
  ];
}

pub returns-then-not-branch : goal.returns-then-not-branch
returns-then-not-branch c = record {
  reads = λ echoed rest none e. elim (which_echoed echoed c.args.reader.now rest e) [
    | inl no_byte ↦ (refl, none ∙ ap (λ o. record no_echoes { echoed = o }) (sym no_byte.0), (c.mark.ensures.reads false rest no_byte.1).1)
    | inr one ↦ absurd (let read = c.mark.ensures.reads true ((one.0 ∷ []) ++ rest) one.2 in let was = c.in_ok-mark.was in let no = c.if-not-branch.true in cc)
  ];
}

pub returns-in_err-byte : goal.returns-in_err-byte
returns-in_err-byte c = record {
  reads = λ echoed rest none e. elim (which_echoed echoed c.args.reader.now rest e) [
    | inl no_byte ↦ absurd (let read = c.mark.ensures.reads false rest no_byte.1 in let was = c.in_ok-mark.was in let yes = c.if-not-branch.false in cc)
    | inr one ↦ absurd (let read = c.byte.ensures.reads one.0 rest (c.mark.ensures.reads true ((one.0 ∷ []) ++ rest) one.2).1 in let was = c.in_err-byte.was in cc)
  ];
}

pub returns : goal.returns
returns c = record {
  reads = λ echoed rest none e. elim (which_echoed echoed c.args.reader.now rest e) [
    | inl no_byte ↦ absurd (let read = c.mark.ensures.reads false rest no_byte.1 in let was = c.in_ok-mark.was in let yes = c.if-not-branch.false in cc)
    | inr one ↦
        let read = c.byte.ensures.reads one.0 rest (c.mark.ensures.reads true ((one.0 ∷ []) ++ rest) one.2).1 in
        let same : c.in_ok-byte.byte ≡ one.0 = (let was = c.in_ok-byte.was in let is = read.0 in cc) in (
          refl,
          c.hear_erp-stray.ensures.echoes
              ∙ ap (λ (s : Echoes). hear_erp c.in_ok-byte.byte s) (c.ask.ensures ∙ ap (λ (s : Echoes). record s { awaited = true }) none)
              ∙ ap (λ o. record no_echoes { echoed = o }) (ap Some same ∙ sym one.1),
          read.1,
        )
  ];
}
