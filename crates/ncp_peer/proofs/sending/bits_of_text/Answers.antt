use Rattle.std.proofs.Common.{◌≡◌, Ok, refl, sym, ◌∙◌}
use Rattle.ncp_numbers.specs.Bytes.{bits_of_bytes}
use Rattle.ncp_peer.proofs.Texts.{text_read}
use Rattle.ncp_peer.proofs.sending.bits_of_text.Goals as goal

pub unwrap-requires : goal.unwrap-requires
unwrap-requires c = rw c.from_bytes.ensures.read (rw (text_read c.args.bytes.now c.requires) refl)

pub returns-clause-bits : goal.returns-clause-bits
returns-clause-bits c = let e : Ok c.unwrap.result ≡ Ok (bits_of_bytes c.args.bytes.now) = sym c.unwrap.ensures ∙ c.from_bytes.ensures.read ∙ text_read c.args.bytes.now c.requires in cc

pub returns-clause-len : goal.returns-clause-len
returns-clause-len c = let l = rw c.unwrap.ensures at c.from_bytes.ensures.len in l
