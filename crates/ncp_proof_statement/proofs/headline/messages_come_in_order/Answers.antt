use Rattle.std.proofs.Common.{◌≡◌, ℕ, Bool, List, sym, subst}
use Rattle.ncp_proof_machine.specs.Resets.{This, That}
use Rattle.ncp_transcript_two.specs.Honest.{IsPrefixWithin}
use Rattle.ncp_transcript_two.specs.declared.side.Side.TheVariants.{A, B}
use Rattle.ncp_proof_statement.proofs.Delivering.{coming-same, sent-same}
use Rattle.ncp_proof_statement.proofs.headline.messages_come_in_order.Goals as goal

moved : (few : ℕ) (a b x y : List (List Bool)) → a ≡ x → b ≡ y → IsPrefixWithin few x y → IsPrefixWithin few a b
moved few a b x y p q k = subst (λ (l : List (List Bool)). IsPrefixWithin few l b) (sym p) (subst (λ (l : List (List Bool)). IsPrefixWithin few x l) (sym q) k)

pub returns : goal.returns
returns c ns w is A on = moved 1 _ _ _ _ (coming-same A on ns w is) (sent-same w.number_a A on ns w is) (c.transcripts_are_honest.ensures.came ns w is This on)
returns c ns w is B on = moved 1 _ _ _ _ (coming-same B on ns w is) (sent-same w.number_b B on ns w is) (c.transcripts_are_honest.ensures.came ns w is That on)
