-- At every moment what was taken begins what is given.
use Rattle.std.proofs.Common.{◌≡◌, Bool, true, false, if◌then◌else◌, List, [], ◌++◌, refl, sym, ap, ◌∙◌, arith}
use Rattle.ncp_model.specs.declared.pair.Pair.{Pair}
use Rattle.ncp_model.specs.Pairs.{sends, receives, counterpart}
use Rattle.ncp_proof_endpoint.specs.Histories.{PairHistory, IsPrefix}
use Rattle.ncp_proof_machine.specs.Hosts.{past_of}
use Rattle.ncp_transcript_two.specs.declared.side.Side.{Side}
use Rattle.ncp_transcript_two.specs.declared.note.Note.{Note}
use Rattle.ncp_transcript_two.specs.Between.{Hosts, other}
use Rattle.ncp_transcript_two.specs.Transcript.{IsTranscript}
use Rattle.ncp_transcript_two.specs.OfRules.{histories_of}
use Rattle.ncp_statement.specs.Statement.{taken, given}
use Rattle.ncp_proof_statement.proofs.AllTaken.{all-kept}
use Rattle.ncp_proof_statement.proofs.GoingOn.{agree, Own, taken-told, given-is, none-before}
use Rattle.ncp_proof_statement.proofs.Walking.{mine}

-- a pair that does not send is, as the other host names it, none that receives
counterpart-not : (pair : Pair) → sends pair ≡ false → receives (counterpart pair) ≡ false
counterpart-not pair e = grind arith

counterpart-receives : (pair : Pair) → sends pair ≡ true → receives (counterpart pair) ≡ true
counterpart-receives pair e = grind arith

goes-on : (t rest past_given g : List Bool) (none : Bool) → t ++ rest ≡ past_given → past_given ≡ (if none then [] else g) → (more : List Bool) × (g ≡ t ++ more)
goes-on t rest past_given g true begins said = (g, ap (λ (x : List Bool). x ++ g) (sym (none-before t rest (begins ∙ said))))
goes-on t rest past_given g false begins said = (rest, sym said ∙ sym begins)

module _ (ns : List Note) (w : Hosts) (t : IsTranscript ns w) where
  taken-is-all : (side : Side) (q : Pair) → receives q ≡ true → taken side q ns ≡ (past_of (mine side (histories_of ns w)) q).taken
  taken-is-all side q r = taken-told ns w t side q ∙ ((all-kept q (Own ns w t side)).1 r).0 ∙ sym (ap (λ (x : PairHistory). x.taken) (agree ns w t side q))

  taken-is-none : (side : Side) (q : Pair) → receives q ≡ false → taken side q ns ≡ []
  taken-is-none side q r = taken-told ns w t side q ∙ (all-kept q (Own ns w t side)).0 r

  -- where the histories say so
  pub at-each-moment : (side : Side) (pair : Pair) → (sends pair ≡ true → IsPrefix (past_of (mine (other side) (histories_of ns w)) (counterpart pair)).taken (past_of (mine side (histories_of ns w)) pair).given)
      → (rest : List Bool) × (given side pair ns ≡ taken (other side) (counterpart pair) ns ++ rest)
  at-each-moment side pair begins = go (sends pair) refl
    where
      go : (b : Bool) → sends pair ≡ b → (rest : List Bool) × (given side pair ns ≡ taken (other side) (counterpart pair) ns ++ rest)
      go true s =
          let g = given-is ns w t side pair s in
          let k = begins s in
          goes-on (taken (other side) (counterpart pair) ns) k.0 _ (given side pair ns) g.0 (ap (λ (x : List Bool). x ++ k.0) (taken-is-all (other side) (counterpart pair) (counterpart-receives pair s)) ∙ k.1) g.1
      go false s = (given side pair ns, ap (λ (x : List Bool). x ++ given side pair ns) (sym (taken-is-none (other side) (counterpart pair) (counterpart-not pair s))))
