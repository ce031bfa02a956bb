use Rattle.std.proofs.Common.{◌≡◌, ◌≤◌, ℕ, ◌+◌, Bool, List, [], ◌∷◌, length, sym, ◌∙◌, subst, arith}
use Rattle.ncp_model.specs.Pairs.{counterpart}
use Rattle.ncp_transcript_two.specs.Between.{other}
use Rattle.ncp_pipe.specs.Accounts.{ArePrefixes}
use Rattle.ncp_example_file.proofs.Texts.{whole}
use Rattle.ncp_example_file.proofs.OneConnection.{given-is, taken-is}
use Rattle.ncp_example_file.proofs.laws.what_both_say_is_so.Goals as goal

of-both : (ts gs : List (List Bool)) (t g : List Bool) → ts ≡ t ∷ [] ∷ [] → gs ≡ g ∷ [] ∷ [] → ArePrefixes ts gs → ArePrefixes (t ∷ [] ∷ []) (g ∷ [] ∷ [])
of-both ts gs t g e f p = subst (λ (x : List (List Bool)). ArePrefixes x (g ∷ [] ∷ [])) e (subst (λ (y : List (List Bool)). ArePrefixes ts y) f p)

nothing-missing : (n m : ℕ) → n ≤ m + 0 → n ≤ m
nothing-missing n m h = omega arith

pub returns : goal.returns
returns g c side pair text s k =
    let it : List Bool = k.1.0 in
    let once = c.each_bit_is_taken_once_ever.ensures c.args.world.now.notes c.args.world.now.hosts c.transcript-notes.ensures.run side pair s in
    let p : ArePrefixes (it ∷ [] ∷ []) (text ∷ [] ∷ []) = of-both _ _ it text k.1.2 k.0 once in
    let e : text ≡ it = whole it text p (nothing-missing (length text) (length it) k.1.1) in
    (given-is side pair text c.args.world.now.notes k.0, taken-is (other side) (counterpart pair) it c.args.world.now.notes k.1.2 ∙ sym e)
