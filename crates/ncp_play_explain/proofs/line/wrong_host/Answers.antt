-- With the numbers that the first line names.
use Rattle.std.proofs.Common.{◌≡◌, ◌&&◌, ◌++◌, ℕ, false, List, [], ◌∷◌, map, is_some, codes, refl, sym, ap, ◌∙◌}
use Rattle.std.specs.Borrow.{Bor}
use Rattle.std.specs.List.{join_by}
use Rattle.std.proofs.lemmas.List.Folds.{flat_map-map}
use Rattle.ncp_play_explain.specs.Arguments.{number_in}
use Rattle.ncp_play_explain.specs.Hosts.{is_named}
use Rattle.ncp_play_explain.proofs.line.wrong_host.Goals as goal

known : (hosts : List (Bor (List ℕ))) → join_by (λ one. one.now) (codes " ") hosts ≡ join_by (λ one. one) (codes " ") (map (λ one. one.now) hosts)
known [] = refl
known (host ∷ hosts) = ap (λ rest. host.now ++ rest) (sym (flat_map-map (λ one. codes " " ++ one) (λ one. one.now) hosts))

pub returns : goal.returns
returns c =
    let other : (is_some (number_in 255 c.args.host.now) && is_named c.args.host.now (map (λ word. word.now) c.args.hosts.now)) ≡ false = sym c.names_host.ensures ∙ c.if-names_host.false in
    rw other (rw (c.in_ok-known.ensures.ok ∙ known c.args.hosts.now) at c.format.ensures.ok)
