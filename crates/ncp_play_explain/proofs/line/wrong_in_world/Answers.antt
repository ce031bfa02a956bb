-- The hosts that the first line names.
use Rattle.std.proofs.Common.{◌≡◌, ℕ, Bool, true, if◌then◌else◌, List, drop, map, Option, Some, None, IfOk, codes, nat_eq, sym, ap, ◌∙◌, subst}
use Rattle.std.specs.List.{starts_with}
use Rattle.std.specs.String.{string_bytes}
use Rattle.std.proofs.lemmas.Str.Pattern.{starts_text}
use Rattle.ncp_play_explain.specs.Hosts.{words_to_watch}
use Rattle.ncp_play_explain.specs.Lines.{PrintsOfWorld, numbers_named}
use Rattle.ncp_play_explain.specs.Printing.{words_of}
use Rattle.ncp_play_explain.proofs.line.wrong_in_world.Goals as goal

pub returns : goal.returns
returns c = λ _.
    let line = c.in-Ok.first.now in
    let hosts = c.hosts_named.ensures ∙ ap (λ words. words_to_watch (drop 1 (map (λ word. word.now) words))) c.as_slice.ensures.value ∙ ap (λ words. words_to_watch (drop 1 words)) c.in_ok-named.ensures in
    let many : starts_with nat_eq line (codes "many ") ≡ true = sym (starts_text c.starts_with.result (codes "many ") line c.starts_with.ensures.cases) ∙ c.if-not-starts_with.false in
    let named : Some (map (λ word. word.now) c.hosts_named.result.now) ≡ numbers_named c.args.first.now =
    ap Some hosts ∙ ap (λ (b : Bool). if b then Some (words_to_watch (drop 1 (words_of line))) else None) (sym many) ∙ ap numbers_named c.in-Ok.ensures.cases.0 in
    subst (λ (o : Option (List (List ℕ))). IfOk c.wrong_of_world-2.result (λ text. PrintsOfWorld o (map (λ word. word.now) c.args.words.now) (string_bytes text))) named c.wrong_of_world-2.ensures
