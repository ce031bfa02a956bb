use Rattle.std.proofs.Common.{◌≡◌, ℕ, Bool, true, false, List, [], ◌∷◌, Option, Some, None, option_map, unwrap_or, if◌then◌else◌, sym, ap, subst, ◌∙◌}
use Rattle.std.proofs.lemmas.Result.{on_err_weaker}
use Rattle.ncp_host.specs.Host.{is_one_of}
use Rattle.ncp_play_script.specs.Words.{number_of_word, largest_u8}
use Rattle.ncp_play_script.specs.Calls.{Read, NamesGive, NamesGiveAfter}
use Rattle.ncp_play_world_lines.specs.ManyLines.{if_one_of, host_first}
use Rattle.ncp_play_world_lines.proofs.many_lines.many_line.Goals as goal

-- a host, and the words behind it
abbrev read : ℕ → List (List ℕ) → Read ℕ
read host rest = Some (host, rest)

-- the words behind a host, where the first word is one
rest-of : (words : List (List ℕ)) (host : ℕ) (rest : List (List ℕ)) (number : ℕ) (is : Bool) → read host rest ≡ (if is then read number words else None) → NamesGive rest → NamesGive words
rest-of words host rest number true e gives = subst NamesGive (ap (λ (o : Read ℕ). (unwrap_or o (host, rest)).1) e) gives
rest-of words host rest number false e gives = absurd (cc)

behind-number : (hosts : List ℕ) (words : List (List ℕ)) (host : ℕ) (rest : List (List ℕ)) (found : Option ℕ) → read host rest ≡ if_one_of hosts (option_map (λ number. (number, words)) found) → NamesGive rest → NamesGive words
behind-number hosts words host rest None e gives = absurd (cc)
behind-number hosts words host rest (Some number) e gives = rest-of words host rest number (is_one_of number hosts) e gives

behind-host : (hosts : List ℕ) (words : List (List ℕ)) (host : ℕ) (rest : List (List ℕ)) → read host rest ≡ host_first hosts words → NamesGive rest → NamesGiveAfter words
behind-host hosts [] host rest e gives = absurd (cc)
behind-host hosts (word ∷ words) host rest e gives = behind-number hosts words host rest (number_of_word largest_u8 word) e gives

pub returns-clause-memory : goal.returns-clause-memory
returns-clause-memory c =
    on_err_weaker c.asked_of.result (behind-host c.args.hosts.now c.args.words.now c.in-Some.host c.host_first.new.words (sym (ap (option_map (λ (host : ℕ). (host, c.host_first.new.words))) c.in-Some.is) ∙ c.host_first.ensures)) c.asked_of.ensures.memory
