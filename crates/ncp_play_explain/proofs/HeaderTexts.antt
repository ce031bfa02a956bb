-- What is printed of a header, case by case.
use Rattle.std.proofs.Common.{◌≡◌, ◌==◌, ℕ, true, false, List, ◌++◌, length, get_or, nat_eq, nat_lt, refl, codes, decimal, append_assoc, ◌∙◌}
use Rattle.std.specs.List.{starts_with}
use Rattle.ncp_play_explain.specs.Headers.{wanted, beginning, is_hexadecimal, message_header_printed}

shape : (n : List ℕ) → codes "there are " ++ n ++ codes " bytes: " ++ wanted ≡ codes "there are " ++ (n ++ (codes " bytes: " ++ wanted))
shape n = append_assoc (codes "there are " ++ n) (codes " bytes: ") wanted ∙ append_assoc (codes "there are ") n (codes " bytes: " ++ wanted)

module _ (head : List ℕ) (some : (length head == 0) ≡ false) where
  pub printed_host : starts_with nat_eq head (codes "host ") ≡ true → message_header_printed head ≡ codes "this is a script of one host: ncp host plays it"
  printed_host h = rw (some, h) refl

  pub printed_hosts : starts_with nat_eq head (codes "host ") ≡ false → starts_with nat_eq head (codes "hosts ") ≡ true → message_header_printed head ≡ codes "this is a script of several hosts: ncp world plays it"
  printed_hosts h k = rw (some, h, k) refl

  pub printed_many : starts_with nat_eq head (codes "host ") ≡ false → starts_with nat_eq head (codes "hosts ") ≡ false → starts_with nat_eq head (codes "many ") ≡ true → message_header_printed head ≡ codes "this is a script of several hosts: ncp world plays it"
  printed_many h k m = rw (some, h, k, m) refl

  pub printed_hexadecimal : starts_with nat_eq head (codes "host ") ≡ false → starts_with nat_eq head (codes "hosts ") ≡ false → starts_with nat_eq head (codes "many ") ≡ false → is_hexadecimal head ≡ true → message_header_printed head ≡ codes "this is hexadecimal text; 'xxd -r -p' makes bytes of it: " ++ wanted
  printed_hexadecimal h k m x = rw (some, h, k, m, x) refl

  pub printed_short : starts_with nat_eq head (codes "host ") ≡ false → starts_with nat_eq head (codes "hosts ") ≡ false → starts_with nat_eq head (codes "many ") ≡ false → is_hexadecimal head ≡ false → nat_lt (length head) 4 ≡ true → message_header_printed head ≡ codes "there are " ++ (decimal (length head) ++ (codes " bytes: " ++ wanted))
  printed_short h k m x s = rw (some, h, k, m, x, s) (shape (decimal (length head)))

  pub printed_bytes : starts_with nat_eq head (codes "host ") ≡ false → starts_with nat_eq head (codes "hosts ") ≡ false → starts_with nat_eq head (codes "many ") ≡ false → is_hexadecimal head ≡ false → nat_lt (length head) 4 ≡ false → message_header_printed head ≡ beginning (get_or head 0 0) (get_or head 1 0) (get_or head 2 0) (get_or head 3 0)
  printed_bytes h k m x s = rw (some, h, k, m, x, s) refl
