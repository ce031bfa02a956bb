-- Codings of pairs and endpoints as tuples of their fields, for the `coded` of models. They state no rule
-- of the protocol.
use Rattle.std.specs.Prelude.{ℕ, Bool, List, refl}
use Rattle.std.specs.Coded.{Coded, code_by, coded×, coded_ℕ, coded_bool, coded_list}
use Rattle.ncp_model.specs.declared.pair.Pair.{Pair}
use Rattle.ncp_model.specs.Endpoint.{Endpoint}

abbrev pub coded_pair : Coded Pair
coded_pair = code_by (ℕ × ℕ) (coded× coded_ℕ coded_ℕ) (λ p. (p.local, p.remote)) (λ n. record { local = n.0; remote = n.1 }) (λ _. refl)

abbrev pub coded_end : Coded Endpoint
coded_end =
    code_by
    (Bool × (Bool × (Bool × (Bool × (Bool × (Bool × (ℕ × (ℕ × (ℕ × (ℕ × (List Bool × (ℕ × (Bool × (Bool × ℕ))))))))))))))
    (coded× coded_bool (coded× coded_bool (coded× coded_bool (coded× coded_bool (coded× coded_bool (coded× coded_bool (coded× coded_ℕ (coded× coded_ℕ (coded× coded_ℕ (coded× coded_ℕ (coded× (coded_list coded_bool) (coded× coded_ℕ (coded× coded_bool (coded× coded_bool coded_ℕ))))))))))))))
    (λ e. (e.asked, (e.heard, (e.opened, (e.leaving, (e.left, (e.cls, (e.link, (e.size, (e.messages, (e.bits, (e.stored, (e.room, (e.busy, (e.recall, e.interrupts)))))))))))))))
    (λ p. record {
      asked = p.0;
      heard = p.1.0;
      opened = p.1.1.0;
      leaving = p.1.1.1.0;
      left = p.1.1.1.1.0;
      cls = p.1.1.1.1.1.0;
      link = p.1.1.1.1.1.1.0;
      size = p.1.1.1.1.1.1.1.0;
      messages = p.1.1.1.1.1.1.1.1.0;
      bits = p.1.1.1.1.1.1.1.1.1.0;
      stored = p.1.1.1.1.1.1.1.1.1.1.0;
      room = p.1.1.1.1.1.1.1.1.1.1.1.0;
      busy = p.1.1.1.1.1.1.1.1.1.1.1.1.0;
      recall = p.1.1.1.1.1.1.1.1.1.1.1.1.1.0;
      interrupts = p.1.1.1.1.1.1.1.1.1.1.1.1.1.1;
    })
    (λ _. refl)
