-- The tests of a shape, and what they say of the bytes.
use Rattle.std.proofs.Common.{◌≡◌, ℕ, true, false, List, ◌++◌, length, None, sym, ap, ◌∙◌}
use Rattle.std.specs.Prelude.{nat_eq, nat_le}
use Rattle.std.specs.List.{starts_with}
use Rattle.std.proofs.lemmas.Bool.{and_parts, leb-true, not-true}
use Rattle.std.proofs.lemmas.List.Sums.{AllPass-from_list_all}
use Rattle.fk_text.specs.Found.{is_letter}
use Rattle.fk_codec.proofs.TestLists.{all_hold}
use Rattle.fk_packet.specs.Shape.{prefix, shape_fault, shape_tests}
use Rattle.fk_packet.proofs.Law.{shape_packed}
use Rattle.fk_client.specs.Sent.{fields_of}
use Rattle.fk_exchange.specs.Request.{IsDatagramOf, Request}
use Rattle.fk_exchange.specs.Shape.{HasShape}

begun_by : (datagram rest : List ℕ) → starts_with nat_eq datagram prefix ≡ false → datagram ≡ prefix ++ rest → ⊥
begun_by datagram rest other is =
    let begins : starts_with nat_eq datagram prefix ≡ true = ap (λ (d : List ℕ). starts_with nat_eq d prefix) is in
    let no : true ≡ false = sym begins ∙ other in
    cc

pub shape_of : (datagram : List ℕ) → shape_fault datagram ≡ None → HasShape datagram
shape_of datagram none =
    let hold = all_hold (shape_tests datagram) none in
    let sizes = and_parts (nat_le 140 (length datagram)) (nat_le (length datagram) 1500) hold.0 in
    record {
      least = leb-true 140 (length datagram) sizes.0;
      most = leb-true (length datagram) 1500 sizes.1;
      letters = λ k d lt. AllPass-from_list_all is_letter datagram hold.1.0 k d lt;
      unprefixed = λ rest is. begun_by datagram rest (not-true (starts_with nat_eq datagram prefix) hold.1.1.0) is;
    }

pub sent_shape : (request : Request) (datagram : List ℕ) → IsDatagramOf request datagram → HasShape datagram
sent_shape request datagram sent =
    shape_of datagram (shape_packed request.settings.keys (fields_of request.settings request.moment request.drawn) datagram sent.0)
