-- Each request that a client can make has a datagram.
use Rattle.std.proofs.Common.{◌≡◌, ℕ, ◌+◌, ◌%◌, true, List, length, map, take, drop, refl, ◌∙◌, arith}
use Rattle.std.specs.Prelude.{nat_le}
use Rattle.std.proofs.lemmas.Bool.{le-leb}
use Rattle.std.proofs.lemmas.List.{length-drop, length-map, length-take}
use Rattle.fk_base.specs.Bytes.{HasBytes}
use Rattle.fk_base.specs.declared.moment.TheConstants.{GREATEST_MOMENT}
use Rattle.fk_fields.specs.FieldText.{is_user}
use Rattle.fk_fields.specs.Fields.{IsFields, has_timeout}
use Rattle.fk_fields.proofs.MessageParts.{digits_are}
use Rattle.fk_text.specs.Text.{text_of}
use Rattle.fk_codec.specs.Spells.{spelled}
use Rattle.fk_packet.specs.Packs.{Packs, datagram_of}
use Rattle.fk_client.specs.Sent.{fields_of}
use Rattle.fk_exchange.specs.Request.{IsDatagramOf, Request}
use Rattle.fk_exchange.specs.Sendable.{IsSendable}
use Rattle.fk_exchange.proofs.PlainBytes.{IsBytes-spelled}
use Rattle.fk_exchange.proofs.Sealed.{IsBytes-drop, sealed_with}

fields_are_right : (request : Request) → IsSendable request → IsFields (fields_of request.settings request.moment request.drawn)
fields_are_right request is =
    let rand = map (λ byte. 48 + byte % 10) (take 16 request.drawn) in
    let size : length rand ≡ 16 = length-map (take 16 request.drawn) (λ byte. 48 + byte % 10) ∙ (let all = is.drawn.size in omega (arith, length-take 16 request.drawn)) in
    let user : is_user request.settings.user ≡ true = request.settings.user_is_right in
    let stamp : nat_le request.moment GREATEST_MOMENT ≡ true = le-leb request.moment GREATEST_MOMENT is.moment in
    let timeout : has_timeout request.settings.ask ≡ true = request.settings.ask_is_right in
    record {
      rand = digits_are rand (take 16 request.drawn) size refl;
      address = is.settings.address;
      pairs = is.settings.pairs;
      checked = rw (user, stamp, timeout) refl;
    }

salt_is : (request : Request) → IsSendable request → HasBytes 8 (drop 16 request.drawn)
salt_is request is =
    let size : length request.drawn ≡ 24 = is.drawn.size in
    record { size = omega (arith, length-drop 16 request.drawn); each = IsBytes-drop 16 request.drawn is.drawn.each }

pub datagram_of_request : (request : Request) → IsSendable request → (datagram : List ℕ) × IsDatagramOf request datagram
datagram_of_request request is =
    let fields = fields_of request.settings request.moment request.drawn in
    let right = fields_are_right request is in
    let salt = drop 16 request.drawn in
    let sealed = sealed_with request.settings.keys.key salt (spelled fields) (salt_is request is) (IsBytes-spelled fields right) in
    let datagram = datagram_of request.settings.keys (text_of sealed.0) in
    let packs : Packs request.settings.keys fields datagram =
    record { plain = spelled fields; salt = salt; sealed = sealed.0; spells = (right, refl); seals = sealed.1; datagram_is = refl } in
    (datagram, (packs, refl))
