use Rattle.std.proofs.Common.{◌≡◌, ◌+◌, ◌++◌, ◌∙◌, true, false, inl, sym, ap, arith}
use Rattle.std.proofs.lemmas.Result.{err_from_is_err_and}
use Rattle.fk_base.specs.declared.keys.Keys.{Keys}
use Rattle.fk_packet.specs.Opens.{is_authentic}
use Rattle.fk_packet.specs.Private.{decode_refusal}
use Rattle.fk_packet.specs.Shape.{prefix}
use Rattle.fk_packet.proofs.Answered.{cipher_refused, kind_fits, letters_fit, letters_result, no_blocks, not_the, plain_fields, plain_refused, refused_mac, same_blocks, tested, the_memory}
use Rattle.fk_packet.proofs.opening.open_under.Goals as goal

pub split_mac-requires : goal.split_mac-requires
split_mac-requires g c = kind_fits c.args.keys.now.kind c.args.datagram.now c.requires

pub open_letters-requires : goal.open_letters-requires
open_letters-requires g c = letters_fit _ c.args.datagram.now c.split_mac.result.0.now c.requires c.split_mac.ensures.letters

pub returns-then-not-verify-clause-fault : goal.returns-then-not-verify-clause-fault
returns-then-not-verify-clause-fault g c =
    let wrong : is_authentic c.args.keys.now c.args.datagram.now ≡ false =
    tested c.args.keys.now c.args.datagram.now c.split_mac.result.0.now c.split_mac.result.1.now c.verify.result
    c.split_mac.ensures.letters c.split_mac.ensures.mac c.verify.ensures ∙ c.if-not-verify.true in
    inl (refused_mac c.args.keys.now c.args.datagram.now wrong)

pub returns-then-not-verify-clause-steps : goal.returns-then-not-verify-clause-steps
returns-then-not-verify-clause-steps g c =
    let wrong : is_authentic c.args.keys.now c.args.datagram.now ≡ false =
    tested c.args.keys.now c.args.datagram.now c.split_mac.result.0.now c.split_mac.result.1.now c.verify.result
    c.split_mac.ensures.letters c.split_mac.ensures.mac c.verify.ensures ∙ c.if-not-verify.true in
    let none = no_blocks c.args.keys.now c.args.datagram.now wrong in
    λ _. omega arith

pub returns-in_err-plain-clause-fault : goal.returns-in_err-plain-clause-fault
returns-in_err-plain-clause-fault g c =
    let p = err_from_is_err_and c.from_residual.result c.from_residual.ensures.1 in
    let right : is_authentic c.args.keys.now c.args.datagram.now ≡ true =
    tested c.args.keys.now c.args.datagram.now c.split_mac.result.0.now c.split_mac.result.1.now c.verify.result
    c.split_mac.ensures.letters c.split_mac.ensures.mac c.verify.ensures ∙ c.if-not-verify.false in
    let letters = letters_result c.as_slice.result.now (prefix ++ c.split_mac.result.0.now) c.in_err-plain.field-0.0 c.args.steps.now
    c.open_letters.new.steps c.open_letters.result c.in_err-plain.was c.open_letters.ensures.plain c.open_letters.ensures.steps
    c.open_letters.ensures.memory_steps in
    let all = cipher_refused c.args.keys.now c.args.datagram.now c.as_slice.result.now c.split_mac.result.0.now c.in_err-plain.field-0.0 c.args.steps.now
    c.open_letters.new.steps right (c.as_slice.ensures ∙ ap (λ (k : Keys). k.key) c.keys.ensures) c.split_mac.ensures.letters letters in
    rw (p.1, p.2) all.answer

pub returns-in_err-plain-clause-mac_steps : goal.returns-in_err-plain-clause-mac_steps
returns-in_err-plain-clause-mac_steps g c =
    let right : is_authentic c.args.keys.now c.args.datagram.now ≡ true =
    tested c.args.keys.now c.args.datagram.now c.split_mac.result.0.now c.split_mac.result.1.now c.verify.result
    c.split_mac.ensures.letters c.split_mac.ensures.mac c.verify.ensures ∙ c.if-not-verify.false in
    λ wrong. absurd (let both : true ≡ false = sym right ∙ wrong in cc)

pub returns-in_err-plain-clause-steps : goal.returns-in_err-plain-clause-steps
returns-in_err-plain-clause-steps g c =
    let p = err_from_is_err_and c.from_residual.result c.from_residual.ensures.1 in
    let right : is_authentic c.args.keys.now c.args.datagram.now ≡ true =
    tested c.args.keys.now c.args.datagram.now c.split_mac.result.0.now c.split_mac.result.1.now c.verify.result
    c.split_mac.ensures.letters c.split_mac.ensures.mac c.verify.ensures ∙ c.if-not-verify.false in
    let letters = letters_result c.as_slice.result.now (prefix ++ c.split_mac.result.0.now) c.in_err-plain.field-0.0 c.args.steps.now
    c.open_letters.new.steps c.open_letters.result c.in_err-plain.was c.open_letters.ensures.plain c.open_letters.ensures.steps
    c.open_letters.ensures.memory_steps in
    let all = cipher_refused c.args.keys.now c.args.datagram.now c.as_slice.result.now c.split_mac.result.0.now c.in_err-plain.field-0.0 c.args.steps.now
    c.open_letters.new.steps right (c.as_slice.ensures ∙ ap (λ (k : Keys). k.key) c.keys.ensures) c.split_mac.ensures.letters letters in
    λ never. all.steps (not_the c.from_residual.result c.in_err-plain.field-0.0 p.0 p.1 p.2 never)

pub returns-in_err-plain-clause-memory_steps : goal.returns-in_err-plain-clause-memory_steps
returns-in_err-plain-clause-memory_steps g c =
    let p = err_from_is_err_and c.from_residual.result c.from_residual.ensures.1 in
    let right : is_authentic c.args.keys.now c.args.datagram.now ≡ true =
    tested c.args.keys.now c.args.datagram.now c.split_mac.result.0.now c.split_mac.result.1.now c.verify.result
    c.split_mac.ensures.letters c.split_mac.ensures.mac c.verify.ensures ∙ c.if-not-verify.false in
    let letters = letters_result c.as_slice.result.now (prefix ++ c.split_mac.result.0.now) c.in_err-plain.field-0.0 c.args.steps.now
    c.open_letters.new.steps c.open_letters.result c.in_err-plain.was c.open_letters.ensures.plain c.open_letters.ensures.steps
    c.open_letters.ensures.memory_steps in
    let all = cipher_refused c.args.keys.now c.args.datagram.now c.as_slice.result.now c.split_mac.result.0.now c.in_err-plain.field-0.0 c.args.steps.now
    c.open_letters.new.steps right (c.as_slice.ensures ∙ ap (λ (k : Keys). k.key) c.keys.ensures) c.split_mac.ensures.letters letters in
    λ memory. all.memory_steps (the_memory c.from_residual.result c.in_err-plain.field-0.0 p.0 p.1 p.2 memory)

pub returns-in_err-decode-clause-fault : goal.returns-in_err-decode-clause-fault
returns-in_err-decode-clause-fault g c =
    let p = err_from_is_err_and c.from_residual-in_err-decode.result c.from_residual-in_err-decode.ensures.1 in
    let right : is_authentic c.args.keys.now c.args.datagram.now ≡ true =
    tested c.args.keys.now c.args.datagram.now c.split_mac.result.0.now c.split_mac.result.1.now c.verify.result
    c.split_mac.ensures.letters c.split_mac.ensures.mac c.verify.ensures ∙ c.if-not-verify.false in
    let all = plain_refused c.args.keys.now c.args.datagram.now c.as_slice.result.now c.split_mac.result.0.now c.in_ok-plain.plain c.as_slice-2.result.now
    c.in_err-decode.field-0.0 c.args.steps.now c.open_letters.new.steps right (c.as_slice.ensures ∙ ap (λ (k : Keys). k.key) c.keys.ensures) c.split_mac.ensures.letters
    c.in_ok-plain.ensures.plain (c.in_ok-plain.ensures.steps (λ e. cc)) c.as_slice-2.ensures c.in_err-decode.ensures.fault in
    rw (p.1, p.2) all.answer

pub returns-in_err-decode-clause-mac_steps : goal.returns-in_err-decode-clause-mac_steps
returns-in_err-decode-clause-mac_steps g c =
    let right : is_authentic c.args.keys.now c.args.datagram.now ≡ true =
    tested c.args.keys.now c.args.datagram.now c.split_mac.result.0.now c.split_mac.result.1.now c.verify.result
    c.split_mac.ensures.letters c.split_mac.ensures.mac c.verify.ensures ∙ c.if-not-verify.false in
    λ wrong. absurd (let both : true ≡ false = sym right ∙ wrong in cc)

pub returns-in_err-decode-clause-steps : goal.returns-in_err-decode-clause-steps
returns-in_err-decode-clause-steps g c =
    let p = err_from_is_err_and c.from_residual-in_err-decode.result c.from_residual-in_err-decode.ensures.1 in
    let right : is_authentic c.args.keys.now c.args.datagram.now ≡ true =
    tested c.args.keys.now c.args.datagram.now c.split_mac.result.0.now c.split_mac.result.1.now c.verify.result
    c.split_mac.ensures.letters c.split_mac.ensures.mac c.verify.ensures ∙ c.if-not-verify.false in
    let all = plain_refused c.args.keys.now c.args.datagram.now c.as_slice.result.now c.split_mac.result.0.now c.in_ok-plain.plain c.as_slice-2.result.now
    c.in_err-decode.field-0.0 c.args.steps.now c.open_letters.new.steps right (c.as_slice.ensures ∙ ap (λ (k : Keys). k.key) c.keys.ensures) c.split_mac.ensures.letters
    c.in_ok-plain.ensures.plain (c.in_ok-plain.ensures.steps (λ e. cc)) c.as_slice-2.ensures c.in_err-decode.ensures.fault in
    λ never. all.steps (not_the c.from_residual-in_err-decode.result (decode_refusal c.in_err-decode.field-0.0) p.0 p.1 p.2 never)

pub returns-in_err-decode-clause-memory_steps : goal.returns-in_err-decode-clause-memory_steps
returns-in_err-decode-clause-memory_steps g c =
    let p = err_from_is_err_and c.from_residual-in_err-decode.result c.from_residual-in_err-decode.ensures.1 in
    let right : is_authentic c.args.keys.now c.args.datagram.now ≡ true =
    tested c.args.keys.now c.args.datagram.now c.split_mac.result.0.now c.split_mac.result.1.now c.verify.result
    c.split_mac.ensures.letters c.split_mac.ensures.mac c.verify.ensures ∙ c.if-not-verify.false in
    let all = plain_refused c.args.keys.now c.args.datagram.now c.as_slice.result.now c.split_mac.result.0.now c.in_ok-plain.plain c.as_slice-2.result.now
    c.in_err-decode.field-0.0 c.args.steps.now c.open_letters.new.steps right (c.as_slice.ensures ∙ ap (λ (k : Keys). k.key) c.keys.ensures) c.split_mac.ensures.letters
    c.in_ok-plain.ensures.plain (c.in_ok-plain.ensures.steps (λ e. cc)) c.as_slice-2.ensures c.in_err-decode.ensures.fault in
    λ memory. all.memory_steps (the_memory c.from_residual-in_err-decode.result (decode_refusal c.in_err-decode.field-0.0) p.0 p.1 p.2 memory)

pub returns-clause-fault : goal.returns-clause-fault
returns-clause-fault g c =
    let right : is_authentic c.args.keys.now c.args.datagram.now ≡ true =
    tested c.args.keys.now c.args.datagram.now c.split_mac.result.0.now c.split_mac.result.1.now c.verify.result
    c.split_mac.ensures.letters c.split_mac.ensures.mac c.verify.ensures ∙ c.if-not-verify.false in
    plain_fields c.args.keys.now c.args.datagram.now c.as_slice.result.now c.split_mac.result.0.now c.in_ok-plain.plain c.as_slice-2.result.now c.in_ok-decode.field-0
    right (c.as_slice.ensures ∙ ap (λ (k : Keys). k.key) c.keys.ensures) c.split_mac.ensures.letters c.in_ok-plain.ensures.plain c.as_slice-2.ensures c.in_ok-decode.ensures.decoded

pub returns-clause-mac_steps : goal.returns-clause-mac_steps
returns-clause-mac_steps g c =
    let right : is_authentic c.args.keys.now c.args.datagram.now ≡ true =
    tested c.args.keys.now c.args.datagram.now c.split_mac.result.0.now c.split_mac.result.1.now c.verify.result
    c.split_mac.ensures.letters c.split_mac.ensures.mac c.verify.ensures ∙ c.if-not-verify.false in
    λ wrong. absurd (let both : true ≡ false = sym right ∙ wrong in cc)

pub returns-clause-steps : goal.returns-clause-steps
returns-clause-steps g c =
    let right : is_authentic c.args.keys.now c.args.datagram.now ≡ true =
    tested c.args.keys.now c.args.datagram.now c.split_mac.result.0.now c.split_mac.result.1.now c.verify.result
    c.split_mac.ensures.letters c.split_mac.ensures.mac c.verify.ensures ∙ c.if-not-verify.false in
    λ _. c.in_ok-plain.ensures.steps (λ e. cc) ∙ ap (λ n. c.args.steps.now + n) (same_blocks c.args.keys.now c.args.datagram.now c.split_mac.result.0.now right c.split_mac.ensures.letters)
