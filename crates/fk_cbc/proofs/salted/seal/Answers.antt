use Rattle.std.proofs.Common.{◌≡◌, ℕ, ◌++◌, ◌-◌, ◌≤◌, length, take, ◌∙◌, sym, ap, arith}
use Rattle.std.proofs.lemmas.List.{length-append, length-drop, length-take, take_at}
use borrow.Rule.Slice.PartMut.{put_mid}
use Rattle.fk_base.specs.Bytes.{HasBytes}
use Rattle.fk_cbc.specs.Padding.{padded}
use Rattle.fk_cbc.specs.Seals.{salt_mark}
use Rattle.fk_cbc.proofs.SealLemmas.{Seals-from_writes, length-padded, put_mid-rest}
use Rattle.fk_cbc.proofs.salted.seal.Goals as goal

pub returns : goal.returns
returns c =
    let r = c.deref_mut.result.now in
    let new = c.seal_blocks.new.text in
    let written : r ≡ salt_mark ++ c.args.salt ++ padded c.args.plain.now = c.deref_mut.ensures.value ∙ c.in_ok-sealed.ensures.text in
    let long : 16 ≤ length r = omega (arith, ap length written, length-append c.args.salt (padded c.args.plain.now)) in
    let salt_is : HasBytes 8 c.args.salt = record { size = omega arith; each = c.in_ok-sealed.ensures.salt } in
    let size : length (put_mid 16 (length r - 16) r new) ≡ c.in_ok-sealed.sealed.len =
    ap length (put_mid-rest r new long) ∙ simp (length-append, length-take) (omega (arith, c.deref_mut.ensures.len, c.seal_blocks.auto.text, length-take {A = ℕ}, length-drop {A = ℕ})) in
    let out : c.into.result ≡ take 16 r ++ new =
    c.into.ensures ∙ take_at (put_mid 16 (length r - 16) r new) _ c.in_ok-sealed.sealed.len size ∙ put_mid-rest r new long in
    let total : length c.into.result ≡ length r = ap length out ∙ sym (ap length (put_mid-rest r new long)) ∙ size ∙ sym c.deref_mut.ensures.len in
    record {
      sealed =
          Seals-from_writes c.args.key.now c.args.salt c.args.plain.now c.new.result c.derive.result.1 r new c.into.result salt_is
          written (c.new.ensures ∙ c.derive.ensures.cipher_key) c.derive.ensures.initial_vector c.seal_blocks.ensures out;
      len = omega (arith, ap length written, length-append c.args.salt (padded c.args.plain.now), length-padded c.args.plain.now, total);
    }
