use Rattle.std.proofs.Common.{◌++◌, ◌∷◌, ℕ, ap, ◌∙◌, ◌≤◌, subst, arith}
use Rattle.fk_base.specs.declared.moment.TheConstants.{GREATEST_MOMENT}
use Rattle.std.specs.Int.{w16, w32, w64, to_be_bytes}
use Rattle.fk_ledger.specs.Payloads.{words_bytes}
use Rattle.fk_ledger.proofs.WordLists.{put_together}
use Rattle.fk_ledger.proofs.writing.write_record.Goals as goal

pub returns-clause-bytes : goal.returns-clause-bytes
returns-clause-bytes c =
    let item = c.args.item.now in
    put_together c.clear.new.self.items c.push_all.new.buffer.items c.push_digest.new.buffer.items c.push_all-2.new.buffer.items c.push_all-3.new.buffer.items c.push_all-4.new.buffer.items c.push_all-5.new.buffer.items c.push_reserved.new.self.items c.push_all-6.new.buffer.items c.push_words.new.buffer.items
    (to_be_bytes w64 item.id) item.digest.0 (to_be_bytes w64 item.stamp) (to_be_bytes w64 item.moment) (to_be_bytes w64 item.due) (to_be_bytes w32 item.ip.0) (to_be_bytes w16 item.pair.port) (words_bytes item.close) c.proto_number.result
    c.clear.ensures.items
    (c.push_all.ensures.items ∙ ap (λ x. c.clear.new.self.items ++ x) c.to_be_bytes.ensures)
    c.push_digest.ensures.items
    (c.push_all-2.ensures.items ∙ ap (λ x. c.push_digest.new.buffer.items ++ x) c.to_be_bytes-2.ensures)
    (c.push_all-3.ensures.items ∙ ap (λ x. c.push_all-2.new.buffer.items ++ x) (c.to_be_bytes-3.ensures ∙ ap (to_be_bytes w64) c.get.ensures.value))
    (c.push_all-4.ensures.items ∙ ap (λ x. c.push_all-3.new.buffer.items ++ x) c.to_be_bytes-4.ensures)
    (c.push_all-5.ensures.items ∙ ap (λ x. c.push_all-4.new.buffer.items ++ x) c.to_be_bytes-5.ensures)
    c.push_reserved.ensures.items
    (c.push_all-6.ensures.items ∙ ap (λ x. c.push_reserved.new.self.items ++ x) c.to_be_bytes-6.ensures)
    c.push_words.ensures.items
    ∙ ap (λ p. to_be_bytes w64 item.id ++ (item.digest.0 ++ (to_be_bytes w64 item.stamp ++ (to_be_bytes w64 item.moment ++ (to_be_bytes w64 item.due ++ (to_be_bytes w32 item.ip.0 ++ (p ∷ (to_be_bytes w16 item.pair.port ++ words_bytes item.close)))))))) c.proto_number.ensures

pub returns-clause-values : goal.returns-clause-values
returns-clause-values c = record {
  id = omega arith;
  digest = c.push_digest.ensures.bytes;
  stamp = c.requires.stamp;
  moment = subst (λ (n : ℕ). n ≤ GREATEST_MOMENT) c.get.ensures.value c.get.ensures.bound;
  due = omega arith;
  ip = omega arith;
  port = omega arith;
  close = c.requires.words;
}
