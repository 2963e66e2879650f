use Rattle.fk_codec.proofs.Written.{whole_written}
use Rattle.fk_codec.proofs.writing.encode.Goals as goal

pub returns : goal.returns
returns c = (
  c.keep_rules.ensures,
  whole_written c.args.fields.now c.in_ok-text.text c.put_front.new.out c.put_digest.new.out c.in_ok-text.ensures c.in_ok-put_front.ensures
      c.in_ok-put_digest.ensures,
)
