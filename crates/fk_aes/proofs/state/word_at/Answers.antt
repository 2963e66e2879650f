use Rattle.std.proofs.Common.{refl}
use Rattle.fk_aes.proofs.WordLemmas.{word_of_bytes}
use Rattle.fk_aes.proofs.state.word_at.Goals as goal

pub returns : goal.returns
returns c =
    word_of_bytes _ _ refl
    ((c.type_inv.bytes _).fits, ((c.type_inv.bytes _).fits, ((c.type_inv.bytes _).fits, ((c.type_inv.bytes _).fits, tt))))
    c.from_be_bytes.ensures
