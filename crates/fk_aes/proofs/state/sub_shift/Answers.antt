use Rattle.std.proofs.Common.{◌≡◌, length, rules}
use Rattle.fk_aes.proofs.ByteLists.{list-elements}
use Rattle.fk_aes.proofs.StateWords.{shifted}
use Rattle.fk_aes.proofs.state.sub_shift.Goals as goal

pub returns : goal.returns
returns c =
    let four : length c.args.columns ≡ 4 = search rules in
    rw (list-elements c.args.columns 4 four)
    (shifted _ _ _ _ _ _ _ _ c.sub_column.ensures c.sub_column-2.ensures c.sub_column-3.ensures c.sub_column-4.ensures)
